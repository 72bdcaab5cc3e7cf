-- The rows of messages: where a message stands, what it is to its item, its bytes, and a note.
use Rattle.std.specs.Prelude.{ℕ, ◌==◌, ◌&&◌, Bool, true, false, List, [], ◌++◌, codes, nat_lt, Option, Some, None, if◌then◌else◌}
use Rattle.std.specs.Fmt.{decimal}
use Rattle.direction.specs.declared.Dir.{Dir}
use Rattle.uds_message.specs.Message.{sid, response_code}
use Rattle.trace_report.specs.declared.row.MessagePlace.{MessagePlace}
use Rattle.trace_report.specs.declared.roles.MessageRole.{MessageRole}
use Rattle.trace_report.specs.Targets.{target_if}
use Rattle.trace_report.specs.declared.targets.LinkTarget.TheVariants.{Item}
use Rattle.uds_rules.specs.Rule.{RuleValue}
use Rattle.shown_bytes.specs.Data.{data_text, known_length}
use Rattle.trace_report.specs.Durations.{milliseconds_between, seconds_between}
use Rattle.trace_text.specs.Words.{direction_text, service_text}
use Rattle.shown_bytes.specs.StandardNames.{page_code}
use Rattle.trace_report.specs.Rows.{cell_front, cell_end, item_header, item_repeated, row_front}
use Rattle.trace_report.specs.Roles.{begins_item, asked_at}
use Rattle.trace_report.specs.declared.cells.Arrow.TheVariants as arrow
use Rattle.trace_report.specs.declared.roles.MessageRole.TheVariants as role

-- the class of the style by which a message is shown: what it is to its item
abbrev pub role_class : MessageRole → List ℕ
role_class role.Request = codes "q"
role_class (role.Positive asked) = codes "ok"
role_class (role.Negative asked) = codes "n"
role_class (role.Pending asked) = codes "p"
role_class role.KeepAlive = codes "p"
role_class role.Stray = codes "s"

-- the cell of its item in the row of a message of this role: as the header of the row, where the item begins with it
abbrev pub item_cell : MessageRole → ℕ → List ℕ
item_cell is number = if begins_item is then item_header number else item_repeated number

-- the lines of the log from one to a later one
abbrev pub several_lines : ℕ → ℕ → List ℕ
several_lines first last = decimal first ++ codes "&#8211;" ++ decimal last

-- the lines of the log from one to another
abbrev pub lines_text : ℕ → ℕ → List ℕ
lines_text first last = if first == last then decimal first else several_lines first last

-- the lines of the log from one to another, behind the word line or lines
abbrev pub named_lines : ℕ → ℕ → List ℕ
named_lines first last = (if first == last then codes "line " else codes "lines ") ++ lines_text first last

-- where a message stands: its item, its lines, and the time of its last frame since the time `origin`. The first row of
-- an item is its place, to which links lead or not.
abbrev pub message_front : Bool → ℕ → MessageRole → MessagePlace → List ℕ
message_front linked origin is place = row_front (record {
  class = role_class is;
  target = target_if (linked && begins_item is) (Item place.item);
  item = item_cell is place.item;
  lines = lines_text place.first.line place.last.line;
  time = seconds_between origin place.last.micros;
})

-- a request, by the name of its service
abbrev pub request_words : ℕ → List ℕ
request_words service = codes "<b>" ++ service_text service ++ codes "</b> <i>request</i> "

-- a negative answer, by the name of its response code
abbrev pub negative_words : ℕ → List ℕ
negative_words why = codes "<b>negative</b> <em>" ++ page_code why ++ codes "</em> "

-- a message of no exchange, by the side that sent it
abbrev pub stray_words : Dir → List ℕ
stray_words d = codes "<b>stray</b> <i>from the " ++ direction_text d ++ codes "</i> "

-- what a message is to its item, in words
abbrev pub role_words : MessageRole → Dir → List ℕ → List ℕ
role_words role.Request d bytes = request_words (sid bytes)
role_words (role.Positive asked) d bytes = codes "<b>positive</b> "
role_words (role.Negative asked) d bytes = negative_words (response_code bytes)
role_words (role.Pending asked) d bytes = codes "<b>pending</b> "
role_words role.KeepAlive d bytes = codes "<b>keep-alive</b> "
role_words role.Stray d bytes = stray_words d

-- the word of a message to all units; any other has none
abbrev pub functional_word : Bool → List ℕ
functional_word true = codes "<i>functional</i> "
functional_word false = []

-- how long after the last frame of its request the first frame of a reply came
abbrev pub after_text : ℕ → ℕ → List ℕ
after_text asked first = codes "after " ++ milliseconds_between asked first

-- how long after its request a reply came, as a note by itself
abbrev pub after_alone : ℕ → ℕ → List ℕ
after_alone asked first = codes " <i>" ++ after_text asked first ++ codes "</i>"

-- how long after its request a reply came, behind another note
abbrev pub after_other : ℕ → ℕ → List ℕ
after_other asked first = codes ", " ++ after_text asked first

-- a note on a message of one frame: how long after its request it came, if it replies to one
abbrev pub single_note : Option ℕ → ℕ → List ℕ
single_note None first = []
single_note (Some asked) first = after_alone asked first

-- how long after its request a message came, behind another note, if it replies to one
abbrev pub further_note : Option ℕ → ℕ → List ℕ
further_note None first = []
further_note (Some asked) first = after_other asked first

-- how many bytes several frames carry, where that is known
abbrev pub carried_words : Option ℕ → List ℕ
carried_words None = []
carried_words (Some count) = decimal count ++ codes " bytes "

-- a note on a message of several frames: how many bytes they carry, and how long after its request it came, if it
-- replies to one
abbrev pub frames_note : Option ℕ → ℕ → Option ℕ → ℕ → List ℕ
frames_note count frames asked first =
    codes "<br><i>" ++ carried_words count ++ codes "in " ++ decimal frames ++ codes " frames" ++ further_note asked first ++ codes "</i>"

-- the note on a message of so many bytes, by how many frames carry it
abbrev pub note_text : MessageRole → MessagePlace → Option ℕ → List ℕ
note_text is place count =
    if nat_lt 1 place.frames then frames_note count place.frames (asked_at is) place.first.micros else single_note (asked_at is) place.first.micros

-- A message as its row shows it.
pub record ShownMessage : Type 0 where
  -- whether links lead to the row
  pub linked : Bool
  -- the time of the first frame of the two sides
  pub origin : ℕ
  -- what it is to its item, which side sent it, and where it stands
  pub is : MessageRole
  pub d : Dir
  pub place : MessagePlace
  -- what it is, in words; its bytes, as they are shown; and how many it has, where that is known
  pub words : List ℕ
  pub bytes : List ℕ
  pub count : Option ℕ

-- the row of a message, as it is shown
abbrev pub shown_row : ShownMessage → List ℕ
shown_row shown =
    message_front shown.linked shown.origin shown.is shown.place ++ cell_front shown.d ++ shown.words
    ++ functional_word shown.place.is_functional ++ shown.bytes ++ note_text shown.is shown.place shown.count
    ++ cell_end shown.d arrow.Headed

-- the full row of a message that rules have left, where `origin` is the time of the first frame of the two sides
abbrev pub message_row : List RuleValue → ℕ → MessageRole → Dir → MessagePlace → List ℕ → List ℕ
message_row rules origin is d place bytes = shown_row (record {
  linked = true;
  origin = origin;
  is = is;
  d = d;
  place = place;
  words = role_words is d bytes;
  bytes = data_text rules bytes;
  count = known_length rules bytes;
})
