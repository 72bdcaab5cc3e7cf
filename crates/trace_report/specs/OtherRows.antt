-- The row of a positive answer that is other than was asked: it says what it answers, and what was asked.
use Rattle.std.specs.Prelude.{ℕ, ◌+◌, ◌==◌, List, ◌++◌, codes, None, if◌then◌else◌}
use Rattle.direction.specs.declared.Dir.{Dir}
use Rattle.uds_echo.specs.Repeated.{repeated_count}
use Rattle.uds_message.specs.Message.{sid}
use Rattle.uds_rules.specs.Rule.{RuleValue}
use Rattle.shown_bytes.specs.Data.{brief_data, data_text, known_length, piece_text}
use Rattle.trace_report.specs.Durations.{seconds_between}
use Rattle.trace_report.specs.MessageRows.{functional_word, lines_text, note_text}
use Rattle.trace_report.specs.Rows.{cell_end, cell_front, item_repeated, row_front}
use Rattle.trace_report.specs.declared.cells.Arrow.TheVariants as arrow
use Rattle.trace_report.specs.declared.roles.MessageRole.{MessageRole}
use Rattle.trace_report.specs.declared.row.MessagePlace.{MessagePlace}

-- the bytes of a request that an answer should repeat: of ReadDataByIdentifier all data identifiers that it asks for, as far as
-- a brief row shows them
abbrev pub asked_text : List RuleValue → List ℕ → ℕ → List ℕ
asked_text rules asked shown = if sid asked == 0x22 then brief_data rules asked else piece_text rules asked 0 shown

-- what the answer repeats, and what was asked, of which so many bytes are told
abbrev pub other_words : List RuleValue → List ℕ → List ℕ → ℕ → List ℕ
other_words rules asked bytes shown =
    codes "<b>positive</b> <em>answers " ++ piece_text rules bytes 0 shown ++ codes ", asked was " ++ asked_text rules asked shown ++ codes "</em> "

-- where such an answer stands, where `origin` is the time of the first frame of the two sides: it is shown as what needs attention
abbrev pub other_front : ℕ → MessagePlace → List ℕ
other_front origin place = row_front (record {
  class = codes "s";
  target = None;
  item = item_repeated place.item;
  lines = lines_text place.first.line place.last.line;
  time = seconds_between origin place.last.micros;
})

-- its row
abbrev pub other_row : List RuleValue → ℕ → List ℕ → MessageRole → Dir → MessagePlace → List ℕ → List ℕ
other_row rules origin asked is d place bytes =
    other_front origin place ++ cell_front d ++ other_words rules asked bytes (repeated_count asked bytes + 1) ++ functional_word place.is_functional
    ++ data_text rules bytes ++ note_text is place (known_length rules bytes) ++ cell_end d arrow.Headed
