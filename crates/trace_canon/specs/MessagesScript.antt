-- What `messages` writes: a line for each message that is delivered and that rules leave, in the order of delivery, in
-- words or as an object of JSON, with the places of the first frame of the message and of its last one.
use Rattle.std.specs.Prelude.{ℕ, ◌-◌, nat_le, Bool, true, false, List, [], ◌++◌, codes, Option, Some, None, if◌then◌else◌}
use Rattle.std.specs.Fmt.{decimal}
use Rattle.direction.specs.Dir.{Message}
use Rattle.isotp_receive.specs.Channels.{dir_of, is_functional}
use Rattle.isotp_receive.specs.Trace.{Entry}
use Rattle.isotp_receive.specs.Verdict.{VerdictValue, message, began, stored, flowed, dropped, verdict}
use Rattle.uds_rules.specs.Rule.{RuleValue, made_of}
use Rattle.trace_log.specs.Messages.{messages_under}
use Rattle.uds_exchange.specs.Judging.{sent, step_after, number_after}
use Rattle.uds_exchange.specs.declared.judge.Judged.{Judged}
use Rattle.uds_exchange.specs.declared.step.Step.{Step}
use Rattle.trace_text.specs.ItemLines.{echo_member}
use Rattle.trace_text.specs.Json.{Value, Members, nothing, member, object_line, value_text}
use Rattle.trace_text.specs.Json as json
use Rattle.trace_canon.specs.FirstFrames.{first_frame, place_of}
use Rattle.trace_canon.specs.OpenRequests.{ReplyValue, asked_after, reply_behind}
use Rattle.trace_canon.specs.declared.message_parts.FrameExtent.{FrameExtent}
use Rattle.trace_canon.specs.declared.message_parts.ToldReply.{ToldReply}
use Rattle.trace_text.specs.declared.notation.Notation.{Notation}
use Rattle.trace_text.specs.declared.notation.Notation.TheVariants.{Text, Json}
use Rattle.trace_run.specs.Script.{Script}
use Rattle.trace_text.specs.RuledText.{ruled_text}
use Rattle.trace_text.specs.Words.{direction_text, role_text, stamp_text}

-- the lines and the stamps of the first frame of a message and of its last one
abbrev pub extent_text : FrameExtent → List ℕ
extent_text extent =
    codes "lines " ++ decimal extent.first.line ++ codes " to " ++ decimal extent.last.line
    ++ codes " at " ++ stamp_text extent.first.micros ++ codes " to " ++ stamp_text extent.last.micros

-- A message that is delivered and that rules leave, with its item and its frames.
pub record PlacedMessage : Type 0 where
  -- the number of its item, and its step, which is its role in that item
  pub number : ℕ
  pub step : Step
  -- who sent it, and its bytes
  pub sent : Message
  -- its first frame and its last one
  pub extent : FrameExtent

-- a message that was judged, from its first frame to its last one
abbrev pub judged_at : Judged → FrameExtent → PlacedMessage
judged_at judged extent =
    record { number = judged.item_number; step = judged.step; sent = sent judged; extent = extent }

-- the line of a placed message in words
abbrev pub placed_line : List RuleValue → PlacedMessage → List ℕ
placed_line rules placed =
    decimal placed.number ++ codes " " ++ role_text placed.step ++ codes " " ++ direction_text placed.sent.0
    ++ codes " " ++ extent_text placed.extent ++ codes " " ++ ruled_text rules placed.sent.1 ++ codes "\n"

-- what marks a message to all units among the members of its object, and nothing else does
abbrev pub functional_member : Bool → Members → Members
functional_member true later = member (codes "functional") (json.truth true) later
functional_member false later = later

-- the mark as it is written behind another member
abbrev pub functional_mark : Bool → List ℕ
functional_mark to_all = if to_all then codes ",\"functional\":true" else []

-- what is told of a reply, as it is said
abbrev pub reply_value : ToldReply → ReplyValue
reply_value told = record { asked = told.asked; is_other = told.is_other }

-- the microseconds from one time to another, below zero where this is the earlier one
abbrev pub micros_between : ℕ → ℕ → Value
micros_between asked start = if nat_le asked start then json.number (start - asked) else json.below_zero (asked - start)

-- what is told of a reply whose first frame has this time among the members of its object: how many microseconds after
-- the last frame of its request it begins, and where an answer is other than was asked, this
abbrev pub reply_members : Option ReplyValue → ℕ → Members → Members
reply_members None start later = later
reply_members (Some reply) start later = member (codes "after_us") (micros_between reply.asked start) (echo_member reply.is_other later)

-- the same as it is written behind another member
abbrev pub reply_text : Option ReplyValue → ℕ → List ℕ
reply_text None start = []
reply_text (Some reply) start =
    codes ",\"after_us\":" ++ value_text (micros_between reply.asked start) ++ (if reply.is_other then codes ",\"echo\":false" else [])

-- the members of the object of a placed message, of which this is told as a reply
abbrev pub placed_members : List RuleValue → PlacedMessage → Option ReplyValue → Members
placed_members rules placed reply =
    member (codes "item") (json.number placed.number) (member (codes "role") (json.string (role_text placed.step))
    (member (codes "direction") (json.string (direction_text placed.sent.0))
    (member (codes "first_line") (json.number placed.extent.first.line)
    (member (codes "last_line") (json.number placed.extent.last.line)
    (member (codes "start") (json.string (stamp_text placed.extent.first.micros))
    (member (codes "end") (json.string (stamp_text placed.extent.last.micros))
    (reply_members reply placed.extent.first.micros
    (functional_member placed.extent.is_functional
    (member (codes "message") (json.string (ruled_text rules placed.sent.1)) nothing)))))))))

-- the line of a placed message in a notation; in words it is not told as a reply
abbrev pub placed_text : Notation → List RuleValue → PlacedMessage → Option ReplyValue → List ℕ
placed_text Text rules placed reply = placed_line rules placed
placed_text Json rules placed reply = object_line (placed_members rules placed reply)

-- a message that comes behind the messages M, as it is judged there, from its first frame to its last one
abbrev pub placed_behind : List Message → Message → Entry → Entry → PlacedMessage
placed_behind M sent first last =
    record {
      number = number_after M sent;
      step = step_after M sent;
      sent = sent;
      extent = record { first = place_of first; last = place_of last; is_functional = is_functional last.channel };
    }

-- what is told as a reply of a message that comes behind the frames T
abbrev pub told_reply : ℕ → List RuleValue → List Entry → Message → Option ReplyValue
told_reply limit rules T sent =
    reply_behind rules (asked_after limit rules T) (step_after (messages_under rules limit T) sent) sent.1

-- the line of the message that rules left of the one that the frame e completes after the frames T, if they left one
abbrev pub left_line : Notation → ℕ → List RuleValue → List Entry → Entry → Option (List ℕ) → List ℕ
left_line notation limit rules T e None = []
left_line notation limit rules T e (Some bytes) =
    placed_text notation rules (placed_behind (messages_under rules limit T) (dir_of e.channel, bytes) (first_frame T e) e)
    (told_reply limit rules T (dir_of e.channel, bytes))

-- the line of the message that the frame e completes after the frames T, where it does this
abbrev pub delivered_line : Notation → ℕ → List RuleValue → List Entry → Entry → VerdictValue → List ℕ
delivered_line notation limit rules T e (message bytes) = left_line notation limit rules T e (made_of rules bytes)
delivered_line notation limit rules T e began = []
delivered_line notation limit rules T e stored = []
delivered_line notation limit rules T e flowed = []
delivered_line notation limit rules T e (dropped reason) = []

-- what `messages` says: of each frame the line of the message that it completes, and nothing at the end
abbrev pub messages_script : Notation → ℕ → List RuleValue → Script
messages_script notation limit rules = record {
  strict = false;
  of_frame = λ T e. delivered_line notation limit rules T e (verdict limit T e).verdict;
  at_the_end = λ T summary. [];
}
