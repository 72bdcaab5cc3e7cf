-- The objects that are told have plain texts.
use Rattle.std.proofs.Common.{◌≡◌, ℕ, ◌+◌, Bool, true, false, true≢false, List, Option, Some, None, refl, sym, codes}
use Rattle.std.specs.List.{list_all}
use Rattle.std.specs.Prelude.{◌&&◌, ◌-◌, nat_le, slice_get, if◌then◌else◌}
use Rattle.direction.specs.declared.Dir.{Dir}
use Rattle.direction.specs.declared.Dir.TheVariants as dir
use Rattle.isotp_pdu.specs.declared.PduFault.{PduFault}
use Rattle.isotp_pdu.specs.declared.PduFault.TheVariants as pdu
use Rattle.isotp_receive.specs.declared.event.Cause.{Cause}
use Rattle.isotp_receive.specs.declared.event.Cause.TheVariants as cause
use Rattle.isotp_receive.specs.declared.event.Reason.{Reason}
use Rattle.isotp_receive.specs.declared.event.Reason.TheVariants as reason
use Rattle.uds_exchange.specs.Meaning.{ItemValue, exchange, stray}
use Rattle.uds_exchange.specs.declared.step.Step.{Step}
use Rattle.uds_exchange.specs.declared.step.Step.TheVariants as becomes
use Rattle.std.specs.Option.{option_map}
use Rattle.can_log.specs.declared.frame.Id.{Id}
use Rattle.uds_find.specs.Finding.{credit_line, id_text}
use Rattle.uds_message.specs.Message.{sid, is_negative_response, response_code, is_suppressing}
use Rattle.uds_rules.specs.Rule.{RuleValue}
use Rattle.trace_canon.specs.declared.comparer.Comparison.{Comparison}
use Rattle.trace_canon.specs.declared.comparer.Comparison.TheVariants.{Same, Different}
use Rattle.trace_text.specs.declared.item_style.Numbering.{Numbering}
use Rattle.trace_text.specs.declared.item_style.Numbering.TheVariants.{Shown, Hidden}
use Rattle.trace_text.specs.declared.remark.Remark.{Remark}
use Rattle.trace_text.specs.declared.remark.Remark.TheVariants as remark
use Rattle.trace_canon.specs.ComparisonText.{shown_members, shown_value, comparison_members}
use Rattle.trace_text.specs.RemarkLines.{cause_text, layout_fault_text, reason_members, remark_members}
use Rattle.trace_canon.specs.CreditLines.{credit_object}
use Rattle.trace_canon.specs.CreditLines as credit
use Rattle.uds_echo.specs.Echo.{answers_other}
use Rattle.trace_text.specs.Json.{Members, null, truth, number, below_zero, pair, string, object, nothing, member}
use Rattle.trace_text.specs.ItemLines.{answer_members, echo_member, outcome_members, item_members, item_object}
use Rattle.trace_canon.specs.MessagesScript.{functional_member, placed_members, reply_members}
use Rattle.trace_canon.specs.OpenRequests.{ReplyValue}
use Rattle.trace_text.specs.Words.{role_text}
use Rattle.trace_text.specs.RuledText.{ruled_text}
use Rattle.trace_text.specs.Words.{direction_text, service_text, code_text}
use Rattle.trace_text.proofs.Promises.{ruled_word, service_word, code_word}
use Rattle.json_reading.specs.Laws.{ItemsAreReadAsMeant, MessagesAreReadAsMeant, RemarksAreReadAsMeant, ComparisonsAreReadAsMeant, PairsAreReadAsMeant}
use Rattle.json_reading.proofs.PlainTexts.{IsPlain, is_plain, plain, word_plain, identifier_plain, stamp_plain}
use Rattle.json_reading.proofs.ReadTrees.{IsPlainValue, ArePlain, read_as_meant}

-- ---- the words between quotes

message_plain : (rules : List RuleValue) (message : List ℕ) → IsPlain (ruled_text rules message)
message_plain rules message = word_plain (ruled_text rules message) (ruled_word rules message)

direction_plain : (d : Dir) → IsPlain (direction_text d)
direction_plain dir.Tester = plain (codes "tester") refl
direction_plain dir.Unit = plain (codes "unit") refl

cause_plain : (c : Cause) → IsPlain (cause_text c)
cause_plain cause.NewStart = plain (codes "new start") refl
cause_plain cause.Overflow = plain (codes "overflow") refl
cause_plain cause.Late = plain (codes "late") refl
cause_plain cause.Sequence = plain (codes "sequence") refl
cause_plain cause.Length = plain (codes "length") refl

layout_fault_plain : (fault : PduFault) → IsPlain (layout_fault_text fault)
layout_fault_plain pdu.Remote = plain (codes "remote frame") refl
layout_fault_plain pdu.FrameLength = plain (codes "frame length") refl
layout_fault_plain pdu.Empty = plain (codes "empty frame") refl
layout_fault_plain pdu.UnknownKind = plain (codes "unknown kind") refl
layout_fault_plain pdu.SingleLength = plain (codes "single frame length") refl
layout_fault_plain pdu.FirstLength = plain (codes "first frame length") refl
layout_fault_plain pdu.FlowShort = plain (codes "flow control too short") refl
layout_fault_plain pdu.FlowStatus = plain (codes "flow control status") refl

-- ---- members of known words and of numbers

-- whether each key and each string is plain, by its bytes
abbrev all_plain : Members → Bool
all_plain nothing = true
all_plain (member key (number n) later) = list_all is_plain key && all_plain later
all_plain (member key (string text) later) = list_all is_plain key && (list_all is_plain text && all_plain later)
all_plain (member key other later) = false

and_both : (one other : Bool) → (one && other) ≡ true → (one ≡ true) × (other ≡ true)
and_both true other so = (refl, so)
and_both false other so = absurd (true≢false (sym so))

are_plain : (deep : ℕ) (members : Members) → all_plain members ≡ true → ArePlain deep members
are_plain deep nothing so = tt
are_plain deep (member key (number n) later) so =
    let both = and_both (list_all is_plain key) (all_plain later) so in
    (plain key both.0, tt, are_plain deep later both.1)
are_plain deep (member key (string text) later) so =
    let first = and_both (list_all is_plain key) (list_all is_plain text && all_plain later) so in
    let second = and_both (list_all is_plain text) (all_plain later) first.1 in
    (plain key first.0, plain text second.0, are_plain deep later second.1)
are_plain deep (member key null later) so = absurd (true≢false (sym so))
are_plain deep (member key (truth b) later) so = absurd (true≢false (sym so))
are_plain deep (member key (below_zero n) later) so = absurd (true≢false (sym so))
are_plain deep (member key (pair one other) later) so = absurd (true≢false (sym so))
are_plain deep (member key (object members) later) so = absurd (true≢false (sym so))

-- ---- items

-- members are plain behind the mark of an answer that is other than was asked, and without it
echo_plain : (deep : ℕ) (is_other : Bool) (later : Members) → ArePlain deep later → ArePlain deep (echo_member is_other later)
echo_plain deep true later is = (plain (codes "echo") refl, tt, is)
echo_plain deep false later is = is

answer_plain : (rules : List RuleValue) (deep : ℕ) (b : Bool) (request reply : List ℕ) → is_negative_response reply ≡ b
    → ArePlain deep (answer_members rules request reply)
answer_plain rules deep true request reply so =
    rw so (
      plain (codes "outcome") refl,
      plain (codes "negative") refl,
      (
        plain (codes "code") refl,
        word_plain (code_text (response_code reply)) (code_word (response_code reply)),
        (
          plain (codes "answer") refl,
          message_plain rules reply,
          tt,
        ),
      ),
    )
answer_plain rules deep false request reply so =
    rw so (
      plain (codes "outcome") refl,
      plain (codes "positive") refl,
      echo_plain deep (answers_other rules request reply) (member (codes "answer") (string (ruled_text rules reply)) nothing)
          (plain (codes "answer") refl, message_plain rules reply, tt),
    )

none_plain : (rules : List RuleValue) (deep : ℕ) (b : Bool) (request : List ℕ) → is_suppressing request ≡ b → ArePlain deep (outcome_members rules request None)
none_plain rules deep true request so = rw so (plain (codes "outcome") refl, plain (codes "silent") refl, tt)
none_plain rules deep false request so = rw so (plain (codes "outcome") refl, plain (codes "unanswered") refl, tt)

outcome_plain : (rules : List RuleValue) (deep : ℕ) (request : List ℕ) (reply : Option (List ℕ)) → ArePlain deep (outcome_members rules request reply)
outcome_plain rules deep request (Some reply) = answer_plain rules deep (is_negative_response reply) request reply refl
outcome_plain rules deep request None = none_plain rules deep (is_suppressing request) request refl

item_plain : (rules : List RuleValue) (deep : ℕ) (item : ItemValue) → ArePlain deep (item_members rules item)
item_plain rules deep (exchange request reply) = (
  plain (codes "kind") refl,
  plain (codes "exchange") refl,
  (
    plain (codes "service") refl,
    word_plain (service_text (sid request)) (service_word (sid request)),
    (
      plain (codes "request") refl,
      message_plain rules request,
      outcome_plain rules deep request reply,
    ),
  ),
)
item_plain rules deep (stray d bytes) = (
  plain (codes "kind") refl,
  plain (codes "stray") refl,
  (
    plain (codes "direction") refl,
    direction_plain d,
    (
      plain (codes "message") refl,
      message_plain rules bytes,
      tt,
    ),
  ),
)

numbered_plain : (rules : List RuleValue) (deep : ℕ) (numbering : Numbering) (n : ℕ) (item : ItemValue) → ArePlain deep (item_object rules numbering n item)
numbered_plain rules deep Shown n item = (plain (codes "item") refl, tt, item_plain rules deep item)
numbered_plain rules deep Hidden n item = item_plain rules deep item

pub items_are_read_as_meant : ItemsAreReadAsMeant
items_are_read_as_meant rules numbering n item = read_as_meant (item_object rules numbering n item) (numbered_plain rules 1 numbering n item)

-- ---- messages with their places

role_plain : (step : Step) → IsPlain (role_text step)
role_plain (becomes.Request service) = plain (codes "request") refl
role_plain becomes.Answer = plain (codes "answer") refl
role_plain becomes.Removed = plain (codes "pending") refl
role_plain becomes.Hold = plain (codes "stray") refl
role_plain becomes.Pass = plain (codes "stray") refl

functional_plain : (to_all : Bool) (message : List ℕ) → IsPlain message
    → ArePlain 1 (functional_member to_all (member (codes "message") (string message) nothing))
functional_plain true message is = (
  plain (codes "functional") refl,
  tt,
  (
    plain (codes "message") refl,
    is,
    tt,
  ),
)
functional_plain false message is = (
  plain (codes "message") refl,
  is,
  tt,
)

-- a time between others is a number, below zero or not
micros_plain : (deep : ℕ) (is_later : Bool) (one other : ℕ) → IsPlainValue deep (if is_later then number one else below_zero other)
micros_plain deep true one other = tt
micros_plain deep false one other = tt

reply_plain : (reply : Option ReplyValue) (began : ℕ) (later : Members) → ArePlain 1 later → ArePlain 1 (reply_members reply began later)
reply_plain None began later is = is
reply_plain (Some reply) began later is = (
  plain (codes "after_us") refl,
  micros_plain 1 (nat_le reply.asked began) (began - reply.asked) (reply.asked - began),
  echo_plain 1 reply.is_other later is,
)

pub messages_are_read_as_meant : MessagesAreReadAsMeant
messages_are_read_as_meant rules placed reply =
    read_as_meant (placed_members rules placed reply) (
      plain (codes "item") refl,
      tt,
      (
        plain (codes "role") refl,
        role_plain placed.step,
        (
          plain (codes "direction") refl,
          direction_plain placed.sent.0,
          (
            plain (codes "first_line") refl,
            tt,
            (
              plain (codes "last_line") refl,
              tt,
              (
                plain (codes "start") refl,
                stamp_plain placed.extent.first.micros,
                (
                  plain (codes "end") refl,
                  stamp_plain placed.extent.last.micros,
                  reply_plain reply placed.extent.first.micros _
                      (functional_plain placed.extent.is_functional (ruled_text rules placed.sent.1) (message_plain rules placed.sent.1)),
                ),
              ),
            ),
          ),
        ),
      ),
    )

-- ---- remarks

reason_plain : (why : Reason) → ArePlain 1 (reason_members why)
reason_plain (reason.Pdu fault) = (plain (codes "reason") refl, layout_fault_plain fault, tt)
reason_plain reason.FlowUnexpected = (plain (codes "reason") refl, plain (codes "flow control unexpected") refl, tt)
reason_plain reason.NextUnexpected = (plain (codes "reason") refl, plain (codes "consecutive frame unexpected") refl, tt)
reason_plain reason.NextLate = (plain (codes "reason") refl, plain (codes "consecutive frame late") refl, tt)
reason_plain (reason.NextSequence expected found) = (
  plain (codes "reason") refl,
  plain (codes "sequence number") refl,
  (
    plain (codes "expected") refl,
    tt,
    (
      plain (codes "found") refl,
      tt,
      tt,
    ),
  ),
)
reason_plain reason.NextLength = (plain (codes "reason") refl, plain (codes "consecutive frame length") refl, tt)
reason_plain reason.FunctionalNotSingle = (plain (codes "reason") refl, plain (codes "functional frame not single") refl, tt)
reason_plain (reason.TooLong announced) = (
  plain (codes "reason") refl,
  plain (codes "bytes announced") refl,
  (
    plain (codes "announced") refl,
    tt,
    tt,
  ),
)

remark_plain : (told : Remark) → ArePlain 1 (remark_members told)
remark_plain (remark.Ended line ended) = (
  plain (codes "line") refl,
  tt,
  (
    plain (codes "event") refl,
    plain (codes "ended") refl,
    (
      plain (codes "direction") refl,
      direction_plain ended.dir,
      (
        plain (codes "begun_line") refl,
        tt,
        (
          plain (codes "length") refl,
          tt,
          (
            plain (codes "cause") refl,
            cause_plain ended.cause,
            tt,
          ),
        ),
      ),
    ),
  ),
)
remark_plain (remark.Dropped line d why) = (
  plain (codes "line") refl,
  tt,
  (
    plain (codes "event") refl,
    plain (codes "dropped") refl,
    (
      plain (codes "direction") refl,
      direction_plain d,
      reason_plain why,
    ),
  ),
)
remark_plain (remark.Unfinished d line len) = (
  plain (codes "event") refl,
  plain (codes "unfinished") refl,
  (
    plain (codes "direction") refl,
    direction_plain d,
    (
      plain (codes "begun_line") refl,
      tt,
      (
        plain (codes "length") refl,
        tt,
        tt,
      ),
    ),
  ),
)
remark_plain (remark.Counts summary) = are_plain 0 (remark_members (remark.Counts summary)) refl

pub remarks_are_read_as_meant : RemarksAreReadAsMeant
remarks_are_read_as_meant told = read_as_meant (remark_members told) (remark_plain told)

-- ---- comparisons

shown_plain : (rules : List RuleValue) (n : ℕ) (item : Option ItemValue) → IsPlainValue 1 (shown_value rules n item)
shown_plain rules n (Some item) = numbered_plain rules 0 Shown n item
shown_plain rules n None = tt

both_plain : (rules : List RuleValue) (place : ℕ) (left right : List ItemValue) → ArePlain 1 (shown_members rules place left right)
both_plain rules place left right = (
  plain (codes "left") refl,
  shown_plain rules (place + 1) (slice_get left place),
  (
    plain (codes "right") refl,
    shown_plain rules (place + 1) (slice_get right place),
    tt,
  ),
)

comparison_plain : (rules : List RuleValue) (shows : Bool) (comparison : Comparison) (left right : List ItemValue)
    → ArePlain 1 (comparison_members rules shows comparison left right)
comparison_plain rules shows Same left right = (plain (codes "same") refl, tt, tt)
comparison_plain rules true (Different place) left right = (
  plain (codes "same") refl,
  tt,
  (
    plain (codes "item") refl,
    tt,
    both_plain rules place left right,
  ),
)
comparison_plain rules false (Different place) left right = (plain (codes "same") refl, tt, (plain (codes "item") refl, tt, tt))

pub comparisons_are_read_as_meant : ComparisonsAreReadAsMeant
comparisons_are_read_as_meant rules shows comparison left right =
    read_as_meant (comparison_members rules shows comparison left right) (comparison_plain rules shows comparison left right)

-- ---- pairs

beside_plain : (functional : Option Id) → ArePlain 1 (credit.functional_member (option_map id_text functional))
beside_plain None = tt
beside_plain (Some one) = (plain (codes "functional") refl, identifier_plain one, tt)

pub pairs_are_read_as_meant : PairsAreReadAsMeant
pairs_are_read_as_meant frames found =
    read_as_meant (credit_object (credit_line frames found)) (
      plain (codes "credits") refl,
      tt,
      (
        plain (codes "requests") refl,
        tt,
        (
          plain (codes "tester") refl,
          identifier_plain found.pair.tester,
          (
            plain (codes "unit") refl,
            identifier_plain found.pair.unit,
            beside_plain found.functional,
          ),
        ),
      ),
    )
