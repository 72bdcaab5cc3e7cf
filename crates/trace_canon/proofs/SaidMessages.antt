-- The line of a placed message, said of the frame that completes it.
use Rattle.std.proofs.Common.{◌≡◌, ℕ, Bool, true, false, Option, Some, None, List, [], ◌++◌, refl, ap, sym, ◌∙◌, append-nil, append_assoc, codes}
use Rattle.std.specs.Fmt.{decimal}
use Rattle.direction.specs.Dir.{Message}
use Rattle.direction.specs.declared.Dir.{Dir}
use Rattle.isotp_receive.specs.Channels.{dir_of, is_functional}
use Rattle.isotp_receive.specs.declared.TheConstants.{MESSAGE_LIMIT}
use Rattle.isotp_receive.specs.Trace.{Entry}
use Rattle.isotp_receive.specs.Verdict.{VerdictValue, message, began, stored, flowed, dropped, told_message, verdict}
use Rattle.trace_log.specs.Messages.{messages_under}
use Rattle.uds_rules.specs.Rule.{RuleValue, made_of}
use Rattle.uds_rules.specs.Under.{sent_as, under}
use Rattle.uds_exchange.specs.Judging.{sent}
use Rattle.uds_exchange.specs.declared.judge.Judged.{Judged}
use Rattle.uds_exchange.specs.declared.step.Step.{Step}
use Rattle.trace_run.specs.Seen.{IsSeen}
use Rattle.trace_run.specs.declared.machine.Seen.{Seen}
use Rattle.trace_run.proofs.Promises.{CompletesJudged, tells_no_message}
use Rattle.std.specs.Prelude.{if◌then◌else◌}
use Rattle.trace_text.specs.ItemLines.{echo_member}
use Rattle.trace_text.specs.Json.{Members, nothing, member, string, object_line, value_text}
use Rattle.trace_text.specs.proving.Spelling.{later_then}
use Rattle.trace_text.specs.RuledText.{ruled_text}
use Rattle.trace_text.specs.Words.{direction_text, role_text, stamp_text}
use Rattle.trace_text.specs.declared.notation.Notation.{Notation}
use Rattle.trace_text.specs.declared.notation.Notation.TheVariants.{Text, Json}
use Rattle.trace_text.proofs.Promises.{line_is, value_is}
use Rattle.trace_canon.specs.MessagesScript.{PlacedMessage, judged_at, micros_between, placed_line, placed_members, placed_text, functional_mark, functional_member}
use Rattle.trace_canon.specs.MessagesScript.{placed_behind, left_line, delivered_line, reply_members, reply_text, told_reply}
use Rattle.trace_canon.specs.FirstFrames.{place_of, first_frame}
use Rattle.trace_canon.specs.OpenRequests.{ReplyValue}
use Rattle.trace_canon.specs.declared.message_parts.FrameExtent.{FrameExtent}
use Rattle.trace_canon.specs.declared.reception_starts.FramePlace.{FramePlace}
use Rattle.trace_canon.proofs.NextStarts.{here_at}

-- frames from one place to another, or one frame to all units
abbrev extent_from : FramePlace → FramePlace → Bool → FrameExtent
extent_from first last to_all = record { first = first; last = last; is_functional = to_all }

-- a message of these frames
abbrev pub placed_at : ℕ → Step → Message → FrameExtent → PlacedMessage
placed_at number step sent extent = record { number = number; step = step; sent = sent; extent = extent }

module _ (rules : List RuleValue) (T : List Entry) (e : Entry) (judged : Judged) (completes : CompletesJudged rules T e judged) where
  -- the line of the message that the frame completed
  line_of : (notation : Notation)
      → placed_text notation rules (placed_behind (messages_under rules MESSAGE_LIMIT T) (sent judged) (first_frame T e) e)
      (told_reply MESSAGE_LIMIT rules T (sent judged))
      ≡ delivered_line notation MESSAGE_LIMIT rules T e (verdict MESSAGE_LIMIT T e).verdict
  line_of notation =
      let M = messages_under rules MESSAGE_LIMIT T in
      ap (λ d. placed_text notation rules (placed_behind M (d, judged.bytes.now) (first_frame T e) e)
      (told_reply MESSAGE_LIMIT rules T (d, judged.bytes.now))) (sym completes.dir)
      ∙ ap (left_line notation MESSAGE_LIMIT rules T e) (sym completes.made)
      ∙ ap (delivered_line notation MESSAGE_LIMIT rules T e) (sym completes.did)

  module _ (seen : Seen) (is : IsSeen rules T e seen) (notation own_notation : Notation) (own_rules : List RuleValue)
      (first : FramePlace) (to_all : Bool) (same : own_notation ≡ notation) (ruled : own_rules ≡ rules)
      (first_is : first ≡ place_of (first_frame T e)) (to_all_is : to_all ≡ is_functional seen.channel) where
    marked : to_all ≡ is_functional e.channel
    marked = to_all_is ∙ ap is_functional (sym is.event.channel)

    -- what is said in words of the message, from the place of its first frame to this one, is its line
    pub worded_said : own_notation ≡ Text
        → placed_line own_rules (judged_at judged (extent_from first (here_at seen.line seen.micros) to_all))
        ≡ delivered_line notation MESSAGE_LIMIT rules T e (verdict MESSAGE_LIMIT T e).verdict
    worded_said words =
        let placed = placed_behind (messages_under rules MESSAGE_LIMIT T) (sent judged) (first_frame T e) e in
        let at = is.event in
        let line : placed_line own_rules (judged_at judged (extent_from first (here_at seen.line seen.micros) to_all)) ≡ placed_line rules placed =
        (λ i. placed_line (ruled i) (placed_at (completes.item i) (completes.step i) (sent judged)
        (extent_from (first_is i) (here_at (sym at.line i) (sym at.micros i)) (marked i)))) in
        line
        ∙ ap (λ (n : Notation). placed_text n rules placed (told_reply MESSAGE_LIMIT rules T (sent judged))) (sym words ∙ same)
        ∙ line_of notation

    -- and so is its object, with what is told of it as a reply
    pub object_said : (reply : Option ReplyValue) → own_notation ≡ Json → reply ≡ told_reply MESSAGE_LIMIT rules T (sent judged)
        → object_line (placed_members own_rules (judged_at judged (extent_from first (here_at seen.line seen.micros) to_all)) reply)
        ≡ delivered_line notation MESSAGE_LIMIT rules T e (verdict MESSAGE_LIMIT T e).verdict
    object_said reply objects reply_is =
        let told = told_reply MESSAGE_LIMIT rules T (sent judged) in
        let placed = placed_behind (messages_under rules MESSAGE_LIMIT T) (sent judged) (first_frame T e) e in
        let at = is.event in
        let line : object_line (placed_members own_rules (judged_at judged (extent_from first (here_at seen.line seen.micros) to_all)) reply)
        ≡ object_line (placed_members rules placed told) =
        (λ i. object_line (placed_members (ruled i) (placed_at (completes.item i) (completes.step i) (sent judged)
        (extent_from (first_is i) (here_at (sym at.line i) (sym at.micros i)) (marked i))) (reply_is i))) in
        line ∙ ap (λ (n : Notation). placed_text n rules placed told) (sym objects ∙ same) ∙ line_of notation

-- of a frame of which rules leave no message nothing is said
no_line : (notation : Notation) (rules : List RuleValue) (T : List Entry) (e : Entry) (d : Dir) (made : Option (List ℕ))
    → sent_as d made ++ [] ≡ [] → left_line notation MESSAGE_LIMIT rules T e made ≡ []
no_line notation rules T e d None none = refl
no_line notation rules T e d (Some bytes) none = cc none

silent_line : (notation : Notation) (rules : List RuleValue) (T : List Entry) (e : Entry) (d : Dir) (did : VerdictValue)
    → under rules (told_message d did) ≡ [] → delivered_line notation MESSAGE_LIMIT rules T e did ≡ []
silent_line notation rules T e d (message bytes) none = no_line notation rules T e d (made_of rules bytes) none
silent_line notation rules T e d began none = refl
silent_line notation rules T e d stored none = refl
silent_line notation rules T e d flowed none = refl
silent_line notation rules T e d (dropped reason) none = refl

pub nothing_said : (notation : Notation) (rules : List RuleValue) (T : List Entry) (e : Entry) (seen : Seen)
    → IsSeen rules T e seen → seen.message ≡ None
    → delivered_line notation MESSAGE_LIMIT rules T e (verdict MESSAGE_LIMIT T e).verdict ≡ []
nothing_said notation rules T e seen is none =
    silent_line notation rules T e (dir_of e.channel) (verdict MESSAGE_LIMIT T e).verdict (tells_no_message rules T e seen is none)

-- ---- the parts of the object of a message

-- what is told of a reply, and members behind it
reply_then : (reply : Option ReplyValue) (start : ℕ) (later : Members) (behind : List ℕ)
    → reply_text reply start ++ later_then later behind ≡ later_then (reply_members reply start later) behind
reply_then None start later behind = refl
reply_then (Some reply) start later behind =
    let micros = micros_between reply.asked start in
    three_behind (codes ",\"after_us\":") (value_text micros) (if reply.is_other then codes ",\"echo\":false" else []) (later_then later behind)
    ∙ ap (λ l. codes ",\"after_us\":" ++ (value_text micros ++ l)) (marked reply.is_other)
    ∙ ap (λ l. codes ",\"after_us\":" ++ l) (value_is micros (later_then (echo_member reply.is_other later) behind))
  where
    three_behind : (a b c d : List ℕ) → (a ++ b ++ c) ++ d ≡ a ++ (b ++ (c ++ d))
    three_behind a b c d = simp append_assoc

    -- with the mark or without it
    marked : (is_other : Bool)
        → (if is_other then codes ",\"echo\":false" else []) ++ later_then later behind ≡ later_then (echo_member is_other later) behind
    marked true = refl
    marked false = refl

abbrev object_parts_of : ℕ → List ℕ → List ℕ → List ℕ → FrameExtent → Option ReplyValue → List ℕ
object_parts_of number role side bytes extent reply =
    codes "{\"item\":" ++ decimal number ++ codes ",\"role\":\"" ++ role ++ codes "\",\"direction\":\"" ++ side
    ++ (codes "\",\"first_line\":" ++ decimal extent.first.line ++ codes ",\"last_line\":" ++ decimal extent.last.line)
    ++ (codes ",\"start\":\"" ++ stamp_text extent.first.micros ++ codes "\",\"end\":\"" ++ stamp_text extent.last.micros)
    ++ (codes "\"" ++ reply_text reply extent.first.micros ++ functional_mark extent.is_functional
    ++ codes ",\"message\":\"" ++ bytes ++ codes "\"}\n")

-- one behind another
in_order : (a b c d e f g h i j k l m n o p q r s t : List ℕ)
    → a ++ b ++ c ++ d ++ e ++ f ++ (g ++ h ++ i ++ j) ++ (k ++ l ++ m ++ n) ++ (o ++ p ++ q ++ r ++ s ++ t)
    ≡ a ++ (b ++ (c ++ (d ++ (e ++ (f ++ (g ++ (h ++ (i ++ (j ++ (k ++ (l ++ (m ++ (n ++ (o ++ (p ++ (q ++ (r ++ (s ++ (t ++ [])))))))))))))))))))
in_order a b c d e f g h i j k l m n o p q r s t = simp (append_assoc, append-nil)

pub object_parts : (rules : List RuleValue) (number : ℕ) (step : Step) (sent : Message) (first last : FramePlace) (to_all : Bool)
    (reply : Option ReplyValue)
    → object_parts_of number (role_text step) (direction_text sent.0) (ruled_text rules sent.1) (extent_from first last to_all) reply
    ≡ object_line (placed_members rules (placed_at number step sent (extent_from first last to_all)) reply)
object_parts rules number step sent first last to_all reply =
    in_order (codes "{\"item\":") (decimal number) (codes ",\"role\":\"") (role_text step) (codes "\",\"direction\":\"") (direction_text sent.0)
    (codes "\",\"first_line\":") (decimal first.line) (codes ",\"last_line\":") (decimal last.line)
    (codes ",\"start\":\"") (stamp_text first.micros) (codes "\",\"end\":\"") (stamp_text last.micros)
    (codes "\"") (reply_text reply first.micros) (functional_mark to_all) (codes ",\"message\":\"") (ruled_text rules sent.1) (codes "\"}\n")
    ∙ ap front (ap (λ l. reply_text reply first.micros ++ l) (marked to_all)
    ∙ reply_then reply first.micros (last_members to_all) (codes "}\n"))
    ∙ sym (line_is (placed_members rules (placed_at number step sent (extent_from first last to_all)) reply))
  where
    -- what stands before what is told of a reply
    front : List ℕ → List ℕ
    front l =
        codes "{\"item\":" ++ (decimal number ++ (codes ",\"role\":\"" ++ (role_text step ++ (codes "\",\"direction\":\"" ++ (direction_text sent.0
        ++ (codes "\",\"first_line\":" ++ (decimal first.line ++ (codes ",\"last_line\":" ++ (decimal last.line
        ++ (codes ",\"start\":\"" ++ (stamp_text first.micros ++ (codes "\",\"end\":\"" ++ (stamp_text last.micros
        ++ (codes "\"" ++ l))))))))))))))

    -- and behind it
    last_members : Bool → Members
    last_members all = functional_member all (member (codes "message") (string (ruled_text rules sent.1)) nothing)

    -- with the mark or without it
    marked : (all : Bool)
        → functional_mark all ++ (codes ",\"message\":\"" ++ (ruled_text rules sent.1 ++ (codes "\"}\n" ++ [])))
        ≡ later_then (last_members all) (codes "}\n")
    marked true = refl
    marked false = refl
