-- Of how many messages rules spoke, with one message more.
use Rattle.std.proofs.Common.{◌≡◌, ◌≤◌, ◌<◌, ◌^◌, ◌+◌, ℕ, Bool, true, false, List, [], ◌∷◌, ◌++◌, length, arith, refl, ap, ap₂, sym, ◌∙◌}
use Rattle.std.specs.Prelude.{if◌then◌else◌}
use Rattle.direction.specs.Dir.{Message}
use Rattle.direction.specs.declared.Dir.{Dir}
use Rattle.isotp_receive.specs.declared.TheConstants.{MESSAGE_LIMIT}
use Rattle.isotp_receive.specs.Channels.{dir_of}
use Rattle.isotp_receive.specs.EventSeen.{seen_event}
use Rattle.isotp_receive.specs.Trace.{Entry}
use Rattle.isotp_receive.specs.Verdict.{EventValue, messages, told_message, verdict}
use Rattle.isotp_receive.proofs.Promises.{messages_are_few}
use Rattle.trace_log.proofs.Promises.{messages_more}
use Rattle.trace_run.specs.Seen.{IsSeen}
use Rattle.trace_run.specs.declared.machine.Seen.{Seen}
use Rattle.uds_exchange.specs.Judging.{one_more}
use Rattle.uds_rules.specs.Rule.{RuleValue, speaks_of}
use Rattle.trace_run.specs.Spoken.{spoken_counts, spoken_of}
use Rattle.trace_run.specs.proving.Speaking.{counts_more}

-- one, where it is so
abbrev one_if : Bool → ℕ
one_if b = if b then 1 else 0

last_one : (one : ℕ) → one + 0 ≡ 0 + one
last_one one = omega arith

one_behind : (first later one whole : ℕ) → whole ≡ later + one → first + whole ≡ (first + later) + one
one_behind first later one whole is = omega arith

-- of the messages with one more a rule spoke as often, or once more
spoken_more : (rule : RuleValue) (M : List Message) (d : Dir) (bytes : List ℕ)
    → spoken_of rule (M ++ (d, bytes) ∷ []) ≡ spoken_of rule M + one_if (speaks_of rule bytes)
spoken_more rule [] d bytes = last_one (one_if (speaks_of rule bytes))
spoken_more rule (sent ∷ M) d bytes =
    one_behind (one_if (speaks_of rule sent.1)) (spoken_of rule M) (one_if (speaks_of rule bytes)) (spoken_of rule (M ++ (d, bytes) ∷ []))
    (spoken_more rule M d bytes)

-- it spoke of no more than there are
one_few : (b : Bool) → one_if b ≤ 1
one_few true = omega arith
one_few false = omega arith

spoken_few : (rule : RuleValue) (M : List Message) → spoken_of rule M ≤ length M
spoken_few rule [] = omega arith
spoken_few rule (sent ∷ M) =
    let one = one_few (speaks_of rule sent.1) in
    let later = spoken_few rule M in
    omega (arith, one, later)

counted_is : (b : Bool) (count : ℕ) → count < 2 ^ 62 → (if b then one_more count else count) ≡ count + one_if b
counted_is true count few = omega arith
counted_is false count few = omega arith

-- the counts of a list of messages with one more
pub counts_with_one : (rules : List RuleValue) (M : List Message) (d : Dir) (bytes : List ℕ) → length M < 2 ^ 62
    → counts_more rules bytes (spoken_counts rules M) ≡ spoken_counts rules (M ++ (d, bytes) ∷ [])
counts_with_one [] M d bytes few = refl
counts_with_one (rule ∷ rules) M d bytes few =
    let count = spoken_of rule M in
    let low : count < 2 ^ 62 = (let at_most = spoken_few rule M in omega (arith, at_most, few)) in
    ap₂ (λ n counts. n ∷ counts) (counted_is (speaks_of rule bytes) count low ∙ sym (spoken_more rule M d bytes))
    (counts_with_one rules M d bytes few)

-- A trace with one more frame.

-- messages are as few as frames
pub few_messages : (T : List Entry) → length T < 2 ^ 62 → length (messages MESSAGE_LIMIT T) < 2 ^ 62
few_messages T few = (let at_most = messages_are_few MESSAGE_LIMIT T in omega (arith, at_most, few))

-- what was counted with what a frame told is counted of the trace with that frame
pub spoken_next : (page rules : List RuleValue) (T : List Entry) (e : Entry) (seen : Seen) (counts : List ℕ) → IsSeen rules T e seen
    → counts ≡ spoken_counts page (messages MESSAGE_LIMIT T ++ told_message (dir_of seen.channel) (seen_event seen.event).verdict)
    → counts ≡ spoken_counts page (messages MESSAGE_LIMIT (T ++ e ∷ []))
spoken_next page rules T e seen counts is more =
    let told : told_message (dir_of e.channel) (verdict MESSAGE_LIMIT T e).verdict ≡ told_message (dir_of seen.channel) (seen_event seen.event).verdict =
    ap (λ c. told_message (dir_of c) (verdict MESSAGE_LIMIT T e).verdict) is.event.channel
    ∙ ap (λ (x : EventValue). told_message (dir_of seen.channel) x.verdict) (sym is.event.did) in
    more ∙ ap (λ l. spoken_counts page (messages MESSAGE_LIMIT T ++ l)) (sym told) ∙ ap (spoken_counts page) (sym (messages_more MESSAGE_LIMIT T e))
