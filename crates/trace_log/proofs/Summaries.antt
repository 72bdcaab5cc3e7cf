-- The summary of a log that was received to its end.
use Rattle.std.proofs.Common.{◌≡◌, ℕ, ◌+◌, ◌<◌, ◌^◌, min, nat_lt, Bool, List, [], ◌∷◌, length, arith, refl, ap, ◌∙◌, Option, cond}
use Rattle.std.proofs.lemmas.Bool.{ltb-true, and_parts}
use Rattle.std.proofs.lemmas.List.Sums.{sum_by-append}
use Rattle.direction.specs.declared.Dir.{Dir}
use Rattle.direction.specs.declared.Dir.TheVariants as dir
use Rattle.can_log.specs.declared.frame.Stamped.{Stamped}
use Rattle.isotp_receive.specs.declared.TheConstants.{MESSAGE_LIMIT}
use Rattle.isotp_receive.specs.Capacities.{PairValue}
use Rattle.uds_exchange.specs.Exchanged.{look_exchanged}
use Rattle.uds_exchange.specs.Meaning.{removed_messages}
use Rattle.uds_rules.specs.Under.{left_out}
use Rattle.isotp_receive.specs.Verdict.{messages}
use Rattle.trace_log.specs.Settings.{Settings}
use Rattle.trace_log.specs.Trace.{trace}
use Rattle.trace_log.specs.Messages.{messages_of_lines}
use Rattle.isotp_receive.specs.Events.{unfinished_in}
use Rattle.isotp_receive.specs.Trace.{Entry, same_direction}
use Rattle.trace_log.specs.Laws.{CleanLogHasBothSides, FramesAreOfTwoSides}
use Rattle.trace_log.specs.Summing.{ends_in_line_feed, frames_of, summary_of}
use Rattle.trace_log.proofs.Receivings.{few_frames, one, one_if}
use Rattle.trace_log.specs.proving.Receiving.{Receives}
use Rattle.trace_log.specs.declared.summary.Summary.{Summary}
use Rattle.isotp_receive.specs.Channels.{dir_of}

-- a summary of these counts of frames
abbrev summary_with : ℕ → ℕ → Summary → ℕ → ℕ → ℕ → Bool → Bool → Summary
summary_with lines frames counts unfinished pending ruled_out ended exchanged = record counts {
  lines = lines;
  frames = frames;
  unfinished = unfinished;
  pending = pending;
  left_out = ruled_out;
  ends_in_line_feed = ended;
  looks_exchanged = exchanged;
}

frames_before : (d : Dir) (e : Entry) (rest : List Entry) → frames_of d (e ∷ rest) ≡ one_if (same_direction d (dir_of e.channel)) + frames_of d rest
frames_before d e rest =
    sum_by-append (λ (x : Entry). cond (same_direction d (dir_of x.channel)) 1 0) (e ∷ []) rest ∙ ap (λ n. n + frames_of d rest) (one (same_direction d (dir_of e.channel)))

one_side : (d : Dir) → one_if (same_direction dir.Tester d) + one_if (same_direction dir.Unit d) ≡ 1
one_side dir.Tester = refl
one_side dir.Unit = refl

-- each frame is one of the tester or one of the unit
pub two_sides : (T : List Entry) → frames_of dir.Tester T + frames_of dir.Unit T ≡ length T
two_sides [] = refl
two_sides (e ∷ rest) =
    let later = two_sides rest in
    let of_tester = frames_before dir.Tester e rest in
    let of_unit = frames_before dir.Unit e rest in
    let one_of_two = one_side (dir_of e.channel) in
    omega arith

-- the counts of a log that was received to its end are its summary
pub summed_up : (settings : Settings) (log : List ℕ) (meanings : List (Option Stamped)) (pair : PairValue) (lines frames : ℕ) (counts : Summary) (unfinished pending ruled_out : ℕ) (ended exchanged : Bool)
    → Receives settings meanings pair lines counts → ended ≡ ends_in_line_feed log → lines < 2 ^ 64
    → frames ≡ min (counts.tester_frames + counts.unit_frames) 18446744073709551615 → unfinished ≡ unfinished_in MESSAGE_LIMIT (trace settings meanings)
    → pending ≡ length (removed_messages (messages_of_lines MESSAGE_LIMIT settings meanings))
    → ruled_out ≡ left_out settings.rules (messages MESSAGE_LIMIT (trace settings meanings))
    → exchanged ≡ look_exchanged (messages_of_lines MESSAGE_LIMIT settings meanings)
    → summary_with lines frames counts unfinished pending ruled_out ended exchanged ≡ summary_of MESSAGE_LIMIT settings log meanings
unfolding summary_of
summed_up settings log meanings pair lines frames counts unfinished pending ruled_out ended exchanged received ended_is few frames_are unfinished_are pending_are ruled_out_are exchanged_is =
    let both = two_sides (trace settings meanings) in
    let short = few_frames settings meanings in
    let of_tester = ap (λ (s : Summary). s.tester_frames) received.counted in
    let of_unit = ap (λ (s : Summary). s.unit_frames) received.counted in
    let all : frames ≡ length (trace settings meanings) = omega (arith, received.lines_are) in
    rw (received.lines_are, all, received.counted, unfinished_are, pending_are, ruled_out_are, ended_is, exchanged_is) refl

pub clean_log_has_both_sides : CleanLogHasBothSides
unfolding summary_of
clean_log_has_both_sides limit settings log meanings dir.Tester clean =
    ltb-true 0 (frames_of dir.Tester (trace settings meanings)) (and_parts (nat_lt 0 (frames_of dir.Tester (trace settings meanings))) _ clean).0
clean_log_has_both_sides limit settings log meanings dir.Unit clean =
    let of_tester = and_parts (nat_lt 0 (frames_of dir.Tester (trace settings meanings))) _ clean in
    ltb-true 0 (frames_of dir.Unit (trace settings meanings)) (and_parts (nat_lt 0 (frames_of dir.Unit (trace settings meanings))) _ of_tester.1).0

pub frames_are_of_two_sides : FramesAreOfTwoSides
unfolding summary_of
frames_are_of_two_sides limit settings log meanings = two_sides (trace settings meanings)
