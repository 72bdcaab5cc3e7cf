-- What was heard of the lines of a log, and what is answered of it.
use Rattle.std.proofs.Common.{◌≡◌, ◌≢◌, ℕ, ◌+◌, ◌^◌, ◌<◌, ◌≤◌, Bool, List, [], ◌∷◌, ◌++◌, length, take, drop, arith}
use Rattle.std.proofs.Common.{refl, ap, sym, subst, ◌∙◌, Option, Some, None, Result, Ok, Err, inl, inr, append-nil}
use Rattle.std.proofs.Common.{length-append, length-take}
use Rattle.std.proofs.lemmas.List.{take-append-drop}
use Rattle.std.specs.Prelude.{IfOk, IfErr}
use Rattle.can_log.specs.Frame.{FrameValue}
use Rattle.can_log.specs.Log.{LogMeans}
use Rattle.can_log.specs.declared.frame.Stamped.{Stamped}
use Rattle.trace_log.specs.declared.fault.Fault.{Fault}
use Rattle.trace_log.specs.declared.fault.Fault.TheVariants as fault
use Rattle.trace_canon.specs.declared.hearer.FoundCreditLines.{FoundCreditLines}
use Rattle.trace_canon.specs.declared.hearer.Hearer.{Hearer}
use Rattle.trace_canon.specs.Finding.{GivesFound, IsFoundOf}
use Rattle.trace_canon.specs.MemoryNeeded.{NeedsMemoryToFind}
use Rattle.trace_canon.specs.Heard.{frames_in}
use Rattle.trace_log.specs.Settings.{Settings}
use Rattle.trace_log.specs.Feeding.{FeedsLog, FeedsSome, Took, Stopped, StopsWithin}
use Rattle.trace_canon.specs.proving.Hearing.{HasHeard}
use Rattle.trace_run.specs.Stopping.{CantBeRead}
use Rattle.uds_find.specs.Asking.{HasKept, NeedsMemory}
use Rattle.uds_find.specs.Credit.{HasCredit}
use Rattle.uds_find.specs.Finding.{FinderValue, StandsAfter}
use Rattle.uds_find.proofs.Promises.{asking_is_kept, credit_has_asking, need_has_kept}
use Rattle.trace_log.proofs.Promises.{all_begin, begins_with_lines, bad_counts, no_place_counts, bad_in_front, bad_at_end}

-- ---- one line more

frames_append : (meanings more : List (Option Stamped)) → frames_in (meanings ++ more) ≡ frames_in meanings ++ frames_in more
unfolding frames_in
frames_append [] more = refl
frames_append (None ∷ meanings) more = frames_append meanings more
frames_append (Some stamped ∷ meanings) more = ap (λ l. stamped.frame ∷ l) (frames_append meanings more)

few_frames : (meanings : List (Option Stamped)) → length (frames_in meanings) ≤ length meanings
unfolding frames_in
few_frames [] = omega arith
few_frames (None ∷ meanings) = omega (arith, few_frames meanings)
few_frames (Some stamped ∷ meanings) = omega (arith, few_frames meanings)

module _ (meanings : List (Option Stamped)) (what : Option Stamped) where
  frames_blank : what ≡ None → frames_in (meanings ++ what ∷ []) ≡ frames_in meanings
  unfolding frames_in
  frames_blank is = ap (λ w. frames_in (meanings ++ w ∷ [])) is ∙ frames_append meanings (None ∷ []) ∙ append-nil (frames_in meanings)

  frames_more : (stamped : Stamped) → what ≡ Some stamped → frames_in (meanings ++ what ∷ []) ≡ frames_in meanings ++ stamped.frame ∷ []
  unfolding frames_in
  frames_more stamped is = ap (λ w. frames_in (meanings ++ w ∷ [])) is ∙ frames_append meanings (Some stamped ∷ [])

  counted_more : (line : ℕ) → line ≡ length meanings + 1 → line ≡ length (meanings ++ what ∷ [])
  counted_more line number = omega (arith, number, length-append meanings (what ∷ []))

  -- a blank one
  pub heard_blank : (finder : FinderValue) (lines line : ℕ) → what ≡ None → line ≡ length meanings + 1 → HasHeard meanings finder lines
      → HasHeard (meanings ++ what ∷ []) finder line
  heard_blank finder lines line is number heard =
      record { stands = subst (λ frames. StandsAfter frames finder) (sym (frames_blank is)) heard.stands; counted = counted_more line number }

  -- one with a frame
  pub heard_frame : (stamped : Stamped) (old new : FinderValue) (lines line : ℕ) → what ≡ Some stamped
      → line ≡ length meanings + 1 → length meanings < 2 ^ 62
      → ((frames : List FrameValue) → length frames < 2 ^ 62 → StandsAfter frames old → StandsAfter (frames ++ stamped.frame ∷ []) new)
      → HasHeard meanings old lines → HasHeard (meanings ++ what ∷ []) new line
  heard_frame stamped old new lines line is number few takes heard = record {
    stands =
        subst (λ frames. StandsAfter frames new) (sym (frames_more stamped is))
        (takes (frames_in meanings) (omega (arith, few, few_frames meanings)) heard.stands);
    counted = counted_more line number;
  }

  -- one that needs memory
  pub heard_first : (stamped : Stamped) (old : FinderValue) (lines : ℕ) → what ≡ Some stamped
      → ((frames : List FrameValue) → StandsAfter frames old → NeedsMemory frames stamped.frame)
      → HasHeard meanings old lines → HasKept (frames_in (meanings ++ what ∷ []))
  heard_first stamped old lines is needs heard =
      subst HasKept (sym (frames_more stamped is))
      (need_has_kept (frames_in meanings) stamped.frame (needs (frames_in meanings) heard.stands))

-- ---- a whole log

-- what hears and what it writes to, which is nothing
abbrev Heard : Type 0
Heard = Hearer × Unit {0}

abbrev TookHeard : Took Heard
TookHeard s meanings t = HasHeard [] s.0.finder s.0.lines → HasHeard meanings t.0.finder t.0.lines

abbrev BrokeHeard : Took Heard
BrokeHeard s meanings t = ⊥

abbrev StoppedHeard : Stopped Heard
StoppedHeard s meanings what why t = HasHeard [] s.0.finder s.0.lines → (why ≡ fault.Memory) × HasKept (frames_in (meanings ++ what ∷ []))

module _ (settings : Settings) (log : List ℕ) (given : ℕ) (start now : Heard) (begun : HasHeard [] start.0.finder start.0.lines) where
  -- why it was not read to its end
  pub heard_fault : (most : ℕ) (why : Fault) → most ≡ settings.max_bytes
      → FeedsLog TookHeard TookHeard BrokeHeard StoppedHeard start most log given (Err why) now → CantBeRead settings log why
  heard_fault most (fault.BadLine line column) is (meanings, taken, inl (few, refuses)) =
      bad_counts settings log line column meanings given (bad_in_front log given line column meanings refuses) (omega (arith, is, few))
  heard_fault most (fault.BadLine line column) is (meanings, taken, inr (short, all, behind)) =
      bad_counts settings log line column meanings (length log) (bad_at_end log line column meanings behind) (omega (arith, is, short))
  heard_fault most fault.LogLimit is (meanings, taken, long, come, (standing, stands)) = (
    no_place_counts settings log (take most log) (drop most log) meanings standing stands (sym (take-append-drop most log))
        (omega (arith, is, long, length-take most log)) (omega (arith, is, long)),
    omega (arith, is, long),
  )
  heard_fault most (fault.Oversize line announced) is (meanings, what, stops, place) = absurd (cc ((stops begun).0))
  heard_fault most fault.OutputLimit is never = absurd never
  heard_fault most fault.Memory is stops = tt
  heard_fault most fault.Read is taken = tt
  heard_fault most fault.Write is taken = tt

  -- where memory was refused
  pub heard_need : (most : ℕ) (why : Fault) → most ≡ settings.max_bytes
      → FeedsLog TookHeard TookHeard BrokeHeard StoppedHeard start most log given (Err why) now → why ≡ fault.Memory
      → NeedsMemoryToFind log
  heard_need most why is feeds refused =
      by (subst (λ f. FeedsLog TookHeard TookHeard BrokeHeard StoppedHeard start most log given (Err f) now) refused feeds)
    where
      by : FeedsLog TookHeard TookHeard BrokeHeard StoppedHeard start most log given (Err fault.Memory) now → NeedsMemoryToFind log
      by (meanings, what, stops, place) =
          let within = subst (λ k. StopsWithin k log given meanings what) is place in
          (meanings ++ what ∷ [], begins_with_lines settings log given meanings what within, (stops begun).1)

-- nothing is written, so writing does not fail
pub heard_unwritten : (why : Fault) (start now : Heard)
    → FeedsSome TookHeard TookHeard BrokeHeard StoppedHeard start {A = Bool} (Err why) now → why ≢ fault.Write
heard_unwritten why start now feeds is = by (subst (λ f. FeedsSome TookHeard TookHeard BrokeHeard StoppedHeard start {A = Bool} (Err f) now) is feeds)
  where
    by : FeedsSome TookHeard TookHeard BrokeHeard StoppedHeard start {A = Bool} (Err fault.Write) now → ⊥
    by (meanings, never) = never

-- ---- the end

module _ (settings : Settings) (log : List ℕ) (meanings : List (Option Stamped)) (short : length log ≤ settings.max_bytes)
    (means : LogMeans log meanings) where
  pub heard_end : (result : Result FoundCreditLines Fault)
      → IfOk result (λ found. IsFoundOf log meanings found.credit_lines.items found.summary)
      → IfErr result (λ why. why ≡ fault.Memory)
      → GivesFound settings log result
  heard_end (Ok found) is none = (meanings, (short, means), is)
  heard_end (Err why) none is = subst (CantBeRead settings log) (sym is) tt

  pub heard_end_need : (result : Result FoundCreditLines Fault) → IfErr result (λ why. HasCredit (frames_in meanings))
      → result ≡ Err fault.Memory → NeedsMemoryToFind log
  heard_end_need (Ok found) needs is = absurd (cc is)
  heard_end_need (Err why) needs is = (
    meanings,
    all_begin log meanings means,
    asking_is_kept (frames_in meanings) (credit_has_asking (frames_in meanings) needs),
  )

-- before the first line
pub heard_none : (finder : FinderValue) (lines : ℕ) → StandsAfter [] finder → lines ≡ 0 → HasHeard [] finder lines
unfolding frames_in
heard_none finder lines stands none = record { stands = stands; counted = none }
