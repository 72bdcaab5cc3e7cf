-- What stops a run on a line, and which lines pass.
use Rattle.std.proofs.Common.{Some, None, ◌≡◌, ℕ, ◌<◌, ◌≤◌, Bool, true, false, List, ◌++◌, length, refl, ap, sym, ◌∙◌, Option}
use Rattle.can_log.specs.Log.{LogMeans}
use Rattle.can_log.specs.declared.frame.Stamped.{Stamped}
use Rattle.isotp_receive.specs.Trace.{Entry, layout_in}
use Rattle.isotp_receive.specs.Verdict.{EventValue, verdict}
use Rattle.isotp_receive.specs.declared.TheConstants.{MESSAGE_LIMIT}
use Rattle.trace_log.specs.declared.fault.Fault.TheVariants as fault
use Rattle.trace_run.specs.proving.Telling.{oversize_for}
use Rattle.trace_log.specs.Feeding.{Took, TakesFront}
use Rattle.trace_log.specs.Settings.{Settings}
use Rattle.trace_run.specs.Stopping.{passing, IsReadToEnd, IsUnreadFor, StopsNothingWithin}
use Rattle.trace_log.specs.Trace.{trace}
use Rattle.std.specs.List.{AllByRecursion}
use Rattle.can_log.specs.Scanning.{Standing}
use Rattle.can_log.specs.WholeLog.{StandsAfter}
use Rattle.isotp_receive.specs.Events.{oversize_in, too_long_in}
use Rattle.isotp_receive.proofs.Promises.{too_long_is_announced}
use Rattle.trace_log.specs.Answers.{ReadsWhile}
use Rattle.trace_log.specs.proving.Announcing.{AnnouncesWithin}
use Rattle.trace_log.proofs.Promises.{each_within, reads_legal, reads_unrefused, all_taken, IsBadBehind, bad_line}
use Rattle.trace_log.proofs.Promises.{not_refused_at_limit, bad_counts, no_place_counts}
use Rattle.trace_log.specs.Refusal.{EachPasses}

-- a frame for which a run stops announces so much, and the run is strict
pub stopped_for : (strict : Bool) (T : List Entry) (e : Entry) (event : EventValue) (n : ℕ)
    → event ≡ verdict MESSAGE_LIMIT T e → oversize_for strict event.verdict ≡ Some n
    → (strict ≡ true) × (oversize_in MESSAGE_LIMIT (layout_in e) ≡ Some n)
stopped_for true T e event n seen is =
    (refl, sym (too_long_is_announced MESSAGE_LIMIT T e) ∙ sym (ap (λ (x : EventValue). too_long_in x.verdict) seen) ∙ is)
stopped_for false T e event n seen is = absurd (cc)

-- a frame for which a strict run does not stop announces no more than the limit
pub not_stopped_for : (strict : Bool) (T : List Entry) (e : Entry) (event : EventValue) → event ≡ verdict MESSAGE_LIMIT T e
    → oversize_for strict event.verdict ≡ None
    → strict ≡ true → AnnouncesWithin e
not_stopped_for true T e event seen is strict =
    sym (too_long_is_announced MESSAGE_LIMIT T e) ∙ sym (ap (λ (x : EventValue). too_long_in x.verdict) seen) ∙ is
not_stopped_for false T e event seen is strict = absurd (cc)

-- the lines of a trace pass
pub all_pass : (strict : Bool) (settings : Settings) (meanings : List (Option Stamped))
    → (strict ≡ true → AllByRecursion AnnouncesWithin (trace settings meanings))
    → EachPasses (passing strict MESSAGE_LIMIT settings) meanings
all_pass true settings meanings within = each_within settings meanings (within refl)
all_pass false settings meanings within = all_taken meanings

module _ (settings : Settings) (log : List ℕ) where
  -- a place refuses the log
  pub unread_for_place : (strict : Bool) (line column : ℕ) (meanings : List (Option Stamped)) (bytes : ℕ)
      → IsBadBehind log line column meanings bytes → bytes ≤ settings.max_bytes
      → EachPasses (passing strict MESSAGE_LIMIT settings) meanings
      → IsUnreadFor strict MESSAGE_LIMIT settings log (fault.BadLine line column)
  unread_for_place true line column meanings bytes bad few each =
      bad_line MESSAGE_LIMIT settings log line column meanings bytes bad few each
  unread_for_place false line column meanings bytes bad few each =
      bad_counts settings log line column meanings bytes bad few

  -- the length of the log refuses it
  pub unread_for_limit : (strict : Bool) (front rest : List ℕ) (meanings : List (Option Stamped)) (standing : Standing)
      → StandsAfter front meanings standing → log ≡ front ++ rest
      → length front ≡ settings.max_bytes → settings.max_bytes < length log
      → EachPasses (passing strict MESSAGE_LIMIT settings) meanings
      → IsUnreadFor strict MESSAGE_LIMIT settings log fault.LogLimit
  unread_for_limit true front rest meanings standing stands parts full long each =
      (not_refused_at_limit MESSAGE_LIMIT settings log front rest meanings standing stands parts full long each, long)
  unread_for_limit false front rest meanings standing stands parts full long each =
      (no_place_counts settings log front rest meanings standing stands parts full long, long)

  -- the log is read to its end
  pub read_to_end : (strict : Bool) (meanings : List (Option Stamped)) → length log ≤ settings.max_bytes
      → LogMeans log meanings → EachPasses (passing strict MESSAGE_LIMIT settings) meanings
      → IsReadToEnd strict MESSAGE_LIMIT settings log meanings
  read_to_end true meanings short means each = record { short = short; means = means; within = each }
  read_to_end false meanings short means each = (short, means)

  -- reading stops near to what refuses it
  pub reads_near : {S : Type 0} {took : Took S} {start : S} {given failures failures_now : ℕ} (strict : Bool)
      → ((meanings : List (Option Stamped)) (now : S) → took start meanings now → strict ≡ true
      → AllByRecursion AnnouncesWithin (trace settings meanings))
      → ReadsWhile (TakesFront took start log) given failures failures_now
      → ReadsWhile (StopsNothingWithin strict MESSAGE_LIMIT settings log) given failures failures_now
  reads_near true within reads =
      reads_unrefused MESSAGE_LIMIT settings (λ meanings now taken. each_within settings meanings (within meanings now taken refl)) reads
  reads_near false within reads = reads_legal reads
