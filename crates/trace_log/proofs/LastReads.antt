-- How near to what refuses a log reading stops: nothing among all bytes given but the last 4,096 does.
use Rattle.std.proofs.Common.{ℕ, ◌-◌, List, Option}
use Rattle.can_log.specs.declared.frame.Stamped.{Stamped}
use Rattle.trace_log.specs.Answers.{piece_length, ReadsWhile}
use Rattle.trace_log.specs.Feeding.{Took, TakesFront}
use Rattle.trace_log.specs.Refusal.{EachWithin, HasNoBadPlaceWithin, IsNotRefusedWithin}
use Rattle.trace_log.specs.Settings.{Settings}
use Rattle.trace_log.proofs.ScannedLogs.{no_place_within, not_refused_within}

reads_while : {P Q : ℕ → Type 0} {given failures failures_now : ℕ} → ((count : ℕ) → P count → Q count) → ReadsWhile P given failures failures_now
    → ReadsWhile Q given failures failures_now
reads_while {given = given} follows reads = record {
  before_piece = follows (given - piece_length) reads.before_piece;
  before_failure = λ risen. follows given (reads.before_failure risen);
}

-- what was taken has no refused place
pub reads_legal : {T : Type 0} {took : Took T} {start : T} {log : List ℕ} {given failures failures_now : ℕ} → ReadsWhile (TakesFront took start log) given failures failures_now
    → ReadsWhile (HasNoBadPlaceWithin log) given failures failures_now
reads_legal {log = log} reads =
    reads_while (λ count takes. no_place_within log takes.front takes.rest takes.meanings takes.standing count takes.stands takes.parts takes.long) reads

-- and refuses the log in no other way, where no line announces too much that is taken
pub reads_unrefused : {T : Type 0} {took : Took T} {start : T} {log : List ℕ} {given failures failures_now : ℕ} (limit : ℕ) (settings : Settings)
    → ((meanings : List (Option Stamped)) (now : T) → took start meanings now → EachWithin limit settings meanings)
    → ReadsWhile (TakesFront took start log) given failures failures_now → ReadsWhile (IsNotRefusedWithin limit settings log) given failures failures_now
reads_unrefused {log = log} limit settings within reads =
    reads_while (λ count takes.
    not_refused_within limit settings log takes.front takes.rest takes.meanings takes.standing count takes.stands takes.parts takes.long
    (within takes.meanings takes.now takes.taken)) reads
