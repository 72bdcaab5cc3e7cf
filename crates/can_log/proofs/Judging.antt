-- What a function that reads a line may promise.
use Rattle.std.proofs.Common.{◌≡◌, ℕ, List, [], Option, Result, Ok, Err, sym, ap, ◌∙◌}
use Rattle.std.specs.Prelude.{IfOk, IfErr, IsOkAnd}
use Rattle.can_log.specs.declared.field.Stop.{Stop}
use Rattle.can_log.specs.declared.field.Stop.TheVariants as stops
use Rattle.can_log.specs.declared.line.Parts.{Parts}
use Rattle.can_log.specs.declared.frame.Stamped.{Stamped}
use Rattle.can_log.specs.Line.{LineMeans}
use Rattle.can_log.specs.Refused.{HasCompletion}
use Rattle.can_log.specs.proving.Judging.{IsRefusedFrom}
use Rattle.can_log.specs.proving.FieldReader.{Gives}
use Rattle.can_log.specs.proving.LineReader.{line_at, meaning_by, AreLineParts}
use Rattle.can_log.specs.proving.Views.{line_parts_of, OnShort, OnRefused}
use Rattle.can_log.proofs.Results.{value_is}
use Rattle.can_log.proofs.LineReads.{read_means, means_read, short_becomes, refused_first, read_parts}

abbrev pub Judges : Result (Option Parts) Stop → List ℕ → Type 0
Judges r bytes = Gives (λ x. (line_parts_of x, [])) r (line_at bytes)

pub judged_means : (r : Result (Option Parts) Stop) (bytes : List ℕ) → Judges r bytes → IfOk r (λ x. LineMeans bytes (meaning_by (line_parts_of x)))
judged_means (Ok x) bytes h = read_means bytes (line_parts_of x) [] h
judged_means (Err e) bytes h = tt

pub judged_only : (r : Result (Option Parts) Stop) (bytes : List ℕ) → Judges r bytes → (s : Option Stamped) → LineMeans bytes s → IsOkAnd r (λ x. meaning_by (line_parts_of x) ≡ s)
judged_only (Ok x) bytes h s m =
    let read = means_read bytes s m in
    ap meaning_by (value_is (line_parts_of x) read.0 [] [] (sym h ∙ read.1)) ∙ read.2
judged_only (Err e) bytes h s m = absurd (cc (h, (means_read bytes s m).1))

pub judged_short : (r : Result (Option Parts) Stop) (bytes : List ℕ) → Judges r bytes → IfErr r (λ e. OnShort e (HasCompletion bytes))
judged_short (Ok x) bytes h = tt
judged_short (Err stops.Short) bytes h = short_becomes bytes h
judged_short (Err (stops.Refused rest)) bytes h = tt

pub judged_refused : (r : Result (Option Parts) Stop) (bytes : List ℕ) → Judges r bytes → IfErr r (λ e. OnRefused e (λ rest. IsRefusedFrom bytes rest))
judged_refused (Ok x) bytes h = tt
judged_refused (Err stops.Short) bytes h = tt
judged_refused (Err (stops.Refused rest)) bytes h = refused_first bytes rest.now h

pub judged_parts : (r : Result (Option Parts) Stop) (bytes : List ℕ) → Judges r bytes → IfOk r (λ x. AreLineParts (line_parts_of x))
judged_parts (Ok x) bytes h = read_parts bytes (line_parts_of x) [] h
judged_parts (Err e) bytes h = tt
