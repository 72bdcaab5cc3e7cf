-- What a source gave agrees with the bytes that it told.
use Rattle.std.proofs.Common.{◌++◌, Some, None, ap, sym, ◌∙◌, append_assoc}
use Rattle.trace_io.specs.Stream.{AgreesWithTold}

pub told_agrees : AgreesWithTold
told_agrees old new log is_over None gave ended = absurd gave.told
told_agrees old new log is_over (Some rest) gave ended = record {
  rest = rest;
  parts = ap (λ x. old ++ x) gave.told ∙ sym (append_assoc old gave.bytes rest) ∙ ap (λ x. x ++ rest) (sym gave.grown);
  whole = ended;
}
