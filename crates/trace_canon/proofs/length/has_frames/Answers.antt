-- A message without bytes, or beyond the limit, has no canonical frame.
use Rattle.std.proofs.Common.{inl, inr, length, sym, ◌∙◌}
use Rattle.std.proofs.lemmas.Bool.{leb-false, eqb-true}
use Rattle.isotp_receive.specs.declared.TheConstants.{MESSAGE_LIMIT}
use Rattle.trace_canon.proofs.Lengths.{frames_uncovered}
use Rattle.trace_canon.proofs.length.has_frames.Goals as goal

pub returns-then-not-is_empty-clause-none : goal.returns-then-not-is_empty-clause-none
returns-then-not-is_empty-clause-none c = λ is d. frames_uncovered MESSAGE_LIMIT d c.args.message.now (inr (leb-false _ _ is))

pub returns-else-not-is_empty-clause-none : goal.returns-else-not-is_empty-clause-none
returns-else-not-is_empty-clause-none c = λ is d.
    frames_uncovered MESSAGE_LIMIT d c.args.message.now
    (inl (eqb-true (length c.args.message.now) 0 (sym c.is_empty.ensures ∙ c.if-not-is_empty.false)))
