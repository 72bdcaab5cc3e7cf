-- Where no full frame is given none is next: it would be of another kind, sender or length.
use Rattle.std.proofs.Common.{arith, sym, subst, ◌∙◌}
use denote.Enum.Bare.{differs_true}
use Rattle.direction.specs.contracts.Dir.{the_type}
use Rattle.isotp_receive.specs.declared.TheConstants.{MESSAGE_LIMIT}
use Rattle.isotp_segment.specs.FullFrames.{FullFrameIsNext}
use Rattle.isotp_segment.proofs.NextFull.{is_full_at}
use Rattle.isotp_segment.proofs.segments.Segments.next_full.Goals.{then-self-lt2-via-then-self-lt2}
use Rattle.isotp_segment.proofs.segments.Segments.next_full.Goals.{then-self-lt2-via-else-self-lt2+then-self, then-self-lt2-via-else-self-lt2+else-self+then-ne}
use Rattle.isotp_segment.proofs.segments.Segments.next_full.Goals as goal

pub returns-then-self-lt2-clause-misses_none : goal.returns-then-self-lt2-clause-misses_none
returns-then-self-lt2-clause-misses_none c full =
    let its = c.self.inside in
    let at = is_full_at MESSAGE_LIMIT c.args.sender its.dir its.message.now its.number c.self.invariant.some c.self.invariant.limit
    (subst (FullFrameIsNext c.args.sender) (sym c.self.view_is) full) in
    elim c.then-self-lt2.branch [
      | then-self-lt2-via-then-self-lt2 w ↦ absurd (omega (arith, at.consecutive, w.if-self-lt2.true))
      | then-self-lt2-via-else-self-lt2+then-self w ↦ absurd (omega (arith, at.left, c.self.invariant.counted, w.if-self.true))
      | then-self-lt2-via-else-self-lt2+else-self+then-ne w ↦
          absurd (differs_true the_type c.args.sender c.self.inside.dir (sym w.ne.ensures ∙ w.if-ne.true) at.same)
    ]

pub returns-in_err-frame-clause-misses_none : goal.returns-in_err-frame-clause-misses_none
returns-in_err-frame-clause-misses_none c full =
    let its = c.self.inside in
    let at = is_full_at MESSAGE_LIMIT c.args.sender its.dir its.message.now its.number c.self.invariant.some c.self.invariant.limit
    (subst (FullFrameIsNext c.args.sender) (sym c.self.view_is) full) in
    let short = c.in_err-frame.ensures.none in
    absurd (omega (arith, at.within, short))
