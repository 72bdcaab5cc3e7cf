-- A reception stands alone: where one that began earlier is still open, none began since.
use Rattle.std.proofs.Common.{◌≡◌, ℕ, true, List, [], ◌∷◌, ◌++◌, Some, None, refl, ◌∙◌, ap}
use Rattle.std.proofs.lemmas.Bool.{and_parts, false≢true}
use Rattle.std.proofs.lemmas.Option.{cond_some}
use Rattle.isotp_receive.specs.declared.channel.Channel.{Channel}
use Rattle.isotp_receive.specs.Trace.{Entry, FirstFrame, FrameRole, single, first, consecutive, continue_or_wait, overflow, no_part, role}
use Rattle.isotp_receive.specs.StandingReception.{keeps_by, keep, is_open, StandingReception, standing_of, since, or_else, stands}
use Rattle.isotp_receive.proofs.FullFrames.{open-after}

-- a frame that leaves a reception open begins none
since_none : (limit : ℕ) (d : Channel) (s : FirstFrame) (past es : List Entry) (micros : ℕ) (r : FrameRole) → keeps_by d s past micros r ≡ true → since limit d r es ≡ None
since_none limit d s past es micros (single m) h = refl
since_none limit d s past es micros (first f) h = absurd (false≢true h)
since_none limit d s past es micros (consecutive sequence_number can_dl bytes) h = refl
since_none limit d s past es micros continue_or_wait h = refl
since_none limit d s past es micros overflow h = refl
since_none limit d s past es micros no_part h = refl

alone : (limit : ℕ) (d : Channel) (s : FirstFrame) (past es : List Entry) → keep d s past es ≡ true → stands limit d es ≡ None
alone limit d s past [] h = refl
alone limit d s past (e ∷ es) h =
    let parts = and_parts (keeps_by d s past e.micros (role d e)) (keep d s (past ++ e ∷ []) es) h in
    ap (λ o. or_else o (stands limit d es)) (since_none limit d s past es e.micros (role d e) parts.0) ∙ alone limit d s (past ++ e ∷ []) es parts.1

pub since-alone : (limit : ℕ) (d : Channel) (r : FrameRole) (es : List Entry) (st : StandingReception) → since limit d r es ≡ Some st → stands limit d es ≡ None
since-alone limit d (first s) es st h = alone limit d s [] es (open-after limit d s es (cond_some (is_open limit d s es) (standing_of d s es) st h).0).kept
since-alone limit d (single m) es st h = cc
since-alone limit d (consecutive sequence_number can_dl bytes) es st h = cc
since-alone limit d continue_or_wait es st h = cc
since-alone limit d overflow es st h = cc
since-alone limit d no_part es st h = cc
