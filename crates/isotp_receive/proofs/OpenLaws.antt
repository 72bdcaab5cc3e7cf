-- What stands after a list of frames: where it began, and that each frame since leaves it open.
use Rattle.std.proofs.Common.{◌≡◌, ℕ, true, List, [], ◌∷◌, ◌++◌, Option, Some, None, refl, sym, ◌∙◌, ap, append_assoc, subst}
use Rattle.std.specs.Prelude.{IsTrue}
use Rattle.std.proofs.lemmas.List.{append-nil}
use Rattle.std.proofs.lemmas.Bool.{and_parts, and_from}
use Rattle.std.proofs.lemmas.Option.{none-some, cond_some}
use Rattle.isotp_receive.specs.declared.channel.Channel.{Channel}
use Rattle.isotp_receive.specs.Trace.{Entry, FirstFrame, FrameRole, single, first, consecutive, continue_or_wait, overflow, no_part, role}
use Rattle.isotp_receive.specs.StandingReception.{keeps_by, keep, is_open, StandingReception, standing_of, since, or_else, stands}
use Rattle.isotp_receive.proofs.ListPositions.{cons-head, cons-tail}
use Rattle.isotp_receive.proofs.CountedFrames.{keep-snoc}
use Rattle.isotp_receive.proofs.StandsAlone.{since-alone}

-- ---- each frame since leaves it open

-- where each does, so long as those before it do
keep-from : (d : Channel) (s : FirstFrame) (past es : List Entry) → keep d s [] past ≡ true
    → ((between after : List Entry) (e : Entry) → es ≡ between ++ e ∷ after → keep d s [] (past ++ between) ≡ true
    → keeps_by d s (past ++ between) e.micros (role d e) ≡ true) → keep d s past es ≡ true
keep-from d s past [] before h = refl
keep-from d s past (e ∷ es) before h =
    let here : keeps_by d s past e.micros (role d e) ≡ true =
    subst (λ p. keeps_by d s p e.micros (role d e) ≡ true) (append-nil past) (h [] es e refl (rw append-nil before)) in
    and_from _ _ here
    (keep-from d s (past ++ e ∷ []) es (keep-snoc d s [] past e ∙ and_from _ _ before here)
    (λ between after x q kept. rw append_assoc (h (e ∷ between) after x (ap (λ l. e ∷ l) q) (rw append_assoc at kept))))

pub keep-from-each : (d : Channel) (s : FirstFrame) (es : List Entry)
    → ((between after : List Entry) (e : Entry) → es ≡ between ++ e ∷ after → keep d s [] between ≡ true
    → IsTrue (keeps_by d s between e.micros (role d e))) → keep d s [] es ≡ true
keep-from-each d s es h = keep-from d s [] es refl h

Each : Channel → FirstFrame → List Entry → List Entry → Type 0
Each d s past es =
    (between after : List Entry) (e : Entry) → es ≡ between ++ e ∷ after → keeps_by d s (past ++ between) e.micros (role d e) ≡ true

keep-each : (d : Channel) (s : FirstFrame) (past es : List Entry) → keep d s past es ≡ true → Each d s past es
unfolding Each
keep-each d s past [] h [] after x q = cc
keep-each d s past [] h (b ∷ between) after x q = cc
keep-each d s past (e ∷ es) h [] after x q =
    rw (append-nil, ← cons-head q) (and_parts (keeps_by d s past e.micros (role d e)) _ h).0
keep-each d s past (e ∷ es) h (b ∷ between) after x q =
    let rest = keep-each d s (past ++ e ∷ []) es (and_parts (keeps_by d s past e.micros (role d e)) _ h).1 between after x (cons-tail q) in
    rw (← cons-head q) (rw append_assoc at rest)

pub kept-at : (d : Channel) (s : FirstFrame) (es : List Entry) → keep d s [] es ≡ true
    → (b after : List Entry) (x : Entry) → es ≡ b ++ x ∷ after → keeps_by d s b x.micros (role d x) ≡ true
unfolding Each
kept-at d s es h = keep-each d s [] es h

-- ---- what is open stands

pub open-stands-here : (limit : ℕ) (d : Channel) (before es : List Entry) (e : Entry) (s : FirstFrame) → role d e ≡ first s
    → is_open limit d s es ≡ true → stands limit d (before ++ e ∷ es) ≡ Some (standing_of d s es)
open-stands-here limit d [] es e s h open_test = rw (h, open_test) refl
open-stands-here limit d (x ∷ before) es e s h open_test =
    let later = open-stands-here limit d before es e s h open_test in
    first-none (since limit d (role d x) (before ++ e ∷ es)) later (since-alone limit d (role d x) (before ++ e ∷ es)) where
      first-none : (a : Option StandingReception) → stands limit d (before ++ e ∷ es) ≡ Some (standing_of d s es)
          → ((st : StandingReception) → a ≡ Some st → stands limit d (before ++ e ∷ es) ≡ None) → or_else a (stands limit d (before ++ e ∷ es)) ≡ Some (standing_of d s es)
      first-none None later alone = later
      first-none (Some st) later alone = absurd (none-some (standing_of d s es) (sym (alone st refl) ∙ later))

-- ---- what stands began somewhere, and is open since

pub record Found (limit : ℕ) (d : Channel) (T : List Entry) (st : StandingReception) : Type 0 where
  pub before : List Entry
  pub e : Entry
  pub since : List Entry
  pub s : FirstFrame
  pub splits : T ≡ before ++ e ∷ since
  pub begins : role d e ≡ first s
  pub opens : is_open limit d s since ≡ true
  pub is : st ≡ standing_of d s since

found-here : (limit : ℕ) (d : Channel) (e : Entry) (es : List Entry) (r : FrameRole) (st : StandingReception) → role d e ≡ r → since limit d r es ≡ Some st → Found limit d (e ∷ es) st
found-here limit d e es (first s) st is h =
    let w = cond_some (is_open limit d s es) (standing_of d s es) st h in
    record { before = []; e = e; since = es; s = s; splits = refl; begins = is; opens = w.0; is = sym w.1 }
found-here limit d e es (single m) st is h = absurd (cc)
found-here limit d e es (consecutive sequence_number can_dl bytes) st is h = absurd (cc)
found-here limit d e es continue_or_wait st is h = absurd (cc)
found-here limit d e es overflow st is h = absurd (cc)
found-here limit d e es no_part st is h = absurd (cc)

pub found : (limit : ℕ) (d : Channel) (T : List Entry) (st : StandingReception) → stands limit d T ≡ Some st → Found limit d T st
found limit d [] st h = absurd (cc)
found limit d (e ∷ es) st h = by_head (since limit d (role d e) es) refl h (found limit d es st) where
  by_head : (o : Option StandingReception) → since limit d (role d e) es ≡ o → or_else o (stands limit d es) ≡ Some st
      → (stands limit d es ≡ Some st → Found limit d es st) → Found limit d (e ∷ es) st
  by_head (Some x) is h further = found-here limit d e es (role d e) st refl (is ∙ h)
  by_head None is h further =
      let w = further h in
      record { before = e ∷ w.before; e = w.e; since = w.since; s = w.s; splits = ap (λ l. e ∷ l) w.splits; begins = w.begins; opens = w.opens; is = w.is }
