-- One more frame makes of what stands what `after` says.
use Rattle.std.proofs.Common.{◌≡◌, ℕ, ◌==◌, ◌+◌, ◌-◌, ◌*◌, Bool, true, false, ◌&&◌, List, [], ◌∷◌, ◌++◌, length, nat_lt, nat_le, Option, Some, None}
use Rattle.std.proofs.Common.{refl, sym, ◌∙◌, ap, arith, cond, length-append, append_assoc, add-zero}
use Rattle.std.proofs.lemmas.List.{append-nil}
use Rattle.std.proofs.lemmas.Bool.{ltb-true, lt-ltb}
use Rattle.std.proofs.Math.Bool.{and-true}
use Rattle.isotp_receive.specs.declared.channel.Channel.{Channel}
use Rattle.isotp_receive.specs.Trace.{Entry, FirstFrame, FrameRole, single, first, consecutive, continue_or_wait, overflow, no_part, role}
use Rattle.isotp_receive.specs.Places.{consecutive_by, consecutive_frames_in}
use Rattle.isotp_receive.specs.StandingReception.{carried_by, carried, referred, reference, carried_after, is_on_time, expected, has_length, stays_incomplete, keeps_by, keep, is_open, StandingReception, standing_of, since, or_else, stands}
use Rattle.isotp_receive.specs.proving.Machine.{continued_by, continued, continue, after}
use Rattle.isotp_receive.proofs.Choices.{stopped, unchanged, stopped-at-zero, moved-behind}
use Rattle.isotp_receive.proofs.Readings.{IsRoleOf, role_from}
use Rattle.isotp_receive.proofs.CountedFrames.{taken-snoc, carried-snoc, reference-snoc, keep-snoc}
use Rattle.isotp_receive.proofs.FullFrames.{carried-full}
use Rattle.isotp_receive.proofs.StandsAlone.{since-alone}
use Rattle.isotp_receive.proofs.FitTests.{by_tests, next-tests}

-- ---- a reception goes on where all tests pass

continued-by-tests : (o q f b : Bool) (s : StandingReception) (micros : ℕ) (bytes : List ℕ)
    → continued_by (by_tests o q f b) s micros bytes
    ≡ cond (o && (q && (f && b))) (Some (record s { taken = s.taken + 1; bytes = s.bytes ++ bytes; reference = micros })) None
continued-by-tests false q f b s micros bytes = refl
continued-by-tests true false f b s micros bytes = refl
continued-by-tests true true false b s micros bytes = refl
continued-by-tests true true true false s micros bytes = refl
continued-by-tests true true true true s micros bytes = refl

goes_if : (s : StandingReception) (micros sequence_number can_dl : ℕ) (bytes : List ℕ)
    → continued s micros (consecutive sequence_number can_dl bytes)
    ≡ cond (is_on_time s micros && (sequence_number == expected s && (has_length s can_dl && stays_incomplete s)))
    (Some (record s { taken = s.taken + 1; bytes = s.bytes ++ bytes; reference = micros })) None
goes_if s micros sequence_number can_dl bytes =
    continued-by-tests (is_on_time s micros) (sequence_number == expected s) (has_length s can_dl) (stays_incomplete s) s micros bytes

pull : (c : Bool) (st : StandingReception) (micros : ℕ) (r : FrameRole) → continue (cond c (Some st) None) micros r ≡ cond c (continued st micros r) None
pull true st micros r = refl
pull false st micros r = refl

-- ---- the reception that began with a frame, one frame later

module _ (limit : ℕ) (d : Channel) (s : FirstFrame) (es : List Entry) (micros : ℕ) where
  within : Bool
  within = nat_le s.len limit

  room : Bool
  room = nat_lt (carried_after s (consecutive_frames_in d es)) s.len

  kept : Bool
  kept = keep d s [] es

  st : StandingReception
  st = standing_of d s es

  -- the right side, by what the reception was before
  pulled : (r : FrameRole) → cond (is_open limit d s es) (continued st micros r) None ≡ continue (since limit d (first s) es) micros r
  unfolding st
  pulled r = sym (pull (is_open limit d s es) st micros r)

  one-later : (r : FrameRole)
      → cond (nat_le s.len limit && (nat_lt (carried_after s (consecutive_frames_in d es + consecutive_by r)) s.len && (keep d s [] es && keeps_by d s es micros r)))
      (Some (record {
        line = s.line;
        len = s.len;
        rx_dl = s.rx_dl;
        taken = consecutive_frames_in d es + consecutive_by r;
        bytes = s.bytes ++ (carried d es ++ carried_by r);
        reference = referred r micros (reference d s.micros es);
      })) None
      ≡ continue (since limit d (first s) es) micros r
  unfolding within room kept st
  one-later (single m) = stopped within (nat_lt (carried_after s (consecutive_frames_in d es + 0)) s.len) kept (is_open limit d s es) _ ∙ pulled (single m)
  one-later (first f) = stopped within (nat_lt (carried_after s (consecutive_frames_in d es + 0)) s.len) kept (is_open limit d s es) _ ∙ pulled (first f)
  one-later (consecutive sequence_number can_dl bytes) =
      ap (λ next. cond (within && (nat_lt (carried_after s (consecutive_frames_in d es + 1)) s.len && (kept && next))) (Some (record {
        line = s.line;
        len = s.len;
        rx_dl = s.rx_dl;
        taken = consecutive_frames_in d es + 1;
        bytes = s.bytes ++ (carried d es ++ bytes);
        reference = micros;
      })) None)
      (next-tests st micros sequence_number can_dl)
      ∙ moved-behind within room (nat_lt (carried_after s (consecutive_frames_in d es + 1)) s.len) (stays_incomplete st) kept
      (is_on_time st micros) (sequence_number == expected st) (has_length st can_dl) _ _
      (λ h. lt-ltb _ _ (omega (arith, ltb-true (carried_after s (consecutive_frames_in d es + 1)) s.len h)))
      (λ ha hb hk.
      let have : length st.bytes ≡ carried_after s (consecutive_frames_in d es) =
      simp length-append (omega (arith, carried-full d s es hk (ltb-true _ _ hb))) in
      ap (λ n. nat_lt n s.len) (omega (arith, have)))
      (ap (λ b. record { line = s.line; len = s.len; rx_dl = s.rx_dl; taken = consecutive_frames_in d es + 1; bytes = b; reference = micros })
      (sym (append_assoc s.bytes (carried d es) bytes)))
      ∙ ap (λ o. cond (is_open limit d s es) o None) (sym (goes_if st micros sequence_number can_dl bytes))
      ∙ pulled (consecutive sequence_number can_dl bytes)
  one-later continue_or_wait = rw (add-zero, append-nil) (unchanged within room kept _ _ refl ∙ pulled continue_or_wait)
  one-later overflow = rw (add-zero, append-nil) (stopped-at-zero within room kept (consecutive_frames_in d es) _ _ refl ∙ pulled overflow)
  one-later no_part = rw (add-zero, append-nil) (unchanged within room kept _ _ refl ∙ pulled no_part)

since-snoc : (limit : ℕ) (d : Channel) (r : FrameRole) (es : List Entry) (e : Entry) → since limit d r (es ++ e ∷ []) ≡ continue (since limit d r es) e.micros (role d e)
since-snoc limit d (first s) es e = rw (taken-snoc, carried-snoc, reference-snoc, keep-snoc) (one-later limit d s es e.micros (role d e))
since-snoc limit d (single m) es e = refl
since-snoc limit d (consecutive sequence_number can_dl bytes) es e = refl
since-snoc limit d continue_or_wait es e = refl
since-snoc limit d overflow es e = refl
since-snoc limit d no_part es e = refl

-- ---- the first of all that stand

or_none : (a : Option StandingReception) → or_else a None ≡ a
or_none None = refl
or_none (Some s) = refl

join : (a b c : Option StandingReception) (micros : ℕ) (r : FrameRole) → ((st : StandingReception) → a ≡ Some st → b ≡ None)
    → or_else (continue a micros r) (or_else (continue b micros r) c) ≡ or_else (continue (or_else a b) micros r) c
join None b c micros r h = refl
join (Some s) b c micros r h = rw (h s refl) refl

one_step : (limit : ℕ) (d : Channel) (T : List Entry) (e : Entry)
    → stands limit d (T ++ e ∷ []) ≡ or_else (continue (stands limit d T) e.micros (role d e)) (since limit d (role d e) [])
one_step limit d [] e = or_none (since limit d (role d e) [])
one_step limit d (x ∷ T) e =
    rw (since-snoc limit d (role d x) T e, one_step limit d T e)
    (join (since limit d (role d x) T) (stands limit d T) (since limit d (role d e) []) e.micros (role d e) (since-alone limit d (role d x) T))

-- ---- a step that begins a reception, or goes on with one

continue_begins : (o : Option StandingReception) (micros : ℕ) (s : FirstFrame) → continue o micros (first s) ≡ None
continue_begins None micros s = refl
continue_begins (Some t) micros s = refl

continue_whole : (o : Option StandingReception) (micros : ℕ) (m : List ℕ) → continue o micros (single m) ≡ None
continue_whole None micros m = refl
continue_whole (Some t) micros m = refl

by_step : (limit : ℕ) (d : Channel) (o : Option StandingReception) (micros : ℕ) (x : List ℕ) (r : FrameRole) → IsRoleOf micros x r
    → or_else (continue o micros r) (since limit d r []) ≡ after limit o micros r
by_step limit d o micros x (first s) from =
    let starts : nat_lt (length s.bytes + 0 * (s.rx_dl - 1)) s.len ≡ true = lt-ltb _ _ (omega (arith, from)) in
    rw (continue_begins o micros s, starts, and-true, append-nil) refl
by_step limit d o micros x (single m) from = or_none (continue o micros (single m)) ∙ continue_whole o micros m
by_step limit d o micros x (consecutive sequence_number can_dl bytes) from = or_none (continue o micros (consecutive sequence_number can_dl bytes))
by_step limit d o micros x continue_or_wait from = or_none (continue o micros continue_or_wait)
by_step limit d o micros x overflow from = or_none (continue o micros overflow)
by_step limit d None micros x no_part from = refl
by_step limit d (Some s) micros x no_part from = refl

pub one_more : (limit : ℕ) (d : Channel) (T : List Entry) (e : Entry) → stands limit d (T ++ e ∷ []) ≡ after limit (stands limit d T) e.micros (role d e)
one_more limit d T e = one_step limit d T e ∙ by_step limit d (stands limit d T) e.micros e.frame.bytes (role d e) (role_from d e)
