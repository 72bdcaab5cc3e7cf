-- How a consecutive frame fits what stands, by its four tests.
use Rattle.std.proofs.Common.{◌≡◌, ℕ, ◌+◌, ◌-◌, ◌%◌, ◌<◌, ◌≤◌, Bool, true, false, ◌&&◌, List, length, nat_lt, nat_le, ◌==◌, Option, Some, None}
use Rattle.std.proofs.Common.{refl, sym, ◌∙◌, cond}
use Rattle.std.specs.Prelude.{not}
use Rattle.std.proofs.lemmas.Bool.{and_parts, ltb-true, ltb-false, leb-true, eqb-true}
use Rattle.isotp_receive.specs.OnTime.{n_cr}
use Rattle.isotp_receive.specs.Fit.{Fit, late, wrong_number, wrong_length, one_more, last}
use Rattle.isotp_receive.specs.StandingReception.{StandingReception, is_on_time, expected, has_length, stays_incomplete, fit_of, is_next}
use Rattle.isotp_receive.specs.Verdict.{message, on_fit, on_consecutive}
use Rattle.direction.specs.declared.Dir.{Dir}

-- what the tests make of it: whether it is on time, of the expected number, of a length that fits, and not the last
abbrev pub by_tests : Bool → Bool → Bool → Bool → Fit
by_tests on_time number fits more = cond (not on_time) late (cond (not number) wrong_number (cond (not fits) wrong_length (cond more one_more last)))

-- ---- how it fits where the tests say so

module _ (s : StandingReception) (micros sequence_number can_dl : ℕ) where
  pub is-late : is_on_time s micros ≡ false → fit_of s micros sequence_number can_dl ≡ late
  is-late on_time = rw on_time refl

  pub is-wrong-number : is_on_time s micros ≡ true → (sequence_number == expected s) ≡ false → fit_of s micros sequence_number can_dl ≡ wrong_number
  is-wrong-number on_time number = rw (on_time, number) refl

  pub is-wrong-length : is_on_time s micros ≡ true → (sequence_number == expected s) ≡ true → has_length s can_dl ≡ false
      → fit_of s micros sequence_number can_dl ≡ wrong_length
  is-wrong-length on_time number fits = rw (on_time, number, fits) refl

  pub is-more : is_on_time s micros ≡ true → (sequence_number == expected s) ≡ true → has_length s can_dl ≡ true → stays_incomplete s ≡ true
      → fit_of s micros sequence_number can_dl ≡ one_more
  is-more on_time number fits more = rw (on_time, number, fits, more) refl

  pub is-last : is_on_time s micros ≡ true → (sequence_number == expected s) ≡ true → has_length s can_dl ≡ true → stays_incomplete s ≡ false
      → fit_of s micros sequence_number can_dl ≡ last
  is-last on_time number fits more = rw (on_time, number, fits, more) refl

-- ---- what the tests said of one that fits

more-inv : (o q h b : Bool) → by_tests o q h b ≡ one_more → (o ≡ true) × (q ≡ true) × (h ≡ true) × (b ≡ true)
more-inv true true true true e = (refl, refl, refl, refl)
more-inv true true true false e = absurd (cc)
more-inv true true false b e = absurd (cc)
more-inv true false h b e = absurd (cc)
more-inv false q h b e = absurd (cc)

last-inv : (o q h b : Bool) → by_tests o q h b ≡ last → (o ≡ true) × (q ≡ true) × (h ≡ true) × (b ≡ false)
last-inv true true true true e = absurd (cc)
last-inv true true true false e = (refl, refl, refl, refl)
last-inv true true false b e = absurd (cc)
last-inv true false h b e = absurd (cc)
last-inv false q h b e = absurd (cc)

pub next-by-tests : (o q h b : Bool) → is_next (by_tests o q h b) ≡ (o && (q && h))
next-by-tests true true true true = refl
next-by-tests true true true false = refl
next-by-tests true true false b = refl
next-by-tests true false h b = refl
next-by-tests false q h b = refl

pub record WasMore (s : StandingReception) (micros sequence_number can_dl : ℕ) : Type 0 where
  pub on_time : micros ≤ s.reference + n_cr
  pub number : sequence_number ≡ (s.taken + 1) % 16
  pub full : can_dl ≡ s.rx_dl
  pub room : length s.bytes + (s.rx_dl - 1) < s.len

pub record WasLast (s : StandingReception) (micros sequence_number can_dl : ℕ) : Type 0 where
  pub on_time : micros ≤ s.reference + n_cr
  pub number : sequence_number ≡ (s.taken + 1) % 16
  pub low : 1 + (s.len - length s.bytes) ≤ can_dl
  pub high : can_dl ≤ s.rx_dl
  pub ends : s.len ≤ length s.bytes + (s.rx_dl - 1)

-- the next one passed the first three tests
pub record WasNext (s : StandingReception) (micros sequence_number can_dl : ℕ) : Type 0 where
  pub on_time : is_on_time s micros ≡ true
  pub number : (sequence_number == expected s) ≡ true
  pub fits : has_length s can_dl ≡ true

module _ (s : StandingReception) (micros sequence_number can_dl : ℕ) where
  pub was-more : fit_of s micros sequence_number can_dl ≡ one_more → WasMore s micros sequence_number can_dl
  was-more is =
      let w = more-inv (is_on_time s micros) (sequence_number == expected s) (has_length s can_dl) (stays_incomplete s) is in
      let fit = (and_parts (nat_lt (length s.bytes) s.len) _ w.2).1 in
      record { on_time = leb-true _ _ w.0; number = eqb-true _ _ w.1; full = eqb-true _ _ (rw w.3 at fit); room = ltb-true _ _ w.3 }

  pub was-last : fit_of s micros sequence_number can_dl ≡ last → WasLast s micros sequence_number can_dl
  was-last is =
      let w = last-inv (is_on_time s micros) (sequence_number == expected s) (has_length s can_dl) (stays_incomplete s) is in
      let fit = (and_parts (nat_lt (length s.bytes) s.len) _ w.2).1 in
      let ends = and_parts (nat_le (1 + (s.len - length s.bytes)) can_dl) _ (rw w.3 at fit) in
      record {
        on_time = leb-true _ _ w.0;
        number = eqb-true _ _ w.1;
        low = leb-true _ _ ends.0;
        high = leb-true _ _ ends.1;
        ends = ltb-false _ _ w.3;
      }

  pub next-tests : is_next (fit_of s micros sequence_number can_dl) ≡ (is_on_time s micros && (sequence_number == expected s && has_length s can_dl))
  next-tests = next-by-tests (is_on_time s micros) (sequence_number == expected s) (has_length s can_dl) (stays_incomplete s)

  pub was-next : is_next (fit_of s micros sequence_number can_dl) ≡ true → WasNext s micros sequence_number can_dl
  was-next is =
      let on = and_parts (is_on_time s micros) _ (sym next-tests ∙ is) in
      let number = and_parts (sequence_number == expected s) _ on.1 in
      record { on_time = on.0; number = number.0; fits = number.1 }

  pub is-next-one : WasNext s micros sequence_number can_dl → is_next (fit_of s micros sequence_number can_dl) ≡ true
  is-next-one w = next-tests ∙ rw (w.on_time, w.number, w.fits) refl

-- ---- the verdict on it

-- a frame that completes a message ends nothing
told-last : (d : Dir) (s : StandingReception) (fit : Fit) (sequence_number : ℕ) (bytes m : List ℕ)
    → (on_fit d s fit sequence_number bytes).verdict ≡ message m → (on_fit d s fit sequence_number bytes).ended ≡ None
told-last d s last sequence_number bytes m h = refl
told-last d s one_more sequence_number bytes m h = absurd (cc)
told-last d s late sequence_number bytes m h = absurd (cc)
told-last d s wrong_number sequence_number bytes m h = absurd (cc)
told-last d s wrong_length sequence_number bytes m h = absurd (cc)

pub last-ends-nothing : (d : Dir) (o : Option StandingReception) (micros sequence_number can_dl : ℕ) (bytes m : List ℕ)
    → (on_consecutive d o micros sequence_number can_dl bytes).verdict ≡ message m → (on_consecutive d o micros sequence_number can_dl bytes).ended ≡ None
last-ends-nothing d None micros sequence_number can_dl bytes m h = refl
last-ends-nothing d (Some s) micros sequence_number can_dl bytes m h = told-last d s (fit_of s micros sequence_number can_dl) sequence_number bytes m h
