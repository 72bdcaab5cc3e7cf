-- What is carried since a start: nothing at first, then a text more, and all of it once nothing is left on the sheet.
use Rattle.std.proofs.Common.{◌≡◌, ◌<◌, ◌≤◌, ◌^◌, Bool, true, false, List, [], ◌∷◌, ◌++◌, ℕ, length, arith, refl, ap, sym}
use Rattle.std.proofs.Common.{subst, ◌∙◌, append-nil, append_assoc, length-append}
use Rattle.trace_io.proofs.Promises.{took_no_byte}
use Rattle.trace_io.specs.Written.{HasFront}
use Rattle.trace_io.specs.declared.device.Target.{Ghosts}
use Rattle.trace_run.specs.declared.sheet.Sheet.{Sheet}
use Rattle.trace_run.specs.proving.Carrying.{HasSaid, HasCarried, blank_sheet}
use Rattle.trace_run.proofs.WrittenFronts.{written_all, front_longer}

-- a text that was said, and found room behind what is gathered
carried_more : (failed : Bool) (old said text gathered new : List ℕ) → HasCarried failed old said gathered new
    → HasCarried failed old (said ++ text) (gathered ++ text) new
carried_more false old said text gathered new is = record {
  front = is.front;
  parts = ap (λ x. x ++ text) is.parts ∙ append_assoc is.front gathered text;
  wrote = is.wrote;
}
carried_more true old said text gathered new is = front_longer old said text new is

-- where something is gathered with it, all that was said is something
some_more : (said text gathered : List ℕ) → (0 < length gathered → 0 < length said) → 0 < length (gathered ++ text)
    → 0 < length (said ++ text)
some_more said text [] is some = omega (arith, length-append said text)
some_more said text (byte ∷ gathered) is some = omega (arith, is (omega arith), length-append said text)

-- a sheet with nothing on it is blank
pub is_blank : (sheet : Sheet) → sheet.failed ≡ false → sheet.gathered ≡ [] → blank_sheet false ≡ sheet
is_blank sheet well blank = λ i. record { gathered = sym blank i; failed = sym well i }

module _ {W : Type 0} (target : Ghosts W) where
  -- nothing was said to a sheet with nothing on it
  pub carries_at_start : (start : W) (sheet : Sheet) → target.failures start ≤ 2 ^ 62 → sheet.failed ≡ false → sheet.gathered ≡ []
      → HasSaid target start [] sheet start
  carries_at_start start sheet low well blank =
      subst (λ p. HasSaid target start [] p start) (is_blank sheet well blank) (record {
        low = low;
        gathered_some = λ some. absurd (omega arith);
        failed_some = λ is. absurd (cc is);
        still = λ none. refl;
        failures = refl;
        no_empty_write = refl;
        flushes = refl;
        took = took_no_byte (target.taken start) (target.contents start);
        written = record { front = []; parts = refl; wrote = sym (append-nil (target.taken start)) };
      })

  -- what was said was written
  pub wrote_all : (start now : W) (said : List ℕ) → HasSaid target start said (blank_sheet false) now
      → target.taken now ≡ target.taken start ++ said
  wrote_all start now said carries = written_all (target.taken start) said (target.taken now) [] carries.written refl

  -- a front of what was said was written, whether writing failed or not
  pub wrote_front : (start now : W) (said : List ℕ) (failed : Bool) → HasSaid target start said (blank_sheet failed) now
      → HasFront (target.taken start) said (target.taken now)
  wrote_front start now said true carries = carries.written
  wrote_front start now said false carries =
      record { front = said; rest = []; parts = sym (append-nil said); wrote = wrote_all start now said carries }

  -- a text more was said, and is gathered behind what was
  pub gathered_more : (start now : W) (said text : List ℕ) (sheet : Sheet) (gathered_now : List ℕ) → gathered_now ≡ sheet.gathered ++ text
      → HasSaid target start said sheet now
      → HasSaid target start (said ++ text) (record sheet { gathered = gathered_now }) now
  gathered_more start now said text sheet gathered_now is so_far =
      subst (λ gathered. HasSaid target start (said ++ text) (record sheet { gathered = gathered }) now) (sym is) (record {
        low = so_far.low;
        gathered_some = some_more said text sheet.gathered so_far.gathered_some;
        failed_some = λ has. omega (arith, so_far.failed_some has, length-append said text);
        still = λ none. so_far.still (omega (arith, none, length-append said text));
        failures = so_far.failures;
        no_empty_write = so_far.no_empty_write;
        flushes = so_far.flushes;
        took = so_far.took;
        written = carried_more sheet.failed (target.taken start) said text sheet.gathered (target.taken now) so_far.written;
      })

  -- a text more was said, and nothing of it is gathered, where writing had failed
  pub said_in_vain : (start now : W) (said text : List ℕ) (sheet : Sheet) → sheet.failed ≡ true
      → HasSaid target start said sheet now
      → HasSaid target start (said ++ text) sheet now
  said_in_vain start now said text sheet wrong carries =
      let so_far : HasSaid target start said (record sheet { failed = true }) now =
      subst (λ b. HasSaid target start said (record sheet { failed = b }) now) wrong carries in
      subst (λ b. HasSaid target start (said ++ text) (record sheet { failed = b }) now) (sym wrong) (record {
        low = so_far.low;
        gathered_some = λ some. omega (arith, so_far.gathered_some some, length-append said text);
        failed_some = λ is. omega (arith, so_far.failed_some refl, length-append said text);
        still = λ none. so_far.still (omega (arith, none, length-append said text));
        failures = so_far.failures;
        no_empty_write = so_far.no_empty_write;
        flushes = so_far.flushes;
        took = so_far.took;
        written = front_longer (target.taken start) said text (target.taken now) so_far.written;
      })

  -- what is gathered is let go, where writing had failed
  pub let_go : (start now : W) (said : List ℕ) (sheet : Sheet) → sheet.failed ≡ true → HasSaid target start said sheet now
      → HasSaid target start said (blank_sheet true) now
  let_go start now said sheet wrong carries =
      let so_far : HasSaid target start said (record sheet { failed = true }) now =
      subst (λ b. HasSaid target start said (record sheet { failed = b }) now) wrong carries in
      record {
        low = so_far.low;
        gathered_some = λ some. absurd (omega arith);
        failed_some = so_far.failed_some;
        still = so_far.still;
        failures = so_far.failures;
        no_empty_write = so_far.no_empty_write;
        flushes = so_far.flushes;
        took = so_far.took;
        written = so_far.written;
      }
