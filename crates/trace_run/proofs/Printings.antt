-- What was said to a sheet that is then settled was printed.
use Rattle.std.proofs.Common.{◌≡◌, ◌≤◌, ◌^◌, ℕ, Bool, true, false, List, [], Ok, Err, refl}
use Rattle.std.specs.Prelude.{not}
use Rattle.trace_io.specs.declared.device.Target.{Ghosts}
use Rattle.trace_run.specs.declared.sheet.Sheet.{Sheet}
use Rattle.trace_log.specs.declared.fault.Fault.TheVariants.{Write}
use Rattle.trace_run.specs.Printed.{Prints}
use Rattle.trace_run.specs.proving.Carrying.{HasSaid, Says, Settles, blank_sheet}
use Rattle.trace_run.proofs.Carryings.{carries_at_start, wrote_all, wrote_front}
use Rattle.trace_run.proofs.DeviceFaults.{wrote_to}

module _ {W : Type 0} (target : Ghosts W) (text : List ℕ) (old new : W) where
  -- said to a sheet that was blank, and settled
  pub settled_text : (mid : W) (sheet sheet_then : Sheet) (settled : Bool) → target.failures old ≤ 2 ^ 62 → sheet.failed ≡ false
      → sheet.gathered ≡ []
      → Says target sheet old text sheet_then mid → Settles target sheet_then mid settled new
      → HasSaid target old text (blank_sheet (not settled)) new
  settled_text mid sheet sheet_then settled low well blank speaks settles =
      settles old text (speaks old [] (carries_at_start target old sheet low well blank))

  -- all of it was written
  pub printed : HasSaid target old text (blank_sheet false) new → Prints {A = Unit {0}} target text old (Ok (tt {0})) new
  printed carries = record {
    written = wrote_all target old new text carries;
    wrote = wrote_to target old new (Ok (tt {0})) text false carries
        (record { risen = λ is. absurd (cc is); same = λ _. carries.failures });
    only = tt;
    some = tt;
  }

  -- a front of it was written, and that failed
  pub printed_front : HasSaid target old text (blank_sheet true) new → Prints {A = Unit {0}} target text old (Err Write) new
  printed_front carries = record {
    written = wrote_front target old new text true carries;
    wrote = wrote_to target old new (Err Write) text true carries
        (record { risen = λ _. carries.failures; same = λ other. absurd (other refl) });
    only = refl;
    some = carries.failed_some refl;
  }
