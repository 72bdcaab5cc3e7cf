-- Devices of proof: what is said to a sheet beside its target, text after text. They stand here, since the ghost members
-- of `SheetSink` are made of them.
use Rattle.std.proofs.Common.{ℕ, List, [], ◌++◌, sym, subst, append-nil, append_assoc}
use Rattle.trace_io.specs.declared.device.Target.{Ghosts}
use Rattle.trace_run.specs.declared.sheet.Sheet.{Sheet}
use Rattle.trace_run.specs.proving.Carrying.{HasSaid, Says}

-- nothing is said where the sheet and its target stay as they are
pub says_empty_text : {W : Type 0} (target : Ghosts W) (sheet : Sheet) (now : W) → Says target sheet now [] sheet now
says_empty_text target sheet now start said carries = subst (λ text. HasSaid target start text sheet now) (sym (append-nil said)) carries

-- one text is said, and then another: that is the two as one text
pub says_onward : {W : Type 0} (target : Ghosts W) (sheet sheet_then sheet_now : Sheet) (old mid new : W) (a b : List ℕ)
    → Says target sheet old a sheet_then mid → Says target sheet_then mid b sheet_now new
    → Says target sheet old (a ++ b) sheet_now new
says_onward target sheet sheet_then sheet_now old mid new a b one two start said carries =
    subst (λ text. HasSaid target start text sheet_now new) (append_assoc said a b) (two start (said ++ a) (one start said carries))
