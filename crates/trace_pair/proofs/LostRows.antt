-- The losses that rows tell, from one place up to another.
use Rattle.std.proofs.Common.{◌≡◌, ℕ, suc, ◌+◌, ◌-◌, ◌≤◌, ◌<◌, Bool, true, false, List, [], ◌∷◌}
use Rattle.std.proofs.Common.{◌++◌, length, take, Option, Some, None, ap, sym, ◌∙◌, arith, refl}
use Rattle.std.specs.Prelude.{◌&&◌, nat_lt, slice_get, if◌then◌else◌}
use Rattle.std.specs.List.{flat_map}
use Rattle.std.proofs.lemmas.Bool.{ltb-false, ltb-true}
use Rattle.std.proofs.lemmas.List.{take_all}
use Rattle.text_parts.proofs.Promises.{IsLeft, same-rest, said-whole, say-more}
use Rattle.trace_report.specs.Rows.{RowValue}
use Rattle.pair_words.specs.declared.log.PairLog.{PairLog}
use Rattle.trace_pair.specs.Losses.{is_loss, loss_line}
use Rattle.trace_pair.specs.proving.Losing.{loss_if, lost, lost_if}
use Rattle.trace_pair.proofs.LossPlaces.{piece}
use Rattle.pair_words.proofs.Promises.{cut-first, cut-none, cut-past, past-end}

-- what is lost with a row in front, if there is one
abbrev pub with_loss : Option RowValue → List RowValue → List RowValue
with_loss None later = later
with_loss (Some row) later = if is_loss row then row ∷ later else later

pub lost-next : (rows : List RowValue) (at to : ℕ) (there : Option RowValue) → at < to → slice_get rows at ≡ there
    → lost (piece at to rows) ≡ with_loss there (lost (piece (at + 1) to rows))
lost-next rows at to None below is =
    let past = past-end rows at is in
    ap lost (cut-past rows at to past) ∙ sym (ap lost (cut-past rows (at + 1) to (omega (arith, past))))
lost-next rows at to (Some row) below is = ap lost (cut-first rows at to row below is)

pub count-next : (there : Option RowValue) (later : List RowValue) → length (with_loss there later) ≡ lost_if there + length later
count-next None later = omega arith
count-next (Some row) later = by (is_loss row)
  where
    by : (loss : Bool) → length (if loss then row ∷ later else later) ≡ (if loss then 1 else 0) + length later
    by true = omega arith
    by false = omega arith

pub lost-end : (rows : List RowValue) (at to : ℕ) → to ≤ at → lost (piece at to rows) ≡ []
lost-end rows at to over = ap lost (cut-none rows at to over)

module _ {S : Type 0} (says : S → List ℕ → S → Type 0) (onward : (s m t : S) (a b : List ℕ) → says s a m → says m b t → says s (a ++ b) t)
    (log : PairLog) (old : S) (whole : List ℕ) where
  abbrev pub Told : ℕ → List RowValue → S → Type 0
  Told told losses now = IsLeft says old (flat_map (loss_line log) (take (20 - told) losses)) whole now

  -- a loss more is said, or none, where the row tells none, or twenty were told
  one-told : (told : ℕ) (loss room : Bool) (row : RowValue) (later : List RowValue) (now new : S) → (room ≡ true → told < 20) → (room ≡ false → 20 ≤ told)
      → Told told (if loss then row ∷ later else later) now → says now (if loss && room then loss_line log row else []) new
      → Told (told + (if loss then 1 else 0)) later new
  one-told told true true row later now new low high left said =
      let below : told < 20 = low refl in
      let more : 20 - told ≡ suc (20 - (told + 1)) = omega (arith, below) in
      say-more says onward old now new (loss_line log row) (flat_map (loss_line log) (take (20 - (told + 1)) later)) whole
      (same-rest says old now _ _ whole (ap (λ (n : ℕ). flat_map (loss_line log) (take n (row ∷ later))) more) left) said
  one-told told true false row later now new low high left said =
      let over : 20 ≤ told = high refl in
      let none : 20 - told ≡ 0 = omega (arith, over) in
      let later_none : 20 - (told + 1) ≡ 0 = omega (arith, over) in
      same-rest says old new _ _ whole (sym (ap (λ (n : ℕ). flat_map (loss_line log) (take n later)) later_none))
      (say-more says onward old now new [] [] whole (same-rest says old now _ _ whole (ap (λ (n : ℕ). flat_map (loss_line log) (take n (row ∷ later))) none) left) said)
  one-told told false room row later now new low high left said =
      let still : told ≡ told + 0 = omega arith in
      same-rest says old new _ _ whole (ap (λ (n : ℕ). flat_map (loss_line log) (take (20 - n) later)) still)
      (say-more says onward old now new [] (flat_map (loss_line log) (take (20 - told) later)) whole left said)

  pub turn-loss : (told : ℕ) (there : Option RowValue) (later : List RowValue) (now new : S) → Told told (with_loss there later) now
      → says now (loss_if log told there) new → Told (told + lost_if there) later new
  turn-loss told None later now new left said =
      let still : told ≡ told + 0 = omega arith in
      same-rest says old new _ _ whole (ap (λ (n : ℕ). flat_map (loss_line log) (take (20 - n) later)) still)
      (say-more says onward old now new [] (flat_map (loss_line log) (take (20 - told) later)) whole left said)
  turn-loss told (Some row) later now new left said =
      one-told told (is_loss row) (nat_lt told 20) row later now new (λ room. ltb-true told 20 room) (λ full. ltb-false told 20 full) left said

  pub turn-lost-end : (told : ℕ) (losses : List RowValue) (now : S) → losses ≡ [] → Told told losses now → says old whole now
  turn-lost-end told losses now none left =
      said-whole says old now whole
      (same-rest says old now _ _ whole (ap (λ (l : List RowValue). flat_map (loss_line log) (take (20 - told) l)) none ∙ ap (flat_map (loss_line log)) (take_all (20 - told) [] (omega arith))) left)
