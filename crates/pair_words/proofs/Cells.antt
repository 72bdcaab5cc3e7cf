-- The columns of a line, one after another.
use Rattle.std.proofs.Common.{◌≡◌, ℕ, ◌+◌, ◌-◌, ◌≤◌, ◌<◌, Bool, false, List, [], ◌∷◌, ◌++◌, codes, length, take}
use Rattle.std.proofs.Common.{drop, Option, Some, None, option_to_list, arith, ap, subst, sym, ◌∙◌, refl}
use Rattle.std.specs.Prelude.{slice_get}
use Rattle.std.proofs.lemmas.List.{length-append}
use Rattle.text_parts.proofs.Promises.{IsLeft, said-whole, same-rest, say-last, say-more}
use Rattle.byte_columns.specs.declared.column.Column.{Column}
use Rattle.byte_columns.specs.Columns.{count_in, differs, left_bytes, right_bytes}
use Rattle.pair_words.specs.declared.log.PairLog.{PairLog}
use Rattle.pair_words.specs.declared.log.PairLog.TheVariants.{A, B}
use Rattle.pair_words.specs.ColumnLines.{byte_or_gap, bytes_in, cells, cells_behind, column_letters, letter_or_gap, mark_end, mark_start}
use Rattle.pair_words.specs.Logs.{byte_of}
use Rattle.pair_words.proofs.Pieces.{cut-first, cut-none}

-- how many bytes a log has in columns
one-listed : (byte : Option ℕ) → count_in byte ≡ length (option_to_list byte)
one-listed None = refl
one-listed (Some byte) = refl

pub left-listed : (columns : List Column) → left_bytes columns ≡ length (bytes_in A columns)
left-listed [] = refl
left-listed (here ∷ later) =
    let one = one-listed here.left in
    let rest = left-listed later in
    let both = length-append (option_to_list here.left) (bytes_in A later) in
    omega arith

pub right-listed : (columns : List Column) → right_bytes columns ≡ length (bytes_in B columns)
right-listed [] = refl
right-listed (here ∷ later) =
    let one = one-listed here.right in
    let rest = right-listed later in
    let both = length-append (option_to_list here.right) (bytes_in B later) in
    omega arith

module _ {S : Type 0} (says : S → List ℕ → S → Type 0) (onward : (s m t : S) (a b : List ℕ) → says s a m → says m b t → says s (a ++ b) t)
    (log : PairLog) (columns : List Column) (to : ℕ) (old : S) (whole : List ℕ) where
  abbrev pub Behind : Bool → ℕ → S → Type 0
  Behind marked at now = IsLeft says old (cells_behind log marked (take (to - at) (drop at columns))) whole now

  -- one more column is said
  pub turn-cell : (marked next : Bool) (cell : Option ℕ) (at : ℕ) (here : Column) (now new : S) → at < to → slice_get columns at ≡ Some here
      → next ≡ differs here → cell ≡ byte_of log here → Behind marked at now
      → says now (mark_end marked next ++ codes " " ++ mark_start marked next ++ byte_or_gap cell) new → Behind next (at + 1) new
  turn-cell marked next cell at here now new below there next_is cell_is left said =
      let rest = take (to - (at + 1)) (drop (at + 1) columns) in
      let part = mark_end marked next ++ codes " " ++ mark_start marked next ++ byte_or_gap cell in
      let parts : cells_behind log marked (here ∷ rest) ≡ part ++ cells_behind log next rest =
      (λ i. mark_end marked (sym next_is i) ++ codes " " ++ mark_start marked (sym next_is i) ++ byte_or_gap (sym cell_is i) ++ cells_behind log (sym next_is i) rest) in
      say-more says onward old now new part (cells_behind log next rest) whole
      (same-rest says old now _ _ whole (ap (cells_behind log marked) (cut-first columns at to here below there) ∙ parts) left) said

  -- and that is all
  pub turn-last : (marked : Bool) (at : ℕ) (now new : S) → to ≡ at → Behind marked at now → says now (mark_end marked false) new → says old whole new
  turn-last marked at now new e left said =
      say-last says onward old now new _ whole (same-rest says old now _ _ whole (ap (cells_behind log marked) (cut-none columns at to (omega arith))) left) said

  abbrev pub Letters : ℕ → S → Type 0
  Letters at now = IsLeft says old (column_letters log (take (to - at) (drop at columns))) whole now

  -- one more letter is said, or a blank, where a log has no byte in a column
  pub turn-letter : (at : ℕ) (here : Column) (now new : S) → at < to → slice_get columns at ≡ Some here → Letters at now
      → says now (letter_or_gap (byte_of log here)) new → Letters (at + 1) new
  turn-letter at here now new below there left said =
      let rest = take (to - (at + 1)) (drop (at + 1) columns) in
      say-more says onward old now new (letter_or_gap (byte_of log here)) (column_letters log rest) whole
      (same-rest says old now _ _ whole (ap (column_letters log) (cut-first columns at to here below there)) left) said

  -- and that are all
  pub letters-end : (at : ℕ) (now : S) → to ≤ at → Letters at now → says old whole now
  letters-end at now over left =
      said-whole says old now whole (same-rest says old now _ _ whole (ap (column_letters log) (cut-none columns at to over)) left)

-- the first column of a line, and those behind it
module _ {S : Type 0} (says : S → List ℕ → S → Type 0) (onward : (s m t : S) (a b : List ℕ) → says s a m → says m b t → says s (a ++ b) t)
    (log : PairLog) (columns : List Column) (to : ℕ) where
  pub first-cell : (next : Bool) (cell : Option ℕ) (at : ℕ) (here : Column) (old mid new : S) → at < to → slice_get columns at ≡ Some here
      → next ≡ differs here → cell ≡ byte_of log here → says old (mark_start false next ++ byte_or_gap cell) mid
      → says mid (cells_behind log next (take (to - (at + 1)) (drop (at + 1) columns))) new → says old (cells log (take (to - at) (drop at columns))) new
  first-cell next cell at here old mid new below there next_is cell_is first later =
      let rest = take (to - (at + 1)) (drop (at + 1) columns) in
      let parts : cells log (here ∷ rest) ≡ mark_start false next ++ byte_or_gap cell ++ cells_behind log next rest =
      (λ i. mark_start false (sym next_is i) ++ byte_or_gap (sym cell_is i) ++ cells_behind log (sym next_is i) rest) in
      subst (λ (text : List ℕ). says old text new) (sym (ap (cells log) (cut-first columns at to here below there) ∙ parts))
      (onward old mid new (mark_start false next ++ byte_or_gap cell) (cells_behind log next rest) first later)

  -- a line may have none
  pub no-cell : (at : ℕ) (old : S) → to ≤ at → says old [] old → says old (cells log (take (to - at) (drop at columns))) old
  no-cell at old over nothing = subst (λ (text : List ℕ). says old text old) (sym (ap (cells log) (cut-none columns at to over))) nothing
