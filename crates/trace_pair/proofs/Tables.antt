-- The rows of the table of items, one after another.
use Rattle.std.proofs.Common.{◌≡◌, ℕ, suc, ◌+◌, ◌-◌, ◌≤◌, ◌<◌, List, [], ◌∷◌, ◌++◌, arith, ap, ap₂, sym}
use Rattle.text_parts.proofs.Promises.{IsLeft, same-rest, said-whole, say-last, say-more}
use Rattle.uds_difference.specs.declared.row.Row.{Row}
use Rattle.trace_report.specs.Session.{SessionValue}
use Rattle.trace_pair.specs.declared.standing.Standing.{Standing}
use Rattle.trace_pair.specs.ItemTables.{placed_text, rows_text}
use Rattle.trace_pair.specs.RowStretches.{folded_row, same_rows}
use Rattle.trace_pair.specs.proving.Standings.{row_or_fold, rows_behind, standing_behind, table_end}

module _ {S : Type 0} (says : S → List ℕ → S → Type 0) (onward : (s m t : S) (a b : List ℕ) → says s a m → says m b t → says s (a ++ b) t)
    (one other : SessionValue) (old : S) (whole : List ℕ) where
  -- one more row is said, or the fold that begins with it
  pub turn-row : (all : ℕ) (at next : Standing) (rows later : List Row) (row : Row) (now new : S) → rows ≡ row ∷ later
      → IsLeft says old (rows_behind one other all at rows) whole now → says now (row_or_fold one other all at row later) new
      → next ≡ standing_behind at row later → IsLeft says old (rows_behind one other all next later) whole new
  turn-row all at next rows later row now new is left said behind =
      same-rest says old new _ _ whole (ap (λ (s : Standing). rows_behind one other all s later) (sym behind))
      (say-more says onward old now new (row_or_fold one other all at row later) (rows_behind one other all (standing_behind at row later) later) whole
      (same-rest says old now _ _ whole (ap (rows_behind one other all at) is) left) said)

  -- and the end of the last table
  pub turn-rows-end : (all : ℕ) (at : Standing) (rows : List Row) (now new : S) → rows ≡ []
      → IsLeft says old (rows_behind one other all at rows) whole now → says now (table_end at.table) new → says old whole new
  turn-rows-end all at rows now new is left said =
      say-last says onward old now new (table_end at.table) whole (same-rest says old now _ _ whole (ap (rows_behind one other all at) is) left) said

  -- one more item that is the same
  pub turn-same : (left right count k : ℕ) (now new : S) → k < count
      → IsLeft says old (rows_text one other (same_rows (left + k) (right + k) (count - k))) whole now
      → says now (placed_text one other (folded_row (left + k) (right + k))) new
      → IsLeft says old (rows_text one other (same_rows (left + (k + 1)) (right + (k + 1)) (count - (k + 1)))) whole new
  turn-same left right count k now new below rest said =
      let next : count - k ≡ suc (count - (k + 1)) = omega arith in
      let a : left + k + 1 ≡ left + (k + 1) = omega arith in
      let b : right + k + 1 ≡ right + (k + 1) = omega arith in
      same-rest says old new _ _ whole (ap₂ (λ (m n : ℕ). rows_text one other (same_rows m n (count - (k + 1)))) a b)
      (say-more says onward old now new (placed_text one other (folded_row (left + k) (right + k))) (rows_text one other (same_rows (left + k + 1) (right + k + 1) (count - (k + 1)))) whole
      (same-rest says old now _ _ whole (ap (λ (n : ℕ). rows_text one other (same_rows (left + k) (right + k) n)) next) rest) said)

  pub turn-same-end : (left right count k : ℕ) (now : S) → count ≤ k → IsLeft says old (rows_text one other (same_rows (left + k) (right + k) (count - k))) whole now → says old whole now
  turn-same-end left right count k now over rest =
      let none : count - k ≡ 0 = omega arith in
      said-whole says old now whole (same-rest says old now _ _ whole (ap (λ (n : ℕ). rows_text one other (same_rows (left + k) (right + k) n)) none) rest)
