-- Rows that are seen, as they are written one after another: in tables of two hundred.
use Rattle.std.proofs.Common.{◌≡◌, ℕ, zero, suc, ◌+◌, ◌-◌, ◌/◌, Bool, true, false, List, [], ◌∷◌, ◌++◌, codes}
use Rattle.std.proofs.Common.{length, take, drop, append_assoc, ap, sym, subst, ◌∙◌, arith, refl}
use Rattle.std.specs.Prelude.{nat_lt, if◌then◌else◌}
use Rattle.std.proofs.lemmas.Bool.{lt-ltb}
use Rattle.std.proofs.lemmas.List.{length-drop}
use Rattle.trace_report.specs.Session.{SessionValue}
use Rattle.trace_pair.specs.declared.standing.Table.{Table}
use Rattle.trace_pair.specs.declared.standing.Table.TheVariants.{Closed, Open, Block}
use Rattle.trace_pair.specs.ItemTables.{block_start, blocks_text, placed_text, rows_text, table_start, tables_text}
use Rattle.trace_pair.specs.RowStretches.{PlacedRow, tables, tables_of}
use Rattle.trace_pair.specs.proving.Standings.{blocks_behind, opening, table_behind, table_end}
use Rattle.trace_pair.proofs.FoldParts.{tables-more}

-- the tables of some rows: a first one, and those of the rows behind it
pub first-table : (row : PlacedRow) (rows : List PlacedRow) → tables (row ∷ rows) ≡ (row ∷ take 199 rows) ∷ tables (drop 199 rows)
first-table row rows =
    let behind : (length (row ∷ rows) + 199) / 200 ≡ suc ((length (row ∷ rows) - 200 + 199) / 200) = tables-more (length (row ∷ rows)) (omega arith) in
    let cut = length-drop 199 rows in
    let long : length (row ∷ rows) - 200 ≡ length (drop 199 rows) = omega (arith, cut) in
    ap (λ (n : ℕ). tables_of n (row ∷ rows)) behind
    ∙ ap (λ (n : ℕ). (row ∷ take 199 rows) ∷ tables_of ((n + 199) / 200) (drop 199 rows)) long

-- Parts of a text, put together anew.

row-in-front : (a b c d : List ℕ) → a ++ ((b ++ c) ++ d) ≡ ((a ++ b) ++ c) ++ d
row-in-front a b c d = simp append_assoc

block-in-front : (a b c d e : List ℕ) → a ++ (b ++ ((c ++ d) ++ e)) ≡ ((a ++ (b ++ c)) ++ d) ++ e
block-in-front a b c d e = simp append_assoc

table-in-front : (a b c d e : List ℕ) → (a ++ b) ++ ((c ++ d) ++ e) ≡ ((a ++ (b ++ c)) ++ d) ++ e
table-in-front a b c d e = simp append_assoc

end-in-front : (a b c d : List ℕ) → ((a ++ b) ++ c) ++ d ≡ a ++ (b ++ (c ++ d))
end-in-front a b c d = simp append_assoc

module _ (one other : SessionValue) where
  -- rows that are seen, one after another, where this table stands, and the end of the last one
  abbrev pub seen_behind : Table → ℕ → List PlacedRow → List ℕ
  seen_behind table blocks [] = table_end table
  seen_behind table blocks (row ∷ rows) =
      opening table blocks row.place.left row.place.right ++ placed_text one other row ++ seen_behind (table_behind table) (blocks_behind table blocks) rows

  -- how many blocks began behind them
  abbrev pub blocks_after : Table → ℕ → List PlacedRow → ℕ
  blocks_after table blocks [] = blocks
  blocks_after table blocks (row ∷ rows) = blocks_after (table_behind table) (blocks_behind table blocks) rows

  -- What is written behind so many rows of a table with this end: rows up to a full one, and then blocks.
  pub record AreSeen (table : Table) (end : List ℕ) (room blocks : ℕ) (rows : List PlacedRow) : Type 0 where
    pub text : seen_behind table blocks rows ≡ rows_text one other (take room rows) ++ end ++ blocks_text one other blocks (tables (drop room rows))
    pub count : blocks_after table blocks rows ≡ blocks + length (tables (drop room rows))

  -- a table with this end, of so many rows
  abbrev table_by : Bool → ℕ → Table
  table_by block rows = if block then Block rows else Open rows

  abbrev end_by : Bool → List ℕ
  end_by block = if block then codes "</table>\n</details>\n" else codes "</table>\n"

  none-seen : (block : Bool) (k room blocks : ℕ) → AreSeen (table_by block k) (end_by block) room blocks []
  none-seen true k zero blocks = record { text = refl; count = omega arith }
  none-seen true k (suc room) blocks = record { text = refl; count = omega arith }
  none-seen false k zero blocks = record { text = refl; count = omega arith }
  none-seen false k (suc room) blocks = record { text = refl; count = omega arith }

  -- one more row in a table that has room for it
  with-room : (block : Bool) (k room blocks : ℕ) (row : PlacedRow) (rows : List PlacedRow) → nat_lt k 200 ≡ true
      → AreSeen (table_by block (k + 1)) (end_by block) room blocks rows → AreSeen (table_by block k) (end_by block) (suc room) blocks (row ∷ rows)
  with-room true k room blocks row rows e rest = record {
    text = rw e (ap (λ (text : List ℕ). placed_text one other row ++ text) rest.text
        ∙ row-in-front (placed_text one other row) (rows_text one other (take room rows)) (codes "</table>\n</details>\n") (blocks_text one other blocks (tables (drop room rows))));
    count = rw e rest.count;
  }
  with-room false k room blocks row rows e rest = record {
    text = rw e (ap (λ (text : List ℕ). placed_text one other row ++ text) rest.text
        ∙ row-in-front (placed_text one other row) (rows_text one other (take room rows)) (codes "</table>\n") (blocks_text one other blocks (tables (drop room rows))));
    count = rw e rest.count;
  }

  -- one more row behind a table that is full: a block begins
  module _ (blocks : ℕ) (row : PlacedRow) (rows : List PlacedRow) (rest : AreSeen (Block 1) (codes "</table>\n</details>\n") 199 (blocks + 1) rows) where
    abbrev front : List ℕ
    front = block_start blocks row.place.left row.place.right

    one-block : front ++ (placed_text one other row ++ seen_behind (Block 1) (blocks + 1) rows) ≡ blocks_text one other blocks (tables (row ∷ rows))
    one-block =
        ap (λ (text : List ℕ). front ++ (placed_text one other row ++ text)) rest.text
        ∙ block-in-front front (placed_text one other row) (rows_text one other (take 199 rows)) (codes "</table>\n</details>\n") (blocks_text one other (blocks + 1) (tables (drop 199 rows)))
        ∙ sym (ap (blocks_text one other blocks) (first-table row rows))

    more-blocks : blocks_after (Block 1) (blocks + 1) rows ≡ blocks + length (tables (row ∷ rows))
    more-blocks = let more = ap (λ (l : List (List PlacedRow)). length l) (first-table row rows) in omega (arith, rest.count, more)

    without-room : (block : Bool) → AreSeen (table_by block 200) (end_by block) 0 blocks (row ∷ rows)
    without-room true = record {
      text = end-in-front (codes "</table>\n</details>\n") front (placed_text one other row) (seen_behind (Block 1) (blocks + 1) rows)
          ∙ ap (λ (text : List ℕ). codes "</table>\n</details>\n" ++ text) one-block;
      count = more-blocks;
    }
    without-room false = record {
      text = end-in-front (codes "</table>\n") front (placed_text one other row) (seen_behind (Block 1) (blocks + 1) rows)
          ∙ ap (λ (text : List ℕ). codes "</table>\n" ++ text) one-block;
      count = more-blocks;
    }

  are-seen : (rows : List PlacedRow) (block : Bool) (k room blocks : ℕ) → k + room ≡ 200 → AreSeen (table_by block k) (end_by block) room blocks rows
  are-seen [] block k room blocks full = none-seen block k room blocks
  are-seen (row ∷ rows) block k zero blocks full =
      let all : 200 ≡ k = omega (arith, full) in
      subst (λ (n : ℕ). AreSeen (table_by block n) (end_by block) 0 blocks (row ∷ rows)) all
      (without-room blocks row rows (are-seen rows true 1 199 (blocks + 1) refl) block)
  are-seen (row ∷ rows) block k (suc room) blocks full =
      with-room block k room blocks row rows (lt-ltb k 200 (omega (arith, full))) (are-seen rows block (k + 1) room blocks (omega (arith, full)))

  -- all rows, where no table stands before them
  pub all-seen : (blocks : ℕ) (rows : List PlacedRow) → seen_behind Closed blocks rows ≡ tables_text one other blocks (tables rows)
  all-seen blocks [] = refl
  all-seen blocks (row ∷ rows) =
      let rest = are-seen rows false 1 199 blocks refl in
      ap (λ (text : List ℕ). table_start ++ placed_text one other row ++ text) rest.text
      ∙ table-in-front table_start (placed_text one other row) (rows_text one other (take 199 rows)) (codes "</table>\n") (blocks_text one other blocks (tables (drop 199 rows)))
      ∙ sym (ap (tables_text one other blocks) (first-table row rows))

  pub blocks-seen : (blocks : ℕ) (rows : List PlacedRow) → blocks_after Closed blocks rows ≡ blocks + (length (tables rows) - 1)
  blocks-seen blocks [] = let none : blocks ≡ blocks + (length (tables []) - 1) = omega arith in none
  blocks-seen blocks (row ∷ rows) =
      let rest = are-seen rows false 1 199 blocks refl in
      let more = ap (λ (l : List (List PlacedRow)). length l) (first-table row rows) in
      omega (arith, rest.count, more)
