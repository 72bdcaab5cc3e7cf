-- The columns that count, one after another, and those of lines.
use Rattle.std.proofs.Common.{◌≡◌, ℕ, zero, suc, ◌+◌, ◌-◌, ◌*◌, ◌≤◌, ◌<◌, Bool, true, false, List, []}
use Rattle.std.proofs.Common.{◌∷◌, ◌++◌, length, take, drop, min, Some, ap, sym, ◌∙◌, arith, inl, inr}
use Rattle.std.specs.Prelude.{slice_get, if◌then◌else◌}
use Rattle.std.proofs.lemmas.Bool.{cases_lt}
use Rattle.std.proofs.lemmas.List.{drop_all, length-drop, length-take, take_all}
use Rattle.byte_columns.specs.declared.column.Column.{Column}
use Rattle.byte_columns.specs.Columns.{differing}
use Rattle.byte_columns.specs.Lines.{columns_from, hidden, line, line_count}
use Rattle.pair_words.specs.declared.column_lines.ShownLogs.{ShownLogs}
use Rattle.pair_words.specs.ColumnLines.{counted, is_counted}
use Rattle.pair_words.proofs.LineCells.{line-piece}
use Rattle.pair_words.proofs.Pieces.{cut-first, cut-joined, cut-none, cut-past}

-- a column that counts, or does not, in front of others
module _ (here : Column) (later : List Column) where
  length-if : (is : Bool) → length (if is then here ∷ later else later) ≡ length (if is then here ∷ [] else []) + length later
  length-if true = omega arith
  length-if false = omega arith

  differing-if : (is : Bool) → differing (if is then here ∷ later else later) ≡ differing (if is then here ∷ [] else []) + differing later
  differing-if true = omega arith
  differing-if false = omega arith

module _ (shown : ShownLogs) (columns : List Column) (to : ℕ) where
  module _ (at : ℕ) (here : Column) (below : at < to) (there : slice_get columns at ≡ Some here) where
    pub length-first : length (counted shown (take (to - at) (drop at columns)))
        ≡ length (counted shown (here ∷ [])) + length (counted shown (take (to - (at + 1)) (drop (at + 1) columns)))
    length-first =
        ap (λ (l : List Column). length (counted shown l)) (cut-first columns at to here below there)
        ∙ length-if here (counted shown (take (to - (at + 1)) (drop (at + 1) columns))) (is_counted shown here)

    pub differing-first : differing (counted shown (take (to - at) (drop at columns)))
        ≡ differing (counted shown (here ∷ [])) + differing (counted shown (take (to - (at + 1)) (drop (at + 1) columns)))
    differing-first =
        ap (λ (l : List Column). differing (counted shown l)) (cut-first columns at to here below there)
        ∙ differing-if here (counted shown (take (to - (at + 1)) (drop (at + 1) columns))) (is_counted shown here)

  pub none-left : (at : ℕ) → to ≤ at → counted shown (take (to - at) (drop at columns)) ≡ []
  none-left at over = ap (counted shown) (cut-none columns at to over)

-- Lines.

module _ (columns : List Column) where
  -- where a line begins; what stands behind all ends with them
  abbrev pub start : ℕ → ℕ
  start number = min (16 * number) (min (length columns) 4095)

  module _ (number : ℕ) (below : number < line_count columns) where
    start-is : start number ≡ 16 * number
    start-is = omega (arith, below, length-take 4095 columns)

    line-length : start (number + 1) ≡ start number + length (line columns number)
    line-length =
        let all = length-take 4095 columns in
        let rest = length-drop (16 * number) (take 4095 columns) in
        let own = length-take 16 (drop (16 * number) (take 4095 columns)) in
        omega (arith, below, all, rest, own)

  -- lines, one behind another, have the columns from where the first begins up to where the next one would
  pub lines-cut : (count first : ℕ) → first + count ≤ line_count columns
      → columns_from columns first count ≡ take (start (first + count) - start first) (drop (start first) columns)
  lines-cut zero first inside =
      let same : first + 0 ≡ first = omega arith in
      sym (ap (λ (n : ℕ). take (start n - start first) (drop (start first) columns)) same ∙ cut-none columns (start first) (start first) (omega arith))
  lines-cut (suc more) first inside =
      let below : first < line_count columns = omega (arith, inside) in
      let next : first + 1 + more ≡ first + suc more = omega arith in
      let here = line-piece columns first (start first) (start (first + 1)) below (start-is first below) (line-length first below) in
      let behind = lines-cut more (first + 1) (omega (arith, inside)) in
      let up : start first ≤ start (first + 1) = omega arith in
      let on : start (first + 1) ≤ start (first + 1 + more) = omega arith in
      (λ i. sym here i ++ behind i)
      ∙ sym (cut-joined columns (start first) (start (first + 1)) (start (first + 1 + more)) up on)
      ∙ ap (λ (n : ℕ). take (start n - start first) (drop (start first) columns)) next

  -- and what no line has stands behind them
  pub hidden-cut : (most : ℕ) → most ≡ min (length columns) 4095 → take (length columns - most) (drop most columns) ≡ hidden columns
  hidden-cut most is = elim (cases_lt (length columns) 4095) [
    | inl few ↦
        let own : most ≡ length columns = omega (arith, is, few) in
        ap (λ (n : ℕ). take (length columns - n) (drop n columns)) own
        ∙ cut-past columns (length columns) (length columns) (omega arith) ∙ sym (drop_all 4095 columns (omega (arith, few)))
    | inr many ↦
        let own : most ≡ 4095 = omega (arith, is, many) in
        ap (λ (n : ℕ). take (length columns - n) (drop n columns)) own
        ∙ take_all (length columns - 4095) (drop 4095 columns) (omega (arith, length-drop 4095 columns))
  ]
