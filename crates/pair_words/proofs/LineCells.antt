-- A line of columns, as one log has it.
use Rattle.std.proofs.Common.{◌≡◌, ℕ, zero, suc, ◌+◌, ◌-◌, ◌*◌, ◌≤◌, ◌<◌, Bool, List, [], ◌∷◌, ◌++◌, codes}
use Rattle.std.proofs.Common.{length, take, drop, arith, ap, sym, ◌∙◌, append_assoc, refl, option_to_list}
use Rattle.std.proofs.lemmas.Grind.{flat_map-append}
use Rattle.std.proofs.lemmas.List.{drop-take, length-append, length-take, take-append-drop, take-take}
use Rattle.byte_columns.specs.declared.column.Column.{Column}
use Rattle.byte_columns.specs.Lines.{line, line_count}
use Rattle.pair_words.specs.declared.column_words.LineOwner.{LineOwner}
use Rattle.pair_words.specs.declared.log.PairLog.{PairLog}
use Rattle.pair_words.specs.ColumnLines.{bytes_in, cells, cells_text, grey_columns, letters_if, number_if, whose_text}
use Rattle.pair_words.specs.Logs.{byte_of}

-- a front is as long as it is
front-own : (m n : ℕ) (l : List Column) → take (length (take m (take n l))) l ≡ take m (take n l)
front-own zero n l = refl
front-own (suc m) zero l = refl
front-own (suc m) (suc n) [] = refl
front-own (suc m) (suc n) (x ∷ l) = ap (λ (v : List Column). x ∷ v) (front-own m n l)

module _ (columns : List Column) (number from to : ℕ) (below : number < line_count columns) (first : from ≡ 16 * number)
    (end : to ≡ from + length (line columns number)) where
  -- the columns of a line, by their places
  pub line-piece : take (to - from) (drop from columns) ≡ line columns number
  line-piece =
      let all = length-take 4095 columns in
      let rest : 16 * number + (4095 - 16 * number) ≡ 4095 = omega arith in
      let cut : drop (16 * number) (take 4095 columns) ≡ take (4095 - 16 * number) (drop (16 * number) columns) =
      ap (λ (n : ℕ). drop (16 * number) (take n columns)) (sym rest) ∙ drop-take (16 * number) (4095 - 16 * number) columns in
      let many : to - from ≡ length (line columns number) = omega arith in
      (λ i. take (many i) (drop (first i) columns))
      ∙ ap (λ (l : List Column). take (length (take 16 l)) (drop (16 * number) columns)) cut
      ∙ front-own 16 (4095 - 16 * number) (drop (16 * number) columns)
      ∙ sym (ap (take 16) cut)

  -- how many bytes a log has up to its end
  pub bytes-behind : (log : PairLog) → length (bytes_in log (take to columns)) ≡ length (bytes_in log (take from columns)) + length (bytes_in log (line columns number))
  bytes-behind log =
      let up : from ≤ to = omega arith in
      let whole : from + (to - from) ≡ to = omega arith in
      let parts : take to columns ≡ take from columns ++ line columns number =
      sym (take-append-drop from (take to columns))
      ∙ ap (λ (l : List Column). l ++ drop from (take to columns)) (take-take from to columns up)
      ∙ ap (λ (l : List Column). take from columns ++ l)
      (ap (λ (n : ℕ). drop from (take n columns)) (sym whole) ∙ drop-take from (to - from) columns ∙ line-piece) in
      ap (λ (l : List Column). length (bytes_in log l)) parts
      ∙ ap (λ (l : List ℕ). length l) (flat_map-append (λ (here : Column). option_to_list (byte_of log here)) (take from columns) (line columns number))
      ∙ length-append (bytes_in log (take from columns)) (bytes_in log (line columns number))

-- What a log has in a line, by the bytes that it has there.
module _ (lettered : Bool) (whose : LineOwner) (log : PairLog) (number : List ℕ) (columns : List Column) where
  abbrev pub side_by : List ℕ → List ℕ
  side_by bytes =
      codes "<p><i>" ++ number_if number bytes ++ codes "</i> " ++ whose_text whose ++ codes "<code>"
      ++ cells_text bytes log columns ++ codes "</code>" ++ letters_if lettered bytes log columns ++ codes "</p>"

  pub no-byte : (bytes : List ℕ) → length bytes ≡ 0 → codes "<p><i></i> " ++ whose_text whose ++ codes "<code><mark>no byte</mark></code></p>" ≡ side_by bytes
  no-byte [] none = simp append_assoc
  no-byte (byte ∷ bytes) none = absurd (omega (arith, none))

  pub some-bytes : (bytes : List ℕ) → 0 < length bytes
      → (codes "<p><i>" ++ number ++ codes "</i> " ++ whose_text whose ++ codes "<code>") ++ cells log columns ++ codes "</code>" ++ grey_columns lettered log columns ++ codes "</p>"
      ≡ side_by bytes
  some-bytes [] some = absurd (omega (arith, some))
  some-bytes (byte ∷ bytes) some = simp append_assoc
