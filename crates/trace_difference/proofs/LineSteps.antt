-- The lines of one row after another, while what is added waits.
use Rattle.std.proofs.Common.{◌≡◌, ℕ, zero, suc, ◌+◌, ◌-◌, ◌≤◌, List, [], ◌∷◌, ◌++◌, codes, ap, sym, ◌∙◌, arith, refl, append_assoc, append-nil}
use Rattle.std.specs.List.{flat_map}
use Rattle.std.proofs.lemmas.Grind.{flat_map-append}
use Rattle.uds_exchange.specs.Meaning.{ItemValue}
use Rattle.uds_difference.specs.declared.row.Row.{Row}
use Rattle.uds_difference.specs.declared.row.Row.TheVariants.{Same, Changed, OnlyLeft, OnlyRight}
use Rattle.uds_rules.specs.Rule.{RuleValue}
use Rattle.trace_difference.specs.Lines.{Line, kept, removed, added, added_at, behind_removed, line_at, line_text, lines_of}
use Rattle.trace_difference.specs.proving.Waiting.{added_lines}

pub behind-none : (lines : List Line) → behind_removed [] lines ≡ lines
behind-none [] = refl
behind-none ((kept, text) ∷ lines) = refl
behind-none ((added, text) ∷ lines) = refl
behind-none ((removed, text) ∷ lines) = ap (λ (l : List Line). (removed, text) ∷ l) (behind-none lines)

-- one more added line behind those that wait
pub behind-one : (waiting : List Line) (text : List ℕ) (lines : List Line)
    → behind_removed waiting (behind_removed ((added, text) ∷ []) lines) ≡ behind_removed (waiting ++ (added, text) ∷ []) lines
behind-one waiting text [] = sym (append-nil (waiting ++ (added, text) ∷ []))
behind-one waiting text ((kept, other) ∷ lines) = sym (append_assoc waiting ((added, text) ∷ []) ((kept, other) ∷ lines))
behind-one waiting text ((added, other) ∷ lines) = sym (append_assoc waiting ((added, text) ∷ []) ((added, other) ∷ lines))
behind-one waiting text ((removed, other) ∷ lines) = ap (λ (l : List Line). (removed, other) ∷ l) (behind-one waiting text lines)

pub added-more : (rules : List RuleValue) (ys : List ItemValue) (from count : ℕ) → added_lines rules ys from (suc count) ≡ added_lines rules ys from count ++ added_at rules ys (from + count) ∷ []
added-more rules ys from zero = let none : from + 0 ≡ from = omega arith in rw none refl
added-more rules ys from (suc count) =
    let one : from + 1 + count ≡ from + suc count = omega arith in
    ap (λ (l : List Line). added_at rules ys from ∷ l) (added-more rules ys (from + 1) count ∙ ap (λ (n : ℕ). added_lines rules ys (from + 1) count ++ added_at rules ys n ∷ []) one)

-- the texts of added lines, and of one more
pub added-text : (rules : List RuleValue) (ys : List ItemValue) (from place : ℕ) → from ≤ place
    → flat_map line_text (added_lines rules ys from (place - from)) ++ (codes "+" ++ line_at rules ys place) ≡ flat_map line_text (added_lines rules ys from ((place + 1) - from))
added-text rules ys from place forward =
    let next : (place + 1) - from ≡ suc (place - from) = omega arith in
    let at : from + (place - from) ≡ place = omega arith in
    let before = flat_map line_text (added_lines rules ys from (place - from)) in
    sym
    (ap (λ (n : ℕ). flat_map line_text (added_lines rules ys from n)) next
    ∙ ap (flat_map line_text) (added-more rules ys from (place - from))
    ∙ flat_map-append line_text (added_lines rules ys from (place - from)) (added_at rules ys (from + (place - from)) ∷ [])
    ∙ ap (λ (l : List ℕ). before ++ l) (append-nil (codes "+" ++ line_at rules ys (from + (place - from))) ∙ ap (λ (n : ℕ). codes "+" ++ line_at rules ys n) at))

module _ (rules : List RuleValue) (xs ys : List ItemValue) where
  -- the text that is left, while the added items from one place on wait
  abbrev pub rest_text : ℕ → ℕ → ℕ → List Row → List ℕ
  rest_text i j waiting rows = flat_map line_text (behind_removed (added_lines rules ys waiting (j - waiting)) (lines_of rules xs ys i j rows))

  abbrev pub waiting_text : ℕ → ℕ → List ℕ
  waiting_text j waiting = flat_map line_text (added_lines rules ys waiting (j - waiting))

  pub begins : (i j : ℕ) (rows : List Row) → rest_text i j j rows ≡ flat_map line_text (lines_of rules xs ys i j rows)
  begins i j rows =
      let none : j - j ≡ 0 = omega arith in
      ap (λ (n : ℕ). flat_map line_text (behind_removed (added_lines rules ys j n) (lines_of rules xs ys i j rows))) none
      ∙ ap (flat_map line_text) (behind-none (lines_of rules xs ys i j rows))

  pub same-step : (i j waiting : ℕ) (later : List Row)
      → rest_text i j waiting (Same ∷ later) ≡ waiting_text j waiting ++ ((codes " " ++ line_at rules xs i) ++ rest_text (i + 1) (j + 1) (j + 1) later)
  same-step i j waiting later =
      flat_map-append line_text (added_lines rules ys waiting (j - waiting)) (lines_of rules xs ys i j (Same ∷ later))
      ∙ ap (λ (l : List ℕ). waiting_text j waiting ++ ((codes " " ++ line_at rules xs i) ++ l)) (sym (begins (i + 1) (j + 1) later))

  waits : (i j waiting : ℕ) (later : List Row) → waiting ≤ j
      → flat_map line_text (behind_removed (added_lines rules ys waiting (j - waiting)) (behind_removed (added_at rules ys j ∷ []) (lines_of rules xs ys i (j + 1) later)))
      ≡ rest_text i (j + 1) waiting later
  waits i j waiting later forward =
      let lines = lines_of rules xs ys i (j + 1) later in
      let next : (j + 1) - waiting ≡ suc (j - waiting) = omega arith in
      let place : waiting + (j - waiting) ≡ j = omega arith in
      let more : added_lines rules ys waiting (j - waiting) ++ added_at rules ys j ∷ [] ≡ added_lines rules ys waiting ((j + 1) - waiting) =
      ap (λ (n : ℕ). added_lines rules ys waiting (j - waiting) ++ added_at rules ys n ∷ []) (sym place)
      ∙ sym (added-more rules ys waiting (j - waiting))
      ∙ ap (added_lines rules ys waiting) (sym next) in
      ap (flat_map line_text) (behind-one (added_lines rules ys waiting (j - waiting)) (line_at rules ys j) lines ∙ ap (λ (l : List Line). behind_removed l lines) more)

  pub changed-step : (i j waiting : ℕ) (later : List Row) → waiting ≤ j
      → rest_text i j waiting (Changed ∷ later) ≡ (codes "-" ++ line_at rules xs i) ++ rest_text (i + 1) (j + 1) waiting later
  changed-step i j waiting later forward = ap (λ (l : List ℕ). (codes "-" ++ line_at rules xs i) ++ l) (waits (i + 1) j waiting later forward)

  pub left-step : (i j waiting : ℕ) (later : List Row)
      → rest_text i j waiting (OnlyLeft ∷ later) ≡ (codes "-" ++ line_at rules xs i) ++ rest_text (i + 1) j waiting later
  left-step i j waiting later = refl

  pub right-step : (i j waiting : ℕ) (later : List Row) → waiting ≤ j → rest_text i j waiting (OnlyRight ∷ later) ≡ rest_text i (j + 1) waiting later
  right-step i j waiting later forward = waits i j waiting later forward

  pub ends : (i j waiting : ℕ) → rest_text i j waiting [] ≡ waiting_text j waiting
  ends i j waiting = ap (flat_map line_text) (append-nil (added_lines rules ys waiting (j - waiting)))
