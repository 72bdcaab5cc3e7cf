-- What is left of the lines of a hunk, row after row.
use Rattle.std.proofs.Common.{◌≡◌, ℕ, ◌+◌, ◌≤◌, List, [], ◌∷◌, ◌++◌, codes, ap, ◌∙◌}
use Rattle.uds_exchange.specs.Meaning.{ItemValue}
use Rattle.uds_difference.specs.declared.row.Row.{Row}
use Rattle.uds_difference.specs.declared.row.Row.TheVariants.{Same, Changed, OnlyLeft, OnlyRight}
use Rattle.uds_rules.specs.Rule.{RuleValue}
use Rattle.trace_difference.specs.Lines.{line_at}
use Rattle.trace_difference.proofs.LineSteps.{changed-step, ends, left-step, rest_text, right-step, same-step, waiting_text}
use Rattle.text_parts.proofs.Promises.{IsLeft, same-rest, say-last, say-more}

module _ {S : Type 0} (says : S → List ℕ → S → Type 0) (onward : (s m t : S) (a b : List ℕ) → says s a m → says m b t → says s (a ++ b) t)
    (rules : List RuleValue) (xs ys : List ItemValue) (old : S) (whole : List ℕ) (rows later : List Row) (i j waiting : ℕ) (now : S) where
  -- what is left at these rows
  abbrev At : List Row → ℕ → ℕ → ℕ → S → Type 0
  At rest i j waiting now = IsLeft says old (rest_text rules xs ys i j waiting rest) whole now

  pub turn-same : rows ≡ Same ∷ later → (mid new : S) → At rows i j waiting now → says now (waiting_text rules xs ys j waiting) mid → says mid (codes " " ++ line_at rules xs i) new
      → At later (i + 1) (j + 1) (j + 1) new
  turn-same is mid new left added kept =
      let here = same-rest says old now _ _ whole (ap (rest_text rules xs ys i j waiting) is ∙ same-step rules xs ys i j waiting later) left in
      say-more says onward old mid new (codes " " ++ line_at rules xs i) _ whole (say-more says onward old now mid (waiting_text rules xs ys j waiting) _ whole here added) kept

  pub turn-changed : rows ≡ Changed ∷ later → (new : S) → waiting ≤ j → At rows i j waiting now → says now (codes "-" ++ line_at rules xs i) new → At later (i + 1) (j + 1) waiting new
  turn-changed is new forward left removed =
      say-more says onward old now new (codes "-" ++ line_at rules xs i) _ whole
      (same-rest says old now _ _ whole (ap (rest_text rules xs ys i j waiting) is ∙ changed-step rules xs ys i j waiting later forward) left) removed

  pub turn-left : rows ≡ OnlyLeft ∷ later → (new : S) → At rows i j waiting now → says now (codes "-" ++ line_at rules xs i) new → At later (i + 1) j waiting new
  turn-left is new left removed =
      say-more says onward old now new (codes "-" ++ line_at rules xs i) _ whole
      (same-rest says old now _ _ whole (ap (rest_text rules xs ys i j waiting) is ∙ left-step rules xs ys i j waiting later) left) removed

  pub turn-right : rows ≡ OnlyRight ∷ later → waiting ≤ j → At rows i j waiting now → At later i (j + 1) waiting now
  turn-right is forward left = same-rest says old now _ _ whole (ap (rest_text rules xs ys i j waiting) is ∙ right-step rules xs ys i j waiting later forward) left

  pub turn-end : rows ≡ [] → (new : S) → At rows i j waiting now → says now (waiting_text rules xs ys j waiting) new → says old whole new
  turn-end is new left added =
      say-last says onward old now new (waiting_text rules xs ys j waiting) whole
      (same-rest says old now _ _ whole (ap (rest_text rules xs ys i j waiting) is ∙ ends rules xs ys i j waiting) left) added
