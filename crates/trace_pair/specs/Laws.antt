-- What holds of a page of two logs, whatever logs it is of: of its style, and of how it says that they compare.
use Prim.Native.Char.{code}
use Rattle.std.specs.Prelude.{◌≡◌, ◌==◌, ℕ, true, false, List, [], ◌∷◌, Ok}
use Rattle.std.specs.List.{list_any}
use Rattle.isotp_receive.specs.declared.TheConstants.{MESSAGE_LIMIT}
use Rattle.trace_canon.specs.Compared.{Compares, difference}
use Rattle.trace_canon.specs.declared.comparer.Compared.{Compared}
use Rattle.trace_canon.specs.declared.comparer.Comparison.TheVariants as comparison
use Rattle.trace_log.specs.Settings.{Settings}
use Rattle.uds_exchange.specs.Difference.{IsFirstDifference}
use Rattle.uds_difference.specs.Laws.{first_change}
use Rattle.uds_difference.specs.declared.row.Row.{Row}
use Rattle.shown_rows.specs.Changes.{changes}
use Rattle.shown_rows.specs.Rows.{differs}
use Rattle.shown_rows.specs.declared.changes.Change.{Change}
use Rattle.trace_report.specs.Kept.{KeepsTwo, KeptSessionsValue}
use Rattle.trace_pair.specs.Compared.{comparison_by, comparison_in}
use Rattle.trace_pair.specs.Sessions.{values_in}
use Rattle.trace_pair.specs.Style.{page_style}

-- No byte of its style is a <: what would end the element that it stands in begins with that, and so does a comment,
-- which could hide what stands behind it.
abbrev pub StyleHoldsNoTag : Type 0
StyleHoldsNoTag = list_any (λ b. b == code "<") page_style ≡ false

-- what two sessions are to each other is so: they are the same exactly if their items are, and else differ first where
-- these do
abbrev pub ComparisonIsOfItems : Type 0
ComparisonIsOfItems = (two : KeptSessionsValue) → IsFirstDifference (values_in two.left) (values_in two.right) (difference (comparison_in two))

-- how the sessions of two logs compare is what `compare` answers, where that accepts both
abbrev pub AgreesWithCompare : Type 0
AgreesWithCompare = (settings : Settings) (one other : List ℕ) (held : KeptSessionsValue) (compared : Compared)
    → KeepsTwo MESSAGE_LIMIT settings one other (Ok held) → Compares MESSAGE_LIMIT settings one other (Ok compared)
    → comparison_in held ≡ compared.comparison

-- the first change stands behind so many items of both sessions
abbrev pub BeginBehind : ℕ → List Change → Type 0
BeginBehind place all = (here : Change) × (later : List Change) × (all ≡ here ∷ later) × (here.left ≡ place) × (here.right ≡ place)

-- The verdict, the list of the differences and the first of them are of what `compare` answers: where that is that the
-- sessions are the same, no row is a change; else one is, and the first stands behind as many items of both.
abbrev pub ChangesAreOfComparison : Type 0
ChangesAreOfComparison = (rows : List Row)
    → (comparison_by (first_change rows) ≡ comparison.Same → (differs rows ≡ false) × (changes rows ≡ []))
    × ((place : ℕ) → comparison_by (first_change rows) ≡ comparison.Different place → (differs rows ≡ true) × BeginBehind place (changes rows))
