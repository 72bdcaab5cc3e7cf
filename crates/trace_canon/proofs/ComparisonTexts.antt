-- The text of a comparison, in the parts that are said.
use Rattle.std.proofs.Common.{◌≡◌, ℕ, ◌+◌, Bool, true, false, List, ◌++◌, refl, sym, ap, ◌∙◌, append_assoc, append-nil, codes}
use Rattle.std.specs.Fmt.{decimal}
use Rattle.uds_exchange.specs.Meaning.{ItemValue}
use Rattle.trace_canon.specs.declared.comparer.Comparison.{Comparison}
use Rattle.trace_canon.specs.declared.comparer.Comparison.TheVariants.{Different}
use Rattle.trace_canon.specs.ComparisonText.{comparison_lines, different_members, shown_lines}
use Rattle.uds_rules.specs.Rule.{RuleValue}
use Rattle.trace_text.specs.Json.{Value, nothing, member, object_line, value_text}
use Rattle.trace_text.proofs.Promises.{line_is, value_is}

-- the line of two logs that differ first in a place
abbrev different_line : ℕ → List ℕ
different_line place = codes "different at item " ++ (decimal (place + 1) ++ codes "\n")

-- it is all that is written where the items are not shown
pub different_is : (rules : List RuleValue) (shows : Bool) (comparison : Comparison) (place : ℕ) (left right : List ItemValue)
    → comparison ≡ Different place → shows ≡ false → different_line place ≡ comparison_lines rules shows comparison left right
different_is rules shows comparison place left right is hidden = rw (is, hidden) (sym (append-nil (different_line place)))

-- and else they follow
pub shown_is : (rules : List RuleValue) (shows : Bool) (comparison : Comparison) (place : ℕ) (left right : List ItemValue)
    → comparison ≡ Different place → shows ≡ true
    → different_line place ++ shown_lines rules place left right ≡ comparison_lines rules shows comparison left right
shown_is rules shows comparison place left right is shown = rw (is, shown) refl

-- what stands before the values of both sides in the object of two logs that differ
abbrev pub front_of_object : ℕ → List ℕ
front_of_object place = codes "{\"same\":false,\"item\":" ++ (decimal (place + 1) ++ codes ",\"left\":")

in_one : (a b c d e f g : List ℕ) → (((((a ++ (b ++ c)) ++ d) ++ e) ++ f) ++ g) ≡ a ++ (b ++ (c ++ (d ++ (e ++ (f ++ g)))))
in_one a b c d e f g = simp append_assoc

-- the object of two logs that differ, with a value for each
pub shown_object_is : (place : ℕ) (left right : Value)
    → (((front_of_object place ++ value_text left) ++ codes ",\"right\":") ++ value_text right) ++ codes "}\n"
    ≡ object_line (different_members place (member (codes "left") left (member (codes "right") right nothing)))
shown_object_is place left right =
    in_one (codes "{\"same\":false,\"item\":") (decimal (place + 1)) (codes ",\"left\":") (value_text left)
    (codes ",\"right\":") (value_text right) (codes "}\n")
    ∙ ap (λ l. codes "{\"same\":false,\"item\":" ++ (decimal (place + 1) ++ (codes ",\"left\":" ++ l)))
    (ap (λ l. value_text left ++ (codes ",\"right\":" ++ l)) (value_is right (codes "}\n")) ∙ value_is left _)
    ∙ sym (line_is (different_members place (member (codes "left") left (member (codes "right") right nothing))))
