-- A credit line as an object, in the parts that are said.
use Rattle.uds_find.specs.Finding.{IdText}
use Rattle.std.proofs.Common.{◌≡◌, List, ℕ, ◌++◌, Option, Some, None, sym, ◌∙◌, append_assoc, codes}
use Rattle.std.specs.Fmt.{decimal}
use Rattle.std.proofs.Common.{[], ◌∷◌, ◌≤◌, length, take, drop, get_or, ap, arith}
use Rattle.std.proofs.Common.{◌-◌}
use Rattle.std.proofs.lemmas.List.{take_all}
use Rattle.std.specs.List.{flat_map}
use Rattle.trace_canon.specs.CreditLines.{credit_line_text, functional_key, functional_mark, functional_member, later_unit_text, profile_text}
use Rattle.trace_canon.specs.CreditLines.{unit_head, unit_text}
use Rattle.trace_text.specs.Json.{Members, member, object_line}
use Rattle.trace_text.specs.Json as json
use Rattle.trace_text.specs.declared.notation.Notation.{Notation}
use Rattle.trace_text.specs.declared.notation.Notation.TheVariants.{Json}
use Rattle.trace_text.proofs.Promises.{line_is}
use Rattle.uds_find.specs.declared.pair.CreditLine.{CreditLine}

in_order : (a b c d e f g h i m z : List ℕ) → a ++ b ++ c ++ d ++ (e ++ f ++ g ++ h ++ i) ++ m ++ z
    ≡ a ++ (b ++ (c ++ (d ++ (e ++ (f ++ (g ++ (h ++ (i ++ (m ++ z)))))))))
in_order a b c d e f g h i m z = simp append_assoc

member_in_order : (i x y z text : List ℕ) → i ++ ((x ++ text ++ y) ++ z) ≡ i ++ (x ++ (text ++ (y ++ z)))
member_in_order i x y z text = simp append_assoc

-- the members of a credit line with this functional identifier
abbrev credit_members : CreditLine → Option IdText → Members
credit_members line functional =
    member (codes "credits") (json.number line.credits) (member (codes "requests") (json.number line.requests)
    (member (codes "tester") (json.string line.tester.items) (member (codes "unit") (json.string line.unit.items)
    (functional_member functional))))

-- an object in the parts that are said
object_of : (line : CreditLine) (functional : Option IdText)
    → codes "{\"credits\":" ++ decimal line.credits ++ codes ",\"requests\":" ++ decimal line.requests
    ++ (codes ",\"tester\":\"" ++ line.tester.items ++ codes "\",\"unit\":\"" ++ line.unit.items ++ codes "\"")
    ++ functional_mark functional ++ codes "}\n"
    ≡ object_line (credit_members line functional)
object_of line None =
    in_order (codes "{\"credits\":") (decimal line.credits) (codes ",\"requests\":") (decimal line.requests) (codes ",\"tester\":\"")
    line.tester.items (codes "\",\"unit\":\"") line.unit.items (codes "\"") [] (codes "}\n")
    ∙ sym (line_is (credit_members line None))
object_of line (Some text) =
    in_order (codes "{\"credits\":") (decimal line.credits) (codes ",\"requests\":") (decimal line.requests) (codes ",\"tester\":\"")
    line.tester.items (codes "\",\"unit\":\"") line.unit.items (codes "\"") (codes ",\"functional\":\"" ++ text.items ++ codes "\"") (codes "}\n")
    ∙ ap (λ l. codes "{\"credits\":" ++ (decimal line.credits ++ (codes ",\"requests\":" ++ (decimal line.requests
    ++ (codes ",\"tester\":\"" ++ (line.tester.items ++ (codes "\",\"unit\":\"" ++ (line.unit.items ++ l))))))))
    (member_in_order (codes "\"") (codes ",\"functional\":\"") (codes "\"") (codes "}\n") text.items)
    ∙ sym (line_is (credit_members line (Some text)))

-- as an object
pub object_is : (line : CreditLine) (notation : Notation) (tester unit : List ℕ) → notation ≡ Json
    → tester ≡ line.tester.items → unit ≡ line.unit.items
    → codes "{\"credits\":" ++ decimal line.credits ++ codes ",\"requests\":" ++ decimal line.requests
    ++ (codes ",\"tester\":\"" ++ tester ++ codes "\",\"unit\":\"" ++ unit ++ codes "\"") ++ functional_mark line.functional ++ codes "}\n"
    ≡ credit_line_text notation line
object_is line notation tester unit is tester_is unit_is =
    ap (λ text. said text unit) tester_is ∙ ap (said line.tester.items) unit_is ∙ object_of line line.functional
    ∙ sym (ap (λ one. credit_line_text one line) is)
  where
    said : List ℕ → List ℕ → List ℕ
    said first second =
        codes "{\"credits\":" ++ decimal line.credits ++ codes ",\"requests\":" ++ decimal line.requests
        ++ (codes ",\"tester\":\"" ++ first ++ codes "\",\"unit\":\"" ++ second ++ codes "\"") ++ functional_mark line.functional ++ codes "}\n"

-- the head of a unit, in the parts that are said
pub head_is : (line : CreditLine) (tester unit : List ℕ) → tester ≡ line.tester.items → unit ≡ line.unit.items
    → codes "[[unit]]\nname = \"" ++ (tester ++ codes "-" ++ unit) ++ codes "\"\n" ≡ unit_head line
unfolding unit_head
head_is line tester unit tester_is unit_is =
    ap (λ text. codes "[[unit]]\nname = \"" ++ (text ++ codes "-" ++ unit) ++ codes "\"\n") tester_is
    ∙ ap (λ text. codes "[[unit]]\nname = \"" ++ (line.tester.items ++ codes "-" ++ text) ++ codes "\"\n") unit_is

-- the key of a functional identifier, and the member, in the parts that are said
pub key_is : (functional : Option IdText) (one : IdText) (text : List ℕ) → functional ≡ Some one → text ≡ one.items
    → codes "functional = \"" ++ text ++ codes "\"\n" ≡ functional_key functional
key_is functional one text is text_is = ap (λ t. codes "functional = \"" ++ t ++ codes "\"\n") text_is ∙ sym (ap functional_key is)

pub mark_is : (functional : Option IdText) (one : IdText) (text : List ℕ) → functional ≡ Some one → text ≡ one.items
    → codes ",\"functional\":\"" ++ text ++ codes "\"" ≡ functional_mark functional
mark_is functional one text is text_is = ap (λ t. codes ",\"functional\":\"" ++ t ++ codes "\"") text_is ∙ sym (ap functional_mark is)

-- a profile of lines of which this is the first
pub profile_is : (lines : List CreditLine) (first : CreditLine) → 1 ≤ length lines → first ≡ get_or lines 0 first
    → unit_text first ++ flat_map later_unit_text (take 63 (take (length lines - 1) (drop 1 lines))) ≡ profile_text lines
profile_is [] first some is = absurd (omega (arith, some))
profile_is (line ∷ more) first some is =
    ap (λ one. unit_text one ++ flat_map later_unit_text (take 63 (take (length (line ∷ more) - 1) more))) is
    ∙ ap (λ rest. unit_text line ++ flat_map later_unit_text (take 63 rest)) (take_all (length (line ∷ more) - 1) more (omega arith))
