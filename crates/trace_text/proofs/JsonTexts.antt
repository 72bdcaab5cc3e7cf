-- An object of JSON is the same text, put together from the front or from the back.
use Rattle.std.proofs.Common.{◌≡◌, ℕ, true, false, List, ◌++◌, decimal, refl, ap, ◌∙◌, append_assoc, codes}
use Rattle.trace_text.specs.Json.{Value, null, truth, number, below_zero, pair, string, object, Members, nothing, member, in_quotes, value_text, members_text, later_text, object_line}
use Rattle.trace_text.specs.proving.Spelling.{quotes_then, value_then, members_then, later_then}

quotes_are : (text behind : List ℕ) → in_quotes text ++ behind ≡ quotes_then text behind
quotes_are text behind = ap (λ l. codes "\"" ++ l) (append_assoc text (codes "\"") behind)

array_is : (one other behind : List ℕ)
    → (codes "[" ++ one ++ codes "," ++ other ++ codes "]") ++ behind ≡ codes "[" ++ (one ++ (codes "," ++ (other ++ (codes "]" ++ behind))))
array_is one other behind = simp append_assoc

-- a member, from its quotes on
member_is : (key value later behind : List ℕ) (then : List ℕ → List ℕ) → ((l : List ℕ) → value ++ l ≡ then l) → (rest : List ℕ)
    → later ++ behind ≡ rest
    → (in_quotes key ++ codes ":" ++ value ++ later) ++ behind ≡ quotes_then key (codes ":" ++ then rest)
member_is key value later behind then is rest rest_is =
    append_assoc (in_quotes key ++ codes ":" ++ value) later behind
    ∙ append_assoc (in_quotes key ++ codes ":") value (later ++ behind)
    ∙ append_assoc (in_quotes key) (codes ":") (value ++ (later ++ behind))
    ∙ quotes_are key (codes ":" ++ (value ++ (later ++ behind)))
    ∙ ap (λ l. quotes_then key (codes ":" ++ l)) (is (later ++ behind) ∙ ap then rest_is)

mutual
  pub value_is : (value : Value) (behind : List ℕ) → value_text value ++ behind ≡ value_then value behind
  value_is null behind = refl
  value_is (truth true) behind = refl
  value_is (truth false) behind = refl
  value_is (number n) behind = refl
  value_is (below_zero n) behind = refl
  value_is (pair one other) behind = array_is (decimal one) (decimal other) behind
  value_is (string text) behind = quotes_are text behind
  value_is (object members) behind =
      ap (λ l. codes "{" ++ l) (append_assoc (members_text members) (codes "}") behind ∙ members_are members (codes "}" ++ behind))

  pub members_are : (members : Members) (behind : List ℕ) → members_text members ++ behind ≡ members_then members behind
  members_are nothing behind = refl
  members_are (member key value later) behind =
      member_is key (value_text value) (later_text later) behind (value_then value) (value_is value) (later_then later behind)
      (later_are later behind)

  pub later_are : (members : Members) (behind : List ℕ) → later_text members ++ behind ≡ later_then members behind
  later_are nothing behind = refl
  later_are (member key value later) behind =
      ap (λ l. codes "," ++ l) (member_is key (value_text value) (later_text later) behind (value_then value) (value_is value)
      (later_then later behind) (later_are later behind))

-- the line of an object, from the back
pub line_is : (members : Members) → object_line members ≡ value_then (object members) (codes "\n")
line_is members = value_is (object members) (codes "\n")
