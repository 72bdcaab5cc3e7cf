-- A text of plain strings and of numbers of 64 bits is read as what it means.
use Rattle.std.proofs.Common.{◌≡◌, ℕ, zero, suc, ◌^◌, ◌<◌, ◌≤◌, negsuc, List, [], ◌∷◌, ◌++◌, Bool, true, false, Option, Some, decimal, refl, sym, ap, ap₂, ◌∙◌, arith, append_assoc, append-nil, codes}
use Rattle.std.specs.Prelude.{⊤, option_and_then, option_map}
use Rattle.json.specs.Token.{Token}
use Rattle.json.specs.Lex.{tokens}
use Rattle.json.specs.Print.{print, print_from, quoted}
use Rattle.json.specs.Json as json
use Rattle.json.specs.Tree.{json_tokens, members_tokens, depth, members_depth, HasNumbers, MembersHaveNumbers}
use Rattle.json.specs.Print.{IsNumber}
use Rattle.json.proofs.Printed.Decimals.{IsNumber-decimal, IsNumber-signed_decimal}
use Rattle.json.proofs.Printed.Tokens.{tokens-print}
use Rattle.json.proofs.Printed.Trees.{ArePrintable-json_tokens, value-json_tokens}
use Rattle.serde_json.specs.Data as reader
use Rattle.serde_json.specs.Data.{put}
use Rattle.serde_json.specs.Read.{max_depth, of_json, of_members}
use Rattle.serde_json.proofs.Numbers.{number_of-decimal, number_of-negative}
use Rattle.json_reading.specs.ReadBack.{meant, with_members, HasNumbersOf64Bits, HaveNumbersOf64Bits, IsReadAsMeant}
use Rattle.json_reading.proofs.PlainTexts.{IsPlain, quoted_plain}
use Rattle.trace_text.specs.Json.{Value, null, truth, number, below_zero, pair, string, object, Members, nothing, member, value_text, members_text, later_text}

-- the value as the reader's grammar has it
abbrev mutual
  pub tree : Value → json.Json
  tree null = json.null
  tree (truth b) = json.boolean b
  tree (number n) = json.number (decimal n)
  tree (below_zero n) = json.number (codes "-" ++ decimal n)
  tree (pair one other) = json.array (json.item (json.number (decimal one)) (json.item (json.number (decimal other)) json.no_items))
  tree (string text) = json.string text
  tree (object members) = json.object (trees members)

  pub trees : Members → json.Members
  trees nothing = json.no_members
  trees (member key value later) = json.member key (tree value) (trees later)

-- every key and string is plain, and objects and arrays are nested so deep at most
abbrev mutual
  pub IsPlainValue : ℕ → Value → Type 0
  IsPlainValue deep null = ⊤
  IsPlainValue deep (truth b) = ⊤
  IsPlainValue deep (number n) = ⊤
  IsPlainValue deep (below_zero n) = ⊤
  IsPlainValue zero (pair one other) = ⊥
  IsPlainValue (suc deep) (pair one other) = ⊤
  IsPlainValue deep (string text) = IsPlain text
  IsPlainValue zero (object members) = ⊥
  IsPlainValue (suc deep) (object members) = ArePlain deep members

  pub ArePlain : ℕ → Members → Type 0
  ArePlain deep nothing = ⊤
  ArePlain deep (member key value later) = IsPlain key × IsPlainValue deep value × ArePlain deep later

-- ---- the text is what a writer of JSON gives for the tree

abbrev comma_if : Bool → List ℕ
comma_if true = codes ","
comma_if false = []

abbrev text_of_members : Bool → Members → List ℕ
text_of_members true members = later_text members
text_of_members false members = members_text members

regroup : (q a b c : List ℕ) → q ++ (a ++ (b ++ c)) ≡ ((q ++ a) ++ b) ++ c
regroup q a b c = simp append_assoc

print_member : (key : List ℕ) (value : Value) (later : Members) (ts : List Token) → IsPlain key
    → print_from false (json_tokens (tree value) ++ (members_tokens (trees later) ++ ts)) ≡ value_text value ++ print_from true (members_tokens (trees later) ++ ts)
    → print_from true (members_tokens (trees later) ++ ts) ≡ later_text later ++ (codes "}" ++ print_from true ts)
    → (quoted key ++ 58 ∷ []) ++ print_from false ((json_tokens (tree value) ++ members_tokens (trees later)) ++ ts)
    ≡ members_text (member key value later) ++ (codes "}" ++ print_from true ts)
print_member key value later ts plain first rest =
    let whole = ap (print_from false) (append_assoc (json_tokens (tree value)) (members_tokens (trees later)) ts) ∙ first ∙ ap (λ s. value_text value ++ s) rest in
    ap₂ (λ q s. (q ++ 58 ∷ []) ++ s) (quoted_plain key plain) whole
    ∙ regroup (34 ∷ (key ++ 34 ∷ []) ++ 58 ∷ []) (value_text value) (later_text later) (codes "}" ++ print_from true ts)

array_is : (one other rest : List ℕ) → 91 ∷ (one ++ (44 ∷ (other ++ (93 ∷ rest)))) ≡ (codes "[" ++ one ++ codes "," ++ other ++ codes "]") ++ rest
array_is one other rest = simp append_assoc

mutual
  unfolding print_from

  print_value : (deep : ℕ) (after : Bool) (value : Value) (ts : List Token) → IsPlainValue deep value
      → print_from after (json_tokens (tree value) ++ ts) ≡ comma_if after ++ (value_text value ++ print_from true ts)
  print_value deep true null ts is = refl
  print_value deep false null ts is = refl
  print_value deep true (truth true) ts is = refl
  print_value deep true (truth false) ts is = refl
  print_value deep false (truth true) ts is = refl
  print_value deep false (truth false) ts is = refl
  print_value deep true (number n) ts is = refl
  print_value deep false (number n) ts is = refl
  print_value deep true (below_zero n) ts is = refl
  print_value deep false (below_zero n) ts is = refl
  print_value zero after (pair one other) ts is = absurd is
  print_value (suc deep) true (pair one other) ts is = ap (λ s. 44 ∷ s) (array_is (decimal one) (decimal other) (print_from true ts))
  print_value (suc deep) false (pair one other) ts is = array_is (decimal one) (decimal other) (print_from true ts)
  print_value deep true (string text) ts is = ap (λ q. 44 ∷ (q ++ print_from true ts)) (quoted_plain text is)
  print_value deep false (string text) ts is = ap (λ q. q ++ print_from true ts) (quoted_plain text is)
  print_value zero after (object members) ts is = absurd is
  print_value (suc deep) true (object members) ts is =
      ap (λ s. 44 ∷ 123 ∷ s) (print_members deep false members ts is ∙ sym (append_assoc (members_text members) (codes "}") (print_from true ts)))
  print_value (suc deep) false (object members) ts is =
      ap (λ s. 123 ∷ s) (print_members deep false members ts is ∙ sym (append_assoc (members_text members) (codes "}") (print_from true ts)))

  print_members : (deep : ℕ) (after : Bool) (members : Members) (ts : List Token) → ArePlain deep members
      → print_from after (members_tokens (trees members) ++ ts) ≡ text_of_members after members ++ (codes "}" ++ print_from true ts)
  print_members deep true nothing ts is = refl
  print_members deep false nothing ts is = refl
  print_members deep true (member key value later) ts is =
      ap (λ s. 44 ∷ s)
      (print_member key value later ts is.0 (print_value deep false value (members_tokens (trees later) ++ ts) is.1) (print_members deep true later ts is.2))
  print_members deep false (member key value later) ts is =
      print_member key value later ts is.0 (print_value deep false value (members_tokens (trees later) ++ ts) is.1) (print_members deep true later ts is.2)

text_is_printed : (deep : ℕ) (value : Value) → IsPlainValue deep value → print (json_tokens (tree value)) ≡ value_text value
unfolding print_from
text_is_printed deep value is = ap print (sym (append-nil (json_tokens (tree value)))) ∙ print_value deep false value [] is ∙ append-nil (value_text value)

-- ---- what the tree means, its numbers, and how deep it is

-- a number below zero is read as what it is, and is a number
below_zero_means : (n : ℕ) → 0 < n → n ≤ 2 ^ 63 → of_json (json.number (codes "-" ++ decimal n)) ≡ Some (meant (below_zero n))
below_zero_means zero some fits = absurd (omega arith)
below_zero_means (suc n) some fits = ap (option_map reader.number) (number_of-negative n (omega arith))

below_zero_is_number : (n : ℕ) → 0 < n → n ≤ 2 ^ 63 → IsNumber (codes "-" ++ decimal n)
below_zero_is_number zero some fits = absurd (omega arith)
below_zero_is_number (suc n) some fits = IsNumber-signed_decimal (negsuc n) (omega arith)

mutual
  tree_means : (value : Value) → HasNumbersOf64Bits value → of_json (tree value) ≡ Some (meant value)
  tree_means null fits = refl
  tree_means (truth b) fits = refl
  tree_means (number n) fits = ap (option_map reader.number) (number_of-decimal n fits)
  tree_means (below_zero n) fits = below_zero_means n fits.0 fits.1
  tree_means (pair one other) fits = rw (number_of-decimal one fits.0, number_of-decimal other fits.1) refl
  tree_means (string text) fits = refl
  tree_means (object members) fits = ap (option_map reader.object) (trees_mean members reader.no_members fits)

  trees_mean : (members : Members) (found : reader.Members) → HaveNumbersOf64Bits members → of_members (trees members) found ≡ Some (with_members members found)
  trees_mean nothing found fits = refl
  trees_mean (member key value later) found fits =
      ap (option_and_then (λ d. of_members (trees later) (put key d found))) (tree_means value fits.0) ∙ trees_mean later (put key (meant value) found) fits.1

mutual
  tree_has_numbers : (value : Value) → HasNumbersOf64Bits value → HasNumbers (tree value)
  tree_has_numbers null fits = tt
  tree_has_numbers (truth b) fits = tt
  tree_has_numbers (number n) fits = IsNumber-decimal n fits
  tree_has_numbers (below_zero n) fits = below_zero_is_number n fits.0 fits.1
  tree_has_numbers (pair one other) fits = (IsNumber-decimal one fits.0, (IsNumber-decimal other fits.1, tt))
  tree_has_numbers (string text) fits = tt
  tree_has_numbers (object members) fits = trees_have_numbers members fits

  trees_have_numbers : (members : Members) → HaveNumbersOf64Bits members → MembersHaveNumbers (trees members)
  trees_have_numbers nothing fits = tt
  trees_have_numbers (member key value later) fits = (tree_has_numbers value fits.0, trees_have_numbers later fits.1)

mutual
  tree_depth : (deep : ℕ) (value : Value) → IsPlainValue deep value → depth (tree value) ≤ deep
  tree_depth deep null is = omega arith
  tree_depth deep (truth b) is = omega arith
  tree_depth deep (number n) is = omega arith
  tree_depth deep (below_zero n) is = omega arith
  tree_depth zero (pair one other) is = absurd is
  tree_depth (suc deep) (pair one other) is = omega arith
  tree_depth deep (string text) is = omega arith
  tree_depth zero (object members) is = absurd is
  tree_depth (suc deep) (object members) is = omega (arith, trees_depth deep members is)

  trees_depth : (deep : ℕ) (members : Members) → ArePlain deep members → members_depth (trees members) ≤ deep
  trees_depth deep nothing is = omega arith
  trees_depth deep (member key value later) is = omega (arith, tree_depth deep value is.1, trees_depth deep later is.2)

-- ---- so it is read as what it means: the value that is read, where nothing follows

abbrev whole : Option (json.Json × List Token) → Option reader.Data
whole found = option_and_then of_json (option_and_then (λ p. json.if_last p.0 p.1) found)

pub read_as_meant : (members : Members) → ArePlain 1 members → IsReadAsMeant members
read_as_meant members is fits =
    let all : Value = object members in
    let numbers = tree_has_numbers all fits in
    let lexed = ap tokens (sym (text_is_printed 2 all is)) ∙ tokens-print (json_tokens (tree all)) (ArePrintable-json_tokens (tree all) numbers) in
    ap whole (ap (json.value max_depth) (lexed ∙ sym (append-nil (json_tokens (tree all)))) ∙ value-json_tokens (tree all) max_depth [] (omega (arith, tree_depth 2 all is)))
    ∙ tree_means all fits
