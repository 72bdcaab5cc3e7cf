-- Tables that count, whatever their keys are.
use Rattle.std.proofs.Common.{◌≡◌, ℕ, ◌+◌, ◌==◌, Bool, true, false, List, [], ◌∷◌, Some, None, refl, sym, ◌∙◌, ap, subst, arith, is_eq}
use Rattle.std.proofs.Common.{Ordering}
use Rattle.std.proofs.lemmas.Bool.{eqb-true}
use Rattle.std.proofs.lemmas.Map.Keys.{IsDistinct-from_sorted}
use Rattle.std.specs.BTreeMap.{BTreeMap, IsOrdered, Updates, insert_entry}
use Rattle.std.specs.BTreeMap as tree
use Rattle.std.specs.List.{IsDistinct}
use Rattle.std.specs.List.Sorted.{IsStrictlySortedBy}
use Rattle.std.specs.Map.{lookup, remove_entry}
use Rattle.std.specs.Ordering.{match_ordering}
use Rattle.std.specs.declared.cmp.Ordering.TheVariants.{Less, Equal, Greater}
use Rattle.std.specs.Option.{unwrap_or}
use Rattle.std.specs.Prelude.{if◌then◌else◌}
use Rattle.uds_find.specs.Finding.{IsTally, counted, one_more}

-- what `counted` has, read as a number
pub from-counted : (n : ℕ) → unwrap_or (counted n) 0 ≡ n
from-counted n = of-count (n == 0) refl
  where
    of-count : (b : Bool) → (n == 0) ≡ b → unwrap_or (counted n) 0 ≡ n
    of-count true none = ap (λ b. unwrap_or (if b then None else Some n) 0) none ∙ sym (eqb-true n 0 none)
    of-count false some = ap (λ b. unwrap_or (if b then None else Some n) 0) some

pub none-counted : (n : ℕ) → counted n ≡ None → n ≡ 0
none-counted n is = of-count (n == 0) refl
  where
    of-count : (b : Bool) → (n == 0) ≡ b → n ≡ 0
    of-count true none = eqb-true n 0 none
    of-count false some = absurd (cc (sym (ap (λ b. if b then None else Some n) some) ∙ is))

some-counted : (n : ℕ) → Some (n + 1) ≡ counted (n + 1)
some-counted n = of-count (n + 1 == 0) refl
  where
    of-count : (b : Bool) → (n + 1 == 0) ≡ b → Some (n + 1) ≡ counted (n + 1)
    of-count true none = absurd (omega (arith, eqb-true (n + 1) 0 none))
    of-count false some = sym (ap (λ b. if b then None else Some (n + 1)) some)

-- what a tally counts may be said in another way
pub tally-same : {K : Type 0} (same : K → K → Bool) (count other : K → ℕ) (table : List (K × ℕ)) → ((key : K) → count key ≡ other key)
    → IsTally same count table → IsTally same other table
tally-same same count other table is tally = subst (λ f. IsTally same f table) (λ i key. is key i) tally

module _ {K : Type 0} (order : K → K → Ordering) (same : K → K → Bool) (same-key : (one other : K) → is_eq (order one other) ≡ same one other) where
  -- a table in order has each key once
  pub keys-once : (keys : List K) → IsStrictlySortedBy order keys → IsDistinct same keys
  keys-once keys ordered = subst (λ s. IsDistinct s keys) (λ i one other. same-key one other i) (IsDistinct-from_sorted order keys ordered)

  -- and finds a key where the definition does
  pub found-key : {X : Type 0} (key : K) (table : List (K × X)) → lookup (λ other. is_eq (order key other)) table ≡ lookup (same key) table
  found-key key table = λ i. lookup (λ other. same-key key other i) table

  -- what is found under a key after one entry was written
  pub found-after : {X : Type 0} (one : K) (old new : BTreeMap K X) (now : X) → Updates order old new one (Some now) → (key : K)
      → lookup (same key) new.entries ≡ (if same one key then Some now else lookup (same key) old.entries)
  found-after one old new now updates key =
      sym (found-key key new.entries) ∙ updates.0 key ∙ ap (λ b. if b then Some now else tree.get order old key) (same-key one key)
      ∙ ap (λ o. if same one key then Some now else o) (found-key key old.entries)

  -- an entry put in and taken out again, where there was none under its key
  pub put-and-taken : {X : Type 0} (key : K) (value : X) (table : List (K × X)) → ((k : K) → is_eq (order k k) ≡ true)
      → lookup (λ other. is_eq (order key other)) table ≡ None
      → remove_entry (same key) (insert_entry order table key value) ≡ table
  put-and-taken {X} key value table itself absent =
      ap (λ test. remove_entry test (insert_entry order table key value)) (λ i other. sym (same-key key other) i) ∙ by table absent
    where
      at : (entry : K × X) (rest : List (K × X)) (o : Ordering) → order key entry.0 ≡ o
          → (if is_eq (order key entry.0) then Some entry.1 else lookup (λ other. is_eq (order key other)) rest) ≡ None
          → (lookup (λ other. is_eq (order key other)) rest ≡ None
          → remove_entry (λ other. is_eq (order key other)) (insert_entry order rest key value) ≡ rest)
          → remove_entry (λ other. is_eq (order key other))
          (match_ordering o ((key, value) ∷ entry ∷ rest) ((entry.0, value) ∷ rest) (entry ∷ insert_entry order rest key value)) ≡ entry ∷ rest
      at entry rest Less is none later =
          ap (λ b. if b then entry ∷ rest else (key, value) ∷ remove_entry (λ other. is_eq (order key other)) (entry ∷ rest)) (itself key)
      at entry rest Equal is none later =
          absurd (cc (sym (ap (λ o. if is_eq o then Some entry.1 else lookup (λ other. is_eq (order key other)) rest) is) ∙ none))
      at entry rest Greater is none later =
          ap (λ o. if is_eq o then insert_entry order rest key value
          else entry ∷ remove_entry (λ other. is_eq (order key other)) (insert_entry order rest key value)) is
          ∙ ap (λ l. entry ∷ l) (later (sym (ap (λ o. if is_eq o then Some entry.1 else lookup (λ other. is_eq (order key other)) rest) is) ∙ none))

      by : (es : List (K × X)) → lookup (λ other. is_eq (order key other)) es ≡ None
          → remove_entry (λ other. is_eq (order key other)) (insert_entry order es key value) ≡ es
      by [] none = ap (λ b. if b then [] else (key, value) ∷ []) (itself key)
      by (entry ∷ rest) none = at entry rest (order key entry.0) refl none (by rest)

  pub uncounted : (count : K → ℕ) (key : K) (table : List (K × ℕ)) → IsTally same count table
      → lookup (λ other. is_eq (order key other)) table ≡ None → count key ≡ 0
  uncounted count key table tally absent = none-counted (count key) (sym (found-key key table ∙ tally.counts key) ∙ absent)

  module _ (one-key : (one other : K) → same one other ≡ true → one ≡ other) where
    pub tally-more : (count : K → ℕ) (one : K) (old new : BTreeMap K ℕ) (now : ℕ) → IsTally same count old.entries → IsOrdered order new
        → Updates order old new one (Some now) → now ≡ count one + 1 → IsTally same (one_more same one count) new.entries
    tally-more count one old new now tally ordered updates is = record {
      once = keys-once _ ordered;
      counts = λ key. sym (found-key key new.entries) ∙ at key (same one key) refl;
    }
      where
        at : (key : K) (b : Bool) → same one key ≡ b → tree.get order new key ≡ counted (one_more same one count key)
        at key true here = updates.0 key ∙ ap (λ b. if b then Some now else tree.get order old key) (same-key one key ∙ here)
            ∙ ap Some is ∙ ap (λ k. Some (count k + 1)) (one-key one key here) ∙ some-counted (count key)
            ∙ ap (λ b. counted (if b then count key + 1 else count key)) (sym here)
        at key false apart = updates.0 key ∙ ap (λ b. if b then Some now else tree.get order old key) (same-key one key ∙ apart)
            ∙ found-key key old.entries ∙ tally.counts key ∙ ap (λ b. counted (if b then count key + 1 else count key)) (sym apart)
