-- Rules in an array, and of each byte the place of the first of them that begins with it.
use Prim.Native.Nat.{zero, suc}
use Rattle.std.specs.Prelude.{◌≡◌, ℕ, ◌+◌, ◌-◌, ◌≤◌, List, [], ◌∷◌, ◌++◌, length, take, drop, get_or}
use Rattle.std.proofs.Common.{replicate, set, length-take, arith, sym, ap, ◌∙◌}
use Rattle.std.proofs.lemmas.List.{take-append-drop}
use Rattle.uds_message.specs.Message.{sid}
use Rattle.uds_rules.specs.declared.rule.Deed.TheVariants as deed
use Rattle.uds_rules.specs.Rule.{RuleValue}
use Rattle.uds_rules.specs.Legal.{AreRules}

-- what stands in the array where there is no rule
abbrev pub unused : RuleValue
unused = record { prefix = 0 ∷ []; deed = deed.Drop }

-- a place that is noted stays, and where none is (0) a later one is noted
abbrev pub earlier : ℕ → ℕ → ℕ
earlier zero later = later
earlier (suc noted) later = suc noted

-- a table in which this place, counted from 1, is noted at the first byte of a rule
abbrev pub noted_one : List ℕ → ℕ → RuleValue → List ℕ
noted_one table place rule = set table (sid rule.prefix) (earlier (get_or table (sid rule.prefix) 0) place)

-- a table in which the places of these rules are noted, too, behind so many others
abbrev pub noted : List ℕ → ℕ → List RuleValue → List ℕ
noted table before [] = table
noted table before (rule ∷ rules) = noted (noted_one table (before + 1) rule) (before + 1) rules

-- the table of some rules
abbrev pub first_places : List RuleValue → List ℕ
first_places rules = noted (replicate 256 0) 0 rules

-- the array of some rules
abbrev pub filled : List RuleValue → List RuleValue
filled rules = rules ++ replicate (64 - length rules) unused

-- the first so many rules of an array are those of a profile, and nothing else stands in it
pub record AreHeld (count : ℕ) (whole : List RuleValue) (table : List ℕ) : Type 0 where
  pub most : count ≤ 64
  pub full : length whole ≡ 64
  pub rest : drop count whole ≡ replicate (64 - count) unused
  pub places : table ≡ first_places (take count whole)
  pub rules : AreRules (take count whole)

-- as many rules as are counted
pub held_count : (count : ℕ) (whole : List RuleValue) (table : List ℕ) → AreHeld count whole table → length (take count whole) ≡ count
held_count count whole table held =
    let of_take = length-take count whole in
    let most = held.most in
    let full = held.full in
    omega arith

-- the array is that of its rules
pub held_whole : (count : ℕ) (whole : List RuleValue) (table : List ℕ) → AreHeld count whole table → filled (take count whole) ≡ whole
held_whole count whole table held =
    ap (λ n. take count whole ++ replicate (64 - n) unused) (held_count count whole table held)
    ∙ ap (λ rest. take count whole ++ rest) (sym held.rest)
    ∙ take-append-drop count whole
