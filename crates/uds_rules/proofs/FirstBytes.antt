-- Messages by their first byte: where the rules stand that may speak of one.
use Prim.Native.Nat.{zero, suc}
use Rattle.std.proofs.Common.{◌≡◌, ℕ, ◌+◌, ◌<◌, ◌≤◌, ◌==◌, ◌||◌, not, Bool, true, false, List, [], ◌∷◌, length, drop, replicate, get_or, Option, Some, None, option_map, inl, inr, refl, ap, sym, ◌∙◌, arith, eq-eqb, if◌then◌else◌}
use Rattle.std.specs.List.{AllByRecursion}
use Rattle.std.proofs.lemmas.Bool.{cases_Bool, eqb-true, false≢true}
use Rattle.std.proofs.lemmas.List.{get_or-set_other, get_or-replicate, length-set, length-replicate}
use Rattle.std.proofs.lemmas.Grind.{get_or-set_at}
use Rattle.uds_message.specs.Message.{sid}
use Rattle.uds_rules.specs.Rule.{RuleValue, begins_with, is_spoken_of, may_speak_of, rule_of, speaks_of}
use Rattle.uds_rules.specs.Legal.{IsRule}
use Rattle.uds_rules.specs.KeptLaws.{UnspokenStays}
use Rattle.uds_rules.specs.proving.Held.{earlier, noted_one, noted, first_places}

-- the place of the first of these rules that begins with a byte, counted from 1, behind so many others, or 0
abbrev pub first_behind : ℕ → List RuleValue → ℕ → ℕ
first_behind before [] byte = 0
first_behind before (rule ∷ rules) byte = if sid rule.prefix == byte then suc before else first_behind (suc before) rules byte

none_later : (place : ℕ) → place ≡ earlier place 0
none_later zero = refl
none_later (suc place) = refl

-- one place more
noted_more : (table : List ℕ) (place : ℕ) (rule : RuleValue) (byte : ℕ) → byte < length table
    → get_or (noted_one table place rule) byte 0 ≡ earlier (get_or table byte 0) (if sid rule.prefix == byte then place else 0)
noted_more table place rule byte within =
    let at = sid rule.prefix in
    let new = earlier (get_or table at 0) place in
    elim (cases_Bool (at == byte)) [
      | inl same ↦
          let is = eqb-true at byte same in
          rw same (get_or-set_at table at byte new 0 (sym is) (omega (arith, is, within)) ∙ ap (λ n. earlier (get_or table n 0) place) is)
      | inr unlike ↦
          rw unlike
          (get_or-set_other table at byte new 0 (λ is. false≢true (sym unlike ∙ eq-eqb at byte (sym is))) ∙ none_later (get_or table byte 0))
    ]

earlier_of : (place : ℕ) (same : Bool) (here later : ℕ) → earlier (earlier place (if same then suc here else 0)) later ≡ earlier place (if same then suc here else later)
earlier_of zero true here later = refl
earlier_of zero false here later = refl
earlier_of (suc place) same here later = refl

-- what is noted: what was, and else the place of the first rule that begins with the byte
noted_is : (table : List ℕ) (before : ℕ) (rules : List RuleValue) (byte : ℕ) → byte < length table
    → get_or (noted table before rules) byte 0 ≡ earlier (get_or table byte 0) (first_behind before rules byte)
noted_is table before [] byte within = none_later (get_or table byte 0)
noted_is table before (rule ∷ rules) byte within =
    let at = sid rule.prefix in
    let next : before + 1 ≡ suc before = omega arith in
    let new = noted_one table (suc before) rule in
    let long : byte < length new = (let same = length-set table at (earlier (get_or table at 0) (suc before)) in omega (arith, same, within)) in
    ap (λ n. get_or (noted (noted_one table n rule) n rules) byte 0) next
    ∙ noted_is new (suc before) rules byte long
    ∙ ap (λ n. earlier n (first_behind (suc before) rules byte)) (noted_more table (suc before) rule byte within)
    ∙ earlier_of (get_or table byte 0) (at == byte) before (first_behind (suc before) rules byte)

-- so the table of rules has that place
pub first_is_noted : (rules : List RuleValue) (table : List ℕ) (byte : ℕ) → table ≡ first_places rules → byte < 256
    → get_or table byte 0 ≡ first_behind 0 rules byte
first_is_noted rules table byte is within =
    let long : byte < length {A = ℕ} (replicate 256 0) = (let all = length-replicate {A = ℕ} 256 0 in omega (arith, all, within)) in
    ap (λ (l : List ℕ). get_or l byte 0) is ∙ noted_is (replicate 256 0) 0 rules byte long
    ∙ ap (λ n. earlier n (first_behind 0 rules byte)) (get_or-replicate 256 byte 0 0 within)

some_place : (n : ℕ) → (suc n == 0) ≡ false
some_place n =
    elim (cases_Bool (suc n == 0)) [
      | inl none ↦ (let is = eqb-true (suc n) 0 none in absurd (omega (arith, is)))
      | inr some ↦ some
    ]

-- and one where a rule begins with the first byte of the message
pub some_is_noted : (before : ℕ) (rules : List RuleValue) (message : List ℕ) → not (first_behind before rules (sid message) == 0) ≡ may_speak_of rules message
some_is_noted before [] message = refl
some_is_noted before (rule ∷ rules) message =
    elim (cases_Bool (sid rule.prefix == sid message)) [
      | inl same ↦ rw same (ap not (some_place before))
      | inr unlike ↦ rw unlike (some_is_noted (suc before) rules message)
    ]

-- a rule that begins with another byte does not speak of the message
not_spoken : (prefix message : List ℕ) → 1 ≤ length prefix → (sid prefix == sid message) ≡ false → begins_with prefix message ≡ false
not_spoken [] message some other = absurd (omega (arith, some))
not_spoken (byte ∷ prefix) [] some other = refl
not_spoken (byte ∷ prefix) (first ∷ message) some other = rw other refl

-- neither of two tests passes where none of both does
pub both_false : (a b : Bool) → (a || b) ≡ false → (a ≡ false) × (b ≡ false)
both_false true b off = absurd (false≢true (sym off))
both_false false b off = (refl, off)

-- and so none does where none begins with its first byte
pub none_speaks : (rules : List RuleValue) (message : List ℕ) → AllByRecursion IsRule rules → may_speak_of rules message ≡ false → is_spoken_of rules message ≡ false
none_speaks [] message are off = refl
none_speaks (rule ∷ rules) message are off =
    let parts = both_false (sid rule.prefix == sid message) (may_speak_of rules message) off in
    rw (not_spoken rule.prefix message are.0.least parts.0) (none_speaks rules message are.1 parts.1)

-- a message that no rule speaks of stays as it is
pub unspoken_stays : UnspokenStays
unspoken_stays [] message off = refl
unspoken_stays (rule ∷ rules) message off =
    let parts = both_false (speaks_of rule message) (is_spoken_of rules message) off in
    rw parts.0 (unspoken_stays rules message parts.1)

-- what no rule speaks of has no rule
pub no_rule : (rules : List RuleValue) (message : List ℕ) → is_spoken_of rules message ≡ false → rule_of rules message ≡ None
no_rule [] message off = refl
no_rule (rule ∷ rules) message off =
    let parts = both_false (speaks_of rule message) (is_spoken_of rules message) off in
    rw parts.0 (ap (option_map (λ place. place + 1)) (no_rule rules message parts.1))

-- nor has a message at whose first byte no place is noted
pub none_noted : (rules : List RuleValue) (message : List ℕ) → AllByRecursion IsRule rules → first_behind 0 rules (sid message) ≡ 0 → rule_of rules message ≡ None
none_noted rules message are none =
    no_rule rules message (none_speaks rules message are (sym (some_is_noted 0 rules message) ∙ ap (λ n. not (n == 0)) none))

-- The rule that speaks of a message stands nowhere before the place that is noted at its first byte.
pub rule_behind : (before : ℕ) (rules : List RuleValue) (message : List ℕ) (last : ℕ) → AllByRecursion IsRule rules
    → first_behind before rules (sid message) ≡ suc last
    → (start : ℕ) × (last ≡ before + start) × (rule_of rules message ≡ option_map (λ place. start + place) (rule_of (drop start rules) message))
rule_behind before [] message last are is = absurd (omega (arith, is))
rule_behind before (rule ∷ rules) message last are is =
    elim (cases_Bool (sid rule.prefix == sid message)) [
      | inl same ↦
          let here : suc before ≡ suc last = rw same at is in
          (0, omega (arith, here), from_none (rule_of (rule ∷ rules) message))
      | inr unlike ↦
          let later = rule_behind (suc before) rules message last are.1 (rw unlike at is) in
          let start = later.0 in
          let there = later.1 in
          let past : rule_of (rule ∷ rules) message ≡ option_map (λ place. place + 1) (rule_of rules message) =
          rw (not_spoken rule.prefix message are.0.least unlike) refl in
          (suc start, omega (arith, there), past ∙ ap (option_map (λ place. place + 1)) later.2 ∙ one_further start (rule_of (drop start rules) message))
    ] where
      from_none : (place : Option ℕ) → place ≡ option_map (λ n. 0 + n) place
      from_none None = refl
      from_none (Some n) = (let same : n ≡ 0 + n = omega arith in ap Some same)

      one_further : (start : ℕ) (place : Option ℕ) → option_map (λ n. n + 1) (option_map (λ n. start + n) place) ≡ option_map (λ n. suc start + n) place
      one_further start None = refl
      one_further start (Some n) = (let same : (start + n) + 1 ≡ suc start + n = omega arith in ap Some same)

-- so it is looked for from there
pub rule_from_there : (rules : List RuleValue) (message : List ℕ) (last : ℕ) → AllByRecursion IsRule rules → first_behind 0 rules (sid message) ≡ suc last
    → rule_of rules message ≡ option_map (λ place. last + place) (rule_of (drop last rules) message)
rule_from_there rules message last are is =
    let found = rule_behind 0 rules message last are is in
    let same : found.0 ≡ last = (let there = found.1 in omega (arith, there)) in
    found.2 ∙ ap (λ start. option_map (λ place. start + place) (rule_of (drop start rules) message)) same
