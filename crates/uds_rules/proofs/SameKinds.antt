-- A mask keeps what a message is.
use Rattle.std.proofs.Common.{◌≡◌, ℕ, ◌≤◌, ◌==◌, ◌||◌, not, Bool, true, false, List, [], ◌∷◌, ◌++◌, length, take, drop, Some, inl, inr, refl, ap, sym, ◌∙◌, subst, arith, if◌then◌else◌}
use Rattle.std.specs.List.{AllByRecursion}
use Rattle.std.proofs.lemmas.Bool.{cases_Bool, false≢true}
use Rattle.std.proofs.lemmas.Option.{none-some, same_Some}
use Rattle.std.proofs.lemmas.List.{length-append, take-append-drop}
use Rattle.uds_message.specs.Message.{is_keep_alive, is_negative, is_suppressing, is_response_pending}
use Rattle.uds_message.specs.Tables.{has_sub_function}
use Rattle.uds_rules.specs.declared.rule.Deed.{Deed}
use Rattle.uds_rules.specs.declared.rule.Deed.TheVariants as deed
use Rattle.uds_rules.specs.Mask.{MaskValue, masked_bytes, masked}
use Rattle.uds_rules.specs.Rule.{RuleValue, begins_with, speaks_of, made_by, made_of}
use Rattle.uds_rules.specs.Legal.{IsRule, IsDeed, IsMask, keeps_first, keeps_sub_function}
use Rattle.uds_rules.specs.Laws.{IsSameKind, MaskKeepsKind, NoByteIsAdded}
use Rattle.uds_rules.proofs.Beginnings.{prefix_in_front}
use Rattle.uds_rules.proofs.Masks.{masked_is_short}

-- ---- a message that begins with neither 3E nor 7F

not_alive : (first : ℕ) (rest : List ℕ) → (first == 0x3E) ≡ false → is_keep_alive (first ∷ rest) ≡ false
not_alive first [] other = refl
not_alive first (second ∷ []) other = rw other refl
not_alive first (second ∷ third ∷ rest) other = refl

not_negative : (service first : ℕ) (passes : ℕ → Bool) (rest : List ℕ) → (first == 0x7F) ≡ false → is_negative service passes (first ∷ rest) ≡ false
not_negative service first passes [] other = refl
not_negative service first passes (refused ∷ []) other = refl
not_negative service first passes (refused ∷ code ∷ []) other = rw other refl
not_negative service first passes (refused ∷ code ∷ more ∷ rest) other = refl

-- so what follows its first byte tells nothing but whether it asks for silence
by_first : (first : ℕ) (rest other : List ℕ) → (first == 0x3E) ≡ false → (first == 0x7F) ≡ false
    → is_suppressing (first ∷ other) ≡ is_suppressing (first ∷ rest) → length other ≤ length rest → IsSameKind (first ∷ rest) (first ∷ other)
by_first first rest other alive negative silence few = record {
  kind = rw (not_alive first rest alive, not_alive first other alive) refl;
  answers = λ service. rw (
    not_negative service first (λ code. not (is_response_pending code)) rest negative,
    not_negative service first (λ code. not (is_response_pending code)) other negative,
    not_negative service first is_response_pending rest negative,
    not_negative service first is_response_pending other negative,
  ) refl;
  service = refl;
  negative = refl;
  silence = silence;
  most = omega arith;
  some = λ some. omega arith;
}

-- ---- silence

-- a service without a sub-function asks for no silence
no_sub_function : (service : ℕ) (rest : List ℕ) → has_sub_function service ≡ false → is_suppressing (service ∷ rest) ≡ false
no_sub_function service [] none = refl
no_sub_function service (second ∷ rest) none = rw none refl

-- the byte behind the first is kept
kept_second : (service : ℕ) (places : List Bool) (cuts : Bool) (rest : List ℕ) → keeps_first places cuts ≡ true
    → is_suppressing (service ∷ masked_bytes places (if cuts then take (length places) rest else rest)) ≡ is_suppressing (service ∷ rest)
kept_second service [] true rest keeps = absurd (false≢true keeps)
kept_second service [] false rest keeps = refl
kept_second service (true ∷ places) cuts rest keeps = absurd (false≢true keeps)
kept_second service (false ∷ places) true [] keeps = refl
kept_second service (false ∷ places) true (second ∷ rest) keeps = refl
kept_second service (false ∷ places) false [] keeps = refl
kept_second service (false ∷ places) false (second ∷ rest) keeps = refl

keeps_silence : (first : ℕ) (prefix : List ℕ) (mask : MaskValue) (rest : List ℕ) → keeps_sub_function (first ∷ prefix) mask ≡ true
    → is_suppressing (first ∷ (prefix ++ masked mask rest)) ≡ is_suppressing (first ∷ (prefix ++ rest))
keeps_silence first (second ∷ prefix) mask rest keeps = refl
keeps_silence first [] mask rest keeps =
    elim (cases_Bool (has_sub_function first)) [
      | inl has ↦ kept_second first mask.places mask.cuts rest (rw has at keeps)
      | inr none ↦ no_sub_function first (masked mask rest) none ∙ sym (no_sub_function first rest none)
    ]

-- ---- what rules make

off : (a b : Bool) → not (a || b) ≡ true → (a ≡ false) × (b ≡ false)
off true b is = absurd (false≢true is)
off false true is = absurd (false≢true is)
off false false is = (refl, refl)

masked_kind : (prefix : List ℕ) (mask : MaskValue) (rest : List ℕ) → IsMask prefix mask → IsSameKind (prefix ++ rest) (prefix ++ masked mask rest)
masked_kind [] mask rest is = absurd (false≢true is.messages)
masked_kind (first ∷ prefix) mask rest is =
    let others = off (first == 0x3E) (first == 0x7F) is.messages in
    let shorter : length (prefix ++ masked mask rest) ≤ length (prefix ++ rest) = (
    let one = length-append prefix (masked mask rest) in
    let other = length-append prefix rest in
    let few = masked_is_short mask rest in
    omega arith)
    in
    by_first first (prefix ++ rest) (prefix ++ masked mask rest) others.0 others.1 (keeps_silence first prefix mask rest is.sub_function) shorter

same_kind : (message : List ℕ) → IsSameKind message message
same_kind message =
    record { kind = refl; answers = λ service. refl; service = refl; negative = refl; silence = refl; most = omega arith; some = λ some. some }

made_kind : (this : Deed) (prefix message shown : List ℕ) → IsDeed prefix this → begins_with prefix message ≡ true → made_by this prefix message ≡ Some shown
    → IsSameKind message shown
made_kind deed.Drop prefix message shown may begins is = absurd (none-some _ is)
made_kind (deed.Mask mask) prefix message shown may begins is =
    let behind : List ℕ = drop (length prefix) message in
    let whole : prefix ++ behind ≡ message =
    ap (λ front. front ++ behind) (sym (prefix_in_front prefix message begins)) ∙ take-append-drop (length prefix) message in
    subst (λ message. IsSameKind message shown) whole (subst (λ shown. IsSameKind (prefix ++ behind) shown) (same_Some _ _ is) (masked_kind prefix mask behind may))

each_kind : (rules : List RuleValue) (message shown : List ℕ) → AllByRecursion IsRule rules → made_of rules message ≡ Some shown → IsSameKind message shown
each_kind [] message shown each is = subst (IsSameKind message) (same_Some _ _ is) (same_kind message)
each_kind (rule ∷ rules) message shown each is =
    elim (cases_Bool (speaks_of rule message)) [
      | inl speaks ↦ made_kind rule.deed rule.prefix message shown each.0.deed speaks (rw speaks at is)
      | inr silent ↦ each_kind rules message shown each.1 (rw silent at is)
    ]

pub mask_keeps_kind : MaskKeepsKind
mask_keeps_kind rules are message shown is = each_kind rules message shown are.each is

-- ---- no rule makes a message longer

made_short : (this : Deed) (prefix message shown : List ℕ) → begins_with prefix message ≡ true → made_by this prefix message ≡ Some shown
    → length shown ≤ length message
made_short deed.Drop prefix message shown begins is = absurd (none-some _ is)
made_short (deed.Mask mask) prefix message shown begins is =
    let behind : List ℕ = drop (length prefix) message in
    let whole : prefix ++ behind ≡ message =
    ap (λ front. front ++ behind) (sym (prefix_in_front prefix message begins)) ∙ take-append-drop (length prefix) message in
    let short : length (prefix ++ masked mask behind) ≤ length message = (
    let same = ap length whole in
    let one = length-append prefix (masked mask behind) in
    let other = length-append prefix behind in
    let few = masked_is_short mask behind in
    omega arith)
    in
    subst (λ shown. length shown ≤ length message) (same_Some _ _ is) short

pub no_byte_is_added : NoByteIsAdded
no_byte_is_added [] message shown is = subst (λ shown. length shown ≤ length message) (same_Some _ _ is) (omega arith)
no_byte_is_added (rule ∷ rules) message shown is =
    elim (cases_Bool (speaks_of rule message)) [
      | inl speaks ↦ made_short rule.deed rule.prefix message shown speaks (rw speaks at is)
      | inr silent ↦ no_byte_is_added rules message shown (rw silent at is)
    ]
