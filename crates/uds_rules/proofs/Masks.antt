-- What a mask makes of the bytes behind a prefix.
use Prim.Native.Nat.{suc}
use Rattle.std.proofs.Common.{◌≡◌, ℕ, ◌+◌, ◌-◌, ◌<◌, ◌≤◌, Bool, true, false, List, [], ◌∷◌, ◌++◌, length, take, drop, get_or, set, min, length-drop, append-nil, append_assoc, refl, ap, sym, ◌∙◌, arith, if◌then◌else◌}
use Rattle.std.proofs.lemmas.Grind.{common_steps}
use Rattle.std.proofs.lemmas.List.{drop-take}
use Rattle.std.proofs.Math.Seq.{take-length}
use Rattle.uds_rules.specs.Mask.{MaskValue, masked_bytes, left_by, masked}
use Rattle.uds_rules.specs.proving.Bits.{left_count}
use Rattle.uds_rules.proofs.Lists.{drops}

-- one more byte
pub one_more : (bytes whole : List ℕ) (at : ℕ) (is_masked : Bool) (places : List Bool) → at < length bytes
    → take at bytes ++ masked_bytes (is_masked ∷ places) (drop at bytes) ≡ whole
    → take (at + 1) (set bytes at (if is_masked then 0 else get_or bytes at 0))
    ++ masked_bytes places (drop (at + 1) (set bytes at (if is_masked then 0 else get_or bytes at 0))) ≡ whole
one_more bytes whole at is_masked places within laid =
    let shown : ℕ = if is_masked then 0 else get_or bytes at 0 in
    let front : take (at + 1) (set bytes at shown) ≡ take at bytes ++ shown ∷ [] = grind (arith, common_steps) in
    let behind : drop (at + 1) (set bytes at shown) ≡ drop (at + 1) bytes = grind (arith, common_steps) in
    rw (front, behind)
    (append_assoc (take at bytes) (shown ∷ []) (masked_bytes places (drop (at + 1) bytes))
    ∙ ap (λ l. take at bytes ++ l) (sym (ap (masked_bytes (is_masked ∷ places)) (drops bytes at 0 within)))
    ∙ laid)

-- no places are left
pub no_places : (bytes whole : List ℕ) (at : ℕ) (places : List Bool) → places ≡ [] → take at bytes ++ masked_bytes places (drop at bytes) ≡ whole → bytes ≡ whole
no_places bytes whole at places none laid =
    let all : take at bytes ++ drop at bytes ≡ bytes = grind (arith, common_steps) in
    sym all ∙ ap (λ p. take at bytes ++ masked_bytes p (drop at bytes)) (sym none) ∙ laid

-- no bytes are left
pub no_more_bytes : (bytes whole : List ℕ) (at : ℕ) (places : List Bool) → length bytes ≤ at → take at bytes ++ masked_bytes places (drop at bytes) ≡ whole → bytes ≡ whole
no_more_bytes bytes whole at places ended laid =
    let none : drop at bytes ≡ [] = grind (arith, common_steps) in
    let all : take at bytes ≡ bytes = grind (arith, common_steps) in
    sym (append-nil bytes) ∙ ap (λ l. bytes ++ l) (sym (of_none places)) ∙ sym (rw (all, none) refl) ∙ laid where
      of_none : (places : List Bool) → masked_bytes places [] ≡ []
      of_none [] = refl
      of_none (is_masked ∷ places) = refl

-- what is left of bytes, by its length
left_is : (mask : MaskValue) (bytes : List ℕ) → take (left_count mask (length bytes)) bytes ≡ left_by mask bytes
left_is mask bytes = by_cut mask.cuts (length mask.places) where
  by_cut : (cuts : Bool) (n : ℕ) → take (if cuts then min (length bytes) n else length bytes) bytes ≡ (if cuts then take n bytes else bytes)
  by_cut true n = grind (arith, common_steps)
  by_cut false n = take-length bytes

-- the masked copy
pub copy_is : (mask : MaskValue) (start : ℕ) (message : List ℕ) → start ≤ length message
    → take start (take (start + left_count mask (length message - start)) message)
    ++ masked_bytes mask.places (drop start (take (start + left_count mask (length message - start)) message))
    ≡ take start message ++ masked mask (drop start message)
copy_is mask start message within =
    let count : ℕ = left_count mask (length message - start) in
    let front : take start (take (start + count) message) ≡ take start message = grind (arith, common_steps) in
    let left : take count (drop start message) ≡ left_by mask (drop start message) =
    ap (λ n. take (left_count mask n) (drop start message)) (sym (length-drop start message)) ∙ left_is mask (drop start message) in
    rw (front, drop-take start count message, left) refl

-- ---- what is masked stays so

-- masked bytes with as many bytes of the same list left
masked_again : (places : List Bool) (bytes : List ℕ) → masked_bytes places (masked_bytes places bytes) ≡ masked_bytes places bytes
masked_again [] bytes = refl
masked_again (is_masked ∷ places) [] = refl
masked_again (true ∷ places) (byte ∷ bytes) = ap (λ l. 0 ∷ l) (masked_again places bytes)
masked_again (false ∷ places) (byte ∷ bytes) = ap (λ l. byte ∷ l) (masked_again places bytes)

-- masking keeps how many bytes there are
pub masked_length : (places : List Bool) (bytes : List ℕ) → length (masked_bytes places bytes) ≡ length bytes
masked_length [] bytes = refl
masked_length (is_masked ∷ places) [] = refl
masked_length (is_masked ∷ places) (byte ∷ bytes) = ap (λ n. suc n) (masked_length places bytes)

pub masked_twice : (mask : MaskValue) (bytes : List ℕ) → masked mask (masked mask bytes) ≡ masked mask bytes
masked_twice mask bytes = by_cut mask.cuts refl where
  by_cut : (cuts : Bool) → mask.cuts ≡ cuts → masked mask (masked mask bytes) ≡ masked mask bytes
  by_cut true is =
      let left : List ℕ = take (length mask.places) bytes in
      let few : length (masked_bytes mask.places left) ≤ length mask.places = few_left in
      let all : take (length mask.places) (masked_bytes mask.places left) ≡ masked_bytes mask.places left = grind (arith, common_steps) in
      rw is (ap (masked_bytes mask.places) all ∙ masked_again mask.places left)
    where
      few_left : length (masked_bytes mask.places (take (length mask.places) bytes)) ≤ length mask.places
      few_left =
          let same = masked_length mask.places (take (length mask.places) bytes) in
          let most : length (take (length mask.places) bytes) ≤ length mask.places = grind (arith, common_steps) in
          omega arith
  by_cut false is = rw is (masked_again mask.places bytes)

-- and no byte more is left than there was
pub masked_is_short : (mask : MaskValue) (bytes : List ℕ) → length (masked mask bytes) ≤ length bytes
masked_is_short mask bytes =
    let same = masked_length mask.places (left_by mask bytes) in
    let few = left_few mask.cuts (length mask.places) bytes in
    omega (arith, same, few) where
      left_few : (cuts : Bool) (n : ℕ) (bytes : List ℕ) → length (if cuts then take n bytes else bytes) ≤ length bytes
      left_few true n bytes = grind (arith, common_steps)
      left_few false n bytes = omega arith
