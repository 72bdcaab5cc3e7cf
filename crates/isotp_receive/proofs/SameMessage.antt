-- A message is fixed by its places.
use Rattle.std.proofs.Common.{◌≡◌, ℕ, zero, suc, ◌+◌, ◌-◌, ◌*◌, ◌/◌, ◌%◌, ◌<◌, ◌≤◌, List, [], ◌∷◌, length, take, drop, get_or, slice_index}
use Rattle.std.proofs.Common.{sym, ◌∙◌, ap, arith, inl, inr, subst, ext_get_or, Some}
use Rattle.std.specs.Prelude.{slice_get}
use Rattle.std.proofs.lemmas.Nat.{div-add-mod'}
use Rattle.std.proofs.Math.Nat.{mod-lt}
use Rattle.std.proofs.lemmas.Bool.{cases_lt}
use Rattle.isotp_receive.specs.declared.channel.Channel.{Channel}
use Rattle.isotp_receive.specs.Trace.{Entry, At, role}
use Rattle.isotp_receive.specs.Places.{bytes_in_first, consecutive_by, consecutive_frames_in, IsConsecutive, AtPlaces}
use Rattle.isotp_receive.proofs.ListPositions.{get-same, get-drop}

-- ---- the number of a consecutive frame fixes the frame

count-rises : (d : Channel) (l : List Entry) (j k : ℕ) (x : Entry) → j < k → slice_get l j ≡ Some x → consecutive_by (role d x) ≡ 1
    → consecutive_frames_in d (take j l) + 1 ≤ consecutive_frames_in d (take k l)
count-rises d [] j k x less at one = absurd (cc)
count-rises d (y ∷ l) j zero x less at one = absurd (omega arith)
count-rises d (y ∷ l) zero (suc k) x less at one =
    (let same : y ≡ x = cc in let by : consecutive_by (role d y) ≡ 1 = ap (λ z. consecutive_by (role d z)) same ∙ one in omega arith)
count-rises d (y ∷ l) (suc j) (suc k) x less at one = (let rest = count-rises d l j k x (omega arith) at one in omega arith)

number-rises : (T : List Entry) (d : Channel) (i k c k' c' : ℕ) (x x' : Entry) → IsConsecutive T d i k c x → IsConsecutive T d i k' c' x' → c < c' → k < k'
number-rises T d i k c k' c' x x' h g less =
    let later = h.later in
    let there : slice_get (drop (i + 1) T) (c - (i + 1)) ≡ Some x = sym (get-drop (i + 1) T (c - (i + 1)) c (omega arith)) ∙ h.stands in
    let rises = count-rises d (drop (i + 1) T) (c - (i + 1)) (c' - (i + 1)) x (omega arith) there h.kind in
    let a = h.counted in let b = g.counted in omega arith

same-number : (T : List Entry) (d : Channel) (i k c c' : ℕ) (x x' : Entry) → IsConsecutive T d i k c x → IsConsecutive T d i k c' x' → x ≡ x'
same-number T d i k c c' x x' h g = elim (cases_lt c c') [
  | inl before ↦ absurd (let less = number-rises T d i k c k c' x x' h g before in omega arith)
  | inr most ↦ elim (cases_lt c' c) [
    | inl before ↦ absurd (let less = number-rises T d i k c' k c x' x g h before in omega arith)
    | inr least ↦ (let same : c ≡ c' = omega arith in
        get-same T c x x' h.stands (subst (λ j. At T j x') (sym same) g.stands))
  ]
]

-- ---- and so the message

module _ (T : List Entry) (d : Channel) (i : ℕ) (e : Entry) (r : ℕ) (m n : List ℕ) (wide : 2 ≤ r) (a : AtPlaces T d i e r m) (b : AtPlaces T d i e r n) (size : length m ≡ length n) where
  in_frames : (x q t : ℕ) → x < length m → t < r - 1 → x ≡ bytes_in_first e.frame.bytes + (q * (r - 1) + t) → get_or m x 0 ≡ get_or n x 0
  in_frames x q t inside less place =
      let one = a.in_consecutive q t less (omega arith) in
      let two = b.in_consecutive q t less (omega arith) in
      let frame : one.1 ≡ two.1 = same-number T d i (q + 1) one.0 two.0 one.1 two.1 one.2 two.2 in
      ap (λ j. get_or m j 0) place ∙ one.3 ∙ ap (λ y. slice_index y.frame.bytes (1 + t)) frame ∙ sym two.3 ∙ ap (λ j. get_or n j 0) (sym place)

  by_place : (x : ℕ) → x < length m → get_or m x 0 ≡ get_or n x 0
  by_place x inside = elim (cases_lt x (bytes_in_first e.frame.bytes)) [
    | inl below ↦ a.in_first x inside below ∙ sym (b.in_first x (omega arith) below)
    | inr behind ↦ (
        let y = x - bytes_in_first e.frame.bytes in
        let parts = div-add-mod' y (r - 1) in
        in_frames x (y / (r - 1)) (y % (r - 1)) inside (mod-lt y (omega arith)) (omega arith))
  ]

  pub same-message : m ≡ n
  same-message = ext_get_or 0 m n size (λ x inside. by_place x inside)
