-- Lists that are equal up to a place, and where one of them ends.
use Rattle.std.proofs.Common.{◌≡◌, ◌≢◌, ℕ, ◌+◌, ◌<◌, ◌≤◌, zero, suc, min, List, [], ◌∷◌, length, take, get_or, Some, refl, sym, ◌∙◌, arith}
use Rattle.std.specs.Prelude.{slice_get}
use Rattle.std.proofs.lemmas.Option.{slice_get_past, slice_get_within, slice_get-get_or, get_or_from_slice_get, none-some}
use Rattle.std.proofs.lemmas.List.{take_more_same}

module _ {X : Type 0} where
  pub take-more : (xs ys : List X) (i : ℕ) (x : X) → take i xs ≡ take i ys → slice_get xs i ≡ Some x → slice_get ys i ≡ Some x
      → take (i + 1) xs ≡ take (i + 1) ys
  take-more xs ys i x h e f =
      take_more_same xs ys i x (slice_get_within xs i x e) (slice_get_within ys i x f) h
      (get_or_from_slice_get xs i x x e ∙ sym (get_or_from_slice_get ys i x x f))

  -- the same of what stands there, whatever it is; `d` stands for what is read behind the end
  pub take-more-same : (xs ys : List X) (i : ℕ) (d : X) → i < length xs → take i xs ≡ take i ys → slice_get xs i ≡ slice_get ys i
      → take (i + 1) xs ≡ take (i + 1) ys
  take-more-same xs ys i d below h same =
      let e = slice_get-get_or xs i d below in
      take-more xs ys i (get_or xs i d) h e (sym same ∙ e)

  -- a list that has an item where the other has ended
  pub ended-differs : (xs ys : List X) (i : ℕ) → length xs ≤ i → i < length ys → slice_get xs i ≢ slice_get ys i
  ended-differs xs [] i e h d = absurd (omega arith)
  ended-differs xs (y ∷ ys) i e h d = none-some _ (sym (slice_get_past xs i e) ∙ d ∙ slice_get-get_or (y ∷ ys) i y h)

  -- at the length of the shorter of two lists, one of them alone has an item
  pub shorter-differs : (xs ys : List X) (n : ℕ) → n ≡ min (length xs) (length ys) → length xs ≢ length ys
      → slice_get xs n ≢ slice_get ys n
  shorter-differs [] [] n e d = absurd (d refl)
  shorter-differs [] (y ∷ ys) n e d = ended-differs [] (y ∷ ys) n (omega arith) (omega arith)
  shorter-differs (x ∷ xs) [] n e d = λ h. ended-differs [] (x ∷ xs) n (omega arith) (omega arith) (sym h)
  shorter-differs (x ∷ xs) (y ∷ ys) zero e d = absurd (omega arith)
  shorter-differs (x ∷ xs) (y ∷ ys) (suc n) e d = shorter-differs xs ys n (omega arith) (λ h. d (omega arith))
