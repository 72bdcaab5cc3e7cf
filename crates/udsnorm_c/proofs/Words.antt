-- The words of each status leave room for a 0 behind them, and no other status has them.
use Rattle.std.proofs.Common.{◌≡◌, ◌⊎◌, ◌<◌, ◌≤◌, ℕ, suc, ◌+◌, min, Bool, true, false, List, arith, refl, ap, sym, subst, ◌∙◌, inl, inr}
use Rattle.std.specs.Prelude.{◌==◌, codes, replicate, slice_index_or, if◌then◌else◌}
use Rattle.std.proofs.lemmas.Bool.{cases_lt, cond_both, eqb-false, eqb-true, ne_eqb}
use Rattle.udsnorm_c.specs.Laws.{StatusesAreToldApart}
use Rattle.udsnorm_c.specs.Spelled.{put_at_front, status_words, words_for_c}

-- the last of 48 bytes with these words is 0
abbrev Ends : List ℕ → Type 0
Ends words = slice_index_or (put_at_front words (replicate 48 0)) 47 1 ≡ 0

either : (b : Bool) (one other : List ℕ) → Ends one → Ends other → Ends (if b then one else other)
either true one other ends_one ends_other = ends_one
either false one other ends_one ends_other = ends_other

pub words_end : (status : ℕ) → slice_index_or (words_for_c status) 47 1 ≡ 0
words_end status =
    either (status == 0) _ _ refl (either (status == 1) _ _ refl (either (status == 2) _ _ refl (either (status == 3) _ _ refl
    (either (status == 4) _ _ refl (either (status == 5) _ _ refl (either (status == 6) _ _ refl (either (status == 7) _ _ refl
    (either (status == 8) _ _ refl (either (status == 9) _ _ refl (either (status == 10) _ _ refl (either (status == 11) _ _ refl refl)))))))))))

-- ---- each status has words of its own

-- two bytes of the words, which tell them
abbrev sign : List ℕ → ℕ
sign words = slice_index_or words 0 0 + slice_index_or words 12 0

-- the status whose words have this sign, and 12 where none has
abbrev status_by : ℕ → ℕ
status_by sum =
    if sum == 100 then 0
    else if sum == 222 then 1
    else if sum == 226 then 2
    else if sum == 140 then 3
    else if sum == 220 then 4
    else if sum == 194 then 5
    else if sum == 212 then 6
    else if sum == 202 then 7
    else if sum == 232 then 8
    else if sum == 221 then 9
    else if sum == 211 then 10
    else if sum == 147 then 11
    else 12

-- these words tell this status
abbrev Tells : List ℕ → ℕ → Type 0
Tells words status = status_by (sign (put_at_front words (replicate 48 0))) ≡ min status 12

step : (words rest : List ℕ) (status known : ℕ) → known ≤ status → Tells words known → (suc known ≤ status → Tells rest status)
    → Tells (if status == known then words else rest) status
step words rest status known low tells later =
    cond_both (status == known) words rest (λ w. Tells w status)
    (λ is. subst (λ n. Tells words n) (sym (eqb-true status known is)) tells)
    (λ no. later (let apart = eqb-false status known no in elim (cases_lt known status) [
      | inl above ↦ omega (arith, above)
      | inr most ↦ absurd (apart (omega (arith, low, most)))
    ]))

unknown_is_twelve : (status : ℕ) → 12 ≤ status → 12 ≡ min status 12
unknown_is_twelve status high = omega (arith, high)

told : (status : ℕ) → Tells (status_words status) status
told status =
    step _ _ status 0 (omega arith) refl (λ above_0. step _ _ status 1 above_0 refl (λ above_1. step _ _ status 2 above_1 refl
    (λ above_2. step _ _ status 3 above_2 refl (λ above_3. step _ _ status 4 above_3 refl (λ above_4. step _ _ status 5 above_4 refl
    (λ above_5. step _ _ status 6 above_5 refl (λ above_6. step _ _ status 7 above_6 refl (λ above_7. step _ _ status 8 above_7 refl
    (λ above_8. step _ _ status 9 above_8 refl (λ above_9. step _ _ status 10 above_9 refl (λ above_10. step _ _ status 11 above_10 refl (unknown_is_twelve status))))))))))))

-- a number that is no status has the words of none
past : (status known : ℕ) → known < status → (status == known) ≡ false
past status known low = ne_eqb status known (λ is. omega (arith, low, is))

unknown : (status : ℕ) → 11 < status → status_words status ≡ codes "no such status"
unknown status high =
    rw (
      past status 0 (omega (arith, high)),
      past status 1 (omega (arith, high)),
      past status 2 (omega (arith, high)),
      past status 3 (omega (arith, high)),
      past status 4 (omega (arith, high)),
      past status 5 (omega (arith, high)),
      past status 6 (omega (arith, high)),
      past status 7 (omega (arith, high)),
      past status 8 (omega (arith, high)),
      past status 9 (omega (arith, high)),
      past status 10 (omega (arith, high)),
      past status 11 high,
    ) refl

apart : (one other : ℕ) → min one 12 ≡ min other 12 → (one ≡ other) ⊎ ((11 < one) × (11 < other))
apart one other same = elim (cases_lt one 12) [
  | inl low ↦ inl (omega (arith, low, same))
  | inr high ↦ inr (omega (arith, high), omega (arith, high, same))
]

pub statuses_are_told_apart : StatusesAreToldApart
statuses_are_told_apart one other = (
  λ same. apart one other (sym (told one) ∙ ap (λ (words : List ℕ). status_by (sign words)) same ∙ told other),
  λ either_way. elim either_way [
    | inl same ↦ ap words_for_c same
    | inr both ↦ ap (λ (words : List ℕ). put_at_front words (replicate 48 0)) (unknown one both.0 ∙ sym (unknown other both.1))
  ],
)
