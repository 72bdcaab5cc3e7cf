-- A meaning has no message that its list has not.
use Rattle.std.proofs.Common.{◌≡◌, Bool, true, List, [], ◌∷◌, ◌++◌, refl, inl, inr, append_assoc}
use Rattle.std.specs.List.{list_any, list_all}
use Rattle.std.proofs.lemmas.List.{append-nil}
use Rattle.std.proofs.lemmas.Bool.{cases_Bool, and_parts}
use Rattle.direction.specs.Dir.{Message}
use Rattle.uds_exchange.specs.Meaning.{is_tester_request, meaning, flattened}
use Rattle.uds_exchange.specs.Roles.{MessageRole, as_request, as_answer, as_removed, as_stray, behind_last_request, placed}
use Rattle.uds_exchange.proofs.ListTests.{all-append}
use Rattle.uds_exchange.proofs.OneRole.{role_behind}
use Rattle.uds_exchange.proofs.PlacedByRole.{flattened-meaning-append}

module _ (passes : Message → Bool) where
  all-behind : (out : List Message) (x : Message) → list_all passes out ≡ true → passes x ≡ true
      → list_all passes (behind_last_request out x) ≡ true
  all-behind [] x h e = rw e refl
  all-behind (y ∷ ys) x h e =
      let parts = and_parts (passes y) (list_all passes ys) h in
      elim (cases_Bool (list_any is_tester_request ys)) [
        | inl q ↦ rw (q, parts.0) (all-behind ys x parts.1 e)
        | inr q ↦ elim (cases_Bool (is_tester_request y)) [
          | inl r ↦ rw (q, r, parts.0, e) parts.1
          | inr r ↦ rw (q, r, parts.0) (all-behind ys x parts.1 e)
        ]
      ]

  all-placed : (role : MessageRole) (out : List Message) (x : Message) → list_all passes out ≡ true → passes x ≡ true
      → list_all passes (placed role out x) ≡ true
  all-placed as_request out x h e = all-append passes out x h e
  all-placed as_stray out x h e = all-append passes out x h e
  all-placed as_answer out x h e = all-behind out x h e
  all-placed as_removed out x h e = h

  pub all-over : (past xs : List Message) → list_all passes (flattened (meaning past)) ≡ true → list_all passes xs ≡ true
      → list_all passes (flattened (meaning (past ++ xs))) ≡ true
  all-over past [] h e = rw append-nil h
  all-over past (x ∷ xs) h e =
      let parts = and_parts (passes x) (list_all passes xs) e in
      let one = all-placed (role_behind past x) (flattened (meaning past)) x h parts.0 in
      rw (← append_assoc past (x ∷ []) xs) (all-over (past ++ x ∷ []) xs (rw flattened-meaning-append one) parts.1)
