-- The messages of a meaning, and what is removed, by the roles of the list's messages.
use Rattle.std.proofs.Common.{◌≡◌, List, [], ◌∷◌, ◌++◌, refl, sym, ◌∙◌, ap, append_assoc}
use Rattle.std.proofs.lemmas.List.{append-nil}
use Rattle.direction.specs.Dir.{Message}
use Rattle.uds_exchange.specs.Meaning.{meaning, flattened, removed_messages}
use Rattle.uds_exchange.specs.Roles.{MessageRole, as_request, as_answer, as_removed, as_stray, AreRoles, placed, arranged, those_removed}
use Rattle.uds_exchange.proofs.OneRole.{role_behind, has-role, only-role}
use Rattle.uds_exchange.proofs.PlacedByRole.{flattened-meaning-append}
use Rattle.uds_exchange.proofs.RemovedByRole.{removed_messages-append}

-- the roles of the messages after `past`
roles_of : List Message → List Message → List MessageRole
roles_of past [] = []
roles_of past (x ∷ xs) = role_behind past x ∷ roles_of (past ++ x ∷ []) xs

are-roles : (past xs : List Message) → AreRoles past xs (roles_of past xs)
unfolding roles_of
are-roles past [] = tt
are-roles past (x ∷ xs) = (has-role past x, are-roles (past ++ x ∷ []) xs)

only-roles : (past xs : List Message) (roles : List MessageRole) → AreRoles past xs roles → roles ≡ roles_of past xs
unfolding roles_of
only-roles past [] [] h = refl
only-roles past [] (role ∷ roles) h = absurd h
only-roles past (x ∷ xs) [] h = absurd h
only-roles past (x ∷ xs) (role ∷ roles) h =
    ap (λ r. r ∷ roles) (only-role past x role h.0) ∙ ap (λ l. role_behind past x ∷ l) (only-roles (past ++ x ∷ []) xs roles h.1)

-- each message of a list has a role
pub each_list_has_roles : (M : List Message) → (roles : List MessageRole) × AreRoles [] M roles
    × ((others : List MessageRole) → AreRoles [] M others → others ≡ roles)
each_list_has_roles M = (roles_of [] M, are-roles [] M, only-roles [] M)

those-cons : (x : Message) (xs : List Message) (role : MessageRole) (roles : List MessageRole)
    → those_removed (x ∷ []) (role ∷ []) ++ those_removed xs roles ≡ those_removed (x ∷ xs) (role ∷ roles)
those-cons x xs as_request roles = refl
those-cons x xs as_answer roles = refl
those-cons x xs as_removed roles = refl
those-cons x xs as_stray roles = refl

-- by these roles its messages are those of its meaning, in order
pub by-roles : (past xs : List Message) (roles : List MessageRole) → AreRoles past xs roles
    → (flattened (meaning (past ++ xs)) ≡ arranged (flattened (meaning past)) xs roles)
    × (removed_messages (past ++ xs) ≡ removed_messages past ++ those_removed xs roles)
by-roles past [] [] h = (
  ap (λ l. flattened (meaning l)) (append-nil past),
  ap removed_messages (append-nil past)
      ∙ sym (append-nil (removed_messages past)),
)
by-roles past [] (role ∷ roles) h = absurd h
by-roles past (x ∷ xs) [] h = absurd h
by-roles past (x ∷ xs) (role ∷ roles) h =
    let same = only-role past x role h.0 in
    let rest = by-roles (past ++ x ∷ []) xs roles h.1 in
    let out = flattened-meaning-append past x ∙ ap (λ r. placed r (flattened (meaning past)) x) (sym same) in
    let gone = removed_messages-append past x ∙ ap (λ r. removed_messages past ++ those_removed (x ∷ []) (r ∷ [])) (sym same) in (
      ap (λ l. flattened (meaning l)) (sym (append_assoc past (x ∷ []) xs)) ∙ rest.0 ∙ ap (λ l. arranged l xs roles) out,
      ap removed_messages (sym (append_assoc past (x ∷ []) xs)) ∙ rest.1 ∙ ap (λ l. l ++ those_removed xs roles) gone
          ∙ append_assoc (removed_messages past) _ _ ∙ ap (λ l. removed_messages past ++ l) (those-cons x xs role roles),
    )
