-- An identifier is known by its one number.
use Rattle.std.proofs.Common.{◌≡◌, ◌↔◌, IsTrue, ℕ, nat_eq, arith, ap, sym, ◌∙◌, Option, Some, None}
use Rattle.std.specs.Prelude.{unwrap_or}
use Rattle.std.proofs.lemmas.Bool.{eqb-true, eq-eqb}
use Rattle.can_log.specs.declared.frame.Id.{Id}
use Rattle.can_log.specs.declared.frame.Id.TheVariants as id
use Rattle.can_log.specs.Wanted.{number_of_id}

same_identifier : (a b : Id) → number_of_id a ≡ number_of_id b → a ≡ b
same_identifier (id.Std a) (id.Std b) same = let number : a ≡ b = omega (arith, same) in ap id.Std number
same_identifier (id.Std a) (id.Ext b) same = absurd (omega (arith, same))
same_identifier (id.Ext a) (id.Std b) same = absurd (omega (arith, same))
same_identifier (id.Ext a) (id.Ext b) same = let number : a ≡ b = omega (arith, same) in ap id.Ext number

-- two identifiers are the same exactly where numbers that are theirs are equal
pub same_by_number : (a b : Id) (m n : ℕ) → m ≡ number_of_id a → n ≡ number_of_id b → IsTrue (nat_eq m n) ↔ (a ≡ b)
same_by_number a b m n m_is n_is = (
  λ equal. same_identifier a b (sym m_is ∙ eqb-true m n equal ∙ n_is),
  λ same. eq-eqb m n (m_is ∙ ap number_of_id same ∙ sym n_is),
)

-- an identifier that is not the first is the third exactly where it has the number kept for that
pub same_as_third : (first : Id) (third : Option Id) (id : Id) (m n : ℕ) → m ≡ number_of_id id → n ≡ number_of_id (unwrap_or third first) → (id ≡ first → ⊥)
    → IsTrue (nat_eq m n) ↔ (third ≡ Some id)
same_as_third first None id m n m_is n_is apart = (
  λ equal. absurd (apart ((same_by_number id first m n m_is n_is).0 equal)),
  λ same. absurd (cc),
)
same_as_third first (Some third) id m n m_is n_is apart = (
  λ equal. ap Some (sym ((same_by_number id third m n m_is n_is).0 equal)),
  λ same. let alike : id ≡ third = cc in (same_by_number id third m n m_is n_is).1 alike,
)
