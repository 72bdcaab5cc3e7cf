-- The identifiers whose frames are wanted, and which others are foreign to them.
use Rattle.std.specs.Prelude.{◌≡◌, ◌≢◌, ◌⊎◌, ℕ, ◌+◌, ◌*◌, Option, Some}
use Rattle.can_log.specs.declared.frame.Id.{Id}
use Rattle.can_log.specs.declared.frame.Id.TheVariants as id

-- an identifier of either format as one number: an even one for the base format, an odd one for the extended, so that
-- `7E0` and `000007E0` have two
abbrev pub number_of_id : Id → ℕ
number_of_id (id.Std number) = 2 * number
number_of_id (id.Ext number) = 2 * number + 1

-- two identifiers whose frames are wanted, and a third where there is one
pub record WantedValue : Type 0 where
  pub first : Id
  pub second : Id
  pub third : Option Id

-- the identifier is one of them
abbrev pub IsWanted : WantedValue → Id → Type 0
IsWanted wanted id = (id ≡ wanted.first) ⊎ ((id ≡ wanted.second) ⊎ (wanted.third ≡ Some id))

-- the identifier is none of them: the three parts that `IsWanted` denies, each with a name, for who has but one to compare
pub record IsForeign (wanted : WantedValue) (id : Id) : Type 0 where
  pub not_first : id ≢ wanted.first
  pub not_second : id ≢ wanted.second
  pub not_third : wanted.third ≢ Some id
