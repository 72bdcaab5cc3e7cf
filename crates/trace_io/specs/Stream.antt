-- What was read of a log, by the history of its source; and what was written, by that of its target.
use Rattle.std.specs.Prelude.{◌≡◌, ℕ, Bool, true, List, [], ◌++◌, Option, Some}
use Rattle.std.specs.Io.KnownBytes.{Appends, Consumes, IsAtEnd}

-- What a source gave, from the history `old` on up to `new`, agrees with this log: it is all of it where the source was over,
-- and else a front of it.
pub record Agrees (old new : List ℕ) (is_over : Bool) (log : List ℕ) : Type 0 where
  pub rest : List ℕ
  pub parts : old ++ log ≡ new ++ rest
  pub whole : is_over ≡ true → rest ≡ []

-- From the history `old` on up to `new` a source gave some bytes. Where it told which bytes were to come, it gave the first
-- of them.
pub record Gave (old new : List ℕ) (remaining remaining_now : Option (List ℕ)) : Type 0 where
  pub bytes : List ℕ
  pub grown : new ≡ old ++ bytes
  pub told : Consumes remaining remaining_now bytes

-- From the history `old` on up to `new` a target took some bytes. Where it tells which bytes it holds, these came behind them.
pub record Took (old new : List ℕ) (contents contents_now : Option (List ℕ)) : Type 0 where
  pub bytes : List ℕ
  pub grown : new ≡ old ++ bytes
  pub held : Appends contents contents_now bytes

-- where a source told which bytes were to come, what it gave agrees with these
abbrev pub AgreesWithTold : Type 0
AgreesWithTold = (old new log : List ℕ) (is_over : Bool) (remaining : Option (List ℕ)) → Gave old new (Some log) remaining → (is_over ≡ true → IsAtEnd remaining)
    → Agrees old new is_over log
