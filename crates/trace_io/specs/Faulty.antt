-- What the readers and writers for tests do besides what std asks of any.
use Prim.Native.Nat.{zero, suc}
use Rattle.std.specs.Prelude.{ℕ, Option, Some, None}

-- how many calls are handed on before the failing one, a call later; nothing fails after that one
abbrev pub calls_left : Option ℕ → Option ℕ
calls_left None = None
calls_left (Some zero) = None
calls_left (Some (suc n)) = Some n
