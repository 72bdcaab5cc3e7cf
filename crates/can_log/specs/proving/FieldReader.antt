-- A device of proof: fields read from the front of some bytes, from left to right, and where a field fails. The code
-- reads so; what a line means says nothing of it.
use Prim.Native.Char.{code}
use Rattle.std.specs.Prelude.{◌≡◌, ℕ, zero, suc, ◌||◌, Bool, List, [], ◌∷◌, take, drop, Result, Ok, Err, nat_lt, ◌==◌, if◌then◌else◌}
use Rattle.std.specs.Borrow.{Bor}
use Rattle.std.specs.Char.{is_ascii_digit, is_ascii_hexdigit}
use Rattle.std.specs.Int.{is_in_range}
use Rattle.can_log.specs.declared.field.Stop as declared
use Rattle.can_log.specs.declared.field.Stop.TheVariants as stop
use Rattle.can_log.specs.declared.field.Class.{Class}
use Rattle.can_log.specs.declared.field.Class.TheVariants as class
use Rattle.can_log.specs.Line.{is_raw_dlc}

-- Why a field can't be read: the bytes end within it, or there is a byte that it can't have. That byte, and those after it.
pub data Stop : Type 0 where
  short : Stop
  refused : List ℕ → Stop

-- a field's value, and the bytes after it
abbrev pub FieldRead : Type 0 → Type 0
FieldRead V = Result (V × List ℕ) Stop

-- what reads a field from the front of some bytes
abbrev pub Reader : Type 0 → Type 0
Reader V = List ℕ → FieldRead V

-- ---- what the code's functions answer

-- a stop without where its bytes lie in memory
abbrev pub stop_of : declared.Stop → Stop
stop_of stop.Short = short
stop_of (stop.Refused rest) = refused rest.now

-- What a function returned, seen by a view, is what was read.
abbrev pub Gives : {X Y : Type 0} → (X → Y) → Result X declared.Stop → Result Y Stop → Type 0
Gives view (Ok x) read = read ≡ Ok (view x)
Gives view (Err e) read = read ≡ Err (stop_of e)

-- the same of a function that returns a value, which is seen by a view, and the bytes after it
abbrev pub GivesField : {X Y : Type 0} → (X → Y) → Result (X × Bor (List ℕ)) declared.Stop → FieldRead Y → Type 0
GivesField view = Gives (λ x. (view x.0, x.1.now))

-- ---- readers made of others

-- what a function of the value reads from the bytes after it; the first stop ends it
abbrev pub read_on : {V W : Type 0} → FieldRead V → (V → Reader W) → FieldRead W
read_on (Ok x) next = next x.0 x.1
read_on (Err stop) next = Err stop

-- one field, and then another
unfoldable pub and_then : {V W : Type 0} → Reader V → (V → Reader W) → Reader W
and_then read next bytes = read_on (read bytes) next

-- Each statement of a `do` block reads a field. The last one says what they make.
infixl 10 ◌>>=◌
abbrev pub ◌>>=◌ : {V W : Type 0} → Reader V → (V → Reader W) → Reader W
read >>= next = and_then read next

infixl 10 ◌>>◌
abbrev pub ◌>>◌ : {V W : Type 0} → Reader V → Reader W → Reader W
read >> next = and_then read (λ _. next)

-- a value that takes no bytes
unfoldable pub done : {V : Type 0} → V → Reader V
done v bytes = Ok (v, bytes)

-- one field where the first byte is c, else another
unfoldable pub either : {V : Type 0} → ℕ → Reader V → Reader V → Reader V
either c one other [] = other []
either c one other (b ∷ bytes) = if b == c then one (b ∷ bytes) else other (b ∷ bytes)

-- where a field needs a byte that these don't begin with
abbrev pub stop_at : List ℕ → Stop
stop_at [] = short
stop_at (b ∷ bytes) = refused (b ∷ bytes)

-- a field whose value passes a test; where it fails, more bytes are needed
unfoldable pub only : {V : Type 0} → (V → Bool) → Reader V → Reader V
only test read bytes = read_on (read bytes) (λ v rest. if test v then Ok (v, rest) else Err (stop_at rest))

-- ---- runs and single bytes

-- whether a byte is of a class
abbrev pub is_in : Class → ℕ → Bool
is_in class.Digit b = is_ascii_digit b
is_in class.Hex b = is_ascii_hexdigit b
is_in class.Space b = b == code " "
is_in class.Visible b = is_in_range (code "!") (code "~") b
is_in class.UpToEight b = is_in_range (code "0") (code "8") b
is_in class.AboveEight b = is_raw_dlc b
is_in class.Mark b = b == code "R" || b == code "T"

-- how many bytes at the front are of a class, up to a number
unfoldable pub run_length : Class → ℕ → List ℕ → ℕ
run_length class zero bytes = 0
run_length class (suc most) [] = 0
run_length class (suc most) (b ∷ bytes) = if is_in class b then suc (run_length class most bytes) else 0

-- the bytes of a class at the front, `least` to `most` of them
unfoldable pub run_at : Class → ℕ → ℕ → Reader (List ℕ)
run_at class least most bytes =
    let n = run_length class most bytes in
    if nat_lt n least then Err (stop_at (drop n bytes)) else Ok (take n bytes, drop n bytes)

-- one given byte
unfoldable pub byte_at : ℕ → Reader (Unit {0})
byte_at c [] = Err short
byte_at c (b ∷ bytes) = if b == c then Ok (tt, bytes) else Err (refused (b ∷ bytes))
