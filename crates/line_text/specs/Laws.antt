-- What holds of a text that is not ours, in a line.
use Rattle.std.specs.Prelude.{◌≡◌, ℕ, ◌&&◌, nat_le, Bool, true, List}
use Rattle.std.specs.List.{list_all}
use Rattle.can_log.specs.Frame.{AreBytes}
use Rattle.line_text.specs.Clipped.{clipped, clipped_as_written}
use Rattle.line_text.specs.Quoted.{quoted}

-- a byte that is no control character: of ASCII, and neither below 20 nor 7F
abbrev pub is_no_control : ℕ → Bool
is_no_control b = nat_le 0x20 b && nat_le b 0x7E

-- a name of any bytes is told without a control character
abbrev pub NameWritesNoControl : Type 0
NameWritesNoControl = (name : List ℕ) → AreBytes name → list_all is_no_control (quoted name) ≡ true

-- and so are its first bytes
abbrev pub ClippedWritesNoControl : Type 0
ClippedWritesNoControl = (name : List ℕ) → AreBytes name → list_all is_no_control (clipped name) ≡ true

-- and a text as its file has it
abbrev pub AsWrittenWritesNoControl : Type 0
AsWrittenWritesNoControl = (text : List ℕ) → AreBytes text → list_all is_no_control (clipped_as_written text) ≡ true
