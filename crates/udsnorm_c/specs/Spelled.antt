-- How numbers and texts cross from C and back.
use Rattle.std.specs.Prelude.{ℕ, ◌-◌, ◌==◌, List, ◌++◌, codes, length, drop, replicate, nat_le, Option, Some, None, if◌then◌else◌}
use Rattle.can_log.specs.declared.frame.Id.{Id}
use Rattle.can_log.specs.declared.frame.Id.TheVariants as id
use Rattle.trace_text.specs.declared.item_style.ItemStyle.{ItemStyle}
use Rattle.trace_text.specs.declared.item_style.Numbering.{Numbering}
use Rattle.trace_text.specs.declared.item_style.Numbering.TheVariants.{Shown, Hidden}
use Rattle.trace_text.specs.declared.notation.Notation.{Notation}
use Rattle.trace_text.specs.declared.notation.Notation.TheVariants.{Text, Json}

-- An identifier as Linux's `canid_t` has it: with the highest bit an extended one. A number of more than 16 bits
-- without that bit is taken for 0xFFFF, which is no base identifier either.
abbrev pub identifier_of : ℕ → Id
identifier_of number =
    if nat_le 0x80000000 number then id.Ext (number - 0x80000000) else if nat_le number 0xFFFF then id.Std number else id.Std 0xFFFF

abbrev pub written : Notation → Numbering → ItemStyle
written notation numbering = record { numbering = numbering; notation = notation }

-- the style of a list: lines in words or objects of JSON, with the numbers of the items or without, and no other
abbrev pub list_style : ℕ → Option ItemStyle
list_style style =
    if style == 0 then Some (written Text Shown)
    else if style == 1 then Some (written Text Hidden)
    else if style == 2 then Some (written Json Shown)
    else if style == 3 then Some (written Json Hidden)
    else None

-- the notation of another text: words or objects of JSON, and no other
abbrev pub notation_of : ℕ → Option Notation
notation_of style = if style == 0 then Some Text else if style == 2 then Some Json else None

-- A text at the front of a buffer, where it has room, and the buffer as it was, where it has not.
abbrev pub put_at_front : List ℕ → List ℕ → List ℕ
put_at_front text old = if nat_le (length text) (length old) then text ++ drop (length text) old else old

-- what a status means, in a few words: those of the program, where it tells them
abbrev pub status_words : ℕ → List ℕ
status_words status =
    if status == 0 then codes "done"
    else if status == 1 then codes "identifier out of range"
    else if status == 2 then codes "tester and unit have the same identifier"
    else if status == 3 then codes "limit out of range"
    else if status == 4 then codes "not a log line"
    else if status == 5 then codes "a message that is too long is announced"
    else if status == 6 then codes "log longer than the limit"
    else if status == 7 then codes "canonical log longer than the limit"
    else if status == 8 then codes "out of memory"
    else if status == 9 then codes "not enough room for the text"
    else if status == 10 then codes "no such style"
    else if status == 11 then codes "something is wrong in the profile"
    else codes "no such status"

-- these words as C has them: in 48 bytes, of which each behind them is 0
abbrev pub words_for_c : ℕ → List ℕ
words_for_c status = put_at_front (status_words status) (replicate 48 0)

-- the version: its three numbers, a byte for each
abbrev pub version : ℕ
version = 0x010000
