-- What a canonical line promises.
use Rattle.std.specs.Prelude.{◌≡◌, ℕ, ◌+◌, ◌^◌, ◌<◌, List, ◌++◌, length, Some}
use Rattle.can_log.specs.declared.frame.Id.{Id}
use Rattle.can_log.specs.Frame.{AreBytes, IsCanIdentifier}
use Rattle.can_log.specs.Line.{LineMeans}
use Rattle.can_log.specs.Refused.{NoLineFeed}
use Rattle.can_log.specs.Canonical.{canonical_stamp, canonical_name, canonical_end, canonical_text, canonical_line, canonical_length, canonical_stamped}

-- The text of eight bytes means the classic frame with them, of a base or an extended identifier, at n milliseconds.
abbrev pub CanonicalLineMeans : Type 0
CanonicalLineMeans = (n : ℕ) (identifier : Id) (bytes : List ℕ) → n < 10 ^ 13 → IsCanIdentifier identifier → length bytes ≡ 8 → AreBytes bytes
    → LineMeans (canonical_text n identifier bytes) (Some (canonical_stamped n identifier bytes))

-- The text has no line feed inside.
abbrev pub CanonicalTextIsOneLine : Type 0
CanonicalTextIsOneLine = (n : ℕ) (identifier : Id) (bytes : List ℕ) → NoLineFeed (canonical_text n identifier bytes)

-- The line of eight bytes has 46 bytes, and 51 where the identifier is an extended one.
abbrev pub CanonicalLineLength : Type 0
CanonicalLineLength = (n : ℕ) (identifier : Id) (bytes : List ℕ) → length bytes ≡ 8 → length (canonical_line n identifier bytes) ≡ canonical_length identifier

-- The line is its stamp, its name and its end.
abbrev pub CanonicalLineInParts : Type 0
CanonicalLineInParts = (n : ℕ) (identifier : Id) (bytes : List ℕ)
    → canonical_stamp n ++ canonical_name identifier ++ canonical_end bytes ≡ canonical_line n identifier bytes

-- Its name has 33 bytes less than the line of eight bytes.
abbrev pub CanonicalNameLength : Type 0
CanonicalNameLength = (identifier : Id) → 33 + length (canonical_name identifier) ≡ canonical_length identifier
