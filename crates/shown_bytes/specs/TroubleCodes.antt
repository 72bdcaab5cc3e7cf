-- The trouble codes of a message as people spell them, each with the names of what its status says: small, in brackets, behind
-- its bytes.
use Rattle.std.specs.Prelude.{ℕ, ◌-◌, ◌/◌, ◌==◌, List, [], ◌∷◌, ◌++◌, length, take, drop, codes, Option, Some, None, if◌then◌else◌}
use Rattle.std.specs.Fmt.{decimal}
use Rattle.std.specs.Int.{bit_at}
use Rattle.uds_names.specs.TroubleCodes.{status_bit_name, trouble_code, trouble_records}

-- behind the first code so many are shown
abbrev pub most_further : ℕ
most_further = 15

-- a name behind a blank, if there is one
abbrev pub name_behind : Option (List ℕ) → List ℕ
name_behind None = []
name_behind (Some name) = codes " " ++ name

-- the name of a bit of a status, where it is 1
abbrev pub bit_text : ℕ → ℕ → List ℕ
bit_text status bit = if bit_at status bit == 1 then name_behind (status_bit_name bit) else []

-- the names of all bits of a status that are 1
abbrev pub status_text : ℕ → List ℕ
status_text status =
    bit_text status 0 ++ bit_text status 1 ++ bit_text status 2 ++ bit_text status 3 ++ bit_text status 4 ++ bit_text status 5
    ++ bit_text status 6 ++ bit_text status 7

-- a code with what its status says
abbrev pub code_text : ℕ → ℕ → ℕ → ℕ → List ℕ
code_text high middle low status = trouble_code high middle low ++ status_text status

-- codes with what their status says, each behind a comma
unfoldable pub codes_behind : List ℕ → List ℕ
codes_behind (high ∷ middle ∷ low ∷ status ∷ rest) = (codes ", " ++ code_text high middle low status) ++ codes_behind rest
codes_behind shorter = []

-- how many codes are not shown, if there are some
abbrev pub more_codes : ℕ → List ℕ
more_codes count = if count == 0 then [] else codes ", and " ++ decimal count ++ codes " more"

-- the codes behind the first one, as far as they are shown, and how many others there are
abbrev pub further_codes : List ℕ → List ℕ
further_codes records = codes_behind (take 60 records) ++ more_codes (length records / 4 - most_further)

-- the codes of which these are the bytes, if there are some
abbrev pub codes_text : List ℕ → List ℕ
codes_text (high ∷ middle ∷ low ∷ status ∷ rest) =
    codes " <i>(read as SAE J2012: " ++ code_text high middle low status ++ further_codes rest ++ codes ")</i>"
codes_text shorter = []

-- the trouble codes of a message, if it has some
abbrev pub trouble_text : List ℕ → List ℕ
trouble_text message = codes_text (trouble_records message)
