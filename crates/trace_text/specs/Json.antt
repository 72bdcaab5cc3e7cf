-- An object of JSON (RFC 8259) as it stands in a line of its own: its members in this order, and no space outside
-- strings. A string stands as it is: none that is told has a byte to be escaped.
use Rattle.std.specs.Prelude.{ℕ, Bool, true, false, List, [], ◌++◌, codes}
use Rattle.std.specs.Fmt.{decimal}

mutual
  -- a value: null, true or false, a number, so much below zero, two numbers, a string, an object
  pub data Value : Type 0 where
    null : Value
    truth : Bool → Value
    number : ℕ → Value
    below_zero : ℕ → Value
    pair : ℕ → ℕ → Value
    string : List ℕ → Value
    object : Members → Value

  -- the members of an object: each has a key and a value, and others may follow
  pub data Members : Type 0 where
    nothing : Members
    member : List ℕ → Value → Members → Members

-- a text between quotes
abbrev pub in_quotes : List ℕ → List ℕ
in_quotes text = codes "\"" ++ text ++ codes "\""

abbrev mutual
  -- a value as it is written: numbers in decimal, and a pair of them as an array
  pub value_text : Value → List ℕ
  value_text null = codes "null"
  value_text (truth true) = codes "true"
  value_text (truth false) = codes "false"
  value_text (number n) = decimal n
  value_text (below_zero n) = codes "-" ++ decimal n
  value_text (pair one other) = codes "[" ++ decimal one ++ codes "," ++ decimal other ++ codes "]"
  value_text (string text) = in_quotes text
  value_text (object members) = codes "{" ++ members_text members ++ codes "}"

  -- the members of an object
  pub members_text : Members → List ℕ
  members_text nothing = []
  members_text (member key value later) = in_quotes key ++ codes ":" ++ value_text value ++ later_text later

  -- those behind another one, with a comma before each
  pub later_text : Members → List ℕ
  later_text nothing = []
  later_text (member key value later) = codes "," ++ in_quotes key ++ codes ":" ++ value_text value ++ later_text later

-- the line of an object
abbrev pub object_line : Members → List ℕ
object_line members = value_text (object members) ++ codes "\n"
