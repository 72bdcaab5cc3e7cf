-- Devices of proof: the object of a row, up to its items.
use Rattle.std.specs.Prelude.{ℕ, List, ◌++◌, codes}
use Rattle.std.specs.Fmt.{decimal}

-- the front of a row's object, by its change's number and word and both item numbers
abbrev pub row_front : ℕ → List ℕ → ℕ → ℕ → List ℕ
row_front change_number word left right =
    (codes "{\"place\":" ++ decimal change_number ++ codes ",\"change\":\"" ++ word)
    ++ (codes "\",\"left_item\":" ++ decimal left ++ codes ",\"right_item\":" ++ decimal right ++ codes ",\"left\":")
