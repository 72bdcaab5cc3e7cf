-- The names by which links lead to differences.
use Rattle.std.specs.Prelude.{ℕ, List, ◌++◌, codes}
use Rattle.std.specs.Fmt.{decimal}

-- the name of the difference of a number: the identifier of the row with which it begins
abbrev pub difference_name : ℕ → List ℕ
difference_name number = codes "d" ++ decimal number
