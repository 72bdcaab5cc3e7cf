-- Devices of proof: the marks of bytes, as the code holds them.
use Rattle.std.specs.Prelude.{Bool, false, List, ◌++◌, replicate}
use Rattle.shown_bytes.specs.declared.marks.Marks.{Marks}

-- of so many bytes that none is masked, and of those behind them what the places of a mask tell
abbrev pub marks_in : Marks → List Bool
marks_in marks = replicate marks.before false ++ marks.mask.places
