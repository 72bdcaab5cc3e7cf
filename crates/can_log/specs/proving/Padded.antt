-- A device of proof: what follows a line that is copied to where the lanes may reach beyond its end.
use Prim.Native.Char.{code}
use Rattle.std.specs.Prelude.{ℕ, List, replicate}

-- as many line feeds
abbrev pub line_feeds : ℕ → List ℕ
line_feeds n = replicate n (code "\n")
