-- A log is cut into lines at its line feeds; what they mean, and where a log is refused.
use Prim.Native.Char.{code}
use Rattle.std.specs.Prelude.{◌≡◌, ℕ, ◌+◌, ◌==◌, ◌⊎◌, List, [], ◌∷◌, ◌++◌, length, codes, Option, ⊤, if◌then◌else◌}
use Rattle.std.specs.List.{flat_map, onto_first}
use Rattle.can_log.specs.declared.frame.Stamped.{Stamped}
use Rattle.can_log.specs.Line.{LineMeans}
use Rattle.can_log.specs.Refused.{IsRefusedPlace, IsUnfinishedAt}

-- the lines without their line feeds; a last part without bytes is no line
abbrev pub log_lines : List ℕ → List (List ℕ)
log_lines [] = []
log_lines (b ∷ bytes) = if b == code "\n" then [] ∷ log_lines bytes else onto_first b (log_lines bytes)

-- what the lines mean, one after another
abbrev pub LinesMean : List (List ℕ) → List (Option Stamped) → Type 0
LinesMean [] [] = ⊤
LinesMean [] (what ∷ meanings) = ⊥
LinesMean (line ∷ lines) [] = ⊥
LinesMean (line ∷ lines) (what ∷ meanings) = LineMeans line what × LinesMean lines meanings

-- a legal log, and what its lines mean
abbrev pub LogMeans : List ℕ → List (Option Stamped) → Type 0
LogMeans log meanings = LinesMean (log_lines log) meanings

-- lines, each with its line feed
abbrev pub ended_lines : List (List ℕ) → List ℕ
ended_lines lines = flat_map (λ line. line ++ codes "\n") lines

-- the bytes after the ended lines of a log are refused at this column
abbrev pub IsRefusedRest : List ℕ → ℕ → Type 0
IsRefusedRest rest column = IsRefusedPlace rest column ⊎ IsUnfinishedAt rest column

-- The refused place of a log: legal lines come before it, and the bytes after them are refused at this column.
pub record IsRefusedIn (log : List ℕ) (line column : ℕ) : Type 0 where
  pub lines : List (List ℕ)
  pub meanings : List (Option Stamped)
  pub rest : List ℕ
  pub parts : log ≡ ended_lines lines ++ rest
  pub legal : LinesMean lines meanings
  pub at : line ≡ length lines + 1
  pub here : IsRefusedRest rest column
