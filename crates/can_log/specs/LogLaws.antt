-- What the lines of a log promise: how they come out of its bytes, and how a log grows.
use Prim.Native.Char.{code}
use Rattle.std.specs.Prelude.{◌≡◌, ◌↔◌, ◌≤◌, ℕ, ◌+◌, List, [], ◌∷◌, ◌++◌, codes, length, Option}
use Rattle.std.specs.List.{AllByRecursion}
use Rattle.can_log.specs.declared.frame.Stamped.{Stamped}
use Rattle.can_log.specs.Line.{LineMeans, IsNoLine}
use Rattle.can_log.specs.Refused.{NoLineFeed}
use Rattle.can_log.specs.Log.{log_lines, LinesMean, LogMeans, ended_lines, IsRefusedRest, IsRefusedIn}

-- what follows the last line feed: a line where there are bytes, and else none
abbrev pub last_line : List ℕ → List (List ℕ)
last_line [] = []
last_line (b ∷ bytes) = (b ∷ bytes) ∷ []

-- The lines of a log are those that line feeds end, and what follows the last of these.
abbrev pub LogLinesOfParts : Type 0
LogLinesOfParts = (lines : List (List ℕ)) (rest : List ℕ) → AllByRecursion NoLineFeed lines → NoLineFeed rest
    → log_lines (ended_lines lines ++ rest) ≡ lines ++ last_line rest

-- A line ends at its line feed, and the lines of what follows come next.
abbrev pub LineFeedEndsLine : Type 0
LineFeedEndsLine = (line more : List ℕ) → NoLineFeed line → log_lines (line ++ code "\n" ∷ more) ≡ line ∷ log_lines more

-- After lines that are ended come the lines of the rest, whatever it is.
abbrev pub LogLinesGoOn : Type 0
LogLinesGoOn = (lines : List (List ℕ)) (rest : List ℕ) → AllByRecursion NoLineFeed lines → log_lines (ended_lines lines ++ rest) ≡ lines ++ log_lines rest

-- Of lines that mean something, none holds a line feed.
abbrev pub LinesHaveNoLineFeed : Type 0
LinesHaveNoLineFeed = (lines : List (List ℕ)) (meanings : List (Option Stamped)) → LinesMean lines meanings → AllByRecursion NoLineFeed lines

-- Lines mean as many things as there are lines.
abbrev pub LinesMeanAsMany : Type 0
LinesMeanAsMany = (lines : List (List ℕ)) (meanings : List (Option Stamped)) → LinesMean lines meanings → length lines ≡ length meanings

-- Lines mean this and one thing more exactly where the last of them means that thing, and those before it mean this.
abbrev pub LinesMeanOneMore : Type 0
LinesMeanOneMore = (lines : List (List ℕ)) (meanings : List (Option Stamped)) (what : Option Stamped)
    → LinesMean lines (meanings ++ what ∷ [])
    ↔ ((front : List (List ℕ)) × (last : List ℕ) × (lines ≡ front ++ last ∷ []) × LinesMean front meanings × LineMeans last what)

-- Lines that mean something, each with its line feed, are a log that means that.
abbrev pub LinesAreLog : Type 0
LinesAreLog = (lines : List (List ℕ)) (meanings : List (Option Stamped)) → LinesMean lines meanings → LogMeans (ended_lines lines) meanings

-- The lines of a refused log are those before its refused place, and then those of the rest.
abbrev pub RefusedLines : Type 0
RefusedLines = (log : List ℕ) (line column : ℕ) (place : IsRefusedIn log line column) → log_lines log ≡ place.lines ++ log_lines place.rest

-- Where bytes are refused, the first of their lines is no line, and the refused byte is in it, or is the one after it.
abbrev pub RefusedLineIsNoLine : Type 0
RefusedLineIsNoLine = (rest : List ℕ) (column : ℕ) (line : List ℕ) (later : List (List ℕ)) → IsRefusedRest rest column → log_lines rest ≡ line ∷ later
    → IsNoLine line × (column ≤ length line + 1)

-- Lines and more lines mean what the first ones mean, and then what the others mean.
abbrev pub LinesMeanInParts : Type 0
LinesMeanInParts = (lines more : List (List ℕ)) (meanings : List (Option Stamped))
    → LinesMean (lines ++ more) meanings
    ↔ ((front : List (Option Stamped)) × (back : List (Option Stamped)) × (meanings ≡ front ++ back) × LinesMean lines front × LinesMean more back)

-- A line with its line feed is a log that means one thing.
abbrev pub LineIsLog : Type 0
LineIsLog = (line : List ℕ) (what : Option Stamped) → NoLineFeed line → LineMeans line what → LogMeans (line ++ codes "\n") (what ∷ [])

-- A log whose lines are all ended, and then another log, are one log: it means what the first means, then the second.
abbrev pub LogsJoin : Type 0
LogsJoin = (lines : List (List ℕ)) (more : List ℕ) (front back : List (Option Stamped))
    → LogMeans (ended_lines lines) front → LogMeans more back → LogMeans (ended_lines lines ++ more) (front ++ back)
