-- Devices of proof: an object of JSON with the text behind it, put together from the back, as the parts of a line are.
use Rattle.std.specs.Prelude.{ℕ, true, false, List, ◌++◌, codes}
use Rattle.std.specs.Fmt.{decimal}
use Rattle.trace_text.specs.Json.{Value, null, truth, number, below_zero, pair, string, object, Members, nothing, member}

-- a text between quotes, and what is behind it
abbrev pub quotes_then : List ℕ → List ℕ → List ℕ
quotes_then text behind = codes "\"" ++ (text ++ (codes "\"" ++ behind))

abbrev mutual
  -- a value, and what is behind it
  pub value_then : Value → List ℕ → List ℕ
  value_then null behind = codes "null" ++ behind
  value_then (truth true) behind = codes "true" ++ behind
  value_then (truth false) behind = codes "false" ++ behind
  value_then (number n) behind = decimal n ++ behind
  value_then (below_zero n) behind = codes "-" ++ (decimal n ++ behind)
  value_then (pair one other) behind = codes "[" ++ (decimal one ++ (codes "," ++ (decimal other ++ (codes "]" ++ behind))))
  value_then (string text) behind = quotes_then text behind
  value_then (object members) behind = codes "{" ++ members_then members (codes "}" ++ behind)

  -- members, and what is behind them
  pub members_then : Members → List ℕ → List ℕ
  members_then nothing behind = behind
  members_then (member key value later) behind = quotes_then key (codes ":" ++ value_then value (later_then later behind))

  pub later_then : Members → List ℕ → List ℕ
  later_then nothing behind = behind
  later_then (member key value later) behind = codes "," ++ quotes_then key (codes ":" ++ value_then value (later_then later behind))
