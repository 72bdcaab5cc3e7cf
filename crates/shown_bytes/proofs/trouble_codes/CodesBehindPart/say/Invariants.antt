-- What is said so far and the text of the rest are that of all codes.
use Rattle.std.proofs.Common.{◌≡◌, ◌++◌, List, ℕ, length}
use Rattle.shown_bytes.specs.TroubleCodes.{codes_behind}
use Rattle.shown_bytes.proofs.trouble_codes.CodesBehindPart.say.Given as goal

abbrev pub invariant-codes : goal.invariant-codes
invariant-codes g l =
    (text : List ℕ) × (codes_behind l.self.0.now ≡ text ++ codes_behind l.rest) × g.S.TextSink.says l.initial.out text l.out

abbrev pub decreases-codes : goal.decreases-codes
decreases-codes g l = length l.rest
