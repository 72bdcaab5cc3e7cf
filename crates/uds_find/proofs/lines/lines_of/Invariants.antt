-- What has a line, and then what is left, is the table.
use Rattle.std.proofs.Common.{◌≡◌, ◌++◌, length, map}
use Rattle.uds_find.specs.proving.Steps.{line_in, unit_in}
use Rattle.uds_find.proofs.lines.lines_of.Given as goal

abbrev pub invariant-units : goal.invariant-units
invariant-units l =
    l.lines.items ++ map (λ entry. line_in l.credits.entries l.requests.entries (unit_in l.requests.entries l.functional.keys entry)) l.rest.entries
    ≡ map (λ entry. line_in l.credits.entries l.requests.entries (unit_in l.requests.entries l.functional.keys entry)) l.fn.candidates.entries

abbrev pub decreases-units : goal.decreases-units
decreases-units l = length l.rest.entries
