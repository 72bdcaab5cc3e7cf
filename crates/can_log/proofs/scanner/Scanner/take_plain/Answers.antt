use Rattle.std.proofs.Common.{◌≡◌, []}
use Rattle.can_log.proofs.Lists.{nil_of}
use Rattle.can_log.proofs.ScannerSteps.{plain_taken, none_of, none_seen}
use Rattle.can_log.proofs.scanner.Scanner.take_plain.Goals as goal

pub returns-clause-taken : goal.returns-clause-taken
returns-clause-taken g c =
    let found = c.in_ok-fields in
    let line = c.self.inside.line.items in
    let none : line ≡ [] = nil_of line c.is_empty.result c.is_empty.ensures c.if-not-is_empty.false in
    let unrefused = none_of c.self.inside.refused c.is_some.result c.is_some.ensures c.if-is_some.false in
    rw (← c.self.view_is) (plain_taken c.self.inside.lines c.self.inside.taken line _ c.args.piece.now found.rest.now found.fields
    (none_seen _ c.self.inside.refused unrefused) none found.ensures.line found.ensures.legal)
