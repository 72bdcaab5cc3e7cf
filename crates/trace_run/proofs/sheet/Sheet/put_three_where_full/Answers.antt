-- What was gathered is settled; then the three are gathered, or said one after another.
use Rattle.std.proofs.Common.{◌++◌, sym, subst}
use Rattle.trace_run.specs.declared.sheet.Sheet.{Sheet}
use Rattle.trace_run.specs.proving.Carrying.{HasSaid}
use Rattle.trace_run.specs.proving.SheetSinks.{says_onward}
use Rattle.trace_run.proofs.Carryings.{gathered_more}
use Rattle.trace_run.proofs.sheet.Sheet.put_three_where_full.Goals as goal

pub returns-then-try_append_three : goal.returns-then-try_append_three
returns-then-try_append_three g c = λ start said carries.
    let settled = c.settle.new in
    gathered_more g.W.Target start settled.target said (c.args.first.now ++ c.args.second.now ++ c.args.third.now)
    settled.self c.try_append_three.new.self
    (c.try_append_three.ensures.took c.if-try_append_three.true) (c.settle.ensures.no_more start said carries)

pub returns : goal.returns
returns g c = λ start said carries.
    let W = g.W.Target in
    let settled = c.settle.new in
    let one = c.put.new in
    let two = c.put-2.new in
    let three = c.put-3.new in
    let same = c.try_append_three.ensures.full c.if-try_append_three.false in
    let sheet : Sheet = record settled.self { gathered = c.try_append_three.new.self } in
    let so_far : HasSaid W start said sheet settled.target =
    subst (λ gathered. HasSaid W start said (record settled.self { gathered = gathered }) settled.target) (sym same)
    (c.settle.ensures.no_more start said carries) in
    let both = says_onward W sheet one.self two.self settled.target one.target two.target c.args.first.now c.args.second.now
    c.put.ensures c.put-2.ensures in
    says_onward W sheet two.self three.self settled.target two.target three.target (c.args.first.now ++ c.args.second.now)
    c.args.third.now both c.put-3.ensures start said so_far
