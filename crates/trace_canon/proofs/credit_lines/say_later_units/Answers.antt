-- Unit by unit this is the text of all.
use Rattle.trace_canon.proofs.credit_lines.say_later_units.Goals as goal

pub units-init : goal.units-init
units-init g c = g.met.S.TextSink.nothing c.args.out.now
