-- Line by line this is the text of all credit lines.
use Rattle.trace_canon.proofs.credit_lines.say_lines.Goals as goal

pub lines-init : goal.lines-init
lines-init g c = g.met.S.TextSink.nothing c.args.out.now
