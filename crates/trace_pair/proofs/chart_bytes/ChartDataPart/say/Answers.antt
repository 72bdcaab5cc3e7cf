-- A message stands beside the one of the other log, where there is one.
use Rattle.std.proofs.Common.{ℕ, List, ap, option_map, subst, sym}
use Rattle.trace_pair.specs.FirstDifference.{chart_data}
use Rattle.trace_pair.proofs.chart_bytes.ChartDataPart.say.Goals as goal

pub returns-in-Some : goal.returns-in-Some
returns-in-Some g c =
    let shown = c.args.self in
    subst (λ (text : List ℕ). g.S.TextSink.says c.args.out.now text c.say_beside.new.out)
    (ap (λ other. chart_data shown.rules.now shown.log shown.message.now (option_map (λ bytes. bytes.now) other)) (sym c.in-Some.is)) c.say_beside.ensures
