-- A message is said beside the one that the definition names, and what is missing as that names it.
use Rattle.std.proofs.Common.{◌≡◌, ℕ, false, List, Option, ap, option_map, refl, subst, sym, ◌∙◌}
use Rattle.trace_report.specs.MissingRows.{missing_row}
use Rattle.trace_report.specs.declared.row.Missing.{Missing}
use Rattle.trace_report.specs.declared.row.Missing.TheVariants as missing
use Rattle.trace_report.specs.Rows.{missing_of, row_of}
use Rattle.uds_rules.specs.Rule.{RuleValue}
use Rattle.pair_words.specs.declared.log.PairLog.{PairLog}
use Rattle.trace_pair.specs.Counterparts.{Marked}
use Rattle.trace_pair.specs.FirstDifference.{chart_row}
use Rattle.trace_pair.specs.proving.Marks.{marked_of}
use Rattle.trace_pair.proofs.chart.say_row.Goals as goal

pub returns-in-Message : goal.returns-in-Message
returns-in-Message g c =
    let setting = c.args.setting in
    let marked = option_map marked_of c.args.marked in
    subst (λ (text : List ℕ). g.S.TextSink.says c.args.out.now text c.say.new.out)
    (ap (λ row. chart_row setting.rules.now setting.log marked setting.origin (row_of row)) (sym c.in-Message.is))
    (rw (c.counterpart.ensures, c.known_length.ensures) at c.say.ensures)

missing-row : (rules : List RuleValue) (log : PairLog) (marked : Option Marked) (origin : ℕ) (what : Missing) → missing_row false origin what ≡ chart_row rules log marked origin (missing_of what)
missing-row rules log marked origin (missing.NoAnswer number silence) = refl
missing-row rules log marked origin (missing.Dropped place d own why) = refl
missing-row rules log marked origin (missing.Ended place end) = refl
missing-row rules log marked origin (missing.Unfinished d line len) = refl

pub returns-in-Missing : goal.returns-in-Missing
returns-in-Missing g c =
    let rules = c.args.setting.rules.now in
    let log = c.args.setting.log in
    let marked = option_map marked_of c.args.marked in
    let origin = c.args.setting.origin in
    subst (λ (text : List ℕ). g.S.TextSink.says c.args.out.now text c.say_missing_row.new.out)
    (missing-row rules log marked origin c.in-Missing.missing ∙ ap (λ row. chart_row rules log marked origin (row_of row)) (sym c.in-Missing.is)) c.say_missing_row.ensures
