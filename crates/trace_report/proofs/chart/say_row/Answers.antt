-- A row is said as its variant: that of a message by whether it tells an answer that is other than was asked, and any other one by
-- whether its block is brief.
use Rattle.std.proofs.Common.{◌≡◌, ℕ, List, Bool, true, false, refl, ap, sym, subst, ◌∙◌}
use Rattle.direction.specs.declared.Dir.{Dir}
use Rattle.uds_rules.specs.Rule.{RuleValue}
use Rattle.trace_report.specs.BriefRows.{brief_missing}
use Rattle.trace_report.specs.Chart.{plain_text, row_text}
use Rattle.trace_report.specs.MissingRows.{missing_row}
use Rattle.trace_report.specs.OtherAnswers.{is_other, is_other_by}
use Rattle.trace_report.specs.OtherRows.{other_row}
use Rattle.trace_report.specs.declared.roles.MessageRole.{MessageRole}
use Rattle.trace_report.specs.declared.row.MessagePlace.{MessagePlace}
use Rattle.trace_report.specs.declared.row.Missing.{Missing}
use Rattle.trace_report.specs.declared.row.Missing.TheVariants as missing
use Rattle.trace_report.specs.Rows.{message, missing_of, row_of}
use Rattle.trace_report.proofs.chart.say_row.Goals as goal

module _ (rules : List RuleValue) (origin : ℕ) (asked : List ℕ) where
  other-text : (brief : Bool) (is : MessageRole) (d : Dir) (place : MessagePlace) (bytes : List ℕ) → is_other_by rules asked is bytes ≡ true
      → other_row rules origin asked is d place bytes ≡ row_text rules brief origin asked (message is d place bytes)
  other-text brief is d place bytes other = rw other refl

  plain-text : (brief : Bool) (is : MessageRole) (d : Dir) (place : MessagePlace) (bytes : List ℕ) → is_other_by rules asked is bytes ≡ false
      → plain_text rules brief origin is d place bytes ≡ row_text rules brief origin asked (message is d place bytes)
  plain-text brief is d place bytes plain = rw plain refl

  brief-text : (what : Missing) → brief_missing origin what ≡ row_text rules true origin asked (missing_of what)
  brief-text (missing.NoAnswer number silence) = refl
  brief-text (missing.Dropped place d own why) = refl
  brief-text (missing.Ended place end) = refl
  brief-text (missing.Unfinished d line len) = refl

  missing-text : (what : Missing) → missing_row true origin what ≡ row_text rules false origin asked (missing_of what)
  missing-text (missing.NoAnswer number silence) = refl
  missing-text (missing.Dropped place d own why) = refl
  missing-text (missing.Ended place end) = refl
  missing-text (missing.Unfinished d line len) = refl

pub returns-then-other : goal.returns-then-other
returns-then-other g c =
    let rules = c.args.context.rules.now in
    let origin = c.args.context.origin in
    let asked = c.args.context.asked.now in
    let sent = c.in-Message.sent in
    let other = ap (λ row. is_other rules asked (row_of row)) (sym c.in-Message.is) ∙ sym c.requires ∙ c.if-other.true in
    subst (λ text. g.S.TextSink.says c.args.out.now text c.say_other_row.new.out)
    (other-text rules origin asked c.args.brief sent.role sent.dir sent.place c.in-Message.message.now other
    ∙ ap (λ row. row_text rules c.args.brief origin asked (row_of row)) (sym c.in-Message.is)) c.say_other_row.ensures

pub returns-else-other : goal.returns-else-other
returns-else-other g c =
    let rules = c.args.context.rules.now in
    let origin = c.args.context.origin in
    let asked = c.args.context.asked.now in
    let sent = c.in-Message.sent in
    let plain = ap (λ row. is_other rules asked (row_of row)) (sym c.in-Message.is) ∙ sym c.requires ∙ c.if-other.false in
    subst (λ text. g.S.TextSink.says c.args.out.now text c.say_plain_row.new.out)
    (plain-text rules origin asked c.args.brief sent.role sent.dir sent.place c.in-Message.message.now plain
    ∙ ap (λ row. row_text rules c.args.brief origin asked (row_of row)) (sym c.in-Message.is)) c.say_plain_row.ensures

pub returns-then-brief : goal.returns-then-brief
returns-then-brief g c =
    let rules = c.args.context.rules.now in
    let origin = c.args.context.origin in
    let asked = c.args.context.asked.now in
    subst (λ text. g.S.TextSink.says c.args.out.now text c.say_brief_missing.new.out)
    (brief-text rules origin asked c.in-Missing.missing
    ∙ (λ i. row_text rules (sym c.if-brief.true i) origin asked (row_of (sym c.in-Missing.is i)))) c.say_brief_missing.ensures

pub returns-else-brief : goal.returns-else-brief
returns-else-brief g c =
    let rules = c.args.context.rules.now in
    let origin = c.args.context.origin in
    let asked = c.args.context.asked.now in
    subst (λ text. g.S.TextSink.says c.args.out.now text c.say_missing_row.new.out)
    (missing-text rules origin asked c.in-Missing.missing
    ∙ (λ i. row_text rules (sym c.if-brief.false i) origin asked (row_of (sym c.in-Missing.is i)))) c.say_missing_row.ensures
