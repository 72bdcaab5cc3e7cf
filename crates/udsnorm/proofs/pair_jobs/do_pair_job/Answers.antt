use Rattle.std.proofs.Common.{◌≡◌, inr, [], List, Option, Result, subst, sym, ◌∙◌}
use Rattle.uds_rules.specs.Rule.{RuleValue}
use Rattle.isotp_receive.specs.declared.TheConstants.{MESSAGE_LIMIT}
use Rattle.trace_canon.specs.ComparisonText.{comparison_text}
use Rattle.trace_log.specs.declared.fault.CompareFault.{CompareFault}
use Rattle.trace_log.specs.declared.fault.CompareFault.TheVariants.{Left, Right}
use Rattle.trace_log.specs.declared.fault.Fault.TheVariants as fault
use Rattle.trace_pair.specs.Page.{pair_page}
use Rattle.trace_pair.specs.Titles.{title_for}
use Rattle.udsnorm.specs.Engines.{ComparesPair, PagesPair, text_of_difference}
use Rattle.udsnorm.specs.Telling.{WroteText}
use Rattle.udsnorm.specs.proving.Pairs.{answer_kept, cause_in, text_of_answer}
use Rattle.trace_report.specs.declared.cause.RefusalCause.{RefusalCause}
use Rattle.trace_run.specs.Script.{glimpse_of}
use Rattle.udsnorm.specs.declared.pair_jobs.PairAnswer.{PairAnswer}
use Rattle.udsnorm.proofs.Pairs.{compared_pair, fault_compared, fault_held, needed_for_difference, pages_pair, read_told, refused_pair}
use Rattle.udsnorm.proofs.pair_jobs.do_pair_job.Goals as goal

pub returns-in-Compare-clause-engine : goal.returns-in-Compare-clause-engine
returns-in-Compare-clause-engine g c =
    let style = λ (rules : List RuleValue). comparison_text rules c.in-Compare.style in
    let settings = c.args.config.now in
    let text = text_of_answer c.args.strict style settings.rules c.compare-answer.result in
    rw c.in-Compare.is (
      text,
      λ one other agrees_one agrees_other. subst (λ (told : Result PairAnswer CompareFault). ComparesPair style c.args.strict MESSAGE_LIMIT settings one other told text) (sym c.answer_of.ensures)
          (compared_pair style c.args.strict MESSAGE_LIMIT settings one other c.compare-answer.result (c.compare-answer.ensures.answer one other agrees_one agrees_other)),
      subst (λ (rules : List RuleValue). WroteText g.W.Target (text_of_answer c.args.strict style rules c.compare-answer.result) c.write_answer.result c.args.out.now c.write_answer.new.out)
          c.rules.ensures c.write_answer.ensures.text,
    )

pub returns-in-Compare-clause-left_memory : goal.returns-in-Compare-clause-left_memory
returns-in-Compare-clause-left_memory g c = λ log agrees is.
    rw c.in-Compare.is (c.compare-answer.ensures.left_memory log agrees (fault_compared c.compare-answer.result _ (sym c.answer_of.ensures ∙ is)))

pub returns-in-Compare-clause-right_memory : goal.returns-in-Compare-clause-right_memory
returns-in-Compare-clause-right_memory g c = λ one other left right is.
    rw c.in-Compare.is (c.compare-answer.ensures.right_memory other right (fault_compared c.compare-answer.result _ (sym c.answer_of.ensures ∙ is)))

pub returns-in-Compare-clause-left_near : goal.returns-in-Compare-clause-left_near
returns-in-Compare-clause-left_near g c = λ log agrees. rw c.in-Compare.is (c.compare-answer.ensures.left_near log agrees)

pub returns-in-Compare-clause-right_near : goal.returns-in-Compare-clause-right_near
returns-in-Compare-clause-right_near g c = λ log agrees. rw c.in-Compare.is (c.compare-answer.ensures.right_near log agrees)

pub returns-in-Ok-clause-engine : goal.returns-in-Ok-clause-engine
returns-in-Ok-clause-engine g c =
    let text_of = text_of_difference c.in-Diff.notation c.args.left_name.now c.args.right_name.now in
    let settings = c.args.config.now in
    let text = text_of_answer c.args.strict text_of settings.rules c.compare-compared.result in
    rw c.in-Diff.is (
      text,
      λ one other agrees_one agrees_other. subst (λ (told : Result PairAnswer CompareFault). ComparesPair text_of c.args.strict MESSAGE_LIMIT settings one other told text) (sym c.answer_of-in-Ok.ensures)
          (compared_pair text_of c.args.strict MESSAGE_LIMIT settings one other c.compare-compared.result (c.compare-compared.ensures.answer one other agrees_one agrees_other)),
      subst (λ (rules : List RuleValue). WroteText g.W.Target (text_of_answer c.args.strict text_of rules c.compare-compared.result) c.in-Ok.wrote c.args.out.now c.write_diff.new.out)
          c.rules-in-Diff.ensures c.in-Ok.ensures.text,
    )

pub returns-in-Ok-clause-left_memory : goal.returns-in-Ok-clause-left_memory
returns-in-Ok-clause-left_memory g c = λ log agrees is.
    rw c.in-Diff.is (c.compare-compared.ensures.left_memory log agrees (fault_compared c.compare-compared.result _ (sym c.answer_of-in-Ok.ensures ∙ is)))

pub returns-in-Ok-clause-right_memory : goal.returns-in-Ok-clause-right_memory
returns-in-Ok-clause-right_memory g c = λ one other left right is.
    rw c.in-Diff.is (inr (c.compare-compared.ensures.right_memory other right (fault_compared c.compare-compared.result _ (sym c.answer_of-in-Ok.ensures ∙ is))))

pub returns-in-Ok-clause-left_near : goal.returns-in-Ok-clause-left_near
returns-in-Ok-clause-left_near g c = λ log agrees. rw c.in-Diff.is (c.compare-compared.ensures.left_near log agrees)

pub returns-in-Ok-clause-right_near : goal.returns-in-Ok-clause-right_near
returns-in-Ok-clause-right_near g c = λ log agrees. rw c.in-Diff.is (c.compare-compared.ensures.right_near log agrees)

pub returns-in-Diff-clause-engine : goal.returns-in-Diff-clause-engine
returns-in-Diff-clause-engine g c =
    let text_of = text_of_difference c.in-Diff.notation c.args.left_name.now c.args.right_name.now in
    rw c.in-Diff.is (
      [],
      λ one other agrees_one agrees_other. refused_pair text_of c.args.strict MESSAGE_LIMIT c.args.config.now one other c.compare-compared.result c.in-Err.ensures.answered
          (c.compare-compared.ensures.answer one other agrees_one agrees_other),
      c.in-Err.ensures.nothing,
    )

pub returns-in-Diff-clause-right_memory : goal.returns-in-Diff-clause-right_memory
returns-in-Diff-clause-right_memory g c = λ one other left right is.
    rw c.in-Diff.is (needed_for_difference MESSAGE_LIMIT c.args.config.now one other c.compare-compared.result c.in-Err.ensures.answered (c.compare-compared.ensures.answer one other left right))

pub returns-in-Diff-clause-left_near : goal.returns-in-Diff-clause-left_near
returns-in-Diff-clause-left_near g c = λ log agrees. rw c.in-Diff.is (c.compare-compared.ensures.left_near log agrees)

pub returns-in-Diff-clause-right_near : goal.returns-in-Diff-clause-right_near
returns-in-Diff-clause-right_near g c = λ log agrees. rw c.in-Diff.is (c.compare-compared.ensures.right_near log agrees)

pub returns-clause-engine : goal.returns-clause-engine
returns-clause-engine g c =
    let left = c.args.left_name.now in
    let right = c.args.right_name.now in
    let settings = c.args.config.now in
    let page = c.write_page.ensures.text in
    let page_with = pair_page (title_for page.0 left right settings) c.align_two-answer.result in
    let text = page_with c.cause_in-cause.result in
    let left_seen = glimpse_of g.A.Source c.align_two-answer.new.left in
    let right_seen = glimpse_of g.B.Source c.align_two-answer.new.right in
    let cause_is : c.cause_in-cause.result ≡ cause_in c.align_two-answer.result settings.max_bytes left_seen right_seen =
    c.cause_in-cause.ensures ∙ (λ i. cause_in c.align_two-answer.result (c.max_bytes.ensures.value i) left_seen right_seen) in
    rw c.in-Report.is (
      text,
      λ one other agrees_one agrees_other. subst (λ (told : Result PairAnswer CompareFault). PagesPair left right left_seen right_seen c.args.strict MESSAGE_LIMIT settings one other told text) (sym c.answer_kept.ensures)
          (subst (λ (cause : Option RefusalCause). PagesPair left right left_seen right_seen c.args.strict MESSAGE_LIMIT settings one other (answer_kept c.align_two-answer.result) (page_with cause)) (sym cause_is)
          (pages_pair page.0 left right left_seen right_seen c.args.strict MESSAGE_LIMIT settings one other c.align_two-answer.result (c.align_two-answer.ensures.answer one other agrees_one agrees_other))),
      page.1,
    )

pub returns-clause-left_memory : goal.returns-clause-left_memory
returns-clause-left_memory g c = λ log agrees is.
    rw c.in-Report.is (c.align_two-answer.ensures.left_memory log agrees (fault_held c.align_two-answer.result _ (sym c.answer_kept.ensures ∙ is)))

pub returns-clause-right_memory : goal.returns-clause-right_memory
returns-clause-right_memory g c = λ one other left right is.
    rw c.in-Report.is (c.align_two-answer.ensures.right_memory one other left right (fault_held c.align_two-answer.result _ (sym c.answer_kept.ensures ∙ is)))

pub returns-clause-left_near : goal.returns-clause-left_near
returns-clause-left_near g c = λ log agrees. rw c.in-Report.is (c.align_two-answer.ensures.left_near log agrees)

pub returns-clause-right_near : goal.returns-clause-right_near
returns-clause-right_near g c = λ log agrees. rw c.in-Report.is (c.align_two-answer.ensures.right_near log agrees)

pub returns-clause-left_read : goal.returns-clause-left_read
returns-clause-left_read g c =
    read_told g.A.Source (Left fault.Read) c.args.config.now.max_bytes c.align_two-answer.result c.answer_kept.result _ _ c.answer_kept.ensures c.align_two-answer.ensures.left_read

pub returns-clause-right_read : goal.returns-clause-right_read
returns-clause-right_read g c =
    read_told g.B.Source (Right fault.Read) c.args.config.now.max_bytes c.align_two-answer.result c.answer_kept.result _ _ c.answer_kept.ensures c.align_two-answer.ensures.right_read
