-- What was gathered, and the text behind it: all is written but what the next sheet begins with, or a front of it.
use Rattle.std.proofs.Common.{◌≡◌, ◌+◌, ◌++◌, ap, ap₂, subst, ◌∙◌, append_assoc}
use Rattle.std.proofs.lemmas.List.{take-append-drop}
use Rattle.std.specs.Prelude.{MatchResult}
use Rattle.trace_io.proofs.Promises.{took_more}
use Rattle.trace_io.specs.Written.{HasFront}
use Rattle.trace_log.proofs.Promises.{handed_on}
use Rattle.trace_run.proofs.WrittenFronts.{front_longer, gathered_at_once}
use Rattle.trace_run.proofs.sheet.gather.Goals as goal

pub returns-then-text-gt-SHEET_LENGTH-clause-failures : goal.returns-then-text-gt-SHEET_LENGTH-clause-failures
returns-then-text-gt-SHEET_LENGTH-clause-failures g c =
    let W = g.W.Target in
    subst (λ n. MatchResult c.write_all.result (λ _. W.failures c.write_all.new.target ≡ n) (λ _. W.failures c.write_all.new.target ≡ n + 1))
    c.in_ok-write_out.ensures.failures c.write_all.ensures.failures

pub returns-then-text-gt-SHEET_LENGTH-clause-taken : goal.returns-then-text-gt-SHEET_LENGTH-clause-taken
returns-then-text-gt-SHEET_LENGTH-clause-taken g c =
    let W = g.W.Target in
    gathered_at_once c.write_all.result (W.taken c.args.target.now) c.args.gathered.now (W.taken c.write_out.new.target) c.args.text.now _ _
    c.in_ok-write_out.ensures.taken c.write_out.ensures.blank c.write_all.ensures.taken

pub returns-in_err-write_out-clause-took : goal.returns-in_err-write_out-clause-took
returns-in_err-write_out-clause-took g c = c.in_err-write_out.ensures.took

pub returns-then-text-gt-SHEET_LENGTH-clause-took : goal.returns-then-text-gt-SHEET_LENGTH-clause-took
returns-then-text-gt-SHEET_LENGTH-clause-took g c = took_more c.in_ok-write_out.ensures.took c.write_all.ensures.took

pub returns-in_err-write_out-clause-taken : goal.returns-in_err-write_out-clause-taken
returns-in_err-write_out-clause-taken g c =
    rw (handed_on c.from_residual.result _ c.from_residual.ensures.1)
    (front_longer (g.W.Target.taken c.args.target.now) c.args.gathered.now c.args.text.now
    (g.W.Target.taken c.write_out.new.target) c.in_err-write_out.ensures.taken)

pub returns-in_err-write_out-2-clause-taken : goal.returns-in_err-write_out-2-clause-taken
returns-in_err-write_out-2-clause-taken g c =
    let old = g.W.Target.taken c.args.target.now in
    let new = g.W.Target.taken c.write_out-2.new.target in
    let gathered = c.args.gathered.now in
    let front = c.split_at.result.0.now in
    let rest = c.split_at.result.1.now in
    let whole = ap₂ (λ x y. x ++ y) c.split_at.ensures.front c.split_at.ensures.back ∙ take-append-drop c.min.result c.args.text.now in
    rw (handed_on c.from_residual-in_err-write_out-2.result _ c.from_residual-in_err-write_out-2.ensures.1)
    (subst (λ t. HasFront old t new) (append_assoc gathered front rest ∙ ap (λ t. gathered ++ t) whole)
    (front_longer old (gathered ++ front) rest new
    (subst (λ t. HasFront old t new) c.append.ensures c.in_err-write_out-2.ensures.taken)))
