-- The configuration is dropped behind the call, with a table of rules or without.
use Rattle.udsnorm_c.specs.Given.{given_of}
use Rattle.udsnorm_c.proofs.Settled.{under_none, under_settings}
use Rattle.udsnorm_c.proofs.udsnorm_report_pair.Goals as goal
use Rattle.udsnorm_c.proofs.udsnorm_report_pair.Goals.{in-Ok+in-None-1, in-Ok+in-Some-1, in-Err}

pub returns-clause-answers : goal.returns-clause-answers
returns-clause-answers c =
    let given = given_of c.args.tester c.args.unit c.args.limit c.args.profile.now c.args.only.now in
    elim c.match-config_given.branch [
      | in-Ok+in-None-1 w ↦ rw (w.out-is, w.answer-is) (under_settings _ given _ _ _ c.config_given.result c.config_given.ensures _ w.in-Ok.is w.put_pair_report.ensures)
      | in-Ok+in-Some-1 w ↦ rw (w.out-is, w.answer-is) (under_settings _ given _ _ _ c.config_given.result c.config_given.ensures _ w.in-Ok.is w.put_pair_report.ensures)
      | in-Err w ↦ rw (w.out-is, w.answer-is) (under_none _ given _ _ _ c.config_given.result c.config_given.ensures _ w.in-Err.is w.put_refusal.ensures)
    ]
