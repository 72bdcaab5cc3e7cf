use Rattle.std.proofs.Common.{ap, refl, ◌∙◌}
use Rattle.command_line.specs.declared.job.Plan.TheVariants.{One}
use Rattle.udsnorm.proofs.Done.{did_of_equal, ran_named}
use Rattle.udsnorm.proofs.carry_out.Goals as goal

pub returns-in-Some-clause-did : goal.returns-in-Some-clause-did
returns-in-Some-clause-did g c =
    did_of_equal _ _ _ _ _ _ _ _ _ _ _ _ _ _ _ (c.in-One.is ∙ ap (λ log. One c.in-One.job c.in-One.strict c.in-One.config log) c.in-Some.is) (refl, c.run_file.ensures.did)

pub returns-in-Two-clause-did : goal.returns-in-Two-clause-did
returns-in-Two-clause-did g c = did_of_equal _ _ _ _ _ _ _ _ _ _ _ _ _ _ _ c.in-Two.is (refl, c.run_files.ensures.did)

pub returns-in-None-clause-did : goal.returns-in-None-clause-did
returns-in-None-clause-did g c =
    did_of_equal _ _ _ _ _ _ _ _ _ _ _ _ _ _ _ (c.in-One.is ∙ ap (λ log. One c.in-One.job c.in-One.strict c.in-One.config log) c.in-None.is) (
      c.run_one-end.result.outcome,
      ran_named c.page_name.ensures c.run_one-end.ensures.ran,
      c.known_of_input.ensures,
    )
