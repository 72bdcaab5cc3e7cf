use Rattle.std.proofs.Common.{refl}
use Rattle.udsnorm.proofs.Done.{did_of_asked, is_done, told_once, told_at_most_once}
use Rattle.udsnorm.proofs.run_words.Goals as goal

pub returns-in-Ok-clause-run : goal.returns-in-Ok-clause-run
returns-in-Ok-clause-run g c = did_of_asked _ _ _ _ _ _ _ _ _ _ _ _ _ _ _ c.in-Ok.is c.carry_out.ensures.did

pub returns-in-Err-clause-run : goal.returns-in-Err-clause-run
returns-in-Err-clause-run g c = did_of_asked _ _ _ _ _ _ _ _ _ _ _ _ _ _ _ c.in-Err.is (refl, refl, c.tell.ensures)

pub returns-in-Ok-clause-done : goal.returns-in-Ok-clause-done
returns-in-Ok-clause-done g c given seen planned = is_done _ _ _ _ _ _ _ _ _ _ _ _ _ _ _ _ (returns-in-Ok-clause-run g c given seen planned)

pub returns-in-Err-clause-done : goal.returns-in-Err-clause-done
returns-in-Err-clause-done g c given seen planned = is_done _ _ _ _ _ _ _ _ _ _ _ _ _ _ _ _ (returns-in-Err-clause-run g c given seen planned)

pub returns-in-Err-clause-once : goal.returns-in-Err-clause-once
returns-in-Err-clause-once g c = told_once g.W.Target g.E.Target _ _ _ _ _ _ c.tell.ensures

pub returns-in-Err-clause-flushes : goal.returns-in-Err-clause-flushes
returns-in-Err-clause-flushes g c = told_at_most_once g.W.Target g.E.Target _ _ _ _ _ _ c.tell.ensures
