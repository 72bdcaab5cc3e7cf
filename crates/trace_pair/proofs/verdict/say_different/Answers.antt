-- What is told is by the counts that the definition names.
use Rattle.trace_pair.proofs.verdict.say_different.Goals as goal

pub returns : goal.returns
returns g c =
    let losses = c.losses_at_changes.ensures in
    rw (c.count_changes.ensures, c.count_of.ensures, c.count_of-2.ensures, c.count_of-3.ensures, c.count_of-4.ensures, losses.lossy, losses.all, losses.left, losses.right) at c.say.ensures
