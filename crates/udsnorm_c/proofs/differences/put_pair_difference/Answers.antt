use Rattle.std.proofs.Common.{sym, ◌∙◌}
use Rattle.udsnorm_c.specs.Spelled.{notation_of}
use Rattle.udsnorm_c.proofs.Settled.{in_style}
use Rattle.udsnorm_c.proofs.differences.put_pair_difference.Goals as goal

pub returns-in-Some : goal.returns-in-Some
returns-in-Some c =
    in_style (notation_of c.args.style) _ _ _ _ _ (sym c.notation_of.ensures ∙ c.in-Some.is) (c.pair_difference.result, c.pair_difference.ensures, c.put_difference.ensures)
