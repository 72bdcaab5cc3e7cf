-- Where a log is not clean at a change, that is said.
use Rattle.std.proofs.Common.{◌≡◌, ℕ, ◌++◌, Bool, false, List, [], ap, arith, codes, subst, sym}
use Rattle.std.specs.Prelude.{◌==◌, if◌then◌else◌}
use Rattle.std.proofs.lemmas.Bool.{ne_eqb}
use Rattle.trace_pair.specs.Verdict.{at_words, who_words}
use Rattle.trace_pair.proofs.lossy_changes.LossyLinePart.say.Goals as goal

pub returns-then-self-gt0 : goal.returns-then-self-gt0
returns-then-self-gt0 g c =
    let line = c.args.self in
    let some : (c.args.self.lossy == 0) ≡ false = ne_eqb c.args.self.lossy 0 (λ none. omega (arith, c.if-self-gt0.true, none)) in
    subst (λ (text : List ℕ). g.S.TextSink.says c.args.out.now text c.say.new.out)
    (ap (λ (none : Bool). if none then []
    else codes "<p class=\"lossline\"><b>" ++ at_words line.lossy line.all ++ codes "</b> " ++ who_words line.left line.right
    ++ codes ": frames are missing, late, out of order or of no legal form there. The recording may differ, and not the session.</p>\n") (sym some))
    c.say.ensures
