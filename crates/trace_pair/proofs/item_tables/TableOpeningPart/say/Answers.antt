-- Behind a table that is full, a block begins.
use Rattle.std.proofs.Common.{ℕ, List, subst, sym, ◌∙◌}
use Rattle.trace_pair.proofs.Standings.{what-begins}
use Rattle.trace_pair.proofs.item_tables.TableOpeningPart.say.Goals as goal

pub returns-then-is_full : goal.returns-then-is_full
returns-then-is_full g c =
    subst (λ (text : List ℕ). g.S.TextSink.says c.args.out.now text c.say-then-is_full.new.out)
    (what-begins c.args.self.0 (sym c.is_full.ensures ∙ c.if-is_full.true)) c.say-then-is_full.ensures
