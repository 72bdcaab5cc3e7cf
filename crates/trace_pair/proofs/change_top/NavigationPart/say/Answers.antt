-- The last change leads back to the list.
use Rattle.std.proofs.Common.{◌≡◌, ℕ, ◌+◌, ◌++◌, Bool, false, List, [], Some, None, codes, subst, sym}
use Rattle.std.specs.Fmt.{decimal}
use Rattle.std.specs.Prelude.{◌==◌, nat_lt, if◌then◌else◌}
use Rattle.std.proofs.lemmas.Bool.{le-ltb, ne_eqb}
use Rattle.trace_pair.specs.ItemRows.{way_on}
use Rattle.trace_pair.proofs.change_top.NavigationPart.say.Goals as goal

pub returns-else-number-all : goal.returns-else-number-all
returns-else-number-all g c =
    let number = c.args.self.number in
    let all = c.args.self.all in
    let several : (all == 1) ≡ false = ne_eqb c.args.self.all 1 c.if-all-eq1.false in
    let last : nat_lt number all ≡ false = le-ltb c.args.self.number c.args.self.all c.if-number-all.false in
    let by = λ (one more : Bool). if one then []
    else codes " <span class=\"nav\">" ++ decimal number ++ codes " of " ++ decimal all ++ codes " "
    ++ way_on (if more then Some (number + 1) else None) ++ codes "</span>" in
    subst (λ (text : List ℕ). g.S.TextSink.says c.args.out.now text c.say-else-number-all.new.out)
    (λ i. by (sym several i) (sym last i))
    c.say-else-number-all.ensures
