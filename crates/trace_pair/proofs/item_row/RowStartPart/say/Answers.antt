-- A row begins with what it looks like, and where a change begins, with its number.
use Rattle.std.proofs.Common.{◌≡◌, ℕ, ◌++◌, List, Option, ap, append_assoc, codes, subst, sym, ◌∙◌}
use Rattle.trace_pair.specs.declared.item_row.Begun.{Begun}
use Rattle.pair_words.specs.DifferenceNames.{difference_name}
use Rattle.trace_pair.specs.ItemRows.{begun_number, row_class, row_start}
use Rattle.trace_pair.proofs.item_row.RowStartPart.say.Goals as goal

in_front : (front a b c : List ℕ) → front ++ (a ++ b ++ c) ≡ front ++ a ++ b ++ c
in_front front a b c = simp append_assoc

pub returns-in-Some : goal.returns-in-Some
returns-in-Some g c =
    let kind = c.args.self.0 in
    subst (λ (text : List ℕ). g.S.TextSink.says c.args.out.now text c.say-in-Some.new.out)
    (in_front (codes "<tr class=\"" ++ row_class c.args.self.0) (codes "\" id=\"") (difference_name c.in-Some.begun.number) (codes "\">")
    ∙ ap (λ (begun : Option Begun). row_start kind (begun_number begun)) (sym c.in-Some.is))
    (g.met.S.TextSink.onward _ _ _ _ _ c.say.ensures c.say-in-Some.ensures)

pub returns-in-None : goal.returns-in-None
returns-in-None g c =
    let kind = c.args.self.0 in
    subst (λ (text : List ℕ). g.S.TextSink.says c.args.out.now text c.say-in-None.new.out)
    (ap (λ (begun : Option Begun). row_start kind (begun_number begun)) (sym c.in-None.is))
    (g.met.S.TextSink.onward _ _ _ _ _ c.say.ensures c.say-in-None.ensures)
