-- A stray is told as a keep-alive, where it is one.
use Rattle.std.proofs.Common.{◌≡◌, ℕ, ◌++◌, Bool, true, false, List, ap, codes, subst, sym, ◌∙◌}
use Rattle.std.specs.Prelude.{if◌then◌else◌}
use Rattle.trace_text.specs.Words.{direction_text}
use Rattle.uds_exchange.specs.ItemSeen.{item_value}
use Rattle.trace_pair.specs.ItemWords.{first_bytes, item_title, keeps_alive}
use Rattle.trace_pair.proofs.item_words.ItemTitlePart.say.Goals as goal

pub returns-then-keeps_alive : goal.returns-then-keeps_alive
returns-then-keeps_alive g c =
    let side = c.in-Stray.dir in
    let bytes = c.in-Stray.bytes.now in
    let keeps : keeps_alive c.in-Stray.dir c.in-Stray.bytes.now ≡ true = sym c.keeps_alive.ensures ∙ c.if-keeps_alive.true in
    subst (λ (text : List ℕ). g.S.TextSink.says c.args.out.now text c.say-then-keeps_alive.new.out)
    (ap (λ (is : Bool). (if is then codes "<b>keep-alive</b> " else codes "<b>stray</b> <i>from the " ++ direction_text side ++ codes "</i> ") ++ first_bytes c.args.self.0.now bytes) (sym keeps)
    ∙ ap (λ item. item_title c.args.self.0.now (item_value item)) (sym c.in-Stray.is))
    c.say-then-keeps_alive.ensures

pub returns-else-keeps_alive : goal.returns-else-keeps_alive
returns-else-keeps_alive g c =
    let side = c.in-Stray.dir in
    let bytes = c.in-Stray.bytes.now in
    let other : keeps_alive c.in-Stray.dir c.in-Stray.bytes.now ≡ false = sym c.keeps_alive.ensures ∙ c.if-keeps_alive.false in
    subst (λ (text : List ℕ). g.S.TextSink.says c.args.out.now text c.say-else-keeps_alive.new.out)
    (ap (λ (is : Bool). (if is then codes "<b>keep-alive</b> " else codes "<b>stray</b> <i>from the " ++ direction_text side ++ codes "</i> ") ++ first_bytes c.args.self.0.now bytes) (sym other)
    ∙ ap (λ item. item_title c.args.self.0.now (item_value item)) (sym c.in-Stray.is))
    c.say-else-keeps_alive.ensures
