-- Each eight bytes add their letters, and fewer than eight end the text.
use Rattle.std.proofs.Common.{[], ◌++◌, refl, ap, sym, subst, ◌∙◌, append_assoc}
use Rattle.shown_bytes.specs.Letters.{letters}
use Rattle.shown_bytes.proofs.BytesBehind.{eight_letters_more}
use Rattle.shown_bytes.proofs.letters.LettersPart.say.Goals as goal

pub eights-init : goal.eights-init
eights-init g c = ([], refl, g.met.S.TextSink.nothing c.args.out.now)

pub eights-preserved : goal.eights-preserved
eights-preserved g c =
    let so_far = c.eights.invariant in
    let text = c.eight_letters.result in
    let more = eight_letters_more c.eights.rest.now c.in-Some.eight.now c.in-Some.behind.now text c.in-Some.ensures.cases.0 c.in-Some.ensures.cases.1 c.eight_letters.ensures in (
      so_far.0 ++ text,
      so_far.1 ∙ ap (λ x. so_far.0 ++ x) more ∙ sym (append_assoc so_far.0 text (letters c.in-Some.behind.now)),
      g.met.S.TextSink.onward c.args.out.now c.eights.out c.put.new.self so_far.0 text so_far.2 c.put.ensures,
    )

pub returns : goal.returns
returns g c =
    let so_far = c.eights.invariant in
    subst (λ text. g.S.TextSink.says c.args.out.now text c.say_few_letters.new.out) (sym so_far.1)
    (g.met.S.TextSink.onward c.args.out.now c.eights.out c.say_few_letters.new.out so_far.0 (letters c.eights.rest.now) so_far.2 c.say_few_letters.ensures)
