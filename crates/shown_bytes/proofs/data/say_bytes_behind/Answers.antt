-- Each eight bytes add their blanks and digits, and fewer than eight end the text.
use Rattle.std.proofs.Common.{[], ◌++◌, refl, ap, sym, subst, ◌∙◌, append_assoc}
use Rattle.shown_bytes.specs.Data.{bytes_behind}
use Rattle.shown_bytes.proofs.BytesBehind.{eight_more}
use Rattle.shown_bytes.proofs.data.say_bytes_behind.Goals as goal

pub eights-init : goal.eights-init
eights-init g c = ([], refl, g.met.S.TextSink.nothing c.args.out.now)

pub eights-preserved : goal.eights-preserved
eights-preserved g c =
    let so_far = c.eights.invariant in
    let text = c.eight_behind.result in
    let more = eight_more c.eights.rest.now c.in-Some.eight.now c.in-Some.behind.now text c.in-Some.ensures.cases.0 c.in-Some.ensures.cases.1 c.eight_behind.ensures in (
      so_far.0 ++ text,
      so_far.1 ∙ ap (λ x. so_far.0 ++ x) more ∙ sym (append_assoc so_far.0 text (bytes_behind c.in-Some.behind.now)),
      g.met.S.TextSink.onward c.args.out.now c.eights.out c.put.new.self so_far.0 text so_far.2 c.put.ensures,
    )

pub returns : goal.returns
returns g c =
    let so_far = c.eights.invariant in
    subst (λ text. g.S.TextSink.says c.args.out.now text c.say_few_behind.new.out) (sym so_far.1)
    (g.met.S.TextSink.onward c.args.out.now c.eights.out c.say_few_behind.new.out so_far.0 (bytes_behind c.eights.rest.now) so_far.2 c.say_few_behind.ensures)
