-- The text of the first bytes stands in front of that of eight.
use Rattle.std.proofs.Common.{◌*◌, ◌∙◌, take, refl, ap, sym, subst, arith}
use Rattle.std.proofs.lemmas.List.{length-take-le}
use Rattle.shown_bytes.proofs.BytesBehind.{front_behind}
use Rattle.shown_bytes.proofs.data.say_front_behind.Goals as goal

pub returns : goal.returns
returns g c =
    let eight = c.args.eight.now in
    let count = c.args.count in
    let long = sym (length-take-le count eight (omega (arith, c.requires, c.told-eight))) in
    subst (λ text. g.S.TextSink.says c.args.out.now text c.put.new.self)
    (ap (take (3 * count)) c.eight_behind.ensures ∙ front_behind (take count eight) eight count refl long) c.put.ensures
