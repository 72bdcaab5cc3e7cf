-- Each byte adds its letter.
use Rattle.std.proofs.Common.{refl, sym, subst}
use Rattle.shown_bytes.specs.Letters.{letter_text}
use Rattle.trace_text.proofs.Promises.{one_more_text}
use Rattle.shown_bytes.proofs.letters.say_few_letters.Goals as goal

pub bytes-init : goal.bytes-init
bytes-init g c = g.met.S.TextSink.nothing c.args.out.now

pub bytes-preserved : goal.bytes-preserved
bytes-preserved g c =
    subst (λ text. g.S.TextSink.says c.args.out.now text c.say_letter.new.out) (sym (one_more_text letter_text c.args.bytes.now c.bytes.byte-index 0 _ c.bytes-test.true refl))
    (g.met.S.TextSink.onward _ _ _ _ _ c.bytes.invariant c.say_letter.ensures)
