-- Each eight bytes add their digits, and fewer than eight end the text.
use Rattle.std.proofs.Common.{◌≡◌, List, ℕ, [], ◌++◌, take, drop, refl, ap, sym, subst, ◌∙◌, append_assoc}
use Rattle.std.specs.List.{flat_map}
use Rattle.std.proofs.lemmas.Grind.{flat_map-append}
use Rattle.std.proofs.lemmas.List.{take-append-drop}
use Rattle.can_log.specs.Digits.{hexadecimal}
use Rattle.trace_text.specs.Words.{bytes_text}
use Rattle.trace_text.proofs.bytes.HexBytesPart.say.Goals as goal

-- the text of what is left begins with that of its first eight bytes
eight_more : (rest eight behind digits : List ℕ) → eight ≡ take 8 rest → behind ≡ drop 8 rest → digits ≡ flat_map (hexadecimal 2) eight
    → bytes_text rest ≡ digits ++ bytes_text behind
eight_more rest eight behind digits one two is =
    rw (is, one, two) (ap (λ (b : List ℕ). flat_map (hexadecimal 2) b) (sym (take-append-drop 8 rest))
    ∙ flat_map-append (hexadecimal 2) (take 8 rest) (drop 8 rest))

pub eights-init : goal.eights-init
eights-init g c = ([], refl, g.met.S.TextSink.nothing c.args.out.now)

pub eights-preserved : goal.eights-preserved
eights-preserved g c =
    let so_far = c.eights.invariant in
    let digits = c.digits_of_bytes.result in
    let more = eight_more c.eights.rest.now c.in-Some.eight.now c.in-Some.behind.now digits c.in-Some.ensures.cases.0 c.in-Some.ensures.cases.1
    c.digits_of_bytes.ensures in (
      so_far.0 ++ digits,
      so_far.1 ∙ ap (λ x. so_far.0 ++ x) more ∙ sym (append_assoc so_far.0 digits (bytes_text c.in-Some.behind.now)),
      g.met.S.TextSink.onward c.args.out.now c.eights.out c.put.new.self so_far.0 digits so_far.2 c.put.ensures,
    )

pub returns : goal.returns
returns g c =
    let so_far = c.eights.invariant in
    subst (λ text. g.S.TextSink.says c.args.out.now text c.say_few_bytes.new.out) (sym so_far.1)
    (g.met.S.TextSink.onward c.args.out.now c.eights.out c.say_few_bytes.new.out so_far.0
    (bytes_text c.eights.rest.now) so_far.2 c.say_few_bytes.ensures)
