-- Each place adds the text of its byte.
use Rattle.std.proofs.Common.{rules, ◌++◌, ap, sym, ◌∙◌, append_assoc}
use Rattle.uds_rules.specs.Pattern.{behind}
use Rattle.trace_text.specs.RuledText.{place_text, masked_text}
use Rattle.trace_text.proofs.ruled_bytes.say_masked.Goals as goal

pub places-preserved : goal.places-preserved
places-preserved g c =
    let so_far = c.places.invariant in
    let is_masked = c.in-Some.is_masked in
    let left = c.in-Some.behind in
    let others = c.in-Some-split_first.others.now in
    let byte = place_text is_masked c.in-Some-split_first.first.now in
    let more = ap (λ mask. masked_text mask c.places.rest.now) c.in-Some.ensures.first
    ∙ ap (λ rest. masked_text (behind is_masked left) rest) c.in-Some-split_first.ensures.cases.0
    in (
      so_far.0 ++ byte,
      so_far.1 ∙ ap (λ text. so_far.0 ++ text) more ∙ sym (append_assoc so_far.0 byte (masked_text left others))
          ∙ ap (λ left. (so_far.0 ++ byte) ++ masked_text left others) (search rules),
      g.met.S.TextSink.onward c.args.out.now c.places.out c.say.new.out so_far.0 byte so_far.2 c.say.ensures,
    )
