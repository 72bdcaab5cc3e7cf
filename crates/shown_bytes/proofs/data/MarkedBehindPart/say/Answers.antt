-- Each byte adds its text.
use Rattle.std.proofs.Common.{◌≡◌, ◌++◌, ap, sym, ◌∙◌, append_assoc}
use Rattle.std.specs.Prelude.{codes}
use Rattle.trace_text.specs.RuledText.{place_text}
use Rattle.shown_bytes.specs.Data.{marked_behind}
use Rattle.shown_bytes.specs.proving.Marking.{marks_in}
use Rattle.shown_bytes.proofs.data.MarkedBehindPart.say.Goals as goal

pub bytes-preserved : goal.bytes-preserved
bytes-preserved g c =
    let so_far = c.bytes.invariant in
    let others = c.in-Some.others.now in
    let marked = c.split_first-is_masked.result in
    let byte = codes " " ++ place_text marked.0 c.in-Some.first.now in
    let more : marked_behind (marks_in c.bytes.marks) c.bytes.rest.now ≡ byte ++ marked_behind (marks_in marked.1) others =
    ap (marked_behind (marks_in c.bytes.marks)) c.in-Some.ensures.cases.0
    ∙ (λ i. (codes " " ++ place_text (sym c.split_first-is_masked.ensures.first i) c.in-Some.first.now) ++ marked_behind (sym c.split_first-is_masked.ensures.behind i) others)
    in (
      so_far.0 ++ byte,
      so_far.1 ∙ ap (λ text. so_far.0 ++ text) more ∙ sym (append_assoc so_far.0 byte (marked_behind (marks_in marked.1) others)),
      g.met.S.TextSink.onward c.args.out.now c.bytes.out c.say.new.out so_far.0 byte so_far.2 c.say.ensures,
    )
