-- A message ends its reception, a first frame begins one, and the others leave both.
use Rattle.std.proofs.Common.{ap, sym, ◌∙◌, inl, inr}
use Rattle.isotp_receive.specs.EventSeen.{seen_verdict}
use Rattle.isotp_receive.specs.Trace.{same_direction}
use Rattle.isotp_receive.specs.declared.event.Verdict.{Verdict}
use Rattle.trace_canon.specs.ReceptionStarts.{reception_start, start_after_verdict}
use Rattle.trace_canon.proofs.MovedStarts.{over, anew, on_stored, on_flow, on_drop}
use Rattle.trace_canon.proofs.reception_starts.ReceptionStarts.move_by.Goals as goal

pub returns-in-Message : goal.returns-in-Message
returns-in-Message c = λ d.
    let before = reception_start c.args.self.now d in
    let own = same_direction d c.args.dir in
    c.set.ensures d ∙ over c.args.here before own _
    ∙ ap (λ (v : Verdict). start_after_verdict own (seen_verdict v) c.args.here before) (sym c.in-Message.is)

pub returns-in-Began : goal.returns-in-Began
returns-in-Began c = λ d.
    let before = reception_start c.args.self.now d in
    let own = same_direction d c.args.dir in
    c.set-in-Began.ensures d ∙ anew c.args.here before own
    ∙ ap (λ (v : Verdict). start_after_verdict own (seen_verdict v) c.args.here before) (sym c.in-Began.is)

pub returns-in-Stored : goal.returns-in-Stored
returns-in-Stored c = λ d.
    let before = reception_start c.args.self.now d in
    let own = same_direction d c.args.dir in
    let moved = λ (v : Verdict). start_after_verdict own (seen_verdict v) c.args.here before in
    elim c.in-Stored.is [
      | inl is ↦ on_stored c.args.here before own ∙ ap moved (sym is)
      | inr others ↦ elim others [
        | inl is ↦ on_flow c.args.here before own ∙ ap moved (sym is)
        | inr drop ↦ on_drop c.args.here before own drop.0 ∙ ap moved (sym drop.1)
      ]
    ]
