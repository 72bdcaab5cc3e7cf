-- Frame by frame, and with the full frames behind a continue frame, a front is said until none is left or none fits.
use Rattle.std.proofs.Common.{◌∷◌, refl, ap, sym, ◌∙◌}
use Rattle.trace_canon.specs.proving.Saying.{SaysFront}
use Rattle.trace_canon.specs.proving.Writing.{text_from, progress_after}
use Rattle.trace_canon.proofs.CanonicalWriting.{text_none, progress_none, text_full, progress_full}
use Rattle.trace_canon.proofs.SaidFrames.{more_said, all_lines_said}
use Rattle.trace_canon.proofs.canonical_lines.say_frames.Given.{Over}
use Rattle.trace_canon.proofs.canonical_lines.say_frames.Goals.{After-say_frame}
use Rattle.trace_canon.proofs.canonical_lines.say_frames.Goals as goal

-- with one more frame
one_more : (g : Over) (c : After-say_frame g)
    → SaysFront g.S.TextSink.says c.args.config.now c.args.progress.now c.args.out.now c.args.frames c.say_frame.new.progress
    c.say_frame.new.out c.next.new.self
one_more g c =
    more_said g.S.TextSink.says g.met.S.TextSink.nothing g.met.S.TextSink.onward c.args.config.now c.args.progress.now
    c.frames.progress c.frames.progress c.say_frame.new.progress
    c.args.out.now c.frames.out c.say_frame.new.out c.args.frames c.frames.rest (c.in-Some.next ∷ c.next.new.self) c.next.new.self c.frames.invariant
    c.in-Some.ensures.steps refl (c.say_frame.ensures.says c.next.new.self)

pub returns-then-not-say_frame-clause-says : goal.returns-then-not-say_frame-clause-says
returns-then-not-say_frame-clause-says g c =
    let settings = c.args.config.now in
    let full = c.say_frame.ensures.over c.if-not-say_frame.true in
    all_lines_said g.S.TextSink.says g.met.S.TextSink.nothing g.met.S.TextSink.onward settings c.args.progress.now
    c.say_frame.new.progress c.args.out.now c.say_frame.new.out
    c.args.frames c.next.new.self (text_full settings c.say_frame.new.progress c.next.new.self (ap (λ p. p.room) full))
    (one_more g (goal.at.returns-then-not-say_frame-clause-says g c).After-say_frame)

pub returns-then-not-say_frame-clause-progress : goal.returns-then-not-say_frame-clause-progress
returns-then-not-say_frame-clause-progress g c =
    let settings = c.args.config.now in
    let full = c.say_frame.ensures.over c.if-not-say_frame.true in
    let front = one_more g (goal.at.returns-then-not-say_frame-clause-progress g c).After-say_frame in
    sym (front.stands ∙ ap (λ p. progress_after settings p c.next.new.self) full ∙ progress_full settings c.frames.progress
    c.next.new.self ∙ sym full)

pub frames-preserved-then-ne : goal.frames-preserved-then-ne
frames-preserved-then-ne g c =
    more_said g.S.TextSink.says g.met.S.TextSink.nothing g.met.S.TextSink.onward c.args.config.now c.args.progress.now
    c.say_frame.new.progress c.say_frame.new.progress
    c.say_full_frames-rest.new.progress c.args.out.now c.say_frame.new.out c.say_full_frames-rest.new.out c.args.frames
    c.next.new.self c.next.new.self
    c.say_full_frames-rest.result (one_more g (goal.at.frames-preserved-then-ne g c).After-say_frame) refl refl c.say_full_frames-rest.ensures.says

pub frames-preserved : goal.frames-preserved
frames-preserved g c = one_more g (goal.at.frames-preserved g c).After-say_frame

pub returns-clause-says : goal.returns-clause-says
returns-clause-says g c =
    let settings = c.args.config.now in
    all_lines_said g.S.TextSink.says g.met.S.TextSink.nothing g.met.S.TextSink.onward settings c.args.progress.now
    c.frames.progress c.args.out.now c.frames.out c.args.frames
    c.frames.rest (ap (text_from settings c.frames.progress) c.in_default.ensures.steps.0 ∙ text_none settings c.frames.progress) c.frames.invariant

pub returns-clause-progress : goal.returns-clause-progress
returns-clause-progress g c =
    let settings = c.args.config.now in
    sym (c.frames.invariant.stands ∙ ap (progress_after settings c.frames.progress) c.in_default.ensures.steps.0
    ∙ progress_none settings c.frames.progress)
