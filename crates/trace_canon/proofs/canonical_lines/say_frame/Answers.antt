-- A line that has room is the next one; one that has none fills the log up, and so do all later ones.
use Rattle.std.proofs.Common.{arith, ◌≡◌, ◌∷◌, ◌<◌, ◌≤◌, List, ℕ, length, ap, sym, subst, ◌∙◌}
use Rattle.can_log.proofs.Promises.{canonical_line_length}
use Rattle.can_log.specs.Canonical.{canonical_line, canonical_length}
use Rattle.direction.specs.declared.Dir.{Dir}
use Rattle.trace_log.specs.Settings.{id_of}
use Rattle.trace_canon.specs.proving.Saying.{SaysFront}
use Rattle.trace_canon.specs.proving.Writing.{after_line, line_at}
use Rattle.trace_canon.proofs.SaidFrames.{line_said, line_stops}
use Rattle.trace_canon.proofs.canonical_lines.say_frame.Goals as goal

pub returns-then-not-admit-clause-says : goal.returns-then-not-admit-clause-says
returns-then-not-admit-clause-says g c = λ later.
    let settings = c.args.config.now in
    let frame : Dir × List ℕ = (c.args.sender, c.args.frame.now) in
    let long = canonical_line_length c.args.progress.now.lines (id_of settings c.args.sender) c.args.frame.now c.told-frame in
    let asked = c.line_length-length.ensures ∙ ap canonical_length c.id_of-id.ensures.value in
    let none = c.admit.ensures.none c.if-not-admit.true in
    let beyond = none.0 in
    let over : c.args.progress.now.room < length (line_at settings c.args.progress.now.lines frame) = omega arith in
    subst (λ p. SaysFront g.S.TextSink.says settings c.args.progress.now c.args.out.now (frame ∷ later) p c.args.out.now later) (sym none.1)
    (line_stops g.S.TextSink.says g.met.S.TextSink.nothing g.met.S.TextSink.onward settings c.args.progress.now c.args.out.now frame later over)

pub returns-clause-says : goal.returns-clause-says
returns-clause-says g c = λ later.
    let settings = c.args.config.now in
    let frame : Dir × List ℕ = (c.args.sender, c.args.frame.now) in
    let line = line_at settings c.args.progress.now.lines frame in
    let long = canonical_line_length c.args.progress.now.lines (id_of settings c.args.sender) c.args.frame.now c.told-frame in
    let asked = c.line_length-length.ensures ∙ ap canonical_length c.id_of-id.ensures.value in
    let admitted = c.admit.ensures.some c.if-not-admit.false in
    let within = admitted.0 in
    let room : length line ≤ c.args.progress.now.room = omega arith in
    let here : c.clock.result.now ≡ c.args.progress.now.lines = c.clock.ensures ∙ ap (λ p. p.lines) admitted.1 in
    let is : canonical_line c.clock.result.now c.id_of-id.result c.args.frame.now ≡ line =
    (λ i. canonical_line (here i) (c.id_of-id.ensures.value i) c.args.frame.now) in
    let said = subst (λ text. g.S.TextSink.says c.args.out.now text c.say_line.new.out) is c.say_line.ensures in
    let passed : c.after_line.new.self ≡ after_line c.args.progress.now line =
    c.after_line.ensures line (omega arith) ∙ ap (λ p. after_line p line) admitted.1 in
    subst (λ p. SaysFront g.S.TextSink.says settings c.args.progress.now c.args.out.now (frame ∷ later) p c.say_line.new.out later) (sym passed)
    (line_said g.S.TextSink.says g.met.S.TextSink.nothing g.met.S.TextSink.onward settings c.args.progress.now c.args.out.now
    c.say_line.new.out frame later line (λ i. line) room said)
