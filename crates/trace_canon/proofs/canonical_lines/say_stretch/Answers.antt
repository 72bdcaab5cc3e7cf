-- Each full frame is said in three parts that are its canonical line, until another frame comes or none fits.
use Rattle.std.proofs.Common.{arith, ◌≡◌, ◌∷◌, ◌++◌, ℕ, ◌≤◌, List, length, true, false, refl, ap, sym, subst, ◌∙◌}
use Rattle.can_log.proofs.Promises.{canonical_line_length, canonical_line_in_parts, canonical_name_length}
use Rattle.can_log.specs.Canonical.{canonical_stamp}
use Rattle.direction.specs.declared.Dir.{Dir}
use Rattle.isotp_segment.specs.FullFrames.{FullFrameIsNext}
use Rattle.trace_log.specs.Settings.{id_of}
use Rattle.trace_canon.specs.proving.Saying.{SaysFront}
use Rattle.trace_canon.specs.proving.Writing.{after_line, line_at}
use Rattle.trace_canon.proofs.SaidFrames.{none_said, more_said, line_said, line_stops}
use Rattle.trace_canon.proofs.canonical_lines.say_stretch.Goals as goal

pub stretch-init : goal.stretch-init
stretch-init g c = record {
  says =
      none_said g.S.TextSink.says g.met.S.TextSink.nothing g.met.S.TextSink.onward c.args.config.now c.args.progress.now
      c.args.out.now c.args.frames;
  no_more = omega arith;
}

pub returns-then-not-admit-clause-says : goal.returns-then-not-admit-clause-says
returns-then-not-admit-clause-says g c =
    let settings = c.args.config.now in
    let frame : Dir × List ℕ = (c.args.sender, c.in-Some.frame) in
    let long = canonical_line_length c.stretch.progress.lines (id_of settings c.args.sender) c.in-Some.frame (omega arith) in
    let named = canonical_name_length (id_of settings c.args.sender) in
    let name = ap length c.requires.name in
    let none = c.admit.ensures.none c.if-not-admit.true in
    let beyond = none.0 in
    let stops =
    line_stops g.S.TextSink.says g.met.S.TextSink.nothing g.met.S.TextSink.onward settings c.stretch.progress c.stretch.out
    frame c.next_full.new.self (omega arith) in
    more_said g.S.TextSink.says g.met.S.TextSink.nothing g.met.S.TextSink.onward settings c.args.progress.now
    c.stretch.progress c.stretch.progress c.admit.new.self
    c.args.out.now c.stretch.out c.stretch.out c.args.frames c.stretch.rest (frame ∷ c.next_full.new.self)
    c.next_full.new.self c.stretch.invariant.says c.in-Some.ensures.some refl
    (subst (λ p. SaysFront g.S.TextSink.says settings c.stretch.progress c.stretch.out (frame ∷ c.next_full.new.self) p
    c.stretch.out c.next_full.new.self) (sym none.1) stops)

pub returns-then-not-admit-clause-no_more : goal.returns-then-not-admit-clause-no_more
returns-then-not-admit-clause-no_more g c =
    let so_far = c.stretch.invariant.no_more in
    let step = ap length c.in-Some.ensures.some in
    omega arith

pub stretch-preserved : goal.stretch-preserved
stretch-preserved g c =
    let settings = c.args.config.now in
    let frame : Dir × List ℕ = (c.args.sender, c.in-Some.frame) in
    let identifier = id_of settings c.args.sender in
    let line = line_at settings c.stretch.progress.lines frame in
    let admitted = c.admit.ensures.some c.if-not-admit.false in
    let here : c.clock.result.now ≡ c.stretch.progress.lines = c.clock.ensures ∙ ap (λ p. p.lines) admitted.1 in
    let stamped = c.stamp.ensures ∙ ap canonical_stamp here in
    let is : c.stamp.result.now ++ c.args.name ++ c.line_end.result ≡ line =
    (λ i. stamped i ++ c.requires.name i ++ c.line_end.ensures i) ∙ canonical_line_in_parts c.stretch.progress.lines identifier c.in-Some.frame in
    let said = subst (λ text. g.S.TextSink.says c.stretch.out text c.put_three.new.self) is c.put_three.ensures in
    let long = canonical_line_length c.stretch.progress.lines identifier c.in-Some.frame (omega arith) in
    let named = canonical_name_length identifier in
    let name = ap length c.requires.name in
    let room : length line ≤ c.stretch.progress.room = (let within = admitted.0 in omega arith) in
    let one =
    line_said g.S.TextSink.says g.met.S.TextSink.nothing g.met.S.TextSink.onward settings c.stretch.progress c.stretch.out
    c.put_three.new.self frame
    c.next_full.new.self line (λ i. line) room said in
    let passed : c.after_line.new.self ≡ after_line c.stretch.progress line =
    c.after_line.ensures line (omega arith) ∙ ap (λ p. after_line p line) admitted.1 in
    let so_far = c.stretch.invariant.no_more in
    let step = ap length c.in-Some.ensures.some in
    record {
      says =
          more_said g.S.TextSink.says g.met.S.TextSink.nothing g.met.S.TextSink.onward settings c.args.progress.now
          c.stretch.progress c.stretch.progress c.after_line.new.self
          c.args.out.now c.stretch.out c.put_three.new.self c.args.frames c.stretch.rest (frame ∷ c.next_full.new.self)
          c.next_full.new.self c.stretch.invariant.says
          c.in-Some.ensures.some refl
          (subst (λ p. SaysFront g.S.TextSink.says settings c.stretch.progress c.stretch.out (frame ∷ c.next_full.new.self) p
          c.put_three.new.self c.next_full.new.self) (sym passed) one);
      no_more = omega arith;
    }

pub returns-clause-says : goal.returns-clause-says
returns-clause-says g c =
    subst (λ fs. SaysFront g.S.TextSink.says c.args.config.now c.args.progress.now c.args.out.now c.args.frames c.stretch.progress c.stretch.out fs)
    (sym c.in_default.ensures.none) c.stretch.invariant.says

pub returns-clause-no_more : goal.returns-clause-no_more
returns-clause-no_more g c =
    let so_far = c.stretch.invariant.no_more in
    let same = ap length c.in_default.ensures.none in
    omega arith

pub returns-clause-misses_none : goal.returns-clause-misses_none
returns-clause-misses_none g c full =
    let some : false ≡ true = c.in_default.ensures.misses_none (subst (FullFrameIsNext c.args.sender) c.in_default.ensures.none full) in
    absurd cc
