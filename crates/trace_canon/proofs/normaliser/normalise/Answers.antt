-- What a run of the script answers is the canonical log of the meaning; the rest follows from that.
use Rattle.std.proofs.Common.{refl, sym, ◌∙◌}
use Rattle.trace_canon.specs.proving.Writing.{start_of}
use Rattle.trace_canon.proofs.CanonicalScripts.{canonical_is_the_same, unwritten_some, canonical_again, recording_again}
use Rattle.trace_canon.proofs.CanonicalScripts.{answer_is_certificate, writes_eagerly_said}
use Rattle.trace_canon.proofs.CanonicalWriting.{progress_none}
use Rattle.trace_canon.proofs.normaliser.normalise.Goals as goal

pub run-requires-clause-machine : goal.run-requires-clause-machine
run-requires-clause-machine g c =
    let settings = c.args.config.now in
    record { ordered = c.new.ensures; same = refl; at = c.start.ensures.progress ∙ sym (progress_none settings (start_of settings.max_bytes)) }

pub returns-clause-answer : goal.returns-clause-answer
returns-clause-answer g c = λ log agrees.
    let all = c.run.ensures.ran in
    canonical_is_the_same c.args.config.now log _ c.run.result _ _ (all.answer log agrees) (all.eager log agrees)

pub returns-clause-eager : goal.returns-clause-eager
returns-clause-eager g c = λ log agrees. writes_eagerly_said c.args.config.now log _ _ _ (c.run.ensures.ran.eager log agrees)

pub returns-clause-again : goal.returns-clause-again
returns-clause-again g c = λ log agrees. canonical_again c.args.config.now log _ c.run.result _ _ c.start.ensures.settings
    (returns-clause-answer g c log agrees)

pub returns-clause-recording : goal.returns-clause-recording
returns-clause-recording g c = λ log agrees. recording_again c.args.config.now log _ c.run.result _ _ (returns-clause-answer g c log agrees)

pub returns-clause-certificate : goal.returns-clause-certificate
returns-clause-certificate g c = λ log agrees. answer_is_certificate c.args.config.now log _ c.run.result _ _ (returns-clause-answer g c log agrees)

pub returns-clause-way : goal.returns-clause-way
returns-clause-way g c =
    let ran = c.run.ensures.ran in
    record { near = ran.near; memory = ran.memory; read = ran.read }

pub returns-clause-some : goal.returns-clause-some
returns-clause-some g c = λ log agrees wrong. unwritten_some c.args.config.now log _ c.run.result _ _ wrong (c.run.ensures.ran.answer log agrees)
