-- What is certified of a log by the counts that an engine answered.
use Rattle.std.proofs.Common.{◌≡◌, ℕ, ◌≤◌, List, Option, Result, Ok, Err, true, false, true≢false, refl, ap, sym, subst, ◌∙◌, Bool, arith}
use Rattle.std.specs.Prelude.{IfOk, ◌&&◌, not}
use Rattle.can_log.specs.Log.{LogMeans}
use Rattle.can_log.specs.declared.frame.Stamped.{Stamped}
use Rattle.isotp_receive.specs.declared.TheConstants.{MESSAGE_LIMIT}
use Rattle.trace_canon.specs.Sessions.{GivesSession}
use Rattle.trace_log.specs.Laws.{Certifies, IsCertified}
use Rattle.trace_log.specs.Outcome.{Accepted, IsOutcome}
use Rattle.trace_log.specs.Settings.{Settings, without_rules}
use Rattle.trace_log.specs.Summing.{is_clean, summary_of}
use Rattle.trace_canon.specs.declared.collector.Session.{Session}
use Rattle.trace_log.specs.declared.fault.CompareFault.{CompareFault}
use Rattle.trace_log.specs.declared.fault.Fault.{Fault}
use Rattle.trace_run.specs.declared.machine.NoAnswer.{NoAnswer}
use Rattle.trace_log.specs.declared.summary.Summary.{Summary}
use Rattle.trace_log.proofs.Promises.{certificate_knows_no_rules, clean_log_is_recording, clean_summary_is_certificate, summary_certifies}
use Rattle.trace_run.specs.Script.{GlimpseValue, Needing, RefusalText, Script, answers_counts, command, needs_none, says_no_refusal}
use Rattle.trace_run.specs.Stopping.{IsReadToEnd}
use Rattle.trace_run.specs.AnswersAndWrites.{AnswersAndWrites}
use Rattle.trace_report.specs.Kept as Keeps
use Rattle.trace_report.specs.Session.{SessionValue}
use Rattle.udsnorm.specs.Engines.{Engine, normalises, writes, finds, explains, runs, runs_in_style, EngineAnswers, PairEngineAnswers, answers_of, engine_of}
use Rattle.udsnorm.specs.Ending.{status_of_run_of_two}
use Rattle.command_line.specs.declared.commands.Job.{Job}
use Rattle.udsnorm.specs.declared.pair_jobs.PairAnswer.{PairAnswer}
use Rattle.command_line.specs.declared.commands.PairJob.{PairJob}
use Rattle.command_line.specs.declared.commands.PairJob.TheVariants as pair_job
use Rattle.udsnorm.proofs.Pairs.{accepted_pair}

-- the counts of a log whose lines mean this
of_lines : (settings : Settings) (log : List ℕ) (meanings : List (Option Stamped)) → LogMeans log meanings → Certifies MESSAGE_LIMIT settings log (summary_of MESSAGE_LIMIT settings log meanings)
of_lines settings log meanings means none_dropped no_end none_open =
    let certificate = clean_summary_is_certificate MESSAGE_LIMIT settings log meanings (omega arith) none_dropped no_end none_open in
    record { meanings = meanings; means = means; recording = certificate.0; own_frames = certificate.1; once = certificate.2 }

-- those of a log that is accepted
pub of_accepted : (settings : Settings) (log : List ℕ) (accepted : Accepted) (summary : Summary) → IsOutcome MESSAGE_LIMIT settings log (Ok accepted) → accepted.summary ≡ summary
    → Certifies MESSAGE_LIMIT settings log summary
of_accepted settings log accepted summary outcome counted =
    subst (Certifies MESSAGE_LIMIT settings log) counted (summary_certifies MESSAGE_LIMIT settings log accepted (omega arith) outcome)

-- where a summary certifies so, a clean log is a recording
of_clean : (settings : Settings) (log : List ℕ) (summary : Summary) → Certifies MESSAGE_LIMIT settings log summary → is_clean summary ≡ true → IsCertified MESSAGE_LIMIT settings log
of_clean settings log summary = clean_log_is_recording MESSAGE_LIMIT settings log summary

-- those of a log whose lines were told
of_told : (settings : Settings) (log : List ℕ) (meanings : List (Option Stamped)) (summary : Summary) → LogMeans log meanings
    → ◌≡◌ {A = Result Summary NoAnswer} (Ok summary) (Ok (summary_of MESSAGE_LIMIT settings log meanings)) → is_clean summary ≡ true → IsCertified MESSAGE_LIMIT settings log
of_told settings log meanings summary means counted =
    let same : summary_of MESSAGE_LIMIT settings log meanings ≡ summary = cc counted in
    of_clean settings log summary (subst (Certifies MESSAGE_LIMIT settings log) same (of_lines settings log meanings means))

-- the lines of a log that can be read to its end mean this
of_read : (strict : Bool) (settings : Settings) (log : List ℕ) (meanings : List (Option Stamped)) → IsReadToEnd strict MESSAGE_LIMIT settings log meanings → LogMeans log meanings
of_read true settings log meanings read = read.means
of_read false settings log meanings read = read.1

-- those of a log over which a machine ran, whatever it said
of_script : (script : Script) (refusal : RefusalText) (needs : Needing) (settings : Settings) (log : List ℕ) (given : ℕ) (summary : Summary) (old new : List ℕ)
    → AnswersAndWrites (command script refusal answers_counts needs) MESSAGE_LIMIT settings log given (Ok summary) old new → is_clean summary ≡ true → IsCertified MESSAGE_LIMIT settings log
of_script script refusal needs settings log given summary old new (all, meanings, read, counted, wrote) =
    of_told settings log meanings summary (of_read script.strict settings log meanings read) counted

-- those of a log that was explained, which is without rules
of_explained : (settings : Settings) (log : List ℕ) (meanings : List (Option Stamped)) (summary : Summary) → LogMeans log meanings
    → ◌≡◌ {A = Result Summary NoAnswer} (Ok summary) (Ok (summary_of MESSAGE_LIMIT (without_rules settings) log meanings)) → is_clean summary ≡ true
    → IsCertified MESSAGE_LIMIT settings log
of_explained settings log meanings summary means counted =
    let plain = without_rules settings in
    let same : summary_of MESSAGE_LIMIT plain log meanings ≡ summary = cc counted in
    of_clean settings log summary
    (certificate_knows_no_rules MESSAGE_LIMIT settings log summary (subst (Certifies MESSAGE_LIMIT plain log) same (of_lines plain log meanings means)))

-- `find` counts no frames of either side, so no log is clean by its counts
of_engine : (engine : Engine) (settings : Settings) (log : List ℕ) (given : ℕ) (summary : Summary) (old new : List ℕ) → answers_of engine MESSAGE_LIMIT settings log given (Ok summary) old new
    → is_clean summary ≡ true → IsCertified MESSAGE_LIMIT settings log
of_engine normalises settings log given summary old new (accepted, outcome, counted, wrote) = of_clean settings log summary (of_accepted settings log accepted summary outcome counted)
of_engine (writes text) settings log given summary old new (items, is, wrote) = of_clean settings log summary (of_accepted settings log is.accepted summary is.outcome is.counted)
of_engine (finds style) settings log given summary old new (pairs, (meanings, read, found), wrote) = λ clean. absurd (true≢false (sym clean ∙ ap is_clean found.1))
of_engine (explains notation) settings log given summary old new (all, meanings, read, counted, wrote) = of_explained settings log meanings summary read.1 counted
of_engine (runs script needs) settings log given summary old new told =
    of_script (script MESSAGE_LIMIT settings.rules) says_no_refusal (needs MESSAGE_LIMIT settings.rules) settings log given summary old new told
of_engine (runs_in_style script refusal) settings log given summary old new (style, told) = of_script (script style settings MESSAGE_LIMIT) (refusal style settings MESSAGE_LIMIT) needs_none settings log given summary old new told

-- whatever the job
pub answer_certifies : (job : Job) (name : List ℕ) (seen : GlimpseValue) (settings : Settings) (log : List ℕ) (given : ℕ) (answer : Result Summary Fault) (old new : List ℕ)
    → EngineAnswers job name seen MESSAGE_LIMIT settings log given answer old new → IfOk answer (λ summary. is_clean summary ≡ true → IsCertified MESSAGE_LIMIT settings log)
answer_certifies job name seen settings log given (Ok summary) old new engine = of_engine (engine_of job name seen) settings log given summary old new engine
answer_certifies job name seen settings log given (Err fault) old new engine = tt

-- both logs of a comparison are clean where they have to be
are_clean : (strict one other : Bool) → strict ≡ true → (strict && not (one && other)) ≡ false → (one ≡ true) × (other ≡ true)
are_clean true true true is none = (refl, refl)
are_clean true true false is none = absurd (true≢false none)
are_clean true false other is none = absurd (true≢false none)
are_clean false one other is none = absurd (true≢false (sym is))

-- a log is clean
pub is_certified : (settings : Settings) (log : List ℕ) (session : Session) → GivesSession MESSAGE_LIMIT settings log (Ok session) → is_clean session.summary ≡ true → IsCertified MESSAGE_LIMIT settings log
is_certified settings log session gives clean =
    clean_log_is_recording MESSAGE_LIMIT settings log session.summary (of_accepted settings log gives.accepted.accepted session.summary gives.accepted.outcome gives.accepted.counted) clean

-- a log that is kept is clean
of_held : (settings : Settings) (log : List ℕ) (session : SessionValue) → Keeps.KeepsOne MESSAGE_LIMIT settings log (Ok session) → is_clean session.summary ≡ true → IsCertified MESSAGE_LIMIT settings log
of_held settings log session (meanings, read, is) = of_told settings log meanings session.summary read.1 (ap (λ (s : SessionValue). Ok s.summary) is)

-- what is certified of two logs by the answer of a job over them
of_pair : (job : PairJob) (left_name right_name : List ℕ) (left_seen right_seen : GlimpseValue) (strict : Bool) (settings : Settings) (one other : List ℕ) (pair : PairAnswer) (text : List ℕ)
    → PairEngineAnswers job left_name right_name left_seen right_seen strict MESSAGE_LIMIT settings one other (Ok pair) text → is_clean pair.left ≡ true → is_clean pair.right ≡ true
    → IsCertified MESSAGE_LIMIT settings one × IsCertified MESSAGE_LIMIT settings other
of_pair (pair_job.Compare style) left_name right_name left_seen right_seen strict settings one other pair text (compared, compares, is, wrote) left_clean right_clean = (
  is_certified settings one compared.left compares.0 (sym (ap (λ (p : PairAnswer). is_clean p.left) is) ∙ left_clean),
  is_certified settings other compared.right compares.1 (sym (ap (λ (p : PairAnswer). is_clean p.right) is) ∙ right_clean),
)
of_pair (pair_job.Diff notation) left_name right_name left_seen right_seen strict settings one other pair text (compared, compares, is, wrote) left_clean right_clean = (
  is_certified settings one compared.left compares.0 (sym (ap (λ (p : PairAnswer). is_clean p.left) is) ∙ left_clean),
  is_certified settings other compared.right compares.1 (sym (ap (λ (p : PairAnswer). is_clean p.right) is) ∙ right_clean),
)
of_pair pair_job.Report left_name right_name left_seen right_seen strict settings one other pair text (style, held, (left, right), is, wrote) left_clean right_clean = (
  of_held settings one held.left left (sym (ap (λ (p : PairAnswer). is_clean p.left) is) ∙ left_clean),
  of_held settings other held.right right (sym (ap (λ (p : PairAnswer). is_clean p.right) is) ∙ right_clean),
)

-- so where a strict run over two logs has an answer, each log is a recording
pub both_certified : (job : PairJob) (left_name right_name : List ℕ) (left_seen right_seen : GlimpseValue) (strict wrote : Bool) (settings : Settings) (one other : List ℕ) (answer : Result PairAnswer CompareFault) (text : List ℕ) (status : ℕ)
    → PairEngineAnswers job left_name right_name left_seen right_seen strict MESSAGE_LIMIT settings one other answer text → status ≡ status_of_run_of_two wrote strict answer → strict ≡ true → status ≤ 1
    → IsCertified MESSAGE_LIMIT settings one × IsCertified MESSAGE_LIMIT settings other
both_certified job left_name right_name left_seen right_seen strict wrote settings one other answer text status engine is so low =
    let done = accepted_pair strict wrote answer status is low in
    let clean = are_clean strict (is_clean done.0.left) (is_clean done.0.right) so done.3 in
    of_pair job left_name right_name left_seen right_seen strict settings one other done.0 text (subst (λ a. PairEngineAnswers job left_name right_name left_seen right_seen strict MESSAGE_LIMIT settings one other a text) done.2 engine) clean.0 clean.1
