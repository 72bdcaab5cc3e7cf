-- What is answered with a log's meaning and its counts gives the session.
use Rattle.std.proofs.Common.{ℕ, List, refl, sym, Result, Ok, Err}
use Rattle.std.proofs.lemmas.Bool.{leb-true, leb-false}
use Rattle.isotp_receive.specs.declared.TheConstants.{MESSAGE_LIMIT}
use Rattle.trace_log.specs.declared.fault.Fault.{Fault}
use Rattle.trace_log.specs.declared.fault.Fault.TheVariants.{BadLine, Oversize, LogLimit, OutputLimit, Read, Write, Memory}
use Rattle.trace_log.specs.declared.summary.Summary.{Summary}
use Rattle.trace_canon.specs.Sessions.{GivesMeaning, GivesSession, IsAcceptedWith}
use Rattle.trace_log.specs.CanonicalLog.{canonical_log_of_lines}
use Rattle.trace_canon.specs.proving.SessionScript.{answers_session, silent_script}
use Rattle.trace_canon.specs.FirstFrames.{CompletesMessage}
use Rattle.trace_canon.specs.declared.collector.Session.{Session}
use Rattle.trace_log.specs.Settings.{Settings}
use Rattle.trace_log.specs.Summing.{summary_of}
use Rattle.trace_run.specs.AnswersAndWrites.{AnswersAndWrites}
use Rattle.trace_run.specs.Script.{command, says_no_refusal}
use Rattle.trace_run.proofs.Promises.{SaysNothing}
use Rattle.uds_exchange.specs.Meaning.{ItemValue}

-- a silent script says nothing
pub silent_says_nothing : SaysNothing silent_script
silent_says_nothing = record { of_frame = λ T e. refl; at_the_end = λ T summary. refl }

-- a run of its command, which says nothing of a refusal either, and keeps each message, gives the session, or why there
-- is none
pub session_is_the_same : (settings : Settings) (log : List ℕ) (given : ℕ) (result : Result Session Fault)
    (old new : List ℕ)
    → AnswersAndWrites (command silent_script says_no_refusal (answers_session settings.rules settings) (CompletesMessage MESSAGE_LIMIT))
    MESSAGE_LIMIT settings log given result old new → GivesSession MESSAGE_LIMIT settings log result
session_is_the_same settings log given (Ok session) old new (all, meanings, read, answer, wrote) = record {
  accepted = record {
    accepted = record { text = canonical_log_of_lines MESSAGE_LIMIT settings meanings; summary = summary_of MESSAGE_LIMIT settings log meanings };
    outcome = (meanings, read, record { spelled = refl; fits = leb-true _ _ answer.2; counted = refl });
    means = record { meanings = meanings; means = read.means; found = answer.0 };
    counted = sym answer.1;
  };
  spoken = record { meanings = meanings; means = read.means; found = answer.3 };
}
session_is_the_same settings log given (Err OutputLimit) old new (all, meanings, read, answer, wrote) = (meanings, read, leb-false _ _ answer)
session_is_the_same settings log given (Err (BadLine line column)) old new (why, wrote) = why
session_is_the_same settings log given (Err (Oversize line announced)) old new (why, wrote) = why
session_is_the_same settings log given (Err LogLimit) old new (why, wrote) = why
session_is_the_same settings log given (Err Read) old new wrote = tt
session_is_the_same settings log given (Err Write) old new wrote = tt
session_is_the_same settings log given (Err Memory) old new wrote = tt

-- the meaning of a session that is accepted
pub meaning_given : (settings : Settings) (log : List ℕ) (items : List ItemValue) (summary : Summary)
    → IsAcceptedWith MESSAGE_LIMIT settings log items summary
    → GivesMeaning MESSAGE_LIMIT settings log (Ok items)
meaning_given settings log items summary is = (summary, is)
