-- Devices of proof: what is said of a log by its canonical lines.
use Rattle.std.specs.Prelude.{◌≡◌, Ok, Err, if◌then◌else◌, ℕ, true, List, [], ◌∷◌, ◌++◌, length, drop}
use Rattle.direction.specs.Dir.{Message}
use Rattle.isotp_receive.specs.declared.TheConstants.{MESSAGE_LIMIT}
use Rattle.isotp_receive.specs.Trace.{Entry}
use Rattle.trace_log.specs.Messages.{messages_under}
use Rattle.uds_rules.specs.Rule.{RuleValue}
use Rattle.isotp_segment.specs.Timed.{all_frames}
use Rattle.uds_exchange.specs.Order.{early, held}
use Rattle.uds_exchange.specs.Orderer.{JudgedOrdererValue, judged_orderer_after}
use Rattle.trace_log.specs.Settings.{Settings}
use Rattle.trace_run.specs.Script.{Script, Answering}
use Rattle.trace_run.specs.declared.machine.NoAnswer.TheVariants as no_answer
use Rattle.trace_log.specs.declared.summary.Summary.{Summary}
use Rattle.uds_exchange.specs.Meaning.{meaning}
use Rattle.trace_canon.specs.proving.Measuring.{fits_within}
use Rattle.trace_canon.specs.proving.Writing.{ProgressValue, start_of, text_from, progress_after}

-- where the canonical log stands after these messages
abbrev pub progress_behind : Settings → List Message → ProgressValue
progress_behind settings put = progress_after settings (start_of settings.max_bytes) (all_frames MESSAGE_LIMIT put)

-- the lines of the messages that are early now, after these messages, and were not before
abbrev pub lines_due : Settings → List Message → List Message → List ℕ
lines_due settings before now =
    text_from settings (progress_behind settings (early before))
    (all_frames MESSAGE_LIMIT (drop (length (early before)) (early now)))

-- the lines of those of these messages that are held
abbrev pub lines_held : Settings → List Message → List ℕ
lines_held settings M = text_from settings (progress_behind settings (early M)) (all_frames MESSAGE_LIMIT (held M))

-- of each frame the lines of the messages that are due with it, and at the end those of the messages that are held
abbrev pub canonical_script : List RuleValue → Settings → Script
canonical_script rules settings = record {
  strict = true;
  of_frame = λ T e.
      lines_due settings (messages_under rules MESSAGE_LIMIT T) (messages_under rules MESSAGE_LIMIT (T ++ e ∷ []));
  at_the_end = λ T summary. lines_held settings (messages_under rules MESSAGE_LIMIT T);
}

-- The orderer stands after the messages of the trace under rules, and the text after those that are early.
pub record StandsCanonical (rules : List RuleValue) (settings : Settings) (T : List Entry) (orderer : JudgedOrdererValue)
    (config : Settings) (progress : ProgressValue) : Type 0 where
  pub ordered : orderer ≡ judged_orderer_after (messages_under rules MESSAGE_LIMIT T)
  pub same : config ≡ settings
  pub at : progress ≡ progress_behind settings (early (messages_under rules MESSAGE_LIMIT T))

-- the counts are answered where the canonical log is within the limit, and else that it is longer
abbrev pub answers_canonical : List RuleValue → Settings → Answering Summary
answers_canonical rules settings T summary result =
    result
    ≡ (if fits_within settings (meaning (messages_under rules MESSAGE_LIMIT T)) then Ok summary
    else Err no_answer.OutputLimit)
