-- What a log certifies, whatever the rules.
use Rattle.std.proofs.Common.{ℕ, List, Ok, Err, Result, subst}
use Rattle.std.specs.Result.{IfOk}
use Rattle.isotp_receive.specs.FramesOf.{AreGivenTheirFrames, EachBelongsOnce}
use Rattle.isotp_receive.specs.Recording.{IsRecording}
use Rattle.isotp_receive.specs.Trace.{Entry}
use Rattle.isotp_receive.specs.Verdict.{messages}
use Rattle.trace_log.specs.Laws.{Certifies, CertificateKnowsNoRules, IsCertified}
use Rattle.trace_log.specs.Settings.{Settings, without_rules}
use Rattle.trace_log.specs.Trace.{trace}
use Rattle.trace_log.specs.declared.fault.Fault.{Fault}
use Rattle.trace_log.specs.declared.summary.Summary.{Summary}
use Rattle.trace_log.proofs.Traces.{same_trace_from}

-- A trace is a recording of what it delivers.
record IsOwnRecording (limit : ℕ) (T : List Entry) : Type 0 where
  recording : IsRecording limit T (messages limit T)
  own_frames : AreGivenTheirFrames limit T recording.transfers
  once : EachBelongsOnce T recording.transfers

certified : (limit : ℕ) (settings : Settings) (log : List ℕ) → IsCertified limit (without_rules settings) log → IsCertified limit settings log
certified limit settings log is =
    let own : IsOwnRecording limit (trace (without_rules settings) is.meanings) = record { recording = is.recording; own_frames = is.own_frames; once = is.once } in
    let same = subst (IsOwnRecording limit) (same_trace_from settings 1 is.meanings) own in
    record { meanings = is.meanings; means = is.means; recording = same.recording; own_frames = same.own_frames; once = same.once }

pub certificate_knows_no_rules : CertificateKnowsNoRules
certificate_knows_no_rules limit settings log summary is none_dropped no_end none_open = certified limit settings log (is none_dropped no_end none_open)

-- so it is of what a run answers
pub certifies_without_rules : (limit : ℕ) (settings : Settings) (log : List ℕ) (result : Result Summary Fault)
    → IfOk result (Certifies limit (without_rules settings) log) → IfOk result (Certifies limit settings log)
certifies_without_rules limit settings log (Ok summary) is = certificate_knows_no_rules limit settings log summary is
certifies_without_rules limit settings log (Err why) is = tt
