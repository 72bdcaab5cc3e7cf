-- A recording gives each message its frames, and each frame to one message; so does a clean trace.
use Rattle.isotp_receive.specs.Verdict.{messages}
use Rattle.isotp_receive.specs.RecordingLaws.{RecordingDeliversByFrames, CleanTraceIsARecording}
use Rattle.isotp_receive.proofs.FramesOf.{gives-frames, gives-once}
use Rattle.isotp_receive.proofs.CleanTraces.{clean-records}

pub by-frames : RecordingDeliversByFrames
by-frames limit T M r = (gives-frames limit T M r, gives-once limit T M r)

pub certificate : CleanTraceIsARecording
certificate limit T wide clean =
    let r = clean-records limit T wide clean in
    (r, gives-frames limit T (messages limit T) r, gives-once limit T (messages limit T) r)
