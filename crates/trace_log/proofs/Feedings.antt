-- A log that is read where what is due is written before each read.
use Rattle.std.proofs.Common.{◌≡◌, ℕ, ◌+◌, ◌^◌, ◌≤◌, Bool, List, ◌++◌, length, take, drop, arith, ap, sym, ◌∙◌, inl, inr, Option, append_assoc, length-append, Result, Ok, Err}
use Rattle.std.proofs.lemmas.List.{take-append-drop}
use Rattle.can_log.specs.Scanning.{Standing}
use Rattle.can_log.specs.WholeLog.{StandsAfter}
use Rattle.can_log.specs.declared.frame.Stamped.{Stamped}
use Rattle.trace_log.specs.Answers.{piece_length}
use Rattle.trace_log.specs.Feeding.{StopsLog, FeedsLog, FeedsSome, WroteBefore, Took, Stopped, RefusesIn, StopsIn}
use Rattle.trace_log.specs.proving.Reading.{StopsPiece, ReadsPiece, ReadsEnd}
use Rattle.trace_log.specs.declared.fault.Fault.{Fault}
use Rattle.trace_log.specs.declared.fault.Fault.TheVariants as fault
use Rattle.trace_log.proofs.Streams.{HasTaken, at_count, few_in_log}

module _ {T : Type 0} (took rested broke : Took T) (stopped : Stopped T) (start : T) where
  -- a piece of the log was not read to its end
  pub feeds_piece : (A : Type 0) (why : Fault) (m given : ℕ) (log : List ℕ) (first : List (Option Stamped)) (bytes piece : List ℕ) (stood standing : Standing) (now : T)
      → StandsAfter bytes first stood → bytes ++ piece ≡ take (length (bytes ++ piece)) log → given ≡ length (bytes ++ piece) → given ≤ m → length piece ≤ piece_length
      → ReadsPiece took stopped start {A = A} first bytes piece (Err why) standing now → FeedsLog took rested broke stopped start m log given (Err why) now
  feeds_piece A why m given log first bytes piece stood standing now stands front count within small = by why
    where
      stops : (why : Fault) → StopsPiece took stopped start first (bytes ++ piece) why now → StopsLog stopped start m log given why now
      stops why (meanings, what, found, halted) =
          let sum = length-append bytes piece in
          let k = length (bytes ++ piece) in (
            meanings,
            what,
            halted,
            inl (
              within,
              record {
                first = first;
                before = bytes;
                behind = piece ++ drop k log;
                stood = stood;
                starts = sym (take-append-drop k log) ∙ ap (λ x. x ++ drop k log) (sym front) ∙ append_assoc bytes piece (drop k log);
                stands_before = stands;
                near = omega arith;
                stops = at_count (λ b. StopsIn first b meanings what) (bytes ++ piece) log given front count found;
              },
            ),
          )

      by : (why : Fault) → ReadsPiece took stopped start {A = A} first bytes piece (Err why) standing now → FeedsLog took rested broke stopped start m log given (Err why) now
      by (fault.BadLine line column) (meanings, place, taken) =
          (meanings, taken, inl (within, at_count (λ b. RefusesIn b meanings line column) (bytes ++ piece) log given front count place))
      by (fault.Oversize line announced) reads = stops (fault.Oversize line announced) reads
      by fault.Memory reads = stops fault.Memory reads
      by fault.LogLimit reads = absurd reads
      by fault.OutputLimit reads = absurd reads
      by fault.Read reads = absurd reads
      by fault.Write reads = absurd reads

  pub feeds_some_in_piece : (A : Type 0) (why : Fault) (first : List (Option Stamped)) (bytes piece : List ℕ) (standing : Standing) (now : T)
      → ReadsPiece took stopped start {A = A} first bytes piece (Err why) standing now → FeedsSome took rested broke stopped start {A = Bool} (Err why) now
  feeds_some_in_piece A (fault.BadLine line column) first bytes piece standing now (meanings, place, taken) = (meanings, taken)
  feeds_some_in_piece A (fault.Oversize line announced) first bytes piece standing now (meanings, what, stops, halted) = (meanings, what, halted)
  feeds_some_in_piece A fault.Memory first bytes piece standing now (meanings, what, stops, halted) = (meanings, what, halted)
  feeds_some_in_piece A fault.LogLimit first bytes piece standing now reads = absurd reads
  feeds_some_in_piece A fault.OutputLimit first bytes piece standing now reads = absurd reads
  feeds_some_in_piece A fault.Read first bytes piece standing now reads = absurd reads
  feeds_some_in_piece A fault.Write first bytes piece standing now reads = absurd reads

  -- the log was read to its end
  pub feeds_to_end : (result : Result Bool Fault) (m given : ℕ) (log : List ℕ) (now : T) → length log ≤ m → given ≡ length log
      → ReadsEnd took stopped start log result now → FeedsLog took rested broke stopped start m log given result now
  feeds_to_end (Ok feed) m given log now short all (meanings, means, ended, taken, feed_is) = (meanings, short, all, means, ended, taken, feed_is)
  feeds_to_end (Err (fault.BadLine line column)) m given log now short all (meanings, place, taken) = (meanings, taken, inr (short, all, place))
  feeds_to_end (Err (fault.Oversize line announced)) m given log now short all (meanings, what, stops, halted) = (meanings, what, halted, inr (short, all, stops))
  feeds_to_end (Err fault.Memory) m given log now short all (meanings, what, stops, halted) = (meanings, what, halted, inr (short, all, stops))
  feeds_to_end (Err fault.LogLimit) m given log now short all ends = absurd ends
  feeds_to_end (Err fault.OutputLimit) m given log now short all ends = absurd ends
  feeds_to_end (Err fault.Read) m given log now short all ends = absurd ends
  feeds_to_end (Err fault.Write) m given log now short all ends = absurd ends

  pub feeds_some_at_end : (result : Result Bool Fault) (log : List ℕ) (now : T) → length log ≤ 2 ^ 61
      → ReadsEnd took stopped start log result now → FeedsSome took rested broke stopped start result now
  feeds_some_at_end (Ok feed) log now short (meanings, means, ended, taken, feed_is) = (let few = few_in_log log meanings means in (meanings, omega arith, taken))
  feeds_some_at_end (Err (fault.BadLine line column)) log now short (meanings, place, taken) = (meanings, taken)
  feeds_some_at_end (Err (fault.Oversize line announced)) log now short (meanings, what, stops, halted) = (meanings, what, halted)
  feeds_some_at_end (Err fault.Memory) log now short (meanings, what, stops, halted) = (meanings, what, halted)
  feeds_some_at_end (Err fault.LogLimit) log now short ends = absurd ends
  feeds_some_at_end (Err fault.OutputLimit) log now short ends = absurd ends
  feeds_some_at_end (Err fault.Read) log now short ends = absurd ends
  feeds_some_at_end (Err fault.Write) log now short ends = absurd ends

-- ---- what was due was written before each read

module _ {T : Type 0} (sure : Took T) (start : T) where
  -- nothing was given since the text of those lines was known to be written
  pub wrote_since : {now mid : T} {bytes log : List ℕ} {given : ℕ} → (before : WroteBefore sure start bytes (length bytes) mid) → (rest : List ℕ) → log ≡ bytes ++ rest → given ≤ length bytes
      → sure start before.meanings now → WroteBefore sure start log given now
  wrote_since {bytes = bytes} before rest parts few written = record {
    front = before.front;
    rest = before.rest ++ rest;
    meanings = before.meanings;
    standing = before.standing;
    parts = parts ∙ ap (λ (x : List ℕ). x ++ rest) before.parts ∙ append_assoc before.front before.rest rest;
    stands = before.stands;
    near = omega (arith, few, before.near);
    written = written;
  }

  -- that of all lines that had ended was written before the last piece
  pub wrote_now : {took : Took T} {now mid : T} {bytes log : List ℕ} {m left given : ℕ} {standing : Standing} → (has : HasTaken took start bytes m left standing mid) → (rest : List ℕ)
      → log ≡ bytes ++ rest → given ≤ length bytes + piece_length → sure start has.meanings now → WroteBefore sure start log given now
  wrote_now {bytes = bytes} {standing = standing} has rest parts few written =
      record { front = bytes; rest = rest; meanings = has.meanings; standing = standing; parts = parts; stands = has.stands; near = few; written = written }
