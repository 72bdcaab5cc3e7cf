-- A reception took no more consecutive frames than the trace has.
use Rattle.std.proofs.Common.{ℕ, ◌+◌, ◌≤◌, List, [], ◌∷◌, length, Option, Some, None, IfSome, inl, inr, suc, arith, zero-le}
use Rattle.std.proofs.lemmas.Bool.{cases_Bool}
use Rattle.isotp_receive.specs.declared.TheConstants.{MESSAGE_LIMIT}
use Rattle.isotp_receive.specs.declared.channel.Channel.{Channel}
use Rattle.isotp_receive.specs.Places.{consecutive_by, consecutive_frames_in}
use Rattle.isotp_receive.specs.StandingReception.{StandingReception, is_open, or_else, since, stands}
use Rattle.isotp_receive.specs.Trace.{Entry, FrameRole, single, first, consecutive, continue_or_wait, overflow, no_part, role}

-- a reception took this many frames at most
abbrev pub TookAtMost : ℕ → Option StandingReception → Type 0
TookAtMost most standing = IfSome standing (λ (s : StandingReception). s.taken ≤ most)

-- a frame is one consecutive frame at most
one_consecutive : (r : FrameRole) → consecutive_by r ≤ 1
one_consecutive (consecutive sequence_number can_dl bytes) = omega arith
one_consecutive (single whole) = omega arith
one_consecutive (first start) = omega arith
one_consecutive continue_or_wait = omega arith
one_consecutive overflow = omega arith
one_consecutive no_part = omega arith

-- no more of them than there are frames
consecutive_few : (d : Channel) (T : List Entry) → consecutive_frames_in d T ≤ length T
consecutive_few d [] = zero-le
consecutive_few d (e ∷ rest) =
    sum (consecutive_by (role d e)) (consecutive_frames_in d rest) (length rest) (one_consecutive (role d e)) (consecutive_few d rest)
  where
    sum : (one some all : ℕ) → one ≤ 1 → some ≤ all → one + some ≤ suc all
    sum one some all is_one is_some = omega arith

-- of one bound, a larger one is another
weaker : (standing : Option StandingReception) (most : ℕ) → TookAtMost most standing → TookAtMost (suc most) standing
weaker None most few = tt
weaker (Some s) most few = omega arith

-- of two receptions, the one that stands is one of both
either : (a b : Option StandingReception) (most : ℕ) → TookAtMost most a → TookAtMost most b → TookAtMost most (or_else a b)
either (Some s) b most few_a few_b = few_a
either None b most few_a few_b = few_b

-- one that a frame begins takes frames behind it
since_few : (d : Channel) (r : FrameRole) (rest : List Entry) → TookAtMost (length rest) (since MESSAGE_LIMIT d r rest)
since_few d (first start) rest =
    elim (cases_Bool (is_open MESSAGE_LIMIT d start rest)) [ inl e ↦ rw e (consecutive_few d rest) | inr e ↦ rw e tt ]
since_few d (single whole) rest = tt
since_few d (consecutive sequence_number can_dl bytes) rest = tt
since_few d continue_or_wait rest = tt
since_few d overflow rest = tt
since_few d no_part rest = tt

-- a reception took no more frames than there are
pub stands_few : (d : Channel) (T : List Entry) → TookAtMost (length T) (stands MESSAGE_LIMIT d T)
stands_few d [] = tt
stands_few d (e ∷ rest) =
    weaker (or_else (since MESSAGE_LIMIT d (role d e) rest) (stands MESSAGE_LIMIT d rest)) (length rest)
    (either (since MESSAGE_LIMIT d (role d e) rest) (stands MESSAGE_LIMIT d rest) (length rest) (since_few d (role d e) rest) (stands_few d rest))
