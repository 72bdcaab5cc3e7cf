-- The reception of a channel that stands after a list of frames: a function that looks back over the whole list. It is
-- the short spelling, for contracts and proofs, of `IsOpenAt` and `IsStandingAt`; public laws join them both ways. It stays
-- beside them since a caller in a loop needs an equation, and a relation gives none.
use Rattle.std.specs.Prelude.{ℕ, ◌+◌, ◌-◌, ◌%◌, Bool, true, false, ◌&&◌, List, [], ◌∷◌, ◌++◌, length, not, nat_lt, nat_le, ◌==◌, if◌then◌else◌, Option, Some, None}
use Rattle.isotp_receive.specs.declared.channel.Channel.{Channel}
use Rattle.isotp_receive.specs.declared.channel.Channel.TheVariants.{Tester, Unit}
use Rattle.direction.specs.declared.Dir.{Dir}
use Rattle.direction.specs.declared.Dir.TheVariants as dir
use Rattle.isotp_receive.specs.Trace.{Entry, FirstFrame, FrameRole, single, first, consecutive, continue_or_wait, overflow, no_part, role}
use Rattle.isotp_receive.specs.Places.{bytes_before, consecutive_frames_in}
use Rattle.isotp_receive.specs.OnTime.{n_cr}
use Rattle.isotp_receive.specs.Fit.{Fit, late, wrong_number, wrong_length, one_more, last}

-- the bytes that a frame of this role carries, if it is a consecutive one
abbrev pub carried_by : FrameRole → List ℕ
carried_by (consecutive sequence_number can_dl bytes) = bytes
carried_by (single message) = []
carried_by (first start) = []
carried_by continue_or_wait = []
carried_by overflow = []
carried_by no_part = []

-- and all in the list, end to end
abbrev pub carried : Channel → List Entry → List ℕ
carried d [] = []
carried d (e ∷ rest) = carried_by (role d e) ++ carried d rest

-- the time that N_Cr runs from after a frame of this role and time, where it ran from `earlier` before
abbrev pub referred : FrameRole → ℕ → ℕ → ℕ
referred (consecutive sequence_number can_dl bytes) micros earlier = micros
referred continue_or_wait micros earlier = micros
referred (single message) micros earlier = earlier
referred (first start) micros earlier = earlier
referred overflow micros earlier = earlier
referred no_part micros earlier = earlier

-- and after all in the list: the time of the last of them that is consecutive, continue or wait, if there is one
abbrev pub reference : Channel → ℕ → List Entry → ℕ
reference d earlier [] = earlier
reference d earlier (e ∷ rest) = reference d (referred (role d e) e.micros earlier) rest

-- what is known of a reception: line, length and CAN_DL of its first frame, how many consecutive frames it took, the
-- bytes that have come, and the time that N_Cr runs from
pub record StandingReception : Type 0 where
  pub line : ℕ
  pub len : ℕ
  pub rx_dl : ℕ
  pub taken : ℕ
  pub bytes : List ℕ
  pub reference : ℕ

-- of the one that began with `start`, after these frames
abbrev pub standing_of : Channel → FirstFrame → List Entry → StandingReception
standing_of d start frames = record {
  line = start.line;
  len = start.len;
  rx_dl = start.rx_dl;
  taken = consecutive_frames_in d frames;
  bytes = start.bytes ++ carried d frames;
  reference = reference d start.micros frames;
}

-- how many bytes of the message a first frame and `number` consecutive frames of full length carry
abbrev pub carried_after : FirstFrame → ℕ → ℕ
carried_after start number = bytes_before (length start.bytes) start.rx_dl number

-- A consecutive frame of this length fits where `have` bytes of `len` are there. One that is not the last is
-- as long as the first frame. The last has what is missing, and is no longer than the first frame.
abbrev pub fits_length : ℕ → ℕ → ℕ → ℕ → Bool
fits_length len rx_dl have can_dl =
    nat_lt have len
    && (if nat_lt (have + (rx_dl - 1)) len then can_dl == rx_dl else nat_le (1 + (len - have)) can_dl && nat_le can_dl rx_dl)

-- a consecutive frame of this time is on time
abbrev pub is_on_time : StandingReception → ℕ → Bool
is_on_time standing micros = nat_le micros (standing.reference + n_cr)

-- the sequence number of the next consecutive frame
abbrev pub expected : StandingReception → ℕ
expected standing = (standing.taken + 1) % 16

-- a consecutive frame of this CAN_DL is as long as the next one has to be
abbrev pub has_length : StandingReception → ℕ → Bool
has_length standing can_dl = fits_length standing.len standing.rx_dl (length standing.bytes) can_dl

-- it stays incomplete with the next consecutive frame, which isn't the last
abbrev pub stays_incomplete : StandingReception → Bool
stays_incomplete standing = nat_lt (length standing.bytes + (standing.rx_dl - 1)) standing.len

-- how a consecutive frame of this time, sequence number and CAN_DL fits
abbrev pub fit_of : StandingReception → ℕ → ℕ → ℕ → Fit
fit_of standing micros sequence_number can_dl =
    if not (is_on_time standing micros) then late
    else if not (sequence_number == expected standing) then wrong_number
    else if not (has_length standing can_dl) then wrong_length
    else if stays_incomplete standing then one_more
    else last

-- it is the next one
abbrev pub is_next : Fit → Bool
is_next late = false
is_next wrong_number = false
is_next wrong_length = false
is_next one_more = true
is_next last = true

-- The frame leaves a reception open that began with `start`, where `past` stands between the two.
abbrev pub keeps_by : Channel → FirstFrame → List Entry → ℕ → FrameRole → Bool
keeps_by d start past micros (consecutive sequence_number can_dl bytes) =
    is_next (fit_of (standing_of d start past) micros sequence_number can_dl)
keeps_by d start past micros overflow = nat_lt 0 (consecutive_frames_in d past)
keeps_by d start past micros (single message) = false
keeps_by d start past micros (first other) = false
keeps_by d start past micros continue_or_wait = true
keeps_by d start past micros no_part = true

-- each of the frames does, where `past` stands before them
abbrev pub keep : Channel → FirstFrame → List Entry → List Entry → Bool
keep d start past [] = true
keep d start past (e ∷ rest) = keeps_by d start past e.micros (role d e) && keep d start (past ++ e ∷ []) rest

-- a reception that began with `start` is open after these frames, and not complete
abbrev pub is_open : ℕ → Channel → FirstFrame → List Entry → Bool
is_open limit d start frames =
    nat_le start.len limit && (nat_lt (carried_after start (consecutive_frames_in d frames)) start.len && keep d start [] frames)

-- the one that began with a frame of this role, and is open after these frames
abbrev pub since : ℕ → Channel → FrameRole → List Entry → Option StandingReception
since limit d (first start) frames = if is_open limit d start frames then Some (standing_of d start frames) else None
since limit d (single message) frames = None
since limit d (consecutive sequence_number can_dl bytes) frames = None
since limit d continue_or_wait frames = None
since limit d overflow frames = None
since limit d no_part frames = None

-- the first of two that is there
abbrev pub or_else : Option StandingReception → Option StandingReception → Option StandingReception
or_else (Some standing) other = Some standing
or_else None other = other

-- the reception of the channel that stands after the frames
abbrev pub stands : ℕ → Channel → List Entry → Option StandingReception
stands limit d [] = None
stands limit d (e ∷ rest) = or_else (since limit d (role d e) rest) (stands limit d rest)

-- the receptions of the two directions
pub record Receptions : Type 0 where
  pub tester : Option StandingReception
  pub unit : Option StandingReception

-- what stands after a trace
abbrev pub receptions_after : ℕ → List Entry → Receptions
receptions_after limit T = record { tester = stands limit Tester T; unit = stands limit Unit T }

-- the one of a direction
abbrev pub of_direction : Receptions → Dir → Option StandingReception
of_direction receptions dir.Tester = receptions.tester
of_direction receptions dir.Unit = receptions.unit
