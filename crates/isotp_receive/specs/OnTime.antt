-- The time-out of a reception, N_Cr (ISO 15765-2, section 9.8).
use Rattle.std.specs.Prelude.{◌≡◌, ◌<◌, ◌≤◌, ℕ, ◌+◌, List, ⊤, ◌⊎◌}
use Rattle.isotp_receive.specs.declared.channel.Channel.{Channel}
use Rattle.isotp_receive.specs.Trace.{Entry, At, FrameRole, single, first, consecutive, continue_or_wait, overflow, no_part, role}

-- N_Cr in microseconds: a consecutive frame more than this after its reference is late
abbrev pub n_cr : ℕ
n_cr = 1000000

-- a frame that restarts N_Cr: a consecutive frame on d, or a continue or wait frame on another channel
abbrev pub RestartsTimer : FrameRole → Type 0
RestartsTimer (consecutive sequence_number can_dl bytes) = ⊤
RestartsTimer continue_or_wait = ⊤
RestartsTimer (single message) = ⊥
RestartsTimer (first start) = ⊥
RestartsTimer overflow = ⊥
RestartsTimer no_part = ⊥

-- `reference` is the position of the reference frame of the frame at `position`: the greatest before it that is `begun`,
-- or later than `begun` and holds such a frame
pub record IsReference (T : List Entry) (d : Channel) (begun position reference : ℕ) : Type 0 where
  pub from : begun ≤ reference
  pub below : reference < position
  pub restarts : (reference ≡ begun) ⊎ ((entry : Entry) × At T reference entry × RestartsTimer (role d entry))
  pub greatest : (later : ℕ) (entry : Entry) → reference < later → later < position → At T later entry → RestartsTimer (role d entry) → ⊥

-- the consecutive frame at `position` is on time, after a first frame at `begun`
abbrev pub IsOnTime : List Entry → Channel → ℕ → ℕ → Entry → Type 0
IsOnTime T d begun position entry =
    (reference : ℕ) × (last : Entry) × IsReference T d begun position reference × At T reference last × (entry.micros ≤ last.micros + n_cr)
