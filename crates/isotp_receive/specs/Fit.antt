-- How a consecutive frame fits as the next one of its message (ISO 15765-2, sections 9.6.4 and 9.8).
use Rattle.std.specs.Prelude.{◌≡◌, ◌≢◌, ◌<◌, ℕ, ◌%◌}
use Rattle.isotp_receive.specs.Places.{FitsAs}

-- the first of these that holds of it
pub data Fit : Type 0 where
  -- it comes more than N_Cr after its reference frame
  late : Fit
  -- it has another sequence number than the next one
  wrong_number : Fit
  -- it has another length than the next one
  wrong_length : Fit
  -- it is the next one, and more are to come
  one_more : Fit
  -- it is the last one
  last : Fit

-- A consecutive frame of this sequence number and CAN_DL fits so where number `number` of `count` is the next one, after a
-- first frame of `in_first` bytes; `OnTime` says that it is on time.
abbrev pub FitsSo : (in_first rx_dl len count number sequence_number can_dl : ℕ) → Type 0 → Fit → Type 0
FitsSo in_first rx_dl len count number sequence_number can_dl OnTime late = ¬ OnTime
FitsSo in_first rx_dl len count number sequence_number can_dl OnTime wrong_number = OnTime × (sequence_number ≢ number % 16)
FitsSo in_first rx_dl len count number sequence_number can_dl OnTime wrong_length =
    OnTime × (sequence_number ≡ number % 16) × (¬ FitsAs in_first rx_dl len count number sequence_number can_dl)
FitsSo in_first rx_dl len count number sequence_number can_dl OnTime one_more =
    OnTime × FitsAs in_first rx_dl len count number sequence_number can_dl × (number < count)
FitsSo in_first rx_dl len count number sequence_number can_dl OnTime last =
    OnTime × FitsAs in_first rx_dl len count number sequence_number can_dl × (number ≡ count)
