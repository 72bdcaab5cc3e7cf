-- A device of proof: a reception as the code keeps it, its head apart from its bytes.
use Rattle.std.specs.Prelude.{ℕ, ◌<◌, ◌≤◌, List, length, Option, Some, None}
use Rattle.isotp_receive.specs.declared.head.Head.{Head}
use Rattle.isotp_receive.specs.declared.reception.FrameFit.{FrameFit}
use Rattle.isotp_receive.specs.declared.reception.FrameFit.TheVariants as as_fit
use Rattle.isotp_receive.specs.Fit.{Fit, late, wrong_number, wrong_length, one_more, last}
use Rattle.isotp_receive.specs.StandingReception.{StandingReception}

-- what a caller sees of the two
abbrev pub stands_as : Head → List ℕ → StandingReception
stands_as head bytes = record { line = head.line; len = head.len; rx_dl = head.rx_dl; taken = head.taken; bytes = bytes; reference = head.reference }

-- and where there may be no head
abbrev pub standing : Option Head → List ℕ → Option StandingReception
standing None bytes = None
standing (Some head) bytes = Some (stands_as head bytes)

-- how a consecutive frame fits
abbrev pub seen_fit : FrameFit → Fit
seen_fit as_fit.Late = late
seen_fit as_fit.WrongNumber = wrong_number
seen_fit as_fit.WrongLength = wrong_length
seen_fit as_fit.OneMore = one_more
seen_fit as_fit.Last = last

-- what holds of the two between calls
pub record Fitting (limit : ℕ) (head : Head) (bytes : List ℕ) : Type 0 where
  pub more : length bytes < head.len
  pub within : head.len ≤ limit
  pub low : 8 ≤ head.rx_dl
  pub high : head.rx_dl ≤ 64
  pub taken : head.taken ≤ length bytes

-- a buffer that nothing is received into may hold the message that was lent last
abbrev pub IsFitting : ℕ → Option Head → List ℕ → Type 0
IsFitting limit None bytes = length bytes ≤ limit
IsFitting limit (Some head) bytes = Fitting limit head bytes
