-- A device of proof: the receptions as the code keeps them, one step per frame. Public clauses cite what is here
-- only through the laws that join it to what stands after a trace. It stays since each function of the code takes one step,
-- and what a step does to a whole list is proved once (`proofs/OneMore.antt`), and not by each of them.
use Rattle.std.specs.Prelude.{ℕ, ◌+◌, List, ◌++◌, nat_le, ◌==◌, if◌then◌else◌, Option, Some, None, Result}
use Rattle.direction.specs.Dir.{other_direction}
use Rattle.direction.specs.declared.Dir.{Dir}
use Rattle.direction.specs.declared.Dir.TheVariants.{Tester, Unit}
use Rattle.isotp_pdu.specs.Layout.{Layout}
use Rattle.isotp_receive.specs.declared.event.Reason.{Reason}
use Rattle.isotp_receive.specs.Fit.{Fit, late, wrong_number, wrong_length, one_more, last}
use Rattle.isotp_receive.specs.Trace.{FirstFrame, FrameRole, single, first, consecutive, continue_or_wait, overflow, no_part, own_role, other_role}
use Rattle.isotp_receive.specs.StandingReception.{StandingReception, fit_of, of_direction, Receptions}
use Rattle.isotp_receive.specs.Verdict.{EventValue, on_layout}

-- a reception that stands, after a consecutive frame that fits so
abbrev pub continued_by : Fit → StandingReception → ℕ → List ℕ → Option StandingReception
continued_by one_more standing micros bytes =
    Some (record standing { taken = standing.taken + 1; bytes = standing.bytes ++ bytes; reference = micros })
continued_by last standing micros bytes = None
continued_by late standing micros bytes = None
continued_by wrong_number standing micros bytes = None
continued_by wrong_length standing micros bytes = None

-- a reception that stands, after one more frame
abbrev pub continued : StandingReception → ℕ → FrameRole → Option StandingReception
continued standing micros (consecutive sequence_number can_dl bytes) =
    continued_by (fit_of standing micros sequence_number can_dl) standing micros bytes
continued standing micros continue_or_wait = Some (record standing { reference = micros })
continued standing micros overflow = if standing.taken == 0 then None else Some standing
continued standing micros no_part = Some standing
continued standing micros (single whole) = None
continued standing micros (first start) = None

-- the same where nothing may stand: then nothing stands after it
abbrev pub continue : Option StandingReception → ℕ → FrameRole → Option StandingReception
continue None micros role = None
continue (Some standing) micros role = continued standing micros role

-- a reception that begins
abbrev pub fresh : FirstFrame → StandingReception
fresh start = record {
  line = start.line;
  len = start.len;
  rx_dl = start.rx_dl;
  taken = 0;
  bytes = start.bytes;
  reference = start.micros;
}

-- what stands after one more frame
abbrev pub after : ℕ → Option StandingReception → ℕ → FrameRole → Option StandingReception
after limit standing micros (first start) = if nat_le start.len limit then Some (fresh start) else None
after limit standing micros (single whole) = None
after limit standing micros (consecutive sequence_number can_dl bytes) =
    continue standing micros (consecutive sequence_number can_dl bytes)
after limit standing micros continue_or_wait = continue standing micros continue_or_wait
after limit standing micros overflow = continue standing micros overflow
after limit standing micros no_part = standing

-- both after one more frame of this layout or fault
abbrev pub both_after : ℕ → Receptions → ℕ → ℕ → Dir → Result Layout Reason → Receptions
both_after limit both line micros Tester layout = record {
  tester = after limit both.tester micros (own_role line micros layout);
  unit = after limit both.unit micros (other_role layout);
}
both_after limit both line micros Unit layout = record {
  unit = after limit both.unit micros (own_role line micros layout);
  tester = after limit both.tester micros (other_role layout);
}

-- both where nothing stands for the direction any more
abbrev pub without : Receptions → Dir → Receptions
without both Tester = record both { tester = None }
without both Unit = record both { unit = None }

-- what a frame of the direction with this layout or fault does where both stand so
abbrev pub event_on : ℕ → Receptions → Dir → ℕ → Result Layout Reason → EventValue
event_on limit both d micros layout =
    on_layout limit d (of_direction both d) (of_direction both (other_direction d)) micros layout
