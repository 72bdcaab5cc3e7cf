-- Which identifier is the tester of a unit: its partner, where that asks, and else the first of those with credits.
use Rattle.std.specs.Prelude.{◌≡◌, ◌+◌, ◌-◌, ◌*◌, ◌/◌, ◌%◌, ◌==◌, ◌<◌, nat_le, false, ◌&&◌, List, Option, Some, None}
use Rattle.std.specs.Prelude.{if◌then◌else◌}
use Rattle.std.specs.Ordering.{bool_cmp, is_lt, nat_cmp, ordering_then}
use Rattle.std.specs.declared.cmp.Ordering.{Ordering}
use Rattle.can_log.specs.Canonical.{identifier_text}
use Rattle.can_log.specs.Frame.{FrameValue}
use Rattle.can_log.specs.declared.frame.Id.{Id}
use Rattle.can_log.specs.declared.frame.Id.TheVariants as id
use Rattle.uds_find.specs.Asking.{request_count}
use Rattle.uds_find.specs.Credit.{credit_count}
use Rattle.uds_find.specs.Functional.{is_functional, text_order}
use Rattle.uds_find.specs.declared.candidate.Candidate.{Candidate}
use Rattle.uds_find.specs.declared.pair.IdPair.{IdPair}

-- The partner of a unit: 7E0 + k of 7E8 + k, for k up to 7 (ISO 15765-4), and 18DAyyxx of 18DAxxyy (normal fixed
-- addressing, ISO 15765-2:2016, 10.3.3). Where xx is yy there is none: nobody is its own partner.
abbrev pub partner_of : Id → Option Id
partner_of (id.Std number) = if nat_le 0x7E8 number && nat_le number 0x7EF then Some (id.Std (number - 8)) else None
partner_of (id.Ext number) =
    if number / 65536 == 0x18DA then
    (if number / 256 % 256 == number % 256 then None
    else Some (id.Ext (0x18DA0000 + number % 256 * 256 + number / 256 % 256)))
    else None

-- a unit's partner, where it asks in these frames
abbrev pub asking_partner : List FrameValue → Option Id → Option Id
asking_partner frames None = None
asking_partner frames (Some partner) = if request_count frames partner == 0 then None else Some partner

-- the order of those who have credits of one unit: one that isn't functional before one that is, then the most credits
-- first, then by the text
abbrev pub candidate_order : Candidate → Candidate → Ordering
candidate_order one other =
    ordering_then (bool_cmp one.functional other.functional)
    (ordering_then (nat_cmp other.credits one.credits) (text_order (identifier_text one.tester) (identifier_text other.tester)))

-- a tester, with its credits of the unit, and whether it is functional
abbrev pub candidate : List FrameValue → Id → Id → Candidate
candidate frames unit tester = record {
  tester = tester;
  credits = credit_count frames (record { tester = tester; unit = unit });
  functional = is_functional frames tester;
}

-- The tester has credits of the unit, and no other one with some stands before it.
pub record IsFirst (frames : List FrameValue) (pair : IdPair) : Type 0 where
  pub credited : 0 < credit_count frames pair
  pub first : (other : Id) → 0 < credit_count frames (record { tester = other; unit = pair.unit })
      → is_lt (candidate_order (candidate frames pair.unit other) (candidate frames pair.unit pair.tester)) ≡ false

-- the tester of a unit with this partner that asks, or with none
abbrev pub IsTesterBeside : Option Id → List FrameValue → IdPair → Type 0
IsTesterBeside (Some partner) frames pair = pair.tester ≡ partner
IsTesterBeside None frames pair = IsFirst frames pair

-- The pair is a unit with a credit and its tester.
pub record IsUnitWithTester (frames : List FrameValue) (pair : IdPair) : Type 0 where
  pub someone : Id
  pub credited : 0 < credit_count frames (record { tester = someone; unit = pair.unit })
  pub tester : IsTesterBeside (asking_partner frames (partner_of pair.unit)) frames pair
