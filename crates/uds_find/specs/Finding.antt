-- The lines of a log's units, and what a finder keeps of the frames so far.
use Rattle.std.specs.Prelude.{◌≡◌, ℕ, ◌+◌, ◌==◌, ◌<◌, ◌≤◌, Bool, true, false, ◌&&◌, List, Option, Some, None, length, map, slice_index}
use Rattle.std.specs.Prelude.{slice_index_or, if◌then◌else◌, All, IsPermutation}
use Rattle.std.specs.List.{count_by, list_any, IsDistinct}
use Rattle.std.specs.List.Sorted.{IsSorted, IsStrictlySortedBy}
use Rattle.std.specs.Map.{keys_of, lookup}
use Rattle.std.specs.Option.{is_some, option_cmp, option_map, unwrap_or}
use Rattle.std.specs.Ordering.{nat_cmp, ordering_then}
use Rattle.std.specs.declared.cmp.Ordering.{Ordering}
use Rattle.arrayvec.specs.ArrayVec.{ArrayVec}
use Rattle.can_log.specs.Canonical.{identifier_text}
use Rattle.can_log.specs.Frame.{FrameValue}
use Rattle.can_log.specs.declared.frame.Id.{Id}
use Rattle.uds_find.specs.Asking.{request_count}
use Rattle.uds_find.specs.Credit.{asks_for, credit_count, has_answered, has_credited, is_same, is_same_pair, last_asker}
use Rattle.uds_find.specs.Functional.{is_functional, number_order, text_order, IsFunctionalOf}
use Rattle.uds_find.specs.Tester.{IsUnitWithTester}
use Rattle.uds_find.specs.declared.pair.CreditLine.{CreditLine}
use Rattle.uds_find.specs.declared.pair.IdPair.{IdPair}
use Rattle.uds_find.specs.declared.pair.UnitService.{UnitService}

-- a number, where it isn't 0
abbrev pub counted : ℕ → Option ℕ
counted count = if count == 0 then None else Some count

-- A table has each key whose number isn't 0, once, and the number.
pub record IsTally {K : Type 0} (same : K → K → Bool) (count : K → ℕ) (table : List (K × ℕ)) : Type 0 where
  pub once : IsDistinct same (keys_of table)
  pub counts : (key : K) → lookup (same key) table ≡ counted (count key)

-- one more for this key, and as many for every other
abbrev pub one_more : {K : Type 0} → (K → K → Bool) → K → (K → ℕ) → K → ℕ
one_more same one count key = if same one key then count key + 1 else count key

-- Each place tells who was the last to ask for its service.
pub record TellsAskers (frames : List FrameValue) (askers : List (Option Id)) : Type 0 where
  pub places : length askers ≡ 256
  pub each : (service : ℕ) → service < 256 → slice_index_or askers service None ≡ last_asker service frames

-- Each place tells how often its service was asked for.
pub record TellsAskings (frames : List FrameValue) (askings : List ℕ) : Type 0 where
  pub places : length askings ≡ 256
  pub each : (service : ℕ) → service < 256 → slice_index askings service ≡ count_by (asks_for service) frames

-- one unit, and one service
abbrev pub is_same_unit_service : UnitService → UnitService → Bool
is_same_unit_service one other = is_same one.unit other.unit && (one.service == other.service)

-- the number under a key of a table, or 0
abbrev pub number_at : List (UnitService × ℕ) → UnitService → ℕ
number_at table key = unwrap_or (lookup (is_same_unit_service key) table) 0

-- The number of a unit and a service is that of the last asking for the service whose answer by the unit was credited;
-- or else of none.
pub record TellsAnswered (frames : List FrameValue) (answered : UnitService → ℕ) : Type 0 where
  pub earlier : (key : UnitService) → answered key ≤ count_by (asks_for key.service) frames
  pub each : (key : UnitService) (tester : Id) → last_asker key.service frames ≡ Some tester → is_same tester key.unit ≡ false
      → (answered key == count_by (asks_for key.service) frames) ≡ has_answered key.service key.unit frames

-- A table has a place for just each unit and service of which an answer was credited.
abbrev pub HasPlaces : List FrameValue → List (UnitService × ℕ) → Type 0
HasPlaces frames table =
    (key : UnitService) → is_some (lookup (is_same_unit_service key) table) ≡ has_credited key.service key.unit frames

-- These are just the functional identifiers, by their numbers.
pub record TellsFunctional (frames : List FrameValue) (functional : List Id) : Type 0 where
  pub each : (one : Id) → list_any (is_same one) functional ≡ is_functional frames one
  pub sorted : IsStrictlySortedBy number_order functional

-- what a finder is seen as
pub record FinderValue : Type 0 where
  -- of each service who asked for it last, and how often it was asked for
  pub askers : List (Option Id)
  pub askings : List ℕ
  -- of a unit and a service, which asking for the service it answered last, of those whose answer was credited
  pub answered : List (UnitService × ℕ)
  -- the number of credits of each pair, and of requests of each identifier
  pub credits : List (IdPair × ℕ)
  pub requests : List (Id × ℕ)
  -- the functional identifiers
  pub functional : List Id

-- A finder has counted what these frames say.
pub record HasCounted (frames : List FrameValue) (finder : FinderValue) : Type 0 where
  pub askers : TellsAskers frames finder.askers
  pub askings : TellsAskings frames finder.askings
  pub answered : TellsAnswered frames (number_at finder.answered)
  pub places : HasPlaces frames finder.answered
  pub credits : IsTally is_same_pair (credit_count frames) finder.credits
  pub requests : IsTally is_same (request_count frames) finder.requests

-- A finder stands after these frames.
pub record StandsAfter (frames : List FrameValue) (finder : FinderValue) : Type 0 where
  pub counted : HasCounted frames finder
  pub functional : TellsFunctional frames finder.functional

-- A unit and its tester, and a functional identifier beside them, if there is one.
pub record FoundUnit : Type 0 where
  pub pair : IdPair
  pub functional : Option Id

-- the text of an identifier, as a line has it
abbrev pub IdText : Type 0
IdText = ArrayVec ℕ

abbrev pub id_text : Id → IdText
id_text one = record { items = identifier_text one }

-- the line of a unit
abbrev pub credit_line : List FrameValue → FoundUnit → CreditLine
credit_line frames found = record {
  credits = credit_count frames found.pair;
  requests = request_count frames found.pair.tester;
  tester = id_text found.pair.tester;
  unit = id_text found.pair.unit;
  functional = option_map id_text found.functional;
}

-- the order of the functional identifiers of lines: none stands first
abbrev pub functional_order : Option IdText → Option IdText → Ordering
functional_order = option_cmp (λ one other. text_order one.items other.items)

-- The order of lines: the most credits first, then by the tester's text, then by the unit's. No two lines have both
-- texts alike, so the requests, of which the most stand first, and the functional identifiers decide nothing.
abbrev pub line_order : CreditLine → CreditLine → Ordering
line_order one other =
    ordering_then (nat_cmp other.credits one.credits)
    (ordering_then (text_order one.tester.items other.tester.items)
    (ordering_then (text_order one.unit.items other.unit.items)
    (ordering_then (nat_cmp other.requests one.requests) (functional_order one.functional other.functional))))

-- whether a unit is found here
abbrev pub has_unit : List FoundUnit → Id → Bool
has_unit units unit = list_any (λ found. is_same found.pair.unit unit) units

-- the identifiers of units
abbrev pub ids_of : List FoundUnit → List Id
ids_of units = map (λ found. found.pair.unit) units

-- A unit with a credit in these frames, with its tester, and the functional identifier beside them.
pub record IsFoundUnit (frames : List FrameValue) (found : FoundUnit) : Type 0 where
  pub tester : IsUnitWithTester frames found.pair
  pub functional : IsFunctionalOf frames found.pair found.functional

-- These are the lines of the units that have a credit in these frames, one each, in their order.
pub record AreCreditLines (frames : List FrameValue) (lines : List CreditLine) : Type 0 where
  pub units : List FoundUnit
  pub found : All (IsFoundUnit frames) units
  pub once : IsDistinct is_same (ids_of units)
  pub every : (pair : IdPair) → 0 < credit_count frames pair → has_unit units pair.unit ≡ true
  pub each : IsPermutation (map (credit_line frames) units) lines
  pub sorted : IsSorted line_order lines
