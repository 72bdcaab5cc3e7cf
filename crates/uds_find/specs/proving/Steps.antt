-- Devices of proof: what one frame changes in what a finder keeps, and how its candidates are gone through.
use Rattle.std.specs.Prelude.{◌≡◌, ℕ, ◌+◌, ◌^◌, ◌==◌, ◌<◌, Bool, List, [], ◌∷◌, Option, Some, None, slice_index, slice_index_or, slice_set}
use Rattle.std.specs.Prelude.{if◌then◌else◌, true, false, ◌&&◌, ◌||◌, ◌⊎◌}
use Rattle.std.specs.List.{find, list_any}
use Rattle.std.specs.Map.{lookup, remove_entry}
use Rattle.std.specs.Option.{is_some, option_map, unwrap_or}
use Rattle.std.specs.Ordering.{is_lt}
use Rattle.std.specs.Set.{remove_key}
use Rattle.can_log.specs.Frame.{FrameValue}
use Rattle.can_log.specs.declared.frame.Id.{Id}
use Rattle.uds_find.specs.Credit.{credited_to, is_same, is_same_pair}
use Rattle.uds_find.specs.Finding.{FinderValue, FoundUnit, IsTally, id_text, is_same_unit_service, number_at, one_more}
use Rattle.uds_find.specs.Functional.{is_functional_frame, is_third}
use Rattle.uds_find.specs.Tester.{candidate_order, partner_of}
use Rattle.uds_find.specs.declared.candidate.Candidate.{Candidate}
use Rattle.uds_find.specs.declared.pair.CreditLine.{CreditLine}
use Rattle.uds_find.specs.declared.pair.IdPair.{IdPair}
use Rattle.uds_find.specs.declared.pair.UnitService.{UnitService}

-- whatever a table counts, it then counts one more for this key
abbrev pub RisesByOne : {K : Type 0} → (K → K → Bool) → K → List (K × ℕ) → List (K × ℕ) → Type 0
RisesByOne {K} same key old new =
    (count : K → ℕ) → count key < 2 ^ 62 → IsTally same count old → IsTally same (one_more same key count) new

-- this number was written under a key, and each other stays
abbrev pub IsWritten : UnitService → ℕ → List (UnitService × ℕ) → List (UnitService × ℕ) → Type 0
IsWritten key asking old new =
    (other : UnitService) → number_at new other ≡ (if is_same_unit_service key other then asking else number_at old other)

-- the table has a place for this key, and for the others where there was one
abbrev pub HasOnePlace : UnitService → List (UnitService × ℕ) → List (UnitService × ℕ) → Type 0
HasOnePlace key old new = (other : UnitService)
    → is_some (lookup (is_same_unit_service other) new)
    ≡ (if is_same_unit_service key other then true else is_some (lookup (is_same_unit_service other) old))

-- the identifiers without one, where this is new
abbrev pub without_id : Id → Bool → List Id → List Id
without_id one is_new functional = if is_new then remove_key (is_same one) functional else functional

-- the identifier of a frame was kept, if that is a functional one
abbrev pub IsKeptMore : FrameValue → List Id → List Id → Type 0
IsKeptMore frame old new = (one : Id)
    → list_any (is_same one) new ≡ (list_any (is_same one) old || (is_functional_frame frame && is_same one frame.id))

-- a table without the entry of a key, where this is new
abbrev pub without_new : UnitService → Bool → List (UnitService × ℕ) → List (UnitService × ℕ)
without_new key is_new table = if is_new then remove_entry (is_same_unit_service key) table else table

-- This identifier asked for the service.
pub record IsAskedMore (service : ℕ) (asker : Id) (old new : FinderValue) : Type 0 where
  pub askers : new.askers ≡ slice_set old.askers service (Some asker)
  pub askings : slice_index old.askings service < 2 ^ 62 → new.askings ≡ slice_set old.askings service (slice_index old.askings service + 1)
  pub answered : new.answered ≡ old.answered
  pub credits : new.credits ≡ old.credits
  pub requests : RisesByOne is_same asker old.requests new.requests

-- An answer of the service by this unit was credited to the pair.
pub record IsCreditedMore (service : ℕ) (unit : Id) (pair : IdPair) (old new : FinderValue) : Type 0 where
  pub askers : new.askers ≡ old.askers
  pub askings : new.askings ≡ old.askings
  pub answered : IsWritten (record { unit = unit; service = service }) (slice_index old.askings service) old.answered new.answered
  pub places : HasOnePlace (record { unit = unit; service = service }) old.answered new.answered
  pub credits : RisesByOne is_same_pair pair old.credits new.credits
  pub requests : new.requests ≡ old.requests

-- the pair that an answer of the service by this unit is credited to, by what is kept
abbrev pub credited_by : FinderValue → ℕ → Id → Option IdPair
credited_by finder service unit =
    credited_to (slice_index_or finder.askers service None) unit
    (number_at finder.answered (record { unit = unit; service = service }) == slice_index finder.askings service)

-- it was credited to this pair, or to none
abbrev pub IsCreditedTo : ℕ → Id → Option IdPair → FinderValue → FinderValue → Type 0
IsCreditedTo service unit None old new = new ≡ old
IsCreditedTo service unit (Some pair) old new = IsCreditedMore service unit pair old new

-- the credits of a pair in a table, or 0
abbrev pub credits_in : List (IdPair × ℕ) → IdPair → ℕ
credits_in table pair = unwrap_or (lookup (is_same_pair pair) table) 0

-- the unit and the service have no place yet, or the pair has no credit
abbrev pub IsNewIn : List (UnitService × ℕ) → List (IdPair × ℕ) → UnitService → IdPair → Type 0
IsNewIn answered credits answer pair =
    (is_some (lookup (is_same_unit_service answer) answered) ≡ false) ⊎ (credits_in credits pair ≡ 0)

-- the requests of an identifier in a table, or 0
abbrev pub requests_in : List (Id × ℕ) → Id → ℕ
requests_in table asker = unwrap_or (lookup (is_same asker) table) 0

-- the candidate of an entry, where these identifiers are functional
abbrev pub candidate_of : List Id → IdPair × ℕ → Candidate
candidate_of functional entry = record {
  tester = entry.0.tester;
  credits = entry.1;
  functional = list_any (is_same entry.0.tester) functional;
}

-- the first of two candidates, where there is one already
abbrev pub first_of : Option Candidate → Candidate → Candidate
first_of None later = later
first_of (Some best) later = if is_lt (candidate_order later best) then later else best

-- the first candidate of the unit, of one from before and of these entries
unfoldable pub first_among : List Id → Id → Option Candidate → List (IdPair × ℕ) → Option Candidate
first_among functional unit best [] = best
first_among functional unit best (entry ∷ rest) =
    first_among functional unit (if is_same entry.0.unit unit then Some (first_of best (candidate_of functional entry)) else best) rest

-- the tester of a unit whose first candidate this is, where identifiers have so many requests
abbrev pub tester_beside : List (Id × ℕ) → Option Id → Id → Id
tester_beside requests None first = first
tester_beside requests (Some partner) first = if requests_in requests partner == 0 then first else partner

-- the pair of a unit and its tester
abbrev pub pair_of : List (Id × ℕ) → Id × Candidate → IdPair
pair_of requests entry = record { tester = tester_beside requests (partner_of entry.0) entry.1.tester; unit = entry.0 }

-- a pair with the first of these identifiers that is third beside it
abbrev pub unit_beside : List Id → IdPair → FoundUnit
unit_beside functional pair = record { pair = pair; functional = find (is_third pair) functional }

-- the unit of an entry, by these tables
abbrev pub unit_in : List (Id × ℕ) → List Id → Id × Candidate → FoundUnit
unit_in requests functional entry = unit_beside functional (pair_of requests entry)

-- the line of a unit, by these tables
abbrev pub line_in : List (IdPair × ℕ) → List (Id × ℕ) → FoundUnit → CreditLine
line_in credits requests found = record {
  credits = credits_in credits found.pair;
  requests = requests_in requests found.pair.tester;
  tester = id_text found.pair.tester;
  unit = id_text found.pair.unit;
  functional = option_map id_text found.functional;
}
