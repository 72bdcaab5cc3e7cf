-- How much memory a pair keeps for the bytes of messages, and how far a frame may make it grow.
use Rattle.std.specs.Prelude.{◌≡◌, ◌≤◌, ℕ, ◌+◌, ◌*◌, List, [], ◌∷◌, ◌++◌, length, min, max, nat_le, ⊤, if◌then◌else◌, Option, Some, None, Result, Ok, Err}
use Rattle.direction.specs.Dir.{other_direction}
use Rattle.direction.specs.declared.Dir.{Dir}
use Rattle.direction.specs.declared.Dir.TheVariants.{Tester, Unit}
use Rattle.isotp_pdu.specs.Layout.{Layout}
use Rattle.isotp_pdu.specs.Layout as layout
use Rattle.isotp_receive.specs.Channels.{dir_of}
use Rattle.isotp_receive.specs.declared.event.Reason.{Reason}
use Rattle.isotp_receive.specs.Trace.{Entry, same_direction, layout_in}
use Rattle.isotp_receive.specs.StandingReception.{StandingReception, Receptions, receptions_after, of_direction}

-- the bytes of a message that have come, and for how many there is memory
pub record BytesValue : Type 0 where
  pub bytes : List ℕ
  pub capacity : ℕ

-- the reception of one direction, if one stands, and for how many bytes of a message it has memory
pub record ReceptionValue : Type 0 where
  pub standing : Option StandingReception
  pub capacity : ℕ

-- a pair between two frames: the receptions that stand, and for how many bytes of a message each direction has memory
pub record PairValue : Type 0 where
  pub receptions : Receptions
  pub tester_capacity : ℕ
  pub unit_capacity : ℕ

-- a pair that has taken no frame: it has no memory yet
abbrev pub new_pair : ℕ → PairValue
new_pair limit = record { receptions = receptions_after limit []; tester_capacity = 0; unit_capacity = 0 }

-- the one of the direction
abbrev pub capacity_of : PairValue → Dir → ℕ
capacity_of pair Tester = pair.tester_capacity
capacity_of pair Unit = pair.unit_capacity

-- where this stood for the direction of a frame: how many bytes its message was announced with, if it is one that is received
abbrev pub announced_with : ℕ → Option StandingReception → Result Layout Reason → ℕ
announced_with limit standing (Ok (layout.first len rx_dl bytes)) = if nat_le len limit then len else 0
announced_with limit None (Ok (layout.consecutive sequence_number can_dl bytes)) = 0
announced_with limit (Some standing) (Ok (layout.consecutive sequence_number can_dl bytes)) = standing.len
announced_with limit standing (Ok (layout.single message)) = 0
announced_with limit standing (Ok (layout.flow_control status)) = 0
announced_with limit standing (Err fault) = 0

-- and how many of these bytes have come with the frame; what a last frame is padded with is none of them
abbrev pub come_with : Option StandingReception → Result Layout Reason → ℕ
come_with standing (Ok (layout.first len rx_dl bytes)) = length bytes
come_with None (Ok (layout.consecutive sequence_number can_dl bytes)) = 0
come_with (Some standing) (Ok (layout.consecutive sequence_number can_dl bytes)) = min standing.len (length standing.bytes + length bytes)
come_with standing (Ok (layout.single message)) = 0
come_with standing (Ok (layout.flow_control status)) = 0
come_with standing (Err fault) = 0

-- a capacity stays, or grows to no more than was announced, and to no more than twice what has come
pub record GrowsWithin (announced come old new : ℕ) : Type 0 where
  pub stays : old ≤ new
  pub within_announced : new ≤ max old announced
  pub within_twice_come : new ≤ max old (2 * come)

-- By a frame of direction d the capacity of d grows within what its message was announced with and what has come of it, and
-- that of the other direction stays.
pub record CapacitiesGrow (limit : ℕ) (d : Dir) (read : Result Layout Reason) (old new : PairValue) : Type 0 where
  pub own : GrowsWithin (announced_with limit (of_direction old.receptions d) read) (come_with (of_direction old.receptions d) read)
      (capacity_of old d) (capacity_of new d)
  pub other : capacity_of new (other_direction d) ≡ capacity_of old (other_direction d)

-- one more frame is taken by a pair that stood after some trace
pub record TakesOne (limit : ℕ) (pair : PairValue) (e : Entry) (new : PairValue) : Type 0 where
  pub before : List Entry
  pub stood : pair.receptions ≡ receptions_after limit before
  pub grew : CapacitiesGrow limit (dir_of e.channel) (layout_in e) pair new

-- a run: the frames that a pair takes one after another, each with the pair after it
abbrev pub IsRun : ℕ → PairValue → List (Entry × PairValue) → Type 0
IsRun limit pair [] = ⊤
IsRun limit pair (step ∷ rest) = TakesOne limit pair step.0 step.1 × IsRun limit step.1 rest

-- the pair at its end
abbrev pub end_of : PairValue → List (Entry × PairValue) → PairValue
end_of pair [] = pair
end_of pair (step ∷ rest) = end_of step.1 rest

-- how many bytes of a message of d had come with the frame e, where these receptions stood before it
abbrev pub come_of : Dir → Receptions → Entry → ℕ
come_of d receptions e = if same_direction d (dir_of e.channel) then come_with (of_direction receptions d) (layout_in e) else 0

-- the most bytes of one message of d that had come in a run
abbrev pub most_come : Dir → PairValue → List (Entry × PairValue) → ℕ
most_come d pair [] = 0
most_come d pair (step ∷ rest) = max (come_of d pair.receptions step.0) (most_come d step.1 rest)

-- A pair that had no memory for a direction has it, after a run, for at most twice the most bytes that had come of one message of
-- the direction, and for no more than a message may have.
abbrev pub CapacitiesStayWithin : Type 0
CapacitiesStayWithin =
    (limit : ℕ) (d : Dir) (pair : PairValue) (run : List (Entry × PairValue)) → capacity_of pair d ≡ 0 → IsRun limit pair run
    → (capacity_of (end_of pair run) d ≤ 2 * most_come d pair run) × (capacity_of (end_of pair run) d ≤ limit)

-- the most bytes of one message of d that had come in a trace, where `past` stands before it
abbrev pub most_come_after : ℕ → Dir → List Entry → List Entry → ℕ
most_come_after limit d past [] = 0
most_come_after limit d past (e ∷ rest) = max (come_of d (receptions_after limit past) e) (most_come_after limit d (past ++ e ∷ []) rest)

-- so much memory for d, after a trace: for at most twice the most bytes that had come of one message of d, and for no more than
-- a message may have
pub record IsWithin (limit : ℕ) (T : List Entry) (d : Dir) (capacity : ℕ) : Type 0 where
  pub twice_come : capacity ≤ 2 * most_come_after limit d [] T
  pub largest : capacity ≤ limit

-- what a pair keeps after a trace is within these, for both directions
pub record KeepsWithin (limit : ℕ) (T : List Entry) (pair : PairValue) : Type 0 where
  pub tester : IsWithin limit T Tester pair.tester_capacity
  pub unit : IsWithin limit T Unit pair.unit_capacity

-- a new pair keeps within
abbrev pub NewPairKeepsWithin : Type 0
NewPairKeepsWithin = (limit : ℕ) → KeepsWithin limit [] (new_pair limit)

-- and a pair that has taken one more frame still does
abbrev pub OneMoreKeepsWithin : Type 0
OneMoreKeepsWithin =
    (limit : ℕ) (T : List Entry) (e : Entry) (old new : PairValue) → old.receptions ≡ receptions_after limit T → KeepsWithin limit T old
    → CapacitiesGrow limit (dir_of e.channel) (layout_in e) old new → KeepsWithin limit (T ++ e ∷ []) new
