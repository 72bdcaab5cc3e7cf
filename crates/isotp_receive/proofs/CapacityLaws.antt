-- How much memory a pair keeps over a run of frames.
use Rattle.std.proofs.Common.{◌≡◌, ℕ, ◌*◌, ◌≤◌, Bool, true, false, List, [], ◌∷◌, ◌++◌, max, nat_le, if◌then◌else◌, Option, Some, None, Result, Ok, Err, refl, sym, ◌∙◌, ap, subst, arith}
use Rattle.std.proofs.lemmas.Bool.{leb-true}
use Rattle.std.proofs.lemmas.List.{append-nil, append_assoc}
use Rattle.direction.specs.declared.Dir.{Dir}
use Rattle.direction.specs.declared.Dir.TheVariants.{Tester, Unit}
use Rattle.isotp_pdu.specs.Layout.{Layout}
use Rattle.isotp_pdu.specs.Layout as layout
use Rattle.isotp_receive.specs.Trace.{Entry}
use Rattle.isotp_receive.specs.StandingReception.{StandingReception, stands, receptions_after, of_direction}
use Rattle.isotp_receive.specs.Capacities.{PairValue, capacity_of, announced_with, come_with, CapacitiesGrow, TakesOne, IsRun, end_of, come_of, most_come, new_pair, most_come_after, IsWithin, KeepsWithin}
use Rattle.isotp_receive.proofs.StandingLaws.{kept-bytes}
use Rattle.isotp_receive.specs.Channels.{dir_of}
use Rattle.isotp_receive.specs.Channels.{channel_of}
use Rattle.isotp_receive.specs.Trace.{layout_in}
use Rattle.isotp_receive.specs.declared.event.Reason.{Reason}
use Rattle.isotp_receive.specs.declared.channel.Channel.{Channel}

-- ---- what is announced is within the limit

announced-first : (limit len : ℕ) (b : Bool) → nat_le len limit ≡ b → (if b then len else 0) ≤ limit
announced-first limit len true h = leb-true len limit h
announced-first limit len false h = omega arith

pub announced-fits : (limit : ℕ) (T : List Entry) (d : Channel) (standing : Option StandingReception) (read : Result Layout Reason) → stands limit d T ≡ standing
    → announced_with limit standing read ≤ limit
announced-fits limit T d standing (Ok (layout.first len rx_dl bytes)) h = announced-first limit len (nat_le len limit) refl
announced-fits limit T d None (Ok (layout.consecutive n c bytes)) h = omega arith
announced-fits limit T d (Some standing) (Ok (layout.consecutive n c bytes)) h = (kept-bytes limit T d standing h).0
announced-fits limit T d standing (Ok (layout.single message)) h = omega arith
announced-fits limit T d standing (Ok (layout.flow_control status)) h = omega arith
announced-fits limit T d standing (Err fault) h = omega arith

stands-there : (limit : ℕ) (T : List Entry) (d : Dir) → stands limit (channel_of d) T ≡ of_direction (receptions_after limit T) d
stands-there limit T Tester = refl
stands-there limit T Unit = refl

-- ---- one frame

-- the capacity of a direction grows by a frame within these
record Step (limit : ℕ) (d : Dir) (pair : PairValue) (e : Entry) (new : PairValue) : Type 0 where
  come : capacity_of new d ≤ max (capacity_of pair d) (2 * come_of d pair.receptions e)
  fits : capacity_of new d ≤ max (capacity_of pair d) limit

module _ (limit : ℕ) (pair new : PairValue) (line micros : ℕ) (T : List Entry) (stood : pair.receptions ≡ receptions_after limit T) where
  own : (d : Dir) (read : Result Layout Reason) → CapacitiesGrow limit d read pair new
      → (capacity_of new d ≤ max (capacity_of pair d) (2 * come_with (of_direction pair.receptions d) read)) × (capacity_of new d ≤ max (capacity_of pair d) limit)
  own d read grew =
      let fits = announced-fits limit T (channel_of d) (of_direction pair.receptions d) read (stands-there limit T d ∙ ap (λ r. of_direction r d) (sym stood)) in
      let within = grew.own.within_announced in
      (grew.own.within_twice_come, omega arith)

step : (limit : ℕ) (d x : Dir) (pair new : PairValue) (e : Entry) → dir_of e.channel ≡ x → TakesOne limit pair e new → Step limit d pair e new
step limit Tester Tester pair new e h taken =
    let grown = own limit pair new e.line e.micros taken.before taken.stood Tester (layout_in e) (rw h at taken.grew) in
    record { come = rw h grown.0; fits = grown.1 }
step limit Unit Unit pair new e h taken =
    let grown = own limit pair new e.line e.micros taken.before taken.stood Unit (layout_in e) (rw h at taken.grew) in
    record { come = rw h grown.0; fits = grown.1 }
step limit Tester Unit pair new e h taken =
    let same : capacity_of new Tester ≡ capacity_of pair Tester = (rw h at taken.grew).other in
    record { come = omega arith; fits = omega arith }
step limit Unit Tester pair new e h taken =
    let same : capacity_of new Unit ≡ capacity_of pair Unit = (rw h at taken.grew).other in
    record { come = omega arith; fits = omega arith }

-- ---- a run

over-run : (limit : ℕ) (d : Dir) (pair : PairValue) (run : List (Entry × PairValue)) → IsRun limit pair run
    → (capacity_of (end_of pair run) d ≤ max (capacity_of pair d) (2 * most_come d pair run)) × (capacity_of (end_of pair run) d ≤ max (capacity_of pair d) limit)
over-run limit d pair [] taken = (omega arith, omega arith)
over-run limit d pair (s ∷ rest) taken =
    let first = step limit d (dir_of s.0.channel) pair s.1 s.0 refl taken.0 in
    let come = first.come in
    let fits = first.fits in
    let others = over-run limit d s.1 rest taken.1 in
    let come_too = others.0 in
    let fits_too = others.1 in
    (omega arith, omega arith)

pub stay-within : (limit : ℕ) (d : Dir) (pair : PairValue) (run : List (Entry × PairValue)) → capacity_of pair d ≡ 0 → IsRun limit pair run
    → (capacity_of (end_of pair run) d ≤ 2 * most_come d pair run) × (capacity_of (end_of pair run) d ≤ limit)
stay-within limit d pair run none taken =
    let grown = over-run limit d pair run taken in
    let come = grown.0 in
    let fits = grown.1 in
    (omega arith, omega arith)

-- ---- a trace

-- with one more frame
most-more : (limit : ℕ) (d : Dir) (past T : List Entry) (e : Entry)
    → (most_come_after limit d past T ≤ most_come_after limit d past (T ++ e ∷ []))
    × (come_of d (receptions_after limit (past ++ T)) e ≤ most_come_after limit d past (T ++ e ∷ []))
most-more limit d past [] e =
    let same = ap (λ (before : List Entry). come_of d (receptions_after limit before) e) (append-nil past) in
    (omega arith, omega arith)
most-more limit d past (x ∷ rest) e =
    let others = most-more limit d (past ++ x ∷ []) rest e in
    let most = others.0 in
    let last = others.1 in
    let same = ap (λ (before : List Entry). come_of d (receptions_after limit before) e) (append_assoc past (x ∷ []) rest) in
    (omega arith, omega arith)

pub new-within : (limit : ℕ) → KeepsWithin limit [] (new_pair limit)
new-within limit = record {
  tester = record { twice_come = omega arith; largest = omega arith };
  unit = record { twice_come = omega arith; largest = omega arith };
}

module _ (limit : ℕ) (T : List Entry) (e : Entry) (old new : PairValue) (stood : old.receptions ≡ receptions_after limit T)
    (grew : CapacitiesGrow limit (dir_of e.channel) (layout_in e) old new) where
  within-more : (d : Dir) → IsWithin limit T d (capacity_of old d) → IsWithin limit (T ++ e ∷ []) d (capacity_of new d)
  within-more d within =
      let taken = step limit d (dir_of e.channel) old new e refl (record { before = T; stood = stood; grew = grew }) in
      let come = subst (λ r. capacity_of new d ≤ max (capacity_of old d) (2 * come_of d r e)) stood taken.come in
      let fits = taken.fits in
      let more = most-more limit d [] T e in
      let most = more.0 in
      let last = more.1 in
      let twice = within.twice_come in
      let largest = within.largest in
      record { twice_come = omega arith; largest = omega arith }

pub one-more-within : (limit : ℕ) (T : List Entry) (e : Entry) (old new : PairValue) → old.receptions ≡ receptions_after limit T → KeepsWithin limit T old
    → CapacitiesGrow limit (dir_of e.channel) (layout_in e) old new → KeepsWithin limit (T ++ e ∷ []) new
one-more-within limit T e old new stood within grew = record {
  tester = within-more limit T e old new stood grew Tester within.tester;
  unit = within-more limit T e old new stood grew Unit within.unit;
}
