-- Canonical frames as the entries of a trace: which is at which position, and what it is to the receptions.
use Rattle.std.proofs.Common.{◌≡◌, ℕ, zero, suc, ◌+◌, ◌*◌, ◌<◌, ◌≤◌, false, List, [], ◌∷◌, ◌++◌, length, take, Some, Result, Ok, refl, ◌∙◌, ap, arith}
use Rattle.std.specs.Prelude.{slice_get}
use Rattle.std.proofs.lemmas.Option.{slice_get-get_or}
use Rattle.std.proofs.lemmas.List.FromFn.{get_or-map-range_with_len}
use Rattle.direction.specs.Dir.{other_direction}
use Rattle.direction.specs.declared.Dir.{Dir}
use Rattle.can_log.specs.declared.frame.Id.{Id}
use Rattle.isotp_pdu.specs.declared.PduFault.{PduFault}
use Rattle.isotp_pdu.specs.Layout.{Layout}
use Rattle.isotp_pdu.specs.Reading.{layout_of}
use Rattle.isotp_receive.specs.Channels.{channel_of, to_one}
use Rattle.isotp_receive.specs.Trace.{Entry, At, role, own_role, other_role, layout_in}
use Rattle.isotp_receive.proofs.Promises.{get-left, same-self, apart_channels, said_on}
use Rattle.isotp_segment.specs.CanonicalFrames.{frame_count, canonical_frame, canonical_frames}
use Rattle.isotp_segment.specs.Timed.{timed}
use Rattle.isotp_segment.proofs.Lists.{get-later}
use Rattle.isotp_segment.proofs.Frames.{frames_of, length-canonical_frames}
use Rattle.isotp_segment.proofs.Layouts.{classic}

canonical_frames-at : (limit : ℕ) (d : Dir) (message : List ℕ) (number : ℕ) → 1 ≤ length message → length message ≤ limit
    → number < frame_count (length message) → slice_get (canonical_frames limit d message) number ≡ Some (canonical_frame d message number)
canonical_frames-at limit d message number some fits below =
    let size = length-canonical_frames limit d message some fits in
    let frame = canonical_frame d message number in
    slice_get-get_or (canonical_frames limit d message) number frame (omega arith)
    ∙ ap Some (rw (frames_of limit d message some fits)
    (get_or-map-range_with_len (canonical_frame d message) 0 (frame_count (length message)) number number frame below (omega arith)))

-- frame number n of a trace that begins in this line and at this time
abbrev pub entry : (Dir → Id) → ℕ → ℕ → ℕ → Dir × List ℕ → Entry
entry identifier line micros n frame = record {
  line = line + n;
  micros = micros + n * 1000;
  channel = channel_of frame.0;
  frame = classic (identifier frame.0) frame.1;
}

-- what it is to the direction that sent it, and to the other one
module _ (identifier : Dir → Id) (line micros : ℕ) (d : Dir) (n : ℕ) (bytes : List ℕ) (r : Result Layout PduFault) where
  pub role-own : layout_of (classic (identifier d) bytes) ≡ r
      → role (channel_of d) (entry identifier line micros n (d, bytes)) ≡ own_role (line + n) (micros + n * 1000) (to_one r)
  unfolding role layout_in
  role-own is = rw (same-self (channel_of d), said_on d, is) refl

  pub role-other : layout_of (classic (identifier (other_direction d)) bytes) ≡ r
      → role (channel_of d) (entry identifier line micros n (other_direction d, bytes)) ≡ other_role (to_one r)
  unfolding role layout_in
  role-other is = rw (apart_channels d, said_on (other_direction d), is) refl

-- and what it says
pub says : (identifier : Dir → Id) (line micros n : ℕ) (d : Dir) (bytes : List ℕ) (found : Layout) → layout_of (classic (identifier d) bytes) ≡ Ok found
    → layout_in (entry identifier line micros n (d, bytes)) ≡ Ok found
unfolding layout_in
says identifier line micros n d bytes found is = said_on d (layout_of (classic (identifier d) bytes)) ∙ ap to_one is

module _ (identifier : Dir → Id) where
  entry-next : (line micros n : ℕ) (frame : Dir × List ℕ)
      → entry identifier (line + 1) (micros + 1000) n frame ≡ entry identifier line micros (suc n) frame
  entry-next line micros n frame =
      let same_line : line + 1 + n ≡ line + suc n = omega arith in
      let same_time : micros + 1000 + n * 1000 ≡ micros + suc n * 1000 = omega arith in
      rw (same_line, same_time) refl

  entry-first : (line micros : ℕ) (frame other : Dir × List ℕ) → frame ≡ other
      → record { line = line; micros = micros; channel = channel_of frame.0; frame = classic (identifier frame.0) frame.1 } ≡ entry identifier line micros 0 other
  entry-first line micros frame other same =
      let same_line : line + 0 ≡ line = omega arith in
      let same_time : micros + 0 * 1000 ≡ micros = omega arith in
      rw (same_line, same_time, same) refl

  timed-at : (line micros : ℕ) (frames : List (Dir × List ℕ)) (p : ℕ) (frame : Dir × List ℕ) → slice_get frames p ≡ Some frame
      → At (timed identifier line micros frames) p (entry identifier line micros p frame)
  timed-at line micros [] p frame there = absurd (cc)
  timed-at line micros (other ∷ frames) zero frame there = (let same : other ≡ frame = cc in ap Some (entry-first line micros other frame same))
  timed-at line micros (other ∷ frames) (suc p) frame there =
      timed-at (line + 1) (micros + 1000) frames p frame there ∙ ap Some (entry-next line micros p frame)

  pub length-timed : (line micros : ℕ) (frames : List (Dir × List ℕ)) → length (timed identifier line micros frames) ≡ length frames
  length-timed line micros [] = refl
  length-timed line micros (frame ∷ frames) = ap suc (length-timed (line + 1) (micros + 1000) frames)

  pub take-timed : (line micros n : ℕ) (frames : List (Dir × List ℕ))
      → timed identifier line micros (take n frames) ≡ take n (timed identifier line micros frames)
  take-timed line micros zero frames = refl
  take-timed line micros (suc n) [] = refl
  take-timed line micros (suc n) (frame ∷ frames) =
      ap (λ rest. record { line = line; micros = micros; channel = channel_of frame.0; frame = classic (identifier frame.0) frame.1 } ∷ rest)
      (take-timed (line + 1) (micros + 1000) n frames)

  -- the frames of the message are in the trace from position `begun` on
  abbrev pub StandFrom : ℕ → ℕ → List Entry → Dir → List ℕ → ℕ → Type 0
  StandFrom line micros T d message begun =
      (number : ℕ) → number < frame_count (length message)
      → At T (begun + number) (entry identifier line micros (begun + number) (canonical_frame d message number))

  -- they do where they come after the frames `before`
  pub frames-stand : (line micros limit : ℕ) (all before rest : List (Dir × List ℕ)) (d : Dir) (message : List ℕ) (begun : ℕ)
      → all ≡ before ++ (canonical_frames limit d message ++ rest) → begun ≡ length before
      → 1 ≤ length message → length message ≤ limit
      → StandFrom line micros (timed identifier line micros all) d message begun
  frames-stand line micros limit all before rest d message begun splits place some fits number below =
      let frames = canonical_frames limit d message in
      let here : slice_get all (begun + number) ≡ Some (canonical_frame d message number) =
      ap (λ l. slice_get l (begun + number)) splits
      ∙ ap (λ k. slice_get (before ++ (frames ++ rest)) (k + number)) place
      ∙ get-later before (frames ++ rest) number
      ∙ get-left frames rest number (omega (arith, length-canonical_frames limit d message some fits))
      ∙ canonical_frames-at limit d message number some fits below in
      timed-at line micros all (begun + number) (canonical_frame d message number) here
