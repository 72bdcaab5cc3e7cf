-- The list of the canonical frames: its length, and what is left of it.
use Rattle.std.proofs.Common.{length-drop, ◌≡◌, ℕ, ◌+◌, ◌-◌, ◌<◌, ◌≤◌, ◌==◌, true, false, List, [], ◌∷◌, ◌&&◌, length, map, drop, refl, ◌∙◌, ap, arith, sym}
use Rattle.std.specs.List.{range_with_len}
use Rattle.std.specs.Prelude.{nat_le}
use Rattle.std.proofs.lemmas.Bool.{le-leb, lt-leb, ne_eqb, and_from}
use Rattle.std.proofs.lemmas.List.FromFn.{length-map-range_with_len}
use Rattle.direction.specs.Dir.{other_direction}
use Rattle.direction.specs.declared.Dir.{Dir}
use Rattle.isotp_segment.specs.CanonicalFrames.{padded, single_control, first_control, consecutive_control, continue_control}
use Rattle.isotp_segment.specs.CanonicalFrames.{place_of, frame_count, canonical_frame, canonical_frames}
use Rattle.isotp_segment.proofs.Lists.{drop-map-range, drop-map-range-end}

-- a message that has frames
pub frames_of : (limit : ℕ) (direction : Dir) (message : List ℕ) → 1 ≤ length message → length message ≤ limit
    → canonical_frames limit direction message
    ≡ map (canonical_frame direction message) (range_with_len 0 (frame_count (length message)))
unfolding canonical_frames
frames_of limit direction message some high =
    let fits : (nat_le 1 (length message) && nat_le (length message) limit) ≡ true = and_from _ _ (le-leb _ _ some) (le-leb _ _ high) in
    rw fits refl

pub length-canonical_frames : (limit : ℕ) (direction : Dir) (message : List ℕ) → 1 ≤ length message → length message ≤ limit
    → length (canonical_frames limit direction message) ≡ frame_count (length message)
length-canonical_frames limit direction message some high =
    ap (length {A = Dir × List ℕ}) (frames_of limit direction message some high)
    ∙ length-map-range_with_len (canonical_frame direction message) 0 (frame_count (length message))

pub drop_canonical_frames : (limit : ℕ) (direction : Dir) (message : List ℕ) (number : ℕ)
    → number < frame_count (length message) → 1 ≤ length message → length message ≤ limit
    → drop number (canonical_frames limit direction message)
    ≡ canonical_frame direction message number ∷ drop (number + 1) (canonical_frames limit direction message)
drop_canonical_frames limit direction message number below some high =
    let whole = frames_of limit direction message some high in
    rw whole (drop-map-range (canonical_frame direction message) (frame_count (length message)) number below)

pub drop_at_end : (limit : ℕ) (direction : Dir) (message : List ℕ) (number : ℕ)
    → frame_count (length message) ≤ number → 1 ≤ length message → length message ≤ limit
    → drop number (canonical_frames limit direction message) ≡ []
drop_at_end limit direction message number above some high =
    let whole = frames_of limit direction message some high in
    rw whole (drop-map-range-end (canonical_frame direction message) (frame_count (length message)) number above)

-- how many are left
pub count_left : (limit : ℕ) (direction : Dir) (message : List ℕ) (number : ℕ) → 1 ≤ length message → length message ≤ limit
    → length (drop number (canonical_frames limit direction message)) ≡ frame_count (length message) - number
count_left limit direction message number some high =
    omega (arith, length-drop number (canonical_frames limit direction message), length-canonical_frames limit direction message some high)

-- as many, whatever the message of this length
pub count_of_frames : (limit len n : ℕ) → 1 ≤ len → len ≤ limit → n ≡ frame_count len
    → (direction : Dir) (message : List ℕ) → len ≡ length message → n ≡ length (canonical_frames limit direction message)
count_of_frames limit len n some high is direction message same =
    is ∙ ap frame_count same ∙ sym (length-canonical_frames limit direction message (omega arith) (omega arith))

-- each frame by its number

pub frame-single : (direction : Dir) (message : List ℕ) (number : ℕ) → length message ≤ 7
    → canonical_frame direction message number ≡ (direction, padded (single_control (length message)) message)
unfolding canonical_frame
frame-single direction message number short = (let one = le-leb (length message) 7 short in rw one refl)

-- and it is the only one of its message
pub canonical_frames-short : (limit : ℕ) (direction : Dir) (message : List ℕ) → 1 ≤ length message → length message ≤ 7 → length message ≤ limit
    → canonical_frames limit direction message ≡ (direction, padded (single_control (length message)) message) ∷ []
canonical_frames-short limit direction message some short fits =
    let one : nat_le (length message) 7 ≡ true = le-leb (length message) 7 short in
    let count : frame_count (length message) ≡ 1 = rw one refl in
    frames_of limit direction message some fits
    ∙ ap (λ n. map (canonical_frame direction message) (range_with_len 0 n)) count
    ∙ ap (λ f. f ∷ []) (frame-single direction message 0 short)

pub frame-first : (direction : Dir) (message : List ℕ) → 7 < length message
    → canonical_frame direction message 0 ≡ (direction, padded (first_control (length message)) message)
unfolding canonical_frame
frame-first direction message long = (let more = lt-leb (length message) 7 long in rw more refl)

pub frame-continue : (direction : Dir) (message : List ℕ) → 7 < length message
    → canonical_frame direction message 1 ≡ (other_direction direction, padded continue_control [])
unfolding canonical_frame
frame-continue direction message long = (let more = lt-leb (length message) 7 long in rw more refl)

pub frame-consecutive : (direction : Dir) (message : List ℕ) (number : ℕ) → 7 < length message → 1 ≤ number
    → canonical_frame direction message (1 + number)
    ≡ (direction, padded (consecutive_control number) (drop (place_of (length message) number) message))
unfolding canonical_frame
frame-consecutive direction message number long one =
    let more = lt-leb (length message) 7 long in
    let not_zero : (1 + number) == 0 ≡ false = ne_eqb (1 + number) 0 (omega arith) in
    let not_one : (1 + number) == 1 ≡ false = ne_eqb (1 + number) 1 (omega arith) in
    let back : 1 + number - 1 ≡ number = omega arith in
    rw (more, not_zero, not_one, back) refl
