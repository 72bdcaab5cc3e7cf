-- The canonical frames of a message carry it, at the positions that it is given.
use Rattle.std.proofs.Common.{◌≡◌, ℕ, zero, suc, ◌+◌, ◌-◌, ◌*◌, ◌%◌, ◌<◌, ◌≤◌, ◌^◌, List, [], length, take, drop, nat_le, refl}
use Rattle.std.proofs.Common.{sym, ◌∙◌, ap, arith, cond, inl, inr, subst, length-take-le}
use Rattle.std.specs.Prelude.{slice_index, ◌⊎◌}
use Rattle.std.specs.List.{range_with_len}
use Rattle.std.proofs.lemmas.Bool.{leb-true, leb-false, cases_lt, cases_Bool}
use Rattle.std.proofs.lemmas.List.{get_or-drop, length-drop}
use Rattle.std.proofs.lemmas.List.FromFn.{length-range_with_len}
use Rattle.direction.specs.Dir.{other_direction}
use Rattle.direction.specs.declared.Dir.{Dir}
use Rattle.can_log.specs.declared.frame.Id.{Id}
use Rattle.isotp_receive.specs.Channels.{channel_of}
use Rattle.isotp_receive.specs.Trace.{Entry, At, FirstFrame, first, role, layout_in}
use Rattle.isotp_receive.specs.OnTime.{RestartsTimer}
use Rattle.isotp_receive.specs.Recording.{IsConsecutiveFrame, EachNumbered, IsSegmented, unsegmented, segmented, IsTransfer, IsIn, IsIdle}
use Rattle.isotp_receive.specs.Places as places
use Rattle.isotp_receive.proofs.Promises.{places_agree_on_bytes}
use Rattle.isotp_segment.specs.CanonicalFrames.{consecutive_count, padded, first_control, consecutive_control, continue_control}
use Rattle.isotp_segment.specs.CanonicalFrames.{room_in_first, place_of, frame_count}
use Rattle.isotp_segment.proofs.Ranges.{rising-range, in-range}
use Rattle.isotp_segment.proofs.Bytes.{padded-holds}
use Rattle.isotp_segment.proofs.Layouts.{layout-continue}
use Rattle.isotp_segment.proofs.Counts.{total-short, total-long, room_in_first-few, consecutive_count_is_least}
use Rattle.isotp_segment.proofs.Positions.{positions_of}
use Rattle.isotp_segment.proofs.TimedFrames.{entry, StandFrom, says}
use Rattle.isotp_segment.proofs.MessageFrames.{at-single, at-first, at-continue, at-consecutive, single-role, first-role, consecutive-role, continue-role}
use Rattle.isotp_segment.proofs.OpenReceptions.{same-entry}

-- each byte of the message that a first frame holds comes after the length in it
first-holds : (message : List ℕ) (place i : ℕ) → 8 ≤ length message → place < room_in_first (length message)
    → i ≡ 8 - room_in_first (length message) + place
    → slice_index message place ≡ slice_index (padded (first_control (length message)) message) i
first-holds message place i low inside is = elim (cases_Bool (nat_le (length message) 4095)) [
  | inl t ↦
      (let six : room_in_first (length message) ≡ 6 = ap (λ b. cond b 6 2) t in
      padded-holds (first_control (length message)) message place i (omega arith) (rw t (omega arith)) (omega arith))
  | inr t ↦
      (let two : room_in_first (length message) ≡ 2 = ap (λ b. cond b 6 2) t in
      padded-holds (first_control (length message)) message place i (omega arith) (rw t (omega arith)) (omega arith))
]

-- a message of several frames
module _ (identifier : Dir → Id) (line micros : ℕ) (T : List Entry) (d : Dir) (message : List ℕ) (begun : ℕ)
    (stand : StandFrom identifier line micros T d message begun) (low : 8 ≤ length message) (bits : length message < 2 ^ 32) where
  abbrev len : ℕ
  len = length message

  abbrev in_first : ℕ
  in_first = room_in_first len

  abbrev count : ℕ
  count = consecutive_count len

  start : FirstFrame
  start = record { line = line + begun; micros = micros + begun * 1000; len = len; rx_dl = 8; bytes = take in_first message }

  starts : role (channel_of d) (entry identifier line micros begun (d, padded (first_control len) message)) ≡ first start
  unfolding start
  starts = first-role identifier line micros d begun message low bits

  held : places.bytes_in_first (padded (first_control len) message) ≡ in_first
  unfolding start
  held =
      let at_none = places_agree_on_bytes (channel_of d) _ start 0 starts in
      let few = room_in_first-few len in
      omega (arith, length-take-le in_first message (omega arith))

  -- the frame before consecutive frame `number` is its reference
  reference-of : (number : ℕ) → 1 ≤ number → 1 + number < frame_count len
      → (x : Entry) × At T (begun + number) x × RestartsTimer (role (channel_of d) x) × (x.micros ≡ micros + (begun + number) * 1000)
  reference-of zero one below = absurd (omega arith)
  reference-of (suc zero) one below = (
    _,
    at-continue identifier line micros T d message begun stand (omega arith) (omega arith),
    rw (continue-role identifier line micros d (begun + 1)) tt,
    refl,
  )
  reference-of (suc (suc number)) one below =
      let next : 1 + suc number ≡ suc (suc number) = omega arith in
      let bytes = drop (place_of len (suc number)) message in
      let at = subst (λ j. At T (begun + j) (entry identifier line micros (begun + j) (d, padded (consecutive_control (suc number)) bytes))) next
      (at-consecutive identifier line micros T d message begun stand (suc number) (omega arith) (omega arith) (omega arith)) in
      (_, at, rw (consecutive-role identifier line micros d (begun + suc (suc number)) (suc number) bytes) tt, refl)

  part : (number : ℕ) → 1 ≤ number → number ≤ count → IsConsecutiveFrame T (channel_of d) message begun start in_first count number (begun + (1 + number))
  unfolding start
  part number one most =
      let all = total-long len (omega arith) in
      let few = room_in_first-few len in
      let below : 1 + number < frame_count len = omega arith in
      let before = reference-of number one below in
      let bytes = drop (place_of len number) message in
      record {
        next = record {
          entry = entry identifier line micros (begun + (1 + number)) (d, padded (consecutive_control number) bytes);
          stands = at-consecutive identifier line micros T d message begun stand number (omega arith) one below;
          sequence_number = number % 16;
          can_dl = 8;
          bytes = drop 1 (padded (consecutive_control number) bytes);
          kind = consecutive-role identifier line micros d (begun + (1 + number)) number bytes;
        };
        fits = record {
          from_one = one;
          to_last = most;
          in_sequence = refl;
          full = λ _. refl;
          last_low = λ last. omega arith;
          last_high = λ _. omega arith;
        };
        on_time = (
          begun + number,
          before.0,
          record {
            from = omega arith;
            below = omega arith;
            restarts = inr (before.0, before.1, before.2);
            greatest = λ p x above under there _. absurd (omega arith);
          },
          before.1,
          (let time = before.3 in omega arith),
        );
        holds = λ offset within inside.
            sym (get_or-drop (place_of len number) message offset 0)
            ∙ padded-holds (consecutive_control number) bytes offset (1 + offset)
            (omega (arith, length-drop (place_of len number) message)) refl (omega arith);
      }

  parts-from : (many number position : ℕ) → 1 ≤ number → number + many ≡ count + 1 → position ≡ begun + (1 + number)
      → EachNumbered (IsConsecutiveFrame T (channel_of d) message begun start in_first count) number (range_with_len position many)
  parts-from zero number position one sum place = tt
  parts-from (suc many) number position one sum place = (
    subst (IsConsecutiveFrame T (channel_of d) message begun start in_first count number) (sym place) (part number one (omega arith)),
    parts-from many (number + 1) (position + 1) (omega arith) (omega arith) (omega arith),
  )

  is-segmented : IsSegmented T (channel_of d) message begun (range_with_len (begun + 2) count)
  unfolding start
  is-segmented =
      let all = total-long len (omega arith) in
      let few = room_in_first-few len in
      let size : length (range_with_len (begun + 2) count) ≡ count = length-range_with_len (begun + 2) count in
      record {
        begins = record {
          entry = entry identifier line micros begun (d, padded (first_control len) message);
          stands = at-first identifier line micros T d message begun stand (omega arith) (omega arith);
          start = start;
          kind = starts;
        };
        announces = refl;
        least = rw (held, size) (consecutive_count_is_least len (omega arith));
        consecutive_frames = rw (held, size) (parts-from count 1 (begun + 2) (omega arith) (omega arith) (omega arith));
        holds = λ place inside. (let held_there = held in first-holds message place _ low (omega arith) (ap (λ j. 8 - j + place) held_there));
      }

-- any message
module _ (identifier : Dir → Id) (line micros limit : ℕ) (bits : limit < 2 ^ 32) (T : List Entry) (d : Dir) (message : List ℕ) (begun : ℕ)
    (some : 1 ≤ length message) (fits : length message ≤ limit) (stand : StandFrom identifier line micros T d message begun) where
  pub transfer-of : IsTransfer limit T (record { channel = channel_of d; message = message; positions = positions_of message begun })
  transfer-of = elim (cases_Bool (nat_le (length message) 7)) [
    | inl t ↦
        (let short = leb-true (length message) 7 t in
        let one = total-short (length message) short in
        record {
          some = some;
          fits = fits;
          rising = rw t (omega arith, tt);
          carried = rw t (unsegmented (record {
            entry = _;
            stands = at-single identifier line micros T d message begun stand short (omega arith);
            kind = single-role identifier line micros d begun message some short;
          }));
        })
    | inr t ↦
        (let long = leb-false (length message) 7 t in
        record {
          some = some;
          fits = fits;
          rising = rw t (omega arith, rising-range (suc begun) (begun + 2) _ (omega arith));
          carried = rw t (segmented (is-segmented identifier line micros T d message begun stand (omega arith) (omega arith)));
        })
  ]

  idle-continue : (p : ℕ) → IsIdle (layout_in (entry identifier line micros p (other_direction d, padded continue_control [])))
  idle-continue p = rw (says identifier line micros p (other_direction d) _ _ (layout-continue (identifier (other_direction d)))) tt

  -- each frame of a message is at one of its positions, or is the continue frame
  pub at-own : (p : ℕ) (e : Entry) → begun ≤ p → p < begun + frame_count (length message) → At T p e
      → IsIn p (positions_of message begun) ⊎ IsIdle (layout_in e)
  at-own p e above below there = elim (cases_Bool (nat_le (length message) 7)) [
    | inl t ↦ (let one = total-short (length message) (leb-true (length message) 7 t) in inl (rw t (inl (omega arith))))
    | inr t ↦
        (let long = leb-false (length message) 7 t in
        let all = total-long (length message) (omega arith) in
        elim (cases_lt (begun + 1) p) [
          | inl later ↦ inl (rw t (inr (in-range p (begun + 2) (consecutive_count (length message)) (omega arith) (omega arith))))
          | inr most ↦ elim (cases_lt begun p) [
            | inl above_begun ↦
                (let is : p ≡ begun + 1 = omega arith in
                let same = same-entry T (begun + 1) e _ (subst (λ j. At T j e) is there)
                (at-continue identifier line micros T d message begun stand (omega arith) (omega arith)) in
                inr (rw same (idle-continue (begun + 1))))
            | inr least ↦ inl (rw t (inl (omega arith)))
          ]
        ])
  ]
