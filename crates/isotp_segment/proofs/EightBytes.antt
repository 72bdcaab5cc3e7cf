-- Each canonical frame has 8 bytes; and the one frame of a short message.
use Rattle.std.proofs.Common.{◌≡◌, ◌-◌, ◌<◌, ◌^◌, ◌==◌, ◌&&◌, [], ◌∷◌, ◌++◌}
use Rattle.std.proofs.Common.{ℕ, zero, suc, List, length, drop, nat_le, false, sym, subst, arith, inl, inr}
use Rattle.std.proofs.lemmas.Bool.{lt-leb, leb-true, leb-false, cases_Bool, and_parts}
use Rattle.direction.specs.Dir.{other_direction}
use Rattle.can_log.specs.Frame.{AreBytes}
use Rattle.direction.specs.declared.Dir.{Dir}
use Rattle.isotp_pdu.specs.Layout.{single}
use Rattle.isotp_pdu.proofs.Promises.{layout_is_read}
use Rattle.isotp_segment.specs.CanonicalFrames.{padded, single_control, first_control, consecutive_control, continue_control}
use Rattle.isotp_segment.specs.CanonicalFrames.{place_of, frame_count, canonical_frame, canonical_frames}
use Rattle.isotp_segment.specs.Laws.{HasEightBytes, CanonicalFramesHaveEightBytes, ShortMessageIsOneFrame}
use Rattle.isotp_segment.proofs.Bytes.{byte_at, padded-by-place, length-padded}
use Rattle.isotp_segment.proofs.Frames.{frame-single, canonical_frames-short}
use Rattle.isotp_segment.proofs.Layouts.{classic, layout-single}
use Rattle.isotp_segment.proofs.Lists.{AllByRecursion-drop, AllByRecursion-map-range}

byte_at-below : (bytes : List ℕ) (i : ℕ) → AreBytes bytes → byte_at bytes i < 256
byte_at-below [] i each = omega arith
byte_at-below (b ∷ bytes) zero each = each.0
byte_at-below (b ∷ bytes) (suc i) each = byte_at-below bytes i each.1

eight_bytes : (d : Dir) (control bytes : List ℕ) → AreBytes (control ++ bytes) → HasEightBytes (d, padded control bytes)
eight_bytes d control bytes each = record {
  eight = length-padded control bytes;
  bytes = rw (padded-by-place control bytes)
      (AllByRecursion-map-range (λ b. b < 256) (byte_at (control ++ bytes)) 0 8 (λ i. byte_at-below (control ++ bytes) i each));
}

eight_first : (d : Dir) (m : List ℕ) → length m < 2 ^ 32 → AreBytes m → HasEightBytes (d, padded (first_control (length m)) m)
eight_first d m bits each = elim (cases_Bool (nat_le (length m) 4095)) [
  | inl t ↦ (let short = leb-true (length m) 4095 t in rw t (eight_bytes d _ m (omega arith, (omega arith, each))))
  | inr t ↦ rw t (eight_bytes d _ m (omega arith, (omega arith, (omega arith, (omega arith, (omega arith, (omega arith, each)))))))
]

eight_long : (d : Dir) (m : List ℕ) (number : ℕ) → 7 < length m → length m < 2 ^ 32 → AreBytes m → HasEightBytes (canonical_frame d m number)
unfolding canonical_frame
eight_long d m number long bits each = elim (cases_Bool (number == 0)) [
  | inl t ↦ rw (long_is, t) (eight_first d m bits each)
  | inr t ↦ elim (cases_Bool (number == 1)) [
    | inl u ↦ rw (long_is, t, u) (eight_bytes (other_direction d) continue_control [] (omega arith, (omega arith, (omega arith, tt))))
    | inr u ↦ rw (long_is, t, u) (eight_bytes d (consecutive_control (number - 1)) (drop (place_of (length m) (number - 1)) m)
        (omega arith, AllByRecursion-drop (λ b. b < 256) (place_of (length m) (number - 1)) m each))
  ]
] where
  long_is : nat_le (length m) 7 ≡ false
  long_is = lt-leb (length m) 7 long

eight_frame : (d : Dir) (m : List ℕ) (number : ℕ) → length m < 2 ^ 32 → AreBytes m → HasEightBytes (canonical_frame d m number)
eight_frame d m number bits each = elim (cases_Bool (nat_le (length m) 7)) [
  | inl t ↦ (let short = leb-true (length m) 7 t in
      subst HasEightBytes (sym (frame-single d m number short)) (eight_bytes d (single_control (length m)) m (omega arith, each)))
  | inr t ↦ eight_long d m number (leb-false (length m) 7 t) bits each
]

pub canonical_frames_have_eight_bytes : CanonicalFramesHaveEightBytes
unfolding canonical_frames
canonical_frames_have_eight_bytes limit d m bits each = elim (cases_Bool (nat_le 1 (length m) && nat_le (length m) limit)) [
  | inl t ↦ (let fits = leb-true (length m) limit (and_parts (nat_le 1 (length m)) (nat_le (length m) limit) t).1 in
      rw t (AllByRecursion-map-range HasEightBytes (canonical_frame d m) 0 (frame_count (length m))
      (λ number. eight_frame d m number (omega arith) each)))
  | inr t ↦ rw t tt
]

pub short_message_is_one_frame : ShortMessageIsOneFrame
short_message_is_one_frame limit d m some short fits =
    record {
      bytes = padded (single_control (length m)) m;
      alone = canonical_frames-short limit d m some short fits;
      holds = λ id. (layout_is_read (classic id (padded (single_control (length m)) m)) (single m)).1 (layout-single id m some short);
    }
