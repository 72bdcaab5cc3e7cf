-- The 8 bytes of a frame, as they are copied into it.
use Rattle.std.proofs.Common.{◌≡◌, ℕ, ◌+◌, ◌-◌, ◌≤◌, List, ◌++◌, length, take, drop, refl, sym, ◌∙◌, ap, arith}
use Rattle.std.specs.Prelude.{[], ◌∷◌, replicate, slice_set}
use Rattle.std.specs.Array.{IsFirstChunk}
use Rattle.std.proofs.Math.Seq.{take-append_seam, drop-append_seam}
use Rattle.std.proofs.lemmas.List.{append-nil, take-append-le, take_all, length-drop, drop-drop, drop-replicate, take-replicate}
use Rattle.isotp_receive.proofs.Promises.{take_over}
use Rattle.isotp_segment.specs.CanonicalFrames.{padded, padding}
use borrow.Rule.Slice.PartMut.{put_mid}

-- the bytes leave no room for padding
pub padded-whole : (control bytes : List ℕ) → length control ≤ 8 → 8 - length control ≤ length bytes
    → control ++ take (8 - length control) bytes ≡ padded control bytes
unfolding padded
padded-whole control bytes fits long =
    ap (λ l. control ++ l) (sym (take-append-le (8 - length control) bytes (replicate 8 padding) long))
    ∙ take_over control (bytes ++ replicate 8 padding) 8 fits

-- they do
pub padded-short : (control bytes : List ℕ) → length control ≤ 8 → length bytes ≤ 8 - length control
    → control ++ (bytes ++ replicate (8 - length control - length bytes) padding) ≡ padded control bytes
unfolding padded
padded-short control bytes fits short =
    ap (λ l. control ++ (bytes ++ l)) (sym (take-replicate (8 - length control - length bytes) 8 padding (omega arith)))
    ∙ ap (λ l. control ++ l) (take_over bytes (replicate 8 padding) (8 - length control) short)
    ∙ take_over control (bytes ++ replicate 8 padding) 8 fits

-- bytes that are written into a frame of padding, after its control information
put_mid-behind : (control bytes : List ℕ) (size : ℕ)
    → put_mid (length control) size (control ++ drop (length control) (replicate 8 padding)) bytes
    ≡ control ++ (bytes ++ replicate (8 - length control - size) padding)
put_mid-behind control bytes size =
    rw (take-append_seam, drop-append_seam, drop-replicate, drop-replicate) refl

pub put_mid-whole : (control bytes written copied : List ℕ) → length control ≤ 8 → 8 - length control ≤ length bytes
    → written ≡ control → copied ≡ take (8 - length control) bytes
    → put_mid (length control) (8 - length control) (written ++ drop (length control) (replicate 8 padding)) copied ≡ padded control bytes
put_mid-whole control bytes written copied fits long w c =
    let none : 8 - length control - (8 - length control) ≡ 0 = omega arith in
    rw (w, c) (put_mid-behind control (take (8 - length control) bytes) (8 - length control)
    ∙ ap (λ n. control ++ (take (8 - length control) bytes ++ replicate n padding)) none
    ∙ ap (λ l. control ++ l) (append-nil (take (8 - length control) bytes))
    ∙ padded-whole control bytes fits long)

pub put_mid-padded : (control bytes written copied : List ℕ) (size : ℕ) → length control ≤ 8 → length bytes ≤ 8 - length control → size ≡ length bytes
    → written ≡ control → copied ≡ bytes
    → put_mid (length control) size (written ++ drop (length control) (replicate 8 padding)) copied ≡ padded control bytes
put_mid-padded control bytes written copied size fits short is w c =
    rw (w, c, is) (put_mid-behind control bytes (length bytes) ∙ padded-short control bytes fits short)

-- a full frame, made of the eight bytes from one before its own on: the control information goes over that one
full_frame : (control : ℕ) (before chunk : List ℕ) → IsFirstChunk before chunk 8 → slice_set chunk 0 control ≡ padded (control ∷ []) (drop 1 before)
full_frame control [] chunk first = absurd (omega (arith, first.enough))
full_frame control (byte ∷ bytes) chunk first =
    ap (λ l. slice_set l 0 control) first.same ∙ padded-whole (control ∷ []) bytes (omega arith) (omega (arith, first.enough))

pub full_frame_at : (control place before : ℕ) (message chunk : List ℕ) → before + 1 ≡ place
    → IsFirstChunk (take (length message - before) (drop before message)) chunk 8
    → slice_set chunk 0 control ≡ padded (control ∷ []) (drop place message)
full_frame_at control place before message chunk is first =
    let rest = take_all (length message - before) (drop before message) (omega (arith, length-drop before message)) in
    full_frame control _ chunk first ∙ ap (λ l. padded (control ∷ []) (drop 1 l)) rest
    ∙ ap (padded (control ∷ [])) (drop-drop 1 before message ∙ ap (λ n. drop n message) is)
