-- The canonical frames of messages, a millisecond apart, are a recording of them.
use Rattle.std.proofs.Common.{◌≡◌, ℕ, ◌+◌, ◌<◌, ◌≤◌, ◌^◌, false, List, [], ◌∷◌, length, map, nat_lt, refl, sym, ◌∙◌, ap, arith, inl, inr}
use Rattle.std.specs.Prelude.{◌⊎◌}
use Rattle.std.specs.List.{AllByRecursion}
use Rattle.std.proofs.lemmas.Bool.{le-ltb, cases_lt}
use Rattle.std.proofs.lemmas.Option.{slice_get_within}
use Rattle.direction.specs.Dir.{Message}
use Rattle.direction.specs.declared.Dir.{Dir}
use Rattle.can_log.specs.declared.frame.Id.{Id}
use Rattle.isotp_receive.specs.Channels.{channel_of, dir_of}
use Rattle.isotp_receive.proofs.Promises.{sender}
use Rattle.isotp_receive.specs.Trace.{Entry, At, layout_in}
use Rattle.isotp_receive.specs.Recording.{Transfer, IsTransfer, IsIn, last_or, AreApart, EachPair, IsGiven, IsIdle, IsRecording, ended_within}
use Rattle.isotp_segment.specs.CanonicalFrames.{frame_count}
use Rattle.isotp_segment.specs.Timed.{timed, HasFrames, all_frames}
use Rattle.isotp_segment.proofs.Positions.{positions_of, position-bounds, last-position, last-position-is}
use Rattle.isotp_segment.proofs.CarriedMessage.{transfer-of, at-own}
use Rattle.isotp_segment.proofs.AllFrames.{AreLastFrom, all-of-them, those-behind, those-of-first, none-left}

-- a message with the positions of its frames, the first of which is `begun`
abbrev pub transfer_from : ℕ → Message → Transfer
transfer_from begun x = record { channel = channel_of x.0; message = x.1; positions = positions_of x.1 begun }

-- the messages, each after the one before
abbrev pub transfers_from : ℕ → List Message → List Transfer
transfers_from begun [] = []
transfers_from begun (x ∷ M) = transfer_from begun x ∷ transfers_from (begun + frame_count (length x.1)) M

-- a message whose positions are below `bound`, and all that begin from there on
later-apart : (t : Transfer) (bound : ℕ) → ((p : ℕ) → IsIn p t.positions → p < bound) → last_or 0 t.positions < bound
    → (M : List Message) (begun : ℕ) → bound ≤ begun → AllByRecursion (AreApart t) (transfers_from begun M)
later-apart t bound below last [] begun most = tt
later-apart t bound below last (x ∷ M) begun most = (
  record {
    shared = λ p i j. (let a = below p i in let b = position-bounds x.1 begun p j in absurd (omega arith));
    apart = λ _. inl (λ p q i j. let a = below p i in let b = position-bounds x.1 begun q j in omega arith);
    order = (let b = position-bounds x.1 begun (last_or 0 (positions_of x.1 begun)) (last-position x.1 begun) in omega arith);
  },
  later-apart t bound below last M (begun + frame_count (length x.1)) (omega arith),
)

each-pair : (M : List Message) (begun : ℕ) → EachPair AreApart (transfers_from begun M)
each-pair [] begun = tt
each-pair (x ∷ M) begun =
    let behind = begun + frame_count (length x.1) in (
      later-apart (transfer_from begun x) behind (λ p i. (position-bounds x.1 begun p i).1)
          (position-bounds x.1 begun (last_or 0 (positions_of x.1 begun)) (last-position x.1 begun)).1 M behind (omega arith),
      each-pair M behind,
    )

messages-same : (M : List Message) (begun : ℕ) → map {B = Message} (λ t. (dir_of t.channel, t.message)) (transfers_from begun M) ≡ M
messages-same [] begun = refl
messages-same (x ∷ M) begun =
    ap (λ b. (b, x.1) ∷ map {B = Message} (λ t. (dir_of t.channel, t.message)) (transfers_from (begun + frame_count (length x.1)) M)) (sym (sender x.0))
    ∙ ap (λ l. x ∷ l) (messages-same M (begun + frame_count (length x.1)))

module _ (identifier : Dir → Id) (line micros limit : ℕ) (bits : limit < 2 ^ 32) where
  module _ (frames : List (Dir × List ℕ)) where
    abbrev T : List Entry
    T = timed identifier line micros frames

    each-transfer : (M : List Message) (begun : ℕ) → AreLastFrom limit frames M begun → AllByRecursion (IsTransfer limit T) (transfers_from begun M)
    each-transfer [] begun last = tt
    each-transfer (x ∷ M) begun last = (
      transfer-of identifier line micros limit bits T x.0 x.1 begun last.sizes.0.some last.sizes.0.fits
          (those-of-first identifier line micros limit frames x M begun last),
      each-transfer M (begun + frame_count (length x.1)) (those-behind limit frames x M begun last),
    )

    all-others : (M : List Message) (begun : ℕ) → AreLastFrom limit frames M begun
        → (p : ℕ) (e : Entry) → begun ≤ p → At T p e → IsGiven p (transfers_from begun M) ⊎ IsIdle (layout_in e)
    all-others [] begun last p e above there =
        absurd (omega (arith, slice_get_within T p e there, none-left identifier line micros limit frames begun last))
    all-others (x ∷ M) begun last p e above there = elim (cases_lt p (begun + frame_count (length x.1))) [
      | inl own ↦ elim (at-own identifier line micros limit bits T x.0 x.1 begun last.sizes.0.some last.sizes.0.fits
          (those-of-first identifier line micros limit frames x M begun last) p e above own there) [
            | inl given ↦ inl (inl given)
            | inr idle ↦ inr idle
          ]
      | inr later ↦ elim (all-others M (begun + frame_count (length x.1)) (those-behind limit frames x M begun last) p e later there) [
        | inl given ↦ inl (inr given)
        | inr idle ↦ inr idle
      ]
    ]

  pub frames-recording : (M : List Message) → AllByRecursion (HasFrames limit) M
      → IsRecording limit (timed identifier line micros (all_frames limit M)) M
  frames-recording M sizes = record {
    transfers = transfers_from 0 M;
    messages = messages-same M 0;
    each = each-transfer (all_frames limit M) M 0 (all-of-them limit M sizes);
    pairs = each-pair M 0;
    others = λ p e there. all-others (all_frames limit M) M 0 (all-of-them limit M sizes) p e (omega arith) there;
  }

  pub their-transfers : (M : List Message) (sizes : AllByRecursion (HasFrames limit) M) → (frames-recording M sizes).transfers ≡ transfers_from 0 M
  unfolding frames-recording
  their-transfers M sizes = refl

  -- before the last of its frames a message is not ended
  pub frames-ended : (d : Dir) (message : List ℕ) (sizes : AllByRecursion (HasFrames limit) ((d, message) ∷ [])) (n : ℕ)
      → n < frame_count (length message)
      → ended_within n (frames-recording ((d, message) ∷ []) sizes).transfers ≡ []
  unfolding frames-recording
  frames-ended d message sizes n below =
      let last = last-position-is message 0 sizes.0.some in
      let later : nat_lt (last_or 0 (positions_of message 0)) n ≡ false = le-ltb (last_or 0 (positions_of message 0)) n (omega arith) in
      rw later refl
