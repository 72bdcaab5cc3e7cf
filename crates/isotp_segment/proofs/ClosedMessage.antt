-- After the canonical frames of a message no reception is open.
use Rattle.std.proofs.Common.{◌≡◌, ℕ, ◌+◌, ◌-◌, ◌<◌, ◌≤◌, List, length, sym, ◌∙◌, ap, arith, inl, inr, subst}
use Rattle.std.proofs.lemmas.Bool.{cases_lt}
use Rattle.direction.specs.Dir.{other_direction}
use Rattle.direction.specs.declared.Dir.{Dir}
use Rattle.isotp_receive.specs.declared.channel.Channel.{Channel}
use Rattle.isotp_receive.specs.Channels.{channel_of}
use Rattle.can_log.specs.declared.frame.Id.{Id}
use Rattle.isotp_pdu.specs.Reading.{layout_of}
use Rattle.isotp_receive.specs.Trace.{Entry, At, role}
use Rattle.isotp_receive.specs.OpenReception.{IsOpenAt}
use Rattle.isotp_segment.specs.CanonicalFrames.{frame_count}
use Rattle.isotp_segment.proofs.Counts.{total-short, total-long}
use Rattle.isotp_segment.proofs.Layouts.{classic, layout-single, layout-consecutive, layout-continue}
use Rattle.isotp_segment.proofs.TimedFrames.{entry}
use Rattle.isotp_segment.proofs.MessageFrames.{at-single, at-first, at-continue, at-consecutive}
use Rattle.isotp_segment.proofs.OpenReceptions.{IsClosedAt, IsFirst, same-entry, begins-reception, open-since, closed-behind}
use Rattle.isotp_segment.proofs.SentMessage.{IsSent, is-completed}

module _ (identifier : Dir → Id) (line micros limit : ℕ) (T : List Entry) (d : Dir) (message : List ℕ) (begun : ℕ)
    (sent : IsSent identifier line micros limit T d message begun) where
  abbrev behind : ℕ
  behind = begun + frame_count (length message)

  -- A reception that is open there began before the frames: of these the first one begins the reception that the last
  -- one completes, and no other begins any.
  module _ (heard : Channel) (from number : ℕ) (reception : IsOpenAt limit T heard from number behind) where
    begins-at : (p : ℕ) (frame : Dir × List ℕ) → At T p (entry identifier line micros p frame) → p ≡ from
        → (heard ≡ channel_of frame.0) × IsFirst (layout_of (classic (identifier frame.0) frame.1))
    begins-at p frame at is =
        let there = subst (λ q. At T q (entry identifier line micros q frame)) is at in
        begins-reception heard (entry identifier line micros from frame) reception.begins.start
        (ap (role heard) (same-entry T from _ reception.begins.entry there reception.begins.stands) ∙ reception.begins.kind)

    not-alone : length message ≤ 7 → begun ≡ from → ⊥
    not-alone short is =
        let one = total-short (length message) short in
        let begins = begins-at begun _ (at-single identifier line micros T d message begun sent.stand short (omega arith)) is in
        rw (layout-single (identifier d) message sent.some short) at begins.1

    module _ (long : 7 < length message) where
      not-first : begun ≡ from → ⊥
      not-first is =
          let all = total-long (length message) long in
          let begins = begins-at begun _ (at-first identifier line micros T d message begun sent.stand long (omega arith)) is in
          let its = is-completed limit T (channel_of d) message begun long sent.given in
          closed-behind limit T (channel_of d) its.last message its.completed number behind (omega (arith, its.ends))
          (subst (λ p. IsOpenAt limit T (channel_of d) p number behind) (sym is ∙ sym its.from)
          (subst (λ h. IsOpenAt limit T h from number behind) begins.0 reception))

      not-continue : begun + 1 ≡ from → ⊥
      not-continue is =
          let all = total-long (length message) long in
          let begins = begins-at (begun + 1) _ (at-continue identifier line micros T d message begun sent.stand long (omega arith)) is in
          rw (layout-continue (identifier (other_direction d))) at begins.1

      not-consecutive : (k : ℕ) → 1 ≤ k → begun + (1 + k) ≡ from → ⊥
      not-consecutive k one is =
          let below : 1 + k < frame_count (length message) = omega (arith, reception.later) in
          let begins = begins-at (begun + (1 + k)) _ (at-consecutive identifier line micros T d message begun sent.stand k long one below) is in
          rw (layout-consecutive (identifier d) k _) at begins.1

      not-of-several : begun ≤ from → ⊥
      not-of-several least = elim (cases_lt begun from) [
        | inr most ↦ not-first (omega arith)
        | inl later ↦ elim (cases_lt (begun + 1) from) [
          | inr most ↦ not-continue (omega arith)
          | inl further ↦ not-consecutive (from - (begun + 1)) (omega arith) (omega arith)
        ]
      ]

    not-of-these : begun ≤ from → ⊥
    not-of-these least = elim (cases_lt 7 (length message)) [
      | inl long ↦ not-of-several long least
      | inr short ↦ (let one = total-short (length message) short in not-alone short (omega (arith, reception.later)))
    ]

  pub closed-behind-message : (heard : Channel) → IsClosedAt limit T heard behind
  closed-behind-message heard from number reception = elim (cases_lt from begun) [
    | inl earlier ↦ sent.closed heard from _ (open-since limit T heard from number behind reception begun earlier (omega arith))
    | inr least ↦ not-of-these heard from number reception least
  ]
