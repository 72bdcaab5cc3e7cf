-- Which frames carry messages, and which carry nothing, to the reception of a direction.
use Rattle.std.proofs.Common.{◌≡◌, ℕ, false, List, Result, Ok, Err, refl, sym, inl, inr, subst}
use Rattle.std.specs.Prelude.{⊤, ◌⊎◌}
use Rattle.std.proofs.lemmas.Bool.{cases_Bool}
use Rattle.isotp_receive.specs.declared.channel.Channel.{Channel}
use Rattle.isotp_pdu.specs.declared.Status.TheVariants.{Continue, Wait, Overflow}
use Rattle.isotp_pdu.specs.Layout.{Layout}
use Rattle.isotp_pdu.specs.Layout as layout
use Rattle.isotp_receive.specs.Trace.{Entry, FrameRole, single, first, consecutive, continue_or_wait, overflow, no_part, role, own_role, other_role, At}
use Rattle.isotp_receive.specs.Recording.{IsConsecutiveFrame, Carries, unsegmented, segmented, IsIn, IsIdle}
use Rattle.isotp_receive.proofs.ListPositions.{get-same}
use Rattle.isotp_receive.proofs.PositionLists.{numbered-in}
use Rattle.isotp_receive.proofs.Directions.{same}
use Rattle.isotp_receive.specs.Channels.{same_channel}
use Rattle.isotp_receive.specs.Trace.{layout_in}
use Rattle.isotp_receive.specs.declared.event.Reason.{Reason}

-- a frame of the direction that carries a message
abbrev pub IsOwn : FrameRole → Type 0
IsOwn (single message) = ⊤
IsOwn (first start) = ⊤
IsOwn (consecutive sequence_number can_dl bytes) = ⊤
IsOwn continue_or_wait = ⊥
IsOwn overflow = ⊥
IsOwn no_part = ⊥

-- a frame that neither carries one nor ends one
abbrev pub IsQuiet : FrameRole → Type 0
IsQuiet r = (r ≡ no_part) ⊎ (r ≡ continue_or_wait)

-- ---- a message's frame has no part in the other direction

pub none-own : (r : Result Layout Reason) → IsOwn (other_role r) → ⊥
none-own (Err f) h = h
none-own (Ok (layout.single m)) h = h
none-own (Ok (layout.first len rx_dl bytes)) h = h
none-own (Ok (layout.consecutive sequence_number can_dl bytes)) h = h
none-own (Ok (layout.flow_control Continue)) h = h
none-own (Ok (layout.flow_control Wait)) h = h
none-own (Ok (layout.flow_control Overflow)) h = h

own-foreign : (line micros : ℕ) (r : Result Layout Reason) → IsOwn (own_role line micros r) → other_role r ≡ no_part
own-foreign line micros (Err f) h = absurd h
own-foreign line micros (Ok (layout.single m)) h = refl
own-foreign line micros (Ok (layout.first len rx_dl bytes)) h = refl
own-foreign line micros (Ok (layout.consecutive sequence_number can_dl bytes)) h = refl
own-foreign line micros (Ok (layout.flow_control s)) h = absurd h

pub own-other : (d x : Channel) (e : Entry) → same_channel d x ≡ false → IsOwn (role x e) → role d e ≡ no_part
unfolding role
own-other d x e apart h = elim (cases_Bool (same_channel x e.channel)) [
  | inl t ↦ (let is : same_channel d e.channel ≡ false = subst (λ y. same_channel d y ≡ false) (same x e.channel t) apart in
      let own = rw t at h in rw is (own-foreign e.line e.micros (layout_in e) own))
  | inr t ↦ (let own = rw t at h in absurd (none-own (layout_in e) own))
]

-- ---- the frames that carry a message are its own

pub own-at : (T : List Entry) (d : Channel) (m ps : List ℕ) (p : ℕ) → Carries T d m ps → IsIn p ps → (x : Entry) × At T p x × IsOwn (role d x)
own-at T d m _ p (unsegmented one) (inl is) = (one.entry, subst (λ j. At T j one.entry) (sym is) one.stands, rw one.kind tt)
own-at T d m _ p (unsegmented one) (inr none) = absurd none
own-at T d m _ p (segmented l) (inl is) = (l.begins.entry, subst (λ j. At T j l.begins.entry) (sym is) l.begins.stands, rw l.begins.kind tt)
own-at T d m _ p (segmented {begun = begun} {positions = positions} l) (inr i) =
    let w = numbered-in (IsConsecutiveFrame T d m begun l.begins.start _ _) 1 p positions l.consecutive_frames i in
    (w.1.next.entry, w.1.next.stands, rw w.1.next.kind tt)

pub carries-own : (T : List Entry) (d : Channel) (m ps : List ℕ) (p : ℕ) (e : Entry) → Carries T d m ps → IsIn p ps → At T p e → IsOwn (role d e)
carries-own T d m ps p e carried i at = (let w = own-at T d m ps p carried i in subst (λ x. IsOwn (role d x)) (get-same T p w.0 e w.1 at) w.2)

-- ---- what carries nothing is quiet

own-quiet : (line micros : ℕ) (r : Result Layout Reason) → IsIdle r → IsQuiet (own_role line micros r)
own-quiet line micros (Err f) h = inl refl
own-quiet line micros (Ok (layout.single m)) h = absurd h
own-quiet line micros (Ok (layout.first len rx_dl bytes)) h = absurd h
own-quiet line micros (Ok (layout.consecutive sequence_number can_dl bytes)) h = absurd h
own-quiet line micros (Ok (layout.flow_control s)) h = inl refl

other-quiet : (r : Result Layout Reason) → IsIdle r → IsQuiet (other_role r)
other-quiet (Err f) h = inl refl
other-quiet (Ok (layout.single m)) h = absurd h
other-quiet (Ok (layout.first len rx_dl bytes)) h = absurd h
other-quiet (Ok (layout.consecutive sequence_number can_dl bytes)) h = absurd h
other-quiet (Ok (layout.flow_control Continue)) h = inr refl
other-quiet (Ok (layout.flow_control Wait)) h = inr refl
other-quiet (Ok (layout.flow_control Overflow)) h = absurd h

pub idle-quiet : (d : Channel) (e : Entry) → IsIdle (layout_in e) → IsQuiet (role d e)
unfolding role
idle-quiet d e h = elim (cases_Bool (same_channel d e.channel)) [
  | inl t ↦ rw t (own-quiet e.line e.micros (layout_in e) h)
  | inr t ↦ rw t (other-quiet (layout_in e) h)
]

pub idle-own : (d : Channel) (e : Entry) → IsIdle (layout_in e) → IsOwn (role d e) → ⊥
idle-own d e idle own = elim (idle-quiet d e idle) [ inl q ↦ absurd (rw q at own) | inr q ↦ absurd (rw q at own) ]
