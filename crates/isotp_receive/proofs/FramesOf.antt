-- A recording gives each message the positions of the frames that make it, and each such frame to one message.
use Rattle.std.proofs.Common.{◌≡◌, ℕ, suc, ◌≤◌, List, [], ◌∷◌, ◌++◌, length, map, Result, Ok, Err, refl, sym, ◌∙◌, ap, arith, inl, inr, subst}
use Rattle.std.proofs.Common.{append_assoc, length-append}
use Rattle.std.specs.Prelude.{◌⊎◌}
use Rattle.std.specs.List.{AllByRecursion}
use Rattle.std.proofs.lemmas.Bool.{cases_Bool, cases_lt}
use Rattle.direction.specs.Dir.{Message}
use Rattle.isotp_receive.specs.declared.channel.Channel.{Channel}
use Rattle.can_log.proofs.Promises.{AllByRecursion-append, AllByRecursion-both}
use Rattle.isotp_pdu.specs.Layout.{Layout}
use Rattle.isotp_pdu.specs.Layout as layout
use Rattle.isotp_receive.specs.Trace.{Entry, FirstFrame, ConsecutiveFrameAt, single, first, role, At}
use Rattle.isotp_receive.specs.Places.{consecutive_by}
use Rattle.isotp_receive.specs.Delivers.{Completes, Delivers, in_one_frame, in_frames}
use Rattle.isotp_receive.specs.Verdict.{VerdictValue, message, began, stored, flowed, dropped, verdict}
use Rattle.isotp_receive.specs.Recording.{IsConsecutiveFrame, IsRisingFrom, IsSegmented, Carries, unsegmented, segmented, Transfer, IsTransfer, IsIn, last_or, AllBefore, AreApart, EachPair}
use Rattle.isotp_receive.specs.Recording.{IsGiven, IsIdle, IsRecording}
use Rattle.isotp_receive.specs.FramesOf.{IsConsecutiveWithin, AreFramesOf, alone, together, AreGivenTheirFrames, CarriesMessage, IsGivenOnce, EachBelongsOnce}
use Rattle.isotp_receive.proofs.Heard.{placed}
use Rattle.isotp_receive.proofs.ListPositions.{get-same}
use Rattle.isotp_receive.proofs.PositionLists.{above-least, below-last, last-in, numbered-in}
use Rattle.isotp_receive.proofs.Directions.{same}
use Rattle.isotp_receive.proofs.StandingLaws.{no-first}
use Rattle.isotp_receive.proofs.DeliversLaws.{delivers-there}
use Rattle.isotp_receive.proofs.Told.{Placed, tag, all_told}
use Rattle.isotp_receive.proofs.OwnFrames.{IsOwn, own-other, carries-own, idle-own}
use Rattle.isotp_receive.proofs.Delivered.{transfer_place, told-recording}
use Rattle.isotp_receive.specs.Channels.{same_channel}
use Rattle.isotp_receive.specs.Trace.{layout_in}
use Rattle.isotp_receive.specs.declared.event.Reason.{Reason}

-- ---- each message is delivered at the last of its positions

DeliveredAt : ℕ → List Entry → Placed → Type 0
DeliveredAt limit T x = Delivers limit T x.place x.channel x.message

one-delivered : (limit : ℕ) (T past rest : List Entry) (e : Entry) (n : ℕ) (t : VerdictValue) → (verdict limit past e).verdict ≡ t → n ≡ length past → T ≡ past ++ e ∷ rest
    → AllByRecursion (DeliveredAt limit T) (tag e.channel (placed n t))
unfolding DeliveredAt
one-delivered limit T past rest e n (message m) is place whole = (
  subst (λ w. Delivers limit w n e.channel m) (sym whole)
      (subst (λ p. Delivers limit (past ++ e ∷ rest) p e.channel m) (sym place) (delivers-there limit past rest e m is)),
  tt,
)
one-delivered limit T past rest e n began is place whole = tt
one-delivered limit T past rest e n stored is place whole = tt
one-delivered limit T past rest e n flowed is place whole = tt
one-delivered limit T past rest e n (dropped r) is place whole = tt

told-delivered : (limit : ℕ) (T : List Entry) (n : ℕ) (past es : List Entry) → n ≡ length past → T ≡ past ++ es → AllByRecursion (DeliveredAt limit T) (all_told limit n past es)
told-delivered limit T n past [] place whole = tt
told-delivered limit T n past (e ∷ es) place whole =
    AllByRecursion-append (DeliveredAt limit T) (tag e.channel (placed n (verdict limit past e).verdict)) (all_told limit (suc n) (past ++ e ∷ []) es)
    (one-delivered limit T past es e n (verdict limit past e).verdict refl place whole)
    (told-delivered limit T (suc n) (past ++ e ∷ []) es (omega (arith, length-append past (e ∷ []))) (whole ∙ sym (append_assoc past (e ∷ []) es)))

AtItsLast : ℕ → List Entry → Transfer → Type 0
AtItsLast limit T t = Delivers limit T (last_or 0 t.positions) t.channel t.message

by-transfer : (limit : ℕ) (T : List Entry) (ts : List Transfer) → AllByRecursion (DeliveredAt limit T) (map transfer_place ts) → AllByRecursion (AtItsLast limit T) ts
unfolding DeliveredAt AtItsLast
by-transfer limit T [] h = tt
by-transfer limit T (t ∷ ts) h = (h.0, by-transfer limit T ts h.1)

delivered-at-last : (limit : ℕ) (T : List Entry) (M : List Message) (r : IsRecording limit T M) → AllByRecursion (AtItsLast limit T) r.transfers
delivered-at-last limit T M r =
    by-transfer limit T r.transfers (subst (AllByRecursion (DeliveredAt limit T)) (told-recording limit [] T M r) (told-delivered limit T 0 [] T refl refl))

-- ---- a frame of the direction between the first and the last frame of a message is one of them

-- another message that was given the position
record Other (limit : ℕ) (T : List Entry) (t : Transfer) (p : ℕ) : Type 0 where
  x : Transfer
  is : IsTransfer limit T x
  given : IsIn p x.positions
  apart : t.channel ≡ x.channel → AllBefore t.positions x.positions ⊎ AllBefore x.positions t.positions

-- a position that was given is the message's own, or another's
Shares : ℕ → List Entry → List Transfer → Transfer → Type 0
Shares limit T ts t = (p : ℕ) → IsGiven p ts → IsIn p t.positions ⊎ Other limit T t p

later-other : (limit : ℕ) (T : List Entry) (t : Transfer) (p : ℕ) (ts : List Transfer)
    → AllByRecursion (IsTransfer limit T) ts → AllByRecursion (AreApart t) ts → IsGiven p ts → Other limit T t p
later-other limit T t p [] each apart given = absurd given
later-other limit T t p (x ∷ ts) each apart (inl i) = record { x = x; is = each.0; given = i; apart = apart.0.apart }
later-other limit T t p (x ∷ ts) each apart (inr g) = later-other limit T t p ts each.1 apart.1 g

shares : (limit : ℕ) (T : List Entry) (ts : List Transfer) → AllByRecursion (IsTransfer limit T) ts → EachPair AreApart ts → AllByRecursion (Shares limit T ts) ts
unfolding Shares
shares limit T [] each pairs = tt
shares limit T (t ∷ ts) each pairs = (
  λ p given. elim given [ inl i ↦ inl i | inr g ↦ inr (later-other limit T t p ts each.1 pairs.0 g) ],
  AllByRecursion-both (Shares limit T ts) (AreApart t) (Shares limit T (t ∷ ts)) (λ x h a p given. elim given [
    | inl i ↦ inr (record { x = t; is = each.0; given = i; apart = λ one. elim (a.apart (sym one)) [ inl b ↦ inr b | inr b ↦ inl b ] })
    | inr g ↦ h p g
  ]) ts (shares limit T ts each.1 pairs.1) pairs.0,
)

own-within : (limit : ℕ) (T : List Entry) (ts : List Transfer) (t : Transfer) → Shares limit T ts t → ((p : ℕ) (e : Entry) → At T p e → IsGiven p ts ⊎ IsIdle (layout_in e))
    → (i p x : ℕ) (e : Entry) → IsIn i t.positions → IsIn p t.positions → i ≤ x → x ≤ p → At T x e → IsOwn (role t.channel e) → IsIn x t.positions
unfolding Shares
own-within limit T ts t shared others i p x e first_in last_in low high at own = elim (others x e at) [
  | inr idle ↦ absurd (idle-own t.channel e idle own)
  | inl given ↦ elim (shared x given) [
    | inl mine ↦ mine
    | inr other ↦ elim (cases_Bool (same_channel t.channel other.x.channel)) [
      | inl s ↦ elim (other.apart (same t.channel other.x.channel s)) [
        | inl b ↦ absurd (let less = b p x last_in other.given in omega arith)
        | inr b ↦ absurd (let less = b x i other.given first_in in omega arith)
      ]
      | inr s ↦ absurd (let its = carries-own T other.x.channel other.x.message other.x.positions x e other.is.carried other.given at in
          let none = own-other t.channel other.x.channel e s its in rw none at own)
    ]
  ]
]

-- ---- the frames of a segmented message

-- no other frame is there
not-consecutive : (T : List Entry) (d : Channel) (p : ℕ) (e : Entry) → At T p e → consecutive_by (role d e) ≡ 0 → ConsecutiveFrameAt T d p → ⊥
not-consecutive T d p e at zero_by c =
    let is_e : c.entry ≡ e = get-same T p c.entry e c.stands at in
    let zero : consecutive_by (role d c.entry) ≡ 0 = ap (λ x. consecutive_by (role d x)) is_e ∙ zero_by in
    let one = ap consecutive_by c.kind in omega arith

module _ (limit : ℕ) (T : List Entry) (d : Channel) (m : List ℕ) (i : ℕ) (cs : List ℕ) (l : IsSegmented T d m i cs) (rising : IsRisingFrom 0 (i ∷ cs))
    (mine : (x : ℕ) (e : Entry) → i ≤ x → x ≤ last_or i cs → At T x e → IsOwn (role d e) → IsIn x (i ∷ cs)) where
  at-cs : (x : ℕ) → IsIn x cs → ConsecutiveFrameAt T d x
  at-cs x j =
      let w = numbered-in (IsConsecutiveFrame T d m i l.begins.start _ _) 1 x cs l.consecutive_frames j in
      w.1.next

  -- the reception that the last of them completes began with the first
  started : (c : Completes limit T (last_or i cs) d m) → c.fit.begun ≡ i
  started c =
      let later = c.fit.is_open.later in
      let low = below-last 0 i i cs rising (inl refl) in
      elim (cases_lt c.fit.begun i) [
        | inl before ↦ absurd (elim (cases_lt i (last_or i cs)) [
          | inl below ↦ no-first c.fit.is_open.begins.start l.begins.start _ _ _ _ (role d l.begins.entry) l.begins.kind (c.fit.is_open.each i l.begins.entry before below l.begins.stands)
          | inr most ↦ (let here : last_or i cs ≡ i = omega arith in
              not-consecutive T d (last_or i cs) l.begins.entry (subst (λ j. At T j l.begins.entry) (sym here) l.begins.stands) (ap consecutive_by l.begins.kind) c.fit.next)
        ])
        | inr from ↦ elim (mine c.fit.begun c.fit.is_open.begins.entry (omega arith) (omega arith) c.fit.is_open.begins.stands (rw c.fit.is_open.begins.kind tt)) [
          | inl is ↦ is
          | inr j ↦ absurd (not-consecutive T d c.fit.begun c.fit.is_open.begins.entry c.fit.is_open.begins.stands (ap consecutive_by c.fit.is_open.begins.kind) (at-cs c.fit.begun j))
        ]
      ]

  within-of : (x : ℕ) → IsIn x cs → IsConsecutiveWithin T d i (last_or i cs) x
  within-of x j =
      record { later = above-least (suc i) x cs rising.1 j; within = below-last 0 x i cs rising (inr j); next = at-cs x j }

  of-within : (x : ℕ) → IsConsecutiveWithin T d i (last_or i cs) x → IsIn x cs
  of-within x w =
      let later = w.later in
      elim (mine x w.next.entry (omega arith) w.within w.next.stands (rw w.next.kind tt)) [
        | inl is ↦ absurd (omega arith)
        | inr j ↦ j
      ]

  -- the last of them is no single frame
  last-kind : (e : Entry) → At T (last_or i cs) e → role d e ≡ single m → ⊥
  last-kind e at kind = elim (last-in i cs) [
    | inl is ↦ (let there : At T i e = subst (λ j. At T j e) is at in let is_e : e ≡ l.begins.entry = get-same T i e l.begins.entry there l.begins.stands in
        apart m l.begins.start (sym kind ∙ ap (role d) is_e ∙ l.begins.kind))
    | inr j ↦ not-consecutive T d (last_or i cs) e at (ap consecutive_by kind) (at-cs (last_or i cs) j)
  ] where
    apart : (m : List ℕ) (s : FirstFrame) → single m ≡ first s → ⊥
    apart m s h = cc

  segmented-frames : Delivers limit T (last_or i cs) d m → AreFramesOf limit T d m (i ∷ cs)
  segmented-frames (in_one_frame one) = absurd (last-kind one.entry one.stands one.kind)
  segmented-frames (in_frames c) = together c (started c) (λ x. (within-of x, of-within x))

-- ---- each message is given the positions of its frames

frames-of : (limit : ℕ) (T : List Entry) (d : Channel) (m ps : List ℕ) → Carries T d m ps → IsRisingFrom 0 ps → Delivers limit T (last_or 0 ps) d m
    → ((i p x : ℕ) (e : Entry) → IsIn i ps → IsIn p ps → i ≤ x → x ≤ p → At T x e → IsOwn (role d e) → IsIn x ps) → AreFramesOf limit T d m ps
frames-of limit T d m _ (unsegmented one) rising delivers mine = alone one
frames-of limit T d m _ (segmented {begun = i} {positions = cs} l) rising delivers mine =
    segmented-frames limit T d m i cs l rising (λ x e low high at own. mine i (last_or i cs) x e (inl refl) (last-in i cs) low high at own) delivers

pub gives-frames : (limit : ℕ) (T : List Entry) (M : List Message) (r : IsRecording limit T M) → AreGivenTheirFrames limit T r.transfers
unfolding AtItsLast
gives-frames limit T M r =
    AllByRecursion-both (λ t. IsTransfer limit T t × Shares limit T r.transfers t) (AtItsLast limit T) (λ t. AreFramesOf limit T t.channel t.message t.positions)
    (λ t h delivers. frames-of limit T t.channel t.message t.positions h.0.carried h.0.rising delivers (own-within limit T r.transfers t h.1 r.others))
    r.transfers
    (AllByRecursion-both (IsTransfer limit T) (Shares limit T r.transfers) (λ t. IsTransfer limit T t × Shares limit T r.transfers t) (λ t h g. (h, g))
    r.transfers r.each (shares limit T r.transfers r.each r.pairs))
    (delivered-at-last limit T M r)

-- ---- and each frame is given to one message

not-shared : (p : ℕ) (t : Transfer) (ts : List Transfer) → AllByRecursion (AreApart t) ts → IsIn p t.positions → IsGiven p ts → ⊥
not-shared p t [] apart i given = given
not-shared p t (x ∷ ts) apart i (inl j) = apart.0.shared p i j
not-shared p t (x ∷ ts) apart i (inr g) = not-shared p t ts apart.1 i g

given-once : (p : ℕ) (ts : List Transfer) → EachPair AreApart ts → IsGiven p ts → IsGivenOnce p ts
given-once p [] pairs given = absurd given
given-once p (t ∷ ts) pairs (inl i) = record {
  before = [];
  transfer = t;
  after = ts;
  splits = refl;
  given = i;
  none_before = λ none. none;
  none_after = not-shared p t ts pairs.0 i;
}
given-once p (t ∷ ts) pairs (inr g) =
    let w = given-once p ts pairs.1 g in
    record {
      before = t ∷ w.before;
      transfer = w.transfer;
      after = w.after;
      splits = ap (λ l. t ∷ l) w.splits;
      given = w.given;
      none_before = λ given. elim given [ inl i ↦ not-shared p t ts pairs.0 i g | inr j ↦ w.none_before j ];
      none_after = w.none_after;
    }

carries-idle : (r : Result Layout Reason) → CarriesMessage r → IsIdle r → ⊥
carries-idle (Err f) h idle = h
carries-idle (Ok (layout.single m)) h idle = idle
carries-idle (Ok (layout.first len rx_dl bytes)) h idle = idle
carries-idle (Ok (layout.consecutive sequence_number can_dl bytes)) h idle = idle
carries-idle (Ok (layout.flow_control s)) h idle = h

pub gives-once : (limit : ℕ) (T : List Entry) (M : List Message) (r : IsRecording limit T M) → EachBelongsOnce T r.transfers
gives-once limit T M r p e at carries = elim (r.others p e at) [
  | inl given ↦ given-once p r.transfers r.pairs given
  | inr idle ↦ absurd (carries-idle (layout_in e) carries idle)
]
