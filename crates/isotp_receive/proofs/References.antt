-- The reference frame of a consecutive frame: how it moves from one position to the next, and that there is one only.
use Rattle.std.proofs.Common.{◌≡◌, ℕ, suc, ◌+◌, ◌<◌, ◌≤◌, true, List, [], ◌∷◌, ◌++◌, length, nat_le, refl, sym, ◌∙◌, ap, arith, inl, inr, subst}
use Rattle.std.proofs.Common.{append_assoc, length-append}
use Rattle.std.specs.Prelude.{◌⊎◌}
use Rattle.std.proofs.lemmas.Bool.{leb-true, le-leb, cases_lt}
use Rattle.isotp_receive.specs.declared.channel.Channel.{Channel}
use Rattle.isotp_receive.specs.Trace.{Entry, At, FirstFrame, FrameRole, single, first, consecutive, continue_or_wait, overflow, no_part, role}
use Rattle.isotp_receive.specs.StandingReception.{referred, reference}
use Rattle.isotp_receive.specs.OnTime.{n_cr, RestartsTimer, IsReference, IsOnTime}
use Rattle.isotp_receive.specs.Laws.{OneReference, OnTimeIsWithinASecond}
use Rattle.isotp_receive.proofs.ListPositions.{get-same, get-here}
use Rattle.isotp_receive.proofs.Readings.{first_from}

-- a frame that restarts no timer leaves the reference
pub stays : (T : List Entry) (d : Channel) (n i q : ℕ) (e : Entry) → At T n e → (RestartsTimer (role d e) → ⊥) → IsReference T d i n q → IsReference T d i (suc n) q
stays T d n i q e at quiet ref = record {
  from = ref.from;
  below = (let h = ref.below in omega arith);
  restarts = ref.restarts;
  greatest = λ p x above below there restarts. elim (cases p below) [
    | inl lt ↦ ref.greatest p x above lt there restarts
    | inr same ↦ (let there_n : At T n x = subst (λ j. At T j x) same there in
        let is_e : x ≡ e = get-same T n x e there_n at in
        quiet (rw is_e at restarts))
  ];
} where
  cases : (p : ℕ) → p < suc n → (p < n) ⊎ (p ≡ n)
  cases p below = elim (cases_lt p n) [ inl less ↦ inl less | inr most ↦ inr (omega arith) ]

-- and so does one that has no part
pub still : (T : List Entry) (d : Channel) (n i q : ℕ) (e : Entry) → At T n e → role d e ≡ no_part → IsReference T d i n q → IsReference T d i (suc n) q
still T d n i q e at quiet = stays T d n i q e at (λ restarts. rw quiet at restarts)

pub moved : (T : List Entry) (d : Channel) (n i : ℕ) (e : Entry) → i ≤ n → At T n e → RestartsTimer (role d e) → IsReference T d i (suc n) n
moved T d n i e from at restarts = record {
  from = from;
  below = omega arith;
  restarts = inr (e, at, restarts);
  greatest = λ p x above below there _. absurd (omega arith);
}

pub same-reference : OneReference
same-reference T d i c q r a b = elim (cases_lt q r) [
  | inl less ↦ absurd (above T d i c q r a b less)
  | inr most ↦ elim (cases_lt r q) [
    | inl less ↦ absurd (above T d i c r q b a less)
    | inr least ↦ omega arith
  ]
] where
  above : (T : List Entry) (d : Channel) (i c q r : ℕ) → IsReference T d i c q → IsReference T d i c r → q < r → ⊥
  above T d i c q r a b lt = elim b.restarts [
    | inl is_first ↦ (let h = a.from in omega arith)
    | inr w ↦ a.greatest r w.0 lt b.below w.1 w.2
  ]

-- right after its first frame, a reception refers to that
pub begins-at : (T : List Entry) (d : Channel) (i : ℕ) → IsReference T d i (suc i) i
begins-at T d i = record { from = omega arith; below = omega arith; restarts = inl refl; greatest = λ p x above less there _. absurd (omega arith) }

-- the reference that is known, and the time of it
pub record RefersTo (T : List Entry) (d : Channel) (i n t : ℕ) : Type 0 where
  pub q : ℕ
  pub e : Entry
  pub reference : IsReference T d i n q
  pub stands : At T q e
  pub time : t ≡ e.micros

refers-next : (T : List Entry) (d : Channel) (i n t : ℕ) (x : Entry) (r : FrameRole) → i ≤ n → At T n x → role d x ≡ r → RefersTo T d i n t → RefersTo T d i (suc n) (referred r x.micros t)
refers-next T d i n t x (consecutive sequence_number can_dl bytes) from at is h = record { q = n; e = x; reference = moved T d n i x from at (rw is tt); stands = at; time = refl }
refers-next T d i n t x continue_or_wait from at is h = record { q = n; e = x; reference = moved T d n i x from at (rw is tt); stands = at; time = refl }
refers-next T d i n t x (single m) from at is h = record { q = h.q; e = h.e; reference = stays T d n i h.q x at (λ w. rw is at w) h.reference; stands = h.stands; time = h.time }
refers-next T d i n t x (first s) from at is h = record { q = h.q; e = h.e; reference = stays T d n i h.q x at (λ w. rw is at w) h.reference; stands = h.stands; time = h.time }
refers-next T d i n t x overflow from at is h = record { q = h.q; e = h.e; reference = stays T d n i h.q x at (λ w. rw is at w) h.reference; stands = h.stands; time = h.time }
refers-next T d i n t x no_part from at is h = record { q = h.q; e = h.e; reference = stays T d n i h.q x at (λ w. rw is at w) h.reference; stands = h.stands; time = h.time }

refers-after : (T : List Entry) (d : Channel) (i n t : ℕ) (before todo rest : List Entry) → T ≡ before ++ (todo ++ rest) → n ≡ length before → i ≤ n
    → RefersTo T d i n t → RefersTo T d i (n + length todo) (reference d t todo)
refers-after T d i n t before [] rest split size from h = (let same : n + 0 ≡ n = omega arith in subst (λ j. RefersTo T d i j t) (sym same) h)
refers-after T d i n t before (x ∷ todo) rest split size from h =
    let at : At T n x = rw (split, size) (get-here before (todo ++ rest) x) in
    let next = refers-next T d i n t x (role d x) from at refl h in
    let split_next : T ≡ (before ++ x ∷ []) ++ (todo ++ rest) = split ∙ sym (append_assoc before (x ∷ []) (todo ++ rest)) in
    let size_next : suc n ≡ length (before ++ x ∷ []) = omega (arith, length-append before (x ∷ [])) in
    let sum : suc n + length todo ≡ n + length (x ∷ todo) = omega arith in
    subst (λ j. RefersTo T d i j (reference d (referred (role d x) x.micros t) todo)) sum
    (refers-after T d i (suc n) (referred (role d x) x.micros t) (before ++ x ∷ []) todo rest split_next size_next (omega arith) next)

-- the reference of a reception that began with s, after the frames b
pub refers : (d : Channel) (before : List Entry) (e : Entry) (s : FirstFrame) (b rest : List Entry) → role d e ≡ first s
    → RefersTo (before ++ e ∷ (b ++ rest)) d (length before) (suc (length before) + length b) (reference d s.micros b)
refers d before e s b rest is =
    let T = before ++ e ∷ (b ++ rest) in
    let from = first_from d e s is in
    refers-after T d (length before) (suc (length before)) s.micros (before ++ e ∷ []) b rest (sym (append_assoc before (e ∷ []) (b ++ rest)))
    (omega (arith, length-append before (e ∷ []))) (omega arith)
    (record { q = length before; e = e; reference = begins-at T d (length before); stands = get-here before (b ++ rest) e; time = from.time })

-- ---- on time is what the times say

-- the same said of the same frame in another spelling of the trace
pub on-time-same : (d : Channel) (T T' : List Entry) (i i' n n' : ℕ) (x x' : Entry) → T ≡ T' → i ≡ i' → n ≡ n' → x ≡ x' → IsOnTime T d i n x → IsOnTime T' d i' n' x'
on-time-same d T T' i i' n n' x x' whole begun place frame on =
    subst (λ y. IsOnTime T' d i' n' y) frame (subst (λ j. IsOnTime T' d i' j x) place (subst (λ j. IsOnTime T' d j n x) begun (subst (λ l. IsOnTime l d i n x) whole on)))

pub on-time-from : (T : List Entry) (d : Channel) (i n t : ℕ) (x : Entry) → RefersTo T d i n t → nat_le x.micros (t + n_cr) ≡ true → IsOnTime T d i n x
on-time-from T d i n t x h test = (h.q, h.e, h.reference, h.stands, (let le = leb-true x.micros (t + n_cr) test in let time = h.time in omega arith))

pub on-time-to : (T : List Entry) (d : Channel) (i n t : ℕ) (x : Entry) → RefersTo T d i n t → IsOnTime T d i n x → nat_le x.micros (t + n_cr) ≡ true
on-time-to T d i n t x h on =
    let same_q : on.0 ≡ h.q = same-reference T d i n on.0 h.q on.2 h.reference in
    let there : At T h.q on.1 = subst (λ j. At T j on.1) same_q on.3 in
    let same_e : on.1 ≡ h.e = get-same T h.q on.1 h.e there h.stands in
    let time : t ≡ on.1.micros = h.time ∙ ap (λ e. e.micros) (sym same_e) in
    le-leb x.micros (t + n_cr) (let late = on.4 in omega arith)

-- whatever the reference frame is called, it is the one, and so N_Cr is what the law says
pub within-a-second : OnTimeIsWithinASecond
within-a-second T d i n q x last ref there = (to, λ within. (q, last, ref, there, within)) where
  to : IsOnTime T d i n x → x.micros ≤ last.micros + 1000000
  to on =
      let same_q : on.0 ≡ q = same-reference T d i n on.0 q on.2 ref in
      let here : At T q on.1 = subst (λ j. At T j on.1) same_q on.3 in
      let same_e : on.1 ≡ last = get-same T q on.1 last here there in
      subst (λ e. x.micros ≤ e.micros + 1000000) same_e on.4
