-- What a frame with a clean verdict makes of a direction: the positions whose frames are gathered, and the message that it completes.
use Rattle.std.proofs.Common.{◌≡◌, ℕ, suc, ◌≤◌, List, [], ◌∷◌, ◌++◌, length, map, take, Option, Some, None, refl, arith, length-append, length-take, inl, inr, subst}
use Rattle.std.specs.Prelude.{◌⊎◌}
use Rattle.std.specs.List.{AllByRecursion}
use Rattle.std.proofs.lemmas.Bool.{le-leb}
use Rattle.direction.specs.Dir.{Message}
use Rattle.isotp_receive.specs.declared.channel.Channel.{Channel}
use Rattle.isotp_receive.specs.Trace.{Entry, FrameRole, consecutive, role, At}
use Rattle.isotp_receive.specs.Fit.{one_more, last}
use Rattle.isotp_receive.specs.StandingReception.{StandingReception, fit_of}
use Rattle.isotp_receive.specs.Recording.{unsegmented, segmented, Transfer, IsTransfer, IsIn, last_or, IsGiven}
use Rattle.isotp_receive.specs.proving.Machine.{after, fresh}
use Rattle.isotp_receive.proofs.PositionLists.{in-append, in-left, in-right, rising-append, last-snoc}
use Rattle.isotp_receive.proofs.Readings.{whole_from, next_from}
use Rattle.isotp_receive.proofs.FitTests.{was-last}
use Rattle.isotp_receive.proofs.References.{still, moved}
use Rattle.isotp_receive.proofs.HeardByRole.{completed}
use Rattle.isotp_receive.proofs.OwnFrames.{IsOwn}
use Rattle.isotp_receive.proofs.CleanFrames.{Turn, t_single, t_first, t_more, t_last, t_continue_or_wait, t_no_part}
use Rattle.isotp_receive.proofs.Gathered.{Gathered, one-later, begun, grow, complete}
use Rattle.isotp_receive.specs.Channels.{dir_of}

-- the positions whose frames are gathered where this stands
pub data Pending (limit : ℕ) (T : List Entry) (d : Channel) (n : ℕ) : Option StandingReception → List ℕ → Type 0 where
  nothing : Pending limit T d n None []
  under : {st : StandingReception} {i : ℕ} {cs : List ℕ} → Gathered limit T d n st i cs → Pending limit T d n (Some st) (i ∷ cs)

-- what the frame e at n makes of the direction, where ps were pending: `next` stands, and these messages were told
pub record Advanced (limit : ℕ) (T : List Entry) (d : Channel) (n : ℕ) (e : Entry) (next : Option StandingReception) (ps : List ℕ) (told : List (List ℕ)) : Type 0 where
  -- the positions that are pending now: all but n were pending before
  pub left : List ℕ
  pub state : Pending limit T d (suc n) next left
  pub lows : (p : ℕ) → IsIn p left → IsIn p ps ⊎ (p ≡ n)
  -- the messages that it completes, with their positions: none, or one at n that leaves nothing pending
  pub out : List Transfer
  pub told_out : map {B = Message} (λ g. (dir_of g.channel, g.message)) out ≡ map {B = Message} (λ m. (dir_of d, m)) told
  pub each : AllByRecursion (IsTransfer limit T) out
  pub out_lows : AllByRecursion (λ g. (g.channel ≡ d) × ((p : ℕ) → IsIn p g.positions → IsIn p ps ⊎ (n ≤ p))) out
  pub out_lasts : AllByRecursion (λ g. last_or 0 g.positions ≡ n) out
  pub out_own : (p : ℕ) → IsGiven p out → IsOwn (role d e)
  pub shape : (out ≡ []) ⊎ ((g : Transfer) × (out ≡ g ∷ []) × (g.channel ≡ d) × (left ≡ []) × ((p : ℕ) → IsIn p g.positions → p ≤ n))
  -- no position is lost
  pub keeps : (p : ℕ) → IsIn p ps → IsIn p left ⊎ IsGiven p out
  pub here : IsOwn (role d e) → IsIn n left ⊎ IsGiven n out

module _ (limit : ℕ) (T : List Entry) (d : Channel) (n : ℕ) (e : Entry) (at : At T n e) where
  -- a frame that completes no message
  keep : (next : Option StandingReception) (ps left : List ℕ) → Pending limit T d (suc n) next left → ((p : ℕ) → IsIn p ps → IsIn p left)
      → ((p : ℕ) → IsIn p left → IsIn p ps ⊎ (p ≡ n)) → (IsOwn (role d e) → IsIn n left) → Advanced limit T d n e next ps []
  keep next ps left state keeps lows here = record {
    left = left;
    state = state;
    lows = lows;
    out = [];
    told_out = refl;
    each = tt;
    out_lows = tt;
    out_lasts = tt;
    out_own = λ p i. absurd i;
    shape = inl refl;
    keeps = λ p i. inl (keeps p i);
    here = λ own. inl (here own);
  }

  -- one that completes a message
  deliver : (ps places : List ℕ) (m : List ℕ) → IsTransfer limit T (record { channel = d; message = m; positions = places }) → last_or 0 places ≡ n
      → ((p : ℕ) → IsIn p ps → IsIn p places) → ((p : ℕ) → IsIn p places → IsIn p ps ⊎ (p ≡ n)) → ((p : ℕ) → IsIn p places → p ≤ n)
      → IsIn n places → IsOwn (role d e) → Advanced limit T d n e None ps (m ∷ [])
  deliver ps places m given ends keeps lows most now own = record {
    left = [];
    state = nothing;
    lows = λ p i. absurd i;
    out = (record { channel = d; message = m; positions = places }) ∷ [];
    told_out = refl;
    each = (given, tt);
    out_lows = ((refl, λ p i. elim (lows p i) [ inl a ↦ inl a | inr b ↦ inr (omega arith) ]), tt);
    out_lasts = (ends, tt);
    out_own = λ p i. own;
    shape = inr (record { channel = d; message = m; positions = places }, refl, refl, refl, most);
    keeps = λ p i. inr (inl (keeps p i));
    here = λ _. inr (inl now);
  }

  is_new : (p i : ℕ) (cs : List ℕ) → IsIn p (i ∷ (cs ++ n ∷ [])) → IsIn p (i ∷ cs) ⊎ (p ≡ n)
  is_new p i cs a = elim (in-append p (i ∷ cs) (n ∷ []) a) [
    | inl old ↦ inl old
    | inr new ↦ elim new [ inl is ↦ inr is | inr none ↦ absurd none ]
  ]

  only_new : (p : ℕ) → IsIn p (n ∷ []) → IsIn p [] ⊎ (p ≡ n)
  only_new p a = elim a [ inl is ↦ inr is | inr none ↦ absurd none ]

  -- ---- a consecutive frame

  module _ (st : StandingReception) (i : ℕ) (cs : List ℕ) (u : Gathered limit T d n st i cs)
      (sequence_number can_dl : ℕ) (bytes : List ℕ) (kind : role d e ≡ consecutive sequence_number can_dl bytes) where
    abbrev StepsOn : Type 0
    StepsOn =
        Advanced limit T d n e (after limit (Some st) e.micros (consecutive sequence_number can_dl bytes)) (i ∷ cs)
        (completed (Some st) e.micros (consecutive sequence_number can_dl bytes))

    on-more : fit_of st e.micros sequence_number can_dl ≡ one_more → StepsOn
    on-more j =
        rw j (keep _ (i ∷ cs) (i ∷ (cs ++ n ∷ [])) (under (grow limit T d n e at st i cs u sequence_number can_dl bytes kind j))
        (λ p a. in-left p (i ∷ cs) (n ∷ []) a) (λ p a. is_new p i cs a) (λ _. in-right n (i ∷ cs) (n ∷ []) (inl refl)))

    on-last : fit_of st e.micros sequence_number can_dl ≡ last → StepsOn
    on-last j =
        let l = complete limit T d n e at st i cs u sequence_number can_dl bytes kind j in
        let w = was-last st e.micros sequence_number can_dl j in
        let low = w.low in
        let ends = w.ends in
        let len = u.len in
        let more = u.more in
        let fits = u.fits in
        let from = next_from d e sequence_number can_dl bytes kind in
        let size_told : length (take st.len (st.bytes ++ bytes)) ≡ st.len = omega (arith, length-take st.len (st.bytes ++ bytes), length-append st.bytes bytes) in
        let most : (p : ℕ) → IsIn p (i ∷ (cs ++ n ∷ [])) → p ≤ n = λ (p : ℕ) (a : IsIn p (i ∷ (cs ++ n ∷ []))).
        elim (is_new p i cs a) [ inl old ↦ (let lt = u.below p old in omega arith) | inr is ↦ omega arith ] in
        let transfer : IsTransfer limit T (record { channel = d; message = take st.len (st.bytes ++ bytes); positions = i ∷ (cs ++ n ∷ []) }) = record {
          some = omega arith;
          fits = omega arith;
          rising = rising-append 0 (i ∷ cs) (n ∷ []) u.rising (omega arith, tt)
              (λ p q a b. elim b [ inl same_q ↦ (let lt = u.below p a in omega arith) | inr none ↦ absurd none ]) (λ q b. omega arith);
          carried = segmented l;
        } in
        rw j (deliver (i ∷ cs) (i ∷ (cs ++ n ∷ [])) (take st.len (st.bytes ++ bytes)) transfer (last-snoc i n cs)
        (λ p a. in-left p (i ∷ cs) (n ∷ []) a) (λ p a. is_new p i cs a) most (in-right n (i ∷ cs) (n ∷ []) (inl refl)) (rw kind tt))

  -- ---- any frame

  pub advance : (o : Option StandingReception) (ps : List ℕ) → Pending limit T d n o ps → (r : FrameRole) → role d e ≡ r → Turn limit o e.micros r → 64 ≤ limit
      → Advanced limit T d n e (after limit o e.micros r) ps (completed o e.micros r)
  advance _ _ nothing _ kind (t_single m closed) wide =
      let whole = whole_from d e m kind in
      deliver [] (n ∷ []) m (record { some = whole.some; fits = (let few = whole.few in omega arith); rising = (omega arith, tt); carried = unsegmented (record { entry = e; stands = at; kind = kind }) })
      refl (λ p a. absurd a) only_new (λ p a. elim a [ inl is ↦ omega arith | inr none ↦ absurd none ]) (inl refl) (rw kind tt)
  advance _ _ nothing _ kind (t_first s closed fits) wide =
      rw (le-leb _ _ fits) (keep (Some (fresh s)) [] (n ∷ []) (under (begun limit T d n e at s kind fits)) (λ p a. absurd a) only_new (λ _. inl refl))
  advance _ _ nothing _ kind (t_more st sequence_number can_dl bytes is j) wide = absurd (cc)
  advance _ _ nothing _ kind (t_last st sequence_number can_dl bytes is j) wide = absurd (cc)
  advance _ _ nothing _ kind t_continue_or_wait wide = keep None [] [] nothing (λ p a. a) (λ p a. inl a) (λ own. absurd (rw kind at own))
  advance _ _ nothing _ kind t_no_part wide = keep None [] [] nothing (λ p a. a) (λ p a. inl a) (λ own. absurd (rw kind at own))
  advance _ _ (under u) _ kind (t_single m closed) wide = absurd (cc)
  advance _ _ (under u) _ kind (t_first s closed fits) wide = absurd (cc)
  advance _ _ (under {st = st} {i = i} {cs = cs} u) _ kind (t_more other sequence_number can_dl bytes is j) wide =
      let one : other ≡ st = cc in
      on-more st i cs u sequence_number can_dl bytes kind (subst (λ x. fit_of x e.micros sequence_number can_dl ≡ one_more) one j)
  advance _ _ (under {st = st} {i = i} {cs = cs} u) _ kind (t_last other sequence_number can_dl bytes is j) wide =
      let one : other ≡ st = cc in
      on-last st i cs u sequence_number can_dl bytes kind (subst (λ x. fit_of x e.micros sequence_number can_dl ≡ last) one j)
  advance _ _ (under {st = st} {i = i} {cs = cs} u) _ kind t_continue_or_wait wide =
      let low : i ≤ n = (let a = u.refers.from in let b = u.refers.below in omega arith) in
      let later = one-later limit T d n st i cs u e.micros n e (moved T d n i e low at (rw kind tt)) at refl in
      keep (Some (record st { reference = e.micros })) (i ∷ cs) (i ∷ cs) (under later) (λ p a. a) (λ p a. inl a) (λ own. absurd (rw kind at own))
  advance _ _ (under {st = st} {i = i} {cs = cs} u) _ kind t_no_part wide =
      let later = one-later limit T d n st i cs u st.reference u.latest u.last (still T d n i u.latest e at kind u.refers) u.at u.time in
      keep (Some st) (i ∷ cs) (i ∷ cs) (under later) (λ p a. a) (λ p a. inl a) (λ own. absurd (rw kind at own))
