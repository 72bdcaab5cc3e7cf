-- A clean trace is a recording of what it delivers.
use Rattle.std.proofs.Common.{◌≡◌, ℕ, suc, ◌≤◌, true, false, List, [], ◌∷◌, ◌++◌, length, map, Option, Some, None, Result, Ok, Err, refl, sym, ◌∙◌, ap}
use Rattle.std.proofs.Common.{arith, append_assoc, length-append, inl, inr, subst}
use Rattle.std.specs.Prelude.{◌⊎◌}
use Rattle.std.specs.List.{AllByRecursion}
use Rattle.std.proofs.lemmas.Bool.{cases_Bool, cases_lt}
use Rattle.std.proofs.lemmas.List.{append-nil, map-append}
use Rattle.std.proofs.lemmas.Option.{slice_get_within}
use Rattle.direction.specs.Dir.{Message}
use Rattle.isotp_receive.specs.Channels.{other_channel}
use Rattle.isotp_receive.specs.declared.channel.Channel.{Channel}
use Rattle.can_log.proofs.Promises.{AllByRecursion-append, AllByRecursion-weaker}
use Rattle.isotp_pdu.specs.declared.Status.TheVariants.{Continue, Wait, Overflow}
use Rattle.isotp_pdu.specs.Layout.{Layout}
use Rattle.isotp_pdu.specs.Layout as layout
use Rattle.isotp_receive.specs.Trace.{Entry, FrameRole, single, first, consecutive, continue_or_wait, overflow, no_part, role, own_role, other_role, At}
use Rattle.isotp_receive.specs.Fit.{Fit}
use Rattle.isotp_receive.specs.Fit as fit
use Rattle.isotp_receive.specs.StandingReception.{StandingReception, fit_of, stands}
use Rattle.isotp_receive.specs.Verdict.{VerdictValue, message, began, stored, flowed, dropped, verdict, told_message, messages, messages_after}
use Rattle.isotp_receive.specs.Recording.{Transfer, IsTransfer, IsIn, last_or, AreApart, EachPair, IsGiven, IsIdle, IsRecording}
use Rattle.isotp_receive.specs.CleanTrace.{IsKept, EachClean, IsClean}
use Rattle.isotp_receive.specs.declared.channel.Channel.TheVariants.{Tester, Unit, Functional}
use Rattle.direction.specs.declared.Dir.TheVariants as dir
use Rattle.isotp_receive.proofs.FunctionalFrames.{nothing-functional}
use Rattle.isotp_receive.proofs.Heard.{placed}
use Rattle.isotp_receive.specs.proving.Machine.{after}
use Rattle.isotp_receive.proofs.ListPositions.{get-same, get-here}
use Rattle.isotp_receive.proofs.Directions.{same, same-self, other-apart}
use Rattle.isotp_receive.proofs.OneMore.{one_more}
use Rattle.isotp_receive.proofs.HeardByRole.{completed, completed_by, at_place, told-by-role}
use Rattle.isotp_receive.proofs.OwnFrames.{IsOwn, none-own, own-other, own-at}
use Rattle.isotp_receive.proofs.CleanFrames.{Turn, turn}
use Rattle.isotp_receive.proofs.CleanSteps.{Pending, nothing, under, Advanced, advance}
use Rattle.isotp_receive.specs.Channels.{same_channel}
use Rattle.isotp_receive.specs.Channels.{dir_of}
use Rattle.isotp_receive.specs.Channels.{channel_of}
use Rattle.isotp_receive.specs.Trace.{layout_in}
use Rattle.isotp_receive.specs.declared.event.Reason.{Reason}
use Rattle.direction.specs.declared.Dir.{Dir}

-- ---- positions that are given

given-left : (p : ℕ) (xs ys : List Transfer) → IsGiven p xs → IsGiven p (xs ++ ys)
given-left p [] ys i = absurd i
given-left p (x ∷ xs) ys (inl i) = inl i
given-left p (x ∷ xs) ys (inr i) = inr (given-left p xs ys i)

given-right : (p : ℕ) (xs ys : List Transfer) → IsGiven p ys → IsGiven p (xs ++ ys)
given-right p [] ys i = i
given-right p (x ∷ xs) ys i = inr (given-right p xs ys i)

-- positions of two directions are not the same
two-sides : (limit : ℕ) (T : List Entry) (g x : Transfer) (p : ℕ) → IsTransfer limit T g → IsTransfer limit T x → same_channel g.channel x.channel ≡ false
    → IsIn p g.positions → IsIn p x.positions → ⊥
two-sides limit T g x p a b apart i j =
    let mine = own-at T g.channel g.message g.positions p a.carried i in
    let yours = own-at T x.channel x.message x.positions p b.carried j in
    let is : yours.0 ≡ mine.0 = get-same T p yours.0 mine.0 yours.1 mine.1 in
    let other = own-other g.channel x.channel mine.0 apart (subst (λ e. IsOwn (role x.channel e)) is yours.2) in
    rw other at mine.2

-- ---- a message that is completed at n is apart from those that are completed later

module _ (limit : ℕ) (T : List Entry) (n : ℕ) (pending : Channel → List ℕ) where
  apart-one : (g x : Transfer) → IsTransfer limit T g → last_or 0 g.positions ≡ n → pending g.channel ≡ [] → ((p : ℕ) → IsIn p g.positions → p ≤ n)
      → IsTransfer limit T x → suc n ≤ last_or 0 x.positions → ((p : ℕ) → IsIn p x.positions → IsIn p (pending x.channel) ⊎ (suc n ≤ p)) → AreApart g x
  apart-one g x a last closed most b later lows =
      let above : g.channel ≡ x.channel → (q : ℕ) → IsIn q x.positions → suc n ≤ q = λ (one : g.channel ≡ x.channel) (q : ℕ) (j : IsIn q x.positions). elim (lows q j) [
        | inl old ↦ absurd (subst (IsIn q) (ap pending (sym one) ∙ closed) old)
        | inr new ↦ new
      ] in
      record {
        shared = λ p i j. elim (cases_Bool (same_channel g.channel x.channel)) [
          | inl t ↦ (let lt = above (same g.channel x.channel t) p j in let le = most p i in omega arith)
          | inr t ↦ two-sides limit T g x p a b t i j
        ];
        apart = λ one. inl (λ p q i j. let lt = above one q j in let le = most p i in omega arith);
        order = omega arith;
      }

  apart-all : (g : Transfer) (xs : List Transfer) → IsTransfer limit T g → last_or 0 g.positions ≡ n → pending g.channel ≡ [] → ((p : ℕ) → IsIn p g.positions → p ≤ n)
      → AllByRecursion (IsTransfer limit T) xs → AllByRecursion (λ x. suc n ≤ last_or 0 x.positions) xs
      → AllByRecursion (λ x. (p : ℕ) → IsIn p x.positions → IsIn p (pending x.channel) ⊎ (suc n ≤ p)) xs → AllByRecursion (AreApart g) xs
  apart-all g [] a last closed most each lasts lows = tt
  apart-all g (x ∷ xs) a last closed most each lasts lows =
      (apart-one g x a last closed most each.0 lasts.0 lows.0, apart-all g xs a last closed most each.1 lasts.1 lows.1)

-- ---- what a frame completes is what its verdict tells

placed-told : (n : ℕ) (d : Dir) (t : VerdictValue) → map {B = Message} (λ x. (d, x.1)) (placed n t) ≡ told_message d t
placed-told n d (message m) = refl
placed-told n d began = refl
placed-told n d stored = refl
placed-told n d flowed = refl
placed-told n d (dropped r) = refl

one-fit : (n : ℕ) (d : Dir) (f : Fit) (s : StandingReception) (bytes : List ℕ)
    → map {B = Message} (λ x. (d, x.1)) (at_place n (completed_by f s bytes)) ≡ map {B = Message} (λ m. (d, m)) (completed_by f s bytes)
one-fit n d fit.last s bytes = refl
one-fit n d fit.one_more s bytes = refl
one-fit n d fit.late s bytes = refl
one-fit n d fit.wrong_number s bytes = refl
one-fit n d fit.wrong_length s bytes = refl

one-completed : (n : ℕ) (d : Dir) (o : Option StandingReception) (micros : ℕ) (r : FrameRole)
    → map {B = Message} (λ x. (d, x.1)) (at_place n (completed o micros r)) ≡ map {B = Message} (λ m. (d, m)) (completed o micros r)
one-completed n d o micros (single m) = refl
one-completed n d None micros (consecutive sequence_number can_dl bytes) = refl
one-completed n d (Some s) micros (consecutive sequence_number can_dl bytes) = one-fit n d (fit_of s micros sequence_number can_dl) s bytes
one-completed n d o micros (first s) = refl
one-completed n d o micros continue_or_wait = refl
one-completed n d o micros overflow = refl
one-completed n d o micros no_part = refl

told-completed : (limit n : ℕ) (past : List Entry) (e : Entry)
    → map {B = Message} (λ m. (dir_of e.channel, m)) (completed (stands limit e.channel past) e.micros (role e.channel e)) ≡ told_message (dir_of e.channel) (verdict limit past e).verdict
told-completed limit n past e =
    let by_role = rw (same-self e.channel) at (told-by-role limit e.channel n past e) in
    sym (one-completed n (dir_of e.channel) (stands limit e.channel past) e.micros (role e.channel e))
    ∙ ap (map {B = Message} (λ x. (dir_of e.channel, x.1))) (sym by_role) ∙ placed-told n (dir_of e.channel) (verdict limit past e).verdict

-- ---- a frame with a clean verdict carries a message, or is idle

own-idle : (limit : ℕ) (o : Option StandingReception) (line micros : ℕ) (r : Result Layout Reason) → Turn limit o micros (other_role r) → IsOwn (own_role line micros r) ⊎ IsIdle r
own-idle limit o line micros (Err f) t = inr tt
own-idle limit o line micros (Ok (layout.single m)) t = inl tt
own-idle limit o line micros (Ok (layout.first len rx_dl bytes)) t = inl tt
own-idle limit o line micros (Ok (layout.consecutive sequence_number can_dl bytes)) t = inl tt
own-idle limit o line micros (Ok (layout.flow_control Continue)) t = inr tt
own-idle limit o line micros (Ok (layout.flow_control Wait)) t = inr tt
own-idle limit o line micros (Ok (layout.flow_control Overflow)) t = elim t [ ]

own-same : (d : Channel) (e : Entry) → IsOwn (role d e) → same_channel d e.channel ≡ true
unfolding role
own-same d e own = elim (cases_Bool (same_channel d e.channel)) [
  | inl t ↦ t
  | inr t ↦ absurd (none-own (layout_in e) (rw t at own))
]

own-or-idle : (limit : ℕ) (past : List Entry) (e : Entry) → (verdict limit past e).ended ≡ None → IsKept (verdict limit past e).verdict
    → IsOwn (role e.channel e) ⊎ IsIdle (layout_in e)
unfolding role
own-or-idle limit past e h k =
    let t = turn limit (other_channel e.channel) past e h k in
    let other = rw (other-apart e.channel) at t in
    rw (same-self e.channel) (own-idle limit (stands limit (other_channel e.channel) past) e.line e.micros (layout_in e) other)

-- ---- the messages that are completed from n on, where these positions are pending

record Completed (limit : ℕ) (T : List Entry) (n : ℕ) (past es : List Entry) (pending : Channel → List ℕ) : Type 0 where
  gs : List Transfer
  told : map {B = Message} (λ g. (dir_of g.channel, g.message)) gs ≡ messages_after limit past es
  each : AllByRecursion (IsTransfer limit T) gs
  pairs : EachPair AreApart gs
  others : (p : ℕ) (x : Entry) → n ≤ p → At T p x → IsGiven p gs ⊎ IsIdle (layout_in x)
  given : (d : Channel) (p : ℕ) → IsIn p (pending d) → IsGiven p gs
  lasts : AllByRecursion (λ g. n ≤ last_or 0 g.positions) gs
  lows : AllByRecursion (λ g. (p : ℕ) → IsIn p g.positions → IsIn p (pending g.channel) ⊎ (n ≤ p)) gs

-- what the frame at n makes of a direction
abbrev Steps : ℕ → List Entry → ℕ → List Entry → Entry → Channel → List ℕ → Type 0
Steps limit T n past e d ps =
    Advanced limit T d n e (after limit (stands limit d past) e.micros (role d e)) ps (completed (stands limit d past) e.micros (role d e))

module _ (limit : ℕ) (T : List Entry) (n : ℕ) (past es : List Entry) (e : Entry) (at : At T n e)
    (ended : (verdict limit past e).ended ≡ None) (kept : IsKept (verdict limit past e).verdict)
    (pending : Channel → List ℕ) (steps : (d : Channel) → Steps limit T n past e d (pending d))
    (rest : Completed limit T (suc n) (past ++ e ∷ []) es (λ d. (steps d).left)) where
  pairs-join : EachPair AreApart ((steps e.channel).out ++ rest.gs)
  pairs-join = elim (steps e.channel).shape [
    | inl none ↦ rw none rest.pairs
    | inr w ↦ (let each = subst (AllByRecursion (IsTransfer limit T)) w.1 (steps e.channel).each in
        let lasts = subst (AllByRecursion (λ g. last_or 0 g.positions ≡ n)) w.1 (steps e.channel).out_lasts in
        let closed = ap (λ d. (steps d).left) w.2 ∙ w.3 in
        rw w.1 (apart-all limit T n (λ d. (steps d).left) w.0 rest.gs each.0 lasts.0 closed w.4 rest.each rest.lasts rest.lows, rest.pairs))
  ]

  others-join : (p : ℕ) (x : Entry) → n ≤ p → At T p x → IsGiven p ((steps e.channel).out ++ rest.gs) ⊎ IsIdle (layout_in x)
  others-join p x above there = elim (cases_lt n p) [
    | inl later ↦ elim (rest.others p x later there) [
      | inl i ↦ inl (given-right p (steps e.channel).out rest.gs i)
      | inr idle ↦ inr idle
    ]
    | inr most ↦ (let here : p ≡ n = omega arith in
        let is_e : x ≡ e = get-same T n x e (subst (λ j. At T j x) here there) at in
        elim (own-or-idle limit past e ended kept) [
          | inl own ↦ inl (subst (λ j. IsGiven j ((steps e.channel).out ++ rest.gs)) (sym here) (elim ((steps e.channel).here own) [
            | inl a ↦ given-right n (steps e.channel).out rest.gs (rest.given e.channel n a)
            | inr b ↦ given-left n (steps e.channel).out rest.gs b
          ]))
          | inr idle ↦ inr (rw is_e idle)
        ])
  ]

  given-join : (d : Channel) (p : ℕ) → IsIn p (pending d) → IsGiven p ((steps e.channel).out ++ rest.gs)
  given-join d p i = elim ((steps d).keeps p i) [
    | inl a ↦ given-right p (steps e.channel).out rest.gs (rest.given d p a)
    | inr b ↦ (let one = same d e.channel (own-same d e ((steps d).out_own p b)) in
        given-left p (steps e.channel).out rest.gs (subst (λ y. IsGiven p (steps y).out) one b))
  ]

  Low : Transfer → Type 0
  Low g = (p : ℕ) → IsIn p g.positions → IsIn p (pending g.channel) ⊎ (n ≤ p)

  lows-join : AllByRecursion Low ((steps e.channel).out ++ rest.gs)
  unfolding Low
  lows-join =
      AllByRecursion-append Low (steps e.channel).out rest.gs
      (AllByRecursion-weaker (λ g. (g.channel ≡ e.channel) × ((p : ℕ) → IsIn p g.positions → IsIn p (pending e.channel) ⊎ (n ≤ p))) Low
      (λ g h p i. elim (h.1 p i) [ inl a ↦ inl (subst (λ y. IsIn p (pending y)) (sym h.0) a) | inr b ↦ inr b ])
      (steps e.channel).out (steps e.channel).out_lows)
      (AllByRecursion-weaker (λ g. (p : ℕ) → IsIn p g.positions → IsIn p (steps g.channel).left ⊎ (suc n ≤ p)) Low
      (λ g h p i. elim (h p i) [
        | inl a ↦ elim ((steps g.channel).lows p a) [ inl b ↦ inl b | inr is ↦ inr (omega arith) ]
        | inr b ↦ inr (omega arith)
      ]) rest.gs rest.lows)

  join : Completed limit T n past (e ∷ es) pending
  unfolding Low
  join = record {
    gs = (steps e.channel).out ++ rest.gs;
    told = map-append {B = Message} (λ g. (dir_of g.channel, g.message)) (steps e.channel).out rest.gs
        ∙ ap (λ l. l ++ map {B = Message} (λ g. (dir_of g.channel, g.message)) rest.gs) ((steps e.channel).told_out ∙ told-completed limit n past e)
        ∙ ap (λ l. told_message (dir_of e.channel) (verdict limit past e).verdict ++ l) rest.told;
    each = AllByRecursion-append (IsTransfer limit T) (steps e.channel).out rest.gs (steps e.channel).each rest.each;
    pairs = pairs-join;
    others = others-join;
    given = given-join;
    lasts = AllByRecursion-append (λ g. n ≤ last_or 0 g.positions) (steps e.channel).out rest.gs
        (AllByRecursion-weaker (λ g. last_or 0 g.positions ≡ n) (λ g. n ≤ last_or 0 g.positions) (λ g h. omega arith) (steps e.channel).out (steps e.channel).out_lasts)
        (AllByRecursion-weaker (λ g. suc n ≤ last_or 0 g.positions) (λ g. n ≤ last_or 0 g.positions) (λ g h. omega arith) rest.gs rest.lasts);
    lows = lows-join;
  }

none-left : (limit : ℕ) (T : List Entry) (d : Channel) (n : ℕ) (o : Option StandingReception) (ps : List ℕ) → Pending limit T d n o ps → o ≡ None → ps ≡ []
none-left limit T d n _ _ nothing h = refl
none-left limit T d n _ _ (under u) h = absurd (cc)

run : (limit : ℕ) (T : List Entry) → 64 ≤ limit → (n : ℕ) (past es : List Entry) → n ≡ length past → T ≡ past ++ es → EachClean limit past es
    → ((d : Channel) → stands limit d T ≡ None) → (pending : Channel → List ℕ) → ((d : Channel) → Pending limit T d n (stands limit d past) (pending d))
    → Completed limit T n past es pending
run limit T wide n past [] place split clean finished pending state =
    let all : past ≡ T = sym (split ∙ append-nil past) in
    record {
      gs = [];
      told = refl;
      each = tt;
      pairs = tt;
      others = λ p x above there. absurd (let inside = slice_get_within T p x there in let size = ap length all in omega arith);
      given = λ d p i.
          let none = none-left limit T d n (stands limit d past) (pending d) (state d) (ap (stands limit d) all ∙ finished d) in
          absurd (subst (IsIn p) none i);
      lasts = tt;
      lows = tt;
    }
run limit T wide n past (e ∷ es) place split clean finished pending state =
    let here : At T n e = rw (split, place) (get-here past es e) in
    let steps : (d : Channel) → Steps limit T n past e d (pending d) = λ (d : Channel).
    advance limit T d n e here (stands limit d past) (pending d) (state d) (role d e) refl (turn limit d past e clean.0.goes_on clean.0.kept) wide in
    let place_next : suc n ≡ length (past ++ e ∷ []) = omega (arith, length-append past (e ∷ [])) in
    let split_next : T ≡ (past ++ e ∷ []) ++ es = split ∙ sym (append_assoc past (e ∷ []) es) in
    join limit T n past es e here clean.0.goes_on clean.0.kept pending steps
    (run limit T wide (suc n) (past ++ e ∷ []) es place_next split_next clean.1 finished (λ d. (steps d).left)
    (λ d. subst (λ o. Pending limit T d (suc n) o (steps d).left) (sym (one_more limit d past e)) (steps d).state))

finished-all : (limit : ℕ) (T : List Entry) → ((d : Dir) → stands limit (channel_of d) T ≡ None) → (d : Channel) → stands limit d T ≡ None
finished-all limit T finished Tester = finished dir.Tester
finished-all limit T finished Unit = finished dir.Unit
finished-all limit T finished Functional = nothing-functional limit T

pub clean-records : (limit : ℕ) (T : List Entry) → 64 ≤ limit → IsClean limit T → IsRecording limit T (messages limit T)
clean-records limit T wide clean =
    let all = run limit T wide 0 [] T refl refl clean.each (finished-all limit T clean.finished) (λ d. []) (λ d. nothing) in
    record {
      transfers = all.gs;
      messages = all.told;
      each = all.each;
      pairs = all.pairs;
      others = λ p x there. all.others p x (omega arith) there;
    }
