-- A direction of a recording delivers the messages that it was given, at their last positions.
use Rattle.std.proofs.Common.{◌≡◌, ℕ, suc, ◌≤◌, true, List, [], ◌∷◌, ◌++◌, length, nat_le, Option, Some, refl, sym, ◌∙◌, ap, arith, append_assoc, length-append}
use Rattle.std.proofs.Common.{inl, inr, subst}
use Rattle.std.specs.Prelude.{⊤, ◌⊎◌}
use Rattle.std.proofs.lemmas.Bool.{le-leb}
use Rattle.std.proofs.lemmas.List.{append-nil}
use Rattle.std.proofs.lemmas.Option.{slice_get_within}
use Rattle.isotp_receive.specs.declared.channel.Channel.{Channel}
use Rattle.isotp_receive.specs.Trace.{Entry, single, first, role, At}
use Rattle.isotp_receive.specs.StandingReception.{StandingReception, stands}
use Rattle.isotp_receive.specs.Recording.{IsRisingFrom, IsSegmented, Carries, unsegmented, segmented, Transfer, IsIn, last_or}
use Rattle.isotp_receive.proofs.Heard.{heard}
use Rattle.isotp_receive.specs.proving.Machine.{after}
use Rattle.isotp_receive.proofs.ListPositions.{get-same, get-here}
use Rattle.isotp_receive.proofs.PositionLists.{above-least, first-or-later}
use Rattle.isotp_receive.proofs.Readings.{first_from}
use Rattle.isotp_receive.proofs.OneMore.{one_more}
use Rattle.isotp_receive.proofs.HeardByRole.{completed, at_place, told-by-role}
use Rattle.isotp_receive.proofs.OwnFrames.{IsQuiet}
use Rattle.isotp_receive.proofs.UnderWay.{UnderWay, State, closed, opened, behind-no-part, behind-continue-or-wait}
use Rattle.isotp_receive.proofs.NextFrames.{last-told, last-after, more-told, more-after, more-under-way, begun-under-way}

-- all positions of messages of one direction
abbrev pub all_positions : List Transfer → List ℕ
all_positions [] = []
all_positions (g ∷ gs) = g.positions ++ all_positions gs

-- what they deliver: each message at its last position
abbrev pub placed_of : List Transfer → List (ℕ × List ℕ)
placed_of [] = []
placed_of (g ∷ gs) = (last_or 0 g.positions, g.message) ∷ placed_of gs

-- each is no longer than the limit, and its positions carry it
abbrev pub AreCarried : ℕ → List Entry → Channel → List Transfer → Type 0
AreCarried limit T d [] = ⊤
AreCarried limit T d (g ∷ gs) = ((length g.message ≤ limit) × Carries T d g.message g.positions) × AreCarried limit T d gs

-- from n on, each frame of T is at one of the positions, or is no frame of a message
abbrev pub IsCovered : List Entry → Channel → ℕ → List ℕ → Type 0
IsCovered T d n ps = (p : ℕ) (e : Entry) → n ≤ p → At T p e → IsIn p ps ⊎ IsQuiet (role d e)

passed : (T : List Entry) (d : Channel) (n : ℕ) (ps : List ℕ) → IsCovered T d n (n ∷ ps) → IsCovered T d (suc n) ps
passed T d n ps cover p e above at = elim (cover p e (omega arith) at) [
  | inl i ↦ (elim i [ inl same ↦ absurd (omega arith) | inr there ↦ inl there ])
  | inr quiet ↦ inr quiet
]

-- ---- one frame

module _ (limit : ℕ) (T : List Entry) (d : Channel) (n : ℕ) (e : Entry) (at : At T n e) where
  -- what the frame makes of the direction, where `out` is still to be delivered
  record Stepped (o : Option StandingReception) (out : List (ℕ × List ℕ)) : Type 0 where
    cs : List ℕ
    out' : List (ℕ × List ℕ)
    gs : List Transfer
    state : State T d (suc n) (after limit o e.micros (role d e)) cs out'
    carried : AreCarried limit T d gs
    rising : IsRisingFrom (suc n) (cs ++ all_positions gs)
    cover : IsCovered T d (suc n) (cs ++ all_positions gs)
    tells : at_place n (completed o e.micros (role d e)) ++ (out' ++ placed_of gs) ≡ out

  -- a frame that is at none of the positions
  aside : (o : Option StandingReception) (cs : List ℕ) (out : List (ℕ × List ℕ)) (gs : List Transfer) → State T d n o cs out → AreCarried limit T d gs
      → IsRisingFrom (suc n) (cs ++ all_positions gs) → IsCovered T d n (cs ++ all_positions gs) → Stepped o (out ++ placed_of gs)
  aside o cs out gs state carried rising cover = elim (cover n e (omega arith) at) [
    | inl i ↦ absurd (let h = above-least (suc n) n (cs ++ all_positions gs) rising i in omega arith)
    | inr quiet ↦ elim quiet [
      | inl kind ↦ record {
        cs = cs;
        out' = out;
        gs = gs;
        state = rw kind (behind-no-part T d n o cs out e at kind state);
        carried = carried;
        rising = rising;
        cover = λ p x above. cover p x (omega arith);
        tells = rw kind refl;
      }
      | inr kind ↦ record {
        cs = cs;
        out' = out;
        gs = gs;
        state = rw kind (behind-continue-or-wait T d n limit o cs out e at kind state);
        carried = carried;
        rising = rising;
        cover = λ p x above. cover p x (omega arith);
        tells = rw kind refl;
      }
    ]
  ]

  module _ (rest : List ℕ) (rising : IsRisingFrom (suc n) rest) (cover : IsCovered T d n (n ∷ rest)) where
    -- the next consecutive frame of the message under way
    goes : (st : StandingReception) (m : List ℕ) (cs : List ℕ) (gs : List Transfer) → UnderWay T d n st m (n ∷ cs) → AreCarried limit T d gs → cs ++ all_positions gs ≡ rest
        → Stepped (Some st) ((last_or n cs, m) ∷ placed_of gs)
    goes st m [] gs s carried same = record {
      cs = [];
      out' = [];
      gs = gs;
      state = rw (last-after limit T d n e at st m s) closed;
      carried = carried;
      rising = subst (IsRisingFrom (suc n)) (sym same) rising;
      cover = passed T d n (all_positions gs) (subst (λ l. IsCovered T d n (n ∷ l)) (sym same) cover);
      tells = rw (last-told limit T d n e at st m s) refl;
    }
    goes st m (c ∷ cs) gs s carried same = record {
      cs = c ∷ cs;
      out' = (last_or c cs, m) ∷ [];
      gs = gs;
      state = rw (more-after limit T d n e at st m c cs s) (opened (more-under-way limit T d n e at st m c cs s));
      carried = carried;
      rising = subst (IsRisingFrom (suc n)) (sym same) rising;
      cover = passed T d n (c ∷ (cs ++ all_positions gs)) (subst (λ l. IsCovered T d n (n ∷ l)) (sym same) cover);
      tells = rw (more-told limit T d n e at st m c cs s) refl;
    }

    -- the first frame of the next message: a single frame, or one with consecutive frames after it
    starts_one : (o : Option StandingReception) (m : List ℕ) (p : ℕ) (gs : List Transfer) (x : Entry) → At T p x → role d x ≡ single m → p ≡ n
        → AreCarried limit T d gs → all_positions gs ≡ rest → Stepped o ((p, m) ∷ placed_of gs)
    starts_one o m p gs x stands kind here carried same =
        let there : At T n x = subst (λ j. At T j x) here stands in
        let is_e : x ≡ e = get-same T n x e there at in
        let kind_e : role d e ≡ single m = ap (role d) (sym is_e) ∙ kind in
        record {
          cs = [];
          out' = [];
          gs = gs;
          state = rw kind_e closed;
          carried = carried;
          rising = subst (IsRisingFrom (suc n)) (sym same) rising;
          cover = passed T d n (all_positions gs) (subst (λ l. IsCovered T d n (n ∷ l)) (sym same) cover);
          tells = rw (kind_e, here) refl;
        }

    starts_long : (o : Option StandingReception) (m cs : List ℕ) (gs : List Transfer) → length m ≤ limit → IsSegmented T d m n cs
        → AreCarried limit T d gs → cs ++ all_positions gs ≡ rest → Stepped o ((last_or n cs, m) ∷ placed_of gs)
    starts_long o m [] gs fits l carried same = absurd (let from = first_from d l.begins.entry l.begins.start l.begins.kind in let enough = l.least.enough in omega arith)
    starts_long o m (c ∷ cs) gs fits l carried same =
        let is_e : l.begins.entry ≡ e = get-same T n l.begins.entry e l.begins.stands at in
        let kind_e : role d e ≡ first l.begins.start = ap (role d) (sym is_e) ∙ l.begins.kind in
        let announces = l.announces in
        let within : nat_le l.begins.start.len limit ≡ true = le-leb _ _ (omega arith) in
        record {
          cs = c ∷ cs;
          out' = (last_or c cs, m) ∷ [];
          gs = gs;
          state = rw (kind_e, within) (opened (begun-under-way limit T d n e at m (c ∷ cs) l));
          carried = carried;
          rising = subst (IsRisingFrom (suc n)) (sym same) rising;
          cover = passed T d n (c ∷ (cs ++ all_positions gs)) (subst (λ l. IsCovered T d n (n ∷ l)) (sym same) cover);
          tells = rw kind_e refl;
        }

    starts : (o : Option StandingReception) (m ps : List ℕ) (gs : List Transfer) → length m ≤ limit → Carries T d m ps
        → AreCarried limit T d gs → ps ++ all_positions gs ≡ n ∷ rest → Stepped o ((last_or 0 ps, m) ∷ placed_of gs)
    starts o m _ gs fits (unsegmented {position = p} one) carried same = starts_one o m p gs one.entry one.stands one.kind (cc) carried (cc)
    starts o m _ gs fits (segmented {begun = i} {positions = cs} l) carried same =
        let here : i ≡ n = cc in
        let more : cs ++ all_positions gs ≡ rest = cc in
        rw here (starts_long o m cs gs fits (subst (λ j. IsSegmented T d m j cs) here l) carried more)

  step : (o : Option StandingReception) (cs : List ℕ) (out : List (ℕ × List ℕ)) (gs : List Transfer) → State T d n o cs out → AreCarried limit T d gs
      → IsRisingFrom n (cs ++ all_positions gs) → IsCovered T d n (cs ++ all_positions gs) → Stepped o (out ++ placed_of gs)
  step o cs out gs state carried rising cover = elim (first-or-later n (cs ++ all_positions gs) rising) [
    | inl w ↦ here o cs out gs state carried w.0 w.1 w.2 cover
    | inr above ↦ aside o cs out gs state carried above cover
  ] where
    here : (o : Option StandingReception) (cs : List ℕ) (out : List (ℕ × List ℕ)) (gs : List Transfer) → State T d n o cs out → AreCarried limit T d gs
        → (rest : List ℕ) → cs ++ all_positions gs ≡ n ∷ rest → IsRisingFrom (suc n) rest → IsCovered T d n (cs ++ all_positions gs)
        → Stepped o (out ++ placed_of gs)
    here o _ _ [] closed carried rest same above cover = absurd (cc)
    here o _ _ (g ∷ gs) closed carried rest same above cover =
        starts rest above (subst (IsCovered T d n) same cover) o g.message g.positions gs carried.0.0 carried.0.1 carried.1 same
    here _ _ _ gs (opened {st = st} {m = m} {c = c} {cs = cs} s) carried rest same above cover =
        let now : c ≡ n = cc in
        let more : cs ++ all_positions gs ≡ rest = cc in
        rw now (goes rest above (subst (IsCovered T d n) same cover) st m cs gs (subst (λ j. UnderWay T d n st m (j ∷ cs)) now s) carried more)

-- ---- all frames

has-first : (T : List Entry) (d : Channel) (m ps : List ℕ) → Carries T d m ps → (p : ℕ) × (e : Entry) × (rest : List ℕ) × (ps ≡ p ∷ rest) × At T p e
has-first T d m _ (unsegmented {position = p} one) = (p, one.entry, [], refl, one.stands)
has-first T d m _ (segmented {begun = i} {positions = cs} l) = (i, l.begins.entry, cs, refl, l.begins.stands)

-- nothing is left at the end
over : (limit : ℕ) (T : List Entry) (d : Channel) (o : Option StandingReception) (cs : List ℕ) (out : List (ℕ × List ℕ)) (gs : List Transfer) → State T d (length T) o cs out
    → AreCarried limit T d gs → IsRisingFrom (length T) (cs ++ all_positions gs) → [] ≡ out ++ placed_of gs
over limit T d _ _ _ [] closed carried rising = refl
over limit T d _ _ _ (g ∷ gs) closed carried rising =
    let w = has-first T d g.message g.positions carried.0.1 in
    let above = subst (λ l. IsRisingFrom (length T) (l ++ all_positions gs)) w.3 rising in
    absurd (let inside = slice_get_within T w.0 w.1 w.4 in let a = above.0 in omega arith)
over limit T d _ _ _ gs (opened {c = c} s) carried rising =
    let part = s.parts.0 in
    absurd (let inside = slice_get_within T c part.next.entry part.next.stands in let a = rising.0 in omega arith)

run : (limit : ℕ) (before T : List Entry) (d : Channel) (n : ℕ) (past es : List Entry) → n ≡ length past → T ≡ past ++ es
    → (o : Option StandingReception) (cs : List ℕ) (out : List (ℕ × List ℕ)) (gs : List Transfer) → State T d n o cs out → stands limit d (before ++ past) ≡ o → AreCarried limit T d gs
    → IsRisingFrom n (cs ++ all_positions gs) → IsCovered T d n (cs ++ all_positions gs) → heard limit d n (before ++ past) es ≡ out ++ placed_of gs
run limit before T d n past [] at split o cs out gs state now carried rising cover =
    let ends : n ≡ length T = at ∙ ap length (sym (split ∙ append-nil past)) in
    over limit T d o cs out gs (subst (λ j. State T d j o cs out) ends state) carried (subst (λ j. IsRisingFrom j (cs ++ all_positions gs)) ends rising)
run limit before T d n past (e ∷ es) at split o cs out gs state now carried rising cover =
    let here : At T n e = rw (split, at) (get-here past es e) in
    let s = step limit T d n e here o cs out gs state carried rising cover in
    let grown : (before ++ past) ++ e ∷ [] ≡ before ++ (past ++ e ∷ []) = append_assoc before past (e ∷ []) in
    let next : stands limit d (before ++ (past ++ e ∷ [])) ≡ after limit o e.micros (role d e) =
    ap (stands limit d) (sym grown) ∙ one_more limit d (before ++ past) e ∙ ap (λ x. after limit x e.micros (role d e)) now in
    let at_next : suc n ≡ length (past ++ e ∷ []) = omega (arith, length-append past (e ∷ [])) in
    let split_next : T ≡ (past ++ e ∷ []) ++ es = split ∙ sym (append_assoc past (e ∷ []) es) in
    ap (λ l. l ++ heard limit d (suc n) ((before ++ past) ++ e ∷ []) es)
    (told-by-role limit d n (before ++ past) e ∙ ap (λ x. at_place n (completed x e.micros (role d e))) now)
    ∙ ap (λ l. at_place n (completed o e.micros (role d e)) ++ heard limit d (suc n) l es) grown
    ∙ ap (λ l. at_place n (completed o e.micros (role d e)) ++ l)
    (run limit before T d (suc n) (past ++ e ∷ []) es at_next split_next (after limit o e.micros (role d e)) s.cs s.out' s.gs s.state next s.carried s.rising s.cover)
    ∙ s.tells

-- after any trace a direction delivers the messages that its positions carry
pub direction-heard : (limit : ℕ) (before T : List Entry) (d : Channel) (gs : List Transfer) → AreCarried limit T d gs
    → IsRisingFrom 0 (all_positions gs) → IsCovered T d 0 (all_positions gs) → heard limit d 0 before T ≡ placed_of gs
direction-heard limit before T d gs carried rising cover =
    ap (λ l. heard limit d 0 l T) (sym (append-nil before))
    ∙ run limit before T d 0 [] T refl refl (stands limit d (before ++ [])) [] [] gs closed refl carried rising cover
