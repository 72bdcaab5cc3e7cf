-- A frame's verdict is a message exactly where the trace delivers it there.
use Rattle.std.proofs.Common.{◌≡◌, ℕ, suc, ◌+◌, ◌-◌, ◌*◌, ◌<◌, ◌≤◌, true, List, [], ◌∷◌, ◌++◌, length, take, Option, Some, None, refl, sym}
use Rattle.std.proofs.Common.{◌∙◌, ap, arith, cond, inl, inr, subst, append_assoc, length-append, length-take}
use Rattle.std.specs.Prelude.{◌↔◌}
use Rattle.std.proofs.lemmas.Bool.{le-ltb, le-leb, eq-eqb, cases_lt}
use Rattle.isotp_receive.specs.declared.channel.Channel.{Channel}
use Rattle.isotp_receive.specs.Trace.{Entry, FirstFrame, FrameRole, single, first, consecutive, continue_or_wait, overflow, no_part, role}
use Rattle.isotp_receive.specs.Places.{bytes_in_first, bytes_before, consecutive_frames_in, FitsAs, AtPlaces}
use Rattle.isotp_receive.specs.OnTime.{IsOnTime}
use Rattle.isotp_receive.specs.Fit.{Fit, late, wrong_number, wrong_length, one_more, last}
use Rattle.isotp_receive.specs.StandingReception.{reference, carried, fits_length, is_open, StandingReception, standing_of, has_length, fit_of, stands}
use Rattle.isotp_receive.specs.Delivers.{Completes, Delivers, in_one_frame, in_frames}
use Rattle.isotp_receive.specs.Verdict.{VerdictValue, message, began, stored, flowed, dropped, verdict}
use Rattle.isotp_receive.proofs.Heard.{placed}
use Rattle.isotp_receive.proofs.ListPositions.{cons-head, get-same, get-here, get-behind, regrouped, split-length}
use Rattle.isotp_receive.proofs.Directions.{same-self}
use Rattle.isotp_receive.proofs.Readings.{first_from, next_from}
use Rattle.isotp_receive.proofs.Fits.{fits-join}
use Rattle.isotp_receive.proofs.FitTests.{is-last, was-last}
use Rattle.isotp_receive.proofs.OpenLaws.{found, open-stands-here}
use Rattle.isotp_receive.proofs.References.{refers, on-time-same, on-time-from, on-time-to}
use Rattle.isotp_receive.proofs.OpenPositions.{open-there, stands-there}
use Rattle.isotp_receive.proofs.BytesAtPlaces.{come-by-places, whole-at}
use Rattle.isotp_receive.proofs.SameMessage.{same-message}
use Rattle.isotp_receive.proofs.HeardByRole.{completed, completed_by, at_place, told-by-role}

-- ---- what the verdict tells is what the frame completes

told-at : (limit : ℕ) (T : List Entry) (e : Entry) → placed 0 (verdict limit T e).verdict ≡ at_place 0 (completed (stands limit e.channel T) e.micros (role e.channel e))
told-at limit T e = ap (λ b. cond b (placed 0 (verdict limit T e).verdict) []) (sym (same-self e.channel)) ∙ told-by-role limit e.channel 0 T e

placed-message : (t : VerdictValue) (m : List ℕ) → placed 0 t ≡ (0, m) ∷ [] → t ≡ message m
placed-message (message x) m h = ap message (ap (λ p. p.1) (cons-head h))
placed-message began m h = absurd (cc)
placed-message stored m h = absurd (cc)
placed-message flowed m h = absurd (cc)
placed-message (dropped r) m h = absurd (cc)

place-message : (c : List (List ℕ)) (m : List ℕ) → at_place 0 c ≡ (0, m) ∷ [] → (ms : List (List ℕ)) × (c ≡ m ∷ ms)
place-message [] m h = absurd (cc)
place-message (x ∷ ms) m h = (ms, ap (λ y. y ∷ ms) (ap (λ p. p.1) (cons-head h)))

completed-last : (fit : Fit) (st : StandingReception) (bytes m : List ℕ) (ms : List (List ℕ)) → completed_by fit st bytes ≡ m ∷ ms
    → (fit ≡ last) × (take st.len (st.bytes ++ bytes) ≡ m)
completed-last last st bytes m ms h = (refl, cc)
completed-last one_more st bytes m ms h = absurd (cc)
completed-last late st bytes m ms h = absurd (cc)
completed-last wrong_number st bytes m ms h = absurd (cc)
completed-last wrong_length st bytes m ms h = absurd (cc)

-- ---- what a frame completes is delivered there, whatever follows

-- the last consecutive frame of what stands
module _ (limit : ℕ) (d : Channel) (before : List Entry) (e0 : Entry) (s : FirstFrame) (since rest : List Entry) (begins : role d e0 ≡ first s) (opens : is_open limit d s since ≡ true)
    (x : Entry) (sequence_number can_dl : ℕ) (bytes : List ℕ) (goes : role d x ≡ consecutive sequence_number can_dl bytes) where
  completes : fit_of (standing_of d s since) x.micros sequence_number can_dl ≡ last
      → Completes limit (before ++ e0 ∷ (since ++ x ∷ rest)) (suc (length before) + length since) d (take s.len ((s.bytes ++ carried d since) ++ bytes))
  unfolding open-there
  completes j =
      let w = was-last (standing_of d s since) x.micros sequence_number can_dl j in
      let low = w.low in
      let ends = w.ends in
      let size = come-by-places limit d e0 s since begins opens in
      let held_by = next_from d x sequence_number can_dl bytes goes in
      let o = open-there limit d before e0 s since (x ∷ rest) begins opens in
      let k = consecutive_frames_in d since in
      let more = o.more in
      let next : bytes_before (bytes_in_first e0.frame.bytes) s.rx_dl (k + 1) ≡ bytes_before (bytes_in_first e0.frame.bytes) s.rx_dl k + (s.rx_dl - 1) = omega arith in
      let all_came : k + 1 ≡ o.count = elim (cases_lt (k + 1) o.count) [
        | inl below ↦ absurd (let less = o.least.fewer (k + 1) below in omega arith)
        | inr all ↦ omega arith
      ] in
      let back : o.count - 1 ≡ k = omega arith in
      let product = ap (λ j. j * (s.rx_dl - 1)) back in
      let enough : s.len ≤ length (s.bytes ++ carried d since) + length bytes = omega arith in
      let regroup : before ++ e0 ∷ (since ++ x ∷ rest) ≡ (before ++ e0 ∷ since) ++ x ∷ rest = sym (append_assoc before (e0 ∷ since) (x ∷ rest)) in
      record {
        fit = record {
          begun = length before;
          number = k;
          is_open = o;
          next = record {
            entry = x;
            stands = get-behind (before ++ e0 ∷ (since ++ x ∷ rest)) (before ++ e0 ∷ since) rest (suc (length before) + length since) x regroup
                (omega (arith, length-append before (e0 ∷ since)));
            sequence_number = sequence_number;
            can_dl = can_dl;
            bytes = bytes;
            kind = goes;
          };
          fits = (
            on-time-from _ d (length before) _ (reference d s.micros since) x (refers d before e0 s since (x ∷ rest) begins) (le-leb _ _ w.on_time),
            record {
              from_one = omega arith;
              to_last = omega arith;
              in_sequence = w.number;
              full = λ less. absurd (omega arith);
              last_low = λ same. omega arith;
              last_high = λ same. w.high;
            },
            all_came,
          );
        };
        size = omega (arith, length-take s.len ((s.bytes ++ carried d since) ++ bytes), length-append (s.bytes ++ carried d since) bytes);
        places = whole-at limit d before e0 s since begins opens rest x sequence_number can_dl bytes goes enough ends;
      }

delivered : (limit : ℕ) (T : List Entry) (d : Channel) (e : Entry) (rest : List Entry) (m : List ℕ) (ms : List (List ℕ)) (r : FrameRole) (o : Option StandingReception)
    → role d e ≡ r → stands limit d T ≡ o → completed o e.micros r ≡ m ∷ ms → Delivers limit (T ++ e ∷ rest) (length T) d m
delivered limit T d e rest m ms (single x) o is now h = in_one_frame (record { entry = e; stands = get-here T rest e; kind = (let same : x ≡ m = cc in is ∙ ap single same) })
delivered limit T d e rest m ms (consecutive sequence_number can_dl bytes) None is now h = absurd (cc)
delivered limit T d e rest m ms (consecutive sequence_number can_dl bytes) (Some st) is now h =
    let w = found limit d T st now in
    let l = completed-last (fit_of st e.micros sequence_number can_dl) st bytes m ms h in
    let j : fit_of (standing_of d w.s w.since) e.micros sequence_number can_dl ≡ last =
    subst (λ x. fit_of x e.micros sequence_number can_dl ≡ last) w.is l.0 in
    let c = completes limit d w.before w.e w.s w.since rest w.begins w.opens e sequence_number can_dl bytes is j in
    let is_m : take w.s.len ((w.s.bytes ++ carried d w.since) ++ bytes) ≡ m = ap (λ x. take x.len (x.bytes ++ bytes)) (sym w.is) ∙ l.1 in
    in_frames (subst (Completes limit (T ++ e ∷ rest) (length T) d) is_m
    (subst (λ p. Completes limit (T ++ e ∷ rest) p d (take w.s.len ((w.s.bytes ++ carried d w.since) ++ bytes))) (split-length T w.before w.since w.e w.splits)
    (subst (λ t. Completes limit t (suc (length w.before) + length w.since) d (take w.s.len ((w.s.bytes ++ carried d w.since) ++ bytes)))
    (regrouped T (e ∷ rest) w.before w.since w.e w.splits) c)))
delivered limit T d e rest m ms (first s) o is now h = absurd (cc)
delivered limit T d e rest m ms continue_or_wait o is now h = absurd (cc)
delivered limit T d e rest m ms overflow o is now h = absurd (cc)
delivered limit T d e rest m ms no_part o is now h = absurd (cc)

-- ---- what is delivered there, the frame completes

completed-in : (limit : ℕ) (T : List Entry) (d : Channel) (e : Entry) (m : List ℕ) → Completes limit (T ++ e ∷ []) (length T) d m
    → completed (stands limit d T) e.micros (role d e) ≡ m ∷ []
unfolding completes
completed-in limit T d e m c =
    let next = c.fit.next in
    let o = c.fit.is_open in
    let s = o.begins.start in
    let is_e : next.entry ≡ e = get-same (T ++ e ∷ []) (length T) next.entry e next.stands (get-here T [] e) in
    let goes : role d e ≡ consecutive next.sequence_number next.can_dl next.bytes = ap (role d) (sym is_e) ∙ next.kind in
    let w = stands-there limit d T (e ∷ []) c.fit.begun c.fit.number o in
    let before = w.before in
    let since = w.since in
    let taken = w.taken in
    let st = standing_of d s since in
    let now : stands limit d T ≡ Some st = ap (stands limit d) w.splits ∙ open-stands-here limit d before since o.begins.entry s o.begins.kind w.opens in
    let whole : T ++ e ∷ [] ≡ before ++ o.begins.entry ∷ (since ++ e ∷ []) = sym (regrouped T (e ∷ []) before since o.begins.entry w.splits) in
    let ends = split-length T before since o.begins.entry w.splits in
    let size = come-by-places limit d o.begins.entry s since o.begins.kind w.opens in
    let ends_all = c.fit.fits.2 in
    let below : consecutive_frames_in d since < o.count = omega arith in
    let product = ap (λ j. j * (s.rx_dl - 1)) taken in
    let fit = (fits-join (bytes_in_first o.begins.entry.frame.bytes) s.rx_dl s.len o.count (consecutive_frames_in d since) next.sequence_number next.can_dl o.least below).0
    (subst (λ k. FitsAs (bytes_in_first o.begins.entry.frame.bytes) s.rx_dl s.len o.count (k + 1) next.sequence_number next.can_dl) taken c.fit.fits.1) in
    let on : IsOnTime (before ++ o.begins.entry ∷ (since ++ e ∷ [])) d (length before) (suc (length before) + length since) e =
    on-time-same d _ _ _ _ _ _ _ _ whole (sym w.place) (sym ends) is_e c.fit.fits.0 in
    let on_time = on-time-to _ d (length before) _ (reference d s.micros since) e (refers d before o.begins.entry s since (e ∷ []) o.begins.kind) on in
    let all : o.count ≡ consecutive_frames_in d since + 1 = omega arith in
    let product_all = ap (λ j. j * (s.rx_dl - 1)) all in
    let enough = o.least.enough in
    let short : st.len ≤ length st.bytes + (st.rx_dl - 1) = omega arith in
    let fits : has_length st next.can_dl ≡ true = subst (λ h. fits_length s.len s.rx_dl h next.can_dl ≡ true) (sym size) fit.1 in
    let j : fit_of st e.micros next.sequence_number next.can_dl ≡ last =
    is-last st e.micros next.sequence_number next.can_dl on_time (eq-eqb _ _ fit.0) fits (le-ltb _ _ short) in
    let got = completes limit d before o.begins.entry s since [] o.begins.kind w.opens e next.sequence_number next.can_dl next.bytes goes j in
    let from = first_from d o.begins.entry s o.begins.kind in
    let places : AtPlaces (before ++ o.begins.entry ∷ (since ++ e ∷ [])) d (length before) o.begins.entry s.rx_dl m =
    subst (λ i. AtPlaces (before ++ o.begins.entry ∷ (since ++ e ∷ [])) d i o.begins.entry s.rx_dl m) (sym w.place)
    (subst (λ t. AtPlaces t d c.fit.begun o.begins.entry s.rx_dl m) whole c.places) in
    let same : take s.len ((s.bytes ++ carried d since) ++ next.bytes) ≡ m =
    same-message (before ++ o.begins.entry ∷ (since ++ e ∷ [])) d (length before) o.begins.entry s.rx_dl (take s.len ((s.bytes ++ carried d since) ++ next.bytes)) m
    (omega arith) got.places places (got.size ∙ sym c.size) in
    let told : completed_by (fit_of st e.micros next.sequence_number next.can_dl) st next.bytes ≡ m ∷ [] = ap (λ j. completed_by j st next.bytes) j ∙ ap (λ x. x ∷ []) same in
    ap (λ x. completed x e.micros (role d e)) now ∙ ap (completed (Some st) e.micros) goes ∙ told

completed-all : (limit : ℕ) (T : List Entry) (d : Channel) (e : Entry) (m : List ℕ) → Delivers limit (T ++ e ∷ []) (length T) d m
    → completed (stands limit d T) e.micros (role d e) ≡ m ∷ []
completed-all limit T d e m (in_one_frame one) =
    let is_e : one.entry ≡ e = get-same (T ++ e ∷ []) (length T) one.entry e one.stands (get-here T [] e) in
    let kind_e : role d e ≡ single m = ap (role d) (sym is_e) ∙ one.kind in
    ap (completed (stands limit d T) e.micros) kind_e
completed-all limit T d e m (in_frames c) = completed-in limit T d e m c

-- ---- both together

pub delivers-there : (limit : ℕ) (T rest : List Entry) (e : Entry) (m : List ℕ) → (verdict limit T e).verdict ≡ message m → Delivers limit (T ++ e ∷ rest) (length T) e.channel m
delivers-there limit T rest e m h =
    let w = place-message (completed (stands limit e.channel T) e.micros (role e.channel e)) m (sym (told-at limit T e) ∙ ap (placed 0) h) in
    delivered limit T e.channel e rest m w.0 (role e.channel e) (stands limit e.channel T) refl refl w.1

pub message-delivers : (limit : ℕ) (T : List Entry) (e : Entry) (m : List ℕ) → ((verdict limit T e).verdict ≡ message m) ↔ Delivers limit (T ++ e ∷ []) (length T) e.channel m
message-delivers limit T e m = (delivers-there limit T [] e m, from) where
  from : Delivers limit (T ++ e ∷ []) (length T) e.channel m → (verdict limit T e).verdict ≡ message m
  from h = placed-message (verdict limit T e).verdict m (told-at limit T e ∙ ap (at_place 0) (completed-all limit T e.channel e m h))
