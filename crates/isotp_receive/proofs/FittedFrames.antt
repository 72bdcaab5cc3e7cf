-- What becomes of a consecutive frame where a reception is open.
use Rattle.std.proofs.Common.{◌≡◌, ℕ, ◌+◌, ◌-◌, ◌*◌, ◌%◌, ◌<◌, true, List, [], ◌∷◌, ◌++◌, length, take, ◌==◌, Some, None, Result, Ok, Err, refl}
use Rattle.std.proofs.Common.{sym, ◌∙◌, ap, arith, inl, inr, subst}
use Rattle.std.specs.Prelude.{◌≢◌}
use Rattle.std.proofs.lemmas.Bool.{lt-ltb, ltb-true, eq-eqb, eqb-true, ne_eqb, cases_Bool, false≢true, false_from_ne_true}
use Rattle.isotp_pdu.specs.Layout.{Layout}
use Rattle.isotp_pdu.specs.Layout as layout
use Rattle.isotp_receive.specs.declared.event.Cause.{Cause}
use Rattle.isotp_receive.specs.declared.event.Cause.TheVariants as cause
use Rattle.isotp_receive.specs.declared.event.Reason.TheVariants as reason
use Rattle.isotp_receive.specs.Trace.{Entry, FirstFrame, single, consecutive, role, own_role}
use Rattle.isotp_receive.specs.OnTime.{IsOnTime}
use Rattle.isotp_receive.specs.Fit.{Fit, FitsSo}
use Rattle.isotp_receive.specs.Fit as fit
use Rattle.isotp_receive.specs.StandingReception.{StandingReception, reference, fits_length, standing_of, is_on_time, expected, has_length, stays_incomplete, fit_of, stands}
use Rattle.isotp_receive.specs.Places.{bytes_in_first, bytes_before, consecutive_frames_in, FitsAs}
use Rattle.isotp_receive.specs.Verdict.{EventValue, message, stored, refused, ended_as, verdict, on_fit, on_consecutive}
use Rattle.isotp_receive.specs.VerdictTable.{IsOpenBefore, ended_by, FitsNext, HasVerdict, next_late, wrong_number, wrong_length, stored_frame, last_frame}
use Rattle.isotp_receive.specs.Delivers.{Delivers, in_one_frame, in_frames}
use Rattle.isotp_receive.proofs.ListPositions.{get-same, get-here, regrouped, split-length}
use Rattle.isotp_receive.proofs.Directions.{same-self}
use Rattle.isotp_receive.proofs.Fits.{fits-join}
use Rattle.isotp_receive.proofs.FitTests.{is-late, is-wrong-number, is-wrong-length, is-more, is-last}
use Rattle.isotp_receive.proofs.OpenLaws.{open-stands-here}
use Rattle.isotp_receive.proofs.References.{refers, on-time-same, on-time-from, on-time-to}
use Rattle.isotp_receive.proofs.ConsecutiveCounts.{below-count}
use Rattle.isotp_receive.proofs.OpenPositions.{stands-there}
use Rattle.isotp_receive.proofs.BytesAtPlaces.{come-by-places}
use Rattle.isotp_receive.proofs.DeliversLaws.{message-delivers}
use Rattle.isotp_receive.specs.Channels.{dir_of}
use Rattle.isotp_receive.specs.Trace.{layout_in}
use Rattle.isotp_receive.specs.declared.event.Reason.{Reason}
use Rattle.direction.specs.declared.Dir.{Dir}

-- ---- the verdict on a consecutive frame is by what stands for its direction

read-consecutive : (line micros sequence_number can_dl : ℕ) (bytes : List ℕ) (x : Result Layout Reason)
    → own_role line micros x ≡ consecutive sequence_number can_dl bytes → x ≡ Ok (layout.consecutive sequence_number can_dl bytes)
read-consecutive line micros sequence_number can_dl bytes (Ok (layout.consecutive n dl bs)) h =
    let is_n : n ≡ sequence_number = cc in
    let is_dl : dl ≡ can_dl = cc in
    let is_bytes : bs ≡ bytes = cc in
    rw (is_n, is_dl, is_bytes) refl
read-consecutive line micros sequence_number can_dl bytes (Ok (layout.single m)) h = absurd (cc)
read-consecutive line micros sequence_number can_dl bytes (Ok (layout.first len rx_dl bs)) h = absurd (cc)
read-consecutive line micros sequence_number can_dl bytes (Ok (layout.flow_control s)) h = absurd (cc)
read-consecutive line micros sequence_number can_dl bytes (Err f) h = absurd (cc)

pub on-own : (limit : ℕ) (T : List Entry) (e : Entry) (sequence_number can_dl : ℕ) (bytes : List ℕ) → role e.channel e ≡ consecutive sequence_number can_dl bytes
    → verdict limit T e ≡ on_consecutive (dir_of e.channel) (stands limit e.channel T) e.micros sequence_number can_dl bytes
unfolding verdict role
on-own limit T e sequence_number can_dl bytes h =
    let own = rw (same-self e.channel) at h in
    let read = read-consecutive e.line e.micros sequence_number can_dl bytes (layout_in e) own in
    rw read refl

pub ended-is : (d : Dir) (s : FirstFrame) (st : StandingReception) (c : Cause) → st.line ≡ s.line → st.len ≡ s.len → ended_as c d (Some st) ≡ Some (ended_by d s c)
ended-is d s st c line len =
    ap (λ l. Some (record { dir = d; begun_line = l; len = st.len; cause = c })) line
    ∙ ap (λ n. Some (record { dir = d; begun_line = s.line; len = n; cause = c })) len

module _ (limit : ℕ) (T : List Entry) (e : Entry) (i k sequence_number can_dl : ℕ) (bytes : List ℕ)
    (goes : role e.channel e ≡ consecutive sequence_number can_dl bytes) (o : IsOpenBefore limit T e e.channel i k) where
  abbrev pub OnTime : Type 0
  OnTime = IsOnTime (T ++ e ∷ []) e.channel i (length T) e

  abbrev pub Fits : Type 0
  Fits = FitsAs (bytes_in_first o.begins.entry.frame.bytes) o.begins.start.rx_dl o.begins.start.len o.count (k + 1) sequence_number can_dl

  -- ---- what stands, and its tests in the words of the table

  record Meets : Type 0 where
    st : StandingReception
    is : verdict limit T e ≡ on_fit (dir_of e.channel) st (fit_of st e.micros sequence_number can_dl) sequence_number bytes
    line : st.line ≡ o.begins.start.line
    len : st.len ≡ o.begins.start.len
    next : expected st ≡ (k + 1) % 16
    time_to : OnTime → is_on_time st e.micros ≡ true
    time_from : is_on_time st e.micros ≡ true → OnTime
    fits_to : Fits → (sequence_number ≡ (k + 1) % 16) × (has_length st can_dl ≡ true)
    fits_from : sequence_number ≡ (k + 1) % 16 → has_length st can_dl ≡ true → Fits
    more_to : k + 1 < o.count → stays_incomplete st ≡ true
    more_from : stays_incomplete st ≡ true → k + 1 < o.count

  meets : Meets
  meets =
      let d = e.channel in
      let s = o.begins.start in
      let f = bytes_in_first o.begins.entry.frame.bytes in
      let w = stands-there limit d T (e ∷ []) i k o in
      let n = consecutive_frames_in d w.since in
      let st = standing_of d s w.since in
      let now : stands limit d T ≡ Some st = ap (stands limit d) w.splits ∙ open-stands-here limit d w.before w.since o.begins.entry s o.begins.kind w.opens in
      let on : verdict limit T e ≡ on_consecutive (dir_of d) (Some st) e.micros sequence_number can_dl bytes =
      on-own limit T e sequence_number can_dl bytes goes ∙ ap (λ x. on_consecutive (dir_of d) x e.micros sequence_number can_dl bytes) now in
      let whole : w.before ++ o.begins.entry ∷ (w.since ++ e ∷ []) ≡ T ++ e ∷ [] = regrouped T (e ∷ []) w.before w.since o.begins.entry w.splits in
      let ends = split-length T w.before w.since o.begins.entry w.splits in
      let ref = refers d w.before o.begins.entry s w.since (e ∷ []) o.begins.kind in
      let size = come-by-places limit d o.begins.entry s w.since o.begins.kind w.opens in
      let taken = w.taken in
      let product = ap (λ j. (j + 1) * (s.rx_dl - 1)) taken in
      let more = o.more in
      let below : n < o.count = omega arith in
      let join = fits-join f s.rx_dl s.len o.count n sequence_number can_dl o.least below in
      let length_is : has_length st can_dl ≡ fits_length s.len s.rx_dl (bytes_before f s.rx_dl n) can_dl = ap (λ h. fits_length s.len s.rx_dl h can_dl) size in
      let number_is : (k + 1) % 16 ≡ (n + 1) % 16 = ap (λ j. (j + 1) % 16) taken in
      record {
        st = st;
        is = on;
        line = refl;
        len = refl;
        next = sym number_is;
        time_to = λ at. on-time-to _ d (length w.before) _ (reference d s.micros w.since) e ref
            (on-time-same d _ _ _ _ _ _ e e (sym whole) (sym w.place) (sym ends) refl at);
        time_from = λ t. on-time-same d _ _ _ _ _ _ e e whole w.place ends refl
            (on-time-from _ d (length w.before) _ (reference d s.micros w.since) e ref t);
        fits_to = λ fits.
            let tests = join.0 (subst (λ j. FitsAs f s.rx_dl s.len o.count (j + 1) sequence_number can_dl) taken fits) in
            (tests.0 ∙ sym number_is, length_is ∙ tests.1);
        fits_from = λ number fits.
            subst (λ j. FitsAs f s.rx_dl s.len o.count (j + 1) sequence_number can_dl) (sym taken)
            (join.1 (number ∙ number_is, sym length_is ∙ fits));
        more_to = λ less. (let room = o.least.fewer (k + 1) less in lt-ltb _ _ (omega arith));
        more_from = λ t. (let room = ltb-true (length st.bytes + (st.rx_dl - 1)) st.len t in
            below-count f s.rx_dl s.len o.count (k + 1) o.least (omega arith));
      }

  -- so it fits
  fits-so : (m : Meets) (f : Fit) → fit_of m.st e.micros sequence_number can_dl ≡ f → verdict limit T e ≡ on_fit (dir_of e.channel) m.st f sequence_number bytes
  fits-so m f h = m.is ∙ ap (λ x. on_fit (dir_of e.channel) m.st x sequence_number bytes) h

  -- and the reception that it ended
  ends-by : (m : Meets) (c : Cause) → ended_as c (dir_of e.channel) (Some m.st) ≡ Some (ended_by (dir_of e.channel) o.begins.start c)
  ends-by m c = ended-is (dir_of e.channel) o.begins.start m.st c m.line m.len

  -- ---- the verdict is that of the row

  pub late : (OnTime → ⊥) → verdict limit T e ≡ refused (Some (ended_by (dir_of e.channel) o.begins.start cause.Late)) reason.NextLate
  late off =
      let m = meets in
      let off_time = false_from_ne_true (is_on_time m.st e.micros) (λ t. off (m.time_from t)) in
      fits-so m fit.late (is-late m.st e.micros sequence_number can_dl off_time)
      ∙ ap (λ x. refused x reason.NextLate) (ends-by m cause.Late)

  pub number : OnTime → sequence_number ≢ (k + 1) % 16
      → verdict limit T e ≡ refused (Some (ended_by (dir_of e.channel) o.begins.start cause.Sequence)) (reason.NextSequence ((k + 1) % 16) sequence_number)
  number on apart =
      let m = meets in
      let other = ne_eqb sequence_number (expected m.st) (λ same. apart (same ∙ m.next)) in
      fits-so m fit.wrong_number (is-wrong-number m.st e.micros sequence_number can_dl (m.time_to on) other)
      ∙ ap (λ x. refused x (reason.NextSequence (expected m.st) sequence_number)) (ends-by m cause.Sequence)
      ∙ ap (λ x. refused (Some (ended_by (dir_of e.channel) o.begins.start cause.Sequence)) (reason.NextSequence x sequence_number)) m.next

  pub size : OnTime → sequence_number ≡ (k + 1) % 16 → (Fits → ⊥)
      → verdict limit T e ≡ refused (Some (ended_by (dir_of e.channel) o.begins.start cause.Length)) reason.NextLength
  size on number apart =
      let m = meets in
      let expected_one = eq-eqb sequence_number (expected m.st) (number ∙ sym m.next) in
      let other = false_from_ne_true (has_length m.st can_dl) (λ t. apart (m.fits_from number t)) in
      fits-so m fit.wrong_length (is-wrong-length m.st e.micros sequence_number can_dl (m.time_to on) expected_one other)
      ∙ ap (λ x. refused x reason.NextLength) (ends-by m cause.Length)

  pub kept : OnTime → Fits → k + 1 < o.count
      → verdict limit T e ≡ record { ended = None; verdict = stored }
  kept on fits less =
      let m = meets in
      let tests = m.fits_to fits in
      let expected_one = eq-eqb sequence_number (expected m.st) (tests.0 ∙ sym m.next) in
      fits-so m fit.one_more (is-more m.st e.micros sequence_number can_dl (m.time_to on) expected_one tests.1 (m.more_to less))

  -- ---- and it has a row

  last-row : (whole : List ℕ) → Delivers limit (T ++ e ∷ []) (length T) e.channel whole → (a : EventValue) × HasVerdict limit T e a
  last-row whole (in_frames c) = (record { ended = None; verdict = message whole }, last_frame whole c)
  last-row whole (in_one_frame one) =
      let is_e : one.entry ≡ e = get-same (T ++ e ∷ []) (length T) one.entry e one.stands (get-here T [] e) in
      let both : single whole ≡ consecutive sequence_number can_dl bytes = sym one.kind ∙ ap (role e.channel) is_e ∙ goes in
      absurd (cc)

  so : (f : Fit)
      → FitsSo (bytes_in_first o.begins.entry.frame.bytes) o.begins.start.rx_dl o.begins.start.len o.count (k + 1) sequence_number can_dl OnTime f → FitsNext limit T e f
  so f fits = record {
    begun = i;
    number = k;
    is_open = o;
    next = record { entry = e; stands = get-here T [] e; sequence_number = sequence_number; can_dl = can_dl; bytes = bytes; kind = goes };
    fits = fits;
  }

  pub has-row : (a : EventValue) × HasVerdict limit T e a
  has-row = by_tests meets where
    by_tests : Meets → (a : EventValue) × HasVerdict limit T e a
    by_tests m = elim (cases_Bool (is_on_time m.st e.micros)) [
      | inr t ↦ (_, next_late (so fit.late (λ on. false≢true (sym t ∙ m.time_to on))))
      | inl t ↦ elim (cases_Bool (sequence_number == expected m.st)) [
        | inr q ↦ (
          _,
          wrong_number (so fit.wrong_number (
            m.time_from t,
            λ same. false≢true (sym q ∙ eq-eqb sequence_number (expected m.st) (same ∙ sym m.next)),
          )),
        )
        | inl q ↦ (let number : sequence_number ≡ (k + 1) % 16 = eqb-true sequence_number (expected m.st) q ∙ m.next in
            elim (cases_Bool (has_length m.st can_dl)) [
              | inr f ↦ (_, wrong_length (so fit.wrong_length (m.time_from t, number, λ fits. false≢true (sym f ∙ (m.fits_to fits).1))))
              | inl f ↦ elim (cases_Bool (stays_incomplete m.st)) [
                | inl b ↦ (_, stored_frame (so fit.one_more (m.time_from t, m.fits_from number f, m.more_from b)))
                | inr b ↦ (let whole = take m.st.len (m.st.bytes ++ bytes) in
                    let is = fits-so m fit.last (is-last m.st e.micros sequence_number can_dl t q f b) in
                    last-row whole ((message-delivers limit T e whole).0 (ap (λ a. a.verdict) is)))
              ]
            ])
      ]
    ]
