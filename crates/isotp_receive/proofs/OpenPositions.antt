-- A reception that is open by the positions of a trace stands, and what stands is open by them.
use Rattle.std.proofs.Common.{◌≡◌, ℕ, suc, ◌+◌, ◌<◌, true, List, [], ◌∷◌, ◌++◌, length, nat_lt, refl, sym, ◌∙◌, ap, arith, subst}
use Rattle.std.proofs.Common.{append_assoc, length-append}
use Rattle.std.proofs.lemmas.Bool.{and_parts, and_from, ltb-true, lt-ltb, le-leb, eqb-true, eq-eqb, false≢true}
use Rattle.isotp_receive.specs.declared.channel.Channel.{Channel}
use Rattle.isotp_receive.specs.Trace.{Entry, At, FirstFrame, FrameRole, single, first, consecutive, continue_or_wait, overflow, no_part, role}
use Rattle.isotp_receive.specs.Places.{bytes_in_first, bytes_before, IsConsecutiveCount, consecutive_frames_in, between}
use Rattle.isotp_receive.specs.OnTime.{IsOnTime}
use Rattle.isotp_receive.specs.StandingReception.{carried, reference, standing_of, carried_after, fits_length, keeps_by, keep, is_open}
use Rattle.isotp_receive.specs.OpenReception.{LeavesOpen, IsOpenAt}
use Rattle.isotp_receive.proofs.ListPositions.{get-here, get-behind, get-left, split-at, split-behind, range-behind, regrouped, split-length}
use Rattle.isotp_receive.proofs.Readings.{first_from}
use Rattle.isotp_receive.proofs.Fits.{room-join, fits-join}
use Rattle.isotp_receive.proofs.CountedFrames.{taken-append}
use Rattle.isotp_receive.proofs.FullFrames.{open-after, come-after, come-before}
use Rattle.isotp_receive.proofs.FitTests.{was-next, is-next-one}
use Rattle.isotp_receive.proofs.OpenLaws.{kept-at, keep-from-each}
use Rattle.isotp_receive.proofs.References.{refers, on-time-from, on-time-to}
use Rattle.isotp_receive.proofs.ConsecutiveCounts.{below-count, count-exists}

-- ---- a frame x after the frames b, which follow the first frame e0 that began the reception s

module _ (d : Channel) (before : List Entry) (e0 : Entry) (s : FirstFrame) (begins : role d e0 ≡ first s)
    (n : ℕ) (least : IsConsecutiveCount (bytes_in_first e0.frame.bytes) s.rx_dl s.len n) (b : List Entry) (x : Entry) (after : List Entry)
    (come : length (s.bytes ++ carried d b) ≡ carried_after s (consecutive_frames_in d b)) where
  abbrev pub LeavesItOpen : FrameRole → Type 0
  LeavesItOpen r =
      LeavesOpen s (bytes_in_first e0.frame.bytes) n (consecutive_frames_in d b)
      (IsOnTime (before ++ e0 ∷ (b ++ x ∷ after)) d (length before) (suc (length before) + length b) x) r

  size : length (s.bytes ++ carried d b) ≡ bytes_before (bytes_in_first e0.frame.bytes) s.rx_dl (consecutive_frames_in d b)
  size = come ∙ room-join d e0 s (consecutive_frames_in d b) begins

  pub leaves-by : (r : FrameRole) → keeps_by d s b x.micros r ≡ true → LeavesItOpen r
  leaves-by (consecutive sequence_number can_dl bytes) h =
      let next = was-next (standing_of d s b) x.micros sequence_number can_dl h in
      let fits : fits_length s.len s.rx_dl (bytes_before (bytes_in_first e0.frame.bytes) s.rx_dl (consecutive_frames_in d b)) can_dl ≡ true =
      subst (λ have. fits_length s.len s.rx_dl have can_dl ≡ true) size next.fits in
      let have = ltb-true _ _ (and_parts (nat_lt _ s.len) _ fits).0 in
      let below = below-count (bytes_in_first e0.frame.bytes) s.rx_dl s.len n (consecutive_frames_in d b) least have in (
        (fits-join (bytes_in_first e0.frame.bytes) s.rx_dl s.len n (consecutive_frames_in d b) sequence_number can_dl least below).1 (eqb-true _ _ next.number, fits),
        on-time-from _ d (length before) _ (reference d s.micros b) x (refers d before e0 s b (x ∷ after) begins) next.on_time,
      )
  leaves-by (single m) h = absurd (false≢true h)
  leaves-by (first f) h = absurd (false≢true h)
  leaves-by continue_or_wait h = tt
  leaves-by overflow h = ltb-true 0 (consecutive_frames_in d b) h
  leaves-by no_part h = tt

  keeps-from : (r : FrameRole) → consecutive_frames_in d b < n → LeavesItOpen r → keeps_by d s b x.micros r ≡ true
  keeps-from (consecutive sequence_number can_dl bytes) below h =
      let fit = (fits-join (bytes_in_first e0.frame.bytes) s.rx_dl s.len n (consecutive_frames_in d b) sequence_number can_dl least below).0 h.0 in
      is-next-one (standing_of d s b) x.micros sequence_number can_dl (record {
        on_time = on-time-to _ d (length before) _ (reference d s.micros b) x (refers d before e0 s b (x ∷ after) begins) h.1;
        number = eq-eqb _ _ fit.0;
        fits = subst (λ have. fits_length s.len s.rx_dl have can_dl ≡ true) (sym size) fit.1;
      })
  keeps-from (single m) below h = absurd h
  keeps-from (first f) below h = absurd h
  keeps-from continue_or_wait below h = refl
  keeps-from overflow below h = lt-ltb 0 (consecutive_frames_in d b) h
  keeps-from no_part below h = refl

-- the same said of the same frame in another spelling of the trace
pub same-leaves : (d : Channel) (s : FirstFrame) (f n i i' j j' c c' : ℕ) (T T' : List Entry) (x : Entry) (r : FrameRole) → j ≡ j' → T ≡ T' → i ≡ i' → c ≡ c'
    → LeavesOpen s f n j (IsOnTime T d i c x) r → LeavesOpen s f n j' (IsOnTime T' d i' c' x) r
same-leaves d s f n i i' j j' c c' T T' x r ej et ei ec h =
    subst (λ z. LeavesOpen s f n z (IsOnTime T' d i' c' x) r) ej (subst (λ z. LeavesOpen s f n j (IsOnTime z d i' c' x) r) et
    (subst (λ z. LeavesOpen s f n j (IsOnTime T d z c' x) r) ei (subst (λ z. LeavesOpen s f n j (IsOnTime T d i z x) r) ec h)))

-- ---- a frame that stands after another one of the first of two lists

pub record IsBehind (before : List Entry) (e0 : Entry) (since rest : List Entry) (c : ℕ) (x : Entry) : Type 0 where
  pub b : List Entry
  pub after : List Entry
  pub splits : since ≡ b ++ x ∷ after
  pub place : c ≡ suc (length before) + length b
  pub whole : before ++ e0 ∷ (since ++ rest) ≡ before ++ e0 ∷ (b ++ x ∷ (after ++ rest))

split-behind-it : (before : List Entry) (e0 : Entry) (since rest : List Entry) (c : ℕ) (x : Entry)
    → (b : List Entry) × (after : List Entry) × (since ≡ b ++ x ∷ after) × (c ≡ suc (length before) + length b) → IsBehind before e0 since rest c x
split-behind-it before e0 since rest c x (b, after, splits, place) = record {
  b = b;
  after = after;
  splits = splits;
  place = place;
  whole = ap (λ l. before ++ e0 ∷ l) (sym (regrouped since rest b after x splits));
}

pub is-behind : (before : List Entry) (e0 : Entry) (since rest : List Entry) (c : ℕ) (x : Entry) → length before < c → c < suc (length before) + length since
    → At (before ++ e0 ∷ (since ++ rest)) c x → IsBehind before e0 since rest c x
is-behind before e0 since rest c x later within at =
    let regroup : before ++ e0 ∷ (since ++ rest) ≡ (before ++ e0 ∷ since) ++ rest = sym (append_assoc before (e0 ∷ since) rest) in
    let inside : c < length (before ++ e0 ∷ since) = omega (arith, length-append before (e0 ∷ since)) in
    let there : At (before ++ e0 ∷ since) c x = sym (get-left (before ++ e0 ∷ since) rest c inside) ∙ subst (λ l. At l c x) regroup at in
    split-behind-it before e0 since rest c x (split-behind before e0 since c x later there)

-- ---- what stands is open at its place, whatever follows

unfoldable pub open-there : (limit : ℕ) (d : Channel) (before : List Entry) (e0 : Entry) (s : FirstFrame) (since rest : List Entry)
    → role d e0 ≡ first s → is_open limit d s since ≡ true
    → IsOpenAt limit (before ++ e0 ∷ (since ++ rest)) d (length before) (consecutive_frames_in d since) (suc (length before) + length since)
open-there limit d before e0 s since rest begins opens =
    let open_since = open-after limit d s since opens in
    let from = first_from d e0 s begins in
    let found = count-exists (bytes_in_first e0.frame.bytes) s.rx_dl s.len (omega arith) in
    record {
      later = omega arith;
      inside = omega (arith, length-append before (e0 ∷ (since ++ rest)), length-append since rest);
      begins = record { entry = e0; stands = get-here before (since ++ rest) e0; start = s; kind = begins };
      fits = open_since.within;
      count = found.0;
      least = found.1;
      each = λ c x later within at.
          let w = is-behind before e0 since rest c x later within at in
          let kept = kept-at d s since open_since.kept w.b w.after x w.splits in
          let here : between (before ++ e0 ∷ (since ++ rest)) (length before) c ≡ w.b =
          ap (λ l. between l (length before) c) w.whole
          ∙ ap (between (before ++ e0 ∷ (w.b ++ x ∷ (w.after ++ rest))) (length before)) w.place
          ∙ range-behind before e0 w.b (x ∷ (w.after ++ rest)) in
          let come = come-before d s since w.b (x ∷ w.after) open_since.kept open_since.room w.splits in
          let leaves = leaves-by d before e0 s begins found.0 found.1 w.b x (w.after ++ rest) come (role d x) kept in
          same-leaves d s _ found.0 (length before) (length before) _ _ _ c _ _ x (role d x)
          (ap (consecutive_frames_in d) (sym here)) (sym w.whole) refl (sym w.place) leaves;
      taken = ap (consecutive_frames_in d) (sym (range-behind before e0 since rest));
      more = below-count (bytes_in_first e0.frame.bytes) s.rx_dl s.len found.0 (consecutive_frames_in d since) found.1
          (let same = room-join d e0 s (consecutive_frames_in d since) begins in let room = open_since.room in omega arith);
    }

-- ---- what is open at a place stands there

module _ (limit : ℕ) (d : Channel) (T rest : List Entry) (begun number : ℕ) (o : IsOpenAt limit (T ++ rest) d begun number (length T)) where
  pub record StandsThere : Type 0 where
    pub before : List Entry
    pub since : List Entry
    pub splits : T ≡ before ++ o.begins.entry ∷ since
    pub place : length before ≡ begun
    pub opens : is_open limit d o.begins.start since ≡ true
    pub taken : number ≡ consecutive_frames_in d since

  -- each frame since keeps it open
  keeps-each : (before since : List Entry) → T ≡ before ++ o.begins.entry ∷ since → length before ≡ begun → number ≡ consecutive_frames_in d since
      → (b after : List Entry) (x : Entry) → since ≡ b ++ x ∷ after → keep d o.begins.start [] b ≡ true → keeps_by d o.begins.start b x.micros (role d x) ≡ true
  keeps-each before since is place taken b after x splits kept =
      let c = suc (length before) + length b in
      let size_since = ap length splits ∙ length-append b (x ∷ after) in
      let count_since = ap (consecutive_frames_in d) splits ∙ taken-append d b (x ∷ after) in
      let ends = split-length T before since o.begins.entry is in
      let whole : T ++ rest ≡ before ++ o.begins.entry ∷ (b ++ x ∷ (after ++ rest)) =
      sym (regrouped T rest before since o.begins.entry is) ∙ ap (λ l. before ++ o.begins.entry ∷ l) (sym (regrouped since rest b after x splits)) in
      let regroup : before ++ o.begins.entry ∷ (b ++ x ∷ (after ++ rest)) ≡ (before ++ o.begins.entry ∷ b) ++ x ∷ (after ++ rest) =
      sym (append_assoc before (o.begins.entry ∷ b) (x ∷ (after ++ rest))) in
      let at = get-behind (T ++ rest) (before ++ o.begins.entry ∷ b) (after ++ rest) c x (whole ∙ regroup) (omega (arith, length-append before (o.begins.entry ∷ b))) in
      let leaves = o.each c x (omega arith) (omega arith) at in
      let here : between (T ++ rest) begun c ≡ b =
      ap (λ l. between l begun c) whole ∙ ap (λ j. between (before ++ o.begins.entry ∷ (b ++ x ∷ (after ++ rest))) j c) (sym place)
      ∙ range-behind before o.begins.entry b (x ∷ (after ++ rest)) in
      let below : consecutive_frames_in d b < o.count = (let more = o.more in omega arith) in
      let room = o.least.fewer (consecutive_frames_in d b) below in
      let same = room-join d o.begins.entry o.begins.start (consecutive_frames_in d b) o.begins.kind in
      keeps-from d before o.begins.entry o.begins.start o.begins.kind o.count o.least b x (after ++ rest) (come-after d o.begins.start b kept (omega arith)) (role d x) below
      (same-leaves d o.begins.start _ o.count begun (length before) _ _ c c _ _ x (role d x) (ap (consecutive_frames_in d) here) whole (sym place) refl leaves)

  pub stands-there : StandsThere
  stands-there =
      let later = o.later in
      let there : At T begun o.begins.entry = sym (get-left T rest begun later) ∙ o.begins.stands in
      let w = split-at T begun o.begins.entry there in
      let before = w.0 in
      let since = w.1 in
      let place = w.3 in
      let whole : T ++ rest ≡ before ++ o.begins.entry ∷ (since ++ rest) = sym (regrouped T rest before since o.begins.entry w.2) in
      let taken : number ≡ consecutive_frames_in d since =
      o.taken ∙ ap (consecutive_frames_in d) (ap (λ l. between l begun (length T)) whole
      ∙ ap (λ j. between (before ++ o.begins.entry ∷ (since ++ rest)) j (length T)) (sym place)
      ∙ ap (between (before ++ o.begins.entry ∷ (since ++ rest)) (length before)) (sym (split-length T before since o.begins.entry w.2))
      ∙ range-behind before o.begins.entry since rest) in
      let kept = keep-from-each d o.begins.start since (keeps-each before since w.2 place taken) in
      let room : carried_after o.begins.start (consecutive_frames_in d since) < o.begins.start.len =
      (let less = o.least.fewer (consecutive_frames_in d since) (subst (λ j. j < o.count) taken o.more) in
      let same = room-join d o.begins.entry o.begins.start (consecutive_frames_in d since) o.begins.kind in omega arith) in
      record {
        before = before;
        since = since;
        splits = w.2;
        place = place;
        opens = and_from _ _ (le-leb _ _ o.fits) (and_from _ _ (lt-ltb _ _ room) kept);
        taken = taken;
      }
