-- What the frames of a message do that is under way: its first frame, its next consecutive frame, and its last.
use Rattle.std.proofs.Common.{◌≡◌, ℕ, suc, ◌+◌, ◌-◌, ◌*◌, ◌<◌, ◌≤◌, true, List, [], ◌∷◌, ◌++◌, length, take, get_or, ◌==◌, Some, None}
use Rattle.std.proofs.Common.{refl, sym, ◌∙◌, ap, arith, length-append, length-take, inl, inr, subst}
use Rattle.std.proofs.lemmas.Bool.{lt-ltb, le-ltb, le-leb, eq-eqb, cases_lt}
use Rattle.std.proofs.lemmas.List.{take_all, get_or-drop}
use Rattle.std.proofs.lemmas.Grind.{get_or_after_one}
use Rattle.isotp_receive.specs.declared.channel.Channel.{Channel}
use Rattle.isotp_receive.specs.Trace.{Entry, consecutive, role, At}
use Rattle.isotp_receive.specs.Places.{bytes_in_first, bytes_before, FitsAs}
use Rattle.isotp_receive.specs.OnTime.{n_cr}
use Rattle.isotp_receive.specs.Fit.{one_more, last}
use Rattle.isotp_receive.specs.StandingReception.{StandingReception, is_on_time, expected, has_length, fit_of}
use Rattle.isotp_receive.specs.Recording.{IsSegmented}
use Rattle.isotp_receive.specs.proving.Machine.{after, fresh}
use Rattle.isotp_receive.proofs.Fronts.{front-goes-on}
use Rattle.isotp_receive.proofs.ListPositions.{get-same}
use Rattle.isotp_receive.proofs.Readings.{first_from, next_from}
use Rattle.isotp_receive.proofs.Fits.{fits-more, fits-last}
use Rattle.isotp_receive.proofs.FitTests.{is-more, is-last}
use Rattle.isotp_receive.proofs.References.{moved, same-reference, begins-at}
use Rattle.isotp_receive.proofs.HeardByRole.{completed}
use Rattle.isotp_receive.proofs.UnderWay.{UnderWay}

at_most : (f r len count k sequence_number can_dl : ℕ) → FitsAs f r len count k sequence_number can_dl → k ≤ count → can_dl ≤ r
at_most f r len count k sequence_number can_dl h le = elim (cases_lt k count) [
  | inl less ↦ (let full = h.full less in omega arith)
  | inr most ↦ h.last_high (omega arith)
]

module _ (limit : ℕ) (T : List Entry) (d : Channel) (n : ℕ) (e : Entry) (at : At T n e) where
  -- ---- the frame at n is the next consecutive frame of the message

  record IsNextOf (st : StandingReception) (m cs : List ℕ) (s : UnderWay T d n st m (n ∷ cs)) (sequence_number can_dl : ℕ) (bytes : List ℕ) : Type 0 where
    kind : role d e ≡ consecutive sequence_number can_dl bytes
    have : length st.bytes ≡ bytes_before s.in_first s.start.rx_dl s.number
    below : bytes_before s.in_first s.start.rx_dl s.number < length m
    on_time : is_on_time st e.micros ≡ true
    expected_one : (sequence_number == expected st) ≡ true
    carried : length bytes + 1 ≡ can_dl
    fits : FitsAs s.in_first s.start.rx_dl s.start.len s.count (s.number + 1) sequence_number can_dl
    grown : take (length m) (st.bytes ++ bytes) ≡ take (bytes_before s.in_first s.start.rx_dl s.number + length bytes) m

  is-next : (st : StandingReception) (m cs : List ℕ) (s : UnderWay T d n st m (n ∷ cs)) → IsNextOf st m cs s s.parts.0.next.sequence_number s.parts.0.next.can_dl s.parts.0.next.bytes
  is-next st m cs s =
      let part = s.parts.0 in
      let f = s.in_first in
      let r = s.start.rx_dl in
      let is_e : part.next.entry ≡ e = get-same T n part.next.entry e part.next.stands at in
      let kind : role d e ≡ consecutive part.next.sequence_number part.next.can_dl part.next.bytes = ap (role d) (sym is_e) ∙ part.next.kind in
      let from = next_from d e part.next.sequence_number part.next.can_dl part.next.bytes kind in
      let left = s.left in
      let has_more = s.least.fewer s.number (omega arith) in
      let announces = s.announces in
      let below : bytes_before f r s.number < length m = omega arith in
      let on = part.on_time in
      let same_latest : on.0 ≡ s.latest = same-reference T d s.begun n on.0 s.latest on.2 s.refers in
      let at_latest : At T s.latest on.1 = subst (λ j. At T j on.1) same_latest on.3 in
      let same_last : on.1 ≡ s.last = get-same T s.latest on.1 s.last at_latest s.at in
      let late : e.micros ≤ on.1.micros + n_cr = rw is_e at on.4 in
      let late_last : e.micros ≤ s.last.micros + n_cr = rw same_last at late in
      let back : s.number + 1 - 1 ≡ s.number = omega arith in
      let product = ap (λ j. j * (r - 1)) back in
      let short : part.next.can_dl ≤ r = at_most f r s.start.len s.count (s.number + 1) part.next.sequence_number part.next.can_dl part.fits (omega arith) in
      record {
        kind = kind;
        have = ap length s.bytes ∙ omega (arith, length-take (bytes_before f r s.number) m);
        below = below;
        on_time = le-leb _ _ (rw s.time late_last);
        expected_one = eq-eqb _ _ (rw s.taken part.fits.in_sequence);
        carried = from.size;
        fits = part.fits;
        grown = front-goes-on m st.bytes part.next.bytes (bytes_before f r s.number) s.bytes (omega arith) (λ b lt in_m.
            ap (λ j. get_or m (bytes_before f r j + b) 0) (sym back)
            ∙ part.holds b (let c = from.size in omega arith) (omega (arith, product))
            ∙ ap (λ x. get_or x.frame.bytes (1 + b) 0) is_e ∙ sym (get_or_after_one e.frame.bytes b 0) ∙ ap (λ l. get_or l b 0) (sym from.lies));
      }

  -- ---- the last one

  fits-as-last : (st : StandingReception) (m : List ℕ) (s : UnderWay T d n st m (n ∷ [])) → fit_of st e.micros s.parts.0.next.sequence_number s.parts.0.next.can_dl ≡ last
  fits-as-last st m s =
      let next = is-next st m [] s in
      let part = s.parts.0 in
      let r = s.start.rx_dl in
      let left : s.number + 1 ≡ s.count = s.left in
      let low = next.fits.last_low left in
      let high = next.fits.last_high left in
      let back : s.count - 1 ≡ s.number = omega arith in
      let product = ap (λ j. j * (r - 1)) back in
      let product_all = ap (λ j. j * (r - 1)) left in
      let enough = s.least.enough in
      let len = s.len in
      let rx_dl = s.rx_dl in
      let announces = s.announces in
      let have = next.have in
      let below = next.below in
      let wide = s.wide in
      let fits : has_length st part.next.can_dl ≡ true =
      fits-last st.len st.rx_dl (length st.bytes) part.next.can_dl (omega arith) (omega arith) (omega arith) (omega arith) in
      is-last st e.micros part.next.sequence_number part.next.can_dl next.on_time next.expected_one fits (le-ltb _ _ (omega arith))

  pub last-told : (st : StandingReception) (m : List ℕ) (s : UnderWay T d n st m (n ∷ [])) → completed (Some st) e.micros (role d e) ≡ m ∷ []
  last-told st m s =
      let next = is-next st m [] s in
      let part = s.parts.0 in
      let r = s.start.rx_dl in
      let left : s.number + 1 ≡ s.count = s.left in
      let low = next.fits.last_low left in
      let back : s.count - 1 ≡ s.number = omega arith in
      let product = ap (λ j. j * (r - 1)) back in
      let carried = next.carried in
      let announces = s.announces in
      let whole_len : st.len ≡ length m = s.len ∙ s.announces in
      let enough : length m ≤ bytes_before s.in_first r s.number + length part.next.bytes = omega arith in
      rw (next.kind, fits-as-last st m s) (ap (λ l. l ∷ []) (ap (λ j. take j (st.bytes ++ part.next.bytes)) whole_len ∙ next.grown ∙ take_all _ m enough))

  pub last-after : (st : StandingReception) (m : List ℕ) (s : UnderWay T d n st m (n ∷ [])) → after limit (Some st) e.micros (role d e) ≡ None
  last-after st m s = let next = is-next st m [] s in rw (next.kind, fits-as-last st m s) refl

  -- ---- one that is not the last

  module _ (st : StandingReception) (m : List ℕ) (c : ℕ) (cs : List ℕ) (s : UnderWay T d n st m (n ∷ c ∷ cs)) where
    fits-as-more : fit_of st e.micros s.parts.0.next.sequence_number s.parts.0.next.can_dl ≡ one_more
    fits-as-more =
        let next = is-next st m (c ∷ cs) s in
        let part = s.parts.0 in
        let left = s.left in
        let more : s.number + 1 < s.count = omega arith in
        let full = next.fits.full more in
        let space = s.least.fewer (s.number + 1) more in
        let len = s.len in
        let rx_dl = s.rx_dl in
        let have = next.have in
        let wide = s.wide in
        let fits : has_length st part.next.can_dl ≡ true = fits-more st.len st.rx_dl (length st.bytes) part.next.can_dl (omega arith) (omega arith) (omega arith) in
        is-more st e.micros part.next.sequence_number part.next.can_dl next.on_time next.expected_one fits (lt-ltb _ _ (omega arith))

    abbrev pub grown-by : StandingReception
    grown-by = record st { taken = st.taken + 1; bytes = st.bytes ++ s.parts.0.next.bytes; reference = e.micros }

    pub more-told : completed (Some st) e.micros (role d e) ≡ []
    more-told = let next = is-next st m (c ∷ cs) s in rw (next.kind, fits-as-more) refl

    pub more-after : after limit (Some st) e.micros (role d e) ≡ Some grown-by
    more-after = let next = is-next st m (c ∷ cs) s in rw (next.kind, fits-as-more) refl

    pub more-under-way : UnderWay T d (suc n) grown-by m (c ∷ cs)
    more-under-way =
        let next = is-next st m (c ∷ cs) s in
        let part = s.parts.0 in
        let f = s.in_first in
        let r = s.start.rx_dl in
        let left = s.left in
        let more : s.number + 1 < s.count = omega arith in
        let full = next.fits.full more in
        let space = s.least.fewer (s.number + 1) more in
        let carried = next.carried in
        let have = next.have in
        let wide = s.wide in
        let announces = s.announces in
        let inside : length (st.bytes ++ part.next.bytes) ≤ length m = omega (arith, length-append st.bytes part.next.bytes) in
        let size : bytes_before f r s.number + length part.next.bytes ≡ bytes_before f r (s.number + 1) = omega arith in
        let low : s.begun ≤ n = (let a = s.refers.from in let b = s.refers.below in omega arith) in
        record {
          begun = s.begun;
          start = s.start;
          in_first = s.in_first;
          count = s.count;
          number = s.number + 1;
          least = s.least;
          announces = s.announces;
          wide = s.wide;
          len = s.len;
          rx_dl = s.rx_dl;
          taken = ap (λ j. j + 1) s.taken;
          bytes = sym (take_all (length m) (st.bytes ++ part.next.bytes) inside) ∙ next.grown ∙ ap (λ j. take j m) size;
          left = omega arith;
          parts = s.parts.1;
          latest = n;
          last = e;
          refers = moved T d n s.begun e low at (rw next.kind tt);
          at = at;
          time = refl;
        }

  -- ---- the frame at n is the first frame of a message

  pub begun-under-way : (m cs : List ℕ) (l : IsSegmented T d m n cs) → UnderWay T d (suc n) (fresh l.begins.start) m cs
  begun-under-way m cs l =
      let is_e : l.begins.entry ≡ e = get-same T n l.begins.entry e l.begins.stands at in
      let from = first_from d l.begins.entry l.begins.start l.begins.kind in
      let f = bytes_in_first l.begins.entry.frame.bytes in
      let r = l.begins.start.rx_dl in
      let announces = l.announces in
      let grown = front-goes-on m [] l.begins.start.bytes 0 refl (omega arith) (λ b lt in_m.
      l.holds (0 + b) (omega arith) ∙ ap (λ j. get_or l.begins.entry.frame.bytes j 0) (let j : r - f + (0 + b) ≡ r - f + b = omega arith in j)
      ∙ sym (get_or-drop (r - f) l.begins.entry.frame.bytes b 0) ∙ ap (λ x. get_or x b 0) (sym from.lies)) in
      let sum : 0 + length l.begins.start.bytes ≡ bytes_before f r 0 = omega arith in
      record {
        begun = n;
        start = l.begins.start;
        in_first = f;
        count = length cs;
        number = 0;
        least = l.least;
        announces = l.announces;
        wide = from.wide;
        len = refl;
        rx_dl = refl;
        taken = refl;
        bytes = sym (take_all (length m) l.begins.start.bytes (omega arith)) ∙ grown ∙ ap (λ j. take j m) sum;
        left = omega arith;
        parts = l.consecutive_frames;
        latest = n;
        last = e;
        refers = begins-at T d n;
        at = at;
        time = from.time ∙ ap (λ x. x.micros) is_e;
      }
