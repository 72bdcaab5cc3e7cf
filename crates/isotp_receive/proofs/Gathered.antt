-- The frames of a message that are gathered in a clean trace: what they carry so far, whatever the message will be.
use Rattle.std.proofs.Common.{◌≡◌, ℕ, suc, ◌+◌, ◌-◌, ◌*◌, ◌%◌, ◌<◌, ◌≤◌, List, [], ◌∷◌, ◌++◌, length, take, get_or, refl, sym, ◌∙◌, ap}
use Rattle.std.proofs.Common.{arith, length-append, length-take, inl, inr, get_or-take}
use Rattle.std.proofs.lemmas.List.{take_all, take_at, take-take, take-append-le, get_or-drop, get_or_append_left, get_or-append-add}
use Rattle.std.proofs.lemmas.Grind.{get_or_after_one}
use Rattle.isotp_receive.specs.declared.channel.Channel.{Channel}
use Rattle.isotp_receive.specs.Trace.{Entry, FirstFrame, first, consecutive, role, At}
use Rattle.isotp_receive.specs.Places.{bytes_in_first, bytes_before, FitsAs}
use Rattle.isotp_receive.specs.OnTime.{n_cr, IsReference}
use Rattle.isotp_receive.specs.Fit.{one_more, last}
use Rattle.isotp_receive.specs.StandingReception.{StandingReception, fit_of}
use Rattle.isotp_receive.specs.Recording.{IsConsecutiveFrame, EachNumbered, IsRisingFrom, IsSegmented, IsIn}
use Rattle.isotp_receive.specs.proving.Machine.{fresh}
use Rattle.isotp_receive.proofs.Products.{sum-grows}
use Rattle.isotp_receive.proofs.PositionLists.{in-append, rising-append, numbered-snoc}
use Rattle.isotp_receive.proofs.Readings.{first_from, next_from}
use Rattle.isotp_receive.proofs.FitTests.{was-more, was-last}
use Rattle.isotp_receive.proofs.References.{moved, begins-at}

-- before position n there is a first frame at `begun`, and its consecutive frames so far are at cs
pub record Gathered (limit : ℕ) (T : List Entry) (d : Channel) (n : ℕ) (st : StandingReception) (begun : ℕ) (cs : List ℕ) : Type 0 where
  pub frame : Entry
  pub start : FirstFrame
  pub here : At T begun frame
  pub kind : role d frame ≡ first start
  pub len : st.len ≡ start.len
  pub rx_dl : st.rx_dl ≡ start.rx_dl
  pub taken : st.taken ≡ length cs
  pub have : length st.bytes ≡ bytes_before (bytes_in_first frame.frame.bytes) start.rx_dl (length cs)
  pub more : length st.bytes < start.len
  pub fits : start.len ≤ limit
  pub front : take (bytes_in_first frame.frame.bytes) st.bytes ≡ start.bytes
  -- they carry each message of that length and more frames that goes on with these bytes
  pub parts : (m : List ℕ) (count : ℕ) → length m ≡ start.len → length cs < count → take (length st.bytes) m ≡ st.bytes
      → EachNumbered (IsConsecutiveFrame T d m begun start (bytes_in_first frame.frame.bytes) count) 1 cs
  pub rising : IsRisingFrom 0 (begun ∷ cs)
  pub below : (p : ℕ) → IsIn p (begun ∷ cs) → p < n
  pub latest : ℕ
  pub last : Entry
  pub refers : IsReference T d begun n latest
  pub at : At T latest last
  pub time : st.reference ≡ last.micros

-- the same frames, one frame later
pub one-later : (limit : ℕ) (T : List Entry) (d : Channel) (n : ℕ) (st : StandingReception) (i : ℕ) (cs : List ℕ) (u : Gathered limit T d n st i cs) (t q : ℕ) (x : Entry)
    → IsReference T d i (suc n) q → At T q x → t ≡ x.micros → Gathered limit T d (suc n) (record st { reference = t }) i cs
one-later limit T d n st i cs u t q x refers there time = record {
  frame = u.frame;
  start = u.start;
  here = u.here;
  kind = u.kind;
  len = u.len;
  rx_dl = u.rx_dl;
  taken = u.taken;
  have = u.have;
  more = u.more;
  fits = u.fits;
  front = u.front;
  parts = u.parts;
  rising = u.rising;
  below = λ p a. (let lt = u.below p a in omega arith);
  latest = q;
  last = x;
  refers = refers;
  at = there;
  time = time;
}

module _ (limit : ℕ) (T : List Entry) (d : Channel) (n : ℕ) (e : Entry) (at : At T n e) where
  -- a first frame, and no other yet
  pub begun : (s : FirstFrame) → role d e ≡ first s → s.len ≤ limit → Gathered limit T d (suc n) (fresh s) n []
  begun s kind fits =
      let from = first_from d e s kind in
      record {
        frame = e;
        start = s;
        here = at;
        kind = kind;
        len = refl;
        rx_dl = refl;
        taken = refl;
        have = omega arith;
        more = from.fewer;
        fits = fits;
        front = (let le : length s.bytes ≤ bytes_in_first e.frame.bytes = omega arith in take_all (bytes_in_first e.frame.bytes) s.bytes le);
        parts = λ m count _ _ _. tt;
        rising = (omega arith, tt);
        below = λ p a. elim a [ inl is ↦ omega arith | inr none ↦ absurd none ];
        latest = n;
        last = e;
        refers = begins-at T d n;
        at = at;
        time = from.time;
      }

  module _ (st : StandingReception) (i : ℕ) (cs : List ℕ) (u : Gathered limit T d n st i cs)
      (sequence_number can_dl : ℕ) (bytes : List ℕ) (kind : role d e ≡ consecutive sequence_number can_dl bytes) where
    -- the frame at n carries what comes next of a message
    part-at : (m : List ℕ) (count : ℕ) → e.micros ≤ st.reference + n_cr
        → FitsAs (bytes_in_first u.frame.frame.bytes) u.start.rx_dl u.start.len count (1 + length cs) sequence_number can_dl
        → ((b : ℕ) → length st.bytes + b < length m → b < u.start.rx_dl - 1 → get_or m (length st.bytes + b) 0 ≡ get_or bytes b 0)
        → IsConsecutiveFrame T d m i u.start (bytes_in_first u.frame.frame.bytes) count (1 + length cs) n
    part-at m count late fits each =
        let f = bytes_in_first u.frame.frame.bytes in
        let r = u.start.rx_dl in
        let from = next_from d e sequence_number can_dl bytes kind in
        record {
          next = record { entry = e; stands = at; sequence_number = sequence_number; can_dl = can_dl; bytes = bytes; kind = kind };
          fits = fits;
          on_time = (u.latest, u.last, u.refers, u.at, rw u.time at late);
          holds = λ b lt inside.
              let back : 1 + length cs - 1 ≡ length cs = omega arith in
              let product = ap (λ j. j * (r - 1)) back in
              let have = u.have in
              let same_place : bytes_before f r (1 + length cs - 1) + b ≡ length st.bytes + b = omega arith in
              ap (λ j. get_or m j 0) same_place ∙ each b (omega arith) lt ∙ ap (λ l. get_or l b 0) from.lies ∙ get_or_after_one e.frame.bytes b 0;
        }

    next-number : sequence_number ≡ (st.taken + 1) % 16 → sequence_number ≡ (1 + length cs) % 16
    next-number is = is ∙ ap (λ j. j % 16) (let taken = u.taken in let sum : st.taken + 1 ≡ 1 + length cs = omega arith in sum)

    -- ---- one more consecutive frame

    pub grow : fit_of st e.micros sequence_number can_dl ≡ one_more
        → Gathered limit T d (suc n) (record st { taken = st.taken + 1; bytes = st.bytes ++ bytes; reference = e.micros }) i (cs ++ n ∷ [])
    grow j =
        let w = was-more st e.micros sequence_number can_dl j in
        let full = w.full in
        let room = w.room in
        let r = u.start.rx_dl in
        let f = bytes_in_first u.frame.frame.bytes in
        let first_held = first_from d u.frame u.start u.kind in
        let from = next_from d e sequence_number can_dl bytes kind in
        let one_more = length-append cs (n ∷ []) in
        let product = ap (λ j. j * (r - 1)) one_more in
        let have = u.have in
        let len = u.len in
        let rx_dl = u.rx_dl in
        let taken = u.taken in
        let size = length-append st.bytes bytes in
        let first_below : i < n = u.below i (inl refl) in
        record {
          frame = u.frame;
          start = u.start;
          here = u.here;
          kind = u.kind;
          len = u.len;
          rx_dl = u.rx_dl;
          taken = omega arith;
          have = omega arith;
          more = omega arith;
          fits = u.fits;
          front = (let le : f ≤ length st.bytes = omega arith in take-append-le f st.bytes bytes le ∙ u.front);
          parts = λ m count announced less grown.
              let le : length st.bytes ≤ length (st.bytes ++ bytes) = omega arith in
              let old : take (length st.bytes) m ≡ st.bytes =
              sym (take-take (length st.bytes) (length (st.bytes ++ bytes)) m le) ∙ ap (take (length st.bytes)) grown
              ∙ take_at st.bytes bytes (length st.bytes) refl in
              let fits : FitsAs f r u.start.len count (1 + length cs) sequence_number can_dl = record {
                from_one = omega arith;
                to_last = omega arith;
                in_sequence = next-number w.number;
                full = λ _. omega arith;
                last_low = λ same. absurd (omega arith);
                last_high = λ same. absurd (omega arith);
              } in
              numbered-snoc (IsConsecutiveFrame T d m i u.start f count) 1 n cs (u.parts m count announced (omega arith) old)
              (part-at m count w.on_time fits (λ b inside lt.
              let sum : length st.bytes + b < length (st.bytes ++ bytes) = omega arith in
              sym (get_or-take (length (st.bytes ++ bytes)) m (length st.bytes + b) 0 sum)
              ∙ ap (λ l. get_or l (length st.bytes + b) 0) grown ∙ get_or-append-add st.bytes bytes b 0));
          rising = rising-append 0 (i ∷ cs) (n ∷ []) u.rising (omega arith, tt)
              (λ p q a b. elim b [ inl same_q ↦ (let lt = u.below p a in omega arith) | inr none ↦ absurd none ]) (λ q b. omega arith);
          below = λ p a. elim (in-append p (i ∷ cs) (n ∷ []) a) [
            | inl old ↦ (let lt = u.below p old in omega arith)
            | inr new ↦ elim new [ inl is ↦ omega arith | inr none ↦ absurd none ]
          ];
          latest = n;
          last = e;
          refers = moved T d n i e (omega arith) at (rw kind tt);
          at = at;
          time = refl;
        }

    -- ---- the last one

    pub complete : fit_of st e.micros sequence_number can_dl ≡ last → IsSegmented T d (take st.len (st.bytes ++ bytes)) i (cs ++ n ∷ [])
    complete j =
        let w = was-last st e.micros sequence_number can_dl j in
        let low = w.low in
        let high = w.high in
        let ends = w.ends in
        let r = u.start.rx_dl in
        let f = bytes_in_first u.frame.frame.bytes in
        let m = take st.len (st.bytes ++ bytes) in
        let count = length (cs ++ n ∷ []) in
        let first_held = first_from d u.frame u.start u.kind in
        let from = next_from d e sequence_number can_dl bytes kind in
        let one_more = length-append cs (n ∷ []) in
        let product = ap (λ j. j * (r - 1)) one_more in
        let have = u.have in
        let len = u.len in
        let rx_dl = u.rx_dl in
        let more = u.more in
        let size = length-append st.bytes bytes in
        let size_told : length m ≡ st.len = omega (arith, length-take st.len (st.bytes ++ bytes)) in
        let back : count - 1 ≡ length cs = omega arith in
        let product_back = ap (λ j. j * (r - 1)) back in
        let le : length st.bytes ≤ st.len = omega arith in
        let old : take (length st.bytes) m ≡ st.bytes =
        take-take (length st.bytes) st.len (st.bytes ++ bytes) le ∙ take_at st.bytes bytes (length st.bytes) refl in
        let fits : FitsAs f r u.start.len count (1 + length cs) sequence_number can_dl = record {
          from_one = omega arith;
          to_last = omega arith;
          in_sequence = next-number w.number;
          full = λ less. absurd (omega arith);
          last_low = λ same. omega arith;
          last_high = λ same. omega arith;
        } in
        record {
          begins = record { entry = u.frame; stands = u.here; start = u.start; kind = u.kind };
          announces = omega arith;
          least = record {
            enough = omega arith;
            fewer = λ k less.
                let sum : k + (length cs - k) ≡ length cs = omega arith in
                let all = ap (λ j. j * (r - 1)) sum in
                let grows = sum-grows f k (length cs - k) (r - 1) in omega arith;
          };
          consecutive_frames = numbered-snoc (IsConsecutiveFrame T d m i u.start f count) 1 n cs (u.parts m count (omega arith) (omega arith) old)
              (part-at m count w.on_time fits (λ b inside lt.
              let sum : length st.bytes + b < st.len = omega arith in
              get_or-take st.len (st.bytes ++ bytes) (length st.bytes + b) 0 sum ∙ get_or-append-add st.bytes bytes b 0));
          holds = λ x inside.
              let in_len : x < st.len = omega arith in
              let in_bytes : x < length st.bytes = omega arith in
              get_or-take st.len (st.bytes ++ bytes) x 0 in_len ∙ get_or_append_left st.bytes bytes 0 x in_bytes
              ∙ sym (get_or-take f st.bytes x 0 inside) ∙ ap (λ l. get_or l x 0) (u.front ∙ first_held.lies) ∙ get_or-drop (r - f) u.frame.frame.bytes x 0;
        }
