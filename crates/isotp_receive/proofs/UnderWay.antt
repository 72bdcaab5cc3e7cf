-- A message of a recording that is under way in a direction, and what a frame that is none of its frames leaves of it.
use Rattle.std.proofs.Common.{◌≡◌, ℕ, suc, ◌+◌, ◌≤◌, List, [], ◌∷◌, length, take, Option, Some, refl, arith}
use Rattle.isotp_receive.specs.declared.channel.Channel.{Channel}
use Rattle.isotp_receive.specs.Trace.{Entry, FirstFrame, continue_or_wait, no_part, role, At}
use Rattle.isotp_receive.specs.Places.{bytes_before, IsConsecutiveCount}
use Rattle.isotp_receive.specs.OnTime.{IsReference}
use Rattle.isotp_receive.specs.StandingReception.{StandingReception}
use Rattle.isotp_receive.specs.Recording.{IsConsecutiveFrame, EachNumbered, last_or}
use Rattle.isotp_receive.specs.proving.Machine.{after}
use Rattle.isotp_receive.proofs.References.{still, moved}

-- How far the message has come before position n: it began at `begun`, `number` of its `count` consecutive frames have
-- come, and those at the positions cs are left.
pub record UnderWay (T : List Entry) (d : Channel) (n : ℕ) (st : StandingReception) (m : List ℕ) (cs : List ℕ) : Type 0 where
  pub begun : ℕ
  pub start : FirstFrame
  pub in_first : ℕ
  pub count : ℕ
  pub number : ℕ
  pub least : IsConsecutiveCount in_first start.rx_dl start.len count
  pub announces : start.len ≡ length m
  pub wide : 8 ≤ start.rx_dl
  pub len : st.len ≡ start.len
  pub rx_dl : st.rx_dl ≡ start.rx_dl
  pub taken : st.taken ≡ number
  pub bytes : st.bytes ≡ take (bytes_before in_first start.rx_dl number) m
  pub left : number + length cs ≡ count
  pub parts : EachNumbered (IsConsecutiveFrame T d m begun start in_first count) (number + 1) cs
  pub latest : ℕ
  pub last : Entry
  pub refers : IsReference T d begun n latest
  pub at : At T latest last
  pub time : st.reference ≡ last.micros

-- How a direction stands before position n: no message is under way, whatever stands there from before; or one is, with
-- the positions that are left of it, and it will be delivered at the last of them.
pub data State (T : List Entry) (d : Channel) (n : ℕ) : Option StandingReception → List ℕ → List (ℕ × List ℕ) → Type 0 where
  closed : {o : Option StandingReception} → State T d n o [] []
  opened : {st : StandingReception} {m : List ℕ} {c : ℕ} {cs : List ℕ} → UnderWay T d n st m (c ∷ cs) → State T d n (Some st) (c ∷ cs) ((last_or c cs, m) ∷ [])

-- the same message, one frame later
reopen : (T : List Entry) (d : Channel) (n : ℕ) (st : StandingReception) (m : List ℕ) (cs : List ℕ) (s : UnderWay T d n st m cs) (t q : ℕ) (e : Entry)
    → IsReference T d s.begun (suc n) q → At T q e → t ≡ e.micros → UnderWay T d (suc n) (record st { reference = t }) m cs
reopen T d n st m cs s t q e refers at time = record {
  begun = s.begun;
  start = s.start;
  in_first = s.in_first;
  count = s.count;
  number = s.number;
  least = s.least;
  announces = s.announces;
  wide = s.wide;
  len = s.len;
  rx_dl = s.rx_dl;
  taken = s.taken;
  bytes = s.bytes;
  left = s.left;
  parts = s.parts;
  latest = q;
  last = e;
  refers = refers;
  at = at;
  time = time;
}

pub behind-no-part : (T : List Entry) (d : Channel) (n : ℕ) (o : Option StandingReception) (cs : List ℕ) (out : List (ℕ × List ℕ)) (e : Entry)
    → At T n e → role d e ≡ no_part → State T d n o cs out → State T d (suc n) o cs out
behind-no-part T d n _ _ _ e at kind closed = closed
behind-no-part T d n _ _ _ e at kind (opened {st = st} {m = m} {c = c} {cs = cs} s) =
    opened (reopen T d n st m (c ∷ cs) s st.reference s.latest s.last (still T d n s.begun s.latest e at kind s.refers) s.at s.time)

pub behind-continue-or-wait : (T : List Entry) (d : Channel) (n limit : ℕ) (o : Option StandingReception) (cs : List ℕ) (out : List (ℕ × List ℕ)) (e : Entry)
    → At T n e → role d e ≡ continue_or_wait → State T d n o cs out → State T d (suc n) (after limit o e.micros continue_or_wait) cs out
behind-continue-or-wait T d n limit _ _ _ e at kind closed = closed
behind-continue-or-wait T d n limit _ _ _ e at kind (opened {st = st} {m = m} {c = c} {cs = cs} s) =
    let low : s.begun ≤ n = (let a = s.refers.from in let b = s.refers.below in omega arith) in
    opened (reopen T d n st m (c ∷ cs) s e.micros n e (moved T d n s.begun e low at (rw kind tt)) at refl)
