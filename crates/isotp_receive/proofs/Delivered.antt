-- A recording delivers its messages, in order, each at the last of its positions.
use Rattle.std.proofs.Common.{◌≡◌, ℕ, suc, ◌≤◌, take, nat_lt, List, [], ◌∷◌, ◌++◌, map, refl, sym, ◌∙◌, ap, arith, cond, inl, inr, subst}
use Rattle.std.specs.Prelude.{◌⊎◌}
use Rattle.std.specs.List.{AllByRecursion}
use Rattle.std.proofs.lemmas.Bool.{cases_Bool}
use Rattle.direction.specs.Dir.{Message}
use Rattle.isotp_receive.specs.declared.channel.Channel.{Channel}
use Rattle.can_log.proofs.Promises.{AllByRecursion-weaker}
use Rattle.isotp_receive.specs.Trace.{Entry, role, At}
use Rattle.isotp_receive.specs.Verdict.{messages}
use Rattle.isotp_receive.specs.Recording.{IsRisingFrom, Carries, Transfer, IsTransfer, IsIn, last_or, AllBefore, AreApart, EachPair, IsGiven, IsRecording, ended_within}
use Rattle.isotp_receive.proofs.Carried.{all_positions, placed_of, AreCarried, IsCovered, direction-heard}
use Rattle.isotp_receive.proofs.Directions.{same}
use Rattle.isotp_receive.proofs.MessagesOfMore.{messages-append}
use Rattle.isotp_receive.proofs.PositionLists.{in-append, in-left, in-right, rising-append, last-is-in}
use Rattle.isotp_receive.proofs.OwnFrames.{IsQuiet, own-other, carries-own, idle-quiet}
use Rattle.isotp_receive.proofs.Told.{Placed, side, all_told, Rise, heard-side, pair, messages-told, told-rise, merge, told_within, told-take}
use Rattle.isotp_receive.specs.Channels.{same_channel}
use Rattle.isotp_receive.specs.Channels.{dir_of}

-- ---- the messages of a direction

abbrev of_dir : Channel → List Transfer → List Transfer
of_dir d [] = []
of_dir d (g ∷ gs) = cond (same_channel d g.channel) (g ∷ of_dir d gs) (of_dir d gs)

carried-of : (limit : ℕ) (T : List Entry) (d : Channel) (gs : List Transfer) → AllByRecursion (IsTransfer limit T) gs → AreCarried limit T d (of_dir d gs)
carried-of limit T d [] h = tt
carried-of limit T d (g ∷ gs) h = elim (cases_Bool (same_channel d g.channel)) [
  | inl t ↦ rw t ((h.0.fits, subst (λ x. Carries T x g.message g.positions) (sym (same d g.channel t)) h.0.carried), carried-of limit T d gs h.1)
  | inr t ↦ rw t (carried-of limit T d gs h.1)
]

-- all positions of a message come before those of a later one of its direction
before : (g h : Transfer) → AreApart g h → g.channel ≡ h.channel → AllBefore g.positions h.positions
before g h a same_side p q i j = elim (a.apart same_side) [
  | inl b ↦ b p q i j
  | inr b ↦ absurd (let lt = b (last_or 0 h.positions) (last_or 0 g.positions) (last-is-in q h.positions j) (last-is-in p g.positions i) in
      let order = a.order in omega arith)
]

before-rest : (d : Channel) (g : Transfer) (gs : List Transfer) → d ≡ g.channel → AllByRecursion (AreApart g) gs → AllBefore g.positions (all_positions (of_dir d gs))
before-rest d g [] is h p q i j = absurd j
before-rest d g (x ∷ gs) is h p q i j = elim (cases_Bool (same_channel d x.channel)) [
  | inl t ↦ (let k = rw t at j in elim (in-append q x.positions (all_positions (of_dir d gs)) k) [
    | inl a ↦ before g x h.0 (sym is ∙ same d x.channel t) p q i a
    | inr b ↦ before-rest d g gs is h.1 p q i b
  ])
  | inr t ↦ (let k = rw t at j in before-rest d g gs is h.1 p q i k)
]

rising-of : (limit : ℕ) (T : List Entry) (d : Channel) (gs : List Transfer) → AllByRecursion (IsTransfer limit T) gs → EachPair AreApart gs
    → IsRisingFrom 0 (all_positions (of_dir d gs))
rising-of limit T d [] each pairs = tt
rising-of limit T d (g ∷ gs) each pairs = elim (cases_Bool (same_channel d g.channel)) [
  | inl t ↦ rw t (rising-append 0 g.positions (all_positions (of_dir d gs)) each.0.rising (rising-of limit T d gs each.1 pairs.1)
      (before-rest d g gs (same d g.channel t) pairs.0) (λ q i. omega arith))
  | inr t ↦ rw t (rising-of limit T d gs each.1 pairs.1)
]

covered : (limit : ℕ) (T : List Entry) (d : Channel) (gs : List Transfer) (p : ℕ) (e : Entry) → AllByRecursion (IsTransfer limit T) gs → At T p e → IsGiven p gs
    → IsIn p (all_positions (of_dir d gs)) ⊎ IsQuiet (role d e)
covered limit T d [] p e each at given = absurd given
covered limit T d (g ∷ gs) p e each at (inl i) = elim (cases_Bool (same_channel d g.channel)) [
  | inl t ↦ inl (rw t (in-left p g.positions (all_positions (of_dir d gs)) i))
  | inr t ↦ inr (inl (own-other d g.channel e t (carries-own T g.channel g.message g.positions p e each.0.carried i at)))
]
covered limit T d (g ∷ gs) p e each at (inr i) = elim (covered limit T d gs p e each.1 at i) [
  | inl j ↦ inl (elim (cases_Bool (same_channel d g.channel)) [
    | inl t ↦ rw t (in-right p g.positions (all_positions (of_dir d gs)) j)
    | inr t ↦ rw t j
  ])
  | inr q ↦ inr q
]

cover-of : (limit : ℕ) (T : List Entry) (M : List Message) (d : Channel) (r : IsRecording limit T M) → IsCovered T d 0 (all_positions (of_dir d r.transfers))
cover-of limit T M d r p e _ at = elim (r.others p e at) [
  | inl i ↦ covered limit T d r.transfers p e r.each at i
  | inr h ↦ inr (idle-quiet d e h)
]

-- ---- what a recording tells after any trace: each message at the last of its positions

abbrev pub transfer_place : Transfer → Placed
transfer_place g = record { place = last_or 0 g.positions; channel = g.channel; message = g.message }

transfer-rise : (n : ℕ) (gs : List Transfer) → AllByRecursion (λ g. n ≤ last_or 0 g.positions) gs → EachPair AreApart gs → Rise n (map transfer_place gs)
transfer-rise n [] least pairs = tt
transfer-rise n (g ∷ gs) least pairs =
    let later = AllByRecursion-weaker (AreApart g) (λ x. suc (last_or 0 g.positions) ≤ last_or 0 x.positions) (λ x a. (let order = a.order in omega arith)) gs pairs.0 in
    (least.0, transfer-rise (suc (last_or 0 g.positions)) gs later pairs.1)

transfer-side : (d : Channel) (gs : List Transfer) → side d (map transfer_place gs) ≡ placed_of (of_dir d gs)
transfer-side d [] = refl
transfer-side d (g ∷ gs) = elim (cases_Bool (same_channel d g.channel)) [
  | inl t ↦ rw t (ap (λ l. (last_or 0 g.positions, g.message) ∷ l) (transfer-side d gs))
  | inr t ↦ rw t (transfer-side d gs)
]

transfer-pairs : (gs : List Transfer) → map pair (map transfer_place gs) ≡ map (λ g. (dir_of g.channel, g.message)) gs
transfer-pairs [] = refl
transfer-pairs (g ∷ gs) = ap (λ l. (dir_of g.channel, g.message) ∷ l) (transfer-pairs gs)

pub told-recording : (limit : ℕ) (before T : List Entry) (M : List Message) (r : IsRecording limit T M) → all_told limit 0 before T ≡ map transfer_place r.transfers
told-recording limit before T M r =
    let least = AllByRecursion-weaker (IsTransfer limit T) (λ g. 0 ≤ last_or 0 g.positions) (λ g h. omega arith) r.transfers r.each in
    merge 0 0 (all_told limit 0 before T) (map transfer_place r.transfers) (told-rise limit 0 before T) (transfer-rise 0 r.transfers least r.pairs) (λ d.
    sym (heard-side limit d 0 before T)
    ∙ direction-heard limit before T d (of_dir d r.transfers) (carried-of limit T d r.transfers r.each) (rising-of limit T d r.transfers r.each r.pairs) (cover-of limit T M d r)
    ∙ sym (transfer-side d r.transfers))

-- ---- and so its messages

pub recording-delivers-behind : (limit : ℕ) (before T : List Entry) (M : List Message) → IsRecording limit T M → messages limit (before ++ T) ≡ messages limit before ++ M
recording-delivers-behind limit before T M r =
    messages-append limit [] before T
    ∙ ap (λ l. messages limit before ++ l) (
    messages-told limit 0 before T
    ∙ ap (map pair) (told-recording limit before T M r)
    ∙ transfer-pairs r.transfers
    ∙ r.messages)

pub recording-delivers : (limit : ℕ) (T : List Entry) (M : List Message) → IsRecording limit T M → messages limit T ≡ M
recording-delivers limit T M r = recording-delivers-behind limit [] T M r

within-transfers : (k : ℕ) (ts : List Transfer) → map pair (told_within k (map transfer_place ts)) ≡ ended_within k ts
within-transfers k [] = refl
within-transfers k (t ∷ ts) = elim (cases_Bool (nat_lt (last_or 0 t.positions) k)) [
  | inl b ↦ rw b (ap (λ l. (dir_of t.channel, t.message) ∷ l) (within-transfers k ts))
  | inr b ↦ rw b (within-transfers k ts)
]

pub delivers-at-last : (limit : ℕ) (before T : List Entry) (M : List Message) (r : IsRecording limit T M) (n : ℕ)
    → messages limit (before ++ take n T) ≡ messages limit before ++ ended_within n r.transfers
delivers-at-last limit before T M r n =
    messages-append limit [] before (take n T)
    ∙ ap (λ l. messages limit before ++ l) (
    messages-told limit 0 before (take n T)
    ∙ ap (map pair) (told-take limit n before T ∙ ap (told_within n) (told-recording limit before T M r))
    ∙ within-transfers n r.transfers)
