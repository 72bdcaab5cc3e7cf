-- What a trace tells: its messages, each with its direction and the position of the frame that completes it.
use Rattle.std.proofs.Common.{◌≡◌, ℕ, suc, ◌+◌, ◌<◌, ◌≤◌, length, take, drop, nat_lt, append_assoc, length-take, true, false, List, [], ◌∷◌, ◌++◌, map, refl}
use Rattle.std.proofs.Common.{sym, ◌∙◌, ap, arith, cond, inl, inr}
use Rattle.std.specs.Prelude.{⊤, ◌⊎◌}
use Rattle.std.proofs.Math.ListN.{drop_of_length-le}
use Rattle.std.proofs.lemmas.List.{append-nil, take-append-drop}
use Rattle.std.proofs.lemmas.Bool.{cases_Bool, le-ltb, lt-ltb, cases_lt}
use Rattle.direction.specs.Dir.{Message}
use Rattle.isotp_receive.specs.declared.channel.Channel.{Channel}
use Rattle.isotp_receive.specs.Trace.{Entry}
use Rattle.isotp_receive.specs.Verdict.{VerdictValue, message, began, stored, flowed, dropped, verdict, told_message, messages_after}
use Rattle.isotp_receive.proofs.Heard.{placed, heard}
use Rattle.isotp_receive.proofs.ListPositions.{cons-head}
use Rattle.isotp_receive.proofs.Choices.{none-chosen}
use Rattle.isotp_receive.proofs.Directions.{same, same-self, apart-flipped}
use Rattle.isotp_receive.specs.Channels.{same_channel}
use Rattle.isotp_receive.specs.Channels.{dir_of}

-- a message with its direction, and the position of the frame that completes it
pub record Placed : Type 0 where
  pub place : ℕ
  pub channel : Channel
  pub message : List ℕ

-- messages of one direction
abbrev pub tag : Channel → List (ℕ × List ℕ) → List Placed
tag d [] = []
tag d (x ∷ xs) = record { place = x.0; channel = d; message = x.1 } ∷ tag d xs

-- the messages of one direction among all
abbrev pub side : Channel → List Placed → List (ℕ × List ℕ)
side d [] = []
side d (x ∷ xs) = cond (same_channel d x.channel) ((x.place, x.message) ∷ side d xs) (side d xs)

-- the messages that the frames from position n on complete, where `past` came before them
abbrev pub all_told : ℕ → ℕ → List Entry → List Entry → List Placed
all_told limit n past [] = []
all_told limit n past (e ∷ es) = tag e.channel (placed n (verdict limit past e).verdict) ++ all_told limit (suc n) (past ++ e ∷ []) es

-- the positions rise, from n on
abbrev pub Rise : ℕ → List Placed → Type 0
Rise n [] = ⊤
Rise n (x ∷ xs) = (n ≤ x.place) × Rise (suc x.place) xs

-- ---- in each direction they are what is heard

one-side : (n : ℕ) (d x : Channel) (t : VerdictValue) (xs : List Placed) → cond (same_channel d x) (placed n t) [] ++ side d xs ≡ side d (tag x (placed n t) ++ xs)
one-side n d x (message m) xs = elim (cases_Bool (same_channel d x)) [ inl t ↦ rw t refl | inr t ↦ rw t refl ]
one-side n d x began xs = none-chosen (same_channel d x) (side d xs)
one-side n d x stored xs = none-chosen (same_channel d x) (side d xs)
one-side n d x flowed xs = none-chosen (same_channel d x) (side d xs)
one-side n d x (dropped r) xs = none-chosen (same_channel d x) (side d xs)

pub heard-side : (limit : ℕ) (d : Channel) (n : ℕ) (past es : List Entry) → heard limit d n past es ≡ side d (all_told limit n past es)
heard-side limit d n past [] = refl
heard-side limit d n past (e ∷ es) =
    ap (λ l. cond (same_channel d e.channel) (placed n (verdict limit past e).verdict) [] ++ l) (heard-side limit d (suc n) (past ++ e ∷ []) es)
    ∙ one-side n d e.channel (verdict limit past e).verdict (all_told limit (suc n) (past ++ e ∷ []) es)

-- ---- without their positions they are the messages of the trace

abbrev pub pair : Placed → Message
pair x = (dir_of x.channel, x.message)

one-message : (n : ℕ) (x : Channel) (t : VerdictValue) (xs : List Placed) → told_message (dir_of x) t ++ map pair xs ≡ map pair (tag x (placed n t) ++ xs)
one-message n x (message m) xs = refl
one-message n x began xs = refl
one-message n x stored xs = refl
one-message n x flowed xs = refl
one-message n x (dropped r) xs = refl

pub messages-told : (limit n : ℕ) (past es : List Entry) → messages_after limit past es ≡ map pair (all_told limit n past es)
messages-told limit n past [] = refl
messages-told limit n past (e ∷ es) =
    ap (λ l. told_message (dir_of e.channel) (verdict limit past e).verdict ++ l) (messages-told limit (suc n) (past ++ e ∷ []) es)
    ∙ one-message n e.channel (verdict limit past e).verdict (all_told limit (suc n) (past ++ e ∷ []) es)

-- ---- their positions rise

weaken : (n k : ℕ) (xs : List Placed) → n ≤ k → Rise k xs → Rise n xs
weaken n k [] le h = tt
weaken n k (x ∷ xs) le h = (let a = h.0 in omega arith, h.1)

one-rise : (n : ℕ) (x : Channel) (t : VerdictValue) (xs : List Placed) → Rise (suc n) xs → Rise n (tag x (placed n t) ++ xs)
one-rise n x (message m) xs h = (omega arith, h)
one-rise n x began xs h = weaken n (suc n) xs (omega arith) h
one-rise n x stored xs h = weaken n (suc n) xs (omega arith) h
one-rise n x flowed xs h = weaken n (suc n) xs (omega arith) h
one-rise n x (dropped r) xs h = weaken n (suc n) xs (omega arith) h

pub told-rise : (limit n : ℕ) (past es : List Entry) → Rise n (all_told limit n past es)
told-rise limit n past [] = tt
told-rise limit n past (e ∷ es) = one-rise n e.channel (verdict limit past e).verdict _ (told-rise limit (suc n) (past ++ e ∷ []) es)

-- ---- lists that rise are one where they are one in each direction

same-placed : (x y : Placed) → x.channel ≡ y.channel → ◌≡◌ {A = ℕ × List ℕ} (x.place, x.message) (y.place, y.message) → x ≡ y
same-placed x y d h =
    ap (λ a. record { place = a.0; channel = x.channel; message = a.1 }) h ∙ ap (λ b. record { place = y.place; channel = b; message = y.message }) d

-- the first of a direction is not before the first of all
head-above : (k : ℕ) (d : Channel) (p : ℕ) (m : List ℕ) (r : List (ℕ × List ℕ)) (xs : List Placed) → Rise k xs → side d xs ≡ (p, m) ∷ r → k ≤ p
head-above k d p m r [] h e = absurd (cc)
head-above k d p m r (x ∷ xs) h e = elim (cases_Bool (same_channel d x.channel)) [
  | inl t ↦ (let f = rw t at e in let same_place : x.place ≡ p = ap (λ w. w.0) (cons-head f) in let a = h.0 in omega arith)
  | inr t ↦ (let f = rw t at e in let b = head-above (suc x.place) d p m r xs h.1 f in let a = h.0 in omega arith)
]

tails : (d : Channel) (x : Placed) (xs ys : List Placed) → side d (x ∷ xs) ≡ side d (x ∷ ys) → side d xs ≡ side d ys
tails d x xs ys e = elim (cases_Bool (same_channel d x.channel)) [
  | inl t ↦ (let f = rw t at e in cc)
  | inr t ↦ (let f = rw t at e in f)
]

pub merge : (n k : ℕ) (xs ys : List Placed) → Rise n xs → Rise k ys → ((d : Channel) → side d xs ≡ side d ys) → xs ≡ ys
merge n k [] [] h g e = refl
merge n k [] (y ∷ ys) h g e = absurd (let f = rw (same-self y.channel) at (e y.channel) in cc)
merge n k (x ∷ xs) [] h g e = absurd (let f = rw (same-self x.channel) at (e x.channel) in cc)
merge n k (x ∷ xs) (y ∷ ys) h g e = elim (cases_Bool (same_channel x.channel y.channel)) [
  | inl t ↦ (let f = rw (same-self x.channel, t) at (e x.channel) in
      let side_same : x.channel ≡ y.channel = same x.channel y.channel t in
      let heads : x ≡ y = same-placed x y side_same (cons-head f) in
      let rest = (merge (suc x.place) (suc y.place) xs ys h.1 g.1 (λ d. tails d x xs ys (e d ∙ ap (λ z. side d (z ∷ ys)) (sym heads)))) in cc)
  | inr t ↦ absurd (
      let f = rw (same-self x.channel, t) at (e x.channel) in
      let a = head-above (suc y.place) x.channel x.place x.message (side x.channel xs) ys g.1 (sym f) in
      let u : same_channel y.channel x.channel ≡ false = apart-flipped x.channel y.channel t in
      let f2 = rw (same-self y.channel, u) at (e y.channel) in
      let b = head-above (suc x.place) y.channel y.place y.message (side y.channel ys) xs h.1 f2 in
      omega arith)
]

-- ---- what is told of the first frames

told-append : (limit n : ℕ) (past xs ys : List Entry) → all_told limit n past (xs ++ ys) ≡ all_told limit n past xs ++ all_told limit (n + length xs) (past ++ xs) ys
told-append limit n past [] ys = (let zero_more : n ≡ n + 0 = omega arith in
    ap (λ l. all_told limit n l ys) (sym (append-nil past)) ∙ ap (λ k. all_told limit k (past ++ []) ys) zero_more)
told-append limit n past (e ∷ xs) ys =
    let one_more_place : suc n + length xs ≡ n + length (e ∷ xs) = omega arith in
    ap (λ l. tag e.channel (placed n (verdict limit past e).verdict) ++ l) (told-append limit (suc n) (past ++ e ∷ []) xs ys
    ∙ ap (λ l. all_told limit (suc n) (past ++ e ∷ []) xs ++ all_told limit (suc n + length xs) l ys) (append_assoc past (e ∷ []) xs)
    ∙ ap (λ k. all_told limit (suc n) (past ++ e ∷ []) xs ++ all_told limit k (past ++ e ∷ xs) ys) one_more_place)
    ∙ sym (append_assoc (tag e.channel (placed n (verdict limit past e).verdict)) (all_told limit (suc n) (past ++ e ∷ []) xs) _)

abbrev pub told_within : ℕ → List Placed → List Placed
told_within k [] = []
told_within k (x ∷ xs) = cond (nat_lt x.place k) (x ∷ told_within k xs) (told_within k xs)

within-append : (k : ℕ) (xs ys : List Placed) → told_within k (xs ++ ys) ≡ told_within k xs ++ told_within k ys
within-append k [] ys = refl
within-append k (x ∷ xs) ys = elim (cases_Bool (nat_lt x.place k)) [
  | inl t ↦ rw t (ap (λ l. x ∷ l) (within-append k xs ys))
  | inr t ↦ rw t (within-append k xs ys)
]

within-later : (k n : ℕ) (xs : List Placed) → k ≤ n → Rise n xs → told_within k xs ≡ []
within-later k n [] le h = refl
within-later k n (x ∷ xs) le h =
    let past : nat_lt x.place k ≡ false = le-ltb x.place k (let a = h.0 in omega arith) in
    rw past (within-later k (suc x.place) xs (let a = h.0 in omega arith) h.1)

within-one : (k n : ℕ) (d : Channel) (t : VerdictValue) → n < k → told_within k (tag d (placed n t)) ≡ tag d (placed n t)
within-one k n d (message m) below = (let inside : nat_lt n k ≡ true = lt-ltb n k below in rw inside refl)
within-one k n d began below = refl
within-one k n d stored below = refl
within-one k n d flowed below = refl
within-one k n d (dropped r) below = refl

within-all : (limit k n : ℕ) (past es : List Entry) → n + length es ≤ k → told_within k (all_told limit n past es) ≡ all_told limit n past es
within-all limit k n past [] le = refl
within-all limit k n past (e ∷ es) le =
    within-append k (tag e.channel (placed n (verdict limit past e).verdict)) (all_told limit (suc n) (past ++ e ∷ []) es)
    ∙ ap (λ l. l ++ told_within k (all_told limit (suc n) (past ++ e ∷ []) es)) (within-one k n e.channel (verdict limit past e).verdict (omega arith))
    ∙ ap (λ l. tag e.channel (placed n (verdict limit past e).verdict) ++ l) (within-all limit k (suc n) (past ++ e ∷ []) es (omega arith))

rest-within : (limit k : ℕ) (past ys : List Entry) (n : ℕ) → (ys ≡ []) ⊎ (k ≤ n) → told_within k (all_told limit n past ys) ≡ []
rest-within limit k past ys n (inl none) = rw none refl
rest-within limit k past ys n (inr le) = within-later k n (all_told limit n past ys) le (told-rise limit n past ys)

pub told-take : (limit k : ℕ) (before T : List Entry) → all_told limit 0 before (take k T) ≡ told_within k (all_told limit 0 before T)
told-take limit k before T = sym (
    ap (λ l. told_within k (all_told limit 0 before l)) (sym (take-append-drop k T))
    ∙ ap (told_within k) (told-append limit 0 before (take k T) (drop k T))
    ∙ within-append k (all_told limit 0 before (take k T)) _
    ∙ ap (λ l. l ++ told_within k (all_told limit (0 + length (take k T)) (before ++ take k T) (drop k T))) (within-all limit k 0 before (take k T) (omega (arith, length-take k T)))
    ∙ ap (λ l. all_told limit 0 before (take k T) ++ l) (rest-within limit k (before ++ take k T) (drop k T) (0 + length (take k T)) whole)
    ∙ append-nil (all_told limit 0 before (take k T))) where
      whole : (drop k T ≡ []) ⊎ (k ≤ 0 + length (take k T))
      whole = elim (cases_lt (length T) k) [
        | inl below ↦ inl (drop_of_length-le T (omega arith))
        | inr least ↦ inr (omega (arith, length-take k T))
      ]
