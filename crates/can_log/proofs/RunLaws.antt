-- The law of one byte, and of a run of bytes.
use Rattle.std.proofs.Common.{◌≡◌, ℕ, zero, suc, ◌+◌, ◌-◌, ◌<◌, ◌≤◌, Bool, true, false, cond, ltb, refl, sym, ap, subst, ◌∙◌, arith, inl, inr}
use Rattle.std.proofs.Common.{List, [], ◌∷◌, ◌++◌, length, length-append, Ok, Err}
use Rattle.std.specs.Prelude.{◌≢◌, ◌==◌, replicate}
use Rattle.std.specs.List.{AllByRecursion}
use Rattle.std.proofs.lemmas.Bool.{cases_Bool, cases_eq, cases_lt, eqb-true, eq-eqb, ne_eqb, le-ltb, lt-ltb}
use Rattle.std.proofs.lemmas.List.{append-nil, take_at, drop_at, length-replicate}
use Rattle.can_log.specs.declared.field.Class.{Class}
use Rattle.can_log.specs.proving.FieldReader.{short, refused, FieldRead, Reader, ◌>>◌, is_in, stop_at, run_length, run_at, byte_at}
use Rattle.can_log.proofs.EachElement.{AllByRecursion-append, AllByRecursion-replicate}
use Rattle.can_log.proofs.FirstBytes.{Follows, Starts, AnyByte, any_follows, follows_first, starts_first}
use Rattle.can_log.proofs.Results.{ok_is, rest_is, refused_is}
use Rattle.can_log.proofs.FieldLaws.{Takes, Refuses, CanEnd, Law, Then, then_law}
use Rattle.can_log.proofs.Runs.{run_length-done, run_length-nil, run_length-in, run_length-out}

-- ---- one byte

abbrev pub OneByte : ℕ → Unit {0} → List ℕ → Type 0
OneByte c v text = text ≡ c ∷ []

pub byte_is : (c : ℕ) (rest : List ℕ) → byte_at c (c ∷ rest) ≡ Ok (tt, rest)
unfolding byte_at
byte_is c rest = rw (eq-eqb c c refl) refl

byte_other : (c b : ℕ) (rest : List ℕ) → b ≢ c → byte_at c (b ∷ rest) ≡ Err (refused (b ∷ rest))
unfolding byte_at
byte_other c b rest other = rw (ne_eqb b c other) refl

byte_end : (c : ℕ) → byte_at c [] ≡ Err short
unfolding byte_at
byte_end c = refl

byte_takes : (c : ℕ) (bytes : List ℕ) (v : Unit {0}) (rest : List ℕ) → byte_at c bytes ≡ Ok (v, rest) → Takes (byte_at c) (OneByte c) bytes v rest
byte_takes c [] v rest e = absurd (cc (byte_end c))
byte_takes c (b ∷ bytes) v rest e = elim (cases_eq b c) [
  | inl is ↦
      let same : bytes ≡ rest = rest_is tt v bytes rest (sym (byte_is c bytes) ∙ ap (λ (z : ℕ). byte_at c (z ∷ bytes)) (sym is) ∙ e) in
      record { text = c ∷ []; parts = cc; form = refl; peeks = λ d after other eq. byte_is c (d ∷ other) }
  | inr other ↦ absurd (cc (byte_other c b bytes other))
]

byte_refuses : (c : ℕ) (bytes rest : List ℕ) → byte_at c bytes ≡ Err (refused rest) → Refuses (byte_at c) bytes rest
byte_refuses c [] rest e = absurd (cc (byte_end c))
byte_refuses c (b ∷ bytes) rest e = elim (cases_eq b c) [
  | inl is ↦ absurd (cc (byte_is c bytes))
  | inr other ↦ record {
    text = [];
    bad = b;
    after = bytes;
    parts = refl;
    at = cc (byte_other c b bytes other);
    for_good = λ more. byte_other c b more other;
    so_far = rw (byte_end c) tt;
  }
]

byte_shorts : (c : ℕ) (bytes : List ℕ) → byte_at c bytes ≡ Err short → CanEnd (OneByte c) 1 bytes
byte_shorts c [] e = record { more = c ∷ []; value = tt; few = omega arith; form = refl }
byte_shorts c (b ∷ bytes) e = elim (cases_eq b c) [
  | inl is ↦ absurd (cc (byte_is c bytes))
  | inr other ↦ absurd (cc (byte_other c b bytes other))
]

pub byte_law : (c : ℕ) → Law (byte_at c) (OneByte c) AnyByte 1
byte_law c = record {
  takes = byte_takes c;
  again = λ v text rest form after. ap (λ (z : List ℕ). byte_at c (z ++ rest)) form ∙ byte_is c rest;
  refuses = byte_refuses c;
  shorts = byte_shorts c;
}

-- how many bytes are needed where nothing was read
pub byte_begins : (c : ℕ) → CanEnd (OneByte c) 1 []
byte_begins c = record { more = c ∷ []; value = tt; few = omega arith; form = refl }

-- the law of a byte and what is read after it
pub behind_byte : (c : ℕ) {W : Type 0} {next : Reader W} {Next : W → List ℕ → Type 0} {may_follow : ℕ → Type 0} {n m : ℕ}
    → Law next Next may_follow n → CanEnd Next m [] → (most : ℕ) → 1 + m ≤ most → n ≤ most
    → Law (byte_at c >> next) (Then (OneByte c) (λ _. Next)) may_follow most
behind_byte c {m = m} law begins most room next_room = then_law (byte_law c) (λ _. law) m most room next_room (record {
  follows = λ v w text rest form after. any_follows (text ++ rest);
  begins = λ _. begins;
})

-- ---- a run

abbrev pub AllIn : Class → List ℕ → Type 0
AllIn class bytes = AllByRecursion (λ b. is_in class b ≡ true) bytes

abbrev pub NotIn : Class → ℕ → Type 0
NotIn class b = is_in class b ≡ false

pub record IsRun (class : Class) (least most : ℕ) (v text : List ℕ) : Type 0 where
  pub is : text ≡ v
  pub each : AllIn class v
  pub enough : least ≤ length v
  pub few : length v ≤ most

-- as many bytes of the class more
pub all_more : (class : Class) (w : ℕ) (n : ℕ) (text : List ℕ) → is_in class w ≡ true → AllIn class text → AllIn class (text ++ replicate n w)
all_more class w n text h all =
    AllByRecursion-append (λ b. is_in class b ≡ true) text (replicate n w) all (AllByRecursion-replicate (λ b. is_in class b ≡ true) n w h)

-- ---- how long the run at the front is

-- the run, and the bytes after it
record FrontRun (class : Class) (most : ℕ) (bytes : List ℕ) : Type 0 where
  pub text : List ℕ
  pub rest : List ℕ
  pub parts : bytes ≡ text ++ rest
  pub len : run_length class most (text ++ rest) ≡ length text
  pub each : AllIn class text
  pub few : length text ≤ most

front_run : (class : Class) (most : ℕ) (bytes : List ℕ) → FrontRun class most bytes
front_run class zero bytes = record { text = []; rest = bytes; parts = refl; len = run_length-done class bytes; each = tt; few = omega arith }
front_run class (suc most) [] = record { text = []; rest = []; parts = refl; len = run_length-nil class (suc most); each = tt; few = omega arith }
front_run class (suc most) (b ∷ bytes) = elim (cases_Bool (is_in class b)) [
  | inl into ↦
      let p = front_run class most bytes in
      record {
        text = b ∷ p.text;
        rest = p.rest;
        parts = ap (λ (z : List ℕ). b ∷ z) p.parts;
        len = run_length-in class most b (p.text ++ p.rest) into ∙ ap suc p.len;
        each = (into, p.each);
        few = omega (arith, p.few);
      }
  | inr out ↦ record { text = []; rest = b ∷ bytes; parts = refl; len = run_length-out class (suc most) b bytes out; each = tt; few = omega arith }
]

-- a run that stops before one byte stops there whatever follows it
len_peeks : (class : Class) (most : ℕ) (text : List ℕ) (b : ℕ) (after other : List ℕ) → run_length class most (text ++ b ∷ after) ≡ length text
    → run_length class most (text ++ b ∷ other) ≡ length text
len_peeks class zero text b after other e = run_length-done class (text ++ b ∷ other) ∙ sym (run_length-done class (text ++ b ∷ after)) ∙ e
len_peeks class (suc most) [] b after other e = elim (cases_Bool (is_in class b)) [
  | inl into ↦ absurd (omega (arith, run_length-in class most b after into, e))
  | inr out ↦ run_length-out class (suc most) b other out
]
len_peeks class (suc most) (c ∷ text) b after other e = elim (cases_Bool (is_in class c)) [
  | inl into ↦
      let tail : run_length class most (text ++ b ∷ after) ≡ length text = omega (arith, run_length-in class most c (text ++ b ∷ after) into, e) in
      run_length-in class most c (text ++ b ∷ other) into ∙ ap suc (len_peeks class most text b after other tail)
  | inr out ↦ absurd (omega (arith, run_length-out class (suc most) c (text ++ b ∷ after) out, e))
]

len_of : (class : Class) (most : ℕ) (text rest : List ℕ) → AllIn class text → length text ≤ most → Follows (NotIn class) rest
    → run_length class most (text ++ rest) ≡ length text
len_of class zero [] rest all few after = run_length-done class rest
len_of class zero (b ∷ text) rest all few after = absurd (omega arith)
len_of class (suc most) [] [] all few after = run_length-nil class (suc most)
len_of class (suc most) [] (b ∷ rest) all few after = run_length-out class (suc most) b rest after
len_of class (suc most) (b ∷ text) rest all few after =
    run_length-in class most b (text ++ rest) all.0 ∙ ap suc (len_of class most text rest all.1 (omega arith) after)

-- a run of the most bytes, which any byte may follow
len_full : (class : Class) (most : ℕ) (text rest : List ℕ) → AllIn class text → length text ≡ most → run_length class most (text ++ rest) ≡ length text
len_full class zero [] rest all full = run_length-done class rest
len_full class zero (b ∷ text) rest all full = absurd (omega arith)
len_full class (suc most) [] rest all full = absurd (omega arith)
len_full class (suc most) (b ∷ text) rest all full =
    run_length-in class most b (text ++ rest) all.0 ∙ ap suc (len_full class most text rest all.1 (omega arith))

-- ---- how it is read

module _ (class : Class) (least most : ℕ) where
  run_is : (text rest : List ℕ) → run_length class most (text ++ rest) ≡ length text
      → run_at class least most (text ++ rest) ≡ cond (ltb (length text) least) (Err (stop_at rest)) (Ok (text, rest))
  unfolding run_at
  run_is text rest e = rw (e, take_at text rest (length text) refl, drop_at text rest (length text) refl) refl

  run_ok : (text rest : List ℕ) → run_length class most (text ++ rest) ≡ length text → least ≤ length text
      → run_at class least most (text ++ rest) ≡ Ok (text, rest)
  run_ok text rest e enough = run_is text rest e ∙ rw (le-ltb (length text) least enough) refl

  run_few : (text rest : List ℕ) → run_length class most (text ++ rest) ≡ length text → length text < least
      → run_at class least most (text ++ rest) ≡ Err (stop_at rest)
  run_few text rest e few = run_is text rest e ∙ rw (lt-ltb (length text) least few) refl

  -- the run at the front is long enough and was read, or it is not and was not
  data RunRead (bytes : List ℕ) : Type 0 where
    long_enough : (p : FrontRun class most bytes) → least ≤ length p.text → run_at class least most bytes ≡ Ok (p.text, p.rest) → RunRead bytes
    too_short : (p : FrontRun class most bytes) → length p.text < least → run_at class least most bytes ≡ Err (stop_at p.rest) → RunRead bytes

  run_read : (bytes : List ℕ) → RunRead bytes
  run_read bytes =
      let p = front_run class most bytes in
      elim (cases_lt (length p.text) least) [
        | inl few ↦ too_short p few (ap (run_at class least most) p.parts ∙ run_few p.text p.rest p.len few)
        | inr enough ↦ long_enough p enough (ap (run_at class least most) p.parts ∙ run_ok p.text p.rest p.len enough)
      ]

  pub run_takes : (bytes v rest : List ℕ) → run_at class least most bytes ≡ Ok (v, rest)
      → Takes (run_at class least most) (IsRun class least most) bytes v rest
  run_takes bytes v rest e = elim (run_read bytes) [
    | long_enough p enough is ↦
        subst (λ (q : List ℕ × List ℕ). Takes (run_at class least most) (IsRun class least most) bytes q.0 q.1) (ok_is (p.text, p.rest) (v, rest) (sym is ∙ e)) (record {
          text = p.text;
          parts = p.parts;
          form = record { is = refl; each = p.each; enough = enough; few = p.few };
          peeks = λ b after other eq.
              let len = ap (λ (z : List ℕ). run_length class most (p.text ++ z)) (sym eq) ∙ p.len in
              run_ok p.text (b ∷ other) (len_peeks class most p.text b after other len) enough;
        })
    | too_short p few is ↦ absurd (cc (is, e))
  ]

  refused_behind : (bytes rest text end : List ℕ) → bytes ≡ text ++ end → AllIn class text → length text ≤ most
      → run_length class most (text ++ end) ≡ length text → length text < least
      → ◌≡◌ {A = FieldRead (List ℕ)} (Err (stop_at end)) (Err (refused rest)) → Refuses (run_at class least most) bytes rest
  refused_behind bytes rest text [] parts each within len few is = absurd cc
  refused_behind bytes rest text (b ∷ after) parts each within len few is = record {
    text = text;
    bad = b;
    after = after;
    parts = parts;
    at = sym (refused_is {V = List ℕ} (b ∷ after) rest is);
    for_good = λ other. run_few text (b ∷ other) (len_peeks class most text b after other len) few;
    so_far =
        let alone : run_at class least most text ≡ Err short =
        ap (run_at class least most) (sym (append-nil text)) ∙ run_few text [] (len_of class most text [] each within tt) few
        in
        rw alone tt;
  }

  run_refuses : (bytes rest : List ℕ) → run_at class least most bytes ≡ Err (refused rest) → Refuses (run_at class least most) bytes rest
  run_refuses bytes rest e = elim (run_read bytes) [
    | long_enough p enough is ↦ absurd (cc (is, e))
    | too_short p few is ↦ refused_behind bytes rest p.text p.rest p.parts p.each p.few p.len few (sym is ∙ e)
  ]

  short_behind : (w : ℕ) → is_in class w ≡ true → least ≤ most → (bytes text end : List ℕ) → bytes ≡ text ++ end → AllIn class text
      → length text < least → ◌≡◌ {A = FieldRead (List ℕ)} (Err (stop_at end)) (Err short) → CanEnd (IsRun class least most) least bytes
  short_behind w in_class room bytes text [] parts each few is =
      let whole : bytes ≡ text = parts ∙ append-nil text in
      let n = least - length text in
      let len : length (text ++ replicate n w) ≡ least = omega (arith, length-append text (replicate n w), length-replicate n w) in
      record {
        more = replicate n w;
        value = text ++ replicate n w;
        few = omega (arith, length-replicate n w);
        form = record {
          is = ap (λ (z : List ℕ). z ++ replicate n w) whole;
          each = all_more class w n text in_class each;
          enough = omega (arith, len);
          few = omega (arith, len);
        };
      }
  short_behind w in_class room bytes text (b ∷ after) parts each few is = absurd cc

  -- a byte w of the class can end it
  pub run_shorts : (w : ℕ) → is_in class w ≡ true → least ≤ most → (bytes : List ℕ) → run_at class least most bytes ≡ Err short
      → CanEnd (IsRun class least most) least bytes
  run_shorts w in_class room bytes e = elim (run_read bytes) [
    | long_enough p enough is ↦ absurd (cc (is, e))
    | too_short p few is ↦ short_behind w in_class room bytes p.text p.rest p.parts p.each few (sym is ∙ e)
  ]

-- the law of a run of a class that some byte w is of
pub run_law : (class : Class) (least most w : ℕ) → is_in class w ≡ true → least ≤ most
    → Law (run_at class least most) (IsRun class least most) (NotIn class) least
run_law class least most w in_class room = record {
  takes = run_takes class least most;
  again = λ v text rest form after.
      ap (λ (z : List ℕ). run_at class least most (z ++ rest)) form.is
      ∙ run_ok class least most v rest (len_of class most v rest form.each form.few after) form.enough;
  refuses = run_refuses class least most;
  shorts = run_shorts class least most w in_class room;
}

-- the law of a run of a fixed length, which any byte may follow
pub exact_law : (class : Class) (n w : ℕ) → is_in class w ≡ true → Law (run_at class n n) (IsRun class n n) AnyByte n
exact_law class n w in_class = record {
  takes = run_takes class n n;
  again = λ v text rest form after.
      let full : length v ≡ n = omega (arith, form.enough, form.few) in
      ap (λ (z : List ℕ). run_at class n n (z ++ rest)) form.is ∙ run_ok class n n v rest (len_full class n v rest form.each full) form.enough;
  refuses = run_refuses class n n;
  shorts = run_shorts class n n w in_class (omega arith);
}

-- ---- what a byte, and a run, begin with

-- how many bytes are needed where nothing was read
pub run_begins : (class : Class) (least most w : ℕ) → is_in class w ≡ true → least ≤ most → CanEnd (IsRun class least most) least []
run_begins class least most w h room =
    let long = length-replicate {A = ℕ} least w in
    record {
      more = replicate least w;
      value = replicate least w;
      few = omega (arith, long);
      form = record { is = refl; each = all_more class w least [] h tt; enough = omega (arith, long); few = omega (arith, long) };
    }

-- a run that is not empty has a first byte, of the class
run_first : (class : Class) (least most : ℕ) (v text : List ℕ) → IsRun class least most v text → 1 ≤ least
    → (b : ℕ) × (after : List ℕ) × (text ≡ b ∷ after) × (is_in class b ≡ true)
run_first class least most [] text r some = absurd (omega (arith, r.enough))
run_first class least most (b ∷ v) text r some = (b, v, r.is, r.each.0)

pub run_head : (P : ℕ → Type 0) (class : Class) (least most : ℕ) (v text rest : List ℕ) → IsRun class least most v text → 1 ≤ least
    → ((b : ℕ) → is_in class b ≡ true → P b) → Follows P (text ++ rest)
run_head P class least most v text rest r some holds =
    let first = run_first class least most v text r some in
    follows_first P text rest first.0 first.1 first.2 (holds first.0 first.3)

pub run_starts : (test : ℕ → Bool) (class : Class) (least most : ℕ) (v text : List ℕ) → IsRun class least most v text → 1 ≤ least
    → ((b : ℕ) → is_in class b ≡ true → test b ≡ true) → Starts test text
run_starts test class least most v text r some passes =
    let first = run_first class least most v text r some in
    starts_first test text first.0 first.1 first.2 (passes first.0 first.3)

-- a byte, and what follows it
pub then_starts : (c : ℕ) {W : Type 0} {Next : Unit {0} → W → List ℕ → Type 0} {w : W} (text : List ℕ) → Then (OneByte c) Next w text → Starts (λ b. b == c) text
then_starts c text f = starts_first (λ b. b == c) text c f.back (f.is ∙ ap (λ (z : List ℕ). z ++ f.back) f.first) (eq-eqb c c refl)

-- ---- bytes that are not of a class

-- a byte is not of a class, where it is of one without the byte c
pub apart_from : (class : Class) (b c : ℕ) → is_in class c ≡ false → is_in class b ≡ true → (b == c) ≡ false
apart_from class b c out into = elim (cases_Bool (b == c)) [
  | inl same ↦ absurd (cc (ap (is_in class) (eqb-true b c same)))
  | inr other ↦ other
]

pub is_not : (class : Class) (b c : ℕ) → is_in class c ≡ false → b ≡ c → is_in class b ≡ false
is_not class b c out e = ap (is_in class) e ∙ out
