-- What holds of a reader of fields, of two readers one after the other, and of two of which the first byte chooses one.
use Rattle.std.proofs.Common.{◌≡◌, ℕ, ◌+◌, ◌≤◌, false, refl, sym, ap, subst, ◌∙◌, arith, inl, inr, ◌⊎◌}
use Rattle.std.proofs.Common.{List, [], ◌∷◌, ◌++◌, length, append_assoc, length-append, Ok, Err}
use Rattle.std.specs.Prelude.{◌==◌}
use Rattle.std.proofs.lemmas.Bool.{cases_Bool}
use Rattle.can_log.specs.proving.FieldReader.{Stop, short, refused, FieldRead, Reader, read_on, and_then, either}
use Rattle.can_log.proofs.Lists.{parts_again, parts_more}
use Rattle.can_log.proofs.FirstBytes.{Follows, Misses, Starts, follows_weaker, follows_append, follows_front, follows_head, starts_append, starts_head, first_of_both, first_of_front}
use Rattle.can_log.proofs.Results.{read_on-ok, read_on-err}

-- A value was read, from these bytes alone and the byte after them.
pub record Takes {V : Type 0} (read : Reader V) (Form : V → List ℕ → Type 0) (bytes : List ℕ) (v : V) (rest : List ℕ) : Type 0 where
  pub text : List ℕ
  pub parts : bytes ≡ text ++ rest
  pub form : Form v text
  pub peeks : (b : ℕ) (after other : List ℕ) → rest ≡ b ∷ after → read (text ++ b ∷ other) ≡ Ok (v, b ∷ other)

-- The bytes so far were not refused.
abbrev pub IsOpen : {V : Type 0} → FieldRead V → Type 0
IsOpen (Ok x) = x.1 ≡ []
IsOpen (Err short) = Unit {0}
IsOpen (Err (refused rest)) = ⊥

-- A byte was refused, whatever follows it, and none before it was.
pub record Refuses {V : Type 0} (read : Reader V) (bytes rest : List ℕ) : Type 0 where
  pub text : List ℕ
  pub bad : ℕ
  pub after : List ℕ
  pub parts : bytes ≡ text ++ bad ∷ after
  pub at : rest ≡ bad ∷ after
  pub for_good : (other : List ℕ) → read (text ++ bad ∷ other) ≡ Err (refused (bad ∷ other))
  pub so_far : IsOpen (read text)

-- At most `most` more bytes make it a form.
pub record CanEnd {V : Type 0} (Form : V → List ℕ → Type 0) (most : ℕ) (bytes : List ℕ) : Type 0 where
  pub more : List ℕ
  pub value : V
  pub few : length more ≤ most
  pub form : Form value (bytes ++ more)

-- The law of a reader whose values have texts of a form.
pub record Law {V : Type 0} (read : Reader V) (Form : V → List ℕ → Type 0) (may_follow : ℕ → Type 0) (most : ℕ) : Type 0 where
  -- what it reads is a text of its value
  pub takes : (bytes : List ℕ) (v : V) (rest : List ℕ) → read bytes ≡ Ok (v, rest) → Takes read Form bytes v rest
  -- it reads each text, before what may follow one
  pub again : (v : V) (text rest : List ℕ) → Form v text → Follows may_follow rest → read (text ++ rest) ≡ Ok (v, rest)
  -- it refuses a byte for good, and none before it
  pub refuses : (bytes rest : List ℕ) → read bytes ≡ Err (refused rest) → Refuses read bytes rest
  -- bytes that are too short can end as a text
  pub shorts : (bytes : List ℕ) → read bytes ≡ Err short → CanEnd Form most bytes

-- another reader refuses the same byte, after the same bytes
pub refuses_as : {V W : Type 0} {read : Reader V} (other : Reader W) {bytes rest : List ℕ} → (r : Refuses read bytes rest)
    → ((more : List ℕ) → other (r.text ++ r.bad ∷ more) ≡ Err (refused (r.bad ∷ more))) → IsOpen (other r.text) → Refuses other bytes rest
refuses_as other r for_good so_far = record {
  text = r.text;
  bad = r.bad;
  after = r.after;
  parts = r.parts;
  at = r.at;
  for_good = for_good;
  so_far = so_far;
}

-- what ends a text of one form ends one of another form that has all the texts of the first
pub can_end_as : {V W : Type 0} {Form : V → List ℕ → Type 0} {Other : W → List ℕ → Type 0} {k : ℕ} {bytes : List ℕ} (view : V → W)
    → ((v : V) (text : List ℕ) → Form v text → Other (view v) text) → (most : ℕ) → k ≤ most → CanEnd Form k bytes → CanEnd Other most bytes
can_end_as {bytes = bytes} view includes most room c = record {
  more = c.more;
  value = view c.value;
  few = omega (arith, c.few);
  form = includes c.value (bytes ++ c.more) c.form;
}

-- what is read on refuses no byte so far, where neither step does
pub open_on : {V W : Type 0} (r : FieldRead V) (next : V → Reader W) → IsOpen r → ((v : V) → IsOpen (next v [])) → IsOpen (read_on r next)
open_on (Ok x) next h at_end = subst (λ (z : List ℕ). IsOpen (next x.0 z)) (sym h) (at_end x.0)
open_on (Err short) next h at_end = tt
open_on (Err (refused rest)) next h at_end = absurd h

module _ {V : Type 0} {read : Reader V} {Form : V → List ℕ → Type 0} {may_follow : ℕ → Type 0} {most : ℕ} (law : Law read Form may_follow most) where
  -- no reader refuses, or takes, what isn't there
  open_at_end : IsOpen (read [])
  open_at_end = open_of (read []) refl
    where
      ends : (text rest : List ℕ) → [] ≡ text ++ rest → rest ≡ []
      ends [] rest e = sym e
      ends (b ∷ text) rest e = absurd cc

      no_end : (text after : List ℕ) (b : ℕ) → [] ≡ text ++ b ∷ after → ⊥
      no_end [] after b e = cc
      no_end (c ∷ text) after b e = cc

      open_of : (r : FieldRead V) → read [] ≡ r → IsOpen r
      open_of (Ok x) e = let t = law.takes [] x.0 x.1 e in ends t.text x.1 t.parts
      open_of (Err short) e = tt
      open_of (Err (refused rest)) e = let t = law.refuses [] rest e in no_end t.text t.after t.bad t.parts

  -- what a text takes from the front depends on the first byte after it alone
  pub reads_again : {bytes : List ℕ} {v : V} {middle : List ℕ} → (t : Takes read Form bytes v middle) → (z : List ℕ)
      → ((c : ℕ) (more : List ℕ) → z ≡ c ∷ more → (behind : List ℕ) × (middle ≡ c ∷ behind)) → read (t.text ++ z) ≡ Ok (v, z)
  reads_again {v = v} t [] same = law.again v t.text [] t.form tt
  reads_again t (c ∷ more) same = let s = same c more refl in t.peeks c s.0 more s.1

-- ---- one field, and then another

-- a text of the first, and after it one of the second
pub record Then {V W : Type 0} (Form : V → List ℕ → Type 0) (Next : V → W → List ℕ → Type 0) (w : W) (text : List ℕ) : Type 0 where
  pub value : V
  pub front : List ℕ
  pub back : List ℕ
  pub first : Form value front
  pub second : Next value w back
  pub is : text ≡ front ++ back

pub then_of : {V W : Type 0} {Form : V → List ℕ → Type 0} {Next : V → W → List ℕ → Type 0} {w : W} (v : V) (front back : List ℕ) → Form v front
    → Next v w back → Then Form Next w (front ++ back)
then_of v front back first second = record { value = v; front = front; back = back; first = first; second = second; is = refl }

-- How two readers fit together.
pub record Fits {V W : Type 0} (Next : V → W → List ℕ → Type 0) (may_follow next_may_follow : ℕ → Type 0) (m : ℕ) : Type 0 where
  -- what follows the second may follow the first, with the second between them
  pub follows : (v : V) (w : W) (text rest : List ℕ) → Next v w text → Follows next_may_follow rest → Follows may_follow (text ++ rest)
  -- where the first ends, at most m bytes end the second
  pub begins : (v : V) → CanEnd (Next v) m []

module _ {V W : Type 0} (read : Reader V) (next : V → Reader W) where
  pub then_is : (bytes : List ℕ) (v : V) (middle : List ℕ) → read bytes ≡ Ok (v, middle) → and_then read next bytes ≡ next v middle
  unfolding and_then
  then_is bytes v middle e = rw e refl

  -- the second is read after a text of the first
  then_behind : (front back rest : List ℕ) (v : V) → read (front ++ (back ++ rest)) ≡ Ok (v, back ++ rest)
      → and_then read next ((front ++ back) ++ rest) ≡ next v (back ++ rest)
  then_behind front back rest v e = ap (and_then read next) (append_assoc front back rest) ∙ then_is (front ++ (back ++ rest)) v (back ++ rest) e

  then_err : (bytes : List ℕ) (t : Stop) → read bytes ≡ Err t → and_then read next bytes ≡ Err t
  unfolding and_then
  then_err bytes t e = rw e refl

  open_then : (text : List ℕ) → IsOpen (read text) → ((v : V) → IsOpen (next v [])) → IsOpen (and_then read next text)
  unfolding and_then
  open_then text h at_end = open_on (read text) next h at_end

-- the law of two readers, one after the other
module _ {V W : Type 0} {read : Reader V} {next : V → Reader W} {Form : V → List ℕ → Type 0} {Next : V → W → List ℕ → Type 0}
    {may_follow next_may_follow : ℕ → Type 0} {k n : ℕ} (law : Law read Form may_follow k) (next_law : (v : V) → Law (next v) (Next v) next_may_follow n) where
  -- a text of the second, after one of the first
  second_takes : (bytes : List ℕ) (v : V) (middle : List ℕ) (w : W) (rest : List ℕ) → Takes read Form bytes v middle
      → Takes (next v) (Next v) middle w rest → Takes (and_then read next) (Then Form Next) bytes w rest
  second_takes bytes v middle w rest t u = record {
    text = t.text ++ u.text;
    parts = parts_again t.text u.text rest t.parts u.parts;
    form = then_of v t.text u.text t.form u.form;
    peeks = λ b after other h.
        let here : middle ≡ u.text ++ b ∷ after = u.parts ∙ ap (λ (z : List ℕ). u.text ++ z) h in
        let reads = reads_again law t (u.text ++ b ∷ other) (first_of_both u.text b after other middle here) in
        then_behind read next t.text u.text (b ∷ other) v reads ∙ u.peeks b after other h;
  }

  then_takes : (bytes : List ℕ) (w : W) (rest : List ℕ) → and_then read next bytes ≡ Ok (w, rest) → Takes (and_then read next) (Then Form Next) bytes w rest
  unfolding and_then
  then_takes bytes w rest e =
      let x = read_on-ok (read bytes) next (w, rest) e in
      second_takes bytes x.0.0 x.0.1 w rest (law.takes bytes x.0.0 x.0.1 x.1) ((next_law x.0.0).takes x.0.1 w rest x.2)

  -- a byte that the second refuses, after a text of the first
  second_refuses : (bytes : List ℕ) (v : V) (middle rest : List ℕ) → Takes read Form bytes v middle → Refuses (next v) middle rest
      → Refuses (and_then read next) bytes rest
  second_refuses bytes v middle rest t r =
      let here = reads_again law t r.text (first_of_front r.text r.bad r.after middle r.parts) in
      record {
        text = t.text ++ r.text;
        bad = r.bad;
        after = r.after;
        parts = parts_again t.text r.text (r.bad ∷ r.after) t.parts r.parts;
        at = r.at;
        for_good = λ other.
            let reads = reads_again law t (r.text ++ r.bad ∷ other) (first_of_both r.text r.bad r.after other middle r.parts) in
            then_behind read next t.text r.text (r.bad ∷ other) v reads ∙ r.for_good other;
        so_far = rw (then_is read next (t.text ++ r.text) v r.text here) r.so_far;
      }

  then_refuses : (bytes rest : List ℕ) → and_then read next bytes ≡ Err (refused rest) → Refuses (and_then read next) bytes rest
  unfolding and_then
  then_refuses bytes rest e = elim (read_on-err (read bytes) next (refused rest) e) [
    | inl first ↦
        let r = law.refuses bytes rest first in
        refuses_as (and_then read next) r (λ other. then_err read next (r.text ++ r.bad ∷ other) (refused (r.bad ∷ other)) (r.for_good other))
        (open_then read next r.text r.so_far (λ v. open_at_end (next_law v)))
    | inr (x, took, second) ↦ second_refuses bytes x.0 x.1 rest (law.takes bytes x.0 x.1 took) ((next_law x.0).refuses x.1 rest second)
  ]

  then_shorts : (m most : ℕ) → ((v : V) → CanEnd (Next v) m []) → k + m ≤ most → n ≤ most
      → (bytes : List ℕ) → and_then read next bytes ≡ Err short → CanEnd (Then Form Next) most bytes
  unfolding and_then
  then_shorts m most begins room next_room bytes e = elim (read_on-err (read bytes) next short e) [
    | inl first ↦
        let c = law.shorts bytes first in
        let d = begins c.value in
        record {
          more = c.more ++ d.more;
          value = d.value;
          few = omega (arith, length-append c.more d.more, c.few, d.few);
          form = record {
            value = c.value;
            front = bytes ++ c.more;
            back = d.more;
            first = c.form;
            second = d.form;
            is = sym (append_assoc bytes c.more d.more);
          };
        }
    | inr (x, took, second) ↦
        let t = law.takes bytes x.0 x.1 took in
        let d = (next_law x.0).shorts x.1 second in
        record {
          more = d.more;
          value = d.value;
          few = omega (arith, d.few);
          form = record {
            value = x.0;
            front = t.text;
            back = x.1 ++ d.more;
            first = t.form;
            second = d.form;
            is = parts_more t.text x.1 t.parts d.more;
          };
        }
  ]

  pub then_law : (m most : ℕ) → k + m ≤ most → n ≤ most → Fits Next may_follow next_may_follow m
      → Law (and_then read next) (Then Form Next) next_may_follow most
  then_law m most room next_room fits = record {
    takes = then_takes;
    again = λ w text rest f after.
        let reads = law.again f.value f.front (f.back ++ rest) f.first (fits.follows f.value w f.back rest f.second after) in
        ap (λ (z : List ℕ). and_then read next (z ++ rest)) f.is ∙ then_behind read next f.front f.back rest f.value reads
        ∙ (next_law f.value).again w f.back rest f.second after;
    refuses = then_refuses;
    shorts = then_shorts m most fits.begins room next_room;
  }

-- what it begins with, and how many bytes are needed where nothing was read
pub then_head : (P : ℕ → Type 0) {V W : Type 0} {Form : V → List ℕ → Type 0} {Next : V → W → List ℕ → Type 0} {w : W} {text : List ℕ} (rest : List ℕ)
    → (f : Then Form Next w text) → ((tail : List ℕ) → Follows P (f.front ++ tail)) → Follows P (text ++ rest)
then_head P rest f h =
    subst (λ (z : List ℕ). Follows P (z ++ rest)) (sym f.is) (subst (Follows P) (sym (append_assoc f.front f.back rest)) (h (f.back ++ rest)))

pub then_begins : {V W : Type 0} {Form : V → List ℕ → Type 0} {Next : V → W → List ℕ → Type 0} {m n : ℕ} → CanEnd Form m []
    → ((v : V) → CanEnd (Next v) n []) → (most : ℕ) → m + n ≤ most → CanEnd (Then Form Next) most []
then_begins c next most room =
    let d = next c.value in
    record {
      more = c.more ++ d.more;
      value = d.value;
      few = omega (arith, length-append c.more d.more, c.few, d.few);
      form = record { value = c.value; front = c.more; back = d.more; first = c.form; second = d.form; is = refl };
    }

-- ---- one field or another

-- a text of the one or of the other
abbrev pub Either : {V : Type 0} → (V → List ℕ → Type 0) → (V → List ℕ → Type 0) → V → List ℕ → Type 0
Either One Other v text = One v text ⊎ Other v text

-- The first byte tells which of the two it is.
pub record Apart {V : Type 0} (c : ℕ) (One Other : V → List ℕ → Type 0) (may_follow : ℕ → Type 0) : Type 0 where
  pub starts : (v : V) (text : List ℕ) → One v text → Starts (λ b. b == c) text
  pub misses : (v : V) (text : List ℕ) → Other v text → Misses (λ b. b == c) text
  pub after : (b : ℕ) → may_follow b → (b == c) ≡ false

module _ {V : Type 0} (c : ℕ) (one other : Reader V) where
  starts_is : (bytes : List ℕ) → Starts (λ b. b == c) bytes → either c one other bytes ≡ one bytes
  unfolding either
  starts_is [] h = absurd h
  starts_is (b ∷ bytes) h = rw h refl

  misses_is : (bytes : List ℕ) → Misses (λ b. b == c) bytes → either c one other bytes ≡ other bytes
  unfolding either
  misses_is [] h = refl
  misses_is (b ∷ bytes) h = rw h refl

  -- which of the two reads
  pub which : (bytes : List ℕ)
      → (Starts (λ b. b == c) bytes × (either c one other bytes ≡ one bytes)) ⊎ (Misses (λ b. b == c) bytes × (either c one other bytes ≡ other bytes))
  which [] = inr (tt, misses_is [] tt)
  which (b ∷ bytes) = elim (cases_Bool (b == c)) [
    | inl passes ↦ inl (passes, starts_is (b ∷ bytes) passes)
    | inr fails ↦ inr (fails, misses_is (b ∷ bytes) fails)
  ]

  -- of a text that the one reads, up to the byte that it refuses
  open_front : (text : List ℕ) (b : ℕ) (after : List ℕ) → Starts (λ b. b == c) (text ++ b ∷ after) → IsOpen (one text) → IsOpen (other [])
      → IsOpen (either c one other text)
  open_front [] b after h is_open at_end = rw (misses_is [] tt) at_end
  open_front (d ∷ text) b after h is_open at_end = rw (starts_is (d ∷ text) h) is_open

-- the law of two readers, of which the first byte chooses one
module _ {V : Type 0} (c : ℕ) {one other : Reader V} {One Other : V → List ℕ → Type 0} {may_follow : ℕ → Type 0} {k n : ℕ}
    (one_law : Law one One may_follow k) (other_law : Law other Other may_follow n) where
  one_takes : ((v : V) (text : List ℕ) → One v text → Starts (λ b. b == c) text) → (bytes : List ℕ) (v : V) (rest : List ℕ) → Takes one One bytes v rest
      → Takes (either c one other) (Either One Other) bytes v rest
  one_takes starts bytes v rest t = record {
    text = t.text;
    parts = t.parts;
    form = inl t.form;
    peeks = λ b after more e.
        starts_is c one other (t.text ++ b ∷ more) (starts_append (λ b. b == c) t.text (b ∷ more) (starts v t.text t.form)) ∙ t.peeks b after more e;
  }

  other_takes : (bytes : List ℕ) (v : V) (rest : List ℕ) → Misses (λ b. b == c) bytes → Takes other Other bytes v rest
      → Takes (either c one other) (Either One Other) bytes v rest
  other_takes bytes v rest misses t = record {
    text = t.text;
    parts = t.parts;
    form = inr t.form;
    peeks = λ b after more e.
        let whole : Misses (λ b. b == c) (t.text ++ b ∷ after) = subst (Misses (λ b. b == c)) (t.parts ∙ ap (λ (z : List ℕ). t.text ++ z) e) misses in
        misses_is c one other (t.text ++ b ∷ more) (follows_head (λ b. (b == c) ≡ false) t.text b after more whole) ∙ t.peeks b after more e;
  }

  one_refuses : (bytes rest : List ℕ) → Starts (λ b. b == c) bytes → Refuses one bytes rest → Refuses (either c one other) bytes rest
  one_refuses bytes rest starts r =
      let whole : Starts (λ b. b == c) (r.text ++ r.bad ∷ r.after) = subst (Starts (λ b. b == c)) r.parts starts in
      refuses_as (either c one other) r
      (λ more. starts_is c one other (r.text ++ r.bad ∷ more) (starts_head (λ b. b == c) r.text r.bad r.after more whole) ∙ r.for_good more)
      (open_front c one other r.text r.bad r.after whole r.so_far (open_at_end other_law))

  other_refuses : (bytes rest : List ℕ) → Misses (λ b. b == c) bytes → Refuses other bytes rest → Refuses (either c one other) bytes rest
  other_refuses bytes rest misses r =
      let whole : Misses (λ b. b == c) (r.text ++ r.bad ∷ r.after) = subst (Misses (λ b. b == c)) r.parts misses in
      let front = follows_front (λ b. (b == c) ≡ false) r.text (r.bad ∷ r.after) whole in
      refuses_as (either c one other) r
      (λ more. misses_is c one other (r.text ++ r.bad ∷ more) (follows_head (λ b. (b == c) ≡ false) r.text r.bad r.after more whole) ∙ r.for_good more)
      (rw (misses_is c one other r.text front) r.so_far)

  pub either_law : (most : ℕ) → k ≤ most → n ≤ most → Apart c One Other may_follow → Law (either c one other) (Either One Other) may_follow most
  either_law most room other_room apart = record {
    takes = λ bytes v rest e. elim (which c one other bytes) [
      | inl (h, is) ↦ one_takes apart.starts bytes v rest (one_law.takes bytes v rest (sym is ∙ e))
      | inr (h, is) ↦ other_takes bytes v rest h (other_law.takes bytes v rest (sym is ∙ e))
    ];
    again = λ v text rest form after. elim form [
      | inl f ↦ starts_is c one other (text ++ rest) (starts_append (λ b. b == c) text rest (apart.starts v text f)) ∙ one_law.again v text rest f after
      | inr f ↦
          let behind = follows_weaker may_follow (λ b. (b == c) ≡ false) apart.after rest after in
          misses_is c one other (text ++ rest) (follows_append (λ b. (b == c) ≡ false) text rest (apart.misses v text f) behind)
          ∙ other_law.again v text rest f after
    ];
    refuses = λ bytes rest e. elim (which c one other bytes) [
      | inl (h, is) ↦ one_refuses bytes rest h (one_law.refuses bytes rest (sym is ∙ e))
      | inr (h, is) ↦ other_refuses bytes rest h (other_law.refuses bytes rest (sym is ∙ e))
    ];
    shorts = λ bytes e. elim (which c one other bytes) [
      | inl (h, is) ↦ can_end_as (λ v. v) (λ v text form. inl form) most room (one_law.shorts bytes (sym is ∙ e))
      | inr (h, is) ↦ can_end_as (λ v. v) (λ v text form. inr form) most other_room (other_law.shorts bytes (sym is ∙ e))
    ];
  }
