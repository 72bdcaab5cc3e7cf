-- The laws of readers whose value is made of the one that was read or has to pass a test, of the reader of nothing, and of the end.
use Prim.Native.Char.{code}
use Rattle.std.proofs.Common.{◌≡◌, ℕ, ◌≤◌, Bool, true, false, cond, refl, sym, ap, subst, ◌∙◌, arith, inl, inr, ◌⊎◌}
use Rattle.std.proofs.Common.{List, [], ◌∷◌, ◌++◌, Ok, Err}
use Rattle.std.specs.Prelude.{◌≢◌, codes}
use Rattle.std.proofs.lemmas.Bool.{cases_Bool, cases_eq, cond_both, ne_eqb}
use Rattle.std.proofs.lemmas.List.{append-nil}
use Rattle.can_log.specs.proving.FieldReader.{Stop, short, refused, FieldRead, Reader, and_then, done, stop_at, only}
use Rattle.can_log.specs.proving.LineReader.{end_at}
use Rattle.can_log.proofs.FirstBytes.{Follows, AnyByte, follows_weaker}
use Rattle.can_log.proofs.Results.{ok_is, value_is, rest_is, refused_is, read_on-ok, read_on-err}
use Rattle.can_log.proofs.FieldLaws.{Takes, IsOpen, Refuses, CanEnd, Law, refuses_as, can_end_as, open_on, reads_again}

-- fewer bytes may follow, and more may be needed
pub weaken : {V : Type 0} {read : Reader V} {Form : V → List ℕ → Type 0} {may_follow : ℕ → Type 0} {k : ℕ} → (fewer : ℕ → Type 0) (most : ℕ)
    → Law read Form may_follow k → ((b : ℕ) → fewer b → may_follow b) → k ≤ most → Law read Form fewer most
weaken {may_follow = may_follow} fewer most law less room = record {
  takes = law.takes;
  again = λ v text rest form after. law.again v text rest form (follows_weaker fewer may_follow less rest after);
  refuses = law.refuses;
  shorts = λ bytes e. can_end_as (λ v. v) (λ v text form. form) most room (law.shorts bytes e);
}

-- ---- a value made of the one that was read

abbrev pub giving : {V W : Type 0} → (V → W) → Reader V → Reader W
giving view read = and_then read (λ v. done (view v))

abbrev pub Giving : {V W : Type 0} → (V → W) → (V → List ℕ → Type 0) → W → List ℕ → Type 0
Giving {V} view Form w text = (v : V) × Form v text × (view v ≡ w)

module _ {V W : Type 0} (view : V → W) (read : Reader V) where
  giving_ok : (bytes : List ℕ) (v : V) (rest : List ℕ) → read bytes ≡ Ok (v, rest) → giving view read bytes ≡ Ok (view v, rest)
  unfolding and_then done
  giving_ok bytes v rest e = rw e refl

  giving_err : (bytes : List ℕ) (t : Stop) → read bytes ≡ Err t → giving view read bytes ≡ Err t
  unfolding and_then
  giving_err bytes t e = rw e refl

  pub giving_failed : (bytes : List ℕ) (t : Stop) → giving view read bytes ≡ Err t → read bytes ≡ Err t
  unfolding and_then done
  giving_failed bytes t e = elim (read_on-err (read bytes) (λ v. done (view v)) t e) [ inl failed ↦ failed | inr worked ↦ absurd cc ]

  open_giving : (text : List ℕ) → IsOpen (read text) → IsOpen (giving view read text)
  unfolding and_then done
  open_giving text h = open_on (read text) (λ v. done (view v)) h (λ v. refl)

module _ {V W : Type 0} (view : V → W) {read : Reader V} {Form : V → List ℕ → Type 0} {may_follow : ℕ → Type 0} {k : ℕ}
    (law : Law read Form may_follow k) where
  giving_takes : (bytes : List ℕ) (w : W) (rest : List ℕ) → giving view read bytes ≡ Ok (w, rest) → Takes (giving view read) (Giving view Form) bytes w rest
  unfolding and_then done
  giving_takes bytes w rest e =
      let x = read_on-ok (read bytes) (λ v. done (view v)) (w, rest) e in
      let t = law.takes bytes x.0.0 x.0.1 x.1 in
      subst (λ (q : W × List ℕ). Takes (giving view read) (Giving view Form) bytes q.0 q.1) (ok_is (view x.0.0, x.0.1) (w, rest) x.2) (record {
        text = t.text;
        parts = t.parts;
        form = (x.0.0, t.form, refl);
        peeks = λ b after other h. giving_ok view read (t.text ++ b ∷ other) x.0.0 (b ∷ other) (t.peeks b after other h);
      })

  giving_refuses : (bytes rest : List ℕ) → giving view read bytes ≡ Err (refused rest) → Refuses (giving view read) bytes rest
  giving_refuses bytes rest e =
      let r = law.refuses bytes rest (giving_failed view read bytes (refused rest) e) in
      refuses_as (giving view read) r (λ other. giving_err view read (r.text ++ r.bad ∷ other) (refused (r.bad ∷ other)) (r.for_good other))
      (open_giving view read r.text r.so_far)

  pub giving_law : Law (giving view read) (Giving view Form) may_follow k
  giving_law = record {
    takes = giving_takes;
    again = λ w text rest (v, form, is) after.
        giving_ok view read (text ++ rest) v rest (law.again v text rest form after) ∙ ap (λ (z : W). Ok (z, rest)) is;
    refuses = giving_refuses;
    shorts = λ bytes e. can_end_as view (λ v text form. (v, form, refl)) k (omega arith) (law.shorts bytes (giving_failed view read bytes short e));
  }

-- how many bytes are needed where nothing was read
pub giving_begins : {V W : Type 0} {Form : V → List ℕ → Type 0} {k : ℕ} (view : V → W) → CanEnd Form k [] → CanEnd (Giving view Form) k []
giving_begins {k = k} view c = can_end_as view (λ v text form. (v, form, refl)) k (omega arith) c

-- ---- a value that passes a test

abbrev pub Only : {V : Type 0} → (V → Bool) → (V → List ℕ → Type 0) → V → List ℕ → Type 0
Only test Form v text = Form v text × (test v ≡ true)

module _ {V : Type 0} (test : V → Bool) (read : Reader V) where
  only_is : (bytes : List ℕ) (v : V) (rest : List ℕ) → read bytes ≡ Ok (v, rest) → only test read bytes ≡ cond (test v) (Ok (v, rest)) (Err (stop_at rest))
  unfolding only
  only_is bytes v rest e = rw e refl

  only_ok : (bytes : List ℕ) (v : V) (rest : List ℕ) → read bytes ≡ Ok (v, rest) → test v ≡ true → only test read bytes ≡ Ok (v, rest)
  only_ok bytes v rest e passes = only_is bytes v rest e ∙ rw passes refl

  only_stops : (bytes : List ℕ) (v : V) (rest : List ℕ) → read bytes ≡ Ok (v, rest) → test v ≡ false → only test read bytes ≡ Err (stop_at rest)
  only_stops bytes v rest e fails = only_is bytes v rest e ∙ rw fails refl

  only_err : (bytes : List ℕ) (t : Stop) → read bytes ≡ Err t → only test read bytes ≡ Err t
  unfolding only
  only_err bytes t e = rw e refl

  open_only : (text : List ℕ) → IsOpen (read text) → IsOpen (only test read text)
  unfolding only
  open_only text h = open_on (read text) (λ v rest. cond (test v) (Ok (v, rest)) (Err (stop_at rest))) h
      (λ v. cond_both (test v) (Ok (v, [])) (Err short) IsOpen (λ passes. refl) (λ fails. tt))

  -- how a tested field falls short
  pub only_short : (bytes : List ℕ) → only test read bytes ≡ Err short
      → (read bytes ≡ Err short) ⊎ ((v : V) × (read bytes ≡ Ok (v, [])) × (test v ≡ false))
  only_short bytes e = by (read bytes) refl
    where
      end_is : (rest : List ℕ) → ◌≡◌ {A = FieldRead V} (Err (stop_at rest)) (Err short) → rest ≡ []
      end_is [] h = refl
      end_is (b ∷ rest) h = absurd cc

      by : (r : FieldRead V) → read bytes ≡ r → (read bytes ≡ Err short) ⊎ ((v : V) × (read bytes ≡ Ok (v, [])) × (test v ≡ false))
      by (Ok x) is = elim (cases_Bool (test x.0)) [
        | inl passes ↦ absurd (cc (only_ok bytes x.0 x.1 is passes))
        | inr fails ↦
            let none = end_is x.1 (sym (only_stops bytes x.0 x.1 is fails) ∙ e) in
            inr (x.0, is ∙ ap (λ (z : List ℕ). Ok (x.0, z)) none, fails)
      ]
      by (Err t) is = inl (cc (only_err bytes t is))

module _ {V : Type 0} (test : V → Bool) {read : Reader V} {Form : V → List ℕ → Type 0} {may_follow : ℕ → Type 0} {k : ℕ}
    (law : Law read Form may_follow k) where
  only_takes : (bytes : List ℕ) (v : V) (rest : List ℕ) (r : FieldRead V) → read bytes ≡ r → only test read bytes ≡ Ok (v, rest)
      → Takes (only test read) (Only test Form) bytes v rest
  only_takes bytes v rest (Ok x) is e = elim (cases_Bool (test x.0)) [
    | inl passes ↦
        let t = law.takes bytes x.0 x.1 is in
        let same = ok_is x (v, rest) (sym (only_ok test read bytes x.0 x.1 is passes) ∙ e) in
        subst (λ (q : V × List ℕ). Takes (only test read) (Only test Form) bytes q.0 q.1) same (record {
          text = t.text;
          parts = t.parts;
          form = (t.form, passes);
          peeks = λ b after other eq. only_ok test read (t.text ++ b ∷ other) x.0 (b ∷ other) (t.peeks b after other eq) passes;
        })
    | inr fails ↦ absurd (cc (only_stops test read bytes x.0 x.1 is fails))
  ]
  only_takes bytes v rest (Err t) is e = absurd (cc (only_err test read bytes t is))

  -- the byte after a value that fails the test
  failed_behind : (bytes rest : List ℕ) (v : V) (end : List ℕ) → Takes read Form bytes v end → test v ≡ false
      → ◌≡◌ {A = FieldRead V} (Err (stop_at end)) (Err (refused rest)) → Refuses (only test read) bytes rest
  failed_behind bytes rest v [] t fails is = absurd cc
  failed_behind bytes rest v (b ∷ after) t fails is = record {
    text = t.text;
    bad = b;
    after = after;
    parts = t.parts;
    at = sym (refused_is {V = V} (b ∷ after) rest is);
    for_good = λ other. only_stops test read (t.text ++ b ∷ other) v (b ∷ other) (t.peeks b after other refl) fails;
    so_far =
        let alone : read t.text ≡ Ok (v, []) = ap read (sym (append-nil t.text)) ∙ reads_again law t [] (λ c more e. absurd cc) in
        rw (only_stops test read t.text v [] alone fails) tt;
  }

  only_refuses : (bytes rest : List ℕ) (r : FieldRead V) → read bytes ≡ r → only test read bytes ≡ Err (refused rest) → Refuses (only test read) bytes rest
  only_refuses bytes rest (Ok x) is e = elim (cases_Bool (test x.0)) [
    | inl passes ↦ absurd (cc (only_ok test read bytes x.0 x.1 is passes))
    | inr fails ↦ failed_behind bytes rest x.0 x.1 (law.takes bytes x.0 x.1 is) fails (sym (only_stops test read bytes x.0 x.1 is fails) ∙ e)
  ]
  only_refuses bytes rest (Err t) is e =
      let same : read bytes ≡ Err (refused rest) = cc (only_err test read bytes t is) in
      let r = law.refuses bytes rest same in
      refuses_as (only test read) r (λ other. only_err test read (r.text ++ r.bad ∷ other) (refused (r.bad ∷ other)) (r.for_good other))
      (open_only test read r.text r.so_far)

  pub only_law : (most : ℕ) → ((bytes : List ℕ) → only test read bytes ≡ Err short → CanEnd (Only test Form) most bytes)
      → Law (only test read) (Only test Form) may_follow most
  only_law most shorts = record {
    takes = λ bytes v rest e. only_takes bytes v rest (read bytes) refl e;
    again = λ v text rest (form, passes) after. only_ok test read (text ++ rest) v rest (law.again v text rest form after) passes;
    refuses = λ bytes rest e. only_refuses bytes rest (read bytes) refl e;
    shorts = shorts;
  }

-- ---- nothing

abbrev pub Done : {V : Type 0} → V → V → List ℕ → Type 0
Done v w text = (w ≡ v) × (text ≡ [])

pub done_law : {V : Type 0} (v : V) → Law (done v) (Done v) AnyByte 0
unfolding done
done_law {V} v = record {
  takes = λ bytes w rest e.
      let same = value_is v w bytes rest e in
      record { text = []; parts = rest_is v w bytes rest e; form = (sym same, refl); peeks = λ b after other h. ap (λ (z : V). Ok (z, b ∷ other)) same };
  again = λ w text rest (is, none) after. ap (λ (z : List ℕ). Ok (v, z ++ rest)) none ∙ ap (λ (z : V). Ok (z, rest)) (sym is);
  refuses = λ bytes rest e. absurd cc;
  shorts = λ bytes e. absurd cc;
}

-- ---- the end

abbrev pub Never : ℕ → Type 0
Never b = ⊥

abbrev pub IsEnd : Unit {0} → List ℕ → Type 0
IsEnd v text = (text ≡ []) ⊎ (text ≡ codes "\r")

end_nil : end_at [] ≡ Ok (tt, [])
unfolding end_at
end_nil = refl

end_cr : (b : ℕ) → b ≡ code "\r" → end_at (b ∷ []) ≡ Ok (tt, [])
unfolding end_at
end_cr b is = rw is refl

end_after : (b c : ℕ) (bytes : List ℕ) → b ≡ code "\r" → end_at (b ∷ c ∷ bytes) ≡ Err (refused (c ∷ bytes))
unfolding end_at
end_after b c bytes is = rw is refl

end_bad : (b : ℕ) (bytes : List ℕ) → b ≢ code "\r" → end_at (b ∷ bytes) ≡ Err (refused (b ∷ bytes))
unfolding end_at
end_bad b [] other = rw (ne_eqb b (code "\r") other) refl
end_bad b (c ∷ bytes) other = rw (ne_eqb b (code "\r") other) refl

-- nothing follows an end
pub end_done : (bytes : List ℕ) (v : Unit {0}) (rest : List ℕ) → end_at bytes ≡ Ok (v, rest) → rest ≡ []
end_done [] v rest e = sym (rest_is tt v [] rest (sym end_nil ∙ e))
end_done (b ∷ []) v rest e = elim (cases_eq b (code "\r")) [
  | inl is ↦ sym (rest_is tt v [] rest (sym (end_cr b is) ∙ e))
  | inr other ↦ absurd (cc (end_bad b [] other))
]
end_done (b ∷ c ∷ bytes) v rest e = elim (cases_eq b (code "\r")) [
  | inl is ↦ absurd (cc (end_after b c bytes is))
  | inr other ↦ absurd (cc (end_bad b (c ∷ bytes) other))
]

-- and the bytes before it are one
end_form : (bytes : List ℕ) (v : Unit {0}) (rest : List ℕ) → end_at bytes ≡ Ok (v, rest) → IsEnd v bytes
end_form [] v rest e = inl refl
end_form (b ∷ []) v rest e = elim (cases_eq b (code "\r")) [
  | inl is ↦ inr (ap (λ (z : ℕ). z ∷ []) is)
  | inr other ↦ absurd (cc (end_bad b [] other))
]
end_form (b ∷ c ∷ bytes) v rest e = elim (cases_eq b (code "\r")) [
  | inl is ↦ absurd (cc (end_after b c bytes is))
  | inr other ↦ absurd (cc (end_bad b (c ∷ bytes) other))
]

end_refuses : (bytes rest : List ℕ) → end_at bytes ≡ Err (refused rest) → Refuses end_at bytes rest
end_refuses [] rest e = absurd (cc end_nil)
end_refuses (b ∷ bytes) rest e = elim (cases_eq b (code "\r")) [
  | inl is ↦ behind_cr bytes e is
  | inr other ↦ record {
    text = [];
    bad = b;
    after = bytes;
    parts = refl;
    at = cc (end_bad b bytes other);
    for_good = λ more. end_bad b more other;
    so_far = rw end_nil refl;
  }
]
  where
    behind_cr : (bytes : List ℕ) → end_at (b ∷ bytes) ≡ Err (refused rest) → b ≡ code "\r" → Refuses end_at (b ∷ bytes) rest
    behind_cr [] e is = absurd (cc (end_cr b is))
    behind_cr (c ∷ bytes) e is = record {
      text = b ∷ [];
      bad = c;
      after = bytes;
      parts = refl;
      at = sym (refused_is {V = Unit {0}} (c ∷ bytes) rest (sym (end_after b c bytes is) ∙ e));
      for_good = λ more. end_after b c more is;
      so_far = rw (end_cr b is) refl;
    }

end_shorts : (bytes : List ℕ) → end_at bytes ≡ Err short → CanEnd IsEnd 0 bytes
end_shorts [] e = absurd (cc end_nil)
end_shorts (b ∷ []) e = elim (cases_eq b (code "\r")) [
  | inl is ↦ absurd (cc (end_cr b is))
  | inr other ↦ absurd (cc (end_bad b [] other))
]
end_shorts (b ∷ c ∷ bytes) e = elim (cases_eq b (code "\r")) [
  | inl is ↦ absurd (cc (end_after b c bytes is))
  | inr other ↦ absurd (cc (end_bad b (c ∷ bytes) other))
]

end_again : (v : Unit {0}) (text rest : List ℕ) → IsEnd v text → Follows Never rest → end_at (text ++ rest) ≡ Ok (v, rest)
end_again v text [] form after = elim form [
  | inl none ↦ ap (λ (z : List ℕ). end_at (z ++ [])) none ∙ end_nil
  | inr cr ↦ ap (λ (z : List ℕ). end_at (z ++ [])) cr ∙ end_cr (code "\r") refl
]
end_again v text (b ∷ rest) form after = absurd after

pub end_law : Law end_at IsEnd Never 0
end_law = record {
  takes = λ bytes v rest e.
      let none = end_done bytes v rest e in
      record {
        text = bytes;
        parts = sym (append-nil bytes) ∙ ap (λ (z : List ℕ). bytes ++ z) (sym none);
        form = end_form bytes v rest e;
        peeks = λ b after other h. absurd cc;
      };
  again = end_again;
  refuses = end_refuses;
  shorts = end_shorts;
}
