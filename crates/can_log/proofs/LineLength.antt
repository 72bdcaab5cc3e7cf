-- How long a line is, and what that says of the bytes so far.
use Rattle.std.proofs.Common.{◌≡◌, ℕ, ◌+◌, ◌-◌, ◌≤◌, sym, ap, subst, ◌∙◌, arith, inl, inr}
use Rattle.std.proofs.Common.{List, ◌∷◌, ◌++◌, length, take, drop, append_assoc, length-append, Option, Some, None}
use Rattle.std.specs.Prelude.{codes}
use Rattle.std.proofs.lemmas.List.{length-take, take-append-drop, take_all}
use Rattle.std.proofs.lemmas.Bool.{cases_lt}
use Rattle.can_log.specs.declared.judgement.Judgement.{Judgement}
use Rattle.can_log.specs.declared.judgement.Judgement.TheVariants as judgement
use Rattle.can_log.specs.Line.{Body, classic, remote, fd, LineSpelling, spell_body, spell_mark, spell_line, IsBody, IsMark, IsLineSpelling, LineMeans}
use Rattle.can_log.specs.declared.frame.Stamped.{Stamped}
use Rattle.can_log.specs.Refused.{HasCompletion}
use Rattle.can_log.specs.proving.Judging.{Judged, IsRefusedAt, IsRefusedFrom}
use Rattle.can_log.proofs.Lists.{parts_more}

body_length : (b : Body) → IsBody b → length (spell_body b) ≤ 130
body_length (classic ds None) h = simp length-append (omega (arith, h.0.few))
body_length (classic ds (Some d)) h = simp length-append (omega (arith, h.0.0.few, h.2.few))
body_length (remote d None) h = simp length-append (omega (arith, h.few))
body_length (remote d (Some e)) h = simp length-append (omega (arith, ap (λ (z : List ℕ). length z) h.0, h.1.few))
body_length (fd flag ds) h = simp length-append (omega (arith, h.0.few, h.1.0.few))

mark_length : (m : Option (List ℕ × List ℕ)) → IsMark m → length (spell_mark m) ≤ 17
mark_length None h = omega arith
mark_length (Some m) h = simp length-append (omega (arith, h.0.few, h.1.few))

spelling_length : (l : LineSpelling) → IsLineSpelling l → length (spell_line l) ≤ 222
spelling_length l is =
    let b = body_length l.body is.body in
    let m = mark_length l.mark is.mark in
    simp length-append (omega (arith, b, m, is.seconds.few, is.micros.few, is.gap.few, is.interface.few, is.second_gap.few, is.identifier.0.few))

-- A line has at most 223 bytes.
pub means_length : (bytes : List ℕ) (s : Option Stamped) → LineMeans bytes s → length bytes ≤ 223
means_length bytes None (inl e) = omega (arith, ap (λ (z : List ℕ). length z) e)
means_length bytes None (inr e) = omega (arith, ap (λ (z : List ℕ). length z) e)
means_length bytes (Some s) (l, is, inl e, eq) = omega (arith, ap (λ (z : List ℕ). length z) e, spelling_length l is)
means_length bytes (Some s) (l, is, inr e, eq) = omega (arith, ap (λ (z : List ℕ). length z) e, spelling_length l is, length-append (spell_line l) (codes "\r"))

pub becomes_length : (bytes : List ℕ) → HasCompletion bytes → length bytes ≤ 223
becomes_length bytes (more, s, few, m) = omega (arith, means_length (bytes ++ more) s m, length-append bytes more)

-- the column of a refused byte, by how many bytes are left
pub column_of_rest : (bytes rest : List ℕ) → IsRefusedFrom bytes rest
    → (length bytes - length rest + 1 ≤ 224) × IsRefusedAt bytes (length bytes - length rest + 1)
column_of_rest bytes rest r =
    let whole : length bytes ≡ length r.text + (length r.after + 1) = omega (arith, ap (λ (z : List ℕ). length z) r.parts, length-append r.text (r.bad ∷ r.after)) in
    let left : length rest ≡ length r.after + 1 = omega (arith, ap (λ (z : List ℕ). length z) r.at) in
    let at : length bytes - length rest + 1 ≡ length r.text + 1 = omega (arith, whole, left) in (
      omega (arith, at, becomes_length r.text r.legal),
      record { text = r.text; bad = r.bad; after = r.after; parts = r.parts; at = at; legal = r.legal; hopeless = r.hopeless },
    )

-- a judgement on 224 bytes is one on all
joined_judged : (line bytes : List ℕ) (n : ℕ) (v : Judgement) → length line + n ≡ 224 → n ≤ length bytes → Judged (line ++ take n bytes) v → Judged (line ++ bytes) v
joined_judged line bytes n v size long h = by v h
  where
    len : length (line ++ take n bytes) ≡ 224
    len = omega (arith, length-append line (take n bytes), length-take n bytes)

    by : (v : Judgement) → Judged (line ++ take n bytes) v → Judged (line ++ bytes) v
    by (judgement.Means what) h = absurd (omega (arith, len, means_length (line ++ take n bytes) _ h))
    by judgement.Short h = absurd (omega (arith, len, becomes_length (line ++ take n bytes) h.0))
    by (judgement.Refused column) r = record {
      text = r.text;
      bad = r.bad;
      after = r.after ++ drop n bytes;
      parts =
          ap (λ (z : List ℕ). line ++ z) (sym (take-append-drop n bytes)) ∙ sym (append_assoc line (take n bytes) (drop n bytes))
          ∙ parts_more r.text (r.bad ∷ r.after) r.parts (drop n bytes);
      at = r.at;
      legal = r.legal;
      hopeless = r.hopeless;
    }

pub joined_any : (line bytes : List ℕ) (n : ℕ) (v : Judgement) → length line + n ≡ 224 → Judged (line ++ take n bytes) v → Judged (line ++ bytes) v
joined_any line bytes n v size h = elim (cases_lt n (length bytes)) [
  | inl lt ↦ joined_judged line bytes n v size (omega arith) h
  | inr le ↦ subst (λ (z : List ℕ). Judged (line ++ z) v) (take_all n bytes le) h
]
