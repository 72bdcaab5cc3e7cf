-- Line feeds: a line has none, and the first one of some bytes ends their first line.
use Prim.Native.Char.{code}
use Rattle.std.proofs.Common.{◌≡◌, ◌≢◌, ℕ, suc, ◌<◌, Bool, true, false, refl, sym, ap, subst, ◌∙◌, arith, inl, inr, ◌⊎◌}
use Rattle.std.proofs.Common.{List, [], ◌∷◌, ◌++◌, length, get_or, take, drop, Option, Some, None}
use Rattle.std.specs.Prelude.{◌==◌, IsTrue, codes}
use Rattle.std.proofs.Math.Seq.{drop-cons}
use Rattle.std.proofs.lemmas.Bool.{both_ways, cases_eq, eqb-true, eqb-false, eq-eqb}
use Rattle.std.proofs.lemmas.List.{get_or-take, length-take, take-append-drop}
use Rattle.std.proofs.lemmas.List.Elements.{All-from_get_or, recursion_from_All}
use Rattle.can_log.specs.declared.frame.Stamped.{Stamped}
use Rattle.can_log.specs.Line.{Body, classic, remote, fd, LineSpelling, spell_body, spell_mark, spell_line}
use Rattle.can_log.specs.Line.{IsRunOf, IsBody, IsMark, IsLineSpelling, IsLineText, LineMeans}
use Rattle.can_log.specs.Refused.{NoLineFeed}
use Rattle.can_log.specs.Laws.{CompletableHasNoLineFeed}
use Rattle.can_log.specs.LogLaws.{LinesHaveNoLineFeed}
use Rattle.can_log.proofs.EachElement.{AllByRecursion-append, AllByRecursion-front, AllByRecursion-back, AllByRecursion-weaker}
use Rattle.can_log.proofs.Cuts.{two_cuts}

pub clean_append : (a b : List ℕ) → NoLineFeed a → NoLineFeed b → NoLineFeed (a ++ b)
clean_append = AllByRecursion-append (λ b. b ≢ code "\n")

clean_front : (a b : List ℕ) → NoLineFeed (a ++ b) → NoLineFeed a
clean_front = AllByRecursion-front (λ b. b ≢ code "\n")

pub clean_at : (a : List ℕ) (x : ℕ) (b : List ℕ) → NoLineFeed (a ++ x ∷ b) → x ≢ code "\n"
clean_at a x b h = (AllByRecursion-back (λ b. b ≢ code "\n") a (x ∷ b) h).0

-- ---- the first one of some bytes

-- no place has one
pub clean_all : (bytes : List ℕ) → ((k : ℕ) → k < length bytes → (get_or bytes k 0 == code "\n") ≡ true → ⊥) → NoLineFeed bytes
clean_all bytes h = recursion_from_All (λ b. b ≢ code "\n") bytes (All-from_get_or (λ b. b ≢ code "\n") bytes 0 (λ k lt e. h k lt (eq-eqb (get_or bytes k 0) (code "\n") e)))

-- no place before the n-th has one
pub clean_before : (n : ℕ) (bytes : List ℕ) → ((k : ℕ) → k < n → (get_or bytes k 0 == code "\n") ≡ true → ⊥) → NoLineFeed (take n bytes)
clean_before n bytes h = clean_all (take n bytes) (λ k lt e.
    let below : k < n = omega (arith, length-take n bytes) in h k below (ap (λ (z : ℕ). z == code "\n") (sym (get_or-take n bytes k 0 below)) ∙ e))

pub at_feed : (bytes : List ℕ) (n : ℕ) → n < length bytes → (get_or bytes n 0 == code "\n") ≡ true → bytes ≡ take n bytes ++ code "\n" ∷ drop (suc n) bytes
at_feed bytes n lt h =
    let from : drop n bytes ≡ code "\n" ∷ drop (suc n) bytes =
    drop-cons bytes n 0 lt ∙ ap (λ (z : ℕ). z ∷ drop (suc n) bytes) (eqb-true (get_or bytes n 0) (code "\n") h)
    in
    sym (take-append-drop n bytes) ∙ ap (λ (z : List ℕ). take n bytes ++ z) from

-- the bytes up to the first line feed, if there is one
abbrev pub FirstLine : List ℕ → Type 0
FirstLine bytes = ((line : List ℕ) × (more : List ℕ) × (bytes ≡ line ++ code "\n" ∷ more) × NoLineFeed line) ⊎ NoLineFeed bytes

pub first_line : (bytes : List ℕ) → FirstLine bytes
first_line [] = inr tt
first_line (b ∷ bytes) = elim (cases_eq b (code "\n")) [
  | inl feed ↦ inl ([], bytes, ap (λ (z : ℕ). z ∷ bytes) feed, tt)
  | inr other ↦ elim (first_line bytes) [
    | inl (line, more, e, clean) ↦ inl (b ∷ line, more, ap (λ (z : List ℕ). b ∷ z) e, (other, clean))
    | inr clean ↦ inr (other, clean)
  ]
]

-- two lines that are ended at the same place are one
pub same_line : (a p b q : List ℕ) → NoLineFeed a → NoLineFeed b → a ++ code "\n" ∷ p ≡ b ++ code "\n" ∷ q → (a ≡ b) × (p ≡ q)
same_line a p b q clean clean2 e = elim (two_cuts a (code "\n") p b (code "\n") q e) [
  | inl (same, feed, rest) ↦ (same, rest)
  | inr (inl (z, h)) ↦ absurd (clean_at a (code "\n") z (subst NoLineFeed h clean2) refl)
  | inr (inr (z, h)) ↦ absurd (clean_at b (code "\n") z (subst NoLineFeed h clean) refl)
]

-- ---- a line has none

run_clean : {test : ℕ → Bool} {least most : ℕ} {bytes : List ℕ} → test (code "\n") ≡ false → IsRunOf test least most bytes → NoLineFeed bytes
run_clean {test} {bytes = bytes} h run =
    AllByRecursion-weaker (λ b. IsTrue (test b)) (λ b. b ≢ code "\n") (λ b passed is. both_ways (test b) (ap test is ∙ h) passed) bytes run.each

one_clean : (b : ℕ) (bytes : List ℕ) → (b == code "\n") ≡ false → NoLineFeed bytes → NoLineFeed (b ∷ bytes)
one_clean b bytes h k = (eqb-false b (code "\n") h, k)

-- a raw length code after its underscore
raw_clean : {test : ℕ → Bool} {raw_dlc : List ℕ} → test (code "\n") ≡ false → IsRunOf test 1 1 raw_dlc → NoLineFeed (code "_" ∷ raw_dlc)
raw_clean {raw_dlc = raw_dlc} h run = one_clean (code "_") raw_dlc refl (run_clean h run)

body_clean : (body : Body) → IsBody body → NoLineFeed (spell_body body)
body_clean (classic digits None) h = clean_append digits [] (run_clean refl h.0) tt
body_clean (classic digits (Some raw_dlc)) h = clean_append digits (code "_" ∷ raw_dlc) (run_clean refl h.0.0) (raw_clean refl h.2)
body_clean (remote digit None) h = one_clean (code "R") (digit ++ []) refl (clean_append digit [] (run_clean refl h) tt)
body_clean (remote digit (Some raw_dlc)) h =
    let eight : NoLineFeed digit = subst NoLineFeed (sym h.0) (one_clean (code "8") [] refl tt) in
    one_clean (code "R") (digit ++ code "_" ∷ raw_dlc) refl (clean_append digit (code "_" ∷ raw_dlc) eight (raw_clean refl h.1))
body_clean (fd flags digits) h = one_clean (code "#") (flags ++ digits) refl (clean_append flags digits (run_clean refl h.0) (run_clean refl h.1.0))

mark_clean : (mark : Option (List ℕ × List ℕ)) → IsMark mark → NoLineFeed (spell_mark mark)
mark_clean None h = tt
mark_clean (Some mark) h = clean_append mark.0 mark.1 (run_clean refl h.0) (run_clean refl h.1)

spelling_clean : (line : LineSpelling) → IsLineSpelling line → NoLineFeed (spell_line line)
spelling_clean line is =
    let end = clean_append (spell_body line.body) (spell_mark line.mark) (body_clean line.body is.body) (mark_clean line.mark is.mark) in
    let identifier = clean_append line.identifier _ (run_clean refl is.identifier.0) (one_clean (code "#") _ refl end) in
    let interface = clean_append line.interface _ (run_clean refl is.interface) (clean_append line.second_gap _ (run_clean refl is.second_gap) identifier) in
    let place = clean_append line.gap _ (run_clean refl is.gap) interface in
    let micros = clean_append line.micros _ (run_clean refl is.micros) (one_clean (code ")") _ refl place) in
    one_clean (code "(") _ refl (clean_append line.seconds _ (run_clean refl is.seconds) (one_clean (code ".") _ refl micros))

text_clean : (text bytes : List ℕ) → NoLineFeed text → IsLineText text bytes → NoLineFeed bytes
text_clean text bytes h (inl e) = subst NoLineFeed (sym e) h
text_clean text bytes h (inr e) = subst NoLineFeed (sym e) (clean_append text (codes "\r") h (one_clean (code "\r") [] refl tt))

-- A line that means something holds no line feed.
pub line_clean : (bytes : List ℕ) (what : Option Stamped) → LineMeans bytes what → NoLineFeed bytes
line_clean bytes None text = text_clean [] bytes tt text
line_clean bytes (Some stamped) (line, is, text, e) = text_clean (spell_line line) bytes (spelling_clean line is) text

pub lines_clean : LinesHaveNoLineFeed
lines_clean [] meanings means = tt
lines_clean (line ∷ lines) [] means = absurd means
lines_clean (line ∷ lines) (what ∷ meanings) means = (line_clean line what means.0, lines_clean lines meanings means.1)

pub completion_clean : CompletableHasNoLineFeed
completion_clean bytes (more, what, few, means) = clean_front bytes more (line_clean (bytes ++ more) what means)
