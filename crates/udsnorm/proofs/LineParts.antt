-- How long the lines of faults are, and the parts of one, one after another.
use Rattle.std.proofs.Common.{◌≡◌, ◌∙◌, ◌+◌, ◌≤◌, ℕ, Bool, true, false, List, ◌++◌, length, ap, append_assoc, length-append, arith}
use Rattle.std.specs.Prelude.{codes}
use Rattle.udsnorm.specs.FaultLines.{clause}

-- ---- a line with two numbers

pub two_numbers_fit : (log a n b m c : List ℕ) → length log ≤ 7 → length n ≤ 20 → length m ≤ 10 → length a + length b + length c ≤ 168 → length (log ++ (a ++ n ++ b ++ m ++ c)) ≤ 205
two_numbers_fit log a n b m c l first second words =
    omega (
      arith,
      l,
      first,
      second,
      words,
      length-append log (a ++ n ++ b ++ m ++ c),
      length-append (a ++ n ++ b ++ m) c,
      length-append (a ++ n ++ b) m,
      length-append (a ++ n) b,
      length-append a n,
    )

-- ---- the line of a log that is not clean

-- the line of these numbers and clauses
abbrev pub unclean_text : (frames dropped ended unfinished tester unit feed : List ℕ) → List ℕ
unclean_text frames dropped ended unfinished tester unit feed =
    codes "not clean: frames " ++ (frames ++ (codes " dropped " ++ (dropped ++ (codes " ended " ++ (ended ++ (codes " unfinished " ++ (unfinished
    ++ (tester ++ (unit ++ (feed ++ codes "\n"))))))))))

-- eight parts and then others are these, each before all that follow
eight_parts : (a b c d e f g h rest : List ℕ) → (a ++ b ++ c ++ d ++ e ++ f ++ g ++ h) ++ rest ≡ a ++ (b ++ (c ++ (d ++ (e ++ (f ++ (g ++ (h ++ rest)))))))
eight_parts a b c d e f g h rest =
    append_assoc (a ++ b ++ c ++ d ++ e ++ f ++ g) h rest
    ∙ append_assoc (a ++ b ++ c ++ d ++ e ++ f) g (h ++ rest)
    ∙ append_assoc (a ++ b ++ c ++ d ++ e) f (g ++ (h ++ rest))
    ∙ append_assoc (a ++ b ++ c ++ d) e (f ++ (g ++ (h ++ rest)))
    ∙ append_assoc (a ++ b ++ c) d (e ++ (f ++ (g ++ (h ++ rest))))
    ∙ append_assoc (a ++ b) c (d ++ (e ++ (f ++ (g ++ (h ++ rest)))))
    ∙ append_assoc a b (c ++ (d ++ (e ++ (f ++ (g ++ (h ++ rest))))))

four_parts : (a b c d : List ℕ) → a ++ b ++ c ++ d ≡ a ++ (b ++ (c ++ d))
four_parts a b c d = append_assoc (a ++ b) c d ∙ append_assoc a b (c ++ d)

-- what was lost, and then what is lacking, is the line
pub are_unclean_text : (frames dropped ended unfinished tester unit feed : List ℕ)
    → (codes "not clean: frames " ++ frames ++ codes " dropped " ++ dropped ++ codes " ended " ++ ended ++ codes " unfinished " ++ unfinished) ++ (tester ++ unit ++ feed ++ codes "\n")
    ≡ unclean_text frames dropped ended unfinished tester unit feed
are_unclean_text frames dropped ended unfinished tester unit feed =
    ap (λ (rest : List ℕ). (codes "not clean: frames " ++ frames ++ codes " dropped " ++ dropped ++ codes " ended " ++ ended ++ codes " unfinished " ++ unfinished) ++ rest)
    (four_parts tester unit feed (codes "\n"))
    ∙ eight_parts (codes "not clean: frames ") frames (codes " dropped ") dropped (codes " ended ") ended (codes " unfinished ") unfinished (tester ++ (unit ++ (feed ++ codes "\n")))

pub clause_is_short : (holds : Bool) (text : List ℕ) → length (clause holds text) ≤ length text
clause_is_short true text = omega arith
clause_is_short false text = omega arith

longer : (xs ys : List ℕ) (m n : ℕ) → length xs ≤ m → length ys ≤ n → length (xs ++ ys) ≤ m + n
longer xs ys m n first second = omega (arith, length-append xs ys)

pub unclean_text_fits : (log frames dropped ended unfinished tester unit feed : List ℕ) → length log ≤ 7 → length frames ≤ 20 → length dropped ≤ 20 → length ended ≤ 20 → length unfinished ≤ 20
    → length tester ≤ 24 → length unit ≤ 22 → length feed ≤ 25 → length (log ++ unclean_text frames dropped ended unfinished tester unit feed) ≤ 205
unclean_text_fits log frames dropped ended unfinished tester unit feed l a b c d t u f =
    longer log _ 7 198 l
    (longer (codes "not clean: frames ") _ 18 180 (omega arith)
    (longer frames _ 20 160 a
    (longer (codes " dropped ") _ 9 151 (omega arith)
    (longer dropped _ 20 131 b
    (longer (codes " ended ") _ 7 124 (omega arith)
    (longer ended _ 20 104 c
    (longer (codes " unfinished ") _ 12 92 (omega arith)
    (longer unfinished _ 20 72 d
    (longer tester _ 24 48 t
    (longer unit _ 22 26 u
    (longer feed (codes "\n") 25 1 f (omega arith))))))))))))
