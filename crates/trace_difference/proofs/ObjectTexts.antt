-- The objects of rows and of counts, in the parts that are said.
use Rattle.std.proofs.Common.{◌≡◌, ℕ, ◌+◌, Bool, true, false, List, ◌++◌, codes, refl, sym, ap, ◌∙◌, append_assoc}
use Rattle.std.specs.Prelude.{if◌then◌else◌}
use Rattle.std.specs.Fmt.{decimal}
use Rattle.uds_exchange.specs.Meaning.{ItemValue}
use Rattle.uds_difference.specs.declared.row.Row.{Row}
use Rattle.uds_difference.specs.declared.row.Row.TheVariants.{Same, Changed, OnlyLeft, OnlyRight}
use Rattle.trace_text.specs.Json.{later_text, object_line, truth, value_text}
use Rattle.trace_text.specs.proving.Spelling.{later_then}
use Rattle.trace_text.proofs.Promises.{later_are, line_is, value_is}
use Rattle.shown_rows.specs.Rows.{left_in, right_in}
use Rattle.uds_rules.specs.Rule.{RuleValue}
use Rattle.trace_difference.specs.proving.RowFront.{row_front}
use Rattle.shown_rows.specs.Rows.{count_of}
use Rattle.trace_difference.specs.Objects.{change_word, count_members, left_out_members, left_value, right_value, row_members}

in_one : (a b c d e f g h i j k l m : List ℕ)
    → ((((((a ++ b ++ c ++ d) ++ (e ++ f ++ g ++ h ++ i)) ++ j) ++ k) ++ l) ++ m)
    ≡ a ++ (b ++ (c ++ (d ++ (e ++ (f ++ (g ++ (h ++ (i ++ (j ++ (k ++ (l ++ m)))))))))))
in_one a b c d e f g h i j k l m = simp append_assoc

pub row_is : (rules : List RuleValue) (xs ys : List ItemValue) (change_number i j : ℕ) (row : Row)
    → (((row_front change_number (change_word row) (i + left_in row) (j + right_in row) ++ value_text (left_value rules xs i row)) ++ codes ",\"right\":") ++ value_text (right_value rules ys j row)) ++ codes "}\n"
    ≡ object_line (row_members rules xs ys change_number i j row)
row_is rules xs ys change_number i j row =
    let left = left_value rules xs i row in
    let right = right_value rules ys j row in
    in_one (codes "{\"place\":") (decimal change_number) (codes ",\"change\":\"") (change_word row) (codes "\",\"left_item\":") (decimal (i + left_in row)) (codes ",\"right_item\":")
    (decimal (j + right_in row)) (codes ",\"left\":") (value_text left) (codes ",\"right\":") (value_text right) (codes "}\n")
    ∙ ap (λ l.
    codes "{\"place\":" ++ (decimal change_number ++ (codes ",\"change\":\"" ++ (change_word row ++ (codes "\",\"left_item\":" ++ (decimal (i + left_in row) ++ (codes ",\"right_item\":" ++ (decimal (j + right_in row) ++ (codes ",\"left\":" ++ l)))))))))
    (ap (λ l. value_text left ++ (codes ",\"right\":" ++ l)) (value_is right (codes "}\n")) ∙ value_is left _)
    ∙ sym (line_is (row_members rules xs ys change_number i j row))

pub front-is : (change_number i j : ℕ) (row : Row) (left right : ℕ) → left ≡ left_in row → right ≡ right_in row
    → row_front change_number (change_word row) (i + left) (j + right) ≡ row_front change_number (change_word row) (i + left_in row) (j + right_in row)
front-is change_number i j row left right a b = rw (a, b) refl

in_twelve : (a b c d e f g h i j k l : List ℕ)
    → (a ++ b ++ c ++ d ++ e ++ f ++ g ++ h ++ i ++ j ++ k ++ l) ≡ a ++ (b ++ (c ++ (d ++ (e ++ (f ++ (g ++ (h ++ (i ++ (j ++ (k ++ l))))))))))
in_twelve a b c d e f g h i j k l = simp append_assoc

word_is : (b : Bool) → (if b then codes "true" else codes "false") ≡ value_text (truth b)
word_is true = refl
word_is false = refl

-- the object of the counts, in the parts that are said
pub counts_are : (rules : List RuleValue) (shortest : Bool) (rows : List Row) (left_out right_out same removed added changed : ℕ) → same ≡ count_of Same rows
    → removed ≡ count_of OnlyLeft rows → added ≡ count_of OnlyRight rows → changed ≡ count_of Changed rows
    → codes "{\"same\":" ++ decimal same ++ codes ",\"removed\":" ++ decimal removed ++ codes ",\"added\":" ++ decimal added ++ codes ",\"changed\":" ++ decimal changed
    ++ codes ",\"shortest\":" ++ (if shortest then codes "true" else codes "false") ++ later_text (left_out_members rules left_out right_out) ++ codes "}\n"
    ≡ object_line (count_members rules shortest rows left_out right_out)
counts_are rules shortest rows left_out right_out same removed added changed a b c d =
    let out = left_out_members rules left_out right_out in
    rw (a, b, c, d, word_is shortest)
    (in_twelve (codes "{\"same\":") (decimal (count_of Same rows)) (codes ",\"removed\":") (decimal (count_of OnlyLeft rows)) (codes ",\"added\":") (decimal (count_of OnlyRight rows))
    (codes ",\"changed\":") (decimal (count_of Changed rows)) (codes ",\"shortest\":") (value_text (truth shortest)) (later_text out) (codes "}\n")
    ∙ ap (λ l.
    codes "{\"same\":" ++ (decimal (count_of Same rows) ++ (codes ",\"removed\":" ++ (decimal (count_of OnlyLeft rows) ++ (codes ",\"added\":" ++ (decimal (count_of OnlyRight rows) ++ (codes ",\"changed\":" ++ (decimal (count_of Changed rows) ++ (codes ",\"shortest\":" ++ l)))))))))
    (ap (λ l. value_text (truth shortest) ++ l) (later_are out (codes "}\n")) ∙ value_is (truth shortest) (later_then out (codes "}\n")))
    ∙ sym (line_is (count_members rules shortest rows left_out right_out)))
