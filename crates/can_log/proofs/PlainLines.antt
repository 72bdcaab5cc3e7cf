-- The fields of a line of plain form are those of a line, where each has bytes of its kind alone.
use Prim.Native.Char.{code}
use Rattle.std.proofs.Common.{◌≡◌, ℕ, suc, ◌+◌, ◌≤◌, ◌++◌, true, List, ◌∷◌, get_or, take, drop, length, length-take, length-drop, append_assoc, subst, Option, Some, None, refl, sym, ap, ◌∙◌, arith, ◌-◌, inl, inr}
use Rattle.std.specs.Prelude.{codes, nat_lt, slice_index}
use Rattle.std.specs.Borrow.{Bor}
use Rattle.std.proofs.Math.Seq.{drop-cons}
use Rattle.std.proofs.lemmas.List.{append-nil, length-take-le, get_or-take, take-append-drop, take-take, drop-take}
use Rattle.std.specs.Char.{is_ascii_digit, is_ascii_hexdigit}
use Rattle.can_log.specs.declared.plain.Fields.{Fields}
use Rattle.can_log.specs.declared.frame.Id.{Id}
use Rattle.can_log.specs.declared.frame.Kind.{Kind}
use Rattle.can_log.specs.Frame.{IsFrame, IsIdentifier}
use Rattle.can_log.proofs.SpelledBytes.{bytes_len}
use Rattle.can_log.specs.Line.{spell_body, spell_line, parts_in, stamped_of, LineMeans, IsLineText, identifier_of, frame_kind_of, data_of, bytes_spelled, IsRunOf, IsIdentifierText, IsDataText, IsBody, IsLineSpelling}
use Rattle.can_log.specs.proving.Plain.{ArePlainFields, IsStamp, AreDecimals, AreFlags, seconds_of, micros_of, most_digits, flags_spelled, digits_of, body_text, body_with, ending_text, end_text, plain_text, spelling_of, IsPlainReturn}
use Rattle.can_log.proofs.EachElement.{AllByRecursion-front, AllByRecursion-back, AllByRecursion-append}
use Rattle.can_log.proofs.Spelling.{id_to}

-- three digits, of which the first is below 8
pub three_are : (digits : List ℕ) → IsRunOf is_ascii_hexdigit 0 16 digits → length digits ≡ 3 → nat_lt (slice_index digits 0) (code "8") ≡ true → IsIdentifierText digits
three_are digits run three low =
    id_to {v = digits} {text = digits} (record { is = refl; each = run.each; enough = omega arith; few = omega arith }, rw (three, low) refl)

pub eight_are : (digits : List ℕ) → IsRunOf is_ascii_hexdigit 0 16 digits → length digits ≡ 8 → IsIdentifierText digits
eight_are digits run eight = (record { each = run.each; enough = omega arith; few = omega arith }, inr eight)

-- the body, with flags or without
body_spelled : (flags : Option (Bor (List ℕ))) (digits : List ℕ) → flags_spelled flags ++ digits ≡ spell_body (body_with flags digits)
body_spelled None digits = sym (append-nil digits)
body_spelled (Some flags) digits = refl

body_is : (flags : Option (Bor (List ℕ))) (digits : List ℕ) → AreFlags flags → IsDataText (most_digits flags) digits → IsBody (body_with flags digits)
body_is None digits are text = text
body_is (Some flags) digits are text = (are, text)

-- a point among seven bytes and more, with digits before it and after it, makes a stamp
pub stamp_is : (stamp : List ℕ) (n : ℕ) → length stamp ≡ n + 7 → 1 ≤ n → n ≤ 10 → get_or stamp n 0 ≡ code "."
    → AreDecimals (take n stamp ++ drop (suc n) stamp) → IsStamp stamp
stamp_is stamp n long some few point digits =
    let first : n ≡ length stamp - 7 = omega (arith, long) in
    let second : suc n ≡ length stamp - 6 = omega (arith, long) in
    let behind : drop n stamp ≡ code "." ∷ drop (suc n) stamp =
    drop-cons stamp n 0 (omega (arith, long)) ∙ ap (λ (b : ℕ). b ∷ drop (suc n) stamp) point
    in
    record {
      shortest = omega (arith, long);
      longest = omega (arith, long);
      point = sym (take-append-drop n stamp) ∙ ap (λ (z : List ℕ). take n stamp ++ z) behind
          ∙ ap (λ (k : ℕ). take k stamp ++ (code "." ∷ drop (suc n) stamp)) first
          ∙ ap (λ (k : ℕ). take (length stamp - 7) stamp ++ (code "." ∷ drop k stamp)) second;
      decimals = subst (λ (k : ℕ). AreDecimals (take k stamp ++ drop (length stamp - 6) stamp)) first
          (subst (λ (k : ℕ). AreDecimals (take n stamp ++ drop k stamp)) second digits);
    }

-- the same, of the front of some bytes, whose digits are counted before the point and after it
pub stamp_cut : (bytes stamp : List ℕ) (n : ℕ) → stamp ≡ take (n + 7) bytes → 1 ≤ n → n ≤ 10 → n + 7 ≤ length bytes → get_or bytes n 0 ≡ code "."
    → AreDecimals (take n bytes) → AreDecimals (take 6 (drop (n + 1) bytes)) → IsStamp stamp
stamp_cut bytes stamp n is some few room point before after =
    let long : length stamp ≡ n + 7 = ap (λ (l : List ℕ). length l) is ∙ length-take-le (n + 7) bytes room in
    let there : get_or stamp n 0 ≡ code "." = ap (λ (l : List ℕ). get_or l n 0) is ∙ get_or-take (n + 7) bytes n 0 (omega arith) ∙ point in
    let front : take n stamp ≡ take n bytes = ap (take n) is ∙ take-take n (n + 7) bytes (omega arith) in
    let whole : n + 7 ≡ (n + 1) + 6 = omega arith in
    let next : suc n ≡ n + 1 = omega arith in
    let back : drop (suc n) stamp ≡ take 6 (drop (n + 1) bytes) =
    ap (λ (k : ℕ). drop k stamp) next ∙ ap (drop (n + 1)) (is ∙ ap (λ (k : ℕ). take k bytes) whole) ∙ drop-take (n + 1) 6 bytes
    in
    let digits = AllByRecursion-append (λ b. is_ascii_digit b ≡ true) (take n bytes) (take 6 (drop (n + 1) bytes)) before after in
    stamp_is stamp n long some few there (subst AreDecimals (sym (λ i. front i ++ back i)) digits)

-- a text with a carriage return or without
text_returned : (text returned : List ℕ) → IsPlainReturn returned → IsLineText text (text ++ returned)
text_returned text returned (inl none) = inl (ap (λ (z : List ℕ). text ++ z) none ∙ append-nil text)
text_returned text returned (inr cr) = inr (ap (λ (z : List ℕ). text ++ z) cr)

-- the bytes of the line are its parts as they are spelled, and a carriage return or nothing
text_is_spelled : (fields : Fields) → IsStamp fields.stamp.now → plain_text fields ≡ spell_line (spelling_of fields) ++ fields.ending.carriage_return.now
unfolding body_text end_text
text_is_spelled fields stamp =
    let rest = λ (z : List ℕ). codes ") " ++ (fields.interface.now ++ (codes " " ++ (fields.identifier.now ++ (codes "#" ++ (z ++ ending_text fields.ending))))) in
    let body = body_spelled fields.body.flags (digits_of fields.body) in
    let spelled = spell_body (body_with fields.body.flags (digits_of fields.body)) in
    ap (λ (z : List ℕ). codes "(" ++ (fields.stamp.now ++ rest z)) body
    ∙ ap (λ (z : List ℕ). codes "(" ++ (z ++ rest spelled)) stamp.point
    ∙ simp append_assoc

-- the fields of plain form are those of a line
plain_is_line : (fields : Fields) → ArePlainFields fields → IsLineSpelling (spelling_of fields)
plain_is_line fields legal =
    let stamp = fields.stamp.now in
    let digits = legal.stamp.decimals in
    let decimal : ℕ → Type 0 = λ b. is_ascii_digit b ≡ true in
    record {
      seconds = record { each = AllByRecursion-front decimal (seconds_of stamp) (micros_of stamp) digits; enough = omega (arith, legal.stamp.shortest, length-take (length stamp - 7) stamp); few = omega (arith, legal.stamp.longest, length-take (length stamp - 7) stamp) };
      micros = record { each = AllByRecursion-back decimal (seconds_of stamp) (micros_of stamp) digits; enough = omega (arith, legal.stamp.shortest, length-drop (length stamp - 6) stamp); few = omega (arith, legal.stamp.shortest, length-drop (length stamp - 6) stamp) };
      gap = record { each = (refl, tt); enough = omega arith; few = omega arith };
      interface = legal.interface;
      second_gap = record { each = (refl, tt); enough = omega arith; few = omega arith };
      identifier = legal.identifier;
      body = body_is fields.body.flags (digits_of fields.body) legal.body.flags legal.body.digits;
      mark = legal.ending.mark;
    }

-- what a line of plain form records
pub plain_means : (fields : Fields) → ArePlainFields fields → LineMeans (plain_text fields) (Some (stamped_of (parts_in (spelling_of fields))))
plain_means fields legal =
    let text = spell_line (spelling_of fields) in
    let returned = text_returned text fields.ending.carriage_return.now legal.ending.returned in
    (spelling_of fields, plain_is_line fields legal, subst (IsLineText text) (sym (text_is_spelled fields legal.stamp)) returned, refl)

-- ---- the frame

identifier_is : (digits : List ℕ) → IsIdentifierText digits → IsIdentifier (identifier_of digits)
identifier_is digits (run, inl three) = rw three.0 three.1
identifier_is digits (run, inr eight) = rw eight tt

pub plain_frame : (flags : Option (Bor (List ℕ))) (identifier digits bytes : List ℕ) (id : Id) (kind : Kind) → IsIdentifierText identifier
    → IsDataText (most_digits flags) digits → id ≡ identifier_of identifier → kind ≡ frame_kind_of (body_with flags digits) → bytes ≡ bytes_spelled digits
    → IsFrame id kind bytes
plain_frame None identifier digits bytes id kind text data_text is_id is_kind spelled = record {
  identifier = rw is_id (identifier_is identifier text);
  data_length = rw (is_kind, spelled) (omega (arith, bytes_len digits data_text.1, data_text.0.few));
}
plain_frame (Some flags) identifier digits bytes id kind text data_text is_id is_kind spelled = record {
  identifier = rw is_id (identifier_is identifier text);
  data_length = rw (is_kind, spelled) (omega (arith, bytes_len digits data_text.1, data_text.0.few));
}

-- its data is what the digits spell, with flags or without
pub plain_bytes : (flags : Option (Bor (List ℕ))) (digits : List ℕ) → bytes_spelled digits ≡ data_of (body_with flags digits)
plain_bytes None digits = refl
plain_bytes (Some flags) digits = refl

-- a line of plain form has no more digits of data than any may have
pub plain_data : (flags : Option (Bor (List ℕ))) (digits : List ℕ) → IsDataText (most_digits flags) digits → IsDataText 128 digits
plain_data None digits text = (record { each = text.0.each; enough = text.0.enough; few = omega (arith, text.0.few) }, text.1)
plain_data (Some flags) digits text = text
