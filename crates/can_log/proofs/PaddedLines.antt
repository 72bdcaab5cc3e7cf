-- A line that is copied to where line feeds follow.
use Prim.Native.Char.{code}
use Rattle.std.proofs.Common.{◌≡◌, ℕ, Bool, suc, ◌+◌, ◌-◌, ◌≤◌, List, ◌++◌, length, drop, append_assoc, length-append, ap, refl, sym, subst, Option, Some, None, ◌∙◌, arith}
use Rattle.std.specs.Prelude.{codes, IfSome, IsTrue}
use Rattle.std.specs.Borrow.{Bor}
use Rattle.std.specs.Option.{is_some}
use Rattle.std.proofs.lemmas.List.{drop-replicate}
use Rattle.std.proofs.Math.Seq.{take-append_seam, drop-append_seam}
use borrow.Rule.Slice.PartMut.{put_mid}
use Rattle.can_log.specs.declared.plain.Fields.{Fields}
use Rattle.can_log.specs.Line.{LineMeans, parts_in, stamped_of}
use Rattle.can_log.specs.Refused.{NoLineFeed, HasCompletion}
use Rattle.can_log.specs.proving.Plain.{ArePlainFields, plain_text, spelling_of}
use Rattle.can_log.specs.proving.Padded.{line_feeds}
use Rattle.can_log.proofs.LineFeeds.{clean_append, line_clean, same_line}
use Rattle.can_log.proofs.PlainLines.{plain_means}

-- what is put where the line feeds begin
pub put_behind : (front part before copied : List ℕ) (n room : ℕ) → length front ≡ n → before ≡ front ++ line_feeds room → copied ≡ part
    → put_mid n (n + length part - n) before copied ≡ (front ++ part) ++ line_feeds (room - length part)
put_behind front part before copied n room long is put =
    let k = length front + length part - length front in
    let feeds = line_feeds room in
    let same : k ≡ length part = omega arith in
    rw (← long, is, put) (ap (λ (z : List ℕ). z ++ (part ++ drop k (drop (length front) (front ++ feeds)))) (take-append_seam front feeds)
    ∙ ap (λ (z : List ℕ). front ++ (part ++ drop k z)) (drop-append_seam front feeds)
    ∙ ap (λ (z : List ℕ). front ++ (part ++ z)) (drop-replicate k room (code "\n") ∙ ap (λ (m : ℕ). line_feeds (room - m)) same)
    ∙ sym (append_assoc front part _))

-- what is put there in two parts
pub put_both : (line bytes first second : List ℕ) (room : ℕ) → first ≡ line → second ≡ bytes
    → put_mid (length line) (length line + length bytes - length line) (first ++ drop (length line) (line_feeds room)) second
    ≡ (line ++ bytes) ++ line_feeds (room - (length line + length bytes))
put_both line bytes first second room one two =
    let n = length line in
    let left : room - n - length bytes ≡ room - (n + length bytes) = omega arith in
    let before : first ++ drop n (line_feeds room) ≡ line ++ line_feeds (room - n) = rw one (ap (λ (z : List ℕ). line ++ z) (drop-replicate n room (code "\n"))) in
    put_behind line bytes _ second n (room - n) refl before two ∙ ap (λ (m : ℕ). (line ++ bytes) ++ line_feeds m) left

-- what the line means whose fields are found there
pub padded_means : (line rest : List ℕ) (room : ℕ) (fields : Fields) → NoLineFeed line → 1 ≤ room
    → line ++ line_feeds room ≡ plain_text fields ++ (codes "\n" ++ rest) → ArePlainFields fields
    → LineMeans line (Some (stamped_of (parts_in (spelling_of fields))))
padded_means line rest room fields clean some found legal =
    let front = plain_text fields in
    let what = Some (stamped_of (parts_in (spelling_of fields))) in
    let told : LineMeans front what = plain_means fields legal in
    let left : room ≡ suc (room - 1) = omega arith in
    let is = sym (ap (λ (m : ℕ). line ++ line_feeds m) left) ∙ found in
    let same = (same_line line (line_feeds (room - 1)) front rest clean (line_clean front what told) is).0 in
    subst (λ (z : List ℕ). LineMeans z what) (sym same) told

-- A line that is cut is completed by what was put behind it, where the fields of a line are found then.
pub padded_completes : (line bytes completion before copied : List ℕ) (found : Option (Fields × Bor (List ℕ))) (is_found : Bool) → NoLineFeed (line ++ bytes)
    → NoLineFeed completion → length completion ≤ 16 → length line + length bytes + length completion ≤ 178
    → before ≡ (line ++ bytes) ++ line_feeds (195 - (length line + length bytes)) → copied ≡ completion
    → IfSome found (λ x. put_mid (length line + length bytes) (length line + length bytes + length completion - (length line + length bytes)) before copied
    ≡ plain_text x.0 ++ (codes "\n" ++ x.1.now)) → IfSome found (λ x. ArePlainFields x.0) → is_found ≡ is_some found → IsTrue is_found
    → HasCompletion (line ++ bytes)
padded_completes line bytes completion before copied None is_found clean clean2 few short is put at legal tells seen = absurd cc
padded_completes line bytes completion before copied (Some x) is_found clean clean2 few short is put at legal tells seen =
    let front = line ++ bytes in
    let n = length line + length bytes in
    let room = 195 - n - length completion in
    let lies = put_behind front completion before copied n (195 - n) (length-append line bytes) is put in
    let whole = clean_append front completion clean clean2 in
    let means = padded_means (front ++ completion) x.1.now room x.0 whole (omega arith) (sym lies ∙ at) legal in
    (completion, Some (stamped_of (parts_in (spelling_of x.0))), few, means)
