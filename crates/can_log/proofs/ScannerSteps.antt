-- What a scanner answers on a piece, and at the end, and how it stands then.
use Prim.Native.Char.{code}
use Rattle.std.proofs.Common.{◌≡◌, ℕ, suc, ◌+◌, ◌-◌, ◌<◌, Bool, true, false, sym, ap, subst, ◌∙◌, refl, arith, length-append}
use Rattle.std.proofs.Common.{List, [], ◌∷◌, ◌++◌, length, get_or, take, drop, append_assoc, Option, Some, None}
use Rattle.std.specs.Prelude.{◌==◌, option_map, is_some, codes}
use Rattle.std.proofs.lemmas.List.{length-take-le}
use Rattle.can_log.specs.declared.frame.Stamped.{Stamped}
use Rattle.can_log.specs.declared.scanner.Scan.{Scan}
use Rattle.can_log.specs.declared.scanner.Scan.TheVariants as scan
use Rattle.can_log.specs.declared.judgement.Judgement.{Judgement}
use Rattle.can_log.specs.declared.judgement.Judgement.TheVariants as judgement
use Rattle.can_log.specs.declared.plain.Fields.{Fields}
use Rattle.can_log.specs.Wanted.{WantedValue, IsForeign}
use Rattle.can_log.specs.Line.{LineMeans, IsNoLine, identifier_of, stamped_of, parts_in}
use Rattle.can_log.specs.proving.Plain.{ArePlainFields, spelling_of, plain_text}
use Rattle.can_log.specs.proving.Taking.{TakesPlain}
use Rattle.can_log.specs.Refused.{NoLineFeed, HasCompletion, IsRefusedPlace, IsUnfinishedAt}
use Rattle.can_log.specs.Scanning.{Place, Standing, Scans, ScansFrom, ScansForeign, Finishes, FinishesFrom}
use Rattle.can_log.specs.proving.Judging.{Judged}
use Rattle.can_log.proofs.LineFeeds.{at_feed, line_clean}
use Rattle.can_log.proofs.PlainLines.{plain_means}
use Rattle.can_log.proofs.RefusedPlaces.{place_extends, not_refused}

abbrev stand : ℕ → List ℕ → ℕ → Option Place → Standing
stand lines line taken refused = record { lines = lines; line = line; taken = taken; refused = refused }

abbrev place : ℕ → ℕ → Place
place line column = record { line = line; column = column }

-- the code's refused place, where there is none
pub none_seen : {P : Type 0} (see : P → Place) (o : Option P) → o ≡ None → option_map see o ≡ None
none_seen see o e = ap (option_map see) e

-- an option that was found to have no value
pub none_of : {P : Type 0} (o : Option P) (some : Bool) → some ≡ is_some o → some ≡ false → o ≡ None
none_of None some e without = refl
none_of (Some p) some e without = absurd (cc)

-- ---- on a piece

pub scan_means : (lines taken : ℕ) (line line2 : List ℕ) (refused : Option Place) (piece front after : List ℕ) (used : ℕ) (what : Option Stamped)
    → refused ≡ None → line2 ≡ [] → piece ≡ front ++ (codes "\n" ++ after) → used ≡ length front + 1 → NoLineFeed front → LineMeans (line ++ front) what
    → Scans (stand lines line taken refused) piece (scan.Line used (lines + 1) what) (stand (lines + 1) line2 (taken + used) refused)
scan_means lines taken line line2 refused piece front after used what e none parts long clean means =
    let stands = ap (λ (z : List ℕ). stand (lines + 1) z (taken + used) None) none in
    subst (λ (r : Option Place). Scans (stand lines line taken r) piece (scan.Line used (lines + 1) what) (stand (lines + 1) line2 (taken + used) r)) (sym e)
    (front, after, parts, clean, long, refl, means, stands)

-- the same, of a line of plain form
pub plain_taken : (lines taken : ℕ) (line : List ℕ) (refused : Option Place) (piece rest : List ℕ) (fields : Fields)
    → refused ≡ None → line ≡ [] → piece ≡ plain_text fields ++ (codes "\n" ++ rest) → ArePlainFields fields
    → TakesPlain (stand lines line taken refused) piece fields (length piece - length rest) (stand (lines + 1) line (taken + (length piece - length rest)) refused)
plain_taken lines taken line refused piece rest fields e none parts legal =
    let front = plain_text fields in
    let what = Some (stamped_of (parts_in (spelling_of fields))) in
    let told : LineMeans front what = plain_means fields legal in
    let means : LineMeans (line ++ front) what = subst (λ (z : List ℕ). LineMeans (z ++ front) what) (sym none) told in
    let whole = ap (λ (z : List ℕ). length z) parts ∙ length-append front (codes "\n" ++ rest) in
    let used : length piece - length rest ≡ length front + 1 = omega (arith, whole) in
    record {
      legal = legal;
      counted = refl;
      scans = scan_means lines taken line line refused piece front rest (length piece - length rest) what e none parts used (line_clean front what told) means;
    }

-- its frame is of no wanted identifier
pub taken_foreign : {wanted : WantedValue} {old new : Standing} {piece : List ℕ} {fields : Fields} {used : ℕ} → TakesPlain old piece fields used new
    → IsForeign wanted (identifier_of fields.identifier.now) → ScansForeign wanted old piece used new
taken_foreign {fields = fields} takes foreign = record {
  stamped = stamped_of (parts_in (spelling_of fields));
  foreign = foreign;
  scans = takes.scans;
}

-- it is answered
pub taken_answered : {old new : Standing} {piece : List ℕ} {fields : Fields} {used : ℕ} (answer : Scan) → TakesPlain old piece fields used new
    → answer ≡ scan.Line used new.lines (Some (stamped_of (parts_in (spelling_of fields)))) → Scans old piece answer new
taken_answered {old = old} {new = new} {piece = piece} {fields = fields} {used = used} answer takes is =
    let what = Some (stamped_of (parts_in (spelling_of fields))) in
    subst (λ (a : Scan). Scans old piece a new) (sym (is ∙ ap (λ (n : ℕ). scan.Line used n what) takes.counted)) takes.scans

-- the same, of the first line feed at a place
pub scan_means_at : (old new : Standing) (piece : List ℕ) (at : ℕ) (what : Option Stamped) → old.refused ≡ None → at < length piece
    → (get_or piece at 0 == code "\n") ≡ true → NoLineFeed (take at piece) → LineMeans (old.line ++ take at piece) what
    → new ≡ record old { lines = old.lines + 1; line = []; taken = old.taken + (at + 1) } → Scans old piece (scan.Line (at + 1) new.lines what) new
scan_means_at old new piece at what none lt feed clean means is =
    let long = ap (λ (k : ℕ). k + 1) (sym (length-take-le at piece (omega arith))) in
    subst (λ (s : Standing). Scans old piece (scan.Line (at + 1) s.lines what) s) (sym is)
    (scan_means old.lines old.taken old.line [] old.refused piece (take at piece) (drop (suc at) piece) (at + 1) what none refl (at_feed piece at lt feed) long clean means)

pub scan_goes_on : (old new : Standing) (piece : List ℕ) → old.refused ≡ None → NoLineFeed piece → HasCompletion (old.line ++ piece)
    → new ≡ record old { line = old.line ++ piece; taken = old.taken + length piece } → Scans old piece scan.NeedMore new
scan_goes_on old new piece none clean legal is =
    subst (λ (r : Option Place). ScansFrom r old piece scan.NeedMore new) (sym none) (clean, legal, is)

pub scan_refuses : (old new : Standing) (piece : List ℕ) (answer : Scan) (column : ℕ) → old.refused ≡ None → answer ≡ scan.Bad (old.lines + 1) column
    → new ≡ record old { refused = Some (place (old.lines + 1) column) } → IsRefusedPlace (old.line ++ piece) column → Scans old piece answer new
scan_refuses old new piece answer column e is stands r =
    subst (λ (a : Scan). Scans old piece a new) (sym is)
    (subst (λ (r : Option Place). ScansFrom r old piece (scan.Bad (old.lines + 1) column) new) (sym e) (refl, r, stands))

-- the refused place, at the first line feed of a piece
pub place_in : (line piece : List ℕ) (at column : ℕ) → at < length piece → (get_or piece at 0 == code "\n") ≡ true
    → IsRefusedPlace ((line ++ take at piece) ++ codes "\n") column → IsRefusedPlace (line ++ piece) column
place_in line piece at column lt feed r =
    let front = line ++ take at piece in
    let behind = drop (suc at) piece in
    let whole : (front ++ codes "\n") ++ behind ≡ line ++ piece =
    append_assoc front (codes "\n") behind ∙ append_assoc line (take at piece) (code "\n" ∷ behind) ∙ ap (λ (z : List ℕ). line ++ z) (sym (at_feed piece at lt feed))
    in
    subst (λ (z : List ℕ). IsRefusedPlace z column) whole (place_extends (front ++ codes "\n") behind column r)

-- ---- at the end

pub finish_refuses : (old new : Standing) (answer : Scan) (column : ℕ) → old.refused ≡ None → answer ≡ scan.Bad (old.lines + 1) column
    → new ≡ record old { refused = Some (place (old.lines + 1) column) } → 0 < length old.line → IsUnfinishedAt old.line column → Finishes old answer new
finish_refuses old new answer column e is stands some at =
    subst (λ (a : Scan). Finishes old a new) (sym is)
    (subst (λ (r : Option Place). FinishesFrom r old (scan.Bad (old.lines + 1) column) new) (sym e) (some, refl, at, stands))

pub not_meant : (line : List ℕ) (v : Judgement) → Judged line v → ((w : Option Stamped) → v ≡ judgement.Means w → ⊥) → HasCompletion line → IsNoLine line
not_meant line (judgement.Means w) j h legal = absurd (h w refl)
not_meant line judgement.Short j h legal = j.1
not_meant line (judgement.Refused column) j h legal = absurd (not_refused line column legal j)
