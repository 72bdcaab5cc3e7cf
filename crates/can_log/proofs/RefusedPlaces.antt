-- The refused place of some bytes: how one comes about, and that there is one at most.
use Prim.Native.Char.{code}
use Rattle.std.proofs.Common.{◌≡◌, ◌≢◌, ℕ, ◌+◌, ◌≤◌, arith, refl, sym, ap, subst, ◌∙◌, inl, inr}
use Rattle.std.proofs.Common.{List, [], ◌∷◌, ◌++◌, length, append_assoc, length-append, Option}
use Rattle.std.specs.Prelude.{codes}
use Rattle.std.proofs.lemmas.List.{append-nil}
use Rattle.can_log.specs.declared.frame.Stamped.{Stamped}
use Rattle.can_log.specs.Line.{LineMeans, IsNoLine}
use Rattle.can_log.specs.Refused.{NoLineFeed, HasCompletion, HasNoCompletion, IsRefusedPlace, IsUnfinishedAt}
use Rattle.can_log.specs.Log.{IsRefusedRest}
use Rattle.can_log.specs.proving.Judging.{IsRefusedAt}
use Rattle.can_log.proofs.Lists.{parts_more}
use Rattle.can_log.proofs.Cuts.{two_cuts}
use Rattle.can_log.proofs.LineReads.{front_legal, fronts_legal, means_becomes}
use Rattle.can_log.proofs.LineFeeds.{clean_at, completion_clean}

-- ---- how one comes about

-- the refused byte of a line
pub place_of : (bytes : List ℕ) (column : ℕ) → NoLineFeed bytes → IsRefusedAt bytes column → IsRefusedPlace bytes column
place_of bytes column clean r =
    let other = clean_at r.text r.bad r.after (subst NoLineFeed r.parts clean) in
    record {
      text = r.text;
      bad = r.bad;
      after = r.after;
      parts = r.parts;
      at = r.at;
      legal = fronts_legal r.text r.legal;
      line_feed = λ e. absurd (other e);
      other = λ _ more what few m. r.hopeless more what m;
    }

-- a line feed after what is no line
pub place_end : (x : List ℕ) → HasCompletion x → IsNoLine x → IsRefusedPlace (x ++ codes "\n") (length x + 1)
place_end x legal nothing = record {
  text = x;
  bad = code "\n";
  after = [];
  parts = refl;
  at = refl;
  legal = fronts_legal x legal;
  line_feed = λ e. nothing;
  other = λ ne. absurd (ne refl);
}

-- the end of what is no line
pub unfinished : (line : List ℕ) (n : ℕ) → n ≡ length line → HasCompletion line → IsNoLine line → IsUnfinishedAt line (n + 1)
unfinished line n e legal nothing = record { at = ap (λ (k : ℕ). k + 1) e; legal = fronts_legal line legal; no_line = nothing }

-- a refused place stays, whatever follows
pub place_extends : (a b : List ℕ) (column : ℕ) → IsRefusedPlace a column → IsRefusedPlace (a ++ b) column
place_extends a b column r = record {
  text = r.text;
  bad = r.bad;
  after = r.after ++ b;
  parts = parts_more r.text (r.bad ∷ r.after) r.parts b;
  at = r.at;
  legal = r.legal;
  line_feed = r.line_feed;
  other = r.other;
}

-- what is legal so far is refused nowhere
pub not_refused : (bytes : List ℕ) (column : ℕ) → HasCompletion bytes → IsRefusedAt bytes column → ⊥
not_refused bytes column (more, what, few, m) r =
    let whole : bytes ++ more ≡ (r.text ++ r.bad ∷ []) ++ (r.after ++ more) = parts_more r.text (r.bad ∷ r.after) r.parts more ∙ sym (append_assoc r.text (r.bad ∷ []) (r.after ++ more)) in
    r.hopeless (r.after ++ more) what (subst (λ (z : List ℕ). LineMeans z what) whole m)

-- ---- there is one at most

-- a byte that is refused after a text
record Refuses (text : List ℕ) (bad : ℕ) : Type 0 where
  pub line_feed : bad ≡ code "\n" → IsNoLine text
  pub other : bad ≢ code "\n" → HasNoCompletion (text ++ bad ∷ [])

refuses_at : {bytes : List ℕ} {column : ℕ} → (r : IsRefusedPlace bytes column) → Refuses r.text r.bad
refuses_at r = record { line_feed = r.line_feed; other = r.other }

whole_text : (text : List ℕ) → ((front more : List ℕ) → text ≡ front ++ more → HasCompletion front) → HasCompletion text
whole_text text legal = legal text [] (sym (append-nil text))

-- no line begins with it
not_in_line : (text : List ℕ) (bad : ℕ) (z : List ℕ) → Refuses text bad → HasCompletion (text ++ bad ∷ z) → ⊥
not_in_line text bad z r legal =
    let front : HasCompletion (text ++ bad ∷ []) = front_legal (text ++ bad ∷ []) z (subst HasCompletion (sym (append_assoc text (bad ∷ []) z)) legal) in
    r.other (clean_at text bad [] (completion_clean (text ++ bad ∷ []) front)) front.0 front.1 front.2 front.3

-- nor does one end there
not_at_end : (text : List ℕ) (bad : ℕ) (after line more : List ℕ) (what : Option Stamped) → Refuses text bad → HasCompletion text → LineMeans line what
    → text ++ bad ∷ after ≡ line ++ code "\n" ∷ more → ⊥
not_at_end text bad after line more what r legal means e = elim (two_cuts text bad after line (code "\n") more e) [
  | inl (same, feed, rest) ↦ r.line_feed feed what (subst (λ (z : List ℕ). LineMeans z what) (sym same) means)
  | inr (inl (z, h)) ↦ not_in_line text bad z r (subst HasCompletion h (means_becomes line what means))
  | inr (inr (z, h)) ↦ clean_at line (code "\n") z (subst NoLineFeed h (completion_clean text legal)) refl
]

place_is_one : (bytes : List ℕ) (column column2 : ℕ) → IsRefusedPlace bytes column → IsRefusedPlace bytes column2 → column ≡ column2
place_is_one bytes column column2 r t = elim (two_cuts r.text r.bad r.after t.text t.bad t.after (sym r.parts ∙ t.parts)) [
  | inl (same, bad, rest) ↦ r.at ∙ ap (λ (z : List ℕ). length z + 1) same ∙ sym t.at
  | inr (inl (z, h)) ↦ absurd (not_in_line r.text r.bad z (refuses_at r) (subst HasCompletion h (whole_text t.text t.legal)))
  | inr (inr (z, h)) ↦ absurd (not_in_line t.text t.bad z (refuses_at t) (subst HasCompletion h (whole_text r.text r.legal)))
]

place_or_unfinished : (bytes : List ℕ) (column column2 : ℕ) → IsRefusedPlace bytes column → IsUnfinishedAt bytes column2 → ⊥
place_or_unfinished bytes column column2 r u = not_in_line r.text r.bad r.after (refuses_at r) (subst HasCompletion r.parts (whole_text bytes u.legal))

pub end_is_one : (rest : List ℕ) (column column2 : ℕ) → IsRefusedRest rest column → IsRefusedRest rest column2 → column ≡ column2
end_is_one rest column column2 (inl r) (inl t) = place_is_one rest column column2 r t
end_is_one rest column column2 (inl r) (inr u) = absurd (place_or_unfinished rest column column2 r u)
end_is_one rest column column2 (inr u) (inl r) = absurd (place_or_unfinished rest column2 column r u)
end_is_one rest column column2 (inr u) (inr w) = u.at ∙ sym w.at

-- what is refused, or unfinished, is no line with its line feed
pub no_line_first : (rest : List ℕ) (column : ℕ) (line more : List ℕ) (what : Option Stamped) → IsRefusedRest rest column → LineMeans line what
    → rest ≡ line ++ code "\n" ∷ more → ⊥
no_line_first rest column line more what (inl r) means e =
    not_at_end r.text r.bad r.after line more what (refuses_at r) (whole_text r.text r.legal) means (sym r.parts ∙ e)
no_line_first rest column line more what (inr u) means e =
    clean_at line (code "\n") more (subst NoLineFeed e (completion_clean rest (whole_text rest u.legal))) refl

-- nor the last line of a log
pub no_line_last : (rest : List ℕ) (column : ℕ) (what : Option Stamped) → IsRefusedRest rest column → LineMeans rest what → ⊥
no_line_last rest column what (inl r) means = not_in_line r.text r.bad r.after (refuses_at r) (subst HasCompletion r.parts (means_becomes rest what means))
no_line_last rest column what (inr u) means = u.no_line what means

-- ---- where it lies

pub place_inside : (bytes : List ℕ) (column : ℕ) → IsRefusedPlace bytes column → column ≤ length bytes
place_inside bytes column r = omega (arith, r.at, ap (λ (z : List ℕ). length z) r.parts, length-append r.text (r.bad ∷ r.after))

-- among the bytes, or after the last one
pub place_within : (rest : List ℕ) (column : ℕ) → IsRefusedRest rest column → column ≤ length rest + 1
place_within rest column (inl r) = omega (arith, place_inside rest column r)
place_within rest column (inr u) = omega (arith, u.at)

-- not after the first line feed
pub place_in_first : (line more : List ℕ) (column : ℕ) → IsRefusedRest (line ++ code "\n" ∷ more) column → column ≤ length line + 1
place_in_first line more column (inl r) = elim (two_cuts r.text r.bad r.after line (code "\n") more (sym r.parts)) [
  | inl (same, feed, rest) ↦ omega (arith, r.at, ap (λ (z : List ℕ). length z) same)
  | inr (inl (z, h)) ↦ omega (arith, r.at, ap (λ (z : List ℕ). length z) h, length-append r.text (r.bad ∷ z))
  | inr (inr (z, h)) ↦ absurd (clean_at line (code "\n") z (subst NoLineFeed h (completion_clean r.text (whole_text r.text r.legal))) refl)
]
place_in_first line more column (inr u) =
    let rest = line ++ code "\n" ∷ more in
    absurd (clean_at line (code "\n") more (completion_clean rest (whole_text rest u.legal)) refl)
