-- The places of rows to which links lead: none stands twice, and each link leads to one, with one row more.
use Rattle.std.proofs.Common.{◌≡◌, ◌≤◌, ◌<◌, ℕ, ◌+◌, List, [], ◌∷◌, ◌++◌, Option, Some, None, IfSome, arith, refl, ap, sym, subst, ◌∙◌, inl, inr, append-nil}
use Rattle.std.specs.Prelude.{◌≢◌, ◌⊎◌}
use Rattle.std.specs.List.{AllByRecursion}
use Rattle.std.proofs.lemmas.Bool.{cases_lt}
use Rattle.direction.specs.declared.Dir.{Dir}
use Rattle.direction.specs.declared.Dir.TheVariants as dir
use Rattle.can_log.proofs.Promises.{AllByRecursion-append, AllByRecursion-weaker}
use Rattle.trace_report.specs.Laws.{AreDistinct}
use Rattle.trace_report.specs.Linked.{IsAmong, target_at, targets_in}
use Rattle.trace_report.specs.Rows.{RowValue}
use Rattle.trace_report.specs.Rows as row
use Rattle.trace_report.specs.Sorts.{sort_of, target_of}
use Rattle.trace_report.specs.declared.targets.LinkTarget.{LinkTarget}
use Rattle.trace_report.specs.declared.targets.LinkTarget.TheVariants.{Item as of_item, Line as of_line, Side as of_side}
use Rattle.trace_report.specs.declared.sorts.Sort.{Sort}
use Rattle.trace_report.specs.declared.sorts.Sort.TheVariants as sort
use Rattle.trace_report.proofs.Distinct.{among-front, among-last, distinct-more, found-append}

-- the place, where rows of this sort are linked to: those that need attention, and the slowest answers
abbrev pub led_to : Sort → LinkTarget → Option LinkTarget
led_to sort.Requests place = None
led_to sort.Positives place = Some place
led_to sort.Negatives place = Some place
led_to sort.Pendings place = None
led_to sort.KeepAlives place = None
led_to sort.Strays place = Some place
led_to sort.Unanswered place = Some place
led_to sort.ToAllUnits place = None
led_to sort.Silent place = None
led_to sort.Dropped place = Some place
led_to sort.Ended place = Some place
led_to sort.Unfinished place = Some place

-- the link to this row leads to one of these places
abbrev pub Leads : List LinkTarget → RowValue → Type 0
Leads places one = IfSome (led_to (sort_of one) (target_of one)) (λ place. IsAmong place places)

-- the number of a side: its row stands before or behind that of the other
abbrev pub side_number : Dir → ℕ
side_number dir.Tester = 0
side_number dir.Unit = 1

-- the place is one of the first items, of the lines before, or of the first sides
abbrev pub IsWithin : ℕ → ℕ → ℕ → LinkTarget → Type 0
IsWithin items lines sides (of_item number) = number ≤ items
IsWithin items lines sides (of_line number) = number < lines
IsWithin items lines sides (of_side d) = side_number d < sides

-- The places of these rows, which tell so many items, and lines and sides before these.
pub record ArePlaced (items lines sides : ℕ) (rows : List RowValue) : Type 0 where
  pub within : AllByRecursion (IsWithin items lines sides) (targets_in rows)
  pub distinct : AreDistinct (targets_in rows)
  pub each : (number : ℕ) → 1 ≤ number → number ≤ items → IsAmong (of_item number) (targets_in rows)
  pub lead : AllByRecursion (Leads (targets_in rows)) rows

-- One more row.

leads-still : (places more : List LinkTarget) (one : RowValue) → Leads places one → Leads (places ++ more) one
leads-still places more one is = by (led_to (sort_of one) (target_of one)) is
  where
    by : (o : Option LinkTarget) → IfSome o (λ place. IsAmong place places) → IfSome o (λ place. IsAmong place (places ++ more))
    by None leads = tt
    by (Some place) leads = among-front place places more leads

lead-all : (places more : List LinkTarget) (rows : List RowValue) (one : RowValue) → AllByRecursion (Leads places) rows → Leads (places ++ more) one
    → AllByRecursion (Leads (places ++ more)) (rows ++ one ∷ [])
lead-all places more rows one lead leads =
    AllByRecursion-append (Leads (places ++ more)) rows (one ∷ []) (AllByRecursion-weaker (Leads places) (Leads (places ++ more)) (leads-still places more) rows lead) (leads, tt)

-- the places with a row that is none
quiet-places : (rows : List RowValue) (one : RowValue) → target_at one ≡ None → targets_in (rows ++ one ∷ []) ≡ targets_in rows
quiet-places rows one none = found-append target_at rows (one ∷ []) ∙ rw none (append-nil (targets_in rows))

-- and with one that is
pub new-places : (rows : List RowValue) (one : RowValue) (place : LinkTarget) → target_at one ≡ Some place → targets_in (rows ++ one ∷ []) ≡ targets_in rows ++ place ∷ []
new-places rows one place is = found-append target_at rows (one ∷ []) ∙ rw is refl

-- what is there stays where bounds grow
later-within : (items lines sides items' lines' sides' : ℕ) → items ≤ items' → lines ≤ lines' → sides ≤ sides' → (place : LinkTarget)
    → IsWithin items lines sides place → IsWithin items' lines' sides' place
later-within items lines sides items' lines' sides' i l s (of_item number) is = omega (arith, i, is)
later-within items lines sides items' lines' sides' i l s (of_line number) is = omega (arith, l, is)
later-within items lines sides items' lines' sides' i l s (of_side d) is = omega (arith, s, is)

pub placed-quiet : (items lines sides : ℕ) (rows : List RowValue) (one : RowValue) → ArePlaced items lines sides rows → target_at one ≡ None
    → Leads (targets_in rows) one → ArePlaced items lines sides (rows ++ one ∷ [])
placed-quiet items lines sides rows one are none leads =
    let same = quiet-places rows one none in
    record {
      within = subst (AllByRecursion (IsWithin items lines sides)) (sym same) are.within;
      distinct = subst AreDistinct (sym same) are.distinct;
      each = λ number low high. subst (IsAmong (of_item number)) (sym same) (are.each number low high);
      lead = subst (λ places. AllByRecursion (Leads places) (rows ++ one ∷ [])) (sym same)
          (AllByRecursion-append (Leads (targets_in rows)) rows (one ∷ []) are.lead (leads, tt));
    }

placed-new : (items lines sides items' lines' sides' : ℕ) (rows : List RowValue) (one : RowValue) (place : LinkTarget) → ArePlaced items lines sides rows
    → target_at one ≡ Some place → items ≤ items' → lines ≤ lines' → sides ≤ sides' → IsWithin items' lines' sides' place
    → ((other : LinkTarget) → IsWithin items lines sides other → other ≢ place)
    → ((number : ℕ) → number ≤ items' → (number ≤ items) ⊎ (of_item number ≡ place))
    → Leads (targets_in rows ++ place ∷ []) one → ArePlaced items' lines' sides' (rows ++ one ∷ [])
placed-new items lines sides items' lines' sides' rows one place are is i l s here new all leads =
    let same = new-places rows one place is in
    let before = targets_in rows in
    record {
      within = subst (AllByRecursion (IsWithin items' lines' sides')) (sym same)
          (AllByRecursion-append (IsWithin items' lines' sides') before (place ∷ [])
          (AllByRecursion-weaker (IsWithin items lines sides) (IsWithin items' lines' sides') (later-within items lines sides items' lines' sides' i l s) before are.within) (here, tt));
      distinct = subst AreDistinct (sym same)
          (distinct-more before place are.distinct (AllByRecursion-weaker (IsWithin items lines sides) (λ other. other ≢ place) new before are.within));
      each = λ number low high. subst (IsAmong (of_item number)) (sym same) (elim (all number high) [
        | inl old ↦ among-front (of_item number) before (place ∷ []) (are.each number low old)
        | inr is ↦ subst (λ it. IsAmong it (before ++ place ∷ [])) (sym is) (among-last place before)
      ]);
      lead = subst (λ places. AllByRecursion (Leads places) (rows ++ one ∷ [])) (sym same) (lead-all before (place ∷ []) rows one are.lead leads);
    }

abbrev number_of : LinkTarget → ℕ
number_of (of_item number) = number
number_of (of_line number) = number
number_of (of_side d) = 0

abbrev side_in : LinkTarget → Dir
side_in (of_item number) = dir.Tester
side_in (of_line number) = dir.Tester
side_in (of_side d) = d

new-line : (items lines sides line : ℕ) → lines ≤ line → (other : LinkTarget) → IsWithin items lines sides other → other ≢ of_line line
new-line items lines sides line is (of_item number) within same = cc
new-line items lines sides line is (of_line number) within same = let equal : number ≡ line = ap number_of same in omega (arith, equal, within, is)
new-line items lines sides line is (of_side d) within same = cc

pub placed-line : (items lines sides line : ℕ) (rows : List RowValue) (one : RowValue) → ArePlaced items lines sides rows → target_at one ≡ Some (of_line line)
    → lines ≤ line → Leads (targets_in rows ++ of_line line ∷ []) one → ArePlaced items (line + 1) sides (rows ++ one ∷ [])
placed-line items lines sides line rows one are is late leads =
    placed-new items lines sides items (line + 1) sides rows one (of_line line) are is (omega arith) (omega (arith, late)) (omega arith) (omega arith)
    (new-line items lines sides line late) (λ number high. inl high) leads

new-item : (items lines sides : ℕ) → (other : LinkTarget) → IsWithin items lines sides other → other ≢ of_item (items + 1)
new-item items lines sides (of_item number) within same = let equal : number ≡ items + 1 = ap number_of same in omega (arith, equal, within)
new-item items lines sides (of_line number) within same = cc
new-item items lines sides (of_side d) within same = cc

each-item : (items number : ℕ) → number ≤ items + 1 → (number ≤ items) ⊎ (of_item number ≡ of_item (items + 1))
each-item items number high =
    elim (cases_lt items number) [
      | inl more ↦ inr (ap of_item (let is : number ≡ items + 1 = omega (arith, more, high) in is))
      | inr most ↦ inl most
    ]

pub placed-item : (items lines sides : ℕ) (rows : List RowValue) (one : RowValue) → ArePlaced items lines sides rows → target_at one ≡ Some (of_item (items + 1))
    → Leads (targets_in rows ++ of_item (items + 1) ∷ []) one → ArePlaced (items + 1) lines sides (rows ++ one ∷ [])
placed-item items lines sides rows one are is leads =
    placed-new items lines sides (items + 1) lines sides rows one (of_item (items + 1)) are is (omega arith) (omega arith) (omega arith) (omega arith)
    (new-item items lines sides) (each-item items) leads

new-side : (items lines sides : ℕ) (d : Dir) → sides ≤ side_number d → (other : LinkTarget) → IsWithin items lines sides other → other ≢ of_side d
new-side items lines sides d late (of_item number) within same = cc
new-side items lines sides d late (of_line number) within same = cc
new-side items lines sides d late (of_side e) within same = let equal : side_number e ≡ side_number d = ap (λ place. side_number (side_in place)) same in omega (arith, equal, within, late)

pub placed-side : (items lines sides : ℕ) (rows : List RowValue) (d : Dir) (line len : ℕ) → ArePlaced items lines sides rows → sides ≤ side_number d
    → ArePlaced items lines (side_number d + 1) (rows ++ row.unfinished d line len ∷ [])
placed-side items lines sides rows d line len are late =
    placed-new items lines sides items lines (side_number d + 1) rows (row.unfinished d line len) (of_side d) are refl (omega arith) (omega arith) (omega (arith, late)) (omega arith)
    (new-side items lines sides d late) (λ number high. inl high)
    (among-last (of_side d) (targets_in rows))

-- where bounds grow
pub placed-later : (items lines sides lines' sides' : ℕ) (rows : List RowValue) → ArePlaced items lines sides rows → lines ≤ lines' → sides ≤ sides' → ArePlaced items lines' sides' rows
placed-later items lines sides lines' sides' rows are l s = record {
  within = AllByRecursion-weaker (IsWithin items lines sides) (IsWithin items lines' sides') (later-within items lines sides items lines' sides' (omega arith) l s) (targets_in rows) are.within;
  distinct = are.distinct;
  each = are.each;
  lead = are.lead;
}
