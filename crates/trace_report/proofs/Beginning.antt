-- Where items begin among rows, with one row more.
use Rattle.std.proofs.Common.{◌≡◌, ℕ, ◌+◌, ◌-◌, suc, zero, Bool, true, false, List, [], ◌∷◌, ◌++◌, length}
use Rattle.std.proofs.Common.{map, Option, Some, None, refl, ap, sym, ◌∙◌, arith, append-nil}
use Rattle.std.specs.Prelude.{◌==◌, slice_get, if◌then◌else◌}
use Rattle.std.proofs.lemmas.Bool.{ne_eqb}
use Rattle.std.proofs.lemmas.List.{map-append}
use Rattle.trace_report.specs.Items.{begins, rows_before}
use Rattle.trace_report.specs.Rows.{RowValue, message, no_answer, dropped, ended, unfinished}
use Rattle.trace_report.specs.declared.item_places.ItemPlace.{ItemPlace}
use Rattle.trace_report.specs.declared.roles.MessageRole.TheVariants as role
use Rattle.trace_report.specs.proving.Keeping.{begin_of, begin_places, begun_at, place_answered, place_or, places_answered, places_next}

-- one row more
one-more : (is : Bool) (before : ℕ) (later first all : List ℕ) → later ≡ first ++ all
    → (if is then before ∷ later else later) ≡ (if is then before ∷ first else first) ++ all
one-more true before later first all e = ap (λ (l : List ℕ). before ∷ l) e
one-more false before later first all e = e

pub begins-more : (before : ℕ) (rows : List RowValue) (row : RowValue) → begin_places before (rows ++ row ∷ []) ≡ begin_places before rows ++ begun_at row (before + length rows)
begins-more before [] row = let end : before ≡ before + 0 = omega arith in ap (begun_at row) end
begins-more before (first ∷ rest) row =
    let end : before + 1 + length rest ≡ before + suc (length rest) = omega arith in
    one-more (begins first) before _ _ _ (begins-more (before + 1) rest row ∙ ap (λ (at : ℕ). begin_places (before + 1) rest ++ begun_at row at) end)

-- an answer moves no item
answered-so : (places : List ItemPlace) (number at : ℕ) → map begin_of (place_answered places number at) ≡ map begin_of places
answered-so [] number at = refl
answered-so (item ∷ rest) zero at = refl
answered-so (item ∷ rest) (suc number) at = ap (λ (l : List ℕ). item.begin ∷ l) (answered-so rest number at)

answered-if : (places : List ItemPlace) (waiting : Option ℕ) (at : ℕ) → map begin_of (places_answered places waiting at) ≡ map begin_of places ++ []
answered-if places None at = sym (append-nil (map begin_of places))
answered-if places (Some number) at = answered-so places number at ∙ sym (append-nil (map begin_of places))

-- and a message that begins one puts it behind the others
begun-so : (places : List ItemPlace) (at : ℕ) → map begin_of (places ++ record { begin = at; answer = None } ∷ []) ≡ map begin_of places ++ at ∷ []
begun-so places at = map-append begin_of places (record { begin = at; answer = None } ∷ [])

pub begun-next : (row : RowValue) (places : List ItemPlace) (waiting : Option ℕ) (at : ℕ) → map begin_of (places_next row places waiting at) ≡ map begin_of places ++ begun_at row at
begun-next (message role.Request d place bytes) places waiting at = begun-so places at
begun-next (message (role.Positive asked) d place bytes) places waiting at = answered-if places waiting at
begun-next (message (role.Negative asked) d place bytes) places waiting at = answered-if places waiting at
begun-next (message (role.Pending asked) d place bytes) places waiting at = sym (append-nil (map begin_of places))
begun-next (message role.KeepAlive d place bytes) places waiting at = begun-so places at
begun-next (message role.Stray d place bytes) places waiting at = begun-so places at
begun-next (no_answer number silence) places waiting at = sym (append-nil (map begin_of places))
begun-next (dropped place d linked why) places waiting at = sym (append-nil (map begin_of places))
begun-next (ended place end) places waiting at = sym (append-nil (map begin_of places))
begun-next (unfinished d line len) places waiting at = sym (append-nil (map begin_of places))

-- an item that begins behind one row
one-behind : (before number : ℕ) (rest : List RowValue)
    → ((number : ℕ) → before + 1 + rows_before number rest ≡ place_or (before + 1 + length rest) (slice_get (begin_places (before + 1) rest) number))
    → before + (1 + rows_before number rest) ≡ place_or (before + suc (length rest)) (slice_get (begin_places (before + 1) rest) number)
one-behind before number rest behind =
    let end : before + 1 + length rest ≡ before + suc (length rest) = omega arith in
    let more : before + (1 + rows_before number rest) ≡ before + 1 + rows_before number rest = omega arith in
    more ∙ behind number ∙ ap (λ (last : ℕ). place_or last (slice_get (begin_places (before + 1) rest) number)) end

-- what is found by these places: of the rows behind one row, and so of all
found-at : (is : Bool) (before item : ℕ) (rest : List RowValue)
    → ((number : ℕ) → before + 1 + rows_before number rest ≡ place_or (before + 1 + length rest) (slice_get (begin_places (before + 1) rest) number))
    → before + (if is then (if item == 0 then 0 else 1 + rows_before (item - 1) rest) else 1 + rows_before item rest)
    ≡ place_or (before + suc (length rest)) (slice_get (if is then before ∷ begin_places (before + 1) rest else begin_places (before + 1) rest) item)
found-at true before zero rest behind = let none : before + 0 ≡ before = omega arith in none
found-at true before (suc number) rest behind =
    let later : (suc number == 0) ≡ false = ne_eqb (suc number) 0 (λ same. omega (arith, same)) in
    let less : suc number - 1 ≡ number = omega arith in
    ap (λ (b : Bool). before + (if b then 0 else 1 + rows_before (suc number - 1) rest)) later
    ∙ ap (λ (n : ℕ). before + (1 + rows_before n rest)) less ∙ one-behind before number rest behind
found-at false before number rest behind = one-behind before number rest behind

pub before-found : (rows : List RowValue) (before item : ℕ) → before + rows_before item rows ≡ place_or (before + length rows) (slice_get (begin_places before rows) item)
before-found [] before item = refl
before-found (row ∷ rest) before item = found-at (begins row) before item rest (λ (number : ℕ). before-found rest (before + 1) number)
