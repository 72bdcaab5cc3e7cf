-- Where items stand among the rows of a session, with one row more.
use Rattle.std.proofs.Common.{◌≡◌, ℕ, ◌<◌, suc, zero, List, [], ◌∷◌, ◌++◌, length, map, get_or, Option, Some}
use Rattle.std.proofs.Common.{None, IfSome, option_map, refl, ap, sym, subst, ◌∙◌, arith, append-nil}
use Rattle.std.specs.Prelude.{slice_get, slice_set}
use Rattle.std.proofs.lemmas.List.{map-append}
use Rattle.std.proofs.lemmas.Option.{none-some, same_Some}
use Rattle.trace_report.specs.Items.{RowMessageValue, PlacedItemValue, items_in, message_in}
use Rattle.trace_report.specs.Rows.{RowValue, message, no_answer, dropped, ended, unfinished}
use Rattle.trace_report.specs.declared.item_places.ItemPlace.{ItemPlace}
use Rattle.trace_report.specs.declared.roles.MessageRole.TheVariants as role
use Rattle.trace_report.specs.proving.Keeping.{RowPart, asks, answers, begins, nothing, part_of, waiting_of, waiting_in}
use Rattle.trace_report.specs.proving.Keeping.{message_at, item_by, item_with, item_if, placed_at, ArePlaced, answered_at}
use Rattle.trace_report.specs.proving.Keeping.{place_answered, places_answered, item_answered, items_answered}
use Rattle.trace_report.specs.proving.Keeping.{places_begun, places_next, waiting_next}
use Rattle.trace_report.proofs.ItemParts.{items_of, items-by-parts, items-behind, waiting-still, waiting-asked, waiting-answered, items-answered, waiting-below}

pub same-count : (rows : List RowValue) (places : List ItemPlace) (items : List PlacedItemValue) → ArePlaced rows places items → length places ≡ length items
same-count rows [] [] placed = refl
same-count rows [] (item ∷ items) placed = absurd placed
same-count rows (place ∷ places) [] placed = absurd placed
same-count rows (place ∷ places) (item ∷ items) placed = ap suc (same-count rows places items placed.1)

-- the item that waits has a place
pub waiting-placed : (rows : List RowValue) (places : List ItemPlace) (waiting : Option ℕ) → ArePlaced rows places (items_in rows) → waiting ≡ waiting_in rows
    → IfSome waiting (λ number. number < length places)
waiting-placed rows places waiting placed is =
    subst (λ w. IfSome w (λ number. number < length places)) (sym is)
    (subst (λ count. IfSome (waiting_in rows) (λ number. number < count)) (sym (same-count rows places (items_in rows) placed ∙ ap length (items-by-parts rows)))
    (waiting-below (map part_of rows)))

-- the item at a place
abbrev pub item_of_place : List RowValue → Option ItemPlace → Option PlacedItemValue
item_of_place rows None = None
item_of_place rows (Some place) = placed_at rows place

pub item-placed : (rows : List RowValue) (places : List ItemPlace) (items : List PlacedItemValue) (at : ℕ) → ArePlaced rows places items
    → item_of_place rows (slice_get places at) ≡ slice_get items at
item-placed rows [] [] at placed = refl
item-placed rows [] (item ∷ items) at placed = absurd placed
item-placed rows (place ∷ places) [] at placed = absurd placed
item-placed rows (place ∷ places) (item ∷ items) zero placed = placed.0
item-placed rows (place ∷ places) (item ∷ items) (suc at) placed = item-placed rows places items at placed.1

module _ (rows more : List RowValue) where
  message-stays : (front : List RowValue) (at : ℕ) (sent : RowMessageValue) → message_at front at ≡ Some sent → message_at (front ++ more) at ≡ Some sent
  message-stays [] at sent is = absurd (none-some sent is)
  message-stays (row ∷ rest) zero sent is = is
  message-stays (row ∷ rest) (suc at) sent is = message-stays rest at sent is

  reply-stays : (begin : RowMessageValue) (reply then : Option RowMessageValue) (item : PlacedItemValue) → ((sent : RowMessageValue) → reply ≡ Some sent → then ≡ Some sent)
      → option_map (λ (sent : RowMessageValue). item_by begin (Some sent)) reply ≡ Some item → option_map (λ (sent : RowMessageValue). item_by begin (Some sent)) then ≡ Some item
  reply-stays begin None then item goes is = absurd (none-some item is)
  reply-stays begin (Some sent) then item goes is = ap (option_map (λ (sent : RowMessageValue). item_by begin (Some sent))) (goes sent refl) ∙ is

  answer-stays : (begin : RowMessageValue) (answer : Option ℕ) (item : PlacedItemValue) → item_with rows begin answer ≡ Some item → item_with (rows ++ more) begin answer ≡ Some item
  answer-stays begin None item is = is
  answer-stays begin (Some at) item is = reply-stays begin (message_at rows at) (message_at (rows ++ more) at) item (λ sent. message-stays rows at sent) is

  begin-stays : (begin then : Option RowMessageValue) (answer : Option ℕ) (item : PlacedItemValue) → ((sent : RowMessageValue) → begin ≡ Some sent → then ≡ Some sent)
      → item_if rows begin answer ≡ Some item → item_if (rows ++ more) then answer ≡ Some item
  begin-stays None then answer item goes is = absurd (none-some item is)
  begin-stays (Some sent) then answer item goes is = ap (λ b. item_if (rows ++ more) b answer) (goes sent refl) ∙ answer-stays sent answer item is

  stays-placed : (places : List ItemPlace) (items : List PlacedItemValue) → ArePlaced rows places items → ArePlaced (rows ++ more) places items
  stays-placed [] [] placed = tt
  stays-placed [] (item ∷ items) placed = absurd placed
  stays-placed (place ∷ places) [] placed = absurd placed
  stays-placed (place ∷ places) (item ∷ items) placed = (
    begin-stays (message_at rows place.begin) (message_at (rows ++ more) place.begin) place.answer item (λ sent. message-stays rows place.begin sent) placed.0,
    stays-placed places items placed.1,
  )

one-placed : (rows : List RowValue) (places : List ItemPlace) (items : List PlacedItemValue) (place : ItemPlace) (item : PlacedItemValue) → ArePlaced rows places items
    → placed_at rows place ≡ Some item → ArePlaced rows (places ++ place ∷ []) (items ++ item ∷ [])
one-placed rows [] [] place item placed is = (is, tt)
one-placed rows [] (first ∷ items) place item placed is = absurd placed
one-placed rows (first ∷ places) [] place item placed is = absurd placed
one-placed rows (first ∷ places) (one ∷ items) place item placed is = (placed.0, one-placed rows places items place item placed.1 is)

begin-is : (rows : List RowValue) (begin : Option RowMessageValue) (answer : Option ℕ) (item : PlacedItemValue) → item_if rows begin answer ≡ Some item → begin ≡ Some item.begin
begin-is rows None answer item is = absurd (none-some item is)
begin-is rows (Some begin) None item is = ap (λ (x : PlacedItemValue). Some x.begin) (same_Some (item_by begin None) item is)
begin-is rows (Some begin) (Some at) item is = by (message_at rows at) is
  where
    by : (reply : Option RowMessageValue) → option_map (λ (sent : RowMessageValue). item_by begin (Some sent)) reply ≡ Some item → Some begin ≡ Some item.begin
    by None is = absurd (none-some item is)
    by (Some sent) is = ap (λ (x : PlacedItemValue). Some x.begin) (same_Some (item_by begin (Some sent)) item is)

module _ (rows : List RowValue) (at : ℕ) (reply : RowMessageValue) (there : message_at rows at ≡ Some reply) where
  answered-here : (place : ItemPlace) (item : PlacedItemValue) → placed_at rows place ≡ Some item → placed_at rows (answered_at place at) ≡ Some (item_by item.begin (Some reply))
  answered-here place item is =
      ap (λ begin. item_if rows begin (Some at)) (begin-is rows (message_at rows place.begin) place.answer item is)
      ∙ ap (option_map (λ (sent : RowMessageValue). item_by item.begin (Some sent))) there

  one-answered : (places : List ItemPlace) (items : List PlacedItemValue) (number : ℕ) → ArePlaced rows places items
      → ArePlaced rows (place_answered places number at) (item_answered items number reply)
  one-answered [] [] number placed = tt
  one-answered [] (item ∷ items) number placed = absurd placed
  one-answered (place ∷ places) [] number placed = absurd placed
  one-answered (place ∷ places) (item ∷ items) zero placed = (answered-here place item placed.0, placed.1)
  one-answered (place ∷ places) (item ∷ items) (suc number) placed = (placed.0, one-answered places items number placed.1)

  if-answered : (places : List ItemPlace) (items : List PlacedItemValue) (waiting : Option ℕ) → ArePlaced rows places items
      → ArePlaced rows (places_answered places waiting at) (items_answered items waiting reply)
  if-answered places items None placed = placed
  if-answered places items (Some number) placed = one-answered places items number placed

-- the row at the end
at-end : (rows : List RowValue) (row : RowValue) → message_at (rows ++ row ∷ []) (length rows) ≡ message_in row
at-end [] row = refl
at-end (first ∷ rows) row = at-end rows row

-- One more row.

module _ (rows : List RowValue) (places : List ItemPlace) (waiting : Option ℕ) (placed : ArePlaced rows places (items_in rows)) (waits : waiting ≡ waiting_in rows) where
  abbrev parts : List RowPart
  parts = map part_of rows

  -- what stands there then
  abbrev pub Next : RowValue → List ItemPlace → Option ℕ → Type 0
  Next row places-then waiting-then = ArePlaced (rows ++ row ∷ []) places-then (items_in (rows ++ row ∷ [])) × (waiting-then ≡ waiting_in (rows ++ row ∷ []))

  with-part : (row : RowValue) → map part_of (rows ++ row ∷ []) ≡ parts ++ part_of row ∷ []
  with-part row = map-append part_of rows (row ∷ [])

  placed-so : (row : RowValue) (places-then : List ItemPlace) (items : List PlacedItemValue) → items_of (parts ++ part_of row ∷ []) ≡ items
      → ArePlaced (rows ++ row ∷ []) places-then items → ArePlaced (rows ++ row ∷ []) places-then (items_in (rows ++ row ∷ []))
  placed-so row places-then items is so =
      subst (ArePlaced (rows ++ row ∷ []) places-then) (sym (items-by-parts (rows ++ row ∷ []) ∙ ap items_of (with-part row) ∙ is)) so

  still-placed : (row : RowValue) → ArePlaced (rows ++ row ∷ []) places (items_of parts)
  still-placed row = subst (ArePlaced (rows ++ row ∷ []) places) (items-by-parts rows) (stays-placed rows (row ∷ []) places (items_in rows) placed)

  nothing-more : (row : RowValue) → part_of row ≡ nothing → Next row places waiting
  nothing-more row is = (
    placed-so row places (items_of parts) (ap (λ part. items_of (parts ++ part ∷ [])) is ∙ items-behind parts (nothing ∷ []) refl ∙ append-nil (items_of parts)) (still-placed row),
    waits ∙ sym (waiting-still parts (nothing ∷ []) refl refl) ∙ ap (λ part. waiting_of (parts ++ part ∷ [])) (sym is) ∙ ap waiting_of (sym (with-part row)),
  )

  begun : (row : RowValue) (sent : RowMessageValue) → message_in row ≡ Some sent → ArePlaced (rows ++ row ∷ []) (places_begun places (length rows)) (items_of parts ++ item_by sent None ∷ [])
  begun row sent is =
      one-placed (rows ++ row ∷ []) places (items_of parts) (record { begin = length rows; answer = None }) (item_by sent None) (still-placed row)
      (ap (λ begin. item_if (rows ++ row ∷ []) begin None) (at-end rows row ∙ is))

  asked-more : (row : RowValue) (sent : RowMessageValue) → part_of row ≡ asks sent → message_in row ≡ Some sent → Next row (places_begun places (length rows)) (Some (length places))
  asked-more row sent part is = (
    placed-so row (places_begun places (length rows)) (items_of parts ++ item_by sent None ∷ [])
        (ap (λ p. items_of (parts ++ p ∷ [])) part ∙ items-behind parts (asks sent ∷ []) refl) (begun row sent is),
    ap Some (same-count rows places (items_in rows) placed ∙ ap length (items-by-parts rows))
        ∙ sym (ap waiting_of (with-part row) ∙ ap (λ p. waiting_of (parts ++ p ∷ [])) part ∙ waiting-asked parts sent),
  )

  begun-more : (row : RowValue) (sent : RowMessageValue) → part_of row ≡ begins sent → message_in row ≡ Some sent → Next row (places_begun places (length rows)) waiting
  begun-more row sent part is = (
    placed-so row (places_begun places (length rows)) (items_of parts ++ item_by sent None ∷ [])
        (ap (λ p. items_of (parts ++ p ∷ [])) part ∙ items-behind parts (begins sent ∷ []) refl) (begun row sent is),
    waits ∙ sym (ap waiting_of (with-part row) ∙ ap (λ p. waiting_of (parts ++ p ∷ [])) part ∙ waiting-still parts (begins sent ∷ []) refl refl),
  )

  answered-more : (row : RowValue) (sent : RowMessageValue) → part_of row ≡ answers sent → message_in row ≡ Some sent → Next row (places_answered places waiting (length rows)) None
  answered-more row sent part is = (
    placed-so row (places_answered places waiting (length rows)) (items_answered (items_of parts) waiting sent)
        (ap (λ p. items_of (parts ++ p ∷ [])) part ∙ items-answered parts sent ∙ ap (λ w. items_answered (items_of parts) w sent) (sym waits))
        (if-answered (rows ++ row ∷ []) (length rows) sent (at-end rows row ∙ is) places (items_of parts) waiting (still-placed row)),
    sym (ap waiting_of (with-part row) ∙ ap (λ p. waiting_of (parts ++ p ∷ [])) part ∙ waiting-answered parts sent),
  )

  pub row-more : (row : RowValue) → Next row (places_next row places waiting (length rows)) (waiting_next row places waiting)
  row-more (message role.Request d place bytes) = asked-more (message role.Request d place bytes) (record { role = role.Request; dir = d; place = place; bytes = bytes }) refl refl
  row-more (message (role.Positive asked) d place bytes) =
      answered-more (message (role.Positive asked) d place bytes) (record { role = role.Positive asked; dir = d; place = place; bytes = bytes }) refl refl
  row-more (message (role.Negative asked) d place bytes) =
      answered-more (message (role.Negative asked) d place bytes) (record { role = role.Negative asked; dir = d; place = place; bytes = bytes }) refl refl
  row-more (message (role.Pending asked) d place bytes) = nothing-more (message (role.Pending asked) d place bytes) refl
  row-more (message role.KeepAlive d place bytes) = begun-more (message role.KeepAlive d place bytes) (record { role = role.KeepAlive; dir = d; place = place; bytes = bytes }) refl refl
  row-more (message role.Stray d place bytes) = begun-more (message role.Stray d place bytes) (record { role = role.Stray; dir = d; place = place; bytes = bytes }) refl refl
  row-more (no_answer number silence) = nothing-more (no_answer number silence) refl
  row-more (dropped place d linked why) = nothing-more (dropped place d linked why) refl
  row-more (ended place end) = nothing-more (ended place end) refl
  row-more (unfinished d line len) = nothing-more (unfinished d line len) refl

-- The code writes the place of an answer into the list of places.
pub set-answered : (places : List ItemPlace) (number : ℕ) (place then : ItemPlace) (at : ℕ) → place ≡ get_or places number place → number < length places → then ≡ answered_at place at
    → slice_set places number then ≡ place_answered places number at
set-answered [] number place then at there below is = refl
set-answered (first ∷ places) zero place then at there below is = ap (λ x. x ∷ places) (is ∙ ap (λ p. answered_at p at) there)
set-answered (first ∷ places) (suc number) place then at there below is = ap (λ l. first ∷ l) (set-answered places number place then at there (omega (arith, below)) is)
