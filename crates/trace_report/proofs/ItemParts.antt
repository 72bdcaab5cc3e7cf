-- The items of a session, and the request that waits, by what its rows are to them, with one row more.
use Rattle.std.proofs.Common.{◌≡◌, ℕ, ◌<◌, suc, Bool, true, false, List, [], ◌∷◌, ◌++◌, length, map, Option, Some, None, IfSome, refl, ap, sym, ◌∙◌, arith}
use Rattle.trace_report.specs.Items.{RowMessageValue, PlacedItemValue, answer_in, items_in}
use Rattle.trace_report.specs.Rows.{RowValue, message, no_answer, dropped, ended, unfinished}
use Rattle.trace_report.specs.declared.roles.MessageRole.TheVariants as role
use Rattle.trace_report.specs.proving.Keeping.{RowPart, asks, answers, begins, nothing, part_of, awaits, place_later}
use Rattle.trace_report.specs.proving.Keeping.{place_by, waiting_of, item_by, items_answered}

-- Items by what rows are to them.

abbrev answer_of : List RowPart → Option RowMessageValue
answer_of [] = None
answer_of (asks sent ∷ rest) = None
answer_of (answers sent ∷ rest) = Some sent
answer_of (begins sent ∷ rest) = answer_of rest
answer_of (nothing ∷ rest) = answer_of rest

abbrev pub items_of : List RowPart → List PlacedItemValue
items_of [] = []
items_of (asks sent ∷ rest) = item_by sent (answer_of rest) ∷ items_of rest
items_of (answers sent ∷ rest) = items_of rest
items_of (begins sent ∷ rest) = item_by sent None ∷ items_of rest
items_of (nothing ∷ rest) = items_of rest

answer-by-parts : (rows : List RowValue) → answer_in rows ≡ answer_of (map part_of rows)
answer-by-parts [] = refl
answer-by-parts (message role.Request d place bytes ∷ rest) = refl
answer-by-parts (message (role.Positive asked) d place bytes ∷ rest) = refl
answer-by-parts (message (role.Negative asked) d place bytes ∷ rest) = refl
answer-by-parts (message (role.Pending asked) d place bytes ∷ rest) = answer-by-parts rest
answer-by-parts (message role.KeepAlive d place bytes ∷ rest) = answer-by-parts rest
answer-by-parts (message role.Stray d place bytes ∷ rest) = answer-by-parts rest
answer-by-parts (no_answer number silence ∷ rest) = answer-by-parts rest
answer-by-parts (dropped place d linked why ∷ rest) = answer-by-parts rest
answer-by-parts (ended place end ∷ rest) = answer-by-parts rest
answer-by-parts (unfinished d line len ∷ rest) = answer-by-parts rest

pub items-by-parts : (rows : List RowValue) → items_in rows ≡ items_of (map part_of rows)
items-by-parts [] = refl
items-by-parts (message role.Request d place bytes ∷ rest) =
    (λ i. item_by (record { role = role.Request; dir = d; place = place; bytes = bytes }) (answer-by-parts rest i) ∷ items-by-parts rest i)
items-by-parts (message (role.Positive asked) d place bytes ∷ rest) = items-by-parts rest
items-by-parts (message (role.Negative asked) d place bytes ∷ rest) = items-by-parts rest
items-by-parts (message (role.Pending asked) d place bytes ∷ rest) = items-by-parts rest
items-by-parts (message role.KeepAlive d place bytes ∷ rest) =
    ap (λ l. item_by (record { role = role.KeepAlive; dir = d; place = place; bytes = bytes }) None ∷ l) (items-by-parts rest)
items-by-parts (message role.Stray d place bytes ∷ rest) =
    ap (λ l. item_by (record { role = role.Stray; dir = d; place = place; bytes = bytes }) None ∷ l) (items-by-parts rest)
items-by-parts (no_answer number silence ∷ rest) = items-by-parts rest
items-by-parts (dropped place d linked why ∷ rest) = items-by-parts rest
items-by-parts (ended place end ∷ rest) = items-by-parts rest
items-by-parts (unfinished d line len ∷ rest) = items-by-parts rest

-- One more row that asks, or that answers nothing.

no-answer-behind : (parts tail : List RowPart) → answer_of tail ≡ None → answer_of (parts ++ tail) ≡ answer_of parts
no-answer-behind [] tail none = none
no-answer-behind (asks sent ∷ rest) tail none = refl
no-answer-behind (answers sent ∷ rest) tail none = refl
no-answer-behind (begins sent ∷ rest) tail none = no-answer-behind rest tail none
no-answer-behind (nothing ∷ rest) tail none = no-answer-behind rest tail none

pub items-behind : (parts tail : List RowPart) → answer_of tail ≡ None → items_of (parts ++ tail) ≡ items_of parts ++ items_of tail
items-behind [] tail none = refl
items-behind (asks sent ∷ rest) tail none = (λ i. item_by sent (no-answer-behind rest tail none i) ∷ items-behind rest tail none i)
items-behind (answers sent ∷ rest) tail none = items-behind rest tail none
items-behind (begins sent ∷ rest) tail none = ap (λ l. item_by sent None ∷ l) (items-behind rest tail none)
items-behind (nothing ∷ rest) tail none = items-behind rest tail none

awaits-still : (parts tail : List RowPart) → awaits tail ≡ true → awaits (parts ++ tail) ≡ awaits parts
awaits-still [] tail is = is
awaits-still (asks sent ∷ rest) tail is = refl
awaits-still (answers sent ∷ rest) tail is = refl
awaits-still (begins sent ∷ rest) tail is = awaits-still rest tail is
awaits-still (nothing ∷ rest) tail is = awaits-still rest tail is

awaits-no-more : (parts tail : List RowPart) → awaits tail ≡ false → awaits (parts ++ tail) ≡ false
awaits-no-more [] tail is = is
awaits-no-more (asks sent ∷ rest) tail is = refl
awaits-no-more (answers sent ∷ rest) tail is = refl
awaits-no-more (begins sent ∷ rest) tail is = awaits-no-more rest tail is
awaits-no-more (nothing ∷ rest) tail is = awaits-no-more rest tail is

pub waiting-still : (parts tail : List RowPart) → awaits tail ≡ true → waiting_of tail ≡ None → waiting_of (parts ++ tail) ≡ waiting_of parts
waiting-still [] tail is none = none
waiting-still (asks sent ∷ rest) tail is none = (λ i. place_by (awaits-still rest tail is i) (waiting-still rest tail is none i))
waiting-still (answers sent ∷ rest) tail is none = waiting-still rest tail is none
waiting-still (begins sent ∷ rest) tail is none = ap place_later (waiting-still rest tail is none)
waiting-still (nothing ∷ rest) tail is none = waiting-still rest tail is none

pub waiting-asked : (parts : List RowPart) (sent : RowMessageValue) → waiting_of (parts ++ asks sent ∷ []) ≡ Some (length (items_of parts))
waiting-asked [] sent = refl
waiting-asked (asks first ∷ rest) sent = (λ i. place_by (awaits-no-more rest (asks sent ∷ []) refl i) (waiting-asked rest sent i))
waiting-asked (answers first ∷ rest) sent = waiting-asked rest sent
waiting-asked (begins first ∷ rest) sent = ap place_later (waiting-asked rest sent)
waiting-asked (nothing ∷ rest) sent = waiting-asked rest sent

-- One more row that answers.

pub waiting-answered : (parts : List RowPart) (sent : RowMessageValue) → waiting_of (parts ++ answers sent ∷ []) ≡ None
waiting-answered [] sent = refl
waiting-answered (asks first ∷ rest) sent = (λ i. place_by (awaits-no-more rest (answers sent ∷ []) refl i) (waiting-answered rest sent i))
waiting-answered (answers first ∷ rest) sent = waiting-answered rest sent
waiting-answered (begins first ∷ rest) sent = ap place_later (waiting-answered rest sent)
waiting-answered (nothing ∷ rest) sent = waiting-answered rest sent

none-waits : (parts : List RowPart) → awaits parts ≡ true → waiting_of parts ≡ None
none-waits [] is = refl
none-waits (asks sent ∷ rest) is = absurd (cc is)
none-waits (answers sent ∷ rest) is = absurd (cc is)
none-waits (begins sent ∷ rest) is = ap place_later (none-waits rest is)
none-waits (nothing ∷ rest) is = none-waits rest is

answer-found : (parts : List RowPart) (reply : RowMessageValue) → awaits parts ≡ true → answer_of (parts ++ answers reply ∷ []) ≡ Some reply
answer-found [] reply is = refl
answer-found (asks sent ∷ rest) reply is = absurd (cc is)
answer-found (answers sent ∷ rest) reply is = absurd (cc is)
answer-found (begins sent ∷ rest) reply is = answer-found rest reply is
answer-found (nothing ∷ rest) reply is = answer-found rest reply is

answer-stands : (parts : List RowPart) (reply : RowMessageValue) → awaits parts ≡ false → answer_of (parts ++ answers reply ∷ []) ≡ answer_of parts
answer-stands [] reply is = absurd (cc is)
answer-stands (asks sent ∷ rest) reply is = refl
answer-stands (answers sent ∷ rest) reply is = refl
answer-stands (begins sent ∷ rest) reply is = answer-stands rest reply is
answer-stands (nothing ∷ rest) reply is = answer-stands rest reply is

answered-later : (item : PlacedItemValue) (items : List PlacedItemValue) (waiting : Option ℕ) (reply : RowMessageValue)
    → items_answered (item ∷ items) (place_later waiting) reply ≡ item ∷ items_answered items waiting reply
answered-later item items None reply = refl
answered-later item items (Some number) reply = refl

asked-by : (waits : Bool) (sent : RowMessageValue) (rest : List RowPart) (reply : RowMessageValue) → awaits rest ≡ waits
    → items_of (rest ++ answers reply ∷ []) ≡ items_answered (items_of rest) (waiting_of rest) reply
    → item_by sent (answer_of (rest ++ answers reply ∷ [])) ∷ items_of (rest ++ answers reply ∷ [])
    ≡ items_answered (item_by sent (answer_of rest) ∷ items_of rest) (place_by waits (waiting_of rest)) reply
asked-by true sent rest reply is later =
    let none : items_answered (items_of rest) (waiting_of rest) reply ≡ items_of rest = ap (λ w. items_answered (items_of rest) w reply) (none-waits rest is) in
    (λ i. item_by sent (answer-found rest reply is i) ∷ (later ∙ none) i)
asked-by false sent rest reply is later =
    (λ i. item_by sent (answer-stands rest reply is i) ∷ later i) ∙ sym (answered-later (item_by sent (answer_of rest)) (items_of rest) (waiting_of rest) reply)

pub items-answered : (parts : List RowPart) (reply : RowMessageValue) → items_of (parts ++ answers reply ∷ []) ≡ items_answered (items_of parts) (waiting_of parts) reply
items-answered [] reply = refl
items-answered (asks sent ∷ rest) reply = asked-by (awaits rest) sent rest reply refl (items-answered rest reply)
items-answered (answers sent ∷ rest) reply = items-answered rest reply
items-answered (begins sent ∷ rest) reply =
    ap (λ l. item_by sent None ∷ l) (items-answered rest reply) ∙ sym (answered-later (item_by sent None) (items_of rest) (waiting_of rest) reply)
items-answered (nothing ∷ rest) reply = items-answered rest reply

-- The request that waits is one of the items.

below-later : (waiting : Option ℕ) (count : ℕ) → IfSome waiting (λ number. number < count) → IfSome (place_later waiting) (λ number. number < suc count)
below-later None count below = tt
below-later (Some number) count below = omega (arith, below)

below-by : (waits : Bool) (waiting : Option ℕ) (count : ℕ) → IfSome waiting (λ number. number < count) → IfSome (place_by waits waiting) (λ number. number < suc count)
below-by true waiting count below = omega arith
below-by false waiting count below = below-later waiting count below

pub waiting-below : (parts : List RowPart) → IfSome (waiting_of parts) (λ number. number < length (items_of parts))
waiting-below [] = tt
waiting-below (asks sent ∷ rest) = below-by (awaits rest) (waiting_of rest) (length (items_of rest)) (waiting-below rest)
waiting-below (answers sent ∷ rest) = waiting-below rest
waiting-below (begins sent ∷ rest) = below-later (waiting_of rest) (length (items_of rest)) (waiting-below rest)
waiting-below (nothing ∷ rest) = waiting-below rest
