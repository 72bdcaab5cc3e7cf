-- Items by where their messages lie, in blocks that go on.
use Rattle.std.proofs.Common.{◌≡◌, ℕ, ◌<◌, suc, zero, List, [], ◌∷◌, ◌++◌, length, get_or, Some, None, option_map, refl, sym, subst, ◌∙◌, ap, arith}
use Rattle.std.specs.Prelude.{slice_get, slice_set}
use Rattle.std.proofs.lemmas.List.{map-append, map-set, length-map}
use Rattle.std.proofs.lemmas.Option.{slice_get_read, slice_get-map, same_Some}
use Rattle.uds_exchange.specs.declared.meaning.KeptItem.{KeptItem}
use Rattle.uds_exchange.specs.declared.meaning.KeptItem.TheVariants as kept
use Rattle.uds_exchange.specs.declared.messages.Span.{Span}
use Rattle.uds_exchange.specs.Meaning.{ItemValue, exchange}
use Rattle.uds_exchange.specs.Blocks.{bytes_at, Holds, GoesOn}
use Rattle.uds_exchange.specs.proving.KeptItems.{item_at, items_at, IsKeptIn, AreKeptIn}
use Rattle.uds_exchange.proofs.InBlocks.{inside-on, bytes_at-on}

pub length-items_at : (blocks : List (List ℕ)) (items : List KeptItem) → length (items_at blocks items) ≡ length items
length-items_at blocks items = length-map items (item_at blocks)

pub kept-at : (blocks : List (List ℕ)) (items : List KeptItem) (i : ℕ) (it : KeptItem) → AreKeptIn blocks items → i < length items
    → it ≡ get_or items i it → IsKeptIn blocks it
kept-at blocks [] i it all below is = absurd (omega arith)
kept-at blocks (first ∷ later) zero it all below is = rw is all.0
kept-at blocks (first ∷ later) (suc i) it all below is = kept-at blocks later i it all.1 (omega arith) is

-- the place of an exchange without an answer
request-of : (blocks : List (List ℕ)) (it : KeptItem) (request : List ℕ) → item_at blocks it ≡ exchange request None
    → (span : Span) × (it ≡ kept.Exchange span None) × (bytes_at blocks span ≡ request)
request-of blocks (kept.Exchange span None) request is = (span, refl, cc)
request-of blocks (kept.Exchange span (Some answer)) request is = cc
request-of blocks (kept.Stray dir span) request is = cc

module _ (old new : List (List ℕ)) (on : GoesOn old new) where
  kept-on : (it : KeptItem) → IsKeptIn old it → IsKeptIn new it
  kept-on (kept.Exchange request None) its = (inside-on old new on request its.0, tt)
  kept-on (kept.Exchange request (Some answer)) its = (inside-on old new on request its.0, inside-on old new on answer its.1)
  kept-on (kept.Stray dir span) its = inside-on old new on span its

  item_at-on : (it : KeptItem) → IsKeptIn old it → item_at new it ≡ item_at old it
  item_at-on (kept.Exchange request None) its = ap (λ r. exchange r None) (bytes_at-on old new on request its.0)
  item_at-on (kept.Exchange request (Some answer)) its = rw (bytes_at-on old new on request its.0, bytes_at-on old new on answer its.1) refl
  item_at-on (kept.Stray dir span) its = rw (bytes_at-on old new on span its) refl

  items_at-on : (items : List KeptItem) → AreKeptIn old items → items_at new items ≡ items_at old items
  items_at-on [] all = refl
  items_at-on (first ∷ later) all = rw (item_at-on first all.0, items_at-on later all.1) refl

  are-kept-on : (items : List KeptItem) → AreKeptIn old items → AreKeptIn new items
  are-kept-on [] all = tt
  are-kept-on (first ∷ later) all = (kept-on first all.0, are-kept-on later all.1)

  are-kept-push : (items : List KeptItem) (it : KeptItem) → AreKeptIn old items → IsKeptIn new it → AreKeptIn new (items ++ it ∷ [])
  are-kept-push [] it all one = (one, tt)
  are-kept-push (first ∷ later) it all one = (kept-on first all.0, are-kept-push later it all.1 one)

  are-kept-set : (items : List KeptItem) (i : ℕ) (it : KeptItem) → AreKeptIn old items → IsKeptIn new it → AreKeptIn new (slice_set items i it)
  are-kept-set [] i it all one = tt
  are-kept-set (first ∷ later) zero it all one = (one, are-kept-on later all.1)
  are-kept-set (first ∷ later) (suc i) it all one = (kept-on first all.0, are-kept-set later i it all.1 one)

  module _ (items : List KeptItem) (all : AreKeptIn old items) where
    pub pushed-kept : (it : KeptItem) (grown : List KeptItem) → grown ≡ items ++ it ∷ [] → IsKeptIn new it → AreKeptIn new grown
    pushed-kept it grown same its = rw same (are-kept-push items it all its)

    pub pushed-items : (it : KeptItem) (grown : List KeptItem) (value : ItemValue) → grown ≡ items ++ it ∷ [] → item_at new it ≡ value
        → items_at new grown ≡ items_at old items ++ value ∷ []
    pushed-items it grown value same means =
        ap (items_at new) same
        ∙ map-append (item_at new) items (it ∷ [])
        ∙ ap (λ l. l ++ item_at new it ∷ []) (items_at-on items all)
        ∙ ap (λ v. items_at old items ++ v ∷ []) means

    module _ (i : ℕ) (it : KeptItem) (below : i < length items) (there : it ≡ get_or items i it) where
      pub answered-kept : (now : KeptItem) → (IsKeptIn new it → IsKeptIn new now) → AreKeptIn new (slice_set items i now)
      answered-kept now keeps = are-kept-set items i now all (keeps (kept-on it (kept-at old items i it all below there)))

      pub answered-items : (now : KeptItem) (request answer : List ℕ) (span : Span) → Holds new span answer
          → ((own : Span) → it ≡ kept.Exchange own None → now ≡ kept.Exchange own (Some span))
          → slice_get (items_at old items) i ≡ Some (exchange request None)
          → items_at new (slice_set items i now) ≡ slice_set (items_at old items) i (exchange request (Some answer))
      answered-items now request answer span held answered found =
          let here : item_at old it ≡ exchange request None =
          same_Some _ _ (sym (slice_get-map (item_at old) items i
          ∙ ap (option_map (item_at old)) (slice_get_read items (length items) i it refl below there)) ∙ found) in
          let at = request-of old it request here in
          let its = subst (λ p. IsKeptIn old p) at.1 (kept-at old items i it all below there) in
          let means : item_at new now ≡ exchange request (Some answer) =
          ap (item_at new) (answered at.0 at.1)
          ∙ ap (λ r. exchange r (Some (bytes_at new span))) (bytes_at-on old new on at.0 its.0 ∙ at.2)
          ∙ ap (λ a. exchange request (Some a)) held.bytes in
          map-set (item_at new) items i now
          ∙ ap (λ l. slice_set l i (item_at new now)) (items_at-on items all)
          ∙ ap (slice_set (items_at old items) i) means
