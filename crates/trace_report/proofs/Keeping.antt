-- The rows of a session as they are kept, with one row more.
use Rattle.std.proofs.Common.{◌≡◌, ℕ, ◌+◌, ◌<◌, ◌^◌, ◌-◌, suc, zero, List, [], ◌∷◌, ◌++◌, length, map}
use Rattle.std.proofs.Common.{get_or, Option, None, refl, ap, sym, subst, ◌∙◌, arith, append-nil}
use Rattle.std.proofs.lemmas.List.{map-append, length-map}
use Rattle.uds_exchange.specs.Blocks.{GoesOn, Holds, IsInside, block_at, bytes_at}
use Rattle.uds_exchange.specs.declared.messages.Span.{Span}
use Rattle.uds_exchange.proofs.Promises.{message_stays}
use Rattle.trace_report.specs.Rows.{RowValue, message}
use Rattle.trace_report.specs.Sorts.{counts_in, sort_of}
use Rattle.trace_report.specs.declared.tally.SortCounts.{SortCounts}
use Rattle.trace_report.specs.declared.item_places.ItemPlace.{ItemPlace}
use Rattle.trace_report.specs.declared.kept_rows.KeptRow.{KeptRow}
use Rattle.trace_report.specs.declared.kept_rows.KeptRow.TheVariants as kept
use Rattle.trace_report.specs.proving.Keeping.{row_at, rows_at, IsLaid, AreLaid, AreKept, ArePlaced, begin_of}
use Rattle.trace_report.specs.proving.Keeping.{begin_places, begun_at, places_next, waiting_next}
use Rattle.trace_report.specs.proving.Tallying.{counts_with}
use Rattle.trace_report.specs.Items.{items_in}
use Rattle.trace_report.specs.proving.Keeping.{waiting_in}
use Rattle.trace_report.proofs.Beginning.{begins-more, begun-next}
use Rattle.trace_report.proofs.Placing.{row-more}
use Rattle.trace_report.proofs.Tallies.{counts_next}

-- no row
pub none-kept : (blocks : List (List ℕ)) (counts : SortCounts) → counts ≡ counts_in [] → AreKept blocks [] [] None counts
none-kept blocks counts are = record { laid = tt; placed = tt; begun = refl; waits = refl; counted = are }

pub laid-at : (blocks : List (List ℕ)) (rows : List KeptRow) (at : ℕ) (row : KeptRow) → AreLaid blocks rows → at < length rows → row ≡ get_or rows at row → IsLaid blocks row
laid-at blocks [] at row laid below is = absurd (omega arith)
laid-at blocks (first ∷ rest) zero row laid below is = rw is laid.0
laid-at blocks (first ∷ rest) (suc at) row laid below is = laid-at blocks rest at row laid.1 (omega arith) is

-- nothing is laid
pub goes-on-so : (blocks : List (List ℕ)) → GoesOn blocks blocks
goes-on-so blocks = record { blocks = omega arith; bytes = λ number. ([], sym (append-nil (block_at blocks number))) }

module _ (old new : List (List ℕ)) (on : GoesOn old new) where
  lies-still : (span : Span) → IsInside old span → Holds new span (bytes_at old span)
  lies-still span inside = message_stays old new on span (bytes_at old span) (record { inside = inside; bytes = refl })

  row-stays : (row : KeptRow) → IsLaid old row → row_at new row ≡ row_at old row
  row-stays (kept.Message sent bytes) laid = ap (message sent.role sent.dir sent.place) (lies-still bytes laid).bytes
  row-stays (kept.Missing what) laid = refl

  laid-still : (row : KeptRow) → IsLaid old row → IsLaid new row
  laid-still (kept.Message sent bytes) laid = (lies-still bytes laid).inside
  laid-still (kept.Missing what) laid = tt

  rows-stay : (rows : List KeptRow) → AreLaid old rows → rows_at new rows ≡ rows_at old rows
  rows-stay [] laid = refl
  rows-stay (row ∷ rest) laid = (λ i. row-stays row laid.0 i ∷ rows-stay rest laid.1 i)

  laid-more : (rows : List KeptRow) (row : KeptRow) → AreLaid old rows → IsLaid new row → AreLaid new (rows ++ row ∷ [])
  laid-more [] row laid one = (one, tt)
  laid-more (first ∷ rest) row laid one = (laid-still first laid.0, laid-more rest row laid.1 one)

  module _ (rows : List KeptRow) (row : KeptRow) (value : RowValue) (grown : List KeptRow) (laid : AreLaid old rows) (one : IsLaid new row) (is : row_at new row ≡ value)
      (all : grown ≡ rows ++ row ∷ []) where
    pub rows-more : rows_at new grown ≡ rows_at old rows ++ value ∷ []
    rows-more =
        ap (rows_at new) all ∙ map-append (row_at new) rows (row ∷ []) ∙ (λ i. rows-stay rows laid i ++ is i ∷ [])

    pub kept-more : (places places-then : List ItemPlace) (waiting waiting-then : Option ℕ) (counts counts-then : SortCounts) (at : ℕ)
        → ArePlaced (rows_at old rows) places (items_in (rows_at old rows)) → map begin_of places ≡ begin_places 0 (rows_at old rows) → waiting ≡ waiting_in (rows_at old rows) → counts ≡ counts_in (rows_at old rows)
        → at ≡ length rows → length rows < 2 ^ 64 - 1
        → places-then ≡ places_next value places waiting at → waiting-then ≡ waiting_next value places waiting → counts-then ≡ counts_with (sort_of value) counts
        → AreKept new grown places-then waiting-then counts-then
    kept-more places places-then waiting waiting-then counts counts-then at placed begun waits counted end few places-are waiting-is counts-are =
        let values = rows_at old rows in
        let many : length values ≡ length rows = length-map rows (row_at old) in
        let next = row-more values places waiting placed waits value in
        let at-end : at ≡ length values = end ∙ sym many in
        let stands : ArePlaced (values ++ value ∷ []) places-then (items_in (values ++ value ∷ [])) =
        subst (λ l. ArePlaced (values ++ value ∷ []) l (items_in (values ++ value ∷ []))) (sym (places-are ∙ ap (places_next value places waiting) at-end)) next.0 in
        let from-start : 0 + length values ≡ length values = omega arith in
        let begun-then : map begin_of places-then ≡ begin_places 0 (values ++ value ∷ []) =
        ap (map begin_of) (places-are ∙ ap (places_next value places waiting) at-end) ∙ begun-next value places waiting (length values)
        ∙ ap (λ (l : List ℕ). l ++ begun_at value (length values)) begun ∙ ap (λ (n : ℕ). begin_places 0 values ++ begun_at value n) (sym from-start)
        ∙ sym (begins-more 0 values value) in
        let counted-then : counts-then ≡ counts_in (values ++ value ∷ []) =
        counts_next values value (omega (arith, few, many)) counts-then (counts-are ∙ ap (counts_with (sort_of value)) counted) in
        record {
          laid = subst (AreLaid new) (sym all) (laid-more rows row laid one);
          placed = subst (λ l. ArePlaced l places-then (items_in l)) (sym rows-more) stands;
          begun = subst (λ l. map begin_of places-then ≡ begin_places 0 l) (sym rows-more) begun-then;
          waits = subst (λ l. waiting-then ≡ waiting_in l) (sym rows-more) (waiting-is ∙ next.1);
          counted = subst (λ l. counts-then ≡ counts_in l) (sym rows-more) counted-then;
        }
