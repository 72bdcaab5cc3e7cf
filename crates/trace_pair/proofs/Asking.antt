-- Whether some item asks, looked for in one after another.
use Rattle.std.proofs.Common.{◌≡◌, ℕ, ◌+◌, ◌≤◌, Bool, true, false, List, length, drop, Option, Some, None, ap, sym, ◌∙◌, arith}
use Rattle.std.specs.Prelude.{◌||◌, slice_get}
use Rattle.std.specs.List.{list_any}
use Rattle.std.proofs.lemmas.List.{drop_all}
use Rattle.uds_exchange.specs.Meaning.{ItemValue}
use Rattle.trace_pair.specs.Verdict.{is_exchange}
use Rattle.trace_pair.specs.proving.Changing.{asks_if}
use Rattle.pair_words.proofs.Promises.{drop-first, past-end}

-- one from a place on asks
abbrev pub asks_from : List ItemValue → ℕ → Bool
asks_from items at = list_any is_exchange (drop at items)

pub asks-none : (items : List ItemValue) (at : ℕ) → length items ≤ at → asks_from items at ≡ false
asks-none items at past = ap (list_any is_exchange) (drop_all at items past)

pub asks-here : (items : List ItemValue) (at : ℕ) (there : Option ItemValue) → slice_get items at ≡ there → asks_if there ≡ true → asks_from items at ≡ true
asks-here items at None is asks = absurd (cc asks)
asks-here items at (Some item) is asks =
    ap (list_any is_exchange) (drop-first items at item is) ∙ ap (λ (b : Bool). b || asks_from items (at + 1)) asks

pub asks-later : (items : List ItemValue) (at : ℕ) (there : Option ItemValue) → slice_get items at ≡ there → asks_if there ≡ false
    → asks_from items at ≡ asks_from items (at + 1)
asks-later items at None is asks =
    let past = past-end items at is in
    asks-none items at past ∙ sym (asks-none items (at + 1) (omega (arith, past)))
asks-later items at (Some item) is asks =
    ap (list_any is_exchange) (drop-first items at item is) ∙ ap (λ (b : Bool). b || asks_from items (at + 1)) asks
