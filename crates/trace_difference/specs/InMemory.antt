-- What is answered of where two logs differ that lie in memory. No device fails there: what has no text is refused, or
-- memory was.
use Rattle.std.specs.Prelude.{◌≡◌, ◌≢◌, ◌⊎◌, ⊤, ℕ, List, [], Result, Ok, Err}
use Rattle.trace_canon.specs.Compared.{Compares, fault_in}
use Rattle.trace_canon.specs.InMemory.{IsOfMemory, NeedsMemoryOnSide, counted_comparison}
use Rattle.trace_canon.specs.declared.comparer.Compared.{Compared}
use Rattle.trace_canon.specs.declared.in_memory.CountedComparison.{CountedComparison}
use Rattle.trace_log.specs.Settings.{Settings}
use Rattle.trace_log.specs.declared.fault.CompareFault.{CompareFault}
use Rattle.trace_log.specs.declared.fault.CompareFault.TheVariants.{Right}
use Rattle.trace_log.specs.declared.fault.Fault.TheVariants.{Memory}
use Rattle.trace_text.specs.declared.notation.Notation.{Notation}
use Rattle.trace_text.specs.declared.notation.Notation.TheVariants.{Text, Json}
use Rattle.trace_difference.specs.Written.{difference_text}

-- how the meanings of two logs compare, and what these are; or why one log has none, where memory was refused only for one
-- that needs it
abbrev pub ComparesInMemory : ℕ → Settings → List ℕ → List ℕ → Result Compared CompareFault → Type 0
ComparesInMemory limit settings one other (Ok compared) = Compares limit settings one other (Ok compared)
ComparesInMemory limit settings one other (Err fault) =
    Compares limit settings one other (Err fault) × IsOfMemory (NeedsMemoryOnSide limit settings one other fault) (fault_in fault)

-- both logs are accepted; this is the text of where they differ, in this notation and with these names; and so they
-- compare, and these are the counts of each
abbrev pub IsDifferenceWith : Notation → List ℕ → List ℕ → ℕ → Settings → List ℕ → List ℕ → List ℕ → CountedComparison → Type 0
IsDifferenceWith notation left_name right_name limit settings one other text counted =
    (compared : Compared) × Compares limit settings one other (Ok compared)
    × (text ≡ difference_text settings.rules notation left_name right_name compared.left compared.right)
    × (counted ≡ counted_comparison compared)

-- one of two accepted logs means an item
abbrev pub HasItems : Compared → Type 0
HasItems compared = (compared.left.meaning ≢ []) ⊎ (compared.right.meaning ≢ [])

-- Memory is needed to gather the text of where two accepted logs differ: in words where one of them means an item; as
-- objects whichever they are, for each text has the counts.
abbrev pub NeedsMemoryForText : Notation → Compared → Type 0
NeedsMemoryForText Text compared = HasItems compared
NeedsMemoryForText Json compared = ⊤

-- two logs have no such text: one has no meaning, or memory was refused, which it needs; or, where both are accepted,
-- memory was that the text needs, which is told of the right one
abbrev pub HasNoDifferenceText : Notation → ℕ → Settings → List ℕ → List ℕ → CompareFault → Type 0
HasNoDifferenceText notation limit settings one other fault =
    ComparesInMemory limit settings one other (Err fault)
    ⊎ ((fault ≡ Right Memory) × ((compared : Compared) × Compares limit settings one other (Ok compared) × NeedsMemoryForText notation compared))
