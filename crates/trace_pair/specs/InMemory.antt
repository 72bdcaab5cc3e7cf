-- What is answered of a page of two logs that lie in memory. No device fails there: what has no page can't be read, or
-- memory was refused.
use Rattle.std.specs.Prelude.{◌≡◌, ℕ, List, Result, Ok, Err}
use Rattle.trace_canon.specs.Compared.{fault_in}
use Rattle.trace_canon.specs.InMemory.{IsOfMemory}
use Rattle.trace_canon.specs.declared.in_memory.CountedComparison.{CountedComparison}
use Rattle.trace_log.specs.Settings.{Settings}
use Rattle.trace_log.specs.declared.fault.CompareFault.{CompareFault}
use Rattle.trace_log.specs.declared.fault.CompareFault.TheVariants.{Left, Right}
use Rattle.trace_report.specs.Kept.{HasOwnFrame, KeepsTwo, KeptSessionsValue}
use Rattle.trace_pair.specs.Compared.{comparison_in}
use Rattle.trace_pair.specs.Page.{page_of}
use Rattle.trace_pair.specs.Titles.{TitleValue}
use Rattle.trace_pair.specs.declared.in_memory.NoPairPage.{NoPairPage}
use Rattle.trace_pair.specs.declared.in_memory.NoPairPage.TheVariants.{OfLog, OfMemory}

-- how two logs compare that are kept, and the counts of each
abbrev pub counted_two : KeptSessionsValue → CountedComparison
counted_two held = record { comparison = comparison_in held; left = held.left.summary; right = held.right.summary }

-- both logs can be read; this is their page with this title; and so they compare, and these are the counts of each
abbrev pub IsPairPageWith : TitleValue → ℕ → Settings → List ℕ → List ℕ → List ℕ → CountedComparison → Type 0
IsPairPageWith title limit settings one other text counted =
    (held : KeptSessionsValue) × KeepsTwo limit settings one other (Ok held) × (text ≡ page_of title held.left held.right) × (counted ≡ counted_two held)

-- memory is needed to keep the log of which a fault tells: it has a frame of one of the two sides
abbrev pub NeedsMemoryToKeep : Settings → List ℕ → List ℕ → CompareFault → Type 0
NeedsMemoryToKeep settings one other (Left fault) = HasOwnFrame settings one
NeedsMemoryToKeep settings one other (Right fault) = HasOwnFrame settings other

-- what both logs say, or why one of them can't be read
abbrev pub KeepsInMemory : ℕ → Settings → List ℕ → List ℕ → Result KeptSessionsValue CompareFault → Type 0
KeepsInMemory limit settings one other (Ok held) = KeepsTwo limit settings one other (Ok held)
KeepsInMemory limit settings one other (Err fault) =
    KeepsTwo limit settings one other (Err fault) × IsOfMemory (NeedsMemoryToKeep settings one other fault) (fault_in fault)

-- two logs have no page: a log can't be read, or memory was refused, which it needs; or, where both can be read, memory
-- for the page was
abbrev pub HasNoPairPage : ℕ → Settings → List ℕ → List ℕ → NoPairPage → Type 0
HasNoPairPage limit settings one other (OfLog fault) = KeepsInMemory limit settings one other (Err fault)
HasNoPairPage limit settings one other OfMemory = (held : KeptSessionsValue) × KeepsTwo limit settings one other (Ok held)
