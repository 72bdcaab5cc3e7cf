-- What a contract sees of a reader or a writer that counts.
use Rattle.std.specs.Prelude.{ℕ, Bool, List, ◌≤◌, ◌^◌}

-- a reader, with its calls, those that failed, whether the last one told the end, and the bytes that they gave
pub record CountedReader (R : Type 0) : Type 0 where
  pub inner : R
  pub reads : ℕ
  pub failures : ℕ
  pub is_over : Bool
  pub given : List ℕ

-- a writer, with its calls that failed, whether a write took nothing and did not fail, whether it was flushed and took no
-- write since, the flushes that did not fail, and the bytes that its writes took
pub record CountedWriter (W : Type 0) : Type 0 where
  pub inner : W
  pub failures : ℕ
  pub had_empty_write : Bool
  pub is_flushed : Bool
  pub flushes : ℕ
  pub taken : List ℕ

-- bytes in memory: those still to come, the reads, whether the last one told the end, and the bytes that they gave
pub record BytesInMemory : Type 0 where
  pub rest : List ℕ
  pub reads : ℕ
  pub is_over : Bool
  pub given : List ℕ

-- a byte without end, with the reads and the bytes that they gave
pub record EndlessBytes : Type 0 where
  pub byte : ℕ
  pub reads : ℕ
  pub given : ℕ

-- a count that leaves room for one run of an engine: of at most 2^62 more it is at most 2^63
abbrev pub IsLowCount : ℕ → Type 0
IsLowCount count = count ≤ 2 ^ 62

-- the counts of a source leave room for one run
pub record AreLowCounts (reads given failures : ℕ) : Type 0 where
  pub few_reads : IsLowCount reads
  pub few_given : IsLowCount given
  pub few_failures : IsLowCount failures
