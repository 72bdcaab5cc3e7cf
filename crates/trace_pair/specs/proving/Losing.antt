-- Devices of proof: the losses that rows tell, one row after another.
use Rattle.std.specs.Prelude.{ℕ, ◌&&◌, List, [], ◌∷◌, nat_lt, Option, Some, None, if◌then◌else◌}
use Rattle.trace_report.specs.Rows.{RowValue}
use Rattle.pair_words.specs.declared.log.PairLog.{PairLog}
use Rattle.trace_pair.specs.Losses.{is_loss, loss_line, told_losses}

-- the rows that tell a loss
abbrev pub lost : List RowValue → List RowValue
lost [] = []
lost (row ∷ rows) = if is_loss row then row ∷ lost rows else lost rows

-- how many losses a row tells, if there is one
abbrev pub lost_if : Option RowValue → ℕ
lost_if None = 0
lost_if (Some row) = if is_loss row then 1 else 0

-- the loss that a row tells, if it tells one, and not as many as are told were told before
abbrev pub loss_if : PairLog → ℕ → Option RowValue → List ℕ
loss_if log told None = []
loss_if log told (Some row) = if is_loss row && nat_lt told told_losses then loss_line log row else []
