-- Devices of proof: what a chart is of, and its marks, without where they lie in memory.
use Rattle.std.specs.Prelude.{option_map}
use Rattle.trace_pair.specs.declared.counterparts.Charted.{Charted as LentChart}
use Rattle.trace_pair.specs.declared.counterparts.Marked.{Marked as LentMarks}
use Rattle.trace_pair.specs.Counterparts.{Charted, Marked}

-- what a chart is of, as its definitions have it
abbrev pub charted_of : LentChart → Charted
charted_of lent = record { log = lent.log; left = lent.sessions.left.now; right = lent.sessions.right.now; rows = lent.rows.now }

-- what a chart marks, as its definitions have it
abbrev pub marked_of : LentMarks → Marked
marked_of lent = record { begin = option_map (λ bytes. bytes.now) lent.begin; answer = option_map (λ bytes. bytes.now) lent.answer }
