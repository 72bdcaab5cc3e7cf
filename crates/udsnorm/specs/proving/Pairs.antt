-- Devices of proof: an answer of `compare`, what is told of it, and its text.
use Rattle.std.specs.Prelude.{◌≢◌, ◌⊎◌, ℕ, Bool, List, [], Option, None, Result, Ok, Err}
use Rattle.trace_canon.specs.declared.comparer.Compared.{Compared}
use Rattle.trace_log.specs.declared.fault.CompareFault.{CompareFault}
use Rattle.trace_report.specs.Kept.{KeptSessionsValue}
use Rattle.trace_pair.specs.Page.{cause_of_pair}
use Rattle.trace_report.specs.declared.cause.RefusalCause.{RefusalCause}
use Rattle.trace_run.specs.Script.{GlimpseValue}
use Rattle.uds_rules.specs.Rule.{RuleValue}
use Rattle.udsnorm.specs.Engines.{TextOfCompared, pair_kept, pair_of, text_of_compared}
use Rattle.udsnorm.specs.declared.pair_jobs.PairAnswer.{PairAnswer}

-- an answer, without what the logs mean
abbrev pub answer_of : Result Compared CompareFault → Result PairAnswer CompareFault
answer_of (Ok compared) = Ok (pair_of compared)
answer_of (Err fault) = Err fault

-- what is written of it
abbrev pub text_of_answer : Bool → TextOfCompared → List RuleValue → Result Compared CompareFault → List ℕ
text_of_answer strict text rules (Ok compared) = text_of_compared strict text rules compared
text_of_answer strict text rules (Err fault) = []

-- both logs were accepted, and one of them means an item
abbrev pub HasItems : Result Compared CompareFault → Type 0
HasItems (Ok compared) = (compared.left.meaning ≢ []) ⊎ (compared.right.meaning ≢ [])
HasItems (Err fault) = ⊥

-- an answer about logs that are kept, without what they say
abbrev pub answer_kept : Result KeptSessionsValue CompareFault → Result PairAnswer CompareFault
answer_kept (Ok held) = Ok (pair_kept held)
answer_kept (Err fault) = Err fault

-- the cause of a refusal of one of two logs with this limit, by what is seen of both sources
abbrev pub cause_in : Result KeptSessionsValue CompareFault → ℕ → GlimpseValue → GlimpseValue → Option RefusalCause
cause_in (Ok held) max_bytes left_seen right_seen = None
cause_in (Err fault) max_bytes left_seen right_seen = cause_of_pair fault max_bytes left_seen right_seen
