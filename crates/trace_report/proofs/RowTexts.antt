-- The rows of a report, said in parts: what stands after some of them, and their text, by those before and those
-- behind.
use Rattle.std.proofs.Common.{◌≡◌, ◌≤◌, ◌+◌, ℕ, Bool, List, [], ◌∷◌, ◌++◌, length, refl, ap, sym, ◌∙◌, append_assoc, arith, inl, inr}
use Rattle.std.proofs.lemmas.Bool.{cases_Bool}
use Rattle.uds_rules.specs.Rule.{RuleValue}
use Rattle.trace_report.specs.declared.blocks.Blocks.{Blocks}
use Rattle.isotp_receive.specs.Trace.{Entry}
use Rattle.trace_report.specs.Blocks.{begins_block, begins_exchange, blocks_behind, blocks_of, no_blocks, one_more_row}
use Rattle.trace_report.specs.Chart.{placed_text, rows_text}
use Rattle.trace_report.specs.Events.{rows_of}
use Rattle.trace_report.specs.Front.{PageTitleValue}
use Rattle.trace_report.specs.OtherAnswers.{asked_behind, asked_with, last_asked}
use Rattle.trace_report.specs.Rows.{RowValue}
use Rattle.trace_report.specs.Page.{rows_after}
use Rattle.trace_report.proofs.OtherAnswers.{asked_onward}

-- the blocks that stand after two lists of rows
pub blocks_onward : (blocks : Blocks) (rows others : List RowValue) → blocks_behind blocks (rows ++ others) ≡ blocks_behind (blocks_behind blocks rows) others
blocks_onward blocks [] others = refl
blocks_onward blocks (row ∷ rows) others = blocks_onward (one_more_row (begins_exchange row) blocks) rows others

-- the text of both
pub rows_onward : (rules : List RuleValue) (origin : ℕ) (blocks : Blocks) (asked : List ℕ) (rows others : List RowValue)
    → rows_text rules origin blocks asked (rows ++ others)
    ≡ rows_text rules origin blocks asked rows ++ rows_text rules origin (blocks_behind blocks rows) (asked_behind asked rows) others
rows_onward rules origin blocks asked [] others = refl
rows_onward rules origin blocks asked (row ∷ rows) others =
    let front = placed_text rules origin blocks asked row in
    let after = one_more_row (begins_exchange row) blocks in
    let later = asked_with asked row in
    ap (λ rest. front ++ rest) (rows_onward rules origin after later rows others)
    ∙ sym (append_assoc front (rows_text rules origin after later rows) (rows_text rules origin (blocks_behind after rows) (asked_behind later rows) others))

-- and behind the rows of a trace
pub rows_after_onward : (title : PageTitleValue) (limit : ℕ) (rules : List RuleValue) (origin : ℕ) (T : List Entry) (rows others : List RowValue)
    → rows_after title limit rules origin T (rows ++ others)
    ≡ rows_after title limit rules origin T rows
    ++ rows_text title.rules origin (blocks_behind (blocks_of (rows_of limit rules T)) rows) (asked_behind (last_asked (rows_of limit rules T)) rows) others
rows_after_onward title limit rules origin T rows others =
    rows_onward title.rules origin (blocks_of (rows_of limit rules T)) (last_asked (rows_of limit rules T)) rows others

-- no more blocks stand than there are rows, and no more rows in the last one
block_step : (exchange : Bool) (blocks : Blocks) → ((one_more_row exchange blocks).count ≤ blocks.count + 1) × ((one_more_row exchange blocks).rows ≤ blocks.rows + 1)
block_step exchange blocks =
    elim (cases_Bool (begins_block exchange blocks)) [ inl e ↦ rw e (omega arith, omega arith) | inr e ↦ rw e (omega arith, omega arith) ]

few_behind : (blocks : Blocks) (rows : List RowValue)
    → ((blocks_behind blocks rows).count ≤ blocks.count + length rows) × ((blocks_behind blocks rows).rows ≤ blocks.rows + length rows)
few_behind blocks [] = (omega arith, omega arith)
few_behind blocks (row ∷ rest) =
    let step = block_step (begins_exchange row) blocks in
    let later = few_behind (one_more_row (begins_exchange row) blocks) rest in
    (omega (arith, step.0, later.0), omega (arith, step.1, later.1))

pub few_blocks : (rows : List RowValue) → ((blocks_of rows).count ≤ length rows) × ((blocks_of rows).rows ≤ length rows)
few_blocks rows = (let few = few_behind no_blocks rows in (omega (arith, few.0), omega (arith, few.1)))

-- the text of three lists of rows, one behind the other
pub three_onward : (rules : List RuleValue) (origin : ℕ) (before a b c : List RowValue)
    → (rows_text rules origin (blocks_of before) (last_asked before) a ++ rows_text rules origin (blocks_of (before ++ a)) (last_asked (before ++ a)) b)
    ++ rows_text rules origin (blocks_of ((before ++ a) ++ b)) (last_asked ((before ++ a) ++ b)) c
    ≡ rows_text rules origin (blocks_of before) (last_asked before) ((a ++ b) ++ c)
three_onward rules origin before a b c =
    let start = blocks_of before in
    let asked = last_asked before in
    let first : blocks_of (before ++ a) ≡ blocks_behind start a = blocks_onward no_blocks before a in
    let second : blocks_of ((before ++ a) ++ b) ≡ blocks_behind start (a ++ b) =
    ap blocks_of (append_assoc before a b) ∙ blocks_onward no_blocks before (a ++ b) in
    let one : last_asked (before ++ a) ≡ asked_behind asked a = asked_onward [] before a in
    let two : last_asked ((before ++ a) ++ b) ≡ asked_behind asked (a ++ b) =
    ap last_asked (append_assoc before a b) ∙ asked_onward [] before (a ++ b) in
    (λ i. (rows_text rules origin start asked a ++ rows_text rules origin (first i) (one i) b)
    ++ rows_text rules origin (second i) (two i) c)
    ∙ ap (λ text. text ++ rows_text rules origin (blocks_behind start (a ++ b)) (asked_behind asked (a ++ b)) c) (sym (rows_onward rules origin start asked a b))
    ∙ sym (rows_onward rules origin start asked (a ++ b) c)
