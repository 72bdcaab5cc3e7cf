-- What a run over two logs comes to, by what the engine answered and what became of its text.
use Rattle.std.proofs.Common.{◌≡◌, ◌≢◌, ◌≤◌, ◌<◌, ◌+◌, ◌⊎◌, ◌↔◌, inl, inr, ℕ, Bool, true, false, true≢false, List, [], Result, Ok, Err, append-nil, arith, ap, refl, sym, subst, ◌∙◌}
use Rattle.std.specs.Prelude.{◌&&◌, not, is_ok, IfErr, if◌then◌else◌}
use Rattle.trace_canon.proofs.Promises.{collects_where_items}
use Rattle.trace_canon.specs.Compared.{Compares, fault_in}
use Rattle.trace_difference.specs.Written.{difference_text, written_rows}
use Rattle.trace_log.specs.Devices.{ReadFrom}
use Rattle.trace_text.specs.declared.notation.Notation.{Notation}
use Rattle.uds_difference.specs.Rows.{is_shortest, rows_of}
use Rattle.uds_difference.specs.declared.row.Row.{Row}
use Rattle.uds_rules.specs.Rule.{RuleValue}
use Rattle.trace_log.specs.Failing.{FailedIf}
use Rattle.trace_run.specs.Printed.{Prints}
use Rattle.trace_log.specs.Settings.{Settings}
use Rattle.trace_canon.specs.declared.collector.Session.{Session}
use Rattle.trace_canon.specs.declared.comparer.Compared.{Compared}
use Rattle.trace_canon.specs.declared.comparer.Comparison.{Comparison}
use Rattle.trace_canon.specs.declared.comparer.Comparison.TheVariants.{Same, Different}
use Rattle.trace_log.specs.declared.fault.CompareFault.{CompareFault}
use Rattle.trace_log.specs.declared.fault.CompareFault.TheVariants.{Left, Right}
use Rattle.trace_log.specs.declared.fault.Fault.{Fault}
use Rattle.trace_log.specs.declared.fault.Fault.TheVariants as fault
use Rattle.trace_io.specs.Written.{HasFront}
use Rattle.trace_io.specs.declared.device.Source.{Ghosts as SourceGhosts}
use Rattle.trace_io.specs.declared.device.Target.{Ghosts as TargetGhosts}
use Rattle.trace_report.specs.Kept.{KeepsTwo, KeptSessionsValue}
use Rattle.trace_pair.specs.Page.{pair_page}
use Rattle.trace_pair.specs.Titles.{title_for}
use Rattle.udsnorm.specs.Engines.{ComparesPair, NeedsMemoryForDifference, PagesPair, TextOfCompared, has_text, pair_of}
use Rattle.udsnorm.specs.Ending.{has_unclean, status_of_comparison, status_of_run_of_two}
use Rattle.udsnorm.specs.Status.{status_of}
use Rattle.udsnorm.specs.Telling.{WroteText}
use Rattle.udsnorm.specs.proving.Flushed.{FlushedIf}
use Rattle.trace_run.specs.Script.{GlimpseValue}
use Rattle.udsnorm.specs.proving.Pairs.{HasItems, answer_kept, answer_of, cause_in, text_of_answer}
use Rattle.udsnorm.specs.declared.pair_jobs.PairAnswer.{PairAnswer}
use Rattle.command_line.specs.declared.commands.PairJob.{PairJob}
use Rattle.command_line.specs.declared.commands.PairJob.TheVariants as pair_job
use Rattle.udsnorm.proofs.Statuses.{took_still}

-- ---- the engine

-- a comparison, without what the logs mean, and its text
pub compared_pair : (text : TextOfCompared) (strict : Bool) (limit : ℕ) (settings : Settings) (one other : List ℕ) (answer : Result Compared CompareFault) → Compares limit settings one other answer
    → ComparesPair text strict limit settings one other (answer_of answer) (text_of_answer strict text settings.rules answer)
compared_pair text strict limit settings one other (Ok compared) compares = (compared, compares, refl, refl)
compared_pair text strict limit settings one other (Err why) compares = (compares, refl)

-- where both logs were accepted, memory may be refused that their difference needs
pub refused_pair : (text : TextOfCompared) (strict : Bool) (limit : ℕ) (settings : Settings) (one other : List ℕ) (answer : Result Compared CompareFault) → HasItems answer
    → Compares limit settings one other answer → ComparesPair text strict limit settings one other (Err (Right fault.Memory)) []
refused_pair text strict limit settings one other (Ok compared) some compares = (((compared.left, compares.0), tt), refl)
refused_pair text strict limit settings one other (Err why) some compares = absurd some

-- and the left one means an item then, or the right one needs memory
pub needed_for_difference : (limit : ℕ) (settings : Settings) (one other : List ℕ) (answer : Result Compared CompareFault) → HasItems answer → Compares limit settings one other answer
    → NeedsMemoryForDifference limit settings one other
needed_for_difference limit settings one other (Ok compared) (inl some) compares = inl (compared.left.meaning, compares.0.accepted.means, some)
needed_for_difference limit settings one other (Ok compared) (inr some) compares = inr (collects_where_items limit settings other compared.right.meaning compares.1.accepted.means some)
needed_for_difference limit settings one other (Err why) some compares = absurd some

fault_told : (one other : CompareFault) → ◌≡◌ {A = Result PairAnswer CompareFault} (Err one) (Err other) → one ≡ other
fault_told one other is = cc

fault_kept : (one other : CompareFault) → ◌≡◌ {A = Result KeptSessionsValue CompareFault} (Err one) (Err other) → one ≡ other
fault_kept one other is = cc

none_told : (pair : PairAnswer) (why : CompareFault) → ◌≡◌ {A = Result PairAnswer CompareFault} (Ok pair) (Err why) → ⊥
none_told pair why is = cc

none_kept : (held : KeptSessionsValue) (why : CompareFault) → ◌≡◌ {A = Result KeptSessionsValue CompareFault} (Ok held) (Err why) → ⊥
none_kept held why is = cc

-- what was read of logs that are kept is told of their answer, too
read_held : {R : Type 0} (source : SourceGhosts R) (why : CompareFault) (max_bytes : ℕ) (answer : Result KeptSessionsValue CompareFault) (before after : R)
    → ReadFrom source why max_bytes answer before after → ReadFrom source why max_bytes (answer_kept answer) before after
read_held source why max_bytes (Ok held) before after read = record {
  over = read.over;
  gave = read.gave;
  ended = read.ended;
  within = read.within;
  calls = read.calls;
  progress = read.progress;
  failed = record { risen = λ is. absurd (none_told _ why is); same = λ other. read.failed.same (none_kept held why) };
}
read_held source why max_bytes (Err fault) before after read = record {
  over = tt;
  gave = read.gave;
  ended = read.ended;
  within = read.within;
  calls = read.calls;
  progress = read.progress;
  failed = record {
    risen = λ is. read.failed.risen (ap Err (fault_told fault why is));
    same = λ other. read.failed.same (λ is. other (ap Err (fault_kept fault why is)));
  };
}

pub read_told : {R : Type 0} (source : SourceGhosts R) (why : CompareFault) (max_bytes : ℕ) (answer : Result KeptSessionsValue CompareFault) (told : Result PairAnswer CompareFault) (before after : R)
    → told ≡ answer_kept answer → ReadFrom source why max_bytes answer before after → ReadFrom source why max_bytes told before after
read_told source why max_bytes answer told before after is read =
    subst (λ (a : Result PairAnswer CompareFault). ReadFrom source why max_bytes a before after) (sym is) (read_held source why max_bytes answer before after read)

-- two logs that are kept, without what they say, and their page
pub pages_pair : (style left_name right_name : List ℕ) (left_seen right_seen : GlimpseValue) (strict : Bool) (limit : ℕ) (settings : Settings) (one other : List ℕ) (answer : Result KeptSessionsValue CompareFault) → KeepsTwo limit settings one other answer
    → PagesPair left_name right_name left_seen right_seen strict limit settings one other (answer_kept answer)
    (pair_page (title_for style left_name right_name settings) answer (cause_in answer settings.max_bytes left_seen right_seen))
pages_pair style left_name right_name left_seen right_seen strict limit settings one other (Ok held) holds = (style, held, holds, refl, refl)
pages_pair style left_name right_name left_seen right_seen strict limit settings one other (Err why) holds = (style, holds, refl)

-- a fault of the answer is one of what the answer leaves out
pub fault_compared : (answer : Result Compared CompareFault) (why : CompareFault) → answer_of answer ≡ Err why → answer ≡ Err why
fault_compared (Ok compared) why is = cc
fault_compared (Err other) why is = cc

pub fault_held : (answer : Result KeptSessionsValue CompareFault) (why : CompareFault) → answer_kept answer ≡ Err why → answer ≡ Err why
fault_held (Ok held) why is = cc
fault_held (Err other) why is = cc

-- ---- the status

refused_high : (why : Fault) (status : ℕ) → status ≡ status_of why → status ≤ 1 → ⊥
refused_high (fault.BadLine line column) status is low = absurd (omega (arith, is, low))
refused_high (fault.Oversize line announced) status is low = absurd (omega (arith, is, low))
refused_high fault.LogLimit status is low = absurd (omega (arith, is, low))
refused_high fault.OutputLimit status is low = absurd (omega (arith, is, low))
refused_high fault.Read status is low = absurd (omega (arith, is, low))
refused_high fault.Write status is low = absurd (omega (arith, is, low))
refused_high fault.Memory status is low = absurd (omega (arith, is, low))

no_six : (unclean : Bool) (comparison : Comparison) (status : ℕ) → status ≡ (if unclean then 6 else status_of_comparison comparison) → status ≤ 1
    → (unclean ≡ false) × (status ≡ status_of_comparison comparison)
no_six true comparison status is low = absurd (omega (arith, is, low))
no_six false comparison status is low = (refl, is)

-- where the status is 0 or 1, the text was written, both logs were accepted, and are clean where they have to be
pub accepted_pair : (strict wrote : Bool) (answer : Result PairAnswer CompareFault) (status : ℕ) → status ≡ status_of_run_of_two wrote strict answer → status ≤ 1
    → (pair : PairAnswer) × (wrote ≡ true) × (answer ≡ Ok pair) × (has_unclean strict pair ≡ false) × (status ≡ status_of_comparison pair.comparison)
accepted_pair strict true (Ok pair) status is low =
    let well = no_six (has_unclean strict pair) pair.comparison status is low in
    (pair, refl, refl, well.0, well.1)
accepted_pair strict true (Err why) status is low = absurd (refused_high (fault_in why) status is low)
accepted_pair strict false answer status is low = absurd (omega (arith, is, low))

-- ---- a failed device

four_of_fault : (why : Fault) → status_of why ≡ 4 → why ≢ fault.Write → why ≡ fault.Read
four_of_fault (fault.BadLine line column) four well = absurd (omega (arith, four))
four_of_fault (fault.Oversize line announced) four well = absurd (omega (arith, four))
four_of_fault fault.LogLimit four well = absurd (omega (arith, four))
four_of_fault fault.OutputLimit four well = absurd (omega (arith, four))
four_of_fault fault.Read four well = refl
four_of_fault fault.Write four well = absurd (well refl)
four_of_fault fault.Memory four well = absurd (omega (arith, four))

is_read : (why : Fault) → (why ≡ fault.Read) ⊎ (why ≢ fault.Read)
is_read (fault.BadLine line column) = inr (λ is. cc)
is_read (fault.Oversize line announced) = inr (λ is. cc)
is_read fault.LogLimit = inr (λ is. cc)
is_read fault.OutputLimit = inr (λ is. cc)
is_read fault.Read = inl refl
is_read fault.Write = inr (λ is. cc)
is_read fault.Memory = inr (λ is. cc)

not_left : (pair : PairAnswer) → ◌≡◌ {A = Result PairAnswer CompareFault} (Ok pair) (Err (Left fault.Read)) → ⊥
not_left pair is = cc

not_right : (pair : PairAnswer) → ◌≡◌ {A = Result PairAnswer CompareFault} (Ok pair) (Err (Right fault.Read)) → ⊥
not_right pair is = cc

other_than_right : (why : Fault) → ◌≡◌ {A = Result PairAnswer CompareFault} (Err (Left why)) (Err (Right fault.Read)) → ⊥
other_than_right why is = cc

other_than_left : (why : Fault) → ◌≡◌ {A = Result PairAnswer CompareFault} (Err (Right why)) (Err (Left fault.Read)) → ⊥
other_than_left why is = cc

same_left : (why : Fault) → ◌≡◌ {A = Result PairAnswer CompareFault} (Err (Left why)) (Err (Left fault.Read)) → why ≡ fault.Read
same_left why is = cc

same_right : (why : Fault) → ◌≡◌ {A = Result PairAnswer CompareFault} (Err (Right why)) (Err (Right fault.Read)) → why ≡ fault.Read
same_right why is = cc

four_of_pair : (unclean : Bool) (comparison : Comparison) → ◌≡◌ {A = ℕ} (if unclean then 6 else status_of_comparison comparison) 4 → ⊥
four_of_pair true comparison four = absurd (omega (arith, four))
four_of_pair false Same four = absurd (omega (arith, four))
four_of_pair false (Different place) four = absurd (omega (arith, four))

-- where the text was written, none of the devices failed but by this answer
none_failed : (a a_now b b_now w w_now : ℕ) → a_now ≡ a → b_now ≡ b → w_now ≡ w → (a < a_now) ⊎ ((b < b_now) ⊎ (w < w_now)) → ⊥
none_failed a a_now b b_now w w_now left right output (inl more) = omega (arith, left, more)
none_failed a a_now b b_now w w_now left right output (inr (inl more)) = omega (arith, right, more)
none_failed a a_now b b_now w w_now left right output (inr (inr more)) = omega (arith, output, more)

-- the status is 4 exactly where a device failed
pub device_of_pair : (strict wrote : Bool) (answer : Result PairAnswer CompareFault) (status a a_now b b_now w w_now : ℕ) → FailedIf (Left fault.Read) answer a a_now
    → FailedIf (Right fault.Read) answer b b_now → w_now ≡ (if wrote then w else w + 1) → IfErr answer (λ f. fault_in f ≢ fault.Write) → status ≡ status_of_run_of_two wrote strict answer
    → (status ≡ 4) ↔ ((a < a_now) ⊎ ((b < b_now) ⊎ (w < w_now)))
device_of_pair strict false answer status a a_now b b_now w w_now left right output well is = (λ four. inr (inr (omega (arith, output))), λ failed. is)
device_of_pair strict true (Ok pair) status a a_now b b_now w w_now left right output well is = (
  λ four. absurd (four_of_pair (has_unclean strict pair) pair.comparison (sym is ∙ four)),
  λ failed. absurd (none_failed a a_now b b_now w w_now (left.same (not_left pair)) (right.same (not_right pair)) output failed),
)
device_of_pair strict true (Err (Left why)) status a a_now b b_now w w_now left right output well is = (
  λ four. inl (let risen = left.risen (ap (λ (f : Fault). Err (Left f)) (four_of_fault why (sym is ∙ four) well)) in omega (arith, risen)),
  by (is_read why),
)
  where
    by : (why ≡ fault.Read) ⊎ (why ≢ fault.Read) → (a < a_now) ⊎ ((b < b_now) ⊎ (w < w_now)) → status ≡ 4
    by (inl read) failed = is ∙ ap status_of read
    by (inr other) failed = absurd (none_failed a a_now b b_now w w_now (left.same (λ same. other (same_left why same))) (right.same (other_than_right why)) output failed)
device_of_pair strict true (Err (Right why)) status a a_now b b_now w w_now left right output well is = (
  λ four. inr (inl (let risen = right.risen (ap (λ (f : Fault). Err (Right f)) (four_of_fault why (sym is ∙ four) well)) in omega (arith, risen))),
  by (is_read why),
)
  where
    by : (why ≡ fault.Read) ⊎ (why ≢ fault.Read) → (a < a_now) ⊎ ((b < b_now) ⊎ (w < w_now)) → status ≡ 4
    by (inl read) failed = is ∙ ap status_of read
    by (inr other) failed = absurd (none_failed a a_now b b_now w w_now (left.same (other_than_left why)) (right.same (λ same. other (same_right why same))) output failed)

-- ---- where both logs were accepted

-- 0 is the status of logs that are the same
pub same_of_zero : (comparison : Comparison) → 0 ≡ status_of_comparison comparison → comparison ≡ Same
same_of_zero Same zero = refl
same_of_zero (Different place) zero = absurd (omega (arith, zero))

-- such an answer has a text
has_text_of_pair : (job : PairJob) (strict : Bool) (pair : PairAnswer) → has_unclean strict pair ≡ false → has_text job strict (Ok pair) ≡ true
has_text_of_pair (pair_job.Compare style) strict pair clean = ap not clean
has_text_of_pair (pair_job.Diff notation) strict pair clean = ap not clean
has_text_of_pair pair_job.Report strict pair clean = refl

pub has_text_then : (job : PairJob) (strict wrote : Bool) (answer : Result PairAnswer CompareFault) (status : ℕ) → status ≡ status_of_run_of_two wrote strict answer → status ≤ 1
    → has_text job strict answer ≡ true
has_text_then job strict wrote answer status is low =
    let done = accepted_pair strict wrote answer status is low in
    ap (has_text job strict) done.2 ∙ has_text_of_pair job strict done.0 done.3

-- ---- the text, and the flush behind it

never_failed : {A : Type 0} (value : A) → ◌≡◌ {A = Result A Fault} (Ok value) (Err fault.Write) → ⊥
never_failed value is = cc

-- what is known of a text that was printed
pub wrote_by_print : {A W : Type 0} (target : TargetGhosts W) (text : List ℕ) (old new : W) (result : Result A Fault) (wrote : Bool) → Prints target text old result new → wrote ≡ is_ok result
    → WroteText target text wrote old new
wrote_by_print target text old new (Ok value) wrote printed is = subst (λ (b : Bool). WroteText target text b old new) (sym is) (record {
  front = record { front = text; rest = []; parts = sym (append-nil text); wrote = printed.written };
  whole = λ well. printed.written;
  took = printed.wrote.took;
  failures = printed.wrote.failed.same (never_failed value);
  no_empty_write = printed.wrote.no_empty_write;
})
wrote_by_print target text old new (Err why) wrote printed is = subst (λ (b : Bool). WroteText target text b old new) (sym is) (record {
  front = printed.written;
  whole = λ well. absurd (true≢false (sym well));
  took = printed.wrote.took;
  failures = printed.wrote.failed.risen (ap Err printed.only);
  no_empty_write = printed.wrote.no_empty_write;
})

-- the text of a comparison of logs of which each is clean that has to be
pub text_of_clean : (strict : Bool) (text : TextOfCompared) (rules : List RuleValue) (compared : Compared) (answer : Result Compared CompareFault) → answer ≡ Ok compared → has_unclean strict (pair_of compared) ≡ false
    → text rules compared ≡ text_of_answer strict text rules answer
text_of_clean strict text rules compared answer is clean =
    sym (ap (text_of_answer strict text rules) is ∙ ap (λ (unclean : Bool). if unclean then [] else text rules compared) clean)

-- the text of a difference, by the rows that were found
pub difference_is : (rules : List RuleValue) (notation : Notation) (left_name right_name left_bytes right_bytes : List ℕ) (shortest : Bool) (rows : List Row) (left right : Session) → left_bytes ≡ left_name
    → right_bytes ≡ right_name → shortest ≡ is_shortest left.meaning right.meaning → rows ≡ rows_of left.meaning right.meaning
    → written_rows rules notation left_bytes right_bytes shortest rows left right ≡ difference_text rules notation left_name right_name left right
difference_is rules notation left_name right_name left_bytes right_bytes shortest rows left right one other told found = rw (one, other, told, found) refl

module _ {W : Type 0} (target : TargetGhosts W) where
  pub wrote_and_flushed : (text : List ℕ) (due wrote result : Bool) (first old new : W) → WroteText target text wrote first old → FlushedIf target (due && wrote) wrote old result new
      → WroteText target text result first new
  wrote_and_flushed text true true true first old new told (kept, failures, is_flushed, times) = record {
    front = subst (λ taken. HasFront (target.taken first) text taken) (sym kept.taken) told.front;
    whole = λ wrote. kept.taken ∙ told.whole wrote;
    took = took_still _ _ _ _ _ _ told.took kept.taken kept.told;
    failures = failures ∙ told.failures;
    no_empty_write = kept.no_empty_write ∙ told.no_empty_write;
  }
  wrote_and_flushed text true true false first old new told (kept, failures, times) = record {
    front = subst (λ taken. HasFront (target.taken first) text taken) (sym kept.taken) told.front;
    whole = λ wrote. absurd (true≢false (sym wrote));
    took = took_still _ _ _ _ _ _ told.took kept.taken kept.told;
    failures = failures ∙ ap (λ n. n + 1) told.failures;
    no_empty_write = kept.no_empty_write ∙ told.no_empty_write;
  }
  wrote_and_flushed text true false result first old new told (is, same) =
      subst (λ w. WroteText target text result first w) (sym same) (subst (λ b. WroteText target text b first old) (sym is) told)
  wrote_and_flushed text false wrote result first old new told (is, same) =
      subst (λ w. WroteText target text result first w) (sym same) (subst (λ b. WroteText target text b first old) (sym is) told)

  pub flushed_then : (due wrote result : Bool) (old new : W) → FlushedIf target (due && wrote) wrote old result new → due ≡ true → result ≡ true
      → (target.is_flushed new ≡ true) × (target.flushes new ≡ target.flushes old + 1)
  flushed_then true true true old new (kept, failures, is_flushed, times) is well = (is_flushed, times)
  flushed_then true true false old new ended is well = absurd (true≢false (sym well))
  flushed_then true false result old new (same, kept) is well = absurd (true≢false (sym well ∙ same))
  flushed_then false wrote result old new ended is well = absurd (true≢false (sym is))

  pub not_flushed_then : (due wrote result : Bool) (old new : W) → FlushedIf target (due && wrote) wrote old result new → result ≡ false → target.flushes new ≡ target.flushes old
  not_flushed_then true true true old new ended failed = absurd (true≢false failed)
  not_flushed_then true true false old new (kept, failures, times) failed = times
  not_flushed_then true false result old new (same, kept) failed = ap target.flushes kept
  not_flushed_then false wrote result old new (same, kept) failed = ap target.flushes kept

  pub at_most_once : (due wrote result : Bool) (old new : W) → FlushedIf target (due && wrote) wrote old result new → target.flushes new ≤ target.flushes old + 1
  at_most_once true true true old new (kept, failures, is_flushed, times) = omega (arith, times)
  at_most_once true true false old new (kept, failures, times) = omega (arith, times)
  at_most_once true false result old new (same, kept) = let times = ap target.flushes kept in omega (arith, times)
  at_most_once false wrote result old new (same, kept) = let times = ap target.flushes kept in omega (arith, times)

  pub left_alone_then : (due wrote result : Bool) (first old new : W) → FlushedIf target (due && wrote) wrote old result new → due ≡ false → (wrote ≡ true) × (old ≡ first)
      → (result ≡ true) × (new ≡ first)
  left_alone_then true wrote result first old new ended none left = absurd (true≢false none)
  left_alone_then false wrote result first old new (same, kept) none left = (same ∙ left.0, kept ∙ left.1)
