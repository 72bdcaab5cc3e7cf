-- What was done where the exit status is 0.
use Rattle.std.proofs.Common.{◌≡◌, [], refl, ◌≤◌, ◌+◌, ℕ, inl, inr, List, ◌++◌, Option, Some, None, Result, Ok, Err, arith, ap, sym, subst, ◌∙◌, Bool, false}
use Rattle.std.specs.Prelude.{OnOk, string_bytes}
use Rattle.isotp_receive.specs.declared.TheConstants.{MESSAGE_LIMIT}
use Rattle.clap.specs.Walk.{Text}
use Rattle.trace_log.specs.Settings.{Settings}
use Rattle.trace_canon.specs.declared.comparer.Comparison.TheVariants.{Same}
use Rattle.trace_log.specs.declared.fault.CompareFault.{CompareFault}
use Rattle.trace_log.specs.declared.fault.Fault.{Fault}
use Rattle.trace_log.specs.declared.summary.Summary.{Summary}
use Rattle.trace_io.specs.declared.device.Source.{Ghosts as SourceGhosts}
use Rattle.trace_io.specs.declared.device.Target.{Ghosts as TargetGhosts}
use Rattle.trace_io.specs.Counted.{CountedReader}
use Rattle.udsnorm.specs.Asked.{Did, DidAsked, DidWords, IsDone, IsDoneBy, ToldWords, nothing_seen}
use Rattle.udsnorm.specs.Opening.{Saying}
use Rattle.udsnorm.specs.Ending.{flushes, has_unclean, is_unclean, status_of_run_of_two}
use Rattle.trace_run.specs.Script.{GlimpseValue, glimpse_of}
use Rattle.udsnorm.specs.Engines.{EngineAnswers, PairEngineAnswers}
use Rattle.command_line.specs.declared.commands.Job.TheVariants as job
use Rattle.command_line.specs.declared.commands.PairJob.TheVariants as pair_job
use Rattle.command_line.specs.Values.{page_name, shown_name}
use Rattle.udsnorm.specs.Run.{RanOne, RanTwo}
use Rattle.udsnorm.specs.Telling.{WroteText}
use Rattle.command_line.specs.Words.{IsPlanned}
use Rattle.command_line.specs.declared.commands.Job.{Job}
use Rattle.udsnorm.specs.declared.pair_jobs.PairAnswer.{PairAnswer}
use Rattle.command_line.specs.declared.commands.PairJob.{PairJob}
use Rattle.udsnorm.specs.declared.ended.Known.{Known}
use Rattle.command_line.specs.declared.job.Plan.{Plan}
use Rattle.command_line.specs.declared.job.Plan.TheVariants.{One, Two}
use Rattle.command_line.specs.declared.job.WordsFault.{WordsFault}
use Rattle.command_line.specs.declared.job.WordsFault.TheVariants as words
use Rattle.command_line.specs.declared.seen_profile.SeenProfile.{SeenProfile}
use Rattle.udsnorm.proofs.Pairs.{accepted_pair, same_of_zero}
use Rattle.udsnorm.proofs.Statuses.{agrees_from_start, answers_from_start, answers_on_more, summary_of_done}

-- what holds of an answer that is well
of_well : {A E X : Type 0} {answer : Result A E} {value : A} → answer ≡ Ok value → OnOk answer X → X
of_well {A} {E} {X} is holds = subst (λ (a : Result A E). OnOk a X) is holds

is_not_four : (status : ℕ) → status ≡ 0 → status ≡ 4 → ⊥
is_not_four status zero four = absurd (omega (arith, zero, four))

-- what is seen of a source says nothing of a log that is accepted
unseen : (job : Job) (name : List ℕ) (seen : GlimpseValue) (settings : Settings) (log : List ℕ) (n : ℕ) (summary : Summary) (old new : List ℕ)
    → EngineAnswers job name seen MESSAGE_LIMIT settings log n (Ok summary) old new → EngineAnswers job name nothing_seen MESSAGE_LIMIT settings log n (Ok summary) old new
unseen job.Normalise name seen settings log n summary old new answers = answers
unseen (job.List style) name seen settings log n summary old new answers = answers
unseen (job.Watch style) name seen settings log n summary old new answers = answers
unseen (job.Explain notation) name seen settings log n summary old new answers = answers
unseen (job.Messages notation) name seen settings log n summary old new answers = answers
unseen job.Report name seen settings log n summary old new (style, told) = (style, told)
unseen (job.Find notation) name seen settings log n summary old new answers = answers

unseen_pair : (job : PairJob) (left_name right_name : List ℕ) (left_seen right_seen : GlimpseValue) (strict : Bool) (settings : Settings) (one other : List ℕ) (pair : PairAnswer) (text : List ℕ)
    → PairEngineAnswers job left_name right_name left_seen right_seen strict MESSAGE_LIMIT settings one other (Ok pair) text
    → PairEngineAnswers job left_name right_name nothing_seen nothing_seen strict MESSAGE_LIMIT settings one other (Ok pair) text
unseen_pair (pair_job.Compare style) left_name right_name left_seen right_seen strict settings one other pair text answers = answers
unseen_pair (pair_job.Diff notation) left_name right_name left_seen right_seen strict settings one other pair text answers = answers
unseen_pair pair_job.Report left_name right_name left_seen right_seen strict settings one other pair text answers = answers

-- the logs are the same, and clean where they have to be, and the output took the text of that
same_of_done : {W : Type 0} (output : TargetGhosts W) (job : PairJob) (left_name right_name : List ℕ) (left_seen right_seen : GlimpseValue) (strict wrote : Bool) (settings : Settings) (one other : List ℕ)
    (answer : Result PairAnswer CompareFault) (text : List ℕ) (status : ℕ) (old new : W)
    → PairEngineAnswers job left_name right_name left_seen right_seen strict MESSAGE_LIMIT settings one other answer text → status ≡ status_of_run_of_two wrote strict answer
    → WroteText output text wrote old new → status ≡ 0
    → (pair : PairAnswer) × (has_unclean strict pair ≡ false) × (pair.comparison ≡ Same)
    × PairEngineAnswers job left_name right_name nothing_seen nothing_seen strict MESSAGE_LIMIT settings one other (Ok pair) text × (output.taken new ≡ output.taken old ++ text)
same_of_done output job left_name right_name left_seen right_seen strict wrote settings one other answer text status old new engine is told zero =
    let done = accepted_pair strict wrote answer status is (omega (arith, zero)) in (
      done.0,
      done.3,
      same_of_zero done.0.comparison (sym zero ∙ done.4),
      unseen_pair job left_name right_name left_seen right_seen strict settings one other done.0 text
          (subst (λ a. PairEngineAnswers job left_name right_name left_seen right_seen strict MESSAGE_LIMIT settings one other a text) done.2 engine),
      told.whole done.1,
    )

accepted : (job : Job) (name : List ℕ) (seen : GlimpseValue) (strict : Bool) (settings : Settings) (log : List ℕ) (n : ℕ) (answer : Result Summary Fault) (old new : List ℕ)
    → EngineAnswers job name seen MESSAGE_LIMIT settings log n answer old new → (summary : Summary) × (answer ≡ Ok summary) × (is_unclean strict summary ≡ false)
    → (summary : Summary) × (is_unclean strict summary ≡ false) × EngineAnswers job name nothing_seen MESSAGE_LIMIT settings log n (Ok summary) old new
accepted job name seen strict settings log n answer old new engine is =
    (is.0, is.2, unseen job name seen settings log n is.0 old new (subst (λ a. EngineAnswers job name seen MESSAGE_LIMIT settings log n a old new) is.1 engine))

done_by : {F R W E : Type 0} (says : Saying F → Type 0) (file : SourceGhosts (CountedReader F)) (source : SourceGhosts R) (output : TargetGhosts W) (errors : TargetGhosts E) (asked : Result Plan WordsFault)
    (before : R) (old : W) (unsaid : E) (status : ℕ) (known : Option Known) (after : R) (new : W) (said : E) (log : List ℕ)
    → DidAsked says file source output errors asked before old unsaid status known after new said
    → status ≡ 0 → source.given after ≡ source.given before ++ log → IsDoneBy says file asked log (output.taken old) (output.taken new)
done_by says file source output errors (Ok (One job strict settings None)) before old unsaid status known after new said log (outcome, ran, known_is) zero grown =
    let is = summary_of_done strict (flushes ran.answer (output.taken new)) ran.answer outcome status ran.comes ran.status_is zero in
    accepted job (page_name None) (glimpse_of source after) strict settings log _ ran.answer (output.taken old) (output.taken new)
    (answers_on_more job (page_name None) (glimpse_of source after) MESSAGE_LIMIT settings (source.given before) (source.given after) log (source.is_over after) ran.answer (output.taken old) (output.taken new) grown ran.engine) is
done_by says file source output errors (Ok (One job strict settings (Some name))) before old unsaid status known after new said log (same, inl found) zero grown =
    let ran = found.ran in
    let log = file.given found.left in
    let is = summary_of_done strict (flushes ran.answer (output.taken new)) ran.answer found.outcome status ran.comes ran.status_is zero in
    let done = accepted job (page_name (Some (string_bytes name))) (glimpse_of file found.left) strict settings log _ ran.answer (output.taken old) (output.taken new)
    (answers_from_start job (page_name (Some (string_bytes name))) (glimpse_of file found.left) MESSAGE_LIMIT settings (file.given found.log) log (file.is_over found.left) ran.answer (output.taken old) (output.taken new) found.unread.from_start ran.engine) is in (
      log,
      record { opened = found.log; unread = found.unread; read = found.left; gave = refl; over = of_well is.1 ran.read.over },
      done.0,
      done.1,
      done.2,
    )
done_by says file source output errors (Ok (One job strict settings (Some name))) before old unsaid status known after new said log (same, inr unopened) zero grown =
    absurd (is_not_four status zero unopened.status_is)
done_by says file source output errors (Ok (Two job strict settings left right)) before old unsaid status known after new said log (same, inl found) zero grown =
    let ran = found.ran in
    let one = file.given found.one_left in
    let other = file.given found.other_left in
    let engine = ran.engine one other (agrees_from_start (file.given found.one) one (file.is_over found.one_left) found.one_unread.from_start)
    (agrees_from_start (file.given found.other) other (file.is_over found.other_left) found.other_unread.from_start) in
    let done = same_of_done output job (shown_name job (string_bytes left) (string_bytes right)) (shown_name job (string_bytes right) (string_bytes left)) (glimpse_of file found.one_left) (glimpse_of file found.other_left) strict ran.wrote settings one other ran.answer ran.text status old new engine
    ran.status_is ran.output_is zero in
    let well = accepted_pair strict ran.wrote ran.answer status ran.status_is (omega (arith, zero)) in (
      one,
      other,
      ran.text,
      record { opened = found.one; unread = found.one_unread; read = found.one_left; gave = refl; over = of_well well.2 ran.left_read.over },
      record { opened = found.other; unread = found.other_unread; read = found.other_left; gave = refl; over = of_well well.2 ran.right_read.over },
      done.0,
      done.1,
      done.2,
      done.3,
      done.4,
    )
done_by says file source output errors (Ok (Two job strict settings left right)) before old unsaid status known after new said log (same, inr (inl unopened)) zero grown =
    absurd (is_not_four status zero unopened.status_is)
done_by says file source output errors (Ok (Two job strict settings left right)) before old unsaid status known after new said log (same, inr (inr (inl unopened))) zero grown =
    absurd (is_not_four status zero unopened.status_is)
done_by says file source output errors (Ok (Two job strict settings left right)) before old unsaid status known after new said log (same, inr (inr (inr one))) zero grown =
    absurd (omega (arith, one.status_is, zero))
done_by says file source output errors (Err (words.Help text)) before old unsaid status known after new said log (same, known_is, inl told) zero grown = told.1
done_by says file source output errors (Err (words.Help text)) before old unsaid status known after new said log (same, known_is, inr failed) zero grown =
    absurd (is_not_four status zero failed.0)
done_by says file source output errors (Err (words.Words text)) before old unsaid status known after new said log (same, known_is, did) zero grown = absurd (omega (arith, did.0, zero))
done_by says file source output errors (Err words.Identifier) before old unsaid status known after new said log (same, known_is, did) zero grown = absurd (omega (arith, did.0, zero))
done_by says file source output errors (Err (words.Config reason)) before old unsaid status known after new said log (same, known_is, did) zero grown = absurd (omega (arith, did.0, zero))
done_by says file source output errors (Err (words.Misfit line)) before old unsaid status known after new said log (same, known_is, did) zero grown = absurd (omega (arith, did.0, zero))
done_by says file source output errors (Err (words.Unread line)) before old unsaid status known after new said log (same, known_is, did) zero grown = absurd (omega (arith, did.0, zero))
done_by says file source output errors (Err words.Memory) before old unsaid status known after new said log (same, known_is, did) zero grown = absurd (omega (arith, did.0, zero))

-- a run over a log of one name is one over the log of the same name
pub ran_named : {R W E : Type 0} {source : SourceGhosts R} {output : TargetGhosts W} {errors : TargetGhosts E} {job : Job} {name other : List ℕ} {strict : Bool} {limit : ℕ} {settings : Settings}
    {before : R} {old : W} {unsaid : E} {status : ℕ} {outcome : Result Summary Fault} {after : R} {new : W} {said : E} → name ≡ other
    → RanOne source output errors job name strict limit settings before old unsaid status outcome after new said
    → RanOne source output errors job other strict limit settings before old unsaid status outcome after new said
ran_named {source = source} {output = output} {errors = errors} {job = job} {strict = strict} {limit = limit} {settings = settings} {before = before} {old = old} {unsaid = unsaid} {status = status}
    {outcome = outcome} {after = after} {new = new} {said = said} same ran =
    subst (λ (called : List ℕ). RanOne source output errors job called strict limit settings before old unsaid status outcome after new said) same ran

-- the same of the logs of two names
pub ran_named_two : {A B W E : Type 0} {left : SourceGhosts A} {right : SourceGhosts B} {output : TargetGhosts W} {errors : TargetGhosts E} {job : PairJob} {one_name one_same other_name other_same : List ℕ}
    {strict : Bool} {limit : ℕ} {settings : Settings} {one : A} {other : B} {old : W} {unsaid : E} {status : ℕ} {written : Option (Result PairAnswer CompareFault)} {one_now : A} {other_now : B} {new : W} {said : E}
    → one_name ≡ one_same → other_name ≡ other_same
    → RanTwo left right output errors job one_name other_name strict limit settings one other old unsaid status written one_now other_now new said
    → RanTwo left right output errors job one_same other_same strict limit settings one other old unsaid status written one_now other_now new said
ran_named_two {left = left} {right = right} {output = output} {errors = errors} {job = job} {one_same = one_same} {other_name = other_name} {strict = strict} {limit = limit} {settings = settings}
    {one = one} {other = other} {old = old} {unsaid = unsaid} {status = status} {written = written} {one_now = one_now} {other_now = other_now} {new = new} {said = said} first second ran =
    subst (λ (called : List ℕ). RanTwo left right output errors job one_same called strict limit settings one other old unsaid status written one_now other_now new said) second
    (subst (λ (called : List ℕ). RanTwo left right output errors job called other_name strict limit settings one other old unsaid status written one_now other_now new said) first ran)

-- what was done of a plan was done of its equal
pub did_of_equal : {F R W E : Type 0} (says : Saying F → Type 0) (file : SourceGhosts (CountedReader F)) (source : SourceGhosts R) (output : TargetGhosts W) (errors : TargetGhosts E) (plan other : Plan)
    (before : R) (old : W) (unsaid : E) (status : ℕ) (known : Option Known) (after : R) (new : W) (said : E) → plan ≡ other
    → Did says file source output errors other before old unsaid status known after new said → Did says file source output errors plan before old unsaid status known after new said
did_of_equal says file source output errors plan other before old unsaid status known after new said same did =
    subst (λ (p : Plan). Did says file source output errors p before old unsaid status known after new said) (sym same) did

-- what was done of what is asked for was done of all words that ask for it
pub did_of_asked : {F R W E : Type 0} (says : Saying F → Type 0) (file : SourceGhosts (CountedReader F)) (source : SourceGhosts R) (output : TargetGhosts W) (errors : TargetGhosts E)
    (asked other : Result Plan WordsFault) (before : R) (old : W) (unsaid : E) (status : ℕ) (known : Option Known) (after : R) (new : W) (said : E) → asked ≡ other
    → DidAsked says file source output errors other before old unsaid status known after new said → (given : List Text) (seen : SeenProfile) → IsPlanned given seen asked
    → DidWords says file source output errors given seen asked before old unsaid status known after new said
did_of_asked says file source output errors asked other before old unsaid status known after new said same did given seen planned = record {
  planned = planned;
  did = subst (λ (a : Result Plan WordsFault). DidAsked says file source output errors a before old unsaid status known after new said) (sym same) did;
}

-- what was done of the words
pub is_done : {F R W E : Type 0} (says : Saying F → Type 0) (file : SourceGhosts (CountedReader F)) (source : SourceGhosts R) (output : TargetGhosts W) (errors : TargetGhosts E) (given : List Text) (seen : SeenProfile) (asked : Result Plan WordsFault)
    (before : R) (old : W) (unsaid : E) (status : ℕ) (known : Option Known) (after : R) (new : W) (said : E) → DidWords says file source output errors given seen asked before old unsaid status known after new said
    → status ≡ 0 → (log : List ℕ) → source.given after ≡ source.given before ++ log → IsDone says file given seen log (output.taken old) (output.taken new)
is_done says file source output errors given seen asked before old unsaid status known after new said did zero log grown = record {
  asked = asked;
  planned = did.planned;
  done = done_by says file source output errors asked before old unsaid status known after new said log did.did zero grown;
}

-- ---- of words that ask for nothing

module _ {W E : Type 0} (output : TargetGhosts W) (errors : TargetGhosts E) where
  -- only help ends with 0, and that is flushed once
  pub told_once : (fault : WordsFault) (old : W) (unsaid : E) (status : ℕ) (new : W) (said : E) → ToldWords output errors fault old unsaid status new said
      → status ≡ 0 → output.flushes new ≡ output.flushes old + 1
  told_once (words.Help text) old unsaid status new said (inl told) zero = told.5
  told_once (words.Help text) old unsaid status new said (inr failed) zero = absurd (is_not_four status zero failed.0)
  told_once (words.Words text) old unsaid status new said told zero = absurd (omega (arith, told.0, zero))
  told_once words.Identifier old unsaid status new said told zero = absurd (omega (arith, told.0, zero))
  told_once (words.Config reason) old unsaid status new said told zero = absurd (omega (arith, told.0, zero))
  told_once (words.Misfit line) old unsaid status new said told zero = absurd (omega (arith, told.0, zero))
  told_once (words.Unread line) old unsaid status new said told zero = absurd (omega (arith, told.0, zero))
  told_once words.Memory old unsaid status new said told zero = absurd (omega (arith, told.0, zero))

  same_times : (old new : W) → new ≡ old → output.flushes new ≤ output.flushes old + 1
  same_times old new same = let times = ap output.flushes same in omega arith

  pub told_at_most_once : (fault : WordsFault) (old : W) (unsaid : E) (status : ℕ) (new : W) (said : E) → ToldWords output errors fault old unsaid status new said
      → output.flushes new ≤ output.flushes old + 1
  told_at_most_once (words.Help text) old unsaid status new said (inl told) = omega (arith, told.5)
  told_at_most_once (words.Help text) old unsaid status new said (inr failed) = omega (arith, failed.4)
  told_at_most_once (words.Words text) old unsaid status new said told = same_times old new told.1
  told_at_most_once words.Identifier old unsaid status new said told = same_times old new told.1
  told_at_most_once (words.Config reason) old unsaid status new said told = same_times old new told.1
  told_at_most_once (words.Misfit line) old unsaid status new said told = same_times old new told.1
  told_at_most_once (words.Unread line) old unsaid status new said told = same_times old new told.1
  told_at_most_once words.Memory old unsaid status new said told = same_times old new told.1
