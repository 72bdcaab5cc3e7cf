-- What the program did of what the words ask for.
use Rattle.std.specs.Prelude.{◌≡◌, ℕ, ◌+◌, ◌⊎◌, Bool, List, [], ◌++◌, length, true, false, Option, Some, None, Result, Ok, Err, string_bytes}
use Rattle.isotp_receive.specs.declared.TheConstants.{MESSAGE_LIMIT}
use Rattle.clap.specs.Walk.{Text}
use Rattle.trace_log.specs.Settings.{Settings}
use Rattle.trace_canon.specs.declared.comparer.Comparison.TheVariants.{Same}
use Rattle.trace_log.specs.declared.fault.CompareFault.{CompareFault}
use Rattle.trace_log.specs.declared.fault.CompareFault.TheVariants.{Left, Right}
use Rattle.trace_log.specs.declared.fault.Fault.{Fault}
use Rattle.trace_log.specs.declared.fault.Fault.TheVariants.{Read, Write}
use Rattle.trace_log.specs.declared.summary.Summary.{Summary}
use Rattle.trace_io.specs.Counted.{CountedReader}
use Rattle.trace_io.specs.Written.{HasFront}
use Rattle.trace_io.specs.declared.device.Source.{Ghosts as SourceGhosts}
use Rattle.trace_io.specs.declared.device.Target.{Ghosts as TargetGhosts}
use Rattle.trace_run.specs.Script.{GlimpseValue}
use Rattle.udsnorm.specs.Engines.{EngineAnswers, PairEngineAnswers}
use Rattle.udsnorm.specs.FaultLines.{fault_line, one_stream_line, side_line}
use Rattle.command_line.specs.WordsTexts.{words_text}
use Rattle.udsnorm.specs.Ending.{has_unclean, is_unclean}
use Rattle.udsnorm.specs.Known.{IsKnownBy, IsKnownByTwo, knows_unopened}
use Rattle.udsnorm.specs.Opening.{Saying, one_stream, opened, refused, two_files}
use Rattle.udsnorm.specs.Profiled.{IsUnread}
use Rattle.udsnorm.specs.Run.{RanOne, RanTwo}
use Rattle.udsnorm.specs.Telling.{TookText}
use Rattle.command_line.specs.Values.{page_name, shown_name}
use Rattle.command_line.specs.Words.{IsPlanned}
use Rattle.command_line.specs.declared.commands.Job.{Job}
use Rattle.udsnorm.specs.declared.pair_jobs.PairAnswer.{PairAnswer}
use Rattle.command_line.specs.declared.commands.PairJob.{PairJob}
use Rattle.udsnorm.specs.declared.ended.Known.{Known}
use Rattle.command_line.specs.declared.open_faults.OpenFault.{OpenFault}
use Rattle.command_line.specs.declared.seen_profile.SeenProfile.{SeenProfile}
use Rattle.udsnorm.specs.declared.ended.Which.{Which}
use Rattle.udsnorm.specs.declared.ended.Which.TheVariants.{First, Second}
use Rattle.command_line.specs.declared.job.Plan.{Plan}
use Rattle.command_line.specs.declared.job.Plan.TheVariants.{One, Two}
use Rattle.command_line.specs.declared.job.WordsFault.{WordsFault}
use Rattle.command_line.specs.declared.job.WordsFault.TheVariants as words

-- what a target took of a text, by its history
abbrev pub Took : {W : Type 0} → TargetGhosts W → List ℕ → W → W → Type 0
Took target text old new = TookText text (target.failures old) (target.failures new) (target.taken old) (target.taken new)

-- Help or the version was told: the output took all of it and is flushed, by one flush, and the error output is left
-- alone; or the output failed, and the error output took the line of that.
abbrev pub ToldHelp : {W E : Type 0} → TargetGhosts W → TargetGhosts E → List ℕ → W → E → ℕ → W → E → Type 0
ToldHelp output errors text old unsaid status new said =
    ((status ≡ 0) × (output.taken new ≡ output.taken old ++ text) × (output.is_flushed new ≡ true) × (output.failures new ≡ output.failures old) × (said ≡ unsaid)
    × (output.flushes new ≡ output.flushes old + 1))
    ⊎ ((status ≡ 4) × HasFront (output.taken old) text (output.taken new) × (output.failures new ≡ output.failures old + 1) × Took errors (fault_line Write) unsaid said
    × (output.flushes new ≡ output.flushes old))

-- What is told of words that ask for nothing: help or the version on the output, anything else on the error output, which
-- leaves the output alone.
abbrev pub ToldWords : {W E : Type 0} → TargetGhosts W → TargetGhosts E → WordsFault → W → E → ℕ → W → E → Type 0
ToldWords output errors (words.Help text) old unsaid status new said = ToldHelp output errors (words_text (words.Help text)) old unsaid status new said
ToldWords output errors (words.Words text) old unsaid status new said = (status ≡ 2) × (new ≡ old) × Took errors (words_text (words.Words text)) unsaid said
ToldWords output errors words.Identifier old unsaid status new said = (status ≡ 2) × (new ≡ old) × Took errors (words_text words.Identifier) unsaid said
ToldWords output errors (words.Config reason) old unsaid status new said = (status ≡ 2) × (new ≡ old) × Took errors (words_text (words.Config reason)) unsaid said
ToldWords output errors (words.Misfit line) old unsaid status new said = (status ≡ 2) × (new ≡ old) × Took errors (words_text (words.Misfit line)) unsaid said
ToldWords output errors (words.Unread line) old unsaid status new said = (status ≡ 4) × (new ≡ old) × Took errors (words_text (words.Unread line)) unsaid said
ToldWords output errors words.Memory old unsaid status new said = (status ≡ 5) × (new ≡ old) × Took errors (words_text words.Memory) unsaid said

-- A run over the log of the file of this name, from its first byte: all that a run over an input did.
pub record RanFile {F W E : Type 0} (says : Saying F → Type 0) (file : SourceGhosts (CountedReader F)) (output : TargetGhosts W) (errors : TargetGhosts E) (job : Job) (name : List ℕ) (strict : Bool) (limit : ℕ)
    (settings : Settings) (old : W) (unsaid : E) (status : ℕ) (known : Option Known) (new : W) (said : E) : Type 0 where
  pub log : CountedReader F
  pub unread : IsUnread says file name log
  pub left : CountedReader F
  pub outcome : Result Summary Fault
  pub ran : RanOne file output errors job (page_name (Some name)) strict limit settings log old unsaid status outcome left new said
  pub known_is : IsKnownBy job settings (file.given left) (file.is_over left) outcome (output.taken new) known

-- The file of this name can't be opened: that is told, why is known, and the output is left alone.
pub record Unopened {F W E : Type 0} (says : Saying F → Type 0) (errors : TargetGhosts E) (name line : List ℕ) (which : Which) (old : W) (unsaid : E) (status : ℕ) (known : Option Known) (new : W) (said : E) : Type 0 where
  pub fault : OpenFault
  pub because : says (refused name fault)
  pub status_is : status ≡ 4
  pub left_alone : new ≡ old
  pub told : Took errors line unsaid said
  pub known_is : known ≡ knows_unopened which fault

-- The files of these names are one pipe or terminal, of which each byte is read once: that is told, no more is known,
-- and the output is left alone.
pub record OneStream {F W E : Type 0} (says : Saying F → Type 0) (errors : TargetGhosts E) (left_name right_name : List ℕ) (old : W) (unsaid : E) (status : ℕ) (known : Option Known) (new : W) (said : E) : Type 0 where
  pub one : F
  pub other : F
  pub one_by_name : says (opened left_name one)
  pub other_by_name : says (opened right_name other)
  pub are_one : says (one_stream one other)
  pub status_is : status ≡ 2
  pub left_alone : new ≡ old
  pub told : Took errors one_stream_line unsaid said
  pub known_is : known ≡ None

-- A run over the logs of the files of these names, the left one and the right one, each from its first byte. They are
-- not one stream.
pub record RanFiles {F W E : Type 0} (says : Saying F → Type 0) (file : SourceGhosts (CountedReader F)) (output : TargetGhosts W) (errors : TargetGhosts E) (job : PairJob) (left_name right_name : List ℕ) (strict : Bool)
    (limit : ℕ) (settings : Settings) (old : W) (unsaid : E) (status : ℕ) (known : Option Known) (new : W) (said : E) : Type 0 where
  pub one : CountedReader F
  pub other : CountedReader F
  pub one_unread : IsUnread says file left_name one
  pub other_unread : IsUnread says file right_name other
  pub are_two : says (two_files one.inner other.inner)
  pub one_left : CountedReader F
  pub other_left : CountedReader F
  pub written : Option (Result PairAnswer CompareFault)
  pub ran : RanTwo file file output errors job (shown_name job left_name right_name) (shown_name job right_name left_name) strict limit settings one other old unsaid status written one_left other_left new said
  pub known_is : IsKnownByTwo settings (file.given one_left) (file.is_over one_left) (file.given other_left) (file.is_over other_left) written known

-- what was done of the file of this name, or of the two of these names
abbrev pub DidFile : {F W E : Type 0} → (Saying F → Type 0) → SourceGhosts (CountedReader F) → TargetGhosts W → TargetGhosts E → Job → List ℕ → Bool → Settings → W → E → ℕ → Option Known → W → E → Type 0
DidFile says file output errors job name strict settings old unsaid status known new said =
    RanFile says file output errors job name strict MESSAGE_LIMIT settings old unsaid status known new said
    ⊎ Unopened says errors name (fault_line Read) First old unsaid status known new said

abbrev pub DidFiles : {F W E : Type 0} → (Saying F → Type 0) → SourceGhosts (CountedReader F) → TargetGhosts W → TargetGhosts E → PairJob → List ℕ → List ℕ → Bool → Settings → W → E → ℕ → Option Known → W → E → Type 0
DidFiles says file output errors job left right strict settings old unsaid status known new said =
    RanFiles says file output errors job left right strict MESSAGE_LIMIT settings old unsaid status known new said
    ⊎ (Unopened says errors left (side_line (Left Read)) First old unsaid status known new said
    ⊎ (Unopened says errors right (side_line (Right Read)) Second old unsaid status known new said
    ⊎ OneStream says errors left right old unsaid status known new said))

-- What was done of a plan, and what is known of that: over the input where it names no file, and the input was left
-- alone where it names one.
abbrev pub Did : {F R W E : Type 0} → (Saying F → Type 0) → SourceGhosts (CountedReader F) → SourceGhosts R → TargetGhosts W → TargetGhosts E → Plan → R → W → E → ℕ → Option Known → R → W → E → Type 0
Did says file source output errors (One job strict settings None) before old unsaid status known after new said =
    (outcome : Result Summary Fault) × RanOne source output errors job (page_name None) strict MESSAGE_LIMIT settings before old unsaid status outcome after new said
    × IsKnownBy job settings (source.given after) (source.is_over after) outcome (output.taken new) known
Did says file source output errors (One job strict settings (Some name)) before old unsaid status known after new said =
    (after ≡ before) × DidFile says file output errors job (string_bytes name) strict settings old unsaid status known new said
Did says file source output errors (Two job strict settings left right) before old unsaid status known after new said =
    (after ≡ before) × DidFiles says file output errors job (string_bytes left) (string_bytes right) strict settings old unsaid status known new said

-- what was done of what was asked for; nothing is known of words that ask for nothing
abbrev pub DidAsked : {F R W E : Type 0} → (Saying F → Type 0) → SourceGhosts (CountedReader F) → SourceGhosts R → TargetGhosts W → TargetGhosts E → Result Plan WordsFault → R → W → E → ℕ → Option Known → R → W → E → Type 0
DidAsked says file source output errors (Ok plan) before old unsaid status known after new said = Did says file source output errors plan before old unsaid status known after new said
DidAsked says file source output errors (Err fault) before old unsaid status known after new said =
    (after ≡ before) × (known ≡ None) × ToldWords output errors fault old unsaid status new said

-- What was done of what the words ask for, with what is seen of their profile, and what is known of that.
pub record DidWords {F R W E : Type 0} (says : Saying F → Type 0) (file : SourceGhosts (CountedReader F)) (source : SourceGhosts R) (output : TargetGhosts W) (errors : TargetGhosts E) (given : List Text)
    (seen : SeenProfile) (asked : Result Plan WordsFault) (before : R) (old : W) (unsaid : E) (status : ℕ) (known : Option Known) (after : R) (new : W) (said : E) : Type 0 where
  pub planned : IsPlanned given seen asked
  pub did : DidAsked says file source output errors asked before old unsaid status known after new said

-- The reads of the file of this name gave this log, from its first byte to its end.
pub record IsLogOf {F : Type 0} (says : Saying F → Type 0) (file : SourceGhosts (CountedReader F)) (name log : List ℕ) : Type 0 where
  pub opened : CountedReader F
  pub unread : IsUnread says file name opened
  pub read : CountedReader F
  pub gave : file.given read ≡ log
  pub over : file.is_over read ≡ true

-- a source of which nothing is seen
abbrev pub nothing_seen : GlimpseValue
nothing_seen = record { first = []; is_over = false }

-- The output took all that the job writes of this log: the input's where the plan names no file, else that of the file,
-- or those of both files. Each log is clean where it has to be.
abbrev pub IsDoneBy : {F : Type 0} → (Saying F → Type 0) → SourceGhosts (CountedReader F) → Result Plan WordsFault → List ℕ → List ℕ → List ℕ → Type 0
IsDoneBy says file (Ok (One job strict settings None)) log before after =
    (summary : Summary) × (is_unclean strict summary ≡ false) × EngineAnswers job (page_name None) nothing_seen MESSAGE_LIMIT settings log (length log) (Ok summary) before after
IsDoneBy says file (Ok (One job strict settings (Some name))) log before after =
    (one : List ℕ) × IsLogOf says file (string_bytes name) one
    × (summary : Summary) × (is_unclean strict summary ≡ false) × EngineAnswers job (page_name (Some (string_bytes name))) nothing_seen MESSAGE_LIMIT settings one (length one) (Ok summary) before after
IsDoneBy says file (Ok (Two job strict settings left right)) log before after =
    (one other text : List ℕ) × IsLogOf says file (string_bytes left) one × IsLogOf says file (string_bytes right) other
    × (pair : PairAnswer) × (has_unclean strict pair ≡ false) × (pair.comparison ≡ Same)
    × PairEngineAnswers job (shown_name job (string_bytes left) (string_bytes right)) (shown_name job (string_bytes right) (string_bytes left)) nothing_seen nothing_seen strict MESSAGE_LIMIT settings one other (Ok pair) text
    × (after ≡ before ++ text)
IsDoneBy says file (Err (words.Help text)) log before after = after ≡ before ++ string_bytes text
IsDoneBy says file (Err (words.Words text)) log before after = ⊥
IsDoneBy says file (Err words.Identifier) log before after = ⊥
IsDoneBy says file (Err (words.Config reason)) log before after = ⊥
IsDoneBy says file (Err (words.Misfit line)) log before after = ⊥
IsDoneBy says file (Err (words.Unread line)) log before after = ⊥
IsDoneBy says file (Err words.Memory) log before after = ⊥

-- What the words ask for, with what is seen of their profile, was done.
pub record IsDone {F : Type 0} (says : Saying F → Type 0) (file : SourceGhosts (CountedReader F)) (given : List Text) (seen : SeenProfile) (log before after : List ℕ) : Type 0 where
  pub asked : Result Plan WordsFault
  pub planned : IsPlanned given seen asked
  pub done : IsDoneBy says file asked log before after
