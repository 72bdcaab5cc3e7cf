-- How the process ends.
use Rattle.std.specs.Prelude.{◌≡◌, ◌<◌, ◌⊎◌, ◌&&◌, ◌||◌, ℕ, Bool, true, false, List, Option, Result}
use Rattle.clap.specs.Walk.{Text}
use Rattle.trace_io.specs.Counted.{CountedReader}
use Rattle.trace_io.specs.declared.device.Source.{Ghosts as SourceGhosts}
use Rattle.trace_io.specs.declared.device.Target.{Ghosts as TargetGhosts}
use Rattle.udsnorm.specs.Asked.{DidWords}
use Rattle.command_line.specs.Commands.{command_in, words_or_normalise}
use Rattle.udsnorm.specs.Hints.{GaveHint, ToldAwaited}
use Rattle.command_line.specs.Words.{asks_for_hints}
use Rattle.udsnorm.specs.Opening.{Saying}
use Rattle.udsnorm.specs.Profiled.{IsSeenOf}
use Rattle.udsnorm.specs.declared.ended.Known.{Known}
use Rattle.command_line.specs.declared.job.Plan.{Plan}
use Rattle.command_line.specs.declared.job.WordsFault.{WordsFault}
use Rattle.command_line.specs.declared.seen_profile.SeenProfile.{SeenProfile}
use Rattle.udsnorm.specs.declared.Terminals.{Terminals}

-- What the error output took before a run: the line that standard input is read, where somebody waits at a terminal, and
-- else nothing.
pub record Awaited {E : Type 0} (errors : TargetGhosts E) (is_awaited : Bool) (given : List Text) (seen : SeenProfile) (unsaid told : E) : Type 0 where
  pub line : is_awaited ≡ true → errors.failures unsaid ≡ 0 → ToldAwaited errors given seen unsaid told
  pub only_there : is_awaited ≡ false → told ≡ unsaid
  pub only_behind : 0 < errors.failures unsaid → told ≡ unsaid

-- What it took behind the text of the run: its hint where one is wanted, and else nothing. Nor does it take one where the
-- text could not be told, or memory is refused.
pub record Hinted {E : Type 0} (errors : TargetGhosts E) (is_wanted : Bool) (asked : Result Plan WordsFault) (given : List Text) (known : Option Known) (told said : E) : Type 0 where
  pub hint : errors.failures told ≡ 0 → (said ≡ told) ⊎ GaveHint errors asked given known told said
  pub only_there : is_wanted ≡ false → said ≡ told
  pub only_behind : 0 < errors.failures told → said ≡ told

-- What the words ask for was done, with this exit status, and its hint was given. Nothing was written beside.
pub record Served {F R W E : Type 0} (says : Saying F → Type 0) (file : SourceGhosts (CountedReader F)) (source : SourceGhosts R) (output : TargetGhosts W) (errors : TargetGhosts E) (given : List Text)
    (terminals : Terminals) (before : R) (old : W) (unsaid : E) (status : ℕ) (after : R) (new : W) (said : E) : Type 0 where
  -- what was seen of the profile that the words name
  pub seen : SeenProfile
  pub profile : IsSeenOf says file (command_in (words_or_normalise given)) seen
  pub asked : Result Plan WordsFault
  pub known : Option Known
  pub begun : E
  pub told : E
  pub awaited : Awaited errors (terminals.errors && terminals.input) given seen unsaid begun
  pub did : DidWords says file source output errors (words_or_normalise given) seen asked before old begun status known after new told
  pub hinted : Hinted errors (terminals.errors || asks_for_hints given) asked given known told said
