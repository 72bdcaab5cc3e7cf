-- A run is what was said of its lines, and how it ended: each part of `Ran` is read off one of the two.
use Rattle.std.proofs.Common.{◌≡◌, List, arith, refl, subst, Option, Err, ℕ}
use Rattle.can_log.specs.declared.frame.Stamped.{Stamped}
use Rattle.trace_log.specs.Answers.{ReadsWhile}
use Rattle.trace_log.specs.Devices.{AgreesWith, bytes_given}
use Rattle.trace_log.specs.Feeding.{TakesFront}
use Rattle.trace_log.specs.Summing.{ends_in_line_feed}
use Rattle.isotp_receive.specs.declared.TheConstants.{MESSAGE_LIMIT}
use Rattle.trace_log.proofs.Promises.{some_log, when_ok}
use Rattle.trace_run.specs.Stopping.{StopsNothingWithin}
use Rattle.trace_run.specs.Script.{GlimpseValue, glimpse_of}
use Rattle.trace_run.specs.declared.receiver.Receiver.{Receiver}
use Rattle.trace_run.specs.proving.Ending.{EndsSaying, GivesUp}
use Rattle.trace_run.specs.proving.Receiving.{RunState, run_state, of_pairs, HasTaken}
use Rattle.trace_run.specs.proving.Telling.{start_with}
use Rattle.trace_run.proofs.DeviceFaults.{reads_or_fails, writes_or_fails, wrote_to}
use Rattle.trace_run.proofs.EndedRuns.{answers_at_the_end, neither_read_nor_memory, wrote_at_the_end}
use Rattle.trace_run.proofs.FailedRuns.{answers_on_fault, eagerly, ends_behind, ends_carrying, memory_was_needed}
use Rattle.trace_run.proofs.Runs.{Begun, Fed, begins_with, is_sure_of_no_line, takes_no_line}
use Rattle.trace_run.proofs.StoppedLines.{reads_near}
use Rattle.trace_run.proofs.driver.run.Given.{Over}
use Rattle.trace_run.proofs.driver.run.Goals.{After-start-receiver, After-finish, After-give_up}
use Rattle.trace_run.proofs.driver.run.Goals as goal

-- the run before its first line: nothing was received, and nothing told
abbrev begun : (g : Over) → After-start-receiver g → Begun g.M.Machine g.W.Target
begun g c = record {
  settings = c.args.config.now;
  machine_start = c.args.machine;
  state = run_state (c.start-receiver.result, c.args.target.now);
  is =
      begins_with g.M.Machine g.W.Target c.args.config.now c.args.machine c.start.result c.start-receiver.result c.args.target.now
      c.start-receiver.ensures (record {
        machine_is = c.start.ensures.machine;
        stands_at_start = c.requires.machine;
        judged = c.start.ensures.judged;
        none_left_out = c.start.ensures.none_left_out;
        well = c.start.ensures.well;
        blank = c.start.ensures.blank;
      }) c.requires.target;
}

-- reading stops near to what stops the run
near : (g : Over) (c : After-start-receiver g) (log : List ℕ) (given failures failures_now : ℕ)
    → ReadsWhile (TakesFront (of_pairs (HasTaken g.M.Machine g.W.Target)) (c.start-receiver.result, c.args.target.now) log)
    given failures failures_now
    → ReadsWhile (StopsNothingWithin (g.M.Machine.script c.args.config.now.rules c.args.machine).strict MESSAGE_LIMIT c.args.config.now log)
    given failures failures_now
near g c log given failures failures_now reads =
    reads_near c.args.config.now log (g.M.Machine.script c.args.config.now.rules c.args.machine).strict
    (λ meanings now taken. (taken c.args.config.now c.args.machine (begun g c).is).1.within) reads

-- how the run ended on a fault, by what was seen of its source
gives_up : (g : Over) (c : After-give_up g)
    → GivesUp g.M.Machine g.W.Target (glimpse_of g.R.Source c.feed_lines.new.source) c.in-Err.fault c.feed_lines.new.taker c.feed_lines.new.device
    c.give_up.result c.give_up.new.target
gives_up g c =
    subst (λ (glimpse : GlimpseValue). GivesUp g.M.Machine g.W.Target glimpse c.in-Err.fault c.feed_lines.new.taker c.feed_lines.new.device
    c.give_up.result c.give_up.new.target) c.of.ensures c.give_up.ensures

pub returns-in-Err : goal.returns-in-Err
returns-in-Err g c =
    let M = g.M.Machine in
    let W = g.W.Target in
    let run : Begun M W = begun g ((goal.at.returns-in-Err g c).After-start-receiver) in
    let now : RunState g.row.M.Denot g.row.W.Denot = run_state (c.feed_lines.new.taker, c.feed_lines.new.device) in
    let glimpse = glimpse_of g.R.Source c.feed_lines.new.source in
    let given = bytes_given g.R.Source c.args.source.now c.feed_lines.new.source in
    let answer = c.give_up.result in
    let new = c.give_up.new.target in
    let why = c.in-Err.fault in
    let start : Receiver g.row.M.Denot g.row.W.Denot × g.row.W.Denot = (c.start-receiver.result, c.args.target.now) in
    let none = takes_no_line M W run.state in
    let takes = c.in-Err.ensures.takes start none in
    let fed : (log : List ℕ) → AgreesWith g.R.Source c.args.source.now c.feed_lines.new.source log
    → Fed M W run.state c.args.config.now.max_bytes log given (Err why) now =
    λ log agrees.
    subst (λ most. Fed M W run.state most log given (Err why) now) c.max_bytes.ensures.value (c.in-Err.ensures.lines log agrees start none) in
    let carries = ends_carrying run now glimpse answer new why takes (gives_up g c) in
    record {
      ran = record {
        answer = λ log agrees. answers_on_fault run now glimpse answer new log given why (fed log agrees) (gives_up g c);
        eager = λ log agrees.
            eagerly run now log given (c.in-Err.ensures.eager log agrees start none (is_sure_of_no_line M W run.state)) new
            (ends_behind run now glimpse answer new why takes (gives_up g c));
        memory = λ log agrees refused. memory_was_needed run now glimpse answer new log given why (fed log agrees) (gives_up g c) (cc refused);
        near = λ log agrees. near g ((goal.at.returns-in-Err g c).After-start-receiver) log _ _ _ (c.in-Err.ensures.near log agrees start none);
        configured = c.max_bytes.ensures.settings;
        read = record {
          over = tt;
          gave = c.in-Err.ensures.gave;
          ended = c.in-Err.ensures.ended;
          within = omega (arith, c.in-Err.ensures.given, c.max_bytes.ensures.value);
          calls = omega (arith, c.in-Err.ensures.reads, c.max_bytes.ensures.value);
          progress = c.in-Err.ensures.progress;
          failed = reads_or_fails why answer _ _ c.in-Err.ensures.failures carries.reading;
        };
        wrote = wrote_to W c.args.target.now new (Err answer) carries.said carries.failed carries.carried
            (writes_or_fails W c.args.target.now new answer carries.said carries.failed carries.carried carries.writing);
      };
    }

-- how the run ends, after lines that mean this
ends : (g : Over) (c : After-finish g) (log : List ℕ) (meanings : List (Option Stamped)) → c.in-Ok.ends_in_line_feed ≡ ends_in_line_feed log
    → HasTaken g.M.Machine g.W.Target (run_state (c.start-receiver.result, c.args.target.now)) meanings
    (run_state (c.feed_lines.new.taker, c.feed_lines.new.device))
    → EndsSaying g.M.Machine g.W.Target (start_with c.args.config.now.rules c.args.machine c.args.target.now) c.args.config.now log meanings
    c.finish.result c.finish.new.target
ends g c log meanings feed taken =
    let so_far = taken c.args.config.now c.args.machine (begun g ((goal.at.returns-in-Ok g c).After-start-receiver)).is in
    c.finish.ensures.ends (start_with c.args.config.now.rules c.args.machine c.args.target.now) c.args.config.now log meanings
    so_far.0.lines feed refl so_far.1

pub returns-in-Ok : goal.returns-in-Ok
returns-in-Ok g c =
    let M = g.M.Machine in
    let W = g.W.Target in
    let settings = c.args.config.now in
    let run : Begun M W = begun g ((goal.at.returns-in-Ok g c).After-start-receiver) in
    let now : RunState g.row.M.Denot g.row.W.Denot = run_state (c.feed_lines.new.taker, c.feed_lines.new.device) in
    let begins = start_with settings.rules c.args.machine c.args.target.now in
    let given = bytes_given g.R.Source c.args.source.now c.feed_lines.new.source in
    let glimpse = glimpse_of g.R.Source c.feed_lines.new.source in
    let result = c.finish.result in
    let new = c.finish.new.target in
    let start : Receiver g.row.M.Denot g.row.W.Denot × g.row.W.Denot = (c.start-receiver.result, c.args.target.now) in
    let none = takes_no_line M W run.state in
    let takes = c.in-Ok.ensures.takes start none in
    let some = some_log c.in-Ok.ends_in_line_feed in
    let end = ends g c some.0 takes.0 some.1 takes.2 in
    let neither = neither_read_nor_memory M W begins settings some.0 takes.0 result new end in
    record {
      ran = record {
        answer = λ log agrees.
            let read = c.in-Ok.ensures.lines log agrees start none in
            answers_at_the_end M W begins settings log read.0 glimpse given result new
            (omega (arith, read.1, c.max_bytes.ensures.value)) read.2 read.3
            (read.5 settings c.args.machine run.is).1.within (ends g c log read.0 read.6 read.5);
        eager = λ log agrees.
            let read = c.in-Ok.ensures.lines log agrees start none in
            let so_far = read.5 settings c.args.machine run.is in
            eagerly run now log given (c.in-Ok.ensures.eager log agrees start none (is_sure_of_no_line M W run.state)) new
            (c.finish.ensures.more c.args.machine settings read.0 so_far.0.lines so_far.1.machine_stands);
        memory = λ log agrees refused. absurd (neither.1 refused);
        near = λ log agrees. near g ((goal.at.returns-in-Ok g c).After-start-receiver) log _ _ _ (c.in-Ok.ensures.near log agrees start none);
        configured = c.max_bytes.ensures.settings;
        read = record {
          over = when_ok result c.in-Ok.ensures.over;
          gave = c.in-Ok.ensures.gave;
          ended = c.in-Ok.ensures.ended;
          within = omega (arith, c.in-Ok.ensures.given, c.max_bytes.ensures.value);
          calls = omega (arith, c.in-Ok.ensures.reads, c.max_bytes.ensures.value);
          progress = c.in-Ok.ensures.progress;
          failed = record { risen = λ is. absurd (neither.0 is); same = λ _. c.in-Ok.ensures.failures };
        };
        wrote = wrote_at_the_end M W begins settings some.0 takes.0 result new end;
      };
    }
