-- The lines of items said as soon as these are decided: what is kept and said of one more frame, and that all is the
-- list.
use Rattle.std.proofs.Common.{◌≡◌, ℕ, ◌+◌, ◌^◌, ◌<◌, ◌≤◌, List, [], ◌∷◌, ◌++◌, length, drop, Result, Ok, Err, arith, refl}
use Rattle.std.proofs.Common.{ap, sym, subst, ◌∙◌, append-nil, append_assoc, length-append}
use Rattle.std.proofs.Math.Seq.{drop-append_seam}
use Rattle.std.specs.Prelude.{OnOk}
use Rattle.direction.specs.Dir.{Message}
use Rattle.isotp_receive.specs.Channels.{dir_of}
use Rattle.isotp_receive.specs.declared.TheConstants.{MESSAGE_LIMIT}
use Rattle.isotp_receive.specs.Trace.{Entry}
use Rattle.isotp_receive.specs.Verdict.{messages, told_message, verdict}
use Rattle.uds_rules.specs.Rule.{RuleValue}
use Rattle.uds_rules.specs.Under.{under}
use Rattle.uds_rules.proofs.Promises.{left_out_are_the_rest}
use Rattle.trace_log.specs.Messages.{messages_under}
use Rattle.isotp_receive.proofs.Promises.{messages_are_few}
use Rattle.uds_exchange.specs.Decided.{decided, undecided}
use Rattle.uds_exchange.specs.Decider.{DeciderValue, decider_after}
use Rattle.uds_exchange.specs.ItemSink.{PutsItems}
use Rattle.uds_exchange.specs.Meaning.{ItemValue, meaning}
use Rattle.uds_exchange.specs.Judging.{one_more}
use Rattle.uds_exchange.proofs.Promises.{decided_grows, decided_then_undecided, items_are_few, none_is_lost}
use Rattle.trace_text.specs.ItemLines.{item_line, list_text, list_text_from}
use Rattle.trace_log.specs.Messages.{meaning_of_lines}
use Rattle.trace_canon.specs.MemoryNeeded.{CompletesKept}
use Rattle.trace_log.specs.Settings.{Settings}
use Rattle.trace_log.specs.Summing.{summary_of}
use Rattle.trace_run.specs.Script.{answers_counts, command, says_no_refusal, said_after}
use Rattle.trace_run.specs.AnswersAndWrites.{AnswersAndWrites}
use Rattle.trace_log.specs.Trace.{trace}
use Rattle.trace_canon.specs.WatchScript.{decided_of, newly_decided, text_behind, watch_script, WritesTheList}
use Rattle.trace_canon.specs.Laws.{WatchSaysDecided, WatchSaysTheList}
use Rattle.trace_canon.specs.proving.Watching.{SaysPutItem, SaysLines, SaysDecided, WatchesItems}
use Rattle.trace_log.specs.declared.fault.Fault.{Fault}
use Rattle.trace_text.specs.declared.item_style.ItemStyle.{ItemStyle}
use Rattle.trace_log.specs.declared.summary.Summary.{Summary}
use Rattle.trace_canon.specs.declared.watcher.LineSink.{LineSink}
use Rattle.trace_text.proofs.Promises.{lines-append}
use Rattle.trace_log.proofs.Promises.{messages_under_more}

-- ---- lines said one after another

-- a number that is not the largest of 64 bits has a next one
next_number : (n after : ℕ) → after ≡ one_more n → n + 1 < 2 ^ 64 → after ≡ n + 1
next_number n after is few = omega arith

module _ {S : Type 0} (says : S → List ℕ → S → Type 0) (nothing : (s : S) → says s [] s)
    (onward : (s m t : S) (a b : List ℕ) → says s a m → says m b t → says s (a ++ b) t) where
  -- the lines of items were said
  pub record SaidItems (s : LineSink S) (items : List ItemValue) (t : LineSink S) : Type 0 where
    pub same_out : t.out.ghost_name ≡ s.out.ghost_name
    pub same_number : t.number.ghost_name ≡ s.number.ghost_name
    pub lines : SaysLines says s.rules.now s.style items s.number.now s.out.now t.number.now t.out.now

  pub said_items : (items : List ItemValue) (s t : LineSink S) → PutsItems (SaysPutItem says) s items t → SaidItems s items t
  said_items [] s t is = subst (SaidItems s []) (sym is) (record {
    same_out = refl;
    same_number = refl;
    lines = λ few. (omega arith, nothing s.out.now);
  })
  said_items (item ∷ later) s t (between, one, rest) =
      let after = said_items later between t rest in
      record {
        same_out = after.same_out ∙ one.0;
        same_number = after.same_number ∙ one.1;
        lines = λ few.
            let next = next_number s.number.now between.number.now one.4 (omega arith) in
            let said = after.lines (omega arith) in
            let same = one.2 in
            let ruled = one.3 in
            let text : list_text_from between.rules.now between.style between.number.now later
            ≡ list_text_from s.rules.now s.style (s.number.now + 1) later =
            (λ i. list_text_from (ruled i) (same i) (next i) later) in (
              said.0 ∙ omega arith,
              onward s.out.now between.out.now t.out.now (item_line s.rules.now s.style s.number.now item)
                  (list_text_from s.rules.now s.style (s.number.now + 1) later) one.5
                  (subst (λ x. says between.out.now x t.out.now) text said.1),
            );
      }

-- ---- one more frame

-- there are no more items than frames, decided or not
few_items : (rules : List RuleValue) (T : List Entry)
    → length (decided_of MESSAGE_LIMIT rules T) + length (undecided (messages_under rules MESSAGE_LIMIT T)) ≤ length T
few_items rules T =
    let M = messages_under rules MESSAGE_LIMIT T in
    let both = sym (length-append (decided M) (undecided M)) ∙ ap length (decided_then_undecided M) in
    let few = items_are_few (meaning M) in
    let lost = none_is_lost M in
    let left = left_out_are_the_rest rules (messages MESSAGE_LIMIT T) in
    let frames = messages_are_few MESSAGE_LIMIT T in
    omega arith

module _ {S : Type 0} (says : S → List ℕ → S → Type 0) (style own_style : ItemStyle) (rules own_rules : List RuleValue)
    (T : List Entry) where
  -- a message: the lines of what it decides were said
  pub watches_next : (e : Entry) (message : Message) (decider decider_now : DeciderValue) (number number_now : ℕ)
      (out out_now : S) → length T < 2 ^ 62
      → messages_under rules MESSAGE_LIMIT (T ++ e ∷ []) ≡ messages_under rules MESSAGE_LIMIT T ++ message ∷ []
      → WatchesItems style rules T decider own_style own_rules number
      → decider_now ≡ decider_after (messages_under rules MESSAGE_LIMIT T ++ message ∷ [])
      → SaysDecided says own_rules own_style (messages_under rules MESSAGE_LIMIT T) message number out number_now out_now
      → WatchesItems style rules (T ++ e ∷ []) decider_now own_style own_rules number_now
      × says out (text_behind style MESSAGE_LIMIT rules T (newly_decided MESSAGE_LIMIT rules T e)) out_now
  watches_next e message decider decider_now number number_now out out_now few next stood decides (items, are, lines) =
      let before = decided_of MESSAGE_LIMIT rules T in
      let longer : decided_of MESSAGE_LIMIT rules (T ++ e ∷ []) ≡ before ++ items = ap decided next ∙ are in
      let left : newly_decided MESSAGE_LIMIT rules T e ≡ items = ap (drop (length before)) longer ∙ drop-append_seam before items in
      let grown = ap length longer ∙ length-append before items in
      let frames = length-append T (e ∷ []) in
      let all_few = few_items rules (T ++ e ∷ []) in
      let numbered = stood.numbered in
      let same = stood.same in
      let ruled = stood.same_rules in
      let said = lines (omega arith) in (
        record {
          decides = decides ∙ ap decider_after (sym next);
          same = same;
          same_rules = ruled;
          numbered = said.0 ∙ omega arith;
          few = omega arith;
        },
        subst (λ text. says out text out_now) (λ i. list_text_from (ruled i) (same i) (numbered i) (sym left i)) said.1,
      )

  -- no message: nothing is
  pub watches_on : (nothing : (s : S) → says s [] s) (e : Entry) (decider : DeciderValue) (number : ℕ) (out : S) → length T < 2 ^ 62
      → messages_under rules MESSAGE_LIMIT (T ++ e ∷ []) ≡ messages_under rules MESSAGE_LIMIT T
      → WatchesItems style rules T decider own_style own_rules number
      → WatchesItems style rules (T ++ e ∷ []) decider own_style own_rules number
      × says out (text_behind style MESSAGE_LIMIT rules T (newly_decided MESSAGE_LIMIT rules T e)) out
  watches_on nothing e decider number out few next stood =
      let before = decided_of MESSAGE_LIMIT rules T in
      let same : messages_under rules MESSAGE_LIMIT (T ++ e ∷ []) ≡ messages_under rules MESSAGE_LIMIT T = next in
      let none : newly_decided MESSAGE_LIMIT rules T e ≡ [] =
      ap (λ M. drop (length before) (decided M)) same ∙ ap (drop (length before)) (sym (append-nil before))
      ∙ drop-append_seam before [] in
      let frames = length-append T (e ∷ []) in (
        record {
          decides = stood.decides ∙ ap decider_after (sym same);
          same = stood.same;
          same_rules = stood.same_rules;
          numbered = stood.numbered ∙ ap (λ M. 1 + length (decided M)) (sym same);
          few = omega arith;
        },
        subst (λ text. says out text out) (sym (ap (text_behind style MESSAGE_LIMIT rules T) none)) (nothing out),
      )

  -- at the end what is not decided
  pub watched : (decider : DeciderValue) (number number_now : ℕ) (out out_now : S)
      → WatchesItems style rules T decider own_style own_rules number
      → SaysLines says own_rules own_style (undecided (messages_under rules MESSAGE_LIMIT T)) number out number_now out_now
      → says out (text_behind style MESSAGE_LIMIT rules T (undecided (messages_under rules MESSAGE_LIMIT T))) out_now
  watched decider number number_now out out_now stood lines =
      let all_few = few_items rules T in
      let numbered = stood.numbered in
      let same = stood.same in
      let ruled = stood.same_rules in
      let few = stood.few in
      subst (λ text. says out text out_now)
      (λ i. list_text_from (ruled i) (same i) (numbered i) (undecided (messages_under rules MESSAGE_LIMIT T))) (lines (omega arith)).1

-- ---- all that is said

module _ (style : ItemStyle) (limit : ℕ) (rules : List RuleValue) where
  -- the list of items, and the text of those behind them
  joined : (T : List Entry) (items : List ItemValue)
      → list_text rules style (decided_of limit rules T) ++ text_behind style limit rules T items
      ≡ list_text rules style (decided_of limit rules T ++ items)
  joined T items = sym (lines-append rules style 1 (decided_of limit rules T) items)

  -- the list so far, and what is said of one more frame
  next_said : (T : List Entry) (e : Entry)
      → list_text rules style (decided_of limit rules T) ++ text_behind style limit rules T (newly_decided limit rules T e)
      ≡ list_text rules style (decided_of limit rules (T ++ e ∷ []))
  next_said T e =
      let M = messages_under rules limit T in
      let grows = decided_grows M (under rules (told_message (dir_of e.channel) (verdict limit T e).verdict)) in
      let longer : decided_of limit rules (T ++ e ∷ []) ≡ decided M ++ grows.0 =
      ap decided (messages_under_more rules limit T e) ∙ grows.1 in
      let left : newly_decided limit rules T e ≡ grows.0 =
      ap (drop (length (decided M))) longer ∙ drop-append_seam (decided M) grows.0 in
      ap (λ items. list_text rules style (decided_of limit rules T) ++ text_behind style limit rules T items) left
      ∙ joined T grows.0 ∙ ap (list_text rules style) (sym longer)

  -- and of all that follow
  from_there : (past rest : List Entry)
      → list_text rules style (decided_of limit rules past) ++ said_after ((watch_script style limit rules).of_frame) past rest
      ≡ list_text rules style (decided_of limit rules (past ++ rest))
  from_there past [] =
      append-nil (list_text rules style (decided_of limit rules past))
      ∙ ap (λ T. list_text rules style (decided_of limit rules T)) (sym (append-nil past))
  from_there past (e ∷ rest) =
      let word = text_behind style limit rules past (newly_decided limit rules past e) in
      let later = said_after ((watch_script style limit rules).of_frame) (past ++ e ∷ []) rest in
      sym (append_assoc (list_text rules style (decided_of limit rules past)) word later) ∙ ap (λ x. x ++ later) (next_said past e)
      ∙ from_there (past ++ e ∷ []) rest
      ∙ ap (λ T. list_text rules style (decided_of limit rules T)) (append_assoc past (e ∷ []) rest)

pub watch_says_decided : WatchSaysDecided
watch_says_decided style limit rules T = from_there style limit rules [] T

pub watch_says_the_list : WatchSaysTheList
watch_says_the_list style limit rules T summary =
    let M = messages_under rules limit T in
    ap (λ x. x ++ text_behind style limit rules T (undecided M)) (watch_says_decided style limit rules T)
    ∙ joined style limit rules T (undecided M)
    ∙ ap (list_text rules style) (decided_then_undecided M)

-- so where a run comes to the end of the log, that was written
pub writes_the_list : (style : ItemStyle) (settings : Settings) (log : List ℕ) (given : ℕ) (result : Result Summary Fault) (old new : List ℕ)
    → AnswersAndWrites (command (watch_script style MESSAGE_LIMIT settings.rules) says_no_refusal answers_counts
    (CompletesKept MESSAGE_LIMIT settings.rules)) MESSAGE_LIMIT settings log given result old new
    → OnOk result (WritesTheList style MESSAGE_LIMIT settings log old new)
writes_the_list style settings log given (Ok summary) old new (all, meanings, is, counted, wrote) = (
  meaning_of_lines MESSAGE_LIMIT settings meanings,
  record { meanings = meanings; means = is.1; found = refl },
  wrote ∙ ap (λ x. old ++ x) (watch_says_the_list style MESSAGE_LIMIT settings.rules (trace settings meanings)
      (summary_of MESSAGE_LIMIT settings log meanings)),
)
writes_the_list style settings log given (Err why) old new answers = tt
