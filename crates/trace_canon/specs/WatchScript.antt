-- What is said of a log whose items are watched: the list of them, each line as soon as its item is decided.
use Rattle.std.specs.Prelude.{◌≡◌, ℕ, ◌+◌, false, List, [], ◌∷◌, ◌++◌, length, drop}
use Rattle.isotp_receive.specs.Trace.{Entry}
use Rattle.uds_exchange.specs.Decided.{decided, undecided}
use Rattle.uds_exchange.specs.Meaning.{ItemValue}
use Rattle.trace_text.specs.ItemLines.{list_text, list_text_from}
use Rattle.uds_rules.specs.Rule.{RuleValue}
use Rattle.trace_log.specs.Messages.{messages_under, HasMeaning}
use Rattle.trace_log.specs.Settings.{Settings}
use Rattle.trace_run.specs.Script.{Script}
use Rattle.trace_text.specs.declared.item_style.ItemStyle.{ItemStyle}

-- the items that the frames of a trace decide under rules
abbrev pub decided_of : ℕ → List RuleValue → List Entry → List ItemValue
decided_of limit rules T = decided (messages_under rules limit T)

-- the items that the frame e decides after the frames T
abbrev pub newly_decided : ℕ → List RuleValue → List Entry → Entry → List ItemValue
newly_decided limit rules T e = drop (length (decided_of limit rules T)) (decided_of limit rules (T ++ e ∷ []))

-- the text of items that come behind those which the frames T decide
abbrev pub text_behind : ItemStyle → ℕ → List RuleValue → List Entry → List ItemValue → List ℕ
text_behind style limit rules T items = list_text_from rules style (1 + length (decided_of limit rules T)) items

-- what `watch` says: of each frame the items that it decides, and at the end those that are not decided
abbrev pub watch_script : ItemStyle → ℕ → List RuleValue → Script
watch_script style limit rules = record {
  strict = false;
  of_frame = λ T e. text_behind style limit rules T (newly_decided limit rules T e);
  at_the_end = λ T summary. text_behind style limit rules T (undecided (messages_under rules limit T));
}

-- the log is legal, and the list of its meaning was written
abbrev pub WritesTheList : ItemStyle → ℕ → Settings → List ℕ → List ℕ → List ℕ → Type 0
WritesTheList style limit settings log old new =
    (items : List ItemValue) × HasMeaning limit settings log items × (new ≡ old ++ list_text settings.rules style items)
