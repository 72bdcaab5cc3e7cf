-- What holds of the lists of two logs.
use Rattle.std.specs.Prelude.{◌≡◌, ◌↔◌, ℕ, List}
use Rattle.trace_canon.specs.InMemory.{IsListWith}
use Rattle.trace_log.specs.Laws.{HaveSameMeaning, IsMessageLimit}
use Rattle.trace_log.specs.Settings.{Settings, AreSettings}
use Rattle.trace_log.specs.declared.summary.Summary.{Summary}
use Rattle.trace_text.specs.declared.item_style.ItemStyle.{ItemStyle}

-- Two accepted logs have one meaning under the settings, and so under their rules, exactly where their lists are
-- equal: in each notation, with numbers and without.
abbrev pub SameMeaningSameList : Type 0
SameMeaningSameList = (limit : ℕ) (settings : Settings) (style : ItemStyle) → IsMessageLimit limit → AreSettings settings
    → (a b one other : List ℕ) (of_one of_other : Summary)
    → IsListWith style limit settings a one of_one → IsListWith style limit settings b other of_other
    → HaveSameMeaning limit settings a b ↔ (one ≡ other)
