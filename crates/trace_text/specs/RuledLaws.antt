-- What holds of the text of a message that rules have left.
use Rattle.std.specs.Prelude.{◌≡◌, ◌↔◌, ℕ, false, List, [], Some}
use Rattle.can_log.specs.Frame.{AreBytes}
use Rattle.uds_rules.specs.Rule.{RuleValue, is_spoken_of, made_of}
use Rattle.trace_text.specs.RuledText.{ruled_text}
use Rattle.trace_text.specs.Words.{bytes_text}

-- the bytes of a message are bytes, and rules leave it as it is
abbrev pub IsLeft : List RuleValue → List ℕ → Type 0
IsLeft rules message = AreBytes message × (made_of rules message ≡ Some message)

-- without rules the text is that of the bytes
abbrev pub NoRulesMarkNothing : Type 0
NoRulesMarkNothing = (message : List ℕ) → ruled_text [] message ≡ bytes_text message

-- and so is it of a message that no rule speaks of
abbrev pub UnspokenIsNotMarked : Type 0
UnspokenIsNotMarked = (rules : List RuleValue) (message : List ℕ) → is_spoken_of rules message ≡ false → ruled_text rules message ≡ bytes_text message

-- equal messages that rules leave have equal texts, and only they
abbrev pub EqualMessagesHaveEqualTexts : Type 0
EqualMessagesHaveEqualTexts = (rules : List RuleValue) (one other : List ℕ) → IsLeft rules one → IsLeft rules other
    → (one ≡ other) ↔ (ruled_text rules one ≡ ruled_text rules other)
