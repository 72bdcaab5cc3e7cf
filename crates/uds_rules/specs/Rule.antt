-- A rule, which messages it speaks of, and what it makes of one.
use Rattle.std.specs.Prelude.{ℕ, ◌==◌, ◌&&◌, ◌||◌, Bool, true, false, List, [], ◌∷◌, ◌++◌, ◌+◌, length, drop, Option, Some, None, option_map, if◌then◌else◌}
use Rattle.uds_message.specs.Message.{sid}
use Rattle.uds_rules.specs.Mask.{MaskValue, masked}
use Rattle.uds_rules.specs.declared.rule.Deed.{Deed}
use Rattle.uds_rules.specs.declared.rule.Deed.TheVariants as deed

-- A rule: the bytes that its messages begin with, and what is done with them.
pub record RuleValue : Type 0 where
  pub prefix : List ℕ
  pub deed : Deed

-- a message begins with these bytes
abbrev pub begins_with : List ℕ → List ℕ → Bool
begins_with [] message = true
begins_with (byte ∷ prefix) [] = false
begins_with (byte ∷ prefix) (first ∷ message) = (byte == first) && begins_with prefix message

-- a rule speaks of each message that begins with its prefix, whichever side sent it
abbrev pub speaks_of : RuleValue → List ℕ → Bool
speaks_of rule message = begins_with rule.prefix message

-- whether one of these rules speaks of a message
abbrev pub is_spoken_of : List RuleValue → List ℕ → Bool
is_spoken_of [] message = false
is_spoken_of (rule ∷ rules) message = speaks_of rule message || is_spoken_of rules message

-- whether one of these rules begins with the first byte of a message: else none speaks of it
abbrev pub may_speak_of : List RuleValue → List ℕ → Bool
may_speak_of [] message = false
may_speak_of (rule ∷ rules) message = (sid rule.prefix == sid message) || may_speak_of rules message

-- the place of the first of these rules that speaks of a message, if one does
abbrev pub rule_of : List RuleValue → List ℕ → Option ℕ
rule_of [] message = None
rule_of (rule ∷ rules) message = if speaks_of rule message then Some 0 else option_map (λ place. place + 1) (rule_of rules message)

-- what is made of a message that begins with the prefix: none where it is left out
abbrev pub made_by : Deed → List ℕ → List ℕ → Option (List ℕ)
made_by deed.Drop prefix message = None
made_by (deed.Mask mask) prefix message = Some (prefix ++ masked mask (drop (length prefix) message))

-- What rules make of a message: what the first of them makes that speaks of it. One that no rule speaks of stays as it
-- is.
abbrev pub made_of : List RuleValue → List ℕ → Option (List ℕ)
made_of [] message = Some message
made_of (rule ∷ rules) message = if speaks_of rule message then made_by rule.deed rule.prefix message else made_of rules message

-- whether messages are masked, and not left out
abbrev pub masks : Deed → Bool
masks deed.Drop = false
masks (deed.Mask mask) = true

-- whether the first rule that speaks of a message masks it
abbrev pub is_masked : List RuleValue → List ℕ → Bool
is_masked [] message = false
is_masked (rule ∷ rules) message = if speaks_of rule message then masks rule.deed else is_masked rules message

-- the mask on messages with this prefix, and the place behind the prefix where it begins
abbrev pub mask_by : Deed → List ℕ → Option (MaskValue × ℕ)
mask_by deed.Drop prefix = None
mask_by (deed.Mask mask) prefix = Some (mask, length prefix)

-- the mask of the first rule that speaks of a message, if it masks
abbrev pub mask_of : List RuleValue → List ℕ → Option (MaskValue × ℕ)
mask_of [] message = None
mask_of (rule ∷ rules) message = if speaks_of rule message then mask_by rule.deed rule.prefix else mask_of rules message
