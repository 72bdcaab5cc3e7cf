-- What the parser reads of a command as it is put together.
use Rattle.std.proofs.Common.{◌≡◌, ◌∙◌, ap, ap₂, refl, sym, true≢false, Bool, true, false, not, List, [], ◌∷◌, ◌++◌, append-nil, append_assoc, map}
use Rattle.std.specs.List.{list_all}
use Rattle.clap.specs.Built.{AddsArg, AddsInTurn, AddsSubcommand}
use Rattle.clap.specs.Simple.{App, app_of, with_subcommand}
use Rattle.clap.specs.Walk.{Rule, rule_of}
use Rattle.clap.specs.declared.builder.arg.Arg.{Arg}
use Rattle.clap.specs.declared.builder.command.Command.{Command}
use Rattle.clap.specs.declared.builder.command.Command.TheViews.{out-Command}
use Rattle.clap.proofs.WalkLemmas.{both}
use Rattle.command_line.specs.declared.commands.CommandRow.{CommandRow}
use Rattle.command_line.specs.proving.Rows.{is_unshared, shape_of_row, with_rows, with_rules}

is_false : (b : Bool) → not b ≡ true → b ≡ false
is_false true is = absurd (true≢false (sym is))
is_false false is = refl

-- a plain command has no argument that its subcommands share
is_local : (c : Command) → (app_of c).top.is_plain ≡ true → (out-Command c).has_globals ≡ false
is_local c plain = is_false _ (both _ _ (both _ _ (both _ _ plain).1).1).0

-- a command with one more subcommand
pub with_command : (old sub new : Command) (app below : App) → AddsSubcommand old sub new → app_of old ≡ app → app_of sub ≡ below → below.top.is_plain ≡ true
    → app_of new ≡ with_subcommand app below.top
with_command old sub new app below adds is below_is plain =
    adds.shape (is_local sub (ap (λ (a : App). a.top.is_plain) below_is ∙ plain)) ∙ ap₂ with_subcommand is (ap (λ (a : App). a.top) below_is)

-- ---- rules and commands one after another

-- no more rules
no_more_rules : (app : App) → with_rules app [] ≡ app
no_more_rules app = ap (λ rules. record app { top = record app.top { rules = rules } }) (append-nil app.top.rules)

-- some rules and then others
more_rules : (app old : App) (first rest : List Rule) → app ≡ with_rules old first → with_rules app rest ≡ with_rules old (first ++ rest)
more_rules app old first rest is =
    ap (λ a. with_rules a rest) is ∙ ap (λ rules. record old { top = record old.top { rules = rules } }) (append_assoc old.top.rules first rest)

-- a command with more arguments, one after another
added_in_turn : (old : Command) (args : List Arg) (new : Command) → AddsInTurn AddsArg old args new → list_all is_unshared args ≡ true
    → app_of new ≡ with_rules (app_of old) (map rule_of args)
added_in_turn old [] new same local = ap app_of (sym same) ∙ sym (no_more_rules (app_of old))
added_in_turn old (arg ∷ args) new (more, adds, rest) local =
    let each = both (is_unshared arg) (list_all is_unshared args) local in
    added_in_turn more args new rest each.1 ∙ more_rules (app_of more) (app_of old) (rule_of arg ∷ []) (map rule_of args) (adds.shape (is_false arg.global each.0))

pub with_args : (old : Command) (args : List Arg) (new : Command) (app : App) (rules : List Rule) → AddsInTurn AddsArg old args new → list_all is_unshared args ≡ true
    → app_of old ≡ app → map rule_of args ≡ rules → app_of new ≡ with_rules app rules
with_args old args new app rules adds local is rules_are = added_in_turn old args new adds local ∙ ap₂ with_rules is rules_are

-- one more row
pub one_more_row : (app old all : App) (row : CommandRow) (rest : List CommandRow) → app ≡ with_subcommand old (shape_of_row row) → with_rows old (row ∷ rest) ≡ all
    → with_rows app rest ≡ all
one_more_row app old all row rest is before = ap (λ a. with_rows a rest) is ∙ before
