use Rattle.std.proofs.Common.{◌≡◌, ◌++◌, drop, map, true}
use Rattle.std.specs.List.{list_all}
use Rattle.clap.specs.Walk.{rule_of}
use Rattle.command_line.specs.proving.Rows.{is_unshared, rules_of_group}
use Rattle.command_line.proofs.command.push_group.Given as goal

abbrev pub invariant-arguments : goal.invariant-arguments
invariant-arguments l = record {
  rules : map rule_of l.args.items ++ rules_of_group (drop l.argument-index l.group) ≡ map rule_of l.initial.args.items ++ rules_of_group l.group;
  local : list_all is_unshared l.initial.args.items ≡ true → list_all is_unshared l.args.items ≡ true;
}
