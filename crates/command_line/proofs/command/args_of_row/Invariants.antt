use Rattle.std.proofs.Common.{◌≡◌, ◌++◌, drop, map, true}
use Rattle.std.specs.List.{flat_map, list_all}
use Rattle.clap.specs.Walk.{rule_of}
use Rattle.command_line.specs.proving.Rows.{is_unshared, rules_of_group}
use Rattle.command_line.proofs.command.args_of_row.Given as goal

abbrev pub invariant-groups : goal.invariant-groups
invariant-groups l = record {
  rules : map rule_of l.args.items ++ flat_map (λ group. rules_of_group group.now) (drop l.group-index l.row.arguments.now)
      ≡ flat_map (λ group. rules_of_group group.now) l.row.arguments.now;
  local : list_all is_unshared l.args.items ≡ true;
}
