use Rattle.std.proofs.Common.{◌≡◌, ◌+◌, drop}
use Rattle.std.specs.List.{prefix_len}
use Rattle.hex.specs.Hex.{is_hex_digit}
use Rattle.uds_rules.proofs.pattern.digit_count.Given as goal

abbrev pub invariant-bytes : goal.invariant-bytes
invariant-bytes l = record {
  count : l.count ≡ l.byte-index;
  rest : prefix_len is_hex_digit l.text ≡ l.count + prefix_len is_hex_digit (drop l.byte-index l.text);
}
