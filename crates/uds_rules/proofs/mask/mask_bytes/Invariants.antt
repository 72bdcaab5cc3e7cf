use Rattle.std.proofs.Common.{◌≡◌, ◌++◌, length, take, drop}
use Rattle.uds_rules.specs.Mask.{masked_bytes}
use Rattle.uds_rules.proofs.mask.mask_bytes.Given as goal

abbrev pub invariant-bytes : goal.invariant-bytes
invariant-bytes l = record {
  long : length l.bytes.items ≡ length l.initial.bytes.items;
  laid : take l.at l.bytes.items ++ masked_bytes l.left.places (drop l.at l.bytes.items)
      ≡ take l.fn.start l.initial.bytes.items ++ masked_bytes l.fn.mask.places (drop l.fn.start l.initial.bytes.items);
}
