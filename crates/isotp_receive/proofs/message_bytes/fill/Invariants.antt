use Rattle.std.proofs.Common.{◌≡◌, ◌-◌, ◌++◌, replicate, vec_len, vec_capacity}
use Rattle.isotp_receive.proofs.message_bytes.fill.Given as goal

abbrev pub invariant-loop : goal.invariant-loop
invariant-loop l = record {
  items : l.filled.items ≡ l.initial.filled.items ++ replicate (l.counter - vec_len l.initial.filled) 0;
  length : vec_len l.filled ≡ l.counter;
  capacity : vec_capacity l.filled ≡ vec_capacity l.initial.filled;
}
