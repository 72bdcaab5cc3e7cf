use Rattle.std.proofs.Common.{◌≡◌, drop}
use Rattle.std.specs.List.{list_all}
use Rattle.profile.specs.UnitKeys.{is_name_byte}
use Rattle.profile.proofs.unit_keys.are_name_bytes.Given as goal

abbrev pub invariant-bytes : goal.invariant-bytes
invariant-bytes l = list_all is_name_byte (drop l.byte-index l.text) ≡ list_all is_name_byte l.text
