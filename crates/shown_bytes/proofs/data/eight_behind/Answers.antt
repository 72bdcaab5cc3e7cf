-- The two vectors are the blanks and digits of eight bytes.
use Rattle.std.proofs.Common.{ap, get_or, sym, ◌∙◌}
use Rattle.std.specs.List.{flat_map}
use Rattle.std.proofs.lemmas.Simd.{pick_l_whole}
use Rattle.can_log.specs.Digits.{hexadecimal}
use Rattle.shown_bytes.specs.Data.{bytes_behind}
use Rattle.shown_bytes.proofs.BytesBehind.{spaced_digits}
use Rattle.shown_bytes.proofs.data.eight_behind.Goals as goal

pub returns : goal.returns
returns c =
    let bytes = c.args.bytes.now in
    let whole = sym (pick_l_whole 0 bytes 8 c.told-bytes) in
    spaced_digits (get_or bytes 0 0) (get_or bytes 1 0) (get_or bytes 2 0) (get_or bytes 3 0) (get_or bytes 4 0) (get_or bytes 5 0) (get_or bytes 6 0) (get_or bytes 7 0) _
    (c.digits_of_bytes-digits.ensures ∙ ap (flat_map (hexadecimal 2)) whole)
    ∙ ap bytes_behind (sym whole)
