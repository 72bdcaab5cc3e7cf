use Rattle.std.proofs.Common.{◌∙◌}
use Rattle.hex.proofs.HexLemmas.{decode_sized-twice}
use Rattle.can_log.proofs.SpelledBytes.{data_is_what_hex_decodes}
use Rattle.can_log.proofs.meaning.decode.Goals as goal

pub returns : goal.returns
returns c =
    let twice = decode_sized-twice c.args.digits.now _ c.requires.size ∙ data_is_what_hex_decodes c.args.digits.now c.requires.text in
    (rw twice at c.decode_to_slice.ensures.value).1
