-- Each letter is that of its byte.
use Rattle.std.proofs.Common.{ap}
use Rattle.std.proofs.lemmas.Simd.{pick_l_whole}
use Rattle.shown_bytes.specs.Letters.{letters}
use Rattle.shown_bytes.proofs.letters.eight_letters.Goals as goal

pub returns : goal.returns
returns c =
    rw (c.shown_byte.ensures, c.shown_byte-2.ensures, c.shown_byte-3.ensures, c.shown_byte-4.ensures, c.shown_byte-5.ensures, c.shown_byte-6.ensures, c.shown_byte-7.ensures, c.shown_byte-8.ensures)
    (ap letters (pick_l_whole 0 c.args.bytes.now 8 c.told-bytes))
