-- The code, and behind it what its status says.
use Rattle.std.proofs.Common.{◌++◌, subst}
use Rattle.shown_bytes.specs.TroubleCodes.{status_text}
use Rattle.shown_bytes.proofs.trouble_codes.CodeTextPart.say.Goals as goal

pub returns : goal.returns
returns g c =
    subst (λ text. g.S.TextSink.says c.args.out.now (text ++ status_text c.args.self.3) c.say.new.out) c.trouble_code.ensures
    (g.met.S.TextSink.onward c.args.out.now c.put.new.self c.say.new.out c.trouble_code.result (status_text c.args.self.3) c.put.ensures c.say.ensures)
