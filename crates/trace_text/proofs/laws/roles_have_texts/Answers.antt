-- Roles differ by the lemma; the name of an answer is as it is spelled.
use Rattle.std.proofs.Common.{refl}
use Rattle.trace_text.proofs.Roles.{roles_have_texts}
use Rattle.trace_text.proofs.laws.roles_have_texts.Goals as goal

pub returns : goal.returns
returns c = record { distinct = roles_have_texts; answer = refl }
