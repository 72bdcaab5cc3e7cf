use Rattle.byte_columns.proofs.Promises.{columns_have_both_messages}
use Rattle.byte_columns.proofs.laws.columns_have_both_messages.Goals as goal

pub returns : goal.returns
returns c = columns_have_both_messages
