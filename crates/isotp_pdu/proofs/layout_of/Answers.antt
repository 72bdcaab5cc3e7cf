use Rattle.isotp_pdu.proofs.EveryFrame.{read_layouts, read_faults, read_soundly}
use Rattle.isotp_pdu.proofs.layout_of.Goals as goal

pub returns : goal.returns
returns c = record {
  value = c.layout_by_kind.ensures;
  layout = read_layouts c.args.frame.now _ c.layout_by_kind.ensures;
  fault = read_faults c.args.frame.now _ c.layout_by_kind.ensures;
  sound = read_soundly c.args.frame.now _ c.layout_by_kind.ensures;
}
