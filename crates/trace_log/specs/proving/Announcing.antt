-- A device of proof: a frame that announces no message above the limit.
use Rattle.std.specs.Prelude.{◌≡◌, None}
use Rattle.isotp_receive.specs.Events.{oversize_in}
use Rattle.isotp_receive.specs.Trace.{Entry}
use Rattle.isotp_receive.specs.declared.TheConstants.{MESSAGE_LIMIT}
use Rattle.isotp_receive.specs.Trace.{layout_in}

-- the frame announces no message above the limit
abbrev pub AnnouncesWithin : Entry → Type 0
AnnouncesWithin e = oversize_in MESSAGE_LIMIT (layout_in e) ≡ None
