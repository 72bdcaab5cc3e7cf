-- What is masked at the place is what the rest masks behind so many places less.
use Rattle.std.proofs.Common.{◌≡◌, length}
use Rattle.uds_echo.specs.Left.{masks_place}
use Rattle.uds_echo.proofs.left.masks_place.Given as goal

abbrev pub invariant-places : goal.invariant-places
invariant-places l = masks_place l.rest l.before ≡ masks_place l.fn.mask l.fn.place

abbrev pub decreases-places : goal.decreases-places
decreases-places l = length l.rest.places
