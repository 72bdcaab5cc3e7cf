-- The places of a page of one log to which links lead, and the identifiers by which they do (HTML, the attribute `id`).
use Rattle.std.specs.Prelude.{ℕ, Bool, List, ◌++◌, codes, Option, Some, None, if◌then◌else◌}
use Rattle.std.specs.Fmt.{decimal}
use Rattle.direction.specs.declared.Dir.{Dir}
use Rattle.direction.specs.declared.Dir.TheVariants as dir
use Rattle.trace_report.specs.declared.targets.LinkTarget.{LinkTarget}
use Rattle.trace_report.specs.declared.targets.LinkTarget.TheVariants as target

-- the letter of a side, in identifiers and in classes of the style
abbrev pub side_text : Dir → List ℕ
side_text dir.Tester = codes "t"
side_text dir.Unit = codes "u"

-- the identifier of a place on the page
abbrev pub identifier : LinkTarget → List ℕ
identifier (target.Item number) = codes "i" ++ decimal number
identifier (target.Line number) = codes "l" ++ decimal number
identifier (target.Side d) = codes "e" ++ side_text d

-- a place, where links lead to it
abbrev pub target_if : Bool → LinkTarget → Option LinkTarget
target_if linked place = if linked then Some place else None
