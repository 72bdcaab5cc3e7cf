-- Devices of proof: what the verdict of a report is made of, with one more row of a sort.
use Rattle.std.specs.Prelude.{[], ◌∷◌, ◌++◌, take}
use Rattle.arrayvec.specs.ArrayVec.{ArrayVec}
use Rattle.uds_exchange.specs.Judging.{one_more}
use Rattle.trace_report.specs.Sorts.{most_links}
use Rattle.trace_report.specs.declared.tally.SortCounts.{SortCounts}
use Rattle.trace_report.specs.declared.sorts.Sort.{Sort}
use Rattle.trace_report.specs.declared.sorts.Sort.TheVariants as sort
use Rattle.trace_report.specs.declared.tally.FirstTargets.{FirstTargets}
use Rattle.trace_report.specs.declared.targets.LinkTarget.{LinkTarget}

-- how many rows there are of each sort, with one more of this sort
abbrev pub counts_with : Sort → SortCounts → SortCounts
counts_with sort.Requests counts = record counts { requests = one_more counts.requests }
counts_with sort.Positives counts = record counts { positives = one_more counts.positives }
counts_with sort.Negatives counts = record counts { negatives = one_more counts.negatives }
counts_with sort.Pendings counts = record counts { pendings = one_more counts.pendings }
counts_with sort.KeepAlives counts = record counts { keep_alives = one_more counts.keep_alives }
counts_with sort.Strays counts = record counts { strays = one_more counts.strays }
counts_with sort.Unanswered counts = record counts { unanswered = one_more counts.unanswered }
counts_with sort.ToAllUnits counts = record counts { to_all_units = one_more counts.to_all_units }
counts_with sort.Silent counts = record counts { silent = one_more counts.silent }
counts_with sort.Dropped counts = record counts { dropped = one_more counts.dropped }
counts_with sort.Ended counts = record counts { ended = one_more counts.ended }
counts_with sort.Unfinished counts = record counts { unfinished = one_more counts.unfinished }

-- the places that are kept of a sort, with one more: the first ten
abbrev pub kept : ArrayVec LinkTarget → LinkTarget → ArrayVec LinkTarget
kept first target = record { items = take most_links (first.items ++ target ∷ []) }

-- the places that are kept of each sort that needs attention, with the row of this sort to which a link leads there
abbrev pub first_with : Sort → LinkTarget → FirstTargets → FirstTargets
first_with sort.Dropped target first = record first { dropped = kept first.dropped target }
first_with sort.Ended target first = record first { ended = kept first.ended target }
first_with sort.Unfinished target first = record first { unfinished = kept first.unfinished target }
first_with sort.Negatives target first = record first { negatives = kept first.negatives target }
first_with sort.Unanswered target first = record first { unanswered = kept first.unanswered target }
first_with sort.Strays target first = record first { strays = kept first.strays target }
first_with sort.Requests target first = first
first_with sort.Positives target first = first
first_with sort.Pendings target first = first
first_with sort.KeepAlives target first = first
first_with sort.ToAllUnits target first = first
first_with sort.Silent target first = first
