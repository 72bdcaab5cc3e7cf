use Rattle.std.proofs.Common.{◌≤◌, ◌==◌, ◌++◌, ◌∙◌, List, ℕ, length, ap, sym, subst}
use Rattle.std.specs.Prelude.{codes}
use Rattle.std.specs.Fmt.{decimal}
use Rattle.trace_log.specs.Summing.{lacks_line_feed}
use Rattle.udsnorm.specs.FaultLines.{clause}
use Rattle.udsnorm.proofs.LineParts.{are_unclean_text, clause_is_short, unclean_text_fits}
use Rattle.udsnorm.proofs.fault_lines.unclean_line.Goals as goal

pub line_of-requires : goal.line_of-requires
line_of-requires c =
    let s = c.args.summary.now in
    let frames = decimal c.count.result.0 in
    let dropped = decimal c.count-2.result.0 in
    let ended = decimal c.count-3.result.0 in
    let unfinished = decimal c.count-4.result.0 in
    let tester = clause (s.tester_frames == 0) (codes ", no frame of the tester") in
    let unit = clause (s.unit_frames == 0) (codes ", no frame of the unit") in
    let feed = clause c.lacks_line_feed.result (codes ", no line feed at the end") in
    subst (λ (text : List ℕ). length (c.args.log.now ++ text) ≤ 205) (sym (are_unclean_text frames dropped ended unfinished tester unit feed))
    (unclean_text_fits c.args.log.now frames dropped ended unfinished tester unit feed c.requires c.count.ensures.short c.count-2.ensures.short c.count-3.ensures.short
    c.count-4.ensures.short (clause_is_short _ (codes ", no frame of the tester")) (clause_is_short _ (codes ", no frame of the unit"))
    (clause_is_short _ (codes ", no line feed at the end")))

pub returns : goal.returns
returns c =
    let s = c.args.summary.now in
    let tester = clause (s.tester_frames == 0) (codes ", no frame of the tester") in
    let unit = clause (s.unit_frames == 0) (codes ", no frame of the unit") in
    let feed = clause (lacks_line_feed s) (codes ", no line feed at the end") in
    let is = rw (c.count.ensures.same, c.count-2.ensures.same, c.count-3.ensures.same, c.count-4.ensures.same, c.lacks_line_feed.ensures) at c.line_of.ensures in
    is ∙ ap (λ (text : List ℕ). c.args.log.now ++ text) (are_unclean_text (decimal s.frames) (decimal s.dropped) (decimal s.ended) (decimal s.unfinished) tester unit feed)
