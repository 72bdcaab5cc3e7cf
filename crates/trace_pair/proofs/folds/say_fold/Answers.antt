-- A fold is said in one table up to two hundred rows, and else in parts.
use Rattle.std.proofs.Common.{◌++◌, Bool, codes, subst, sym}
use Rattle.std.specs.Prelude.{if◌then◌else◌}
use Rattle.std.specs.List.{flat_map}
use Rattle.std.proofs.lemmas.Bool.{le-leb, lt-leb}
use Rattle.trace_pair.specs.ItemTables.{fold_line, fold_part, rows_text, table_start}
use Rattle.trace_pair.specs.RowStretches.{fold_rows, parts}
use Rattle.trace_pair.proofs.folds.say_fold.Goals as goal

pub returns-then-fold-le-FULL_TABLE : goal.returns-then-fold-le-FULL_TABLE
returns-then-fold-le-FULL_TABLE g c =
    let onward = g.met.S.TextSink.onward in
    let one = c.args.sessions.left.now in
    let other = c.args.sessions.right.now in
    let fold = c.args.fold in
    subst (λ (few : Bool). g.S.TextSink.says c.args.out.now
    (if few
    then codes "<details class=\"b same\">\n<summary>" ++ fold_line one other fold ++ codes "</summary>\n" ++ table_start
    ++ rows_text one other (fold_rows fold) ++ codes "</table>\n</details>\n"
    else codes "<details class=\"b same long\">\n<summary>" ++ fold_line one other fold ++ codes "</summary>\n"
    ++ flat_map (fold_part one other) (parts fold) ++ codes "</details>\n")
    c.say-then-fold-le-FULL_TABLE-3.new.out)
    (sym (le-leb c.args.fold.count 200 c.if-fold-le-FULL_TABLE.true))
    (onward _ _ _ _ _ (onward _ _ _ _ _ (onward _ _ _ _ _ (onward _ _ _ _ _ (onward _ _ _ _ _ c.say.ensures c.say_fold_line.ensures) c.say-then-fold-le-FULL_TABLE.ensures) c.say-then-fold-le-FULL_TABLE-2.ensures) c.say_same_rows.ensures) c.say-then-fold-le-FULL_TABLE-3.ensures)

pub returns-else-fold-le-FULL_TABLE : goal.returns-else-fold-le-FULL_TABLE
returns-else-fold-le-FULL_TABLE g c =
    let onward = g.met.S.TextSink.onward in
    let one = c.args.sessions.left.now in
    let other = c.args.sessions.right.now in
    let fold = c.args.fold in
    subst (λ (few : Bool). g.S.TextSink.says c.args.out.now
    (if few
    then codes "<details class=\"b same\">\n<summary>" ++ fold_line one other fold ++ codes "</summary>\n" ++ table_start
    ++ rows_text one other (fold_rows fold) ++ codes "</table>\n</details>\n"
    else codes "<details class=\"b same long\">\n<summary>" ++ fold_line one other fold ++ codes "</summary>\n"
    ++ flat_map (fold_part one other) (parts fold) ++ codes "</details>\n")
    c.say-else-fold-le-FULL_TABLE-3.new.out)
    (sym (lt-leb c.args.fold.count 200 c.if-fold-le-FULL_TABLE.false))
    (onward _ _ _ _ _ (onward _ _ _ _ _ (onward _ _ _ _ _ (onward _ _ _ _ _ c.say-else-fold-le-FULL_TABLE.ensures c.say_fold_line-else-fold-le-FULL_TABLE.ensures) c.say-else-fold-le-FULL_TABLE-2.ensures) c.say_fold_parts.ensures) c.say-else-fold-le-FULL_TABLE-3.ensures)
