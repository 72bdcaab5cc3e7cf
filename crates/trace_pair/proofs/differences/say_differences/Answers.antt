-- Of several changes the lines of the first fifty are said.
use Rattle.std.proofs.Common.{◌≡◌, ◌<◌, ◌≤◌, ℕ, Bool, List, [], ◌++◌, codes, length, min, take, arith, ap, subst, sym, ◌∙◌}
use Rattle.std.specs.Prelude.{if◌then◌else◌}
use Rattle.std.proofs.lemmas.Bool.{le-leb, lt-leb}
use Rattle.std.proofs.lemmas.List.{take_min}
use Rattle.shown_rows.specs.declared.changes.Change.{Change}
use Rattle.shown_rows.specs.Changes.{changes}
use Rattle.trace_report.specs.Session.{SessionValue}
use Rattle.trace_pair.specs.Differences.{difference_lines, list_end, list_heading, list_text}
use Rattle.trace_pair.proofs.differences.say_differences.Goals as goal

module _ (left right : SessionValue) (all : List Change) (count : ℕ) (is : count ≡ length all) where
  -- what is said where there are so many, of which so many are listed
  abbrev said : ℕ → ℕ → List ℕ
  said count listed =
      codes "<section id=\"differences\">\n" ++ list_heading count ++ codes "<ol class=\"dl\">\n" ++ difference_lines left right listed 1 (take listed all)
      ++ list_end count ++ codes "</section>\n"

  several : (listed : ℕ) → listed ≡ min count 50 → 1 < count → said count listed ≡ list_text left right all
  several listed listed_is more =
      let here : min count 50 ≡ min 50 (length all) = omega (arith, is) in
      ap (said count) (listed_is ∙ here)
      ∙ (λ i. said (is i) (min 50 (length all)))
      ∙ ap (λ (l : List Change). codes "<section id=\"differences\">\n" ++ list_heading (length all) ++ codes "<ol class=\"dl\">\n"
      ++ difference_lines left right (min 50 (length all)) 1 l ++ list_end (length all) ++ codes "</section>\n") (take_min 50 all)
      ∙ sym (ap (λ (few : Bool). if few then [] else codes "<section id=\"differences\">\n" ++ list_heading (length all) ++ codes "<ol class=\"dl\">\n"
      ++ difference_lines left right (min 50 (length all)) 1 (take 50 all) ++ list_end (length all) ++ codes "</section>\n")
      (lt-leb (length all) 1 (omega (arith, is, more))))

  not_several : count ≤ 1 → list_text left right all ≡ []
  not_several few =
      ap (λ (few : Bool). if few then [] else codes "<section id=\"differences\">\n" ++ list_heading (length all) ++ codes "<ol class=\"dl\">\n"
      ++ difference_lines left right (min 50 (length all)) 1 (take 50 all) ++ list_end (length all) ++ codes "</section>\n")
      (le-leb (length all) 1 (omega (arith, is, few)))

pub returns-then-count-gt1 : goal.returns-then-count-gt1
returns-then-count-gt1 g c =
    let onward = g.met.S.TextSink.onward in
    let left = c.args.sessions.left.now in
    let right = c.args.sessions.right.now in
    let all = changes c.args.rows.now in
    subst (λ (text : List ℕ). g.S.TextSink.says c.args.out.now text c.say-then-count-gt1-2.new.out)
    (several left right all c.count_changes-count.result c.count_changes-count.ensures c.min.result c.min.ensures c.if-count-gt1.true)
    (onward _ _ _ _ _ (onward _ _ _ _ _ (onward _ _ _ _ _ c.say.ensures c.say_lines.ensures) c.say-then-count-gt1.ensures) c.say-then-count-gt1-2.ensures)

pub returns-else-count-gt1 : goal.returns-else-count-gt1
returns-else-count-gt1 g c =
    subst (λ (text : List ℕ). g.S.TextSink.says c.args.out.now text c.args.out.now)
    (sym (not_several c.args.sessions.left.now c.args.sessions.right.now (changes c.args.rows.now) c.count_changes-count.result c.count_changes-count.ensures c.if-count-gt1.false))
    (g.met.S.TextSink.nothing c.args.out.now)
