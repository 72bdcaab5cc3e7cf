-- The title is made of what the call is handed.
use Rattle.std.proofs.Common.{◌≡◌, subst}
use Rattle.std.specs.Prelude.{MatchResult}
use Rattle.isotp_receive.specs.declared.TheConstants.{MESSAGE_LIMIT}
use Rattle.trace_pair.specs.InMemory.{HasNoPairPage, KeepsInMemory, IsPairPageWith}
use Rattle.trace_pair.specs.Titles.{TitleValue, title_for}
use Rattle.trace_pair.proofs.PagesInMemory.{page_of_held}
use Rattle.trace_pair.proofs.in_memory.pair_page.Goals as goal

pub returns-in-Ok : goal.returns-in-Ok
returns-in-Ok c =
    let settings = c.args.config.now in
    let own : TitleValue = record { style = c.args.style.now; left = c.args.left_name.now; right = c.args.right_name.now; tester = c.tester.result; functional = c.functional.result; unit = c.unit.result; rules = c.rules.result.now } in
    let title : own ≡ title_for c.args.style.now c.args.left_name.now c.args.right_name.now settings =
    (λ i. record { style = c.args.style.now; left = c.args.left_name.now; right = c.args.right_name.now; tester = c.tester.ensures i; functional = c.functional.ensures i; unit = c.unit.ensures i; rules = c.rules.ensures i }) in
    subst (λ (t : TitleValue). MatchResult c.page_of.result (λ page. IsPairPageWith t MESSAGE_LIMIT settings c.args.left.now c.args.right.now page.text.items page.counted) (HasNoPairPage MESSAGE_LIMIT settings c.args.left.now c.args.right.now))
    title (page_of_held own MESSAGE_LIMIT settings c.args.left.now c.args.right.now c.in-Ok.two c.page_of.result (subst (KeepsInMemory MESSAGE_LIMIT settings c.args.left.now c.args.right.now) c.in-Ok.is c.keep_both.ensures) c.page_of.ensures)
