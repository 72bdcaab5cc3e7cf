-- A page of a log that can't be read tells the rules.
use Rattle.std.proofs.Common.{◌≡◌, Bool, true, List, [], subst, sym, ◌∙◌}
use Rattle.std.specs.Prelude.{if◌then◌else◌}
use Rattle.trace_pair.specs.Page.{has_page, refused_page}
use Rattle.trace_pair.specs.Titles.{title_of}
use Rattle.trace_pair.proofs.page.say_unread.Goals as goal

pub returns-then-has_page : goal.returns-then-has_page
returns-then-has_page g c =
    let title = title_of c.args.title.now in
    let page : has_page c.args.why ≡ true = sym c.has_page.ensures ∙ c.if-has_page.true in
    subst (λ (is : Bool). g.S.TextSink.says c.args.out.now (if is then refused_page title c.args.log c.args.why c.args.cause else []) c.say.new.out)
    (sym page) c.say.ensures
