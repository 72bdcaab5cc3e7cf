-- Each code adds its text, and fewer than four bytes end it.
use Rattle.std.proofs.Common.{◌≡◌, ◌++◌, [], length, take, drop, ◌-◌, refl, ap, sym, subst, ◌∙◌, append_assoc}
use Rattle.std.proofs.lemmas.List.{append-nil}
use Rattle.shown_bytes.specs.TroubleCodes.{codes_behind}
use Rattle.shown_bytes.proofs.CodesBehind.{first_code, no_more, one_more}
use Rattle.shown_bytes.proofs.trouble_codes.CodesBehindPart.say.Goals as goal

pub codes-preserved : goal.codes-preserved
codes-preserved g c =
    let so_far = c.codes.invariant in
    let rest = c.codes.rest.now in
    let code = first_code rest in (
      so_far.0 ++ code,
      so_far.1 ∙ ap (λ text. so_far.0 ++ text) (one_more rest (length rest) c.in-len4-up.len_at_least refl)
          ∙ sym (append_assoc so_far.0 code (codes_behind (take (length rest - 4) (drop 4 rest)))),
      g.met.S.TextSink.onward c.args.out.now c.codes.out c.say.new.out so_far.0 code so_far.2 c.say.ensures,
    )

pub returns : goal.returns
returns g c =
    let so_far = c.codes.invariant in
    subst (λ text. g.S.TextSink.says c.args.out.now text c.codes.out)
    (sym (so_far.1 ∙ ap (λ text. so_far.0 ++ text) (no_more c.codes.rest.now c.in_default.len_below) ∙ append-nil so_far.0))
    so_far.2
