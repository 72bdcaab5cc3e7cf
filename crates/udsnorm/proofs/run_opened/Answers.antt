use Rattle.std.proofs.Common.{◌≡◌, ap, ◌∙◌, List, ℕ}
use Rattle.command_line.specs.Values.{shown_name}
use Rattle.command_line.specs.declared.commands.PairJob.{PairJob}
use Rattle.udsnorm.proofs.Done.{ran_named_two}
use Rattle.udsnorm.proofs.OpenedFiles.{given_by, opened_as, two_files_as}
use Rattle.udsnorm.proofs.run_opened.Goals as goal

same_names : (job : PairJob) {path other left right : List ℕ} → path ≡ left → other ≡ right → shown_name job path other ≡ shown_name job left right
same_names job {path} {other} {left} {right} is_left is_right =
    ap (λ x. shown_name job x other) is_left ∙ ap (λ x. shown_name job left x) is_right

pub returns-clause-ran : goal.returns-clause-ran
returns-clause-ran g c = record {
  one = c.new-left.result;
  other = c.new-right.result;
  one_unread = record { by_name = opened_as (g.R.Opener.says c.args.rt.now) c.new-left.ensures c.requires.left; from_start = ap given_by c.new-left.ensures };
  other_unread = record { by_name = opened_as (g.R.Opener.says c.args.rt.now) c.new-right.ensures c.requires.right; from_start = ap given_by c.new-right.ensures };
  are_two = two_files_as (g.R.Opener.says c.args.rt.now) c.new-left.ensures c.new-right.ensures c.requires.two;
  one_left = c.run_two-end.new.left;
  other_left = c.run_two-end.new.right;
  written = c.run_two-end.result.answer;
  ran = ran_named_two (c.shown_name.ensures ∙ same_names c.args.job c.as_str.ensures.value c.as_str-2.ensures.value)
      (c.shown_name-2.ensures ∙ same_names c.args.job c.as_str-3.ensures.value c.as_str-4.ensures.value) c.run_two-end.ensures.ran;
  known_is = c.known_of_files.ensures;
}
