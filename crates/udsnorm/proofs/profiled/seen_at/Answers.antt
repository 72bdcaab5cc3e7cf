use Rattle.std.proofs.Common.{rules, ◌≡◌, ap, subst}
use Rattle.std.specs.Prelude.{string_bytes}
use Rattle.clap.specs.Words.{found_of, rows_of}
use Rattle.udsnorm.specs.Opening.{opened}
use Rattle.udsnorm.specs.Profiled.{log_names}
use Rattle.udsnorm.proofs.OpenedFiles.{apart_as, given_by, opened_as, read_of}
use Rattle.udsnorm.proofs.profiled.seen_at.Goals as goal

pub returns-in-Ok-open_log : goal.returns-in-Ok-open_log
returns-in-Ok-open_log g c =
    let says = g.R.Opener.says c.args.rt.now in
    let name_is : string_bytes c.in-Ok.name ≡ c.args.name.now = search rules in
    let named = subst (λ name. says (opened name c.new.result.inner)) name_is (opened_as says c.new.ensures c.in-Ok-open_log.ensures) in
    read_of says _ c.args.name.now (rows_of (found_of c.args.found.now)) c.new.result c.read_profile.new.file c.read_profile.result
    (record { by_name = named; from_start = ap given_by c.new.ensures })
    (apart_as says (log_names (rows_of (found_of c.args.found.now))) c.new.ensures (c.is_of_a_log.ensures.none c.if-is_of_a_log.false))
    c.read_profile.ensures.gave c.read_profile.ensures.ended c.read_profile.ensures.was
