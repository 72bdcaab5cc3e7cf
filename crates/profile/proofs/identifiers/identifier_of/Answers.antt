use Rattle.std.proofs.Common.{arith, ap, sym, refl, ◌≡◌, ◌∙◌, true, length, Some}
use Rattle.std.specs.Char.{is_ascii_hexdigit}
use Rattle.std.specs.List.{list_all}
use Rattle.std.specs.Result.{result_ok}
use Rattle.std.specs.Str.Parse.{digits_value}
use Rattle.can_log.specs.declared.frame.Id.TheVariants as id
use Rattle.profile.specs.UnitKeys.{identifier_of}
use Rattle.profile.proofs.SpelledIdentifiers.{digits_are_read, some_of}
use Rattle.profile.proofs.identifiers.identifier_of.Goals as goal

pub returns-in-3 : goal.returns-in-3
unfolding identifier_of
returns-in-3 c =
    let each : list_all is_ascii_hexdigit c.args.text.now ≡ true = sym (c.are_digits.ensures ∙ ap (list_all is_ascii_hexdigit) c.as_bytes.ensures.value) ∙ c.if-not-are_digits.false in
    let long : length c.args.text.now ≡ 3 = c.in-3.is in
    let read = digits_are_read 16 c.args.text.now c.from_str_radix.result c.from_str_radix.ensures.value each (omega arith) (rw long (omega arith)) in
    let ok : c.ok.result ≡ Some (digits_value 16 c.args.text.now) = c.ok.ensures.value ∙ ap result_ok read in
    let mapped = some_of c.map.result (id.Std (digits_value 16 c.args.text.now)) (rw ok at c.map.ensures.cases) in
    mapped ∙ rw (each, long) refl

pub returns-in-8 : goal.returns-in-8
unfolding identifier_of
returns-in-8 c =
    let each : list_all is_ascii_hexdigit c.args.text.now ≡ true = sym (c.are_digits.ensures ∙ ap (list_all is_ascii_hexdigit) c.as_bytes.ensures.value) ∙ c.if-not-are_digits.false in
    let long : length c.args.text.now ≡ 8 = c.in-8.is in
    let read = digits_are_read 32 c.args.text.now c.from_str_radix-in-8.result c.from_str_radix-in-8.ensures.value each (omega arith) (rw long (omega arith)) in
    let ok : c.ok-in-8.result ≡ Some (digits_value 16 c.args.text.now) = c.ok-in-8.ensures.value ∙ ap result_ok read in
    let mapped = some_of c.map-in-8.result (id.Ext (digits_value 16 c.args.text.now)) (rw ok at c.map-in-8.ensures.cases) in
    mapped ∙ rw (each, long) refl
