use Prim.Native.Char.{code}
use Rattle.std.proofs.Common.{◌≡◌, ◌-◌, ℕ, List, length, length-append, replicate, refl, ap, sym, subst, ◌∙◌, arith}
use Rattle.std.proofs.lemmas.Simd.{length-replicate}
use Rattle.std.specs.Str.Parse.{digits_value}
use Rattle.can_log.specs.proving.Plain.{AreDecimals, padded}
use Rattle.can_log.proofs.LaneNumbers.{padded_decimals, padded_time_is, stamp_value}
use Rattle.can_log.proofs.stamp.time_of_short.Goals as goal

pub decimal_number-requires-clause-digits : goal.decimal_number-requires-clause-digits
decimal_number-requires-clause-digits c =
    subst AreDecimals (sym c.short_stamp_digits.ensures) (padded_decimals c.args.stamp.now (padded c.args.stamp.now) c.requires.stamp refl)

pub returns : goal.returns
returns c =
    let stamp = c.args.stamp.now in
    let zeros = 17 - length stamp in
    let long : length (padded stamp) ≡ 17 =
    omega (arith, length-append (replicate zeros (code "0")) stamp, length-replicate zeros (code "0"), c.requires.short)
    in
    c.decimal_number.ensures ∙ ap (λ (l : List ℕ). digits_value 10 l) c.short_stamp_digits.ensures ∙ stamp_value (padded stamp) long
    ∙ padded_time_is stamp (padded stamp) c.requires.stamp refl
