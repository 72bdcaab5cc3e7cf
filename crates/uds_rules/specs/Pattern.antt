-- How rules are spelled: `drop PREFIX` and `mask PATTERN`.
use Prim.Native.Char.{code}
use Rattle.std.specs.Prelude.{ℕ, ◌==◌, ◌&&◌, nat_le, not, Bool, true, false, List, [], ◌∷◌, ◌++◌, length, take, drop, codes, Option, Some, None, option_map, Result, Ok, Err, if◌then◌else◌}
use Rattle.std.specs.List.{flat_map, prefix_len}
use Rattle.hex.specs.Hex.{decode_of, encode_upper, is_hex_digit}
use Rattle.hex.specs.declared.error.FromHexError.{FromHexError}
use Rattle.uds_rules.specs.Mask.{MaskValue}
use Rattle.uds_rules.specs.Rule.{RuleValue}
use Rattle.uds_rules.specs.declared.rule.Deed.TheVariants as deed
use Rattle.uds_rules.specs.Legal.{masks_something, is_maskable, keeps_sub_function}
use Rattle.uds_rules.specs.declared.rule.RuleFault.{RuleFault}
use Rattle.uds_rules.specs.declared.rule.RuleFault.TheVariants as fault

-- ---- spelled

-- a place: `??` where its byte is kept, `..` where it is masked
abbrev pub place_mark : Bool → List ℕ
place_mark false = codes "??"
place_mark true = codes ".."

-- what follows the last place: `*` where it is cut off
abbrev pub end_text : Bool → List ℕ
end_text false = []
end_text true = codes "*"

-- a mask, behind its prefix
abbrev pub mask_text : MaskValue → List ℕ
mask_text mask = flat_map place_mark mask.places ++ end_text mask.cuts

-- a pattern: two digits for each byte of the prefix, here in upper case, and the mask
abbrev pub pattern_text : List ℕ → MaskValue → List ℕ
pattern_text prefix mask = encode_upper prefix ++ mask_text mask

-- ---- read

-- one more place in front of a mask
abbrev pub behind : Bool → MaskValue → MaskValue
behind is_masked mask = record { places = is_masked ∷ mask.places; cuts = mask.cuts }

-- whether two bytes spell a place that is masked, if they spell a place
abbrev pub place_in : ℕ → ℕ → Option Bool
place_in one two =
    if one == code "?" && two == code "?" then Some false
    else if one == code "." && two == code "." then Some true
    else None

-- a place in front of a mask, if both are spelled
abbrev pub in_front : Option Bool → Option MaskValue → Option MaskValue
in_front None rest = None
in_front (Some is_masked) rest = option_map (behind is_masked) rest

-- the mask that a text spells, if it spells one
abbrev pub mask_in : List ℕ → Option MaskValue
mask_in [] = Some (record { places = []; cuts = false })
mask_in (mark ∷ []) = if mark == code "*" then Some (record { places = []; cuts = true }) else None
mask_in (one ∷ two ∷ rest) = in_front (place_in one two) (mask_in rest)

-- a mask of at most 64 places
abbrev pub few_places : Option MaskValue → Option MaskValue
few_places None = None
few_places (Some mask) = if nat_le (length mask.places) 64 then Some mask else None

-- a prefix of 1 to 16 bytes
abbrev pub few_bytes : List ℕ → Option (List ℕ)
few_bytes bytes = if nat_le 1 (length bytes) && nat_le (length bytes) 16 then Some bytes else None

-- the prefix of decoded digits
abbrev pub prefix_of : Result (List ℕ) FromHexError → Option (List ℕ)
prefix_of (Ok bytes) = few_bytes bytes
prefix_of (Err error) = None

-- the prefix that a text spells, if it spells one and no more, its digits in either case
abbrev pub prefix_in : List ℕ → Option (List ℕ)
prefix_in text = prefix_of (decode_of text)

-- the leading digits of a pattern's text
abbrev pub digits_of : List ℕ → List ℕ
digits_of text = take (prefix_len is_hex_digit text) text

-- and what follows them
abbrev pub marks_of : List ℕ → List ℕ
marks_of text = drop (prefix_len is_hex_digit text) text

-- the rule that drops the messages of a prefix, or why there is none
abbrev pub dropping : Option (List ℕ) → Result RuleValue RuleFault
dropping None = Err fault.NotAPattern
dropping (Some prefix) = Ok (record { prefix = prefix; deed = deed.Drop })

-- the rule `drop TEXT`
abbrev pub drop_rule : List ℕ → Result RuleValue RuleFault
drop_rule text = dropping (prefix_in text)

-- the rule that masks the messages of a prefix, or why there is none: the first of the faults that it has
abbrev pub masking : List ℕ → MaskValue → Result RuleValue RuleFault
masking prefix mask =
    if not (masks_something mask) then Err fault.NothingMasked
    else if not (is_maskable prefix) then Err fault.KindMasked
    else if not (keeps_sub_function prefix mask) then Err fault.SubFunctionMasked
    else Ok (record { prefix = prefix; deed = deed.Mask mask })

-- the same of the parts of a text, of which one may not be spelled
abbrev pub masking_parts : Option (List ℕ) → Option MaskValue → Result RuleValue RuleFault
masking_parts None mask = Err fault.NotAPattern
masking_parts (Some prefix) None = Err fault.NotAPattern
masking_parts (Some prefix) (Some mask) = masking prefix mask

-- the rule `mask TEXT`
abbrev pub mask_rule : List ℕ → Result RuleValue RuleFault
mask_rule text = masking_parts (prefix_in (digits_of text)) (few_places (mask_in (marks_of text)))
