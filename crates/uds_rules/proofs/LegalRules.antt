-- Rules that texts spell, and one more behind others.
use Rattle.std.proofs.Common.{◌≡◌, ℕ, ◌≤◌, ◌&&◌, leb-true, List, [], ◌∷◌, length, nat_le, Option, Some, None, Result, Ok, Err, inl, inr, refl, ap, subst, arith}
use Rattle.std.proofs.lemmas.Bool.{and_parts, cases_Bool}
use Rattle.std.proofs.lemmas.Option.{none-some, same_Some}
use Rattle.std.proofs.lemmas.List.{length-append}
use Rattle.hex.specs.Hex.{decode_of}
use Rattle.hex.specs.declared.error.FromHexError.{FromHexError}
use Rattle.uds_rules.specs.Mask.{MaskValue}
use Rattle.uds_rules.specs.Rule.{RuleValue}
use Rattle.uds_rules.specs.declared.rule.RuleFault.{RuleFault}
use Rattle.uds_rules.specs.Legal.{IsRule, masks_something, is_maskable, keeps_sub_function}
use Rattle.uds_rules.specs.Pattern.{dropping, few_bytes, prefix_of, prefix_in, few_places, mask_in, masking, masking_parts, digits_of, marks_of}
use Rattle.uds_rules.specs.LegalLaws.{SpelledDropIsRule, SpelledMaskIsRule, NoneAreRules, AddedAreRules}
use Rattle.uds_rules.proofs.Adding.{apart_without_clash, all_apart, each_rule}

-- ---- what is spelled

read_not_fault : (fault : RuleFault) (rule : RuleValue) → Err fault ≡ Ok rule → ⊥
read_not_fault fault rule is = cc is

-- the rule that is read, or another one
abbrev read_or : RuleValue → Result RuleValue RuleFault → RuleValue
read_or other (Ok rule) = rule
read_or other (Err fault) = other

-- bytes that are few enough for a prefix
few_are : (bytes prefix : List ℕ) → few_bytes bytes ≡ Some prefix → (1 ≤ length prefix) × (length prefix ≤ 16)
few_are bytes prefix is =
    elim (cases_Bool (nat_le 1 (length bytes) && nat_le (length bytes) 16)) [
      | inl few ↦
          (let parts = and_parts (nat_le 1 (length bytes)) (nat_le (length bytes) 16) few in
          subst (λ (bytes : List ℕ). (1 ≤ length bytes) × (length bytes ≤ 16)) (same_Some _ _ (rw few at is))
          (leb-true 1 (length bytes) parts.0, leb-true (length bytes) 16 parts.1))
      | inr other ↦ absurd (none-some _ (rw other at is))
    ]

prefix_few : (read : Result (List ℕ) FromHexError) (prefix : List ℕ) → prefix_of read ≡ Some prefix → (1 ≤ length prefix) × (length prefix ≤ 16)
prefix_few (Ok bytes) prefix is = few_are bytes prefix is
prefix_few (Err error) prefix is = absurd (none-some _ is)

-- a mask of few enough places
places_are : (read : Option MaskValue) (mask : MaskValue) → few_places read ≡ Some mask → length mask.places ≤ 64
places_are None mask is = absurd (none-some _ is)
places_are (Some read) mask is =
    elim (cases_Bool (nat_le (length read.places) 64)) [
      | inl few ↦ subst (λ (mask : MaskValue). length mask.places ≤ 64) (same_Some _ _ (rw few at is)) (leb-true (length read.places) 64 few)
      | inr other ↦ absurd (none-some _ (rw other at is))
    ]

-- the rule of a prefix that drops its messages
dropping_is : (read : Option (List ℕ)) (rule : RuleValue) → ((prefix : List ℕ) → read ≡ Some prefix → (1 ≤ length prefix) × (length prefix ≤ 16))
    → dropping read ≡ Ok rule → IsRule rule
dropping_is None rule few is = absurd (cc is)
dropping_is (Some prefix) rule few is =
    let lengths = few prefix refl in
    subst IsRule (ap (read_or rule) is) (record { least = lengths.0; most = lengths.1; deed = tt })

pub spelled_drop_is_rule : SpelledDropIsRule
spelled_drop_is_rule text rule is = dropping_is (prefix_in text) rule (λ prefix read. prefix_few (decode_of text) prefix read) is

-- the rule of a prefix that masks them
masking_is : (prefix : List ℕ) (mask : MaskValue) (rule : RuleValue) → (1 ≤ length prefix) × (length prefix ≤ 16) → length mask.places ≤ 64
    → masking prefix mask ≡ Ok rule → IsRule rule
masking_is prefix mask rule lengths few is =
    elim (cases_Bool (masks_something mask)) [
      | inl some ↦
          elim (cases_Bool (is_maskable prefix)) [
            | inl may ↦
                elim (cases_Bool (keeps_sub_function prefix mask)) [
                  | inl keeps ↦
                      subst IsRule (ap (read_or rule) (rw (some, may, keeps) at is))
                      (record { least = lengths.0; most = lengths.1; deed = record { places = few; some = some; messages = may; sub_function = keeps } })
                  | inr changes ↦ absurd (read_not_fault _ rule (rw (some, may, changes) at is))
                ]
            | inr tells ↦ absurd (read_not_fault _ rule (rw (some, tells) at is))
          ]
      | inr nothing ↦ absurd (read_not_fault _ rule (rw nothing at is))
    ]

parts_are : (read : Option (List ℕ)) (marks : Option MaskValue) (rule : RuleValue)
    → ((prefix : List ℕ) → read ≡ Some prefix → (1 ≤ length prefix) × (length prefix ≤ 16))
    → ((mask : MaskValue) → marks ≡ Some mask → length mask.places ≤ 64) → masking_parts read marks ≡ Ok rule → IsRule rule
parts_are None marks rule few short is = absurd (cc is)
parts_are (Some prefix) None rule few short is = absurd (cc is)
parts_are (Some prefix) (Some mask) rule few short is = masking_is prefix mask rule (few prefix refl) (short mask refl) is

pub spelled_mask_is_rule : SpelledMaskIsRule
spelled_mask_is_rule text rule is =
    parts_are (prefix_in (digits_of text)) (few_places (mask_in (marks_of text))) rule
    (λ prefix read. prefix_few (decode_of (digits_of text)) prefix read) (λ mask read. places_are (mask_in (marks_of text)) mask read) is

-- ---- one more behind others

pub none_are_rules : NoneAreRules
none_are_rules = record { most = omega arith; each = tt; apart = tt }

pub added_are_rules : AddedAreRules
added_are_rules rules rule are is may = record {
  most = (let more = length-append rules (rule ∷ []) in let few = may.few in omega arith);
  each = each_rule rules rule are.each is;
  apart = all_apart rules rule are.apart (apart_without_clash rules rule.prefix may.apart);
}
