-- Which identifiers are functional, and which of them the line of a unit tells beside it and its tester.
use Rattle.std.specs.Prelude.{◌≡◌, ℕ, ◌/◌, ◌==◌, Bool, true, false, ◌&&◌, not, List, Option, Some, None, Result, Ok, Err}
use Rattle.std.specs.List.{list_any}
use Rattle.std.specs.Cmp.Lexicographic.{slice_cmp}
use Rattle.std.specs.Ordering.{is_lt, nat_cmp}
use Rattle.std.specs.declared.cmp.Ordering.{Ordering}
use Rattle.std.specs.declared.cmp.Ordering.TheVariants.{Less, Greater}
use Rattle.can_log.specs.Canonical.{identifier_text}
use Rattle.can_log.specs.Frame.{FrameValue}
use Rattle.can_log.specs.declared.frame.Id.{Id}
use Rattle.can_log.specs.declared.frame.Id.TheVariants as id
use Rattle.isotp_pdu.specs.Layout.{Layout, single, first, consecutive, flow_control}
use Rattle.isotp_pdu.specs.Reading.{layout_of}
use Rattle.isotp_pdu.specs.declared.PduFault.{PduFault}
use Rattle.uds_find.specs.Credit.{is_same}
use Rattle.uds_find.specs.declared.pair.IdPair.{IdPair}

-- an identifier for functional requests: 7DF (ISO 15765-4), and 18DB with two addresses behind (normal fixed
-- addressing, ISO 15765-2:2016, 10.3.3)
abbrev pub is_functional_identifier : Id → Bool
is_functional_identifier (id.Std number) = number == 0x7DF
is_functional_identifier (id.Ext number) = number / 65536 == 0x18DB

-- whether a frame has the layout of a single frame
abbrev pub is_single : Result Layout PduFault → Bool
is_single (Ok (single bytes)) = true
is_single (Ok (first len rx_dl bytes)) = false
is_single (Ok (consecutive sequence_number can_dl bytes)) = false
is_single (Ok (flow_control status)) = false
is_single (Err fault) = false

-- whether it is a functional frame: a single frame of such an identifier
abbrev pub is_functional_frame : FrameValue → Bool
is_functional_frame frame = is_functional_identifier frame.id && is_single (layout_of frame)

-- whether an identifier is functional in these frames: one of them is such a frame of it
unfoldable pub is_functional : List FrameValue → Id → Bool
is_functional frames one = list_any (λ frame. is_functional_frame frame && is_same one frame.id) frames

-- the order of texts: the first byte that differs decides, and a text stands before what only goes on after it
abbrev pub text_order : List ℕ → List ℕ → Ordering
text_order = slice_cmp nat_cmp

-- the order of identifiers by their numbers, the base ones first
abbrev pub number_order : Id → Id → Ordering
number_order (id.Std one) (id.Std other) = nat_cmp one other
number_order (id.Ext one) (id.Ext other) = nat_cmp one other
number_order (id.Std one) (id.Ext other) = Less
number_order (id.Ext one) (id.Std other) = Greater

-- whether two identifiers have as many digits: three, or eight
abbrev pub has_as_many_digits : Id → Id → Bool
has_as_many_digits (id.Std one) (id.Std other) = true
has_as_many_digits (id.Ext one) (id.Ext other) = true
has_as_many_digits (id.Std one) (id.Ext other) = false
has_as_many_digits (id.Ext one) (id.Std other) = false

-- whether an identifier has as many digits as a unit, and is neither this nor its tester
abbrev pub is_third : IdPair → Id → Bool
is_third pair one = has_as_many_digits one pair.unit && (not (is_same one pair.tester) && not (is_same one pair.unit))

-- Of the functional identifiers that are third beside a pair it is the first by its text.
pub record IsFirstThird (frames : List FrameValue) (pair : IdPair) (one : Id) : Type 0 where
  pub functional : is_functional frames one ≡ true
  pub third : is_third pair one ≡ true
  pub first : (other : Id) → is_functional frames other ≡ true → is_third pair other ≡ true
      → is_lt (text_order (identifier_text other) (identifier_text one)) ≡ false

-- the functional identifier that the line of a pair tells, or that there is none
abbrev pub IsFunctionalOf : List FrameValue → IdPair → Option Id → Type 0
IsFunctionalOf frames pair (Some one) = IsFirstThird frames pair one
IsFunctionalOf frames pair None = (other : Id) → is_functional frames other ≡ true → is_third pair other ≡ false
