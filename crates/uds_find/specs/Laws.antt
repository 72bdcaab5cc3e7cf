-- What the laws say of what frames say, and of credits.
use Rattle.std.specs.Prelude.{◌≡◌, ℕ, true, false, List, [], ◌∷◌, ◌++◌, Some, None, Ok}
use Rattle.std.specs.List.{list_any}
use Rattle.can_log.specs.Frame.{FrameValue}
use Rattle.can_log.specs.declared.frame.Id.{Id}
use Rattle.isotp_pdu.specs.Layout.{single}
use Rattle.isotp_pdu.specs.Reading.{layout_of}
use Rattle.uds_find.specs.Asking.{HasAsking, HasKept, NeedsMemory}
use Rattle.uds_find.specs.Credit.{answers_from, asks_for, credit, is_same, HasCredit, IsFirstCredit}
use Rattle.uds_find.specs.Functional.{is_functional, is_functional_frame, is_functional_identifier}
use Rattle.uds_find.specs.Mention.{mention_of}
use Rattle.uds_find.specs.Tester.{IsUnitWithTester}
use Rattle.uds_find.specs.declared.mention.Mention.TheVariants.{Asks, Answers}
use Rattle.uds_find.specs.declared.pair.IdPair.{IdPair}

-- a keep-alive asks for nothing: TesterPresent whose positive response is suppressed (ISO 14229-1:2020, 9.6)
abbrev pub KeepAliveSaysNothing : Type 0
KeepAliveSaysNothing = (frame : FrameValue) → layout_of frame ≡ Ok (single (0x3E ∷ 0x80 ∷ [])) → mention_of frame ≡ None

-- a pending reply answers nothing: a negative response with the code 78, requestCorrectlyReceived-ResponsePending
-- (annex A.1)
abbrev pub PendingReplySaysNothing : Type 0
PendingReplySaysNothing = (frame : FrameValue) (service : ℕ) (more : List ℕ) → layout_of frame ≡ Ok (single (0x7F ∷ service ∷ 0x78 ∷ more))
    → mention_of frame ≡ None

-- the first credit of a pair is a credit
abbrev pub FirstCreditIsCredit : Type 0
FirstCreditIsCredit = (past : List FrameValue) (frame : FrameValue) → IsFirstCredit past frame → HasCredit (past ++ frame ∷ [])

-- Of these frames the last that asks for the service has this identifier, and the unit hasn't answered it yet.
pub record AsksLast (past : List FrameValue) (service : ℕ) (asker unit : Id) : Type 0 where
  pub earlier : List FrameValue
  pub asking : FrameValue
  pub since : List FrameValue
  pub place : past ≡ earlier ++ asking ∷ since
  pub asks : mention_of asking ≡ Some (Asks service)
  pub sent : asking.id ≡ asker
  pub is_last : list_any (asks_for service) since ≡ false
  pub is_unanswered : list_any (answers_from service unit) since ≡ false

-- a credited frame answers a service: its unit sent it, and its tester, which is another, was the last to ask, and has
-- no answer of this unit yet
abbrev pub CreditIsAsked : Type 0
CreditIsAsked = (past : List FrameValue) (frame : FrameValue) (pair : IdPair) → credit past frame ≡ Some pair
    → (service : ℕ) × (mention_of frame ≡ Some (Answers service)) × (pair.unit ≡ frame.id) × AsksLast past service pair.tester pair.unit
    × (is_same pair.tester pair.unit ≡ false)

-- a credit is given once for one asking: no later answer of the unit is credited, where nobody asked for the service
-- since
abbrev pub SecondAnswerHasNoCredit : Type 0
SecondAnswerHasNoCredit = (past since : List FrameValue) (answer again : FrameValue) (service : ℕ)
    → mention_of answer ≡ Some (Answers service) → mention_of again ≡ Some (Answers service) → again.id ≡ answer.id
    → list_any (asks_for service) since ≡ false → credit (past ++ answer ∷ since) again ≡ None

-- where an answer is credited, some frame asks
abbrev pub CreditHasAsking : Type 0
CreditHasAsking = (frames : List FrameValue) → HasCredit frames → HasAsking frames

-- what is kept grows only where the identifier of some frame is kept
abbrev pub NeedHasKept : Type 0
NeedHasKept = (past : List FrameValue) (frame : FrameValue) → NeedsMemory past frame → HasKept (past ++ frame ∷ [])

-- with a frame that is not functional it grows only where some frame asks
abbrev pub NeedHasAsking : Type 0
NeedHasAsking = (past : List FrameValue) (frame : FrameValue) → is_functional_frame frame ≡ false → NeedsMemory past frame
    → HasAsking (past ++ frame ∷ [])

-- where a frame asks, its identifier is kept
abbrev pub AskingIsKept : Type 0
AskingIsKept = (frames : List FrameValue) → HasAsking frames → HasKept frames

-- whatever is functional is an identifier for functional requests
abbrev pub FunctionalIsIdentifier : Type 0
FunctionalIsIdentifier = (frames : List FrameValue) (one : Id) → is_functional frames one ≡ true → is_functional_identifier one ≡ true

-- no unit is its own tester
abbrev pub TesterIsAnother : Type 0
TesterIsAnother = (frames : List FrameValue) (pair : IdPair) → IsUnitWithTester frames pair → is_same pair.tester pair.unit ≡ false
