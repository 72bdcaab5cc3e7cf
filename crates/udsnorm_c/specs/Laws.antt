-- What holds of the answers of several calls, and of words.
use Rattle.std.specs.Prelude.{◌≡◌, ◌↔◌, ◌⊎◌, ◌<◌, ℕ, List, Ok, take}
use Rattle.direction.specs.declared.Dir.{Dir}
use Rattle.isotp_receive.specs.declared.TheConstants.{MESSAGE_LIMIT}
use Rattle.trace_log.specs.Laws.{HaveSameMeaning, IsCertified}
use Rattle.trace_log.specs.Settings.{Settings}
use Rattle.trace_log.specs.Summing.{frames_of}
use Rattle.trace_log.specs.Trace.{trace}
use Rattle.udsnorm_c.specs.declared.answer.UdsnormAnswer.{UdsnormAnswer}
use Rattle.udsnorm_c.specs.Answered.{CompareAnswers, DiffAnswers, NormaliseAnswers, ListAnswers, MessagesAnswers, ExplainAnswers}
use Rattle.udsnorm_c.specs.Answered.{ReportAnswers, ReportPairAnswers}
use Rattle.udsnorm_c.specs.Given.{Configured, GivenValue}
use Rattle.udsnorm_c.specs.Spelled.{words_for_c}

-- what a call is handed asks for these settings, and of these this holds
abbrev pub AsksForSome : GivenValue → (Settings → Type 0) → Type 0
AsksForSome given Holds = (settings : Settings) × Configured given (Ok settings) × Holds settings

-- what a call is handed asks for one configuration at most
abbrev pub SettingsAreOne : Type 0
SettingsAreOne = (given : GivenValue) (one other : Settings) → Configured given (Ok one) → Configured given (Ok other) → one ≡ other

-- A call of `udsnorm_normalise` on the log is done, and this is the text that it put: the first bytes of the buffer, as many
-- as it answers.
pub record IsNormalisedTo (given : GivenValue) (log text : List ℕ) : Type 0 where
  pub old : List ℕ
  pub new : List ℕ
  pub answer : UdsnormAnswer
  pub answers : NormaliseAnswers MESSAGE_LIMIT given log old new answer
  pub done : answer.status ≡ 0
  pub put : text ≡ take answer.length new

-- two logs have equal meaning, under the rules of the profile, exactly where the texts that were put of them are equal, byte
-- for byte
abbrev pub EqualMeaningsHaveEqualTexts : Type 0
EqualMeaningsHaveEqualTexts = (given : GivenValue) (left right one other : List ℕ)
    → IsNormalisedTo given left one → IsNormalisedTo given right other
    → AsksForSome given (λ settings. HaveSameMeaning MESSAGE_LIMIT settings left right ↔ (one ≡ other))

-- and so `udsnorm_compare` answers of them, unless memory is refused: item 0 exactly where these texts are equal
abbrev pub CompareTellsEqualTexts : Type 0
CompareTellsEqualTexts = (given : GivenValue) (left right one other old new : List ℕ) (answer : UdsnormAnswer)
    → IsNormalisedTo given left one → IsNormalisedTo given right other
    → CompareAnswers MESSAGE_LIMIT given left right old new answer
    → (answer.status ≡ 8) ⊎ ((answer.status ≡ 0) × ((answer.item ≡ 0) ↔ (one ≡ other)))

-- The log is a recording of exactly the messages that it delivers, with a frame of each side.
pub record IsRecorded (settings : Settings) (log : List ℕ) : Type 0 where
  pub certified : IsCertified MESSAGE_LIMIT settings log
  pub both_sides : (d : Dir) → 0 < frames_of d (trace settings certified.meanings)

-- what is answered of a log so is clean only where the log is such a recording, for the identifiers that are asked for
abbrev pub CleanIsRecorded : (GivenValue → List ℕ → List ℕ → List ℕ → UdsnormAnswer → Type 0) → Type 0
CleanIsRecorded Answers = (given : GivenValue) (log old new : List ℕ) (answer : UdsnormAnswer)
    → Answers given log old new answer → answer.clean ≡ 1 → AsksForSome given (λ settings. IsRecorded settings log)

-- so it is of the canonical log, whether there was room for it or not
abbrev pub CleanNormaliseIsRecorded : Type 0
CleanNormaliseIsRecorded = CleanIsRecorded (NormaliseAnswers MESSAGE_LIMIT)

-- of the list
abbrev pub CleanListIsRecorded : Type 0
CleanListIsRecorded = (style : ℕ) → CleanIsRecorded (λ given. ListAnswers MESSAGE_LIMIT given style)

-- of the lines of messages
abbrev pub CleanMessagesAreRecorded : Type 0
CleanMessagesAreRecorded = (style : ℕ) → CleanIsRecorded (λ given. MessagesAnswers MESSAGE_LIMIT given style)

-- of what explains the log
abbrev pub CleanExplainIsRecorded : Type 0
CleanExplainIsRecorded = (style : ℕ) → CleanIsRecorded (λ given. ExplainAnswers MESSAGE_LIMIT given style)

-- and of its page
abbrev pub CleanReportIsRecorded : Type 0
CleanReportIsRecorded = (name : List ℕ) → CleanIsRecorded (λ given. ReportAnswers MESSAGE_LIMIT given name)

-- both logs are such recordings
abbrev pub AreRecorded : GivenValue → List ℕ → List ℕ → Type 0
AreRecorded given left right = AsksForSome given (λ settings. IsRecorded settings left × IsRecorded settings right)

-- where two logs are compared and the answer is clean, they are
abbrev pub CleanCompareIsRecorded : Type 0
CleanCompareIsRecorded = (given : GivenValue) (left right old new : List ℕ) (answer : UdsnormAnswer)
    → CompareAnswers MESSAGE_LIMIT given left right old new answer → answer.clean ≡ 1 → AreRecorded given left right

-- where it is asked where they differ
abbrev pub CleanDiffIsRecorded : Type 0
CleanDiffIsRecorded = (given : GivenValue) (style : ℕ) (left_name right_name left right old new : List ℕ)
    (answer : UdsnormAnswer)
    → DiffAnswers MESSAGE_LIMIT given style left_name right_name left right old new answer
    → answer.clean ≡ 1 → AreRecorded given left right

-- and where their page is asked for
abbrev pub CleanReportPairIsRecorded : Type 0
CleanReportPairIsRecorded = (given : GivenValue) (left_name right_name left right old new : List ℕ)
    (answer : UdsnormAnswer)
    → ReportPairAnswers MESSAGE_LIMIT given left_name right_name left right old new answer
    → answer.clean ≡ 1 → AreRecorded given left right

-- where `udsnorm_compare` accepts two logs and their page is made, whether there was room for it or not, its answer has the
-- same first item that differs, and says the same of whether both are clean, and of whether tester and unit look exchanged
-- in one
abbrev pub PairPageAgreesWithCompare : Type 0
PairPageAgreesWithCompare = (given : GivenValue) (left_name right_name left right old new before after : List ℕ)
    (page compared : UdsnormAnswer)
    → ReportPairAnswers MESSAGE_LIMIT given left_name right_name left right old new page
    → (page.status ≡ 0) ⊎ (page.status ≡ 9)
    → CompareAnswers MESSAGE_LIMIT given left right before after compared → compared.status ≡ 0
    → (page.item ≡ compared.item) × (page.clean ≡ compared.clean) × (page.exchanged ≡ compared.exchanged)

-- and so it is of the text of where two logs differ
abbrev pub DiffAgreesWithCompare : Type 0
DiffAgreesWithCompare = (given : GivenValue) (style : ℕ) (left_name right_name left right old new before after : List ℕ)
    (told compared : UdsnormAnswer)
    → DiffAnswers MESSAGE_LIMIT given style left_name right_name left right old new told
    → (told.status ≡ 0) ⊎ (told.status ≡ 9)
    → CompareAnswers MESSAGE_LIMIT given left right before after compared → compared.status ≡ 0
    → (told.item ≡ compared.item) × (told.clean ≡ compared.clean) × (told.exchanged ≡ compared.exchanged)

-- in words, what is told of where two logs differ has no byte exactly where no item differs, whether there was room for it or
-- not
abbrev pub DiffIsEmptyOfEqualLogs : Type 0
DiffIsEmptyOfEqualLogs = (given : GivenValue) (left_name right_name left right old new : List ℕ) (answer : UdsnormAnswer)
    → DiffAnswers MESSAGE_LIMIT given 0 left_name right_name left right old new answer
    → (answer.status ≡ 0) ⊎ (answer.status ≡ 9) → (answer.item ≡ 0) ↔ (answer.length ≡ 0)

-- two numbers have the same words exactly where they are the same, or neither is a status
abbrev pub StatusesAreToldApart : Type 0
StatusesAreToldApart = (one other : ℕ) → (words_for_c one ≡ words_for_c other) ↔ ((one ≡ other) ⊎ ((11 < one) × (11 < other)))
