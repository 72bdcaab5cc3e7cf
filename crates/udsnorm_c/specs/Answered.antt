-- What an exported call answers, in numbers, and what is then in the buffer of its caller.
use Rattle.std.specs.Prelude.{◌≡◌, ℕ, ◌+◌, ◌&&◌, ◌||◌, Bool, true, false, List, length, nat_le, nat_lt, Option, Some, None, Result, Ok, Err, MatchResult, if◌then◌else◌}
use Rattle.trace_canon.specs.declared.comparer.Comparison.{Comparison}
use Rattle.trace_canon.specs.declared.comparer.Comparison.TheVariants.{Same, Different}
use Rattle.trace_canon.specs.declared.in_memory.CountedComparison.{CountedComparison}
use Rattle.trace_canon.specs.declared.in_memory.CountedText.{CountedText}
use Rattle.trace_log.specs.declared.fault.CompareFault.{CompareFault}
use Rattle.trace_log.specs.declared.fault.CompareFault.TheVariants.{Left, Right}
use Rattle.trace_log.specs.declared.fault.Fault.{Fault}
use Rattle.trace_log.specs.declared.fault.Fault.TheVariants.{BadLine, Oversize, LogLimit, OutputLimit, Read, Write, Memory}
use Rattle.trace_log.specs.declared.fault.ConfigFault.{ConfigFault}
use Rattle.trace_log.specs.declared.fault.ConfigFault.TheVariants.{IdRange, SameId, SameFunctional, LimitRange}
use Rattle.trace_log.specs.declared.summary.Summary.{Summary}
use Rattle.trace_canon.specs.InMemory.{IsCanonicalLogWith, IsListWith, AreMessageLinesWith, IsExplanationWith, AreCreditLinesWith, IsRefused, IsUnread, NeedsMemoryForCanonicalLog, NeedsMemoryForList, NeedsMemoryForMessageLines, NeedsMemoryForExplanation, NeedsMemoryForCreditLines, ComparesWithCounts}
use Rattle.trace_difference.specs.InMemory.{HasNoDifferenceText, IsDifferenceWith}
use Rattle.trace_difference.specs.declared.in_memory.CountedDifference.{CountedDifference}
use Rattle.trace_log.specs.Settings.{Settings}
use Rattle.trace_log.specs.Summing.{is_clean}
use Rattle.trace_report.specs.Front.{page_title}
use Rattle.trace_report.specs.InMemory.{IsPageWith, NeedsMemoryForPage}
use Rattle.trace_pair.specs.InMemory.{HasNoPairPage, IsPairPageWith}
use Rattle.trace_pair.specs.Titles.{title_for}
use Rattle.trace_pair.specs.declared.in_memory.CountedPage.{CountedPage}
use Rattle.trace_pair.specs.declared.in_memory.NoPairPage.{NoPairPage}
use Rattle.trace_pair.specs.declared.in_memory.NoPairPage.TheVariants.{OfLog, OfMemory}
use Rattle.trace_text.specs.declared.notation.Notation.{Notation}
use Rattle.udsnorm_c.specs.declared.answer.UdsnormAnswer.{UdsnormAnswer}
use Rattle.udsnorm_c.specs.Given.{Configured, GivenValue, usual_given}
use Rattle.udsnorm_c.specs.Spelled.{list_style, notation_of, put_at_front}
use Rattle.udsnorm_c.specs.declared.given.NoConfig.{NoConfig}
use Rattle.udsnorm_c.specs.declared.given.NoConfig.TheVariants as no

-- an answer that tells its status alone
abbrev pub status_alone : ℕ → UdsnormAnswer
status_alone status = record {
  status = status;
  column = 0;
  line = 0;
  announced = 0;
  length = 0;
  item = 0;
  side = 0;
  exchanged = 0;
  clean = 0;
  lines = 0;
  frames = 0;
  messages = 0;
  dropped = 0;
  ended = 0;
  unfinished = 0;
  pending = 0;
  left_out = 0;
}

-- the answer where there are no such settings
abbrev pub refusal_of : ConfigFault → UdsnormAnswer
refusal_of IdRange = status_alone 1
refusal_of SameId = status_alone 2
refusal_of SameFunctional = status_alone 2
refusal_of LimitRange = status_alone 3

-- the answer where something is wrong in a profile, at this line of it, or at 0, of which a text of this length tells
abbrev pub profile_answer : ℕ → ℕ → UdsnormAnswer
profile_answer at count = record (status_alone 11) { line = at; length = count }

-- the answer of a log that is refused, or for which memory was
abbrev pub fault_answer : Fault → UdsnormAnswer
fault_answer (BadLine at column) = record (status_alone 4) { line = at; column = column }
fault_answer (Oversize at announced) = record (status_alone 5) { line = at; announced = announced }
fault_answer LogLimit = status_alone 6
fault_answer OutputLimit = status_alone 7
fault_answer Read = status_alone 8
fault_answer Write = status_alone 8
fault_answer Memory = status_alone 8

-- 1 where it is so, and else 0
abbrev pub flag : Bool → ℕ
flag b = if b then 1 else 0

-- the status of a text of this length, where the buffer has this many bytes
abbrev pub text_status : ℕ → ℕ → ℕ
text_status count room = if nat_le count room then 0 else 9

-- the answer of a text of this length about a log with these counts, where the buffer has this many bytes
abbrev pub text_answer : ℕ → Summary → ℕ → UdsnormAnswer
text_answer count summary room = record {
  status = text_status count room;
  column = 0;
  line = 0;
  announced = 0;
  length = count;
  item = 0;
  side = 0;
  exchanged = flag summary.looks_exchanged;
  clean = flag (is_clean summary);
  lines = summary.lines;
  frames = summary.frames;
  messages = summary.messages;
  dropped = summary.dropped;
  ended = summary.ended;
  unfinished = summary.unfinished;
  pending = summary.pending;
  left_out = summary.left_out;
}

-- the number of an item, from 1, where they are counted from 0; no log has more than the largest number
abbrev pub number_of : ℕ → ℕ
number_of item = if nat_lt item 0xFFFFFFFFFFFFFFFF then item + 1 else 0xFFFFFFFFFFFFFFFF

-- the first item that differs, from 1, or 0
abbrev pub first_item : Comparison → ℕ
first_item Same = 0
first_item (Different place) = number_of place

-- the answer of two logs that are compared: that item, whether tester and unit look exchanged in one, and whether both are
-- clean
abbrev pub counted_answer : CountedComparison → UdsnormAnswer
counted_answer counted = record (status_alone 0) {
  item = first_item counted.comparison;
  exchanged = flag (counted.left.looks_exchanged || counted.right.looks_exchanged);
  clean = flag (is_clean counted.left && is_clean counted.right);
}

-- whose log can't be compared, and why
abbrev pub side_answer : CompareFault → UdsnormAnswer
side_answer (Left fault) = record (fault_answer fault) { side = 1 }
side_answer (Right fault) = record (fault_answer fault) { side = 2 }

-- the answer of two logs
abbrev pub comparison_answer : Result CountedComparison CompareFault → UdsnormAnswer
comparison_answer (Ok counted) = counted_answer counted
comparison_answer (Err fault) = side_answer fault

-- the answer of a text of this length about two logs that compare so, where the buffer has this many bytes
abbrev pub pair_answer : ℕ → CountedComparison → ℕ → UdsnormAnswer
pair_answer count counted room = record (counted_answer counted) { status = text_status count room; length = count }

-- the answer where two logs have no page
abbrev pub no_pair_answer : NoPairPage → UdsnormAnswer
no_pair_answer (OfLog fault) = side_answer fault
no_pair_answer OfMemory = status_alone 8

-- What was told of a log is put at the front of a buffer, where it has room, and answered with its counts. A fault
-- leaves the buffer as it was.
abbrev pub IsPut : Result CountedText Fault → List ℕ → List ℕ → UdsnormAnswer → Type 0
IsPut (Ok counted) old new answer =
    (new ≡ put_at_front counted.text.items old) × (answer ≡ text_answer (length counted.text.items) counted.summary (length old))
IsPut (Err fault) old new answer = (new ≡ old) × (answer ≡ fault_answer fault)

-- A page of two logs is put so, and answered with how they compare. Where there is none, the buffer is as it was.
abbrev pub IsPagePut : Result CountedPage NoPairPage → List ℕ → List ℕ → UdsnormAnswer → Type 0
IsPagePut (Ok page) old new answer =
    (new ≡ put_at_front page.text.items old) × (answer ≡ pair_answer (length page.text.items) page.counted (length old))
IsPagePut (Err why) old new answer = (new ≡ old) × (answer ≡ no_pair_answer why)

-- So is the text of where two logs differ.
abbrev pub IsDifferencePut : Result CountedDifference CompareFault → List ℕ → List ℕ → UdsnormAnswer → Type 0
IsDifferencePut (Ok told) old new answer =
    (new ≡ put_at_front told.text.items old) × (answer ≡ pair_answer (length told.text.items) told.counted (length old))
IsDifferencePut (Err fault) old new answer = (new ≡ old) × (answer ≡ side_answer fault)

-- A text and counts of which this holds are put, or a fault of which that holds.
abbrev pub TextAnswers : (List ℕ → Summary → Type 0) → (Fault → Type 0) → List ℕ → List ℕ → UdsnormAnswer → Type 0
TextAnswers IsText IsFault old new answer =
    (told : Result CountedText Fault) × MatchResult told (λ counted. IsText counted.text.items counted.summary) IsFault × IsPut told old new answer

-- Why there are no settings is answered. What is wrong in a profile is put at the front of the buffer, where it has room; else
-- that is as it was.
abbrev pub IsRefusalPut : NoConfig → List ℕ → List ℕ → UdsnormAnswer → Type 0
IsRefusalPut (no.Config fault) old new answer = (new ≡ old) × (answer ≡ refusal_of fault)
IsRefusalPut no.Memory old new answer = (new ≡ old) × (answer ≡ status_alone 8)
IsRefusalPut (no.Profile told) old new answer = (new ≡ put_at_front told.text.items old) × (answer ≡ profile_answer told.line (length told.text.items))

-- There are settings of what a call is handed, and with them this holds; or there are none, which is answered: what is wrong
-- in a profile is put, and else the buffer is as it was.
abbrev pub UnderSettings : GivenValue → (Settings → Type 0) → List ℕ → List ℕ → UdsnormAnswer → Type 0
UnderSettings given Holds old new answer =
    (settings : Result Settings NoConfig) × Configured given settings × MatchResult settings Holds (λ why. IsRefusalPut why old new answer)

-- the canonical log of an accepted log, or why it is refused
abbrev pub NormaliseAnswers : ℕ → GivenValue → List ℕ → List ℕ → List ℕ → UdsnormAnswer → Type 0
NormaliseAnswers limit given log old new answer =
    UnderSettings given (λ settings. TextAnswers (IsCanonicalLogWith limit settings log) (IsRefused NeedsMemoryForCanonicalLog limit settings log) old new answer) old new answer

-- there is such a style, and this holds of it; or there is none, which is answered, and the buffer is as it was
abbrev pub Styled : {A : Type 0} → Option A → (A → Type 0) → List ℕ → List ℕ → UdsnormAnswer → Type 0
Styled None Holds old new answer = (new ≡ old) × (answer ≡ status_alone 10)
Styled (Some style) Holds old new answer = Holds style

-- the list of an accepted log, or why it is refused
abbrev pub ListAnswers : ℕ → GivenValue → ℕ → List ℕ → List ℕ → List ℕ → UdsnormAnswer → Type 0
ListAnswers limit given style log old new answer = UnderSettings given
    (λ settings. Styled (list_style style) (λ style. TextAnswers (IsListWith style limit settings log) (IsRefused (NeedsMemoryForList style) limit settings log) old new answer) old new answer)
    old new answer

-- the messages of a log that can be read with their places, or why it can't be
abbrev pub MessagesAnswers : ℕ → GivenValue → ℕ → List ℕ → List ℕ → List ℕ → UdsnormAnswer → Type 0
MessagesAnswers limit given style log old new answer = UnderSettings given
    (λ settings. Styled (notation_of style) (λ notation. TextAnswers (AreMessageLinesWith notation limit settings log) (IsUnread (NeedsMemoryForMessageLines notation) limit settings log) old new answer) old new answer)
    old new answer

-- what explains a log that can be read, or why it can't be
abbrev pub ExplainAnswers : ℕ → GivenValue → ℕ → List ℕ → List ℕ → List ℕ → UdsnormAnswer → Type 0
ExplainAnswers limit given style log old new answer = UnderSettings given
    (λ settings. Styled (notation_of style) (λ notation. TextAnswers (IsExplanationWith notation limit settings log) (IsUnread NeedsMemoryForExplanation limit settings log) old new answer) old new answer)
    old new answer

-- the pairs of a log that can be read, or why it can't be; no identifier is asked for
abbrev pub FindAnswers : ℕ → ℕ → ℕ → List ℕ → List ℕ → List ℕ → UdsnormAnswer → Type 0
FindAnswers limit max_bytes style log old new answer = UnderSettings (usual_given max_bytes)
    (λ settings. Styled (notation_of style) (λ notation. TextAnswers (AreCreditLinesWith notation settings log) (IsUnread (NeedsMemoryForCreditLines notation) limit settings log) old new answer) old new answer)
    old new answer

-- how two logs compare, or why one has no meaning
abbrev pub CompareAnswers : ℕ → GivenValue → List ℕ → List ℕ → List ℕ → List ℕ → UdsnormAnswer → Type 0
CompareAnswers limit given left right old new answer = UnderSettings given
    (λ settings. (new ≡ old) × ((compared : Result CountedComparison CompareFault) × ComparesWithCounts limit settings left right compared × (answer ≡ comparison_answer compared)))
    old new answer

-- with these settings the text of where two accepted logs differ, in this notation and with these names, and how they compare;
-- or why there is none
abbrev pub DifferencePuts : ℕ → List ℕ → List ℕ → List ℕ → List ℕ → List ℕ → List ℕ → UdsnormAnswer → Settings → Notation → Type 0
DifferencePuts limit left_name right_name left right old new answer settings notation =
    (told : Result CountedDifference CompareFault)
    × MatchResult told (λ found. IsDifferenceWith notation left_name right_name limit settings left right found.text.items found.counted) (HasNoDifferenceText notation limit settings left right)
    × IsDifferencePut told old new answer

-- the same in a style that is named by a number, or that there is no such style
abbrev pub StyledDifferencePuts : ℕ → ℕ → List ℕ → List ℕ → List ℕ → List ℕ → List ℕ → List ℕ → UdsnormAnswer → Settings → Type 0
StyledDifferencePuts limit style left_name right_name left right old new answer settings =
    Styled (notation_of style) (DifferencePuts limit left_name right_name left right old new answer settings) old new answer

-- such a text, or why there is none
abbrev pub DiffAnswers : ℕ → GivenValue → ℕ → List ℕ → List ℕ → List ℕ → List ℕ → List ℕ → List ℕ → UdsnormAnswer → Type 0
DiffAnswers limit given style left_name right_name left right old new answer =
    UnderSettings given (StyledDifferencePuts limit style left_name right_name left right old new answer) old new answer

-- with these settings the page of a log that can be read, in some style and with this name, or why it can't be
abbrev pub PagePuts : ℕ → List ℕ → List ℕ → List ℕ → List ℕ → UdsnormAnswer → Settings → Type 0
PagePuts limit name log old new answer settings =
    (style : List ℕ) × TextAnswers (IsPageWith (page_title style name settings) limit settings log) (IsUnread NeedsMemoryForPage limit settings log) old new answer

-- such a page, or why there is none
abbrev pub ReportAnswers : ℕ → GivenValue → List ℕ → List ℕ → List ℕ → List ℕ → UdsnormAnswer → Type 0
ReportAnswers limit given name log old new answer = UnderSettings given (PagePuts limit name log old new answer) old new answer

-- with these settings the page of two logs that can be read, in some style and with these names, or why there is none
abbrev pub PairPagePuts : ℕ → List ℕ → List ℕ → List ℕ → List ℕ → List ℕ → List ℕ → UdsnormAnswer → Settings → Type 0
PairPagePuts limit left_name right_name left right old new answer settings =
    (style : List ℕ) × (told : Result CountedPage NoPairPage)
    × MatchResult told (λ page. IsPairPageWith (title_for style left_name right_name settings) limit settings left right page.text.items page.counted) (HasNoPairPage limit settings left right)
    × IsPagePut told old new answer

-- such a page, or why there is none
abbrev pub ReportPairAnswers : ℕ → GivenValue → List ℕ → List ℕ → List ℕ → List ℕ → List ℕ → List ℕ → UdsnormAnswer → Type 0
ReportPairAnswers limit given left_name right_name left right old new answer =
    UnderSettings given (PairPagePuts limit left_name right_name left right old new answer) old new answer
