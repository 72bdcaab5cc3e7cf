-- The text of messages whose place is known: a front of every longer text.
use Rattle.std.proofs.Common.{◌≡◌, ℕ, ◌+◌, ◌-◌, Bool, true, false, List, [], ◌∷◌, ◌++◌, length, nat_le, refl, ap, sym, subst, ◌∙◌, Option}
use Rattle.std.proofs.Common.{append-nil, append_assoc}
use Rattle.std.specs.Prelude.{cond}
use Rattle.std.specs.List.{AllByRecursion}
use Rattle.std.proofs.lemmas.List.Concat.{flat_map-append}
use Rattle.direction.specs.Dir.{Message}
use Rattle.can_log.specs.Log.{log_lines, ended_lines}
use Rattle.can_log.specs.Refused.{NoLineFeed}
use Rattle.direction.specs.declared.Dir.{Dir}
use Rattle.can_log.specs.declared.frame.Stamped.{Stamped}
use Rattle.can_log.proofs.Promises.{canonical_text_is_one_line, log_lines_of_parts}
use Rattle.isotp_receive.specs.Verdict.{messages, messages_after}
use Rattle.isotp_receive.proofs.Promises.{messages_go_on}
use Rattle.isotp_segment.specs.Timed.{all_frames}
use Rattle.isotp_segment.specs.CanonicalFrames.{canonical_frames}
use Rattle.uds_exchange.specs.Meaning.{meaning, flattened}
use Rattle.uds_exchange.specs.Order.{early}
use Rattle.uds_exchange.proofs.Promises.{early_stays, early_grows}
use Rattle.uds_rules.specs.Under.{under}
use Rattle.uds_rules.proofs.Promises.{under_goes_on}
use Rattle.trace_log.specs.Settings.{Settings, id_of}
use Rattle.trace_log.specs.Trace.{trace, trace_from}
use Rattle.trace_log.specs.Messages.{messages_of_lines}
use Rattle.trace_log.specs.CanonicalLog.{canonical_lines, log_of_frames, canonical_log, canonical_log_of_lines, lines_within, fitting, early_text}
use Rattle.trace_log.specs.Laws.{EarlyTextStays, EarlyTextGrows}
use Rattle.trace_log.proofs.CanonicalLogs.{canonical_lines-append}
use Rattle.trace_log.proofs.Traces.{trace_from-append}

-- ---- fronts of lists

-- the one list begins the other
abbrev pub Begins : {A : Type 0} → List A → List A → Type 0
Begins {A = A} front all = (more : List A) × (all ≡ front ++ more)

pub begins_again : {A : Type 0} (one two three : List A) → Begins one two → Begins two three → Begins one three
begins_again one two three first second =
    (first.0 ++ second.0, second.1 ∙ ap (λ x. x ++ second.0) first.1 ∙ append_assoc one first.0 second.0)

-- ---- more lines, more messages

pub messages_of_more : (limit : ℕ) (settings : Settings) (meanings more : List (Option Stamped))
    → Begins (messages_of_lines limit settings meanings) (messages_of_lines limit settings (meanings ++ more))
messages_of_more limit settings meanings more =
    let T = trace settings meanings in
    let U = trace_from settings (1 + length meanings) more in
    let later = messages_after limit T U in (
      under settings.rules later,
      ap (λ T. under settings.rules (messages limit T)) (trace_from-append settings 1 meanings more) ∙ ap (under settings.rules) (messages_go_on limit T U)
          ∙ under_goes_on settings.rules (messages limit T) later,
    )

-- ---- lines within a limit

pub within_front : (room : ℕ) (lines : List (List ℕ)) → Begins (lines_within room lines) lines
within_front room [] = ([], refl)
within_front room (line ∷ later) = go (nat_le (length line + 1) room) (within_front (room - (length line + 1)) later)
  where
    go : (fits : Bool) → Begins (lines_within (room - (length line + 1)) later) later
        → Begins (cond fits (line ∷ lines_within (room - (length line + 1)) later) []) (line ∷ later)
    go true rest = (rest.0, ap (λ x. line ∷ x) rest.1)
    go false rest = (line ∷ later, refl)

within_grows : (room : ℕ) (lines more : List (List ℕ)) → Begins (lines_within room lines) (lines_within room (lines ++ more))
within_grows room [] more = (lines_within room more, refl)
within_grows room (line ∷ later) more = go (nat_le (length line + 1) room) (within_grows (room - (length line + 1)) later more)
  where
    go : (fits : Bool) → Begins (lines_within (room - (length line + 1)) later) (lines_within (room - (length line + 1)) (later ++ more))
        → Begins (cond fits (line ∷ lines_within (room - (length line + 1)) later) [])
        (cond fits (line ∷ lines_within (room - (length line + 1)) (later ++ more)) [])
    go true rest = (rest.0, ap (λ x. line ∷ x) rest.1)
    go false rest = ([], refl)

ended_begins : (one two : List (List ℕ)) → Begins one two → Begins (ended_lines one) (ended_lines two)
ended_begins one two begins =
    (ended_lines begins.0, ap ended_lines begins.1 ∙ flat_map-append (λ line. line ++ 10 ∷ []) one begins.0)

-- ---- the lines of a canonical log

canonical_lines_end : (settings : Settings) (n : ℕ) (frames : List (Dir × List ℕ)) → AllByRecursion NoLineFeed (canonical_lines settings n frames)
unfolding canonical_lines
canonical_lines_end settings n [] = tt
canonical_lines_end settings n (frame ∷ later) =
    (canonical_text_is_one_line n (id_of settings frame.0) frame.1, canonical_lines_end settings (n + 1) later)

pub log_lines_of_frames : (settings : Settings) (frames : List (Dir × List ℕ)) → log_lines (log_of_frames settings frames) ≡ canonical_lines settings 0 frames
unfolding log_of_frames
log_lines_of_frames settings frames =
    let lines = canonical_lines settings 0 frames in
    ap log_lines (sym (append-nil (ended_lines lines))) ∙ log_lines_of_parts lines [] (canonical_lines_end settings 0 frames) tt ∙ append-nil lines

-- the text of frames, as far as it is within the limit
pub fitting_frames : (settings : Settings) (frames : List (Dir × List ℕ))
    → fitting settings (log_of_frames settings frames) ≡ ended_lines (lines_within settings.max_bytes (canonical_lines settings 0 frames))
unfolding fitting
fitting_frames settings frames = ap (λ x. ended_lines (lines_within settings.max_bytes x)) (log_lines_of_frames settings frames)

-- ---- texts that grow

pub fitting_begins : (settings : Settings) (frames : List (Dir × List ℕ)) → Begins (fitting settings (log_of_frames settings frames)) (log_of_frames settings frames)
unfolding log_of_frames
fitting_begins settings frames =
    let lines = canonical_lines settings 0 frames in
    let begins = ended_begins (lines_within settings.max_bytes lines) lines (within_front settings.max_bytes lines) in
    (begins.0, begins.1 ∙ ap (λ x. x ++ begins.0) (sym (fitting_frames settings frames)))

pub frames_begin : (settings : Settings) (frames more : List (Dir × List ℕ)) → Begins (log_of_frames settings frames) (log_of_frames settings (frames ++ more))
unfolding log_of_frames
frames_begin settings frames more =
    ended_begins (canonical_lines settings 0 frames) (canonical_lines settings 0 (frames ++ more))
    (canonical_lines settings (0 + length frames) more, canonical_lines-append settings 0 frames more)

pub fitting_grows : (settings : Settings) (frames more : List (Dir × List ℕ))
    → Begins (fitting settings (log_of_frames settings frames)) (fitting settings (log_of_frames settings (frames ++ more)))
fitting_grows settings frames more =
    let lines = canonical_lines settings 0 frames in
    let others = canonical_lines settings (0 + length frames) more in
    let begins = ended_begins (lines_within settings.max_bytes lines) (lines_within settings.max_bytes (lines ++ others))
    (within_grows settings.max_bytes lines others) in
    let all : fitting settings (log_of_frames settings (frames ++ more)) ≡ ended_lines (lines_within settings.max_bytes (lines ++ others)) =
    fitting_frames settings (frames ++ more)
    ∙ ap (λ x. ended_lines (lines_within settings.max_bytes x)) (canonical_lines-append settings 0 frames more) in
    (begins.0, all ∙ begins.1 ∙ ap (λ x. x ++ begins.0) (sym (fitting_frames settings frames)))

pub frames_of_one : (limit : ℕ) (d : Dir) (message : List ℕ) → all_frames limit ((d, message) ∷ []) ≡ canonical_frames limit d message
frames_of_one limit d message = append-nil (canonical_frames limit d message)

pub all_frames-append : (limit : ℕ) (one two : List Message) → all_frames limit (one ++ two) ≡ all_frames limit one ++ all_frames limit two
all_frames-append limit one two = flat_map-append (λ (message : Message). canonical_frames limit message.0 message.1) one two

pub canonical_log_begins : (limit : ℕ) (settings : Settings) (one two : List Message) → Begins one two
    → Begins (canonical_log limit settings one) (canonical_log limit settings two)
unfolding canonical_log
canonical_log_begins limit settings one two begins =
    let frames : all_frames limit two ≡ all_frames limit one ++ all_frames limit begins.0 = ap (all_frames limit) begins.1 ∙ all_frames-append limit one begins.0 in
    subst (λ x. Begins (log_of_frames settings (all_frames limit one)) (log_of_frames settings x)) (sym frames)
    (frames_begin settings (all_frames limit one) (all_frames limit begins.0))

pub fitting_log_begins : (limit : ℕ) (settings : Settings) (messages : List Message)
    → Begins (fitting settings (canonical_log limit settings messages)) (canonical_log limit settings messages)
unfolding canonical_log
fitting_log_begins limit settings messages = fitting_begins settings (all_frames limit messages)

pub fitting_log_grows : (limit : ℕ) (settings : Settings) (one two : List Message) → Begins one two
    → Begins (fitting settings (canonical_log limit settings one)) (fitting settings (canonical_log limit settings two))
unfolding canonical_log
fitting_log_grows limit settings one two begins =
    let frames : all_frames limit two ≡ all_frames limit one ++ all_frames limit begins.0 = ap (all_frames limit) begins.1 ∙ all_frames-append limit one begins.0 in
    subst (λ x. Begins (fitting settings (log_of_frames settings (all_frames limit one))) (fitting settings (log_of_frames settings x))) (sym frames)
    (fitting_grows settings (all_frames limit one) (all_frames limit begins.0))

-- ---- the laws

pub early_text_stays : EarlyTextStays
early_text_stays limit settings meanings more =
    let M = messages_of_lines limit settings meanings in
    let longer = messages_of_more limit settings meanings more in
    let stays = early_stays M longer.0 in
    let all : Begins (early M) (flattened (meaning (messages_of_lines limit settings (meanings ++ more)))) =
    (stays.0, ap (λ x. flattened (meaning x)) longer.1 ∙ stays.1) in
    begins_again (early_text limit settings meanings) (canonical_log limit settings (early M)) (canonical_log_of_lines limit settings (meanings ++ more))
    (fitting_log_begins limit settings (early M))
    (canonical_log_begins limit settings (early M) (flattened (meaning (messages_of_lines limit settings (meanings ++ more)))) all)

pub early_text_grows : EarlyTextGrows
early_text_grows limit settings meanings more =
    let M = messages_of_lines limit settings meanings in
    let longer = messages_of_more limit settings meanings more in
    let grows = early_grows M longer.0 in
    let all : Begins (early M) (early (messages_of_lines limit settings (meanings ++ more))) = (grows.0, ap early longer.1 ∙ grows.1) in
    fitting_log_grows limit settings (early M) (early (messages_of_lines limit settings (meanings ++ more))) all
