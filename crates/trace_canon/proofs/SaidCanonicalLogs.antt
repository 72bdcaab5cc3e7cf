-- What the canonical script says of a log is the text of the messages that are early, and in all what fits of the
-- canonical log.
use Rattle.direction.specs.Dir.{Message}
use Rattle.trace_log.specs.CanonicalLog.{canonical_log, log_of_frames, canonical_log_of_lines, early_text, fitting}
use Rattle.trace_log.specs.Settings.{Settings}
use Rattle.trace_log.proofs.Promises.{messages_under_more}
use Rattle.trace_log.proofs.Promises.{all_frames-append, fitting_frames}
use Rattle.std.proofs.Common.{arith, ◌≡◌, Bool, true, false, refl, Option, ◌≤◌, ◌<◌, ℕ, List, [], ◌∷◌}
use Rattle.std.proofs.Common.{◌++◌, length, drop, ap, sym, ◌∙◌, append-nil, append_assoc}
use Rattle.std.proofs.Math.Seq.{drop-append_seam}
use Rattle.std.proofs.lemmas.Bool.{le-leb, lt-leb}
use Rattle.can_log.specs.declared.frame.Stamped.{Stamped}
use Rattle.isotp_receive.specs.Channels.{dir_of}
use Rattle.isotp_receive.specs.declared.TheConstants.{MESSAGE_LIMIT}
use Rattle.isotp_receive.specs.Trace.{Entry}
use Rattle.isotp_receive.specs.Verdict.{told_message, verdict}
use Rattle.uds_rules.specs.Rule.{RuleValue}
use Rattle.uds_rules.specs.Under.{under}
use Rattle.trace_log.specs.Messages.{messages_of_lines, messages_under}
use Rattle.isotp_segment.specs.Timed.{all_frames}
use Rattle.uds_exchange.specs.Order.{early, held}
use Rattle.uds_exchange.specs.Orderer.{JudgedOrdererValue}
use Rattle.uds_exchange.specs.Meaning.{meaning, flattened}
use Rattle.uds_exchange.proofs.Promises.{early_grows, early_then_held}
use Rattle.trace_canon.specs.proving.CanonicalScript.{StandsCanonical, canonical_script}
use Rattle.trace_canon.specs.proving.CanonicalScript.{lines_due, progress_behind}
use Rattle.trace_run.specs.Script.{said_after, said_of_frames, said_of_lines}
use Rattle.trace_run.specs.Script.{whole_of_lines}
use Rattle.trace_canon.specs.proving.Measuring.{fits_within}
use Rattle.trace_canon.specs.proving.Writing.{ProgressValue, start_of, text_from, progress_after}
use Rattle.trace_canon.proofs.CanonicalWriting.{text_none, text_append, progress_append}
use Rattle.trace_canon.proofs.FittingLines.{over_when, within_when}
use Rattle.trace_log.specs.Trace.{trace}

-- the lines of the messages of a trace that are early, as far as there is room
abbrev text_of_early : Settings → List Entry → List ℕ
text_of_early settings T =
    text_from settings (start_of settings.max_bytes)
    (all_frames MESSAGE_LIMIT (early (messages_under settings.rules MESSAGE_LIMIT T)))

module _ (settings : Settings) where
  -- the lines due with one more frame stand behind those of the early messages so far
  one_more : (T : List Entry) (e : Entry)
      → text_of_early settings T
      ++ lines_due settings (messages_under settings.rules MESSAGE_LIMIT T) (messages_under settings.rules MESSAGE_LIMIT (T ++ e ∷ []))
      ≡ text_of_early settings (T ++ e ∷ [])
  one_more T e =
      let M = messages_under settings.rules MESSAGE_LIMIT T in
      let now = messages_under settings.rules MESSAGE_LIMIT (T ++ e ∷ []) in
      let grows = early_grows M (under settings.rules (told_message (dir_of e.channel) (verdict MESSAGE_LIMIT T e).verdict)) in
      let longer : early now ≡ early M ++ grows.0 = ap early (messages_under_more settings.rules MESSAGE_LIMIT T e) ∙ grows.1 in
      let left : drop (length (early M)) (early now) ≡ grows.0 =
      ap (drop (length (early M))) longer ∙ drop-append_seam (early M) grows.0 in
      let begin = start_of settings.max_bytes in
      ap (λ due. text_of_early settings T ++ text_from settings (progress_behind settings (early M)) (all_frames MESSAGE_LIMIT due)) left
      ∙ sym (text_append settings begin (all_frames MESSAGE_LIMIT (early M)) (all_frames MESSAGE_LIMIT grows.0))
      ∙ ap (text_from settings begin) (sym (all_frames-append MESSAGE_LIMIT (early M) grows.0))
      ∙ ap (λ x. text_from settings begin (all_frames MESSAGE_LIMIT x)) (sym longer)

  -- and so those of all frames that follow
  from_there : (past xs : List Entry)
      → text_of_early settings past ++ said_after ((canonical_script settings.rules settings).of_frame) past xs
      ≡ text_of_early settings (past ++ xs)
  from_there past [] = append-nil (text_of_early settings past) ∙ ap (text_of_early settings) (sym (append-nil past))
  from_there past (e ∷ rest) =
      let due =
      lines_due settings (messages_under settings.rules MESSAGE_LIMIT past)
      (messages_under settings.rules MESSAGE_LIMIT (past ++ e ∷ [])) in
      let later = said_after ((canonical_script settings.rules settings).of_frame) (past ++ e ∷ []) rest in
      sym (append_assoc (text_of_early settings past) due later) ∙ ap (λ x. x ++ later) (one_more past e) ∙ from_there (past ++ e ∷ []) rest
      ∙ ap (text_of_early settings) (append_assoc past (e ∷ []) rest)

-- what the script says of a trace are the lines of its early messages
canonical_says_early : (settings : Settings) (T : List Entry)
    → said_of_frames ((canonical_script settings.rules settings).of_frame) T ≡ text_of_early settings T
canonical_says_early settings T =
    ap (λ x. x ++ said_of_frames ((canonical_script settings.rules settings).of_frame) T)
    (sym (text_none settings (start_of settings.max_bytes))) ∙ from_there settings [] T

-- where the text stands at the end
progress_at_end : (settings : Settings) (M : List Message)
    → progress_after settings (progress_behind settings (early M)) (all_frames MESSAGE_LIMIT (held M))
    ≡ progress_behind settings (flattened (meaning M))
progress_at_end settings M =
    let begin = start_of settings.max_bytes in
    sym (progress_append settings begin (all_frames MESSAGE_LIMIT (early M)) (all_frames MESSAGE_LIMIT (held M)))
    ∙ ap (progress_after settings begin) (sym (all_frames-append MESSAGE_LIMIT (early M) (held M)))
    ∙ ap (progress_behind settings) (early_then_held M)

-- what was said of messages is what fits of their canonical log
said_fits : (settings : Settings) (put : List Message)
    → text_from settings (start_of settings.max_bytes) (all_frames MESSAGE_LIMIT put)
    ≡ fitting settings (canonical_log MESSAGE_LIMIT settings put)
unfolding text_from canonical_log
said_fits settings put = sym (fitting_frames settings (all_frames MESSAGE_LIMIT put))

-- that is too long where a line did not fit
long_when : (settings : Settings) (put : List Message) → (progress_behind settings put).is_full ≡ true
    → settings.max_bytes < length (canonical_log MESSAGE_LIMIT settings put)
unfolding canonical_log log_of_frames
long_when settings put over = over_when settings (start_of settings.max_bytes) (all_frames MESSAGE_LIMIT put) refl over

-- and else it is not, and all of it was said
whole_when : (settings : Settings) (put : List Message) → (progress_behind settings put).is_full ≡ false
    → (length (canonical_log MESSAGE_LIMIT settings put) ≤ settings.max_bytes)
    × (text_from settings (start_of settings.max_bytes) (all_frames MESSAGE_LIMIT put) ≡ canonical_log MESSAGE_LIMIT settings put)
unfolding canonical_log log_of_frames
whole_when settings put within = within_when settings (start_of settings.max_bytes) (all_frames MESSAGE_LIMIT put) refl within

-- so of one within the limit all was said
pub said_whole : (settings : Settings) (put : List Message) → length (canonical_log MESSAGE_LIMIT settings put) ≤ settings.max_bytes
    → text_from settings (start_of settings.max_bytes) (all_frames MESSAGE_LIMIT put) ≡ canonical_log MESSAGE_LIMIT settings put
said_whole settings put fits = by ((progress_behind settings put).is_full) refl
  where
    by : (b : Bool) → (progress_behind settings put).is_full ≡ b
        → text_from settings (start_of settings.max_bytes) (all_frames MESSAGE_LIMIT put)
        ≡ canonical_log MESSAGE_LIMIT settings put
    by true over = let long = long_when settings put over in absurd (omega (arith, long, fits))
    by false within = (whole_when settings put within).1

module _ (rules : List RuleValue) (settings config : Settings) (T : List Entry) (orderer : JudgedOrdererValue)
    (progress after : ProgressValue) (stands : StandsCanonical rules settings T orderer config progress)
    (at : after ≡ progress_after config progress (all_frames MESSAGE_LIMIT (held (messages_under rules MESSAGE_LIMIT T)))) where
  -- what the messages of the trace mean under the rules, in order
  abbrev all : List Message
  all = flattened (meaning (messages_under rules MESSAGE_LIMIT T))

  -- whether a line did not fit, at the end
  full_at_end : after.is_full ≡ (progress_behind settings all).is_full
  full_at_end =
      let frames = all_frames MESSAGE_LIMIT (held (messages_under rules MESSAGE_LIMIT T)) in
      ap (λ (p : ProgressValue). p.is_full)
      (at ∙ ap (λ s. progress_after s progress frames) stands.same ∙ ap (λ p. progress_after settings p frames) stands.at
      ∙ progress_at_end settings (messages_under rules MESSAGE_LIMIT T))

  -- one did not: the canonical log is too long
  pub over_at_end : after.is_full ≡ true → fits_within settings (meaning (messages_under rules MESSAGE_LIMIT T)) ≡ false
  over_at_end full = lt-leb _ settings.max_bytes (long_when settings all (sym full_at_end ∙ full))

  -- all did: it is not
  pub within_at_end : after.is_full ≡ false → fits_within settings (meaning (messages_under rules MESSAGE_LIMIT T)) ≡ true
  within_at_end room = le-leb _ settings.max_bytes (whole_when settings all (sym full_at_end ∙ room)).0

module _ (settings : Settings) where
  -- what is said of lines, while the log comes and in all
  pub early_is : (meanings : List (Option Stamped))
      → said_of_lines (canonical_script settings.rules settings) settings meanings ≡ early_text MESSAGE_LIMIT settings meanings
  early_is meanings =
      canonical_says_early settings (trace settings meanings)
      ∙ said_fits settings (early (messages_of_lines MESSAGE_LIMIT settings meanings))

  pub whole_said : (log : List ℕ) (meanings : List (Option Stamped))
      → whole_of_lines (canonical_script settings.rules settings) MESSAGE_LIMIT settings log meanings
      ≡ text_from settings (start_of settings.max_bytes)
      (all_frames MESSAGE_LIMIT (flattened (meaning (messages_of_lines MESSAGE_LIMIT settings meanings))))
  whole_said log meanings =
      let M = messages_of_lines MESSAGE_LIMIT settings meanings in
      let begin = start_of settings.max_bytes in
      ap (λ x. x ++ text_from settings (progress_behind settings (early M)) (all_frames MESSAGE_LIMIT (held M)))
      (canonical_says_early settings (trace settings meanings))
      ∙ sym (text_append settings begin (all_frames MESSAGE_LIMIT (early M)) (all_frames MESSAGE_LIMIT (held M)))
      ∙ ap (text_from settings begin) (sym (all_frames-append MESSAGE_LIMIT (early M) (held M)))
      ∙ ap (λ x. text_from settings begin (all_frames MESSAGE_LIMIT x)) (early_then_held M)

  pub whole_is : (log : List ℕ) (meanings : List (Option Stamped))
      → whole_of_lines (canonical_script settings.rules settings) MESSAGE_LIMIT settings log meanings
      ≡ fitting settings (canonical_log_of_lines MESSAGE_LIMIT settings meanings)
  whole_is log meanings =
      whole_said log meanings ∙ said_fits settings (flattened (meaning (messages_of_lines MESSAGE_LIMIT settings meanings)))

  pub texts : said_of_lines (canonical_script settings.rules settings) settings ≡ early_text MESSAGE_LIMIT settings
  texts = λ i meanings. early_is meanings i
