-- The places among the rows of a trace: each item has one, none stands twice, and each link leads to one.
use Rattle.std.proofs.Common.{◌≡◌, ◌≤◌, ℕ, ◌+◌, Bool, true, false, List, [], ◌∷◌, ◌++◌, length, Option, Some, None}
use Rattle.std.proofs.Common.{arith, refl, ap, sym, subst, ◌∙◌, inl, inr, append-nil, append_assoc, option_map}
use Rattle.std.proofs.lemmas.Bool.{cases_Bool}
use Rattle.direction.specs.Dir.{Message}
use Rattle.direction.specs.declared.Dir.{Dir}
use Rattle.direction.specs.declared.Dir.TheVariants as dir
use Rattle.isotp_receive.specs.Channels.{dir_of}
use Rattle.isotp_receive.specs.declared.TheConstants.{MESSAGE_LIMIT}
use Rattle.isotp_receive.specs.declared.event.Ended.{Ended}
use Rattle.isotp_receive.specs.StandingReception.{StandingReception, receptions_after}
use Rattle.isotp_receive.specs.Trace.{Entry}
use Rattle.isotp_receive.specs.Verdict.{VerdictValue, message, began, stored, flowed, dropped, told_message, verdict}
use Rattle.trace_log.specs.Messages.{messages_under}
use Rattle.trace_run.proofs.Promises.{messages_next}
use Rattle.trace_canon.specs.FirstFrames.{place_of}
use Rattle.uds_exchange.proofs.Promises.{held_are_fewer, items_grow}
use Rattle.uds_exchange.specs.Meaning.{is_tester_request, meaning}
use Rattle.uds_exchange.specs.Judging.{number_after, number_by, open_number, step_after}
use Rattle.uds_exchange.specs.proving.ItemNumbers.{item_count_after_step}
use Rattle.uds_exchange.specs.OneMessage.{step_of}
use Rattle.uds_exchange.specs.Order.{open_request}
use Rattle.uds_exchange.specs.declared.step.Step.{Step}
use Rattle.uds_exchange.specs.declared.step.Step.TheVariants as becomes
use Rattle.uds_message.specs.Message.{is_keep_alive, is_negative_response, sid}
use Rattle.uds_rules.specs.Rule.{RuleValue, made_of}
use Rattle.uds_rules.specs.Under.{sent_as, under}
use Rattle.trace_report.specs.Events.{asked_all_in, asked_in, closing_before, closing_rows, ended_rows, ends_nothing}
use Rattle.trace_report.specs.Events.{left_rows, message_place, rows_of, standing_row, verdict_rows, waiting_row}
use Rattle.trace_report.specs.Roles.{other_role, role_of_step}
use Rattle.trace_report.specs.Linked.{IsAmong, target_at, targets_in}
use Rattle.trace_report.specs.Page.{all_rows}
use Rattle.trace_report.specs.Rows.{RowValue}
use Rattle.trace_report.specs.Rows as row
use Rattle.trace_report.specs.Silences.{silence_of}
use Rattle.trace_report.specs.declared.row.Silence.{Silence}
use Rattle.trace_report.specs.declared.row.Silence.TheVariants.{Suppressed, ToAllUnits, Unanswered}
use Rattle.trace_report.specs.declared.targets.LinkTarget.{LinkTarget}
use Rattle.trace_report.specs.declared.targets.LinkTarget.TheVariants.{Item as of_item, Line as of_line}
use Rattle.trace_report.proofs.Distinct.{among-last}
use Rattle.trace_report.proofs.LineOrder.{Grow}
use Rattle.trace_report.proofs.Steps.{rows_next}
use Rattle.trace_report.proofs.RowPlaces.{Leads, side_number, ArePlaced, new-places, placed-quiet, placed-line, placed-item, placed-side, placed-later}

-- The request that waits is an item, before those that are held.

waits-among : (M : List Message) (request : List ℕ) → open_request M ≡ Some request → (1 ≤ open_number M) × (open_number M ≤ length (meaning M))
waits-among M request waits = let fewer = held_are_fewer M request waits in (omega (arith, fewer), omega (arith, fewer))

waiting-leads : (M : List Message) (lines sides : ℕ) (rows : List RowValue) → ArePlaced (length (meaning M)) lines sides rows → (request : List ℕ)
    → open_request M ≡ Some request → IsAmong (of_item (open_number M)) (targets_in rows)
waiting-leads M lines sides rows are request waits = let bounds = waits-among M request waits in are.each (open_number M) bounds.0 bounds.1

silence-placed : (M : List Message) (lines sides : ℕ) (rows : List RowValue) → ArePlaced (length (meaning M)) lines sides rows → (silence : Silence)
    → IsAmong (of_item (open_number M)) (targets_in rows) → ArePlaced (length (meaning M)) lines sides (rows ++ row.no_answer (open_number M) silence ∷ [])
silence-placed M lines sides rows are Suppressed among = placed-quiet (length (meaning M)) lines sides rows (row.no_answer (open_number M) Suppressed) are refl tt
silence-placed M lines sides rows are ToAllUnits among = placed-quiet (length (meaning M)) lines sides rows (row.no_answer (open_number M) ToAllUnits) are refl tt
silence-placed M lines sides rows are Unanswered among = placed-quiet (length (meaning M)) lines sides rows (row.no_answer (open_number M) Unanswered) are refl among

waiting-placed : (M : List Message) (to_all : Bool) (lines sides : ℕ) (rows : List RowValue) → ArePlaced (length (meaning M)) lines sides rows
    → ArePlaced (length (meaning M)) lines sides (rows ++ closing_rows M to_all)
waiting-placed M to_all lines sides rows are = by (open_request M) (waiting-leads M lines sides rows are)
  where
    by : (waits : Option (List ℕ)) → ((request : List ℕ) → waits ≡ Some request → IsAmong (of_item (open_number M)) (targets_in rows))
        → ArePlaced (length (meaning M)) lines sides (rows ++ waiting_row M to_all waits)
    by None leads = subst (ArePlaced (length (meaning M)) lines sides) (sym (append-nil rows)) are
    by (Some request) leads = silence-placed M lines sides rows are (silence_of to_all request) (leads request refl)

-- The rows of a message.

module _ (rules : List RuleValue) (T : List Entry) (e : Entry) where
  abbrev M : List Message
  M = messages_under rules MESSAGE_LIMIT T

  abbrev to_all : Bool
  to_all = asked_all_in MESSAGE_LIMIT rules T

  abbrev count : ℕ
  count = length (meaning M)

  -- the row of a message, by what becomes of it
  abbrev sent : List ℕ → Step → RowValue
  sent bytes step = row.message (role_of_step (asked_in MESSAGE_LIMIT rules T) step (dir_of e.channel) bytes) (dir_of e.channel) (message_place MESSAGE_LIMIT rules T e bytes) bytes

  -- an answer is one to a request that waits
  answers-one : (waits : Option (List ℕ)) (x : Message) → step_of (option_map sid waits) x ≡ becomes.Answer → (request : List ℕ) × (waits ≡ Some request)
  answers-one None x is = absurd (elim (cases_Bool (is_tester_request x)) [ inl asks ↦ cc | inr asks ↦ cc ])
  answers-one (Some request) x is = (request, refl)

  placed-answer : (lines sides : ℕ) (rows : List RowValue) (bytes : List ℕ) → ArePlaced count lines sides rows → step_after M (dir_of e.channel, bytes) ≡ becomes.Answer
      → ArePlaced count lines sides (rows ++ sent bytes becomes.Answer ∷ [])
  placed-answer lines sides rows bytes are is =
      elim (cases_Bool (is_negative_response bytes)) [
        | inl negative ↦ placed-quiet count lines sides rows (sent bytes becomes.Answer) are (rw negative refl) (rw negative among)
        | inr positive ↦ placed-quiet count lines sides rows (sent bytes becomes.Answer) are (rw positive refl) (rw positive among)
      ]
    where
      among : IsAmong (of_item (number_after M (dir_of e.channel, bytes))) (targets_in rows)
      among =
          let asked = answers-one (open_request M) (dir_of e.channel, bytes) is in
          subst (λ step. IsAmong (of_item (number_by step M)) (targets_in rows)) (sym is) (waiting-leads M lines sides rows are asked.0 asked.1)

  -- a message that begins an item
  placed-begin : (lines sides : ℕ) (rows : List RowValue) (bytes : List ℕ) (step : Step) → ArePlaced count lines sides rows
      → number_after M (dir_of e.channel, bytes) ≡ count + 1 → target_at (sent bytes step) ≡ Some (of_item (number_after M (dir_of e.channel, bytes)))
      → ((places : List LinkTarget) → IsAmong (of_item (number_after M (dir_of e.channel, bytes))) places → Leads places (sent bytes step))
      → ArePlaced (count + 1) lines sides (rows ++ sent bytes step ∷ [])
  placed-begin lines sides rows bytes step are next is leads =
      placed-item count lines sides rows (sent bytes step) are (is ∙ ap (λ n. Some (of_item n)) next)
      (leads (targets_in rows ++ of_item (count + 1) ∷ [])
      (subst (λ n. IsAmong (of_item n) (targets_in rows ++ of_item (count + 1) ∷ [])) (sym next) (among-last (of_item (count + 1)) (targets_in rows))))

  other-target : (bytes : List ℕ) (step : Step) (d : Dir) → role_of_step (asked_in MESSAGE_LIMIT rules T) step (dir_of e.channel) bytes ≡ other_role d bytes
      → target_at (sent bytes step) ≡ Some (of_item (number_after M (dir_of e.channel, bytes)))
  other-target bytes step dir.Unit is = rw is refl
  other-target bytes step dir.Tester is =
      elim (cases_Bool (is_keep_alive bytes)) [ inl e ↦ rw (is, e) refl | inr e ↦ rw (is, e) refl ]

  other-leads : (bytes : List ℕ) (step : Step) (d : Dir) → role_of_step (asked_in MESSAGE_LIMIT rules T) step (dir_of e.channel) bytes ≡ other_role d bytes
      → (places : List LinkTarget) → IsAmong (of_item (number_after M (dir_of e.channel, bytes))) places → Leads places (sent bytes step)
  other-leads bytes step dir.Unit is places among = rw is among
  other-leads bytes step dir.Tester is places among =
      elim (cases_Bool (is_keep_alive bytes)) [ inl e ↦ rw (is, e) tt | inr e ↦ rw (is, e) among ]

  placed-step : (lines sides : ℕ) (rows : List RowValue) (bytes : List ℕ) (step : Step) → step_after M (dir_of e.channel, bytes) ≡ step → ArePlaced count lines sides rows
      → ArePlaced (item_count_after_step step count) lines sides ((rows ++ closing_before M to_all step) ++ sent bytes step ∷ [])
  placed-step lines sides rows bytes (becomes.Request service) is are =
      placed-begin lines sides (rows ++ closing_rows M to_all) bytes (becomes.Request service) (waiting-placed M to_all lines sides rows are) (ap (λ step. number_by step M) is) refl (λ places among. tt)
  placed-step lines sides rows bytes becomes.Answer is are =
      subst (λ l. ArePlaced count lines sides (l ++ sent bytes becomes.Answer ∷ [])) (sym (append-nil rows)) (placed-answer lines sides rows bytes are is)
  placed-step lines sides rows bytes becomes.Removed is are =
      subst (λ l. ArePlaced count lines sides (l ++ sent bytes becomes.Removed ∷ [])) (sym (append-nil rows)) (placed-quiet count lines sides rows (sent bytes becomes.Removed) are refl tt)
  placed-step lines sides rows bytes becomes.Hold is are =
      subst (λ l. ArePlaced (count + 1) lines sides (l ++ sent bytes becomes.Hold ∷ [])) (sym (append-nil rows))
      (placed-begin lines sides rows bytes becomes.Hold are (ap (λ step. number_by step M) is) (other-target bytes becomes.Hold (dir_of e.channel) refl) (other-leads bytes becomes.Hold (dir_of e.channel) refl))
  placed-step lines sides rows bytes becomes.Pass is are =
      subst (λ l. ArePlaced (count + 1) lines sides (l ++ sent bytes becomes.Pass ∷ [])) (sym (append-nil rows))
      (placed-begin lines sides rows bytes becomes.Pass are (ap (λ step. number_by step M) is) (other-target bytes becomes.Pass (dir_of e.channel) refl) (other-leads bytes becomes.Pass (dir_of e.channel) refl))

  -- The rows of a frame, which stands behind these lines.

  -- all messages with those of this frame
  abbrev count_with : VerdictValue → ℕ
  count_with did = length (meaning (M ++ under rules (told_message (dir_of e.channel) did)))

  count-still : (did : VerdictValue) → told_message (dir_of e.channel) did ≡ [] → count ≡ count_with did
  count-still did none = ap (λ l. length (meaning l)) (sym (append-nil M) ∙ ap (λ l. M ++ under rules l) (sym none))

  -- the rows of what rules left of its message
  placed-left : (lines sides : ℕ) (rows : List RowValue) (made : Option (List ℕ)) → ArePlaced count lines sides rows
      → ArePlaced (length (meaning (M ++ (sent_as (dir_of e.channel) made ++ [])))) lines sides (rows ++ left_rows MESSAGE_LIMIT rules T e made)
  placed-left lines sides rows None are =
      subst (λ l. ArePlaced (length (meaning l)) lines sides (rows ++ [])) (sym (append-nil M))
      (subst (ArePlaced count lines sides) (sym (append-nil rows)) are)
  placed-left lines sides rows (Some bytes) are =
      let step = step_after M (dir_of e.channel, bytes) in
      subst (λ n. ArePlaced n lines sides (rows ++ (closing_before M to_all step ++ sent bytes step ∷ []))) (sym (items_grow M (dir_of e.channel, bytes)))
      (subst (ArePlaced (item_count_after_step step count) lines sides) (append_assoc rows (closing_before M to_all step) (sent bytes step ∷ []))
      (placed-step lines sides rows bytes step refl are))

  -- what it does, behind what it ended
  placed-unlinked : (rows : List RowValue) (did : VerdictValue) → ArePlaced count (e.line + 1) 0 rows → IsAmong (of_line e.line) (targets_in rows)
      → ArePlaced (count_with did) (e.line + 1) 0 (rows ++ verdict_rows MESSAGE_LIMIT rules T e false did)
  placed-unlinked rows (message bytes) are among = placed-left (e.line + 1) 0 rows (made_of rules bytes) are
  placed-unlinked rows began are among = subst (λ n. ArePlaced n (e.line + 1) 0 (rows ++ [])) (count-still began refl) (subst (ArePlaced count (e.line + 1) 0) (sym (append-nil rows)) are)
  placed-unlinked rows stored are among = subst (λ n. ArePlaced n (e.line + 1) 0 (rows ++ [])) (count-still stored refl) (subst (ArePlaced count (e.line + 1) 0) (sym (append-nil rows)) are)
  placed-unlinked rows flowed are among = subst (λ n. ArePlaced n (e.line + 1) 0 (rows ++ [])) (count-still flowed refl) (subst (ArePlaced count (e.line + 1) 0) (sym (append-nil rows)) are)
  placed-unlinked rows (dropped reason) are among =
      subst (λ n. ArePlaced n (e.line + 1) 0 (rows ++ row.dropped (place_of e) (dir_of e.channel) false reason ∷ [])) (count-still (dropped reason) refl)
      (placed-quiet count (e.line + 1) 0 rows (row.dropped (place_of e) (dir_of e.channel) false reason) are refl among)

  -- and where it ended nothing
  placed-linked : (lines : ℕ) (rows : List RowValue) (did : VerdictValue) → ArePlaced count lines 0 rows → lines ≤ e.line
      → ArePlaced (count_with did) (e.line + 1) 0 (rows ++ verdict_rows MESSAGE_LIMIT rules T e true did)
  placed-linked lines rows did are late = by did
    where
      onward : ArePlaced count (e.line + 1) 0 rows
      onward = placed-later count lines 0 (e.line + 1) 0 rows are (omega (arith, late)) (omega arith)

      still : ArePlaced count (e.line + 1) 0 (rows ++ [])
      still = subst (ArePlaced count (e.line + 1) 0) (sym (append-nil rows)) onward

      by : (did : VerdictValue) → ArePlaced (count_with did) (e.line + 1) 0 (rows ++ verdict_rows MESSAGE_LIMIT rules T e true did)
      by (message bytes) = placed-left (e.line + 1) 0 rows (made_of rules bytes) onward
      by began = subst (λ n. ArePlaced n (e.line + 1) 0 (rows ++ [])) (count-still began refl) still
      by stored = subst (λ n. ArePlaced n (e.line + 1) 0 (rows ++ [])) (count-still stored refl) still
      by flowed = subst (λ n. ArePlaced n (e.line + 1) 0 (rows ++ [])) (count-still flowed refl) still
      by (dropped reason) =
          subst (λ n. ArePlaced n (e.line + 1) 0 (rows ++ row.dropped (place_of e) (dir_of e.channel) true reason ∷ [])) (count-still (dropped reason) refl)
          (placed-line count lines 0 e.line rows (row.dropped (place_of e) (dir_of e.channel) true reason) are refl late (among-last (of_line e.line) (targets_in rows)))

  placed-event : (lines : ℕ) (rows : List RowValue) (ended : Option Ended) (did : VerdictValue) → ArePlaced count lines 0 rows → lines ≤ e.line
      → ArePlaced (count_with did) (e.line + 1) 0 (rows ++ (ended_rows e ended ++ verdict_rows MESSAGE_LIMIT rules T e (ends_nothing ended) did))
  placed-event lines rows None did are late = placed-linked lines rows did are late
  placed-event lines rows (Some end) did are late =
      let one = row.ended (place_of e) end in
      let places = targets_in rows in
      subst (ArePlaced (count_with did) (e.line + 1) 0) (append_assoc rows (one ∷ []) (verdict_rows MESSAGE_LIMIT rules T e false did))
      (placed-unlinked (rows ++ one ∷ []) did (placed-line count lines 0 e.line rows one are refl late (among-last (of_line e.line) places))
      (subst (IsAmong (of_line e.line)) (sym (new-places rows one (of_line e.line) refl)) (among-last (of_line e.line) places)))

  -- one more frame
  placed-next : (lines : ℕ) → ArePlaced count lines 0 (rows_of MESSAGE_LIMIT rules T) → lines ≤ e.line
      → ArePlaced (length (meaning (messages_under rules MESSAGE_LIMIT (T ++ e ∷ [])))) (e.line + 1) 0 (rows_of MESSAGE_LIMIT rules (T ++ e ∷ []))
  placed-next lines are late =
      let event = verdict MESSAGE_LIMIT T e in
      subst (ArePlaced (length (meaning (messages_under rules MESSAGE_LIMIT (T ++ e ∷ [])))) (e.line + 1) 0) (sym (rows_next MESSAGE_LIMIT rules T e))
      (subst (λ N. ArePlaced (length (meaning N)) (e.line + 1) 0 (rows_of MESSAGE_LIMIT rules T ++ (ended_rows e event.ended ++ verdict_rows MESSAGE_LIMIT rules T e (ends_nothing event.ended) event.verdict)))
      (sym (messages_next rules T e e.channel event refl refl)) (placed-event lines (rows_of MESSAGE_LIMIT rules T) event.ended event.verdict are late))

-- All frames.

abbrev pub HasPlaces : List RuleValue → List Entry → ℕ → Type 0
HasPlaces rules T lines = ArePlaced (length (meaning (messages_under rules MESSAGE_LIMIT T))) lines 0 (rows_of MESSAGE_LIMIT rules T)

placed-behind : (rules : List RuleValue) (past T : List Entry) (low high : ℕ) → HasPlaces rules past low → Grow low high T
    → HasPlaces rules (past ++ T) high
placed-behind rules past [] low high are grow =
    subst (λ (l : List Entry). HasPlaces rules l high) (sym (append-nil past))
    (placed-later (length (meaning (messages_under rules MESSAGE_LIMIT past))) low 0 high 0 (rows_of MESSAGE_LIMIT rules past) are grow (omega arith))
placed-behind rules past (e ∷ rest) low high are grow =
    subst (λ (l : List Entry). HasPlaces rules l high) (append_assoc past (e ∷ []) rest)
    (placed-behind rules (past ++ e ∷ []) rest (e.line + 1) high (placed-next rules past e low are grow.0) grow.1)

no-places : (rules : List RuleValue) → HasPlaces rules [] 0
no-places rules = record { within = tt; distinct = tt; each = λ number low high. absurd (let is = low in let most = high in omega (arith, is, most)); lead = tt }

pub rows-placed : (rules : List RuleValue) (T : List Entry) (low high : ℕ) → Grow low high T → HasPlaces rules T high
rows-placed rules T low high grow =
    placed-behind rules [] T low high (placed-later 0 0 0 low 0 [] (no-places rules) (omega arith) (omega arith)) grow

-- And the end.

standing-placed : (items lines sides : ℕ) (rows : List RowValue) (d : Dir) (standing : Option StandingReception) → ArePlaced items lines sides rows → sides ≤ side_number d
    → ArePlaced items lines (side_number d + 1) (rows ++ standing_row d standing)
standing-placed items lines sides rows d None are late =
    subst (ArePlaced items lines (side_number d + 1)) (sym (append-nil rows)) (placed-later items lines sides lines (side_number d + 1) rows are (omega arith) (omega (arith, late)))
standing-placed items lines sides rows d (Some begun) are late = placed-side items lines sides rows d begun.line begun.len are late

pub all-placed : (rules : List RuleValue) (T : List Entry) (lines : ℕ) → HasPlaces rules T lines
    → ArePlaced (length (meaning (messages_under rules MESSAGE_LIMIT T))) lines 2 (all_rows MESSAGE_LIMIT rules T)
all-placed rules T lines are =
    let items = length (meaning (messages_under rules MESSAGE_LIMIT T)) in
    let stand = receptions_after MESSAGE_LIMIT T in
    let rows = rows_of MESSAGE_LIMIT rules T in
    let one = standing_row dir.Tester stand.tester in
    let other = standing_row dir.Unit stand.unit in
    let to_all = asked_all_in MESSAGE_LIMIT rules T in
    let last = closing_rows (messages_under rules MESSAGE_LIMIT T) to_all in
    subst (ArePlaced items lines 2) (append_assoc (rows ++ one) other last ∙ append_assoc rows one (other ++ last) ∙ ap (λ l. rows ++ l) (sym (append_assoc one other last)))
    (waiting-placed (messages_under rules MESSAGE_LIMIT T) to_all lines 2 ((rows ++ one) ++ other)
    (standing-placed items lines 1 (rows ++ one) dir.Unit stand.unit (standing-placed items lines 0 rows dir.Tester stand.tester are (omega arith)) (omega arith)))
