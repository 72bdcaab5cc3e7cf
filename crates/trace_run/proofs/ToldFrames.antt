-- What is said of one more frame that the machine is told, and what is then known of a telling.
use Rattle.std.proofs.Common.{◌≡◌, ℕ, ◌+◌, Bool, true, false, List, [], ◌∷◌, ◌++◌, ap, sym, subst, ◌∙◌, inr, append-nil, append_assoc}
use Rattle.std.specs.Prelude.{not}
use Rattle.isotp_receive.specs.Channels.{dir_of}
use Rattle.isotp_receive.specs.Trace.{Entry}
use Rattle.isotp_receive.specs.Verdict.{messages, told_message, verdict}
use Rattle.isotp_receive.specs.declared.TheConstants.{MESSAGE_LIMIT}
use Rattle.trace_io.specs.declared.device.Target.{Ghosts as TargetGhosts}
use Rattle.trace_run.specs.declared.machine.Machine.{Ghosts as MachineGhosts}
use Rattle.trace_log.specs.declared.fault.Fault.TheVariants as fault
use Rattle.uds_exchange.specs.declared.judge.Judge.{Judge}
use Rattle.direction.specs.Dir.{Message}
use Rattle.uds_rules.specs.Rule.{RuleValue}
use Rattle.uds_rules.specs.Under.{left_out, under}
use Rattle.uds_rules.proofs.Promises.{left_out_goes_on}
use Rattle.trace_log.specs.Messages.{messages_under}
use Rattle.trace_run.specs.proving.Ruling.{HasJudged}
use Rattle.trace_run.specs.declared.sheet.Sheet.{Sheet}
use Rattle.trace_run.specs.declared.telling.Telling.{Telling}
use Rattle.trace_run.specs.proving.Carrying.{HasSaid, Says, Settles}
use Rattle.trace_run.proofs.Carryings.{is_blank}
use Rattle.trace_run.specs.proving.Telling.{Start, said_since, HasStopped, HasTold, HasToldAndWritten}
use Rattle.uds_exchange.specs.Judging.{IsJudgeOf}
use Rattle.trace_run.specs.Script.{said_after, said_of_frames}
use Rattle.trace_log.specs.proving.Announcing.{AnnouncesWithin}
use Rattle.trace_log.proofs.Promises.{each_more, messages_more, messages_under_more}

-- ---- what is said of one more frame

-- of some frames and of more behind them
pub said-append : (of_frame : List Entry → Entry → List ℕ) (past xs ys : List Entry)
    → said_after of_frame past (xs ++ ys) ≡ said_after of_frame past xs ++ said_after of_frame (past ++ xs) ys
said-append of_frame past [] ys = ap (λ l. said_after of_frame l ys) (sym (append-nil past))
said-append of_frame past (e ∷ xs) ys =
    ap (λ l. of_frame past e ++ l) (said-append of_frame (past ++ e ∷ []) xs ys
    ∙ ap (λ l. said_after of_frame (past ++ e ∷ []) xs ++ said_after of_frame l ys) (append_assoc past (e ∷ []) xs))
    ∙ sym (append_assoc (of_frame past e) (said_after of_frame (past ++ e ∷ []) xs) (said_after of_frame (past ++ (e ∷ xs)) ys))

-- and of one more
pub one_more_said : (of_frame : List Entry → Entry → List ℕ) (T : List Entry) (e : Entry)
    → said_of_frames of_frame (T ++ e ∷ []) ≡ said_of_frames of_frame T ++ of_frame T e
one_more_said of_frame T e =
    said-append of_frame [] T (e ∷ []) ∙ ap (λ l. said_of_frames of_frame T ++ l) (append-nil (of_frame T e))

-- what is judged and counted with the message of one more frame, of which rules showed this
judged_next : (rules : List RuleValue) (T : List Entry) (e : Entry) (shown : List Message) (judge judge_now : Judge)
    (out out_now : ℕ)
    → shown ≡ under rules (told_message (dir_of e.channel) (verdict MESSAGE_LIMIT T e).verdict) → HasJudged rules T judge out
    → IsJudgeOf (messages_under rules MESSAGE_LIMIT T ++ shown) judge_now
    → out_now ≡ out + left_out rules (told_message (dir_of e.channel) (verdict MESSAGE_LIMIT T e).verdict)
    → HasJudged rules (T ++ e ∷ []) judge_now out_now
judged_next rules T e shown judge judge_now out out_now is so_far judged counted =
    let told = told_message (dir_of e.channel) (verdict MESSAGE_LIMIT T e).verdict in
    record {
      judged =
          subst (λ M. IsJudgeOf M judge_now)
          (ap (λ l. messages_under rules MESSAGE_LIMIT T ++ l) is ∙ sym (messages_under_more rules MESSAGE_LIMIT T e)) judged;
      counted = counted ∙ ap (λ n. n + left_out rules told) so_far.counted
          ∙ sym (left_out_goes_on rules (messages MESSAGE_LIMIT T) told)
          ∙ sym (ap (left_out rules) (messages_more MESSAGE_LIMIT T e));
    }

-- ---- one more event

module _ {A M W : Type 0} (machine : MachineGhosts M A) (target : TargetGhosts W) (start : Start M W) (T : List Entry) where
  module _ (e : Entry) where
    -- it was told
    pub tells_next : (shown : List Message) → shown ≡ under start.rules (told_message (dir_of e.channel) (verdict MESSAGE_LIMIT T e).verdict)
        → (telling telling_now : Telling M) (old new : W) → HasTold machine target start T telling old
        → IsJudgeOf (messages_under start.rules MESSAGE_LIMIT T ++ shown) telling_now.judge
        → telling_now.ruling.left_out
        ≡ telling.ruling.left_out + left_out start.rules (told_message (dir_of e.channel) (verdict MESSAGE_LIMIT T e).verdict)
        → machine.stands start.rules start.machine (T ++ e ∷ []) telling_now.machine
        → ((machine.script start.rules start.machine).strict ≡ true → AnnouncesWithin e)
        → Says target telling.sheet old ((machine.script start.rules start.machine).of_frame T e) telling_now.sheet new
        → HasTold machine target start (T ++ e ∷ []) telling_now new
    tells_next shown is telling telling_now old new so_far judged counted stands one speaks = record {
      judged =
          judged_next start.rules T e shown telling.judge telling_now.judge telling.ruling.left_out
          telling_now.ruling.left_out is so_far.judged judged counted;
      machine_stands = stands;
      within = λ strict. each_more T e (so_far.within strict) (one strict);
      carried =
          subst (λ text. HasSaid target start.target text telling_now.sheet new)
          (sym (one_more_said (machine.script start.rules start.machine).of_frame T e))
          (speaks start.target (said_since machine start.rules start.machine T) so_far.carried);
    }

    -- nothing of it was said, and the run stopped
    pub stops_at : (telling telling_now : Telling M) (old new : W) → HasTold machine target start T telling old
        → ((machine.script start.rules start.machine).strict ≡ true → AnnouncesWithin e) → machine.needs start.rules start.machine T e
        → Says target telling.sheet old [] telling_now.sheet new
        → HasStopped machine target start T e fault.Memory telling_now new
    stops_at telling telling_now old new so_far one needed speaks = record {
      within = so_far.within;
      reason = (one, inr needed);
      carried =
          subst (λ text. HasSaid target start.target text telling_now.sheet new) (append-nil (said_since machine start.rules start.machine T))
          (speaks start.target (said_since machine start.rules start.machine T) so_far.carried);
    }

  -- what was due was written, or that failed
  pub settled_as : (telling : Telling M) (old new : W) (settled : Bool) → HasTold machine target start T telling old
      → Settles target telling.sheet old settled new → HasToldAndWritten machine target start T telling (not settled) new
  settled_as telling old new settled so_far settles = record {
    judged = so_far.judged;
    machine_stands = so_far.machine_stands;
    within = so_far.within;
    carried = settles start.target (said_since machine start.rules start.machine T) so_far.carried;
  }

  -- so it is of a telling with any such sheet
  pub same_sheet : (telling : Telling M) (sheet : Sheet) (now : W) → HasToldAndWritten machine target start T telling false now
      → sheet.failed ≡ false → sheet.gathered ≡ [] → HasTold machine target start T (record telling { sheet = sheet }) now
  same_sheet telling sheet now tells well blank =
      subst (λ p. HasTold machine target start T (record telling { sheet = p }) now) (is_blank sheet well blank) tells
