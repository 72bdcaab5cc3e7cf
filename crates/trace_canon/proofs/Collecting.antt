-- What is kept of a log's messages with one more.
use Rattle.std.proofs.Common.{◌≡◌, ℕ, ◌+◌, ◌<◌, ◌≤◌, ◌^◌, true, false, List, [], ◌∷◌, ◌++◌, length, Some, None, arith, ap, refl, sym, subst, ◌∙◌}
use Rattle.std.proofs.lemmas.Bool.{le-leb, lt-leb}
use Rattle.direction.specs.Dir.{Message}
use Rattle.direction.specs.declared.Dir.{Dir}
use Rattle.isotp_receive.specs.Channels.{dir_of}
use Rattle.isotp_receive.specs.declared.TheConstants.{MESSAGE_LIMIT}
use Rattle.isotp_receive.specs.EventSeen.{seen_verdict}
use Rattle.isotp_receive.specs.Trace.{Entry}
use Rattle.isotp_receive.specs.Verdict.{messages, told_message}
use Rattle.trace_run.specs.Seen.{IsSeen}
use Rattle.trace_run.specs.Spoken.{spoken_counts}
use Rattle.trace_run.specs.declared.machine.Seen.{Seen}
use Rattle.trace_run.proofs.Promises.{few_messages, spoken_next}
use Rattle.uds_rules.specs.Rule.{RuleValue}
use Rattle.uds_exchange.specs.Meaning.{ItemValue, meaning, flattened}
use Rattle.trace_canon.specs.declared.collector.Collected.{Collected}
use Rattle.trace_canon.specs.proving.SessionScript.{Collects}
use Rattle.trace_log.specs.Settings.{Settings}
use Rattle.trace_canon.specs.proving.Measuring.{HaveLengths, fits_within}
use Rattle.trace_canon.proofs.Lengths.{log_has_length}

-- items of this size fit, where that is within the limit
fits_so : (settings : Settings) (items : List ItemValue) (size : ℕ) → HaveLengths settings (flattened items) size
    → size ≤ settings.max_bytes → fits_within settings items ≡ true
fits_so settings items size have within =
    let long = log_has_length settings (flattened items) size have in
    le-leb _ settings.max_bytes (omega (arith, long))

-- and else do not
fits_not : (settings : Settings) (items : List ItemValue) (size : ℕ) → HaveLengths settings (flattened items) size
    → settings.max_bytes < size → fits_within settings items ≡ false
fits_not settings items size have over =
    let long = log_has_length settings (flattened items) size have in
    lt-leb _ settings.max_bytes (omega (arith, long))

module _ (settings : Settings) where
  -- before the first message
  pub collects_start : (pairing : List ItemValue) (room : ℕ) → pairing ≡ meaning [] → room ≡ settings.max_bytes
      → Collects settings [] (Some (record { pairing = pairing; room = room })) settings
  collects_start pairing room is whole =
      record { same = refl; size = 0; measured = refl; kept = (is, omega (arith, whole)) }

  module _ (M : List Message) (config : Settings) where
    module _ (old : Collected) (stood : Collects settings M (Some old) config) where
      -- with one more, for which there is room
      pub collects_more : (message : Message) (added : ℕ) (new : Collected)
          → (HaveLengths config (flattened (meaning M)) stood.size
          → HaveLengths config (flattened (meaning (M ++ message ∷ []))) (stood.size + added))
          → (old.pairing ≡ meaning M → new.pairing ≡ meaning (M ++ message ∷ [])) → old.room ≡ new.room + added
          → Collects settings (M ++ message ∷ []) (Some new) config
      collects_more message added new grows pairs room = record {
        same = stood.same;
        size = stood.size + added;
        measured =
            subst (λ (s : Settings). HaveLengths s (flattened (meaning (M ++ message ∷ []))) (stood.size + added)) stood.same
            (grows (subst (λ (s : Settings). HaveLengths s (flattened (meaning M)) stood.size) (sym stood.same) stood.measured));
        kept = (pairs stood.kept.0, omega (arith, stood.kept.1, room));
      }

      -- what is kept is all, and fits
      pub still_fits : (old.pairing ≡ meaning M) × (fits_within settings (meaning M) ≡ true)
      still_fits = (stood.kept.0, fits_so settings (meaning M) stood.size stood.measured (omega (arith, stood.kept.1)))

    -- where nothing is kept any more, it does not fit
    pub no_longer_fits : Collects settings M None config → fits_within settings (meaning M) ≡ false
    no_longer_fits stood = fits_not settings (meaning M) stood.size stood.measured stood.kept

-- a configuration that stays has the same rules
pub same_rules : {settings now before : Settings} → now ≡ settings → before ≡ settings → now.rules ≡ before.rules
same_rules is was = ap (λ (s : Settings). s.rules) (is ∙ sym was)

-- of the messages of a trace with one more frame each rule spoke as often as was counted behind those before
pub counts_next : (own rules : List RuleValue) (T : List Entry) (e : Entry) (seen : Seen) (old new : List ℕ) → IsSeen rules T e seen → own ≡ rules
    → old ≡ spoken_counts rules (messages MESSAGE_LIMIT T)
    → ((M : List Message) (d : Dir) → length M < 2 ^ 62 → old ≡ spoken_counts own M
    → new ≡ spoken_counts own (M ++ told_message d (seen_verdict seen.event.verdict)))
    → new ≡ spoken_counts rules (messages MESSAGE_LIMIT (T ++ e ∷ []))
counts_next own rules T e seen old new is same stood counted =
    let M = messages MESSAGE_LIMIT T in
    let behind = counted M (dir_of seen.channel) (few_messages T is.event.few) (stood ∙ ap (λ (l : List RuleValue). spoken_counts l M) (sym same)) in
    spoken_next own rules T e seen new is behind ∙ ap (λ (l : List RuleValue). spoken_counts l (messages MESSAGE_LIMIT (T ++ e ∷ []))) same
