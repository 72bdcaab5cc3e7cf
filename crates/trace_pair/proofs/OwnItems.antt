-- A log of which something stands in a session has a frame of one of the two sides, and means an item.
use Rattle.std.proofs.Common.{◌≡◌, ◌≢◌, ◌⊎◌, inl, inr, ℕ, List, [], Result, Ok, Err, ap, sym, ◌∙◌}
use Rattle.isotp_receive.specs.Trace.{Entry}
use Rattle.isotp_receive.specs.declared.TheConstants.{MESSAGE_LIMIT}
use Rattle.trace_log.proofs.Promises.{has_own_frame}
use Rattle.trace_log.specs.Settings.{Settings}
use Rattle.trace_log.specs.Summing.{summary_of}
use Rattle.trace_log.specs.Trace.{trace}
use Rattle.trace_log.specs.declared.fault.CompareFault.{CompareFault}
use Rattle.trace_log.specs.declared.fault.CompareFault.TheVariants.{Right}
use Rattle.trace_log.specs.declared.fault.Fault.TheVariants.{Memory}
use Rattle.trace_report.specs.Kept.{HasOwnFrame, KeepsOne, KeepsTwo, KeptSessionsValue}
use Rattle.trace_report.specs.Laws.{ItemsAreTheMeaning}
use Rattle.trace_report.specs.Session.{SessionValue, session_of}
use Rattle.trace_pair.specs.MemoryNeeded.{MeansItem, NeedsMemoryToAlign}
use Rattle.trace_pair.specs.Sessions.{values_in}
use Rattle.trace_pair.specs.proving.Beside.{IsSetBeside}
use Rattle.trace_pair.proofs.Beside.{never_both}

module _ (are_the_meaning : ItemsAreTheMeaning) (settings : Settings) where
  -- the log has a frame where its session has an item
  own_where_items : (log : List ℕ) (session : SessionValue) → KeepsOne MESSAGE_LIMIT settings log (Ok session) → values_in session ≢ [] → HasOwnFrame settings log
  own_where_items log session (meanings, read, is) some =
      has_own_frame settings log meanings read.1
      (λ none. some (ap values_in is ∙ ap (λ (T : List Entry). values_in (session_of MESSAGE_LIMIT settings.rules T (summary_of MESSAGE_LIMIT settings log meanings))) none))

  -- and it means one
  means_where_items : (log : List ℕ) (session : SessionValue) → KeepsOne MESSAGE_LIMIT settings log (Ok session) → values_in session ≢ [] → MeansItem MESSAGE_LIMIT settings log
  means_where_items log session (meanings, read, is) some =
      (values_in session, record { meanings = meanings; means = read.1; found = ap values_in is ∙ are_the_meaning settings.rules (trace settings meanings) }, some)

  -- where one of two sessions has an item, the first log means one, or the second one has a frame
  needed_where_either : (one other : List ℕ) (held : KeptSessionsValue) → KeepsTwo MESSAGE_LIMIT settings one other (Ok held) → (values_in held.left ≢ []) ⊎ (values_in held.right ≢ [])
      → NeedsMemoryToAlign MESSAGE_LIMIT settings one other
  needed_where_either one other held holds (inl some) = inl (means_where_items one held.left holds.0 some)
  needed_where_either one other held holds (inr some) = inr (own_where_items other held.right holds.1 some)

  -- memory is told of the second of two logs only where that has a frame, or the first one means an item
  pub needed_where_refused : (one other : List ℕ) (kept result : Result KeptSessionsValue CompareFault) → IsSetBeside kept result → KeepsTwo MESSAGE_LIMIT settings one other kept
      → (kept ≡ Err (Right Memory) → HasOwnFrame settings other) → result ≡ Err (Right Memory) → NeedsMemoryToAlign MESSAGE_LIMIT settings one other
  needed_where_refused one other (Ok held) (Ok beside) is holds needed told = absurd (never_both beside (Right Memory) told)
  needed_where_refused one other (Ok held) (Err why) is holds needed told = needed_where_either one other held holds is.1
  needed_where_refused one other (Err before) (Ok beside) is holds needed told = absurd is
  needed_where_refused one other (Err before) (Err why) is holds needed told = inr (needed (ap Err (sym is) ∙ told))
