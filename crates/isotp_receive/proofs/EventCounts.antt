-- What the frames of a trace do, counted: a clean trace counts nothing wrong, and a frame is too long by what it announces.
use Prim.Native.Nat.{suc}
use Rattle.std.proofs.Common.{◌≡◌, ℕ, ◌+◌, Bool, true, false, List, [], ◌∷◌, ◌++◌, length, nat_le, arith, refl, ap, sym, ◌∙◌, cond, Option, Some, None, Result, Ok, Err, inl, inr, append_assoc}
use Rattle.std.specs.Prelude.{◌==◌, is_some}
use Rattle.std.specs.List.{count_by}
use Rattle.std.specs.Option.{option_len}
use Rattle.std.proofs.lemmas.Bool.{cases_Bool, cond_both}
use Rattle.std.proofs.lemmas.List.{append-nil}
use Rattle.std.proofs.lemmas.List.Sums.{sum_by-append}
use Rattle.isotp_receive.specs.Channels.{other_channel}
use Rattle.direction.specs.declared.Dir.TheVariants as dir
use Rattle.isotp_receive.specs.declared.channel.Channel.TheVariants.{Tester, Unit, Functional}
use Rattle.isotp_pdu.specs.Layout.{Layout}
use Rattle.isotp_pdu.specs.Layout as layout
use Rattle.isotp_pdu.specs.Reading.{layout_of}
use Rattle.isotp_pdu.specs.declared.PduFault.{PduFault}
use Rattle.isotp_pdu.specs.declared.Status.{Status}
use Rattle.isotp_pdu.specs.declared.Status.TheVariants.{Continue, Wait, Overflow}
use Rattle.isotp_receive.specs.declared.event.Ended.{Ended}
use Rattle.isotp_receive.specs.declared.event.Cause.TheVariants as cause
use Rattle.isotp_receive.specs.declared.event.Reason.TheVariants as reason
use Rattle.isotp_receive.specs.Trace.{Entry}
use Rattle.isotp_receive.specs.Fit.{Fit, late, wrong_number, wrong_length, one_more, last}
use Rattle.isotp_receive.specs.StandingReception.{StandingReception, fit_of, stands}
use Rattle.isotp_receive.specs.Verdict.{VerdictValue, message, began, stored, flowed, dropped, EventValue, verdict, refused, ended_as, on_fit, on_layout, on_consecutive, on_flow_control}
use Rattle.isotp_receive.specs.CleanTrace.{IsKept, EachClean, IsClean}
use Rattle.isotp_receive.specs.Events.{announced_by, events_after, is_dropped, dropped_in, ended_in, unfinished_in, oversize_in, too_long_in}
use Rattle.isotp_receive.specs.MessageLaws.{EventsGoOn, EventsAreAsMany, TooLongIsAnnounced, KeptIsWithin, CleanIsCounted}
use Rattle.isotp_receive.specs.Channels.{dir_of}
use Rattle.isotp_receive.specs.Channels.{channel_of}
use Rattle.isotp_receive.specs.Trace.{layout_in}
use Rattle.isotp_receive.specs.declared.event.Reason.{Reason}
use Rattle.direction.specs.declared.Dir.{Dir}
use Rattle.direction.specs.Dir.{other_direction}
use Rattle.isotp_receive.specs.Channels.{layout_on}
use Rattle.isotp_receive.specs.declared.channel.Channel.{Channel}

-- ---- a trace that goes on

events_after-append : (limit : ℕ) (past T more : List Entry) → events_after limit past (T ++ more) ≡ events_after limit past T ++ events_after limit (past ++ T) more
events_after-append limit past [] more = ap (λ x. events_after limit x more) (sym (append-nil past))
events_after-append limit past (e ∷ T) more =
    ap (λ x. verdict limit past e ∷ x) (events_after-append limit (past ++ e ∷ []) T more
    ∙ ap (λ x. events_after limit (past ++ e ∷ []) T ++ events_after limit x more) (append_assoc past (e ∷ []) T))

pub events_go_on : EventsGoOn
events_go_on limit T more = events_after-append limit [] T more

events_count : (limit : ℕ) (past T : List Entry) → length (events_after limit past T) ≡ length T
events_count limit past [] = refl
events_count limit past (e ∷ T) = ap suc (events_count limit (past ++ e ∷ []) T)

pub events_are_as_many : EventsAreAsMany
events_are_as_many limit T = events_count limit [] T

-- ---- a clean trace counts nothing, and where nothing is counted the trace is clean

count_first : {X : Type 0} (p : X → Bool) (x : X) (xs : List X) → count_by p (x ∷ xs) ≡ cond (p x) 1 0 + count_by p xs
count_first p x xs = let parts = sum_by-append (λ y. cond (p y) 1 0) (x ∷ []) xs in omega arith

counts_zero : (b : Bool) → b ≡ false → ◌≡◌ {A = ℕ} (cond b 1 0) 0
counts_zero b is = rw is refl

counts_one : (b : Bool) → b ≡ true → ◌≡◌ {A = ℕ} (cond b 1 0) 1
counts_one b is = rw is refl

count_none : {X : Type 0} (p : X → Bool) (x : X) (xs : List X) → p x ≡ false → count_by p xs ≡ 0 → count_by p (x ∷ xs) ≡ 0
count_none p x xs passed rest = omega (arith, counts_zero (p x) passed, count_first p x xs)

-- where none passes, the first does not, and none after it
record NoneCounted {X : Type 0} (p : X → Bool) (x : X) (xs : List X) : Type 0 where
  first : p x ≡ false
  later : count_by p xs ≡ 0

none_counted : {X : Type 0} (p : X → Bool) (x : X) (xs : List X) → count_by p (x ∷ xs) ≡ 0 → NoneCounted p x xs
none_counted p x xs none = elim (cases_Bool (p x)) [
  | inl passed ↦ absurd (omega (arith, counts_one (p x) passed, count_first p x xs))
  | inr failed ↦ record { first = failed; later = omega (arith, counts_zero (p x) failed, count_first p x xs) }
]

abbrev dropped_event : EventValue → Bool
dropped_event event = is_dropped event.verdict

abbrev ended_event : EventValue → Bool
ended_event event = is_some event.ended

kept_is_not_dropped : (told : VerdictValue) → IsKept told → is_dropped told ≡ false
kept_is_not_dropped (message bytes) kept = refl
kept_is_not_dropped began kept = refl
kept_is_not_dropped stored kept = refl
kept_is_not_dropped flowed kept = refl
kept_is_not_dropped (dropped why) kept = absurd kept

not_dropped_is_kept : (told : VerdictValue) → is_dropped told ≡ false → IsKept told
not_dropped_is_kept (message bytes) is = tt
not_dropped_is_kept began is = tt
not_dropped_is_kept stored is = tt
not_dropped_is_kept flowed is = tt
not_dropped_is_kept (dropped why) is = absurd (cc)

none_ended : (ended : Option Ended) → is_some ended ≡ false → ended ≡ None
none_ended None is = refl
none_ended (Some ended) is = absurd (cc)

clean_drops_none : (limit : ℕ) (past T : List Entry) → EachClean limit past T → count_by dropped_event (events_after limit past T) ≡ 0
clean_drops_none limit past [] clean = refl
clean_drops_none limit past (e ∷ rest) clean =
    count_none dropped_event (verdict limit past e) (events_after limit (past ++ e ∷ []) rest) (kept_is_not_dropped (verdict limit past e).verdict clean.0.kept)
    (clean_drops_none limit (past ++ e ∷ []) rest clean.1)

clean_ends_none : (limit : ℕ) (past T : List Entry) → EachClean limit past T → count_by ended_event (events_after limit past T) ≡ 0
clean_ends_none limit past [] clean = refl
clean_ends_none limit past (e ∷ rest) clean =
    count_none ended_event (verdict limit past e) (events_after limit (past ++ e ∷ []) rest) (ap is_some clean.0.goes_on)
    (clean_ends_none limit (past ++ e ∷ []) rest clean.1)

each_clean : (limit : ℕ) (past T : List Entry) → count_by dropped_event (events_after limit past T) ≡ 0 → count_by ended_event (events_after limit past T) ≡ 0
    → EachClean limit past T
each_clean limit past [] none_dropped no_end = tt
each_clean limit past (e ∷ rest) none_dropped no_end =
    let one = none_counted dropped_event (verdict limit past e) (events_after limit (past ++ e ∷ []) rest) none_dropped in
    let other = none_counted ended_event (verdict limit past e) (events_after limit (past ++ e ∷ []) rest) no_end in (
      record { goes_on = none_ended (verdict limit past e).ended other.first; kept = not_dropped_is_kept (verdict limit past e).verdict one.first },
      each_clean limit (past ++ e ∷ []) rest one.later other.later,
    )

empty_option : (o : Option StandingReception) → option_len o ≡ 0 → o ≡ None
empty_option None is = refl
empty_option (Some standing) is = absurd (omega arith)

clean_counts_none : (limit : ℕ) (T : List Entry) → IsClean limit T → (dropped_in limit T ≡ 0) × (ended_in limit T ≡ 0) × (unfinished_in limit T ≡ 0)
clean_counts_none limit T clean =
    let tester = ap option_len (clean.finished dir.Tester) in
    let unit = ap option_len (clean.finished dir.Unit) in
    (clean_drops_none limit [] T clean.each, clean_ends_none limit [] T clean.each, omega arith)

counts_none_is_clean : (limit : ℕ) (T : List Entry) → (dropped_in limit T ≡ 0) × (ended_in limit T ≡ 0) × (unfinished_in limit T ≡ 0) → IsClean limit T
counts_none_is_clean limit T counts = record { each = each_clean limit [] T counts.0 counts.1; finished = finished }
  where
    finished : (d : Dir) → stands limit (channel_of d) T ≡ None
    finished dir.Tester = empty_option (stands limit (channel_of dir.Tester) T) (omega (arith, counts.2))
    finished dir.Unit = empty_option (stands limit (channel_of dir.Unit) T) (omega (arith, counts.2))

pub clean_is_counted : CleanIsCounted
clean_is_counted limit T = (clean_counts_none limit T, counts_none_is_clean limit T)

-- ---- a first frame that announces too much is what is dropped as too long

abbrev NoLength : EventValue → Type 0
NoLength event = too_long_in event.verdict ≡ None

fit_length : (d : Dir) (standing : StandingReception) (fit : Fit) (number : ℕ) (bytes : List ℕ) → NoLength (on_fit d standing fit number bytes)
fit_length d standing late number bytes = refl
fit_length d standing wrong_number number bytes = refl
fit_length d standing wrong_length number bytes = refl
fit_length d standing one_more number bytes = refl
fit_length d standing last number bytes = refl

consecutive_length : (d : Dir) (own : Option StandingReception) (micros number can_dl : ℕ) (bytes : List ℕ) → NoLength (on_consecutive d own micros number can_dl bytes)
consecutive_length d None micros number can_dl bytes = refl
consecutive_length d (Some standing) micros number can_dl bytes =
    fit_length d standing (fit_of standing micros number can_dl) number bytes

flow_length : (d : Dir) (other : Option StandingReception) (status : Status) → NoLength (on_flow_control d other status)
flow_length d None Continue = refl
flow_length d None Wait = refl
flow_length d None Overflow = refl
flow_length d (Some standing) Continue = refl
flow_length d (Some standing) Wait = refl
flow_length d (Some standing) Overflow =
    cond_both (standing.taken == 0) (record { ended = ended_as cause.Overflow d (Some standing); verdict = flowed }) (refused None reason.FlowUnexpected)
    NoLength (λ _. refl) (λ _. refl)

-- the length that a reason tells
abbrev told_by : Result Layout Reason → Option ℕ
told_by (Ok said) = None
told_by (Err why) = announced_by why

-- the reason why a frame says nothing tells none
none_told : (c : Channel) (r : Result Layout PduFault) → told_by (layout_on c r) ≡ None
none_told Tester (Ok said) = refl
none_told Tester (Err fault) = refl
none_told Unit (Ok said) = refl
none_told Unit (Err fault) = refl
none_told Functional (Ok (layout.single whole)) = refl
none_told Functional (Ok (layout.first announced rx_dl bytes)) = refl
none_told Functional (Ok (layout.consecutive number can_dl bytes)) = refl
none_told Functional (Ok (layout.flow_control status)) = refl
none_told Functional (Err fault) = refl

layout_length : (limit : ℕ) (d : Dir) (own others : Option StandingReception) (micros : ℕ) (r : Result Layout Reason) → told_by r ≡ None
    → too_long_in (on_layout limit d own others micros r).verdict ≡ oversize_in limit r
layout_length limit d own others micros (Ok (layout.single whole)) short = refl
layout_length limit d own others micros (Ok (layout.first announced rx_dl bytes)) short = by_test (nat_le announced limit)
  where
    by_test : (within : Bool) → too_long_in (cond within began (dropped (reason.TooLong announced))) ≡ cond within None (Some announced)
    by_test true = refl
    by_test false = refl
layout_length limit d own others micros (Ok (layout.consecutive number can_dl bytes)) short = consecutive_length d own micros number can_dl bytes
layout_length limit d own others micros (Ok (layout.flow_control status)) short = flow_length (other_direction d) others status
layout_length limit d own others micros (Err why) short = short

pub too_long_is_announced : TooLongIsAnnounced
unfolding verdict layout_in
too_long_is_announced limit T e =
    layout_length limit (dir_of e.channel) (stands limit e.channel T) (stands limit (other_channel e.channel) T) e.micros (layout_in e) (none_told e.channel (layout_of e.frame))

-- and a frame that is not dropped announces no such length
kept_is_short : (told : VerdictValue) → IsKept told → too_long_in told ≡ None
kept_is_short (message bytes) kept = refl
kept_is_short began kept = refl
kept_is_short stored kept = refl
kept_is_short flowed kept = refl
kept_is_short (dropped reason) kept = absurd kept

pub kept_is_within : KeptIsWithin
kept_is_within limit T e kept = sym (too_long_is_announced limit T e) ∙ kept_is_short (verdict limit T e).verdict kept
