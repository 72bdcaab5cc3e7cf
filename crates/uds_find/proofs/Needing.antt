-- For which frames a finder needs memory; and that a tester is another than its unit.
use Rattle.std.proofs.Common.{◌≡◌, ℕ, ◌+◌, ◌*◌, ◌/◌, ◌%◌, ◌-◌, ◌<◌, ◌≤◌, ◌==◌, Bool, true, false, List, [], ◌∷◌, ◌++◌, Option, Some, None, length}
use Rattle.std.proofs.Common.{length-append, refl, sym, ◌∙◌, ap, subst, arith, append_assoc, inl, inr}
use Rattle.std.proofs.lemmas.Bool.{and_parts, eqb-true, eqb-false, leb-true}
use Rattle.std.proofs.lemmas.List.Sums.{count_by-le-length, sum_by-append, sum_by-cons, sum_by_push}
use Rattle.std.specs.List.{cons_option, count_by}
use Rattle.std.specs.Map.{lookup}
use Rattle.std.specs.Option.{is_some}
use Rattle.std.specs.Prelude.{if◌then◌else◌, nat_le, ◌&&◌, ◌||◌}
use Rattle.can_log.specs.Frame.{FrameValue}
use Rattle.can_log.specs.declared.frame.Id.{Id}
use Rattle.can_log.specs.declared.frame.Id.TheVariants as id
use Rattle.uds_find.specs.Asking.{asks, is_asking, is_kept, request_count, HasAsking, HasKept}
use Rattle.uds_find.specs.Functional.{is_functional_frame}
use Rattle.uds_find.specs.Credit.{answers_from, credit, credits, credits_after, credit_count, is_same, is_same_pair, HasCredit}
use Rattle.uds_find.specs.Finding.{IsTally}
use Rattle.uds_find.specs.Laws.{AskingIsKept, AsksLast, CreditHasAsking, FirstCreditIsCredit, NeedHasAsking, NeedHasKept, TesterIsAnother}
use Rattle.uds_find.specs.Tester.{IsTesterBeside, asking_partner, partner_of}
use Rattle.uds_find.specs.declared.pair.IdPair.{IdPair}
use Rattle.uds_find.proofs.Asking.{credit_is_asked}
use Rattle.uds_find.proofs.Counting.{credits-more}
use Rattle.uds_find.proofs.Listing.{some-from}
use Rattle.uds_find.proofs.Orders.{one-pair, pair-itself}

pub first_credit_is_credit : FirstCreditIsCredit
first_credit_is_credit past frame (pair, some, none) =
    let more = ap length (credits-more [] past frame ∙ ap (λ one. credits past ++ cons_option one []) some) in
    omega (arith, more, length-append (credits past) (pair ∷ []))

-- a pair that a tally has has some credit
pub tallied-credit : (frames : List FrameValue) (table : List (IdPair × ℕ)) → IsTally is_same_pair (credit_count frames) table → 0 < length table
    → HasCredit frames
unfolding credit_count
tallied-credit frames [] tally some = absurd (omega (arith, some))
tallied-credit frames (entry ∷ rest) tally some =
    let first = ap (λ b. if b then Some entry.1 else lookup (is_same_pair entry.0) rest) (pair-itself entry.0) in
    let has = some-from entry.1 (credit_count frames entry.0) (sym first ∙ tally.counts entry.0) in
    omega (arith, has.1, count_by-le-length (λ credited. is_same_pair credited entry.0) (credits frames))

-- ---- some frame asks

one-asking : (earlier since : List FrameValue) (asking : FrameValue) → asks asking ≡ true → 0 < count_by asks (earlier ++ asking ∷ since)
one-asking earlier since asking is =
    omega (
      arith,
      sum_by-append (λ frame. if asks frame then 1 else 0) earlier (asking ∷ since),
      sum_by-cons (λ frame. if asks frame then 1 else 0) asking since,
      ap {B = ℕ} (λ b. if b then 1 else 0) is,
    )

credited-asks : (past : List FrameValue) (frame : FrameValue) (pair : IdPair) → credit past frame ≡ Some pair → 0 < count_by asks past
credited-asks past frame pair is =
    let asked = credit_is_asked past frame pair is in
    by asked.0 asked.3
  where
    by : (service : ℕ) → AsksLast past service pair.tester pair.unit → 0 < count_by asks past
    by service last = subst (λ l. 0 < count_by asks l) (sym last.place) (one-asking last.earlier last.since last.asking (ap is_asking last.asks))

credits-ask : (past rest : List FrameValue) → 0 < length (credits_after past rest) → 0 < count_by asks (past ++ rest)
unfolding credits_after
credits-ask past [] some = absurd (omega (arith, some))
credits-ask past (frame ∷ rest) some = by (credit past frame) refl some (λ later. credits-ask (past ++ frame ∷ []) rest later)
  where
    by : (one : Option IdPair) → credit past frame ≡ one → 0 < length (cons_option one (credits_after (past ++ frame ∷ []) rest))
        → (0 < length (credits_after (past ++ frame ∷ []) rest) → 0 < count_by asks ((past ++ frame ∷ []) ++ rest))
        → 0 < count_by asks (past ++ frame ∷ rest)
    by None is later behind = subst (λ l. 0 < count_by asks l) (append_assoc past (frame ∷ []) rest) (behind later)
    by (Some pair) is later behind =
        omega (arith, sum_by-append (λ one. if asks one then 1 else 0) past (frame ∷ rest), credited-asks past frame pair is)

pub credit_has_asking : CreditHasAsking
credit_has_asking frames some = credits-ask [] frames some

-- ---- the identifier of some frame is kept

few-kept : (frames : List FrameValue) → count_by asks frames ≤ count_by is_kept frames
few-kept [] = omega arith
few-kept (frame ∷ rest) =
    omega (
      arith,
      sum_by-cons (λ one. if asks one then 1 else 0) frame rest,
      sum_by-cons (λ one. if is_kept one then 1 else 0) frame rest,
      few-kept rest,
      at-most (asks frame) (is_functional_frame frame),
    )
  where
    at-most : (a b : Bool) → (if a then 1 else 0) ≤ (if a || b then 1 else 0)
    at-most true b = omega arith
    at-most false true = omega arith
    at-most false false = omega arith

pub asking_is_kept : AskingIsKept
asking_is_kept frames some = omega (arith, some, few-kept frames)

last-kept : (past : List FrameValue) (frame : FrameValue) → is_kept frame ≡ true → HasKept (past ++ frame ∷ [])
last-kept past frame kept =
    omega (arith, sum_by_push (λ one. if is_kept one then 1 else 0) past frame, ap {B = ℕ} (λ b. if b then 1 else 0) kept)

credited-kept : (past : List FrameValue) (frame : FrameValue) (pair : IdPair) → credit past frame ≡ Some pair → HasKept (past ++ frame ∷ [])
credited-kept past frame pair is =
    omega (arith, sum_by_push (λ one. if is_kept one then 1 else 0) past frame, few-kept past, credited-asks past frame pair is)

or-true : (b : Bool) → (b || true) ≡ true
or-true true = refl
or-true false = refl

-- a credited answer is credited to some pair
credited-some : (answers : Bool) (to : Option IdPair) → (answers && is_some to) ≡ true → (pair : IdPair) × (to ≡ Some pair)
credited-some true (Some pair) is = (pair, refl)
credited-some true None is = absurd (cc is)
credited-some false to is = absurd (cc is)

pub need_has_kept : NeedHasKept
need_has_kept past frame (inl (asking, none)) = last-kept past frame (ap (λ b. b || is_functional_frame frame) asking)
need_has_kept past frame (inr (inl (functional, none))) = last-kept past frame (ap (λ b. asks frame || b) functional ∙ or-true (asks frame))
need_has_kept past frame (inr (inr (inl (pair, is, none)))) = credited-kept past frame pair is
need_has_kept past frame (inr (inr (inr (service, is, none)))) =
    let to = credited-some (answers_from service frame.id frame) (credit past frame) is in
    credited-kept past frame to.0 to.1

-- ---- some frame asks, where the last one is not functional

last-asks : (past : List FrameValue) (frame : FrameValue) → asks frame ≡ true → HasAsking (past ++ frame ∷ [])
last-asks past frame asking =
    omega (arith, sum_by_push (λ one. if asks one then 1 else 0) past frame, ap {B = ℕ} (λ b. if b then 1 else 0) asking)

credited-asked : (past : List FrameValue) (frame : FrameValue) (pair : IdPair) → credit past frame ≡ Some pair → HasAsking (past ++ frame ∷ [])
credited-asked past frame pair is =
    omega (arith, sum_by_push (λ one. if asks one then 1 else 0) past frame, credited-asks past frame pair is)

pub need_has_asking : NeedHasAsking
need_has_asking past frame apart (inl (asking, none)) = last-asks past frame asking
need_has_asking past frame apart (inr (inl (functional, none))) = absurd (cc (sym functional ∙ apart))
need_has_asking past frame apart (inr (inr (inl (pair, is, none)))) = credited-asked past frame pair is
need_has_asking past frame apart (inr (inr (inr (service, is, none)))) =
    let to = credited-some (answers_from service frame.id frame) (credit past frame) is in
    credited-asked past frame to.0 to.1

-- ---- a tester is another

credited-apart : (pair : IdPair) (past rest : List FrameValue) → 0 < count_by (λ one. is_same_pair one pair) (credits_after past rest)
    → is_same pair.tester pair.unit ≡ false
unfolding credits_after
credited-apart pair past [] some = absurd (omega (arith, some))
credited-apart pair past (frame ∷ rest) some = by (credit past frame) refl some (λ later. credited-apart pair (past ++ frame ∷ []) rest later)
  where
    by : (one : Option IdPair) → credit past frame ≡ one
        → 0 < count_by (λ other. is_same_pair other pair) (cons_option one (credits_after (past ++ frame ∷ []) rest))
        → (0 < count_by (λ other. is_same_pair other pair) (credits_after (past ++ frame ∷ []) rest) → is_same pair.tester pair.unit ≡ false)
        → is_same pair.tester pair.unit ≡ false
    by None is later behind = behind later
    by (Some one) is later behind = at (is_same_pair one pair) refl
      where
        at : (b : Bool) → is_same_pair one pair ≡ b → is_same pair.tester pair.unit ≡ false
        at true same =
            let asked = credit_is_asked past frame one is in
            subst (λ (p : IdPair). is_same p.tester p.unit ≡ false) (one-pair one pair same) asked.4
        at false apart =
            behind (omega (
              arith,
              later,
              sum_by-cons (λ other. if is_same_pair other pair then 1 else 0) one (credits_after (past ++ frame ∷ []) rest),
              ap {B = ℕ} (λ b. if b then 1 else 0) apart,
            ))

first-apart : (frames : List FrameValue) (pair : IdPair) → 0 < credit_count frames pair → is_same pair.tester pair.unit ≡ false
unfolding credit_count
first-apart frames pair some = credited-apart pair [] frames some

not-same : (a b : ℕ) → (a ≡ b → ⊥) → (a == b) ≡ false
not-same a b apart = by (a == b) refl
  where
    by : (c : Bool) → (a == b) ≡ c → c ≡ false
    by true is = absurd (apart (eqb-true a b is))
    by false is = refl

exchanged : (number : ℕ) → (number / 256 % 256 ≡ number % 256 → ⊥) → 0x18DA0000 + number % 256 * 256 + number / 256 % 256 ≡ number → ⊥
exchanged number apart is = apart (omega (arith, is))

partner-apart : (unit partner : Id) → partner_of unit ≡ Some partner → is_same partner unit ≡ false
partner-apart (id.Std number) partner is = by (nat_le 0x7E8 number && nat_le number 0x7EF) refl is
  where
    by : (b : Bool) → (nat_le 0x7E8 number && nat_le number 0x7EF) ≡ b → (if b then Some (id.Std (number - 8)) else None) ≡ Some partner
        → is_same partner (id.Std number) ≡ false
    by true within some =
        let here : id.Std (number - 8) ≡ partner = cc some in
        let above : 0x7E8 ≤ number = leb-true 0x7E8 number ((and_parts (nat_le 0x7E8 number) (nat_le number 0x7EF) within).0) in
        subst (λ name. is_same name (id.Std number) ≡ false) here (not-same (number - 8) number (λ e. absurd (omega (arith, e, above))))
    by false beyond some = absurd (cc some)
partner-apart (id.Ext number) partner is = by (number / 65536 == 0x18DA) is
  where
    at : (b : Bool) → (number / 256 % 256 == number % 256) ≡ b
        → (if b then None else Some (id.Ext (0x18DA0000 + number % 256 * 256 + number / 256 % 256))) ≡ Some partner
        → is_same partner (id.Ext number) ≡ false
    at true same some = absurd (cc some)
    at false apart some =
        let here : id.Ext (0x18DA0000 + number % 256 * 256 + number / 256 % 256) ≡ partner = cc some in
        subst (λ name. is_same name (id.Ext number) ≡ false) here
        (not-same (0x18DA0000 + number % 256 * 256 + number / 256 % 256) number
        (exchanged number (eqb-false (number / 256 % 256) (number % 256) apart)))

    by : (b : Bool) → (if b then (if number / 256 % 256 == number % 256 then None
        else Some (id.Ext (0x18DA0000 + number % 256 * 256 + number / 256 % 256))) else None) ≡ Some partner → is_same partner (id.Ext number) ≡ false
    by true some = at (number / 256 % 256 == number % 256) refl some
    by false some = absurd (cc some)

pub tester_is_another : TesterIsAnother
tester_is_another frames pair stands = by (partner_of pair.unit) refl stands.tester
  where
    by : (partner : Option Id) → partner_of pair.unit ≡ partner → IsTesterBeside (asking_partner frames partner) frames pair
        → is_same pair.tester pair.unit ≡ false
    by None is first = first-apart frames pair first.credited
    by (Some partner) is beside = at (request_count frames partner == 0) beside
      where
        at : (b : Bool) → IsTesterBeside (if b then None else Some partner) frames pair → is_same pair.tester pair.unit ≡ false
        at true first = first-apart frames pair first.credited
        at false is_partner = ap (λ name. is_same name pair.unit) is_partner ∙ partner-apart pair.unit partner is
