-- What was read of a log that lies in memory, and the text that was gathered of it there.
use Rattle.std.proofs.Common.{◌≡◌, ◌≢◌, ℕ, ◌+◌, true, false, List, [], ◌++◌}
use Rattle.std.proofs.Common.{Some, Result, Ok, Err, arith, refl, ap, sym, subst, ◌∙◌}
use Rattle.std.specs.Io.KnownBytes.{IsAtEnd}
use Rattle.std.specs.Prelude.{MatchResult}
use Rattle.trace_io.specs.Counted.{BytesInMemory}
use Rattle.trace_io.specs.Stream.{Agrees, Gave, Took}
use Rattle.trace_io.proofs.Promises.{agrees_with_told}
use Rattle.trace_log.specs.declared.fault.Fault.{Fault}
use Rattle.trace_log.specs.declared.fault.Fault.TheVariants.{BadLine, Oversize, LogLimit, OutputLimit, Read, Write, Memory}
use Rattle.trace_log.specs.declared.summary.Summary.{Summary}
use Rattle.trace_log.specs.Failing.{FailedIf}
use Rattle.trace_canon.specs.InMemory.{IsOfMemory}
use Rattle.trace_canon.specs.InMemory.{fault_in_memory}

-- bytes of which none was read
abbrev pub unread : List ℕ → BytesInMemory
unread log = record { rest = log; reads = 0; is_over = false; given = [] }

-- what was read of them agrees with them
pub agrees_in_memory : (log : List ℕ) (before after : BytesInMemory) → before ≡ unread log
    → Gave before.given after.given (Some before.rest) (Some after.rest)
    → ((before.is_over ≡ true → IsAtEnd (Some before.rest)) → after.is_over ≡ true → IsAtEnd (Some after.rest))
    → Agrees before.given after.given after.is_over log
agrees_in_memory log before after is =
    subst (λ (b : BytesInMemory). Gave b.given after.given (Some b.rest) (Some after.rest)
    → ((b.is_over ≡ true → IsAtEnd (Some b.rest)) → after.is_over ≡ true → IsAtEnd (Some after.rest))
    → Agrees b.given after.given after.is_over log) (sym is)
    (λ gave ended.
    agrees_with_told [] after.given log after.is_over (Some after.rest) gave (ended (λ wrong. absurd (cc wrong))))

-- where nothing was gathered before, what is gathered is what was taken
pub taken_is_gathered : {taken gathered old before : List ℕ} → old ≡ [] → before ≡ []
    → Took old taken (Some before) (Some gathered) → taken ≡ gathered
taken_is_gathered {gathered = gathered} {old = old} {before = before} old_is before_is took =
    took.grown ∙ ap (λ xs. xs ++ took.bytes) (old_is ∙ sym before_is) ∙ sym took.held

-- A call that answers so read this log, which lies in memory, and what it wrote was gathered there as this text.
pub record RanInMemory {A : Type 0} (log text : List ℕ) (before after : BytesInMemory) (old taken : List ℕ)
    (answer : Result A Fault) : Type 0 where
  pub agrees : Agrees before.given after.given after.is_over log
  pub blank : old ≡ []
  pub gathered : taken ≡ text
  pub read : FailedIf Read answer 0 0

-- so it is, by what is known of its devices
pub ran_in_memory : {A : Type 0} (answer : Result A Fault) (log text : List ℕ) (before after : BytesInMemory)
    {old taken held held_now : List ℕ} → before ≡ unread log
    → Gave before.given after.given (Some before.rest) (Some after.rest)
    → ((before.is_over ≡ true → IsAtEnd (Some before.rest)) → after.is_over ≡ true → IsAtEnd (Some after.rest))
    → FailedIf Read answer 0 0 → old ≡ [] → held ≡ [] → Took old taken (Some held) (Some held_now) → held_now ≡ text
    → RanInMemory log text before after old taken answer
ran_in_memory answer log text before after is gave ended failed old_is held_is took text_is = record {
  agrees = agrees_in_memory log before after is gave ended;
  blank = old_is;
  gathered = taken_is_gathered old_is held_is took ∙ text_is;
  read = failed;
}

-- no read of memory fails
pub reads_well : {A E : Type 0} {read : E} {answer : Result A E} → FailedIf read answer 0 0 → answer ≢ Err read
reads_well failed is = let rose : 0 ≡ 0 + 1 = failed.risen is in absurd (omega (arith, rose))

-- What is known of a fault, and of refused memory, is known of the fault in memory: where memory was refused or a write
-- failed, some is needed.
pub known : (IsFault : Fault → Type 0) (NeedsMemory : Type 0) (fault : Fault) → IsFault Memory → IsFault fault
    → fault ≢ Read → (fault ≡ Memory → NeedsMemory) → (fault ≡ Write → NeedsMemory)
    → IsFault (fault_in_memory fault) × IsOfMemory NeedsMemory (fault_in_memory fault)
known IsFault NeedsMemory (BadLine line column) memory is not refused unwritten = (
  is,
  record {
    no_read = λ wrong. absurd (cc wrong);
    no_write = λ wrong. absurd (cc wrong);
    memory = λ wrong. absurd (cc wrong);
  },
)
known IsFault NeedsMemory (Oversize line announced) memory is not refused unwritten = (
  is,
  record {
    no_read = λ wrong. absurd (cc wrong);
    no_write = λ wrong. absurd (cc wrong);
    memory = λ wrong. absurd (cc wrong);
  },
)
known IsFault NeedsMemory LogLimit memory is not refused unwritten = (
  is,
  record {
    no_read = λ wrong. absurd (cc wrong);
    no_write = λ wrong. absurd (cc wrong);
    memory = λ wrong. absurd (cc wrong);
  },
)
known IsFault NeedsMemory OutputLimit memory is not refused unwritten = (
  is,
  record {
    no_read = λ wrong. absurd (cc wrong);
    no_write = λ wrong. absurd (cc wrong);
    memory = λ wrong. absurd (cc wrong);
  },
)
known IsFault NeedsMemory Read memory is not refused unwritten = absurd (not refl)
known IsFault NeedsMemory Write memory is not refused unwritten = (
  memory,
  record {
    no_read = λ wrong. absurd (cc wrong);
    no_write = λ wrong. absurd (cc wrong);
    memory = λ _. unwritten refl;
  },
)
known IsFault NeedsMemory Memory memory is not refused unwritten = (
  memory,
  record {
    no_read = λ wrong. absurd (cc wrong);
    no_write = λ wrong. absurd (cc wrong);
    memory = λ _. refused refl;
  },
)

-- So an answer over devices is one over memory: what it says of the text and the counts, and of a fault, is said of
-- what was gathered.
pub gathered : {C : Type 0} (IsCounted : C → Type 0) (IsFault : Fault → Type 0) (counted_with : Summary → C)
    (answer : Result Summary Fault) (result : Result C Fault)
    → MatchResult answer (λ summary. IsCounted (counted_with summary)) (λ fault. IsFault (fault_in_memory fault))
    → MatchResult answer (λ summary. result ≡ Ok (counted_with summary)) (λ fault. result ≡ Err (fault_in_memory fault))
    → MatchResult result IsCounted IsFault
gathered {C = C} IsCounted IsFault counted_with (Ok summary) result is gives =
    subst (λ (r : Result C Fault). MatchResult r IsCounted IsFault) (sym gives) is
gathered {C = C} IsCounted IsFault counted_with (Err fault) result is gives =
    subst (λ (r : Result C Fault). MatchResult r IsCounted IsFault) (sym gives) is
