-- What is known of calls over devices is known of a difference in memory.
use Rattle.std.proofs.Common.{◌≡◌, ◌≢◌, ◌<◌, ◌⊎◌, ℕ, Bool, List, [], ◌∷◌, ◌++◌, Result, Ok, Err, inl, inr, arith, refl, ap, length, sym, subst, ◌∙◌}
use Rattle.std.specs.Prelude.{IfErr}
use Rattle.trace_canon.specs.Compared.{Compares, fault_in}
use Rattle.trace_canon.specs.InMemory.{counted_comparison}
use Rattle.trace_canon.specs.MemoryNeeded.{NeedsMemoryToCollect}
use Rattle.trace_canon.specs.declared.collector.Session.{Session}
use Rattle.trace_canon.specs.declared.comparer.Compared.{Compared}
use Rattle.trace_canon.specs.declared.in_memory.CountedComparison.{CountedComparison}
use Rattle.trace_canon.proofs.Promises.{reads_well}
use Rattle.trace_io.specs.Written.{HasWritten}
use Rattle.trace_log.specs.Failing.{FailedIf}
use Rattle.trace_log.specs.Settings.{Settings}
use Rattle.trace_log.specs.declared.fault.CompareFault.{CompareFault}
use Rattle.trace_log.specs.declared.fault.CompareFault.TheVariants.{Left, Right}
use Rattle.trace_log.specs.declared.fault.Fault.{Fault}
use Rattle.trace_log.specs.declared.fault.Fault.TheVariants.{Memory, Read, Write}
use Rattle.trace_text.specs.declared.notation.Notation.{Notation}
use Rattle.trace_text.specs.declared.notation.Notation.TheVariants.{Text, Json}
use Rattle.uds_difference.specs.Rows.{is_shortest, rows_of}
use Rattle.uds_difference.specs.declared.row.Row.{Row}
use Rattle.uds_exchange.specs.Meaning.{ItemValue}
use Rattle.uds_rules.specs.Rule.{RuleValue}
use Rattle.trace_difference.specs.InMemory.{ComparesInMemory, HasItems, HasNoDifferenceText, IsDifferenceWith, NeedsMemoryForText}
use Rattle.trace_difference.specs.Written.{difference_text, written_rows}
use Rattle.trace_difference.proofs.EqualSessions.{nothing_is_written_of_equal_sessions}

-- what two logs are to each other, where no device fails
pub compared_in_memory : (limit : ℕ) (settings : Settings) (one other : List ℕ) (answer : Result Compared CompareFault)
    → FailedIf (Left Read) answer 0 0 → FailedIf (Right Read) answer 0 0 → IfErr answer (λ fault. fault_in fault ≢ Write)
    → (answer ≡ Err (Left Memory) → NeedsMemoryToCollect limit settings one) → (answer ≡ Err (Right Memory) → NeedsMemoryToCollect limit settings other)
    → Compares limit settings one other answer → ComparesInMemory limit settings one other answer
compared_in_memory limit settings one other (Ok compared) left right written left_refused right_refused is = is
compared_in_memory limit settings one other (Err (Left fault)) left right written left_refused right_refused is =
    (is, record { no_read = λ read. reads_well left (ap (λ f. Err (Left f)) read); no_write = written; memory = λ why. left_refused (ap (λ f. Err (Left f)) why) })
compared_in_memory limit settings one other (Err (Right fault)) left right written left_refused right_refused is =
    (is, record { no_read = λ read. reads_well right (ap (λ f. Err (Right f)) read); no_write = written; memory = λ why. right_refused (ap (λ f. Err (Right f)) why) })

-- a text that was printed where nothing was before
pub text_in_memory : {A : Type 0} (result : Result A Fault) (value : A) (old taken held text : List ℕ) → result ≡ Ok value → old ≡ [] → taken ≡ held
    → HasWritten result old text taken → held ≡ text
text_in_memory {A = A} result value old taken held text is old_is held_is wrote = all (subst (λ (r : Result A Fault). HasWritten r old text taken) is wrote)
  where
    all : taken ≡ old ++ text → held ≡ text
    all said = sym held_is ∙ said ∙ ap (λ xs. xs ++ text) old_is

-- the text of a difference, by the rows that were found
pub difference_is : (rules : List RuleValue) (notation : Notation) (left_name right_name : List ℕ) (shortest : Bool) (rows : List Row) (left right : Session)
    → shortest ≡ is_shortest left.meaning right.meaning → rows ≡ rows_of left.meaning right.meaning
    → written_rows rules notation left_name right_name shortest rows left right ≡ difference_text rules notation left_name right_name left right
difference_is rules notation left_name right_name shortest rows left right told found = rw (told, found) refl

-- the text of where two logs differ that were compared
pub difference_of : (notation : Notation) (left_name right_name : List ℕ) (limit : ℕ) (settings : Settings) (one other text : List ℕ) (answer : Result Compared CompareFault) (compared : Compared)
    (counted : CountedComparison) → answer ≡ Ok compared → ComparesInMemory limit settings one other answer
    → text ≡ difference_text settings.rules notation left_name right_name compared.left compared.right → counted ≡ counted_comparison compared
    → IsDifferenceWith notation left_name right_name limit settings one other text counted
difference_of notation left_name right_name limit settings one other text answer compared counted is compares said counts =
    (compared, subst (ComparesInMemory limit settings one other) is compares, said, counts)

-- memory is needed for the text where one of both logs means an item
pub needed_of_items : (notation : Notation) (compared : Compared) → HasItems compared → NeedsMemoryForText notation compared
needed_of_items Text compared some = some
needed_of_items Json compared some = tt

-- one of two sessions has an item where there is something to write of them in words
some_item : (rules : List RuleValue) (left_name right_name : List ℕ) (left right : Session)
    → 0 < length (difference_text rules Text left_name right_name left right) → (left.meaning ≢ []) ⊎ (right.meaning ≢ [])
some_item rules left_name right_name left right some = by_items left.meaning right.meaning refl refl
  where
    never : {A : Type 0} → 0 < 0 → A
    never low = absurd (omega (arith, low))

    by_items : (xs ys : List ItemValue) → left.meaning ≡ xs → right.meaning ≡ ys → (left.meaning ≢ []) ⊎ (right.meaning ≢ [])
    by_items (x ∷ xs) ys ours theirs = inl (λ is. cc)
    by_items [] (y ∷ ys) ours theirs = inr (λ is. cc)
    by_items [] [] ours theirs =
        let none = (nothing_is_written_of_equal_sessions rules left_name right_name left right).0 (ours ∙ sym theirs) in
        never (subst (λ (text : List ℕ). 0 < length text) none some)

-- and where the text has a byte
needed_of_text : (rules : List RuleValue) (notation : Notation) (left_name right_name : List ℕ) (compared : Compared)
    → 0 < length (difference_text rules notation left_name right_name compared.left compared.right)
    → NeedsMemoryForText notation compared
needed_of_text rules Text left_name right_name compared some = some_item rules left_name right_name compared.left compared.right some
needed_of_text rules Json left_name right_name compared some = tt

-- memory is needed for a text that was refused, since that has a byte
pub needed_where_refused : {A E : Type 0} (rules : List RuleValue) (notation : Notation) (left_name right_name text : List ℕ) (compared : Compared) (result : Result A E)
    → text ≡ difference_text rules notation left_name right_name compared.left compared.right → IfErr result (λ refused. 0 < length text)
    → IfErr result (λ refused. NeedsMemoryForText notation compared)
needed_where_refused rules notation left_name right_name text compared (Ok value) is some = tt
needed_where_refused rules notation left_name right_name text compared (Err refused) is some =
    needed_of_text rules notation left_name right_name compared (subst (λ (t : List ℕ). 0 < length t) is some)

-- two accepted logs have no text where memory for it was refused
pub none_where_refused : (notation : Notation) (limit : ℕ) (settings : Settings) (one other : List ℕ) (answer : Result Compared CompareFault) (compared : Compared) → answer ≡ Ok compared
    → ComparesInMemory limit settings one other answer → NeedsMemoryForText notation compared → HasNoDifferenceText notation limit settings one other (Right Memory)
none_where_refused notation limit settings one other answer compared is compares needed = inr (refl, (compared, subst (ComparesInMemory limit settings one other) is compares, needed))
