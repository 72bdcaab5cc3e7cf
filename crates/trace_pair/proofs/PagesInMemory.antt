-- What is known of calls over devices is known of pages in memory.
use Rattle.std.proofs.Common.{◌≡◌, ◌≢◌, ℕ, List, [], ◌++◌, Result, Ok, Err, ap, sym, subst, ◌∙◌}
use Rattle.std.specs.Prelude.{IfErr, MatchResult}
use Rattle.trace_canon.specs.Compared.{fault_in}
use Rattle.trace_canon.proofs.Promises.{reads_well}
use Rattle.trace_io.specs.Written.{HasWritten}
use Rattle.trace_log.specs.Failing.{FailedIf}
use Rattle.trace_log.specs.Settings.{Settings}
use Rattle.trace_log.specs.declared.fault.CompareFault.{CompareFault}
use Rattle.trace_log.specs.declared.fault.CompareFault.TheVariants.{Left, Right}
use Rattle.trace_log.specs.declared.fault.Fault.{Fault}
use Rattle.trace_log.specs.declared.fault.Fault.TheVariants.{Memory, Read, Write}
use Rattle.trace_report.specs.Kept.{HasOwnFrame, KeepsTwo, KeptSessionsValue}
use Rattle.trace_pair.specs.InMemory.{HasNoPairPage, KeepsInMemory, IsPairPageWith, counted_two}
use Rattle.trace_pair.specs.Page.{page_of}
use Rattle.trace_pair.specs.Titles.{TitleValue}
use Rattle.trace_pair.specs.declared.in_memory.CountedPage.{CountedPage}
use Rattle.trace_pair.specs.declared.in_memory.NoPairPage.{NoPairPage}
use Rattle.trace_pair.specs.declared.in_memory.NoPairPage.TheVariants.{OfMemory}

-- what two logs say, where no device fails
pub held_in_memory : (limit : ℕ) (settings : Settings) (one other : List ℕ) (answer : Result KeptSessionsValue CompareFault)
    → FailedIf (Left Read) answer 0 0 → FailedIf (Right Read) answer 0 0 → IfErr answer (λ fault. fault_in fault ≢ Write)
    → (answer ≡ Err (Left Memory) → HasOwnFrame settings one) → (answer ≡ Err (Right Memory) → HasOwnFrame settings other)
    → KeepsTwo limit settings one other answer → KeepsInMemory limit settings one other answer
held_in_memory limit settings one other (Ok held) left right written left_refused right_refused is = is
held_in_memory limit settings one other (Err (Left fault)) left right written left_refused right_refused is =
    (is, record { no_read = λ read. reads_well left (ap (λ f. Err (Left f)) read); no_write = written; memory = λ why. left_refused (ap (λ f. Err (Left f)) why) })
held_in_memory limit settings one other (Err (Right fault)) left right written left_refused right_refused is =
    (is, record { no_read = λ read. reads_well right (ap (λ f. Err (Right f)) read); no_write = written; memory = λ why. right_refused (ap (λ f. Err (Right f)) why) })

-- a text that was printed where nothing was before
pub text_in_memory : {A : Type 0} (result : Result A Fault) (value : A) (old taken held text : List ℕ) → result ≡ Ok value → old ≡ [] → taken ≡ held
    → HasWritten result old text taken → held ≡ text
text_in_memory {A = A} result value old taken held text is old_is held_is wrote = all (subst (λ (r : Result A Fault). HasWritten r old text taken) is wrote)
  where
    all : taken ≡ old ++ text → held ≡ text
    all said = sym held_is ∙ said ∙ ap (λ xs. xs ++ text) old_is

-- the page of two logs that are held, or why there is none
pub page_of_held : (title : TitleValue) (limit : ℕ) (settings : Settings) (one other : List ℕ) (held : KeptSessionsValue) (result : Result CountedPage NoPairPage) → KeepsTwo limit settings one other (Ok held)
    → MatchResult result (λ page. (page.text.items ≡ page_of title held.left held.right) × (page.counted ≡ counted_two held)) (λ why. why ≡ OfMemory)
    → MatchResult result (λ page. IsPairPageWith title limit settings one other page.text.items page.counted) (HasNoPairPage limit settings one other)
page_of_held title limit settings one other held (Ok page) holds is = (held, holds, is.0, is.1)
page_of_held title limit settings one other held (Err why) holds is = subst (λ (w : NoPairPage). HasNoPairPage limit settings one other w) (sym is) (held, holds)
