-- A log that is read piece by piece from a source.
use Rattle.std.proofs.Common.{◌≡◌, ℕ, ◌+◌, ◌-◌, ◌<◌, ◌≤◌, Bool, true, false, nat_lt, ◌==◌, ◌&&◌, List, [], ◌++◌, length, take, drop, arith, refl, ap, sym, subst, ◌∙◌}
use Rattle.std.proofs.Common.{Option, Some, None, Result, Ok, Err, append-nil, append_assoc, length-append}
use Rattle.std.proofs.lemmas.List.{length-take-le, take-append-le, take-append-drop, append_cancel_left}
use Rattle.std.proofs.Math.Seq.{take-append_seam}
use Rattle.std.proofs.lemmas.Bool.{lt-ltb, eqb-true, and_parts}
use Rattle.std.specs.Prelude.{OnOk}
use Rattle.std.specs.Io.KnownBytes.{Consumes}
use Rattle.can_log.specs.Log.{log_lines, LogMeans}
use Rattle.can_log.specs.Scanning.{Standing}
use Rattle.can_log.proofs.Promises.{lines_mean_as_many}
use Rattle.trace_log.proofs.LogLines.{lines_are_few, ended_log_lines}
use Rattle.can_log.specs.WholeLog.{StandsAfter}
use Rattle.can_log.specs.declared.frame.Stamped.{Stamped}
use Rattle.trace_io.specs.Stream.{Agrees, Gave}
use Rattle.trace_log.specs.Answers.{piece_length, ReadsWhile}
use Rattle.trace_log.specs.Feeding.{Took, TakesFront}

-- `left` bytes are left of the limit of the log; those before were scanned, and their lines taken.
pub record HasTaken {T : Type 0} (took : Took T) (start : T) (bytes : List ℕ) (limit left : ℕ) (standing : Standing) (now : T) : Type 0 where
  pub meanings : List (Option Stamped)
  pub stands : StandsAfter bytes meanings standing
  pub taken : took start meanings now
  pub counted : length bytes + left ≡ limit

-- ---- what was given

pub consumes_none : (known : Option (List ℕ)) → Consumes known known []
consumes_none None = tt
consumes_none (Some bytes) = refl

pub consumes_more : (old mid new : Option (List ℕ)) (bytes piece : List ℕ) → Consumes old mid bytes → Consumes mid new piece → Consumes old new (bytes ++ piece)
consumes_more None mid new bytes piece first then = tt
consumes_more (Some xs) None new bytes piece first then = absurd first
consumes_more (Some xs) (Some ys) None bytes piece first then = absurd then
consumes_more (Some xs) (Some ys) (Some zs) bytes piece first then = first ∙ ap (λ x. bytes ++ x) then ∙ sym (append_assoc bytes piece zs)

-- nothing yet
abbrev pub gave_nothing : (given : List ℕ) (remaining : Option (List ℕ)) → Gave given given remaining remaining
gave_nothing given remaining = record { bytes = []; grown = sym (append-nil given); told = consumes_none remaining }

-- a piece more
pub grown_more : {mid new : List ℕ} (old bytes piece : List ℕ) → mid ≡ old ++ bytes → new ≡ mid ++ piece → new ≡ old ++ (bytes ++ piece)
grown_more old bytes piece first then = then ∙ ap (λ x. x ++ piece) first ∙ append_assoc old bytes piece

abbrev pub gave_more : {old mid new : List ℕ} {told told_then told_now : Option (List ℕ)} (piece : List ℕ) → Gave old mid told told_then
    → new ≡ mid ++ piece → Consumes told_then told_now piece → Gave old new told told_now
gave_more {old = old} {told = told} {told_then = told_then} {told_now = told_now} piece gave grown consumed = record {
  bytes = gave.bytes ++ piece;
  grown = grown_more old gave.bytes piece gave.grown grown;
  told = consumes_more told told_then told_now gave.bytes piece gave.told consumed;
}

-- nothing more, at a read of no byte
pub grown_none : {mid new : List ℕ} (old bytes buf : List ℕ) (n : ℕ) → mid ≡ old ++ bytes → new ≡ mid ++ take n buf → n ≡ 0 → new ≡ old ++ bytes
grown_none {mid = mid} old bytes buf n first then none = then ∙ ap (λ k. mid ++ take k buf) none ∙ append-nil mid ∙ first

-- A log of which these bytes are all that was given, from the history `old` on up to `new`.
pub record IsLogOf (old new bytes log : List ℕ) (is_over : Bool) : Type 0 where
  pub rest : List ℕ
  pub parts : log ≡ bytes ++ rest
  pub front : bytes ≡ take (length bytes) log
  pub long : length bytes ≤ length log
  pub count : length new - length old ≡ length bytes
  pub whole : is_over ≡ true → bytes ≡ log

pub log_of : {old new bytes log : List ℕ} {is_over : Bool} → new ≡ old ++ bytes → Agrees old new is_over log → IsLogOf old new bytes log is_over
log_of {old = old} {new = new} {bytes = bytes} {log = log} grown agrees =
    let parts : log ≡ bytes ++ agrees.rest =
    append_cancel_left old log (bytes ++ agrees.rest) (agrees.parts ∙ ap (λ x. x ++ agrees.rest) grown ∙ append_assoc old bytes agrees.rest) in
    record {
      rest = agrees.rest;
      parts = parts;
      front = sym (ap (take (length bytes)) parts ∙ take-append_seam bytes agrees.rest);
      long = (let len = ap length parts ∙ length-append bytes agrees.rest in omega arith);
      count = (let len = ap length grown ∙ length-append old bytes in omega arith);
      whole = λ over. sym (parts ∙ ap (λ x. bytes ++ x) (agrees.whole over) ∙ append-nil bytes);
    }

-- the first of the bytes
pub front_of_log : {old new log : List ℕ} {is_over : Bool} (bytes piece : List ℕ) → IsLogOf old new (bytes ++ piece) log is_over → bytes ≡ take (length bytes) log
front_of_log bytes piece is =
    sym (ap (take (length bytes)) (is.parts ∙ append_assoc bytes piece is.rest) ∙ take-append_seam bytes (piece ++ is.rest))

-- a read with room that gave nothing
pub over_is : (n room : ℕ) → n ≡ 0 → 0 < room → (n == 0 && nat_lt 0 room) ≡ true
over_is n room none some = subst (λ k. (k == 0 && nat_lt 0 room) ≡ true) (sym none) (lt-ltb 0 room some)

pub when_ok : {A E P : Type 0} (result : Result A E) → P → OnOk result P
when_ok (Ok value) p = p
when_ok (Err fault) p = tt

-- a read that failed, or gave something, does not tell the end
pub not_over : {P : Type 0} (over : Bool) → over ≡ false → over ≡ true → P
not_over over one other = absurd (cc)

pub some_not_over : {P : Type 0} (over : Bool) (n room : ℕ) → over ≡ (n == 0 && nat_lt 0 room) → 0 < n → over ≡ true → P
some_not_over over n room is some ended =
    let none = eqb-true n 0 (and_parts (n == 0) (nat_lt 0 room) (sym is ∙ ended)).0 in
    absurd (omega arith)

-- at a read all that had come before was taken, and one piece at most came after
pub reads_near : {T : Type 0} {took : Took T} {start now : T} {bytes log : List ℕ} {m left given failures failures_now : ℕ} {standing : Standing}
    → HasTaken took start bytes m left standing now → bytes ≡ take (length bytes) log
    → given + left ≤ m + piece_length → (failures < failures_now → given + left ≤ m)
    → ReadsWhile (TakesFront took start log) given failures failures_now
reads_near {took = took} {start = start} {now = now} {bytes = bytes} {log = log} {m = m} {given = given} {standing = standing} has front few failed =
    let size = length bytes in
    let counted = has.counted in
    let takes : (count : ℕ) → count ≤ size → TakesFront took start log count =
    λ count within. record {
      front = bytes;
      rest = drop size log;
      meanings = has.meanings;
      standing = standing;
      now = now;
      parts = sym (take-append-drop size log) ∙ ap (λ x. x ++ drop size log) (sym front);
      stands = has.stands;
      taken = has.taken;
      long = within;
    } in
    record {
      before_piece = takes (given - piece_length) (omega arith);
      before_failure = λ risen. (let short = failed risen in takes given (omega arith));
    }

-- a log has few lines
pub few_in_log : (log : List ℕ) (meanings : List (Option Stamped)) → LogMeans log meanings → length meanings ≤ length log + 1
few_in_log log meanings means =
    let same = lines_mean_as_many (log_lines log) meanings means in
    let few = lines_are_few (log_lines log) in
    let ended = ended_log_lines log in
    omega arith

-- the bytes that a read put into the front of a buffer
pub piece_of : (n : ℕ) (front rest : List ℕ) → n ≤ length front → (take n (front ++ rest) ≡ take n front) × (length (take n (front ++ rest)) ≡ n)
piece_of n front rest within = (take-append-le n front rest within, ap length (take-append-le n front rest within) ∙ length-take-le n front within)

-- the first `given` bytes of a log are these
pub at_count : (P : List ℕ → Type 0) (bytes log : List ℕ) (given : ℕ) → bytes ≡ take (length bytes) log → given ≡ length bytes → P bytes → P (take given log)
at_count P bytes log given front count p = subst P (front ∙ ap (λ k. take k log) (sym count)) p

-- a source agrees with the bytes that it gave
pub given_agrees : {old new : List ℕ} {is_over : Bool} {remaining remaining_now : Option (List ℕ)} → (gave : Gave old new remaining remaining_now) → Agrees old new is_over gave.bytes
given_agrees {new = new} gave = record { rest = []; parts = sym gave.grown ∙ sym (append-nil new); whole = λ over. refl }
