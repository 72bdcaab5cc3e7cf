-- What a list of frames counts, carries, refers to and keeps: with one more frame, and of two lists joined.
use Rattle.std.proofs.Common.{◌≡◌, ℕ, ◌+◌, ◌&&◌, true, List, [], ◌∷◌, ◌++◌, refl, sym, ◌∙◌, ap, arith, append_assoc}
use Rattle.std.proofs.lemmas.List.{append-nil}
use Rattle.std.proofs.Math.Bool.{and-true, and_assoc}
use Rattle.std.proofs.lemmas.Bool.{and_parts, and_from}
use Rattle.isotp_receive.specs.declared.channel.Channel.{Channel}
use Rattle.isotp_receive.specs.Trace.{Entry, FirstFrame, role}
use Rattle.isotp_receive.specs.Places.{consecutive_by, consecutive_frames_in}
use Rattle.isotp_receive.specs.StandingReception.{carried_by, carried, referred, reference, keeps_by, keep}

pub taken-append : (d : Channel) (xs ys : List Entry) → consecutive_frames_in d (xs ++ ys) ≡ consecutive_frames_in d xs + consecutive_frames_in d ys
taken-append d [] ys = omega arith
taken-append d (x ∷ xs) ys = omega (arith, taken-append d xs ys)

pub taken-snoc : (d : Channel) (es : List Entry) (e : Entry) → consecutive_frames_in d (es ++ e ∷ []) ≡ consecutive_frames_in d es + consecutive_by (role d e)
taken-snoc d es e = omega (arith, taken-append d es (e ∷ []))

pub carried-snoc : (d : Channel) (es : List Entry) (e : Entry) → carried d (es ++ e ∷ []) ≡ carried d es ++ carried_by (role d e)
carried-snoc d [] e = append-nil _
carried-snoc d (x ∷ es) e =
    ap (λ c. carried_by (role d x) ++ c) (carried-snoc d es e)
    ∙ sym (append_assoc (carried_by (role d x)) (carried d es) (carried_by (role d e)))

pub reference-snoc : (d : Channel) (t : ℕ) (es : List Entry) (e : Entry) → reference d t (es ++ e ∷ []) ≡ referred (role d e) e.micros (reference d t es)
reference-snoc d t [] e = refl
reference-snoc d t (x ∷ es) e = reference-snoc d (referred (role d x) x.micros t) es e

pub keep-snoc : (d : Channel) (s : FirstFrame) (past es : List Entry) (e : Entry)
    → keep d s past (es ++ e ∷ []) ≡ (keep d s past es && keeps_by d s (past ++ es) e.micros (role d e))
keep-snoc d s past [] e = and-true _ ∙ ap (λ p. keeps_by d s p e.micros (role d e)) (sym (append-nil past))
keep-snoc d s past (x ∷ es) e =
    let here = keeps_by d s past x.micros (role d x) in
    let behind = keep d s (past ++ x ∷ []) es in
    ap (λ b. here && b) (keep-snoc d s (past ++ x ∷ []) es e)
    ∙ sym (and_assoc here behind (keeps_by d s ((past ++ x ∷ []) ++ es) e.micros (role d e)))
    ∙ ap (λ p. (here && behind) && keeps_by d s p e.micros (role d e)) (append_assoc past (x ∷ []) es)

-- what is kept by a list is kept by the first of it
pub keep-front : (d : Channel) (s : FirstFrame) (past xs ys : List Entry) → keep d s past (xs ++ ys) ≡ true → keep d s past xs ≡ true
keep-front d s past [] ys h = refl
keep-front d s past (x ∷ xs) ys h =
    let parts = and_parts (keeps_by d s past x.micros (role d x)) _ h in
    and_from _ _ parts.0 (keep-front d s (past ++ x ∷ []) xs ys parts.1)
