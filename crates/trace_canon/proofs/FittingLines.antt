-- Whether the lines of frames are within the room that there is for them.
use Rattle.std.proofs.Common.{◌≡◌, ℕ, ◌<◌, ◌≤◌, true, false, List, [], ◌∷◌, ◌++◌, length, arith, refl, ap, sym, ◌∙◌, inl, inr, length-append}
use Rattle.std.proofs.lemmas.Bool.{cases_lt}
use Rattle.can_log.specs.Log.{ended_lines}
use Rattle.direction.specs.declared.Dir.{Dir}
use Rattle.trace_log.specs.CanonicalLog.{canonical_lines}
use Rattle.trace_log.specs.Settings.{Settings}
use Rattle.trace_canon.specs.proving.Writing.{ProgressValue, after_line, line_at, text_from, progress_after}
use Rattle.trace_canon.proofs.CanonicalWriting.{text_none, progress_none, text_step, progress_step, progress_stop}

module _ (settings : Settings) where
  -- the lines of frames, all of them
  abbrev lines_of : ProgressValue → List (Dir × List ℕ) → List ℕ
  lines_of progress frames = ended_lines (canonical_lines settings progress.lines frames)

  lines_step : (progress : ProgressValue) (frame : Dir × List ℕ) (later : List (Dir × List ℕ))
      → lines_of progress (frame ∷ later)
      ≡ line_at settings progress.lines frame ++ lines_of (after_line progress (line_at settings progress.lines frame)) later
  unfolding canonical_lines
  lines_step progress frame later = refl

  lines_none : (progress : ProgressValue) → lines_of progress [] ≡ []
  unfolding canonical_lines
  lines_none progress = refl

  -- a line did not fit
  pub over_when : (progress : ProgressValue) (frames : List (Dir × List ℕ)) → progress.is_full ≡ false
      → (progress_after settings progress frames).is_full ≡ true
      → progress.room < length (lines_of progress frames)
  over_when progress [] before over = absurd (cc (progress_none settings progress))
  over_when progress (frame ∷ later) before over =
      let line = line_at settings progress.lines frame in
      let next = after_line progress line in
      let len = ap length (lines_step progress frame later) ∙ length-append line (lines_of next later) in
      elim (cases_lt progress.room (length line)) [
        | inl long ↦ omega arith
        | inr fits ↦
            let rest = over_when next later before (sym (ap (λ p. p.is_full) (progress_step settings progress frame later fits)) ∙ over) in
            omega arith
      ]

  -- all fit
  pub within_when : (progress : ProgressValue) (frames : List (Dir × List ℕ)) → progress.is_full ≡ false
      → (progress_after settings progress frames).is_full ≡ false
      → (length (lines_of progress frames) ≤ progress.room) × (text_from settings progress frames ≡ lines_of progress frames)
  within_when progress [] before within =
      let len = ap length (lines_none progress) in
      (omega arith, text_none settings progress ∙ sym (lines_none progress))
  within_when progress (frame ∷ later) before within =
      let line = line_at settings progress.lines frame in
      let next = after_line progress line in
      let len = ap length (lines_step progress frame later) ∙ length-append line (lines_of next later) in
      elim (cases_lt progress.room (length line)) [
        | inl long ↦ absurd (cc (progress_stop settings progress frame later long))
        | inr fits ↦
            let rest = within_when next later before (sym (ap (λ p. p.is_full) (progress_step settings progress frame later fits)) ∙ within) in (
              omega (arith, rest.0),
              text_step settings progress frame later fits ∙ ap (λ x. line ++ x) rest.1 ∙ sym (lines_step progress frame later),
            )
      ]
