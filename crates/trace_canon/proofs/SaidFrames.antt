-- Frames said as canonical lines, one after another, as far as there is room.
use Rattle.std.proofs.Common.{◌≡◌, ℕ, ◌<◌, ◌≤◌, List, [], ◌∷◌, ◌++◌, length, refl, ap, sym, subst, ◌∙◌, append-nil, append_assoc}
use Rattle.direction.specs.declared.Dir.{Dir}
use Rattle.trace_log.specs.Settings.{Settings}
use Rattle.trace_canon.specs.proving.Saying.{SaysFront}
use Rattle.trace_canon.specs.proving.Writing.{ProgressValue, after_line, filled_up, line_at, text_from, progress_after}
use Rattle.trace_canon.proofs.CanonicalWriting.{text_step, progress_step, text_stop, progress_stop, text_full, progress_full}

module _ {S : Type 0} (says : S → List ℕ → S → Type 0) (nothing : (s : S) → says s [] s)
    (onward : (s m t : S) (a b : List ℕ) → says s a m → says m b t → says s (a ++ b) t) (settings : Settings) where
  -- none yet
  pub none_said : (progress : ProgressValue) (out : S) (frames : List (Dir × List ℕ))
      → SaysFront says settings progress out frames progress out frames
  none_said progress out frames = record { said = ([], refl, nothing out); stands = refl }

  -- some, and then more
  pub more_said : (p q now r : ProgressValue) (s t u : S) (xs ys left zs : List (Dir × List ℕ))
      → SaysFront says settings p s xs q t ys → ys ≡ left → now ≡ q
      → SaysFront says settings now t left r u zs → SaysFront says settings p s xs r u zs
  more_said p q now r s t u xs ys left zs one same here more =
      let two = subst (λ fs. SaysFront says settings q t fs r u zs) (sym same) (subst (λ k. SaysFront says settings k t left r u zs) here more) in
      let first = one.said in
      let second = two.said in
      record {
        said = (
          first.0 ++ second.0,
          first.1 ∙ ap (λ x. first.0 ++ x) second.1 ∙ sym (append_assoc first.0 second.0 (text_from settings r zs)),
          onward s t u first.0 second.0 first.2 second.2,
        );
        stands = one.stands ∙ two.stands;
      }

  -- a frame whose line fits
  pub line_said : (progress : ProgressValue) (out out_now : S) (frame : Dir × List ℕ) (later : List (Dir × List ℕ)) (line : List ℕ)
      → line ≡ line_at settings progress.lines frame → length line ≤ progress.room → says out line out_now
      → SaysFront says settings progress out (frame ∷ later) (after_line progress line) out_now later
  line_said progress out out_now frame later line is fits said =
      let room = subst (λ (l : List ℕ). length l ≤ progress.room) is fits in
      record {
        said = (
          line,
          text_step settings progress frame later room ∙ ap (λ (l : List ℕ). l ++ text_from settings (after_line progress l) later) (sym is),
          said,
        );
        stands =
            progress_step settings progress frame later room
            ∙ ap (λ (l : List ℕ). progress_after settings (after_line progress l) later) (sym is);
      }

  -- a frame whose line does not
  pub line_stops : (progress : ProgressValue) (out : S) (frame : Dir × List ℕ) (later : List (Dir × List ℕ))
      → progress.room < length (line_at settings progress.lines frame)
      → SaysFront says settings progress out (frame ∷ later) (filled_up progress) out later
  line_stops progress out frame later over = record {
    said = ([], text_stop settings progress frame later over ∙ sym (text_full settings (filled_up progress) later refl), nothing out);
    stands = progress_stop settings progress frame later over ∙ sym (progress_full settings progress later);
  }

  -- all of them, where nothing of what is left is said
  pub all_lines_said : (p q : ProgressValue) (s t : S) (frames left : List (Dir × List ℕ)) → text_from settings q left ≡ []
      → SaysFront says settings p s frames q t left
      → says s (text_from settings p frames) t
  all_lines_said p q s t frames left none front =
      let said = front.said in
      subst (λ (x : List ℕ). says s x t) (sym (said.1 ∙ ap (λ x. said.0 ++ x) none ∙ append-nil said.0)) said.2
