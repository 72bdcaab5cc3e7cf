-- How many consecutive frames there are between two positions, and the least count of them that holds a message.
use Rattle.std.proofs.Common.{◌≡◌, ℕ, zero, suc, ◌+◌, ◌-◌, ◌<◌, ◌≤◌, List, [], ◌∷◌, take, drop, Some, sym, ◌∙◌, arith, inl, inr}
use Rattle.std.specs.Prelude.{slice_get}
use Rattle.std.proofs.lemmas.Bool.{cases_lt}
use Rattle.isotp_receive.specs.declared.channel.Channel.{Channel}
use Rattle.isotp_receive.specs.Trace.{Entry, At, role}
use Rattle.isotp_receive.specs.Places.{IsConsecutiveCount, consecutive_by, consecutive_frames_in, between}
use Rattle.isotp_receive.proofs.Promises.{get-drop}

-- the more frames, the more consecutive frames are among them
pub counted-more : (d : Channel) (few many : ℕ) (es : List Entry) → few ≤ many
    → consecutive_frames_in d (take few es) ≤ consecutive_frames_in d (take many es)
counted-more d zero many es most = omega arith
counted-more d (suc few) zero es most = absurd (omega arith)
counted-more d (suc few) (suc many) [] most = omega arith
counted-more d (suc few) (suc many) (e ∷ es) most = omega (arith, counted-more d few many es (omega arith))

counted-next : (d : Channel) (few many : ℕ) (es : List Entry) (e : Entry) → slice_get es few ≡ Some e → few < many
    → consecutive_frames_in d (take few es) + consecutive_by (role d e) ≤ consecutive_frames_in d (take many es)
counted-next d few many [] e at less = absurd (cc)
counted-next d zero zero (x ∷ es) e at less = absurd (omega arith)
counted-next d zero (suc many) (x ∷ es) e at less = (let same : x ≡ e = cc in rw same (omega arith))
counted-next d (suc few) zero (x ∷ es) e at less = absurd (omega arith)
counted-next d (suc few) (suc many) (x ∷ es) e at less = omega (arith, counted-next d few many es e at (omega arith))

-- a frame strictly between two positions counts
pub counted-between : (d : Channel) (T : List Entry) (begun place position : ℕ) (e : Entry) → begun < place → place < position → At T place e
    → consecutive_frames_in d (between T begun place) + consecutive_by (role d e) ≤ consecutive_frames_in d (between T begun position)
counted-between d T begun place position e later below at =
    counted-next d (place - (begun + 1)) (position - (begun + 1)) (drop (begun + 1) T) e
    (sym (get-drop (begun + 1) T (place - (begun + 1)) place (omega arith)) ∙ at) (omega arith)

-- there is one least count of consecutive frames
pub one-count : (in_first rx_dl len one two : ℕ)
    → IsConsecutiveCount in_first rx_dl len one → IsConsecutiveCount in_first rx_dl len two → one ≡ two
one-count in_first rx_dl len one two a b = elim (cases_lt one two) [
  | inl less ↦ absurd (omega (arith, a.enough, b.fewer one less))
  | inr most ↦ elim (cases_lt two one) [
    | inl less ↦ absurd (omega (arith, b.enough, a.fewer two less))
    | inr least ↦ omega arith
  ]
]
