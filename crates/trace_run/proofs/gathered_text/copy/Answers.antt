-- Two stores that overlap lay each byte where it lies in the bytes that are copied.
use Rattle.std.proofs.Common.{◌≡◌, ◌≤◌, ◌-◌, ◌+◌, ℕ, List, ◌++◌, length, take, drop, arith, ap, ap₂, sym, ◌∙◌, length-drop}
use Rattle.std.proofs.lemmas.List.{take_all, take-take, take-append-drop}
use Rattle.std.proofs.lemmas.Simd.{length-chunk, length-put_chunk, take_more_put_chunk}
use lib.Lanes.{chunk, put_chunk}
use Rattle.trace_run.proofs.gathered_text.copy.Goals as goal

-- the first bytes and the last ones, as many of each, make all where they meet
ends_met : (width : ℕ) (from to : List ℕ) → length from ≡ length to → width ≤ length from → length from ≤ width + width
    → put_chunk (length from - width) (put_chunk 0 to (chunk 0 width from)) (chunk (length from - width) width from) ≡ from
ends_met width from to same some few =
    let at : ℕ = length from - width in
    let front = chunk 0 width from in
    let back = chunk at width from in
    let mid = put_chunk 0 to front in
    let front_long : length front ≡ width = length-chunk 0 width from (omega arith) in
    let back_long : length back ≡ width = length-chunk at width from (omega arith) in
    let mid_long : length mid ≡ length to = length-put_chunk 0 to front in
    let whole_long : length (put_chunk at mid back) ≡ length mid = length-put_chunk at mid back in
    let begins : take width mid ≡ front = take_more_put_chunk 0 to front width (omega arith) (omega arith) in
    let before : take at mid ≡ take at from =
    sym (take-take at width mid (omega arith)) ∙ ap (take at) begins ∙ take-take at width from (omega arith) in
    let behind : back ≡ drop at from = take_all width (drop at from) (omega (arith, length-drop at from)) in
    sym (take_all (length from) (put_chunk at mid back) (omega arith)) ∙ take_more_put_chunk at mid back (length from) (omega arith) (omega arith)
    ∙ ap₂ (λ x y. x ++ y) before behind ∙ take-append-drop at from

pub returns-then-count-le16 : goal.returns-then-count-le16
returns-then-count-le16 c = ends_met 8 c.args.from.now c.args.to.now c.requires (omega arith) (omega arith)

pub returns-then-count-lt8 : goal.returns-then-count-lt8
returns-then-count-lt8 c = ends_met 4 c.args.from.now c.args.to.now c.requires (omega arith) (omega arith)
