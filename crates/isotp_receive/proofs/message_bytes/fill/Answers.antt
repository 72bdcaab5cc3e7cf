use Rattle.std.proofs.Common.{◌≡◌, ◌-◌, ◌+◌, ◌++◌, ◌∷◌, [], replicate, vec_len, rules, arith, ap, ◌∙◌, append_assoc}
use Rattle.std.proofs.lemmas.List.{replicate-append-replicate}
use Rattle.isotp_receive.proofs.message_bytes.fill.Goals as goal

pub loop-preserved : goal.loop-preserved
loop-preserved c =
    let old = c.replace-filled.result in
    let n = c.loop.counter - vec_len old in
    let one_more : n + 1 ≡ c.loop.counter + 1 - vec_len old = omega (arith, c.len-counter.ensures, c.loop.auto.counter) in
    record {
      items = c.push_reserved.ensures.items ∙ ap (λ l. l ++ 0 ∷ []) c.loop.invariant.items ∙ append_assoc old.items (replicate n 0) (0 ∷ [])
          ∙ ap (λ l. old.items ++ l) (replicate-append-replicate n 1 0 ∙ ap (λ k. replicate k 0) one_more);
      length = search rules;
      capacity = search rules;
    }
