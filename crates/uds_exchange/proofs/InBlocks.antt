-- Messages that lie in blocks, which only go on.
use Rattle.std.proofs.Common.{◌≡◌, ℕ, ◌+◌, ◌<◌, suc, zero, List, [], ◌∷◌, ◌++◌, length, drop, get_or, refl, sym, subst, ◌∙◌, ap}
use Rattle.std.proofs.Common.{inl, inr, arith, append-nil, length-append, length-drop, length-set, get_or-set_same, get_or-set_other}
use Rattle.std.specs.Prelude.{slice_set, Vec}
use Rattle.std.specs.declared.alloc.Global.{Global}
use Rattle.std.proofs.lemmas.Bool.{cases_eq}
use Rattle.std.proofs.lemmas.List.{take-append-le, drop-append-le, drop_at, take_all, map-set, get_or-map, set-get_or, length-map}
use Rattle.uds_exchange.specs.declared.messages.Span.{Span}
use Rattle.uds_exchange.specs.Blocks.{block_at, bytes_at, IsInside, Holds, GoesOn, Lays}
use Rattle.uds_exchange.specs.proving.Blocks.{block_bytes, IsSpan}

-- one block goes on, or there is one more
set-goes-on : (old : List (List ℕ)) (k : ℕ) (more : List ℕ) → k < length old → GoesOn old (slice_set old k (block_at old k ++ more))
set-goes-on old k more below = record {
  blocks = omega (arith, length-set old k (block_at old k ++ more));
  bytes = λ n. elim (cases_eq n k) [
    | inl e ↦ (
      more,
      subst (λ i. block_at (slice_set old k (block_at old k ++ more)) i ≡ block_at old i ++ more) (sym e)
          (get_or-set_same old k (block_at old k ++ more) [] below),
    )
    | inr d ↦ ([], get_or-set_other old k n (block_at old k ++ more) [] d ∙ sym (append-nil (block_at old n)))
  ];
}

pushed-at : (old : List (List ℕ)) (one : List ℕ) (n : ℕ) → (more : List ℕ) × (block_at (old ++ one ∷ []) n ≡ block_at old n ++ more)
pushed-at [] one n = (block_at (one ∷ []) n, refl)
pushed-at (first ∷ later) one zero = ([], sym (append-nil first))
pushed-at (first ∷ later) one (suc n) = pushed-at later one n

push-goes-on : (old : List (List ℕ)) (one : List ℕ) → GoesOn old (old ++ one ∷ [])
push-goes-on old one = record { blocks = omega (arith, length-append old (one ∷ [])); bytes = pushed-at old one }

at-length : (old : List (List ℕ)) (one : List ℕ) → block_at (old ++ one ∷ []) (length old) ≡ one
at-length [] one = refl
at-length (first ∷ later) one = at-length later one

-- what lies at the end of a block
holds-behind : (blocks : List (List ℕ)) (span : Span) (front message : List ℕ) → span.block < length blocks
    → block_at blocks span.block ≡ front ++ message
    → span.start ≡ length front → span.len ≡ length message → Holds blocks span message
holds-behind blocks span front message below is start len = record {
  inside = record { block = below; end = omega (arith, ap length is, length-append front message, start, len) };
  bytes = rw (is, start, len) (rw (drop_at front message (length front) refl) (take_all (length message) message (omega arith)));
}

-- a message behind what is in the first block
pub lays-in-first : (first : List ℕ) (later : List (List ℕ)) (number : ℕ) (span : Span) (message new : List ℕ) → number ≡ 0 → new ≡ first ++ message
    → IsSpan span number (length first) (length message) → Lays (first ∷ later) span message (new ∷ later)
lays-in-first first later number span message new zeroth is at = record {
  goes_on = rw is (set-goes-on (first ∷ later) 0 message (omega arith));
  holds = holds-behind (new ∷ later) span first message (omega (arith, at.block, zeroth)) (rw (at.block, zeroth, is) refl) at.start at.len;
}

-- a message behind what is in a later one
module _ (first : Vec ℕ Global) (later : List (Vec ℕ Global)) (k : ℕ) (below : k < length later) (block new : Vec ℕ Global)
    (there : block ≡ get_or later k block) where
  set-bytes : block_bytes (slice_set later k new) ≡ slice_set (block_bytes later) k new.items
  set-bytes = map-set (λ (b : Vec ℕ Global). b.items) later k new

  here : block.items ≡ block_at (block_bytes later) k
  here = ap (λ (b : Vec ℕ Global). b.items) there ∙ sym (get_or-map (λ (b : Vec ℕ Global). b.items) later k block [] below)

  -- a block that has the same bytes may take the place of one
  pub same-bytes : new.items ≡ block.items → block_bytes (first ∷ slice_set later k new) ≡ block_bytes (first ∷ later)
  same-bytes same = ap (λ l. first.items ∷ l) (set-bytes ∙ ap (slice_set (block_bytes later) k) (same ∙ here) ∙ set-get_or (block_bytes later) k [])

  -- a message that is laid in a later block is laid
  pub lays-in-later : (number : ℕ) (span : Span) (message : List ℕ) → number ≡ suc k → new.items ≡ block.items ++ message
      → IsSpan span number (length block.items) (length message)
      → Lays (block_bytes (first ∷ later)) span message (block_bytes (first ∷ slice_set later k new))
  lays-in-later number span message later-on grown at =
      let all = first.items ∷ block_bytes later in
      let many = length-map later (λ (b : Vec ℕ Global). b.items) in
      let whole : block_bytes (first ∷ slice_set later k new) ≡ slice_set all (suc k) (block_at all (suc k) ++ message) =
      ap (λ l. first.items ∷ l) (set-bytes ∙ ap (slice_set (block_bytes later) k) (grown ∙ ap (λ b. b ++ message) here)) in
      record {
        goes_on = rw whole (set-goes-on all (suc k) message (omega (arith, below, many)));
        holds = holds-behind (block_bytes (first ∷ slice_set later k new)) span block.items message
            (omega (arith, at.block, later-on, below, length-map (slice_set later k new) (λ (b : Vec ℕ Global). b.items), length-set later k new))
            (rw (at.block, later-on, set-bytes) (get_or-set_same (block_bytes later) k new.items [] (omega (arith, below, many)) ∙ grown))
            at.start at.len;
      }

-- a message in a block of its own
pub lays-anew : (first : List ℕ) (old new : List (Vec ℕ Global)) (span : Span) (message : List ℕ) → block_bytes new ≡ block_bytes old ++ message ∷ []
    → IsSpan span (length old + 1) 0 (length message) → Lays (first ∷ block_bytes old) span message (first ∷ block_bytes new)
lays-anew first old new span message is at =
    let many : length (block_bytes old) ≡ length old = length-map old (λ (b : Vec ℕ Global). b.items) in
    let place : span.block ≡ suc (length (block_bytes old)) = omega (arith, at.block, many) in
    record {
      goes_on = rw is (push-goes-on (first ∷ block_bytes old) message);
      holds = holds-behind (first ∷ block_bytes new) span [] message
          (omega (arith, place, ap length is, length-append (block_bytes old) (message ∷ [])))
          (rw (place, is) (at-length (block_bytes old) message))
          at.start at.len;
    }

-- what lies in a block stays where it is
module _ (old new : List (List ℕ)) (on : GoesOn old new) where
  -- a span that lies in a block does so whatever is laid after it
  pub inside-on : (span : Span) → IsInside old span → IsInside new span
  inside-on span inside =
      let more = on.bytes span.block in
      record {
        block = omega (arith, on.blocks, inside.block);
        end = omega (arith, inside.end, ap length more.1, length-append (block_at old span.block) more.0);
      }

  -- and its bytes stay
  pub bytes_at-on : (span : Span) → IsInside old span → bytes_at new span ≡ bytes_at old span
  bytes_at-on span inside =
      let more = on.bytes span.block in
      let block = block_at old span.block in
      rw (more.1, drop-append-le span.start block more.0 (omega (arith, inside.end)))
      (take-append-le span.len (drop span.start block) more.0 (omega (arith, inside.end, length-drop span.start block)))

  -- so a message that is kept stays where it lies
  pub message_stays : (span : Span) (message : List ℕ) → Holds old span message → Holds new span message
  message_stays span message lies = record { inside = inside-on span lies.inside; bytes = bytes_at-on span lies.inside ∙ lies.bytes }
