-- Lemmas of what a list has from one place up to another, for the proofs of the crates above.
pub use Rattle.pair_words.proofs.Pieces.{drop-first, cut-first, cut-none, past-end, cut-past, cut-joined}
