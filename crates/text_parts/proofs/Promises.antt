-- What the crates above cite, to say a text in steps. Nothing else of proofs/ is for them.
pub use Rattle.text_parts.proofs.Saying.{IsLeft, none-said, said-whole, same-rest, say-last, say-more}
