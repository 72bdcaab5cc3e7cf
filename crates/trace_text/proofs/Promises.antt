-- Lemmas of texts and of the words in them, for the proofs of the crates above.
pub use Rattle.trace_text.proofs.Lists.{one_more_text}
pub use Rattle.trace_text.proofs.Decimals.{digit_is}
pub use Rattle.trace_text.proofs.ItemLines.{lines-append}
pub use Rattle.trace_text.proofs.JsonTexts.{later_are, line_is, value_is}
pub use Rattle.trace_text.proofs.TextWords.{is_in_word, IsWord, bytes_word, service_word, code_word}
pub use Rattle.trace_text.proofs.RuledWords.{ruled_word}
pub use Rattle.trace_text.proofs.RuledWords.{no_rules_mark_nothing, unspoken_is_not_marked, equal_messages_have_equal_texts}
pub use Rattle.trace_text.proofs.EqualLists.{equal_lists_have_equal_texts}
