-- The letters of a name, one after another; and a name by what a table has.
use Rattle.std.proofs.Common.{◌≡◌, ℕ, ◌+◌, ◌≤◌, ◌<◌, List, ◌++◌, length, drop, get_or, Option, option_map, unwrap_or, ap}
use Rattle.std.proofs.lemmas.List.{drop_all, drop_more}
use Rattle.text_parts.proofs.Promises.{IsLeft, same-rest, said-whole, say-more}
use Rattle.trace_text.specs.Words.{service_text}
use Rattle.uds_message.specs.Tables.{code_name, service_row}
use Rattle.uds_names.specs.ResponseCodes.{response_code_name}
use Rattle.shown_bytes.specs.StandardNames.{code_by}
use Rattle.pair_words.specs.LongNames.{further_code, letter_behind, letters_behind, parted_code, parted_name, parted_service}

module _ {S : Type 0} (says : S → List ℕ → S → Type 0) (onward : (s m t : S) (a b : List ℕ) → says s a m → says m b t → says s (a ++ b) t)
    (name : List ℕ) (old : S) (whole : List ℕ) (front at : ℕ) (now : S) where
  abbrev pub Left : ℕ → ℕ → S → Type 0
  Left behind from new = IsLeft says old (letters_behind behind (drop from name)) whole new

  -- one more letter is said
  pub turn-letter : (new : S) → at < length name → Left front at now → says now (letter_behind front (get_or name at 0)) new → Left (get_or name at 0) (at + 1) new
  turn-letter new below left said =
      let letter = get_or name at 0 in
      say-more says onward old now new (letter_behind front letter) (letters_behind letter (drop (at + 1) name)) whole
      (same-rest says old now _ _ whole (ap (letters_behind front) (drop_more name at 0 below)) left) said

  -- and that are all
  pub turn-end : length name ≤ at → Left front at now → says old whole now
  turn-end past left = said-whole says old now whole (same-rest says old now _ _ whole (ap (letters_behind front) (drop_all at name past)) left)

-- a service by what the table has of it
pub parted-service : (service : ℕ) (found : Option (List ℕ)) → found ≡ option_map (λ row. row.name) (service_row service)
    → unwrap_or (option_map parted_name found) (service_text service) ≡ parted_service service
parted-service service found is = ap (λ (name : Option (List ℕ)). unwrap_or (option_map parted_name name) (service_text service)) is

-- a response code by what the table has of it
pub parted-code : (why : ℕ) (found : Option (List ℕ)) → found ≡ code_name why
    → unwrap_or (option_map parted_name found) (further_code why) ≡ parted_code why
parted-code why found is = ap (λ (name : Option (List ℕ)). unwrap_or (option_map parted_name name) (further_code why)) is

-- a response code by what the table of the further ones has of it
pub further-code : (why : ℕ) (found : Option (List ℕ)) → found ≡ response_code_name why
    → code_by (option_map parted_name found) why ≡ further_code why
unfolding further_code
further-code why found is = ap (λ (name : Option (List ℕ)). code_by (option_map parted_name name) why) is
