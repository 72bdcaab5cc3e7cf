-- What a reader of JSON (RFC 8259) finds in a text that is told: the object that is meant. The reader is the kit's
-- `serde_json`, which keeps each key once, in the order of the keys.
use Prim.Native.Nat.{zero, suc}
use Rattle.std.specs.Prelude.{◌≡◌, ◌<◌, ◌≤◌, ◌^◌, negsuc, Some, ⊤}
use Rattle.serde_json.specs.Data as reader
use Rattle.serde_json.specs.Data.{Data, unsigned, negative, put}
use Rattle.serde_json.specs.Read.{read}
use Rattle.trace_text.specs.Json.{Value, null, truth, number, below_zero, pair, string, object, Members, nothing, member, value_text}

abbrev mutual
  -- what a value is to the reader
  pub meant : Value → Data
  meant null = reader.null
  meant (truth b) = reader.boolean b
  meant (number n) = reader.number (unsigned n)
  meant (below_zero zero) = reader.number (unsigned 0)
  meant (below_zero (suc n)) = reader.number (negative (negsuc n))
  meant (pair one other) = reader.array (reader.item (reader.number (unsigned one)) (reader.item (reader.number (unsigned other)) reader.no_items))
  meant (string text) = reader.string text
  meant (object members) = reader.object (with_members members reader.no_members)

  -- the members that were found, and these
  pub with_members : Members → reader.Members → reader.Members
  with_members nothing found = found
  with_members (member key value later) found = with_members later (put key (meant value) found)

abbrev mutual
  -- each number has 64 bits, as the reader keeps it: in a value
  pub HasNumbersOf64Bits : Value → Type 0
  HasNumbersOf64Bits null = ⊤
  HasNumbersOf64Bits (truth b) = ⊤
  HasNumbersOf64Bits (number n) = n < 2 ^ 64
  HasNumbersOf64Bits (below_zero n) = (0 < n) × (n ≤ 2 ^ 63)
  HasNumbersOf64Bits (pair one other) = (one < 2 ^ 64) × (other < 2 ^ 64)
  HasNumbersOf64Bits (string text) = ⊤
  HasNumbersOf64Bits (object members) = HaveNumbersOf64Bits members

  -- and in members
  pub HaveNumbersOf64Bits : Members → Type 0
  HaveNumbersOf64Bits nothing = ⊤
  HaveNumbersOf64Bits (member key value later) = HasNumbersOf64Bits value × HaveNumbersOf64Bits later

-- the text of these members is read as the object that they are
abbrev pub IsReadAsMeant : Members → Type 0
IsReadAsMeant members = HaveNumbersOf64Bits members → read (value_text (object members)) ≡ Some (meant (object members))
