-- What is kept of a request, so that its answer can be compared with it.
use Rattle.std.specs.Prelude.{ℕ, ◌==◌, ◌&&◌, Bool, List, [], length, take, nat_lt, if◌then◌else◌}
use Rattle.uds_message.specs.Message.{sid}

-- so many bytes are kept of a request: as many as a message has whose length is announced in 12 bits
abbrev pub most_asked : ℕ
most_asked = 4095

-- not all data identifiers are kept that a request asks for: ReadDataByIdentifier, in a message of more bytes
abbrev pub asks_for_more : List ℕ → Bool
asks_for_more bytes = sid bytes == 0x22 && nat_lt most_asked (length bytes)

-- what is kept of a request: of one that asks for more nothing, since an answer may be to any of it
abbrev pub asked_of : List ℕ → List ℕ
asked_of bytes = if asks_for_more bytes then [] else take most_asked bytes
