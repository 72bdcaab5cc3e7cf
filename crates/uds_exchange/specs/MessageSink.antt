-- Messages put into a sink, whose implementation says which values of it may follow an Ok and an Err of `put`.
use Rattle.std.specs.Prelude.{◌≡◌, ℕ, List, [], ◌∷◌, ◌++◌}
use Rattle.direction.specs.Dir.{Message}
use Rattle.direction.specs.declared.Dir.{Dir}

-- which values of a sink may follow an Ok of a `put`: the value before, the message, the value after
abbrev pub AfterOk : Type 0 → Type 1
AfterOk Sink = Sink → Dir → List ℕ → Sink → Type 0

-- which values of a sink may follow an Err of a `put`: the value before, the message, the fault, the value after
abbrev pub AfterErr : Type 0 → Type 0 → Type 1
AfterErr Sink Fault = Sink → Dir → List ℕ → Fault → Sink → Type 0

-- each of the messages was put, one after another: by Ok answers the sink went from the one value to the other
abbrev pub Puts : {Sink : Type 0} → AfterOk Sink → Sink → List Message → Sink → Type 0
Puts after_ok before [] after = after ≡ before
Puts {Sink = Sink} after_ok before (message ∷ later) after =
    (between : Sink) × after_ok before message.0 message.1 between × Puts after_ok between later after

-- a proper prefix of the messages was put, and the `put` of the next one answered the fault
abbrev pub Fails : {Sink Fault : Type 0} → AfterOk Sink → AfterErr Sink Fault → Sink → List Message → Fault → Sink → Type 0
Fails {Sink = Sink} after_ok after_err before messages fault after =
    (front : List Message) × (next : Message) × (rest : List Message) × (between : Sink)
    × (messages ≡ front ++ next ∷ rest) × Puts after_ok before front between × after_err between next.0 next.1 fault after
