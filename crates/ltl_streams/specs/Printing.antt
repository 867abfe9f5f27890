-- What the sink of a printer receives.
use Rattle.std.specs.Prelude.{◌≡◌, ℕ, Bool, true, false, List}
use Rattle.ltl_streams.specs.Streams.{SinkState, Takes, Breaks}
use Rattle.ltl_streams.specs.Sending.{Sends, Stops}
use Rattle.ltl_streams.specs.declared.printer.Printer.{Printer}

-- The bytes go to the sink or are held back, or a write of them fails. After a failed write nothing happens.
abbrev pub Moves : Bool → Bool → SinkState → List ℕ → SinkState → List ℕ → List ℕ → Type 0
Moves true true old held new kept bytes = new ≡ old
Moves true false old held new kept bytes = ⊥
Moves false true old held new kept bytes = Stops old held new bytes
Moves false false old held new kept bytes = Sends old held new kept bytes

-- no write has failed, and what was held back goes out
abbrev pub EndsWhole : Bool → SinkState → List ℕ → SinkState → Type 0
EndsWhole true old held new = ⊥
EndsWhole false old held new = Takes old new held

-- a write of what was held back fails, or one has failed before
abbrev pub EndsShort : Bool → SinkState → List ℕ → SinkState → Type 0
EndsShort true old held new = new ≡ old
EndsShort false old held new = Breaks old new held

-- with what is known of a sink: it is still the same sink, and the bytes were printed to it
pub record Prints {S : Type 0} (state : S → SinkState) (old new : Printer S) (bytes : List ℕ) : Type 0 where
  pub same : new.sink.ghost_name ≡ old.sink.ghost_name
  pub moves : Moves old.failed new.failed (state old.sink.now) old.buffer (state new.sink.now) new.buffer bytes
