-- What a sink receives, and what stays in the buffer, when bytes are written through a buffer.
use Rattle.std.specs.Prelude.{◌≡◌, List, ℕ, ◌++◌, Result, MatchResult}
use Rattle.ltl_streams.specs.Streams.{SinkState, Takes, Breaks}

-- of the bytes held back before and the given ones, some were sent and the others are held back now
pub record Sends (old : SinkState) (held : List ℕ) (new : SinkState) (kept bytes : List ℕ) : Type 0 where
  pub sent : List ℕ
  pub taken : Takes old new sent
  pub same : held ++ bytes ≡ sent ++ kept

-- of the bytes held back before and the given ones, a beginning was sent, and then a call failed
pub record Stops (old : SinkState) (held : List ℕ) (new : SinkState) (bytes : List ℕ) : Type 0 where
  pub broken : Breaks old new (held ++ bytes)

-- the bytes go out, or a write fails
abbrev pub Puts : {T E : Type 0} → Result T E → SinkState → List ℕ → SinkState → List ℕ → List ℕ → Type 0
Puts r old held new kept bytes = MatchResult r (λ _. Sends old held new kept bytes) (λ _. Stops old held new bytes)
