-- The state of a byte stream, and what a call changes of it.
use Rattle.std.specs.Prelude.{◌≡◌, ℕ, ◌<◌, ◌≤◌, List, ◌∷◌, length, take, Option}
use Rattle.std.specs.Io.KnownBytes.{Appends, Consumes, IsAtEnd, Keeps}
use Rattle.ltl_spec.specs.Tools.Stage.{Stage, Open, Closed, Broken, behind}

-- of a sink
pub record SinkState : Type 0 where
  -- all bytes that it took, where they are known
  pub bytes : Option (List ℕ)
  pub stage : Stage
  -- the name of the borrow, where it hands on to a writer that is lent to it
  pub through : Option ℕ

-- of a source
pub record SourceState : Type 0 where
  -- all bytes that it is still to give, where they are known
  pub rest : Option (List ℕ)
  pub stage : Stage
  -- the name of the borrow, where it asks a reader that is lent to it
  pub through : Option ℕ

-- known bytes grow by a beginning of bs
abbrev pub AppendsBeginning : Option (List ℕ) → Option (List ℕ) → List ℕ → Type 0
AppendsBeginning old new bs = (k : ℕ) × Appends old new (take k bs)

-- ---- one call on a sink
-- one that fails changes nothing
pub record Fails (old new : SinkState) : Type 0 where
  pub same : new.through ≡ old.through
  pub kept : Keeps old.bytes new.bytes
  pub stage : new.stage ≡ behind old.stage Broken

-- the first n of the bytes were taken, which are some where there are any
pub record TakesSome (old new : SinkState) (n : ℕ) (bs : List ℕ) : Type 0 where
  pub same : new.through ≡ old.through
  pub before : old.stage ≡ Open
  pub stage : new.stage ≡ Open
  pub bound : n ≤ length bs
  pub some : 0 < length bs → 0 < n
  pub grown : Appends old.bytes new.bytes (take n bs)

-- the sink was flushed
pub record Flushes (old new : SinkState) : Type 0 where
  pub same : new.through ≡ old.through
  pub before : old.stage ≡ Open
  pub stage : new.stage ≡ Closed
  pub kept : Keeps old.bytes new.bytes

-- ---- many calls on a sink
-- all bytes were taken
pub record Takes (old new : SinkState) (bs : List ℕ) : Type 0 where
  pub same : new.through ≡ old.through
  pub stage : old.stage ≡ Open → new.stage ≡ Open
  pub grown : Appends old.bytes new.bytes bs

-- a beginning of the bytes was taken, and then a call failed, which was the last one
pub record Breaks (old new : SinkState) (bs : List ℕ) : Type 0 where
  pub same : new.through ≡ old.through
  pub stage : old.stage ≡ Open → new.stage ≡ Broken
  pub count : ℕ
  pub grown : Appends old.bytes new.bytes (take count bs)

-- ---- one call on a source
-- one that fails changes nothing
pub record FailsToGive (old new : SourceState) : Type 0 where
  pub same : new.through ≡ old.through
  pub kept : Keeps old.rest new.rest
  pub stage : new.stage ≡ behind old.stage Broken

-- the stage behind a call that gave so many bytes for this room
abbrev pub stage_given : ℕ → List ℕ → Stage
stage_given ℕ.zero (b ∷ bs) = Closed
stage_given _ _ = Open

-- the first n bytes of the room were given, and none only at the end or where there is no room
pub record GivesSome (old new : SourceState) (n : ℕ) (room : List ℕ) : Type 0 where
  pub same : new.through ≡ old.through
  pub before : old.stage ≡ Open
  pub stage : new.stage ≡ stage_given n room
  pub bound : n ≤ length room
  pub taken : Consumes old.rest new.rest (take n room)
  pub ended : n ≡ 0 → 0 < length room → IsAtEnd new.rest
