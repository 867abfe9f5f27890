-- The stages of the code as stages of the definitions, and the states of streams.
use Rattle.std.specs.Prelude.{ℕ, List, Option}
use Rattle.ltl_spec.specs.Tools.Stage as spec
use Rattle.ltl_streams.specs.Streams.{SinkState, SourceState}
use Rattle.ltl_streams.specs.declared.stage.Stage.{Stage}
use Rattle.ltl_streams.specs.declared.stage.Stage.TheVariants.{Open, Closed, Broken, Misused}

abbrev pub stage_of : Stage → spec.Stage
stage_of Open = spec.Open
stage_of Closed = spec.Closed
stage_of Broken = spec.Broken
stage_of Misused = spec.Misused

abbrev pub sink_at : Option ℕ → Option (List ℕ) → Stage → SinkState
sink_at through bytes stage = record { bytes = bytes; stage = stage_of stage; through = through }

abbrev pub source_at : Option ℕ → Option (List ℕ) → Stage → SourceState
source_at through rest stage = record { rest = rest; stage = stage_of stage; through = through }
