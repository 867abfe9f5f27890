-- The inputs of a runtime whose files are unknown.
use Rattle.std.specs.Prelude.{◌≡◌, List, ℕ, Result, Ok, Err, ⊤}
use Rattle.std.specs.declared.io.Error.{Error}
use Rattle.ltl_spec.specs.Tools.Outcome.{Input}
use Rattle.ltl_streams.specs.declared.reader_source.ReaderSource.{ReaderSource}
use Rattle.ltl_streams.specs.declared.stage.Stage.TheVariants.{Open}
use Rattle.ltl_cli.specs.declared.source.Source.{Source}
use Rattle.ltl_cli.specs.declared.source.Source.TheVariants as source

-- any input may stand behind a name
abbrev pub AnythingBehind : List ℕ → Input → Type 0
AnythingBehind name input = ⊤

-- the file that was opened, before any call on it, or none
abbrev pub IsOpenedAs : {F : Type 0} → Result F Error → Source (ReaderSource F) → Type 0
IsOpenedAs (Ok file) (source.Input r) = (r.reader ≡ file) × (r.stage ≡ Open)
IsOpenedAs (Err e) source.NotOpened = ⊤
IsOpenedAs _ _ = ⊥
