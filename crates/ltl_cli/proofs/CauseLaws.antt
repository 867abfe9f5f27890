-- Where a status of 5 comes from.
use Rattle.std.proofs.Common.{◌≡◌, ◌⊎◌, inl, inr, ℕ, Option, Some, None}
use Rattle.std.specs.Prelude.{Result, Ok, Err, option_map}
use Rattle.std.specs.Option.{option_map_or}
use Rattle.clap.specs.Words.{Text}
use Rattle.ltl_spec.specs.Tools.Stage.{Broken}
use Rattle.ltl_spec.specs.Tools.Refusal as spec
use Rattle.ltl_spec.specs.Tools.Outcome as outcome
use Rattle.ltl_spec.specs.Tools.Outcome.{FormulaWord, Input, IsAtFault, input_of}
use Rattle.ltl_spec.specs.Tools.Run.{HasInputAtFault}
use Rattle.ltl_streams.specs.Streams.{SinkState, SourceState}
use Rattle.ltl_words.specs.declared.request.Plan.{Plan}
use Rattle.ltl_words.specs.declared.request.PlanFault.{PlanFault}
use Rattle.ltl_cli.specs.declared.source.Source.{Source}
use Rattle.ltl_cli.specs.declared.source.Source.TheVariants as source
use Rattle.ltl_words.specs.Plans.{formula_word, planned}
use Rattle.ltl_cli.specs.Inputs.{HoldsText, IsSourceAtFault, WasFormula, WasInput, WasStream, WasAutomaton}
use Rattle.ltl_cli.specs.Runs.{HasCause}

-- the formula of a file
word_fault : (word : FormulaWord) (input : Input) → IsAtFault (input_of word input) → ¬ (HoldsText word) × IsAtFault input
word_fault (outcome.Given text) input h = absurd h
word_fault (outcome.File name) input h = ((λ t. t), h)

module _ {R : Type 0} (state : R → SourceState) where
  stream_fault : (most : ℕ) (r s : R) (input : Input) → WasStream most (state r) (state s) input → IsAtFault input → (state s).stage ≡ Broken
  stream_fault most r s (outcome.Failed bs) w f = w.stage
  stream_fault most r s (outcome.Ended bs) w f = absurd f
  stream_fault most r s (outcome.Text bs) w f = absurd f
  stream_fault most r s outcome.NotOpened w f = absurd w

  -- an input at fault is that of a source at fault
  source_fault : (most : ℕ) (old new : Source R) (input : Input) → WasInput most state old new input → IsAtFault input → IsSourceAtFault state new
  source_fault most old source.Text input w f = tt
  source_fault most old source.NotOpened input w f = tt
  source_fault most (source.Input r) (source.Input s) input w f = stream_fault most r s input w f
  source_fault most source.Text (source.Input s) input w f = absurd w
  source_fault most source.NotOpened (source.Input s) input w f = absurd w

-- ---- the formula's
module _ {R : Type 0} (state : R → SourceState) (old new : Source R) (input : Input) (was : WasFormula state old new input) (output : SinkState) where
  from_file : (p : Plan) → IsAtFault (input_of (formula_word p.formula) input) → HasCause state (Ok p) new output
  from_file p h = let (n, f) = word_fault (formula_word p.formula) input h in inr (n, source_fault state _ old new input was f)

  asked_word : (formula : FormulaWord) (word : Option Text) (file : Input)
      → HasInputAtFault spec.Evaluator (option_map_or (λ w. Some (record { formula = formula; word = w })) word None) input file → IsAtFault (input_of formula input)
  asked_word formula None file h = absurd h
  asked_word formula (Some w) file h = h

  pub translator_cause : (plan : Result Plan PlanFault) (file : Input) → (output.stage ≡ Broken) ⊎ HasInputAtFault spec.Translator (planned spec.Translator plan) input file → HasCause state plan new output
  translator_cause plan file (inl b) = inl b
  translator_cause (Ok p) file (inr h) = from_file p h
  translator_cause (Err e) file (inr h) = absurd h

  pub evaluator_cause : (plan : Result Plan PlanFault) (file : Input) → (output.stage ≡ Broken) ⊎ HasInputAtFault spec.Evaluator (planned spec.Evaluator plan) input file → HasCause state plan new output
  evaluator_cause plan file (inl b) = inl b
  evaluator_cause (Ok p) file (inr h) = from_file p (asked_word (formula_word p.formula) (option_map (λ s. s.now) p.word) file h)
  evaluator_cause (Err e) file (inr h) = absurd h

  -- or the automaton's
  module _ {T : Type 0} (state_of : T → SourceState) (before behind : Source T) (file : Input) (took : WasAutomaton state_of before behind file) where
    pub checker_cause : (plan : Result Plan PlanFault) → (output.stage ≡ Broken) ⊎ HasInputAtFault spec.Checker (planned spec.Checker plan) input file
        → HasCause state plan new output ⊎ IsSourceAtFault state_of behind
    checker_cause plan (inl b) = inl (inl b)
    checker_cause (Ok p) (inr (inl h)) = inl (from_file p h)
    checker_cause (Ok p) (inr (inr h)) = inr (source_fault state_of _ before behind file took h)
    checker_cause (Err e) (inr h) = absurd h
