-- Degeneralization of a graph: copies of each state on levels, which count the sets that were met in turn.
use Rattle.std.specs.Prelude.{◌≡◌, ◌≢◌, ℕ, ◌+◌, ◌*◌, ◌/◌, ◌%◌, ◌<◌, true, false, cond, ◌==◌, List, [], ◌∷◌, Option, option_map, ◌⊎◌}
use Rattle.ltl_check.specs.declared.graph.Step.{Step}
use Rattle.ltl_check.specs.declared.levels.LevelState.{LevelState}
use Rattle.ltl_check.specs.declared.walk.Taken.{Taken}
use Rattle.ltl_spec.specs.Construction.Levels.{next_level}
use Rattle.ltl_check.specs.Marks.{in_set}
use Rattle.ltl_check.specs.Nets.{Net, IsSuccessor, IsStepPath}

-- an edge on a level; one number stands for a state and a level
abbrev pub on_level : ℕ → ℕ → Step ℕ → Step ℕ
on_level sets level a = record {
  target = a.target * (sets + 1) + next_level sets a.marks level;
  marks = cond (level == sets) (0 ∷ []) [];
  letter = a.letter;
}

abbrev pub levels_net : ℕ → Net → Net
levels_net sets N = record {
  count = N.count * (sets + 1);
  start = N.start * (sets + 1);
  pairs = λ n. N.pairs (n / (sets + 1));
  successor = λ n k. option_map (on_level sets (n % (sets + 1))) (N.successor (n / (sets + 1)) k);
  accepts = λ n. n % (sets + 1) == sets;
}

-- a graph by the numbers of its states
abbrev pub numbered : {S : Type 0} → (S → ℕ) → Step S → Step ℕ
numbered number a = record { target = number a.target; marks = a.marks; letter = a.letter }

abbrev pub net_of : {S : Type 0} → ℕ → S → (S → ℕ) → (ℕ → S) → (S → ℕ) → (S → ℕ → Option (Step S)) → Net
net_of count start number state pairs step = record {
  count = count;
  start = number start;
  pairs = λ n. pairs (state n);
  successor = λ n k. option_map (numbered number) (step (state n) k);
  accepts = λ n. false;
}

-- the same step, of the graph without levels
abbrev pub without_level : ℕ → Taken → Taken
without_level sets t = record { state = t.state / (sets + 1); pick = t.pick; letter = t.letter }

module _ (N : Net) where
  -- one of the steps takes an edge of the set
  abbrev pub Takes : List Taken → ℕ → Type 0
  Takes [] j = ⊥
  Takes (t ∷ ts) j = ((a : Step ℕ) × IsSuccessor N t.state t.pick a × (in_set a.marks j ≡ true)) ⊎ Takes ts j

  -- a stem from the start, and a closed walk from its end that isn't empty and takes an edge of every set
  pub record IsFullWalk (sets : ℕ) (stem cycle : List Taken) : Type 0 where
    pub end : ℕ
    pub arrives : IsStepPath N N.start stem end
    pub cycles : IsStepPath N end cycle end
    pub moves : cycle ≢ []
    pub takes : (j : ℕ) → j < sets → Takes cycle j

-- a step of the graph, on a level
abbrev pub placed_step : {S : Type 0} → ℕ → ℕ → Step S → Step (LevelState S)
placed_step sets level a = record {
  target = record { state = a.target; level = next_level sets a.marks level };
  marks = cond (level == sets) (0 ∷ []) [];
  letter = a.letter;
}
