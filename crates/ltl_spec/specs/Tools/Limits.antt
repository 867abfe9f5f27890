-- The limits of the programs.
use Rattle.std.specs.Prelude.{ℕ}

pub record Limits : Type 0 where
  pub formula_bytes : ℕ
  -- of the formula, of both inputs together, and of the names that an automaton lists
  pub propositions : ℕ
  pub rows : ℕ
  pub elementary_rows : ℕ
  -- of each automaton on the way from a formula
  pub states : ℕ
  pub edges : ℕ
  pub word_bytes : ℕ
  -- of an automaton's text, and of what it reads as
  pub hoa_bytes : ℕ
  pub hoa_states : ℕ
  pub hoa_edges : ℕ
  pub label_cubes : ℕ
  -- states of both automata, times the levels
  pub product : ℕ

-- the limits that the programs keep
abbrev pub stated_limits : Limits
stated_limits = record {
  formula_bytes = 65_536;
  propositions = 256;
  rows = 4_096;
  elementary_rows = 256;
  states = 65_536;
  edges = 1_048_576;
  word_bytes = 65_536;
  hoa_bytes = 16_777_216;
  hoa_states = 65_536;
  hoa_edges = 1_048_576;
  label_cubes = 4_096;
  product = 16_777_216;
}
