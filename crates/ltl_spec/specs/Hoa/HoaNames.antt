-- The names that a text has for its automaton and for its states.
use Rattle.std.specs.Prelude.{ℕ, Bool, false, ◌==◌, if◌then◌else◌, List, [], ◌∷◌, map, Option, Some, None, codes}
use Rattle.std.specs.List.{range_with_len}
use Rattle.ltl_spec.specs.Formulas.Tokens.{same_name}
use Rattle.ltl_spec.specs.Hoa.HoaToken.{HoaToken, StringToken, Header, Int, hoa_tokens}

-- the first of two, or else the second
abbrev pub or_next : {X : Type 0} → Option X → Option X → Option X
or_next (Some x) o = Some x
or_next None o = o

-- whether both are the same header's name, or the same number
abbrev pub is_same : HoaToken → HoaToken → Bool
is_same (Header a) (Header b) = same_name b a
is_same (Int m) (Int n) = n == m
is_same _ _ = false

-- the content of the string behind these tokens, where a text begins with all of them
abbrev pub string_behind : List HoaToken → List HoaToken → Option (List ℕ)
string_behind [] (StringToken s ∷ ts) = Some s
string_behind (k ∷ ks) (t ∷ ts) = if is_same k t then string_behind ks ts else None
string_behind _ _ = None

-- the first one at any place of a text
abbrev pub first_behind : List HoaToken → List HoaToken → Option (List ℕ)
first_behind ks [] = None
first_behind ks (t ∷ ts) = or_next (string_behind ks (t ∷ ts)) (first_behind ks ts)

-- what stands before the name of the automaton, and before that of a state
abbrev pub before_automaton : List HoaToken
before_automaton = Header (codes "name") ∷ []

abbrev pub before_state : ℕ → List HoaToken
before_state n = Header (codes "State") ∷ Int n ∷ []

-- a name for the automaton and one for each state, where there is one
pub record HoaNames : Type 0 where
  pub automaton : Option (List ℕ)
  pub states : List (Option (List ℕ))

-- those that a text has for an automaton with so many states, whatever else stands in the text
abbrev pub hoa_names : List ℕ → ℕ → HoaNames
hoa_names text states = record {
  automaton = first_behind before_automaton (hoa_tokens text);
  states = map (λ n. first_behind (before_state n) (hoa_tokens text)) (range_with_len 0 states);
}
