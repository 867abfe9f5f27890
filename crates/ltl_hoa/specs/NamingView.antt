-- The names so far, and what a token changes of them.
use Rattle.std.specs.Prelude.{ℕ, Bool, if◌then◌else◌, List, Option, Some, None, codes, option_map, replicate, slice_index_or, slice_set}
use Rattle.std.specs.declared.vec.Vec.{Vec}
use Rattle.ltl_spec.specs.Formulas.Tokens.{same_name}
use Rattle.ltl_spec.specs.Hoa.HoaToken.{HoaToken, StringToken, Header, Int}
use Rattle.ltl_spec.specs.Hoa.HoaNames.{HoaNames, or_next}
use Rattle.ltl_hoa.specs.declared.naming.Owner.{Owner}
use Rattle.ltl_hoa.specs.declared.naming.Owner.TheVariants.{Nothing, Automaton, State, NumberedState}
use Rattle.ltl_hoa.specs.NumberView.{capped}

-- the bytes of a name, where there is one
abbrev pub bytes_of : {A : Type 0} → Option (Vec ℕ A) → Option (List ℕ)
bytes_of name = option_map (λ v. v.items) name

abbrev pub nameless : ℕ → HoaNames
nameless states = record { automaton = None; states = replicate states None }

-- whose name the string behind a token is
abbrev pub next_owner : Owner → HoaToken → Owner
next_owner owner (Header h) = if same_name h (codes "name") then Automaton else if same_name h (codes "State") then State else Nothing
next_owner State (Int n) = NumberedState (capped n)
next_owner _ _ = Nothing

-- the first name stays
abbrev pub kept : Option (List ℕ) → List ℕ → Option (List ℕ)
kept name s = or_next name (Some s)

-- a string of this owner
abbrev pub named : Owner → List ℕ → HoaNames → HoaNames
named Automaton s n = record n { automaton = kept n.automaton s }
named (NumberedState i) s n = record n { states = slice_set n.states i (kept (slice_index_or n.states i None) s) }
named _ s n = n
