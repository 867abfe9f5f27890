-- The generalized automaton of a formula, merged and numbered, and its text.
use Rattle.std.specs.Prelude.{◌≡◌, ℕ, zero, suc, List, [], ◌∷◌, ◌++◌, map, flat_map, length, codes, decimal}
use Rattle.std.specs.List.{range_with_len}
use Rattle.ltl_spec.specs.Collections.Lists.{joined_by}
use Rattle.ltl_spec.specs.Formulas.Formula.{Reading}
use Rattle.ltl_spec.specs.NormalForms.Normal.{Normal}
use Rattle.ltl_spec.specs.Automata.Automaton.{Automaton, Edge, state_at}
use Rattle.ltl_spec.specs.Automata.Generalized.{IsGeneralized}
use Rattle.ltl_spec.specs.Construction.Merging.{merged_automaton}
use Rattle.ltl_spec.specs.Construction.Renumbered.{renumbered_automaton}
use Rattle.ltl_spec.specs.Construction.Translation.{Options}
use Rattle.ltl_spec.specs.Automata.ClaimText.{line}
use Rattle.ltl_spec.specs.Automata.HoaText.{label_text, text_with}

-- A is the generalized automaton of the normal form after merging and numbering
abbrev pub IsGeneralizedTranslation : Normal → Options → Automaton → Type 0
IsGeneralizedTranslation N o A = (G : Automaton) × IsGeneralized N o.keep_implied G × (A ≡ renumbered_automaton (merged_automaton o.keep_implied o.keep_equal G))

-- ` {0 1}`, and nothing for an edge in no set
abbrev pub marks_text : List ℕ → List ℕ
marks_text [] = []
marks_text (k ∷ ks) = codes " {" ++ joined_by (codes " ") (map decimal (k ∷ ks)) ++ codes "}"

abbrev pub marked_edge_line : Edge → List ℕ
marked_edge_line e = line (codes "[" ++ label_text e.cube ++ codes "] " ++ decimal e.target ++ marks_text e.marks)

abbrev pub marked_state_lines : Automaton → ℕ → List ℕ
marked_state_lines A k = line (codes "State: " ++ decimal k) ++ flat_map marked_edge_line (state_at A k).edges

abbrev pub acceptance_name : ℕ → List ℕ
acceptance_name zero = codes "all"
acceptance_name (suc n) = codes "generalized-Buchi " ++ decimal (suc n)

-- the number of sets, and then all of them
abbrev pub acceptance_text : ℕ → List ℕ
acceptance_text zero = codes "0 t"
acceptance_text (suc n) = decimal (suc n) ++ codes " " ++ joined_by (codes "&") (map (λ k. codes "Inf(" ++ decimal k ++ codes ")") (range_with_len 0 (suc n)))

-- the text of the automaton, with its sets on edges
abbrev pub generalized_text : Automaton → Reading → List ℕ
generalized_text A R = text_with R (length A.states) (acceptance_name A.sets) (acceptance_text A.sets) (codes "trans-acc") (marked_state_lines A)
