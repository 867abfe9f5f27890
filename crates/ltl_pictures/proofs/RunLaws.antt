-- The text of a picture, in parts.
use Rattle.std.proofs.Common.{◌≡◌, ◌∙◌, ap, sym, refl, ℕ, Bool, List, [], ◌++◌, ◌+◌, length, append_assoc, arith}
use Rattle.std.specs.Prelude.{Option, Some, codes, flat_map, not, ◌&&◌}
use Rattle.std.specs.List.{list_any, range_with_len}
use Rattle.ltl_spec.specs.Automata.Automaton.{Edge}
use Rattle.ltl_spec.specs.Semantics.Word.{Name}
use Rattle.ltl_pictures.specs.DotText.{arrow_text, dot_text, head_text, node_text, picture_text, state_text}
use Rattle.ltl_pictures.specs.NamedAutomaton.{NamedAutomaton, state_name}
use Rattle.ltl_pictures.specs.Picked.{is_set}
use Rattle.ltl_pictures.specs.Picture.{arrows, edges_at, is_accepting, is_state_based}
use Rattle.ltl_pictures.specs.RunText.{RunPicture, named_of, run_text}
use Rattle.ltl_pictures.proofs.FlagLaws.{any_set}

module _ (N : NamedAutomaton) (taken : ℕ → ℕ → Bool) where
  -- a state, and the arrows from it
  pub state_pieces : (k : ℕ) (by double red : Bool) (es : List Edge) (names : List Name) (name : Option (List ℕ)) (flags : List Bool) → by ≡ is_state_based N.automaton → es ≡ edges_at N.automaton k → names ≡ N.automaton.names
      → name ≡ state_name N.names k → double ≡ (by && is_accepting es) → red ≡ list_any (λ b. b) flags → length flags ≡ length (edges_at N.automaton k) → ((p : ℕ) → is_set flags p ≡ taken k p)
      → state_text N taken k ≡ node_text name double red k ++ flat_map (arrow_text names (not by) (is_set flags) es) (arrows k es)
  state_pieces k by double red es names name flags b e n m d r l s = with (is_set flags) (λ i p. s p i)
    where
      one_taken : list_any (taken k) (range_with_len 0 (length (edges_at N.automaton k))) ≡ red
      one_taken =
          ap (λ m. list_any (taken k) (range_with_len 0 m)) (sym l)
          ∙ any_set flags (taken k) 0 (λ p. let none : p ≡ 0 + p = omega arith in s p ∙ ap (taken k) none) ∙ sym r

      with : (f : ℕ → Bool) → f ≡ taken k → state_text N taken k ≡ node_text name double red k ++ flat_map (arrow_text names (not by) f es) (arrows k es)
      with f same = rw (d, ← one_taken, same, e, n, m, b) refl

  pub picture_pieces : (note : List ℕ) → picture_text N taken note ≡ head_text N note ++ (flat_map (state_text N taken) (range_with_len 0 N.automaton.states) ++ codes "}\n")
  picture_pieces note = append_assoc (head_text N note) (flat_map (state_text N taken) (range_with_len 0 N.automaton.states)) (codes "}\n")

-- a run that has no edge
pub plain_text : (P : RunPicture) → P.run ≡ Some [] → run_text P ≡ dot_text (named_of P)
plain_text P e = ap (λ r. run_text (record P { run = r })) e
