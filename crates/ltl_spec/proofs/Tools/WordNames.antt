-- A word without needless names reads back.
use Rattle.std.proofs.Common.{◌≡◌, ap₂, sym, refl, ℕ, true, inl, inr, List, [], ◌∷◌, ◌++◌, map}
use Rattle.std.specs.List.{list_all}
use Rattle.std.specs.Prelude.{IsTrue}
use Rattle.ltl_spec.specs.Collections.Sets.{Has, IsRising, set_of}
use Rattle.ltl_spec.specs.Formulas.Formula.{Reading}
use Rattle.ltl_spec.specs.Formulas.Grammar.{IsTextOf}
use Rattle.ltl_spec.specs.Formulas.Names.{is_proposition}
use Rattle.ltl_spec.specs.Semantics.Word.{Name, name_cmp, Letter, Lasso, IsLasso}
use Rattle.ltl_spec.specs.Words.LassoText.{IsLassoText, lasso_text, names_in, with_sets}
use Rattle.ltl_spec.specs.Automata.Automaton.{Automaton}
use Rattle.ltl_spec.specs.Transitions.Cubes.{Cube}
use Rattle.ltl_spec.specs.Hoa.HoaReading.{MarkedAutomaton}
use Rattle.ltl_spec.specs.Checking.Check.{IsNeeded, IsPositive, cubes_of, marked_cubes}
use Rattle.ltl_spec.proofs.Collections.SetLaws.{all_at, append_left, append_right, set_of_same}
use Rattle.ltl_spec.proofs.Collections.ListLaws.{All-at_has, slice_get_has}
use Rattle.ltl_spec.proofs.Collections.MemberLaws.{Has-flat_map, all_Decides}
use Rattle.ltl_spec.proofs.Collections.Orders.{name_linear}
use Rattle.ltl_spec.proofs.Formulas.CanonicalLaws.{named_by_text}
use Rattle.ltl_spec.proofs.Formulas.NameLaws.{word_proposition}
use Rattle.ltl_spec.proofs.Formulas.TokenLaws.{IsNameWord}

-- the names of a formula that was read are propositions
pub text_propositions : (text : List ℕ) (R : Reading) → IsTextOf text R → IsTrue (list_all is_proposition R.names)
text_propositions text R t = (all_Decides is_proposition R.names).1 (λ n h. word_proposition n (all_at IsNameWord R.names n (named_by_text text R t).words h))

-- letters that are sets are their own sets
pub same_sets : (w : Lasso) → IsLasso w → with_sets w ≡ w
same_sets w l =
    let a = part w.stem (λ x h. All-at_has (IsRising name_cmp) (w.stem ++ w.cycle) l.sets x (append_left w.stem w.cycle x h)) in
    let b = part w.cycle (λ x h. All-at_has (IsRising name_cmp) (w.stem ++ w.cycle) l.sets x (append_right w.stem w.cycle x h)) in
    λ i. record { stem = a i; cycle = b i }
  where
    part : (ls : List Letter) → ((a : Letter) → Has ls a → IsRising name_cmp a) → map (set_of name_cmp) ls ≡ ls
    part [] f = refl
    part (a ∷ ls) f = ap₂ (λ b bs. b ∷ bs) (set_of_same name_linear a (f a (inl refl))) (part ls (λ x h. f x (inr h)))

-- a word of propositions is that of its text
pub proper_reads : (w : Lasso) → IsLasso w → ((n : Name) → Has (names_in w) n → is_proposition n ≡ true) → IsLassoText (lasso_text w) w
proper_reads w l proper = record {
  written = w;
  propositions = (all_Decides (λ a. list_all is_proposition a) (w.stem ++ w.cycle)).1
      (λ a h. (all_Decides is_proposition a).1 (λ n k. proper n (Has-flat_map (λ a. a) (w.stem ++ w.cycle) a n h k)));
  cycles = l.cycles;
  spelled = refl;
  read = sym (same_sets w l);
}

-- a name that is positive in a cube is one of the list
pub positive_listed : (names : List Name) (cubes : List Cube) (n : Name) → IsPositive names cubes n → Has names n
positive_listed names cubes n (c, k, in_cubes, in_cube, positive, at) = slice_get_has names k.proposition n at

pub needed_proposition : (A : MarkedAutomaton) (names : List Name) (B : Automaton) (n : Name) → IsTrue (list_all is_proposition A.names) → IsTrue (list_all is_proposition names)
    → IsNeeded A names B n → is_proposition n ≡ true
needed_proposition A names B n a f (inl h) = (all_Decides is_proposition A.names).0 a n (positive_listed A.names (marked_cubes A) n h)
needed_proposition A names B n a f (inr h) = (all_Decides is_proposition names).0 f n (positive_listed names (cubes_of B) n h)
