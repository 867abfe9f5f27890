-- The product of two automata accepts exactly the words that both accept.
use Rattle.std.proofs.Common.{◌≡◌, ℕ, ◌<◌, ◌↔◌, List, [], length, sym, ap, arith}
use Rattle.std.specs.Prelude.{slice_index_or}
use Rattle.ltl_spec.specs.Collections.Lists.{HasNoRepeats}
use Rattle.ltl_spec.specs.Collections.Sets.{has}
use Rattle.ltl_spec.specs.Semantics.Word.{Name, name_cmp, Lasso, letter_at, next, is_true_at}
use Rattle.ltl_spec.specs.Formulas.Names.{unified}
use Rattle.ltl_spec.specs.Checking.Product.{renamed_state, renamed_automaton, pair_number, product_automaton, unified_number, common_graph, common_start}
use Rattle.ltl_spec.specs.Automata.Automaton.{Automaton, AcceptsFrom, Accepts}
use Rattle.ltl_spec.specs.Checking.Bounds.{IsGraph, IsBuchi}
use Rattle.ltl_spec.proofs.Collections.MemberLaws.{map_length}
use Rattle.ltl_spec.proofs.Checking.UnifiedLaws.{first_names, second_names}
use Rattle.ltl_spec.proofs.Semantics.Runs.{RunFrom}
use Rattle.ltl_spec.proofs.Semantics.RunLaws.{accepts_from_by_run}
use Rattle.ltl_spec.proofs.Checking.ProductRuns.{KeepsTruth, retold_run, renamed_run, run_of_renamed, renamed_inside, product_run, first_run, second_run}

-- names that stay say the same of a word
names_keep : (xs ys : List Name) (number : ℕ → ℕ) (n : ℕ) (w : Lasso) → ((p : ℕ) → p < n → slice_index_or ys (number p) [] ≡ slice_index_or xs p []) → KeepsTruth n number (is_true_at xs w) (is_true_at ys w)
names_keep xs ys number n w same i p l = ap (λ m. has name_cmp m (letter_at w i)) (same p l)

-- the automata, the names of each, the names of both, and the new numbers of the second one's propositions
module _ (A B : Automaton) (own other names : List Name) (number : ℕ → ℕ)
    (graph : IsGraph (length own) A) (buchi : IsBuchi (length other) B)
    (keeps : (p : ℕ) → p < length own → slice_index_or names p [] ≡ slice_index_or own p [])
    (finds : (p : ℕ) → p < length other → slice_index_or names (number p) [] ≡ slice_index_or other p []) where
  -- the second automaton over the names of both
  abbrev renamed : Automaton
  renamed = renamed_automaton number B

  renamed_begins : 0 < length renamed.states
  renamed_begins = let e = map_length (renamed_state number) B.states in let l = buchi.begins in omega (arith, e, l)

  -- the product accepts what both accept
  pub product_accepts : (s : ℕ) (w : Lasso) → 0 < length w.cycle → AcceptsFrom (pair_number A renamed s 0) names (product_automaton A renamed) w ↔ (AcceptsFrom s own A w × Accepts other B w)
  product_accepts s w cycles = (apart, together)
    where
      walks : AcceptsFrom (pair_number A renamed s 0) names (product_automaton A renamed) w ↔ RunFrom (pair_number A renamed s 0) (product_automaton A renamed) (is_true_at names w) (next w)
      walks = accepts_from_by_run (pair_number A renamed s 0) names (product_automaton A renamed) w cycles

      first_walks : AcceptsFrom s own A w ↔ RunFrom s A (is_true_at own w) (next w)
      first_walks = accepts_from_by_run s own A w cycles

      second_walks : AcceptsFrom 0 other B w ↔ RunFrom 0 B (is_true_at other w) (next w)
      second_walks = accepts_from_by_run 0 other B w cycles

      apart : AcceptsFrom (pair_number A renamed s 0) names (product_automaton A renamed) w → AcceptsFrom s own A w × Accepts other B w
      apart a =
          let r = walks.0 a in
          let first = first_run A renamed (is_true_at names w) (next w) (renamed_inside number B buchi.inside) s 0 renamed_begins r graph.accepting graph.marks in
          let second = second_run A renamed (is_true_at names w) (next w) (renamed_inside number B buchi.inside) s 0 renamed_begins r graph.marks buchi.sets in (
            first_walks.1 (retold_run s (length own) A (is_true_at names w) (is_true_at own w) (next w) graph.propositions (names_keep names own (λ p. p) (length own) w (λ p l. sym (keeps p l))) first),
            second_walks.1
                (run_of_renamed number B 0 (length other) (is_true_at other w) (is_true_at names w) (next w) buchi.propositions (names_keep other names number (length other) w finds) second),
          )

      together : AcceptsFrom s own A w × Accepts other B w → AcceptsFrom (pair_number A renamed s 0) names (product_automaton A renamed) w
      together (a, b) =
          let first = retold_run s (length own) A (is_true_at own w) (is_true_at names w) (next w) graph.propositions (names_keep own names (λ p. p) (length own) w keeps) (first_walks.0 a) in
          let second =
          renamed_run number B 0 (length other) (is_true_at other w) (is_true_at names w) (next w) buchi.propositions (names_keep other names number (length other) w finds)
          (second_walks.0 b) in
          walks.1 (product_run A renamed (is_true_at names w) (next w) s 0 first second)

-- the same over the names of both
pub common_accepts : (A B : Automaton) (own other : List Name) → HasNoRepeats own → IsGraph (length own) A → IsBuchi (length other) B → (s : ℕ) (w : Lasso) → 0 < length w.cycle
    → AcceptsFrom (common_start own other A B s) (unified own other) (common_graph own other A B) w ↔ (AcceptsFrom s own A w × Accepts other B w)
common_accepts A B own other differ graph buchi s w cycles =
    product_accepts A B own other (unified own other) (unified_number own other) graph buchi (first_names own other differ) (second_names own other) s w cycles
