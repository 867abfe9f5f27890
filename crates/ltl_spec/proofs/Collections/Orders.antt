-- The comparisons of the definitions are linear orders.
use Rattle.std.proofs.Common.{◌≡◌, Bool, true, false, refl}
use Rattle.std.specs.declared.cmp.Ordering.{Ordering}
use Rattle.std.specs.declared.cmp.Ordering.TheVariants.{Less, Equal, Greater}
use Rattle.std.specs.Ordering.{nat_cmp, bool_cmp, ordering_then}
use Rattle.std.specs.Cmp.{bool_cmp_total}
use Rattle.std.specs.Cmp.Lexicographic.{slice_cmp}
use Rattle.std.specs.FinMap.{nat_cmp-IsAntisymmetric, slice_cmp-IsAntisymmetric}
use Rattle.std.proofs.lemmas.Cmp.{nat_cmp_total, lists_total, on_total, then_total, back_total}
use Rattle.ltl_spec.specs.Collections.Sets.{IsLinearOrder}
use Rattle.ltl_spec.specs.Semantics.Word.{name_cmp}
use Rattle.ltl_spec.specs.Transitions.Cubes.{Literal, literal_cmp, cube_cmp}
use Rattle.ltl_spec.specs.Transitions.Pairs.{Pair, row_set_cmp, pair_cmp}
use Rattle.ltl_spec.specs.Automata.Automaton.{Edge, edge_cmp}
use Rattle.ltl_spec.specs.Construction.Levels.{LevelEdge, level_edge_cmp}

-- of two answers in a row that come out equal, both are
pub first_equal : (a b : Ordering) → ordering_then a b ≡ Equal → a ≡ Equal
first_equal Less b e = e
first_equal Equal b e = refl
first_equal Greater b e = e

pub second_equal : (a b : Ordering) → ordering_then a b ≡ Equal → b ≡ Equal
second_equal Less b e = cc
second_equal Equal b e = e
second_equal Greater b e = cc

pub nat_linear : IsLinearOrder nat_cmp
nat_linear = record { total = nat_cmp_total; exact = nat_cmp-IsAntisymmetric }

pub list_linear : {K : Type 0} {R : K → K → Ordering} → IsLinearOrder R → IsLinearOrder (slice_cmp R)
list_linear o = record { total = lists_total o.total; exact = slice_cmp-IsAntisymmetric o.exact }

pub name_linear : IsLinearOrder name_cmp
name_linear = list_linear nat_linear

pub row_set_linear : IsLinearOrder row_set_cmp
row_set_linear = list_linear nat_linear

flipped_exact : (a b : Bool) → bool_cmp b a ≡ Equal → a ≡ b
flipped_exact true true e = refl
flipped_exact true false e = cc
flipped_exact false true e = cc
flipped_exact false false e = refl

pub literal_linear : IsLinearOrder literal_cmp
literal_linear = record {
  total = then_total (on_total (λ (l : Literal). l.proposition) nat_cmp_total) (on_total (λ (l : Literal). l.positive) (back_total bool_cmp_total));
  exact = λ l m e.
      let p = nat_linear.exact l.proposition m.proposition (first_equal _ _ e) in
      let s = flipped_exact l.positive m.positive (second_equal _ _ e) in
      λ i. record { proposition = p i; positive = s i };
}

pub cube_linear : IsLinearOrder cube_cmp
cube_linear = list_linear literal_linear

pub pair_linear : IsLinearOrder pair_cmp
pair_linear = record {
  total = then_total (on_total (λ (p : Pair). p.cube) cube_linear.total) (on_total (λ (p : Pair). p.targets) row_set_linear.total);
  exact = λ p q e.
      let c = cube_linear.exact p.cube q.cube (first_equal _ _ e) in
      let t = row_set_linear.exact p.targets q.targets (second_equal _ _ e) in
      λ i. record { cube = c i; targets = t i };
}

pub edge_linear : IsLinearOrder edge_cmp
edge_linear = record {
  total = then_total (on_total (λ (e : Edge). e.cube) cube_linear.total) (then_total (on_total (λ (e : Edge). e.target) nat_cmp_total) (on_total (λ (e : Edge). e.marks) row_set_linear.total));
  exact = λ e f h.
      let c = cube_linear.exact e.cube f.cube (first_equal _ _ h) in
      let t = nat_linear.exact e.target f.target (first_equal _ _ (second_equal _ _ h)) in
      let m = row_set_linear.exact e.marks f.marks (second_equal _ _ (second_equal _ _ h)) in
      λ i. record { cube = c i; target = t i; marks = m i };
}

pub level_edge_linear : IsLinearOrder level_edge_cmp
level_edge_linear = record {
  total = then_total (on_total (λ (e : LevelEdge). e.cube) cube_linear.total) (then_total (on_total (λ (e : LevelEdge). e.copy.state) nat_cmp_total) (on_total (λ (e : LevelEdge). e.copy.level) nat_cmp_total));
  exact = λ e f h.
      let c = cube_linear.exact e.cube f.cube (first_equal _ _ h) in
      let s = nat_linear.exact e.copy.state f.copy.state (first_equal _ _ (second_equal _ _ h)) in
      let l = nat_linear.exact e.copy.level f.copy.level (second_equal _ _ (second_equal _ _ h)) in
      λ i. record { cube = c i; copy = record { state = s i; level = l i } };
}
