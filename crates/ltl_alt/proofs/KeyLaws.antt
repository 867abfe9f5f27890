-- Sets of rows by the list numbers of their components.
use Rattle.std.proofs.Common.{◌≡◌, ℕ, Bool, inl, inr, List, sym, ◌∙◌, ap, subst, Option, None, Some, Result, Ok, Err}
use Rattle.std.specs.declared.alloc.AllocError.{AllocError}
use Rattle.std.specs.declared.vec.Vec.{Vec}
use Rattle.std.specs.Prelude.{nat_eq, IfOk, IfSome}
use Rattle.std.specs.Cmp.Lexicographic.{pointwise, bytes_decides}
use Rattle.std.specs.Map.{lookup}
use Rattle.indexmap.specs.IndexMap.{insert_entry}
use Rattle.ltl_spec.specs.Collections.Sets.{Has}
use Rattle.ltl_spec.specs.Transitions.Pairs.{RowSet}
use Rattle.ltl_spec.specs.Transitions.RowTransitions.{Table, Transition}
use Rattle.ltl_spec.proofs.Transitions.FactorLaws.{all_products}
use Rattle.ltl_spec.proofs.Transitions.ProductTransitions.{in_order}
use Rattle.ltl_alt.specs.FinalView.{IsLonger}
use Rattle.ltl_alt.specs.KeyView.{AreKeys, IsKeyOf, HasSameTransitions}
use Rattle.ltl_alt.proofs.FinalLaws.{factors_longer}
use Rattle.ltl_alt.proofs.MapLaws.{entry_cases, entry_passes, longer_within}

-- keys stay keys where more lists are listed
pub keys_longer : {A : Type 0} (T : Table) (keep : Bool) (lists new : List (List Transition)) (states : List (Vec ℕ A × RowSet)) → IsLonger lists new → AreKeys T keep lists states → AreKeys T keep new states
keys_longer T keep lists new states g w key state h =
    let is = w key state h in
    record {
      within = λ k m. longer_within lists new g k (is.within k m);
      transitions = is.transitions ∙ ap (λ tss. in_order (all_products T tss)) (sym (factors_longer lists new key.items g is.within));
    }

-- what is found under a key
pub key_known : {A : Type 0} (T : Table) (keep : Bool) (lists : List (List Transition)) (states : List (Vec ℕ A × RowSet)) (numbers : List ℕ) (o : Option RowSet) → AreKeys T keep lists states → o ≡ lookup (λ k. pointwise nat_eq numbers k.items) states
    → IfSome o (IsKeyOf T keep lists numbers)
key_known T keep lists states numbers None w e = tt
key_known T keep lists states numbers (Some state) w e =
    let (k, h, p) = entry_passes (λ k. pointwise nat_eq numbers k.items) states state (sym e) in
    subst (λ ns. IsKeyOf T keep lists ns state) (sym ((bytes_decides numbers k.items).0 p)) (w k state h)

-- one key more
pub keys_more : {A : Type 0} (T : Table) (keep : Bool) (lists : List (List Transition)) (states more : List (Vec ℕ A × RowSet)) (key : Vec ℕ A) (state : RowSet) → IsKeyOf T keep lists key.items state → AreKeys T keep lists states
    → more ≡ insert_entry (λ x y. pointwise nat_eq x.items y.items) states key state → AreKeys T keep lists more
keys_more T keep lists states more key state is w e k s h =
    elim (entry_cases (λ x y. pointwise nat_eq x.items y.items) states key k state s (subst (λ es. Has es (k, s)) e h)) [
      | inl m ↦ w k s m
      | inr m ↦ elim m.0 [
        | inl q ↦ subst (λ x. IsKeyOf T keep lists x.items s) (sym q) (subst (IsKeyOf T keep lists key.items) (sym m.1) is)
        | inr q ↦ subst (λ ns. IsKeyOf T keep lists ns s) ((bytes_decides key.items k.items).0 q) (subst (IsKeyOf T keep lists key.items) (sym m.1) is)
      ]
    ]

-- sets of rows with one key have the same transitions
pub same_transitions_of : (T : Table) (keep : Bool) (lists : List (List Transition)) (numbers : List ℕ) (state : RowSet) (r : Result (Option RowSet) AllocError) → IsKeyOf T keep lists numbers state → IfOk r (λ o. IfSome o (IsKeyOf T keep lists numbers))
    → IfOk r (λ o. IfSome o (HasSameTransitions T keep state))
same_transitions_of T keep lists numbers state (Err e) w f = tt
same_transitions_of T keep lists numbers state (Ok None) w f = tt
same_transitions_of T keep lists numbers state (Ok (Some same_successors_as)) w f = f.transitions ∙ sym w.transitions
