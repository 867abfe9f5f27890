-- The literals of two cubes, one after the other.
use Rattle.std.proofs.Common.{◌≡◌, ℕ, ◌<◌, Bool, true, false, cond, List, [], ◌∷◌, map, Option, Some, None, inl, inr, refl, sym, ◌∙◌, ap, subst}
use Rattle.ltl_spec.specs.Collections.Sets.{Has, IsRising, put, set_of, union}
use Rattle.ltl_spec.specs.Transitions.Cubes.{Literal, Cube, literal_cmp, is_contradictory, join_cubes}
use Rattle.ltl_spec.specs.Checking.Product.{renamed_literal, renamed_cube}
use Rattle.ltl_spec.proofs.Collections.SetLaws.{IsRising-set_of, union_cases, union_left, union_right, union_assoc, union_nil, Has-put}
use Rattle.ltl_spec.proofs.Collections.Orders.{literal_linear}
use Rattle.ltl_spec.proofs.Transitions.CubeLaws.{join_cubes_is}
use Rattle.std.specs.Prelude.{slice_get, slice_index_or, option_map}
use Rattle.ltl_spec.specs.Automata.Automaton.{Automaton, Edge, state_at}
use Rattle.ltl_spec.specs.Checking.Bounds.{HasNamesBelow}
use Rattle.ltl_spec.proofs.Collections.FoundLaws.{index_there}
use Rattle.ltl_spec.proofs.Collections.ListLaws.{Has-at}
use Rattle.ltl_sets.specs.Words.{letter_of}
use Rattle.ltl_check.specs.ProductView.{joined_step, no_edge, pair_marks, step_with}
use Rattle.ltl_check.specs.declared.graph.Step.{Step}
use Rattle.ltl_check.specs.declared.product.ProductState.{ProductState}
use Rattle.ltl_sets.specs.declared.literal.Literal as made
use Rattle.ltl_sets.specs.Literals.{literal_of, cube_of}
use Rattle.ltl_spec.proofs.Transitions.SafeLaws.{contradiction_grows}

-- the cube of these literals, unless it contradicts itself
abbrev consistent : Cube → Option Cube
consistent u = cond (is_contradictory u) None (Some u)

-- with one literal first
pub join_one : (a : Cube) (x : Literal) (rest : List Literal) (c : Cube) → join_cubes a (x ∷ []) ≡ Some c → join_cubes a (set_of literal_cmp (x ∷ rest)) ≡ join_cubes c (set_of literal_cmp rest)
join_one a x rest c e =
    let u = sym (union_assoc literal_linear a (x ∷ []) (set_of literal_cmp rest) (IsRising-set_of literal_linear rest)) in
    let v = ap (λ d. union literal_cmp d (set_of literal_cmp rest)) (sym (join_cubes_is a (x ∷ []) c e)) in
    ap consistent (u ∙ v)

pub join_stop : (a : Cube) (x : Literal) (rest : List Literal) → join_cubes a (x ∷ []) ≡ None → join_cubes a (set_of literal_cmp (x ∷ rest)) ≡ None
join_stop a x rest e = by (is_contradictory (union literal_cmp a (x ∷ []))) refl e
  where
    by : (b : Bool) → is_contradictory (union literal_cmp a (x ∷ [])) ≡ b → cond b None (Some (union literal_cmp a (x ∷ []))) ≡ None → join_cubes a (set_of literal_cmp (x ∷ rest)) ≡ None
    by true f q = ap (λ b. cond b None (Some (union literal_cmp a (put literal_cmp x (set_of literal_cmp rest))))) (contradiction_grows (union literal_cmp a (x ∷ [])) (union literal_cmp a (put literal_cmp x (set_of literal_cmp rest))) more f)
      where
        more : (l : Literal) → Has (union literal_cmp a (x ∷ [])) l → Has (union literal_cmp a (put literal_cmp x (set_of literal_cmp rest))) l
        more l h = elim (union_cases literal_linear a (x ∷ []) l h) [
          | inl k ↦ union_left literal_linear a (put literal_cmp x (set_of literal_cmp rest)) l k
          | inr k ↦ elim k [ inl e ↦ union_right literal_linear a (put literal_cmp x (set_of literal_cmp rest)) l (Has-put literal_linear x (set_of literal_cmp rest) l (inl e)) | inr z ↦ absurd z ]
        ]
    by false f q = absurd (cc)

-- with none
pub join_nothing : (a : Cube) → IsRising literal_cmp a → is_contradictory a ≡ false → join_cubes a [] ≡ Some a
join_nothing a r e = ap consistent (union_nil literal_linear a r) ∙ ap (λ b. cond b None (Some a)) e

-- the same for literals of the code, with new numbers
module _ (number : ℕ → ℕ) where
  pub renamed_one : (a : Cube) (ls rest : List made.Literal) (x : made.Literal) (n : ℕ) (c : Cube) → ls ≡ x ∷ rest → number x.proposition ≡ n → join_cubes a (record { proposition = n; positive = x.positive } ∷ []) ≡ Some c
      → join_cubes a (renamed_cube number (cube_of ls)) ≡ join_cubes c (renamed_cube number (cube_of rest))
  renamed_one a ls rest x n c e f g =
      ap (λ (m : List made.Literal). join_cubes a (renamed_cube number (cube_of m))) e
      ∙ join_one a (renamed_literal number (literal_of x)) (map (renamed_literal number) (cube_of rest)) c (ap (λ m. join_cubes a (record { proposition = m; positive = x.positive } ∷ [])) f ∙ g)

  pub renamed_stop : (a : Cube) (ls rest : List made.Literal) (x : made.Literal) (n : ℕ) → ls ≡ x ∷ rest → number x.proposition ≡ n → join_cubes a (record { proposition = n; positive = x.positive } ∷ []) ≡ None
      → join_cubes a (renamed_cube number (cube_of ls)) ≡ None
  renamed_stop a ls rest x n e f g =
      ap (λ (m : List made.Literal). join_cubes a (renamed_cube number (cube_of m))) e
      ∙ join_stop a (renamed_literal number (literal_of x)) (map (renamed_literal number) (cube_of rest)) (ap (λ m. join_cubes a (record { proposition = m; positive = x.positive } ∷ [])) f ∙ g)

-- the propositions of the literals are below n
abbrev pub AreBelow : ℕ → List made.Literal → Type 0
AreBelow n ls = (l : Literal) → Has (cube_of ls) l → l.proposition < n

pub first_below : (n : ℕ) (ls rest : List made.Literal) (x : made.Literal) → ls ≡ x ∷ rest → AreBelow n ls → x.proposition < n
first_below n ls rest x e h = h (literal_of x) (subst (λ (m : List made.Literal). Has (cube_of m) (literal_of x)) (sym e) (inl refl))

pub rest_below : (n : ℕ) (ls rest : List made.Literal) (x : made.Literal) → ls ≡ x ∷ rest → AreBelow n ls → AreBelow n rest
rest_below n ls rest x e h l k = h l (subst (λ (m : List made.Literal). Has (cube_of m) l) (sym e) (inr k))

-- so are those of an edge of an automaton
pub edge_named : (n : ℕ) (B : Automaton) (t : ℕ) (es : List Edge) (m : ℕ) (e : Edge) → HasNamesBelow n B → es ≡ (state_at B t).edges → slice_get es m ≡ Some e → (l : Literal) → Has e.cube l → l.proposition < n
edge_named n B t es m e h q i l k = let w = index_there es m e e i in h t e (subst (λ (xs : List Edge). Has xs e) q (subst (Has es) w.1 (Has-at es m e w.0))) l k

pub second_seen : (es all : List Edge) (i j : ℕ) (f : Edge) → es ≡ all → i ≡ j → slice_get es i ≡ Some f → slice_index_or all j no_edge ≡ f
second_seen es all i j f q s h = (λ x. slice_index_or (sym q x) (sym s x) no_edge) ∙ (index_there es i f no_edge h).1

-- what is found where the literals of both are joined, or contradict each other
pub step_found : (sets : ℕ) (accepting : Bool) (number : ℕ → ℕ) (e f : Edge) (r : Option Cube) (marks letter : List ℕ) (c : Cube) → r ≡ join_cubes e.cube (renamed_cube number f.cube) → r ≡ Some c → marks ≡ pair_marks sets accepting e.marks → letter ≡ letter_of c
    → Some (let x : Step ProductState = record { target = record { first = e.target; second = f.target }; marks = marks; letter = letter } in x) ≡ joined_step sets accepting number e f
step_found sets accepting number e f r marks letter c j s m l =
    (λ i. Some (let x : Step ProductState = record { target = record { first = e.target; second = f.target }; marks = m i; letter = l i } in x)) ∙ ap (option_map (step_with sets accepting e f)) (sym s ∙ j)

pub step_missed : (sets : ℕ) (accepting : Bool) (number : ℕ → ℕ) (e f : Edge) (r : Option Cube) → r ≡ join_cubes e.cube (renamed_cube number f.cube) → r ≡ None → None ≡ joined_step sets accepting number e f
step_missed sets accepting number e f r j s = ap (option_map (step_with sets accepting e f)) (sym s ∙ j)

-- the same, where the first automaton's edge was asked for part by part
module _ (sets : ℕ) (accepting : Bool) (number : ℕ → ℕ) (e f : Edge) where
  pub look_found : (cube : Cube) (target : ℕ) (own : List ℕ) (r : Option Cube) (marks letter : List ℕ) (c : Cube) → cube ≡ e.cube → target ≡ e.target → own ≡ e.marks → r ≡ join_cubes cube (renamed_cube number f.cube) → r ≡ Some c
      → marks ≡ pair_marks sets accepting own → letter ≡ letter_of c
      → Some (let x : Step ProductState = record { target = record { first = target; second = f.target }; marks = marks; letter = letter } in x) ≡ joined_step sets accepting number e f
  look_found cube target own r marks letter c a t o j s m l =
      (λ i. Some (let x : Step ProductState = record { target = record { first = t i; second = f.target }; marks = marks; letter = letter } in x))
      ∙ step_found sets accepting number e f r marks letter c (j ∙ ap (λ d. join_cubes d (renamed_cube number f.cube)) a) s (m ∙ ap (pair_marks sets accepting) o) l

  pub look_missed : (cube : Cube) (r : Option Cube) → cube ≡ e.cube → r ≡ join_cubes cube (renamed_cube number f.cube) → r ≡ None → None ≡ joined_step sets accepting number e f
  look_missed cube r a j s = step_missed sets accepting number e f r (j ∙ ap (λ d. join_cubes d (renamed_cube number f.cube)) a) s
