-- Cubes at a letter.
use Rattle.std.proofs.Common.{◌≡◌, ℕ, Bool, true, false, cond, not, inl, inr, sym, ◌∙◌, ap, Some, None, refl}
use Rattle.std.specs.Bool.{beq, Decides}
use Rattle.ltl_spec.specs.Collections.Sets.{Has, union, has}
use Rattle.ltl_spec.specs.Transitions.Cubes.{Literal, literal_cmp, opposite, Cube, is_contradictory, join_cubes, allows}
use Rattle.ltl_spec.proofs.Collections.SetLaws.{union_cases, has_Decides}
use Rattle.ltl_spec.proofs.Collections.Orders.{literal_linear}
use Rattle.ltl_spec.proofs.Collections.MemberLaws.{all_Decides, any_cases}
use Rattle.ltl_spec.proofs.Collections.CaseLaws.{beq_true, beq_refl}

module _ (truth : ℕ → Bool) where
  -- the letter agrees with each literal
  abbrev pub Agrees : Cube → Type 0
  Agrees c = (l : Literal) → Has c l → truth l.proposition ≡ l.positive

  -- the test is right
  pub allows_Decides : (c : Cube) → Decides (allows truth c) (Agrees c)
  allows_Decides c = (
    (λ e l h. beq_true (truth l.proposition) l.positive ((all_Decides (λ m. beq (truth m.proposition) m.positive) c).0 e l h)),
    λ f. (all_Decides (λ m. beq (truth m.proposition) m.positive) c).1 (λ l h. ap (beq (truth l.proposition)) (sym (f l h)) ∙ beq_refl (truth l.proposition)),
  )

  -- no sign is its opposite
  opposite_signs : (b : Bool) → b ≡ not b → ⊥
  opposite_signs true e = cc
  opposite_signs false e = cc

  -- literals that a letter agrees with don't contradict each other
  no_contradiction : (c : Cube) → Agrees c → is_contradictory c ≡ false
  no_contradiction c f = at (is_contradictory c) refl
    where
      at : (b : Bool) → is_contradictory c ≡ b → b ≡ false
      at false e = refl
      at true e =
          let (l, h, t) = any_cases (λ m. has literal_cmp (opposite m) c) c e in
          absurd (opposite_signs l.positive (sym (f l h) ∙ f (opposite l) ((has_Decides literal_linear (opposite l) c).0 t)))

  -- a letter that agrees with two cubes agrees with both at once
  pub agrees_union : (a b : Cube) → Agrees a → Agrees b → Agrees (union literal_cmp a b)
  agrees_union a b f g l h = elim (union_cases literal_linear a b l h) [ inl m ↦ f l m | inr m ↦ g l m ]

  -- two cubes that agree with a letter join
  pub join_cubes_agree : (a b : Cube) → Agrees a → Agrees b → join_cubes a b ≡ Some (union literal_cmp a b)
  join_cubes_agree a b f g = ap (λ t. cond t None (Some (union literal_cmp a b))) (no_contradiction (union literal_cmp a b) (agrees_union a b f g))

-- two cubes that join are the joined cube
pub join_cubes_is : (a b c : Cube) → join_cubes a b ≡ Some c → c ≡ union literal_cmp a b
join_cubes_is a b c e = at (is_contradictory (union literal_cmp a b)) e
  where
    at : (t : Bool) → cond t None (Some (union literal_cmp a b)) ≡ Some c → c ≡ union literal_cmp a b
    at true d = cc
    at false d = cc
