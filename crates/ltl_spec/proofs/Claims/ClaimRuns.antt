-- The runs of one automaton followed by another.
use Rattle.std.proofs.Common.{◌≡◌, ℕ, zero, suc, Bool, arith, refl, sym, subst}
use Rattle.std.specs.Prelude.{IsTrue}
use Rattle.ltl_spec.specs.Collections.Sets.{Has}
use Rattle.ltl_spec.specs.Transitions.Cubes.{allows}
use Rattle.ltl_spec.specs.Semantics.Word.{after_steps}
use Rattle.ltl_spec.specs.Automata.Automaton.{Automaton, Edge, state_at}
use Rattle.ltl_spec.proofs.Semantics.Runs.{RunFrom}

module _ (A B : Automaton) (truth other : ℕ → ℕ → Bool) (IsFollowed : ℕ → ℕ → Type 0) where
  -- an edge of B from state t that may be taken at position i with this one, and leads to a state that follows its target
  abbrev pub Follower : ℕ → ℕ → Edge → Type 0
  Follower t i e = (f : Edge) × Has (state_at B t).edges f × IsTrue (allows (other i) f.cube) × IsFollowed e.target f.target

  -- Each state of A that accepts is followed by states that accept, and each of its edges by an edge
  pub record Follows : Type 0 where
    pub accepts : (s t : ℕ) → IsFollowed s t → IsTrue (state_at A s).accepting → IsTrue (state_at B t).accepting
    pub edges : (s t i : ℕ) (e : Edge) → IsFollowed s t → Has (state_at A s).edges e → IsTrue (allows (truth i) e.cube) → Follower t i e

  module _ (step : ℕ → ℕ) (start begin : ℕ) (follows : Follows) (first : IsFollowed start begin) (r : RunFrom start A truth step) where
    abbrev Reached : ℕ → Type 0
    Reached k = (t : ℕ) × IsFollowed (r.state k) t

    follower : (k : ℕ) (p : Reached k) → Follower p.0 (after_steps step k 0) (r.edge k)
    follower k p = follows.edges (r.state k) p.0 (after_steps step k 0) (r.edge k) p.1 (r.edges k) (r.allowed k)

    reached : (k : ℕ) → Reached k
    reached zero = (begin, subst (λ s. IsFollowed s begin) (sym r.starts) first)
    reached (suc k) = let w = follower k (reached k) in (w.0.target, subst (λ s. IsFollowed s w.0.target) (sym (r.leads k)) w.3)

    pub followed_run : B.sets ≡ 0 → RunFrom begin B other step
    unfolding reached
    followed_run none = record {
      state = λ k. (reached k).0;
      edge = λ k. (follower k (reached k)).0;
      starts = refl;
      edges = λ k. (follower k (reached k)).1;
      leads = λ k. refl;
      allowed = λ k. (follower k (reached k)).2;
      accepts = λ k. let (j, l, a) = r.accepts k in (j, l, follows.accepts (r.state j) (reached j).0 (reached j).1 a);
      marks = λ f k l. absurd (omega (arith, l, none));
    }
