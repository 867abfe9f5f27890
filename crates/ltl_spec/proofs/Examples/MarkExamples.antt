-- A translation that forgets marks, which the language alone refuses.
use Rattle.std.proofs.Common.{◌≡◌, ◌∙◌, ℕ, zero, suc, Bool, false, inl, inr, List, [], ◌∷◌, refl, ap, subst, arith}
use Rattle.std.specs.Prelude.{codes, IsTrue}
use Rattle.ltl_spec.specs.Collections.Sets.{Has}
use Rattle.ltl_spec.specs.Semantics.Word.{Name, Lasso, next, after_steps, is_true_at}
use Rattle.ltl_spec.specs.Formulas.Formula.{Formula, Proposition, Unary, Next, Always, Eventually}
use Rattle.ltl_spec.specs.Semantics.Satisfaction.{Satisfies}
use Rattle.ltl_spec.specs.Semantics.Language.{AcceptsModels}
use Rattle.ltl_spec.specs.Automata.Automaton.{Automaton, Edge, state_at, IsWalk, Accepts}
use Rattle.ltl_spec.proofs.Collections.CaseLaws.{false_is_true}

abbrev always_next_eventually : Formula
always_next_eventually = Unary Always (Unary Next (Unary Eventually (Proposition 0)))

-- What a translation makes of it that marks an edge for `<>p` only where `<>p` isn't promised again. Each edge promises it, `p` or not, so
-- none is marked, and no state accepts
abbrev again : Edge
again = record { cube = []; target = 1; marks = [] }

abbrev unmarked : Automaton
unmarked = record { sets = 0; states = record { accepting = false; edges = again ∷ [] } ∷ record { accepting = false; edges = again ∷ [] } ∷ [] }

-- it has one edge
leads_again : (s : ℕ) (e : Edge) → Has (state_at unmarked s).edges e → e ≡ again
leads_again zero e (inl same) = same
leads_again (suc zero) e (inl same) = same
leads_again zero e (inr none) = absurd none
leads_again (suc zero) e (inr none) = absurd none
leads_again (suc (suc s)) e none = absurd none

module _ (truth : ℕ → ℕ → Bool) (step : ℕ → ℕ) where
  walks_again : (s i t j : ℕ) (es : List Edge) (e : Edge) → IsWalk unmarked truth step s i es t j → Has es e → e ≡ again
  walks_again s i t j (f ∷ es) e (has, allowed, rest) (inl same) = same ∙ leads_again s f has
  walks_again s i t j (f ∷ es) e (has, allowed, rest) (inr later) = walks_again f.target (step i) t j es e rest later
  walks_again s i t j [] e ends none = absurd none

accepts_nothing : (names : List Name) (w : Lasso) → Accepts names unmarked w → ⊥
accepts_nothing names w a =
    let found = a.cycles.accepts in
    let same = walks_again (is_true_at names w) (next w) a.state a.position a.state a.position a.cycle found.0 a.cycles.closes found.1 in
    false_is_true (subst (λ (e : Edge). IsTrue (state_at unmarked e.target).accepting) same found.2)

-- the word `{}; cycle {p}`
abbrev word : Lasso
word = record { stem = [] ∷ []; cycle = (codes "p" ∷ []) ∷ [] }

stays : (k : ℕ) → after_steps (next word) k 1 ≡ 1
stays zero = refl
stays (suc k) = stays k

goes_on : (k : ℕ) → next word (after_steps (next word) k 0) ≡ 1
goes_on zero = refl
goes_on (suc k) = ap (next word) (stays k)

holds : Satisfies (codes "p" ∷ []) word 0 always_next_eventually
holds k = inl (0, ap (λ i. is_true_at (codes "p" ∷ []) word i 0) (goes_on k), λ j l. absurd (omega arith))

pub unmarked_refused : AcceptsModels unmarked always_next_eventually → ⊥
unmarked_refused m = accepts_nothing (codes "p" ∷ []) word ((m (codes "p" ∷ []) word (omega arith)).1 holds)
