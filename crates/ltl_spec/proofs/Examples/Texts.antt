-- Worked examples of texts, tokens, faults and words.
use Rattle.std.proofs.Common.{◌≡◌, ℕ, zero, suc, Bool, true, false, ap, inl, inr, [], ◌∷◌, refl, arith}
use Rattle.std.specs.Prelude.{codes}
use Rattle.ltl_spec.specs.Semantics.Word.{Lasso, next, after_steps, is_true_at}
use Rattle.ltl_spec.specs.Formulas.Formula.{Proposition, Unary, Binary, Not, Next, Always, Eventually, And, Implies, Iff, Until, Release, Reading}
use Rattle.ltl_spec.specs.Formulas.Tokens.{ConstantWord, NameWord, UnarySign, BinarySign, Unknown, tokens, items}
use Rattle.ltl_spec.specs.Formulas.Grammar.{IsTextOf}
use Rattle.ltl_spec.specs.Formulas.Canonical.{canonical_text}
use Rattle.ltl_spec.specs.Semantics.Satisfaction.{Satisfies}
use Rattle.ltl_spec.specs.Automata.Automaton.{Automaton, Edge, Accepts}
use Rattle.ltl_spec.specs.NormalForms.Normal.{Normal}
use Rattle.ltl_spec.specs.NormalForms.NormalForm.{core}
use Rattle.ltl_spec.proofs.Examples.WithinLimits.{generalized_within}
use Rattle.ltl_spec.specs.Construction.Translation.{IsTranslation}
use Rattle.ltl_spec.proofs.Formulas.ReaderLaws.{verdict_reading}

-- the longest token is taken, and a name has no upper-case letter
until_tokens : tokens (codes "pUq") ≡ NameWord (codes "p") ∷ BinarySign Until ∷ NameWord (codes "q") ∷ []
until_tokens = refl

true1_tokens : tokens (codes " true1\ttrue") ≡ NameWord (codes "true1") ∷ ConstantWord true ∷ []
true1_tokens = refl

arrows : tokens (codes "<><->->[]!X/\\&&") ≡ UnarySign Eventually ∷ BinarySign Iff ∷ BinarySign Implies ∷ UnarySign Always ∷ UnarySign Not ∷ UnarySign Next ∷ BinarySign And ∷ BinarySign And ∷ []
arrows = refl

-- `G`, `F` and `R` are other spellings of `[]`, `<>` and `V`; other upper-case letters begin no token
letter_tokens : tokens (codes "GFpRq") ≡ UnarySign Always ∷ UnarySign Eventually ∷ NameWord (codes "p") ∷ BinarySign Release ∷ NameWord (codes "q") ∷ []
letter_tokens = refl

weak_until_items : items (codes "p W q") ≡ record { token = NameWord (codes "p"); start = 0; end = 1 } ∷ record { token = Unknown; start = 2; end = 3 } ∷ []
weak_until_items = refl

unknown_items : items (codes "p & q") ≡ record { token = NameWord (codes "p"); start = 0; end = 1 } ∷ record { token = Unknown; start = 2; end = 3 } ∷ []
unknown_items = refl

-- `p -> q -> p` groups to the right
abbrev p_q_p : Reading
p_q_p = record { formula = Binary Implies (Proposition 0) (Binary Implies (Proposition 1) (Proposition 0)); names = codes "p" ∷ codes "q" ∷ [] }

p_q_p_text : IsTextOf (codes "p -> q -> p") p_q_p
p_q_p_text = verdict_reading (codes "p -> q -> p") p_q_p refl

p_q_p_canonical : canonical_text p_q_p ≡ codes "(p -> (q -> p))"
p_q_p_canonical = refl

-- the word `{p}; cycle {}`
abbrev word : Lasso
word = record { stem = (codes "p" ∷ []) ∷ []; cycle = [] ∷ [] }

stays : (k : ℕ) → after_steps (next word) k 1 ≡ 1
stays zero = refl
stays (suc k) = stays k

p_false : (i : ℕ) → i ≡ 1 → is_true_at (codes "p" ∷ []) word i 0 ≡ false
p_false i e = ap (λ j. is_true_at (codes "p" ∷ []) word j 0) e

-- `p && X []!p` holds on it
holds_once : Satisfies (codes "p" ∷ []) word 0 (Binary And (Proposition 0) (Unary Next (Unary Always (Unary Not (Proposition 0)))))
holds_once = (refl, λ k. inl (λ t. both (p_false _ (stays k)) t))
  where
    both : {b : Bool} → b ≡ false → b ≡ true → ⊥
    both f t = cc

-- the automaton of `<>p` accepts it: to the accepting state by p, and there for ever
abbrev eventually_p : Automaton
eventually_p = record {
  sets = 0;
  states = record { accepting = false; edges = record { cube = []; target = 0; marks = [] } ∷ record { cube = record { proposition = 0; positive = true } ∷ []; target = 1; marks = [] } ∷ [] }
      ∷ record { accepting = true; edges = record { cube = []; target = 1; marks = [] } ∷ [] } ∷ [];
}

loop : Edge
loop = record { cube = []; target = 1; marks = [] }

accepted : Accepts (codes "p" ∷ []) eventually_p word
unfolding loop
accepted = record {
  state = 1;
  position = 1;
  stem = record { cube = record { proposition = 0; positive = true } ∷ []; target = 1; marks = [] } ∷ [];
  cycle = loop ∷ [];
  arrives = (inr (inl refl), refl, (refl, refl));
  cycles = record { closes = (inl refl, refl, (refl, refl)); moves = λ e. cc; accepts = (loop, inl refl, refl); marks = λ k l. absurd (omega arith) };
}

-- the translation of `[]<>p`: its two sets of rows are all
always_eventually : Normal
always_eventually = core (Unary Always (Unary Eventually (Proposition 0))) false true

translation : IsTranslation always_eventually (record { keep_implied = false; keep_equal = false })
    (record {
      sets = 0;
      states =
          record { accepting = false; edges = record { cube = []; target = 0; marks = [] } ∷ record { cube = record { proposition = 0; positive = true } ∷ []; target = 1; marks = [] } ∷ [] }
          ∷ record { accepting = true; edges = record { cube = []; target = 0; marks = [] } ∷ record { cube = record { proposition = 0; positive = true } ∷ []; target = 1; marks = [] } ∷ [] }
          ∷ [];
    })
unfolding always_eventually
translation = (generalized_within always_eventually false 2, (2, refl, refl), refl)
