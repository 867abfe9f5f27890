-- The texts as what is put one after the other.
use Rattle.std.proofs.Common.{◌≡◌, ◌∙◌, ap, sym, refl, subst, ℕ, List, [], ◌∷◌, ◌++◌, append_assoc, append-nil, false, slice_index_or}
use Rattle.std.proofs.Common.{inl, inr, ◌<◌, suc, arith}
use Rattle.std.specs.List.{All}
use Rattle.std.specs.Prelude.{codes, map}
use Rattle.std.specs.List.{AllByRecursion, flat_map}
use Rattle.ltl_spec.proofs.Collections.SetLaws.{all_at}
use Rattle.ltl_spec.specs.Collections.Lists.{joined_by}
use Rattle.ltl_spec.specs.Semantics.Word.{Name}
use Rattle.ltl_spec.specs.Transitions.Cubes.{Literal, Cube}
use Rattle.ltl_sets.specs.declared.literal.Literal as made
use Rattle.ltl_sets.specs.Literals.{literal_of, cube_of}
use Rattle.ltl_spec.specs.Automata.Automaton as spec
use Rattle.ltl_text.specs.Options.{edge_at, guards_text}
use Rattle.ltl_text.specs.Names.{HasNames}
use Rattle.ltl_spec.specs.Automata.ClaimText.{literal_text, cube_text}

-- ---- a literal
module _ (names : List Name) (l : Literal) (name : List ℕ) (is : name ≡ slice_index_or names l.proposition []) where
  pub negative_text : l.positive ≡ false → codes "!" ++ name ≡ literal_text names l
  negative_text e = rw (e, is) refl

-- ---- pieces in a row, each but the first behind this
abbrev pub led : List ℕ → List (List ℕ) → List ℕ
led between xs = flat_map (λ x. between ++ x) xs

pub joined_led : (between x : List ℕ) (xs : List (List ℕ)) → joined_by between (x ∷ xs) ≡ x ++ led between xs
joined_led between x [] = sym (append-nil x)
joined_led between x (y ∷ xs) =
    ap (λ t. (x ++ between) ++ t) (joined_led between y xs) ∙ append_assoc x between (y ++ led between xs) ∙ ap (λ t. x ++ t) (sym (append_assoc between y (led between xs)))

-- the pieces of a text, one after the other
pub amid : (a b c d : List ℕ) → (a ++ (b ++ c)) ++ d ≡ a ++ (b ++ (c ++ d))
amid a b c d = simp append_assoc

pub onward : (a b c d : List ℕ) → ((a ++ b) ++ c) ++ d ≡ a ++ (b ++ (c ++ d))
onward a b c d = simp append_assoc

-- ---- a guard
module _ (names : List Name) where
  abbrev pub texts_of : List made.Literal → List (List ℕ)
  texts_of ls = map (λ l. literal_text names (literal_of l)) ls

  texts_are : (ls : List made.Literal) → map (literal_text names) (cube_of ls) ≡ texts_of ls
  texts_are [] = refl
  texts_are (l ∷ ls) = ap (λ t. literal_text names (literal_of l) ∷ t) (texts_are ls)

  pub guard_begins : (c : Cube) (l : made.Literal) (ls rest : List made.Literal) → cube_of rest ≡ c → rest ≡ l ∷ ls
      → cube_text names c ≡ codes "(" ++ (literal_text names (literal_of l) ++ (led (codes " && ") (texts_of ls) ++ codes ")"))
  guard_begins c l ls rest e f =
      ap (cube_text names) (sym e ∙ ap cube_of f)
      ∙ ap (λ t. (codes "(" ++ t) ++ codes ")") (joined_led (codes " && ") (literal_text names (literal_of l)) (map (literal_text names) (cube_of ls))
      ∙ ap (λ t. literal_text names (literal_of l) ++ led (codes " && ") t) (texts_are ls))
      ∙ amid (codes "(") (literal_text names (literal_of l)) (led (codes " && ") (texts_of ls)) (codes ")")

  pub guard_goes_on : (rest : List made.Literal) (l : made.Literal) (ls : List made.Literal) → rest ≡ l ∷ ls
      → led (codes " && ") (texts_of rest) ++ codes ")" ≡ codes " && " ++ (literal_text names (literal_of l) ++ (led (codes " && ") (texts_of ls) ++ codes ")"))
  guard_goes_on rest l ls e =
      ap (λ t. led (codes " && ") (texts_of t) ++ codes ")") e ∙ onward (codes " && ") (literal_text names (literal_of l)) (led (codes " && ") (texts_of ls)) (codes ")")

  pub guard_ends : (rest : List made.Literal) → rest ≡ [] → led (codes " && ") (texts_of rest) ++ codes ")" ≡ codes ")"
  guard_ends rest e = ap (λ t. led (codes " && ") (texts_of t) ++ codes ")") e

module _ (n : ℕ) (c : Cube) (ls : List made.Literal) (is : cube_of ls ≡ c) (h : HasNames n c) where
  pub has_names : HasNames n (cube_of ls)
  has_names = subst (HasNames n) (sym is) h

-- of each literal
pub names_by_each : (n : ℕ) (c : Cube) → AllByRecursion (λ l. l.proposition < n) c → HasNames n c
names_by_each n c a l h = all_at (λ (x : Literal). x.proposition < n) c l a h

module _ (n : ℕ) (l : made.Literal) (ls rest : List made.Literal) (e : rest ≡ l ∷ ls) (h : HasNames n (cube_of rest)) where
  cons_names : HasNames n (cube_of (l ∷ ls))
  cons_names = subst (λ (xs : List made.Literal). HasNames n (cube_of xs)) e h

  pub first_name : l.proposition < n
  first_name = cons_names (literal_of l) (inl refl)

  pub other_names : HasNames n (cube_of ls)
  other_names x p = cons_names x (inr p)

-- ---- the guards of a target
module _ (names : List Name) (es : List spec.Edge) where
  abbrev pub guards_of : List ℕ → List (List ℕ)
  guards_of ps = map (λ p. cube_text names (edge_at es p).cube) ps

  pub guards_begin : (c : Cube) (p : ℕ) (others places : List ℕ) → places ≡ p ∷ others → (edge_at es p).cube ≡ c
      → guards_text names es places ≡ cube_text names c ++ led (codes " || ") (guards_of others)
  guards_begin c p others places e f =
      ap (guards_text names es) e ∙ joined_led (codes " || ") (cube_text names (edge_at es p).cube) (guards_of others)
      ∙ ap (λ x. cube_text names x ++ led (codes " || ") (guards_of others)) f

  pub guards_go_on : (c : Cube) (p : ℕ) (ps rest : List ℕ) → rest ≡ p ∷ ps → (edge_at es p).cube ≡ c
      → led (codes " || ") (guards_of rest) ≡ codes " || " ++ (cube_text names c ++ led (codes " || ") (guards_of ps))
  guards_go_on c p ps rest e f =
      ap (λ t. led (codes " || ") (guards_of t)) e ∙ append_assoc (codes " || ") (cube_text names (edge_at es p).cube) (led (codes " || ") (guards_of ps))
      ∙ ap (λ x. codes " || " ++ (cube_text names x ++ led (codes " || ") (guards_of ps))) f

-- ---- what holds of each place
module _ (P : ℕ → Type 0) (p : ℕ) (ps places : List ℕ) (e : places ≡ p ∷ ps) (h : All P places) where
  all_again : All P (p ∷ ps)
  all_again = subst (All P) e h

  pub first_all : P p
  first_all = all_again 0 p (omega arith)

  pub others_all : All P ps
  others_all k d lt = all_again (suc k) d (omega arith)
