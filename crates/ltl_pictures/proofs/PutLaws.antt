-- The parts of the text, one after the other.
use Rattle.std.proofs.Common.{◌≡◌, ◌∙◌, ap, ap₂, sym, refl, ℕ, zero, suc, ◌<◌, Bool, true, false, List, [], ◌∷◌, ◌++◌, length, map, append_assoc, append-nil, slice_index_or, drop, arith}
use Rattle.std.specs.Prelude.{codes, flat_map, Option, Some, None, ◌&&◌, ◌||◌, if◌then◌else◌}
use Rattle.std.specs.Fmt.{decimal}
use Rattle.std.specs.List.{list_all, list_any}
use Rattle.ltl_spec.specs.Semantics.Word.{Name}
use Rattle.ltl_spec.proofs.Collections.MemberLaws.{at_map}
use Rattle.ltl_spec.specs.Transitions.Cubes.{Literal, Cube}
use Rattle.ltl_spec.specs.Automata.Automaton.{Edge}
use Rattle.ltl_spec.specs.Automata.GeneralizedText.{marks_text}
use Rattle.ltl_sets.specs.declared.literal.Literal as made
use Rattle.ltl_sets.specs.Literals.{literal_of, cube_of}
use Rattle.ltl_text.proofs.TextLaws.{joined_led, led}
use Rattle.ltl_pictures.specs.DotText.{acceptance_name, and_text, edge_text, formula_text, head_text, label_text, labelled_end, literal_text, node_end, node_text, part_text, title_line}
use Rattle.ltl_pictures.specs.NamedAutomaton.{NamedAutomaton}
use Rattle.ltl_pictures.specs.NameText.{name_text}

-- ---- element by element

pub begun_flat : {X : Type 0} (f : X → List ℕ) (xs : List X) → flat_map f xs ≡ flat_map f (drop 0 xs)
begun_flat f [] = refl
begun_flat f (x ∷ xs) = refl

pub flat_mapped : {X Y : Type 0} (f : Y → List ℕ) (g : X → Y) (xs : List X) → flat_map f (map g xs) ≡ flat_map (λ x. f (g x)) xs
flat_mapped f g [] = refl
flat_mapped f g (x ∷ xs) = ap (λ t. f (g x) ++ t) (flat_mapped f g xs)

-- what stands at a place of a map
pub mapped_at : {X : Type 0} (f : X → List ℕ) (xs : List X) (x : X) (k : ℕ) → k < length xs → x ≡ slice_index_or xs k x → slice_index_or (map f xs) k [] ≡ f x
mapped_at f xs x k lt is = at_map f xs k x [] lt ∙ ap f (sym is)

pub all_mapped : {X Y : Type 0} (f : X → Y) (p : Y → Bool) (xs : List X) → list_all (λ x. p (f x)) xs ≡ list_all p (map f xs)
all_mapped f p [] = refl
all_mapped f p (x ∷ xs) = ap (λ b. p (f x) && b) (all_mapped f p xs)

pub any_mapped : {X Y : Type 0} (f : X → Y) (p : Y → Bool) (xs : List X) → list_any (λ x. p (f x)) xs ≡ list_any p (map f xs)
any_mapped f p [] = refl
any_mapped f p (x ∷ xs) = ap (λ b. p (f x) || b) (any_mapped f p xs)

-- ---- a label

module _ (names : List Name) where
  pub positive_text : (l : Literal) (name : List ℕ) → name ≡ slice_index_or names l.proposition [] → l.positive ≡ true → literal_text names l ≡ name
  positive_text l name is e =
      ap (λ (b : Bool). if b then slice_index_or names l.proposition [] else codes "!" ++ slice_index_or names l.proposition []) e ∙ sym is

  pub negative_text : (l : Literal) (name : List ℕ) → name ≡ slice_index_or names l.proposition [] → l.positive ≡ false → literal_text names l ≡ codes "!" ++ name
  negative_text l name is e =
      ap (λ (b : Bool). if b then slice_index_or names l.proposition [] else codes "!" ++ slice_index_or names l.proposition []) e
      ∙ ap (λ t. codes "!" ++ t) (sym is)

  abbrev pub literals_of : List made.Literal → List (List ℕ)
  literals_of ls = map (λ l. literal_text names (literal_of l)) ls

  literals_are : (ls : List made.Literal) → map (literal_text names) (cube_of ls) ≡ literals_of ls
  literals_are [] = refl
  literals_are (l ∷ ls) = ap (λ t. literal_text names (literal_of l) ∷ t) (literals_are ls)

  module _ (red : Bool) where
    pub formula_begins : (c : Cube) (l : made.Literal) (ls rest : List made.Literal) → cube_of rest ≡ c → rest ≡ l ∷ ls
        → formula_text names red c ≡ literal_text names (literal_of l) ++ led (and_text red) (literals_of ls)
    formula_begins c l ls rest e f =
        ap (formula_text names red) (sym e ∙ ap cube_of f) ∙ joined_led (and_text red) (literal_text names (literal_of l)) (map (literal_text names) (cube_of ls))
        ∙ ap (λ t. literal_text names (literal_of l) ++ led (and_text red) t) (literals_are ls)

    pub formula_goes_on : (between : List ℕ) (rest : List made.Literal) (l : made.Literal) (ls : List made.Literal) → between ≡ and_text red → rest ≡ l ∷ ls
        → led (and_text red) (literals_of rest) ≡ between ++ (literal_text names (literal_of l) ++ led (and_text red) (literals_of ls))
    formula_goes_on between rest l ls b e =
        ap (λ t. led (and_text red) (literals_of t)) e ∙ append_assoc (and_text red) (literal_text names (literal_of l)) (led (and_text red) (literals_of ls))
        ∙ ap (λ t. t ++ (literal_text names (literal_of l) ++ led (and_text red) (literals_of ls))) (sym b)

    pub shown_edge : (b : Bool) (e : Edge) → b ≡ true → edge_text names b red e ≡ formula_text names red e.cube ++ marks_text e.marks
    shown_edge b e h = ap (λ (x : Bool). edge_text names x red e) h

    pub plain_edge : (b : Bool) (e : Edge) → b ≡ false → edge_text names b red e ≡ formula_text names red e.cube
    plain_edge b e h = ap (λ (x : Bool). edge_text names x red e) h ∙ append-nil (formula_text names red e.cube)

-- ---- a part of a label
pub taken_part : (taken : Bool) (text : List ℕ) → taken ≡ true → part_text taken text ≡ codes "<font color=\"red\">" ++ (text ++ codes "</font>")
taken_part taken text e = ap (λ (b : Bool). part_text b text) e ∙ append_assoc (codes "<font color=\"red\">") text (codes "</font>")

pub other_part : (taken : Bool) (text : List ℕ) → taken ≡ false → part_text taken text ≡ text
other_part taken text e = ap (λ (b : Bool). part_text b text) e

-- ---- a state
pub plain_node : (accepting red : Bool) (k : ℕ) (name : Option (List ℕ)) (end : List ℕ) → name ≡ None → end ≡ node_end accepting red
    → node_text name accepting red k ≡ codes "  " ++ (decimal k ++ end)
plain_node accepting red k name end f e =
    ap (λ n. node_text n accepting red k) f ∙ append_assoc (codes "  ") (decimal k) (node_end accepting red) ∙ ap (λ t. codes "  " ++ (decimal k ++ t)) (sym e)

pub named_node : (accepting red : Bool) (k : ℕ) (name : Option (List ℕ)) (is end : List ℕ) → name ≡ Some is → end ≡ labelled_end accepting red
    → node_text name accepting red k ≡ codes "  " ++ (decimal k ++ (label_text is k ++ end))
named_node accepting red k name is end f e =
    ap (λ n. node_text n accepting red k) f ∙ regroup (codes "  ") (decimal k) (label_text is k) (labelled_end accepting red)
    ∙ ap (λ t. codes "  " ++ (decimal k ++ (label_text is k ++ t))) (sym e)
  where
    regroup : (a b c d : List ℕ) → ((a ++ b) ++ c) ++ d ≡ a ++ (b ++ (c ++ d))
    regroup a b c d = simp append_assoc

pub label_pieces : (name : List ℕ) (k : ℕ) → label_text name k ≡ codes " [label=\"" ++ (decimal k ++ (codes "\\n" ++ (name_text name ++ codes "\", shape=ellipse")))
label_pieces name k = regroup (codes " [label=\"") (decimal k) (codes "\\n") (name_text name) (codes "\", shape=ellipse")
  where
    regroup : (a b c d e : List ℕ) → (((a ++ b) ++ c) ++ d) ++ e ≡ a ++ (b ++ (c ++ (d ++ e)))
    regroup a b c d e = simp append_assoc

-- ---- the head
pub many_sets : (n : ℕ) → 1 < n → acceptance_name n ≡ codes "generalized-B&uuml;chi " ++ decimal n
many_sets zero h = absurd (omega (arith, h))
many_sets (suc zero) h = absurd (omega (arith, h))
many_sets (suc (suc n)) h = refl

-- what stands behind the name of the condition
abbrev pub name_end : List ℕ
name_end = codes "\"\n  node [shape=circle]\n  I [label=\"\", style=invis, width=0]\n  I -> "

pub head_pieces : (N : NamedAutomaton) (note : List ℕ)
    → head_text N note ≡ codes "digraph automaton {\n  rankdir=LR\n  labelloc=t\n  label=\""
    ++ (title_line N.names.automaton ++ (acceptance_name N.automaton.sets ++ (note ++ (name_end ++ (decimal N.automaton.start ++ codes "\n")))))
head_pieces N note =
    regroup (codes "digraph automaton {\n  rankdir=LR\n  labelloc=t\n  label=\"") (title_line N.names.automaton) (acceptance_name N.automaton.sets) note name_end
    (decimal N.automaton.start) (codes "\n")
  where
    regroup : (a t b n c d e : List ℕ) → (((((a ++ t) ++ b) ++ n) ++ c) ++ d) ++ e ≡ a ++ (t ++ (b ++ (n ++ (c ++ (d ++ e)))))
    regroup a t b n c d e = simp append_assoc

-- ---- all of a list pass
module _ {X : Type 0} (p : X → Bool) (d : X) where
  pub all_pass : (xs : List X) → ((j : ℕ) → j < length xs → p (slice_index_or xs j d) ≡ true) → list_all p xs ≡ true
  all_pass [] h = refl
  all_pass (x ∷ xs) h = ap₂ (λ a b. a && b) (h 0 (omega arith)) (all_pass xs (λ j lt. h (suc j) (omega (arith, lt))))

  pub one_fails : (xs : List X) (j : ℕ) → j < length xs → p (slice_index_or xs j d) ≡ false → list_all p xs ≡ false
  one_fails [] j lt h = absurd (omega (arith, lt))
  one_fails (x ∷ xs) zero lt h = ap (λ a. a && list_all p xs) h
  one_fails (x ∷ xs) (suc j) lt h = ap (λ b. p x && b) (one_fails xs j (omega (arith, lt)) h) ∙ and_false (p x)
    where
      and_false : (a : Bool) → (a && false) ≡ false
      and_false true = refl
      and_false false = refl
