-- The word along a walk of the product, before it is shrunk.
use Rattle.std.proofs.Common.{◌≡◌, ◌∙◌, ◌⊎◌, inl, inr, ap, sym, subst, ℕ, ◌+◌, ◌<◌, ◌≤◌, List, ◌++◌, length, take, drop, arith}
use Rattle.std.specs.Prelude.{All, Result, Ok, Err, IfOk}
use Rattle.std.proofs.lemmas.List.{length-append, take_at, drop_at}
use Rattle.ltl_spec.specs.Semantics.Word.{Name, Lasso}
use Rattle.ltl_spec.specs.Words.LeastForm.{least_form}
use Rattle.ltl_spec.specs.Formulas.Names.{unified}
use Rattle.ltl_spec.specs.Automata.Automaton.{Automaton}
use Rattle.ltl_spec.specs.Hoa.HoaReading.{MarkedAutomaton}
use Rattle.ltl_spec.specs.Checking.Product.{unified_number}
use Rattle.ltl_spec.specs.Checking.Bounds.{HasNamesBelow}
use Rattle.ltl_spec.proofs.Collections.MemberLaws.{map_length}
use Rattle.ltl_hoa.specs.MarkedView.{IsMarked}
use Rattle.ltl_models.specs.BaView.{IsBa}
use Rattle.ltl_word.specs.LassoView.{word_with}
use Rattle.ltl_check.specs.declared.walk.Taken.{Taken}
use Rattle.ltl_check.specs.Levels.{IsFullWalk}
use Rattle.ltl_check.specs.ProductView.{number_in, product_net}
use Rattle.ltl_check.specs.Shrunk.{AreNeeded, IsShrunk}
use Rattle.ltl_check.specs.VerdictView.{letters_in, letters_of}
use Rattle.ltl_check.proofs.ShrunkLaws.{no_more_same}
use Rattle.ltl_check.proofs.VerdictLaws.{letters_within, walk_needed, walk_shared}

-- one of two words
pub one_of : (P : Lasso → Type 0) (r a b : Lasso) → (r ≡ a) ⊎ (r ≡ b) → P a → P b → P r
one_of P r a b (inl e) x y = subst P (sym e) x
one_of P r a b (inr e) x y = subst P (sym e) y

pub size_is : (w : Lasso) → length (w.stem ++ w.cycle) ≡ letters_in w
size_is w = length-append w.stem w.cycle

-- the word of the letters along the walk
along_word : (stem cycle : List Taken) (all : List Name) (letters : List (List ℕ)) (count : ℕ) → letters ≡ letters_of stem ++ letters_of cycle → count ≡ length stem
    → word_with all (take count letters) (drop count letters) ≡ word_with all (letters_of stem) (letters_of cycle)
along_word stem cycle all letters count ls n =
    let long : length (letters_of stem) ≡ count = map_length (λ (t : Taken). t.letter) stem ∙ sym n in
    let first : take count letters ≡ letters_of stem = ap (take count) ls ∙ take_at (letters_of stem) (letters_of cycle) count long in
    let second : drop count letters ≡ letters_of cycle = ap (drop count) ls ∙ drop_at (letters_of stem) (letters_of cycle) count long in
    λ i. word_with all (first i) (second i)

-- its least form, and a word that isn't longer
pub along_form : (stem cycle : List Taken) (all : List Name) (letters : List (List ℕ)) (count : ℕ) → letters ≡ letters_of stem ++ letters_of cycle → count ≡ length stem → (u v : Lasso) → letters_in v ≤ letters_in u
    → u ≡ least_form (word_with all (take count letters) (drop count letters)) → letters_in v ≤ letters_in (least_form (word_with all (letters_of stem) (letters_of cycle)))
along_form stem cycle all letters count ls n u v l e =
    let s = ap letters_in (e ∙ ap least_form (along_word stem cycle all letters count ls n)) in
    omega (arith, s, l)

pub least_along : {E : Type 0} (stem cycle : List Taken) (all : List Name) (letters : List (List ℕ)) (count : ℕ) → letters ≡ letters_of stem ++ letters_of cycle → count ≡ length stem → (r : Result Lasso E)
    → IfOk r (λ u. u ≡ least_form (word_with all (take count letters) (drop count letters))) → IfOk r (λ u. letters_in u ≤ letters_in (least_form (word_with all (letters_of stem) (letters_of cycle))))
least_along stem cycle all letters count ls n (Err x) e = e
least_along stem cycle all letters count ls n (Ok u) e = along_form stem cycle all letters count ls n u u (omega arith) e

module _ (A : MarkedAutomaton) (names : List Name) (B : Automaton) (numbers : List ℕ) (marked : IsMarked A) (ba : IsBa B) (named : HasNamesBelow (length names) B)
    (maps : (p : ℕ) → p < length names → number_in numbers p ≡ unified_number A.names names p) (stem cycle : List Taken) (w : IsFullWalk (product_net A B numbers) (A.sets + 1) stem cycle)
    (all : List Name) (e : all ≡ unified A.names names) (old : List (List ℕ)) (o : old ≡ letters_of stem ++ letters_of cycle) where
  pub along_shrunk : (letters : List (List ℕ)) (count : ℕ) → letters ≡ letters_of stem ++ letters_of cycle → count ≡ length stem → IsShrunk A names B all old letters count
  along_shrunk letters count ls n = record { kept = no_more_same old letters (ls ∙ sym o); shared = walk_shared A names B numbers marked ba named maps stem cycle w all e letters count ls n }

  pub along_needed : AreNeeded A names B all old
  along_needed = subst (AreNeeded A names B all) (sym o) (walk_needed A names B numbers marked ba named maps stem cycle w all e)

  pub along_within : (count : ℕ) → count ≡ length all → All (All (λ i. i < count)) old
  along_within count c = subst (All (All (λ i. i < count))) (sym o) (letters_within A names B numbers marked ba named maps stem cycle w count (c ∙ ap length e))

  pub along_long : (n : ℕ) → n ≤ length old → n ≤ length stem + length cycle
  along_long n l =
      let a = ap length o ∙ length-append (letters_of stem) (letters_of cycle) in
      let s = map_length (λ (t : Taken). t.letter) stem in
      let c = map_length (λ (t : Taken). t.letter) cycle in
      omega (arith, a, s, c, l)
