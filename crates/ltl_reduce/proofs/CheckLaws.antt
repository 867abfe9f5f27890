-- What the check finds shows that two automata accept the same words.
use Rattle.std.proofs.Common.{◌≡◌, ℕ, ◌+◌, ◌<◌, ◌≤◌, Bool, true, false, ◌&&◌, ◌||◌, ◌⊎◌, inl, inr, List, [], map, length, refl, sym, ◌∙◌, ap, subst, arith, nat_lt, nat_eq}
use Rattle.std.specs.Prelude.{slice_index_or, slice_get, Some, All}
use Rattle.std.specs.Ordering.{nat_cmp}
use Rattle.std.proofs.lemmas.Bool.{cases_lt}
use Rattle.std.proofs.lemmas.Option.{slice_get-get_or, get_or_from_slice_get}
use Rattle.std.proofs.lemmas.List.{get_or_past}
use Rattle.ltl_spec.specs.Collections.Sets.{Has, has, is_subset}
use Rattle.ltl_spec.specs.Transitions.Cubes.{literal_cmp}
use Rattle.ltl_spec.specs.Semantics.Word.{Name, Lasso}
use Rattle.ltl_spec.specs.Automata.Automaton.{Automaton, State, Edge, state_at, AcceptsFrom}
use Rattle.ltl_spec.specs.Checking.Bounds.{AcceptsEverywhere}
use Rattle.ltl_spec.proofs.Collections.CaseLaws.{false_is_true, left_true, right_true, nat_eq_is}
use Rattle.ltl_spec.proofs.Collections.ListLaws.{slice_get_has, Contains-from_has}
use Rattle.ltl_spec.proofs.Collections.Orders.{nat_linear, literal_linear}
use Rattle.ltl_spec.proofs.Collections.MemberLaws.{map_length}
use Rattle.ltl_spec.proofs.Collections.SetLaws.{is_subset_Decides, has_Decides}
use Rattle.ltl_spec.proofs.Automata.ListedStates.{has_edge_below}
use Rattle.ltl_reduce.specs.declared.frees.Frees as frees_of
use Rattle.ltl_reduce.specs.declared.matching.Matching as made
use Rattle.ltl_reduce.specs.declared.relation.Relation as between
use Rattle.ltl_reduce.specs.Reduction.{AcceptsSame}
use Rattle.ltl_reduce.specs.Simulation.{IsFree, Match}
use Rattle.ltl_reduce.specs.FreesView.{AreNone, AreRight, level_of, lacking_of, is_dead, is_free}
use Rattle.ltl_reduce.specs.RelationView.{relates}
use Rattle.ltl_reduce.specs.Matching.{IsMatch, HasMatch, IsMatched, AreMatched, Simulates, IsLevelRight, IsDeathRight, IsRight, AreEdgesRight, IsAlike, AreAlikeTo, IsFollowed, AreFollowedTo, AreFollowed}
use Rattle.ltl_automaton.proofs.TableLaws.{states_at}
use Rattle.ltl_models.specs.GbaView.{IsAcceptingGba}
use Rattle.ltl_reduce.proofs.SimulationLaws.{simulated}

or_cases : (a b : Bool) → (a || b) ≡ true → (a ≡ true) ⊎ (b ≡ true)
or_cases true b h = inl refl
or_cases false b h = inr h

pub or_right : (a b : Bool) → b ≡ true → (a || b) ≡ true
or_right true b h = refl
or_right false b h = h

-- edges

-- the three tests of a match
pub match_found : (r : between.Relation) (free : Bool) (e f : Edge) → relates r e.target f.target ≡ true → is_subset literal_cmp f.cube e.cube ≡ true
    → (free || is_subset nat_cmp e.marks f.marks) ≡ true → IsMatch r free e f
match_found r free e f t c m = record {
  cube = (is_subset_Decides literal_linear f.cube e.cube).0 c;
  target = t;
  marks = elim (or_cases free (is_subset nat_cmp e.marks f.marks) m) [ inl y ↦ inl y | inr s ↦ inr ((is_subset_Decides nat_linear e.marks f.marks).0 s) ];
}

-- an edge that was looked at is one of the edges
pub match_has : (r : between.Relation) (free : Bool) (e f : Edge) (fs : List Edge) (k : ℕ) → slice_get fs k ≡ Some f → IsMatch r free e f → HasMatch r free e fs
match_has r free e f fs k g m = (f, slice_get_has fs k f g, m)

-- all elements stand at places
place_of_has : (es : List Edge) (e : Edge) → Has es e → (i : ℕ) × (i < length es) × (slice_get es i ≡ Some e)
place_of_has es e h = let (i, l, q) = Contains-from_has es e h in (i, l, slice_get-get_or es i e l ∙ ap Some q)

-- what is found of the first k edges
abbrev pub AllTo : (Edge → Type 0) → List Edge → ℕ → Type 0
AllTo P es k = (i : ℕ) (e : Edge) → i < k → slice_get es i ≡ Some e → P e

pub to_next : (P : Edge → Type 0) (es : List Edge) (k : ℕ) (e : Edge) → AllTo P es k → slice_get es k ≡ Some e → P e → AllTo P es (k + 1)
to_next P es k e h g x i f l q = elim (cases_lt i k) [
  | inl below ↦ h i f below q
  | inr last ↦
      let same : i ≡ k = omega arith in
      let there : slice_get es k ≡ Some f = subst (λ j. slice_get es j ≡ Some f) same q in
      let is : e ≡ f = sym (get_or_from_slice_get es k e f g) ∙ get_or_from_slice_get es k f f there in
      subst P is x
]

pub to_all : {X : Type 0} (P : Edge → Type 0) (f : X → Edge) (xs : List X) (k : ℕ) → length xs ≤ k → AllTo P (map f xs) k → (e : Edge) → Has (map f xs) e → P e
to_all P f xs k l h e p = let (i, inside, q) = place_of_has (map f xs) e p in let long = map_length f xs in h i e (omega arith) q

abbrev pub AreMatchedTo : made.Matching → ℕ → List Edge → List Edge → ℕ → Type 0
AreMatchedTo m s es fs k = AllTo (λ e. IsMatched m s e fs) es k

pub matched_next : (m : made.Matching) (s : ℕ) (es fs : List Edge) (k : ℕ) (e : Edge) → AreMatchedTo m s es fs k → slice_get es k ≡ Some e → IsMatched m s e fs → AreMatchedTo m s es fs (k + 1)
matched_next m s es fs k e = to_next (λ e. IsMatched m s e fs) es k e

abbrev pub AreRightTo : ℕ → frees_of.Frees → ℕ → List Edge → ℕ → Type 0
AreRightTo sets f s es k = AllTo (IsRight sets f s) es k

pub right_next : (sets n : ℕ) (f : frees_of.Frees) (s : ℕ) (es : List Edge) (k : ℕ) (e : Edge) → n ≡ sets → AreRightTo sets f s es k → slice_get es k ≡ Some e → IsRight n f s e → AreRightTo sets f s es (k + 1)
right_next sets n f s es k e same h g x = to_next (IsRight sets f s) es k e h g (subst (λ m. IsRight m f s e) same x)

pub right_edges : {X : Type 0} (A : Automaton) (f : frees_of.Frees) (s : ℕ) (view : X → Edge) (xs : List X) (k : ℕ) → map view xs ≡ (state_at A s).edges → length xs ≤ k → AreRightTo A.sets f s (map view xs) k → AreEdgesRight A f s
right_edges A f s view xs k is l h e p = to_all (IsRight A.sets f s) view xs k l h e (subst (λ es. Has es e) (sym is) p)

pub below_next : (P : ℕ → Type 0) (k : ℕ) → ((i : ℕ) → i < k → P i) → P k → (i : ℕ) → i < k + 1 → P i
below_next P k h x i l = elim (cases_lt i k) [
  | inl below ↦ h i below
  | inr last ↦ let same : k ≡ i = omega arith in subst P same x
]

-- levels

pub is_lt : (m n : ℕ) → nat_lt m n ≡ true → m < n
is_lt m n h = grind arith

-- an edge that is free for the code is free
pub free_is : (A : Automaton) (f : frees_of.Frees) (s : ℕ) (e : Edge) → is_free f A.sets s e.target ≡ true → IsFree A (level_of f) (lacking_of f) s e
free_is A f s e h = elim (or_cases (nat_lt (level_of f e.target) (level_of f s)) (nat_lt (lacking_of f (level_of f s)) A.sets) h) [
  | inl l ↦ inl (is_lt (level_of f e.target) (level_of f s) l)
  | inr l ↦ inr (is_lt (lacking_of f (level_of f s)) A.sets l)
]

-- the tests of the code, by their results
pub level_lower : (sets l t : ℕ) (f : frees_of.Frees) (s : ℕ) (e : Edge) → l ≡ level_of f s → t ≡ level_of f e.target → t < l → IsLevelRight sets f s e
level_lower sets l t f s e p q h = record { falls = omega arith; lacks = λ same k. absurd (omega arith) }

pub level_full : (sets l t n : ℕ) (f : frees_of.Frees) (s : ℕ) (e : Edge) → l ≡ level_of f s → t ≡ level_of f e.target → n ≡ lacking_of f l → t ≤ l → sets ≤ n → IsLevelRight sets f s e
level_full sets l t n f s e p q r h k = record {
  falls = omega arith;
  lacks = λ same j. let x : n ≡ lacking_of f (level_of f s) = r ∙ ap (lacking_of f) p in absurd (omega arith);
}

pub level_without : (sets l t n : ℕ) (has_it : Bool) (f : frees_of.Frees) (s : ℕ) (e : Edge) → l ≡ level_of f s → t ≡ level_of f e.target → n ≡ lacking_of f l → t ≤ l → has_it ≡ has nat_cmp n e.marks → has_it ≡ false → IsLevelRight sets f s e
level_without sets l t n has_it f s e p q r h k no_mark = record {
  falls = omega arith;
  lacks = λ same j m.
      let x : n ≡ lacking_of f (level_of f s) = r ∙ ap (lacking_of f) p in
      false_is_true (sym (sym k ∙ no_mark) ∙ (has_Decides nat_linear n e.marks).1 (subst (λ i. Has e.marks i) (sym x) m));
}

pub death_not : (sets : ℕ) (d : Bool) (f : frees_of.Frees) (s : ℕ) (e : Edge) → d ≡ is_dead f s → d ≡ false → IsDeathRight sets f s e
death_not sets d f s e p q = record { stays = λ h. false_is_true (sym (sym p ∙ q) ∙ h); free = λ h. false_is_true (sym (sym p ∙ q) ∙ h) }

pub death_is : (sets : ℕ) (d b : Bool) (f : frees_of.Frees) (s : ℕ) (e : Edge) → d ≡ is_dead f e.target → b ≡ is_free f sets s e.target → d ≡ true → b ≡ true → IsDeathRight sets f s e
death_is sets d b f s e p q h k = record { stays = λ _. sym p ∙ h; free = λ _. sym q ∙ k }

pub right_of_all : (A : Automaton) (f : frees_of.Frees) → ((s : ℕ) (e : Edge) → Has (state_at A s).edges e → IsRight A.sets f s e) → AreRight A f
right_of_all A f all = record {
  levels = record { falls = λ s e h. (all s e h).0.falls; lacks = λ s e h. (all s e h).0.lacks };
  dead = record { stays = λ s e d h. (all s e h).1.stays d; free = λ s e d h. free_is A f s e ((all s e h).1.free d) };
}

pub rights_next : (A : Automaton) (f : frees_of.Frees) (k : ℕ) → ((s : ℕ) → s < k → AreEdgesRight A f s) → AreEdgesRight A f k → (s : ℕ) → s < k + 1 → AreEdgesRight A f s
rights_next A f k = below_next (AreEdgesRight A f) k

pub rights_all : (A : Automaton) (f : frees_of.Frees) (k : ℕ) → length A.states ≤ k → ((s : ℕ) → s < k → AreEdgesRight A f s) → AreRight A f
rights_all A f k l h = right_of_all A f (λ s e p. let i = has_edge_below A s e p in h s (omega arith) e p)

-- empty lists are right
pub none_right : (A : Automaton) (f : frees_of.Frees) → A.sets ≤ 256 → AreNone f → AreRight A f
none_right A f few none = right_of_all A f (λ s e h. (
  record {
    falls = let a = level_zero e.target in let b = level_zero s in omega arith;
    lacks = λ same l. let q = lacking_none (level_of f s) in absurd (omega arith);
  },
  record { stays = λ d. absurd (never_dead s d); free = λ d. absurd (never_dead s d) },
))
  where
    level_zero : (s : ℕ) → level_of f s ≡ 0
    level_zero s = ap (λ xs. slice_index_or xs s 0) none.levels ∙ get_or_past [] s 0 (omega arith)

    lacking_none : (level : ℕ) → lacking_of f level ≡ 256
    lacking_none level = ap (λ xs. slice_index_or xs level 256) none.lacking ∙ get_or_past [] level 256 (omega arith)

    never_dead : (s : ℕ) → is_dead f s ≡ true → ⊥
    never_dead s d = false_is_true (sym (ap (λ xs. slice_index_or xs s false) none.dead ∙ get_or_past [] s false (omega arith)) ∙ d)

-- automata

-- what all related states match is accepted
pub simulates_accepts : (A B : Automaton) (m : made.Matching) → AreRight A m.frees → m.sets ≡ A.sets → AcceptsEverywhere B → B.sets ≡ A.sets → Simulates A B m → relates m.relation 0 0 ≡ true
    → (names : List Name) (w : Lasso) → 0 < length w.cycle → AcceptsFrom 0 names A w → AcceptsFrom 0 names B w
simulates_accepts A B m right sets accepting same all begins =
    simulated A (level_of m.frees) (lacking_of m.frees) right.levels (λ s. is_dead m.frees s ≡ true) right.dead B accepting same (λ s t. relates m.relation s t ≡ true) (λ s t r e h. found s t e (all s t r e h)) 0 0 (inl begins)
  where
    found : (s t : ℕ) (e : Edge) → IsMatched m s e (state_at B t).edges → (is_dead m.frees e.target ≡ true) ⊎ Match A (level_of m.frees) (lacking_of m.frees) B (λ s t. relates m.relation s t ≡ true) s t e
    found s t e (inl d) = inl d
    found s t e (inr h) =
        let (f, there, k) = h in
        inr (
          f,
          there,
          record {
            cube = k.cube;
            target = k.target;
            marks = elim k.marks [ inl y ↦ inl (free_is A m.frees s e (subst (λ n. is_free m.frees n s e.target ≡ true) sets y)) | inr s ↦ inr s ];
          },
        )

-- both ways
pub same_words : (A B : Automaton) (m n : made.Matching) → AreRight A m.frees → AreRight B n.frees → m.sets ≡ A.sets → n.sets ≡ B.sets → AcceptsEverywhere A → AcceptsEverywhere B → B.sets ≡ A.sets
    → Simulates A B m → Simulates B A n → relates m.relation 0 0 ≡ true → relates n.relation 0 0 ≡ true → AcceptsSame A 0 B
same_words A B m n right left sets_a sets_b accepts_a accepts_b same to from begins ends names w l = (
  simulates_accepts A B m right sets_a accepts_b same to begins names w l,
  simulates_accepts B A n left sets_b accepts_a (sym same) from ends names w l,
)

-- numbers

pub alike_next : (A B : Automaton) (m n : made.Matching) (numbers : List ℕ) (k : ℕ) → AreAlikeTo A B m n numbers k → IsAlike A B m n k (slice_index_or numbers k 0) → AreAlikeTo A B m n numbers (k + 1)
alike_next A B m n numbers k = below_next (λ s. IsAlike A B m n s (slice_index_or numbers s 0)) k

pub followed_next : (A B : Automaton) (m n : made.Matching) (s k : ℕ) → AreFollowedTo A B m n s k → IsFollowed A B m n s k → AreFollowedTo A B m n s (k + 1)
followed_next A B m n s k = below_next (IsFollowed A B m n s) k

pub all_followed_next : (A B : Automaton) (m n : made.Matching) (k : ℕ) → AreFollowed A B m n k → AreFollowedTo A B m n k (length B.states) → AreFollowed A B m n (k + 1)
all_followed_next A B m n k = below_next (λ s. AreFollowedTo A B m n s (length B.states)) k

pub forward_simulates : (A B : Automaton) (m n : made.Matching) (numbers : List ℕ) (count : ℕ) → ((s t : ℕ) → relates m.relation s t ≡ true → (t < count) × (s < length numbers) × (slice_index_or numbers s 0 ≡ t))
    → count ≡ length B.states → AreAlikeTo A B m n numbers (length numbers) → Simulates A B m
forward_simulates A B m n numbers count shown all alike s t h =
    let (l, i, e) = shown s t h in
    let inside : slice_index_or numbers s 0 < length B.states = omega arith in
    subst (λ u. AreMatched m s (state_at A s).edges (state_at B u).edges) e ((alike s i).to inside)

pub backward_simulates : (A B : Automaton) (m n : made.Matching) (numbers : List ℕ) → ((t s : ℕ) → relates n.relation t s ≡ true → (s < length numbers) × (slice_index_or numbers s 0 ≡ t))
    → AreAlikeTo A B m n numbers (length numbers) → Simulates B A n
backward_simulates A B m n numbers shown alike t s h f p =
    let (i, e) = shown t s h in
    let l = has_edge_below B t f p in
    let inside : slice_index_or numbers s 0 < length B.states = omega arith in
    subst (λ u. AreMatched n u (state_at B u).edges (state_at A s).edges) e ((alike s i).from inside) f p

pub forward_shown : (numbers : List ℕ) (count s t : ℕ) → (nat_lt t count && (nat_lt s (length numbers) && nat_eq (slice_index_or numbers s 0) t)) ≡ true → (t < count) × (s < length numbers) × (slice_index_or numbers s 0 ≡ t)
forward_shown numbers count s t h =
    let rest = right_true (nat_lt t count) (nat_lt s (length numbers) && nat_eq (slice_index_or numbers s 0) t) h in (
      is_lt t count (left_true (nat_lt t count) (nat_lt s (length numbers) && nat_eq (slice_index_or numbers s 0) t) h),
      is_lt s (length numbers) (left_true (nat_lt s (length numbers)) (nat_eq (slice_index_or numbers s 0) t) rest),
      nat_eq_is (slice_index_or numbers s 0) t (right_true (nat_lt s (length numbers)) (nat_eq (slice_index_or numbers s 0) t) rest),
    )

pub backward_shown : (numbers : List ℕ) (t s : ℕ) → (nat_lt s (length numbers) && nat_eq (slice_index_or numbers s 0) t) ≡ true → (s < length numbers) × (slice_index_or numbers s 0 ≡ t)
backward_shown numbers t s h = (
  is_lt s (length numbers) (left_true (nat_lt s (length numbers)) (nat_eq (slice_index_or numbers s 0) t) h),
  nat_eq_is (slice_index_or numbers s 0) t (right_true (nat_lt s (length numbers)) (nat_eq (slice_index_or numbers s 0) t) h),
)

pub first_shown : (t n : ℕ) (x : Bool) → (nat_lt t n && x) ≡ true → t < n
first_shown t n x h = is_lt t n (left_true (nat_lt t n) x h)

-- all states are accepting, also those that aren't there
pub accepting_everywhere : (A : Automaton) → All (λ s. s.accepting ≡ true) A.states → AcceptsEverywhere A
accepting_everywhere A all s = states_at A (λ (u : State). u.accepting ≡ true) s refl all

module _ (A B : Automaton) (m n : made.Matching) (is_a : IsAcceptingGba A) (is_b : IsAcceptingGba B) (sets_a : m.sets ≡ A.sets) (sets_b : n.sets ≡ B.sets) (same : A.sets ≡ B.sets)
    (to : relates m.relation 0 0 ≡ true) (from : relates n.relation 0 0 ≡ true) where
  accepts_a : AcceptsEverywhere A
  accepts_a = accepting_everywhere A is_a.accepting

  accepts_b : AcceptsEverywhere B
  accepts_b = accepting_everywhere B is_b.accepting

  few : (X : Automaton) → IsAcceptingGba X → X.sets ≤ 256
  few X g = g.inside.few_sets

  -- what numbers show
  pub numbers_same : (numbers : List ℕ) (count : ℕ) → AreRight A m.frees → AreNone n.frees → ((s t : ℕ) → relates m.relation s t ≡ true → (t < count) × (s < length numbers) × (slice_index_or numbers s 0 ≡ t))
      → ((t s : ℕ) → relates n.relation t s ≡ true → (s < length numbers) × (slice_index_or numbers s 0 ≡ t)) → count ≡ length B.states → AreAlikeTo A B m n numbers (length numbers) → AcceptsSame A 0 B
  numbers_same numbers count right none shown_to shown_from all alike =
      same_words A B m n right (none_right B n.frees (few B is_b) none) sets_a sets_b accepts_a accepts_b (sym same)
      (forward_simulates A B m n numbers count shown_to all alike) (backward_simulates A B m n numbers shown_from alike) to from

  -- what a table shows
  pub cells_same : AreNone m.frees → AreNone n.frees → ((s t : ℕ) → relates m.relation s t ≡ true → t < length B.states) → ((t s : ℕ) → relates n.relation t s ≡ true → s < length A.states)
      → AreFollowed A B m n (length A.states) → AcceptsSame A 0 B
  cells_same none other inside_b inside_a followed =
      same_words A B m n (none_right A m.frees (few A is_a) none) (none_right B n.frees (few B is_b) other) sets_a sets_b accepts_a accepts_b (sym same)
      (λ s t h e p. (followed s (has_edge_below A s e p) t (inside_b s t h)).to h e p) (λ t s h f p. (followed s (inside_a t s h) t (has_edge_below B t f p)).from h f p) to from
