-- The moves and the states of statements, one by one, their marks, and the claim.
use Rattle.std.proofs.Common.{◌≡◌, ◌∙◌, ℕ, zero, suc, ◌+◌, ◌<◌, ◌≤◌, Bool, true, false, ◌&&◌, ◌||◌, List, [], ◌∷◌, ◌++◌, map, length, take, get_or, slice_index_or, slice_set, Some, None, IfSome, if◌then◌else◌, nat_eq, nat_lt, refl, sym, ap, subst, arith, inl, inr}
use Rattle.std.specs.Prelude.{flat_map, codes, ◌⊎◌, slice_get}
use Rattle.std.specs.List.{list_any, starts_with}
use Rattle.std.proofs.lemmas.Bool.Decides.{nat_tests}
use Rattle.std.proofs.lemmas.List.{get_or_default, get_or_push, get_or-set_other, get_or-set_same, length-set, length_push, map-append, take_all}
use Rattle.ltl_spec.specs.Semantics.Word.{Name}
use Rattle.ltl_spec.specs.Collections.Lists.{first_occurrences}
use Rattle.ltl_spec.specs.Formulas.Tokens.{same_name}
use Rattle.ltl_spec.specs.Claims.ClaimProgram.{ClaimLabel, Guard, Link, Program, Statement}
use Rattle.ltl_spec.specs.Claims.ClaimMachine.{statement_at}
use Rattle.ltl_spec.specs.Claims.ClaimMeaning.{end, leads}
use Rattle.ltl_spec.proofs.Collections.ListLaws.{index_append}
use Rattle.ltl_claim.specs.ClaimView.{AreMoves, ClaimView, IsClaim, MoveView, StateView, statement_moves}
use Rattle.ltl_claim.specs.ProgramView.{BuiltView, OptionView, StatementView, label_of, no_statement as no_view, option_of, program_of, statement_of}
use Rattle.ltl_claim.specs.ResolveView.{AreMarks, AreParts, AreStates, AreTables, IsProgramOf, WaysView, marked, move_of, no_state, option_moves}
use Rattle.ltl_claim.proofs.ProgramLaws.{mapped_length}
use Rattle.ltl_claim.proofs.WayLaws.{there}

inside_or_past : (a b : ℕ) → (a < b) ⊎ (b ≤ a)
inside_or_past a b = grind arith

-- ---- moves

module _ (P : Program) (names : List Name) (i : ℕ) (os : List OptionView) where
  -- the moves of the first options
  pub record AreMade (j : ℕ) (moves : List MoveView) : Type 0 where
    pub are : moves ≡ map (move_of names) (flat_map (option_moves P i) (map option_of (take j os)))

-- ---- states

module _ (P : Program) (names : List Name) (marks : List Bool) where
  pub states_more : (n : ℕ) (b : Bool) (ms : List MoveView) (old new : List StateView) → b ≡ slice_index_or marks n false → ms ≡ map (move_of names) (statement_moves P n)
      → new ≡ old ++ record { accepting = b; moves = ms } ∷ [] → AreStates P names marks n old → AreStates P names marks (n + 1) new
  states_more n b ms old new e f g s = subst (AreStates P names marks (n + 1)) (sym g) (record {
    long = length_push old state ∙ ap (λ k. k + 1) s.long;
    marked = each (λ i t. t.accepting ≡ slice_index_or marks i false) s.marked e;
    moves = each (λ i t. t.moves ≡ map (move_of names) (statement_moves P i)) s.moves f;
  })
    where
      state : StateView
      state = record { accepting = b; moves = ms }

      each : (Q : ℕ → StateView → Type 0) → ((i : ℕ) → i < n → Q i (slice_index_or old i no_state)) → Q n state → (i : ℕ) → i < n + 1 → Q i (slice_index_or (old ++ state ∷ []) i no_state)
      each Q h k i l =
          let long = s.long in
          elim (inside_or_past i n) [
            | inl m ↦ subst (Q i) (sym (index_append old (state ∷ []) i no_state (omega (arith, m, long)))) (h i m)
            | inr m ↦
                let q : n ≡ i = omega (arith, l, m) in
                subst (λ i. Q i (slice_index_or (old ++ state ∷ []) i no_state)) q (subst (Q n) (sym (get_or_push old state no_state n long)) k)
          ]

-- the options of a statement of the code
pub options_seen : (P : Program) (w : WaysView) (ss : List StatementView) (i : ℕ) (s : StatementView) → IsProgramOf P w → ss ≡ w.statements → s ≡ get_or ss i s → i < length ss
    → (statement_at P i).options ≡ map option_of s.options
options_seen P w ss i s p e f l =
    ap (λ (t : Statement). t.options) (there P w.statements w.labels p.parts i ∙ ap (λ ts. statement_of (slice_index_or ts i no_view)) (sym e) ∙ ap statement_of (sym (get_or_read_at f)))
  where
    get_or_read_at : s ≡ get_or ss i s → s ≡ slice_index_or ss i no_view
    get_or_read_at f = f ∙ get_or_default ss i s no_view l

-- ---- marks

module _ (labels : List ClaimLabel) (count : ℕ) (marks : List Bool) where
  abbrev begins : ClaimLabel → Bool
  begins l = starts_with nat_eq l.name (codes "accept")

  any_append : {X : Type 0} (p : X → Bool) (xs : List X) (y : X) → list_any p (xs ++ y ∷ []) ≡ (list_any p xs || p y)
  any_append p [] y = or_false (p y)
    where
      or_false : (b : Bool) → (b || false) ≡ b
      or_false true = refl
      or_false false = refl
  any_append p (x ∷ xs) y = ap (λ b. p x || b) (any_append p xs y) ∙ assoc (p x) (list_any p xs) (p y)
    where
      assoc : (a b c : Bool) → (a || (b || c)) ≡ ((a || b) || c)
      assoc true b c = refl
      assoc false b c = refl

  -- one label more
  one_marked : (l : ClaimLabel) (i : ℕ) → length marks ≡ count → i < count → slice_index_or (marked l marks) i false ≡ (slice_index_or marks i false || (nat_eq l.statement i && begins l))
  one_marked l i long inside = go (begins l) (nat_lt l.statement (length marks)) refl
    where
      or_false : (a c : Bool) → c ≡ false → a ≡ (a || c)
      or_false true c e = refl
      or_false false c e = sym e

      and_false : (c b : Bool) → b ≡ false → (c && b) ≡ false
      and_false true b e = e
      and_false false b e = refl

      apart : l.statement ≡ i → nat_eq l.statement i ≡ false → ⊥
      apart q e = grind (arith, nat_tests, q, e)

      set_one : nat_lt l.statement (length marks) ≡ true → (t : Bool) → nat_eq l.statement i ≡ t → slice_index_or (slice_set marks l.statement true) i false ≡ (slice_index_or marks i false || (t && true))
      set_one m true e =
          let q : l.statement ≡ i = grind (arith, nat_tests, e) in
          let k : l.statement < length marks = grind (arith, nat_tests, m) in
          ap (λ j. slice_index_or (slice_set marks l.statement true) j false) (sym q) ∙ get_or-set_same marks l.statement true false k ∙ or_true (slice_index_or marks i false)
        where
          or_true : (a : Bool) → true ≡ (a || true)
          or_true true = refl
          or_true false = refl
      set_one m false e = get_or-set_other marks l.statement i true false (λ q. apart (sym q) e) ∙ or_false (slice_index_or marks i false) false refl

      not_here : nat_lt l.statement (length marks) ≡ false → nat_eq l.statement i ≡ false
      not_here m = grind (arith, nat_tests, m, long, inside)

      go : (b c : Bool) → nat_lt l.statement (length marks) ≡ c
          → slice_index_or (if b && c then slice_set marks l.statement true else marks) i false ≡ (slice_index_or marks i false || (nat_eq l.statement i && b))
      go true true m = set_one m (nat_eq l.statement i) refl
      go true false m = or_false (slice_index_or marks i false) (nat_eq l.statement i && true) (ap (λ t. t && true) (not_here m))
      go false c m = or_false (slice_index_or marks i false) (nat_eq l.statement i && false) (and_false (nat_eq l.statement i) false refl)

  marked_length : (l : ClaimLabel) → length (marked l marks) ≡ length marks
  marked_length l = go (begins l && nat_lt l.statement (length marks))
    where
      go : (b : Bool) → length (if b then slice_set marks l.statement true else marks) ≡ length marks
      go true = length-set marks l.statement true
      go false = refl

  pub marks_next : (l : ClaimLabel) (new : List Bool) → new ≡ marked l marks → AreMarks labels count marks → AreMarks (labels ++ l ∷ []) count new
  marks_next l new e m = subst (AreMarks (labels ++ l ∷ []) count) (sym e) (record {
    long = marked_length l ∙ m.long;
    each = λ i k. one_marked l i m.long k ∙ ap (λ b. b || (nat_eq l.statement i && begins l)) (m.each i k) ∙ sym (any_append (λ l. nat_eq l.statement i && starts_with nat_eq l.name (codes "accept")) labels l);
  })

at_index : {X : Type 0} (es : List X) (i : ℕ) → i < length es → (e : X) × (slice_get es i ≡ Some e) × (take (suc i) es ≡ take i es ++ e ∷ [])
at_index [] i l = absurd (omega (arith, l))
at_index (e ∷ es) zero l = (e, refl, refl)
at_index (e ∷ es) (suc i) l = let (x, a, b) = at_index es i (omega (arith, l)) in (x, a, ap (λ zs. e ∷ zs) b)

module _ {X : Type 0} (name : X → Name) (es : List (X × ℕ)) (count : ℕ) where
  pub marks_more : (i : ℕ) (old new : List Bool) → i < length es → IfSome (slice_get es i) (λ e. new ≡ marked (label_of name e) old)
      → AreMarks (map (label_of name) (take i es)) count old → AreMarks (map (label_of name) (take (i + 1) es)) count new
  marks_more i old new l h m =
      let (e, at, more) = at_index es i l in
      let one : i + 1 ≡ suc i = omega arith in
      subst (λ ls. AreMarks ls count new) (sym (ap (λ n. map (label_of name) (take n es)) one ∙ ap (map (label_of name)) more ∙ map-append (label_of name) (take i es) (e ∷ [])))
      (marks_next (map (label_of name) (take i es)) count old (label_of name e) new (subst (λ o. IfSome o (λ e. new ≡ marked (label_of name e) old)) at h) m)

  pub marks_all : (i : ℕ) (marks : List Bool) → length es ≤ i → AreMarks (map (label_of name) (take i es)) count marks → AreMarks (map (label_of name) es) count marks
  marks_all i marks l m = subst (λ fs. AreMarks (map (label_of name) fs) count marks) (take_all i es l) m

-- ---- the claim

pub are_moves : (names : List Name) (xs : List (Guard × ℕ)) → AreMoves names (map (move_of names) xs) xs
are_moves names [] = tt
are_moves names ((g, t) ∷ xs) = ((refl, refl), are_moves names xs)

-- the claim has the automaton of the program
pub claim_is : (P : Program) (w : WaysView) (names : List Name) (marks : List Bool) (n : ℕ) (c : ClaimView) → IsProgramOf P w → AreMarks w.labels n marks → n ≡ length w.statements
    → AreStates P names marks (length marks) c.states → c.names ≡ names → names ≡ first_occurrences same_name P.names → c.start ≡ leads P P.start None → IsClaim P c
claim_is P w names marks n c p m l s e f b = record {
  names = e ∙ f;
  start = b;
  count = s.long ∙ long;
  states = λ i k. record {
    accepting = s.marked i (omega (arith, k, long)) ∙ m.each i (omega (arith, k, of_count)) ∙ ap (λ ls. list_any (λ x. nat_eq x.statement i && starts_with nat_eq x.name (codes "accept")) ls) (sym p.parts.labels);
    moves = subst (λ ns. AreMoves ns (slice_index_or c.states i no_state).moves (statement_moves P i)) (sym e) (subst (λ ms. AreMoves names ms (statement_moves P i)) (sym (s.moves i (omega (arith, k, long)))) (are_moves names (statement_moves P i)));
  };
}
  where
    of_count : n ≡ end P
    of_count = l ∙ sym (mapped_length statement_of w.statements) ∙ ap length (sym p.parts.statements)

    long : length marks ≡ end P
    long = m.long ∙ of_count

-- the claim of a program by its parts, as the code has them
pub claim_of_parts : (all names : List Name) (v : BuiltView) (start : Link) (ss s1 s2 : List StatementView) (ls : List ClaimLabel) (ns ms n1 m1 : List ℕ) (marks k1 : List Bool) (count first : ℕ)
    (owned : List Name) (states : List StateView) → names ≡ first_occurrences same_name all → start ≡ v.start → ss ≡ v.statements → ls ≡ v.labels → s1 ≡ ss → s2 ≡ ss → n1 ≡ ns → m1 ≡ ms → k1 ≡ marks
    → count ≡ length ss → ((P : Program) → AreParts P s1 ls → AreTables P ns ms) → AreMarks ls count marks → ((P : Program) → AreParts P s2 ls → AreTables P n1 m1 → first ≡ leads P start None)
    → ((P : Program) → IsProgramOf P (record { statements = s2; labels = ls; nearest = n1; after = m1 }) → AreStates P names k1 (length k1) states) → owned ≡ names
    → IsClaim (program_of all v) (record { names = owned; start = first; states = states })
claim_of_parts all names v start ss s1 s2 ls ns ms n1 m1 marks k1 count first owned states e b f h a1 a2 a3 a4 a5 l tables m begins made q =
    claim_is P w names k1 count (record { names = owned; start = first; states = states }) program (subst (AreMarks ls count) (sym a5) m) (l ∙ ap length (sym a2)) (made P program) q e
    (begins P second both ∙ ap (λ k. leads P k None) b)
  where
    P : Program
    P = program_of all v

    w : WaysView
    w = record { statements = s2; labels = ls; nearest = n1; after = m1 }

    parts : (xs : List StatementView) → xs ≡ v.statements → AreParts P xs ls
    parts xs x = record { statements = ap (map statement_of) (sym x); labels = sym h }

    second : AreParts P s2 ls
    second = parts s2 (a2 ∙ f)

    both : AreTables P n1 m1
    both = subst (λ xs. AreTables P xs m1) (sym a3) (subst (λ ys. AreTables P ns ys) (sym a4) (tables P (parts s1 (a1 ∙ f))))

    program : IsProgramOf P w
    program = record { parts = second; tables = both }
