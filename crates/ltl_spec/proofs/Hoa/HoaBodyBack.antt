-- Tokens of a body that are taken without a fault are those of states with their edges.
use Rattle.std.proofs.Common.{◌≡◌, ℕ, zero, suc, ◌+◌, ◌≤◌, Bool, true, false, not, ◌||◌, inl, inr, List, [], ◌∷◌, ◌++◌, length, refl, sym, ◌∙◌, ap, subst, arith, append_assoc, Option, Some, None}
use Rattle.std.specs.Prelude.{◌==◌, if◌then◌else◌, nat_lt, IsTrue, map, flat_map, Ok, Err, codes}
use Rattle.std.specs.List.{list_all, list_any}
use Rattle.std.proofs.lemmas.List.{append-nil}
use Rattle.std.proofs.lemmas.List.Sums.{sum_by-cons}
use Rattle.std.proofs.lemmas.Bool.{and_from, ltb-false, or_parts}
use Rattle.ltl_spec.specs.Collections.Sets.{Has}
use Rattle.ltl_spec.specs.Collections.Lists.{HasNoRepeats}
use Rattle.ltl_spec.specs.Formulas.Tokens.{same_name}
use Rattle.ltl_spec.specs.Tools.Limits.{Limits}
use Rattle.ltl_spec.specs.Hoa.HoaToken.{HoaToken, StringToken, Identifier, Header, Int, End, OpenLabel, CloseLabel, OpenSets, CloseSets, OpenBracket, CloseBracket, NotSign, AndSign, OrSign}
use Rattle.ltl_spec.specs.Hoa.HoaLabel.{Label, ConstantLabel, NumberLabel, BracketLabel, label_rank, label_tokens, label_cubes, is_wide}
use Rattle.ltl_spec.specs.Hoa.HoaReading.{AcceptanceForm, WrittenEdge, WrittenState, sets_tokens, name_tokens, edge_tokens, state_tokens, cube_edges, state_edges, MarkedAutomaton, are_sets, is_edge_inside, is_state_inside}
use Rattle.ltl_spec.specs.Hoa.HoaFaultKind.{HoaFaultKind, NumberOutOfRange, StateDefinedTwice, LimitPassed, BadToken, TextAfterEnd}
use Rattle.ltl_spec.specs.Hoa.HoaPlace.{BodyPlace, AtState, AtNumber, AfterNumber, AfterName, InStateSets, AtEdge, AtTarget, AfterTarget, InEdgeSets, AtOperand, AfterOperand, Place, InBody, AtEnd, Before, LabelPart, LabelParts, empty_part, whole, with_operand}
use Rattle.ltl_spec.specs.Hoa.HoaStep.{Step, step}
use Rattle.ltl_spec.proofs.Hoa.HoaLabelLaws.{token_step, run, parts, part}
use Rattle.ltl_spec.proofs.Hoa.HoaHeaderLaws.{equal_true}
use Rattle.ltl_spec.proofs.Hoa.HoaBodyLaws.{body, is_narrow, count_edges, one_edge}
use Rattle.ltl_spec.proofs.Hoa.HoaLabelBack.{sum_text, product_text, nots, FineSum, IsFine, FinePart, FineWhole, part_text, around_text, written_at, written_after, operand_whole, operand_fine, whole_fine}
use Rattle.ltl_spec.proofs.Formulas.NameLaws.{same_exact}

-- the automaton's text was taken to its end
abbrev pub Ended : Step → Type 0
Ended o = (c : Before) × (o ≡ Ok c) × (c.place ≡ AtEnd)

abbrev place_of : Step → Place
place_of (Ok b) = b.place
place_of (Err kind) = InBody AtState

module _ (l : Limits) (form : AcceptanceForm) where
  run_err : (kind : HoaFaultKind) (ts : List HoaToken) → run l form (Err kind) ts ≡ Err kind
  run_err kind [] = refl
  run_err kind (t ∷ ts) = run_err kind ts

  pub no_end : {P : Type 0} (kind : HoaFaultKind) (ts : List HoaToken) → Ended (run l form (Err kind) ts) → P
  no_end {P} kind ts e = absurd (let h0 = sym (run_err kind ts) ∙ e.1 in cc)

  -- a test that decides between a step and a fault
  pub if_ended : (c : Bool) (o : Step) (kind : HoaFaultKind) (ts : List HoaToken) → Ended (run l form (if c then o else Err kind) ts) → (c ≡ true) × Ended (run l form o ts)
  if_ended true o kind ts e = (refl, e)
  if_ended false o kind ts e = no_end kind ts e

  pub unless_ended : (c : Bool) (o : Step) (kind : HoaFaultKind) (ts : List HoaToken) → Ended (run l form (if c then Err kind else o) ts) → (c ≡ false) × Ended (run l form o ts)
  unless_ended true o kind ts e = no_end kind ts e
  unless_ended false o kind ts e = (refl, e)

  -- behind the end there is nothing
  pub nothing_behind : (b : Before) (ts : List HoaToken) → b.place ≡ AtEnd → Ended (run l form (Ok b) ts) → ts ≡ []
  nothing_behind b [] q e = refl
  nothing_behind b (t ∷ ts) q e = no_end TextAfterEnd ts (subst (λ p. Ended (run l form (step l form p b t) ts)) q e)

  module _ (A : MarkedAutomaton) where
    abbrev edge_count : List WrittenEdge → ℕ
    edge_count [] = 0
    edge_count (e ∷ es) = length (label_cubes e.label) + edge_count es

    pub record StatesRest (numbers : List ℕ) (edges : ℕ) (ts : List HoaToken) : Type 0 where
      pub states : List WrittenState
      pub spelled : ts ≡ flat_map state_tokens states ++ End ∷ []
      pub inside : IsTrue (list_all (is_state_inside A) states)
      pub narrow : IsTrue (list_all (is_narrow l form A) states)
      pub once : HasNoRepeats (map (λ s. s.number) states)
      pub new : (n : ℕ) → Has (map (λ s. s.number) states) n → ¬ (Has numbers n)
      pub count : edges + count_edges l form A states ≤ l.hoa_edges

    pub record EdgesRest (numbers : List ℕ) (edges : ℕ) (ts : List HoaToken) : Type 0 where
      pub written : List WrittenEdge
      pub rest : List HoaToken
      pub spelled : ts ≡ flat_map edge_tokens written ++ rest
      pub inside : IsTrue (list_all (is_edge_inside A) written)
      pub narrow : IsTrue (list_all (λ e. not (is_wide l.label_cubes e.label)) written)
      pub more : StatesRest numbers (edges + edge_count written) rest

    pub record InSetsRest (numbers : List ℕ) (edges : ℕ) (ts : List HoaToken) : Type 0 where
      pub sets : List ℕ
      pub rest : List HoaToken
      pub spelled : ts ≡ map Int sets ++ CloseSets ∷ rest
      pub below : IsTrue (list_all (λ k. nat_lt k A.sets) sets)
      pub more : EdgesRest numbers edges rest

    pub record SetsRest (numbers : List ℕ) (edges : ℕ) (ts : List HoaToken) : Type 0 where
      pub sets : Option (List ℕ)
      pub rest : List HoaToken
      pub spelled : ts ≡ sets_tokens sets ++ rest
      pub below : IsTrue (are_sets A sets)
      pub more : EdgesRest numbers edges rest

    pub record FrontRest (numbers : List ℕ) (edges : ℕ) (ts : List HoaToken) : Type 0 where
      pub name : Option (List ℕ)
      pub rest : List HoaToken
      pub spelled : ts ≡ name_tokens name ++ rest
      pub more : SetsRest numbers edges rest

    pub record NumberRest (numbers : List ℕ) (edges : ℕ) (ts : List HoaToken) : Type 0 where
      pub number : ℕ
      pub rest : List HoaToken
      pub spelled : ts ≡ Int number ∷ rest
      pub below : nat_lt number A.states ≡ true
      pub fresh : list_any (λ m. m == number) numbers ≡ false
      pub more : FrontRest (number ∷ numbers) edges rest

    pub record TargetRest (numbers : List ℕ) (edges : ℕ) (ts : List HoaToken) : Type 0 where
      pub target : ℕ
      pub rest : List HoaToken
      pub spelled : ts ≡ Int target ∷ rest
      pub below : nat_lt target A.states ≡ true
      pub more : SetsRest numbers edges rest

    -- the rest of a label of which this was written
    pub record LabelRest (written : List HoaToken) (numbers : List ℕ) (edges : ℕ) (ts : List HoaToken) : Type 0 where
      pub label : Label
      pub tokens : List HoaToken
      pub rest : List HoaToken
      pub spelled : ts ≡ tokens ++ CloseLabel ∷ rest
      pub completes : written ++ tokens ≡ label_tokens label
      pub fine : IsFine (length A.names) label
      pub narrow : is_wide l.label_cubes label ≡ false
      pub more : TargetRest numbers (edges + length (label_cubes label)) rest

    abbrev FineAround : List LabelPart → Type 0
    FineAround [] = Unit {0}
    FineAround (p ∷ ps) = FinePart (length A.names) p × FineAround ps

    abbrev Rest : BodyPlace → List ℕ → ℕ → List HoaToken → Type 0
    Rest AtState numbers edges ts = StatesRest numbers edges ts
    Rest AtNumber numbers edges ts = NumberRest numbers edges ts
    Rest AfterNumber numbers edges ts = FrontRest numbers edges ts
    Rest AfterName numbers edges ts = SetsRest numbers edges ts
    Rest InStateSets numbers edges ts = InSetsRest numbers edges ts
    Rest AtEdge numbers edges ts = EdgesRest numbers edges ts
    Rest AtTarget numbers edges ts = TargetRest numbers edges ts
    Rest AfterTarget numbers edges ts = SetsRest numbers edges ts
    Rest InEdgeSets numbers edges ts = InSetsRest numbers edges ts
    Rest (AtOperand p) numbers edges ts = FinePart (length A.names) p.inner → FineAround p.around → LabelRest (written_at p) numbers edges ts
    Rest (AfterOperand p) numbers edges ts = FineWhole (length A.names) p.inner → FineAround p.around → LabelRest (written_after p) numbers edges ts

    -- what holds of these tokens at every place
    abbrev Known : List HoaToken → Type 0
    Known ts = (place : BodyPlace) (numbers : List ℕ) (edges : ℕ) → edges ≤ l.hoa_edges → Ended (run l form (body l form A place numbers edges) ts) → Rest place numbers edges ts

    edge_length : (sets : Option (List ℕ)) (es : List WrittenEdge) → length (flat_map (cube_edges sets) es) ≡ edge_count es
    edge_length sets [] = refl
    edge_length sets (e ∷ es) = one_edge l form A sets e es ∙ ap (λ n. length (label_cubes e.label) + n) (edge_length sets es)

    has_any : (n : ℕ) (numbers : List ℕ) → list_any (λ m. m == n) numbers ≡ false → ¬ (Has numbers n)
    has_any n [] f h = h
    has_any n (m ∷ ms) f (inl e) = first (m == n) (list_any (λ j. j == n) ms) (subst (λ j. (j == n) ≡ true) e (equal_true n)) f
      where
        first : (a b : Bool) → a ≡ true → (a || b) ≡ false → ⊥
        first true b g h = cc
        first false b g h = cc
    has_any n (m ∷ ms) f (inr h) = has_any n ms ((or_parts (m == n) (list_any (λ j. j == n) ms) f).1) h

    five : (a b c d e : List HoaToken) → a ++ (b ++ (c ++ (d ++ e))) ≡ a ++ b ++ c ++ d ++ e
    five a b c d e = sym (append_assoc (a ++ b ++ c) d e ∙ append_assoc (a ++ b) c (d ++ e) ∙ append_assoc a b (c ++ (d ++ e)))

    -- a state and those behind it
    with_state : (numbers : List ℕ) (edges : ℕ) (ts : List HoaToken) → NumberRest numbers edges ts → StatesRest numbers edges (Header (codes "State") ∷ ts)
    with_state numbers edges ts r =
        let front = r.more in
        let sets = front.more in
        let written = sets.more in
        let others = written.more in
        let s : WrittenState = record { number = r.number; name = front.name; sets = sets.sets; edges = written.written } in
        let count = sum_by-cons (λ t. length (state_edges t)) s others.states in
        let own = edge_length sets.sets written.written in
        let all = others.count in
        record {
          states = s ∷ others.states;
          spelled = ap (λ xs. Header (codes "State") ∷ xs) (r.spelled ∙ ap (λ xs. Int r.number ∷ xs) (
              front.spelled ∙ ap (λ xs. name_tokens front.name ++ xs) (sets.spelled ∙ ap (λ xs. sets_tokens sets.sets ++ xs) (written.spelled ∙ ap (λ xs. flat_map edge_tokens written.written ++ xs) others.spelled))
              ∙ five (name_tokens front.name) (sets_tokens sets.sets) (flat_map edge_tokens written.written) (flat_map state_tokens others.states) (End ∷ [])));
          inside = and_from _ _ (and_from _ _ (and_from _ _ r.below sets.below) written.inside) others.inside;
          narrow = and_from _ _ written.narrow others.narrow;
          once = ((λ h. others.new r.number h (inl refl)), others.once);
          new = λ n h g. elim h [ inl e ↦ has_any r.number numbers r.fresh (subst (Has numbers) e g) | inr i ↦ others.new n i (inr g) ];
          count = regroup edges (length (state_edges s)) (count_edges l form A others.states) (edge_count written.written) _ l.hoa_edges count own all;
        }
      where
        regroup : (a b c d n k : ℕ) → n ≡ b + c → b ≡ d → a + d + c ≤ k → a + n ≤ k
        regroup a b c d n k p q r = omega (arith, p, q, r)

    no_states : (numbers : List ℕ) (edges : ℕ) → edges ≤ l.hoa_edges → StatesRest numbers edges (End ∷ [])
    no_states numbers edges m = record { states = []; spelled = refl; inside = refl; narrow = refl; once = tt; new = λ n h g. h; count = omega (arith, m) }

    state_back : (t : HoaToken) (ts : List HoaToken) (numbers : List ℕ) (edges : ℕ) → Known ts → edges ≤ l.hoa_edges
        → Ended (run l form (token_step l form (body l form A AtState numbers edges) t) ts) → StatesRest numbers edges (t ∷ ts)
    state_back (Header name) ts numbers edges k m e =
        let taken = if_ended (same_name name (codes "State")) (body l form A AtNumber numbers edges) BadToken ts e in
        subst (λ n. StatesRest numbers edges (Header n ∷ ts)) (sym (same_exact name (codes "State") taken.0)) (with_state numbers edges ts (k AtNumber numbers edges m taken.1))
    state_back End ts numbers edges k m e = subst (λ xs. StatesRest numbers edges (End ∷ xs)) (sym (nothing_behind _ ts refl e)) (no_states numbers edges m)
    state_back _ ts numbers edges k m e = no_end _ ts e

    -- no edge, and then a state
    no_edges : (numbers : List ℕ) (edges : ℕ) (ts : List HoaToken) → StatesRest numbers edges ts → EdgesRest numbers edges ts
    no_edges numbers edges ts r = record { written = []; rest = ts; spelled = refl; inside = refl; narrow = refl; more = subst (λ n. StatesRest numbers n ts) (omega arith) r }

    -- an edge and those behind it
    with_edge : (numbers : List ℕ) (edges : ℕ) (ts : List HoaToken) → LabelRest [] numbers edges ts → EdgesRest numbers edges (OpenLabel ∷ ts)
    with_edge numbers edges ts r =
        let target = r.more in
        let sets = target.more in
        let others = sets.more in
        let e : WrittenEdge = record { label = r.label; target = target.target; sets = sets.sets } in
        record {
          written = e ∷ others.written;
          rest = others.rest;
          spelled = ap (λ xs. OpenLabel ∷ xs) (
              r.spelled
              ∙ ap (λ xs. r.tokens ++ CloseLabel ∷ xs) (target.spelled ∙ ap (λ xs. Int target.target ∷ xs) (sets.spelled ∙ ap (λ xs. sets_tokens sets.sets ++ xs) others.spelled))
              ∙ ap (λ xs. xs ++ CloseLabel ∷ Int target.target ∷ (sets_tokens sets.sets ++ (flat_map edge_tokens others.written ++ others.rest))) r.completes
              ∙ edge_text (label_tokens r.label) (sets_tokens sets.sets) (flat_map edge_tokens others.written) others.rest target.target);
          inside = and_from _ _ (and_from _ _ (and_from _ _ (and_from _ _ r.fine.0 r.fine.1) target.below) sets.below) others.inside;
          narrow = and_from _ _ (ap not r.narrow) others.narrow;
          more = subst (λ n. StatesRest numbers n others.rest) (regroup edges (length (label_cubes r.label)) (edge_count others.written)) others.more;
        }
      where
        regroup : (a b c : ℕ) → a + b + c ≡ a + (b + c)
        regroup a b c = omega arith

        edge_text : (a b c d : List HoaToken) (n : ℕ) → a ++ CloseLabel ∷ Int n ∷ (b ++ (c ++ d)) ≡ a ++ CloseLabel ∷ Int n ∷ b ++ c ++ d
        edge_text a b c d n = sym (append_assoc (a ++ CloseLabel ∷ Int n ∷ b) c d ∙ append_assoc a (CloseLabel ∷ Int n ∷ b) (c ++ d))

    edge_back : (t : HoaToken) (ts : List HoaToken) (numbers : List ℕ) (edges : ℕ) → Known ts → edges ≤ l.hoa_edges
        → Ended (run l form (token_step l form (body l form A AtEdge numbers edges) t) ts) → EdgesRest numbers edges (t ∷ ts)
    edge_back OpenLabel ts numbers edges k m e = with_edge numbers edges ts (k (AtOperand (parts empty_part [])) numbers edges m e (tt, tt) tt)
    edge_back (Header name) ts numbers edges k m e = no_edges numbers edges (Header name ∷ ts) (state_back (Header name) ts numbers edges k m e)
    edge_back End ts numbers edges k m e = no_edges numbers edges (End ∷ ts) (state_back End ts numbers edges k m e)
    edge_back _ ts numbers edges k m e = no_end _ ts e

    -- sets
    in_sets_cons : (n : ℕ) (ts : List HoaToken) (numbers : List ℕ) (edges : ℕ) → nat_lt n A.sets ≡ true → InSetsRest numbers edges ts → InSetsRest numbers edges (Int n ∷ ts)
    in_sets_cons n ts numbers edges b r =
        record { sets = n ∷ r.sets; rest = r.rest; spelled = ap (λ xs. Int n ∷ xs) r.spelled; below = and_from _ _ b r.below; more = r.more }

    in_sets_end : (ts : List HoaToken) (numbers : List ℕ) (edges : ℕ) → EdgesRest numbers edges ts → InSetsRest numbers edges (CloseSets ∷ ts)
    in_sets_end ts numbers edges r = record { sets = []; rest = ts; spelled = refl; below = refl; more = r }

    state_sets_back : (t : HoaToken) (ts : List HoaToken) (numbers : List ℕ) (edges : ℕ) → Known ts → edges ≤ l.hoa_edges
        → Ended (run l form (token_step l form (body l form A InStateSets numbers edges) t) ts) → InSetsRest numbers edges (t ∷ ts)
    state_sets_back (Int n) ts numbers edges k m e =
        let taken = if_ended (nat_lt n A.sets) (body l form A InStateSets numbers edges) NumberOutOfRange ts e in
        in_sets_cons n ts numbers edges taken.0 (k InStateSets numbers edges m taken.1)
    state_sets_back CloseSets ts numbers edges k m e = in_sets_end ts numbers edges (k AtEdge numbers edges m e)
    state_sets_back _ ts numbers edges k m e = no_end _ ts e

    edge_sets_back : (t : HoaToken) (ts : List HoaToken) (numbers : List ℕ) (edges : ℕ) → Known ts → edges ≤ l.hoa_edges
        → Ended (run l form (token_step l form (body l form A InEdgeSets numbers edges) t) ts) → InSetsRest numbers edges (t ∷ ts)
    edge_sets_back (Int n) ts numbers edges k m e =
        let taken = if_ended (nat_lt n A.sets) (body l form A InEdgeSets numbers edges) NumberOutOfRange ts e in
        in_sets_cons n ts numbers edges taken.0 (k InEdgeSets numbers edges m taken.1)
    edge_sets_back CloseSets ts numbers edges k m e = in_sets_end ts numbers edges (k AtEdge numbers edges m e)
    edge_sets_back _ ts numbers edges k m e = no_end _ ts e

    some_sets : (ts : List HoaToken) (numbers : List ℕ) (edges : ℕ) → InSetsRest numbers edges ts → SetsRest numbers edges (OpenSets ∷ ts)
    some_sets ts numbers edges r = record {
      sets = Some r.sets;
      rest = r.rest;
      spelled = ap (λ xs. OpenSets ∷ xs) (r.spelled ∙ sym (append_assoc (map Int r.sets) (CloseSets ∷ []) r.rest));
      below = r.below;
      more = r.more;
    }

    no_sets : (ts : List HoaToken) (numbers : List ℕ) (edges : ℕ) → EdgesRest numbers edges ts → SetsRest numbers edges ts
    no_sets ts numbers edges r = record { sets = None; rest = ts; spelled = refl; below = refl; more = r }

    name_back : (t : HoaToken) (ts : List HoaToken) (numbers : List ℕ) (edges : ℕ) → Known ts → edges ≤ l.hoa_edges
        → Ended (run l form (token_step l form (body l form A AfterName numbers edges) t) ts) → SetsRest numbers edges (t ∷ ts)
    name_back OpenSets ts numbers edges k m e = some_sets ts numbers edges (k InStateSets numbers edges m e)
    name_back OpenLabel ts numbers edges k m e = no_sets _ numbers edges (edge_back OpenLabel ts numbers edges k m e)
    name_back (Header name) ts numbers edges k m e = no_sets _ numbers edges (edge_back (Header name) ts numbers edges k m e)
    name_back End ts numbers edges k m e = no_sets _ numbers edges (edge_back End ts numbers edges k m e)
    name_back _ ts numbers edges k m e = no_end _ ts e

    target_back : (t : HoaToken) (ts : List HoaToken) (numbers : List ℕ) (edges : ℕ) → Known ts → edges ≤ l.hoa_edges
        → Ended (run l form (token_step l form (body l form A AfterTarget numbers edges) t) ts) → SetsRest numbers edges (t ∷ ts)
    target_back OpenSets ts numbers edges k m e = some_sets ts numbers edges (k InEdgeSets numbers edges m e)
    target_back OpenLabel ts numbers edges k m e = no_sets _ numbers edges (edge_back OpenLabel ts numbers edges k m e)
    target_back (Header name) ts numbers edges k m e = no_sets _ numbers edges (edge_back (Header name) ts numbers edges k m e)
    target_back End ts numbers edges k m e = no_sets _ numbers edges (edge_back End ts numbers edges k m e)
    target_back _ ts numbers edges k m e = no_end _ ts e

    no_name : (ts : List HoaToken) (numbers : List ℕ) (edges : ℕ) → SetsRest numbers edges ts → FrontRest numbers edges ts
    no_name ts numbers edges r = record { name = None; rest = ts; spelled = refl; more = r }

    front_back : (t : HoaToken) (ts : List HoaToken) (numbers : List ℕ) (edges : ℕ) → Known ts → edges ≤ l.hoa_edges
        → Ended (run l form (token_step l form (body l form A AfterNumber numbers edges) t) ts) → FrontRest numbers edges (t ∷ ts)
    front_back (StringToken s) ts numbers edges k m e = record { name = Some s; rest = ts; spelled = refl; more = k AfterName numbers edges m e }
    front_back OpenSets ts numbers edges k m e = no_name _ numbers edges (name_back OpenSets ts numbers edges k m e)
    front_back OpenLabel ts numbers edges k m e = no_name _ numbers edges (name_back OpenLabel ts numbers edges k m e)
    front_back (Header name) ts numbers edges k m e = no_name _ numbers edges (name_back (Header name) ts numbers edges k m e)
    front_back End ts numbers edges k m e = no_name _ numbers edges (name_back End ts numbers edges k m e)
    front_back _ ts numbers edges k m e = no_end _ ts e

    number_back : (t : HoaToken) (ts : List HoaToken) (numbers : List ℕ) (edges : ℕ) → Known ts → edges ≤ l.hoa_edges
        → Ended (run l form (token_step l form (body l form A AtNumber numbers edges) t) ts) → NumberRest numbers edges (t ∷ ts)
    number_back (Int n) ts numbers edges k m e =
        let inside = if_ended (nat_lt n A.states) (if list_any (λ j. j == n) numbers then Err StateDefinedTwice else body l form A AfterNumber (n ∷ numbers) edges) NumberOutOfRange ts e in
        let fresh = unless_ended (list_any (λ j. j == n) numbers) (body l form A AfterNumber (n ∷ numbers) edges) StateDefinedTwice ts inside.1 in
        record { number = n; rest = ts; spelled = refl; below = inside.0; fresh = fresh.0; more = k AfterNumber (n ∷ numbers) edges m fresh.1 }
    number_back _ ts numbers edges k m e = no_end _ ts e

    at_target_back : (t : HoaToken) (ts : List HoaToken) (numbers : List ℕ) (edges : ℕ) → Known ts → edges ≤ l.hoa_edges
        → Ended (run l form (token_step l form (body l form A AtTarget numbers edges) t) ts) → TargetRest numbers edges (t ∷ ts)
    at_target_back (Int n) ts numbers edges k m e =
        let inside = if_ended (nat_lt n A.states) (body l form A AfterTarget numbers edges) NumberOutOfRange ts e in
        record { target = n; rest = ts; spelled = refl; below = inside.0; more = k AfterTarget numbers edges m inside.1 }
    at_target_back _ ts numbers edges k m e = no_end _ ts e

    -- labels

    label_more : (written before : List HoaToken) (t : HoaToken) (ts : List HoaToken) (numbers : List ℕ) (edges : ℕ) → before ≡ written ++ t ∷ [] → LabelRest before numbers edges ts
        → LabelRest written numbers edges (t ∷ ts)
    label_more written before t ts numbers edges q r = record {
      label = r.label;
      tokens = t ∷ r.tokens;
      rest = r.rest;
      spelled = ap (λ xs. t ∷ xs) r.spelled;
      completes = sym (append_assoc written (t ∷ []) r.tokens) ∙ ap (λ xs. xs ++ r.tokens) (sym q) ∙ r.completes;
      fine = r.fine;
      narrow = r.narrow;
      more = r.more;
    }

    abbrev count_names : ℕ
    count_names = length A.names

    -- an operand was read
    operand_more : (p : LabelParts) (a : Label) (t : HoaToken) (ts : List HoaToken) (numbers : List ℕ) (edges : ℕ) → label_tokens a ≡ t ∷ [] → IsFine count_names a → label_rank a ≡ 0
        → FinePart count_names p.inner → FineAround p.around
        → Rest (AfterOperand (parts (with_operand p.inner a) p.around)) numbers edges ts → LabelRest (written_at p) numbers edges (t ∷ ts)
    operand_more p a t ts numbers edges q f r g h k =
        label_more (written_at p) (written_after (parts (with_operand p.inner a) p.around)) t ts numbers edges
        (ap (λ xs. around_text p.around ++ xs) (operand_whole p.inner a ∙ ap (λ xs. part_text p.inner ++ xs) q) ∙ sym (append_assoc (around_text p.around) (part_text p.inner) (t ∷ [])))
        (k (operand_fine count_names p.inner a g f r) h)

    nots_push : (n : ℕ) → nots (n + 1) ≡ nots n ++ NotSign ∷ []
    nots_push n = ap nots (plus_one n) ∙ go n
      where
        plus_one : (i : ℕ) → i + 1 ≡ suc i
        plus_one i = omega arith

        go : (i : ℕ) → nots (suc i) ≡ nots i ++ NotSign ∷ []
        go zero = refl
        go (suc i) = ap (λ xs. NotSign ∷ xs) (go i)

    four_push : (a b c d : List HoaToken) (t : HoaToken) → a ++ (b ++ (c ++ (d ++ t ∷ []))) ≡ a ++ (b ++ (c ++ d)) ++ t ∷ []
    four_push a b c d t =
        ap (λ x. a ++ (b ++ x)) (sym (append_assoc c d (t ∷ []))) ∙ ap (λ x. a ++ x) (sym (append_assoc b (c ++ d) (t ∷ []))) ∙ sym (append_assoc a (b ++ (c ++ d)) (t ∷ []))

    constant_back : (c d : Bool) (p : LabelParts) (s : List ℕ) (ts : List HoaToken) (numbers : List ℕ) (edges : ℕ) → same_name s (codes "t") ≡ c → same_name s (codes "f") ≡ d → Known ts → edges ≤ l.hoa_edges
        → FinePart count_names p.inner → FineAround p.around
        → Ended (run l form (if c then body l form A (AfterOperand (parts (with_operand p.inner (ConstantLabel true)) p.around)) numbers edges else
        if d then body l form A (AfterOperand (parts (with_operand p.inner (ConstantLabel false)) p.around)) numbers edges else Err BadToken) ts)
        → LabelRest (written_at p) numbers edges (Identifier s ∷ ts)
    constant_back true d p s ts numbers edges q r k m g h e =
        operand_more p (ConstantLabel true) (Identifier s) ts numbers edges (ap (λ x. Identifier x ∷ []) (sym (same_exact s (codes "t") q))) (refl, refl) refl g h
        (k (AfterOperand (parts (with_operand p.inner (ConstantLabel true)) p.around)) numbers edges m e)
    constant_back false true p s ts numbers edges q r k m g h e =
        operand_more p (ConstantLabel false) (Identifier s) ts numbers edges (ap (λ x. Identifier x ∷ []) (sym (same_exact s (codes "f") r))) (refl, refl) refl g h
        (k (AfterOperand (parts (with_operand p.inner (ConstantLabel false)) p.around)) numbers edges m e)
    constant_back false false p s ts numbers edges q r k m g h e = no_end BadToken ts e

    at_operand_back : (t : HoaToken) (ts : List HoaToken) (p : LabelParts) (numbers : List ℕ) (edges : ℕ) → Known ts → edges ≤ l.hoa_edges
        → Ended (run l form (token_step l form (body l form A (AtOperand p) numbers edges) t) ts) → Rest (AtOperand p) numbers edges (t ∷ ts)
    at_operand_back NotSign ts p numbers edges k m e g h =
        let next = parts (part p.inner.sum p.inner.product (p.inner.negations + 1)) p.around in
        label_more (written_at p) (written_at next) NotSign ts numbers edges
        (ap (λ x. around_text p.around ++ (sum_text p.inner.sum ++ (product_text p.inner.product ++ x))) (nots_push p.inner.negations)
        ∙ four_push (around_text p.around) (sum_text p.inner.sum) (product_text p.inner.product) (nots p.inner.negations) NotSign)
        (k (AtOperand next) numbers edges m e g h)
    at_operand_back OpenBracket ts p numbers edges k m e g h =
        label_more (written_at p) (written_at (parts empty_part (p.inner ∷ p.around))) OpenBracket ts numbers edges
        (append-nil (around_text (p.inner ∷ p.around)) ∙ sym (append_assoc (around_text p.around) (part_text p.inner) (OpenBracket ∷ [])))
        (k (AtOperand (parts empty_part (p.inner ∷ p.around))) numbers edges m e (tt, tt) (g, h))
    at_operand_back (Int n) ts p numbers edges k m e g h =
        let inside = if_ended (nat_lt n count_names) (body l form A (AfterOperand (parts (with_operand p.inner (NumberLabel n)) p.around)) numbers edges) NumberOutOfRange ts e in
        operand_more p (NumberLabel n) (Int n) ts numbers edges refl (refl, inside.0) refl g h
        (k (AfterOperand (parts (with_operand p.inner (NumberLabel n)) p.around)) numbers edges m inside.1)
    at_operand_back (Identifier s) ts p numbers edges k m e g h =
        constant_back (same_name s (codes "t")) (same_name s (codes "f")) p s ts numbers edges refl refl k m g h e
    at_operand_back _ ts p numbers edges k m e g h = no_end _ ts e

    -- behind an operand `&` waits for the next one
    and_part : (p : LabelPart) → FineWhole count_names p → FinePart count_names p × (part_text p ≡ label_tokens (whole p) ++ AndSign ∷ [])
    and_part p f = go p.sum p.product p.negations f.3 f.1 f.2
      where
        go : (s o : Option Label) (n : ℕ) → FineSum count_names s → o ≡ Some f.0 → n ≡ 0
            → FinePart count_names (part s o n) × (part_text (part s o n) ≡ label_tokens (whole (part s o n)) ++ AndSign ∷ [])
        go s o n g q r =
            subst (λ x. FinePart count_names (part s x n) × (part_text (part s x n) ≡ label_tokens (whole (part s x n)) ++ AndSign ∷ [])) (sym q) (
            subst (λ x. FinePart count_names (part s (Some f.0) x) × (part_text (part s (Some f.0) x) ≡ label_tokens (whole (part s (Some f.0) x)) ++ AndSign ∷ [])) (sym r)
            ((g, (f.4, f.5)), text s))
          where
            text : (x : Option Label) → sum_text x ++ (label_tokens f.0 ++ AndSign ∷ [] ++ []) ≡ label_tokens (whole (part x (Some f.0) 0)) ++ AndSign ∷ []
            text None = append-nil (label_tokens f.0 ++ AndSign ∷ [])
            text (Some a) =
                ap (λ xs. label_tokens a ++ OrSign ∷ [] ++ xs) (append-nil (label_tokens f.0 ++ AndSign ∷ []))
                ∙ append_assoc (label_tokens a) (OrSign ∷ []) (label_tokens f.0 ++ AndSign ∷ [])
                ∙ sym (append_assoc (label_tokens a) (OrSign ∷ label_tokens f.0) (AndSign ∷ []))

    bracket_text : (a b c : List HoaToken) → a ++ (b ++ (OpenBracket ∷ (c ++ CloseBracket ∷ []))) ≡ a ++ (b ++ OpenBracket ∷ []) ++ c ++ CloseBracket ∷ []
    bracket_text a b c =
        ap (λ x. a ++ x) (sym (append_assoc b (OpenBracket ∷ []) (c ++ CloseBracket ∷ []))) ∙ sym (append_assoc a (b ++ OpenBracket ∷ []) (c ++ CloseBracket ∷ []))
        ∙ sym (append_assoc (a ++ (b ++ OpenBracket ∷ [])) c (CloseBracket ∷ []))

    close_bracket_back : (around : List LabelPart) (ts : List HoaToken) (inner : LabelPart) (numbers : List ℕ) (edges : ℕ) → Known ts → edges ≤ l.hoa_edges
        → Ended (run l form (token_step l form (body l form A (AfterOperand (parts inner around)) numbers edges) CloseBracket) ts) → Rest (AfterOperand (parts inner around)) numbers edges (CloseBracket ∷ ts)
    close_bracket_back [] ts inner numbers edges k m e g h = no_end _ ts e
    close_bracket_back (p ∷ ps) ts inner numbers edges k m e g h =
        let label = BracketLabel (whole inner) in
        label_more (written_after (parts inner (p ∷ ps))) (written_after (parts (with_operand p label) ps)) CloseBracket ts numbers edges
        (ap (λ xs. around_text ps ++ xs) (operand_whole p label) ∙ bracket_text (around_text ps) (part_text p) (label_tokens (whole inner)))
        (k (AfterOperand (parts (with_operand p label) ps)) numbers edges m e (operand_fine count_names p label h.0 (whole_fine count_names inner g) refl) h.1)

    close_label_back : (around : List LabelPart) (ts : List HoaToken) (inner : LabelPart) (numbers : List ℕ) (edges : ℕ) → Known ts → edges ≤ l.hoa_edges
        → Ended (run l form (token_step l form (body l form A (AfterOperand (parts inner around)) numbers edges) CloseLabel) ts) → Rest (AfterOperand (parts inner around)) numbers edges (CloseLabel ∷ ts)
    close_label_back [] ts inner numbers edges k m e g h =
        let label = whole inner in
        let count = edges + length (label_cubes label) in
        let inside = unless_ended (is_wide l.label_cubes label || nat_lt l.hoa_edges count) (body l form A AtTarget numbers count) LimitPassed ts e in
        let both = neither (is_wide l.label_cubes label) (nat_lt l.hoa_edges count) inside.0 in
        record {
          label = label;
          tokens = [];
          rest = ts;
          spelled = refl;
          completes = append-nil (label_tokens label);
          fine = whole_fine count_names inner g;
          narrow = both.0;
          more = k AtTarget numbers count (ltb-false l.hoa_edges count both.1) inside.1;
        }
      where
        neither : (a b : Bool) → (a || b) ≡ false → (a ≡ false) × (b ≡ false)
        neither true b q = cc
        neither false b q = (refl, q)
    close_label_back (p ∷ ps) ts inner numbers edges k m e g h = no_end _ ts e

    after_operand_back : (t : HoaToken) (ts : List HoaToken) (p : LabelParts) (numbers : List ℕ) (edges : ℕ) → Known ts → edges ≤ l.hoa_edges
        → Ended (run l form (token_step l form (body l form A (AfterOperand p) numbers edges) t) ts) → Rest (AfterOperand p) numbers edges (t ∷ ts)
    after_operand_back AndSign ts p numbers edges k m e g h =
        let joins = and_part p.inner g in
        label_more (written_after p) (written_at p) AndSign ts numbers edges
        (ap (λ xs. around_text p.around ++ xs) joins.1 ∙ sym (append_assoc (around_text p.around) (label_tokens (whole p.inner)) (AndSign ∷ [])))
        (k (AtOperand p) numbers edges m e joins.0 h)
    after_operand_back OrSign ts p numbers edges k m e g h =
        let next = parts (part (Some (whole p.inner)) None 0) p.around in
        label_more (written_after p) (written_at next) OrSign ts numbers edges
        (ap (λ xs. around_text p.around ++ xs) (append-nil (label_tokens (whole p.inner) ++ OrSign ∷ [])) ∙ sym (append_assoc (around_text p.around) (label_tokens (whole p.inner)) (OrSign ∷ [])))
        (k (AtOperand next) numbers edges m e (whole_fine count_names p.inner g, tt) h)
    after_operand_back CloseBracket ts p numbers edges k m e g h = close_bracket_back p.around ts p.inner numbers edges k m e g h
    after_operand_back CloseLabel ts p numbers edges k m e g h = close_label_back p.around ts p.inner numbers edges k m e g h
    after_operand_back _ ts p numbers edges k m e g h = no_end _ ts e

    -- one token more
    known_more : (place : BodyPlace) (t : HoaToken) (ts : List HoaToken) (numbers : List ℕ) (edges : ℕ) → Known ts → edges ≤ l.hoa_edges
        → Ended (run l form (token_step l form (body l form A place numbers edges) t) ts) → Rest place numbers edges (t ∷ ts)
    known_more AtState t ts numbers edges k m e = state_back t ts numbers edges k m e
    known_more AtNumber t ts numbers edges k m e = number_back t ts numbers edges k m e
    known_more AfterNumber t ts numbers edges k m e = front_back t ts numbers edges k m e
    known_more AfterName t ts numbers edges k m e = name_back t ts numbers edges k m e
    known_more InStateSets t ts numbers edges k m e = state_sets_back t ts numbers edges k m e
    known_more AtEdge t ts numbers edges k m e = edge_back t ts numbers edges k m e
    known_more AtTarget t ts numbers edges k m e = at_target_back t ts numbers edges k m e
    known_more AfterTarget t ts numbers edges k m e = target_back t ts numbers edges k m e
    known_more InEdgeSets t ts numbers edges k m e = edge_sets_back t ts numbers edges k m e
    known_more (AtOperand p) t ts numbers edges k m e = at_operand_back t ts p numbers edges k m e
    known_more (AfterOperand p) t ts numbers edges k m e = after_operand_back t ts p numbers edges k m e

    pub known : (ts : List HoaToken) → Known ts
    known [] place numbers edges m e = absurd (differ (sym (ap place_of e.1) ∙ refl) e.2)
      where
        differ : e.0.place ≡ InBody place → e.0.place ≡ AtEnd → ⊥
        differ q r = cc
    known (t ∷ ts) place numbers edges m e = known_more place t ts numbers edges (known ts) m e
