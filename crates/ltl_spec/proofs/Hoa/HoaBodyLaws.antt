-- The body of a text that reads as an automaton is taken token by token without a fault, and its edges come.
use Rattle.std.proofs.Common.{◌≡◌, ℕ, ◌+◌, ◌≤◌, Bool, true, false, not, ◌&&◌, ◌||◌, inl, inr, List, [], ◌∷◌, ◌++◌, length, refl, sym, ◌∙◌, ap, subst, arith, append_assoc, Option, Some, None, length-append}
use Rattle.std.specs.Prelude.{◌==◌, if◌then◌else◌, nat_lt, IsTrue, map, flat_map, filter, sum_by, unwrap_or, Err, codes}
use Rattle.std.specs.List.{list_all, list_any}
use Rattle.std.proofs.lemmas.Bool.{eqb-true, false_from_ne_true, or_from, le-ltb}
use Rattle.std.proofs.lemmas.List.{append-nil, length-map}
use Rattle.std.proofs.lemmas.List.Sums.{sum_by-cons}
use Rattle.std.specs.Ordering.{nat_cmp}
use Rattle.ltl_spec.specs.Collections.Sets.{Has, set_of}
use Rattle.ltl_spec.specs.Collections.Lists.{HasNoRepeats}
use Rattle.ltl_spec.specs.Automata.Automaton.{Edge}
use Rattle.ltl_spec.specs.Transitions.Cubes.{Cube}
use Rattle.ltl_spec.specs.Tools.Limits.{Limits}
use Rattle.ltl_spec.specs.Hoa.HoaToken.{HoaToken, Header, Int, End, OpenLabel, CloseLabel, CloseSets}
use Rattle.ltl_spec.specs.Hoa.HoaLabel.{Label, label_tokens, label_cubes, is_grouped, has_names_below, is_wide}
use Rattle.ltl_spec.specs.Hoa.HoaReading.{AcceptanceForm, WrittenEdge, WrittenState, sets_tokens, name_tokens, edge_tokens, state_tokens, cube_edges, state_edges, MarkedAutomaton, are_sets, is_edge_inside, is_state_inside}
use Rattle.ltl_spec.specs.Hoa.HoaFaultKind.{NumberOutOfRange, StateDefinedTwice, LimitPassed}
use Rattle.ltl_spec.specs.Hoa.HoaPlace.{BodyPlace, AtState, AtNumber, AfterNumber, AfterName, InStateSets, AtEdge, AtTarget, AfterTarget, InEdgeSets, AtOperand, InBody, AtEnd, empty_part}
use Rattle.ltl_spec.specs.Hoa.HoaStep.{Step}
use Rattle.ltl_spec.specs.Hoa.HoaMachine.{Came, CameEdge, first_or, edges_of}
use Rattle.ltl_spec.proofs.Hoa.HoaLabelLaws.{Told, tell_one, tell, tell-append, in_turn, parts, label_taken}
use Rattle.ltl_spec.proofs.Hoa.HoaHeaderLaws.{at, whole_header, not_true}
use Rattle.ltl_spec.proofs.Collections.CaseLaws.{left_true, right_true}

-- whether an edge, or a state, may begin at the place
abbrev pub begins_edge : BodyPlace → Bool
begins_edge AfterNumber = true
begins_edge AfterName = true
begins_edge AtEdge = true
begins_edge AfterTarget = true
begins_edge _ = false

abbrev pub begins_state : BodyPlace → Bool
begins_state AtState = true
begins_state place = begins_edge place

pub edge_begins_state : (place : BodyPlace) → IsTrue (begins_edge place) → IsTrue (begins_state place)
edge_begins_state AtState e = refl
edge_begins_state AfterNumber e = refl
edge_begins_state AfterName e = refl
edge_begins_state AtEdge e = refl
edge_begins_state AfterTarget e = refl
edge_begins_state _ e = cc

abbrev came_with : List ℕ → List Cube → CameEdge → List CameEdge → Came
came_with sets cubes e es = record { sets = sets; cubes = cubes; edges = e ∷ es }

-- what an edge adds
abbrev came_edge : ℕ → WrittenEdge → Came → Came
came_edge n e g =
    came_with g.sets (label_cubes e.label) (record { state = n; cubes = label_cubes e.label; target = e.target; sets = g.sets ++ unwrap_or e.sets [] }) g.edges

abbrev more_marks : CameEdge → List ℕ → CameEdge
more_marks e ks = record e { sets = e.sets ++ ks }

-- those of a state, part by part
two_parts : {K : Type 0} (c : Bool) (x y z : List K) → (x ++ (if c then y else [])) ++ (if c then z else []) ≡ x ++ (if c then y ++ z else [])
two_parts true x y z = append_assoc x y z
two_parts false x y z = append-nil (x ++ [])

no_part : {K : Type 0} (c : Bool) (x : List K) → x ≡ x ++ (if c then [] else [])
no_part true x = sym (append-nil x)
no_part false x = sym (append-nil x)

one_state : (x : List Edge) (s : WrittenState) (ss : List WrittenState) (k : ℕ)
    → (x ++ (if s.number == k then state_edges s else [])) ++ flat_map state_edges (filter (λ t. t.number == k) ss) ≡ x ++ flat_map state_edges (filter (λ t. t.number == k) (s ∷ ss))
one_state x s ss k = go (s.number == k)
  where
    go : (c : Bool)
        → (x ++ (if c then state_edges s else [])) ++ flat_map state_edges (filter (λ t. t.number == k) ss)
        ≡ x ++ flat_map state_edges (if c then s ∷ filter (λ t. t.number == k) ss else filter (λ t. t.number == k) ss)
    go true = append_assoc x (state_edges s) _
    go false = ap (λ y. y ++ flat_map state_edges (filter (λ t. t.number == k) ss)) (append-nil x)

module _ (l : Limits) (form : AcceptanceForm) (A : MarkedAutomaton) where
  abbrev pub body : BodyPlace → List ℕ → ℕ → Step
  body place numbers edges = at l form (InBody place) (whole_header A) numbers edges

  edge_opens : (place : BodyPlace) (numbers : List ℕ) (edges : ℕ) (g : Came) → IsTrue (begins_edge place)
      → tell_one l form (body place numbers edges, g) OpenLabel ≡ (body (AtOperand (parts empty_part [])) numbers edges, g)
  edge_opens AfterNumber numbers edges g e = refl
  edge_opens AfterName numbers edges g e = refl
  edge_opens AtEdge numbers edges g e = refl
  edge_opens AfterTarget numbers edges g e = refl
  edge_opens _ numbers edges g e = cc

  state_opens : (place : BodyPlace) (numbers : List ℕ) (edges : ℕ) (g : Came) → IsTrue (begins_state place)
      → tell_one l form (body place numbers edges, g) (Header (codes "State")) ≡ (body AtNumber numbers edges, g)
  state_opens AtState numbers edges g e = refl
  state_opens AfterNumber numbers edges g e = refl
  state_opens AfterName numbers edges g e = refl
  state_opens AtEdge numbers edges g e = refl
  state_opens AfterTarget numbers edges g e = refl
  state_opens _ numbers edges g e = cc

  pub ends : (place : BodyPlace) (numbers : List ℕ) (edges : ℕ) (g : Came) → IsTrue (begins_state place)
      → tell_one l form (body place numbers edges, g) End ≡ (at l form AtEnd (whole_header A) numbers edges, g)
  ends AtState numbers edges g e = refl
  ends AfterNumber numbers edges g e = refl
  ends AfterName numbers edges g e = refl
  ends AtEdge numbers edges g e = refl
  ends AfterTarget numbers edges g e = refl
  ends _ numbers edges g e = cc

  -- the sets of a state and of an edge
  state_sets_told : (ks : List ℕ) (numbers : List ℕ) (edges : ℕ) (g : Came) → IsTrue (list_all (λ k. nat_lt k A.sets) ks)
      → tell l form (body InStateSets numbers edges, g) (map Int ks ++ CloseSets ∷ []) ≡ (body AtEdge numbers edges, record g { sets = g.sets ++ ks })
  state_sets_told [] numbers edges g e = ap (λ ns. (body AtEdge numbers edges, record g { sets = ns })) (sym (append-nil g.sets))
  state_sets_told (k ∷ ks) numbers edges g e =
      ap (λ t. tell l form (if t then body InStateSets numbers edges else Err NumberOutOfRange, record g { sets = g.sets ++ k ∷ [] }) (map Int ks ++ CloseSets ∷ [])) (left_true _ _ e)
      ∙ state_sets_told ks numbers edges (record g { sets = g.sets ++ k ∷ [] }) (right_true (nat_lt k A.sets) _ e)
      ∙ ap (λ ns. (body AtEdge numbers edges, record g { sets = ns })) (append_assoc g.sets (k ∷ []) ks)

  edge_sets_told : (ks : List ℕ) (numbers : List ℕ) (edges : ℕ) (sets : List ℕ) (cubes : List Cube) (x : CameEdge) (xs : List CameEdge) → IsTrue (list_all (λ k. nat_lt k A.sets) ks)
      → tell l form (body InEdgeSets numbers edges, came_with sets cubes x xs) (map Int ks ++ CloseSets ∷ [])
      ≡ (body AtEdge numbers edges, came_with sets cubes (more_marks x ks) xs)
  edge_sets_told [] numbers edges sets cubes x xs e = ap (λ ns. (body AtEdge numbers edges, came_with sets cubes (record x { sets = ns }) xs)) (sym (append-nil x.sets))
  edge_sets_told (k ∷ ks) numbers edges sets cubes x xs e =
      ap (λ t. tell l form (if t then body InEdgeSets numbers edges else Err NumberOutOfRange, came_with sets cubes (more_marks x (k ∷ [])) xs) (map Int ks ++ CloseSets ∷ [])) (left_true _ _ e)
      ∙ edge_sets_told ks numbers edges sets cubes (more_marks x (k ∷ [])) xs (right_true (nat_lt k A.sets) _ e)
      ∙ ap (λ ns. (body AtEdge numbers edges, came_with sets cubes (record x { sets = ns }) xs)) (append_assoc x.sets (k ∷ []) ks)

  -- where something leads to, and what has come then
  abbrev Leads : Told → List HoaToken → List ℕ → ℕ → Came → Type 0
  Leads from tokens numbers edges h = (q : BodyPlace) × IsTrue (begins_edge q) × (tell l form from tokens ≡ (body q numbers edges, h))

  target_leads : (marks : Option (List ℕ)) (numbers : List ℕ) (edges : ℕ) (sets : List ℕ) (cubes : List Cube) (x : CameEdge) (xs : List CameEdge) → IsTrue (are_sets A marks)
      → Leads (body AfterTarget numbers edges, came_with sets cubes x xs) (sets_tokens marks) numbers edges (came_with sets cubes (more_marks x (unwrap_or marks [])) xs)
  target_leads None numbers edges sets cubes x xs e =
      (AfterTarget, refl, ap (λ ns. (body AfterTarget numbers edges, came_with sets cubes (record x { sets = ns }) xs)) (sym (append-nil x.sets)))
  target_leads (Some ks) numbers edges sets cubes x xs e = (AtEdge, refl, edge_sets_told ks numbers edges sets cubes x xs e)

  abbrev closing : Label → List ℕ → ℕ → Step
  closing a numbers edges =
      if is_wide l.label_cubes a || nat_lt l.hoa_edges (edges + length (label_cubes a)) then Err LimitPassed else body AtTarget numbers (edges + length (label_cubes a))

  edge_leads : (e : WrittenEdge) (place : BodyPlace) (numbers : List ℕ) (edges : ℕ) (g : Came) → IsTrue (begins_edge place) → IsTrue (is_edge_inside A e)
      → is_wide l.label_cubes e.label ≡ false → edges + length (label_cubes e.label) ≤ l.hoa_edges
      → Leads (body place numbers edges, g) (edge_tokens e) numbers (edges + length (label_cubes e.label)) (came_edge (first_or 0 numbers) e g)
  edge_leads e place numbers edges g p i w m =
      let inner = left_true _ _ i in
      let checked = left_true _ _ inner in
      let label = (label_taken l form (whole_header A) A.names numbers edges g refl e.label (left_true _ _ checked) (right_true (is_grouped e.label) _ checked)).as_whole [] in
      let count = edges + length (label_cubes e.label) in
      let began : Told = (body (AtOperand (parts empty_part [])) numbers edges, g) in
      let after = target_leads e.sets numbers count g.sets (label_cubes e.label) (record { state = first_or 0 numbers; cubes = label_cubes e.label; target = e.target; sets = g.sets }) g.edges (right_true _ _ i) in
      let behind = Int e.target ∷ sets_tokens e.sets in (
        after.0,
        after.1,
        ap (λ o. tell l form o (label_tokens e.label ++ CloseLabel ∷ behind)) (edge_opens place numbers edges g p)
            ∙ tell-append l form began (label_tokens e.label) (CloseLabel ∷ behind)
            ∙ ap (λ o. tell l form o (CloseLabel ∷ behind)) label.2
            ∙ ap (λ a. tell l form (closing a numbers edges, record g { cubes = label_cubes a }) behind) label.1
            ∙ ap (λ t. tell l form (if t then Err LimitPassed else body AtTarget numbers count, record g { cubes = label_cubes e.label }) behind)
            (or_from _ _ w (le-ltb l.hoa_edges count m))
            ∙ ap (λ t. tell l form (if t then body AfterTarget numbers count else Err NumberOutOfRange, came_with g.sets (label_cubes e.label) (record { state = first_or 0 numbers; cubes = label_cubes e.label; target = e.target; sets = g.sets }) g.edges) (sets_tokens e.sets))
            (right_true (is_grouped e.label && has_names_below (length A.names) e.label) _ inner)
            ∙ after.2,
      )

  -- the cubes of one edge, and of the edges behind it
  pub one_edge : (sets : Option (List ℕ)) (e : WrittenEdge) (es : List WrittenEdge)
      → length (flat_map (cube_edges sets) (e ∷ es)) ≡ length (label_cubes e.label) + length (flat_map (cube_edges sets) es)
  one_edge sets e es =
      length-append (cube_edges sets e) (flat_map (cube_edges sets) es)
      ∙ ap (λ n. n + length (flat_map (cube_edges sets) es)) (length-map (label_cubes e.label) _)

  -- the edges of a state
  record EdgesTold (sets : Option (List ℕ)) (es : List WrittenEdge) (place : BodyPlace) (numbers : List ℕ) (edges : ℕ) (g : Came) : Type 0 where
    pub place_behind : BodyPlace
    pub begins : IsTrue (begins_edge place_behind)
    pub came : Came
    pub told : tell l form (body place numbers edges, g) (flat_map edge_tokens es) ≡ (body place_behind numbers (edges + length (flat_map (cube_edges sets) es)), came)
    pub are : (k : ℕ) → edges_of k came.edges ≡ edges_of k g.edges ++ (if first_or 0 numbers == k then flat_map (cube_edges sets) es else [])

  edges_lead : (sets : Option (List ℕ)) (es : List WrittenEdge) (place : BodyPlace) (numbers : List ℕ) (edges : ℕ) (g : Came) → g.sets ≡ unwrap_or sets [] → IsTrue (begins_edge place)
      → IsTrue (list_all (is_edge_inside A) es) → IsTrue (list_all (λ e. not (is_wide l.label_cubes e.label)) es)
      → edges + length (flat_map (cube_edges sets) es) ≤ l.hoa_edges
      → EdgesTold sets es place numbers edges g
  edges_lead sets [] place numbers edges g q p i w m = record {
    place_behind = place;
    begins = p;
    came = g;
    told = ap (λ n. (body place numbers n, g)) (no_more edges);
    are = λ k. no_part (first_or 0 numbers == k) (edges_of k g.edges);
  }
    where
      no_more : (n : ℕ) → n ≡ n + 0
      no_more n = omega arith
  edges_lead sets (e ∷ es) place numbers edges g q p i w m =
      let count = one_edge sets e es in
      let n = first_or 0 numbers in
      let first = edge_leads e place numbers edges g p (left_true _ _ i) (not_true _ (left_true _ _ w)) (omega (arith, count, m)) in
      let sum = regroup edges (length (label_cubes e.label)) (length (flat_map (cube_edges sets) es)) _ count in
      let rest = edges_lead sets es first.0 numbers (edges + length (label_cubes e.label)) (came_edge n e g) q first.1 (right_true (is_edge_inside A e) _ i)
      (right_true (not (is_wide l.label_cubes e.label)) _ w) (subst (λ c. c ≤ l.hoa_edges) sum m) in
      record {
        place_behind = rest.place_behind;
        begins = rest.begins;
        came = rest.came;
        told =
            tell-append l form (body place numbers edges, g) (edge_tokens e) (flat_map edge_tokens es)
            ∙ ap (λ o. tell l form o (flat_map edge_tokens es)) first.2
            ∙ rest.told
            ∙ ap (λ c. (body rest.place_behind numbers c, rest.came)) (sym sum);
        are = λ k.
            rest.are k
            ∙ ap (λ ns. (edges_of k g.edges ++ (if n == k then map (λ c. record { cube = c; target = e.target; marks = set_of nat_cmp (ns ++ unwrap_or e.sets []) }) (label_cubes e.label) else [])) ++ (if n == k then flat_map (cube_edges sets) es else [])) q
            ∙ two_parts (n == k) (edges_of k g.edges) (cube_edges sets e) (flat_map (cube_edges sets) es);
      }
    where
      regroup : (a b c d : ℕ) → d ≡ b + c → a + d ≡ a + b + c
      regroup a b c d q = omega (arith, q)

  -- the name and the sets of a state
  name_leads : (name sets : Option (List ℕ)) (numbers : List ℕ) (edges : ℕ) (g : Came) → g.sets ≡ [] → IsTrue (are_sets A sets)
      → Leads (body AfterNumber numbers edges, g) (name_tokens name ++ sets_tokens sets) numbers edges (record g { sets = unwrap_or sets [] })
  name_leads None None numbers edges g n e = (AfterNumber, refl, ap (λ ns. (body AfterNumber numbers edges, record g { sets = ns })) n)
  name_leads None (Some ks) numbers edges g n e = (AtEdge, refl, state_sets_told ks numbers edges g e ∙ ap (λ ns. (body AtEdge numbers edges, record g { sets = ns ++ ks })) n)
  name_leads (Some name) None numbers edges g n e = (AfterName, refl, ap (λ ns. (body AfterName numbers edges, record g { sets = ns })) n)
  name_leads (Some name) (Some ks) numbers edges g n e = (AtEdge, refl, state_sets_told ks numbers edges g e ∙ ap (λ ns. (body AtEdge numbers edges, record g { sets = ns ++ ks })) n)

  -- no label of the state is too wide
  abbrev pub is_narrow : WrittenState → Bool
  is_narrow s = list_all (λ e. not (is_wide l.label_cubes e.label)) s.edges

  record StateTold (s : WrittenState) (place : BodyPlace) (numbers : List ℕ) (edges : ℕ) (g : Came) : Type 0 where
    pub place_behind : BodyPlace
    pub begins : IsTrue (begins_edge place_behind)
    pub came : Came
    pub told : tell l form (body place numbers edges, g) (state_tokens s) ≡ (body place_behind (s.number ∷ numbers) (edges + length (state_edges s)), came)
    pub are : (k : ℕ) → edges_of k came.edges ≡ edges_of k g.edges ++ (if s.number == k then state_edges s else [])

  state_leads : (s : WrittenState) (place : BodyPlace) (numbers : List ℕ) (edges : ℕ) (g : Came) → IsTrue (begins_state place)
      → IsTrue (is_state_inside A s) → IsTrue (is_narrow s) → list_any (λ m. m == s.number) numbers ≡ false → edges + length (state_edges s) ≤ l.hoa_edges
      → StateTold s place numbers edges g
  state_leads s place numbers edges g p i w f m =
      let checked = left_true _ _ i in
      let none = record g { sets = [] } in
      let head = name_leads s.name s.sets (s.number ∷ numbers) edges none refl (right_true (nat_lt s.number A.states) _ checked) in
      let rest = edges_lead s.sets s.edges head.0 (s.number ∷ numbers) edges (record g { sets = unwrap_or s.sets [] }) refl head.1 (right_true _ _ i) w m in
      let behind = name_tokens s.name ++ sets_tokens s.sets ++ flat_map edge_tokens s.edges in
      record {
        place_behind = rest.place_behind;
        begins = rest.begins;
        came = rest.came;
        told =
            ap (λ o. tell l form o (Int s.number ∷ behind)) (state_opens place numbers edges g p)
            ∙ ap (λ t. tell l form (if t then (if list_any (λ m. m == s.number) numbers then Err StateDefinedTwice else body AfterNumber (s.number ∷ numbers) edges) else Err NumberOutOfRange, none) behind)
            (left_true _ _ checked)
            ∙ ap (λ t. tell l form (if t then Err StateDefinedTwice else body AfterNumber (s.number ∷ numbers) edges, none) behind) f
            ∙ tell-append l form (body AfterNumber (s.number ∷ numbers) edges, none) (name_tokens s.name ++ sets_tokens s.sets) (flat_map edge_tokens s.edges)
            ∙ ap (λ o. tell l form o (flat_map edge_tokens s.edges)) head.2
            ∙ rest.told;
        are = rest.are;
      }

  fresh : (n : ℕ) (numbers : List ℕ) → ¬ (Has numbers n) → list_any (λ m. m == n) numbers ≡ false
  fresh n [] h = refl
  fresh n (m ∷ ms) h = or_from (m == n) _ (false_from_ne_true (m == n) (λ e. h (inl (sym (eqb-true m n e))))) (fresh n ms (λ k. h (inr k)))

  abbrev pub count_edges : List WrittenState → ℕ
  count_edges ss = sum_by (λ s. length (state_edges s)) ss

  -- all states
  pub record StatesTold (ss : List WrittenState) (place : BodyPlace) (numbers : List ℕ) (edges : ℕ) (g : Came) : Type 0 where
    pub place_behind : BodyPlace
    pub begins : IsTrue (begins_state place_behind)
    pub all : List ℕ
    pub count : ℕ
    pub came : Came
    pub told : tell l form (body place numbers edges, g) (flat_map state_tokens ss) ≡ (body place_behind all count, came)
    pub are : (k : ℕ) → edges_of k came.edges ≡ edges_of k g.edges ++ flat_map state_edges (filter (λ t. t.number == k) ss)

  behind_state : (s : WrittenState) (ss : List WrittenState) (place : BodyPlace) (numbers : List ℕ) (edges : ℕ) (g : Came) (first : StateTold s place numbers edges g)
      → StatesTold ss first.place_behind (s.number ∷ numbers) (edges + length (state_edges s)) first.came → StatesTold (s ∷ ss) place numbers edges g
  behind_state s ss place numbers edges g first rest = record {
    place_behind = rest.place_behind;
    begins = rest.begins;
    all = rest.all;
    count = rest.count;
    came = rest.came;
    told = in_turn l form (body place numbers edges, g) (state_tokens s) (flat_map state_tokens ss) _ _ first.told rest.told;
    are = λ k.
        rest.are k
        ∙ ap (λ x. x ++ flat_map state_edges (filter (λ t. t.number == k) ss)) (first.are k)
        ∙ one_state (edges_of k g.edges) s ss k;
  }

  pub states_lead : (ss : List WrittenState) (place : BodyPlace) (numbers : List ℕ) (edges : ℕ) (g : Came) → IsTrue (begins_state place)
      → IsTrue (list_all (is_state_inside A) ss) → IsTrue (list_all (is_narrow) ss) → HasNoRepeats (map (λ s. s.number) ss)
      → ((n : ℕ) → Has (map (λ s. s.number) ss) n → ¬ (Has numbers n)) → edges + count_edges ss ≤ l.hoa_edges
      → StatesTold ss place numbers edges g
  states_lead [] place numbers edges g p i w d f m = record { place_behind = place; begins = p; all = numbers; count = edges; came = g; told = refl; are = λ k. sym (append-nil (edges_of k g.edges)) }
  states_lead (s ∷ ss) place numbers edges g p i w d f m =
      let count = sum_by-cons (λ t. length (state_edges t)) s ss in
      let first = state_leads s place numbers edges g p (left_true _ _ i) (left_true _ _ w) (fresh s.number numbers (f s.number (inl refl))) (omega (arith, count, m)) in
      behind_state s ss place numbers edges g first (
      states_lead ss first.place_behind (s.number ∷ numbers) (edges + length (state_edges s)) first.came (edge_begins_state first.place_behind first.begins) (right_true (is_state_inside A s) _ i)
      (right_true (is_narrow s) _ w) d.1
      (λ n h k. elim k [ inl e ↦ d.0 (subst (Has (map (λ t. t.number) ss)) e h) | inr r ↦ f n (inr h) r ])
      (regroup _ (length (state_edges s)) (count_edges ss) _ _ count m))
    where
      regroup : (a b c k n : ℕ) → n ≡ b + c → a + n ≤ k → a + b + c ≤ k
      regroup a b c k n e q = omega (arith, e, q)
