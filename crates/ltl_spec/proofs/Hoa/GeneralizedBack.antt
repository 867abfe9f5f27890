-- The text of a generalized automaton reads as that automaton.
use Rattle.std.proofs.Common.{◌≡◌, ℕ, zero, suc, ◌+◌, ◌^◌, ◌<◌, ◌≤◌, Bool, true, false, not, ◌&&◌, ◌==◌, inl, inr, List, [], ◌∷◌, ◌++◌, length, map, Option, None, codes, refl, sym, ◌∙◌, ap, subst, arith, append_assoc}
use Rattle.std.specs.Prelude.{if◌then◌else◌, nat_lt, filter, flat_map, decimal, sum_by, unwrap_or, slice_index_or, fold, All, IsTrue}
use Rattle.std.specs.List.{list_all, range_with_len}
use Rattle.std.specs.Ordering.{nat_cmp}
use Rattle.std.proofs.lemmas.Bool.{eqb-true}
use Rattle.std.proofs.lemmas.Bool.Decides.{nat_tests}
use Rattle.std.proofs.lemmas.List.{append-nil, map-id}
use Rattle.ltl_spec.specs.Collections.Sets.{Has, IsRising, set_of}
use Rattle.ltl_spec.specs.Collections.Lists.{HasNoRepeats}
use Rattle.ltl_spec.specs.Semantics.Word.{Name}
use Rattle.ltl_spec.specs.Formulas.Formula.{UnaryOperator, Not, BinaryOperator, And, Reading}
use Rattle.ltl_spec.specs.Formulas.Canonical.{canonical_text, unary_text, binary_text}
use Rattle.ltl_spec.specs.Formulas.Tokens.{is_name_byte}
use Rattle.ltl_spec.specs.Formulas.Names.{is_proposition}
use Rattle.ltl_spec.specs.Transitions.Cubes.{literal_cmp, is_contradictory}
use Rattle.ltl_spec.specs.Automata.Automaton.{Automaton, Edge, State, state_at}
use Rattle.ltl_spec.specs.Automata.ClaimText.{line}
use Rattle.ltl_spec.specs.Automata.HoaText.{quoted, names_line}
use Rattle.ltl_spec.specs.Automata.GeneralizedText.{acceptance_name, acceptance_text, marked_state_lines, generalized_text}
use Rattle.ltl_spec.specs.Tools.Limits.{Limits, stated_limits}
use Rattle.ltl_spec.specs.Hoa.HoaToken.{HoaToken, StringToken, Identifier, Header, Int, Body, End, hoa_tokens}
use Rattle.ltl_spec.specs.Hoa.HoaLabel.{is_wide}
use Rattle.ltl_spec.specs.Hoa.HoaReading.{AcceptanceForm, StatesItem, StartItem, SetsItem, NamesItem, OtherItem, WrittenEdge, WrittenState, HoaDocument, document_tokens, state_tokens, header_item_tokens, MarkedAutomaton, cube_edges, state_edges, edges_at, is_plain, is_edge_inside, is_state_inside, are_sets, HoaReadsWithin}
use Rattle.ltl_spec.specs.Hoa.HoaPrinted.{IsPrintedEdge, IsPrinted, marked_of}
use Rattle.ltl_spec.proofs.Collections.SetLaws.{set_of_same}
use Rattle.ltl_spec.proofs.Collections.Orders.{nat_linear}
use Rattle.ltl_spec.proofs.Collections.ListLaws.{Has-at, All-at_has}
use Rattle.ltl_spec.proofs.Collections.MemberLaws.{all_Decides, map_cases, map_length}
use Rattle.ltl_spec.proofs.Formulas.ByteLaws.{proposition_bytes, formula_bytes}
use Rattle.ltl_spec.proofs.Hoa.HoaLaws.{one_automaton}
use Rattle.ltl_spec.proofs.Hoa.SpelledLaws.{Spells, spells_all, is_clean}
use Rattle.ltl_spec.proofs.Hoa.SpelledStates.{format_line, name_line, states_line, start_line, names_spelled, name_of_acceptance, acceptance_name_line, acceptance_line, properties_line, body_line, end_line, cube_label, written_marks, IsSmallEdge, state_spelled}
use Rattle.ltl_spec.proofs.Hoa.SpelledLabels.{printed_cubes, printed_narrow, printed_fine}
use Rattle.ltl_spec.proofs.Collections.FoundLaws.{map_same, map_equal}

-- ---- no `"` and no `\` stands in a formula's text

name_byte_clean : (b : ℕ) → is_name_byte b ≡ true → is_clean b ≡ true
name_byte_clean b e = grind (arith, nat_tests, e)

name_clean : (names : List Name) → list_all is_proposition names ≡ true → (n : Name) → Has names n → list_all is_clean n ≡ true
name_clean names e n h = proposition_bytes is_clean name_byte_clean n ((all_Decides is_proposition names).0 e n h)

unary_clean : (op : UnaryOperator) → list_all is_clean (unary_text op) ≡ true
unary_clean Not = refl
unary_clean _ = refl

binary_clean : (op : BinaryOperator) → list_all is_clean (binary_text op) ≡ true
binary_clean And = refl
binary_clean _ = refl

formula_clean : (R : Reading) → list_all is_proposition R.names ≡ true → list_all is_clean (canonical_text R) ≡ true
formula_clean R e = formula_bytes is_clean name_byte_clean unary_clean binary_clean refl refl R.names e R.formula

-- ---- numbers in a row

pub range_below : (a n k : ℕ) → Has (range_with_len a n) k → (a ≤ k) × (k < a + n)
range_below a zero k h = absurd h
range_below a (suc n) k (inl e) = (omega arith, omega arith)
range_below a (suc n) k (inr h) = let r = range_below (a + 1) n k h in let l = r.0 in let u = r.1 in (omega arith, omega arith)

pub range_differs : (a n : ℕ) → HasNoRepeats (range_with_len a n)
range_differs a zero = tt
range_differs a (suc n) = ((λ h. let l = (range_below (a + 1) n a h).0 in omega arith), range_differs (a + 1) n)

-- a list by its places
pub by_place : {X : Type 0} (a : ℕ) (xs : List X) (d : X) (f : ℕ → X) → ((k : ℕ) → k < length xs → f (a + k) ≡ slice_index_or xs k d) → map f (range_with_len a (length xs)) ≡ xs
by_place a [] d f e = refl
by_place a (x ∷ xs) d f e =
    let here : a ≡ a + 0 = omega arith in
    let first = ap f here ∙ e 0 (omega arith) in
    let rest = by_place (a + 1) xs d f (λ k l. let next : a + 1 + k ≡ a + suc k = omega arith in ap f next ∙ e (suc k) (omega arith)) in
    λ i. first i ∷ rest i

pub sum_same : {X Y : Type 0} (f : X → Y) (g : Y → ℕ) (h : X → ℕ) (n : ℕ) (xs : List X) → ((x : X) → Has xs x → g (f x) ≡ h x) → fold (λ a y. a + g y) n (map f xs) ≡ fold (λ a x. a + h x) n xs
sum_same f g h n [] e = refl
sum_same f g h n (x ∷ xs) e = ap (λ m. fold (λ a y. a + g y) (n + m) (map f xs)) (e x (inl refl)) ∙ sum_same f g h (n + h x) xs (λ y m. e y (inr m))

-- ---- pieces in a row

-- a piece of the text and its tokens
abbrev pub Piece : Type 0
Piece = List ℕ × List HoaToken

abbrev pub text_of : List Piece → List ℕ
text_of [] = []
text_of (x ∷ xs) = x.0 ++ text_of xs

abbrev pub tokens_of : List Piece → List HoaToken
tokens_of [] = []
tokens_of (x ∷ xs) = x.1 ++ tokens_of xs

abbrev pub AreSpelled : List Piece → Type 0
AreSpelled [] = Unit {0}
AreSpelled (x ∷ xs) = Spells x.0 x.1 × AreSpelled xs

pub in_a_row : (t : List ℕ) (xs : List Piece) → fold (λ u x. u ++ x.0) t xs ≡ t ++ text_of xs
in_a_row t [] = sym (append-nil t)
in_a_row t (x ∷ xs) = in_a_row (t ++ x.0) xs ∙ append_assoc t x.0 (text_of xs)

pub spelled_in_row : (xs : List Piece) → AreSpelled xs → hoa_tokens (text_of xs) ≡ tokens_of xs
spelled_in_row [] s = refl
spelled_in_row (x ∷ xs) s = s.0 (text_of xs) ∙ ap (λ ts. x.1 ++ ts) (spelled_in_row xs s.1)

-- ---- texts of automata

small_test : (m n : ℕ) → m < n → nat_lt m n ≡ true
small_test m n b = grind (arith, nat_tests, b)

-- How acceptance is written: the number of sets, the lines for it with the words behind their headers, the sets at a state and at an edge, and
-- the lines of a state with its edges
pub record Form : Type 0 where
  pub sets : ℕ
  pub name : Piece
  pub acceptance : List ℕ
  pub properties : Piece
  pub at_state : State → Option (List ℕ)
  pub at_edge : Edge → Option (List ℕ)
  pub lines : ℕ → List ℕ

module _ (l : Limits) (A : Automaton) (R : Reading) (f : Form) where
  abbrev numbers : List ℕ
  numbers = range_with_len 0 (length A.states)

  abbrev edge_in : Edge → WrittenEdge
  edge_in e = record { label = cube_label e.cube; target = e.target; sets = f.at_edge e }

  abbrev pub state_in : ℕ → WrittenState
  state_in k = let s = state_at A k in record { number = k; name = None; sets = f.at_state s; edges = map edge_in s.edges }

  -- an edge as it is read: in the sets of its state and in its own
  abbrev pub read_edge : State → Edge → Edge
  read_edge s e = record { cube = e.cube; target = e.target; marks = set_of nat_cmp (unwrap_or (f.at_state s) [] ++ unwrap_or (f.at_edge e) []) }

  abbrev pub read_of : MarkedAutomaton
  read_of = record { states = length A.states; start = 0; sets = f.sets; names = R.names; edges = map (λ s. map (read_edge s) s.edges) A.states }

  -- the text as it is written
  abbrev document : HoaDocument
  document = record {
    items = OtherItem (codes "name") (StringToken (canonical_text R) ∷ []) ∷ StatesItem (length A.states) ∷ StartItem 0 ∷ NamesItem R.names
        ∷ OtherItem (codes "acc-name") f.name.1 ∷ SetsItem f.sets ∷ OtherItem (codes "properties") f.properties.1 ∷ [];
    states = map state_in numbers;
  }

  abbrev states_text : List ℕ
  states_text = flat_map f.lines numbers

  abbrev states_tokens : List HoaToken
  states_tokens = flat_map state_tokens (map state_in numbers)

  abbrev pieces : List Piece
  pieces =
      (line (codes "HOA: v1"), Header (codes "HOA") ∷ Identifier (codes "v1") ∷ [])
      ∷ (line (codes "name: " ++ quoted (canonical_text R)), Header (codes "name") ∷ StringToken (canonical_text R) ∷ [])
      ∷ (line (codes "States: " ++ decimal (length A.states)), Header (codes "States") ∷ Int (length A.states) ∷ [])
      ∷ (line (codes "Start: 0"), Header (codes "Start") ∷ Int 0 ∷ [])
      ∷ (names_line R.names, Header (codes "AP") ∷ Int (length R.names) ∷ map StringToken R.names)
      ∷ (f.name.0, Header (codes "acc-name") ∷ f.name.1)
      ∷ (f.acceptance, header_item_tokens (SetsItem f.sets))
      ∷ (f.properties.0, Header (codes "properties") ∷ f.properties.1)
      ∷ (line (codes "--BODY--"), Body ∷ [])
      ∷ (states_text, states_tokens)
      ∷ (line (codes "--END--"), End ∷ [])
      ∷ []

  abbrev pub form_text : List ℕ
  form_text = fold (λ t x. t ++ x.0) [] pieces

  -- an edge's literals are a set without contradiction, of propositions that have names; it leads to a state and is in sets that there are
  pub record IsFineEdge (e : Edge) : Type 0 where
    pub rising : IsRising literal_cmp e.cube
    pub consistent : is_contradictory e.cube ≡ false
    pub named : All (λ j. j.proposition < length R.names) e.cube
    pub target : e.target < length A.states
    pub sets : are_sets read_of (f.at_edge e) ≡ true

  -- what is to be known of the lines, the automaton and the names
  pub record IsFine (form : AcceptanceForm) : Type 0 where
    pub name : Spells f.name.0 (Header (codes "acc-name") ∷ f.name.1)
    pub acceptance : Spells f.acceptance (header_item_tokens (SetsItem f.sets))
    pub properties : Spells f.properties.0 (Header (codes "properties") ∷ f.properties.1)
    pub lines : (k : ℕ) → k < length A.states → Spells (f.lines k) (state_tokens (state_in k))
    pub plain : (list_all is_plain f.name.1 ≡ true) × (list_all is_plain f.properties.1 ≡ true)
    pub few_sets : f.sets ≤ form
    pub at_states : (s : State) → are_sets read_of (f.at_state s) ≡ true
    pub edges : (s : State) → Has A.states s → (e : Edge) → Has s.edges e → IsFineEdge e
    pub some : 0 < length A.states
    pub few_states : length A.states ≤ l.hoa_states
    pub few_edges : sum_by (λ s. length s.edges) A.states ≤ l.hoa_edges
    pub few_names : length R.names ≤ l.propositions
    pub propositions : IsTrue (list_all is_proposition R.names)
    pub differ : HasNoRepeats R.names
    pub small : (l.hoa_states < 2 ^ 64) × (l.propositions < 2 ^ 64) × (0 < l.label_cubes)

  module _ (form : AcceptanceForm) (p : IsFine form) where
    numbered : (k : ℕ) → Has numbers k → k < length A.states
    numbered k h = let l = (range_below 0 (length A.states) k h).1 in omega arith

    state_has : (k : ℕ) → Has numbers k → Has A.states (state_at A k)
    state_has k h = Has-at A.states k (record { accepting = true; edges = [] }) (numbered k h)

    -- ---- the tokens

    pieces_spelled : AreSpelled pieces
    pieces_spelled =
        let states = spells_all f.lines state_in state_tokens numbers (λ k h. p.lines k (numbered k h)) in (
          format_line,
          (
            name_line (canonical_text R) (formula_clean R p.propositions),
            (
              states_line (length A.states) (small_length (length A.states) l.hoa_states p.few_states p.small.0),
              (
                start_line,
                (
                  names_spelled R.names (small_length (length R.names) l.propositions p.few_names p.small.1) (name_clean R.names p.propositions),
                  (p.name, (p.acceptance, (p.properties, (body_line, (states, (end_line, tt)))))),
                ),
              ),
            ),
          ),
        )
      where
        small_length : (n m : ℕ) → n ≤ m → m < 2 ^ 64 → n < 2 ^ 64
        small_length n m a b = omega (arith, a, b)

    text_spelled : hoa_tokens form_text ≡ document_tokens document
    text_spelled =
        ap hoa_tokens (in_a_row [] pieces) ∙ spelled_in_row pieces pieces_spelled
        ∙ ap (λ ts. Header (codes "HOA") ∷ Identifier (codes "v1") ∷ Header (codes "name") ∷ StringToken (canonical_text R) ∷ Header (codes "States") ∷ Int (length A.states) ∷ Header (codes "Start") ∷ Int 0 ∷ ts)
        (in_parts (Header (codes "AP") ∷ Int (length R.names) ∷ map StringToken R.names) (Header (codes "acc-name") ∷ f.name.1) (header_item_tokens (SetsItem f.sets)) (Header (codes "properties") ∷ f.properties.1))
      where
        -- the items one after the other, as they are grouped on either side
        in_parts : (a b c d : List HoaToken) → a ++ (b ++ (c ++ (d ++ (Body ∷ (states_tokens ++ (End ∷ [])))))) ≡ (a ++ (b ++ (c ++ (d ++ [])))) ++ Body ∷ states_tokens ++ End ∷ []
        in_parts a b c d = simp append_assoc

    -- ---- what the text describes

    -- an edge for the one cube of its label
    one_edge : (s : State) → Has A.states s → (e : Edge) → Has s.edges e → cube_edges (f.at_state s) (edge_in e) ≡ read_edge s e ∷ []
    one_edge s h e m =
        let g = p.edges s h e m in
        ap (λ cs. map (λ c. record { cube = c; target = e.target; marks = (read_edge s e).marks }) cs) (printed_cubes e.cube g.rising g.consistent)

    all_edges : (s : State) → Has A.states s → (es : List Edge) → ((e : Edge) → Has es e → Has s.edges e) → flat_map (cube_edges (f.at_state s)) (map edge_in es) ≡ map (read_edge s) es
    all_edges s h [] g = refl
    all_edges s h (e ∷ es) g =
        let first = one_edge s h e (g e (inl refl)) in
        let rest = all_edges s h es (λ d m. g d (inr m)) in
        λ i. first i ++ rest i

    written_edges : (k : ℕ) → Has numbers k → state_edges (state_in k) ≡ map (read_edge (state_at A k)) (state_at A k).edges
    written_edges k h = all_edges (state_at A k) (state_has k h) (state_at A k).edges (λ e m. m)

    no_other : (a n k : ℕ) → k < a → filter (λ s. s.number == k) (map state_in (range_with_len a n)) ≡ []
    no_other a zero k b = refl
    no_other a (suc n) k b =
        ap (λ c. if c then state_in a ∷ filter (λ s. s.number == k) (map state_in (range_with_len (a + 1) n)) else filter (λ s. s.number == k) (map state_in (range_with_len (a + 1) n))) (differs a k b)
        ∙ no_other (a + 1) n k (omega (arith, b))
      where
        differs : (a k : ℕ) → k < a → (a == k) ≡ false
        differs a k b = grind (arith, nat_tests, b)

    -- the state with a number is written once
    found_state : (a n k : ℕ) → a ≤ k → k < a + n → filter (λ s. s.number == k) (map state_in (range_with_len a n)) ≡ state_in k ∷ []
    found_state a zero k b u = absurd (omega (arith, b, u))
    found_state a (suc n) k b u =
        elim (a == k) as (λ c. (a == k) ≡ c → (if c then state_in a ∷ filter (λ s. s.number == k) rest else filter (λ s. s.number == k) rest) ≡ state_in k ∷ []) [
          | true ↦ λ e. (λ i. state_in (eqb-true a k e i) ∷ no_other (a + 1) n k (let h0 = eqb-true a k e in omega (arith, h0)) i)
          | false ↦ λ e. found_state (a + 1) n k (grind (arith, nat_tests, b, e)) (omega (arith, u))
        ] refl
      where
        rest : List WrittenState
        rest = map state_in (range_with_len (a + 1) n)

    all_states : map (state_at A) numbers ≡ A.states
    all_states = by_place 0 A.states (record { accepting = true; edges = [] }) (state_at A) (λ k b. let same : 0 + k ≡ k = omega arith in ap (state_at A) same)

    -- the edges of the automaton that is read
    read_edges : read_of.edges ≡ map (edges_at document) numbers
    read_edges =
        ap (map (λ s. map (read_edge s) s.edges)) (sym all_states) ∙ map_same (state_at A) (λ s. map (read_edge s) s.edges) numbers
        ∙ map_equal _ (edges_at document) numbers (λ k h.
        sym (ap (flat_map state_edges) (found_state 0 (length A.states) k (range_below 0 (length A.states) k h).0 (range_below 0 (length A.states) k h).1) ∙ append-nil (state_edges (state_in k)) ∙ written_edges k h))

    -- ---- that nothing passes a count or a limit

    edges_inside : (s : State) → Has A.states s → list_all (is_edge_inside read_of) (map edge_in s.edges) ≡ true
    edges_inside s h = (all_Decides (is_edge_inside read_of) (map edge_in s.edges)).1 (λ w m. go w (map_cases edge_in s.edges w m))
      where
        go : (w : WrittenEdge) → (e : Edge) × Has s.edges e × (w ≡ edge_in e) → is_edge_inside read_of w ≡ true
        go w (e, m, q) =
            let g = p.edges s h e m in
            let label = printed_fine (length R.names) e.cube (λ j k. All-at_has (λ i. i.proposition < length R.names) e.cube g.named j k) in
            ap (is_edge_inside read_of) q ∙ (λ i. label.0 i && label.1 i && small_test e.target (length A.states) g.target i && g.sets i)

    states_inside : list_all (is_state_inside read_of) document.states ≡ true
    states_inside = (all_Decides (is_state_inside read_of) document.states).1 (λ w m. go w (map_cases state_in numbers w m))
      where
        go : (w : WrittenState) → (k : ℕ) × Has numbers k × (w ≡ state_in k) → is_state_inside read_of w ≡ true
        go w (k, h, q) =
            ap (is_state_inside read_of) q
            ∙ (λ i. small_test k (length A.states) (numbered k h) i && p.at_states (state_at A k) i && edges_inside (state_at A k) (state_has k h) i)

    abbrev is_narrow : WrittenEdge → Bool
    is_narrow e = not (is_wide l.label_cubes e.label)

    labels_narrow : list_all (λ s. list_all is_narrow s.edges) document.states ≡ true
    labels_narrow = (all_Decides (λ s. list_all is_narrow s.edges) document.states).1 (λ w m. go w (map_cases state_in numbers w m))
      where
        one : (s : State) → Has A.states s → (w : WrittenEdge) → (e : Edge) × Has s.edges e × (w ≡ edge_in e) → is_narrow w ≡ true
        one s h w (e, m, q) = let g = p.edges s h e m in ap is_narrow q ∙ ap not (printed_narrow l.label_cubes p.small.2 e.cube g.rising g.consistent)

        go : (w : WrittenState) → (k : ℕ) × Has numbers k × (w ≡ state_in k) → list_all is_narrow w.edges ≡ true
        go w (k, h, q) =
            ap (λ v. list_all is_narrow v.edges) q
            ∙ (all_Decides is_narrow (map edge_in (state_at A k).edges)).1 (λ v m. one (state_at A k) (state_has k h) v (map_cases edge_in (state_at A k).edges v m))

    edge_count : sum_by (λ s. length (state_edges s)) document.states ≡ sum_by (λ s. length s.edges) A.states
    edge_count =
        sum_same state_in (λ s. length (state_edges s)) (λ k. length (state_at A k).edges) 0 numbers (λ k h. ap length (written_edges k h) ∙ map_length (read_edge (state_at A k)) (state_at A k).edges)
        ∙ sym (sum_same (state_at A) (λ s. length s.edges) (λ k. length (state_at A k).edges) 0 numbers (λ k h. refl))
        ∙ ap (sum_by (λ s. length s.edges)) all_states

    -- the printed text reads as the automaton
    pub form_reads : length form_text ≤ l.hoa_bytes → HoaReadsWithin l form form_text read_of
    form_reads few = record {
      document = document;
      spelled = text_spelled;
      describes = record {
        items = λ i. p.plain.0 i && (p.plain.1 i && true);
        states = refl;
        start = refl;
        sets = refl;
        names = refl;
        few_sets = p.few_sets;
        begins = p.some;
        propositions = p.propositions;
        differ = p.differ;
        once = subst HasNoRepeats (sym (map_same state_in (λ s. s.number) numbers ∙ map-id numbers)) (range_differs 0 (length A.states));
        inside = states_inside;
        edges = read_edges;
      };
      within = record {
        bytes = few;
        states = p.few_states;
        names = p.few_names;
        labels = labels_narrow;
        edges = subst (λ n. n ≤ l.hoa_edges) (sym edge_count) p.few_edges;
      };
    }

-- ---- sets on the edges

-- numbers within these limits can be printed, and a label may have a cube
pub record AreUsual (l : Limits) (most : ℕ) : Type 0 where
  pub states : l.hoa_states < 2 ^ 64
  pub names : l.propositions < 2 ^ 64
  pub sets : most < 2 ^ 64
  pub cubes : 0 < l.label_cubes

-- the limits that the programs keep, with up to 32 sets
pub stated_usual : AreUsual stated_limits 32
stated_usual = record { states = omega arith; names = omega arith; sets = omega arith; cubes = omega arith }

module _ (l : Limits) (most : ℕ) (usual : AreUsual l most) (A : Automaton) (R : Reading) (p : IsPrinted l most A R) where
  abbrev marked_form : Form
  marked_form = record {
    sets = A.sets;
    name = (line (codes "acc-name: " ++ acceptance_name A.sets), name_of_acceptance A.sets);
    acceptance = line (codes "Acceptance: " ++ acceptance_text A.sets);
    properties = (line (codes "properties: trans-labels explicit-labels trans-acc"), Identifier (codes "trans-labels") ∷ Identifier (codes "explicit-labels") ∷ Identifier (codes "trans-acc") ∷ []);
    at_state = λ s. None;
    at_edge = λ e. written_marks e.marks;
    lines = marked_state_lines A;
  }

  edge_fine : (s : State) → Has A.states s → (e : Edge) → Has s.edges e → IsPrintedEdge (length R.names) (length A.states) A.sets e
  edge_fine s h e m =
      All-at_has (IsPrintedEdge (length R.names) (length A.states) A.sets) s.edges (All-at_has (λ r. All (IsPrintedEdge (length R.names) (length A.states) A.sets) r.edges) A.states p.within s h) e m

  small_of : (k n m : ℕ) → k < n → n ≤ m → m < 2 ^ 64 → k < 2 ^ 64
  small_of k n m a b c = omega (arith, a, b, c)

  edge_small : (s : State) → Has A.states s → (e : Edge) → Has s.edges e → IsSmallEdge e
  edge_small s h e m =
      let f = edge_fine s h e m in
      record {
        cube = λ j q. small_of j.proposition (length R.names) l.propositions (All-at_has (λ i. i.proposition < length R.names) e.cube f.named j q) p.few_names usual.names;
        target = small_of e.target (length A.states) l.hoa_states f.target p.few_states usual.states;
        marks = λ k q. small_of k A.sets most (All-at_has (λ i. i < A.sets) e.marks f.inside k q) p.few_sets usual.sets;
      }

  -- sets are read as they are written
  marks_back : (ks : List ℕ) → unwrap_or (written_marks ks) [] ≡ ks
  marks_back [] = refl
  marks_back (k ∷ ks) = refl

  few_sets : A.sets < 2 ^ 64
  few_sets = let a = p.few_sets in let b = usual.sets in omega arith

  form_fine : IsFine l A R marked_form most
  form_fine = record {
    name = acceptance_name_line A.sets few_sets;
    acceptance = acceptance_line A.sets few_sets;
    properties = properties_line;
    lines = λ k b. state_spelled A k (small_of k (length A.states) l.hoa_states b p.few_states usual.states) (edge_small (state_at A k) (Has-at A.states k (record { accepting = true; edges = [] }) b));
    plain = (name_plain A.sets, refl);
    few_sets = p.few_sets;
    at_states = λ s. refl;
    edges = λ s h e m.
        let f = edge_fine s h e m in
        record {
          rising = f.rising;
          consistent = f.consistent;
          named = f.named;
          target = f.target;
          sets = ap (list_all (λ k. nat_lt k A.sets)) (marks_back e.marks) ∙ (all_Decides (λ k. nat_lt k A.sets) e.marks).1 (λ k q. small_test k A.sets (All-at_has (λ j. j < A.sets) e.marks f.inside k q));
        };
    some = p.some;
    few_states = p.few_states;
    few_edges = p.few_edges;
    few_names = p.few_names;
    propositions = p.propositions;
    differ = p.differ;
    small = (usual.states, usual.names, usual.cubes);
  }
    where
      name_plain : (n : ℕ) → list_all is_plain (name_of_acceptance n) ≡ true
      name_plain zero = refl
      name_plain (suc n) = refl

  -- its edges are read as they are
  same_edges : map (λ s. map (read_edge l A R marked_form s) s.edges) A.states ≡ map (λ s. s.edges) A.states
  same_edges = map_equal _ _ A.states (λ s h. map_equal _ (λ e. e) s.edges (λ e m. one e (edge_fine s h e m).marks) ∙ map-id s.edges)
    where
      one : (e : Edge) → IsRising nat_cmp e.marks → record { cube = e.cube; target = e.target; marks = set_of nat_cmp (unwrap_or (written_marks e.marks) []) } ≡ e
      one e r = ap (λ ks. record { cube = e.cube; target = e.target; marks = ks }) (ap (set_of nat_cmp) (marks_back e.marks) ∙ set_of_same nat_linear e.marks r)

  -- the printed text reads as the automaton
  pub generalized_reads : length (generalized_text A R) ≤ l.hoa_bytes → HoaReadsWithin l most (generalized_text A R) (marked_of A R.names)
  generalized_reads few =
      subst (λ es. HoaReadsWithin l most (generalized_text A R) (record { states = length A.states; start = 0; sets = A.sets; names = R.names; edges = es })) same_edges
      (form_reads l A R marked_form most form_fine few)

  -- so it reads as no other automaton
  pub generalized_read_back : length (generalized_text A R) ≤ l.hoa_bytes → (M : MarkedAutomaton) → HoaReadsWithin l most (generalized_text A R) M → M ≡ marked_of A R.names
  generalized_read_back few M r = one_automaton l most (generalized_text A R) M (marked_of A R.names) r (generalized_reads few)
