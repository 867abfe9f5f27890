-- What a text reads as within the limits is what the machine answers. So it has no fault, and reads as nothing else.
use Rattle.std.proofs.Common.{◌≡◌, ℕ, inl, List, [], ◌∷◌, ◌++◌, refl, sym, ◌∙◌, ap, arith, None}
use Rattle.std.specs.Prelude.{if◌then◌else◌, fold, map, flat_map, Result, Ok, Err}
use Rattle.std.specs.List.{range_with_len}
use Rattle.std.proofs.lemmas.Bool.{lt-ltb}
use Rattle.ltl_spec.specs.Tools.Limits.{Limits}
use Rattle.ltl_spec.specs.Hoa.HoaToken.{HoaToken, Body, End, HoaItem, hoa_items, last_line}
use Rattle.ltl_spec.specs.Hoa.HoaReading.{AcceptanceForm, header_item_tokens, state_tokens, document_tokens, HoaDocument, edges_at, MarkedAutomaton, IsDocumentOf, IsWithin, HoaReadsWithin}
use Rattle.ltl_spec.specs.Hoa.HoaFaultKind.{HoaFaultKind, NumberOutOfRange}
use Rattle.ltl_spec.specs.Hoa.HoaPlace.{PlainItem, AtItem, AtEnd, AtState, Before, before_all, no_header}
use Rattle.ltl_spec.specs.Hoa.HoaStep.{Step, step}
use Rattle.ltl_spec.specs.Hoa.HoaFault.{HoaFault, take_item, with_line, fault_after, end_fault, hoa_fault}
use Rattle.ltl_spec.specs.Hoa.HoaMachine.{Came, came_none, came_at, edges_of, Reached, reach, reached, automaton_of, header_in, unless_fault, hoa_answer}
use Rattle.ltl_spec.proofs.Hoa.HoaLabelLaws.{Told, tell, in_turn}
use Rattle.ltl_spec.proofs.Hoa.HoaHeaderLaws.{at, headed, whole_header, IsHeader, Fits, items_run, new_names}
use Rattle.ltl_spec.proofs.Hoa.HoaBodyLaws.{body, states_lead, ends}
use Rattle.ltl_spec.proofs.Hoa.HoaFaultLaws.{within_limit}

module _ (l : Limits) (form : AcceptanceForm) where
  -- a document that describes an automaton within the limits is taken to its end, and its edges come
  record DocumentTold (A : MarkedAutomaton) (d : HoaDocument) : Type 0 where
    pub numbers : List ℕ
    pub count : ℕ
    pub came : Came
    pub told : tell l form (headed l form (Ok before_all)) (document_tokens d) ≡ (at l form AtEnd (whole_header A) numbers count, came)
    pub are : (k : ℕ) → edges_of k came.edges ≡ edges_at d k

  document_told : (text : List ℕ) (A : MarkedAutomaton) (d : HoaDocument) → IsDocumentOf form A d → IsWithin l text A d → DocumentTold A d
  document_told text A d f w =
      let header : IsHeader l form A = record { states = w.states; count = w.names; sets = f.few_sets; new = new_names [] A.names f.propositions f.differ (λ n h k. k) } in
      let fits : Fits A no_header d.items = record { states = inl (refl, f.states); start = inl (refl, f.start); sets = inl (refl, f.sets); names = inl (refl, f.names) } in
      let items = items_run l form A d.items PlainItem no_header header f.items fits in
      let states = states_lead l form A d.states AtState [] 0 came_none refl f.inside w.labels f.once (λ n h k. k) (omega (arith, w.edges)) in
      let hs = flat_map header_item_tokens d.items in
      let ss = flat_map state_tokens d.states in
      let start : Told = headed l form (at l form (AtItem PlainItem) no_header [] 0) in
      record {
        numbers = states.all;
        count = states.count;
        came = states.came;
        told =
            in_turn l form start (hs ++ Body ∷ ss) (End ∷ []) _ _
            (in_turn l form start hs (Body ∷ ss) _ _ items.1 (ap (λ t. tell l form (headed l form (if t then body l form A AtState [] 0 else Err NumberOutOfRange)) ss) (lt-ltb A.start A.states f.begins) ∙ states.told))
            (ends l form A states.place_behind states.all states.count states.came states.begins);
        are = states.are;
      }

  -- where the tokens are taken to the end, so are the items
  items_reached : (text : List ℕ) (items : List HoaItem) (b c : Before) (g h : Came) → tell l form (Ok b, g) (map (λ i. i.token) items) ≡ (Ok c, h) → fold (reach l form text) (Ok b, g) items ≡ (Ok c, h)
  items_reached text [] b c g h e = ap (λ p. (level_edge p.0, p.1)) e
    where
      level_edge : Step → Result Before HoaFault
      level_edge (Ok d) = Ok d
      level_edge (Err kind) = Err (record { kind = kind; line = 0 })
  items_reached text (i ∷ items) b c g h e =
      elim (step l form b.place b i.token) as (λ o. tell l form (o, came_at b.place b i.token g) (map (λ j. j.token) items) ≡ (Ok c, h)
      → fold (reach l form text) (with_line l form text b.place i o, came_at b.place b i.token g) items ≡ (Ok c, h)) [
        | Ok d ↦ λ q. items_reached text items d c (came_at b.place b i.token g) h q
        | Err kind ↦ λ q. absurd (no_more kind (map (λ j. j.token) items) _ q)
      ] e
    where
      no_more : (kind : HoaFaultKind) (ts : List HoaToken) (k : Came) → tell l form (Err kind, k) ts ≡ (Ok c, h) → ⊥
      no_more kind [] k q = not_ok (ap (λ (p : Told). p.0) q)
        where
          not_ok : ◌≡◌ {A = Step} (Err kind) (Ok c) → ⊥
          not_ok r = cc
      no_more kind (t ∷ ts) k q = no_more kind ts k q

  -- the machine's state is that of the definition of faults
  pub first_reached : (text : List ℕ) (items : List HoaItem) (r : Reached) → (fold (reach l form text) r items).0 ≡ fold (take_item l form text) r.0 items
  first_reached text [] r = refl
  first_reached text (i ∷ items) r = first_reached text items (reach l form text r i)

  -- where all items of a text that reads as an automaton lead to
  record IsReadAs (A : MarkedAutomaton) (d : HoaDocument) (r : Reached) : Type 0 where
    pub before : Before
    pub came : Came
    pub reached : r ≡ (Ok before, came)
    pub ends : before.place ≡ AtEnd
    pub header : before.header ≡ whole_header A
    pub edges : (k : ℕ) → edges_of k came.edges ≡ edges_at d k

  read_as : (text : List ℕ) (A : MarkedAutomaton) (r : HoaReadsWithin l form text A) → IsReadAs A r.document (reached l form text (hoa_items text))
  read_as text A r =
      let w = document_told text A r.document r.describes r.within in
      let b : Before = record { place = AtEnd; header = whole_header A; numbers = w.numbers; edges = w.count } in
      record {
        before = b;
        came = w.came;
        reached = items_reached text (hoa_items text) before_all b came_none w.came (ap (tell l form (headed l form (Ok before_all))) r.spelled ∙ w.told);
        ends = refl;
        header = refl;
        edges = w.are;
      }

  -- its header is that of the automaton
  pub header_reached : (text : List ℕ) (A : MarkedAutomaton) (b : Before) (g : Came) → HoaReadsWithin l form text A → reached l form text (hoa_items text) ≡ (Ok b, g) → b.header ≡ whole_header A
  header_reached text A b g r e = let w = read_as text A r in ap (λ (x : Reached). header_in x.0) (sym e ∙ w.reached) ∙ w.header

  -- a text that reads as an automaton within the limits has no fault
  pub reads_without_fault : (text : List ℕ) (A : MarkedAutomaton) → HoaReadsWithin l form text A → hoa_fault l form text ≡ None
  reads_without_fault text A r =
      let w = read_as text A r in
      within_limit l form text r.within.bytes
      ∙ ap (fault_after l form text) (sym (first_reached text (hoa_items text) (Ok before_all, came_none)) ∙ ap (λ (x : Reached). x.0) w.reached)
      ∙ ap (λ p. end_fault p (last_line text)) w.ends

  -- what the machine answers where there is no fault
  pub answers_reached : (text : List ℕ) (b : Before) (g : Came) → hoa_fault l form text ≡ None → reached l form text (hoa_items text) ≡ (Ok b, g) → hoa_answer l form text ≡ Ok (automaton_of b.header g)
  answers_reached text b g n e = λ i. unless_fault (n i) (automaton_of (header_in (e i).0) (e i).1)

  -- the machine answers what the text reads as
  pub answers_reading : (text : List ℕ) (A : MarkedAutomaton) → HoaReadsWithin l form text A → hoa_answer l form text ≡ Ok A
  answers_reading text A r =
      let w = read_as text A r in
      answers_reached text w.before w.came (reads_without_fault text A r) w.reached
      ∙ ap (λ h. Ok (automaton_of h w.came)) w.header
      ∙ ap (λ es. Ok (record { states = A.states; start = A.start; sets = A.sets; names = A.names; edges = es }))
      ((λ i. map (λ k. w.edges k i) (range_with_len 0 A.states)) ∙ sym r.describes.edges)

  -- so a text reads as one automaton at most
  pub one_automaton : (text : List ℕ) (A B : MarkedAutomaton) → HoaReadsWithin l form text A → HoaReadsWithin l form text B → A ≡ B
  one_automaton text A B r q = let same = sym (answers_reading text A r) ∙ answers_reading text B q in cc
