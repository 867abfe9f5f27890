-- What the parser holds at the end of a text that reads as an automaton.
use Rattle.std.proofs.Common.{◌≡◌, ℕ, suc, ◌+◌, ◌<◌, ◌≤◌, List, [], ◌∷◌, length, refl, sym, ◌∙◌, ap, subst, arith, Option, Some, None}
use Rattle.std.specs.Prelude.{map, slice_index_or, unwrap_or, Ok}
use Rattle.std.specs.List.{range_with_len}
use Rattle.ltl_spec.specs.Automata.Automaton.{Edge}
use Rattle.ltl_spec.specs.Tools.Limits.{stated_limits}
use Rattle.ltl_spec.specs.Hoa.HoaToken.{hoa_items}
use Rattle.ltl_spec.specs.Hoa.HoaReading.{stated_form, MarkedAutomaton, HoaReadsWithin}
use Rattle.ltl_spec.specs.Hoa.HoaPlace as spec
use Rattle.ltl_spec.specs.Hoa.HoaPlace.{Before}
use Rattle.ltl_spec.proofs.Hoa.HoaHeaderLaws.{whole_header}
use Rattle.ltl_hoa.specs.declared.place.Place.TheVariants as place
use Rattle.ltl_hoa.specs.HeaderView as header
use Rattle.ltl_hoa.specs.HeaderView.{HeaderView, automaton_from, IsSomeMarked}
use Rattle.ltl_hoa.specs.BodyView.{BodyView}
use Rattle.ltl_hoa.specs.ParserView.{ParserView, Shows, ShowsPlace, ShowsHeader, capped_header, IsWhole, IsWholeWith, IsAutomaton, IsAutomatonWith}
use Rattle.ltl_spec.specs.Hoa.HoaMachine.{Came, edges_of, automaton_of}
use Rattle.ltl_hoa.specs.Shown.{ShowsBody}
use Rattle.ltl_hoa.specs.declared.fault.HoaFaultKind as made
use Rattle.ltl_spec.specs.Hoa.HoaFault.{hoa_fault}
use Rattle.ltl_spec.specs.Hoa.HoaToken.{last_line}
use Rattle.ltl_spec.proofs.Hoa.HoaBackLaws.{answers_exactly}
use Rattle.ltl_spec.proofs.Hoa.HoaLaws.{answers_reached, header_reached}
use Rattle.ltl_hoa.specs.TokenView.{kind_of}
use Rattle.ltl_hoa.specs.StreamReaderView.{StreamReaderView}
use Rattle.ltl_hoa.specs.Reading.{reached, IsTold, IsToldIn, IsEnded}
use Rattle.ltl_hoa.proofs.EndLaws.{end_kind, at_line, told_fault}
use Rattle.ltl_hoa.proofs.StepLaws.{capped_small}
use Rattle.ltl_hoa.proofs.MarkedLaws.{read_marked}

-- a list by its elements
listed : {X : Type 0} (a : ℕ) (xs : List X) (d : X) (f : ℕ → X) → ((k : ℕ) → k < length xs → slice_index_or xs k d ≡ f (a + k)) → xs ≡ map f (range_with_len a (length xs))
listed a [] d f e = refl
listed a (x ∷ xs) d f e =
    let first = e 0 (some (length xs)) ∙ ap f (none a) in
    let rest = listed (a + 1) xs d f (λ k l. e (suc k) (more k (length xs) l) ∙ ap f (next a k)) in
    λ i. first i ∷ rest i
  where
    some : (n : ℕ) → 0 < suc n
    some n = omega arith

    none : (n : ℕ) → n + 0 ≡ n
    none n = omega arith

    more : (k n : ℕ) → k < n → suc k < suc n
    more k n l = omega (arith, l)

    next : (n k : ℕ) → n + suc k ≡ n + 1 + k
    next n k = omega arith

at_end : (pl : spec.Place) (v : ParserView) (b : Before) (g : Came) → ShowsPlace place.End v pl b g → (body : BodyView) × (v.body ≡ Some body) × ShowsBody body spec.AtState b g
at_end spec.AtEnd v b g s = s
at_end pl v b g s = absurd s

-- the header and the body of the automaton
automaton_made : (A : MarkedAutomaton) (start sets : Option ℕ) (names : Option (List (List ℕ))) (edges : List (List Edge)) → start ≡ Some A.start → sets ≡ Some A.sets → names ≡ Some A.names → length edges ≡ A.states → edges ≡ A.edges
    → automaton_from start sets names edges ≡ Some A
automaton_made A start sets names edges s k n c e =
    (λ i. automaton_from (s i) (k i) (n i) edges) ∙ (λ i. Some (record { states = c i; start = A.start; sets = A.sets; names = A.names; edges = e i }))

header_made : (A : MarkedAutomaton) (v : HeaderView) (h : spec.HoaHeader) (b : BodyView) (before : Before) (g : Came) → ShowsHeader v h → h ≡ whole_header A → A.start < A.states → A.states ≤ stated_limits.hoa_states
    → length b.edges ≡ A.states → b.edges ≡ A.edges → header.IsAutomaton v b.edges A
header_made A v h b before g s e l m c q =
    let items = s.items ∙ ap capped_header e in
    automaton_made A v.items.start v.items.sets v.items.names b.edges
    (ap (λ x. x.start) items ∙ ap Some (capped_small A.start (omega (arith, l, m))))
    (ap (λ x. x.sets) items) (ap (λ x. x.names) items) c q

-- the parser's automaton is the one that the definition's machine has reached
pub whole_automaton : (v : ParserView) (text : List ℕ) (b : Before) (g : Came) → HoaReadsWithin stated_limits stated_form text (automaton_of b.header g) → v.place ≡ place.End → Shows v b g
    → reached text (hoa_items text) ≡ (Ok b, g) → IsAutomaton v (automaton_of b.header g)
whole_automaton v text b g r p s e =
    let end = at_end b.place v b g (subst (λ q. ShowsPlace q v b.place b g) p s.place) in
    body_made end.0 end.1 end.2
  where
    body_made : (body : BodyView) → v.body ≡ Some body → ShowsBody body spec.AtState b g → IsAutomaton v (automaton_of b.header g)
    body_made body q shown =
        let A = automaton_of b.header g in
        let count : length body.edges ≡ A.states = shown.2 ∙ sym (ap (λ o. unwrap_or o 0) shown.0.states) in
        let all : body.edges ≡ map (λ k. edges_of k g.edges) (range_with_len 0 (length body.edges)) =
        listed 0 body.edges [] (λ k. edges_of k g.edges) (λ k l. shown.6 k (below k _ _ l shown.2) ∙ ap (λ j. edges_of j g.edges) (from_zero k)) in
        let edges : body.edges ≡ A.edges = all ∙ ap (λ n. map (λ k. edges_of k g.edges) (range_with_len 0 n)) count in
        subst (λ o. IsAutomatonWith v.header o (automaton_of b.header g)) (sym q)
        (header_made A v.header b.header body b g s.header (header_reached stated_limits stated_form text A b g r e) r.describes.begins r.within.states count edges)
      where
        below : (k m n : ℕ) → k < m → m ≡ n → k < n
        below k m n l e = omega (arith, l, e)

        from_zero : (k : ℕ) → k ≡ 0 + k
        from_zero k = omega arith

-- so there is one
pub whole_holds : (v : ParserView) (text : List ℕ) (A : MarkedAutomaton) → HoaReadsWithin stated_limits stated_form text A → IsAutomaton v A → IsWhole v
whole_holds v text A r a = go v.body a
  where
    go : (o : Option BodyView) → IsAutomatonWith v.header o A → IsWholeWith v.header o
    go None h = h
    go (Some b) h = subst IsSomeMarked (sym h) (read_marked text A r)

-- and no other one
pub whole_same : (v : ParserView) (A B : MarkedAutomaton) → IsAutomaton v A → IsAutomaton v B → A ≡ B
whole_same v A B a b = go v.body a b
  where
    option_same : (x y : MarkedAutomaton) → Some x ≡ Some y → x ≡ y
    option_same x y e = ap (λ o. unwrap_or o x) e

    go : (o : Option BodyView) → IsAutomatonWith v.header o A → IsAutomatonWith v.header o B → A ≡ B
    go None h k = absurd h
    go (Some c) h k = option_same A B (sym h ∙ k)

-- ---- what the text is

told : (w : StreamReaderView) (text : List ℕ) → IsEnded w text → w.fault ≡ None → IsTold w text
told w text e n = subst (λ o. IsToldIn o w text) n e.inside

-- without a fault, where the automaton has ended
pub end_reads : (w : StreamReaderView) (text : List ℕ) → IsEnded w text → w.fault ≡ None → w.parser.place ≡ place.End → (A : MarkedAutomaton) × HoaReadsWithin stated_limits stated_form text A × IsAutomaton w.parser A
end_reads w text e n p =
    let s = told w text e n in
    let A = automaton_of s.before.header s.came in
    let answer = answers_reached stated_limits stated_form text s.before s.came (told_fault w text e.few s ∙ ap (λ q. at_line (end_kind q) (last_line text)) p) s.reached in
    let r = (answers_exactly stated_limits stated_form text A).0 answer in
    (A, r, whole_automaton w.parser text s.before s.came r p s.shows s.reached)

pub end_whole : (w : StreamReaderView) (text : List ℕ) → IsEnded w text → w.fault ≡ None → w.parser.place ≡ place.End → IsWhole w.parser
end_whole w text e n p = let r = end_reads w text e n p in whole_holds w.parser text r.0 r.1 r.2

pub end_answers : (w : StreamReaderView) (text : List ℕ) (A : MarkedAutomaton) → IsEnded w text → w.fault ≡ None → w.parser.place ≡ place.End → IsAutomaton w.parser A → HoaReadsWithin stated_limits stated_form text A
end_answers w text A e n p a = let r = end_reads w text e n p in subst (HoaReadsWithin stated_limits stated_form text) (whole_same w.parser r.0 A r.2 a) r.1

-- where it has not
pub end_refused : (w : StreamReaderView) (text : List ℕ) (kind : made.HoaFaultKind) → IsEnded w text → w.fault ≡ None → end_kind w.parser.place ≡ Some (kind_of kind)
    → hoa_fault stated_limits stated_form text ≡ Some (record { kind = kind_of kind; line = w.line })
end_refused w text kind e n p =
    told_fault w text e.few (told w text e n) ∙ ap (λ k. at_line k (last_line text)) p ∙ ap (λ m. Some (record { kind = kind_of kind; line = m })) (sym e.line)
