-- What is printed of a claim reads as an automaton with its words.
use Rattle.std.proofs.Common.{◌≡◌, ℕ, zero, suc, ◌+◌, ◌^◌, ◌<◌, ◌≤◌, ◌↔◌, Bool, true, false, ◌&&◌, ◌==◌, inl, inr, List, [], ◌∷◌, ◌++◌, length, map, Option, Some, None, codes, refl, sym, ◌∙◌, ap, subst, arith, append_assoc}
use Rattle.std.specs.Prelude.{if◌then◌else◌, nat_lt, nat_le, filter, flat_map, decimal, IsTrue, ⊤}
use Rattle.std.specs.List.{list_all, range_with_len}
use Rattle.std.proofs.lemmas.Bool.{eqb-true}
use Rattle.std.proofs.lemmas.Bool.Decides.{nat_tests}
use Rattle.std.proofs.lemmas.List.{append-nil, map-id, map-append}
use Rattle.std.proofs.lemmas.Grind.{flat_map-append}
use Rattle.ltl_spec.specs.Collections.Sets.{Has}
use Rattle.ltl_spec.specs.Collections.Lists.{HasNoRepeats, place_of}
use Rattle.ltl_spec.specs.Semantics.Word.{Name, Lasso, next, is_true_at}
use Rattle.ltl_spec.specs.Formulas.Tokens.{is_name_byte, same_name}
use Rattle.ltl_spec.specs.Formulas.Names.{is_proposition}
use Rattle.ltl_spec.specs.Automata.Automaton.{Automaton, State, AcceptedFrom}
use Rattle.ltl_spec.specs.Automata.ClaimText.{line}
use Rattle.ltl_spec.specs.Automata.HoaText.{names_line}
use Rattle.ltl_spec.specs.Checking.Check.{graph_of, MarkedAccepts}
use Rattle.ltl_spec.specs.Hoa.HoaToken.{HoaToken, StringToken, Identifier, Header, Int, Body, End, OpenLabel, CloseLabel, OpenSets, CloseSets, OpenBracket, CloseBracket, NotSign, AndSign, OrSign, hoa_tokens, is_digit}
use Rattle.ltl_spec.specs.Hoa.HoaLabel.{Label, ConstantLabel, NumberLabel, NotLabel, BracketLabel, AndLabel, OrLabel, label_tokens, label_rank, is_grouped, has_names_below, label_cubes}
use Rattle.ltl_spec.specs.Hoa.HoaReading.{StatesItem, StartItem, SetsItem, NamesItem, OtherItem, HoaDocument, WrittenEdge, WrittenState, header_item_tokens, sets_tokens, edge_tokens, state_tokens, document_tokens, MarkedAutomaton, cube_edges, state_edges, edges_at, are_sets, is_edge_inside, is_state_inside}
use Rattle.ltl_spec.specs.Claims.ClaimProgram.{Guard, Constant, Named, Not, And, Or, Program}
use Rattle.ltl_spec.specs.Claims.ClaimMeaning.{accepts, end, program_names, leads, ClaimAccepts}
use Rattle.ltl_spec.proofs.Collections.CaseLaws.{left_true, right_true}
use Rattle.ltl_spec.proofs.Collections.FoundLaws.{map_same, map_equal}
use Rattle.ltl_spec.proofs.Collections.ListLaws.{place_below, HasNoRepeats-first_occurrences}
use Rattle.ltl_spec.proofs.Collections.MemberLaws.{all_Decides, map_cases}
use Rattle.ltl_spec.proofs.Formulas.ByteLaws.{proposition_bytes}
use Rattle.ltl_spec.proofs.Formulas.NameLaws.{same_name_Decides}
use Rattle.ltl_spec.proofs.Hoa.GeneralizedBack.{Piece, AreSpelled, in_a_row, range_below, range_differs, spelled_in_row, text_of}
use Rattle.ltl_spec.proofs.Hoa.SpelledLaws.{Spells, spells_both, spells_all, any_line, StopsAt, number_spelled, number_line, is_clean}
use Rattle.ltl_spec.proofs.Hoa.SpelledStates.{format_line, states_line, names_spelled, body_line, end_line}
use Rattle.ltl_spec.proofs.Semantics.LeavingEdges.{leaving, leaving_edge, leaving_state, leaving_accepts}
use Rattle.ltl_claim.specs.ClaimView.{statement_moves}
use Rattle.ltl_claim_hoa.specs.ClaimHoa.{MoveList, tight, guard_label, written_label, move_line, state_line, end_lines, ends_in, state_count, statement_lines, body_text, claim_hoa_text}
use Rattle.ltl_claim_hoa.specs.ClaimReads.{IsHoaOf, KeepsWords}
use Rattle.ltl_claim_hoa.proofs.TextLaws.{range_push}
use Rattle.ltl_claim_hoa.proofs.WordLaws.{IsInside, row, row_below, row_end, row_inside, start_inside, below_count, shown, shown_edges, shown_state, shown_accepts}

-- ---- labels

-- what stands behind a part of a label
data Ends : List ℕ → Type 0 where
  at_and : (xs : List ℕ) → Ends (38 ∷ xs)
  at_or : (xs : List ℕ) → Ends (124 ∷ xs)
  at_close : (xs : List ℕ) → Ends (41 ∷ xs)
  at_label : (xs : List ℕ) → Ends (93 ∷ xs)

no_digit : (rest : List ℕ) → Ends rest → StopsAt is_digit rest
no_digit _ (at_and xs) = refl
no_digit _ (at_or xs) = refl
no_digit _ (at_close xs) = refl
no_digit _ (at_label xs) = refl

constant_spelled : (b : Bool) (rest : List ℕ) → Ends rest → hoa_tokens (written_label (ConstantLabel b) ++ rest) ≡ label_tokens (ConstantLabel b) ++ hoa_tokens rest
constant_spelled true _ (at_and xs) = refl
constant_spelled true _ (at_or xs) = refl
constant_spelled true _ (at_close xs) = refl
constant_spelled true _ (at_label xs) = refl
constant_spelled false _ (at_and xs) = refl
constant_spelled false _ (at_or xs) = refl
constant_spelled false _ (at_close xs) = refl
constant_spelled false _ (at_label xs) = refl

below_of : (x y : ℕ) → nat_lt x y ≡ true → x < y
below_of x y e = grind (arith, nat_tests, e)

small_test : (m n : ℕ) → m < n → nat_lt m n ≡ true
small_test m n b = grind (arith, nat_tests, b)

lower : (i n : ℕ) → i < n → n < 2 ^ 64 → i < 2 ^ 64
lower i n a b = omega (arith, a, b)

three_rows : (a b : List ℕ) (x : ℕ) (rest : List ℕ) → (a ++ (x ∷ []) ++ b) ++ rest ≡ a ++ x ∷ (b ++ rest)
three_rows a b x rest = simp append_assoc

module _ (n : ℕ) (few : n < 2 ^ 64) where
  label_spelled : (a : Label) (rest : List ℕ) → has_names_below n a ≡ true → Ends rest → hoa_tokens (written_label a ++ rest) ≡ label_tokens a ++ hoa_tokens rest
  label_spelled (ConstantLabel b) rest h e = constant_spelled b rest e
  label_spelled (NumberLabel i) rest h e = number_spelled i rest (lower i n (below_of i n h) few) (no_digit rest e)
  label_spelled (NotLabel a) rest h e = ap (λ ts. NotSign ∷ ts) (label_spelled a rest h e)
  label_spelled (BracketLabel a) rest h e =
      ap (λ ts. OpenBracket ∷ ts) (
      ap hoa_tokens (append_assoc (written_label a) (41 ∷ []) rest) ∙ label_spelled a (41 ∷ rest) h (at_close rest)
      ∙ sym (append_assoc (label_tokens a) (CloseBracket ∷ []) (hoa_tokens rest)))
  label_spelled (AndLabel a b) rest h e =
      ap hoa_tokens (three_rows (written_label a) (written_label b) 38 rest)
      ∙ label_spelled a (38 ∷ (written_label b ++ rest)) (left_true _ _ h) (at_and (written_label b ++ rest))
      ∙ ap (λ ts. label_tokens a ++ AndSign ∷ ts) (label_spelled b rest (right_true (has_names_below n a) _ h) e)
      ∙ sym (append_assoc (label_tokens a) (AndSign ∷ label_tokens b) (hoa_tokens rest))
  label_spelled (OrLabel a b) rest h e =
      ap hoa_tokens (three_rows (written_label a) (written_label b) 124 rest)
      ∙ label_spelled a (124 ∷ (written_label b ++ rest)) (left_true _ _ h) (at_or (written_label b ++ rest))
      ∙ ap (λ ts. label_tokens a ++ OrSign ∷ ts) (label_spelled b rest (right_true (has_names_below n a) _ h) e)
      ∙ sym (append_assoc (label_tokens a) (OrSign ∷ label_tokens b) (hoa_tokens rest))

-- brackets change neither the grouping nor the names
low_rank : (most : ℕ) (a : Label) → nat_le (label_rank (tight most a)) most ≡ true
low_rank most a = go (nat_le (label_rank a) most) refl
  where
    zero_low : (m : ℕ) → nat_le 0 m ≡ true
    zero_low m = let l : 0 ≤ m = omega arith in grind (arith, nat_tests, l)

    go : (t : Bool) → nat_le (label_rank a) most ≡ t → nat_le (label_rank (if t then a else BracketLabel a)) most ≡ true
    go true e = e
    go false e = zero_low most

tight_grouped : (most : ℕ) (a : Label) → is_grouped (tight most a) ≡ is_grouped a
tight_grouped most a = go (nat_le (label_rank a) most)
  where
    go : (t : Bool) → is_grouped (if t then a else BracketLabel a) ≡ is_grouped a
    go true = refl
    go false = refl

tight_named : (n most : ℕ) (a : Label) → has_names_below n (tight most a) ≡ has_names_below n a
tight_named n most a = go (nat_le (label_rank a) most)
  where
    go : (t : Bool) → has_names_below n (if t then a else BracketLabel a) ≡ has_names_below n a
    go true = refl
    go false = refl

module _ (names : List Name) where
  -- all names of a guard are among these
  abbrev pub IsNamed : Guard → Type 0
  IsNamed (Constant b) = ⊤
  IsNamed (Named n) = Has names n
  IsNamed (Not g) = IsNamed g
  IsNamed (And g h) = IsNamed g × IsNamed h
  IsNamed (Or g h) = IsNamed g × IsNamed h

  guard_grouped : (g : Guard) → is_grouped (guard_label names g) ≡ true
  guard_grouped (Constant b) = refl
  guard_grouped (Named n) = refl
  guard_grouped (Not g) = λ i. low_rank 0 (guard_label names g) i && (tight_grouped 0 (guard_label names g) ∙ guard_grouped g) i
  guard_grouped (And g h) =
      λ i. low_rank 1 (guard_label names g) i && low_rank 0 (guard_label names h) i
      && (tight_grouped 1 (guard_label names g) ∙ guard_grouped g) i && (tight_grouped 0 (guard_label names h) ∙ guard_grouped h) i
  guard_grouped (Or g h) = λ i. low_rank 1 (guard_label names h) i && guard_grouped g i && (tight_grouped 1 (guard_label names h) ∙ guard_grouped h) i

  guard_named : (g : Guard) → IsNamed g → has_names_below (length names) (guard_label names g) ≡ true
  guard_named (Constant b) h = refl
  guard_named (Named n) h = small_test (place_of same_name n names) (length names) (place_below same_name same_name_Decides n names h)
  guard_named (Not g) h = tight_named (length names) 0 (guard_label names g) ∙ guard_named g h
  guard_named (And g h) (a, b) =
      λ i. (tight_named (length names) 1 (guard_label names g) ∙ guard_named g a) i && (tight_named (length names) 0 (guard_label names h) ∙ guard_named h b) i
  guard_named (Or g h) (a, b) = λ i. guard_named g a i && (tight_named (length names) 1 (guard_label names h) ∙ guard_named h b) i

-- ---- lines

state_spelled : (k : ℕ) (accepting : Bool) → k < 2 ^ 64 → Spells (state_line k accepting) (Header (codes "State") ∷ Int k ∷ sets_tokens (if accepting then Some (0 ∷ []) else None))
state_spelled k true n rest =
    ap (λ ts. Header (codes "State") ∷ ts) (
    ap hoa_tokens (append_assoc (decimal k ++ codes " {0}") (10 ∷ []) rest ∙ append_assoc (decimal k) (codes " {0}") (10 ∷ rest))
    ∙ number_spelled k (codes " {0}" ++ 10 ∷ rest) n refl ∙ ap (λ ts. Int k ∷ OpenSets ∷ Int 0 ∷ CloseSets ∷ ts) (any_line 2 rest))
state_spelled k false n rest =
    ap (λ ts. Header (codes "State") ∷ ts) (
    ap hoa_tokens (append_assoc (decimal k ++ []) (10 ∷ []) rest ∙ append_assoc (decimal k) [] (10 ∷ rest))
    ∙ number_spelled k (10 ∷ rest) n refl ∙ ap (λ ts. Int k ∷ ts) (any_line 2 rest))

move_pieces : (label target rest : List ℕ) → ((codes "[" ++ label ++ codes "] " ++ target) ++ 10 ∷ []) ++ rest ≡ 91 ∷ (label ++ 93 ∷ 32 ∷ (target ++ 10 ∷ rest))
move_pieces label target rest = simp append_assoc

abbrev pub written_move : List Name → Guard × ℕ → WrittenEdge
written_move names m = record { label = guard_label names m.0; target = m.1; sets = None }

move_spelled : (names : List Name) (m : Guard × ℕ) → length names < 2 ^ 64 → m.1 < 2 ^ 64 → IsNamed names m.0 → Spells (move_line names m) (edge_tokens (written_move names m))
move_spelled names m few small named rest =
    let a = guard_label names m.0 in
    ap hoa_tokens (move_pieces (written_label a) (decimal m.1) rest)
    ∙ ap (λ ts. OpenLabel ∷ ts) (
    label_spelled (length names) few a (93 ∷ 32 ∷ (decimal m.1 ++ 10 ∷ rest)) (guard_named names m.0 named) (at_label (32 ∷ (decimal m.1 ++ 10 ∷ rest)))
    ∙ ap (λ ts. label_tokens a ++ CloseLabel ∷ ts) (number_spelled m.1 (10 ∷ rest) small refl ∙ ap (λ ts. Int m.1 ∷ ts) (any_line 2 rest))
    ∙ sym (append_assoc (label_tokens a) (CloseLabel ∷ Int m.1 ∷ []) (hoa_tokens rest)))

start_line : (n : ℕ) → n < 2 ^ 64 → Spells (line (codes "Start: " ++ decimal n)) (Header (codes "Start") ∷ Int n ∷ [])
start_line n l rest = ap (λ ts. Header (codes "Start") ∷ ts) (number_line n l rest)

acceptance_name_line : Spells (line (codes "acc-name: Buchi")) (Header (codes "acc-name") ∷ Identifier (codes "Buchi") ∷ [])
acceptance_name_line rest = ap (λ ts. Header (codes "acc-name") ∷ Identifier (codes "Buchi") ∷ ts) (any_line 2 rest)

acceptance_line : Spells (line (codes "Acceptance: 1 Inf(0)")) (Header (codes "Acceptance") ∷ Int 1 ∷ Identifier (codes "Inf") ∷ OpenBracket ∷ Int 0 ∷ CloseBracket ∷ [])
acceptance_line rest = ap (λ ts. Header (codes "Acceptance") ∷ Int 1 ∷ Identifier (codes "Inf") ∷ OpenBracket ∷ Int 0 ∷ CloseBracket ∷ ts) (any_line 2 rest)

properties_line : Spells (line (codes "properties: trans-labels explicit-labels state-acc"))
    (Header (codes "properties") ∷ Identifier (codes "trans-labels") ∷ Identifier (codes "explicit-labels") ∷ Identifier (codes "state-acc") ∷ [])
properties_line rest = ap (λ ts. Header (codes "properties") ∷ Identifier (codes "trans-labels") ∷ Identifier (codes "explicit-labels") ∷ Identifier (codes "state-acc") ∷ ts) (any_line 2 rest)

name_byte_clean : (b : ℕ) → is_name_byte b ≡ true → is_clean b ≡ true
name_byte_clean b e = grind (arith, nat_tests, e)

name_clean : (names : List Name) → list_all is_proposition names ≡ true → (n : Name) → Has names n → list_all is_clean n ≡ true
name_clean names e n h = proposition_bytes is_clean name_byte_clean n ((all_Decides is_proposition names).0 e n h)

-- ---- the text

module _ (P : Program) where
  -- links lead to statements or to the end, guards have names of the program, and these are propositions
  pub record IsSound : Type 0 where
    pub inside : IsInside P
    pub named : (i : ℕ) (m : Guard × ℕ) → i < end P → Has (statement_moves P i) m → IsNamed (program_names P) m.0
    pub propositions : IsTrue (list_all is_proposition (program_names P))

  abbrev names : List Name
  names = program_names P

  abbrev numbers : List ℕ
  numbers = range_with_len 0 (state_count P)

  abbrev at_state : Bool → Option (List ℕ)
  at_state accepting = if accepting then Some (0 ∷ []) else None

  abbrev state_in : ℕ → WrittenState
  state_in k = record { number = k; name = None; sets = at_state (row P k).0; edges = map (written_move names) (row P k).1 }

  abbrev document : HoaDocument
  document = record {
    items = StatesItem (state_count P) ∷ StartItem (leads P P.start None) ∷ NamesItem names ∷ OtherItem (codes "acc-name") (Identifier (codes "Buchi") ∷ []) ∷ SetsItem 1
        ∷ OtherItem (codes "properties") (Identifier (codes "trans-labels") ∷ Identifier (codes "explicit-labels") ∷ Identifier (codes "state-acc") ∷ []) ∷ [];
    states = map state_in numbers;
  }

  abbrev pub read : MarkedAutomaton
  read = record { states = state_count P; start = leads P P.start None; sets = 1; names = names; edges = map (λ k. map (leaving_edge (row P k).0) (flat_map (shown_edges P) (row P k).1)) numbers }

  abbrev last_numbers : List ℕ
  last_numbers = if ends_in P then end P ∷ [] else []

  numbers_are : numbers ≡ range_with_len 0 (end P) ++ last_numbers
  numbers_are = go (ends_in P)
    where
      go : (b : Bool) → range_with_len 0 (if b then end P + 1 else end P) ≡ range_with_len 0 (end P) ++ (if b then end P ∷ [] else [])
      go true = range_push (end P)
      go false = sym (append-nil (range_with_len 0 (end P)))

  abbrev first_tokens : List HoaToken
  first_tokens = flat_map state_tokens (map state_in (range_with_len 0 (end P)))

  abbrev last_tokens : List HoaToken
  last_tokens = flat_map state_tokens (map state_in last_numbers)

  all_tokens : flat_map state_tokens (map state_in numbers) ≡ first_tokens ++ last_tokens
  all_tokens =
      ap (λ ks. flat_map state_tokens (map state_in ks)) numbers_are ∙ ap (flat_map state_tokens) (map-append state_in (range_with_len 0 (end P)) last_numbers)
      ∙ flat_map-append state_tokens (map state_in (range_with_len 0 (end P))) (map state_in last_numbers)

  abbrev last_lines : List ℕ
  last_lines = if ends_in P then end_lines (end P) else []

  abbrev pieces : List Piece
  pieces =
      (line (codes "HOA: v1"), Header (codes "HOA") ∷ Identifier (codes "v1") ∷ [])
      ∷ (line (codes "States: " ++ decimal (state_count P)), Header (codes "States") ∷ Int (state_count P) ∷ [])
      ∷ (line (codes "Start: " ++ decimal (leads P P.start None)), Header (codes "Start") ∷ Int (leads P P.start None) ∷ [])
      ∷ (names_line names, Header (codes "AP") ∷ Int (length names) ∷ map StringToken names)
      ∷ (line (codes "acc-name: Buchi"), Header (codes "acc-name") ∷ Identifier (codes "Buchi") ∷ [])
      ∷ (line (codes "Acceptance: 1 Inf(0)"), Header (codes "Acceptance") ∷ Int 1 ∷ Identifier (codes "Inf") ∷ OpenBracket ∷ Int 0 ∷ CloseBracket ∷ [])
      ∷ (line (codes "properties: trans-labels explicit-labels state-acc"), Header (codes "properties") ∷ Identifier (codes "trans-labels") ∷ Identifier (codes "explicit-labels") ∷ Identifier (codes "state-acc") ∷ [])
      ∷ (line (codes "--BODY--"), Body ∷ [])
      ∷ (body_text P, first_tokens)
      ∷ (last_lines, last_tokens)
      ∷ (line (codes "--END--"), End ∷ [])
      ∷ []

  text_pieces : claim_hoa_text P ≡ text_of pieces
  text_pieces = in_a_row [] pieces

  module _ (sound : IsSound) (few : end P < 2 ^ 63) (few_names : length names < 2 ^ 64) where
    names_small : length names < 2 ^ 64
    names_small = few_names

    count_small : state_count P < 2 ^ 64
    count_small = go (ends_in P)
      where
        go : (b : Bool) → (if b then end P + 1 else end P) < 2 ^ 64
        go true = let l = few in omega arith
        go false = let l = few in omega arith

    end_small : (n : ℕ) → n ≤ end P → n < 2 ^ 64
    end_small n l = let m = few in omega arith

    statement_spelled : (k : ℕ) → k < end P → Spells (statement_lines P k) (state_tokens (state_in k))
    statement_spelled k l =
        subst (λ (r : Bool × MoveList). Spells (statement_lines P k) (state_tokens (record { number = k; name = None; sets = at_state r.0; edges = map (written_move names) r.1 }))) (sym (row_below P k l))
        (both_spelled (accepts P k) (statement_moves P k) (λ m h. (end_small m.1 (sound.inside.moves k m l h), sound.named k m l h)))
      where
        both_spelled : (b : Bool) (ms : MoveList) → ((m : Guard × ℕ) → Has ms m → (m.1 < 2 ^ 64) × IsNamed names m.0)
            → Spells (state_line k b ++ flat_map (move_line names) ms) (state_tokens (record { number = k; name = None; sets = at_state b; edges = map (written_move names) ms }))
        both_spelled b ms f =
            spells_both (state_line k b) (flat_map (move_line names) ms) (Header (codes "State") ∷ Int k ∷ sets_tokens (at_state b)) (flat_map edge_tokens (map (written_move names) ms))
            (state_spelled k b (let m = few in omega (arith, l))) (spells_all (move_line names) (written_move names) edge_tokens ms (λ m h. move_spelled names m names_small (f m h).0 (f m h).1))

    end_spelled : Spells (end_lines (end P)) (state_tokens (state_in (end P)))
    end_spelled =
        subst (λ (r : Bool × MoveList). Spells (end_lines (end P)) (state_tokens (record { number = end P; name = None; sets = at_state r.0; edges = map (written_move names) r.1 }))) (sym (row_end P)) (
        spells_both (state_line (end P) true) (move_line names (Constant true, end P)) (Header (codes "State") ∷ Int (end P) ∷ sets_tokens (at_state true)) (edge_tokens (written_move names (Constant true, end P)) ++ [])
        (state_spelled (end P) true (end_small (end P) (omega arith)))
        (λ rest. move_spelled names (Constant true, end P) names_small (end_small (end P) (omega arith)) tt rest ∙ ap (λ ts. ts ++ hoa_tokens rest) (sym (append-nil (edge_tokens (written_move names (Constant true, end P)))))))

    last_spelled : Spells last_lines last_tokens
    last_spelled = go (ends_in P)
      where
        go : (b : Bool) → Spells (if b then end_lines (end P) else []) (flat_map state_tokens (map state_in (if b then end P ∷ [] else [])))
        go true = λ rest. end_spelled rest ∙ ap (λ ts. ts ++ hoa_tokens rest) (sym (append-nil (state_tokens (state_in (end P)))))
        go false = λ rest. refl

    range_inside : (k : ℕ) → Has (range_with_len 0 (end P)) k → k < end P
    range_inside k h = let l = (range_below 0 (end P) k h).1 in omega arith

    pieces_spelled : AreSpelled pieces
    pieces_spelled = (
      format_line,
      (
        states_line (state_count P) count_small,
        (
          start_line (leads P P.start None) (end_small (leads P P.start None) sound.inside.start),
          (
            names_spelled names names_small (name_clean names sound.propositions),
            (
              acceptance_name_line,
              (
                acceptance_line,
                (
                  properties_line,
                  (body_line, (spells_all (statement_lines P) state_in state_tokens (range_with_len 0 (end P)) (λ k h. statement_spelled k (range_inside k h)), (last_spelled, (end_line, tt)))),
                ),
              ),
            ),
          ),
        ),
      ),
    )

    text_spelled : hoa_tokens (claim_hoa_text P) ≡ document_tokens document
    text_spelled =
        ap hoa_tokens text_pieces ∙ spelled_in_row pieces pieces_spelled
        ∙ ap (λ ts. Header (codes "HOA") ∷ Identifier (codes "v1") ∷ Header (codes "States") ∷ Int (state_count P) ∷ Header (codes "Start") ∷ Int (leads P P.start None) ∷ ts)
        (in_parts (Header (codes "AP") ∷ Int (length names) ∷ map StringToken names) (Header (codes "acc-name") ∷ Identifier (codes "Buchi") ∷ []) (header_item_tokens (SetsItem 1))
        (Header (codes "properties") ∷ Identifier (codes "trans-labels") ∷ Identifier (codes "explicit-labels") ∷ Identifier (codes "state-acc") ∷ []) first_tokens last_tokens)
        ∙ ap (λ ts. Header (codes "HOA") ∷ Identifier (codes "v1") ∷ (flat_map header_item_tokens document.items ++ Body ∷ ts ++ End ∷ [])) (sym all_tokens)
      where
        in_parts : (a b c d s t : List HoaToken) → a ++ (b ++ (c ++ (d ++ (Body ∷ (s ++ (t ++ (End ∷ []))))))) ≡ (a ++ (b ++ (c ++ (d ++ [])))) ++ Body ∷ (s ++ t) ++ End ∷ []
        in_parts a b c d s t = simp append_assoc

    -- ---- what it describes

    numbered : (k : ℕ) → Has numbers k → k < state_count P
    numbered k h = let l = (range_below 0 (state_count P) k h).1 in omega arith

    no_other : (a n k : ℕ) → k < a → filter (λ s. s.number == k) (map state_in (range_with_len a n)) ≡ []
    no_other a zero k b = refl
    no_other a (suc n) k b =
        ap (λ c. if c then state_in a ∷ filter (λ s. s.number == k) (map state_in (range_with_len (a + 1) n)) else filter (λ s. s.number == k) (map state_in (range_with_len (a + 1) n))) (differs a k b)
        ∙ no_other (a + 1) n k (omega (arith, b))
      where
        differs : (a k : ℕ) → k < a → (a == k) ≡ false
        differs a k b = grind (arith, nat_tests, b)

    found_state : (a n k : ℕ) → a ≤ k → k < a + n → filter (λ s. s.number == k) (map state_in (range_with_len a n)) ≡ state_in k ∷ []
    found_state a zero k b u = absurd (omega (arith, b, u))
    found_state a (suc n) k b u =
        elim (a == k) as (λ c. (a == k) ≡ c → (if c then state_in a ∷ filter (λ s. s.number == k) rest else filter (λ s. s.number == k) rest) ≡ state_in k ∷ []) [
          | true ↦ λ e. (λ i. state_in (eqb-true a k e i) ∷ no_other (a + 1) n k (let h0 = eqb-true a k e in omega (arith, h0)) i)
          | false ↦ λ e. found_state (a + 1) n k (grind (arith, nat_tests, b, e)) (omega (arith, u))
        ] refl
      where
        rest : List WrittenState
        rest = map state_in (range_with_len (a + 1) n)

    -- the edges of a move as they are read
    one_read : (b : Bool) (m : Guard × ℕ) → cube_edges (at_state b) (written_move names m) ≡ map (leaving_edge b) (shown_edges P m)
    one_read true m = sym (map_same (λ c. record { cube = c; target = m.1; marks = [] }) (leaving_edge true) (label_cubes (guard_label names m.0)))
    one_read false m = sym (map_same (λ c. record { cube = c; target = m.1; marks = [] }) (leaving_edge false) (label_cubes (guard_label names m.0)))

    moves_read : (b : Bool) (ms : MoveList) → flat_map (cube_edges (at_state b)) (map (written_move names) ms) ≡ map (leaving_edge b) (flat_map (shown_edges P) ms)
    moves_read b [] = refl
    moves_read b (m ∷ ms) = (λ i. one_read b m i ++ moves_read b ms i) ∙ sym (map-append (leaving_edge b) (shown_edges P m) (flat_map (shown_edges P) ms))

    read_edges : read.edges ≡ map (edges_at document) numbers
    read_edges = map_equal _ (edges_at document) numbers (λ k h.
        sym (ap (flat_map state_edges) (found_state 0 (state_count P) k (range_below 0 (state_count P) k h).0 (range_below 0 (state_count P) k h).1)
        ∙ append-nil (state_edges (state_in k)) ∙ moves_read (row P k).0 (row P k).1))

    row_named : (k : ℕ) (m : Guard × ℕ) → k < state_count P → Has (row P k).1 m → IsNamed names m.0
    row_named k m l h = elim (below_count P k l) [
      | inl b ↦ sound.named k m b (subst (λ (r : Bool × MoveList). Has r.1 m) (row_below P k b) h)
      | inr (e, t) ↦
          let h0 : Has ((Constant true, end P) ∷ []) m = subst (λ (r : Bool × MoveList). Has r.1 m) (ap (row P) e ∙ row_end P) h in
          elim h0 [ inl q ↦ subst (λ (x : Guard × ℕ). IsNamed names x.0) (sym q) tt | inr q ↦ absurd q ]
    ]

    sets_inside : (b : Bool) → are_sets read (at_state b) ≡ true
    sets_inside true = refl
    sets_inside false = refl

    edges_inside : (k : ℕ) → k < state_count P → list_all (is_edge_inside read) (map (written_move names) (row P k).1) ≡ true
    edges_inside k l = (all_Decides (is_edge_inside read) (map (written_move names) (row P k).1)).1 (λ e h. go e (map_cases (written_move names) (row P k).1 e h))
      where
        go : (e : WrittenEdge) → (m : Guard × ℕ) × Has (row P k).1 m × (e ≡ written_move names m) → is_edge_inside read e ≡ true
        go e (m, h, q) =
            ap (is_edge_inside read) q
            ∙ (λ i. guard_grouped names m.0 i && guard_named names m.0 (row_named k m l h) i && small_test m.1 (state_count P) (row_inside P sound.inside k m l h) i && true)

    states_inside : list_all (is_state_inside read) document.states ≡ true
    states_inside = (all_Decides (is_state_inside read) document.states).1 (λ s h. go s (map_cases state_in numbers s h))
      where
        go : (s : WrittenState) → (k : ℕ) × Has numbers k × (s ≡ state_in k) → is_state_inside read s ≡ true
        go s (k, h, q) = ap (is_state_inside read) q ∙ (λ i. small_test k (state_count P) (numbered k h) i && sets_inside (row P k).0 i && edges_inside k (numbered k h) i)

    text_is : IsHoaOf (claim_hoa_text P) read
    text_is = record {
      document = document;
      spelled = text_spelled;
      describes = record {
        items = refl;
        states = refl;
        start = refl;
        sets = refl;
        names = refl;
        few_sets = (omega arith);
        begins = start_inside P sound.inside;
        propositions = sound.propositions;
        differ = HasNoRepeats-first_occurrences same_name same_name_Decides P.names;
        once = subst HasNoRepeats (sym (map_same state_in (λ s. s.number) numbers ∙ map-id numbers)) (range_differs 0 (state_count P));
        inside = states_inside;
        edges = read_edges;
      };
    }

    -- ---- its words

    graph_is : graph_of read ≡ leaving (shown P)
    graph_is =
        ap (λ ss. let A : Automaton = record { sets = 1; states = ss } in A)
        (map_same (λ k. map (leaving_edge (row P k).0) (flat_map (shown_edges P) (row P k).1)) (λ es. let s : State = record { accepting = true; edges = es } in s) numbers
        ∙ sym (map_same (shown_state P) leaving_state numbers))

    same_words : (w : Lasso) → 0 < length w.cycle → MarkedAccepts read w ↔ ClaimAccepts P w
    same_words w cycles =
        let start = leads P P.start None in
        let one : AcceptedFrom start (graph_of read) (is_true_at names w) (next w) ↔ AcceptedFrom start (shown P) (is_true_at names w) (next w) =
        subst (λ G. AcceptedFrom start G (is_true_at names w) (next w) ↔ AcceptedFrom start (shown P) (is_true_at names w) (next w)) (sym graph_is)
        (leaving_accepts (shown P) (is_true_at names w) (next w) refl start) in
        let two = shown_accepts P sound.inside w cycles in
        ((λ a. two.0 (one.0 a)), λ a. one.1 (two.1 a))

    -- what is printed keeps the words
    pub text_keeps : KeepsWords (claim_hoa_text P) P
    text_keeps = (read, text_is, same_words)
