-- Worked examples: the texts of words and of automata that are read, and all messages.
use Rattle.std.proofs.Common.{◌≡◌, ℕ, ◌+◌, nat_lt, nat_le, Bool, true, false, not, ◌&&◌, inl, inr, List, [], ◌∷◌, length, map, filter_map, sum_by, refl, arith, Option, Some, None, ltb-true, leb-true}
use Rattle.std.specs.Prelude.{codes, All}
use Rattle.std.specs.Fmt.{digits}
use Rattle.std.specs.List.{list_all, range_with_len}
use Rattle.ltl_spec.proofs.Collections.CaseLaws.{left_true, right_true}
use Rattle.std.proofs.lemmas.List.Elements.{All-nil, All-cons}
use Rattle.ltl_spec.specs.Collections.Sets.{IsRising}
use Rattle.ltl_spec.specs.Collections.Lists.{HasNoRepeats}
use Rattle.ltl_spec.specs.Semantics.Word.{name_cmp, Lasso, Letter}
use Rattle.ltl_spec.specs.Formulas.Names.{is_proposition}
use Rattle.ltl_spec.specs.Words.LassoText.{lasso_text, IsLassoText, IsBadWord, IsLeastForm}
use Rattle.ltl_spec.specs.Tools.Limits.{stated_limits}
use Rattle.ltl_spec.specs.Formulas.Fault.{UnexpectedByte, ExpectedOperand, ExpectedOperatorOrEnd, ExpectedCloseOrOperator}
use Rattle.ltl_spec.specs.Hoa.HoaFaultKind.{NotHoaVersion1, BadToken, ItemTwice, ItemMissing, Unsupported, NumberOutOfRange, BadPropositionList, StateDefinedTwice, TextAfterEnd, LimitPassed}
use Rattle.ltl_spec.specs.Tools.Refusal.{Tool, Translator, Checker, Evaluator, Refusal, message, Usage, CannotOpen, CannotRead, CannotWrite, OutOfMemory, LongFormula, TooManyPropositions, TooManyRows, TooManyElementaryRows, LargeAutomaton, LongWord, LargeProduct, BadFormula, BadWord, BadAutomaton}
use Rattle.ltl_spec.specs.Transitions.Cubes.{Literal}
use Rattle.ltl_spec.specs.Hoa.HoaToken.{hoa_tokens}
use Rattle.ltl_spec.specs.Hoa.HoaLabel.{Label, NumberLabel, NotLabel, BracketLabel, AndLabel, OrLabel, label_cubes, is_wide}
use Rattle.ltl_spec.specs.Hoa.HoaReading.{AcceptanceForm, MarkedAutomaton, StatesItem, StartItem, NamesItem, SetsItem, is_item, states_in, start_in, sets_in, names_in, is_state_inside, state_edges, edges_at, HoaDocument, document_tokens, HoaReadsWithin, stated_form}
use Rattle.ltl_spec.specs.Hoa.HoaFault.{HoaFault, fault_at, hoa_fault}
use Rattle.ltl_spec.proofs.Words.LeastLaws.{least_form_is}
use Rattle.ltl_spec.proofs.Words.WordReadingLaws.{run_word, fault_at_byte, fault_at_end}

-- words

-- `{b,a,b}; cycle {}` is printed with the names of each letter as a set
repeated_names : IsLassoText (codes "{b,a,b}; cycle {}") (record { stem = (codes "a" ∷ codes "b" ∷ []) ∷ []; cycle = [] ∷ [] })
repeated_names = run_word (codes "{b,a,b}; cycle {}") _ refl refl

printed_names : lasso_text (record { stem = (codes "a" ∷ codes "b" ∷ []) ∷ []; cycle = [] ∷ [] }) ≡ codes "{a,b}; cycle {}"
printed_names = refl

pub stem_alone : IsBadWord (codes "{p}") 3
stem_alone = fault_at_end (codes "{p}") _ refl refl

no_blank : IsBadWord (codes "{p};cycle {}") 4
no_blank = fault_at_byte (codes "{p};") 99 (codes "ycle {}") _ refl refl

no_name : IsBadWord (codes "cycle {p,}") 9
no_name = fault_at_byte (codes "cycle {p,") 125 [] _ refl refl

no_text : IsBadWord [] 0
no_text = fault_at_end [] _ refl refl

no_blank_in_cycle : IsBadWord (codes "cycle {p};{q}") 10
no_blank_in_cycle = fault_at_byte (codes "cycle {p};") 123 (codes "q}") _ refl refl

constant_as_name : IsBadWord (codes "cycle {true}") 11
constant_as_name = fault_at_byte (codes "cycle {true") 125 [] _ refl refl

-- letters that are sets, one by one
abbrev pub Rise : List Letter → Type 0
Rise [] = Unit
Rise (a ∷ ls) = IsRising name_cmp a × Rise ls

pub rising : (ls : List Letter) → Rise ls → All (IsRising name_cmp) ls
rising [] h = All-nil (IsRising name_cmp)
rising (a ∷ ls) h = All-cons (IsRising name_cmp) a ls h.0 (rising ls h.1)

-- the least form of `{p}; cycle {p}; {p}` is `cycle {p}`, and that of `{p}; cycle {}; {p}` is `cycle {p}; {}`
abbrev p_letter : Letter
p_letter = codes "p" ∷ []

abbrev long_always_p : Lasso
long_always_p = record { stem = p_letter ∷ []; cycle = p_letter ∷ p_letter ∷ [] }

abbrev every_other_p : Lasso
every_other_p = record { stem = []; cycle = p_letter ∷ [] ∷ [] }

abbrev turned_p : Lasso
turned_p = record { stem = p_letter ∷ []; cycle = [] ∷ p_letter ∷ [] }

least_of_long : IsLeastForm long_always_p (record { stem = []; cycle = p_letter ∷ [] })
least_of_long = least_form_is long_always_p (record { sets = rising (p_letter ∷ p_letter ∷ p_letter ∷ []) ((tt, tt), ((tt, tt), ((tt, tt), tt))); cycles = omega arith })

least_of_turned : IsLeastForm turned_p every_other_p
least_of_turned = least_form_is turned_p (record { sets = rising (p_letter ∷ [] ∷ p_letter ∷ []) ((tt, tt), (tt, ((tt, tt), tt))); cycles = omega arith })

least_text : lasso_text every_other_p ≡ codes "cycle {p}; {}"
least_text = refl

-- cubes of labels

abbrev literal : ℕ → Bool → Literal
literal p s = record { proposition = p; positive = s }

-- `(0|1)&(2|3)`
four_cubes : label_cubes (AndLabel (BracketLabel (OrLabel (NumberLabel 0) (NumberLabel 1))) (BracketLabel (OrLabel (NumberLabel 2) (NumberLabel 3))))
    ≡ (literal 0 true ∷ literal 2 true ∷ []) ∷ (literal 0 true ∷ literal 3 true ∷ []) ∷ (literal 1 true ∷ literal 2 true ∷ []) ∷ (literal 1 true ∷ literal 3 true ∷ []) ∷ []
four_cubes = refl

-- `!(0&1)`
negated_cubes : label_cubes (NotLabel (BracketLabel (AndLabel (NumberLabel 0) (NumberLabel 1)))) ≡ (literal 0 false ∷ []) ∷ (literal 1 false ∷ []) ∷ []
negated_cubes = refl

-- `0&!0`
no_cube : label_cubes (AndLabel (NumberLabel 0) (NotLabel (NumberLabel 0))) ≡ []
no_cube = refl

-- four factors `(0|1)&(2|3)&..` have 16 cubes, which is too many where 15 are allowed
abbrev factor : ℕ → Label
factor i = BracketLabel (OrLabel (NumberLabel i) (NumberLabel (i + 1)))

abbrev four_factors : Label
four_factors = AndLabel (AndLabel (AndLabel (factor 0) (factor 2)) (factor 4)) (factor 6)

narrow : is_wide 16 four_factors ≡ false
narrow = refl

wide : is_wide 15 four_factors ≡ true
wide = refl

-- automata

-- what a text reads as, where all of it is computed
module _ (form : AcceptanceForm) (text : List ℕ) (A : MarkedAutomaton) (d : HoaDocument) where
  abbrev pub says_all : Bool
  says_all =
      list_all is_item d.items && (nat_le A.sets form && (nat_lt A.start A.states && (list_all is_proposition A.names && list_all (is_state_inside A) d.states)))

  abbrev pub is_small : Bool
  is_small =
      nat_le (length text) stated_limits.hoa_bytes && (nat_le A.states stated_limits.hoa_states && (nat_le (length A.names) stated_limits.propositions
      && (list_all (λ s. list_all (λ e. not (is_wide stated_limits.label_cubes e.label)) s.edges) d.states && nat_le (sum_by (λ s. length (state_edges s)) d.states) stated_limits.hoa_edges)))

  -- the equations, the tests, and that names and numbers of states differ
  pub reads_as : hoa_tokens text ≡ document_tokens d
      → (filter_map states_in d.items ≡ A.states ∷ []) × (filter_map start_in d.items ≡ A.start ∷ []) × (filter_map sets_in d.items ≡ A.sets ∷ []) × (filter_map names_in d.items ≡ A.names ∷ [])
      → A.edges ≡ map (edges_at d) (range_with_len 0 A.states) → says_all ≡ true → is_small ≡ true → HasNoRepeats A.names → HasNoRepeats (map (λ s. s.number) d.states) → HoaReadsWithin stated_limits form text A
  reads_as spelled (states, start, sets, names) edges all small differ once =
      let (items, a) = parts _ _ all in
      let (reads, b) = parts _ _ a in
      let (begins, c) = parts _ _ b in
      let (propositions, inside) = parts _ _ c in
      let (bytes, e) = parts _ _ small in
      let (few, f) = parts _ _ e in
      let (named, g) = parts _ _ f in
      let (labels, short) = parts _ _ g in
      record {
        document = d;
        spelled = spelled;
        describes = record {
          items = items;
          states = states;
          start = start;
          sets = sets;
          names = names;
          few_sets = leb-true _ _ reads;
          begins = ltb-true _ _ begins;
          propositions = propositions;
          differ = differ;
          once = once;
          inside = inside;
          edges = edges;
        };
        within = record { bytes = leb-true _ _ bytes; states = leb-true _ _ few; names = leb-true _ _ named; labels = labels; edges = leb-true _ _ short };
      }
    where
      parts : (a b : Bool) → (a && b) ≡ true → (a ≡ true) × (b ≡ true)
      parts a b e = (left_true a b e, right_true a b e)

abbrev pub text_e : List ℕ
text_e = codes "HOA: v1\nStates: 1\nStart: 0\nAP: 1 \"p\"\nAcceptance: 1 Inf(0)\n--BODY--\nState: 0 {0}\n[!0] 0\n--END--\n"

abbrev pub automaton_e : MarkedAutomaton
automaton_e = record {
  states = 1;
  start = 0;
  sets = 1;
  names = codes "p" ∷ [];
  edges = (record { cube = literal 0 false ∷ []; target = 0; marks = 0 ∷ [] } ∷ []) ∷ [];
}

abbrev document_e : HoaDocument
document_e = record {
  items = StatesItem 1 ∷ StartItem 0 ∷ NamesItem (codes "p" ∷ []) ∷ SetsItem 1 ∷ [];
  states = record { number = 0; name = None; sets = Some (0 ∷ []); edges = record { label = NotLabel (NumberLabel 0); target = 0; sets = None } ∷ [] } ∷ [];
}

pub reads_e : HoaReadsWithin stated_limits 1 text_e automaton_e
reads_e = reads_as 1 text_e automaton_e document_e refl (refl, refl, refl, refl) refl refl refl ((λ h. h), tt) ((λ h. h), tt)

-- as the programs read it
pub program_reads_e : HoaReadsWithin stated_limits stated_form text_e automaton_e
program_reads_e = reads_as stated_form text_e automaton_e document_e refl (refl, refl, refl, refl) refl refl refl ((λ h. h), tt) ((λ h. h), tt)

abbrev text_p : List ℕ
text_p = codes "HOA: v1\nStates: 2\nStart: 0\nAP: 1 \"p\"\nAcceptance: 1 Inf(0)\n--BODY--\nState: 0 {0}\n[0] 1\nState: 1\n[!0] 0\n--END--\n"

abbrev automaton_p : MarkedAutomaton
automaton_p = record {
  states = 2;
  start = 0;
  sets = 1;
  names = codes "p" ∷ [];
  edges = (record { cube = literal 0 true ∷ []; target = 1; marks = 0 ∷ [] } ∷ []) ∷ (record { cube = literal 0 false ∷ []; target = 0; marks = [] } ∷ []) ∷ [];
}

reads_p : HoaReadsWithin stated_limits 1 text_p automaton_p
reads_p = reads_as 1 text_p automaton_p (
    record {
      items = StatesItem 2 ∷ StartItem 0 ∷ NamesItem (codes "p" ∷ []) ∷ SetsItem 1 ∷ [];
      states = record { number = 0; name = None; sets = Some (0 ∷ []); edges = record { label = NumberLabel 0; target = 1; sets = None } ∷ [] }
          ∷ record { number = 1; name = None; sets = None; edges = record { label = NotLabel (NumberLabel 0); target = 0; sets = None } ∷ [] } ∷ [];
    }
    ) refl (refl, refl, refl, refl) refl refl refl ((λ h. h), tt) ((λ h. elim h [ inl e ↦ cc | inr z ↦ z ]), ((λ h. h), tt))

-- faults of texts that differ from the first of these automata, where one set at most is read
abbrev fault : List ℕ → Option HoaFault
fault = hoa_fault stated_limits 1

abbrev faults : List (Option HoaFault × Option HoaFault)
faults =
    (fault (codes "HOA: v2\nStates: 1\nStart: 0\nAP: 1 \"p\"\nAcceptance: 1 Inf(0)\n--BODY--\nState: 0 {0}\n[!0] 0\n--END--\n"), fault_at NotHoaVersion1 1)
    ∷ (fault (codes "HOA: v1\nStates: 1\nStates: 1\nAP: 1 \"p\"\nAcceptance: 1 Inf(0)\n--BODY--\nState: 0 {0}\n[!0] 0\n--END--\n"), fault_at ItemTwice 3)
    ∷ (fault (codes "HOA: v1\nStates: 1\nStart: 0\nAcceptance: 1 Inf(0)\n--BODY--\nState: 0 {0}\n[!0] 0\n--END--\n"), fault_at ItemMissing 5)
    ∷ (fault (codes "HOA: v1\nStates: 1\nStart: 0\nAP: 1 \"p\"\nAcceptance: 2 Inf(0)&Inf(1)\n--BODY--\nState: 0 {0}\n[!0] 0\n--END--\n"), fault_at LimitPassed 5)
    ∷ (fault (codes "HOA: v1\nStates: 1\nStart: 0\nAP: 2 \"p\"\nAcceptance: 1 Inf(0)\n--BODY--\nState: 0 {0}\n[!0] 0\n--END--\n"), fault_at BadPropositionList 5)
    ∷ (fault (codes "HOA: v1\nStates: 1\nStart: 0\nAP: 1 \"true\"\nAcceptance: 1 Inf(0)\n--BODY--\nState: 0 {0}\n[!0] 0\n--END--\n"), fault_at BadPropositionList 4)
    ∷ (fault (codes "HOA: v1\nStates: 1\nStart: 1\nAP: 1 \"p\"\nAcceptance: 1 Inf(0)\n--BODY--\nState: 0 {0}\n[!0] 0\n--END--\n"), fault_at NumberOutOfRange 6)
    ∷ (fault (codes "HOA: v1\nStates: 1\nStart: 0\nAP: 1 \"p\"\nAcceptance: 1 Inf(0)\n--BODY--\nState: 0 {0}\n0\n--END--\n"), fault_at Unsupported 8)
    ∷ (fault (codes "HOA: v1\nStates: 1\nStart: 0\nAP: 1 \"p\"\nAcceptance: 1 Inf(0)\n--BODY--\nState: 0 {0}\n[!0] 0&0\n--END--\n"), fault_at Unsupported 8)
    ∷ (fault (codes "HOA: v1\nStates: 1\nStart: 0\nAP: 1 \"p\"\nAcceptance: 1 Inf(0)\n--BODY--\nState: 0 {0}\n[!0] 0\nState: 0\n--END--\n"), fault_at StateDefinedTwice 9)
    ∷ (fault (codes "HOA: v1\nStates: 1\nStart: 0\nAP: 1 \"p\"\nAcceptance: 1 Inf(0)\n--BODY--\nState: 0 {0}\n[!0] 0\n--END--\nx\n"), fault_at TextAfterEnd 10)
    ∷ (fault (codes ""), fault_at NotHoaVersion1 1)
    ∷ (fault (codes "HOA: v1\nStates: 1\nStart: 0\nAP: 1 \"p\"\nAcceptance: 1 Inf(0)\n--BODY--\nState: 0 {0}\n"), fault_at BadToken 8)
    ∷ (fault (codes "HOA: v1\nStates: 4294967295\nStart: 0\nAP: 1 \"p\"\nAcceptance: 1 Inf(0)\n--BODY--\nState: 0 {0}\n[!0] 0\n--END--\n"), fault_at LimitPassed 2)
    ∷ (fault (codes "HOA: v1\nStates: 1\nStart: 0\nAP: 1 \"p\"\nAcceptance: 1 Inf(0)\n--BODY--\nState: 0 {0}\n[1] 0\n--END--\n"), fault_at NumberOutOfRange 8)
    ∷ (fault (codes "HOA: v1\nStates: 1000000000000000000000000000000000000000000000000000000000000000000000000000000000000000000000000000000000000000000000000000000000000000000000000000000000000000000000000000000000000000000000000000000000000000000000000000000000000000000000000000000000000000000000000000000000000000000000000000000000000000000000000000000000000000000000000000000000000000000000000000000000000000000000000000000000000000000000000000000000000000000000000000000000000000000000000000000000000000000000000000000000000000000000000000000000000000000000000000000000000000000000000000000000000000000000000000000000000000000000000000000000000000000000000000000000000000000000000000000000000000000000000000000000000000000000000000000000000000000000000000000000000000000000000000000000000000000000000000000000000000000000000000000000000000000000000000000000000000000000000000000000000000000000000000000000000000000000000000000000000000000000000000000000000000000000000000000000000000000000000000000000000000000000000000000000000000\nStart: 0\nAP: 1 \"p\"\nAcceptance: 1 Inf(0)\n--BODY--\nState: 0 {0}\n[!0] 0\n--END--\n"), fault_at LimitPassed 2)
    ∷ (fault (codes "HOA: v1\nStates: 0\nStart: 0\nAP: 1 \"p\"\nAcceptance: 1 Inf(0)\n--BODY--\nState: 0 {0}\n[!0] 0\n--END--\n"), fault_at NumberOutOfRange 6)
    ∷ (fault (codes "HOA: v1\nStates: 1\nStart: 0\nAP: 257\nAcceptance: 1 Inf(0)\n--BODY--\nState: 0 {0}\n[!0] 0\n--END--\n"), fault_at LimitPassed 4)
    ∷ (fault (codes "HOA: v1\nStates: 1\nStart: 0\nAP: 1 \"p\"\nAcceptance: 1 Inf(0)\n--BODY--\n/*State: 0 {0}\n[!0] 0\n--END--\n"), fault_at BadToken 10)
    ∷ (fault (codes "HOA: v1\nStates: 1\nStart: 0\nAP: 1 \"p\"\nAcceptance: 1 Inf(0)\n--BODY--\nState: 0 {0}\n[!0] 0\n--END--\n"), None)
    ∷ []

faults_hold : map (λ e. e.0) faults ≡ map (λ e. e.1) faults
faults_hold = refl

-- the same where up to 32 sets are read
abbrev fault_of_sets : List ℕ → Option HoaFault
fault_of_sets = hoa_fault stated_limits 32

abbrev set_faults : List (Option HoaFault × Option HoaFault)
set_faults =
    (fault_of_sets (codes "HOA: v1\nStates: 1\nStart: 0\nAP: 1 \"p\"\nAcceptance: 0 t\n--BODY--\nState: 0\n[!0] 0\n--END--\n"), None)
    ∷ (fault_of_sets (codes "HOA: v1\nStates: 1\nStart: 0\nAP: 1 \"p\"\nAcceptance: 0 t\n--BODY--\nState: 0 {0}\n[!0] 0\n--END--\n"), fault_at NumberOutOfRange 7)
    ∷ (fault_of_sets (codes "HOA: v1\nStates: 1\nStart: 0\nAP: 1 \"p\"\nAcceptance: 2 Inf(0)&Inf(1)\n--BODY--\nState: 0 {0}\n[!0] 0\n--END--\n"), None)
    ∷ (fault_of_sets (codes "HOA: v1\nStates: 1\nStart: 0\nAP: 1 \"p\"\nAcceptance: 2 Inf(1)&Inf(0)\n--BODY--\nState: 0 {0}\n[!0] 0\n--END--\n"), fault_at Unsupported 5)
    ∷ (fault_of_sets (codes "HOA: v1\nStates: 1\nStart: 0\nAP: 1 \"p\"\nAcceptance: 33\n--BODY--\nState: 0 {0}\n[!0] 0\n--END--\n"), fault_at LimitPassed 5)
    ∷ []

set_faults_hold : map (λ e. e.0) set_faults ≡ map (λ e. e.1) set_faults
set_faults_hold = refl

-- messages
abbrev message_of : Tool → Refusal → List ℕ
message_of = message stated_limits

abbrev messages : List (List ℕ × List ℕ)
messages =
    (message_of Translator (BadFormula 0 ExpectedOperand), codes "ltl2ba: formula: byte 0: expected operand\n")
    ∷ (message_of Translator (BadFormula 2 ExpectedCloseOrOperator), codes "ltl2ba: formula: byte 2: expected ) or operator\n")
    ∷ (message_of Translator (BadFormula 2 ExpectedOperatorOrEnd), codes "ltl2ba: formula: byte 2: expected operator or end\n")
    ∷ (message_of Translator (BadFormula 2 UnexpectedByte), codes "ltl2ba: formula: byte 2: unexpected byte\n")
    ∷ (message_of Translator LongFormula, codes "ltl2ba: limit: formula longer than 65536 bytes\n")
    ∷ (message_of Translator TooManyPropositions, codes "ltl2ba: limit: more than 256 propositions\n")
    ∷ (message_of Translator TooManyRows, codes "ltl2ba: limit: more than 4096 rows\n")
    ∷ (message_of Translator TooManyElementaryRows, codes "ltl2ba: limit: more than 256 elementary rows\n")
    ∷ (message_of Translator LargeAutomaton, codes "ltl2ba: limit: automaton too large\n")
    ∷ (message_of Translator Usage, codes "ltl2ba: usage: ltl2ba [-l] [-o] [-p] [-H | -G] (-f formula | -F file)\n")
    ∷ (message_of Checker Usage, codes "ltlcheck: usage: ltlcheck (-f formula | -F file) [-A file]\n")
    ∷ (message_of Evaluator Usage, codes "ltleval: usage: ltleval (-f formula | -F file) -w lasso\n")
    ∷ (message_of Translator CannotOpen, codes "ltl2ba: cannot open\n")
    ∷ (message_of Checker CannotRead, codes "ltlcheck: cannot read\n")
    ∷ (message_of Evaluator CannotWrite, codes "ltleval: cannot write\n")
    ∷ (message_of Checker OutOfMemory, codes "ltlcheck: out of memory\n")
    ∷ (message_of Checker LargeProduct, codes "ltlcheck: limit: product too large\n")
    ∷ (message_of Checker (BadAutomaton 1 NotHoaVersion1), codes "ltlcheck: automaton: line 1: not HOA v1\n")
    ∷ (message_of Checker (BadAutomaton 4 BadPropositionList), codes "ltlcheck: automaton: line 4: bad AP list\n")
    ∷ (message_of Evaluator (BadWord 3), codes "ltleval: word: byte 3: bad word\n")
    ∷ (message_of Evaluator LongWord, codes "ltleval: limit: word longer than 65536 bytes\n")
    ∷ []

messages_hold : map (λ e. e.0) messages ≡ map (λ e. e.1) messages
unfolding digits
messages_hold = refl
