-- The text of an automaton reads as that automaton.
use Rattle.std.proofs.Common.{◌≡◌, ℕ, ◌^◌, ◌<◌, ◌≤◌, Bool, true, false, List, [], ◌∷◌, ◌++◌, length, map, Some, None, codes, refl, sym, ◌∙◌, ap, subst, arith}
use Rattle.std.specs.Prelude.{if◌then◌else◌, unwrap_or, All, Result, Ok, Err}
use Rattle.std.specs.Ordering.{nat_cmp}
use Rattle.ltl_spec.specs.Collections.Sets.{Has, set_of}
use Rattle.ltl_spec.specs.Formulas.Formula.{Reading}
use Rattle.ltl_spec.specs.Automata.Automaton.{Automaton, Edge, State, state_at}
use Rattle.ltl_spec.specs.Automata.ClaimText.{line}
use Rattle.ltl_spec.specs.Automata.HoaText.{state_lines, hoa_text}
use Rattle.ltl_spec.specs.Automata.GeneralizedText.{generalized_text}
use Rattle.ltl_spec.specs.Tools.Limits.{stated_limits}
use Rattle.ltl_spec.specs.Hoa.HoaToken.{Identifier}
use Rattle.ltl_spec.specs.Hoa.HoaReading.{stated_form, MarkedAutomaton, are_sets, HoaReadsWithin}
use Rattle.ltl_spec.proofs.Hoa.HoaLaws.{one_automaton, reads_without_fault}
use Rattle.ltl_spec.specs.Hoa.HoaPrinted as generalized
use Rattle.ltl_spec.proofs.Hoa.GeneralizedBack.{stated_usual, generalized_reads, generalized_read_back, Form, read_edge, IsFine, form_reads}
use Rattle.ltl_hoa.specs.declared.marked.TheConstants.{MOST_SETS}
use Rattle.ltl_hoa.specs.declared.fault.HoaFault.{HoaFault}
use Rattle.ltl_hoa.specs.declared.fault.HoaFault.TheVariants.{AtLine, CannotRead, OutOfMemory}
use Rattle.ltl_hoa.specs.Reading.{Answers, IsOfText, RefusesText}
use Rattle.ltl_spec.proofs.Collections.ListLaws.{Has-at, All-at_has}
use Rattle.ltl_hoa.specs.Printed.{IsPrintedEdge, IsPrinted, marked_edge, marked_of, IsAnswered, IsReadBack}
use Rattle.ltl_hoa.proofs.PrintedTokens.{acceptance_name_line, acceptance_line, properties_line, at_state, SmallEdge, state_spelled}
use Rattle.ltl_spec.proofs.Collections.FoundLaws.{map_equal}

module _ (B : Automaton) (F : Reading) (p : IsPrinted B F) where
  -- the text as it is written, with set 0 at accepting states
  abbrev form : Form
  form = record {
    sets = 1;
    name = (line (codes "acc-name: Buchi"), Identifier (codes "Buchi") ∷ []);
    acceptance = line (codes "Acceptance: 1 Inf(0)");
    properties = (line (codes "properties: trans-labels explicit-labels state-acc"), Identifier (codes "trans-labels") ∷ Identifier (codes "explicit-labels") ∷ Identifier (codes "state-acc") ∷ []);
    at_state = at_state;
    at_edge = λ e. None;
    lines = state_lines B;
  }

  edge_fine : (s : State) → Has B.states s → (e : Edge) → Has s.edges e → IsPrintedEdge (length F.names) (length B.states) e
  edge_fine s h e m =
      All-at_has (IsPrintedEdge (length F.names) (length B.states)) s.edges (All-at_has (λ r. All (IsPrintedEdge (length F.names) (length B.states)) r.edges) B.states p.within s h) e m

  small_of : (k n m : ℕ) → k < n → n ≤ m → m < 2 ^ 64 → k < 2 ^ 64
  small_of k n m a b c = omega (arith, a, b, c)

  few_numbered : (k : ℕ) → k < length B.states → k < 2 ^ 64
  few_numbered k l = small_of k (length B.states) stated_limits.hoa_states l p.few_states (omega arith)

  edge_small : (s : State) → Has B.states s → (e : Edge) → Has s.edges e → SmallEdge e
  edge_small s h e m =
      let f = edge_fine s h e m in (
        (λ l q. small_of l.proposition (length F.names) stated_limits.propositions (All-at_has (λ k. k.proposition < length F.names) e.cube f.named l q) p.few_names (omega arith)),
        few_numbered e.target f.target,
      )

  form_fine : IsFine stated_limits B F form stated_form
  form_fine = record {
    name = acceptance_name_line;
    acceptance = acceptance_line;
    properties = properties_line;
    lines = λ k l. state_spelled B k (few_numbered k l) (edge_small (state_at B k) (Has-at B.states k (record { accepting = true; edges = [] }) l));
    plain = (refl, refl);
    few_sets = (omega arith);
    at_states = λ s. sets_inside s.accepting;
    edges = λ s h e m. let f = edge_fine s h e m in record { rising = f.rising; consistent = f.consistent; named = f.named; target = f.target; sets = refl };
    some = p.some;
    few_states = p.few_states;
    few_edges = p.few_edges;
    few_names = p.few_names;
    propositions = p.propositions;
    differ = p.differ;
    small = (omega arith, omega arith, omega arith);
  }
    where
      sets_inside : (c : Bool) → are_sets (marked_of B F.names) (if c then Some (0 ∷ []) else None) ≡ true
      sets_inside true = refl
      sets_inside false = refl

  -- an edge is read in set 0 where it leaves an accepting state
  same_edges : map (λ s. map (read_edge stated_limits B F form s) s.edges) B.states ≡ map (λ s. map (marked_edge s.accepting) s.edges) B.states
  same_edges = map_equal _ _ B.states (λ s h. map_equal _ _ s.edges (λ e m. ap (λ ks. record { cube = e.cube; target = e.target; marks = ks }) (same s.accepting)))
    where
      same : (c : Bool) → set_of nat_cmp (unwrap_or (if c then Some (0 ∷ []) else None) [] ++ []) ≡ (if c then 0 ∷ [] else [])
      same true = refl
      same false = refl

  -- the printed text reads as the automaton
  pub printed_reads : length (hoa_text B F) ≤ stated_limits.hoa_bytes → HoaReadsWithin stated_limits stated_form (hoa_text B F) (marked_of B F.names)
  printed_reads few =
      subst (λ es. HoaReadsWithin stated_limits stated_form (hoa_text B F) (record { states = length B.states; start = 0; sets = 1; names = F.names; edges = es })) same_edges
      (form_reads stated_limits B F form stated_form form_fine few)

-- what reads as an automaton isn't refused for a fault of its own
pub answered_alone : (text : List ℕ) (A : MarkedAutomaton) (fault : HoaFault) → HoaReadsWithin stated_limits stated_form text A → RefusesText text fault → ¬ (IsOfText fault)
answered_alone text A (AtLine n k) r a = λ _. (let h0 = sym (reads_without_fault stated_limits stated_form text A r) ∙ a in cc)
answered_alone text A CannotRead r a = λ e. e
answered_alone text A OutOfMemory r a = λ e. e

-- what is answered to the printed text
pub answered_back : (B : Automaton) (F : Reading) (answer : Result MarkedAutomaton HoaFault) → IsPrinted B F → length (hoa_text B F) ≤ stated_limits.hoa_bytes → Answers (hoa_text B F) answer → IsReadBack B F answer
answered_back B F (Ok A) p l a = one_automaton stated_limits stated_form (hoa_text B F) A (marked_of B F.names) a (printed_reads B F p l)
answered_back B F (Err fault) p l a = answered_alone (hoa_text B F) (marked_of B F.names) fault (printed_reads B F p l) a

-- a generalized automaton

pub generalized_printed : (B : Automaton) (F : Reading) → generalized.IsPrinted stated_limits MOST_SETS B F → length (generalized_text B F) ≤ stated_limits.hoa_bytes
    → HoaReadsWithin stated_limits stated_form (generalized_text B F) (generalized.marked_of B F.names)
generalized_printed B F p l = generalized_reads stated_limits MOST_SETS stated_usual B F p l

pub generalized_answered : (B : Automaton) (F : Reading) (answer : Result MarkedAutomaton HoaFault) → generalized.IsPrinted stated_limits MOST_SETS B F → length (generalized_text B F) ≤ stated_limits.hoa_bytes
    → Answers (generalized_text B F) answer → IsAnswered (generalized.marked_of B F.names) answer
generalized_answered B F (Ok A) p l a = generalized_read_back stated_limits MOST_SETS stated_usual B F p l A a
generalized_answered B F (Err fault) p l a = answered_alone (generalized_text B F) (generalized.marked_of B F.names) fault (generalized_printed B F p l) a
