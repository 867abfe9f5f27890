-- What is read of the text of an automaton is that automaton.
use Rattle.std.proofs.Common.{◌≡◌, ap, sym, refl, subst, ℕ, ◌<◌, ◌≤◌, ◌↔◌, Bool, true, false, List, [], ◌∷◌, length, map, All}
use Rattle.std.specs.Prelude.{slice_index_or, IsTrue}
use Rattle.std.specs.List.{list_all}
use Rattle.ltl_spec.specs.Collections.Sets.{Has}
use Rattle.ltl_spec.specs.Semantics.Word.{Name, next, is_true_at}
use Rattle.ltl_spec.specs.Semantics.Language.{AcceptsModels}
use Rattle.ltl_spec.specs.Collections.Lists.{HasNoRepeats}
use Rattle.ltl_spec.specs.Formulas.Formula.{Reading}
use Rattle.ltl_spec.specs.Formulas.Names.{is_proposition}
use Rattle.ltl_spec.specs.NormalForms.Normal.{Normal}
use Rattle.ltl_spec.specs.NormalForms.NormalForm.{core}
use Rattle.ltl_spec.specs.Transitions.Cubes.{is_contradictory}
use Rattle.ltl_spec.specs.Automata.Automaton.{Automaton, State, Edge, Accepts, AcceptedFrom}
use Rattle.ltl_spec.specs.Automata.GeneralizedText.{generalized_text}
use Rattle.ltl_spec.specs.Automata.HoaText.{hoa_text}
use Rattle.ltl_spec.specs.Checking.Bounds.{HasNamesBelow}
use Rattle.ltl_spec.specs.Checking.Check.{graph_of, MarkedAccepts}
use Rattle.ltl_spec.specs.Construction.ImpliedEdges.{IsSetEdge}
use Rattle.ltl_spec.specs.Hoa.HoaPrinted as generalized
use Rattle.ltl_spec.specs.Hoa.HoaReading.{stated_form}
use Rattle.ltl_spec.specs.Tools.Limits.{stated_limits}
use Rattle.ltl_spec.proofs.Automata.ListedStates.{any_state}
use Rattle.ltl_spec.proofs.Checking.BelowLaws.{named_below}
use Rattle.ltl_spec.proofs.Checking.GeneralizedRead.{marked_accepts}
use Rattle.ltl_spec.proofs.Collections.ListLaws.{Has-at, All-at_has, All-from_has}
use Rattle.ltl_spec.proofs.Hoa.GeneralizedBack.{stated_usual}
use Rattle.ltl_spec.proofs.Hoa.HoaLaws.{one_automaton}
use Rattle.ltl_spec.proofs.Semantics.LeavingEdges.{leaving, leaving_state, leaving_accepts}
use Rattle.ltl_syntax.specs.FormulaView.{FormulaView, IsFormula, reading_of}
use Rattle.ltl_models.specs.GbaView as gba
use Rattle.ltl_models.specs.BaView.{IsBa}
use Rattle.ltl_models.specs.Named.{HasNamesOf}
use Rattle.ltl_hoa.specs.declared.marked.TheConstants.{MOST_SETS}
use Rattle.ltl_hoa.specs.Printed.{IsPrintedEdge, IsPrinted, marked_edge, marked_of}
use Rattle.ltl_hoa.proofs.PrintedLaws.{printed_reads, answered_back, generalized_printed, generalized_answered}
use Rattle.ltl_text.specs.NamedText.{named_text}
use Rattle.ltl_text.specs.ReadBack.{ReadsAlike, ReadsAtAnyLength, ReadsBack, ReadsModels}
use Rattle.ltl_text.proofs.NamedLaws.{named_reads, some_reading}

-- what the edges of all states have, each edge has
pub each : (P : Edge → Type 0) (ss : List State) → All (λ s. All P s.edges) ss → (s : State) → Has ss s → (e : Edge) → Has s.edges e → P e
each P ss all s h e m = All-at_has P s.edges (All-at_has (λ (r : State). All P r.edges) ss all s h) e m

-- where what is read accepts the same words as an automaton, it accepts the models that the automaton accepts
models_alike : (text : List ℕ) (R : Reading) (B : Automaton) → ReadsAlike text R.names B → AcceptsModels B R.formula → ReadsModels text R
models_alike text R B alike models M r w cycles =
    let (to, from) = alike M r w in
    let (holds, accepts) = models R.names w cycles in
    ((λ h. holds (to h)), λ h. from (accepts h))

-- ---- Büchi automata

module _ (B : Automaton) (f : FormulaView) (ba : IsBa B) (formula : IsFormula f.nodes f.names) (named : HasNamesBelow (length f.names) B) where
  ba_printed : IsPrinted B (reading_of f)
  ba_printed = record {
    some = ba.some;
    few_states = ba.few_states;
    few_edges = ba.few_edges;
    few_names = formula.few;
    propositions = formula.propositions;
    differ = formula.distinct;
    within = λ k d l. let s = slice_index_or B.states k d in
        let h = Has-at B.states k d l in
        All-from_has (IsPrintedEdge (length f.names) (length B.states)) s.edges (λ e m.
        let n = subst (λ (r : State). Has r.edges e) (any_state B.states k d l) m in
        record {
          rising = (each IsSetEdge B.states ba.sets s h e m).cube;
          consistent = each (λ (x : Edge). is_contradictory x.cube ≡ false) B.states ba.consistent s h e m;
          named = All-from_has (λ j. j.proposition < length f.names) e.cube (named k e n);
          target = each (λ (x : Edge). x.target < length B.states) B.states ba.within s h e m;
        });
  }

  pub hoa_back : ReadsBack (hoa_text B (reading_of f)) (marked_of B f.names)
  hoa_back l = (printed_reads B (reading_of f) ba_printed l, λ answer a. answered_back B (reading_of f) answer ba_printed l a)

  -- the sets that are read are those of the edges that leave accepting states
  marked_graph : graph_of (marked_of B f.names) ≡ leaving B
  marked_graph = ap (λ ss. let A : Automaton = record { sets = 1; states = ss } in A) (over B.states)
    where
      over : (ss : List State) → map (λ es. let t : State = record { accepting = true; edges = es } in t) (map (λ (s : State). map (marked_edge s.accepting) s.edges) ss) ≡ map leaving_state ss
      over [] = refl
      over (s ∷ ss) = ap (λ ts. leaving_state s ∷ ts) (over ss)

  pub hoa_alike : ReadsAlike (hoa_text B (reading_of f)) f.names B
  hoa_alike M r w =
      let text = hoa_text B (reading_of f) in
      let same : M ≡ marked_of B f.names = one_automaton stated_limits stated_form text M (marked_of B f.names) r (printed_reads B (reading_of f) ba_printed r.within.bytes) in
      subst (λ N. MarkedAccepts N w ↔ Accepts f.names B w) (sym same)
      (subst (λ G. AcceptedFrom 0 G (is_true_at f.names w) (next w) ↔ Accepts f.names B w) (sym marked_graph) (leaving_accepts B (is_true_at f.names w) (next w) ba.no_sets 0))

  pub hoa_models : AcceptsModels B (reading_of f).formula → ReadsModels (hoa_text B (reading_of f)) (reading_of f)
  hoa_models = models_alike (hoa_text B (reading_of f)) (reading_of f) B hoa_alike

-- ---- generalized automata

-- an automaton with names that are different propositions, not too many
module _ (A : Automaton) (R : Reading) (gen : gba.IsAcceptingGba A) (named : HasNamesBelow (length R.names) A) (few : A.sets ≤ MOST_SETS) where
  pub generalized_fine : length R.names ≤ stated_limits.propositions → IsTrue (list_all is_proposition R.names) → HasNoRepeats R.names → generalized.IsPrinted stated_limits MOST_SETS A R
  generalized_fine few_names propositions differ = record {
    some = gen.inside.some;
    few_states = gen.inside.few_states;
    few_edges = gen.inside.few_edges;
    few_sets = few;
    few_names = few_names;
    propositions = propositions;
    differ = differ;
    within = λ k d l. let s = slice_index_or A.states k d in
        let h = Has-at A.states k d l in
        All-from_has (generalized.IsPrintedEdge (length R.names) (length A.states) A.sets) s.edges (λ e m.
        let n = subst (λ (r : State). Has r.edges e) (any_state A.states k d l) m in
        let edge = each (gba.IsEdgeWithin (length A.states) A.sets) A.states gen.inside.within s h e m in
        record {
          rising = edge.rising.cube;
          consistent = edge.consistent;
          named = All-from_has (λ j. j.proposition < length R.names) e.cube (named k e n);
          target = edge.target;
          marks = edge.rising.marks;
          inside = edge.marks;
        });
  }

module _ (A : Automaton) (f : FormulaView) (gen : gba.IsAcceptingGba A) (formula : IsFormula f.nodes f.names) (named : HasNamesBelow (length f.names) A) (few : A.sets ≤ MOST_SETS) where
  gen_printed : generalized.IsPrinted stated_limits MOST_SETS A (reading_of f)
  gen_printed = generalized_fine A (reading_of f) gen named few formula.few formula.propositions formula.distinct

  pub generalized_back : ReadsBack (generalized_text A (reading_of f)) (generalized.marked_of A f.names)
  generalized_back l = (generalized_printed A (reading_of f) gen_printed l, λ answer a. generalized_answered A (reading_of f) answer gen_printed l a)

  pub generalized_alike : ReadsAlike (generalized_text A (reading_of f)) f.names A
  generalized_alike M r w =
      let text = generalized_text A (reading_of f) in
      let read = generalized_printed A (reading_of f) gen_printed r.within.bytes in
      let same : M ≡ generalized.marked_of A f.names = one_automaton stated_limits stated_form text M (generalized.marked_of A f.names) r read in
      subst (λ N. MarkedAccepts N w ↔ Accepts f.names A w) (sym same)
      (marked_accepts A f.names (λ s h. All-at_has (λ (r : State). r.accepting ≡ true) A.states gen.accepting s h) w)

  pub generalized_models : AcceptsModels A (reading_of f).formula → ReadsModels (generalized_text A (reading_of f)) (reading_of f)
  generalized_models = models_alike (generalized_text A (reading_of f)) (reading_of f) A generalized_alike

-- the text with names alone
pub named_back : (A : Automaton) (names : List Name) → gba.IsAcceptingGba A → HasNamesBelow (length names) A → A.sets ≤ MOST_SETS → length names ≤ stated_limits.propositions → IsTrue (list_all is_proposition names)
    → HasNoRepeats names → ReadsAtAnyLength (named_text A names) (generalized.marked_of A names)
named_back A names gen named few few_names propositions differ =
    named_reads A names stated_limits MOST_SETS stated_usual (generalized_fine A (some_reading names) gen named few few_names propositions differ)

-- ---- names

pub names_below : (f : FormulaView) → IsFormula f.nodes f.names → (N : Normal) (negate rewrite : Bool) (B : Automaton) → N ≡ core (reading_of f).formula negate rewrite → HasNamesOf N B
    → HasNamesBelow (length f.names) B
names_below f formula N negate rewrite B e names =
    names (length f.names) (reading_of f).formula negate rewrite (named_below (reading_of f) formula.named) e
