-- An accepting run makes the automaton accept the word.
use Rattle.std.proofs.Common.{◌≢◌, refl, subst, sym, ℕ, inl, List, [], ◌∷◌, map}
use Rattle.std.specs.Prelude.{IsTrue}
use Rattle.ltl_spec.specs.Collections.Sets.{Has}
use Rattle.ltl_spec.specs.Semantics.Word.{Lasso, is_true_at, next}
use Rattle.ltl_spec.specs.Automata.Automaton.{Edge, IsWalk, state_at}
use Rattle.ltl_spec.specs.Hoa.HoaReading.{MarkedAutomaton}
use Rattle.ltl_spec.specs.Checking.Check.{MarkedAccepts, graph_of}
use Rattle.ltl_spec.proofs.Collections.ListLaws.{Has-at}
use Rattle.ltl_spec.proofs.Collections.MemberLaws.{Has-map}
use Rattle.ltl_check.proofs.WordLaws.{all_accept, at_state}
use Rattle.ltl_pictures.specs.declared.pick.Pick.{Pick}
use Rattle.ltl_pictures.specs.Edges.{edges_at}
use Rattle.ltl_pictures.specs.Runs.{IsAcceptingRun, IsRun, edge_of_pick}

module _ (A : MarkedAutomaton) (w : Lasso) where
  abbrev edges : List Pick → List Edge
  edges qs = map (edge_of_pick A w) qs

  -- a run is a walk
  walks : (s i : ℕ) (qs : List Pick) (t j : ℕ) → IsRun A w s i qs t j → IsWalk (graph_of A) (is_true_at A.names w) (next w) s i (edges qs) t j
  walks s i [] t j h = h
  walks s i (q ∷ qs) t j (e, l, met, rest) = (
    subst (λ n. Has (state_at (graph_of A) n).edges (edge_of_pick A w q)) e
        (subst (λ xs. Has xs (edge_of_pick A w q)) (sym (at_state A.edges q.state)) (Has-at (edges_at A q.state) q.place (record { cube = []; target = 0; marks = [] }) l)),
    met,
    walks (edge_of_pick A w q).target (next w i) qs t j rest,
  )

  moved : (qs : List Pick) → qs ≢ [] → edges qs ≢ []
  moved [] f e = f refl
  moved (q ∷ qs) f e = cc

  accepts : (qs : List Pick) → qs ≢ [] → (e : Edge) × Has (edges qs) e × IsTrue (state_at (graph_of A) e.target).accepting
  accepts [] f = absurd (f refl)
  accepts (q ∷ qs) f = (edge_of_pick A w q, inl refl, all_accept A.edges (edge_of_pick A w q).target)

  pub run_accepts : (run : List Pick) → IsAcceptingRun A w run → MarkedAccepts A w
  run_accepts run h = record {
    state = h.state;
    position = h.position;
    stem = edges h.prefix;
    cycle = edges h.cycle;
    arrives = walks A.start 0 h.prefix h.state h.position h.arrives;
    cycles = record {
      closes = walks h.state h.position h.cycle h.state h.position h.cycles;
      moves = moved h.cycle h.moves;
      accepts = accepts h.cycle h.moves;
      marks = λ k l. let (q, m, o) = h.marks k l in (edge_of_pick A w q, Has-map (edge_of_pick A w) h.cycle q m, o);
    };
  }
