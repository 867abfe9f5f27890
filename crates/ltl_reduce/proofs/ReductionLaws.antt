-- Reductions one after the other.
use Rattle.std.proofs.Common.{◌≤◌, length, refl, ◌∙◌, arith}
use Rattle.ltl_spec.specs.Automata.Automaton.{Automaton}
use Rattle.ltl_reduce.specs.Build.{IsBuiltFrom}
use Rattle.ltl_reduce.specs.Reduction.{AcceptsSame, IsReductionOf, edge_count}

-- an automaton is a reduction of itself
pub reduction_self : (A : Automaton) → IsReductionOf A 0 A
reduction_self A = record {
  same = λ names w l. ((λ h. h), λ h. h);
  sets = refl;
  states = omega arith;
  edges = omega arith;
  names = λ n h. h;
}

-- a reduction of a reduction is one
pub reduction_on : (A B C : Automaton) → IsReductionOf A 0 B → IsReductionOf B 0 C → IsReductionOf A 0 C
reduction_on A B C p q = record {
  same = λ names w l. let (to, from) = p.same names w l in let (on, back) = q.same names w l in ((λ h. on (to h)), λ h. from (back h));
  sets = q.sets ∙ p.sets;
  states = let h : length B.states ≤ length A.states = p.states in let k : length C.states ≤ length B.states = q.states in omega arith;
  edges = let h : edge_count B ≤ edge_count A = p.edges in let k : edge_count C ≤ edge_count B = q.edges in omega arith;
  names = λ n h. q.names n (p.names n h);
}

-- an automaton that was built and accepts the same is one
pub reduction_built : (A B : Automaton) → IsBuiltFrom A B → AcceptsSame A 0 B → IsReductionOf A 0 B
reduction_built A B b same = record { same = same; sets = b.sets; states = b.states; edges = b.edges; names = b.names }
