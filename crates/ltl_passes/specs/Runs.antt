-- Runs of edges with one target, and their minimal edges.
use Rattle.std.specs.Prelude.{◌≡◌, ℕ, ◌+◌, ◌-◌, ◌<◌, ◌≤◌, ◌⊎◌, Bool, true, false, not, cond, nat_eq, ◌&&◌, List, [], All, length, map, slice_index_or}
use Rattle.std.specs.List.{filter, list_any}
use Rattle.std.specs.List.Sorted.{IsPermutation, IsNonDecreasingBy}
use Rattle.std.specs.Ordering.{nat_cmp}
use Rattle.std.proofs.Common.{ap, refl, subst, sym}
use Rattle.ltl_spec.specs.Collections.Sets.{Has, has, is_subset}
use Rattle.ltl_spec.specs.Transitions.Cubes.{Cube, Literal, literal_cmp}
use Rattle.ltl_spec.specs.Automata.Automaton.{Edge}
use Rattle.ltl_spec.specs.Construction.ImpliedEdges.{IsSetEdge, implies_other}
use Rattle.ltl_spec.specs.Construction.Merging.{same_edge}
use Rattle.ltl_spec.proofs.Collections.CaseLaws.{left_true, right_true}
use Rattle.ltl_spec.proofs.Collections.Orders.{nat_linear, literal_linear}
use Rattle.ltl_spec.proofs.Collections.MemberLaws.{Has-map, map_cases}
use Rattle.ltl_spec.proofs.Collections.SetLaws.{Has-filter, filter_cases, has_Decides, is_subset_Decides}
use Rattle.ltl_sets.specs.Words.{forbidden_of, letter_of}
use Rattle.ltl_sets.specs.declared.row_set.TheConstants.RowSet.{LIMIT}
use Rattle.ltl_automaton.specs.EdgeView.{edge_of}
use Rattle.ltl_automaton.specs.CodedEdges.{labelled_edge_of}
use Rattle.ltl_automaton.specs.declared.coded_edge.CodedEdge as coded
use Rattle.ltl_passes.specs.declared.implied.RunEdge as made
use Rattle.ltl_automaton.specs.declared.labels.Labels as slices

abbrev pub run_edge : made.RunEdge → Edge
run_edge k = edge_of k.edge

abbrev pub target_of : made.RunEdge → ℕ
target_of k = k.edge.target

abbrev pub code_of : made.RunEdge → coded.CodedEdge
code_of k = k.coded

-- these are the edges sorted by target, each with its labels
pub record IsByTarget (l : slices.Labels) (es : List coded.CodedEdge) (ks : List made.RunEdge) : Type 0 where
  pub moved : IsPermutation es (map code_of ks)
  pub labelled : All (λ k. run_edge k ≡ labelled_edge_of l (code_of k)) ks
  pub sorted : IsNonDecreasingBy target_of ks

-- all edges lead to this target
abbrev pub AllLeadTo : ℕ → List made.RunEdge → Type 0
AllLeadTo t ks = All (λ k. target_of k ≡ t) ks

-- the number of the edge's literals and of sets that it isn't in; its literals and marks are sets
pub record IsOfWeight (w : ℕ) (e : Edge) : Type 0 where
  pub weight : w ≡ length e.cube + (LIMIT - length e.marks)
  pub sets : IsSetEdge e
  pub few : length e.marks ≤ LIMIT

abbrev pub edge_at : List coded.CodedEdge → ℕ → coded.CodedEdge
edge_at es k = slice_index_or es k (record { cube = 0; marks = 0; target = 0 })

abbrev pub target_at : List coded.CodedEdge → ℕ → ℕ
target_at es k = (edge_at es k).target

-- the edge at index f has the target of the one at index k; f is the noted index if the edge there has it too
pub record IsFirstLike (es : List coded.CodedEdge) (k noted f : ℕ) : Type 0 where
  pub low : f ≤ k
  pub same : target_at es f ≡ target_at es k
  pub stays : noted < k → target_at es noted ≡ target_at es k → f ≡ noted

-- the indices are equal, or the edges have the same weight
abbrev pub IsWeighedLike : slices.Labels → List coded.CodedEdge → ℕ → ℕ → Type 0
IsWeighedLike l es f k = (f ≡ k) ⊎ ((w : ℕ) × IsOfWeight w (labelled_edge_of l (edge_at es f)) × IsOfWeight w (labelled_edge_of l (edge_at es k)))

-- no other edge of the list implies this one
abbrev pub is_left : List Edge → Edge → Bool
is_left es e = not (list_any (λ f. implies_other f e) es)

-- those of a run that no other one implies
abbrev pub left_of : List made.RunEdge → List made.RunEdge
left_of ks = filter (λ k. is_left (map run_edge ks) (run_edge k)) ks

-- these are the edges that no other one implies, sorted by target only
pub record IsKept (l : slices.Labels) (es left : List coded.CodedEdge) : Type 0 where
  pub order : List made.RunEdge
  pub by_target : IsByTarget l es order
  pub kept : left ≡ map code_of (filter (λ k. is_left (map (labelled_edge_of l) es) (run_edge k)) order)

-- if both edges have one target, k implies l
abbrev pub is_below : made.RunEdge → made.RunEdge → Bool
is_below k l = is_subset literal_cmp k.edge.cube l.edge.cube && is_subset nat_cmp l.edge.marks k.edge.marks

abbrev pub is_other : made.RunEdge → made.RunEdge → Bool
is_other k l = not (same_edge (run_edge k) (run_edge l))

-- the literals of an edge: of kind 0 the positive ones, of kind 1 the negative ones, by their propositions
abbrev pub elements_needed : made.RunEdge → ℕ → List ℕ
elements_needed k kind = cond (nat_eq kind 0) (letter_of k.edge.cube) (cond (nat_eq kind 1) (forbidden_of k.edge.cube) [])

-- the acceptance sets that the edge is in, as elements of kind 0
abbrev pub elements_asked : made.RunEdge → ℕ → List ℕ
elements_asked k kind = cond (nat_eq kind 0) k.edge.marks []

-- the edge isn't in the acceptance set
abbrev pub is_lacked : made.RunEdge → ℕ → ℕ → Bool
is_lacked k kind e = nat_eq kind 0 && not (has nat_cmp e k.edge.marks)

-- the propositions of those literals of a cube that pass are among those of a larger one
propositions_grow : (p : Literal → Bool) (c d : Cube) (e : ℕ) → ((l : Literal) → Has c l → Has d l)
    → Has (map (λ l. l.proposition) (filter p c)) e → Has (map (λ l. l.proposition) (filter p d)) e
propositions_grow p c d e f h =
    let (l, m, s) = map_cases (λ (l : Literal). l.proposition) (filter p c) e h in
    let (n, t) = filter_cases p c l m in
    subst (λ x. Has (map (λ l. l.proposition) (filter p d)) x) (sym s) (Has-map (λ (l : Literal). l.proposition) (filter p d) l (Has-filter p d l (f l n) t))

by_kind : (b c : Bool) (xs ys zs us : List ℕ) (e : ℕ) → (Has xs e → Has zs e) → (Has ys e → Has us e)
    → Has (cond b xs (cond c ys [])) e → Has (cond b zs (cond c us [])) e
by_kind true c xs ys zs us e f g h = f h
by_kind false true xs ys zs us e f g h = g h
by_kind false false xs ys zs us e f g h = h

pub below_needed : (k l : made.RunEdge) (kind e : ℕ) → is_below k l ≡ true → Has (elements_needed k kind) e → Has (elements_needed l kind) e
below_needed k l kind e b =
    let within = (is_subset_Decides literal_linear k.edge.cube l.edge.cube).0 (left_true _ _ b) in
    by_kind (nat_eq kind 0) (nat_eq kind 1) _ _ _ _ e (propositions_grow (λ m. m.positive) k.edge.cube l.edge.cube e within)
    (propositions_grow (λ m. not m.positive) k.edge.cube l.edge.cube e within)

not_lacked : (b c : Bool) (xs : List ℕ) (e : ℕ) → (Has xs e → c ≡ true) → Has (cond b xs []) e → (b && not c) ≡ false
not_lacked true c xs e f h = ap not (f h)
not_lacked false c xs e f h = refl

pub below_asked : (k l : made.RunEdge) (kind e : ℕ) → is_below k l ≡ true → Has (elements_asked l kind) e → is_lacked k kind e ≡ false
below_asked k l kind e b =
    not_lacked (nat_eq kind 0) (has nat_cmp e k.edge.marks) l.edge.marks e
    (λ h. (has_Decides nat_linear e k.edge.marks).1 ((is_subset_Decides nat_linear l.edge.marks k.edge.marks).0 (right_true _ _ b) e h))
