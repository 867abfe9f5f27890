-- The edges of the code at their places.
use Rattle.std.proofs.Common.{◌≡◌, ◌∙◌, ap, ap₂, sym, subst, ℕ, ◌<◌, false, List, [], ◌∷◌, ◌++◌, length, map, slice_index_or, append_assoc, Bool}
use Rattle.std.specs.Prelude.{◌==◌}
use Rattle.ltl_spec.specs.Semantics.Word.{Name}
use Rattle.ltl_spec.specs.Transitions.Cubes.{Cube, Literal}
use Rattle.ltl_spec.specs.Automata.Automaton as spec
use Rattle.ltl_spec.specs.Hoa.HoaReading.{MarkedAutomaton}
use Rattle.ltl_spec.proofs.Collections.ListLaws.{All-at_has}
use Rattle.ltl_spec.proofs.Collections.MemberLaws.{at_map, map_length}
use Rattle.ltl_hoa.specs.declared.marked.MarkedEdge.{MarkedEdge}
use Rattle.ltl_hoa.specs.MarkedView.{HasPropositionsBelow, IsMarked, edge_of}
use Rattle.ltl_models.specs.BaView.{target_at}
use Rattle.ltl_text.specs.Names.{HasNames}
use Rattle.ltl_text.specs.Options.{edge_at}
use Rattle.ltl_text.proofs.BlockLaws.{unequal}
use Rattle.ltl_text.proofs.TextLaws.{joined_led, led}
use Rattle.ltl_pictures.specs.Drawn.{AreNamed}
use Rattle.ltl_pictures.specs.Picture.{edges_at}
use Rattle.ltl_pictures.specs.DotText.{edge_text, part_text}
use Rattle.ltl_pictures.specs.Pieces.{parts_text, place_text}

there : (es : List MarkedEdge) (p : ℕ) (d : MarkedEdge) → p < length es → edge_at (map edge_of es) p ≡ edge_of (slice_index_or es p d)
there es p d within = at_map edge_of es p d (record { cube = []; target = 0; marks = [] }) within

pub target_there : (es : List MarkedEdge) (p : ℕ) (d : MarkedEdge) → p < length es → target_at (map edge_of es) p ≡ (slice_index_or es p d).target
target_there es p d within = ap (λ (x : spec.Edge). x.target) (there es p d within)

-- the edge that was read leads elsewhere
pub other_is : (es : List MarkedEdge) (p : ℕ) (e : MarkedEdge) → p < length es → e ≡ slice_index_or es p e → (t : ℕ) → ((slice_index_or es p e).target ≡ t → ⊥) → (target_at (map edge_of es) p == t) ≡ false
other_is es p e within is t h = unequal (target_at (map edge_of es) p) t (λ k. h (sym (target_there es p e within) ∙ k))

pub has_names : (n : ℕ) (c : Cube) → HasPropositionsBelow n c → HasNames n c
has_names n c all l h = All-at_has (λ (x : Literal). x.proposition < n) c all l h

named_there : (n : ℕ) (es : List MarkedEdge) (p : ℕ) (d : MarkedEdge) → AreNamed n (map edge_of es) → p < length es → HasPropositionsBelow n (slice_index_or es p d).cube
named_there n es p d named within =
    subst (λ (x : spec.Edge). HasPropositionsBelow n x.cube) (there es p d within)
    (named p (record { cube = []; target = 0; marks = [] }) (subst (λ m. p < m) (sym (map_length edge_of es)) within))

-- the edge that was read
pub edge_is : (es : List MarkedEdge) (p : ℕ) (e : MarkedEdge) → p < length es → e ≡ slice_index_or es p e → edge_at (map edge_of es) p ≡ edge_of e
edge_is es p e within is = there es p e within ∙ ap edge_of (sym is)

pub named_is : (n : ℕ) (es : List MarkedEdge) (p : ℕ) (e : MarkedEdge) → AreNamed n (map edge_of es) → p < length es → e ≡ slice_index_or es p e → HasPropositionsBelow n e.cube
named_is n es p e named within is = subst (λ (x : MarkedEdge). HasPropositionsBelow n x.cube) (sym is) (named_there n es p e named within)

-- the edges of a state are named
pub state_named : (A : MarkedAutomaton) (k n : ℕ) (es : List spec.Edge) → IsMarked A → k < A.states → n ≡ length A.names → es ≡ edges_at A k → AreNamed n es
state_named A k n es marked lt e f =
    subst (λ m. AreNamed m es) (sym e) (subst (AreNamed (length A.names)) (sym f)
    (λ i d l. (marked.within k [] (subst (λ m. k < m) (sym marked.counted) lt) i d l).cube))

-- ---- the parts of a label
module _ (names : List Name) (shown : Bool) (taken : ℕ → Bool) (es : List spec.Edge) (red : Bool) (between : List ℕ) where
  abbrev pub parts_of : List ℕ → List (List ℕ)
  parts_of ps = map (place_text names shown taken es red) ps

  pub parts_begin : (e : spec.Edge) (flag : Bool) (p : ℕ) (others places : List ℕ) → places ≡ p ∷ others → edge_at es p ≡ e → flag ≡ taken p
      → parts_text names shown taken es red between places ≡ part_text flag (edge_text names shown red e) ++ led between (parts_of others)
  parts_begin e flag p others places f is t =
      ap (parts_text names shown taken es red between) f ∙ joined_led between (place_text names shown taken es red p) (parts_of others)
      ∙ ap₂ (λ (b : Bool) x. part_text b (edge_text names shown red x) ++ led between (parts_of others)) (sym t) is

  pub parts_go_on : (e : spec.Edge) (flag : Bool) (p : ℕ) (ps rest : List ℕ) → rest ≡ p ∷ ps → edge_at es p ≡ e → flag ≡ taken p
      → led between (parts_of rest) ≡ between ++ (part_text flag (edge_text names shown red e) ++ led between (parts_of ps))
  parts_go_on e flag p ps rest f is t =
      ap (λ t. led between (parts_of t)) f ∙ append_assoc between (place_text names shown taken es red p) (led between (parts_of ps))
      ∙ ap₂ (λ (b : Bool) x. between ++ (part_text b (edge_text names shown red x) ++ led between (parts_of ps))) (sym t) is
