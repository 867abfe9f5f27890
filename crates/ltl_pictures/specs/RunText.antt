-- The text of a drawing of an automaton with a run in red.
use Rattle.std.specs.Prelude.{ℕ, ◌<◌, ◌↔◌, ◌&&◌, ◌==◌, Bool, IsTrue, List, [], length, codes, Option, Some, None}
use Rattle.std.specs.List.{list_any, range_with_len}
use Rattle.ltl_spec.specs.Collections.Sets.{Has}
use Rattle.ltl_spec.specs.Hoa.HoaNames.{HoaNames}
use Rattle.ltl_spec.specs.Hoa.HoaReading.{MarkedAutomaton}
use Rattle.ltl_pictures.specs.Drawn.{AreDrawn}
use Rattle.ltl_pictures.specs.declared.pick.Pick.{Pick}
use Rattle.ltl_pictures.specs.NamedAutomaton.{NamedAutomaton}
use Rattle.ltl_pictures.specs.Picture.{Arrow, arrows, edges_at}
use Rattle.ltl_pictures.specs.DotText.{picture_text}

-- an automaton with its names and the edges of a run, or none if there is no accepting run
pub record RunPicture : Type 0 where
  pub automaton : MarkedAutomaton
  pub names : HoaNames
  pub run : Option (List Pick)

abbrev pub named_of : RunPicture → NamedAutomaton
named_of P = record { automaton = P.automaton; names = P.names }

abbrev pub picks_in : Option (List Pick) → List Pick
picks_in None = []
picks_in (Some picks) = picks

-- the edge of state k with this index is picked
abbrev pub is_picked : List Pick → ℕ → ℕ → Bool
is_picked picks k place = list_any (λ q. q.state == k && q.place == place) picks

-- the note below the name of the acceptance condition
abbrev pub note_of : Option (List Pick) → List ℕ
note_of None = codes "\\nno run on this word is accepting"
note_of (Some picks) = []

-- the whole text
abbrev pub run_text : RunPicture → List ℕ
run_text P = picture_text (named_of P) (is_picked (picks_in P.run)) (note_of P.run)

-- The arrows from a state represent each of its edges once. An edge is in red if and only if it is picked; an arrow, if and only if one of its edges is; the
-- state, if and only if one of all its edges is
pub record AreShown (picks : List Pick) (A : MarkedAutomaton) (k : ℕ) : Type 0 where
  pub drawn : AreDrawn k (edges_at A k)
  pub edge : (p : ℕ) → IsTrue (is_picked picks k p) ↔ Has picks (record { state = k; place = p })
  pub arrow : (a : Arrow) → Has (arrows k (edges_at A k)) a
      → IsTrue (list_any (is_picked picks k) a.places) ↔ ((p : ℕ) × Has a.places p × Has picks (record { state = k; place = p }))
  pub state : IsTrue (list_any (is_picked picks k) (range_with_len 0 (length (edges_at A k)))) ↔ ((p : ℕ) × (p < length (edges_at A k)) × Has picks (record { state = k; place = p }))
