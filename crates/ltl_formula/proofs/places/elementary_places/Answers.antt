use Rattle.std.proofs.Common.{◌≡◌, ◌++◌, ◌∷◌, [], length, sym, ◌∙◌}
use Rattle.ltl_formula.specs.TableView.{is_elementary_of}
use Rattle.ltl_formula.proofs.PlacesLemmas.{places_keep, places_skip}
use Rattle.ltl_formula.proofs.places.elementary_places.Goals as goal
use Rattle.ltl_formula.proofs.places.elementary_places.Goals.{then-is_elementary_at+in_ok-push, else-is_elementary_at}

pub places-preserved : goal.places-preserved
places-preserved g c = elim c.if-is_elementary_at.branch [
  | then-is_elementary_at+in_ok-push w ↦
      let e : c.if-is_elementary_at.places.items ≡ c.places.places.items ++ c.places.place ∷ [] = (let p = w.places-is in let q = w.in_ok-push.ensures.ok in cc) in
      places_keep (is_elementary_of (length c.args.rows.now)) c.places.place c.args.rows.now _ c.places.places.items _ _ c.places-test.true (sym c.is_elementary_at.ensures ∙ w.if-is_elementary_at.true) e c.places.invariant
  | else-is_elementary_at w ↦
      let e : c.if-is_elementary_at.places.items ≡ c.places.places.items = (let p = w.places-is in cc) in
      places_skip (is_elementary_of (length c.args.rows.now)) c.places.place c.args.rows.now _ c.places.places.items _ _ c.places-test.true (sym c.is_elementary_at.ensures ∙ w.if-is_elementary_at.false) e c.places.invariant
]
