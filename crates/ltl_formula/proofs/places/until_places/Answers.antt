use Rattle.std.proofs.Common.{◌≡◌, ◌++◌, ◌∷◌, [], sym, ◌∙◌}
use Rattle.ltl_formula.specs.TableView.{is_until_row}
use Rattle.ltl_formula.proofs.PlacesLemmas.{places_keep, places_skip}
use Rattle.ltl_formula.proofs.places.until_places.Goals as goal
use Rattle.ltl_formula.proofs.places.until_places.Goals.{then-is_until+in_ok-push, else-is_until}

pub places-preserved : goal.places-preserved
places-preserved g c = elim c.if-is_until.branch [
  | then-is_until+in_ok-push w ↦
      let e : c.if-is_until.places.items ≡ c.places.places.items ++ c.places.place ∷ [] = (let p = w.places-is in let q = w.in_ok-push.ensures.ok in cc) in
      places_keep (λ _ r. is_until_row r) c.places.place c.args.rows.now _ c.places.places.items _ _ c.places-test.true (sym c.is_until.ensures ∙ w.if-is_until.true) e c.places.invariant
  | else-is_until w ↦
      let e : c.if-is_until.places.items ≡ c.places.places.items = (let p = w.places-is in cc) in
      places_skip (λ _ r. is_until_row r) c.places.place c.args.rows.now _ c.places.places.items _ _ c.places-test.true (sym c.is_until.ensures ∙ w.if-is_until.false) e c.places.invariant
]
