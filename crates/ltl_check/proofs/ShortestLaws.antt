-- The shortest lasso, from what the breadth-first searches say.
use Rattle.std.proofs.Common.{◌≡◌, ℕ, ◌+◌, ◌-◌, ◌<◌, ◌≤◌, ◌^◌, ◌⊎◌, List, length, Option, Some, inl, inr, ap, subst, arith, [], ◌∷◌, sym, ◌∙◌, get_or, refl}
use Rattle.std.specs.Prelude.{IfSome}
use Rattle.std.proofs.lemmas.Bool.{eq-eqb}
use Rattle.ltl_check.specs.declared.walk.Taken.{Taken}
use Rattle.ltl_check.specs.declared.walk.Walk.{Walk}
use Rattle.ltl_check.specs.declared.place.Place.{Place}
use Rattle.ltl_check.specs.declared.place.Arrival.{Arrival}
use Rattle.ltl_check.specs.declared.breadth.Task.{Task}
use Rattle.ltl_check.specs.declared.place.Bases.TheVariants.{Every, One}
use Rattle.ltl_check.specs.declared.shortest.Shorter.{Shorter}
use Rattle.ltl_check.specs.declared.shortest.Shorter.TheVariants.{Found, Nothing, Spent}
use Rattle.ltl_check.specs.Places.{is_base}
use Rattle.ltl_check.specs.Nets.{Net}
use Rattle.ltl_check.specs.Levels.{IsFullWalk}
use Rattle.ltl_check.specs.Explored.{IsGrown, counted}
use Rattle.ltl_check.specs.Looks.{LooksAtMost}
use Rattle.ltl_check.specs.Shortened.{edges_of, IsFewest, IsShorter, HasSearched, IsShortestThere, IsShortened, IsShortenedThere}
use Rattle.ltl_check.specs.Breadth.{IsLayer, HasClosed, IsPaid}
use Rattle.ltl_check.proofs.BreadthLaws.{none_nearer, layer_none}
use Rattle.ltl_check.proofs.Costs.{grown_one, grown_then}

-- ---- looks
pub paid_one : (old new most mid later before : ℕ) → IsPaid old mid before most → later + 1 ≡ most → new ≡ counted mid 1 → IsPaid old new before later
paid_one old new most mid later before p e g =
    let l = p.0 in
    let h = grown_one old mid (before - most) new p.1 g in
    let d : (before - most) + 1 ≡ before - later = omega arith in
    (omega arith, subst (IsGrown old new) d h)

pub paid_then : (old mid new before between after : ℕ) → IsPaid old mid before between → IsPaid mid new between after → IsPaid old new before after
paid_then old mid new before between after p q =
    let l = p.0 in
    let m = q.0 in
    let d : (before - between) + (between - after) ≡ before - after = omega arith in
    (omega arith, subst (IsGrown old new) d (grown_then old mid (before - between) new (between - after) p.1 q.1))

-- the count began at 0
pub counted_most : (before after most : ℕ) → before ≡ 0 → LooksAtMost before after most → after ≤ most
counted_most before after most z m = by m.1
  where
    by : IsGrown before after m.0 → after ≤ most
    by (inl h) = let e = h.0 in let f = h.1 in let l = m.2 in omega arith
    by (inr h) = let f = h in let l = m.2 in omega arith

pub counted_below : (before after c most : ℕ) → most ≤ 2 ^ 64 → IsGrown before after c → after < most → c < most
counted_below before after c most small (inl h) less = let e = h.0 in omega arith
counted_below before after c most small (inr h) less = let f = h in omega arith

-- ---- one search
module _ (N : Net) (task : Task) (ps : List Place) (hs : List Arrival) where
  pub fewest_closed : (depth i limit : ℕ) → HasClosed N task.bases task.sets ps hs depth i → depth + 1 < limit → (stem cycle : List Taken) → IsFullWalk N task.sets stem cycle × (length stem + length cycle ≤ depth + 1)
      → IsFullWalk N task.sets stem cycle × (length stem + length cycle < limit) × IsFewest N task (length stem + length cycle)
  fewest_closed depth i limit h few stem cycle w =
      let l = w.1 in
      (w.0, omega arith, λ us vs f b. let m = none_nearer N task.sets task.bases depth h.least us vs f b in omega arith)

  pub fewest_none : (at end depth limit : ℕ) → IsLayer N task.bases task.sets ps hs at end depth → limit ≤ depth + 1 → IsFewest N task limit
  fewest_none at end depth limit x few us vs f b = let m = none_nearer N task.sets task.bases depth (layer_none N task.bases task.sets ps hs at end depth x) us vs f b in omega arith

-- ---- what is returned
-- all lassos were searched
module _ {A : Type 0} (Ended : Type 0) (N M : Net) (task : Task) (sets limit most more old new : ℕ) (before : Walk A) (r : Shorter A) where
  pub shortened_found : (after : Walk A) → N ≡ M → sets ≡ task.sets → task.bases ≡ Every → limit ≡ edges_of before → r ≡ Found after → IsShorter M task limit r → HasSearched old new most Ended
      → IsShortened N sets before after most more old new
  shortened_found after n s b l e f h =
      let w : IsShorter M task limit (Found after) = subst (IsShorter M task limit) e f in
      rw (n, s) (
        w.0,
        (let m = w.1 in omega arith),
        (h.0, h.1, λ few. (w.0, λ us vs x. w.2 us vs x (ap (λ c. is_base c x.end) b)), λ few k us vs x there. w.2 us vs x (ap (λ c. is_base c x.end) b)),
      )

  pub shortened_stays : N ≡ M → sets ≡ task.sets → task.bases ≡ Every → limit ≡ edges_of before → r ≡ Nothing → IsShorter M task limit r → HasSearched old new most Ended
      → IsFullWalk N sets before.stem.items before.cycle.items → IsShortened N sets before before most more old new
  shortened_stays n s b l e f h =
      let w : IsShorter {A = A} M task limit Nothing = subst (IsShorter M task limit) e f in
      rw (n, s) (λ full. (
        full,
        omega arith,
        (
          h.0,
          h.1,
          λ few. (full, λ us vs x. let m = w us vs x (ap (λ c. is_base c x.end) b) in omega arith),
          λ few k us vs x there. let m = w us vs x (ap (λ c. is_base c x.end) b) in omega arith,
        ),
      ))

-- the cycle begins in the state that its first step leaves
begins : (N : Net) (sets : ℕ) (stem cycle : List Taken) (t : Taken) → t ≡ get_or cycle 0 t → (k : IsFullWalk N sets stem cycle) → t.state ≡ k.end
begins N sets stem [] t e k = absurd (k.moves refl)
begins N sets stem (u ∷ us) t e k = ap (λ (v : Taken). v.state) e ∙ k.cycles.0

-- the searches for a lasso that isn't longer, and then among the cycles that begin in one state
module _ {A : Type 0} (Later : Type 0) (N : Net) (task : Task) (before short : Walk A) (most old new limit : ℕ) (h : HasSearched old new most Later) (l : limit ≡ edges_of short) (few : edges_of short ≤ edges_of before)
    (t : Taken) (b : task.bases ≡ One t.state) (head : t ≡ get_or before.cycle.items 0 t) (r : Shorter A) (f : IsShorter N task limit r) where
  there : (us vs : List Taken) (n : ℕ) → IsFewest N task n → (k : IsFullWalk N task.sets before.stem.items before.cycle.items) (x : IsFullWalk N task.sets us vs) → x.end ≡ k.end → n ≤ length us + length vs
  there us vs n w k x e = w us vs x (ap (λ c. is_base c x.end) b ∙ eq-eqb t.state x.end (begins N task.sets before.stem.items before.cycle.items t head k ∙ sym e))

  pub there_found : (after : Walk A) → r ≡ Found after → IsShortenedThere N task.sets before after most old new
  there_found after e =
      let w : IsShorter N task limit (Found after) = subst (IsShorter N task limit) e f in
      (w.0, (let m = w.1 in omega arith), (h.0, h.1, h.2, λ less k us vs x d. there us vs (edges_of after) w.2 k x d))

  pub there_stays : ((after : Walk A) → r ≡ Found after → ⊥) → (r ≡ Spent → Later) → IsFullWalk N task.sets short.stem.items short.cycle.items → IsShortenedThere N task.sets before short most old new
  there_stays none told w = (w, few, (h.0, h.1, h.2, by r refl))
    where
      by : (q : Shorter A) → r ≡ q → h.0 < most → IsShortestThere N task.sets before short
      by (Found after) e less = absurd (none after e)
      by Nothing e less =
          let v : IsShorter {A = A} N task limit Nothing = subst (IsShorter N task limit) e f in
          λ k us vs x d. let m = there us vs limit v k x d in omega arith
      by Spent e less = absurd (let c = h.3 (told e) in omega arith)

-- the looks of a plan, of a path that follows it, and of a search that may make as many as are left
pub looks_there : (Later : Type 0) (old first second new most planning spared start left : ℕ) → IsPaid old first planning spared → planning ≤ most → start ≡ (most - planning) + spared → IsPaid first second start left
    → HasSearched second new left Later → HasSearched old new most Later
looks_there Later old first second new most planning spared start left p few e q h =
    let a = p.0 in
    let b = q.0 in
    let c = h.2 in (
      ((planning - spared) + (start - left)) + h.0,
      grown_then old second ((planning - spared) + (start - left)) new h.0 (grown_then old first (planning - spared) second (start - left) p.1 q.1) h.1,
      omega arith,
      λ last. let d = h.3 last in omega arith,
    )

pub paths_most : (old first new most planning spared start left : ℕ) → IsPaid old first planning spared → planning ≤ most → start ≡ (most - planning) + spared → IsPaid first new start left → LooksAtMost old new most
paths_most old first new most planning spared start left p few e q =
    let a = p.0 in
    let b = q.0 in
    ((planning - spared) + (start - left), grown_then old first (planning - spared) new (start - left) p.1 q.1, omega arith)

pub searched_most : (Later : Type 0) (old new most : ℕ) → HasSearched old new most Later → LooksAtMost old new most
searched_most Later old new most h = (h.0, h.1, h.2)

pub most_then : (Ended : Type 0) (old mid new most more : ℕ) → HasSearched old mid most Ended → LooksAtMost mid new more → LooksAtMost old new (most + more)
most_then Ended old mid new most more h k =
    let l = h.2 in
    let m = k.2 in
    (h.0 + k.0, grown_then old mid h.0 new k.0 h.1 k.1, omega arith)

-- one of two lassos
pub short_full : {A : Type 0} (N : Net) (sets : ℕ) (first r : Walk A) (second : Option (Walk A)) → (r ≡ first) ⊎ (second ≡ Some r) → IsFullWalk N sets first.stem.items first.cycle.items
    → IfSome second (λ w. IsFullWalk N sets w.stem.items w.cycle.items) → IsFullWalk N sets r.stem.items r.cycle.items
short_full N sets first r second (inl e) w v = subst (λ (x : Walk _). IsFullWalk N sets x.stem.items x.cycle.items) (sym e) w
short_full N sets first r second (inr e) w v = subst (λ o. IfSome o (λ x. IsFullWalk N sets x.stem.items x.cycle.items)) e v

-- the search for the shortest lasso had to end
pub shortened_there : {A : Type 0} (Ended : Type 0) (N M : Net) (sets other old mid new most more : ℕ) (before after : Walk A) → N ≡ M → sets ≡ other → Ended → HasSearched old mid most Ended → IsShortenedThere M other before after more mid new
    → IsShortened N sets before after most more old new
shortened_there Ended N M sets other old mid new most more before after n s ended h k =
    rw (n, s) (
      k.0,
      k.1,
      (
        h.0 + k.2.0,
        grown_then old mid h.0 new k.2.0 h.1 k.2.1,
        λ less. absurd (let e = h.3 ended in omega arith),
        λ less. k.2.3 (let e = h.3 ended in omega arith),
      ),
    )
