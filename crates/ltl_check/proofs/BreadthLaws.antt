-- The steps of the breadth-first search for a lasso, and what its end says.
use Rattle.std.proofs.Common.{◌≡◌, ℕ, zero, suc, ◌+◌, ◌-◌, ◌<◌, ◌≤◌, List, [], ◌∷◌, ◌++◌, length, ◌⊎◌, inl, inr, refl, sym, ◌∙◌, ap, subst, arith, length-append, Some, None, true, Bool, false, reverse, Ok, Err, Result, Option, get_or}
use Rattle.std.specs.Prelude.{slice_get, OnOk, IfOk, IfSome}
use Rattle.std.proofs.lemmas.Bool.{cases_eq, cases_lt}
use Rattle.std.proofs.lemmas.Option.{slice_get_read}
use Rattle.std.proofs.lemmas.List.{reverse-append, length-reverse}
use Rattle.ltl_spec.specs.Collections.Lists.{with_new}
use Rattle.ltl_check.specs.declared.graph.Step.{Step}
use Rattle.ltl_check.specs.declared.walk.Taken.{Taken}
use Rattle.ltl_check.specs.declared.place.Place.{Place}
use Rattle.ltl_check.specs.declared.place.Arrival.{Arrival}
use Rattle.ltl_check.specs.declared.place.Bases.{Bases}
use Rattle.ltl_check.specs.Nets.{Net, IsSuccessor}
use Rattle.ltl_check.specs.Levels.{IsFullWalk}
use Rattle.ltl_check.specs.Places.{is_base, IsGoal, on_stem, begun, further, IsNext, LeadsAt, IsStepTo, Reaches, start_place}
use Rattle.ltl_check.specs.Breadth.{Listed, IsPut, IsArrived, IsTree, IsLayer, IsExpanding, HasClosed, IsBranched, AreListed}
use Rattle.ltl_check.proofs.PlaceLaws.{full_reaches, reaches_more, reaches_cases, reaches_zero, IsTail, tail_goal, tail_start, tail_stem, tail_cycle}

-- ---- lists that grow
get_left : {K : Type 0} (xs ys : List K) (i : ℕ) (x : K) → slice_get xs i ≡ Some x → slice_get (xs ++ ys) i ≡ Some x
get_left [] ys i x e = cc
get_left (z ∷ xs) ys zero x e = e
get_left (z ∷ xs) ys (suc i) x e = get_left xs ys i x e

pub get_below : {K : Type 0} (xs : List K) (i : ℕ) (x : K) → slice_get xs i ≡ Some x → i < length xs
get_below [] i x e = cc
get_below (z ∷ xs) zero x e = omega arith
get_below (z ∷ xs) (suc i) x e = let h = get_below xs i x e in omega arith

pub get_there : {K : Type 0} (xs : List K) (i : ℕ) → i < length xs → (x : K) × (slice_get xs i ≡ Some x)
get_there [] i l = absurd (omega arith)
get_there (z ∷ xs) zero l = (z, refl)
get_there (z ∷ xs) (suc i) l = get_there xs i (omega arith)

-- an element of the longer list is an old one, or the last
get_cases : {K : Type 0} (xs : List K) (y : K) (i : ℕ) (x : K) → slice_get (xs ++ y ∷ []) i ≡ Some x → (slice_get xs i ≡ Some x) ⊎ ((i ≡ length xs) × (x ≡ y))
get_cases [] y zero x e = inr (refl, cc)
get_cases [] y (suc i) x e = cc
get_cases (z ∷ xs) y zero x e = inl e
get_cases (z ∷ xs) y (suc i) x e = elim (get_cases xs y i x e) [ inl h ↦ inl h | inr h ↦ inr (let q = h.0 in omega arith, h.1) ]

same_get : {K : Type 0} (xs : List K) (i : ℕ) (x y : K) → slice_get xs i ≡ Some x → slice_get xs i ≡ Some y → x ≡ y
same_get xs i x y e f = let g : Some x ≡ Some y = sym e ∙ f in cc

module _ (ps : List Place) (hs : List Arrival) (p : Place) (a : Arrival) (qs : List Place) (bs : List Arrival) (put : IsPut ps hs p a qs bs) where
  pub put_longer : length ps ≤ length qs
  put_longer = elim put [ inl h ↦ (let l = ap length h.0 in omega arith) | inr h ↦ (let l = ap length h.0 in let m = length-append ps (p ∷ []) in omega arith) ]

  put_place : (i : ℕ) (q : Place) → slice_get ps i ≡ Some q → slice_get qs i ≡ Some q
  put_place i q e = elim put [ inl h ↦ ap (λ xs. slice_get xs i) h.0 ∙ e | inr h ↦ ap (λ xs. slice_get xs i) h.0 ∙ get_left ps (p ∷ []) i q e ]

  put_arrival : (i : ℕ) (b : Arrival) → slice_get hs i ≡ Some b → slice_get bs i ≡ Some b
  put_arrival i b e = elim put [ inl h ↦ ap (λ xs. slice_get xs i) h.1 ∙ e | inr h ↦ ap (λ xs. slice_get xs i) h.1 ∙ get_left hs (a ∷ []) i b e ]

  place_was : (i : ℕ) (q : Place) → slice_get qs i ≡ Some q → (slice_get ps i ≡ Some q) ⊎ ((i ≡ length ps) × (q ≡ p) × (bs ≡ hs ++ a ∷ []))
  place_was i q e = elim put [
    | inl h ↦ inl (sym (ap (λ xs. slice_get xs i) h.0) ∙ e)
    | inr h ↦ elim (get_cases ps p i q (sym (ap (λ xs. slice_get xs i) h.0) ∙ e)) [ inl k ↦ inl k | inr k ↦ inr (k.0, k.1, h.1) ]
  ]

  arrival_was : (i : ℕ) (b : Arrival) → slice_get bs i ≡ Some b → (slice_get hs i ≡ Some b) ⊎ ((i ≡ length hs) × (b ≡ a))
  arrival_was i b e = elim put [
    | inl h ↦ inl (sym (ap (λ xs. slice_get xs i) h.1) ∙ e)
    | inr h ↦ get_cases hs a i b (sym (ap (λ xs. slice_get xs i) h.1) ∙ e)
  ]

  pub put_listed : (q : Place) → Listed ps (length ps) q → Listed qs (length qs) q
  put_listed q h = let l = put_longer in (h.0, (let m = h.1 in omega arith), put_place h.0 q h.2)

  put_before : (n : ℕ) (q : Place) → Listed ps n q → Listed qs n q
  put_before n q h = (h.0, h.1, put_place h.0 q h.2)

  module _ (N : Net) (bases : Bases) where
    put_arrived : (q : Place) (b : Arrival) → IsArrived N bases ps hs q b → IsArrived N bases qs bs q b
    put_arrived q b (inl h) = inl h
    put_arrived q b (inr h) = inr (h.0, (h.1.0, put_place b.from h.0 h.1.1, put_arrival b.from h.1.0 h.1.2, h.1.3, h.1.4))

    pub put_tree : (deepest : ℕ) → IsTree N bases ps hs deepest → p.state < N.count → a.depth ≤ deepest → a.from < length ps → IsArrived N bases ps hs p a → IsTree N bases qs bs deepest
    put_tree deepest t inside shallow nearer arrived = record {
      sized = elim put [
        | inl h ↦ (let l = ap length h.0 in let m = ap length h.1 in let s = t.sized in omega arith)
        | inr h ↦ (let l = ap length h.0 in let m = ap length h.1 in let s = t.sized in let v = length-append ps (p ∷ []) in let w = length-append hs (a ∷ []) in omega arith)
      ];
      inside = λ i q e. elim (place_was i q e) [ inl h ↦ t.inside i q h | inr h ↦ subst (λ (r : Place). r.state < N.count) (sym h.1) inside ];
      deep = λ i b e. elim (arrival_was i b e) [ inl h ↦ t.deep i b h | inr h ↦ subst (λ (r : Arrival). r.depth ≤ deepest) (sym h.1) shallow ];
      back = λ i b e l. elim (arrival_was i b e) [
        | inl h ↦ t.back i b h l
        | inr h ↦ (let d : b.from ≡ a.from = ap (λ (r : Arrival). r.from) h.1 in let s = t.sized in let j = h.0 in omega arith)
      ];
      each = λ i q b e f. elim (place_was i q e) [
        | inl h ↦ elim (arrival_was i b f) [
          | inl k ↦ put_arrived q b (t.each i q b h k)
          | inr k ↦ absurd (let l = get_below ps i q h in let s = t.sized in let m = k.0 in omega arith)
        ]
        | inr h ↦
            let g : b ≡ a = elim (arrival_was i b f) [
              | inl k ↦ absurd (let l = get_below hs i b k in let s = t.sized in let m = h.0 in omega arith)
              | inr k ↦ k.1
            ] in
            put_arrived q b (subst (λ r. IsArrived N bases ps hs r b) (sym h.1) (subst (λ r. IsArrived N bases ps hs p r) (sym g) arrived))
      ];
    }

    module _ (sets at end depth : ℕ) where
      pub put_layer : IsLayer N bases sets ps hs at end depth → p.state < N.count → a.depth ≤ depth + 1 → a.from < length ps → IsArrived N bases ps hs p a → (IsGoal sets p → ⊥) → IsLayer N bases sets qs bs at end depth
      put_layer x inside shallow nearer arrived none = record {
        tree = put_tree (depth + 1) x.tree inside shallow nearer arrived;
        early = λ i b l e. elim (arrival_was i b e) [
          | inl h ↦ x.early i b l h
          | inr h ↦ absurd (let s = x.tree.sized in let m = x.some in let k = h.0 in omega arith)
        ];
        some = let l = put_longer in let m = x.some in omega arith;
        before = x.before;
        complete = λ q r. put_before end q (x.complete q r);
        closed = λ i k q r l e w. elim (place_was i q e) [
          | inl h ↦ put_listed r (x.closed i k q r l h w)
          | inr h ↦ absurd (past x i l h.0)
        ];
        none = λ i q e g. elim (place_was i q e) [ inl h ↦ x.none i q h g | inr h ↦ none (subst (IsGoal sets) h.1 g) ];
      }
        where
          past : IsLayer N bases sets ps hs at end depth → (i : ℕ) → i < at → i ≡ length ps → ⊥
          past x i l e = let m = x.before in let s = x.some in omega arith

      pub put_expanding : (k : ℕ) → IsExpanding N bases sets ps hs at end depth k → p.state < N.count → a.depth ≤ depth + 1 → a.from < length ps → IsArrived N bases ps hs p a → (IsGoal sets p → ⊥)
          → IsExpanding N bases sets qs bs at end depth k
      put_expanding k x inside shallow nearer arrived none = record {
        layer = put_layer x.layer inside shallow nearer arrived none;
        inside = x.inside;
        looked = λ j q r l e w. elim (place_was at q e) [
          | inl h ↦ put_listed r (x.looked j q r l h w)
          | inr h ↦ absurd (let s = x.layer.some in let m = x.inside in let v = h.0 in omega arith)
        ];
      }

module _ (N : Net) (bases : Bases) (sets : ℕ) (ps : List Place) (hs : List Arrival) (at end depth : ℕ) where
  -- one more edge, whose places were all met
  pub expand_more : (k : ℕ) → IsExpanding N bases sets ps hs at end depth k → ((q p : Place) → slice_get ps at ≡ Some q → LeadsAt N bases q k p → Listed ps (length ps) p) → IsExpanding N bases sets ps hs at end depth (k + 1)
  expand_more k x f = record {
    layer = x.layer;
    inside = x.inside;
    looked = λ j q p l e w. elim (cases_eq j k) [
      | inl g ↦ f q p e (subst (λ i. LeadsAt N bases q i p) g w)
      | inr d ↦ x.looked j q p (omega arith) e w
    ];
  }

  -- all edges of the place
  pub expand_end : (k : ℕ) (q : Place) → IsExpanding N bases sets ps hs at end depth k → slice_get ps at ≡ Some q → N.pairs q.state ≤ k → IsLayer N bases sets ps hs (at + 1) end depth
  expand_end k q x e done = record {
    tree = x.layer.tree;
    early = x.layer.early;
    some = x.layer.some;
    before = let l = x.inside in omega arith;
    complete = x.layer.complete;
    closed = λ i j r p l f w. elim (cases_eq i at) [
      | inl g ↦
          let h : slice_get ps at ≡ Some r = subst (λ m. slice_get ps m ≡ Some r) g f in
          let s : r ≡ q = same_get ps at r q h e in
          let n : j < N.pairs q.state = subst (λ (m : Place). j < N.pairs m.state) s w.1.within in
          x.looked j r p (omega arith) h w
      | inr d ↦ x.layer.closed i j r p (omega arith) f w
    ];
    none = x.layer.none;
  }

  -- the next layer
  pub layer_end : IsLayer N bases sets ps hs at end depth → end ≤ at → (next far : ℕ) → next ≡ depth + 1 → far ≡ length ps → IsLayer N bases sets ps hs at far next
  layer_end x done next far e f = rw (e, f) (record {
    tree = record { sized = x.tree.sized; inside = x.tree.inside; deep = λ i a g. (let l = x.tree.deep i a g in omega arith); back = x.tree.back; each = x.tree.each };
    early = λ i a l g. x.tree.deep i a g;
    some = omega arith;
    before = let l = x.before in let m = x.some in omega arith;
    complete = λ p r. reached p (subst (λ n. Reaches N bases n p) one r);
    closed = x.closed;
    none = x.none;
  })
    where
      one : depth + 1 ≡ suc depth
      one = omega arith

      reached : (p : Place) → Reaches N bases (suc depth) p → Listed ps (length ps) p
      reached p r = elim (reaches_cases N sets bases depth p r) [
        | inl s ↦ let h = x.complete p s in (h.0, (let l = h.1 in let m = x.some in omega arith), h.2)
        | inr s ↦ let h = x.complete s.0 s.1 in x.closed h.0 s.2.0 s.0 p (let l = h.1 in omega arith) h.2 s.2.1
      ]

  -- no goal is so near
  pub layer_none : IsLayer N bases sets ps hs at end depth → (p : Place) → Reaches N bases depth p → IsGoal sets p → ⊥
  layer_none x p r g = let h = x.complete p r in x.none h.0 p h.2 g

  -- a goal was met
  pub layer_closed : (qs : List Place) (bs : List Arrival) (p : Place) (a : Arrival) (i : ℕ) → IsLayer N bases sets ps hs at end depth → IsPut ps hs p a qs bs → p.state < N.count → a.depth ≤ depth + 1 → a.from < length ps → IsArrived N bases ps hs p a
      → slice_get qs i ≡ Some p → IsGoal sets p → HasClosed N bases sets qs bs depth i
  layer_closed qs bs p a i x put inside shallow nearer arrived there goal = record {
    tree = put_tree ps hs p a qs bs put N bases (depth + 1) x.tree inside shallow nearer arrived;
    place = p;
    there = there;
    goal = goal;
    least = layer_none x;
  }

-- ---- one look
-- the arrival of a place behind edge k of the place `at`
pub record IsFrom (N : Net) (ps : List Place) (hs : List Arrival) (at k : ℕ) (here : Place) (a : Step ℕ) (arrival : Arrival) : Type 0 where
  pub there : slice_get ps at ≡ Some here
  pub origin : Arrival
  pub was : slice_get hs at ≡ Some origin
  pub edge : IsSuccessor N here.state k a
  pub inside : a.target < N.count
  pub from : arrival.from ≡ at
  pub deeper : arrival.depth ≡ origin.depth + 1
  pub taken : arrival.taken ≡ record { state = here.state; pick = k; letter = a.letter }

from_put : (N : Net) (ps : List Place) (hs : List Arrival) (at k : ℕ) (here : Place) (a : Step ℕ) (arrival : Arrival) → IsFrom N ps hs at k here a arrival → (p : Place) (qs : List Place) (bs : List Arrival) → IsPut ps hs p arrival qs bs → IsFrom N qs bs at k here a arrival
from_put N ps hs at k here a arrival f p qs bs put = record {
  there = put_place ps hs p arrival qs bs put at here f.there;
  origin = f.origin;
  was = put_arrival ps hs p arrival qs bs put at f.origin f.was;
  edge = f.edge;
  inside = f.inside;
  from = f.from;
  deeper = f.deeper;
  taken = f.taken;
}

module _ (N : Net) (bases : Bases) (sets : ℕ) (at end depth k : ℕ) (here : Place) (a : Step ℕ) (arrival : Arrival) where
  module _ (ps : List Place) (hs : List Arrival) (x : IsExpanding N bases sets ps hs at end depth k) (f : IsFrom N ps hs at k here a arrival) where
    arrived : (p : Place) → IsNext bases here a p → IsArrived N bases ps hs p arrival
    arrived p next = inr (
      here,
      (
        f.origin,
        subst (λ i. slice_get ps i ≡ Some here) (sym f.from) f.there,
        subst (λ i. slice_get hs i ≡ Some f.origin) (sym f.from) f.was,
        f.deeper,
        subst (λ t. IsStepTo N bases here t p) (sym f.taken) (refl, (a, f.edge, refl, next)),
      ),
    )

    shallow : arrival.depth ≤ depth + 1
    shallow = let l = x.layer.early at f.origin x.inside f.was in let d = f.deeper in omega arith

    nearer : arrival.from < length ps
    nearer = let l = x.inside in let m = x.layer.some in let e = f.from in omega arith

    -- the places behind edge k are those behind this edge
    only : (q p : Place) → slice_get ps at ≡ Some q → LeadsAt N bases q k p → IsNext bases here a p
    only q p e w =
        let h : q ≡ here = same_get ps at q here e f.there in
        let v : LeadsAt N bases here k p = subst (λ r. LeadsAt N bases r k p) h w in
        let b : v.0 ≡ a = (let i = v.1.found in let j = f.edge.found in cc) in
        subst (λ c. IsNext bases here c p) b v.2

    -- a place was put, and isn't a goal
    put_next : (p : Place) (qs : List Place) (bs : List Arrival) → IsPut ps hs p arrival qs bs → p.state ≡ a.target → IsNext bases here a p → (IsGoal sets p → ⊥) → IsExpanding N bases sets qs bs at end depth k
    put_next p qs bs put s next none =
        put_expanding ps hs p arrival qs bs put N bases sets at end depth k x (subst (λ n. n < N.count) (sym s) f.inside) shallow nearer (arrived p next) none

    -- or is one
    put_goal : (p : Place) (qs : List Place) (bs : List Arrival) (i : ℕ) → IsPut ps hs p arrival qs bs → p.state ≡ a.target → IsNext bases here a p → slice_get qs i ≡ Some p → IsGoal sets p → HasClosed N bases sets qs bs depth i
    put_goal p qs bs i put s next there goal =
        layer_closed N bases sets ps hs at end depth qs bs p arrival i x.layer put (subst (λ n. n < N.count) (sym s) f.inside) shallow nearer (arrived p next) there goal

    -- there is no edge, or all places behind it are listed
    all_listed : ((p : Place) → IsNext bases here a p → Listed ps (length ps) p) → IsExpanding N bases sets ps hs at end depth (k + 1)
    all_listed g = expand_more N bases sets ps hs at end depth k x (λ q p e w. g p (only q p e w))

  module _ (ps : List Place) (hs : List Arrival) (x : IsExpanding N bases sets ps hs at end depth k) (f : IsFrom N ps hs at k here a arrival) where
    -- ---- on a cycle
    pub look_cycle : 0 < here.base → (qs : List Place) (bs : List Arrival) → IsPut ps hs (further here a) arrival qs bs → Listed qs (length qs) (further here a) → (IsGoal sets (further here a) → ⊥) → IsExpanding N bases sets qs bs at end depth (k + 1)
    look_cycle on qs bs put listed none =
        let y = put_next ps hs x f (further here a) qs bs put refl (inr (on, refl)) none in
        all_listed qs bs y (from_put N ps hs at k here a arrival f (further here a) qs bs put) (λ p n. elim n [
          | inl h ↦ absurd (let z = h.0 in omega arith)
          | inr h ↦ subst (Listed qs (length qs)) (sym h.1) listed
        ])

    pub look_cycle_goal : 0 < here.base → (qs : List Place) (bs : List Arrival) (i : ℕ) → IsPut ps hs (further here a) arrival qs bs → slice_get qs i ≡ Some (further here a) → IsGoal sets (further here a) → HasClosed N bases sets qs bs depth i
    look_cycle_goal on qs bs i put there goal = put_goal ps hs x f (further here a) qs bs i put refl (inr (on, refl)) there goal

    -- ---- on a stem
    no_goal : IsGoal sets (on_stem a) → ⊥
    no_goal g = let e = g.0 in omega arith

    listed_both : here.base ≡ 0 → (rs : List Place) → AreListed bases rs here.state a → (p : Place) → IsNext bases here a p → Listed rs (length rs) p
    listed_both z rs l p (inl (b, inl e)) = subst (Listed rs (length rs)) (sym e) l.0
    listed_both z rs l p (inl (b, inr e)) = subst (Listed rs (length rs)) (sym e.1) (l.1 e.0)
    listed_both z rs l p (inr e) = absurd (let h = e.0 in omega arith)

    pub look_stem : here.base ≡ 0 → (rs : List Place) (cs : List Arrival) → IsBranched bases ps hs here.state a arrival rs cs → AreListed bases rs here.state a → (is_base bases here.state ≡ true → IsGoal sets (begun here.state a) → ⊥) → IsExpanding N bases sets rs cs at end depth (k + 1)
    look_stem z rs cs br listed none = by br.1.2
      where
        y : IsExpanding N bases sets br.0 br.1.0 at end depth k
        y = put_next ps hs x f (on_stem a) br.0 br.1.0 br.1.1 refl (inl (z, inl refl)) no_goal

        g : IsFrom N br.0 br.1.0 at k here a arrival
        g = from_put N ps hs at k here a arrival f (on_stem a) br.0 br.1.0 br.1.1

        by : ((is_base bases here.state ≡ true) × IsPut br.0 br.1.0 (begun here.state a) arrival rs cs) ⊎ ((is_base bases here.state ≡ false) × (rs ≡ br.0) × (cs ≡ br.1.0)) → IsExpanding N bases sets rs cs at end depth (k + 1)
        by (inl h) =
            let v = put_next br.0 br.1.0 y g (begun here.state a) rs cs h.1 refl (inl (z, inr (h.0, refl))) (none h.0) in
            all_listed rs cs v (from_put N br.0 br.1.0 at k here a arrival g (begun here.state a) rs cs h.1) (listed_both z rs listed)
        by (inr h) =
            let v = all_listed br.0 br.1.0 y g (λ p n. subst (λ qs. Listed qs (length qs) p) h.1 (listed_both z rs listed p n)) in
            subst (λ qs. IsExpanding N bases sets qs cs at end depth (k + 1)) (sym h.1) (subst (λ bs. IsExpanding N bases sets br.0 bs at end depth (k + 1)) (sym h.2) v)

    pub look_stem_goal : here.base ≡ 0 → (rs : List Place) (cs : List Arrival) (i : ℕ) → IsBranched bases ps hs here.state a arrival rs cs → is_base bases here.state ≡ true → slice_get rs i ≡ Some (begun here.state a) → IsGoal sets (begun here.state a) → HasClosed N bases sets rs cs depth i
    look_stem_goal z rs cs i br base there goal = by br.1.2
      where
        y : IsExpanding N bases sets br.0 br.1.0 at end depth k
        y = put_next ps hs x f (on_stem a) br.0 br.1.0 br.1.1 refl (inl (z, inl refl)) no_goal

        g : IsFrom N br.0 br.1.0 at k here a arrival
        g = from_put N ps hs at k here a arrival f (on_stem a) br.0 br.1.0 br.1.1

        by : ((is_base bases here.state ≡ true) × IsPut br.0 br.1.0 (begun here.state a) arrival rs cs) ⊎ ((is_base bases here.state ≡ false) × (rs ≡ br.0) × (cs ≡ br.1.0)) → HasClosed N bases sets rs cs depth i
        by (inl h) = put_goal br.0 br.1.0 y g (begun here.state a) rs cs i h.1 refl (inl (z, inr (h.0, refl))) there goal
        by (inr h) = absurd (let e = h.0 in cc)

-- no edge has this number
pub look_none : (N : Net) (bases : Bases) (sets : ℕ) (ps : List Place) (hs : List Arrival) (at end depth k : ℕ) (here : Place) → IsExpanding N bases sets ps hs at end depth k → slice_get ps at ≡ Some here → N.successor here.state k ≡ None → IsExpanding N bases sets ps hs at end depth (k + 1)
look_none N bases sets ps hs at end depth k here x there e = expand_more N bases sets ps hs at end depth k x (λ q p h w.
    let same : q ≡ here = same_get ps at q here h there in
    let found : N.successor here.state k ≡ Some w.0 = subst (λ (r : Place). N.successor r.state k ≡ Some w.0) same w.1.found in
    absurd (let g : None ≡ Some w.0 = sym e ∙ found in cc))

-- an element that was read twice
pub arrival_on : (hs : List Arrival) (i : ℕ) (a b : Arrival) → i < length hs → a ≡ get_or hs i a → b ≡ get_or hs i b → 0 < a.depth → (slice_get hs i ≡ Some b) × (0 < b.depth)
arrival_on hs i a b l e f d =
    let g = slice_get_read hs (length hs) i a refl l e in
    let h = slice_get_read hs (length hs) i b refl l f in
    (h, subst (λ (r : Arrival). 0 < r.depth) (same_get hs i a b g h) d)

-- a number that a call returns
pub goal_of : {E : Type 0} (r : Result (Option ℕ) E) (R : Type 0) (P Q : ℕ → Type 0) → OnOk r R → IfOk r (λ o. IfSome o P) → ((i : ℕ) → R → P i → Q i) → IfOk r (λ o. IfSome o Q)
goal_of (Ok (Some i)) R P Q p q f = f i p q
goal_of (Ok None) R P Q p q f = tt
goal_of (Err e) R P Q p q f = tt

-- as the code lists both places behind an edge
pub on_two : {T E : Type 0} (r : Result T E) (P Q R : Type 0) → OnOk r P → OnOk r Q → (P → Q → R) → OnOk r R
on_two (Ok v) P Q R p q f = f p q
on_two (Err e) P Q R p q f = tt

pub listed_branch : (bases : Bases) (n : ℕ) (a : Step ℕ) (arrival : Arrival) (qs : List Place) (bs : List Arrival) (rs : List Place) (cs : List Arrival) (p q : Place) (i : ℕ) → p ≡ on_stem a → q ≡ begun n a → slice_get qs i ≡ Some p → IsPut qs bs q arrival rs cs → Listed rs (length rs) q → AreListed bases rs n a
listed_branch bases n a arrival qs bs rs cs p q i e f there put listed = (
  subst (Listed rs (length rs)) e (put_listed qs bs q arrival rs cs put p (i, get_below qs i p there, there)),
  λ base. subst (Listed rs (length rs)) f listed,
)

-- before the first look
pub begin_layer : (N : Net) (bases : Bases) (sets : ℕ) (ps : List Place) (hs : List Arrival) (a : Arrival) → N.start < N.count → ps ≡ start_place N ∷ [] → hs ≡ a ∷ [] → a.depth ≡ 0 → IsLayer N bases sets ps hs 0 1 0
begin_layer N bases sets ps hs a inside e f z = rw (e, f) (record {
  tree = record {
    sized = refl;
    inside = λ i p g. subst (λ (q : Place). q.state < N.count) (one_place i p g) inside;
    deep = λ i b g. (let d : a.depth ≡ b.depth = ap (λ (r : Arrival). r.depth) (one_arrival i b g) in omega arith);
    back = λ i b g l. absurd (let d : a.depth ≡ b.depth = ap (λ (r : Arrival). r.depth) (one_arrival i b g) in omega arith);
    each = λ i p b g h. inl ((let d : a.depth ≡ b.depth = ap (λ (r : Arrival). r.depth) (one_arrival i b h) in omega arith), sym (one_place i p g));
  };
  early = λ i b l g. (let d : a.depth ≡ b.depth = ap (λ (r : Arrival). r.depth) (one_arrival i b g) in omega arith);
  some = omega arith;
  before = omega arith;
  complete = λ p r. (0, omega arith, ap Some (sym (reaches_zero N sets bases p r)));
  closed = λ i k q p l. absurd (omega arith);
  none = λ i p g h. let c : 0 ≡ p.base = ap (λ (q : Place). q.base) (one_place i p g) in let d = h.0 in omega arith;
})
  where
    one_place : (i : ℕ) (p : Place) → slice_get (start_place N ∷ []) i ≡ Some p → start_place N ≡ p
    one_place zero p g = cc
    one_place (suc i) p g = cc

    one_arrival : (i : ℕ) (b : Arrival) → slice_get (a ∷ []) i ≡ Some b → a ≡ b
    one_arrival zero b g = cc
    one_arrival (suc i) b g = cc

-- as the code begins
pub begin_from : (same : Place → Place → Bool) (N : Net) (bases : Bases) (sets : ℕ) (ps qs : List Place) (fs hs : List Arrival) (s : ℕ) (marks : List ℕ) (a : Arrival)
    → qs ≡ with_new same ps (record { base = 0; state = s; marks = marks }) → ps ≡ [] → s ≡ N.start → marks ≡ [] → s < N.count → hs ≡ fs ++ a ∷ [] → fs ≡ [] → a.depth ≡ 0 → IsLayer N bases sets qs hs 0 1 0
begin_from same N bases sets ps qs fs hs s marks a keys none is empty below items nothing z =
    let e : qs ≡ (record { base = 0; state = s; marks = marks }) ∷ [] = keys ∙ ap (λ xs. with_new same xs (record { base = 0; state = s; marks = marks })) none in
    let f : qs ≡ start_place N ∷ [] = e ∙ ap (λ n. (record { base = 0; state = n; marks = marks }) ∷ []) is ∙ ap (λ m. (record { base = 0; state = N.start; marks = m }) ∷ []) empty in
    let g : hs ≡ a ∷ [] = items ∙ ap (λ xs. xs ++ a ∷ []) nothing in
    begin_layer N bases sets qs hs a (subst (λ n. n < N.count) is below) f g z

-- a full walk isn't shorter than so many edges
pub none_nearer : (N : Net) (sets : ℕ) (bases : Bases) (depth : ℕ) → ((p : Place) → Reaches N bases depth p → IsGoal sets p → ⊥) → (stem cycle : List Taken) (h : IsFullWalk N sets stem cycle) → is_base bases h.end ≡ true → depth + 1 ≤ length stem + length cycle
none_nearer N sets bases depth none stem cycle h b = elim (cases_lt depth (length stem + length cycle)) [
  | inl l ↦ omega arith
  | inr l ↦
      let r = full_reaches N sets bases stem cycle h b in
      let e : (depth - (length stem + length cycle)) + (length stem + length cycle) ≡ depth = omega arith in
      absurd (none r.0 (subst (λ n. Reaches N bases n r.0) e (reaches_more N sets bases (depth - (length stem + length cycle)) (length stem + length cycle) r.0 r.1)) r.2)
]

-- ---- the way back
reverse_push : {K : Type 0} (xs : List K) (x : K) → reverse (xs ++ x ∷ []) ≡ x ∷ reverse xs
reverse_push xs x = reverse-append xs (x ∷ [])

module _ (N : Net) (bases : Bases) (sets : ℕ) (ps : List Place) (hs : List Arrival) where
  -- the steps that were gone back, the last one first, lead on from place i and close a lasso
  pub record IsBackAt (most i : ℕ) (stem cycle : List Taken) : Type 0 where
    pub place : Place
    pub arrival : Arrival
    pub there : slice_get ps i ≡ Some place
    pub was : slice_get hs i ≡ Some arrival
    pub tail : IsTail N sets bases place (reverse stem) (reverse cycle)
    pub long : length stem + length cycle + arrival.depth ≤ most

  pub back_begin : (depth i : ℕ) → HasClosed N bases sets ps hs depth i → IsBackAt (depth + 1) i [] []
  back_begin depth i h =
      let a = get_there hs i (let l = get_below ps i h.place h.there in let s = h.tree.sized in omega arith) in
      record {
        place = h.place;
        arrival = a.0;
        there = h.there;
        was = a.1;
        tail = tail_goal N sets bases h.place h.goal;
        long = let l = h.tree.deep i a.0 a.1 in omega arith;
      }

  module _ (deepest most i : ℕ) (stem cycle : List Taken) (tree : IsTree N bases ps hs deepest) (x : IsBackAt most i stem cycle) (p : Place) (a : Arrival) (there : slice_get ps i ≡ Some p) (was : slice_get hs i ≡ Some a) (on : 0 < a.depth) where
    -- what stands before it
    abbrev Before : Type 0
    Before = (q : Place) × ((b : Arrival) × (slice_get ps a.from ≡ Some q) × (slice_get hs a.from ≡ Some b) × (a.depth ≡ b.depth + 1) × IsStepTo N bases q a.taken p)

    before : Before
    before = elim (tree.each i p a there was) [ inl h ↦ absurd (let z = h.0 in omega arith) | inr h ↦ h ]

    long_as : length stem + length cycle + a.depth ≤ most
    long_as = subst (λ (r : Arrival). length stem + length cycle + r.depth ≤ most) (same_get hs i x.arrival a x.was was) x.long

    tail_as : IsTail N sets bases p (reverse stem) (reverse cycle)
    tail_as = subst (λ r. IsTail N sets bases r (reverse stem) (reverse cycle)) (same_get ps i x.place p x.there there) x.tail

    pub back_cycle : 0 < p.base → (later : List Taken) → later ≡ cycle ++ a.taken ∷ [] → IsBackAt most a.from stem later
    back_cycle z later e =
        let b = before in
        rw e (record {
          place = b.0;
          arrival = b.1.0;
          there = b.1.1;
          was = b.1.2;
          tail = subst (λ ts. IsTail N sets bases b.0 (reverse stem) ts) (sym (reverse_push cycle a.taken)) (tail_cycle N sets bases b.0 p a.taken (reverse stem) (reverse cycle) b.1.4 z tail_as);
          long = let l = long_as in let d = b.1.3 in let m = length-append cycle (a.taken ∷ []) in omega arith;
        })

    pub back_stem : p.base ≡ 0 → (later : List Taken) → later ≡ stem ++ a.taken ∷ [] → IsBackAt most a.from later cycle
    back_stem z later e =
        let b = before in
        rw e (record {
          place = b.0;
          arrival = b.1.0;
          there = b.1.1;
          was = b.1.2;
          tail = subst (λ ts. IsTail N sets bases b.0 ts (reverse cycle)) (sym (reverse_push stem a.taken)) (tail_stem N sets bases b.0 p a.taken (reverse stem) (reverse cycle) b.1.4 z tail_as);
          long = let l = long_as in let d = b.1.3 in let m = length-append stem (a.taken ∷ []) in omega arith;
        })

  pub back_end : (deepest most i : ℕ) (stem cycle : List Taken) → IsTree N bases ps hs deepest → IsBackAt most i stem cycle → (a : Arrival) → slice_get hs i ≡ Some a → a.depth ≡ 0 → (us vs : List Taken) → us ≡ reverse stem → vs ≡ reverse cycle
      → IsFullWalk N sets us vs × (length us + length vs ≤ most)
  back_end deepest most i stem cycle tree x a was z us vs e f =
      let s : x.place ≡ start_place N = elim (tree.each i x.place a x.there was) [ inl h ↦ h.1 | inr h ↦ absurd (let d = h.1.3 in omega arith) ] in
      let l = length-reverse stem in
      let m = length-reverse cycle in
      let n = x.long in
      rw (e, f) (tail_start N sets bases (reverse stem) (reverse cycle) (subst (λ r. IsTail N sets bases r (reverse stem) (reverse cycle)) s x.tail), omega arith)
