-- The steps of the first pass keep what is known of it.
use Rattle.std.proofs.Common.{◌≡◌, ◌≢◌, ℕ, ◌+◌, ◌^◌, ◌<◌, ◌≤◌, true, List, [], ◌∷◌, ◌++◌, ◌⊎◌, inl, inr, sym, ◌∙◌, ap, subst, arith}
use Rattle.std.proofs.lemmas.Bool.{cases_eq}
use Rattle.ltl_check.specs.declared.graph.Step.{Step}
use Rattle.ltl_check.specs.declared.walk.Taken.{Taken}
use Rattle.ltl_check.specs.declared.search.Colour.{Colour}
use Rattle.ltl_check.specs.declared.search.Colour.TheVariants.{New, Open, Left, Probed}
use Rattle.ltl_check.specs.Nets.{Net, IsSuccessor, IsStepPath, Cycles}
use Rattle.ltl_check.specs.Explored.{Each, OneOf, AreDistinct, IsChanged, IsLeft, IsSeen, IsMarkedTo, IsOpenStep, IsExplored, IsClosed, IsOver}
use Rattle.ltl_check.proofs.StepPathLaws.{each_push, each_pop, each_weaker, one_push, one_last, one_pop, distinct_push, distinct_pop, path_push, path_split}

-- the looks below next + 1 are those below next, and next
pub below_more : (k next : ℕ) → k < next + 1 → (k ≡ next → ⊥) → k < next
below_more k next l n = omega arith

module _ (N : Net) where
  -- colours change, but what was entered stays entered
  pub seen_kept : (col after : ℕ → Colour) → ((m : ℕ) → col m ≢ New → after m ≢ New) → (n next : ℕ) → IsSeen N col n next → IsSeen N after n next
  seen_kept col after keeps n next s k t l i = keeps t.target (s k t l i)

  pub seen_more : (col : ℕ → Colour) (n next : ℕ) → IsSeen N col n next → ((t : Step ℕ) → IsSuccessor N n next t → col t.target ≢ New) → IsSeen N col n (next + 1)
  seen_more col n next s f k t l i =
      elim (cases_eq k next) [
        | inl e ↦ f t (subst (λ j. IsSuccessor N n j t) e i)
        | inr d ↦ s k t (below_more k next l d) i
      ]

  -- ---- a state is entered
  module _ (col after : ℕ → Colour) (n : ℕ) (was : col n ≡ New) (changed : IsChanged col after n Open) where
    entered : (m : ℕ) → col m ≢ New → after m ≢ New
    entered m d e = elim (cases_eq m n) [
      | inl q ↦ d (subst (λ j. col j ≡ New) (sym q) was)
      | inr q ↦ d (sym (changed.there m q) ∙ e)
    ]

    entered_here : after n ≢ New
    entered_here e = let h = changed.here in cc

    other : (m : ℕ) (c : Colour) → col m ≡ c → c ≢ New → after m ≡ c
    other m c e d = elim (cases_eq m n) [
      | inl q ↦ absurd (d (sym e ∙ subst (λ j. col j ≡ New) (sym q) was))
      | inr q ↦ changed.there m q ∙ e
    ]

    not_here : (m : ℕ) (c : Colour) → col m ≡ c → c ≢ New → m ≢ n
    not_here m c e d q = d (sym e ∙ subst (λ j. col j ≡ New) (sym q) was)

    open_is : Open ≢ New
    open_is e = cc

    back : (m : ℕ) (c : Colour) → after m ≡ c → c ≢ Open → col m ≡ c
    back m c e d = elim (cases_eq m n) [
      | inl q ↦ absurd (d (sym e ∙ subst (λ j. after j ≡ Open) (sym q) changed.here))
      | inr q ↦ sym (changed.there m q) ∙ e
    ]

    left_is : Left ≢ Open
    left_is e = cc

    marked_is : Probed ≢ Open
    marked_is e = cc

    left_back : (m : ℕ) → IsLeft N after m → IsLeft N col m
    left_back m (inl e) = inl (back m Left e left_is)
    left_back m (inr e) = inr (back m Probed e marked_is)

    enter_step : (t : Taken) → IsOpenStep N col t → IsOpenStep N after t
    enter_step t o = record { inside = o.inside; within = o.within; room = o.room; opened = other t.state Open o.opened open_is; seen = seen_kept col after entered t.state (t.pick + 1) o.seen }

    pub enter : (stem : List Taken) (here next : ℕ) (a : Step ℕ) (t : Taken) → IsExplored N col stem here next → n < N.count → IsSuccessor N here next a → a.target ≡ n → t.state ≡ here → t.pick ≡ next → a.letter ≡ t.letter → next + 1 < 2 ^ 64 → IsExplored N after (stem ++ t ∷ []) n 0
    enter stem here next a t x inside i to e p l room =
        let i' : IsSuccessor N t.state t.pick a = subst (λ s. IsSuccessor N s t.pick a) (sym e) (subst (λ j. IsSuccessor N here j a) (sym p) i) in
        let opened' : col t.state ≡ Open = subst (λ s. col s ≡ Open) (sym e) x.opened in
        let seen' : IsSeen N after here (next + 1) =
        seen_more after here next (seen_kept col after entered here next x.seen) (λ b j. target_entered b a j i to) in
        record {
          inside = inside;
          arrives = path_push N N.start n stem t a (subst (λ s. IsStepPath N N.start stem s) (sym e) x.arrives) i' l to;
          opened = changed.here;
          seen = λ k b l j. absurd (omega arith);
          steps = each_push (IsOpenStep N after) stem t (each_weaker (IsOpenStep N col) (IsOpenStep N after) enter_step stem x.steps) (record {
            inside = subst (λ s. s < N.count) (sym e) x.inside;
            within = i'.within;
            room = omega arith;
            opened = other t.state Open opened' open_is;
            seen = subst (λ s. IsSeen N after s (t.pick + 1)) (sym e) (subst (λ j. IsSeen N after here (j + 1)) (sym p) seen');
          });
          distinct = distinct_push stem t n (subst (AreDistinct stem) (sym e) x.distinct) (each_weaker (IsOpenStep N col) (λ u. u.state ≢ n) (λ u o. not_here u.state Open o.opened open_is) stem x.steps) (not_here t.state Open opened' open_is);
          only = λ m o. elim (cases_eq m n) [
            | inl q ↦ inl q
            | inr q ↦ inr (elim (x.only m (sym (changed.there m q) ∙ o)) [
              | inl h ↦ one_last (λ u. u.state ≡ m) stem t (e ∙ sym h)
              | inr h ↦ one_push (λ u. u.state ≡ m) stem t h
            ])
          ];
          left = λ m f. seen_kept col after entered m (N.pairs m) (x.left m (left_back m f));
          turnless = λ m f. x.turnless m (left_back m f);
        }
      where
        same_successor : (b c : Step ℕ) → IsSuccessor N here next b → IsSuccessor N here next c → b ≡ c
        same_successor b c j i = let p = j.found in let q = i.found in cc

        target_entered : (b a : Step ℕ) → IsSuccessor N here next b → IsSuccessor N here next a → a.target ≡ n → after b.target ≢ New
        target_entered b a j i to = subst (λ m. after m ≢ New) (sym (ap (λ s. s.target) (same_successor b a j i) ∙ to)) entered_here

    pub enter_closed : IsClosed N col → IsClosed N after
    enter_closed c m e k t l i = other t.target Probed (c m (back m Probed e marked_is) k t l i) (λ q. cc)

  -- ---- a state is left
  module _ (col after : ℕ → Colour) (stem : List Taken) (here next : ℕ) (c : Colour) (x : IsExplored N col stem here next) (done : N.pairs here ≤ next) (changed : IsChanged col after here c) (leaves : (c ≡ Left) ⊎ (c ≡ Probed)) (turnless : N.accepts here ≡ true → Cycles N here → ⊥) where
    c_new : c ≢ New
    c_new e = elim leaves [ inl q ↦ (cc) | inr q ↦ (cc) ]

    c_open : c ≢ Open
    c_open e = elim leaves [ inl q ↦ (cc) | inr q ↦ (cc) ]

    stays : (m : ℕ) → col m ≢ New → after m ≢ New
    stays m d e = elim (cases_eq m here) [
      | inl q ↦ c_new (sym changed.here ∙ subst (λ j. after j ≡ New) q e)
      | inr q ↦ d (sym (changed.there m q) ∙ e)
    ]

    was_left : (m : ℕ) → m ≢ here → IsLeft N after m → IsLeft N col m
    was_left m d (inl e) = inl (sym (changed.there m d) ∙ e)
    was_left m d (inr e) = inr (sym (changed.there m d) ∙ e)

    left_seen : (m : ℕ) → IsLeft N after m → IsSeen N after m (N.pairs m)
    left_seen m f = seen_kept col after stays m (N.pairs m) (elim (cases_eq m here) [
      | inl q ↦ subst (λ j. IsSeen N col j (N.pairs j)) (sym q) (λ k t l i. x.seen k t (omega arith) i)
      | inr q ↦ x.left m (was_left m q f)
    ])

    left_turnless : (m : ℕ) → IsLeft N after m → N.accepts m ≡ true → Cycles N m → ⊥
    left_turnless m f a h = elim (cases_eq m here) [
      | inl q ↦ turnless (subst (λ j. N.accepts j ≡ true) q a) (subst (Cycles N) q h)
      | inr q ↦ x.turnless m (was_left m q f) a h
    ]

    left_only : (m : ℕ) → after m ≡ Open → OneOf (λ t. t.state ≡ m) stem
    left_only m o = elim (cases_eq m here) [
      | inl q ↦ absurd (c_open (sym changed.here ∙ subst (λ j. after j ≡ Open) q o))
      | inr q ↦ elim (x.only m (sym (changed.there m q) ∙ o)) [ inl h ↦ absurd (q h) | inr h ↦ h ]
    ]

    -- back to the step before
    pub leave : (ts : List Taken) (t : Taken) → stem ≡ ts ++ t ∷ [] → IsExplored N after ts t.state (t.pick + 1)
    leave ts t e =
        let steps : Each (IsOpenStep N col) (ts ++ t ∷ []) = subst (Each (IsOpenStep N col)) e x.steps in
        let distinct : AreDistinct (ts ++ t ∷ []) here = subst (λ w. AreDistinct w here) e x.distinct in
        let s = each_pop (IsOpenStep N col) ts t steps in
        let p = distinct_pop ts t here distinct in
        let q = each_pop (λ u. u.state ≢ here) ts t p.1 in
        record {
          inside = s.1.inside;
          arrives = (path_split N N.start here ts t [] (subst (λ w. IsStepPath N N.start w here) e x.arrives)).0;
          opened = changed.there t.state q.1 ∙ s.1.opened;
          seen = seen_kept col after stays t.state (t.pick + 1) s.1.seen;
          steps = both ts s.0 q.0;
          distinct = p.0;
          only = λ m o. elim (one_pop (λ u. u.state ≡ m) ts t (subst (OneOf (λ u. u.state ≡ m)) e (left_only m o))) [ inl h ↦ inr h | inr h ↦ inl (sym h) ];
          left = left_seen;
          turnless = left_turnless;
        }
      where
        both : (us : List Taken) → Each (IsOpenStep N col) us → Each (λ u. u.state ≢ here) us → Each (IsOpenStep N after) us
        both [] a b = tt
        both (u ∷ us) a b = (record { inside = a.0.inside; within = a.0.within; room = a.0.room; opened = changed.there u.state b.0 ∙ a.0.opened; seen = seen_kept col after stays u.state (u.pick + 1) a.0.seen }, both us a.1 b.1)

    -- the start is left
    pub over : stem ≡ [] → IsOver N after
    over e = record {
      started = subst (IsLeft N after) (sym (subst (λ w. IsStepPath N N.start w here) e x.arrives)) (elim leaves [ inl q ↦ inl (changed.here ∙ q) | inr q ↦ inr (changed.here ∙ q) ]);
      none = λ m o. subst (OneOf (λ t. t.state ≡ m)) e (left_only m o);
      left = left_seen;
      turnless = left_turnless;
    }

    -- marks stay closed where the state isn't marked, or leads to marked states alone
    pub leave_closed : IsClosed N col → (c ≡ Probed → IsMarkedTo N col here (N.pairs here)) → IsClosed N after
    leave_closed closed leads m e k t l i =
        marked_stays t.target (elim (cases_eq m here) [
          | inl q ↦ leads (sym changed.here ∙ subst (λ j. after j ≡ Probed) q e) k t (subst (λ j. k < N.pairs j) q l) (subst (λ j. IsSuccessor N j k t) q i)
          | inr q ↦ closed m (sym (changed.there m q) ∙ e) k t l i
        ])
      where
        marked_stays : (n : ℕ) → col n ≡ Probed → after n ≡ Probed
        marked_stays n h = elim (cases_eq n here) [
          | inl q ↦ absurd (let o = x.opened in let h' : col here ≡ Probed = subst (λ j. col j ≡ Probed) q h in cc)
          | inr q ↦ changed.there n q ∙ h
        ]
