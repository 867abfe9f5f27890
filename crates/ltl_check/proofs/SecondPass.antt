-- The steps of the second pass, and the ends of both.
use Rattle.std.proofs.Common.{◌≡◌, ◌≢◌, ℕ, ◌+◌, ◌^◌, ◌<◌, ◌≤◌, true, List, [], ◌∷◌, ◌++◌, inl, inr, refl, sym, ◌∙◌, ap, subst, arith, append_assoc}
use Rattle.std.proofs.lemmas.Bool.{cases_eq}
use Rattle.ltl_check.specs.declared.graph.Step.{Step}
use Rattle.ltl_check.specs.declared.walk.Taken.{Taken}
use Rattle.ltl_check.specs.declared.search.Colour.{Colour}
use Rattle.ltl_check.specs.declared.search.Colour.TheVariants.{New, Open, Left, Probed}
use Rattle.ltl_check.specs.Nets.{Net, IsSuccessor, IsStepPath, Passes, Cycles, IsFound}
use Rattle.ltl_check.specs.Explored.{Each, OneOf, IsChanged, IsLeft, IsSeen, IsMarkedTo, IsOpenStep, IsExplored, IsClosed, IsOver, IsMarkedStep, IsProbed}
use Rattle.ltl_check.proofs.StepPathLaws.{each_push, each_pop, each_weaker, one_push, one_last, one_pop, path_append, path_push, path_split}
use Rattle.ltl_check.proofs.FirstPass.{below_more, seen_kept}

marked_left : Probed ≢ Left
marked_left e = cc

module _ (N : Net) where
  pub marked_more : (col : ℕ → Colour) (n next : ℕ) → IsMarkedTo N col n next → ((t : Step ℕ) → IsSuccessor N n next t → col t.target ≡ Probed) → IsMarkedTo N col n (next + 1)
  marked_more col n next s f k t l i =
      elim (cases_eq k next) [
        | inl e ↦ f t (subst (λ j. IsSuccessor N n j t) e i)
        | inr d ↦ s k t (below_more k next l d) i
      ]

  -- it begins
  pub begin : (col : ℕ → Colour) (stem : List Taken) (root next : ℕ) → IsExplored N col stem root next → N.pairs root ≤ next → IsClosed N col → IsProbed N col root [] root 0
  begin col stem root next x done closed = record {
    inside = x.inside;
    arrives = refl;
    seen = λ k t l i. x.seen k t (omega arith) i;
    marked = λ k t l i. absurd (omega arith);
    steps = tt;
    closed = λ n e. inl (closed n e);
  }

  -- a look that finds nothing, or a marked state
  pub pass_by : (col : ℕ → Colour) (root : ℕ) (path : List Taken) (at next : ℕ) → IsProbed N col root path at next → ((t : Step ℕ) → IsSuccessor N at next t → col t.target ≡ Probed) → IsProbed N col root path at (next + 1)
  pass_by col root path at next p f = record {
    inside = p.inside;
    arrives = p.arrives;
    seen = p.seen;
    marked = marked_more col at next p.marked f;
    steps = p.steps;
    closed = p.closed;
  }

  -- back to the step before
  pub retreat : (col : ℕ → Colour) (root : ℕ) (path : List Taken) (at next : ℕ) → IsProbed N col root path at next → N.pairs at ≤ next → (ts : List Taken) (t : Taken) → path ≡ ts ++ t ∷ [] → IsProbed N col root ts t.state (t.pick + 1)
  retreat col root path at next p done ts t e =
      let s = each_pop (IsMarkedStep N col) ts t (subst (Each (IsMarkedStep N col)) e p.steps) in
      record {
        inside = s.1.inside;
        arrives = (path_split N root at ts t [] (subst (λ w. IsStepPath N root w at) e p.arrives)).0;
        seen = s.1.seen;
        marked = s.1.marked;
        steps = s.0;
        closed = λ n m. elim (p.closed n m) [
          | inl h ↦ inl h
          | inr h ↦ elim h [
            | inl q ↦ inl (subst (λ j. IsMarkedTo N col j (N.pairs j)) (sym q) (λ k u l i. p.marked k u (omega arith) i))
            | inr q ↦ elim (one_pop (λ u. u.state ≡ n) ts t (subst (OneOf (λ u. u.state ≡ n)) e q)) [ inl r ↦ inr (inr r) | inr r ↦ inr (inl (sym r)) ]
          ]
        ];
      }

  -- ---- a state that was left is marked
  module _ (col after : ℕ → Colour) (n : ℕ) (was : col n ≡ Left) (changed : IsChanged col after n Probed) where
    marked_kept : (m : ℕ) (c : Colour) → col m ≡ c → c ≢ Left → after m ≡ c
    marked_kept m c e d = elim (cases_eq m n) [
      | inl q ↦ absurd (d (sym e ∙ subst (λ j. col j ≡ Left) (sym q) was))
      | inr q ↦ changed.there m q ∙ e
    ]

    before : (m : ℕ) (c : Colour) → after m ≡ c → c ≢ Probed → col m ≡ c
    before m c e d = elim (cases_eq m n) [
      | inl q ↦ absurd (d (sym e ∙ subst (λ j. after j ≡ Probed) (sym q) changed.here))
      | inr q ↦ sym (changed.there m q) ∙ e
    ]

    stays_entered : (m : ℕ) → col m ≢ New → after m ≢ New
    stays_entered m d e = d (before m New e (λ q. cc))

    left_before : (m : ℕ) → IsLeft N after m → IsLeft N col m
    left_before m f = elim (cases_eq m n) [
      | inl q ↦ inl (subst (λ j. col j ≡ Left) (sym q) was)
      | inr q ↦ elim f [ inl e ↦ inl (sym (changed.there m q) ∙ e) | inr e ↦ inr (sym (changed.there m q) ∙ e) ]
    ]

    marked_on : (m next : ℕ) → IsMarkedTo N col m next → IsMarkedTo N after m next
    marked_on m next s k t l i = marked_kept t.target Probed (s k t l i) marked_left

    pub mark_explored : (stem : List Taken) (here next : ℕ) → IsExplored N col stem here next → IsExplored N after stem here next
    mark_explored stem here next x = record {
      inside = x.inside;
      arrives = x.arrives;
      opened = marked_kept here Open x.opened (λ q. cc);
      seen = seen_kept N col after stays_entered here next x.seen;
      steps = each_weaker (IsOpenStep N col) (IsOpenStep N after) (λ t o. record { inside = o.inside; within = o.within; room = o.room; opened = marked_kept t.state Open o.opened (λ q. cc); seen = seen_kept N col after stays_entered t.state (t.pick + 1) o.seen }) stem x.steps;
      distinct = x.distinct;
      only = λ m o. x.only m (before m Open o (λ q. cc));
      left = λ m f. seen_kept N col after stays_entered m (N.pairs m) (x.left m (left_before m f));
      turnless = λ m f. x.turnless m (left_before m f);
    }

    mark_step : (t : Taken) → IsMarkedStep N col t → IsMarkedStep N after t
    mark_step t o = record { inside = o.inside; within = o.within; room = o.room; seen = seen_kept N col after stays_entered t.state (N.pairs t.state) o.seen; marked = marked_on t.state (t.pick + 1) o.marked }

    pub descend : (stem : List Taken) (root past : ℕ) (path : List Taken) (at next : ℕ) (a : Step ℕ) (t : Taken) → IsExplored N col stem root past → IsProbed N col root path at next → n < N.count → IsSuccessor N at next a → a.target ≡ n → t.state ≡ at → t.pick ≡ next → a.letter ≡ t.letter → next + 1 < 2 ^ 64 → IsProbed N after root (path ++ t ∷ []) n 0
    descend stem root past path at next a t x p inside i to e j l room =
        let i' : IsSuccessor N t.state t.pick a = subst (λ s. IsSuccessor N s t.pick a) (sym e) (subst (λ k. IsSuccessor N at k a) (sym j) i) in
        record {
          inside = inside;
          arrives = path_push N root n path t a (subst (λ s. IsStepPath N root path s) (sym e) p.arrives) i' l to;
          seen = seen_kept N col after stays_entered n (N.pairs n) (x.left n (inl was));
          marked = λ k u q r. absurd (omega arith);
          steps = each_push (IsMarkedStep N after) path t (each_weaker (IsMarkedStep N col) (IsMarkedStep N after) mark_step path p.steps) (record {
            inside = subst (λ s. s < N.count) (sym e) p.inside;
            within = i'.within;
            room = omega arith;
            seen = subst (λ s. IsSeen N after s (N.pairs s)) (sym e) (seen_kept N col after stays_entered at (N.pairs at) p.seen);
            marked = subst (λ s. IsMarkedTo N after s (t.pick + 1)) (sym e) (subst (λ k. IsMarkedTo N after at (k + 1)) (sym j) (marked_more after at next (marked_on at next p.marked) (λ b r. target_marked b r)));
          });
          closed = λ m h. elim (cases_eq m n) [
            | inl q ↦ inr (inl q)
            | inr q ↦ elim (p.closed m (sym (changed.there m q) ∙ h)) [
              | inl s ↦ inl (marked_on m (N.pairs m) s)
              | inr s ↦ inr (inr (elim s [ inl r ↦ one_last (λ u. u.state ≡ m) path t (e ∙ sym r) | inr r ↦ one_push (λ u. u.state ≡ m) path t r ]))
            ]
          ];
        }
      where
        same_successor : (b : Step ℕ) → IsSuccessor N at next b → b ≡ a
        same_successor b r = let p = r.found in let q = i.found in cc

        target_marked : (b : Step ℕ) → IsSuccessor N at next b → after b.target ≡ Probed
        target_marked b r = subst (λ m. after m ≡ Probed) (sym (ap (λ s. s.target) (same_successor b r) ∙ to)) changed.here

  -- ---- it ends, and nothing was found
  module _ (col : ℕ → Colour) (stem : List Taken) (root past : ℕ) (at next : ℕ) (x : IsExplored N col stem root past) (p : IsProbed N col root [] at next) (done : N.pairs at ≤ next) where
    pub root_leads : IsMarkedTo N col root (N.pairs root)
    root_leads = subst (λ j. IsMarkedTo N col j (N.pairs j)) (sym p.arrives) (λ k t l i. p.marked k t (omega arith) i)

    not_root : (n : ℕ) → col n ≡ Probed → n ≢ root
    not_root n m q = let o = x.opened in let h : col root ≡ Probed = subst (λ j. col j ≡ Probed) q m in cc

    pub root_closed : IsClosed N col
    root_closed n m = elim (p.closed n m) [
      | inl h ↦ h
      | inr h ↦ elim h [ inl q ↦ absurd (not_root n m (q ∙ sym p.arrives)) | inr q ↦ absurd q ]
    ]

    never_back : (n : ℕ) (ts : List Taken) → col n ≡ Probed → IsStepPath N n ts root → ⊥
    never_back n [] m w = not_root n m w
    never_back n (t ∷ ts) m w =
        never_back w.1.0.target ts (root_closed t.state (subst (λ j. col j ≡ Probed) (sym w.0) m) t.pick w.1.0 w.1.1.within w.1.1) w.1.3

    pub root_turnless : Cycles N root → ⊥
    root_turnless h =
        let w = h.2 in
        never_back w.1.0.target h.1 (root_leads h.0.pick w.1.0 (subst (λ j. h.0.pick < N.pairs j) w.0 w.1.1.within) (subst (λ j. IsSuccessor N j h.0.pick w.1.0) w.0 w.1.1)) w.1.3

  -- ---- a walk was found
  passes_first : (n m : ℕ) (ts : List Taken) (t : Taken) → N.accepts n ≡ true → IsStepPath N n (ts ++ t ∷ []) m → Passes N (ts ++ t ∷ [])
  passes_first n m [] t a w = inl (subst (λ j. N.accepts j ≡ true) (sym w.0) a)
  passes_first n m (u ∷ ts) t a w = inl (subst (λ j. N.accepts j ≡ true) (sym w.0) a)

  passes_after : (ts us : List Taken) → Passes N us → Passes N (ts ++ us)
  passes_after [] us p = p
  passes_after (t ∷ ts) us p = inr (passes_after ts us p)

  pub found : (n root at : ℕ) (pre post path : List Taken) (t : Taken) → N.accepts root ≡ true → IsStepPath N N.start pre n → IsStepPath N n post root → IsStepPath N root (path ++ t ∷ []) n → IsFound N pre (post ++ (path ++ t ∷ []))
  found n root at pre post path t a v w p = record {
    end = n;
    arrives = v;
    cycles = path_append N n root n post (path ++ t ∷ []) w p;
    passes = passes_after post (path ++ t ∷ []) (passes_first root n path t a p);
  }

  -- ---- the first pass is over: there is none
  module _ (col : ℕ → Colour) (o : IsOver N col) where
    left_from : (n : ℕ) (c : Colour) → col n ≡ c → c ≢ New → IsLeft N col n
    left_from n New e d = absurd (d refl)
    left_from n Open e d = absurd (o.none n e)
    left_from n Left e d = inl e
    left_from n Probed e d = inr e

    pub left_on : (n m : ℕ) (ts : List Taken) → IsLeft N col n → IsStepPath N n ts m → IsLeft N col m
    left_on n m [] f w = subst (IsLeft N col) w f
    left_on n m (t ∷ ts) f w =
        let s = o.left t.state (subst (IsLeft N col) (sym w.0) f) t.pick w.1.0 w.1.1.within w.1.1 in
        left_on w.1.0.target m ts (left_from w.1.0.target (col w.1.0.target) refl s) w.1.3

    none_on : (e : ℕ) (pre us : List Taken) → IsLeft N col e → IsStepPath N e (pre ++ us) e → Passes N us → ⊥
    none_on e pre [] f w p = p
    none_on e pre (t ∷ us) f w (inl a) =
        let s = path_split N e e pre t us w in
        o.turnless t.state (left_on e t.state pre f s.0) a (t, us ++ pre, path_append N t.state e t.state (t ∷ us) pre s.1 s.0)
    none_on e pre (t ∷ us) f w (inr p) =
        none_on e (pre ++ t ∷ []) us f (subst (λ ts. IsStepPath N e ts e) (sym (append_assoc pre (t ∷ []) us)) w) p

    pub none_found : (stem cycle : List Taken) → IsFound N stem cycle → ⊥
    none_found stem cycle h = none_on h.end [] cycle (left_on N.start h.end stem o.started h.arrives) h.cycles h.passes
