-- Colours in a list, the sums over them, and the steps of both passes with these.
use Rattle.std.proofs.Common.{◌≡◌, ℕ, zero, suc, ◌+◌, ◌-◌, ◌*◌, ◌^◌, ◌<◌, ◌≤◌, true, List, [], ◌∷◌, ◌++◌, length, set, get_or, take, drop, replicate, cond, Bool, false, Some, ◌⊎◌, inl, inr, refl, sym, ◌∙◌, ap, subst, arith, length-append}
use Rattle.std.proofs.lemmas.Bool.{cases_lt}
use Rattle.std.proofs.lemmas.List.{get_or-set_same, get_or-set_other, length-set, drop_more, drop_all, take_all, take-append-drop, length-replicate}
use Rattle.ltl_check.specs.declared.graph.Step.{Step}
use Rattle.ltl_check.specs.declared.walk.Taken.{Taken}
use Rattle.ltl_check.specs.declared.search.Colour.{Colour}
use Rattle.ltl_check.specs.declared.search.Colour.TheVariants.{New, Open, Left, Probed}
use Rattle.ltl_check.specs.Nets.{Net, IsStepPath, Cycles, IsFound}
use Rattle.ltl_check.specs.declared.search.DfsPath.{DfsPath}
use Rattle.ltl_check.specs.declared.search.Met.{Met}
use Rattle.ltl_check.specs.declared.search.Search.{Search}
use Rattle.ltl_check.specs.Explored.{Each, OneOf, IsChanged, IsLeft, IsMarkedTo, IsOpenStep, IsExplored, IsClosed, IsOver, IsMarkedStep, IsProbed, IsAt, IsProbedAt, colour_at, total, rest_path, rest, cost, to_enter, to_mark, work, IsOn, HasLeftAt, IsProbedOn, HasProbedAt, IsMet, counted, IsGrown, sum_below, Reached, looks_left, IsPopped, IsDone, rest_of, StandsAt, IsProbing, HasMet, HasLeft}
use Rattle.ltl_check.specs.Looks.{LooksAtMost}
use Rattle.ltl_check.proofs.StepPathLaws.{path_push, path_split}
use Rattle.ltl_check.proofs.FirstPass.{enter, enter_closed, leave, over, leave_closed}
use Rattle.ltl_check.proofs.SecondPass.{begin, pass_by, retreat, mark_explored, descend, root_leads, root_closed, root_turnless, found, left_on}

append_nil : (ts : List Taken) → ts ++ [] ≡ ts
append_nil [] = refl
append_nil (t ∷ ts) = ap (λ r. t ∷ r) (append_nil ts)

pub changed_set : (cs : List Colour) (n : ℕ) (c : Colour) → n < length cs → IsChanged (colour_at cs) (colour_at (set cs n c)) n c
changed_set cs n c l = record { here = get_or-set_same cs n c New l; there = λ m d. get_or-set_other cs n m c New d }

-- one colour changes, and so one part of the sum
pub total_set : (f : ℕ → Colour → ℕ) (i : ℕ) (cs : List Colour) (n : ℕ) (c : Colour) → n < length cs → total f i (set cs n c) + f (i + n) (get_or cs n New) ≡ total f i cs + f (i + n) c
total_set f i [] n c l = absurd (omega arith)
total_set f i (x ∷ cs) zero c l = let e : i + 0 ≡ i = omega arith in rw e (omega arith)
total_set f i (x ∷ cs) (suc n) c l =
    let e : i + suc n ≡ (i + 1) + n = omega arith in
    let h = total_set f (i + 1) cs n c (omega arith) in
    rw e (omega arith)

pub total_change : (f : ℕ → Colour → ℕ) (cs : List Colour) (n : ℕ) (b c : Colour) → n < length cs → get_or cs n New ≡ b → total f 0 (set cs n c) + f n b ≡ total f 0 cs + f n c
total_change f cs n b c l e =
    let h = total_set f 0 cs n c l in
    let z : 0 + n ≡ n = omega arith in
    let h' : total f 0 (set cs n c) + f n (get_or cs n New) ≡ total f 0 cs + f n c = subst (λ k. total f 0 (set cs n c) + f k (get_or cs n New) ≡ total f 0 cs + f k c) z h in
    subst (λ d. total f 0 (set cs n c) + f n d ≡ total f 0 cs + f n c) e h'

module _ (N : Net) where
  pub rest_push : (ts : List Taken) (t : Taken) → rest_path N (ts ++ t ∷ []) ≡ rest_path N ts + (N.pairs t.state - (t.pick + 1))
  rest_push [] t = omega arith
  rest_push (u ∷ ts) t = let h = rest_push ts t in omega arith

  -- the stem and its rest, with one step more
  module _ (stem later : List Taken) (here next : ℕ) (letter : List ℕ) (pushed : later ≡ stem ++ record { state = here; pick = next; letter = letter } ∷ []) where
    pushed_rest : rest_path N later ≡ rest_path N stem + (N.pairs here - (next + 1))
    pushed_rest = rw pushed (rest_push stem (record { state = here; pick = next; letter = letter }))

    pushed_length : length later ≡ length stem + 1
    pushed_length = rw pushed (length-append stem (record { state = here; pick = next; letter = letter } ∷ []))

  -- ---- the first pass
  module _ (cs : List Colour) (stem : List Taken) (here next : ℕ) (x : IsAt N cs stem here next) (more : next < N.pairs here) (room : next + 1 < 2 ^ 64) where
    -- a state is entered
    pub entered : (later : List Taken) (a : Step ℕ) → a.target < N.count → N.successor here next ≡ Some a → colour_at cs a.target ≡ New → later ≡ stem ++ record { state = here; pick = next; letter = a.letter } ∷ [] → IsOn N cs stem here next (set cs a.target Open) later a.target 0
    entered later a inside found was pushed =
        let within : a.target < length cs = (let z = x.sized in omega arith) in
        let changed = changed_set cs a.target Open within in
        let c = total_change (cost N) cs a.target New Open within was in
        let e = total_change (to_enter N) cs a.target New Open within was in
        let r = pushed_rest stem later here next a.letter pushed in
        let l = pushed_length stem later here next a.letter pushed in
        record {
          stands = record {
            sized = length-set cs a.target Open ∙ x.sized;
            explored = subst (λ w. IsExplored N (colour_at (set cs a.target Open)) w a.target 0) (sym pushed)
                (enter N (colour_at cs) (colour_at (set cs a.target Open)) a.target was changed stem here next a (record { state = here; pick = next; letter = a.letter }) x.explored inside (record { within = more; found = found }) refl refl refl refl room);
            closed = enter_closed N (colour_at cs) (colour_at (set cs a.target Open)) a.target was changed x.closed;
          };
          falls = omega arith;
          pays = omega arith;
        }

  -- ---- the second pass
  module _ (cs : List Colour) (stem : List Taken) (root past : ℕ) (path : List Taken) (at next : ℕ) (x : IsProbedAt N stem root past cs path at next) (more : next < N.pairs at) (room : next + 1 < 2 ^ 64) where
    -- a look that finds nothing, or no state to go to
    pub probed : ((a : Step ℕ) → N.successor at next ≡ Some a → colour_at cs a.target ≡ Probed) → IsProbedOn N stem root past cs path at next cs path at (next + 1)
    probed f = record {
      stands = record { sized = x.sized; explored = x.explored; probed = pass_by N (colour_at cs) root path at next x.probed (λ a i. f a i.found) };
      falls = omega arith;
      pays = omega arith;
      enters = refl;
    }

    -- a state that was left is marked
    pub marked : (later : List Taken) (a : Step ℕ) → a.target < N.count → N.successor at next ≡ Some a → colour_at cs a.target ≡ Left → later ≡ path ++ record { state = at; pick = next; letter = a.letter } ∷ [] → IsProbedOn N stem root past cs path at next (set cs a.target Probed) later a.target 0
    marked later a inside found was pushed =
        let within : a.target < length cs = (let z = x.sized in omega arith) in
        let changed = changed_set cs a.target Probed within in
        let c = total_change (cost N) cs a.target Left Probed within was in
        let m = total_change (to_mark N) cs a.target Left Probed within was in
        let e = total_change (to_enter N) cs a.target Left Probed within was in
        let r = pushed_rest path later at next a.letter pushed in
        let l = pushed_length path later at next a.letter pushed in
        record {
          stands = record {
            sized = length-set cs a.target Probed ∙ x.sized;
            explored = mark_explored N (colour_at cs) (colour_at (set cs a.target Probed)) a.target was changed stem root past x.explored;
            probed = subst (λ w. IsProbed N (colour_at (set cs a.target Probed)) root w a.target 0) (sym pushed)
                (descend N (colour_at cs) (colour_at (set cs a.target Probed)) a.target was changed stem root past path at next a (record { state = at; pick = next; letter = a.letter }) x.explored x.probed inside (record { within = more; found = found }) refl refl refl refl room);
          };
          falls = omega arith;
          pays = omega arith;
          enters = omega arith;
        }

    -- the open state is met
    module _ (a : Step ℕ) (found : N.successor at next ≡ Some a) where
      pub met : (pre post : List Taken) → stem ≡ pre ++ post → IsStepPath N N.start pre a.target → IsStepPath N a.target post root → IsMet N pre post root path (record { state = at; pick = next; letter = a.letter })
      met pre post e v w = (a.target, v, w, path_push N root a.target path (record { state = at; pick = next; letter = a.letter }) a x.probed.arrives (record { within = more; found = found }) refl refl)

      -- a state of the stem, or its end
      pub met_at : (pre : List Taken) (t : Taken) (post : List Taken) → stem ≡ pre ++ t ∷ post → t.state ≡ a.target → IsMet N pre (t ∷ post) root path (record { state = at; pick = next; letter = a.letter })
      met_at pre t post e q =
          let s = path_split N N.start root pre t post (subst (λ w. IsStepPath N N.start w root) e x.explored.arrives) in
          met pre (t ∷ post) e (subst (λ n. IsStepPath N N.start pre n) q s.0) (subst (λ n. IsStepPath N n (t ∷ post) root) q s.1)

      pub met_end : colour_at cs a.target ≡ Open → (OneOf (λ t. t.state ≡ a.target) stem → ⊥) → IsMet N stem [] root path (record { state = at; pick = next; letter = a.letter })
      met_end o none =
          let e : a.target ≡ root = elim (x.explored.only a.target o) [ inl h ↦ h | inr h ↦ absurd (none h) ] in
          met stem [] (sym (append_nil stem)) (subst (λ n. IsStepPath N N.start stem n) (sym e) x.explored.arrives) e

      -- by its place on the stem
      pub met_place : (place : ℕ) → place ≤ length stem → (place < length stem → (t : Taken) × (get_or stem place t ≡ t) × (t.state ≡ a.target)) → (place ≡ length stem → OneOf (λ t. t.state ≡ a.target) stem → ⊥) → colour_at cs a.target ≡ Open → IsMet N (take place stem) (drop place stem) root path (record { state = at; pick = next; letter = a.letter })
      met_place place within there absent o = elim (cases_lt place (length stem)) [
        | inl l ↦
            let h = there l in
            let e : drop place stem ≡ h.0 ∷ drop (place + 1) stem = drop_more stem place h.0 l ∙ ap (λ u. u ∷ drop (place + 1) stem) h.1 in
            subst (λ post. IsMet N (take place stem) post root path (record { state = at; pick = next; letter = a.letter })) (sym e)
            (met_at (take place stem) h.0 (drop (place + 1) stem) (sym (take-append-drop place stem) ∙ ap (λ r. take place stem ++ r) e) h.2)
        | inr l ↦
            let q : place ≡ length stem = omega arith in
            let e : drop place stem ≡ [] = drop_all place stem l in
            let f : take place stem ≡ stem = take_all place stem l in
            subst (λ post. IsMet N (take place stem) post root path (record { state = at; pick = next; letter = a.letter })) (sym e)
            (subst (λ pre. IsMet N pre [] root path (record { state = at; pick = next; letter = a.letter })) (sym f) (met_end o (absent q)))
      ]

      -- the same, where the stem was read as `seen`
      pub met_read : (seen : List Taken) → seen ≡ stem → (place : ℕ) → place ≤ length seen → (place < length seen → (t : Taken) × (get_or seen place t ≡ t) × (t.state ≡ a.target)) → (place ≡ length seen → OneOf (λ t. t.state ≡ a.target) seen → ⊥) → colour_at cs a.target ≡ Open → (place ≤ length stem) × IsMet N (take place stem) (drop place stem) root path (record { state = at; pick = next; letter = a.letter })
      met_read seen same place within there absent o = (
        subst (λ w. place ≤ length w) same within,
        met_place place (subst (λ w. place ≤ length w) same within) (subst (λ w. place < length w → (t : Taken) × (get_or w place t ≡ t) × (t.state ≡ a.target)) same there) (subst (λ w. place ≡ length w → OneOf (λ t. t.state ≡ a.target) w → ⊥) same absent) o,
      )

  pub path_rooms : (cs : List Colour) (path : List Taken) → Each (IsMarkedStep N (colour_at cs)) path → Each (λ t. t.pick + 1 < 2 ^ 64) path
  path_rooms cs [] e = tt
  path_rooms cs (t ∷ ts) e = (e.0.room, path_rooms cs ts e.1)

  pub stem_rooms : (cs : List Colour) (path : List Taken) → Each (IsOpenStep N (colour_at cs)) path → Each (λ t. t.pick + 1 < 2 ^ 64) path
  stem_rooms cs [] e = tt
  stem_rooms cs (t ∷ ts) e = (e.0.room, stem_rooms cs ts e.1)

  -- ---- the second pass, in the words of the code
  module _ {A : Type 0} (first path : DfsPath A) (cs : List Colour) where
    pub begun_probe : StandsAt N cs first → IsDone N first → path.stem.items ≡ [] → path.here ≡ first.here → path.next ≡ 0 → IsProbing N cs first path
    begun_probe x done stem here next =
        rw (stem, here, next) (record { sized = x.sized; explored = x.explored; probed = begin N (colour_at cs) _ first.here _ x.explored done x.closed })

    pub back_probing : (ts : DfsPath A) → IsProbing N cs first path → IsDone N path → IsPopped path ts → IsProbing N cs first ts
    back_probing ts x done b =
        let p = retreat N (colour_at cs) first.here _ _ _ x.probed done ts.stem.items b.0 b.1 in
        record { sized = x.sized; explored = x.explored; probed = rw (b.2, b.3) p }

    -- it ends, and nothing was found
    pub ended : (bs : List Colour) → IsProbing N cs first path → IsDone N path → path.stem.items ≡ [] → total (to_enter N) 0 cs ≡ total (to_enter N) 0 bs → HasProbedAt N first.stem.items first.here first.next bs cs
    ended bs x done empty enters =
        let p : IsProbed N (colour_at cs) first.here [] path.here path.next = subst (λ w. IsProbed N (colour_at cs) first.here w path.here path.next) empty x.probed in
        record {
          stands = record { sized = x.sized; explored = x.explored; closed = root_closed N (colour_at cs) _ _ _ _ _ x.explored p done };
          leads = root_leads N (colour_at cs) _ _ _ _ _ x.explored p done;
          turnless = root_turnless N (colour_at cs) _ _ _ _ _ x.explored p done;
          enters = enters;
        }

  pub found_met : {A : Type 0} (first path : DfsPath A) (m : Met) (before cycle : List Taken) → HasMet N first path m → before ≡ take m.place first.stem.items → cycle ≡ drop m.place first.stem.items ++ (path.stem.items ++ m.taken ∷ []) → N.accepts first.here ≡ true → IsFound N before cycle
  found_met first path m before cycle h e f a =
      rw (e, f) (found N h.1.0 first.here h.1.0 (take m.place first.stem.items) (drop m.place first.stem.items) path.stem.items m.taken a h.1.1 h.1.2 h.1.3)

-- ---- counts
pub grown_one : (a b c d : ℕ) → IsGrown a b c → d ≡ counted b 1 → IsGrown a d (c + 1)
grown_one a b c d (inl h) e = let p = h.0 in let q = h.1 in inr (omega arith)
grown_one a b c d (inr h) e = inr (omega arith)

pub grown_then : (a b c d f : ℕ) → IsGrown a b c → IsGrown b d f → IsGrown a d (c + f)
grown_then a b c d f (inl h) (inl k) = let p = h.0 in let q = h.1 in let r = k.0 in let s = k.1 in inl (omega arith, omega arith)
grown_then a b c d f (inl h) (inr k) = let p = h.0 in let q = h.1 in inr (omega arith)
grown_then a b c d f (inr h) (inl k) = let r = k.0 in let s = k.1 in inr (omega arith)
grown_then a b c d f (inr h) (inr k) = inr (omega arith)

-- ---- sums
pub total_le : (f g : ℕ → Colour → ℕ) (i : ℕ) (cs : List Colour) → ((k : ℕ) → k < length cs → f (i + k) (get_or cs k New) ≤ g (i + k) (get_or cs k New)) → total f i cs ≤ total g i cs
total_le f g i [] h = omega arith
total_le f g i (c ∷ cs) h =
    let a : f i c ≤ g i c = subst (λ n. f n c ≤ g n c) (plus_none i) (h 0 (omega arith)) in
    let b = total_le f g (i + 1) cs (λ k l. subst (λ n. f n (get_or cs k New) ≤ g n (get_or cs k New)) (plus_one i k) (h (suc k) (omega arith))) in
    omega arith
  where
    plus_none : (n : ℕ) → n + 0 ≡ n
    plus_none n = omega arith

    plus_one : (n k : ℕ) → n + suc k ≡ (n + 1) + k
    plus_one n k = omega arith

-- a sum that doesn't look at the colours
pub total_plain : (h : ℕ → ℕ) (i : ℕ) (cs : List Colour) → total (λ n c. h n) i cs + sum_below h i ≡ sum_below h (i + length cs)
total_plain h i [] = let e : i + 0 ≡ i = omega arith in rw e (omega arith)
total_plain h i (c ∷ cs) =
    let e : i + suc (length cs) ≡ (i + 1) + length cs = omega arith in
    let r = total_plain h (i + 1) cs in
    let s : sum_below h (i + 1) ≡ sum_below h i + h i = (let q : i + 1 ≡ suc i = omega arith in rw q refl) in
    rw e (omega arith)

pub total_is : (h : ℕ → ℕ) (cs : List Colour) → total (λ n c. h n) 0 cs ≡ sum_below h (length cs)
total_is h cs =
    let r = total_plain h 0 cs in
    let e : 0 + length cs ≡ length cs = omega arith in
    let r' : total (λ n c. h n) 0 cs + sum_below h 0 ≡ sum_below h (length cs) = subst (λ n. total (λ m c. h m) 0 cs + sum_below h 0 ≡ sum_below h n) e r in
    omega arith

double : (f : ℕ → ℕ) (n : ℕ) → sum_below (λ k. f k + f k) n ≡ 2 * sum_below f n
double f zero = omega arith
double f (suc n) = let h = double f n in omega arith

new_everywhere : (n i : ℕ) → get_or (replicate n New) i New ≡ New
new_everywhere zero i = refl
new_everywhere (suc n) zero = refl
new_everywhere (suc n) (suc i) = new_everywhere n i

module _ (N : Net) where
  cost_le : (n : ℕ) (c : Colour) → cost N n c ≤ N.pairs n + N.pairs n
  cost_le n New = omega arith
  cost_le n _ = omega arith

  pub twice : (cs : List Colour) → length cs ≡ N.count → total (cost N) 0 cs ≤ 2 * sum_below N.pairs N.count
  twice cs sized =
      let a = total_le (cost N) (λ n c. N.pairs n + N.pairs n) 0 cs (λ k l. cost_le (0 + k) (get_or cs k New)) in
      let b = total_is (λ n. N.pairs n + N.pairs n) cs in
      let d = double N.pairs (length cs) in
      let e : sum_below N.pairs (length cs) ≡ sum_below N.pairs N.count = ap (sum_below N.pairs) sized in
      omega arith

  none_spent : (i n : ℕ) → total (cost N) i (replicate n New) ≡ 0
  none_spent i zero = refl
  none_spent i (suc n) = let h = none_spent (i + 1) n in omega arith

  -- ---- the first pass begins
  module _ (cs : List Colour) (is : cs ≡ replicate N.count New) (inside : N.start < N.count) where
    before_new : (n : ℕ) → colour_at cs n ≡ New
    before_new n = ap (λ l. get_or l n New) is ∙ new_everywhere N.count n

    pub begun_sized : length cs ≡ N.count
    begun_sized = ap length is ∙ length-replicate N.count New

    pub begun_cost : total (cost N) 0 (set cs N.start Open) ≡ N.pairs N.start
    begun_cost =
        let s = begun_sized in
        let h = total_change (cost N) cs N.start New Open (omega arith) (before_new N.start) in
        let z : total (cost N) 0 cs ≡ 0 = ap (total (cost N) 0) is ∙ none_spent 0 N.count in
        omega arith

  -- ---- a step back
  module _ {A : Type 0} (old new : DfsPath A) (done : IsDone N old) (b : IsPopped old new) where
    pub popped_rest : rest_of N new ≡ rest_of N old
    popped_rest =
        let r : rest_path N old.stem.items ≡ rest_path N new.stem.items + (N.pairs (b.0).state - ((b.0).pick + 1)) = rw b.1 (rest_push N new.stem.items b.0) in
        let e : N.pairs new.here ≡ N.pairs (b.0).state = ap N.pairs b.2 in
        let f = b.3 in
        omega arith

    pub popped_falls : (k : ℕ) → k + rest_of N new + length new.stem.items < k + rest_of N old + length old.stem.items
    popped_falls k =
        let r = popped_rest in
        let l : length old.stem.items ≡ length new.stem.items + 1 = rw b.1 (length-append new.stem.items (b.0 ∷ [])) in
        omega arith

  -- ---- a state is left
  module _ (cs : List Colour) (stem : List Taken) (here next : ℕ) (x : IsExplored N (colour_at cs) stem here next) (sized : length cs ≡ N.count) where
    within : here < length cs
    within = let i = x.inside in omega arith

    pub left_cost : total (cost N) 0 (set cs here Left) ≡ total (cost N) 0 cs
    left_cost = let h = total_change (cost N) cs here Open Left within x.opened in omega arith

    pub marked_cost : total (cost N) 0 (set cs here Probed) ≡ total (cost N) 0 cs + N.pairs here
    marked_cost = let h = total_change (cost N) cs here Open Probed within x.opened in omega arith

    pub most_marked : total (cost N) 0 cs + N.pairs here ≤ 2 * sum_below N.pairs N.count
    most_marked =
        let h = marked_cost in
        let t = twice (set cs here Probed) (length-set cs here Probed ∙ sized) in
        omega arith

    left_by : (c : Colour) → N.pairs here ≤ next → IsClosed N (colour_at cs) → (c ≡ Left) ⊎ (c ≡ Probed) → (N.accepts here ≡ true → Cycles N here → ⊥) → (c ≡ Probed → IsMarkedTo N (colour_at cs) here (N.pairs here)) → HasLeftAt N cs (set cs here c) stem
    left_by c done closed leaves turnless leads =
        let changed = changed_set cs here c within in
        record {
          sized = length-set cs here c ∙ sized;
          closed = leave_closed N (colour_at cs) (colour_at (set cs here c)) stem here next c x done changed leaves turnless closed leads;
          back = record {
            step = leave N (colour_at cs) (colour_at (set cs here c)) stem here next c x done changed leaves turnless;
            over = over N (colour_at cs) (colour_at (set cs here c)) stem here next c x done changed leaves turnless;
            rooms = stem_rooms N cs stem x.steps;
          };
          enters = enters leaves (total_change (to_enter N) cs here Open c within x.opened);
        }
      where
        enters : (c ≡ Left) ⊎ (c ≡ Probed) → total (to_enter N) 0 (set cs here c) + 0 ≡ total (to_enter N) 0 cs + to_enter N here c → total (to_enter N) 0 (set cs here c) ≡ total (to_enter N) 0 cs
        enters (inl e) h = let z : to_enter N here c ≡ 0 = ap (to_enter N here) e in omega arith
        enters (inr e) h = let z : to_enter N here c ≡ 0 = ap (to_enter N here) e in omega arith

  pub left_unmarked : (cs : List Colour) (stem : List Taken) (here next : ℕ) → IsAt N cs stem here next → N.pairs here ≤ next → N.accepts here ≡ false → HasLeftAt N cs (set cs here Left) stem
  left_unmarked cs stem here next x done no_accept = left_by cs stem here next x.explored x.sized Left done x.closed (inl refl) (λ a. absurd (cc)) (λ q. absurd (cc))

  pub left_marked : (bs cs : List Colour) (stem : List Taken) (here next : ℕ) → N.pairs here ≤ next → HasProbedAt N stem here next bs cs → HasLeftAt N bs (set cs here Probed) stem
  left_marked bs cs stem here next done p =
      let x = p.stands in
      let h = left_by cs stem here next x.explored x.sized Probed done x.closed (inr refl) (λ a. p.turnless) (λ q. p.leads) in
      record { sized = h.sized; closed = h.closed; back = h.back; enters = h.enters ∙ p.enters }

  -- back to the step before
  module _ {A : Type 0} (old new : Search A) (dfs_path : DfsPath A) (h : HasLeft N old new) where
    pub left_back : IsPopped new.dfs_path dfs_path → StandsAt N new.colours.items dfs_path
    left_back b =
        let l = h.1 in
        let e = (l.back).step dfs_path.stem.items b.0 b.1 in
        record { sized = l.sized; explored = rw (b.2, b.3) e; closed = l.closed }

    module _ (done : IsDone N old.dfs_path) (b : IsPopped new.dfs_path dfs_path) where
      popped : IsPopped old.dfs_path dfs_path
      popped = subst (λ f. IsPopped f dfs_path) h.0 b

      pub left_rest : rest_of N dfs_path ≡ rest_of N old.dfs_path
      left_rest = popped_rest old.dfs_path dfs_path done popped

      pub left_falls : work N (to_enter N) new.colours.items dfs_path.stem.items dfs_path.here dfs_path.next < work N (to_enter N) old.colours.items old.dfs_path.stem.items old.dfs_path.here old.dfs_path.next
      left_falls =
          let f = popped_falls old.dfs_path dfs_path done popped (total (to_enter N) 0 old.colours.items) in
          let e = h.1.enters in
          omega arith

  -- ---- the looks at the states that are reached
  module _ (cs : List Colour) (o : IsOver N (colour_at cs)) (p : ℕ → Bool) (reached : (n : ℕ) → p n ≡ true → Reached N n) where
    left_pays : (n : ℕ) → IsLeft N (colour_at cs) n → N.pairs n ≤ cost N n (colour_at cs n)
    left_pays n (inl e) = rw e (omega arith)
    left_pays n (inr e) = rw e (omega arith)

    pays : (n : ℕ) (b : Bool) → p n ≡ b → cond b (N.pairs n) 0 ≤ cost N n (colour_at cs n)
    pays n true e = let w = reached n e in left_pays n (left_on N (colour_at cs) o N.start n w.0 o.started w.1)
    pays n false e = omega arith

    pub reached_pays : sum_below (λ n. cond (p n) (N.pairs n) 0) (length cs) ≤ total (cost N) 0 cs
    reached_pays =
        let a = total_le (λ n c. cond (p n) (N.pairs n) 0) (cost N) 0 cs (λ k l. subst (λ n. cond (p n) (N.pairs n) 0 ≤ cost N n (get_or cs k New)) (sym (zero_plus k)) (pays k (p k) refl)) in
        let b = total_is (λ n. cond (p n) (N.pairs n) 0) cs in
        omega arith
      where
        zero_plus : (k : ℕ) → 0 + k ≡ k
        zero_plus k = omega arith

  -- ---- the first pass begins, as the code has it
  module _ (cs : List Colour) (n s : ℕ) (ts : List Taken) (is : cs ≡ replicate n New) (all : n ≡ N.count) (at : s ≡ N.start) (inside : s < N.count) (none : ts ≡ []) where
    is_new : cs ≡ replicate N.count New
    is_new = is ∙ ap (λ k. replicate k New) all

    start_inside : N.start < N.count
    start_inside = subst (λ k. k < N.count) at inside

    pub starts_cost : rest N ts s 0 ≡ total (cost N) 0 (set cs s Open)
    starts_cost =
        let b : total (cost N) 0 (set cs s Open) ≡ N.pairs s = subst (λ k. total (cost N) 0 (set cs k Open) ≡ N.pairs k) (sym at) (begun_cost cs is_new start_inside) in
        let z : rest_path N ts ≡ 0 = ap (rest_path N) none in
        omega arith

  -- the stem is at its end: no looks are left
  pub no_rest : (stem : List Taken) (here next : ℕ) → stem ≡ [] → N.pairs here ≤ next → rest N stem here next ≡ 0
  no_rest stem here next e l = let z : rest_path N stem ≡ 0 = ap (rest_path N) e in omega arith

  -- ---- the looks that were made: of the first pass as many as the colours stand for, but for the rest
  module _ (cs : List Colour) (left old now new : ℕ) (sized : length cs ≡ N.count) (looked : (c : ℕ) × IsGrown old now c × (c + left ≡ total (cost N) 0 cs)) where
    pub most_one : 0 < left → new ≡ counted now 1 → LooksAtMost old new (2 * sum_below N.pairs N.count)
    most_one l e =
        let t = twice cs sized in
        let q = looked.2 in
        (looked.0 + 1, grown_one _ _ _ _ looked.1 e, omega arith)

    pub most_then : LooksAtMost now new (looks_left N cs) → LooksAtMost old new (2 * sum_below N.pairs N.count)
    most_then m =
        let t = twice cs sized in
        let q = looked.2 in
        let r = m.2 in
        (looked.0 + m.0, grown_then _ _ _ _ _ looked.1 m.1, omega arith)

  -- and of the second one
  module _ (bs cs : List Colour) (stem : List Taken) (root past left old now : ℕ) (x : IsExplored N (colour_at cs) stem root past) (sized : length cs ≡ N.count) (looked : (c : ℕ) × IsGrown old now c × (c + left + total (cost N) 0 bs ≡ total (cost N) 0 cs + N.pairs root)) where
    pub most_probing : (new : ℕ) → 0 < left → new ≡ counted now 1 → LooksAtMost old new (looks_left N bs)
    most_probing new l e =
        let m = most_marked cs stem root past x sized in
        let q = looked.2 in
        (looked.0 + 1, grown_one _ _ _ _ looked.1 e, omega arith)

    pub most_probed : LooksAtMost old now (looks_left N bs)
    most_probed =
        let m = most_marked cs stem root past x sized in
        let q = looked.2 in
        (looked.0, looked.1, omega arith)
