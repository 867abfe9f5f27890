-- The arrows from a state stand for its edges.
use Rattle.std.proofs.Common.{◌≡◌, ◌∙◌, ap, ap₂, sym, refl, subst, ℕ, suc, ◌+◌, ◌<◌, inl, inr, Bool, true, false, cond, List, [], ◌∷◌, length, map, arith}
use Rattle.std.specs.Prelude.{◌==◌, sum_by}
use Rattle.std.specs.List.{filter, range_with_len}
use Rattle.std.specs.Ordering.{nat_cmp}
use Rattle.std.proofs.lemmas.List.FromFn.{length-range_with_len}
use Rattle.std.proofs.lemmas.List.Sums.{sum_by-cons}
use Rattle.ltl_spec.specs.Collections.Sets.{Has, set_of}
use Rattle.ltl_spec.specs.Collections.Lists.{HasNoRepeats}
use Rattle.ltl_spec.specs.Automata.Automaton.{Edge}
use Rattle.ltl_spec.proofs.Collections.Orders.{nat_linear}
use Rattle.ltl_spec.proofs.Collections.ProductLists.{rising_once}
use Rattle.ltl_spec.proofs.Collections.SetLaws.{IsRising-set_of, Has-set_of, filter_cases, Has-filter}
use Rattle.ltl_spec.proofs.Collections.MemberLaws.{Has-map, map_cases}
use Rattle.ltl_text.proofs.BlockLaws.{unequal}
use Rattle.ltl_spec.proofs.Collections.ListLaws.{Has-at}
use Rattle.ltl_sets.specs.PlaceLaws.{Has-range}
use Rattle.ltl_text.specs.Options.{edge_at}
use Rattle.ltl_text.proofs.OptionLaws.{range_below, same_test}
use Rattle.ltl_pictures.specs.Picture.{Arrow, arrow_to}
use Rattle.ltl_pictures.specs.Drawn.{AreDrawn, IsDrawn}

-- how often a number is in a list
abbrev ones : ℕ → List ℕ → ℕ
ones x ts = sum_by (λ t. cond (x == t) 1 0) ts

ones_more : (x t : ℕ) (ts : List ℕ) → ones x (t ∷ ts) ≡ cond (x == t) 1 0 + ones x ts
ones_more x t ts = sum_by-cons (λ (s : ℕ). cond (x == s) 1 0) t ts

ones_none : (x : ℕ) (ts : List ℕ) → ¬ (Has ts x) → ones x ts ≡ 0
ones_none x [] h = refl
ones_none x (t ∷ ts) h = ones_more x t ts ∙ ap₂ (λ (b : Bool) (n : ℕ). cond b 1 0 + n) (unequal x t (λ e. h (inl e))) (ones_none x ts (λ k. h (inr k)))

ones_one : (x : ℕ) (ts : List ℕ) → HasNoRepeats ts → Has ts x → ones x ts ≡ 1
ones_one x [] d h = absurd h
ones_one x (t ∷ ts) d (inl e) = ones_more x t ts ∙ ap₂ (λ (b : Bool) (n : ℕ). cond b 1 0 + n) (same_test x t e) (ones_none x ts (subst (λ z. ¬ (Has ts z)) (sym e) d.0))
ones_one x (t ∷ ts) d (inr h) = ones_more x t ts ∙ ap₂ (λ (b : Bool) (n : ℕ). cond b 1 0 + n) (unequal x t (λ e. d.0 (subst (Has ts) e h))) (ones_one x ts d.1 h)

module _ (k : ℕ) (target : ℕ → ℕ) where
  -- the arrow to a target with those of the places that lead to it
  abbrev grouped : List ℕ → ℕ → Arrow
  grouped ps t = record { from = k; to = t; places = filter (λ p. target p == t) ps }

  abbrev total : List ℕ → List ℕ → ℕ
  total ps ts = sum_by (λ (a : Arrow). length a.places) (map (grouped ps) ts)

  total_next : (ps : List ℕ) (t : ℕ) (ts : List ℕ) → total ps (t ∷ ts) ≡ length (filter (λ p. target p == t) ps) + total ps ts
  total_next ps t ts = sum_by-cons (λ (a : Arrow). length a.places) (grouped ps t) (map (grouped ps) ts)

  total_none : (ts : List ℕ) → total [] ts ≡ 0
  total_none [] = refl
  total_none (t ∷ ts) = total_next [] t ts ∙ ap (λ n. 0 + n) (total_none ts)

  one_longer : (b : Bool) (p : ℕ) (xs : List ℕ) → length (cond b (p ∷ xs) xs) ≡ cond b 1 0 + length xs
  one_longer true p xs = omega arith
  one_longer false p xs = omega arith

  -- a place more
  total_more : (p : ℕ) (ps : List ℕ) (ts : List ℕ) → total (p ∷ ps) ts ≡ ones (target p) ts + total ps ts
  total_more p ps [] = refl
  total_more p ps (t ∷ ts) =
      total_next (p ∷ ps) t ts ∙ ap₂ (λ a b. a + b) (one_longer (target p == t) p (filter (λ q. target q == t) ps)) (total_more p ps ts)
      ∙ shuffled (cond (target p == t) 1 0) (length (filter (λ q. target q == t) ps)) (ones (target p) ts) (total ps ts)
      ∙ sym (ap₂ (λ a b. a + b) (ones_more (target p) t ts) (total_next ps t ts))
    where
      shuffled : (a b c d : ℕ) → a + b + (c + d) ≡ a + c + (b + d)
      shuffled a b c d = omega arith

  counts : (ps : List ℕ) (ts : List ℕ) → HasNoRepeats ts → ((p : ℕ) → Has ps p → Has ts (target p)) → total ps ts ≡ length ps
  counts [] ts d h = total_none ts
  counts (p ∷ ps) ts d h = total_more p ps ts ∙ ap₂ (λ a b. a + b) (ones_one (target p) ts d (h p (inl refl))) (counts ps ts d (λ q m. h q (inr m))) ∙ one_more (length ps)
    where
      one_more : (n : ℕ) → 1 + n ≡ suc n
      one_more n = omega arith

module _ (k : ℕ) (es : List Edge) where
  ends_are : (ts : List ℕ) → ts ≡ map (λ (a : Arrow). a.to) (map (arrow_to k es) ts)
  ends_are [] = refl
  ends_are (t ∷ ts) = ap (λ xs. t ∷ xs) (ends_are ts)

  abbrev all_places : List ℕ
  all_places = range_with_len 0 (length es)

  abbrev targets : List ℕ
  targets = set_of nat_cmp (map (λ (e : Edge). e.target) es)

  once : HasNoRepeats targets
  once = rising_once nat_linear targets (IsRising-set_of nat_linear (map (λ (e : Edge). e.target) es))

  within : (p : ℕ) → Has all_places p → p < length es
  within p h = let l = range_below 0 (length es) p h in omega (arith, l)

  reached : (p : ℕ) → p < length es → Has targets (edge_at es p).target
  reached p l =
      Has-set_of nat_linear (map (λ (x : Edge). x.target) es) (edge_at es p).target
      (Has-map (λ (x : Edge). x.target) es (edge_at es p) (Has-at es p (record { cube = []; target = 0; marks = [] }) l))

  is_there : (p : ℕ) → p < length es → IsDrawn k es p
  is_there p l = (
    arrow_to k es (edge_at es p).target,
    Has-map (arrow_to k es) targets (edge_at es p).target (reached p l),
    refl,
    refl,
    Has-filter (λ q. (edge_at es q).target == (edge_at es p).target) all_places p (Has-range 0 (length es) p (omega arith) (omega (arith, l))) (same_test (edge_at es p).target (edge_at es p).target refl),
  )

  was_there : (p : ℕ) → IsDrawn k es p → p < length es
  was_there p (a, h, f, t, m) =
      let (to, i, is) = map_cases (arrow_to k es) targets a h in
      within p (filter_cases (λ q. (edge_at es q).target == to) all_places p (subst (λ (b : Arrow). Has b.places p) is m)).0

  pub are_drawn : AreDrawn k es
  are_drawn = record {
    drawn = λ p. (is_there p, was_there p);
    counted = counts k (λ p. (edge_at es p).target) all_places targets once (λ p h. reached p (within p h)) ∙ length-range_with_len 0 (length es);
    joined = subst HasNoRepeats (ends_are targets) once;
  }
