-- A parser's frames and nodes, one more and one less.
use Rattle.std.proofs.Common.{◌≡◌, ◌∙◌, ap, sym, refl, subst, ℕ, suc, ◌-◌, ◌<◌, ◌≤◌, true, false, cond, inl, inr, ◌⊎◌, List, [], ◌∷◌, ◌++◌, fold, length, arith, slice_index_or, nat_le, Some, None}
use Rattle.std.proofs.lemmas.Option.{same_Some}
use Rattle.std.proofs.lemmas.List.Sums.{fold-append}
use Rattle.ltl_spec.specs.Formulas.Formula as spec
use Rattle.ltl_spec.specs.Formulas.Grammar.{rank_of}
use Rattle.ltl_spec.proofs.Formulas.GrammarMachine as machine
use Rattle.ltl_syntax.specs.declared.operators.Node.{Node}
use Rattle.ltl_syntax.specs.declared.operators.Node.TheVariants.{Constant, Binary}
use Rattle.ltl_syntax.specs.declared.parser.Frame.{Frame}
use Rattle.ltl_syntax.specs.declared.parser.Frame.TheVariants.{Bracket, Prefix, Pending}
use Rattle.ltl_syntax.specs.FormulaView.{StandsAt, tree_in, tree_of, trees, whole_tree, binary_of}
use Rattle.ltl_syntax.specs.CanonicalWork.{HasOperands}
use Rattle.ltl_syntax.specs.ParserView.{frame_of, with_frame, frames_of, IsBelow, AreBelow, closed_node}
use Rattle.ltl_syntax.proofs.TreeLemmas.{push_length, push_before, push_at, trees_push, trees_length}

-- ---- frames

-- a frame more is on top
pub frames_push : (ts : List spec.Formula) (fs : List Frame) (f : Frame) → frames_of ts (fs ++ f ∷ []) ≡ frame_of ts f ∷ frames_of ts fs
frames_push ts fs f = fold-append (with_frame ts) [] fs (f ∷ [])

pub below_push : (n : ℕ) (fs : List Frame) (f : Frame) → AreBelow n fs → IsBelow n f → AreBelow n (fs ++ f ∷ [])
below_push n [] f b h = (h, tt)
below_push n (g ∷ gs) f b h = (b.0, below_push n gs f b.1 h)

pub below_pop : (n : ℕ) (fs : List Frame) (f : Frame) → AreBelow n (fs ++ f ∷ []) → AreBelow n fs × IsBelow n f
below_pop n [] f b = (tt, b.0)
below_pop n (g ∷ gs) f b = let r = below_pop n gs f b.1 in ((b.0, r.0), r.1)

one_below_more : (n m : ℕ) (f : Frame) → n ≤ m → IsBelow n f → IsBelow m f
one_below_more n m Bracket l b = tt
one_below_more n m (Prefix op) l b = tt
one_below_more n m (Pending i op) l b = omega arith

pub below_more : (n m : ℕ) (fs : List Frame) → n ≤ m → AreBelow n fs → AreBelow m fs
below_more n m [] l b = tt
below_more n m (f ∷ fs) l b = (one_below_more n m f l b.0, below_more n m fs l b.1)

frame_same : (ts us : List spec.Formula) (n : ℕ) (f : Frame) → IsBelow n f → ((j : ℕ) → j < n → tree_in us j ≡ tree_in ts j) → frame_of us f ≡ frame_of ts f
frame_same ts us n Bracket b same = refl
frame_same ts us n (Prefix op) b same = refl
frame_same ts us n (Pending i op) b same = ap (λ t. machine.Pending t (binary_of op)) (same i b)

frames_same : (ts us : List spec.Formula) (n : ℕ) (s : List machine.Frame) (fs : List Frame) → AreBelow n fs → ((j : ℕ) → j < n → tree_in us j ≡ tree_in ts j)
    → fold (with_frame us) s fs ≡ fold (with_frame ts) s fs
frames_same ts us n s [] b same = refl
frames_same ts us n s (f ∷ fs) b same =
    ap (λ g. fold (with_frame us) (g ∷ s) fs) (frame_same ts us n f b.0 same) ∙ frames_same ts us n (frame_of ts f ∷ s) fs b.1 same

-- ---- nodes

-- the tree of the last node
pub whole_push : (ns : List Node) (n : Node) → whole_tree (ns ++ n ∷ []) ≡ tree_of (trees ns) n
whole_push ns n =
    let l = push_length ns n in
    let e : length (ns ++ n ∷ []) - 1 ≡ length (trees ns) = omega (arith, trees_length ns) in
    ap (tree_in (trees (ns ++ n ∷ []))) e ∙ ap (λ ts. tree_in ts (length (trees ns))) (trees_push ns n) ∙ push_at (trees ns) (tree_of (trees ns) n) (spec.Constant false)

-- frames stay with one node more
pub frames_stay : (ns : List Node) (n : Node) (fs : List Frame) → AreBelow (length ns) fs → frames_of (trees (ns ++ n ∷ [])) fs ≡ frames_of (trees ns) fs
frames_stay ns n fs b =
    frames_same (trees ns) (trees (ns ++ n ∷ [])) (length ns) [] fs b (λ j l.
    let k : j < length (trees ns) = omega (arith, trees_length ns) in
    ap (λ ts. tree_in ts j) (trees_push ns n) ∙ push_before (trees ns) (tree_of (trees ns) n) j (spec.Constant false) k)

-- with one node more
pub operands_push : (count : ℕ) (ns : List Node) (n : Node) → HasOperands count ns → StandsAt count (length ns) n → HasOperands count (ns ++ n ∷ [])
operands_push count ns n o s i k = by (grind arith)
  where
    by : (i < length ns) ⊎ (length ns ≤ i) → StandsAt count i (slice_index_or (ns ++ n ∷ []) i (Constant false))
    by (inl l) = subst (StandsAt count i) (sym (push_before ns n i (Constant false) l)) (o i l)
    by (inr l) =
        let long = push_length ns n in
        let e : length ns ≡ i = omega arith in
        subst (λ j. StandsAt count j (slice_index_or (ns ++ n ∷ []) j (Constant false))) e (subst (StandsAt count (length ns)) (sym (push_at ns n (Constant false))) s)

-- ---- closing

-- the node of a frame stands behind its operands
pub closed_stands : (count size most : ℕ) (f : Frame) (n : Node) → 0 < size → IsBelow size f → closed_node f (size - 1) most ≡ Some n → StandsAt count size n
closed_stands count size most Bracket n l b e = cc
closed_stands count size most (Prefix op) n l b e = subst (StandsAt count size) (same_Some _ _ e) (omega arith)
closed_stands count size most (Pending i op) n l b e =
    elim (nat_le (rank_of (binary_of op)) most) as (λ c. cond c (Some (Binary op i (size - 1))) None ≡ Some n → StandsAt count size n) [
      | true ↦ λ d. subst (StandsAt count size) (same_Some _ _ d) (b, omega arith)
      | false ↦ λ d. cc
    ] e

-- the tree of that node, closed further
closed_tree : (most : ℕ) (ns : List Node) (f : Frame) (n : Node) (s : List machine.Frame) → closed_node f (length ns - 1) most ≡ Some n
    → machine.close most (tree_of (trees ns) n) s ≡ machine.close most (whole_tree ns) (frame_of (trees ns) f ∷ s)
closed_tree most ns Bracket n s e = cc
closed_tree most ns (Prefix op) n s e = ap (λ m. machine.close most (tree_of (trees ns) m) s) (sym (same_Some _ _ e))
closed_tree most ns (Pending i op) n s e =
    let op' = binary_of op in
    elim (nat_le (rank_of op') most) as (λ c. cond c (Some (Binary op i (length ns - 1))) None ≡ Some n
    → machine.close most (tree_of (trees ns) n) s
    ≡ cond c (machine.close most (spec.Binary op' (tree_in (trees ns) i) (whole_tree ns)) s) (whole_tree ns, machine.Pending (tree_in (trees ns) i) op' ∷ s)) [
      | true ↦ λ d. ap (λ m. machine.close most (tree_of (trees ns) m) s) (sym (same_Some _ _ d))
      | false ↦ λ d. cc
    ] e

-- a frame closes
pub close_step : (most : ℕ) (ns : List Node) (fs : List Frame) (f : Frame) (n : Node) → AreBelow (length ns) fs → closed_node f (length ns - 1) most ≡ Some n
    → machine.close most (whole_tree (ns ++ n ∷ [])) (frames_of (trees (ns ++ n ∷ [])) fs) ≡ machine.close most (whole_tree ns) (frames_of (trees ns) (fs ++ f ∷ []))
close_step most ns fs f n b e =
    ap (λ F. machine.close most F (frames_of (trees (ns ++ n ∷ [])) fs)) (whole_push ns n)
    ∙ ap (machine.close most (tree_of (trees ns) n)) (frames_stay ns n fs b)
    ∙ closed_tree most ns f n (frames_of (trees ns) fs) e
    ∙ ap (machine.close most (whole_tree ns)) (sym (frames_push (trees ns) fs f))

-- one turn of closing
pub record Turn (most : ℕ) (ns ns' : List Node) (fs fs' : List Frame) : Type 0 where
  pub some : 0 < length ns'
  pub pending : AreBelow (length ns') fs'
  pub same : machine.close most (whole_tree ns') (frames_of (trees ns') fs') ≡ machine.close most (whole_tree ns) (frames_of (trees ns) fs)
  pub operands : (count : ℕ) → HasOperands count ns → HasOperands count ns'
  pub longer : length ns ≤ length ns'

pub close_turn : (most : ℕ) (ns ns' : List Node) (fs fs' : List Frame) (f : Frame) (n : Node) → fs ≡ fs' ++ f ∷ [] → ns' ≡ ns ++ n ∷ [] → closed_node f (length ns - 1) most ≡ Some n
    → 0 < length ns → AreBelow (length ns) fs → Turn most ns ns' fs fs'
close_turn most ns ns' fs fs' f n ef en e l b =
    let long : length ns' ≡ suc (length ns) = ap length en ∙ push_length ns n in
    let parts = below_pop (length ns) fs' f (subst (AreBelow (length ns)) ef b) in
    let Same : List Node → List Frame → Type 0 = λ ms gs. machine.close most (whole_tree ms) (frames_of (trees ms) fs') ≡ machine.close most (whole_tree ns) (frames_of (trees ns) gs) in
    record {
      some = omega arith;
      pending = below_more (length ns) (length ns') fs' (omega arith) parts.0;
      same = subst (λ ms. Same ms fs) (sym en) (subst (Same (ns ++ n ∷ [])) (sym ef) (close_step most ns fs' f n parts.0 e));
      operands = λ count o. subst (HasOperands count) (sym en) (operands_push count ns n o (closed_stands count (length ns) most f n l parts.1 e));
      longer = omega arith;
    }
