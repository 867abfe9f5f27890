-- A parser's state after its steps.
use Rattle.std.proofs.Common.{◌≡◌, ◌∙◌, ap, sym, refl, subst, ℕ, zero, suc, ◌+◌, ◌-◌, ◌<◌, ◌≤◌, Bool, true, false, cond, List, [], ◌∷◌, ◌++◌, fold, length, arith, Option, Some, None, option_to_list, IsSome, MatchOption, append-nil, ◌==◌}
use Rattle.std.proofs.lemmas.Bool.Decides.{nat_tests}
use Rattle.ltl_spec.specs.Semantics.Word.{Name}
use Rattle.ltl_spec.specs.Formulas.Formula as spec
use Rattle.ltl_spec.specs.Formulas.Tokens as tokens
use Rattle.ltl_spec.proofs.Formulas.GrammarMachine as machine
use Rattle.ltl_spec.proofs.Formulas.BeginningLaws.{After, brackets, outline, outline_finished, outline_if, step_outline, walk_step}
use Rattle.ltl_spec.proofs.Formulas.FaultLaws.{kind_at, kind_before}
use Rattle.ltl_spec.specs.Formulas.Fault as fault
use Rattle.ltl_spec.proofs.Formulas.ReaderLaws.{with_name}
use Rattle.std.specs.List.{list_any}
use Rattle.ltl_syntax.specs.declared.token.TokenKind.{TokenKind}
use Rattle.ltl_syntax.specs.declared.token.TokenKind.TheVariants as kinds
use Rattle.ltl_syntax.specs.TokenView.{token_of}
use Rattle.ltl_syntax.specs.declared.operators.Node.{Node}
use Rattle.ltl_syntax.specs.declared.operators.BinaryOperator.{BinaryOperator}
use Rattle.ltl_syntax.specs.declared.parser.Frame.{Frame}
use Rattle.ltl_syntax.specs.declared.parser.Frame.TheVariants.{Bracket, Prefix, Pending}
use Rattle.ltl_syntax.specs.FormulaView.{StandsAt, operands_of, tree_in, tree_of, trees, whole_tree, unary_of, binary_of}
use Rattle.ltl_syntax.specs.CanonicalWork.{HasOperands}
use Rattle.ltl_syntax.specs.ParserView.{ParserView, IsParsing, is_bracket, frame_of, with_frame, frames_of, left_of, reader_of, IsBelow, AreBelow, AreUsedOnce}
use Rattle.ltl_syntax.proofs.CallLemmas.{none_left}
use Rattle.ltl_syntax.proofs.TreeLemmas.{push_length}
use Rattle.ltl_syntax.proofs.ParserLemmas.{below_push, below_pop, below_more, operands_push, frames_push, frames_stay, whole_push}
use Rattle.ltl_syntax.proofs.UseLemmas.{leaf_once, frame_once, frame_gone, pending_once, popped_free}
use Rattle.ltl_spec.proofs.Collections.CaseLaws.{false_is_true}

-- a frame that holds no operand
free_below : (n : ℕ) (f : Frame) → left_of f ≡ [] → IsBelow n f
free_below n Bracket e = tt
free_below n (Prefix op) e = tt
free_below n (Pending i op) e = cc

module _ (ns : List Node) (fs : List Frame) (names : List Name) (has : Bool) (p : IsParsing (record { nodes = ns; frames = fs; names = names; has_operand = has })) where
  pub frame_pushed : (fs' : List Frame) (f : Frame) → fs' ≡ fs ++ f ∷ [] → left_of f ≡ [] → IsParsing (record { nodes = ns; frames = fs'; names = names; has_operand = has })
  frame_pushed fs' f e free = record {
    operands = p.operands;
    once = frame_once ns fs fs' f has e free p.once;
    pending = subst (AreBelow (length ns)) (sym e) (below_push (length ns) fs f p.pending (free_below (length ns) f free));
    some = p.some;
  }

  pub operand_pushed : (now : ParserView) (ns' : List Node) (n : Node) → record { nodes = ns; frames = fs; names = names; has_operand = has } ≡ now → ns' ≡ ns ++ n ∷ []
      → now.has_operand ≡ false → StandsAt (length now.names) (length now.nodes) n → operands_of n ≡ [] → IsParsing (record { nodes = ns'; frames = fs; names = names; has_operand = true })
  operand_pushed now ns' n v e w h leaf =
      let stands : StandsAt (length names) (length ns) n = subst (λ w. StandsAt (length w.names) (length w.nodes) n) (sym v) h in
      let long : length ns' ≡ suc (length ns) = ap length e ∙ push_length ns n in
      record {
        operands = subst (HasOperands (length names)) (sym e) (operands_push (length names) ns n p.operands stands);
        once = leaf_once ns ns' fs n e leaf (subst (AreUsedOnce ns fs) (ap (λ u. u.has_operand) v ∙ w) p.once);
        pending = below_more (length ns) (length ns') fs (omega arith) p.pending;
        some = λ _. omega arith;
      }

  pub operand_reader : (now : ParserView) (ns' : List Node) (n : Node) → record { nodes = ns; frames = fs; names = names; has_operand = has } ≡ now → ns' ≡ ns ++ n ∷ []
      → reader_of (record { nodes = ns'; frames = fs; names = names; has_operand = true }) ≡ machine.Having (tree_of (trees now.nodes) n) (frames_of (trees now.nodes) now.frames)
  operand_reader now ns' n v e =
      ap (λ l. machine.Having (whole_tree l) (frames_of (trees l) fs)) e
      ∙ ap (λ F. machine.Having F (frames_of (trees (ns ++ n ∷ [])) fs)) (whole_push ns n)
      ∙ ap (machine.Having (tree_of (trees ns) n)) (frames_stay ns n fs p.pending)
      ∙ ap (λ w. machine.Having (tree_of (trees w.nodes) n) (frames_of (trees w.nodes) w.frames)) v

  module _ (having : has ≡ true) (ns1 : List Node) (fs1 : List Frame) (operands : (count : ℕ) → HasOperands count ns → HasOperands count ns1) (once : AreUsedOnce ns fs true → AreUsedOnce ns1 fs1 true)
      (pending : AreBelow (length ns1) fs1) (longer : length ns ≤ length ns1) where
    once_kept : AreUsedOnce ns1 fs1 true
    once_kept = once (subst (AreUsedOnce ns fs) having p.once)

    -- after operands were closed over
    pub closed_kept : IsParsing (record { nodes = ns1; frames = fs1; names = names; has_operand = has })
    closed_kept = record {
      operands = operands (length names) p.operands;
      once = subst (AreUsedOnce ns1 fs1) (sym having) once_kept;
      pending = pending;
      some = λ e. let l = p.some e in omega arith;
    }

    -- with the frames as they were
    pub closed_same : (fs2 : List Frame) → fs2 ≡ fs1 → IsParsing (record { nodes = ns1; frames = fs2; names = names; has_operand = has })
    closed_same fs2 e = subst (λ fs'. IsParsing (record { nodes = ns1; frames = fs'; names = names; has_operand = has })) (sym e) closed_kept

    -- and one on top
    pub closed_pending : (now : ParserView) (fs2 : List Frame) (left : ℕ) (op : BinaryOperator) → record { nodes = ns; frames = fs; names = names; has_operand = has } ≡ now → now.has_operand ≡ true
        → left ≡ length ns1 - 1 → fs2 ≡ fs1 ++ Pending left op ∷ [] → IsParsing (record { nodes = ns1; frames = fs2; names = names; has_operand = false })
    closed_pending now fs2 left op v h l e =
        let some = p.some (ap (λ w. w.has_operand) v ∙ h) in
        record {
          operands = closed_kept.operands;
          once = pending_once ns1 fs1 fs2 (Pending left op) e (ap (λ j. j ∷ []) l) once_kept;
          pending = subst (AreBelow (length ns1)) (sym e) (below_push (length ns1) fs1 (Pending left op) pending (omega arith));
          some = λ d. false_is_true d;
        }

    -- and one off
    pub closed_popped : (fs2 : List Frame) (f : Frame) → left_of f ≡ [] → fs1 ≡ fs2 ++ f ∷ [] → IsParsing (record { nodes = ns1; frames = fs2; names = names; has_operand = has })
    closed_popped fs2 f free e = record {
      operands = closed_kept.operands;
      once = frame_gone ns1 fs1 fs2 f has e free closed_kept.once;
      pending = (below_pop (length ns1) fs2 f (subst (AreBelow (length ns1)) e pending)).0;
      some = closed_kept.some;
    }

    -- whichever it is, after all operators have closed
    pub closed_pop : machine.close 5 (whole_tree ns) (frames_of (trees ns) fs) ≡ (whole_tree ns1, frames_of (trees ns1) fs1) → (fs2 : List Frame) (o : Option Frame) → fs1 ≡ fs2 ++ option_to_list o
        → IsParsing (record { nodes = ns1; frames = fs2; names = names; has_operand = has })
    closed_pop closed fs2 None e = closed_same fs2 (sym (e ∙ append-nil fs2))
    closed_pop closed fs2 (Some f) e = closed_popped fs2 f (popped_free (trees ns1) (whole_tree ns) (whole_tree ns1) (frames_of (trees ns) fs) fs1 fs2 f closed e) e

-- ---- the reader

-- a test for zero
pub zero_from_test : (n : ℕ) → (n == 0) ≡ true → n ≡ 0
zero_from_test n e = grind (arith, nat_tests, e)

-- a reader that has an operand
pub having : (now : ParserView) → now.has_operand ≡ true → reader_of now ≡ machine.Having (whole_tree now.nodes) (frames_of (trees now.nodes) now.frames)
having now h = ap (λ b. cond b (machine.Having (whole_tree now.nodes) (frames_of (trees now.nodes) now.frames)) (machine.Wanting (frames_of (trees now.nodes) now.frames))) h

-- what closing does to the reader
module _ (now : ParserView) (ns ns1 : List Node) (fs fs1 : List Frame) (names : List Name) (has : Bool) (most : ℕ) (v : record { nodes = ns; frames = fs; names = names; has_operand = has } ≡ now)
    (h : now.has_operand ≡ true) (closed : machine.close most (whole_tree ns) (frames_of (trees ns) fs) ≡ (whole_tree ns1, frames_of (trees ns1) fs1)) where
  closed_now : machine.close most (whole_tree now.nodes) (frames_of (trees now.nodes) now.frames) ≡ (whole_tree ns1, frames_of (trees ns1) fs1)
  closed_now = ap (λ w. machine.close most (whole_tree w.nodes) (frames_of (trees w.nodes) w.frames)) (sym v) ∙ closed

  -- an operator is put behind the operand
  pub step_pending : (fs2 : List Frame) (left : ℕ) (op : BinaryOperator) → most ≡ machine.left_rank (binary_of op) → left ≡ length ns1 - 1 → fs2 ≡ fs1 ++ Pending left op ∷ []
      → (l : List Name) → machine.read_step l (reader_of now) (tokens.BinarySign (binary_of op)) ≡ Some (reader_of (record { nodes = ns1; frames = fs2; names = names; has_operand = false }))
  step_pending fs2 left op m e f l =
      let op' = binary_of op in
      let Step : spec.Formula × List machine.Frame → Option machine.Reader = λ c. Some (machine.Wanting (machine.Pending c.0 op' ∷ c.1)) in
      let closed_most : machine.close (machine.left_rank op') (whole_tree now.nodes) (frames_of (trees now.nodes) now.frames) ≡ (whole_tree ns1, frames_of (trees ns1) fs1) =
      subst (λ n. machine.close n (whole_tree now.nodes) (frames_of (trees now.nodes) now.frames) ≡ (whole_tree ns1, frames_of (trees ns1) fs1)) m closed_now in
      let frames : frames_of (trees ns1) fs2 ≡ machine.Pending (whole_tree ns1) op' ∷ frames_of (trees ns1) fs1 =
      ap (frames_of (trees ns1)) (f ∙ ap (λ j. fs1 ++ Pending j op ∷ []) e) ∙ frames_push (trees ns1) fs1 (Pending (length ns1 - 1) op) in
      ap (λ r. machine.read_step l r (tokens.BinarySign op')) (having now h) ∙ ap Step closed_most ∙ ap (λ s. Some (machine.Wanting s)) (sym frames)

  -- a bracket closes
  pub step_close : (fs2 : List Frame) → most ≡ 5 → fs1 ≡ fs2 ++ Bracket ∷ []
      → (l : List Name) → machine.read_step l (reader_of now) tokens.Close ≡ Some (reader_of (record { nodes = ns1; frames = fs2; names = names; has_operand = true }))
  step_close fs2 m f l =
      let closed_most : machine.close 5 (whole_tree now.nodes) (frames_of (trees now.nodes) now.frames) ≡ (whole_tree ns1, frames_of (trees ns1) fs1) =
      subst (λ n. machine.close n (whole_tree now.nodes) (frames_of (trees now.nodes) now.frames) ≡ (whole_tree ns1, frames_of (trees ns1) fs1)) m closed_now in
      let frames : frames_of (trees ns1) fs1 ≡ machine.Bracket ∷ frames_of (trees ns1) fs2 = ap (frames_of (trees ns1)) f ∙ frames_push (trees ns1) fs2 Bracket in
      ap (λ r. machine.read_step l r tokens.Close) (having now h) ∙ ap (λ c. machine.unbracketed c.0 c.1) closed_most ∙ ap (machine.unbracketed (whole_tree ns1)) frames

  -- no bracket is open
  pub step_unopened : most ≡ 5 → fs1 ≡ [] → (l : List Name) → machine.read_step l (reader_of now) tokens.Close ≡ None
  step_unopened m f l =
      let closed_most : machine.close 5 (whole_tree now.nodes) (frames_of (trees now.nodes) now.frames) ≡ (whole_tree ns1, frames_of (trees ns1) fs1) =
      subst (λ n. machine.close n (whole_tree now.nodes) (frames_of (trees now.nodes) now.frames) ≡ (whole_tree ns1, frames_of (trees ns1) fs1)) m closed_now in
      ap (λ r. machine.read_step l r tokens.Close) (having now h) ∙ ap (λ c. machine.unbracketed c.0 c.1) closed_most ∙ ap (λ s. machine.unbracketed (whole_tree ns1) (frames_of (trees ns1) s)) f

  -- another frame is on top
  pub step_other : (fs2 : List Frame) (g : Frame) → (g ≡ Bracket → ⊥) → most ≡ 5 → fs1 ≡ fs2 ++ g ∷ [] → (l : List Name) → machine.read_step l (reader_of now) tokens.Close ≡ None
  step_other fs2 g other m f l =
      let closed_most : machine.close 5 (whole_tree now.nodes) (frames_of (trees now.nodes) now.frames) ≡ (whole_tree ns1, frames_of (trees ns1) fs1) =
      subst (λ n. machine.close n (whole_tree now.nodes) (frames_of (trees now.nodes) now.frames) ≡ (whole_tree ns1, frames_of (trees ns1) fs1)) m closed_now in
      ap (λ r. machine.read_step l r tokens.Close) (having now h) ∙ ap (λ c. machine.unbracketed c.0 c.1) closed_most
      ∙ ap (machine.unbracketed (whole_tree ns1)) (ap (frames_of (trees ns1)) f ∙ frames_push (trees ns1) fs2 g) ∙ not_bracket g other
    where
      not_bracket : (f' : Frame) → (f' ≡ Bracket → ⊥) → machine.unbracketed (whole_tree ns1) (frame_of (trees ns1) f' ∷ frames_of (trees ns1) fs2) ≡ None
      not_bracket Bracket o = absurd (o refl)
      not_bracket (Prefix op) o = refl
      not_bracket (Pending i op) o = refl

  -- what came off decides
  pub step_popped : (fs2 : List Frame) (o : Option Frame) (b : Bool) → most ≡ 5 → fs1 ≡ fs2 ++ option_to_list o
      → (0 < length fs1 → IsSome o) → MatchOption o (b ≡ false) (λ f. b ≡ is_bracket f)
      → (l : List Name) → machine.read_step l (reader_of now) tokens.Close ≡ cond b (Some (reader_of (record { nodes = ns1; frames = fs2; names = names; has_operand = has }))) None
  step_popped fs2 None b most_is e some t l =
      step_unopened most_is (none_left fs1 some) l
      ∙ ap (λ c. cond c (Some (reader_of (record { nodes = ns1; frames = fs2; names = names; has_operand = has }))) None) (sym t)
  step_popped fs2 (Some Bracket) b most_is e some t l =
      step_close fs2 most_is e l ∙ ap (λ c. Some (reader_of (record { nodes = ns1; frames = fs2; names = names; has_operand = c }))) (sym (ap (λ w. w.has_operand) v ∙ h))
      ∙ ap (λ c. cond c (Some (reader_of (record { nodes = ns1; frames = fs2; names = names; has_operand = has }))) None) (sym t)
  step_popped fs2 (Some (Prefix op)) b most_is e some t l =
      step_other fs2 (Prefix op) (λ d. cc) most_is e l
      ∙ ap (λ c. cond c (Some (reader_of (record { nodes = ns1; frames = fs2; names = names; has_operand = has }))) None) (sym t)
  step_popped fs2 (Some (Pending i op)) b most_is e some t l =
      step_other fs2 (Pending i op) (λ d. cc) most_is e l
      ∙ ap (λ c. cond c (Some (reader_of (record { nodes = ns1; frames = fs2; names = names; has_operand = has }))) None) (sym t)

  -- all is closed
  pub finish_closed : most ≡ 5 → fs1 ≡ [] → machine.finished (reader_of now) ≡ Some (whole_tree ns1)
  finish_closed m f =
      let closed_most : machine.close 5 (whole_tree now.nodes) (frames_of (trees now.nodes) now.frames) ≡ (whole_tree ns1, frames_of (trees ns1) fs1) =
      subst (λ n. machine.close n (whole_tree now.nodes) (frames_of (trees now.nodes) now.frames) ≡ (whole_tree ns1, frames_of (trees ns1) fs1)) m closed_now in
      ap machine.finished (having now h) ∙ ap (λ c. machine.unopened c.0 c.1) closed_most ∙ ap (λ s. machine.unopened (whole_tree ns1) (frames_of (trees ns1) s)) f

  -- something is still open
  pub finish_open : most ≡ 5 → (fs1 ≡ [] → ⊥) → machine.finished (reader_of now) ≡ None
  finish_open m some =
      let closed_most : machine.close 5 (whole_tree now.nodes) (frames_of (trees now.nodes) now.frames) ≡ (whole_tree ns1, frames_of (trees ns1) fs1) =
      subst (λ n. machine.close n (whole_tree now.nodes) (frames_of (trees now.nodes) now.frames) ≡ (whole_tree ns1, frames_of (trees ns1) fs1)) m closed_now in
      ap machine.finished (having now h) ∙ ap (λ c. machine.unopened c.0 c.1) closed_most ∙ not_none (frames_of (trees ns1) fs1) (λ e. some (none_from fs1 e))
    where
      not_none : (s : List machine.Frame) → (s ≡ [] → ⊥) → machine.unopened (whole_tree ns1) s ≡ None
      not_none [] o = absurd (o refl)
      not_none (f ∷ s) o = refl

      none_from : (fs : List Frame) → frames_of (trees ns1) fs ≡ [] → fs ≡ []
      none_from fs e = empty_length fs (sym (count_frames [] fs) ∙ ap length e)
        where
          count_frames : (s : List machine.Frame) (gs : List Frame) → length (fold (with_frame (trees ns1)) s gs) ≡ length s + length gs
          count_frames s [] = omega arith
          count_frames s (g ∷ gs) = let m = count_frames (frame_of (trees ns1) g ∷ s) gs in omega arith

          empty_length : (gs : List Frame) → 0 + length gs ≡ 0 → gs ≡ []
          empty_length [] z = refl
          empty_length (g ∷ gs) z = absurd (omega arith)

-- ---- what is expected

-- an operand on which nothing closes stands in a bracket
pub expects_open : (now : ParserView) → now.has_operand ≡ true → machine.finished (reader_of now) ≡ None → fault.ExpectedCloseOrOperator ≡ kind_before (outline (reader_of now))
expects_open now h e =
    let F = whole_tree now.nodes in
    let s = frames_of (trees now.nodes) now.frames in
    by F s (brackets s) refl (ap machine.finished (sym (having now h)) ∙ e) ∙ ap (λ r. kind_before (outline r)) (sym (having now h))
  where
    by : (F : spec.Formula) (s : List machine.Frame) (n : ℕ) → brackets s ≡ n → machine.finished (machine.Having F s) ≡ None → fault.ExpectedCloseOrOperator ≡ kind_before (After (brackets s))
    by F s zero b none = let w = outline_finished (Some (machine.Having F s)) (ap (λ k. Some (After k)) b) in absurd (let h0 = sym none ∙ w.1 in cc)
    by F s (suc n) b none = ap (λ k. kind_before (After k)) (sym b)

-- how many brackets there are among the frames
abbrev open_count : List Frame → ℕ
open_count [] = 0
open_count (Bracket ∷ fs) = suc (open_count fs)
open_count (Prefix op ∷ fs) = open_count fs
open_count (Pending i op ∷ fs) = open_count fs

-- as many as the definitions' reader has open
bracket_count : (ts : List spec.Formula) (s : List machine.Frame) (fs : List Frame) → brackets (fold (with_frame ts) s fs) ≡ brackets s + open_count fs
bracket_count ts s [] = omega arith
bracket_count ts s (Bracket ∷ fs) = let e : brackets (fold (with_frame ts) (machine.Bracket ∷ s) fs) ≡ suc (brackets s) + open_count fs = bracket_count ts (machine.Bracket ∷ s) fs in e ∙ omega arith
bracket_count ts s (Prefix op ∷ fs) = bracket_count ts (machine.Prefix (unary_of op) ∷ s) fs
bracket_count ts s (Pending i op ∷ fs) = bracket_count ts (machine.Pending (tree_in ts i) (binary_of op) ∷ s) fs

no_bracket : (fs : List Frame) → list_any is_bracket fs ≡ false → open_count fs ≡ 0
no_bracket [] e = refl
no_bracket (Bracket ∷ fs) e = cc
no_bracket (Prefix op ∷ fs) e = no_bracket fs e
no_bracket (Pending i op ∷ fs) e = no_bracket fs e

some_bracket : (fs : List Frame) → list_any is_bracket fs ≡ true → 1 ≤ open_count fs
some_bracket [] e = cc
some_bracket (Bracket ∷ fs) e = let m = open_count fs in (omega arith)
some_bracket (Prefix op ∷ fs) e = some_bracket fs e
some_bracket (Pending i op ∷ fs) e = some_bracket fs e

-- a bracket is open
pub expects_close : (now : ParserView) → now.has_operand ≡ true → list_any is_bracket now.frames ≡ true → fault.ExpectedCloseOrOperator ≡ kind_before (outline (reader_of now))
expects_close now h b =
    let some = some_bracket now.frames b in
    let n = brackets (frames_of (trees now.nodes) now.frames) in
    let e : suc (n - 1) ≡ n = omega (arith, bracket_count (trees now.nodes) [] now.frames) in
    ap (λ k. kind_before (After k)) e ∙ ap (λ r. kind_before (outline r)) (sym (having now h))

-- none is
pub expects_end : (now : ParserView) → now.has_operand ≡ true → list_any is_bracket now.frames ≡ false → fault.ExpectedOperatorOrEnd ≡ kind_before (outline (reader_of now))
expects_end now h b =
    let none = no_bracket now.frames b in
    let n = brackets (frames_of (trees now.nodes) now.frames) in
    let e : 0 ≡ n = omega (arith, bracket_count (trees now.nodes) [] now.frames) in
    ap (λ k. kind_before (After k)) e ∙ ap (λ r. kind_before (outline r)) (sym (having now h))

-- no bracket closes
pub expects_no_close : (now : ParserView) → now.has_operand ≡ true → machine.read_step [] (reader_of now) tokens.Close ≡ None → fault.ExpectedOperatorOrEnd ≡ kind_before (outline (reader_of now))
expects_no_close now h e =
    let F = whole_tree now.nodes in
    let s = frames_of (trees now.nodes) now.frames in
    by (brackets s) (ap outline_if (sym e) ∙ step_outline [] (reader_of now) tokens.Close ∙ ap (λ r. walk_step (outline r) tokens.Close) (having now h))
    ∙ ap (λ r. kind_before (outline r)) (sym (having now h))
  where
    by : (n : ℕ) → None ≡ walk_step (After n) tokens.Close → fault.ExpectedOperatorOrEnd ≡ kind_before (After n)
    by zero w = refl
    by (suc n) w = cc

-- a bracket that closes nothing is told
pub refuses_close : (now : ParserView) (kind : TokenKind) (start : ℕ) (b : Bool) (r : machine.Reader) → now.has_operand ≡ true → kind ≡ kinds.Close → b ≡ false
    → ((l : List Name) → machine.read_step l (reader_of now) tokens.Close ≡ cond b (Some r) None)
    → (word : Name) → (start ≡ start) × (fault.ExpectedOperatorOrEnd ≡ kind_at (outline (reader_of now)) (token_of word kind))
    × (machine.read_step (with_name now.names (token_of word kind)) (reader_of now) (token_of word kind) ≡ None)
refuses_close now kind start b r h k f stuck word =
    let none : (l : List Name) → machine.read_step l (reader_of now) tokens.Close ≡ None = λ l. stuck l ∙ ap (λ c. cond c (Some r) None) f in
    let P : TokenKind → Type 0 = λ t. (start ≡ start) × (fault.ExpectedOperatorOrEnd ≡ kind_at (outline (reader_of now)) (token_of word t))
    × (machine.read_step (with_name now.names (token_of word t)) (reader_of now) (token_of word t) ≡ None) in
    subst P (sym k) (refl, expects_no_close now h (none []), none now.names)
