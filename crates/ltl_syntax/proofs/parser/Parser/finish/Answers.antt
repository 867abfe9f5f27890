use Rattle.std.proofs.Common.{rules, ◌≡◌, ◌∙◌, ◌==◌, ap, sym, subst, true, false, [], length, arith, refl}
use Rattle.ltl_syntax.specs.ParserView.{AreUsedOnce}
use Rattle.ltl_syntax.proofs.StateLemmas.{closed_kept, zero_from_test, finish_closed, finish_open, expects_open}
use Rattle.ltl_syntax.proofs.parser.Parser.finish.Goals as goal
use Rattle.std.proofs.lemmas.List.{nil_from_length}

pub invariant_of-self : goal.invariant_of-self
invariant_of-self g c =
    let has : c.self.inside.has_operand ≡ true = search rules in
    closed_kept _ _ _ _ c.self.invariant has c.close.new.nodes.items c.close.new.frames.items c.in_err-close.ensures.operands c.in_err-close.ensures.once c.in_err-close.ensures.pending c.in_err-close.ensures.longer

pub invariant_of-self-then-not-is_empty : goal.invariant_of-self-then-not-is_empty
invariant_of-self-then-not-is_empty g c =
    let has : c.self.inside.has_operand ≡ true = search rules in
    closed_kept _ _ _ _ c.self.invariant has c.close.new.nodes.items c.close.new.frames.items c.in_ok-close.ensures.operands c.in_ok-close.ensures.once c.in_ok-close.ensures.pending c.in_ok-close.ensures.longer

pub returns-then-not-is_empty : goal.returns-then-not-is_empty
returns-then-not-is_empty g c =
    let has : c.self.inside.has_operand ≡ true = search rules in
    let full : (length c.close.new.frames.items == 0) ≡ false = search rules in
    let now_has : c.args.self.now.has_operand ≡ true = sym (ap (λ v. v.has_operand) c.self.view_is) ∙ has in
    let unfinished = finish_open c.args.self.now _ c.close.new.nodes.items _ c.close.new.frames.items _ _ 5 c.self.view_is now_has c.in_ok-close.ensures.closed refl
    (λ e. let empty : (length c.close.new.frames.items == 0) ≡ true = ap (λ k. k == 0) (ap length e) in cc) in
    (refl, expects_open c.args.self.now now_has unfinished, unfinished)

pub invariant_of-self-2 : goal.invariant_of-self-2
invariant_of-self-2 g c =
    let has : c.self.inside.has_operand ≡ true = search rules in
    closed_kept _ _ _ _ c.self.invariant has c.close.new.nodes.items c.close.new.frames.items c.in_ok-close.ensures.operands c.in_ok-close.ensures.once c.in_ok-close.ensures.pending c.in_ok-close.ensures.longer

pub returns : goal.returns
returns g c =
    let has : c.self.inside.has_operand ≡ true = search rules in
    let now_has : c.args.self.now.has_operand ≡ true = sym (ap (λ v. v.has_operand) c.self.view_is) ∙ has in
    let tested : (length c.close.new.frames.items == 0) ≡ true = search rules in
    let none : length c.close.new.frames.items ≡ 0 = zero_from_test _ tested in
    let some = c.self.invariant.some has in
    let empty : c.close.new.frames.items ≡ [] = nil_from_length c.close.new.frames.items none in
    let longer = c.in_ok-close.ensures.longer in (
      finish_closed c.args.self.now _ c.close.new.nodes.items _ c.close.new.frames.items _ _ 5 c.self.view_is now_has c.in_ok-close.ensures.closed refl
          empty,
      ap (λ v. v.names) c.self.view_is,
      omega arith,
      subst (λ fs. AreUsedOnce c.close.new.nodes.items fs true) empty (c.in_ok-close.ensures.once (subst (AreUsedOnce c.self.inside.nodes.items c.self.inside.frames.items) has c.self.invariant.once)),
    )
