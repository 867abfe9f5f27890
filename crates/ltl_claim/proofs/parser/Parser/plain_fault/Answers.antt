use Rattle.std.proofs.Common.{◌∙◌, ap, sym, Bool, Some, None}
use Rattle.std.specs.Prelude.{if◌then◌else◌, ◌&&◌}
use Rattle.ltl_claim.specs.ClaimFault as fault
use Rattle.ltl_claim.specs.ClaimStep as step
use Rattle.ltl_claim.specs.ProgramView.{built_of}
use Rattle.ltl_claim.specs.SymbolView.{symbol_of}
use Rattle.ltl_claim.proofs.parser.Parser.plain_fault.Goals as goal

pub returns-then-is_full_at : goal.returns-then-is_full_at
returns-then-is_full_at g c = λ all e.
    ap (λ (x : Bool). if x then Some fault.LimitPassed else if step.begins_operand (symbol_of c.args.symbol) && step.is_past c.args.word.now (built_of all c.args.self.now.built) then Some fault.LimitPassed else None)
    (sym c.if-is_full_at.true ∙ c.is_full_at.ensures all)

pub returns-then-is_past_at : goal.returns-then-is_past_at
returns-then-is_past_at g c = λ all e.
    ap (λ (y : Bool). if y then Some fault.LimitPassed else None) (sym c.if-is_past_at.true ∙ c.is_past_at.ensures all e)
    ∙ ap (λ (x : Bool). if x then Some fault.LimitPassed else if step.begins_operand (symbol_of c.args.symbol) && step.is_past c.args.word.now (built_of all c.args.self.now.built) then Some fault.LimitPassed else None)
    (sym c.if-is_full_at.false ∙ c.is_full_at.ensures all)

pub returns : goal.returns
returns g c = λ all e.
    ap (λ (y : Bool). if y then Some fault.LimitPassed else None) (sym c.if-is_past_at.false ∙ c.is_past_at.ensures all e)
    ∙ ap (λ (x : Bool). if x then Some fault.LimitPassed else if step.begins_operand (symbol_of c.args.symbol) && step.is_past c.args.word.now (built_of all c.args.self.now.built) then Some fault.LimitPassed else None)
    (sym c.if-is_full_at.false ∙ c.is_full_at.ensures all)
