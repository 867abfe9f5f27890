-- Worked examples of the reader's verdicts.
use Rattle.std.proofs.Common.{◌≡◌, ℕ, [], ◌∷◌, length, map, List, Ok, Err, codes, refl}
use Rattle.ltl_spec.specs.Formulas.Formula.{Constant, Proposition, Unary, Binary, Not, Next, Always, Eventually, And, Or, Implies, Iff, Until, Release}
use Rattle.ltl_spec.specs.Formulas.Tokens.{items}
use Rattle.ltl_spec.specs.Formulas.Canonical.{canonical_text}
use Rattle.ltl_spec.specs.Formulas.Fault.{UnexpectedByte, ExpectedOperand, ExpectedOperatorOrEnd, ExpectedCloseOrOperator}
use Rattle.ltl_spec.proofs.Formulas.GrammarMachine.{Wanting, left_rank, right_rank}
use Rattle.ltl_spec.proofs.Formulas.ReaderLaws.{Verdict, verdict}

-- the verdict on a text
abbrev pub verdict_of : List ℕ → Verdict
verdict_of text = verdict (length text) [] (Wanting []) (items text)

-- texts with their verdicts
abbrev verdicts : List (Verdict × Verdict)
verdicts =
    -- `->` groups to the right
    (verdict_of (codes "p -> q -> p"), Ok (record { formula = Binary Implies (Proposition 0) (Binary Implies (Proposition 1) (Proposition 0)); names = codes "p" ∷ codes "q" ∷ [] }))
    -- `U` groups to the left, and unary operators bind tightest
    ∷ (verdict_of (codes "!p U []q V r"), Ok (record { formula = Binary Release (Binary Until (Unary Not (Proposition 0)) (Unary Always (Proposition 1))) (Proposition 2); names = codes "p" ∷ codes "q" ∷ codes "r" ∷ [] }))
    -- each rank in its place
    ∷ (verdict_of (codes "a <-> b -> c || d && e U f"), Ok (record { formula = Binary Iff (Proposition 0) (Binary Implies (Proposition 1) (Binary Or (Proposition 2) (Binary And (Proposition 3) (Binary Until (Proposition 4) (Proposition 5))))); names = codes "a" ∷ codes "b" ∷ codes "c" ∷ codes "d" ∷ codes "e" ∷ codes "f" ∷ [] }))
    -- a unary operator closes before the binary one
    ∷ (verdict_of (codes "X(true \\/ <>q)&&q"), Ok (record { formula = Binary And (Unary Next (Binary Or (Constant Rattle.std.proofs.Common.true) (Unary Eventually (Proposition 0)))) (Proposition 0); names = codes "q" ∷ [] }))
    -- faults
    ∷ (verdict_of (codes "p & q"), Err (2, UnexpectedByte))
    -- an operand too many before a byte at fault
    ∷ (verdict_of (codes "p q #"), Err (2, ExpectedOperatorOrEnd))
    -- a bracket closes too early
    ∷ (verdict_of (codes "(p U )"), Err (5, ExpectedOperand))
    -- a bracket stays open
    ∷ (verdict_of (codes "[](p -> q "), Err (10, ExpectedCloseOrOperator))
    -- no text is a formula of no token
    ∷ (verdict_of [], Err (0, ExpectedOperand))
    -- a bracket that was not open
    ∷ (verdict_of (codes "p)"), Err (1, ExpectedOperatorOrEnd))
    -- an operand too many in a bracket
    ∷ (verdict_of (codes "(p q"), Err (3, ExpectedCloseOrOperator))
    -- letters for operators: `[]<>p`, and `p V q`
    ∷ (verdict_of (codes "GFp"), Ok (record { formula = Unary Always (Unary Eventually (Proposition 0)); names = codes "p" ∷ [] }))
    ∷ (verdict_of (codes "pRq"), Ok (record { formula = Binary Release (Proposition 0) (Proposition 1); names = codes "p" ∷ codes "q" ∷ [] }))
    -- the same binding as the signs
    ∷ (verdict_of (codes "Gp R q && F q U p"), Ok (record { formula = Binary And (Binary Release (Unary Always (Proposition 0)) (Proposition 1)) (Binary Until (Unary Eventually (Proposition 1)) (Proposition 0)); names = codes "p" ∷ codes "q" ∷ [] }))
    ∷ (verdict_of (codes "p W q"), Err (2, UnexpectedByte))
    ∷ (verdict_of (codes "p R"), Err (3, ExpectedOperand))
    ∷ (verdict_of (codes "p G q"), Err (2, ExpectedOperatorOrEnd))
    ∷ []

verdicts_hold : map (λ e. e.0) verdicts ≡ map (λ e. e.1) verdicts
verdicts_hold = refl

-- the greatest ranks of both operands of each operator
operand_ranks : map {B = ℕ × ℕ} (λ op. (left_rank op, right_rank op)) (Until ∷ Release ∷ And ∷ Or ∷ Implies ∷ Iff ∷ []) ≡ (1, 0) ∷ (1, 0) ∷ (2, 1) ∷ (3, 2) ∷ (3, 4) ∷ (5, 4) ∷ []
operand_ranks = refl

-- the canonical text has the signs
letters_printed : canonical_text (record { formula = Unary Always (Unary Eventually (Proposition 0)); names = codes "p" ∷ [] }) ≡ codes "[]<>p"
letters_printed = refl

letter_printed : canonical_text (record { formula = Binary Release (Proposition 0) (Proposition 1); names = codes "p" ∷ codes "q" ∷ [] }) ≡ codes "(p V q)"
letter_printed = refl
