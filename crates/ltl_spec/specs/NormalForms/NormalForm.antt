-- The normal form of a formula, its rewriting, and its rows.
use Rattle.std.specs.Prelude.{Bool, true, false, ◌&&◌, ◌||◌, if◌then◌else◌, List, [], ◌∷◌, ◌++◌, filter}
use Rattle.ltl_spec.specs.Collections.Lists.{first_occurrences}
use Rattle.ltl_spec.specs.Formulas.Formula.{Formula, Constant, Proposition, Unary, Binary, Not, Next, Always, Eventually, And, Or, Implies, Iff, Until, Release}
use Rattle.ltl_spec.specs.NormalForms.Normal.{Normal, Top, Bottom, Leaf, Next, And, Or, Until, Release, same}

-- a constant in normal form
abbrev pub constant : Bool → Normal
constant true = Top
constant false = Bottom

-- at `true` the normal form of the formula, at `false` that of its negation
abbrev pub normal_form : Bool → Formula → Normal
normal_form true (Constant b) = constant b
normal_form false (Constant true) = Bottom
normal_form false (Constant false) = Top
normal_form sign (Proposition p) = Leaf (record { proposition = p; positive = sign })
normal_form true (Unary Not a) = normal_form false a
normal_form false (Unary Not a) = normal_form true a
normal_form sign (Unary Next a) = Next (normal_form sign a)
normal_form true (Unary Always a) = Release Bottom (normal_form true a)
normal_form false (Unary Always a) = Until Top (normal_form false a)
normal_form true (Unary Eventually a) = Until Top (normal_form true a)
normal_form false (Unary Eventually a) = Release Bottom (normal_form false a)
normal_form true (Binary And a b) = And (normal_form true a) (normal_form true b)
normal_form false (Binary And a b) = Or (normal_form false a) (normal_form false b)
normal_form true (Binary Or a b) = Or (normal_form true a) (normal_form true b)
normal_form false (Binary Or a b) = And (normal_form false a) (normal_form false b)
normal_form true (Binary Implies a b) = Or (normal_form false a) (normal_form true b)
normal_form false (Binary Implies a b) = And (normal_form true a) (normal_form false b)
normal_form true (Binary Iff a b) = Or (And (normal_form true a) (normal_form true b)) (And (normal_form false a) (normal_form false b))
normal_form false (Binary Iff a b) = And (Or (normal_form false a) (normal_form false b)) (Or (normal_form true a) (normal_form true b))
normal_form true (Binary Until a b) = Until (normal_form true a) (normal_form true b)
normal_form false (Binary Until a b) = Release (normal_form false a) (normal_form false b)
normal_form true (Binary Release a b) = Release (normal_form true a) (normal_form true b)
normal_form false (Binary Release a b) = Until (normal_form false a) (normal_form false b)

-- `true U ..` and `false V ..`
abbrev pub is_eventually : Normal → Bool
is_eventually (Until Top a) = true
is_eventually _ = false

abbrev pub is_always : Normal → Bool
is_always (Release Bottom a) = true
is_always _ = false

-- the table of rewriting: each operator, above operands that are rewritten
abbrev pub simple_and : Normal → Normal → Normal
simple_and a b =
    if same a Top then b else
    if same b Top then a else
    if same a Bottom || same b Bottom then Bottom else
    if same a b then a else And a b

abbrev pub simple_or : Normal → Normal → Normal
simple_or a b =
    if same a Bottom then b else
    if same b Bottom then a else
    if same a Top || same b Top then Top else
    if same a b then a else Or a b

abbrev pub simple_next : Normal → Normal
simple_next a = if same a Top || same a Bottom then a else Next a

abbrev pub simple_until : Normal → Normal → Normal
simple_until a b =
    if same b Top || same b Bottom then b else
    if same a Bottom || same a b then b else
    if same a Top && is_eventually b then b else Until a b

abbrev pub simple_release : Normal → Normal → Normal
simple_release a b =
    if same b Top || same b Bottom then b else
    if same a Top || same a b then b else
    if same a Bottom && is_always b then b else Release a b

-- rewritten bottom up, each node after its operands
abbrev pub simple_form : Normal → Normal
simple_form Top = Top
simple_form Bottom = Bottom
simple_form (Leaf l) = Leaf l
simple_form (Next a) = simple_next (simple_form a)
simple_form (And a b) = simple_and (simple_form a) (simple_form b)
simple_form (Or a b) = simple_or (simple_form a) (simple_form b)
simple_form (Until a b) = simple_until (simple_form a) (simple_form b)
simple_form (Release a b) = simple_release (simple_form a) (simple_form b)

-- the normal form that is translated: of the formula or of its negation, rewritten or not
abbrev pub core : Formula → Bool → Bool → Normal
core F negate rewrite =
    let n = normal_form (if negate then false else true) F in
    if rewrite then simple_form n else n

-- all subformulas: those of the left operand, those of the right one, the node
abbrev pub postorder : Normal → List Normal
postorder Top = Top ∷ []
postorder Bottom = Bottom ∷ []
postorder (Leaf l) = Leaf l ∷ []
postorder (Next a) = postorder a ++ Next a ∷ []
postorder (And a b) = postorder a ++ postorder b ++ And a b ∷ []
postorder (Or a b) = postorder a ++ postorder b ++ Or a b ∷ []
postorder (Until a b) = postorder a ++ postorder b ++ Until a b ∷ []
postorder (Release a b) = postorder a ++ postorder b ++ Release a b ∷ []

-- the different subformulas, by first occurrence
abbrev pub rows : Normal → List Normal
rows F = first_occurrences same (postorder F)

-- a literal, or a row whose operator is `X`, `U` or `V`
abbrev pub is_elementary : Normal → Bool
is_elementary (Leaf l) = true
is_elementary (Next a) = true
is_elementary (Until a b) = true
is_elementary (Release a b) = true
is_elementary _ = false

abbrev pub is_until : Normal → Bool
is_until (Until a b) = true
is_until _ = false

-- the elementary rows, with the root
abbrev pub elementary_rows : Normal → List Normal
elementary_rows F = filter (λ a. is_elementary a || same a F) (rows F)

-- the until rows
abbrev pub until_rows : Normal → List Normal
until_rows F = filter is_until (rows F)
