-- Labels by their signs, and the order in which the code makes them.
use Rattle.std.specs.Prelude.{◌≡◌, ℕ, Bool, true, false, nat_lt, if◌then◌else◌, List, [], ◌∷◌, ◌++◌, reverse, codes, decimal}
use Rattle.ltl_spec.specs.Collections.Lists.{place_of}
use Rattle.ltl_spec.specs.Semantics.Word.{Name}
use Rattle.ltl_spec.specs.Formulas.Tokens.{same_name}
use Rattle.ltl_spec.specs.Claims.ClaimProgram as spec
use Rattle.ltl_spec.specs.Claims.ClaimProgram.{Guard}
use Rattle.ltl_claim.specs.declared.claim.GuardStep.{GuardStep}
use Rattle.ltl_claim.specs.declared.claim.GuardStep.TheVariants as step
use Rattle.ltl_claim.specs.ClaimView.{steps_of}
use Rattle.ltl_claim_hoa.specs.declared.sign.Sign.{Sign}
use Rattle.ltl_claim_hoa.specs.declared.sign.Sign.TheVariants.{Constant, Number, Not, And, Or, Open, Close}
use Rattle.ltl_claim_hoa.specs.declared.label.Task as code

abbrev pub sign_text : Sign → List ℕ
sign_text (Constant b) = if b then codes "t" else codes "f"
sign_text (Number i) = decimal i
sign_text Not = codes "!"
sign_text And = codes "&"
sign_text Or = codes "|"
sign_text Open = codes "("
sign_text Close = codes ")"

abbrev pub in_brackets : Bool → List Sign → List Sign
in_brackets true signs = Open ∷ signs ++ Close ∷ []
in_brackets false signs = signs

-- the signs of a guard's label, in brackets if its operator binds less tightly than this
abbrev pub signs_of : List Name → ℕ → Guard → List Sign
signs_of names most (spec.Constant b) = Constant b ∷ []
signs_of names most (spec.Named n) = Number (place_of same_name n names) ∷ []
signs_of names most (spec.Not g) = Not ∷ signs_of names 0 g
signs_of names most (spec.And g h) = in_brackets (nat_lt most 1) (signs_of names 1 g ++ And ∷ signs_of names 0 h)
signs_of names most (spec.Or g h) = in_brackets (nat_lt most 2) (signs_of names 2 g ++ Or ∷ signs_of names 1 h)

-- an operator and its operands, as what is still to be written
abbrev pub between : Bool → ℕ → Sign → ℕ → List code.Task
between bracketed left sign right =
    let tasks = code.TheVariants.Operand left ∷ code.TheVariants.Sign sign ∷ code.TheVariants.Operand right ∷ [] in
    if bracketed then code.TheVariants.Sign Open ∷ tasks ++ code.TheVariants.Sign Close ∷ [] else tasks

-- what is still to be written of an operand that ends with this step
abbrev pub expansion : GuardStep → ℕ → List code.Task
expansion (step.Constant b) most = code.TheVariants.Sign (Constant b) ∷ []
expansion (step.Name i) most = code.TheVariants.Sign (Number i) ∷ []
expansion step.Not most = code.TheVariants.Sign Not ∷ code.TheVariants.Operand 0 ∷ []
expansion step.And most = between (nat_lt most 1) 1 And 0
expansion step.Or most = between (nat_lt most 2) 2 Or 1

-- Such tasks, of which the last is done first, take these steps from the end, and write these signs
abbrev pub Stands : List Name → List code.Task → List GuardStep → List Sign → Type 0
Stands names [] steps signs = (steps ≡ []) × (signs ≡ [])
Stands names (code.TheVariants.Sign sign ∷ tasks) steps signs = (more : List Sign) × (signs ≡ sign ∷ more) × Stands names tasks steps more
Stands names (code.TheVariants.Operand most ∷ tasks) steps signs =
    (g : Guard) × (rest : List GuardStep) × (more : List Sign) × (steps ≡ steps_of names g ++ rest) × (signs ≡ signs_of names most g ++ more) × Stands names tasks rest more

-- such tasks and steps are what is still to be written of a guard's label, whose last signs were written, the last one first
abbrev pub StandsFor : List Name → Guard → List code.Task → List GuardStep → List Sign → Type 0
StandsFor names g tasks steps signs = (more : List Sign) × Stands names tasks steps more × (signs_of names 2 g ≡ more ++ reverse signs)
