-- The steps of guards in postfix order, one more.
use Rattle.std.proofs.Common.{◌≡◌, ◌∙◌, ℕ, ◌+◌, ◌-◌, ◌<◌, ◌≤◌, Bool, List, [], ◌∷◌, ◌++◌, map, length, refl, sym, ap, subst, arith, append_assoc, Bor}
use Rattle.std.proofs.lemmas.List.{map-append}
use Rattle.ltl_spec.specs.Claims.ClaimProgram.{Guard}
use Rattle.ltl_claim.specs.declared.program.NamedStep.{NamedStep}
use Rattle.ltl_claim.specs.declared.program.NamedStep.TheVariants as step
use Rattle.ltl_claim.specs.ProgramView.{AreGuards, BothKind, CheckKind, HoldsGuards, StepView, TestKind, guards_of, named_steps, step_of, with_step, written}
use Rattle.ltl_claim.proofs.ProgramLaws as laws

module _ (old : List NamedStep) where
  abbrev gs : List Guard
  gs = guards_of (map step_of old)

  made : (s : NamedStep) (new : List NamedStep) (n m : ℕ) → new ≡ old ++ s ∷ [] → m ≡ length (with_step gs (step_of s)) → written (with_step gs (step_of s)) ≡ written gs ++ step_of s ∷ []
      → AreGuards n (map step_of old) → AreGuards m (map step_of new)
  made s new n m e l w a = subst (λ ss. AreGuards m (map step_of ss)) (sym e) (record {
    count = l ∙ ap length (sym (laws.guards_more old s));
    whole = map-append step_of old (s ∷ []) ∙ ap (λ ss. ss ++ step_of s ∷ []) a.whole ∙ sym w ∙ ap written (sym (laws.guards_more old s));
  })

  pub same_guards : (new : List NamedStep) (n : ℕ) → new ≡ old → AreGuards n (map step_of old) → AreGuards n (map step_of new)
  same_guards new n e a = subst (λ ss. AreGuards n (map step_of ss)) (sym e) a

  pub constant_more : (b : Bool) (new : List NamedStep) (n : ℕ) → new ≡ old ++ step.Constant b ∷ [] → AreGuards n (map step_of old) → AreGuards (n + 1) (map step_of new)
  constant_more b new n e a = let c = a.count in made (step.Constant b) new n (n + 1) e (omega (arith, c)) refl a

  pub name_more : (name : Bor (List ℕ)) (new : List NamedStep) (n : ℕ) → new ≡ old ++ step.Named name ∷ [] → AreGuards n (map step_of old) → AreGuards (n + 1) (map step_of new)
  name_more name new n e a = let c = a.count in made (step.Named name) new n (n + 1) e (omega (arith, c)) refl a

  not_written : (hs : List Guard) → 0 < length hs → written (with_step hs (step_of step.Not)) ≡ written hs ++ step_of step.Not ∷ []
  not_written [] l = absurd (omega (arith, l))
  not_written (g ∷ hs) l = sym (append_assoc (written hs) (named_steps g) (step_of step.Not ∷ []))

  not_counted : (hs : List Guard) → length hs ≡ length (with_step hs (step_of step.Not))
  not_counted [] = refl
  not_counted (g ∷ hs) = refl

  pub not_more : (new : List NamedStep) (n : ℕ) → 0 < n → new ≡ old ++ step.Not ∷ [] → AreGuards n (map step_of old) → AreGuards n (map step_of new)
  not_more new n l e a = let c = a.count in made step.Not new n n e (c ∙ not_counted gs) (not_written gs (omega (arith, l, c))) a

  joined : (w a b : List StepView) (s : StepView) → w ++ ((a ++ b) ++ s ∷ []) ≡ ((w ++ a) ++ b) ++ s ∷ []
  joined w a b s = sym (append_assoc w (a ++ b) (s ∷ [])) ∙ ap (λ l. l ++ s ∷ []) (sym (append_assoc w a b))

  and_written : (hs : List Guard) → 2 ≤ length hs → written (with_step hs (step_of step.And)) ≡ written hs ++ step_of step.And ∷ []
  and_written [] l = absurd (omega (arith, l))
  and_written (g ∷ []) l = absurd (omega (arith, l))
  and_written (h ∷ g ∷ hs) l = joined (written hs) (named_steps g) (named_steps h) (step_of step.And)

  and_counted : (hs : List Guard) → 2 ≤ length hs → length hs - 1 ≡ length (with_step hs (step_of step.And))
  and_counted [] l = absurd (omega (arith, l))
  and_counted (g ∷ []) l = absurd (omega (arith, l))
  and_counted (h ∷ g ∷ hs) l = omega arith

  pub and_more : (new : List NamedStep) (n : ℕ) → 2 ≤ n → new ≡ old ++ step.And ∷ [] → AreGuards n (map step_of old) → AreGuards (n - 1) (map step_of new)
  and_more new n l e a = let c = a.count in let k : 2 ≤ length gs = omega (arith, l, c) in made step.And new n (n - 1) e (ap (λ m. m - 1) c ∙ and_counted gs k) (and_written gs k) a

  or_written : (hs : List Guard) → 2 ≤ length hs → written (with_step hs (step_of step.Or)) ≡ written hs ++ step_of step.Or ∷ []
  or_written [] l = absurd (omega (arith, l))
  or_written (g ∷ []) l = absurd (omega (arith, l))
  or_written (h ∷ g ∷ hs) l = joined (written hs) (named_steps g) (named_steps h) (step_of step.Or)

  or_counted : (hs : List Guard) → 2 ≤ length hs → length hs - 1 ≡ length (with_step hs (step_of step.Or))
  or_counted [] l = absurd (omega (arith, l))
  or_counted (g ∷ []) l = absurd (omega (arith, l))
  or_counted (h ∷ g ∷ hs) l = omega arith

  pub or_more : (new : List NamedStep) (n : ℕ) → 2 ≤ n → new ≡ old ++ step.Or ∷ [] → AreGuards n (map step_of old) → AreGuards (n - 1) (map step_of new)
  or_more new n l e a = let c = a.count in let k : 2 ≤ length gs = omega (arith, l, c) in made step.Or new n (n - 1) e (ap (λ m. m - 1) c ∙ or_counted gs k) (or_written gs k) a

  -- no more guards than steps
  pub few_depth : (n : ℕ) → AreGuards n (map step_of old) → n ≤ length old
  few_depth n a = let c = a.count in let f = laws.few_guards old in omega (arith, c, f)

pub no_guards : (new : List NamedStep) → new ≡ [] → AreGuards 0 (map step_of new)
no_guards new e = subst (λ ss. AreGuards 0 (map step_of ss)) (sym e) (record { count = refl; whole = refl })

-- one guard or two
pub holds_test : (steps : List StepView) (gs : List Guard) → length gs ≡ 1 → steps ≡ written gs → HoldsGuards TestKind steps
holds_test steps [] l e = absurd (omega (arith, l))
holds_test steps (g ∷ []) l e = (g, e)
holds_test steps (g ∷ h ∷ gs) l e = absurd (omega (arith, l))

pub holds_check : (steps : List StepView) (gs : List Guard) → length gs ≡ 1 → steps ≡ written gs → HoldsGuards CheckKind steps
holds_check steps gs l e = holds_test steps gs l e

pub holds_both : (steps : List StepView) (gs : List Guard) → length gs ≡ 2 → steps ≡ written gs → HoldsGuards BothKind steps
holds_both steps [] l e = absurd (omega (arith, l))
holds_both steps (g ∷ []) l e = absurd (omega (arith, l))
holds_both steps (h ∷ g ∷ []) l e = (g, h, e)
holds_both steps (h ∷ g ∷ i ∷ gs) l e = absurd (omega (arith, l))
