-- From a run of what was planned to what the words may show and what they open.
use Rattle.std.proofs.Common.{◌≡◌, sym, subst, ℕ, inl, inr, List, [], Option, Some, None}
use Rattle.std.proofs.lemmas.List.{append-nil}
use Rattle.std.specs.Prelude.{◌↔◌, Result, Ok, Err, ⊤}
use Rattle.clap.specs.Words.{Text}
use Rattle.ltl_spec.specs.Tools.Comparer.{ComparerPlan, MayCompare}
use Rattle.ltl_spec.specs.Tools.Limits.{stated_limits}
use Rattle.ltl_spec.specs.Tools.Outcome.{Input}
use Rattle.ltl_spec.specs.Tools.Stage.{Open}
use Rattle.ltl_streams.specs.Streams.{SinkState}
use Rattle.ltl_words.specs.Comparer.{pair_planned}
use Rattle.ltl_words.specs.Plans.{formula_word}
use Rattle.ltl_words.specs.declared.comparer.ComparerPlan as code
use Rattle.ltl_words.specs.declared.request.FormulaWord.{FormulaWord}
use Rattle.ltl_words.specs.declared.request.PlanFault.{PlanFault}
use Rattle.ltl_words.specs.declared.request.PlanFault.TheVariants as fault
use Rattle.ltl_cli.specs.Headline.{IsBehind, file_named}
use Rattle.ltl_cli.specs.Openings.{Opening, Opens}
use Rattle.ltl_cli.specs.Runs.{IsTold, Shows}
use Rattle.ltl_cli.proofs.RunLaws.{shows_more}
use Rattle.ltl_comparison.specs.Openings.{OpensFor, pair_opened}
use Rattle.ltl_comparison.specs.Refusals.{in_words}
use Rattle.ltl_comparison.specs.Runs.{IsOutcome, PairMayCompare, PlansFor, WordsMayCompare, message_with, status_with}
use Rattle.ltl_comparison.specs.declared.refusal.Refused.{Refused}
use Rattle.ltl_comparison.proofs.RunLaws.{outcome_shows, refused_outcome}

-- a plan is none of the words that couldn't be had
unplanned : {A : Type 0} (p : code.ComparerPlan) (f : PlanFault) → ◌≡◌ {A = Result code.ComparerPlan PlanFault} (Ok p) (Err f) → A
unplanned p f q = absurd (torn q)
  where
    torn : ◌≡◌ {A = Result code.ComparerPlan PlanFault} (Ok p) (Err f) → ⊥
    torn q = cc

same_fault : (f g : PlanFault) → ◌≡◌ {A = Result code.ComparerPlan PlanFault} (Err f) (Err g) → f ≡ g
same_fault f g q = cc

-- what stands behind a name stood there before, too
behind_before : (Stands Later : Text → Input → Type 0) → ((name : Text) (input : Input) → Later name input ↔ Stands name input) → (name : Option Text) (input : Input)
    → IsBehind Later (λ _. ⊤) name input → IsBehind Stands (λ _. ⊤) name input
behind_before Stands Later same None input b = tt
behind_before Stands Later same (Some name) input b = (same name input).0 b

-- ---- what may be shown
module _ (Stands : Text → Input → Type 0) where
  -- the file of the second formula was opened after that of the first one
  pub both_behind : (Later : Text → Input → Type 0) → ((name : Text) (input : Input) → Later name input ↔ Stands name input) → (p : code.ComparerPlan) (one two : FormulaWord) → one ≡ p.first → two ≡ p.second → (first second : Input)
      → IsBehind Stands (λ _. ⊤) (file_named (formula_word one)) first → IsBehind Later (λ _. ⊤) (file_named (formula_word two)) second → {o n mo mn : SinkState} {status : ℕ}
      → Shows (MayCompare stated_limits (pair_planned p) first second) o n mo mn status → Shows (PairMayCompare Stands (Some (pair_planned p))) o n mo mn status
  both_behind Later same p one two e f first second a b h = shows_more
      (λ seen k. (
        first,
        second,
        subst (λ (w : FormulaWord). IsBehind Stands (λ _. ⊤) (file_named (formula_word w)) first) e a,
        subst (λ (w : FormulaWord). IsBehind Stands (λ _. ⊤) (file_named (formula_word w)) second) f (behind_before Stands Later same (file_named (formula_word two)) second b),
        k,
      ))
      h

  pub planned_shows : (words : Result (List Text) PlanFault) (p : code.ComparerPlan) → PlansFor words (Ok p) → {o n mo mn : SinkState} {status : ℕ}
      → Shows (PairMayCompare Stands (Some (pair_planned p))) o n mo mn status → Shows (WordsMayCompare Stands words) o n mo mn status
  planned_shows (Ok words) p e h = shows_more (λ seen k. inl (subst (λ (x : Option ComparerPlan). PairMayCompare Stands x seen) (sym e) k)) h
  planned_shows (Err f) p e h = unplanned p f e

  module _ (o : SinkState) (open_before : o.stage ≡ Open) where
    lacks_words : (g : PlanFault) → IsOutcome (WordsMayCompare Stands (Err g)) o o (Err (in_words g))
    lacks_words fault.Usage = refused_outcome o open_before (in_words fault.Usage) (λ seen k. k)
    lacks_words fault.OutOfMemory = refused_outcome o open_before (in_words fault.OutOfMemory) (λ seen k. k)

    -- there is no plan
    unplanned_outcome : (words : Result (List Text) PlanFault) (f : PlanFault) → PlansFor words (Err f) → IsOutcome (WordsMayCompare Stands words) o o (Err (in_words f))
    unplanned_outcome (Ok words) fault.Usage e =
        refused_outcome o open_before (in_words fault.Usage) (λ seen k. inl (subst (λ (x : Option ComparerPlan). PairMayCompare Stands x seen) (sym e) k))
    unplanned_outcome (Ok words) fault.OutOfMemory e = refused_outcome o open_before (in_words fault.OutOfMemory) (λ seen k. inr k)
    unplanned_outcome (Err g) f e = subst (λ (x : PlanFault). IsOutcome (WordsMayCompare Stands (Err g)) o o (Err (in_words x))) (sym (same_fault f g e)) (lacks_words g)

    pub unplanned_shows : (words : Result (List Text) PlanFault) (f : PlanFault) → PlansFor words (Err f) → (mo mn : SinkState) (status : ℕ) (e : Refused) → e ≡ in_words f → status ≡ status_with (Err e) → mo.stage ≡ Open
        → IsTold mo mn (message_with (Err e)) → Shows (WordsMayCompare Stands words) o o mo mn status
    unplanned_shows words f p mo mn status e q s g m =
        outcome_shows o o mo mn status (Err e) (subst (λ (x : Refused). IsOutcome (WordsMayCompare Stands words) o o (Err x)) (sym q) (unplanned_outcome words f p)) s g m

-- ---- what is opened
module _ {F : Type 0} (Opened : F → List Opening → Type 0) (Stands : F → Text → Input → Type 0) (Comes : F → Input → Type 0) (old new : F) where
  opens_nothing : Opens Opened Stands Comes [] old old
  opens_nothing = record {
    opened = λ before h. subst (λ (x : List Opening). Opened old x) (sym (append-nil before)) h;
    stands = λ name input. (λ h. h, λ h. h);
    comes = λ input. (λ h. h, λ h. h);
  }

  pub planned_opens : (words : Result (List Text) PlanFault) (p : code.ComparerPlan) (status : ℕ) → PlansFor words (Ok p) → Opens Opened Stands Comes (pair_opened (Some (pair_planned p))) old new
      → OpensFor Opened Stands Comes words old new status
  planned_opens (Ok words) p status e h = inl (subst (λ (x : Option ComparerPlan). Opens Opened Stands Comes (pair_opened x) old new) (sym e) h)
  planned_opens (Err f) p status e h = unplanned p f e

  pub unplanned_opens : (words : Result (List Text) PlanFault) (f : PlanFault) (status : ℕ) → PlansFor words (Err f) → status ≡ status_with (Err (in_words f)) → OpensFor Opened Stands Comes words old old status
  unplanned_opens (Ok words) fault.Usage status e s = inl (subst (λ (x : Option ComparerPlan). Opens Opened Stands Comes (pair_opened x) old old) (sym e) opens_nothing)
  unplanned_opens (Ok words) fault.OutOfMemory status e s = inr (opens_nothing, s)
  unplanned_opens (Err g) f status e s = inl opens_nothing
