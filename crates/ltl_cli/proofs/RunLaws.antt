-- What a run shows: the same laws for all three programs.
use Rattle.std.proofs.Common.{◌≡◌, ◌∙◌, ap, sym, subst, refl, ℕ, ◌≤◌, Bool, true, false, cond, nat_lt, length, inl, inr, List, [], take, Option, Some, None, arith}
use Rattle.std.proofs.lemmas.List.{append-nil}
use Rattle.std.specs.Prelude.{Result, Ok, Err}
use Rattle.std.specs.Io.KnownBytes.{Appends}
use Rattle.ltl_spec.specs.Formulas.Formula.{Reading}
use Rattle.ltl_spec.specs.Hoa.HoaReading.{stated_form}
use Rattle.ltl_spec.specs.Tools.Limits.{stated_limits}
use Rattle.ltl_spec.specs.Tools.Refusal as spec
use Rattle.ltl_spec.specs.Tools.Outcome as outcome
use Rattle.ltl_spec.specs.Tools.Stage.{Open, Closed}
use Rattle.ltl_spec.specs.Tools.Outcome.{Answer, FormulaWord, Input, IsGiven, IsPromised, IsShortOfMemory, Seen, TellsMessage, Then, answer_by, refused, stage_behind}
use Rattle.ltl_spec.specs.Tools.Programs.{InputReads, ReadsFormula}
use Rattle.ltl_spec.specs.Tools.Run.{ToolAnswers}
use Rattle.ltl_spec.proofs.Tools.RunLaws.{promised_shown}
use Rattle.ltl_spec.proofs.Tools.StepLaws.{never}
use Rattle.ltl_streams.specs.Streams.{Breaks, SinkState}
use Rattle.ltl_cli.specs.declared.refusal.Refusal.{Refusal}
use Rattle.ltl_cli.specs.declared.refusal.Refusal.TheVariants as code
use Rattle.ltl_cli.specs.declared.refusal.Refusal.TheVariants.{OutOfMemory, CannotWrite, Usage}
use Rattle.ltl_words.specs.declared.status.Status.{Status}
use Rattle.ltl_words.specs.declared.request.Plan.{Plan}
use Rattle.ltl_words.specs.declared.request.PlanFault.{PlanFault}
use Rattle.ltl_words.specs.declared.request.PlanFault.TheVariants as fault
use Rattle.ltl_cli.specs.Refusals.{of_plan, refusal_of}
use Rattle.ltl_words.specs.Tools.{status_number}
use Rattle.ltl_words.specs.Plans.{planned}
use Rattle.ltl_cli.specs.Inputs.{RefusesFor, RefusesInput, RefusesUnless}
use Rattle.ltl_cli.specs.Runs.{Finishes, IsOutcome, IsTold, RunNeverShort, Shows, ShowsBytes, ToolRun, message_with, status_with}

-- ---- no step says that memory was refused

pub same_refusal : {A : Type 0} (x y : spec.Refusal) → ◌≡◌ {A = Result A spec.Refusal} (Err x) (Err y) → y ≡ x
same_refusal x y p = cc

-- where a step says that memory was refused, one of its parts does
pub then_takes : {A B : Type 0} (First : Result A spec.Refusal → Type 0) (Second : A → Result B spec.Refusal → Type 0) → (First (Err spec.OutOfMemory) → ⊥) → ((a : A) → Second a (Err spec.OutOfMemory) → ⊥)
    → Then First Second (Err spec.OutOfMemory) → ⊥
then_takes First Second f g (inl (x, h, q)) = f (subst (λ (y : spec.Refusal). First (Err y)) (same_refusal spec.OutOfMemory x q) h)
then_takes First Second f g (inr (a, h, k)) = g a k

pub taken_takes : (most : ℕ) (input : Input) → Err spec.OutOfMemory ≡ outcome.taken most input → ⊥
taken_takes most (outcome.Text bs) p = never bs spec.OutOfMemory p
taken_takes most outcome.NotOpened p = cc
taken_takes most (outcome.Ended bs) p = never bs spec.OutOfMemory p
taken_takes most (outcome.Failed bs) p = chosen (nat_lt most (length bs)) bs p
  where
    chosen : (b : Bool) (bs : List ℕ) → Err spec.OutOfMemory ≡ cond b (Ok bs) (Err spec.CannotRead) → ⊥
    chosen true bs p = never bs spec.OutOfMemory p
    chosen false bs p = cc

pub input_takes : (input : Input) → InputReads stated_limits input (Err spec.OutOfMemory) → ⊥
input_takes input = then_takes (λ r. r ≡ outcome.taken stated_limits.formula_bytes input) (ReadsFormula stated_limits) (taken_takes stated_limits.formula_bytes input) (λ text h. h)

-- a program whose formula was refused
pub input_refused : {A : Type 0} (word : FormulaWord) (input : Input) (Rest : Reading → Result A spec.Refusal → Type 0) (e : Refusal) → RefusesInput word input e → RefusesFor word input (Then (InputReads stated_limits (outcome.input_of word input)) Rest) e
input_refused word input Rest e (inl h) = inl h
input_refused word input Rest e (inr h) = inr (inl (refusal_of e, h, refl))

-- ---- outcomes

pub wrote_nothing : (o : Option (List ℕ)) → Appends o o []
wrote_nothing None = tt
wrote_nothing (Some x) = sym (append-nil x)

-- only a want of memory has that status
only_memory : (e : Refusal) → spec.status_of (refusal_of e) ≡ 4 → e ≡ OutOfMemory
only_memory code.OutOfMemory h = refl
only_memory code.Usage h = absurd (omega (arith, h))
only_memory code.CannotOpen h = absurd (omega (arith, h))
only_memory code.CannotRead h = absurd (omega (arith, h))
only_memory code.CannotWrite h = absurd (omega (arith, h))
only_memory code.LongFormula h = absurd (omega (arith, h))
only_memory code.TooManyPropositions h = absurd (omega (arith, h))
only_memory code.TooManyRows h = absurd (omega (arith, h))
only_memory code.TooManyElementaryRows h = absurd (omega (arith, h))
only_memory code.LargeAutomaton h = absurd (omega (arith, h))
only_memory code.LongWord h = absurd (omega (arith, h))
only_memory code.LargeProduct h = absurd (omega (arith, h))
only_memory (code.BadFormula place kind) h = absurd (omega (arith, h))
only_memory (code.BadWord place) h = absurd (omega (arith, h))
only_memory (code.BadAutomaton line kind) h = absurd (omega (arith, h))

-- how the calls on the output went, by the status

pub refusal_open : (e : spec.Refusal) → stage_behind (spec.status_of e) ≡ Open
refusal_open spec.Usage = refl
refusal_open spec.CannotOpen = refl
refusal_open spec.CannotRead = refl
refusal_open spec.CannotWrite = refl
refusal_open spec.OutOfMemory = refl
refusal_open spec.LongFormula = refl
refusal_open spec.TooManyPropositions = refl
refusal_open spec.TooManyRows = refl
refusal_open spec.TooManyElementaryRows = refl
refusal_open spec.LargeAutomaton = refl
refusal_open spec.LongWord = refl
refusal_open spec.LargeProduct = refl
refusal_open (spec.BadFormula place kind) = refl
refusal_open (spec.BadWord place) = refl
refusal_open (spec.BadAutomaton number kind) = refl

below_two : (n : ℕ) → n ≤ 1 → nat_lt n 2 ≡ true
below_two n h = grind (arith, h)

pub answer_closed : (n : ℕ) → n ≤ 1 → stage_behind n ≡ Closed
answer_closed n h = ap (λ (b : Bool). cond b Closed Open) (below_two n h)

-- a promise that was kept, as a run
promised_run : (tool : spec.Tool) (plan : Result Plan PlanFault) (input file : Input) (seen : Seen) → IsPromised stated_limits tool (ToolAnswers stated_limits stated_form tool (planned tool plan) input file) seen
    → (RunNeverShort tool plan input file → ¬ (seen.status ≡ 4)) → (plan ≡ Err fault.OutOfMemory → IsShortOfMemory stated_limits tool seen) → ToolRun tool plan input file seen
promised_run tool plan input file seen promised memory short = record { shown = promised_shown stated_limits stated_form (omega arith) tool (planned tool plan) input file seen promised; memory = memory; short = short }

-- nothing went out before a refusal
refusal_given : (tool : spec.Tool) (e : spec.Refusal) (seen : Seen) → seen.output ≡ [] → seen.output_stage ≡ Open → seen.status ≡ spec.status_of e → TellsMessage (spec.message stated_limits tool e) seen
    → IsGiven seen (refused stated_limits tool e)
refusal_given tool e seen o g s t = (s, o, g ∙ sym (refusal_open e), t)

-- What is found for a plan decides the program's right answers, and where lack of memory is never reported. An answer that is no refusal has no message,
-- and a status below theirs
pub record DecidesAnswers {A : Type 0} (Never : Type 0) (tool : spec.Tool) (p : Plan) (input file : Input) (Finds : Result A spec.Refusal → Type 0) (answer : A → Answer) : Type 0 where
  pub right : (r : Result A spec.Refusal) → Finds r → ToolAnswers stated_limits stated_form tool (planned tool (Ok p)) input file (answer_by stated_limits tool answer r)
  pub takes : RunNeverShort tool (Ok p) input file → Never
  pub other : Finds (Err spec.OutOfMemory) → ⊥
  pub silent : (a : A) → (answer a).message ≡ []
  pub low : (a : A) → (answer a).status ≤ 1

module _ {A : Type 0} {Never : Type 0} {tool : spec.Tool} {p : Plan} {input file : Input} {Finds : Result A spec.Refusal → Type 0} {answer : A → Answer} (d : DecidesAnswers Never tool p input file Finds answer) where
  plan_run : (seen : Seen) → IsPromised stated_limits tool (ToolAnswers stated_limits stated_form tool (planned tool (Ok p)) input file) seen → (RunNeverShort tool (Ok p) input file → ¬ (seen.status ≡ 4)) → ToolRun tool (Ok p) input file seen
  plan_run seen promised memory = promised_run tool (Ok p) input file seen promised memory (λ q. absurd (never p fault.OutOfMemory (sym q)))

  -- nothing was found
  pub outcome_refused : (o : SinkState) (e : Refusal) → o.stage ≡ Open → RefusesUnless Never Finds e → IsOutcome tool (Ok p) input file o o (Err e)
  outcome_refused o e g (inl (c, some)) = subst (λ (x : Refusal). IsOutcome tool (Ok p) input file o o (Err x)) (sym c) (record {
    output = [];
    written = wrote_nothing o.bytes;
    same = refl;
    ends = λ seen w b s t. plan_run seen (inr (inl (refusal_given tool spec.OutOfMemory seen w (b ∙ g) s t))) (λ none. absurd (some (d.takes none)));
  })
  outcome_refused o e g (inr h) = record {
    output = [];
    written = wrote_nothing o.bytes;
    same = refl;
    ends = λ seen w b s t. plan_run seen (inl (refused stated_limits tool (refusal_of e), d.right (Err (refusal_of e)) h, refusal_given tool (refusal_of e) seen w (b ∙ g) s t))
        (λ none q. d.other (subst (λ (x : Refusal). Finds (Err (refusal_of x))) (only_memory e (sym s ∙ q)) h));
  }

  -- it was found, and a call on the output failed
  pub outcome_broken : (o n : SinkState) (a : A) → o.stage ≡ Open → Finds (Ok a) → Breaks o n (answer a).output → IsOutcome tool (Ok p) input file o n (Err CannotWrite)
  outcome_broken o n a g h w = record {
    output = take w.count (answer a).output;
    written = w.grown;
    same = w.same;
    ends = λ seen x b s t. plan_run seen (inr (inr (answer a, d.right (Ok a) h, d.silent a, s, (w.count, x), b ∙ w.stage g, t))) (λ none q. absurd (omega (arith, s, q)));
  }

  -- it was written
  pub outcome_done : (o n : SinkState) (a : A) (r : Status) → o.stage ≡ Open → Finds (Ok a) → Finishes o n (answer a).output → status_number r ≡ (answer a).status → IsOutcome tool (Ok p) input file o n (Ok r)
  outcome_done o n a r g h w e = record {
    output = (answer a).output;
    written = w.grown;
    same = w.same;
    ends = λ seen x b s t. plan_run seen
        (inl (answer a, d.right (Ok a) h, (s ∙ e, x, b ∙ w.stage g ∙ sym (answer_closed (answer a).status (d.low a)), subst (λ (m : List ℕ). TellsMessage m seen) (sym (d.silent a)) t)))
        (λ none q. let low = d.low a in absurd (omega (arith, e, s, q, low)));
  }

module _ (tool : spec.Tool) (plan : Result Plan PlanFault) (input file : Input) (o : SinkState) (open_before : o.stage ≡ Open) where
  usage_answers : (t : spec.Tool) → ToolAnswers stated_limits stated_form t None input file (refused stated_limits t spec.Usage)
  usage_answers spec.Translator = refl
  usage_answers spec.Checker = refl
  usage_answers spec.Evaluator = refl

  -- nothing is asked for
  pub nothing_asked : planned tool plan ≡ None → (plan ≡ Err fault.OutOfMemory → ⊥) → IsOutcome tool plan input file o o (Err Usage)
  nothing_asked none other = record {
    output = [];
    written = wrote_nothing o.bytes;
    same = refl;
    ends = λ seen w b s t. promised_run tool plan input file seen
        (inl (
          refused stated_limits tool spec.Usage,
          subst (λ x. ToolAnswers stated_limits stated_form tool x input file (refused stated_limits tool spec.Usage)) (sym none) (usage_answers tool),
          refusal_given tool spec.Usage seen w (b ∙ open_before) s t,
        ))
        (λ m q. absurd (omega (arith, s, q))) (λ q. absurd (other q));
  }

of_fault : (tool : spec.Tool) (input file : Input) (o : SinkState) (f : PlanFault) → o.stage ≡ Open → IsOutcome tool (Err f) input file o o (Err (of_plan f))
of_fault tool input file o fault.Usage g = nothing_asked tool (Err fault.Usage) input file o g refl (λ q. cc)
of_fault tool input file o fault.OutOfMemory g = record {
  output = [];
  written = wrote_nothing o.bytes;
  same = refl;
  ends = λ seen w b s t. let given = refusal_given tool spec.OutOfMemory seen w (b ∙ g) s t in
      promised_run tool (Err fault.OutOfMemory) input file seen (inr (inl given)) (λ none. absurd none) (λ q. given);
}

-- there is no plan
pub words_refused : (tool : spec.Tool) (plan : Result Plan PlanFault) (input file : Input) (o : SinkState) (f : PlanFault) (e : Refusal) → o.stage ≡ Open → plan ≡ Err f → e ≡ of_plan f → IsOutcome tool plan input file o o (Err e)
words_refused tool plan input file o f e g p q =
    subst (λ (x : Result Plan PlanFault). IsOutcome tool x input file o o (Err e)) (sym p) (subst (λ (x : Refusal). IsOutcome tool (Err f) input file o o (Err x)) (sym q) (of_fault tool input file o f g))

-- ---- whole runs

-- an outcome and its message
pub outcome_shows : (tool : spec.Tool) (plan : Result Plan PlanFault) (input file : Input) (o n mo mn : SinkState) (status : ℕ) (r : Result Status Refusal) → IsOutcome tool plan input file o n r
    → status ≡ status_with r → mo.stage ≡ Open → IsTold mo mn (message_with tool r) → Shows (ToolRun tool plan input file) o n mo mn status
outcome_shows tool plan input file o n mo mn status r h s g (inl m) = record {
  output = h.output;
  message = message_with tool r;
  written = h.written;
  told = m.grown;
  promised = h.ends _ refl refl s (inl (refl, m.stage g));
}
outcome_shows tool plan input file o n mo mn status r h s g (inr (l, m)) = record {
  output = h.output;
  message = take m.count (message_with tool r);
  written = h.written;
  told = m.grown;
  promised = h.ends _ refl refl s (inr (l, (m.count, refl), m.stage g));
}

pub told_same : {mo mn : SinkState} {text : List ℕ} → IsTold mo mn text → mn.through ≡ mo.through
told_same (inl m) = m.same
told_same (inr (l, m)) = m.same

-- what is shown, and follows from it
pub shows_more : {P Q : Seen → Type 0} → ((seen : Seen) → P seen → Q seen) → {o n mo mn : SinkState} {status : ℕ} → Shows P o n mo mn status → Shows Q o n mo mn status
shows_more f s = record { output = s.output; message = s.message; written = s.written; told = s.told; promised = f _ s.promised }

-- of writers
pub shows_bytes : {P : Seen → Type 0} {o n mo mn : SinkState} {status : ℕ} {before behind told_before told_behind : Option (List ℕ)}
    → o.bytes ≡ before → n.bytes ≡ behind → mo.bytes ≡ told_before → mn.bytes ≡ told_behind → Shows P o n mo mn status → ShowsBytes P before behind told_before told_behind status
shows_bytes {n = n} {mn = mn} {status = status} {before = before} {told_before = told_before} b a tb ta s = record {
  seen = record { output = s.output; output_stage = n.stage; message = s.message; message_stage = mn.stage; status = status };
  written = subst (λ (x : Option (List ℕ)). Appends before x s.output) a (subst (λ (x : Option (List ℕ)). Appends x n.bytes s.output) b s.written);
  told = subst (λ (x : Option (List ℕ)). Appends told_before x s.message) ta (subst (λ (x : Option (List ℕ)). Appends x mn.bytes s.message) tb s.told);
  ended = refl;
  promised = s.promised;
}
