-- What the run of a picture with a run shows.
use Rattle.std.proofs.Common.{◌≡◌, ◌⊎◌, refl, sym, subst, ℕ, zero, suc, ◌<◌, inl, inr, List, [], ◌∷◌, length, Option, Some, None, arith}
use Rattle.std.specs.Prelude.{Ok, Err, Result, All, slice_index_or}
use Rattle.ltl_spec.specs.Collections.Sets.{Has}
use Rattle.ltl_spec.proofs.Collections.ListLaws.{All-from_has}
use Rattle.ltl_spec.proofs.Collections.SetLaws.{append_cases}
use Rattle.ltl_spec.specs.Semantics.Word.{Lasso, next}
use Rattle.ltl_spec.specs.Hoa.HoaReading.{MarkedAutomaton}
use Rattle.ltl_spec.specs.Tools.Limits.{stated_limits}
use Rattle.ltl_spec.specs.Tools.Programs.{ReadsWord}
use Rattle.ltl_spec.specs.Tools.Stage.{Open}
use Rattle.ltl_spec.specs.Tools.Outcome.{Input, printed}
use Rattle.ltl_streams.specs.Streams.{Breaks, SinkState}
use Rattle.ltl_cli.specs.declared.refusal.Refusal.{Refusal}
use Rattle.ltl_cli.specs.declared.refusal.Refusal.TheVariants.{CannotWrite, OutOfMemory}
use Rattle.ltl_cli.specs.Inputs.{IsFailed, RefusesUnless}
use Rattle.ltl_cli.specs.Refusals.{refusal_of}
use Rattle.ltl_cli.specs.Runs.{Finishes}
use Rattle.ltl_pictures.specs.NamedAutomaton.{NamedAutomaton}
use Rattle.ltl_pictures.specs.declared.pick.Pick.{Pick}
use Rattle.ltl_pictures.specs.declared.fault.RunFault.{RunFault}
use Rattle.ltl_pictures.specs.declared.fault.RunFault.TheVariants as fault
use Rattle.ltl_pictures.specs.Runs.{IsRun, IsRunOf, edge_of_pick, run_size}
use Rattle.ltl_pictures.specs.Picked.{IsPick}
use Rattle.ltl_pictures.specs.RunText.{RunPicture, picks_in, run_text}
use Rattle.ltl_draw.specs.Plans.{Run}
use Rattle.ltl_draw.specs.Runs.{DrawAnswers, IsOutcome, ReadsNamed, RunsOn, of_run}
use Rattle.ltl_draw.proofs.NamedLaws.{read_whole}
use Rattle.ltl_draw.proofs.RunLaws.{all_printed, nothing_printed, some_printed}

right : (input : Input) (text : List ℕ) (file : Option (List ℕ)) (w : Lasso) → ReadsWord stated_limits [] text (Ok w) → (N : NamedAutomaton) → ReadsNamed input (Ok N) → (P : RunPicture) → RunsOn N w (Ok P) → DrawAnswers (Ok (Run text file)) input (printed (run_text P) 0)
right input text file w word N reads P runs = (Ok (run_text P), inr (w, word, inr (N, reads, inr (P, runs, refl))), refl)

module _ {T : Type 0} (input : Input) (o : SinkState) (open_before : o.stage ≡ Open) (text : List ℕ) (file : Option (List ℕ)) where
  -- the word was refused, and the input wasn't read
  pub run_word_refused : ¬ (IsFailed input) → (e : Refusal) → (e ≡ OutOfMemory) ⊎ ReadsWord stated_limits [] text (Err (refusal_of e)) → IsOutcome {T = T} (Ok (Run text file)) input o o (Err e)
  run_word_refused unread e (inl m) = nothing_printed input o open_before (Ok (Run text file)) e (inl (m, unread))
  run_word_refused unread e (inr h) = nothing_printed input o open_before (Ok (Run text file)) e (inr (Err (refusal_of e), inl (refusal_of e, h, refl), refl))

  module _ (w : Lasso) (word : ReadsWord stated_limits [] text (Ok w)) where
    -- the automaton was refused
    pub run_named_refused : (e : Refusal) → RefusesUnless (IsFailed input) (ReadsNamed input) e → IsOutcome {T = T} (Ok (Run text file)) input o o (Err e)
    run_named_refused e (inl m) = nothing_printed input o open_before (Ok (Run text file)) e (inl m)
    run_named_refused e (inr h) = nothing_printed input o open_before (Ok (Run text file)) e (inr (Err (refusal_of e), inr (w, word, inl (refusal_of e, h, refl)), refl))

    module _ (N : NamedAutomaton) (reads : ReadsNamed input (Ok N)) where
      -- so was the search
      pub run_search_refused : (e : Refusal) → (e ≡ OutOfMemory) ⊎ RunsOn N w (Err (refusal_of e)) → IsOutcome {T = T} (Ok (Run text file)) input o o (Err e)
      run_search_refused e (inl m) = nothing_printed input o open_before (Ok (Run text file)) e (inl (m, read_whole input N reads))
      run_search_refused e (inr h) =
          nothing_printed input o open_before (Ok (Run text file)) e (inr (Err (refusal_of e), inr (w, word, inr (N, reads, inl (refusal_of e, h, refl))), refl))

      module _ (n : SinkState) (P : RunPicture) (runs : RunsOn N w (Ok P)) where
        -- it was drawn
        pub run_drawn : (x : T) → Finishes o n (run_text P) → IsOutcome {T = T} (Ok (Run text file)) input o n (Ok x)
        run_drawn x h = all_printed input o open_before (Ok (Run text file)) n (run_text P) (right input text file w word N reads P runs) x h

        pub run_cut_off : Breaks o n (run_text P) → IsOutcome {T = T} (Ok (Run text file)) input o n (Err CannotWrite)
        run_cut_off h = some_printed input o open_before (Ok (Run text file)) n (run_text P) (right input text file w word N reads P runs) h

-- ---- the search
pub search_refused : {T : Type 0} (N : NamedAutomaton) (w : Lasso) (f : RunFault) (e : Refusal) → e ≡ of_run f
    → (◌≡◌ {A = Result T RunFault} (Err f) (Err fault.TooLarge) → stated_limits.product < run_size N.automaton w) → (e ≡ OutOfMemory) ⊎ RunsOn N w (Err (refusal_of e))
search_refused N w fault.TooLarge e q large = inr (subst (λ (x : Refusal). RunsOn N w (Err (refusal_of x))) (sym q) (refl, large refl))
search_refused N w fault.OutOfMemory e q large = inl q

-- the edges of a run are edges
within : {X : Type 0} (xss : List (List X)) (k p : ℕ) → p < length (slice_index_or xss k []) → k < length xss
within [] k p l = absurd (omega (arith, l))
within (xs ∷ xss) zero p l = omega arith
within (xs ∷ xss) (suc k) p l = let h = within xss k p l in omega (arith, h)

module _ (A : MarkedAutomaton) (w : Lasso) (counted : length A.edges ≡ A.states) where
  in_run : (s i : ℕ) (qs : List Pick) (t j : ℕ) → IsRun A w s i qs t j → (q : Pick) → Has qs q → IsPick A q
  in_run s i [] t j h q m = absurd m
  in_run s i (p ∷ ps) t j (e, l, met, rest) q (inl f) = subst (IsPick A) (sym f) (subst (λ n. p.state < n) counted (within A.edges p.state p.place l), l)
  in_run s i (p ∷ ps) t j (e, l, met, rest) q (inr m) = in_run (edge_of_pick A w p).target (next w i) ps t j rest q m

  pub picks_there : (run : Option (List Pick)) → IsRunOf A w run → All (IsPick A) (picks_in run)
  picks_there None h = All-from_has (IsPick A) [] (λ q m. absurd m)
  picks_there (Some run) h = All-from_has (IsPick A) run (λ q m. elim (append_cases h.prefix h.cycle q (subst (λ qs. Has qs q) h.whole m)) [
    | inl k ↦ in_run A.start 0 h.prefix h.state h.position h.arrives q k
    | inr k ↦ in_run h.state h.position h.cycle h.state h.position h.cycles q k
  ])
