-- The reader over a text: names are numbered as they come, and the first token that fits nowhere is answered.
-- A loop keeps `verdict` of what is left equal to `verdict` of the whole text.
use Rattle.std.proofs.Common.{◌≡◌, ℕ, ◌+◌, true, false, cond, not, Decides, inl, inr, List, [], ◌∷◌, ◌++◌, length, map, fold, filter_map, Option, Some, None, Result, Ok, Err, refl, sym, ◌∙◌, ap, subst, append_assoc, append-nil}
use Rattle.std.specs.List.{list_any}
use Rattle.std.proofs.lemmas.Slice.Eq.{bytes_eq-Decides}
use Rattle.std.proofs.lemmas.List.{map_push}
use Rattle.std.proofs.lemmas.Option.{none-some}
use Rattle.ltl_spec.specs.Collections.Sets.{Has}
use Rattle.ltl_spec.specs.Collections.Lists.{with_new, place_of}
use Rattle.ltl_spec.specs.Semantics.Word.{Name}
use Rattle.ltl_spec.specs.Formulas.Formula.{Formula, Proposition, Reading}
use Rattle.ltl_spec.specs.Formulas.Tokens.{Token, ConstantWord, NameWord, BinarySign, Item, same_name, items, tokens}
use Rattle.ltl_spec.specs.Formulas.Grammar.{IsTextOf, name_in, names_of}
use Rattle.ltl_spec.specs.Formulas.Fault.{FaultKind, IsFault}
use Rattle.ltl_spec.proofs.Collections.ListLaws.{with_new_old, with_new_new}
use Rattle.ltl_spec.proofs.Formulas.TokenLaws.{token_of}
use Rattle.ltl_spec.proofs.Formulas.GrammarMachine.{Reader, Wanting, Having, read_step, read_on, run, run_append, finished, finished_if}
use Rattle.ltl_spec.proofs.Formulas.BeginningLaws.{Outline, After, outline, outline_if, run_outline, step_outline, outline_finished, Reads-from_read}
use Rattle.ltl_spec.proofs.Formulas.FaultLaws.{kind_before, kind_at, fault_at, fault_at_end}
use Rattle.ltl_spec.proofs.Collections.CaseLaws.{false_is_true}
pub use Rattle.ltl_spec.specs.Formulas.Names.{with_name}

-- a reading, or the place and kind of a fault
abbrev pub Verdict : Type 0
Verdict = Result Reading (ℕ × FaultKind)

-- a formula makes a reading, and without one the place is at fault
abbrev pub verdict_at : List Name → Option Formula → ℕ → FaultKind → Verdict
verdict_at names None place kind = Err (place, kind)
verdict_at names (Some F) place kind = Ok (record { formula = F; names = names })

-- What a reader in this state with these names answers on these items; `end` is the text's length
abbrev pub verdict : ℕ → List Name → Reader → List Item → Verdict
verdict end names r [] = verdict_at names (finished r) end (kind_before (outline r))
verdict end names r (item ∷ rest) =
    elim (read_step (with_name names item.token) r item.token) [ None ↦ Err (item.start, kind_at (outline r) item.token) | Some q ↦ verdict end (with_name names item.token) q rest ]

-- the same where all names are known before
abbrev judge : ℕ → List Name → Reader → List Item → Verdict
judge end names r [] = verdict_at names (finished r) end (kind_before (outline r))
judge end names r (item ∷ rest) =
    elim (read_step names r item.token) [ None ↦ Err (item.start, kind_at (outline r) item.token) | Some q ↦ judge end names q rest ]

-- the names' places stay

-- a name keeps its place with names behind it
place_append : (n : Name) (names ms : List Name) → Has names n → place_of same_name n (names ++ ms) ≡ place_of same_name n names
place_append n [] ms h = absurd h
place_append n (m ∷ names) ms h =
    elim (same_name n m) as (λ b. Decides b (n ≡ m) → cond (not b) (1 + place_of same_name n (names ++ ms)) 0 ≡ cond (not b) (1 + place_of same_name n names) 0) [
      | true ↦ λ d. refl
      | false ↦ λ d. elim h [ inl e ↦ false_is_true (d.1 e) | inr k ↦ ap (λ p. 1 + p) (place_append n names ms k) ]
    ] (bytes_eq-Decides n m)

-- and with one new name
place_with_new : (n m : Name) (names : List Name) → Has names n → place_of same_name n (with_new same_name names m) ≡ place_of same_name n names
place_with_new n m names h =
    elim (list_any (same_name m) names) as (λ b. place_of same_name n (cond b names (names ++ m ∷ [])) ≡ place_of same_name n names) [
      | true ↦ refl
      | false ↦ place_append n names (m ∷ []) h
    ]

-- a name keeps its place when more come
pub place_stays : (n : Name) (names ms : List Name) → Has names n → place_of same_name n (fold (with_new same_name) names ms) ≡ place_of same_name n names
place_stays n names [] h = refl
place_stays n names (m ∷ ms) h =
    place_stays n (with_new same_name names m) ms (with_new_old same_name bytes_eq-Decides names m n h) ∙ place_with_new n m names h

-- all names of the tokens, after these
abbrev all_names : List Name → List Token → List Name
all_names names ts = fold (with_new same_name) names (filter_map name_in ts)

-- one token on
all_names_on : (names : List Name) (t : Token) (ts : List Token) → all_names names (t ∷ ts) ≡ all_names (with_name names t) ts
all_names_on names (NameWord n) ts = refl
all_names_on names _ ts = refl

-- a step goes the same way with all names
step_named : (names : List Name) (r : Reader) (t : Token) (ts : List Token) → read_step (with_name names t) r t ≡ read_step (all_names (with_name names t) ts) r t
step_named names (Wanting s) (NameWord n) ts =
    ap (λ p. Some (Having (Proposition p) s))
    (sym (place_stays n (with_new same_name names n) (filter_map name_in ts) (with_new_new same_name bytes_eq-Decides names n)))
step_named names (Wanting s) (ConstantWord b) ts = refl
step_named names (Wanting s) _ ts = refl
step_named names (Having F s) (BinarySign op) ts = refl
step_named names (Having F s) _ ts = refl

-- where `judge` goes on after an item
abbrev judge_on : ℕ → List Name → Outline → Item → List Item → Option Reader → Verdict
judge_on end names o item rest None = Err (item.start, kind_at o item.token)
judge_on end names o item rest (Some q) = judge end names q rest

-- where `verdict` goes on after an item
abbrev verdict_on : ℕ → List Name → Outline → Item → List Item → Option Reader → Verdict
verdict_on end names o item rest None = Err (item.start, kind_at o item.token)
verdict_on end names o item rest (Some q) = verdict end names q rest

-- naming as they come or before is the same
verdict_judge : (end : ℕ) (names : List Name) (r : Reader) (its : List Item) → verdict end names r its ≡ judge end (all_names names (map token_of its)) r its
verdict_judge end names r [] = refl
verdict_judge end names r (item ∷ rest) =
    let t = item.token in
    let ts = map token_of rest in
    elim (read_step (with_name names t) r t) as (λ o. verdict_on end (with_name names t) (outline r) item rest o
    ≡ judge_on end (all_names (with_name names t) ts) (outline r) item rest o) [ None ↦ refl | Some q ↦ verdict_judge end (with_name names t) q rest ]
    ∙ ap (judge_on end (all_names (with_name names t) ts) (outline r) item rest) (step_named names r t ts)
    ∙ ap (λ l. judge end l r (item ∷ rest)) (sym (all_names_on names t ts))

-- what a verdict says
abbrev pub VerdictTells : List ℕ → Verdict → Type 0
VerdictTells text (Ok R) = IsTextOf text R
VerdictTells text (Err f) = IsFault text f.0 f.1

-- a reader with no formula has an operand or a bracket missing
not_finished : (r : Reader) → finished r ≡ None → ¬ (outline r ≡ After 0)
not_finished r e o = let w = outline_finished (Some r) (ap Some o) in none-some w.0 (sym e ∙ w.1)

-- what the end of a text says
judge_at_end : (text : List ℕ) (r : Reader) → run (names_of (tokens text)) (Some (Wanting [])) (tokens text) ≡ Some r
    → VerdictTells text (verdict_at (names_of (tokens text)) (finished r) (length text) (kind_before (outline r)))
judge_at_end text r w =
    elim (finished r) as (λ f. finished r ≡ f → VerdictTells text (verdict_at (names_of (tokens text)) f (length text) (kind_before (outline r)))) [
      | None ↦ λ e. fault_at_end text (outline r) (sym (run_outline (names_of (tokens text)) (Some (Wanting [])) (tokens text)) ∙ ap outline_if w) (not_finished r e)
      | Some F ↦ λ e. Reads-from_read (tokens text) F (ap finished_if w ∙ e)
    ] refl

-- what the items from one on say
judge_from : (text : List ℕ) (r : Reader) (rest done : List Item) → items text ≡ done ++ rest
    → run (names_of (tokens text)) (Some (Wanting [])) (map token_of done) ≡ Some r → VerdictTells text (judge (length text) (names_of (tokens text)) r rest)
judge_from text r [] done e w =
    judge_at_end text r (ap (λ l. run (names_of (tokens text)) (Some (Wanting [])) (map token_of l)) (e ∙ append-nil done) ∙ w)
judge_from text r (item ∷ rest) done e w =
    let names = names_of (tokens text) in
    elim (read_step names r item.token) as (λ o. read_step names r item.token ≡ o → VerdictTells text (judge_on (length text) names (outline r) item rest o)) [
      | None ↦ λ s. fault_at text done rest item (outline r) e (sym (run_outline names (Some (Wanting [])) (map token_of done)) ∙ ap outline_if w)
          (sym (step_outline names r item.token) ∙ ap outline_if s)
      | Some q ↦ λ s. judge_from text q rest (done ++ item ∷ []) (e ∙ sym (append_assoc done (item ∷ []) rest))
          (ap (run names (Some (Wanting []))) (map_push token_of done item) ∙ run_append names (Some (Wanting [])) (map token_of done) (item.token ∷ [])
          ∙ ap (λ o. read_on names o item.token) w ∙ s)
    ] refl

-- The verdict on a text is its reading or its fault
pub verdict_tells : (text : List ℕ) → VerdictTells text (verdict (length text) [] (Wanting []) (items text))
verdict_tells text =
    subst (VerdictTells text) (sym (verdict_judge (length text) [] (Wanting []) (items text))) (judge_from text (Wanting []) (items text) [] refl refl)

-- a formula that is answered is the reading
pub verdict_reading : (text : List ℕ) (R : Reading) → verdict (length text) [] (Wanting []) (items text) ≡ Ok R → IsTextOf text R
verdict_reading text R e = subst (VerdictTells text) e (verdict_tells text)

-- and a fault that is answered is the fault
pub verdict_fault : (text : List ℕ) (f : ℕ × FaultKind) → verdict (length text) [] (Wanting []) (items text) ≡ Err f → IsFault text f.0 f.1
verdict_fault text f e = subst (VerdictTells text) e (verdict_tells text)
