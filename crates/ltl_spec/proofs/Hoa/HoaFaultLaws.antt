-- A fault doesn't depend on what follows its token.
use Rattle.std.proofs.Common.{◌≡◌, ℕ, ◌≤◌, List, [], ◌∷◌, ◌++◌, length, refl, sym, ◌∙◌, ap, Some}
use Rattle.std.specs.Prelude.{Bool, true, false, if◌then◌else◌, IsTrue, fold, take, Result, Ok, Err}
use Rattle.std.specs.List.{list_all}
use Rattle.std.proofs.lemmas.Bool.{le-ltb}
use Rattle.std.proofs.lemmas.List.Sums.{fold-append}
use Rattle.ltl_spec.specs.Tools.Limits.{Limits}
use Rattle.ltl_spec.specs.Hoa.HoaToken.{HoaToken, UnclosedString, UnclosedComment, HoaItem, hoa_items, last_line}
use Rattle.ltl_spec.specs.Hoa.HoaReading.{AcceptanceForm}
use Rattle.ltl_spec.specs.Hoa.HoaFaultKind.{LimitPassed}
use Rattle.ltl_spec.specs.Hoa.HoaPlace.{Place, Before, before_all}
use Rattle.ltl_spec.specs.Hoa.HoaStep.{Step, step}
use Rattle.ltl_spec.specs.Hoa.HoaFault.{HoaFault, fault_line, take_item, with_line, fault_after, fault_at, hoa_fault}
use Rattle.ltl_spec.proofs.Collections.CaseLaws.{left_true, right_true}

-- whether a token has its end
abbrev pub has_end : HoaToken → Bool
has_end UnclosedString = false
has_end UnclosedComment = false
has_end t = true

-- its line is that of its first byte
own_line : (place : Place) (t : HoaToken) (line last other : ℕ) → IsTrue (has_end t) → fault_line place t line last ≡ fault_line place t line other
own_line place UnclosedString line last other e = cc
own_line place UnclosedComment line last other e = cc
own_line place t line last other e = refl

module _ (l : Limits) (form : AcceptanceForm) where
  -- behind a fault nothing counts
  pub fault_stays : (text : List ℕ) (fault : HoaFault) (items : List HoaItem) → fold (take_item l form text) (Err fault) items ≡ Err fault
  fault_stays text fault [] = refl
  fault_stays text fault (i ∷ items) = fault_stays text fault items

  -- tokens that have their ends lead to the same in any text
  pub same_steps : (text other : List ℕ) (o : Result Before HoaFault) (items : List HoaItem) → IsTrue (list_all (λ i. has_end i.token) items)
      → fold (take_item l form text) o items ≡ fold (take_item l form other) o items
  same_steps text other o [] e = refl
  same_steps text other (Err fault) (i ∷ items) e = same_steps text other (Err fault) items (right_true (has_end i.token) _ e)
  same_steps text other (Ok b) (i ∷ items) e =
      ap (λ o. fold (take_item l form text) o items) (same (step l form b.place b i.token))
      ∙ same_steps text other (take_item l form other (Ok b) i) items (right_true (has_end i.token) _ e)
    where
      same : (s : Step) → with_line l form text b.place i s ≡ with_line l form other b.place i s
      same (Ok c) = refl
      same (Err kind) = ap (λ n. Err (record { kind = kind; line = n })) (own_line b.place i.token i.line (last_line text) (last_line other) (left_true _ _ e))

  -- a text that isn't too long
  pub within_limit : (text : List ℕ) → length text ≤ l.hoa_bytes → hoa_fault l form text ≡ fault_after l form text (fold (take_item l form text) (Ok before_all) (hoa_items text))
  within_limit text m =
      ap (λ t. if t then fault_at LimitPassed (last_line (take l.hoa_bytes text)) else fault_after l form text (fold (take_item l form text) (Ok before_all) (hoa_items text))) (le-ltb l.hoa_bytes (length text) m)

  -- a fault among the first tokens is that of the text
  pub first_fault : (text : List ℕ) (items later : List HoaItem) (fault : HoaFault) → length text ≤ l.hoa_bytes → hoa_items text ≡ items ++ later
      → fold (take_item l form text) (Ok before_all) items ≡ Err fault → hoa_fault l form text ≡ Some fault
  first_fault text items later fault m q f =
      within_limit text m
      ∙ ap (λ is. fault_after l form text (fold (take_item l form text) (Ok before_all) is)) q
      ∙ ap (fault_after l form text) (fold-append (take_item l form text) (Ok before_all) items later ∙ ap (λ o. fold (take_item l form text) o later) f ∙ fault_stays text fault later)

  -- So texts that begin with the same tokens, of which one is at fault, have the same fault, unless one is too long
  pub fault_by_beginning : (text other : List ℕ) (items later others : List HoaItem) (fault : HoaFault) → length text ≤ l.hoa_bytes → length other ≤ l.hoa_bytes
      → hoa_items text ≡ items ++ later → hoa_items other ≡ items ++ others → IsTrue (list_all (λ i. has_end i.token) items)
      → fold (take_item l form text) (Ok before_all) items ≡ Err fault
      → (hoa_fault l form text ≡ Some fault) × (hoa_fault l form other ≡ Some fault)
  fault_by_beginning text other items later others fault m n q r e f =
      (first_fault text items later fault m q f, first_fault other items others fault n r (sym (same_steps text other (Ok before_all) items e) ∙ f))
