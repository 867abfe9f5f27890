-- Reading the text of a word byte by byte.
use Rattle.std.proofs.Common.{◌≡◌, ℕ, Bool, true, false, List, [], ◌∷◌, ◌++◌, length, refl, sym, ◌∙◌, ap, subst, arith, append_assoc, Option, Some, None}
use Rattle.std.specs.Prelude.{◌==◌, if◌then◌else◌, IsTrue, ◌<◌, fold, flat_map, map, codes}
use Rattle.std.specs.List.{list_all}
use Rattle.std.proofs.lemmas.Bool.{eqb-true, false_from_ne_true, false≢true}
use Rattle.std.proofs.lemmas.List.{append-nil}
use Rattle.std.proofs.lemmas.List.Sums.{fold-append}
use Rattle.std.proofs.lemmas.Option.{none-some}
use Rattle.ltl_spec.specs.Collections.Lists.{joined_by}
use Rattle.ltl_spec.specs.Semantics.Word.{Name, Lasso}
use Rattle.ltl_spec.specs.Formulas.Tokens.{is_lower, is_name_byte}
use Rattle.ltl_spec.specs.Formulas.Names.{is_proposition}
use Rattle.ltl_spec.specs.Words.LassoText.{letter_text, lasso_text, with_sets, IsLassoText, IsLassoBeginning}
use Rattle.ltl_spec.proofs.Collections.CaseLaws.{left_true, right_true}
use Rattle.ltl_spec.proofs.Collections.MemberLaws.{all_front, all_behind}
pub use Rattle.ltl_spec.specs.Words.LassoMachine.{WordPlace, AtLetter, AtFirstName, AtName, AfterLetter, AtBlank, InName, InWord, WordBefore, at, closed, closed_with, go, begin_name, end_name, in_name, in_word, expect_word, at_letter, word_step, is_finished}

abbrev pub one_byte : Option WordBefore → ℕ → Option WordBefore
one_byte None c = None
one_byte (Some b) c = word_step b.place b c

abbrev pub run : Option WordBefore → List ℕ → Option WordBefore
run o bytes = fold one_byte o bytes

abbrev pub start : WordBefore
start = at AtLetter false [] [] []

-- the bytes of a name
name_bytes : (bs m : Name) (c : Bool) (u v : List (List Name)) (l : List Name) → IsTrue (list_all is_name_byte bs)
    → run (Some (at (InName m) c u v l)) bs ≡ Some (at (InName (m ++ bs)) c u v l)
name_bytes [] m c u v l e = ap (λ n. Some (at (InName n) c u v l)) (sym (append-nil m))
name_bytes (b ∷ bs) m c u v l e =
    ap (λ t. run (in_name t (is_proposition m) (at (InName m) c u v l) m b) bs) (left_true _ _ e)
    ∙ name_bytes bs (m ++ b ∷ []) c u v l (right_true _ _ e)
    ∙ ap (λ n. Some (at (InName n) c u v l)) (append_assoc m (b ∷ []) bs)

-- a lower-case letter is no `}`
lower_isnt_close : (b : ℕ) → IsTrue (is_lower b) → (b == 125) ≡ false
lower_isnt_close b e = ap (λ t. t) (false_from_ne_true (b == 125) (λ d. contra (eqb-true b 125 d)))
  where
    contra : b ≡ 125 → ⊥
    contra d = (let h0 = subst (λ n. IsTrue (is_lower n)) d e in cc)

-- a whole name, where the letter has these names before
name_run : (n : Name) (c : Bool) (u v : List (List Name)) (l : List Name) → IsTrue (is_proposition n)
    → run (Some (at AtName c u v l)) n ≡ Some (at (InName n) c u v l)
name_run [] c u v l e = cc
name_run (b ∷ bs) c u v l e =
    ap (λ t. run (begin_name t (at AtName c u v l) b) bs) (left_true (is_lower b) _ (left_true _ _ e))
    ∙ name_bytes bs (b ∷ []) c u v l (right_true (is_lower b) _ (left_true _ _ e))

first_name_run : (n : Name) (c : Bool) (u v : List (List Name)) → IsTrue (is_proposition n)
    → run (Some (at AtFirstName c u v [])) n ≡ Some (at (InName n) c u v [])
first_name_run [] c u v e = cc
first_name_run (b ∷ bs) c u v e =
    ap (λ t. run (if t then Some (closed c u v []) else begin_name (is_lower b) (at AtFirstName c u v []) b) bs) (lower_isnt_close b (left_true (is_lower b) _ (left_true _ _ e)))
    ∙ ap (λ t. run (begin_name t (at AtFirstName c u v []) b) bs) (left_true (is_lower b) _ (left_true _ _ e))
    ∙ name_bytes bs (b ∷ []) c u v [] (right_true (is_lower b) _ (left_true _ _ e))

-- `,` and `}` behind a name
comma_run : (n : Name) (c : Bool) (u v : List (List Name)) (l : List Name) → IsTrue (is_proposition n)
    → one_byte (Some (at (InName n) c u v l)) 44 ≡ Some (at AtName c u v (l ++ n ∷ []))
comma_run n c u v l e = ap (λ t. in_name false t (at (InName n) c u v l) n 44) e

close_run : (n : Name) (c : Bool) (u v : List (List Name)) (l : List Name) → IsTrue (is_proposition n)
    → one_byte (Some (at (InName n) c u v l)) 125 ≡ Some (closed c u v (l ++ n ∷ []))
close_run n c u v l e = ap (λ t. in_name false t (at (InName n) c u v l) n 125) e

-- what stands behind the first name of a letter
rest_text : List Name → List ℕ
rest_text [] = 125 ∷ []
rest_text (m ∷ ms) = 44 ∷ m ++ rest_text ms

joined_rest : (n : Name) (ns : List Name) → joined_by (codes ",") (n ∷ ns) ++ codes "}" ≡ n ++ rest_text ns
unfolding rest_text
joined_rest n [] = refl
joined_rest n (m ∷ ms) =
    append_assoc (n ++ codes ",") (joined_by (codes ",") (m ∷ ms)) (codes "}")
    ∙ append_assoc n (codes ",") (joined_by (codes ",") (m ∷ ms) ++ codes "}")
    ∙ ap (λ t. n ++ (44 ∷ t)) (joined_rest m ms)

rest_run : (n : Name) (ns : List Name) (c : Bool) (u v : List (List Name)) (l : List Name)
    → IsTrue (is_proposition n) → IsTrue (list_all is_proposition ns)
    → run (Some (at (InName n) c u v l)) (rest_text ns) ≡ Some (closed c u v (l ++ n ∷ ns))
unfolding rest_text
rest_run n [] c u v l e es = close_run n c u v l e
rest_run n (m ∷ ms) c u v l e es =
    ap (λ o. run o (m ++ rest_text ms)) (comma_run n c u v l e)
    ∙ fold-append one_byte (Some (at AtName c u v (l ++ n ∷ []))) m (rest_text ms)
    ∙ ap (λ o. run o (rest_text ms)) (name_run m c u v (l ++ n ∷ []) (left_true _ _ es))
    ∙ rest_run m ms c u v (l ++ n ∷ []) (left_true _ _ es) (right_true (is_proposition m) _ es)
    ∙ ap (λ k. Some (closed c u v k)) (append_assoc l (n ∷ []) (m ∷ ms))

letter_run : (ns : List Name) (c : Bool) (u v : List (List Name)) → IsTrue (list_all is_proposition ns)
    → run (Some (at AtLetter c u v [])) (letter_text ns) ≡ Some (closed c u v ns)
letter_run [] true u v es = refl
letter_run [] false u v es = refl
letter_run (n ∷ ns) c u v es =
    ap (λ o. run o (joined_by (codes ",") (n ∷ ns) ++ codes "}")) (open_run c)
    ∙ ap (run (Some (at AtFirstName c u v []))) (joined_rest n ns)
    ∙ fold-append one_byte (Some (at AtFirstName c u v [])) n (rest_text ns)
    ∙ ap (λ o. run o (rest_text ns)) (first_name_run n c u v (left_true _ _ es))
    ∙ rest_run n ns c u v [] (left_true _ _ es) (right_true (is_proposition n) _ es)
  where
    open_run : (d : Bool) → one_byte (Some (at AtLetter d u v [])) 123 ≡ Some (at AtFirstName d u v [])
    open_run true = refl
    open_run false = refl

-- the stem, and what stands before the last letter of the cycle
abbrev pub letters_text : List (List Name) → List ℕ
letters_text ls = flat_map (λ a. letter_text a ++ codes "; ") ls

stem_run : (ls u : List (List Name)) → IsTrue (list_all (λ a. list_all is_proposition a) ls)
    → run (Some (at AtLetter false u [] [])) (letters_text ls) ≡ Some (at AtLetter false (u ++ ls) [] [])
stem_run [] u es = ap (λ x. Some (at AtLetter false x [] [])) (sym (append-nil u))
stem_run (a ∷ ls) u es =
    fold-append one_byte (Some (at AtLetter false u [] [])) (letter_text a ++ codes "; ") (letters_text ls)
    ∙ ap (λ o. run o (letters_text ls)) (
    fold-append one_byte (Some (at AtLetter false u [] [])) (letter_text a) (codes "; ")
    ∙ ap (λ o. run o (codes "; ")) (letter_run a false u [] (left_true _ _ es)))
    ∙ stem_run ls (u ++ a ∷ []) (right_true (list_all is_proposition a) _ es)
    ∙ ap (λ x. Some (at AtLetter false x [] [])) (append_assoc u (a ∷ []) ls)

cycle_run : (a : List Name) (ls u v : List (List Name)) → IsTrue (list_all (λ b. list_all is_proposition b) (a ∷ ls))
    → run (Some (at AtLetter true u v [])) (joined_by (codes "; ") (map letter_text (a ∷ ls))) ≡ Some (at AfterLetter true u (v ++ a ∷ ls) [])
cycle_run a [] u v es = letter_run a true u v (left_true _ _ es)
cycle_run a (b ∷ bs) u v es =
    fold-append one_byte (Some (at AtLetter true u v [])) (letter_text a ++ codes "; ") (joined_by (codes "; ") (map letter_text (b ∷ bs)))
    ∙ ap (λ o. run o (joined_by (codes "; ") (map letter_text (b ∷ bs)))) (
    fold-append one_byte (Some (at AtLetter true u v [])) (letter_text a) (codes "; ")
    ∙ ap (λ o. run o (codes "; ")) (letter_run a true u v (left_true _ _ es)))
    ∙ cycle_run b bs u (v ++ a ∷ []) (right_true (list_all is_proposition a) _ es)
    ∙ ap (λ x. Some (at AfterLetter true u x [])) (append_assoc v (a ∷ []) (b ∷ bs))

-- the whole text of a word
word_run : (u v : List (List Name)) → IsTrue (list_all (λ a. list_all is_proposition a) (u ++ v)) → 0 < length v
    → run (Some start) (lasso_text (record { stem = u; cycle = v })) ≡ Some (at AfterLetter true u v [])
word_run u [] es l = absurd (omega arith)
word_run u (a ∷ ls) es l =
    fold-append one_byte (Some start) (letters_text u ++ codes "cycle ") (joined_by (codes "; ") (map letter_text (a ∷ ls)))
    ∙ ap (λ o. run o (joined_by (codes "; ") (map letter_text (a ∷ ls)))) (
    fold-append one_byte (Some start) (letters_text u) (codes "cycle ")
    ∙ ap (λ o. run o (codes "cycle ")) (stem_run u [] (all_front _ u (a ∷ ls) es)))
    ∙ cycle_run a ls u [] (all_behind _ u (a ∷ ls) es)

pub text_run : (text : List ℕ) (w : Lasso) (t : IsLassoText text w) → run (Some start) text ≡ Some (at AfterLetter true t.written.stem t.written.cycle [])
text_run text w t = ap (run (Some start)) t.spelled ∙ word_run t.written.stem t.written.cycle t.propositions t.cycles

-- a text reads as one word at most
pub one_word : (text : List ℕ) (v w : Lasso) → IsLassoText text v → IsLassoText text w → v ≡ w
one_word text v w s t = s.read ∙ ap (λ o. with_sets (letters o)) (sym (text_run text v s) ∙ text_run text w t) ∙ sym t.read
  where
    letters : Option WordBefore → Lasso
    letters None = record { stem = []; cycle = [] }
    letters (Some b) = record { stem = b.stem; cycle = b.cycle }

pub run_none : (bytes : List ℕ) → run None bytes ≡ None
run_none [] = refl
run_none (b ∷ bs) = run_none bs

-- whether all of a word was read
abbrev pub is_whole : Option WordBefore → Bool
is_whole None = false
is_whole (Some b) = is_finished b.place b.in_cycle

-- where reading stops no word's text begins
pub no_beginning : (bytes : List ℕ) → run (Some start) bytes ≡ None → ¬ (IsLassoBeginning bytes)
no_beginning bytes e (rest, w, t) =
    let stopped = ap (λ o. run o rest) e ∙ run_none rest in
    none-some _ (sym stopped ∙ sym (fold-append one_byte (Some start) bytes rest) ∙ text_run (bytes ++ rest) w t)

pub no_word : (text : List ℕ) → is_whole (run (Some start) text) ≡ false → (w : Lasso) → ¬ (IsLassoText text w)
no_word text e w t = false≢true (sym e ∙ ap is_whole (text_run text w t))
