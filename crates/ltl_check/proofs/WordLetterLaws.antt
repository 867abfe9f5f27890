-- The letters of a word by the numbers of names.
use Rattle.std.proofs.Common.{◌≡◌, ◌∙◌, ap, sym, refl, subst, ℕ, zero, suc, replicate, ◌+◌, ◌<◌, Bool, true, false, inl, inr, List, [], length, arith}
use Rattle.std.specs.Prelude.{IsTrue}
use Rattle.std.specs.Bool.{Decides}
use Rattle.std.specs.Ordering.{nat_cmp}
use Rattle.ltl_spec.specs.Collections.Sets.{has, put}
use Rattle.ltl_spec.specs.Semantics.Word.{Lasso, Name, is_true_at}
use Rattle.ltl_spec.proofs.Collections.SetLaws.{has_Decides, put_cases, put_old, put_new}
use Rattle.ltl_spec.proofs.Collections.CaseLaws.{below_or_last, false_is_true}
use Rattle.ltl_spec.proofs.Collections.Orders.{nat_linear}
use Rattle.ltl_word.specs.LassoView.{size}
use Rattle.ltl_word.specs.Rows.{IsRow, bit_of}
use Rattle.ltl_check.specs.WordLetters.{AreLettersTo, IsPut, letter_in, put_if}

pub none_everywhere : (n i : ℕ) → letter_in (replicate n []) i ≡ []
none_everywhere zero zero = refl
none_everywhere zero (suc i) = refl
none_everywhere (suc n) zero = refl
none_everywhere (suc n) (suc i) = none_everywhere n i

-- tests that imply one another are equal
pub same_tests : (a b : Bool) → (a ≡ true → b ≡ true) → (b ≡ true → a ≡ true) → a ≡ b
same_tests true true f g = refl
same_tests true false f g = sym (f refl)
same_tests false true f g = g refl
same_tests false false f g = refl

module _ (n : ℕ) (old : List ℕ) (truth : ℕ → Bool) (among : (p : ℕ) → has nat_cmp p old ≡ true → p < n) (known : (p : ℕ) → p < n → has nat_cmp p old ≡ truth p) where
  put_among : (b : Bool) (p : ℕ) → has nat_cmp p (put_if b n old) ≡ true → p < n + 1
  put_among true p e = elim (put_cases nat_cmp n old p ((has_Decides nat_linear p (put nat_cmp n old)).0 e)) [
    | inl q ↦ omega (arith, q)
    | inr h ↦ let l = among p ((has_Decides nat_linear p old).1 h) in omega (arith, l)
  ]
  put_among false p e = let l = among p e in omega (arith, l)

  put_here : (b : Bool) → Decides b (IsTrue (truth n)) → has nat_cmp n (put_if b n old) ≡ truth n
  put_here true d = (has_Decides nat_linear n (put nat_cmp n old)).1 (put_new nat_linear n old) ∙ sym (d.0 refl)
  put_here false d = same_tests (has nat_cmp n old) (truth n) (λ e. let l = among n e in absurd (omega (arith, l))) (λ t. false_is_true (d.1 t))

  put_there : (b : Bool) (p : ℕ) → p < n → has nat_cmp p (put_if b n old) ≡ truth p
  put_there true p l = same_tests (has nat_cmp p (put nat_cmp n old)) (truth p)
      (λ e. elim (put_cases nat_cmp n old p ((has_Decides nat_linear p (put nat_cmp n old)).0 e)) [
        | inl q ↦ absurd (omega (arith, q, l))
        | inr h ↦ sym (known p l) ∙ (has_Decides nat_linear p old).1 h
      ])
      (λ t. (has_Decides nat_linear p (put nat_cmp n old)).1 (put_old nat_cmp n old p ((has_Decides nat_linear p old).0 (known p l ∙ t))))
  put_there false p l = known p l

  put_known : (b : Bool) → Decides b (IsTrue (truth n)) → (p : ℕ) → p < n + 1 → has nat_cmp p (put_if b n old) ≡ truth p
  put_known b d p l = elim (below_or_last p n l) [
    | inl m ↦ put_there b p m
    | inr e ↦ ap (λ q. has nat_cmp q (put_if b n old)) e ∙ put_here b d ∙ ap truth (sym e)
  ]

module _ (names : List Name) (w : Lasso) where
  pub letters_next : (n : ℕ) (row : List ℕ) (old new : List (List ℕ)) → AreLettersTo names w n old → IsRow (size w) (λ i. IsTrue (is_true_at names w i n)) row → IsPut row n old new → AreLettersTo names w (n + 1) new
  letters_next n row old new a r p =
      let same = p.long ∙ a.long in
      record {
        long = same;
        among = λ i q l e.
            let within : i < length old = subst (λ c. i < c) (sym a.long) l in
            put_among n (letter_in old i) (is_true_at names w i) (λ q. a.among i q l) (λ q. a.truth i q l) (bit_of row i) q (ap (has nat_cmp q) (sym (p.letters i within)) ∙ e);
        truth = λ i q l m.
            let within : i < length old = subst (λ c. i < c) (sym a.long) l in
            ap (has nat_cmp q) (p.letters i within) ∙ put_known n (letter_in old i) (is_true_at names w i) (λ q. a.among i q l) (λ q. a.truth i q l) (bit_of row i) (r.decides i l) q m;
      }
