-- The items that pass a test, one by one.
use Rattle.std.proofs.Common.{◌≡◌, ℕ, ◌+◌, ◌<◌, Bool, true, false, not, cond, List, [], ◌∷◌, ◌++◌, length, take, get_or, sym, ◌∙◌, ap}
use Rattle.std.specs.List.{filter}
use Rattle.std.proofs.lemmas.List.{take_more, append-nil}
use Rattle.std.proofs.lemmas.List.Elements.{filter-append}

module _ {T : Type 0} where
  -- one more item was looked at
  filter_more : (p : T → Bool) (xs : List T) (i : ℕ) (x : T) → i < length xs → x ≡ get_or xs i x → filter p (take (i + 1) xs) ≡ filter p (take i xs) ++ cond (p x) (x ∷ []) []
  filter_more p xs i x h e = ap (filter p) (take_more xs i x h ∙ ap (λ y. take i xs ++ y ∷ []) (sym e)) ∙ filter-append p (take i xs) (x ∷ [])

  -- it stays where nothing is found below it
  pub stays : (p : T → Bool) (xs ks js : List T) (i : ℕ) (x : T) → i < length xs → x ≡ get_or xs i x → p x ≡ false → js ≡ ks ++ x ∷ [] → ks ≡ filter (λ t. not (p t)) (take i xs) → js ≡ filter (λ t. not (p t)) (take (i + 1) xs)
  stays p xs ks js i x h e f new old =
      new ∙ ap (λ l. l ++ x ∷ []) old ∙ ap (λ b. filter (λ t. not (p t)) (take i xs) ++ cond (not b) (x ∷ []) []) (sym f) ∙ sym (filter_more (λ t. not (p t)) xs i x h e)

  pub goes : (p : T → Bool) (xs ks js : List T) (i : ℕ) (x : T) → i < length xs → x ≡ get_or xs i x → p x ≡ true → js ≡ ks → ks ≡ filter (λ t. not (p t)) (take i xs) → js ≡ filter (λ t. not (p t)) (take (i + 1) xs)
  goes p xs ks js i x h e f new old =
      new ∙ old ∙ sym (append-nil _) ∙ ap (λ b. filter (λ t. not (p t)) (take i xs) ++ cond (not b) (x ∷ []) []) (sym f) ∙ sym (filter_more (λ t. not (p t)) xs i x h e)
