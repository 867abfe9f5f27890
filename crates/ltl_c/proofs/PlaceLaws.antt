-- The names of a formula are found in its text one after the other.
use Rattle.std.proofs.Common.{◌≡◌, ◌∙◌, ap, sym, subst, refl, inl, inr, ℕ, zero, suc, ◌+◌, ◌<◌, ◌≤◌, arith, Bool, true, false, cond, List, [], ◌∷◌, ◌++◌, length, map, take, get_or, fold, find, filter_map, Some, append_assoc, length-append, length-take-le, set}
use Rattle.std.specs.Bool.{Decides}
use Rattle.std.specs.List.{list_any}
use Rattle.std.specs.Option.{option_map_or}
use Rattle.std.proofs.lemmas.List.{get_or_at, get_or_default, take_more}
use Rattle.ltl_spec.specs.Collections.Lists.{HasNoRepeats, with_new}
use Rattle.ltl_spec.specs.Collections.Sets.{Has}
use Rattle.ltl_spec.specs.Formulas.Grammar.{name_in}
use Rattle.ltl_spec.specs.Formulas.Tokens.{Item, NameWord, Token, same_name}
use Rattle.ltl_spec.specs.Semantics.Word.{Name}
use Rattle.ltl_spec.proofs.Automata.ListingLaws.{fold_behind}
use Rattle.ltl_spec.proofs.Collections.CaseLaws.{false_is_true}
use Rattle.ltl_spec.proofs.Collections.ListLaws.{any_Decides}
use Rattle.ltl_spec.proofs.Collections.SetLaws.{append_left, append_right}
use Rattle.ltl_spec.proofs.Formulas.NameLaws.{same_name_Decides}
use Rattle.ltl_c.specs.declared.rows.NameRow.{NameRow}
use Rattle.ltl_c.specs.Arrays.{is_named, is_word, name_row, put_over}
use Rattle.ltl_c.proofs.ArrayLaws.{next_row}

-- the names among items
abbrev pub names_among : List Item → List Name
names_among is = filter_map name_in (map (λ (i : Item). i.token) is)

-- of all items these are left, and the first so many names were found
pub record Finds (all : List Item) (names : List Name) (rest : List Item) (count : ℕ) : Type 0 where
  pub within : count ≤ length names
  pub left : fold (with_new same_name) (take count names) (names_among rest) ≡ names
  pub later : (n : Name) → (Has (take count names) n → ⊥) → find (is_named n) all ≡ find (is_named n) rest

-- at first none
pub none_found : (all : List Item) (names : List Name) → names ≡ fold (with_new same_name) [] (names_among all) → Finds all names all 0
none_found all names e = record { within = omega arith; left = sym e; later = λ n h. refl }

-- at the end all
pub all_found : (all : List Item) (names : List Name) (rest : List Item) (count : ℕ) → Finds all names rest count → rest ≡ [] → take count names ≡ names
all_found all names rest count f e = subst (λ (r : List Item). fold (with_new same_name) (take count names) (names_among r) ≡ names) e f.left

-- different names: the next one isn't among those before it
not_before : (names : List Name) (k : ℕ) (d : Name) → HasNoRepeats names → k < length names → Has (take k names) (get_or names k d) → ⊥
not_before [] k d r h = absurd (omega arith)
not_before (n ∷ names) zero d r h = λ x. x
not_before (n ∷ names) (suc k) d r h = λ x. elim x [ inl e ↦ r.0 (subst (Has names) e (has_at names k d (omega arith))) | inr y ↦ not_before names k d r.1 (omega arith) y ]
  where
    has_at : (xs : List Name) (k : ℕ) (d : Name) → k < length xs → Has xs (get_or xs k d)
    has_at [] k d h = absurd (omega arith)
    has_at (x ∷ xs) zero d h = inl refl
    has_at (x ∷ xs) (suc k) d h = inr (has_at xs k d (omega arith))

-- a name that is there adds none, and one that isn't stands behind
with_old : (xs : List Name) (n : Name) → Has xs n → with_new same_name xs n ≡ xs
with_old xs n h = ap (λ b. cond b xs (xs ++ n ∷ [])) ((any_Decides same_name same_name_Decides n xs).1 h)

with_other : (xs : List Name) (n : Name) → (Has xs n → ⊥) → with_new same_name xs n ≡ xs ++ n ∷ []
with_other xs n h = ap (λ b. cond b xs (xs ++ n ∷ [])) (is_not (list_any (same_name n) xs) (any_Decides same_name same_name_Decides n xs))
  where
    is_not : (b : Bool) → Decides b (Has xs n) → b ≡ false
    is_not true d = absurd (h (d.0 refl))
    is_not false d = refl

differs : (m n : Name) → (m ≡ n → ⊥) → same_name m n ≡ false
differs m n h = is_not (same_name m n) (same_name_Decides m n)
  where
    is_not : (b : Bool) → Decides b (m ≡ n) → b ≡ false
    is_not true d = absurd (h (d.0 refl))
    is_not false d = refl

-- an item that isn't the name is passed over
passed : (all : List Item) (i : Item) (rest : List Item) (n : Name) → find (is_named n) all ≡ find (is_named n) (i ∷ rest) → is_named n i ≡ false → find (is_named n) all ≡ find (is_named n) rest
passed all i rest n h e = h ∙ ap (λ b. cond b (Some i) (find (is_named n) rest)) e

module _ (all : List Item) (names : List Name) (apart : HasNoRepeats names) where
  -- the next name
  module _ (i : Item) (rest : List Item) (count : ℕ) (found : Finds all names (i ∷ rest) count) (n : Name) (below : count < length names) (is : get_or names count [] ≡ n) where
    new : Has (take count names) n → ⊥
    new = subst (λ (m : Name). Has (take count names) m → ⊥) is (not_before names count [] apart below)

    taken : take (count + 1) names ≡ take count names ++ n ∷ []
    taken = take_more names count [] below ∙ ap (λ m. take count names ++ m ∷ []) is

    word_of : (t : Token) → is_word n t ≡ true → t ≡ NameWord n
    word_of (NameWord m) e = ap NameWord ((same_name_Decides m n).0 e)
    word_of _ e = absurd (false_is_true e)

    pub name_found : is_named n i ≡ true → Finds all names rest (count + 1)
    name_found e = record {
      within = omega arith;
      left =
          ap (λ l. fold (with_new same_name) l (names_among rest)) (taken ∙ sym (with_other (take count names) n new))
          ∙ ap (λ t. fold (with_new same_name) (take count names) (filter_map name_in (t ∷ map (λ (j : Item). j.token) rest))) (sym (word_of i.token e))
          ∙ found.left;
      later = λ m h. passed all i rest m (found.later m (λ k. h (subst (λ l. Has l m) (sym taken) (append_left (take count names) (n ∷ []) m k))))
          (other m (λ k. h (subst (λ l. Has l m) (sym taken) (append_right (take count names) (n ∷ []) m (inl k)))));
    }
      where
        other : (m : Name) → (m ≡ n → ⊥) → is_named m i ≡ false
        other m h = ap (is_word m) (word_of i.token e) ∙ differs n m (λ q. h (sym q))

    -- and its row
    pub row_found : is_named n i ≡ true → (size : ℕ) → size ≡ length n → (row : NameRow) → row ≡ record { offset = i.start; count = size } → row ≡ name_row all n
    row_found e size s row r =
        r
        ∙ ap (λ k. let x : NameRow = record { offset = i.start; count = k } in x) s
        ∙ ap (λ o. let x : NameRow = record { offset = option_map_or (λ (j : Item). j.start) o 0; count = length n } in x)
        (sym (found.later n new ∙ ap (λ b. cond b (Some i) (find (is_named n) rest)) e))

  -- any other item
  module _ (i : Item) (rest : List Item) (count : ℕ) (found : Finds all names (i ∷ rest) count) where
    other_found : (t : Token) → i.token ≡ t → ((n : Name) → count < length names → get_or names count [] ≡ n → is_word n t ≡ false) → Finds all names rest count
    other_found (NameWord m) e f = record {
      within = found.within;
      left = ap (λ l. fold (with_new same_name) l (names_among rest)) (sym (with_old (take count names) m there)) ∙ left;
      later = λ n h. passed all i rest n (found.later n h) (ap (is_word n) e ∙ differs m n (λ q. h (subst (Has (take count names)) q there)));
    }
      where
        left : fold (with_new same_name) (with_new same_name (take count names) m) (names_among rest) ≡ names
        left = ap (λ t. fold (with_new same_name) (take count names) (filter_map name_in (t ∷ map (λ (j : Item). j.token) rest))) (sym e) ∙ found.left

        next : (Has (take count names) m → ⊥) → ⊥
        next h =
            let w = fold_behind same_name (names_among rest) (with_new same_name (take count names) m) in
            let whole : names ≡ take count names ++ m ∷ w.0 = sym left ∙ w.1 ∙ ap (λ l. l ++ w.0) (with_other (take count names) m h) ∙ append_assoc (take count names) (m ∷ []) w.0 in
            let front : length (take count names) ≡ count = length-take-le count names found.within in
            let below : count < length names = omega (arith, ap length whole, length-append (take count names) (m ∷ w.0), front) in
            let at : get_or names count [] ≡ m = ap (λ l. get_or l count []) whole ∙ get_or_at (take count names) m w.0 [] count front in
            false_is_true (sym (f m below at) ∙ (same_name_Decides m m).1 refl)

        there : Has (take count names) m
        there = elim (list_any (same_name m) (take count names)) as (λ b. Decides b (Has (take count names) m) → Has (take count names) m) [
          | true ↦ λ d. d.0 refl
          | false ↦ λ d. absurd (next (λ h. false_is_true (d.1 h)))
        ] (any_Decides same_name same_name_Decides m (take count names))
    other_found _ e f = record {
      within = found.within;
      left = ap (λ t. fold (with_new same_name) (take count names) (filter_map name_in (t ∷ map (λ (j : Item). j.token) rest))) (sym e) ∙ found.left;
      later = λ n h. passed all i rest n (found.later n h) (ap (is_word n) e);
    }

    -- the next name, if there is one, isn't this item
    pub none_here : ((n : Name) → count < length names → get_or names count [] ≡ n → is_named n i ≡ false) → Finds all names rest count
    none_here f = other_found i.token refl f

-- the array of names takes its row
pub row_put : (all : List Item) (names : List Name) (count : ℕ) (n : Name) (old array : List NameRow) → length names ≤ length old → count < length names → get_or names count [] ≡ n
    → array ≡ put_over (map (name_row all) (take count names)) old → (row : NameRow) → row ≡ name_row all n → set array count row ≡ put_over (map (name_row all) (take (count + 1) names)) old
row_put all names count n old array fit below is e row r =
    let at : count ≡ 0 + count = omega arith in
    let d : get_or names count n ≡ n = get_or_default names count n [] below ∙ is in
    next_row (name_row all) 0 count names n old array (set array count row) (omega (arith, fit)) below d e (ap (λ k. set array k row) at ∙ ap (λ x. set array (0 + count) x) r)
