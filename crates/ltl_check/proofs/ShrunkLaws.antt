-- What shrinking keeps of a word, and the verdict at its end.
use Rattle.std.proofs.Common.{◌≡◌, ℕ, ◌+◌, ◌-◌, ◌<◌, ◌≤◌, Bool, true, false, List, [], ◌∷◌, ◌++◌, take, drop, map, length, inl, inr, ap, sym, ◌∙◌, subst, arith}
use Rattle.std.specs.Prelude.{All, filter, not, slice_index_or, Result, Ok, Err, IfOk}
use Rattle.std.specs.Ordering.{nat_cmp}
use Rattle.std.proofs.lemmas.List.{append-nil, append_assoc, map_push, take_all, take_more, length-take-le, length-drop, length-append, take-append-drop}
use Rattle.ltl_spec.specs.Collections.Sets.{Has, has}
use Rattle.ltl_spec.specs.Semantics.Word.{Name, Letter, Lasso, IsLasso}
use Rattle.ltl_spec.specs.Words.LassoText.{IsLeastForm, names_in}
use Rattle.ltl_spec.specs.Words.LeastForm.{least_form}
use Rattle.ltl_spec.specs.Automata.Automaton.{Automaton}
use Rattle.ltl_spec.specs.Hoa.HoaReading.{MarkedAutomaton}
use Rattle.ltl_spec.specs.Checking.Check.{Violated, IsVerdict, IsCommon, IsNeeded, graph_of}
use Rattle.ltl_spec.proofs.Collections.SetLaws.{append_cases, append_left, append_right, filter_cases, set_of_cases}
use Rattle.ltl_spec.proofs.Collections.ListLaws.{All-at_has, All-from_has, Has-at}
use Rattle.ltl_spec.proofs.Collections.MemberLaws.{map_cases, map_length, flat_map_cases}
use Rattle.ltl_spec.proofs.Collections.Orders.{name_linear}
use Rattle.ltl_spec.proofs.Words.LeastLaws.{least_form_is, least_names}
use Rattle.ltl_spec.proofs.Words.LeastLength.{least_most}
use Rattle.ltl_spec.proofs.Words.SameWordLaws.{accepts_from_same, accepts_same}
use Rattle.ltl_spec.proofs.Words.UniqueLaws.{least_forms_same}
use Rattle.ltl_word.specs.LassoView.{letter_with, word_with}
use Rattle.ltl_check.specs.Shrunk.{AreNeeded, bare, IsOf, IsNoMore, IsShrunk}

-- ---- letters

-- a member of a part is one of the list
pub taken_has : {K : Type 0} (n : ℕ) (xs : List K) (x : K) → Has (take n xs) x → Has xs x
taken_has n xs x h = subst (λ ys. Has ys x) (take-append-drop n xs) (append_left (take n xs) (drop n xs) x h)

pub dropped_has : {K : Type 0} (n : ℕ) (xs : List K) (x : K) → Has (drop n xs) x → Has xs x
dropped_has n xs x h = subst (λ ys. Has ys x) (take-append-drop n xs) (append_right (take n xs) (drop n xs) x h)

pub halves_long : {K : Type 0} (n : ℕ) (xs : List K) → length (take n xs) + length (drop n xs) ≡ length xs
halves_long n xs = sym (length-append (take n xs) (drop n xs)) ∙ ap length (take-append-drop n xs)

-- letters that are appended one by one
module _ {X Y : Type 0} (f : X → Y) where
  pub mapped_none : (old : List Y) (xs : List X) → old ≡ old ++ map f (take 0 xs)
  mapped_none old [] = sym (append-nil old)
  mapped_none old (x ∷ xs) = sym (append-nil old)

  pub mapped_more : (xs : List X) (i : ℕ) (ys more old : List Y) (x : X) → i < length xs → x ≡ slice_index_or xs i x → ys ≡ old ++ map f (take i xs) → more ≡ ys ++ f x ∷ [] → more ≡ old ++ map f (take (i + 1) xs)
  mapped_more xs i ys more old x l is e q =
      q ∙ ap (λ zs. zs ++ f x ∷ []) e ∙ append_assoc old (map f (take i xs)) (f x ∷ [])
      ∙ ap (λ zs. old ++ zs) (sym (map_push f (take i xs) x) ∙ ap (map f) (ap (λ y. take i xs ++ y ∷ []) is ∙ sym (take_more xs i x l)))

  pub mapped_all : (xs : List X) (i : ℕ) (ys old : List Y) → length xs ≤ i → ys ≡ old ++ map f (take i xs) → ys ≡ old ++ map f xs
  mapped_all xs i ys old l e = e ∙ ap (λ zs. old ++ map f zs) (take_all i xs l)

-- all letters at the beginning are their own
pub no_more_same : (old letters : List (List ℕ)) → letters ≡ old → IsNoMore old letters
no_more_same old letters e = subst (IsNoMore old) (sym e) (let n = length old in omega arith, All-from_has (IsOf old) old (λ a h i m. (a, h, m)))

-- letters left out
pub no_more_without : (old ls ds : List (List ℕ)) (at end : ℕ) → at ≤ end → end ≤ length ls → IsNoMore old ls → ds ≡ take at ls ++ drop end ls → IsNoMore old ds
no_more_without old ls ds at end l m (few, among) e =
    subst (IsNoMore old) (sym e) (
      let t = length-take-le at ls (omega arith) in
          let d = length-drop end ls in
          let a = length-append (take at ls) (drop end ls) in
          omega (arith, t, d, a, few),
      All-from_has (IsOf old) (take at ls ++ drop end ls) (λ a h. elim (append_cases (take at ls) (drop end ls) a h) [
        | inl k ↦ All-at_has (IsOf old) ls among a (taken_has at ls a k)
        | inr k ↦ All-at_has (IsOf old) ls among a (dropped_has end ls a k)
      ]),
    )

-- a letter replaced
pub no_more_with : (old ls ds : List (List ℕ)) (at : ℕ) (letter : List ℕ) → at < length ls → IsOf old letter → IsNoMore old ls → ds ≡ take at ls ++ letter ∷ drop (at + 1) ls → IsNoMore old ds
no_more_with old ls ds at letter l one (few, among) e =
    subst (IsNoMore old) (sym e) (
      let t = length-take-le at ls (omega arith) in
          let d = length-drop (at + 1) ls in
          let a = length-append (take at ls) (letter ∷ drop (at + 1) ls) in
          omega (arith, t, d, a, few, l),
      All-from_has (IsOf old) (take at ls ++ letter ∷ drop (at + 1) ls) (λ a h. elim (append_cases (take at ls) (letter ∷ drop (at + 1) ls) a h) [
        | inl k ↦ All-at_has (IsOf old) ls among a (taken_has at ls a k)
        | inr (inl q) ↦ subst (IsOf old) (sym q) one
        | inr (inr k) ↦ All-at_has (IsOf old) ls among a (dropped_has (at + 1) ls a k)
      ]),
    )

-- a letter of the word
pub of_letter : (old ls : List (List ℕ)) (at : ℕ) (letter : List ℕ) → IsNoMore old ls → at < length ls → letter ≡ slice_index_or ls at letter → IsOf old letter
of_letter old ls at letter h l e = All-at_has (IsOf old) ls h.1 letter (subst (Has ls) (sym e) (Has-at ls at letter l))

-- without a name; the set of the name alone is `gone`
pub bare_is : (p : ℕ) (letter gone out : List ℕ) → gone ≡ p ∷ [] → out ≡ filter (λ i. not (has nat_cmp i gone)) letter → out ≡ bare p letter
bare_is p letter gone out e q = q ∙ ap (λ xs. filter (λ i. not (has nat_cmp i xs)) letter) e

pub bare_more : (p : ℕ) (xs : List (List ℕ)) (i : ℕ) (ys more old : List (List ℕ)) (x out gone : List ℕ) → i < length xs → x ≡ slice_index_or xs i x → ys ≡ old ++ map (bare p) (take i xs)
    → gone ≡ p ∷ [] → out ≡ filter (λ j. not (has nat_cmp j gone)) x → more ≡ ys ++ out ∷ [] → more ≡ old ++ map (bare p) (take (i + 1) xs)
bare_more p xs i ys more old x out gone l is e g o q = mapped_more (bare p) xs i ys more old x l is e (q ∙ ap (λ y. ys ++ y ∷ []) (bare_is p x gone out g o))

pub of_bare : (old : List (List ℕ)) (letter a : List ℕ) (p : ℕ) → IsOf old letter → a ≡ bare p letter → IsOf old a
of_bare old letter a p h e i m = h i (filter_cases (λ j. not (has nat_cmp j (p ∷ []))) letter i (subst (λ xs. Has xs i) e m)).0

pub no_more_bare : (old ls ds : List (List ℕ)) (p : ℕ) → IsNoMore old ls → ds ≡ map (bare p) ls → IsNoMore old ds
no_more_bare old ls ds p (few, among) e =
    subst (IsNoMore old) (sym e) (
      (let m = map_length (bare p) ls in omega (arith, m, few)),
      All-from_has (IsOf old) (map (bare p) ls) (λ a h. let (b, k, q) = map_cases (bare p) ls a h in of_bare old b a p (All-at_has (IsOf old) ls among b k) q),
    )

-- it has as many letters
pub with_long : (ls ds : List (List ℕ)) (at : ℕ) (letter : List ℕ) → at < length ls → ds ≡ take at ls ++ letter ∷ drop (at + 1) ls → length ds ≡ length ls
with_long ls ds at letter l e =
    let t = length-take-le at ls (omega arith) in
    let d = length-drop (at + 1) ls in
    let a = ap length e ∙ length-append (take at ls) (letter ∷ drop (at + 1) ls) in
    omega (arith, t, d, a, l)

-- the candidate was put in place, or not
pub put_long : {E : Type 0} (r : Result Bool E) (b : Bool) (old new candidate : List (List ℕ)) → r ≡ Ok b → (r ≡ Ok true → new ≡ candidate) → (r ≡ Ok false → new ≡ old) → length candidate ≡ length old → length new ≡ length old
put_long r true old new candidate e f g same = ap length (f e) ∙ same
put_long r false old new candidate e f g same = ap length (g e)

-- the numbers are those of names; the letters are cut as the code cuts them
pub shrunk_within : (old letters first second : List (List ℕ)) (stem count : ℕ) → All (All (λ i. i < count)) old → IsNoMore old letters → first ≡ letters → second ≡ letters
    → All (All (λ i. i < count)) (take stem first ++ take (length second - stem) (drop stem second))
shrunk_within old letters first second stem count within h e f =
    All-from_has (All (λ i. i < count)) (take stem first ++ take (length second - stem) (drop stem second)) (λ a k.
    let here : Has letters a = elim (append_cases (take stem first) (take (length second - stem) (drop stem second)) a k) [
      | inl o ↦ subst (λ xs. Has xs a) e (taken_has stem first a o)
      | inr o ↦ subst (λ xs. Has xs a) f (dropped_has stem second a (taken_has (length second - stem) (drop stem second) a o))
    ] in
    All-from_has (λ i. i < count) a (λ i m.
    let (b, o, q) = All-at_has (IsOf old) letters h.1 a here i m in
    All-at_has (λ i. i < count) b (All-at_has (All (λ i. i < count)) old within b o) i q))

-- ---- the word at the end
module _ (A : MarkedAutomaton) (names : List Name) (B : Automaton) (all : List Name) (old letters : List (List ℕ)) (stem : ℕ) (needed : AreNeeded A names B all old) (shrunk : IsShrunk A names B all old letters stem) where
  abbrev word : Lasso
  word = word_with all (take stem letters) (drop stem letters)

  cycles : 0 < length word.cycle
  cycles =
      let c = shrunk.shared.0 in
      let d = length-drop stem letters in
      let m = map_length (letter_with all) (drop stem letters) in
      omega (arith, c, d, m)

  -- its names are needed
  needed_in : (n : Name) → Has (names_in word) n → IsNeeded A names B n
  needed_in n h =
      let (a, k, q) = flat_map_cases (λ (x : Letter). x) (word.stem ++ word.cycle) n h in
      elim (append_cases word.stem word.cycle a k) [
        | inl o ↦ (let (b, p, e) = map_cases (letter_with all) (take stem letters) a o in one b (taken_has stem letters b p) (subst (λ x. Has x n) e q))
        | inr o ↦ (let (b, p, e) = map_cases (letter_with all) (drop stem letters) a o in one b (dropped_has stem letters b p) (subst (λ x. Has x n) e q))
      ]
    where
      one : (b : List ℕ) → Has letters b → Has (letter_with all b) n → IsNeeded A names B n
      one b p q =
          let (i, m, e) = map_cases (λ i. slice_index_or all i []) b n (set_of_cases name_linear (map (λ i. slice_index_or all i []) b) n q) in
          let (c, o, r) = All-at_has (IsOf old) letters shrunk.kept.1 b p i m in
          subst (IsNeeded A names B) (sym e) (needed c i o r)

  module _ (w v : Lasso) (lasso : IsLasso w) (is : w ≡ word) (least : IsLeastForm w v) where
    here : IsLeastForm word v
    here = subst (λ u. IsLeastForm u v) is least

    same : v ≡ least_form word
    same = least_forms_same word v (least_form word) here (least_form_is word (subst IsLasso is lasso))

    pub shrunk_verdict : IsVerdict A names B (IsCommon A names B) (Violated v)
    shrunk_verdict =
        let common = shrunk.shared.1 in (
          here.lasso,
          (
            (accepts_from_same A.start A.names (graph_of A) word v cycles here.lasso.cycles here.same).0 common.0,
            (accepts_same names B word v cycles here.lasso.cycles here.same).0 common.1,
          ),
          here.least,
          λ n h. needed_in n (least_names word cycles n (subst (λ u. Has (names_in u) n) same h)),
        )

    -- it has no more letters
    pub shrunk_most : length v.stem + length v.cycle ≤ length old
    shrunk_most =
        let most = least_most word in
        let sv = ap (λ (u : Lasso). length u.stem + length u.cycle) same in
        let ms = map_length (letter_with all) (take stem letters) in
        let mc = map_length (letter_with all) (drop stem letters) in
        let both = halves_long stem letters in
        let few = shrunk.kept.0 in
        omega arith

  -- the same of a call that may fail
  pub least_is : {E : Type 0} (r : Result Lasso E) (w : Lasso) → IsLasso w → w ≡ word → IfOk r (λ v. IsLeastForm w v) → IfOk r (λ v. v ≡ least_form word)
  least_is (Err e) w lasso is h = h
  least_is (Ok v) w lasso is h = same w v lasso is h

  pub least_verdict : {E : Type 0} (r : Result Lasso E) (w : Lasso) → IsLasso w → w ≡ word → IfOk r (λ v. IsLeastForm w v) → IfOk r (λ v. IsVerdict A names B (IsCommon A names B) (Violated v))
  least_verdict (Err e) w lasso is h = h
  least_verdict (Ok v) w lasso is h = shrunk_verdict w v lasso is h

  pub least_short : {E : Type 0} (r : Result Lasso E) (w : Lasso) → IsLasso w → w ≡ word → IfOk r (λ v. IsLeastForm w v) → IfOk r (λ (v : Lasso). length v.stem + length v.cycle ≤ length old)
  least_short (Err e) w lasso is h = h
  least_short (Ok v) w lasso is h = shrunk_most w v lasso is h
