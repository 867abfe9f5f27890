-- Sets of names, and the places of names in them.
use Rattle.std.proofs.Common.{◌≡◌, ◌∙◌, ap, ap₂, sym, refl, subst, ℕ, zero, suc, ◌+◌, ◌<◌, ◌≤◌, arith, inl, inr, List, [], ◌∷◌, ◌++◌, length, map, take, drop, append_assoc, append-nil, length-append, Bor, Bool, true, false, IsPermutation, Result, Ok, Err}
use Rattle.std.specs.Prelude.{IsTrue, ◌&&◌, slice_index_or, flat_map}
use Rattle.std.specs.List.{AllByRecursion, items_where_true, list_all}
use Rattle.std.specs.List.Retain.{DiffersFromLast, IsFiltered, ReturnsInTurn}
use Rattle.std.specs.List.Sorted.{IsBinarySearchResult, IsSearchInRange, IsSorted, IsSortedBy}
use Rattle.std.specs.Result.{result_unwrap_or}
use Rattle.std.specs.Ordering.{is_lt, nat_cmp, ordering_reverse}
use Rattle.std.specs.declared.cmp.Ordering.TheVariants.{Less, Equal, Greater}
use Rattle.std.proofs.lemmas.Bool.{and_from, cases_lt}
use Rattle.std.proofs.lemmas.Cmp.{tied_itself}
use Rattle.std.proofs.lemmas.Grind.{flat_map-append}
use Rattle.std.proofs.lemmas.List.{drop_more, get_or-map, map-append, take_more, take_all}
use Rattle.std.proofs.lemmas.List.Sorted.{IsPermutation-map, searchable_from_sorted}
use Rattle.ltl_spec.specs.Collections.Lists.{HasNoRepeats, place_of}
use Rattle.ltl_spec.specs.Collections.Sets.{by_order, Has, IsRising, put, set_of}
use Rattle.ltl_spec.specs.Formulas.Names.{is_proposition, unified}
use Rattle.ltl_spec.specs.Formulas.Tokens.{same_name}
use Rattle.ltl_spec.specs.Semantics.Word.{Lasso, Name, name_cmp}
use Rattle.ltl_spec.specs.Tools.Limits.{stated_limits}
use Rattle.ltl_spec.specs.Words.LassoText.{names_in, with_sets}
use Rattle.ltl_spec.proofs.Checking.UnifiedLaws.{HasNoRepeats-unified}
use Rattle.ltl_spec.proofs.Collections.CaseLaws.{below_equal_above, left_true, right_true}
use Rattle.ltl_spec.proofs.Collections.ListLaws.{numbered_short, place_below, at_place, Has-first_occurrences, first_occurrences_cases}
use Rattle.ltl_spec.proofs.Collections.MemberLaws.{all_Decides, map_cases, map_length}
use Rattle.ltl_spec.proofs.Collections.Orders.{nat_linear, name_linear}
use Rattle.ltl_spec.proofs.Collections.SetLaws.{all_at, all_from, append_cases, append_left, append_right, put_cases, set_of_cases, Has-set_of, IsRising-put, IsRising-set_of, irreflexive}
use Rattle.ltl_spec.proofs.Collections.SortedSets.{sorted_set_itself}
use Rattle.ltl_spec.proofs.Formulas.NameLaws.{same_name_Decides}
use Rattle.ltl_sets.specs.PlaceLaws.{less}
use Rattle.ltl_syntax.proofs.TreeLemmas.{push_length, push_before, push_at}
use Rattle.ltl_word.specs.LassoView.{letter_of, lasso_of, IsMade}
use Rattle.ltl_word.specs.NameView.{AreAllPlaces, ArePlaces, IsKnown, IsNameSet, RefusesNames, all_names}
use Rattle.ltl_word.specs.ReadText.{IsReadAs, IsRefusedFor, IsWritten, IsSpelled}
use Rattle.ltl_word.specs.WrittenView.{WrittenView, letters_of}
use Rattle.ltl_word.specs.declared.fault.WordFault.{WordFault}
use Rattle.ltl_word.specs.declared.fault.WordFault.TheVariants.{TooLong, BadWord, TooManyPropositions, OutOfMemory}
use Rattle.ltl_word.proofs.LetterLaws.{rising_at}

pub mapped_at : {X : Type 0} (f : X → Name) (xs : List X) (x : X) (at : ℕ) → at < length xs → x ≡ slice_index_or xs at x → slice_index_or (map f xs) at [] ≡ f x
mapped_at f xs x at l e = get_or-map f xs at x [] l ∙ ap f (sym e)

ties : (n : Name) → name_cmp n n ≡ Equal
ties n = tied_itself name_linear.total n

-- names that are sorted without duplicates are the set of them
module _ {X Y : Type 0} (f : X → Y) (E : Y → Y → Bool) where
  filtered : (xs zs : List X) → IsFiltered (DiffersFromLast (λ x y. E (f x) (f y))) [] xs zs → IsFiltered (DiffersFromLast E) [] (map f xs) (map f zs)
  filtered xs zs (bs, q, l, r, e) = (bs, map f q, l ∙ sym (map_length f xs), turns [] q bs xs r, ap (map f) e ∙ left bs xs)
    where
      step : (p : List X) (x : X) (b : Bool) (q : List X) → DiffersFromLast (λ x y. E (f x) (f y)) p x b q → DiffersFromLast E (map f p) (f x) b (map f q)
      step [] x b q h = (h.0, ap (map f) h.1)
      step (y ∷ p) x true q h = (h.0, ap (map f) h.1)
      step (y ∷ p) x false q h = (h.0, ap (map f) h.1)

      turns : (p q : List X) (bs : List Bool) (xs : List X) → ReturnsInTurn (DiffersFromLast (λ x y. E (f x) (f y))) p bs xs q → ReturnsInTurn (DiffersFromLast E) (map f p) bs (map f xs) (map f q)
      turns p q [] xs h = ap (map f) h
      turns p q (b ∷ bs) [] h = absurd h
      turns p q (b ∷ bs) (x ∷ xs) (j, r, h) = (map f j, step p x b j r, turns j q bs xs h)

      left : (bs : List Bool) (xs : List X) → map f (items_where_true bs xs) ≡ items_where_true bs (map f xs)
      left [] xs = refl
      left (b ∷ bs) [] = refl
      left (true ∷ bs) (x ∷ xs) = ap (λ ys. f x ∷ ys) (left bs xs)
      left (false ∷ bs) (x ∷ xs) = left bs xs

pub sorted_names : (xs ys zs : List (Bor Name)) → IsPermutation xs ys → IsSorted (λ x y. name_cmp x.now y.now) ys → IsFiltered (DiffersFromLast (λ x y. same_name x.now y.now)) [] ys zs
    → map (λ n. n.now) zs ≡ set_of name_cmp (map (λ n. n.now) xs)
sorted_names xs ys zs p s f =
    sorted_set_itself name_linear same_name same_name_Decides (map (λ n. n.now) xs) (map (λ n. n.now) ys) (map (λ n. n.now) zs) (IsPermutation-map (λ n. n.now) xs ys p)
    (λ k d z l. let size = map_length (λ (n : Bor Name). n.now) ys in
    ap is_lt (ap₂ name_cmp (get_or-map (λ (n : Bor Name). n.now) ys (k + 1) nothing d (omega (arith, l, size))) (get_or-map (λ (n : Bor Name). n.now) ys k nothing d (omega (arith, l, size)))) ∙ s k nothing z (omega (arith, l, size)))
    (filtered (λ n. n.now) same_name ys zs f)
  where
    nothing : Bor Name
    nothing = record { ref_ptr = (0, 0); now = [] }

-- one name more of a list
pub one_name_more : (list new : List (Bor Name)) (o : Bor Name) (names : List Name) (i : ℕ) (name : Name) → i < length names → new ≡ list ++ o ∷ [] → map (λ n. n.now) list ≡ take i names → name ≡ slice_index_or names i [] → o.now ≡ name
    → map (λ n. n.now) new ≡ take (i + 1) names
one_name_more list new o names i name l e h f g = ap (map (λ n. n.now)) e ∙ map-append (λ n. n.now) list (o ∷ []) ∙ ap₂ (λ ns n. ns ++ n ∷ []) h (g ∙ f) ∙ sym (take_more names i [] l)

-- the names of one letter more
pub names_more : (old now new letter : List Name) (ls : List (List Name)) (i : ℕ) → i < length ls → slice_index_or ls i [] ≡ letter → now ≡ old ++ all_names (take i ls) → new ≡ now ++ letter → new ≡ old ++ all_names (take (i + 1) ls)
names_more old now new letter ls i l e h f =
    f ∙ ap₂ (λ a b. a ++ b) h (sym e ∙ sym (append-nil (slice_index_or ls i []))) ∙ append_assoc old (all_names (take i ls)) (all_names (slice_index_or ls i [] ∷ []))
    ∙ ap (λ ns. old ++ ns) (sym (ap all_names (take_more ls i [] l) ∙ flat_map-append (λ a. a) (take i ls) (slice_index_or ls i [] ∷ [])))

-- those of a formula, and those of both parts of a word
pub names_whole : (names formula after_stem whole : List Name) (stem cycle : List (List Name)) → names ≡ formula → after_stem ≡ names ++ all_names stem → whole ≡ after_stem ++ all_names cycle → whole ≡ formula ++ flat_map (λ a. a) (stem ++ cycle)
names_whole names formula after_stem whole stem cycle h e f =
    f ∙ ap (λ ns. ns ++ all_names cycle) (e ∙ ap (λ ns. ns ++ all_names stem) h) ∙ append_assoc formula (all_names stem) (all_names cycle) ∙ ap (λ ns. formula ++ ns) (sym (flat_map-append (λ a. a) stem cycle))

-- places

greater : (m n : Name) → name_cmp m n ≡ Less → name_cmp n m ≡ Greater
greater m n e = name_linear.total.antisymm n m ∙ ap ordering_reverse e

-- what a binary search finds: a name that is there
module _ {X : Type 0} (f : X → Name) (xs : List X) (r : IsRising name_cmp (map f xs)) (name : Name) (h : Has (map f xs) name) where
  pub found : (r : Result ℕ ℕ) → IsSearchInRange r (length xs) → IsBinarySearchResult (λ x. name_cmp (f x) name) xs r → (result_unwrap_or r 0 < length xs) × (slice_index_or (map f xs) (result_unwrap_or r 0) [] ≡ name)
  found (Ok i) l p = let w = map_cases f xs name h in (l, get_or-map f xs i w.0 [] l ∙ name_linear.exact (f (slice_index_or xs i w.0)) name (p w.0))
  found (Err i) l p =
      let w = map_cases f xs name h in
      let k = place_of same_name name (map f xs) in
      let below = place_below same_name same_name_Decides name (map f xs) h in
      let size = map_length f xs in
      let within : k < length xs = omega (arith, below, size) in
      let tie : name_cmp (f (slice_index_or xs k w.0)) name ≡ Equal = ap (λ n. name_cmp n name) (sym (get_or-map f xs k w.0 [] within) ∙ at_place same_name same_name_Decides name (map f xs) [] h) ∙ ties name in
      let parted = p (searchable_from_sorted name_linear.total f xs name sorted) in
      absurd (elim (cases_lt k i) [
        | inl b ↦ (let e : Less ≡ Equal = sym (parted.0 k w.0 (omega arith) b) ∙ tie in cc)
        | inr b ↦ (let e : Greater ≡ Equal = sym (parted.1 k w.0 (omega (arith, b)) within) ∙ tie in cc)
      ])
    where
      sorted : IsSortedBy (λ x y. is_lt (name_cmp (f x) (f y))) xs
      sorted k d z l =
          let size = map_length f xs in
          let a = get_or-map f xs k d [] (omega (arith, l)) in
          let b = get_or-map f xs (k + 1) d [] l in
          ap is_lt (ap₂ name_cmp (sym b) (sym a) ∙ greater (slice_index_or (map f xs) k []) (slice_index_or (map f xs) (k + 1) []) (rising_at (map f xs) r k (k + 1) (omega arith) (omega (arith, l, size))))

-- a place more is a name more
pub places_put : (names : List Name) → IsRising name_cmp names → (p : ℕ) (places : List ℕ) → p < length names → AllByRecursion (λ i. i < length names) places → letter_of names (put nat_cmp p places) ≡ put name_cmp (slice_index_or names p []) (letter_of names places)
places_put names r p [] l w = refl
places_put names r p (y ∷ ys) l w =
    elim (below_equal_above p y) [
      | inl b ↦
          ap (λ o. letter_of names (by_order o (p ∷ y ∷ ys) (y ∷ ys) (y ∷ put nat_cmp p ys))) (less p y b)
          ∙ sym (ap (λ o. by_order o (at p ∷ at y ∷ rest) (at y ∷ rest) (at y ∷ put name_cmp (at p) rest)) (rising_at names r p y b w.0))
      | inr (inl e) ↦
          ap (λ o. letter_of names (by_order o (p ∷ y ∷ ys) (y ∷ ys) (y ∷ put nat_cmp p ys))) (ap (nat_cmp p) (sym e) ∙ tied_itself nat_linear.total p)
          ∙ sym (ap (λ o. by_order o (at p ∷ at y ∷ rest) (at y ∷ rest) (at y ∷ put name_cmp (at p) rest)) (ap (λ k. name_cmp (at p) (at k)) (sym e) ∙ ties (at p)))
      | inr (inr b) ↦
          ap (λ o. letter_of names (by_order o (p ∷ y ∷ ys) (y ∷ ys) (y ∷ put nat_cmp p ys))) (nat_linear.total.antisymm p y ∙ ap ordering_reverse (less y p b))
          ∙ ap (λ ns. at y ∷ ns) (places_put names r p ys l w.1)
          ∙ sym (ap (λ o. by_order o (at p ∷ at y ∷ rest) (at y ∷ rest) (at y ∷ put name_cmp (at p) rest)) (greater (at y) (at p) (rising_at names r y p b l)))
    ]
  where
    at : ℕ → Name
    at k = slice_index_or names k []

    rest : List Name
    rest = letter_of names ys

-- one name more of a letter, from its end
pub places_more : (names letter : List Name) → IsRising name_cmp names → (i : ℕ) (name : Name) (at : ℕ) (places new : List ℕ) → i < length letter → slice_index_or letter i [] ≡ name → at < length names → slice_index_or names at [] ≡ name
    → ArePlaces names (set_of name_cmp (drop (i + 1) letter)) places → new ≡ put nat_cmp at places → ArePlaces names (set_of name_cmp (drop i letter)) new
places_more names letter r i name at places new l e within there a f =
    subst (ArePlaces names (set_of name_cmp (drop i letter))) (sym f) record {
      spelled = places_put names r at places within a.within ∙ ap₂ (put name_cmp) (there ∙ sym e) a.spelled ∙ sym (ap (set_of name_cmp) (drop_more letter i [] l));
      set = IsRising-put nat_linear at places a.set;
      within = all_from (λ k. k < length names) (put nat_cmp at places) (λ z m. elim (put_cases nat_cmp at places z m) [ inl q ↦ subst (λ k. k < length names) (sym q) within | inr k ↦ all_at (λ j. j < length names) places z a.within k ]);
    }

-- all letters

pub all_places_push : (names : List Name) (written : List (List Name)) (rows new : List (List ℕ)) (letter : List Name) (row : List ℕ) (i : ℕ) → i < length written → slice_index_or written i [] ≡ letter → length rows ≡ i
    → ((k : ℕ) → k < length rows → ArePlaces names (set_of name_cmp (slice_index_or written k [])) (slice_index_or rows k [])) → ArePlaces names (set_of name_cmp letter) row → new ≡ rows ++ row ∷ []
    → (k : ℕ) → k < length new → ArePlaces names (set_of name_cmp (slice_index_or written k [])) (slice_index_or new k [])
all_places_push names written rows new letter row i l e count each here f k m =
    let longer = push_length rows row in
    let size : length new ≡ length rows + 1 = let q = ap length f in omega (arith, q, longer) in
    subst (λ rs. ArePlaces names (set_of name_cmp (slice_index_or written k [])) (slice_index_or rs k [])) (sym f)
    (elim (cases_lt k (length rows)) [
      | inl b ↦ subst (ArePlaces names (set_of name_cmp (slice_index_or written k []))) (sym (push_before rows row k [] b)) (each k b)
      | inr b ↦
          let same : i ≡ k = omega (arith, b, m, size, count) in
          let place : slice_index_or (rows ++ row ∷ []) k [] ≡ row = ap (λ j. slice_index_or (rows ++ row ∷ []) j []) (sym same ∙ sym count) ∙ push_at rows row [] in
          let written_at : letter ≡ slice_index_or written k [] = sym e ∙ ap (λ j. slice_index_or written j []) same in
          subst (ArePlaces names (set_of name_cmp (slice_index_or written k []))) (sym place) (subst (λ n. ArePlaces names (set_of name_cmp n) row) written_at here)
    ])

-- the letters that are spelled so
pub spelled_letters : (names : List Name) (written : List (List Name)) (rows : List (List ℕ)) → AreAllPlaces names written rows → map (letter_of names) rows ≡ map (set_of name_cmp) written
spelled_letters names [] [] a = refl
spelled_letters names [] (r ∷ rs) a = let e = a.count in absurd (omega arith)
spelled_letters names (w ∷ ws) [] a = let e = a.count in absurd (omega arith)
spelled_letters names (w ∷ ws) (r ∷ rs) a =
    ap₂ (λ x xs. x ∷ xs) ((a.each 0 (omega arith)).spelled) (spelled_letters names ws rs (record { count = (let e = a.count in omega arith); each = λ k l. a.each (suc k) (omega arith) }))

all_sets : (names : List Name) (written : List (List Name)) (rows : List (List ℕ)) → AreAllPlaces names written rows → AllByRecursion (IsRising nat_cmp) rows
all_sets names written [] a = tt
all_sets names [] (r ∷ rs) a = let e = a.count in absurd (omega arith)
all_sets names (w ∷ ws) (r ∷ rs) a = ((a.each 0 (omega arith)).set, all_sets names ws rs (record { count = (let e = a.count in omega arith); each = λ k l. a.each (suc k) (omega arith) }))

all_within : (names : List Name) (written : List (List Name)) (rows : List (List ℕ)) → AreAllPlaces names written rows → AllByRecursion (AllByRecursion (λ i. i < length names)) rows
all_within names written [] a = tt
all_within names [] (r ∷ rs) a = let e = a.count in absurd (omega arith)
all_within names (w ∷ ws) (r ∷ rs) a = ((a.each 0 (omega arith)).within, all_within names ws rs (record { count = (let e = a.count in omega arith); each = λ k l. a.each (suc k) (omega arith) }))

all_both : {X : Type 0} (P : X → Type 0) (xs ys : List X) → AllByRecursion P xs → AllByRecursion P ys → AllByRecursion P (xs ++ ys)
all_both P [] ys a b = b
all_both P (x ∷ xs) ys a b = (a.0, all_both P xs ys a.1 b)

set_propositions : (ns : List Name) → IsTrue (list_all is_proposition ns) → IsTrue (list_all is_proposition (set_of name_cmp ns))
set_propositions ns h = (all_Decides is_proposition (set_of name_cmp ns)).1 (λ n m. (all_Decides is_proposition ns).0 h n (set_of_cases name_linear ns n m))

letters_propositions : (ls : List (List Name)) → IsTrue (list_all (λ a. list_all is_proposition a) ls) → IsTrue (list_all (λ a. list_all is_proposition a) (map (set_of name_cmp) ls))
letters_propositions [] h = refl
letters_propositions (a ∷ ls) h = and_from (list_all is_proposition (set_of name_cmp a)) _ (set_propositions a (left_true _ _ h)) (letters_propositions ls (right_true (list_all is_proposition a) _ h))

mapped_all : (names : List Name) (rows : List (List ℕ)) → list_all (λ a. list_all is_proposition a) (map (letter_of names) rows) ≡ list_all (λ places. list_all is_proposition (letter_of names places)) rows
mapped_all names [] = refl
mapped_all names (r ∷ rs) = ap (λ t. list_all is_proposition (letter_of names r) && t) (mapped_all names rs)

-- the word of the letters
pub made_word : (names : List Name) (written : Lasso) (stem cycle letters : List (List ℕ)) (count : ℕ) → IsKnown names written → AreAllPlaces names written.stem stem → AreAllPlaces names written.cycle cycle → letters ≡ stem ++ cycle → count ≡ length stem
    → IsMade names letters count
made_word names written stem cycle letters count known s t e n =
    subst (λ ls. IsMade names ls count) (sym e) record {
      sorted = known.sorted;
      few = known.few;
      sets = all_both (IsRising nat_cmp) stem cycle (all_sets names written.stem stem s) (all_sets names written.cycle cycle t);
      within = all_both (AllByRecursion (λ i. i < length names)) stem cycle (all_within names written.stem stem s) (all_within names written.cycle cycle t);
      propositions = sym (mapped_all names (stem ++ cycle)) ∙ ap (list_all (λ a. list_all is_proposition a)) (map-append (letter_of names) stem cycle ∙ ap₂ (λ a b. a ++ b) (spelled_letters names written.stem stem s) (spelled_letters names written.cycle cycle t) ∙ sym (map-append (set_of name_cmp) written.stem written.cycle))
          ∙ letters_propositions (written.stem ++ written.cycle) known.spelled.propositions;
      cycles = let l = length-append stem cycle in let m = known.spelled.cycles in let k = t.count in omega (arith, l, m, k, n);
    }

pub made_view : (names : List Name) (written : Lasso) (stem cycle letters : List (List ℕ)) (count : ℕ) → AreAllPlaces names written.stem stem → AreAllPlaces names written.cycle cycle → letters ≡ stem ++ cycle → count ≡ length stem
    → lasso_of names letters count ≡ with_sets written
made_view names written stem cycle letters count s t e n =
    let first : take count letters ≡ stem = ap₂ take n e ∙ taken stem cycle in
    let second : drop count letters ≡ cycle = ap₂ drop n e ∙ dropped stem cycle in
    let a = ap (map (letter_of names)) first ∙ spelled_letters names written.stem stem s in
    let b = ap (map (letter_of names)) second ∙ spelled_letters names written.cycle cycle t in
    λ i. record { stem = a i; cycle = b i }
  where
    taken : (xs ys : List (List ℕ)) → take (length xs) (xs ++ ys) ≡ xs
    taken [] [] = refl
    taken [] (y ∷ ys) = refl
    taken (x ∷ xs) ys = ap (λ zs. x ∷ zs) (taken xs ys)

    dropped : (xs ys : List (List ℕ)) → drop (length xs) (xs ++ ys) ≡ ys
    dropped [] [] = refl
    dropped [] (y ∷ ys) = refl
    dropped (x ∷ xs) ys = dropped xs ys

-- the names of one letter are known
pub known_letter : (names : List Name) (ls : List (List Name)) (letter : List Name) (i : ℕ) → AllByRecursion (Has names) (all_names ls) → i < length ls → slice_index_or ls i [] ≡ letter → AllByRecursion (Has names) letter
known_letter names [] letter i h l e = absurd (omega arith)
known_letter names (a ∷ ls) letter zero h l e = subst (AllByRecursion (Has names)) e (all_from (Has names) a (λ z m. all_at (Has names) (a ++ all_names ls) z h (append_left a (all_names ls) z m)))
known_letter names (a ∷ ls) letter (suc i) h l e = known_letter names ls letter i (all_from (Has names) (all_names ls) (λ z m. all_at (Has names) (a ++ all_names ls) z h (append_right a (all_names ls) z m))) (omega arith) e

pub known_parts : (names : List Name) (stem cycle : List (List Name)) → AllByRecursion (Has names) (flat_map (λ a. a) (stem ++ cycle)) → AllByRecursion (Has names) (all_names stem) × AllByRecursion (Has names) (all_names cycle)
known_parts names stem cycle h =
    let g = subst (AllByRecursion (Has names)) (flat_map-append (λ a. a) stem cycle) h in (
      all_from (Has names) (all_names stem) (λ z m. all_at (Has names) (all_names stem ++ all_names cycle) z g (append_left (all_names stem) (all_names cycle) z m)),
      all_from (Has names) (all_names cycle) (λ z m. all_at (Has names) (all_names stem ++ all_names cycle) z g (append_right (all_names stem) (all_names cycle) z m)),
    )

-- the set of names

pub known_names : (names more : List Name) (v : Lasso) → IsNameSet (more ++ names_in v) names → IsSpelled v → IsKnown names v
known_names names more v a s = record {
  sorted = subst (IsRising name_cmp) (sym a.0) (IsRising-set_of name_linear (more ++ names_in v));
  few = a.1;
  known = all_from (Has names) (names_in v) (λ z h. subst (λ ns. Has ns z) (sym a.0) (Has-set_of name_linear (more ++ names_in v) z (append_right more (names_in v) z h)));
  spelled = s;
}

no_repeats : (ns : List Name) → IsRising name_cmp ns → HasNoRepeats ns
no_repeats [] r = tt
no_repeats (n ∷ ns) r = ((λ h. irreflexive name_linear n n (all_at (λ m. name_cmp n m ≡ Less) ns n r.0 h) refl), no_repeats ns r.1)

-- fewer members, shorter list
pub shorter : (xs ys : List Name) → HasNoRepeats xs → ((z : Name) → Has xs z → Has ys z) → length xs ≤ length ys
shorter xs ys d f =
    numbered_short xs (λ n. place_of same_name n ys) (length ys) d (λ x h. place_below same_name same_name_Decides x ys (f x h))
    (λ x y h k e. sym (at_place same_name same_name_Decides x ys [] (f x h)) ∙ ap (λ p. slice_index_or ys p []) e ∙ at_place same_name same_name_Decides y ys [] (f y k))

pub set_shorter : (ns : List Name) → length (set_of name_cmp ns) ≤ length ns
set_shorter ns = shorter (set_of name_cmp ns) ns (no_repeats (set_of name_cmp ns) (IsRising-set_of name_linear ns)) (set_of_cases name_linear ns)

same_names : (v : Lasso) (z : Name) → (Has (names_in v) z → Has (names_in (with_sets v)) z) × (Has (names_in (with_sets v)) z → Has (names_in v) z)
same_names v z =
    let both : (with_sets v).stem ++ (with_sets v).cycle ≡ map (set_of name_cmp) (v.stem ++ v.cycle) = sym (map-append (set_of name_cmp) v.stem v.cycle) in (
      (λ h. subst (λ ls. Has (flat_map (λ a. a) ls) z) (sym both) (to (v.stem ++ v.cycle) h)),
      λ h. from (v.stem ++ v.cycle) (subst (λ ls. Has (flat_map (λ a. a) ls) z) both h),
    )
  where
    to : (ls : List (List Name)) → Has (flat_map (λ a. a) ls) z → Has (flat_map (λ a. a) (map (set_of name_cmp) ls)) z
    to [] h = h
    to (a ∷ ls) h = elim (append_cases a (flat_map (λ b. b) ls) z h) [
      | inl k ↦ append_left (set_of name_cmp a) (flat_map (λ b. b) (map (set_of name_cmp) ls)) z (Has-set_of name_linear a z k)
      | inr k ↦ append_right (set_of name_cmp a) (flat_map (λ b. b) (map (set_of name_cmp) ls)) z (to ls k)
    ]

    from : (ls : List (List Name)) → Has (flat_map (λ a. a) (map (set_of name_cmp) ls)) z → Has (flat_map (λ a. a) ls) z
    from [] h = h
    from (a ∷ ls) h = elim (append_cases (set_of name_cmp a) (flat_map (λ b. b) (map (set_of name_cmp) ls)) z h) [
      | inl k ↦ append_left a (flat_map (λ b. b) ls) z (set_of_cases name_linear a z k)
      | inr k ↦ append_right a (flat_map (λ b. b) ls) z (from ls k)
    ]

-- the names of the formula and the word are as many as those that were put together
unified_count : (names : List Name) (v : Lasso) → (length (unified names (names_in (with_sets v))) ≤ length (set_of name_cmp (names ++ names_in v))) × (length (set_of name_cmp (names ++ names_in v)) ≤ length (unified names (names_in (with_sets v))))
unified_count names v = (
  shorter (unified names (names_in (with_sets v))) (set_of name_cmp (names ++ names_in v)) (HasNoRepeats-unified names (names_in (with_sets v)))
      (λ z h. Has-set_of name_linear (names ++ names_in v) z (down z (first_occurrences_has z h))),
  shorter (set_of name_cmp (names ++ names_in v)) (unified names (names_in (with_sets v))) (no_repeats (set_of name_cmp (names ++ names_in v)) (IsRising-set_of name_linear (names ++ names_in v)))
      (λ z h. Has-first_occurrences same_name same_name_Decides (names ++ names_in (with_sets v)) z (up z (set_of_cases name_linear (names ++ names_in v) z h))),
)
  where
    first_occurrences_has : (z : Name) → Has (unified names (names_in (with_sets v))) z → Has (names ++ names_in (with_sets v)) z
    first_occurrences_has z h = first_occurrences_cases same_name same_name_Decides (names ++ names_in (with_sets v)) z h

    down : (z : Name) → Has (names ++ names_in (with_sets v)) z → Has (names ++ names_in v) z
    down z h = elim (append_cases names (names_in (with_sets v)) z h) [ inl k ↦ append_left names (names_in v) z k | inr k ↦ append_right names (names_in v) z ((same_names v z).1 k) ]

    up : (z : Name) → Has (names ++ names_in v) z → Has (names ++ names_in (with_sets v)) z
    up z h = elim (append_cases names (names_in v) z h) [ inl k ↦ append_left names (names_in (with_sets v)) z k | inr k ↦ append_right names (names_in (with_sets v)) z ((same_names v z).0 k) ]

pub read_word : (names list : List Name) (text : List ℕ) (v : WrittenView) (w : Lasso) → length text ≤ stated_limits.word_bytes → IsWritten text v → IsNameSet (names ++ names_in (letters_of v)) list → w ≡ with_sets (letters_of v) → IsReadAs names text w
read_word names list text v w l written a e =
    subst (IsReadAs names text) (sym e) (l, written.0, λ more. let c = (unified_count names (letters_of v)).0 in let f = a.1 in let g = ap length a.0 in omega (arith, c, f, g, more))

pub refused_word : (names : List Name) (text : List ℕ) (v : WrittenView) (fault : WordFault) → length text ≤ stated_limits.word_bytes → IsWritten text v → RefusesNames (length (set_of name_cmp (names ++ names_in (letters_of v)))) fault → IsRefusedFor names text fault
refused_word names text v TooLong l written h = absurd h
refused_word names text v (BadWord p) l written h = absurd h
refused_word names text v TooManyPropositions l written h = (l, (with_sets (letters_of v), written.0, let c = (unified_count names (letters_of v)).1 in omega (arith, c, h)))
refused_word names text v OutOfMemory l written h = l

-- one name more, on its own memory
pub owned_push : {X Y : Type 0} (f : X → Name) (g : Y → Name) (xs new : List X) (x : X) (ys : List Y) (n : Name) (i : ℕ) → new ≡ xs ++ x ∷ [] → map f xs ≡ take i (map g ys) → f x ≡ n → i < length ys → slice_index_or (map g ys) i [] ≡ n
    → map f new ≡ take (i + 1) (map g ys)
owned_push f g xs new x ys name i e h q l a =
    let size = map_length g ys in
    ap (map f) e ∙ map-append f xs (x ∷ []) ∙ ap₂ (λ ns n. ns ++ n ∷ []) h (q ∙ sym a) ∙ sym (take_more (map g ys) i [] (omega (arith, l, size)))

pub owned_end : {X Y : Type 0} (f : X → Name) (g : Y → Name) (xs : List X) (ys : List Y) (i : ℕ) → length ys ≤ i → map f xs ≡ take i (map g ys) → map f xs ≡ map g ys
owned_end f g xs ys i l e = let size = map_length g ys in e ∙ take_all i (map g ys) (omega (arith, l, size))
