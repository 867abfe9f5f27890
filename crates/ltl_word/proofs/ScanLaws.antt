-- Steps of the reader of words.
use Rattle.std.proofs.Common.{◌≡◌, ◌∙◌, ap, ap₂, sym, refl, subst, ℕ, zero, suc, ◌+◌, ◌-◌, ◌<◌, ◌≤◌, arith, Bool, true, false, List, [], ◌∷◌, ◌++◌, length, take, drop, Option, Some, None}
use Rattle.std.specs.Prelude.{slice_index, slice_range}
use Rattle.std.specs.Option.{option_map}
use Rattle.ltl_spec.specs.Words.LassoText.{IsBadWord, with_sets}
use Rattle.ltl_spec.specs.Formulas.Tokens.{is_name_byte}
use Rattle.ltl_spec.specs.Formulas.Names.{is_proposition}
use Rattle.ltl_spec.specs.Semantics.Word.{Name}
use Rattle.ltl_spec.proofs.Words.LassoTextLaws as machine
use Rattle.ltl_spec.proofs.Words.LassoTextLaws.{text_run}
use Rattle.ltl_spec.proofs.Words.WordReadingLaws.{run_word, fault_at_byte, fault_at_end}
use Rattle.std.proofs.lemmas.Option.{same_Some}
use Rattle.ltl_word.specs.declared.place.WordPlace.{WordPlace}
use Rattle.ltl_word.specs.declared.place.WordPlace.TheVariants.{FirstName, InName, AfterLetter}
use Rattle.ltl_word.specs.WrittenView.{WrittenView, after, place_of, NextIs, letters_of}
use Rattle.ltl_word.specs.ReadText.{IsWritten, IsSpelled}

pub close_first : (text : List ℕ) (at byte : ℕ) (old clear new : WrittenView) → byte ≡ 125 → clear ≡ record old { letter = [] }
    → ((t : List ℕ) (i : ℕ) → after t i AfterLetter new ≡ machine.closed clear.in_cycle clear.stem clear.cycle clear.letter)
    → machine.word_step machine.AtFirstName (after text at FirstName old) byte ≡ Some (after text (at + 1) AfterLetter new)
close_first text at byte old clear new e q h =
    ap (λ c. machine.word_step machine.AtFirstName (after text at FirstName old) c) e
    ∙ ap (λ (v : WrittenView). Some (machine.closed v.in_cycle v.stem v.cycle v.letter)) (sym q) ∙ ap Some (sym (h text (at + 1)))

pub close_name : (old pushed new : WrittenView) (name : Name) (byte : ℕ) → byte ≡ 125 → pushed ≡ record old { letter = old.letter ++ name ∷ [] }
    → ((t : List ℕ) (i : ℕ) → after t i AfterLetter new ≡ machine.closed pushed.in_cycle pushed.stem pushed.cycle pushed.letter)
    → (text : List ℕ) (at : ℕ) (b : machine.WordPlace)
    → machine.end_name (record { place = b; in_cycle = old.in_cycle; stem = old.stem; cycle = old.cycle; letter = old.letter }) (old.letter ++ name ∷ []) byte ≡ Some (after text (at + 1) AfterLetter new)
close_name old pushed new name byte e q h text at b =
    ap (λ c. machine.end_name (record { place = b; in_cycle = old.in_cycle; stem = old.stem; cycle = old.cycle; letter = old.letter }) (old.letter ++ name ∷ []) c) e
    ∙ ap (λ (v : WrittenView). Some (machine.closed v.in_cycle v.stem v.cycle v.letter)) (sym q) ∙ ap Some (sym (h text (at + 1)))

take_one : (xs : List ℕ) (i : ℕ) → i < length xs → take (i + 1) xs ≡ take i xs ++ slice_index xs i ∷ []
take_one [] i l = absurd (omega arith)
take_one (x ∷ xs) zero l = ap (λ ys. x ∷ ys) (none xs)
  where
    none : (ys : List ℕ) → take 0 ys ≡ []
    none [] = refl
    none (y ∷ ys) = refl
take_one (x ∷ xs) (suc i) l =
    let e : suc i + 1 ≡ suc (i + 1) = omega arith in
    let m : i < length xs = omega arith in
    ap (λ k. take k (x ∷ xs)) e ∙ ap (λ ys. x ∷ ys) (take_one xs i m)

pub range_one : (text : List ℕ) (start at : ℕ) → start ≤ at → at < length text → slice_range text start (at + 1) ≡ slice_range text start at ++ slice_index text at ∷ []
range_one text zero at l m =
    let e : at + 1 - 0 ≡ at + 1 = omega arith in
    let f : at ≡ at - 0 = omega arith in
    ap (λ k. take k text) e ∙ take_one text at m ∙ ap (λ k. take k text ++ slice_index text at ∷ []) f
range_one [] (suc start) at l m = absurd (omega arith)
range_one (x ∷ text) (suc start) zero l m = absurd (omega arith)
range_one (x ∷ text) (suc start) (suc at) l m =
    let e : suc at + 1 - suc start ≡ at + 1 - start = omega arith in
    let f : at - start ≡ suc at - suc start = omega arith in
    ap (λ k. take k (drop start text)) e ∙ range_one text start at (omega arith) (omega arith) ∙ ap (λ k. take k (drop start text) ++ slice_index text at ∷ []) f

pub name_goes_on : (text : List ℕ) (at start : ℕ) (old : WrittenView) (inside : Bool) → start ≤ at → at < length text → inside ≡ is_name_byte (slice_index text at) → inside ≡ true
    → NextIs text at (slice_index text at) (InName start) old (Some (InName start)) old
name_goes_on text at start old inside l m e t =
    ap (λ b. machine.in_name b (is_proposition (slice_range text start at)) (after text at (InName start) old) (slice_range text start at) (slice_index text at)) (sym e ∙ t)
    ∙ ap (λ n. Some (record (after text at (InName start) old) { place = machine.InName n })) (sym (range_one text start at l m))

pub name_ends : (text : List ℕ) (at start : ℕ) (old : WrittenView) (inside proper : Bool) (o : Option machine.WordBefore) → inside ≡ is_name_byte (slice_index text at) → inside ≡ false → proper ≡ is_proposition (slice_range text start at) → proper ≡ true
    → machine.end_name (after text at (InName start) old) (old.letter ++ slice_range text start at ∷ []) (slice_index text at) ≡ o
    → machine.word_step (machine.InName (slice_range text start at)) (after text at (InName start) old) (slice_index text at) ≡ o
name_ends text at start old inside proper o e t f u h =
    ap₂ (λ a b. machine.in_name a b (after text at (InName start) old) (slice_range text start at) (slice_index text at)) (sym e ∙ t) (sym f ∙ u) ∙ h

split_at : (xs : List ℕ) (i : ℕ) → i < length xs → take i xs ++ slice_index xs i ∷ drop (i + 1) xs ≡ xs
split_at [] i l = absurd (omega arith)
split_at (x ∷ xs) zero l = ap (λ ys. x ∷ ys) (all xs)
  where
    all : (ys : List ℕ) → drop 0 ys ≡ ys
    all [] = refl
    all (y ∷ ys) = refl
split_at (x ∷ xs) (suc i) l =
    let e : suc i + 1 ≡ suc (i + 1) = omega arith in
    let m : i < length xs = omega arith in
    ap (λ k. x ∷ (take i xs ++ slice_index xs i ∷ drop k (x ∷ xs))) e ∙ ap (λ ys. x ∷ ys) (split_at xs i m)

take_size : (xs : List ℕ) (i : ℕ) → i ≤ length xs → length (take i xs) ≡ i
take_size [] zero l = refl
take_size (x ∷ xs) zero l = refl
take_size [] (suc i) l = absurd (omega arith)
take_size (x ∷ xs) (suc i) l = ap suc (take_size xs i (omega arith))

pub take_all : (xs : List ℕ) (i : ℕ) → length xs ≤ i → take i xs ≡ xs
take_all [] zero l = refl
take_all [] (suc i) l = refl
take_all (x ∷ xs) zero l = absurd (omega arith)
take_all (x ∷ xs) (suc i) l = ap (λ ys. x ∷ ys) (take_all xs i (omega arith))

-- no word's text goes on with the byte
pub bad_byte : (text : List ℕ) (at : ℕ) (place : WordPlace) (old new : WrittenView) (next : Option WordPlace) → at < length text → machine.run (Some machine.start) (take at text) ≡ Some (after text at place old)
    → NextIs text at (slice_index text at) place old next new → next ≡ None → IsBadWord text at
bad_byte text at place old new next l r s n =
    let none : machine.word_step (place_of text at place) (after text at place old) (slice_index text at) ≡ None = s ∙ ap (option_map (λ p. after text (at + 1) p new)) n in
    subst (λ t. IsBadWord t at) (split_at text at l)
    (subst (IsBadWord (take at text ++ slice_index text at ∷ drop (at + 1) text)) (take_size text at (omega arith)) (fault_at_byte (take at text) (slice_index text at) (drop (at + 1) text) (after text at place old) r none))

whole_run : (text : List ℕ) (at : ℕ) (place : WordPlace) (v : WrittenView) → length text ≤ at → machine.run (Some machine.start) (take at text) ≡ Some (after text at place v) → machine.run (Some machine.start) text ≡ Some (after text at place v)
whole_run text at place v l r = ap (machine.run (Some machine.start)) (sym (take_all text at l)) ∙ r

pub bad_end : (text : List ℕ) (at : ℕ) (place : WordPlace) (v : WrittenView) (finished : Bool) → at ≤ length text → length text ≤ at → machine.run (Some machine.start) (take at text) ≡ Some (after text at place v)
    → ((t : List ℕ) (i : ℕ) → finished ≡ machine.is_finished (place_of t i place) v.in_cycle) → finished ≡ false → IsBadWord text at
bad_end text at place v finished k l r f n =
    let e : length text ≡ at = omega arith in
    subst (IsBadWord text) e (fault_at_end text (after text at place v) (whole_run text at place v l r) (sym (f text at) ∙ n))

pub good_end : (text : List ℕ) (at : ℕ) (place : WordPlace) (v : WrittenView) (finished : Bool) → length text ≤ at → machine.run (Some machine.start) (take at text) ≡ Some (after text at place v)
    → ((t : List ℕ) (i : ℕ) → finished ≡ machine.is_finished (place_of t i place) v.in_cycle) → finished ≡ true → IsWritten text v
good_end text at place v finished l r f y =
    let run = whole_run text at place v l r in
    let t = run_word text (after text at place v) run (sym (f text at) ∙ y) in
    let same : after text at place v ≡ machine.at machine.AfterLetter true t.written.stem t.written.cycle [] = same_Some (after text at place v) _ (sym run ∙ text_run text (with_sets (letters_of v)) t) in
    let stem : v.stem ≡ t.written.stem = ap (λ (b : machine.WordBefore). b.stem) same in
    let cycle : v.cycle ≡ t.written.cycle = ap (λ (b : machine.WordBefore). b.cycle) same in
    let word : t.written ≡ letters_of v = λ i. record { stem = sym stem i; cycle = sym cycle i } in
    (t, subst IsSpelled word record { propositions = t.propositions; cycles = t.cycles })
