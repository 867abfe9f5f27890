-- What is read byte by byte begins a word's text, so each text reads as a word or has a place of its fault.
use Rattle.std.proofs.Common.{◌≡◌, ℕ, suc, ◌<◌, Bool, true, false, not, ◌&&◌, ◌⊎◌, inl, inr, List, [], ◌∷◌, ◌++◌, length, refl, sym, ◌∙◌, ap, subst, arith, append_assoc, Option, Some, None}
use Rattle.std.specs.Prelude.{◌==◌, if◌then◌else◌, IsTrue, flat_map, map, take, codes}
use Rattle.std.specs.List.{list_all}
use Rattle.std.proofs.lemmas.List.{append-nil}
use Rattle.std.proofs.lemmas.Bool.{eqb-true, and_from, false_from_ne_true, or_from}
use Rattle.std.proofs.lemmas.Grind.{flat_map-append}
use Rattle.ltl_spec.specs.Collections.Lists.{joined_by}
use Rattle.ltl_spec.specs.Semantics.Word.{Name, Lasso}
use Rattle.ltl_spec.specs.Formulas.Tokens.{is_lower, is_name_byte, same_name}
use Rattle.ltl_spec.specs.Formulas.Names.{is_constant, is_proposition}
use Rattle.ltl_spec.specs.Words.LassoText.{letter_text, lasso_text, with_sets, IsLassoText, IsLassoBeginning, StopsAt, IsBadWord}
use Rattle.ltl_spec.proofs.Words.LassoTextLaws.{WordPlace, AtLetter, AtFirstName, AtName, AfterLetter, AtBlank, InName, InWord, WordBefore, closed, closed_with, go, begin_name, in_name, in_word, expect_word, at_letter, word_step, run, start, letters_text, run_none, no_beginning, no_word, one_byte, is_finished, is_whole}
use Rattle.std.proofs.lemmas.List.Sums.{fold-append}
use Rattle.std.proofs.lemmas.Option.{same_Some, none-some}
use Rattle.ltl_spec.proofs.Formulas.NameLaws.{same_exact}
use Rattle.ltl_spec.proofs.Collections.CaseLaws.{left_true, right_true}
use Rattle.ltl_spec.proofs.Collections.ListLaws.{get_done, get_end}
use Rattle.ltl_spec.proofs.Collections.MemberLaws.{all_append}

abbrev is_letter : List Name → Bool
is_letter a = list_all is_proposition a

abbrev are_letters : List (List Name) → Bool
are_letters ls = list_all is_letter ls

-- what stands before the next letter
abbrev before_text : Bool → List (List Name) → List (List Name) → List ℕ
before_text true u v = letters_text u ++ codes "cycle " ++ letters_text v
before_text false u v = letters_text u

-- the finished names of an open letter
abbrev names_text : List Name → List ℕ
names_text l = flat_map (λ n. n ++ codes ",") l

joined_push : (between : List ℕ) (xs : List (List ℕ)) (y : List ℕ) → joined_by between (xs ++ y ∷ []) ≡ flat_map (λ x. x ++ between) xs ++ y
joined_push between [] y = refl
joined_push between (x ∷ []) y = ap (λ t. t ++ y) (sym (append-nil (x ++ between)))
joined_push between (x ∷ z ∷ zs) y =
    ap (λ t. x ++ between ++ t) (joined_push between (z ∷ zs) y)
    ∙ sym (append_assoc (x ++ between) (flat_map (λ w. w ++ between) (z ∷ zs)) y)

-- the letter with one name more
letter_push : (l : List Name) (n : Name) → letter_text (l ++ n ∷ []) ≡ codes "{" ++ names_text l ++ n ++ codes "}"
letter_push l n = ap (λ t. codes "{" ++ t ++ codes "}") (joined_push (codes ",") l n)

names_push : (l : List Name) (n : Name) → names_text (l ++ n ∷ []) ≡ names_text l ++ (n ++ codes ",")
names_push l n = flat_map-append (λ m. m ++ codes ",") l (n ∷ []) ∙ ap (λ t. names_text l ++ t) (append-nil (n ++ codes ","))

-- many letters and one more
letters_push : (u : List (List Name)) (a : List Name) → letters_text (u ++ a ∷ []) ≡ letters_text u ++ (letter_text a ++ codes "; ")
letters_push u a = flat_map-append (λ b. letter_text b ++ codes "; ") u (a ∷ []) ∙ ap (λ t. letters_text u ++ t) (append-nil (letter_text a ++ codes "; "))

joined_letters : (v : List (List Name)) (a : List Name) → joined_by (codes "; ") (map letter_text (v ++ a ∷ [])) ≡ letters_text v ++ letter_text a
joined_letters v a = ap (joined_by (codes "; ")) (map_push v) ∙ joined_push (codes "; ") (map letter_text v) (letter_text a) ∙ ap (λ t. t ++ letter_text a) (flat v)
  where
    map_push : (ls : List (List Name)) → map letter_text (ls ++ a ∷ []) ≡ map letter_text ls ++ letter_text a ∷ []
    map_push [] = refl
    map_push (b ∷ ls) = λ i. letter_text b ∷ map_push ls i

    flat : (ls : List (List Name)) → flat_map (λ x. x ++ codes "; ") (map letter_text ls) ≡ letters_text ls
    flat [] = refl
    flat (b ∷ ls) = ap (λ t. letter_text b ++ codes "; " ++ t) (flat ls)

-- a name that has begun, and can go on
abbrev is_begun : Name → Bool
is_begun [] = false
is_begun (b ∷ bs) = is_lower b && list_all is_name_byte bs

-- no constant ends in `a`
no_constant : (n : Name) → is_constant (n ++ codes "a") ≡ false
no_constant n = or_from (same_name (n ++ codes "a") (codes "true")) (same_name (n ++ codes "a") (codes "false")) (differs (codes "true") refl) (differs (codes "false") refl)
  where
    final : Name → ℕ
    final [] = 0
    final (b ∷ []) = b
    final (b ∷ c ∷ cs) = final (c ∷ cs)

    last_push : (m : Name) → final (m ++ codes "a") ≡ 97
    last_push [] = refl
    last_push (b ∷ []) = refl
    last_push (b ∷ c ∷ cs) = last_push (c ∷ cs)

    differs : (c : Name) → final c ≡ 101 → same_name (n ++ codes "a") c ≡ false
    differs c d = false_from_ne_true (same_name (n ++ codes "a") c) (λ e. (let h0 = sym (last_push n) ∙ ap final (same_exact (n ++ codes "a") c e) ∙ d in omega (arith, h0)))

more_name : (n : Name) → IsTrue (is_begun n) → IsTrue (is_proposition (n ++ codes "a"))
more_name [] e = cc
more_name (b ∷ bs) e =
    and_from (is_lower b && list_all is_name_byte (bs ++ codes "a")) _ (and_from (is_lower b) _ (left_true _ _ e) (all_append is_name_byte bs (codes "a") (right_true (is_lower b) _ e) refl))
    (ap not (no_constant (b ∷ bs)))

-- the bytes so far and some more are what stands before a letter
pub record Reaches (bytes : List ℕ) : Type 0 where
  pub more : List ℕ
  pub in_cycle : Bool
  pub stem : List (List Name)
  pub cycle : List (List Name)
  pub good : IsTrue (are_letters stem) × IsTrue (are_letters cycle)
  pub spelled : bytes ++ more ≡ before_text in_cycle stem cycle

-- such bytes begin the text of a word: `{}`, or `cycle {}`, completes it
word_of : (bytes more end : List ℕ) (u v : List (List Name)) → IsTrue (are_letters u) → IsTrue (are_letters v) → 0 < length v
    → bytes ++ more ++ end ≡ lasso_text (record { stem = u; cycle = v }) → IsLassoBeginning bytes
word_of bytes more end u v g h l e = (
  more ++ end,
  with_sets (record { stem = u; cycle = v }),
  record {
    written = record { stem = u; cycle = v };
    propositions = all_append is_letter u v g h;
    cycles = l;
    spelled = sym (append_assoc bytes more end) ∙ e;
    read = refl;
  },
)

some_letter : (v : List (List Name)) (a : List Name) → 0 < length (v ++ a ∷ [])
some_letter [] a = omega arith
some_letter (b ∷ v) a = omega arith

cycle_text : (u v : List (List Name)) (a : List Name) → before_text true u v ++ letter_text a ≡ lasso_text (record { stem = u; cycle = v ++ a ∷ [] })
cycle_text u v a =
    append_assoc (letters_text u ++ codes "cycle ") (letters_text v) (letter_text a)
    ∙ ap (λ t. letters_text u ++ codes "cycle " ++ t) (sym (joined_letters v a))

completed : (c : Bool) (bytes more : List ℕ) (u v : List (List Name)) → IsTrue (are_letters u) → IsTrue (are_letters v) → bytes ++ more ≡ before_text c u v → IsLassoBeginning bytes
completed true bytes more u v g h e =
    word_of bytes more (codes "{}") u (v ++ [] ∷ []) g (all_append is_letter v ([] ∷ []) h refl) (some_letter v []) (ap (λ t. t ++ codes "{}") e ∙ cycle_text u v [])
completed false bytes more u v g h e =
    word_of bytes more (codes "cycle {}") u ([] ∷ []) g refl (omega arith) (ap (λ t. t ++ codes "cycle {}") e ∙ sym (append_assoc (letters_text u) (codes "cycle ") (codes "{}")))

reaches_begins : (bytes : List ℕ) → Reaches bytes → IsLassoBeginning bytes
reaches_begins bytes r = completed r.in_cycle bytes r.more r.stem r.cycle r.good.0 r.good.1 r.spelled

-- the letters are these with one more, in the cycle or in the stem
abbrev ClosedBy : Bool → List (List Name) → List (List Name) → List (List Name) → List (List Name) → List Name → Type 0
ClosedBy true stem cycle u v a = (stem ≡ u) × (cycle ≡ v ++ a ∷ [])
ClosedBy false stem cycle u v a = (stem ≡ u ++ a ∷ []) × (cycle ≡ v)

closed_text : (c : Bool) (stem cycle u v : List (List Name)) (a : List Name) → ClosedBy c stem cycle u v a → before_text c u v ++ letter_text a ++ codes "; " ≡ before_text c stem cycle
closed_text true stem cycle u v a k =
    append_assoc (before_text true u v) (letter_text a) (codes "; ")
    ∙ append_assoc (letters_text u ++ codes "cycle ") (letters_text v) (letter_text a ++ codes "; ")
    ∙ ap (λ t. letters_text u ++ codes "cycle " ++ t) (sym (letters_push v a))
    ∙ (λ i. letters_text (sym k.0 i) ++ codes "cycle " ++ letters_text (sym k.1 i))
closed_text false stem cycle u v a k = append_assoc (letters_text u) (letter_text a) (codes "; ") ∙ sym (letters_push u a) ∙ ap letters_text (sym k.0)

-- what the places say of the bytes so far
abbrev HeldText : WordPlace → WordBefore → List ℕ → Type 0
HeldText AtLetter b bytes = (b.letter ≡ []) × (bytes ≡ before_text b.in_cycle b.stem b.cycle)
HeldText AtFirstName b bytes = (b.letter ≡ []) × (bytes ≡ before_text b.in_cycle b.stem b.cycle ++ codes "{")
HeldText AtName b bytes = bytes ≡ before_text b.in_cycle b.stem b.cycle ++ codes "{" ++ names_text b.letter
HeldText (InName n) b bytes = IsTrue (is_begun n) × (bytes ≡ before_text b.in_cycle b.stem b.cycle ++ codes "{" ++ names_text b.letter ++ n)
HeldText AfterLetter b bytes = (u : List (List Name)) × (v : List (List Name)) × (a : List Name) × (b.letter ≡ []) × ClosedBy b.in_cycle b.stem b.cycle u v a × (bytes ≡ before_text b.in_cycle u v ++ letter_text a)
HeldText AtBlank b bytes = (u : List (List Name)) × (v : List (List Name)) × (a : List Name) × (b.letter ≡ []) × ClosedBy b.in_cycle b.stem b.cycle u v a × (bytes ≡ before_text b.in_cycle u v ++ letter_text a ++ codes ";")
HeldText (InWord ws) b bytes = (b.letter ≡ []) × (b.in_cycle ≡ false) × (bytes ++ ws ≡ letters_text b.stem ++ codes "cycle ")

pub record Held (b : WordBefore) (bytes : List ℕ) : Type 0 where
  pub stem : IsTrue (are_letters b.stem)
  pub cycle : IsTrue (are_letters b.cycle)
  pub letter : IsTrue (is_letter b.letter)
  pub no_cycle : b.in_cycle ≡ false → b.cycle ≡ []
  pub text : HeldText b.place b bytes

-- the letters with one more
abbrev stem_with : Bool → List (List Name) → List Name → List (List Name)
stem_with true u a = u
stem_with false u a = u ++ a ∷ []

abbrev cycle_with : Bool → List (List Name) → List Name → List (List Name)
cycle_with true v a = v ++ a ∷ []
cycle_with false v a = v

closed_with_one : (c : Bool) (u v : List (List Name)) (a : List Name) → ClosedBy c (stem_with c u a) (cycle_with c v a) u v a
closed_with_one true u v a = (refl, refl)
closed_with_one false u v a = (refl, refl)

stem_good : (c : Bool) (u : List (List Name)) (a : List Name) → IsTrue (are_letters u) → IsTrue (is_letter a) → IsTrue (are_letters (stem_with c u a))
stem_good true u a g e = g
stem_good false u a g e = all_append is_letter u (a ∷ []) g (and_from (is_letter a) true e refl)

cycle_good : (c : Bool) (v : List (List Name)) (a : List Name) → IsTrue (are_letters v) → IsTrue (is_letter a) → IsTrue (are_letters (cycle_with c v a))
cycle_good true v a g e = all_append is_letter v (a ∷ []) g (and_from (is_letter a) true e refl)
cycle_good false v a g e = g

-- a letter that these bytes finish
letter_reaches : (c : Bool) (u v : List (List Name)) (a : List Name) (bytes more : List ℕ) → IsTrue (are_letters u) → IsTrue (are_letters v) → IsTrue (is_letter a)
    → bytes ++ more ≡ before_text c u v ++ letter_text a ++ codes "; " → Reaches bytes
letter_reaches c u v a bytes more g h k e = record {
  more = more;
  in_cycle = c;
  stem = stem_with c u a;
  cycle = cycle_with c v a;
  good = (stem_good c u a g k, cycle_good c v a h k);
  spelled = e ∙ closed_text c (stem_with c u a) (cycle_with c v a) u v a (closed_with_one c u v a);
}

name_added : (l : List Name) (n : Name) → IsTrue (is_letter l) → IsTrue (is_proposition n) → IsTrue (is_letter (l ++ n ∷ []))
name_added l n e f = all_append is_proposition l (n ∷ []) e (and_from (is_proposition n) true f refl)

open_text : (b names n : List ℕ) → b ++ codes "{" ++ names ++ n ++ codes "a}; " ≡ b ++ (codes "{" ++ names ++ (n ++ codes "a") ++ codes "}") ++ codes "; "
open_text b names n =
    let head = codes "{" ++ names in
    append_assoc (b ++ codes "{" ++ names) n (codes "a}; ")
    ∙ ap (λ x. x ++ (n ++ codes "a}; ")) (append_assoc b (codes "{") names)
    ∙ append_assoc b head (n ++ codes "a}; ")
    ∙ sym (append_assoc b (head ++ (n ++ codes "a") ++ codes "}") (codes "; ")
    ∙ ap (λ x. b ++ x) (append_assoc (head ++ (n ++ codes "a")) (codes "}") (codes "; ") ∙ append_assoc head (n ++ codes "a") (codes "}; ") ∙ ap (λ x. head ++ x) (append_assoc n (codes "a") (codes "}; "))))

held_reaches : (place : WordPlace) (b : WordBefore) (bytes : List ℕ) → IsTrue (are_letters b.stem) → IsTrue (are_letters b.cycle) → IsTrue (is_letter b.letter) → HeldText place b bytes → Reaches bytes
held_reaches AtLetter b bytes g h k t = record { more = []; in_cycle = b.in_cycle; stem = b.stem; cycle = b.cycle; good = (g, h); spelled = append-nil bytes ∙ t.1 }
held_reaches AtFirstName b bytes g h k t =
    letter_reaches b.in_cycle b.stem b.cycle [] bytes (codes "}; ") g h refl
    (ap (λ x. x ++ codes "}; ") t.1 ∙ append_assoc (before_text b.in_cycle b.stem b.cycle) (codes "{") (codes "}; ") ∙ sym (append_assoc (before_text b.in_cycle b.stem b.cycle) (codes "{}") (codes "; ")))
held_reaches AtName b bytes g h k t =
    letter_reaches b.in_cycle b.stem b.cycle (b.letter ++ codes "a" ∷ []) bytes (codes "a}; ") g h (name_added b.letter (codes "a") k refl)
    (ap (λ x. x ++ codes "a}; ") (t ∙ sym (append-nil _)) ∙ open_text (before_text b.in_cycle b.stem b.cycle) (names_text b.letter) []
    ∙ ap (λ x. before_text b.in_cycle b.stem b.cycle ++ x ++ codes "; ") (sym (letter_push b.letter (codes "a"))))
held_reaches (InName n) b bytes g h k t =
    letter_reaches b.in_cycle b.stem b.cycle (b.letter ++ (n ++ codes "a") ∷ []) bytes (codes "a}; ") g h (name_added b.letter (n ++ codes "a") k (more_name n t.0))
    (ap (λ x. x ++ codes "a}; ") t.1 ∙ open_text (before_text b.in_cycle b.stem b.cycle) (names_text b.letter) n
    ∙ ap (λ x. before_text b.in_cycle b.stem b.cycle ++ x ++ codes "; ") (sym (letter_push b.letter (n ++ codes "a"))))
held_reaches AfterLetter b bytes g h k (u, v, a, l, d, t) =
    record { more = codes "; "; in_cycle = b.in_cycle; stem = b.stem; cycle = b.cycle; good = (g, h); spelled = ap (λ x. x ++ codes "; ") t ∙ closed_text b.in_cycle b.stem b.cycle u v a d }
held_reaches AtBlank b bytes g h k (u, v, a, l, d, t) = record {
  more = codes " ";
  in_cycle = b.in_cycle;
  stem = b.stem;
  cycle = b.cycle;
  good = (g, h);
  spelled = ap (λ x. x ++ codes " ") t ∙ append_assoc (before_text b.in_cycle u v ++ letter_text a) (codes ";") (codes " ") ∙ closed_text b.in_cycle b.stem b.cycle u v a d;
}
held_reaches (InWord ws) b bytes g h k t = record { more = ws; in_cycle = true; stem = b.stem; cycle = []; good = (g, refl); spelled = t.2 ∙ sym (append-nil (letters_text b.stem ++ codes "cycle ")) }

-- the branch that was taken
when_taken : {K : Type 0} (t : Bool) (x y : Option K) (c : K) → (if t then x else y) ≡ Some c → ((t ≡ true) × (x ≡ Some c)) ⊎ ((t ≡ false) × (y ≡ Some c))
when_taken true x y c e = inl (refl, e)
when_taken false x y c e = inr (refl, e)

none_some : {K : Type 0} {P : Type 0} (c : K) → None ≡ Some c → P
none_some c e = absurd (none-some c e)

extend : (bytes text : List ℕ) (byte k : ℕ) → (byte == k) ≡ true → bytes ≡ text → bytes ++ byte ∷ [] ≡ text ++ k ∷ []
extend bytes text byte k e t = let same = eqb-true byte k e in λ i. t i ++ same i ∷ []

-- a letter that was closed
held_closed : (c : Bool) (u v : List (List Name)) (a : List Name) (bytes : List ℕ) → IsTrue (are_letters u) → IsTrue (are_letters v) → IsTrue (is_letter a) → (c ≡ false → v ≡ [])
    → bytes ≡ before_text c u v ++ letter_text a → Held (closed c u v a) bytes
held_closed true u v a bytes g h k n e = record { stem = g; cycle = cycle_good true v a h k; letter = refl; no_cycle = λ f. cc; text = (u, v, a, refl, (refl, refl), e) }
held_closed false u v a bytes g h k n e = record { stem = stem_good false u a g k; cycle = h; letter = refl; no_cycle = n; text = (u, v, a, refl, (refl, refl), e) }

module _ (b : WordBefore) (bytes : List ℕ) (byte : ℕ) (c : WordBefore) (g : IsTrue (are_letters b.stem)) (h : IsTrue (are_letters b.cycle)) (k : IsTrue (is_letter b.letter)) (n : b.in_cycle ≡ false → b.cycle ≡ []) where
  abbrev now : List ℕ
  now = bytes ++ byte ∷ []

  abbrev text_before : List ℕ
  text_before = before_text b.in_cycle b.stem b.cycle

  go_held : (place : WordPlace) → HeldText place (record b { place = place }) now → go b place ≡ Some c → Held c now
  go_held place t e = subst (λ x. Held x now) (same_Some (record b { place = place }) c e) (record { stem = g; cycle = h; letter = k; no_cycle = n; text = t })

  closed_held : (a : List Name) → IsTrue (is_letter a) → now ≡ text_before ++ letter_text a → Some (closed_with b a) ≡ Some c → Held c now
  closed_held a f t e = subst (λ x. Held x now) (same_Some (closed_with b a) c e) (held_closed b.in_cycle b.stem b.cycle a now g h f n t)

  begin_held : (low : Bool) → is_lower byte ≡ low → bytes ≡ text_before ++ codes "{" ++ names_text b.letter → begin_name low b byte ≡ Some c → Held c now
  begin_held true q t e = go_held (InName (byte ∷ [])) (and_from (is_lower byte) true q refl, ap (λ x. x ++ byte ∷ []) t) e
  begin_held false q t e = none_some c e

  letter_held : (ic : Bool) → b.in_cycle ≡ ic → HeldText AtLetter b bytes → at_letter ic b byte ≡ Some c → Held c now
  letter_held true q t e =
      elim (when_taken (byte == 123) (go b AtFirstName) None c e) [
        | inl w ↦ go_held AtFirstName (t.0, extend bytes text_before byte 123 w.0 t.1) w.1
        | inr w ↦ none_some c w.1
      ]
  letter_held false q t e =
      elim (when_taken (byte == 123) (go b AtFirstName) (if byte == 99 then go b (InWord (codes "ycle ")) else None) c e) [
        | inl w ↦ go_held AtFirstName (t.0, extend bytes text_before byte 123 w.0 t.1) w.1
        | inr w ↦ elim (when_taken (byte == 99) (go b (InWord (codes "ycle "))) None c w.1) [
          | inl x ↦ go_held (InWord (codes "ycle ")) (t.0, q, word_begun x.0) x.1
          | inr x ↦ none_some c x.1
        ]
      ]
    where
      word_begun : (byte == 99) ≡ true → now ++ codes "ycle " ≡ letters_text b.stem ++ codes "cycle "
      word_begun x =
          ap (λ y. y ++ codes "ycle ") (extend bytes (letters_text b.stem) byte 99 x (t.1 ∙ ap (λ z. before_text z b.stem b.cycle) q))
          ∙ append_assoc (letters_text b.stem) (codes "c") (codes "ycle ")

  begun_more : (m : Name) → IsTrue (is_begun m) → is_name_byte byte ≡ true → IsTrue (is_begun (m ++ byte ∷ []))
  begun_more [] f q = cc
  begun_more (x ∷ xs) f q = and_from (is_lower x) _ (left_true _ _ f) (all_append is_name_byte xs (byte ∷ []) (right_true (is_lower x) _ f) (and_from (is_name_byte byte) true q refl))

  name_held : (inside may_end : Bool) (m : Name) → is_name_byte byte ≡ inside → is_proposition m ≡ may_end → HeldText (InName m) b bytes → in_name inside may_end b m byte ≡ Some c → Held c now
  name_held true may_end m q f t e =
      go_held (InName (m ++ byte ∷ [])) (begun_more m t.0 q, ap (λ x. x ++ byte ∷ []) t.1 ∙ append_assoc (text_before ++ codes "{" ++ names_text b.letter) m (byte ∷ [])) e
  name_held false true m q f t e =
      elim (when_taken (byte == 44) (Some (record b { place = AtName; letter = b.letter ++ m ∷ [] })) (if byte == 125 then Some (closed_with b (b.letter ++ m ∷ [])) else None) c e) [
        | inl w ↦ subst (λ x. Held x now) (same_Some (record b { place = AtName; letter = b.letter ++ m ∷ [] }) c w.1)
            (record { stem = g; cycle = h; letter = name_added b.letter m k f; no_cycle = n; text = comma_text w.0 })
        | inr w ↦ elim (when_taken (byte == 125) (Some (closed_with b (b.letter ++ m ∷ []))) None c w.1) [
          | inl x ↦ closed_held (b.letter ++ m ∷ []) (name_added b.letter m k f) (close_text x.0) x.1
          | inr x ↦ none_some c x.1
        ]
      ]
    where
      comma_text : (byte == 44) ≡ true → now ≡ text_before ++ codes "{" ++ names_text (b.letter ++ m ∷ [])
      comma_text x = extend bytes (text_before ++ codes "{" ++ names_text b.letter ++ m) byte 44 x t.1 ∙ simp (append_assoc, names_push)

      close_text : (byte == 125) ≡ true → now ≡ text_before ++ letter_text (b.letter ++ m ∷ [])
      close_text x = extend bytes (text_before ++ codes "{" ++ names_text b.letter ++ m) byte 125 x t.1 ∙ simp (append_assoc, letter_push)
  name_held false false m q f t e = none_some c e

  word_goes_on : (w : ℕ) (ws : List ℕ) → byte ≡ w → HeldText (InWord (w ∷ ws)) b bytes → in_word b ws ≡ Some c → Held c now
  word_goes_on w [] q t e =
      subst (λ x. Held x now) (same_Some (record b { place = AtLetter; in_cycle = true }) c e) (record {
        stem = g;
        cycle = h;
        letter = k;
        no_cycle = λ f. cc;
        text = (t.0, (λ i. bytes ++ q i ∷ []) ∙ t.2 ∙ sym (append-nil (letters_text b.stem ++ codes "cycle ")) ∙ ap (λ v. letters_text b.stem ++ codes "cycle " ++ letters_text v) (sym (n t.1)));
      })
  word_goes_on w (x ∷ xs) q t e = go_held (InWord (x ∷ xs)) (t.0, t.1, append_assoc bytes (byte ∷ []) (x ∷ xs) ∙ (λ i. bytes ++ q i ∷ x ∷ xs) ∙ t.2) e

  word_held : (ws : List ℕ) → HeldText (InWord ws) b bytes → expect_word b ws byte ≡ Some c → Held c now
  word_held [] t e = none_some c e
  word_held (w ∷ ws) t e =
      elim (when_taken (byte == w) (in_word b ws) None c e) [
        | inl x ↦ word_goes_on w ws (eqb-true byte w x.0) t x.1
        | inr x ↦ none_some c x.1
      ]

-- one byte more
held_step : (place : WordPlace) (b : WordBefore) (bytes : List ℕ) (byte : ℕ) (c : WordBefore) → IsTrue (are_letters b.stem) → IsTrue (are_letters b.cycle) → IsTrue (is_letter b.letter) → (b.in_cycle ≡ false → b.cycle ≡ [])
    → HeldText place b bytes → word_step place b byte ≡ Some c → Held c (bytes ++ byte ∷ [])
held_step AtLetter b bytes byte c g h k n t e = letter_held b bytes byte c g h k n b.in_cycle refl t e
held_step AtFirstName b bytes byte c g h k n t e =
    elim (when_taken (byte == 125) (Some (closed_with b [])) (begin_name (is_lower byte) b byte) c e) [
      | inl w ↦ closed_held b bytes byte c g h k n [] refl
          (extend bytes (before_text b.in_cycle b.stem b.cycle ++ codes "{") byte 125 w.0 t.1 ∙ append_assoc (before_text b.in_cycle b.stem b.cycle) (codes "{") (codes "}")) w.1
      | inr w ↦ begin_held b bytes byte c g h k n (is_lower byte) refl
          (t.1 ∙ sym (append-nil _) ∙ ap (λ l. before_text b.in_cycle b.stem b.cycle ++ codes "{" ++ names_text l) (sym t.0)) w.1
    ]
held_step AtName b bytes byte c g h k n t e = begin_held b bytes byte c g h k n (is_lower byte) refl t e
held_step (InName m) b bytes byte c g h k n t e = name_held b bytes byte c g h k n (is_name_byte byte) (is_proposition m) m refl refl t e
held_step AfterLetter b bytes byte c g h k n (u, v, a, l, d, t) e =
    elim (when_taken (byte == 59) (go b AtBlank) None c e) [
      | inl w ↦ go_held b bytes byte c g h k n AtBlank (u, v, a, l, d, extend bytes (before_text b.in_cycle u v ++ letter_text a) byte 59 w.0 t) w.1
      | inr w ↦ none_some c w.1
    ]
held_step AtBlank b bytes byte c g h k n (u, v, a, l, d, t) e =
    elim (when_taken (byte == 32) (go b AtLetter) None c e) [
      | inl w ↦ go_held b bytes byte c g h k n AtLetter (
        l,
        extend bytes (before_text b.in_cycle u v ++ letter_text a ++ codes ";") byte 32 w.0 t
            ∙ append_assoc (before_text b.in_cycle u v ++ letter_text a) (codes ";") (codes " ")
            ∙ closed_text b.in_cycle b.stem b.cycle u v a d,
      ) w.1
      | inr w ↦ none_some c w.1
    ]
held_step (InWord ws) b bytes byte c g h k n t e = word_held b bytes byte c g h k n ws t e

held_run : (bytes done : List ℕ) (b c : WordBefore) → Held b done → run (Some b) bytes ≡ Some c → Held c (done ++ bytes)
held_run [] done b c k e = subst (λ x. Held x (done ++ [])) (same_Some b c e) (subst (Held b) (sym (append-nil done)) k)
held_run (x ∷ bytes) done b c k e =
    elim (word_step b.place b x) as (λ o. word_step b.place b x ≡ o → run o bytes ≡ Some c → Held c (done ++ x ∷ bytes)) [
      | None ↦ λ q f. none_some c (sym (run_none bytes) ∙ f)
      | Some d ↦ λ q f. subst (Held c) (append_assoc done (x ∷ []) bytes)
          (held_run bytes (done ++ x ∷ []) d c (held_step b.place b done x d k.stem k.cycle k.letter k.no_cycle k.text q) f)
    ] refl e

held_text : (text : List ℕ) (b : WordBefore) → run (Some start) text ≡ Some b → Held b text
held_text text b e = held_run text [] start b (record { stem = refl; cycle = refl; letter = refl; no_cycle = λ f. refl; text = (refl, refl) }) e

-- what is read begins a word's text
pub run_begins : (bytes : List ℕ) (b : WordBefore) → run (Some start) bytes ≡ Some b → IsLassoBeginning bytes
run_begins bytes b e = let k = held_text bytes b e in reaches_begins bytes (held_reaches b.place b bytes k.stem k.cycle k.letter k.text)

-- where all of a word was read, the text reads as that word
whole_word : (place : WordPlace) (ic : Bool) (b : WordBefore) (text : List ℕ) → IsTrue (are_letters b.stem) → IsTrue (are_letters b.cycle) → b.in_cycle ≡ ic → is_finished place ic ≡ true
    → HeldText place b text → IsLassoText text (with_sets (record { stem = b.stem; cycle = b.cycle }))
whole_word AfterLetter true b text g h q f (u, v, a, l, d, t) =
    let parts = subst (λ ic. ClosedBy ic b.stem b.cycle u v a) q d in
    record {
      written = record { stem = b.stem; cycle = b.cycle };
      propositions = all_append is_letter b.stem b.cycle g h;
      cycles = subst (λ c. 0 < length c) (sym parts.1) (some_letter v a);
      spelled = t ∙ ap (λ ic. before_text ic u v ++ letter_text a) q ∙ cycle_text u v a ∙ (λ i. lasso_text (record { stem = sym parts.0 i; cycle = sym parts.1 i }));
      read = refl;
    }
whole_word AfterLetter false b text g h q f t = cc
whole_word _ ic b text g h q f t = cc

pub run_word : (text : List ℕ) (b : WordBefore) → run (Some start) text ≡ Some b → is_finished b.place b.in_cycle ≡ true → IsLassoText text (with_sets (record { stem = b.stem; cycle = b.cycle }))
run_word text b e f = let k = held_text text b e in whole_word b.place b.in_cycle b text k.stem k.cycle refl f k.text

take_done : (xs ys : List ℕ) → take (length xs) (xs ++ ys) ≡ xs
take_done [] ys = refl
take_done (x ∷ xs) ys = λ i. x ∷ take_done xs ys i

take_more : (xs : List ℕ) (y : ℕ) (ys : List ℕ) → take (suc (length xs)) (xs ++ y ∷ ys) ≡ xs ++ y ∷ []
take_more [] y ys = refl
take_more (x ∷ xs) y ys = λ i. x ∷ take_more xs y ys i

-- reading stops at a byte
pub fault_at_byte : (done : List ℕ) (byte : ℕ) (rest : List ℕ) (b : WordBefore) → run (Some start) done ≡ Some b → word_step b.place b byte ≡ None → IsBadWord (done ++ byte ∷ rest) (length done)
fault_at_byte done byte rest b e n = record {
  begins = subst IsLassoBeginning (sym (take_done done (byte ∷ rest))) (run_begins done b e);
  stops = subst (StopsAt (done ++ byte ∷ rest) (length done)) (sym (get_done done rest byte))
      (subst (λ bytes. ¬ (IsLassoBeginning bytes)) (sym (take_more done byte rest)) (no_beginning (done ++ byte ∷ [])
      (fold-append one_byte (Some start) done (byte ∷ []) ∙ ap (λ o. run o (byte ∷ [])) e ∙ n)));
}

-- the text ends before a word does
pub fault_at_end : (text : List ℕ) (b : WordBefore) → run (Some start) text ≡ Some b → is_finished b.place b.in_cycle ≡ false → IsBadWord text (length text)
fault_at_end text b e f = record {
  begins = subst IsLassoBeginning (sym (ap (take (length text)) (sym (append-nil text)) ∙ take_done text [])) (run_begins text b e);
  stops = subst (StopsAt text (length text)) (sym (get_end text)) (refl, no_word text (ap is_whole e ∙ f));
}

-- each text reads as a word or has a place of its fault
pub word_or_fault : (text : List ℕ) → ((w : Lasso) × IsLassoText text w) ⊎ ((place : ℕ) × IsBadWord text place)
word_or_fault text = from text [] start refl
  where
    from : (rest done : List ℕ) (b : WordBefore) → run (Some start) done ≡ Some b → ((w : Lasso) × IsLassoText (done ++ rest) w) ⊎ ((place : ℕ) × IsBadWord (done ++ rest) place)
    from [] done b e =
        subst (λ t. ((w : Lasso) × IsLassoText t w) ⊎ ((place : ℕ) × IsBadWord t place)) (sym (append-nil done)) (
        elim (is_finished b.place b.in_cycle) as (λ f. is_finished b.place b.in_cycle ≡ f → ((w : Lasso) × IsLassoText done w) ⊎ ((place : ℕ) × IsBadWord done place)) [
          | true ↦ λ f. inl (with_sets (record { stem = b.stem; cycle = b.cycle }), run_word done b e f)
          | false ↦ λ f. inr (length done, fault_at_end done b e f)
        ] refl)
    from (x ∷ rest) done b e =
        elim (word_step b.place b x) as (λ o. word_step b.place b x ≡ o → ((w : Lasso) × IsLassoText (done ++ x ∷ rest) w) ⊎ ((place : ℕ) × IsBadWord (done ++ x ∷ rest) place)) [
          | None ↦ λ q. inr (length done, fault_at_byte done x rest b e q)
          | Some d ↦ λ q. subst (λ t. ((w : Lasso) × IsLassoText t w) ⊎ ((place : ℕ) × IsBadWord t place)) (append_assoc done (x ∷ []) rest)
              (from rest (done ++ x ∷ []) d (fold-append one_byte (Some start) done (x ∷ []) ∙ ap (λ o. run o (x ∷ [])) e ∙ q))
        ] refl
