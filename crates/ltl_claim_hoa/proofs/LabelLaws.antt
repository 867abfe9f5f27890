-- A guard's label is written from its end, by tasks that stand for what comes before.
use Rattle.std.proofs.Common.{◌≡◌, ℕ, zero, suc, ◌-◌, ◌<◌, ◌≤◌, Bool, true, false, List, [], ◌∷◌, ◌++◌, ◌⊎◌, inl, inr, length, reverse, refl, sym, ◌∙◌, ap, subst, arith, append_assoc}
use Rattle.std.specs.Prelude.{nat_lt, nat_le, if◌then◌else◌, take, slice_index_or, flat_map, drop}
use Rattle.std.proofs.lemmas.List.{append-nil, reverse-append}
use Rattle.std.proofs.lemmas.Grind.{flat_map-append}
use Rattle.std.proofs.lemmas.Bool.Decides.{nat_tests}
use Rattle.std.proofs.lemmas.Bool.{cases_lt}
use Rattle.ltl_spec.specs.Semantics.Word.{Name}
use Rattle.ltl_spec.specs.Collections.Lists.{place_of}
use Rattle.ltl_spec.specs.Formulas.Tokens.{same_name}
use Rattle.ltl_spec.specs.Hoa.HoaLabel.{Label, ConstantLabel, NumberLabel, BracketLabel, label_rank}
use Rattle.ltl_spec.specs.Claims.ClaimProgram.{Guard}
use Rattle.ltl_spec.specs.Claims.ClaimProgram as spec
use Rattle.ltl_claim.specs.declared.claim.GuardStep.{GuardStep}
use Rattle.ltl_claim.specs.declared.claim.GuardStep.TheVariants as step
use Rattle.ltl_claim.specs.ClaimView.{steps_of}
use Rattle.ltl_claim_hoa.specs.declared.sign.Sign.{Sign}
use Rattle.ltl_claim_hoa.specs.declared.sign.Sign.TheVariants.{And, Or, Close}
use Rattle.ltl_claim_hoa.specs.declared.label.Task as code
use Rattle.ltl_claim_hoa.specs.declared.label.Task.TheVariants as task
use Rattle.ltl_claim_hoa.specs.ClaimHoa.{guard_label, guard_text, tight, written_label}
use Rattle.ltl_claim_hoa.specs.LabelSigns.{between, expansion, in_brackets, sign_text, signs_of, Stands, StandsFor}

-- ---- signs as a text

bracketed_text : (b : Bool) (signs : List Sign) (a : Label) → flat_map sign_text signs ≡ written_label a → flat_map sign_text (in_brackets b signs) ≡ written_label (if b then BracketLabel a else a)
bracketed_text false signs a e = e
bracketed_text true signs a e = ap (λ t. 40 ∷ t) (flat_map-append sign_text signs (Close ∷ []) ∙ ap (λ t. t ++ 41 ∷ []) e)

-- brackets stand where the operator binds less tightly
less_tight : (rank most : ℕ) (a : Label) → (if nat_le rank most then a else BracketLabel a) ≡ (if nat_lt most rank then BracketLabel a else a)
less_tight rank most a = go (nat_le rank most) (nat_lt most rank) (opposite rank most)
  where
    opposite : (rank most : ℕ) → (nat_le rank most ≡ true) × (nat_lt most rank ≡ false) ⊎ (nat_le rank most ≡ false) × (nat_lt most rank ≡ true)
    opposite rank most = elim (cases_lt most rank) [ inl l ↦ inr (grind (arith, nat_tests, l), grind (arith, nat_tests, l)) | inr l ↦ inl (grind (arith, nat_tests, l), grind (arith, nat_tests, l)) ]

    go : (s t : Bool) → (s ≡ true) × (t ≡ false) ⊎ (s ≡ false) × (t ≡ true) → (if s then a else BracketLabel a) ≡ (if t then BracketLabel a else a)
    go s t (inl (e, f)) = (λ i. if e i then a else BracketLabel a) ∙ (λ i. if sym f i then BracketLabel a else a)
    go s t (inr (e, f)) = (λ i. if e i then a else BracketLabel a) ∙ (λ i. if sym f i then BracketLabel a else a)

three_text : (xs ys : List Sign) (s : Sign) (a b : List ℕ) → flat_map sign_text xs ≡ a → flat_map sign_text ys ≡ b → flat_map sign_text (xs ++ s ∷ ys) ≡ a ++ sign_text s ++ b
three_text xs ys s a b e f = flat_map-append sign_text xs (s ∷ ys) ∙ (λ i. e i ++ (sign_text s ++ f i)) ∙ sym (append_assoc a (sign_text s) b)

-- what has no operator between operands needs no brackets
zero_low : (most : ℕ) → nat_le 0 most ≡ true
zero_low most = let l : 0 ≤ most = omega arith in grind (arith, nat_tests, l)

alone : (most : ℕ) (a : Label) → label_rank a ≡ 0 → a ≡ tight most a
alone most a e = sym (ap (λ r. if nat_le r most then a else BracketLabel a) e ∙ ap (λ t. if t then a else BracketLabel a) (zero_low most))

-- the signs of a guard are its label
pub signs_text : (names : List Name) (most : ℕ) (g : Guard) → flat_map sign_text (signs_of names most g) ≡ written_label (tight most (guard_label names g))
signs_text names most (spec.Constant b) = append-nil (written_label (ConstantLabel b)) ∙ ap written_label (alone most (ConstantLabel b) refl)
signs_text names most (spec.Named n) =
    append-nil (written_label (NumberLabel (place_of same_name n names))) ∙ ap written_label (alone most (NumberLabel (place_of same_name n names)) refl)
signs_text names most (spec.Not g) = ap (λ t. 33 ∷ t) (signs_text names 0 g) ∙ ap written_label (alone most (guard_label names (spec.Not g)) refl)
signs_text names most (spec.And g h) =
    bracketed_text (nat_lt most 1) (signs_of names 1 g ++ And ∷ signs_of names 0 h) (guard_label names (spec.And g h))
    (three_text (signs_of names 1 g) (signs_of names 0 h) And _ _ (signs_text names 1 g) (signs_text names 0 h))
    ∙ ap written_label (sym (less_tight 1 most (guard_label names (spec.And g h))))
signs_text names most (spec.Or g h) =
    bracketed_text (nat_lt most 2) (signs_of names 2 g ++ Or ∷ signs_of names 1 h) (guard_label names (spec.Or g h))
    (three_text (signs_of names 2 g) (signs_of names 1 h) Or _ _ (signs_text names 2 g ∙ ap written_label (widest (guard_label names g))) (signs_text names 1 h))
    ∙ ap written_label (sym (less_tight 2 most (guard_label names (spec.Or g h))))
  where
    widest : (a : Label) → tight 2 a ≡ a
    widest a = ap (λ t. if t then a else BracketLabel a) (low a)
      where
        low : (a : Label) → nat_le (label_rank a) 2 ≡ true
        low (ConstantLabel b) = refl
        low _ = refl

-- ---- tasks

module _ (names : List Name) where
  record Parts (ts us : List code.Task) (steps : List GuardStep) (signs : List Sign) : Type 0 where
    before : List GuardStep
    behind : List GuardStep
    first : List Sign
    last : List Sign
    left : Stands names ts before first
    right : Stands names us behind last
    steps_are : steps ≡ before ++ behind
    signs_are : signs ≡ first ++ last

  stands_split : (ts us : List code.Task) (steps : List GuardStep) (signs : List Sign) → Stands names (ts ++ us) steps signs → Parts ts us steps signs
  stands_split [] us steps signs s = record { before = []; behind = steps; first = []; last = signs; left = (refl, refl); right = s; steps_are = refl; signs_are = refl }
  stands_split (task.Sign x ∷ ts) us steps signs (more, e, s) =
      let p = stands_split ts us steps more s in
      record {
        before = p.before;
        behind = p.behind;
        first = x ∷ p.first;
        last = p.last;
        left = (p.first, refl, p.left);
        right = p.right;
        steps_are = p.steps_are;
        signs_are = e ∙ ap (λ xs. x ∷ xs) p.signs_are;
      }
  stands_split (task.Operand most ∷ ts) us steps signs (g, rest, more, e, f, s) =
      let p = stands_split ts us rest more s in
      record {
        before = steps_of names g ++ p.before;
        behind = p.behind;
        first = signs_of names most g ++ p.first;
        last = p.last;
        left = (g, p.before, p.first, refl, refl, p.left);
        right = p.right;
        steps_are = e ∙ ap (λ xs. steps_of names g ++ xs) p.steps_are ∙ sym (append_assoc (steps_of names g) p.before p.behind);
        signs_are = f ∙ ap (λ xs. signs_of names most g ++ xs) p.signs_are ∙ sym (append_assoc (signs_of names most g) p.first p.last);
      }

  stands_join : (ts us : List code.Task) (before behind : List GuardStep) (first last : List Sign) → Stands names ts before first → Stands names us behind last
      → Stands names (ts ++ us) (before ++ behind) (first ++ last)
  stands_join [] us before behind first last (e, f) s = subst (λ xs. Stands names us xs (first ++ last)) (λ i. sym e i ++ behind) (subst (λ xs. Stands names us behind xs) (λ i. sym f i ++ last) s)
  stands_join (task.Sign x ∷ ts) us before behind first last (more, e, s) t =
      (more ++ last, ap (λ xs. xs ++ last) e, stands_join ts us before behind more last s t)
  stands_join (task.Operand most ∷ ts) us before behind first last (g, rest, more, e, f, s) t = (
    g,
    rest ++ behind,
    more ++ last,
    ap (λ xs. xs ++ behind) e ∙ append_assoc (steps_of names g) rest behind,
    ap (λ xs. xs ++ last) f ∙ append_assoc (signs_of names most g) more last,
    stands_join ts us rest behind more last s t,
  )

  -- the last step of a guard, and what the tasks for it stand for
  record Unfolds (most : ℕ) (g : Guard) : Type 0 where
    front : List GuardStep
    last : GuardStep
    steps_are : steps_of names g ≡ front ++ last ∷ []
    stands : Stands names (expansion last most) front (signs_of names most g)

  one_operand : (most : ℕ) (h : Guard) → Stands names (task.Operand most ∷ []) (steps_of names h) (signs_of names most h)
  one_operand most h = (h, [], [], sym (append-nil (steps_of names h)), sym (append-nil (signs_of names most h)), (refl, refl))

  binary : (b : Bool) (left right : ℕ) (s : Sign) (g h : Guard)
      → Stands names (between b left s right) (steps_of names g ++ steps_of names h) (in_brackets b (signs_of names left g ++ s ∷ signs_of names right h))
  binary false left right s g h = (g, steps_of names h, s ∷ signs_of names right h, refl, refl, (signs_of names right h, refl, one_operand right h))
  binary true left right s g h = (
    (signs_of names left g ++ s ∷ signs_of names right h) ++ Close ∷ [],
    refl,
    (
      g,
      steps_of names h,
      s ∷ (signs_of names right h ++ Close ∷ []),
      refl,
      append_assoc (signs_of names left g) (s ∷ signs_of names right h) (Close ∷ []),
      (signs_of names right h ++ Close ∷ [], refl, (h, [], Close ∷ [], sym (append-nil (steps_of names h)), refl, ([], refl, (refl, refl)))),
    ),
  )

  unfolds : (most : ℕ) (g : Guard) → Unfolds most g
  unfolds most (spec.Constant b) = record { front = []; last = step.Constant b; steps_are = refl; stands = ([], refl, (refl, refl)) }
  unfolds most (spec.Named n) = record { front = []; last = step.Name (place_of same_name n names); steps_are = refl; stands = ([], refl, (refl, refl)) }
  unfolds most (spec.Not g) = record { front = steps_of names g; last = step.Not; steps_are = refl; stands = (signs_of names 0 g, refl, one_operand 0 g) }
  unfolds most (spec.And g h) = record { front = steps_of names g ++ steps_of names h; last = step.And; steps_are = refl; stands = binary (nat_lt most 1) 1 0 And g h }
  unfolds most (spec.Or g h) = record { front = steps_of names g ++ steps_of names h; last = step.Or; steps_are = refl; stands = binary (nat_lt most 2) 2 1 Or g h }

no_last : {K : Type 0} (front : List K) (x : K) → [] ≡ front ++ x ∷ [] → ⊥
no_last [] x e = cc
no_last (y ∷ ys) x e = cc

taken_none : {K : Type 0} (xs : List K) (n : ℕ) → n ≤ length xs → take n xs ≡ [] → n ≡ 0
taken_none xs zero l e = refl
taken_none [] (suc n) l e = absurd (omega (arith, l))
taken_none (x ∷ xs) (suc n) l e = cc

first_same : {K : Type 0} (x y : K) (xs ys : List K) → x ∷ xs ≡ y ∷ ys → x ≡ y
first_same x y xs ys e = ap (λ zs. slice_index_or zs 0 x) e

rest_same : {K : Type 0} (x y : K) (xs ys : List K) → x ∷ xs ≡ y ∷ ys → xs ≡ ys
rest_same x y xs ys e = ap (drop 1) e

-- the last one of those that are taken
take_last : {K : Type 0} (xs : List K) (at : ℕ) (front : List K) (x d : K) → at ≤ length xs → take at xs ≡ front ++ x ∷ [] → (0 < at) × (take (at - 1) xs ≡ front) × (slice_index_or xs (at - 1) d ≡ x)
take_last xs zero front x d l e = absurd (no_last front x e)
take_last [] (suc n) front x d l e = absurd (omega (arith, l))
take_last (y ∷ ys) (suc n) [] x d l e =
    let none : n ≡ 0 = taken_none ys n (omega (arith, l)) (rest_same y x (take n ys) [] e) in
    let k : suc n - 1 ≡ 0 = omega (arith, none) in
    (omega arith, ap (λ m. take m (y ∷ ys)) k, ap (λ m. slice_index_or (y ∷ ys) m d) k ∙ first_same y x (take n ys) [] e)
take_last (y ∷ ys) (suc n) (z ∷ front) x d l e =
    let (p, q, r) = take_last ys n front x d (omega (arith, l)) (rest_same y z (take n ys) (front ++ x ∷ []) e) in
    let k : suc n - 1 ≡ suc (n - 1) = omega (arith, p) in (
      omega arith,
      ap (λ m. take m (y ∷ ys)) k ∙ (λ i. first_same y z (take n ys) (front ++ x ∷ []) e i ∷ q i),
      ap (λ m. slice_index_or (y ∷ ys) m d) k ∙ r,
    )

-- the first task stands for the whole guard
pub tasks_begin : (names : List Name) (g : Guard) (steps : List GuardStep) (tasks : List code.Task) (signs : List Sign) → steps ≡ steps_of names g → tasks ≡ task.Operand 2 ∷ [] → signs ≡ []
    → StandsFor names g tasks (take (length steps) steps) signs
tasks_begin names g steps tasks signs e f n =
    subst (λ ts. StandsFor names g ts (take (length steps) steps) signs) (sym f) (
    subst (λ xs. StandsFor names g (task.Operand 2 ∷ []) (take (length steps) steps) xs) (sym n)
    (signs_of names 2 g, subst (λ xs. Stands names (task.Operand 2 ∷ []) xs (signs_of names 2 g)) (sym e ∙ sym (take_all steps)) (one_operand names 2 g), sym (append-nil (signs_of names 2 g))))
  where
    take_all : {K : Type 0} (xs : List K) → take (length xs) xs ≡ xs
    take_all [] = refl
    take_all (x ∷ xs) = ap (λ ys. x ∷ ys) (take_all xs)

-- a sign is written
pub sign_written : (names : List Name) (g : Guard) (tasks rest : List code.Task) (steps : List GuardStep) (signs more : List Sign) (s : Sign) → tasks ≡ rest ++ task.Sign s ∷ [] → more ≡ signs ++ s ∷ []
    → StandsFor names g tasks steps signs → StandsFor names g rest steps more
sign_written names g tasks rest steps signs more s e f (xs, h, q) =
    let p = stands_split names rest (task.Sign s ∷ []) steps xs (subst (λ ts. Stands names ts steps xs) e h) in
    let steps_are : p.before ≡ steps = sym (append-nil p.before) ∙ ap (λ ys. p.before ++ ys) (sym p.right.2.0) ∙ sym p.steps_are in
    let last_is : p.last ≡ s ∷ [] = p.right.1 ∙ ap (λ ys. s ∷ ys) p.right.2.1 in (
      p.first,
      subst (λ ys. Stands names rest ys p.first) steps_are p.left,
      q ∙ ap (λ ys. ys ++ reverse signs) (p.signs_are ∙ ap (λ ys. p.first ++ ys) last_is) ∙ append_assoc p.first (s ∷ []) (reverse signs)
          ∙ ap (λ ys. p.first ++ ys) (sym (reverse-append signs (s ∷ [])) ∙ ap reverse (sym f)),
    )

-- an operand is unfolded
pub operand_unfolded : (names : List Name) (g : Guard) (tasks rest new : List code.Task) (steps : List GuardStep) (at most : ℕ) (signs : List Sign) (d : GuardStep) → at ≤ length steps → tasks ≡ rest ++ task.Operand most ∷ []
    → new ≡ rest ++ expansion (slice_index_or steps (at - 1) d) most → StandsFor names g tasks (take at steps) signs → StandsFor names g new (take (at - 1) steps) signs
operand_unfolded names g tasks rest new steps at most signs d l e f (xs, h, q) =
    let p = stands_split names rest (task.Operand most ∷ []) (take at steps) xs (subst (λ ts. Stands names ts (take at steps) xs) e h) in
    let k = p.right.0 in
    let u = unfolds names most k in
    let behind_is : p.behind ≡ u.front ++ u.last ∷ [] = p.right.3 ∙ ap (λ ys. steps_of names k ++ ys) p.right.5.0 ∙ append-nil (steps_of names k) ∙ u.steps_are in
    let last_is : p.last ≡ signs_of names most k = p.right.4 ∙ ap (λ ys. signs_of names most k ++ ys) p.right.5.1 ∙ append-nil (signs_of names most k) in
    let taken : take at steps ≡ (p.before ++ u.front) ++ u.last ∷ [] = p.steps_are ∙ ap (λ ys. p.before ++ ys) behind_is ∙ sym (append_assoc p.before u.front (u.last ∷ [])) in
    let (positive, fewer, step_is) = take_last steps at (p.before ++ u.front) u.last d l taken in
    let joined = stands_join names rest (expansion u.last most) p.before u.front p.first (signs_of names most k) p.left u.stands in
    let signs_are : p.first ++ signs_of names most k ≡ xs = ap (λ ys. p.first ++ ys) (sym last_is) ∙ sym p.signs_are in (
      xs,
      subst (λ ts. Stands names ts (take (at - 1) steps) xs) (sym (f ∙ ap (λ s. rest ++ expansion s most) step_is))
          (subst (λ ys. Stands names (rest ++ expansion u.last most) ys xs) (sym fewer) (subst (λ ys. Stands names (rest ++ expansion u.last most) (p.before ++ u.front) ys) signs_are joined)),
      q,
    )

-- where an operand is to come, steps are left
pub some_left : (names : List Name) (g : Guard) (tasks rest : List code.Task) (steps : List GuardStep) (at most : ℕ) (signs : List Sign) → tasks ≡ rest ++ task.Operand most ∷ [] → at ≡ 0
    → StandsFor names g tasks (take at steps) signs → ⊥
some_left names g tasks rest steps at most signs e z (xs, h, q) =
    let p = stands_split names rest (task.Operand most ∷ []) (take at steps) xs (subst (λ ts. Stands names ts (take at steps) xs) e h) in
    let k = p.right.0 in
    let u = unfolds names most k in
    let behind_is : p.behind ≡ u.front ++ u.last ∷ [] = p.right.3 ∙ ap (λ ys. steps_of names k ++ ys) p.right.5.0 ∙ append-nil (steps_of names k) ∙ u.steps_are in
    let taken : take at steps ≡ (p.before ++ u.front) ++ u.last ∷ [] = p.steps_are ∙ ap (λ ys. p.before ++ ys) behind_is ∙ sym (append_assoc p.before u.front (u.last ∷ [])) in
    no_last (p.before ++ u.front) u.last (ap (λ n. take n steps) (sym z) ∙ taken)

-- the label of a whole guard
pub label_written : (names : List Name) (g : Guard) (signs : List Sign) (old new : List ℕ) → reverse signs ≡ signs_of names 2 g → new ≡ old ++ flat_map sign_text (reverse signs) → new ≡ old ++ guard_text names g
label_written names g signs old new e f = f ∙ ap (λ t. old ++ t) (ap (flat_map sign_text) e ∙ signs_text names 2 g ∙ ap written_label (widest (guard_label names g)))
  where
    widest : (a : Label) → tight 2 a ≡ a
    widest (ConstantLabel b) = refl
    widest _ = refl
