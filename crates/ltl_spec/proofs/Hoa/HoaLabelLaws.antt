-- A label's tokens are taken one by one without a fault.
use Rattle.std.proofs.Common.{◌≡◌, ℕ, zero, suc, ◌+◌, ◌≤◌, true, false, cond, List, [], ◌∷◌, ◌++◌, length, refl, ◌∙◌, ap, arith, Option, Some, None}
use Rattle.std.specs.Prelude.{nat_le, IsTrue, fold, option_map, Ok, Err}
use Rattle.std.proofs.lemmas.List.Sums.{fold-append}
use Rattle.ltl_spec.specs.Semantics.Word.{Name}
use Rattle.ltl_spec.specs.Tools.Limits.{Limits}
use Rattle.ltl_spec.specs.Hoa.HoaToken.{HoaToken, CloseBracket, AndSign, OrSign}
use Rattle.ltl_spec.specs.Hoa.HoaLabel.{Label, ConstantLabel, NumberLabel, NotLabel, BracketLabel, AndLabel, OrLabel, label_tokens, label_rank, is_grouped, has_names_below}
use Rattle.ltl_spec.specs.Hoa.HoaReading.{AcceptanceForm}
use Rattle.ltl_spec.specs.Hoa.HoaPlace.{HoaHeader, LabelPart, LabelParts, BodyPlace, AtOperand, AfterOperand, InBody, negated, joined, with_operand, whole, empty_part}
use Rattle.ltl_spec.specs.Hoa.HoaStep.{Step, step, if_below}
use Rattle.ltl_spec.specs.Hoa.HoaFaultKind.{NumberOutOfRange}
use Rattle.ltl_spec.specs.Hoa.HoaMachine.{Came, came_at}
use Rattle.ltl_spec.proofs.Collections.CaseLaws.{left_true, right_true}

-- where the tokens lead to, and what came
abbrev pub Told : Type 0
Told = Step × Came

abbrev pub came_on : Step → HoaToken → Came → Came
came_on (Ok b) t g = came_at b.place b t g
came_on (Err kind) t g = g

module _ (l : Limits) (form : AcceptanceForm) where
  -- one token more, unless there was a fault
  abbrev pub token_step : Step → HoaToken → Step
  token_step (Err kind) t = Err kind
  token_step (Ok b) t = step l form b.place b t

  abbrev pub run : Step → List HoaToken → Step
  run o ts = fold token_step o ts

  abbrev pub tell_one : Told → HoaToken → Told
  tell_one p t = (token_step p.0 t, came_on p.0 t p.1)

  abbrev pub tell : Told → List HoaToken → Told
  tell p ts = fold tell_one p ts

  pub tell-append : (p : Told) (xs ys : List HoaToken) → tell p (xs ++ ys) ≡ tell (tell p xs) ys
  tell-append p xs ys = fold-append tell_one p xs ys

  -- one part behind another
  pub in_turn : (p : Told) (xs ys : List HoaToken) (q r : Told) → tell p xs ≡ q → tell q ys ≡ r → tell p (xs ++ ys) ≡ r
  in_turn p xs ys q r e f = tell-append p xs ys ∙ ap (λ o. tell o ys) e ∙ f

-- the part with this operand, joined to what stands before it
abbrev pub parts : LabelPart → List LabelPart → LabelParts
parts inner around = record { inner = inner; around = around }

abbrev pub part : Option Label → Option Label → ℕ → LabelPart
part sum product negations = record { sum = sum; product = product; negations = negations }

negated_suc : (n : ℕ) (a : Label) → negated (n + 1) a ≡ negated n (NotLabel a)
negated_suc n a = ap (λ k. negated k a) (succ n) ∙ go n
  where
    succ : (k : ℕ) → k + 1 ≡ suc k
    succ k = omega arith

    go : (k : ℕ) → negated (suc k) a ≡ negated k (NotLabel a)
    go zero = refl
    go (suc k) = ap NotLabel (go k)

le_of : (x y : ℕ) → IsTrue (nat_le x y) → x ≤ y
le_of x y e = grind arith

zero_of : (x : ℕ) → IsTrue (nat_le x 0) → x ≡ 0
zero_of x e = let d : x ≤ 0 = le_of x 0 e in omega (arith, d)

one_isnt_zero : ◌≡◌ {A = ℕ} 1 0 → ⊥
one_isnt_zero e = omega (arith, e)

two_isnt_zero : ◌≡◌ {A = ℕ} 2 0 → ⊥
two_isnt_zero e = omega (arith, e)

two_isnt_one : 2 ≤ 1 → ⊥
two_isnt_one e = omega (arith, e)

module _ (l : Limits) (form : AcceptanceForm) (h : HoaHeader) (names : List Name) (numbers : List ℕ) (edges : ℕ) (came : Came) (listing : h.names ≡ Some names) where
  -- nothing comes in a label
  abbrev pub in_label : BodyPlace → Told
  in_label place = (Ok (record { place = InBody place; header = h; numbers = numbers; edges = edges }), came)

  -- an operand of its own
  abbrev AsOperand : Label → Type 0
  AsOperand a = (p : LabelPart) (around : List LabelPart)
      → tell l form (in_label (AtOperand (parts p around))) (label_tokens a) ≡ in_label (AfterOperand (parts (with_operand p a) around))

  -- what `&` joins, where nothing stands before it
  abbrev AsProduct : Label → Type 0
  AsProduct a = (sum : Option Label) (around : List LabelPart)
      → tell l form (in_label (AtOperand (parts (part sum None 0) around))) (label_tokens a) ≡ in_label (AfterOperand (parts (part sum (Some a) 0) around))

  -- a label of its own
  abbrev pub AsWhole : Label → Type 0
  AsWhole a = (around : List LabelPart) → (q : LabelPart) × (whole q ≡ a)
      × (tell l form (in_label (AtOperand (parts empty_part around))) (label_tokens a) ≡ in_label (AfterOperand (parts q around)))

  pub record Taken (a : Label) : Type 0 where
    pub as_operand : label_rank a ≡ 0 → AsOperand a
    pub as_product : label_rank a ≤ 1 → AsProduct a
    pub as_whole : AsWhole a

  product_whole : (a : Label) → AsProduct a → AsWhole a
  product_whole a f around = (part None (Some a) 0, refl, f None around)

  operand_taken : (a : Label) → AsOperand a → Taken a
  operand_taken a f = record {
    as_operand = λ e. f;
    as_product = λ e sum around. f (part sum None 0) around;
    as_whole = product_whole a (λ sum around. f (part sum None 0) around);
  }

  and_product : (a c : Label) → AsProduct a → AsOperand c → AsProduct (AndLabel a c)
  and_product a c f f' sum around =
      tell-append l form (in_label (AtOperand (parts (part sum None 0) around))) (label_tokens a) (AndSign ∷ label_tokens c)
      ∙ ap (λ o. tell l form o (AndSign ∷ label_tokens c)) (f sum around)
      ∙ f' (part sum (Some a) 0) around

  or_whole : (a c : Label) → AsWhole a → AsProduct c → AsWhole (OrLabel a c)
  or_whole a c f f' around =
      let q = f around in (
        part (Some (whole q.0)) (Some c) 0,
        ap (λ x. OrLabel x c) q.1,
        tell-append l form (in_label (AtOperand (parts empty_part around))) (label_tokens a) (OrSign ∷ label_tokens c)
            ∙ ap (λ o. tell l form o (OrSign ∷ label_tokens c)) q.2
            ∙ f' (Some (whole q.0)) around,
      )

  pub label_taken : (a : Label) → IsTrue (is_grouped a) → IsTrue (has_names_below (length names) a) → Taken a
  label_taken (ConstantLabel true) g b = operand_taken _ (λ p around. refl)
  label_taken (ConstantLabel false) g b = operand_taken _ (λ p around. refl)
  label_taken (NumberLabel i) g b = operand_taken _ (λ p around.
      ap (λ o. (if_below i (option_map length o) (in_label (AfterOperand (parts (with_operand p (NumberLabel i)) around))).0, came)) listing
      ∙ ap (λ t. (cond t (in_label (AfterOperand (parts (with_operand p (NumberLabel i)) around))).0 (Err NumberOutOfRange), came)) b)
  label_taken (NotLabel a) g b =
      let inner = label_taken a (right_true _ _ g) b in
      operand_taken _ (λ p around.
      inner.as_operand (zero_of _ (left_true _ _ g)) (part p.sum p.product (p.negations + 1)) around
      ∙ ap (λ x. in_label (AfterOperand (parts (part p.sum (Some (joined AndLabel p.product x)) 0) around))) (negated_suc p.negations a))
  label_taken (BracketLabel a) g b =
      let inner = label_taken a g b in
      operand_taken _ (λ p around.
      let q = inner.as_whole (p ∷ around) in
      tell-append l form (in_label (AtOperand (parts empty_part (p ∷ around)))) (label_tokens a) (CloseBracket ∷ [])
      ∙ ap (λ o. tell l form o (CloseBracket ∷ [])) q.2
      ∙ ap (λ x. in_label (AfterOperand (parts (with_operand p (BracketLabel x)) around))) q.1)
  label_taken (AndLabel a c) g b =
      let abc = left_true _ _ g in
      let ranks = left_true _ _ abc in
      let left = label_taken a (right_true _ _ abc) (left_true _ _ b) in
      let right = label_taken c (right_true _ _ g) (right_true (has_names_below (length names) a) _ b) in
      let product = and_product a c (left.as_product (le_of _ _ (left_true _ _ ranks))) (right.as_operand (zero_of _ (right_true (nat_le (label_rank a) 1) _ ranks))) in
      record { as_operand = λ e. absurd (one_isnt_zero e); as_product = λ e. product; as_whole = product_whole _ product }
  label_taken (OrLabel a c) g b =
      let ra = left_true _ _ g in
      let left = label_taken a (right_true _ _ ra) (left_true _ _ b) in
      let right = label_taken c (right_true _ _ g) (right_true (has_names_below (length names) a) _ b) in
      record {
        as_operand = λ e. absurd (two_isnt_zero e);
        as_product = λ e. absurd (two_isnt_one e);
        as_whole = or_whole a c left.as_whole (right.as_product (le_of _ _ (left_true _ _ ra)));
      }
