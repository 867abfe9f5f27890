-- Tokens of a label that are taken without a fault are those of a label.
use Rattle.std.proofs.Common.{◌≡◌, ℕ, zero, suc, true, List, [], ◌∷◌, ◌++◌, refl, sym, ◌∙◌, ap, subst, append_assoc, Option, Some, None}
use Rattle.std.specs.Prelude.{nat_le, IsTrue, unwrap_or}
use Rattle.std.proofs.lemmas.Bool.{and_from}
use Rattle.ltl_spec.specs.Hoa.HoaToken.{HoaToken, OpenBracket, NotSign, AndSign, OrSign}
use Rattle.ltl_spec.specs.Hoa.HoaLabel.{Label, ConstantLabel, AndLabel, OrLabel, label_tokens, label_rank, is_grouped, has_names_below}
use Rattle.ltl_spec.specs.Hoa.HoaPlace.{LabelPart, LabelParts, negated, joined, with_operand, whole}
use Rattle.ltl_spec.proofs.Hoa.HoaLabelLaws.{part}

module _ (names : ℕ) where
  abbrev pub IsFine : Label → Type 0
  IsFine a = IsTrue (is_grouped a) × IsTrue (has_names_below names a)

  abbrev pub FineSum : Option Label → Type 0
  FineSum None = Unit {0}
  FineSum (Some a) = IsFine a

  abbrev pub FineProduct : Option Label → Type 0
  FineProduct None = Unit {0}
  FineProduct (Some a) = IsFine a × IsTrue (nat_le (label_rank a) 1)

  -- the part before an operand
  abbrev pub FinePart : LabelPart → Type 0
  FinePart p = FineSum p.sum × FineProduct p.product

  -- the part behind an operand
  abbrev pub FineWhole : LabelPart → Type 0
  FineWhole p = (q : Label) × (p.product ≡ Some q) × (p.negations ≡ 0) × FineSum p.sum × IsFine q × IsTrue (nat_le (label_rank q) 1)

abbrev pub sum_text : Option Label → List HoaToken
sum_text None = []
sum_text (Some a) = label_tokens a ++ OrSign ∷ []

abbrev pub product_text : Option Label → List HoaToken
product_text None = []
product_text (Some a) = label_tokens a ++ AndSign ∷ []

abbrev pub nots : ℕ → List HoaToken
nots zero = []
nots (suc n) = NotSign ∷ nots n

abbrev pub part_text : LabelPart → List HoaToken
part_text p = sum_text p.sum ++ (product_text p.product ++ nots p.negations)

abbrev pub around_text : List LabelPart → List HoaToken
around_text [] = []
around_text (p ∷ ps) = around_text ps ++ (part_text p ++ OpenBracket ∷ [])

-- what was written where an operand must come, and behind one
abbrev pub written_at : LabelParts → List HoaToken
written_at p = around_text p.around ++ part_text p.inner

abbrev pub written_after : LabelParts → List HoaToken
written_after p = around_text p.around ++ label_tokens (whole p.inner)

not_tokens : (n : ℕ) (a : Label) → label_tokens (negated n a) ≡ nots n ++ label_tokens a
not_tokens zero a = refl
not_tokens (suc n) a = λ i. NotSign ∷ not_tokens n a i

negated_fine : (names n : ℕ) (a : Label) → IsFine names a → label_rank a ≡ 0 → IsFine names (negated n a) × (label_rank (negated n a) ≡ 0)
negated_fine names zero a f r = (f, r)
negated_fine names (suc n) a f r =
    let inner = negated_fine names n a f r in
    ((and_from (nat_le (label_rank (negated n a)) 0) _ (subst (λ k. IsTrue (nat_le k 0)) (sym inner.1) refl) inner.0.0, inner.0.1), refl)

split : (xs : List HoaToken) (t : HoaToken) (ys zs : List HoaToken) → xs ++ t ∷ (ys ++ zs) ≡ xs ++ t ∷ [] ++ ys ++ zs
split xs t ys zs = sym (append_assoc (xs ++ t ∷ []) ys zs ∙ append_assoc xs (t ∷ []) (ys ++ zs))

-- an operand joined to a part
pub operand_whole : (p : LabelPart) (a : Label) → label_tokens (whole (with_operand p a)) ≡ part_text p ++ label_tokens a
operand_whole p a = go p.sum p.product p.negations
  where
    go : (s q : Option Label) (n : ℕ) → label_tokens (whole (with_operand (part s q n) a)) ≡ part_text (part s q n) ++ label_tokens a
    go None None n = not_tokens n a
    go (Some s) None n = ap (λ t. label_tokens s ++ OrSign ∷ t) (not_tokens n a) ∙ split (label_tokens s) OrSign (nots n) (label_tokens a)
    go None (Some q) n = ap (λ t. label_tokens q ++ AndSign ∷ t) (not_tokens n a) ∙ split (label_tokens q) AndSign (nots n) (label_tokens a)
    go (Some s) (Some q) n =
        ap (λ t. label_tokens s ++ OrSign ∷ (label_tokens q ++ AndSign ∷ t)) (not_tokens n a)
        ∙ ap (λ t. label_tokens s ++ OrSign ∷ t) (split (label_tokens q) AndSign (nots n) (label_tokens a))
        ∙ split (label_tokens s) OrSign (label_tokens q ++ AndSign ∷ [] ++ nots n) (label_tokens a)

pub operand_fine : (names : ℕ) (p : LabelPart) (a : Label) → FinePart names p → IsFine names a → label_rank a ≡ 0 → FineWhole names (with_operand p a)
operand_fine names p a f g r =
    let n = negated_fine names p.negations a g r in
    let q = go (negated p.negations a) n.0 n.1 p.product f.1 in
    (q.0, q.1, refl, f.0, q.2, q.3)
  where
    go : (b : Label) → IsFine names b → label_rank b ≡ 0 → (o : Option Label) → FineProduct names o → (q : Label) × (Some (joined AndLabel o b) ≡ Some q) × IsFine names q × IsTrue (nat_le (label_rank q) 1)
    go b h z None f = (b, refl, h, subst (λ k. IsTrue (nat_le k 1)) (sym z) refl)
    go b h z (Some q) f = (
      AndLabel q b,
      refl,
      (and_from _ _ (and_from _ _ (and_from _ _ f.1 (subst (λ k. IsTrue (nat_le k 0)) (sym z) refl)) f.0.0) h.0, and_from _ _ f.0.1 h.1),
      refl,
    )

pub whole_fine : (names : ℕ) (p : LabelPart) → FineWhole names p → IsFine names (whole p)
whole_fine names p f =
    subst (λ o. IsFine names (joined OrLabel p.sum (unwrap_or o (ConstantLabel true)))) (sym f.1) (go p.sum f.3)
  where
    go : (o : Option Label) → FineSum names o → IsFine names (joined OrLabel o f.0)
    go None g = f.4
    go (Some s) g = (and_from _ _ (and_from _ _ f.5 g.0) f.4.0, and_from _ _ g.1 f.4.1)
