-- A timeline by what its lines are made of.
use Rattle.std.proofs.Common.{◌≡◌, ◌∙◌, ap, ap₂, sym, refl, subst, ℕ, zero, suc, ◌+◌, ◌<◌, arith, Bool, true, false, List, [], ◌∷◌, ◌++◌, length, length-take-le, map, take, Bor, ◌/◌}
use Rattle.std.specs.Prelude.{◌||◌, codes, if◌then◌else◌, IsTrue, max, slice_get, slice_index_or, Some, Result, Ok, Err, MatchResult, OnOk, OnErr}
use Rattle.std.specs.Bool.{Decides}
use Rattle.std.specs.List.{list_any, range_with_len}
use Rattle.ltl_spec.specs.Collections.Sets.{has}
use Rattle.ltl_spec.specs.Formulas.Tokens.{same_name}
use Rattle.ltl_spec.specs.Formulas.Canonical.{binary_text, constant_text, formula_text, unary_text}
use Rattle.ltl_syntax.specs.declared.operators.UnaryOperator.{UnaryOperator}
use Rattle.ltl_syntax.specs.declared.operators.BinaryOperator.{BinaryOperator}
use Rattle.ltl_streams.specs.Streams.{SinkState, Breaks, Takes}
use Rattle.ltl_syntax.proofs.TreeLemmas.{tree_at}
use Rattle.ltl_spec.specs.Semantics.Word.{Name, Lasso, letter_at, name_cmp}
use Rattle.ltl_syntax.specs.FormulaView.{FormulaView, IsFormula, binary_of, tree_in, tree_of, trees, unary_of}
use Rattle.ltl_syntax.specs.declared.operators.Node.{Node}
use Rattle.ltl_syntax.specs.declared.operators.Node.TheVariants.{Constant, Proposition, Unary, Binary}
use Rattle.ltl_word.specs.LassoView.{size}
use Rattle.ltl_word.specs.Rows.{IsRow, bit_of}
use Rattle.ltl_word.specs.SubformulaRows.{AreSubformulaRows}
use Rattle.ltl_pictures.specs.Timeline.{IsTruth, column, greatest, line, is_left_out, is_proposition, mark, name_at, name_width, padded, proposition_line, proposition_lines, stands_before, subformula_line, subformula_text, subformula_width, texts_from, timeline, with_names_of, word_timeline}
use Rattle.ltl_pictures.specs.TimelineView.{AreNameRows, AreTexts, FailsToShow, HasTrueMarks, is_repeated}
use Rattle.ltl_pictures.specs.declared.fault.TimelineFault.{TimelineFault}
use Rattle.ltl_pictures.specs.declared.fault.TimelineFault.TheVariants.{CannotWrite}
use Rattle.std.proofs.lemmas.List.{get_or-map, get_or-take, map-append, take-map}
use Rattle.ltl_spec.proofs.Collections.MemberLaws.{map_length}
use Rattle.ltl_pictures.proofs.LineLaws.{texts_same}
use Rattle.ltl_pictures.proofs.NameLaws.{each_pushed}

-- ---- marks

decided_same : (b c : Bool) → Decides b (IsTrue c) → b ≡ c
decided_same true c d = sym (d.0 refl)
decided_same false true d = d.1 refl
decided_same false false d = refl

-- the marks of a row are those of the proposition
pub proposition_marks : (width : ℕ) (w : Lasso) (name : Name) (bits : List ℕ) → IsRow (size w) (λ i. IsTrue (has name_cmp name (letter_at w i))) bits
    → proposition_line width w name ≡ line width w name (λ i. mark (bit_of bits i))
proposition_marks width w name bits h =
    ap (λ t. padded width name ++ t ++ codes "\n") (texts_same _ _ 0 (size w) (λ i l m.
    ap (λ b. column (length w.stem) i (mark b)) (sym (decided_same (bit_of bits i) (has name_cmp name (letter_at w i)) (h.decides i (omega (arith, m)))))))

pub rows_truth : (f : FormulaView) (w : Lasso) (rows : List (List ℕ)) → AreSubformulaRows f w rows → IsTruth f w (λ k i. bit_of (slice_index_or rows k []) i)
rows_truth f w rows h k i l m = (h.each k (subst (λ n. k < n) (sym h.count) l)).decides i m

-- ---- widths

pub greatest_same : (u v : ℕ → ℕ) (n : ℕ) → ((k : ℕ) → k < n → u k ≡ v k) → greatest u n ≡ greatest v n
greatest_same u v zero h = refl
greatest_same u v (suc n) h = ap₂ max (greatest_same u v n (λ k l. h k (omega (arith, l)))) (h n (omega arith))

pub greatest_more : (u : ℕ → ℕ) (k old new x : ℕ) → old ≡ greatest u k → x ≡ u k → new ≡ max old x → new ≡ greatest u (k + 1)
greatest_more u k old new x e f g = let s : suc k ≡ k + 1 = omega arith in g ∙ ap₂ max e f ∙ ap (greatest u) s

module _ (f : FormulaView) (texts : List (List ℕ)) (count : length texts ≡ length f.nodes) (are : AreTexts f texts) where
  pub texts_width : greatest (λ k. length (slice_index_or texts k [])) (length texts) ≡ subformula_width f
  texts_width = greatest_same _ _ (length texts) (λ k l. ap length (are k l)) ∙ ap (greatest (λ k. length (subformula_text f k))) count

-- ---- the whole

pub word_is : (w : Lasso) (names : List Name) (width : ℕ) → names ≡ with_names_of w [] → width ≡ name_width names → word_timeline w ≡ proposition_lines width w names
word_is w names width e g = ap (λ ns. proposition_lines (name_width ns) w ns) (sym e) ∙ ap (λ n. proposition_lines n w names) (sym g)

pub whole_is : (f : FormulaView) (w : Lasso) (truth : ℕ → ℕ → Bool) (names : List Name) (width first second : ℕ) → names ≡ with_names_of w f.names → first ≡ name_width names → second ≡ subformula_width f → width ≡ max first second
    → timeline f w truth ≡ proposition_lines width w names ++ texts_from (subformula_line f w truth width) 0 (length f.nodes)
whole_is f w truth names width first second e g h m =
    ap (λ ns. proposition_lines (max (name_width ns) (subformula_width f)) w ns ++ texts_from (subformula_line f w truth (max (name_width ns) (subformula_width f))) 0 (length f.nodes)) (sym e)
    ∙ ap (λ n. proposition_lines n w names ++ texts_from (subformula_line f w truth n) 0 (length f.nodes)) (sym (m ∙ ap₂ max g h))

-- with marks that are the truth
module _ (f : FormulaView) (w : Lasso) (rows : List (List ℕ)) (h : AreSubformulaRows f w rows) (P : List ℕ → Type 0) where
  pub shown : P (timeline f w (λ k i. bit_of (slice_index_or rows k []) i)) → HasTrueMarks f w P
  shown p = ((λ k i. bit_of (slice_index_or rows k []) i), rows_truth f w rows h, p)

  pub shown_ok : {T E : Type 0} (r : Result T E) → OnOk r (P (timeline f w (λ k i. bit_of (slice_index_or rows k []) i))) → OnOk r (HasTrueMarks f w P)
  shown_ok (Ok x) p = shown p
  shown_ok (Err e) p = tt

  pub shown_err : {T E : Type 0} (r : Result T E) → OnErr r (P (timeline f w (λ k i. bit_of (slice_index_or rows k []) i))) → OnErr r (HasTrueMarks f w P)
  shown_err (Ok x) p = tt
  shown_err (Err e) p = shown p

-- the end of a timeline by that of its printer
pub shows_end : {T E : Type 0} (r : Result T E) (s : Result T TimelineFault) (o n : SinkState) (IsText : (List ℕ → Type 0) → Type 0) → MatchResult r (λ x. s ≡ Ok x) (λ _. s ≡ Err CannotWrite)
    → OnOk r (IsText (Takes o n)) → OnErr r (IsText (Breaks o n)) → MatchResult s (λ _. IsText (Takes o n)) (FailsToShow o n IsText)
shows_end (Ok x) s o n IsText e p q = rw e p
shows_end (Err y) s o n IsText e p q = rw e q

-- ---- the line of a node

get_is : (nodes : List Node) (k : ℕ) (node : Node) → slice_get nodes k ≡ Some node → slice_index_or nodes k (Constant false) ≡ node
get_is [] k node e = cc
get_is (n ∷ ns) zero node e = cc
get_is (n ∷ ns) (suc k) node e = get_is ns k node e

get_within : (nodes : List Node) (k : ℕ) (node : Node) → slice_get nodes k ≡ Some node → k < length nodes
get_within [] k node e = cc
get_within (n ∷ ns) zero node e = omega arith
get_within (n ∷ ns) (suc k) node e = let l = get_within ns k node e in omega (arith, l)

-- whether one of the texts is x
same_before : (f : FormulaView) (x : List ℕ) (ts : List (List ℕ)) (a : ℕ) → ((j : ℕ) → j < length ts → slice_index_or ts j [] ≡ subformula_text f (a + j))
    → list_any (same_name x) ts ≡ list_any (λ j. same_name x (subformula_text f j)) (range_with_len a (length ts))
same_before f x [] a h = refl
same_before f x (t ∷ ts) a h =
    let here : a + 0 ≡ a = omega arith in
    ap₂ (λ b c. b || c) (ap (same_name x) (h 0 (omega arith) ∙ ap (subformula_text f) here))
    (same_before f x ts (a + 1) (λ j l. let e : a + suc j ≡ a + 1 + j = omega arith in h (suc j) (omega (arith, l)) ∙ ap (subformula_text f) e))

pub repeated_before : (f : FormulaView) (texts : List (List ℕ)) (k : ℕ) → AreTexts f texts → k < length texts → is_repeated texts k ≡ stands_before f k
repeated_before f texts k h l =
    let long : length (take k texts) ≡ k = length-take-le k texts (omega (arith, l)) in
    ap (λ x. list_any (same_name x) (take k texts)) (h k l)
    ∙ same_before f (subformula_text f k) (take k texts) 0 (λ j m. get_or-take k texts j [] (subst (λ n. j < n) long m) ∙ h j (let n = subst (λ n. j < n) long m in omega (arith, n, l)) ∙ (let e : j ≡ 0 + j = omega arith in ap (subformula_text f) e))
    ∙ ap (λ n. list_any (λ j. same_name (subformula_text f k) (subformula_text f j)) (range_with_len 0 n)) long

-- which nodes have no line of their own
module _ (f : FormulaView) (k : ℕ) (node : Node) (found : slice_get f.nodes k ≡ Some node) (b : Bool) (told : b ≡ is_proposition node) where
  first_test : b ≡ is_proposition (slice_index_or f.nodes k (Constant false))
  first_test = told ∙ ap is_proposition (sym (get_is f.nodes k node found))

  pub proposition_out : b ≡ true → true ≡ is_left_out f k
  proposition_out e = ap (λ c. c || stands_before f k) (sym e ∙ first_test)

  pub other_out : b ≡ false → (texts : List (List ℕ)) → AreTexts f texts → k < length texts → (again : Bool) → again ≡ is_repeated texts k → again ≡ is_left_out f k
  other_out e texts h l again said = said ∙ repeated_before f texts k h l ∙ ap (λ c. c || stands_before f k) (sym e ∙ first_test)

module _ (f : FormulaView) (w : Lasso) (truth : ℕ → ℕ → Bool) (width k : ℕ) where
  chosen : (b : Bool) → is_left_out f k ≡ b → subformula_line f w truth width k ≡ (if b then [] else (line width w (subformula_text f k) (λ i. mark (truth k i))))
  chosen b e = ap (λ c. if c then [] else (line width w (subformula_text f k) (λ i. mark (truth k i)))) e

  pub no_line : is_left_out f k ≡ true → subformula_line f w truth width k ≡ []
  no_line e = chosen true e

  pub row_line : is_left_out f k ≡ false → (rows : List (List ℕ)) → ((i : ℕ) → truth k i ≡ bit_of (slice_index_or rows k []) i) → (text row : List ℕ) → text ≡ subformula_text f k → row ≡ slice_index_or rows k []
      → subformula_line f w truth width k ≡ line width w text (λ i. mark (bit_of row i))
  row_line e rows same text row t r =
      chosen false e ∙ ap (λ x. line width w x (λ i. mark (truth k i))) (sym t)
      ∙ ap (λ x. padded width text ++ x ++ codes "\n") (texts_same _ _ 0 (size w) (λ i l m. ap (λ c. column (length w.stem) i (mark c)) (same i ∙ ap (λ x. bit_of x i) (sym r))))

-- ---- what stands at a place

pub there : {X : Type 0} (xs : List X) (i : ℕ) (x d : X) → i < length xs → x ≡ slice_index_or xs i x → x ≡ slice_index_or xs i d
there [] i x d l e = absurd (omega (arith, l))
there (y ∷ ys) zero x d l e = e
there (y ∷ ys) (suc i) x d l e = there ys i x d (omega (arith, l)) e

pub mapped_there : {X : Type 0} (items : X → List ℕ) (ts : List X) (k : ℕ) (x : X) → k < length ts → x ≡ slice_index_or ts k x → slice_index_or (map items ts) k [] ≡ items x
mapped_there items ts k x l e = get_or-map items ts k x [] l ∙ ap items (sym e)

pub text_there : (f : FormulaView) {X : Type 0} (items : X → List ℕ) (ts : List X) (k : ℕ) (x : X) → AreTexts f (map items ts) → k < length ts → x ≡ slice_index_or ts k x → items x ≡ subformula_text f k
text_there f items ts k x h l e = let n = map_length items ts in ap items e ∙ sym (get_or-map items ts k x [] l) ∙ h k (omega (arith, n, l))

any_mapped : {X Y : Type 0} (f : X → Y) (p : Y → Bool) (xs : List X) → list_any (λ x. p (f x)) xs ≡ list_any p (map f xs)
any_mapped f p [] = refl
any_mapped f p (x ∷ xs) = ap (λ b. p (f x) || b) (any_mapped f p xs)

pub repeated_there : {X : Type 0} (items : X → List ℕ) (ts seen : List X) (k : ℕ) (x : X) (text : List ℕ) → seen ≡ ts → k < length ts → x ≡ slice_index_or ts k x → text ≡ items x
    → list_any (λ t. same_name text (items t)) (take k seen) ≡ is_repeated (map items ts) k
repeated_there items ts seen k x text s l e t =
    ap (λ zs. list_any (λ z. same_name text (items z)) (take k zs)) s
    ∙ any_mapped items (same_name text) (take k ts) ∙ ap (list_any (same_name text)) (sym (take-map items k ts))
    ∙ ap (λ y. list_any (same_name y) (take k (map items ts))) (t ∙ sym (mapped_there items ts k x l e))

module _ (w : Lasso) (ns : List (Bor Name)) (rows : List (List ℕ)) (h : AreNameRows w (map (λ n. n.now) ns) rows) (p : ℕ) (l : p < length ns) (row : List ℕ) (e : row ≡ slice_index_or rows p row) where
  within : p < length (map (λ (n : Bor Name). n.now) ns)
  within = let n = map_length (λ (n : Bor Name). n.now) ns in omega (arith, n, l)

  is_row : IsRow (size w) (λ i. IsTrue (has name_cmp (name_at (map (λ n. n.now) ns) p) (letter_at w i))) row
  is_row = let c = h.0 in let m = within in subst (IsRow (size w) (λ i. IsTrue (has name_cmp (name_at (map (λ n. n.now) ns) p) (letter_at w i)))) (sym (there rows p row [] (omega (arith, c, m)) e)) (h.1 p within)

  pub name_row_long : length row ≡ size w / 64 + 1
  name_row_long = is_row.long

  pub name_row_line : (width : ℕ) (o : Bor Name) → o ≡ slice_index_or ns p o → proposition_line width w (name_at (map (λ n. n.now) ns) p) ≡ line width w o.now (λ i. mark (bit_of row i))
  name_row_line width o q =
      proposition_marks width w (name_at (map (λ n. n.now) ns) p) row is_row ∙ ap (λ n. line width w n (λ i. mark (bit_of row i))) (get_or-map (λ (n : Bor Name). n.now) ns p o [] l ∙ ap (λ (n : Bor Name). n.now) (sym q))

-- ---- the text of a node by those of its operands
module _ (f : FormulaView) (node : Node) (text : List ℕ) where
  as_node : (n : Node) → node ≡ n → text ≡ formula_text f.names (tree_of (trees f.nodes) n) → text ≡ formula_text f.names (tree_of (trees f.nodes) node)
  as_node n e t = t ∙ ap (λ m. formula_text f.names (tree_of (trees f.nodes) m)) (sym e)

  pub constant_node : (b : Bool) (bytes : List ℕ) → node ≡ Constant b → bytes ≡ constant_text b → text ≡ bytes → text ≡ formula_text f.names (tree_of (trees f.nodes) node)
  constant_node b bytes e c t = as_node (Constant b) e (t ∙ c)

  pub proposition_node : (p : ℕ) (bytes : List ℕ) → node ≡ Proposition p → bytes ≡ slice_index_or f.names p [] → text ≡ bytes → text ≡ formula_text f.names (tree_of (trees f.nodes) node)
  proposition_node p bytes e c t = as_node (Proposition p) e (t ∙ c)

  pub unary_node : (op : UnaryOperator) (a : ℕ) (operand : List ℕ) → node ≡ Unary op a → operand ≡ subformula_text f a → text ≡ unary_text (unary_of op) ++ operand → text ≡ formula_text f.names (tree_of (trees f.nodes) node)
  unary_node op a operand e c t = as_node (Unary op a) e (t ∙ ap (λ x. unary_text (unary_of op) ++ x) c)

  pub binary_node : (op : BinaryOperator) (a b : ℕ) (left right : List ℕ) → node ≡ Binary op a b → left ≡ subformula_text f a → right ≡ subformula_text f b
      → text ≡ codes "(" ++ left ++ binary_text (binary_of op) ++ right ++ codes ")" → text ≡ formula_text f.names (tree_of (trees f.nodes) node)
  binary_node op a b left right e c d t = as_node (Binary op a b) e (t ∙ ap₂ (λ x y. codes "(" ++ x ++ binary_text (binary_of op) ++ y ++ codes ")") c d)

-- one text more
pub text_more : (f : FormulaView) {X : Type 0} (items : X → List ℕ) (ts new : List X) (x : X) (node : Node) (k : ℕ) → IsFormula f.nodes f.names → AreTexts f (map items ts) → length ts ≡ k → slice_get f.nodes k ≡ Some node
    → items x ≡ formula_text f.names (tree_of (trees f.nodes) node) → new ≡ ts ++ x ∷ [] → AreTexts f (map items new)
text_more f items ts new x node k is are long found own pushed =
    let at = get_is f.nodes k node found in
    let n = map_length items ts in
    let l : k < length f.nodes = get_within f.nodes k node found in
    let tree : tree_in (trees f.nodes) k ≡ tree_of (trees f.nodes) node = tree_at (length f.names) f.nodes is.operands k l ∙ ap (tree_of (trees f.nodes)) at in
    each_pushed (λ j t. t ≡ subformula_text f j) (map items ts) (map items new) (items x) [] (ap (map items) pushed ∙ map-append items ts (x ∷ [])) are
    (own ∙ ap (formula_text f.names) (sym tree) ∙ ap (subformula_text f) (sym (n ∙ long)))
