-- Where links lead, by tables of the nearest `do` and of what comes behind each statement.
use Rattle.std.proofs.Common.{◌≡◌, ◌∙◌, ℕ, zero, suc, ◌+◌, ◌<◌, ◌≤◌, Bool, true, false, List, [], ◌∷◌, ◌++◌, map, length, get_or, slice_index_or, Option, Some, None, IfSome, if◌then◌else◌, refl, sym, ap, subst, arith, inl, inr}
use Rattle.std.specs.Prelude.{option_map, unwrap_or, find, ◌⊎◌}
use Rattle.std.specs.Map.{lookup}
use Rattle.std.proofs.lemmas.List.{get_or_default, get_or_push, length_push}
use Rattle.ltl_spec.specs.Semantics.Word.{Name}
use Rattle.ltl_spec.specs.Formulas.Tokens.{same_name}
use Rattle.ltl_spec.specs.Claims.ClaimProgram.{Link, Go, Jump, Leave, Nothing, Statement, ClaimLabel, Program}
use Rattle.ltl_spec.specs.Claims.ClaimMachine.{no_statement, statement_at}
use Rattle.ltl_spec.specs.Claims.ClaimMeaning.{end, nearest, follow, leads}
use Rattle.ltl_spec.proofs.Collections.ListLaws.{index_append}
use Rattle.ltl_claim.specs.declared.program.Link as code
use Rattle.ltl_claim.specs.declared.program.Link.TheVariants as link
use Rattle.ltl_claim.specs.ProgramView.{StatementView, label_of, link_of, no_statement as no_view, statement_of}
use Rattle.ltl_claim.specs.ResolveView.{AreLow, AreNested, AreParts, AreTables, IsNested, labelled}
use Rattle.ltl_claim.proofs.ProgramLaws.{mapped_length}

inside_or_past : (a b : ℕ) → (a < b) ⊎ (b ≤ a)
inside_or_past a b = grind arith

-- a list with one element more
one_more : (xs : List ℕ) (x i : ℕ) (P : ℕ → ℕ → Type 0) → length xs ≡ i → ((j : ℕ) → j < i → P j (slice_index_or xs j 0)) → P i x
    → (j : ℕ) → j < length (xs ++ x ∷ []) → P j (slice_index_or (xs ++ x ∷ []) j 0)
one_more xs x i P e old new j l = elim (inside_or_past j i) [
  | inl b ↦ subst (P j) (sym (index_append xs (x ∷ []) j 0 (omega (arith, b, e)))) (old j b)
  | inr b ↦
      let k = length_push xs x in
      let q : i ≡ j = omega (arith, b, e, k, l) in
      subst (λ k. P k (slice_index_or (xs ++ x ∷ []) k 0)) q (subst (P i) (sym (get_or_push xs x 0 i e)) new)
]

-- the statement of a label is looked up
pub label_found : {X : Type 0} (name : X → Name) (test : X → Bool) (l : Name) → ((x : X) → test x ≡ same_name l (name x)) → (es : List (X × ℕ)) (n : ℕ)
    → unwrap_or (lookup test es) n ≡ labelled (map (label_of name) es) n l
label_found name test l is [] n = refl
label_found {X} name test l is (e ∷ es) n = go (test e.0) (same_name l (name e.0)) (is e.0) (label_found name test l is es n)
  where
    rest : List ClaimLabel
    rest = map (label_of name) es

    go : (b c : Bool) → b ≡ c → unwrap_or (lookup test es) n ≡ labelled rest n l
        → unwrap_or (if b then Some e.1 else lookup test es) n ≡ unwrap_or (option_map (λ x. x.statement) (if c then Some (label_of name e) else find (λ x. same_name l x.name) rest)) n
    go true true q h = refl
    go true false q h = cc
    go false true q h = cc
    go false false q h = h

-- ---- more depth than there are statements around one changes nothing

module _ (P : Program) (nested : IsNested P) where
  low_one : (b : Bool) (i t : ℕ) → t ≤ i → (if b then i else t) ≤ i
  low_one true i t l = omega arith
  low_one false i t l = l

  -- the nearest `do` doesn't stand behind
  pub nearest_before : (n i : ℕ) → nearest P n i ≤ i
  nearest_before zero i = omega arith
  nearest_before (suc n) i = low_one (statement_at P i).loops i _ (go (nearest_before n) (statement_at P i).around (nested i))
    where
      go : ((j : ℕ) → nearest P n j ≤ j) → (c : Option ℕ) → IfSome c (λ j. j < i) → unwrap_or (option_map (nearest P n) c) i ≤ i
      go f None l = omega arith
      go f (Some j) l = let h = f j in omega (arith, h, l)

  pub nearest_deep : (n m i : ℕ) → i ≤ n → i ≤ m → nearest P n i ≡ nearest P m i
  nearest_deep zero zero i l k = refl
  nearest_deep zero (suc m) i l k = let h = nearest_before (suc m) i in let h0 : nearest P zero i ≡ i = refl in omega (arith, h, h0, l)
  nearest_deep (suc n) zero i l k = let h = nearest_before (suc n) i in let h0 : nearest P zero i ≡ i = refl in omega (arith, h, h0, k)
  nearest_deep (suc n) (suc m) i l k = ap (λ t. if (statement_at P i).loops then i else t) (go (nearest_deep n m) (statement_at P i).around (nested i))
    where
      go : ((j : ℕ) → j ≤ n → j ≤ m → nearest P n j ≡ nearest P m j) → (c : Option ℕ) → IfSome c (λ j. j < i) → unwrap_or (option_map (nearest P n) c) i ≡ unwrap_or (option_map (nearest P m) c) i
      go f None h = refl
      go f (Some j) h = f j (omega (arith, h, l)) (omega (arith, h, k))

  follow_rest : (n m : ℕ) → ((k : Link) (j : ℕ) → j < n → j < m → follow P n k (Some j) ≡ follow P m k (Some j))
      → (k : Link) (c : Option ℕ) (i : ℕ) → IfSome c (λ j. j < i) → i ≤ n → i ≤ m → follow P n k c ≡ follow P m k c
  follow_rest n m h (Go j) None i b l r = refl
  follow_rest n m h (Jump x) None i b l r = refl
  follow_rest n m h Leave None i b l r = refl
  follow_rest n m h Nothing None i b l r = refl
  follow_rest n m h k (Some j) i b l r = h k j (omega (arith, b, l)) (omega (arith, b, r))

  follow_deep : (n m : ℕ) (k : Link) (i : ℕ) → i < n → i < m → follow P n k (Some i) ≡ follow P m k (Some i)
  follow_deep zero m k i l r = absurd (omega (arith, l))
  follow_deep (suc n) zero k i l r = absurd (omega (arith, r))
  follow_deep (suc n) (suc m) (Go j) i l r = refl
  follow_deep (suc n) (suc m) (Jump x) i l r = refl
  follow_deep (suc n) (suc m) Nothing i l r =
      ap (λ t. if (statement_at P i).loops then i else t)
      (follow_rest n m (λ k j. follow_deep n m k j) (statement_at P i).next (statement_at P i).around i (nested i) (omega (arith, l)) (omega (arith, r)))
  follow_deep (suc n) (suc m) Leave i l r =
      let low = nearest_before m i in
      let e : nearest P n i ≡ nearest P m i = nearest_deep n m i (omega (arith, l)) (omega (arith, r)) in
      ap (λ j. follow P n (statement_at P j).next (statement_at P j).around) e
      ∙ follow_rest n m (λ k j. follow_deep n m k j) (statement_at P (nearest P m i)).next (statement_at P (nearest P m i)).around (nearest P m i) (nested (nearest P m i))
      (omega (arith, low, l)) (omega (arith, low, r))

  -- where the end of a statement leads, with one step less
  pub leads_less : (i : ℕ) → i ≤ end P → leads P (statement_at P i).next (statement_at P i).around ≡ follow P (end P) (statement_at P i).next (statement_at P i).around
  leads_less i l = follow_rest (suc (end P)) (end P) (λ k j. follow_deep (suc (end P)) (end P) k j) (statement_at P i).next (statement_at P i).around i (nested i) (omega (arith, l)) l

-- ---- the statements of the code

pub at_view : (ss : List StatementView) (i : ℕ) → slice_index_or (map statement_of ss) i no_statement ≡ statement_of (slice_index_or ss i no_view)
at_view [] i = refl
at_view (s ∷ ss) zero = refl
at_view (s ∷ ss) (suc i) = at_view ss i

module _ (P : Program) (ss : List StatementView) (ls : List ClaimLabel) (a : AreParts P ss ls) where
  pub there : (i : ℕ) → statement_at P i ≡ statement_of (slice_index_or ss i no_view)
  there i = ap (λ xs. slice_index_or xs i no_statement) a.statements ∙ at_view ss i

  pub end_is : length ss ≡ end P
  end_is = sym (mapped_length statement_of ss) ∙ ap length (sym a.statements)

  pub nested_view : AreNested ss → IsNested P
  nested_view n i = subst (λ (s : Statement). IfSome s.around (λ c. c < i)) (sym (there i)) (n i)

  module _ (ns ms : List ℕ) (t : AreTables P ns ms) (low : AreLow ss ns ms) (i : ℕ) (l : i < length ms) where
    few : i < end P
    few = let f = low.few in let e = end_is in omega (arith, f, e, l)

    after_less : (j : ℕ) → j ≤ i → slice_index_or ms j 0 ≡ follow P (end P) (statement_at P j).next (statement_at P j).around
    after_less j k = t.after j (omega (arith, k, l)) ∙ leads_less P t.nested j (omega (arith, k, few))

    -- the end of an option
    pub nothing_way : (if (slice_index_or ss i no_view).loops then i else slice_index_or ms i 0) ≡ leads P Nothing (Some i)
    nothing_way =
        ap (λ (s : Statement). if s.loops then i else slice_index_or ms i 0) (sym (there i))
        ∙ ap (λ n. if (statement_at P i).loops then i else n) (after_less i (omega arith))

    -- `break`
    pub leave_way : slice_index_or ms (slice_index_or ns i 0) 0 ≡ leads P Leave (Some i)
    leave_way =
        let long = low.long in
        let before = low.low i (omega (arith, long, l)) in
        after_less (slice_index_or ns i 0) before
        ∙ ap (λ j. follow P (end P) (statement_at P j).next (statement_at P j).around) (t.nearest i (omega (arith, long, l)) ∙ nearest_deep P t.nested (suc (end P)) (end P) i (omega (arith, few)) (omega (arith, few)))

    -- the same, of a link of the code and of what stands around it
    module _ (k : code.Link) (c : Option ℕ) (r : ℕ) where
      pub way_behind : k ≡ link.Nothing → c ≡ Some i → r ≡ (if (slice_index_or ss i no_view).loops then i else slice_index_or ms i 0) → r ≡ leads P (link_of k) c
      way_behind e f h = h ∙ nothing_way ∙ (λ j. leads P (link_of (sym e j)) (sym f j))

      pub way_left : k ≡ link.Leave → c ≡ Some i → r ≡ slice_index_or ms (slice_index_or ns i 0) 0 → r ≡ leads P (link_of k) c
      way_left e f h = h ∙ leave_way ∙ (λ j. leads P (link_of (sym e j)) (sym f j))

-- ---- the tables, one entry more

pub low_none : (ss : List StatementView) (ns ms : List ℕ) → ns ≡ [] → ms ≡ [] → AreLow ss ns ms
low_none ss ns ms e f = subst (λ xs. AreLow ss xs ms) (sym e) (subst (λ ys. AreLow ss [] ys) (sym f) (record { long = refl; few = omega arith; low = λ i l. absurd (omega (arith, l)) }))

module _ (ss : List StatementView) (ns ms : List ℕ) (i n m : ℕ) (low : AreLow ss ns ms) (e : length ms ≡ i) (l : i < length ss) where
  long : length ns ≡ i
  long = low.long ∙ e

  abbrev pub nearest_view : ℕ
  nearest_view = if (slice_index_or ss i no_view).loops then i else elim (slice_index_or ss i no_view).around [ Some c ↦ slice_index_or ns c 0 | None ↦ i ]

  low_if : (b : Bool) (t : ℕ) → t ≤ i → (if b then i else t) ≤ i
  low_if true t l = omega arith
  low_if false t l = l

  -- the nearest `do` doesn't stand behind
  pub nearest_low : AreNested ss → n ≡ nearest_view → n ≤ i
  nearest_low nested f = subst (λ k. k ≤ i) (sym f) (low_if (slice_index_or ss i no_view).loops _ (go (slice_index_or ss i no_view).around (nested i)))
    where
      go : (c : Option ℕ) → IfSome c (λ j. j < i) → ◌≤◌ (elim c [ Some c ↦ slice_index_or ns c 0 | None ↦ i ]) i
      go None h = omega arith
      go (Some c) h = let k = low.low c (omega (arith, h, long)) in omega (arith, h, k)

  pub low_more : n ≤ i → AreLow ss (ns ++ n ∷ []) (ms ++ m ∷ [])
  low_more h = record {
    long = length_push ns n ∙ ap (λ k. k + 1) low.long ∙ sym (length_push ms m);
    few = let k = length_push ms m in omega (arith, k, e, l);
    low = one_more ns n i (λ j k. k ≤ j) long (λ j k. low.low j (omega (arith, k, long))) h;
  }

  -- the tables, with what was found for the next statement
  pub tables_next : (P : Program) (ls : List ClaimLabel) → AreParts P ss ls → n ≡ nearest_view → m ≡ leads P (slice_index_or ss i no_view).next (slice_index_or ss i no_view).around
      → AreTables P ns ms → AreTables P (ns ++ n ∷ []) (ms ++ m ∷ [])
  tables_next P ls a f g t = record {
    nested = t.nested;
    nearest = one_more ns n i (λ j k. k ≡ nearest P (suc (end P)) j) long (λ j k. t.nearest j (omega (arith, k, long))) (f ∙ near);
    after = one_more ms m i (λ j k. k ≡ leads P (statement_at P j).next (statement_at P j).around) e (λ j k. t.after j (omega (arith, k, e)))
        (g ∙ ap (λ (s : Statement). leads P s.next s.around) (sym (there P ss ls a i)));
  }
    where
      bound : i < end P
      bound = let q = end_is P ss ls a in omega (arith, q, l)

      go : (c : Option ℕ) → IfSome c (λ j. j < i) → ◌≡◌ {A = ℕ} (elim c [ Some c ↦ slice_index_or ns c 0 | None ↦ i ]) (unwrap_or (option_map (nearest P (end P)) c) i)
      go None h = refl
      go (Some c) h = t.nearest c (omega (arith, h, long)) ∙ nearest_deep P t.nested (suc (end P)) (end P) c (omega (arith, h, bound)) (omega (arith, h, bound))

      near : nearest_view ≡ nearest P (suc (end P)) i
      near =
          ap (λ (s : Statement). if s.loops then i else elim s.around [ Some c ↦ slice_index_or ns c 0 | None ↦ i ]) (sym (there P ss ls a i))
          ∙ ap (λ k. if (statement_at P i).loops then i else k) (go (statement_at P i).around (t.nested i))

-- no entry yet
pub no_tables : (P : Program) (ss : List StatementView) (ls : List ClaimLabel) (ns ms : List ℕ) → AreParts P ss ls → AreNested ss → ns ≡ [] → ms ≡ [] → AreTables P ns ms
no_tables P ss ls ns ms a n e f = subst (λ xs. AreTables P xs ms) (sym e) (subst (λ ys. AreTables P [] ys) (sym f) (record {
  nested = nested_view P ss ls a n;
  nearest = λ i l. absurd (omega (arith, l));
  after = λ i l. absurd (omega (arith, l));
}))

-- ---- the first entries of both tables

abbrev pub nearest_of : List StatementView → List ℕ → ℕ → ℕ
nearest_of ss ns i = if (slice_index_or ss i no_view).loops then i else elim (slice_index_or ss i no_view).around [ Some c ↦ slice_index_or ns c 0 | None ↦ i ]

pub record TablesTo (ss : List StatementView) (ls : List ClaimLabel) (ns ms : List ℕ) (i : ℕ) : Type 0 where
  pub low : AreLow ss ns ms
  pub long : length ms ≡ i
  pub tables : (P : Program) → AreParts P ss ls → AreTables P ns ms

module _ (ss : List StatementView) (ls : List ClaimLabel) (nested : AreNested ss) where
  pub first_tables : (ns ms : List ℕ) → ns ≡ [] → ms ≡ [] → TablesTo ss ls ns ms 0
  first_tables ns ms e f = record { low = low_none ss ns ms e f; long = ap length f; tables = λ P a. no_tables P ss ls ns ms a nested e f }

  pub next_tables : (ns ms more most : List ℕ) (i n m : ℕ) (s : StatementView) → i < length ss → s ≡ get_or ss i s → n ≡ nearest_of ss ns i
      → ((P : Program) → AreParts P ss ls → AreTables P ns ms → m ≡ leads P s.next s.around) → more ≡ ns ++ n ∷ [] → most ≡ ms ++ m ∷ [] → TablesTo ss ls ns ms i → TablesTo ss ls more most (i + 1)
  next_tables ns ms more most i n m s l is near way e f t = subst (λ xs. TablesTo ss ls xs most (i + 1)) (sym e) (subst (λ ys. TablesTo ss ls (ns ++ n ∷ []) ys (i + 1)) (sym f) (record {
    low = low_more ss ns ms i n m t.low t.long l (nearest_low ss ns ms i n m t.low t.long l nested near);
    long = length_push ms m ∙ ap (λ k. k + 1) t.long;
    tables = λ P a. tables_next ss ns ms i n m t.low t.long l P ls a near (way P a (t.tables P a) ∙ ap (λ (r : StatementView). leads P r.next r.around) (is ∙ get_or_default ss i s no_view l)) (t.tables P a);
  }))
