-- The pieces of a text in a row.
use Rattle.std.proofs.Common.{◌≡◌, ℕ, zero, suc, ◌+◌, ◌-◌, ◌<◌, ◌≤◌, Bool, true, false, ◌||◌, inl, inr, List, [], ◌∷◌, ◌++◌, length, reverse, refl, sym, ◌∙◌, ap, subst, arith, append_assoc, nat_eq}
use Rattle.std.specs.Prelude.{flat_map, drop, take, slice_index_or, if◌then◌else◌, decimal, codes, None}
use Rattle.std.specs.List.{list_any, range_with_len}
use Rattle.std.proofs.lemmas.List.{append-nil, reverse-append}
use Rattle.std.proofs.lemmas.Grind.{flat_map-append}
use Rattle.std.proofs.lemmas.Bool.{cases_lt}
use Rattle.ltl_spec.specs.Collections.Sets.{Has}
use Rattle.ltl_spec.specs.Automata.ClaimText.{line}
use Rattle.ltl_spec.specs.Automata.HoaText.{quoted, names_line}
use Rattle.ltl_spec.specs.Semantics.Word.{Name}
use Rattle.ltl_spec.specs.Claims.ClaimProgram.{Guard, Program}
use Rattle.ltl_spec.specs.Claims.ClaimMeaning.{accepts, end, leads, program_names}
use Rattle.ltl_spec.proofs.Collections.CaseLaws.{nat_eq_same, nat_eq_other}
use Rattle.ltl_spec.proofs.Collections.MemberLaws.{any_true}
use Rattle.ltl_claim.specs.ClaimView.{MoveView, StateView, ClaimView, IsMove, AreMoves, IsClaim, statement_moves}
use Rattle.ltl_claim_hoa.specs.ClaimHoa.{MoveList, body_text, claim_hoa_text, end_lines, ends_in, head_text, last_lines, move_line, state_count, state_line, statement_lines}

-- one piece more, behind the others
pub piece_more : (old front text piece new : List ℕ) → text ≡ old ++ front → new ≡ text ++ piece → new ≡ old ++ (front ++ piece)
piece_more old front text piece new e f = f ∙ ap (λ t. t ++ piece) e ∙ append_assoc old front piece

-- elements so far, and one more
take_more : {K : Type 0} (xs : List K) (n : ℕ) (d : K) → n < length xs → take (n + 1) xs ≡ take n xs ++ slice_index_or xs n d ∷ []
take_more [] n d l = absurd (omega (arith, l))
take_more (x ∷ xs) zero d l = refl
take_more (x ∷ xs) (suc n) d l = (let k : suc n + 1 ≡ suc (n + 1) = omega arith in ap (λ m. take m (x ∷ xs)) k) ∙ ap (λ ys. x ∷ ys) (take_more xs n d (omega (arith, l)))

take_whole : {K : Type 0} (xs : List K) → take (length xs) xs ≡ xs
take_whole [] = refl
take_whole (x ∷ xs) = ap (λ ys. x ∷ ys) (take_whole xs)

pub pieces_more : {K : Type 0} (f : K → List ℕ) (xs : List K) (n : ℕ) (d : K) (old text new : List ℕ) → n < length xs → text ≡ old ++ flat_map f (take n xs) → new ≡ text ++ f (slice_index_or xs n d)
    → new ≡ old ++ flat_map f (take (n + 1) xs)
pieces_more f xs n d old text new l e g =
    let x = slice_index_or xs n d in
    piece_more old (flat_map f (take n xs)) text (f x) new e g
    ∙ ap (λ t. old ++ t) (ap (λ t. flat_map f (take n xs) ++ t) (sym (append-nil (f x))) ∙ sym (flat_map-append f (take n xs) (x ∷ [])) ∙ ap (flat_map f) (sym (take_more xs n d l)))

pub pieces_all : {K : Type 0} (f : K → List ℕ) (xs : List K) (n : ℕ) (old text : List ℕ) → n ≡ length xs → text ≡ old ++ flat_map f (take n xs) → text ≡ old ++ flat_map f xs
pieces_all f xs n old text e g = g ∙ ap (λ m. old ++ flat_map f (take m xs)) e ∙ ap (λ ys. old ++ flat_map f ys) (take_whole xs)

-- ---- moves

moves_length : (names : List Name) (ms : List MoveView) (xs : MoveList) → AreMoves names ms xs → length ms ≡ length xs
moves_length names [] [] a = refl
moves_length names (m ∷ ms) (x ∷ xs) a = ap suc (moves_length names ms xs a.1)
moves_length names [] (x ∷ xs) a = absurd a
moves_length names (m ∷ ms) [] a = absurd a

move_at : (names : List Name) (ms : List MoveView) (xs : MoveList) (n : ℕ) (c : MoveView) (d : Guard × ℕ) → AreMoves names ms xs → n < length ms → IsMove names (slice_index_or ms n c) (slice_index_or xs n d)
move_at names [] xs n c d a l = absurd (omega (arith, l))
move_at names (m ∷ ms) [] n c d a l = absurd a
move_at names (m ∷ ms) (x ∷ xs) zero c d a l = a.0
move_at names (m ∷ ms) (x ∷ xs) (suc n) c d a l = move_at names ms xs n c d a.1 (omega (arith, l))

-- some element: there is a move where there are views
a_move : (names : List Name) (ms : List MoveView) (xs : MoveList) (n : ℕ) → AreMoves names ms xs → n < length ms → Guard × ℕ
a_move names [] xs n a l = absurd (omega (arith, l))
a_move names (m ∷ ms) [] n a l = absurd a
a_move names (m ∷ ms) (x ∷ xs) n a l = x

pub moves_more : (names : List Name) (ms : List MoveView) (xs : MoveList) (n : ℕ) (c : MoveView) (old text new : List ℕ) → AreMoves names ms xs → n < length ms → text ≡ old ++ flat_map (move_line names) (take n xs)
    → ((m : Guard × ℕ) → IsMove names (slice_index_or ms n c) m → new ≡ text ++ move_line names m) → new ≡ old ++ flat_map (move_line names) (take (n + 1) xs)
moves_more names ms xs n c old text new a l e f =
    let d = a_move names ms xs n a l in
    pieces_more (move_line names) xs n d old text new (subst (λ k. n < k) (moves_length names ms xs a) l) e (f (slice_index_or xs n d) (move_at names ms xs n c d a l))

pub moves_all : (names : List Name) (ms : List MoveView) (xs : MoveList) (n : ℕ) (old text : List ℕ) → AreMoves names ms xs → n ≡ length ms → text ≡ old ++ flat_map (move_line names) (take n xs)
    → text ≡ old ++ flat_map (move_line names) xs
moves_all names ms xs n old text a e f = pieces_all (move_line names) xs n old text (e ∙ moves_length names ms xs a) f

-- whether a move leads to a state
any_push : {K : Type 0} (p : K → Bool) (xs : List K) (x : K) → list_any p (xs ++ x ∷ []) ≡ (list_any p xs || p x)
any_push p [] x = or_false (p x)
  where
    or_false : (b : Bool) → (b || false) ≡ b
    or_false true = refl
    or_false false = refl
any_push p (y ∷ ys) x = ap (λ b. p y || b) (any_push p ys x) ∙ assoc (p y) (list_any p ys) (p x)
  where
    assoc : (a b c : Bool) → (a || (b || c)) ≡ ((a || b) || c)
    assoc true b c = refl
    assoc false b c = refl

any_taken : {K : Type 0} (p : K → Bool) (xs : List K) (n : ℕ) → list_any p (take n xs) ≡ true → list_any p xs ≡ true
any_taken p [] zero e = e
any_taken p [] (suc n) e = e
any_taken p (x ∷ xs) zero e = cc
any_taken p (x ∷ xs) (suc n) e = go (p x) e (any_taken p xs n)
  where
    go : (b : Bool) → (b || list_any p (take n xs)) ≡ true → (list_any p (take n xs) ≡ true → list_any p xs ≡ true) → (b || list_any p xs) ≡ true
    go true f k = refl
    go false f k = k f

module _ (names : List Name) (ms : List MoveView) (xs : MoveList) (a : AreMoves names ms xs) (target : ℕ) where
  one_more : (n : ℕ) (c : MoveView) (l : n < length ms) (b : Bool) → nat_eq (slice_index_or ms n c).target target ≡ b → list_any (λ m. nat_eq m.1 target) (take n xs) ≡ false
      → list_any (λ m. nat_eq m.1 target) (take (n + 1) xs) ≡ b
  one_more n c l b e f =
      let d = a_move names ms xs n a l in
      let x = slice_index_or xs n d in
      ap (list_any (λ m. nat_eq m.1 target)) (take_more xs n d (subst (λ k. n < k) (moves_length names ms xs a) l))
      ∙ any_push (λ m. nat_eq m.1 target) (take n xs) x
      ∙ (λ i. f i || nat_eq (sym (move_at names ms xs n c d a l).1 i) target) ∙ e

  pub target_other : (n : ℕ) (c : MoveView) (t : ℕ) → n < length ms → t ≡ (slice_index_or ms n c).target → ¬ (t ≡ target) → list_any (λ m. nat_eq m.1 target) (take n xs) ≡ false
      → list_any (λ m. nat_eq m.1 target) (take (n + 1) xs) ≡ false
  target_other n c t l e u f = one_more n c l false (nat_eq_other _ target (λ q. u (e ∙ q))) f

  pub target_found : (n : ℕ) (c : MoveView) (t : ℕ) → n < length ms → t ≡ (slice_index_or ms n c).target → t ≡ target → list_any (λ m. nat_eq m.1 target) (take n xs) ≡ false
      → list_any (λ m. nat_eq m.1 target) xs ≡ true
  target_found n c t l e u f = any_taken (λ m. nat_eq m.1 target) xs (n + 1) (one_more n c l true (nat_eq_same _ target (sym e ∙ u)) f)

  pub target_none : (n : ℕ) → n ≡ length ms → list_any (λ m. nat_eq m.1 target) (take n xs) ≡ false → list_any (λ m. nat_eq m.1 target) xs ≡ false
  target_none n e f = ap (list_any (λ m. nat_eq m.1 target)) (sym (take_whole xs) ∙ ap (λ k. take k xs) (sym (e ∙ moves_length names ms xs a))) ∙ f

-- ---- statements

range_more : (a n : ℕ) → range_with_len a (n + 1) ≡ range_with_len a n ++ (a + n) ∷ []
range_more a zero = (let k : a ≡ a + 0 = omega arith in ap (λ m. m ∷ []) k)
range_more a (suc n) =
    let k : suc n + 1 ≡ suc (n + 1) = omega arith in
    let m : a + 1 + n ≡ a + suc n = omega arith in
    ap (range_with_len a) k ∙ ap (λ xs. a ∷ xs) (range_more (a + 1) n) ∙ ap (λ j. a ∷ range_with_len (a + 1) n ++ j ∷ []) m

pub range_push : (n : ℕ) → range_with_len 0 (n + 1) ≡ range_with_len 0 n ++ n ∷ []
range_push n = range_more 0 n ∙ (let k : 0 + n ≡ n = omega arith in ap (λ j. range_with_len 0 n ++ j ∷ []) k)

module _ (P : Program) (c : ClaimView) (is : IsClaim P c) where
  abbrev no_state : StateView
  no_state = record { accepting = false; moves = [] }

  -- a statement's lines
  pub statement_written : (i : ℕ) (s : StateView) (accepting : Bool) (moves : List MoveView) (old text new : List ℕ) → i < length c.states → s ≡ slice_index_or c.states i no_state → accepting ≡ s.accepting → moves ≡ s.moves
      → text ≡ old ++ state_line i accepting
      → ((names : List Name) (ms : MoveList) → AreMoves names moves ms → new ≡ text ++ flat_map (move_line names) ms) → new ≡ old ++ statement_lines P i
  statement_written i s accepting moves old text new l e f g t m =
      let state = is.states i (subst (λ n. i < n) is.count l) in
      let marked : accepting ≡ accepts P i = f ∙ ap (λ (z : StateView). z.accepting) e ∙ state.accepting in
      let listed : AreMoves (program_names P) moves (statement_moves P i) =
      subst (λ names. AreMoves names moves (statement_moves P i)) is.names (subst (λ ms. AreMoves c.names ms (statement_moves P i)) (sym (g ∙ ap (λ (z : StateView). z.moves) e)) state.moves) in
      piece_more old (state_line i (accepts P i)) text (flat_map (move_line (program_names P)) (statement_moves P i)) new (t ∙ ap (λ b. old ++ state_line i b) marked) (m (program_names P) (statement_moves P i) listed)

  pub statements_more : (n : ℕ) (old text new : List ℕ) → text ≡ old ++ flat_map (statement_lines P) (range_with_len 0 n) → new ≡ text ++ statement_lines P n
      → new ≡ old ++ flat_map (statement_lines P) (range_with_len 0 (n + 1))
  statements_more n old text new e f =
      piece_more old (flat_map (statement_lines P) (range_with_len 0 n)) text (statement_lines P n) new e f
      ∙ ap (λ t. old ++ t) (
      ap (λ t. flat_map (statement_lines P) (range_with_len 0 n) ++ t) (sym (append-nil (statement_lines P n)))
      ∙ sym (flat_map-append (statement_lines P) (range_with_len 0 n) (n ∷ [])) ∙ ap (flat_map (statement_lines P)) (sym (range_push n)))

  -- whether the end is a state
  abbrev to_end : ℕ → Bool
  to_end i = list_any (λ m. nat_eq m.1 (end P)) (statement_moves P i)

  leads_one : (i : ℕ) (s : StateView) (moves : List MoveView) (target : ℕ) (b : Bool) → i < length c.states → s ≡ slice_index_or c.states i no_state → moves ≡ s.moves → target ≡ length c.states
      → ((names : List Name) (ms : MoveList) → AreMoves names moves ms → b ≡ list_any (λ m. nat_eq m.1 target) ms) → b ≡ to_end i
  leads_one i s moves target b l e g t m =
      let state = is.states i (subst (λ n. i < n) is.count l) in
      let listed : AreMoves c.names moves (statement_moves P i) = subst (λ ms. AreMoves c.names ms (statement_moves P i)) (sym (g ∙ ap (λ (z : StateView). z.moves) e)) state.moves in
      m c.names (statement_moves P i) listed ∙ ap (λ n. list_any (λ m. nat_eq m.1 n) (statement_moves P i)) (t ∙ is.count)

  pub end_other : (n : ℕ) (s : StateView) (moves : List MoveView) (target : ℕ) (b : Bool) → n < length c.states → s ≡ slice_index_or c.states n no_state → moves ≡ s.moves → target ≡ length c.states
      → ((names : List Name) (ms : MoveList) → AreMoves names moves ms → b ≡ list_any (λ m. nat_eq m.1 target) ms) → b ≡ false → list_any to_end (range_with_len 0 n) ≡ false
      → list_any to_end (range_with_len 0 (n + 1)) ≡ false
  end_other n s moves target b l e g t m z f =
      ap (list_any to_end) (range_push n) ∙ any_push to_end (range_with_len 0 n) n ∙ (λ i. f i || (sym (leads_one n s moves target b l e g t m) ∙ z) i)

  pub end_found : (n : ℕ) (s : StateView) (moves : List MoveView) (target : ℕ) (b : Bool) → n < length c.states → s ≡ slice_index_or c.states n no_state → moves ≡ s.moves → target ≡ length c.states
      → ((names : List Name) (ms : MoveList) → AreMoves names moves ms → b ≡ list_any (λ m. nat_eq m.1 target) ms) → b ≡ true → ends_in P ≡ true
  end_found n s moves target b l e g t m z =
      ap (λ v. nat_eq (leads P P.start None) (end P) || v) (any_in to_end (end P) n (subst (λ k. n < k) is.count l) (sym (leads_one n s moves target b l e g t m) ∙ z)) ∙ or_true (nat_eq (leads P P.start None) (end P))
    where
      or_true : (b : Bool) → (b || true) ≡ true
      or_true true = refl
      or_true false = refl

      any_in : (p : ℕ → Bool) (k n : ℕ) → n < k → p n ≡ true → list_any p (range_with_len 0 k) ≡ true
      any_in p k n l e = any_true p (range_with_len 0 k) n (in_range 0 k n (omega arith) (omega (arith, l))) e
        where
          in_range : (a n i : ℕ) → a ≤ i → i < a + n → Has (range_with_len a n) i
          in_range a zero i l m = absurd (omega (arith, l, m))
          in_range a (suc n) i l m = elim (cases_lt a i) [ inl k ↦ inr (in_range (a + 1) n i (omega (arith, k)) (omega (arith, m))) | inr k ↦ inl (omega (arith, l, k)) ]

-- ---- the header

quoted_pieces : (text n : List ℕ) → ((text ++ 32 ∷ 34 ∷ []) ++ n) ++ 34 ∷ [] ≡ text ++ 32 ∷ quoted n
quoted_pieces text n = simp append_assoc

-- one name more, in quotes behind a blank
pub name_more : (names : List Name) (i : ℕ) (n old text a b new : List ℕ) → i < length names → n ≡ slice_index_or names i [] → text ≡ old ++ flat_map (λ n. 32 ∷ quoted n) (take i names)
    → a ≡ text ++ 32 ∷ 34 ∷ [] → b ≡ a ++ n → new ≡ b ++ 34 ∷ [] → new ≡ old ++ flat_map (λ n. 32 ∷ quoted n) (take (i + 1) names)
name_more names i n old text a b new l e t f g h =
    pieces_more (λ n. 32 ∷ quoted n) names i [] old text new l t
    (h ∙ ap (λ u. u ++ 34 ∷ []) (g ∙ ap (λ u. u ++ n) f) ∙ quoted_pieces text n ∙ ap (λ m. text ++ 32 ∷ quoted m) e)

pub count_more : (P : Program) (c : ClaimView) (ends : Bool) (n : ℕ) → IsClaim P c → ends ≡ true → ends ≡ ends_in P → n ≡ length c.states → n + 1 ≡ state_count P
count_more P c ends n is t e l = ap (λ k. k + 1) (l ∙ is.count) ∙ ap (λ b. if b then end P + 1 else end P) (sym t ∙ e)

pub count_same : (P : Program) (c : ClaimView) (ends : Bool) (n : ℕ) → IsClaim P c → ends ≡ false → ends ≡ ends_in P → n ≡ length c.states → n ≡ state_count P
count_same P c ends n is t e l = l ∙ is.count ∙ ap (λ b. if b then end P + 1 else end P) (sym t ∙ e)

abbrev acceptance_lines : List ℕ
acceptance_lines = line (codes "acc-name: Buchi") ++ line (codes "Acceptance: 1 Inf(0)") ++ line (codes "properties: trans-labels explicit-labels state-acc") ++ line (codes "--BODY--")

any_pieces : (t a b d x s e n p q r u : List ℕ) → ((((((t ++ (a ++ b)) ++ d) ++ (x ++ s)) ++ e) ++ x) ++ n) ++ (p ++ q ++ r ++ u) ≡ t ++ (a ++ ((b ++ d) ++ x) ++ ((s ++ e) ++ x) ++ n ++ p ++ q ++ r ++ u)
any_pieces t a b d x s e n p q r u = simp append_assoc

head_pieces : (t d e n : List ℕ) → ((((((t ++ (codes "HOA: v1" ++ 10 ∷ codes "States: ")) ++ d) ++ (10 ∷ codes "Start: ")) ++ e) ++ 10 ∷ []) ++ n) ++ acceptance_lines
    ≡ t ++ (line (codes "HOA: v1") ++ line (codes "States: " ++ d) ++ line (codes "Start: " ++ e) ++ n ++ line (codes "acc-name: Buchi") ++ line (codes "Acceptance: 1 Inf(0)")
    ++ line (codes "properties: trans-labels explicit-labels state-acc") ++ line (codes "--BODY--"))
head_pieces t d e n =
    any_pieces t (line (codes "HOA: v1")) (codes "States: ") d (10 ∷ []) (codes "Start: ") e n (line (codes "acc-name: Buchi")) (line (codes "Acceptance: 1 Inf(0)"))
    (line (codes "properties: trans-labels explicit-labels state-acc")) (line (codes "--BODY--"))

pub head_written : (P : Program) (c : ClaimView) (is : IsClaim P c) (count start : ℕ) (names : List Name) (t t1 t2 t3 t4 t5 t6 t7 : List ℕ) → count ≡ state_count P → start ≡ c.start → names ≡ c.names
    → t1 ≡ t ++ (codes "HOA: v1" ++ 10 ∷ codes "States: ") → t2 ≡ t1 ++ decimal count → t3 ≡ t2 ++ 10 ∷ codes "Start: " → t4 ≡ t3 ++ decimal start → t5 ≡ t4 ++ 10 ∷ [] → t6 ≡ t5 ++ names_line names
    → t7 ≡ t6 ++ acceptance_lines → t7 ≡ t ++ head_text P
head_written P c is count start names t t1 t2 t3 t4 t5 t6 t7 k s n e1 e2 e3 e4 e5 e6 e7 =
    e7 ∙ ap (λ u. u ++ acceptance_lines) (
    e6 ∙ (λ i. (e5 ∙ ap (λ u. u ++ 10 ∷ []) (
    e4 ∙ (λ j. (e3 ∙ ap (λ u. u ++ 10 ∷ codes "Start: ") (e2 ∙ (λ h. e1 h ++ decimal (k h)))) j ++ decimal ((s ∙ is.start) j)))) i ++ names_line ((n ∙ is.names) i)))
    ∙ head_pieces t (decimal (state_count P)) (decimal (leads P P.start None)) (names_line (program_names P))

-- ---- the whole text

pub whole_text : (P : Program) (ends : Bool) (a b c d none : List ℕ) → ends ≡ ends_in P → none ≡ [] → a ≡ none ++ head_text P → b ≡ a ++ body_text P → c ≡ b ++ last_lines P ends → d ≡ c ++ line (codes "--END--")
    → d ≡ claim_hoa_text P
whole_text P ends a b c d none e n f g h k =
    k ∙ ap (λ t. t ++ line (codes "--END--")) (h ∙ (λ i. (g ∙ ap (λ t. t ++ body_text P) (f ∙ ap (λ t. t ++ head_text P) n)) i ++ last_lines P (e i)))

pub last_written : (P : Program) (c : ClaimView) (is : IsClaim P c) (ends : Bool) (n : ℕ) (old new : List ℕ) → ends ≡ true → n ≡ length c.states → new ≡ old ++ end_lines n → new ≡ old ++ last_lines P ends
last_written P c is ends n old new t l e = e ∙ ap (λ k. old ++ end_lines k) (l ∙ is.count) ∙ ap (λ b. old ++ last_lines P b) (sym t)

pub last_absent : (P : Program) (ends : Bool) (old : List ℕ) → ends ≡ false → old ≡ old ++ last_lines P ends
last_absent P ends old t = sym (append-nil old) ∙ ap (λ b. old ++ last_lines P b) (sym t)

pub names_few : (names : List Name) (n m : ℕ) → m ≡ n → n ≡ length names → m < 18_446_744_073_709_551_616 → length names < 18_446_744_073_709_551_616
names_few names n m e f l = subst (λ k. k < 18_446_744_073_709_551_616) (e ∙ f) l
