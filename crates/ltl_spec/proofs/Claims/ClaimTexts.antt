-- The tokens of a printed claim.
use Rattle.std.proofs.Common.{◌≡◌, ℕ, ◌^◌, ◌<◌, Bool, true, false, not, ◌&&◌, inl, inr, List, [], ◌∷◌, ◌++◌, map, Option, nat_eq, ◌==◌, refl, sym, ◌∙◌, ap, subst, arith, append_assoc}
use Rattle.std.specs.Prelude.{if◌then◌else◌, flat_map, filter, codes, decimal, slice_index_or, drop}
use Rattle.std.specs.List.{list_all, starts_with}
use Rattle.std.specs.Ordering.{nat_cmp}
use Rattle.std.proofs.lemmas.Bool.Decides.{nat_tests, Decides-eqb}
use Rattle.ltl_spec.specs.Collections.Sets.{Has, set_of}
use Rattle.ltl_spec.specs.Collections.Lists.{joined_by}
use Rattle.ltl_spec.specs.Semantics.Word.{Name}
use Rattle.ltl_spec.specs.Formulas.Formula.{UnaryOperator, Not, BinaryOperator, And, Reading}
use Rattle.ltl_spec.specs.Formulas.Canonical.{canonical_text, unary_text, binary_text}
use Rattle.ltl_spec.specs.Formulas.Tokens.{is_name_byte}
use Rattle.ltl_spec.specs.Formulas.Names.{is_proposition}
use Rattle.ltl_spec.specs.Transitions.Cubes.{Literal, Cube}
use Rattle.ltl_spec.specs.Automata.Automaton.{Automaton, State, Edge, state_at}
use Rattle.ltl_spec.specs.Automata.ClaimText.{line, indented, literal_text, cube_text, skip_state, numbers, label_of, option_line, options, block, never_text}
use Rattle.ltl_spec.specs.Hoa.HoaToken.{is_digit, number_of}
use Rattle.ltl_spec.specs.Claims.ClaimTokens.{Word, Truth, Never, If, Fi, Goto, OpenBrace, CloseBrace, OpenBracket, CloseBracket, OptionSign, Colon, Separator, NotSign, AndSign, OrSign, is_word_byte, claim_tokens}
use Rattle.ltl_spec.proofs.Collections.MemberLaws.{all_append, all_weaker}
use Rattle.ltl_spec.proofs.Collections.SetLaws.{set_of_cases, Has-set_of, filter_cases, Has-filter}
use Rattle.ltl_spec.proofs.Collections.MemberLaws.{Has-map, map_cases}
use Rattle.ltl_spec.proofs.Collections.Orders.{nat_linear}
use Rattle.ltl_spec.proofs.Formulas.ByteLaws.{formula_bytes}
use Rattle.ltl_spec.proofs.Hoa.SpelledLaws.{StopsAt, decimal_written}
use Rattle.ltl_spec.proofs.Hoa.SpelledStates.{joined_text}
use Rattle.ltl_spec.proofs.Claims.ClaimSpelling.{Spelled, spelled_both, spelled_all, IsClaimName, name_spelled, no_star, comment_spelled}
use Rattle.ltl_spec.proofs.Claims.ClaimPrinted.{literal_tokens, more_tokens, cube_tokens, guard_tokens, Way, way_tokens, ways_tokens, Skips, block_tokens, ways_block, last_blocks}

-- ---- labels

-- the label of the start, of the skipping state, or of another one by its digits
abbrev pub label_in : Bool → Bool → Bool → List ℕ → Name
label_in start skips accepting digits =
    if start then (if accepting then codes "accept_init" else codes "T0_init") else
    if skips then codes "accept_all" else
    (if accepting then codes "accept_S" else codes "T0_S") ++ digits

digits_bytes : (n : ℕ) → n < 2 ^ 64 → list_all is_word_byte (decimal n) ≡ true
digits_bytes n l =
    let w = decimal_written n l in
    ap (list_all is_word_byte) w.spelled ∙ all_weaker is_digit is_word_byte digit_word (w.first ∷ w.rest) (ap (λ c. c && list_all is_digit w.rest) w.digit ∙ w.digits)
  where
    digit_word : (b : ℕ) → is_digit b ≡ true → is_word_byte b ≡ true
    digit_word b e = grind (arith, nat_tests, e)

pub label_name : (start skips accepting : Bool) (n : ℕ) → n < 2 ^ 64 → IsClaimName (label_in start skips accepting (decimal n))
label_name true skips true n l = record { first = 97; rest = codes "ccept_init"; spelled = refl; begins = refl; bytes = refl; free = refl }
label_name true skips false n l = record { first = 84; rest = codes "0_init"; spelled = refl; begins = refl; bytes = refl; free = refl }
label_name false true accepting n l = record { first = 97; rest = codes "ccept_all"; spelled = refl; begins = refl; bytes = refl; free = refl }
label_name false false true n l = record { first = 97; rest = codes "ccept_S" ++ decimal n; spelled = refl; begins = refl; bytes = all_append is_word_byte (codes "ccept_S") (decimal n) refl (digits_bytes n l); free = refl }
label_name false false false n l = record { first = 84; rest = codes "0_S" ++ decimal n; spelled = refl; begins = refl; bytes = all_append is_word_byte (codes "0_S") (decimal n) refl (digits_bytes n l); free = refl }

pub label_no_end : (start skips accepting : Bool) (ds : List ℕ) → starts_with nat_eq (label_in start skips accepting ds) (codes "end") ≡ false
label_no_end true skips true ds = refl
label_no_end true skips false ds = refl
label_no_end false true accepting ds = refl
label_no_end false false true ds = refl
label_no_end false false false ds = refl

pub label_accepts : (start skips accepting : Bool) (ds : List ℕ) → (skips ≡ true → accepting ≡ true) → starts_with nat_eq (label_in start skips accepting ds) (codes "accept") ≡ accepting
label_accepts true skips true ds s = refl
label_accepts true skips false ds s = refl
label_accepts false true accepting ds s = sym (s refl)
label_accepts false false true ds s = refl
label_accepts false false false ds s = refl

-- what tells labels apart: a byte for the kind, and the digits
kind : Name → ℕ
kind [] = 0
kind (b ∷ bs) = slice_index_or bs (if b == 97 then 6 else 2) 0

digits_behind : Name → List ℕ
digits_behind [] = []
digits_behind (b ∷ bs) = drop (if b == 97 then 7 else 3) bs

abbrev kind_in : Bool → Bool → ℕ
kind_in start skips = if start then 105 else if skips then 97 else 83

kind_of : (start skips accepting : Bool) (ds : List ℕ) → kind (label_in start skips accepting ds) ≡ kind_in start skips
unfolding kind
kind_of true skips true ds = refl
kind_of true skips false ds = refl
kind_of false true accepting ds = refl
kind_of false false true ds = refl
kind_of false false false ds = refl

digits_of_label : (accepting : Bool) (ds : List ℕ) → digits_behind (label_in false false accepting ds) ≡ ds
unfolding digits_behind
digits_of_label true ds = refl
digits_of_label false ds = refl

decimal_value : (n : ℕ) → n < 2 ^ 64 → number_of (decimal n) ≡ n
decimal_value n l = (decimal_written n l).value

-- different states have different labels
pub label_exact : (B : Automaton) (j k : ℕ) → j < 2 ^ 64 → k < 2 ^ 64 → label_of B j ≡ label_of B k → j ≡ k
label_exact B j k l m e =
    go (j == 0) (k == 0) (j == skip_state B) (k == skip_state B) (state_at B j).accepting (state_at B k).accepting ((Decides-eqb j 0).0) ((Decides-eqb k 0).0) ((Decides-eqb j (skip_state B)).0) ((Decides-eqb k (skip_state B)).0) e
  where
    same_kind : (z s a z' s' a' : Bool) → label_in z s a (decimal j) ≡ label_in z' s' a' (decimal k) → kind_in z s ≡ kind_in z' s'
    same_kind z s a z' s' a' q = sym (kind_of z s a (decimal j)) ∙ ap kind q ∙ kind_of z' s' a' (decimal k)

    go : (z z' s s' a a' : Bool) → (z ≡ true → j ≡ 0) → (z' ≡ true → k ≡ 0) → (s ≡ true → j ≡ skip_state B) → (s' ≡ true → k ≡ skip_state B)
        → label_in z s a (decimal j) ≡ label_in z' s' a' (decimal k) → j ≡ k
    go true true s s' a a' f g h i q = f refl ∙ sym (g refl)
    go false false true true a a' f g h i q = h refl ∙ sym (i refl)
    go false false false false a a' f g h i q =
        let same : decimal j ≡ decimal k = sym (digits_of_label a (decimal j)) ∙ ap digits_behind q ∙ digits_of_label a' (decimal k) in
        sym (decimal_value j l) ∙ ap number_of same ∙ decimal_value k m
    go true false s true a a' f g h i q = let d = same_kind true s a false true a' q in absurd (omega (arith, d))
    go true false s false a a' f g h i q = let d = same_kind true s a false false a' q in absurd (omega (arith, d))
    go false true true s' a a' f g h i q = let d = same_kind false true a true s' a' q in absurd (omega (arith, d))
    go false true false s' a a' f g h i q = let d = same_kind false false a true s' a' q in absurd (omega (arith, d))
    go false false true false a a' f g h i q = let d = same_kind false true a false false a' q in absurd (omega (arith, d))
    go false false false true a a' f g h i q = let d = same_kind false false a false true a' q in absurd (omega (arith, d))

-- ---- no `*` stands in a formula's text

name_byte_plain : (b : ℕ) → is_name_byte b ≡ true → no_star b ≡ true
name_byte_plain b e = grind (arith, nat_tests, e)

unary_plain : (op : UnaryOperator) → list_all no_star (unary_text op) ≡ true
unary_plain Not = refl
unary_plain _ = refl

binary_plain : (op : BinaryOperator) → list_all no_star (binary_text op) ≡ true
binary_plain And = refl
binary_plain _ = refl

formula_plain : (R : Reading) → list_all is_proposition R.names ≡ true → list_all no_star (canonical_text R) ≡ true
formula_plain R e = formula_bytes no_star name_byte_plain unary_plain binary_plain refl refl R.names e R.formula

-- ---- guards

module _ (names : List Name) where
  -- each proposition of the cube has a name
  abbrev pub IsSpoken : Cube → Type 0
  IsSpoken c = (l : Literal) → Has c l → IsClaimName (slice_index_or names l.proposition [])

  literal_spelled : (l : Literal) (rest : List ℕ) → IsClaimName (slice_index_or names l.proposition []) → StopsAt is_word_byte rest
      → claim_tokens (literal_text names l ++ rest) ≡ literal_tokens names l ++ claim_tokens rest
  literal_spelled l rest n s = go l.positive
    where
      go : (b : Bool) → claim_tokens ((if b then slice_index_or names l.proposition [] else codes "!" ++ slice_index_or names l.proposition []) ++ rest)
          ≡ (if b then Word (slice_index_or names l.proposition []) ∷ [] else NotSign ∷ Word (slice_index_or names l.proposition []) ∷ []) ++ claim_tokens rest
      go true = name_spelled (slice_index_or names l.proposition []) rest n s
      go false = ap (λ ts. NotSign ∷ ts) (name_spelled (slice_index_or names l.proposition []) rest n s)

  abbrev more_text : Cube → List ℕ
  more_text ls = flat_map (λ m. codes " && " ++ literal_text names m) ls

  stops_more : (ls : Cube) (rest : List ℕ) → StopsAt is_word_byte (more_text ls ++ 41 ∷ rest)
  stops_more [] rest = refl
  stops_more (m ∷ ls) rest = refl

  more_spelled : (ls : Cube) (rest : List ℕ) → IsSpoken ls → claim_tokens (more_text ls ++ 41 ∷ rest) ≡ more_tokens names ls ++ CloseBracket ∷ claim_tokens rest
  more_spelled [] rest n = refl
  more_spelled (m ∷ ls) rest n =
      ap (λ ts. AndSign ∷ ts) (
      ap claim_tokens (append_assoc (literal_text names m) (more_text ls) (41 ∷ rest)) ∙ literal_spelled m (more_text ls ++ 41 ∷ rest) (n m (inl refl)) (stops_more ls rest)
      ∙ ap (λ ts. literal_tokens names m ++ ts) (more_spelled ls rest (λ l h. n l (inr h)))
      ∙ sym (append_assoc (literal_tokens names m) (more_tokens names ls) (CloseBracket ∷ claim_tokens rest)))

  cube_spelled : (c : Cube) → IsSpoken c → Spelled (cube_text names c) (cube_tokens names c)
  cube_spelled [] n rest = refl
  cube_spelled (l ∷ ls) n rest =
      let tokens = literal_tokens names l ++ more_tokens names ls in
      ap (λ ts. OpenBracket ∷ ts) (
      ap claim_tokens (ap (λ t. (t ++ 41 ∷ []) ++ rest) (joined_text (codes " && ") (literal_text names) l ls) ∙ append_assoc (literal_text names l ++ more_text ls) (41 ∷ []) rest ∙ append_assoc (literal_text names l) (more_text ls) (41 ∷ rest))
      ∙ literal_spelled l (more_text ls ++ 41 ∷ rest) (n l (inl refl)) (stops_more ls rest)
      ∙ ap (λ ts. literal_tokens names l ++ ts) (more_spelled ls rest (λ m h. n m (inr h)))
      ∙ sym (append_assoc (literal_tokens names l) (more_tokens names ls) (CloseBracket ∷ claim_tokens rest))
      ∙ sym (append_assoc tokens (CloseBracket ∷ []) (claim_tokens rest)))

  -- the labels of some edges
  guard_spelled : (e : Edge) (es : List Edge) → ((f : Edge) → Has (e ∷ es) f → IsSpoken f.cube)
      → Spelled (joined_by (codes " || ") (map (λ f. cube_text names f.cube) (e ∷ es))) (guard_tokens names (map (λ f. f.cube) (e ∷ es)))
  guard_spelled e es n rest =
      ap (λ t. claim_tokens (t ++ rest)) (joined_text (codes " || ") (λ f. cube_text names f.cube) e es)
      ∙ spelled_both (cube_text names e.cube) (flat_map (λ f. codes " || " ++ cube_text names f.cube) es) (cube_tokens names e.cube) (flat_map (λ d. OrSign ∷ cube_tokens names d) (map (λ f. f.cube) es))
      (cube_spelled e.cube (n e (inl refl)))
      (spelled_all (λ f. codes " || " ++ cube_text names f.cube) (λ f. f.cube) (λ d. OrSign ∷ cube_tokens names d) es (λ f h r. ap (λ ts. OrSign ∷ ts) (cube_spelled f.cube (n f (inr h)) r))) rest

-- ---- the blocks of an automaton

module _ (B : Automaton) where
  abbrev pub edges_to : State → ℕ → List Edge
  edges_to s t = filter (λ e. e.target == t) s.edges

  abbrev pub targets : State → List ℕ
  targets s = set_of nat_cmp (map (λ e. e.target) s.edges)

  -- the way to a target
  abbrev pub way_to : State → ℕ → Way
  way_to s t = (map (λ e. e.cube) (edges_to s t), label_of B t)

  abbrev pub ways_of : State → List Way
  ways_of s = map (way_to s) (targets s)

  abbrev pub block_at : ℕ → Name × List Way
  block_at k = (label_of B k, ways_of (state_at B k))

  -- the states that are written first, and the label of the one that stands last
  abbrev pub first_states : List ℕ
  first_states = filter (λ k. not (k == skip_state B)) (numbers B)

  abbrev pub last_states : List ℕ
  last_states = filter (λ k. k == skip_state B) (numbers B)

  abbrev pub AreSmall : List ℕ → Type 0
  AreSmall ks = (k : ℕ) → Has ks k → k < 2 ^ 64

  pub label_fine : (k : ℕ) → k < 2 ^ 64 → IsClaimName (label_of B k)
  label_fine k l = label_name (k == 0) (k == skip_state B) (state_at B k).accepting k l

  module _ (names : List Name) where
    -- the labels of the state's edges have names, and its targets are small
    pub record IsWritable (s : State) : Type 0 where
      pub spoken : (e : Edge) → Has s.edges e → IsSpoken names e.cube
      pub targets : AreSmall (targets s)

    option_text : (label rest guard : List ℕ) → indented (codes ":: " ++ guard ++ codes " -> goto " ++ label) ++ rest ≡ 9 ∷ 58 ∷ 58 ∷ 32 ∷ (guard ++ codes " -> goto " ++ (label ++ 10 ∷ rest))
    option_text label rest guard = simp append_assoc

    way_spelled : (s : State) → IsWritable s → (t : ℕ) → Has (targets s) t → Spelled (option_line B names s t) (way_tokens names (way_to s t))
    way_spelled s w t h = go (edges_to s t) (λ e m. (filter_cases (λ f. f.target == t) s.edges e m).0) there
      where
        there : (e : Edge) × Has (edges_to s t) e
        there =
            let (e, m, q) = map_cases (λ f. f.target) s.edges t (set_of_cases nat_linear (map (λ f. f.target) s.edges) t h) in
            (e, Has-filter (λ f. f.target == t) s.edges e m ((Decides-eqb e.target t).1 (sym q)))

        go : (es : List Edge) → ((e : Edge) → Has es e → Has s.edges e) → (e : Edge) × Has es e
            → Spelled (indented (codes ":: " ++ joined_by (codes " || ") (map (λ e. cube_text names e.cube) es) ++ codes " -> goto " ++ label_of B t)) (way_tokens names (map (λ e. e.cube) es, label_of B t))
        go [] i m rest = absurd m.1
        go (e ∷ es) i m rest =
            let guard = joined_by (codes " || ") (map (λ f. cube_text names f.cube) (e ∷ es)) in
            let tokens = guard_tokens names (map (λ f. f.cube) (e ∷ es)) in
            ap claim_tokens (option_text (label_of B t) rest guard)
            ∙ ap (λ ts. OptionSign ∷ ts) (
            ap claim_tokens (append_assoc guard (codes " -> goto ") (label_of B t ++ 10 ∷ rest))
            ∙ guard_spelled names e es (λ f h. w.spoken f (i f h)) (codes " -> goto " ++ (label_of B t ++ 10 ∷ rest))
            ∙ ap (λ ts. tokens ++ Separator ∷ Goto ∷ ts) (name_spelled (label_of B t) (10 ∷ rest) (label_fine t (w.targets t h)) refl)
            ∙ sym (append_assoc (tokens ++ Separator ∷ []) (Goto ∷ Word (label_of B t) ∷ []) (claim_tokens rest) ∙ append_assoc tokens (Separator ∷ []) (Goto ∷ Word (label_of B t) ∷ claim_tokens rest)))

    if_spelled : Spelled (indented (codes "if")) (If ∷ [])
    if_spelled rest = refl

    fi_spelled : Spelled (indented (codes "fi;")) (Fi ∷ Separator ∷ [])
    fi_spelled rest = refl

    choice_spelled : (s : State) → IsWritable s → (ts : List ℕ) → ((t : ℕ) → Has ts t → Has (targets s) t) → (t : ℕ) × Has ts t
        → Spelled (indented (codes "if") ++ flat_map (option_line B names s) ts ++ indented (codes "fi;")) (ways_tokens names (map (way_to s) ts))
    choice_spelled s w [] i (t, m) = absurd m
    choice_spelled s w (t ∷ ts) i m =
        spelled_both (indented (codes "if") ++ flat_map (option_line B names s) (t ∷ ts)) (indented (codes "fi;")) (If ∷ flat_map (way_tokens names) (map (way_to s) (t ∷ ts))) (Fi ∷ Separator ∷ [])
        (spelled_both (indented (codes "if")) (flat_map (option_line B names s) (t ∷ ts)) (If ∷ []) (flat_map (way_tokens names) (map (way_to s) (t ∷ ts))) if_spelled
        (spelled_all (option_line B names s) (way_to s) (way_tokens names) (t ∷ ts) (λ u h. way_spelled s w u (i u h)))) fi_spelled

    options_spelled : (s : State) → IsWritable s → Spelled (options B names s s.edges) (ways_tokens names (ways_of s))
    options_spelled s w = go s.edges refl
      where
        go : (es : List Edge) → s.edges ≡ es → Spelled (options B names s es) (ways_tokens names (ways_of s))
        go [] e = λ rest. ap (λ es. ways_tokens names (map (way_to s) (set_of nat_cmp (map (λ f. f.target) es))) ++ claim_tokens rest) (sym e)
        go (f ∷ fs) e = choice_spelled s w (targets s) (λ t h. h) (f.target, Has-set_of nat_linear (map (λ g. g.target) s.edges) f.target (Has-map (λ g. g.target) s.edges f (subst (λ es. Has es f) (sym e) (inl refl))))

    label_line : (k : ℕ) → k < 2 ^ 64 → Spelled (line (label_of B k ++ codes ":")) (Word (label_of B k) ∷ Colon ∷ [])
    label_line k l rest =
        ap claim_tokens (append_assoc (label_of B k ++ codes ":") (10 ∷ []) rest ∙ append_assoc (label_of B k) (codes ":") (10 ∷ rest))
        ∙ name_spelled (label_of B k) (58 ∷ 10 ∷ rest) (label_fine k l) refl

    block_spelled : (k : ℕ) → k < 2 ^ 64 → (k == skip_state B) ≡ false → IsWritable (state_at B k) → Spelled (block B names k) (block_tokens names (ways_block (block_at k)))
    block_spelled k l n w =
        subst (λ c. Spelled (line (label_of B k ++ codes ":") ++ (if c then indented (codes "skip") else options B names (state_at B k) (state_at B k).edges)) (block_tokens names (ways_block (block_at k)))) (sym n)
        (spelled_both (line (label_of B k ++ codes ":")) (options B names (state_at B k) (state_at B k).edges) (Word (label_of B k) ∷ Colon ∷ []) (ways_tokens names (ways_of (state_at B k))) (label_line k l) (options_spelled (state_at B k) w))

    pub skip_spelled : (k : ℕ) → k < 2 ^ 64 → (k == skip_state B) ≡ true → Spelled (block B names k) (block_tokens names (label_of B k, Skips))
    skip_spelled k l y =
        subst (λ c. Spelled (line (label_of B k ++ codes ":") ++ (if c then indented (codes "skip") else options B names (state_at B k) (state_at B k).edges)) (block_tokens names (label_of B k, Skips))) (sym y)
        (spelled_both (line (label_of B k ++ codes ":")) (indented (codes "skip")) (Word (label_of B k) ∷ Colon ∷ []) (Truth true ∷ []) (label_line k l) (λ rest. refl))

-- the first line
head_spelled : (R : Reading) → list_all is_proposition R.names ≡ true → Spelled (line (codes "never { /* " ++ canonical_text R ++ codes " */")) (Never ∷ OpenBrace ∷ [])
head_spelled R e rest =
    ap (λ t. claim_tokens (codes "never { /* " ++ t)) (shorter (canonical_text R))
    ∙ ap (λ ts. Never ∷ OpenBrace ∷ ts) (comment_spelled (32 ∷ canonical_text R ++ 32 ∷ []) (all_append no_star (32 ∷ canonical_text R) (32 ∷ []) (formula_plain R e) refl) (10 ∷ rest))
  where
    shorter : (text : List ℕ) → ((text ++ codes " */") ++ 10 ∷ []) ++ rest ≡ ((text ++ 32 ∷ []) ++ codes "*/") ++ 10 ∷ rest
    shorter text = simp append_assoc

-- the tokens of the whole text
pub never_tokens : (B : Automaton) (R : Reading) → list_all is_proposition R.names ≡ true → ((k : ℕ) → Has (numbers B) k → (k < 2 ^ 64) × IsWritable B R.names (state_at B k)) → (last : Option Name)
    → Spelled (flat_map (block B R.names) (last_states B)) (flat_map (block_tokens R.names) (last_blocks last))
    → claim_tokens (never_text B R) ≡ Never ∷ OpenBrace ∷ flat_map (block_tokens R.names) (map (λ k. ways_block (block_at B k)) (first_states B)) ++ (flat_map (block_tokens R.names) (last_blocks last) ++ CloseBrace ∷ [])
never_tokens B R e w last spelled =
    let first_text = line (codes "never { /* " ++ canonical_text R ++ codes " */") in
    let states_text = flat_map (block B R.names) (first_states B) in
    let last_text = flat_map (block B R.names) (last_states B) in
    ap claim_tokens (append_assoc (first_text ++ states_text) last_text (line (codes "}")) ∙ append_assoc first_text states_text (last_text ++ line (codes "}")))
    ∙ head_spelled R e (states_text ++ (last_text ++ line (codes "}")))
    ∙ ap (λ ts. Never ∷ OpenBrace ∷ ts) (
    spelled_all (block B R.names) (λ k. ways_block (block_at B k)) (block_tokens R.names) (first_states B) each (last_text ++ line (codes "}"))
    ∙ ap (λ ts. flat_map (block_tokens R.names) (map (λ k. ways_block (block_at B k)) (first_states B)) ++ ts) (spelled (line (codes "}"))))
  where
    other : (c : Bool) → not c ≡ true → c ≡ false
    other true q = sym q
    other false q = refl

    each : (k : ℕ) → Has (first_states B) k → Spelled (block B R.names k) (block_tokens R.names (ways_block (block_at B k)))
    each k h =
        let (m, q) = filter_cases (λ j. not (j == skip_state B)) (numbers B) k h in
        let (l, v) = w k m in
        block_spelled B R.names k l (other (k == skip_state B) q) v
