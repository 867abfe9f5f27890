-- The tokens of the lines of an automaton's text that was printed, with sets on the edges.
use Rattle.std.proofs.Common.{◌≡◌, ℕ, zero, suc, ◌+◌, ◌^◌, ◌<◌, Bool, true, false, inl, inr, List, [], ◌∷◌, ◌++◌, length, map, Option, Some, None, codes, refl, sym, ◌∙◌, ap, arith, append_assoc}
use Rattle.std.specs.Prelude.{if◌then◌else◌, flat_map, fold, decimal}
use Rattle.std.specs.List.{list_all, range_with_len}
use Rattle.std.proofs.lemmas.List.{append-nil}
use Rattle.ltl_spec.specs.Collections.Sets.{Has}
use Rattle.ltl_spec.specs.Collections.Lists.{joined_by}
use Rattle.ltl_spec.specs.Semantics.Word.{Name}
use Rattle.ltl_spec.specs.Transitions.Cubes.{Literal, Cube}
use Rattle.ltl_spec.specs.Automata.Automaton.{Automaton, Edge, state_at}
use Rattle.ltl_spec.specs.Automata.ClaimText.{line}
use Rattle.ltl_spec.specs.Automata.HoaText.{quoted, label_literal, label_text, names_line}
use Rattle.ltl_spec.specs.Automata.GeneralizedText.{marks_text, marked_edge_line, marked_state_lines, acceptance_name, acceptance_text}
use Rattle.ltl_spec.specs.Hoa.HoaToken.{HoaToken, StringToken, Identifier, Header, Int, Body, End, OpenLabel, CloseLabel, OpenSets, CloseSets, OpenBracket, NotSign, AndSign, hoa_tokens, is_digit}
use Rattle.ltl_spec.specs.Hoa.HoaLabel.{Label, ConstantLabel, NumberLabel, NotLabel, AndLabel, label_tokens}
use Rattle.ltl_spec.specs.Hoa.HoaReading.{SetsItem, header_item_tokens, set_tokens, WrittenEdge, WrittenState, sets_tokens, edge_tokens, state_tokens}
use Rattle.ltl_spec.proofs.Hoa.SpelledLaws.{Spells, spells_both, spells_all, any_line, StopsAt, number_spelled, number_line, is_clean, string_spelled}

-- ---- the lines of the header

pub format_line : Spells (line (codes "HOA: v1")) (Header (codes "HOA") ∷ Identifier (codes "v1") ∷ [])
format_line rest = ap (λ ts. Header (codes "HOA") ∷ Identifier (codes "v1") ∷ ts) (any_line 2 rest)

pub name_line : (text : List ℕ) → list_all is_clean text ≡ true → Spells (line (codes "name: " ++ quoted text)) (Header (codes "name") ∷ StringToken text ∷ [])
name_line text e rest =
    ap (λ ts. Header (codes "name") ∷ ts) (
    ap hoa_tokens (append_assoc (quoted text) (10 ∷ []) rest) ∙ string_spelled text e (10 ∷ rest) ∙ ap (λ ts. StringToken text ∷ ts) (any_line 2 rest))

pub states_line : (n : ℕ) → n < 2 ^ 64 → Spells (line (codes "States: " ++ decimal n)) (Header (codes "States") ∷ Int n ∷ [])
states_line n l rest = ap (λ ts. Header (codes "States") ∷ ts) (number_line n l rest)

pub start_line : Spells (line (codes "Start: 0")) (Header (codes "Start") ∷ Int 0 ∷ [])
start_line rest = ap (λ ts. Header (codes "Start") ∷ Int 0 ∷ ts) (any_line 2 rest)

pub one_name : (text : List ℕ) → list_all is_clean text ≡ true → Spells (32 ∷ quoted text) (StringToken text ∷ [])
one_name text e rest = string_spelled text e rest

pub all_names : (names : List Name) → ((n : Name) → Has names n → list_all is_clean n ≡ true) → Spells (flat_map (λ n. 32 ∷ quoted n) names) (map StringToken names)
all_names [] e = λ rest. refl
all_names (n ∷ names) e = spells_both (32 ∷ quoted n) (flat_map (λ m. 32 ∷ quoted m) names) (StringToken n ∷ []) (map StringToken names) (one_name n (e n (inl refl))) (all_names names (λ m h. e m (inr h)))

-- no digit stands before the names
pub stops_names : (names : List Name) (rest : List ℕ) → StopsAt is_digit (flat_map (λ n. 32 ∷ quoted n) names ++ 10 ∷ rest)
stops_names [] rest = refl
stops_names (n ∷ names) rest = refl

pub names_spelled : (names : List Name) → length names < 2 ^ 64 → ((n : Name) → Has names n → list_all is_clean n ≡ true)
    → Spells (names_line names) (Header (codes "AP") ∷ Int (length names) ∷ map StringToken names)
names_spelled names l e rest =
    let text = flat_map (λ n. 32 ∷ quoted n) names in
    ap (λ ts. Header (codes "AP") ∷ ts) (
    ap hoa_tokens (append_assoc (decimal (length names) ++ text) (10 ∷ []) rest ∙ append_assoc (decimal (length names)) text (10 ∷ rest))
    ∙ number_spelled (length names) (text ++ 10 ∷ rest) l (stops_names names rest)
    ∙ ap (λ ts. Int (length names) ∷ ts) (all_names names e (10 ∷ rest) ∙ ap (λ ts. map StringToken names ++ ts) (any_line 2 rest)))

-- the words for the acceptance that tools may know
abbrev pub name_of_acceptance : ℕ → List HoaToken
name_of_acceptance zero = Identifier (codes "all") ∷ []
name_of_acceptance (suc n) = Identifier (codes "generalized-Buchi") ∷ Int (suc n) ∷ []

pub acceptance_name_line : (n : ℕ) → n < 2 ^ 64 → Spells (line (codes "acc-name: " ++ acceptance_name n)) (Header (codes "acc-name") ∷ name_of_acceptance n)
acceptance_name_line zero l rest = ap (λ ts. Header (codes "acc-name") ∷ Identifier (codes "all") ∷ ts) (any_line 2 rest)
acceptance_name_line (suc n) l rest = ap (λ ts. Header (codes "acc-name") ∷ Identifier (codes "generalized-Buchi") ∷ ts) (number_line (suc n) l rest)

-- one set, and those behind the first
abbrev set_text : ℕ → List ℕ
set_text k = codes "Inf(" ++ decimal k ++ codes ")"

set_spelled : (k : ℕ) → k < 2 ^ 64 → Spells (set_text k) (set_tokens k)
set_spelled k l rest =
    ap (λ ts. Identifier (codes "Inf") ∷ OpenBracket ∷ ts) (ap hoa_tokens (append_assoc (decimal k) (41 ∷ []) rest) ∙ number_spelled k (41 ∷ rest) l refl)

pub joined_pieces : (between x : List ℕ) (xs : List (List ℕ)) → joined_by between (x ∷ xs) ≡ x ++ flat_map (λ y. between ++ y) xs
joined_pieces between x [] = sym (append-nil x)
joined_pieces between x (y ∷ xs) =
    let more = flat_map (λ z. between ++ z) xs in
    ap (λ t. x ++ between ++ t) (joined_pieces between y xs) ∙ append_assoc x between (y ++ more) ∙ ap (λ t. x ++ t) (sym (append_assoc between y more))

mapped_pieces : {K : Type 0} (between : List ℕ) (f : K → List ℕ) (xs : List K) → flat_map (λ y. between ++ y) (map f xs) ≡ flat_map (λ x. between ++ f x) xs
mapped_pieces between f [] = refl
mapped_pieces between f (x ∷ xs) = ap (λ t. (between ++ f x) ++ t) (mapped_pieces between f xs)

pub joined_text : {K : Type 0} (between : List ℕ) (f : K → List ℕ) (x : K) (xs : List K) → joined_by between (map f (x ∷ xs)) ≡ f x ++ flat_map (λ y. between ++ f y) xs
joined_text between f x xs = joined_pieces between (f x) (map f xs) ∙ ap (λ t. f x ++ t) (mapped_pieces between f xs)

more_sets : (a n : ℕ) → a + n < 2 ^ 64 → Spells (flat_map (λ k. codes "&" ++ set_text k) (range_with_len a n)) (flat_map (λ k. AndSign ∷ set_tokens k) (range_with_len a n))
more_sets a zero l = λ rest. refl
more_sets a (suc n) l =
    spells_both (codes "&" ++ set_text a) (flat_map (λ k. codes "&" ++ set_text k) (range_with_len (a + 1) n)) (AndSign ∷ set_tokens a) (flat_map (λ k. AndSign ∷ set_tokens k) (range_with_len (a + 1) n))
    (λ rest. ap (λ ts. AndSign ∷ ts) (set_spelled a (omega (arith, l)) rest)) (more_sets (a + 1) n (omega (arith, l)))

all_sets : (n : ℕ) → suc n < 2 ^ 64 → Spells (joined_by (codes "&") (map set_text (range_with_len 0 (suc n)))) (set_tokens 0 ++ flat_map (λ k. AndSign ∷ set_tokens k) (range_with_len 1 n))
all_sets n l rest =
    ap (λ t. hoa_tokens (t ++ rest)) (joined_text (codes "&") set_text 0 (range_with_len 1 n))
    ∙ spells_both (set_text 0) (flat_map (λ k. codes "&" ++ set_text k) (range_with_len 1 n)) (set_tokens 0) (flat_map (λ k. AndSign ∷ set_tokens k) (range_with_len 1 n))
    (set_spelled 0 (omega arith)) (more_sets 1 n (one_more n l)) rest
  where
    one_more : (n : ℕ) → suc n < 2 ^ 64 → 1 + n < 2 ^ 64
    one_more n l = omega (arith, l)

-- a text, the end of its line, and the rest
line_of : (text rest : List ℕ) → (text ++ 10 ∷ []) ++ rest ≡ text ++ 10 ∷ rest
line_of text rest = append_assoc text (10 ∷ []) rest

pub acceptance_line : (n : ℕ) → n < 2 ^ 64 → Spells (line (codes "Acceptance: " ++ acceptance_text n)) (header_item_tokens (SetsItem n))
acceptance_line zero l rest = ap (λ ts. Header (codes "Acceptance") ∷ Int 0 ∷ Identifier (codes "t") ∷ ts) (any_line 2 rest)
acceptance_line (suc n) l rest =
    let sets = joined_by (codes "&") (map set_text (range_with_len 0 (suc n))) in
    ap (λ ts. Header (codes "Acceptance") ∷ ts) (
    ap hoa_tokens (line_of (decimal (suc n) ++ codes " " ++ sets) rest ∙ append_assoc (decimal (suc n) ++ codes " ") sets (10 ∷ rest) ∙ append_assoc (decimal (suc n)) (codes " ") (sets ++ 10 ∷ rest))
    ∙ number_spelled (suc n) (32 ∷ (sets ++ 10 ∷ rest)) l refl
    ∙ ap (λ ts. Int (suc n) ∷ ts) (all_sets n l (10 ∷ rest) ∙ ap (λ ts. (set_tokens 0 ++ flat_map (λ k. AndSign ∷ set_tokens k) (range_with_len 1 n)) ++ ts) (any_line 2 rest)))

pub properties_line : Spells (line (codes "properties: trans-labels explicit-labels trans-acc"))
    (Header (codes "properties") ∷ Identifier (codes "trans-labels") ∷ Identifier (codes "explicit-labels") ∷ Identifier (codes "trans-acc") ∷ [])
properties_line rest = ap (λ ts. Header (codes "properties") ∷ Identifier (codes "trans-labels") ∷ Identifier (codes "explicit-labels") ∷ Identifier (codes "trans-acc") ∷ ts) (any_line 2 rest)

pub body_line : Spells (line (codes "--BODY--")) (Body ∷ [])
body_line rest = ap (λ ts. Body ∷ ts) (any_line 2 rest)

pub end_line : Spells (line (codes "--END--")) (End ∷ [])
end_line rest = ap (λ ts. End ∷ ts) (any_line 2 rest)

-- ---- labels

-- the label that is written for a literal, and for a cube
abbrev pub literal_label : Literal → Label
literal_label l = if l.positive then NumberLabel l.proposition else NotLabel (NumberLabel l.proposition)

abbrev pub cube_label : Cube → Label
cube_label [] = ConstantLabel true
cube_label (l ∷ ls) = fold (λ a m. AndLabel a (literal_label m)) (literal_label l) ls

pub literal_spelled : (l : Literal) (rest : List ℕ) → l.proposition < 2 ^ 64 → StopsAt is_digit rest → hoa_tokens (label_literal l ++ rest) ≡ label_tokens (literal_label l) ++ hoa_tokens rest
literal_spelled l rest n s = go l.positive
  where
    go : (c : Bool) → hoa_tokens ((if c then decimal l.proposition else codes "!" ++ decimal l.proposition) ++ rest)
        ≡ label_tokens (if c then NumberLabel l.proposition else NotLabel (NumberLabel l.proposition)) ++ hoa_tokens rest
    go true = number_spelled l.proposition rest n s
    go false = ap (λ ts. NotSign ∷ ts) (number_spelled l.proposition rest n s)

-- the literals behind the first one, as text and as tokens
abbrev pub more_text : Cube → List ℕ
more_text ls = flat_map (λ m. 38 ∷ label_literal m) ls

abbrev pub more_tokens : Cube → List HoaToken
more_tokens ls = flat_map (λ m. AndSign ∷ label_tokens (literal_label m)) ls

pub folded_tokens : (a : Label) (ls : Cube) → label_tokens (fold (λ b m. AndLabel b (literal_label m)) a ls) ≡ label_tokens a ++ more_tokens ls
folded_tokens a [] = sym (append-nil (label_tokens a))
folded_tokens a (m ∷ ls) = folded_tokens (AndLabel a (literal_label m)) ls ∙ append_assoc (label_tokens a) (AndSign ∷ label_tokens (literal_label m)) (more_tokens ls)

pub stops_more : (ls : Cube) (rest : List ℕ) → StopsAt is_digit (more_text ls ++ 93 ∷ rest)
stops_more [] rest = refl
stops_more (m ∷ ls) rest = refl

pub more_spelled : (ls : Cube) (rest : List ℕ) → ((l : Literal) → Has ls l → l.proposition < 2 ^ 64) → hoa_tokens (more_text ls ++ 93 ∷ rest) ≡ more_tokens ls ++ CloseLabel ∷ hoa_tokens rest
more_spelled [] rest n = refl
more_spelled (m ∷ ls) rest n =
    ap (λ ts. AndSign ∷ ts) (
    ap hoa_tokens (append_assoc (label_literal m) (more_text ls) (93 ∷ rest)) ∙ literal_spelled m (more_text ls ++ 93 ∷ rest) (n m (inl refl)) (stops_more ls rest)
    ∙ ap (λ ts. label_tokens (literal_label m) ++ ts) (more_spelled ls rest (λ l h. n l (inr h)))
    ∙ sym (append_assoc (label_tokens (literal_label m)) (more_tokens ls) (CloseLabel ∷ hoa_tokens rest)))

pub label_spelled : (c : Cube) (rest : List ℕ) → ((l : Literal) → Has c l → l.proposition < 2 ^ 64) → hoa_tokens (label_text c ++ 93 ∷ rest) ≡ label_tokens (cube_label c) ++ CloseLabel ∷ hoa_tokens rest
label_spelled [] rest n = refl
label_spelled (l ∷ ls) rest n =
    ap (λ t. hoa_tokens (t ++ 93 ∷ rest)) (joined_text (codes "&") label_literal l ls) ∙ ap hoa_tokens (append_assoc (label_literal l) (more_text ls) (93 ∷ rest))
    ∙ literal_spelled l (more_text ls ++ 93 ∷ rest) (n l (inl refl)) (stops_more ls rest)
    ∙ ap (λ ts. label_tokens (literal_label l) ++ ts) (more_spelled ls rest (λ m h. n m (inr h)))
    ∙ sym (append_assoc (label_tokens (literal_label l)) (more_tokens ls) (CloseLabel ∷ hoa_tokens rest))
    ∙ ap (λ ts. ts ++ CloseLabel ∷ hoa_tokens rest) (sym (folded_tokens (literal_label l) ls))

-- ---- edges and states

-- sets are written where there are some
abbrev pub written_marks : List ℕ → Option (List ℕ)
written_marks [] = None
written_marks (k ∷ ks) = Some (k ∷ ks)

abbrev pub written_edge : Edge → WrittenEdge
written_edge e = record { label = cube_label e.cube; target = e.target; sets = written_marks e.marks }

abbrev pub written_state : Automaton → ℕ → WrittenState
written_state A k = record { number = k; name = None; sets = None; edges = map written_edge (state_at A k).edges }

-- numbers that can be printed
pub record IsSmallEdge (e : Edge) : Type 0 where
  pub cube : (l : Literal) → Has e.cube l → l.proposition < 2 ^ 64
  pub target : e.target < 2 ^ 64
  pub marks : (k : ℕ) → Has e.marks k → k < 2 ^ 64

stops_marks : (ks rest : List ℕ) → StopsAt is_digit (flat_map (λ k. codes " " ++ decimal k) ks ++ 125 ∷ rest)
stops_marks [] rest = refl
stops_marks (k ∷ ks) rest = refl

more_marks : (ks rest : List ℕ) → ((k : ℕ) → Has ks k → k < 2 ^ 64) → hoa_tokens (flat_map (λ k. codes " " ++ decimal k) ks ++ 125 ∷ rest) ≡ map Int ks ++ CloseSets ∷ hoa_tokens rest
more_marks [] rest s = refl
more_marks (k ∷ ks) rest s =
    let more = flat_map (λ j. codes " " ++ decimal j) ks in
    ap hoa_tokens (append_assoc (codes " " ++ decimal k) more (125 ∷ rest)) ∙ number_spelled k (more ++ 125 ∷ rest) (s k (inl refl)) (stops_marks ks rest)
    ∙ ap (λ ts. Int k ∷ ts) (more_marks ks rest (λ j h. s j (inr h)))

-- the sets of an edge, and the end of its line
marks_spelled : (ks rest : List ℕ) → ((k : ℕ) → Has ks k → k < 2 ^ 64) → hoa_tokens (marks_text ks ++ 10 ∷ rest) ≡ sets_tokens (written_marks ks) ++ hoa_tokens rest
marks_spelled [] rest s = any_line 2 rest
marks_spelled (k ∷ ks) rest s =
    let more = flat_map (λ j. codes " " ++ decimal j) ks in
    let joined = joined_by (codes " ") (map decimal (k ∷ ks)) in
    ap (λ t. hoa_tokens (codes " {" ++ t)) (append_assoc joined (125 ∷ []) (10 ∷ rest) ∙ ap (λ t. t ++ 125 ∷ 10 ∷ rest) (joined_text (codes " ") decimal k ks) ∙ append_assoc (decimal k) more (125 ∷ 10 ∷ rest))
    ∙ ap (λ ts. OpenSets ∷ ts) (
    number_spelled k (more ++ 125 ∷ 10 ∷ rest) (s k (inl refl)) (stops_marks ks (10 ∷ rest))
    ∙ ap (λ ts. Int k ∷ ts) (more_marks ks (10 ∷ rest) (λ j h. s j (inr h)) ∙ ap (λ ts. map Int ks ++ CloseSets ∷ ts) (any_line 2 rest) ∙ sym (append_assoc (map Int ks) (CloseSets ∷ []) (hoa_tokens rest))))

stops_line : (ks rest : List ℕ) → StopsAt is_digit (marks_text ks ++ 10 ∷ rest)
stops_line [] rest = refl
stops_line (k ∷ ks) rest = refl

-- the pieces of an edge in a row
edge_text : (label target marks rest : List ℕ) → ((codes "[" ++ label ++ codes "] " ++ target ++ marks) ++ 10 ∷ []) ++ rest ≡ 91 ∷ (label ++ 93 ∷ 32 ∷ (target ++ (marks ++ 10 ∷ rest)))
edge_text label target marks rest = simp append_assoc

pub edge_spelled : (e : Edge) → IsSmallEdge e → Spells (marked_edge_line e) (edge_tokens (written_edge e))
edge_spelled e s rest =
    ap hoa_tokens (edge_text (label_text e.cube) (decimal e.target) (marks_text e.marks) rest)
    ∙ ap (λ ts. OpenLabel ∷ ts) (
    label_spelled e.cube (32 ∷ (decimal e.target ++ (marks_text e.marks ++ 10 ∷ rest))) s.cube
    ∙ ap (λ ts. label_tokens (cube_label e.cube) ++ CloseLabel ∷ ts) (
    number_spelled e.target (marks_text e.marks ++ 10 ∷ rest) s.target (stops_line e.marks rest) ∙ ap (λ ts. Int e.target ∷ ts) (marks_spelled e.marks rest s.marks))
    ∙ sym (append_assoc (label_tokens (cube_label e.cube)) (CloseLabel ∷ Int e.target ∷ sets_tokens (written_marks e.marks)) (hoa_tokens rest)))

state_line : (k : ℕ) → k < 2 ^ 64 → Spells (line (codes "State: " ++ decimal k)) (Header (codes "State") ∷ Int k ∷ [])
state_line k l rest = ap (λ ts. Header (codes "State") ∷ ts) (number_line k l rest)

pub state_spelled : (A : Automaton) (k : ℕ) → k < 2 ^ 64 → ((e : Edge) → Has (state_at A k).edges e → IsSmallEdge e) → Spells (marked_state_lines A k) (state_tokens (written_state A k))
state_spelled A k l small =
    let es = (state_at A k).edges in
    spells_both (line (codes "State: " ++ decimal k)) (flat_map marked_edge_line es) (Header (codes "State") ∷ Int k ∷ []) (flat_map edge_tokens (map written_edge es))
    (state_line k l) (spells_all marked_edge_line written_edge edge_tokens es (λ e h. edge_spelled e (small e h)))
