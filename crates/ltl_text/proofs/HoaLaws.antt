-- A text in the Hanoi Omega-Automata format as what is put one after the other.
use Rattle.std.proofs.Common.{◌≡◌, ◌∙◌, ap, ap₂, sym, refl, ℕ, zero, suc, ◌+◌, ◌-◌, ◌<◌, Bool, false, List, [], ◌∷◌, ◌++◌, length, map, slice_index_or, All, append_assoc, append-nil, drop, arith}
use Rattle.std.specs.Prelude.{codes, if◌then◌else◌}
use Rattle.std.specs.Fmt.{decimal}
use Rattle.std.specs.List.{flat_map, range_with_len}
use Rattle.std.proofs.lemmas.List.{drop_more}
use Rattle.ltl_spec.specs.Collections.Lists.{joined_by}
use Rattle.ltl_spec.specs.Semantics.Word.{Name}
use Rattle.ltl_spec.specs.Formulas.Formula.{Reading}
use Rattle.ltl_spec.specs.Formulas.Canonical.{canonical_text}
use Rattle.ltl_spec.specs.Transitions.Cubes.{Literal, Cube}
use Rattle.ltl_spec.specs.Automata.Automaton.{Automaton, Edge, state_at}
use Rattle.ltl_spec.specs.Automata.HoaText.{edge_line, hoa_text, label_literal, label_text, state_lines, text_with}
use Rattle.ltl_spec.specs.Automata.GeneralizedText as acceptance
use Rattle.ltl_spec.specs.Automata.GeneralizedText.{acceptance_name, generalized_text, marked_edge_line, marked_state_lines, marks_text}
use Rattle.ltl_spec.specs.Automata.ClaimText.{line}
use Rattle.ltl_sets.specs.declared.literal.Literal as made
use Rattle.ltl_sets.specs.Literals.{literal_of, cube_of}
use Rattle.ltl_text.specs.HoaPieces.{condition_text, head_text, lines_text, marked_states_text, quoted_names, set_text, state_end, state_text, states_text, unnamed_head}
use Rattle.ltl_text.specs.NamedText.{named_text}
use Rattle.ltl_text.proofs.BlockLaws.{range_step}
use Rattle.ltl_text.proofs.TextLaws.{amid, joined_led, led, onward}

-- ---- a label
pub negative_label : (l : Literal) → l.positive ≡ false → label_literal l ≡ codes "!" ++ decimal l.proposition
negative_label l e = ap (λ (b : Bool). if b then decimal l.proposition else codes "!" ++ decimal l.proposition) e

abbrev pub labels_of : List made.Literal → List (List ℕ)
labels_of ls = map (λ l. label_literal (literal_of l)) ls

labels_are : (ls : List made.Literal) → map label_literal (cube_of ls) ≡ labels_of ls
labels_are [] = refl
labels_are (l ∷ ls) = ap (λ t. label_literal (literal_of l) ∷ t) (labels_are ls)

pub label_begins : (c : Cube) (l : made.Literal) (ls rest : List made.Literal) → cube_of rest ≡ c → rest ≡ l ∷ ls
    → label_text c ≡ label_literal (literal_of l) ++ led (codes "&") (labels_of ls)
label_begins c l ls rest e f =
    ap label_text (sym e ∙ ap cube_of f) ∙ joined_led (codes "&") (label_literal (literal_of l)) (map label_literal (cube_of ls))
    ∙ ap (λ t. label_literal (literal_of l) ++ led (codes "&") t) (labels_are ls)

pub label_goes_on : (rest : List made.Literal) (l : made.Literal) (ls : List made.Literal) → rest ≡ l ∷ ls
    → led (codes "&") (labels_of rest) ≡ codes "&" ++ (label_literal (literal_of l) ++ led (codes "&") (labels_of ls))
label_goes_on rest l ls e =
    ap (λ t. led (codes "&") (labels_of t)) e ∙ append_assoc (codes "&") (label_literal (literal_of l)) (led (codes "&") (labels_of ls))

-- ---- edges and states
pub edge_pieces : (e : Edge) → marked_edge_line e ≡ codes "[" ++ (label_text e.cube ++ (codes "] " ++ (decimal e.target ++ (marks_text e.marks ++ 10 ∷ []))))
edge_pieces e = regroup (codes "[") (label_text e.cube) (codes "] ") (decimal e.target) (marks_text e.marks) (10 ∷ [])
  where
    regroup : (a b c d m f : List ℕ) → ((((a ++ b) ++ c) ++ d) ++ m) ++ f ≡ a ++ (b ++ (c ++ (d ++ (m ++ f))))
    regroup a b c d m f = simp append_assoc

-- edges in no set
plain_edges : (es : List Edge) → All (λ e. e.marks ≡ []) es → flat_map marked_edge_line es ≡ flat_map edge_line es
plain_edges [] h = refl
plain_edges (e ∷ es) h = ap₂ (λ t u. t ++ u) (plain (h 0 e (omega arith))) (plain_edges es (λ k d lt. h (suc k) d (omega arith)))
  where
    start : List ℕ
    start = codes "[" ++ label_text e.cube ++ codes "] " ++ decimal e.target

    plain : e.marks ≡ [] → marked_edge_line e ≡ edge_line e
    plain none = ap (λ ms. (start ++ marks_text ms) ++ 10 ∷ []) none ∙ ap (λ t. t ++ 10 ∷ []) (append-nil start)

module _ (A : Automaton) (k : ℕ) (es : List Edge) (are : es ≡ (state_at A k).edges) where
  -- a state in a set where it is accepting, and its edges in none
  pub state_is : (in_set : Bool) → in_set ≡ (state_at A k).accepting → All (λ e. e.marks ≡ []) es → state_text k in_set es ≡ state_lines A k
  state_is in_set e plain =
      ap₂ (λ b t. codes "State: " ++ (decimal k ++ (state_end b ++ t))) e (plain_edges es plain ∙ ap (flat_map edge_line) are)
      ∙ sym (regroup (codes "State: ") (decimal k) (if (state_at A k).accepting then codes " {0}" else []) (10 ∷ []) (flat_map edge_line (state_at A k).edges))
    where
      regroup : (a b c d f : List ℕ) → (((a ++ b) ++ c) ++ d) ++ f ≡ a ++ (b ++ ((c ++ d) ++ f))
      regroup a b c d f = simp append_assoc

  -- a state in no set
  pub marked_state_is : state_text k false es ≡ marked_state_lines A k
  marked_state_is =
      ap (λ l. codes "State: " ++ (decimal k ++ (10 ∷ flat_map marked_edge_line l))) are
      ∙ sym (regroup (codes "State: ") (decimal k) (10 ∷ []) (flat_map marked_edge_line (state_at A k).edges))
    where
      regroup : (a b c d : List ℕ) → ((a ++ b) ++ c) ++ d ≡ a ++ (b ++ (c ++ d))
      regroup a b c d = simp append_assoc

-- the states from k on, of so many
module _ (lines : ℕ → List ℕ) (count : ℕ) where
  abbrev pub states_from : ℕ → List ℕ
  states_from k = flat_map lines (range_with_len k (count - k))

  pub states_begin : flat_map lines (range_with_len 0 count) ≡ states_from 0
  states_begin = let e : count ≡ count - 0 = omega arith in ap (λ n. flat_map lines (range_with_len 0 n)) e

  pub states_go_on : (k : ℕ) → k < count → states_from k ≡ lines k ++ states_from (k + 1)
  states_go_on k lt = ap (flat_map lines) (range_step k count lt)

-- the edges from a place on
module _ {X : Type 0} (view : X → Edge) (text : Edge → List ℕ) where
  pub edges_go_on : (es : List X) (i : ℕ) (d : X) (e : Edge) → i < length es → e ≡ view (slice_index_or es i d)
      → flat_map text (map view (drop i es)) ≡ text e ++ flat_map text (map view (drop (i + 1) es))
  edges_go_on es i d e lt is =
      ap (λ l. flat_map text (map view l)) (drop_more es i d lt) ∙ ap (λ x. text x ++ flat_map text (map view (drop (i + 1) es))) (sym is)

-- ---- the sets of an edge
pub marks_begin : (marks rest : List ℕ) (k : ℕ) (ks : List ℕ) → rest ≡ marks → rest ≡ k ∷ ks
    → marks_text marks ≡ codes " {" ++ (decimal k ++ (led (codes " ") (map decimal ks) ++ codes "}"))
marks_begin marks rest k ks e f =
    ap marks_text (sym e ∙ f) ∙ ap (λ t. (codes " {" ++ t) ++ codes "}") (joined_led (codes " ") (decimal k) (map decimal ks))
    ∙ amid (codes " {") (decimal k) (led (codes " ") (map decimal ks)) (codes "}")

pub marks_go_on : (rest : List ℕ) (k : ℕ) (ks : List ℕ) → rest ≡ k ∷ ks
    → led (codes " ") (map decimal rest) ++ codes "}" ≡ codes " " ++ (decimal k ++ (led (codes " ") (map decimal ks) ++ codes "}"))
marks_go_on rest k ks e =
    ap (λ t. led (codes " ") (map decimal t) ++ codes "}") e ∙ onward (codes " ") (decimal k) (led (codes " ") (map decimal ks)) (codes "}")

pub marks_end : (rest : List ℕ) → rest ≡ [] → led (codes " ") (map decimal rest) ++ codes "}" ≡ codes "}"
marks_end rest e = ap (λ t. led (codes " ") (map decimal t) ++ codes "}") e

-- ---- the acceptance of so many sets
pub some_name : (sets : ℕ) → 0 < sets → acceptance_name sets ≡ codes "generalized-Buchi " ++ decimal sets
some_name zero lt = absurd (omega arith)
some_name (suc n) lt = refl

-- the sets from k on, each behind `&`
abbrev pub sets_from : ℕ → ℕ → List ℕ
sets_from sets k = led (codes "&") (map set_text (range_with_len k (sets - k)))

pub some_sets : (sets : ℕ) → 0 < sets → acceptance.acceptance_text sets ≡ decimal sets ++ (codes " " ++ (set_text 0 ++ sets_from sets 1))
some_sets zero lt = absurd (omega arith)
some_sets (suc n) lt =
    ap (λ ts. (decimal (suc n) ++ codes " ") ++ joined_by (codes "&") ts) (all_sets (range_with_len 0 (suc n)))
    ∙ ap (λ t. (decimal (suc n) ++ codes " ") ++ t) (joined_led (codes "&") (set_text 0) (map set_text (range_with_len 1 n)))
    ∙ append_assoc (decimal (suc n)) (codes " ") (set_text 0 ++ led (codes "&") (map set_text (range_with_len 1 n)))
    ∙ ap (λ m. decimal (suc n) ++ (codes " " ++ (set_text 0 ++ led (codes "&") (map set_text (range_with_len 1 m))))) others
  where
    others : n ≡ suc n - 1
    others = omega arith

    all_sets : (ks : List ℕ) → map (λ k. (codes "Inf(" ++ decimal k) ++ codes ")") ks ≡ map set_text ks
    all_sets [] = refl
    all_sets (k ∷ ks) = let a = append_assoc (codes "Inf(") (decimal k) (codes ")") in let b = all_sets ks in λ i. a i ∷ b i

pub sets_go_on : (sets k : ℕ) → k < sets → sets_from sets k ≡ codes "&" ++ (set_text k ++ sets_from sets (k + 1))
sets_go_on sets k lt =
    ap (λ ks. led (codes "&") (map set_text ks)) (range_step k sets lt) ∙ append_assoc (codes "&") (set_text k) (sets_from sets (k + 1))

-- ---- names
pub names_go_on : (names : List Name) (k : ℕ) → k < length names
    → quoted_names (drop k names) ≡ codes " \"" ++ (slice_index_or names k [] ++ (codes "\"" ++ quoted_names (drop (k + 1) names)))
names_go_on names k lt =
    ap quoted_names (drop_more names k [] lt) ∙ ap (λ t. codes " \"" ++ t) (append_assoc (slice_index_or names k []) (codes "\"") (quoted_names (drop (k + 1) names)))

-- the same where a view of something is the name
pub viewed_go_on : {X : Type 0} (view : X → Name) (xs : List X) (k : ℕ) (d : X) → k < length xs
    → quoted_names (map view (drop k xs)) ≡ codes " \"" ++ (view (slice_index_or xs k d) ++ (codes "\"" ++ quoted_names (map view (drop (k + 1) xs))))
viewed_go_on view xs k d lt =
    ap (λ ys. quoted_names (map view ys)) (drop_more xs k d lt)
    ∙ ap (λ t. codes " \"" ++ t) (append_assoc (view (slice_index_or xs k d)) (codes "\"") (quoted_names (map view (drop (k + 1) xs))))

-- ---- the whole text
text_pieces : (R : Reading) (count : ℕ) (name condition kind : List ℕ) (lines : ℕ → List ℕ)
    → text_with R count name condition kind lines
    ≡ head_text count R ++ (lines_text name condition kind ++ (flat_map lines (range_with_len 0 count) ++ line (codes "--END--")))
text_pieces R count name condition kind lines =
    regroup (line (codes "HOA: v1")) (codes "name: ") (34 ∷ []) (canonical_text R) (10 ∷ []) (codes "States: ") (decimal count) (line (codes "Start: 0")) (codes "AP: ") (decimal (length R.names))
    (quoted_names R.names) (codes "acc-name: ") name (codes "Acceptance: ") condition (codes "properties: trans-labels explicit-labels ") kind (line (codes "--BODY--")) (flat_map lines (range_with_len 0 count)) (line (codes "--END--"))
  where
    regroup : (h m q c n s d t a e f x u y v p k b r z : List ℕ)
        → (((((((((h ++ ((m ++ ((q ++ c) ++ q)) ++ n)) ++ ((s ++ d) ++ n)) ++ t) ++ (((a ++ e) ++ f) ++ n)) ++ ((x ++ u) ++ n)) ++ ((y ++ v) ++ n)) ++ ((p ++ k) ++ n)) ++ b) ++ r) ++ z
        ≡ ((h ++ (m ++ q)) ++ (c ++ ((q ++ (n ++ s)) ++ (d ++ ((n ++ (t ++ a)) ++ (e ++ f)))))) ++ (((n ++ x) ++ (u ++ ((n ++ y) ++ (v ++ ((n ++ p) ++ (k ++ (n ++ b))))))) ++ (r ++ z))
    regroup h m q c n s d t a e f x u y v p k b r z = simp append_assoc

module _ (A : Automaton) (R : Reading) (n : ℕ) (same : n ≡ length A.states) where
  pub hoa_pieces : hoa_text A R ≡ head_text n R ++ (lines_text (codes "Buchi") (codes "1 Inf(0)") (codes "state-acc") ++ (states_text A ++ line (codes "--END--")))
  hoa_pieces =
      text_pieces R (length A.states) (codes "Buchi") (codes "1 Inf(0)") (codes "state-acc") (state_lines A)
      ∙ ap (λ k. head_text k R ++ (lines_text (codes "Buchi") (codes "1 Inf(0)") (codes "state-acc") ++ (states_text A ++ line (codes "--END--")))) (sym same)

  pub generalized_pieces : (sets : ℕ) → sets ≡ A.sets → generalized_text A R ≡ head_text n R ++ (condition_text sets ++ (marked_states_text A ++ line (codes "--END--")))
  generalized_pieces sets e =
      text_pieces R (length A.states) (acceptance_name A.sets) (acceptance.acceptance_text A.sets) (codes "trans-acc") (marked_state_lines A)
      ∙ (λ i. head_text (sym same i) R ++ (condition_text (sym e i) ++ (marked_states_text A ++ line (codes "--END--"))))

module _ (A : Automaton) (names : List Name) (n : ℕ) (same : n ≡ length A.states) where
  pub named_pieces : (sets : ℕ) → sets ≡ A.sets → named_text A names ≡ unnamed_head n names ++ (condition_text sets ++ (marked_states_text A ++ line (codes "--END--")))
  named_pieces sets e =
      regroup (line (codes "HOA: v1")) (10 ∷ []) (codes "States: ") (decimal (length A.states)) (line (codes "Start: 0")) (codes "AP: ") (decimal (length names)) (quoted_names names) (codes "acc-name: ")
      (acceptance_name A.sets) (codes "Acceptance: ") (acceptance.acceptance_text A.sets) (codes "properties: trans-labels explicit-labels ") (codes "trans-acc") (line (codes "--BODY--")) (marked_states_text A) (line (codes "--END--"))
      ∙ (λ i. unnamed_head (sym same i) names ++ (condition_text (sym e i) ++ (marked_states_text A ++ line (codes "--END--"))))
    where
      regroup : (h n s d t a e f x u y v p k b r z : List ℕ)
          → ((((((((h ++ ((s ++ d) ++ n)) ++ t) ++ (((a ++ e) ++ f) ++ n)) ++ ((x ++ u) ++ n)) ++ ((y ++ v) ++ n)) ++ ((p ++ k) ++ n)) ++ b) ++ r) ++ z
          ≡ ((h ++ s) ++ (d ++ ((n ++ (t ++ a)) ++ (e ++ f)))) ++ (((n ++ x) ++ (u ++ ((n ++ y) ++ (v ++ ((n ++ p) ++ (k ++ (n ++ b))))))) ++ (r ++ z))
      regroup h n s d t a e f x u y v p k b r z = simp append_assoc
