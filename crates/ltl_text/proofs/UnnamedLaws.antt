-- A text without its line `name:` reads as the same automaton.
use Rattle.std.proofs.Common.{◌≡◌, ◌∙◌, ℕ, ◌≤◌, not, true, List, [], ◌∷◌, ◌++◌, length, codes, refl, sym, subst, ap, arith, append_assoc}
use Rattle.std.specs.Prelude.{flat_map, sum_by, IsTrue}
use Rattle.std.specs.List.{list_all}
use Rattle.ltl_spec.specs.Automata.ClaimText.{line}
use Rattle.ltl_spec.specs.Automata.HoaText.{quoted}
use Rattle.ltl_spec.specs.Tools.Limits.{Limits}
use Rattle.ltl_spec.specs.Hoa.HoaToken.{HoaToken, StringToken, Identifier, Header, Body, End, hoa_tokens}
use Rattle.ltl_spec.specs.Hoa.HoaLabel.{is_wide}
use Rattle.ltl_spec.specs.Hoa.HoaReading.{AcceptanceForm, HoaHeaderItem, StatesItem, StartItem, SetsItem, NamesItem, OtherItem, WrittenState, HoaDocument, IsDocumentOf, MarkedAutomaton, HoaReadsWithin, document_tokens, header_item_tokens, is_item, is_plain, state_edges, state_tokens}
use Rattle.ltl_spec.proofs.Collections.CaseLaws.{left_true, right_true}
use Rattle.ltl_spec.proofs.Hoa.SpelledLaws.{is_clean}
use Rattle.ltl_spec.proofs.Hoa.SpelledStates.{format_line, name_line}

-- the next token is a header's name
abbrev pub BeginsItem : List HoaToken → Type 0
BeginsItem ts = (name : List ℕ) × (more : List HoaToken) × (ts ≡ Header name ∷ more)

-- the items of a header from behind the first one
module _ (s : List ℕ) (T rest : List HoaToken) (begins : BeginsItem T) where
  -- the first item is that name, and the others are those behind it
  abbrev IsNamedFirst : List HoaHeaderItem → Type 0
  IsNamedFirst items = (others : List HoaHeaderItem) × (items ≡ OtherItem (codes "name") (StringToken s ∷ []) ∷ others) × (T ≡ flat_map header_item_tokens others ++ Body ∷ rest)

  abbrev named : List HoaToken
  named = Header (codes "name") ∷ StringToken s ∷ T

  other_name : (name : List ℕ) (ts : List HoaToken) (is : List HoaHeaderItem) → list_all is_plain ts ≡ true → named ≡ (Header name ∷ ts ++ flat_map header_item_tokens is) ++ Body ∷ rest → IsNamedFirst (OtherItem name ts ∷ is)
  other_name name [] is p e = absurd (bare is e)
    where
      bare : (is : List HoaHeaderItem) → named ≡ (Header name ∷ [] ++ flat_map header_item_tokens is) ++ Body ∷ rest → ⊥
      bare [] e = cc
      bare (StatesItem n ∷ is) e = cc
      bare (StartItem n ∷ is) e = cc
      bare (SetsItem n ∷ is) e = cc
      bare (NamesItem n ∷ is) e = cc
      bare (OtherItem n ts ∷ is) e = cc
  other_name name (t ∷ []) is p e =
      let behind : StringToken s ∷ T ≡ t ∷ flat_map header_item_tokens is ++ Body ∷ rest = cc in
      let same : T ≡ flat_map header_item_tokens is ++ Body ∷ rest = cc in
      let first : t ≡ StringToken s = cc in
      let called : name ≡ codes "name" = cc in
      (is, rw (first, called) refl, same)
  other_name name (t ∷ u ∷ ts) is p e =
      let (h, more, q) = begins in
      let second : u ≡ Header h = cc in
      let plain : is_plain u ≡ true = left_true (is_plain u) (list_all is_plain ts) (right_true (is_plain t) _ p) in
      absurd (let wrong : is_plain (Header h) ≡ true = rw second at plain in cc)

  pub named_first : (items : List HoaHeaderItem) → list_all is_item items ≡ true → named ≡ flat_map header_item_tokens items ++ Body ∷ rest → IsNamedFirst items
  named_first [] p e = cc
  named_first (StatesItem n ∷ is) p e = cc
  named_first (StartItem n ∷ is) p e = cc
  named_first (SetsItem n ∷ is) p e = cc
  named_first (NamesItem n ∷ is) p e = cc
  named_first (OtherItem name ts ∷ is) p e = other_name name ts is (right_true _ (list_all is_plain ts) (left_true (is_item (OtherItem name ts)) (list_all is_item is) p)) e

-- what the items say is what the others say, too
module _ (form : AcceptanceForm) (A : MarkedAutomaton) (s : List ℕ) (others : List HoaHeaderItem) (states : List WrittenState) where
  abbrev whole : HoaDocument
  whole = record { items = OtherItem (codes "name") (StringToken s ∷ []) ∷ others; states = states }

  pub others_describe : IsDocumentOf form A whole → IsDocumentOf form A (record { items = others; states = states })
  others_describe d = record {
    items = right_true (is_item (OtherItem (codes "name") (StringToken s ∷ []))) (list_all is_item others) d.items;
    states = d.states;
    start = d.start;
    sets = d.sets;
    names = d.names;
    few_sets = d.few_sets;
    begins = d.begins;
    propositions = d.propositions;
    differ = d.differ;
    once = d.once;
    inside = d.inside;
    edges = d.edges;
  }

module _ (l : Limits) (form : AcceptanceForm) (A : MarkedAutomaton) (s : List ℕ) (clean : list_all is_clean s ≡ true) (rest : List ℕ) (begins : BeginsItem (hoa_tokens rest)) where
  abbrev titled : List ℕ
  titled = line (codes "HOA: v1") ++ (line (codes "name: " ++ quoted s) ++ rest)

  abbrev untitled : List ℕ
  untitled = line (codes "HOA: v1") ++ rest

  pub untitled_reads : HoaReadsWithin l form titled A → HoaReadsWithin (record l { hoa_bytes = length untitled }) form untitled A
  untitled_reads r = go r.document.items r.document.states refl refl
    where
      titled_tokens : hoa_tokens titled ≡ Header (codes "HOA") ∷ Identifier (codes "v1") ∷ Header (codes "name") ∷ StringToken s ∷ hoa_tokens rest
      titled_tokens = format_line (line (codes "name: " ++ quoted s) ++ rest) ∙ ap (λ ts. Header (codes "HOA") ∷ Identifier (codes "v1") ∷ ts) (name_line s clean rest)

      go : (items : List HoaHeaderItem) (states : List WrittenState) → r.document.items ≡ items → r.document.states ≡ states → HoaReadsWithin (record l { hoa_bytes = length untitled }) form untitled A
      go items states p q =
          let D : HoaDocument = record { items = items; states = states } in
          let same : r.document ≡ D = λ i. record { items = p i; states = q i } in
          let spelled : hoa_tokens titled ≡ document_tokens D = r.spelled ∙ ap document_tokens same in
          let equal : Header (codes "name") ∷ StringToken s ∷ hoa_tokens rest ≡ flat_map header_item_tokens items ++ Body ∷ flat_map state_tokens states ++ End ∷ [] = behind _ _ (sym titled_tokens ∙ spelled) in
          let plain : list_all is_item items ≡ true = subst (λ (d : HoaDocument). list_all is_item d.items ≡ true) same r.describes.items in
          let (others, first, tokens) = named_first s (hoa_tokens rest) _ begins items plain (equal ∙ append_assoc (flat_map header_item_tokens items) (Body ∷ flat_map state_tokens states) (End ∷ [])) in
          let d = subst (λ (d : HoaDocument). IsDocumentOf form A d) (same ∙ (λ i. record { items = first i; states = states })) r.describes in
          record {
            document = record { items = others; states = states };
            spelled = format_line rest ∙ ap (λ ts. Header (codes "HOA") ∷ Identifier (codes "v1") ∷ ts) (tokens ∙ sym (append_assoc (flat_map header_item_tokens others) (Body ∷ flat_map state_tokens states) (End ∷ [])));
            describes = others_describe form A s others states d;
            within = record {
              bytes = omega arith;
              states = r.within.states;
              names = r.within.names;
              labels = subst (λ (ws : List WrittenState). IsTrue (list_all (λ w. list_all (λ e. not (is_wide l.label_cubes e.label)) w.edges) ws)) q r.within.labels;
              edges = subst (λ (ws : List WrittenState). sum_by (λ w. length (state_edges w)) ws ≤ l.hoa_edges) q r.within.edges;
            };
          }
        where
          behind : (xs ys : List HoaToken) → Header (codes "HOA") ∷ Identifier (codes "v1") ∷ xs ≡ Header (codes "HOA") ∷ Identifier (codes "v1") ∷ ys → xs ≡ ys
          behind xs ys e = cc
