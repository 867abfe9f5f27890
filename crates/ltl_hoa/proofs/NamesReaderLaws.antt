-- What a byte takes the reader of names to, and the names behind a whole text.
use Rattle.std.proofs.Common.{◌≡◌, ℕ, zero, suc, ◌+◌, ◌^◌, ◌<◌, Bool, true, false, ◌&&◌, List, [], ◌∷◌, ◌++◌, length, map, Option, Some, None, ◌==◌, codes, refl, sym, ◌∙◌, ap, subst, arith, append_assoc}
use Rattle.std.specs.Prelude.{if◌then◌else◌, replicate, slice_index_or, slice_set}
use Rattle.std.specs.List.{range_with_len}
use Rattle.std.proofs.lemmas.Bool.Decides.{nat_tests}
use Rattle.std.proofs.lemmas.Bool.{eqb-true}
use Rattle.std.proofs.lemmas.List.{append-nil, map-append, map-set, get_or_default, get_or-set_same, get_or-set_other, length-set, length-replicate}
use Rattle.ltl_spec.specs.Formulas.Tokens.{same_name}
use Rattle.ltl_spec.specs.Hoa.HoaToken.{HoaToken, HoaItem, StringToken, Header, Int, hoa_items, hoa_tokens}
use Rattle.ltl_spec.specs.Hoa.HoaNames.{HoaNames, or_next, is_same, first_behind, before_automaton, before_state, hoa_names}
use Rattle.ltl_spec.proofs.Formulas.NameLaws.{same_exact}
use Rattle.ltl_spec.proofs.Hoa.HoaNameLaws.{string_of, string_when, ends_with, or_none, first_more, first_same, ends_more, ends_none}
use Rattle.ltl_spec.proofs.Hoa.GeneralizedBack.{by_place}
use Rattle.ltl_hoa.specs.declared.token.TokenKind.{TokenKind}
use Rattle.ltl_hoa.specs.declared.token.TokenKind.TheVariants as kind
use Rattle.ltl_hoa.specs.declared.lexer.Phase.{Phase}
use Rattle.ltl_hoa.specs.declared.lexer.Phase.TheVariants as phase
use Rattle.ltl_hoa.specs.declared.naming.Owner.{Owner}
use Rattle.ltl_hoa.specs.declared.naming.Owner.TheVariants.{Nothing, Automaton, State, NumberedState}
use Rattle.ltl_hoa.specs.NumberView.{capped}
use Rattle.ltl_hoa.specs.TokenView.{token_of}
use Rattle.ltl_hoa.specs.LexerView.{LexerView, ended_kind, rested, taken, last_kind}
use Rattle.ltl_hoa.specs.Resuming.{item_of, with_item, resume, IsLexing}
use Rattle.ltl_hoa.specs.StreamReaderView.{line_behind}
use Rattle.ltl_hoa.specs.NamingView.{kept, nameless, next_owner, named}
use Rattle.ltl_hoa.specs.NamesReaderView.{NamesReaderView, new_names_reader, names_behind, token_taken, ended_taken, before_taken, fed_taken, byte_taken}
use Rattle.ltl_hoa.proofs.LexLaws.{IsTaken, lexer_takes, lexer_ends, lexer_last}

-- ---- a place for a name

nth_map : {T : Type 0} (f : T → Option (List ℕ)) (xs : List T) (i : ℕ) (d : T) → slice_index_or (map f xs) i (f d) ≡ f (slice_index_or xs i d)
nth_map f [] i d = refl
nth_map f (x ∷ xs) zero d = refl
nth_map f (x ∷ xs) (suc i) d = nth_map f xs i d

pub kept_state : {T : Type 0} (f : T → Option (List ℕ)) (xs : List T) (i : ℕ) (old new : T) (s : List ℕ) → old ≡ slice_index_or xs i old → i < length (map f xs) → f new ≡ kept (f old) s
    → map f (slice_set xs i new) ≡ slice_set (map f xs) i (kept (slice_index_or (map f xs) i None) s)
kept_state f xs i old new s o l e =
    map-set f xs i new ∙ ap (slice_set (map f xs) i) (e ∙ ap (λ n. kept n s) (ap f o ∙ sym (nth_map f xs i old) ∙ get_or_default (map f xs) i (f old) None l))

-- ---- whose name comes next

abbrev pub is_automaton : Owner → Bool
is_automaton Automaton = true
is_automaton _ = false

abbrev pub is_state : Owner → Bool
is_state State = true
is_state _ = false

abbrev pub is_numbered : ℕ → Owner → Bool
is_numbered n (NumberedState i) = i == n
is_numbered n _ = false

-- the tokens end with what stands before a name of this owner
pub record ShowsOwner (o : Owner) (ts : List HoaToken) : Type 0 where
  pub automaton : ends_with before_automaton ts ≡ is_automaton o
  pub state : ends_with (Header (codes "State") ∷ []) ts ≡ is_state o
  pub number : (n : ℕ) → n < 4_294_967_295 → ends_with (before_state n) ts ≡ is_numbered n o

and_false : (c : Bool) → (c && false) ≡ false
and_false true = refl
and_false false = refl

automaton_next : (o : Owner) (t : HoaToken) → is_same (Header (codes "name")) t ≡ is_automaton (next_owner o t)
automaton_next o (Header h) = go (same_name h (codes "name")) (same_name h (codes "State"))
  where
    go : (c d : Bool) → c ≡ is_automaton (if c then Automaton else if d then State else Nothing)
    go true d = refl
    go false true = refl
    go false false = refl
automaton_next State (Int n) = refl
automaton_next o (Int n) = refl
automaton_next o t = refl

state_next : (o : Owner) (t : HoaToken) → is_same (Header (codes "State")) t ≡ is_state (next_owner o t)
state_next o (Header h) = go (same_name h (codes "name")) (same_name h (codes "State")) (λ e. ap (λ m. same_name m (codes "State")) (same_exact h (codes "name") e))
  where
    go : (c d : Bool) → (c ≡ true → d ≡ false) → d ≡ is_state (if c then Automaton else if d then State else Nothing)
    go true d f = f refl
    go false true f = refl
    go false false f = refl
state_next State (Int n) = refl
state_next o (Int n) = refl
state_next o t = refl

capped_same : (m n : ℕ) → n < 4_294_967_295 → (m == n) ≡ (capped m == n)
capped_same m n l = grind (arith, nat_tests, l)

number_next : (n : ℕ) → n < 4_294_967_295 → (o : Owner) (t : HoaToken) → (is_state o && is_same (Int n) t) ≡ is_numbered n (next_owner o t)
number_next n l o (Header h) = and_false (is_state o) ∙ go (same_name h (codes "name")) (same_name h (codes "State"))
  where
    go : (c d : Bool) → false ≡ is_numbered n (if c then Automaton else if d then State else Nothing)
    go true d = refl
    go false true = refl
    go false false = refl
number_next n l State (Int m) = capped_same m n l
number_next n l o (Int m) = refl
number_next n l o t = and_false (is_state o)

owner_step : (o : Owner) (ts : List HoaToken) (t : HoaToken) → ShowsOwner o ts → ShowsOwner (next_owner o t) (ts ++ t ∷ [])
owner_step o ts t s = record {
  automaton = ends_more [] ts (Header (codes "name")) t ∙ ap (λ c. c && is_same (Header (codes "name")) t) (ends_none ts) ∙ automaton_next o t;
  state = ends_more [] ts (Header (codes "State")) t ∙ ap (λ c. c && is_same (Header (codes "State")) t) (ends_none ts) ∙ state_next o t;
  number = λ n l. ends_more (Header (codes "State") ∷ []) ts (Int n) t ∙ ap (λ c. c && is_same (Int n) t) s.state ∙ number_next n l o t;
}

-- ---- the names so far

pub record ShowsNames (count : ℕ) (names : HoaNames) (ts : List HoaToken) : Type 0 where
  pub automaton : names.automaton ≡ first_behind before_automaton ts
  pub counted : length names.states ≡ count
  pub states : (n : ℕ) → n < count → slice_index_or names.states n None ≡ first_behind (before_state n) ts

-- a token that is no string
no_string : (c : Bool) (t : HoaToken) → string_of t ≡ None → string_when c t ≡ None
no_string true t e = e
no_string false t e = refl

stays : (o : Option (List ℕ)) (c : Bool) (t : HoaToken) → string_of t ≡ None → o ≡ or_next o (string_when c t)
stays o c t e = sym (or_none o) ∙ ap (or_next o) (sym (no_string c t e))

automaton_kept : (k : TokenKind) (o : Owner) (text : List ℕ) (n : HoaNames) → (names_behind k o text n).automaton ≡ or_next n.automaton (string_when (is_automaton o) (token_of k text))
automaton_kept kind.Text Automaton text n = refl
automaton_kept kind.Text o text n = sym (or_none n.automaton)
automaton_kept k o text n = stays n.automaton (is_automaton o) (token_of k text) refl

other_place : (i j : ℕ) → (j == i) ≡ false → i ≡ j → ⊥
other_place i j e q = grind (arith, nat_tests, e, q)

set_kept : (xs : List (Option (List ℕ))) (j i : ℕ) (s : List ℕ) → i < length xs
    → slice_index_or (slice_set xs j (kept (slice_index_or xs j None) s)) i None ≡ or_next (slice_index_or xs i None) (if j == i then Some s else None)
set_kept xs j i s l = go (j == i) refl
  where
    go : (c : Bool) → (j == i) ≡ c → slice_index_or (slice_set xs j (kept (slice_index_or xs j None) s)) i None ≡ or_next (slice_index_or xs i None) (if c then Some s else None)
    go true e =
        subst (λ m. slice_index_or (slice_set xs m (kept (slice_index_or xs m None) s)) i None ≡ or_next (slice_index_or xs i None) (Some s)) (sym (eqb-true j i e))
        (get_or-set_same xs i (kept (slice_index_or xs i None) s) None l)
    go false e = get_or-set_other xs j i (kept (slice_index_or xs j None) s) None (other_place i j e) ∙ sym (or_none (slice_index_or xs i None))

state_kept : (k : TokenKind) (o : Owner) (text : List ℕ) (n : HoaNames) (i : ℕ) → i < length n.states
    → slice_index_or (names_behind k o text n).states i None ≡ or_next (slice_index_or n.states i None) (string_when (is_numbered i o) (token_of k text))
state_kept kind.Text (NumberedState j) text n i l = set_kept n.states j i text l
state_kept kind.Text o text n i l = sym (or_none (slice_index_or n.states i None))
state_kept k o text n i l = stays (slice_index_or n.states i None) (is_numbered i o) (token_of k text) refl

still_counted : (k : TokenKind) (o : Owner) (text : List ℕ) (n : HoaNames) → length (names_behind k o text n).states ≡ length n.states
still_counted kind.Text (NumberedState j) text n = length-set n.states j (kept (slice_index_or n.states j None) text)
still_counted kind.Text o text n = refl
still_counted k o text n = refl

names_step : (count : ℕ) → count < 2 ^ 32 → (k : TokenKind) (o : Owner) (text : List ℕ) (n : HoaNames) (ts : List HoaToken) → ShowsOwner o ts → ShowsNames count n ts
    → ShowsNames count (names_behind k o text n) (ts ++ token_of k text ∷ [])
names_step count few k o text n ts s a = record {
  automaton =
      automaton_kept k o text n ∙ (λ i. or_next (a.automaton i) (string_when (sym s.automaton i) (token_of k text))) ∙ sym (first_more before_automaton ts (token_of k text));
  counted = still_counted k o text n ∙ a.counted;
  states = λ m l.
      state_kept k o text n m (omega (arith, l, a.counted)) ∙ (λ i. or_next (a.states m l i) (string_when (sym (s.number m (omega (arith, few, l))) i) (token_of k text)))
      ∙ sym (first_more (before_state m) ts (token_of k text));
}

-- ---- the text so far

-- the items so far were taken, and the lexer holds the rest
pub record IsAfter (count : ℕ) (v : NamesReaderView) (text : List ℕ) : Type 0 where
  pub items : List HoaItem
  pub lexing : IsLexing v.lexer v.line
  pub rest : (more : List ℕ) → hoa_items (text ++ more) ≡ items ++ resume v.lexer v.line more
  pub owner : ShowsOwner v.owner (map (λ i. i.token) items)
  pub names : ShowsNames count v.names (map (λ i. i.token) items)

none_counted : (n : ℕ) → length (nameless n).states ≡ n
none_counted n = length-replicate n None

pub new_after : (count : ℕ) → IsAfter count (new_names_reader count) []
new_after count = record {
  items = [];
  lexing = tt;
  rest = λ more. refl;
  owner = record { automaton = refl; state = refl; number = λ n l. refl };
  names = record { automaton = refl; counted = none_counted count; states = λ n l. none_at count n };
}
  where
    none_at : (m n : ℕ) → slice_index_or (nameless m).states n None ≡ None
    none_at zero n = refl
    none_at (suc m) zero = refl
    none_at (suc m) (suc n) = none_at m n

-- one item more
items_more : (items : List HoaItem) (k : TokenKind) (x : LexerView) → map (λ i. i.token) (items ++ item_of k x ∷ []) ≡ map (λ i. i.token) items ++ token_of k x.text ∷ []
items_more items k x = map-append (λ i. i.token) items (item_of k x ∷ [])

-- before a byte, before which no token ends
record IsBefore (count : ℕ) (u : NamesReaderView) (text : List ℕ) (b : ℕ) : Type 0 where
  items : List HoaItem
  lexing : IsLexing u.lexer u.line
  ended : ended_kind u.lexer.phase b ≡ None
  rest : (more : List ℕ) → hoa_items (text ++ b ∷ more) ≡ items ++ resume u.lexer u.line (b ∷ more)
  owner : ShowsOwner u.owner (map (λ i. i.token) items)
  names : ShowsNames count u.names (map (λ i. i.token) items)

ends_before : (count : ℕ) → count < 2 ^ 32 → (v : NamesReaderView) (text : List ℕ) (b : ℕ) → IsAfter count v text → IsBefore count (before_taken v b) text b
ends_before count few v text b a = go (ended_kind v.lexer.phase b) refl
  where
    go : (o : Option TokenKind) → ended_kind v.lexer.phase b ≡ o → IsBefore count (ended_taken o v) text b
    go None e = record { items = a.items; lexing = a.lexing; ended = e; rest = λ more. a.rest (b ∷ more); owner = a.owner; names = a.names }
    go (Some k) e = record {
      items = a.items ++ item_of k v.lexer ∷ [];
      lexing = tt;
      ended = refl;
      rest = λ more.
          a.rest (b ∷ more) ∙ ap (λ z. a.items ++ z) (lexer_ends v.lexer v.line b k a.lexing e more)
          ∙ sym (append_assoc a.items (item_of k v.lexer ∷ []) (resume (rested v.lexer) v.line (b ∷ more)));
      owner =
          subst (λ ts. ShowsOwner (next_owner v.owner (token_of k v.lexer.text)) ts) (sym (items_more a.items k v.lexer))
          (owner_step v.owner (map (λ i. i.token) a.items) (token_of k v.lexer.text) a.owner);
      names =
          subst (λ ts. ShowsNames count (names_behind k v.owner v.lexer.text v.names) ts) (sym (items_more a.items k v.lexer))
          (names_step count few k v.owner v.lexer.text v.names (map (λ i. i.token) a.items) a.owner a.names);
    }

fed_after : (count : ℕ) → count < 2 ^ 32 → (u : NamesReaderView) (text : List ℕ) (b : ℕ) → IsBefore count u text b
    → IsAfter count (record (fed_taken (taken u.lexer u.line b) u) { line = line_behind u.line b }) (text ++ b ∷ [])
fed_after count few u text b a = go (taken u.lexer u.line b) (lexer_takes u.lexer u.line b a.lexing a.ended)
  where
    more_text : (more : List ℕ) → hoa_items ((text ++ b ∷ []) ++ more) ≡ hoa_items (text ++ b ∷ more)
    more_text more = ap hoa_items (append_assoc text (b ∷ []) more)

    go : (p : Option TokenKind × LexerView) → IsTaken u.lexer u.line b p → IsAfter count (record (fed_taken p u) { line = line_behind u.line b }) (text ++ b ∷ [])
    go (None, x) t = record {
      items = a.items;
      lexing = t.1;
      rest = λ more. more_text more ∙ a.rest more ∙ ap (λ z. a.items ++ z) (t.0 more);
      owner = a.owner;
      names = a.names;
    }
    go (Some k, x) t = record {
      items = a.items ++ item_of k x ∷ [];
      lexing = t.1;
      rest = λ more.
          more_text more ∙ a.rest more ∙ ap (λ z. a.items ++ z) (t.0 more)
          ∙ sym (append_assoc a.items (item_of k x ∷ []) (resume x (line_behind u.line b) more));
      owner =
          subst (λ ts. ShowsOwner (next_owner u.owner (token_of k x.text)) ts) (sym (items_more a.items k x))
          (owner_step u.owner (map (λ i. i.token) a.items) (token_of k x.text) a.owner);
      names =
          subst (λ ts. ShowsNames count (names_behind k u.owner x.text u.names) ts) (sym (items_more a.items k x))
          (names_step count few k u.owner x.text u.names (map (λ i. i.token) a.items) a.owner a.names);
    }

-- a byte
pub byte_after : (count : ℕ) → count < 2 ^ 32 → (v : NamesReaderView) (text : List ℕ) (b : ℕ) → IsAfter count v text → IsAfter count (byte_taken v b) (text ++ b ∷ [])
byte_after count few v text b a =
    subst (λ n. IsAfter count (record (fed_taken (taken u.lexer u.line b) u) { line = line_behind n b }) (text ++ b ∷ [])) (same_line (ended_kind v.lexer.phase b))
    (fed_after count few u text b (ends_before count few v text b a))
  where
    u : NamesReaderView
    u = before_taken v b

    same_line : (o : Option TokenKind) → (ended_taken o v).line ≡ v.line
    same_line None = refl
    same_line (Some k) = refl

-- ---- the whole text

-- the token that ends with the text is no string
last_same : (ks : List HoaToken) (items : List HoaItem) (x : LexerView) (p : Phase)
    → first_behind ks (map (λ i. i.token) (items ++ with_item (last_kind p) x [])) ≡ first_behind ks (map (λ i. i.token) items)
last_same ks items x p = go p
  where
    none : first_behind ks (map (λ i. i.token) (items ++ [])) ≡ first_behind ks (map (λ i. i.token) items)
    none = ap (λ is. first_behind ks (map (λ i. i.token) is)) (append-nil items)

    one : (k : TokenKind) → string_of (token_of k x.text) ≡ None → first_behind ks (map (λ i. i.token) (items ++ item_of k x ∷ [])) ≡ first_behind ks (map (λ i. i.token) items)
    one k e = ap (first_behind ks) (items_more items k x) ∙ first_same ks (map (λ i. i.token) items) (token_of k x.text) e

    go : (p : Phase) → first_behind ks (map (λ i. i.token) (items ++ with_item (last_kind p) x [])) ≡ first_behind ks (map (λ i. i.token) items)
    go phase.Between = none
    go phase.Ended = none
    go phase.Word = one kind.Identifier refl
    go phase.Zero = one kind.Int refl
    go phase.Digits = one kind.Int refl
    go phase.Slash = one kind.Unknown refl
    go phase.Mark = one kind.Unknown refl
    go phase.Text = one kind.UnclosedText refl
    go phase.Escape = one kind.UnclosedText refl
    go (phase.Comment depth) = one kind.UnclosedComment refl
    go (phase.CommentSlash depth) = one kind.UnclosedComment refl
    go (phase.CommentStar depth) = one kind.UnclosedComment refl

pub all_names : (count : ℕ) (v : NamesReaderView) (text : List ℕ) → IsAfter count v text → v.names ≡ hoa_names text count
all_names count v text a = λ i. record { automaton = (a.names.automaton ∙ sym (told before_automaton)) i; states = states i }
  where
    items : hoa_items text ≡ a.items ++ with_item (last_kind v.lexer.phase) v.lexer []
    items = ap hoa_items (sym (append-nil text)) ∙ a.rest [] ∙ ap (λ z. a.items ++ z) (lexer_last v.lexer v.line a.lexing)

    told : (ks : List HoaToken) → first_behind ks (hoa_tokens text) ≡ first_behind ks (map (λ i. i.token) a.items)
    told ks = ap (λ is. first_behind ks (map (λ i. i.token) is)) items ∙ last_same ks a.items v.lexer v.lexer.phase

    states : v.names.states ≡ map (λ n. first_behind (before_state n) (hoa_tokens text)) (range_with_len 0 count)
    states =
        sym (by_place 0 v.names.states None (λ n. first_behind (before_state n) (hoa_tokens text)) (λ n l. at n (omega (arith, l, a.names.counted))))
        ∙ ap (λ c. map (λ n. first_behind (before_state n) (hoa_tokens text)) (range_with_len 0 c)) a.names.counted
      where
        nothing : (n : ℕ) → 0 + n ≡ n
        nothing n = omega arith

        at : (n : ℕ) → n < count → first_behind (before_state (0 + n)) (hoa_tokens text) ≡ slice_index_or v.names.states n None
        at n l = ap (λ m. first_behind (before_state m) (hoa_tokens text)) (nothing n) ∙ told (before_state n) ∙ sym (a.names.states n l)
