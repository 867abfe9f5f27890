-- What a lexer makes of a byte, by the items that are left.
use Rattle.std.proofs.Common.{◌≡◌, ℕ, ◌+◌, ◌-◌, ◌≤◌, Bool, true, false, not, ◌&&◌, ◌||◌, inl, inr, List, [], ◌∷◌, ◌++◌, Option, Some, None, nat_le, nat_eq, ◌==◌, codes, refl, sym, ◌∙◌, ap, subst, arith, append_assoc}
use Rattle.std.specs.Prelude.{if◌then◌else◌}
use Rattle.std.specs.List.{starts_with, list_all}
use Rattle.std.proofs.lemmas.Bool.Decides.{nat_tests}
use Rattle.std.proofs.lemmas.Bool.{eqb-true}
use Rattle.std.proofs.lemmas.Option.{same_Some}
use Rattle.std.proofs.lemmas.List.{append-nil}
use Rattle.ltl_spec.specs.Formulas.Tokens.{is_blank, same_name}
use Rattle.ltl_spec.specs.Hoa.HoaToken.{Unknown, is_digit, begins_identifier, is_identifier_byte, hoa_items_from, comment_rest}
use Rattle.ltl_spec.specs.Hoa.HoaToken as token
use Rattle.ltl_spec.proofs.Collections.CaseLaws.{left_true, right_true, false_is_true}
use Rattle.ltl_spec.proofs.Formulas.NameLaws.{same_exact}
use Rattle.ltl_hoa.specs.declared.token.TokenKind.{TokenKind}
use Rattle.ltl_hoa.specs.declared.token.TokenKind.TheVariants as kind
use Rattle.ltl_hoa.specs.declared.lexer.Phase.{Phase}
use Rattle.ltl_hoa.specs.declared.lexer.Phase.TheVariants.{Between, Slash, Word, Zero, Digits, Mark, Text, Escape, Comment, CommentSlash, CommentStar, Ended}
use Rattle.ltl_hoa.specs.TokenView.{sign_kind, mark_kind, begins_mark}
use Rattle.ltl_hoa.specs.LexerView.{LexerView, beginning, sign_beginning, is_spelled, ended_kind, rested, inside, commented, marked_by, taken, last_kind}
use Rattle.ltl_hoa.specs.StreamReaderView.{line_behind}
use Rattle.ltl_hoa.specs.Resuming.{item_of, with_item, comment_items, has_mark, resume, IsLexing}
use Rattle.ltl_hoa.proofs.ItemLaws.{blank_first, word_ends, word_named, comment_first, comment_plain, slash_plain, slash_opens, star_plain, star_closes, star_closes_one, slash_alone, slash_last, string_first, string_keeps, string_goes_on, string_kept, one_longer, longer, body_first, end_first, abort_first, dash_alone, no_line}
use Rattle.ltl_spec.proofs.Hoa.SpelledLaws.{number_ends, no_line_digit}

-- the byte was taken rightly: the items are the same, and the lexer holds a token as it should
abbrev pub IsTaken : LexerView → ℕ → ℕ → Option TokenKind × LexerView → Type 0
IsTaken v line b p = ((rest : List ℕ) → resume v line (b ∷ rest) ≡ with_item p.0 p.1 (resume p.1 (line_behind line b) rest)) × IsLexing p.1 (line_behind line b)

-- ---- between tokens

abbrev pub view_of : ℕ → ℕ → Phase × Option TokenKind → Option TokenKind × LexerView
view_of line b q = (q.1, record { phase = q.0; text = if is_spelled q.0 then b ∷ [] else []; start = line })

abbrev pub Begins : ℕ → ℕ → Phase × Option TokenKind → Type 0
Begins line b q =
    let p = view_of line b q in
    ((rest : List ℕ) → hoa_items_from 0 line (b ∷ rest) ≡ with_item p.0 p.1 (resume p.1 (line_behind line b) rest)) × IsLexing p.1 (line_behind line b)

same_line : (line b : ℕ) → not (b == 10) ≡ true → line ≡ line_behind line b
same_line line b e = go (b == 10) e
  where
    go : (c : Bool) → not c ≡ true → line ≡ (if c then line + 1 else line)
    go true q = cc
    go false q = refl

other : (n b : ℕ) → (b == n) ≡ false → nat_eq n b ≡ false
other n b e = grind (arith, nat_tests, e)

unknown_begins : (line b : ℕ) → is_blank b ≡ false → nat_eq 47 b ≡ false → (b == 34) ≡ false → (b == 48) ≡ false → is_digit b ≡ false → begins_identifier b ≡ false → nat_eq 45 b ≡ false
    → nat_eq 91 b ≡ false → nat_eq 93 b ≡ false → nat_eq 123 b ≡ false → nat_eq 125 b ≡ false → nat_eq 40 b ≡ false → nat_eq 41 b ≡ false → nat_eq 33 b ≡ false → nat_eq 38 b ≡ false → nat_eq 124 b ≡ false
    → (rest : List ℕ) → hoa_items_from 0 line (b ∷ rest) ≡ record { token = Unknown; line = line } ∷ []
unknown_begins line b blank slash quote naught digit ident dash n1 n2 n3 n4 n5 n6 n7 n8 n9 rest =
    rw (blank, slash, quote, naught, digit, ident, dash, n1, n2, n3, n4, n5, n6, n7, n8, n9) refl

-- a byte that may be a sign, and then another one
at_sign : (line b n : ℕ) (k : TokenKind) (o : Option TokenKind) → Begins line n (Between, Some k) → ((b == n) ≡ false → Begins line b (sign_beginning o))
    → Begins line b (sign_beginning (if b == n then Some k else o))
at_sign line b n k o here next = go (b == n) refl
  where
    go : (c : Bool) → (b == n) ≡ c → Begins line b (sign_beginning (if c then Some k else o))
    go true q = subst (λ m. Begins line m (Between, Some k)) (sym (eqb-true b n q)) here
    go false q = next q

sign_begins : (line b : ℕ) → is_blank b ≡ false → (b == 47) ≡ false → (b == 34) ≡ false → (b == 48) ≡ false → is_digit b ≡ false → begins_identifier b ≡ false → (b == 45) ≡ false
    → Begins line b (sign_beginning (sign_kind b))
sign_begins line b blank slash quote naught digit ident dash =
    at_sign line b 91 kind.OpenLabel _ ((λ rest. refl), tt) (λ e1.
    at_sign line b 93 kind.CloseLabel _ ((λ rest. refl), tt) (λ e2.
    at_sign line b 123 kind.OpenSets _ ((λ rest. refl), tt) (λ e3.
    at_sign line b 125 kind.CloseSets _ ((λ rest. refl), tt) (λ e4.
    at_sign line b 40 kind.OpenBracket _ ((λ rest. refl), tt) (λ e5.
    at_sign line b 41 kind.CloseBracket _ ((λ rest. refl), tt) (λ e6.
    at_sign line b 33 kind.NotSign _ ((λ rest. refl), tt) (λ e7.
    at_sign line b 38 kind.AndSign _ ((λ rest. refl), tt) (λ e8.
    at_sign line b 124 kind.OrSign None ((λ rest. refl), tt) (λ e9.
    (unknown_begins line b blank (other 47 b slash) quote naught digit ident (other 45 b dash) (other 91 b e1) (other 93 b e2) (other 123 b e3) (other 125 b e4) (other 40 b e5) (other 41 b e6) (other 33 b e7) (other 38 b e8) (other 124 b e9), tt))))))))))

begins : (line b : ℕ) → Begins line b (beginning b)
begins line b = by_blank (is_blank b) refl
  where
    dashes : (c : Bool) → (b == 45) ≡ c → is_blank b ≡ false → (b == 47) ≡ false → (b == 34) ≡ false → (b == 48) ≡ false → is_digit b ≡ false → begins_identifier b ≡ false
        → Begins line b (if c then (Mark, None) else sign_beginning (sign_kind b))
    dashes true q blank slash quote naught digit ident = subst (λ m. Begins line m (Mark, None)) (sym (eqb-true b 45 q)) ((λ rest. refl), (refl, (refl, refl, refl)))
    dashes false q blank slash quote naught digit ident = sign_begins line b blank slash quote naught digit ident q

    idents : (c : Bool) → begins_identifier b ≡ c → is_blank b ≡ false → (b == 47) ≡ false → (b == 34) ≡ false → (b == 48) ≡ false → is_digit b ≡ false
        → Begins line b (if c then (Word, None) else if b == 45 then (Mark, None) else sign_beginning (sign_kind b))
    idents true q blank slash quote naught digit =
        let ten : not (b == 10) ≡ true = grind (arith, nat_tests, q) in
        ((λ rest. ap (λ l. hoa_items_from 0 l (b ∷ rest)) (same_line line b ten)), (same_line line b ten, (q, refl)))
    idents false q blank slash quote naught digit = dashes (b == 45) refl blank slash quote naught digit q

    digits : (c : Bool) → is_digit b ≡ c → is_blank b ≡ false → (b == 47) ≡ false → (b == 34) ≡ false → (b == 48) ≡ false
        → Begins line b (if c then (Digits, None) else if begins_identifier b then (Word, None) else if b == 45 then (Mark, None) else sign_beginning (sign_kind b))
    digits true q blank slash quote naught =
        let ten : not (b == 10) ≡ true = grind (arith, nat_tests, q) in
        ((λ rest. ap (λ l. hoa_items_from 0 l (b ∷ rest)) (same_line line b ten)), (same_line line b ten, (q, naught, refl)))
    digits false q blank slash quote naught = idents (begins_identifier b) refl blank slash quote naught q

    noughts : (c : Bool) → (b == 48) ≡ c → is_blank b ≡ false → (b == 47) ≡ false → (b == 34) ≡ false
        → Begins line b (if c then (Zero, None) else if is_digit b then (Digits, None) else if begins_identifier b then (Word, None) else if b == 45 then (Mark, None) else sign_beginning (sign_kind b))
    noughts true q blank slash quote = subst (λ m. Begins line m (Zero, None)) (sym (eqb-true b 48 q)) ((λ rest. refl), (refl, refl))
    noughts false q blank slash quote = digits (is_digit b) refl blank slash quote q

    quotes : (c : Bool) → (b == 34) ≡ c → is_blank b ≡ false → (b == 47) ≡ false
        → Begins line b (if c then (Text, None) else if b == 48 then (Zero, None) else if is_digit b then (Digits, None) else if begins_identifier b then (Word, None) else if b == 45 then (Mark, None) else sign_beginning (sign_kind b))
    quotes true q blank slash = subst (λ m. Begins line m (Text, None)) (sym (eqb-true b 34 q)) ((λ rest. string_first line rest), tt)
    quotes false q blank slash = noughts (b == 48) refl blank slash q

    slashes : (c : Bool) → (b == 47) ≡ c → is_blank b ≡ false
        → Begins line b (if c then (Slash, None) else if b == 34 then (Text, None) else if b == 48 then (Zero, None) else if is_digit b then (Digits, None) else if begins_identifier b then (Word, None) else if b == 45 then (Mark, None) else sign_beginning (sign_kind b))
    slashes true q blank = subst (λ m. Begins line m (Slash, None)) (sym (eqb-true b 47 q)) ((λ rest. refl), refl)
    slashes false q blank = quotes (b == 34) refl blank q

    by_blank : (c : Bool) → is_blank b ≡ c
        → Begins line b (if c then (Between, None) else if b == 47 then (Slash, None) else if b == 34 then (Text, None) else if b == 48 then (Zero, None) else if is_digit b then (Digits, None) else if begins_identifier b then (Word, None) else if b == 45 then (Mark, None) else sign_beginning (sign_kind b))
    by_blank true q = ((λ rest. blank_first line b rest q), tt)
    by_blank false q = slashes (b == 47) refl q

-- ---- comments

abbrev pub at_phase : Phase → List ℕ → ℕ → LexerView
at_phase phase text start = record { phase = phase; text = text; start = start }

-- a byte that is neither behind a slash nor behind a star
inside_taken : (line b depth : ℕ) (text : List ℕ) (start : ℕ) → 1 ≤ depth
    → ((rest : List ℕ) → comment_items start line (comment_rest 0 depth (b ∷ rest)) (b ∷ rest) ≡ resume (at_phase (inside depth b) text start) (line_behind line b) rest)
    × IsLexing (at_phase (inside depth b) text start) (line_behind line b)
inside_taken line b depth text start d = by_slash (b == 47) refl
  where
    Inside : Phase → ℕ → Type 0
    Inside phase m =
        ((rest : List ℕ) → comment_items start line (comment_rest 0 depth (m ∷ rest)) (m ∷ rest) ≡ resume (at_phase phase text start) (line_behind line m) rest)
        × IsLexing (at_phase phase text start) (line_behind line m)

    by_star : (c : Bool) → (b == 42) ≡ c → (b == 47) ≡ false → Inside (if c then CommentStar depth else Comment depth) b
    by_star true q slash = subst (λ m. Inside (CommentStar depth) m) (sym (eqb-true b 42 q)) ((λ rest. refl), d)
    by_star false q slash = ((λ rest. comment_plain start line depth b rest slash q), d)

    by_slash : (c : Bool) → (b == 47) ≡ c → Inside (if c then CommentSlash depth else if b == 42 then CommentStar depth else Comment depth) b
    by_slash true q = subst (λ m. Inside (CommentSlash depth) m) (sym (eqb-true b 47 q)) ((λ rest. refl), d)
    by_slash false q = by_star (b == 42) refl q

abbrev pub Comments : ℕ → ℕ → List ℕ → ℕ → Phase → Phase → Type 0
Comments line b text start before phase =
    ((rest : List ℕ) → resume (at_phase before text start) line (b ∷ rest) ≡ resume (at_phase phase text start) (line_behind line b) rest) × IsLexing (at_phase phase text start) (line_behind line b)

slash_taken : (line b depth : ℕ) (text : List ℕ) (start : ℕ) → 1 ≤ depth → Comments line b text start (CommentSlash depth) (commented (CommentSlash depth) b)
slash_taken line b depth text start d = by_star (b == 42) refl
  where
    by_star : (c : Bool) → (b == 42) ≡ c → Comments line b text start (CommentSlash depth) (if c then Comment (depth + 1) else inside depth b)
    by_star true q = subst (λ m. Comments line m text start (CommentSlash depth) (Comment (depth + 1))) (sym (eqb-true b 42 q)) ((λ rest. slash_opens start line depth rest), omega (arith, d))
    by_star false q =
        let plain = inside_taken line b depth text start d in
        ((λ rest. slash_plain start line depth b rest q ∙ plain.0 rest), plain.1)

star_taken : (line b depth : ℕ) (text : List ℕ) (start : ℕ) → 1 ≤ depth → Comments line b text start (CommentStar depth) (commented (CommentStar depth) b)
star_taken line b depth text start d = by_slash (b == 47) refl
  where
    by_depth : (c : Bool) → nat_le depth 1 ≡ c → Comments line 47 text start (CommentStar depth) (if c then Between else Comment (depth - 1))
    by_depth true q =
        let one : depth ≡ 1 = grind (arith, nat_tests, q, d) in
        subst (λ n. Comments line 47 text start (CommentStar n) Between) (sym one) ((λ rest. star_closes start line rest), tt)
    by_depth false q =
        let more : (depth == 1) ≡ false = grind (arith, nat_tests, q) in
        let left : 1 ≤ depth - 1 = grind (arith, nat_tests, q) in
        ((λ rest. star_closes_one start line depth rest more), left)

    by_slash : (c : Bool) → (b == 47) ≡ c → Comments line b text start (CommentStar depth) (if c then (if nat_le depth 1 then Between else Comment (depth - 1)) else inside depth b)
    by_slash true q = subst (λ m. Comments line m text start (CommentStar depth) (if nat_le depth 1 then Between else Comment (depth - 1))) (sym (eqb-true b 47 q)) (by_depth (nat_le depth 1) refl)
    by_slash false q =
        let plain = inside_taken line b depth text start d in
        ((λ rest. star_plain start line depth b rest q ∙ plain.0 rest), plain.1)

-- ---- words and numbers

all_more : (p : ℕ → Bool) (xs : List ℕ) (b : ℕ) → list_all p xs ≡ true → p b ≡ true → list_all p (xs ++ b ∷ []) ≡ true
all_more p [] b e f = ap (λ c. c && true) f
all_more p (x ∷ xs) b e f = ap (λ c. c && list_all p (xs ++ b ∷ [])) (left_true (p x) _ e) ∙ all_more p xs b (right_true (p x) _ e) f

no_end : (k : TokenKind) (c : Bool) → (if c then None else Some k) ≡ None → c ≡ true
no_end k true e = refl
no_end k false e = cc

some_end : (j k : TokenKind) (c : Bool) → (if c then None else Some j) ≡ Some k → (c ≡ false) × (j ≡ k)
some_end j k true e = cc
some_end j k false e = (refl, same_Some j k e)

word_taken : (line b : ℕ) (text : List ℕ) (start : ℕ) → IsLexing (at_phase Word text start) line → ended_kind Word b ≡ None → IsTaken (at_phase Word text start) line b (taken (at_phase Word text start) line b)
word_taken line b [] start l e = absurd l.1
word_taken line b (x ∷ xs) start l e = by_colon (b == 58) refl
  where
    goes : (is_identifier_byte b || b == 58) ≡ true
    goes = no_end kind.Identifier (is_identifier_byte b || b == 58) e

    right_of : (s t : Bool) → (s || t) ≡ true → t ≡ false → s ≡ true
    right_of true t q r = refl
    right_of false t q r = false_is_true (sym r ∙ q)

    by_colon : (c : Bool) → (b == 58) ≡ c
        → IsTaken (at_phase Word (x ∷ xs) start) line b (if c then (Some kind.Header, at_phase Between (x ∷ xs) start) else (None, at_phase Word (x ∷ xs ++ b ∷ []) start))
    by_colon true q =
        subst (λ m. IsTaken (at_phase Word (x ∷ xs) start) line m (Some kind.Header, at_phase Between (x ∷ xs) start)) (sym (eqb-true b 58 q))
        ((λ rest. word_named line x xs rest l.1.0 l.1.1 ∙ ap (λ n. item_of kind.Header (at_phase Between (x ∷ xs) n) ∷ hoa_items_from 0 line rest) (sym l.0)), tt)
    by_colon false q =
        let byte = right_of (is_identifier_byte b) (b == 58) goes q in
        let same = same_line line b (no_line b byte) in (
          (λ rest. ap (λ t. hoa_items_from 0 line (x ∷ t)) (sym (append_assoc xs (b ∷ []) rest)) ∙ ap (λ n. hoa_items_from 0 n (x ∷ (xs ++ b ∷ []) ++ rest)) same),
          (l.0 ∙ same, (l.1.0, all_more is_identifier_byte xs b l.1.1 byte)),
        )

digits_taken : (line b : ℕ) (text : List ℕ) (start : ℕ) → IsLexing (at_phase Digits text start) line → ended_kind Digits b ≡ None → IsTaken (at_phase Digits text start) line b (taken (at_phase Digits text start) line b)
digits_taken line b [] start l e = absurd l.1
digits_taken line b (x ∷ xs) start l e =
    let byte = no_end kind.Int (is_digit b) e in
    let same = same_line line b (no_line_digit b byte) in (
      (λ rest. ap (λ t. hoa_items_from 0 line (x ∷ t)) (sym (append_assoc xs (b ∷ []) rest)) ∙ ap (λ n. hoa_items_from 0 n (x ∷ (xs ++ b ∷ []) ++ rest)) same),
      (l.0 ∙ same, (l.1.0, l.1.1, all_more is_digit xs b l.1.2 byte)),
    )

-- ---- marks

-- the last byte of a beginning of a list
last_of : (q : ℕ → Bool) (m p : List ℕ) (b : ℕ) → starts_with nat_eq m (p ++ b ∷ []) ≡ true → list_all q m ≡ true → q b ≡ true
last_of q [] [] b e a = cc
last_of q [] (y ∷ p) b e a = cc
last_of q (x ∷ m) [] b e a = subst (λ n. q n ≡ true) (sym (eqb-true b x (left_true (nat_eq b x) _ e))) (left_true (q x) _ a)
last_of q (x ∷ m) (y ∷ p) b e a = last_of q m p b (right_true (nat_eq y x) _ e) (right_true (q x) _ a)

one_of : (s t u : Bool) {P : Type 0} → (s || t || u) ≡ true → (s ≡ true → P) → (t ≡ true → P) → (u ≡ true → P) → P
one_of true t u e f g h = f refl
one_of false true u e f g h = g refl
one_of false false u e f g h = h e

mark_byte : (p : List ℕ) (b : ℕ) → begins_mark (p ++ b ∷ []) ≡ true → not (b == 10) ≡ true
mark_byte p b e =
    one_of (starts_with nat_eq (codes "--BODY--") (p ++ b ∷ [])) (starts_with nat_eq (codes "--END--") (p ++ b ∷ [])) (starts_with nat_eq (codes "--ABORT--") (p ++ b ∷ [])) e
    (λ q. last_of (λ n. not (n == 10)) (codes "--BODY--") p b q refl)
    (λ q. last_of (λ n. not (n == 10)) (codes "--END--") p b q refl)
    (λ q. last_of (λ n. not (n == 10)) (codes "--ABORT--") p b q refl)

-- no mark stands at the beginning of one byte more, which is none
still_none : (p : List ℕ) (b : ℕ) → has_mark p ≡ false → mark_kind (p ++ b ∷ []) ≡ None → has_mark (p ++ b ∷ []) ≡ false
still_none p b n k = go (has_mark (p ++ b ∷ [])) refl
  where
    not_body : (c : Bool) → same_name (p ++ b ∷ []) (codes "--BODY--") ≡ c
        → (if c then Some kind.Body else if same_name (p ++ b ∷ []) (codes "--END--") then Some kind.End else if same_name (p ++ b ∷ []) (codes "--ABORT--") then Some kind.Abort else None) ≡ None
        → (c ≡ false) × ((if same_name (p ++ b ∷ []) (codes "--END--") then Some kind.End else if same_name (p ++ b ∷ []) (codes "--ABORT--") then Some kind.Abort else None) ≡ None)
    not_body true q e = cc
    not_body false q e = (refl, e)

    not_end : (c : Bool) → (if c then Some kind.End else if same_name (p ++ b ∷ []) (codes "--ABORT--") then Some kind.Abort else None) ≡ None
        → (c ≡ false) × ((if same_name (p ++ b ∷ []) (codes "--ABORT--") then Some kind.Abort else None) ≡ None)
    not_end true e = cc
    not_end false e = (refl, e)

    not_abort : (c : Bool) → (if c then Some kind.Abort else None) ≡ None → c ≡ false
    not_abort true e = cc
    not_abort false e = refl

    parts : (s t u : Bool) → (s || t || u) ≡ false → (s ≡ false) × (t ≡ false) × (u ≡ false)
    parts true t u q = cc
    parts false true u q = cc
    parts false false u q = (refl, refl, q)

    clash : (c : Bool) → c ≡ false → c ≡ true → ⊥
    clash c e f = false_is_true (sym e ∙ f)

    old : (has_mark p ≡ false) → (starts_with nat_eq p (codes "--BODY--") ≡ false) × (starts_with nat_eq p (codes "--END--") ≡ false) × (starts_with nat_eq p (codes "--ABORT--") ≡ false)
    old q = parts _ _ _ q

    go : (c : Bool) → has_mark (p ++ b ∷ []) ≡ c → c ≡ false
    go false q = refl
    go true q =
        let body = not_body (same_name (p ++ b ∷ []) (codes "--BODY--")) refl k in
        let end = not_end (same_name (p ++ b ∷ []) (codes "--END--")) body.1 in
        let abort = not_abort (same_name (p ++ b ∷ []) (codes "--ABORT--")) end.1 in
        let o = old n in
        one_of (starts_with nat_eq (p ++ b ∷ []) (codes "--BODY--")) (starts_with nat_eq (p ++ b ∷ []) (codes "--END--")) (starts_with nat_eq (p ++ b ∷ []) (codes "--ABORT--")) q
        (λ h. elim (one_longer (codes "--BODY--") p b h) [ inl i ↦ absurd (clash _ o.0 i) | inr i ↦ absurd (clash _ body.0 i) ])
        (λ h. elim (one_longer (codes "--END--") p b h) [ inl i ↦ absurd (clash _ o.1 i) | inr i ↦ absurd (clash _ end.0 i) ])
        (λ h. elim (one_longer (codes "--ABORT--") p b h) [ inl i ↦ absurd (clash _ o.2 i) | inr i ↦ absurd (clash _ abort i) ])

-- bytes that no mark begins with, and that begin with none, begin with none whatever follows
never_mark : (p rest : List ℕ) → begins_mark p ≡ false → has_mark p ≡ false → has_mark (p ++ rest) ≡ false
never_mark p rest f n = go (has_mark (p ++ rest)) refl
  where
    parts : (s t u : Bool) → (s || t || u) ≡ false → (s ≡ false) × (t ≡ false) × (u ≡ false)
    parts true t u q = cc
    parts false true u q = cc
    parts false false u q = (refl, refl, q)

    clash : (c : Bool) → c ≡ false → c ≡ true → ⊥
    clash c e g = false_is_true (sym e ∙ g)

    go : (c : Bool) → has_mark (p ++ rest) ≡ c → c ≡ false
    go false q = refl
    go true q =
        let b = parts (starts_with nat_eq (codes "--BODY--") p) (starts_with nat_eq (codes "--END--") p) (starts_with nat_eq (codes "--ABORT--") p) f in
        let o = parts (starts_with nat_eq p (codes "--BODY--")) (starts_with nat_eq p (codes "--END--")) (starts_with nat_eq p (codes "--ABORT--")) n in
        one_of (starts_with nat_eq (p ++ rest) (codes "--BODY--")) (starts_with nat_eq (p ++ rest) (codes "--END--")) (starts_with nat_eq (p ++ rest) (codes "--ABORT--")) q
        (λ h. elim (longer (codes "--BODY--") p rest h) [ inl i ↦ absurd (clash _ o.0 i) | inr i ↦ absurd (clash _ b.0 i) ])
        (λ h. elim (longer (codes "--END--") p rest h) [ inl i ↦ absurd (clash _ o.1 i) | inr i ↦ absurd (clash _ b.1 i) ])
        (λ h. elim (longer (codes "--ABORT--") p rest h) [ inl i ↦ absurd (clash _ o.2 i) | inr i ↦ absurd (clash _ b.2 i) ])

-- ---- marks, byte by byte

-- what a mark is, once it is whole
mark_first : (line : ℕ) (p : List ℕ) (k : TokenKind) → mark_kind p ≡ Some k → (start : ℕ) → start ≡ line
    → (rest : List ℕ) → hoa_items_from 0 line (p ++ rest) ≡ item_of k (at_phase Between p start) ∷ hoa_items_from 0 line rest
mark_first line p k e start s rest =
    by_body (same_name p (codes "--BODY--")) refl e
  where
    IsMark : TokenKind → List ℕ → Type 0
    IsMark j m = hoa_items_from 0 line (m ++ rest) ≡ item_of j (at_phase Between m start) ∷ hoa_items_from 0 line rest

    by_abort : (c : Bool) → same_name p (codes "--ABORT--") ≡ c → (if c then Some kind.Abort else None) ≡ Some k → IsMark k p
    by_abort true q h = subst (λ j. IsMark j p) (same_Some kind.Abort k h) (subst (IsMark kind.Abort) (sym (same_exact p (codes "--ABORT--") q)) (abort_first line rest ∙ ap (λ n. record { token = token.Abort; line = n } ∷ hoa_items_from 0 line rest) (sym s)))
    by_abort false q h = cc

    by_end : (c : Bool) → same_name p (codes "--END--") ≡ c → (if c then Some kind.End else if same_name p (codes "--ABORT--") then Some kind.Abort else None) ≡ Some k → IsMark k p
    by_end true q h = subst (λ j. IsMark j p) (same_Some kind.End k h) (subst (IsMark kind.End) (sym (same_exact p (codes "--END--") q)) (end_first line rest ∙ ap (λ n. record { token = token.End; line = n } ∷ hoa_items_from 0 line rest) (sym s)))
    by_end false q h = by_abort (same_name p (codes "--ABORT--")) refl h

    by_body : (c : Bool) → same_name p (codes "--BODY--") ≡ c
        → (if c then Some kind.Body else if same_name p (codes "--END--") then Some kind.End else if same_name p (codes "--ABORT--") then Some kind.Abort else None) ≡ Some k → IsMark k p
    by_body true q h = subst (λ j. IsMark j p) (same_Some kind.Body k h) (subst (IsMark kind.Body) (sym (same_exact p (codes "--BODY--") q)) (body_first line rest ∙ ap (λ n. record { token = token.Body; line = n } ∷ hoa_items_from 0 line rest) (sym s)))
    by_body false q h = by_end (same_name p (codes "--END--")) refl h

-- a whole mark is a beginning of one
mark_begins : (p : List ℕ) (k : TokenKind) → mark_kind p ≡ Some k → begins_mark p ≡ true
mark_begins p k e = by_body (same_name p (codes "--BODY--")) refl e
  where
    by_abort : (c : Bool) → same_name p (codes "--ABORT--") ≡ c → (if c then Some kind.Abort else None) ≡ Some k → begins_mark p ≡ true
    by_abort true q h = subst (λ m. begins_mark m ≡ true) (sym (same_exact p (codes "--ABORT--") q)) refl
    by_abort false q h = cc

    by_end : (c : Bool) → same_name p (codes "--END--") ≡ c → (if c then Some kind.End else if same_name p (codes "--ABORT--") then Some kind.Abort else None) ≡ Some k → begins_mark p ≡ true
    by_end true q h = subst (λ m. begins_mark m ≡ true) (sym (same_exact p (codes "--END--") q)) refl
    by_end false q h = by_abort (same_name p (codes "--ABORT--")) refl h

    by_body : (c : Bool) → same_name p (codes "--BODY--") ≡ c
        → (if c then Some kind.Body else if same_name p (codes "--END--") then Some kind.End else if same_name p (codes "--ABORT--") then Some kind.Abort else None) ≡ Some k → begins_mark p ≡ true
    by_body true q h = subst (λ m. begins_mark m ≡ true) (sym (same_exact p (codes "--BODY--") q)) refl
    by_body false q h = by_end (same_name p (codes "--END--")) refl h

mark_taken : (line b : ℕ) (text : List ℕ) (start : ℕ) → IsLexing (at_phase Mark text start) line → IsTaken (at_phase Mark text start) line b (taken (at_phase Mark text start) line b)
mark_taken line b [] start l = absurd l.1
mark_taken line b (x ∷ xs) start l = by_kind (mark_kind (x ∷ xs ++ b ∷ [])) refl
  where
    longer_by : (rest : List ℕ) → hoa_items_from 0 line (x ∷ xs ++ b ∷ rest) ≡ hoa_items_from 0 line ((x ∷ xs ++ b ∷ []) ++ rest)
    longer_by rest = ap (λ t. hoa_items_from 0 line (x ∷ t)) (sym (append_assoc xs (b ∷ []) rest))

    by_begins : (c : Bool) → begins_mark (x ∷ xs ++ b ∷ []) ≡ c → mark_kind (x ∷ xs ++ b ∷ []) ≡ None
        → IsTaken (at_phase Mark (x ∷ xs) start) line b (if c then (None, at_phase Mark (x ∷ xs ++ b ∷ []) start) else (Some kind.Unknown, at_phase Ended (x ∷ xs ++ b ∷ []) start))
    by_begins true q k =
        let same = same_line line b (mark_byte (x ∷ xs) b q) in (
          (λ rest. longer_by rest ∙ ap (λ n. hoa_items_from 0 n ((x ∷ xs ++ b ∷ []) ++ rest)) same),
          (l.0 ∙ same, (l.1.0, q, still_none (x ∷ xs) b l.1.2 k)),
        )
    by_begins false q k = (
      (λ rest.
          let none = never_mark (x ∷ xs ++ b ∷ []) rest q (still_none (x ∷ xs) b l.1.2 k) in
          longer_by rest
          ∙ (subst (λ n. has_mark (n ∷ (xs ++ b ∷ []) ++ rest) ≡ false → hoa_items_from 0 line (n ∷ (xs ++ b ∷ []) ++ rest) ≡ record { token = Unknown; line = line } ∷ []) (sym l.1.0)
          (dash_alone line ((xs ++ b ∷ []) ++ rest)) none)
          ∙ ap (λ n. record { token = Unknown; line = n } ∷ []) (sym l.0)),
      tt,
    )

    by_kind : (o : Option TokenKind) → mark_kind (x ∷ xs ++ b ∷ []) ≡ o → IsTaken (at_phase Mark (x ∷ xs) start) line b (marked_by o (at_phase Mark (x ∷ xs ++ b ∷ []) start))
    by_kind (Some k) q =
        let same = same_line line b (mark_byte (x ∷ xs) b (mark_begins (x ∷ xs ++ b ∷ []) k q)) in
        ((λ rest. longer_by rest ∙ mark_first line (x ∷ xs ++ b ∷ []) k q start l.0 rest ∙ ap (λ n. item_of k (at_phase Between (x ∷ xs ++ b ∷ []) start) ∷ hoa_items_from 0 n rest) same), tt)
    by_kind None q = by_begins (begins_mark (x ∷ xs ++ b ∷ [])) refl q

-- ---- strings

text_taken : (line b : ℕ) (text : List ℕ) (start : ℕ) → IsTaken (at_phase Text text start) line b (taken (at_phase Text text start) line b)
text_taken line b text start = by_quote (b == 34) refl
  where
    by_slash : (c : Bool) → (b == 92) ≡ c → (b == 34) ≡ false
        → IsTaken (at_phase Text text start) line b (if c then (None, at_phase Escape text start) else (None, at_phase Text (text ++ b ∷ []) start))
    by_slash true q quote = subst (λ m. IsTaken (at_phase Text text start) line m (None, at_phase Escape text start)) (sym (eqb-true b 92 q)) ((λ rest. string_keeps start line text rest), tt)
    by_slash false q quote = ((λ rest. string_goes_on start line b text rest quote q), tt)

    by_quote : (c : Bool) → (b == 34) ≡ c
        → IsTaken (at_phase Text text start) line b (if c then (Some kind.Text, at_phase Between text start) else if b == 92 then (None, at_phase Escape text start) else (None, at_phase Text (text ++ b ∷ []) start))
    by_quote true q =
        subst (λ m. IsTaken (at_phase Text text start) line m (Some kind.Text, at_phase Between text start)) (sym (eqb-true b 34 q))
        ((λ rest. ap (λ t. record { token = token.StringToken t; line = start } ∷ hoa_items_from 0 line rest) (append-nil text)), tt)
    by_quote false q = by_slash (b == 92) refl q

slash_begun : (line b : ℕ) (text : List ℕ) (start : ℕ) → start ≡ line → IsTaken (at_phase Slash text start) line b (taken (at_phase Slash text start) line b)
slash_begun line b text start s = by_star (b == 42) refl
  where
    by_star : (c : Bool) → (b == 42) ≡ c → IsTaken (at_phase Slash text start) line b (if c then (None, at_phase (Comment 1) text start) else (Some kind.Unknown, at_phase Ended text start))
    by_star true q =
        subst (λ m. IsTaken (at_phase Slash text start) line m (None, at_phase (Comment 1) text start)) (sym (eqb-true b 42 q))
        ((λ rest. comment_first line rest ∙ ap (λ n. comment_items n line (comment_rest 0 1 rest) rest) (sym s)), omega arith)
    by_star false q = ((λ rest. slash_alone line b rest q ∙ ap (λ n. record { token = Unknown; line = n } ∷ []) (sym s)), tt)

-- ---- any phase

taken_at : (phase : Phase) (line b : ℕ) (text : List ℕ) (start : ℕ) → IsLexing (at_phase phase text start) line → ended_kind phase b ≡ None
    → IsTaken (at_phase phase text start) line b (taken (at_phase phase text start) line b)
taken_at Between line b text start l e = begins line b
taken_at Slash line b text start l e = slash_begun line b text start l
taken_at Word line b text start l e = word_taken line b text start l e
taken_at Zero line b text start l e = cc
taken_at Digits line b text start l e = digits_taken line b text start l e
taken_at Mark line b text start l e = mark_taken line b text start l
taken_at Text line b text start l e = text_taken line b text start
taken_at Escape line b text start l e = ((λ rest. string_kept start line b text rest), tt)
taken_at (Comment depth) line b text start l e = inside_taken line b depth text start l
taken_at (CommentSlash depth) line b text start l e = slash_taken line b depth text start l
taken_at (CommentStar depth) line b text start l e = star_taken line b depth text start l
taken_at Ended line b text start l e = ((λ rest. refl), tt)

-- a byte before which no token ends is taken rightly
pub lexer_takes : (v : LexerView) (line b : ℕ) → IsLexing v line → ended_kind v.phase b ≡ None → IsTaken v line b (taken v line b)
lexer_takes v line b l e = taken_at v.phase line b v.text v.start l e

-- a token ends before a byte
ended_at : (phase : Phase) (line b : ℕ) (text : List ℕ) (start : ℕ) (k : TokenKind) → IsLexing (at_phase phase text start) line → ended_kind phase b ≡ Some k
    → (rest : List ℕ) → resume (at_phase phase text start) line (b ∷ rest) ≡ item_of k (at_phase phase text start) ∷ hoa_items_from 0 line (b ∷ rest)
ended_at Word line b [] start k l e rest = absurd l.1
ended_at Word line b (x ∷ xs) start k l e rest =
    let end = some_end kind.Identifier k (is_identifier_byte b || b == 58) e in
    word_ends line x xs (b ∷ rest) l.1.0 l.1.1 end.0
    ∙ ap (λ n. item_of kind.Identifier (at_phase Word (x ∷ xs) n) ∷ hoa_items_from 0 line (b ∷ rest)) (sym l.0)
    ∙ ap (λ j. item_of j (at_phase Word (x ∷ xs) start) ∷ hoa_items_from 0 line (b ∷ rest)) end.1
ended_at Zero line b text start k l e rest =
    ap (λ t. hoa_items_from 0 line (t ++ b ∷ rest)) l.1
    ∙ ap (λ n. record { token = token.Int 0; line = n } ∷ hoa_items_from 0 line (b ∷ rest)) (sym l.0)
    ∙ ap (λ t. item_of kind.Int (at_phase Zero t start) ∷ hoa_items_from 0 line (b ∷ rest)) (sym l.1)
    ∙ ap (λ j. item_of j (at_phase Zero text start) ∷ hoa_items_from 0 line (b ∷ rest)) (same_Some kind.Int k e)
ended_at Digits line b [] start k l e rest = absurd l.1
ended_at Digits line b (x ∷ xs) start k l e rest =
    let end = some_end kind.Int k (is_digit b) e in
    number_ends line x xs (b ∷ rest) l.1.0 l.1.1 l.1.2 end.0
    ∙ ap (λ n. item_of kind.Int (at_phase Digits (x ∷ xs) n) ∷ hoa_items_from 0 line (b ∷ rest)) (sym l.0)
    ∙ ap (λ j. item_of j (at_phase Digits (x ∷ xs) start) ∷ hoa_items_from 0 line (b ∷ rest)) end.1
ended_at _ line b text start k l e rest = cc

pub lexer_ends : (v : LexerView) (line b : ℕ) (k : TokenKind) → IsLexing v line → ended_kind v.phase b ≡ Some k
    → (rest : List ℕ) → resume v line (b ∷ rest) ≡ item_of k v ∷ resume (rested v) line (b ∷ rest)
lexer_ends v line b k l e = ended_at v.phase line b v.text v.start k l e

-- the end of the text
last_at : (phase : Phase) (line : ℕ) (text : List ℕ) (start : ℕ) → IsLexing (at_phase phase text start) line → resume (at_phase phase text start) line [] ≡ with_item (last_kind phase) (at_phase phase text start) []
last_at Slash line text start l = slash_last line ∙ ap (λ n. record { token = Unknown; line = n } ∷ []) (sym l)
last_at Word line [] start l = absurd l.1
last_at Word line (x ∷ xs) start l = word_ends line x xs [] l.1.0 l.1.1 tt ∙ ap (λ n. item_of kind.Identifier (at_phase Word (x ∷ xs) n) ∷ []) (sym l.0)
last_at Zero line text start l =
    ap (λ t. hoa_items_from 0 line (t ++ [])) l.1 ∙ ap (λ n. record { token = token.Int 0; line = n } ∷ []) (sym l.0) ∙ ap (λ t. item_of kind.Int (at_phase Zero t start) ∷ []) (sym l.1)
last_at Digits line [] start l = absurd l.1
last_at Digits line (x ∷ xs) start l = number_ends line x xs [] l.1.0 l.1.1 l.1.2 tt ∙ ap (λ n. item_of kind.Int (at_phase Digits (x ∷ xs) n) ∷ []) (sym l.0)
last_at Mark line [] start l = absurd l.1
last_at Mark line (x ∷ xs) start l =
    ap (λ t. hoa_items_from 0 line (x ∷ t)) (append-nil xs)
    ∙ (subst (λ n. has_mark (n ∷ xs) ≡ false → hoa_items_from 0 line (n ∷ xs) ≡ record { token = Unknown; line = line } ∷ []) (sym l.1.0) (dash_alone line xs)) l.1.2
    ∙ ap (λ n. record { token = Unknown; line = n } ∷ []) (sym l.0)
last_at _ line text start l = refl

pub lexer_last : (v : LexerView) (line : ℕ) → IsLexing v line → resume v line [] ≡ with_item (last_kind v.phase) v []
lexer_last v line l = last_at v.phase line v.text v.start l
