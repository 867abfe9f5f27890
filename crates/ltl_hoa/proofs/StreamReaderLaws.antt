-- A byte takes the stream reader where the definition goes.
use Rattle.std.proofs.Common.{◌≡◌, ℕ, ◌+◌, Bool, true, false, cond, ◌||◌, List, [], ◌∷◌, ◌++◌, length, Option, Some, None, ◌==◌, refl, sym, ◌∙◌, ap, subst, arith, append_assoc}
use Rattle.std.specs.Prelude.{⊤, if◌then◌else◌, fold, count_by, is_some, Result, Ok, Err}
use Rattle.std.proofs.lemmas.List.Sums.{fold-append}
use Rattle.std.proofs.lemmas.Bool.{false≢true}
use Rattle.std.proofs.Common.{length-append}
use Rattle.std.specs.Prelude.{codes}
use Rattle.ltl_spec.specs.Formulas.Tokens.{is_blank, same_name}
use Rattle.ltl_spec.specs.Tools.Limits.{stated_limits}
use Rattle.ltl_spec.specs.Hoa.HoaToken.{HoaItem, hoa_items, last_line, is_digit, begins_identifier, is_identifier_byte}
use Rattle.ltl_spec.specs.Hoa.HoaReading.{stated_form}
use Rattle.ltl_spec.specs.Hoa.HoaPlace as spec
use Rattle.ltl_spec.specs.Hoa.HoaStep as table
use Rattle.ltl_spec.specs.Hoa.HoaFault as fault
use Rattle.ltl_spec.specs.Hoa.HoaPlace.{Before, before_all}
use Rattle.ltl_spec.specs.Hoa.HoaStep.{Step}
use Rattle.ltl_spec.specs.Hoa.HoaFault.{take_item, with_line}
use Rattle.ltl_hoa.specs.declared.fault.Stop.{Stop}
use Rattle.ltl_hoa.specs.declared.fault.Stop.TheVariants.{Fault, OutOfMemory}
use Rattle.ltl_hoa.specs.declared.fault.HoaFaultKind as made
use Rattle.ltl_hoa.specs.declared.stream_reader.Found.{Found}
use Rattle.ltl_hoa.specs.declared.place.Place.{Place}
use Rattle.ltl_hoa.specs.declared.token.TokenKind.{TokenKind}
use Rattle.ltl_hoa.specs.declared.token.TokenKind.TheVariants as kind
use Rattle.ltl_hoa.specs.declared.lexer.Phase.{Phase}
use Rattle.ltl_hoa.specs.declared.lexer.Phase.TheVariants as phase
use Rattle.ltl_hoa.specs.TokenView.{token_of, kind_of, sign_kind, mark_kind, begins_mark}
use Rattle.ltl_hoa.specs.LexerView.{LexerView, ended_kind, rested, taken, taken_in, beginning, sign_beginning, marked_by, quoted_in}
use Rattle.ltl_hoa.specs.Resuming.{item_of, resume, IsLexing}
use Rattle.ltl_spec.specs.Hoa.HoaMachine.{Came, Reached, came_none, came_at, reach}
use Rattle.ltl_spec.proofs.Hoa.HoaLaws.{first_reached}
use Rattle.ltl_hoa.specs.ParserView.{Shows}
use Rattle.ltl_hoa.specs.StreamReaderView.{StreamReaderView, line_behind, TakesToken, FaultIs, fault_line, EndsToken, Feeds, Lexes, met, through, stopped}
use Rattle.ltl_hoa.specs.Reading.{reached, fault_of, IsSound, IsIn, IsAfter}
use Rattle.ltl_hoa.proofs.ParserLaws.{StepShown, parser_takes}
use Rattle.ltl_hoa.proofs.LexLaws.{IsTaken, lexer_takes, lexer_ends}

-- ---- tokens that have an end

abbrev pub has_end : TokenKind → Bool
has_end kind.UnclosedText = false
has_end kind.UnclosedComment = false
has_end k = true

abbrev pub Ends : Option TokenKind → Type 0
Ends None = ⊤
Ends (Some k) = has_end k ≡ true

if_ends : (c : Bool) (x y : Option TokenKind) → Ends x → Ends y → Ends (if c then x else y)
if_ends true x y a b = a
if_ends false x y a b = b

ended_ends : (p : Phase) (b : ℕ) → Ends (ended_kind p b)
ended_ends phase.Word b = if_ends (is_identifier_byte b || b == 58) None (Some kind.Identifier) tt refl
ended_ends phase.Digits b = if_ends (is_digit b) None (Some kind.Int) tt refl
ended_ends phase.Zero b = refl
ended_ends p b = tt

abbrev EndsPair : {T : Type 0} → T × Option TokenKind → Type 0
EndsPair q = Ends q.1

pair_ends : {T : Type 0} (c : Bool) (x y : T × Option TokenKind) → EndsPair x → EndsPair y → EndsPair (if c then x else y)
pair_ends true x y a b = a
pair_ends false x y a b = b

sign_ends : (o : Option TokenKind) → Ends o → EndsPair (sign_beginning o)
sign_ends None e = refl
sign_ends (Some k) e = e

beginning_ends : (b : ℕ) → EndsPair (beginning b)
beginning_ends b =
    pair_ends (is_blank b) _ _ tt (pair_ends (b == 47) _ _ tt (pair_ends (b == 34) _ _ tt (pair_ends (b == 48) _ _ tt (pair_ends (is_digit b) _ _ tt (pair_ends (begins_identifier b) _ _ tt (pair_ends (b == 45) _ _ tt (
    sign_ends (sign_kind b) (if_ends (b == 91) _ _ refl (if_ends (b == 93) _ _ refl (if_ends (b == 123) _ _ refl (if_ends (b == 125) _ _ refl (if_ends (b == 40) _ _ refl (if_ends (b == 41) _ _ refl
    (if_ends (b == 33) _ _ refl (if_ends (b == 38) _ _ refl (if_ends (b == 124) _ _ refl tt))))))))))))))))

first_ends : (c : Bool) (x y : Option TokenKind × LexerView) → Ends x.0 → Ends y.0 → Ends (if c then x else y).0
first_ends true x y a b = a
first_ends false x y a b = b

mark_ends : (o : Option TokenKind) (v : LexerView) → Ends o → Ends (marked_by o v).0
mark_ends (Some k) v e = e
mark_ends None v e = first_ends (begins_mark v.text) _ _ tt refl

kind_ends : (text : List ℕ) → Ends (mark_kind text)
kind_ends text =
    if_ends (same_name text (codes "--BODY--")) (Some kind.Body) (if same_name text (codes "--END--") then Some kind.End else if same_name text (codes "--ABORT--") then Some kind.Abort else None) refl (
    if_ends (same_name text (codes "--END--")) (Some kind.End) (if same_name text (codes "--ABORT--") then Some kind.Abort else None) refl (
    if_ends (same_name text (codes "--ABORT--")) (Some kind.Abort) None refl tt))

taken_ends : (p : Phase) (v : LexerView) (line b : ℕ) → v.phase ≡ p → Ends (taken_in p v line b).0
taken_ends phase.Between v line b e = beginning_ends b
taken_ends phase.Word v line b e = first_ends (b == 58) _ _ refl tt
taken_ends phase.Digits v line b e = tt
taken_ends phase.Mark v line b e = mark_ends (mark_kind (v.text ++ b ∷ [])) _ (kind_ends (v.text ++ b ∷ []))
taken_ends phase.Text v line b e = subst (λ p. Ends (quoted_in p v b).0) (sym e) (first_ends (b == 34) _ _ refl (first_ends (b == 92) _ _ tt tt))
taken_ends phase.Escape v line b e = subst (λ p. Ends (quoted_in p v b).0) (sym e) tt
taken_ends phase.Slash v line b e = first_ends (b == 42) _ _ tt refl
taken_ends p v line b e = tt

-- the line of a fault there is that of the token
plain_line : (p : Place) (k : TokenKind) (start last : ℕ) → has_end k ≡ true → fault_line p k start last ≡ start
plain_line p kind.UnclosedText start last e = cc
plain_line p kind.UnclosedComment start last e = cc
plain_line p k start last e = refl

spec_line : (p : spec.Place) (k : TokenKind) (text : List ℕ) (start last : ℕ) → has_end k ≡ true → fault.fault_line p (token_of k text) start last ≡ start
spec_line p kind.UnclosedText text start last e = cc
spec_line p kind.UnclosedComment text start last e = cc
spec_line p k text start last e = refl

-- ---- a token

-- what the definition's step says of the stream reader behind the token
abbrev pub TokenShown : Step → Came → StreamReaderView → TokenKind → StreamReaderView → Type 0
TokenShown (Ok c) h v k w = (w.fault ≡ None) × Shows w.parser c h
TokenShown (Err j) h v k w = (m : made.HoaFaultKind) × (w.fault ≡ Some (record { line = fault_line v.parser.place k v.lexer.start v.line; kind = m })) × (kind_of m ≡ j)

pub token_shown : (v w : StreamReaderView) (k : TokenKind) (b : Before) (g : Came) → v.fault ≡ None → Shows v.parser b g → TakesToken v k w
    → TokenShown (table.step stated_limits stated_form b.place b (token_of k v.lexer.text)) (came_at b.place b (token_of k v.lexer.text) g) v k w
token_shown v w k b g n s t =
    go (table.step stated_limits stated_form b.place b (token_of k v.lexer.text)) (came_at b.place b (token_of k v.lexer.text) g) t.answer (parser_takes v.parser w.parser b g (token_of k v.lexer.text) t.answer s t.parser) t.fault
  where
    go : (S : Step) (h : Came) (r : Result (Unit {0}) Stop) → StepShown S h r w.parser → FaultIs v k r w.fault → TokenShown S h v k w
    go (Ok c) h (Ok u) a f = (f ∙ n, a)
    go (Ok c) h (Err (Fault m)) a f = cc
    go (Ok c) h (Err OutOfMemory) a f = absurd f
    go (Err j) h (Ok u) a f = absurd a
    go (Err j) h (Err (Fault m)) a f = (m, f, a)
    go (Err j) h (Err OutOfMemory) a f = absurd f

-- one item more
pub reached_more : (whole : List ℕ) (items : List HoaItem) (i : HoaItem) → reached whole (items ++ i ∷ []) ≡ reach stated_limits stated_form whole (reached whole items) i
reached_more whole items i = fold-append (reach stated_limits stated_form whole) (Ok before_all, came_none) items (i ∷ [])

-- what the stream reader is behind these items
abbrev pub Behind : Option Found → StreamReaderView → List HoaItem → Type 0
Behind None w items = (b : Before) × (g : Came) × ((whole : List ℕ) → reached whole items ≡ (Ok b, g)) × Shows w.parser b g
Behind (Some f) w items = (whole : List ℕ) → fold (take_item stated_limits stated_form whole) (Ok before_all) items ≡ Err (fault_of f)

-- a token with an end
pub token_behind : (v w : StreamReaderView) (k : TokenKind) (items : List HoaItem) (b : Before) (g : Came) → v.fault ≡ None → has_end k ≡ true → ((whole : List ℕ) → reached whole items ≡ (Ok b, g)) → Shows v.parser b g → TakesToken v k w
    → Behind w.fault w (items ++ item_of k v.lexer ∷ [])
token_behind v w k items b g n e r s t = go (table.step stated_limits stated_form b.place b (token_of k v.lexer.text)) refl (token_shown v w k b g n s t)
  where
    more : (whole : List ℕ) → reached whole (items ++ item_of k v.lexer ∷ []) ≡ reach stated_limits stated_form whole (Ok b, g) (item_of k v.lexer)
    more whole = reached_more whole items (item_of k v.lexer) ∙ ap (λ x. reach stated_limits stated_form whole x (item_of k v.lexer)) (r whole)

    go : (S : Step) → table.step stated_limits stated_form b.place b (token_of k v.lexer.text) ≡ S → TokenShown S (came_at b.place b (token_of k v.lexer.text) g) v k w → Behind w.fault w (items ++ item_of k v.lexer ∷ [])
    go (Ok c) q a =
        subst (λ o. Behind o w (items ++ item_of k v.lexer ∷ [])) (sym a.0)
        (c, came_at b.place b (token_of k v.lexer.text) g, (λ whole. more whole ∙ ap (λ S. (with_line stated_limits stated_form whole b.place (item_of k v.lexer) S, came_at b.place b (token_of k v.lexer.text) g)) q), a.1)
    go (Err j) q (m, f, d) =
        subst (λ o. Behind o w (items ++ item_of k v.lexer ∷ [])) (sym f) (λ whole.
        sym (first_reached stated_limits stated_form whole (items ++ item_of k v.lexer ∷ []) (Ok before_all, came_none))
        ∙ ap (λ (x : Reached). x.0) (more whole ∙ ap (λ S. (with_line stated_limits stated_form whole b.place (item_of k v.lexer) S, came_at b.place b (token_of k v.lexer.text) g)) q)
        ∙ ap (λ l. Err (record { kind = j; line = l })) (spec_line b.place k v.lexer.text v.lexer.start (last_line whole) e ∙ sym (plain_line v.parser.place k v.lexer.start v.line e))
        ∙ ap (λ i. Err (record { kind = i; line = fault_line v.parser.place k v.lexer.start v.line })) (sym d))

-- ---- a byte

pub line_more : (text : List ℕ) (b : ℕ) → last_line (text ++ b ∷ []) ≡ line_behind (last_line text) b
line_more text b = ap (λ n. 1 + n) (fold-append (λ a c. a + cond (c == 10) 1 0) 0 text (b ∷ [])) ∙ go (b == 10) (count_by (λ c. c == 10) text)
  where
    go : (c : Bool) (n : ℕ) → 1 + (n + cond c 1 0) ≡ (if c then 1 + n + 1 else 1 + n)
    go true n = omega arith
    go false n = omega arith

text_more : (text more : List ℕ) (b : ℕ) → hoa_items ((text ++ b ∷ []) ++ more) ≡ hoa_items (text ++ b ∷ more)
text_more text more b = ap hoa_items (append_assoc text (b ∷ []) more)

length_more : (text : List ℕ) (b : ℕ) → length text + 1 ≡ length (text ++ b ∷ [])
length_more text b = let e = length-append text (b ∷ []) in omega (arith, e)

-- the second token
enters : (u w : StreamReaderView) (byte : ℕ) (text : List ℕ) (items : List HoaItem) (b : Before) (g : Came) → u.fault ≡ None → IsLexing u.lexer u.line → ended_kind u.lexer.phase byte ≡ None
    → ((rest : List ℕ) → hoa_items (text ++ byte ∷ rest) ≡ items ++ resume u.lexer u.line (byte ∷ rest)) → ((whole : List ℕ) → reached whole items ≡ (Ok b, g)) → Shows u.parser b g
    → Feeds (taken u.lexer u.line byte) u w → (given : ℕ) → IsIn w.fault (record w { given = given; line = line_behind u.line byte }) (text ++ byte ∷ [])
enters u w byte text items b g n l e h r s t given =
    go (taken u.lexer u.line byte) (lexer_takes u.lexer u.line byte l e) (taken_ends u.lexer.phase u.lexer u.line byte refl) t
  where
    go : (p : Option TokenKind × LexerView) → IsTaken u.lexer u.line byte p → Ends p.0 → Feeds p u w → IsIn w.fault (record w { given = given; line = line_behind u.line byte }) (text ++ byte ∷ [])
    go (None, x) a d m =
        subst (λ (y : StreamReaderView). IsIn y.fault (record y { given = given; line = line_behind u.line byte }) (text ++ byte ∷ [])) (sym m)
        (subst (λ o. IsIn o (record u { lexer = x; given = given; line = line_behind u.line byte }) (text ++ byte ∷ [])) (sym n) (record {
          items = items;
          lexing = a.1;
          rest = λ more. text_more text more byte ∙ h more ∙ ap (λ z. items ++ z) (a.0 more);
          before = b;
          came = g;
          reached = r;
          shows = s;
        }))
    go (Some k, x) a d m =
        shown w.fault refl (token_behind (record u { lexer = x }) w k items b g n d r s m)
      where
        later : (more : List ℕ) → hoa_items ((text ++ byte ∷ []) ++ more) ≡ (items ++ item_of k x ∷ []) ++ resume x (line_behind u.line byte) more
        later more = text_more text more byte ∙ h more ∙ ap (λ z. items ++ z) (a.0 more) ∙ sym (append_assoc items (item_of k x ∷ []) (resume x (line_behind u.line byte) more))

        shown : (o : Option Found) → w.fault ≡ o → Behind o w (items ++ item_of k x ∷ []) → IsIn o (record w { given = given; line = line_behind u.line byte }) (text ++ byte ∷ [])
        shown None q (c, i, y, z) = record {
          items = items ++ item_of k x ∷ [];
          lexing = subst (λ v. IsLexing v (line_behind u.line byte)) (sym m.lexer) a.1;
          rest = λ more. later more ∙ ap (λ v. (items ++ item_of k x ∷ []) ++ resume v (line_behind u.line byte) more) (sym m.lexer);
          before = c;
          came = i;
          reached = y;
          shows = z;
        }
        shown (Some f) q y = record { items = items ++ item_of k x ∷ []; rest = λ more. (resume x (line_behind u.line byte) more, later more); faulty = y }

-- both tokens
pub lexed : (v w : StreamReaderView) (byte : ℕ) (text : List ℕ) (before given : ℕ) → IsAfter (record v { given = before }) text → Lexes v byte w → given ≡ before + 1
    → IsAfter (record w { given = given; line = line_behind v.line byte }) (text ++ byte ∷ [])
lexed v w byte text before given a l c = record {
  given = c ∙ ap (λ k. k + 1) a.given ∙ length_more text byte;
  line = ap (λ k. line_behind k byte) a.line ∙ sym (line_more text byte);
  inside = go a.inside l;
}
  where
    go : IsIn v.fault (record v { given = before }) text → Lexes v byte w → IsIn w.fault (record w { given = given; line = line_behind v.line byte }) (text ++ byte ∷ [])
    go i (met f m) = subst (λ (y : StreamReaderView). IsIn y.fault (record y { given = given; line = line_behind v.line byte }) (text ++ byte ∷ [])) (sym m) (stays v.fault f i)
      where
        stays : (o : Option Found) → is_some o ≡ true → IsIn o (record v { given = before }) text → IsIn o (record v { given = given; line = line_behind v.line byte }) (text ++ byte ∷ [])
        stays None q s = cc
        stays (Some f) q s = record {
          items = s.items;
          rest = λ more. let r = s.rest (byte ∷ more) in (r.0, text_more text more byte ∙ r.1);
          faulty = s.faulty;
        }
    go i (through n u leaves f t) = by_kind (ended_kind v.lexer.phase byte) refl leaves
      where
        s : IsSound (record v { given = before }) text
        s = subst (λ o. IsIn o (record v { given = before }) text) n i

        by_kind : (o : Option TokenKind) → ended_kind v.lexer.phase byte ≡ o → EndsToken o v u → IsIn w.fault (record w { given = given; line = line_behind v.line byte }) (text ++ byte ∷ [])
        by_kind None e m =
            subst (λ k. IsIn w.fault (record w { given = given; line = line_behind k byte }) (text ++ byte ∷ [])) (ap (λ (x : StreamReaderView). x.line) m)
            (enters u w byte text s.items s.before s.came f (subst (λ (x : StreamReaderView). IsLexing x.lexer x.line) (sym m) s.lexing)
            (ap (λ (x : StreamReaderView). ended_kind x.lexer.phase byte) m ∙ e)
            (λ rest. s.rest (byte ∷ rest) ∙ ap (λ (x : StreamReaderView). s.items ++ resume x.lexer x.line (byte ∷ rest)) (sym m)) s.reached (subst (λ (x : StreamReaderView). Shows x.parser s.before s.came) (sym m) s.shows) t given)
        by_kind (Some k) e (x, m, q) =
            subst (λ j. IsIn w.fault (record w { given = given; line = line_behind j byte }) (text ++ byte ∷ [])) same_line
            (enters u w byte text (s.items ++ item_of k v.lexer ∷ []) behind.0 behind.1 f (subst (λ (y : LexerView). IsLexing y u.line) (sym lexer_is) tt) (ap (λ (y : LexerView). ended_kind y.phase byte) lexer_is) left behind.2
            (subst (λ (y : StreamReaderView). Shows y.parser behind.0 behind.1) (sym q) behind.3) t given)
          where
            same_line : u.line ≡ v.line
            same_line = ap (λ (y : StreamReaderView). y.line) q ∙ m.line

            lexer_is : u.lexer ≡ rested v.lexer
            lexer_is = ap (λ (y : StreamReaderView). y.lexer) q ∙ ap rested m.lexer

            behind : (b : Before) × (g : Came) × ((whole : List ℕ) → reached whole (s.items ++ item_of k v.lexer ∷ []) ≡ (Ok b, g)) × Shows x.parser b g
            behind =
                subst (λ o. Behind o x (s.items ++ item_of k v.lexer ∷ [])) (sym (ap (λ (y : StreamReaderView). y.fault) q) ∙ f)
                (token_behind v x k s.items s.before s.came n (subst Ends e (ended_ends v.lexer.phase byte)) s.reached s.shows m)

            left : (rest : List ℕ) → hoa_items (text ++ byte ∷ rest) ≡ (s.items ++ item_of k v.lexer ∷ []) ++ resume u.lexer u.line (byte ∷ rest)
            left rest =
                s.rest (byte ∷ rest) ∙ ap (λ z. s.items ++ z) (lexer_ends v.lexer v.line byte k s.lexing e rest)
                ∙ sym (append_assoc s.items (item_of k v.lexer ∷ []) (resume (rested v.lexer) v.line (byte ∷ rest)))
                ∙ ap (λ y. (s.items ++ item_of k v.lexer ∷ []) ++ resume y v.line (byte ∷ rest)) (sym lexer_is)
                ∙ ap (λ j. (s.items ++ item_of k v.lexer ∷ []) ++ resume u.lexer j (byte ∷ rest)) (sym same_line)
    go i (stopped n leaves f) = by_stop (ended_kind v.lexer.phase byte) refl leaves
      where
        s : IsSound (record v { given = before }) text
        s = subst (λ o. IsIn o (record v { given = before }) text) n i

        by_stop : (o : Option TokenKind) → ended_kind v.lexer.phase byte ≡ o → EndsToken o v w → IsIn w.fault (record w { given = given; line = line_behind v.line byte }) (text ++ byte ∷ [])
        by_stop None e m = absurd (false≢true (sym (ap is_some (ap (λ (y : StreamReaderView). y.fault) m ∙ n)) ∙ f))
        by_stop (Some k) e (x, m, q) = met w.fault refl (subst (λ o. Behind o x (s.items ++ item_of k v.lexer ∷ [])) (sym (ap (λ (y : StreamReaderView). y.fault) q)) (token_behind v x k s.items s.before s.came n (subst Ends e (ended_ends v.lexer.phase byte)) s.reached s.shows m))
          where
            met : (o : Option Found) → w.fault ≡ o → Behind w.fault x (s.items ++ item_of k v.lexer ∷ []) → IsIn o (record w { given = given; line = line_behind v.line byte }) (text ++ byte ∷ [])
            met None r b = absurd (false≢true (sym (ap is_some r) ∙ f))
            met (Some g) r b = record {
              items = s.items ++ item_of k v.lexer ∷ [];
              rest = λ more. (
                resume (rested v.lexer) v.line (byte ∷ more),
                text_more text more byte ∙ s.rest (byte ∷ more) ∙ ap (λ z. s.items ++ z) (lexer_ends v.lexer v.line byte k s.lexing e more)
                    ∙ sym (append_assoc s.items (item_of k v.lexer ∷ []) (resume (rested v.lexer) v.line (byte ∷ more))),
              );
              faulty = subst (λ o. Behind o x (s.items ++ item_of k v.lexer ∷ [])) r b;
            }
