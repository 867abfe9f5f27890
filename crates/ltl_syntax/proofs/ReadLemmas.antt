-- Names as text, and the verdict on a text.
use Rattle.std.proofs.Common.{◌≡◌, ◌∙◌, ap, sym, refl, subst, ℕ, zero, suc, ◌<◌, ◌≤◌, true, ◌||◌, ◌&&◌, List, [], ◌∷◌, ◌++◌, length, map, arith, append-nil, slice_index, nat_le, ◌==◌, Option, Some, None, Err}
use Rattle.std.proofs.lemmas.Bool.Decides.{nat_tests}
use Rattle.std.specs.List.{AllByRecursion, list_all}
use Rattle.std.specs.Prelude.{IsTrue}
use Rattle.std.specs.Str.{IsAscii, IsUtf8}
use Rattle.std.proofs.lemmas.Str.{IsUtf8-from_ascii}
use Rattle.ltl_spec.specs.Formulas.Tokens.{Item, items, tokens, is_name_byte}
use Rattle.ltl_spec.specs.Formulas.Names.{is_proposition}
use Rattle.ltl_spec.specs.Formulas.Formula.{Formula}
use Rattle.ltl_spec.specs.Formulas.Canonical.{canonical_text}
use Rattle.ltl_spec.specs.Formulas.Grammar.{IsTextOf}
use Rattle.ltl_spec.specs.Formulas.Fault.{FaultKind, IsFault}
use Rattle.ltl_spec.proofs.Collections.MemberLaws.{all_Decides}
use Rattle.ltl_spec.proofs.Collections.SetLaws.{all_at}
use Rattle.ltl_spec.proofs.Formulas.NameLaws.{word_proposition}
use Rattle.ltl_spec.proofs.Formulas.GrammarMachine as machine
use Rattle.ltl_spec.proofs.Formulas.BeginningLaws.{outline, reads_once}
use Rattle.ltl_spec.proofs.Formulas.FaultLaws.{kind_at, kind_before, never_both}
use Rattle.ltl_spec.proofs.Formulas.ReaderLaws.{Verdict, verdict, verdict_at, verdict_reading, verdict_fault, with_name}
use Rattle.ltl_spec.proofs.Formulas.CanonicalLaws.{IsNamed, named_differ, canonical_again, canonical_is_text}
use Rattle.ltl_syntax.specs.declared.operators.Node.{Node}
use Rattle.ltl_syntax.specs.declared.fault.ReadFault.{ReadFault}
use Rattle.ltl_syntax.specs.declared.fault.ReadFault.TheVariants.{TooLong, AtByte, TooManyPropositions, OutOfMemory}
use Rattle.ltl_syntax.specs.FormulaView.{FormulaView, IsFormula, reading_of, whole_tree}
use Rattle.ltl_syntax.specs.ParserView.{AreUsedOnce, ParserView, RefusesEnd, RefusesToken, kind_of, reader_of}
use Rattle.ltl_syntax.specs.ReadText.{IsReadAs, IsRefusedFor, RefusesNames}
use Rattle.ltl_syntax.specs.CanonicalWork.{HasOperands}
use Rattle.ltl_syntax.proofs.UseLemmas.{whole_once}
use Rattle.ltl_spec.specs.Semantics.Word.{Name}
use Rattle.ltl_spec.specs.Tools.Limits.{stated_limits}
use Rattle.ltl_spec.proofs.Formulas.TokenLaws.{IsNameWord}

-- a byte of a name is ASCII
name_byte : (c : ℕ) → is_name_byte c ≡ true → c < 128
name_byte c e = grind (arith, nat_tests, e)

-- so is a name
name_ascii : (n : Name) → IsNameWord n → IsAscii n
name_ascii [] w k = absurd w
name_ascii (b ∷ bs) w zero = let l = w.0 in name_byte b (ap (λ c. c || (nat_le 48 b && nat_le b 57) || b == 95) l)
name_ascii (b ∷ bs) w (suc k) = all_small bs w.1 k
  where
    all_small : (cs : List ℕ) → AllByRecursion (λ c. is_name_byte c ≡ true) cs → (j : ℕ) → slice_index cs j < 128
    all_small [] a j = omega arith
    all_small (c ∷ cs) a zero = name_byte c a.0
    all_small (c ∷ cs) a (suc j) = all_small cs a.1 j

-- so it is UTF-8
pub name_utf8 : (n : Name) → IsNameWord n → IsUtf8 n
name_utf8 n w = IsUtf8-from_ascii n (name_ascii n w)

-- ---- the names of a set

-- a key among others
pub word_among : {K : Type 0} (name : K → Name) (ks xs it ys : List K) (x : K) → AllByRecursion IsNameWord (map name ks) → xs ++ it ≡ ks → it ≡ x ∷ ys → IsNameWord (name x)
word_among {K = K} name ks xs it ys x a e f =
    behind xs (subst (λ l. AllByRecursion IsNameWord (map name l)) (sym e ∙ ap (λ l. xs ++ l) f) a)
  where
    behind : (zs : List K) → AllByRecursion IsNameWord (map name (zs ++ x ∷ ys)) → IsNameWord (name x)
    behind [] b = b.0
    behind (z ∷ zs) b = behind zs b.1

-- all keys were gone over
pub all_over : {K L : Type 0} (show : L → K) (name : K → Name) (ks it : List K) (ls : List L) → map show ls ++ it ≡ ks → it ≡ [] → map (λ l. name (show l)) ls ≡ map name ks
all_over {L = L} show name ks it ls e f = twice ls ∙ ap (map name) (sym (append-nil (map show ls)) ∙ ap (λ l. map show ls ++ l) (sym f) ∙ e)
  where
    twice : (ms : List L) → map (λ l. name (show l)) ms ≡ map name (map show ms)
    twice [] = refl
    twice (m ∷ ms) = ap (λ l. name (show m) ∷ l) (twice ms)

-- ---- the formula

words_propositions : (names : List Name) → AllByRecursion IsNameWord names → IsTrue (list_all is_proposition names)
words_propositions names a = (all_Decides is_proposition names).1 (λ n h. word_proposition n (all_at IsNameWord names n a h))

-- nodes and names that were read are a formula
pub is_formula : (ns : List Node) (names ms : List Name) (count : ℕ) → ms ≡ names → count ≡ length names → 0 < length ns → HasOperands count ns → AreUsedOnce ns [] true
    → IsNamed (record { formula = whole_tree ns; names = names }) → count ≤ stated_limits.propositions → IsFormula ns ms
is_formula ns names ms count e n l o once d few =
    subst (IsFormula ns) (sym e) (record {
      some = l;
      operands = subst (λ k. HasOperands k ns) n o;
      once = whole_once ns once;
      named = d;
      propositions = words_propositions names d.words;
      distinct = named_differ (record { formula = whole_tree ns; names = names }) d;
      few = subst (λ k. k ≤ stated_limits.propositions) n few;
    })

-- ---- the verdict

-- what a verdict on a text is, when no item is left
pub verdict_end : (text : List ℕ) (r : machine.Reader) (names : List Name) (F : Formula) → verdict (length text) names r [] ≡ verdict (length text) [] (machine.Wanting []) (items text)
    → machine.finished r ≡ Some F → IsTextOf text (record { formula = F; names = names })
verdict_end text r names F v e =
    verdict_reading text (record { formula = F; names = names }) (sym v ∙ ap (λ o. verdict_at names o (length text) (kind_before (outline r))) e)

-- a text that ends too early
pub verdict_early : (text : List ℕ) (r : machine.Reader) (names : List Name) (kind : FaultKind) → verdict (length text) names r [] ≡ verdict (length text) [] (machine.Wanting []) (items text)
    → kind ≡ kind_before (outline r) → machine.finished r ≡ None → IsFault text (length text) kind
verdict_early text r names kind v k e =
    subst (IsFault text (length text)) (sym k) (verdict_fault text (length text, kind_before (outline r))
    (sym v ∙ ap (λ o. verdict_at names o (length text) (kind_before (outline r))) e))

-- where a verdict goes on
abbrev goes_on : ℕ → List Name → machine.Reader → Item → List Item → Option machine.Reader → Verdict
goes_on end names r item rest None = Err (item.start, kind_at (outline r) item.token)
goes_on end names r item rest (Some q) = verdict end (with_name names item.token) q rest

-- a token that doesn't
pub verdict_stops : (text : List ℕ) (r : machine.Reader) (names : List Name) (item : Item) (rest its : List Item) (place : ℕ) (kind : FaultKind)
    → verdict (length text) names r its ≡ verdict (length text) [] (machine.Wanting []) (items text) → its ≡ item ∷ rest → place ≡ item.start → kind ≡ kind_at (outline r) item.token
    → machine.read_step (with_name names item.token) r item.token ≡ None → IsFault text place kind
verdict_stops text r names item rest its place kind v i p k e =
    subst (λ z. IsFault text z kind) (sym p) (subst (IsFault text item.start) (sym k)
    (verdict_fault text (item.start, kind_at (outline r) item.token) (sym v ∙ ap (verdict (length text) names r) i ∙ ap (goes_on (length text) names r item rest) e)))

-- ---- what reading answers

-- a token that doesn't fit is told
pub refused_token : (text : List ℕ) (p : ParserView) (item : Item) (rest its : List Item) (e : ReadFault) → length text ≤ stated_limits.formula_bytes
    → verdict (length text) p.names (reader_of p) its ≡ verdict (length text) [] (machine.Wanting []) (items text) → its ≡ item ∷ rest
    → RefusesToken p item.token item.start e → IsRefusedFor text e
refused_token text p item rest its (AtByte place kind) l v i w =
    (l, verdict_stops text (reader_of p) p.names item rest its place (kind_of kind) v i w.0 w.1 w.2)
refused_token text p item rest its OutOfMemory l v i w = l
refused_token text p item rest its TooLong l v i w = absurd w
refused_token text p item rest its TooManyPropositions l v i w = absurd w

-- so is the end
pub refused_end : (text : List ℕ) (p : ParserView) (its : List Item) (e : ReadFault) → length text ≤ stated_limits.formula_bytes
    → verdict (length text) p.names (reader_of p) its ≡ verdict (length text) [] (machine.Wanting []) (items text) → its ≡ []
    → RefusesEnd p (length text) e → IsRefusedFor text e
refused_end text p its (AtByte place kind) l v i w =
    let end = sym (ap (verdict (length text) p.names (reader_of p)) i) ∙ v in
    (l, subst (λ z. IsFault text z (kind_of kind)) (sym w.0) (verdict_early text (reader_of p) p.names (kind_of kind) end w.1 w.2))
refused_end text p its OutOfMemory l v i w = l
refused_end text p its TooLong l v i w = absurd w
refused_end text p its TooManyPropositions l v i w = absurd w

-- the text of the nodes and names in the end
pub final_text : (text : List ℕ) (p q : ParserView) (its : List Item) (ns : List Node) (names : List Name)
    → verdict (length text) p.names (reader_of p) its ≡ verdict (length text) [] (machine.Wanting []) (items text) → its ≡ []
    → machine.finished (reader_of p) ≡ Some (whole_tree q.nodes) → q.names ≡ p.names → ns ≡ q.nodes → names ≡ q.names
    → IsTextOf text (record { formula = whole_tree ns; names = names })
final_text text p q its ns names v i f n a b =
    let end = sym (ap (verdict (length text) p.names (reader_of p)) i) ∙ v in
    let Text : Formula → List Name → Type 0 = λ F l. IsTextOf text (record { formula = F; names = l }) in
    subst (Text (whole_tree ns)) (sym (b ∙ n)) (subst (λ m. Text (whole_tree m) p.names) (sym a) (verdict_end text (reader_of p) p.names (whole_tree q.nodes) end f))

-- a formula of these nodes and names is read from the text
pub read_formula : (text : List ℕ) (ns : List Node) (names : List Name) (f : FormulaView) → length text ≤ stated_limits.formula_bytes → IsTextOf text (record { formula = whole_tree ns; names = names })
    → (f.nodes ≡ ns) × (f.names ≡ names) × (length f.names ≤ stated_limits.propositions) → IsReadAs text f
read_formula text ns names f l t w =
    let Text : List Node → List Name → Type 0 = λ m k. IsTextOf text (record { formula = whole_tree m; names = k }) in
    (l, subst (Text f.nodes) (sym w.1) (subst (λ m. Text m names) (sym w.0) t), w.2)

-- and one with too many names is refused
pub refused_names : (text : List ℕ) (ns : List Node) (names : List Name) (count : ℕ) (e : ReadFault) → length text ≤ stated_limits.formula_bytes
    → IsTextOf text (record { formula = whole_tree ns; names = names }) → count ≡ length names → RefusesNames count e → IsRefusedFor text e
refused_names text ns names count TooManyPropositions l t c w = (l, (record { formula = whole_tree ns; names = names }, t, subst (λ k. stated_limits.propositions < k) c w))
refused_names text ns names count OutOfMemory l t c w = l
refused_names text ns names count TooLong l t c w = absurd w
refused_names text ns names count (AtByte place kind) l t c w = absurd w

-- ---- laws of reading

-- a canonical text is read back
pub read_back : (text : List ℕ) (f : FormulaView) → IsReadAs text f → length (canonical_text (reading_of f)) ≤ stated_limits.formula_bytes → IsReadAs (canonical_text (reading_of f)) f
read_back text f w l = (l, canonical_again text (reading_of f) w.1, w.2)

-- so is that of a formula
pub own_text : (f : FormulaView) → IsFormula f.nodes f.names → length (canonical_text (reading_of f)) ≤ stated_limits.formula_bytes → IsReadAs (canonical_text (reading_of f)) f
own_text f h l = (l, canonical_is_text (reading_of f) h.named, h.few)

-- a text has one reading
pub read_once : (text : List ℕ) (f g : FormulaView) → IsReadAs text f → IsReadAs text g → reading_of f ≡ reading_of g
read_once text f g v w = reads_once (tokens text) (reading_of f) (reading_of g) v.1 w.1

-- and is refused for want of memory alone
pub refused_alone : (text : List ℕ) (f : FormulaView) (fault : ReadFault) → IsReadAs text f → IsRefusedFor text fault → fault ≡ OutOfMemory
refused_alone text f TooLong v w = let l = v.0 in absurd (omega arith)
refused_alone text f (AtByte place kind) v w = absurd (never_both text (reading_of f) place (kind_of kind) v.1 w.1)
refused_alone text f TooManyPropositions v w =
    let same : reading_of f ≡ w.1.0 = reads_once (tokens text) (reading_of f) w.1.0 v.1 w.1.1 in
    let few = v.2 in
    let many = subst (λ R. stated_limits.propositions < length R.names) (sym same) w.1.2 in
    absurd (omega arith)
refused_alone text f OutOfMemory v w = refl
