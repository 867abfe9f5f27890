-- What was read of a stream, and what it says of the whole text.
use Rattle.std.proofs.Common.{inl, ◌≡◌, ℕ, ◌+◌, ◌<◌, ◌≤◌, List, [], ◌∷◌, ◌++◌, length, Option, Some, None, refl, sym, ◌∙◌, ap, subst, arith, append_assoc, take, length-append, length-take, min}
use Rattle.std.specs.Prelude.{Result, if◌then◌else◌, fold, Ok, Err, MatchResult, IsErrOf}
use Rattle.std.specs.Io.KnownBytes.{Consumes, IsAtEnd, Keeps}
use Rattle.std.proofs.Math.Seq.{take-append_seam}
use Rattle.std.proofs.lemmas.Bool.{lt-ltb}
use Rattle.std.proofs.lemmas.List.{append-nil, take_all, take-append-le}
use Rattle.ltl_spec.specs.Tools.Limits.{stated_limits}
use Rattle.ltl_spec.specs.Tools.Stage.{Stage, Closed}
use Rattle.ltl_spec.specs.Hoa.HoaToken.{hoa_items, last_line}
use Rattle.ltl_spec.specs.Hoa.HoaReading.{stated_form, MarkedAutomaton}
use Rattle.ltl_spec.specs.Hoa.HoaFaultKind.{LimitPassed}
use Rattle.ltl_spec.specs.Hoa.HoaPlace.{before_all}
use Rattle.ltl_spec.specs.Hoa.HoaFault.{take_item, fault_after, fault_at, hoa_fault}
use Rattle.ltl_hoa.specs.declared.fault.HoaFault.{HoaFault}
use Rattle.ltl_hoa.specs.declared.fault.HoaFault.TheVariants.{AtLine, CannotRead, OutOfMemory}
use Rattle.ltl_hoa.specs.declared.fault.HoaFaultKind.TheVariants as made
use Rattle.ltl_hoa.specs.StreamReaderView.{StreamReaderView, new_stream_reader}
use Rattle.ltl_spec.specs.Hoa.HoaMachine.{came_none}
use Rattle.ltl_hoa.specs.Reading.{Answers, AnswersHeld, IsAfter, IsOfText, LeavesStage, TakesText, TakesUpTo}

pub consumes_trans : (o m n : Option (List ℕ)) (a b : List ℕ) → Consumes o m a → Consumes m n b → Consumes o n (a ++ b)
consumes_trans None m n a b p q = tt
consumes_trans (Some x) (Some y) (Some z) a b p q = p ∙ ap (λ w. a ++ w) q ∙ sym (append_assoc a b z)
consumes_trans (Some x) (Some y) None a b p q = q
consumes_trans (Some x) None n a b p q = absurd p

-- nothing is left: the bytes are the text
pub whole_answered : (o m : Option (List ℕ)) (bytes : List ℕ) (r : Result MarkedAutomaton HoaFault) → Consumes o m bytes → IsAtEnd m → Answers bytes r → AnswersHeld o r
whole_answered None m bytes r p e a = (bytes, tt, a)
whole_answered (Some x) (Some y) bytes r p e a = (bytes, sym (p ∙ ap (λ w. bytes ++ w) e ∙ append-nil bytes), a)
whole_answered (Some x) None bytes r p e a = absurd p

-- a byte stands behind the limit
pub past_limit : (bytes rest : List ℕ) (b : ℕ) → length bytes ≡ stated_limits.hoa_bytes → hoa_fault stated_limits stated_form (bytes ++ b ∷ rest) ≡ fault_at LimitPassed (last_line bytes)
past_limit bytes rest b l =
    ap (λ t. if t then fault_at LimitPassed (last_line (take stated_limits.hoa_bytes text)) else fault_after stated_limits stated_form text (fold (take_item stated_limits stated_form text) (Ok before_all) (hoa_items text)))
    (lt-ltb stated_limits.hoa_bytes (length text) more)
    ∙ ap (λ n. fault_at LimitPassed (last_line (take n text))) (sym l)
    ∙ ap (λ t. fault_at LimitPassed (last_line t)) (take-append_seam bytes (b ∷ rest))
  where
    text : List ℕ
    text = bytes ++ b ∷ rest

    some : (ys : List ℕ) → 0 < length (b ∷ ys)
    some ys = omega arith

    more : stated_limits.hoa_bytes < length text
    more = (let h0 = length-append bytes (b ∷ rest) in let h2 = some rest in omega (arith, h0, l, h2))

-- ---- the loop

-- what was read of the stream so far, and that the stream reader has taken it
abbrev pub HasRead : Option (List ℕ) → Option (List ℕ) → StreamReaderView → ℕ → Type 0
HasRead o m v given = (text : List ℕ) × Consumes o m text × IsAfter v text × (length text ≡ given)

-- nothing was read
new_after : IsAfter new_stream_reader []
new_after = record {
  given = refl;
  line = refl;
  inside = record {
    items = [];
    lexing = tt;
    rest = λ more. refl;
    before = before_all;
    came = came_none;
    reached = λ whole. refl;
    shows = record {
      header = record { items = refl; few = (omega arith, omega arith) };
      place = ((refl, refl, refl), refl, tt);
    };
  };
}

takes_none : (o : Option (List ℕ)) → Consumes o o []
takes_none None = tt
takes_none (Some x) = refl

pub read_none : (o : Option (List ℕ)) (v : StreamReaderView) → v ≡ new_stream_reader → HasRead o o v 0
read_none o v e = ([], takes_none o, subst (λ w. IsAfter w []) (sym e) new_after, refl)

-- a chunk more, which stands at the front of the buffer
pub read_more : (o m n : Option (List ℕ)) (v w : StreamReaderView) (given count : ℕ) (buf behind : List ℕ) → HasRead o m v given → Consumes m n (take count buf) → count ≤ length buf
    → ((text : List ℕ) → IsAfter v text → IsAfter w (text ++ take count (buf ++ behind))) → HasRead o n w (given + count)
read_more o m n v w given count buf behind (text, c, a, l) d k f =
    (text ++ take count buf, consumes_trans o m n text (take count buf) c d, subst (λ t. IsAfter w (text ++ t)) (take-append-le count buf behind k) (f text a), length-append text (take count buf) ∙ counted (length text) (length (take count buf)) l (length-take count buf))
  where
    counted : (x y : ℕ) → x ≡ given → y ≡ min count (length buf) → x + y ≡ given + count
    counted x y e f = omega (arith, e, f, k)

-- a read of no bytes at the end began there
at_end_before : (m n : Option (List ℕ)) (k : ℕ) (buf : List ℕ) → k ≡ 0 → Consumes m n (take k buf) → IsAtEnd n → IsAtEnd m
at_end_before None n k buf z p e = tt
at_end_before (Some x) (Some y) k buf z p e = subst (λ j. x ≡ take j buf ++ y) z p ∙ e
at_end_before (Some x) None k buf z p e = absurd p

-- the answer at the end is one of the whole text
pub end_answered : (o m n : Option (List ℕ)) (v : StreamReaderView) (given k : ℕ) (buf : List ℕ) (r : Result MarkedAutomaton HoaFault) → HasRead o m v given → k ≡ 0 → 0 < length buf
    → Consumes m n (take k buf) × (k ≡ 0 → 0 < length buf → IsAtEnd n) → ((text : List ℕ) → IsAfter v text → Answers text r) → AnswersHeld o r
end_answered o m n v given k buf r (text, c, a, l) z s (d, e) f = whole_answered o m text r c (at_end_before m n k buf z d (e z s)) (f text a)

-- no answer about the text
pub no_answer : (o : Option (List ℕ)) (r : Result MarkedAutomaton HoaFault) → ((text : List ℕ) → Answers text r) → AnswersHeld o r
no_answer None r f = ([], tt, f [])
no_answer (Some x) r f = (x, refl, f x)

pub read_failed : (o : Option (List ℕ)) → AnswersHeld o (Err CannotRead)
read_failed o = no_answer o (Err CannotRead) (λ text. tt)

-- all bytes were taken
takes_all : (o n : Option (List ℕ)) (text : List ℕ) → length text ≤ (stated_limits.hoa_bytes + 1) → Consumes o n text → IsAtEnd n → TakesText o n
takes_all None n text l c e = tt
takes_all (Some x) (Some y) text l c e =
    let same : x ≡ text = c ∙ ap (λ w. text ++ w) e ∙ append-nil text in
    same ∙ sym (append-nil text) ∙ (λ i. taken i ++ sym e i)
  where
    taken : text ≡ take (stated_limits.hoa_bytes + 1) x
    taken = sym (take_all (stated_limits.hoa_bytes + 1) text l) ∙ ap (take (stated_limits.hoa_bytes + 1)) (sym (c ∙ ap (λ w. text ++ w) e ∙ append-nil text))
takes_all (Some x) None text l c e = absurd c

pub whatever : {P : Type 0} (r : Result MarkedAutomaton HoaFault) → P → MatchResult r (λ _. P) (λ fault. IsOfText fault → P)
whatever (Ok A) p = p
whatever (Err f) p = λ _. p

pub end_taken : (o m n : Option (List ℕ)) (v : StreamReaderView) (given k : ℕ) (buf : List ℕ) → HasRead o m v given → given ≤ stated_limits.hoa_bytes → k ≡ 0 → 0 < length buf
    → Consumes m n (take k buf) × (k ≡ 0 → 0 < length buf → IsAtEnd n) → TakesText o n
end_taken o m n v given k buf (text, c, a, l) g z s (d, e) =
    takes_all o n text (omega (arith, g, l)) (subst (λ t. Consumes o n t) (append-nil text) (consumes_trans o m n text [] c (subst (λ j. Consumes m n (take j buf)) z d))) (e z s)

-- a byte was read behind the limit
one_byte : (k : ℕ) (buf : List ℕ) → 0 < k → k ≤ length buf → length buf ≡ 1 → (b : ℕ) × (take k buf ≡ b ∷ [])
one_byte k [] p l e = absurd (omega (arith, p, l))
one_byte k (b ∷ []) p l e = (b, ap (λ j. take j (b ∷ [])) (one p l))
  where
    one : 0 < k → k ≤ 1 → k ≡ 1
    one p l = omega (arith, p, l)
one_byte k (b ∷ c ∷ buf) p l e = absurd (omega (arith, e))

refused_past : (o n : Option (List ℕ)) (text : List ℕ) (b line : ℕ) → length text ≡ stated_limits.hoa_bytes → line ≡ last_line text → Consumes o n (text ++ b ∷ []) → AnswersHeld o (Err (AtLine line made.LimitPassed))
refused_past None n text b line l e c = (text ++ b ∷ [], tt, past_limit text [] b l ∙ ap (λ m. fault_at LimitPassed m) (sym e))
refused_past (Some x) (Some y) text b line l e c = (
  x,
  refl,
  ap (λ t. hoa_fault stated_limits stated_form t) (c ∙ append_assoc text (b ∷ []) y) ∙ past_limit text y b l ∙ ap (λ m. fault_at LimitPassed m) (sym e),
)
refused_past (Some x) None text b line l e c = absurd c

pub past_answered : (o m n : Option (List ℕ)) (v : StreamReaderView) (given k line : ℕ) (buf : List ℕ) → HasRead o m v given → given ≡ stated_limits.hoa_bytes → 0 < k → k ≤ length buf → length buf ≡ 1 → line ≡ v.line
    → Consumes m n (take k buf) → AnswersHeld o (Err (AtLine line made.LimitPassed))
past_answered o m n v given k line buf (text, c, a, l) g p s e q d =
    let one = one_byte k buf p s e in
    refused_past o n text one.0 line (l ∙ g) (q ∙ a.line) (consumes_trans o m n text (one.0 ∷ []) c (subst (λ t. Consumes m n t) one.1 d))

takes_past : (o n : Option (List ℕ)) (text : List ℕ) → length text ≡ (stated_limits.hoa_bytes + 1) → Consumes o n text → TakesText o n
takes_past None n text l c = tt
takes_past (Some x) (Some y) text l c =
    c ∙ ap (λ t. t ++ y) (sym (take-append_seam text y) ∙ ap (λ j. take j (text ++ y)) l ∙ ap (take (stated_limits.hoa_bytes + 1)) (sym c))
takes_past (Some x) None text l c = absurd c

pub past_taken : (o m n : Option (List ℕ)) (v : StreamReaderView) (given k : ℕ) (buf : List ℕ) → HasRead o m v given → given ≡ stated_limits.hoa_bytes → 0 < k → k ≤ length buf → length buf ≡ 1
    → Consumes m n (take k buf) → TakesText o n
past_taken o m n v given k buf (text, c, a, l) g p s e d =
    let one = one_byte k buf p s e in
    takes_past o n (text ++ one.0 ∷ []) (length-append text (one.0 ∷ []) ∙ counted (length text) (l ∙ g)) (consumes_trans o m n text (one.0 ∷ []) c (subst (λ t. Consumes m n t) one.1 d))
  where
    counted : (x : ℕ) → x ≡ stated_limits.hoa_bytes → x + 1 ≡ (stated_limits.hoa_bytes + 1)
    counted x q = omega (arith, q)

-- ---- how many bytes were taken, whatever the answer

-- behind a read of so many bytes, the last one maybe
pub taken_up_to : (o m n : Option (List ℕ)) (v : StreamReaderView) (given k : ℕ) (buf : List ℕ) → HasRead o m v given → Consumes m n (take k buf) → given + k ≤ stated_limits.hoa_bytes + 1 → TakesUpTo o n
taken_up_to o m n v given k buf (text, c, a, l) d few =
    (text ++ take k buf, consumes_trans o m n text (take k buf) c d, (let h0 = length-append text (take k buf) in let h2 = length-take k buf in omega (arith, few, h0, l, h2)))

-- behind a failed read
pub kept_up_to : (o m n : Option (List ℕ)) (v : StreamReaderView) (given : ℕ) → HasRead o m v given → Keeps m n → given ≤ stated_limits.hoa_bytes → TakesUpTo o n
kept_up_to o m n v given r d few = taken_up_to o m n v given 0 [] r (consumes_none m n d) (omega (arith, few))
  where
    consumes_none : (a b : Option (List ℕ)) → Keeps a b → Consumes a b []
    consumes_none None b k = tt
    consumes_none (Some x) (Some y) k = sym k
    consumes_none (Some x) None k = absurd k

-- ---- the stage at the end

pub ends_closed : (r : Result MarkedAutomaton HoaFault) (s : Stage) → s ≡ Closed → ¬ (IsErrOf r CannotRead) → LeavesStage r s
ends_closed (Ok A) s e told = e
ends_closed (Err (AtLine line kind)) s e told = inl e
ends_closed (Err CannotRead) s e told = absurd (told refl)
ends_closed (Err OutOfMemory) s e told = inl e
