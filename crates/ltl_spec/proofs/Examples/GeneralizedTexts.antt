-- Worked examples of generalized automata: printed with all options, read with any number of sets, and checked against a formula.
use Rattle.std.proofs.Common.{◌≡◌, ℕ, zero, suc, ◌*◌, ◌<◌, ◌≤◌, Bool, true, false, inl, inr, List, [], ◌∷◌, ◌++◌, refl, sym, ◌∙◌, ap, subst, arith, Option, Some, None}
use Rattle.std.specs.Prelude.{codes, IsTrue, map, Ok, Err}
use Rattle.std.specs.Fmt.{digits}
use Rattle.std.proofs.lemmas.Bool.{false≢true, cases_eq}
use Rattle.ltl_spec.specs.Collections.Sets.{Has}
use Rattle.ltl_spec.specs.Semantics.Word.{Lasso, next, after_steps, is_true_at}
use Rattle.ltl_spec.specs.Formulas.Formula.{Proposition, Unary, Always, Eventually, Reading}
use Rattle.ltl_spec.specs.Formulas.Tokens.{same_name}
use Rattle.ltl_spec.specs.NormalForms.NormalForm.{core}
use Rattle.ltl_spec.specs.Automata.Automaton.{Edge, IsWalk, state_at}
use Rattle.ltl_spec.proofs.Examples.WithinLimits.{generalized_within}
use Rattle.ltl_spec.specs.Automata.GeneralizedText.{generalized_text}
use Rattle.ltl_spec.specs.Construction.Merging.{merged_automaton}
use Rattle.ltl_spec.specs.Construction.Renumbered.{renumbered_automaton}
use Rattle.ltl_spec.specs.Tools.Limits.{stated_limits}
use Rattle.ltl_spec.specs.Tools.Refusal.{Translator, usage_text}
use Rattle.ltl_spec.specs.Tools.Programs.{Claim, Generalized, layout_of}
use Rattle.ltl_spec.specs.Hoa.HoaFaultKind.{BadToken, Unsupported, NumberOutOfRange, LimitPassed}
use Rattle.ltl_spec.specs.Hoa.HoaFault.{hoa_fault, HoaFault, fault_at}
use Rattle.ltl_spec.specs.Hoa.HoaLabel.{NumberLabel, NotLabel, AndLabel}
use Rattle.ltl_spec.specs.Hoa.HoaReading.{MarkedAutomaton, StatesItem, StartItem, NamesItem, SetsItem, HoaReadsWithin}
use Rattle.ltl_spec.proofs.Examples.ReaderTexts.{verdict_of}
use Rattle.ltl_spec.proofs.Examples.InputTexts.{reads_as}
use Rattle.ltl_spec.specs.Checking.Check.{graph_of, IsViolation, IsContained}

-- ---- what the words ask for

claim_layout : layout_of false false ≡ Some Claim
claim_layout = refl

generalized_layout : layout_of false true ≡ Some Generalized
generalized_layout = refl

-- `-G` beside `-H`
no_layout : layout_of true true ≡ None
no_layout = refl

generalized_usage : usage_text Translator ≡ codes "ltl2ba [-l] [-o] [-p] [-H | -G] (-f formula | -F file)"
generalized_usage = refl

-- ---- texts

-- the text for the formula of a text
abbrev generalized : Bool → Bool → List ℕ → List ℕ
generalized keep_implied keep_equal text = elim (verdict_of text) [
  | Ok R ↦ generalized_text (renumbered_automaton (merged_automaton keep_implied keep_equal (generalized_within (core R.formula false true) keep_implied 8))) R
  | Err f ↦ []
]

-- what is printed for texts, and what should be
abbrev texts : List (List ℕ × List ℕ)
texts =
    (generalized false false (codes "[]<>p"), codes "HOA: v1\nname: \"[]<>p\"\nStates: 1\nStart: 0\nAP: 1 \"p\"\nacc-name: generalized-Buchi 1\nAcceptance: 1 Inf(0)\nproperties: trans-labels explicit-labels trans-acc\n--BODY--\nState: 0\n[t] 0\n[0] 0 {0}\n--END--\n")
    ∷ (generalized false false (codes "<>p && <>q"), codes "HOA: v1\nname: \"(<>p && <>q)\"\nStates: 4\nStart: 0\nAP: 2 \"p\" \"q\"\nacc-name: generalized-Buchi 2\nAcceptance: 2 Inf(0)&Inf(1)\nproperties: trans-labels explicit-labels trans-acc\n--BODY--\nState: 0\n[t] 0\n[0] 1 {0}\n[0&1] 2 {0 1}\n[1] 3 {1}\nState: 1\n[t] 1 {0}\n[1] 2 {0 1}\nState: 2\n[t] 2 {0 1}\nState: 3\n[t] 3 {1}\n[0] 2 {0 1}\n--END--\n")
    ∷ (generalized false false (codes "true"), codes "HOA: v1\nname: \"true\"\nStates: 1\nStart: 0\nAP: 0\nacc-name: all\nAcceptance: 0 t\nproperties: trans-labels explicit-labels trans-acc\n--BODY--\nState: 0\n[t] 0\n--END--\n")
    -- `[]<>p` with `-p`: the states `[]<>p` and `<>p, []<>p` stay apart
    ∷ (generalized false true (codes "[]<>p"), codes "HOA: v1\nname: \"[]<>p\"\nStates: 2\nStart: 0\nAP: 1 \"p\"\nacc-name: generalized-Buchi 1\nAcceptance: 1 Inf(0)\nproperties: trans-labels explicit-labels trans-acc\n--BODY--\nState: 0\n[t] 1\n[0] 0 {0}\nState: 1\n[t] 1\n[0] 0 {0}\n--END--\n")
    -- with `-o`: the second one also stays where it is on p, so the two aren't equal
    ∷ (generalized true false (codes "[]<>p"), codes "HOA: v1\nname: \"[]<>p\"\nStates: 2\nStart: 0\nAP: 1 \"p\"\nacc-name: generalized-Buchi 1\nAcceptance: 1 Inf(0)\nproperties: trans-labels explicit-labels trans-acc\n--BODY--\nState: 0\n[t] 1\n[0] 0 {0}\nState: 1\n[t] 1\n[0] 0 {0}\n[0] 1 {0}\n--END--\n")
    -- `false` has a state without edges, and no set
    ∷ (generalized false false (codes "false"), codes "HOA: v1\nname: \"false\"\nStates: 1\nStart: 0\nAP: 0\nacc-name: all\nAcceptance: 0 t\nproperties: trans-labels explicit-labels trans-acc\n--BODY--\nState: 0\n--END--\n")
    ∷ []

texts_printed : map (λ e. e.0) texts ≡ map (λ e. e.1) texts
unfolding digits
texts_printed = refl

-- ---- faults in `Acceptance:`

-- the sample automaton with this behind `Acceptance:`, and this behind its state's number
abbrev sample : List ℕ → List ℕ → List ℕ
sample sets marks = codes "HOA: v1\nStates: 1\nStart: 0\nAP: 1 \"p\"\nAcceptance: " ++ sets ++ codes "\n--BODY--\nState: 0" ++ marks ++ codes "\n[!0] 0\n--END--\n"

abbrev fault_of : List ℕ → List ℕ → Option HoaFault
fault_of sets marks = hoa_fault stated_limits 32 (sample sets marks)

-- each with its fault
abbrev faults : List (Option HoaFault × Option HoaFault)
faults =
    (fault_of (codes "0 t") [], None)
    ∷ (fault_of (codes "0 t") (codes " {0}"), fault_at NumberOutOfRange 7)
    ∷ (fault_of (codes "2 Inf ( 0 )\n& /* and */ Inf(1)") (codes " {1 0 1}"), None)
    ∷ (fault_of (codes "2 Inf(0)&Inf(1)") (codes " {2}"), fault_at NumberOutOfRange 7)
    ∷ (fault_of (codes "2 Inf(1)&Inf(0)") (codes " {0}"), fault_at Unsupported 5)
    ∷ (fault_of (codes "33") (codes " {0}"), fault_at LimitPassed 5)
    -- a wrong token before the number
    ∷ (fault_of (codes "t") [], fault_at Unsupported 5)
    ∷ (fault_of (codes "0 f") [], fault_at Unsupported 5)
    ∷ (fault_of (codes "0 Inf(0)") [], fault_at Unsupported 5)
    -- a set too few: the next token is the mark of the body
    ∷ (fault_of (codes "2 Inf(0)") [], fault_at Unsupported 6)
    -- and one too many
    ∷ (fault_of (codes "1 Inf(0)&Inf(1)") [], fault_at Unsupported 5)
    ∷ (fault_of (codes "0 t t") [], fault_at Unsupported 5)
    -- a byte that begins no token comes first
    ∷ (fault_of (codes "2 Inf(0)&@") [], fault_at BadToken 5)
    ∷ []

faults_found : map (λ e. e.0) faults ≡ map (λ e. e.1) faults
faults_found = refl

-- ---- automata with two sets or none, and what they accept

-- one state, with a loop where p is false, in these sets
abbrev looping : ℕ → List ℕ → MarkedAutomaton
looping sets marks = record { states = 1; start = 0; sets = sets; names = codes "p" ∷ []; edges = (record { cube = record { proposition = 0; positive = false } ∷ []; target = 0; marks = marks } ∷ []) ∷ [] }

reads_two : HoaReadsWithin stated_limits 32 (sample (codes "2 Inf(0)&Inf(1)") (codes " {0}")) (looping 2 (0 ∷ []))
reads_two = reads_as 32 (sample (codes "2 Inf(0)&Inf(1)") (codes " {0}")) (looping 2 (0 ∷ [])) (
    record {
      items = StatesItem 1 ∷ StartItem 0 ∷ NamesItem (codes "p" ∷ []) ∷ SetsItem 2 ∷ [];
      states = record { number = 0; name = None; sets = Some (0 ∷ []); edges = record { label = NotLabel (NumberLabel 0); target = 0; sets = None } ∷ [] } ∷ [];
    }
    ) refl (refl, refl, refl, refl) refl refl refl ((λ h. h), tt) ((λ h. h), tt)

reads_none : HoaReadsWithin stated_limits 32 (sample (codes "0 t") []) (looping 0 [])
reads_none = reads_as 32 (sample (codes "0 t") []) (looping 0 []) (
    record {
      items = StatesItem 1 ∷ StartItem 0 ∷ NamesItem (codes "p" ∷ []) ∷ SetsItem 0 ∷ [];
      states = record { number = 0; name = None; sets = None; edges = record { label = NotLabel (NumberLabel 0); target = 0; sets = None } ∷ [] } ∷ [];
    }
    ) refl (refl, refl, refl, refl) refl refl refl ((λ h. h), tt) ((λ h. h), tt)

abbrev eventually : Reading
eventually = record { formula = Unary Eventually (Proposition 0); names = codes "p" ∷ [] }

-- no edge is in the second set, so nothing is accepted: `<>p` holds of all of it
two_contained : IsContained (looping 2 (0 ∷ [])) eventually
two_contained w s (a, v) = let (e, h, m) = a.cycles.marks 1 (omega arith) in never a.state a.position a.cycle a.state a.position a.cycles.closes e h m
  where
    unmarked : (s : ℕ) (e : Edge) → Has (state_at (graph_of (looping 2 (0 ∷ []))) s).edges e → e.marks ≡ 0 ∷ []
    unmarked zero e (inl q) = ap (λ (x : Edge). x.marks) q
    unmarked zero e (inr z) = absurd z
    unmarked (suc s) e h = absurd h

    never : (s i : ℕ) (es : List Edge) (t j : ℕ) → IsWalk (graph_of (looping 2 (0 ∷ []))) (is_true_at (codes "p" ∷ []) w) (next w) s i es t j → (e : Edge) → Has es e → Has e.marks 1 → ⊥
    never s i [] t j k e h m = h
    never s i (x ∷ es) t j k e (inl q) m = elim (subst (λ ks. Has ks 1) (ap (λ (y : Edge). y.marks) q ∙ unmarked s x k.0) m) [ inl z ↦ (omega (arith, z)) | inr z ↦ absurd z ]
    never s i (x ∷ es) t j k e (inr h) m = never x.target (next w i) es t j k.2 e h m

-- the word without p
abbrev empty_word : Lasso
empty_word = record { stem = []; cycle = [] ∷ [] }

abbrev loop : Edge
loop = record { cube = record { proposition = 0; positive = false } ∷ []; target = 0; marks = [] }

-- where there is no set, any closed walk accepts
none_violated : IsViolation (looping 0 []) eventually empty_word
none_violated = (
  record {
    state = 0;
    position = 0;
    stem = [];
    cycle = loop ∷ [];
    arrives = (refl, refl);
    cycles = record { closes = (inl refl, refl, (refl, refl)); moves = λ e. cc; accepts = (loop, inl refl, refl); marks = λ k l. absurd (omega (arith, l)) };
  },
  λ h. never h.0 (stays h.0) h.1,
)
  where
    stays : (k : ℕ) → after_steps (next empty_word) k 0 ≡ 0
    stays zero = refl
    stays (suc k) = stays k

    never : (k : ℕ) → after_steps (next empty_word) k 0 ≡ 0 → IsTrue (is_true_at (codes "p" ∷ []) empty_word (after_steps (next empty_word) k 0) 0) → ⊥
    never k e t = false≢true (sym (ap (λ i. is_true_at (codes "p" ∷ []) empty_word i 0) e) ∙ t)

-- ---- two sets in turn

-- p and q by turns, with these sets on the second edge
abbrev by_cycles : List ℕ → MarkedAutomaton
by_cycles marks = record {
  states = 2;
  start = 0;
  sets = 2;
  names = codes "p" ∷ codes "q" ∷ [];
  edges =
      (record { cube = record { proposition = 0; positive = true } ∷ record { proposition = 1; positive = false } ∷ []; target = 1; marks = 0 ∷ [] } ∷ [])
      ∷ (record { cube = record { proposition = 0; positive = false } ∷ record { proposition = 1; positive = true } ∷ []; target = 0; marks = marks } ∷ []) ∷ [];
}

abbrev cycles_text : List ℕ → List ℕ
cycles_text marks = codes "HOA: v1\nStates: 2\nStart: 0\nAP: 2 \"p\" \"q\"\nAcceptance: 2 Inf(0)&Inf(1)\n--BODY--\nState: 0\n[0&!1] 1 {0}\nState: 1\n[!0&1] 0" ++ marks ++ codes "\n--END--\n"

reads_by_cycles : HoaReadsWithin stated_limits 32 (cycles_text (codes " {1}")) (by_cycles (1 ∷ []))
reads_by_cycles = reads_as 32 (cycles_text (codes " {1}")) (by_cycles (1 ∷ [])) (
    record {
      items = StatesItem 2 ∷ StartItem 0 ∷ NamesItem (codes "p" ∷ codes "q" ∷ []) ∷ SetsItem 2 ∷ [];
      states = record { number = 0; name = None; sets = None; edges = record { label = AndLabel (NumberLabel 0) (NotLabel (NumberLabel 1)); target = 1; sets = Some (0 ∷ []) } ∷ [] }
          ∷ record { number = 1; name = None; sets = None; edges = record { label = AndLabel (NotLabel (NumberLabel 0)) (NumberLabel 1); target = 0; sets = Some (1 ∷ []) } ∷ [] } ∷ [];
    }
    ) refl (refl, refl, refl, refl) refl refl refl (elim [ inl e ↦ differ e | inr z ↦ z ], ((λ h. h), tt)) (elim [ inl e ↦ (omega (arith, e)) | inr z ↦ z ], ((λ h. h), tt))
  where
    differ : codes "p" ≡ codes "q" → ⊥
    differ e = false≢true (sym (ap (λ n. same_name n (codes "p")) e))

abbrev always : Reading
always = record { formula = Unary Always (Proposition 0); names = codes "p" ∷ [] }

-- the word `cycle {p}; {q}`
abbrev cycle_word : Lasso
cycle_word = record { stem = []; cycle = (codes "p" ∷ []) ∷ (codes "q" ∷ []) ∷ [] }

abbrev first_edge : Edge
first_edge = record { cube = record { proposition = 0; positive = true } ∷ record { proposition = 1; positive = false } ∷ []; target = 1; marks = 0 ∷ [] }

abbrev second_edge : Edge
second_edge = record { cube = record { proposition = 0; positive = false } ∷ record { proposition = 1; positive = true } ∷ []; target = 0; marks = 1 ∷ [] }

-- each set on one of the two edges is enough, and the word violates `[]p`
cycles_violated : IsViolation (by_cycles (1 ∷ [])) always cycle_word
cycles_violated = (
  record {
    state = 0;
    position = 0;
    stem = [];
    cycle = first_edge ∷ second_edge ∷ [];
    arrives = (refl, refl);
    cycles = record {
      closes = (inl refl, refl, (inl refl, refl, (refl, refl)));
      moves = λ e. cc;
      accepts = (first_edge, inl refl, refl);
      marks = λ k l. elim (cases_eq k 0) [
        | inl e ↦ (first_edge, inl refl, inl e)
        | inr n ↦ let one : k ≡ 1 = omega arith in (second_edge, inr (inl refl), inl one)
      ];
    };
  },
  λ h. elim (h 1) [ inl t ↦ false≢true t | inr f ↦ f.2 ],
)

-- without the second set nothing is accepted
cycles_contained : IsContained (by_cycles []) always
cycles_contained w s (a, v) = let (e, h, m) = a.cycles.marks 1 (omega arith) in never a.state a.position a.cycle a.state a.position a.cycles.closes e h m
  where
    unmarked : (s : ℕ) (e : Edge) → Has (state_at (graph_of (by_cycles [])) s).edges e → Has e.marks 1 → ⊥
    unmarked zero e (inl q) m = elim (subst (λ (x : Edge). Has x.marks 1) q m) [ inl z ↦ (omega (arith, z)) | inr z ↦ z ]
    unmarked zero e (inr z) m = z
    unmarked (suc zero) e (inl q) m = subst (λ (x : Edge). Has x.marks 1) q m
    unmarked (suc zero) e (inr z) m = z
    unmarked (suc (suc s)) e h m = h

    never : (s i : ℕ) (es : List Edge) (t j : ℕ) → IsWalk (graph_of (by_cycles [])) (is_true_at (codes "p" ∷ codes "q" ∷ []) w) (next w) s i es t j → (e : Edge) → Has es e → Has e.marks 1 → ⊥
    never s i [] t j k e h m = h
    never s i (x ∷ es) t j k e (inl q) m = unmarked s x k.0 (subst (λ (y : Edge). Has y.marks 1) q m)
    never s i (x ∷ es) t j k e (inr h) m = never x.target (next w i) es t j k.2 e h m

-- ---- how large a product may be

-- 65,536 states, an automaton with so many states, and three levels: 85 states stay below the limit, 86 don't
abbrev large : ℕ → ℕ
large states = 65_536 * states * 3

product_fits : large 85 ≤ 16_777_216
product_fits = omega arith

product_too_large : 16_777_216 < large 86
product_too_large = omega arith
