-- Worked examples: the claims and texts that are printed for formulas.
use Rattle.std.specs.Prelude.{◌≡◌, ℕ, Bool, true, false, List, [], ◌∷◌, Ok, Err, codes, map, refl}
use Rattle.std.specs.Fmt.{digits}
use Rattle.ltl_spec.specs.Formulas.Formula.{Formula, Proposition, Unary, Eventually}
use Rattle.ltl_spec.specs.Automata.Automaton.{Automaton}
use Rattle.ltl_spec.specs.NormalForms.NormalForm.{core}
use Rattle.ltl_spec.specs.NormalForms.Normal.{Normal}
use Rattle.ltl_spec.proofs.Examples.WithinLimits.{generalized_within}
use Rattle.ltl_spec.specs.Construction.Translation.{Options, buchi_automaton}
use Rattle.ltl_spec.specs.Automata.ClaimText.{never_text}
use Rattle.ltl_spec.specs.Automata.HoaText.{hoa_text}
use Rattle.ltl_spec.proofs.Examples.ReaderTexts.{verdict_of}

-- the Büchi automaton of a normal form, where n sets of rows are all that are reached
abbrev pub translation_within : ℕ → Options → Normal → Automaton
translation_within n o N = buchi_automaton o (generalized_within N o.keep_implied n)

-- the automaton, where eight sets of rows are more than there are
abbrev automaton : Bool → Bool → Bool → Formula → Automaton
automaton rewrite keep_implied keep_equal F = translation_within 8 (record { keep_implied = keep_implied; keep_equal = keep_equal }) (core F false rewrite)

-- the claim for the formula of a text
abbrev claim : Bool → Bool → Bool → List ℕ → List ℕ
claim rewrite keep_implied keep_equal text = elim (verdict_of text) [ Ok R ↦ never_text (automaton rewrite keep_implied keep_equal R.formula) R | Err f ↦ [] ]

-- with no option, and with -l, -o and -p
abbrev plain : List ℕ → List ℕ
plain = claim true false false

abbrev bare : List ℕ → List ℕ
bare = claim false true true

-- what is printed for texts, and what should be
abbrev claims : List (List ℕ × List ℕ)
claims =
    (plain (codes "[]<>p"), codes "never { /* []<>p */\nT0_init:\n\tif\n\t:: (1) -> goto T0_init\n\t:: (p) -> goto accept_S1\n\tfi;\naccept_S1:\n\tif\n\t:: (1) -> goto T0_init\n\t:: (p) -> goto accept_S1\n\tfi;\n}\n")
    ∷ (plain (codes "<>p"), codes "never { /* <>p */\nT0_init:\n\tif\n\t:: (1) -> goto T0_init\n\t:: (p) -> goto accept_all\n\tfi;\naccept_all:\n\tskip\n}\n")
    ∷ (bare (codes "<>p"), codes "never { /* <>p */\nT0_init:\n\tif\n\t:: (1) -> goto T0_init\n\t:: (p) -> goto accept_all\n\tfi;\naccept_all:\n\tskip\n}\n")
    ∷ (plain (codes "true"), codes "never { /* true */\naccept_init:\n\tif\n\t:: (1) -> goto accept_init\n\tfi;\n}\n")
    ∷ (plain (codes "false"), codes "never { /* false */\naccept_init:\n\tfalse;\n}\n")
    ∷ (bare (codes "false"), codes "never { /* false */\naccept_init:\n\tfalse;\n}\n")
    ∷ (plain (codes "!(p U q)"), codes "never { /* !(p U q) */\naccept_init:\n\tif\n\t:: (!q) -> goto accept_init\n\t:: (!p && !q) -> goto accept_all\n\tfi;\naccept_all:\n\tskip\n}\n")
    ∷ (bare (codes "!(p U q)"), codes "never { /* !(p U q) */\naccept_init:\n\tif\n\t:: (!q) -> goto accept_init\n\t:: (!p && !q) -> goto accept_all\n\tfi;\naccept_all:\n\tskip\n}\n")
    ∷ (plain (codes "p && !p"), codes "never { /* (p && !p) */\naccept_init:\n\tfalse;\n}\n")
    ∷ (bare (codes "p && !p"), codes "never { /* (p && !p) */\naccept_init:\n\tfalse;\n}\n")
    ∷ (plain (codes "X(p && !p)"), codes "never { /* X (p && !p) */\naccept_init:\n\tif\n\t:: (1) -> goto accept_S1\n\tfi;\naccept_S1:\n\tfalse;\n}\n")
    ∷ (bare (codes "X(p && !p)"), codes "never { /* X (p && !p) */\naccept_init:\n\tif\n\t:: (1) -> goto accept_S1\n\tfi;\naccept_S1:\n\tfalse;\n}\n")
    ∷ (plain (codes "[]X<>p"), codes "never { /* []X <>p */\nT0_init:\n\tif\n\t:: (1) -> goto T0_S1\n\tfi;\nT0_S1:\n\tif\n\t:: (1) -> goto T0_S1\n\t:: (p) -> goto accept_S2\n\tfi;\naccept_S2:\n\tif\n\t:: (1) -> goto T0_S1\n\t:: (p) -> goto accept_S2\n\tfi;\n}\n")
    ∷ (bare (codes "[]X<>p"), codes "never { /* []X <>p */\nT0_init:\n\tif\n\t:: (1) -> goto T0_S1\n\tfi;\nT0_S1:\n\tif\n\t:: (1) -> goto T0_S1\n\t:: (p) -> goto accept_S2\n\tfi;\naccept_S2:\n\tif\n\t:: (1) -> goto T0_S1\n\t:: (p) -> goto accept_S2\n\tfi;\n}\n")
    ∷ (plain (codes "X p"), codes "never { /* X p */\naccept_init:\n\tif\n\t:: (1) -> goto accept_S1\n\tfi;\naccept_S1:\n\tif\n\t:: (p) -> goto accept_all\n\tfi;\naccept_all:\n\tskip\n}\n")
    ∷ (bare (codes "X p"), codes "never { /* X p */\naccept_init:\n\tif\n\t:: (1) -> goto accept_S1\n\tfi;\naccept_S1:\n\tif\n\t:: (p) -> goto accept_all\n\tfi;\naccept_all:\n\tskip\n}\n")
    ∷ (claim false false true (codes "<>p || X[]true"), codes "never { /* (<>p || X []true) */\nT0_init:\n\tif\n\t:: (1) -> goto T0_S1\n\t:: (1) -> goto accept_all\n\t:: (p) -> goto accept_S3\n\tfi;\nT0_S1:\n\tif\n\t:: (1) -> goto T0_S1\n\t:: (p) -> goto accept_S3\n\tfi;\naccept_S3:\n\tif\n\t:: (1) -> goto accept_S3\n\tfi;\naccept_all:\n\tskip\n}\n")
    ∷ (plain (codes "<>p || X[]true"), codes "never { /* (<>p || X []true) */\naccept_init:\n\tif\n\t:: (1) -> goto accept_init\n\tfi;\n}\n")
    ∷ (plain (codes "<>p && <>q"), codes "never { /* (<>p && <>q) */\nT0_init:\n\tif\n\t:: (1) -> goto T0_init\n\t:: (p) -> goto T0_S1\n\t:: (p && q) -> goto accept_all\n\t:: (q) -> goto T0_S3\n\tfi;\nT0_S1:\n\tif\n\t:: (1) -> goto T0_S1\n\t:: (q) -> goto accept_all\n\tfi;\nT0_S3:\n\tif\n\t:: (p) -> goto accept_all\n\t:: (1) -> goto T0_S3\n\tfi;\naccept_all:\n\tskip\n}\n")
    ∷ (claim true false true (codes "[]<>p"), codes "never { /* []<>p */\nT0_init:\n\tif\n\t:: (1) -> goto T0_S1\n\t:: (p) -> goto accept_S2\n\tfi;\nT0_S1:\n\tif\n\t:: (1) -> goto T0_S1\n\t:: (p) -> goto accept_S2\n\tfi;\naccept_S2:\n\tif\n\t:: (1) -> goto T0_S1\n\t:: (p) -> goto accept_S2\n\tfi;\n}\n")
    ∷ (claim true true false (codes "[]<>p"), codes "never { /* []<>p */\nT0_init:\n\tif\n\t:: (1) -> goto T0_S1\n\t:: (p) -> goto accept_S2\n\tfi;\nT0_S1:\n\tif\n\t:: (1) -> goto T0_S1\n\t:: (p) -> goto accept_S2\n\t:: (p) -> goto accept_S3\n\tfi;\naccept_S2:\n\tif\n\t:: (1) -> goto T0_S1\n\t:: (p) -> goto accept_S2\n\tfi;\naccept_S3:\n\tif\n\t:: (1) -> goto T0_S1\n\t:: (p) -> goto accept_S2\n\t:: (p) -> goto accept_S3\n\tfi;\n}\n")
    ∷ (bare (codes "[]<>p"), codes "never { /* []<>p */\nT0_init:\n\tif\n\t:: (1) -> goto T0_S1\n\t:: (p) -> goto accept_S2\n\tfi;\nT0_S1:\n\tif\n\t:: (1) -> goto T0_S1\n\t:: (p) -> goto accept_S2\n\t:: (p) -> goto accept_S3\n\tfi;\naccept_S2:\n\tif\n\t:: (1) -> goto T0_S1\n\t:: (p) -> goto accept_S2\n\tfi;\naccept_S3:\n\tif\n\t:: (1) -> goto T0_S1\n\t:: (p) -> goto accept_S2\n\t:: (p) -> goto accept_S3\n\tfi;\n}\n")
    ∷ (claim false true false (codes "[]<>p"), codes "never { /* []<>p */\nT0_init:\n\tif\n\t:: (1) -> goto T0_S1\n\t:: (p) -> goto accept_S2\n\tfi;\nT0_S1:\n\tif\n\t:: (1) -> goto T0_S1\n\t:: (p) -> goto accept_S2\n\t:: (p) -> goto accept_S3\n\tfi;\naccept_S2:\n\tif\n\t:: (1) -> goto T0_S1\n\t:: (p) -> goto accept_S2\n\tfi;\naccept_S3:\n\tif\n\t:: (1) -> goto T0_S1\n\t:: (p) -> goto accept_S2\n\t:: (p) -> goto accept_S3\n\tfi;\n}\n")
    ∷ (plain (codes "p -> q -> p"), codes "never { /* (p -> (q -> p)) */\naccept_init:\n\tif\n\t:: (p) || (!p) || (!q) -> goto accept_all\n\tfi;\naccept_all:\n\tskip\n}\n")
    ∷ (bare (codes "p -> q -> p"), codes "never { /* (p -> (q -> p)) */\naccept_init:\n\tif\n\t:: (p) || (!p) || (!q) -> goto accept_all\n\tfi;\naccept_all:\n\tskip\n}\n")
    ∷ (bare (codes "p <-> q"), codes "never { /* (p <-> q) */\naccept_init:\n\tif\n\t:: (p && q) || (!p && !q) -> goto accept_all\n\tfi;\naccept_all:\n\tskip\n}\n")
    ∷ (bare (codes "p V q"), codes "never { /* (p V q) */\naccept_init:\n\tif\n\t:: (q) -> goto accept_init\n\t:: (p && q) -> goto accept_all\n\tfi;\naccept_all:\n\tskip\n}\n")
    ∷ (plain (codes "<><>p"), codes "never { /* <><>p */\nT0_init:\n\tif\n\t:: (1) -> goto T0_init\n\t:: (p) -> goto accept_all\n\tfi;\naccept_all:\n\tskip\n}\n")
    ∷ (plain (codes "X true U p"), codes "never { /* (X true U p) */\nT0_init:\n\tif\n\t:: (1) -> goto T0_init\n\t:: (p) -> goto accept_all\n\tfi;\naccept_all:\n\tskip\n}\n")
    ∷ (plain (codes "[](p || true)"), codes "never { /* [](p || true) */\naccept_init:\n\tif\n\t:: (1) -> goto accept_init\n\tfi;\n}\n")
    ∷ (plain (codes "(p && !p) || q"), codes "never { /* ((p && !p) || q) */\naccept_init:\n\tif\n\t:: (q) -> goto accept_all\n\tfi;\naccept_all:\n\tskip\n}\n")
    ∷ (plain (codes "p <-> p"), codes "never { /* (p <-> p) */\naccept_init:\n\tif\n\t:: (p) || (!p) -> goto accept_all\n\tfi;\naccept_all:\n\tskip\n}\n")
    ∷ (plain (codes "p /\\ q \\/ p"), codes "never { /* ((p && q) || p) */\naccept_init:\n\tif\n\t:: (p) -> goto accept_all\n\tfi;\naccept_all:\n\tskip\n}\n")
    ∷ (claim true true false (codes "p /\\ q \\/ p"), codes "never { /* ((p && q) || p) */\naccept_init:\n\tif\n\t:: (p) || (p && q) -> goto accept_all\n\tfi;\naccept_all:\n\tskip\n}\n")
    ∷ (plain (codes "(p || (p && q)) && X <>q"), codes "never { /* ((p || (p && q)) && X <>q) */\nT0_init:\n\tif\n\t:: (p) -> goto T0_S1\n\t:: (p && q) -> goto accept_S2\n\tfi;\nT0_S1:\n\tif\n\t:: (1) -> goto T0_S1\n\t:: (q) -> goto accept_all\n\tfi;\naccept_S2:\n\tif\n\t:: (1) -> goto T0_S1\n\t:: (q) -> goto accept_all\n\tfi;\naccept_all:\n\tskip\n}\n")
    ∷ []

claims_printed : map (λ e. e.0) claims ≡ map (λ e. e.1) claims
unfolding digits
claims_printed = refl

-- <>p as HOA
eventually_hoa : hoa_text (automaton true false false (Unary Eventually (Proposition 0))) (record { formula = Unary Eventually (Proposition 0); names = codes "p" ∷ [] })
    ≡ codes "HOA: v1\nname: \"<>p\"\nStates: 2\nStart: 0\nAP: 1 \"p\"\nacc-name: Buchi\nAcceptance: 1 Inf(0)\nproperties: trans-labels explicit-labels state-acc\n--BODY--\nState: 0\n[t] 0\n[0] 1\nState: 1 {0}\n[t] 1\n--END--\n"
unfolding digits
eventually_hoa = refl
