-- Worked examples: claims as they are read, and where each of their states leads under each letter.
use Rattle.std.specs.Prelude.{◌≡◌, ℕ, ◌+◌, Bool, true, false, ◌&&◌, nat_eq, List, [], ◌∷◌, map, filter, Option, Some, None, codes, refl}
use Rattle.std.specs.List.{list_any, range_with_len}
use Rattle.ltl_spec.specs.Semantics.Word.{Name}
use Rattle.ltl_spec.specs.Transitions.Cubes.{allows}
use Rattle.ltl_spec.specs.Automata.Automaton.{State}
use Rattle.ltl_spec.specs.Claims.ClaimProgram.{Program}
use Rattle.ltl_spec.specs.Claims.ClaimMachine.{claim_program}
use Rattle.ltl_spec.specs.Claims.ClaimMeaning.{program_names, end, leads, claim_automaton}

-- the names, the start, which states accept, and for each state and each letter the states to which it leads
record Table : Type 0 where
  names : List Name
  start : ℕ
  accepting : List Bool
  moves : List (List (List ℕ))

-- a letter as the numbers of the names that are true
abbrev leads_under : ℕ → State → List ℕ → List ℕ
leads_under last s letter = filter (λ t. list_any (λ e. nat_eq e.target t && allows (λ p. list_any (nat_eq p) letter) e.cube) s.edges) (range_with_len 0 (last + 1))

abbrev table_of : List (List ℕ) → Program → Table
table_of letters P =
    let states = (claim_automaton P).states in
    record { names = program_names P; start = leads P P.start None; accepting = map (λ s. s.accepting) states; moves = map (λ s. map (leads_under (end P) s) letters) states }

abbrev table : List ℕ → List (List ℕ) → Option Table
table text letters = elim (claim_program text) [ Some P ↦ Some (table_of letters P) | None ↦ None ]

-- claims with all their letters, and what is found
abbrev claims : List (List ℕ × List (List ℕ) × Table)
claims =
    (codes "never  {    /* []<>p */\nT0_init:\n\tdo\n\t:: ((p)) -> goto accept_S9\n\t:: (1) -> goto T0_init\n\tod;\naccept_S9:\n\tdo\n\t:: (1) -> goto T0_init\n\tod;\n}\n", ([]) ∷ (0 ∷ []) ∷ [], record { names = codes "p" ∷ []; start = 0; accepting = false ∷ true ∷ true ∷ []; moves = ((0 ∷ []) ∷ (0 ∷ 1 ∷ []) ∷ []) ∷ ((0 ∷ []) ∷ (0 ∷ []) ∷ []) ∷ ((2 ∷ []) ∷ (2 ∷ []) ∷ []) ∷ [] })
    ∷ (codes "never  {    /* p U q */\nT0_init:\n\tdo\n\t:: atomic { ((q)) -> assert(!((q))) }\n\t:: ((p)) -> goto T0_init\n\tod;\naccept_all:\n\tskip\n}\n", ([]) ∷ (0 ∷ []) ∷ (1 ∷ []) ∷ (0 ∷ 1 ∷ []) ∷ [], record { names = codes "q" ∷ codes "p" ∷ []; start = 0; accepting = false ∷ true ∷ true ∷ []; moves = (([]) ∷ (2 ∷ []) ∷ (0 ∷ []) ∷ (0 ∷ 2 ∷ []) ∷ []) ∷ ((2 ∷ []) ∷ (2 ∷ []) ∷ (2 ∷ []) ∷ (2 ∷ []) ∷ []) ∷ ((2 ∷ []) ∷ (2 ∷ []) ∷ (2 ∷ []) ∷ (2 ∷ []) ∷ []) ∷ [] })
    ∷ (codes "never  {    /* false */\naccept_init:\nT0_init:\n\tdo\n\t:: atomic { (false) -> assert(!(false)) }\n\tod;\naccept_all:\n\tskip\n}\n", ([]) ∷ [], record { names = []; start = 0; accepting = true ∷ true ∷ true ∷ []; moves = (([]) ∷ []) ∷ ((2 ∷ []) ∷ []) ∷ ((2 ∷ []) ∷ []) ∷ [] })
    ∷ (codes "never  {    /* []p */\naccept_init:\nT0_init:\n\tdo\n\t:: ((p)) -> goto T0_init\n\tod;\n}\n", ([]) ∷ (0 ∷ []) ∷ [], record { names = codes "p" ∷ []; start = 0; accepting = true ∷ true ∷ []; moves = (([]) ∷ (0 ∷ []) ∷ []) ∷ ((1 ∷ []) ∷ (1 ∷ []) ∷ []) ∷ [] })
    ∷ (codes "never p1 {    /* !([] ((! (p)) || (<> (q)))) */\nT0_init:\n\tdo\n\t:: (! ((! (p))) && ! ((q))) -> goto accept_S4\n\t:: (1) -> goto T0_init\n\tod;\naccept_S4:\n\tdo\n\t:: (! ((q))) -> goto accept_S4\n\tod;\n}\n", ([]) ∷ (0 ∷ []) ∷ (1 ∷ []) ∷ (0 ∷ 1 ∷ []) ∷ [], record { names = codes "p" ∷ codes "q" ∷ []; start = 0; accepting = false ∷ true ∷ true ∷ []; moves = ((0 ∷ []) ∷ (0 ∷ 1 ∷ []) ∷ (0 ∷ []) ∷ (0 ∷ []) ∷ []) ∷ ((1 ∷ []) ∷ (1 ∷ []) ∷ ([]) ∷ ([]) ∷ []) ∷ ((2 ∷ []) ∷ (2 ∷ []) ∷ (2 ∷ []) ∷ (2 ∷ []) ∷ []) ∷ [] })
    ∷ (codes "never { /* []<>p */\nT0_init:\n\tif\n\t:: (1) -> goto T0_init\n\t:: (p) -> goto accept_S1\n\tfi;\naccept_S1:\n\tif\n\t:: (1) -> goto T0_init\n\t:: (p) -> goto accept_S1\n\tfi;\n}\n", ([]) ∷ (0 ∷ []) ∷ [], record { names = codes "p" ∷ []; start = 0; accepting = false ∷ true ∷ true ∷ []; moves = ((0 ∷ []) ∷ (0 ∷ 1 ∷ []) ∷ []) ∷ ((0 ∷ []) ∷ (0 ∷ 1 ∷ []) ∷ []) ∷ ((2 ∷ []) ∷ (2 ∷ []) ∷ []) ∷ [] })
    ∷ (codes "never {    /* false */\nT0_init:\n\tfalse;\n}\n", ([]) ∷ [], record { names = []; start = 0; accepting = false ∷ true ∷ []; moves = (([]) ∷ []) ∷ ((1 ∷ []) ∷ []) ∷ [] })
    ∷ (codes "never { /* G(p -> X q) */\naccept_init:\n\tif\n\t:: (!p) -> goto accept_init\n\t:: (p) -> goto accept_S2\n\tfi;\naccept_S2:\n\tif\n\t:: (!p && q) -> goto accept_init\n\t:: (p && q) -> goto accept_S2\n\tfi;\n}\n", ([]) ∷ (0 ∷ []) ∷ (1 ∷ []) ∷ (0 ∷ 1 ∷ []) ∷ [], record { names = codes "p" ∷ codes "q" ∷ []; start = 0; accepting = true ∷ true ∷ true ∷ []; moves = ((0 ∷ []) ∷ (1 ∷ []) ∷ (0 ∷ []) ∷ (1 ∷ []) ∷ []) ∷ (([]) ∷ ([]) ∷ (0 ∷ []) ∷ (1 ∷ []) ∷ []) ∷ ((2 ∷ []) ∷ (2 ∷ []) ∷ (2 ∷ []) ∷ (2 ∷ []) ∷ []) ∷ [] })
    ∷ (codes "never { /* F(p & !q) */\nT0_init:\n  if\n  :: ((p) && (!(q))) -> goto accept_all\n  :: ((!(p)) || (q)) -> goto T0_init\n  fi;\naccept_all:\n  skip\n}\n", ([]) ∷ (0 ∷ []) ∷ (1 ∷ []) ∷ (0 ∷ 1 ∷ []) ∷ [], record { names = codes "p" ∷ codes "q" ∷ []; start = 0; accepting = false ∷ true ∷ true ∷ []; moves = ((0 ∷ []) ∷ (1 ∷ []) ∷ (0 ∷ []) ∷ (0 ∷ []) ∷ []) ∷ ((2 ∷ []) ∷ (2 ∷ []) ∷ (2 ∷ []) ∷ (2 ∷ []) ∷ []) ∷ ((2 ∷ []) ∷ (2 ∷ []) ∷ (2 ∷ []) ∷ (2 ∷ []) ∷ []) ∷ [] })
    ∷ (codes "never {\nT0_init :    /* init */\n\tif\n\t:: (1) -> goto T0_init\n\t:: (!p) -> goto accept_S1\n\tfi;\naccept_S1 :    /* 1 */\n\tif\n\t:: (!p) -> goto accept_S1\n\tfi;\n}\n", ([]) ∷ (0 ∷ []) ∷ [], record { names = codes "p" ∷ []; start = 0; accepting = false ∷ true ∷ true ∷ []; moves = ((0 ∷ 1 ∷ []) ∷ (0 ∷ []) ∷ []) ∷ ((1 ∷ []) ∷ ([]) ∷ []) ∷ ((2 ∷ []) ∷ (2 ∷ []) ∷ []) ∷ [] })
    ∷ (codes "never { /* <>p */\nT0_init:\n\tif\n\t:: (1) -> goto T0_init\n\t:: (p) -> goto accept_all\n\tfi;\naccept_all:\n\tskip\n}\n", ([]) ∷ (0 ∷ []) ∷ [], record { names = codes "p" ∷ []; start = 0; accepting = false ∷ true ∷ true ∷ []; moves = ((0 ∷ []) ∷ (0 ∷ 1 ∷ []) ∷ []) ∷ ((2 ∷ []) ∷ (2 ∷ []) ∷ []) ∷ ((2 ∷ []) ∷ (2 ∷ []) ∷ []) ∷ [] })
    ∷ (codes "never { /* [](p -> <>q) */\nT0_init:\n\tif\n\t:: (1) -> goto T0_S1\n\t:: (!p) || (q) -> goto accept_S2\n\tfi;\nT0_S1:\n\tif\n\t:: (1) -> goto T0_S1\n\t:: (q) -> goto accept_S2\n\tfi;\naccept_S2:\n\tif\n\t:: (1) -> goto T0_S1\n\t:: (!p) || (q) -> goto accept_S2\n\tfi;\n}\n", ([]) ∷ (0 ∷ []) ∷ (1 ∷ []) ∷ (0 ∷ 1 ∷ []) ∷ [], record { names = codes "p" ∷ codes "q" ∷ []; start = 0; accepting = false ∷ false ∷ true ∷ true ∷ []; moves = ((1 ∷ 2 ∷ []) ∷ (1 ∷ []) ∷ (1 ∷ 2 ∷ []) ∷ (1 ∷ 2 ∷ []) ∷ []) ∷ ((1 ∷ []) ∷ (1 ∷ []) ∷ (1 ∷ 2 ∷ []) ∷ (1 ∷ 2 ∷ []) ∷ []) ∷ ((1 ∷ 2 ∷ []) ∷ (1 ∷ []) ∷ (1 ∷ 2 ∷ []) ∷ (1 ∷ 2 ∷ []) ∷ []) ∷ ((3 ∷ []) ∷ (3 ∷ []) ∷ (3 ∷ []) ∷ (3 ∷ []) ∷ []) ∷ [] })
    ∷ (codes "never { /* false */\naccept_init:\n\tfalse;\n}\n", ([]) ∷ [], record { names = []; start = 0; accepting = true ∷ true ∷ []; moves = (([]) ∷ []) ∷ ((1 ∷ []) ∷ []) ∷ [] })
    ∷ (codes "never { /* (<>p && <>q) */\nT0_init:\n\tif\n\t:: (1) -> goto T0_init\n\t:: (p) -> goto T0_S1\n\t:: (p && q) -> goto accept_all\n\t:: (q) -> goto T0_S3\n\tfi;\nT0_S1:\n\tif\n\t:: (1) -> goto T0_S1\n\t:: (q) -> goto accept_all\n\tfi;\nT0_S3:\n\tif\n\t:: (p) -> goto accept_all\n\t:: (1) -> goto T0_S3\n\tfi;\naccept_all:\n\tskip\n}\n", ([]) ∷ (0 ∷ []) ∷ (1 ∷ []) ∷ (0 ∷ 1 ∷ []) ∷ [], record { names = codes "p" ∷ codes "q" ∷ []; start = 0; accepting = false ∷ false ∷ false ∷ true ∷ true ∷ []; moves = ((0 ∷ []) ∷ (0 ∷ 1 ∷ []) ∷ (0 ∷ 2 ∷ []) ∷ (0 ∷ 1 ∷ 2 ∷ 3 ∷ []) ∷ []) ∷ ((1 ∷ []) ∷ (1 ∷ []) ∷ (1 ∷ 3 ∷ []) ∷ (1 ∷ 3 ∷ []) ∷ []) ∷ ((2 ∷ []) ∷ (2 ∷ 3 ∷ []) ∷ (2 ∷ []) ∷ (2 ∷ 3 ∷ []) ∷ []) ∷ ((4 ∷ []) ∷ (4 ∷ []) ∷ (4 ∷ []) ∷ (4 ∷ []) ∷ []) ∷ ((4 ∷ []) ∷ (4 ∷ []) ∷ (4 ∷ []) ∷ (4 ∷ []) ∷ []) ∷ [] })
    ∷ (codes "never { /* (p U X q) */\nT0_init:\n\tif\n\t:: (p) -> goto T0_init\n\t:: (1) -> goto accept_S1\n\tfi;\naccept_S1:\n\tif\n\t:: (q) -> goto accept_all\n\tfi;\naccept_all:\n\tskip\n}\n", ([]) ∷ (0 ∷ []) ∷ (1 ∷ []) ∷ (0 ∷ 1 ∷ []) ∷ [], record { names = codes "p" ∷ codes "q" ∷ []; start = 0; accepting = false ∷ true ∷ true ∷ true ∷ []; moves = ((1 ∷ []) ∷ (0 ∷ 1 ∷ []) ∷ (1 ∷ []) ∷ (0 ∷ 1 ∷ []) ∷ []) ∷ (([]) ∷ ([]) ∷ (2 ∷ []) ∷ (2 ∷ []) ∷ []) ∷ ((3 ∷ []) ∷ (3 ∷ []) ∷ (3 ∷ []) ∷ (3 ∷ []) ∷ []) ∷ ((3 ∷ []) ∷ (3 ∷ []) ∷ (3 ∷ []) ∷ (3 ∷ []) ∷ []) ∷ [] })
    ∷ (codes "never  {    /* [](p || q && !p) */\naccept_init:\nT0_init:\n\tdo\n\t:: ((p || q && !p)) -> goto T0_init\n\tod;\n}\n", ([]) ∷ (0 ∷ []) ∷ (1 ∷ []) ∷ (0 ∷ 1 ∷ []) ∷ [], record { names = codes "p" ∷ codes "q" ∷ []; start = 0; accepting = true ∷ true ∷ []; moves = (([]) ∷ (0 ∷ []) ∷ (0 ∷ []) ∷ (0 ∷ []) ∷ []) ∷ ((1 ∷ []) ∷ (1 ∷ []) ∷ (1 ∷ []) ∷ (1 ∷ []) ∷ []) ∷ [] })
    ∷ (codes "never  {    /* p || q && !p */\naccept_init:\nT0_init:\n\tdo\n\t:: atomic { (! ((p)) && (q)) -> assert(!(! ((p)) && (q))) }\n\tod;\naccept_all:\n\tskip\n}\n", ([]) ∷ (0 ∷ []) ∷ (1 ∷ []) ∷ (0 ∷ 1 ∷ []) ∷ [], record { names = codes "p" ∷ codes "q" ∷ []; start = 0; accepting = true ∷ true ∷ true ∷ []; moves = (([]) ∷ ([]) ∷ (2 ∷ []) ∷ ([]) ∷ []) ∷ ((2 ∷ []) ∷ (2 ∷ []) ∷ (2 ∷ []) ∷ (2 ∷ []) ∷ []) ∷ ((2 ∷ []) ∷ (2 ∷ []) ∷ (2 ∷ []) ∷ (2 ∷ []) ∷ []) ∷ [] })
    ∷ (codes "never  {    /* [](!!p && q) */\naccept_init:\nT0_init:\n\tdo\n\t:: ((!!p && q)) -> goto T0_init\n\tod;\n}\n", ([]) ∷ (0 ∷ []) ∷ (1 ∷ []) ∷ (0 ∷ 1 ∷ []) ∷ [], record { names = codes "p" ∷ codes "q" ∷ []; start = 0; accepting = true ∷ true ∷ []; moves = (([]) ∷ ([]) ∷ ([]) ∷ (0 ∷ []) ∷ []) ∷ ((1 ∷ []) ∷ (1 ∷ []) ∷ (1 ∷ []) ∷ (1 ∷ []) ∷ []) ∷ [] })
    ∷ (codes "never { do :: !p -> break :: true od; accept: do :: !q od }", ([]) ∷ (0 ∷ []) ∷ (1 ∷ []) ∷ (0 ∷ 1 ∷ []) ∷ [], record { names = codes "p" ∷ codes "q" ∷ []; start = 0; accepting = false ∷ true ∷ true ∷ []; moves = ((0 ∷ 1 ∷ []) ∷ (0 ∷ []) ∷ (0 ∷ 1 ∷ []) ∷ (0 ∷ []) ∷ []) ∷ ((1 ∷ []) ∷ (1 ∷ []) ∷ ([]) ∷ ([]) ∷ []) ∷ ((2 ∷ []) ∷ (2 ∷ []) ∷ (2 ∷ []) ∷ (2 ∷ []) ∷ []) ∷ [] })
    ∷ (codes "never { do :: p :: else -> break od; accept_x: do :: q od }", ([]) ∷ (0 ∷ []) ∷ (1 ∷ []) ∷ (0 ∷ 1 ∷ []) ∷ [], record { names = codes "p" ∷ codes "q" ∷ []; start = 0; accepting = false ∷ true ∷ true ∷ []; moves = ((1 ∷ []) ∷ (0 ∷ []) ∷ (1 ∷ []) ∷ (0 ∷ []) ∷ []) ∷ (([]) ∷ ([]) ∷ (1 ∷ []) ∷ (1 ∷ []) ∷ []) ∷ ((2 ∷ []) ∷ (2 ∷ []) ∷ (2 ∷ []) ∷ (2 ∷ []) ∷ []) ∷ [] })
    ∷ (codes "never { do :: p -> if :: q -> break :: else fi od; accept: do :: 1 od }", ([]) ∷ (0 ∷ []) ∷ (1 ∷ []) ∷ (0 ∷ 1 ∷ []) ∷ [], record { names = codes "p" ∷ codes "q" ∷ []; start = 0; accepting = false ∷ false ∷ true ∷ true ∷ []; moves = (([]) ∷ (1 ∷ []) ∷ ([]) ∷ (1 ∷ []) ∷ []) ∷ ((0 ∷ []) ∷ (0 ∷ []) ∷ (2 ∷ []) ∷ (2 ∷ []) ∷ []) ∷ ((2 ∷ []) ∷ (2 ∷ []) ∷ (2 ∷ []) ∷ (2 ∷ []) ∷ []) ∷ ((3 ∷ []) ∷ (3 ∷ []) ∷ (3 ∷ []) ∷ (3 ∷ []) ∷ []) ∷ [] })
    ∷ (codes "never { if :: goto M :: p -> q fi; p; M: q }", ([]) ∷ (0 ∷ []) ∷ (1 ∷ []) ∷ (0 ∷ 1 ∷ []) ∷ [], record { names = codes "p" ∷ codes "q" ∷ []; start = 0; accepting = false ∷ false ∷ false ∷ false ∷ true ∷ []; moves = ((3 ∷ []) ∷ (1 ∷ 3 ∷ []) ∷ (3 ∷ []) ∷ (1 ∷ 3 ∷ []) ∷ []) ∷ (([]) ∷ ([]) ∷ (2 ∷ []) ∷ (2 ∷ []) ∷ []) ∷ (([]) ∷ (3 ∷ []) ∷ ([]) ∷ (3 ∷ []) ∷ []) ∷ (([]) ∷ ([]) ∷ (4 ∷ []) ∷ (4 ∷ []) ∷ []) ∷ ((4 ∷ []) ∷ (4 ∷ []) ∷ (4 ∷ []) ∷ (4 ∷ []) ∷ []) ∷ [] })
    ∷ (codes "never { goto M; accept_a: p; M: if :: q -> goto accept_a fi }", ([]) ∷ (0 ∷ []) ∷ (1 ∷ []) ∷ (0 ∷ 1 ∷ []) ∷ [], record { names = codes "p" ∷ codes "q" ∷ []; start = 1; accepting = true ∷ false ∷ true ∷ []; moves = (([]) ∷ (1 ∷ []) ∷ ([]) ∷ (1 ∷ []) ∷ []) ∷ (([]) ∷ ([]) ∷ (0 ∷ []) ∷ (0 ∷ []) ∷ []) ∷ ((2 ∷ []) ∷ (2 ∷ []) ∷ (2 ∷ []) ∷ (2 ∷ []) ∷ []) ∷ [] })
    ∷ (codes "never { do :: break :: p od; !p }", ([]) ∷ (0 ∷ []) ∷ [], record { names = codes "p" ∷ []; start = 0; accepting = false ∷ false ∷ true ∷ []; moves = ((1 ∷ []) ∷ (0 ∷ 1 ∷ []) ∷ []) ∷ ((2 ∷ []) ∷ ([]) ∷ []) ∷ ((2 ∷ []) ∷ (2 ∷ []) ∷ []) ∷ [] })
    ∷ (codes "never { if :: atomic { p -> assert(q) } -> q :: !p fi; accept_b: do :: p od }", ([]) ∷ (0 ∷ []) ∷ (1 ∷ []) ∷ (0 ∷ 1 ∷ []) ∷ [], record { names = codes "p" ∷ codes "q" ∷ []; start = 0; accepting = false ∷ false ∷ true ∷ true ∷ []; moves = ((2 ∷ []) ∷ (3 ∷ []) ∷ (2 ∷ []) ∷ (1 ∷ []) ∷ []) ∷ (([]) ∷ ([]) ∷ (2 ∷ []) ∷ (2 ∷ []) ∷ []) ∷ (([]) ∷ (2 ∷ []) ∷ ([]) ∷ (2 ∷ []) ∷ []) ∷ ((3 ∷ []) ∷ (3 ∷ []) ∷ (3 ∷ []) ∷ (3 ∷ []) ∷ []) ∷ [] })
    ∷ (codes "never { if :: p -> assert(q) :: !p fi; accept_b: do :: p od }", ([]) ∷ (0 ∷ []) ∷ (1 ∷ []) ∷ (0 ∷ 1 ∷ []) ∷ [], record { names = codes "p" ∷ codes "q" ∷ []; start = 0; accepting = false ∷ false ∷ true ∷ true ∷ []; moves = ((2 ∷ []) ∷ (1 ∷ []) ∷ (2 ∷ []) ∷ (1 ∷ []) ∷ []) ∷ ((3 ∷ []) ∷ (3 ∷ []) ∷ (2 ∷ []) ∷ (2 ∷ []) ∷ []) ∷ (([]) ∷ (2 ∷ []) ∷ ([]) ∷ (2 ∷ []) ∷ []) ∷ ((3 ∷ []) ∷ (3 ∷ []) ∷ (3 ∷ []) ∷ (3 ∷ []) ∷ []) ∷ [] })
    ∷ (codes "never { do :: p -> accept_a: q :: !p od }", ([]) ∷ (0 ∷ []) ∷ (1 ∷ []) ∷ (0 ∷ 1 ∷ []) ∷ [], record { names = codes "p" ∷ codes "q" ∷ []; start = 0; accepting = false ∷ true ∷ true ∷ []; moves = ((0 ∷ []) ∷ (1 ∷ []) ∷ (0 ∷ []) ∷ (1 ∷ []) ∷ []) ∷ (([]) ∷ ([]) ∷ (0 ∷ []) ∷ (0 ∷ []) ∷ []) ∷ ((2 ∷ []) ∷ (2 ∷ []) ∷ (2 ∷ []) ∷ (2 ∷ []) ∷ []) ∷ [] })
    ∷ (codes "never { if :: p -> skip :: q fi; if :: q fi }", ([]) ∷ (0 ∷ []) ∷ (1 ∷ []) ∷ (0 ∷ 1 ∷ []) ∷ [], record { names = codes "p" ∷ codes "q" ∷ []; start = 0; accepting = false ∷ false ∷ false ∷ true ∷ []; moves = (([]) ∷ (1 ∷ []) ∷ (2 ∷ []) ∷ (1 ∷ 2 ∷ []) ∷ []) ∷ ((2 ∷ []) ∷ (2 ∷ []) ∷ (2 ∷ []) ∷ (2 ∷ []) ∷ []) ∷ (([]) ∷ ([]) ∷ (3 ∷ []) ∷ (3 ∷ []) ∷ []) ∷ ((3 ∷ []) ∷ (3 ∷ []) ∷ (3 ∷ []) ∷ (3 ∷ []) ∷ []) ∷ [] })
    ∷ (codes "never{Acceptance:do::p;q;::accept0 od;progress_a:do::1->goto accepted od;accepted:do::!p||!(q&&p)->;od;}", ([]) ∷ (0 ∷ []) ∷ (1 ∷ []) ∷ (0 ∷ 1 ∷ []) ∷ (2 ∷ []) ∷ (0 ∷ 2 ∷ []) ∷ (1 ∷ 2 ∷ []) ∷ (0 ∷ 1 ∷ 2 ∷ []) ∷ [], record { names = codes "p" ∷ codes "q" ∷ codes "accept0" ∷ []; start = 0; accepting = false ∷ false ∷ false ∷ true ∷ true ∷ []; moves = (([]) ∷ (1 ∷ []) ∷ ([]) ∷ (1 ∷ []) ∷ (0 ∷ []) ∷ (0 ∷ 1 ∷ []) ∷ (0 ∷ []) ∷ (0 ∷ 1 ∷ []) ∷ []) ∷ (([]) ∷ ([]) ∷ (0 ∷ []) ∷ (0 ∷ []) ∷ ([]) ∷ ([]) ∷ (0 ∷ []) ∷ (0 ∷ []) ∷ []) ∷ ((3 ∷ []) ∷ (3 ∷ []) ∷ (3 ∷ []) ∷ (3 ∷ []) ∷ (3 ∷ []) ∷ (3 ∷ []) ∷ (3 ∷ []) ∷ (3 ∷ []) ∷ []) ∷ ((3 ∷ []) ∷ (3 ∷ []) ∷ (3 ∷ []) ∷ ([]) ∷ (3 ∷ []) ∷ (3 ∷ []) ∷ (3 ∷ []) ∷ ([]) ∷ []) ∷ ((4 ∷ []) ∷ (4 ∷ []) ∷ (4 ∷ []) ∷ (4 ∷ []) ∷ (4 ∷ []) ∷ (4 ∷ []) ∷ (4 ∷ []) ∷ (4 ∷ []) ∷ []) ∷ [] })
    ∷ (codes "never {\r\n\tdo /* a /* b */\r\n\t:: p -> break\r\n\tod; q; goto L; p; /**/ p;\r\n\tL: skip;;\r\n}\r\n", ([]) ∷ (0 ∷ []) ∷ (1 ∷ []) ∷ (0 ∷ 1 ∷ []) ∷ [], record { names = codes "p" ∷ codes "q" ∷ []; start = 0; accepting = false ∷ false ∷ false ∷ false ∷ false ∷ true ∷ []; moves = (([]) ∷ (1 ∷ []) ∷ ([]) ∷ (1 ∷ []) ∷ []) ∷ (([]) ∷ ([]) ∷ (4 ∷ []) ∷ (4 ∷ []) ∷ []) ∷ (([]) ∷ (3 ∷ []) ∷ ([]) ∷ (3 ∷ []) ∷ []) ∷ (([]) ∷ (4 ∷ []) ∷ ([]) ∷ (4 ∷ []) ∷ []) ∷ ((5 ∷ []) ∷ (5 ∷ []) ∷ (5 ∷ []) ∷ (5 ∷ []) ∷ []) ∷ ((5 ∷ []) ∷ (5 ∷ []) ∷ (5 ∷ []) ∷ (5 ∷ []) ∷ []) ∷ [] })
    ∷ (codes "never { L: if :: p -> do :: q -> if :: p -> break :: !p -> goto L fi :: !q -> goto A od :: !p fi; goto L; A: accept_A: if :: p :: else -> goto L fi; goto A }", ([]) ∷ (0 ∷ []) ∷ (1 ∷ []) ∷ (0 ∷ 1 ∷ []) ∷ [], record { names = codes "p" ∷ codes "q" ∷ []; start = 0; accepting = false ∷ false ∷ false ∷ true ∷ true ∷ []; moves = ((0 ∷ []) ∷ (1 ∷ []) ∷ (0 ∷ []) ∷ (1 ∷ []) ∷ []) ∷ ((3 ∷ []) ∷ (3 ∷ []) ∷ (2 ∷ []) ∷ (2 ∷ []) ∷ []) ∷ ((0 ∷ []) ∷ (0 ∷ []) ∷ (0 ∷ []) ∷ (0 ∷ []) ∷ []) ∷ ((0 ∷ []) ∷ (3 ∷ []) ∷ (0 ∷ []) ∷ (3 ∷ []) ∷ []) ∷ ((4 ∷ []) ∷ (4 ∷ []) ∷ (4 ∷ []) ∷ (4 ∷ []) ∷ []) ∷ [] })
    ∷ (codes "never { if :: p -> p :: else -> q :: atomic { q; assert(p); } fi }", ([]) ∷ (0 ∷ []) ∷ (1 ∷ []) ∷ (0 ∷ 1 ∷ []) ∷ [], record { names = codes "p" ∷ codes "q" ∷ []; start = 0; accepting = false ∷ false ∷ false ∷ true ∷ []; moves = ((2 ∷ []) ∷ (1 ∷ []) ∷ (3 ∷ []) ∷ (1 ∷ 3 ∷ []) ∷ []) ∷ (([]) ∷ (3 ∷ []) ∷ ([]) ∷ (3 ∷ []) ∷ []) ∷ (([]) ∷ ([]) ∷ (3 ∷ []) ∷ (3 ∷ []) ∷ []) ∷ ((3 ∷ []) ∷ (3 ∷ []) ∷ (3 ∷ []) ∷ (3 ∷ []) ∷ []) ∷ [] })
    ∷ (codes "never { if :: assert(p) :: else fi }", ([]) ∷ (0 ∷ []) ∷ [], record { names = codes "p" ∷ []; start = 0; accepting = false ∷ true ∷ []; moves = ((1 ∷ []) ∷ (1 ∷ []) ∷ []) ∷ ((1 ∷ []) ∷ (1 ∷ []) ∷ []) ∷ [] })
    ∷ (codes "never { accept: do :: p && (q && (p || !(!q))) :: (!p || (q || p) && !q) && !(p && !q) && (p || (q || p)) od }", ([]) ∷ (0 ∷ []) ∷ (1 ∷ []) ∷ (0 ∷ 1 ∷ []) ∷ [], record { names = codes "p" ∷ codes "q" ∷ []; start = 0; accepting = true ∷ true ∷ []; moves = (([]) ∷ ([]) ∷ (0 ∷ []) ∷ (0 ∷ []) ∷ []) ∷ ((1 ∷ []) ∷ (1 ∷ []) ∷ (1 ∷ []) ∷ (1 ∷ []) ∷ []) ∷ [] })
    ∷ []

claims_read : map (λ c. table c.0 c.1) claims ≡ map (λ c. Some c.2) claims
claims_read = refl

-- what is no claim
abbrev others : List (List ℕ)
others =
    codes "#define p (x == 1)\nnever { p }\n"
    ∷ codes "never claim(p)"
    ∷ codes "never { }"
    ∷ codes "never {\n  do\n  :: p $ q\n  od\n}\n"
    ∷ codes "never { p /* "
    ∷ codes "never { p } q"
    ∷ codes "never { if :: p fi if :: q fi }"
    ∷ codes "never { do :: p == 1 od }"
    ∷ codes "never { do :: 2 od }"
    ∷ codes "never { do :: (p -> q : 1) od }"
    ∷ codes "never { do :: Ready -> goto Ready od }"
    ∷ codes "never { L: p; L: q }"
    ∷ codes "never { do :: p -> goto M od; N: q; goto O }"
    ∷ codes "never { if :: break fi }"
    ∷ codes "never { if :: else :: p :: else fi }"
    ∷ codes "never { p; accept_x: }"
    ∷ codes "never { end: do :: p od }"
    ∷ codes "never { do :: if :: p :: q fi od }"
    ∷ codes "never { do :: accept: p od }"
    ∷ codes "never { { p; q } }"
    ∷ codes "never { atomic { p; q } }"
    ∷ codes "never { goto M; undefined: else }"
    ∷ codes "never { atomic { p ->"
    ∷ []

others_refused : map claim_program others ≡ map (λ t. None) others
others_refused = refl
