-- The program that a printed claim reads as.
use Rattle.std.proofs.Common.{◌≡◌, ℕ, suc, ◌+◌, Bool, true, false, ◌||◌, inl, inr, List, [], ◌∷◌, ◌++◌, length, map, Option, Some, None, nat_eq, refl, sym, ◌∙◌, ap, arith, append_assoc, length-append}
use Rattle.std.specs.Prelude.{if◌then◌else◌, flat_map, fold, codes, slice_index_or}
use Rattle.std.specs.List.{starts_with}
use Rattle.std.proofs.lemmas.List.{append-nil}
use Rattle.std.proofs.lemmas.Grind.{flat_map-append}
use Rattle.std.proofs.lemmas.Bool.{false≢true, or_right}
use Rattle.ltl_spec.specs.Collections.Sets.{Has}
use Rattle.ltl_spec.specs.Semantics.Word.{Name}
use Rattle.ltl_spec.specs.Formulas.Tokens.{same_name}
use Rattle.ltl_spec.specs.Formulas.Names.{is_proposition}
use Rattle.ltl_spec.specs.Transitions.Cubes.{Literal, Cube}
use Rattle.ltl_spec.specs.Claims.ClaimTokens.{ClaimToken, Word, Truth, Never, If, Fi, Goto, OpenBrace, CloseBrace, OpenBracket, CloseBracket, OptionSign, Colon, Separator, NotSign, AndSign, OrSign}
use Rattle.ltl_spec.specs.Claims.ClaimProgram.{Guard, Constant, Named, Not, And, Or, Link, Go, Jump, Nothing, Test, ClaimOption, Statement, ClaimLabel, Program}
use Rattle.ltl_spec.specs.Claims.ClaimMachine.{Hole, AtStart, Nowhere, BehindStatement, Built, with_more, changed, no_statement, named, negated, joined, one_tested, closed, stated, is_label, label_found, Symbol, Another, More, Options, AFirst, AGuard, AnOperand, Conjunct, Disjunct, May, AStatement, InFi, InCloseBrace, InCloseBracket, Now, Sofar, take_token, taken_all, at_first}
use Rattle.ltl_spec.proofs.Collections.ListLaws.{index_done}
use Rattle.ltl_spec.proofs.Formulas.NameLaws.{same_exact, same_self}

-- these symbols may come, and this is built
abbrev pub so : List Symbol → Built → Option Sofar
so symbols b = Some (record { symbols = symbols; built = b })

-- with these tokens it goes on from there, whatever comes next
abbrev pub Leads : Option Sofar → List ClaimToken → Option Sofar → Type 0
Leads s ts t = (x : ClaimToken) (rest : List ClaimToken) → taken_all s (ts ++ x ∷ rest) ≡ taken_all t (x ∷ rest)

pub leads_both : (s t u : Option Sofar) (xs ys : List ClaimToken) → Leads s xs t → Leads t ys u → Leads s (xs ++ ys) u
leads_both s t u xs [] f g x rest = ap (taken_all s) (append_assoc xs [] (x ∷ rest)) ∙ f x rest ∙ g x rest
leads_both s t u xs (y ∷ ys) f g x rest = ap (taken_all s) (append_assoc xs (y ∷ ys) (x ∷ rest)) ∙ f y (ys ++ x ∷ rest) ∙ g x rest

-- ---- blocks

-- a way to a label: some cubes under which it is taken
abbrev pub Way : Type 0
Way = List Cube × Name

-- what stands behind a label: an `if` with these ways or `false`, or else `skip`
pub data Body : Type 0 where
  Ways : List Way → Body
  Skips : Body

abbrev pub Block : Type 0
Block = Name × Body

abbrev pub body_gotos : Body → List Name
body_gotos (Ways ws) = map (λ w. w.1) ws
body_gotos Skips = []

abbrev pub block_gotos : Block → List Name
block_gotos b = body_gotos b.1

abbrev pub labels_from : ℕ → List Block → List ClaimLabel
labels_from a [] = []
labels_from a (b ∷ bs) = record { name = b.0; statement = a } ∷ labels_from (a + 1) bs

-- a label that may stand before the next block
abbrev pub IsFresh : Name → List Block → Type 0
IsFresh l bs = (is_label l (labels_from 0 bs) ≡ false) × (starts_with nat_eq l (codes "end") ≡ false)

-- a block with ways
abbrev pub ways_block : Name × List Way → Block
ways_block x = (x.0, Ways x.1)

-- the block that skips stands last, if there is one
abbrev pub last_blocks : Option Name → List Block
last_blocks None = []
last_blocks (Some l) = (l, Skips) ∷ []

-- the blocks of a claim
abbrev pub claim_blocks : List (Name × List Way) → Option Name → List Block
claim_blocks xs last = map ways_block xs ++ last_blocks last

pub label_cases : (a : ℕ) (bs : List Block) (l : Name) → is_label l (labels_from a bs) ≡ true → (b : Block) × Has bs b × (l ≡ b.0)
label_cases a [] l e = absurd (false≢true e)
label_cases a (b ∷ bs) l e = go (same_name l b.0) refl (label_cases (a + 1) bs l) e
  where
    go : (c : Bool) → same_name l b.0 ≡ c → (is_label l (labels_from (a + 1) bs) ≡ true → (d : Block) × Has bs d × (l ≡ d.0)) → (c || is_label l (labels_from (a + 1) bs)) ≡ true → (d : Block) × Has (b ∷ bs) d × (l ≡ d.0)
    go true q more h = (b, inl refl, same_exact l b.0 q)
    go false q more h = let (d, m, i) = more h in (d, inr m, i)

pub label_there : (a : ℕ) (bs : List Block) (b : Block) → Has bs b → is_label b.0 (labels_from a bs) ≡ true
label_there a [] b h = absurd h
label_there a (c ∷ bs) b (inl e) = ap (λ t. t || is_label b.0 (labels_from (a + 1) bs)) (ap (λ (d : Block). same_name b.0 d.0) (sym e) ∙ same_self b.0)
label_there a (c ∷ bs) b (inr h) = or_right (same_name b.0 c.0) _ (label_there (a + 1) bs b h)

changed_last : {K : Type 0} (f : K → K) (done : List K) (x : K) → changed f (length done) (done ++ x ∷ []) ≡ done ++ f x ∷ []
changed_last f [] x = refl
changed_last f (d ∷ ds) x = ap (λ xs. d ∷ xs) (changed_last f ds x)

module _ (names : List Name) where
  abbrev pub name_at : ℕ → Name
  name_at p = slice_index_or names p []

  -- ---- what is printed, as tokens

  abbrev pub literal_tokens : Literal → List ClaimToken
  literal_tokens l = if l.positive then Word (name_at l.proposition) ∷ [] else NotSign ∷ Word (name_at l.proposition) ∷ []

  abbrev pub more_tokens : Cube → List ClaimToken
  more_tokens ls = flat_map (λ m. AndSign ∷ literal_tokens m) ls

  abbrev pub cube_tokens : Cube → List ClaimToken
  cube_tokens [] = OpenBracket ∷ Truth true ∷ CloseBracket ∷ []
  cube_tokens (l ∷ ls) = OpenBracket ∷ literal_tokens l ++ more_tokens ls ++ CloseBracket ∷ []

  abbrev pub guard_tokens : List Cube → List ClaimToken
  guard_tokens [] = []
  guard_tokens (c ∷ cs) = cube_tokens c ++ flat_map (λ d. OrSign ∷ cube_tokens d) cs

  -- ---- what it is read as

  abbrev pub literal_guard : Literal → Guard
  literal_guard l = if l.positive then Named (name_at l.proposition) else Not (Named (name_at l.proposition))

  abbrev pub product_guard : Guard → Cube → Guard
  product_guard g ls = fold (λ h m. And h (literal_guard m)) g ls

  abbrev pub cube_guard : Cube → Guard
  cube_guard [] = Constant true
  cube_guard (l ∷ ls) = product_guard (literal_guard l) ls

  abbrev pub sum_guard : Guard → List Cube → Guard
  sum_guard g cs = fold (λ h d. Or h (cube_guard d)) g cs

  abbrev pub cubes_guard : List Cube → Guard
  cubes_guard [] = Constant false
  cubes_guard (c ∷ cs) = sum_guard (cube_guard c) cs

  -- the names in the order of the text
  abbrev pub cube_names : Cube → List Name
  cube_names c = map (λ l. name_at l.proposition) c

  abbrev pub cubes_names : List Cube → List Name
  cubes_names cs = flat_map cube_names cs

  -- each proposition of the cube has a name that may stand in a claim
  abbrev pub IsNamedCube : Cube → Type 0
  IsNamedCube c = (l : Literal) → Has c l → is_proposition (name_at l.proposition) ≡ true

  -- ---- guards

  module _ (b : Built) where
    -- with these guards, and these names so far
    abbrev built_with : List Guard → List Name → Built
    built_with gs ns = let p = b.program in record b { guards = gs; program = record p { names = ns } }

    literal_read : (l : Literal) (K : List Symbol) (gs : List Guard) (ns : List Name) → is_proposition (name_at l.proposition) ≡ true
        → Leads (so (AnOperand ∷ K) (built_with gs ns)) (literal_tokens l) (so K (built_with (literal_guard l ∷ gs) (ns ++ name_at l.proposition ∷ [])))
    literal_read l K gs ns e x rest = go l.positive
      where
        go : (c : Bool) → taken_all (so (AnOperand ∷ K) (built_with gs ns)) ((if c then Word (name_at l.proposition) ∷ [] else NotSign ∷ Word (name_at l.proposition) ∷ []) ++ x ∷ rest)
            ≡ taken_all (so K (built_with ((if c then Named (name_at l.proposition) else Not (Named (name_at l.proposition))) ∷ gs) (ns ++ name_at l.proposition ∷ []))) (x ∷ rest)
        go true = ap (λ t. taken_all (elim (if t then Some (Now (named (name_at l.proposition)) ∷ []) else None) as (λ _. Option Sofar) [ Some more ↦ so (more ++ K) (built_with gs ns) | None ↦ None ]) (x ∷ rest)) e
        go false = ap (λ t. taken_all (elim (if t then Some (Now (named (name_at l.proposition)) ∷ []) else None) as (λ _. Option Sofar) [ Some more ↦ so (more ++ Now negated ∷ K) (built_with gs ns) | None ↦ None ]) (x ∷ rest)) e

    -- as the first operand in brackets
    first_read : (l : Literal) (K : List Symbol) (gs : List Guard) (ns : List Name) → is_proposition (name_at l.proposition) ≡ true
        → Leads (so (AGuard ∷ K) (built_with gs ns)) (literal_tokens l) (so (May Conjunct ∷ May Disjunct ∷ K) (built_with (literal_guard l ∷ gs) (ns ++ name_at l.proposition ∷ [])))
    first_read l K gs ns e x rest = go l.positive
      where
        go : (c : Bool) → taken_all (so (AGuard ∷ K) (built_with gs ns)) ((if c then Word (name_at l.proposition) ∷ [] else NotSign ∷ Word (name_at l.proposition) ∷ []) ++ x ∷ rest)
            ≡ taken_all (so (May Conjunct ∷ May Disjunct ∷ K) (built_with ((if c then Named (name_at l.proposition) else Not (Named (name_at l.proposition))) ∷ gs) (ns ++ name_at l.proposition ∷ []))) (x ∷ rest)
        go true = ap (λ t. taken_all (elim (with_more (May Conjunct ∷ May Disjunct ∷ []) (if t then Some (Now (named (name_at l.proposition)) ∷ []) else None)) as (λ _. Option Sofar) [ Some more ↦ so (more ++ K) (built_with gs ns) | None ↦ None ]) (x ∷ rest)) e
        go false = ap (λ t. taken_all (elim (if t then Some (Now (named (name_at l.proposition)) ∷ []) else None) as (λ _. Option Sofar) [ Some more ↦ so (more ++ Now negated ∷ May Conjunct ∷ May Disjunct ∷ K) (built_with gs ns) | None ↦ None ]) (x ∷ rest)) e

    -- the names are counted in the order of the text
    named_on : (ns xs ys : List Name) (K : List Symbol) (gs : List Guard) (ts : List ClaimToken) → taken_all (so K (built_with gs ((ns ++ xs) ++ ys))) ts ≡ taken_all (so K (built_with gs (ns ++ (xs ++ ys)))) ts
    named_on ns xs ys K gs ts = ap (λ ms. taken_all (so K (built_with gs ms)) ts) (append_assoc ns xs ys)

    more_read : (ls : Cube) (g : Guard) (K : List Symbol) (gs : List Guard) (ns : List Name) → IsNamedCube ls
        → Leads (so (May Conjunct ∷ K) (built_with (g ∷ gs) ns)) (more_tokens ls) (so (May Conjunct ∷ K) (built_with (product_guard g ls ∷ gs) (ns ++ cube_names ls)))
    more_read [] g K gs ns n x rest = ap (λ ms. taken_all (so (May Conjunct ∷ K) (built_with (g ∷ gs) ms)) (x ∷ rest)) (sym (append-nil ns))
    more_read (m ∷ ls) g K gs ns n x rest =
        leads_both (so (May Conjunct ∷ K) (built_with (g ∷ gs) ns)) (so (May Conjunct ∷ K) (built_with (And g (literal_guard m) ∷ gs) (ns ++ name_at m.proposition ∷ [])))
        (so (May Conjunct ∷ K) (built_with (product_guard (And g (literal_guard m)) ls ∷ gs) ((ns ++ name_at m.proposition ∷ []) ++ cube_names ls))) (AndSign ∷ literal_tokens m) (more_tokens ls)
        (λ y more. literal_read m (Now (joined And) ∷ May Conjunct ∷ K) (g ∷ gs) ns (n m (inl refl)) y more)
        (more_read ls (And g (literal_guard m)) K gs (ns ++ name_at m.proposition ∷ []) (λ l h. n l (inr h))) x rest
        ∙ named_on ns (name_at m.proposition ∷ []) (cube_names ls) (May Conjunct ∷ K) (product_guard (And g (literal_guard m)) ls ∷ gs) (x ∷ rest)

    -- a cube in brackets is one operand
    cube_read : (d : Cube) (K : List Symbol) (gs : List Guard) (ns : List Name) → IsNamedCube d
        → Leads (so (AnOperand ∷ K) (built_with gs ns)) (cube_tokens d) (so K (built_with (cube_guard d ∷ gs) (ns ++ cube_names d)))
    cube_read [] K gs ns n x rest = ap (λ ms. taken_all (so K (built_with (Constant true ∷ gs) ms)) (x ∷ rest)) (sym (append-nil ns))
    cube_read (l ∷ ls) K gs ns n x rest =
        let first = name_at l.proposition ∷ [] in
        ap (λ ts. taken_all (so (AGuard ∷ InCloseBracket ∷ K) (built_with gs ns)) ts) (append_assoc (literal_tokens l ++ more_tokens ls) (CloseBracket ∷ []) (x ∷ rest))
        ∙ leads_both (so (AGuard ∷ InCloseBracket ∷ K) (built_with gs ns)) (so (May Conjunct ∷ May Disjunct ∷ InCloseBracket ∷ K) (built_with (literal_guard l ∷ gs) (ns ++ first)))
        (so (May Conjunct ∷ May Disjunct ∷ InCloseBracket ∷ K) (built_with (product_guard (literal_guard l) ls ∷ gs) ((ns ++ first) ++ cube_names ls))) (literal_tokens l) (more_tokens ls)
        (first_read l (InCloseBracket ∷ K) gs ns (n l (inl refl))) (more_read ls (literal_guard l) (May Disjunct ∷ InCloseBracket ∷ K) gs (ns ++ first) (λ m h. n m (inr h))) CloseBracket (x ∷ rest)
        ∙ named_on ns first (cube_names ls) K (product_guard (literal_guard l) ls ∷ gs) (x ∷ rest)

    -- so are several with `||` between them, up to a separator
    same_then : (g h : Guard) (K : List Symbol) (gs : List Guard) (ns : List Name) (cs : List Cube) (rest : List ClaimToken)
        → taken_all (so (May Conjunct ∷ Now (joined Or) ∷ May Disjunct ∷ K) (built_with (h ∷ g ∷ gs) ns)) (flat_map (λ d. OrSign ∷ cube_tokens d) cs ++ Separator ∷ rest)
        ≡ taken_all (so (May Conjunct ∷ May Disjunct ∷ K) (built_with (Or g h ∷ gs) ns)) (flat_map (λ d. OrSign ∷ cube_tokens d) cs ++ Separator ∷ rest)
    same_then g h K gs ns [] rest = refl
    same_then g h K gs ns (c ∷ cs) rest = refl

    sum_read : (cs : List Cube) (g : Guard) (K : List Symbol) (gs : List Guard) (ns : List Name) (rest : List ClaimToken) → ((d : Cube) → Has cs d → IsNamedCube d)
        → taken_all (so (May Conjunct ∷ May Disjunct ∷ K) (built_with (g ∷ gs) ns)) (flat_map (λ d. OrSign ∷ cube_tokens d) cs ++ Separator ∷ rest)
        ≡ taken_all (so K (built_with (sum_guard g cs ∷ gs) (ns ++ cubes_names cs))) (Separator ∷ rest)
    sum_read [] g K gs ns rest n = ap (λ ms. taken_all (so K (built_with (g ∷ gs) ms)) (Separator ∷ rest)) (sym (append-nil ns))
    sum_read (c ∷ cs) g K gs ns rest n =
        ap (taken_all (so (May Conjunct ∷ May Disjunct ∷ K) (built_with (g ∷ gs) ns))) (append_assoc (OrSign ∷ cube_tokens c) (flat_map (λ d. OrSign ∷ cube_tokens d) cs) (Separator ∷ rest))
        ∙ go cs rest ∙ same_then g (cube_guard c) K gs (ns ++ cube_names c) cs rest
        ∙ sum_read cs (Or g (cube_guard c)) K gs (ns ++ cube_names c) rest (λ d h. n d (inr h))
        ∙ named_on ns (cube_names c) (cubes_names cs) K (sum_guard (Or g (cube_guard c)) cs ∷ gs) (Separator ∷ rest)
      where
        go : (ds : List Cube) (more : List ClaimToken)
            → taken_all (so (AnOperand ∷ May Conjunct ∷ Now (joined Or) ∷ May Disjunct ∷ K) (built_with (g ∷ gs) ns)) (cube_tokens c ++ (flat_map (λ d. OrSign ∷ cube_tokens d) ds ++ Separator ∷ more))
            ≡ taken_all (so (May Conjunct ∷ Now (joined Or) ∷ May Disjunct ∷ K) (built_with (cube_guard c ∷ g ∷ gs) (ns ++ cube_names c))) (flat_map (λ d. OrSign ∷ cube_tokens d) ds ++ Separator ∷ more)
        go [] more = cube_read c (May Conjunct ∷ Now (joined Or) ∷ May Disjunct ∷ K) (g ∷ gs) ns (n c (inl refl)) Separator more
        go (d ∷ ds) more =
            cube_read c (May Conjunct ∷ Now (joined Or) ∷ May Disjunct ∷ K) (g ∷ gs) ns (n c (inl refl)) OrSign ((cube_tokens d ++ flat_map (λ d. OrSign ∷ cube_tokens d) ds) ++ Separator ∷ more)

    guard_read : (c : Cube) (cs : List Cube) (K : List Symbol) (gs : List Guard) (ns : List Name) (rest : List ClaimToken) → ((d : Cube) → Has (c ∷ cs) d → IsNamedCube d)
        → taken_all (so (AnOperand ∷ May Conjunct ∷ May Disjunct ∷ K) (built_with gs ns)) (guard_tokens (c ∷ cs) ++ Separator ∷ rest)
        ≡ taken_all (so K (built_with (cubes_guard (c ∷ cs) ∷ gs) (ns ++ cubes_names (c ∷ cs)))) (Separator ∷ rest)
    guard_read c cs K gs ns rest n =
        ap (taken_all (so (AnOperand ∷ May Conjunct ∷ May Disjunct ∷ K) (built_with gs ns))) (append_assoc (cube_tokens c) (flat_map (λ d. OrSign ∷ cube_tokens d) cs) (Separator ∷ rest))
        ∙ go cs ∙ sum_read cs (cube_guard c) K gs (ns ++ cube_names c) rest (λ d h. n d (inr h))
        ∙ named_on ns (cube_names c) (cubes_names cs) K (sum_guard (cube_guard c) cs ∷ gs) (Separator ∷ rest)
      where
        go : (ds : List Cube)
            → taken_all (so (AnOperand ∷ May Conjunct ∷ May Disjunct ∷ K) (built_with gs ns)) (cube_tokens c ++ (flat_map (λ d. OrSign ∷ cube_tokens d) ds ++ Separator ∷ rest))
            ≡ taken_all (so (May Conjunct ∷ May Disjunct ∷ K) (built_with (cube_guard c ∷ gs) (ns ++ cube_names c))) (flat_map (λ d. OrSign ∷ cube_tokens d) ds ++ Separator ∷ rest)
        go [] = cube_read c (May Conjunct ∷ May Disjunct ∷ K) gs ns (n c (inl refl)) Separator rest
        go (d ∷ ds) = cube_read c (May Conjunct ∷ May Disjunct ∷ K) gs ns (n c (inl refl)) OrSign ((cube_tokens d ++ flat_map (λ d. OrSign ∷ cube_tokens d) ds) ++ Separator ∷ rest)

  -- ---- options

  -- an option that leads to a label
  abbrev pub jump_tokens : List Cube → Name → List ClaimToken
  jump_tokens cs l = OptionSign ∷ (guard_tokens cs ++ Separator ∷ []) ++ Goto ∷ Word l ∷ []

  abbrev pub jump_option : List Cube → Name → ClaimOption
  jump_option cs l = record { first = Test (cubes_guard cs); next = Jump l }

  -- the cubes are some, and have names
  abbrev pub AreNamed : List Cube → Type 0
  AreNamed [] = ⊥
  AreNamed (d ∷ cs) = (e : Cube) → Has (d ∷ cs) e → IsNamedCube e

  abbrev pub way_tokens : Way → List ClaimToken
  way_tokens w = jump_tokens w.0 w.1

  abbrev pub way_option : Way → ClaimOption
  way_option w = jump_option w.0 w.1

  -- a selection that isn't in another one, and what is built while its options are read
  abbrev pub chosen : List ClaimOption → Statement
  chosen os = record { around = None; loops = false; options = os; next = Nothing }

  -- what is built while the options of the last statement are read
  abbrev choosing : Program → ℕ → List Statement → Hole → List ClaimOption → List Name → List Name → Built
  choosing p i done h os gotos said =
      record { guards = []; selections = i ∷ []; hole = h; program = record p { statements = done ++ chosen os ∷ []; gotos = gotos; names = said } }

  abbrev InOptions : List Symbol → List Symbol
  InOptions K = May More ∷ May Options ∷ K

  module _ (p : Program) (i : ℕ) (done : List Statement) (long : i ≡ length done) (K : List Symbol) where
    option_added : (os : List ClaimOption) (g : Guard) (l : Name)
        → changed (λ s. record s { options = changed (λ o. record o { next = Jump l }) (length (slice_index_or (done ++ chosen os ∷ []) i no_statement).options) s.options }) i
        (changed (λ s. record s { options = s.options ++ record { first = Test g; next = Nothing } ∷ [] }) i (done ++ chosen os ∷ []))
        ≡ done ++ chosen (os ++ record { first = Test g; next = Jump l } ∷ []) ∷ []
    option_added os g l =
        let added : List Statement = done ++ chosen (os ++ record { first = Test g; next = Nothing } ∷ []) ∷ [] in
        let at_last : slice_index_or (done ++ chosen os ∷ []) i no_statement ≡ chosen os = ap (λ j. slice_index_or (done ++ chosen os ∷ []) j no_statement) long ∙ index_done done [] (chosen os) no_statement in
        let one : changed (λ s. record s { options = s.options ++ record { first = Test g; next = Nothing } ∷ [] }) i (done ++ chosen os ∷ []) ≡ added =
        ap (λ j. changed (λ s. record s { options = s.options ++ record { first = Test g; next = Nothing } ∷ [] }) j (done ++ chosen os ∷ [])) long ∙ changed_last (λ s. record s { options = s.options ++ record { first = Test g; next = Nothing } ∷ [] }) done (chosen os) in
        ap (λ (s : Statement). changed (λ t. record t { options = changed (λ o. record o { next = Jump l }) (length s.options) t.options }) i (changed (λ t. record t { options = t.options ++ record { first = Test g; next = Nothing } ∷ [] }) i (done ++ chosen os ∷ []))) at_last
        ∙ ap (changed (λ t. record t { options = changed (λ o. record o { next = Jump l }) (length os) t.options }) i) one
        ∙ ap (λ j. changed (λ t. record t { options = changed (λ o. record o { next = Jump l }) (length os) t.options }) j added) long
        ∙ changed_last (λ t. record t { options = changed (λ o. record o { next = Jump l }) (length os) t.options }) done (chosen (os ++ record { first = Test g; next = Nothing } ∷ []))
        ∙ ap (λ xs. done ++ chosen xs ∷ []) (changed_last (λ o. record o { next = Jump l }) os (record { first = Test g; next = Nothing }))

    first_operand : (b : Built) (c : Cube) (cs : List Cube) (rest : List ClaimToken)
        → taken_all (so (AFirst ∷ InOptions K) b) (guard_tokens (c ∷ cs) ++ rest) ≡ taken_all (so (AnOperand ∷ May Conjunct ∷ May Disjunct ∷ Now (one_tested Test true) ∷ InOptions K) b) (guard_tokens (c ∷ cs) ++ rest)
    first_operand b [] cs rest = refl
    first_operand b (l ∷ ls) cs rest = refl

    way_read : (cs : List Cube) (l : Name) (h : Hole) (os : List ClaimOption) (gotos said : List Name) → AreNamed cs
        → Leads (so (InOptions K) (choosing p i done h os gotos said)) (jump_tokens cs l) (so (InOptions K) (choosing p i done Nowhere (os ++ jump_option cs l ∷ []) (gotos ++ l ∷ []) (said ++ cubes_names cs)))
    way_read [] l h os gotos said n x rest = absurd n
    way_read (c ∷ cs) l h os gotos said n x rest =
        let b = choosing p i done h os gotos said in
        ap (taken_all (so (AFirst ∷ InOptions K) b)) (append_assoc (guard_tokens (c ∷ cs) ++ Separator ∷ []) (Goto ∷ Word l ∷ []) (x ∷ rest) ∙ append_assoc (guard_tokens (c ∷ cs)) (Separator ∷ []) (Goto ∷ Word l ∷ x ∷ rest))
        ∙ first_operand b c cs (Separator ∷ Goto ∷ Word l ∷ x ∷ rest)
        ∙ guard_read b c cs (Now (one_tested Test true) ∷ InOptions K) [] said (Goto ∷ Word l ∷ x ∷ rest) n
        ∙ ap (λ sts. taken_all (so (InOptions K) (record { guards = []; selections = i ∷ []; hole = Nowhere; program = record p { statements = sts; gotos = gotos ++ l ∷ []; names = said ++ cubes_names (c ∷ cs) } })) (x ∷ rest)) (option_added os (cubes_guard (c ∷ cs)) l)

    abbrev ways_said : List Way → List Name
    ways_said ws = flat_map (λ w. cubes_names w.0) ws

    -- the ways behind the first one
    ways_read : (ws : List Way) (os : List ClaimOption) (gotos said : List Name) → ((w : Way) → Has ws w → AreNamed w.0)
        → Leads (so (InOptions K) (choosing p i done Nowhere os gotos said)) (flat_map way_tokens ws) (so (InOptions K) (choosing p i done Nowhere (os ++ map way_option ws) (gotos ++ map (λ w. w.1) ws) (said ++ ways_said ws)))
    ways_read [] os gotos said n x rest =
        ap (λ xs. taken_all (so (InOptions K) (choosing p i done Nowhere xs gotos said)) (x ∷ rest)) (sym (append-nil os))
        ∙ ap (λ xs. taken_all (so (InOptions K) (choosing p i done Nowhere (os ++ []) xs said)) (x ∷ rest)) (sym (append-nil gotos))
        ∙ ap (λ xs. taken_all (so (InOptions K) (choosing p i done Nowhere (os ++ []) (gotos ++ []) xs)) (x ∷ rest)) (sym (append-nil said))
    ways_read (w ∷ ws) os gotos said n x rest =
        leads_both (so (InOptions K) (choosing p i done Nowhere os gotos said)) (so (InOptions K) (choosing p i done Nowhere (os ++ way_option w ∷ []) (gotos ++ w.1 ∷ []) (said ++ cubes_names w.0)))
        (so (InOptions K) (choosing p i done Nowhere ((os ++ way_option w ∷ []) ++ map way_option ws) ((gotos ++ w.1 ∷ []) ++ map (λ v. v.1) ws) ((said ++ cubes_names w.0) ++ ways_said ws))) (way_tokens w) (flat_map way_tokens ws)
        (way_read w.0 w.1 Nowhere os gotos said (n w (inl refl))) (ways_read ws (os ++ way_option w ∷ []) (gotos ++ w.1 ∷ []) (said ++ cubes_names w.0) (λ v h. n v (inr h))) x rest
        ∙ ap (λ xs. taken_all (so (InOptions K) (choosing p i done Nowhere xs ((gotos ++ w.1 ∷ []) ++ map (λ v. v.1) ws) ((said ++ cubes_names w.0) ++ ways_said ws))) (x ∷ rest)) (append_assoc os (way_option w ∷ []) (map way_option ws))
        ∙ ap (λ xs. taken_all (so (InOptions K) (choosing p i done Nowhere (os ++ map way_option (w ∷ ws)) xs ((said ++ cubes_names w.0) ++ ways_said ws))) (x ∷ rest)) (append_assoc gotos (w.1 ∷ []) (map (λ v. v.1) ws))
        ∙ ap (λ xs. taken_all (so (InOptions K) (choosing p i done Nowhere (os ++ map way_option (w ∷ ws)) (gotos ++ map (λ v. v.1) (w ∷ ws)) xs)) (x ∷ rest)) (append_assoc said (cubes_names w.0) (ways_said ws))

    -- all ways, behind `if`
    choice_read : (w : Way) (ws : List Way) (h : Hole) (gotos said : List Name) → ((v : Way) → Has (w ∷ ws) v → AreNamed v.0)
        → Leads (so (Options ∷ K) (choosing p i done h [] gotos said)) (flat_map way_tokens (w ∷ ws)) (so (InOptions K) (choosing p i done Nowhere (map way_option (w ∷ ws)) (gotos ++ map (λ v. v.1) (w ∷ ws)) (said ++ ways_said (w ∷ ws))))
    choice_read w ws h gotos said n x rest =
        leads_both (so (InOptions K) (choosing p i done h [] gotos said)) (so (InOptions K) (choosing p i done Nowhere (way_option w ∷ []) (gotos ++ w.1 ∷ []) (said ++ cubes_names w.0)))
        (so (InOptions K) (choosing p i done Nowhere (map way_option (w ∷ ws)) ((gotos ++ w.1 ∷ []) ++ map (λ v. v.1) ws) ((said ++ cubes_names w.0) ++ ways_said ws))) (way_tokens w) (flat_map way_tokens ws)
        (way_read w.0 w.1 h [] gotos said (n w (inl refl))) (ways_read ws (way_option w ∷ []) (gotos ++ w.1 ∷ []) (said ++ cubes_names w.0) (λ v j. n v (inr j))) x rest
        ∙ ap (λ xs. taken_all (so (InOptions K) (choosing p i done Nowhere (map way_option (w ∷ ws)) xs ((said ++ cubes_names w.0) ++ ways_said ws))) (x ∷ rest)) (append_assoc gotos (w.1 ∷ []) (map (λ v. v.1) ws))
        ∙ ap (λ xs. taken_all (so (InOptions K) (choosing p i done Nowhere (map way_option (w ∷ ws)) (gotos ++ map (λ v. v.1) (w ∷ ws)) xs)) (x ∷ rest)) (append_assoc said (cubes_names w.0) (ways_said ws))

  -- ---- blocks

  abbrev test_option : Bool → ClaimOption
  test_option b = record { first = Test (Constant b); next = Nothing }

  abbrev pub body_options : Body → List ClaimOption
  body_options (Ways []) = test_option false ∷ []
  body_options (Ways (w ∷ ws)) = map way_option (w ∷ ws)
  body_options Skips = test_option true ∷ []

  abbrev pub body_names : Body → List Name
  body_names (Ways ws) = flat_map (λ w. cubes_names w.0) ws
  body_names Skips = []

  abbrev pub block_names : Block → List Name
  block_names b = body_names b.1

  abbrev pub ways_tokens : List Way → List ClaimToken
  ways_tokens [] = Truth false ∷ Separator ∷ []
  ways_tokens (w ∷ ws) = If ∷ flat_map way_tokens (w ∷ ws) ++ Fi ∷ Separator ∷ []

  abbrev pub body_tokens : Body → List ClaimToken
  body_tokens (Ways ws) = ways_tokens ws
  body_tokens Skips = Truth true ∷ []

  abbrev pub block_tokens : Block → List ClaimToken
  block_tokens b = Word b.0 ∷ Colon ∷ body_tokens b.1

  -- the statement of a block, with what comes next
  abbrev pub block_statement : Block → Link → Statement
  block_statement b k = record { around = None; loops = false; options = body_options b.1; next = k }

  -- the statements of some blocks, where more come
  abbrev linked_from : ℕ → List Block → List Statement
  linked_from a [] = []
  linked_from a (b ∷ bs) = block_statement b (Go (a + 1)) ∷ linked_from (a + 1) bs

  -- and where these are all
  abbrev pub statements_from : ℕ → List Block → List Statement
  statements_from a [] = []
  statements_from a (b ∷ []) = block_statement b Nothing ∷ []
  statements_from a (b ∷ c ∷ bs) = block_statement b (Go (a + 1)) ∷ statements_from (a + 1) (c ∷ bs)

  abbrev pub start_of : List Block → Link
  start_of [] = Nothing
  start_of (b ∷ bs) = Go 0

  abbrev hole_of : List Block → Hole
  hole_of [] = AtStart
  hole_of (b ∷ bs) = BehindStatement (length bs)

  -- the program of some blocks
  abbrev pub program_of : List Block → Program
  program_of bs = record { start = start_of bs; statements = statements_from 0 bs; labels = labels_from 0 bs; gotos = flat_map block_gotos bs; names = flat_map block_names bs }

  abbrev built_of : List Block → Built
  built_of bs = record { guards = []; selections = []; hole = hole_of bs; program = program_of bs }

  pub statements_length : (a : ℕ) (bs : List Block) → length (statements_from a bs) ≡ length bs
  statements_length a [] = refl
  statements_length a (b ∷ []) = refl
  statements_length a (b ∷ c ∷ bs) = ap suc (statements_length (a + 1) (c ∷ bs))

  linked_length : (a : ℕ) (bs : List Block) → length (linked_from a bs) ≡ length bs
  linked_length a [] = refl
  linked_length a (b ∷ bs) = ap suc (linked_length (a + 1) bs)

  -- the last statement is linked to the next one
  last_linked : (a : ℕ) (b : Block) (bs : List Block) (n : ℕ) → n ≡ a + length (b ∷ bs) → changed (λ s. record s { next = Go n }) (length bs) (statements_from a (b ∷ bs)) ≡ linked_from a (b ∷ bs)
  last_linked a b [] n e = let f : n ≡ a + 1 = omega (arith, e) in ap (λ m. block_statement b (Go m) ∷ []) f
  last_linked a b (c ∷ bs) n e = ap (λ ss. block_statement b (Go (a + 1)) ∷ ss) (last_linked (a + 1) c bs n (omega (arith, e)))

  -- the statements with the one of another block
  statements_push : (a : ℕ) (bs : List Block) (b : Block) → linked_from a bs ++ block_statement b Nothing ∷ [] ≡ statements_from a (bs ++ b ∷ [])
  statements_push a [] b = refl
  statements_push a (c ∷ []) b = refl
  statements_push a (c ∷ d ∷ bs) b = ap (λ ss. block_statement c (Go (a + 1)) ∷ ss) (statements_push (a + 1) (d ∷ bs) b)

  labels_push : (a : ℕ) (bs : List Block) (b : Block) → labels_from a (bs ++ b ∷ []) ≡ labels_from a bs ++ record { name = b.0; statement = a + length bs } ∷ []
  labels_push a [] b = let e : a ≡ a + 0 = omega arith in ap (λ n. record { name = b.0; statement = n } ∷ []) e
  labels_push a (c ∷ bs) b =
      let e : a + 1 + length bs ≡ a + suc (length bs) = omega arith in
      ap (λ ls. record { name = c.0; statement = a } ∷ ls) (labels_push (a + 1) bs b ∙ ap (λ n. labels_from (a + 1) bs ++ record { name = b.0; statement = n } ∷ []) e)

  -- behind a label
  abbrev labelled_program : List Block → Name → Program
  labelled_program bs l = let p = program_of bs in record p { labels = p.labels ++ record { name = l; statement = length p.statements } ∷ [] }

  abbrev labelled_built : List Block → Name → Built
  labelled_built bs l = record (built_of bs) { program = labelled_program bs l }

  label_read : (bs : List Block) (l : Name) → IsFresh l bs → label_found l (built_of bs) ≡ Some (labelled_built bs l)
  label_read bs l f = ap (λ c. if c || starts_with nat_eq l (codes "end") then None else Some (labelled_built bs l)) f.0 ∙ ap (λ c. if c then None else Some (labelled_built bs l)) f.1

  -- behind the beginning of a statement
  abbrev begun : List Block → Name → List ClaimOption → Built
  begun bs l os = record {
    guards = [];
    selections = [];
    hole = BehindStatement (length (statements_from 0 bs));
    program = record (labelled_program bs l) { start = Go 0; statements = linked_from 0 bs ++ chosen os ∷ [] };
  }

  stated_is : (bs : List Block) (l : Name) (os : List ClaimOption) → stated false os (labelled_built bs l) ≡ begun bs l os
  stated_is [] l os = refl
  stated_is (b ∷ bs) l os =
      ap (λ ss. record { guards = []; selections = []; hole = BehindStatement (length (statements_from 0 (b ∷ bs))); program = record (labelled_program (b ∷ bs) l) { start = Go 0; statements = ss ++ chosen os ∷ [] } })
      (last_linked 0 b bs (length (statements_from 0 (b ∷ bs))) (statements_length 0 (b ∷ bs) ∙ plus (length (b ∷ bs))))
    where
      plus : (n : ℕ) → n ≡ 0 + n
      plus n = omega arith

  -- the program with one more block
  abbrev with_block : List Block → Block → Built
  with_block bs b = record {
    guards = [];
    selections = [];
    hole = BehindStatement (length (statements_from 0 bs));
    program = record {
      start = Go 0;
      statements = linked_from 0 bs ++ block_statement b Nothing ∷ [];
      labels = labels_from 0 bs ++ record { name = b.0; statement = length (statements_from 0 bs) } ∷ [];
      gotos = flat_map block_gotos bs ++ block_gotos b;
      names = flat_map block_names bs ++ block_names b;
    };
  }

  pushed : (bs : List Block) (b : Block) → with_block bs b ≡ built_of (bs ++ b ∷ [])
  pushed bs b =
      let labels : labels_from 0 bs ++ record { name = b.0; statement = length (statements_from 0 bs) } ∷ [] ≡ labels_from 0 (bs ++ b ∷ []) =
      ap (λ n. labels_from 0 bs ++ record { name = b.0; statement = n } ∷ []) (statements_length 0 bs ∙ plus (length bs)) ∙ sym (labels_push 0 bs b) in
      let gotos : flat_map block_gotos bs ++ block_gotos b ≡ flat_map block_gotos (bs ++ b ∷ []) =
      ap (λ ls. flat_map block_gotos bs ++ ls) (sym (append-nil (block_gotos b))) ∙ sym (flat_map-append block_gotos bs (b ∷ [])) in
      let said : flat_map block_names bs ++ block_names b ≡ flat_map block_names (bs ++ b ∷ []) =
      ap (λ ls. flat_map block_names bs ++ ls) (sym (append-nil (block_names b))) ∙ sym (flat_map-append block_names bs (b ∷ [])) in
      let statements = statements_push 0 bs b in
      let starts : Go 0 ≡ start_of (bs ++ b ∷ []) = start bs in
      let holes = ap BehindStatement (statements_length 0 bs) ∙ hole bs in
      λ i. record { guards = []; selections = []; hole = holes i; program = record { start = starts i; statements = statements i; labels = labels i; gotos = gotos i; names = said i } }
    where
      plus : (n : ℕ) → n ≡ 0 + n
      plus n = omega arith

      start : (cs : List Block) → Go 0 ≡ start_of (cs ++ b ∷ [])
      start [] = refl
      start (c ∷ cs) = refl

      hole : (cs : List Block) → BehindStatement (length cs) ≡ hole_of (cs ++ b ∷ [])
      hole [] = refl
      hole (c ∷ cs) = let e : length (cs ++ b ∷ []) ≡ length cs + 1 = length-append cs (b ∷ []) in let f : suc (length cs) ≡ length (cs ++ b ∷ []) = omega arith in ap BehindStatement f

  abbrev pub Rest : List Symbol
  Rest = May Another ∷ InCloseBrace ∷ []

  -- behind the label of a block
  body_read : (bs : List Block) (l : Name) (ws : List Way) → ((w : Way) → Has ws w → AreNamed w.0)
      → Leads (so (AStatement ∷ May More ∷ InCloseBrace ∷ []) (labelled_built bs l)) (ways_tokens ws) (so Rest (with_block bs (l, Ways ws)))
  body_read bs l [] n x rest =
      ap (λ b. taken_all (so Rest b) (x ∷ rest)) (stated_is bs l (test_option false ∷ []))
      ∙ ap (λ ls. taken_all (so Rest (let b = with_block bs (l, Ways []) in let p = b.program in record b { program = record p { gotos = ls; names = flat_map block_names bs } })) (x ∷ rest)) (sym (append-nil (flat_map block_gotos bs)))
      ∙ ap (λ ls. taken_all (so Rest (let b = with_block bs (l, Ways []) in let p = b.program in record b { program = record p { names = ls } })) (x ∷ rest)) (sym (append-nil (flat_map block_names bs)))
  body_read bs l (w ∷ ws) n x rest =
      let i = length (statements_from 0 bs) in
      let K : List Symbol = InFi ∷ Now closed ∷ May More ∷ InCloseBrace ∷ [] in
      ap (λ b. taken_all (so (Options ∷ K) (record b { selections = i ∷ [] })) ((flat_map way_tokens (w ∷ ws) ++ Fi ∷ Separator ∷ []) ++ x ∷ rest)) (stated_is bs l [])
      ∙ ap (taken_all (so (Options ∷ K) (record (begun bs l []) { selections = i ∷ [] }))) (append_assoc (flat_map way_tokens (w ∷ ws)) (Fi ∷ Separator ∷ []) (x ∷ rest))
      ∙ choice_read (record (labelled_program bs l) { start = Go 0 }) i (linked_from 0 bs) (statements_length 0 bs ∙ sym (linked_length 0 bs)) K w ws (BehindStatement i) (flat_map block_gotos bs) (flat_map block_names bs) n Fi (Separator ∷ x ∷ rest)

  block_read : (bs : List Block) (l : Name) (ws : List Way) → IsFresh l bs → ((w : Way) → Has ws w → AreNamed w.0)
      → Leads (so Rest (built_of bs)) (Word l ∷ Colon ∷ ways_tokens ws) (so Rest (built_of (bs ++ (l, Ways ws) ∷ [])))
  block_read bs l ws f n x rest =
      named_label ws
      ∙ body_read bs l ws n x rest
      ∙ ap (λ b. taken_all (so Rest b) (x ∷ rest)) (pushed bs (l, Ways ws))
    where
      named_label : (vs : List Way) → taken_all (so Rest (built_of bs)) (Word l ∷ Colon ∷ (ways_tokens vs ++ x ∷ rest)) ≡ taken_all (so (AStatement ∷ May More ∷ InCloseBrace ∷ []) (labelled_built bs l)) (ways_tokens vs ++ x ∷ rest)
      named_label [] =
          ap (λ o. taken_all (elim o as (λ _. Option Sofar) [ Some c ↦ take_token false (Truth false) (AStatement ∷ May More ∷ InCloseBrace ∷ []) c | None ↦ None ]) (Separator ∷ x ∷ rest)) (label_read bs l f)
      named_label (v ∷ vs) =
          ap (λ o. taken_all (elim o as (λ _. Option Sofar) [ Some c ↦ take_token false If (AStatement ∷ May More ∷ InCloseBrace ∷ []) c | None ↦ None ]) ((flat_map way_tokens (v ∷ vs) ++ Fi ∷ Separator ∷ []) ++ x ∷ rest)) (label_read bs l f)

  abbrev pub AreReadable : List Block → List (Name × List Way) → Type 0
  AreReadable done [] = Unit {0}
  AreReadable done (x ∷ xs) = IsFresh x.0 done × ((w : Way) → Has x.1 w → AreNamed w.0) × AreReadable (done ++ ways_block x ∷ []) xs

  blocks_read : (xs : List (Name × List Way)) (done : List Block) → AreReadable done xs
      → Leads (so Rest (built_of done)) (flat_map block_tokens (map ways_block xs)) (so Rest (built_of (done ++ map ways_block xs)))
  blocks_read [] done r x rest = ap (λ bs. taken_all (so Rest (built_of bs)) (x ∷ rest)) (sym (append-nil done))
  blocks_read (y ∷ ys) done r x rest =
      leads_both (so Rest (built_of done)) (so Rest (built_of (done ++ ways_block y ∷ []))) (so Rest (built_of ((done ++ ways_block y ∷ []) ++ map ways_block ys))) (block_tokens (ways_block y)) (flat_map block_tokens (map ways_block ys))
      (block_read done y.0 y.1 r.0 r.1) (blocks_read ys (done ++ ways_block y ∷ []) r.2) x rest
      ∙ ap (λ bs. taken_all (so Rest (built_of bs)) (x ∷ rest)) (append_assoc done (ways_block y ∷ []) (map ways_block ys))

  -- ---- whole claims

  -- everything is read, and this is built
  abbrev pub read : List Block → Option Sofar
  read bs = so [] (built_of bs)

  last_read : (last : Option Name) (bs : List Block) → ((l : Name) → last ≡ Some l → IsFresh l bs)
      → taken_all (so Rest (built_of bs)) (flat_map block_tokens (last_blocks last) ++ CloseBrace ∷ []) ≡ read (bs ++ last_blocks last)
  last_read None bs f = ap read (sym (append-nil bs))
  last_read (Some l) bs f =
      ap (λ o. taken_all (elim o as (λ _. Option Sofar) [ Some c ↦ take_token false (Truth true) (AStatement ∷ May More ∷ InCloseBrace ∷ []) c | None ↦ None ]) (CloseBrace ∷ [])) (label_read bs l (f l refl))
      ∙ ap (λ b. so [] b) (stated_is bs l (test_option true ∷ []))
      ∙ ap (λ ls. so [] (let b = with_block bs (l, Skips) in let p = b.program in record b { program = record p { gotos = ls; names = flat_map block_names bs } })) (sym (append-nil (flat_map block_gotos bs)))
      ∙ ap (λ ls. so [] (let b = with_block bs (l, Skips) in let p = b.program in record b { program = record p { names = ls } })) (sym (append-nil (flat_map block_names bs)))
      ∙ ap (λ b. so [] b) (pushed bs (l, Skips))

  pub claim_read : (y : Name × List Way) (ys : List (Name × List Way)) (last : Option Name) → AreReadable [] (y ∷ ys) → ((l : Name) → last ≡ Some l → IsFresh l (map ways_block (y ∷ ys)))
      → taken_all (Some at_first) (Never ∷ OpenBrace ∷ flat_map block_tokens (map ways_block (y ∷ ys)) ++ (flat_map block_tokens (last_blocks last) ++ CloseBrace ∷ []))
      ≡ so [] (record { guards = []; selections = []; hole = hole_of (claim_blocks (y ∷ ys) last); program = program_of (claim_blocks (y ∷ ys) last) })
  claim_read y ys last r f = go last ∙ last_read last (map ways_block (y ∷ ys)) f
    where
      go : (z : Option Name) → taken_all (so Rest (built_of [])) (flat_map block_tokens (map ways_block (y ∷ ys)) ++ (flat_map block_tokens (last_blocks z) ++ CloseBrace ∷ []))
          ≡ taken_all (so Rest (built_of (map ways_block (y ∷ ys)))) (flat_map block_tokens (last_blocks z) ++ CloseBrace ∷ [])
      go None = blocks_read (y ∷ ys) [] r CloseBrace []
      go (Some l) = blocks_read (y ∷ ys) [] r (Word l) (Colon ∷ Truth true ∷ CloseBrace ∷ [])
