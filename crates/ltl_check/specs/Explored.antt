-- The invariants of the nested depth-first search. `col` is the colour of each state.
use Rattle.std.specs.Prelude.{◌≡◌, ◌≢◌, ℕ, zero, suc, ◌+◌, ◌*◌, ◌<◌, ◌≤◌, true, List, [], ◌∷◌, ◌++◌, length, take, drop, ◌⊎◌, ⊤, slice_index_or, ◌-◌, ◌^◌, min}
use Rattle.ltl_check.specs.declared.graph.Step.{Step}
use Rattle.ltl_check.specs.declared.walk.Taken.{Taken}
use Rattle.ltl_check.specs.declared.search.Colour.{Colour}
use Rattle.ltl_check.specs.declared.search.DfsPath.{DfsPath}
use Rattle.ltl_check.specs.declared.search.Met.{Met}
use Rattle.ltl_check.specs.declared.search.Search.{Search}
use Rattle.ltl_check.specs.declared.search.Colour.TheVariants.{New, Open, Left, Probed}
use Rattle.ltl_check.specs.Nets.{Net, IsSuccessor, IsStepPath, Cycles}

abbrev pub colour_at : List Colour → ℕ → Colour
colour_at cs n = slice_index_or cs n New

-- a fact of each step
abbrev pub Each : (Taken → Type 0) → List Taken → Type 0
Each P [] = ⊤
Each P (t ∷ ts) = P t × Each P ts

-- a fact of some step
abbrev pub OneOf : (Taken → Type 0) → List Taken → Type 0
OneOf P [] = ⊥
OneOf P (t ∷ ts) = P t ⊎ OneOf P ts

-- no state is left twice, and none is the last one
abbrev pub AreDistinct : List Taken → ℕ → Type 0
AreDistinct [] here = ⊤
AreDistinct (t ∷ ts) here = (t.state ≢ here) × Each (λ u. t.state ≢ u.state) ts × AreDistinct ts here

-- the colour of one state has become c
pub record IsChanged (col after : ℕ → Colour) (n : ℕ) (c : Colour) : Type 0 where
  pub here : after n ≡ c
  pub there : (m : ℕ) → m ≢ n → after m ≡ col m

module _ (N : Net) (col : ℕ → Colour) where
  -- the state has been left
  abbrev pub IsLeft : ℕ → Type 0
  IsLeft n = (col n ≡ Left) ⊎ (col n ≡ Probed)

  -- the first looks find only states that have been entered
  abbrev pub IsSeen : ℕ → ℕ → Type 0
  IsSeen n next = (k : ℕ) (t : Step ℕ) → k < next → IsSuccessor N n k t → col t.target ≢ New

  -- the first looks find only marked states
  abbrev pub IsMarkedTo : ℕ → ℕ → Type 0
  IsMarkedTo n next = (k : ℕ) (t : Step ℕ) → k < next → IsSuccessor N n k t → col t.target ≡ Probed

  -- a step of the stem: its state is open, and its looks up to the one taken are seen
  pub record IsOpenStep (t : Taken) : Type 0 where
    pub inside : t.state < N.count
    pub within : t.pick < N.pairs t.state
    pub room : t.pick + 1 < 2 ^ 64
    pub opened : col t.state ≡ Open
    pub seen : IsSeen t.state (t.pick + 1)

  -- the first pass stands at `here` with the look `next`, and has come by `stem`
  pub record IsExplored (stem : List Taken) (here next : ℕ) : Type 0 where
    pub inside : here < N.count
    pub arrives : IsStepPath N N.start stem here
    pub opened : col here ≡ Open
    pub seen : IsSeen here next
    pub steps : Each IsOpenStep stem
    pub distinct : AreDistinct stem here
    pub only : (n : ℕ) → col n ≡ Open → (n ≡ here) ⊎ OneOf (λ t. t.state ≡ n) stem
    pub left : (n : ℕ) → IsLeft n → IsSeen n (N.pairs n)
    pub turnless : (n : ℕ) → IsLeft n → N.accepts n ≡ true → Cycles N n → ⊥

  -- the edges of marked states lead to marked states
  abbrev pub IsClosed : Type 0
  IsClosed = (n : ℕ) → col n ≡ Probed → IsMarkedTo n (N.pairs n)

  -- the first pass has come to its end
  pub record IsOver : Type 0 where
    pub started : IsLeft N.start
    pub none : (n : ℕ) → col n ≡ Open → ⊥
    pub left : (n : ℕ) → IsLeft n → IsSeen n (N.pairs n)
    pub turnless : (n : ℕ) → IsLeft n → N.accepts n ≡ true → Cycles N n → ⊥

  -- a step of the second pass: all looks were seen, those up to the one taken find marked states
  pub record IsMarkedStep (t : Taken) : Type 0 where
    pub inside : t.state < N.count
    pub within : t.pick < N.pairs t.state
    pub room : t.pick + 1 < 2 ^ 64
    pub seen : IsSeen t.state (N.pairs t.state)
    pub marked : IsMarkedTo t.state (t.pick + 1)

  -- the second pass from `root` stands at `at` with the look `next`, and has come by `path`
  pub record IsProbed (root : ℕ) (path : List Taken) (at next : ℕ) : Type 0 where
    pub inside : at < N.count
    pub arrives : IsStepPath N root path at
    pub seen : IsSeen at (N.pairs at)
    pub marked : IsMarkedTo at next
    pub steps : Each IsMarkedStep path
    pub closed : (n : ℕ) → col n ≡ Probed → IsMarkedTo n (N.pairs n) ⊎ ((n ≡ at) ⊎ OneOf (λ t. t.state ≡ n) path)

-- a number for each state, by its colour, and their sum; the first colour is that of state i
abbrev pub total : (ℕ → Colour → ℕ) → ℕ → List Colour → ℕ
total f i [] = 0
total f i (c ∷ cs) = f i c + total f (i + 1) cs

-- the sum of f over the numbers below n
abbrev pub sum_below : (ℕ → ℕ) → ℕ → ℕ
sum_below f zero = 0
sum_below f (suc n) = sum_below f n + f n

module _ (N : Net) where
  -- the looks that the stem leaves for later
  abbrev pub rest_path : List Taken → ℕ
  rest_path [] = 0
  rest_path (t ∷ ts) = (N.pairs t.state - (t.pick + 1)) + rest_path ts

  abbrev pub rest : List Taken → ℕ → ℕ → ℕ
  rest stem here next = rest_path stem + (N.pairs here - next)

  -- the looks that a state costs
  abbrev pub cost : ℕ → Colour → ℕ
  cost n New = 0
  cost n Open = N.pairs n
  cost n Left = N.pairs n
  cost n Probed = N.pairs n + N.pairs n

  -- what the first pass has yet to enter
  abbrev pub to_enter : ℕ → Colour → ℕ
  to_enter n New = N.pairs n + 1
  to_enter n Open = 0
  to_enter n Left = 0
  to_enter n Probed = 0

  -- what the second pass has yet to mark
  abbrev pub to_mark : ℕ → Colour → ℕ
  to_mark n New = 0
  to_mark n Open = 0
  to_mark n Left = N.pairs n + 1
  to_mark n Probed = 0

-- the count of looks, after so many more: it stays at the greatest number
abbrev pub counted : ℕ → ℕ → ℕ
counted before more = min (before + more) (2 ^ 128 - 1)

-- the count has grown by so many looks
abbrev pub IsGrown : ℕ → ℕ → ℕ → Type 0
IsGrown before after more = ((more ≡ 0) × (after ≡ before)) ⊎ (after ≡ counted before more)

module _ (N : Net) where
  -- the second pass has met an open state: the stem falls in two there, and the path leads back to it
  abbrev pub IsMet : List Taken → List Taken → ℕ → List Taken → Taken → Type 0
  IsMet pre post root path taken = (n : ℕ) × IsStepPath N N.start pre n × IsStepPath N n post root × IsStepPath N root (path ++ taken ∷ []) n

  -- the first pass has left the state to which the stem led
  pub record IsBack (col : ℕ → Colour) (stem : List Taken) : Type 0 where
    pub step : (ts : List Taken) (t : Taken) → stem ≡ ts ++ t ∷ [] → IsExplored N col ts t.state (t.pick + 1)
    pub over : stem ≡ [] → IsOver N col
    pub rooms : Each (λ t. t.pick + 1 < 2 ^ 64) stem

  -- some way leads from the start to the state
  abbrev pub Reached : ℕ → Type 0
  Reached n = (ts : List Taken) × IsStepPath N N.start ts n

  -- the looks that the colours stand for
  abbrev pub spent : List Colour → ℕ
  spent cs = total (cost N) 0 cs

  -- the looks that a search with these colours may still make
  abbrev pub looks_left : List Colour → ℕ
  looks_left cs = 2 * sum_below N.pairs N.count - spent cs

  -- so many looks were made, all of them for the change of colours and for `more`
  abbrev pub HasPaid : ℕ → ℕ → List Colour → List Colour → ℕ → Type 0
  HasPaid old new cs ds more = (c : ℕ) × IsGrown old new c × (c + spent cs ≡ spent ds + more)

  -- what is left to do, by what the states have yet to cost
  abbrev pub work : (ℕ → Colour → ℕ) → List Colour → List Taken → ℕ → ℕ → ℕ
  work f cs stem here next = total f 0 cs + rest N stem here next + length stem

  -- all that is known between two looks of the first pass
  pub record IsAt (cs : List Colour) (stem : List Taken) (here next : ℕ) : Type 0 where
    pub sized : length cs ≡ N.count
    pub explored : IsExplored N (colour_at cs) stem here next
    pub closed : IsClosed N (colour_at cs)

  -- a look of the first pass leads on, and is paid for
  pub record IsOn (cs : List Colour) (stem : List Taken) (here next : ℕ) (ds : List Colour) (later : List Taken) (there then : ℕ) : Type 0 where
    pub stands : IsAt ds later there then
    pub falls : work (to_enter N) ds later there then < work (to_enter N) cs stem here next
    pub pays : 1 + rest N later there then + spent cs ≡ rest N stem here next + spent ds

  -- the first pass has left the state
  pub record HasLeftAt (cs ds : List Colour) (stem : List Taken) : Type 0 where
    pub sized : length ds ≡ N.count
    pub closed : IsClosed N (colour_at ds)
    pub back : IsBack (colour_at ds) stem
    pub enters : total (to_enter N) 0 ds ≡ total (to_enter N) 0 cs

  module _ (stem : List Taken) (root past : ℕ) where
    -- all that is known between two looks of the second pass, from where the first one stands
    pub record IsProbedAt (cs : List Colour) (path : List Taken) (at next : ℕ) : Type 0 where
      pub sized : length cs ≡ N.count
      pub explored : IsExplored N (colour_at cs) stem root past
      pub probed : IsProbed N (colour_at cs) root path at next

    -- a look of the second pass leads on, and is paid for
    pub record IsProbedOn (cs : List Colour) (path : List Taken) (at next : ℕ) (ds : List Colour) (later : List Taken) (there then : ℕ) : Type 0 where
      pub stands : IsProbedAt ds later there then
      pub falls : work (to_mark N) ds later there then < work (to_mark N) cs path at next
      pub pays : 1 + rest N later there then + spent cs ≡ rest N path at next + spent ds
      pub enters : total (to_enter N) 0 ds ≡ total (to_enter N) 0 cs

    -- it has ended, and marked what was left of all that the state leads to
    pub record HasProbedAt (cs ds : List Colour) : Type 0 where
      pub stands : IsAt ds stem root past
      pub leads : IsMarkedTo N (colour_at ds) root (N.pairs root)
      pub turnless : Cycles N root → ⊥
      pub enters : total (to_enter N) 0 ds ≡ total (to_enter N) 0 cs

-- ---- the same, of the values of the code
-- the step before is taken back
abbrev pub IsPopped : {A : Type 0} → DfsPath A → DfsPath A → Type 0
IsPopped old new = (t : Taken) × (old.stem.items ≡ new.stem.items ++ t ∷ []) × (new.here ≡ t.state) × (new.next ≡ t.pick + 1)

abbrev pub HasRooms : {A : Type 0} → DfsPath A → Type 0
HasRooms dfs_path = Each (λ t. t.pick + 1 < 2 ^ 64) dfs_path.stem.items

module _ (N : Net) where
  -- a look is left to the pass
  abbrev pub HasMore : {A : Type 0} → DfsPath A → Type 0
  HasMore dfs_path = (dfs_path.next < N.pairs dfs_path.here) × (dfs_path.next + 1 < 2 ^ 64)

  abbrev pub IsDone : {A : Type 0} → DfsPath A → Type 0
  IsDone dfs_path = N.pairs dfs_path.here ≤ dfs_path.next

  abbrev pub rest_of : {A : Type 0} → DfsPath A → ℕ
  rest_of dfs_path = rest N dfs_path.stem.items dfs_path.here dfs_path.next

  -- ---- the first pass
  abbrev pub StandsAt : {A : Type 0} → List Colour → DfsPath A → Type 0
  StandsAt cs dfs_path = IsAt N cs dfs_path.stem.items dfs_path.here dfs_path.next

  abbrev pub IsSearching : {A : Type 0} → Search A → Type 0
  IsSearching s = StandsAt s.colours.items s.dfs_path

  abbrev pub IsLookOn : {A : Type 0} → Search A → Search A → Type 0
  IsLookOn old new = IsOn N old.colours.items old.dfs_path.stem.items old.dfs_path.here old.dfs_path.next new.colours.items new.dfs_path.stem.items new.dfs_path.here new.dfs_path.next

  abbrev pub HasLeft : {A : Type 0} → Search A → Search A → Type 0
  HasLeft old new = (new.dfs_path ≡ old.dfs_path) × HasLeftAt N old.colours.items new.colours.items new.dfs_path.stem.items

  -- ---- the second pass
  abbrev pub IsProbing : {A : Type 0} → List Colour → DfsPath A → DfsPath A → Type 0
  IsProbing cs first path = IsProbedAt N first.stem.items first.here first.next cs path.stem.items path.here path.next

  abbrev pub IsProbeOn : {A : Type 0} → DfsPath A → List Colour → DfsPath A → List Colour → DfsPath A → Type 0
  IsProbeOn first cs old ds new = IsProbedOn N first.stem.items first.here first.next cs old.stem.items old.here old.next ds new.stem.items new.here new.next

  abbrev pub HasProbed : {A : Type 0} → List Colour → List Colour → DfsPath A → Type 0
  HasProbed cs ds first = HasProbedAt N first.stem.items first.here first.next cs ds

  -- an open state was met at its place on the stem
  abbrev pub HasMet : {A : Type 0} → DfsPath A → DfsPath A → Met → Type 0
  HasMet first path m =
      (m.place ≤ length first.stem.items) × IsMet N (take m.place first.stem.items) (drop m.place first.stem.items) first.here path.stem.items m.taken
