-- The conjuncts of all elementary rows, and the graph of their dependencies.
use Rattle.std.specs.Prelude.{◌≡◌, ℕ, ◌+◌, ◌<◌, ◌≤◌, ◌⊎◌, Bool, true, false, List, [], ◌∷◌, ◌++◌, length, map, slice_index_or, nat_eq}
use Rattle.std.specs.Ordering.{nat_cmp}
use Rattle.ltl_spec.specs.Collections.Sets.{Has, has}
use Rattle.ltl_spec.specs.Collections.Lists.{places_where}
use Rattle.ltl_spec.specs.Transitions.Pairs.{RowSet, Pair}
use Rattle.ltl_spec.specs.Transitions.RowTransitions.{Table, pairs_at}
use Rattle.ltl_spec.proofs.Transitions.IndependenceTests.{no_support, is_independent}
use Rattle.ltl_spec.proofs.Transitions.ConjunctJoins.{join_of}
use Rattle.ltl_spec.proofs.Transitions.SameJoins.{AreSound}
use Rattle.ltl_alt.specs.declared.conjunct_table.ConjunctTable.{ConjunctTable}
use Rattle.ltl_alt.specs.declared.support.Dependencies.{Dependencies}
use Rattle.ltl_alt.specs.declared.rule.Rule.{Rule}
use Rattle.ltl_alt.specs.SupportView.{AreDependencies}
use Rattle.ltl_alt.specs.StandIns.{IsKeptBy, StandsFor}
use Rattle.ltl_alt.specs.TransitionView.{table_at}
use Rattle.ltl_formula.specs.TableView.{TableView}

-- the pairs, the dependencies and the links of the conjunct with this number
abbrev pub conjunct_of : List (List Pair) → ℕ → List Pair
conjunct_of lists k = slice_index_or lists k []

abbrev pub dependency_of : List Dependencies → ℕ → Dependencies
dependency_of dependencies k = slice_index_or dependencies k (record { support = no_support; fulfilling = no_support })

abbrev pub links_of : List RowSet → ℕ → RowSet
links_of links k = slice_index_or links k []

-- the test finds that two conjuncts are independent
abbrev pub tells_independent : Dependencies → Dependencies → Bool
tells_independent d e = is_independent d.support d.fulfilling e.support e.fulfilling

-- the numbers of the conjuncts of the row at a place, and of the rows of a set
abbrev pub numbers_of : List ℕ → ℕ → List ℕ
numbers_of owners i = places_where (λ o. nat_eq o i) owners

abbrev pub numbers_in : List ℕ → RowSet → RowSet
numbers_in owners state = places_where (λ o. has nat_cmp o state) owners

-- a conjunct was linked with each of the first k of which it isn't independent
pub record IsLinked (dependencies : List Dependencies) (d : Dependencies) (n k : ℕ) (old new : List RowSet) (own : RowSet) : Type 0 where
  pub count : length new ≡ length old
  pub kept : (i j : ℕ) → has nat_cmp j (links_of new i) ≡ false → has nat_cmp j (links_of old i) ≡ false
  pub told : (i : ℕ) → i < k → has nat_cmp n (links_of new i) ≡ false → tells_independent d (dependency_of dependencies i) ≡ true
  pub own_told : (i : ℕ) → i < k → has nat_cmp i own ≡ false → tells_independent d (dependency_of dependencies i) ≡ true
  pub itself : has nat_cmp n own ≡ true

-- conjuncts that aren't linked are independent
pub record AreLinked (T : Table) (lists : List (List Pair)) (dependencies : List Dependencies) (links : List RowSet) : Type 0 where
  pub dependency_count : length dependencies ≡ length lists
  pub link_count : length links ≡ length lists
  pub sound : (k : ℕ) → AreSound (conjunct_of lists k)
  pub demanded : (k : ℕ) → k < length lists → AreDependencies T (conjunct_of lists k) (dependency_of dependencies k)
  pub linked : (i j : ℕ) → i < length lists → j < length lists → has nat_cmp j (links_of links i) ≡ false
      → (tells_independent (dependency_of dependencies i) (dependency_of dependencies j) ≡ true) ⊎ (tells_independent (dependency_of dependencies j) (dependency_of dependencies i) ≡ true)

-- these rows have been split into conjuncts
pub record AreMade (T : Table) (r : Rule) (made owners : List ℕ) (lists : List (List Pair)) : Type 0 where
  pub owner_count : length owners ≡ length lists
  pub owned : (o : ℕ) → Has owners o → Has made o
  pub few : length owners ≤ 256
  pub listed : (i : ℕ) → Has made i → IsKeptBy (StandsFor T r) (pairs_at T i) (join_of (conjunct_of lists) (numbers_of owners i))

-- the table is linked, and its rows are split
pub record IsConjunctTable (T : Table) (r : Rule) (made owners : List ℕ) (lists : List (List Pair)) (dependencies : List Dependencies) (links : List RowSet) : Type 0 where
  pub linked : AreLinked T lists dependencies links
  pub rows : AreMade T r made owners lists

abbrev pub HasConjuncts : {A : Type 0} → Table → Rule → ConjunctTable A → Type 0
HasConjuncts T r conjuncts = IsConjunctTable T r conjuncts.made conjuncts.owners.items conjuncts.lists.items conjuncts.dependencies.items conjuncts.links.items

-- all elementary rows of the table are split
abbrev pub HasAllParts : {A : Type 0} → TableView → Rule → ConjunctTable A → Type 0
HasAllParts t r conjuncts = HasConjuncts (table_at t) r conjuncts × ((i : ℕ) → i < length t.elementary → Has conjuncts.made i)

-- each row of a set has been split; one of its rows hasn't
abbrev pub HasEach : RowSet → RowSet → Type 0
HasEach made state = (i : ℕ) → Has state i → Has made i

abbrev pub HasNoConjunct : RowSet → RowSet → Type 0
HasNoConjunct made state = (i : ℕ) × Has state i × (Has made i → ⊥)

-- each of these lists has been pruned
abbrev pub AreKeptBy : (Pair → Pair → Type 0) → List (List Pair) → List (List Pair) → Type 0
AreKeptBy S [] [] = Unit {0}
AreKeptBy S [] (qs ∷ qss) = ⊥
AreKeptBy S (ps ∷ pss) [] = ⊥
AreKeptBy S (ps ∷ pss) (qs ∷ qss) = IsKeptBy S ps qs × AreKeptBy S pss qss

-- the pruned lists were appended, as conjuncts of the row at a place
pub record AreAdded (T : Table) (r : Rule) (place : ℕ) (pss : List (List Pair)) (owners new_owners : List ℕ) (lists new_lists : List (List Pair)) : Type 0 where
  pub conjuncts : List (List Pair)
  pub kept : AreKeptBy (StandsFor T r) pss conjuncts
  pub lists_are : new_lists ≡ lists ++ conjuncts
  pub owners_are : new_owners ≡ owners ++ map (λ (qs : List Pair). place) conjuncts

-- some conjuncts were appended
abbrev pub IsLonger : List (List Pair) → List (List Pair) → Type 0
IsLonger old new = (more : List (List Pair)) × (new ≡ old ++ more)

-- the row at a place may get `most` numbers
abbrev pub IsRoom : TableView → ℕ → ℕ → List (List Pair) → Type 0
IsRoom t place most lists = (place < length t.elementary) × (0 < most) × (length lists + most ≤ 256)

-- a connected component of the links: the one of the first conjunct within the rest
pub record IsComponent (links : List RowSet) (first : ℕ) (rest inside : RowSet) : Type 0 where
  pub there : Has inside first
  pub some : (i : ℕ) → Has inside i → Has rest i
  pub closed : (i : ℕ) → Has inside i → (j : ℕ) → Has rest j → Has (links_of links i) j → Has inside j
