-- Blocks of items, by the columns of the elements that they need and lack.
use Rattle.std.specs.Prelude.{◌≡◌, ℕ, ◌+◌, ◌*◌, ◌<◌, ◌≤◌, Bool, true, false, List, [], length, take, drop, Some, slice_get, slice_index_or}
use Rattle.std.specs.List.{list_any}
use Rattle.ltl_spec.specs.Collections.Sets.{Has}
use Rattle.least.specs.Columns.{ColumnTable, column_at}
use Rattle.least.specs.declared.common.Common.{Common}

-- the columns of the elements of one kind
pub record KindView : Type 0 where
  pub needs : ColumnTable
  pub lacks : ColumnTable

-- the indices of all items of a block, and the columns of each kind
pub record BlockView : Type 0 where
  pub all : List ℕ
  pub kinds : List KindView

-- the part of a list with this number
abbrev pub part_at : {X : Type 0} → ℕ → List X → List X
part_at n xs = take 256 (drop (256 * n) xs)

-- the number of parts of a list of n items
pub record IsPartCount (n count : ℕ) : Type 0 where
  pub cover : n ≤ 256 * count
  pub tight : (k : ℕ) → k < count → 256 * k < n

-- one value for each part of a list
pub record ArePartsOf {U V : Type 0} (R : List U → V → Type 0) (us : List U) (vs : List V) : Type 0 where
  pub cover : length us ≤ 256 * length vs
  pub tight : (n : ℕ) → n < length vs → 256 * n < length us
  pub each : (n : ℕ) (v : V) → slice_get vs n ≡ Some v → R (part_at n us) v

-- each item in the column of an element needs it
abbrev pub AreNeeds : {U : Type 0} → (U → ℕ → List ℕ) → List U → ℕ → ColumnTable → Type 0
AreNeeds {U} needs us k c = (e j : ℕ) (u : U) → slice_get us j ≡ Some u → Has (column_at c e) j → Has (needs u k) e

-- each item in the column of an element lacks it
abbrev pub AreLacks : {U : Type 0} → (U → ℕ → ℕ → Bool) → List U → ℕ → ColumnTable → Type 0
AreLacks {U} lacking us k c = (e j : ℕ) (u : U) → slice_get us j ≡ Some u → Has (column_at c e) j → lacking u k e ≡ true

pub record IsKindOf {U : Type 0} (needs : U → ℕ → List ℕ) (lacking : U → ℕ → ℕ → Bool) (us : List U) (k : ℕ) (v : KindView) : Type 0 where
  pub needed : AreNeeds needs us k v.needs
  pub lacked : AreLacks lacking us k v.lacks

-- the indices of the first n numbers
abbrev pub AreAllBelow : ℕ → List ℕ → Type 0
AreAllBelow n all = (j : ℕ) → j < n → Has all j

pub record IsBlockOf {U : Type 0} (needs : U → ℕ → List ℕ) (lacking : U → ℕ → ℕ → Bool) (us : List U) (b : BlockView) : Type 0 where
  pub all : AreAllBelow (length us) b.all
  pub each : (k : ℕ) (v : KindView) → slice_get b.kinds k ≡ Some v → IsKindOf needs lacking us k v

-- the index stays in a set: it isn't in the columns of needed elements that these don't have, nor in those of lacked elements that are asked for
pub record StaysIn (needs asks : List ℕ) (v : KindView) (j : ℕ) : Type 0 where
  pub needed : (e : ℕ) → Has (column_at v.needs e) j → Has needs e
  pub lacked : (e : ℕ) → Has (column_at v.lacks e) j → Has asks e → ⊥

-- the index of a block stays for each kind
pub record IsCandidate (needs asks : ℕ → List ℕ) (b : BlockView) (j : ℕ) : Type 0 where
  pub inside : Has b.all j
  pub stays : (k : ℕ) (v : KindView) → slice_get b.kinds k ≡ Some v → StaysIn (needs k) (asks k) v j

abbrev pub HasCandidates : (ℕ → List ℕ) → (ℕ → List ℕ) → BlockView → List ℕ → Type 0
HasCandidates needs asks b left = (j : ℕ) → IsCandidate needs asks b j → Has left j

-- those of a set that are in no column of these elements are left
abbrev pub AreLeft : List ℕ → ColumnTable → List ℕ → List ℕ → Type 0
AreLeft all c es left = (j : ℕ) → Has all j → ((e : ℕ) → Has es e → Has (column_at c e) j → ⊥) → Has left j

-- those of a set that stay are left
abbrev pub AreStaying : List ℕ → List ℕ → List ℕ → KindView → List ℕ → Type 0
AreStaying all needs asks v left = (j : ℕ) → Has all j → StaysIn needs asks v j → Has left j

-- ---- what all items of a block need

abbrev pub needs_common : Common → ℕ → List ℕ
needs_common c k = slice_index_or c.kinds k []

abbrev pub lacks_common : Common → ℕ → ℕ → Bool
lacks_common c k e = false

-- each element of the set is needed by the item
abbrev pub IsNeeded : {U : Type 0} → (U → ℕ → List ℕ) → ℕ → List ℕ → U → Type 0
IsNeeded needs k es u = (e : ℕ) → Has es e → Has (needs u k) e

-- each item needs what is common to them
abbrev pub IsCommonOf : {U : Type 0} → (U → ℕ → List ℕ) → List U → Common → Type 0
IsCommonOf {U} needs us c = (k j : ℕ) (u : U) → slice_get us j ≡ Some u → IsNeeded needs k (needs_common c k) u

-- ---- lookups

abbrev pub AreBlocks : {U : Type 0} → (U → ℕ → List ℕ) → (U → ℕ → ℕ → Bool) → List U → List BlockView → Type 0
AreBlocks needs lacking us bs = ArePartsOf (IsBlockOf needs lacking) us bs

-- the upper blocks are those of what is common to the items of each block
pub record AreUppers {U : Type 0} (needs : U → ℕ → List ℕ) (us : List U) (bs : List BlockView) : Type 0 where
  pub commons : List Common
  pub parts : ArePartsOf (IsCommonOf needs) us commons
  pub blocks : AreBlocks needs_common lacks_common commons bs

-- blocks, and upper blocks, where there are any
pub record IsIndexed {U : Type 0} (needs : U → ℕ → List ℕ) (lacking : U → ℕ → ℕ → Bool) (us : List U) (blocks uppers : List BlockView) : Type 0 where
  pub lower : 0 < length blocks → AreBlocks needs lacking us blocks
  pub upper : 0 < length uppers → AreUppers needs us uppers

-- none of the 256 parts of this number has an item that passes
abbrev pub AreClear : {U : Type 0} → (U → Bool) → List U → ℕ → Type 0
AreClear p us s = (b : ℕ) → b < 256 → list_any p (part_at (256 * s + b) us) ≡ false
