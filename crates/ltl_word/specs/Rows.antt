-- Bit vectors with one bit for each position of a word.
use Rattle.std.specs.Prelude.{◌≡◌, ℕ, zero, suc, ◌≤◌, ◌+◌, ◌-◌, ◌/◌, ◌%◌, ◌<◌, Bool, true, not, ◌&&◌, ◌||◌, if◌then◌else◌, nat_eq, nat_lt, List, length, slice_index, Option, Some, None}
use Rattle.std.specs.Bool.{Decides, beq}
use Rattle.std.specs.Int.{bit_at}
use Rattle.ltl_word.specs.declared.machine_word.Junction.{Junction}
use Rattle.ltl_word.specs.declared.machine_word.Junction.TheVariants.{And, Or, Implies, Iff}

-- bit k of a word
abbrev pub is_set : ℕ → ℕ → Bool
is_set word k = nat_eq (bit_at word k) 1

-- bit i of words
abbrev pub bit_of : List ℕ → ℕ → Bool
bit_of words i = is_set (slice_index words (i / 64)) (i % 64)

-- what a junction makes of two truth values
abbrev pub joined : Junction → Bool → Bool → Bool
joined And s t = s && t
joined Or s t = s || t
joined Implies s t = not s || t
joined Iff s t = beq s t

-- there is a bit for each of so many positions, and it says whether the property holds there
pub record IsRow (count : ℕ) (P : ℕ → Type 0) (bits : List ℕ) : Type 0 where
  pub long : length bits ≡ count / 64 + 1
  pub decides : (i : ℕ) → i < count → Decides (bit_of bits i) (P i)

-- the position after i, of so many with a stem of that length
abbrev pub step_of : ℕ → ℕ → ℕ → ℕ
step_of stem count i = if nat_lt (i + 1) count then i + 1 else stem

-- the bit, or its opposite
abbrev pub turned : Bool → Bool → Bool
turned negated t = not (beq t negated)

abbrev pub right_at : Bool → List ℕ → ℕ → Bool
right_at negated bits i = turned negated (bit_of bits i)

abbrev pub left_at : Bool → Option (List ℕ) → ℕ → Bool
left_at negated None i = true
left_at negated (Some bits) i = turned negated (bit_of bits i)

module _ (left right : ℕ → Bool) where
  -- the value at position i, where k positions are gone over and this is the value behind them
  abbrev pub back : ℕ → ℕ → Bool → Bool
  back zero i later = later
  back (suc k) i later = right i || left i && back k (i + 1) later

-- the word has the values of f at 64 positions
abbrev pub IsWordOf : (ℕ → Bool) → ℕ → ℕ → Type 0
IsWordOf f start word = (j : ℕ) → j < 64 → is_set word j ≡ f (start + j)

-- the word has what is found from each of 64 positions on, as far as there are so many and a value behind them
abbrev pub IsBackWord : (ℕ → Bool) → (ℕ → Bool) → ℕ → Bool → ℕ → ℕ → Type 0
IsBackWord left right count later start word = (j : ℕ) → j < 64 → start + j ≤ count → is_set word j ≡ back left right (count - (start + j)) (start + j) later

-- the bits, or their opposites, are what is found from each of so many positions on
abbrev pub IsBackRow : Bool → (ℕ → Bool) → (ℕ → Bool) → ℕ → Bool → List ℕ → Type 0
IsBackRow negated left right count later bits =
    (length bits ≡ count / 64 + 1)
    × ((i : ℕ) → i < count → turned negated (bit_of bits i) ≡ back left right (count - i) i later)

-- the bits from i on are these, of so many
pub record IsRowFrom (f : ℕ → Bool) (i count : ℕ) (bits : List ℕ) : Type 0 where
  pub long : length bits ≡ count / 64 + 1
  pub done : (j : ℕ) → i ≤ j → j < count → bit_of bits j ≡ f j
