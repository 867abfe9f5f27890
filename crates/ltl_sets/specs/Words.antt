-- Bit sets of LIMIT bits in four words of 64, and the sets and cubes that they stand for.
use Rattle.std.specs.Prelude.{◌≡◌, ℕ, ◌≤◌, ◌≢◌, ◌&&◌, not, Option, MatchOption, zero, suc, ◌+◌, ◌*◌, ◌/◌, ◌%◌, ◌^◌, ◌<◌, Bool, true, false, cond, nat_eq, List, [], ◌∷◌, length, map, slice_index}
use Rattle.std.specs.Int.{bit_at}
use Rattle.std.specs.Hash.{le_bytes}
use Rattle.std.specs.List.{filter, range_with_len}
use Rattle.std.specs.Ordering.{nat_cmp}
use Rattle.ltl_spec.specs.Collections.Sets.{has}
use Rattle.ltl_spec.specs.Transitions.Cubes.{Literal, literal_cmp, Cube}
use Rattle.ltl_sets.specs.declared.row_set.TheConstants.RowSet.{LIMIT, WORDS}

-- four words
pub record IsWords (words : List ℕ) : Type 0 where
  pub long : length words ≡ WORDS
  pub fit : (k : ℕ) → slice_index words k < 2 ^ 64

-- whether bit i is a one
abbrev pub bit_in : List ℕ → ℕ → Bool
bit_in words i = nat_eq (bit_at (slice_index words (i / 64)) (i % 64)) 1

-- no bit is a one
abbrev pub HasNone : List ℕ → Type 0
HasNone words = (i : ℕ) → i < LIMIT → bit_in words i ≡ false

-- some bit at i or above it is a one
abbrev pub Reaches : List ℕ → ℕ → Type 0
Reaches words i = (j : ℕ) × (i ≤ j) × (j < LIMIT) × (bit_in words j ≡ true)

-- some word after the given one is not zero
abbrev pub HasLater : List ℕ → ℕ → Type 0
HasLater words a = (k : ℕ) × (a < k) × (k < WORDS) × (slice_index words k ≢ 0)

-- word k of the words whose only one is bit i
abbrev pub word_alone : ℕ → ℕ → ℕ
word_alone i k = cond (nat_eq (i / 64) k) (2 ^ (i % 64)) 0

-- the words before this one are zeros
abbrev pub AreZerosBelow : List ℕ → ℕ → Type 0
AreZerosBelow words at = (k : ℕ) → k < at → slice_index words k ≡ 0

-- bit i is the lowest one
pub record IsLowest (words : List ℕ) (i : ℕ) : Type 0 where
  pub below : i < LIMIT
  pub one : bit_in words i ≡ true
  pub zeros : (j : ℕ) → j < i → bit_in words j ≡ false

-- the lowest one, if there is one
abbrev pub FindsLowest : List ℕ → Option ℕ → Type 0
FindsLowest words r = MatchOption r (HasNone words) (λ i. IsLowest words i)

-- the same bits but for bit i, which is a zero
abbrev pub LosesBit : List ℕ → ℕ → List ℕ → Type 0
LosesBit words i rest = (j : ℕ) → j < LIMIT → bit_in rest j ≡ (bit_in words j && not (nat_eq j i))

-- the number of k bits whose ones are those that pass
unfoldable pub number : ℕ → (ℕ → Bool) → ℕ
number zero p = 0
number (suc k) p = cond (p 0) 1 0 + 2 * number k (λ i. p (suc i))

-- the words whose ones are those that pass
unfoldable pub words_of : (ℕ → Bool) → List ℕ
words_of p = map (λ k. number 64 (λ j. p (64 * k + j))) (range_with_len 0 WORDS)

-- the numbers of bits
unfoldable pub places : List ℕ
places = range_with_len 0 LIMIT

-- the numbers of the ones
unfoldable pub members : List ℕ → List ℕ
members words = filter (bit_in words) places

-- the words that have the members of a list as their ones
abbrev pub words_with : List ℕ → List ℕ
words_with is = words_of (λ i. has nat_cmp i is)

-- the literals of n propositions from a on
abbrev pub literals_from : ℕ → ℕ → List Literal
literals_from a zero = []
literals_from a (suc n) = record { proposition = a; positive = true } ∷ record { proposition = a; positive = false } ∷ literals_from (a + 1) n

unfoldable pub signed_places : List Literal
signed_places = literals_from 0 LIMIT

-- whether the literal is among those whose positive and negative ones are these bits
abbrev pub literal_in : List ℕ → List ℕ → Literal → Bool
literal_in positive negative l = cond l.positive (bit_in positive l.proposition) (bit_in negative l.proposition)

unfoldable pub literals : List ℕ → List ℕ → Cube
literals positive negative = filter (literal_in positive negative) signed_places

-- the words that have the positive or the negative literals of a list as their ones
abbrev pub words_with_literals : Bool → List Literal → List ℕ
words_with_literals s ls = words_of (λ i. has literal_cmp (record { proposition = i; positive = s }) ls)

-- no place is a one in both
abbrev pub AreDisjoint : List ℕ → List ℕ → Type 0
AreDisjoint positive negative = (i : ℕ) → i < LIMIT → (bit_in positive i && bit_in negative i) ≡ false

-- the positive and the negative words of a cube
pub record IsCubeWords (positive negative : List ℕ) : Type 0 where
  pub positive_words : IsWords positive
  pub negative_words : IsWords negative
  pub disjoint : AreDisjoint positive negative

-- the propositions of the positive literals
abbrev pub letter_of : Cube → List ℕ
letter_of c = map (λ l. l.proposition) (filter (λ l. l.positive) c)

-- the propositions of the negative ones
abbrev pub forbidden_of : Cube → List ℕ
forbidden_of c = map (λ l. l.proposition) (filter (λ l. not l.positive) c)

-- four words in one number below 2 ^ 64, by which they are told apart mostly
abbrev pub mixed : List ℕ → ℕ
mixed words =
    let low = (slice_index words 0 * 11400714819323198485 % 2 ^ 64 + slice_index words 1 * 14029467366897019727 % 2 ^ 64) % 2 ^ 64 in
    let high = (slice_index words 2 * 1609587929392839161 % 2 ^ 64 + slice_index words 3 * 9650029242287828579 % 2 ^ 64) % 2 ^ 64 in
    (low + high) % 2 ^ 64

-- what hashing four words feeds a hasher
abbrev pub hash_of : List ℕ → List (List ℕ)
hash_of words = le_bytes 8 (mixed words) ∷ []
