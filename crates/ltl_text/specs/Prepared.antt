-- The texts of literals that are prepared for copying.
use Rattle.std.specs.Prelude.{◌≡◌, ℕ, ◌<◌, ◌≤◌, min, true, false, List, length, take, slice_index_or}
use Rattle.ltl_spec.specs.Semantics.Word.{Name}
use Rattle.ltl_spec.specs.Automata.ClaimText.{literal_text}
use Rattle.ltl_text.specs.declared.literal_texts.ShortText.{ShortText}
use Rattle.ltl_text.specs.declared.literal_texts.Signed.{Signed}

-- the length is that of this text; if it is at most 16, the bytes begin with the text
pub record IsPrepared (t : ShortText) (text : List ℕ) : Type 0 where
  pub len : t.len ≡ length text
  pub bytes : t.len ≤ 16 → take t.len t.bytes ≡ text

-- these are the texts of the two literals of the proposition
pub record AreLiterals (names : List Name) (proposition : ℕ) (s : Signed) : Type 0 where
  pub positive : IsPrepared s.positive (literal_text names (record { proposition = proposition; positive = true }))
  pub negative : IsPrepared s.negative (literal_text names (record { proposition = proposition; positive = false }))

-- these are the texts of the first 256 propositions, or of all if there are fewer
pub record ArePrepared (names : List Name) (texts : List Signed) : Type 0 where
  pub count : length texts ≡ min 256 (length names)
  pub literals : (p : ℕ) (d : Signed) → p < length texts → AreLiterals names p (slice_index_or texts p d)
