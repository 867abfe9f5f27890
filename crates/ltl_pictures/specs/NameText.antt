-- The text of a name within the quotes of the DOT language.
use Rattle.std.specs.Prelude.{ℕ, zero, suc, Bool, ◌&&◌, ◌||◌, ◌==◌, nat_lt, if◌then◌else◌, List, [], ◌∷◌, ◌++◌, length, take, flat_map, slice_index_or, codes}

-- whether a byte is a continuation byte of UTF-8
abbrev pub is_continuation : ℕ → Bool
is_continuation b = nat_lt 127 b && nat_lt b 192

-- where the character begins that has the byte at this place
unfoldable pub character_start : List ℕ → ℕ → ℕ
character_start text zero = zero
character_start text (suc k) = if is_continuation (slice_index_or text (suc k) 0) then character_start text k else suc k

-- at most 80 bytes: of a longer text the characters before the one that has byte 77, and three dots
abbrev pub shortened : List ℕ → List ℕ
shortened text = if nat_lt 80 (length text) then take (character_start text 77) text ++ codes "..." else text

-- a byte: a quote or a backslash gets a backslash before it, `&` is the entity for it, and a control character is a blank
abbrev pub shown_byte : ℕ → List ℕ
shown_byte b = if b == 34 || b == 92 then 92 ∷ b ∷ [] else if b == 38 then codes "&amp;" else if nat_lt b 32 || b == 127 then codes " " else b ∷ []

abbrev pub name_text : List ℕ → List ℕ
name_text name = flat_map shown_byte (shortened name)
