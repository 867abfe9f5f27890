-- Lookups of an item below a given one.
use Rattle.std.specs.Prelude.{Bool, ◌&&◌, List}
use Rattle.std.specs.List.{list_any}

-- u is below t and counts
abbrev pub is_found : {T : Type 0} → (T → T → Bool) → (T → T → Bool) → T → T → Bool
is_found below counts t u = counts u t && below u t

-- one of the list is below t and counts
abbrev pub is_above : {T : Type 0} → (T → T → Bool) → (T → T → Bool) → List T → T → Bool
is_above below counts ts t = list_any (is_found below counts t) ts
