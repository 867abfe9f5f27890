-- The tokens of a never claim's text with their places, and with what the messages need to know of them.
use Rattle.std.specs.Prelude.{ℕ, zero, suc, ◌+◌, ◌-◌, Bool, true, false, ◌||◌, ◌==◌, nat_eq, if◌then◌else◌, List, [], ◌∷◌, ◌++◌, map, codes}
use Rattle.std.specs.List.{starts_with}
use Rattle.ltl_spec.specs.Claims.ClaimTokens.{ClaimToken, NotSign, Separator, Foreign, Colon, is_word_byte, first_found}

-- `Arrow` is the separator `->`, `Known` what Promela has and no claim, and `Broken` what has no end or begins no token
pub data Tell : Type 0 where
  Plain Arrow Known Broken : Tell

-- a token, and the offset of its first byte
pub record ClaimItem : Type 0 where
  pub token : ClaimToken
  pub tell : Tell
  pub at : ℕ

-- the bytes with which the other signs of Promela begin: `[]<>+*/%&|^~?@.,=#"'-`
abbrev pub begins_sign : ℕ → Bool
begins_sign b =
    b == 91 || b == 93 || b == 60 || b == 62 || b == 43 || b == 42 || b == 47 || b == 37 || b == 38 || b == 124 || b == 94 || b == 126 || b == 63 || b == 64 || b == 46 || b == 44
    || b == 61 || b == 35 || b == 34 || b == 39 || b == 45

-- of the token that a text begins with. A `!` before a `=` is no operator, but begins another sign
abbrev pub tell_of : ℕ → List ℕ → ClaimToken → Tell
tell_of b bs Foreign = if starts_with nat_eq (b ∷ bs) (codes "/*") then Broken else if is_word_byte b || begins_sign b then Known else Broken
tell_of b bs NotSign = if starts_with nat_eq bs (codes "=") then Known else Plain
tell_of b bs Separator = if b == 45 then Arrow else Plain
tell_of b bs t = Plain

abbrev pub item_at : ℕ → ℕ → List ℕ → ClaimToken → ClaimItem
item_at at b bs t = record { token = t; tell = tell_of b bs t; at = at }

-- the items of the bytes from an offset on, of which the first `skip` belong to what came before
abbrev pub claim_items_from : ℕ → ℕ → List ℕ → List ClaimItem
claim_items_from skip at [] = []
claim_items_from (suc skip) at (b ∷ bs) = claim_items_from skip (at + 1) bs
claim_items_from zero at (b ∷ bs) = let (tokens, size) = first_found b bs in map (item_at at b bs) tokens ++ claim_items_from (size - 1) (at + 1) bs

-- the items of a text
abbrev pub claim_items : List ℕ → List ClaimItem
claim_items text = claim_items_from 0 0 text

abbrev pub colon_next : List ClaimItem → Bool
colon_next [] = false
colon_next (i ∷ is) = elim i.token [ Colon ↦ true | _ ↦ false ]
