-- What is left to lex.
use Rattle.std.specs.Prelude.{◌≡◌, ℕ, ◌||◌, nat_eq, slice_index, take_while, if◌then◌else◌, List, [], ◌∷◌, drop, take, length, find, Option, Some, None, option_map, unwrap_or}
use Rattle.std.specs.List.{starts_with}
use Rattle.ltl_spec.specs.Hoa.HoaToken.{is_digit, begins_identifier}
use Rattle.ltl_spec.specs.Claims.ClaimTokens as spec
use Rattle.ltl_claim.specs.declared.token.TokenKind.{TokenKind}
use Rattle.ltl_claim.specs.declared.token.Token.{Token}
use Rattle.ltl_claim.specs.ClaimItems.{ClaimItem, claim_items_from}
use Rattle.ltl_claim.specs.ClaimItems as items
use Rattle.ltl_claim.specs.TokenView.{foreign_tell, item_of, token_of, tell_of}

-- the items of a text from a place on
abbrev pub items_at : List ℕ → ℕ → List ClaimItem
items_at text at = claim_items_from 0 at (drop at text)

-- a text's first token, and its length
abbrev pub first_of : List ℕ → List spec.ClaimToken × ℕ
first_of [] = ([], 1)
first_of (b ∷ bs) = spec.first_found b bs

abbrev pub tell_first : List ℕ → spec.ClaimToken → items.Tell
tell_first [] t = items.Plain
tell_first (b ∷ bs) t = items.tell_of b bs t

-- the code's first token of a text
abbrev pub AreFound : List ℕ → Option TokenKind → ℕ → Type 0
AreFound text None size = first_of text ≡ ([], size)
AreFound text (Some kind) size = (first_of text ≡ (token_of (take size text) kind ∷ [], size)) × (tell_first text (token_of (take size text) kind) ≡ tell_of kind)

-- one token is taken, or none is left
abbrev pub GivesToken : List ClaimItem → Option Token → List ClaimItem → Type 0
GivesToken old None new = old ≡ []
GivesToken old (Some token) new = old ≡ item_of token ∷ new

-- the sign and the length of these two bytes
abbrev pub sign_of : ℕ → ℕ → spec.ClaimToken × ℕ
sign_of b c = unwrap_or (option_map (λ s. (s.1, length s.0)) (find (λ s. starts_with nat_eq (b ∷ c ∷ []) s.0) spec.claim_signs)) (spec.Foreign, 1)

-- of a sign that is no comment
abbrev pub sign_tell : ℕ → ℕ → spec.ClaimToken → items.Tell
sign_tell b c spec.Foreign = if items.begins_sign b then items.Known else items.Broken
sign_tell b c t = items.tell_of b (c ∷ []) t

abbrev pub tell_sign : ℕ → ℕ → items.Tell
tell_sign b c = sign_tell b c (sign_of b c).0

-- the word, number or sign that a text begins with, and its length
abbrev pub visible_first : ℕ → List ℕ → spec.ClaimToken × ℕ
visible_first b bs =
    let text = b ∷ bs in
    let word = take_while spec.is_word_byte text in
    let digits = take_while is_digit text in
    if is_digit b then (spec.listed_or spec.Foreign digits, length digits) else
    if begins_identifier b then (spec.listed_or (if spec.is_promela_word word then spec.Foreign else spec.Word word) word, length word) else sign_of b (slice_index bs 0)

abbrev pub visible_of : List ℕ → spec.ClaimToken × ℕ
visible_of [] = (spec.Foreign, 1)
visible_of (b ∷ bs) = visible_first b bs

abbrev pub visible_tell : List ℕ → items.Tell
visible_tell [] = items.Broken
visible_tell (b ∷ bs) = if is_digit b || begins_identifier b then foreign_tell (visible_first b bs).0 else tell_sign b (slice_index bs 0)
