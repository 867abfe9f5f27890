-- The value of digits, up to a bound above every count.
use Rattle.std.specs.Prelude.{ℕ, min}
use Rattle.ltl_spec.specs.Hoa.HoaToken.{HoaToken, Int}

abbrev pub capped : ℕ → ℕ
capped n = min n 4_294_967_295

abbrev pub capped_token : HoaToken → HoaToken
capped_token (Int n) = Int (capped n)
capped_token t = t
