use Rattle.std.proofs.Common.{◌≡◌, take}
use Rattle.ltl_spec.specs.Hoa.HoaToken.{number_of}
use Rattle.ltl_hoa.specs.NumberView.{capped}
use Rattle.ltl_hoa.proofs.number.number.Given as goal

abbrev pub invariant-digits : goal.invariant-digits
invariant-digits l = l.number ≡ capped (number_of (take l.digit-index l.digits))
