-- The options of a translation as a pair of truth values.
use Rattle.std.specs.Prelude.{Bool, refl}
use Rattle.std.specs.Coded.{Coded, code_by, coded×, coded_bool}
use Rattle.ltl_spec.specs.Construction.Translation.{Options}

abbrev pub options_code : Coded Options
options_code = code_by (Bool × Bool) (coded× coded_bool coded_bool) (λ o. (o.keep_implied, o.keep_equal)) (λ p. record { keep_implied = p.0; keep_equal = p.1 }) (λ _. refl)
