-- What an item of the tests lacks of a set of numbers.
use Rattle.std.proofs.Common.{◌≡◌, ◌∙◌, ℕ, true, false, ◌&&◌, nat_eq, List, [], ◌∷◌, refl, sym, ap}
use Rattle.std.specs.List.{filter}
use Rattle.std.specs.Ordering.{nat_cmp}
use Rattle.ltl_spec.specs.Collections.Sets.{has}
use Rattle.sets_tests.specs.declared.items.Item.{Item}
use Rattle.sets_tests.specs.Items.{is_lacked}

pub lacks_first : (a : Item) (kind : ℕ) (of : List ℕ) → nat_eq kind 0 ≡ true → filter (λ e. has nat_cmp e a.lacks) of ≡ filter (is_lacked a kind) of
lacks_first a kind of h = ap (λ b. filter (λ e. b && has nat_cmp e a.lacks) of) (sym h)

none_lacked : (of : List ℕ) → [] ≡ filter (λ e. false) of
none_lacked [] = refl
none_lacked (e ∷ of) = none_lacked of

pub lacks_none : (a : Item) (kind : ℕ) (of : List ℕ) → nat_eq kind 0 ≡ false → [] ≡ filter (is_lacked a kind) of
lacks_none a kind of h = none_lacked of ∙ ap (λ b. filter (λ e. b && has nat_cmp e a.lacks) of) (sym h)
