use Rattle.std.proofs.Common.{◌≡◌, ℕ, zero, suc, ◌<◌, List, [], ◌∷◌, inl, inr, arith, length, refl, slice_index_or}
use Rattle.ltl_spec.specs.Collections.Sets.{Has}
use Rattle.ltl_alt.proofs.components.Components.has_more_joins.Goals as goal

index_there : (xs : List ℕ) (i d : ℕ) → i < length xs → Has xs (slice_index_or xs i d)
index_there [] i d h = absurd (omega (arith, h))
index_there (x ∷ xs) zero d h = inl refl
index_there (x ∷ xs) (suc i) d h = inr (index_there xs i d (omega (arith, h)))

pub ways-requires : goal.ways-requires
ways-requires g c =
    let ns = c.args.lists.now in
    let test = c.if-lists-ne2.false in
    let two : length ns ≡ 2 = omega arith in
    record {
      within = (c.requires.within _ (index_there ns 0 0 (omega (arith, two))), c.requires.within _ (index_there ns 1 0 (omega (arith, two))));
    }
