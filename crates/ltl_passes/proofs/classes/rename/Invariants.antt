use Rattle.std.proofs.Common.{◌≡◌, ℕ, ◌<◌, length}
use Rattle.std.specs.Prelude.{All}
use Rattle.ltl_passes.specs.Worklist.{LeadsWithin}
use Rattle.ltl_passes.proofs.classes.rename.Given as goal

abbrev pub invariant-members : goal.invariant-members
invariant-members g l = record {
  inside : l.member < length l.names;
  renamed : All (λ s. s < length l.names) l.renamed.items;
  same : (coarse : ℕ → ℕ) → LeadsWithin coarse (length l.names) l.links → coarse l.member ≡ coarse l.state;
  within : (coarse : ℕ → ℕ) → LeadsWithin coarse (length l.names) l.links → coarse l.state ≡ coarse l.name → LeadsWithin coarse (length l.names) l.fn.names → LeadsWithin coarse (length l.names) l.names;
}
