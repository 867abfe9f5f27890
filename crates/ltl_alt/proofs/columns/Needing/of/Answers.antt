use Rattle.ltl_alt.proofs.columns.Needing.of.Goals as goal

pub returns : goal.returns
returns g c = record {
  all = c.everyone.ensures;
  positive = c.in_ok-columns_of.ensures;
  negative = c.in_ok-columns_of-2.ensures;
  targets = c.in_ok-columns_of-3.ensures;
}
