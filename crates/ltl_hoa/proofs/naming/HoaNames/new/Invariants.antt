use Rattle.std.proofs.Common.{◌≡◌, map, None}
use Rattle.std.specs.Prelude.{replicate}
use Rattle.ltl_hoa.specs.NamingView.{bytes_of}
use Rattle.ltl_hoa.proofs.naming.HoaNames.new.Given as goal

abbrev pub invariant-states : goal.invariant-states
invariant-states g l = map bytes_of l.names.items ≡ replicate l._k None
