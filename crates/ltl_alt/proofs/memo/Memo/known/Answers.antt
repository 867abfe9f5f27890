use Rattle.std.proofs.Common.{◌∙◌}
use Rattle.ltl_alt.specs.MemoView.{IsJoin}
use Rattle.ltl_alt.proofs.JoinLaws.{same_key, key_exact}
use Rattle.ltl_alt.proofs.MapLaws.{map_known}
use Rattle.ltl_alt.proofs.memo.Memo.known.Goals as goal

pub returns : goal.returns
returns g c = λ T r w.
    map_known same_key key_exact (IsJoin T r c.args.self.now.lists.keys c.args.key.now) c.args.key.now c.args.self.now.joins.entries c.copied.result (c.copied.ensures ∙ c.get.ensures.value) (λ n h. w c.args.key.now n h)
