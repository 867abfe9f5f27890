use Rattle.std.proofs.Common.{◌≡◌, ◌∷◌, [], ◌∙◌, ap, subst}
use Rattle.ltl_spec.specs.Collections.Sets.{Has}
use Rattle.ltl_spec.specs.Transitions.Pairs.{Pair, empty_pair}
use Rattle.ltl_alt.specs.MemoView.{IsListAt}
use Rattle.ltl_alt.proofs.JoinLaws.{list_at_longer}
use Rattle.ltl_alt.proofs.components.Components.new.Goals as goal

pub returns : goal.returns
returns g c = λ T r.
    let one : c.in_ok-pairs.pairs.items ≡ empty_pair ∷ [] = c.in_ok-pairs.ensures.items ∙ ap (λ (p : Pair). p ∷ []) c.empty.ensures in
    let none = c.in_ok-starts.ensures.joins ∙ c.in_ok-nothing.ensures.joins ∙ c.new-memo.ensures.joins in
    record {
      joins = λ key n h. absurd (subst (λ es. Has es (key, n)) none h);
      nothing = list_at_longer c.number.new.self.lists.keys c.starts.new.memo.lists.keys (empty_pair ∷ []) c.in_ok-nothing.nothing c.in_ok-starts.ensures.longer
          (subst (λ ps. IsListAt c.number.new.self.lists.keys ps c.in_ok-nothing.nothing) one c.in_ok-nothing.ensures.number);
      starts = c.in_ok-starts.ensures.starts;
    }
