use Rattle.std.proofs.Common.{ℕ, List, length, subst, sym}
use Rattle.std.specs.Prelude.{IsTrue}
use Rattle.std.specs.List.{list_all}
use Rattle.std.proofs.lemmas.Result.{err_from_is_err_and}
use Rattle.ltl_spec.specs.Checking.Bounds.{HasNamesBelow}
use Rattle.ltl_spec.specs.Formulas.Names.{is_proposition}
use Rattle.ltl_reduction.proofs.RunLaws.{claim_made, claim_unmade, claim_unread}
use Rattle.ltl_reduction.proofs.claim.claim_from.Goals as goal

pub returns-in_err-given-clause-made : goal.returns-in_err-given-clause-made
returns-in_err-given-clause-made g c =
    let (input, s, h) = c.in_err-given.ensures in
    let p = err_from_is_err_and c.from_residual.result c.from_residual.ensures.1 in
    rw (p.1, p.2) (input, s, claim_unread input _ h)

pub returns-in_err-made-clause-made : goal.returns-in_err-made-clause-made
returns-in_err-made-clause-made g c =
    let (input, s, h) = c.in_ok-given.ensures in
    let p = err_from_is_err_and c.from_residual-in_err-made.result c.from_residual-in_err-made.ensures.1 in
    rw (p.1, p.2) (input, s, claim_unmade input _ h _ (λ q. c.in_err-made.ensures.large (let w = c.in_err-made.was in cc)))

pub named_claim_is_read_back-requires-clause-named : goal.named_claim_is_read_back-requires-clause-named
named_claim_is_read_back-requires-clause-named g c = subst (λ (ns : List (List ℕ)). HasNamesBelow (length ns) c.in_ok-made.made) (sym c.names.ensures) c.in_ok-made.ensures.named

pub named_claim_is_read_back-requires-clause-propositions : goal.named_claim_is_read_back-requires-clause-propositions
named_claim_is_read_back-requires-clause-propositions g c = subst (λ (ns : List (List ℕ)). IsTrue (list_all is_proposition ns)) (sym c.names.ensures) c.invariant.ensures.propositions

pub returns-clause-made : goal.returns-clause-made
returns-clause-made g c =
    let (input, s, h) = c.in_ok-given.ensures in
    (input, s, (h, claim_made _ _ _ c.names.ensures c.invariant-2.ensures c.in_ok-made.ensures.words c.in_ok-made.ensures.few c.named_claim_is_read_back.ensures))
