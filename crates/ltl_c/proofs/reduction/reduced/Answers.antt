use Rattle.std.proofs.Common.{◌≡◌, ◌≤◌, ℕ, List, arith, inl, length, refl, subst, sym}
use Rattle.std.specs.Prelude.{IsTrue, MatchResult}
use Rattle.std.specs.List.{list_all}
use Rattle.std.proofs.lemmas.Result.{err_from_is_err_and}
use Rattle.ltl_spec.specs.Checking.Bounds.{HasNamesBelow}
use Rattle.ltl_spec.specs.Collections.Lists.{HasNoRepeats}
use Rattle.ltl_spec.specs.Formulas.Names.{is_proposition}
use Rattle.ltl_spec.specs.Tools.Limits.{stated_limits}
use Rattle.ltl_hoa.specs.declared.marked.TheConstants.{MOST_SETS}
use Rattle.ltl_text.specs.NamedText.{named_text}
use Rattle.ltl_cli.specs.declared.refusal.Refusal.TheVariants.{OutOfMemory}
use Rattle.ltl_reduction.proofs.RunLaws.{text_made}
use Rattle.ltl_c.proofs.ReductionLaws.{read_reduced, unread_reduced}
use Rattle.ltl_c.proofs.reduction.reduced.Goals as goal

pub returns-in_err-given : goal.returns-in_err-given
returns-in_err-given g c =
    let p = err_from_is_err_and c.from_residual.result c.from_residual.ensures.1 in
    rw (p.1, p.2) (unread_reduced c.args.text.now _ c.in_err-given.ensures)

pub returns-in_err-made : goal.returns-in_err-made
returns-in_err-made g c =
    let p = err_from_is_err_and c.from_residual-in_err-made.result c.from_residual-in_err-made.ensures.1 in
    rw (p.1, p.2) (inl refl)

pub named_text_is_read_back-requires-clause-named : goal.named_text_is_read_back-requires-clause-named
named_text_is_read_back-requires-clause-named g c = subst (λ (ns : List (List ℕ)). HasNamesBelow (length ns) c.in_ok-made.made) (sym c.names.ensures) c.in_ok-made.ensures.named

pub named_text_is_read_back-requires-clause-few : goal.named_text_is_read_back-requires-clause-few
named_text_is_read_back-requires-clause-few g c =
    let few : c.in_ok-made.made.sets ≤ c.in_ok-given.given.sets = c.in_ok-made.ensures.reduced.sets in
    let most : c.in_ok-given.given.sets ≤ MOST_SETS = c.invariant.ensures.few_sets in
    omega arith

pub named_text_is_read_back-requires-clause-few_names : goal.named_text_is_read_back-requires-clause-few_names
named_text_is_read_back-requires-clause-few_names g c = subst (λ (ns : List (List ℕ)). length ns ≤ stated_limits.propositions) (sym c.names.ensures) c.invariant.ensures.few_names

pub named_text_is_read_back-requires-clause-propositions : goal.named_text_is_read_back-requires-clause-propositions
named_text_is_read_back-requires-clause-propositions g c = subst (λ (ns : List (List ℕ)). IsTrue (list_all is_proposition ns)) (sym c.names.ensures) c.invariant.ensures.propositions

pub named_text_is_read_back-requires-clause-differ : goal.named_text_is_read_back-requires-clause-differ
named_text_is_read_back-requires-clause-differ g c = subst (λ (ns : List (List ℕ)). HasNoRepeats ns) (sym c.names.ensures) c.invariant.ensures.differ

pub returns : goal.returns
returns g c =
    read_reduced c.args.text.now _ c.in_ok-given.ensures _ (text_made _ _ _ c.names.ensures c.named_text_is_read_back.ensures c.in_ok-made.ensures.reduced) (λ v. v.items) c.text_of.result
    (subst (λ (ns : List (List ℕ)). MatchResult c.text_of.result (λ v. v.items ≡ named_text c.in_ok-made.made ns) (λ e. e ≡ OutOfMemory)) c.names-2.ensures c.text_of.ensures)
