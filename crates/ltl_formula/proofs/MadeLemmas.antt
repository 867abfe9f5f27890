-- Nodes that are built over others, over plain variables.
use Rattle.std.proofs.Common.{◌≡◌, ℕ, ◌<◌, Bool, length, ◌∙◌, ap, subst}
use Rattle.std.specs.Prelude.{if◌then◌else◌, Result, IfOk}
use Rattle.ltl_spec.specs.NormalForms.Normal.{Normal}
use Rattle.ltl_spec.proofs.NormalForms.BothPolarities.{made_and, made_or, made_until, made_release}
use Rattle.ltl_spec.proofs.NormalForms.SharedNodes.{AndNode, OrNode, UntilNode, ReleaseNode, tree_at, node_at}
use Rattle.ltl_spec.proofs.NormalForms.SharedRewriting as law
use Rattle.ltl_spec.proofs.NormalForms.SharedRewriting.{HasConstants, choice_tree, made_and_choice, made_or_choice, made_until_choice, made_release_choice}
use Rattle.ltl_formula.specs.declared.rewriting.Choice.{Choice}
use Rattle.ltl_formula.specs.declared.row.Row.{Row}
use Rattle.ltl_formula.specs.ChoiceView.{choice_of}
use Rattle.ltl_formula.specs.SharedNodesView.{SharedNodesView, Makes, node_of}

module _ {E : Type 0} (r : Result ℕ E) (old new : SharedNodesView) (c : HasConstants old.nodes 0 1) (choice : Choice) (made : IfOk r (λ k. Makes old new k (choice_tree old.nodes (choice_of choice)))) where
  -- the tree by another name
  renamed : (F : Normal) → choice_tree old.nodes (choice_of choice) ≡ F → IfOk r (λ k. Makes old new k F)
  renamed F e = subst (λ (G : Normal). IfOk r (λ k. Makes old new k G)) e made

  module _ (rewrite : Bool) (is : rewrite ≡ old.rewrite) (i j : ℕ) (left : i < length old.nodes) (right : j < length old.nodes) where
    pub and_made : choice_of choice ≡ (if rewrite then law.choose_and 0 1 i j else law.New (AndNode i j)) → IfOk r (λ k. Makes old new k (made_and old.rewrite (tree_at old.nodes i) (tree_at old.nodes j)))
    and_made e = renamed (made_and old.rewrite (tree_at old.nodes i) (tree_at old.nodes j))
        (ap (choice_tree old.nodes) (e ∙ ap (λ b. if b then law.choose_and 0 1 i j else law.New (AndNode i j)) is) ∙ made_and_choice old.nodes 0 1 c old.rewrite i j left right)

    pub or_made : choice_of choice ≡ (if rewrite then law.choose_or 0 1 i j else law.New (OrNode i j)) → IfOk r (λ k. Makes old new k (made_or old.rewrite (tree_at old.nodes i) (tree_at old.nodes j)))
    or_made e = renamed (made_or old.rewrite (tree_at old.nodes i) (tree_at old.nodes j))
        (ap (choice_tree old.nodes) (e ∙ ap (λ b. if b then law.choose_or 0 1 i j else law.New (OrNode i j)) is) ∙ made_or_choice old.nodes 0 1 c old.rewrite i j left right)

    module _ (v : Row) (here : node_of v ≡ node_at old.nodes j) where
      pub until_made : choice_of choice ≡ (if rewrite then law.choose_until 0 1 i j (node_of v) else law.New (UntilNode i j)) → IfOk r (λ k. Makes old new k (made_until old.rewrite (tree_at old.nodes i) (tree_at old.nodes j)))
      until_made e = renamed (made_until old.rewrite (tree_at old.nodes i) (tree_at old.nodes j))
          (ap (choice_tree old.nodes) (e ∙ (λ t. if is t then law.choose_until 0 1 i j (here t) else law.New (UntilNode i j))) ∙ made_until_choice old.nodes 0 1 c old.rewrite i j left right)

      pub release_made : choice_of choice ≡ (if rewrite then law.choose_release 0 1 i j (node_of v) else law.New (ReleaseNode i j)) → IfOk r (λ k. Makes old new k (made_release old.rewrite (tree_at old.nodes i) (tree_at old.nodes j)))
      release_made e = renamed (made_release old.rewrite (tree_at old.nodes i) (tree_at old.nodes j))
          (ap (choice_tree old.nodes) (e ∙ (λ t. if is t then law.choose_release 0 1 i j (here t) else law.New (ReleaseNode i j))) ∙ made_release_choice old.nodes 0 1 c old.rewrite i j left right)
