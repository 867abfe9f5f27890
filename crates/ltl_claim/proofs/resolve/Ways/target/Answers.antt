use Rattle.std.proofs.Common.{◌≡◌, ◌∙◌, ap, ℕ, ◌<◌, Option, Some, subst, if◌then◌else◌, slice_index_or}
use Rattle.std.specs.Prelude.{IfSome}
use Rattle.ltl_claim.specs.ProgramView.{no_statement}
use Rattle.ltl_claim.specs.ResolveView.{WaysView}
use Rattle.ltl_claim.proofs.WayLaws.{way_behind, way_left}
use Rattle.ltl_claim.proofs.resolve.Ways.target.Goals as goal

filled : {n i : ℕ} {around : Option ℕ} → around ≡ Some i → IfSome around (λ j. j < n) → i < n
filled {n} e f = subst (λ o. IfSome o (λ j. j < n)) e f

pub returns-in-Nothing-Some : goal.returns-in-Nothing-Some
returns-in-Nothing-Some g c = λ P a t.
    let w = c.args.self.now in
    let i = c.in-Nothing-Some.i in
    way_behind P w.statements w.labels a w.nearest w.after t c.requires.low i (filled c.in-Nothing-Some.is-1 c.requires.filled) c.args.link c.args.around c.behind.result c.in-Nothing-Some.is-0 c.in-Nothing-Some.is-1
    (c.behind.ensures ∙ ap (λ (v : WaysView). if (slice_index_or v.statements i no_statement).loops then i else slice_index_or v.after i 0) c.self.view_is)

pub returns-in-Leave-Some : goal.returns-in-Leave-Some
returns-in-Leave-Some g c = λ P a t.
    let w = c.args.self.now in
    let i = c.in-Leave-Some.i in
    way_left P w.statements w.labels a w.nearest w.after t c.requires.low i (filled c.in-Leave-Some.is-1 c.requires.filled) c.args.link c.args.around c.left.result c.in-Leave-Some.is-0 c.in-Leave-Some.is-1
    (c.left.ensures ∙ ap (λ (v : WaysView). slice_index_or v.after (slice_index_or v.nearest i 0) 0) c.self.view_is)
