use Rattle.std.proofs.Common.{◌≡◌, ◌∷◌, ◌∙◌, ◌<◌, List, [], ap, arith, false, get_or, length, refl, subst, sym}
use Rattle.ltl_spec.specs.Formulas.Tokens.{Item, items}
use Rattle.ltl_spec.specs.Semantics.Word.{Name}
use Rattle.ltl_syntax.specs.TokenView.{item_of}
use Rattle.ltl_c.specs.declared.rows.NameRow.{NameRow}
use Rattle.ltl_c.specs.Arrays.{is_named}
use Rattle.ltl_c.proofs.PlaceLaws.{Finds, name_found, none_here, row_found, row_put}
use Rattle.ltl_c.proofs.places.put_names.Goals as goal
use Rattle.ltl_c.proofs.places.put_names.Goals.{else-count-name_count-via-then-count-name_count+else-is_name, else-count-name_count-via-else-count-name_count}

pub tokens-preserved-then-is_name : goal.tokens-preserved-then-is_name
tokens-preserved-then-is_name g c =
    let all = items c.args.text.now in
    let names = c.args.formula.now.names in
    let item = item_of c.args.text.now c.in-Some.token in
    let rest = c.next.new.self.rest in
    let next : c.tokens.tokens.rest ≡ item ∷ rest = c.in-Some.ensures.steps.1 ∙ ap (λ t. item_of t c.in-Some.token ∷ rest) c.tokens.invariant.text in
    let found = subst (λ (r : List Item). Finds all names r c.tokens.count) next c.tokens.invariant.finds in
    let below : c.tokens.count < length names = omega (arith, c.name_count.ensures, c.if-count-name_count.true) in
    let is : get_or names c.tokens.count [] ≡ c.name.result.now = sym c.name.ensures in
    let here = sym c.is_name.ensures ∙ c.if-is_name.true in
    let row : NameRow = record { offset = c.in-Some.token.start; count = length c.name-then-is_name.result.now } in
    record {
      text = c.in-Some.ensures.steps.0 ∙ c.tokens.invariant.text;
      finds = name_found all names c.invariant.ensures.distinct item rest c.tokens.count found c.name.result.now below is here;
      rows = row_put all names c.tokens.count c.name.result.now c.args.names.now c.tokens.names c.requires.fit below is c.tokens.invariant.rows row
          (row_found all names c.invariant.ensures.distinct item rest c.tokens.count found c.name.result.now below is here (length c.name-then-is_name.result.now) (ap length (c.name-then-is_name.ensures ∙ is)) row refl);
    }

pub tokens-preserved : goal.tokens-preserved
tokens-preserved g c =
    let all = items c.args.text.now in
    let names = c.args.formula.now.names in
    let item = item_of c.args.text.now c.in-Some.token in
    let rest = c.next.new.self.rest in
    let next : c.tokens.tokens.rest ≡ item ∷ rest = c.in-Some.ensures.steps.1 ∙ ap (λ t. item_of t c.in-Some.token ∷ rest) c.tokens.invariant.text in
    let found = subst (λ (r : List Item). Finds all names r c.tokens.count) next c.tokens.invariant.finds in
    let other : (n : Name) → c.tokens.count < length names → get_or names c.tokens.count [] ≡ n → is_named n item ≡ false = λ n below is. elim c.else-count-name_count.branch [
      | else-count-name_count-via-then-count-name_count+else-is_name w ↦ ap (λ m. is_named m item) (sym is ∙ sym w.name.ensures) ∙ sym w.is_name.ensures ∙ w.if-is_name.false
      | else-count-name_count-via-else-count-name_count w ↦ absurd (omega (arith, c.name_count.ensures, below, w.if-count-name_count.false))
    ] in
    record {
      text = c.in-Some.ensures.steps.0 ∙ c.tokens.invariant.text;
      finds = none_here all names c.invariant.ensures.distinct item rest c.tokens.count found other;
      rows = c.tokens.invariant.rows;
    }
