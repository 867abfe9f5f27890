-- What is known of the programs' command lines.
use Rattle.std.proofs.Common.{◌≡◌, ◌∙◌, ◌⊎◌, inl, inr, ap, ap₂, sym, subst, refl, codes, Bool, true, false, cond, List, [], ◌∷◌, Option, Some, None}
use Rattle.clap.specs.Words.{App, Kinds, IsAmong, Row, Text, fault_of, first_of, is_simple, is_simple_and_free, matches_of}
use Rattle.clap.specs.declared.error.kind.ErrorKind.TheVariants as kind
use Rattle.clap.specs.declared.error.kind.ErrorKind.{ErrorKind}
use Rattle.clap.proofs.OnLiterals.{clap_on_literals}
use Rattle.ltl_spec.specs.Tools.Refusal.{Tool, Translator, Checker, Evaluator}
use Rattle.ltl_spec.specs.Tools.Outcome.{FormulaWord}
use Rattle.ltl_spec.specs.Tools.Programs.{Layout}
use Rattle.ltl_words.specs.Words.{app_for, formula_among, lacks_word, layout_among, request_for, request_if, request_of, request_of_rows, request_with}

pub app_is_simple : (tool : Tool) → is_simple (app_for tool) ≡ true
unfolding clap_on_literals
app_is_simple Translator = refl
app_is_simple Checker = refl
app_is_simple Evaluator = refl

pub app_is_free : (tool : Tool) → is_simple_and_free (app_for tool) ≡ true
unfolding clap_on_literals
app_is_free Translator = refl
app_is_free Checker = refl
app_is_free Evaluator = refl

fault_means_none : (tool : Tool) (k : ErrorKind) (ks : Kinds) (rows : List Row) → IsAmong k ks → request_if tool ks rows ≡ None
fault_means_none tool k [] rows h = absurd h
fault_means_none tool k (x ∷ xs) rows h = refl

-- what a parse of the words gives

pub fault_free : (tool : Tool) (a : App) (words : List Text) → a ≡ app_for tool → (is_simple_and_free a ≡ true → fault_of a words ≡ []) → fault_of (app_for tool) words ≡ []
fault_free tool a words e h = ap (λ (x : App). fault_of x words) (sym e) ∙ h (ap is_simple_and_free e ∙ app_is_free tool)

pub rows_matched : (tool : Tool) (a : App) (words : List Text) (rows : List Row) {S : Type 0} → a ≡ app_for tool → (is_simple a ≡ true → (rows ≡ matches_of a words) × S) → rows ≡ matches_of (app_for tool) words
rows_matched tool a words rows e h = (h (ap is_simple e ∙ app_is_simple tool)).0 ∙ ap (λ (x : App). matches_of x words) e

pub refused_means_none : (tool : Tool) (a : App) (words : List Text) (k : ErrorKind) → a ≡ app_for tool
    → (is_simple_and_free a ≡ true → (k ≡ kind.OutOfMemory) ⊎ IsAmong k (fault_of a words)) → (k ≡ kind.OutOfMemory → ⊥) → request_of tool words ≡ None
refused_means_none tool a words k e h other = elim (h (ap is_simple_and_free e ∙ app_is_free tool)) [
  | inl memory ↦ absurd (other memory)
  | inr among ↦ fault_means_none tool k (fault_of (app_for tool) words) (matches_of (app_for tool) words)
      (subst (λ (x : App). IsAmong k (fault_of x words)) e among)
]

-- what the rows ask for, from what was looked up
pub request_is : (tool : Tool) (rows : List Row) (text path : Option Text) (o : Option FormulaWord) → text ≡ first_of (codes "f") rows → path ≡ first_of (codes "F") rows
    → o ≡ formula_among text path → request_of_rows tool rows ≡ request_for tool rows o (layout_among rows)
request_is tool rows text path o f g h = ap (λ (x : Option FormulaWord). request_for tool rows x (layout_among rows)) (sym (h ∙ ap₂ formula_among f g))

module _ (tool : Tool) (rows : List Row) (formula : FormulaWord) where
  -- both layouts
  pub request_torn : (layout : Option Layout) → layout ≡ None → request_for tool rows (Some formula) layout ≡ None
  request_torn layout e = ap (request_for tool rows (Some formula)) e

  module _ (shown : Layout) (layout : Option Layout) (e : layout ≡ Some shown) where
    pub request_lacks : lacks_word tool (first_of (codes "w") rows) ≡ true → request_for tool rows (Some formula) layout ≡ None
    request_lacks l = ap (request_for tool rows (Some formula)) e ∙ ap (λ (b : Bool). cond b None (Some (request_with rows formula shown))) l

    pub request_stands : lacks_word tool (first_of (codes "w") rows) ≡ false → request_for tool rows (Some formula) layout ≡ Some (request_with rows formula shown)
    request_stands l = ap (request_for tool rows (Some formula)) e ∙ ap (λ (b : Bool). cond b None (Some (request_with rows formula shown))) l
