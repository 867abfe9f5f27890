-- What is known of the command line.
use Rattle.std.proofs.Common.{◌≡◌, ◌∙◌, ◌⊎◌, inl, inr, ap, sym, subst, refl, true, List, [], ◌∷◌, None, Some}
use Rattle.clap.specs.Words.{App, IsAmong, Kinds, Row, Text, fault_of, is_simple, is_simple_and_free, matches_of}
use Rattle.clap.specs.declared.error.kind.ErrorKind.TheVariants as kind
use Rattle.clap.specs.declared.error.kind.ErrorKind.{ErrorKind}
use Rattle.clap.proofs.OnLiterals.{clap_on_literals}
use Rattle.ltl_reduction.specs.Plans.{Request, reduce_app, request_if, request_of, request_of_rows}

app_is_simple : is_simple reduce_app ≡ true
unfolding clap_on_literals
app_is_simple = refl

app_is_free : is_simple_and_free reduce_app ≡ true
unfolding clap_on_literals
app_is_free = refl

fault_means_none : (k : ErrorKind) (ks : Kinds) (rows : List Row) → IsAmong k ks → request_if ks rows ≡ None
fault_means_none k [] rows h = absurd h
fault_means_none k (x ∷ xs) rows h = refl

module _ (a : App) (words : List Text) (e : a ≡ reduce_app) where
  pub fault_free : (is_simple_and_free a ≡ true → fault_of a words ≡ []) → fault_of reduce_app words ≡ []
  fault_free h = ap (λ (x : App). fault_of x words) (sym e) ∙ h (ap is_simple_and_free e ∙ app_is_free)

  pub rows_matched : (rows : List Row) {S : Type 0} → (is_simple a ≡ true → (rows ≡ matches_of a words) × S) → rows ≡ matches_of reduce_app words
  rows_matched rows h = (h (ap is_simple e ∙ app_is_simple)).0 ∙ ap (λ (x : App). matches_of x words) e

  pub refused_means_none : (k : ErrorKind) → (is_simple_and_free a ≡ true → (k ≡ kind.OutOfMemory) ⊎ IsAmong k (fault_of a words)) → (k ≡ kind.OutOfMemory → ⊥) → request_of words ≡ None
  refused_means_none k h other = elim (h (ap is_simple_and_free e ∙ app_is_free)) [
    | inl memory ↦ absurd (other memory)
    | inr among ↦ fault_means_none k (fault_of reduce_app words) (matches_of reduce_app words) (subst (λ (x : App). IsAmong k (fault_of x words)) e among)
  ]

-- words without a fault ask for what their rows ask for
pub passes_planned : (words : List Text) (rows : List Row) (r : Request) → fault_of reduce_app words ≡ [] → rows ≡ matches_of reduce_app words → r ≡ request_of_rows rows → request_of words ≡ Some r
passes_planned words rows r h m q = ap (λ (ks : Kinds). request_if ks (matches_of reduce_app words)) h ∙ ap (λ rs. Some (request_of_rows rs)) (sym m) ∙ ap Some (sym q)
