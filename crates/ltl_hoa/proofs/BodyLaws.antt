-- Tokens that are passed on to another place.
use Rattle.std.proofs.Common.{◌≡◌, List, [], ◌∷◌, ◌++◌, ℕ, zero, suc, ◌<◌, length, map, refl, sym, subst, ◌∙◌, ap, arith}
use Rattle.std.specs.Prelude.{Result, slice_index_or, slice_set}
use Rattle.std.proofs.lemmas.List.{map-set, get_or_default}
use Rattle.ltl_spec.specs.Automata.Automaton.{Edge}
use Rattle.ltl_spec.specs.Tools.Limits.{stated_limits}
use Rattle.ltl_spec.specs.Hoa.HoaPlace as spec
use Rattle.ltl_spec.specs.Hoa.HoaPlace.{Before}
use Rattle.ltl_spec.specs.Hoa.HoaStep as table
use Rattle.ltl_hoa.specs.declared.fault.Stop.{Stop}
use Rattle.ltl_hoa.specs.declared.place.Place.{Place}
use Rattle.ltl_hoa.specs.declared.place.BodyPlace.{BodyPlace}
use Rattle.ltl_hoa.specs.declared.token.TokenKind.{TokenKind}
use Rattle.ltl_hoa.specs.declared.token.TokenKind.TheVariants as made
use Rattle.ltl_hoa.specs.TokenView.{token_of}
use Rattle.ltl_hoa.specs.BodyView.{BodyView, filed}
use Rattle.ltl_spec.specs.Hoa.HoaMachine.{came_in}
use Rattle.ltl_hoa.specs.Shown.{Leads, StepsAt, Takes, TakesAt}
use Rattle.ltl_hoa.proofs.BodySteps.{filed_shows}

-- no edge begins
pub edge_else : (v w : BodyView) (k : TokenKind) (text : List ℕ) (r : Result Place Stop) → (k ≡ made.Int → ⊥) → (k ≡ made.OpenLabel → ⊥) → StepsAt spec.AtState v (token_of k text) r w → StepsAt spec.AtEdge v (token_of k text) r w
edge_else v w k text r n m h = λ b g s. subst (λ S. Leads S b g r w) (go k b n m) (h b g s)
  where
    go : (k : TokenKind) (b : Before) → (k ≡ made.Int → ⊥) → (k ≡ made.OpenLabel → ⊥) → table.at_state b (token_of k text) ≡ table.at_edge b (token_of k text)
    go made.Int b n m = absurd (n refl)
    go made.OpenLabel b n m = absurd (m refl)
    go k b n m = refl

-- no sets follow a state's name
pub name_else : (v w : BodyView) (k : TokenKind) (text : List ℕ) (r : Result Place Stop) → (k ≡ made.OpenSets → ⊥) → StepsAt spec.AtEdge v (token_of k text) r w → StepsAt spec.AfterName v (token_of k text) r w
name_else v w k text r n h = λ b g s. subst (λ S. Leads S b g r w) (go k b n) (h b g s)
  where
    go : (k : TokenKind) (b : Before) → (k ≡ made.OpenSets → ⊥) → table.at_edge b (token_of k text) ≡ table.step_in_body stated_limits spec.AfterName b (token_of k text)
    go made.OpenSets b n = absurd (n refl)
    go k b n = refl

-- no name follows a state's number
pub number_else : (v w : BodyView) (k : TokenKind) (text : List ℕ) (r : Result Place Stop) → (k ≡ made.Text → ⊥) → StepsAt spec.AfterName v (token_of k text) r w → StepsAt spec.AfterNumber v (token_of k text) r w
number_else v w k text r n h = λ b g s. subst (λ S. Leads S b g r w) (go k b n) (h b g s)
  where
    go : (k : TokenKind) (b : Before) → (k ≡ made.Text → ⊥) → table.step_in_body stated_limits spec.AfterName b (token_of k text) ≡ table.step_in_body stated_limits spec.AfterNumber b (token_of k text)
    go made.Text b n = absurd (n refl)
    go k b n = refl

-- no sets follow an edge's target
pub target_else : (u v w : BodyView) (k : TokenKind) (text : List ℕ) (r : Result Place Stop) → (k ≡ made.AndSign → ⊥) → (k ≡ made.OpenSets → ⊥) → u ≡ filed v → StepsAt spec.AtEdge u (token_of k text) r w → StepsAt spec.AfterTarget v (token_of k text) r w
target_else u v w k text r n m e h = λ b g s. subst (λ S. Leads S b g r w) (go k b n m) (h b g (filed_shows v u spec.AfterTarget spec.AtEdge b g refl refl e s))
  where
    go : (k : TokenKind) (b : Before) → (k ≡ made.AndSign → ⊥) → (k ≡ made.OpenSets → ⊥) → table.at_edge b (token_of k text) ≡ table.step_in_body stated_limits spec.AfterTarget b (token_of k text)
    go made.AndSign b n m = absurd (n refl)
    go made.OpenSets b n m = absurd (m refl)
    go k b n m = refl

-- another token than `--ABORT--`
pub abort_else : (place : BodyPlace) (v w : BodyView) (k : TokenKind) (text : List ℕ) (r : Result Place Stop) → (k ≡ made.Abort → ⊥) → TakesAt place v (token_of k text) r w → Takes place v (token_of k text) r w
abort_else place v w k text r n h = λ q l b g s. subst (λ S. Leads S b (came_in q b (token_of k text) g) r w) (go k q b n) (h q l b g s)
  where
    go : (k : TokenKind) (q : spec.BodyPlace) (b : Before) → (k ≡ made.Abort → ⊥) → table.step_in_body stated_limits q (record b { place = spec.InBody q }) (token_of k text) ≡ table.step_unless_abort stated_limits q (record b { place = spec.InBody q }) (token_of k text)
    go made.Abort q b n = absurd (n refl)
    go k q b n = refl

-- ---- edges of one state

nth_map : {T : Type 0} (f : T → List Edge) (xs : List T) (i : ℕ) (d : T) → slice_index_or (map f xs) i (f d) ≡ f (slice_index_or xs i d)
nth_map f [] i d = refl
nth_map f (x ∷ xs) zero d = refl
nth_map f (x ∷ xs) (suc i) d = nth_map f xs i d

pub filed_edges : {T : Type 0} (f : T → List Edge) (lists : List T) (at n : ℕ) (old new : T) (more : List Edge) → old ≡ slice_index_or lists at old → at < n → length (map f lists) ≡ n
    → f new ≡ f old ++ more → map f (slice_set lists at new) ≡ slice_set (map f lists) at (slice_index_or (map f lists) at [] ++ more)
filed_edges f lists at n old new more o l c e =
    let within : at < length (map f lists) = omega (arith, l, c) in
    map-set f lists at new
    ∙ ap (slice_set (map f lists) at) (e ∙ ap (λ es. es ++ more) (ap f o ∙ sym (nth_map f lists at old) ∙ get_or_default (map f lists) at (f old) [] within))
