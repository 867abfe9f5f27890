-- Leaving out the edges that others imply: each edge is implied by one that stays.
use Rattle.std.proofs.Common.{◌≡◌, ℕ, Bool, true, false, not, ◌&&◌, ◌||◌, ◌⊎◌, inl, inr, List, [], ◌∷◌, refl, sym, ◌∙◌, ap, subst, eqb-true, eq-eqb}
use Rattle.std.specs.Prelude.{IsTrue, ◌==◌}
use Rattle.std.specs.Bool.{Decides}
use Rattle.std.specs.List.{list_any}
use Rattle.std.specs.Ordering.{nat_cmp}
use Rattle.std.proofs.lemmas.Bool.{and_from, false_from_ne_true}
use Rattle.ltl_spec.specs.Collections.Sets.{Has, is_subset}
use Rattle.ltl_spec.specs.Transitions.Cubes.{Literal, Cube, literal_cmp, allows}
use Rattle.ltl_spec.specs.Automata.Automaton.{Edge, State}
use Rattle.ltl_spec.specs.Construction.Merging.{same_edge, implies_edge, unimplied_edges, without_implied}
use Rattle.ltl_spec.proofs.Collections.SetLaws.{is_subset_Decides, same_members, filter_cases, Has-filter}
use Rattle.ltl_spec.proofs.Collections.Orders.{nat_linear, literal_linear}
use Rattle.ltl_spec.proofs.Construction.RoundLaws.{same_edge_Decides}
use Rattle.ltl_spec.proofs.Collections.CaseLaws.{false_is_true, left_true, right_true}
use Rattle.ltl_spec.proofs.Transitions.CubeLaws.{allows_Decides}
pub use Rattle.ltl_spec.specs.Construction.ImpliedEdges.{IsSetEdge, implies_other}

-- an element that none is above

module _ {K : Type 0} (above : K → K → Bool) (Good : K → Type 0) where
  -- among the good ones nothing is above itself, and what is above one that is above a third is above that
  pub record IsStrict : Type 0 where
    pub never : (a : K) → Good a → above a a ≡ true → ⊥
    pub on : (a b c : K) → Good a → Good b → Good c → above a b ≡ true → above b c ≡ true → above a c ≡ true

  -- an element that is above g or g itself, and has no element of the list above it
  pub record Highest (xs : List K) (g : K) : Type 0 where
    pub top : K
    pub good : Good top
    pub over : (top ≡ g) ⊎ (above top g ≡ true)
    pub inside : (top ≡ g) ⊎ Has xs top
    pub last : (f : K) → Has xs f → above f top ≡ true → ⊥

  module _ (strict : IsStrict) where
    -- x is above g, and the search goes on from x
    go_up : (x : K) (xs : List K) (g : K) → Good x → Good g → above x g ≡ true → Highest xs x → Highest (x ∷ xs) g
    go_up x xs g px pg e h = record {
      top = h.top;
      good = h.good;
      over = inr (elim h.over [ inl i ↦ ap (λ t. above t g) i ∙ e | inr k ↦ strict.on h.top x g h.good px pg k e ]);
      inside = inr (elim h.inside [ inl i ↦ inl i | inr k ↦ inr k ]);
      last = λ f. elim [
        | inl i ↦ λ k. elim h.over [
          | inl j ↦ strict.never x px (ap (λ t. above t x) (sym i) ∙ ap (above f) (sym j) ∙ k)
          | inr m ↦ strict.never x px (strict.on x h.top x px h.good px (ap (λ t. above t h.top) (sym i) ∙ k) m)
        ]
        | inr m ↦ h.last f m
      ];
    }

    -- x isn't above g, and the search goes on from g
    stay : (x : K) (xs : List K) (g : K) → Good x → Good g → (above x g ≡ true → ⊥) → Highest xs g → Highest (x ∷ xs) g
    stay x xs g px pg n h = record {
      top = h.top;
      good = h.good;
      over = h.over;
      inside = elim h.inside [ inl i ↦ inl i | inr k ↦ inr (inr k) ];
      last = λ f. elim [
        | inl i ↦ λ k. elim h.over [
          | inl j ↦ n (ap (λ t. above t g) (sym i) ∙ ap (above f) (sym j) ∙ k)
          | inr m ↦ n (strict.on x h.top g px h.good pg (ap (λ t. above t h.top) (sym i) ∙ k) m)
        ]
        | inr m ↦ h.last f m
      ];
    }

    -- one way through the list finds it
    pub highest : (xs : List K) → ((z : K) → Has xs z → Good z) → (g : K) → Good g → Highest xs g
    highest [] good g pg = record { top = g; good = pg; over = inl refl; inside = inl refl; last = λ f h e. h }
    highest (x ∷ xs) good g pg =
        let px = good x (inl refl) in
        let rest = λ (z : K) (h : Has xs z). good z (inr h) in
        elim (above x g) as (λ b. above x g ≡ b → Highest (x ∷ xs) g) [
          | true ↦ λ e. go_up x xs g px pg e (highest xs rest x px)
          | false ↦ λ e. stay x xs g px pg (λ t. false_is_true (sym e ∙ t)) (highest xs rest g pg)
        ] refl

-- what implies an edge

-- f can stand for e: it has the same target, asks for no more, and is in each set that e is in
pub record Covers (f e : Edge) : Type 0 where
  pub target : f.target ≡ e.target
  pub cube : (l : Literal) → Has f.cube l → Has e.cube l
  pub marks : (k : ℕ) → Has e.marks k → Has f.marks k

pub Covers-same : (f e : Edge) → f ≡ e → Covers f e
Covers-same f e i = record {
  target = ap (λ (x : Edge). x.target) i;
  cube = λ l h. subst (λ (x : Edge). Has x.cube l) i h;
  marks = λ k h. subst (λ (x : Edge). Has x.marks k) (sym i) h;
}

pub Covers-on : (f g e : Edge) → Covers f g → Covers g e → Covers f e
Covers-on f g e a b = record { target = a.target ∙ b.target; cube = λ l h. b.cube l (a.cube l h); marks = λ k h. a.marks k (b.marks k h) }

-- the test is right
pub implies_edge_Decides : (f e : Edge) → Decides (implies_edge f e) (Covers f e)
implies_edge_Decides f e = (to, from)
  where
    cubes : Decides (is_subset literal_cmp f.cube e.cube) ((l : Literal) → Has f.cube l → Has e.cube l)
    cubes = is_subset_Decides literal_linear f.cube e.cube

    sets : Decides (is_subset nat_cmp e.marks f.marks) ((k : ℕ) → Has e.marks k → Has f.marks k)
    sets = is_subset_Decides nat_linear e.marks f.marks

    to : implies_edge f e ≡ true → Covers f e
    to t = record {
      target = eqb-true f.target e.target (left_true _ _ (left_true _ _ t));
      cube = cubes.0 (right_true (f.target == e.target) _ (left_true _ _ t));
      marks = sets.0 (right_true (f.target == e.target && is_subset literal_cmp f.cube e.cube) _ t);
    }

    from : Covers f e → implies_edge f e ≡ true
    from c = and_from _ _ (and_from _ _ (eq-eqb f.target e.target c.target) (cubes.1 c.cube)) (sets.1 c.marks)

-- such edges that can stand for each other are equal
pub covers_both : (f e : Edge) → IsSetEdge f → IsSetEdge e → Covers f e → Covers e f → f ≡ e
covers_both f e sf se a b =
    let c = same_members literal_linear f.cube e.cube sf.cube se.cube a.cube b.cube in
    let t = a.target in
    let m = same_members nat_linear f.marks e.marks sf.marks se.marks b.marks a.marks in
    λ i. record { cube = c i; target = t i; marks = m i }

-- what stays

not_same : (f e : Edge) → not (same_edge f e) ≡ true → f ≡ e → ⊥
not_same f e n i = false_is_true (ap not (sym ((same_edge_Decides f e).1 i)) ∙ n)

above_covers : (f e : Edge) → implies_other f e ≡ true → Covers f e
above_covers f e t = (implies_edge_Decides f e).0 (right_true (not (same_edge f e)) _ t)

above_other : (f e : Edge) → implies_other f e ≡ true → f ≡ e → ⊥
above_other f e t = not_same f e (left_true _ _ t)

other_is : (f e : Edge) → (f ≡ e → ⊥) → not (same_edge f e) ≡ true
other_is f e n = ap not (false_from_ne_true (same_edge f e) (λ t. n ((same_edge_Decides f e).0 t)))

-- to be implied by another edge is a strict order on edges whose literals and marks are sets
above_strict : IsStrict implies_other IsSetEdge
above_strict = record {
  never = λ a s t. above_other a a t refl;
  on = λ a b c sa sb sc t u.
      let f = above_covers a b t in
      let g = above_covers b c u in
      and_from _ _ (other_is a c (λ i. above_other a b t (covers_both a b sa sb f (Covers-on b c a g (Covers-same c a (sym i)))))) ((implies_edge_Decides a c).1 (Covers-on a b c f g));
}

none_passes : {K : Type 0} (p : K → Bool) (xs : List K) → ((z : K) → Has xs z → p z ≡ true → ⊥) → list_any p xs ≡ false
none_passes p [] n = refl
none_passes p (x ∷ xs) n = ap (λ b. b || list_any p xs) (false_from_ne_true (p x) (n x (inl refl))) ∙ none_passes p xs (λ z h. n z (inr h))

-- an edge of the list that can stand for e
abbrev pub Kept : List Edge → Edge → Type 0
Kept es e = (f : Edge) × Has es f × Covers f e

-- each edge is implied by one that stays
pub unimplied_kept : (es : List Edge) → ((e : Edge) → Has es e → IsSetEdge e) → (e : Edge) → Has es e → Kept (unimplied_edges es) e
unimplied_kept es sets e h = found (highest implies_other IsSetEdge above_strict es sets e (sets e h))
  where
    found : Highest implies_other IsSetEdge es e → Kept (unimplied_edges es) e
    found r = (
      r.top,
      Has-filter (λ g. not (list_any (λ f. implies_other f g) es)) es r.top (elim r.inside [ inl i ↦ subst (λ t. Has es t) (sym i) h | inr k ↦ k ]) (ap not (none_passes (λ f. implies_other f r.top) es r.last)),
      elim r.over [ inl i ↦ Covers-same r.top e i | inr k ↦ above_covers r.top e k ],
    )

-- what stays was there
pub unimplied_cases : (es : List Edge) (e : Edge) → Has (unimplied_edges es) e → Has es e
unimplied_cases es e h = (filter_cases (λ g. not (list_any (λ f. implies_other f g) es)) es e h).0

-- the same for a state, whether or not the implied edges are left out
pub thin_kept : (keep_implied : Bool) (s : State) → ((e : Edge) → Has s.edges e → IsSetEdge e) → (e : Edge) → Has s.edges e → Kept (without_implied keep_implied s).edges e
thin_kept true s sets e h = (e, h, Covers-same e e refl)
thin_kept false s sets e h = unimplied_kept s.edges sets e h

pub thin_cases : (keep_implied : Bool) (s : State) (e : Edge) → Has (without_implied keep_implied s).edges e → Has s.edges e
thin_cases true s e h = h
thin_cases false s e h = unimplied_cases s.edges e h

-- it stays accepting, or not
pub thin_accepting : (keep_implied : Bool) (s : State) → (without_implied keep_implied s).accepting ≡ s.accepting
thin_accepting true s = refl
thin_accepting false s = refl

-- words

-- fewer literals allow more
pub allows_fewer : (truth : ℕ → Bool) (c d : Cube) → ((l : Literal) → Has c l → Has d l) → IsTrue (allows truth d) → IsTrue (allows truth c)
allows_fewer truth c d f t = (allows_Decides truth c).1 (λ l h. (allows_Decides truth d).0 t l (f l h))
