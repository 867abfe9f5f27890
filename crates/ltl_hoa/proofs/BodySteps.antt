-- A token of the body takes it where the definition goes.
use Rattle.std.proofs.Common.{◌≡◌, ℕ, ◌+◌, ◌<◌, ◌≤◌, Bool, true, false, ◌||◌, inl, inr, List, [], ◌∷◌, ◌++◌, length, map, Option, Some, None, ◌==◌, codes, refl, sym, ◌∙◌, ap, subst, arith}
use Rattle.std.specs.Prelude.{nat_lt, if◌then◌else◌, option_map, slice_index_or, slice_set, Result, Ok, Err}
use Rattle.std.specs.List.{list_any}
use Rattle.std.specs.Ordering.{nat_cmp}
use Rattle.std.proofs.lemmas.Bool.Decides.{nat_tests}
use Rattle.std.proofs.lemmas.Bool.{eqb-true}
use Rattle.std.proofs.lemmas.List.{append-nil, length-set, get_or-set_same, get_or-set_other, nil_from_length}
use Rattle.ltl_spec.specs.Collections.Sets.{put, set_of}
use Rattle.ltl_spec.specs.Transitions.Cubes.{Cube}
use Rattle.ltl_spec.specs.Tools.Limits.{stated_limits}
use Rattle.ltl_spec.specs.Formulas.Tokens.{same_name}
use Rattle.ltl_spec.specs.Hoa.HoaToken as token
use Rattle.ltl_spec.specs.Hoa.HoaToken.{HoaToken}
use Rattle.ltl_spec.specs.Hoa.HoaLabel.{BracketLabel, ConstantLabel, NumberLabel, label_cubes, is_wide}
use Rattle.ltl_spec.specs.Hoa.HoaFaultKind as fault
use Rattle.ltl_spec.specs.Hoa.HoaPlace as spec
use Rattle.ltl_spec.specs.Hoa.HoaStep as table
use Rattle.ltl_spec.specs.Hoa.HoaPlace.{Before, HoaHeader, LabelPart, LabelParts, whole, with_operand}
use Rattle.ltl_spec.specs.Hoa.HoaStep.{Step, in_body, if_below}
use Rattle.ltl_spec.proofs.Collections.Orders.{nat_linear}
use Rattle.ltl_spec.proofs.Collections.SetLaws.{same_members, IsRising-set_of, IsRising-put, set_of_cases, Has-set_of, put_cases, Has-put, append_cases, append_left, append_right}
use Rattle.ltl_hoa.specs.declared.fault.HoaFaultKind.TheVariants.{BadToken, NumberOutOfRange, StateDefinedTwice, LimitPassed}
use Rattle.ltl_hoa.specs.declared.fault.Stop.{Stop}
use Rattle.ltl_hoa.specs.declared.fault.Stop.TheVariants.{Fault, OutOfMemory}
use Rattle.ltl_hoa.specs.declared.header.Counts.{Counts}
use Rattle.ltl_hoa.specs.declared.place.Place.{Place}
use Rattle.ltl_hoa.specs.declared.place.Place.TheVariants as place
use Rattle.ltl_hoa.specs.declared.place.BodyPlace.{BodyPlace}
use Rattle.ltl_hoa.specs.declared.place.BodyPlace.TheVariants as at
use Rattle.ltl_hoa.specs.NumberView.{capped}
use Rattle.ltl_label.specs.LabelView as label
use Rattle.ltl_label.specs.LabelView.{LabelView}
use Rattle.ltl_hoa.specs.BodyView.{BodyView, filed}
use Rattle.ltl_spec.specs.Hoa.HoaMachine.{Came, CameEdge, came_in, with_set, cube_edges, edges_of}
use Rattle.ltl_hoa.specs.Shown.{IsAt, Leads, StepsAt, StepsInLabel, ShowsBody, ShowsBodyPlace, ShowsCounts, AreAt, AreFiled, AreOpen, is_open, shown_label, shown_part, shown_around, sign_within}
use Rattle.ltl_hoa.proofs.LabelLaws.{shows_negated, shows_opened, shows_constant, shows_number, shows_alternative, shows_closed, part_whole, narrow_is}

-- memory was refused
pub no_memory : (S : Step) (b : Before) (g : Came) (w : BodyView) → Leads S b g (Err OutOfMemory) w
no_memory (Ok c) b g w = refl
no_memory (Err k) b g w = tt

-- ---- numbers, which have to be below their counts

few_sets : {c : Counts} {h : HoaHeader} → ShowsCounts c h → c.sets ≤ stated_limits.hoa_edges
few_sets s = let m = s.well.1 in omega (arith, m)

few_names : {c : Counts} {h : HoaHeader} → ShowsCounts c h → c.names ≤ stated_limits.hoa_edges
few_names s = let m = s.well.0 in omega (arith, m)

few_states : {c : Counts} {h : HoaHeader} → ShowsCounts c h → c.states ≤ stated_limits.hoa_edges
few_states s = let m = s.few_states in omega (arith, m)

too_large : (n m count : ℕ) (o : Option ℕ) (y : Step) (b : Before) (g : Came) (w : BodyView) → o ≡ Some count → count ≤ stated_limits.hoa_edges → m ≡ capped n → count ≤ m → Leads (if_below n o y) b g (Err (Fault NumberOutOfRange)) w
too_large n m count o y b g w e few c l =
    subst (λ u. Leads (if_below n u y) b g (Err (Fault NumberOutOfRange)) w) (sym e)
    (subst (λ d. Leads (if d then y else Err fault.NumberOutOfRange) b g (Err (Fault NumberOutOfRange)) w) (sym (over n m count few c l)) refl)
  where
    over : (n m count : ℕ) → count ≤ stated_limits.hoa_edges → m ≡ capped n → count ≤ m → nat_lt n count ≡ false
    over n m count few c l = grind (arith, nat_tests, few, c, l)

in_range : (n m count : ℕ) (o : Option ℕ) (y : Step) (b : Before) (g : Came) (r : Result Place Stop) (w : BodyView) → o ≡ Some count → count ≤ stated_limits.hoa_edges → m ≡ capped n → m < count → (m ≡ n → Leads y b g r w) → Leads (if_below n o y) b g r w
in_range n m count o y b g r w e few c l f =
    subst (λ u. Leads (if_below n u y) b g r w) (sym e)
    (subst (λ d. Leads (if d then y else Err fault.NumberOutOfRange) b g r w) (sym (under n m count few c l)) (f (omega (arith, few, c, l))))
  where
    under : (n m count : ℕ) → count ≤ stated_limits.hoa_edges → m ≡ capped n → m < count → nat_lt n count ≡ true
    under n m count few c l = grind (arith, nat_tests, few, c, l)

-- a set with one number more
pub put_last : (ks : List ℕ) (k : ℕ) → set_of nat_cmp (ks ++ k ∷ []) ≡ put nat_cmp k (set_of nat_cmp ks)
put_last ks k =
    same_members nat_linear (set_of nat_cmp (ks ++ k ∷ [])) (put nat_cmp k (set_of nat_cmp ks)) (IsRising-set_of nat_linear (ks ++ k ∷ [])) (IsRising-put nat_linear k (set_of nat_cmp ks) (IsRising-set_of nat_linear ks))
    (λ z h. elim (append_cases ks (k ∷ []) z (set_of_cases nat_linear (ks ++ k ∷ []) z h)) [
      | inl m ↦ Has-put nat_linear k (set_of nat_cmp ks) z (inr (Has-set_of nat_linear ks z m))
      | inr m ↦ elim m [ inl e ↦ Has-put nat_linear k (set_of nat_cmp ks) z (inl e) | inr n ↦ absurd n ]
    ])
    (λ z h. Has-set_of nat_linear (ks ++ k ∷ []) z (elim (put_cases nat_cmp k (set_of nat_cmp ks) z h) [
      | inl e ↦ append_right ks (k ∷ []) z (inl e)
      | inr m ↦ append_left ks (k ∷ []) z (set_of_cases nat_linear ks z m)
    ]))

set_get : {T : Type 0} (xs : List T) (i k : ℕ) (y d : T) → i < length xs → slice_index_or (slice_set xs i y) k d ≡ (if i == k then y else slice_index_or xs k d)
set_get xs i k y d l =
    elim (i == k) as (λ c. (i == k) ≡ c → slice_index_or (slice_set xs i y) k d ≡ (if c then y else slice_index_or xs k d)) [
      | true ↦ λ e. ap (λ j. slice_index_or (slice_set xs i y) j d) (sym (eqb-true i k e)) ∙ get_or-set_same xs i y d l
      | false ↦ λ e. get_or-set_other xs i k y d (λ q. grind (arith, nat_tests, e, q))
    ] refl

-- ---- states

pub no_state : (v w : BodyView) (n m : ℕ) → m ≡ capped n → v.counts.states ≤ m → StepsAt spec.AtNumber v (token.Int n) (Err (Fault NumberOutOfRange)) w
no_state v w n m c l = λ b g s. too_large n m v.counts.states b.header.states _ b _ w s.0.states (few_states s.0) c l

-- whether it has stood
stood : (v w : BodyView) (n m : ℕ) (d : Bool) (r : Result Place Stop) → m ≡ capped n → m < v.counts.states → slice_index_or v.defined m false ≡ d
    → ((b : Before) (g : Came) → ShowsBody v spec.AtNumber b g → Leads (if d then Err fault.StateDefinedTwice else Ok (record b { place = spec.InBody spec.AfterNumber; numbers = m ∷ b.numbers })) b (record g { sets = [] }) r w)
    → StepsAt spec.AtNumber v (token.Int n) r w
stood v w n m d r c l q f = λ b g s. in_range n m v.counts.states b.header.states _ b _ r w s.0.states (few_states s.0) c l (λ e.
    subst (λ k. Leads (if list_any (λ j. j == k) b.numbers then Err fault.StateDefinedTwice else Ok (record b { place = spec.InBody spec.AfterNumber; numbers = k ∷ b.numbers })) b (record g { sets = [] }) r w) e
    (subst (λ u. Leads (if u then Err fault.StateDefinedTwice else Ok (record b { place = spec.InBody spec.AfterNumber; numbers = m ∷ b.numbers })) b (record g { sets = [] }) r w) (sym q ∙ s.1.stood m l) (f b g s)))

pub state_twice : (v w : BodyView) (n m : ℕ) → m ≡ capped n → m < v.counts.states → slice_index_or v.defined m false ≡ true → StepsAt spec.AtNumber v (token.Int n) (Err (Fault StateDefinedTwice)) w
state_twice v w n m c l q = stood v w n m true (Err (Fault StateDefinedTwice)) c l q (λ b g s. refl)

pub state_begun : (v w : BodyView) (n m : ℕ) → m ≡ capped n → m < v.counts.states → slice_index_or v.defined m false ≡ false → w ≡ record v { defined = slice_set v.defined m true; at = m; sets = [] }
    → StepsAt spec.AtNumber v (token.Int n) (Ok (place.Body at.AfterNumber)) w
state_begun v w n m c l q e = stood v w n m false (Ok (place.Body at.AfterNumber)) c l q (λ b g s.
    let within : m < length v.defined = let k = s.1.counted in omega (arith, l, k) in
    subst (λ x. Leads (Ok (record b { place = spec.InBody spec.AfterNumber; numbers = m ∷ b.numbers })) b (record g { sets = [] }) (Ok (place.Body at.AfterNumber)) x) (sym e) (
      (
        tt,
        (
          s.0,
          record {
            stood = λ k j. set_get v.defined m k true false within ∙ either (m == k) (slice_index_or v.defined k false) ∙ ap (λ d. (m == k) || d) (s.1.stood k j);
            counted = length-set v.defined m true ∙ s.1.counted;
            last = (refl, l);
          },
          s.2,
          s.3,
          refl,
          s.5,
          s.6,
        ),
      ),
      refl,
    ))
  where
    either : (c o : Bool) → (if c then true else o) ≡ (c || o)
    either true o = refl
    either false o = refl

pub no_state_set : (v w : BodyView) (n m : ℕ) → m ≡ capped n → v.counts.sets ≤ m → StepsAt spec.InStateSets v (token.Int n) (Err (Fault NumberOutOfRange)) w
no_state_set v w n m c l = λ b g s. too_large n m v.counts.sets b.header.sets _ b _ w s.0.sets (few_sets s.0) c l

pub state_set : (v w : BodyView) (n m : ℕ) → m ≡ capped n → m < v.counts.sets → w ≡ record v { sets = put nat_cmp m v.sets } → StepsAt spec.InStateSets v (token.Int n) (Ok (place.Body at.StateSets)) w
state_set v w n m c l e = λ b g s. in_range n m v.counts.sets b.header.sets _ b _ _ w s.0.sets (few_sets s.0) c l (λ k. (
  subst (λ x. IsAt (place.Body at.StateSets) x (spec.InBody spec.InStateSets) b (record g { sets = g.sets ++ n ∷ [] })) (sym e)
      (tt, (s.0, s.1, s.2, s.3, put_last g.sets n ∙ ap (put nat_cmp n) s.4 ∙ ap (λ j. put nat_cmp j v.sets) (sym k), s.5, s.6)),
  refl,
))

-- ---- labels

-- another label
relabelled : (v w : BodyView) (x : LabelView) (r : spec.BodyPlace) (q : BodyPlace) (b : Before) (g : Came) → is_open r ≡ false → w ≡ record v { label = x } → ShowsBody v spec.AtEdge b g → ShowsBodyPlace q (record v { label = x }) r → Leads (in_body b r) b g (Ok (place.Body q)) w
relabelled v w x r q b g c e s l = (
  subst (λ y. IsAt (place.Body q) y (spec.InBody r) (record b { place = spec.InBody r }) g) (sym e)
      (l, (s.0, s.1, s.2, s.3, s.4, s.5, subst (λ d. AreAt d (record v { label = x }) g.edges) (sym c) s.6)),
  refl,
)

pub label_begun : (v w : BodyView) → w ≡ record v { label = label.new_label } → StepsAt spec.AtEdge v token.OpenLabel (Ok (place.Body at.Operand)) w
label_begun v w e = λ b g s. relabelled v w label.new_label (spec.AtOperand (record { inner = spec.empty_part; around = [] })) at.Operand b g refl e s refl

pub label_negated : (v w : BodyView) → w ≡ record v { label = label.negate_inner v.label } → StepsInLabel spec.AtOperand v token.NotSign (Ok (place.Body at.Operand)) w
label_negated v w e = λ p l b g s. relabelled v w _ (spec.AtOperand (record p { inner = record p.inner { negations = p.inner.negations + 1 } })) at.Operand b g refl e s (ap label.negate_inner l ∙ sym (shows_negated p))

pub bracket_opened : (v w : BodyView) → w ≡ record v { label = label.open_bracket v.label } → StepsInLabel spec.AtOperand v token.OpenBracket (Ok (place.Body at.Operand)) w
bracket_opened v w e = λ p l b g s. relabelled v w _ (spec.AtOperand (record { inner = spec.empty_part; around = p.inner ∷ p.around })) at.Operand b g refl e s (ap label.open_bracket l ∙ sym (shows_opened p))

pub no_proposition : (v w : BodyView) (n m : ℕ) → m ≡ capped n → v.counts.names ≤ m → StepsInLabel spec.AtOperand v (token.Int n) (Err (Fault NumberOutOfRange)) w
no_proposition v w n m c k = λ p l b g s. too_large n m v.counts.names (option_map length b.header.names) _ b _ w s.0.names (few_names s.0) c k

pub proposition_put : (v w : BodyView) (n m : ℕ) → m ≡ capped n → m < v.counts.names → w ≡ record v { label = label.take_proposition v.label m } → StepsInLabel spec.AtOperand v (token.Int n) (Ok (place.Body at.AfterOperand)) w
proposition_put v w n m c k e = λ p l b g s. in_range n m v.counts.names (option_map length b.header.names) _ b _ _ w s.0.names (few_names s.0) c k (λ q.
    relabelled v w _ (spec.AfterOperand (record p { inner = with_operand p.inner (NumberLabel n) })) at.AfterOperand b g refl e s (ap (λ x. label.take_proposition x m) l ∙ ap (label.take_proposition (shown_label p)) q ∙ sym (shows_number p n)))

constant_put : (v w : BodyView) (value : Bool) (p : LabelParts) (b : Before) (g : Came) → w ≡ record v { label = label.take_constant v.label value } → v.label ≡ shown_label p → ShowsBody v spec.AtEdge b g
    → Leads (table.operand b p (ConstantLabel value)) b g (Ok (place.Body at.AfterOperand)) w
constant_put v w value p b g e l s =
    relabelled v w _ (spec.AfterOperand (record p { inner = with_operand p.inner (ConstantLabel value) })) at.AfterOperand b g refl e s (ap (λ x. label.take_constant x value) l ∙ sym (shows_constant p value))

-- the constant of a name that is `t`, or `f`
abbrev named : Bool → Bool → Before → LabelParts → Step
named t f b p = if t then table.operand b p (ConstantLabel true) else if f then table.operand b p (ConstantLabel false) else Err fault.BadToken

pub true_put : (v w : BodyView) (name : List ℕ) → same_name name (codes "t") ≡ true → w ≡ record v { label = label.take_constant v.label true } → StepsInLabel spec.AtOperand v (token.Identifier name) (Ok (place.Body at.AfterOperand)) w
true_put v w name n e = λ p l b g s. subst (λ d. Leads (named d (same_name name (codes "f")) b p) b g (Ok (place.Body at.AfterOperand)) w) (sym n) (constant_put v w true p b g e l s)

pub false_put : (v w : BodyView) (name : List ℕ) → same_name name (codes "t") ≡ false → same_name name (codes "f") ≡ true → w ≡ record v { label = label.take_constant v.label false }
    → StepsInLabel spec.AtOperand v (token.Identifier name) (Ok (place.Body at.AfterOperand)) w
false_put v w name m n e = λ p l b g s.
    subst (λ d. Leads (named d (same_name name (codes "f")) b p) b g (Ok (place.Body at.AfterOperand)) w) (sym m)
    (subst (λ d. Leads (named false d b p) b g (Ok (place.Body at.AfterOperand)) w) (sym n) (constant_put v w false p b g e l s))

pub alternative_put : (v w : BodyView) (t : HoaToken) → t ≡ token.OrSign → w ≡ record v { label = label.take_alternative v.label } → StepsInLabel spec.AfterOperand v t (Ok (place.Body at.Operand)) w
alternative_put v w t o e = subst (λ u. StepsInLabel spec.AfterOperand v u (Ok (place.Body at.Operand)) w) (sym o) (λ p l b g s. relabelled v w _ (spec.AtOperand (record p { inner = record { sum = Some (whole p.inner); product = None; negations = 0 } })) at.Operand b g refl e s (ap label.take_alternative l ∙ sym (shows_alternative p)))

-- a part around another one
some_around : (p : LabelPart) (ps : List LabelPart) → shown_around (p ∷ ps) ≡ [] → ⊥
some_around p ps e = some (shown_around ps) e
  where
    some : (xs : List label.PartView) → xs ++ shown_part (sign_within ps) p ∷ [] ≡ [] → ⊥
    some [] q = cc
    some (z ∷ xs) q = cc

pub bracket_closed : (v w : BodyView) → label.Closes v.label true w.label → w ≡ record v { label = w.label } → StepsInLabel spec.AfterOperand v token.CloseBracket (Ok (place.Body at.AfterOperand)) w
bracket_closed v w c e = λ p l. go p.inner p.around l
  where
    go : (inner : LabelPart) (around : List LabelPart) → v.label ≡ shown_label (record { inner = inner; around = around }) → (b : Before) (g : Came) → ShowsBody v spec.AtEdge b g → Leads (table.close_bracket b inner around) b g (Ok (place.Body at.AfterOperand)) w
    go inner [] l b g s = absurd (none w.label.around c.0 (sym (ap (λ y. y.around) l) ∙ c.1))
      where
        none : (xs : List label.PartView) (y : label.PartView) → [] ≡ xs ++ y ∷ [] → ⊥
        none [] y q = cc
        none (z ∷ xs) y q = cc
    go inner (p ∷ ps) l b g s =
        relabelled v w w.label (spec.AfterOperand (record { inner = with_operand p (BracketLabel (whole inner)); around = ps })) at.AfterOperand b g refl e s (shows_closed inner p ps w.label (subst (λ y. label.Closes y true w.label) l c))

pub no_bracket : (v w : BodyView) → v.label.around ≡ [] → StepsInLabel spec.AfterOperand v token.CloseBracket (Err (Fault BadToken)) w
no_bracket v w c = λ p l b g s. go p.inner p.around b g (sym (ap (λ y. y.around) l) ∙ c)
  where
    go : (inner : LabelPart) (around : List LabelPart) (b : Before) (g : Came) → shown_around around ≡ [] → Leads (table.close_bracket b inner around) b g (Err (Fault BadToken)) w
    go inner [] b g e = refl
    go inner (p ∷ ps) b g e = absurd (some_around p ps e)

-- the end of a label
none_length : {T : Type 0} (xs : List T) → (length xs == 0) ≡ true → xs ≡ []
none_length xs e = nil_from_length xs (eqb-true (length xs) 0 e)

pub still_open : (v w : BodyView) → label.is_closed v.label ≡ false → StepsInLabel spec.AfterOperand v token.CloseLabel (Err (Fault BadToken)) w
still_open v w c = λ p l b g s. go p.inner p.around b (record g { cubes = label_cubes (whole p.inner) }) (sym (ap label.is_closed l) ∙ c)
  where
    go : (inner : LabelPart) (around : List LabelPart) (b : Before) (g : Came) → (length (shown_around around) == 0) ≡ false → Leads (table.close_label stated_limits b inner around) b g (Err (Fault BadToken)) w
    go inner [] b g e = cc
    go inner (p ∷ ps) b g e = refl

-- the end of a whole label, which is wide or not
abbrev ended : LabelPart → Bool → Before → Step
ended inner wide b =
    let edges = b.edges + length (label_cubes (whole inner)) in
    if wide || nat_lt stated_limits.hoa_edges edges then Err fault.LimitPassed else Ok (record b { place = spec.InBody spec.AtTarget; edges = edges })

abbrev Ends : BodyView → Result Place Stop → BodyView → Type 0
Ends v r w =
    (inner : LabelPart) (wide : Bool) (b : Before) (g : Came) → label.whole v.label.inner ≡ (if wide then None else Some (label_cubes (whole inner))) → ShowsBody v spec.AtEdge b g
    → Leads (ended inner wide b) b (record g { cubes = label_cubes (whole inner) }) r w

ends : (v w : BodyView) (r : Result Place Stop) → label.is_closed v.label ≡ true → Ends v r w → StepsInLabel spec.AfterOperand v token.CloseLabel r w
ends v w r c f = λ p l. go p.inner p.around l
  where
    go : (inner : LabelPart) (around : List LabelPart) → v.label ≡ shown_label (record { inner = inner; around = around }) → (b : Before) (g : Came) → ShowsBody v spec.AtEdge b g
        → Leads (table.close_label stated_limits b inner around) b (record g { cubes = label_cubes (whole inner) }) r w
    go inner [] l b g s = f inner (is_wide stated_limits.label_cubes (whole inner)) b g (ap (λ x. label.whole x.inner) l ∙ sym (part_whole true inner) ∙ narrow_is (whole inner)) s
    go inner (p ∷ ps) l b g s = absurd (some_around p ps (none_length (shown_around (p ∷ ps)) (sym (ap label.is_closed l) ∙ c)))

no_cubes : (cs : List Cube) → None ≡ Some cs → ⊥
no_cubes cs e = cc

pub label_wide : (v w : BodyView) → label.is_closed v.label ≡ true → label.whole v.label.inner ≡ None → StepsInLabel spec.AfterOperand v token.CloseLabel (Err (Fault LimitPassed)) w
label_wide v w c n = ends v w (Err (Fault LimitPassed)) c go
  where
    go : Ends v (Err (Fault LimitPassed)) w
    go inner true b g e s = refl
    go inner false b g e s = absurd (no_cubes _ (sym n ∙ e))

-- its cubes, beside the edges so far
same_cubes : (v : BodyView) (cs : List Cube) (inner : LabelPart) (b : Before) → label.whole v.label.inner ≡ Some cs → label.whole v.label.inner ≡ Some (label_cubes (whole inner)) → b.edges ≡ v.made
    → (cs ≡ label_cubes (whole inner)) × (v.made + length cs ≡ b.edges + length (label_cubes (whole inner)))
same_cubes v cs inner b n e m = let same = some_same cs (label_cubes (whole inner)) (sym n ∙ e) in (same, λ i. (sym m) i + length (same i))
  where
    some_same : (xs ys : List Cube) → Some xs ≡ Some ys → xs ≡ ys
    some_same xs ys e = cc

pub too_many : (v w : BodyView) (cs : List Cube) → label.is_closed v.label ≡ true → label.whole v.label.inner ≡ Some cs → stated_limits.hoa_edges < v.made + length cs → StepsInLabel spec.AfterOperand v token.CloseLabel (Err (Fault LimitPassed)) w
too_many v w cs c n l = ends v w (Err (Fault LimitPassed)) c go
  where
    over : (m k : ℕ) → m < k → nat_lt m k ≡ true
    over m k q = grind (arith, nat_tests, q)

    go : Ends v (Err (Fault LimitPassed)) w
    go inner true b g e s = refl
    go inner false b g e s =
        let same = same_cubes v cs inner b n e s.3 in
        subst (λ d. Leads (if d then Err fault.LimitPassed else Ok (record b { place = spec.InBody spec.AtTarget; edges = b.edges + length (label_cubes (whole inner)) })) b (record g { cubes = label_cubes (whole inner) }) (Err (Fault LimitPassed)) w)
        (sym (ap (nat_lt stated_limits.hoa_edges) (sym same.1) ∙ over _ _ l)) refl

pub label_ended : (v w : BodyView) (cs : List Cube) → label.is_closed v.label ≡ true → label.whole v.label.inner ≡ Some cs → v.made + length cs ≤ stated_limits.hoa_edges
    → w ≡ record v { label = label.spent v.label; made = v.made + length cs; cubes = cs } → StepsInLabel spec.AfterOperand v token.CloseLabel (Ok (place.Body at.Target)) w
label_ended v w cs c n l q = ends v w (Ok (place.Body at.Target)) c go
  where
    few : (m k : ℕ) → k ≤ m → nat_lt m k ≡ false
    few m k q = grind (arith, nat_tests, q)

    go : Ends v (Ok (place.Body at.Target)) w
    go inner true b g e s = absurd (no_cubes cs (sym e ∙ n))
    go inner false b g e s =
        let same = same_cubes v cs inner b n e s.3 in
        let next : Before = record b { place = spec.InBody spec.AtTarget; edges = b.edges + length (label_cubes (whole inner)) } in
        subst (λ d. Leads (if d then Err fault.LimitPassed else Ok next) b (record g { cubes = label_cubes (whole inner) }) (Ok (place.Body at.Target)) w)
        (sym (ap (nat_lt stated_limits.hoa_edges) (sym same.1) ∙ few _ _ l)) (
          subst (λ y. IsAt (place.Body at.Target) y (spec.InBody spec.AtTarget) next (record g { cubes = label_cubes (whole inner) })) (sym q)
              (tt, (s.0, s.1, s.2, sym same.1, s.4, sym same.0, s.6)),
          refl,
        )

-- ---- edges

pub no_target : (v w : BodyView) (n m : ℕ) → m ≡ capped n → v.counts.states ≤ m → StepsAt spec.AtTarget v (token.Int n) (Err (Fault NumberOutOfRange)) w
no_target v w n m c l = λ b g s. too_large n m v.counts.states b.header.states _ b _ w s.0.states (few_states s.0) c l

pub target_taken : (v w : BodyView) (n m : ℕ) → m ≡ capped n → m < v.counts.states → w ≡ record v { target = m; own = v.sets } → StepsAt spec.AtTarget v (token.Int n) (Ok (place.Body at.AfterTarget)) w
target_taken v w n m c l e = λ b g s. in_range n m v.counts.states b.header.states _ b _ _ w s.0.states (few_states s.0) c l (λ k. (
  subst (λ x. IsAt (place.Body at.AfterTarget) x (spec.InBody spec.AfterTarget) (record b { place = spec.InBody spec.AfterTarget }) (came_in spec.AtTarget b (token.Int n) g)) (sym e)
      (tt, (s.0, s.1, s.2, s.3, s.4, s.5, (s.6, s.1.last.0, s.5, sym k, s.4))),
  refl,
))

-- the last edge stands among those of its state
now_filed : (v : BodyView) (es : List CameEdge) → length v.edges ≡ v.counts.states → v.at < v.counts.states → AreOpen v es → AreFiled (filed v) es
now_filed v [] c l o = absurd o
now_filed v (e ∷ es) c l o = λ k m.
    let within : v.at < length v.edges = omega (arith, c, l) in
    set_get v.edges v.at k _ [] within ∙ go k (v.at == k) refl m
  where
    same_edges : cube_edges e ≡ map (λ d. record { cube = d; target = v.target; marks = v.own }) v.cubes
    same_edges =
        ap (λ t. map (λ d. record { cube = d; target = t; marks = set_of nat_cmp e.sets }) e.cubes) o.3
        ∙ ap (λ ms. map (λ d. record { cube = d; target = v.target; marks = ms }) e.cubes) o.4
        ∙ ap (map (λ d. record { cube = d; target = v.target; marks = v.own })) o.2

    go : (k : ℕ) (c : Bool) → (v.at == k) ≡ c → k < v.counts.states
        → (if c then slice_index_or v.edges v.at [] ++ map (λ d. record { cube = d; target = v.target; marks = v.own }) v.cubes else slice_index_or v.edges k [])
        ≡ edges_of k es ++ (if e.state == k then cube_edges e else [])
    go k true q m =
        let here = eqb-true v.at k q in
        ap (λ xs. xs ++ map (λ d. record { cube = d; target = v.target; marks = v.own }) v.cubes) (o.0 v.at l ∙ ap (λ j. edges_of j es) here)
        ∙ ap (λ xs. edges_of k es ++ xs) (sym same_edges ∙ ap (λ d. if d then cube_edges e else []) (sym (ap (λ j. j == k) o.1 ∙ q)))
    go k false q m =
        o.0 k m ∙ sym (append-nil (edges_of k es)) ∙ ap (λ d. edges_of k es ++ (if d then cube_edges e else [])) (sym (ap (λ j. j == k) o.1 ∙ q))

pub filed_shows : (v w : BodyView) (p q : spec.BodyPlace) (b : Before) (g : Came) → is_open p ≡ true → is_open q ≡ false → w ≡ filed v → ShowsBody v p b g → ShowsBody w q b g
filed_shows v w p q b g o c e s =
    subst (λ x. ShowsBody x q b g) (sym e) (
      s.0,
      s.1,
      length-set v.edges v.at _ ∙ s.2,
      s.3,
      s.4,
      s.5,
      subst (λ x. AreAt x (filed v) g.edges) (sym c) (now_filed v g.edges s.2 s.1.last.1 (subst (λ x. AreAt x v g.edges) o s.6)),
    )

pub no_edge_set : (v w : BodyView) (n m : ℕ) → m ≡ capped n → v.counts.sets ≤ m → StepsAt spec.InEdgeSets v (token.Int n) (Err (Fault NumberOutOfRange)) w
no_edge_set v w n m c l = λ b g s. too_large n m v.counts.sets b.header.sets _ b _ w s.0.sets (few_sets s.0) c l

pub edge_set : (v w : BodyView) (n m : ℕ) → m ≡ capped n → m < v.counts.sets → w ≡ record v { own = put nat_cmp m v.own } → StepsAt spec.InEdgeSets v (token.Int n) (Ok (place.Body at.EdgeSets)) w
edge_set v w n m c l e = λ b g s. in_range n m v.counts.sets b.header.sets _ b _ _ w s.0.sets (few_sets s.0) c l (λ k. (
  subst (λ x. IsAt (place.Body at.EdgeSets) x (spec.InBody spec.InEdgeSets) b (record g { edges = with_set n g.edges })) (sym e)
      (tt, (s.0, s.1, s.2, s.3, s.4, s.5, more g.edges k s.6)),
  refl,
))
  where
    more : (es : List CameEdge) → m ≡ n → AreOpen v es → AreOpen (record v { own = put nat_cmp m v.own }) (with_set n es)
    more [] k o = absurd o
    more (x ∷ es) k o = (o.0, o.1, o.2, o.3, put_last x.sets n ∙ ap (put nat_cmp n) o.4 ∙ ap (λ j. put nat_cmp j v.own) (sym k))

pub edge_closed : (v w : BodyView) → w ≡ filed v → StepsAt spec.InEdgeSets v token.CloseSets (Ok (place.Body at.Edge)) w
edge_closed v w e = λ b g s. ((tt, filed_shows v w spec.InEdgeSets spec.AtEdge b g refl refl e s), refl)
