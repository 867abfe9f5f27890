use Rattle.std.proofs.Common.{◌≡◌, ◌+◌, ◌++◌, ◌∷◌, [], ◌<◌, ◌≤◌, ◌∙◌, inl, inr, refl, sym, ap, subst, arith, ℕ, List, length, Result, Err, Option, Some, None}
use Rattle.std.specs.Prelude.{fold, slice_get, slice_index_or, is_some, if◌then◌else◌, IfSome}
use Rattle.std.specs.Result.{IsErrOf, IsErrAnd}
use Rattle.std.proofs.lemmas.Option.{slice_get_within}
use Rattle.ltl_spec.specs.Collections.Lists.{with_new}
use Rattle.ltl_spec.specs.Automata.Automaton.{Automaton, state_at}
use Rattle.ltl_automaton.specs.WorklistView.{WorklistView}
use Rattle.ltl_automaton.specs.Net.{Net, HasSuccessorsOf, IsUnderWay, edges_behind, edges_in, lengths_of, targets_of, with_made}
use Rattle.ltl_automaton.specs.declared.fault.AutomatonFault.{AutomatonFault}
use Rattle.ltl_automaton.specs.declared.fault.AutomatonFault.TheVariants.{TooLarge}
use Rattle.ltl_automaton.specs.SharedView.{with_state}
use Rattle.ltl_automaton.proofs.NetLaws.{decides_from}
use Rattle.ltl_automaton.proofs.ReachableLaws.{bounded}
use Rattle.ltl_automaton.proofs.WayLaws.{begins, goes_on, goes_on_like, keys_stay, length_at, lengths_next, states_count, same_successors_here, too_many_ahead, too_many_edges, too_many_states, arrives, fits_within}
use Rattle.ltl_automaton.proofs.explore.explore_from.Goals as goal

passed_on : {T : Type 0} (r : Result T AutomatonFault) (P : AutomatonFault → Type 0) → IsErrAnd r P → IsErrOf r TooLarge → P TooLarge
passed_on r P a e = subst (λ q. IsErrAnd q P) e a

-- what is known of a thing that was found
known_there : (r : Option ℕ) (P : ℕ → Type 0) (i : ℕ) → IfSome r P → r ≡ Some i → P i
known_there r P i h e = subst (λ o. IfSome o P) e h

-- a bound of the same numbers
less_with : (most a b : ℕ) (xs ys : List ℕ) (place : ℕ) → a ≡ b → xs ≡ ys → most < a + slice_index_or xs place 0 → most < b + slice_index_or ys place 0
less_with most a b xs ys place e f l = subst (λ n. most < n) (λ i. e i + slice_index_or (f i) place 0) l

pub things-init : goal.things-init
things-init g c =
    let same = g.K.PartialEq.eq in
    let decides = decides_from same g.met.K.Eq.laws g.met.K.Key.exact in
    let N = g.S.Successors.net c.args.net.now in
    let sets = (g.M.Builder.built c.args.builder).sets in
    let begun = c.in_ok-progress.ensures.0 in
    let none = c.in_ok-progress.ensures.1 in
    let some = c.requires.some in
    let one = ap (λ (l : WorklistView g.row.K.Denot). length l.keys) begun.0 in
    record {
      way = subst (λ n. IsUnderWay same g.M.Builder.sorts N c.args.start sets c.in_ok-progress.progress.listing n (g.M.Builder.built c.args.builder)) (sym none)
          (begins same decides g.M.Builder.sorts N c.args.start sets c.in_ok-progress.progress.listing (g.M.Builder.built c.args.builder) begun.0 (ap (λ ss. let X : Automaton = record { sets = sets; states = ss } in X) c.requires.begun));
      lengths = begun.1 ∙ ap (lengths_of N) (sym begun.0);
      net = refl;
      ready = c.requires.ready.0;
      built = c.requires.ready.1;
      few_states = omega (arith, one, some);
      few_edges = omega (arith, none);
    }

pub returns-in_err-key-clause-large : goal.returns-in_err-key-clause-large
returns-in_err-key-clause-large g c = λ e.
    let same = g.K.PartialEq.eq in
    let N = g.S.Successors.net c.args.net.now in
    let decides = decides_from same g.met.K.Eq.laws g.met.K.Key.exact in
    let large = c.in_err-key.ensures.large (ap (λ (f : AutomatonFault). Err f) (sym (passed_on _ _ c.from_residual-in_err-key.ensures.1 e))) in
    too_many_ahead same decides g.M.Builder.sorts N c.args.start (g.M.Builder.built c.args.builder).sets c.things.progress.listing c.things.progress.edges (g.M.Builder.built c.things.made) c.things.invariant.way c.args.limits.states c.args.limits.edges
    (subst (λ (n : Net g.row.K.Denot). c.args.limits.edges < c.things.progress.edges + edges_behind n c.things.progress.listing.keys c.things.progress.listing.explored) c.things.invariant.net large)

pub returns-in_err-put_like-clause-large : goal.returns-in_err-put_like-clause-large
returns-in_err-put_like-clause-large g c = λ e.
    let same = g.K.PartialEq.eq in
    let N = g.S.Successors.net c.args.net.now in
    let decides = decides_from same g.met.K.Eq.laws g.met.K.Key.exact in
    let key = c.in-Some.key in
    let way = c.things.invariant.way in
    let A = g.M.Builder.built c.things.made in
    let sets = (g.M.Builder.built c.args.builder).sets in
    let found : slice_get c.things.progress.listing.keys c.things.progress.listing.explored ≡ Some key = sym c.in_ok-key.ensures.next ∙ c.in-Some.is in
    let net = c.in_ok-key.ensures.net.0 ∙ c.things.invariant.net in
    let place = c.in-Some-2.place in
    let known = known_there _ _ place c.in_ok-place.ensures.place c.in-Some-2.is in
    let before : place < c.things.progress.listing.explored = subst (λ n. place < n) (c.len.ensures ∙ states_count same decides g.M.Builder.sorts N c.args.start sets c.things.progress.listing c.things.progress.edges A way) known.0 in
    let same_successors_as : HasSuccessorsOf N c.things.progress.listing.keys place key = same_successors_here _ N c.take_next.new.progress.listing.keys c.things.progress.listing.keys place key net c.in_ok-key.ensures.keys known.1 in
    let more = length_at same decides g.M.Builder.sorts N c.args.start sets c.things.progress.listing c.things.progress.edges A way key found place before same_successors_as c.things.progress.lengths.items 0 c.things.invariant.lengths in
    let same_counts = c.in_ok-key.ensures.same in
    let large : c.args.limits.edges < c.things.progress.edges + slice_index_or c.things.progress.lengths.items place 0 =
    less_with _ _ _ _ _ place same_counts.0 same_counts.1 (c.in_err-put_like.ensures.large (ap (λ (f : AutomatonFault). Err f) (sym (passed_on _ _ c.from_residual-in_err-put_like.ensures.1 e)))) in
    too_many_edges same decides g.M.Builder.sorts N c.args.start sets c.things.progress.listing c.things.progress.edges A way key found c.args.limits.states c.args.limits.edges (subst (λ n. c.args.limits.edges < c.things.progress.edges + n) more large)

pub things-smaller-in-Continue-branch-6 : goal.things-smaller-in-Continue-branch-6
things-smaller-in-Continue-branch-6 g c =
    let found : slice_get c.things.progress.listing.keys c.things.progress.listing.explored ≡ Some c.in-Some.key = sym c.in_ok-key.ensures.next ∙ c.in-Some.is in
    let inside = slice_get_within c.things.progress.listing.keys c.things.progress.listing.explored c.in-Some.key found in
    let few = c.things.invariant.few_states in
    let explored : c.take_next.new.progress.listing.explored ≡ c.things.progress.listing.explored + 1 = c.in_ok-key.ensures.explored ∙ ap (λ o. if is_some o then c.things.progress.listing.explored + 1 else c.things.progress.listing.explored) c.in-Some.is in
    let stays = ap (λ (l : WorklistView g.row.K.Denot). l.explored) c.in_ok-put_like.ensures.listing in
    omega (arith, inside, few, explored, stays)

pub things-preserved-in-Continue-branch-6 : goal.things-preserved-in-Continue-branch-6
things-preserved-in-Continue-branch-6 g c =
    let same = g.K.PartialEq.eq in
    let N = g.S.Successors.net c.args.net.now in
    let decides = decides_from same g.met.K.Eq.laws g.met.K.Key.exact in
    let key = c.in-Some.key in
    let way = c.things.invariant.way in
    let A = g.M.Builder.built c.things.made in
    let sets = (g.M.Builder.built c.args.builder).sets in
    let found : slice_get c.things.progress.listing.keys c.things.progress.listing.explored ≡ Some key = sym c.in_ok-key.ensures.next ∙ c.in-Some.is in
    let net = c.in_ok-key.ensures.net.0 ∙ c.things.invariant.net in
    let place = c.in-Some-2.place in
    let known = known_there _ _ place c.in_ok-place.ensures.place c.in-Some-2.is in
    let before : place < c.things.progress.listing.explored = subst (λ n. place < n) (c.len.ensures ∙ states_count same decides g.M.Builder.sorts N c.args.start sets c.things.progress.listing c.things.progress.edges A way) known.0 in
    let same_successors_as : HasSuccessorsOf N c.things.progress.listing.keys place key = same_successors_here _ N c.take_next.new.progress.listing.keys c.things.progress.listing.keys place key net c.in_ok-key.ensures.keys known.1 in
    let more = length_at same decides g.M.Builder.sorts N c.args.start sets c.things.progress.listing c.things.progress.edges A way key found place before same_successors_as c.things.progress.lengths.items 0 c.things.invariant.lengths in
    let explored : c.take_next.new.progress.listing.explored ≡ c.things.progress.listing.explored + 1 = c.in_ok-key.ensures.explored ∙ ap (λ o. if is_some o then c.things.progress.listing.explored + 1 else c.things.progress.listing.explored) c.in-Some.is in
    let stay = ap (λ (l : WorklistView g.row.K.Denot). l.keys) c.in_ok-put_like.ensures.listing ∙ c.in_ok-key.ensures.keys ∙ sym (keys_stay same decides g.M.Builder.sorts N c.args.start sets c.things.progress.listing c.things.progress.edges A way key found place before same_successors_as) in
    let accepts = c.accepting-accepting.ensures ∙ ap (λ (n : Net g.row.K.Denot). n.accepts key) (c.in_ok-place.ensures.same ∙ net) in
    let made : g.M.Builder.built c.put_like.new.made ≡ with_state A (N.accepts key) (state_at A place).edges = c.in_ok-put_like.ensures.made.0 ∙ ap (λ b. with_state A b (state_at A place).edges) accepts in
    let counts = c.in_ok-key.ensures.same in
    let stays = c.in_ok-put_like.ensures.listing in
    let listed : c.put_like.new.progress.listing.keys ≡ c.things.progress.listing.keys = ap (λ (l : WorklistView g.row.K.Denot). l.keys) stays ∙ c.in_ok-key.ensures.keys in
    let next : c.put_like.new.progress.listing.explored ≡ c.things.progress.listing.explored + 1 = ap (λ (l : WorklistView g.row.K.Denot). l.explored) stays ∙ explored in
    let sum : c.put_like.new.progress.edges ≡ c.things.progress.edges + length (N.successors key) =
    c.in_ok-put_like.ensures.sum.0 ∙ (λ i. counts.0 i + slice_index_or (counts.1 i) place 0) ∙ ap (λ n. c.things.progress.edges + n) more in
    let longer : c.put_like.new.progress.lengths.items ≡ c.things.progress.lengths.items ++ slice_index_or c.things.progress.lengths.items place 0 ∷ [] =
    c.in_ok-put_like.ensures.lengths ∙ (λ i. counts.1 i ++ slice_index_or (counts.1 i) place 0 ∷ []) in
    record {
      way = goes_on_like same decides g.M.Builder.sorts N c.args.start sets c.things.progress.listing c.things.progress.edges A way key found place c.put_like.new.progress.listing c.put_like.new.progress.edges (g.M.Builder.built c.put_like.new.made) before same_successors_as
          listed next sum made;
      lengths = lengths_next same decides g.M.Builder.sorts N c.args.start sets c.things.progress.listing c.things.progress.edges A way key found c.put_like.new.progress.listing (slice_index_or c.things.progress.lengths.items place 0) c.things.progress.lengths.items c.put_like.new.progress.lengths.items
          stay next c.things.invariant.lengths more longer;
      net = c.in_ok-place.ensures.same ∙ net;
      ready = c.in_ok-place.ensures.ready;
      built = c.in_ok-put_like.ensures.made.1;
      few_states = subst (λ (ks : List g.row.K.Denot). length ks ≤ c.args.limits.states) (sym listed) c.things.invariant.few_states;
      few_edges = c.in_ok-put_like.ensures.sum.1;
    }

pub returns-in_err-put_new-clause-large : goal.returns-in_err-put_new-clause-large
returns-in_err-put_new-clause-large g c = λ e.
    let same = g.K.PartialEq.eq in
    let N = g.S.Successors.net c.args.net.now in
    let decides = decides_from same g.met.K.Eq.laws g.met.K.Key.exact in
    let key = c.in-Some.key in
    let A = g.M.Builder.built c.things.made in
    let sets = (g.M.Builder.built c.args.builder).sets in
    let way = c.things.invariant.way in
    let found : slice_get c.things.progress.listing.keys c.things.progress.listing.explored ≡ Some key = sym c.in_ok-key.ensures.next ∙ c.in-Some.is in
    let net = c.in_ok-place.ensures.same ∙ c.in_ok-key.ensures.net.0 ∙ c.things.invariant.net in
    let grown : fold (with_new same) c.take_next.new.progress.listing.keys (targets_of (g.S.Successors.net c.known_place.new.net) key) ≡ fold (with_new same) c.things.progress.listing.keys (targets_of N key) =
    λ i. fold (with_new same) (c.in_ok-key.ensures.keys i) (targets_of (net i) key) in
    let large = c.in_err-put_new.ensures.large (ap (λ (f : AutomatonFault). Err f) (sym (passed_on _ _ c.from_residual-in_err-put_new.ensures.1 e))) in
    elim large [
      | inl l ↦ too_many_edges same decides g.M.Builder.sorts N c.args.start sets c.things.progress.listing c.things.progress.edges A way key found c.args.limits.states c.args.limits.edges
          (subst (λ m. c.args.limits.edges < m) (λ i. c.in_ok-key.ensures.same.0 i + length ((net i).successors key)) l)
      | inr l ↦ too_many_states same decides g.M.Builder.sorts N c.args.start sets c.things.progress.listing c.things.progress.edges A way key found c.args.limits.states c.args.limits.edges _ grown l
    ]

pub things-smaller : goal.things-smaller
things-smaller g c =
    let found : slice_get c.things.progress.listing.keys c.things.progress.listing.explored ≡ Some c.in-Some.key = sym c.in_ok-key.ensures.next ∙ c.in-Some.is in
    let inside = slice_get_within c.things.progress.listing.keys c.things.progress.listing.explored c.in-Some.key found in
    let few = c.things.invariant.few_states in
    let explored = c.in_ok-key.ensures.explored ∙ ap (λ o. if is_some o then c.things.progress.listing.explored + 1 else c.things.progress.listing.explored) c.in-Some.is in
    let stays = c.in_ok-put_new.ensures.listed.0.1 in
    omega (arith, inside, few, explored, stays)

pub things-preserved : goal.things-preserved
things-preserved g c =
    let same = g.K.PartialEq.eq in
    let N = g.S.Successors.net c.args.net.now in
    let decides = decides_from same g.met.K.Eq.laws g.met.K.Key.exact in
    let key = c.in-Some.key in
    let A = g.M.Builder.built c.things.made in
    let sets = (g.M.Builder.built c.args.builder).sets in
    let way = c.things.invariant.way in
    let found : slice_get c.things.progress.listing.keys c.things.progress.listing.explored ≡ Some key = sym c.in_ok-key.ensures.next ∙ c.in-Some.is in
    let net = c.in_ok-place.ensures.same ∙ c.in_ok-key.ensures.net.0 ∙ c.things.invariant.net in
    let keys = c.put_new.new.progress.listing.keys in
    let grown : keys ≡ fold (with_new same) c.things.progress.listing.keys (targets_of N key) =
    c.in_ok-put_new.ensures.listed.0.0 ∙ (λ i. fold (with_new same) (c.in_ok-key.ensures.keys i) (targets_of (net i) key)) in
    let explored : c.put_new.new.progress.listing.explored ≡ c.things.progress.listing.explored + 1 =
    c.in_ok-put_new.ensures.listed.0.1 ∙ c.in_ok-key.ensures.explored ∙ ap (λ o. if is_some o then c.things.progress.listing.explored + 1 else c.things.progress.listing.explored) c.in-Some.is in
    let sum : c.put_new.new.progress.edges ≡ c.things.progress.edges + length (N.successors key) = c.in_ok-put_new.ensures.sum.0 ∙ (λ i. c.in_ok-key.ensures.same.0 i + length ((net i).successors key)) in
    let made : g.M.Builder.built c.put_new.new.made ≡ with_made same g.M.Builder.sorts N key keys A = c.in_ok-put_new.ensures.made.0 ∙ ap (λ (n : Net g.row.K.Denot). with_made same g.M.Builder.sorts n key keys A) net in
    let long : c.put_new.new.progress.lengths.items ≡ c.things.progress.lengths.items ++ length (N.successors key) ∷ [] = c.in_ok-put_new.ensures.lengths ∙ (λ i. c.in_ok-key.ensures.same.1 i ++ length ((net i).successors key) ∷ []) in
    record {
      way = goes_on same decides g.M.Builder.sorts N c.args.start sets c.things.progress.listing c.things.progress.edges A way key found c.put_new.new.progress.listing c.put_new.new.progress.edges (edges_in same g.M.Builder.sorts keys (N.successors key))
          (g.M.Builder.built c.put_new.new.made) grown explored sum refl made;
      lengths = lengths_next same decides g.M.Builder.sorts N c.args.start sets c.things.progress.listing c.things.progress.edges A way key found c.put_new.new.progress.listing (length (N.successors key)) c.things.progress.lengths.items
          c.put_new.new.progress.lengths.items grown explored c.things.invariant.lengths refl long;
      net = c.in_ok-put_new.ensures.net.0 ∙ net;
      ready = c.in_ok-put_new.ensures.net.1;
      built = c.in_ok-put_new.ensures.made.1;
      few_states = c.in_ok-put_new.ensures.listed.1;
      few_edges = c.in_ok-put_new.ensures.sum.1;
    }

pub returns-clause-reachable : goal.returns-clause-reachable
returns-clause-reachable g c =
    let same = g.K.PartialEq.eq in
    let N = g.S.Successors.net c.args.net.now in
    let decides = decides_from same g.met.K.Eq.laws g.met.K.Key.exact in
    let none : slice_get c.things.progress.listing.keys c.things.progress.listing.explored ≡ None = sym c.in_ok-key.ensures.next ∙ c.in_default.is in
    arrives same decides g.M.Builder.sorts N c.args.start (g.M.Builder.built c.args.builder).sets c.things.progress.listing c.things.progress.edges (g.M.Builder.built c.things.made) c.things.invariant.way none

pub returns-clause-bounded : goal.returns-clause-bounded
returns-clause-bounded g c =
    let same = g.K.PartialEq.eq in
    let N = g.S.Successors.net c.args.net.now in
    let decides = decides_from same g.met.K.Eq.laws g.met.K.Key.exact in
    let sets = (g.M.Builder.built c.args.builder).sets in
    let none : slice_get c.things.progress.listing.keys c.things.progress.listing.explored ≡ None = sym c.in_ok-key.ensures.next ∙ c.in_default.is in
    bounded same decides g.M.Builder.sorts N c.args.start sets c.args.limits.states c.args.limits.edges (g.M.Builder.built c.things.made)
    (arrives same decides g.M.Builder.sorts N c.args.start sets c.things.progress.listing c.things.progress.edges (g.M.Builder.built c.things.made) c.things.invariant.way none)
    (fits_within same decides g.M.Builder.sorts N c.args.start sets c.things.progress.listing c.things.progress.edges (g.M.Builder.built c.things.made) c.things.invariant.way none c.args.limits.states c.args.limits.edges c.things.invariant.few_states c.things.invariant.few_edges)

pub returns-clause-fits : goal.returns-clause-fits
returns-clause-fits g c =
    let same = g.K.PartialEq.eq in
    let N = g.S.Successors.net c.args.net.now in
    let decides = decides_from same g.met.K.Eq.laws g.met.K.Key.exact in
    let none : slice_get c.things.progress.listing.keys c.things.progress.listing.explored ≡ None = sym c.in_ok-key.ensures.next ∙ c.in_default.is in
    fits_within same decides g.M.Builder.sorts N c.args.start (g.M.Builder.built c.args.builder).sets c.things.progress.listing c.things.progress.edges (g.M.Builder.built c.things.made) c.things.invariant.way none c.args.limits.states c.args.limits.edges c.things.invariant.few_states c.things.invariant.few_edges
