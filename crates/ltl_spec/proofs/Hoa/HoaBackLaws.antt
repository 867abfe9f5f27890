-- A text without a fault reads as an automaton.
use Rattle.std.proofs.Common.{◌≡◌, ℕ, ◌≤◌, Bool, true, false, not, ◌||◌, ◌↔◌, inl, inr, List, [], ◌∷◌, ◌++◌, length, refl, sym, ◌∙◌, ap, subst, arith, append_assoc, Option, Some, None}
use Rattle.std.specs.Prelude.{if◌then◌else◌, nat_lt, IsTrue, fold, take, map, flat_map, filter_map, Ok, Err, codes}
use Rattle.std.specs.List.{AllByRecursion, cons_option, list_all, list_any, range_with_len}
use Rattle.std.proofs.lemmas.Bool.{and_from, or_right, false≢true, ltb-false}
use Rattle.std.proofs.lemmas.Option.{same_Some}
use Rattle.ltl_spec.specs.Collections.Sets.{Has}
use Rattle.ltl_spec.specs.Collections.Lists.{HasNoRepeats}
use Rattle.ltl_spec.specs.Semantics.Word.{Name}
use Rattle.ltl_spec.specs.Formulas.Tokens.{same_name}
use Rattle.ltl_spec.specs.Formulas.Names.{is_proposition}
use Rattle.ltl_spec.specs.Tools.Limits.{Limits}
use Rattle.ltl_spec.specs.Hoa.HoaToken.{HoaToken, Identifier, Header, Body, End, HoaItem, hoa_items, hoa_tokens, last_line}
use Rattle.ltl_spec.specs.Hoa.HoaReading.{AcceptanceForm, HoaHeaderItem, StatesItem, SetsItem, NamesItem, header_item_tokens, state_tokens, HoaDocument, MarkedAutomaton, edges_at, states_in, sets_in, names_in, HoaReadsWithin}
use Rattle.ltl_spec.specs.Hoa.HoaFaultKind.{NotHoaVersion1, LimitPassed}
use Rattle.ltl_spec.specs.Hoa.HoaPlace.{PlainItem, Place, AtFormat, AtVersion, AtItem, AtEnd, Before, before_all, no_header}
use Rattle.ltl_spec.specs.Hoa.HoaStep.{step}
use Rattle.ltl_spec.specs.Hoa.HoaFault.{HoaFault, take_item, with_line, fault_after, end_fault, fault_at, hoa_fault}
use Rattle.ltl_spec.proofs.Collections.SetLaws.{append_left, append_right}
use Rattle.ltl_spec.proofs.Hoa.HoaLabelLaws.{run}
use Rattle.ltl_spec.proofs.Hoa.HoaHeaderLaws.{at, Stands, NewNames, no_names, new_name}
use Rattle.ltl_spec.specs.Hoa.HoaMachine.{unless_fault, hoa_answer}
use Rattle.ltl_spec.proofs.Hoa.HoaLaws.{reads_without_fault, answers_reading}
use Rattle.ltl_spec.proofs.Hoa.HoaBodyBack.{Ended, no_end, if_ended}
use Rattle.ltl_spec.proofs.Hoa.HoaHeaderBack.{IsChecked, HeaderRest, known_items, nothing_left}
use Rattle.ltl_spec.proofs.Formulas.NameLaws.{same_self, same_exact}

-- one that has still to come stands among the items
comes : {K : Type 0} (x : K) (xs : List K) → Stands None x xs → xs ≡ x ∷ []
comes x xs (inl (n, e)) = e
comes x xs (inr (s, e)) = cc

-- new names are propositions, and all different
names_fine : (done names : List Name) → NewNames done names → IsTrue (list_all is_proposition names)
names_fine done names (no_names done') = refl
names_fine done names (new_name done' rest n p q more) = and_from _ _ p (names_fine _ rest more)

names_differ : (done names : List Name) → NewNames done names → HasNoRepeats names × ((n : Name) → Has names n → ¬ (Has done n))
names_differ done names (no_names done') = (tt, λ n h g. h)
names_differ done names (new_name done' rest n p q more) =
    let others = names_differ (done' ++ n ∷ []) rest more in (
      ((λ h. others.1 n h (append_right done' (n ∷ []) n (inl refl))), others.0),
      λ k h g. elim h [ inl e ↦ not_there (subst (Has done') e g) q | inr i ↦ others.1 k i (append_left done' (n ∷ []) k g) ],
    )
  where
    there : (ms : List Name) → Has ms n → list_any (same_name n) ms ≡ true
    there [] h = absurd h
    there (m ∷ ms) (inl e) = subst (λ j. (same_name n j || list_any (same_name n) ms) ≡ true) e (ap (λ t. t || list_any (same_name n) ms) (same_self n))
    there (m ∷ ms) (inr h) = or_right (same_name n m) _ (there ms h)

    not_there : Has done' n → IsTrue (not (list_any (same_name n) done')) → ⊥
    not_there h t = false≢true (sym (ap not (there done' h)) ∙ t)

module _ (l : Limits) (form : AcceptanceForm) where
  -- what the one item of a kind was looked at for
  picked : {K : Type 0} (f : HoaHeaderItem → Option K) (P : K → Type 0) → ((i : HoaHeaderItem) (x : K) → f i ≡ Some x → IsChecked l form i → P x)
      → (x : K) (items : List HoaHeaderItem) → AllByRecursion (IsChecked l form) items → filter_map f items ≡ x ∷ [] → P x
  picked f P w x [] c e = cc
  picked {K} f P w x (i ∷ items) c e =
      elim (f i) as (λ o. f i ≡ o → cons_option o (filter_map f items) ≡ x ∷ [] → P x) [
        | Some y ↦ λ q h. subst P (ap (first y) h) (w i y q c.0)
        | None ↦ λ q h. picked f P w x items c.1 h
      ] refl e
    where
      first : K → List K → K
      first d [] = d
      first d (z ∷ zs) = z

  states_picked : (i : HoaHeaderItem) (x : ℕ) → states_in i ≡ Some x → IsChecked l form i → x ≤ l.hoa_states
  states_picked (StatesItem n) x q c = subst (λ m. m ≤ l.hoa_states) (same_Some n x q) c
  states_picked _ x q c = cc

  sets_picked : (i : HoaHeaderItem) (x : ℕ) → sets_in i ≡ Some x → IsChecked l form i → x ≤ form
  sets_picked (SetsItem n) x q c = subst (λ m. m ≤ form) (same_Some n x q) c
  sets_picked _ x q c = cc

  abbrev FineNames : List Name → Type 0
  FineNames names = (length names ≤ l.propositions) × NewNames [] names

  names_picked : (i : HoaHeaderItem) (x : List Name) → names_in i ≡ Some x → IsChecked l form i → FineNames x
  names_picked (NamesItem names) x q c = subst FineNames (same_Some names x q) c
  names_picked _ x q c = cc

  ended_items : (text : List ℕ) (items : List HoaItem) (b : Before) → fault_after l form text (fold (take_item l form text) (Ok b) items) ≡ None → Ended (run l form (Ok b) (map (λ i. i.token) items))
  ended_items text [] b e = (b, refl, ended b.place e)
    where
      ended : (place : Place) → end_fault place (last_line text) ≡ None → place ≡ AtEnd
      ended AtEnd q = refl
      ended _ q = cc
  ended_items text (i ∷ items) b e =
      elim (step l form b.place b i.token) as (λ o. fault_after l form text (fold (take_item l form text) (with_line l form text b.place i o) items) ≡ None → Ended (run l form o (map (λ j. j.token) items))) [
        | Ok d ↦ λ h. ended_items text items d h
        | Err kind ↦ λ h. absurd (stays _ items h)
      ] e
    where
      stays : (f : HoaFault) (js : List HoaItem) → fault_after l form text (fold (take_item l form text) (Err f) js) ≡ None → ⊥
      stays f [] h = cc
      stays f (j ∷ js) h = stays f js h

  abbrev Begun : List HoaToken → Type 0
  Begun ts = (rest : List HoaToken) × (ts ≡ Header (codes "HOA") ∷ Identifier (codes "v1") ∷ rest) × HeaderRest l form no_header rest

  version_back : (ts : List HoaToken) → Ended (run l form (at l form AtVersion no_header [] 0) ts) → Begun (Header (codes "HOA") ∷ ts)
  version_back [] e = absurd (not_end e)
    where
      not_end : Ended (at l form AtVersion no_header [] 0) → ⊥
      not_end f = let q = nothing_left l form AtVersion no_header f in cc
  version_back (Identifier s ∷ ts) e =
      let taken = if_ended l form (same_name s (codes "v1")) (at l form (AtItem PlainItem) no_header [] 0) NotHoaVersion1 ts e in
      (ts, ap (λ n. Header (codes "HOA") ∷ Identifier n ∷ ts) (same_exact s (codes "v1") taken.0), known_items l form ts (AtItem PlainItem) no_header taken.1)
  version_back (t ∷ ts) e = no_end l form _ ts e

  format_back : (ts : List HoaToken) → Ended (run l form (Ok before_all) ts) → Begun ts
  format_back [] e = absurd (not_end e)
    where
      not_end : Ended (at l form AtFormat no_header [] 0) → ⊥
      not_end f = let q = nothing_left l form AtFormat no_header f in cc
  format_back (Header name ∷ ts) e =
      let taken = if_ended l form (same_name name (codes "HOA")) (at l form AtVersion no_header [] 0) NotHoaVersion1 ts e in
      subst (λ n. Begun (Header n ∷ ts)) (sym (same_exact name (codes "HOA") taken.0)) (version_back ts taken.1)
  format_back (t ∷ ts) e = no_end l form _ ts e

  read_whole : (text : List ℕ) → length text ≤ l.hoa_bytes → Begun (hoa_tokens text) → (A : MarkedAutomaton) × HoaReadsWithin l form text A
  read_whole text m (rest, q, r) =
      let d : HoaDocument = record { items = r.items; states = r.body.states } in
      let A : MarkedAutomaton = record r.automaton { edges = map (edges_at d) (range_with_len 0 r.automaton.states) } in
      let states = comes A.states _ r.fits.states in
      let sets = comes A.sets _ r.fits.sets in
      let names = comes A.names _ r.fits.names in
      let fine = picked names_in FineNames names_picked A.names r.items r.checked names in (
        A,
        record {
          document = d;
          spelled = q ∙ ap (λ ts. Header (codes "HOA") ∷ Identifier (codes "v1") ∷ ts) (
              r.spelled ∙ ap (λ ts. flat_map header_item_tokens r.items ++ Body ∷ ts) r.body.spelled
              ∙ sym (append_assoc (flat_map header_item_tokens r.items) (Body ∷ flat_map state_tokens r.body.states) (End ∷ [])));
          describes = record {
            items = r.good;
            states = states;
            start = comes A.start _ r.fits.start;
            sets = sets;
            names = names;
            few_sets = picked sets_in (λ n. n ≤ form) sets_picked A.sets r.items r.checked sets;
            begins = r.begins;
            propositions = names_fine [] A.names fine.1;
            differ = (names_differ [] A.names fine.1).0;
            once = r.body.once;
            inside = r.body.inside;
            edges = refl;
          };
          within = record {
            bytes = m;
            states = picked states_in (λ n. n ≤ l.hoa_states) states_picked A.states r.items r.checked states;
            names = fine.0;
            labels = r.body.narrow;
            edges = (omega (arith, r.body.count));
          };
        },
      )

  -- a text without a fault reads as an automaton within the limits
  pub no_fault_reads : (text : List ℕ) → hoa_fault l form text ≡ None → (A : MarkedAutomaton) × HoaReadsWithin l form text A
  no_fault_reads text e = go (nat_lt l.hoa_bytes (length text)) refl e
    where
      go : (c : Bool) → nat_lt l.hoa_bytes (length text) ≡ c
          → (if c then fault_at LimitPassed (last_line (take l.hoa_bytes text)) else fault_after l form text (fold (take_item l form text) (Ok before_all) (hoa_items text))) ≡ None
          → (A : MarkedAutomaton) × HoaReadsWithin l form text A
      go true q f = cc
      go false q f = read_whole text (ltb-false l.hoa_bytes (length text) q) (format_back (hoa_tokens text) (ended_items text (hoa_items text) before_all f))

  -- a text has no fault exactly when it reads as an automaton within the limits
  pub reads_exactly : (text : List ℕ) → (hoa_fault l form text ≡ None) ↔ ((A : MarkedAutomaton) × HoaReadsWithin l form text A)
  reads_exactly text = (no_fault_reads text, λ r. reads_without_fault l form text r.0 r.1)

  -- the machine answers an automaton exactly when the text reads as that one within the limits
  pub answers_exactly : (text : List ℕ) (A : MarkedAutomaton) → (hoa_answer l form text ≡ Ok A) ↔ HoaReadsWithin l form text A
  answers_exactly text A = (reads, answers_reading l form text A)
    where
      without_fault : (o : Option HoaFault) (B : MarkedAutomaton) → unless_fault o B ≡ Ok A → o ≡ None
      without_fault None B e = refl
      without_fault (Some f) B e = cc

      reads : hoa_answer l form text ≡ Ok A → HoaReadsWithin l form text A
      reads e =
          let r = no_fault_reads text (without_fault (hoa_fault l form text) _ e) in
          let same = sym (answers_reading l form text r.0 r.1) ∙ e in
          subst (HoaReadsWithin l form text) (let one : r.0 ≡ A = cc in one) r.1
