-- The header of a text that reads as an automaton is taken token by token without a fault.
use Rattle.std.proofs.Common.{◌≡◌, ℕ, zero, suc, ◌-◌, ◌≤◌, Bool, true, false, not, ◌&&◌, ◌⊎◌, inl, inr, List, [], ◌∷◌, ◌++◌, length, refl, sym, ◌∙◌, ap, subst, arith, append_assoc, Option, Some, None}
use Rattle.std.specs.Prelude.{◌==◌, if◌then◌else◌, IsTrue, map, flat_map, filter_map, drop, is_some, Ok, Err}
use Rattle.std.specs.List.{list_all, list_any, range_with_len}
use Rattle.std.proofs.lemmas.List.{append-nil}
use Rattle.std.proofs.lemmas.Bool.{and_from, false_from_ne_true, le-leb, le-ltb, true≢false}
use Rattle.ltl_spec.specs.Collections.Sets.{Has}
use Rattle.ltl_spec.specs.Collections.Lists.{HasNoRepeats}
use Rattle.ltl_spec.specs.Semantics.Word.{Name}
use Rattle.ltl_spec.specs.Formulas.Tokens.{same_name}
use Rattle.ltl_spec.specs.Formulas.Names.{is_proposition}
use Rattle.ltl_spec.specs.Tools.Limits.{Limits}
use Rattle.ltl_spec.specs.Hoa.HoaToken.{HoaToken, StringToken, Identifier, Int, AndSign, is_upper}
use Rattle.ltl_spec.specs.Hoa.HoaReading.{AcceptanceForm, set_tokens, acceptance_tokens, HoaHeaderItem, StatesItem, StartItem, SetsItem, NamesItem, OtherItem, header_item_tokens, is_plain, is_item, begins_upper, MarkedAutomaton, states_in, start_in, sets_in, names_in}
use Rattle.ltl_spec.specs.Hoa.HoaFaultKind.{BadPropositionList, LimitPassed, Unsupported}
use Rattle.ltl_spec.specs.Hoa.HoaPlace.{HoaHeader, ItemBefore, PlainItem, StartNumber, ListedNames, Acceptance, OtherItem, Place, AtStates, AtStart, AtCount, AtSets, AtItem, AtNames, InAcceptance, Before}
use Rattle.ltl_spec.specs.Hoa.HoaStep.{Step, go_to, begin_once, begin_item, with_names, expect, is_token, unless_broken}
use Rattle.std.specs.Bool.{Decides}
use Rattle.ltl_spec.proofs.Collections.SetLaws.{append_cases}
use Rattle.ltl_spec.proofs.Collections.ListLaws.{any_Decides}
use Rattle.ltl_spec.specs.Hoa.HoaMachine.{came_none}
use Rattle.ltl_spec.proofs.Hoa.HoaLabelLaws.{Told, tell, tell-append}
use Rattle.ltl_spec.proofs.Formulas.NameLaws.{same_exact, same_name_Decides}
use Rattle.ltl_spec.proofs.Collections.CaseLaws.{left_true, right_true}

pub not_true : (t : Bool) → IsTrue (not t) → t ≡ false
not_true true e = cc
not_true false e = refl

pub equal_true : (x : ℕ) → (x == x) ≡ true
equal_true x = grind arith

-- a name that begins with no upper-case letter is none that does
pub other_name : (name : Name) (c : ℕ) (cs : Name) → begins_upper name ≡ false → is_upper c ≡ true → same_name name (c ∷ cs) ≡ false
other_name name c cs e u = false_from_ne_true _ (λ t. true≢false (sym u ∙ sym (ap begins_upper (same_exact name (c ∷ cs) t)) ∙ e))

-- an item of the header that stands once: it has stood, or it has still to come
abbrev pub Stands : {K : Type 0} → Option K → K → List K → Type 0
Stands o x xs = (o ≡ None) × (xs ≡ x ∷ []) ⊎ (o ≡ Some x) × (xs ≡ [])

stands_now : {K : Type 0} (o : Option K) (x y : K) (ys : List K) → Stands o x (y ∷ ys) → (o ≡ None) × (y ≡ x) × (ys ≡ [])
stands_now {K} o x y ys (inl (n, e)) = (n, ap (first y) e, ap rest e)
  where
    first : K → List K → K
    first d [] = d
    first d (z ∷ zs) = z

    rest : List K → List K
    rest [] = []
    rest (z ∷ zs) = zs
stands_now o x y ys (inr (s, e)) = cc

stood : {K : Type 0} (o : Option K) (x : K) → Stands o x [] → o ≡ Some x
stood o x (inl (n, e)) = cc
stood o x (inr (s, e)) = s

-- the header has what stood, and the items are what has still to come
pub record Fits (A : MarkedAutomaton) (h : HoaHeader) (items : List HoaHeaderItem) : Type 0 where
  pub states : Stands h.states A.states (filter_map states_in items)
  pub start : Stands h.start A.start (filter_map start_in items)
  pub sets : Stands h.sets A.sets (filter_map sets_in items)
  pub names : Stands h.names A.names (filter_map names_in items)

abbrev pub whole_header : MarkedAutomaton → HoaHeader
whole_header A = record { states = Some A.states; start = Some A.start; names = Some A.names; sets = Some A.sets }

fits_whole : (A : MarkedAutomaton) (h : HoaHeader) → Fits A h [] → h ≡ whole_header A
fits_whole A h f =
    let s = stood h.states A.states f.states in
    let t = stood h.start A.start f.start in
    let n = stood h.names A.names f.names in
    let m = stood h.sets A.sets f.sets in
    λ i. record { states = s i; start = t i; names = n i; sets = m i }

-- the names so far, and those that have to come, all different propositions
pub data NewNames : List Name → List Name → Type 0 where
  no_names : (done : List Name) → NewNames done []
  new_name : (done rest : List Name) (n : Name) → IsTrue (is_proposition n) → IsTrue (not (list_any (same_name n) done)) → NewNames (done ++ n ∷ []) rest → NewNames done (n ∷ rest)

abbrev pub before_at : Place → HoaHeader → Before
before_at place h = record { place = place; header = h; numbers = []; edges = 0 }

-- the number of sets stands first
pub acceptance_split : (n : ℕ) → acceptance_tokens n ≡ Int n ∷ drop 1 (acceptance_tokens n)
acceptance_split zero = refl
acceptance_split (suc n) = refl

module _ (l : Limits) (form : AcceptanceForm) where
  abbrev pub at : Place → HoaHeader → List ℕ → ℕ → Step
  at place h numbers edges = Ok (record { place = place; header = h; numbers = numbers; edges = edges })

  -- nothing comes in the header
  abbrev pub headed : Step → Told
  headed o = (o, came_none)

  abbrev begun : Step → List HoaToken → Told
  begun o ts = tell l form (headed o) ts

  module _ (A : MarkedAutomaton) where
    -- what an item leads to
    pub record Leads (i : HoaHeaderItem) (items : List HoaHeaderItem) (before : ItemBefore) (h : HoaHeader) : Type 0 where
      pub behind : ItemBefore
      pub header : HoaHeader
      pub fits : Fits A header items
      pub runs : begun (at (AtItem before) h [] 0) (header_item_tokens i) ≡ headed (at (AtItem behind) header [] 0)

    states_lead : (n : ℕ) (items : List HoaHeaderItem) (before : ItemBefore) (h : HoaHeader) → A.states ≤ l.hoa_states → Fits A h (StatesItem n ∷ items) → Leads (StatesItem n) items before h
    states_lead n items before h m f =
        let now = stands_now h.states A.states n (filter_map states_in items) f.states in
        record {
          behind = PlainItem;
          header = record h { states = Some n };
          fits = record { states = inr (ap Some now.1, now.2); start = f.start; sets = f.sets; names = f.names };
          runs =
              ap (λ o. begun (begin_once (before_at (AtItem before) h) (is_some o) AtStates) (Int n ∷ [])) now.0
              ∙ ap (λ t. headed (if t then Err LimitPassed else Ok (before_at (AtItem PlainItem) (record h { states = Some n }))))
              (le-ltb l.hoa_states n (let e : n ≡ A.states = now.1 in omega (arith, e, m)));
        }

    start_lead : (n : ℕ) (items : List HoaHeaderItem) (before : ItemBefore) (h : HoaHeader) → Fits A h (StartItem n ∷ items) → Leads (StartItem n) items before h
    start_lead n items before h f =
        let now = stands_now h.start A.start n (filter_map start_in items) f.start in
        record {
          behind = StartNumber;
          header = record h { start = Some n };
          fits = record { states = f.states; start = inr (ap Some now.1, now.2); sets = f.sets; names = f.names };
          runs = ap (λ o. begun (begin_once (before_at (AtItem before) h) (is_some o) AtStart) (Int n ∷ [])) now.0;
        }

    acceptance_same : (n : ℕ) → IsTrue (list_all (λ t. is_token t t) (drop 1 (acceptance_tokens n)))
    acceptance_same zero = refl
    acceptance_same (suc n) = sets_same (range_with_len 1 n)
      where
        one_same : (k : ℕ) (b : Bool) → IsTrue b → ((k == k) && b) ≡ true
        one_same k b e = ap (λ t. t && b) (equal_true k) ∙ e

        sets_same : (ks : List ℕ) → IsTrue (list_all (λ t. is_token t t) (flat_map (λ k. AndSign ∷ set_tokens k) ks))
        sets_same [] = refl
        sets_same (k ∷ ks) = one_same k _ (sets_same ks)

    expect_run : (ts : List HoaToken) (b : Before) → IsTrue (list_all (λ t. is_token t t) ts) → begun (expect b ts) ts ≡ headed (Ok (record b { place = AtItem Acceptance }))
    expect_run [] b e = refl
    expect_run (t ∷ ts) b e =
        ap (λ c. begun (if c then expect (record b { place = InAcceptance (t ∷ ts) }) ts else Err (unless_broken t Unsupported)) ts) (left_true _ _ e)
        ∙ expect_run ts (record b { place = InAcceptance (t ∷ ts) }) (right_true (is_token t t) _ e)

    sets_lead : (n : ℕ) (items : List HoaHeaderItem) (before : ItemBefore) (h : HoaHeader) → A.sets ≤ form → Fits A h (SetsItem n ∷ items) → Leads (SetsItem n) items before h
    sets_lead n items before h r f =
        let now = stands_now h.sets A.sets n (filter_map sets_in items) f.sets in
        record {
          behind = Acceptance;
          header = record h { sets = Some n };
          fits = record { states = f.states; start = f.start; sets = inr (ap Some now.1, now.2); names = f.names };
          runs =
              ap (λ o. begun (begin_once (before_at (AtItem before) h) (is_some o) AtSets) (acceptance_tokens n)) now.0
              ∙ ap (begun (at AtSets h [] 0)) (acceptance_split n)
              ∙ ap (λ t. begun (if t then expect (before_at AtSets (record h { sets = Some n })) (drop 1 (acceptance_tokens n)) else Err LimitPassed) (drop 1 (acceptance_tokens n)))
              (le-leb n form (let e : n ≡ A.sets = now.1 in omega (arith, e, r)))
              ∙ expect_run (drop 1 (acceptance_tokens n)) (before_at AtSets (record h { sets = Some n })) (acceptance_same n);
        }

    names_run : (done rest : List Name) (b : Before) → NewNames done rest
        → begun (with_names b done (length rest)) (map StringToken rest) ≡ headed (Ok (record b { place = AtItem ListedNames; header = record b.header { names = Some (done ++ rest) } }))
    names_run done rest b (no_names done') =
        ap (λ ns. headed (Ok (record b { place = AtItem ListedNames; header = record b.header { names = Some ns } }))) (sym (append-nil done'))
    names_run done rest b (new_name done' ns n p q more) =
        let left = length (n ∷ ns) in
        let c = record b { place = AtNames left; header = record b.header { names = Some done' } } in
        ap (λ t. begun (Ok (record b { place = if t then AtItem ListedNames else AtNames left; header = record b.header { names = Some done' } })) (map StringToken (n ∷ ns))) (some_left (length ns))
        ∙ ap (λ t. begun (if t then with_names c (done' ++ n ∷ []) (left - 1) else Err BadPropositionList) (map StringToken ns)) (and_from _ _ p q)
        ∙ ap (λ k. begun (with_names c (done' ++ n ∷ []) k) (map StringToken ns)) (one_less (length ns))
        ∙ names_run (done' ++ n ∷ []) ns c more
        ∙ ap (λ ms. headed (Ok (record b { place = AtItem ListedNames; header = record b.header { names = Some ms } }))) (append_assoc done' (n ∷ []) ns)
      where
        some_left : (k : ℕ) → (suc k == 0) ≡ false
        some_left k = grind arith

        one_less : (k : ℕ) → suc k - 1 ≡ k
        one_less k = omega arith

    names_lead : (names : List Name) (items : List HoaHeaderItem) (before : ItemBefore) (h : HoaHeader) → length A.names ≤ l.propositions → NewNames [] A.names
        → Fits A h (NamesItem names ∷ items) → Leads (NamesItem names) items before h
    names_lead names items before h m d f =
        let now = stands_now h.names A.names names (filter_map names_in items) f.names in
        record {
          behind = ListedNames;
          header = record h { names = Some names };
          fits = record { states = f.states; start = f.start; sets = f.sets; names = inr (ap Some now.1, now.2) };
          runs =
              ap (λ o. begun (begin_once (before_at (AtItem before) h) (is_some o) AtCount) (Int (length names) ∷ map StringToken names)) now.0
              ∙ ap (λ t. begun (if t then Err LimitPassed else with_names (before_at AtCount h) [] (length names)) (map StringToken names))
              (le-ltb l.propositions (length names) (subst (λ ns. length ns ≤ l.propositions) (sym now.1) m))
              ∙ names_run [] names (before_at AtCount h) (subst (NewNames []) (sym now.1) d);
        }

    -- none of seven tests passes
    last_of_seven : {K : Type 0} (a b c d e f g : Bool) (s t u v w x y z : K)
        → a ≡ false → b ≡ false → c ≡ false → d ≡ false → e ≡ false → f ≡ false → g ≡ false
        → (if a then s else if b then t else if c then u else if d then v else if e then w else if f then x else if g then y else z) ≡ z
    last_of_seven a b c d e f g s t u v w x y z ea eb ec ed ee ef eg = simp (ea, eb, ec, ed, ee, ef, eg) refl

    begin_other : (b : Before) (name : List ℕ) → begins_upper name ≡ false → begin_item b name ≡ go_to b (AtItem OtherItem)
    begin_other b name e =
        last_of_seven _ _ _ _ _ _ _ _ _ _ _ _ _ _ _ (other_name name 72 _ e refl) (other_name name 83 _ e refl) (other_name name 83 _ e refl) (other_name name 65 _ e refl)
        (other_name name 65 _ e refl) (other_name name 65 _ e refl) e

    plain_run : (ts : List HoaToken) (h : HoaHeader) → IsTrue (list_all is_plain ts) → begun (at (AtItem OtherItem) h [] 0) ts ≡ headed (at (AtItem OtherItem) h [] 0)
    plain_run [] h e = refl
    plain_run (StringToken s ∷ ts) h e = plain_run ts h e
    plain_run (Int n ∷ ts) h e = plain_run ts h e
    plain_run (Identifier s ∷ ts) h e = plain_run ts h e
    plain_run (t ∷ ts) h e = cc

    other_lead : (name : List ℕ) (tokens : List HoaToken) (items : List HoaHeaderItem) (before : ItemBefore) (h : HoaHeader) → IsTrue (is_item (OtherItem name tokens))
        → Fits A h (OtherItem name tokens ∷ items) → Leads (OtherItem name tokens) items before h
    other_lead name tokens items before h e f = record {
      behind = OtherItem;
      header = h;
      fits = record { states = f.states; start = f.start; sets = f.sets; names = f.names };
      runs =
          ap (λ o. begun o tokens) (begin_other (before_at (AtItem before) h) name (not_true _ (left_true _ _ e)))
          ∙ plain_run tokens h (right_true (not (begins_upper name)) _ e);
    }

    -- what the header of an automaton within the limits keeps to
    pub record IsHeader : Type 0 where
      pub states : A.states ≤ l.hoa_states
      pub count : length A.names ≤ l.propositions
      pub sets : A.sets ≤ form
      pub new : NewNames [] A.names

    item_leads : (i : HoaHeaderItem) (items : List HoaHeaderItem) (before : ItemBefore) (h : HoaHeader) → IsHeader → IsTrue (is_item i) → Fits A h (i ∷ items) → Leads i items before h
    item_leads (StatesItem n) items before h k e f = states_lead n items before h k.states f
    item_leads (StartItem n) items before h k e f = start_lead n items before h f
    item_leads (SetsItem n) items before h k e f = sets_lead n items before h k.sets f
    item_leads (NamesItem names) items before h k e f = names_lead names items before h k.count k.new f
    item_leads (OtherItem name tokens) items before h k e f = other_lead name tokens items before h e f

    -- all items
    pub items_run : (items : List HoaHeaderItem) (before : ItemBefore) (h : HoaHeader) → IsHeader → IsTrue (list_all is_item items) → Fits A h items
        → (behind : ItemBefore) × (begun (at (AtItem before) h [] 0) (flat_map header_item_tokens items) ≡ headed (at (AtItem behind) (whole_header A) [] 0))
    items_run [] before h k e f = (before, ap (λ g. headed (at (AtItem before) g [] 0)) (fits_whole A h f))
    items_run (i ∷ items) before h k e f =
        let step = item_leads i items before h k (left_true _ _ e) f in
        let rest = items_run items step.behind step.header k (right_true (is_item i) _ e) step.fits in (
          rest.0,
          tell-append l form (headed (at (AtItem before) h [] 0)) (header_item_tokens i) (flat_map header_item_tokens items)
              ∙ ap (λ o. tell l form o (flat_map header_item_tokens items)) step.runs ∙ rest.1,
        )

-- different names are new one after the other
pub new_names : (done rest : List Name) → IsTrue (list_all is_proposition rest) → HasNoRepeats rest → ((n : Name) → Has rest n → ¬ (Has done n)) → NewNames done rest
new_names done [] e d n = no_names done
new_names done (m ∷ rest) e d n =
    new_name done rest m (left_true _ _ e) (not_any (any_Decides same_name same_name_Decides m done) (n m (inl refl)))
    (new_names (done ++ m ∷ []) rest (right_true (is_proposition m) _ e) d.1 (λ k h g. elim (append_cases done (m ∷ []) k g) [
      | inl a ↦ n k (inr h) a
      | inr b ↦ elim b [ inl q ↦ d.0 (subst (Has rest) q h) | inr z ↦ z ]
    ]))
  where
    not_any : {t : Bool} {P : Type 0} → Decides t P → ¬ P → IsTrue (not t)
    not_any {t = true} c k = absurd (k (c.0 refl))
    not_any {t = false} c k = refl
