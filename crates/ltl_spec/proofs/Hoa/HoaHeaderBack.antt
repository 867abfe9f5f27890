-- Tokens of a header and a body that are taken without a fault are those of items and states.
use Rattle.std.proofs.Common.{◌≡◌, ℕ, suc, ◌-◌, ◌<◌, ◌≤◌, Bool, true, false, not, ◌&&◌, inl, inr, List, [], ◌∷◌, ◌++◌, length, refl, sym, ◌∙◌, ap, subst, arith, append_assoc, Option, Some, None}
use Rattle.std.specs.Prelude.{◌==◌, if◌then◌else◌, nat_le, nat_lt, IsTrue, map, flat_map, drop, unwrap_or, is_some, Ok, Err, codes}
use Rattle.std.specs.List.{AllByRecursion, list_all, list_any}
use Rattle.std.proofs.lemmas.List.{append-nil}
use Rattle.std.proofs.lemmas.Bool.{eqb-true, and_from, leb-true, ltb-false}
use Rattle.ltl_spec.specs.Semantics.Word.{Name}
use Rattle.ltl_spec.specs.Formulas.Tokens.{same_name}
use Rattle.ltl_spec.specs.Formulas.Names.{is_proposition}
use Rattle.ltl_spec.specs.Tools.Limits.{Limits}
use Rattle.ltl_spec.specs.Hoa.HoaToken.{HoaToken, StringToken, Identifier, Header, Int, Body, OpenBracket, CloseBracket, AndSign}
use Rattle.ltl_spec.specs.Hoa.HoaReading.{AcceptanceForm, acceptance_tokens, HoaHeaderItem, StatesItem, StartItem, SetsItem, NamesItem, OtherItem, header_item_tokens, is_plain, is_item, begins_upper, MarkedAutomaton}
use Rattle.ltl_spec.specs.Hoa.HoaFaultKind.{LimitPassed, NumberOutOfRange, ItemTwice, UnknownItem, Unsupported, BadPropositionList}
use Rattle.ltl_spec.specs.Hoa.HoaPlace.{HoaHeader, ItemBefore, PlainItem, StartNumber, ListedNames, Acceptance, OtherItem, Place, AtStates, AtStart, AtCount, AtSets, AtItem, AtNames, InAcceptance, InBody, AtState, AtEnd, Before}
use Rattle.ltl_spec.specs.Hoa.HoaStep.{Step, begin_body, begin_once, go_to, is_token, expect, unless_broken}
use Rattle.ltl_spec.proofs.Hoa.HoaLabelLaws.{token_step, run}
use Rattle.ltl_spec.proofs.Hoa.HoaHeaderLaws.{at, Stands, Fits, NewNames, no_names, new_name, whole_header, acceptance_split}
use Rattle.ltl_spec.proofs.Hoa.HoaBodyBack.{Ended, no_end, if_ended, unless_ended, StatesRest, known}
use Rattle.ltl_spec.proofs.Formulas.NameLaws.{same_exact}
use Rattle.ltl_spec.proofs.Collections.CaseLaws.{left_true, right_true}

positive : (n : ℕ) → (n == 0) ≡ false → 0 < n
positive n e = grind arith

module _ (l : Limits) (form : AcceptanceForm) where
  -- what is looked at when an item is read
  abbrev pub IsChecked : HoaHeaderItem → Type 0
  IsChecked (StatesItem n) = n ≤ l.hoa_states
  IsChecked (StartItem n) = Unit {0}
  IsChecked (SetsItem n) = n ≤ form
  IsChecked (NamesItem names) = (length names ≤ l.propositions) × NewNames [] names
  IsChecked (OtherItem name tokens) = Unit {0}

  -- the items and the body that follow a header
  pub record HeaderRest (h : HoaHeader) (ts : List HoaToken) : Type 0 where
    pub automaton : MarkedAutomaton
    pub items : List HoaHeaderItem
    pub rest : List HoaToken
    pub spelled : ts ≡ flat_map header_item_tokens items ++ Body ∷ rest
    pub good : IsTrue (list_all is_item items)
    pub checked : AllByRecursion IsChecked items
    pub fits : Fits automaton h items
    pub begins : automaton.start < automaton.states
    pub body : StatesRest l form automaton [] 0 rest

  below_of : (x y : ℕ) → nat_lt x y ≡ true → x < y
  below_of x y e = grind arith

  begin_back : (s t : Option ℕ) (n : Option (List Name)) (m : Option ℕ) (ts : List HoaToken)
      → let h : HoaHeader = record { states = s; start = t; names = n; sets = m } in
      Ended (run l form (begin_body (record { place = AtItem PlainItem; header = h; numbers = []; edges = 0 }) h) ts) → HeaderRest h (Body ∷ ts)
  begin_back (Some s) (Some t) (Some n) (Some m) ts e =
      let A : MarkedAutomaton = record { states = s; start = t; sets = m; names = n; edges = [] } in
      let inside = if_ended l form (nat_lt t s) (at l form (InBody AtState) (whole_header A) [] 0) NumberOutOfRange ts e in
      record {
        automaton = A;
        items = [];
        rest = ts;
        spelled = refl;
        good = refl;
        checked = tt;
        fits = record { states = inr (refl, refl); start = inr (refl, refl); sets = inr (refl, refl); names = inr (refl, refl) };
        begins = below_of t s inside.0;
        body = known l form A ts AtState [] 0 (omega arith) inside.1;
      }
  begin_back None t n m ts e = no_end l form _ ts e
  begin_back (Some s) None n m ts e = no_end l form _ ts e
  begin_back (Some s) (Some t) None m ts e = no_end l form _ ts e
  begin_back (Some s) (Some t) (Some n) None ts e = no_end l form _ ts e

  stands_before : {K : Type 0} (x y : K) (o : Option K) (ys : List K) → o ≡ None → Stands (Some x) y ys → Stands o y (x ∷ ys)
  stands_before {K} x y o ys n (inl (q, e)) = absurd (cc)
  stands_before {K} x y o ys n (inr (q, e)) = let same = ap value q in inl (n, λ i. same i ∷ e i)
    where
      value : Option K → K
      value None = x
      value (Some z) = z

  with_states : (n : ℕ) (h : HoaHeader) (ts : List HoaToken) → h.states ≡ None → n ≤ l.hoa_states → HeaderRest (record h { states = Some n }) ts → HeaderRest h (Header (codes "States") ∷ Int n ∷ ts)
  with_states n h ts q m r = record {
    automaton = r.automaton;
    items = StatesItem n ∷ r.items;
    rest = r.rest;
    spelled = ap (λ xs. Header (codes "States") ∷ Int n ∷ xs) r.spelled;
    good = r.good;
    checked = (m, r.checked);
    fits = record { states = stands_before n r.automaton.states h.states _ q r.fits.states; start = r.fits.start; sets = r.fits.sets; names = r.fits.names };
    begins = r.begins;
    body = r.body;
  }

  with_start : (n : ℕ) (h : HoaHeader) (ts : List HoaToken) → h.start ≡ None → HeaderRest (record h { start = Some n }) ts → HeaderRest h (Header (codes "Start") ∷ Int n ∷ ts)
  with_start n h ts q r = record {
    automaton = r.automaton;
    items = StartItem n ∷ r.items;
    rest = r.rest;
    spelled = ap (λ xs. Header (codes "Start") ∷ Int n ∷ xs) r.spelled;
    good = r.good;
    checked = (tt, r.checked);
    fits = record { states = r.fits.states; start = stands_before n r.automaton.start h.start _ q r.fits.start; sets = r.fits.sets; names = r.fits.names };
    begins = r.begins;
    body = r.body;
  }

  with_sets : (n : ℕ) (h : HoaHeader) (ts : List HoaToken) → h.sets ≡ None → n ≤ form → HeaderRest (record h { sets = Some n }) ts
      → HeaderRest h (Header (codes "Acceptance") ∷ (acceptance_tokens n ++ ts))
  with_sets n h ts q m r = record {
    automaton = r.automaton;
    items = SetsItem n ∷ r.items;
    rest = r.rest;
    spelled = ap (λ xs. Header (codes "Acceptance") ∷ (acceptance_tokens n ++ xs)) r.spelled
        ∙ ap (λ xs. Header (codes "Acceptance") ∷ xs) (sym (append_assoc (acceptance_tokens n) (flat_map header_item_tokens r.items) (Body ∷ r.rest)));
    good = r.good;
    checked = (m, r.checked);
    fits = record { states = r.fits.states; start = r.fits.start; sets = stands_before n r.automaton.sets h.sets _ q r.fits.sets; names = r.fits.names };
    begins = r.begins;
    body = r.body;
  }

  with_names : (names : List Name) (h : HoaHeader) (ts : List HoaToken) → h.names ≡ None → length names ≤ l.propositions → NewNames [] names → HeaderRest (record h { names = Some names }) ts
      → HeaderRest h (Header (codes "AP") ∷ Int (length names) ∷ (map StringToken names ++ ts))
  with_names names h ts q m d r = record {
    automaton = r.automaton;
    items = NamesItem names ∷ r.items;
    rest = r.rest;
    spelled = ap (λ xs. Header (codes "AP") ∷ Int (length names) ∷ (map StringToken names ++ xs)) r.spelled
        ∙ ap (λ xs. Header (codes "AP") ∷ Int (length names) ∷ xs) (sym (append_assoc (map StringToken names) (flat_map header_item_tokens r.items) (Body ∷ r.rest)));
    good = r.good;
    checked = ((m, d), r.checked);
    fits = record { states = r.fits.states; start = r.fits.start; sets = r.fits.sets; names = stands_before names r.automaton.names h.names _ q r.fits.names };
    begins = r.begins;
    body = r.body;
  }

  -- some tokens of an item that is left out of account, and then items
  pub record PlainRest (h : HoaHeader) (ts : List HoaToken) : Type 0 where
    pub plain : List HoaToken
    pub rest : List HoaToken
    pub spelled : ts ≡ plain ++ rest
    pub good : IsTrue (list_all is_plain plain)
    pub more : HeaderRest h rest

  pub record NamesRest (done : List Name) (left : ℕ) (h : HoaHeader) (ts : List HoaToken) : Type 0 where
    pub names : List Name
    pub rest : List HoaToken
    pub spelled : ts ≡ map StringToken names ++ rest
    pub count : length names ≡ left
    pub new : NewNames done names
    pub more : HeaderRest (record h { names = Some (done ++ names) }) rest

  pub record TokensRest (wanted : List HoaToken) (h : HoaHeader) (ts : List HoaToken) : Type 0 where
    pub rest : List HoaToken
    pub spelled : ts ≡ wanted ++ rest
    pub more : HeaderRest h rest

  abbrev ItemRest : ItemBefore → HoaHeader → List HoaToken → Type 0
  ItemRest OtherItem h ts = PlainRest h ts
  ItemRest _ h ts = HeaderRest h ts

  abbrev Rest : Place → HoaHeader → List HoaToken → Type 0
  Rest (AtItem before) h ts = ItemRest before h ts
  Rest AtStates h ts = h.states ≡ None → HeaderRest h (Header (codes "States") ∷ ts)
  Rest AtStart h ts = h.start ≡ None → HeaderRest h (Header (codes "Start") ∷ ts)
  Rest AtCount h ts = h.names ≡ None → HeaderRest h (Header (codes "AP") ∷ ts)
  Rest AtSets h ts = h.sets ≡ None → HeaderRest h (Header (codes "Acceptance") ∷ ts)
  Rest (AtNames left) h ts = 0 < left → NamesRest (unwrap_or h.names []) left h ts
  Rest (InAcceptance wanted) h ts = TokensRest wanted h ts
  Rest _ h ts = Unit {0}

  abbrev KnownItems : List HoaToken → Type 0
  KnownItems ts = (place : Place) (h : HoaHeader) → Ended (run l form (at l form place h [] 0) ts) → Rest place h ts

  item_rest : (before : ItemBefore) (h : HoaHeader) (ts : List HoaToken) → HeaderRest h ts → ItemRest before h ts
  item_rest PlainItem h ts r = r
  item_rest StartNumber h ts r = r
  item_rest ListedNames h ts r = r
  item_rest Acceptance h ts r = r
  item_rest OtherItem h ts r = record { plain = []; rest = ts; spelled = refl; good = refl; more = r }

  absent : {K : Type 0} (o : Option K) → is_some o ≡ false → o ≡ None
  absent None e = refl
  absent (Some x) e = cc

  with_other : (name : List ℕ) (h : HoaHeader) (ts : List HoaToken) → begins_upper name ≡ false → PlainRest h ts → HeaderRest h (Header name ∷ ts)
  with_other name h ts u p =
      let r = p.more in
      record {
        automaton = r.automaton;
        items = OtherItem name p.plain ∷ r.items;
        rest = r.rest;
        spelled = ap (λ xs. Header name ∷ xs) (p.spelled ∙ ap (λ xs. p.plain ++ xs) r.spelled ∙ sym (append_assoc p.plain (flat_map header_item_tokens r.items) (Body ∷ r.rest)));
        good = and_from _ _ (and_from _ _ (ap not u) p.good) r.good;
        checked = (tt, r.checked);
        fits = record { states = r.fits.states; start = r.fits.start; sets = r.fits.sets; names = r.fits.names };
        begins = r.begins;
        body = r.body;
      }

  -- the beginning of an item
  name_back : (a b c d e f g : Bool) (before : ItemBefore) (name : List ℕ) (h : HoaHeader) (ts : List HoaToken)
      → same_name name (codes "States") ≡ b → same_name name (codes "Start") ≡ c → same_name name (codes "AP") ≡ d → same_name name (codes "Acceptance") ≡ e → begins_upper name ≡ g → KnownItems ts
      → let now : Before = record { place = AtItem before; header = h; numbers = []; edges = 0 } in
      Ended (run l form (
      if a then Err ItemTwice else
      if b then begin_once now (is_some h.states) AtStates else
      if c then begin_once now (is_some h.start) AtStart else
      if d then begin_once now (is_some h.names) AtCount else
      if e then begin_once now (is_some h.sets) AtSets else
      if f then Err Unsupported else
      if g then Err UnknownItem else go_to now (AtItem OtherItem)) ts) → HeaderRest h (Header name ∷ ts)
  name_back true b c d e f g before name h ts p q r s u k z = no_end l form _ ts z
  name_back false true c d e f g before name h ts p q r s u k z =
      let new = unless_ended l form (is_some h.states) (at l form AtStates h [] 0) ItemTwice ts z in
      subst (λ n. HeaderRest h (Header n ∷ ts)) (sym (same_exact name (codes "States") p)) (k AtStates h new.1 (absent h.states new.0))
  name_back false false true d e f g before name h ts p q r s u k z =
      let new = unless_ended l form (is_some h.start) (at l form AtStart h [] 0) ItemTwice ts z in
      subst (λ n. HeaderRest h (Header n ∷ ts)) (sym (same_exact name (codes "Start") q)) (k AtStart h new.1 (absent h.start new.0))
  name_back false false false true e f g before name h ts p q r s u k z =
      let new = unless_ended l form (is_some h.names) (at l form AtCount h [] 0) ItemTwice ts z in
      subst (λ n. HeaderRest h (Header n ∷ ts)) (sym (same_exact name (codes "AP") r)) (k AtCount h new.1 (absent h.names new.0))
  name_back false false false false true f g before name h ts p q r s u k z =
      let new = unless_ended l form (is_some h.sets) (at l form AtSets h [] 0) ItemTwice ts z in
      subst (λ n. HeaderRest h (Header n ∷ ts)) (sym (same_exact name (codes "Acceptance") s)) (k AtSets h new.1 (absent h.sets new.0))
  name_back false false false false false true g before name h ts p q r s u k z = no_end l form _ ts z
  name_back false false false false false false true before name h ts p q r s u k z = no_end l form _ ts z
  name_back false false false false false false false before name h ts p q r s u k z = with_other name h ts u (k (AtItem OtherItem) h z)

  plain_more : (t : HoaToken) (h : HoaHeader) (ts : List HoaToken) → IsTrue (is_plain t) → PlainRest h ts → PlainRest h (t ∷ ts)
  plain_more t h ts e r = record { plain = t ∷ r.plain; rest = r.rest; spelled = ap (λ xs. t ∷ xs) r.spelled; good = and_from _ _ e r.good; more = r.more }

  item_back : (before : ItemBefore) (t : HoaToken) (h : HoaHeader) (ts : List HoaToken) → KnownItems ts → Ended (run l form (token_step l form (at l form (AtItem before) h [] 0) t) ts) → ItemRest before h (t ∷ ts)
  item_back before (Header name) h ts k e =
      item_rest before h (Header name ∷ ts) (name_back (same_name name (codes "HOA")) (same_name name (codes "States")) (same_name name (codes "Start")) (same_name name (codes "AP"))
      (same_name name (codes "Acceptance")) (same_name name (codes "Alias")) (begins_upper name) before name h ts refl refl refl refl refl k e)
  item_back before Body h ts k e = item_rest before h (Body ∷ ts) (begin_back h.states h.start h.names h.sets ts e)
  item_back OtherItem (StringToken s) h ts k e = plain_more (StringToken s) h ts refl (k (AtItem OtherItem) h e)
  item_back OtherItem (Int n) h ts k e = plain_more (Int n) h ts refl (k (AtItem OtherItem) h e)
  item_back OtherItem (Identifier s) h ts k e = plain_more (Identifier s) h ts refl (k (AtItem OtherItem) h e)
  item_back PlainItem t h ts k e = no_end l form _ ts e
  item_back StartNumber t h ts k e = no_end l form _ ts e
  item_back ListedNames t h ts k e = no_end l form _ ts e
  item_back Acceptance t h ts k e = no_end l form _ ts e
  item_back OtherItem t h ts k e = no_end l form _ ts e

  states_back : (t : HoaToken) (h : HoaHeader) (ts : List HoaToken) → KnownItems ts → Ended (run l form (token_step l form (at l form AtStates h [] 0) t) ts) → Rest AtStates h (t ∷ ts)
  states_back (Int n) h ts k e q =
      let inside = unless_ended l form (nat_lt l.hoa_states n) (at l form (AtItem PlainItem) (record h { states = Some n }) [] 0) LimitPassed ts e in
      with_states n h ts q (ltb-false l.hoa_states n inside.0) (k (AtItem PlainItem) (record h { states = Some n }) inside.1)
  states_back _ h ts k e q = no_end l form _ ts e

  start_back : (t : HoaToken) (h : HoaHeader) (ts : List HoaToken) → KnownItems ts → Ended (run l form (token_step l form (at l form AtStart h [] 0) t) ts) → Rest AtStart h (t ∷ ts)
  start_back (Int n) h ts k e q = with_start n h ts q (k (AtItem StartNumber) (record h { start = Some n }) e)
  start_back _ h ts k e q = no_end l form _ ts e

  next_names : (z : Bool) (done : List Name) (left : ℕ) (h : HoaHeader) (ts : List HoaToken) → (left == 0) ≡ z → KnownItems ts
      → Ended (run l form (at l form (if z then AtItem ListedNames else AtNames left) (record h { names = Some done }) [] 0) ts) → NamesRest done left (record h { names = Some done }) ts
  next_names true done left h ts q k e = record {
    names = [];
    rest = ts;
    spelled = refl;
    count = sym (eqb-true left 0 q);
    new = no_names done;
    more = subst (λ ns. HeaderRest (record h { names = Some ns }) ts) (sym (append-nil done)) (k (AtItem ListedNames) (record h { names = Some done }) e);
  }
  next_names false done left h ts q k e = k (AtNames left) (record h { names = Some done }) e (positive left q)

  count_back : (t : HoaToken) (h : HoaHeader) (ts : List HoaToken) → KnownItems ts → Ended (run l form (token_step l form (at l form AtCount h [] 0) t) ts) → Rest AtCount h (t ∷ ts)
  count_back (Int n) h ts k e q =
      let inside = unless_ended l form (nat_lt l.propositions n) (at l form (if n == 0 then AtItem ListedNames else AtNames n) (record h { names = Some [] }) [] 0) LimitPassed ts e in
      let r = next_names (n == 0) [] n h ts refl k inside.1 in
      let few = ltb-false l.propositions n inside.0 in
      subst (HeaderRest h) (λ i. Header (codes "AP") ∷ Int (r.count i) ∷ sym r.spelled i) (with_names r.names h r.rest q (subst (λ m. m ≤ l.propositions) (sym r.count) few) r.new r.more)
  count_back _ h ts k e q = no_end l form _ ts e

  names_back : (t : HoaToken) (left : ℕ) (h : HoaHeader) (ts : List HoaToken) → KnownItems ts → Ended (run l form (token_step l form (at l form (AtNames left) h [] 0) t) ts) → Rest (AtNames left) h (t ∷ ts)
  names_back (StringToken name) left h ts k e m =
      let done = unwrap_or h.names [] in
      let inside = if_ended l form (is_proposition name && not (list_any (same_name name) done))
      (at l form (if left - 1 == 0 then AtItem ListedNames else AtNames (left - 1)) (record h { names = Some (done ++ name ∷ []) }) [] 0) BadPropositionList ts e in
      let r = next_names (left - 1 == 0) (done ++ name ∷ []) (left - 1) h ts refl k inside.1 in
      record {
        names = name ∷ r.names;
        rest = r.rest;
        spelled = ap (λ xs. StringToken name ∷ xs) r.spelled;
        count = one_more (length r.names) left r.count m;
        new = new_name done r.names name (left_true _ _ inside.0) (right_true (is_proposition name) _ inside.0) r.new;
        more = subst (λ ns. HeaderRest (record h { names = Some ns }) r.rest) (append_assoc done (name ∷ []) r.names) r.more;
      }
    where
      one_more : (a b : ℕ) → a ≡ b - 1 → 0 < b → suc a ≡ b
      one_more a b q r = omega (arith, q, r)
  names_back _ left h ts k e m = no_end l form _ ts e

  next_tokens : (wanted : List HoaToken) (h : HoaHeader) (b : Before) (ts : List HoaToken) → KnownItems ts → Ended (run l form (expect (record b { header = h; numbers = []; edges = 0 }) wanted) ts) → TokensRest wanted h ts
  next_tokens [] h b ts k e = record { rest = ts; spelled = refl; more = k (AtItem Acceptance) h e }
  next_tokens (w ∷ ws) h b ts k e = k (InAcceptance (w ∷ ws)) h e

  sets_back : (t : HoaToken) (h : HoaHeader) (ts : List HoaToken) → KnownItems ts → Ended (run l form (token_step l form (at l form AtSets h [] 0) t) ts) → Rest AtSets h (t ∷ ts)
  sets_back (Int n) h ts k e q =
      let b : Before = record { place = AtSets; header = record h { sets = Some n }; numbers = []; edges = 0 } in
      let inside = if_ended l form (nat_le n form) (expect b (drop 1 (acceptance_tokens n))) LimitPassed ts e in
      let r = next_tokens (drop 1 (acceptance_tokens n)) (record h { sets = Some n }) b ts k inside.1 in
      subst (λ xs. HeaderRest h (Header (codes "Acceptance") ∷ xs)) (ap (λ xs. xs ++ r.rest) (acceptance_split n) ∙ ap (λ xs. Int n ∷ xs) (sym r.spelled))
      (with_sets n h r.rest q (leb-true n form inside.0) r.more)
  sets_back _ h ts k e q = no_end l form _ ts e

  token_exact : (w t : HoaToken) → is_token w t ≡ true → t ≡ w
  token_exact (Int m) (Int n) e = ap Int (sym (eqb-true m n e))
  token_exact (Identifier s) (Identifier u) e = ap Identifier (sym (same_exact s u e))
  token_exact OpenBracket OpenBracket e = refl
  token_exact CloseBracket CloseBracket e = refl
  token_exact AndSign AndSign e = refl
  token_exact _ _ e = cc

  acceptance_back : (wanted : List HoaToken) (t : HoaToken) (h : HoaHeader) (ts : List HoaToken) → KnownItems ts → Ended (run l form (token_step l form (at l form (InAcceptance wanted) h [] 0) t) ts)
      → TokensRest wanted h (t ∷ ts)
  acceptance_back [] t h ts k e = no_end l form _ ts e
  acceptance_back (w ∷ ws) t h ts k e = go (is_token w t) refl e
    where
      go : (c : Bool) → is_token w t ≡ c
          → Ended (run l form (if c then expect (record { place = InAcceptance (w ∷ ws); header = h; numbers = []; edges = 0 }) ws else Err (unless_broken t Unsupported)) ts) → TokensRest (w ∷ ws) h (t ∷ ts)
      go true q z =
          let r = next_tokens ws h (record { place = InAcceptance (w ∷ ws); header = h; numbers = []; edges = 0 }) ts k z in
          let same = token_exact w t q in
          record { rest = r.rest; spelled = λ i. same i ∷ r.spelled i; more = r.more }
      go false q z = no_end l form _ ts z

  pub nothing_left : (place : Place) (h : HoaHeader) → Ended (at l form place h [] 0) → place ≡ AtEnd
  nothing_left place h e = ap (λ o. place_in o) e.1 ∙ e.2
    where
      place_in : Step → Place
      place_in (Ok b) = b.place
      place_in (Err kind) = AtEnd

  -- what is taken without a fault is as it has to be at its place
  pub known_items : (ts : List HoaToken) → KnownItems ts
  known_items [] (AtItem before) h e = let q = nothing_left (AtItem before) h e in cc
  known_items [] AtStates h e = let q = nothing_left AtStates h e in cc
  known_items [] AtStart h e = let q = nothing_left AtStart h e in cc
  known_items [] AtCount h e = let q = nothing_left AtCount h e in cc
  known_items [] AtSets h e = let q = nothing_left AtSets h e in cc
  known_items [] (AtNames left) h e = let q = nothing_left (AtNames left) h e in cc
  known_items [] (InAcceptance wanted) h e = let q = nothing_left (InAcceptance wanted) h e in cc
  known_items (t ∷ ts) (AtItem before) h e = item_back before t h ts (known_items ts) e
  known_items (t ∷ ts) AtStates h e = states_back t h ts (known_items ts) e
  known_items (t ∷ ts) AtStart h e = start_back t h ts (known_items ts) e
  known_items (t ∷ ts) AtCount h e = count_back t h ts (known_items ts) e
  known_items (t ∷ ts) AtSets h e = sets_back t h ts (known_items ts) e
  known_items (t ∷ ts) (AtNames left) h e = names_back t left h ts (known_items ts) e
  known_items (t ∷ ts) (InAcceptance wanted) h e = acceptance_back wanted t h ts (known_items ts) e
  known_items ts place h e = tt
