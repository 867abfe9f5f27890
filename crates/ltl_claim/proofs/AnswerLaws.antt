-- The program that an answer gives is that of the text.
use Rattle.std.proofs.Common.{◌≡◌, ◌∙◌, ℕ, zero, suc, ◌+◌, ◌-◌, Bool, true, false, ◌||◌, List, [], ◌∷◌, ◌++◌, map, length, Option, Some, None, refl, sym, ap}
use Rattle.std.specs.Prelude.{Result, Ok, Err, if◌then◌else◌, nat_lt, option_and_then, unwrap_or}
use Rattle.std.specs.List.{list_all}
use Rattle.std.proofs.lemmas.List.{map-append}
use Rattle.ltl_spec.specs.Claims.ClaimTokens.{ClaimToken, Colon, first_found, claim_tokens_from}
use Rattle.ltl_spec.specs.Claims.ClaimProgram.{Program}
use Rattle.ltl_spec.specs.Claims.ClaimMachine.{Built, Sofar, Symbol, Now, behind, may_be_left_out, take_token, taken_all, begins_colon, at_first, ended, is_label, claim_program}
use Rattle.ltl_claim.specs.ClaimItems.{ClaimItem, claim_items, claim_items_from, item_at, colon_next}
use Rattle.ltl_claim.specs.ClaimFault.{ClaimFault, ClaimFaultKind, BadToken, LimitPassed, UndefinedLabel}
use Rattle.ltl_claim.specs.ClaimStep.{action_of, begins_item, fits, fitting_fault, is_another, refusal, step, unless_fault}
use Rattle.ltl_claim.specs.ClaimAnswer.{claim_answer, end_item, end_kind, ended_with, most_bytes, read_items, undefined, unless_undefined}

-- ---- the tokens of items

same_tokens : (at b : ℕ) (bs : List ℕ) (ts : List ClaimToken) → map (λ (i : ClaimItem). i.token) (map (item_at at b bs) ts) ≡ ts
same_tokens at b bs [] = refl
same_tokens at b bs (t ∷ ts) = ap (λ us. t ∷ us) (same_tokens at b bs ts)

both : {a c b d : List ClaimToken} → a ≡ c → b ≡ d → a ++ b ≡ c ++ d
both e f = λ i. e i ++ f i

pub items_tokens : (skip at : ℕ) (text : List ℕ) → map (λ (i : ClaimItem). i.token) (claim_items_from skip at text) ≡ claim_tokens_from skip text
items_tokens skip at [] = refl
items_tokens (suc skip) at (b ∷ bs) = items_tokens skip (at + 1) bs
items_tokens zero at (b ∷ bs) =
    map-append (λ (i : ClaimItem). i.token) (map (item_at at b bs) (first_found b bs).0) (claim_items_from ((first_found b bs).1 - 1) (at + 1) bs)
    ∙ both (same_tokens at b bs (first_found b bs).0) (items_tokens ((first_found b bs).1 - 1) (at + 1) bs)

same_colon : (is : List ClaimItem) → colon_next is ≡ begins_colon (map (λ (i : ClaimItem). i.token) is)
same_colon [] = refl
same_colon (i ∷ is) = token i.token
  where
    token : (t : ClaimToken) → elim t [ Colon ↦ true | _ ↦ false ] ≡ begins_colon (t ∷ map (λ (j : ClaimItem). j.token) is)
    token Colon = refl
    token t = refl

-- ---- a step

module _ (labels : Bool) (i : ClaimItem) where
  -- what fits nowhere isn't taken
  unfit : fits i.tell ≡ false → (in_list : Bool) (ss : List Symbol) (b : Built) (s : Sofar) → step labels in_list i ss b ≡ Ok s → ⊥
  unfit u in_list [] b s e = cc
  unfit u in_list (c ∷ ss) b s e = go (λ n d f. unfit u n ss d s f) (action_of c) e
    where
      Rest : Type 0
      Rest = (n : Bool) (d : Built) → step labels n i ss d ≡ Ok s → ⊥

      act : Rest → (o : Option Built) → ◌≡◌ {A = Result Sofar ClaimFaultKind} (elim o [ Some d ↦ step labels in_list i ss d | None ↦ Err BadToken ]) (Ok s) → ⊥
      act rest (Some d) e = rest in_list d e
      act rest None e = cc

      left : Rest → (may : Bool) → (if may then step labels (in_list || is_another c) i ss b else Err (refusal labels in_list c ss i)) ≡ Ok s → ⊥
      left rest true e = rest (in_list || is_another c) b e
      left rest false e = cc

      other : Rest → (t : Bool) → t ≡ false → ◌≡◌ {A = Result Sofar ClaimFaultKind} (elim (if t then behind labels c i.token else None) [
        | Some more ↦ unless_fault (fitting_fault labels (begins_item c) c i.token b) (record { symbols = more ++ ss; built = b })
        | None ↦ if may_be_left_out c then step labels (in_list || is_another c) i ss b else Err (refusal labels in_list c ss i)
      ]) (Ok s) → ⊥
      other rest true f e = cc
      other rest false f e = left rest (may_be_left_out c) e

      go : Rest → (o : Option (Built → Option Built)) → ◌≡◌ {A = Result Sofar ClaimFaultKind} (elim o [
        | Some f ↦ elim (f b) [ Some d ↦ step labels in_list i ss d | None ↦ Err BadToken ]
        | None ↦ elim (if fits i.tell then behind labels c i.token else None) [
          | Some more ↦ unless_fault (fitting_fault labels (begins_item c) c i.token b) (record { symbols = more ++ ss; built = b })
          | None ↦ if may_be_left_out c then step labels (in_list || is_another c) i ss b else Err (refusal labels in_list c ss i)
        ]
      ]) (Ok s) → ⊥
      go rest (Some f) e = act rest (f b) e
      go rest None e = other rest (fits i.tell) u e

  -- the definition's step at a symbol that is no action
  take_other : (c : Symbol) (ss : List Symbol) (b : Built) → action_of c ≡ None
      → take_token labels i.token (c ∷ ss) b ≡ elim (behind labels c i.token) [ Some more ↦ Some (record { symbols = more ++ ss; built = b }) | None ↦ if may_be_left_out c then take_token labels i.token ss b else None ]
  take_other (Now f) ss b e = cc
  take_other c ss b e = refl

  take_action : (c : Symbol) (f : Built → Option Built) (ss : List Symbol) (b : Built) → action_of c ≡ Some f
      → take_token labels i.token (c ∷ ss) b ≡ elim (f b) [ Some d ↦ take_token labels i.token ss d | None ↦ None ]
  take_action (Now g) f ss b e = ap (λ (h : Option (Built → Option Built)). elim h [ Some k ↦ elim (k b) [ Some d ↦ take_token labels i.token ss d | None ↦ None ] | None ↦ None ]) e
  take_action c f ss b e = cc

  -- what is taken is taken by the definition
  pub step_takes : (in_list : Bool) (ss : List Symbol) (b : Built) (s : Sofar) → fits i.tell ≡ true → step labels in_list i ss b ≡ Ok s → take_token labels i.token ss b ≡ Some s
  step_takes in_list [] b s t e = cc
  step_takes in_list (c ∷ ss) b s t e = go (λ n d f. step_takes n ss d s t f) (action_of c) refl e
    where
      Rest : Type 0
      Rest = (n : Bool) (d : Built) → step labels n i ss d ≡ Ok s → take_token labels i.token ss d ≡ Some s

      act : Rest → (o : Option Built) → ◌≡◌ {A = Result Sofar ClaimFaultKind} (elim o [ Some d ↦ step labels in_list i ss d | None ↦ Err BadToken ]) (Ok s) → ◌≡◌ {A = Option Sofar} (elim o [ Some d ↦ take_token labels i.token ss d | None ↦ None ]) (Some s)
      act rest (Some d) e = rest in_list d e
      act rest None e = cc

      left : Rest → (may : Bool) → (if may then step labels (in_list || is_another c) i ss b else Err (refusal labels in_list c ss i)) ≡ Ok s → (if may then take_token labels i.token ss b else None) ≡ Some s
      left rest true e = rest (in_list || is_another c) b e
      left rest false e = cc

      fault : (more : List Symbol) (k : Option ClaimFaultKind) → unless_fault k (record { symbols = more ++ ss; built = b }) ≡ Ok s → Some (record { symbols = more ++ ss; built = b }) ≡ Some s
      fault more None e = cc
      fault more (Some k) e = cc

      taken : Rest → (o : Option (List Symbol)) → ◌≡◌ {A = Result Sofar ClaimFaultKind} (elim o [
        | Some more ↦ unless_fault (fitting_fault labels (begins_item c) c i.token b) (record { symbols = more ++ ss; built = b })
        | None ↦ if may_be_left_out c then step labels (in_list || is_another c) i ss b else Err (refusal labels in_list c ss i)
      ]) (Ok s) → ◌≡◌ {A = Option Sofar} (elim o [ Some more ↦ Some (record { symbols = more ++ ss; built = b }) | None ↦ if may_be_left_out c then take_token labels i.token ss b else None ]) (Some s)
      taken rest (Some more) e = fault more (fitting_fault labels (begins_item c) c i.token b) e
      taken rest None e = left rest (may_be_left_out c) e

      other : Rest → (f : Bool) → f ≡ true → ◌≡◌ {A = Result Sofar ClaimFaultKind} (elim (if f then behind labels c i.token else None) [
        | Some more ↦ unless_fault (fitting_fault labels (begins_item c) c i.token b) (record { symbols = more ++ ss; built = b })
        | None ↦ if may_be_left_out c then step labels (in_list || is_another c) i ss b else Err (refusal labels in_list c ss i)
      ]) (Ok s) → ◌≡◌ {A = Option Sofar} (elim (behind labels c i.token) [ Some more ↦ Some (record { symbols = more ++ ss; built = b }) | None ↦ if may_be_left_out c then take_token labels i.token ss b else None ]) (Some s)
      other rest true f e = taken rest (behind labels c i.token) e
      other rest false f e = cc

      go : Rest → (o : Option (Built → Option Built)) → action_of c ≡ o → ◌≡◌ {A = Result Sofar ClaimFaultKind} (elim o [
        | Some f ↦ elim (f b) [ Some d ↦ step labels in_list i ss d | None ↦ Err BadToken ]
        | None ↦ elim (if fits i.tell then behind labels c i.token else None) [
          | Some more ↦ unless_fault (fitting_fault labels (begins_item c) c i.token b) (record { symbols = more ++ ss; built = b })
          | None ↦ if may_be_left_out c then step labels (in_list || is_another c) i ss b else Err (refusal labels in_list c ss i)
        ]
      ]) (Ok s) → take_token labels i.token (c ∷ ss) b ≡ Some s
      go rest (Some f) a e = take_action c f ss b a ∙ act rest (f b) e
      go rest None a e = take_other c ss b a ∙ other rest (fits i.tell) t e

-- ---- the items

pub read_takes : (is : List ClaimItem) (s r : Sofar) → read_items s is ≡ Ok r → taken_all (Some s) (map (λ (i : ClaimItem). i.token) is) ≡ Some r
read_takes [] s r e = cc
read_takes (i ∷ is) s r e = go (λ c f. read_takes is c r f) (step (colon_next is) false i s.symbols s.built) refl e
  where
    Rest : Type 0
    Rest = (c : Sofar) → read_items c is ≡ Ok r → taken_all (Some c) (map (λ (j : ClaimItem). j.token) is) ≡ Some r

    fault : ClaimFaultKind → Result Sofar ClaimFault
    fault k = Err (record { kind = k; at = i.at })

    taken : (c : Sofar) → step (colon_next is) false i s.symbols s.built ≡ Ok c → (t : Bool) → fits i.tell ≡ t → take_token (colon_next is) i.token s.symbols s.built ≡ Some c
    taken c f true t = step_takes (colon_next is) i false s.symbols s.built c t f
    taken c f false t = absurd (unfit (colon_next is) i t false s.symbols s.built c f)

    go : Rest → (q : Result Sofar ClaimFaultKind) → step (colon_next is) false i s.symbols s.built ≡ q → ◌≡◌ {A = Result Sofar ClaimFault} (elim q [ Ok c ↦ read_items c is | Err k ↦ fault k ]) (Ok r)
        → taken_all (Some s) (i.token ∷ map (λ (j : ClaimItem). j.token) is) ≡ Some r
    go rest (Ok c) f e =
        ap (λ l. taken_all (take_token l i.token s.symbols s.built) (map (λ (j : ClaimItem). j.token) is)) (sym (same_colon is))
        ∙ ap (λ o. taken_all o (map (λ (j : ClaimItem). j.token) is)) (taken c f (fits i.tell) refl) ∙ rest c e
    go rest (Err k) f e = cc

-- the text may end only behind the whole claim
end_empty : (ss : List Symbol) (b : Built) (size : ℕ) → end_kind (record { symbols = ss; built = b }) size ≡ None → ss ≡ []
end_empty [] b size e = refl
end_empty (s ∷ ss) b size e = absurd (go (step false false (end_item size) (s ∷ ss) b) e)
  where
    go : (q : Result Sofar ClaimFaultKind) → ◌≡◌ {A = Option ClaimFaultKind} (elim q [ Ok c ↦ Some BadToken | Err k ↦ Some k ]) None → ⊥
    go (Ok c) e = cc
    go (Err k) e = cc

-- the answer is the text's program
pub answered : (text : List ℕ) (P : Program) → claim_answer text ≡ Ok P → claim_program text ≡ Some P
answered text P e = short (nat_lt most_bytes (length text)) e
  where
    items : List ClaimItem
    items = claim_items text

    size : ℕ
    size = length text

    bad : Program → Result Program ClaimFault
    bad p = Err (record { kind = UndefinedLabel; at = unwrap_or (undefined p.labels false items) size })

    end_fault : ClaimFaultKind → Result Program ClaimFault
    end_fault k = Err (record { kind = k; at = size })

    long_fault : Result Program ClaimFault
    long_fault = Err (record { kind = LimitPassed; at = most_bytes })

    labelled : (p : Program) (all : Bool) → (if all then Ok p else bad p) ≡ Ok P
        → (if all then Some p else None) ≡ Some P
    labelled p true e = cc
    labelled p false e = cc

    closed : (s : Sofar) (k : Option ClaimFaultKind) → end_kind s size ≡ k
        → ◌≡◌ {A = Result Program ClaimFault} (elim k [ Some k ↦ end_fault k | None ↦ unless_undefined items size s.built.program ]) (Ok P) → ended s.symbols s.built.program ≡ Some P
    closed s (Some k) d e = cc
    closed s None d e =
        ap (λ ss. ended ss s.built.program) (end_empty s.symbols s.built size d)
        ∙ labelled s.built.program (list_all (λ l. is_label l s.built.program.labels) s.built.program.gotos) e

    whole : (q : Result Sofar ClaimFault) → read_items at_first items ≡ q → ended_with items size q ≡ Ok P → claim_program text ≡ Some P
    whole (Err f) r e = cc
    whole (Ok s) r e =
        ap (λ o. option_and_then (λ (x : Sofar). ended x.symbols x.built.program) o) (ap (taken_all (Some at_first)) (sym (items_tokens 0 0 text)) ∙ read_takes items at_first s r)
        ∙ closed s (end_kind s size) refl e

    short : (long : Bool) → (if long then long_fault else ended_with items size (read_items at_first items)) ≡ Ok P → claim_program text ≡ Some P
    short true e = cc
    short false e = whole (read_items at_first items) refl e
