-- A token takes the parser where the definition goes.
use Rattle.std.proofs.Common.{◌≡◌, ℕ, zero, suc, ◌<◌, ◌≤◌, Bool, true, false, not, ◌&&◌, [], length, Option, Some, None, ◌==◌, refl, sym, ◌∙◌, ap, subst, arith}
use Rattle.std.specs.Prelude.{nat_lt, if◌then◌else◌, option_map, unwrap_or, is_some, slice_index_or, replicate, Result, Ok, Err}
use Rattle.std.specs.List.{list_any}
use Rattle.std.proofs.lemmas.List.{length-replicate}
use Rattle.std.specs.Ordering.{nat_cmp}
use Rattle.ltl_spec.specs.Collections.Sets.{set_of}
use Rattle.ltl_spec.specs.Tools.Limits.{stated_limits}
use Rattle.ltl_spec.specs.Hoa.HoaToken as token
use Rattle.ltl_spec.specs.Hoa.HoaToken.{HoaToken}
use Rattle.ltl_spec.specs.Hoa.HoaReading.{stated_form}
use Rattle.ltl_spec.specs.Hoa.HoaFaultKind.{ItemMissing, NumberOutOfRange}
use Rattle.ltl_spec.specs.Hoa.HoaPlace as spec
use Rattle.ltl_spec.specs.Hoa.HoaStep as table
use Rattle.ltl_spec.specs.Hoa.HoaPlace.{Before, HoaHeader}
use Rattle.ltl_spec.specs.Hoa.HoaStep.{Step}
use Rattle.ltl_hoa.specs.declared.marked.TheConstants.{MOST_SETS}
use Rattle.ltl_hoa.specs.declared.fault.Stop.{Stop}
use Rattle.ltl_hoa.specs.declared.fault.Stop.TheVariants.{OutOfMemory}
use Rattle.ltl_hoa.specs.declared.header.Counts.{Counts}
use Rattle.ltl_hoa.specs.declared.place.Place.{Place}
use Rattle.ltl_hoa.specs.declared.place.Place.TheVariants as place
use Rattle.ltl_hoa.specs.declared.place.ItemBefore.{ItemBefore}
use Rattle.ltl_hoa.specs.declared.place.BodyPlace.{BodyPlace}
use Rattle.ltl_hoa.specs.NumberView.{capped}
use Rattle.ltl_hoa.specs.HeaderView as header
use Rattle.ltl_hoa.specs.HeaderView.{Refuses, Leads, Fits, place_of, stepped}
use Rattle.ltl_hoa.specs.Shown as body
use Rattle.ltl_hoa.specs.BodyView.{BodyView, new_body}
use Rattle.ltl_hoa.specs.ParserView.{ParserView, at_place, Takes, TakesAt, TakesInHeader, TakesBody, BodyTakes, Begins, Shows, ShowsHeader, ShowsPlace, IsBegun}
use Rattle.ltl_spec.specs.Hoa.HoaMachine.{Came, came_none, came_in, came_at, edges_of, first_or}
use Rattle.ltl_hoa.specs.Shown.{IsAt, ShowsBody, ShowsBodyPlace}
use Rattle.ltl_hoa.proofs.StepLaws.{Agrees, capped_under, step_agrees}

-- the answer is that of the definition's step
abbrev pub StepShown : Step → Came → Result (Unit {0}) Stop → ParserView → Type 0
StepShown (Ok c) h (Ok u) w = Shows w c h
StepShown (Ok c) h (Err stop) w = stop ≡ OutOfMemory
StepShown (Err k) h (Ok u) w = ⊥
StepShown (Err k) h (Err stop) w = Refuses k stop

-- ---- in the header

by_header : (S T : Step) (g : Came) (w : ParserView) (r : Result (Unit {0}) Stop) → g ≡ came_none → Agrees S T → Leads S (at_place r w.place) w.header → StepShown T g r w
by_header (Ok c) (Ok d) g w (Ok u) n (e, few, none, made) k = record {
  header = record { items = sym (ap (λ (x : Before). x.header) k.0) ∙ ap (λ (x : Before). x.header) e; few = few };
  place = shown w.place (sym (ap (λ (x : Before). x.place) k.0) ∙ ap (λ (x : Before). x.place) e) k.1;
}
  where
    shown : (q : Place) → place_of q w.header ≡ d.place → Fits q w.header → ShowsPlace q w d.place d g
    shown (place.Body p) l f = absurd f
    shown place.End l f = absurd f
    shown q l f = ((none, made, n), l, f)
by_header (Ok c) (Ok d) g w (Err stop) n a k = k
by_header (Ok c) (Err j) g w r n a k = absurd a
by_header (Err i) (Ok d) g w r n a k = absurd a
by_header (Err i) (Err j) g w (Ok u) n a k = absurd k
by_header (Err i) (Err j) g w (Err stop) n a k = subst (λ m. Refuses m stop) a k

in_header : (q : Place) (pl : spec.Place) (v w : ParserView) (b : Before) (g : Came) (t : HoaToken) (r : Result (Unit {0}) Stop) → ShowsHeader v.header b.header → IsBegun b g × (place_of q v.header ≡ pl) × Fits q v.header
    → came_at (place_of q v.header) b t g ≡ g → ((i : ItemBefore) → q ≡ place.Item i → t ≡ token.Body → ⊥) → Leads (stepped q v.header t) (at_place r w.place) w.header
    → StepShown (table.step stated_limits stated_form pl b t) (came_at pl b t g) r w
in_header q pl v w b g t r sh (begun, e, f) c n k =
    subst (λ x. StepShown (table.step stated_limits stated_form x b t) (came_at x b t g) r w) e
    (subst (λ h. StepShown (table.step stated_limits stated_form (place_of q v.header) b t) h r w) (sym c)
    (by_header _ _ g w r begun.2 (step_agrees q v.header b t sh.items sh.few begun.0 begun.1 f n) k))

-- ---- the beginning of the body

replicate_get : {T : Type 0} (n k : ℕ) (d : T) → slice_index_or (replicate n d) k d ≡ d
replicate_get zero k d = refl
replicate_get (suc n) zero d = refl
replicate_get (suc n) (suc k) d = replicate_get n k d

replicate_length : {T : Type 0} (n : ℕ) (d : T) → length (replicate n d) ≡ n
replicate_length n d = length-replicate n d

new_shows : (c : Counts) (b : Before) (g : Came) → IsBegun b g → b.header.states ≡ Some c.states → c.states ≤ stated_limits.hoa_states → b.header.sets ≡ Some c.sets → option_map length b.header.names ≡ Some c.names
    → c.names ≤ stated_limits.propositions → c.sets ≤ MOST_SETS → 0 < c.states → ShowsBody (new_body c) spec.AtState (record b { place = spec.InBody spec.AtState }) g
new_shows c b g begun st few se na fn fs some = (
  record { states = st; few_states = few; sets = se; names = na; well = (fn, fs) },
  record {
    stood = λ k l. replicate_get c.states k false ∙ ap (list_any (λ m. m == k)) (sym begun.0);
    counted = replicate_length c.states false;
    last = (ap (λ ns. first_or 0 ns) begun.0, some);
  },
  replicate_length c.states [],
  begun.1,
  ap (λ (x : Came). set_of nat_cmp x.sets) begun.2,
  ap (λ (x : Came). x.cubes) begun.2,
  λ k l. replicate_get c.states k [] ∙ ap (λ (x : Came). edges_of k x.edges) (sym begun.2),
)

begin_shown : (v w : ParserView) (b : Before) (g : Came) (r : Result (Unit {0}) Stop) → ShowsHeader v.header b.header → IsBegun b g → Begins (header.body_begun v.header) v r w → StepShown (table.begin_body b b.header) g r w
begin_shown v w b g r sh begun k = go missing below r turned
  where
    missing : Bool
    missing = not (is_some b.header.states && is_some b.header.start && is_some b.header.names && is_some b.header.sets)

    below : Bool
    below = nat_lt (unwrap_or b.header.start 0) (unwrap_or b.header.states 0)

    stands : (o : Option ℕ) → is_some (option_map capped o) ≡ is_some o
    stands None = refl
    stands (Some n) = refl

    same : (o : Option ℕ) (m : ℕ) → m ≤ stated_limits.hoa_states → nat_lt (unwrap_or (option_map capped o) 0) m ≡ nat_lt (unwrap_or o 0) m
    same None m l = refl
    same (Some n) m l = capped_under n m (omega (arith, l))

    state : Before
    state = record { place = spec.InBody spec.AtState; header = v.header.items; numbers = []; edges = 0 }

    turned : Begins (if missing then Err ItemMissing else if below then Ok state else Err NumberOutOfRange) v r w
    turned =
        subst (λ c. Begins (if missing then Err ItemMissing else if c then Ok state else Err NumberOutOfRange) v r w) (same b.header.start (unwrap_or b.header.states 0) sh.few.0)
        (subst (λ c. Begins (if not (is_some b.header.states && c && is_some b.header.names && is_some b.header.sets) then Err ItemMissing
        else if nat_lt (unwrap_or (option_map capped b.header.start) 0) (unwrap_or b.header.states 0) then Ok state else Err NumberOutOfRange) v r w) (stands b.header.start)
        (subst (λ (h : HoaHeader). Begins (if not (is_some h.states && is_some h.start && is_some h.names && is_some h.sets) then Err ItemMissing
        else if nat_lt (unwrap_or h.start 0) (unwrap_or h.states 0) then Ok state else Err NumberOutOfRange) v r w) sh.items k))

    go : (c d : Bool) (x : Result (Unit {0}) Stop) → Begins (if c then Err ItemMissing else if d then Ok state else Err NumberOutOfRange) v x w
        → StepShown (if c then Err ItemMissing else if d then table.in_body b spec.AtState else Err NumberOutOfRange) g x w
    go true d (Ok u) m = m
    go true d (Err stop) m = m
    go false true (Ok u) (c, m) =
        subst (λ (x : ParserView). Shows x (record b { place = spec.InBody spec.AtState }) g) (sym m.parser)
        (record { header = sh; place = (new_body c, refl, tt, new_shows c b g begun (ap (λ h. h.states) (sym sh.items) ∙ m.counts.0) few_states sets names m.names m.sets m.some) })
      where
        names : option_map length b.header.names ≡ Some c.names
        names = ap (λ (h : HoaHeader). option_map length h.names) (sym sh.items) ∙ m.counts.1

        sets : b.header.sets ≡ Some c.sets
        sets = ap (λ (h : HoaHeader). h.sets) (sym sh.items) ∙ m.counts.2

        few_states : c.states ≤ stated_limits.hoa_states
        few_states = subst (λ o. unwrap_or o 0 ≤ stated_limits.hoa_states) (ap (λ h. h.states) (sym sh.items) ∙ m.counts.0) sh.few.0
    go false true (Err stop) m = m
    go false false (Ok u) m = m
    go false false (Err stop) m = m

-- ---- in the body

in_body_shown : (p : BodyPlace) (q : spec.BodyPlace) (v w : ParserView) (b : Before) (g : Came) (t : HoaToken) (r : Result (Unit {0}) Stop) (own : BodyView) → b.place ≡ spec.InBody q → ShowsHeader v.header b.header
    → ShowsBodyPlace p own q → ShowsBody own q b g → TakesBody p v (Some own) t r w → StepShown (table.step_unless_abort stated_limits q b t) (came_in q b t g) r w
in_body_shown p q v w b g t r own e sh l s k = go w.body refl k.0 r refl
  where
    taken : (x : Result Place Stop) (c : BodyView) → body.Takes p own t x c → body.Leads (table.step_unless_abort stated_limits q b t) b (came_in q b t g) x c
    taken x c m = subst (λ y. body.Leads (table.step_unless_abort stated_limits q (record b { place = y }) t) b (came_in q b t g) x c) (sym e) (m q l b g s)

    go : (o : Option BodyView) → w.body ≡ o → BodyTakes p own t (at_place r w.place) o → (x : Result (Unit {0}) Stop) → r ≡ x → StepShown (table.step_unless_abort stated_limits q b t) (came_in q b t g) x w
    go None f m x i = absurd m
    go (Some c) f m (Ok u) i =
        ended (table.step_unless_abort stated_limits q b t) (taken (Ok w.place) c (subst (λ y. body.Takes p own t (at_place y w.place) c) i m))
      where
        ended : (S : Step) → body.Leads S b (came_in q b t g) (Ok w.place) c → StepShown S (came_in q b t g) (Ok u) w
        ended (Ok d) a = record {
          header = subst (λ y. ShowsHeader y d.header) (sym k.1) (subst (λ y. ShowsHeader v.header y) (sym a.1) sh);
          place = shown w.place d.place a.0;
        }
          where
            shown : (pl : Place) (r' : spec.Place) → IsAt pl c r' d (came_in q b t g) → ShowsPlace pl w r' d (came_in q b t g)
            shown (place.Body y) (spec.InBody z) h = (c, f, h.0, h.1)
            shown place.End spec.AtEnd h = (c, f, h)
            shown y z h = absurd h
        ended (Err j) a = a
    go (Some c) f m (Err stop) i =
        ended (table.step_unless_abort stated_limits q b t) (taken (Err stop) c (subst (λ y. body.Takes p own t (at_place y w.place) c) i m))
      where
        ended : (S : Step) → body.Leads S b (came_in q b t g) (Err stop) c → StepShown S (came_in q b t g) (Err stop) w
        ended (Ok d) a = a
        ended (Err j) a = a

-- ---- anywhere

header_takes : (q : Place) (v w : ParserView) (t : HoaToken) (r : Result (Unit {0}) Stop) → TakesInHeader q v t r w → header.Takes q v.header t (at_place r w.place) w.header
header_takes q v w t (Ok u) k = k
header_takes q v w t (Err stop) k = k

places : (q : Place) (pl : spec.Place) (v w : ParserView) (b : Before) (g : Came) (t : HoaToken) (r : Result (Unit {0}) Stop) → b.place ≡ pl → ShowsHeader v.header b.header → ShowsPlace q v pl b g
    → TakesAt q v t r w → StepShown (table.step stated_limits stated_form pl b t) (came_at pl b t g) r w
places (place.Item i) pl v w b g token.Body r e sh s k = subst (λ x. StepShown (table.step stated_limits stated_form x b token.Body) (came_at x b token.Body g) r w) s.1 (begin_shown v w b g r sh s.0 k)
places place.Format pl v w b g t r e sh s k = in_header place.Format pl v w b g t r sh s refl (λ i x y. cc) (header_takes place.Format v w t r k s.2)
places place.Version pl v w b g t r e sh s k = in_header place.Version pl v w b g t r sh s refl (λ i x y. cc) (header_takes place.Version v w t r k s.2)
places (place.Item i) pl v w b g t r e sh s k = in_header (place.Item i) pl v w b g t r sh s refl (λ i x y. cc) (header_takes (place.Item i) v w t r k s.2)
places place.States pl v w b g t r e sh s k = in_header place.States pl v w b g t r sh s refl (λ i x y. cc) (header_takes place.States v w t r k s.2)
places place.Start pl v w b g t r e sh s k = in_header place.Start pl v w b g t r sh s refl (λ i x y. cc) (header_takes place.Start v w t r k s.2)
places place.Count pl v w b g t r e sh s k = in_header place.Count pl v w b g t r sh s refl (λ i x y. cc) (header_takes place.Count v w t r k s.2)
places place.Names pl v w b g t r e sh s k = in_header place.Names pl v w b g t r sh s refl (λ i x y. cc) (header_takes place.Names v w t r k s.2)
places place.Sets pl v w b g t r e sh s k = in_header place.Sets pl v w b g t r sh s refl (λ i x y. cc) (header_takes place.Sets v w t r k s.2)
places (place.Acceptance p) pl v w b g t r e sh s k = in_header (place.Acceptance p) pl v w b g t r sh s refl (λ i x y. cc) (header_takes (place.Acceptance p) v w t r k s.2)
places (place.Body p) (spec.InBody q) v w b g t r e sh (own, f, l, s) k = in_body_shown p q v w b g t r own e sh l s (subst (λ o. TakesBody p v o t r w) f k)
places place.End spec.AtEnd v w b g t (Ok u) e sh s k = k
places place.End spec.AtEnd v w b g t (Err stop) e sh s k = k
places q pl v w b g t r e sh s k = absurd s

-- the parser's answer is that of the definition's step
pub parser_takes : (v w : ParserView) (b : Before) (g : Came) (t : HoaToken) (r : Result (Unit {0}) Stop) → Shows v b g → Takes v t r w
    → StepShown (table.step stated_limits stated_form b.place b t) (came_at b.place b t g) r w
parser_takes v w b g t r s k = places v.place b.place v w b g t r refl s.header s.place k
