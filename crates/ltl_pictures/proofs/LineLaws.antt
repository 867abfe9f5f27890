-- Texts that are made of numbered pieces, and how they go out.
use Rattle.std.proofs.Common.{◌≡◌, ◌∙◌, ap, ap₂, refl, subst, sym, ℕ, zero, suc, ◌+◌, ◌-◌, ◌<◌, ◌≤◌, arith, List, [], ◌∷◌, ◌++◌, append_assoc, length, reverse, slice_index_or}
use Rattle.std.specs.Fmt.{decimal}
use Rattle.std.proofs.lemmas.List.{get_or-reverse, length-reverse}
use Rattle.std.specs.Prelude.{◌≢◌, ◌==◌, if◌then◌else◌, codes, replicate}
use Rattle.ltl_streams.specs.Streams.{SinkState}
use Rattle.ltl_streams.specs.declared.printer.Printer.{Printer}
use Rattle.ltl_streams.specs.Printing.{Prints}
use Rattle.ltl_streams.proofs.PrintLaws.{Lacks, lacks_end, lacks_step}
use Rattle.std.proofs.lemmas.Bool.Decides.{nat_tests}
use Rattle.ltl_spec.specs.Semantics.Word.{Lasso}
use Rattle.ltl_word.specs.LassoView.{size}
use Rattle.ltl_pictures.specs.Timeline.{column, digit, line, padded, texts_from}
use Rattle.ltl_pictures.proofs.FlagLaws.{any_default}

-- what is left of n pieces from the i-th on begins with that one
texts_go_on : (text : ℕ → List ℕ) (i n : ℕ) → i < n → texts_from text i (n - i) ≡ text i ++ texts_from text (i + 1) (n - (i + 1))
texts_go_on text i n l = let e : n - i ≡ suc (n - (i + 1)) = omega (arith, l) in ap (texts_from text i) e

texts_end : (text : ℕ → List ℕ) (i n : ℕ) → n ≤ i → texts_from text i (n - i) ≡ []
texts_end text i n l = let e : n - i ≡ zero = omega (arith, l) in ap (texts_from text i) e

-- pieces that are the same make the same text
pub texts_same : (s t : ℕ → List ℕ) (i n : ℕ) → ((k : ℕ) → i ≤ k → k < i + n → s k ≡ t k) → texts_from s i n ≡ texts_from t i n
texts_same s t i zero h = refl
texts_same s t i (suc n) h = ap₂ (λ a b. a ++ b) (h i (omega arith) (omega arith)) (texts_same s t (i + 1) n (λ k l m. h k (omega (arith, l)) (omega (arith, m))))

-- of n pieces those from the i-th on are still to be printed, and behind them the rest
abbrev pub LacksFrom : (ℕ → List ℕ) → ℕ → ℕ → {S : Type 0} → (S → SinkState) → Printer S → Printer S → List ℕ → Type 0
LacksFrom text n i state o m whole = Lacks state o m (texts_from text i (n - i)) whole

module _ {S : Type 0} {state : S → SinkState} {o m : Printer S} {whole : List ℕ} (text : ℕ → List ℕ) (n : ℕ) where
  pub from_start : Lacks state o m (texts_from text 0 n) whole → LacksFrom text n 0 state o m whole
  from_start p = let e : n ≡ n - 0 = omega arith in subst (λ x. Lacks state o m (texts_from text 0 x) whole) e p

  pub from_step : (i : ℕ) {next : Printer S} {a : List ℕ} → i < n → LacksFrom text n i state o m whole → text i ≡ a → Prints state m next a → LacksFrom text n (i + 1) state o next whole
  from_step i l p e s = lacks_step p _ (texts_go_on text i n l ∙ ap (λ t. t ++ texts_from text (i + 1) (n - (i + 1))) e) s

  -- nothing is printed for a piece without bytes
  pub from_skip : (i : ℕ) → i < n → LacksFrom text n i state o m whole → text i ≡ [] → LacksFrom text n (i + 1) state o m whole
  from_skip i l p e = subst (λ t. Lacks state o m t whole) (texts_go_on text i n l ∙ ap (λ t. t ++ texts_from text (i + 1) (n - (i + 1))) e) p

  pub from_end : (i : ℕ) → n ≤ i → LacksFrom text n i state o m whole → Prints state o m whole
  from_end i l p = lacks_end p (texts_end text i n l)

-- ---- bars, blanks and lines

pub bar_here : (i stem : ℕ) → i ≡ stem → codes " |" ≡ (if i == stem then codes " |" else [])
bar_here i stem e = grind (arith, nat_tests)

pub bar_not : (i stem : ℕ) → i ≢ stem → [] ≡ (if i == stem then codes " |" else [])
bar_not i stem e = grind (arith, nat_tests)

pub blanks_go_on : (at to : ℕ) → at < to → replicate (to - at) 32 ≡ codes " " ++ replicate (to - (at + 1)) 32
blanks_go_on at to l = let e : to - at ≡ suc (to - (at + 1)) = omega (arith, l) in ap (λ n. replicate n 32) e

pub blanks_end : (at to : ℕ) → to ≤ at → replicate {A = ℕ} (to - at) 32 ≡ []
blanks_end at to l = let e : to - at ≡ zero = omega (arith, l) in ap (λ n. replicate {A = ℕ} n 32) e

pub line_pieces : (width : ℕ) (w : Lasso) (label : List ℕ) (character : ℕ → ℕ)
    → line width w label character ≡ padded width label ++ (texts_from (λ i. column (length w.stem) i (character i)) 0 (size w) ++ codes "\n")
line_pieces width w label character = append_assoc (padded width label) (texts_from (λ i. column (length w.stem) i (character i)) 0 (size w)) (codes "\n")

-- ---- digits

blank_behind : (ds : List ℕ) (k : ℕ) → length ds ≤ k → slice_index_or ds k 32 ≡ 32
blank_behind [] zero l = refl
blank_behind [] (suc k) l = refl
blank_behind (d ∷ ds) zero l = absurd (omega (arith, l))
blank_behind (d ∷ ds) (suc k) l = blank_behind ds k (omega (arith, l))

pub digit_there : (ds : List ℕ) (k i : ℕ) → ds ≡ decimal i → k < length ds → slice_index_or ds (length ds - 1 - k) 0 ≡ digit k i
digit_there ds k i is l =
    any_default ds (length ds - 1 - k) 0 32 (omega (arith, l)) ∙ sym (get_or-reverse ds k 32 l) ∙ ap (λ (xs : List ℕ). slice_index_or (reverse xs) k 32) is

pub no_digit : (ds : List ℕ) (k i : ℕ) → ds ≡ decimal i → length ds ≤ k → 32 ≡ digit k i
no_digit ds k i is l =
    let long : length (reverse ds) ≤ k = (let n = length-reverse ds in omega (arith, n, l)) in
    sym (blank_behind (reverse ds) k long) ∙ ap (λ (xs : List ℕ). slice_index_or (reverse xs) k 32) is
