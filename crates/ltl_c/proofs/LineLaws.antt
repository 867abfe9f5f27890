-- The parts of a line make the line.
use Rattle.std.proofs.Common.{◌≡◌, ◌∙◌, ap, ℕ, List, [], ◌∷◌, ◌++◌, Option, codes, append_assoc}
use Rattle.std.proofs.lemmas.List.{append-nil}
use Rattle.ltl_spec.specs.Tools.Comparer.{Subject, comparer_message, comparer_text, subject_of_text}
use Rattle.ltl_spec.specs.Tools.Limits.{stated_limits}
use Rattle.ltl_spec.specs.Tools.Refusal.{Tool, Checker, Refusal, Usage, CannotOpen, CannotRead, CannotWrite, OutOfMemory, LongFormula, TooManyPropositions, TooManyRows, TooManyElementaryRows, LargeAutomaton, LongWord, LargeProduct, BadFormula, BadWord, BadAutomaton, message, tool_name}
use Rattle.ltl_cli.specs.Messages.{back_text, front_text, number_in, number_text}
use Rattle.ltl_cli.proofs.MessageLaws.{line_same, parts_are, put_same}
use Rattle.ltl_draw.specs.Messages.{draw_message, draw_text}
use Rattle.ltl_reduction.specs.Messages.{reduce_message, reduce_text}
use Rattle.ltl_c.specs.Lines.{comparer_front_text, draw_front_text, reduce_front_text}

module _ (tool : Tool) (r : Refusal) (a f : List ℕ) (n : Option ℕ) (b : List ℕ) where
  regrouped : (a ++ f ++ number_text n) ++ b ≡ a ++ (f ++ number_text n ++ b)
  regrouped = ap (λ x. x ++ b) (append_assoc a f (number_text n)) ∙ append_assoc a (f ++ number_text n) b

  pub whole_line : a ≡ tool_name tool ++ codes ": " → f ≡ front_text tool r → n ≡ number_in r → b ≡ back_text r
      → (l m o p q : List ℕ) → l ≡ a → m ≡ l ++ f → o ≡ m ++ number_text n → p ≡ o ++ b → q ≡ p ++ 10 ∷ [] → q ≡ message stated_limits tool r
  whole_line ea ef en eb l m o p q el em eo ep eq =
      eq
      ∙ ap (λ x. x ++ 10 ∷ []) (ep ∙ ap (λ x. x ++ b) (eo ∙ ap (λ x. x ++ number_text n) (em ∙ ap (λ x. x ++ f) el)) ∙ regrouped ∙ ap (λ t. a ++ t) (put_same tool r f n b ef en eb))
      ∙ line_same tool r a ea

-- the comparer's text of a refusal in parts: the name of a formula, and the parts of the checker's text, but for the usage
comparer_parts : (s : Subject) (r : Refusal) → subject_of_text s r ++ (comparer_front_text r ++ number_text (number_in r) ++ back_text r) ≡ comparer_text stated_limits s r
comparer_parts s Usage = append-nil _ ∙ append-nil _
comparer_parts s CannotOpen = ap (λ x. subject_of_text s CannotOpen ++ x) (parts_are Checker CannotOpen)
comparer_parts s CannotRead = ap (λ x. subject_of_text s CannotRead ++ x) (parts_are Checker CannotRead)
comparer_parts s CannotWrite = ap (λ x. subject_of_text s CannotWrite ++ x) (parts_are Checker CannotWrite)
comparer_parts s OutOfMemory = ap (λ x. subject_of_text s OutOfMemory ++ x) (parts_are Checker OutOfMemory)
comparer_parts s LongFormula = ap (λ x. subject_of_text s LongFormula ++ x) (parts_are Checker LongFormula)
comparer_parts s TooManyPropositions = ap (λ x. subject_of_text s TooManyPropositions ++ x) (parts_are Checker TooManyPropositions)
comparer_parts s TooManyRows = ap (λ x. subject_of_text s TooManyRows ++ x) (parts_are Checker TooManyRows)
comparer_parts s TooManyElementaryRows = ap (λ x. subject_of_text s TooManyElementaryRows ++ x) (parts_are Checker TooManyElementaryRows)
comparer_parts s LargeAutomaton = ap (λ x. subject_of_text s LargeAutomaton ++ x) (parts_are Checker LargeAutomaton)
comparer_parts s LongWord = ap (λ x. subject_of_text s LongWord ++ x) (parts_are Checker LongWord)
comparer_parts s LargeProduct = ap (λ x. subject_of_text s LargeProduct ++ x) (parts_are Checker LargeProduct)
comparer_parts s (BadFormula place kind) = ap (λ x. subject_of_text s (BadFormula place kind) ++ x) (parts_are Checker (BadFormula place kind))
comparer_parts s (BadWord place) = ap (λ x. subject_of_text s (BadWord place) ++ x) (parts_are Checker (BadWord place))
comparer_parts s (BadAutomaton number kind) = ap (λ x. subject_of_text s (BadAutomaton number kind) ++ x) (parts_are Checker (BadAutomaton number kind))

module _ (s : Subject) (r : Refusal) (a i f : List ℕ) (n : Option ℕ) (b : List ℕ) where
  regrouped_behind : (((a ++ i) ++ f) ++ number_text n) ++ b ≡ a ++ (i ++ (f ++ number_text n ++ b))
  regrouped_behind =
      ap (λ x. (x ++ number_text n) ++ b) (append_assoc a i f)
      ∙ ap (λ x. x ++ b) (append_assoc a (i ++ f) (number_text n))
      ∙ append_assoc a ((i ++ f) ++ number_text n) b
      ∙ ap (λ x. a ++ (x ++ b)) (append_assoc i f (number_text n))
      ∙ ap (λ x. a ++ x) (append_assoc i (f ++ number_text n) b)

  pub comparer_line : a ≡ codes "ltlcompare: " → i ≡ subject_of_text s r → f ≡ comparer_front_text r → n ≡ number_in r → b ≡ back_text r
      → (l k m o p q : List ℕ) → l ≡ a → k ≡ l ++ i → m ≡ k ++ f → o ≡ m ++ number_text n → p ≡ o ++ b → q ≡ p ++ 10 ∷ [] → q ≡ comparer_message stated_limits s r
  comparer_line ea ei ef en eb l k m o p q el ek em eo ep eq =
      eq
      ∙ ap (λ x. x ++ 10 ∷ [])
      (ep ∙ ap (λ x. x ++ b) (eo ∙ ap (λ x. x ++ number_text n) (em ∙ ap (λ x. x ++ f) (ek ∙ ap (λ x. x ++ i) el))) ∙ regrouped_behind ∙ ap (λ t. a ++ t) (rw (ei, ef, en, eb) (comparer_parts s r)))
      ∙ ap (λ x. (x ++ comparer_text stated_limits s r) ++ 10 ∷ []) ea

-- the drawer's text of a refusal in parts
draw_parts : (r : Refusal) → draw_front_text r ++ number_text (number_in r) ++ back_text r ≡ draw_text r
draw_parts Usage = append-nil _ ∙ append-nil _
draw_parts CannotOpen = parts_are Checker CannotOpen
draw_parts CannotRead = parts_are Checker CannotRead
draw_parts CannotWrite = parts_are Checker CannotWrite
draw_parts OutOfMemory = parts_are Checker OutOfMemory
draw_parts LongFormula = parts_are Checker LongFormula
draw_parts TooManyPropositions = parts_are Checker TooManyPropositions
draw_parts TooManyRows = parts_are Checker TooManyRows
draw_parts TooManyElementaryRows = parts_are Checker TooManyElementaryRows
draw_parts LargeAutomaton = parts_are Checker LargeAutomaton
draw_parts LongWord = parts_are Checker LongWord
draw_parts LargeProduct = parts_are Checker LargeProduct
draw_parts (BadFormula place kind) = parts_are Checker (BadFormula place kind)
draw_parts (BadWord place) = parts_are Checker (BadWord place)
draw_parts (BadAutomaton number kind) = parts_are Checker (BadAutomaton number kind)

pub draw_line : (r : Refusal) (a f : List ℕ) (n : Option ℕ) (b : List ℕ) → a ≡ codes "ltldraw: " → f ≡ draw_front_text r → n ≡ number_in r → b ≡ back_text r
    → (l m o p q : List ℕ) → l ≡ a → m ≡ l ++ f → o ≡ m ++ number_text n → p ≡ o ++ b → q ≡ p ++ 10 ∷ [] → q ≡ draw_message r
draw_line r a f n b ea ef en eb l m o p q el em eo ep eq =
    eq
    ∙ ap (λ x. x ++ 10 ∷ [])
    (ep ∙ ap (λ x. x ++ b) (eo ∙ ap (λ x. x ++ number_text n) (em ∙ ap (λ x. x ++ f) el)) ∙ regrouped Checker r a f n b ∙ ap (λ t. a ++ t) (rw (ef, en, eb) (draw_parts r)))
    ∙ ap (λ x. (x ++ draw_text r) ++ 10 ∷ []) ea

-- the reducer's text of a refusal in parts
reduce_parts : (r : Refusal) → reduce_front_text r ++ number_text (number_in r) ++ back_text r ≡ reduce_text r
reduce_parts Usage = append-nil _ ∙ append-nil _
reduce_parts CannotOpen = parts_are Checker CannotOpen
reduce_parts CannotRead = parts_are Checker CannotRead
reduce_parts CannotWrite = parts_are Checker CannotWrite
reduce_parts OutOfMemory = parts_are Checker OutOfMemory
reduce_parts LongFormula = parts_are Checker LongFormula
reduce_parts TooManyPropositions = parts_are Checker TooManyPropositions
reduce_parts TooManyRows = parts_are Checker TooManyRows
reduce_parts TooManyElementaryRows = parts_are Checker TooManyElementaryRows
reduce_parts LargeAutomaton = parts_are Checker LargeAutomaton
reduce_parts LongWord = parts_are Checker LongWord
reduce_parts LargeProduct = parts_are Checker LargeProduct
reduce_parts (BadFormula place kind) = parts_are Checker (BadFormula place kind)
reduce_parts (BadWord place) = parts_are Checker (BadWord place)
reduce_parts (BadAutomaton number kind) = parts_are Checker (BadAutomaton number kind)

pub reduce_line : (r : Refusal) (a f : List ℕ) (n : Option ℕ) (b : List ℕ) → a ≡ codes "ltlreduce: " → f ≡ reduce_front_text r → n ≡ number_in r → b ≡ back_text r
    → (l m o p q : List ℕ) → l ≡ a → m ≡ l ++ f → o ≡ m ++ number_text n → p ≡ o ++ b → q ≡ p ++ 10 ∷ [] → q ≡ reduce_message r
reduce_line r a f n b ea ef en eb l m o p q el em eo ep eq =
    eq
    ∙ ap (λ x. x ++ 10 ∷ [])
    (ep ∙ ap (λ x. x ++ b) (eo ∙ ap (λ x. x ++ number_text n) (em ∙ ap (λ x. x ++ f) el)) ∙ regrouped Checker r a f n b ∙ ap (λ t. a ++ t) (rw (ef, en, eb) (reduce_parts r)))
    ∙ ap (λ x. (x ++ reduce_text r) ++ 10 ∷ []) ea
