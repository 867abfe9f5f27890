-- How the known bytes of a source shrink over several calls.
use Rattle.std.proofs.Common.{◌≡◌, ◌∙◌, ◌⊎◌, inl, inr, ap, sym, refl, ℕ, ◌≤◌, ◌<◌, List, [], ◌∷◌, ◌++◌, length, take, Option, Some, None, append_assoc, length-append, length-take, ◌+◌, arith}
use Rattle.std.proofs.Math.Seq.{take-append_seam}
use Rattle.std.proofs.lemmas.List.{append-nil, take_all}
use Rattle.std.specs.Prelude.{IfSome}
use Rattle.std.specs.Io.KnownBytes.{Consumes, IsAtEnd, Keeps}
use Rattle.ltl_spec.specs.Tools.Stage.{Stage, Open, Closed, Broken, behind}
use Rattle.ltl_streams.specs.Streams.{FailsToGive, GivesSome, SourceState, stage_given}
use Rattle.ltl_cli.specs.Inputs.{BrokeBehind, TakesUpTo, WentWell}

consumes_trans : (o m n : Option (List ℕ)) (a b : List ℕ) → Consumes o m a → Consumes m n b → Consumes o n (a ++ b)
consumes_trans None m n a b p q = tt
consumes_trans (Some x) (Some y) (Some z) a b p q = p ∙ ap (λ w. a ++ w) q ∙ sym (append_assoc a b z)
consumes_trans (Some x) (Some y) None a b p q = q
consumes_trans (Some x) None n a b p q = absurd p

consumes_kept : (o m n : Option (List ℕ)) (a : List ℕ) → Consumes o m a → Keeps m n → Consumes o n a
consumes_kept None m n a p q = tt
consumes_kept (Some x) (Some y) (Some z) a p q = p ∙ ap (λ w. a ++ w) (sym q)
consumes_kept (Some x) (Some y) None a p q = q
consumes_kept (Some x) None n a p q = absurd p

-- bs were taken and nothing is left of at most n bytes, or n bytes were taken
taken_to_end : (n : ℕ) (o m : Option (List ℕ)) (bs : List ℕ) → length bs ≤ n → Consumes o m bs → IsAtEnd m → IfSome o (λ xs. bs ≡ take n xs)
taken_to_end n None m bs le p e = tt
taken_to_end n (Some xs) (Some ys) bs le p e =
    let same : xs ≡ bs = p ∙ ap (λ w. bs ++ w) e ∙ append-nil bs in
    rw (same, take_all n bs le) refl
taken_to_end n (Some xs) None bs le p e = absurd p

pub taken_to_limit : (n : ℕ) (o m : Option (List ℕ)) (bs : List ℕ) → length bs ≡ n → Consumes o m bs → IfSome o (λ xs. bs ≡ take n xs)
taken_to_limit n None m bs le p = tt
taken_to_limit n (Some xs) (Some ys) bs le p = rw (p, ← le, take-append_seam) refl
taken_to_limit n (Some xs) None bs le p = absurd p

-- a read of no bytes that ends at the end began there
at_end_before : (m n : Option (List ℕ)) (k : ℕ) (room : List ℕ) → k ≡ 0 → Consumes m n (take k room) → IsAtEnd n → IsAtEnd m
at_end_before None n k room z p e = tt
at_end_before (Some xs) (Some ys) k room z p e = (rw z at p) ∙ e
at_end_before (Some xs) None k room z p e = absurd p

-- the stage behind a read
given_well : (n : ℕ) (room : List ℕ) → (stage_given n room ≡ Open) ⊎ (stage_given n room ≡ Closed)
given_well ℕ.zero [] = inl refl
given_well ℕ.zero (b ∷ bs) = inr refl
given_well (ℕ.suc n) [] = inl refl
given_well (ℕ.suc n) (b ∷ bs) = inl refl

pub given_open : (n : ℕ) (room : List ℕ) → 0 < n → stage_given n room ≡ Open
given_open ℕ.zero room l = absurd (omega (arith, l))
given_open (ℕ.suc n) [] l = refl
given_open (ℕ.suc n) (b ∷ bs) l = refl

-- a stream that was read so far
module _ (most : ℕ) (o m : SourceState) (bs : List ℕ) (p : Consumes o.rest m.rest bs) where
  module _ (n : SourceState) (k : ℕ) (room : List ℕ) (g : GivesSome m n k room) where
    -- to its end
    pub read_to_end : k ≡ 0 → 0 < length room → length bs ≤ most → IfSome o.rest (λ xs. bs ≡ take most xs)
    read_to_end z l le = taken_to_end most o.rest m.rest bs le p (at_end_before m.rest n.rest k room z g.taken (g.ended z l))

    -- with the next k bytes
    pub read_more : Consumes o.rest n.rest (bs ++ take k room)
    read_more = consumes_trans o.rest m.rest n.rest bs (take k room) p g.taken

    pub went_on : length bs + k ≤ most → WentWell most o n
    went_on le =
        let long = length-append bs (take k room) in
        let part = length-take k room in
        let bound = g.bound in
        record { taken = (bs ++ take k room, read_more, omega (arith, le, long, part, bound)); stage = rw g.stage (given_well k room) }

  -- and then a call failed
  pub went_wrong : (n : SourceState) → FailsToGive m n → m.stage ≡ Open → length bs < most → BrokeBehind most o n bs
  went_wrong n f e l = record { taken = consumes_kept o.rest m.rest n.rest bs p f.kept; few = l; stage = f.stage ∙ ap (λ (s : Stage). behind s Broken) e }

  -- or not
  pub went_so_far : m.stage ≡ Open → length bs ≤ most → WentWell most o m
  went_so_far e le = record { taken = (bs, p, le); stage = inl e }

-- nothing was taken
consumes_none : (o : Option (List ℕ)) → Consumes o o []
consumes_none None = tt
consumes_none (Some xs) = refl

pub takes_none : (most : ℕ) (o : Option (List ℕ)) → TakesUpTo o o most
takes_none most o = ([], consumes_none o, omega arith)

pub stayed : (most : ℕ) (o : SourceState) → o.stage ≡ Open → WentWell most o o
stayed most o e = record { taken = takes_none most o.rest; stage = inl e }
