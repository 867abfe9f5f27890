-- The bits of a set of acceptance sets: they are the inverse of listing its numbers.
use Rattle.std.specs.Prelude.{◌≡◌, ◌<◌, ◌^◌, ℕ, zero, suc, slice_index}
use Rattle.std.proofs.Common.{ap, refl, arith}
use Rattle.ltl_sets.specs.Words.{IsWords}
use Rattle.ltl_sets.specs.PlaceLaws.{words_again}
use Rattle.ltl_hoa.specs.MarksView.{words_of_bits, marks_of, bits_with}
use Rattle.ltl_hoa.specs.declared.marks.Marks.TheInside.{Inside}

pub bits_fit : (n : ℕ) → n < 2 ^ 64 → IsWords (words_of_bits n)
bits_fit n h = record { long = refl; fit = at }
  where
    at : (k : ℕ) → slice_index (words_of_bits n) k < 2 ^ 64
    at zero = h
    at (suc zero) = omega arith
    at (suc (suc zero)) = omega arith
    at (suc (suc (suc zero))) = omega arith
    at (suc (suc (suc (suc k)))) = omega arith

pub bits_again : (n : ℕ) → n < 2 ^ 32 → bits_with (marks_of n) ≡ n
bits_again n h = ap (λ ws. slice_index ws 0) (words_again (words_of_bits n) (bits_fit n (omega (arith, h))))

pub marks_again : (m : Inside) → m.bits < 2 ^ 32 → (let r : Inside = record { bits = bits_with (marks_of m.bits) } in r) ≡ m
marks_again m h = ap (λ (n : ℕ). let r : Inside = record { bits = n } in r) (bits_again m.bits h)
