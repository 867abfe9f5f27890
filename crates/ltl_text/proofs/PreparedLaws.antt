-- The texts of literals that are prepared for copying.
use Rattle.std.proofs.Common.{◌≡◌, ◌∙◌, ap, ap₂, sym, ℕ, ◌+◌, List, ◌++◌, length, take, length-append, arith}
use Rattle.std.proofs.Math.Seq.{take-append_seam}
use Rattle.std.proofs.lemmas.Slice.{take-put_mid}
use borrow.Rule.Slice.PartMut.{put_mid}

-- a text was copied to the beginning, and another one behind it
pub copied_twice : (a b x y zs : List ℕ) (k : ℕ) → x ≡ a → y ≡ b → take (length a + length b) (put_mid (length a) k (x ++ zs) y) ≡ a ++ b
copied_twice a b x y zs k e f =
    let first = ap length e in
    let second = ap length f in
    take-put_mid (length a) k (x ++ zs) y (length a + length b) (omega (arith, second)) (omega (arith, first, length-append x zs))
    ∙ ap₂ (λ t u. t ++ u) (ap (λ n. take n (x ++ zs)) (sym first) ∙ take-append_seam x zs ∙ e) f
