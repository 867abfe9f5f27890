-- Short lists that stay in the value: setting one of their elements.
use Rattle.std.proofs.Common.{◌≡◌, ℕ, List, ◌++◌, length, take, ◌∙◌, ap, arith}
use Rattle.std.specs.Prelude.{slice_set}
use Rattle.std.specs.List.{refill}
use Rattle.std.proofs.lemmas.List.{append-nil, drop_all, take_all, length-set}

-- what is as long as the list that it fills takes its place
refilled : {X : Type 0} (xs ws : List X) → length ws ≡ length xs → refill (length xs) xs ws ≡ ws
refilled xs ws e =
    ap (λ ys. take (length xs) (ws ++ ys)) (drop_all (length ws) xs (omega arith))
    ∙ ap (take (length xs)) (append-nil ws)
    ∙ take_all (length xs) ws (omega arith)

-- one element set
pub set_there : {X : Type 0} (xs now : List X) (k : ℕ) (x : X) → now ≡ xs → refill (length xs) xs (slice_set now k x) ≡ slice_set xs k x
set_there xs now k x e = ap (λ ys. refill (length xs) xs (slice_set ys k x)) e ∙ refilled xs (slice_set xs k x) (length-set xs k x)
