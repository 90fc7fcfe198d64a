-- One number more is read and put.
use Rattle.std.proofs.Common.{◌≡◌, ℕ, zero, suc, ◌%◌, List, [], ◌∷◌, slice_set, refl, ap}
use Rattle.vectors.specs.Numbers.{number, numbers, put}

-- the text after one number more
pub numbers_text : (n : ℕ) (text : List ℕ) → (numbers (suc n) text).1 ≡ (number (numbers n text).1).1
numbers_text zero text = refl
numbers_text (suc n) text = numbers_text n (number text).1

-- it is put at the next place
pub numbers_put : (n : ℕ) (text bytes : List ℕ) → put (numbers (suc n) text).0 bytes ≡ slice_set (put (numbers n text).0 bytes) n ((number (numbers n text).1).0 % 256)
numbers_put zero text [] = refl
numbers_put zero text (b ∷ bytes) = refl
numbers_put (suc n) text [] = refl
numbers_put (suc n) text (b ∷ bytes) = ap (λ bs. ((number text).0 % 256) ∷ bs) (numbers_put n (number text).1 bytes)
