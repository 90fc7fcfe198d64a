-- Counting through the cells of a board those that are newly solved.
use mathlib.Core.Path.{◌≡◌, refl, sym, ap, ◌∙◌}
use mathlib.Core.Bool.{Bool, true, false, not, ◌&&◌}
use Prim.Native.Nat.{ℕ, ◌+◌, ◌-◌, ◌*◌, ◌≤◌, ◌<◌}
use native.Mathlib.Nat.{zero-add, add-zero}
use native.Mathlib.Omega.{arith}
use lib.ListN.{length, get_or, take}
use mir.Val.{bool_byte}
use Rattle.rules.specs.Lists.{keep, from, digit}
use Rattle.rules.specs.Sets.{single}
use Rattle.rules.specs.Boards.{at, newly}
use Rattle.rules.proofs.Lists.{keep_turn}
use Rattle.rules.proofs.Sets.{digit_low}
use Rattle.boards.specs.declared.board.Board.{Board}
use Rattle.boards.specs.Board.{board_of, SameSize}

-- a cell is newly solved
abbrev pub is_new : Board → Board → ℕ → Bool
is_new a b c = not (single (at (board_of a) c)) && single (at (board_of b) c)

-- the sets of cell i say whether it is
pub new_at : (a b : Board) (i s t : ℕ) → SameSize a b → s ≡ get_or (board_of a) i 0 → t ≡ get_or (take (a.w * a.h) b.cells) i 0 → (not (single s) && single t) ≡ is_new a b i
new_at a b i s t z e f = let x = z.wide in let y = z.high in rw (e, f, x, y) refl

-- what is counted of the cells before i, and what is still to be counted, is all
pub record Counted (a b : Board) (n count i : ℕ) : Type 0 where
  pub all : count + length (keep (is_new a b) (from i (n - i))) ≡ length (keep (is_new a b) (from 0 n))
  pub upto : i ≤ n
  pub few : count ≤ i

pub counted_start : (a b : Board) (n : ℕ) → Counted a b n 0 0
counted_start a b n =
    let z : n - 0 ≡ n = omega arith in
    record { all = zero-add (length (keep (is_new a b) (from 0 (n - 0)))) ∙ ap (λ m. length (keep (is_new a b) (from 0 m))) z; upto = omega arith; few = omega arith }

byte_digit : (v : Bool) → bool_byte v ≡ digit v
byte_digit true = refl
byte_digit false = refl

pub counted_turn : (a b : Board) (n count i d : ℕ) (v : Bool) → Counted a b n count i → i < n → d ≡ bool_byte v → v ≡ is_new a b i → Counted a b n (count + d) (i + 1)
counted_turn a b n count i d v c h e f =
    let k = keep_turn (is_new a b) i n h in
    let l = digit_low (is_new a b i) in
    let g : d ≡ digit (is_new a b i) = e ∙ byte_digit v ∙ ap digit f in
    record { all = omega (arith, c.all); upto = omega arith; few = omega (arith, c.few) }

pub counted_end : (a b : Board) (count i : ℕ) → Counted a b (a.w * a.h) count i → a.w * a.h ≤ i → length (board_of a) ≡ a.w * a.h → count ≡ length (newly (board_of a) (board_of b))
unfolding newly
counted_end a b count i c h e =
    let n = a.w * a.h in
    let z : n - i ≡ 0 = omega arith in
    sym (add-zero count) ∙ rw (z) at c.all ∙ ap (λ n. length (keep (is_new a b) (from 0 n))) (sym e)
