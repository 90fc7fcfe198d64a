-- The guesses made at a node, as a set of colours for each cell, and the cells that they close.
use mathlib.Core.Path.{◌≡◌, refl, sym, ap, ◌∙◌}
use mathlib.Core.Bool.{Bool, true, false, ◌||◌}
use mathlib.Core.List.{List, [], ◌∷◌}
use Prim.Native.Nat.{ℕ, zero, suc, ◌*◌, ◌≤◌, ◌<◌}
use native.Mathlib.Omega.{arith}
use lib.Bits.{bit_and, and_le_l}
use lib.Dec.{eqb}
use lib.ListN.{length, get_or, get_or-replicate, set, replicate}
use lib.Seq.{get_or-take, get_or-set_same, get_or-set_other}
use borrow.Author.Tests.{eqb-true, eq-eqb, ne_eqb}
use Rattle.std.specs.List.{list_any, zip}
use Rattle.rules.specs.Lists.{every, any, from}
use Rattle.rules.specs.Sets.{has, colours}
use Rattle.rules.specs.Boards.{Cell, at}
use Rattle.rules.specs.Guesses.{Guess, guess}
use Rattle.rules.specs.Search.{among, closed, any_closed}
use Rattle.rules.proofs.Tests.{by_test, by_equal, and_true, same_test}
use Rattle.rules.proofs.Lists.{every_in, every_out, every_same, any_same, from_low}
use Rattle.rules.proofs.Sets.{has_none, has_and, has-set_of, same_set, member, in_members}
use Rattle.cells.specs.Sets.{including}
use Rattle.boards.specs.declared.board.Board.{Board}
use Rattle.boards.specs.Board.{board_of, Sized}
use Rattle.boards.proofs.Sizes.{few_cells}
use Rattle.guesses.specs.Made.{Made}

-- a set is within another where it is what both have
pub covers_every : (s m : ℕ) → s < 256 → eqb (bit_and s m) s ≡ every (has m) (colours s)
covers_every s m h = same_test (eqb (bit_and s m) s) (every (has m) (colours s))
    (λ e. every_in (has m) (colours s) (λ c i.
    let both = sym (has_and s m c) ∙ ap (λ t. has t c) (eqb-true (bit_and s m) s e) ∙ (member 8 s i).1 in
    (and_true (has s c) (has m c) both).1))
    (λ e. eq-eqb (bit_and s m) s (same_set 8 (bit_and s m) s (let l = and_le_l s m in omega arith) h (λ c l.
    has_and s m c ∙ by_test (has s c) (λ k. rw (k, every_out (has m) (colours s) e (in_members 8 s c l k))) (λ k. rw k))))

-- ## The guesses made

pub made_none : Made (replicate 256 0) []
unfolding among
made_none = record { each = λ c x h k. ap (λ s. has s x) (get_or-replicate 256 c 0 0 h) ∙ has_none x }

or_swap : (u v : Bool) → u || v ≡ v || u
or_swap true true = refl
or_swap true false = refl
or_swap false true = refl
or_swap false false = refl

has_including : (s x y : ℕ) → y < 8 → has (including s x) y ≡ eqb y x || has s y
unfolding including
has_including s x y h = has-set_of 8 (λ y. has s y || eqb y x) y h ∙ or_swap (has s y) (eqb y x)

-- another cell's guess
among_other : (l : List Guess) (c x e y : ℕ) → (c ≡ e → ⊥) → among (guess c x) l ≡ among (guess c x) (guess e y ∷ l)
unfolding among
among_other l c x e y h = rw (ne_eqb c e h)

-- this cell's guess
among_here : (l : List Guess) (c x y : ℕ) → eqb x y || among (guess c x) l ≡ among (guess c x) (guess c y ∷ l)
unfolding among
among_here l c x y = rw (eq-eqb c c refl)

module _ (made : List ℕ) (c x : ℕ) (l : List Guess) (m : Made made l) where
  pub made_more : length made ≡ 256 → c < 256 → Made (set made c (including (get_or made c 0) x)) (guess c x ∷ l)
  made_more long h = record { each = λ e y i k. by_equal e c (λ q. here e y i k q) (λ q. there e y i k q) }
    where
      s : ℕ
      s = including (get_or made c 0) x

      here : (e y : ℕ) → e < 256 → y < 8 → e ≡ c → has (get_or (set made c s) e 0) y ≡ among (guess e y) (guess c x ∷ l)
      here e y i k q = rw q (ap (λ t. has t y) (get_or-set_same made c s 0 (omega arith)) ∙ has_including (get_or made c 0) x y k ∙ ap (λ v. eqb y x || v) (m.each c y h k) ∙ among_here l c y x)

      there : (e y : ℕ) → e < 256 → y < 8 → (e ≡ c → ⊥) → has (get_or (set made c s) e 0) y ≡ among (guess e y) (guess c x ∷ l)
      there e y i k q = ap (λ t. has t y) (get_or-set_other made c e s 0 q) ∙ m.each e y i k ∙ among_other l e y c x q

  -- a cell past the last changes nothing
  pub made_past : 256 ≤ c → Made made (guess c x ∷ l)
  made_past h = record { each = λ e y i k. m.each e y i k ∙ among_other l e y c x (λ q. omega arith) }

-- ## Closed cells

-- each colour that the cell has was guessed
abbrev all_made : List ℕ → List ℕ → Cell → Bool
all_made b made c = every (has (get_or made c 0)) (colours (at b c))

closed_made : (b made : List ℕ) → length b ≤ 256 → (l : List Guess) → Made made l → any (all_made b made) (from 0 (length b)) ≡ any_closed b l
unfolding any_closed closed
closed_made b made few l m =
    any_same (all_made b made) (closed b l) (from 0 (length b)) (λ c i.
    let h = (from_low 0 (length b) i).1 in
    every_same (has (get_or made c 0)) (λ x. among (guess c x) l) (colours (at b c)) (λ x j. m.each c x (omega arith) (member 8 (at b c) j).0))

-- on a board by value
abbrev pub covered : Board → List ℕ → Cell → Bool
covered b made c = every (has (get_or made c 0)) (colours (get_or b.cells c 0))

pub any_covered : (b : Board) (made : List ℕ) → Sized b → length (board_of b) ≡ b.w * b.h → (l : List Guess) → Made made l →
    any (covered b made) (from 0 (b.w * b.h)) ≡ any_closed (board_of b) l
any_covered b made s long l m =
    any_same (covered b made) (all_made (board_of b) made) (from 0 (b.w * b.h)) (λ c i.
    let h : c < b.w * b.h = (let z = (from_low 0 (b.w * b.h) i).1 in omega arith) in
    ap (λ t. every (has (get_or made c 0)) (colours t)) (sym (get_or-take (b.w * b.h) b.cells c 0 h))) ∙
    ap (λ n. any (all_made (board_of b) made) (from 0 n)) (sym long) ∙ closed_made (board_of b) made (omega (arith, few_cells b s)) l m

-- each cell beside its set of colours guessed
any_pair : (f : ℕ → ℕ → Bool) (xs ys : List ℕ) → length xs ≤ length ys → list_any (λ p. f p.0 p.1) (zip xs ys) ≡ any (λ c. f (get_or xs c 0) (get_or ys c 0)) (from 0 (length xs))
any_pair f [] ys h = refl
any_pair f (x ∷ xs) [] h = absurd (omega arith)
any_pair f (x ∷ xs) (y ∷ ys) h = ap (λ v. f x y || v) (any_pair f xs ys (omega arith) ∙ sym (any_later (λ c. f (get_or (x ∷ xs) c 0) (get_or (y ∷ ys) c 0)) 0 (length xs)))
  where
    any_later : (p : ℕ → Bool) (i n : ℕ) → any p (from (suc i) n) ≡ any (λ c. p (suc c)) (from i n)
    any_later p i zero = refl
    any_later p i (suc n) = ap (λ v. p (suc i) || v) (any_later p (suc i) n)

pub pairs_closed : (b made : List ℕ) → length b ≤ 256 → length made ≡ 256 → (l : List Guess) → Made made l → list_any (λ p. every (has p.1) (colours p.0)) (zip b made) ≡ any_closed b l
pairs_closed b made few long l m = any_pair (λ s t. every (has t) (colours s)) b made (omega arith) ∙ closed_made b made few l m
