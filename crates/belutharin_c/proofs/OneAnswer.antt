-- Two results that the contract of a function for C allows for one input are equal: the number, what is written through pointers, and every lent byte.
use mathlib.Core.Path.{◌≡◌, sym, ap, ◌∙◌}
use mathlib.Core.List.{List}
use Prim.Native.Nat.{ℕ, ◌*◌}
use lib.Ieee.{Float}
use Rattle.rules.specs.Answers.{Asked, solve, line, reduce_line, PartAnswer, grid_of}
use Rattle.rates.specs.Answered.{Answered}
use Rattle.lines.proofs.Answering as lines
use Rattle.rates.proofs.Answers as rates
use Rattle.belutharin_c.specs.Answering.{answer}
use Rattle.belutharin_c.specs.Handing.{part_at, start_of, size_of}

-- `belutharin_solve`
pub one_search : (a : Asked) {n m g g' s s' d d' l l' : ℕ} {cells cells' list list' : List ℕ} → answer n g s d l cells list ≡ solve a → answer m g' s' d' l' cells' list' ≡ solve a →
    (n ≡ m) × (g ≡ g') × (s ≡ s') × (d ≡ d') × (l ≡ l') × (cells ≡ cells') × (list ≡ list')
one_search a {n} {m} {g} {g'} {s} {s'} {d} {d'} {l} {l'} {cells} {cells'} {list} {list'} p q =
    let e : answer n g s d l cells list ≡ answer m g' s' d' l' cells' list' = p ∙ sym q in
    (ap (λ r. r.number) e, ap (λ r. r.grids) e, ap (λ r. r.steps) e, ap (λ r. r.deepest) e, ap (λ r. r.limit) e, ap (λ r. r.cells) e, ap (λ r. r.list) e)

-- `belutharin_reduce_line`, whose contract is that of `reduce_line`
pub one_line : (k : ℕ) (bytes cells : List ℕ) (n m : ℕ) (a b : List ℕ) → line n a ≡ reduce_line k bytes cells → line m b ≡ reduce_line k bytes cells → (n ≡ m) × (a ≡ b)
one_line = lines.one_answer

-- `belutharin_rate`, whose contract is that of `rate`
pub one_rate : {max min n m : ℕ} {r s : Float} → Answered max min n r → Answered max min m s → (n ≡ m) × (r ≡ s)
one_rate = rates.one_answer

-- what `belutharin_grid` says of the place of a grid
abbrev Placed : ℕ → ℕ → ℕ → ℕ → ℕ → Type 0
Placed number i cells start size = (start ≡ start_of number i cells) × (size ≡ size_of number cells)

-- `belutharin_grid`
pub one_place : (list : List ℕ) (w h n i : ℕ) {x y start start' size size' : ℕ} → part_at list x start size ≡ grid_of list w h n i → Placed x i (w * h) start size →
    part_at list y start' size' ≡ grid_of list w h n i → Placed y i (w * h) start' size' → (x ≡ y) × (start ≡ start') × (size ≡ size')
one_place list w h n i {x} {y} p a q b =
    let e : x ≡ y = ap (λ (r : PartAnswer). r.number) (p ∙ sym q) in
    (e, a.0 ∙ ap (λ k. start_of k i (w * h)) e ∙ sym b.0, a.1 ∙ ap (λ k. size_of k (w * h)) e ∙ sym b.1)
