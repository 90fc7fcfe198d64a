-- Boards of one size: what holds of one in a setting holds of another, and a cell that is set or read is the rules' cell.
use mathlib.Core.Path.{◌≡◌, refl, sym, ap, subst, ◌∙◌}
use mathlib.Core.Bool.{Bool, true, false, false≢true}
use mathlib.Core.List.{List}
use Prim.Native.Nat.{ℕ, ◌*◌, ◌≤◌, ◌<◌}
use native.Mathlib.Omega.{arith}
use lib.ListN.{length, get_or, set, length-take, get_or-eq_default}
use lib.Seq.{get_or-take, take-set-lt}
use Rattle.rules.specs.Sets.{bit, has, members, empty, only, without}
use Rattle.rules.specs.Boards.{Puzzle, at, put, remove}
use Rattle.rules.proofs.Tests.{by_test}
use Rattle.rules.proofs.Sets.{has_none, has_high, some_member, empty_none}
use Rattle.lines.specs.declared.machine.Machine.{Machine}
use Rattle.boards.specs.declared.board.Board.{Board}
use Rattle.boards.specs.Board.{board_of, Sized, SameSize, with_cells, with_cell}
use Rattle.runs.specs.declared.limits.Limits.{Limits}
use Rattle.runs.specs.declared.limits.Stats.{Stats}
use Rattle.boards.specs.Table.{Table}
use Rattle.probing.specs.Neighbours.{OfSize}
use Rattle.backtracking.specs.Setting.{Ready}

-- ## Sizes

pub size_same : (b : Board) → SameSize b b
size_same b = record { wide = refl; high = refl }

pub size_more : {a b c : Board} → SameSize a b → SameSize b c → SameSize a c
size_more p q = record { wide = q.wide ∙ p.wide; high = q.high ∙ p.high }

-- a board that equals one with other cells
pub size_with : {a b : Board} (cells : List ℕ) → b ≡ with_cells a cells → SameSize a b
size_with cells e = record { wide = ap (λ (d : Board). d.w) e; high = ap (λ (d : Board). d.h) e }

pub sized_on : {a b : Board} → SameSize a b → Sized a → Sized b
sized_on e s = record { wide = omega arith; narrow = omega arith; high = omega arith; low = omega arith }

pub size_cells : {a b : Board} → SameSize a b → b.w * b.h ≡ a.w * a.h
size_cells {a} {b} e = ap (λ n. n * b.h) e.wide ∙ ap (λ n. a.w * n) e.high

-- what holds of each board of the size of a holds of b
pub of_size : {a b : Board} (P : Board → Type 0) → SameSize a b → ((cells : List ℕ) → P (with_cells a cells)) → P b
of_size {a} {b} P e f = subst P (λ i. record { w = sym e.wide i; h = sym e.high i; cells = b.cells }) (f b.cells)

-- what holds at a board's size holds at that of a board as large
pub at_size : {a b : Board} (P : ℕ → ℕ → Type 0) → SameSize a b → P b.w b.h → P a.w a.h
at_size {a} {b} P e p = subst (λ u. P u a.h) e.wide (subst (λ v. P b.w v) e.high p)

pub size_at : {a b : Board} (P : ℕ → ℕ → Type 0) → SameSize a b → P a.w a.h → P b.w b.h
size_at {a} {b} P e p = subst (λ u. P u b.h) (sym e.wide) (subst (λ v. P a.w v) (sym e.high) p)

-- a search may go on with another board, list and counts
pub ready_on : {a b : Board} {machines : List Machine} {list out : List ℕ} {l : Limits} {s t : Stats} → Ready a machines list l s → SameSize a b → length out ≡ length list → t.grids ≤ l.grids → Ready b machines out l t
ready_on {a} {b} {machines} {list} {out} {l} {s} {t} r e m k = of_size (λ d. Ready d machines out l t) e
    (λ cells. record {
      sized = let z = r.sized in record { wide = z.wide; narrow = z.narrow; high = z.high; low = z.low };
      table = r.table;
      grids = r.grids;
      depth = r.depth;
      budget = r.budget;
      room = subst (λ n. l.grids * (a.w * a.h) ≤ n) (sym m) r.room;
      few = k;
    })

-- a puzzle that the table is of has the board's size
pub table_size : {z : Puzzle} {machines : List Machine} (b : Board) → Table z b.w b.h machines → OfSize z b
table_size b t = record { wide = t.wide; high = t.high }

-- ## Cells

pub cell_at : (b : Board) (c : ℕ) → c < b.w * b.h → at (board_of b) c ≡ get_or b.cells c 0
cell_at b c h = get_or-take (b.w * b.h) b.cells c 0 h

pub put_with : (b : Board) (c x : ℕ) → c < b.w * b.h → board_of (with_cell b c (only x)) ≡ put (board_of b) c x
unfolding put
put_with b c x h = take-set-lt (b.w * b.h) b.cells c (only x) h

pub remove_with : (b : Board) (c x : ℕ) → c < b.w * b.h → board_of (with_cell b c (without (get_or b.cells c 0) x)) ≡ remove (board_of b) c x
unfolding remove
remove_with b c x h = take-set-lt (b.w * b.h) b.cells c (without (get_or b.cells c 0) x) h ∙ ap (λ s. set (board_of b) c (without s x)) (sym (cell_at b c h))

-- past the board there is no colour, and past the eighth neither
pub no_cell : (b : Board) (c x : ℕ) → b.w * b.h ≤ c → has (at (board_of b) c) x ≡ false
no_cell b c x h =
    let out : at (board_of b) c ≡ 0 = get_or-eq_default (board_of b) 0 (omega (arith, length-take (b.w * b.h) b.cells)) in
    ap (λ s. has s x) out ∙ has_none x

-- whether a cell has a colour: the answer, and what holds if it has
abbrev pub HasColour : Board → ℕ → ℕ → Bool → Type 0
HasColour b c x r = (r ≡ has (at (board_of b) c) x) × (r ≡ true → (c < b.w * b.h) × (x < 8))

pub colour_past : (b : Board) (c x : ℕ) → b.w * b.h ≤ c → HasColour b c x false
colour_past b c x h = (sym (no_cell b c x h), λ e. absurd (false≢true e))

pub colour_high : (b : Board) (c x s : ℕ) → c < b.w * b.h → s ≡ get_or b.cells c 0 → s < 256 → 8 ≤ x → HasColour b c x false
colour_high b c x s h e k l = (sym (ap (λ v. has v x) (cell_at b c h ∙ sym e) ∙ has_high s 8 x k l), λ f. absurd (false≢true f))

pub colour_there : (b : Board) (c x s : ℕ) (r : Bool) → c < b.w * b.h → x < 8 → s ≡ get_or b.cells c 0 → r ≡ has s x → HasColour b c x r
colour_there b c x s r h k e f = (f ∙ ap (λ v. has v x) (e ∙ sym (cell_at b c h)), λ _. (h, k))

-- a cell with no colour left is 0
pub empty_zero : (s : ℕ) → s ≡ 0 → empty s ≡ true
unfolding empty members has bit
empty_zero s e = ap empty e

pub not_zero : (s : ℕ) → s < 256 → (s ≡ 0 → ⊥) → empty s ≡ false
not_zero s h k = by_test (empty s)
    (λ e. let r = some_member 8 s (some_pos s k) h in absurd (empty_none s r.0 e r.1 r.2))
    (λ e. e)
  where
    some_pos : (n : ℕ) → (n ≡ 0 → ⊥) → 0 < n
    some_pos n f = omega arith
