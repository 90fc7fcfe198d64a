-- Propagating on a board by value: a turn of the loop is a step of the rules.
use mathlib.Core.Path.{◌≡◌, refl, sym, ap, ap₂, subst, ◌∙◌}
use mathlib.Core.Logic.{◌≢◌}
use mathlib.Core.Bool.{◌||◌}
use mathlib.Core.List.{List}
use mathlib.Core.Option.{none, some}
use Rattle.std.specs.Prelude.{Option, None, Some}
use Prim.Native.Nat.{ℕ, suc, ◌+◌, ◌-◌, ◌*◌, ◌/◌, ◌%◌, ◌^◌, ◌≤◌, ◌<◌}
use native.Mathlib.Omega.{arith}
use lib.Bits.{bit_and, bit_or, or_lt, and_le_l}
use lib.Count.{count_trailing_zeros}
use lib.Dec.{eqb}
use lib.ListN.{length, take}
use lib.Seq.{length-take-le}
use Rattle.rules.specs.Lists.{from}
use Rattle.rules.specs.Loops.{more, stop}
use Rattle.rules.specs.Sets.{has, members, only}
use Rattle.rules.specs.Lines.{reduce}
use Rattle.rules.specs.Boards.{size, Puzzle, line_count, line_cells, line_of, clue_at}
use Rattle.rules.specs.Propagation.{Pending, pending, write, next, propagate_step, propagate_on, propagate}
use Rattle.rules.proofs.Lists.{none_first}
use Rattle.rules.proofs.Sets.{has_none, set_of-low}
use Rattle.rules.proofs.Lines.{reduce_length}
use Rattle.rules.proofs.Boards.{line_low}
use Rattle.rules.proofs.Propagation.{propagate_more, propagate_stop, propagate_less}
use Rattle.boards.specs.declared.board.Board.{Board}
use Rattle.lines.specs.declared.machine.Machine.{Machine}
use Rattle.boards.specs.Board.{board_of, Sized, SameSize}
use Rattle.boards.specs.Line.{line_at}
use Rattle.boards.specs.Table.{Table, Playable}
use Rattle.boards.specs.Propagation.{NarrowedTo, Narrows, cell_lines, crossed, Propagates}
use Rattle.boards.proofs.Sizes.{few_cells, at_size, same_size, sized_as}
use Rattle.boards.proofs.Places.{take_write}
use Rattle.boards.proofs.Pending.{shifted_one, lowest_first, lowest_low}
use Rattle.boards.proofs.Crossing.{cells_low, crossed_low}
use Rattle.boards.proofs.Waking.{pend_is}

-- ## A step of the rules

-- the lowest pending line
abbrev pub lowest : ℕ → ℕ
lowest p = count_trailing_zeros 32 p

-- the lines pending without it, and with those that a reduced line wakes
abbrev pub pending_next : ℕ → ℕ → ℕ
pending_next p woken = bit_or (bit_and p (4294967295 - 1 * 2 ^ lowest p % 4294967296)) woken

-- it was reduced, and lost a colour in these of its cells
abbrev pub pending_reduced : ℕ → ℕ → ℕ → ℕ
pending_reduced h p gone = pending_next p (crossed h (lowest p) gone)

-- as the rules say it: without the set of that line alone
abbrev pub pending_after : ℕ → ℕ → ℕ → ℕ
pending_after h p gone = bit_or (bit_and p ((2 ^ 32 - 1) - only (lowest p))) (crossed h (lowest p) gone)

-- as the code has it
pub pending_after_lem : (h p gone woken : ℕ) → lowest p < 32 → woken ≡ crossed h (lowest p) gone → bit_or (bit_and p (4294967295 - 1 * 2 ^ lowest p % 4294967296)) woken ≡ pending_after h p gone
pending_after_lem h p gone woken l e = ap₂ (λ (x y : ℕ). bit_or (bit_and p (4294967295 - x)) y) (shifted_one (lowest p) l) e

-- some line is pending on the board, and the lowest was reduced there
record Found (z : Puzzle) (w h : ℕ) (cells : List ℕ) (p : ℕ) (after : List ℕ) (r : Option ℕ) : Type 0 where
  some_line : 0 < p
  few : p < 2 ^ (h + w)
  small : h + w ≤ 32
  full : w * h ≤ length cells
  found : let old = line_of z (take (w * h) cells) (lowest p) in NarrowedTo (line_cells z (lowest p)) old cells after r (reduce (clue_at z (lowest p)) old)

module _ (z : Puzzle) (cells : List ℕ) (p : ℕ) where
  abbrev board : List ℕ
  board = take (z.width * z.height) cells

  step_last : p ≡ 0 → propagate_step z (pending board p) ≡ stop (some board)
  step_last e = let q : next z p ≡ none = none_first (has p) (from 0 (line_count z)) (λ j m. ap (λ s. has s j) e ∙ has_none j) in rw (q, propagate_step)

  module _ (after : List ℕ) where
    next_is : {r : Option ℕ} → Found z z.width z.height cells p after r → next z p ≡ some (lowest p)
    next_is f = lowest_first 32 (line_count z) p f.some_line f.few f.small

    step_none : Found z z.width z.height cells p after None → propagate_step z (pending board p) ≡ stop none
    step_none f = let e = next_is f in let q = f.found.0 in rw (e, propagate_step, q)

    step_more : (gone : ℕ) → Found z z.width z.height cells p after (Some gone) →
        propagate_step z (pending board p) ≡ more (pending (take (z.width * z.height) after) (pending_reduced z.height p gone))
    step_more gone f =
        let i = lowest p in
        let e = next_is f in
        let n = f.found in
        let low : i < line_count z = lowest_low 32 (line_count z) p f.some_line f.few f.small in
        let old : List ℕ = line_of z board i in
        let written : write board (line_cells z i) n.0 ≡ take (z.width * z.height) after =
        sym (ap (take (z.width * z.height)) n.2 ∙ take_write (z.width * z.height) cells (line_cells z i) n.0 (λ c m. line_low z i low m)) in
        let same : length n.0 ≡ length old = reduce_length (clue_at z i) old n.0 n.1 in
        let q = n.1 in
        rw (e, propagate_step, q) (ap₂ (λ (b : List ℕ) (q : ℕ). more (pending b q)) written
        (sym (pend_is z i low board (length-take-le (z.width * z.height) cells f.full) n.0 same p f.few f.small) ∙ ap (λ s. pending_reduced z.height p s) (sym n.3)))

-- ## The loop

-- propagating from the lines pending at first, on the board b, is propagating from those pending now, on the board a
pub record Propagating (b : Board) (machines : List Machine) (first : ℕ) (a : Board) (p : ℕ) : Type 0 where
  pub here : (z : Puzzle) → Table z b.w b.h machines → propagate_on z (pending (board_of b) first) ≡ propagate_on z (pending (take (b.w * b.h) a.cells) p)
  pub few : p < 2 ^ (b.h + b.w)
  pub size : SameSize b a
  pub long : length a.cells ≡ 256

pub propagating_start : (b : Board) (machines : List Machine) (c : ℕ) {p : ℕ} → p ≡ cell_lines b.w b.h c → length b.cells ≡ 256 → Propagating b machines p b p
unfolding cell_lines
propagating_start b machines c {p} e long = record {
  here = λ z t. refl;
  few = subst (λ p. p < 2 ^ (b.h + b.w)) (sym e) (set_of-low (b.h + b.w) (λ j. eqb j (c / b.w) || eqb j (b.h + c % b.w)));
  size = record { wide = refl; high = refl };
  long = long;
}

-- what falls with each turn, as the rules say
abbrev pub propagating_measure : ℕ → ℕ → List ℕ → ℕ → ℕ
propagating_measure w h cells p = size (take (w * h) cells) * suc (h + w) + length (members (h + w) p)

module _ {b : Board} {machines : List Machine} {first : ℕ} {a : Board} {p : ℕ} (at : Propagating b machines first a p) (s : Sized b) where
  abbrev state : Pending
  state = pending (take (b.w * b.h) a.cells) p

  lines_few : b.h + b.w ≤ 32
  lines_few = let x = s.low in let y = s.narrow in omega arith

  from_cell : (z : Puzzle) → Table z b.w b.h machines → (c : ℕ) → first ≡ cell_lines b.w b.h c → propagate z (board_of b) c ≡ propagate_on z state
  unfolding propagate cell_lines
  from_cell z t c e =
      at_size t (λ w h. propagate z (board_of b) c ≡ propagate_on z (pending (board_of b) (cell_lines w h c))) refl
      ∙ ap (λ q. propagate_on z (pending (board_of b) q)) (sym e) ∙ at.here z t

  pub propagating_end : (c : ℕ) → first ≡ cell_lines b.w b.h c → p ≡ 0 → Propagates b c machines (Some a)
  propagating_end c e last = record {
    size = at.size;
    to = λ z t.
        let q = at_size t (λ w h. propagate_step z (pending (take (w * h) a.cells) p) ≡ stop (some (take (w * h) a.cells))) (step_last z a.cells p last) in
        let x = at.size.wide in
        let y = at.size.high in
        from_cell z t c e ∙ propagate_stop z state q ∙ rw (x, y) refl;
  }

  module _ (busy : p ≢ 0) where
    pos : 0 < p
    pos = omega arith

    low : lowest p < b.h + b.w
    low = lowest_low 32 (b.h + b.w) p pos at.few lines_few

    pub propagating_low : Sized a × (lowest p < a.h + a.w)
    propagating_low =
        let x = at.size.wide in
        let y = at.size.high in
        (sized_as at.size s, rw (x, y) low)

    module _ {d : Board} where
      found : (r : Option ℕ) → Narrows a (lowest p) machines d r → (z : Puzzle) → Table z b.w b.h machines → Found z b.w b.h a.cells p d.cells r
      found r n z t = record {
        some_line = pos;
        few = at.few;
        small = lines_few;
        full = (let x = few_cells b s in let y = at.long in omega arith);
        found = same_size at.size Narrowed (n.to z) t;
      }
        where
          Narrowed : ℕ → ℕ → Type 0
          Narrowed w h = Table z w h machines → let old = line_of z (take (w * h) a.cells) (lowest p) in NarrowedTo (line_cells z (lowest p)) old a.cells d.cells r (reduce (clue_at z (lowest p)) old)

      pub propagating_fails : (c : ℕ) → first ≡ cell_lines b.w b.h c → Narrows a (lowest p) machines d None → Propagates b c machines None
      propagating_fails c e n = record {
        size = tt;
        to = λ z t.
            let q = at_size t (λ w h. Found z w h a.cells p d.cells None → propagate_step z (pending (take (w * h) a.cells) p) ≡ stop none) (step_none z a.cells p d.cells) (found None n z t) in
            from_cell z t c e ∙ propagate_stop z state q;
      }

      module _ {gone : ℕ} (n : Narrows a (lowest p) machines d (Some gone)) where
        pub propagating_narrowed : Sized d × (gone < 65536)
        propagating_narrowed = let z = propagating_low.0 in (sized_as n.size z, cells_low a.w a.h (lowest p) gone z.narrow z.low propagating_low.1 n.few)

        abbrev later : ℕ
        later = pending_reduced b.h p gone

        step : (z : Puzzle) → Table z b.w b.h machines → propagate_step z state ≡ more (pending (take (b.w * b.h) d.cells) later)
        step z t = at_size t (λ w h. Found z w h a.cells p d.cells (Some gone) → propagate_step z (pending (take (w * h) a.cells) p) ≡ more (pending (take (w * h) d.cells) (pending_reduced h p gone)))
            (step_more z a.cells p d.cells gone) (found (Some gone) n z t)

        module _ {woken : ℕ} (e : woken ≡ crossed d.h (lowest p) gone) where
          later_is : later ≡ pending_next p woken
          later_is = ap (pending_next p) (sym (e ∙ ap (λ h. crossed h (lowest p) gone) (n.size.high ∙ at.size.high)))

          pub propagating_turn : Propagating b machines first d (pending_next p woken)
          propagating_turn = subst (Propagating b machines first d) later_is (record {
            here = λ z t. at.here z t ∙ propagate_more z state (step z t);
            few = or_lt (b.h + b.w) (bit_and p (4294967295 - 1 * 2 ^ lowest p % 4294967296)) (crossed b.h (lowest p) gone)
                (let x = and_le_l p (4294967295 - 1 * 2 ^ lowest p % 4294967296) in let y = at.few in omega arith)
                (crossed_low b.w b.h (lowest p) gone (same_size at.size (λ w h. gone < 2 ^ (line_at w h (lowest p)).len) n.few));
            size = record { wide = n.size.wide ∙ at.size.wide; high = n.size.high ∙ at.size.high };
            long = n.long ∙ at.long;
          })

          pub propagating_less : Playable b.w b.h machines → propagating_measure b.w b.h d.cells (pending_next p woken) < propagating_measure b.w b.h a.cells p
          propagating_less y = subst (λ q. propagating_measure b.w b.h d.cells q < propagating_measure b.w b.h a.cells p) later_is
              (at_size y.table Falls (propagate_less y.puzzle state (step y.puzzle y.table)))
            where
              Falls : ℕ → ℕ → Type 0
              Falls w h = size (take (b.w * b.h) d.cells) * suc (h + w) + length (members (h + w) later) < size (take (b.w * b.h) a.cells) * suc (h + w) + length (members (h + w) p)
