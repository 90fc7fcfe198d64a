-- A line reduced by the machine that the table has for it, on the sets that are gathered of it: what comes of it is what the rules say.
use mathlib.Core.Path.{◌≡◌, refl, sym, ap, ap₂, subst, ◌∙◌}
use mathlib.Core.Bool.{Bool, true, false, not}
use mathlib.Core.List.{List, ◌++◌, map}
use mathlib.Core.Option.{none, some}
use Rattle.std.specs.Prelude.{Option, Some, None, is_some}
use Rattle.std.proofs.lemmas.List.{get_or_default}
use Prim.Native.Nat.{ℕ, ◌+◌, ◌*◌, ◌^◌, ◌≤◌, ◌<◌}
use native.Mathlib.Omega.{arith}
use lib.Dec.{eqb}
use lib.ListN.{length, get_or, take, drop, length-map, get_or-append}
use lib.Seq.{get_or-take, take_at}
use Rattle.rules.specs.Sets.{set_of, lost}
use Rattle.rules.specs.Lines.{fits, reduce}
use Rattle.rules.specs.Boards.{at, Puzzle, line_cells, line_of, clue_at}
use Rattle.rules.specs.Propagation.{write}
use Rattle.rules.proofs.Lists.{map_same}
use Rattle.rules.proofs.Sets.{set_of-low, set_of-same, lost_differs}
use Rattle.rules.proofs.Lines.{Bytes, reduce_fits, reduce_unfit, reduce_length, reduce_narrows}
use Rattle.rules.proofs.Boards.{line_low}
use Rattle.lines.specs.declared.machine.Machine.{Machine}
use Rattle.lines.specs.Machines.{reduce_by, Became, closed}
use Rattle.lines.proofs.Reducing.{machine_reduces}
use Rattle.boards.specs.declared.board.Board.{Board}
use Rattle.boards.specs.declared.line.Line.{Line}
use Rattle.boards.specs.Board.{board_of, Sized, with_cells}
use Rattle.boards.specs.Line.{line_at, places, Reaches, differ_bits}
use Rattle.boards.specs.Table.{Table}
use Rattle.boards.specs.Propagation.{lost_cells, Narrows}
use Rattle.boards.proofs.Sizes.{few_cells, at_size}
use Rattle.boards.proofs.Places.{length_places, map_places}
use Rattle.boards.proofs.Crossing.{reaches, line_cells_lem}

-- the line and the sets that the code has of line i of a board
pub record Ready (b : Board) (machines : List Machine) (i : ℕ) (l : Line) (old : List ℕ) : Type 0 where
  pub sized : Sized b
  pub on : i < b.h + b.w
  pub all : length machines ≡ 32
  pub line : l ≡ line_at b.w b.h i
  pub gathered : take l.len old ≡ map (λ c. get_or b.cells c 0) (places l)
  pub bytes : (j : ℕ) → get_or b.cells j 0 < 256

pub line_reaches : {b : Board} {i : ℕ} {l : Line} → Sized b × (i < b.h + b.w) → length b.cells ≡ 256 → l ≡ line_at b.w b.h i → Reaches l (length b.cells)
line_reaches {b} {i} s long e =
    subst (λ l. Reaches l (length b.cells)) (sym e) (reaches b.w b.h i (length b.cells) s.0.narrow s.0.low s.1 (let f = few_cells b s.0 in omega arith))

module _ {b : Board} {machines : List Machine} {i : ℕ} {l : Line} {old : List ℕ} (r : Ready b machines i l old) (d : Machine) where
  abbrev m : Machine
  m = get_or machines i d

  abbrev sets : List ℕ
  sets = map (λ c. get_or b.cells c 0) (places l)

  sets_length : length sets ≡ l.len
  sets_length = length-map (places l) (λ c. get_or b.cells c 0) ∙ length_places l

  sets_bytes : Bytes sets
  sets_bytes j k =
      let n = sets_length in
      subst (λ s. s < 256) (sym (map_places (λ c. get_or b.cells c 0) l j (omega arith))) (r.bytes (l.start + j * l.stride))

  few : l.len ≤ 16
  few = subst (λ l. l.len ≤ 16) (sym r.line) (reaches b.w b.h i (b.w * b.h) r.sized.narrow r.sized.low r.on (omega arith)).few

  module _ (z : Puzzle) (t : Table z b.w b.h machines) where
    abbrev by_rules : List ℕ
    by_rules = line_of z (board_of b) i

    cells_are : line_cells z i ≡ places l
    cells_are = at_size t (λ w h. line_cells z i ≡ places (line_at w h i)) (line_cells_lem z i) ∙ ap (λ l. places l) (sym r.line)

    sets_are : sets ≡ by_rules
    sets_are = ap (λ cs. map (λ c. get_or b.cells c 0) cs) (sym cells_are)
        ∙ map_same (λ c. get_or b.cells c 0) (at (board_of b)) (line_cells z i)
        (λ c k. sym (get_or-take (b.w * b.h) b.cells c 0 (at_size t (λ w h. i < h + w → c < w * h) (λ on. line_low z i on k) r.on)))

    reduces : reduce_by m (take l.len old) ≡ reduce (clue_at z i) by_rules
    reduces =
        ap₂ reduce_by (get_or_default machines i d closed (let x = r.sized.narrow in let y = r.sized.low in let z = r.all in let o = r.on in omega arith) ∙ t.each i r.on) (r.gathered ∙ sets_are)
        ∙ machine_reduces 7 (clue_at z i) by_rules (omega arith) (t.plain i r.on)
        (subst (λ s. length s ≤ 16) sets_are (let n = sets_length in let k = few in omega arith)) (subst Bytes sets_are sets_bytes)

  -- whether some line is arranged
  pub ready_fits : (r : Bool) (out : List ℕ) → Became (reduce_by m (take l.len old)) (take l.len old) r out →
      (z : Puzzle) → Table z b.w b.h machines → r ≡ fits (clue_at z i) (line_of z (board_of b) i)
  ready_fits true out e z t = sym (reduce_fits (clue_at z i) (by_rules z t) out (sym (reduces z t) ∙ e))
  ready_fits false out e z t = sym (reduce_unfit (clue_at z i) (by_rules z t) (sym (reduces z t) ∙ e.0))

  -- a contradiction
  pub ready_fails : reduce_by m (take l.len old) ≡ none → Narrows b i machines b None
  ready_fails e = record {
    size = record { wide = refl; high = refl };
    long = refl;
    few = tt;
    to = λ z t. (sym (reduces z t) ∙ e, refl);
  }

  -- the line is reduced: the sets after it are the reduced ones, with what follows them in the array
  module _ (out : List ℕ) (e : reduce_by m (take l.len old) ≡ some out) where
    abbrev new : List ℕ
    new = out ++ drop l.len old

    module _ (z : Puzzle) (t : Table z b.w b.h machines) where
      reduced : reduce (clue_at z i) (by_rules z t) ≡ some out
      reduced = sym (reduces z t) ∙ e

      rules_length : length (by_rules z t) ≡ l.len
      rules_length = ap length (sym (sets_are z t)) ∙ sets_length

      out_length : length out ≡ l.len
      out_length = reduce_length (clue_at z i) (by_rules z t) out reduced ∙ rules_length

      old_at : (j : ℕ) → j < l.len → get_or old j 0 ≡ get_or (by_rules z t) j 0
      old_at j k = sym (get_or-take l.len old j 0 k) ∙ ap (λ s. get_or s j 0) (r.gathered ∙ sets_are z t)

      differ_lost : (j : ℕ) → j < l.len → not (eqb (get_or old j 0) (get_or new j 0)) ≡ lost (get_or (by_rules z t) j 0) (get_or out j 0)
      differ_lost j k =
          let p = rules_length in
          let q = out_length in
          ap₂ (λ (s u : ℕ). not (eqb s u)) (old_at j k) (get_or-append out (drop l.len old) 0 j (omega arith))
          ∙ sym (lost_differs (get_or (by_rules z t) j 0) (get_or out j 0) (subst Bytes (sets_are z t) sets_bytes j (omega arith))
          (reduce_narrows (clue_at z i) (by_rules z t) out reduced j))

      lost_are : differ_bits old new l.len ≡ lost_cells (by_rules z t) out
      unfolding differ_bits lost_cells
      lost_are = set_of-same l.len (λ j. not (eqb (get_or old j 0) (get_or new j 0))) (λ j. lost (get_or (by_rules z t) j 0) (get_or out j 0)) differ_lost
          ∙ ap (λ n. set_of n (λ j. lost (get_or (by_rules z t) j 0) (get_or out j 0))) (sym rules_length)

    differ_low : differ_bits old new l.len < 2 ^ (line_at b.w b.h i).len
    unfolding differ_bits
    differ_low = subst (λ k. differ_bits old new l.len < 2 ^ k.len) r.line (set_of-low l.len (λ j. not (eqb (get_or old j 0) (get_or new j 0))))

    pub ready_narrows : {cells : List ℕ} {gone : ℕ} → length cells ≡ length b.cells → cells ≡ write b.cells (places l) (take l.len new) → gone ≡ differ_bits old new l.len →
        Narrows b i machines (with_cells b cells) (Some gone)
    ready_narrows {cells} {gone} long c g = record {
      size = record { wide = refl; high = refl };
      long = long;
      few = subst (λ n. n < 2 ^ (line_at b.w b.h i).len) (sym g) differ_low;
      to = λ z t. (
        out,
        reduced z t,
        c ∙ ap₂ (write b.cells) (sym (cells_are z t)) (take_at out (drop l.len old) l.len (out_length z t)),
        g ∙ lost_are z t,
      );
    }

-- whether some line is arranged, by what is reduced
pub narrowed_fits : {b a : Board} {i : ℕ} {machines : List Machine} (r : Option ℕ) → Narrows b i machines a r → (z : Puzzle) → Table z b.w b.h machines →
    is_some r ≡ fits (clue_at z i) (line_of z (board_of b) i)
narrowed_fits {b} {i = i} None n z t = sym (reduce_unfit (clue_at z i) (line_of z (board_of b) i) (n.to z t).0)
narrowed_fits {b} {i = i} (Some gone) n z t = let p = n.to z t in sym (reduce_fits (clue_at z i) (line_of z (board_of b) i) p.0 p.1)
