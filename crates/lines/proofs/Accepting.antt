-- The machine of a clue accepts the lines that meet the clue, and no others.
use mathlib.Core.Path.{◌≡◌, refl, ap, sym, ◌∙◌, subst}
use mathlib.Core.Logic.{inl, inr}
use mathlib.Core.Bool.{true}
use mathlib.Core.List.{List, [], ◌∷◌, ◌++◌}
use Prim.Native.Nat.{ℕ, zero, suc, ◌+◌, ◌*◌, ◌≤◌, ◌<◌}
use native.Mathlib.Omega.{arith}
use lib.Dec.{leb}
use lib.ListN.{length, get_or, set, replicate, length-set, length-map, get_or-map}
use lib.Seq.{get_or-set_same, get_or-set_other}
use Rattle.rules.specs.Lists.{every}
use Rattle.rules.specs.Sets.{Colour, bit, ◌∋◌}
use Rattle.rules.specs.Clues.{Block, Clue, allowed, regular}
use Rattle.rules.specs.Lines.{cells_of, between, Meets, nothing, blank, block}
use Rattle.rules.proofs.Tests.{by_equal, and_true}
use Rattle.rules.proofs.Clues.{allowed_out}
use Rattle.rules.proofs.Lines.{blanks}
use Rattle.rules.proofs.Stretches.{between_cases}
use Rattle.rules.proofs.Sets.{bit_suc, bit_le, bit_none, bit_low, bit_up}
use Rattle.lines.specs.declared.machine.Machine.{Machine}
use Rattle.lines.specs.Machines.{raised, pushed, pushed_all, opened, machine, Coloured}
use Rattle.lines.proofs.Masks.{bit_or_lem, bit_even, bit_twice}
use Rattle.lines.proofs.Runs.{Run, stop, stay, go}

-- ## Clues whose colours a byte has room for

-- every colour of the list is below n
abbrev pub Below : ℕ → List Colour → Type 0
Below n [] = Unit {0}
Below n (c ∷ cs) = (c < n) × Below n cs

pub coloured : (k : ℕ) (clue : Clue) → k < 8 → regular k clue ≡ true → Coloured clue
unfolding regular
coloured k clue h e = each clue (and_true (leb (length clue) 16) (every (allowed k) clue) e).1
  where
    each : (clue : Clue) → every (allowed k) clue ≡ true → Coloured clue
    each [] e = tt
    each (b ∷ clue) e =
        let r = and_true (allowed k b) (every (allowed k) clue) e in
        (omega (arith, (allowed_out k b r.0).1), each clue r.1)

below_same : (k c n : ℕ) → c < k → Below k (replicate n c)
below_same k c zero h = tt
below_same k c (suc n) h = (h, below_same k c n h)

-- what must stand between two blocks is a blank or nothing: all that the proofs of this crate know of it, but for the laws that `blanks_between` cites
pub between_blanks : (b : Block) (clue : Clue) → (n : ℕ) × (n ≤ 1) × (between b clue ≡ replicate n 0)
between_blanks b clue = elim (between_cases b clue) [ inl e ↦ (0, omega arith, e) | inr e ↦ (1, omega arith, e) ]

below_between : (b : Block) (clue : Clue) → Below 8 (between b clue)
below_between b clue = let w = between_blanks b clue in subst (Below 8) (sym w.2) (below_same 8 0 w.0 (omega arith))

-- ## One cell more

-- the masks of `pushed c m`: that of c has state 0 too
pub by_same : (masks : List ℕ) (c : ℕ) → c < length masks → get_or (set (raised masks) c (get_or masks c 0 * 2 + 1)) c 0 ≡ get_or masks c 0 * 2 + 1
by_same masks c h = get_or-set_same (raised masks) c _ 0 (rw length-map h)

pub by_other : (masks : List ℕ) (c k v : ℕ) → (k ≡ c → ⊥) → get_or (set (raised masks) c v) k 0 ≡ get_or masks k 0 * 2
by_other masks c k v n = get_or-set_other (raised masks) c k v 0 n ∙ get_or-map (λ p. p * 2) masks k 0

odd_low : (a : ℕ) → bit (a * 2 + 1) 0 ≡ 1
odd_low a = ap (λ x. bit x 0) (omega arith) ∙ bit_low a 1 (omega arith)

odd_up : (a j : ℕ) → bit (a * 2 + 1) (suc j) ≡ bit a j
odd_up a j = ap (λ x. bit x (suc j)) (omega arith) ∙ bit_up a 1 j (omega arith)

by_up : (m : Machine) (c k j : ℕ) → c < length m.by → bit (get_or (pushed c m).by k 0) (suc j) ≡ bit (get_or m.by k 0) j
unfolding pushed
by_up m c k j h = by_equal k c
    (λ e. subst (λ x. bit (get_or (set (raised m.by) c (get_or m.by c 0 * 2 + 1)) x 0) (suc j) ≡ bit (get_or m.by x 0) j) (sym e)
    (ap (λ x. bit x (suc j)) (by_same m.by c h) ∙ odd_up (get_or m.by c 0) j))
    (λ n. ap (λ x. bit x (suc j)) (by_other m.by c k _ n) ∙ bit_twice (get_or m.by k 0) j)

by_first : (m : Machine) (c : ℕ) → c < length m.by → get_or (pushed c m).by c 0 ∋ 0
unfolding pushed
by_first m c h = ap (λ x. bit x 0) (by_same m.by c h) ∙ odd_low (get_or m.by c 0)

by_only : (m : Machine) (c k : ℕ) → get_or (pushed c m).by k 0 ∋ 0 → k ≡ c
unfolding pushed
by_only m c k h = by_equal k c (λ e. e) (λ n. absurd (omega (arith, ap (λ x. bit x 0) (by_other m.by c k (get_or m.by c 0 * 2 + 1) n), bit_even (get_or m.by k 0))))

-- a run of m is a run of `pushed c m` one state up, and the other way round
module _ (m : Machine) (c : Colour) (h : c < length m.by) where
  up : {j : ℕ} {line : List Colour} → Run m j line → Run (pushed c m) (suc j) line
  unfolding pushed
  up {j} (stop t) = stop (bit_twice m.last j ∙ t)
  up {j} (stay t r) = stay (bit_twice m.gap j ∙ t) (up r)
  up {j} (go {c = k} t r) = go (by_up m c k j h ∙ t) (up r)

  down : {j : ℕ} {line : List Colour} → Run (pushed c m) (suc j) line → Run m j line
  unfolding pushed
  down {j} (stop t) = stop (sym (bit_twice m.last j) ∙ t)
  down {j} (stay t r) = stay (sym (bit_twice m.gap j) ∙ t) (down r)
  down {j} (go {c = k} t r) = go (sym (by_up m c k j h) ∙ t) (down r)

  push_in : {line : List Colour} → Run m 0 line → Run (pushed c m) 0 (c ∷ line)
  push_in r = go (by_first m c h) (up r)

  push_of : {line : List Colour} → Run (pushed c m) 0 line → (rest : List Colour) × (line ≡ c ∷ rest) × Run m 0 rest
  unfolding pushed
  push_of (stop t) = absurd (omega (arith, bit_even m.last))
  push_of (stay t r) = absurd (omega (arith, bit_even m.gap))
  push_of (go {c = k} {line = line} t r) = (line, ap (λ x. x ∷ line) (by_only m c k t), down r)

pub by_long : (cs : List Colour) (m : Machine) → length (pushed_all cs m).by ≡ length m.by
unfolding pushed_all pushed
by_long [] m = refl
by_long (c ∷ cs) m = simp (length-set, length-map) (by_long cs m)

pushes_in : (cs : List Colour) (m : Machine) {line : List Colour} → Below (length m.by) cs → Run m 0 line → Run (pushed_all cs m) 0 (cs ++ line)
unfolding pushed_all
pushes_in [] m b r = r
pushes_in (c ∷ cs) m b r = push_in (pushed_all cs m) c (rw by_long b.0) (pushes_in cs m b.1 r)

pushes_of : (cs : List Colour) (m : Machine) {line : List Colour} → Below (length m.by) cs → Run (pushed_all cs m) 0 line → (rest : List Colour) × (line ≡ cs ++ rest) × Run m 0 rest
unfolding pushed_all
pushes_of [] m {line} b r = (line, refl, r)
pushes_of (c ∷ cs) m b r =
    let w = push_of (pushed_all cs m) c (rw by_long b.0) r in
    let v = pushes_of cs m b.1 w.2 in
    (v.0, w.1 ∙ ap (λ l. c ∷ l) v.1, v.2)

-- ## Blanks first

-- a run of `opened m` past state 0 is one of m
open_in : (m : Machine) {j : ℕ} {line : List Colour} → Run m j line → Run (opened m) j line
unfolding opened
open_in m (stop t) = stop t
open_in m {j} (stay t r) = stay {j = j} (omega (arith, bit_or_lem m.gap 1 j, bit_le 1 j)) (open_in m r)
open_in m (go t r) = go t (open_in m r)

one_high : (j : ℕ) → bit 1 (suc j) ≡ 0
one_high j = bit_suc 1 j ∙ bit_none j

open_down : (m : Machine) {j : ℕ} {line : List Colour} → Run (opened m) (suc j) line → Run m (suc j) line
unfolding opened
open_down m (stop t) = stop t
open_down m {j} (stay t r) = stay {j = suc j} (omega (arith, bit_or_lem m.gap 1 (suc j), one_high j)) (open_down m r)
open_down m (go t r) = go t (open_down m r)

-- and from state 0 it is blanks, and one of m
open_of : (m : Machine) {line : List Colour} → Run (opened m) 0 line → (n : ℕ) × (rest : List Colour) × (line ≡ replicate n 0 ++ rest) × Run m 0 rest
unfolding opened
open_of m (stop t) = (0, [], refl, stop t)
open_of m (stay t r) = let w = open_of m r in (suc w.0, w.1, ap (λ l. 0 ∷ l) w.2, w.3)
open_of m (go {c = c} {line = line} t r) = (0, c ∷ line, refl, go t (open_down m r))

-- ## The machine of a clue

pub machine_long : (clue : Clue) → length (machine clue).by ≡ 8
unfolding machine opened
machine_long [] = refl
machine_long (b ∷ clue) = by_long (cells_of b) _ ∙ by_long (between b clue) (machine clue) ∙ machine_long clue

machine_opens : (clue : Clue) → (machine clue).gap ∋ 0
unfolding machine opened bit
machine_opens [] = refl
machine_opens (b ∷ clue) =
    let g = (pushed_all (cells_of b) (pushed_all (between b clue) (machine clue))).gap in
    omega (arith, bit_or_lem g 1 0, bit_le g 0)

pub meets_run : {clue : Clue} {line : List Colour} → Coloured clue → Meets clue line → Run (machine clue) 0 line
unfolding machine bit
meets_run ok nothing = stop refl
meets_run {clue} ok (blank r) = stay (machine_opens clue) (meets_run ok r)
meets_run ok (block {b = b} {clue = clue} r) =
    open_in (pushed_all (cells_of b) (pushed_all (between b clue) (machine clue)))
    (pushes_in (cells_of b) (pushed_all (between b clue) (machine clue)) (rw (by_long, machine_long) (below_same 8 b.colour b.cells ok.0))
    (pushes_in (between b clue) (machine clue) (rw machine_long (below_between b clue)) (meets_run ok.1 r)))

pub zeros : (n c : ℕ) → ◌≡◌ {A = ℕ} (get_or (replicate n 0) c 0) 0
zeros zero c = refl
zeros (suc n) zero = refl
zeros (suc n) (suc c) = zeros n c

nothing_run : {line : List Colour} → Run (machine []) 0 line → Meets [] line
unfolding machine
nothing_run (stop t) = nothing
nothing_run (stay t r) = blank (nothing_run r)
nothing_run (go {c = c} t r) = absurd (omega (arith, ap (λ x. bit x 0) (zeros 8 c), bit_none 0))

pub run_meets : (clue : Clue) {line : List Colour} → Coloured clue → Run (machine clue) 0 line → Meets clue line
unfolding machine
run_meets [] ok r = nothing_run r
run_meets (b ∷ clue) ok r =
    let o = open_of (pushed_all (cells_of b) (pushed_all (between b clue) (machine clue))) r in
    let p = pushes_of (cells_of b) (pushed_all (between b clue) (machine clue)) (rw (by_long, machine_long) (below_same 8 b.colour b.cells ok.0)) o.3 in
    let q = pushes_of (between b clue) (machine clue) (rw machine_long (below_between b clue)) p.2 in
    subst (λ l. Meets (b ∷ clue) l) (sym (o.2 ∙ ap (λ l. replicate o.0 0 ++ l) (p.1 ∙ ap (λ l. cells_of b ++ l) q.1)))
    (blanks o.0 (block (run_meets clue ok.1 q.2)))
