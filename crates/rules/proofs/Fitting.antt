-- Fitting grids and boards: a fitting grid narrows the board, stays where a cell gets its colour or loses another, and a solved board that passes the final check is one, and the only one.
use mathlib.Core.Path.{◌≡◌, refl, sym, ap, ap₂, subst, ◌∙◌}
use mathlib.Core.Logic.{◌↔◌}
use mathlib.Core.Bool.{Bool, true, false, not}
use mathlib.Core.List.Memᴰ
use mathlib.Core.List.{List, [], ◌∷◌, map, map-map}
use Prim.Native.Nat.{ℕ, suc, ◌*◌, ◌^◌, ◌≤◌, ◌<◌}
use native.Mathlib.Omega.{arith}
use lib.Pow.{pow_pos, pow_mono}
use lib.ListN.{length, get_or, set, length-set, length-map, get_or-eq_default}
use lib.Seq.{get_or-set_same, get_or-set_other, ext_get_or}
use lib.Dec.{leb, ltb}
use borrow.Author.Tests.{ne_eqb, leb-true, leb-false, ltb-true}
use Rattle.rules.specs.Lists.{every, from}
use Rattle.rules.specs.Sets.{Colour, has, single, empty, only, without, proper}
use Rattle.rules.specs.Lines.{From, end, cell, fits}
use Rattle.rules.specs.Boards.{Board, Cell, at, put, remove, remove_all, solved, Puzzle, line_count, line_cells, line_of, clue_at}
use Rattle.rules.specs.Propagation.{write, check}
use Rattle.rules.specs.Promises.{AllMeet, Fits, ◌⊑◌}
use Rattle.rules.proofs.Tests.{by_test, by_equal, clash, and_true, true_and}
use Rattle.rules.proofs.Lists.{In, every_out, every_in, get_or-in, get_or-map, map_same, from_low, below}
use Rattle.rules.proofs.Sets.{has_in, in_has, only_one, only_self, byte_colour, single_some, single_only, member_pos, has_without, some_member, not_empty}
use Rattle.rules.proofs.Boards.{Sized, line_low}
use Rattle.rules.proofs.Lines.{from_length, from_at, at_from, meets_solved, solved_meets}
use Rattle.rules.proofs.Narrowing.{⊑_trans, sub_low, on_board, set_above, put_sub, remove_sub, remove_all-sub, remove_all-other}

-- each cell has a colour
abbrev pub Filled : Board → Type 0
Filled b = (c : Cell) → c < length b → 0 < at b c

-- A board that can be played, with k colours besides blank: of the puzzle's size, each cell with a colour and none above k.
pub record Playable (z : Puzzle) (k : ℕ) (b : Board) : Type 0 where
  pub sized : Sized z b
  pub filled : Filled b
  pub low : (c : Cell) → at b c < 2 ^ suc k

-- a given board of the puzzle's size, whose cells may be given, can be played
pub given_playable : (z : Puzzle) (k : ℕ) (b : Board) → length b ≡ z.width * z.height → every (proper k) b ≡ true → Playable z k b
unfolding proper
given_playable z k b e h = record { sized = e; filled = λ c l. (here c l).0; low = λ c. by_test (leb (length b) c) (λ l. off c (leb-true (length b) c l)) (λ l. (here c (leb-false (length b) c l)).1) }
  where
    here : (c : Cell) → c < length b → (0 < at b c) × (at b c < 2 ^ suc k)
    here c l = let r = and_true (leb 1 (at b c)) (ltb (at b c) (2 ^ suc k)) (every_out (proper k) b h (get_or-in b c 0 l)) in (leb-true 1 (at b c) r.0, ltb-true (at b c) (2 ^ suc k) r.1)

    off : (c : Cell) → length b ≤ c → at b c < 2 ^ suc k
    off c l = subst (λ s. s < 2 ^ suc k) (sym (get_or-eq_default b 0 l)) (pow_pos (suc k))

pub set_filled : (b : Board) (c : Cell) (s : ℕ) → Filled b → 0 < s → Filled (set b c s)
set_filled b c s f h e l =
    let k : e < length b = subst (λ n. e < n) (length-set b c s) l in
    by_equal e c
    (λ q. subst (λ v. 0 < v) (sym (ap (λ i. at (set b c s) i) q ∙ get_or-set_same b c s 0 (omega arith))) h)
    (λ q. subst (λ v. 0 < v) (sym (get_or-set_other b c e s 0 q)) (f e k))

pub write_filled : (b : Board) (cs : List Cell) (sets : List ℕ) → Filled b → ((i : ℕ) → i < length sets → 0 < get_or sets i 0) → Filled (write b cs sets)
unfolding write
write_filled b [] sets f h = f
write_filled b (c ∷ cs) [] f h = f
write_filled b (c ∷ cs) (s ∷ sets) f h = write_filled (set b c s) cs sets (set_filled b c s f (h 0 (omega arith))) (λ i l. h (suc i) (omega arith))

-- ## A grid of single colours

-- some cells of it
single_cells : (l : List Colour) (cs : List Cell) → ((c : Cell) → In c cs → c < length l) → map (at (map only l)) cs ≡ map only (map (λ c. get_or l c 0) cs)
single_cells l cs h = map_same (at (map only l)) (λ c. only (get_or l c 0)) cs (λ c m. get_or-map only l c 0 0 (h c m)) ∙ sym (map-map only (λ c. get_or l c 0) cs)

-- the colours of a board whose cells are all solved
single_colours : (b : Board) → ((c : Cell) → c < length b → at b c < 256) → solved b ≡ true → (l : List Colour) × (b ≡ map only l) × From b l
unfolding solved
single_colours [] h e = ([], refl, end)
single_colours (s ∷ b) h e =
    let q = and_true (single s) (every single b) e in
    let r = single_colours b (λ c l. h (suc c) (omega arith)) q.1 in
    let x = single_some s q.0 in (
      x.0 ∷ r.0,
      ap₂ (λ (t : ℕ) (l : List ℕ). t ∷ l) (single_only s x.0 (h 0 (omega arith)) q.0 x.2) r.1,
      cell (in_has s x.0 x.2) r.2,
    )

module _ (z : Puzzle) where
  -- ## Fitting grids narrow the board

  pub fits_long : {b g : Board} → Fits z b g → length g ≡ length b
  fits_long f = ap length f.alone ∙ length-map f.colours only ∙ sym (from_length f.taken)

  -- the colour of a cell of a fitting grid
  abbrev pub colour_at : {b g : Board} → Fits z b g → Cell → Colour
  colour_at f c = get_or f.colours c 0

  pub fits_cell : {b g : Board} (f : Fits z b g) (c : Cell) → c < length b → (at g c ≡ only (colour_at f c)) × (has (at b c) (colour_at f c) ≡ true)
  fits_cell {b} f c h = (
    ap (λ l. at l c) f.alone ∙ get_or-map only f.colours c 0 0 (let e = from_length f.taken in omega arith),
    has_in (at b c) (colour_at f c) (from_at c f.taken h),
  )

  pub fits_has : {b g : Board} (f : Fits z b g) (c : Cell) → c < length b → has (at g c) (colour_at f c) ≡ true
  fits_has f c h = subst (λ s. has s (colour_at f c) ≡ true) (sym (fits_cell f c h).0) (only_self (colour_at f c))

  -- a colour of a fitting grid's cell is the cell's colour
  pub fits_colour : {b g : Board} (f : Fits z b g) (c : Cell) (x : Colour) → has (at g c) x ≡ true → (c < length b) × (x ≡ colour_at f c)
  fits_colour {b} {g} f c x h =
      let l : c < length b = subst (λ n. c < n) (fits_long f) (on_board g c x h) in
      (l, only_one (colour_at f c) x (subst (λ s. has s x ≡ true) (fits_cell f c l).0 h))

  pub fits_sub : {b g : Board} → Fits z b g → g ⊑ b
  fits_sub {b} f = record { long = fits_long f; each = λ c x h. let r = fits_colour f c x h in subst (λ y. has (at b c) y ≡ true) (sym r.1) (fits_cell f c r.0).1 }

  -- a grid that fits one board fits another that it narrows
  pub fits_on : {b a g : Board} → Fits z b g → g ⊑ a → Fits z a g
  fits_on {b} {a} {g} f h = record {
    colours = f.colours;
    alone = f.alone;
    meets = f.meets;
    taken = at_from a f.colours (sym h.long ∙ fits_long f ∙ from_length f.taken)
        (λ c l. in_has (at a c) (colour_at f c)
        (h.each c (colour_at f c) (fits_has f c (let e = h.long in let k = fits_long f in omega arith))));
  }

  pub fits_wider : {b a g : Board} → b ⊑ a → Fits z b g → Fits z a g
  fits_wider h f = fits_on f (⊑_trans (fits_sub f) h)

  -- a cell gets a colour that the grid has there
  pub fits_put : {b g : Board} (c : Cell) (x : Colour) → Fits z b g → has (at g c) x ≡ true → Fits z (put b c x) g
  unfolding put
  fits_put {b} {g} c x f h = fits_on f (set_above g b c (only x) (fits_sub f)
      (λ y k. subst (λ v. has (only x) v ≡ true) ((fits_colour f c x h).1 ∙ sym (fits_colour f c y k).1) (only_self x)))

  -- a cell loses colours that the grid has not there
  pub fits_remove : {b g : Board} (c : Cell) (x : Colour) → at b c < 256 → Fits z b g → has (at g c) x ≡ false → Fits z (remove b c x) g
  unfolding remove
  fits_remove {b} {g} c x l f h = fits_on f (set_above g b c (without (at b c) x) (fits_sub f)
      (λ y k. let j = (fits_sub f).each c y k in
      has_without (at b c) x y (byte_colour (at b c) y l j) ∙ true_and j (ap not (ne_eqb y x (λ q. clash (subst (λ v. has (at g c) v ≡ true) q k) h)))))

  pub fits-remove_all : {b g : Board} (c : Cell) (xs : List Colour) → at b c < 256 → Fits z b g → ((x : Colour) → In x xs → has (at g c) x ≡ false) → Fits z (remove_all b c xs) g
  unfolding remove_all
  fits-remove_all {b = b} c [] l f h = f
  fits-remove_all {b = b} c (x ∷ xs) l f h = fits-remove_all {b = remove b c x} c xs (sub_low c 256 (remove_sub b c x) l) (fits_remove c x l f (h x (Memᴰ.head refl))) (λ y m. h y (Memᴰ.tail m))

  -- ## Lines of a fitting grid

  cells_taken : {b g : Board} (f : Fits z b g) (cs : List Cell) → ((c : Cell) → In c cs → c < length b) → From (map (at b) cs) (map (colour_at f) cs)
  cells_taken f [] h = end
  cells_taken {b} f (c ∷ cs) h = cell (in_has (at b c) (colour_at f c) (fits_cell f c (h c (Memᴰ.head refl))).1) (cells_taken f cs (λ e m. h e (Memᴰ.tail m)))

  pub line_taken : {b g : Board} (f : Fits z b g) (i : ℕ) → Sized z b → i < line_count z → From (line_of z b i) (map (colour_at f) (line_cells z i))
  line_taken f i e h = cells_taken f (line_cells z i) (λ c m. let l = line_low z i h m in omega arith)

  pub line_alone : {b g : Board} (f : Fits z b g) (i : ℕ) → Sized z b → i < line_count z → line_of z g i ≡ map only (map (colour_at f) (line_cells z i))
  line_alone f i e h = ap (λ l. line_of z l i) f.alone ∙ single_cells f.colours (line_cells z i) (λ c m. let l = line_low z i h m in let k = from_length f.taken in omega arith)

  -- ## The final check

  -- A SOLVED BOARD PASSES exactly if every line meets its clue
  pub check_meets : (l : List Colour) → Sized z (map only l) → (check z (map only l) ≡ true) ↔ AllMeet z l
  unfolding check
  check_meets l e = (
    λ h i k. solved_meets (clue_at z i) (colours_in i) (subst (λ s. fits (clue_at z i) s ≡ true) (alone i k) (every_out passes (from 0 (line_count z)) h (below (line_count z) i k))),
    λ m. every_in passes (from 0 (line_count z))
        (λ i n. let r = from_low 0 (line_count z) n in let k : i < line_count z = omega arith in
        subst (λ s. fits (clue_at z i) s ≡ true) (sym (alone i k)) (meets_solved (clue_at z i) (colours_in i) (m i k))),
  )
    where
      colours_in : ℕ → List Colour
      colours_in i = map (λ c. get_or l c 0) (line_cells z i)

      passes : ℕ → Bool
      passes i = fits (clue_at z i) (line_of z (map only l) i)

      alone : (i : ℕ) → i < line_count z → line_of z (map only l) i ≡ map only (colours_in i)
      alone i k = single_cells l (line_cells z i) (λ c m. let q = line_low z i k m in let n = length-map l only in omega arith)

  -- a fitting grid passes
  pub fits_check : {b g : Board} → Fits z b g → Sized z b → check z g ≡ true
  fits_check f e = subst (λ g. check z g ≡ true) (sym f.alone) ((check_meets f.colours (ap length (sym f.alone) ∙ fits_long f ∙ e)).1 f.meets)

module _ (z : Puzzle) (k : ℕ) (few : k ≤ 7) where
  -- ## Boards that can be played

  pub playable_byte : {b : Board} → Playable z k b → (c : Cell) → at b c < 256
  playable_byte p c = let l = p.low c in let m : 2 ^ suc k ≤ 2 ^ 8 = pow_mono {i = suc k} {j = 8} (omega arith) in omega arith

  pub playable_some : {b : Board} → Playable z k b → (c : Cell) → c < length b → (x : Colour) × (x < 8) × (has (at b c) x ≡ true)
  playable_some {b} p c h = some_member 8 (at b c) (p.filled c h) (playable_byte p c)

  -- a narrowing whose cells all keep a colour
  pub playable_below : {a b : Board} → Playable z k b → a ⊑ b → Filled a → Playable z k a
  playable_below p h f = record { sized = h.long ∙ p.sized; filled = f; low = λ c. sub_low c (2 ^ suc k) h (p.low c) }

  pub playable_put : {b : Board} (c : Cell) (x : Colour) → Playable z k b → has (at b c) x ≡ true → Playable z k (put b c x)
  unfolding put
  playable_put {b} c x p h = playable_below p (put_sub b c x h) (set_filled b c (only x) p.filled (pow_pos x))

  pub playable-remove_all : {b : Board} (c : Cell) (xs : List Colour) → Playable z k b → empty (at (remove_all b c xs) c) ≡ false → Playable z k (remove_all b c xs)
  playable-remove_all {b} c xs p h = playable_below p (remove_all-sub b c xs)
      (λ e l. by_equal e c
      (λ q. let r = not_empty (at (remove_all b c xs) c) h in subst (λ i. 0 < at (remove_all b c xs) i) (sym q) (member_pos (at (remove_all b c xs) c) r.0 r.2))
      (λ q. subst (λ v. 0 < v) (sym (remove_all-other b c xs e q)) (p.filled e (let m = (remove_all-sub b c xs).long in omega arith))))

  pub playable_remove : {b : Board} (c : Cell) (x : Colour) → Playable z k b → empty (at (remove b c x) c) ≡ false → Playable z k (remove b c x)
  unfolding remove_all
  playable_remove c x p h = playable-remove_all c (x ∷ []) p h

  -- ## Solved boards

  -- a solved board has room for one grid
  pub fits_one : {b g : Board} → Playable z k b → solved b ≡ true → Fits z b g → g ≡ b
  unfolding solved
  fits_one {b} {g} p e f = ext_get_or 0 g b (fits_long z f)
      (λ c h. let l : c < length b = subst (λ n. c < n) (fits_long z f) h in let r = fits_cell z f c l in
      r.0 ∙ sym (single_only (at b c) (colour_at z f c) (playable_byte p c) (every_out single b e (get_or-in b c 0 l)) r.1))

  -- A SOLVED BOARD THAT PASSES THE FINAL CHECK FITS
  pub check_fits : {b : Board} → Playable z k b → solved b ≡ true → check z b ≡ true → Fits z b b
  check_fits {b} p e h =
      let r = single_colours b (λ c _. playable_byte p c) e in record {
        colours = r.0;
        alone = r.1;
        taken = r.2;
        meets = (check_meets z r.0 (ap length (sym r.1) ∙ p.sized)).0 (subst (λ g. check z g ≡ true) r.1 h);
      }

  -- a solved board that fails it has no grid
  pub unchecked_none : {b g : Board} → Playable z k b → solved b ≡ true → check z b ≡ false → Fits z b g → ⊥
  unchecked_none p e h f = clash (sym (ap (check z) (fits_one p e f)) ∙ fits_check z f p.sized) h
