-- A line meets its clue exactly if the blocks that it shows, its stretches of equal colours that are not blank, are the clue's blocks in order.
-- One way goes along `Meets`: a block is a stretch of its own, since what comes after it begins with another colour.
-- The other way goes along the stretches: neighbours differ in colour, so that two blocks of one colour have a blank stretch between them.
use mathlib.Core.Path.{◌≡◌, refl, sym, ap, subst, ◌∙◌}
use mathlib.Core.Logic.{◌↔◌, ◌⊎◌, inl, inr}
use mathlib.Core.Bool.{true}
use mathlib.Core.List.{List, [], ◌∷◌, ◌++◌, map}
use Prim.Native.Nat.{ℕ, zero, suc, ◌+◌, ◌<◌}
use native.Mathlib.Omega.{arith}
use lib.ListN.{length, get_or, replicate}
use lib.Dec.{eqb, leb}
use borrow.Author.Tests.{eqb-true, eqb-false, eq-eqb, ne_eqb, lt-ltb, le-ltb, ltb-false}
use Rattle.rules.specs.Lists.{keep, every}
use Rattle.rules.specs.Sets.{Colour}
use Rattle.rules.specs.Clues.{Block, Clue, allowed, regular}
use Rattle.rules.specs.Lines.{cells_of, between, Meets, nothing, blank, block, in_front, stretches, not_blank, blocks_of, Shows, MeetsExactly}
use Rattle.rules.specs.Boards.{line_cells}
use Rattle.rules.specs.Answers.{Asked}
use Rattle.rules.specs.Promises.{AllMeet, AllShow, Accepted, puzzle_of}
use Rattle.rules.proofs.Tests.{on_test, and_true}
use Rattle.rules.proofs.Lists.{every_out, get_or-in}
use Rattle.rules.proofs.Clues.{allowed_out, clues_of-exact}
use Rattle.rules.proofs.Lines.{blanks}

-- ## What must stand between two blocks

pub between_same : (b next : Block) (clue : Clue) → b.colour ≡ next.colour → between b (next ∷ clue) ≡ 0 ∷ []
between_same b next clue e = rw (eq-eqb b.colour next.colour e, between)

pub between_other : (b next : Block) (clue : Clue) → (b.colour ≡ next.colour → ⊥) → between b (next ∷ clue) ≡ []
between_other b next clue n = rw (ne_eqb b.colour next.colour n, between)

-- it is nothing, or a blank
pub between_cases : (b : Block) (clue : Clue) → (between b clue ≡ []) ⊎ (between b clue ≡ 0 ∷ [])
between_cases b [] = inl refl
between_cases b (next ∷ clue) = on_test (λ l. (l ≡ []) ⊎ (l ≡ 0 ∷ [])) (eqb b.colour next.colour) (λ e. inr refl) (λ e. inl refl)

-- ## Stretches

kept_in : (s : Block) (more : List Block) → 0 < s.colour → keep not_blank (s ∷ more) ≡ s ∷ keep not_blank more
kept_in s more h = rw (lt-ltb 0 s.colour h, keep)

kept_out : (s : Block) (more : List Block) → s.colour ≡ 0 → keep not_blank (s ∷ more) ≡ keep not_blank more
kept_out s more e = rw (le-ltb 0 s.colour (omega arith), keep)

-- the first stretch, if there is one, has another colour than c
abbrev Other : Colour → List Block → Type 0
Other c [] = Unit {0}
Other c (s ∷ more) = c ≡ s.colour → ⊥

front_other : (c : Colour) (ss : List Block) → Other c ss → in_front c ss ≡ record { colour = c; cells = 1 } ∷ ss
front_other c [] o = refl
front_other c (s ∷ more) o = rw (ne_eqb c s.colour o, in_front)

front_same : (c : Colour) (n : ℕ) (more : List Block) → in_front c (record { colour = c; cells = n } ∷ more) ≡ record { colour = c; cells = suc n } ∷ more
front_same c n more = rw (eq-eqb c c refl, in_front)

-- a blank in front shows no block more
blank_hidden : (ss : List Block) → keep not_blank (in_front 0 ss) ≡ keep not_blank ss
blank_hidden [] = refl
blank_hidden (s ∷ more) = on_test (λ l. keep not_blank l ≡ keep not_blank (s ∷ more)) (eqb 0 s.colour) (λ e. sym (kept_out s more (sym (eqb-true 0 s.colour e)))) (λ e. refl)

blank_other : (c : Colour) (ss : List Block) → 0 < c → Other c (in_front 0 ss)
blank_other c [] h = λ e. omega arith
blank_other c (s ∷ more) h = on_test (Other c) (eqb 0 s.colour) (λ e k. omega arith) (λ e k. omega arith)

-- ## A line that meets its clue shows the clue's blocks

-- each block has a cell or more, and a colour other than blank
abbrev Solid : Clue → Type 0
Solid [] = Unit {0}
Solid (b ∷ clue) = (0 < b.colour) × (0 < b.cells) × Solid clue

-- n cells of a colour, before a line that begins with another, are a stretch
one_stretch : (c n : ℕ) (line : List Colour) → 0 < n → Other c (stretches line) → stretches (replicate n c ++ line) ≡ record { colour = c; cells = n } ∷ stretches line
unfolding stretches
one_stretch c zero line h o = absurd (omega arith)
one_stretch c (suc zero) line h o = front_other c (stretches line) o
one_stretch c (suc (suc n)) line h o = ap (in_front c) (one_stretch c (suc n) line (omega arith) o) ∙ front_same c (suc n) (stretches line)

other_first : (c : Colour) (ss : List Block) → 0 < c → Other c (keep not_blank ss) → Other c ss
other_first c [] h o = tt
other_first c (s ∷ more) h o = λ e. subst (Other c) (kept_in s more (omega arith)) o e

-- what comes after a block begins with another colour, and shows the rest of the clue
after_block : (b : Block) (clue : Clue) (line : List Colour) → 0 < b.colour → blocks_of line ≡ clue →
    Other b.colour (stretches (between b clue ++ line)) × (blocks_of (between b clue ++ line) ≡ clue)
unfolding stretches
after_block b [] line h e = (other_first b.colour (stretches line) h (subst (Other b.colour) (sym e) tt), e)
after_block b (next ∷ clue) line h e =
    on_test (λ l. Other b.colour (stretches (l ++ line)) × (blocks_of (l ++ line) ≡ next ∷ clue)) (eqb b.colour next.colour)
    (λ t. (blank_other b.colour (stretches line) h, blank_hidden (stretches line) ∙ e))
    (λ t. (other_first b.colour (stretches line) h (subst (Other b.colour) (sym e) (eqb-false b.colour next.colour t)), e))

meets_shows : {clue : Clue} {line : List Colour} → Solid clue → Meets clue line → Shows clue line
unfolding stretches
meets_shows ok nothing = refl
meets_shows ok (blank {line = line} m) = blank_hidden (stretches line) ∙ meets_shows ok m
meets_shows ok (block {b = b} {clue = clue} {line = line} m) =
    let r = after_block b clue line ok.0 (meets_shows ok.2 m) in
    ap (keep not_blank) (one_stretch b.colour b.cells (between b clue ++ line) ok.1 r.0)
    ∙ kept_in b (stretches (between b clue ++ line)) ok.0
    ∙ ap (λ l. b ∷ l) r.1

-- ## A line meets the blocks that it shows

-- stretches as a line
abbrev laid : List Block → List Colour
laid [] = []
laid (s ∷ more) = cells_of s ++ laid more

-- each has a cell, and the next has another colour
abbrev Alternating : List Block → Type 0
Alternating [] = Unit {0}
Alternating (s ∷ more) = (0 < s.cells) × Other s.colour more × Alternating more

front_laid : (c : Colour) (ss : List Block) → laid (in_front c ss) ≡ c ∷ laid ss
front_laid c [] = refl
front_laid c (s ∷ more) =
    on_test (λ l. laid l ≡ c ∷ laid (s ∷ more)) (eqb c s.colour) (λ e. ap (λ x. c ∷ (replicate s.cells x ++ laid more)) (eqb-true c s.colour e)) (λ e. refl)

front_alternating : (c : Colour) (ss : List Block) → Alternating ss → Alternating (in_front c ss)
front_alternating c [] p = (omega arith, tt, tt)
front_alternating c (s ∷ more) p =
    on_test Alternating (eqb c s.colour)
    (λ e. (omega arith, subst (λ x. Other x more) (sym (eqb-true c s.colour e)) p.1, p.2))
    (λ e. (omega arith, eqb-false c s.colour e, p))

stretches_laid : (line : List Colour) → laid (stretches line) ≡ line
unfolding stretches
stretches_laid [] = refl
stretches_laid (c ∷ line) = front_laid c (stretches line) ∙ ap (λ l. c ∷ l) (stretches_laid line)

stretches_alternating : (line : List Colour) → Alternating (stretches line)
unfolding stretches
stretches_alternating [] = tt
stretches_alternating (c ∷ line) = front_alternating c (stretches line) (stretches_alternating line)

-- a block, a blank stretch, and a line that meets the rest
block_blanks : (s : Block) {clue : Clue} {line : List Colour} (n x : ℕ) → 0 < n → x ≡ 0 → Meets clue line → Meets (s ∷ clue) (cells_of s ++ (replicate n x ++ line))
block_blanks s zero x h e m = absurd (omega arith)
block_blanks s {clue} {line} (suc n) x h e m = subst (λ y. Meets (s ∷ clue) (cells_of s ++ (replicate (suc n) y ++ line))) (sym e) (go (between_cases s clue))
  where
    go : (between s clue ≡ []) ⊎ (between s clue ≡ 0 ∷ []) → Meets (s ∷ clue) (cells_of s ++ (0 ∷ (replicate n 0 ++ line)))
    go (inl q) = subst (λ l. Meets (s ∷ clue) (cells_of s ++ (l ++ (0 ∷ (replicate n 0 ++ line))))) q (block (blank (blanks n m)))
    go (inr q) = subst (λ l. Meets (s ∷ clue) (cells_of s ++ (l ++ (replicate n 0 ++ line)))) q (block (blanks n m))

-- a block and the stretches after it, of which the first has another colour
block_laid : (s z : Block) (more : List Block) → (s.colour ≡ z.colour → ⊥) → 0 < z.cells → Meets (keep not_blank (z ∷ more)) (laid (z ∷ more)) → Meets (keep not_blank more) (laid more) →
    Meets (s ∷ keep not_blank (z ∷ more)) (cells_of s ++ laid (z ∷ more))
block_laid s z more o h m k =
    on_test (λ clue. Meets clue (laid (z ∷ more)) → Meets (s ∷ clue) (cells_of s ++ laid (z ∷ more))) (not_blank z)
    (λ e n. subst (λ l. Meets (s ∷ z ∷ keep not_blank more) (cells_of s ++ (l ++ laid (z ∷ more)))) (between_other s z (keep not_blank more) o) (block n))
    (λ e n. let l = ltb-false 0 z.colour e in block_blanks s z.cells z.colour h (omega arith) k)
    m

-- a stretch is a block, or blanks
stretch_laid : (s : Block) (more : List Block) → Meets (keep not_blank more) (laid more) → Meets (s ∷ keep not_blank more) (laid (s ∷ more)) → Meets (keep not_blank (s ∷ more)) (laid (s ∷ more))
stretch_laid s more m k = on_test (λ clue. Meets clue (laid (s ∷ more))) (not_blank s)
    (λ e. k)
    (λ e. let l = ltb-false 0 s.colour e in let z : 0 ≡ s.colour = omega arith in
    subst (λ x. Meets (keep not_blank more) (replicate s.cells x ++ laid more)) z (blanks s.cells m))

laid_meets : (ss : List Block) → Alternating ss → Meets (keep not_blank ss) (laid ss)
laid_meets [] p = nothing
laid_meets (s ∷ []) p = stretch_laid s [] nothing (block nothing)
laid_meets (s ∷ z ∷ more) p =
    let m = laid_meets (z ∷ more) p.2 in
    stretch_laid s (z ∷ more) m (block_laid s z more p.1 p.2.0 m (laid_meets more p.2.2))

shows_meets : (line : List Colour) → Meets (blocks_of line) line
shows_meets line = subst (λ l. Meets (blocks_of line) l) (stretches_laid line) (laid_meets (stretches line) (stretches_alternating line))

-- ## Both

regular_solid : (k : ℕ) (clue : Clue) → regular k clue ≡ true → Solid clue
unfolding regular
regular_solid k clue e = each clue (and_true (leb (length clue) 16) (every (allowed k) clue) e).1
  where
    each : (clue : Clue) → every (allowed k) clue ≡ true → Solid clue
    each [] e = tt
    each (b ∷ clue) e =
        let r = and_true (allowed k b) (every (allowed k) clue) e in
        let q = allowed_out k b r.0 in
        (q.0, q.2, each clue r.1)

pub meets_exactly : (k : ℕ) → MeetsExactly k
meets_exactly k clue line e = (meets_shows (regular_solid k clue e), λ s. subst (λ c. Meets c line) s (shows_meets line))

-- where the input is accepted, every row and every column of a grid meets its clue exactly if each shows it
pub all_shown : (a : Asked) (clues : List Clue) (colours : List Colour) → Accepted a clues → AllMeet (puzzle_of a clues) colours ↔ AllShow (puzzle_of a clues) colours
all_shown a clues colours ok = (λ m i h. (line i h).0 (m i h), λ s i h. (line i h).1 (s i h))
  where
    line : (i : ℕ) → i < a.h + a.w →
        let l = map (λ c. get_or colours c 0) (line_cells (puzzle_of a clues) i) in Meets (get_or clues i []) l ↔ Shows (get_or clues i []) l
    line i h =
        let r = (clues_of-exact a.k (a.h + a.w) a.clues clues).0 ok.read in
        meets_exactly a.k (get_or clues i []) _ (every_out (regular a.k) clues r.1 (get_or-in clues i [] (omega (arith, r.0))))
