-- A grid handed over as the board is answered by its clues alone: 1 where they are met, and 3 where they are not. So it is told whether it fits the puzzle as given, if it takes its colours from the
-- given board: a grid that does is accepted in the board's place, and fits the wider board exactly if it fits itself.
use mathlib.Core.Path.{◌≡◌, refl, sym, ap, subst, ◌∙◌}
use mathlib.Core.Logic.{◌⊎◌, inl, inr, ⊎_elim}
use mathlib.Core.Bool.{true}
use mathlib.Core.List.{List}
use Prim.Native.Nat.{ℕ, suc, ◌*◌, ◌^◌, ◌<◌}
use native.Mathlib.Omega.{arith}
use lib.ListN.{length}
use borrow.Author.Tests.{eq-eqb, le-leb, lt-ltb}
use Rattle.rules.specs.Lists.{every}
use Rattle.rules.specs.Sets.{single, proper}
use Rattle.rules.specs.Clues.{Clue}
use Rattle.rules.specs.Boards.{Board, at, solved, Puzzle}
use Rattle.rules.specs.Propagation.{check}
use Rattle.rules.specs.Probing.{start_queue, probe}
use Rattle.rules.specs.Search.{fresh, begun, whole_run}
use Rattle.rules.specs.Answers.{Asked, answer_of, solve}
use Rattle.rules.specs.Promises.{Fits, Takes, handed, Judges, Accepted, puzzle_of, limits_of}
use Rattle.rules.proofs.Tests.{on_test, passed, true_and}
use Rattle.rules.proofs.Lists.{In, every_in, every_out, get_or-in, in-get_or}
use Rattle.rules.proofs.Sets.{only_single, single_some, byte_colour, member_pos}
use Rattle.rules.proofs.Narrowing.{⊑_refl}
use Rattle.rules.proofs.Accepting.{accepted_searched, accepted_sized, accepted_playable, accepted_room}
use Rattle.rules.proofs.Fitting.{Playable, playable_byte, playable_below, colour_at, fits_cell, fits_long, fits_sub, fits_on, fits_wider, check_fits, unchecked_none}

-- ## A solved board

module _ (a : Asked) (clues : List Clue) (y : Accepted a clues) where
  abbrev z : Puzzle
  z = puzzle_of a clues

  -- it is answered as solved where it fits itself, and as a dead end where it does not
  abbrev Judged : ℕ → Type 0
  Judged n = ((n ≡ 1) × Fits z a.cells a.cells) ⊎ ((n ≡ 3) × (Fits z a.cells a.cells → ⊥))

  solved_judged : solved a.cells ≡ true → Judged (solve a).number
  unfolding whole_run
  solved_judged e = subst (λ r. Judged r.number) (sym (accepted_searched a clues y ∙ ap (answer_of a) (passed (begun z (limits_of a) (probe z a.cells (start_queue z a.cells) fresh)) e)))
      (on_test (λ o. Judged (answer_of a o).number) (check z a.cells) (λ h. inl (refl, check_fits z a.k (accepted_room a clues y) (accepted_playable a clues y) e h)) (λ h. inr (refl, λ f. unchecked_none z a.k (accepted_room a clues y) (accepted_playable a clues y) e h f)))

-- ## A grid in the board's place

-- the cells of a board that can be played may be given
played_proper : (z : Puzzle) (k : ℕ) (b : Board) → Playable z k b → every (proper k) b ≡ true
unfolding proper
played_proper z k b p = every_in (proper k) b
    (λ s m. let i = in-get_or b 0 m in
    subst (λ v. proper k v ≡ true) (sym i.2) (true_and (le-leb 1 (at b i.0) (p.filled i.0 i.1)) (lt-ltb (at b i.0) (2 ^ suc k) (p.low i.0))))

module _ (a : Asked) (clues : List Clue) (y : Accepted a clues) (grid : Board) where
  abbrev puzzle : Puzzle
  puzzle = puzzle_of a clues

  -- one that takes its colours from the given board is accepted
  taken_accepted : Takes a.cells grid → Accepted (handed a grid) clues
  unfolding solved
  taken_accepted t = record {
    width = y.width;
    height = y.height;
    colours = y.colours;
    limited = y.limited;
    read = y.read;
    cells = true_and (eq-eqb (length grid) (a.w * a.h) (t.1.long ∙ accepted_sized a clues y)) (played_proper puzzle a.k grid played);
    room = y.room;
  }
    where
      played : Playable puzzle a.k grid
      played = playable_below puzzle a.k (accepted_room a clues y) (accepted_playable a clues y) t.1
          (λ c l. let x = single_some (at grid c) (every_out single grid t.0 (get_or-in grid c 0 l)) in member_pos (at grid c) x.0 x.2)

  -- one that fits takes its colours from the given board
  fits_takes : Fits puzzle a.cells grid → Takes a.cells grid
  unfolding solved
  fits_takes f = (every_in single grid each, fits_sub puzzle f)
    where
      each : (s : ℕ) → In s grid → single s ≡ true
      each s m =
          let i = in-get_or grid 0 m in
          let l : i.0 < length a.cells = subst (λ n. i.0 < n) (fits_long puzzle f) i.1 in
          let x = fits_cell puzzle f i.0 l in
          subst (λ v. single v ≡ true) (sym (i.2 ∙ x.0))
          (only_single (colour_at puzzle f i.0) (byte_colour (at a.cells i.0) (colour_at puzzle f i.0) (playable_byte puzzle a.k (accepted_room a clues y) (accepted_playable a clues y) i.0) x.1))

  -- WHETHER A GRID FITS THE PUZZLE AS GIVEN is told by handing it over, under any limits that are accepted
  pub judged : Judges puzzle a.cells grid (solve (handed a grid))
  judged = record {
    right = (
      λ f. (fits_takes f, ⊎_elim (λ j. j.0) (λ j. absurd (j.1 (fits_on puzzle f (⊑_refl grid)))) (answered (fits_takes f))),
      λ h. ⊎_elim (λ j. fits_wider puzzle h.0.1 j.1) (λ j. absurd (let e : 1 ≡ 3 = sym h.1 ∙ j.0 in omega arith)) (answered h.0),
    );
    wrong = λ t n. ⊎_elim (λ j. absurd (n (fits_wider puzzle t.1 j.1))) (λ j. j.0) (answered t);
  }
    where
      answered : (t : Takes a.cells grid) → Judged (handed a grid) clues (taken_accepted t) (solve (handed a grid)).number
      answered t = solved_judged (handed a grid) clues (taken_accepted t) t.0
