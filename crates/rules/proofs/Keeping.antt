-- Reducing, propagating and probing keep every fitting grid; where they come to a contradiction, no grid fits.
use mathlib.Core.Path.{◌≡◌, refl, subst}
use mathlib.Core.Bool.{true, false, ◌||◌}
use mathlib.Core.List.Memᴰ
use mathlib.Core.List.{List, [], ◌∷◌, map}
use mathlib.Core.Option.{Option, none, some}
use Prim.Native.Nat.{ℕ, ◌≤◌, ◌<◌}
use native.Mathlib.Omega.{arith}
use lib.ListN.{length}
use lib.Dec.{eqb}
use Rattle.rules.specs.Loops.{Turn, more, stop, Holds}
use Rattle.rules.specs.Sets.{Colour, has, set_of, colours, empty}
use Rattle.rules.specs.Lines.{reduce}
use Rattle.rules.specs.Queues.{pop}
use Rattle.rules.specs.Boards.{Board, Cell, at, remove_all, solved, newly, Puzzle, line_count, row_of, column_of, line_cells, line_of, clue_at}
use Rattle.rules.specs.Propagation.{Pending, pending, next, reduced, propagate_step, propagate_measure, propagate_on, propagate}
use Rattle.rules.specs.Floats.{higher}
use Rattle.rules.specs.Probing.{Run, CellQueue, Notes, Probing, probing, Probed, contradiction, probed, contradicting, solving, assumed_all, push_both, outcomes, new_round, cut, judge, probe_step, probe_measure, probe_unended, probe_on, probe}
use Rattle.rules.specs.Promises.{Fits, ◌⊑◌}
use Rattle.rules.proofs.Tests.{on_test, on_option, by_test}
use Rattle.rules.proofs.Lists.{In}
use Rattle.rules.proofs.Loops.{run_ends}
use Rattle.rules.proofs.Sets.{byte_colour, empty_none}
use Rattle.rules.proofs.Lines.{only_under, Leaves, reduce_leaves, reduce_filled}
use Rattle.rules.proofs.Narrowing.{⊑_refl, ⊑_trans, sub_low, on_board, remove_all-sub, write_above}
use Rattle.rules.proofs.Propagation.{after, after_sub, line_bytes_lem, next_some, propagate_falls}
use Rattle.rules.proofs.Probing.{contradicts, probe_falls}
use Rattle.rules.proofs.Fitting.{Playable, write_filled, fits_cell, fits_sub, fits_on, fits_put, fits-remove_all, line_taken, line_alone, colour_at, playable_byte, playable_below, playable_put, playable-remove_all}

module _ (z : Puzzle) where
  -- no grid fits the board
  abbrev pub NoneFits : Board → Type 0
  NoneFits b = (g : Board) → Fits z b g → ⊥

  -- every grid that fits the first board fits the second
  abbrev pub Keeps : Board → Board → Type 0
  Keeps a b = (g : Board) → Fits z a g → Fits z b g

module _ (z : Puzzle) (k : ℕ) where
  -- what deductions leave of a board: a narrowing that can be played and keeps every fitting grid
  pub record Deduced (a b : Board) : Type 0 where
    pub sub : b ⊑ a
    pub playable : Playable z k b
    pub keeps : Keeps z a b

  pub deduced_none : {b : Board} → Playable z k b → Deduced b b
  deduced_none {b} p = record { sub = ⊑_refl b; playable = p; keeps = λ g f. f }

  pub deduced_more : {a b c : Board} → Deduced a b → Deduced b c → Deduced a c
  deduced_more d e = record { sub = ⊑_trans e.sub d.sub; playable = e.playable; keeps = λ g f. e.keeps g (d.keeps g f) }

  -- a run of probing: its board is deduced; at a contradiction no grid fits
  abbrev pub ProbedSound : Board → Probed → Type 0
  ProbedSound a (contradiction s) = NoneFits z a
  ProbedSound a (probed b ns s) = Deduced a b

module _ (z : Puzzle) (k : ℕ) (few : k ≤ 7) where
  -- ## Reducing a line

  left : {b g : Board} (i : ℕ) → Playable z k b → i < line_count z → (f : Fits z b g) → Leaves (map (colour_at z f) (line_cells z i)) (reduce (clue_at z i) (line_of z b i))
  left {b} i p h f = reduce_leaves (clue_at z i) (line_of z b i) (line_bytes_lem z b i (playable_byte z k few p)) (f.meets i h) (line_taken z f i p.sized h)

  reduce_none : {b : Board} (i : ℕ) → Playable z k b → i < line_count z → reduce (clue_at z i) (line_of z b i) ≡ none → NoneFits z b
  reduce_none i p h e g f = subst (Leaves (map (colour_at z f) (line_cells z i))) e (left i p h f)

  reduce_deduced : {b : Board} (i : ℕ) (sets : List ℕ) → Playable z k b → i < line_count z → reduce (clue_at z i) (line_of z b i) ≡ some sets → Deduced z k b (after z b i sets)
  reduce_deduced {b} i sets p h e = record {
    sub = after_sub z b i sets e;
    playable = playable_below z k few p (after_sub z b i sets e) (write_filled b (line_cells z i) sets p.filled (reduce_filled (clue_at z i) (line_of z b i) sets (line_bytes_lem z b i (playable_byte z k few p)) e));
    keeps = λ g f. fits_on z f (write_above g b (line_cells z i) sets (fits_sub z f)
        (rw (line_alone z f i p.sized h) (only_under (subst (Leaves (map (colour_at z f) (line_cells z i))) e (left i p h f)))));
  }

  -- ## Propagating

  module _ (b₀ : Board) where
    abbrev PendingKept : Pending → Type 0
    PendingKept (pending b p) = Deduced z k b₀ b

    abbrev Propagated : Option Board → Type 0
    Propagated none = NoneFits z b₀
    Propagated (some b) = Deduced z k b₀ b

    reduced_kept : (b : Board) (p i : ℕ) → i < line_count z → Deduced z k b₀ b → (r : Option (List ℕ)) → reduce (clue_at z i) (line_of z b i) ≡ r → Holds PendingKept Propagated (reduced z b p i r)
    reduced_kept b p i h d none e = λ g f. reduce_none i d.playable h e g (d.keeps g f)
    reduced_kept b p i h d (some sets) e = deduced_more z k d (reduce_deduced i sets d.playable h e)

    step_kept : (t : Pending) → PendingKept t → Holds PendingKept Propagated (propagate_step z t)
    step_kept (pending b p) d = on_option (Holds PendingKept Propagated) (next z p) (λ _. d)
        (λ i e. reduced_kept b p i (next_some z p i e).0 d (reduce (clue_at z i) (line_of z b i)) refl)

    ends_kept : (c : Cell) → Playable z k b₀ → Propagated (propagate z b₀ c)
    unfolding propagate propagate_on
    ends_kept c p = run_ends (propagate_step z) (propagate_measure z) (propagate_falls z) PendingKept Propagated step_kept (λ t. none)
        (pending b₀ (set_of (line_count z) (λ j. eqb j (row_of z c) || eqb j (column_of z c)))) (deduced_none z k p)

  -- PROPAGATING KEEPS EVERY FITTING GRID, and a contradiction means that none fits
  pub propagate_deduced : {b a : Board} (c : Cell) → Playable z k b → propagate z b c ≡ some a → Deduced z k b a
  propagate_deduced {b} c p e = subst (Propagated b) e (ends_kept b c p)

  pub propagate_none : {b : Board} (c : Cell) → Playable z k b → propagate z b c ≡ none → NoneFits z b
  propagate_none {b} c p e = subst (Propagated b) e (ends_kept b c p)

  -- ## Probing

  -- a colour that contradicts is no fitting grid's
  pub contradicts_none : {b g : Board} (c : Cell) {x : Colour} → Playable z k b → Fits z b g → In x (contradicting (outcomes z b c)) → has (at g c) x ≡ false
  contradicts_none {b} {g} c {x} p f m =
      let r = contradicts z b c m in
      by_test (has (at g c) x) (λ h. absurd (propagate_none c (playable_put z k few c x p r.1) r.2 g (fits_put z c x f h))) (λ h. h)

  -- an empty cell leaves no grid
  pub empty_cell : {b : Board} (c : Cell) → at b c < 256 → c < length b → empty (at b c) ≡ true → NoneFits z b
  empty_cell {b} c l h e g f = let r = (fits_cell z f c h).1 in empty_none (at b c) (colour_at z f c) e (byte_colour (at b c) (colour_at z f c) l r) r

  module _ (b₀ : Board) where
    abbrev ProbingKept : Probing → Type 0
    ProbingKept (probing b q ns s) = Deduced z k b₀ b

    TurnKept : Turn Probing Probed → Type 0
    TurnKept = Holds ProbingKept (ProbedSound z k b₀)

    round_kept : (b : Board) (q : CellQueue) (s : Run) → Deduced z k b₀ b → TurnKept (new_round b q s)
    unfolding TurnKept
    round_kept b q s d = on_test TurnKept (solved b) (λ _. d) (λ _. d)

    cut_kept : (b : Board) (c : Cell) (q : CellQueue) (s : Run) → Deduced z k b₀ b → (v : Option Board) → propagate z b c ≡ v → TurnKept (cut z b c q s v)
    unfolding TurnKept
    cut_kept b c q s d none e = λ g f. propagate_none c d.playable e g (d.keeps g f)
    cut_kept b c q s d (some a) e = round_kept a (push_both z a c (newly b a) q) s (deduced_more z k d (propagate_deduced c d.playable e))

    judge_kept : (b : Board) (c : Cell) (q : CellQueue) (ns : Notes) (s : Run) (good : List (Colour × ℕ)) (xs : List Colour) → Deduced z k b₀ b →
        ((x : Colour) → In x xs → In x (contradicting (outcomes z b c))) → TurnKept (judge z b c q ns s good xs)
    unfolding TurnKept
    judge_kept b c q ns s good [] d m = d
    judge_kept b c q ns s good (x ∷ xs) d m =
        on_test TurnKept (empty (at a c))
        (λ h. λ g f. empty_cell c low here h g (still g (d.keeps g f)))
        (λ h. cut_kept a c q s (deduced_more z k d (record { sub = remove_all-sub b c (x ∷ xs); playable = playable-remove_all z k few c (x ∷ xs) d.playable h; keeps = still })) (propagate z a c) refl)
      where
        a : Board
        a = remove_all b c (x ∷ xs)

        still : Keeps z b a
        still g f = fits-remove_all z c (x ∷ xs) (playable_byte z k few d.playable c) f (λ y n. contradicts_none c d.playable f (m y n))

        here : c < length a
        here = let l = on_board b c x (contradicts z b c (m x (Memᴰ.head refl))).1 in let e = (remove_all-sub b c (x ∷ xs)).long in omega arith

        low : at a c < 256
        low = sub_low c 256 (remove_all-sub b c (x ∷ xs)) (playable_byte z k few d.playable c)

    probe_step_kept : (t : Probing) → ProbingKept t → TurnKept (probe_step z t)
    unfolding TurnKept
    probe_step_kept (probing b q ns s) d = on_option TurnKept (pop higher q) (λ _. d)
        (λ e _. judge_kept b e.0 e.1 ns (assumed_all e.0 (colours (at b e.0)) s) (solving (outcomes z b e.0)) (contradicting (outcomes z b e.0)) d (λ x m. m))

  -- PROBING KEEPS EVERY FITTING GRID, and a contradiction means that none fits
  pub probe_sound : (b : Board) (q : CellQueue) (s : Run) → Playable z k b → ProbedSound z k b (probe z b q s)
  unfolding probe probe_on TurnKept
  probe_sound b q s p = go (new_round b q s) (round_kept b b q s (deduced_none z k p))
    where
      go : (t : Turn Probing Probed) → TurnKept b t → ProbedSound z k b (elim t [ stop r ↦ r | more u ↦ probe_on z u ])
      go (stop r) h = h
      go (more u) h = run_ends (probe_step z) probe_measure (probe_falls z) (ProbingKept b) (ProbedSound z k b) (probe_step_kept b) probe_unended u h
