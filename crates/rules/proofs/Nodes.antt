-- A node keeps its promise, if the guesses made in it do.
-- The guesses made and not dead are known: with no limit met, every fitting grid with such a guess's colour is stored. M3 ends a node only when a cell is closed; a fitting grid has one
-- of the closed cell's colours, so it is stored.
use mathlib.Core.Path.{◌≡◌, refl, sym, subst}
use mathlib.Core.Logic.{inl, inr}
use mathlib.Core.Bool.{Bool, true, false, ◌||◌}
use mathlib.Core.List.Memᴰ
use mathlib.Core.List.{List, [], ◌∷◌}
use Prim.Native.Nat.{ℕ, suc, ◌≤◌, ◌<◌}
use native.Mathlib.Omega.{arith}
use lib.ListN.{length}
use Rattle.rules.specs.Loops.{Turn, Holds}
use Rattle.rules.specs.Sets.{Colour, has, colours, single, empty}
use Rattle.rules.specs.Boards.{Board, Cell, at, cells, put, remove, solved, Puzzle}
use Rattle.rules.specs.Propagation.{check}
use Rattle.rules.specs.Probing.{Run, start_queue, Probed, contradiction, probed, probe}
use Rattle.rules.specs.Guesses.{Guess, guess}
use Rattle.rules.specs.Search.{Limits, End, dead, not_dead, Left, Tried, tried, Node, node, Spent, spent, Pass, over, ran_out, note, store_in, store, others, any_closed, first_unsolved, met, probed_node, probe_node, lone, after_guess, pass_step, pass_measure, pass_unended, pass, again, spent_step, spent_measure, spent_unended, refill, after_pass, node_from}
use Rattle.rules.specs.Promises.{Fits, ◌⊑◌}
use Rattle.rules.proofs.Tests.{on_test, on_number, by_test, clash, or_true}
use Rattle.rules.proofs.Lists.{In, from_low}
use Rattle.rules.proofs.Loops.{run_ends}
use Rattle.rules.proofs.Sets.{byte_colour, in_members}
use Rattle.rules.proofs.Narrowing.{⊑_trans, sub_low, on_board, put_sub, remove_sub}
use Rattle.rules.proofs.Probing.{ProbedBelow, probe_below}
use Rattle.rules.proofs.Ends.{closed_out, pass_falls, spent_falls}
use Rattle.rules.proofs.Fitting.{Playable, colour_at, fits_cell, fits_has, fits_wider, fits_put, fits_remove, playable_byte, playable_some, playable_remove, fits_one, check_fits, unchecked_none}
use Rattle.rules.proofs.Keeping.{NoneFits, Keeps, Deduced, deduced_none, deduced_more, empty_cell, ProbedSound, probe_sound}
use Rattle.rules.proofs.Settling.{Settled, TriedSettled, LeftBehind, LeftSettled, GuessPromise}
use Rattle.rules.proofs.Runs.{store_in_lem, noted_limit, Grown, grown_in, grown_same, grown_more, grown_wider, grown_quiet, grown_store, grown_note}

module _ (z : Puzzle) (l : Limits) (k : ℕ) (few : k ≤ 7) where
  -- over guesses that keep their promise
  module _ (try : Board → Cell → Colour → Run → Tried) (d : ℕ) (the_guess_promise : GuessPromise z k try) (b₀ : Board) (s₀ : Run) where
    -- with no limit met, every fitting grid with the guess's colour is stored, and there is one
    abbrev Known : Board → Guess → Run → Type 0
    Known b (guess c x) s = s.limit ≡ 0 → ((g : Board) → Fits z b g → has (at g c) x ≡ true → In g s.stored) × ((g : Board) × Fits z b₀ g)

    -- a node between two guesses, or when they have run out
    record Between (b : Board) (made : List Guess) (s : Run) : Type 0 where
      deduced : Deduced z k b₀ b
      known : (h : Guess) → In h made → Known b h s
      grown : Grown z b₀ s₀ s

    -- on to another board and run
    moved_on : {b a : Board} {made : List Guess} {s t : Run} → Between b made s → Deduced z k b a → Grown z b₀ s t → Between a made t
    moved_on {b} {a} {made} {s} {t} i h w = record { deduced = deduced_more z k i.deduced h; known = known; grown = grown_more z i.grown w }
      where
        known : (h : Guess) → In h made → Known a h t
        known (guess e x) m = λ u. let r = i.known (guess e x) m (w.limit_kept u) in (λ g o j. grown_in z w g (r.0 g (fits_wider z h.sub o) j), r.1)

    abbrev NodeSound : Node → Type 0
    NodeSound (node b gs p made s) = Between b made s × (solved b ≡ false)

    abbrev SpentSound : Spent → Type 0
    SpentSound (spent b p made s) = Between b made s × (solved b ≡ false)

    abbrev LeftSound : Left → Type 0
    LeftSound e = LeftSettled z b₀ s₀ e

    abbrev PassSound : Pass → Type 0
    PassSound (over e) = LeftSound e
    PassSound (ran_out t) = SpentSound t

    TurnSound : Turn Node Pass → Type 0
    TurnSound = Holds NodeSound PassSound

    leaving : {b : Board} {made : List Guess} {s : Run} {e : End} {t : Run} → Between b made s → Settled z b₀ s₀ e t → LeftBehind z b₀ s₀ e b t
    leaving i h = record { settled = h; sub = i.deduced.sub; keeps = i.deduced.keeps }

    -- a limit is met
    limited : {b : Board} {made : List Guess} {s : Run} (m : ℕ) → Between b made s → LeftBehind z b₀ s₀ not_dead b (note (suc m) s)
    limited {s = s} m i = leaving i (record { means = λ e. absurd (noted_limit s.limit m e); grown = grown_more z i.grown (grown_note z b₀ (suc m) s) })

    -- no grid fits
    died : {b : Board} {made : List Guess} {s : Run} → Between b made s → NoneFits z b → LeftBehind z b₀ s₀ dead b s
    died i f = leaving i (record { means = λ g o. f g (i.deduced.keeps g o); grown = i.grown })

    -- the board is a grid, and is stored
    filled : {b : Board} {made : List Guess} {s : Run} → Between b made s → solved b ≡ true → check z b ≡ true → LeftBehind z b₀ s₀ not_dead b (store b s)
    filled {b} {made} {s} i e c = leaving i (record {
      means = λ _. (λ g o. subst (λ y. In y (store_in b s.stored)) (sym (fits_one z k few i.deduced.playable e (i.deduced.keeps g o))) (store_in_lem b s.stored), (b, here));
      grown = grown_more z i.grown (grown_store z b₀ b s here);
    })
      where
        here : Fits z b₀ b
        here = fits_wider z i.deduced.sub (check_fits z k few i.deduced.playable e c)

    -- the node's own probing
    probed_sound : (next : Board → List Guess) (made : List Guess) (b : Board) (s : Run) → Between b made s → (r : Probed) → ProbedSound z k b r → ProbedBelow z b s r →
        TurnSound (probed_node z l try d next made b r)
    unfolding TurnSound
    probed_sound next made b s i (contradiction t) o q = died (moved_on i (deduced_none z k i.deduced.playable) (grown_quiet z b₀ q)) o
    probed_sound next made b s i (probed a ns t) o q = on_test TurnSound (solved a)
        (λ e. on_test TurnSound (check z a) (λ u. filled now e u) (λ u. died now (λ g f. unchecked_none z k few now.deduced.playable e u f)))
        (λ e. (now, e))
      where
        now : Between a made t
        now = moved_on i o (grown_quiet z b₀ q.1)

    own_probing : (next : Board → List Guess) (made : List Guess) (b : Board) (s : Run) → Between b made s → TurnSound (probe_node z l try d next made b s)
    own_probing next made b s i = probed_sound next made b s i (probe z b (start_queue z b) s) (probe_sound z k few b (start_queue z b) s i.deduced.playable) (probe_below z b (start_queue z b) s)

    step_sound : (t : Node) → NodeSound t → TurnSound (pass_step z l try d t)
    unfolding TurnSound
    step_sound (node b [] p made s) i = i
    step_sound (node b (guess c x ∷ gs) p made s) i = on_number TurnSound (met z l s d)
        (λ _. on_test TurnSound (has (at b c) x)
        (λ h. on_test TurnSound (single (at b c)) (λ _. alone p) (λ _. after h (try b c x s) (the_guess_promise b c x s here h)))
        (λ _. i))
        (λ m _. limited m i.0)
      where
        here : Playable z k b
        here = i.0.deduced.playable

        alone : (q : Bool) → TurnSound (lone z l try d b gs q made s)
        alone true = i
        alone false = own_probing (λ a. gs) made b s i.0

        after : has (at b c) x ≡ true → (t : Tried) → TriedSettled z (put b c x) s t → TurnSound (after_guess z l try d b c x gs p made t)
        after h (tried not_dead t) w = (record { deduced = now.deduced; known = known; grown = now.grown }, i.1)
          where
            narrower : put b c x ⊑ b₀
            narrower = ⊑_trans (put_sub b c x h) i.0.deduced.sub

            now : Between b made t
            now = moved_on i.0 (deduced_none z k here) (grown_wider z narrower w.grown)

            guessed_known : Known b (guess c x) t
            guessed_known e = let v = w.means e in (λ g f j. v.0 g (fits_put z c x f j), (v.1.0, fits_wider z narrower v.1.1))

            known : (g : Guess) → In g (guess c x ∷ made) → Known b g t
            known g m = elim (Memᴰ.cases_cons m) [ inl q ↦ subst (λ h. Known b h t) (sym q) guessed_known | inr m' ↦ now.known g m' ]
        after h (tried dead t) w = on_test TurnSound (empty (at a c))
            (λ e. record {
              settled = record {
                means = λ g f. empty_cell z k few c (sub_low c 256 (remove_sub b c x) (playable_byte z k few here c)) on e g (still g (i.0.deduced.keeps g f));
                grown = grown_more z i.0.grown more_stored;
              };
              sub = ⊑_trans (remove_sub b c x) i.0.deduced.sub;
              keeps = λ g f. still g (i.0.deduced.keeps g f);
            })
            (λ e. own_probing (λ f. others c x (colours (at f c)) gs) made a t
            (moved_on i.0 (record { sub = remove_sub b c x; playable = playable_remove z k few c x here e; keeps = still }) more_stored))
          where
            a : Board
            a = remove b c x

            more_stored : Grown z b₀ s t
            more_stored = grown_wider z (⊑_trans (put_sub b c x h) i.0.deduced.sub) w.grown

            still : Keeps z b a
            still g f = fits_remove z c x (playable_byte z k few here c) f (by_test (has (at g c) x) (λ u. absurd (w.means g (fits_put z c x f u))) (λ u. u))

            on : c < length a
            on = let u = on_board b c x h in let e = (remove_sub b c x).long in omega arith

    pass_sound : (t : Node) → NodeSound t → PassSound (pass z l try d t)
    unfolding pass TurnSound
    pass_sound t i = run_ends (pass_step z l try d) pass_measure (pass_falls z l try d) NodeSound PassSound step_sound pass_unended t i

    -- M3: a closed cell has a colour of every fitting grid
    closed_sound : (b : Board) (made : List Guess) (s : Run) → Between b made s → any_closed b made ≡ true → LeftBehind z b₀ s₀ not_dead b s
    closed_sound b made s i e = leaving i (record {
      means = λ u. (λ g f. stored u g (i.deduced.keeps g f), (i.known (guess c x.0) (r.2 x.0 (in_members 8 (at b c) x.0 x.1 x.2)) u).1);
      grown = i.grown;
    })
      where
        r : (c : Cell) × In c (cells b) × ((x : Colour) → In x (colours (at b c)) → In (guess c x) made)
        r = closed_out b made e

        c : Cell
        c = r.0

        on : c < length b
        on = let u = from_low 0 (length b) r.1 in omega arith

        x : (x : Colour) × (x < 8) × (has (at b c) x ≡ true)
        x = playable_some z k few i.deduced.playable c on

        stored : s.limit ≡ 0 → (g : Board) → Fits z b g → In g s.stored
        stored u g f =
            let y = colour_at z f c in
            let h = (fits_cell z f c on).1 in
            (i.known (guess c y) (r.2 y (in_members 8 (at b c) y (byte_colour (at b c) y (playable_byte z k few i.deduced.playable c) h) h)) u).0 g f (fits_has z f c on)

    SpentTurnSound : Turn Spent Left → Type 0
    SpentTurnSound = Holds SpentSound LeftSound

    again_sound : (r : Pass) → PassSound r → SpentTurnSound (again r)
    unfolding SpentTurnSound
    again_sound (over e) i = i
    again_sound (ran_out t) i = i

    spent_sound : (t : Spent) → SpentSound t → SpentTurnSound (spent_step z l try d t)
    unfolding SpentTurnSound
    spent_sound (spent b p made s) i = on_number SpentTurnSound (met z l s d)
        (λ _. on_test SpentTurnSound (solved b || any_closed b made)
        (λ h. elim (or_true (solved b) (any_closed b made) h) [ inl e ↦ clash e i.1 | inr e ↦ closed_sound b made s i.0 e ])
        (λ _. again_sound (pass z l try d (node b (first_unsolved b) p made s)) (pass_sound (node b (first_unsolved b) p made s) i)))
        (λ m _. limited m i.0)

    -- A NODE KEEPS ITS PROMISE
    pub node_keeps_promise : (gs : List Guess) → Playable z k b₀ → solved b₀ ≡ false → LeftSound (node_from z l try d b₀ gs s₀)
    unfolding node_from refill SpentTurnSound
    node_keeps_promise gs p h = go (pass z l try d (node b₀ gs false [] s₀)) (pass_sound (node b₀ gs false [] s₀) (start, h))
      where
        start : Between b₀ [] s₀
        start = record { deduced = deduced_none z k p; known = λ g m. absurd (Memᴰ.not-nil m); grown = grown_same z b₀ s₀ s₀ refl (λ e. e) }

        go : (r : Pass) → PassSound r → LeftSound (after_pass z l try d r)
        go (over e) i = i
        go (ran_out t) i = run_ends (spent_step z l try d) spent_measure (spent_falls z l try d) SpentSound LeftSound spent_sound spent_unended t i
