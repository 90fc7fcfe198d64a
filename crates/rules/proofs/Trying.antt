-- A guess keeps its promise, if the search one deeper does.
use mathlib.Core.Path.{◌≡◌, refl, sym, subst}
use mathlib.Core.Bool.{true}
use mathlib.Core.List.{List}
use mathlib.Core.Option.{Option, none, some}
use Prim.Native.Nat.{ℕ, suc, ◌≤◌}
use Rattle.rules.specs.Boards.{Board, Cell, put, solved, newly, Puzzle}
use Rattle.rules.specs.Propagation.{propagate, check}
use Rattle.rules.specs.Probing.{guessed, Run, event, CellQueue, start_queue, push_both, Notes, Probed, contradiction, probed, probe}
use Rattle.rules.specs.Guesses.{Guess, choose}
use Rattle.rules.specs.Search.{Limits, dead, not_dead, Left, left, Tried, note, store, met, ended, guess_deeper, guess_probed, guess_ask, guess_set, try_guess}
use Rattle.rules.specs.Promises.{Fits}
use Rattle.rules.proofs.Tests.{on_test, on_number, clash}
use Rattle.rules.proofs.Lists.{In}
use Rattle.rules.proofs.Probing.{ProbedBelow, probe_below}
use Rattle.rules.proofs.Fitting.{Playable, fits_wider, playable_put, fits_one, check_fits, unchecked_none}
use Rattle.rules.proofs.Keeping.{NoneFits, Deduced, deduced_more, propagate_deduced, propagate_none, ProbedSound, probe_sound}
use Rattle.rules.proofs.Settling.{Settled, TriedSettled, LeftSettled, GuessPromise, SearchPromise}
use Rattle.rules.proofs.Runs.{store_in_lem, noted_limit, Grown, grown_same, grown_more, grown_wider, grown_quiet, grown_store, grown_note}

module _ (z : Puzzle) (l : Limits) (k : ℕ) (few : k ≤ 7) where
  -- over a search that keeps its promise
  module _ (deep : Board → List Guess → Run → Left) (d : ℕ) (the_search_promise : SearchPromise z k deep) (a : Board) (s₀ : Run) where
    -- inside the guess, against the board with the colour set
    record Inside (b : Board) (s : Run) : Type 0 where
      deduced : Deduced z k a b
      grown : Grown z a s₀ s

    TriedSound : Tried → Type 0
    TriedSound = TriedSettled z a s₀

    at_limit : {b : Board} {s : Run} (m : ℕ) → Inside b s → Settled z a s₀ not_dead (note (suc m) s)
    at_limit {s = s} m i = record { means = λ e. absurd (noted_limit s.limit m e); grown = grown_more z i.grown (grown_note z a (suc m) s) }

    none_left : {b : Board} {s : Run} → Inside b s → NoneFits z b → Settled z a s₀ dead s
    none_left i f = record { means = λ g o. f g (i.deduced.keeps g o); grown = i.grown }

    storing : {b : Board} {s : Run} → Inside b s → Fits z b b → Inside b (store b s)
    storing {b} {s} i f = record { deduced = i.deduced; grown = grown_more z i.grown (grown_store z a b s (fits_wider z i.deduced.sub f)) }

    -- the search one deeper
    deeper_sound : {b : Board} {s : Run} → Inside b s → (e : Left) → LeftSettled z b s e → TriedSound (ended e)
    unfolding TriedSound
    deeper_sound i (left dead e t) o = record {
      means = λ g f. o.settled.means g (i.deduced.keeps g f);
      grown = grown_more z i.grown (grown_wider z i.deduced.sub o.settled.grown);
    }
    deeper_sound i (left not_dead e t) o = record {
      means = λ u. let v = o.settled.means u in (λ g f. v.0 g (i.deduced.keeps g f), (v.1.0, fits_wider z i.deduced.sub v.1.1));
      grown = grown_more z i.grown (grown_wider z i.deduced.sub o.settled.grown);
    }

    -- a solved board comes here stored
    guess_deeper-sound : (b : Board) (ns : Notes) (s : Run) → Inside b s → (solved b ≡ true → Fits z b b × In b s.stored) → TriedSound (guess_deeper z l deep d b ns s)
    unfolding TriedSound
    guess_deeper-sound b ns s i f = on_number TriedSound (met z l s d)
        (λ _. on_test TriedSound (solved b)
        (λ h. record {
          means = λ _. (λ g o. subst (λ e. In e s.stored) (sym (fits_one z k few i.deduced.playable h (i.deduced.keeps g o))) (f h).1, (b, fits_wider z i.deduced.sub (f h).0));
          grown = i.grown;
        })
        (λ h. deeper_sound i (deep b (choose b ns) s) (the_search_promise b (choose b ns) s i.deduced.playable h)))
        (λ m _. at_limit m i)

    guess_probed-sound : (b : Board) (s : Run) → Inside b s → (r : Probed) → ProbedSound z k b r → ProbedBelow z b s r → TriedSound (guess_probed z l deep d r)
    unfolding TriedSound
    guess_probed-sound b s i (contradiction t) o q = none_left (record { deduced = i.deduced; grown = grown_more z i.grown (grown_quiet z a q) }) o
    guess_probed-sound b s i (probed e ns t) o q = on_test TriedSound (solved e)
        (λ u. on_test TriedSound (check z e)
        (λ v. let f = check_fits z k few now.deduced.playable u v in guess_deeper-sound e ns (store e t) (storing now f) (λ _. (f, store_in_lem e t.stored)))
        (λ v. none_left now (λ g f. unchecked_none z k few now.deduced.playable u v f)))
        (λ u. guess_deeper-sound e ns t now (λ v. clash v u))
      where
        now : Inside e t
        now = record { deduced = deduced_more z k i.deduced o; grown = grown_more z i.grown (grown_quiet z a q.1) }

    guess_ask-sound : (b : Board) (q : CellQueue) (s : Run) → Inside b s → TriedSound (guess_ask z l deep d b q s)
    unfolding TriedSound
    guess_ask-sound b q s i = on_number TriedSound (met z l s d)
        (λ _. guess_probed-sound b s i (probe z b q s) (probe_sound z k few b q s i.deduced.playable) (probe_below z b q s))
        (λ m _. at_limit m i)

    guess_set-sound : (c : Cell) (q : CellQueue) (s : Run) → Playable z k a → Grown z a s₀ s → (v : Option Board) → propagate z a c ≡ v → TriedSound (guess_set z l deep d a c q s v)
    unfolding TriedSound
    guess_set-sound c q s p w none o = record { means = propagate_none z k few c p o; grown = w }
    guess_set-sound c q s p w (some b) o = on_test TriedSound (solved b)
        (λ t. on_test TriedSound (check z b) (λ v. guess_ask-sound b r (store b s) (storing now (check_fits z k few now.deduced.playable t v))) (λ v. none_left now (λ g f. unchecked_none z k few now.deduced.playable t v f)))
        (λ t. guess_ask-sound b r s now)
      where
        r : CellQueue
        r = push_both z b c (newly a b) q

        now : Inside b s
        now = record { deduced = propagate_deduced z k few c p o; grown = w }

  -- A GUESS KEEPS ITS PROMISE
  pub guess_keeps_promise : (deep : Board → List Guess → Run → Left) (d : ℕ) → SearchPromise z k deep → GuessPromise z k (try_guess z l deep d)
  unfolding try_guess TriedSound
  guess_keeps_promise deep d o b c x s p h =
      guess_set-sound deep d o (put b c x) s c (start_queue z b) (event (guessed c x) s) (playable_put z k few c x p h) (grown_same z (put b c x) s (event (guessed c x) s) refl (λ e. e)) (propagate z (put b c x) c) refl
