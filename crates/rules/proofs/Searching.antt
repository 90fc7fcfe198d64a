-- The search keeps its promise, at every depth.
use mathlib.Core.Path.{◌≡◌, refl}
use mathlib.Core.List.{List}
use Prim.Native.Nat.{ℕ, zero, suc, ◌+◌, ◌≤◌}
use native.Mathlib.Omega.{arith}
use Rattle.rules.specs.Boards.{Board, Puzzle}
use Rattle.rules.specs.Probing.{Run}
use Rattle.rules.specs.Guesses.{Guess}
use Rattle.rules.specs.Search.{Limits, not_dead, Left, left, deeper, first_of, note, met, node_from, try_guess, search}
use Rattle.rules.proofs.Tests.{on_number}
use Rattle.rules.proofs.Narrowing.{⊑_refl}
use Rattle.rules.proofs.Ends.{deep_met}
use Rattle.rules.proofs.Settling.{LeftBehind, LeftSettled, SearchPromise}
use Rattle.rules.proofs.Nodes.{node_keeps_promise}
use Rattle.rules.proofs.Trying.{guess_keeps_promise}
use Rattle.rules.proofs.Runs.{noted_limit, grown_same, grown_more, grown_note}

module _ (z : Puzzle) (l : Limits) (k : ℕ) (few : k ≤ 7) where
  open l use {most_depth}

  -- a limit is met on entering
  at_once : (b : Board) (s : Run) (m : ℕ) → (first_of s.limit m ≡ 0 → ⊥) → LeftBehind z b s not_dead b (note m s)
  at_once b s m h = record { settled = record { means = λ e. absurd (h e); grown = grown_note z b m s }; sub = ⊑_refl b; keeps = λ g o. o }

  -- deepest is raised
  raised : (b : Board) (d : ℕ) (s : Run) (e : Left) → LeftSettled z b (deeper d s) e → LeftSettled z b s e
  raised b d s (left e a t) i = record {
    settled = record { means = i.settled.means; grown = grown_more z (grown_same z b s (deeper d s) refl (λ u. u)) i.settled.grown };
    sub = i.sub;
    keeps = i.keeps;
  }

  -- THE SEARCH KEEPS ITS PROMISE, r being how much deeper it may go
  pub search_keeps_promise : (r d : ℕ) → d + r ≡ suc most_depth → SearchPromise z k (search z l r d)
  unfolding search
  search_keeps_promise zero d e b gs s p h = at_once b s (met z l s d) (beyond (met z l s d) refl)
    where
      beyond : (m : ℕ) → met z l s d ≡ m → first_of s.limit m ≡ 0 → ⊥
      beyond zero u o = deep_met z l s d (omega arith) u
      beyond (suc m) u o = noted_limit s.limit m o
  search_keeps_promise (suc r) d e b gs s p h = on_number (LeftSettled z b s) (met z l s d)
      (λ _. raised b d s (node_from z l (try_guess z l down (suc d)) d b gs (deeper d s))
      (node_keeps_promise z l k few (try_guess z l down (suc d)) d (guess_keeps_promise z l k few down (suc d) (search_keeps_promise r (suc d) (omega arith))) b (deeper d s) gs p h))
      (λ m _. at_once b s (suc m) (noted_limit s.limit m))
    where
      down : Board → List Guess → Run → Left
      down a hs t = search z l r (suc d) a hs t
