-- One guess, with the search one deeper, is the rules' guess.
use mathlib.Core.Path.{◌≡◌, refl, sym, ap, subst, ◌∙◌}
use mathlib.Core.Bool.{true}
use mathlib.Core.List.{List}
use Prim.Native.Nat.{ℕ}
use Rattle.std.specs.declared.ops.ControlFlow.TheVariants.{Continue, Break}
use Rattle.rules.specs.Sets.{has}
use Rattle.rules.specs.Boards as Rules
use Rattle.rules.specs.Boards.{at}
use Rattle.rules.specs.Probing.{Run}
use Rattle.rules.specs.Guesses.{Guess}
use Rattle.rules.specs.Search as Search
use Rattle.rules.specs.Search.{Left, ended, search}
use Rattle.lines.specs.declared.machine.Machine.{Machine}
use Rattle.boards.specs.declared.board.Board.{Board}
use Rattle.boards.specs.Board.{board_of}
use Rattle.runs.specs.declared.limits.Limits.{Limits as Given}
use Rattle.runs.specs.declared.limits.Stats.{Stats}
use Rattle.runs.specs.Matches.{limits_of}
use Rattle.guesses.specs.declared.waiting.Guesses.{Guesses}
use Rattle.guesses.specs.Waiting.{Waiting}
use Rattle.backtracking.specs.Parts.{Entered, ended_as, deeper_from, enter_guess}
use Rattle.backtracking.specs.Setting.{Setting, RunIs, Fine, Few, LeftTo, TriedTo, EnteredTo}
use Rattle.backtracking.specs.Comes.{Enters, depth_of, try_at, SearchStands, GuessStands, Searches, Tries}
use Rattle.backtracking.specs.declared.ended.Ended.{Ended}
use Rattle.backtracking.proofs.Boarding.{size_more, at_size, size_at}
use Rattle.backtracking.proofs.Parts.{after_entering, try_is}
use Rattle.backtracking.proofs.Fine.{EnteredFine, entered_fine}

-- the search one deeper
abbrev below : (left : ℕ) (l : Given) {w h : ℕ} {machines : List Machine} → Setting w h machines → Rules.Board → List Guess → Run → Left
below left l g e hs t = search g.puzzle (limits_of l) left (depth_of l left) e hs t

module _ (left : ℕ) {b : Board} {c x : ℕ} {machines : List Machine} {list : List ℕ} {l : Given} {s : Stats} where
  -- the guess ends without it
  pub try_over : {r : Ended} {out : List ℕ} → Enters b c x machines list l (depth_of l left) s (Break r) out → Tries b c x machines list l left s r out
  try_over {r} {out} w = record {
    within = w.within;
    to = λ g t is fine k. subst (TriedTo g r out) (sym (try_is g.puzzle (limits_of l) (below left l g) (depth_of l left) (board_of b) c x t))
        (go g (enter_guess g.puzzle (limits_of l) (depth_of l left) (board_of b) c x t) (w.to g t is fine k));
  }
    where
      go : (g : Setting b.w b.h machines) (v : Entered) → EnteredTo g (Break r) out v → TriedTo g r out (after_entering g.puzzle (limits_of l) (below left l g) (depth_of l left) v)
      go g (ended_as y) i = i
      go g (deeper_from d gs n) i = absurd i

  module _ {e : Board} {waiting : Guesses} {u : Stats} {out : List ℕ} (w : Enters b c x machines list l (depth_of l left) s (Continue (e, waiting, u)) out) where
    -- the rules' search one deeper
    record Deeper (g : Setting b.w b.h machines) (t : Run) : Type 0 where
      guesses : List Guess
      run : Run
      is : RunIs g u out run
      fine : Fine g (board_of e)
      wait : Waiting guesses waiting
      few : Few g guesses
      same : try_at g.puzzle l left (board_of b) c x t ≡ ended (below left l g (board_of e) guesses run)

    deeper : (g : Setting b.w b.h machines) (t : Run) → RunIs g s list t → Fine g (board_of b) → has (at (board_of b) c) x ≡ true → Deeper g t
    deeper g t is fine k = go (enter_guess g.puzzle (limits_of l) (depth_of l left) (board_of b) c x t) refl (w.to g t is fine k)
        (entered_fine g (limits_of l) (depth_of l left) (board_of b) c x t fine k)
      where
        go : (v : Entered) → enter_guess g.puzzle (limits_of l) (depth_of l left) (board_of b) c x t ≡ v → EnteredTo g (Continue (e, waiting, u)) out v → EnteredFine g v → Deeper g t
        go (ended_as y) q i f = absurd i
        go (deeper_from d gs n) q i f = record {
          guesses = gs;
          run = n;
          is = i.2;
          fine = subst (Fine g) (sym i.0) f.0;
          wait = i.1;
          few = f.1;
          same = try_is g.puzzle (limits_of l) (below left l g) (depth_of l left) (board_of b) c x t
              ∙ ap (after_entering g.puzzle (limits_of l) (below left l g) (depth_of l left)) q
              ∙ ap (λ d. ended (below left l g d gs n)) (sym i.0);
        }

    pub deeper_stands : GuessStands b c x machines list s → SearchStands e waiting machines out u
    deeper_stands m =
        let o = deeper m.setting m.run m.is m.fine m.has_colour in
        let q : (g : Setting e.w e.h machines) × RunIs g u out o.run × Fine g (board_of e) × Few g o.guesses =
        size_at (λ a b. (g : Setting a b machines) × RunIs g u out o.run × Fine g (board_of e) × Few g o.guesses) w.within.0.size (m.setting, o.is, o.fine, o.few) in
        record { setting = q.0; guesses = o.guesses; run = o.run; is = q.1; fine = q.2; wait = o.wait; few = q.3 }

    pub deeper_tried : {y : Ended} {end : List ℕ} → Searches e waiting machines out l left u y end → Tries b c x machines list l left s y end
    deeper_tried {y} {end} i = record {
      within = record { size = size_more w.within.0.size i.within.size; few = i.within.few };
      to = λ g t is fine k. let o = deeper g t is fine k in
          subst (TriedTo g y end) (sym o.same)
          (go g (below left l g (board_of e) o.guesses o.run)
          (at_size (λ a b. (g : Setting a b machines) (gs : List Guess) (t : Run) → RunIs g u out t → Fine g (board_of e) → Waiting gs waiting → Few g gs →
          LeftTo g y end (search g.puzzle (limits_of l) left (depth_of l left) (board_of e) gs t))
          w.within.0.size i.to g o.guesses o.run o.is o.fine o.wait o.few));
    }
      where
        go : (g : Setting b.w b.h machines) (z : Left) → LeftTo g y end z → TriedTo g y end (ended z)
        go g (Search.left a f n) k = (k.0, k.2)
