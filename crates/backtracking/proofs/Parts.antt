-- The parts of a guess make up the rules' guess, and the parts of a turn of a node the rules' steps.
use mathlib.Core.Path.{◌≡◌, refl, ap, ◌∙◌}
use mathlib.Core.Bool.{Bool, true, false, ◌||◌}
use mathlib.Core.List.{List, ◌∷◌}
use mathlib.Core.Option.{Option, none, some}
use Prim.Native.Nat.{ℕ, zero, suc}
use Rattle.rules.specs.Loops.{Turn, more, stop}
use Rattle.rules.specs.Sets.{Colour, has, single, empty, colours}
use Rattle.rules.specs.Boards.{Board, Cell, at, put, remove, solved, newly, Puzzle}
use Rattle.rules.specs.Propagation.{propagate, check}
use Rattle.rules.specs.Probing.{guessed, Run, event, CellQueue, start_queue, push_both, Notes, Probed, contradiction, probed, probe}
use Rattle.rules.specs.Guesses.{Guess, guess, choose}
use Rattle.rules.specs.Search.{Limits, End, dead, not_dead, Left, left, Tried, tried, Node, node, Spent, spent, Pass, over, ran_out, note, store, others, any_closed, first_unsolved, ended, met}
use Rattle.rules.specs.Search.{probed_node, probe_node, lone, after_guess, pass_step, pass, again, spent_step, refill, after_pass, guess_deeper, guess_probed, guess_ask, guess_set, try_guess}
use Rattle.rules.proofs.Ends.{refill_turn}
use Rattle.backtracking.specs.Parts.{died, went, after_set, set_guess, after_probe, probe_guess, Entered, ended_as, deeper_from, after_probing, after_setting, enter_guess, ends, goes, own_of, own_probing, after_own, Before, turned, tries, lone_guess, before, refilled, after}

module _ (z : Puzzle) (l : Limits) (deep : Board → List Guess → Run → Left) (d : ℕ) where
  -- what a guess comes to, with the search one deeper
  abbrev pub after_entering : Entered → Tried
  after_entering (ended_as t) = t
  after_entering (deeper_from b gs s) = ended (deep b gs s)

  deeper_is : (b : Board) (ns : Notes) (s : Run) → guess_deeper z l deep d b ns s ≡ after_entering (after_probing z l d (went (b, ns) s))
  deeper_is b ns s = go (met z l s d) (solved b)
    where
      go : (m : ℕ) (v : Bool) → ◌≡◌ {A = Tried} (elim m [ suc k ↦ tried not_dead (note (suc k) s) | zero ↦ elim v [ true ↦ tried not_dead s | false ↦ ended (deep b (choose b ns) s) ] ])
          (after_entering (elim m [ suc k ↦ ended_as (tried not_dead (note (suc k) s)) | zero ↦ elim v [ true ↦ ended_as (tried not_dead s) | false ↦ deeper_from b (choose b ns) s ] ]))
      go (suc k) v = refl
      go zero true = refl
      go zero false = refl

  probing_is : (b : Board) (q : CellQueue) (s : Run) → guess_probed z l deep d (probe z b q s) ≡ after_entering (after_probing z l d (probe_guess z b q s))
  unfolding probe_guess
  probing_is b q s = go (probe z b q s)
    where
      go : (r : Probed) → guess_probed z l deep d r ≡ after_entering (after_probing z l d (after_probe z r))
      go (contradiction t) = refl
      go (probed a ns t) = then (solved a) (check z a)
        where
          then : (u v : Bool) → ◌≡◌ {A = Tried} (elim u [ true ↦ elim v [ true ↦ guess_deeper z l deep d a ns (store a t) | false ↦ tried dead t ] | false ↦ guess_deeper z l deep d a ns t ])
              (after_entering (after_probing z l d (elim u [ true ↦ elim v [ true ↦ went (a, ns) (store a t) | false ↦ died t ] | false ↦ went (a, ns) t ])))
          then true true = deeper_is a ns (store a t)
          then true false = refl
          then false v = deeper_is a ns t

  ask_is : (b : Board) (q : CellQueue) (s : Run) → guess_ask z l deep d b q s ≡ after_entering (after_setting z l d (went (b, q) s))
  ask_is b q s = ap (λ (t : Tried). elim (met z l s d) as (λ _. Tried) [ suc m ↦ tried not_dead (note (suc m) s) | zero ↦ t ]) (probing_is b q s) ∙ go (met z l s d) (after_probing z l d (probe_guess z b q s))
    where
      go : (m : ℕ) (o : Entered) → ◌≡◌ {A = Tried} (elim m [ suc k ↦ tried not_dead (note (suc k) s) | zero ↦ after_entering o ])
          (after_entering (elim m [ suc k ↦ ended_as (tried not_dead (note (suc k) s)) | zero ↦ o ]))
      go (suc k) o = refl
      go zero o = refl

  pub try_is : (b : Board) (c : Cell) (x : Colour) (s : Run) → try_guess z l deep d b c x s ≡ after_entering (enter_guess z l d b c x s)
  unfolding try_guess set_guess
  try_is b c x s = go (put b c x) (start_queue z b) (event (guessed c x) s) (propagate z (put b c x) c)
    where
      go : (a : Board) (q : CellQueue) (t : Run) (r : Option Board) → guess_set z l deep d a c q t r ≡ after_entering (after_setting z l d (after_set z a c q t r))
      go a q t none = refl
      go a q t (some e) = then (solved e) (check z e)
        where
          p : CellQueue
          p = push_both z e c (newly a e) q

          then : (u v : Bool) → ◌≡◌ {A = Tried} (elim u [ true ↦ elim v [ true ↦ guess_ask z l deep d e p (store e t) | false ↦ tried dead t ] | false ↦ guess_ask z l deep d e p t ])
              (after_entering (after_setting z l d (elim u [ true ↦ elim v [ true ↦ went (e, p) (store e t) | false ↦ died t ] | false ↦ went (e, p) t ])))
          then true true = ask_is e p (store e t)
          then true false = refl
          then false v = ask_is e p t

module _ (z : Puzzle) (l : Limits) (try : Board → Cell → Colour → Run → Tried) (d : ℕ) where
  pub own_is : (next : Board → List Guess) (made : List Guess) (b : Board) (s : Run) → probe_node z l try d next made b s ≡ after_own next made (own_probing z b s)
  unfolding own_probing
  own_is next made b s = go (probe z b (start_queue z b) s)
    where
      go : (r : Probed) → probed_node z l try d next made b r ≡ after_own next made (own_of z b r)
      go (contradiction t) = refl
      go (probed a ns t) = then (solved a) (check z a)
        where
          then : (u v : Bool) → ◌≡◌ {A = Turn Node Pass}
              (elim u [ true ↦ elim v [ true ↦ stop (over (left not_dead a (store a t))) | false ↦ stop (over (left dead a t)) ] | false ↦ more (node a (next a) true made t) ])
              (after_own next made (elim u [ true ↦ elim v [ true ↦ ends not_dead a (store a t) | false ↦ ends dead a t ] | false ↦ goes a t ]))
          then true true = refl
          then true false = refl
          then false v = refl

  lone_is : (b : Board) (gs : List Guess) (p : Bool) (made : List Guess) (s : Run) → lone z l try d b gs p made s ≡ lone_guess z b gs p made s
  lone_is b gs true made s = refl
  lone_is b gs false made s = own_is (λ a. gs) made b s

  -- what comes before a guess, and the guess itself where it is tried
  abbrev pub after_before : Before → Turn Node Pass
  after_before (turned u) = u
  after_before (tries c x (node b gs p made s)) = after_guess z l try d b c x gs p made (try b c x s)

  pub before_is : (b : Board) (c : Cell) (x : Colour) (gs : List Guess) (p : Bool) (made : List Guess) (s : Run) →
      pass_step z l try d (node b (guess c x ∷ gs) p made s) ≡ after_before (before z l d b c x gs p made s)
  before_is b c x gs p made s = go (met z l s d) (has (at b c) x) (single (at b c))
    where
      go : (m : ℕ) (u v : Bool) → ◌≡◌ {A = Turn Node Pass}
          (elim m [
            | suc k ↦ stop (over (left not_dead b (note (suc k) s)))
            | zero ↦ elim u [ false ↦ more (node b gs p made s) | true ↦ elim v [ true ↦ lone z l try d b gs p made s | false ↦ after_guess z l try d b c x gs p made (try b c x s) ] ]
          ])
          (after_before (elim m [
            | suc k ↦ turned (stop (over (left not_dead b (note (suc k) s))))
            | zero ↦ elim u [ false ↦ turned (more (node b gs p made s)) | true ↦ elim v [ true ↦ turned (lone_guess z b gs p made s) | false ↦ tries c x (node b gs p made s) ] ]
          ]))
      go (suc k) u v = refl
      go zero false v = refl
      go zero true true = lone_is b gs p made s
      go zero true false = refl

  pub after_is : (b : Board) (c : Cell) (x : Colour) (gs : List Guess) (p : Bool) (made : List Guess) (e : End) (s : Run) →
      after_guess z l try d b c x gs p made (tried e s) ≡ after z b c x gs p made e s
  after_is b c x gs p made not_dead s = refl
  after_is b c x gs p made dead s = ap (λ (t : Turn Node Pass). elim (empty (at (remove b c x) c)) as (λ _. Turn Node Pass) [ true ↦ stop (over (left dead (remove b c x) s)) | false ↦ t ])
      (own_is (λ e. others c x (colours (at e c)) gs) made (remove b c x) s)

  -- M3's step, and the pass that follows it
  abbrev pub passed : Turn Node Left → Turn Spent Left
  passed (more n) = again (pass z l try d n)
  passed (stop e) = stop e

  pub refilled_is : (t : Spent) → spent_step z l try d t ≡ passed (refilled z l d t)
  refilled_is (spent b p made s) = go (met z l s d) (solved b || any_closed b made)
    where
      go : (m : ℕ) (u : Bool) → ◌≡◌ {A = Turn Spent Left}
          (elim m [ suc k ↦ stop (left not_dead b (note (suc k) s)) | zero ↦ elim u [ true ↦ stop (left not_dead b s) | false ↦ again (pass z l try d (node b (first_unsolved b) p made s)) ] ])
          (passed (elim m [ suc k ↦ stop (left not_dead b (note (suc k) s)) | zero ↦ elim u [ true ↦ stop (left not_dead b s) | false ↦ more (node b (first_unsolved b) p made s) ] ]))
      go (suc k) u = refl
      go zero true = refl
      go zero false = refl

  -- what a node whose guesses have run out comes to
  abbrev pub after_refill : Turn Node Left → Left
  after_refill (more n) = after_pass z l try d (pass z l try d n)
  after_refill (stop e) = e

  pub refill_is : (t : Spent) → refill z l try d t ≡ after_refill (refilled z l d t)
  refill_is t = refill_turn z l try d t ∙ ap (λ (o : Turn Spent Left). elim o as (λ _. Left) [ more u ↦ refill z l try d u | stop r ↦ r ]) (refilled_is t) ∙ go (refilled z l d t)
    where
      then : (r : Pass) → ◌≡◌ {A = Left} (elim (again r) as (λ _. Left) [ more u ↦ refill z l try d u | stop e ↦ e ]) (after_pass z l try d r)
      then (over e) = refl
      then (ran_out u) = refl

      go : (o : Turn Node Left) → ◌≡◌ {A = Left} (elim (passed o) as (λ _. Left) [ more u ↦ refill z l try d u | stop r ↦ r ]) (after_refill o)
      go (more n) = then (pass z l try d n)
      go (stop e) = refl
