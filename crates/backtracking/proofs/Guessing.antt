-- A guess whose colour is set, and the probing inside it.
use mathlib.Core.Path.{◌≡◌, refl, sym, ap, subst, ◌∙◌}
use mathlib.Core.Bool.{Bool, true, false}
use mathlib.Core.List.{List}
use mathlib.Core.Option as Math
use Prim.Native.Nat.{ℕ, ◌*◌, ◌≤◌, ◌<◌}
use Rattle.std.specs.Prelude.{Option, None, Some}
use Rattle.std.specs.declared.ops.ControlFlow.TheVariants.{Continue, Break}
use Rattle.rules.specs.Sets.{only}
use Rattle.rules.specs.Boards as Rules
use Rattle.rules.specs.Boards.{Puzzle, put, solved, newly}
use Rattle.rules.specs.Propagation.{propagate, check}
use Rattle.rules.specs.Probing as Probing
use Rattle.rules.specs.Probing.{Run, event, guessed, CellQueue, start_queue, push_both}
use Rattle.rules.specs.Search.{store}
use Rattle.lines.specs.declared.machine.Machine.{Machine}
use Rattle.boards.specs.declared.board.Board.{Board}
use Rattle.boards.specs.Board.{board_of, SameSize, with_cell}
use Rattle.queues.specs.declared.Queue.{Queue}
use Rattle.queues.specs.Entries.{queue_of, Holds}
use Rattle.runs.specs.declared.limits.Limits.{Limits}
use Rattle.runs.specs.declared.limits.Stats.{Stats}
use Rattle.runs.specs.Stats.{stepped}
use Rattle.runs.proofs.Matches.{event_matches}
use Rattle.boards.specs.Table.{Table, Playable}
use Rattle.boards.specs.Propagation.{Propagates}
use Rattle.notes.specs.declared.round.Notes.{Notes}
use Rattle.notes.specs.Round.{notes_of}
use Rattle.probing.specs.Neighbours.{OfSize}
use Rattle.probing.specs.Probing.{Probes}
use Rattle.probing.specs.declared.rounds.Probed.{Probed}
use Rattle.backtracking.specs.Parts.{Went, died, went, kept, after_set, set_guess, after_probe, probe_guess}
use Rattle.backtracking.specs.Setting.{Setting, RunIs, KeptTo, WentTo}
use Rattle.backtracking.specs.Comes.{Stores, SetsGuess, ProbesGuess}
use Rattle.backtracking.specs.declared.ended.Ended.{Ended}
use Rattle.backtracking.proofs.Boarding.{size_same, size_more, size_with, size_at, of_size, table_size, put_with}
use Rattle.backtracking.proofs.Storing.{stores_on}
use Rattle.backtracking.proofs.Probing.{probing_none, probing_some, probing_size, probing_notes}

-- a guess is dead where its board was not kept, and goes on with anything where it was
module _ {w h : ℕ} {machines : List Machine} (g : Setting w h machines) {X A : Type 0} (Is : Board → X → A → Type 0) (s : Stats) (out : List ℕ) (b : Rules.Board) (x : A) (t : Run) where
  pub kept_none : (c : Board) → KeptTo g s None out (kept g.puzzle b (tt {0}) t) → WentTo g Is (Break (record { dead = true; board = c; stats = s })) out (kept g.puzzle b x t)
  kept_none c k = go (solved b) (check g.puzzle b) k
    where
      go : (u v : Bool) →
          KeptTo g s None out (elim u as (λ _. Went (Unit {0})) [ true ↦ elim v as (λ _. Went (Unit {0})) [ true ↦ went (tt {0}) (store b t) | false ↦ died t ] | false ↦ went (tt {0}) t ]) →
          WentTo g Is (Break (record { dead = true; board = c; stats = s })) out (elim u as (λ _. Went A) [ true ↦ elim v as (λ _. Went A) [ true ↦ went x (store b t) | false ↦ died t ] | false ↦ went x t ])
      go true true m = absurd m
      go true false m = (refl, m)
      go false v m = absurd m

  pub kept_some : (r : Stats) (a : Board) (y : X) → Is a y x → KeptTo g s (Some r) out (kept g.puzzle b (tt {0}) t) → WentTo g Is (Continue (a, y, r)) out (kept g.puzzle b x t)
  kept_some r a y i k = go (solved b) (check g.puzzle b) k
    where
      go : (u v : Bool) →
          KeptTo g s (Some r) out (elim u as (λ _. Went (Unit {0})) [ true ↦ elim v as (λ _. Went (Unit {0})) [ true ↦ went (tt {0}) (store b t) | false ↦ died t ] | false ↦ went (tt {0}) t ]) →
          WentTo g Is (Continue (a, y, r)) out (elim u as (λ _. Went A) [ true ↦ elim v as (λ _. Went A) [ true ↦ went x (store b t) | false ↦ died t ] | false ↦ went x t ])
      go true true m = (i, m)
      go true false m = absurd m
      go false v m = (i, m)

-- ## The colour is set

module _ (b : Board) (c x : ℕ) (machines : List Machine) (list : List ℕ) (l : Limits) (s s₁ : Stats) (a : Board) (q : Queue) (low : c < b.w * b.h) (few : s.grids ≤ l.grids)
    (table : Playable b.w b.h machines) (starts : (z : Puzzle) → OfSize z b → Holds (b.w * b.h) (start_queue z (board_of b)) q)
    (step : s₁ ≡ stepped 1 s) (puts : a ≡ with_cell b c (only x)) where
  pub set_size : SameSize b a
  set_size = size_with _ puts

  set_board : board_of a ≡ put (board_of b) c x
  set_board = ap board_of puts ∙ put_with b c x low

  -- the puzzle's table has the board's size, with the colour set too
  set_table : (g : Setting b.w b.h machines) → Table g.puzzle a.w a.h machines
  set_table g = size_at (λ w h. Table g.puzzle w h machines) set_size g.table

  -- one step more
  set_step : (g : Setting b.w b.h machines) (t : Run) → RunIs g s list t → RunIs g s₁ list (event (guessed c x) t)
  set_step g t m = subst (λ v. RunIs g v list (event (guessed c x) t)) (sym step) (event_matches (b.w * b.h) g.lent (guessed c x) m)

  set_few : s₁.grids ≤ l.grids
  set_few = subst (λ v. v.grids ≤ l.grids) (sym step) few

  abbrev SetIs : Board → Queue → Rules.Board × CellQueue → Type 0
  SetIs e o p = (board_of e ≡ p.0) × Holds (b.w * b.h) p.1 o

  abbrev dead_end : Ended
  dead_end = record { dead = true; board = b; stats = s₁ }

  -- a contradiction
  pub sets_dead : Propagates a c machines None → SetsGuess b c x machines list l s (Break dead_end) list
  unfolding set_guess
  sets_dead p = record {
    within = record { size = size_same b; few = set_few };
    to = λ g t m h.
        let e : propagate g.puzzle (put (board_of b) c x) c ≡ Math.none = subst (λ d. propagate g.puzzle d c ≡ Math.none) set_board (p.to g.puzzle (set_table g)) in
        subst (λ v. WentTo g SetIs (Break dead_end) list (after_set g.puzzle (put (board_of b) c x) c (start_queue g.puzzle (board_of b)) (event (guessed c x) t) v)) (sym e) (refl, set_step g t m);
  }

  module _ {e : Board} (p : Propagates a c machines (Some e)) where
    -- the board that is propagated, of the rules
    set_to : (g : Setting b.w b.h machines) → propagate g.puzzle (put (board_of b) c x) c ≡ Math.some (board_of e)
    set_to g = subst (λ d. propagate g.puzzle d c ≡ Math.some (board_of e)) set_board (p.to g.puzzle (set_table g))

    pub set_all : SameSize b e
    set_all = size_more set_size p.size

    keeps_to : {k : Option Stats} {out : List ℕ} → Stores e machines list l s₁ k out (λ z. kept z) → (g : Setting b.w b.h machines) (t : Run) → RunIs g s list t → s.grids < l.grids →
        KeptTo g s₁ k out (kept g.puzzle (board_of e) (tt {0}) (event (guessed c x) t))
    keeps_to keeps g t m h = stores_on (λ z. kept z) set_all keeps g (event (guessed c x) t) (set_step g t m) (subst (λ v. v.grids < l.grids) (sym step) h)

    -- the board is not kept
    pub sets_failed : {out : List ℕ} → Stores e machines list l s₁ None out (λ z. kept z) → SetsGuess b c x machines list l s (Break dead_end) out
    unfolding set_guess
    sets_failed {out} keeps = record {
      within = record { size = size_same b; few = set_few };
      to = λ g t m h. subst (λ v. WentTo g SetIs (Break dead_end) out (after_set g.puzzle (put (board_of b) c x) c (start_queue g.puzzle (board_of b)) (event (guessed c x) t) v)) (sym (set_to g))
          (kept_none g SetIs s₁ out (board_of e) (board_of e, push_both g.puzzle (board_of e) c (newly (put (board_of b) c x) (board_of e)) (start_queue g.puzzle (board_of b))) (event (guessed c x) t) b (keeps_to keeps g t m h));
    }

    -- a board to go on with
    pub sets_on : {r : Stats} {out : List ℕ} {next : Queue} → Stores e machines list l s₁ (Some r) out (λ z. kept z) →
        ((z : Puzzle) → OfSize z e → Holds q.n (push_both z (board_of e) c (newly (board_of a) (board_of e)) (queue_of q)) next) → SetsGuess b c x machines list l s (Continue (e, next, r)) out
    unfolding set_guess
    sets_on {r} {out} {next} keeps pushes = record {
      within = (record { size = set_all; few = keeps.few }, (pushed table.puzzle table.table).size ∙ (starts table.puzzle (table_size b table.table)).size);
      to = λ g t m h. subst (λ v. WentTo g SetIs (Continue (e, next, r)) out (after_set g.puzzle (put (board_of b) c x) c (start_queue g.puzzle (board_of b)) (event (guessed c x) t) v)) (sym (set_to g))
          (kept_some g SetIs s₁ out (board_of e) (board_of e, push_both g.puzzle (board_of e) c (newly (put (board_of b) c x) (board_of e)) (start_queue g.puzzle (board_of b))) (event (guessed c x) t) r e next
          (refl, held g) (keeps_to keeps g t m h));
    }
      where
        pushed : (z : Puzzle) → Table z b.w b.h machines → Holds q.n (push_both z (board_of e) c (newly (board_of a) (board_of e)) (queue_of q)) next
        pushed z i = pushes z (of_size (λ d. OfSize z d) set_all (λ cells. record { wide = i.wide; high = i.high }))

        held : (g : Setting b.w b.h machines) → Holds (b.w * b.h) (push_both g.puzzle (board_of e) c (newly (put (board_of b) c x) (board_of e)) (start_queue g.puzzle (board_of b))) next
        held g = let i = starts g.puzzle (table_size b g.table) in let y = pushed g.puzzle g.table in
            record { size = y.size ∙ i.size; queue = y.queue ∙ rw (set_board, i.queue) }

-- ## The probing inside it

module _ (b : Board) (q : CellQueue) (machines : List Machine) (list : List ℕ) (l : Limits) (s s₁ : Stats) (r : Probed) (few : s.grids ≤ l.grids) (step : s₁ ≡ stepped r.steps s)
    (p : Probes b (λ _. q) machines r) where
  abbrev ProbeIs : Board → Notes → Rules.Board × Probing.Notes → Type 0
  ProbeIs e ns v = (board_of e ≡ v.0) × (notes_of ns ≡ v.1)

  abbrev dead_guess : Ended
  dead_guess = record { dead = true; board = b; stats = s₁ }

  probe_few : s₁.grids ≤ l.grids
  probe_few = subst (λ v. v.grids ≤ l.grids) (sym step) few

  -- a contradiction
  pub probes_dead : r.end ≡ None → ProbesGuess b q machines list l s (Break dead_guess) list
  unfolding probe_guess
  probes_dead e = record {
    within = record { size = size_same b; few = probe_few };
    to = λ g t m h. let i = probing_none list p s s₁ step e g t m in
        subst (λ v. WentTo g ProbeIs (Break dead_guess) list (after_probe g.puzzle v)) (sym i.ends) (refl, i.is);
  }

  module _ {a : Board} {ns : Notes} (e : r.end ≡ Some (a, ns)) where
    -- the board is not kept
    pub probes_failed : {out : List ℕ} → Stores a machines list l s₁ None out (λ z. kept z) → ProbesGuess b q machines list l s (Break dead_guess) out
    unfolding probe_guess
    probes_failed {out} keeps = record {
      within = record { size = size_same b; few = probe_few };
      to = λ g t m h. let i = probing_some list p s s₁ step e g t m in
          subst (λ v. WentTo g ProbeIs (Break dead_guess) out (after_probe g.puzzle v)) (sym i.ends)
          (kept_none g ProbeIs s₁ out (board_of a) (board_of a, notes_of ns) i.run b
          (stores_on (λ z. kept z) (probing_size p e) keeps g i.run i.is (subst (λ v. v.grids < l.grids) (sym step) h)));
    }

    -- a board to go on with
    pub probes_on : {k : Stats} {out : List ℕ} → Stores a machines list l s₁ (Some k) out (λ z. kept z) → ProbesGuess b q machines list l s (Continue (a, ns, k)) out
    unfolding probe_guess
    probes_on {k} {out} keeps = record {
      within = (record { size = probing_size p e; few = keeps.few }, probing_notes p e);
      to = λ g t m h. let i = probing_some list p s s₁ step e g t m in
          subst (λ v. WentTo g ProbeIs (Continue (a, ns, k)) out (after_probe g.puzzle v)) (sym i.ends)
          (kept_some g ProbeIs s₁ out (board_of a) (board_of a, notes_of ns) i.run k a ns (refl, refl)
          (stores_on (λ z. kept z) (probing_size p e) keeps g i.run i.is (subst (λ v. v.grids < l.grids) (sym step) h)));
    }
