-- One guess as far as the search one deeper, part by part, is the rules' guess.
use mathlib.Core.Path.{◌≡◌, refl, sym, ap, subst, ◌∙◌}
use mathlib.Core.Bool.{Bool, true, false}
use mathlib.Core.List.{List}
use Prim.Native.Nat.{ℕ, zero, suc, ◌*◌, ◌<◌}
use native.Mathlib.Omega.{arith}
use Rattle.std.specs.Prelude.{None}
use Rattle.std.specs.declared.ops.ControlFlow.{ControlFlow}
use Rattle.std.specs.declared.ops.ControlFlow.TheVariants.{Continue, Break}
use Rattle.rules.specs.Sets.{has}
use Rattle.rules.specs.Boards as Rules
use Rattle.rules.specs.Boards.{at, solved}
use Rattle.rules.specs.Probing.{Run, CellQueue}
use Rattle.rules.specs.Probing as Probing
use Rattle.rules.specs.Guesses.{Guess, choose}
use Rattle.rules.specs.Answers.{most_colours}
use Rattle.rules.specs.Search.{tried, not_dead, note, met}
use Rattle.rules.proofs.Tests.{on_number}
use Rattle.rules.proofs.Room.{waiting_few}
use Rattle.lines.specs.declared.machine.Machine.{Machine}
use Rattle.boards.specs.declared.board.Board.{Board}
use Rattle.boards.specs.Board.{board_of, Sized}
use Rattle.boards.proofs.Sizes.{few_cells}
use Rattle.queues.specs.declared.Queue.{Queue}
use Rattle.queues.specs.Entries.{queue_of, Holds}
use Rattle.runs.specs.declared.limits.Limits.{Limits}
use Rattle.runs.specs.declared.limits.Stats.{Stats}
use Rattle.runs.specs.Stats.{limit_met}
use Rattle.runs.specs.Matches.{limits_of}
use Rattle.guesses.specs.declared.waiting.Guesses.{Guesses}
use Rattle.guesses.specs.Waiting.{IfRoom}
use Rattle.notes.specs.declared.round.Notes.{Notes}
use Rattle.notes.specs.Round.{notes_of}
use Rattle.backtracking.specs.Parts.{Went, died, went, set_guess, probe_guess, Entered, ended_as, deeper_from, after_probing, after_setting, enter_guess}
use Rattle.backtracking.specs.Setting.{Setting, RunIs, Fine, Few, WentTo, EnteredTo}
use Rattle.backtracking.specs.Comes.{Asks, SetsGuess, ProbesGuess, Enters}
use Rattle.backtracking.specs.declared.ended.Ended.{Ended}
use Rattle.backtracking.proofs.Boarding.{size_more, at_size}
use Rattle.backtracking.proofs.Asking.{limit_none, asks_within, unmet, met_some, met_left}
use Rattle.backtracking.proofs.Fine.{SetFine, set_fine, ProbeFine, probe_fine}

module _ {w h : ℕ} {machines : List Machine} (g : Setting w h machines) (l : Limits) (d : ℕ) {s : Stats} {list : List ℕ} {t : Run} (m : RunIs g s list t) where
  -- the guess ends at a limit
  met_entered : {b : Board} {r : Ended} (on : Entered) → Asks b s l d (Break r) →
      EnteredTo g (Break r) list (elim (met g.puzzle (limits_of l) t d) as (λ _. Entered) [ suc n ↦ ended_as (tried not_dead (note (suc n) t)) | zero ↦ on ])
  met_entered {b} {r} on e = on_number (EnteredTo g (Break r) list) (met g.puzzle (limits_of l) t d) {f = λ n. ended_as (tried not_dead (note (suc n) t))}
      (λ z. absurd (met_some g l d m e z))
      (λ n z. let i = met_left g l d m e refl n z in (i.0, i.2))

  -- or no limit is met
  free_entered : (on : Entered) → limit_met s l d ≡ None →
      ◌≡◌ {A = Entered} (elim (met g.puzzle (limits_of l) t d) as (λ _. Entered) [ suc n ↦ ended_as (tried not_dead (note (suc n) t)) | zero ↦ on ]) on
  free_entered on e = ap (λ n. elim n as (λ _. Entered) [ suc n ↦ ended_as (tried not_dead (note (suc n) t)) | zero ↦ on ]) (unmet g l d m e)

module _ {b : Board} {c x : ℕ} {machines : List Machine} {list : List ℕ} {l : Limits} (d : ℕ) {s : Stats} (room : s.grids < l.grids) where
  -- ## The colour is set

  module _ {a : Board} {q : Queue} {v : Stats} {out : List ℕ} (w : SetsGuess b c x machines list l s (Continue (a, q, v)) out) where
    -- it goes on: the rules' run, and what the guess comes to from here
    record Set-on (g : Setting b.w b.h machines) (t : Run) : Type 0 where
      run : Run
      is : RunIs g v out run
      fine : Fine g (board_of a)
      same : enter_guess g.puzzle (limits_of l) d (board_of b) c x t ≡ after_setting g.puzzle (limits_of l) d (went (board_of a, queue_of q) run)

    set_on : (g : Setting b.w b.h machines) (t : Run) → RunIs g s list t → Fine g (board_of b) → has (at (board_of b) c) x ≡ true → Set-on g t
    set_on g t is fine k = go (set_guess g.puzzle (board_of b) c x t) refl (w.to g t is room) (set_fine g (board_of b) c x t fine k)
      where
        go : (o : Went (Rules.Board × CellQueue)) → set_guess g.puzzle (board_of b) c x t ≡ o → WentTo g (λ a q p. (board_of a ≡ p.0) × Holds (b.w * b.h) p.1 q) (Continue (a, q, v)) out o →
            SetFine g o → Set-on g t
        go (died u) e i f = absurd i
        go (went p u) e i f = record {
          run = u;
          is = i.1;
          fine = subst (Fine g) (sym i.0.0) f;
          same = ap (after_setting g.puzzle (limits_of l) d) e ∙ sym (λ j. after_setting g.puzzle (limits_of l) d (went (i.0.0 j, i.0.1.queue j) u));
        }

    -- a limit is met
    pub set_limited : {r : Ended} → Asks a v l d (Break r) → Enters b c x machines list l d s (Break r) out
    set_limited {r} e = record {
      within = let i = asks_within w.within.0.few e in record { size = size_more w.within.0.size i.size; few = i.few };
      to = λ g t is fine k. let o = set_on g t is fine k in
          subst (EnteredTo g (Break r) out) (sym o.same) (met_entered g l d o.is (after_probing g.puzzle (limits_of l) d (probe_guess g.puzzle (board_of a) (queue_of q) o.run)) e);
    }

    -- ## It is probed

    module _ (free : limit_met v l d ≡ None) where
      probing_to : {r : ControlFlow Ended (Board × Notes × Stats)} {last : List ℕ} → ProbesGuess a (queue_of q) machines out l v r last → (g : Setting b.w b.h machines) (t : Run) → RunIs g v out t →
          WentTo g (λ a ns p. (board_of a ≡ p.0) × (notes_of ns ≡ p.1)) r last (probe_guess g.puzzle (board_of a) (queue_of q) t)
      probing_to {r} {last} p g t is =
          at_size (λ m n. (g : Setting m n machines) (t : Run) → RunIs g v out t → v.grids < l.grids →
          WentTo g (λ a ns p. (board_of a ≡ p.0) × (notes_of ns ≡ p.1)) r last (probe_guess g.puzzle (board_of a) (queue_of q) t))
          w.within.0.size p.to g t is (limit_none v l d free).0

      set_free : (g : Setting b.w b.h machines) (t : Run) (o : Set-on g t) →
          enter_guess g.puzzle (limits_of l) d (board_of b) c x t ≡ after_probing g.puzzle (limits_of l) d (probe_guess g.puzzle (board_of a) (queue_of q) o.run)
      set_free g t o = o.same ∙ free_entered g l d o.is (after_probing g.puzzle (limits_of l) d (probe_guess g.puzzle (board_of a) (queue_of q) o.run)) free

      pub probe_died : {r : Ended} {last : List ℕ} → ProbesGuess a (queue_of q) machines out l v (Break r) last → Enters b c x machines list l d s (Break r) last
      probe_died {r} {last} p = record {
        within = record { size = size_more w.within.0.size p.within.size; few = p.within.few };
        to = λ g t is fine k. let o = set_on g t is fine k in
            subst (EnteredTo g (Break r) last) (sym (set_free g t o)) (go g (probe_guess g.puzzle (board_of a) (queue_of q) o.run) (probing_to p g o.run o.is));
      }
        where
          go : (g : Setting b.w b.h machines) (o : Went (Rules.Board × Probing.Notes)) → WentTo g (λ a ns p. (board_of a ≡ p.0) × (notes_of ns ≡ p.1)) (Break r) last o →
              EnteredTo g (Break r) last (after_probing g.puzzle (limits_of l) d o)
          go g (died u) i = i
          go g (went p u) i = absurd i

      module _ {e : Board} {ns : Notes} {u : Stats} {last : List ℕ} (p : ProbesGuess a (queue_of q) machines out l v (Continue (e, ns, u)) last) where
        abbrev chosen_guesses : List Guess
        chosen_guesses = choose (board_of e) (notes_of ns)

        -- it goes on
        record Probed-on (g : Setting b.w b.h machines) (t : Run) : Type 0 where
          run : Run
          is : RunIs g u last run
          few : Few g chosen_guesses
          same : enter_guess g.puzzle (limits_of l) d (board_of b) c x t ≡ after_probing g.puzzle (limits_of l) d (went (board_of e, notes_of ns) run)

        probed_on : (g : Setting b.w b.h machines) (t : Run) → RunIs g s list t → Fine g (board_of b) → has (at (board_of b) c) x ≡ true → Probed-on g t
        probed_on g t is fine k = go (probe_guess g.puzzle (board_of a) (queue_of q) o.run) refl (probing_to p g o.run o.is) (probe_fine g (board_of a) (queue_of q) o.run o.fine)
          where
            o : Set-on g t
            o = set_on g t is fine k

            go : (y : Went (Rules.Board × Probing.Notes)) → probe_guess g.puzzle (board_of a) (queue_of q) o.run ≡ y → WentTo g (λ a ns p. (board_of a ≡ p.0) × (notes_of ns ≡ p.1)) (Continue (e, ns, u)) last y →
                ProbeFine g y → Probed-on g t
            go (died n) f i y = absurd i
            go (went m n) f i y = record {
              run = n;
              is = i.1;
              few = subst (λ (q : Rules.Board × Probing.Notes). Few g (choose q.0 q.1)) (sym (λ j. (i.0.0 j, i.0.1 j))) y.1;
              same = set_free g t o ∙ ap (after_probing g.puzzle (limits_of l) d) f ∙ sym (λ j. after_probing g.puzzle (limits_of l) d (went (i.0.0 j, i.0.1 j) n));
            }

        -- the guess ends at a solved board, or else it goes on
        abbrev unless_solved : Run → Bool → Entered
        unless_solved t y = elim y as (λ _. Entered) [ true ↦ ended_as (tried not_dead t) | false ↦ deeper_from (board_of e) chosen_guesses t ]

        -- a limit is met
        pub probed_limited : {r : Ended} → Asks e u l d (Break r) → Enters b c x machines list l d s (Break r) last
        probed_limited {r} y = record {
          within = let i = asks_within p.within.0.few y in record { size = size_more (size_more w.within.0.size p.within.0.size) i.size; few = i.few };
          to = λ g t is fine k. let o = probed_on g t is fine k in
              subst (EnteredTo g (Break r) last) (sym o.same) (met_entered g l d o.is (unless_solved o.run (solved (board_of e))) y);
        }

        module _ (open-still : limit_met u l d ≡ None) where
          probed_free : (g : Setting b.w b.h machines) (t : Run) (o : Probed-on g t) (y : Bool) → solved (board_of e) ≡ y → enter_guess g.puzzle (limits_of l) d (board_of b) c x t ≡ unless_solved o.run y
          probed_free g t o y f = o.same ∙ free_entered g l d o.is (unless_solved o.run (solved (board_of e))) open-still ∙ ap (unless_solved o.run) f

          pub probed_solved : solved (board_of e) ≡ true → Enters b c x machines list l d s (Break (record { dead = false; board = e; stats = u })) last
          probed_solved f = record {
            within = record { size = size_more w.within.0.size p.within.0.size; few = p.within.0.few };
            to = λ g t is fine k. let o = probed_on g t is fine k in
                subst (EnteredTo g (Break (record { dead = false; board = e; stats = u })) last) (sym (probed_free g t o true f)) (refl, o.is);
          }

          pub probed_deeper : {waiting : Guesses} → Sized b → IfRoom chosen_guesses waiting → solved (board_of e) ≡ false → Enters b c x machines list l d s (Continue (e, waiting, u)) last
          probed_deeper {waiting} sized chosen f = record {
            within = (record { size = size_more w.within.0.size p.within.0.size; few = p.within.0.few }, chosen.within);
            to = λ g t is fine k. let o = probed_on g t is fine k in
                subst (EnteredTo g (Continue (e, waiting, u)) last) (sym (probed_free g t o false f))
                (refl, record { within = chosen.within; guesses = chosen.guesses (waiting_few most_colours (b.w * b.h) chosen_guesses (omega arith) (few_cells b sized) o.few) }, o.is);
          }
