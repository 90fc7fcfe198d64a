-- A node's own probing: a contradiction, a solved board that is stored, or a board to go on with.
use mathlib.Core.Path.{◌≡◌, refl, sym, subst}
use mathlib.Core.Bool.{Bool, true, false}
use mathlib.Core.List.{List}
use Prim.Native.Nat.{ℕ, ◌≤◌, ◌<◌}
use Rattle.std.specs.Prelude.{Option, None, Some, not, is_some, IfSome}
use Rattle.std.specs.Option.{unwrap_or}
use Rattle.std.specs.declared.ops.ControlFlow.TheVariants.{Continue, Break}
use Rattle.rules.specs.Boards as Rules
use Rattle.rules.specs.Boards.{Puzzle, solved}
use Rattle.rules.specs.Propagation.{check}
use Rattle.rules.specs.Probing as Probing
use Rattle.rules.specs.Probing.{Run, contradiction, probed, probe, start_queue}
use Rattle.rules.specs.Search.{dead, not_dead, store}
use Rattle.rules.proofs.Tests.{on_test, clash}
use Rattle.rules.proofs.Narrowing.{◌⊑◌}
use Rattle.rules.proofs.Probing.{ProbedBelow, probe_below}
use Rattle.lines.specs.declared.machine.Machine.{Machine}
use Rattle.boards.specs.declared.board.Board.{Board}
use Rattle.boards.specs.Board.{board_of}
use Rattle.runs.specs.declared.limits.Limits.{Limits}
use Rattle.runs.specs.declared.limits.Stats.{Stats}
use Rattle.runs.specs.Stats.{stepped}
use Rattle.notes.specs.declared.round.Notes.{Notes}
use Rattle.probing.specs.Probing.{Probes}
use Rattle.probing.specs.declared.rounds.Probed.{Probed}
use Rattle.backtracking.specs.Parts.{Went, died, went, checked_in, Own, ends, goes, own_of, own_probing}
use Rattle.backtracking.specs.Setting.{Setting, RunIs, KeptTo, OwnTo}
use Rattle.backtracking.specs.Comes.{Stores, ProbesNode}
use Rattle.backtracking.specs.declared.ended.Ended.{Ended}
use Rattle.backtracking.proofs.Boarding.{size_same}
use Rattle.backtracking.proofs.Storing.{stores_on}
use Rattle.backtracking.proofs.Probing.{probing_none, probing_some, probing_size}

module _ (b : Board) (machines : List Machine) (list : List ℕ) (l : Limits) (s s₁ : Stats) (r : Probed) (few : s.grids ≤ l.grids) (step : s₁ ≡ stepped r.steps s)
    (p : Probes b (λ z. start_queue z (board_of b)) machines r) where
  steps_few : s₁.grids ≤ l.grids
  steps_few = subst (λ v. v.grids ≤ l.grids) (sym step) few

  -- a contradiction
  pub own_dead : r.end ≡ None → ProbesNode b machines list l s (Break (record { dead = true; board = b; stats = s₁ })) list
  unfolding own_probing
  own_dead e = record {
    within = record { size = size_same b; few = steps_few };
    to = λ g t m h. let i = probing_none list p s s₁ step e g t m in
        subst (λ v. OwnTo g (Break (record { dead = true; board = b; stats = s₁ })) list (own_of g.puzzle (board_of b) v)) (sym i.ends) (refl, refl, i.is);
  }

  module _ {a : Board} {ns : Notes} (e : r.end ≡ Some (a, ns)) where
    -- a solved board: the node is dead where nothing was kept
    pub own_stored : (k : Option Stats) (isdead : Bool) (after : Stats) (out : List ℕ) → is_some k ≡ not isdead → after ≡ unwrap_or k s₁ → solved (board_of a) ≡ true →
        Stores a machines list l s₁ k out (λ z. checked_in z) → ProbesNode b machines list l s (Break (record { dead = isdead; board = a; stats = after })) out
    unfolding own_probing
    own_stored k isdead after out f u full keeps = record {
      within = record { size = probing_size p e; few = few_kept k u keeps.few };
      to = λ g t m h. let i = probing_some list p s s₁ step e g t m in
          subst (λ v. OwnTo g (Break (end isdead after)) out (own_of g.puzzle (board_of b) v)) (sym i.ends)
          (on_test (OwnTo g (Break (end isdead after)) out) (solved (board_of a))
          (λ _. both g i.run k (check g.puzzle (board_of a)) isdead after f u
          (stores_on (λ z. checked_in z) (probing_size p e) keeps g i.run i.is (subst (λ v. v.grids < l.grids) (sym step) h)))
          (λ q. clash full q));
    }
      where
        end : Bool → Stats → Ended
        end v n = record { dead = v; board = a; stats = n }

        few_kept : (k : Option Stats) → after ≡ unwrap_or k s₁ → IfSome k (λ v. v.grids ≤ l.grids) → after.grids ≤ l.grids
        few_kept None u h = subst (λ (v : Stats). v.grids ≤ l.grids) (sym u) steps_few
        few_kept (Some v) u h = subst (λ (v : Stats). v.grids ≤ l.grids) (sym u) h

        both : (g : Setting b.w b.h machines) (t : Run) (k : Option Stats) (v w : Bool) (n : Stats) → is_some k ≡ not w → n ≡ unwrap_or k s₁ →
            KeptTo g s₁ k out (elim v as (λ _. Went (Unit {0})) [ true ↦ went (tt {0}) (store (board_of a) t) | false ↦ died t ]) →
            OwnTo g (Break (end w n)) out (elim v as (λ _. Own) [ true ↦ ends not_dead (board_of a) (store (board_of a) t) | false ↦ ends dead (board_of a) t ])
        both g t None true w n f u m = absurd m
        both g t (Some v) true true n f u m = cc
        both g t (Some v) true false n f u m = (refl, refl, subst (λ n. RunIs g n out (store (board_of a) t)) (sym u) m)
        both g t None false true n f u m = (refl, refl, subst (λ n. RunIs g n out t) (sym u) m)
        both g t None false false n f u m = cc
        both g t (Some v) false w n f u m = absurd m

    -- a board to go on with
    pub own_on : solved (board_of a) ≡ false → ProbesNode b machines list l s (Continue (a, s₁)) list
    unfolding own_probing
    own_on part = record {
      within = record { size = probing_size p e; few = steps_few };
      to = λ g t m h. let i = probing_some list p s s₁ step e g t m in
          subst (λ v. OwnTo g (Continue (a, s₁)) list (own_of g.puzzle (board_of b) v)) (sym i.ends)
          (on_test (OwnTo g (Continue (a, s₁)) list) (solved (board_of a)) (λ q. clash q part) (λ _. (refl, i.is)));
    }

-- the board that a node's own probing goes on with is narrower
abbrev pub OwnBelow : Rules.Board → Own → Type 0
OwnBelow b (ends e a u) = Unit {0}
OwnBelow b (goes a u) = a ⊑ b

pub own_below : (z : Puzzle) (b : Rules.Board) (s : Run) → OwnBelow b (own_probing z b s)
unfolding own_probing
own_below z b s = go (probe z b (start_queue z b) s) (probe_below z b (start_queue z b) s)
  where
    go : (v : Probing.Probed) → ProbedBelow z b s v → OwnBelow b (own_of z b v)
    go (contradiction u) d = tt
    go (probed a ns u) d = on_test (OwnBelow b) (solved a) (λ _. on_test (OwnBelow b) (check z a) (λ _. tt) (λ _. tt)) (λ _. d.0)
