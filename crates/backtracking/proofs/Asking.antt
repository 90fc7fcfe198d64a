-- Limits that are asked: what is met in the counts is met in the rules' run.
use mathlib.Core.Path.{◌≡◌, refl, sym, ap, subst, ◌∙◌}
use mathlib.Core.List.{List}
use Prim.Native.Nat.{ℕ, suc, ◌*◌, ◌≤◌, ◌<◌}
use native.Mathlib.Omega.{arith}
use lib.Dec.{leb, ltb}
use borrow.Author.Tests.{leb-false, ltb-false}
use Rattle.std.specs.Prelude.{Bool, true, false, if◌then◌else◌, Option, None, Some}
use Rattle.std.specs.declared.ops.ControlFlow.TheVariants.{Break}
use Rattle.rules.specs.Boards as Rules
use Rattle.rules.specs.Probing.{Run}
use Rattle.rules.specs.Search.{not_dead, left, note, met}
use Rattle.lines.specs.declared.machine.Machine.{Machine}
use Rattle.boards.specs.declared.board.Board.{Board}
use Rattle.boards.specs.Board.{board_of}
use Rattle.runs.specs.declared.limits.Limit.{Limit}
use Rattle.runs.specs.declared.limits.Limit.TheVariants.{Grids, Steps, Depth}
use Rattle.runs.specs.declared.limits.Limits.{Limits}
use Rattle.runs.specs.declared.limits.Stats.{Stats}
use Rattle.runs.specs.Stats.{limit_number, limit_met, noted}
use Rattle.runs.specs.Matches.{limits_of}
use Rattle.runs.proofs.Matches.{met_matches, noted_matches}
use Rattle.backtracking.specs.Setting.{Setting, RunIs, LeftTo, Within}
use Rattle.backtracking.specs.Comes.{Asks}
use Rattle.backtracking.specs.declared.ended.Ended.{Ended}
use Rattle.backtracking.proofs.Boarding.{size_same}

on_if : {A : Type 0} (P : A → Type 0) (v : Bool) {a b : A} → (v ≡ true → P a) → (v ≡ false → P b) → P (if v then a else b)
on_if P true f g = f refl
on_if P false f g = g refl

-- where no limit is met a grid more has room, a step more is within the budget, and the depth is no more than the most
pub limit_none : (s : Stats) (l : Limits) (d : ℕ) → limit_met s l d ≡ None → (s.grids < l.grids) × (s.steps < l.budget) × (d ≤ l.depth)
unfolding limit_met
limit_none s l d = on_if P (leb l.grids s.grids) (λ _ e. cc)
    (λ h. on_if P (leb l.budget s.steps) (λ _ e. cc)
    (λ k. on_if P (ltb l.depth d) (λ _ e. cc)
    (λ m _. (leb-false l.grids s.grids h, leb-false l.budget s.steps k, ltb-false l.depth d m))))
  where
    P : Option Limit → Type 0
    P n = n ≡ None → (s.grids < l.grids) × (s.steps < l.budget) × (d ≤ l.depth)

-- where one is met, the board and the counts are within their bounds
pub asks_within : {b : Board} {s : Stats} {l : Limits} {d : ℕ} {r : Ended} → s.grids ≤ l.grids → Asks b s l d (Break r) → Within b l r.board r.stats
asks_within {b} {s} {l} few i = subst (λ (r : Ended). Within b l r.board r.stats) (sym i.is.2) (record { size = size_same b; few = few })

-- a limit has a number
some_limit : (m : Limit) → limit_number (Some m) ≡ 0 → ⊥
some_limit Grids e = omega arith
some_limit Steps e = omega arith
some_limit Depth e = omega arith

module _ {w h : ℕ} {machines : List Machine} (g : Setting w h machines) (l : Limits) (d : ℕ) {s : Stats} {list : List ℕ} {t : Run} (m : RunIs g s list t) where
  asked : limit_number (limit_met s l d) ≡ met g.puzzle (limits_of l) t d
  asked = met_matches (w * h) g.lent g.puzzle l d m

  -- where none is met, none is met in the rules
  pub unmet : limit_met s l d ≡ None → met g.puzzle (limits_of l) t d ≡ 0
  unmet e = sym asked ∙ ap limit_number e

  module _ {b : Board} {r : Ended} (i : Asks b s l d (Break r)) where
    -- one that is met is met in the rules
    pub met_some : met g.puzzle (limits_of l) t d ≡ 0 → ⊥
    met_some z = some_limit i.is.0 (ap limit_number (sym i.is.1) ∙ asked ∙ z)

    -- and it is noted
    pub met_left : {a : Rules.Board} → board_of b ≡ a → (n : ℕ) → met g.puzzle (limits_of l) t d ≡ suc n → LeftTo g r list (left not_dead a (note (suc n) t))
    met_left {a} e n z = subst (λ r. LeftTo g r list (left not_dead a (note (suc n) t))) (sym i.is.2)
        (refl, e, subst (λ k. RunIs g (noted (limit_number (Some i.is.0)) s) list (note k t)) (ap limit_number (sym i.is.1) ∙ asked ∙ z) (noted_matches (w * h) g.lent (limit_number (Some i.is.0)) m))
