-- A colour comes to wait where each test passes.
use borrow.Author.Rules.{rules}
use borrow.Author.Tests.{tests}
use mathlib.Core.Path.{◌≡◌}
use mathlib.Core.Bool.{true}
use Rattle.guesses.specs.Waiting.{guesses_of, is_other}
use Rattle.guesses.proofs.Others.{other_kept, other_new}
use Rattle.guesses.proofs.waiting.Guesses.other.Goals as goal
use Rattle.guesses.proofs.waiting.Guesses.other.Goals.{else-has-via-then-has+then-ne+else-not-waits, else-has-via-then-has+else-ne, else-has-via-else-has}

pub returns-then-not-waits : goal.returns-then-not-waits
returns-then-not-waits c =
    let a = c.args in
    other_new a.self.now a.c.0 a.x.0 a.set a.y.0 _ (let e : is_other a.c.0 a.x.0 a.set a.y.0 (guesses_of a.self.now) ≡ true = search (rules, tests) in e) c.wait.ensures

pub returns-else-has : goal.returns-else-has
returns-else-has c =
    let a = c.args in
    other_kept a.self.now a.c.0 a.x.0 a.set a.y.0 c.requires.0 (elim c.else-has.branch [
      | else-has-via-then-has+then-ne+else-not-waits w ↦ search (rules, tests)
      | else-has-via-then-has+else-ne w ↦ search (rules, tests)
      | else-has-via-else-has w ↦ search (rules, tests)
    ])
