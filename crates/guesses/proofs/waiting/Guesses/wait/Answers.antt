use borrow.Author.Rules.{rules}
use Rattle.guesses.proofs.Arrays.{pushed_room, no_room}
use Rattle.guesses.proofs.waiting.Guesses.wait.Goals as goal

pub returns-then-self-gt0 : goal.returns-then-self-gt0
returns-then-self-gt0 c = let a = c.args in pushed_room a.self.now a.c.0 a.x.0 (record { cells = search rules; colours = search rules }) c.if-self-gt0.true c.requires

pub returns-else-self-gt0 : goal.returns-else-self-gt0
returns-else-self-gt0 c = let a = c.args in no_room a.self.now a.c.0 a.x.0 c.if-self-gt0.false
