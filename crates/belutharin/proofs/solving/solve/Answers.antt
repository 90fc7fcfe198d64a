-- By the tests in their order; an input that passes all is searched. What the rules answer keeps the promise (`promised`).
use Rattle.std.proofs.Common.{refl}
use Rattle.rules.specs.declared.Refusal.TheVariants.{Clues}
use Rattle.belutharin.specs.Answers.{asked}
use Rattle.belutharin.proofs.Refusing.{promised, refused_with, numbers_refused, clues_refused, lent_refused}
use Rattle.belutharin.proofs.Accepting.{given, solved_all}
use Rattle.belutharin.proofs.solving.solve.Goals as goal

pub returns-in_err-accept_numbers-clause-answered : goal.returns-in_err-accept_numbers-clause-answered
returns-in_err-accept_numbers-clause-answered c =
    let a = c.args in
    let q = asked a.w a.h a.k a.most_grids a.most_depth a.budget a.clues.now a.cells.now a.list.now in
    refused_with q _ _ c.from_residual.ensures.1 (numbers_refused q _ c.in_err-accept_numbers.ensures)

pub returns-in_default-clause-answered : goal.returns-in_default-clause-answered
returns-in_default-clause-answered c =
    let a = c.args in
    let q = asked a.w a.h a.k a.most_grids a.most_depth a.budget a.clues.now a.cells.now a.list.now in
    let none = rw c.in_default.is at c.read_table-table.ensures in
    clues_refused q c.in_ok-accept_numbers.ensures none Clues refl

pub returns-in_err-accept_lent-clause-answered : goal.returns-in_err-accept_lent-clause-answered
returns-in_err-accept_lent-clause-answered c =
    let a = c.args in
    let q = asked a.w a.h a.k a.most_grids a.most_depth a.budget a.clues.now a.cells.now a.list.now in
    let read = rw c.in-Some.is at c.read_table-table.ensures in
    refused_with q _ _ c.from_residual-in_err-accept_lent.ensures.1 (lent_refused q c.in_ok-accept_numbers.ensures read.0 read.1 _ c.in_err-accept_lent.ensures)

pub searched-requires : goal.searched-requires
searched-requires c =
    let a = c.args in
    let q = asked a.w a.h a.k a.most_grids a.most_depth a.budget a.clues.now a.cells.now a.list.now in
    let read = rw c.in-Some.is at c.read_table-table.ensures in
    let b = c.board_of.ensures in
    given q c.in_ok-accept_numbers.ensures read.0 read.1 c.in_ok-accept_lent.ensures _ read.2 _ b.0 b.1 b.2

pub returns : goal.returns
returns c =
    let a = c.args in
    let q = asked a.w a.h a.k a.most_grids a.most_depth a.budget a.clues.now a.cells.now a.list.now in
    let read = rw c.in-Some.is at c.read_table-table.ensures in
    let b = c.board_of.ensures in
    let p = promised q (solved_all q c.in_ok-accept_numbers.ensures read.0 read.1 c.in_ok-accept_lent.ensures _ read.2 _ b.0 b.1 b.2 _ _ _ c.searched.ensures) in
    record { answered = p.0; promised = p.1 }
