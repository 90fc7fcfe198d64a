-- The rules' run, part by part: the given board is solved, the first run of probing ends it, or the search at depth 0 does.
use Rattle.std.proofs.Common.{sym, arith}
use Rattle.belutharin.proofs.Beginning.{given_solved, first_contradicts, begins, begun_solved}
use Rattle.belutharin.proofs.Answering.{begun_ready, begun_stands, begun_dead, begun_listed}
use Rattle.belutharin.proofs.searching.searched.Goals as goal

pub returns-then-is_solved_full : goal.returns-then-is_solved_full
returns-then-is_solved_full c = given_solved c.requires (sym c.if-is_solved_full.ensures) _ _ (c.checked.ensures c.args.list.now)

pub returns-in_default : goal.returns-in_default
returns-in_default c = first_contradicts c.requires (sym c.if-is_solved_full.ensures) _ c.run_unsolved.ensures c.in_default.is _ c.at_once.ensures

pub returns-then-is_solved_full-2 : goal.returns-then-is_solved_full-2
returns-then-is_solved_full-2 c =
    let begun = begins c.requires (sym c.if-is_solved_full.ensures) _ c.run_unsolved.ensures _ _ c.in-Some.is in
    begun_solved begun (sym c.if-is_solved_full-2.ensures) _ _ (c.checked-then-is_solved_full-2.ensures c.args.list.now)

-- ## The search

pub search-ended-requires : goal.search-ended-requires
search-ended-requires c =
    let begun = begins c.requires (sym c.if-is_solved_full.ensures) _ c.run_unsolved.ensures _ _ c.in-Some.is in
    let chosen = c.choose_directions-guesses.ensures in
    (begun_ready begun, chosen.within, omega arith, begun_stands begun _ chosen)

pub returns-then-ended : goal.returns-then-ended
returns-then-ended c =
    let begun = begins c.requires (sym c.if-is_solved_full.ensures) _ c.run_unsolved.ensures _ _ c.in-Some.is in
    begun_dead begun _ c.choose_directions-guesses.ensures (sym c.if-is_solved_full-2.ensures) _ _ c.search-ended.ensures c.if-ended.true

pub returns : goal.returns
returns c =
    let begun = begins c.requires (sym c.if-is_solved_full.ensures) _ c.run_unsolved.ensures _ _ c.in-Some.is in
    begun_listed begun _ c.choose_directions-guesses.ensures (sym c.if-is_solved_full-2.ensures) _ _ c.search-ended.ensures c.if-ended.false _ c.give_back.ensures
