-- What unfolds where an example is computed: every definition of the rules. An example says `unfolding computed`.
use Rattle.std.specs.Int.Count.{count_trailing_zeros}
use Rattle.std.specs.Float.Ieee.{span, climb, size as digits, odd, units, round, sum as float_sum, add, div, of_int, lt}
use Rattle.rules.specs.Loops.{turns, run}
use Rattle.rules.specs.Sets.{bit, has, members, set_of, single, empty, without, lost, proper}
use Rattle.rules.specs.Clues.{regular, pair_bytes, clue_bytes, read_pairs, read_line, read_lines, clues_of, clue_of}
use Rattle.rules.specs.Lines.{stretches, fits, reduce}
use Rattle.rules.specs.Boards.{put, remove, remove_all, solved, size, newly, same, line_cells, crossing, beside, around}
use Rattle.rules.specs.Propagation.{write, pend, propagate_on, propagate, check}
use Rattle.rules.specs.Floats.{priority_of, priority, whole_root, root, rate}
use Rattle.rules.specs.Queues.{push, waiting, leader, pop, popped, in_order}
use Rattle.rules.specs.Probing.{push_all, assumed_all, start_queue, push_around, outcomes, probe_on, probe}
use Rattle.rules.specs.Guesses.{cell_order, tally, colour_order, choose}
use Rattle.rules.specs.Search.{store_in, among, others, closed, any_closed, first_unsolved, met, pass, refill, node_from, try_guess, search, whole_run}
use Rattle.rules.specs.Answers.{written, solve, reduce_line, rate_asked, grid_of}

unfoldable pub computed : Unit {0}
unfolding count_trailing_zeros span climb digits odd units round float_sum add div of_int lt turns run bit has members set_of single empty without lost proper regular pair_bytes clue_bytes read_pairs read_line read_lines clues_of clue_of stretches fits reduce put remove remove_all solved size newly same line_cells crossing beside around write pend propagate_on propagate check priority_of priority whole_root root rate push waiting leader pop popped in_order push_all assumed_all start_queue push_around outcomes probe_on probe cell_order tally colour_order choose store_in among others closed any_closed first_unsolved met pass refill node_from try_guess search whole_run written solve reduce_line rate_asked grid_of
computed = tt
