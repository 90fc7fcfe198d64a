-- Why an input is refused, by the tests before and after that of its clue bytes.
use Rattle.std.specs.Prelude.{Bool, true, false, Result, Ok, Err}
use Rattle.rules.specs.declared.Refusal.{Refusal}
use Rattle.rules.specs.declared.Refusal.TheVariants.{Sides, Colours, Limits, Cells, List}

-- whether the sides, the colours and the limits pass
abbrev pub accept_numbers : Bool → Bool → Bool → Result Unit Refusal
accept_numbers false colours limits = Err Sides
accept_numbers true false limits = Err Colours
accept_numbers true true false = Err Limits
accept_numbers true true true = Ok tt

-- whether the cells and the list pass
abbrev pub accept_lent : Bool → Bool → Result Unit Refusal
accept_lent false list = Err Cells
accept_lent true false = Err List
accept_lent true true = Ok tt
