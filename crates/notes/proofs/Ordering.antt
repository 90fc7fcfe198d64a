-- The colours of a cell, taken out of its set one after the other, the one that solves most first.
use mathlib.Core.Path.{◌≡◌, refl, sym, ap, ◌∙◌}
use mathlib.Core.Bool.{Bool, true, false, ◌&&◌}
use mathlib.Core.List.{List, [], ◌∷◌, ◌++◌, map}
use mathlib.Core.Option as Math
use Prim.Native.Nat.{ℕ, ◌<◌}
use native.Mathlib.Omega.{arith}
use lib.ListN.{length, get_or, set}
use borrow.Author.Tests.{ne_eqb}
use Rattle.std.specs.Prelude.{Option, None, Some}
use Rattle.std.specs.Bool.{then_some}
use Rattle.std.specs.List.{All}
use Rattle.std.proofs.lemmas.List.Elements.{All-nil, All-same, All-push}
use Rattle.cells.specs.declared.Colour as Cells
use Rattle.cells.specs.Numbers.{colour_numbers}
use Rattle.rules.specs.Options.{opt_of}
use Rattle.rules.specs.Lists.{from}
use Rattle.rules.specs.Sets.{Colour, has, without}
use Rattle.rules.specs.Queues.{Queue, waiting, leader, pop, in_order}
use Rattle.rules.specs.Guesses.{tally, colour_order, notes_at}
use Rattle.rules.specs.Probing as Probing
use Rattle.rules.proofs.Sets.{has_without, without_gone}
use Rattle.rules.proofs.Given.{length_given, given_at, given_set}
use Rattle.rules.proofs.Queues.{pop_some, pop_low}
use Rattle.rules.proofs.Guesses.{tally_waits}
use Rattle.queues.proofs.Popping.{Popping, popping_start, popping_fewer, popping_room, popping_turn, popping_end}
use Rattle.queues.proofs.Leading.{ranked, get_ranked, none_ranked, found_ranked}
use Rattle.notes.specs.declared.choosing.Solves.{Solves}
use Rattle.notes.specs.Round.{each_of}
use Rattle.notes.specs.Choosing.{more, waiting_colours, popped_colour, Ordered}

and_true_is : (v : Bool) → v && true ≡ v
and_true_is true = refl
and_true_is false = refl

abbrev waits_if : Bool → ℕ → Math.Option ℕ
waits_if v n = elim v [ true ↦ Math.some n | false ↦ Math.none ]

abbrev solves : ℕ → Solves
solves n = record { 0 = n }

module _ (s : ℕ) (counts : List ℕ) where
  abbrev waits_at : Colour → Math.Option ℕ
  waits_at x = waits_if (has s x) (get_or counts x 0)

  waiting_length : length (waiting_colours s counts) ≡ 8
  unfolding waiting_colours
  waiting_length = length_given waits_at 0 8

  -- each waits as the code tells it
  abbrev pub solving : Queue Solves
  solving = map (ranked solves) (waiting_colours s counts)

  pub solving_at : (x : ℕ) (r : Option Solves) → x < 8 → r ≡ then_some (has s x) (solves (get_or counts x 0)) → get_or solving x Math.none ≡ opt_of r
  unfolding waiting_colours
  solving_at x r h e = get_ranked solves (waiting_colours s counts) x ∙ ap (ranked solves) (given_at waits_at 8 x Math.none h) ∙ go (has s x) (get_or counts x 0) ∙ ap opt_of (sym e)
    where
      go : (v : Bool) (n : ℕ) → ranked solves (waits_if v n) ≡ opt_of (then_some v (solves n))
      go true n = refl
      go false n = refl

  -- taken out of its set it waits no more
  waiting_without : (x : ℕ) → waiting_colours (without s x) counts ≡ set (waiting_colours s counts) x Math.none
  unfolding waiting_colours
  waiting_without x = given_set waits_at (λ y. waits_if (has (without s x) y) (get_or counts y 0)) 8 x Math.none
      (λ h. ap (λ v. waits_if v (get_or counts x 0)) (without_gone s x))
      (λ y h p. ap (λ v. waits_if v (get_or counts y 0)) (kept y h p))
    where
      kept : (y : ℕ) → y < 8 → (y ≡ x → ⊥) → has (without s x) y ≡ has s y
      kept y h p = has_without s x y h ∙ rw (ne_eqb y x p) (and_true_is (has s y))

  abbrev Leads : Math.Option (ℕ × Solves) → Type 0
  Leads o = o ≡ leader (λ m n. more m.0 n.0) solving (from 0 8) Math.none

  pub none_left : Leads Math.none → Math.none ≡ pop more (waiting_colours s counts)
  none_left e = sym (none_ranked solves (λ m n. more m.0 n.0) (waiting_colours s counts) 8 waiting_length e)

  pub colour_low : (x : ℕ) (r : Queue ℕ) → Math.some (x, r) ≡ pop more (waiting_colours s counts) → x < 8
  colour_low x r e = rw (← waiting_length) (pop_low (waiting_colours s counts) x r (pop_some more (waiting_colours s counts) x r (sym e)))

  module _ (x : ℕ) (p : Solves) (e : Leads (Math.some (x, p))) where
    pops : pop more (waiting_colours s counts) ≡ Math.some (x, set (waiting_colours s counts) x Math.none)
    pops = found_ranked solves (λ m n. more m.0 n.0) (waiting_colours s counts) 8 waiting_length x p e

    pub found_low : x < 8
    found_low = colour_low x _ (sym pops)

    pub colour_found : Math.some (x, waiting_colours (without s x) counts) ≡ pop more (waiting_colours s counts)
    colour_found = ap (λ q. Math.some (x, q)) (waiting_without x) ∙ sym pops

-- ## The order of a note's colours

pub order_is : (s : ℕ) (counts : List ℕ) → in_order more (waiting_colours s counts) ≡ in_order more (tally (each_of s counts))
unfolding waiting_colours
order_is s counts = sym (ap (in_order more) (tally_waits s (λ x. get_or counts x 0)))

-- of a cell that was noted, and of one that was not
ordered_by : Math.Option (List (Colour × ℕ)) → List Colour
ordered_by o = elim o [ Math.none ↦ [] | Math.some each ↦ in_order more (tally each) ]

module _ (ns : Probing.Notes) (c : ℕ) (order : List Cells.Colour) where
  pub order_noted : (each : List (Colour × ℕ)) → Math.some each ≡ notes_at ns c → Ordered (in_order more (tally each)) order → Ordered (colour_order ns c) order
  unfolding colour_order ordered_by
  order_noted each e o = record { low = o.low; colours = o.colours ∙ ap ordered_by e }

  pub order_none : Math.none ≡ notes_at ns c → order ≡ [] → Ordered (colour_order ns c) order
  unfolding colour_order ordered_by
  order_none e h = record { low = All-same (λ x. x.0 < 8) order [] h (All-nil (λ x. x.0 < 8)); colours = ap colour_numbers h ∙ ap ordered_by e }

-- ## The loop that takes them out: those taken out, and those left, in order

pub record Taken (s : ℕ) (counts : List ℕ) (left : ℕ) (order : List Cells.Colour) : Type 0 where
  pub low : All (λ x. x.0 < 8) order
  pub popping : Popping (λ x. x.0) more (waiting_colours s counts) (waiting_colours left counts) 8 order

module _ (s : ℕ) (counts : List ℕ) where
  pub taken_start : (order : List Cells.Colour) → order ≡ [] → Taken s counts s order
  taken_start order e = record {
    low = All-same (λ x. x.0 < 8) order [] e (All-nil (λ x. x.0 < 8));
    popping = popping_start (λ x. x.0) more (waiting_colours s counts) 8 (omega (arith, waiting_length s counts)) order e;
  }

  module _ (left : ℕ) (order : List Cells.Colour) (t : Taken s counts left order) where
    module _ (x : Cells.Colour) (e : popped_colour left counts (Some x) ≡ pop more (waiting_colours left counts)) where
      pub taken_low : x.0 < 8
      taken_low = colour_low left counts x.0 _ e

      pub taken_fewer : waiting (waiting_colours (without left x.0) counts) < waiting (waiting_colours left counts)
      taken_fewer = popping_fewer (λ y. y.0) more (waiting_colours s counts) 8 (waiting_colours left counts) order t.popping x _ e

      pub taken_room : length order < 8
      taken_room = popping_room (λ y. y.0) more (waiting_colours s counts) 8 (waiting_colours left counts) order t.popping x _ e

      pub taken_turn : (next : List Cells.Colour) → next ≡ order ++ (x ∷ []) → Taken s counts (without left x.0) next
      taken_turn next h = record {
        low = All-same (λ y. y.0 < 8) next _ h (All-push (λ y. y.0 < 8) order x t.low taken_low);
        popping = popping_turn (λ y. y.0) more (waiting_colours s counts) 8 (waiting_colours left counts) order t.popping x _ e next h;
      }

    pub taken_end : popped_colour left counts None ≡ pop more (waiting_colours left counts) → Ordered (in_order more (tally (each_of s counts))) order
    taken_end e = record { low = t.low; colours = popping_end (λ y. y.0) more (waiting_colours s counts) 8 (waiting_colours left counts) order t.popping e ∙ order_is s counts }
