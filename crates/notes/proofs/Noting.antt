-- How the array of the notes follows the rules: what a note does to it, and what is read of a cell.
use mathlib.Core.Path.{◌≡◌, refl, sym, ap, ap₂, ◌∙◌}
use mathlib.Core.List.{List, map}
use mathlib.Core.Option as Math
use Prim.Native.Nat.{ℕ, ◌≤◌, ◌<◌}
use native.Mathlib.Omega.{arith}
use lib.ListN.{length, get_or, get_or-replicate, set, replicate, get_or-eq_default}
use lib.Seq.{get_or-set_same, get_or-set_other, set_out}
use Rattle.std.specs.Prelude.{Option, None, Some}
use Rattle.rules.specs.Lists.{from}
use Rattle.rules.specs.Sets.{Colour}
use Rattle.rules.specs.Guesses.{notes_at}
use Rattle.rules.proofs.Given.{length_given, given_at, given_alike, given_set}
use Rattle.notes.specs.declared.round.Notes.{Notes}
use Rattle.notes.specs.declared.round.Note.{Note}
use Rattle.notes.specs.Round.{note_of, noted, note_at, notes_of, Says}

notes_length : (ns : Notes) → length (notes_of ns) ≡ ns.n
unfolding notes_of
notes_length ns = length_given (note_at ns) 0 ns.n

-- what is read of a cell, and of one past the last
pub note_at_lem : (ns : Notes) (c : ℕ) → c < ns.n → note_at ns c ≡ notes_at (notes_of ns) c
unfolding notes_of
note_at_lem ns c h = sym (given_at (note_at ns) ns.n c Math.none h)

pub note_past : (ns : Notes) (c : ℕ) → ns.n ≤ c → Math.none ≡ notes_at (notes_of ns) c
note_past ns c h = sym (get_or-eq_default (notes_of ns) Math.none (omega (arith, notes_length ns)))

-- ## Noting

pub none_noted : (n : ℕ) {h : n ≤ 256} → Says n (replicate n Math.none) (record { n = n; notes = replicate 256 None; within = h })
unfolding notes_of
none_noted n {h} = record {
  size = refl;
  notes = given_alike (λ c. noted (get_or (replicate 256 None) c None)) Math.none 0 n (λ c l. ap noted (get_or-replicate 256 c None None (omega (arith, h))));
}

-- what notes stand for is read of their size and their array alone
notes_by : (r : Notes) {n : ℕ} {l : List (Option Note)} → r.n ≡ n → r.notes ≡ l → notes_of r ≡ map (λ c. noted (get_or l c None)) (from 0 n)
unfolding notes_of
notes_by r e f = ap₂ (λ n l. map (λ c. noted (get_or l c None)) (from 0 n)) e f

-- notes r after a cell was noted, or was past the last
module _ (ns r : Notes) (c : ℕ) (size : r.n ≡ ns.n) where
  pub past_noted : (o : Math.Option (List (Colour × ℕ))) → r.notes ≡ ns.notes → ns.n ≤ c → Says ns.n (set (notes_of ns) c o) r
  unfolding notes_of
  past_noted o e h = record { size = size; notes = notes_by r size e ∙ sym (set_out (notes_of ns) c o (omega (arith, notes_length ns, h))) }

  pub cell_noted : (t : Note) → r.notes ≡ set ns.notes c (Some t) → length ns.notes ≡ 256 → Says ns.n (set (notes_of ns) c (Math.some (note_of t))) r
  unfolding notes_of
  cell_noted t e l = record {
    size = size;
    notes = notes_by r size e ∙ given_set (note_at ns) (λ b. noted (get_or (set ns.notes c (Some t)) b None)) ns.n c (Math.some (note_of t))
        (λ m. ap noted (get_or-set_same ns.notes c (Some t) None (omega (arith, l, ns.within))))
        (λ b m e. ap noted (get_or-set_other ns.notes c b (Some t) None e));
  }
