-- A table filled line by line, as the clues are read: the lines so far, and the exits.
use mathlib.Core.Path.{◌≡◌, refl, ap, sym, subst, ◌∙◌}
use mathlib.Core.Bool.{true}
use mathlib.Core.List.{List, [], ◌∷◌, ◌++◌, append_assoc}
use Prim.Native.Nat.{ℕ, suc, ◌+◌, ◌-◌, ◌≤◌, ◌<◌}
use native.Mathlib.Omega.{arith}
use lib.Dec.{eqb}
use borrow.Author.Tests.{eq-eqb, ne_eqb}
use Rattle.std.specs.Bool.{then_some}
use lib.ListN.{length, get_or, set, take, drop, length-append, length-drop, length-set, get_or-append}
use lib.Seq.{get_or_at, get_or-set_same, get_or-set_other}
use Rattle.std.specs.Prelude.{None}
use Rattle.rules.specs.Clues.{Clue, regular, Read, read, broken, ahead, whole, read_line, read_lines, clues_of}
use Rattle.rules.proofs.Tests.{by_equal}
use Rattle.lines.specs.declared.machine.Machine.{Machine}
use Rattle.lines.specs.Layout.{line_read}
use Rattle.lines.specs.Machines.{clue_in, Legal, machine_of}
use Rattle.lines.proofs.Reading.{RightLine, pairs_legal, pairs_clue}
use Rattle.boards.specs.Table.{machine_at}
use Rattle.puzzles.specs.Table.{Reads}

-- ## One line

-- the bytes of a line's pairs
abbrev pairs_at : List ℕ → ℕ → ℕ → List ℕ
pairs_at bytes at end = take (end - (at + 1)) (drop (at + 1) bytes)

-- a line that was read has a clue that a machine is made of
pub line_legal : (k : ℕ) (bytes : List ℕ) (at end : ℕ) → k ≤ 7 → RightLine k bytes at end → Legal (pairs_at bytes at end)
line_legal k bytes at end h l = pairs_legal k l.clue (pairs_at bytes at end) (omega arith) l.right l.pairs

-- ## The lines so far

-- what is read after these clues, with them in front
abbrev behind : List Clue → Read (List Clue) → Read (List Clue)
behind clues broken = broken
behind clues (read more rest) = read (clues ++ more) rest

behind_none : (r : Read (List Clue)) → r ≡ behind [] r
behind_none broken = refl
behind_none (read more rest) = refl

behind_next : (clues : List Clue) (clue : Clue) (r : Read (List Clue)) → behind clues (ahead clue r) ≡ behind (clues ++ (clue ∷ [])) r
behind_next clues clue broken = refl
behind_next clues clue (read more rest) = ap (λ l. read l rest) (sym (append_assoc clues (clue ∷ []) more))

-- m lines more, after one
abbrev onward : ℕ → ℕ → Read Clue → Read (List Clue)
onward k m line = elim line [ broken ↦ broken | read clue rest ↦ ahead clue (read_lines k m rest) ]

-- the clues of the i lines before byte `at` are read, and their machines are in the table
pub record Filled (k n : ℕ) (bytes : List ℕ) (machines : List Machine) (at i : ℕ) : Type 0 where
  pub clues : List Clue
  pub count : length clues ≡ i
  pub each : (j : ℕ) → j < i → machine_at machines j ≡ machine_of (get_or clues j [])
  pub plain : (j : ℕ) → j < i → regular 7 (get_or clues j []) ≡ true
  pub so_far : read_lines k n bytes ≡ behind clues (read_lines k (n - i) (drop at bytes))
  pub inside : at ≤ length bytes
  pub room : length machines ≡ 32

pub filled_start : (k n : ℕ) (bytes : List ℕ) (machines : List Machine) → length machines ≡ 32 → Filled k n bytes machines 0 0
filled_start k n bytes machines long =
    let z : n ≡ n - 0 = omega arith in
    record {
      clues = [];
      count = refl;
      each = λ j h. absurd (omega arith);
      plain = λ j h. absurd (omega arith);
      so_far = ap (λ m. read_lines k m bytes) z ∙ behind_none (read_lines k (n - 0) bytes);
      inside = omega arith;
      room = long;
    }

module _ (k n : ℕ) (bytes : List ℕ) (machines : List Machine) (at i : ℕ) (f : Filled k n bytes machines at i) where
  -- at least one line is left
  lines_next : i < n → read_lines k (n - i) (drop at bytes) ≡ onward k (n - (i + 1)) (read_line k (drop at bytes))
  unfolding read_lines
  lines_next h = let z : n - i ≡ suc (n - (i + 1)) = omega arith in ap (λ m. read_lines k m (drop at bytes)) z

  pub filled_turn : (end : ℕ) (m : Machine) → k ≤ 7 → i < n → n ≤ 32 → (line : RightLine k bytes at end) → m ≡ machine_of (clue_in (pairs_at bytes at end)) →
      Filled k n bytes (set machines i m) end (i + 1)
  filled_turn end m few h wide line made = record {
    clues = f.clues ++ (line.clue ∷ []);
    count = length-append f.clues (line.clue ∷ []) ∙ ap (λ m. m + 1) f.count;
    each = λ j q. by_equal j i
        (λ e. ap (machine_at (set machines i m)) e ∙ get_or-set_same machines i m _ (let z = f.room in omega arith) ∙ made ∙ ap machine_of (clue_is ∙ sym (ap (λ m. get_or (f.clues ++ (line.clue ∷ [])) m []) e ∙ last)))
        (λ e. get_or-set_other machines i j m _ e ∙ f.each j (omega arith) ∙ ap machine_of (sym (earlier j (omega arith))));
    plain = λ j q. by_equal j i
        (λ e. ap (regular 7) (ap (λ m. get_or (f.clues ++ (line.clue ∷ [])) m []) e ∙ last ∙ sym clue_is) ∙ line_legal k bytes at end few line)
        (λ e. ap (regular 7) (earlier j (omega arith)) ∙ f.plain j (omega arith));
    so_far = f.so_far ∙ ap (behind f.clues) (lines_next h ∙ ap (onward k (n - (i + 1))) line.is) ∙ behind_next f.clues line.clue (read_lines k (n - (i + 1)) (drop end bytes));
    inside = line.inside;
    room = length-set machines i m ∙ f.room;
  }
    where
      clue_is : clue_in (pairs_at bytes at end) ≡ line.clue
      clue_is = pairs_clue line.clue (pairs_at bytes at end) line.pairs

      last : get_or (f.clues ++ (line.clue ∷ [])) i [] ≡ line.clue
      last = get_or_at f.clues line.clue [] [] i f.count

      earlier : (j : ℕ) → j < i → get_or (f.clues ++ (line.clue ∷ [])) j [] ≡ get_or f.clues j []
      earlier j q = get_or-append f.clues (line.clue ∷ []) [] j (let z = f.count in omega arith)

  -- a line breaks the layout
  pub filled_fails : (w h : ℕ) → h + w ≡ n → i < n → None ≡ line_read (length bytes) (read_line k (drop at bytes)) → Reads k w h bytes None
  unfolding clues_of
  filled_fails w h e q l = ap (λ x. whole x) (ap (λ m. read_lines k m bytes) e ∙ f.so_far ∙ ap (behind f.clues) (lines_next q ∙ go (read_line k (drop at bytes)) l))
    where
      go : (x : Read Clue) → None ≡ line_read (length bytes) x → onward k (n - (i + 1)) x ≡ broken
      go broken p = refl
      go (read clue rest) p = absurd (cc)

  all_read : (w h : ℕ) → h + w ≡ n → n ≤ i → read_lines k (h + w) bytes ≡ read (f.clues ++ []) (drop at bytes)
  unfolding read_lines
  all_read w h e q = let z : n - i ≡ 0 = omega arith in ap (λ m. read_lines k m bytes) e ∙ f.so_far ∙ ap (λ m. behind f.clues (read_lines k m (drop at bytes))) z

  -- all lines are read: whether bytes follow decides
  pub filled_end : (w h : ℕ) → h + w ≡ n → n ≤ i → Reads k w h bytes (then_some (eqb at (length bytes)) machines)
  unfolding clues_of
  filled_end w h e q = go (drop at bytes) refl
    where
      go : (left : List ℕ) → drop at bytes ≡ left → Reads k w h bytes (then_some (eqb at (length bytes)) machines)
      go [] p = subst (λ t. Reads k w h bytes (then_some t machines)) (sym (eq-eqb at (length bytes) (let z = ap length p in let y = length-drop at bytes in let x = f.inside in omega arith))) (
        f.clues ++ [],
        ap (λ x. whole x) (all_read w h e q ∙ ap (read (f.clues ++ [])) p),
        record {
          wide = refl;
          high = refl;
          each = λ j l. f.each j (omega arith) ∙ ap machine_of (sym (clue j (omega arith)));
          plain = λ j l. ap (regular 7) (clue j (omega arith)) ∙ f.plain j (omega arith);
        },
      )
        where
          clue : (j : ℕ) → j < i → get_or (f.clues ++ []) j [] ≡ get_or f.clues j []
          clue j l = get_or-append f.clues [] [] j (let z = f.count in omega arith)
      go (x ∷ left) p = subst (λ t. Reads k w h bytes (then_some t machines)) (sym (ne_eqb at (length bytes) (λ q. let z = ap length p in let y = length-drop at bytes in omega arith)))
          (ap (λ x. whole x) (all_read w h e q ∙ ap (read (f.clues ++ [])) p))
