-- Runs of a machine over a line, and that the masks are exact: a colour is kept in a cell if and only if the cell has it in a line, taken from the sets, that the machine accepts.
use mathlib.Core.Path.{◌≡◌, refl, ap, sym, ◌∙◌}
use mathlib.Core.List.{List, [], ◌∷◌}
use mathlib.Core.Logic.{◌⊎◌, inl, inr, ⊎_elim}
use Prim.Native.Nat.{ℕ, zero, suc, ◌*◌, ◌/◌, ◌%◌, ◌<◌}
use native.Mathlib.Omega.{arith}
use lib.ListN.{length, get_or}
use lib.Bits.{bit_and}
use Rattle.rules.specs.Sets.{Colour, ◌∋◌}
use Rattle.rules.specs.Lines.{From, end, cell}
use Rattle.rules.proofs.Sets.{bit_zero, bit_suc}
use Rattle.lines.specs.declared.machine.Machine.{Machine}
use Rattle.lines.specs.Machines.{sign, goes, stays, before, after, moves, keeps, ends, kept}
use Rattle.lines.proofs.Masks.{bit_even, bit_twice, bit_digit, digit_only, and_in, and_of, or_left, or_right, or_of, pick_in, pick_of, sign_le, sign_in, sign_of, goes_in, goes_of, moves_in, moves_of}

-- from state j the line leads to the end
pub data Run (m : Machine) : ℕ → List Colour → Type 0 where
  stop : {j : ℕ} → m.last ∋ j → Run m j []
  stay : {j : ℕ} {line : List Colour} → m.gap ∋ j → Run m j line → Run m j (0 ∷ line)
  go : {j : ℕ} {c : Colour} {line : List Colour} → get_or m.by c 0 ∋ j → Run m (suc j) line → Run m j (c ∷ line)

module _ (m : Machine) where
  -- a blank of the set stays
  stays_in : (s j : ℕ) → s ∋ 0 → m.gap ∋ j → stays m s ∋ j
  stays_in s j p g = pick_in (s % 2) m.gap j (sym (bit_zero s) ∙ p) g

  stays_of : (s j : ℕ) → stays m s ∋ j → (s ∋ 0) × (m.gap ∋ j)
  stays_of s j h = let d = pick_of (s % 2) m.gap j (omega arith) h in (bit_zero s ∙ d.0, d.1)

  -- ## The states that lead to the end

  pub ends_in : {sets : List ℕ} {line : List Colour} {j : ℕ} → From sets line → Run m j line → ends m sets ∋ j
  unfolding ends before
  ends_in end (stop h) = h
  ends_in {j = j} (cell {s = s} {sets = sets} p f) (stay g r) = or_left (bit_and (stays m s) (ends m sets)) _ j (and_in (stays m s) (ends m sets) j (stays_in s j p g) (ends_in f r))
  ends_in {j = j} (cell {s = s} {c = c} {sets = sets} p f) (go g r) =
      or_right (bit_and (stays m s) (ends m sets)) _ j (and_in (goes m.by s) (ends m sets / 2) j (goes_in m.by s c j p g) (sym (bit_suc _ j) ∙ ends_in f r))

  pub ends_of : (sets : List ℕ) (j : ℕ) → ends m sets ∋ j → (line : List Colour) × From sets line × Run m j line
  unfolding ends before
  ends_of [] j h = ([], end, stop h)
  ends_of (s ∷ sets) j h =
      ⊎_elim
      (λ p.
      let a = and_of (stays m s) (ends m sets) j p in
      let d = stays_of s j a.0 in
      let r = ends_of sets j a.1 in
      (0 ∷ r.0, cell d.0 r.1, stay d.1 r.2))
      (λ p.
      let a = and_of (goes m.by s) (ends m sets / 2) j p in
      let g = goes_of m.by s j a.0 in
      let r = ends_of sets (suc j) (bit_suc (ends m sets) j ∙ a.1) in
      (g.0 ∷ r.0, cell g.1 r.1, go g.2 r.2))
      (or_of (bit_and (stays m s) (ends m sets)) (bit_and (goes m.by s) (ends m sets / 2)) j h)

  -- ## The states that the line can be in

  after_stay : (s from j : ℕ) → s ∋ 0 → m.gap ∋ j → from ∋ j → after m s from ∋ j
  unfolding after
  after_stay s from j p g h = or_left (bit_and (stays m s) from) _ j (and_in (stays m s) from j (stays_in s j p g) h)

  after_go : (s from c j : ℕ) → s ∋ c → get_or m.by c 0 ∋ j → from ∋ j → after m s from ∋ suc j
  unfolding after
  after_go s from c j p g h =
      or_right (bit_and (stays m s) from) _ (suc j) (bit_twice (bit_and (goes m.by s) from) j ∙ and_in (goes m.by s) from j (goes_in m.by s c j p g) h)

  -- a state that is reached, with a line from it: a state before it, with the line that has one cell more
  after_up : (s from k : ℕ) → bit_and (goes m.by s) from * 2 ∋ k → (line : List Colour) → Run m k line → (c j : ℕ) × (s ∋ c) × (from ∋ j) × Run m j (c ∷ line)
  after_up s from zero h line r = absurd (omega (arith, bit_even (bit_and (goes m.by s) from)))
  after_up s from (suc j) h line r =
      let a = and_of (goes m.by s) from j (sym (bit_twice (bit_and (goes m.by s) from) j) ∙ h) in
      let g = goes_of m.by s j a.0 in
      (g.0, j, g.1, a.1, go g.2 r)

  after_of : (s from k : ℕ) → after m s from ∋ k → (line : List Colour) → Run m k line → (c j : ℕ) × (s ∋ c) × (from ∋ j) × Run m j (c ∷ line)
  unfolding after
  after_of s from k h line r =
      ⊎_elim
      (λ p.
      let a = and_of (stays m s) from k p in
      let d = stays_of s k a.0 in
      (0, k, d.0, a.1, stay d.1 r))
      (λ p. after_up s from k p line r)
      (or_of (bit_and (stays m s) from) (bit_and (goes m.by s) from * 2) k h)

  -- ## What a cell keeps

  keeps_stay : (s from to j : ℕ) → s ∋ 0 → m.gap ∋ j → from ∋ j → to ∋ j → keeps m s from to ∋ 0
  unfolding keeps
  keeps_stay s from to j p g h t =
      let n = bit_and (bit_and (stays m s) from) to in
      or_right (moves m.by s (bit_and from (to / 2))) (sign n) 0
      (bit_digit (sign n) (sign_le n) ∙ sign_in n j (and_in (bit_and (stays m s) from) to j (and_in (stays m s) from j (stays_in s j p g) h) t))

  keeps_go : (s from to c j : ℕ) → s ∋ c → get_or m.by c 0 ∋ j → from ∋ j → to ∋ suc j → keeps m s from to ∋ c
  unfolding keeps
  keeps_go s from to c j p g h t =
      or_left (moves m.by s (bit_and from (to / 2))) _ c
      (moves_in m.by s (bit_and from (to / 2)) c j p g (and_in from (to / 2) j h (sym (bit_suc to j) ∙ t)))

  -- a kept colour is a blank that stays, or goes on
  keeps_of : (s from to c : ℕ) → keeps m s from to ∋ c →
      ((c ≡ 0) × (s ∋ 0) × ((j : ℕ) × (m.gap ∋ j) × (from ∋ j) × (to ∋ j))) ⊎ ((s ∋ c) × ((j : ℕ) × (get_or m.by c 0 ∋ j) × (from ∋ j) × (to ∋ suc j)))
  unfolding keeps
  keeps_of s from to c h =
      let n = bit_and (bit_and (stays m s) from) to in
      ⊎_elim
      (λ p.
      let r = moves_of m.by s (bit_and from (to / 2)) c p in
      let j = r.1.0 in
      let a = and_of from (to / 2) j r.1.2 in
      inr (r.0, (j, r.1.1, a.0, bit_suc to j ∙ a.1)))
      (λ p.
      let e = digit_only (sign n) c (sign_le n) p in
      let r = sign_of n e.1 in
      let a = and_of (bit_and (stays m s) from) to r.0 r.1 in
      let b = and_of (stays m s) from r.0 a.0 in
      let d = stays_of s r.0 b.0 in
      inl (e.0, d.0, (r.0, d.1, b.1, a.1)))
      (or_of (moves m.by s (bit_and from (to / 2))) (sign n) c h)

  -- ## What the cells keep

  -- every line that the machine accepts is kept
  pub kept_in : {sets : List ℕ} {line : List Colour} {j : ℕ} (from i : ℕ) → From sets line → Run m j line → from ∋ j → i < length sets → get_or (kept m from sets) i 0 ∋ get_or line i 0
  unfolding kept
  kept_in from i end r h l = absurd (omega arith)
  kept_in {j = j} from zero (cell {s = s} {sets = sets} p t) (stay g r) h l = keeps_stay s from (ends m sets) j p g h (ends_in t r)
  kept_in {j = j} from zero (cell {s = s} {c = c} {sets = sets} p t) (go g r) h l = keeps_go s from (ends m sets) c j p g h (ends_in t r)
  kept_in {j = j} from (suc i) (cell {s = s} {sets = sets} p t) (stay g r) h l = kept_in (after m s from) i t r (after_stay s from j p g h) (omega arith)
  kept_in {j = j} from (suc i) (cell {s = s} {c = c} {sets = sets} p t) (go g r) h l = kept_in (after m s from) i t r (after_go s from c j p g h) (omega arith)

  -- and what is kept has a line
  pub kept_of : (sets : List ℕ) (from i c : ℕ) → i < length sets → get_or (kept m from sets) i 0 ∋ c →
      (line : List Colour) × From sets line × (get_or line i 0 ≡ c) × ((j : ℕ) × (from ∋ j) × Run m j line)
  unfolding kept
  kept_of [] from i c l h = absurd (omega arith)
  kept_of (s ∷ sets) from zero c l h =
      ⊎_elim
      (λ w.
      let r = ends_of sets w.2.0 w.2.3 in
      (0 ∷ r.0, cell w.1 r.1, sym w.0, (w.2.0, w.2.2, stay w.2.1 r.2)))
      (λ w.
      let r = ends_of sets (suc w.1.0) w.1.3 in
      (c ∷ r.0, cell w.0 r.1, refl, (w.1.0, w.1.2, go w.1.1 r.2)))
      (keeps_of s from (ends m sets) c h)
  kept_of (s ∷ sets) from (suc i) c l h =
      let r = kept_of sets (after m s from) i c (omega arith) h in
      let w = after_of s from r.3.0 r.3.1 r.0 r.3.2 in
      (w.0 ∷ r.0, cell w.2 r.1, r.2, (w.1, w.3, w.4))

  pub kept_length : (from : ℕ) (sets : List ℕ) → length (kept m from sets) ≡ length sets
  unfolding kept
  kept_length from [] = refl
  kept_length from (s ∷ sets) = ap suc (kept_length (after m s from) sets)
