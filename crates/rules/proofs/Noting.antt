-- What probing notes: only the puzzle's colours, each with fewer newly solved cells than there are cells, so at most 255 of 256; and the largest number is no smaller than the smallest.
use mathlib.Core.Path.{◌≡◌, refl, sym, ap, subst, ◌∙◌}
use mathlib.Core.Logic.{inl, inr}
use mathlib.Core.Bool.{Bool, true, false, not, ◌&&◌}
use mathlib.Core.List.Memᴰ
use mathlib.Core.List.{List, [], ◌∷◌}
use mathlib.Core.Option.{Option, none, some}
use Prim.Native.Nat.{ℕ, suc, ◌^◌, ◌≤◌, ◌<◌}
use native.Mathlib.Omega.{arith}
use lib.ListN.{length, set, length-set, length-replicate}
use lib.Seq.{get_or-set_same, get_or-set_other}
use Rattle.rules.specs.Lists.{keep}
use Rattle.rules.specs.Loops.{Turn, more, stop, Holds}
use Rattle.rules.specs.Sets.{Colour, colours, single, empty, only}
use Rattle.rules.specs.Queues.{pop}
use Rattle.rules.specs.Boards.{Board, Cell, at, cells, put, remove_all, solved, newly, Puzzle}
use Rattle.rules.specs.Propagation.{propagate}
use Rattle.rules.specs.Floats.{higher}
use Rattle.rules.specs.Probing.{Run, CellQueue, Notes, no_notes, Probing, probing, Probed, contradiction, probed, contradicting, solving, assumed_all, push_both, assume, outcomes, new_round, cut, judge, probe_step, probe_measure, probe_unended, probe_on, probe}
use Rattle.rules.specs.Guesses.{largest, smallest, notes_at}
use Rattle.rules.proofs.Tests.{on_test, on_option, by_equal}
use Rattle.rules.proofs.Lists.{In, keep_few, keep_less, map_in, get_or-replicate_same, length_from, below}
use Rattle.rules.proofs.Loops.{run_ends}
use Rattle.rules.proofs.Sets.{member, member_low, only_single}
use Rattle.rules.proofs.InOrder.{waits_low}
use Rattle.rules.proofs.Narrowing.{◌⊑◌, ⊑_refl, ⊑_trans, sub_low, on_board, put_at, remove_all-sub}
use Rattle.rules.proofs.Propagation.{propagate_sub}
use Rattle.rules.proofs.Probing.{probe_falls}

-- ## The largest and the smallest number

pub largest_most : (m : ℕ) (l : List (Colour × ℕ)) → ((o : Colour × ℕ) → In o l → o.1 ≤ m) → largest l ≤ m
largest_most m [] f = omega arith
largest_most m (g ∷ l) f = let h = f g (Memᴰ.head refl) in let k = largest_most m l (λ o n. f o (Memᴰ.tail n)) in omega arith

pub smallest_least : (l : List (Colour × ℕ)) → smallest l ≤ largest l
smallest_least [] = omega arith
smallest_least (g ∷ []) = omega arith
smallest_least (g ∷ h ∷ l) = let k = smallest_least (h ∷ l) in omega arith

-- ## A round's notes

-- what is noted of a cell, with k colours and n cells
abbrev pub NotedAs : ℕ → ℕ → List (Colour × ℕ) → Type 0
NotedAs k n l = (o : Colour × ℕ) → In o l → (o.0 < suc k) × (o.1 < n)

pub record Noted (k n : ℕ) (ns : Notes) : Type 0 where
  pub long : length ns ≡ n
  pub each : (c : Cell) (l : List (Colour × ℕ)) → notes_at ns c ≡ some l → NotedAs k n l

pub no_notes-noted : (k : ℕ) (b : Board) → Noted k (length b) (no_notes b)
no_notes-noted k b = record {
  long = length-replicate (length b) none;
  each = λ c l e. absurd (let never : notes_at (no_notes b) c ≡ none = get_or-replicate_same (length b) c none in let z : ◌≡◌ {A = ℕ} 0 1 = cc in omega arith);
}

-- one more cell is noted
pub set_noted : (k n : ℕ) (ns : Notes) (c : Cell) (l : List (Colour × ℕ)) → Noted k n ns → NotedAs k n l → Noted k n (set ns c (some l))
set_noted k n ns c l i h = record { long = length-set ns c (some l) ∙ i.long; each = each }
  where
    each : (e : Cell) (r : List (Colour × ℕ)) → notes_at (set ns c (some l)) e ≡ some r → NotedAs k n r
    each e r u = by_equal e c
        (λ q. let on : c < length ns = (let w = waits_low (set ns c (some l)) e r u in let v = length-set ns c (some l) in omega arith) in
        let here : some l ≡ some r = sym (get_or-set_same ns c (some l) none on) ∙ ap (λ y. notes_at (set ns c (some l)) y) (sym q) ∙ u in
        let s : l ≡ r = cc in subst (NotedAs k n) s h)
        (λ q. i.each e r (sym (get_or-set_other ns c e (some l) none q) ∙ u))

-- the rate is asked of numbers up to 255, the smallest no larger than the largest, where there are at most 256 cells
pub noted_rate : {k n : ℕ} {ns : Notes} (c : Cell) (l : List (Colour × ℕ)) → Noted k n ns → n ≤ 256 → notes_at ns c ≡ some l → (largest l ≤ 255) × (smallest l ≤ largest l)
noted_rate c l i h e = (largest_most 255 l (λ o m. let r = i.each c l e o m in omega (arith, r.1)), smallest_least l)

-- ## The numbers of newly solved cells

solving_in : (os : List (Colour × Option ℕ)) {o : Colour × ℕ} → In o (solving os) → In (o.0, some o.1) os
solving_in [] m = absurd (Memᴰ.not-nil m)
solving_in (p ∷ os) {o} m = go p.1 refl m (λ k. solving_in os k)
  where
    go : (v : Option ℕ) → p.1 ≡ v → In o (elim v [ none ↦ solving os | some n ↦ (p.0, n) ∷ solving os ]) → (In o (solving os) → In (o.0, some o.1) os) → In (o.0, some o.1) (p ∷ os)
    go none e k ih = Memᴰ.tail (ih k)
    go (some n) e k ih = elim (Memᴰ.cases_cons k) [
      | inl q ↦ Memᴰ.head (λ i. ((q i).0, (ap (λ (y : Colour × ℕ). some y.1) q ∙ sym e) i))
      | inr j ↦ Memᴰ.tail (ih j)
    ]

-- the cell that a colour is assumed in is solved at the start
pub newly_fewer : (b e : Board) (c : Cell) (x : Colour) → c < length b → x < 8 → length (newly (put b c x) e) < length b
unfolding newly put
newly_fewer b e c x h l =
    let a = put b c x in
    let long : length a ≡ length b = length-set b c (only x) in
    let test : Cell → Bool = λ y. not (single (at a y)) && single (at e y) in
    let solved_here : test c ≡ false = ap (λ s. not (single s) && single (at e c)) (put_at b c x h) ∙ ap (λ v. not v && single (at e c)) (only_single x l) in
    let fewer : length (keep test (cells a)) < length (keep (λ _. true) (cells a)) = keep_less test (λ _. true) (cells a) (λ _ _ _. refl) (below (length a) c (omega arith)) solved_here refl in
    let most = keep_few (λ (_ : Cell). true) (cells a) in
    let count = length_from 0 (length a) in
    omega arith

module _ (z : Puzzle) where
  assume_fewer : (b : Board) (c : Cell) (x : Colour) (m : ℕ) → c < length b → x < 8 → assume z b c x ≡ some m → m < length b
  assume_fewer b c x m h l e = go (propagate z (put b c x) c) e
    where
      go : (v : Option Board) → ◌≡◌ {A = Option ℕ} (elim v [ none ↦ none | some a ↦ some (length (newly (put b c x) a)) ]) (some m) → m < length b
      go none u = absurd (let y : ◌≡◌ {A = ℕ} 0 1 = cc in omega arith)
      go (some a) u = let y : length (newly (put b c x) a) ≡ m = cc in let k = newly_fewer b a c x h l in omega arith

  -- a cell's colours that do not contradict
  pub solving_noted : (k : ℕ) (b : Board) (c : Cell) → at b c < 2 ^ suc k → NotedAs k (length b) (solving (outcomes z b c))
  unfolding outcomes
  solving_noted k b c low o m =
      let r = map_in (λ x. (x, assume z b c x)) (colours (at b c)) (solving_in (outcomes z b c) m) in
      let q = member 8 (at b c) r.1 in
      let e : o.0 ≡ r.0 = ap (λ (y : Colour × Option ℕ). y.0) r.2 in
      let n : assume z b c r.0 ≡ some o.1 = ap (λ (y : Colour × Option ℕ). y.1) (sym r.2) in (
        subst (λ x. x < suc k) (sym e) (member_low (suc k) (at b c) r.0 low q.1),
        assume_fewer b c r.0 o.1 (on_board b c r.0 q.1) q.0 n,
      )

  -- ## A run of probing

  abbrev pub ProbedNoted : ℕ → ℕ → Probed → Type 0
  ProbedNoted k n (contradiction s) = Unit {0}
  ProbedNoted k n (probed b ns s) = Noted k n ns

  module _ (k : ℕ) (b₀ : Board) (low : (c : Cell) → at b₀ c < 2 ^ suc k) where
    n : ℕ
    n = length b₀

    abbrev ProbingNoted : Probing → Type 0
    ProbingNoted (probing b q ns s) = (b ⊑ b₀) × Noted k n ns

    TurnNoted : Turn Probing Probed → Type 0
    TurnNoted = Holds ProbingNoted (ProbedNoted k n)

    fresh_notes : (b : Board) → b ⊑ b₀ → Noted k n (no_notes b)
    unfolding n
    fresh_notes b h = subst (λ m. Noted k m (no_notes b)) h.long (no_notes-noted k b)

    round_notes : (b : Board) (q : CellQueue) (s : Run) → b ⊑ b₀ → TurnNoted (new_round b q s)
    unfolding TurnNoted
    round_notes b q s h = on_test TurnNoted (solved b) (λ _. fresh_notes b h) (λ _. (h, fresh_notes b h))

    cut_notes : (b : Board) (c : Cell) (q : CellQueue) (s : Run) → b ⊑ b₀ → (v : Option Board) → propagate z b c ≡ v → TurnNoted (cut z b c q s v)
    unfolding TurnNoted
    cut_notes b c q s h none e = tt
    cut_notes b c q s h (some a) e = round_notes a (push_both z a c (newly b a) q) s (⊑_trans (propagate_sub z a b c e) h)

    judge_notes : (b : Board) (c : Cell) (q : CellQueue) (ns : Notes) (s : Run) (good : List (Colour × ℕ)) (xs : List Colour) → b ⊑ b₀ → Noted k n ns → NotedAs k n good → TurnNoted (judge z b c q ns s good xs)
    unfolding TurnNoted
    judge_notes b c q ns s good [] h i g = (h, set_noted k n ns c good i g)
    judge_notes b c q ns s good (x ∷ xs) h i g =
        let a = remove_all b c (x ∷ xs) in
        on_test TurnNoted (empty (at a c)) (λ _. tt) (λ _. cut_notes a c q s (⊑_trans (remove_all-sub b c (x ∷ xs)) h) (propagate z a c) refl)

    step_notes : (t : Probing) → ProbingNoted t → TurnNoted (probe_step z t)
    unfolding TurnNoted n
    step_notes (probing b q ns s) i = on_option TurnNoted (pop higher q) (λ _. i.1)
        (λ e _. judge_notes b e.0 e.1 ns (assumed_all e.0 (colours (at b e.0)) s) (solving (outcomes z b e.0)) (contradicting (outcomes z b e.0)) i.0 i.1
        (subst (λ m. NotedAs k m (solving (outcomes z b e.0))) i.0.long (solving_noted k b e.0 (sub_low e.0 (2 ^ suc k) i.0 (low e.0)))))

    -- PROBING NOTES WELL
    pub probe_noted : (q : CellQueue) (s : Run) → ProbedNoted k (length b₀) (probe z b₀ q s)
    unfolding probe probe_on TurnNoted n
    probe_noted q s = go (new_round b₀ q s) (round_notes b₀ q s (⊑_refl b₀))
      where
        go : (t : Turn Probing Probed) → TurnNoted t → ProbedNoted k (length b₀) (elim t [ stop r ↦ r | more u ↦ probe_on z u ])
        go (stop r) h = h
        go (more u) h = run_ends (probe_step z) probe_measure (probe_falls z) ProbingNoted (ProbedNoted k n) step_notes probe_unended u h
