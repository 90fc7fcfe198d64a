-- Probing ends by itself, narrows the board, and only adds events to a run.
use mathlib.Core.Path.{◌≡◌, refl, sym, ap, subst, ◌∙◌}
use mathlib.Core.Logic.{inl, inr}
use mathlib.Core.Bool.{true}
use mathlib.Core.List.Memᴰ
use mathlib.Core.List.{List, [], ◌∷◌, ◌++◌, map}
use mathlib.Core.Option.{Option, none, some}
use Prim.Native.Nat.{ℕ, suc, ◌+◌, ◌*◌, ◌≤◌, ◌<◌}
use native.Mathlib.Nat.{mul-le-mul_right}
use native.Mathlib.Omega.{arith}
use lib.ListN.{length, length-set}
use lib.Ieee.{Float}
use Rattle.rules.specs.Lists.{joined}
use Rattle.rules.specs.Loops.{Turn, more, stop, Holds, Falls}
use Rattle.rules.specs.Sets.{Colour, has, colours, empty}
use Rattle.rules.specs.Queues.{push, waiting, pop}
use Rattle.rules.specs.Boards.{Board, Cell, at, put, remove_all, solved, size, newly, Puzzle, around}
use Rattle.rules.specs.Propagation.{propagate}
use Rattle.rules.specs.Floats.{float, higher}
use Rattle.rules.specs.Probing.{assumed, Run, steps, event, CellQueue, push_all, Notes, Probing, probing, Probed, contradiction, probed, contradicting, solving, assumed_all, push_around, push_both, assume, outcomes, new_round, cut, judge, probe_step, probe_measure, probe_unended, probe_on, probe}
use Rattle.rules.proofs.Tests.{on_test, on_option}
use Rattle.rules.proofs.Lists.{In, map_in}
use Rattle.rules.proofs.Loops.{run_is, run_ends}
use Rattle.rules.proofs.Sets.{member}
use Rattle.rules.proofs.Queues.{Popped, pop_some, pop_long, pop_fewer, waiting_few}
use Rattle.rules.proofs.Narrowing.{◌⊑◌, ⊑_refl, ⊑_trans, sub_size, remove_all-sub, remove_all-size}
use Rattle.rules.proofs.Propagation.{propagate_sub}

-- ## The queue

pub push_all-long : (cs : List Cell) (p : Float) (q : CellQueue) → length (push_all cs p q) ≡ length q
unfolding push_all push
push_all-long [] p q = refl
push_all-long (c ∷ cs) p q = push_all-long cs p (push c p q) ∙ length-set q c (some p)

pub push_all-append : (cs es : List Cell) (p : Float) (q : CellQueue) → push_all (cs ++ es) p q ≡ push_all es p (push_all cs p q)
unfolding push_all
push_all-append [] es p q = refl
push_all-append (c ∷ cs) es p q = push_all-append cs es p (push c p q)

-- ## Contradicting colours

pub contradicting_in : (os : List (Colour × Option ℕ)) {x : Colour} → In x (contradicting os) → In (x, none) os
contradicting_in [] m = absurd (Memᴰ.not-nil m)
contradicting_in (o ∷ os) {x} m = go o.1 refl m (λ k. contradicting_in os k)
  where
    go : (v : Option ℕ) → o.1 ≡ v → In x (elim v [ none ↦ o.0 ∷ contradicting os | some n ↦ contradicting os ]) → (In x (contradicting os) → In (x, none) os) → In (x, none) (o ∷ os)
    go none e k ih = elim (Memᴰ.cases_cons k) [ inl q ↦ Memᴰ.head (λ i. (q i, sym e i)) | inr n ↦ Memᴰ.tail (ih n) ]
    go (some n) e k ih = Memᴰ.tail (ih k)

-- ## What a run of probing leaves of a run: only events are added
pub record Quiet (s t : Run) : Type 0 where
  pub stored_same : t.stored ≡ s.stored
  pub limit_same : t.limit ≡ s.limit
  pub deepest_same : t.deepest ≡ s.deepest
  pub steps_up : steps s ≤ steps t

pub quiet_refl : (s : Run) → Quiet s s
quiet_refl s = record { stored_same = refl; limit_same = refl; deepest_same = refl; steps_up = omega arith }

pub quiet_trans : {s t u : Run} → Quiet s t → Quiet t u → Quiet s u
quiet_trans p q = record
    { stored_same = q.stored_same ∙ p.stored_same; limit_same = q.limit_same ∙ p.limit_same; deepest_same = q.deepest_same ∙ p.deepest_same; steps_up = omega arith }

pub assumed_all-quiet : (c : Cell) (xs : List Colour) (s : Run) → Quiet s (assumed_all c xs s)
unfolding assumed_all
assumed_all-quiet c [] s = quiet_refl s
assumed_all-quiet c (x ∷ xs) s = quiet_trans {t = event (assumed c x) s}
    (record { stored_same = refl; limit_same = refl; deepest_same = refl; steps_up = omega arith }) (assumed_all-quiet c xs (event (assumed c x) s))

module _ (z : Puzzle) where
  pub push_around-long : (b : Board) (cs : List Cell) (p : Float) (q : CellQueue) → length (push_around z b cs p q) ≡ length q
  unfolding push_around
  push_around-long b [] p q = refl
  push_around-long b (c ∷ cs) p q = push_around-long b cs p (push_all (around z b c) p q) ∙ push_all-long (around z b c) p q

  pub push_both-long : (b : Board) (c : Cell) (new : List Cell) (q : CellQueue) → length (push_both z b c new q) ≡ length q
  push_both-long b c new q = push_around-long b (c ∷ []) (float 20) (push_around z b new (float 10) q) ∙ push_around-long b new (float 10) q

  -- all that is pushed, one after the other
  pub push_around-joined : (b : Board) (cs : List Cell) (p : Float) (q : CellQueue) → push_around z b cs p q ≡ push_all (joined (map (around z b) cs)) p q
  unfolding push_around push_all
  push_around-joined b [] p q = refl
  push_around-joined b (c ∷ cs) p q = push_around-joined b cs p (push_all (around z b c) p q) ∙ sym (push_all-append (around z b c) (joined (map (around z b) cs)) p q)

  assume_none : (b : Board) (c : Cell) (x : Colour) → assume z b c x ≡ none → propagate z (put b c x) c ≡ none
  assume_none b c x e = go (propagate z (put b c x) c) e
    where
      go : (v : Option Board) → ◌≡◌ {A = Option ℕ} (elim v [ none ↦ none | some e ↦ some (length (newly (put b c x) e)) ]) none → v ≡ none
      go none h = refl
      go (some a) h = absurd (let z : ◌≡◌ {A = ℕ} 0 1 = cc in omega arith)

  -- a colour that contradicts is a colour of the cell, and assuming it comes to a contradiction
  pub contradicts : (b : Board) (c : Cell) {x : Colour} → In x (contradicting (outcomes z b c)) → (x < 8) × (has (at b c) x ≡ true) × (propagate z (put b c x) c ≡ none)
  unfolding outcomes
  contradicts b c {x} m =
      let r = map_in (λ x. (x, assume z b c x)) (colours (at b c)) (contradicting_in (outcomes z b c) m) in
      let k = member 8 (at b c) r.1 in
      let e : x ≡ r.0 = ap (λ o. o.0) r.2 in
      let n : none ≡ assume z b c r.0 = ap (λ o. o.1) r.2 in (
        subst (λ y. y < 8) (sym e) k.0,
        subst (λ y. has (at b c) y ≡ true) (sym e) k.1,
        subst (λ y. propagate z (put b c y) c ≡ none) (sym e) (assume_none b c r.0 (sym n)),
      )

  -- ## The loop ends

  heavier : (m n w k l : ℕ) → m < n → k < w + l → m * w + k < n * w + l
  heavier m n w k l h g = let q : suc m * w ≤ n * w = mul-le-mul_right w h in omega arith

  Smaller : ℕ → Turn Probing Probed → Type 0
  Smaller m = Holds (λ t. probe_measure t < m) (λ r. Unit {0})

  round_smaller : (a : Board) (q : CellQueue) (s : Run) (m : ℕ) → size a * suc (length q) + waiting q < m → Smaller m (new_round a q s)
  unfolding Smaller
  round_smaller a q s m h = on_test (Smaller m) (solved a) (λ _. tt) (λ _. h)

  cut_smaller : (a b : Board) (c : Cell) (q r : CellQueue) (ns : Notes) (s : Run) → length r ≡ length q → size a < size b → (v : Option Board) → propagate z a c ≡ v →
      Smaller (probe_measure (probing b q ns s)) (cut z a c r s v)
  unfolding Smaller
  cut_smaller a b c q r ns s l h none e = tt
  cut_smaller a b c q r ns s l h (some f) e =
      let p = push_both z f c (newly a f) r in
      let lp : length p ≡ length q = push_both-long f c (newly a f) r ∙ l in
      let k : size f ≤ size a = sub_size f a (propagate_sub z f a c e) in
      round_smaller f p s (size b * suc (length q) + waiting q)
      (rw lp (heavier (size f) (size b) (suc (length q)) (waiting p) (waiting q) (omega arith) (omega (arith, waiting_few p))))

  judge_smaller : (b : Board) (c : Cell) (q r : CellQueue) (ns : Notes) (s : Run) (good : List (Colour × ℕ)) (xs : List Colour) → Popped q c r →
      ((x : Colour) → In x xs → has (at b c) x ≡ true) → Smaller (probe_measure (probing b q ns s)) (judge z b c r ns s good xs)
  unfolding Smaller
  judge_smaller b c q r ns s good [] p f = let l = pop_long q c r p in rw l (omega (arith, pop_fewer q c r p))
  judge_smaller b c q r ns s good (x ∷ xs) p f =
      let a = remove_all b c (x ∷ xs) in
      let k = f x (Memᴰ.head refl) in
      on_test (Smaller (probe_measure (probing b q ns s))) (empty (at a c)) (λ _. tt)
      (λ _. cut_smaller a b c q r ns s (pop_long q c r p) (remove_all-size b c x xs k) (propagate z a c) refl)

  -- PROBING ENDS
  pub probe_falls : Falls (probe_step z) probe_measure
  unfolding Smaller
  probe_falls (probing b q ns s) = on_option (Smaller (probe_measure (probing b q ns s))) (pop higher q) (λ _. tt)
      (λ e h. judge_smaller b e.0 q e.1 ns (assumed_all e.0 (colours (at b e.0)) s) (solving (outcomes z b e.0)) (contradicting (outcomes z b e.0))
      (pop_some higher q e.0 e.1 h) (λ x m. (contradicts b e.0 m).1))

  -- the equation that determines it
  pub probe_turn : (t : Probing) → probe_on z t ≡ (elim (probe_step z t) as (λ _. Probed) [ more u ↦ probe_on z u | stop r ↦ r ])
  unfolding probe_on
  probe_turn t = run_is (probe_step z) probe_measure probe_falls probe_unended t

  -- ## Probing narrows, and only adds events

  abbrev pub ProbedBelow : Board → Run → Probed → Type 0
  ProbedBelow b₀ s₀ (contradiction s) = Quiet s₀ s
  ProbedBelow b₀ s₀ (probed b ns s) = (b ⊑ b₀) × Quiet s₀ s

  module _ (b₀ : Board) (s₀ : Run) where
    abbrev ProbingBelow : Probing → Type 0
    ProbingBelow (probing b q ns s) = (b ⊑ b₀) × Quiet s₀ s

    Below : Turn Probing Probed → Type 0
    Below = Holds ProbingBelow (ProbedBelow b₀ s₀)

    round_below : (b : Board) (q : CellQueue) (s : Run) → b ⊑ b₀ → Quiet s₀ s → Below (new_round b q s)
    unfolding Below
    round_below b q s h k = on_test Below (solved b) (λ _. (h, k)) (λ _. (h, k))

    cut_below : (b : Board) (c : Cell) (q : CellQueue) (s : Run) → b ⊑ b₀ → Quiet s₀ s → (v : Option Board) → propagate z b c ≡ v → Below (cut z b c q s v)
    unfolding Below
    cut_below b c q s h k none e = k
    cut_below b c q s h k (some a) e = round_below a (push_both z a c (newly b a) q) s (⊑_trans (propagate_sub z a b c e) h) k

    judge_below : (b : Board) (c : Cell) (q : CellQueue) (ns : Notes) (s : Run) (good : List (Colour × ℕ)) (xs : List Colour) → b ⊑ b₀ → Quiet s₀ s → Below (judge z b c q ns s good xs)
    unfolding Below
    judge_below b c q ns s good [] h k = (h, k)
    judge_below b c q ns s good (x ∷ xs) h k =
        let a = remove_all b c (x ∷ xs) in
        on_test Below (empty (at a c)) (λ _. k) (λ _. cut_below a c q s (⊑_trans (remove_all-sub b c (x ∷ xs)) h) k (propagate z a c) refl)

    step_below : (t : Probing) → ProbingBelow t → Below (probe_step z t)
    unfolding Below
    step_below (probing b q ns s) h = on_option Below (pop higher q) (λ _. h)
        (λ e _. judge_below b e.0 e.1 ns (assumed_all e.0 (colours (at b e.0)) s) (solving (outcomes z b e.0)) (contradicting (outcomes z b e.0))
        h.0 (quiet_trans h.1 (assumed_all-quiet e.0 (colours (at b e.0)) s)))

  pub probe_below : (b : Board) (q : CellQueue) (s : Run) → ProbedBelow b s (probe z b q s)
  unfolding probe probe_on Below
  probe_below b q s = go (new_round b q s) (round_below b s b q s (⊑_refl b) (quiet_refl s))
    where
      go : (t : Turn Probing Probed) → Holds (ProbingBelow b s) (ProbedBelow b s) t → ProbedBelow b s (elim t [ stop r ↦ r | more u ↦ probe_on z u ])
      go (stop r) h = h
      go (more u) h = run_ends (probe_step z) probe_measure probe_falls (ProbingBelow b s) (ProbedBelow b s) (step_below b s) probe_unended u h
