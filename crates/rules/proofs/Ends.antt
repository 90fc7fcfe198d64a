-- The loops of a node end by themselves, and so nothing in the rules is cut short: `propagate_falls`, `probe_falls`, `pass_falls`, `spent_falls`, and `depth_any` for the depth that is left.
use mathlib.Core.Path.{◌≡◌, refl, sym, ap, subst, ◌∙◌}
use mathlib.Core.Logic.{◌⊎◌, inl, inr}
use mathlib.Core.Bool.{Bool, true, false, not, ◌||◌, false≢true}
use mathlib.Core.List.Memᴰ
use mathlib.Core.List.{List, [], ◌∷◌, map}
use Prim.Native.Nat.{ℕ, zero, suc, ◌+◌, ◌*◌, ◌≤◌, ◌<◌}
use native.Mathlib.Omega.{arith}
use lib.ListN.{length}
use lib.Dec.{eqb, ltb, leb}
use borrow.Author.Tests.{eqb-true, eq-eqb, lt-ltb, not-true}
use Rattle.rules.specs.Lists.{every}
use Rattle.rules.specs.Loops.{Turn, more, stop, Holds, Falls}
use Rattle.rules.specs.Sets.{Colour, has, colours, single, empty}
use Rattle.rules.specs.Boards.{Board, Cell, at, cells, remove, solved, size, Puzzle}
use Rattle.rules.specs.Propagation.{check}
use Rattle.rules.specs.Probing.{Run, steps, start_queue, Probed, contradiction, probed, probe}
use Rattle.rules.specs.Guesses.{Guess, guess}
use Rattle.rules.specs.Search.{Limits, dead, not_dead, Left, left, Tried, tried, Node, node, Spent, spent, Pass, over, ran_out, deeper, note, same_guess, among, others, closed, any_closed, first_unsolved, met, probed_node, lone, after_guess, pass_step, pass_measure, pass_unended, pass, again, spent_step, spent_measure, spent_unended, refill, node_from, try_guess, search}
use Rattle.rules.proofs.Tests.{on_test, on_number, by_test, clash, and_true, or_false}
use Rattle.rules.proofs.Lists.{In, any_out, any_in, every_out, every_in, not_every, first_found, in_map, map_in, in-get_or, below}
use Rattle.rules.proofs.Loops.{run_is, run_ends}
use Rattle.rules.proofs.Sets.{member, colours_few}
use Rattle.rules.proofs.Narrowing.{sub_size, remove_size}
use Rattle.rules.proofs.Probing.{ProbedBelow, probe_below}

-- ## Guesses

pub among_in : (g : Guess) (gs : List Guess) → In g gs → among g gs ≡ true
unfolding among
among_in (guess c x) gs m = any_in (same_guess (guess c x)) gs m (rw (eq-eqb c c refl, eq-eqb x x refl))

same_guess_lem : (g h : Guess) → same_guess g h ≡ true → g ≡ h
same_guess_lem (guess c x) (guess e y) h = let r = and_true (eqb c e) (eqb x y) h in let p = eqb-true c e r.0 in let q = eqb-true x y r.1 in cc

pub among_out : (g : Guess) (gs : List Guess) → among g gs ≡ true → In g gs
unfolding among
among_out g gs e = let r = any_out (same_guess g) gs e in subst (λ h. In h gs) (sym (same_guess_lem g r.0 r.2)) r.1

others_few : (c : Cell) (x : Colour) (ys : List Colour) (gs : List Guess) → length (others c x ys gs) ≤ length ys + length gs
unfolding others
others_few c x [] gs = omega arith
others_few c x (y ∷ ys) gs =
    let n = elim (eqb y x || among (guess c y) gs) as (λ _. List Guess) [ true ↦ gs | false ↦ guess c y ∷ gs ] in
    let ih = others_few c x ys n in
    let k : length n ≤ suc (length gs) = on_test (λ (r : List Guess). length r ≤ suc (length gs)) (eqb y x || among (guess c y) gs) {a = gs} {b = guess c y ∷ gs} (λ h. omega arith) (λ h. omega arith) in
    omega arith

-- a cell all of whose colours were guessed is closed, and a closed cell is so
pub closed_here : (b : Board) (made : List Guess) (c : Cell) → In c (cells b) → ((x : Colour) → In x (colours (at b c)) → In (guess c x) made) → any_closed b made ≡ true
unfolding any_closed closed
closed_here b made c m f = any_in (closed b made) (cells b) m (every_in (λ x. among (guess c x) made) (colours (at b c)) (λ x n. among_in (guess c x) made (f x n)))

pub closed_out : (b : Board) (made : List Guess) → any_closed b made ≡ true → (c : Cell) × In c (cells b) × ((x : Colour) → In x (colours (at b c)) → In (guess c x) made)
unfolding any_closed closed
closed_out b made e = let r = any_out (closed b made) (cells b) e in
    (r.0, r.1, λ x n. among_out (guess r.0 x) made (every_out (λ y. among (guess r.0 y) made) (colours (at b r.0)) r.2 n))

-- an unsolved board has an unsolved cell
cells_solved : (b : Board) → every (λ c. single (at b c)) (cells b) ≡ true → solved b ≡ true
unfolding solved
cells_solved b e = every_in single b (λ s m. let r = in-get_or b 0 m in ap single r.2 ∙ every_out (λ c. single (at b c)) (cells b) e (below (length b) r.0 r.1))

pub open_first : (b : Board) → solved b ≡ false → (c : Cell) × In c (cells b) × (single (at b c) ≡ false) × (first_unsolved b ≡ map (guess c) (colours (at b c)))
unfolding first_unsolved
open_first b e =
    let n : every (λ c. single (at b c)) (cells b) ≡ false = by_test (every (λ c. single (at b c)) (cells b)) (λ h. clash (cells_solved b h) e) (λ h. h) in
    let r = first_found (λ c. not (single (at b c))) (cells b) (not_every (λ c. single (at b c)) (cells b) n) in
    (r.0, r.2, not-true (single (at b r.0)) r.3, rw (r.1, first_unsolved))

module _ (z : Puzzle) (l : Limits) (try : Board → Cell → Colour → Run → Tried) (d : ℕ) where
  -- ## A pass over the guesses that wait

  Smaller : ℕ → Turn Node Pass → Type 0
  Smaller m = Holds (λ t. pass_measure t < m) (λ r. Unit {0})

  probed_smaller : (next : Board → List Guess) (made : List Guess) (b : Board) (m : ℕ) (s : Run) →
      ((a : Board) → size a ≤ size b → size a * 9 + length (next a) < m) → (r : Probed) → ProbedBelow z b s r → Smaller m (probed_node z l try d next made b r)
  unfolding Smaller
  probed_smaller next made b m s f (contradiction t) h = tt
  probed_smaller next made b m s f (probed a ns t) h = on_test (Smaller m) (solved a)
      (λ _. on_test (Smaller m) (check z a) (λ _. tt) (λ _. tt))
      (λ _. f a (sub_size a b h.0))

  pub pass_falls : Falls (pass_step z l try d) pass_measure
  unfolding Smaller
  pass_falls (node b [] p made s) = tt
  pass_falls (node b (guess c x ∷ gs) p made s) =
      on_number (Smaller M) (met z l s d)
      (λ _. on_test (Smaller M) (has (at b c) x)
      (λ h. on_test (Smaller M) (single (at b c)) (λ _. alone p) (λ _. after h (try b c x s)))
      (λ _. omega arith))
      (λ m _. tt)
    where
      M : ℕ
      M = size b * 9 + suc (length gs)

      alone : (q : Bool) → Smaller M (lone z l try d b gs q made s)
      alone true = omega arith
      alone false = probed_smaller (λ a. gs) made b M s (λ a h. omega arith) (probe z b (start_queue z b) s) (probe_below z b (start_queue z b) s)

      after : has (at b c) x ≡ true → (t : Tried) → Smaller M (after_guess z l try d b c x gs p made t)
      after h (tried not_dead t) = omega arith
      after h (tried dead t) = let a = remove b c x in on_test (Smaller M) (empty (at a c)) (λ _. tt)
          (λ _. probed_smaller (λ e. others c x (colours (at e c)) gs) made a M t
          (λ e k. let q = remove_size b c x h in let o = others_few c x (colours (at e c)) gs in let f = colours_few (at e c) in omega arith)
          (probe z a (start_queue z a) t) (probe_below z a (start_queue z a) t))

  -- the equation that determines a pass
  pub pass_turn : (t : Node) → pass z l try d t ≡ (elim (pass_step z l try d t) as (λ _. Pass) [ more u ↦ pass z l try d u | stop r ↦ r ])
  unfolding pass
  pass_turn t = run_is (pass_step z l try d) pass_measure pass_falls pass_unended t

  -- ## M3: a pass over all colours of an unsolved cell takes a colour from the board, or closes the cell

  module _ (b₀ : Board) (c₀ : Cell) (wide : single (at b₀ c₀) ≡ false) where
    -- every colour of the cell was guessed and not dead, or waits, and nothing else waits
    record Closing (b : Board) (gs made : List Guess) : Type 0 where
      same : b ≡ b₀
      each : (x : Colour) → In x (colours (at b₀ c₀)) → In (guess c₀ x) made ⊎ In (guess c₀ x) gs
      mine : (h : Guess) → In h gs → (x : Colour) × (h ≡ guess c₀ x)

    abbrev Nearer : Node → Type 0
    Nearer (node b gs p made s) = (size b < size b₀) ⊎ Closing b gs made

    abbrev Closer : Pass → Type 0
    Closer (over e) = Unit {0}
    Closer (ran_out (spent b p made s)) = (size b < size b₀) ⊎ Closing b [] made

    Near : Turn Node Pass → Type 0
    Near = Holds Nearer Closer

    probed_near : (next : Board → List Guess) (made : List Guess) (b : Board) (s : Run) → size b < size b₀ → (r : Probed) → ProbedBelow z b s r → Near (probed_node z l try d next made b r)
    unfolding Near
    probed_near next made b s k (contradiction t) h = tt
    probed_near next made b s k (probed a ns t) h = on_test Near (solved a)
        (λ _. on_test Near (check z a) (λ _. tt) (λ _. tt))
        (λ _. let q : size a ≤ size b = sub_size a b h.0 in inl (omega arith))

    step_near : (t : Node) → Nearer t → Near (pass_step z l try d t)
    unfolding Near
    step_near (node b [] p made s) i = i
    step_near (node b (guess c x ∷ gs) p made s) i =
        on_number Near (met z l s d)
        (λ _. on_test Near (has (at b c) x)
        (λ h. on_test Near (single (at b c)) (λ u. alone u p i) (λ u. after h (try b c x s) i))
        (λ h. gone h i))
        (λ m _. tt)
      where
        gone : has (at b c) x ≡ false → Nearer (node b (guess c x ∷ gs) p made s) → Nearer (node b gs p made s)
        gone h (inl k) = inl k
        gone h (inr k) = inr (record {
          same = k.same;
          mine = λ g m. k.mine g (Memᴰ.tail m);
          each = λ y m. elim (k.each y m) [
            | inl r ↦ inl r
            | inr r ↦ elim (Memᴰ.cases_cons r)
                [ inl q ↦ clash (member 8 (at b₀ c₀) m).1 (miss y k.same q) | inr n ↦ inr n ]
          ];
        })
          where
            miss : (y : Colour) → b ≡ b₀ → guess c₀ y ≡ guess c x → has (at b₀ c₀) y ≡ false
            miss y e q = let u : c₀ ≡ c = cc in let v : y ≡ x = cc in rw (← e, u, v) h

        alone : single (at b c) ≡ true → (q : Bool) → Nearer (node b (guess c x ∷ gs) p made s) → Near (lone z l try d b gs q made s)
        alone u q (inr k) = clash u several
          where
            several : single (at b c) ≡ false
            several = let r = k.mine (guess c x) (Memᴰ.head refl) in let e = k.same in let o = r.1 in let n : c ≡ c₀ = cc in rw (e, n) wide
        alone u true (inl k) = inl k
        alone u false (inl k) = probed_near (λ e. gs) made b s k (probe z b (start_queue z b) s) (probe_below z b (start_queue z b) s)

        small : has (at b c) x ≡ true → Nearer (node b (guess c x ∷ gs) p made s) → size (remove b c x) < size b₀
        small h (inl k) = let q = remove_size b c x h in omega arith
        small h (inr k) = let q = remove_size b c x h in let e : size b ≡ size b₀ = ap size k.same in omega arith

        guessed_on : Nearer (node b (guess c x ∷ gs) p made s) → Nearer (node b gs p (guess c x ∷ made) s)
        guessed_on (inl k) = inl k
        guessed_on (inr k) = inr (record {
          same = k.same;
          mine = λ g m. k.mine g (Memᴰ.tail m);
          each = λ y m. elim (k.each y m)
              [ inl r ↦ inl (Memᴰ.tail r) | inr r ↦ elim (Memᴰ.cases_cons r) [ inl q ↦ inl (Memᴰ.head q) | inr n ↦ inr n ] ];
        })

        after : has (at b c) x ≡ true → (t : Tried) → Nearer (node b (guess c x ∷ gs) p made s) → Near (after_guess z l try d b c x gs p made t)
        after h (tried not_dead t) k = guessed_on k
        after h (tried dead t) k = let a = remove b c x in on_test Near (empty (at a c)) (λ _. tt)
            (λ _. probed_near (λ e. others c x (colours (at e c)) gs) made a t (small h k) (probe z a (start_queue z a) t) (probe_below z a (start_queue z a) t))

    pass_closer : (t : Node) → Nearer t → Closer (pass z l try d t)
    unfolding pass Near
    pass_closer t i = run_ends (pass_step z l try d) pass_measure pass_falls Nearer Closer step_near pass_unended t i

  SmallerSpent : ℕ → Turn Spent Left → Type 0
  SmallerSpent m = Holds (λ t. spent_measure t < m) (λ r. Unit {0})

  again_smaller : (b₀ : Board) (c₀ : Cell) (w : single (at b₀ c₀) ≡ false) → In c₀ (cells b₀) → (r : Pass) → Closer b₀ c₀ w r → SmallerSpent (size b₀ * 2 + 1) (again r)
  unfolding SmallerSpent
  again_smaller b₀ c₀ w m (over e) i = tt
  again_smaller b₀ c₀ w m (ran_out (spent b p made s)) (inl k) = on_test (λ n. size b * 2 + n < size b₀ * 2 + 1) (any_closed b made) (λ _. omega arith) (λ _. omega arith)
  again_smaller b₀ c₀ w m (ran_out (spent b p made s)) (inr k) =
      let e : b ≡ b₀ = k.same in
      let h : any_closed b₀ made ≡ true = closed_here b₀ made c₀ m (λ x n. elim (k.each x n) [ inl r ↦ r | inr r ↦ absurd (Memᴰ.not-nil r) ]) in
      rw (e, h) (omega arith)

  pub spent_falls : Falls (spent_step z l try d) spent_measure
  unfolding SmallerSpent
  spent_falls (spent b p made s) = on_number (SmallerSpent M) (met z l s d)
      (λ _. on_test (SmallerSpent M) (solved b || any_closed b made) (λ _. tt) (λ h. refilled (or_false (solved b) (any_closed b made) h)))
      (λ m _. tt)
    where
      M : ℕ
      M = spent_measure (spent b p made s)

      refilled : (solved b ≡ false) × (any_closed b made ≡ false) → SmallerSpent M (again (pass z l try d (node b (first_unsolved b) p made s)))
      refilled h =
          let r = open_first b h.0 in let c = r.0 in
          rw h.1 (again_smaller b c r.2 r.1 (pass z l try d (node b (first_unsolved b) p made s))
          (pass_closer b c r.2 (node b (first_unsolved b) p made s)
          (inr (record { same = refl; each = λ x m. inr (rw r.3 (in_map (guess c) (colours (at b c)) m)); mine = λ g m. let q = map_in (guess c) (colours (at b c)) (rw r.3 at m) in (q.0, q.2) }))))

  -- the equation that determines the passes over new guesses
  pub refill_turn : (t : Spent) → refill z l try d t ≡ (elim (spent_step z l try d t) as (λ _. Left) [ more u ↦ refill z l try d u | stop r ↦ r ])
  unfolding refill
  refill_turn t = run_is (spent_step z l try d) spent_measure spent_falls spent_unended t

-- ## The depth that is left: where it is used up a limit is met, and more of it changes nothing

module _ (z : Puzzle) (l : Limits) where
  open l use {most_grids, most_depth, budget}

  -- below the most depth some limit is met
  pub deep_met : (s : Run) (d : ℕ) → most_depth < d → met z l s d ≡ 0 → ⊥
  unfolding met
  deep_met s d h e = go (leb most_grids (length s.stored)) (leb budget (steps s)) (ltb most_depth d) (lt-ltb most_depth d h) e
    where
      go : (u v w : Bool) → w ≡ true → ◌≡◌ {A = ℕ} (elim u [ true ↦ 1 | false ↦ elim v [ true ↦ 2 | false ↦ elim w [ true ↦ 3 | false ↦ 0 ] ] ]) 0 → ⊥
      go true v w t k = omega arith
      go false true w t k = omega arith
      go false false true t k = omega arith
      go false false false t k = absurd (false≢true t)

  at_depth : (r d : ℕ) → most_depth < d → (b : Board) (gs : List Guess) (s : Run) → search z l (suc r) d b gs s ≡ left not_dead b (note (met z l s d) s)
  unfolding search
  at_depth r d h b gs s = go (met z l s d) refl
    where
      go : (m : ℕ) → met z l s d ≡ m →
          ◌≡◌ {A = Left} (elim m [ suc k ↦ left not_dead b (note (suc k) s) | zero ↦ node_from z l (try_guess z l (λ e hs t. search z l r (suc d) e hs t) (suc d)) d b gs (deeper d s) ]) (left not_dead b (note m s))
      go zero e = absurd (deep_met s d h e)
      go (suc m) e = refl

  pub depth_any : (r q d : ℕ) → most_depth < d + r → most_depth < d + q → (b : Board) (gs : List Guess) (s : Run) → search z l r d b gs s ≡ search z l q d b gs s
  unfolding search
  depth_any zero zero d h k b gs s = refl
  depth_any zero (suc q) d h k b gs s = sym (at_depth q d (omega arith) b gs s)
  depth_any (suc r) zero d h k b gs s = at_depth r d (omega arith) b gs s
  depth_any (suc r) (suc q) d h k b gs s =
      let down : ◌≡◌ {A = Board → List Guess → Run → Left} (λ e hs t. search z l r (suc d) e hs t) (λ e hs t. search z l q (suc d) e hs t) =
      λ i e hs t. depth_any r q (suc d) (omega arith) (omega arith) e hs t i in
      ap (λ (f : Board → List Guess → Run → Left). elim (met z l s d) as (λ _. Left) [ suc m ↦ left not_dead b (note (suc m) s) | zero ↦ node_from z l (try_guess z l f (suc d)) d b gs (deeper d s) ]) down
