-- Room for the waiting guesses: at most n·(k + 1) wait at a node of n cells and k colours, so that 1,024 places are enough for 256 cells and 3 colours.
-- Each is of a cell of the board and a colour of the puzzle, and no two are equal. What the rules put there keeps it so: the chosen guesses, the other colours of a cell after a dead
-- guess, the colours of the first unsolved cell, and each step of a pass.
use mathlib.Core.Path.{◌≡◌, refl, sym, ap, subst, ◌∙◌}
use mathlib.Core.Logic.{inl, inr}
use mathlib.Core.Bool.{false, not, ◌||◌}
use mathlib.Core.List.Memᴰ
use mathlib.Core.List.{List, [], ◌∷◌, ◌++◌, map}
use mathlib.Core.Option.{Option, none, some}
use Prim.Native.Nat.{ℕ, suc, ◌+◌, ◌*◌, ◌/◌, ◌%◌, ◌^◌, ◌≤◌, ◌<◌}
use native.Mathlib.Nat.{mul-le-mul, mul-le-mul_right}
use native.Mathlib.Omega.{arith}
use lib.ListN.{length, get_or, length-set, length-map}
use lib.Seq.{get_or-set_same, get_or-set_other}
use lib.Dec.{eqb, ltb}
use Rattle.rules.specs.Lists.{first, joined}
use Rattle.rules.specs.Sets.{Colour, colours, single}
use Rattle.rules.specs.Queues.{push, in_order}
use Rattle.rules.specs.Boards.{Board, Cell, at, cells, Puzzle}
use Rattle.rules.specs.Floats.{higher}
use Rattle.rules.specs.Probing.{Run, CellQueue, Notes, probed, probe}
use Rattle.rules.specs.Guesses.{Guess, guess, notes_at, rate_at, cell_order, tally, colour_order, choose}
use Rattle.rules.specs.Search.{among, others, first_unsolved}
use Rattle.rules.specs.Promises.{Distinct}
use Rattle.rules.specs.Answers.{most_colours, most_waiting}
use Rattle.rules.proofs.Tests.{on_test, on_option, by_equal, clash, or_false}
use Rattle.rules.proofs.Lists.{In, first_some, map_in, joined_in, get_or-replicate_same, length_from, from_low}
use Rattle.rules.proofs.Distinct.{append_distinct, map_distinct, distinct_few}
use Rattle.rules.proofs.Sets.{member, member_low, members_distinct}
use Rattle.rules.proofs.Boards.{row_of_lem, column_of_lem}
use Rattle.rules.proofs.InOrder.{waits_low, in_order-waits, in_order-distinct}
use Rattle.rules.proofs.Probing.{ProbedBelow, probe_below}
use Rattle.rules.proofs.Ends.{among_in}
use Rattle.rules.proofs.Noting.{Noted, ProbedNoted, probe_noted}

pub record Waiting (k n : ℕ) (gs : List Guess) : Type 0 where
  pub low : (c : Cell) (x : Colour) → In (guess c x) gs → (c < n) × (x < suc k)
  pub once : Distinct gs

-- ## How few they are

-- a guess as a number
place : ℕ → Guess → ℕ
place k (guess c x) = c * suc k + x

module _ (k n : ℕ) where
  place_low : (gs : List Guess) → Waiting k n gs → (g : Guess) → In g gs → place k g < n * suc k
  unfolding place
  place_low gs w (guess c x) m = let l = w.low c x m in let q : suc c * suc k ≤ n * suc k = mul-le-mul_right (suc k) l.0 in omega (arith, l.1)

  place_same : (gs : List Guess) → Waiting k n gs → (g h : Guess) → In g gs → In h gs → place k g ≡ place k h → g ≡ h
  unfolding place
  place_same gs w (guess c x) (guess e y) m n q =
      let u = (w.low c x m).1 in let v = (w.low e y n).1 in
      let cells_same : c ≡ e = sym (row_of_lem (suc k) c x u) ∙ ap (λ p. p / suc k) q ∙ row_of_lem (suc k) e y v in
      let colours_same : x ≡ y = sym (column_of_lem (suc k) c x u) ∙ ap (λ p. p % suc k) q ∙ column_of_lem (suc k) e y v in
      cc

  -- AT MOST n·(k + 1) GUESSES WAIT
  pub waiting_room : (gs : List Guess) → Waiting k n gs → length gs ≤ n * (k + 1)
  waiting_room gs w =
      let few = distinct_few (n * suc k) (map (place k) gs) (map_distinct (place k) gs (place_same gs w) w.once)
      (λ p m. let r = map_in (place k) gs m in subst (λ q. q < n * suc k) (sym r.2) (place_low gs w r.0 r.1)) in
      omega (arith, length-map gs (place k))

  pub waiting_few : (gs : List Guess) → k ≤ most_colours → n ≤ 256 → Waiting k n gs → length gs ≤ most_waiting
  waiting_few gs h l w = let few = waiting_room gs w in let m : n * (k + 1) ≤ 256 * (most_colours + 1) = mul-le-mul {m₁ = k + 1} {m₂ = most_colours + 1} l (omega arith) in omega arith

  -- ## What keeps it so

  pub none_waiting : Waiting k n []
  none_waiting = record { low = λ c x m. absurd (Memᴰ.not-nil m); once = tt }

  -- a guess is taken
  pub taken_waiting : (g : Guess) (gs : List Guess) → Waiting k n (g ∷ gs) → Waiting k n gs
  taken_waiting g gs w = record { low = λ c x m. w.low c x (Memᴰ.tail m); once = w.once.1 }

  -- one comes to wait that does not wait already
  pub added_waiting : (c : Cell) (x : Colour) (gs : List Guess) → c < n → x < suc k → among (guess c x) gs ≡ false → Waiting k n gs → Waiting k n (guess c x ∷ gs)
  added_waiting c x gs h l e w = record {
    low = λ d y m. elim (Memᴰ.cases_cons m) [
      | inl q ↦ (let u : d ≡ c = cc in let v : y ≡ x = cc in (omega arith, omega arith))
      | inr j ↦ w.low d y j
    ];
    once = (λ m. clash (among_in (guess c x) gs m) e, w.once);
  }

  -- after a dead guess
  pub others_waiting : (c : Cell) (x : Colour) (ys : List Colour) (gs : List Guess) → c < n → ((y : Colour) → In y ys → y < suc k) → Waiting k n gs → Waiting k n (others c x ys gs)
  unfolding others
  others_waiting c x [] gs h f w = w
  others_waiting c x (y ∷ ys) gs h f w = on_test (λ hs. Waiting k n (others c x ys hs)) (eqb y x || among (guess c y) gs)
      (λ e. others_waiting c x ys gs h rest w)
      (λ e. others_waiting c x ys (guess c y ∷ gs) h rest (added_waiting c y gs h (f y (Memᴰ.head refl)) (or_false (eqb y x) (among (guess c y) gs) e).1 w))
    where
      rest : (v : Colour) → In v ys → v < suc k
      rest v m = f v (Memᴰ.tail m)

  -- colours of one cell
  cell_waiting : (c : Cell) (xs : List Colour) → c < n → ((x : Colour) → In x xs → x < suc k) → Distinct xs → Waiting k n (map (guess c) xs)
  cell_waiting c xs h f d = record {
    low = λ e y m. let r = map_in (guess c) xs m in let q = r.2 in let u : e ≡ c = cc in let v : y ≡ r.0 = cc in let l = f r.0 r.1 in (omega arith, omega arith);
    once = map_distinct (guess c) xs (λ x y _ _ q. cc) d;
  }

  append_waiting : (gs hs : List Guess) → Waiting k n gs → Waiting k n hs → ((g : Guess) → In g gs → In g hs → ⊥) → Waiting k n (gs ++ hs)
  append_waiting gs hs v w f = record {
    low = λ c x m. elim (Memᴰ.append_cases gs m) [ inl j ↦ v.low c x j | inr j ↦ w.low c x j ];
    once = append_distinct gs hs v.once w.once f;
  }

-- the colours of a cell, of which none is above k
colours_low : (k s : ℕ) → s < 2 ^ suc k → (x : Colour) → In x (colours s) → x < suc k
colours_low k s h x m = member_low (suc k) s x h (member 8 s m).1

-- M3: the colours of the first unsolved cell
pub first_unsolved-waiting : (k : ℕ) (b : Board) → ((c : Cell) → at b c < 2 ^ suc k) → Waiting k (length b) (first_unsolved b)
unfolding first_unsolved
first_unsolved-waiting k b low = on_option (Waiting k (length b)) (first (λ c. not (single (at b c))) (cells b)) {f = λ c. map (guess c) (colours (at b c))} (λ _. none_waiting k (length b))
    (λ c e. let r = from_low 0 (length b) (first_some (λ c. not (single (at b c))) (cells b) e).0 in
    cell_waiting k (length b) c (colours (at b c)) (omega arith) (colours_low k (at b c) (low c)) (members_distinct 8 (at b c)))

-- ## The chosen guesses

-- a colour that waits in a tally was noted
tally_in : (l : List (Colour × ℕ)) (x : Colour) (n : ℕ) → get_or (tally l) x none ≡ some n → In (x, n) l
unfolding tally push
tally_in [] x n e = absurd (let never : get_or (tally []) x none ≡ none = get_or-replicate_same 8 x none in let z : ◌≡◌ {A = ℕ} 0 1 = cc in omega arith)
tally_in (g ∷ l) x n e = by_equal x g.0
    (λ q. let low : g.0 < length (tally l) = (let w = waits_low (tally (g ∷ l)) x n e in let v = length-set (tally l) g.0 (some g.1) in omega arith) in
    let here : some g.1 ≡ some n = sym (get_or-set_same (tally l) g.0 (some g.1) none low) ∙ ap (λ y. get_or (tally (g ∷ l)) y none) (sym q) ∙ e in
    let k : n ≡ g.1 = cc in Memᴰ.head (λ i. (q i, k i)))
    (λ q. Memᴰ.tail (tally_in l x n (sym (get_or-set_other (tally l) g.0 x (some g.1) none q) ∙ e)))

colour_order-noted : (k n : ℕ) (ns : Notes) (c : Cell) → Noted k n ns → (x : Colour) → In x (colour_order ns c) → x < suc k
unfolding colour_order
colour_order-noted k n ns c i x m = go (notes_at ns c) refl m
  where
    go : (v : Option (List (Colour × ℕ))) → notes_at ns c ≡ v → In x (elim v as (λ _. List Colour) [ none ↦ [] | some each ↦ in_order (λ m n. ltb n m) (tally each) ]) → x < suc k
    go none e j = absurd (Memᴰ.not-nil j)
    go (some each) e j = let r = in_order-waits (λ m n. ltb n m) (tally each) j in (i.each c each e (x, r.0) (tally_in each x r.0 r.1)).0

colour_order-distinct : (ns : Notes) (c : Cell) → Distinct (colour_order ns c)
unfolding colour_order
colour_order-distinct ns c = on_option Distinct (notes_at ns c) {f = λ each. in_order (λ m n. ltb n m) (tally each)} (λ _. tt) (λ each _. in_order-distinct (λ m n. ltb n m) (tally each))

cell_order-low : (b : Board) (ns : Notes) (c : Cell) → In c (cell_order b ns) → c < length b
unfolding cell_order
cell_order-low b ns c m =
    let r = in_order-waits higher (map (rate_at b ns) (cells b)) m in
    let l = waits_low (map (rate_at b ns) (cells b)) c r.0 r.1 in
    omega (arith, length-map (cells b) (rate_at b ns), length_from 0 (length b))

-- guesses cell by cell
joined_waiting : (k n : ℕ) (f : Cell → List Colour) (cs : List Cell) → ((c : Cell) → In c cs → c < n) → ((c : Cell) (x : Colour) → In x (f c) → x < suc k) → ((c : Cell) → Distinct (f c)) → Distinct cs →
    Waiting k n (joined (map (λ c. map (guess c) (f c)) cs))
joined_waiting k n f [] h l u d = none_waiting k n
joined_waiting k n f (c ∷ cs) h l u d =
    append_waiting k n (of c) (joined (map of cs)) (cell_waiting k n c (f c) (h c (Memᴰ.head refl)) (l c) (u c)) (joined_waiting k n f cs (λ e m. h e (Memᴰ.tail m)) l u d.1) apart
  where
    of : Cell → List Guess
    of e = map (guess e) (f e)

    -- guesses of this cell and of another
    apart : (g : Guess) → In g (of c) → In g (joined (map of cs)) → ⊥
    apart g i j =
        let p = map_in (guess c) (f c) i in let q = joined_in of cs j in let r = map_in (guess q.0) (f q.0) q.2 in
        let both : guess c p.0 ≡ guess q.0 r.0 = sym p.2 ∙ r.2 in
        let e : c ≡ q.0 = cc in
        d.0 (subst (λ y. In y cs) (sym e) q.1)

pub choose_waiting : (k : ℕ) (b : Board) (ns : Notes) → Noted k (length b) ns → Waiting k (length b) (choose b ns)
unfolding choose cell_order
choose_waiting k b ns i = joined_waiting k (length b) (colour_order ns) (cell_order b ns) (cell_order-low b ns) (λ c. colour_order-noted k (length b) ns c i) (colour_order-distinct ns) (in_order-distinct higher (map (rate_at b ns) (cells b)))

-- chosen after a run of probing
pub chosen_waiting : (z : Puzzle) (k : ℕ) (b : Board) (q : CellQueue) (s : Run) {a : Board} {ns : Notes} {t : Run} → ((c : Cell) → at b c < 2 ^ suc k) → probe z b q s ≡ probed a ns t →
    Waiting k (length b) (choose a ns)
chosen_waiting z k b q s {a} {ns} low e =
    let h = (subst (ProbedBelow z b s) e (probe_below z b q s)).0.long in
    subst (λ n. Waiting k n (choose a ns)) h (choose_waiting k a ns (subst (λ n. Noted k n ns) (sym h) (subst (ProbedNoted z k (length b)) e (probe_noted z k b low q s))))
