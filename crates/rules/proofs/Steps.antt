-- How many steps a run of probing takes: at most (k·n + 1)·((k + 1)·n) over n cells and k colours, which is 787,456 for 256 cells and 3 colours.
-- The queue's cells are paid for at k + 1 steps each, and each colour on the board for a round of all cells: a contradicting colour goes and pays for the round that it starts.
use mathlib.Core.Path.{◌≡◌, refl, ◌∙◌}
use mathlib.Core.Bool.{true, false}
use mathlib.Core.List.Memᴰ
use mathlib.Core.List.{List, [], ◌∷◌, map}
use mathlib.Core.Option.{Option, none, some}
use Prim.Native.Nat.{ℕ, zero, suc, ◌+◌, ◌*◌, ◌^◌, ◌≤◌, ◌<◌}
use native.Mathlib.Nat.{mul-le-mul, mul-le-mul_left, mul-le-mul_right}
use native.Mathlib.Omega.{arith}
use lib.ListN.{length, length-map}
use Rattle.rules.specs.Lists.{sum}
use Rattle.rules.specs.Loops.{Turn, more, stop, Holds}
use Rattle.rules.specs.Sets.{Colour, has, members, palette, colours, empty}
use Rattle.rules.specs.Queues.{waiting, pop}
use Rattle.rules.specs.Boards.{Board, Cell, at, cells, remove_all, solved, newly, Puzzle}
use Rattle.rules.specs.Propagation.{propagate}
use Rattle.rules.specs.Floats.{higher}
use Rattle.rules.specs.Probing.{assumed, Run, steps, event, CellQueue, Notes, Probing, probing, Probed, contradiction, probed, contradicting, solving, assumed_all, start_queue, push_both, outcomes, new_round, cut, judge, probe_step, probe_measure, probe_unended, probe_on, probe}
use Rattle.rules.specs.Promises.{most_probing}
use Rattle.rules.proofs.Tests.{on_test, on_option, clash}
use Rattle.rules.proofs.Lists.{In, in_some, keep_fewer, keep_less, length_from, below}
use Rattle.rules.proofs.Loops.{run_ends}
use Rattle.rules.proofs.Sets.{has_none, byte_colour, in_members, colours_within}
use Rattle.rules.proofs.Queues.{Popped, pop_some, pop_long, pop_fewer, waiting_few}
use Rattle.rules.proofs.Narrowing.{◌⊑◌, tail_sub, on_board, remove_all-sub, remove_all-gone}
use Rattle.rules.proofs.Probing.{contradicts, push_both-long, probe_falls}
use Rattle.rules.proofs.Fitting.{Playable, playable_byte, playable_some, playable-remove_all}
use Rattle.rules.proofs.Keeping.{propagate_deduced}

-- ## The number of colours on a board

unfoldable pub colours_on : Board → ℕ
colours_on b = sum (map (λ s. length (colours s)) b)

fewer_colours : (s t : ℕ) → ((x : Colour) → has s x ≡ true → has t x ≡ true) → length (colours s) ≤ length (colours t)
unfolding members
fewer_colours s t f = keep_fewer (has s) (has t) palette (λ x _. f x)

less_colours : (s t x : ℕ) → ((y : Colour) → has s y ≡ true → has t y ≡ true) → x < 8 → has t x ≡ true → has s x ≡ false → length (colours s) < length (colours t)
unfolding members
less_colours s t x f l p q = keep_less (has s) (has t) palette (λ y _. f y) (below 8 x l) q p

sub_colours : (a b : Board) → a ⊑ b → colours_on a ≤ colours_on b
unfolding colours_on
sub_colours [] b h = omega arith
sub_colours (s ∷ a) [] h = absurd (let z = h.long in omega arith)
sub_colours (s ∷ a) (t ∷ b) h = omega (arith, sub_colours a b (tail_sub h), fewer_colours s t (h.each 0))

lost_colours : (a b : Board) (c : Cell) (x : Colour) → a ⊑ b → x < 8 → has (at b c) x ≡ true → has (at a c) x ≡ false → colours_on a < colours_on b
unfolding colours_on
lost_colours a [] c x h l p q = clash p (has_none x)
lost_colours [] (t ∷ b) c x h l p q = absurd (let z = h.long in omega arith)
lost_colours (s ∷ a) (t ∷ b) zero x h l p q = omega (arith, sub_colours a b (tail_sub h), less_colours s t x (h.each 0) l p q)
lost_colours (s ∷ a) (t ∷ b) (suc c) x h l p q = omega (arith, lost_colours a b c x (tail_sub h) l p q, fewer_colours s t (h.each 0))

-- where each cell has a colour there are as many as cells
filled_colours : (b : Board) → ((c : Cell) → c < length b → (x : Colour) × (x < 8) × (has (at b c) x ≡ true)) → length b ≤ colours_on b
unfolding colours_on
filled_colours [] f = omega arith
filled_colours (s ∷ b) f = let r = f 0 (omega arith) in omega (arith, filled_colours b (λ c h. f (suc c) (omega arith)), in_some (in_members 8 s r.0 r.1 r.2))

-- and at most n for each cell where none is n or above
few_colours : (n : ℕ) (b : Board) → ((c : Cell) → at b c < 2 ^ n) → colours_on b ≤ n * length b
unfolding colours_on
few_colours n [] f = omega arith
few_colours n (s ∷ b) f = omega (arith, few_colours n b (λ c. f (suc c)), colours_within n s (f 0))

-- ## The steps of a run of probing

abbrev pub run_of : Probed → Run
run_of (contradiction s) = s
run_of (probed b ns s) = s

pub assumed_steps : (c : Cell) (xs : List Colour) (s : Run) → steps (assumed_all c xs s) ≡ length xs + steps s
unfolding assumed_all
assumed_steps c [] s = omega arith
assumed_steps c (x ∷ xs) s = let ih = assumed_steps c xs (event (assumed c x) s) in omega arith

pub start_queue-long : (z : Puzzle) (b : Board) → length (start_queue z b) ≡ length b
unfolding start_queue
start_queue-long z b = length-map (cells b) _ ∙ length_from 0 (length b)

-- The arithmetic, m being k + 1 and w the steps of a round of n cells at m each. A colour that goes pays for the new round.
pays : (most m n w s col col' wait wait' : ℕ) → w ≡ m * n → s + col * w + m * wait ≤ most + n * w → 0 < wait → wait' ≤ n → col' < col → m + s + col' * w + m * wait' ≤ most + n * w
pays most m n w s col col' wait wait' e h p l k =
    let a : m * 1 ≤ m * wait = mul-le-mul_left m p in
    let b : m * wait' ≤ m * n = mul-le-mul_left m l in
    let c : suc col' * w ≤ col * w = mul-le-mul_right w k in
    omega arith

-- a cell that is popped is paid for
pops : (most m n w s col wait wait' : ℕ) → s + col * w + m * wait ≤ most + n * w → wait' < wait → m + s + col * w + m * wait' ≤ most + n * w
pops most m n w s col wait wait' h l = let a : m * suc wait' ≤ m * wait = mul-le-mul_left m l in omega arith

-- and what is paid is enough
enough : (most m n w s col wait : ℕ) → n ≤ col → s + col * w + m * wait ≤ most + n * w → s ≤ most
enough most m n w s col wait l h = let a : n * w ≤ col * w = mul-le-mul_right w l in omega arith

module _ (z : Puzzle) (k : ℕ) (few : k ≤ 7) (most n : ℕ) where
  w : ℕ
  w = (k + 1) * n

  record Paid (b : Board) (q : CellQueue) (s : Run) : Type 0 where
    playable : Playable z k b
    long : length b ≡ n
    queue : length q ≡ n
    paid : steps s + colours_on b * w + (k + 1) * waiting q ≤ most + n * w

  abbrev ProbingPaid : Probing → Type 0
  ProbingPaid (probing b q ns s) = Paid b q s

  abbrev ProbedWithin : Probed → Type 0
  ProbedWithin r = steps (run_of r) ≤ most

  TurnPaid : Turn Probing Probed → Type 0
  TurnPaid = Holds ProbingPaid ProbedWithin

  within : {b : Board} {q : CellQueue} {s : Run} → Paid b q s → steps s ≤ most
  within {b} {q} {s} i = enough most (k + 1) n w (steps s) (colours_on b) (waiting q) (let f = filled_colours b (playable_some z k few i.playable) in let e = i.long in omega arith) i.paid

  -- a cell is popped, and its colours are assumed
  module _ (b : Board) (q : CellQueue) (s : Run) (i : Paid b q s) (c : Cell) (r : CellQueue) (p : Popped q c r) where
    t : Run
    t = assumed_all c (colours (at b c)) s

    cost : steps t ≤ k + 1 + steps s
    unfolding t
    cost = let e = assumed_steps c (colours (at b c)) s in let f = colours_within (suc k) (at b c) (i.playable.low c) in omega arith

    popped : Paid b r t
    popped = record {
      playable = i.playable;
      long = i.long;
      queue = pop_long q c r p ∙ i.queue;
      paid = let e = cost in let h = pops most (k + 1) n w (steps s) (colours_on b) (waiting q) (waiting r) i.paid (pop_fewer q c r p) in omega arith;
    }

    -- a board with fewer colours starts a new round
    round : (a : Board) (v : CellQueue) → Playable z k a → length a ≡ n → colours_on a < colours_on b → length v ≡ n → TurnPaid (new_round a v t)
    unfolding TurnPaid
    round a v o l h e = on_test TurnPaid (solved a) (λ _. within popped) (λ _. record {
      playable = o;
      long = l;
      queue = e;
      paid = let u = cost in
          let y = pays most (k + 1) n w (steps s) (colours_on b) (colours_on a) (waiting q) (waiting v) w_is i.paid (let d = pop_fewer q c r p in omega arith) (let f = waiting_few v in omega arith) h in
          omega arith;
    })
      where
        w_is : w ≡ (k + 1) * n
        w_is = unfold w in refl

    judged : (ns : Notes) (good : List (Colour × ℕ)) (xs : List Colour) → ((x : Colour) → In x xs → has (at b c) x ≡ true) → TurnPaid (judge z b c r ns t good xs)
    unfolding TurnPaid
    judged ns good [] f = popped
    judged ns good (x ∷ xs) f = on_test TurnPaid (empty (at a c)) (λ _. within popped) (λ h. cutting h (propagate z a c) refl)
      where
        a : Board
        a = remove_all b c (x ∷ xs)

        here : has (at b c) x ≡ true
        here = f x (Memᴰ.head refl)

        cutting : empty (at a c) ≡ false → (v : Option Board) → propagate z a c ≡ v → TurnPaid (cut z a c r t v)
        cutting h none e = within popped
        cutting h (some d) e =
            let o = propagate_deduced z k few c (playable-remove_all z k few c (x ∷ xs) i.playable h) e in
            let m : colours_on d ≤ colours_on a = sub_colours d a o.sub in
            let l : colours_on a < colours_on b = lost_colours a b c x (remove_all-sub b c (x ∷ xs)) (byte_colour (at b c) x (playable_byte z k few i.playable c) here) here (remove_all-gone b c x xs (on_board b c x here)) in
            round d (push_both z d c (newly a d) r) o.playable (o.sub.long ∙ (remove_all-sub b c (x ∷ xs)).long ∙ i.long) (omega arith)
            (push_both-long z d c (newly a d) r ∙ pop_long q c r p ∙ i.queue)

  paid_step : (t : Probing) → ProbingPaid t → TurnPaid (probe_step z t)
  unfolding TurnPaid t
  paid_step (probing b q ns s) i = on_option TurnPaid (pop higher q) (λ _. within i)
      (λ e h. judged b q s i e.0 e.1 (pop_some higher q e.0 e.1 h) ns (solving (outcomes z b e.0)) (contradicting (outcomes z b e.0)) (λ x m. (contradicts z b e.0 m).1))

-- A RUN OF PROBING IS SHORT
pub probe_steps : (z : Puzzle) (k : ℕ) → k ≤ 7 → (b : Board) (q : CellQueue) (s : Run) → Playable z k b → length q ≡ length b →
    steps (run_of (probe z b q s)) ≤ steps s + most_probing k (length b)
unfolding probe probe_on TurnPaid w
probe_steps z k few b q s p e = go (new_round b q s) start
  where
    n : ℕ
    n = length b

    most : ℕ
    most = steps s + most_probing k n

    start : TurnPaid z k few most n (new_round b q s)
    start = on_test (TurnPaid z k few most n) (solved b) (λ _. omega arith) (λ _. record {
      playable = p;
      long = refl;
      queue = e;
      paid =
          let a : colours_on b ≤ suc k * n = few_colours (suc k) b p.low in
          let c : colours_on b * ((k + 1) * n) ≤ suc k * n * ((k + 1) * n) = mul-le-mul_right ((k + 1) * n) a in
          let d : (k + 1) * waiting q ≤ (k + 1) * n = mul-le-mul_left (k + 1) (let f = waiting_few q in omega arith) in
          omega arith;
    })

    go : (t : Turn Probing Probed) → TurnPaid z k few most n t → steps (run_of (elim t [ stop r ↦ r | more u ↦ probe_on z u ])) ≤ most
    go (stop r) h = h
    go (more u) h = run_ends (probe_step z) probe_measure (probe_falls z) (ProbingPaid z k few most n) (ProbedWithin z k few most n) (paid_step z k few most n) probe_unended u h

-- with fewer cells and colours it is no longer; so over at most 256 cells and 3 colours it is at most 787,456
pub most_probing-few : (k m n p : ℕ) → k ≤ m → n ≤ p → most_probing k n ≤ most_probing m p
most_probing-few k m n p h l =
    let a : k * n ≤ m * p = mul-le-mul h l in
    let b : (k + 1) * n ≤ (m + 1) * p = mul-le-mul {n₁ = k + 1} {n₂ = m + 1} (omega arith) l in
    mul-le-mul {n₁ = k * n + 1} {n₂ = m * p + 1} (omega arith) b
