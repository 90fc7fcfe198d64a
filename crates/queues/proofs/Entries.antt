-- How the queue's arrays follow the rules: what each store does, and what is taken out.
use mathlib.Core.Path.{◌≡◌, refl, sym, ap, ◌∙◌}
use mathlib.Core.List.{List}
use mathlib.Core.Option as Math
use Prim.Native.Nat.{ℕ, ◌+◌, ◌≤◌, ◌<◌}
use native.Mathlib.Omega.{arith}
use lib.ListN.{length, get_or, get_or-replicate, set, replicate, drop}
use lib.Seq.{get_or-set_same, get_or-set_other, set_out}
use lib.Ieee.{Float, nan}
use Rattle.std.specs.Prelude.{None, Some}
use Rattle.std.proofs.lemmas.List.{at_drop_more, at_drop_all}
use Rattle.cells.specs.declared.CellNo.{CellNo}
use Rattle.cells.specs.Numbers.{cell_numbers}
use Rattle.rules.specs.Lists.{from}
use Rattle.rules.specs.Queues.{leader, push, pop}
use Rattle.rules.specs.Floats.{higher}
use Rattle.rules.specs.Probing.{CellQueue, push_all}
use Rattle.rules.proofs.Given.{length_given, given_at, given_alike, given_set}
use Rattle.rules.proofs.Queues.{pop_some, pop_low}
use Rattle.queues.specs.declared.Queue.{Queue}
use Rattle.queues.specs.Entries.{entry, entry_at, queue_of, Holds, TakenFrom}
use Rattle.queues.proofs.Leading.{none_pops, found_pops}

-- the queue's arrays have 256 places
pub record Long (q : Queue) : Type 0 where
  pub waits : length q.waits ≡ 256
  pub priority : length q.priority ≡ 256

pub queue_length : (q : Queue) → length (queue_of q) ≡ q.n
unfolding queue_of
queue_length q = length_given (entry_at q) 0 q.n

pub queue_at_lem : (q : Queue) (c : ℕ) → c < q.n → get_or (queue_of q) c Math.none ≡ entry_at q c
unfolding queue_of
queue_at_lem q c h = given_at (entry_at q) q.n c Math.none h

-- ## Stores

pub empty_holds : (n : ℕ) (ps : List Float) {h : n ≤ 256} → Holds n (replicate n Math.none) (record { n = n; waits = replicate 256 0; priority = ps; within = h })
unfolding queue_of
empty_holds n ps {h} = record {
  size = refl;
  queue = given_alike (λ c. entry (get_or (replicate 256 0) c 0) (get_or ps c nan)) Math.none 0 n (λ c l. ap (λ w. entry w (get_or ps c nan)) (get_or-replicate 256 c 0 0 (omega (arith, h))));
}

abbrev pub pushed : (q : Queue) → ℕ → Float → q.n ≤ 256 → Queue
pushed q c p h = record { n = q.n; waits = set q.waits c 1; priority = set q.priority c p; within = h }

pub pushed_holds : (q : Queue) (c : ℕ) (p : Float) {h : q.n ≤ 256} → Long q → Holds q.n (push c p (queue_of q)) (pushed q c p h)
unfolding queue_of push
pushed_holds q c p {h} l = record {
  size = refl;
  queue = given_set (entry_at q) (entry_at (pushed q c p h)) q.n c (Math.some p)
      (λ m. rw (get_or-set_same q.waits c 1 0 (omega (arith, l.waits, h)), get_or-set_same q.priority c p nan (omega (arith, l.priority, h))))
      (λ k m e. rw (get_or-set_other q.waits c k 1 0 e, get_or-set_other q.priority c k p nan e));
}

-- a cell past the last
pub past_holds : (q : Queue) (c : ℕ) (p : Float) → q.n ≤ c → Holds q.n (push c p (queue_of q)) q
unfolding push
past_holds q c p k = record { size = refl; queue = sym (set_out (queue_of q) c (Math.some p) (omega (arith, queue_length q))) }

-- ## Many pushed, one after the other

-- pushing the cells from place k on is all that is left to do
pub record Pushing (cells : List CellNo) (p : Float) (whole q : Queue) (k : ℕ) : Type 0 where
  pub size : q.n ≡ whole.n
  pub rest : push_all (cell_numbers (drop k cells)) p (queue_of q) ≡ push_all (cell_numbers cells) p (queue_of whole)

module _ (cells : List CellNo) (p : Float) (whole q : Queue) (k : ℕ) (t : Pushing cells p whole q k) where
  abbrev pushed_all : List CellNo → CellQueue
  pushed_all cs = push_all (cell_numbers cs) p (queue_of q)

  pub pushing_turn : (d : CellNo) (r : Queue) → k < length cells → Holds q.n (push (get_or cells k d).0 p (queue_of q)) r → Pushing cells p whole r (k + 1)
  unfolding push_all
  pushing_turn d r h u = record {
    size = u.size ∙ t.size;
    rest = ap (push_all (cell_numbers (drop (k + 1) cells)) p) u.queue ∙ sym (at_drop_more pushed_all cells k d h) ∙ t.rest;
  }

  pub pushing_end : length cells ≤ k → Holds whole.n (push_all (cell_numbers cells) p (queue_of whole)) q
  unfolding push_all
  pushing_end h = record { size = t.size; queue = sym (at_drop_all pushed_all cells k h) ∙ t.rest }

-- ## Taking out

abbrev pub taken : (q : Queue) → ℕ → q.n ≤ 256 → Queue
taken q c h = record { n = q.n; waits = set q.waits c 0; priority = q.priority; within = h }

taken_holds : (q : Queue) (c : ℕ) {h : q.n ≤ 256} → Long q → Holds q.n (set (queue_of q) c Math.none) (taken q c h)
unfolding queue_of
taken_holds q c {h} l = record {
  size = refl;
  queue = given_set (entry_at q) (entry_at (taken q c h)) q.n c Math.none
      (λ m. rw (get_or-set_same q.waits c 0 0 (omega (arith, l.waits, h))))
      (λ k m e. rw (get_or-set_other q.waits c k 0 0 e));
}

-- what the leader is decides what is taken out
module _ (q : Queue) where
  pub none_taken : Math.none ≡ leader higher (queue_of q) (from 0 q.n) Math.none → TakenFrom q None q
  none_taken e = record { first = sym (none_pops higher (queue_of q) q.n (queue_length q) e); below = tt; size = refl; kept = λ _. refl }

  module _ (c : ℕ) (p : Float) (e : Math.some (c, p) ≡ leader higher (queue_of q) (from 0 q.n) Math.none) where
    pops : pop higher (queue_of q) ≡ Math.some (c, set (queue_of q) c Math.none)
    pops = found_pops higher (queue_of q) q.n (queue_length q) c p e

    pub leader_low : c < q.n
    leader_low = rw (← queue_length q) (pop_low (queue_of q) c _ (pop_some higher (queue_of q) _ _ pops))

    pub some_taken : {h : q.n ≤ 256} → Long q → TakenFrom q (Some (record { 0 = c })) (taken q c h)
    some_taken {h} l = let u = taken_holds q c {h = h} l in record { first = rw u.queue (sym pops); below = leader_low; size = refl; kept = λ e. cc }
