-- A run by value goes on as the rules' run does: limits, counts and stored grids.
use mathlib.Core.Path.{◌≡◌, refl, sym, ap, ap₂, subst, ◌∙◌}
use mathlib.Core.Logic.{inl, inr}
use mathlib.Core.Bool.{Bool, true, false}
use mathlib.Core.List.Memᴰ
use mathlib.Core.List.{List, [], ◌∷◌, ◌++◌, append_assoc, append-nil, Memᴰ}
use Prim.Native.Nat.{ℕ, zero, suc, ◌+◌, ◌*◌, ◌≤◌, ◌<◌, max}
use native.Mathlib.Omega.{arith}
use lib.ListN.{length, get_or, take, drop, length-append}
use lib.Seq.{paste, take_at, drop-drop, drop-append-add, take_all}
use Rattle.std.specs.Prelude.{if◌then◌else◌, None, Some, leb, ltb}
use Rattle.rules.specs.Lists.{any, from, joined}
use Rattle.rules.specs.Boards.{Board, same, Puzzle}
use Rattle.rules.specs.Probing as Rules
use Rattle.rules.specs.Probing.{Run, Event, event}
use Rattle.rules.specs.Search.{met, note, deeper, store_in, store, first_of}
use Rattle.rules.specs.Answers.{written}
use Rattle.rules.proofs.Tests.{on_test}
use Rattle.rules.proofs.Probing.{Quiet}
use Rattle.runs.specs.declared.limits.Limit.TheVariants.{Grids, Steps, Depth}
use Rattle.runs.specs.declared.limits.Limits.{Limits}
use Rattle.runs.specs.declared.limits.Stats.{Stats}
use Rattle.runs.specs.Stats as Counts
use Rattle.runs.specs.Stats.{limit_number, limit_met}
use Rattle.runs.specs.Stored.{grid_at, found, Added}
use Rattle.runs.specs.Matches.{limits_of, Matches}

-- the limit met has its number by the same three tests
met_number : (a b c : Bool) → limit_number (if a then Some Grids else (if b then Some Steps else (if c then Some Depth else None)))
    ≡ elim a [ true ↦ 1 | false ↦ elim b [ true ↦ 2 | false ↦ elim c [ true ↦ 3 | false ↦ 0 ] ] ]
met_number true b c = refl
met_number false true c = refl
met_number false false true = refl
met_number false false false = refl

module _ (n : ℕ) (lent : List ℕ) where
  -- ## Limits and counts

  pub met_matches : (z : Puzzle) (l : Limits) {s : Stats} {list : List ℕ} {t : Run} (d : ℕ) → Matches n lent s list t → limit_number (limit_met s l d) ≡ met z (limits_of l) t d
  unfolding limit_met met
  met_matches z l {t = t} d m = rw (m.grids, m.steps, limit_met, met) (met_number (leb l.grids (length t.stored)) (leb l.budget (Rules.steps t)) (ltb l.depth d))

  pub noted_matches : {s : Stats} {list : List ℕ} {t : Run} (k : ℕ) → Matches n lent s list t → Matches n lent (Counts.noted k s) list (note k t)
  noted_matches k m = record { grids = m.grids; steps = m.steps; deepest = m.deepest; limit = ap (λ l. first_of l k) m.limit; bytes = m.bytes; sized = m.sized }

  pub deeper_matches : {s : Stats} {list : List ℕ} {t : Run} (d : ℕ) → Matches n lent s list t → Matches n lent (Counts.deeper d s) list (deeper d t)
  deeper_matches d m = record { grids = m.grids; steps = m.steps; deepest = ap (λ e. max e (suc d)) m.deepest; limit = m.limit; bytes = m.bytes; sized = m.sized }

  -- a guess is a step
  pub event_matches : {s : Stats} {list : List ℕ} {t : Run} (e : Event) → Matches n lent s list t → Matches n lent (Counts.stepped 1 s) list (event e t)
  event_matches {s} e m = record { grids = m.grids; steps = (let q = m.steps in omega arith); deepest = m.deepest; limit = m.limit; bytes = m.bytes; sized = m.sized }

  -- a run of probing only adds steps
  pub probed_matches : {s : Stats} {list : List ℕ} {t u : Run} (k : ℕ) → Matches n lent s list t → Quiet t u → Rules.steps u ≡ Rules.steps t + k → Matches n lent (Counts.stepped k s) list u
  probed_matches {s} {list} {t} {u} k m q e = record {
    grids = m.grids ∙ ap length (sym q.stored_same);
    steps = (let r = m.steps in omega arith);
    deepest = m.deepest ∙ sym q.deepest_same;
    limit = m.limit ∙ sym q.limit_same;
    bytes = m.bytes ∙ ap (λ l. written l lent) (sym q.stored_same);
    sized = λ g i. m.sized g (subst (λ l. Memᴰ g l) q.stored_same i);
  }

  -- ## Stored grids

  -- every grid has n cells
  abbrev pub Sized : List Board → Type 0
  Sized l = (g : Board) → Memᴰ g l → length g ≡ n

  joined_long : (l : List Board) → Sized l → length (joined l) ≡ length l * n
  joined_long [] s = omega arith
  joined_long (g ∷ l) s = length-append g (joined l) ∙ (let a = s g (Memᴰ.head refl) in let b = joined_long l (λ h i. s h (Memᴰ.tail i)) in omega arith)

  -- grid i of grids that stand one after the other
  pub grid_joined : (l : List Board) (rest : List ℕ) (i : ℕ) → Sized l → i < length l → grid_at n (joined l ++ rest) i ≡ get_or l i []
  grid_joined [] rest i s h = absurd (omega arith)
  grid_joined (g ∷ l) rest zero s h =
      let z : 0 * n ≡ 0 = omega arith in
      ap (λ k. take n (drop k ((g ++ joined l) ++ rest))) z ∙ ap (take n) (append_assoc g (joined l) rest) ∙ take_at g (joined l ++ rest) n (s g (Memᴰ.head refl))
  grid_joined (g ∷ l) rest (suc i) s h =
      let e = s g (Memᴰ.head refl) in
      let z : suc i * n ≡ length g + i * n = omega arith in
      ap (λ k. take n (drop k ((g ++ joined l) ++ rest))) z ∙ ap (λ m. take n (drop (length g + i * n) m)) (append_assoc g (joined l) rest)
      ∙ ap (take n) (drop-append-add g (joined l ++ rest) (i * n)) ∙ grid_joined l rest i (λ f k. s f (Memᴰ.tail k)) (omega arith)

  -- a grid is among the first of the list if it is stored
  found_from : (b : Board) (f : ℕ → Board) (l : List Board) (k : ℕ) → ((i : ℕ) → i < length l → f (k + i) ≡ get_or l i []) → any (λ g. same b (f g)) (from k (length l)) ≡ any (same b) l
  found_from b f [] k h = refl
  found_from b f (g ∷ l) k h =
      let e : f k ≡ g = ap f (omega arith) ∙ h 0 (omega arith) in
      let ih = found_from b f l (suc k) (λ i j. ap f (omega arith) ∙ h (suc i) (omega arith)) in
      rw (e, ih)

  pub found_stored : (b : Board) (l : List Board) → Sized l → found b n (length l) (written l lent) ≡ any (same b) l
  unfolding found written
  found_stored b l s = found_from b (grid_at n (joined l ++ drop (length (joined l)) lent)) l 0 (λ i h. ap (grid_at n (joined l ++ drop (length (joined l)) lent)) (omega arith) ∙ grid_joined l (drop (length (joined l)) lent) i s h)

  joined_more : (l : List Board) (b : Board) → joined (l ++ (b ∷ [])) ≡ joined l ++ b
  joined_more [] b = append-nil b
  joined_more (g ∷ l) b = ap (λ r. g ++ r) (joined_more l b) ∙ sym (append_assoc g (joined l) b)

  -- a grid more in the list
  pub stored_more : (l : List Board) (b : Board) → Sized l → length b ≡ n → paste (written l lent) (length l * n) b n ≡ written (l ++ (b ∷ [])) lent
  unfolding written
  stored_more l b s e = ap₂ (λ (u v : List ℕ). u ++ v) (ap₂ (λ (u v : List ℕ). u ++ v) front whole) back ∙ sym (ap (λ m. m ++ drop (length m) lent) (joined_more l b))
    where
      J : List ℕ
      J = joined l

      at : length J ≡ length l * n
      at = joined_long l s

      front : take (length l * n) (J ++ drop (length J) lent) ≡ J
      front = take_at J (drop (length J) lent) (length l * n) at

      whole : take n b ≡ b
      whole = take_all n b (omega arith)

      back : drop (length l * n + n) (J ++ drop (length J) lent) ≡ drop (length (J ++ b)) lent
      back =
          let z : length l * n + n ≡ length J + n = omega (arith, at) in
          let y : length J + n ≡ length (J ++ b) = (let q = length-append J b in omega arith) in
          ap (λ k. drop k (J ++ drop (length J) lent)) z ∙ drop-append-add J (drop (length J) lent) n ∙ drop-drop n (length J) lent ∙ ap (λ k. drop k lent) y

  -- storing a grid, where there is room
  pub added_matches : {s : Stats} {list : List ℕ} {t : Run} (b : Board) (most : ℕ) (r : Stats) (out : List ℕ) → Matches n lent s list t → length b ≡ n → length t.stored < most →
      Added b n most s list r out → Matches n lent r out (store b t)
  unfolding store_in
  added_matches {s} {list} {t} b most r out m e h a = on_test Fine (any (same b) t.stored) again new
    where
      Fine : List Board → Type 0
      Fine l = Matches n lent r out (record { stored = l; events = t.events; deepest = t.deepest; limit = t.limit })

      room : suc s.grids ≤ most
      room = (let q = m.grids in omega arith)

      look : found b n s.grids list ≡ any (same b) t.stored
      look = ap₂ (λ (k : ℕ) (l : List ℕ). found b n k l) m.grids m.bytes ∙ found_stored b t.stored m.sized

      again : any (same b) t.stored ≡ true → Fine t.stored
      again q = let w = a.again room (look ∙ q) in
          subst (λ v. Matches n lent v out (record { stored = t.stored; events = t.events; deepest = t.deepest; limit = t.limit })) (sym w.0)
          (record { grids = m.grids; steps = m.steps; deepest = m.deepest; limit = m.limit; bytes = w.1 ∙ m.bytes; sized = m.sized })

      new : any (same b) t.stored ≡ false → Fine (t.stored ++ (b ∷ []))
      new q = let w = a.new room (look ∙ q) in
          subst (λ v. Matches n lent v out (record { stored = t.stored ++ (b ∷ []); events = t.events; deepest = t.deepest; limit = t.limit })) (sym w.0)
          (record {
            grids = (let k = m.grids in let j = length-append t.stored (b ∷ []) in omega arith);
            steps = m.steps;
            deepest = m.deepest;
            limit = m.limit;
            bytes = w.1 ∙ ap₂ (λ (k : ℕ) (l : List ℕ). paste l (k * n) b n) m.grids m.bytes ∙ stored_more t.stored b m.sized e;
            sized = λ g i. elim (Memᴰ.append_cases t.stored i) [ inl k ↦ m.sized g k | inr k ↦ ap length (Memᴰ.eq_of_singleton k) ∙ e ];
          })
