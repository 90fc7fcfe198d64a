-- Handing out a grid: what each test comes to, that an accepted grid lies in the list, and that there is one answer.
use mathlib.Core.Path.{◌≡◌, refl, ap, sym, ◌∙◌}
use mathlib.Core.Bool.{true, false, ◌&&◌}
use mathlib.Core.List.{List}
use Prim.Native.Nat.{ℕ, ◌+◌, ◌*◌, ◌/◌, ◌≤◌, ◌<◌}
use native.Mathlib.Nat.{mul-le-mul, le-div_iff_mul-le, le_refl, suc-mul}
use native.Mathlib.Omega.{arith}
use lib.Dec.{leb, ltb}
use lib.ListN.{length, take, drop}
use borrow.Author.Tests.{lt-ltb, le-ltb, leb-true, leb-false, le-leb, lt-leb, ltb-true, ltb-false}
use Rattle.std.specs.Prelude.{Result, Ok, Err, MatchResult}
use Rattle.rules.specs.declared.Refusal.{Refusal}
use Rattle.rules.specs.Refusals.{refusal_number}
use Rattle.rules.specs.Answers.{side, PartAnswer, no_part, test_room, test_number, grid_of}
use Rattle.grids.specs.declared.handing.Handed.{Handed}
use Rattle.grids.specs.declared.handing.Place.{Place}
use Rattle.grids.specs.Parts.{answer, Placed}
use Rattle.rules.proofs.Tests.{by_test, and_true, and_none, true_and}

-- ## Sizes

-- a board has cells
some_cells : (w h : ℕ) → side w ≡ true → side h ≡ true → 1 ≤ w * h
some_cells w h p q = mul-le-mul (leb-true 1 w (and_true (leb 1 w) (leb w 16) p).0) (leb-true 1 h (and_true (leb 1 h) (leb h 16) q).0)

-- and no more than 256
pub few_cells : (w h : ℕ) → side w ≡ true → side h ≡ true → w * h ≤ 256
few_cells w h p q = mul-le-mul (leb-true w 16 (and_true (leb 1 w) (leb w 16) p).1) (leb-true h 16 (and_true (leb 1 h) (leb h 16) q).1)

-- so many grids fit just if a division says so
fit : {n size l : ℕ} → 1 ≤ size → n ≤ l / size → n * size ≤ l
fit {n} {size} {l} h q = (le-div_iff_mul-le {x = n} {y = l} h).0 q

do_not_fit : {n size l : ℕ} → 1 ≤ size → l / size < n → l < n * size
do_not_fit {n} {size} {l} h q = by_test (leb (n * size) l)
    (λ e. absurd (let z = (le-div_iff_mul-le {x = n} {y = l} h).1 (leb-true (n * size) l e) in omega arith))
    (λ e. leb-false (n * size) l e)

-- ## The tests

-- all tests are passed
pub record Passed (list : List ℕ) (w h n i : ℕ) : Type 0 where
  pub wide : side w ≡ true
  pub high : side h ≡ true
  pub room : n * (w * h) ≤ length list
  pub below : i < n

module _ (list : List ℕ) (w h n i : ℕ) where
  pub refused_width : side w ≡ false → no_part 11 ≡ grid_of list w h n i
  unfolding grid_of
  refused_width e = rw (e, grid_of) refl

  pub refused_height : side h ≡ false → no_part 11 ≡ grid_of list w h n i
  unfolding grid_of
  refused_height e = rw (e, and_none (side w), grid_of) refl

  module _ (wide : side w ≡ true) (high : side h ≡ true) where
    sides : side w && side h ≡ true
    sides = true_and wide high

    some : 1 ≤ w * h
    some = some_cells w h wide high

    pub refused_list : length list / (w * h) < n → no_part 16 ≡ grid_of list w h n i
    unfolding grid_of
    refused_list l = rw (sides, lt-leb (n * (w * h)) (length list) (do_not_fit some l), grid_of, test_room) refl

    module _ (few : n ≤ length list / (w * h)) where
      enough : leb (n * (w * h)) (length list) ≡ true
      enough = le-leb (n * (w * h)) (length list) (fit some few)

      pub refused_grid : n ≤ i → no_part 20 ≡ grid_of list w h n i
      unfolding grid_of
      refused_grid l = rw (sides, enough, le-ltb i n l, grid_of, test_room, test_number) refl

      handed : i < n → record { number = 0; part = take (w * h) (drop (i * (w * h)) list) } ≡ grid_of list w h n i
      unfolding grid_of
      handed l = rw (sides, enough, lt-ltb i n l, grid_of, test_room, test_number) refl

      -- it ends before the list does
      inside : i < n → i * (w * h) + w * h ≤ length list
      inside l = omega (arith, fit some few, suc-mul i (w * h), mul-le-mul l (le_refl (w * h)))

      pub placed : i < n → Placed list w h n i (record { start = i * (w * h); size = w * h })
      placed l = record { handed = handed l; starts = refl; sized = refl; inside = inside l }

  -- where the number is 0 all tests are passed
  pub passed : (k : ℕ) → k ≡ (grid_of list w h n i).number → k ≡ 0 → Passed list w h n i
  passed k e z = by_test (side w)
      (λ wide. by_test (side h)
      (λ high. by_test (leb n (length list / (w * h)))
      (λ few. by_test (ltb i n)
      (λ below. record { wide = wide; high = high; room = fit (some wide high) (leb-true n (length list / (w * h)) few); below = ltb-true i n below })
      (λ no. other 20 (refused_grid wide high (leb-true n (length list / (w * h)) few) (ltb-false i n no)) (omega arith)))
      (λ no. other 16 (refused_list wide high (leb-false n (length list / (w * h)) no)) (omega arith)))
      (λ no. other 11 (refused_height no) (omega arith)))
      (λ no. other 11 (refused_width no) (omega arith))
    where
      other : (m : ℕ) → no_part m ≡ grid_of list w h n i → 0 < m → Passed list w h n i
      other m r some = absurd (let q : m ≡ (grid_of list w h n i).number = ap (λ (x : PartAnswer). x.number) r in omega (arith, e, z))

-- ## One answer

-- two results that the contract of `grid` allows for one input are equal: the number, and every byte of the part
pub one_part : (list : List ℕ) (w h n i : ℕ) (a b : Handed) → answer a ≡ grid_of list w h n i → answer b ≡ grid_of list w h n i → (a.number ≡ b.number) × (a.part.now ≡ b.part.now)
one_part list w h n i a b p q = let e : answer a ≡ answer b = p ∙ sym q in (ap (λ r. r.number) e, ap (λ r. r.part) e)

-- the same of `number` and of `part`, each a field of the answer
pub one_field : {A : Type 0} (field : PartAnswer → A) (list : List ℕ) (w h n i : ℕ) {x y : A} → x ≡ field (grid_of list w h n i) → y ≡ field (grid_of list w h n i) → x ≡ y
one_field field list w h n i p q = p ∙ sym q

-- what the contract of `place_of` says of its result
abbrev pub PlaceOf : List ℕ → ℕ → ℕ → ℕ → ℕ → Result Place Refusal → Type 0
PlaceOf list w h n i r = MatchResult r (λ p. Placed list w h n i p) (λ e. no_part (refusal_number e) ≡ grid_of list w h n i)

-- two results that it allows for one input are equal: where the grid stands, or why it is refused
pub one_place : (list : List ℕ) (w h n i : ℕ) (a b : Result Place Refusal) → PlaceOf list w h n i a → PlaceOf list w h n i b → a ≡ b
one_place list w h n i (Ok p) (Ok q) f g = λ j. Ok (record { start = (f.starts ∙ sym g.starts) j; size = (f.sized ∙ sym g.sized) j })
one_place list w h n i (Ok p) (Err e) f g = let m = ap (λ (r : PartAnswer). r.number) (f.handed ∙ sym g) in grind arith
one_place list w h n i (Err d) (Ok q) f g = let m = ap (λ (r : PartAnswer). r.number) (f ∙ sym g.handed) in grind arith
one_place list w h n i (Err d) (Err e) f g = let m = ap (λ (r : PartAnswer). r.number) (f ∙ sym g) in grind arith
