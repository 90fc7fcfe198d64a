-- Laws of `keep`, `every`, `any`, `first`, `from` and `sum`, and of membership.
use mathlib.Core.Path.{◌≡◌, refl, sym, ap, ap₂, subst, ◌∙◌}
use mathlib.Core.Logic.{◌⊎◌, inl, inr}
use mathlib.Core.Bool.{Bool, true, false, not, ◌&&◌, ◌||◌, cond, true≢false, false≢true}
use mathlib.Core.List.Memᴰ
use mathlib.Core.List.{List, [], ◌∷◌, ◌++◌, map, Memᴰ, append_assoc}
use mathlib.Core.Option.{Option, none, some}
use Prim.Native.Nat.{ℕ, zero, suc, ◌+◌, ◌-◌, ◌≤◌, ◌<◌}
use native.Mathlib.Numerals.{add-one}
use native.Mathlib.Omega.{arith}
use lib.ListN.{length, get_or, replicate, set, take}
use lib.Seq.{take-suc-set}
use lib.Dec.{eqb}
use borrow.Author.Tests.{eqb-true, eq-eqb}
use Rattle.rules.specs.Lists.{keep, every, any, first, joined, from, digit}
use Rattle.rules.proofs.Tests.{on_test, by_test, by_equal, clash, and_true, true_and}

-- a is in l
abbrev pub In : {A : Type 0} → A → List A → Type 0
In a l = Memᴰ a l

module _ {A : Type 0} (p : A → Bool) where
  pub keep_in : (l : List A) {a : A} → In a (keep p l) → In a l × (p a ≡ true)
  keep_in [] m = absurd (Memᴰ.not-nil m)
  keep_in (x ∷ l) {a} m = go (p x) refl m (λ k. keep_in l k)
    where
      later : In a l × (p a ≡ true) → In a (x ∷ l) × (p a ≡ true)
      later r = (Memᴰ.tail r.0, r.1)

      go : (v : Bool) → p x ≡ v → In a (elim v [ true ↦ x ∷ keep p l | false ↦ keep p l ]) → (In a (keep p l) → In a l × (p a ≡ true)) → In a (x ∷ l) × (p a ≡ true)
      go true e k ih = elim (Memᴰ.cases_cons k) [ inl q ↦ (Memᴰ.head q, ap p q ∙ e) | inr n ↦ later (ih n) ]
      go false e k ih = later (ih k)

  pub in_keep : (l : List A) {a : A} → In a l → p a ≡ true → In a (keep p l)
  in_keep [] m h = m
  in_keep (x ∷ l) {a} m h = on_test (λ r. In a r) (p x)
      (λ e. elim (Memᴰ.cases_cons m) [ inl q ↦ Memᴰ.head q | inr n ↦ Memᴰ.tail (in_keep l n h) ])
      (λ e. elim (Memᴰ.cases_cons m) [ inl q ↦ clash (sym (ap p q) ∙ h) e | inr n ↦ in_keep l n h ])

  pub keep_few : (l : List A) → length (keep p l) ≤ length l
  keep_few [] = omega arith
  keep_few (x ∷ l) = let ih = keep_few l in on_test (λ r. length r ≤ suc (length l)) (p x) (λ e. omega arith) (λ e. omega arith)

  pub keep_append : (l m : List A) → keep p (l ++ m) ≡ keep p l ++ keep p m
  keep_append [] m = refl
  keep_append (x ∷ l) m = let ih = keep_append l m in by_test (p x) (λ e. rw (e, keep) (ap (λ r. x ∷ r) ih)) (λ e. rw (e, keep) ih)

  pub any_out : (l : List A) → any p l ≡ true → (a : A) × In a l × (p a ≡ true)
  any_out [] e = absurd (false≢true e)
  any_out (x ∷ l) e = go (p x) refl e (λ k. any_out l k)
    where
      go : (v : Bool) → p x ≡ v → v || any p l ≡ true → (any p l ≡ true → (a : A) × In a l × (p a ≡ true)) → (a : A) × In a (x ∷ l) × (p a ≡ true)
      go true h k ih = (x, Memᴰ.head refl, h)
      go false h k ih = let r = ih k in (r.0, Memᴰ.tail r.1, r.2)

  pub any_in : (l : List A) {a : A} → In a l → p a ≡ true → any p l ≡ true
  any_in [] m h = absurd (Memᴰ.not-nil m)
  any_in (x ∷ l) {a} m h = by_test (p x) (λ e. rw e) (λ e. rw e (elim (Memᴰ.cases_cons m) [ inl q ↦ clash (sym (ap p q) ∙ h) e | inr n ↦ any_in l n h ]))

  pub every_out : (l : List A) {a : A} → every p l ≡ true → In a l → p a ≡ true
  every_out [] e m = absurd (Memᴰ.not-nil m)
  every_out (x ∷ l) {a} e m = let r = and_true (p x) (every p l) e in
      elim (Memᴰ.cases_cons m) [ inl q ↦ ap p q ∙ r.0 | inr n ↦ every_out l r.1 n ]

  pub every_in : (l : List A) → ((a : A) → In a l → p a ≡ true) → every p l ≡ true
  every_in [] f = refl
  every_in (x ∷ l) f = true_and (f x (Memᴰ.head refl)) (every_in l (λ a m. f a (Memᴰ.tail m)))

  -- the first element that passes, if any does
  pub first_some : (l : List A) {a : A} → first p l ≡ some a → In a l × (p a ≡ true)
  first_some [] e = absurd (let z : ◌≡◌ {A = ℕ} 0 1 = cc in omega arith)
  first_some (x ∷ l) {a} e = go (p x) refl e (λ k. first_some l k)
    where
      go : (v : Bool) → p x ≡ v → (elim v as (λ _. Option A) [ true ↦ some x | false ↦ first p l ]) ≡ some a → (first p l ≡ some a → In a l × (p a ≡ true)) → In a (x ∷ l) × (p a ≡ true)
      go true h k ih = let q : a ≡ x = cc in (Memᴰ.head q, ap p q ∙ h)
      go false h k ih = let r = ih k in (Memᴰ.tail r.0, r.1)

  -- where there is no first, none passes
  pub first_none : (l : List A) {a : A} → first p l ≡ none → In a l → p a ≡ false
  first_none [] e m = absurd (Memᴰ.not-nil m)
  first_none (x ∷ l) {a} e m = go (p x) refl e (λ k n. first_none l k n)
    where
      go : (v : Bool) → p x ≡ v → ◌≡◌ {A = Option A} (elim v [ true ↦ some x | false ↦ first p l ]) none → (first p l ≡ none → In a l → p a ≡ false) → p a ≡ false
      go true h k ih = absurd (let z : ◌≡◌ {A = ℕ} 0 1 = cc in omega arith)
      go false h k ih = elim (Memᴰ.cases_cons m) [ inl q ↦ ap p q ∙ h | inr n ↦ ih k n ]

  -- and where some element passes, there is a first
  pub first_found : (l : List A) → any p l ≡ true → (a : A) × (first p l ≡ some a) × In a l × (p a ≡ true)
  first_found [] e = absurd (false≢true e)
  first_found (x ∷ l) e = go (p x) refl e (λ k. first_found l k)
    where
      go : (v : Bool) → p x ≡ v → v || any p l ≡ true → (any p l ≡ true → (a : A) × (first p l ≡ some a) × In a l × (p a ≡ true)) →
          (a : A) × ((elim v as (λ _. Option A) [ true ↦ some x | false ↦ first p l ]) ≡ some a) × In a (x ∷ l) × (p a ≡ true)
      go true h k ih = (x, refl, Memᴰ.head refl, h)
      go false h k ih = let r = ih k in (r.0, r.1, Memᴰ.tail r.2, r.3)

  -- and where none does, there is none
  pub none_first : (l : List A) → ((a : A) → In a l → p a ≡ false) → first p l ≡ none
  none_first [] f = refl
  none_first (x ∷ l) f = rw (f x (Memᴰ.head refl), first) (none_first l (λ a m. f a (Memᴰ.tail m)))

-- what does not pass everywhere fails somewhere
pub not_every : {A : Type 0} (p : A → Bool) (l : List A) → every p l ≡ false → any (λ a. not (p a)) l ≡ true
not_every p [] e = absurd (true≢false e)
not_every p (x ∷ l) e = go (p x) e (λ k. not_every p l k)
  where
    go : (v : Bool) → v && every p l ≡ false → (every p l ≡ false → any (λ a. not (p a)) l ≡ true) → not v || any (λ a. not (p a)) l ≡ true
    go true k ih = ih k
    go false k ih = refl

-- keeping by a test that passes less often keeps no more, and less where some element tells
pub keep_fewer : {A : Type 0} (p q : A → Bool) (l : List A) → ((a : A) → In a l → p a ≡ true → q a ≡ true) → length (keep p l) ≤ length (keep q l)
keep_fewer p q [] f = omega arith
keep_fewer p q (x ∷ l) f = let ih = keep_fewer p q l (λ a m. f a (Memᴰ.tail m)) in
    on_test (λ r. length r ≤ length (keep q (x ∷ l))) (p x)
    (λ e. on_test (λ r. suc (length (keep p l)) ≤ length r) (q x) (λ k. omega arith) (λ k. clash (f x (Memᴰ.head refl) e) k))
    (λ e. on_test (λ r. length (keep p l) ≤ length r) (q x) (λ k. omega arith) (λ k. omega arith))

pub keep_less : {A : Type 0} (p q : A → Bool) (l : List A) → ((a : A) → In a l → p a ≡ true → q a ≡ true) → {a : A} → In a l → p a ≡ false → q a ≡ true →
    length (keep p l) < length (keep q l)
keep_less p q [] f m h k = absurd (Memᴰ.not-nil m)
keep_less p q (x ∷ l) f {a} m h k =
    let rest : (b : _) → In b l → p b ≡ true → q b ≡ true = λ b n. f b (Memᴰ.tail n) in
    elim (Memᴰ.cases_cons m) [
      | inl e ↦ (let ih = keep_fewer p q l rest in
          on_test (λ r. length r < length (keep q (x ∷ l))) (p x) (λ u. clash u (ap p (sym e) ∙ h))
          (λ u. on_test (λ r. length (keep p l) < length r) (q x) (λ v. omega arith) (λ v. clash (ap q (sym e) ∙ k) v)))
      | inr n ↦ (let ih = keep_less p q l rest n h k in
          on_test (λ r. length r < length (keep q (x ∷ l))) (p x)
          (λ u. on_test (λ r. suc (length (keep p l)) < length r) (q x) (λ v. omega arith) (λ v. clash (f x (Memᴰ.head refl) u) v))
          (λ u. on_test (λ r. length (keep p l) < length r) (q x) (λ v. omega arith) (λ v. omega arith)))
    ]

-- a list with an element is not empty
pub in_some : {A : Type 0} {l : List A} {a : A} → In a l → 0 < length l
in_some {l = []} m = absurd (Memᴰ.not-nil m)
in_some {l = x ∷ l} m = omega arith

-- tests that agree keep the same
pub keep_same : {A : Type 0} (p q : A → Bool) (l : List A) → ((a : A) → In a l → p a ≡ q a) → keep p l ≡ keep q l
keep_same p q [] f = refl
keep_same {A} p q (x ∷ l) f =
    let ih : keep p l ≡ keep q l = keep_same p q l (λ a m. f a (Memᴰ.tail m)) in
    ap₂ (λ (v : Bool) (r : List A). elim v as (λ _. List A) [ true ↦ x ∷ r | false ↦ r ]) (f x (Memᴰ.head refl)) ih

-- tests that agree on a list agree on whether one passes, and on whether each does
pub any_same : {A : Type 0} (p q : A → Bool) (l : List A) → ((a : A) → In a l → p a ≡ q a) → any p l ≡ any q l
any_same p q [] f = refl
any_same p q (x ∷ l) f = ap₂ ◌||◌ (f x (Memᴰ.head refl)) (any_same p q l (λ a m. f a (Memᴰ.tail m)))

pub every_same : {A : Type 0} (p q : A → Bool) (l : List A) → ((a : A) → In a l → p a ≡ q a) → every p l ≡ every q l
every_same p q [] f = refl
every_same p q (x ∷ l) f = ap₂ ◌&&◌ (f x (Memᴰ.head refl)) (every_same p q l (λ a m. f a (Memᴰ.tail m)))

pub keep_map : {A C : Type 0} (p : C → Bool) (f : A → C) (l : List A) → keep p (map f l) ≡ map f (keep (λ a. p (f a)) l)
keep_map p f [] = refl
keep_map p f (x ∷ l) = let ih = keep_map p f l in by_test (p (f x)) (λ e. rw (e, keep) (ap (λ r. f x ∷ r) ih)) (λ e. rw (e, keep) ih)

pub keep_keep : {A : Type 0} (p q : A → Bool) (l : List A) → keep p (keep q l) ≡ keep (λ a. q a && p a) l
keep_keep p q [] = refl
keep_keep p q (x ∷ l) = let ih = keep_keep p q l in by_test (q x) (λ e. rw (e, keep) (by_test (p x) (λ f. rw (f, keep) (ap (λ r. x ∷ r) ih)) (λ f. rw (f, keep) ih))) (λ e. rw (e, keep) ih)

-- ## Numbers

pub length_from : (i n : ℕ) → length (from i n) ≡ n
length_from i zero = refl
length_from i (suc n) = ap suc (length_from (suc i) n)

pub from_low : (i n : ℕ) {c : ℕ} → In c (from i n) → (i ≤ c) × (c < i + n)
from_low i zero m = absurd (Memᴰ.not-nil m)
from_low i (suc n) m = elim (Memᴰ.cases_cons m) [ inl q ↦ (omega arith, omega arith) | inr k ↦ (let r = from_low (suc i) n k in (omega arith, omega arith)) ]

pub in_from : (i n c : ℕ) → i ≤ c → c < i + n → In c (from i n)
in_from i zero c h k = absurd (omega arith)
in_from i (suc n) c h k = by_equal c i (λ e. Memᴰ.head e) (λ e. Memᴰ.tail (in_from (suc i) n c (omega arith) (omega arith)))

pub below : (n c : ℕ) → c < n → In c (from 0 n)
below n c h = in_from 0 n c (omega arith) (omega arith)

-- the first number that passes is the one that passes where none below it does
pub first_least : (p : ℕ → Bool) (i n m : ℕ) → i ≤ m → m < i + n → p m ≡ true → ((j : ℕ) → i ≤ j → j < m → p j ≡ false) → first p (from i n) ≡ some m
first_least p i zero m h k e f = absurd (omega arith)
first_least p i (suc n) m h k e f = by_equal i m
    (λ q. rw (ap p q ∙ e, first) (ap some q))
    (λ q. let l : i < m = omega arith in rw (f i (omega arith) l, first) (first_least p (suc i) n m l (omega arith) e (λ j g r. f j (omega arith) r)))

-- the numbers from i on, below n: the next one, and those after it
pub from_more : (i n : ℕ) → i < n → from i (n - i) ≡ i ∷ from (i + 1) (n - (i + 1))
from_more i n h = let z : n - i ≡ suc (n - (i + 1)) = omega arith in ap (from i) z ∙ ap (λ j. i ∷ from j (n - (i + 1))) (sym (add-one i))

pub from_end : (i n : ℕ) → n ≤ i → from i (n - i) ≡ []
from_end i n h = let z : n - i ≡ 0 = omega arith in ap (from i) z

pub from_start : (n : ℕ) → from 0 (n - 0) ≡ from 0 n
from_start n = let z : n - 0 ≡ n = omega arith in ap (from 0) z

-- a test of those numbers, one after the other
module _ (p : ℕ → Bool) (i n : ℕ) where
  pub any_now : i < n → p i ≡ true → any p (from i (n - i)) ≡ true
  any_now h e = rw (from_more i n h, e)

  pub any_more : i < n → p i ≡ false → any p (from i (n - i)) ≡ any p (from (i + 1) (n - (i + 1)))
  any_more h e = rw (from_more i n h, e)

  pub any_end : n ≤ i → any p (from i (n - i)) ≡ false
  any_end h = rw (from_end i n h)

  pub first_now : i < n → p i ≡ true → first p (from i (n - i)) ≡ some i
  first_now h e = rw (from_more i n h, e, first)

  pub first_more : i < n → p i ≡ false → first p (from i (n - i)) ≡ first p (from (i + 1) (n - (i + 1)))
  first_more h e = rw (from_more i n h, e, first)

  pub first_end : n ≤ i → first p (from i (n - i)) ≡ none
  first_end h = rw (from_end i n h)

  pub keep_more : i < n → keep p (from i (n - i)) ≡ cond (p i) (i ∷ keep p (from (i + 1) (n - (i + 1)))) (keep p (from (i + 1) (n - (i + 1))))
  keep_more h = rw (from_more i n h, keep) (by_test (p i) (λ e. rw e) (λ e. rw e))

-- a list given number by number
pub get_or-given : {A : Type 0} (f : ℕ → A) (i n k : ℕ) (d : A) → k < n → get_or (map f (from i n)) k d ≡ f (i + k)
get_or-given f i zero k d h = absurd (omega arith)
get_or-given f i (suc n) zero d h = ap f (omega arith)
get_or-given f i (suc n) (suc k) d h = get_or-given f (suc i) n k d (omega arith) ∙ ap f (omega arith)

-- what a counting loop has still to keep, at a turn: the next number, and those after it
pub keep_turn : (p : ℕ → Bool) (i n : ℕ) → i < n → length (keep p (from i (n - i))) ≡ digit (p i) + length (keep p (from (i + 1) (n - (i + 1))))
keep_turn p i n h = subst (λ j. length (keep p (from i (n - i))) ≡ digit (p i) + length (keep p (from j (n - j)))) (sym (add-one i)) turn
  where
    turn : length (keep p (from i (n - i))) ≡ digit (p i) + length (keep p (from (suc i) (n - suc i)))
    turn = let z : n - i ≡ suc (n - suc i) = omega arith in rw z (by_test (p i) (λ e. rw e (omega arith)) (λ e. rw e (omega arith)))

pub get_or-in : {A : Type 0} (l : List A) (i : ℕ) (d : A) → i < length l → In (get_or l i d) l
get_or-in [] i d h = absurd (omega arith)
get_or-in (x ∷ l) zero d h = Memᴰ.head refl
get_or-in (x ∷ l) (suc i) d h = Memᴰ.tail (get_or-in l i d (omega arith))

pub in-get_or : {A : Type 0} (l : List A) (d : A) {a : A} → In a l → (i : ℕ) × (i < length l) × (a ≡ get_or l i d)
in-get_or [] d m = absurd (Memᴰ.not-nil m)
in-get_or (x ∷ l) d m = elim (Memᴰ.cases_cons m) [ inl q ↦ (0, omega arith, q) | inr n ↦ (let r = in-get_or l d n in (suc r.0, omega (arith, r.1), r.2)) ]

pub get_or-replicate_same : {A : Type 0} (n i : ℕ) (a : A) → get_or (replicate n a) i a ≡ a
get_or-replicate_same zero i a = refl
get_or-replicate_same (suc n) zero a = refl
get_or-replicate_same (suc n) (suc i) a = get_or-replicate_same n i a

-- a number is in a list, or it is not
pub in_or_not : (c : ℕ) (l : List ℕ) → In c l ⊎ (In c l → ⊥)
in_or_not c l = by_test (any (eqb c) l)
    (λ e. let r = any_out (eqb c) l e in inl (subst (λ x. In x l) (sym (eqb-true c r.0 r.2)) r.1))
    (λ e. inr (λ m. clash (any_in (eqb c) l m (eq-eqb c c refl)) e))

pub in_map : {A C : Type 0} (f : A → C) (l : List A) {a : A} → In a l → In (f a) (map f l)
in_map f [] m = absurd (Memᴰ.not-nil m)
in_map f (x ∷ l) m = elim (Memᴰ.cases_cons m) [ inl q ↦ Memᴰ.head (ap f q) | inr n ↦ Memᴰ.tail (in_map f l n) ]

pub map_in : {A C : Type 0} (f : A → C) (l : List A) {y : C} → In y (map f l) → (a : A) × In a l × (y ≡ f a)
map_in f [] m = absurd (Memᴰ.not-nil m)
map_in f (x ∷ l) m = elim (Memᴰ.cases_cons m) [ inl q ↦ (x, Memᴰ.head refl, q) | inr n ↦ (let r = map_in f l n in (r.0, Memᴰ.tail r.1, r.2)) ]

-- element i of what a function gives of a list
pub get_or-map : {A C : Type 0} (f : A → C) (l : List A) (i : ℕ) (d : C) (e : A) → i < length l → get_or (map f l) i d ≡ f (get_or l i e)
get_or-map f [] i d e h = absurd (omega arith)
get_or-map f (x ∷ l) zero d e h = refl
get_or-map f (x ∷ l) (suc i) d e h = get_or-map f l i d e (omega arith)

-- functions that agree on a list give the same of it, and the other way round
pub map_same : {A C : Type 0} (f g : A → C) (l : List A) → ((a : A) → In a l → f a ≡ g a) → map f l ≡ map g l
map_same f g [] h = refl
map_same {C = C} f g (x ∷ l) h = ap₂ (λ (y : C) (r : List C). y ∷ r) (h x (Memᴰ.head refl)) (map_same f g l (λ a m. h a (Memᴰ.tail m)))

pub map_agree : {A C : Type 0} (f g : A → C) (l : List A) {a : A} → map f l ≡ map g l → In a l → f a ≡ g a
map_agree f g [] e m = absurd (Memᴰ.not-nil m)
map_agree f g (x ∷ l) e m = elim (Memᴰ.cases_cons m) [ inl q ↦ ap f q ∙ here ∙ ap g (sym q) | inr n ↦ map_agree f g l there n ]
  where
    here : f x ≡ g x
    here = cc

    there : map f l ≡ map g l
    there = cc

pub any_map : {A C : Type 0} (p : C → Bool) (f : A → C) (l : List A) → any p (map f l) ≡ any (λ a. p (f a)) l
any_map p f [] = refl
any_map p f (x ∷ l) = ap (λ v. p (f x) || v) (any_map p f l)

-- an array filled from the front gets its next element
pub take_store : {A : Type 0} (l rest : List A) (n : ℕ) (a : A) → n < length l → take (n + 1) (set l n a) ++ rest ≡ take n l ++ (a ∷ rest)
take_store l rest n a h = rw (add-one, take-suc-set l n a h) (append_assoc (take n l) (a ∷ []) rest)

-- an element of lists joined is in one of them
pub joined_in : {A C : Type 0} (f : A → List C) (l : List A) {y : C} → In y (joined (map f l)) → (a : A) × In a l × In y (f a)
joined_in f [] m = absurd (Memᴰ.not-nil m)
joined_in f (x ∷ l) m = elim (Memᴰ.append_cases (f x) m) [ inl k ↦ (x, Memᴰ.head refl, k) | inr k ↦ (let r = joined_in f l k in (r.0, Memᴰ.tail r.1, r.2)) ]
