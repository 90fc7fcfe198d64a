-- `root` gives the f64 nearest the exact square root, and no number has two nearest f64s.
-- The root's digits come from a whole root with one digit more that says whether anything is left, so that the rounding goes to the side on which the exact root lies. It never lies half way
-- between two f64s: the square of an odd number of so many digits is no f64 times a power of two. So half way to any other f64 lies beyond the exact root.
use mathlib.Core.Path.{◌≡◌, refl, sym, ap, ap₂, subst, ◌∙◌}
use mathlib.Core.Logic.{◌⊎◌, inl, inr}
use mathlib.Core.Bool.{Bool, true, false, not, ◌&&◌, ◌||◌, beq}
use Prim.Native.Nat.{ℕ, zero, suc, ◌+◌, ◌-◌, ◌*◌, ◌/◌, ◌%◌, ◌^◌, ◌≤◌, ◌<◌}
use native.Mathlib.Nat.{pow-suc, mul_assoc, mul_comm, mul_right_comm, mul-le-mul, mul-le-mul_left, mul-lt-mul_of_pos_right, mul-pos, mul-mul-mul_comm, mul-sub, mul-div_cancel, zero-mul, add_comm, eq-zero-or-pos, lt_of_lt_of_le, lt_of_le_of_lt, le_trans, le_of_eq, eq-or-lt_of_le}
use native.Mathlib.Omega.{arith}
use native.Mathlib.Decide.{ℕ_discrete}
use lib.IntN.{ℤ, pos}
use lib.Pow.{pow-add, pow_pos}
use lib.Dec.{T, eqb, lit<, lit≤}
use lib.Arith.{lt_of_le-ne}
use lib.Ieee.{Float, nan, inf, fin, binary64, up, down, round, eq, ne, fits}
use lib.Ieee.Fits.{down_pos}
use lib.Ieee.Positive.{num, den, den_pos}
use borrow.Author.Tests.{eq-eqb}
use Rattle.rules.specs.Floats.{whole_root, sticky, root_of, root}
use Rattle.rules.specs.Roots.{Plain, plain, Nearer, Farther, Nearest}
use Rattle.rules.proofs.Squares.{square_odd, square_lt, IsRoot, whole_root_lem}
use Rattle.rules.proofs.Plain.{plain_fits, held, same_number, different, unequal, AtMost, round_at_most}
use Rattle.rules.proofs.Rounding.{Rounded, rounded}
use Rattle.rules.proofs.Farther.{Around, steps, nearer, nearer_minus}

-- ## The whole root with its last digit lies on the exact root's side of each even number

pub sticky_le : (n : ℕ) → sticky n ≤ 1
sticky_le zero = lit≤ tt
sticky_le (suc n) = lit≤ tt

sticky_none : (n : ℕ) → sticky n ≡ 0 → n ≡ 0
sticky_none zero e = refl
sticky_none (suc n) e = absurd (omega arith)

module _ (n r : ℕ) (i : IsRoot n r) (h : ℕ) where
  side_below : h * 2 ≤ r * 2 + sticky (n - r * r) → h * h ≤ n
  side_below l =
      let k : h ≤ r = omega (arith, sticky_le (n - r * r)) in
      le_trans (mul-le-mul k k) i.low

  side_above : r * 2 + sticky (n - r * r) ≤ h * 2 → (h * h ≡ n → ⊥) → n < h * h
  side_above l unlike =
      let k : r ≤ h = omega arith in
      elim (eq-or-lt_of_le k) [
        | inl e ↦
            (let left : n - r * r ≡ 0 = sticky_none (n - r * r) (omega arith) in
            let same : r * r ≡ h * h = ap (λ (z : ℕ). z * z) e in
            absurd (unlike (omega (arith, i.low))))
        | inr m ↦ lt_of_lt_of_le i.high (mul-le-mul {n₁ = r + 1} {m₁ = r + 1} {n₂ = h} {m₂ = h} (omega arith) (omega arith))
      ]

-- ## It is never half way

-- an odd number above m is no power of two times m, scaled by a power of two
no_tie : (a m i j : ℕ) → a % 2 ≡ 1 → m < a → a * 2 ^ i ≡ m * 2 ^ j → ⊥
no_tie a m zero zero o l e = omega arith
no_tie a m zero (suc j) o l e =
    let p : m * 2 ^ suc j ≡ m * 2 ^ j * 2 = ap (λ (n : ℕ). m * n) (pow-suc 2 j) ∙ sym (mul_assoc m (2 ^ j) 2) in
    omega arith
no_tie a m (suc i) zero o l e =
    let p : a * 1 ≤ a * 2 ^ suc i = mul-le-mul_left a (pow_pos (suc i)) in
    omega arith
no_tie a m (suc i) (suc j) o l e =
    let p : m * 2 ^ suc j ≡ m * 2 ^ j * 2 = ap (λ (n : ℕ). m * n) (pow-suc 2 j) ∙ sym (mul_assoc m (2 ^ j) 2) in
    let q : a * 2 ^ suc i ≡ a * 2 ^ i * 2 = ap (λ (n : ℕ). a * n) (pow-suc 2 i) ∙ sym (mul_assoc a (2 ^ i) 2) in
    no_tie a m i j o l (omega arith)

-- q in units of 2 ^ -54: a number of at most 53 digits, with zeros behind it
pub record InUnits (q : Float) : Type 0 where
  pub units : ℕ
  pub kept : ℕ
  pub places : ℕ
  pub value : num q * 2 ^ 54 ≡ units * den q
  pub is : units ≡ kept * 2 ^ places
  pub short : kept < 2 ^ 53
  pub high : units < 2 ^ 62

never_half : (q : Float) (u : InUnits q) (t i : ℕ) → 2 ^ 52 ≤ t + 1 → (t * 2 + 1) * 2 ^ i * ((t * 2 + 1) * 2 ^ i) ≡ u.units * 2 ^ 54 → ⊥
never_half q u t i l e =
    let o = t * 2 + 1 in
    let s = square_odd t in
    let left : o * 2 ^ i * (o * 2 ^ i) ≡ o * o * 2 ^ (i + i) = mul-mul-mul_comm o (2 ^ i) o (2 ^ i) ∙ ap (λ (n : ℕ). o * o * n) (sym (pow-add 2 i i)) in
    let right : u.units * 2 ^ 54 ≡ u.kept * 2 ^ (u.places + 54) =
    ap (λ (n : ℕ). n * 2 ^ 54) u.is ∙ mul_assoc u.kept (2 ^ u.places) (2 ^ 54) ∙ ap (λ (n : ℕ). u.kept * n) (sym (pow-add 2 u.places 54)) in
    no_tie (o * o) u.kept (i + i) (u.places + 54) (omega arith) (omega (arith, u.short)) (sym left ∙ e ∙ right)

-- ## The root that the definition computes

pub sticky_some : (n : ℕ) → 0 < n → sticky n ≡ 1
sticky_some zero h = absurd (omega arith)
sticky_some (suc n) h = refl

sticky_times : (n c : ℕ) → 0 < c → sticky (n * c) ≡ sticky n
sticky_times zero c C = ap sticky (zero-mul c)
sticky_times (suc n) c C = sticky_some (suc n * c) (mul-pos (omega arith) C)

-- twice the whole root of n, and 1 where anything is left
abbrev pub doubled : ℕ → ℕ
doubled n = let r = whole_root 58 n in r * 2 + sticky (n - r * r)

root_at : (a c n : ℕ) → 0 < c → a * 2 ^ 108 ≡ n * c → root_of a c ≡ round binary64 false (doubled n) (2 ^ 55)
root_at a c n C e =
    let whole : a * 2 ^ 108 / c ≡ n = ap (λ (z : ℕ). z / c) e ∙ mul-div_cancel n C in
    let r = whole_root 58 n in
    let rest : a * 2 ^ 108 - r * r * c ≡ (n - r * r) * c = ap (λ (z : ℕ). z - r * r * c) e ∙ sym (mul_comm (n - r * r) c ∙ mul-sub c n (r * r) ∙ ap₂ ◌-◌ (mul_comm c n) (mul_comm c (r * r))) in
    ap (λ (z : ℕ). round binary64 false (whole_root 58 z * 2 + sticky (a * 2 ^ 108 - whole_root 58 z * whole_root 58 z * c)) (2 ^ 55)) whole
    ∙ ap (λ (z : ℕ). round binary64 false (r * 2 + z) (2 ^ 55)) (ap sticky rest ∙ sticky_times (n - r * r) c C)

in_square_units : (q : Float) (u : InUnits q) → num q * 2 ^ 108 ≡ u.units * 2 ^ 54 * den q
in_square_units q u = omega (arith, u.value, mul_right_comm u.units (2 ^ 54) (den q))

pub root_is : {q : Float} → Plain q → (u : InUnits q) → root q ≡ round binary64 false (doubled (u.units * 2 ^ 54)) (2 ^ 55)
unfolding root
root_is (plain {m} {e} h) u = root_at (m * up e) (down e) (u.units * 2 ^ 54) (down_pos e) (in_square_units (fin false m e) u)

pub doubled_few : (n : ℕ) → n < 2 ^ 116 → doubled n < 2 ^ 60
doubled_few n h =
    let r = whole_root 58 n in
    let g = square_lt r (2 ^ 58) (omega (arith, (whole_root_lem 58 n h).low)) in
    omega (arith, sticky_le (n - r * r))

pub root_at_most : {q : Float} → Plain q → InUnits q → AtMost 32 (root q)
root_at_most p u =
    let n = u.units * 2 ^ 54 in
    let few = doubled_few n (omega (arith, u.high)) in
    subst (AtMost 32) (sym (root_is p u)) (round_at_most (doubled n) (2 ^ 55) 32 (lit< tt) (lit≤ tt) (omega arith))

-- ## It is the nearest

module _ (q : Float) (p : Plain q) (u : InUnits q) (low : 2 ^ 53 ≤ u.units) where
  n : ℕ
  n = u.units * 2 ^ 54

  scaled : num q * 2 ^ 108 ≡ n * den q
  unfolding n
  scaled = in_square_units q u

  r : ℕ
  r = whole_root 58 n

  whole : IsRoot n r
  unfolding r n
  whole = whole_root_lem 58 n (omega (arith, u.high))

  N : ℕ
  N = doubled n

  n_low : 2 ^ 54 ≤ N
  unfolding N r n
  n_low = let g = square_lt (2 ^ 53) (r + 1) (omega (arith, whole.high)) in omega arith

  n_high : N < 2 ^ 60
  unfolding N n
  n_high = doubled_few n (omega (arith, u.high))

  got : Rounded N
  got = rounded N n_low n_high

  D : ℕ
  D = got.digits

  P : ℕ
  P = 2 ^ got.place

  around : Around n D P
  unfolding D P N r n
  around =
      let below = (D * 2 - 1) * P in
      let above = (D * 2 + 1) * P in
      let odd : D * 2 - 1 ≡ (D - 1) * 2 + 1 = omega (arith, got.long) in
      let l : 2 ^ 52 ≤ D - 1 + 1 = omega (arith, got.long) in
      record {
        long = got.long;
        floor = side_below n r whole (2 ^ 53 * P) (omega (arith, got.floor));
        under = lt_of_le-ne (side_below n r whole below got.under)
            (λ (e : below * below ≡ n). never_half q u (D - 1) got.place l (subst (λ (o : ℕ). o * P * (o * P) ≡ n) odd e));
        over = side_above n r whole above got.over (λ (e : above * above ≡ n). never_half q u D got.place (omega arith) e);
      }

  R : Float
  R = round binary64 false N (2 ^ 55)

  r_plain : Plain R
  unfolding R
  r_plain = got.number

  here : (e : ℤ) → num R * down e * 2 ^ 53 ≡ D * P * (den R * down e)
  unfolding R D P
  here e = mul_right_comm (num R) (down e) (2 ^ 53) ∙ ap (λ (z : ℕ). z * down e) got.value ∙ mul_assoc (D * P) (den R) (down e)

  there : (m : ℕ) (e : ℤ) → m < 2 ^ 53 → ((k : ℕ) × (m * up e * den R * 2 ^ 53 ≡ k * P * (den R * down e))) ⊎ (m * up e * den R * 2 ^ 53 < 2 ^ 52 * P * (den R * down e))
  unfolding P
  there m e h =
      let swap : (k : ℕ) → k * P * down e * den R ≡ k * P * (den R * down e) = λ k. mul_assoc (k * P) (down e) (den R) ∙ ap (λ (z : ℕ). k * P * z) (mul_comm (down e) (den R)) in
      let turn = mul_right_comm (m * up e) (den R) (2 ^ 53) in
      elim (steps m e got.place h) [
        | inl k ↦ inl (k.0, turn ∙ ap (λ (z : ℕ). z * den R) k.1 ∙ swap k.0)
        | inr l ↦ inr (lt_of_le_of_lt (le_of_eq turn) (lt_of_lt_of_le (mul-lt-mul_of_pos_right l (den_pos R)) (le_of_eq (swap (2 ^ 52)))))
      ]

  others : (x : Float) → T (fits binary64 x) → T (ne x R) → Farther q R x
  others nan h k = tt
  others (inf s) h k = tt
  others (fin true m e) h k = nearer_minus q n D P scaled around (den R * down e) (mul-pos (den_pos R) (down_pos e)) (num R * down e) (m * up e * den R) (here e)
  others (fin false m e) h k =
      nearer q n D P scaled around (den R * down e) (mul-pos (den_pos R) (down_pos e)) (num R * down e) (m * up e * den R) (here e) (there m e (held m e h).digits)
      (different (plain h) r_plain k)

  pub root_nearest : Nearest q (root q)
  unfolding R N n
  root_nearest = subst (Nearest q) (sym (root_is p u)) (record { rooted = p; number = r_plain; others = others })

-- ## The root of zero

-- 0.0
abbrev pub nought : Float
nought = fin false 0 (pos 0)

nought_plain : Plain nought
unfolding fits
nought_plain = plain tt

pub nought_root : root nought ≡ nought
unfolding root whole_root round
nought_root = refl

other_than_nought : (s : Bool) (m : ℕ) (e : ℤ) → T (ne (fin s m e) nought) → 0 < m * up e
unfolding ne eq
other_than_nought s m e k = elim (eq-zero-or-pos (m * up e)) [ inl z ↦ absurd (go s k (eq-eqb (m * up e * 1) (0 * down e) (omega arith)) (eq-eqb (m * up e * 1) 0 (omega arith))) | inr l ↦ l ]
  where
    go : (s : Bool) → T (not (eqb (m * up e * 1) (0 * down e) && (beq s false || eqb (m * up e * 1) 0))) → eqb (m * up e * 1) (0 * down e) ≡ true → eqb (m * up e * 1) 0 ≡ true → ⊥
    go true k f g = subst (λ (b : Bool). T (not (b && true))) f (subst (λ (b : Bool). T (not (eqb (m * up e * 1) (0 * down e) && b))) g k)
    go false k f g = subst (λ (b : Bool). T (not (b && true))) f k

pub nought_nearest : Nearest nought nought
nought_nearest = record { rooted = nought_plain; number = nought_plain; others = others }
  where
    others : (x : Float) → T (fits binary64 x) → T (ne x nought) → Farther nought nought x
    others nan h k = tt
    others (inf s) h k = tt
    others (fin true m e) h k = inl (omega (arith, other_than_nought true m e k))
    others (fin false m e) h k =
        let w : 0 < 0 * down e + m * up e * 1 = omega (arith, other_than_nought false m e k) in
        inr (omega arith, lt_of_le_of_lt (le_of_eq (zero-mul (1 * down e * (1 * down e)))) (mul-pos (mul-pos w w) (lit< tt)))

-- ## One nearest

no_two : (q : Float) (d d' a c : ℕ) → d ≡ d' → Nearer q d a false c → Nearer q d' c false a → ⊥
no_two q d d' a c e (inl f) (inl g) = omega (arith, f.0, g.0)
no_two q d d' a c e (inr f) (inr g) = omega (arith, f.0, g.0)
no_two q d d' a c e (inl f) (inr g) = omega (arith, f.1, g.1, ap (λ (z : ℕ). 4 * num q * (z * z)) e, ap (λ (z : ℕ). z * z * den q) (add_comm a c))
no_two q d d' a c e (inr f) (inl g) = omega (arith, f.1, g.1, ap (λ (z : ℕ). 4 * num q * (z * z)) e, ap (λ (z : ℕ). z * z * den q) (add_comm a c))

farther : (q : Float) {r x : Float} → Plain r → Plain x → Farther q r x → Nearer q (den r * den x) (num r * den x) false (num x * den r)
farther q p (plain h) f = f

pub nearest_one : {q r s : Float} → Nearest q r → Nearest q s → r ≡ s
nearest_one {q} {r} {s} f g = elim (ℕ_discrete (num r * den s) (num s * den r)) [
  | yes e ↦ same_number f.number g.number e
  | no e ↦
      (let a = f.others s (plain_fits g.number) (unequal g.number f.number (λ (z : num s * den r ≡ num r * den s). e (sym z))) in
      let b = g.others r (plain_fits f.number) (unequal f.number g.number e) in
      absurd (no_two q (den r * den s) (den s * den r) (num r * den s) (num s * den r) (mul_comm (den r) (den s)) (farther q f.number g.number a) (farther q g.number f.number b)))
]
