-- Sets as numbers: bits, membership, and that a set is determined by its members.
use mathlib.Core.Path.{◌≡◌, refl, sym, ap, subst, ◌∙◌}
use mathlib.Core.Logic.{◌≢◌}
use mathlib.Core.Bool.{Bool, true, false, not, ◌&&◌}
use mathlib.Core.List.Memᴰ
use mathlib.Core.List.{List, [], ◌∷◌, map}
use Prim.Native.Nat.{ℕ, zero, suc, ◌+◌, ◌*◌, ◌/◌, ◌%◌, ◌^◌, ◌≤◌, ◌<◌, min}
use native.Mathlib.Nat.{zero-div, pow-suc, div-eq_of_lt, mul_assoc, mul-add}
use native.Mathlib.Numerals.{one-add}
use native.Mathlib.Omega.{arith}
use lib.Bits.{bit_and, and_shr, and_step}
use lib.Pow.{shr-shr, pow_pos, pow_mono, pow-lt}
use lib.ListN.{length}
use lib.Dec.{eqb, ltb, eqb-suc-zero, eqb-zero-suc, eqb-suc-suc}
use borrow.Author.Tests.{eqb-true, eqb-false, eq-eqb, ne_eqb, ltb-true, ltb-false, not-true}
use Rattle.rules.specs.Lists.{keep, any, from, sum, digit}
use Rattle.rules.specs.Sets.{bit, ◌∋◌, has, members, set_of, palette, colours, single, empty, only, without, lost}
use Rattle.rules.proofs.Tests.{by_test, by_equal, clash, and_true, true_and, same_test}
use Rattle.rules.proofs.Lists.{In, keep_in, in_keep, keep_same, keep_few, any_out, any_in, every_out, length_from, from_low, below}
use Rattle.rules.proofs.Distinct.{Distinct, keep_distinct, from_distinct, distinct_few}

-- ## Bits

pub bit_zero : (n : ℕ) → bit n 0 ≡ n % 2
unfolding bit
bit_zero n = omega arith

pub bit_suc : (n j : ℕ) → bit n (suc j) ≡ bit (n / 2) j
unfolding bit
bit_suc n j = rw (shr-shr n 1 j, one-add)

pub bit_le : (n j : ℕ) → bit n j ≤ 1
unfolding bit
bit_le n j = omega arith

pub bit_none : (j : ℕ) → bit 0 j ≡ 0
unfolding bit
bit_none j = rw zero-div

-- a number shifted by one, with d in bit 0
pub bit_low : (a d : ℕ) → d < 2 → bit (d + 2 * a) 0 ≡ d
unfolding bit
bit_low a d h = omega arith

pub bit_up : (a d j : ℕ) → d < 2 → bit (d + 2 * a) (suc j) ≡ bit a j
bit_up a d j h = bit_suc (d + 2 * a) j ∙ ap (λ x. bit x j) (omega arith)

-- no bit from n on in a number below 2 ^ n
pub bit_high : (s n j : ℕ) → s < 2 ^ n → n ≤ j → bit s j ≡ 0
unfolding bit
bit_high s n j h k =
    let l : s < 2 ^ j = (let z = pow_mono k in omega arith) in
    rw (div-eq_of_lt l)

-- ## Membership

pub has_in : (s c : ℕ) → s ∋ c → has s c ≡ true
unfolding has
has_in s c h = eq-eqb (bit s c) 1 h

pub in_has : (s c : ℕ) → has s c ≡ true → s ∋ c
unfolding has
in_has s c e = eqb-true (bit s c) 1 e

pub has_none : (c : ℕ) → has 0 c ≡ false
unfolding has
has_none c = ne_eqb (bit 0 c) 1 (λ e. let z = bit_none c in omega arith)

pub has_high : (s n c : ℕ) → s < 2 ^ n → n ≤ c → has s c ≡ false
unfolding has
has_high s n c h k = ne_eqb (bit s c) 1 (λ e. let z = bit_high s n c h k in omega arith)

-- ## What two sets share

both_bits : (a b : ℕ) → a ≤ 1 → b ≤ 1 → eqb (min a b) 1 ≡ eqb a 1 && eqb b 1
both_bits a b h k = by_equal a 1
    (λ e. let z : min a b ≡ b = omega arith in rw (z, eq-eqb a 1 e))
    (λ e. rw (ne_eqb (min a b) 1 (λ q. omega arith), ne_eqb a 1 e))

pub has_and : (a b c : ℕ) → has (bit_and a b) c ≡ has a c && has b c
unfolding has bit
has_and a b c =
    let both : bit_and a b / 2 ^ c % 2 ≡ min (a / 2 ^ c % 2) (b / 2 ^ c % 2) = rw and_shr (omega (arith, and_step (a / 2 ^ c) (b / 2 ^ c))) in
    ap (λ d. eqb d 1) both ∙ both_bits (a / 2 ^ c % 2) (b / 2 ^ c % 2) (omega arith) (omega arith)

-- ## The set of what passes a test

-- its digits, the lowest first: n of them from that of i on
unfoldable pub weigh : (ℕ → Bool) → ℕ → ℕ → ℕ
weigh p i zero = 0
weigh p i (suc n) = digit (p i) + 2 * weigh p (suc i) n

pub digit_low : (v : Bool) → digit v < 2
digit_low true = omega arith
digit_low false = omega arith

digit_bit : (v : Bool) → eqb (digit v) 1 ≡ v
digit_bit true = refl
digit_bit false = refl

powers : (p : ℕ → Bool) (i n : ℕ) → sum (map (λ c. 2 ^ c) (keep p (from i n))) ≡ 2 ^ i * weigh p i n
unfolding weigh
powers p i zero = omega arith
powers p i (suc n) = go (p i) (powers p (suc i) n)
  where
    shift : 2 ^ suc i * weigh p (suc i) n ≡ 2 ^ i * (2 * weigh p (suc i) n)
    shift = rw (pow-suc, mul_assoc)

    go : (v : Bool) → sum (map (λ c. 2 ^ c) (keep p (from (suc i) n))) ≡ 2 ^ suc i * weigh p (suc i) n →
        sum (map (λ c. 2 ^ c) (elim v [ true ↦ i ∷ keep p (from (suc i) n) | false ↦ keep p (from (suc i) n) ])) ≡ 2 ^ i * (digit v + 2 * weigh p (suc i) n)
    go true ih = omega (arith, ih, shift, mul-add (2 ^ i) 1 (2 * weigh p (suc i) n))
    go false ih = omega (arith, ih, shift, mul-add (2 ^ i) 0 (2 * weigh p (suc i) n))

pub set_of-weigh : (n : ℕ) (p : ℕ → Bool) → set_of n p ≡ weigh p 0 n
unfolding set_of
set_of-weigh n p = omega (arith, powers p 0 n)

bit_weigh : (p : ℕ → Bool) (i n c : ℕ) → c < n → bit (weigh p i n) c ≡ digit (p (i + c))
unfolding weigh
bit_weigh p i zero c h = absurd (omega arith)
bit_weigh p i (suc n) zero h = bit_low (weigh p (suc i) n) (digit (p i)) (digit_low (p i)) ∙ ap (λ j. digit (p j)) (omega arith)
bit_weigh p i (suc n) (suc c) h =
    bit_up (weigh p (suc i) n) (digit (p i)) c (digit_low (p i)) ∙ bit_weigh p (suc i) n c (omega arith) ∙ ap (λ j. digit (p j)) (omega arith)

pub weigh_low : (p : ℕ → Bool) (i n : ℕ) → weigh p i n < 2 ^ n
unfolding weigh
weigh_low p i zero = omega arith
weigh_low p i (suc n) = omega (arith, weigh_low p (suc i) n, digit_low (p i), pow-suc 2 n)

pub set_of-low : (n : ℕ) (p : ℕ → Bool) → set_of n p < 2 ^ n
set_of-low n p = rw (set_of-weigh n p) (weigh_low p 0 n)

pub has-set_of : (n : ℕ) (p : ℕ → Bool) (c : ℕ) → c < n → has (set_of n p) c ≡ p c
unfolding has
has-set_of n p c h = ap (λ s. eqb (bit s c) 1) (set_of-weigh n p) ∙ ap (λ d. eqb d 1) (bit_weigh p 0 n c h ∙ ap (λ j. digit (p j)) (omega arith)) ∙ digit_bit (p c)

-- a member is below n, and passes
pub set_of-has : (n : ℕ) (p : ℕ → Bool) (c : ℕ) → has (set_of n p) c ≡ true → (c < n) × (p c ≡ true)
set_of-has n p c e = by_test (ltb c n)
    (λ h. let l = ltb-true c n h in (l, sym (has-set_of n p c l) ∙ e))
    (λ h. clash e (has_high (set_of n p) n c (set_of-low n p) (ltb-false c n h)))

-- ## A set is its members

pub has_suc : (x c : ℕ) → has x (suc c) ≡ has (x / 2) c
unfolding has
has_suc x c = ap (λ v. eqb v 1) (bit_suc x c)

bits_same : (a b : ℕ) → a ≤ 1 → b ≤ 1 → eqb a 1 ≡ eqb b 1 → a ≡ b
bits_same a b h k e = by_equal a 1
    (λ p. p ∙ sym (eqb-true b 1 (sym e ∙ eq-eqb a 1 p)))
    (λ p. let q = eqb-false b 1 (sym e ∙ ne_eqb a 1 p) in omega arith)

low_same : (s t : ℕ) → has s 0 ≡ has t 0 → s % 2 ≡ t % 2
unfolding has
low_same s t e = sym (bit_zero s) ∙ bits_same (bit s 0) (bit t 0) (bit_le s 0) (bit_le t 0) e ∙ bit_zero t

pub same_set : (n s t : ℕ) → s < 2 ^ n → t < 2 ^ n → ((c : ℕ) → c < n → has s c ≡ has t c) → s ≡ t
same_set zero s t h k f = omega arith
same_set (suc n) s t h k f =
    let p = pow-suc 2 n in
    let d : s % 2 ≡ t % 2 = low_same s t (f 0 (omega arith)) in
    let u : s / 2 ≡ t / 2 = same_set n (s / 2) (t / 2) (omega arith) (omega arith) (λ c l. sym (has_suc s c) ∙ f (suc c) (omega arith) ∙ has_suc t c) in
    omega arith

-- a set within another is no larger as a number, and smaller where some number tells
within_half : (s t : ℕ) → ((c : ℕ) → has s c ≡ true → has t c ≡ true) → (c : ℕ) → has (s / 2) c ≡ true → has (t / 2) c ≡ true
within_half s t f c e = sym (has_suc t c) ∙ f (suc c) (has_suc s c ∙ e)

low_within : (s t : ℕ) → ((c : ℕ) → has s c ≡ true → has t c ≡ true) → s % 2 ≤ t % 2
low_within s t f = by_equal (s % 2) 1
    (λ e. let k = in_has t 0 (f 0 (has_in s 0 (bit_zero s ∙ e))) in let q = bit_zero t in omega arith)
    (λ e. omega arith)

within_le_below : (n s t : ℕ) → s < 2 ^ n → ((c : ℕ) → has s c ≡ true → has t c ≡ true) → s ≤ t
within_le_below zero s t h f = omega arith
within_le_below (suc n) s t h f =
    let p = pow-suc 2 n in
    let d = low_within s t f in
    let u : s / 2 ≤ t / 2 = within_le_below n (s / 2) (t / 2) (omega arith) (within_half s t f) in
    omega arith

below_pow : (n : ℕ) → n < 2 ^ n
below_pow zero = omega arith
below_pow (suc n) = omega (arith, below_pow n, pow-suc 2 n)

pub within_le : (s t : ℕ) → ((c : ℕ) → has s c ≡ true → has t c ≡ true) → s ≤ t
within_le s t f = within_le_below s s t (below_pow s) f

pub within_lt : (s t x : ℕ) → ((c : ℕ) → has s c ≡ true → has t c ≡ true) → has t x ≡ true → has s x ≡ false → s < t
within_lt s t x f p q = let l = within_le s t f in by_equal s t (λ e. clash (ap (λ v. has v x) e ∙ p) q) (λ e. omega arith)

-- tests that agree below n give the same set
pub set_of-same : (n : ℕ) (p q : ℕ → Bool) → ((c : ℕ) → c < n → p c ≡ q c) → set_of n p ≡ set_of n q
unfolding set_of
set_of-same n p q f = ap (λ l. sum (map (λ c. 2 ^ c) l)) (keep_same p q (from 0 n) (λ c m. f c (let r = from_low 0 n m in omega arith)))

-- ## Members

pub member : (n s : ℕ) {c : ℕ} → In c (members n s) → (c < n) × (has s c ≡ true)
unfolding members
member n s m = let r = keep_in (has s) (from 0 n) m in let l = from_low 0 n r.0 in (omega arith, r.1)

pub in_members : (n s c : ℕ) → c < n → has s c ≡ true → In c (members n s)
unfolding members
in_members n s c h e = in_keep (has s) (from 0 n) (below n c h) e

-- ## Sets of one number

pub has_only : (x y : ℕ) → has (only x) y ≡ eqb y x
unfolding has bit
has_only zero zero = refl
has_only zero (suc y) = has_suc 1 y ∙ has_none y ∙ sym (eqb-suc-zero y)
has_only (suc x) zero = ne_eqb (bit (2 ^ suc x) 0) 1 (λ e. let z = bit_zero (2 ^ suc x) in let p = pow-suc 2 x in omega arith) ∙ sym (eqb-zero-suc x)
has_only (suc x) (suc y) = has_suc (2 ^ suc x) y ∙ ap (λ v. has v y) (let p = pow-suc 2 x in omega arith) ∙ has_only x y ∙ sym (eqb-suc-suc y x)

pub only_self : (x : ℕ) → has (only x) x ≡ true
only_self x = has_only x x ∙ eq-eqb x x refl

pub only_one : (x y : ℕ) → has (only x) y ≡ true → y ≡ x
only_one x y e = eqb-true y x (sym (has_only x y) ∙ e)

pub only_low : (n x : ℕ) → x < n → only x < 2 ^ n
only_low n x h = pow-lt h

-- ## Sets of colours

pub has_without : (s c y : ℕ) → y < 8 → has (without s c) y ≡ has s y && not (eqb y c)
unfolding without
has_without s c y h = has-set_of 8 (λ y. has s y && not (eqb y c)) y h

pub without_gone : (s c : ℕ) → has (without s c) c ≡ false
unfolding without
without_gone s c = by_test (has (without s c) c)
    (λ e. clash (eq-eqb c c refl) (not-true (eqb c c) (and_true (has s c) (not (eqb c c)) (set_of-has 8 (λ y. has s y && not (eqb y c)) c e).1).1))
    (λ e. e)

pub without_sub : (s c y : ℕ) → has (without s c) y ≡ true → has s y ≡ true
unfolding without
without_sub s c y e = (and_true (has s y) (not (eqb y c)) (set_of-has 8 (λ y. has s y && not (eqb y c)) y e).1).0

-- a member of a set below 2 ^ n is below n, and so of a byte below eight
pub member_low : (n s c : ℕ) → s < 2 ^ n → has s c ≡ true → c < n
member_low n s c h e = by_test (ltb c n) (λ k. ltb-true c n k) (λ k. clash e (has_high s n c h (ltb-false c n k)))

pub byte_colour : (s c : ℕ) → s < 256 → has s c ≡ true → c < 8
byte_colour s c h e = member_low 8 s c h e

-- two sets of one list's length
one_of : {A : Type 0} (l : List A) {x y : A} → length l ≡ 1 → In x l → In y l → x ≡ y
one_of [] e m n = absurd (Memᴰ.not-nil m)
one_of (z ∷ []) e m n = Memᴰ.eq_of_singleton m ∙ sym (Memᴰ.eq_of_singleton n)
one_of (z ∷ w ∷ l) e m n = absurd (omega arith)

-- a solved cell has one colour
pub single_one : (s x y : ℕ) → single s ≡ true → x < 8 → y < 8 → has s x ≡ true → has s y ≡ true → x ≡ y
unfolding single
single_one s x y e h k p q = one_of (colours s) (eqb-true (length (colours s)) 1 e) (in_members 8 s x h p) (in_members 8 s y k q)

-- and one colour at least
pub single_some : (s : ℕ) → single s ≡ true → (x : ℕ) × (x < 8) × (has s x ≡ true)
unfolding single
single_some s e = go (colours s) refl (eqb-true (length (colours s)) 1 e)
  where
    go : (l : List ℕ) → colours s ≡ l → length l ≡ 1 → (x : ℕ) × (x < 8) × (has s x ≡ true)
    go [] q h = absurd (omega arith)
    go (x ∷ l) q h = let r = member 8 s (subst (λ k. In x k) (sym q) (Memᴰ.head refl)) in (x, r.0, r.1)

-- a solved cell is the set of its colour, and the other way round
pub single_only : (s x : ℕ) → s < 256 → single s ≡ true → has s x ≡ true → s ≡ only x
single_only s x h e p = let l = byte_colour s x h p in
    same_set 8 s (only x) h (only_low 8 x l)
    (λ c k. same_test (has s c) (has (only x) c)
    (λ q. has_only x c ∙ eq-eqb c x (single_one s c x e k l q p))
    (λ q. subst (λ y. has s y ≡ true) (sym (only_one x c q)) p))

pub only_single : (x : ℕ) → x < 8 → single (only x) ≡ true
unfolding single members has bit
only_single x h = every_out (λ y. single (only y)) palette refl (below 8 x h)

-- a set that is not empty has a colour, and the other way round
pub not_empty : (s : ℕ) → empty s ≡ false → (x : ℕ) × (x < 8) × (has s x ≡ true)
unfolding empty
not_empty s e = go (colours s) refl (eqb-false (length (colours s)) 0 e)
  where
    go : (l : List ℕ) → colours s ≡ l → (length l ≡ 0 → ⊥) → (x : ℕ) × (x < 8) × (has s x ≡ true)
    go [] q h = absurd (h refl)
    go (x ∷ l) q h = let r = member 8 s (subst (λ k. In x k) (sym q) (Memᴰ.head refl)) in (x, r.0, r.1)

pub empty_none : (s x : ℕ) → empty s ≡ true → x < 8 → has s x ≡ true → ⊥
unfolding empty
empty_none s x e h p = go (colours s) (eqb-true (length (colours s)) 0 e) (in_members 8 s x h p)
  where
    go : (l : List ℕ) → length l ≡ 0 → In x l → ⊥
    go [] q m = Memᴰ.not-nil m
    go (y ∷ l) q m = omega arith

pub none_empty : empty 0 ≡ true
unfolding empty members has bit
none_empty = refl

-- a set that has lost a colour, and the colour
pub lost_out : (s t : ℕ) → lost s t ≡ true → (x : ℕ) × (x < 8) × (has s x ≡ true) × (has t x ≡ false)
unfolding lost
lost_out s t e = let r = any_out (λ c. has s c && not (has t c)) palette e in let l = from_low 0 8 r.1 in
    let k = and_true (has s r.0) (not (has t r.0)) r.2 in (r.0, omega arith, k.0, not-true (has t r.0) k.1)

-- a byte that has lost none is as it was
pub lost_none : (s t : ℕ) → s < 256 → ((x : ℕ) → has t x ≡ true → has s x ≡ true) → lost s t ≡ false → t ≡ s
unfolding lost
lost_none s t h f e = same_set 8 t s (let k = within_le t s f in omega arith) h
    (λ c l. same_test (has t c) (has s c) (f c)
    (λ p. by_test (has t c) (λ q. q) (λ q. clash (any_in (λ x. has s x && not (has t x)) palette (below 8 c l) (true_and p (ap not q))) e)))

-- so it has lost a colour exactly if the two differ
pub lost_differs : (s t : ℕ) → s < 256 → ((x : ℕ) → has t x ≡ true → has s x ≡ true) → lost s t ≡ not (eqb s t)
lost_differs s t h f = same_test (lost s t) (not (eqb s t))
    (λ e. let r = lost_out s t e in ap not (ne_eqb s t (λ q. clash r.2 (ap (λ v. has v r.0) q ∙ r.3))))
    (λ e. by_test (lost s t) (λ l. l) (λ l. absurd (eqb-false s t (not-true (eqb s t) e) (sym (lost_none s t h f l)))))

-- a number that is not 0 has a member
pub some_member : (n s : ℕ) → 0 < s → s < 2 ^ n → (x : ℕ) × (x < n) × (has s x ≡ true)
some_member n s h k = by_test (any (has s) (from 0 n))
    (λ e. let r = any_out (has s) (from 0 n) e in let l = from_low 0 n r.1 in (r.0, omega arith, r.2))
    (λ e. absurd (let z : s ≡ 0 = same_set n s 0 k (pow_pos n) (λ c l. by_test (has s c) (λ p. clash (any_in (has s) (from 0 n) (below n c l) p) e) (λ p. p ∙ sym (has_none c))) in omega arith))

-- a byte that is not 0 has a first colour, and is not empty
pub colours_some : (s : ℕ) → s < 256 → s ≢ 0 → (x : ℕ) × (xs : List ℕ) × (colours s ≡ x ∷ xs)
colours_some s h n = let m = some_member 8 s (omega arith) h in go (colours s) refl (in_members 8 s m.0 m.1 m.2)
  where
    go : (l : List ℕ) {x : ℕ} → colours s ≡ l → In x l → (x : ℕ) × (xs : List ℕ) × (colours s ≡ x ∷ xs)
    go [] e k = absurd (Memᴰ.not-nil k)
    go (x ∷ xs) e k = (x, xs, e)

pub some_not_empty : (s : ℕ) → s < 256 → s ≢ 0 → empty s ≡ false
unfolding empty
some_not_empty s h n = let m = colours_some s h n in ne_eqb (length (colours s)) 0 (λ e. let k = ap length m.2 in omega arith)

pub colours_none : colours 0 ≡ []
unfolding members has bit
colours_none = refl

-- a member's set is not 0
pub member_pos : (s x : ℕ) → has s x ≡ true → 0 < s
member_pos zero x e = clash e (has_none x)
member_pos (suc s) x e = omega arith

-- a cell has at most eight colours
pub colours_few : (s : ℕ) → length (colours s) ≤ 8
unfolding members
colours_few s = let z = keep_few (has s) palette in let y = length_from 0 8 in omega arith

pub members_distinct : (n s : ℕ) → Distinct (members n s)
unfolding members
members_distinct n s = keep_distinct (has s) (from 0 n) (from_distinct 0 n)

-- and at most n where none is n or above
pub colours_within : (n s : ℕ) → s < 2 ^ n → length (colours s) ≤ n
colours_within n s h = distinct_few n (colours s) (members_distinct 8 s) (λ c m. member_low n s c h (member 8 s m).1)
