-- Masks, the sets of a machine's states: membership in a union and in what two masks share, and in what the colours of a set make of them.
use mathlib.Core.Path.{◌≡◌, refl, ap, sym, ◌∙◌}
use mathlib.Core.List.{List, [], ◌∷◌}
use mathlib.Core.Logic.{◌⊎◌, inl, inr, ⊎_elim}
use Prim.Native.Nat.{ℕ, zero, suc, ◌*◌, ◌/◌, ◌%◌, ◌^◌, ◌≤◌, ◌<◌, min, max}
use native.Mathlib.Omega.{arith}
use lib.Arith.{bin_ind}
use lib.ListN.{get_or}
use lib.Bits.{bit_and, bit_or, and_shr, or_shr, and_step, or_step, or_zero_l, and_le_r}
use Rattle.rules.specs.Sets.{bit, ◌∋◌}
use Rattle.rules.proofs.Sets.{bit_zero, bit_suc, bit_le, bit_none, bit_low, bit_up}
use Rattle.lines.specs.Machines.{pick, sign, goes, able, moves}

-- ## Bits

pub bit_and_lem : (a b j : ℕ) → bit (bit_and a b) j ≡ min (bit a j) (bit b j)
unfolding bit
bit_and_lem a b j = rw and_shr (omega (arith, and_step (a / 2 ^ j) (b / 2 ^ j)))

pub bit_or_lem : (a b j : ℕ) → bit (bit_or a b) j ≡ max (bit a j) (bit b j)
unfolding bit
bit_or_lem a b j = rw or_shr (omega (arith, or_step (a / 2 ^ j) (b / 2 ^ j)))

pub bit_even : (a : ℕ) → bit (a * 2) 0 ≡ 0
unfolding bit
bit_even a = omega arith

-- a mask one state up
pub bit_twice : (a j : ℕ) → bit (a * 2) (suc j) ≡ bit a j
bit_twice a j = bit_suc (a * 2) j ∙ ap (λ x. bit x j) (omega arith)

-- a digit as a set
pub bit_digit : (d : ℕ) → d ≤ 1 → bit d 0 ≡ d
unfolding bit
bit_digit d h = omega arith

pub digit_only : (d j : ℕ) → d ≤ 1 → d ∋ j → (j ≡ 0) × (d ≡ 1)
digit_only d zero h p = (refl, omega (arith, bit_digit d h))
digit_only d (suc j) h p =
    let z : d / 2 ≡ 0 = omega arith in
    absurd (omega (arith, bit_suc d j, ap (λ x. bit x j) z, bit_none j))

zero_or : (n : ℕ) → (n ≡ 0) ⊎ (0 < n)
zero_or zero = inl refl
zero_or (suc n) = inr (omega arith)

-- a number that is not 0 has a bit
some_bit : (n : ℕ) → 0 < n → (j : ℕ) × (n ∋ j)
some_bit = bin_ind (λ n. 0 < n → (j : ℕ) × (n ∋ j)) (λ h. absurd (omega arith)) (λ n ih h. go n ih h (zero_or (n / 2)))
  where
    go : (n : ℕ) → (0 < n / 2 → (j : ℕ) × (n / 2 ∋ j)) → 0 < n → (n / 2 ≡ 0) ⊎ (0 < n / 2) → (j : ℕ) × (n ∋ j)
    go n ih h (inl e) = (0, omega (arith, bit_zero n))
    go n ih h (inr p) = (suc (ih p).0, bit_suc n (ih p).0 ∙ (ih p).1)

-- ## Membership

pub and_in : (a b j : ℕ) → a ∋ j → b ∋ j → bit_and a b ∋ j
and_in a b j p q = omega (arith, bit_and_lem a b j)

pub and_of : (a b j : ℕ) → bit_and a b ∋ j → (a ∋ j) × (b ∋ j)
and_of a b j p = omega (arith, bit_and_lem a b j, bit_le a j, bit_le b j)

pub or_left : (a b j : ℕ) → a ∋ j → bit_or a b ∋ j
or_left a b j p = omega (arith, bit_or_lem a b j, bit_le b j)

pub or_right : (a b j : ℕ) → b ∋ j → bit_or a b ∋ j
or_right a b j p = omega (arith, bit_or_lem a b j, bit_le a j)

pub or_of : (a b j : ℕ) → bit_or a b ∋ j → (a ∋ j) ⊎ (b ∋ j)
or_of a b j h = go (bit a j) (bit b j) (sym (bit_or_lem a b j) ∙ h) (bit_le a j) (bit_le b j) (zero_or (bit a j))
  where
    go : (x y : ℕ) → max x y ≡ 1 → x ≤ 1 → y ≤ 1 → (x ≡ 0) ⊎ (0 < x) → (x ≡ 1) ⊎ (y ≡ 1)
    go x y e p q (inl z) = inr (omega arith)
    go x y e p q (inr z) = inl (omega arith)

pub or_assoc : (a b c : ℕ) → bit_or (bit_or a b) c ≡ bit_or a (bit_or b c)
or_assoc = bin_ind (λ a. (b c : ℕ) → bit_or (bit_or a b) c ≡ bit_or a (bit_or b c))
    (λ b c. ap (λ x. bit_or x c) (or_zero_l b) ∙ sym (or_zero_l (bit_or b c)))
    (λ a ih b c. step a b c (ih (b / 2) (c / 2)))
  where
    step : (a b c : ℕ) → bit_or (bit_or (a / 2) (b / 2)) (c / 2) ≡ bit_or (a / 2) (bit_or (b / 2) (c / 2)) → bit_or (bit_or a b) c ≡ bit_or a (bit_or b c)
    step a b c e =
        omega (
          arith,
          e,
          or_step (bit_or a b) c,
          or_step a (bit_or b c),
          or_step a b,
          or_step b c,
          ap (λ x. bit_or x (c / 2)) (or_shr a b 1),
          ap (λ x. bit_or (a / 2) x) (or_shr b c 1),
        )

-- ## Digits: `pick` and `sign`

pub pick_in : (d p j : ℕ) → d ≡ 1 → p ∋ j → pick d p ∋ j
pick_in zero p j h q = absurd (omega arith)
pick_in (suc d) p j h q = q

pub pick_of : (d p j : ℕ) → d ≤ 1 → pick d p ∋ j → (d ≡ 1) × (p ∋ j)
pick_of zero p j h q = absurd (omega (arith, bit_none j))
pick_of (suc d) p j h q = (omega arith, q)

pub sign_le : (n : ℕ) → sign n ≤ 1
sign_le zero = omega arith
sign_le (suc n) = omega arith

pub sign_in : (n j : ℕ) → n ∋ j → sign n ≡ 1
sign_in zero j h = omega (arith, bit_none j)
sign_in (suc n) j h = refl

pub sign_of : (n : ℕ) → sign n ≡ 1 → (j : ℕ) × (n ∋ j)
sign_of zero h = absurd (omega arith)
sign_of (suc n) h = some_bit (suc n) (omega arith)

-- ## What the colours of a set make of the masks

-- a state is among those that the set goes on from if a colour of the set does
pub goes_in : (masks : List ℕ) (s c j : ℕ) → s ∋ c → get_or masks c 0 ∋ j → goes masks s ∋ j
unfolding goes
goes_in [] s c j p q = absurd (omega (arith, bit_none j))
goes_in (x ∷ masks) s zero j p q = or_left _ _ j (pick_in (s % 2) x j (sym (bit_zero s) ∙ p) q)
goes_in (x ∷ masks) s (suc c) j p q = or_right (pick (s % 2) x) _ j (goes_in masks (s / 2) c j (sym (bit_suc s c) ∙ p) q)

pub goes_of : (masks : List ℕ) (s j : ℕ) → goes masks s ∋ j → (c : ℕ) × (s ∋ c) × (get_or masks c 0 ∋ j)
unfolding goes
goes_of [] s j h = absurd (omega (arith, bit_none j))
goes_of (x ∷ masks) s j h =
    ⊎_elim
    (λ p. let r = pick_of (s % 2) x j (omega arith) p in (0, bit_zero s ∙ r.0, r.1))
    (λ p. let r = goes_of masks (s / 2) j p in (suc r.0, bit_suc s r.0 ∙ r.1, r.2))
    (or_of (pick (s % 2) x) (goes masks (s / 2)) j h)

-- a colour is able if one of its states is among them
able_in : (masks : List ℕ) (states c j : ℕ) → get_or masks c 0 ∋ j → states ∋ j → able masks states ∋ c
unfolding able
able_in [] states c j q r = absurd (omega (arith, bit_none j))
able_in (x ∷ masks) states zero j q r = bit_low (able masks states) (sign (bit_and x states)) (omega (arith, sign_le (bit_and x states))) ∙ sign_in (bit_and x states) j (and_in x states j q r)
able_in (x ∷ masks) states (suc c) j q r = bit_up (able masks states) (sign (bit_and x states)) c (omega (arith, sign_le (bit_and x states))) ∙ able_in masks states c j q r

able_of : (masks : List ℕ) (states c : ℕ) → able masks states ∋ c → (j : ℕ) × (get_or masks c 0 ∋ j) × (states ∋ j)
unfolding able
able_of [] states c h = absurd (omega (arith, bit_none c))
able_of (x ∷ masks) states zero h =
    let n = bit_and x states in
    let r = sign_of n (sym (bit_low (able masks states) (sign n) (omega (arith, sign_le n))) ∙ h) in
    let a = and_of x states r.0 r.1 in
    (r.0, a.0, a.1)
able_of (x ∷ masks) states (suc c) h = able_of masks states c (sym (bit_up (able masks states) (sign (bit_and x states)) c (omega (arith, sign_le (bit_and x states)))) ∙ h)

pub moves_in : (masks : List ℕ) (s states c j : ℕ) → s ∋ c → get_or masks c 0 ∋ j → states ∋ j → moves masks s states ∋ c
unfolding moves
moves_in masks s states c j p q r = and_in (able masks states) s c (able_in masks states c j q r) p

pub moves_of : (masks : List ℕ) (s states c : ℕ) → moves masks s states ∋ c → (s ∋ c) × ((j : ℕ) × (get_or masks c 0 ∋ j) × (states ∋ j))
unfolding moves
moves_of masks s states c h = let a = and_of (able masks states) s c h in (a.1, able_of masks states c a.0)

-- the colours that move are of the set
pub moves_le : (masks : List ℕ) (s states : ℕ) → moves masks s states ≤ s
unfolding moves
moves_le masks s states = and_le_r (able masks states) s
