-- Lists given number by number: what stands where, when two are equal, and how a loop writes one.
use mathlib.Core.Path.{◌≡◌, refl, sym, ap, ap₂, ◌∙◌}
use mathlib.Core.List.{List, ◌∷◌, map}
use Prim.Native.Nat.{ℕ, zero, suc, ◌+◌, ◌≤◌, ◌<◌}
use native.Mathlib.Omega.{arith}
use lib.ListN.{length, length-map, length-set, get_or, set, replicate}
use lib.Seq.{ext_get_or, get_or-set_same, get_or-set_other}
use Rattle.rules.specs.Lists.{from}
use Rattle.rules.proofs.Tests.{by_equal}
use Rattle.rules.proofs.Lists.{length_from, get_or-given}

module _ {A : Type 0} where
  pub length_given : (f : ℕ → A) (i n : ℕ) → length (map f (from i n)) ≡ n
  length_given f i n = length-map (from i n) f ∙ length_from i n

  pub given_at : (f : ℕ → A) (n c : ℕ) (d : A) → c < n → get_or (map f (from 0 n)) c d ≡ f c
  given_at f n c d h = get_or-given f 0 n c d h ∙ ap f (omega arith)

  -- one value for all
  pub given_alike : (f : ℕ → A) (a : A) (i n : ℕ) → ((c : ℕ) → c < i + n → f c ≡ a) → map f (from i n) ≡ replicate n a
  given_alike f a i zero h = refl
  given_alike f a i (suc n) h = ap₂ ◌∷◌ (h i (omega arith)) (given_alike f a (suc i) n (λ c l. h c (omega arith)))

  -- functions that agree below n
  pub given_same : (f g : ℕ → A) (n : ℕ) → ((c : ℕ) → c < n → f c ≡ g c) → map f (from 0 n) ≡ map g (from 0 n)
  given_same f g n h = go 0 n (λ c l. h c (omega arith))
    where
      go : (i m : ℕ) → ((c : ℕ) → c < i + m → f c ≡ g c) → map f (from i m) ≡ map g (from i m)
      go i zero k = refl
      go i (suc m) k = ap₂ ◌∷◌ (k i (omega arith)) (go (suc i) m (λ c l. k c (omega arith)))

  -- functions that agree below n but at c, where the second has the value a
  pub given_set : (f g : ℕ → A) (n c : ℕ) (a : A) → (c < n → g c ≡ a) → ((k : ℕ) → k < n → (k ≡ c → ⊥) → g k ≡ f k) → map g (from 0 n) ≡ set (map f (from 0 n)) c a
  given_set f g n c a here other =
      let l = map f (from 0 n) in
      let long : length (set l c a) ≡ n = length-set l c a ∙ length_given f 0 n in
      ext_get_or a (map g (from 0 n)) (set l c a) (length_given g 0 n ∙ sym long) (λ k h.
      let m : k < n = omega (arith, length_given g 0 n) in
      given_at g n k a m ∙ by_equal k c
      (λ e. ap g e ∙ here (omega arith) ∙ sym (ap (λ j. get_or (set l c a) j a) e ∙ get_or-set_same l c a a (omega (arith, length_given f 0 n))))
      (λ e. other k m e ∙ sym (get_or-set_other l c k a a e ∙ given_at f n k a m)))

  -- a list by its elements
  pub given_list : (l : List A) (d : A) → map (λ k. get_or l k d) (from 0 (length l)) ≡ l
  given_list l d = ext_get_or d (map (λ k. get_or l k d) (from 0 (length l))) l (length_given (λ k. get_or l k d) 0 (length l))
      (λ k h. given_at (λ k. get_or l k d) (length l) k d (omega (arith, length_given (λ k. get_or l k d) 0 (length l))))

-- A list of n places written from the front: so far the first x have what f gives.
pub record Written {A : Type 0} (f : ℕ → A) (d : A) (n x : ℕ) (l : List A) : Type 0 where
  pub long : length l ≡ n
  pub few : x ≤ n
  pub passed : (k : ℕ) → k < x → get_or l k d ≡ f k

module _ {A : Type 0} (f : ℕ → A) (d : A) (n : ℕ) where
  pub written_start : (l : List A) → length l ≡ n → Written f d n 0 l
  written_start l e = record { long = e; few = omega arith; passed = λ k h. absurd (omega arith) }

  pub written_turn : (x : ℕ) (l : List A) → Written f d n x l → x < n → Written f d n (x + 1) (set l x (f x))
  written_turn x l p h = record {
    long = length-set l x (f x) ∙ p.long;
    few = omega arith;
    passed = λ k m. by_equal k x
        (λ e. ap (λ j. get_or (set l x (f x)) j d) e ∙ get_or-set_same l x (f x) d (omega (arith, p.long)) ∙ ap f (sym e))
        (λ e. get_or-set_other l x k (f x) d e ∙ p.passed k (omega arith));
  }

  pub written_end : (x : ℕ) (l : List A) → Written f d n x l → n ≤ x → l ≡ map f (from 0 n)
  written_end x l p h = ext_get_or d l (map f (from 0 n)) (p.long ∙ sym (length_given f 0 n))
      (λ k m. p.passed k (omega (arith, p.long)) ∙ sym (given_at f n k d (omega (arith, p.long))))
