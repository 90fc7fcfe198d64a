-- Tests that compute, taken apart: to prove a fact of an `elim` on a test, prove it in each case, with the test's value as an equation.
use mathlib.Core.Path.{◌≡◌, refl, sym, ap, ◌∙◌}
use mathlib.Core.Logic.{◌⊎◌, inl, inr, ◌≢◌}
use mathlib.Core.Bool.{Bool, true, false, ◌&&◌, ◌||◌, true≢false, false≢true}
use mathlib.Core.Option.{Option, none, some}
use Prim.Native.Nat.{ℕ, zero, suc}
use lib.Dec.{eqb}
use borrow.Author.Tests.{eqb-true, eqb-false}

module _ {A : Type 0} (P : A → Type 0) where
  pub on_test : (v : Bool) {a b : A} → (v ≡ true → P a) → (v ≡ false → P b) → P (elim v [ true ↦ a | false ↦ b ])
  on_test true f g = f refl
  on_test false f g = g refl

  pub on_number : (v : ℕ) {a : A} {f : ℕ → A} → (v ≡ 0 → P a) → ((m : ℕ) → v ≡ suc m → P (f m)) → P (elim v [ zero ↦ a | suc m ↦ f m ])
  on_number zero p q = p refl
  on_number (suc m) p q = q m refl

  pub on_option : {B : Type 0} (v : Option B) {a : A} {f : B → A} → (v ≡ none → P a) → ((m : B) → v ≡ some m → P (f m)) → P (elim v [ none ↦ a | some m ↦ f m ])
  on_option none p q = p refl
  on_option (some m) p q = q m refl

-- the same for a fact that does not name the test
pub by_test : {P : Type 0} (v : Bool) → (v ≡ true → P) → (v ≡ false → P) → P
by_test true f g = f refl
by_test false f g = g refl

pub by_equal : {P : Type 0} (a b : ℕ) → (a ≡ b → P) → (a ≢ b → P) → P
by_equal a b f g = by_test (eqb a b) (λ e. f (eqb-true a b e)) (λ e. g (eqb-false a b e))

-- and for a fact of two things, with one test in both
pub on_tests : {A : Type 0} (P : A → A → Type 0) (v : Bool) {a b c e : A} → P a c → P b e → P (elim v [ true ↦ a | false ↦ b ]) (elim v [ true ↦ c | false ↦ e ])
on_tests P true p q = p
on_tests P false p q = q

-- a test that passes, and the other case is not taken
pub passed : {A : Type 0} {v : Bool} {a : A} (b : A) → v ≡ true → (elim v as (λ _. A) [ true ↦ a | false ↦ b ]) ≡ a
passed {A} {v} {a} b e = ap (λ u. elim u as (λ _. A) [ true ↦ a | false ↦ b ]) e

pub clash : {P : Type 0} {v : Bool} → v ≡ true → v ≡ false → P
clash p q = absurd (true≢false (sym p ∙ q))

pub and_true : (u v : Bool) → u && v ≡ true → (u ≡ true) × (v ≡ true)
and_true true true e = (refl, refl)
and_true true false e = absurd (false≢true e)
and_true false true e = absurd (false≢true e)
and_true false false e = absurd (false≢true e)

pub true_and : {u v : Bool} → u ≡ true → v ≡ true → u && v ≡ true
true_and p q = rw (p, q)

pub or_true : (u v : Bool) → u || v ≡ true → (u ≡ true) ⊎ (v ≡ true)
or_true true v e = inl refl
or_true false v e = inr e

pub true_or : (u v : Bool) → (u ≡ true) ⊎ (v ≡ true) → u || v ≡ true
true_or true v h = refl
true_or false true h = refl
true_or false false (inl e) = e
true_or false false (inr e) = e

pub or_false : (u v : Bool) → u || v ≡ false → (u ≡ false) × (v ≡ false)
or_false true true e = absurd (true≢false e)
or_false true false e = absurd (true≢false e)
or_false false true e = absurd (true≢false e)
or_false false false e = (refl, refl)

pub and_all : (u : Bool) → u && true ≡ u
and_all true = refl
and_all false = refl

pub and_none : (u : Bool) → u && false ≡ false
and_none true = refl
and_none false = refl

pub or_none : (u : Bool) → u || false ≡ u
or_none true = refl
or_none false = refl

-- two tests that pass together are equal
pub same_test : (u v : Bool) → (u ≡ true → v ≡ true) → (v ≡ true → u ≡ true) → u ≡ v
same_test true v f g = sym (f refl)
same_test false true f g = g refl
same_test false false f g = refl
