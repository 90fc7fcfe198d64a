-- Runs: what storing a grid does to the list, what it means that no limit is met, and how a run grows by the grids that fit a board.
use mathlib.Core.Path.{◌≡◌, refl, sym, ap, subst, ◌∙◌}
use mathlib.Core.Logic.{inl, inr}
use mathlib.Core.Bool.{true, false≢true}
use mathlib.Core.List.Memᴰ
use mathlib.Core.List.{List, [], ◌∷◌, ◌++◌, append-nil, append_assoc}
use Prim.Native.Nat.{ℕ, zero, suc, ◌≤◌, ◌<◌}
use native.Mathlib.Omega.{arith}
use lib.ListN.{length, length-append}
use lib.Dec.{leb, eqb}
use borrow.Author.Tests.{eqb-true, eq-eqb, leb-false}
use Rattle.rules.specs.Lists.{any}
use Rattle.rules.specs.Boards.{Board, same, Puzzle}
use Rattle.rules.specs.Probing.{Run, steps}
use Rattle.rules.specs.Search.{Limits, first_of, note, store_in, store, met}
use Rattle.rules.specs.Promises.{Fits, ◌⊑◌, Distinct}
use Rattle.rules.proofs.Tests.{on_test, clash, and_true, true_and}
use Rattle.rules.proofs.Lists.{In, any_out, any_in}
use Rattle.rules.proofs.Distinct.{append_distinct}
use Rattle.rules.proofs.Probing.{Quiet}
use Rattle.rules.proofs.Fitting.{fits_wider}

-- ## Storing

pub same_is : (a b : Board) → same a b ≡ true → a ≡ b
unfolding same
same_is [] [] e = refl
same_is [] (t ∷ b) e = absurd (false≢true e)
same_is (s ∷ a) [] e = absurd (false≢true e)
same_is (s ∷ a) (t ∷ b) e = let r = and_true (eqb s t) (same a b) e in let p = eqb-true s t r.0 in let q = same_is a b r.1 in cc

pub same_self : (a : Board) → same a a ≡ true
unfolding same
same_self [] = refl
same_self (s ∷ a) = true_and (eq-eqb s s refl) (same_self a)

pub store_in_lem : (b : Board) (l : List Board) → In b (store_in b l)
unfolding store_in
store_in_lem b l = on_test (λ r. In b r) (any (same b) l)
    (λ e. let r = any_out (same b) l e in subst (λ g. In g l) (sym (same_is b r.0 r.2)) r.1)
    (λ e. Memᴰ.append_right l (Memᴰ.head refl))

-- at most the grid itself is added
pub store_adds : (b : Board) (l : List Board) → (new : List Board) × (store_in b l ≡ l ++ new) × ((g : Board) → In g new → g ≡ b)
unfolding store_in
store_adds b l = on_test (λ r. (new : List Board) × (r ≡ l ++ new) × ((g : Board) → In g new → g ≡ b)) (any (same b) l)
    (λ e. ([], sym (append-nil l), λ g m. absurd (Memᴰ.not-nil m)))
    (λ e. (b ∷ [], refl, λ g m. Memᴰ.eq_of_singleton m))

pub store_distinct : (b : Board) (l : List Board) → Distinct l → Distinct (store_in b l)
unfolding store_in
store_distinct b l u = on_test Distinct (any (same b) l) (λ e. u)
    (λ e. append_distinct l (b ∷ []) u (Memᴰ.not-nil, tt) (λ g m n. clash (any_in (same b) l (subst (λ h. In h l) (Memᴰ.eq_of_singleton n) m) (same_self b)) e))

pub store_few : (b : Board) (l : List Board) → length (store_in b l) ≤ suc (length l)
unfolding store_in
store_few b l = on_test (λ (r : List Board). length r ≤ suc (length l)) (any (same b) l) {a = l} {b = l ++ (b ∷ [])} (λ e. omega arith) (λ e. omega (arith, length-append l (b ∷ [])))

-- ## Limits

-- a limit that is noted stays
pub noted_limit : (l m : ℕ) → first_of l (suc m) ≡ 0 → ⊥
noted_limit zero m e = omega arith
noted_limit (suc l) m e = omega arith

pub earlier_limit : (l m : ℕ) → first_of l m ≡ 0 → l ≡ 0
earlier_limit zero m e = refl
earlier_limit (suc l) m e = e

module _ (z : Puzzle) (l : Limits) where
  open l use {most_grids, budget}

  -- where no limit is met a grid more has room, and a step more is within the budget
  pub met_none : (s : Run) (d : ℕ) → met z l s d ≡ 0 → (length s.stored < most_grids) × (steps s < budget)
  unfolding met
  met_none s d = on_test (λ n. n ≡ 0 → (length s.stored < most_grids) × (steps s < budget)) (leb most_grids (length s.stored)) (λ _ e. absurd (omega arith))
      (λ h. on_test (λ n. n ≡ 0 → (length s.stored < most_grids) × (steps s < budget)) (leb budget (steps s)) (λ _ e. absurd (omega arith))
      (λ k _. (leb-false most_grids (length s.stored) h, leb-false budget (steps s) k)))

-- ## How a run grows

module _ (z : Puzzle) where
  -- from s to t only grids that fit b were stored, each once, and no limit was forgotten
  pub record Grown (b : Board) (s t : Run) : Type 0 where
    pub new : List Board
    pub longer : t.stored ≡ s.stored ++ new
    pub fit : (g : Board) → In g new → Fits z b g
    pub once : Distinct s.stored → Distinct t.stored
    pub limit_kept : t.limit ≡ 0 → s.limit ≡ 0

  pub grown_in : {b : Board} {s t : Run} → Grown b s t → (g : Board) → In g s.stored → In g t.stored
  grown_in w g m = subst (λ l. In g l) (sym w.longer) (Memᴰ.append_left w.new m)

  -- nothing was stored
  pub grown_same : (b : Board) (s t : Run) → t.stored ≡ s.stored → (t.limit ≡ 0 → s.limit ≡ 0) → Grown b s t
  grown_same b s t e f = record {
    new = [];
    longer = e ∙ sym (append-nil s.stored);
    fit = λ g m. absurd (Memᴰ.not-nil m);
    once = λ u. subst Distinct (sym e) u;
    limit_kept = f;
  }

  pub grown_more : {b : Board} {s t u : Run} → Grown b s t → Grown b t u → Grown b s u
  grown_more {s = s} p q = record {
    new = p.new ++ q.new;
    longer = q.longer ∙ ap (λ l. l ++ q.new) p.longer ∙ append_assoc s.stored p.new q.new;
    fit = λ g m. elim (Memᴰ.append_cases p.new m) [ inl k ↦ p.fit g k | inr k ↦ q.fit g k ];
    once = λ u. q.once (p.once u);
    limit_kept = λ e. p.limit_kept (q.limit_kept e);
  }

  pub grown_wider : {a b : Board} {s t : Run} → a ⊑ b → Grown a s t → Grown b s t
  grown_wider h w = record { new = w.new; longer = w.longer; fit = λ g m. fits_wider z h (w.fit g m); once = w.once; limit_kept = w.limit_kept }

  pub grown_quiet : (b : Board) {s t : Run} → Quiet s t → Grown b s t
  grown_quiet b {s} {t} q = grown_same b s t q.stored_same (λ e. sym q.limit_same ∙ e)

  pub grown_store : (b a : Board) (s : Run) → Fits z b a → Grown b s (store a s)
  grown_store b a s f = let r = store_adds a s.stored in record {
    new = r.0;
    longer = r.1;
    fit = λ g m. subst (Fits z b) (sym (r.2 g m)) f;
    once = store_distinct a s.stored;
    limit_kept = λ e. e;
  }

  pub grown_note : (b : Board) (m : ℕ) (s : Run) → Grown b s (note m s)
  grown_note b m s = grown_same b s (note m s) refl (λ e. earlier_limit s.limit m e)
