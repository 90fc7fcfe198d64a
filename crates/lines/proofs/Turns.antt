-- One turn of each loop of reducing by a machine, over plain values: the loops over the masks of the colours, and the two over the cells.
use Rattle.std.proofs.Common.{◌≡◌, refl, ap, ap₂, sym, ◌∙◌, subst, List, [], ◌∷◌, ◌++◌, append_assoc, append-nil, ℕ, suc, ◌+◌, ◌-◌, ◌*◌, ◌/◌, ◌%◌, ◌^◌, ◌≤◌, ◌<◌, pow-suc, add-one, arith, length, get_or, set, take, drop, drop_of_length-le, drop-cons, drop-drop, drop-set-lt, get_or-drop, get_or-set_same, get_or-set_other, take_all, take-suc-set, bit_and, bit_or}
use Rattle.std.proofs.Math.Nat.{lt-mul-div-succ, add-mul-mod_self_left, mod-eq_of_lt}
use Rattle.std.proofs.lemmas.Nat.{and_mod}
use lib.Bits.{or_zero_r, or_lt, or_shifted_r, and_le_r}
use lib.Seq.{drop-length}
use Rattle.rules.proofs.Tests.{by_equal}
use Rattle.lines.specs.declared.machine.Machine.{Machine}
use Rattle.lines.specs.Machines.{pick, sign, goes, stays, before, after, able, keeps, ends, kept}
use Rattle.lines.proofs.Masks.{or_assoc, sign_le}

-- ## The masks of the colours

goes_none : (masks : List ℕ) → goes masks 0 ≡ 0
unfolding goes
goes_none [] = refl
goes_none (p ∷ masks) = ap (bit_or 0) (goes_none masks) ∙ or_zero_r 0

module _ (masks : List ℕ) (c : ℕ) where
  pub goes_again : (rest states all : ℕ) → c < length masks → bit_or states (goes (drop c masks) rest) ≡ all →
      bit_or (bit_or states (pick (rest % 2) (get_or masks c 0))) (goes (drop (c + 1) masks) (rest / 2)) ≡ all
  unfolding goes
  goes_again rest states all h e =
      or_assoc states (pick (rest % 2) (get_or masks c 0)) (goes (drop (c + 1) masks) (rest / 2)) ∙ sym (rw (add-one, drop-cons masks c 0 h, goes)) ∙ e

  pub goes_over : (rest states all : ℕ) → length masks ≤ c → bit_or states (goes (drop c masks) rest) ≡ all → states ≡ all
  unfolding goes
  goes_over rest states all h e = sym (or_zero_r states) ∙ sym (rw (drop_of_length-le masks {i = c} h)) ∙ e

  -- no colour is left
  pub goes_left : (rest states all : ℕ) → rest ≡ 0 → bit_or states (goes (drop c masks) rest) ≡ all → states ≡ all
  goes_left rest states all h e = sym (ap (bit_or states) (ap (goes (drop c masks)) h ∙ goes_none (drop c masks)) ∙ or_zero_r states) ∙ e

  pub able_again : (states colours all : ℕ) → c < length masks → colours < 2 ^ c → colours + 2 ^ c * able (drop c masks) states ≡ all →
      let more = bit_or colours (sign (bit_and (get_or masks c 0) states) * 2 ^ c) in (more < 2 ^ (c + 1)) × (more + 2 ^ (c + 1) * able (drop (c + 1) masks) states ≡ all)
  unfolding able
  able_again states colours all h l e =
      let v = sign (bit_and (get_or masks c 0) states) in
      let rest = able (drop (c + 1) masks) states in
      let d : able (drop c masks) states ≡ v + 2 * rest = rw (add-one, drop-cons masks c 0 h) in
      let p : 2 ^ (c + 1) ≡ 2 ^ c * 2 = ap (λ n. 2 ^ n) (add-one c) ∙ pow-suc 2 c in
      let o = or_shifted_r v c colours l in
      let q = sign_le (bit_and (get_or masks c 0) states) in
      (grind arith, omega (arith, ap (λ n. n * rest) p, ap (λ n. 2 ^ c * n) d))

  pub able_over : (states colours all : ℕ) → length masks ≤ c → colours + 2 ^ c * able (drop c masks) states ≡ all → colours ≡ all
  unfolding able
  able_over states colours all h e = omega (arith, e, ap (λ l. 2 ^ c * able l states) (drop_of_length-le masks {i = c} h))

  -- a set with no colour from c on
  pub able_left : (s states colours all : ℕ) → s / 2 ^ c ≡ 0 → colours < 2 ^ c → colours + 2 ^ c * able (drop c masks) states ≡ all → bit_and colours s ≡ bit_and all s
  able_left s states colours all h l e =
      let more = able (drop c masks) states in
      let p : 0 < 2 ^ c = omega (arith, l) in
      let b : s < 2 ^ c = omega (arith, lt-mul-div-succ s p, ap (λ n. 2 ^ c * (n + 1)) h) in
      let m : all % 2 ^ c ≡ colours = ap (λ n. n % 2 ^ c) (sym e) ∙ add-mul-mod_self_left colours (2 ^ c) more ∙ mod-eq_of_lt l in
      ap₂ bit_and (sym m) (sym (mod-eq_of_lt b)) ∙ sym (and_mod all s c) ∙ mod-eq_of_lt (omega (arith, and_le_r all s, b))

-- ## Backwards over the cells

drop_down : (xs : List ℕ) (i : ℕ) → 0 < i → i ≤ length xs → drop (i - 1) xs ≡ get_or xs (i - 1) 0 ∷ drop i xs
drop_down xs i h l =
    let e : suc (i - 1) ≡ i = omega arith in
    drop-cons xs (i - 1) 0 (omega arith) ∙ ap (λ n. get_or xs (i - 1) 0 ∷ drop n xs) e

pub ends_last : (m : Machine) (sets : List ℕ) → m.last ≡ ends m (drop (length sets) sets)
unfolding ends
ends_last m sets = rw drop-length

pub ends_again : (m : Machine) (sets : List ℕ) (i g p to : ℕ) → 0 < i → i ≤ length sets → to ≡ ends m (drop i sets) → g ≡ goes m.by (get_or sets (i - 1) 0) →
    p ≡ stays m (get_or sets (i - 1) 0) → bit_or (bit_and p to) (bit_and g (to / 2)) ≡ ends m (drop (i - 1) sets)
unfolding ends before
ends_again m sets i g p to h l e q r = rw (drop_down sets i h l) (cc)

-- a list that has from i up to n what f says has it from i - 1 on, once that is stored there
pub filled_again : {A : Type 0} (f : ℕ → A) (xs : List A) (i n : ℕ) (v : A) → 0 < i → i ≤ length xs → v ≡ f (i - 1) → ((k : ℕ) (other : A) → i ≤ k → k < n → get_or xs k other ≡ f k) →
    (k : ℕ) (other : A) → i - 1 ≤ k → k < n → get_or (set xs (i - 1) v) k other ≡ f k
filled_again f xs i n v h l e all k other a b = by_equal k (i - 1)
    (λ q. subst (λ x. get_or (set xs (i - 1) v) x other ≡ f x) (sym q) (get_or-set_same xs (i - 1) v other (omega arith) ∙ e))
    (λ q. get_or-set_other xs (i - 1) k v other q ∙ all k other (omega (arith, q)) b)

-- ## Forwards over the cells

-- after i cells the line can be in the states up to i
abbrev pub Reached : ℕ → ℕ → Type 0
Reached i from = from < 2 ^ (i + 1)

pub reached_again : (i p g from : ℕ) → Reached i from → Reached (i + 1) (bit_or (bit_and p from) (bit_and g from * 2))
reached_again i p g from l =
    let e : 2 ^ (i + 1 + 1) ≡ 2 ^ (i + 1) * 2 = ap (λ n. 2 ^ n) (add-one (i + 1)) ∙ pow-suc 2 (i + 1) in
    or_lt (i + 1 + 1) (bit_and p from) (bit_and g from * 2) (omega (arith, and_le_r p from, e)) (omega (arith, and_le_r g from, e))

-- at a turn the cells from i on are as they were
module _ (m : Machine) (line₀ line : List ℕ) (from i v : ℕ) (below : i < length line₀) (long : length line ≡ length line₀) (rest : drop i line ≡ drop i line₀) where
  same_cell : get_or line i 0 ≡ get_or line₀ i 0
  same_cell =
      let z : i ≡ i + 0 = omega arith in
      ap (λ k. get_or line k 0) z ∙ sym (get_or-drop i line 0 0) ∙ ap (λ l. get_or l 0 0) rest ∙ get_or-drop i line₀ 0 0 ∙ ap (λ k. get_or line₀ k 0) (sym z)

  pub rest_again : drop (i + 1) (set line i v) ≡ drop (i + 1) line₀
  rest_again = drop-set-lt (i + 1) line i v (omega arith) ∙ sym (drop-drop 1 i line) ∙ ap (drop 1) rest ∙ drop-drop 1 i line₀

  cell_rest : drop i line₀ ≡ get_or line i 0 ∷ drop (i + 1) line₀
  cell_rest = drop-cons line₀ i 0 below ∙ ap₂ (λ (x : ℕ) (l : List ℕ). x ∷ l) (sym same_cell) (rw add-one)

  pub after_again : (g p : ℕ) → g ≡ goes m.by (get_or line₀ i 0) → p ≡ stays m (get_or line i 0) → bit_or (bit_and p from) (bit_and g from * 2) ≡ after m (get_or line i 0) from
  unfolding after
  after_again g p q r = let e = same_cell in rw (r, q, e)

  pub kept_again : take i line ++ kept m from (drop i line₀) ≡ kept m 1 line₀ → v ≡ keeps m (get_or line i 0) from (ends m (drop (i + 1) line₀)) →
      take (i + 1) (set line i v) ++ kept m (after m (get_or line i 0) from) (drop (i + 1) line₀) ≡ kept m 1 line₀
  unfolding kept
  kept_again e t =
      let h : i < length line = omega arith in
      let more = kept m (after m (get_or line i 0) from) (drop (i + 1) line₀) in
      let r : kept m from (drop i line₀) ≡ v ∷ more = ap (kept m from) cell_rest ∙ ap (λ x. x ∷ more) (sym t) in
      ap (λ l. l ++ more) (ap (λ k. take k (set line i v)) (add-one i) ∙ take-suc-set line i v h)
      ∙ append_assoc (take i line) (v ∷ []) more ∙ ap (λ l. take i line ++ l) (sym r) ∙ e

pub kept_over : (m : Machine) (line₀ line : List ℕ) (from i : ℕ) → length line ≤ i → length line ≡ length line₀ → take i line ++ kept m from (drop i line₀) ≡ kept m 1 line₀ → line ≡ kept m 1 line₀
unfolding kept
kept_over m line₀ line from i h l e =
    let a : take i line ≡ line = take_all i line h in
    let b : drop i line₀ ≡ [] = drop_of_length-le line₀ {i = i} (omega arith) in
    sym (ap (λ x. x ++ kept m from (drop i line₀)) a ∙ ap (λ x. line ++ kept m from x) b ∙ append-nil line) ∙ e
