-- Finding the digit with which the next number begins.
use Rattle.std.proofs.Common.{◌≡◌, ℕ, Bool, true, false, List, [], ◌∷◌, length, Option, None, Some, is_some, MatchOption, IfSome, refl, sym, ◌∙◌, ap, subst, arith}
use Rattle.std.specs.Slice.Iter.{iter_rest, iter_steps}
use Rattle.std.specs.Iterator.{YieldsThen}
use Rattle.std.specs.Fn.{CalledAt}
use Rattle.std.specs.List.{FoldsTo}
use Rattle.std.specs.declared.slice.Iter.{Iter}
use denote.Param.Members.{Mut}
use denote.Ref.{Bor}
use Rattle.vectors.specs.Numbers.{digit, number, number_from}

-- what a number is after a byte that counts as o
abbrev after : Option ℕ → List ℕ → ℕ × List ℕ
after o text = elim o [ None ↦ number text | Some d ↦ number_from d text ]

-- a byte that is no digit is passed over
number_other : (o : Option ℕ) (text : List ℕ) → false ≡ is_some o → after o text ≡ number text
number_other None text h = refl
number_other (Some d) text h = cc

-- with a digit the number begins
number_digit : (o : Option ℕ) (text : List ℕ) → true ≡ is_some o → (d : ℕ) × (o ≡ Some d) × (after o text ≡ number_from d text)
number_digit None text h = cc
number_digit (Some d) text h = (d, refl, refl)

-- at the end there is no digit
number_end : (text : List ℕ) → length text ≡ 0 → number text ≡ number_from 0 text
number_end [] h = refl
number_end (b ∷ text) h = absurd (omega arith)

-- calls of `next` that passed over what is no digit, and then gave a digit or reached the end, leave the text from which the number goes on
module _ {F : Type 0} (g : Mut F (Bor (Bor ℕ) × Unit {0}) Bool) (tests : (f : F) (x : Bor ℕ) (b : Bool) (q : F) → CalledAt g f x b q → b ≡ is_some (digit x.now)) where
  pub found : (s u : Iter ℕ) (xs : List (Bor ℕ)) (r : Option (Bor ℕ)) (f last : F) → YieldsThen iter_steps s xs r u → FoldsTo (λ p x q. CalledAt g p x false q) f xs last
      → IfSome r (λ x. (q : F) × CalledAt g last x true q)
      → MatchOption r (number (iter_rest s) ≡ number_from 0 (iter_rest u)) (λ x. (d : ℕ) × (digit x.now ≡ Some d) × (number (iter_rest s) ≡ number_from d (iter_rest u)))
  found s u [] None f last (t, e, (h, k)) same called = let end = number_end (iter_rest t) h in cc
  found s u [] (Some x) f last (t, e, y) same (q, called) =
      let (d, is, goes) = number_digit (digit x.now) (iter_rest u) (tests last x true q called) in (d, is, ap number (ap iter_rest e ∙ y) ∙ goes)
  found s u (x ∷ xs) r f last (t, (j, step, rest), y) (p, called, calls) ends =
      let skips : number (iter_rest s) ≡ number (iter_rest j) = ap number step ∙ number_other (digit x.now) (iter_rest j) (tests f x false p called) in
      let P : ℕ × List ℕ → Type 0 = λ n. MatchOption r (n ≡ number_from 0 (iter_rest u)) (λ x. (d : ℕ) × (digit x.now ≡ Some d) × (n ≡ number_from d (iter_rest u))) in
      subst P (sym skips) (found j u xs r p last (t, rest, y) calls ends)
