-- No two refusals have one number, and none has 0. So an answer whose number and value are told is told whole.
use Rattle.std.proofs.Common.{◌≡◌, ℕ, [], ◌∷◌, get_or, Result, Ok, Err, refl, sym, ap, ◌∙◌, arith}
use Rattle.refusals.specs.declared.Refusal.{Refusal}
use Rattle.refusals.specs.declared.Refusal.TheVariants.{OutOfOrder, Settings, NoCell, Late, Full, Short, NoTrail, Length, Letters, Offset, Pad, Form, Apart, Mask}
use Rattle.refusals.specs.Number.{code_of, number_of}

-- the refusal of a number of the table, each at its place
refusal_of : ℕ → Refusal
refusal_of number =
    get_or
    (OutOfOrder ∷ OutOfOrder ∷ Settings ∷ NoCell ∷ Late ∷ Full ∷ Short ∷ NoTrail ∷ NoTrail ∷ Length ∷ Letters ∷ Offset ∷ Pad ∷ Form ∷ Apart ∷ Mask ∷ [])
    number OutOfOrder

back : (r : Refusal) → refusal_of (code_of r) ≡ r
unfolding refusal_of
back OutOfOrder = refl
back Settings = refl
back NoCell = refl
back Late = refl
back Full = refl
back Short = refl
back NoTrail = refl
back Length = refl
back Letters = refl
back Offset = refl
back Pad = refl
back Form = refl
back Apart = refl
back Mask = refl

-- two refusals with one number are the same
pub one_refusal : (a b : Refusal) → code_of a ≡ code_of b → a ≡ b
one_refusal a b e = sym (back a) ∙ ap refusal_of e ∙ back b

-- 0 is none's
pub never_0 : (r : Refusal) → code_of r ≡ 0 → ⊥
never_0 OutOfOrder e = omega (arith, e)
never_0 Settings e = omega (arith, e)
never_0 NoCell e = omega (arith, e)
never_0 Late e = omega (arith, e)
never_0 Full e = omega (arith, e)
never_0 Short e = omega (arith, e)
never_0 NoTrail e = omega (arith, e)
never_0 Length e = omega (arith, e)
never_0 Letters e = omega (arith, e)
never_0 Offset e = omega (arith, e)
never_0 Pad e = omega (arith, e)
never_0 Form e = omega (arith, e)
never_0 Apart e = omega (arith, e)
never_0 Mask e = omega (arith, e)

-- what is told of an answer, its number among it, tells the answer
module _ {A X : Type 0} (told : Result A Refusal → X) (number : X → ℕ) (done : (x : A) → number (told (Ok x)) ≡ 0)
    (refused : (r : Refusal) → number (told (Err r)) ≡ code_of r) (given : (x y : A) → told (Ok x) ≡ told (Ok y) → x ≡ y) where
  pub one_answer : (a b : Result A Refusal) → told a ≡ told b → a ≡ b
  one_answer (Ok x) (Ok y) e = ap Ok (given x y e)
  one_answer (Ok x) (Err r) e = absurd (never_0 r (sym (refused r) ∙ sym (ap number e) ∙ done x))
  one_answer (Err r) (Ok y) e = absurd (never_0 r (sym (refused r) ∙ ap number e ∙ done y))
  one_answer (Err r) (Err s) e = ap Err (one_refusal r s (sym (refused r) ∙ ap number e ∙ refused s))

-- an answer that gives nothing is told by its number
pub one_number : (a b : Result Unit Refusal) → number_of a ≡ number_of b → a ≡ b
one_number = one_answer number_of (λ n. n) (λ x. refl) (λ r. refl) (λ x y e. refl)
