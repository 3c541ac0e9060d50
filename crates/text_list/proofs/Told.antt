-- What is told of an answer tells it: so a call that is told of in full gives one answer.
use mathlib.Core.Path.{◌≡◌, refl, sym, ap}
use Prim.Native.Nat.{ℕ}
use Rattle.std.proofs.Common.{Result, Ok, Err}
use Rattle.refusals.specs.declared.Refusal.{Refusal}
use Rattle.refusals.proofs.Told.{one_refusal, never_0, one_answer}
use Rattle.text_list.specs.declared.Refused.{Refused}
use Rattle.text_list.specs.Call.{told_in, told_out}

pub one_text_in : (a b : Result ℕ Refused) → told_in a ≡ told_in b → a ≡ b
one_text_in (Ok x) (Ok y) e = ap (λ t. Ok t.length) e
one_text_in (Ok x) (Err r) e = absurd (never_0 r.refusal (sym (ap (λ t. t.number) e)))
one_text_in (Err r) (Ok y) e = absurd (never_0 r.refusal (ap (λ t. t.number) e))
one_text_in (Err r) (Err s) e =
    let refusal = one_refusal r.refusal s.refusal (ap (λ t. t.number) e) in
    λ i. Err (record { refusal = refusal i; line = (e i).line })

pub one_text_out : (a b : Result ℕ Refusal) → told_out a ≡ told_out b → a ≡ b
one_text_out = one_answer told_out (λ t. t.number) (λ x. refl) (λ r. refl) (λ x y e. ap (λ t. t.length) e)
