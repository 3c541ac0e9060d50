-- A flag that a pass keeps: it says whether all tests so far passed, and one that fails strikes it.
use mathlib.Core.Path.{◌≡◌, sym, ◌∙◌}
use mathlib.Core.Bool.{Bool, true, false, ◌&&◌, and-true, and-false}
use mathlib.Core.Logic.{◌⊎◌, ⊎_elim}

-- the flag after a test that failed, and after one that passed
pub struck : {t flag : Bool} (fine : Bool) → t ≡ false → flag ≡ false → flag ≡ (fine && t)
struck fine e h = h ∙ rw e (sym (and-false fine))

pub kept : {t flag fine : Bool} → t ≡ true → flag ≡ fine → flag ≡ (fine && t)
kept {fine} e h = h ∙ rw e (sym (and-true fine))

-- where the arms of `if .. { flag = false; }` meet
pub flagged : {P Q : Type 0} {t flag fine : Bool} → (P → t ≡ false) → (Q → t ≡ true) → (P × (flag ≡ false)) ⊎ (Q × (flag ≡ fine))
    → flag ≡ (fine && t)
flagged {fine} fails passes = ⊎_elim (λ w. struck fine (fails w.0) w.1) (λ w. kept (passes w.0) w.1)
