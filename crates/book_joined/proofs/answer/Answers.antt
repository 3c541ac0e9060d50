-- `book_joined::answer` meets its contract: the four walks give the steps on every way out; equal roots in one forest are
-- chained by its steps; and the crossing answers the rest.
use Prim.Native.Nat.{ℕ, ◌+◌, ◌≤◌}
use mathlib.Core.Path.{◌≡◌, sym, ap, ◌∙◌, subst⁻¹}
use mathlib.Core.Bool.{Bool}
use native.Mathlib.Omega.{arith}
use borrow.Author.Rules.{rules}
use Rattle.graph.specs.Forest.{climb}
use Rattle.forest.specs.declared.Walk.{Walk}
use Rattle.forest.specs.Arrays.{walked}
use Rattle.book_state.specs.Arrays.{step_limit}
use Rattle.book_joined.specs.Joined.{four_walks_of}
use Rattle.book_joined.specs.declared.JoinedAnswer.{JoinedAnswer}
use Rattle.book_joined.proofs.Asked.{askable}
use Rattle.book_joined.proofs.Crossing.{backward_decides, forward_decides}
use Rattle.book_joined.proofs.Rooted.{climb_few}
use Rattle.book_joined.proofs.answer.Goals as goal
use Rattle.book_joined.proofs.answer.Goals.{After-walk-forward_other}

-- a walk takes no more steps than its limit
few : (up : ℕ → ℕ) (cell : ℕ) {w : Walk} → w ≡ walked (climb up step_limit cell) → w.steps ≤ step_limit
few up cell e = subst⁻¹ (λ (w : Walk). w.steps ≤ step_limit) e (climb_few up step_limit cell)

same_root : (up : ℕ → ℕ) (one other : ℕ) {v w : Walk} → v ≡ walked (climb up step_limit one) → w ≡ walked (climb up step_limit other) → v.root ≡ w.root
    → (climb up step_limit one).root ≡ (climb up step_limit other).root
same_root up one other p q e = sym (ap (λ w. w.root) p) ∙ e ∙ ap (λ w. w.root) q

-- so the steps of four walks are added up
added : (up down : ℕ → ℕ) (one other : ℕ) {a b c d : Walk} → a ≡ walked (climb up step_limit one) → b ≡ walked (climb up step_limit other)
    → c ≡ walked (climb down step_limit one) → d ≡ walked (climb down step_limit other)
    → a.steps + b.steps + c.steps + d.steps
    ≡ (climb up step_limit one).steps + (climb up step_limit other).steps + (climb down step_limit one).steps + (climb down step_limit other).steps
added up down one other p q r s i = (p i).steps + (q i).steps + (r i).steps + (s i).steps

-- an answer is its parts
answered : {yes also : Bool} {steps sum : ℕ} → yes ≡ also → steps ≡ sum
    → ◌≡◌ {A = JoinedAnswer} (record { number = 0; yes = yes; steps = steps }) (record { number = 0; yes = also; steps = sum })
answered p q i = record { number = 0; yes = p i; steps = q i }

-- their sum
sum : (c : After-walk-forward_other) → (let args = c.args in
    c.walk_at-backward_one.result.steps + c.walk_at-backward_other.result.steps + c.walk-forward_one.result.steps + c.walk-forward_other.result.steps
    ≡ four_walks_of c.cut-cut.result args.book.now.backward_parent args.book.now.backward_label args.book.now.forward_parent args.one args.other)
sum c = added _ _ _ _ c.walk_at-backward_one.ensures c.walk_at-backward_other.ensures c.walk-forward_one.ensures c.walk-forward_other.ensures

pub overflow_add-backward_steps : goal.overflow_add-backward_steps
overflow_add-backward_steps c = omega (arith, few _ _ c.walk_at-backward_one.ensures, few _ _ c.walk_at-backward_other.ensures)

pub overflow_add-steps : goal.overflow_add-steps
overflow_add-steps c =
    omega (arith, few _ _ c.walk_at-backward_one.ensures, few _ _ c.walk_at-backward_other.ensures, few _ _ c.walk-forward_one.ensures)

pub overflow_add-steps-2 : goal.overflow_add-steps-2
overflow_add-steps-2 c =
    omega (arith, few _ _ c.walk_at-backward_one.ensures, few _ _ c.walk_at-backward_other.ensures, few _ _ c.walk-forward_one.ensures, few _ _ c.walk-forward_other.ensures)

-- the cut is above place 0
above : (c : After-walk-forward_other) → 1 ≤ c.cut-cut.result
above c = omega (arith, c.cut-cut.ensures)

pub returns-then-backward_one-backward_other : goal.returns-then-backward_one-backward_other
returns-then-backward_one-backward_other c =
    let a = askable c.args.book.now (search rules) (search rules) (search rules) c.requires.ordered (above (goal.at.returns-then-backward_one-backward_other c).After-walk-forward_other) c.requires.two in
    rw (← c.cut-cut.ensures)
    (answered
    (backward_decides a (same_root _ _ _ c.walk_at-backward_one.ensures c.walk_at-backward_other.ensures c.if-backward_one-backward_other.true))
    (sum (goal.at.returns-then-backward_one-backward_other c).After-walk-forward_other))

pub returns-then-forward_one-forward_other : goal.returns-then-forward_one-forward_other
returns-then-forward_one-forward_other c =
    let a = askable c.args.book.now (search rules) (search rules) (search rules) c.requires.ordered (above (goal.at.returns-then-forward_one-forward_other c).After-walk-forward_other) c.requires.two in
    rw (← c.cut-cut.ensures)
    (answered
    (forward_decides a (same_root _ _ _ c.walk-forward_one.ensures c.walk-forward_other.ensures c.if-forward_one-forward_other.true))
    (sum (goal.at.returns-then-forward_one-forward_other c).After-walk-forward_other))

pub across-yes-requires-clause-above : goal.across-yes-requires-clause-above
across-yes-requires-clause-above c = omega (arith, c.cut-cut.ensures)

pub returns : goal.returns
returns c = rw (← c.cut-cut.ensures) (answered c.across-yes.ensures (sum (goal.at.returns c).After-walk-forward_other))
