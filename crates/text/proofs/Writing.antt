-- Texts written one after the other into an output are their sequence, written once; a text written from the front stands
-- there, and no byte beyond it changes.
use Prim.Native.Nat.{ℕ, suc, ◌+◌, ◌≤◌}
use mathlib.Core.Path.{◌≡◌, refl, ◌∙◌}
use mathlib.Core.List.{List, [], ◌∷◌, ◌++◌}
use native.Mathlib.Nat.{add-zero, add-suc, suc-add, zero-add, add_assoc}
use native.Mathlib.Omega.{arith}
use lib.ListN.{length, length-append}
use lib.Seq.{sets, sets-eq, length-sets}
use Rattle.numbers.specs.Front.{at_front}
use Rattle.text.specs.declared.Output.{Output}
use Rattle.text.specs.Output.{wrote}

sets_append : (xs ys l : List ℕ) (i : ℕ) → sets l i (xs ++ ys) ≡ sets (sets l i xs) (i + length xs) ys
sets_append [] ys l i = rw (add-zero i)
sets_append (x ∷ xs) ys l i = sets_append xs ys _ (suc i) ∙ rw (add-suc, suc-add)

pub wrote_none : (o : Output) → wrote [] o ≡ o
unfolding wrote
wrote_none o = rw add-zero

pub wrote_end : (text : List ℕ) (o : Output) → (wrote text o).end ≡ o.end + length text
unfolding wrote
wrote_end text o = refl

pub wrote_long : (text : List ℕ) (o : Output) → length (wrote text o).bytes.now ≡ length o.bytes.now
unfolding wrote
wrote_long text o = length-sets o.bytes.now o.end text

pub wrote_then : (xs ys : List ℕ) (o : Output) → wrote ys (wrote xs o) ≡ wrote (xs ++ ys) o
unfolding wrote
wrote_then xs ys o = rw (sets_append, length-append xs ys, add_assoc)

pub sets_front : (text out : List ℕ) → length text ≤ length out → sets out 0 text ≡ at_front text out
sets_front text out h = sets-eq text out 0 (omega arith) ∙ rw zero-add

-- the lemmas that writing one text after the other goes by
pub ruleset writing = (wrote_none, wrote_end, wrote_long, wrote_then, length-append)
