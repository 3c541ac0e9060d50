-- The lists begin empty (`none_listed`) and grow by one entry (`list_more`). What is left in the end is fixed (`one_listing`).
use Prim.Native.Nat.{ℕ, ◌+◌, ◌<◌, ◌≤◌}
use mathlib.Core.Path.{◌≡◌, sym, ◌∙◌}
use mathlib.Core.List.{List, ◌++◌}
use native.Mathlib.Decide.{dec_le}
use native.Mathlib.Nat.{le_antisymm}
use native.Mathlib.Omega.{arith}
use Prim.Native.Nat.{zero-le}
use lib.ListN.{length, get_or, set, length-set, take, replicate, length-replicate, get_or-replicate, take-append-drop}
use lib.Seq.{length-take-le, get_or-take, ext_get_or}
use Rattle.std.proofs.lemmas.Grind.{common_steps}
use Rattle.buckets.specs.Listed.{FirstFrom, AllBelow, Listed, AllListed}

-- no entry is listed yet
pub none_listed : (bound : ℕ) {keys next : List ℕ} {end : ℕ} → AllBelow bound keys → length keys ≤ length next → end ≡ length keys
    → Listed keys (length (replicate bound end)) (length keys) (replicate bound end) next
none_listed bound {keys} {next} {end} inside long e =
    rw length-replicate
    (record {
      inside = inside;
      first_long = length-replicate bound end;
      next_long = long;
      first_of = λ key h.
          rw (get_or-replicate bound key end 0 h)
          (record { from = omega arith; within = omega arith; has = λ lt. absurd (omega arith); none_before = λ i le lt k. omega arith });
      next_of = λ i le lt. absurd (omega arith);
    })

-- one entry more becomes the first of its key, and what was first comes next
pub list_more : {keys first next : List ℕ} {bound i j key : ℕ} → j ≡ i + 1 → i < length keys → key ≡ get_or keys i 0 → Listed keys bound j first next
    → Listed keys bound i (set first key i) (set next i (get_or first key 0))
list_more j h e l =
    record {
      inside = l.inside;
      first_long = simp length-set l.first_long;
      next_long = simp length-set l.next_long;
      first_of = grind (arith, common_steps);
      next_of = grind (arith, common_steps);
    }

first_least : {keys : List ℕ} {key start a b : ℕ} → FirstFrom keys key start a → FirstFrom keys key start b → Dec (a ≤ b) → a ≤ b
first_least f g (yes le) = le
first_least {b = b} f g (no gt) = absurd (f.none_before b g.from (omega arith) (g.has (omega (arith, f.within))))

first_same : {keys : List ℕ} {key start a b : ℕ} → FirstFrom keys key start a → FirstFrom keys key start b → a ≡ b
first_same {a = a} {b = b} f g = le_antisymm (first_least f g (dec_le a b)) (first_least g f (dec_le b a))

-- what listing leaves is fixed by the keys, and beyond them by what was there
pub one_listing : {keys first next first₁ next₁ first₂ next₂ : List ℕ} → AllListed keys first next first₁ next₁ → AllListed keys first next first₂ next₂
    → (first₁ ≡ first₂) × (next₁ ≡ next₂)
one_listing {keys} {first} {next} {first₁} {next₁} {first₂} {next₂} p q = (
  ext_get_or 0 first₁ first₂ (l.first_long ∙ sym k.first_long) (λ key h. let h' = rw l.first_long at h in first_same (l.first_of key h') (k.first_of key h')),
  sym (take-append-drop n next₁) ∙ (λ i. fronts i ++ (p.rest ∙ sym q.rest) i) ∙ take-append-drop n next₂,
)
  where
    n : ℕ
    n = length keys

    l : Listed keys (length first) 0 first₁ next₁
    l = p.listed

    k : Listed keys (length first) 0 first₂ next₂
    k = q.listed

    long : length (take n next₁) ≡ n
    long = length-take-le n next₁ l.next_long

    fronts : take n next₁ ≡ take n next₂
    fronts =
        ext_get_or 0 (take n next₁) (take n next₂) (long ∙ sym (length-take-le n next₂ k.next_long))
        (λ i h.
        let h' : i < n = rw long at h in
        get_or-take n next₁ i 0 h' ∙ first_same (l.next_of i zero-le h') (k.next_of i zero-le h') ∙ sym (get_or-take n next₂ i 0 h'))
