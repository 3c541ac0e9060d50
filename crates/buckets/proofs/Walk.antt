-- A walk along the list of a key: what holds of the entries that are passed.
--
-- Between an entry of the key and its next one there is no entry of the key, so one entry more is one more that is passed
-- (`walk_on`); at the end all are (`walk_ends`).
use Prim.Native.Nat.{ℕ, ◌+◌, ◌≤◌, ◌<◌, zero-le}
use native.Mathlib.Decide.{dec_lt}
use native.Mathlib.Nat.{eq-or-lt_of_le}
use native.Mathlib.Omega.{arith}
use mathlib.Core.Path.{◌≡◌}
use mathlib.Core.List.{List}
use mathlib.Core.Logic.{⊎_elim}
use lib.ListN.{length, get_or}
use Rattle.buckets.specs.Listed.{FirstFrom, Listed}

-- `entry` is one of the key's, and P holds of those before it
pub record Walked (keys : List ℕ) (key : ℕ) (P : ℕ → Type 0) (entry : ℕ) : Type 0 where
  pub has : entry < length keys → get_or keys entry 0 ≡ key
  pub passed : (i : ℕ) → i < entry → i < length keys → get_or keys i 0 ≡ key → P i

module _ {keys first next : List ℕ} {bound : ℕ} (listed : Listed keys bound 0 first next) where
  pub walk_begins : {key entry : ℕ} {P : ℕ → Type 0} → key < bound → entry ≡ get_or first key 0 → Walked keys key P entry
  walk_begins {key} {entry} inside e =
      let f : FirstFrom keys key 0 entry = rw e (listed.first_of key inside) in
      record { has = f.has; passed = λ i lt h k. absurd (f.none_before i zero-le lt k) }

  -- along a list the entries rise
  pub entry_rises : {entry following : ℕ} → entry < length keys → following ≡ get_or next entry 0 → entry < following
  entry_rises {entry} more e = omega (arith, (listed.next_of entry zero-le more).from)

  -- on to the key's next entry
  pub walk_on : {key entry following : ℕ} {P : ℕ → Type 0} → Walked keys key P entry → entry < length keys → P entry → following ≡ get_or next entry 0 → Walked keys key P following
  walk_on {key} {entry} {following} {P} w more p e = record { has = f.has; passed = passed }
    where
      f : FirstFrom keys key (entry + 1) following
      f = rw (e, ← w.has more) (listed.next_of entry zero-le more)

      passed : (i : ℕ) → i < following → i < length keys → get_or keys i 0 ≡ key → P i
      passed i lt h k =
          elim (dec_lt i entry) [
            | yes before ↦ w.passed i before h k
            | no past ↦
                let le : entry ≤ i = omega arith in
                ⊎_elim (λ same. rw (← same) p) (λ later. absurd (f.none_before i (omega arith) lt k)) (eq-or-lt_of_le le)
          ]

-- past the last entry P holds of all
pub walk_ends : {keys : List ℕ} {key entry : ℕ} {P : ℕ → Type 0} → Walked keys key P entry → length keys ≤ entry → (i : ℕ) → i < length keys → get_or keys i 0 ≡ key → P i
walk_ends w all i h = w.passed i (omega arith) h

pub walked_map : {keys : List ℕ} {key entry : ℕ} {P Q : ℕ → Type 0} → ((i : ℕ) → P i → Q i) → Walked keys key P entry → Walked keys key Q entry
walked_map f w = record { has = w.has; passed = λ i lt h k. f i (w.passed i lt h k) }
