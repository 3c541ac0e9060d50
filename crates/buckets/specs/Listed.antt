-- Entries of equal key as lists: `first` gives a key's smallest entry, `next` each entry's next larger one of the same key.
-- The number of entries ends a list, so along a list the entries rise.
use Rattle.std.specs.Prelude.{ℕ, ◌<◌, ◌≤◌, ◌+◌, ◌≡◌, List, length, get_or, drop}

-- the smallest entry of the key that is not before `start`, or the number of entries where there is none
pub record FirstFrom (keys : List ℕ) (key start entry : ℕ) : Type 0 where
  pub from : start ≤ entry
  pub within : entry ≤ length keys
  pub has : entry < length keys → get_or keys entry 0 ≡ key
  pub none_before : (i : ℕ) → start ≤ i → i < entry → get_or keys i 0 ≡ key → ⊥

-- each key is below the bound
abbrev pub AllBelow : (bound : ℕ) (keys : List ℕ) → Type 0
AllBelow bound keys = (i : ℕ) → i < length keys → get_or keys i 0 < bound

-- the lists of all keys below the bound, of the entries that are not before `start`
pub record Listed (keys : List ℕ) (bound start : ℕ) (first next : List ℕ) : Type 0 where
  pub inside : AllBelow bound keys
  pub first_long : length first ≡ bound
  pub next_long : length keys ≤ length next
  pub first_of : (key : ℕ) → key < bound → FirstFrom keys key start (get_or first key 0)
  pub next_of : (i : ℕ) → start ≤ i → i < length keys → FirstFrom keys (get_or keys i 0) (i + 1) (get_or next i 0)

-- what listing leaves in `first` and `next`: the lists of all entries; and the places beyond the entries are as they were
pub record AllListed (keys first next first_after next_after : List ℕ) : Type 0 where
  pub listed : Listed keys (length first) 0 first_after next_after
  pub rest : drop (length keys) next_after ≡ drop (length keys) next
