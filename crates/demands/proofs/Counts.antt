-- The counts when the next chunk begins: those of its half are 0 (the crate book_time), and all others are as they were, among them
-- those of the chunk before.
use Prim.Native.Nat.{ℕ, ◌+◌, ◌-◌, ◌*◌, ◌≤◌, ◌<◌, zero-le}
use mathlib.Core.Path.{◌≡◌, ◌∙◌, ap}
use mathlib.Core.List.{List, ◌++◌}
use mathlib.Core.Logic.{◌⊎◌, inl, inr}
use native.Mathlib.Omega.{arith}
use native.Mathlib.Decide.{dec_le, dec_lt}
use lib.ListN.{length, get_or, take, drop, replicate, length-append, length-drop, length-replicate, get_or-append}
use lib.Seq.{length-take-le, get_or-append-add, get_or-take, get_or-drop}
use Rattle.book_state.specs.Log.{half_of, spot_of}
use Rattle.book_time.specs.Time.{cleared}
use Rattle.book_time.proofs.Moves.{cleared_there}

-- every other place is as it was
cleared_rest : (m k i : ℕ) (l : List ℕ) → m + k ≤ length l → (i < m) ⊎ (m + k ≤ i)
    → get_or (take m l ++ (replicate k 0 ++ drop (m + k) l)) i 0 ≡ get_or l i 0
cleared_rest m k i l long (inl before) =
    get_or-append (take m l) _ 0 i (rw (length-take-le m l (omega arith)) before) ∙ get_or-take m l i 0 before
cleared_rest m k i l long (inr after) =
    let j : ℕ = i - (m + k) in
    ap (λ i. get_or (take m l ++ (replicate k 0 ++ drop (m + k) l)) i 0)
    (omega (arith, length-take-le m l (omega arith), length-replicate {A = ℕ} k 0))
    ∙ get_or-append-add (take m l) (replicate k 0 ++ drop (m + k) l) (length {A = ℕ} (replicate k 0) + j) 0
    ∙ get_or-append-add (replicate k 0) (drop (m + k) l) j 0
    ∙ get_or-drop (m + k) l j 0
    ∙ ap (λ i. get_or l i 0) (omega arith)

module _ (chunk : ℕ) (counts : List ℕ) (long : length counts ≡ 32) where
  abbrev half : ℕ
  half = half_of chunk

  cleared_away : (spot : ℕ) → (spot < half * 16) ⊎ (half * 16 + 16 ≤ spot) → get_or (cleared half counts) spot 0 ≡ get_or counts spot 0
  unfolding cleared
  cleared_away spot away = cleared_rest (half * 16) 16 spot counts (omega arith) away

  -- the chunk before has the other half
  pub cleared_before : (before place : ℕ) → before + 1 ≡ chunk → place < 16
      → get_or (cleared half counts) (spot_of (half_of before) place) 0 ≡ get_or counts (spot_of (half_of before) place) 0
  cleared_before before place e h = cleared_away spot (side (dec_lt spot (half * 16)))
    where
      spot : ℕ
      spot = spot_of (half_of before) place

      side : Dec (spot < half * 16) → (spot < half * 16) ⊎ (half * 16 + 16 ≤ spot)
      side (yes l) = inl l
      side (no l) = inr (omega arith)

  pub cleared_long : length (cleared half counts) ≡ 32
  unfolding cleared
  cleared_long =
      rw (length-append, length-append)
      (omega (arith, length-take-le (half * 16) counts (omega arith), length-drop (half * 16 + 16) counts))

  pub cleared_few : (limit : ℕ) → ((spot : ℕ) → get_or counts spot 0 ≤ limit) → (spot : ℕ) → get_or (cleared half counts) spot 0 ≤ limit
  cleared_few limit few spot = go (dec_lt spot (half * 16)) (dec_le (half * 16 + 16) spot)
    where
      go : Dec (spot < half * 16) → Dec (half * 16 + 16 ≤ spot) → get_or (cleared half counts) spot 0 ≤ limit
      go (yes h) d = rw (cleared_away spot (inl h)) (few spot)
      go (no h) (yes k) = rw (cleared_away spot (inr k)) (few spot)
      go (no h) (no k) =
          let there : spot_of half (spot - half * 16) ≡ spot = omega arith in
          rw (rw there at (cleared_there half (spot - half * 16) counts (omega arith))) zero-le
