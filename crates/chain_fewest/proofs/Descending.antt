-- The descent from the first cell to the second: the best trail is what is written, and then the best trail from the cell
-- that the descent has come to. A turn writes that cell and goes on to the next one (`trail_onward`).
use Prim.Native.Nat.{ℕ, ◌+◌, ◌≤◌, ◌<◌}
use native.Mathlib.Decide.{dec_lt}
use native.Mathlib.Nat.{pos_of_ne-zero}
use native.Mathlib.Numerals.{add-one}
use native.Mathlib.Omega.{arith}
use mathlib.Core.Path.{◌≡◌, sym, ◌∙◌, ap, ap₂}
use mathlib.Core.List.{List, [], ◌∷◌, ◌++◌, append_assoc}
use lib.ListN.{length, get_or, set, take, drop, length-set, take-append-drop, get_or-eq_default}
use lib.Seq.{take-suc-set, drop-set-lt}
use Rattle.numbers.specs.Front.{at_front}
use Rattle.graph.specs.Link.{Link}
use Rattle.graph.specs.Trail.{trail_of}
use Rattle.graph.proofs.Finder.{trail_of_same}
use Rattle.chain_fewest.specs.Levels.{Known}
use Rattle.chain_fewest.specs.Descent.{Nearer, NextCell, DescentReady}
use Rattle.chain_fewest.proofs.Onward.{some_nearer, trail_onward, one_left}

-- a cell whose number is known is one of the cells
pub known_inside : (remaining : List ℕ) (c : ℕ) → Known remaining c → c < length remaining
known_inside remaining c known =
    elim (dec_lt c (length remaining)) [
      | yes h ↦ h
      | no h ↦ let le : length remaining ≤ c = omega arith in absurd (omega (arith, get_or-eq_default remaining 0 le))
    ]

-- the descent has come to the cell, with the places before `place` written
pub record Descending
    (ls : List Link) (remaining : List ℕ) (one other : ℕ) (chain₀ chain : List ℕ) (place cell : ℕ) : Type 0
  where
    pub down : DescentReady ls remaining one other chain₀
    pub long : length chain ≡ length chain₀
    pub known : Known remaining cell
    pub sum : place + get_or remaining cell 0 ≡ get_or remaining one 0
    pub written : trail_of ls one other ≡ take place chain ++ trail_of ls cell other
    pub rest : drop (get_or remaining one 0) chain ≡ drop (get_or remaining one 0) chain₀

module _
    {ls : List Link} {remaining chain₀ chain : List ℕ} {one other place cell : ℕ}
    (d : Descending ls remaining one other chain₀ chain place cell)
  where
    -- the cell has room in the chain, and fits there: how few cells there are the array's type says
    pub has_place : (place < length chain) × (cell < length remaining) × (length remaining < 65536 → cell < 65536)
    has_place =
        let inside = known_inside remaining cell d.known in
        (omega (arith, d.sum, d.known, d.down.room, d.long), inside, λ few. omega arith)

    -- one more place is written
    written_more : take (place + 1) (set chain place cell) ≡ take place chain ++ (cell ∷ [])
    written_more = rw add-one (take-suc-set chain place cell has_place.0)

    rest_more : drop (get_or remaining one 0) (set chain place cell) ≡ drop (get_or remaining one 0) chain₀
    rest_more = drop-set-lt (get_or remaining one 0) chain place cell (omega (arith, d.sum, d.known)) ∙ d.rest

    pub descending_nearer : (cell ≡ other → ⊥) → (x : ℕ) × Nearer ls remaining cell x
    descending_nearer = some_nearer d.down.counted d.known

    pub descending_turns :
        {next : ℕ} →
        (cell ≡ other → ⊥) →
        NextCell ls remaining cell next →
        Descending ls remaining one other chain₀ (set chain place cell) (place + 1) next
    descending_turns {next} apart x =
        record {
          down = d.down;
          long = simp length-set d.long;
          known = known;
          sum = omega (arith, d.sum, x.nearer.fewer);
          written =
              rw (written_more, append_assoc)
              (d.written ∙ ap (λ cs. take place chain ++ cs) (trail_onward d.down.counted known x));
          rest = rest_more;
        }
      where
        known : Known remaining next
        known = pos_of_ne-zero (λ none. apart (one_left d.down.counted (omega (arith, x.nearer.fewer))))

    pub descending_ends :
        cell ≡ other → set chain place cell ≡ at_front (trail_of ls one other) chain₀
    descending_ends e =
        sym (take-append-drop (place + 1) (set chain place cell))
        ∙ ap₂ ◌++◌ (sym all) (rw (← count, ← d.down.counted.counts one) rest_more)
      where
        -- the second cell's trail is that cell
        last : trail_of ls cell other ≡ cell ∷ []
        last = rw e (trail_of_same ls other)

        all : trail_of ls one other ≡ take (place + 1) (set chain place cell)
        all = d.written ∙ ap (λ cs. take place chain ++ cs) last ∙ sym written_more

        count : get_or remaining one 0 ≡ place + 1
        count = omega (arith, d.sum, d.down.counted.counts cell, ap length last)
