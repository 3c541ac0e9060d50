-- A best trail visits no cell twice (`best_once`), so over cells below n it has at most n of them (`best_few`).
--
-- A trail that came to a cell again could leave out what lies between, and would be shorter. And a list of numbers below n that holds none
-- twice has at most n of them: with a mark on each number that is met, each adds one mark, and there are at most n marks below n.
use Prim.Native.Nat.{ℕ, zero, suc, ◌≤◌, ◌<◌, zero-le, suc-le-suc}
use native.Mathlib.Nat.{le_of_suc-le-suc, le_refl, le_trans, le-suc}
use native.Mathlib.Omega.{arith}
use mathlib.Core.Path.{◌≡◌, refl, sym}
use mathlib.Core.List.{List, [], ◌∷◌}
use lib.ListN.{length, get_or}
use Rattle.graph.specs.Link.{Link, Linked}
use Rattle.graph.specs.Forest.{put}
use Rattle.graph.specs.Trail.{Trail, arrive, step, Best, NoneTwice}
use Rattle.graph.proofs.Chains.{linked_sym}
use Rattle.graph.proofs.Walks.{put_cases}
use Rattle.graph.proofs.Sizes.{total, total_put}

-- ---- no cell twice

-- from each of its cells on a trail leads, and is no longer
onward : {ls : List Link} {b a : ℕ} {cs : List ℕ} → Trail ls b a cs → (i : ℕ) → i < length cs →
    (ds : List ℕ) × Trail ls b (get_or cs i 0) ds × (length ds ≤ length cs)
onward {cs = cs} (arrive e) zero within = (cs, arrive e, le_refl _)
onward (arrive e) (suc i) within = absurd (omega arith)
onward {cs = cs} (step h t) zero within = (cs, step h t, le_refl _)
onward (step h t) (suc i) within =
    let (ds, u, le) = onward t i (le_of_suc-le-suc within) in
    (ds, u, le_trans le (le-suc _))

-- a trail that no trail is shorter than
none_twice : {ls : List Link} {b a : ℕ} {cs : List ℕ} → Trail ls b a cs → ((ds : List ℕ) → Trail ls b a ds → length cs ≤ length ds) →
    NoneTwice cs
none_twice (arrive e) fewest i j before within same = omega arith
none_twice (step h t) fewest i zero before within same = omega arith
none_twice (step h t) fewest zero (suc j) before within same =
    let (ds, u, le) = onward t j (omega arith) in
    omega (arith, fewest ds (rw same u))
none_twice {a = a} (step h t) fewest (suc i) (suc j) before within same =
    none_twice t (λ ds u. le_of_suc-le-suc (fewest (a ∷ ds) (step h u))) i j (le_of_suc-le-suc before) (le_of_suc-le-suc within) same

pub best_once : {ls : List Link} {a b : ℕ} {cs : List ℕ} → Best ls a b cs → NoneTwice cs
best_once p = none_twice p.trail p.fewest

-- ---- at most n cells

-- what follows the first number of such a list
rest : (c : ℕ) (cs : List ℕ) → NoneTwice (c ∷ cs) → NoneTwice cs
rest c cs once i j before within = once (suc i) (suc j) (suc-le-suc before) (suc-le-suc within)

-- a mark on each number of the list
marks : List ℕ → ℕ → ℕ
marks [] = λ c. 0
marks (c ∷ cs) = put c 1 (marks cs)

marks_few : (cs : List ℕ) (x : ℕ) → marks cs x ≤ 1
unfolding marks
marks_few [] x = zero-le
marks_few (c ∷ cs) x = put_cases (λ m. m ≤ 1) c 1 (marks cs) x (λ e. le_refl 1) (λ d. marks_few cs x)

total_few : (g : ℕ → ℕ) → ((c : ℕ) → g c ≤ 1) → (n : ℕ) → total g n ≤ n
unfolding total
total_few g few zero = zero-le
total_few g few (suc n) = omega (arith, total_few g few n, few n)

-- a number that is not in the list has no mark
unmarked : (cs : List ℕ) (x : ℕ) → ((i : ℕ) → i < length cs → get_or cs i 0 ≡ x → ⊥) → marks cs x ≡ 0
unfolding marks
unmarked [] x absent = refl
unmarked (c ∷ cs) x absent =
    put_cases (λ m. m ≡ 0) c 1 (marks cs) x (λ e. absurd (absent 0 (suc-le-suc zero-le) (sym e)))
    (λ d. unmarked cs x (λ i within. absent (suc i) (suc-le-suc within)))

module _ (n : ℕ) where
  -- each number adds a mark
  all_marked : (cs : List ℕ) → NoneTwice cs → ((i : ℕ) → i < length cs → get_or cs i 0 < n) → length cs ≤ total (marks cs) n
  unfolding marks
  all_marked [] once below = zero-le
  all_marked (c ∷ cs) once below =
      let on : length cs ≤ total (marks cs) n = all_marked cs (rest c cs once) (λ i within. below (suc i) (suc-le-suc within)) in
      let new : marks cs c ≡ 0 = unmarked cs c (λ i within e. once 0 (suc i) (omega arith) (omega arith) (sym e)) in
      omega (arith, total_put (marks cs) c 1 n (below 0 (suc-le-suc zero-le)))

  -- links between cells below n
  abbrev pub Inside : List Link → Type 0
  Inside ls = (x y : ℕ) → Linked x y ls → x < n

  -- each cell of a trail over such links is below n
  cells_below : {ls : List Link} {b a : ℕ} {cs : List ℕ} → Inside ls → a < n → Trail ls b a cs → (i : ℕ) → i < length cs → get_or cs i 0 < n
  cells_below inside below (arrive e) zero within = below
  cells_below inside below (arrive e) (suc i) within = absurd (omega arith)
  cells_below inside below (step h t) zero within = below
  cells_below {a = a} inside below (step {c = c} h t) (suc i) within =
      cells_below inside (inside c a (linked_sym h)) t i (le_of_suc-le-suc within)

  pub best_few : {ls : List Link} {a b : ℕ} {cs : List ℕ} → Inside ls → a < n → Best ls a b cs → length cs ≤ n
  best_few {cs = cs} inside below p =
      le_trans (all_marked cs (best_once p) (cells_below inside below p.trail)) (total_few (marks cs) (marks_few cs) n)
