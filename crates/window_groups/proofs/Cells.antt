-- Lists of cells: the numbers from i on, and those of a list that pass a test.
use Prim.Native.Nat.{ℕ, zero, suc, ◌+◌, ◌≤◌, ◌<◌}
use mathlib.Core.Path.{◌≡◌, refl, sym, ap, ◌∙◌}
use mathlib.Core.Bool.{Bool, true, false, cond}
use mathlib.Core.List.{List, [], ◌∷◌, Memᴰ}
use native.Mathlib.Omega.{arith}
use native.Mathlib.Decide.{ℕ_discrete}
use lib.ListN.{length}
use lib.Seq.{ext_get_or}
use Rattle.graph.specs.Link.{chains}
use Rattle.graph.specs.Forest.{Labelled}
use Rattle.forest.specs.Arrays.{count_from}
use Rattle.forest.proofs.Fill.{length_count_from, length_each, get_d_each}
use Rattle.book_state.specs.Arrays.{cells}
use Rattle.window.specs.Window.{links_from_label}
use Rattle.window_groups.specs.Groups.{filter, group_of, of_cells}

-- ---- the numbers from i on

pub in_count : (i n : ℕ) {c : ℕ} → i ≤ c → c < i + n → Memᴰ c (count_from i n)
unfolding count_from
in_count i zero h k = absurd (omega arith)
in_count i (suc n) {c} h k = elim (ℕ_discrete c i) [
  | yes e ↦ Memᴰ.head e
  | no d ↦ Memᴰ.tail (in_count (suc i) n (omega arith) (omega arith))
]

pub count_in : (i n : ℕ) {c : ℕ} → Memᴰ c (count_from i n) → (i ≤ c) × (c < i + n)
unfolding count_from
count_in i zero h = elim h [ ]
count_in i (suc n) (Memᴰ.head e) = (omega arith, omega arith)
count_in i (suc n) (Memᴰ.tail m) = let on = count_in (suc i) n m in (omega arith, omega arith)

-- ---- those that pass

pub filter_agree : (t u : ℕ → Bool) (i n : ℕ) → ((c : ℕ) → i ≤ c → c < i + n → t c ≡ u c)
    → filter t (count_from i n) ≡ filter u (count_from i n)
unfolding filter count_from
filter_agree t u i zero e = refl
filter_agree t u i (suc n) e = rw (filter_agree t u (suc i) n (λ c h k. e c (omega arith) (omega arith)), e i (omega arith) (omega arith))

pub filter_short : (t : ℕ → Bool) (cs : List ℕ) → length (filter t cs) ≤ length cs
unfolding filter
filter_short t [] = omega arith
filter_short t (c ∷ cs) = go (t c) (filter_short t cs)
  where
    go : (b : Bool) → length (filter t cs) ≤ length cs → length (cond b (c ∷ filter t cs) (filter t cs)) ≤ suc (length cs)
    go true on = omega arith
    go false on = omega arith

pub in_filter : (t : ℕ → Bool) {c : ℕ} {cs : List ℕ} → Memᴰ c cs → t c ≡ true → Memᴰ c (filter t cs)
unfolding filter
in_filter t {c} (Memᴰ.head {x} {xs} e) p = rw (sym (ap t e) ∙ p) (Memᴰ.head e)
in_filter t {c} (Memᴰ.tail {x} {xs} m) p = go (t x) (in_filter t m p)
  where
    go : (b : Bool) → Memᴰ c (filter t xs) → Memᴰ c (cond b (x ∷ filter t xs) (filter t xs))
    go true on = Memᴰ.tail on
    go false on = on

pub filter_in : (t : ℕ → Bool) (cs : List ℕ) {c : ℕ} → Memᴰ c (filter t cs) → (t c ≡ true) × Memᴰ c cs
unfolding filter
filter_in t [] h = elim h [ ]
filter_in t (x ∷ cs) {c} h = go (t x) refl h (filter_in t cs)
  where
    go : (b : Bool) → t x ≡ b → Memᴰ c (cond b (x ∷ filter t cs) (filter t cs))
        → (Memᴰ c (filter t cs) → (t c ≡ true) × Memᴰ c cs) → (t c ≡ true) × Memᴰ c (x ∷ cs)
    go true p (Memᴰ.head e) on = (ap t e ∙ p, Memᴰ.head e)
    go true p (Memᴰ.tail m) on = ((on m).0, Memᴰ.tail (on m).1)
    go false p m on = ((on m).0, Memᴰ.tail (on m).1)

-- a group has at most all cells
pub group_few : (xs : List Labelled) (c : ℕ) → length (group_of xs c) ≤ cells
group_few xs c = omega (arith, filter_short (chains (links_from_label 1 xs) c) (count_from 0 cells), length_count_from 0 cells)

-- ---- of each cell

pub of_cells_agree : (f g : ℕ → ℕ) → ((c : ℕ) → c < cells → f c ≡ g c) → of_cells f ≡ of_cells g
of_cells_agree f g e =
    ext_get_or 0 _ _ (length_each f cells ∙ sym (length_each g cells))
    (λ c h. let k = rw (length_each f cells) at h in get_d_each f cells c 0 k ∙ e c k ∙ sym (get_d_each g cells c 0 k))
