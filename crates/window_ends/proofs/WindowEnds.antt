-- When the links of the window are joined, their ends marked and each cell's root put for its parent, the parents are the smallest cells of the
-- groups and the marks are the ends.
--
-- A link that is joined stands at the front of `group`'s list, so the parents stand for the links from the last to the first; chains do not depend
-- on the order (window_forest, `chained_reverse`). A cell's root is chained with it. Any cell that is chained with it has that root, and no root
-- is above its cell: so no cell of the group is below the root.
use Prim.Native.Nat.{ℕ, zero, suc, ◌+◌, ◌≤◌, ◌<◌, zero-le}
use mathlib.Core.Path.{◌≡◌, refl, sym, ap, ◌∙◌}
use mathlib.Core.Bool.{Bool, true, false, cond, ◌||◌}
use mathlib.Core.List.{List, [], ◌∷◌, map, foldl, reverse, reverse_aux}
use native.Mathlib.Omega.{arith}
use native.Mathlib.Decide.{ℕ_discrete}
use native.Mathlib.Nat.{le_refl}
use borrow.Author.Tests.{eq-eqb, ne_eqb}
use lib.Dec.{eqb}
use lib.ListN.{length, get_or, set, replicate, length-set, length-replicate, get_or-replicate}
use lib.Seq.{get_or-set_same, get_or-set_other}
use Rattle.graph.specs.Link.{Link, Chained, group}
use Rattle.graph.specs.Forest.{Labelled, EndsBelow, empty, also}
use Rattle.graph.proofs.Chains.{chained_group, group_chained, true_chains, false_chains}
use Rattle.graph.proofs.Cut.{each_map, all_at_least}
use Rattle.forest.specs.Arrays.{places, parent_in, count_from, fresh_parents_of}
use Rattle.forest.proofs.Fill.{get_d_within, fill_each}
use Rattle.forest_scratch.specs.Scratch.{Root, Stands}
use Rattle.forest_scratch.proofs.Standing.{stands_fresh}
use Rattle.forest_scratch.proofs.Joined.{stands_joined}
use Rattle.slides.specs.declared.Clock.{Clock}
use Rattle.book_state.specs.Arrays.{cells}
use Rattle.book_state.proofs.Built.{each_reverse}
use Rattle.window.specs.Window.{window_links, links_from_label}
use Rattle.window.proofs.WindowLinks.{window_ends_lem, window_labels}
use Rattle.window_forest.proofs.WindowForest.{chained_reverse}
use Rattle.window_groups.specs.Groups.{filter, smallest, group_of, of_cells, groups_of}
use Rattle.window_ends.specs.Ends.{is_end, links_in, ends_of_lem}
use Rattle.window_ends.specs.Joins.{with_link, with_ends, Joins, ToRoots}

-- links without their labels
abbrev links_of : List Labelled → List Link
links_of = map (λ x. x.link)

-- ---- the marks

-- one mark more
marked_at : (marks : List ℕ) (i c : ℕ) → i < length marks → get_or (set marks i 1) c 0 ≡ cond (eqb i c) 1 (get_or marks c 0)
marked_at marks i c h = elim (ℕ_discrete i c) [
  | yes e ↦ rw (eq-eqb i c e, ← e) (get_or-set_same marks i 1 0 h)
  | no n ↦ rw (ne_eqb i c n) (get_or-set_other marks i c 1 0 (λ e. n (sym e)))
]

either : (s t : Bool) (x : ℕ) → cond t 1 (cond s 1 x) ≡ cond (s || t) 1 x
either true true x = refl
either true false x = refl
either false t x = refl

-- the marks are as many as they were; an end of a link has 1, and any other cell what it had
ends_marked : {n : ℕ} {xs : List Labelled} → EndsBelow n xs → (marks : List ℕ) → length marks ≡ n
    → (length (foldl with_ends marks (links_of xs)) ≡ n)
    × ((c : ℕ) → get_or (foldl with_ends marks (links_of xs)) c 0 ≡ cond (is_end (links_of xs) c) 1 (get_or marks c 0))
unfolding is_end
ends_marked empty marks long = (long, λ c. refl)
ends_marked {n} (also {x} {xs} inside on) marks long =
    let one = x.link.one in
    let other = x.link.other in
    let first : length (set marks one 1) ≡ n = length-set marks one 1 ∙ long in
    let rest = ends_marked on (with_ends marks x.link) (length-set (set marks one 1) other 1 ∙ first) in (
      rest.0,
      λ c.
          rest.1 c
          ∙ ap (cond (is_end (links_of xs) c) 1)
          (marked_at (set marks one 1) other c (rw first inside.1) ∙ ap (cond (eqb other c) 1) (marked_at marks one c (rw long inside.0))
          ∙ either (eqb one c) (eqb other c) (get_or marks c 0))
          ∙ either (eqb one c || eqb other c) (is_end (links_of xs) c) (get_or marks c 0),
    )

-- ---- the parents

-- links joined after those that the parents stand for already, whose list has the last of them at the front
stands_all : {xs : List Labelled} → EndsBelow cells xs → (done : List Labelled) (ps : List ℕ) → Stands (group (links_of done)) ps
    → Stands (group (links_of (reverse_aux xs done))) (foldl with_link ps (links_of xs))
unfolding group
stands_all empty done ps s = s
stands_all (also {x} inside on) done ps s = stands_all on (x ∷ done) (with_link ps x.link) (stands_joined s.falls inside s)

-- the smallest of the numbers that pass a test: it passes, and no number below it does
first_passes : (t : ℕ → Bool) (i n : ℕ) {r : ℕ} → i ≤ r → r < i + n → t r ≡ true → ((d : ℕ) → d < r → t d ≡ false)
    → smallest (filter t (count_from i n)) ≡ r
unfolding smallest filter count_from
first_passes t i zero h k p q = absurd (omega arith)
first_passes t i (suc n) {r} h k p q = elim (ℕ_discrete i r) [
  | yes e ↦ rw (ap t e ∙ p) e
  | no e ↦ rw (q i (omega arith)) (first_passes t (suc i) n (omega arith) (omega arith) p q)
]

-- parents that stand for all of the links, each of them a root: they are the smallest cells of the groups
module _ (xs : List Labelled) {ps : List ℕ} (s : Stands (group (links_from_label 1 (reverse xs))) ps)
    (roots : (c : ℕ) → c < places → Root ps (parent_in ps c)) where
  abbrev key : ℕ → ℕ
  key = group (links_from_label 1 (reverse xs))

  parent_smallest : (c : ℕ) → c < cells → parent_in ps c ≡ smallest (group_of xs c)
  parent_smallest c h =
      sym (first_passes _ 0 cells zero-le (omega (arith, s.falls.low c)) (true_chains own) (λ d k. false_chains _ c d (lower d k)))
    where
      own : Chained (links_from_label 1 xs) c (parent_in ps c)
      own = (chained_reverse 1 xs).0 (group_chained _ (sym (s.kept c)))

      lower : (d : ℕ) → d < parent_in ps c → Chained (links_from_label 1 xs) c d → ⊥
      lower d k x =
          let root = roots d (omega (arith, s.falls.low c)) in
          let chained : key d ≡ key c = sym (chained_group ((chained_reverse 1 xs).1 x)) in
          let one_root : parent_in ps d ≡ parent_in ps c = s.apart _ _ root (roots c h) (s.kept d ∙ chained ∙ sym (s.kept c)) in
          omega (arith, s.falls.low d)

  parents_smallest : ps ≡ of_cells (λ c. smallest (group_of xs c))
  parents_smallest =
      fill_each _ cells
      (record { within = le_refl cells; long = s.falls.long; filled = λ c h. get_d_within ps c 0 c (rw s.falls.long h) ∙ parent_smallest c h })
      (le_refl cells)

-- ---- of the window

module _ (clock : Clock) (counts log : List ℕ) where
  abbrev links : List Labelled
  links = window_links clock counts log

  pub ends_are : {ps marks ps' : List ℕ} → Joins (links_in clock counts log) (fresh_parents_of places) (replicate places 0) ps marks → ToRoots ps ps'
      → record { first = ps'; linked = marks } ≡ ends_of_lem clock counts log
  unfolding ends_of_lem groups_of group
  ends_are {ps} {marks} {ps'} j t = λ i. record { first = firsts i; linked = linked i }
    where
      -- all labels are 1 or more
      all : links_of (reverse links) ≡ links_from_label 1 (reverse links)
      all = sym (ap links_of (all_at_least 1 (each_reverse (each_map (λ x p. p.0) (window_labels clock counts log)))))

      stands : Stands (group (links_of (reverse links))) ps
      stands = rw j.joined (stands_all (window_ends_lem clock counts log) [] (fresh_parents_of places) stands_fresh)

      firsts : ps' ≡ (groups_of clock counts log).first
      firsts = parents_smallest links (t.stands _ (rw all at stands)) t.roots

      ends : (length marks ≡ cells) × ((c : ℕ) → get_or marks c 0 ≡ cond (is_end (links_in clock counts log) c) 1 (get_or (replicate places 0) c 0))
      ends = rw j.marked (ends_marked (window_ends_lem clock counts log) (replicate places 0) (length-replicate {A = ℕ} places 0))

      linked : marks ≡ of_cells (λ c. cond (is_end (links_in clock counts log) c) 1 0)
      linked =
          fill_each _ cells
          (record {
            within = le_refl cells;
            long = ends.0;
            filled = λ c h. ends.1 c ∙ ap (cond (is_end (links_in clock counts log) c) 1) (get_or-replicate places c 0 0 h);
          })
          (le_refl cells)
