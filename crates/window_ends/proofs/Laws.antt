-- What a crate above may rely on, of the definition alone: where the marks stand, that the smallest cells of groups are cells, that two cells
-- have the same exactly when links of the window chain them, and what it is to be an end of a link.
use Prim.Native.Nat.{ℕ, ◌<◌}
use mathlib.Core.Path.{◌≡◌, refl}
use mathlib.Core.Bool.{Bool, true, false, cond, ◌||◌, or-true, false≢true}
use mathlib.Core.List.{List, [], ◌∷◌}
use mathlib.Core.Logic.{◌↔◌}
use lib.Dec.{eqb}
use lib.ListN.{get_or}
use borrow.Author.Tests.{eqb-true, eq-eqb}
use Rattle.graph.specs.Link.{Link, Linked, Chained, along, against, here, there}
use Rattle.forest.proofs.Fill.{get_d_each}
use Rattle.book_state.specs.Arrays.{cells}
use Rattle.slides.specs.declared.Clock.{Clock}
use Rattle.window.specs.Window.{window_links}
use Rattle.window.proofs.WindowLinks.{window_all}
use Rattle.window_groups.specs.Groups.{smallest, group_of, groups_of}
use Rattle.window_groups.proofs.SameGroup as groups
use Rattle.window_ends.specs.Ends.{is_end, links_in, ends_of_lem}

-- ---- of a window

module _ (clock : Clock) (counts log : List ℕ) where
  pub linked_at : (c : ℕ) → c < cells → get_or (ends_of_lem clock counts log).linked c 0 ≡ cond (is_end (links_in clock counts log) c) 1 0
  unfolding ends_of_lem
  linked_at c h = get_d_each (λ e. cond (is_end (links_in clock counts log) e) 1 0) cells c 0 h

  pub first_below : (c : ℕ) → c < cells → get_or (ends_of_lem clock counts log).first c 0 < cells
  unfolding ends_of_lem groups_of
  first_below c h =
      rw (get_d_each (λ e. smallest (group_of (window_links clock counts log) e)) cells c 0 h) (groups.smallest_below (window_links clock counts log) c h)

  pub same_first : (c d : ℕ) → c < cells → d < cells →
      (get_or (ends_of_lem clock counts log).first c 0 ≡ get_or (ends_of_lem clock counts log).first d 0) ↔ Chained (links_in clock counts log) c d
  unfolding ends_of_lem
  same_first c d h k = rw (window_all clock counts log) at (groups.same_first clock counts log c d h k)

-- ---- the ends of links

-- it is linked with some cell
pub end_linked : (ls : List Link) (c : ℕ) → is_end ls c ≡ true → (d : ℕ) × Linked c d ls
unfolding is_end
end_linked [] c e = absurd (false≢true e)
end_linked (l ∷ ls) c e = go (eqb l.one c) (eqb l.other c) refl refl e (end_linked ls c)
  where
    go : (a b : Bool) → eqb l.one c ≡ a → eqb l.other c ≡ b → ((a || b) || is_end ls c) ≡ true →
        (is_end ls c ≡ true → (d : ℕ) × Linked c d ls) → (d : ℕ) × Linked c d (l ∷ ls)
    go true b p q e later = (l.other, here (along (eqb-true _ _ p) refl))
    go false true p q e later = (l.one, here (against refl (eqb-true _ _ q)))
    go false false p q e later = let w = later e in (w.0, there w.1)

-- and whatever is linked is an end
pub linked_end : (ls : List Link) (c d : ℕ) → Linked c d ls → is_end ls c ≡ true
unfolding is_end
linked_end [] c d x = elim x [ ]
linked_end (l ∷ ls) c d (here (along p q)) = rw (eq-eqb _ _ p)
linked_end (l ∷ ls) c d (here (against p q)) = rw (eq-eqb _ _ q, or-true (eqb l.one c))
linked_end (l ∷ ls) c d (there x) = rw (linked_end ls c d x) (or-true (eqb l.one c || eqb l.other c))
