-- Two trees joined: the ways from both cells to their roots are shortened, and then the larger root goes under the smaller. The parents
-- stand for the key in which the keys of the two cells are one, and each cell's root moves with its tree.
use Prim.Native.Nat.{ℕ, ◌<◌, min, max}
use mathlib.Core.Path.{◌≡◌, refl, ap}
use mathlib.Core.Bool.{Bool, true, false, cond}
use mathlib.Core.List.{List}
use native.Mathlib.Omega.{arith}
use native.Mathlib.Decide.{ℕ_discrete}
use borrow.Author.Tests.{eq-eqb, ne_eqb, eqb-true}
use lib.Dec.{eqb}
use lib.ListN.{set}
use Rattle.graph.specs.Forest.{put}
use Rattle.graph.proofs.Chains.{taken}
use Rattle.forest.specs.Arrays.{places}
use Rattle.forest_scratch.specs.Scratch.{Descends, find_of, both_of, roots_of, join_of, Root, Stands, RootOf}
use Rattle.forest_scratch.proofs.Shorter.{Found, descends_stored, found}
use Rattle.forest_scratch.proofs.Standing.{stands_shorter, root_shorter, found_root, one_root, one_key, stands_same, sides, stands_merged, root_merged}

-- the second root is found in what the first find left
pub descends_found : {ps : List ℕ} {cell : ℕ} → Descends ps → cell < places → Descends (find_of ps cell).parents
descends_found down inside = (found down inside).shorter.falls

-- the two cells, which are places of the array
module _ {ps : List ℕ} (down : Descends ps) {one other : ℕ} (inside : (one < places) × (other < places)) where
  abbrev pub both : List ℕ
  both = (both_of ps one other).parents

  abbrev pub left : ℕ
  left = (roots_of ps one other).one

  abbrev pub right : ℕ
  right = (roots_of ps one other).other

  first : Found ps one left (find_of ps one).parents
  first = found down inside.0

  second : Found (find_of ps one).parents other right both
  second = found (descends_found down inside.0) inside.1

  pub left_inside : left < places
  left_inside = omega (arith, first.below, inside.0)

  pub right_inside : right < places
  right_inside = omega (arith, second.below, inside.1)

  pub both_descends : Descends both
  both_descends = second.shorter.falls

  -- the roots of the two finds are those that there were
  pub was_root : (c : ℕ) → Root both c → Root ps c
  was_root c r = (first.shorter.roots c).1 ((second.shorter.roots c).1 r)

  pub joined_same : left ≡ right → join_of ps one other ≡ both
  joined_same e = rw (eq-eqb left right e)

  pub joined_apart : (left ≡ right → ⊥) → join_of ps one other ≡ set both (max left right) (min left right)
  joined_apart n = rw (ne_eqb left right n)

  pub joined_descends : Descends (join_of ps one other)
  joined_descends = go (ℕ_discrete left right)
    where
      go : Dec (left ≡ right) → Descends (join_of ps one other)
      go (yes e) = rw (joined_same e) both_descends
      go (no n) = rw (joined_apart n) (descends_stored both_descends (omega (arith, left_inside, right_inside)) (omega arith))

  -- the root afterwards of a cell whose root was r
  abbrev pub follow : ℕ → ℕ
  follow = put (max left right) (min left right) (λ c. c)

  -- where the two roots are one, nothing moves
  pub stays : left ≡ right → (r : ℕ) → follow r ≡ r
  stays e r = go (eqb r (max left right)) refl
    where
      go : (t : Bool) → eqb r (max left right) ≡ t → cond t (min left right) r ≡ r
      go true q = omega (arith, e, eqb-true r (max left right) q)
      go false q = refl

  -- as the code finds them, one after the other
  module _ {u v : ℕ} {rs qs : List ℕ} (p : (u ≡ (find_of ps one).root) × (rs ≡ (find_of ps one).parents))
      (q : (v ≡ (find_of rs other).root) × (qs ≡ (find_of rs other).parents)) where
    pub child_inside : max u v < places
    child_inside = rw (p.0, q.0, p.1) (omega (arith, left_inside, right_inside))

  module _ {key : ℕ → ℕ} (s : Stands key ps) where
    at_first : Stands key (find_of ps one).parents
    at_first = stands_shorter s first.shorter

    pub at_both : Stands key both
    at_both = stands_shorter at_first second.shorter

    kept : {c r : ℕ} → RootOf key ps c r → RootOf key both c r
    kept x = root_shorter at_first second.shorter (root_shorter s first.shorter x)

    pub left_root : RootOf key both one left
    left_root = root_shorter at_first second.shorter (found_root s first)

    pub right_root : RootOf key both other right
    right_root = found_root at_first second

    pub keys_one : left ≡ right → key one ≡ key other
    keys_one = one_key at_both left_root right_root

    pub roots_one : key one ≡ key other → left ≡ right
    roots_one = one_root at_both left_root right_root

    -- the key afterwards
    abbrev pub after : ℕ → ℕ
    after c = taken (key one) (key other) (key c)

    pub stands_joined : Stands after (join_of ps one other)
    stands_joined = go (ℕ_discrete left right)
      where
        go : Dec (left ≡ right) → Stands after (join_of ps one other)
        go (yes e) = rw (joined_same e) (stands_same at_both (keys_one e))
        go (no n) =
            rw (joined_apart n)
            (stands_merged at_both left_root right_root (sides left right) (omega arith) (omega (arith, left_inside, right_inside)))

    pub root_joined : {c r : ℕ} → RootOf key ps c r → RootOf after (join_of ps one other) c (follow r)
    root_joined {c} {r} x = go (ℕ_discrete left right)
      where
        go : Dec (left ≡ right) → RootOf after (join_of ps one other) c (follow r)
        go (yes e) =
            rw (joined_same e, stays e r)
            (record { root = (kept x).root; one_key = ap (taken (key one) (key other)) (kept x).one_key })
        go (no n) =
            rw (joined_apart n)
            (root_merged at_both left_root right_root (sides left right) (omega arith) (omega (arith, left_inside, right_inside)) (kept x))
