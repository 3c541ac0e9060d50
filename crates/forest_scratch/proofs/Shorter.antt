-- Halving a way shortens it, and no more: the same cells are roots, and each key that was kept is kept. So a find gives the root, and
-- shortens. As no parent is above its cell, the cell falls at each step, and the steps that `find_of` allows are enough.
use Prim.Native.Nat.{ℕ, zero, suc, ◌-◌, ◌≤◌, ◌<◌}
use mathlib.Core.Path.{◌≡◌, refl, sym, ap, ◌∙◌}
use mathlib.Core.List.{List}
use mathlib.Core.Logic.{◌↔◌}
use native.Mathlib.Omega.{arith}
use native.Mathlib.Decide.{ℕ_discrete}
use native.Mathlib.Nat.{le_refl, le_trans}
use borrow.Author.Tests.{eq-eqb, ne_eqb}
use lib.ListN.{length, get_or, set, length-set}
use lib.Seq.{get_or-set_same, get_or-set_other}
use Rattle.forest.specs.Arrays.{places, parent_in}
use Rattle.std.proofs.lemmas.List.{get_or_default}
use Rattle.forest_scratch.specs.Scratch.{Descends, find_within, find_of, Root, Kept}

-- other parents, in which the same cells are roots and each cell has the root that it had
pub record Shortened (ps ps' : List ℕ) : Type 0 where
  pub falls : Descends ps'
  pub roots : (c : ℕ) → Root ps c ↔ Root ps' c
  pub keeps : (key : ℕ → ℕ) → Kept key ps → Kept key ps'

-- r is the root of c, and only the way to it was shortened
pub record Found (ps : List ℕ) (c r : ℕ) (ps' : List ℕ) : Type 0 where
  pub shorter : Shortened ps ps'
  pub root : Root ps r
  pub below : r ≤ c
  pub one_key : (key : ℕ → ℕ) → Kept key ps → key r ≡ key c

-- the parent of a cell after a store: what was stored, or what it was
pub stored : (P : ℕ → Type 0) (ps : List ℕ) (i v x : ℕ) → i < length ps
    → (x ≡ i → P v) → ((x ≡ i → ⊥) → P (parent_in ps x)) → P (parent_in (set ps i v) x)
stored P ps i v x h here there = go (ℕ_discrete x i)
  where
    go : Dec (x ≡ i) → P (parent_in (set ps i v) x)
    go (yes e) = rw (e, get_or-set_same ps i v i h) (here e)
    go (no n) = rw (get_or-set_other ps i x v x n) (there n)

-- a parent that is not above its cell
pub descends_stored : {ps : List ℕ} {cell up : ℕ} → Descends ps → cell < places → up ≤ cell → Descends (set ps cell up)
descends_stored {ps} {cell} {up} down inside h =
    record {
      long = length-set ps cell up ∙ down.long;
      low = λ c. stored (λ m. m ≤ c) ps cell up c (rw down.long inside) (λ e. rw e h) (λ n. down.low c);
    }

pub shorter_same : {ps : List ℕ} → Descends ps → Shortened ps ps
shorter_same falls = record { falls = falls; roots = λ c. (λ r. r, λ r. r); keeps = λ key k. k }

pub shorter_trans : {ps qs rs : List ℕ} → Shortened ps qs → Shortened qs rs → Shortened ps rs
shorter_trans a b =
    record {
      falls = b.falls;
      roots = λ c. (λ r. (b.roots c).0 ((a.roots c).0 r), λ r. (a.roots c).1 ((b.roots c).1 r));
      keeps = λ key k. b.keeps key (a.keeps key k);
    }

-- the cell takes its parent's parent for its own
pub halved : (ps : List ℕ) (at : ℕ) → at < places → Descends ps → Shortened ps (set ps at (parent_in ps (parent_in ps at)))
halved ps at inside down =
    record {
      falls = descends_stored down inside (le_trans (falls (parent_in ps at)) (falls at));
      roots = λ c. (on c, back c);
      keeps = keep;
    }
  where
    up : ℕ
    up = parent_in ps (parent_in ps at)

    h : at < length ps
    h = rw down.long inside

    falls : (c : ℕ) → parent_in ps c ≤ c
    falls = down.low

    on : (c : ℕ) → Root ps c → Root (set ps at up) c
    on c r = stored (λ m. m ≡ c) ps at up c h (λ e. let q : parent_in ps at ≡ at = rw e at r in sym (e ∙ sym q ∙ sym (ap (parent_in ps) q))) (λ n. r)

    back : (c : ℕ) → Root (set ps at up) c → Root ps c
    back c r = go (ℕ_discrete c at) r
      where
        go : Dec (c ≡ at) → Root (set ps at up) c → Root ps c
        go (yes e) r =
            let v : up ≡ at = sym (get_or-set_same ps at up at h) ∙ (rw e at r) in
            rw e (omega (arith, falls (parent_in ps at), falls at))
        go (no n) r = rw (get_or-set_other ps at c up c n) at r

    keep : (key : ℕ → ℕ) → Kept key ps → Kept key (set ps at up)
    keep key k c = stored (λ m. key m ≡ key c) ps at up c h (λ e. rw e (k (parent_in ps at) ∙ k at)) (λ n. k c)

-- ---- a find

module _ (ps : List ℕ) (c : ℕ) (inside : c < places) (down : Descends ps) where
  abbrev above : ℕ
  above = parent_in ps c

  abbrev next : ℕ
  next = parent_in ps above

  above_low : above ≤ c
  above_low = down.low c

  next_low : next ≤ above
  next_low = down.low above

  -- the parent is a root
  found_here : next ≡ above → Found ps c above ps
  found_here e = record { shorter = shorter_same down; root = e; below = above_low; one_key = λ key k. k c }

  -- the cell falls while it is not, and what is found from there is found from here
  pub next_falls : (next ≡ above → ⊥) → next < c
  next_falls n = omega (arith, above_low, next_low)

  found_there : {r : ℕ} {qs : List ℕ} → Found (set ps c next) next r qs → Found ps c r qs
  found_there {r} f =
      let half = halved ps c inside down in
      record {
        shorter = shorter_trans half f.shorter;
        root = (half.roots r).1 f.root;
        below = omega (arith, f.below, above_low, next_low);
        one_key = λ key k. f.one_key key (half.keeps key k) ∙ k above ∙ k c;
      }

  -- where the code stands: at the root's child or the root, or a step before
  pub ends_here : (limit : ℕ) → c ≤ limit → next ≡ above → find_within limit ps c ≡ record { root = above; parents = ps }
  unfolding find_within
  ends_here zero h e = refl
  ends_here (suc limit) h e = rw (eq-eqb next above e)

  pub goes_on : (limit : ℕ) → c ≤ limit → (next ≡ above → ⊥) → find_within limit ps c ≡ find_within (limit - 1) (set ps c next) next
  unfolding find_within
  goes_on zero h n = absurd (omega (arith, next_falls n))
  goes_on (suc limit) h n = let e : suc limit - 1 ≡ limit = omega arith in rw (ne_eqb next above n, e)

found_within : (limit : ℕ) (ps : List ℕ) (c : ℕ) → c ≤ limit → c < places → (down : Descends ps)
    → Found ps c (find_within limit ps c).root (find_within limit ps c).parents
found_within zero ps c h inside down =
    let e : parent_in ps (parent_in ps c) ≡ parent_in ps c = omega (arith, down.low c, down.low (parent_in ps c)) in
    rw (ends_here ps c inside down zero h e) (found_here ps c inside down e)
found_within (suc limit) ps c h inside down = go (ℕ_discrete (parent_in ps (parent_in ps c)) (parent_in ps c)) (λ qs d. found_within limit qs d)
  where
    go : Dec (parent_in ps (parent_in ps c) ≡ parent_in ps c)
        → ((qs : List ℕ) (d : ℕ) → d ≤ limit → d < places → Descends qs → Found qs d (find_within limit qs d).root (find_within limit qs d).parents)
        → Found ps c (find_within (suc limit) ps c).root (find_within (suc limit) ps c).parents
    go (yes e) on = rw (ends_here ps c inside down (suc limit) h e) (found_here ps c inside down e)
    go (no n) on =
        let one : suc limit - 1 ≡ limit = omega arith in
        let falls = next_falls ps c inside down n in
        rw (goes_on ps c inside down (suc limit) h n, one)
        (found_there ps c inside down (on _ _ (omega (arith, falls)) (omega (arith, falls)) (halved ps c inside down).falls))

pub found : {ps : List ℕ} {c : ℕ} → Descends ps → c < places → Found ps c (find_of ps c).root (find_of ps c).parents
found {ps} {c} down inside = found_within c ps c (le_refl c) inside down

-- ---- the loop

-- the loop of a find stands at a cell; the root that is found from there is the root of the first
pub record Going (before : List ℕ) (cell : ℕ) (ps : List ℕ) (at : ℕ) : Type 0 where
  pub falls : Descends ps
  pub inside : at < places
  pub limit : ℕ
  pub enough : at ≤ limit
  pub left : find_within limit ps at ≡ find_of before cell

module _ {before : List ℕ} {cell : ℕ} where
  pub going_begin : Descends before → cell < places → Going before cell before cell
  going_begin down inside = record { falls = down; inside = inside; limit = cell; enough = le_refl cell; left = refl }

  module _ {ps : List ℕ} {at : ℕ} (r : Going before cell ps at) where
    -- as the code reads them
    abbrev pub above_read : ℕ
    above_read = get_or ps at 0

    abbrev pub next_read : ℕ
    next_read = get_or ps above_read 0

    above_is : above_read ≡ parent_in ps at
    above_is = get_or_default ps at 0 at (rw r.falls.long r.inside)

    pub above_inside : above_read < places
    above_inside = omega (arith, r.inside, above_is, r.falls.low at)

    pub next_is : next_read ≡ parent_in ps (parent_in ps at)
    next_is = get_or_default ps above_read 0 _ (rw r.falls.long above_inside) ∙ ap (parent_in ps) above_is

    module _ (n : next_read ≡ above_read → ⊥) where
      way_on : parent_in ps (parent_in ps at) ≡ parent_in ps at → ⊥
      way_on e = n (next_is ∙ e ∙ sym above_is)

      -- the cell falls
      pub falls : next_read < at
      falls = omega (arith, next_is, next_falls ps at r.inside r.falls way_on)

      -- it takes its parent's parent for its own, and the loop goes there
      pub going_more : Going before cell (set ps at next_read) next_read
      going_more =
          record {
            falls = rw next_is (halved ps at r.inside r.falls).falls;
            inside = omega (arith, falls, r.inside);
            limit = r.limit - 1;
            enough = omega (arith, falls, r.enough);
            left = rw next_is (sym (goes_on ps at r.inside r.falls r.limit r.enough way_on)) ∙ r.left;
          }

    pub going_end : next_read ≡ above_read → record { root = above_read; parents = ps } ≡ find_of before cell
    going_end e =
        ap (λ m. record { root = m; parents = ps }) above_is
        ∙ sym (ends_here ps at r.inside r.falls r.limit r.enough (sym next_is ∙ e ∙ above_is))
        ∙ r.left
