-- The forest of RULES 3 as functions over any number of cells: each cell its own root,
-- of size 1; links united by size; a label on each parent step; walks, with and without a cut.
--
-- Nothing here says how many cells there are. A walk takes at most `most` steps; that it has then reached a root, with
-- most 10 for 1,024 cells, is a theorem (proofs/).
use Rattle.std.specs.Prelude.{ℕ, zero, suc, ◌+◌, ◌≤◌, ◌<◌, Bool, cond, ◌&&◌, ◌||◌, List, [], ◌∷◌, eqb, ltb}
use Rattle.numbers.specs.Kinds.{Cell, Label}
use Rattle.graph.specs.Link.{Link}

-- each cell's parent (a root's is itself), a root's number of cells, and the label of each cell's step to its parent
pub record Forest : Type 0 where
  pub parent : ℕ → ℕ
  pub size : ℕ → ℕ
  pub label : ℕ → ℕ

-- each cell its own root, of size 1
abbrev pub fresh : Forest
fresh = record { parent = λ c. c; size = λ c. 1; label = λ c. 0 }

-- where a walk ends, and its parent steps
pub record Walk : Type 0 where
  pub root : ℕ
  pub steps : ℕ

-- one step before a walk
abbrev pub onward : Walk → Walk
onward w = record { root = w.root; steps = suc w.steps }

-- from c by `up`, until a cell that stays or for `most` steps
unfoldable pub climb : (up : Cell → Cell) (limit : ℕ) (cell : Cell) → Walk
climb up zero c = record { root = c; steps = 0 }
climb up (suc limit) c =
    let rest : Walk = onward (climb up limit (up c)) in
    cond (eqb (up c) c) (record { root = c; steps = 0 }) rest

-- a walk without a cut
unfoldable pub walk : (limit : ℕ) (forest : Forest) (cell : Cell) → Walk
unfolding climb
walk limit f c = climb f.parent limit c

-- the parent at a cut: a step whose label is below the cut is not taken
abbrev pub parent_at : (forest : Forest) (cut : Label) (cell : Cell) → Cell
parent_at f cut c = cond (ltb (f.label c) cut) c (f.parent c)

-- a walk at a cut
unfoldable pub walk_at_of : (limit : ℕ) (forest : Forest) (cut : Label) (cell : Cell) → Walk
unfolding climb
walk_at_of limit f cut c = climb (parent_at f cut) limit c

-- the function that gives v at c
abbrev pub put : (cell : Cell) (value : ℕ) (f : ℕ → ℕ) (x : ℕ) → ℕ
put c v f x = cond (eqb x c) v (f x)

-- of two roots, a becomes the child: its tree is smaller, or as large and its number larger
abbrev pub goes_under_of : (size : Cell → ℕ) (a b : Cell) → Bool
goes_under_of size a b = ltb (size a) (size b) || (eqb (size a) (size b) && ltb b a)

-- the root `child` made a child of the root `top`, by a step with the label
abbrev pub merged : (forest : Forest) (label : Label) (child top : Cell) → Forest
merged f label child top =
    record {
      parent = put child top f.parent;
      size = put top (f.size top + f.size child) f.size;
      label = put child label f.label;
    }

-- the trees of two roots made one, unless they are one already
abbrev pub join_roots : (forest : Forest) (label : Label) (a b : Cell) → Forest
join_roots f label a b = cond (eqb a b) f (cond (goes_under_of f.size a b) (merged f label a b) (merged f label b a))

-- a link, and the label of the step that it may make
pub record Labelled : Type 0 where
  pub label : ℕ
  pub link : Link

-- one link more
unfoldable pub unite : (limit : ℕ) (forest : Forest) (link : Labelled) → Forest
unfolding walk
unite limit f x = join_roots f x.label (walk limit f x.link.one).root (walk limit f x.link.other).root

-- the forest of a list of links, of which the LAST stands at the front
unfoldable pub forest_of : (limit : ℕ) (links : List Labelled) → Forest
unfolding unite
forest_of limit [] = fresh
forest_of limit (x ∷ xs) = unite limit (forest_of limit xs) x

-- the links whose label is not below the cut
unfoldable pub at_least : (cut : Label) (links : List Labelled) → List Labelled
at_least cut [] = []
at_least cut (x ∷ xs) =
    let rest : List Labelled = at_least cut xs in
    cond (ltb x.label cut) rest (x ∷ rest)

-- P holds of each link of the list
pub data Each (P : Labelled → Type 0) : List Labelled → Type 0 where
  empty : Each P []
  also : {x : Labelled} {xs : List Labelled} → P x → Each P xs → Each P (x ∷ xs)

-- both ends of each link are below n
abbrev pub EndsBelow : (n : ℕ) (links : List Labelled) → Type 0
EndsBelow n = Each (λ x. (x.link.one < n) × (x.link.other < n))

-- labels never rise from link to link: each is at most those of the links before it, which stand after it in the list
pub data NeverRise : List Labelled → Type 0 where
  start : NeverRise []
  lowest : {x : Labelled} {xs : List Labelled} →
      Each (λ y. x.label ≤ y.label) xs → NeverRise xs → NeverRise (x ∷ xs)
