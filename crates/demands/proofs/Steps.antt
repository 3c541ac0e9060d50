-- The parent steps of a forest chain the cells that the forest's links chain (by the crate book_joined's law on parent steps). Where
-- the steps of two forests are taken together, either part may be replaced by links that chain the same cells.
use Prim.Native.Nat.{ℕ, ◌^◌, ◌≤◌}
use mathlib.Core.Path.{◌≡◌}
use mathlib.Core.List.{List, ◌++◌, map}
use mathlib.Core.Logic.{◌↔◌, ⊎_elim}
use Rattle.graph.specs.Link.{Link, Chained}
use Rattle.graph.specs.Forest.{walk, Labelled, forest_of, EndsBelow}
use Rattle.graph.proofs.Chains.{chained_one, chained_carry, chained_left, chained_right, linked_append_cases}
use Rattle.graph.proofs.Walks.{climb_way}
use Rattle.graph.proofs.Forests.{grown, same_root}
use Rattle.book_joined.proofs.Steps.{Steps, steps_chain}

-- so the steps chain what the links chain
pub forest_chain : {k limit : ℕ} (enough : k ≤ limit) {xs : List Labelled} → EndsBelow (2 ^ k) xs → {ls : List Link} → Steps (forest_of limit xs).parent 0 ls →
    (a b : ℕ) → Chained ls a b ↔ Chained (map (λ x. x.link) xs) a b
unfolding walk
forest_chain {k} {limit} enough {xs} ends steps a b =
    let chain : Chained _ a b ↔ ((walk limit (forest_of limit xs) a).root ≡ (walk limit (forest_of limit xs) b).root) =
    steps_chain limit (λ c. climb_way (grown enough ends).doubles limit c enough) steps a b in
    let root = same_root enough ends a b in
    (λ h. root.0 (chain.0 h), λ h. chain.1 (root.1 h))

-- ---- two lists together

pub chained_both : {ls ls' ms ms' : List Link} {a b : ℕ} → ((x y : ℕ) → Chained ls x y → Chained ls' x y) →
    ((x y : ℕ) → Chained ms x y → Chained ms' x y) → Chained (ls ++ ms) a b → Chained (ls' ++ ms') a b
chained_both {ls} {ls'} {ms} {ms'} f g =
    chained_carry
    (λ x y h.
    ⊎_elim (λ l. chained_left ms' (f x y (chained_one l))) (λ m. chained_right ls' (g x y (chained_one m))) (linked_append_cases ls h))
