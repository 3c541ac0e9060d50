-- Which cells a list of links chains together.
--
-- Two lemmas carry most of it: where every link of one list is a chain of another, chains carry over (`chained_carry`);
-- and a function that agrees at the two ends of every link agrees along every chain (`chained_agree`). A further link
-- adds the chains that pass it, in one direction or the other, and no others (`one_link_more`). By that, and by the
-- second lemma, the group numbers of two cells are equal exactly when the cells are chained, and so `chains` decides.
use Prim.Native.Nat.{ℕ}
use mathlib.Core.Path.{◌≡◌, refl, sym, ◌∙◌, ap, subst}
use mathlib.Core.Bool.{Bool, true, false, cond, true≢false}
use mathlib.Core.List.{List, [], ◌∷◌, ◌++◌}
use mathlib.Core.Logic.{◌⊎◌, inl, inr, ⊎_elim, ⊎_map}
use native.Mathlib.Decide.{map_dec, ℕ_discrete}
use lib.Dec.{eqb}
use borrow.Author.Tests.{eqb-true, eq-eqb, ne_eqb}
use Rattle.graph.specs.Link.{Link, Between, along, against, Linked, here, there, Chained, same, more}
use Rattle.graph.specs.Link.{group, chains}

-- Links

between_sym : {a b : ℕ} {l : Link} → Between a b l → Between b a l
between_sym (along p q) = against p q
between_sym (against p q) = along p q

pub linked_sym : {a b : ℕ} {ls : List Link} → Linked a b ls → Linked b a ls
linked_sym (here x) = here (between_sym x)
linked_sym (there h) = there (linked_sym h)

pub linked_left : {a b : ℕ} {ls : List Link} (ms : List Link) → Linked a b ls → Linked a b (ls ++ ms)
linked_left ms (here x) = here x
linked_left ms (there h) = there (linked_left ms h)

pub linked_right : (ls : List Link) {ms : List Link} {a b : ℕ} → Linked a b ms → Linked a b (ls ++ ms)
linked_right [] h = h
linked_right (l ∷ ls) h = there (linked_right ls h)

pub linked_append_cases :
    (ls : List Link) {ms : List Link} {a b : ℕ} → Linked a b (ls ++ ms) → Linked a b ls ⊎ Linked a b ms
linked_append_cases [] h = inr h
linked_append_cases (l ∷ ls) (here x) = inl (here x)
linked_append_cases (l ∷ ls) (there h) = ⊎_elim (λ k. inl (there k)) inr (linked_append_cases ls h)

-- Chains

pub chained_one : {ls : List Link} {a b : ℕ} → Linked a b ls → Chained ls a b
chained_one h = more (same refl) h

pub chained_trans : {ls : List Link} {a b c : ℕ} → Chained ls a b → Chained ls b c → Chained ls a c
chained_trans {ls} {a} x (same e) = subst (Chained ls a) e x
chained_trans x (more y h) = more (chained_trans x y) h

pub chained_sym : {ls : List Link} {a b : ℕ} → Chained ls a b → Chained ls b a
chained_sym (same e) = same (sym e)
chained_sym (more x h) = chained_trans (chained_one (linked_sym h)) (chained_sym x)

-- where every link of ls is a chain of ms, so is every chain of ls
pub chained_carry :
    {ls ms : List Link} {a b : ℕ} →
    ((x y : ℕ) → Linked x y ls → Chained ms x y) → Chained ls a b → Chained ms a b
chained_carry f (same e) = same e
chained_carry f (more x h) = chained_trans (chained_carry f x) (f _ _ h)

-- what agrees at the two ends of every link agrees along every chain
pub chained_agree :
    {ls : List Link} {X : Type 0} {a b : ℕ} (f : ℕ → X) →
    ((x y : ℕ) → Linked x y ls → f x ≡ f y) → Chained ls a b → f a ≡ f b
chained_agree f agree (same e) = ap f e
chained_agree f agree (more x h) = chained_agree f agree x ∙ agree _ _ h

-- every two cells that ls links, ms links too
abbrev pub Relinks : List Link → List Link → Type 0
Relinks ls ms = (x y : ℕ) → Linked x y ls → Linked x y ms

-- chains depend on which pairs are linked, and on nothing else of the list
pub chained_relink : {ls ms : List Link} {a b : ℕ} → Relinks ls ms → Chained ls a b → Chained ms a b
chained_relink f = chained_carry (λ x y h. chained_one (f x y h))

pub chained_there : {ls : List Link} {a b : ℕ} (l : Link) → Chained ls a b → Chained (l ∷ ls) a b
chained_there l = chained_relink (λ x y. there)

pub chained_left : {ls : List Link} {a b : ℕ} (ms : List Link) → Chained ls a b → Chained (ls ++ ms) a b
chained_left ms = chained_relink (λ x y. linked_left ms)

pub chained_right : (ls : List Link) {ms : List Link} {a b : ℕ} → Chained ms a b → Chained (ls ++ ms) a b
chained_right ls = chained_relink (λ x y. linked_right ls)

-- a link of a cell with itself joins nothing
pub self_link : {l : Link} {ls : List Link} {a b : ℕ} → l.one ≡ l.other → Chained (l ∷ ls) a b → Chained ls a b
self_link {l} {ls} e = chained_carry joins
  where
    joins : (x y : ℕ) → Linked x y (l ∷ ls) → Chained ls x y
    joins x y (here (along p q)) = same (sym p ∙ e ∙ q)
    joins x y (here (against p q)) = same (sym q ∙ sym e ∙ p)
    joins x y (there h) = chained_one h

-- a cell that no link names is chained with itself alone
pub chained_alone : {ls : List Link} {a b : ℕ} → ((c : ℕ) → Linked a c ls → ⊥) → Chained ls a b → a ≡ b
chained_alone lone (same e) = e
chained_alone lone (more {c = c} x h) = absurd (lone c (rw (chained_alone lone x) h))

-- One link more

-- a and b are chained by ls, or by way of l in one of its two directions
abbrev pub OneMore : Link → List Link → ℕ → ℕ → Type 0
OneMore l ls a b =
    Chained ls a b ⊎
    ((Chained ls a l.one × Chained ls l.other b) ⊎
    (Chained ls a l.other × Chained ls l.one b))

further : {l : Link} {ls : List Link} {a b c : ℕ} → OneMore l ls a b → Linked b c ls → OneMore l ls a c
further (inl x) h = inl (more x h)
further (inr (inl (x, y))) h = inr (inl (x, more y h))
further (inr (inr (x, y))) h = inr (inr (x, more y h))

-- crossing l once more leads where one crossing, or none, would have led
across : {l : Link} {ls : List Link} {a b c : ℕ} → OneMore l ls a b → Between b c l → OneMore l ls a c
across (inl x) (along p q) = inr (inl (chained_trans x (same (sym p)), same q))
across (inl x) (against p q) = inr (inr (chained_trans x (same (sym q)), same p))
across (inr (inl (x, y))) (along p q) = inr (inl (x, same q))
across (inr (inl (x, y))) (against p q) = inl (chained_trans x (same p))
across (inr (inr (x, y))) (along p q) = inl (chained_trans x (same q))
across (inr (inr (x, y))) (against p q) = inr (inr (x, same p))

pub one_link_more : {l : Link} {ls : List Link} {a b : ℕ} → Chained (l ∷ ls) a b → OneMore l ls a b
one_link_more (same e) = inl (same e)
one_link_more (more x (here y)) = across (one_link_more x) y
one_link_more (more x (there h)) = further (one_link_more x) h

pub chained_one_more : {l : Link} {ls : List Link} {a b : ℕ} → OneMore l ls a b → Chained (l ∷ ls) a b
chained_one_more {l} (inl x) = chained_there l x
chained_one_more {l} (inr (inl (x, y))) =
    chained_trans (more (chained_there l x) (here (along refl refl))) (chained_there l y)
chained_one_more {l} (inr (inr (x, y))) =
    chained_trans (more (chained_there l x) (here (against refl refl))) (chained_there l y)

-- The decision

-- the number of a group after a link: that of the link's one end becomes that of its other
abbrev pub taken : ℕ → ℕ → ℕ → ℕ
taken from to now = cond (eqb now from) to now

pub taken_ends : (from to : ℕ) → taken from to from ≡ taken from to to
taken_ends from to = rw (eq-eqb from from refl) (kept (eqb to from))
  where
    kept : (t : Bool) → to ≡ cond t to to
    kept true = refl
    kept false = refl

-- two numbers are equal, or the link leads from the one to the other in one of its two directions
abbrev pub Met : ℕ → ℕ → ℕ → ℕ → Type 0
Met from to m n = (m ≡ n) ⊎ (((m ≡ from) × (to ≡ n)) ⊎ ((m ≡ to) × (from ≡ n)))

pub taken_met : {from to m n : ℕ} → taken from to m ≡ taken from to n → Met from to m n
taken_met {from} {to} {m} {n} = go (eqb m from) (eqb n from) refl refl
  where
    go : (s t : Bool) → eqb m from ≡ s → eqb n from ≡ t → cond s to m ≡ cond t to n → Met from to m n
    go true true p q e = inl (eqb-true m from p ∙ sym (eqb-true n from q))
    go true false p q e = inr (inl (eqb-true m from p, e))
    go false true p q e = inr (inr (e, sym (eqb-true n from q)))
    go false false p q e = inl e

linked_group : (ls : List Link) (a b : ℕ) → Linked a b ls → group ls a ≡ group ls b
unfolding group
linked_group [] a b h = elim h [ ]
linked_group (l ∷ ls) a b (here (along p q)) = rw (← p, ← q) (taken_ends (group ls l.one) (group ls l.other))
linked_group (l ∷ ls) a b (here (against p q)) =
    rw (← p, ← q) (sym (taken_ends (group ls l.one) (group ls l.other)))
linked_group (l ∷ ls) a b (there h) = ap (taken (group ls l.one) (group ls l.other)) (linked_group ls a b h)

-- two cells have one group number exactly when they are chained
pub chained_group : {ls : List Link} {a b : ℕ} → Chained ls a b → group ls a ≡ group ls b
chained_group {ls} = chained_agree (group ls) (linked_group ls)

pub group_chained : (ls : List Link) {a b : ℕ} → group ls a ≡ group ls b → Chained ls a b
unfolding group
group_chained [] e = same e
group_chained (l ∷ ls) e =
    chained_one_more
    (⊎_map (group_chained ls)
    (⊎_map (λ w. (group_chained ls w.0, group_chained ls w.1)) (λ w. (group_chained ls w.0, group_chained ls w.1)))
    (taken_met e))

-- so `chains` decides
pub chains_true : (ls : List Link) (a b : ℕ) → chains ls a b ≡ true → Chained ls a b
unfolding chains
chains_true ls a b t = group_chained ls (eqb-true (group ls a) (group ls b) t)

pub true_chains : {ls : List Link} {a b : ℕ} → Chained ls a b → chains ls a b ≡ true
unfolding chains
true_chains {ls} {a} {b} x = eq-eqb (group ls a) (group ls b) (chained_group x)

pub chains_false : (ls : List Link) (a b : ℕ) → chains ls a b ≡ false → Chained ls a b → ⊥
chains_false ls a b f x = true≢false (sym (true_chains x) ∙ f)

pub false_chains : (ls : List Link) (a b : ℕ) → (Chained ls a b → ⊥) → chains ls a b ≡ false
unfolding chains
false_chains ls a b apart = ne_eqb (group ls a) (group ls b) (λ e. apart (group_chained ls e))

pub chained? : (ls : List Link) (a b : ℕ) → Dec (Chained ls a b)
chained? ls a b = map_dec (group_chained ls) chained_group (ℕ_discrete (group ls a) (group ls b))
