-- Lists of accepted links, and the links of some slides among them. A history has its newest links first (`Falling`): so no link has
-- a slide after the open one, and links of later slides stand before those of earlier ones.
use Prim.Native.Nat.{ℕ, ◌≤◌, ◌<◌}
use mathlib.Core.Path.{◌≡◌, refl, sym, ◌∙◌, ap}
use mathlib.Core.Bool.{Bool, true, false}
use mathlib.Core.List.{List, [], ◌∷◌, ◌++◌, map, reverse_aux}
use native.Mathlib.Omega.{arith}
use native.Mathlib.Nat.{le_trans}
use native.Mathlib.Decide.{dec_le}
use Rattle.demands.specs.History.{Stored, of_slides}
use Rattle.demands.specs.Agrees.{Falling, none, next}

-- ---- tests

pub same_test : (t u : Bool) → (t ≡ true → u ≡ true) → (u ≡ true → t ≡ true) → t ≡ u
same_test true u f g = sym (f refl)
same_test false true f g = g refl
same_test false false f g = refl

pub fails : (t : Bool) → (t ≡ true → ⊥) → t ≡ false
fails true n = absurd (n refl)
fails false n = refl

-- ---- reversed lists

pub map_onto {ℓ κ} : {A : Type ℓ} {B : Type κ} (f : A → B) (xs ys : List A) → map f (reverse_aux xs ys) ≡ reverse_aux (map f xs) (map f ys)
map_onto f [] ys = refl
map_onto f (x ∷ xs) ys = map_onto f xs (x ∷ ys)

-- ---- the links of some slides

pub taken_one : (wanted : ℕ → Bool) (s : Stored) (ss : List Stored) → wanted s.slide ≡ true
    → of_slides wanted (s ∷ ss) ≡ s ∷ of_slides wanted ss
unfolding of_slides
taken_one wanted s ss e = rw e

pub left_one : (wanted : ℕ → Bool) (s : Stored) (ss : List Stored) → wanted s.slide ≡ false
    → of_slides wanted (s ∷ ss) ≡ of_slides wanted ss
unfolding of_slides
left_one wanted s ss e = rw e

-- the list still falls when a later slide is the open one
pub falling_later : {k l : ℕ} {ss : List Stored} → Falling k ss → k ≤ l → Falling l ss
falling_later none h = none
falling_later (next p one other on) h = next (le_trans p h) one other on

-- no link has a slide after the open one
pub none_later : {k : ℕ} {ss : List Stored} → Falling k ss → (wanted : ℕ → Bool) → ((t : ℕ) → t ≤ k → wanted t ≡ false)
    → of_slides wanted ss ≡ []
unfolding of_slides
none_later none wanted e = refl
none_later (next {s} {ss} p one other on) wanted e =
    left_one wanted s ss (e s.slide p) ∙ none_later on wanted (λ t h. e t (le_trans h p))

-- it is enough that two tests agree up to the open slide
pub same_slides : {k : ℕ} {ss : List Stored} → Falling k ss → (f g : ℕ → Bool) → ((t : ℕ) → t ≤ k → f t ≡ g t)
    → of_slides f ss ≡ of_slides g ss
unfolding of_slides
same_slides none f g e = refl
same_slides (next {s} {ss} p one other on) f g e =
    let rest : of_slides f ss ≡ of_slides g ss = same_slides on f g (λ t h. e t (le_trans h p)) in
    rw (e s.slide p, rest)

-- links of slides later than c stand before the others
pub split_at : {k : ℕ} {ss : List Stored} → Falling k ss → (both late early : ℕ → Bool) (c : ℕ)
    → ((t : ℕ) → c < t → (early t ≡ false) × (both t ≡ late t))
    → ((t : ℕ) → t ≤ c → (late t ≡ false) × (both t ≡ early t))
    → of_slides both ss ≡ of_slides late ss ++ of_slides early ss
unfolding of_slides
split_at none both late early c above below = refl
split_at (next {s} {ss} p one other on) both late early c above below =
    go (dec_le s.slide c) (split_at on both late early c above below)
  where
    whole : s.slide ≤ c → Falling c (s ∷ ss)
    whole h = next h one other on

    front : (t : Bool) → late s.slide ≡ t → early s.slide ≡ false → both s.slide ≡ t
        → of_slides both ss ≡ of_slides late ss ++ of_slides early ss
        → of_slides both (s ∷ ss) ≡ of_slides late (s ∷ ss) ++ of_slides early (s ∷ ss)
    front true l e b on = rw (l, e, b, on)
    front false l e b on = rw (l, e, b, on)

    go : Dec (s.slide ≤ c) → of_slides both ss ≡ of_slides late ss ++ of_slides early ss
        → of_slides both (s ∷ ss) ≡ of_slides late (s ∷ ss) ++ of_slides early (s ∷ ss)
    go (yes h) on =
        same_slides (whole h) both early (λ t l. (below t l).1)
        ∙ ap (λ ls. ls ++ of_slides early (s ∷ ss)) (sym (none_later (whole h) late (λ t l. (below t l).0)))
    go (no h) on = let w = above s.slide (omega arith) in front _ refl w.0 w.1 on
