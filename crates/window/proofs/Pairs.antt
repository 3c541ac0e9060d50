-- The pairs of a slide, as the code reads them: where they stand in the log, that their links are those of the slide, and what one pair more adds.
use Rattle.std.proofs.Common.{ℕ, zero, suc, ◌+◌, ◌-◌, ◌*◌, ◌/◌, ◌≤◌, ◌<◌, ◌≡◌, List, [], ◌∷◌, ◌++◌, refl, sym, ap, ◌∙◌, length, get_or, take, drop, get_or-take, get_or-drop, length-drop, length-take-le, add-zero, add-one, arith}
use Rattle.std.proofs.lemmas.List.{take-append-drop}
use Rattle.std.proofs.Math.Seq.{take-suc}
use Rattle.std.specs.Simd.{first_chunks}
use Rattle.slides.specs.Clock.{chunk_of, place_of}
use Rattle.slides.specs.declared.Clock.{Clock}
use Rattle.slides.proofs.Slides.{place_below}
use Rattle.book_state.specs.Log.{half_of, spot_of, keep, pair_at, links_at}
use Rattle.book_state.proofs.LogLinks.{keep_append}
use Rattle.window.specs.Pairs.{pairs_at, pair_link, links_of_pairs}

pub spot_below : (clock : Clock) (slide : ℕ) → 1 ≤ clock.n → clock.n ≤ 16 → spot_of (half_of (chunk_of clock slide)) (place_of clock slide) < 32
spot_below clock slide least most = omega (arith, place_below clock least slide, most)

-- the links of the pairs are those of the place
pub pairs_links : (log : List ℕ) (at count : ℕ) → links_of_pairs (pairs_at log at count) ≡ links_at log at count
unfolding pairs_at links_of_pairs links_at
pairs_links log at zero = refl
pairs_links log at (suc more) = ap (keep (pair_at log at)) (pairs_links log (at + 2) more)

pub pairs_length : (log : List ℕ) (at count : ℕ) → length (pairs_at log at count) ≡ count
unfolding pairs_at
pairs_length log at zero = refl
pairs_length log at (suc more) = ap (λ (k : ℕ). suc k) (pairs_length log (at + 2) more)

-- the first two entries of a list are a pair
front_pair : (xs : List ℕ) → 2 ≤ length xs → take 2 xs ≡ get_or xs 0 0 ∷ get_or xs 1 0 ∷ []
front_pair [] h = absurd (omega (arith, h))
front_pair (x ∷ []) h = absurd (omega (arith, h))
front_pair (x ∷ y ∷ xs) h = refl

-- two entries of the log after the other are a pair
chunks_pairs : (log : List ℕ) (at count : ℕ) (xs : List ℕ) → 2 * count ≤ length xs → ((i : ℕ) → i < 2 * count → get_or xs i 0 ≡ get_or log (at + i) 0)
    → first_chunks 2 count xs ≡ pairs_at log at count
unfolding pairs_at
chunks_pairs log at zero xs long same = refl
chunks_pairs log at (suc more) xs long same =
    ap (λ p. p ∷ first_chunks 2 more (drop 2 xs)) front
    ∙ ap (λ ps. (get_or log at 0 ∷ get_or log (at + 1) 0 ∷ []) ∷ ps) (chunks_pairs log (at + 2) more (drop 2 xs) (omega (arith, length-drop 2 xs)) later)
  where
    front : take 2 xs ≡ get_or log at 0 ∷ get_or log (at + 1) 0 ∷ []
    front =
        front_pair xs (omega arith)
        ∙ ap (λ a. a ∷ get_or xs 1 0 ∷ []) (same 0 (omega arith) ∙ ap (λ k. get_or log k 0) (add-zero at))
        ∙ ap (λ b. get_or log at 0 ∷ b ∷ []) (same 1 (omega arith))

    later : (i : ℕ) → i < 2 * more → get_or (drop 2 xs) i 0 ≡ get_or log (at + 2 + i) 0
    later i h = let e : at + (2 + i) ≡ at + 2 + i = omega arith in get_or-drop 2 xs i 0 ∙ same (2 + i) (omega arith) ∙ ap (λ k. get_or log k 0) e

-- what stands in a part of the log
pub pairs_stand : (log : List ℕ) (start count : ℕ) → start + 2 * count ≤ length log
    → first_chunks 2 (length (take (start + 2 * count - start) (drop start log)) / 2) (take (start + 2 * count - start) (drop start log))
    ≡ pairs_at log start count
pairs_stand log start count h =
    let all : start + 2 * count - start ≡ 2 * count = omega arith in
    let long : length (take (2 * count) (drop start log)) ≡ 2 * count = length-take-le (2 * count) (drop start log) (omega (arith, length-drop start log)) in
    let many : length (take (2 * count) (drop start log)) / 2 ≡ count = omega (arith, long) in
    rw (all, many)
    (chunks_pairs log start count (take (2 * count) (drop start log)) (omega (arith, long))
    (λ i k. get_or-take (2 * count) (drop start log) i 0 k ∙ get_or-drop start log i 0))

links_append : (ps qs : List (List ℕ)) → links_of_pairs (ps ++ qs) ≡ links_of_pairs ps ++ links_of_pairs qs
unfolding links_of_pairs
links_append [] qs = refl
links_append (p ∷ ps) qs = ap (keep (pair_link p)) (links_append ps qs) ∙ keep_append (pair_link p) (links_of_pairs ps) (links_of_pairs qs)

-- one pair more
pub pairs_more : (ps : List (List ℕ)) (i : ℕ) → i < length ps → links_of_pairs (take (i + 1) ps) ≡ links_of_pairs (take i ps) ++ keep (pair_link (get_or ps i [])) []
unfolding links_of_pairs
pairs_more ps i h = rw (add-one i, take-suc ps i [] h) (links_append (take i ps) _)

-- the pairs before i and those from i on
pub pairs_rest : (ps : List (List ℕ)) (i : ℕ) → links_of_pairs ps ≡ links_of_pairs (take i ps) ++ links_of_pairs (drop i ps)
pairs_rest ps i = ap links_of_pairs (sym (take-append-drop i ps)) ∙ links_append (take i ps) (drop i ps)
