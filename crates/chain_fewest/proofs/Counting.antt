-- The search from the second cell, turn by turn: each turn reaches the cells across the links of the queue's cell at
-- `head`, read from the one side and from the other, and then the queue is passed by one.
use Prim.Native.Nat.{ℕ, zero, suc, ◌+◌, ◌≤◌, ◌<◌, zero-le}
use native.Mathlib.Decide.{ℕ_discrete}
use native.Mathlib.Nat.{le_refl, le_antisymm}
use native.Mathlib.Omega.{arith}
use mathlib.Core.Path.{◌≡◌, refl, sym, ◌∙◌, ap}
use mathlib.Core.List.{List, [], ◌∷◌}
use mathlib.Core.Logic.{inr, ⊎_elim}
use lib.ListN.{length, get_or, set, replicate, length-set}
use lib.Seq.{get_or-set_same, get_or-set_other}
use Rattle.forest.specs.Arrays.{places}
use Rattle.graph.specs.Link.{Link, Linked}
use Rattle.graph.specs.Trail.{arrive}
use Rattle.chain_fewest.specs.Levels.{Counted, Blank, unknown, Known, remaining_at, Waits, Searching, Searches, Ready, Reached}
use Rattle.chain_fewest.specs.Joined.{joined_by}
use Rattle.chain_fewest.specs.declared.links.Links.{Links}
use Rattle.chain_fewest.specs.declared.levels.Search.{Search}
use Rattle.chain_fewest.proofs.LinkLists.{either_side, back_joined, joined_back}
use Rattle.chain_fewest.proofs.Search.{unknown_set, search_on, search_ends, search_relink}

-- The begin of the search: the second cell alone has a number, and alone stands in the queue

pub all_blank : (cells : ℕ) → Blank (replicate cells 0)
all_blank zero c = refl
all_blank (suc cells) zero = refl
all_blank (suc cells) (suc c) = all_blank cells c

blank_unknown : (remaining : List ℕ) → Blank remaining → unknown remaining ≡ length remaining
unfolding unknown
blank_unknown [] blank = refl
blank_unknown (zero ∷ remaining) blank = ap suc (blank_unknown remaining (λ c. blank (suc c)))
blank_unknown (suc x ∷ remaining) blank = absurd (omega (arith, blank 0))

module _
    (ls : List Link) (remaining queue : List ℕ) (b : ℕ)
    (inside : b < length remaining) (blank : Blank remaining) (long : length queue ≡ length remaining)
  where
    abbrev remaining_first : List ℕ
    remaining_first = set remaining b 1

    abbrev queue_first : List ℕ
    queue_first = set queue 0 b

    last : get_or remaining_first b 0 ≡ 1
    last = get_or-set_same remaining b 1 0 inside

    first : get_or queue_first 0 0 ≡ b
    first = get_or-set_same queue 0 b 0 (omega arith)

    only : (c : ℕ) → Known remaining_first c → c ≡ b
    only c known =
        elim (ℕ_discrete c b) [
          | yes e ↦ e
          | no ne ↦ absurd (omega (arith, rw (get_or-set_other remaining b c 1 0 ne) at known, blank c))
        ]

    highest : (c : ℕ) → get_or remaining_first c 0 ≤ 1
    highest c =
        elim (ℕ_discrete c b) [
          | yes e ↦ rw (e, last) (le_refl 1)
          | no ne ↦ rw (get_or-set_other remaining b c 1 0 ne, blank c) zero-le
        ]

    alone : (i : ℕ) → i < 1 → Waits remaining_first queue_first i
    alone zero lt =
        record {
          inside = rw (first, length-set) inside;
          known = rw (first, last) (le_refl 1);
          low = rw (first, last) (omega arith);
          top = λ c. rw (first, last) (omega (arith, highest c));
        }
    alone (suc i) lt = absurd (omega arith)

    pub search_begins : Searching ls b remaining_first queue_first 0 1
    search_begins =
        record {
          long = simp length-set long;
          begins = first;
          last = last;
          passed = zero-le;
          room = rw length-set (omega (arith, unknown_set remaining b 1 inside (blank b) (le_refl 1), blank_unknown remaining blank));
          trail = λ c known. (c ∷ [], arrive (only c known), rw (only c known, last));
          closed = λ c known. inr (0, zero-le, omega arith, first ∙ sym (only c known));
          waits = λ i le lt. alone i lt;
          rises = λ i j le more lt. let e : i ≡ j = omega arith in rw e (le_refl (remaining_at remaining_first queue_first j));
        }

-- Its turns

-- the state of the search that began at b
pub record Counting (links : Links) (b : ℕ) (s : Search) : Type 0 where
  pub long : length s.remaining ≡ places
  pub searching : Searches (joined_by links) b s

-- the queue is passed by one
abbrev pub passed : Search → Search
passed s = record { remaining = s.remaining; queue = s.queue; head = s.head + 1; tail = s.tail }

pub counting_begins :
    (links : Links) (remaining queue : List ℕ) {b : ℕ} →
    b < places →
    Blank remaining →
    length remaining ≡ places →
    length queue ≡ places →
    Counting links b (record { remaining = set remaining b 1; queue = set queue 0 b; head = 0; tail = 1 })
counting_begins links remaining queue {b} inside blank long queue_long =
    record {
      long = simp length-set long;
      searching = search_begins (joined_by links) remaining queue b (rw long inside) blank (queue_long ∙ sym long);
    }

module _ (links : Links) {b : ℕ} {s t : Search} (k : Counting links b s) (forth : Reached links.forth s t) where
  -- after the one side the other is read
  pub ready_back : Ready links.back t
  ready_back =
      record {
        some = forth.some;
        searching = rw forth.searching.begins (search_relink (joined_back links) (back_joined links) forth.searching);
      }

  module _ {u : Search} (back : Reached links.back t u) where
    -- then all cells across have their numbers
    all_reached : (d : ℕ) → Linked (get_or u.queue u.head 0) d (joined_by links) → Known u.remaining d
    all_reached d h =
        ⊎_elim (λ p. back.kept d (forth.reached d (rw (back.place, forth.stays, forth.place) at p)))
        (λ p. back.reached d (rw back.place at p))
        (either_side links (rw back.stays at h))

    pub counting_turns : Counting links b (passed u)
    counting_turns =
        record {
          long = back.long ∙ forth.long ∙ k.long;
          searching =
              search_on
              (rw (← k.searching.begins, ← forth.searching.begins) (search_relink (back_joined links) (joined_back links) back.searching))
              back.some
              all_reached;
        }

pub counting_ends :
    {links : Links} {b : ℕ} {s : Search} →
    Counting links b s → s.tail ≤ s.head → Counted (joined_by links) b s.remaining
counting_ends k all = search_ends (rw (le_antisymm k.searching.passed all) at k.searching)
