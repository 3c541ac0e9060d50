-- When the state that the definitions speak of, a book and its log, agrees with a history: the clock and the fitting are the history's,
-- each live place of the log holds the links of its slide in order of arrival, and the arrays hold the two forests of RULES 3. This is
-- the whole relation between the layer of the history and that of the definitions: everything that is promised of books that calls
-- have left follows from it, and calls keep it (proofs/Keeps).
use Rattle.std.specs.Prelude.{ℕ, ◌+◌, ◌/◌, ◌%◌, ◌≤◌, ◌<◌, ◌≡◌, ◌⊎◌, true, List, [], ◌∷◌, reverse, length, get_or}
use Rattle.settings.specs.Settings.{held_in_range}
use Rattle.slides.proofs.Slides.{InRange}
use Rattle.forest.specs.Arrays.{parent_in, size_in, held}
use Rattle.book_state.specs.Arrays.{cells}
use Rattle.book_state.specs.Log.{half_of, spot_of, start_of, links_at}
use Rattle.numbers.specs.Checks.{has}
use Rattle.book_state.specs.Numbers.{log_places}
use Rattle.demands.specs.History.{Stored, History, open_slide_in, chunk_in, slide_links, how_many, links_of}
use Rattle.demands.specs.Implementation.{State}
use Rattle.demands.specs.Demands.{forward_forest, backward_forest}

-- newest first: slides never rise along the list, and none is above k; both ends of each link are cells
pub data Falling : ℕ → List Stored → Type 0 where
  none : {k : ℕ} → Falling k []
  next : {k : ℕ} {s : Stored} {ss : List Stored} → s.slide ≤ k → s.link.one < cells → s.link.other < cells → Falling s.slide ss →
      Falling k (s ∷ ss)

-- what is true of every history, whatever the book
pub record Sensible (h : History) : Type 0 where
  pub range : InRange h.clock
  pub held : held_in_range h.clock.n h.clock.b h.fitting.mounting ≡ true
  pub falling : Falling (open_slide_in h) h.links
  pub few : (t : ℕ) → how_many (slide_links t h.links) ≤ 256

-- a slide of the open chunk or of the one before it: those are in the log (RULES 7.7)
abbrev pub Live : History → ℕ → Type 0
Live h t = (t / h.clock.n ≡ chunk_in h) ⊎ (t / h.clock.n + 1 ≡ chunk_in h)

-- the spot of a slide in the counts and in the log
abbrev pub spot_in_of : History → ℕ → ℕ
spot_in_of h t = spot_of (half_of (t / h.clock.n)) (t % h.clock.n)

-- the links of a slide stand in the log, in order of arrival
pub record SlideKept (h : History) (s : State) (t : ℕ) : Type 0 where
  pub count : get_or s.book.counts (spot_in_of h t) 0 ≡ how_many (slide_links t h.links)
  pub links : links_at s.log (start_of (spot_in_of h t)) (how_many (slide_links t h.links)) ≡ reverse (links_of (slide_links t h.links))

pub record Agrees (h : History) (s : State) : Type 0 where
  pub sensible : Sensible h
  pub clock : s.book.clock ≡ h.clock
  pub fitting : s.book.fitting ≡ h.fitting
  pub room : has log_places s.log ≡ true
  pub counts_long : length s.book.counts ≡ 32
  pub counts_few : (spot : ℕ) → get_or s.book.counts spot 0 ≤ 256
  pub kept : (t : ℕ) → Live h t → SlideKept h s t
  pub forward_long : (length s.book.forward_parent ≡ cells) × (length s.book.forward_size ≡ cells)
  pub backward_long :
      (length s.book.backward_parent ≡ cells) × (length s.book.backward_size ≡ cells)
      × (length s.book.backward_label ≡ cells)
  pub forward_parents : parent_in s.book.forward_parent ≡ (forward_forest h).parent
  pub forward_sizes : size_in s.book.forward_size ≡ (forward_forest h).size
  pub backward : held s.book.backward_parent s.book.backward_size s.book.backward_label ≡ backward_forest h
