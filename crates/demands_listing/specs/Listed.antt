-- The listing (RULES 8), the groups call (RULES 8.9) and playing (RULES 6.6, 6.7), said of the history and never of a book.
--
-- A file tells calls: an opening with its settings, and a link call for each record. What kerblist prints for it is said here of the
-- history of those calls, or of the first of them that is refused.
use Rattle.std.specs.Prelude.{ℕ, zero, suc, ◌+◌, ◌*◌, ◌≤◌, ◌<◌, ◌≡◌, true, cond, ◌↔◌, length, take, drop}
use mathlib.Core.List.{List, [], ◌∷◌, ◌++◌, Memᴰ}
use Rattle.std.proofs.Math.Option.{some}
use Rattle.numbers.specs.Kinds.{Bytes, Cell, Number}
use Rattle.numbers.specs.Checks.{first_of, unless, has}
use Rattle.graph.specs.Link.{Chained, chains}
use Rattle.settings.specs.Settings.{taken_number}
use Rattle.settings.specs.declared.Settings.{Settings}
use Rattle.forest.specs.Arrays.{count_from}
use Rattle.book_state.specs.Arrays.{cells}
use Rattle.file.specs.Format.{read_number_of, read_of}
use Rattle.file.specs.Layout.{AreBytes, record_bytes, tick_at, one_at, other_at}
use Rattle.file_play.specs.Play.{Play, play_of}
use Rattle.file_record.specs.Record.{FitsRecord, packed_of, record_of}
use Rattle.window_groups.specs.declared.Groups.{Groups}
use Rattle.window_groups.specs.Groups.{filter, smallest, least_over, of_cells}
use Rattle.groups.specs.Call.{GroupsOutcome, groups_by_number, groups_given}
use Rattle.text.specs.Text.{line}
use Rattle.listing.specs.Lines.{window_word, links_word, refused_file, refused_record, group_line, lines_of}
use Rattle.listing.specs.Listing.{window_line, listing_text}
use Rattle.chain.specs.Chain.{chain_places}
use Rattle.demands.specs.History.{Call, opening, link, History, history_of, number_in, begun, added, open_slide_in, links_of, window_at, window_of}
use Rattle.demands.specs.Implementation.{ours, State, after, gives_chain}
use Rattle.demands.specs.Demands.{AfterCalls}

-- ---- the calls of a file

-- the link call of record i (RULES 6.6)
abbrev pub record_call : (file : Bytes) (i : ℕ) → Call
record_call file i = link (tick_at file i) (one_at file i) (other_at file i)

-- those of `count` records, from record i on
unfoldable pub record_calls : (file : Bytes) (i count : ℕ) → List Call
record_calls file i zero = []
record_calls file i (suc more) = record_call file i ∷ record_calls file (suc i) more

-- of all m records
abbrev pub link_calls : (file : Bytes) → List Call
link_calls file = record_calls file 0 (read_of file).m

-- and before them an opening with the file's settings (RULES 8.1)
abbrev pub file_calls : (file : Bytes) → List Call
file_calls file = opening (read_of file).settings ∷ link_calls file

-- ---- the first refusal

-- the place and the number of the first call that is refused; where none is, how many calls there are, and 0
pub record Refusal : Type 0 where
  pub place : ℕ
  pub number : Number

-- by the number of the call at this place
unfoldable pub refusal_by : (number : Number) (place : ℕ) (later : Refusal) → Refusal
refusal_by zero place later = later
refusal_by (suc k) place later = record { place = place; number = suc k }

-- by the table, of calls on an open book, the first of them at this place
unfoldable pub first_refusal : (place : ℕ) (history : History) (calls : List Call) → Refusal
first_refusal place h [] = record { place = place; number = 0 }
first_refusal place h (c ∷ cs) = refusal_by (number_in true h c) place (first_refusal (suc place) (added h c) cs)

-- ---- playing

abbrev pub played_state : Play → State
played_state p = record { book = p.book; log = p.log }

-- what playing a file gives on a book that calls have left
pub record Plays (file : Bytes) (s : State) (h : History) (play : Play) : Type 0 where
  -- a file that the reader refuses changes nothing (RULES 7.4)
  pub unread : (read_number_of file ≡ 0 → ⊥) → play ≡ record { book = s.book; log = s.log; number = read_number_of file; taken = 0 }
  -- the number and the place are those of the first refusal (RULES 6.7)
  pub refusal : read_number_of file ≡ 0 → first_refusal 0 h (link_calls file) ≡ record { place = play.taken; number = play.number }
  -- as many calls as were taken, one after the other; with number 0 those of all records (RULES 6.6)
  pub calls : read_number_of file ≡ 0 → played_state play ≡ after ours s (take play.taken (link_calls file))
  pub whole : read_number_of file ≡ 0 → play.number ≡ 0 → played_state play ≡ after ours s (link_calls file)

-- ---- groups

-- all cells that links of the history's window chain with c, in order of their numbers (RULES 8.4)
abbrev pub group_in : (history : History) (cell : Cell) → List Cell
group_in h c = filter (chains (window_of h) c) (count_from 0 cells)

-- for how many of the next `most` closings two cells stay chained if nothing is logged (RULES 5.5)
unfoldable pub hold_within : (most : ℕ) (history : History) (one other : Cell) → ℕ
hold_within zero h one other = 0
hold_within (suc c) h one other =
    let sooner : ℕ = hold_within c h one other in
    cond (chains (links_of (window_at h (open_slide_in h + suc c))) one other) (suc c) sooner

-- the hold; after n closings no link of today's window is left
abbrev pub hold_in : (history : History) (one other : Cell) → ℕ
hold_in h one other = hold_within h.clock.n h one other

-- the least hold over the pairs of c's group; n where it has none
abbrev pub least_hold_in : (history : History) (cell : Cell) → ℕ
least_hold_in h c = least_over h.clock.n (hold_in h) (group_in h c)

-- links of the window, repeats counted (RULES 8.5)
abbrev pub link_count_in : (history : History) → ℕ
link_count_in h = length (window_of h)

-- of each cell its group's smallest cell, number of cells and least hold (RULES 8.9); and the links
abbrev pub groups_in : (history : History) → Groups
groups_in h =
    record {
      first = of_cells (λ c. smallest (group_in h c));
      count = of_cells (λ c. length (group_in h c));
      hold = of_cells (least_hold_in h);
      links = link_count_in h;
    }

-- what the groups call gives: the number is 6 for an output that is too short, and never 1 (RULES 7.2, 7.8); these groups go to the
-- fronts of the outputs
abbrev pub groups_outcome_in : (history : History) (first size hold : List ℕ) → GroupsOutcome
groups_outcome_in h first size hold =
    groups_by_number (first_of (unless (has cells first) 6 ∷ unless (has cells size) 6 ∷ unless (has cells hold) 6 ∷ [])) (groups_in h) first size hold

abbrev pub GroupsTold : (state : State) (history : History) → Type 0
GroupsTold s h = (first size hold : List ℕ) → groups_given s.book s.log first size hold ≡ groups_outcome_in h first size hold

-- each number is above the one before, the first is `least` or more
pub data Rising : (least : ℕ) (numbers : List ℕ) → Type 0 where
  none : {least : ℕ} → Rising least []
  next : {least x : ℕ} {xs : List ℕ} → least ≤ x → Rising (suc x) xs → Rising least (x ∷ xs)

-- the chain call gives number 0 for the two, and this is true of the hold that it gives (RULES 5.5)
abbrev pub ChainHold : (state : State) (one other : Cell) (fact : ℕ → Type 0) → Type 0
ChainHold s one other fact =
    (chain : List Cell) → has chain_places chain ≡ true →
    ((gives_chain ours s chain one other).answer.number ≡ 0) × fact (gives_chain ours s chain one other).answer.hold

-- two different cells of a group for which the chain call gives this hold
pub record PairOf (s : State) (group : List Cell) (hold : ℕ) : Type 0 where
  pub one : ℕ
  pub other : ℕ
  pub one_in : Memᴰ one group
  pub other_in : Memᴰ other group
  pub different : one < other
  pub holds : ChainHold s one other (λ k. k ≡ hold)

-- what these definitions mean: a group is a class of cells that the window's links chain, each cell in it once; the chain call gives no
-- pair of it a hold below the least, and gives the least to some pair
pub record GroupMeans (s : State) (h : History) (c : Cell) : Type 0 where
  pub members : (d : ℕ) → Memᴰ d (group_in h c) ↔ ((d < cells) × Chained (window_of h) c d)
  pub once : Rising 0 (group_in h c)
  pub first : (d : ℕ) → Memᴰ d (group_in h c) → smallest (group_in h c) ≤ d
  pub none_less : (one other : ℕ) → Memᴰ one (group_in h c) → Memᴰ other (group_in h c) → (one ≡ other → ⊥) →
      ChainHold s one other (λ k. least_hold_in h c ≤ k)
  pub reached : 2 ≤ length (group_in h c) → PairOf s (group_in h c) (least_hold_in h c)

-- ---- what is printed

-- one line for each group of two or more cells, at its smallest cell (RULES 8.4)
abbrev pub group_line_in : (history : History) (cell : Cell) → Bytes
group_line_in h c = group_line c (smallest (group_in h c)) (length (group_in h c)) (least_hold_in h c)

-- the settings and the open slide; the groups by smallest cell; the links (RULES 8.3 to 8.5)
unfoldable pub history_text : (history : History) → Bytes
history_text h =
    window_line h.clock h.fitting.mounting
    ++ lines_of (group_line_in h) (count_from 0 cells)
    ++ line links_word (link_count_in h ∷ [])

-- the calls of a file tell a history, and the text is what is printed of it
pub record Printed (file : Bytes) : Type 0 where
  pub history : History
  pub told : history_of true (file_calls file) ≡ some history
  pub text : listing_text file ≡ history_text history

-- the first refusal among the calls of the records
abbrev pub record_refusal : (file : Bytes) → Refusal
record_refusal file = first_refusal 0 (begun (read_of file).settings) (link_calls file)

abbrev pub empty_text : (settings : Settings) → Bytes
empty_text s = line window_word (s.n ∷ s.b ∷ s.mounting ∷ 0 ∷ []) ++ line links_word (0 ∷ [])

-- the listing of a file, by what is refused first (RULES 8.6)
pub record Prints (file : Bytes) : Type 0 where
  pub unread : (read_number_of file ≡ 0 → ⊥) → listing_text file ≡ refused_file (read_number_of file)
  pub unopened : read_number_of file ≡ 0 → (taken_number (read_of file).settings ≡ 0 → ⊥) →
      listing_text file ≡ refused_file (taken_number (read_of file).settings)
  pub refused : read_number_of file ≡ 0 → taken_number (read_of file).settings ≡ 0 → ((record_refusal file).number ≡ 0 → ⊥) →
      listing_text file ≡ refused_record (record_refusal file).number (record_refusal file).place
  pub printed : read_number_of file ≡ 0 → taken_number (read_of file).settings ≡ 0 → (record_refusal file).number ≡ 0 → Printed file
  -- without records: slide 0 is open, and there is no group and no link (RULES 8.7)
  pub empty : read_number_of file ≡ 0 → taken_number (read_of file).settings ≡ 0 → (read_of file).m ≡ 0 →
      listing_text file ≡ empty_text (read_of file).settings

-- ---- records

-- a tick and two cells packed into a record: what is taken out of it again, and the link call that playing makes of it, wherever it
-- stands in a file
pub record RecordRead (tick one other : ℕ) : Type 0 where
  pub taken : (out : Bytes) → 8 ≤ length out →
      record_of (packed_of tick one other out) 0 ≡ record { tick = tick; one = one; other = other; number = 0 }
  pub played : (before rest : Bytes) (i : ℕ) → length before ≡ 8 * i → record_call (before ++ (record_bytes tick one other ++ rest)) i ≡ link tick one other

-- so for all that fit their fields (RULES 6.2); and the other way round, the 8 bytes of each record of a file are its fields packed
pub record Records : Type 0 where
  pub read : (tick one other : ℕ) → FitsRecord tick one other → RecordRead tick one other
  pub again : (file : Bytes) → AreBytes file → (i : ℕ) → 8 * i + 8 ≤ length file →
      record_bytes (tick_at file i) (one_at file i) (other_at file i) ≡ take 8 (drop (8 * i) file)

-- ---- the worked case (RULES 9.3)

abbrev pub example_file : Bytes
example_file =
    -- the five records: 0: 1 2; 10: 2 3; 20: 3 4; 30: 5 6; 45: 4 5
    0x00 ∷ 0x00 ∷ 0x00 ∷ 0x00 ∷ 0x01 ∷ 0x00 ∷ 0x02 ∷ 0x00
    ∷ 0x0A ∷ 0x00 ∷ 0x00 ∷ 0x00 ∷ 0x02 ∷ 0x00 ∷ 0x03 ∷ 0x00
    ∷ 0x14 ∷ 0x00 ∷ 0x00 ∷ 0x00 ∷ 0x03 ∷ 0x00 ∷ 0x04 ∷ 0x00
    ∷ 0x1E ∷ 0x00 ∷ 0x00 ∷ 0x00 ∷ 0x05 ∷ 0x00 ∷ 0x06 ∷ 0x00
    ∷ 0x2D ∷ 0x00 ∷ 0x00 ∷ 0x00 ∷ 0x04 ∷ 0x00 ∷ 0x05 ∷ 0x00
    -- T0 0, B 10, n 3, mounting 1, two pads; the offset 40, m 5, KERB
    ∷ 0x00 ∷ 0x00 ∷ 0x00 ∷ 0x00 ∷ 0x0A ∷ 0x00 ∷ 0x00 ∷ 0x00 ∷ 0x03 ∷ 0x01 ∷ 0x00 ∷ 0x00
    ∷ 0x28 ∷ 0x00 ∷ 0x00 ∷ 0x00 ∷ 0x05 ∷ 0x00 ∷ 0x00 ∷ 0x00 ∷ 0x4B ∷ 0x45 ∷ 0x52 ∷ 0x42
    ∷ []

abbrev pub example_text : Bytes
example_text =
    -- window 3 10 1 4
    119 ∷ 105 ∷ 110 ∷ 100 ∷ 111 ∷ 119 ∷ 32 ∷ 51 ∷ 32 ∷ 49 ∷ 48 ∷ 32 ∷ 49 ∷ 32 ∷ 52 ∷ 10
    -- group 3 4 0
    ∷ 103 ∷ 114 ∷ 111 ∷ 117 ∷ 112 ∷ 32 ∷ 51 ∷ 32 ∷ 52 ∷ 32 ∷ 48 ∷ 10
    -- links 3
    ∷ 108 ∷ 105 ∷ 110 ∷ 107 ∷ 115 ∷ 32 ∷ 51 ∷ 10
    ∷ []

-- ---- the demand

pub record Listed : Type 0 where
  pub plays : (file : Bytes) → AfterCalls ours λ s h. Plays file s h (play_of file s.book s.log)
  pub groups : AfterCalls ours GroupsTold
  pub means : AfterCalls ours λ s h. (c : ℕ) → GroupMeans s h c
  pub prints : (file : Bytes) → Prints file
  pub records : Records
  pub example : listing_text example_file ≡ example_text
