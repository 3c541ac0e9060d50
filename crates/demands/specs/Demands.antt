-- What the customer demands of any implementation, after any calls from any book and log (RULES 10.5). A history is what the calls
-- and the table tell (History); there is one once an opening has given 0.
use Rattle.std.specs.Prelude.{ℕ, ◌+◌, ◌-◌, ◌*◌, ◌/◌, ◌^◌, ◌%◌, ◌≤◌, ◌<◌, ◌≡◌, ◌↔◌, ◌⊎◌, Bool, true, false, List, [], ◌∷◌, map, eqb, length, get_or, take, drop}
use Rattle.std.proofs.Math.Option.{some}
use Rattle.numbers.specs.Kinds.{Bytes, Cell, Log, Number, Slide, Tick}
use Rattle.graph.specs.Link.{Linked, Chained, chains}
use Rattle.graph.specs.Trail.{Best, NoneTwice}
use Rattle.graph.specs.Forest.{Forest, forest_of, walk, walk_at_of, parent_at}
use Rattle.settings.specs.Settings.{taken_number}
use Rattle.settings.specs.declared.Settings.{Settings}
use Rattle.cells.specs.Cell.{sectors, ring_of, sector_of, lorry_cell_of}
use Rattle.cells.specs.Touching.{touch}
use Rattle.cells.specs.declared.Fitting.{Fitting}
use Rattle.slides.specs.Counter.{tick_limit, half_turn, ahead}
use Rattle.slides.specs.Clock.{total_most, time_of, open_slide_of}
use Rattle.book_state.specs.declared.Book.{Book}
use Rattle.book_state.specs.Order.{never_opened_of}
use Rattle.book.specs.Calls.{link_of, clock_of}
use Rattle.book_joined.specs.declared.JoinedAnswer.{JoinedAnswer}
use Rattle.book_joined.specs.Joined.{joined_of}
use Rattle.book_state.specs.Arrays.{cells, step_limit}
use Rattle.numbers.specs.Checks.{first_of, unless, has}
use Rattle.numbers.specs.Front.{at_front}
use Rattle.book_state.specs.Numbers.{log_places, are_cells_of}
use Rattle.file.specs.Layout.{AreBytes, FitsFields, ending_size, record_count}
use Rattle.file.specs.Format.{read_number_of, read_of}
use Rattle.file_write.specs.Writer.{write_number, output_of}
use Rattle.text_list.specs.Call.{text_in_of, text_out_of}
use Rattle.text_list.specs.Promises.{Texts}
use Rattle.file_play.specs.Play.{Play, play_from, play_of, record_gives}
use Rattle.file_record.specs.Record.{pack_number, packed_of, record_of}
use Rattle.listing.specs.Listing.{listing_of}
use Rattle.groups.specs.Call.{GroupsOutcome, groups_given}
use Rattle.chain.specs.declared.ChainAnswer.{ChainAnswer}
use Rattle.chain.specs.Chain.{ChainOutcome, chain_places, chain_of}
use Rattle.lamps.specs.declared.LampsAnswer.{LampsAnswer}
use Rattle.lamps.specs.Lamps.{lamps_of}
use Rattle.lamps.specs.Mask.{is_mask_of, is_body}
use Rattle.lamps.specs.Zones.{Zone, left_zone, right_zone, in_zone_of}
use Rattle.demands.specs.History.{
  Call,
  opening,
  link,
  clock,
  History,
  history_from,
  history_of,
  number_in,
  open_slide_in,
  latest_of,
  latest_in,
  total_in,
  links_of,
  window_at,
  window_of,
  links_since,
  forward_links,
  backward_links,
  place_in,
}
use Rattle.demands.specs.Implementation.{Implementation, State, gives, after, gives_chain, gives_lamps}

-- the log has its 16,384 places (RULES 7.1, number 6)
abbrev pub room_in : State → Bool
room_in s = has log_places s.log

-- the calls tell this history
abbrev pub HasHistory : State → List Call → History → Type 0
HasHistory s calls h = history_of (room_in s) calls ≡ some h

-- something holds of the state that calls leave and of the history that they tell, whatever the calls and the state before them
abbrev pub AfterCalls : (p : Implementation) (holds : State → History → Type 0) → Type 0
AfterCalls p holds = (s : State) (cs : List Call) (h : History) → HasHistory s cs h → holds (after p s cs) h

-- 0. the number that the book gives is the number that the history gives (RULES 7.1, 7.8); an opening's also where there is no
-- history yet
pub record Table (p : Implementation) : Type 0 where
  pub openings : (s : State) (settings : Settings) →
      (gives p s (opening settings)).number ≡ first_of (taken_number settings ∷ unless (room_in s) 6 ∷ [])
  pub calls : AfterCalls p λ s h. (c : Call) → (gives p s c).number ≡ number_in (room_in s) h c
  -- a link's is 14 exactly when both are cells and do not touch (RULES 2.11)
  pub apart : AfterCalls p λ s h. (tick one other : ℕ) →
      ((gives p s (link tick one other)).number ≡ 14) ↔ ((are_cells_of one other ≡ true) × (touch one other ≡ false))
  pub asks : AfterCalls p λ s h. (one other : ℕ) → (p.joined_gives s.book one other).number ≡ unless (are_cells_of one other) 3

-- 1. for every book, log and chain buffer, altered ones too: a number that is not 0 leaves them as they were and the other fields 0
-- (RULES 7.4), and no call changes a log place from 16,384 on (RULES 7.5)
pub record Refused (p : Implementation) : Type 0 where
  pub kept : (s : State) (c : Call) → ((gives p s c).number ≡ 0 → ⊥) → ((gives p s c).book ≡ s.book) × ((gives p s c).log ≡ s.log)
  pub beyond : (s : State) (c : Call) → drop log_places (gives p s c).log ≡ drop log_places s.log
  pub unanswered : (b : Book) (one other : ℕ) →
      let o : JoinedAnswer = p.joined_gives b one other in
      (o.number ≡ 0 → ⊥) → o ≡ record { number = o.number; yes = false; steps = 0 }
  pub unchained : (s : State) (chain : List ℕ) (one other : ℕ) →
      let o : ChainOutcome = gives_chain p s chain one other in
      (o.answer.number ≡ 0 → ⊥) →
      o ≡ record { answer = record { newest = 0; cells = 0; hold = 0; number = o.answer.number }; chain = chain }
  pub unlit : (s : State) (mask : Bytes) →
      let o : LampsAnswer = gives_lamps p s mask in
      (o.number ≡ 0 → ⊥) → o ≡ record { left_cell = 0; right_cell = 0; left = false; right = false; number = o.number }

-- playing from record i on stopped at a refused record: the records before it were taken, `before` of them, the book and its log
-- are as they left them, and the number is the link call's (RULES 6.6, 6.7)
pub record Stopped (file : List ℕ) (i : ℕ) (b : Book) (log : List ℕ) (p : Play) : Type 0 where
  pub before : ℕ
  pub place : p.taken ≡ i + before
  pub kept : play_from file i before b log ≡ record { book = p.book; log = p.log; number = 0; taken = p.taken }
  pub number : (record_gives file p.taken p.book p.log).number ≡ p.number

-- 1, for files, records and groups: a refusal leaves the other result fields 0 and lent buffers as they were (RULES 7.4); a file that the
-- reader refuses is not played, and a record that is refused changes nothing (RULES 6.7)
pub record FilesRefused : Type 0 where
  pub read : (file : List ℕ) → (read_number_of file ≡ 0 → ⊥) →
      read_of file ≡ record { settings = record { t0 = 0; b = 0; n = 0; mounting = 0 }; m = 0; number = read_number_of file }
  pub write : (s : Settings) (records out : List ℕ) → (write_number s (length records) (length out) ≡ 0 → ⊥) → output_of s records out ≡ out
  pub play : (file : List ℕ) (m : ℕ) (b : Book) (log : List ℕ) → ((play_from file 0 m b log).number ≡ 0 → ⊥) →
      Stopped file 0 b log (play_from file 0 m b log)
  pub unread : (file : List ℕ) (b : Book) (log : List ℕ) → (read_number_of file ≡ 0 → ⊥) →
      play_of file b log ≡ record { book = b; log = log; number = read_number_of file; taken = 0 }
  pub pack : (tick one other : ℕ) (out : List ℕ) → (pack_number (length out) ≡ 0 → ⊥) → packed_of tick one other out ≡ out
  pub unpack : (records : List ℕ) (i : ℕ) → ((record_of records i).number ≡ 0 → ⊥) →
      record_of records i ≡ record { tick = 0; one = 0; other = 0; number = (record_of records i).number }
  pub groups : (b : Book) (log first size hold : List ℕ) →
      let o : GroupsOutcome = groups_given b log first size hold in
      (o.answer.number ≡ 0 → ⊥) →
      o ≡ record { answer = record { links = 0; number = o.answer.number }; first = first; size = size; hold = hold }
  pub list : (file out : List ℕ) → ((listing_of file out).answer.number ≡ 0 → ⊥) →
      listing_of file out ≡ record { answer = record { length = 0; number = (listing_of file out).answer.number }; output = out }

-- the number that is unassigned (RULES 7.1)
abbrev pub unassigned : Number
unassigned = 8

-- no call gives it, whatever the call is lent, altered books too
pub record Unassigned (p : Implementation) : Type 0 where
  pub calls : (s : State) (c : Call) → (gives p s c).number ≡ unassigned → ⊥
  pub joined : (b : Book) (one other : ℕ) → (p.joined_gives b one other).number ≡ unassigned → ⊥
  pub chain : (s : State) (chain : List ℕ) (one other : ℕ) → (gives_chain p s chain one other).answer.number ≡ unassigned → ⊥
  pub lamps : (s : State) (mask : Bytes) → (gives_lamps p s mask).number ≡ unassigned → ⊥
  pub groups : (b : Book) (log first size hold : List ℕ) → (groups_given b log first size hold).answer.number ≡ unassigned → ⊥
  pub read : (file : Bytes) → (read_of file).number ≡ unassigned → ⊥
  pub write : (s : Settings) (bytes room : ℕ) → write_number s bytes room ≡ unassigned → ⊥
  pub play : (file : Bytes) (b : Book) (log : Log) → (play_of file b log).number ≡ unassigned → ⊥
  pub pack : (room : ℕ) → pack_number room ≡ unassigned → ⊥
  pub unpack : (records : Bytes) (i : ℕ) → (record_of records i).number ≡ unassigned → ⊥
  pub list : (file out : Bytes) → (listing_of file out).answer.number ≡ unassigned → ⊥
  pub text_in : (s : Settings) (text out : Bytes) → (text_in_of s text out).answer.number ≡ unassigned → ⊥
  pub text_out : (file out : Bytes) → (text_out_of file out).answer.number ≡ unassigned → ⊥

-- the two forests of the history (RULES 3.4 to 3.9) and the cut (RULES 3.10)
abbrev pub forward_forest : History → Forest
forward_forest h = forest_of step_limit (forward_links h)

abbrev pub backward_forest : History → Forest
backward_forest h = forest_of step_limit (backward_links h)

abbrev pub cut_in : History → ℕ
cut_in h = place_in h + 1

-- a cell's steps in the two forests (RULES 3.12)
abbrev pub backward_step_count : (history : History) (cell : Cell) → ℕ
backward_step_count h c = (walk_at_of step_limit (backward_forest h) (cut_in h) c).steps

abbrev pub forward_step_count : (history : History) (cell : Cell) → ℕ
forward_step_count h c = (walk step_limit (forward_forest h) c).steps

-- the count of steps: two walks for each of the two cells (RULES 3.13)
abbrev pub steps_in : (history : History) (one other : Cell) → ℕ
steps_in h one other = backward_step_count h one + backward_step_count h other + forward_step_count h one + forward_step_count h other

-- both walks of a cell end, after 10 steps at most: where they stop there is no further step to take (RULES 3.12)
pub record WalksEnd (h : History) (c : ℕ) : Type 0 where
  pub backward : parent_at (backward_forest h) (cut_in h) (walk_at_of step_limit (backward_forest h) (cut_in h) c).root ≡ (walk_at_of step_limit (backward_forest h) (cut_in h) c).root
  pub forward : (forward_forest h).parent (walk step_limit (forward_forest h) c).root ≡ (walk step_limit (forward_forest h) c).root
  pub backward_short : backward_step_count h c ≤ 10
  pub forward_short : forward_step_count h c ≤ 10

-- 2. joined: yes exactly when the two are the same or links of the current window chain them (RULES 4.4); the count of steps is that
-- of the four walks, never above 40 (RULES 3.13)
pub record Joined (p : Implementation) : Type 0 where
  pub chained : AfterCalls p λ s h. (one other : ℕ) → are_cells_of one other ≡ true →
      ((p.joined_gives s.book one other).yes ≡ true) ↔ Chained (window_of h) one other
  pub steps : AfterCalls p λ s h. (one other : ℕ) → are_cells_of one other ≡ true →
      (p.joined_gives s.book one other).steps ≡ steps_in h one other
  pub few : AfterCalls p λ s h. (one other : ℕ) → (p.joined_gives s.book one other).steps ≤ 40
  pub ends : AfterCalls p λ s h. (c : ℕ) → WalksEnd h c

-- 2, for files: what the writer wrote the reader reads back, records and all; what the reader takes, written again, has the same bytes
-- (RULES 6.5). Settings have fields of 32 bits, and a file is of bytes. And text lists: which are taken, where one breaks the form, and
-- the ways from text to file and back (RULES 6.11 to 6.15)
pub record Files : Type 0 where
  pub there : (s : Settings) (records out : Bytes) → FitsFields s → write_number s (length records) (length out) ≡ 0 →
      let m : ℕ = record_count (length records) in
      (read_of (take (8 * m + ending_size) (output_of s records out)) ≡ record { settings = s; m = m; number = 0 })
      × (take (8 * m) (output_of s records out) ≡ records)
  pub back : (file out : Bytes) → AreBytes file → (read_of file).number ≡ 0 → length file ≤ length out →
      let records : Bytes = take (8 * (read_of file).m) file in
      (write_number (read_of file).settings (length records) (length out) ≡ 0) × (output_of (read_of file).settings records out ≡ at_front file out)
  pub texts : Texts

-- what a chain call that gives 0 hands back: at the front of the buffer a chain from the first cell to the second over links of
-- slides L to k (RULES 5.2), with the fewest links, and among those the first by cell numbers (RULES 5.3); later places keep what
-- they had (RULES 5.9). Hold = L + n - 1 - k (RULES 5.5)
pub record ChainGiven (h : History) (chain : List ℕ) (one other : ℕ) (o : ChainOutcome) : Type 0 where
  pub best : Best (links_since h o.answer.newest) one other (take o.answer.cells o.chain)
  pub long : length (take o.answer.cells o.chain) ≡ o.answer.cells
  pub rest : drop o.answer.cells o.chain ≡ drop o.answer.cells chain
  pub hold : o.answer.hold + open_slide_in h + 1 ≡ o.answer.newest + h.clock.n

-- whatever the book and the log are, altered ones too, a chain that is handed back has 1 to 1,024 cells, stands at the front of the
-- buffer, and holds no cell twice (RULES 5.11)
pub record Fits (o : ChainOutcome) : Type 0 where
  pub some : 1 ≤ o.answer.cells
  pub few : o.answer.cells ≤ cells
  pub long : length (take o.answer.cells o.chain) ≡ o.answer.cells
  pub once : NoneTwice (take o.answer.cells o.chain)

-- two different cells: L is the largest slide such that links of slides L to k chain them (RULES 5.1), and the two stay joined for
-- as many further closings as the hold says if nothing is logged, and not for one more (RULES 5.5, 5.7)
pub record DifferentCells (p : Implementation) (s : State) (h : History) (one other : ℕ) (answer : ChainAnswer) : Type 0 where
  pub chained : Chained (links_since h answer.newest) one other
  pub largest : (l : ℕ) → answer.newest < l → Chained (links_since h l) one other → ⊥
  pub few : answer.hold < h.clock.n
  -- a closing raises k by one, even where no total could still reach that slide (RULES 5.6)
  pub closings : (c : ℕ) → Chained (links_of (window_at h (open_slide_in h + c))) one other ↔ (c ≤ answer.hold)
  -- where clock calls reach it, by one tick or by several (one reaches less than 2^31 ticks ahead, RULES 2.3), joined gives the same
  -- answer after them
  pub clocks : (c : ℕ) (ticks : List ℕ) (later : History) → history_from (room_in s) (some h) (map clock ticks) ≡ some later →
      open_slide_in later ≡ open_slide_in h + c →
      ((p.joined_gives (after p s (map clock ticks)).book one other).yes ≡ true) ↔ (c ≤ answer.hold)

-- for a cell and itself the chain is that one cell, L is taken as k + 1, and the hold is n, read as "always" (RULES 5.8)
pub record Itself (h : History) (one : ℕ) (o : ChainOutcome) : Type 0 where
  pub newest : o.answer.newest ≡ open_slide_in h + 1
  pub hold : o.answer.hold ≡ h.clock.n
  pub cell : take o.answer.cells o.chain ≡ one ∷ []

-- what is given for two cells and a chain buffer that is long enough: 7 exactly when links of the current window do not chain the two
-- (RULES 5.10), otherwise 0; and joined says yes exactly when the chain call gives 0
pub record Answers (p : Implementation) (s : State) (h : History) (chain : List ℕ) (one other : ℕ) (o : ChainOutcome) : Type 0 where
  pub no_trail_lem : (o.answer.number ≡ 7) ↔ (Chained (window_of h) one other → ⊥)
  pub done : (o.answer.number ≡ 0) ↔ Chained (window_of h) one other
  pub joins : ((p.joined_gives s.book one other).yes ≡ true) ↔ (o.answer.number ≡ 0)
  pub handed : o.answer.number ≡ 0 → ChainGiven h chain one other o
  pub different : o.answer.number ≡ 0 → (one ≡ other → ⊥) → DifferentCells p s h one other o.answer
  pub itself : one ≡ other → Itself h one o

-- 3. chain: the number is 6 for a chain buffer that is too short, else 3 where one of the two is no cell, else 7 where there is no
-- trail, and never 1 (RULES 7.2, 7.8); what it answers, and that what it hands back fits
pub record Chain (p : Implementation) : Type 0 where
  pub number : AfterCalls p λ s h. (chain : List ℕ) (one other : ℕ) →
      (gives_chain p s chain one other).answer.number
      ≡ first_of
      (unless (has chain_places chain) 6
      ∷ unless (are_cells_of one other) 3
      ∷ unless (chains (window_of h) one other) 7
      ∷ [])
  pub answers : AfterCalls p λ s h. (chain : List ℕ) → has chain_places chain ≡ true → (one other : ℕ) → are_cells_of one other ≡ true →
      Answers p s h chain one other (gives_chain p s chain one other)
  pub fits : (s : State) (chain : List ℕ) (one other : ℕ) → (gives_chain p s chain one other).answer.number ≡ 0 → Fits (gives_chain p s chain one other)

-- a tick is refused: it is half a turn of the counter or more ahead of the latest that was accepted, or the total has no room for it
-- (RULES 2.3)
abbrev pub TooEarly : (history : History) (tick : Tick) → Type 0
TooEarly h tick = (half_turn ≤ ahead (latest_in h) tick) ⊎ (total_most < total_in h + ahead (latest_in h) tick)

-- ticks that never fall, from T0 on; the newest at the front
pub data Rising (t0 : ℕ) : List ℕ → Type 0 where
  none : Rising t0 []
  next : {t : ℕ} {ts : List ℕ} → latest_of t0 ts ≤ t → Rising t0 ts → Rising t0 (t ∷ ts)

-- the open slide after an opening with T0 0 and B 10, and clock calls with these ticks
abbrev pub slide_after : (implementation : Implementation) (state : State) (ticks : List Tick) → Slide
slide_after p s ticks =
    open_slide_of (after p s (opening (record { t0 = 0; b = 10; n = 3; mounting = 1 }) ∷ map clock ticks)).book.clock

-- a tick's slide does not follow from the tick alone (RULES 2.4): tick 5 is of slide 0, and of another slide each time the counter comes
-- round to it
pub record NotAlone (p : Implementation) (s : State) : Type 0 where
  pub first_turn : slide_after p s (5 ∷ []) ≡ 0
  pub second_turn : slide_after p s (2147483647 ∷ 4294967294 ∷ 5 ∷ []) ≡ 429496730

-- clock calls with these ticks, each of 32 bits, lead from a history to one of which this holds
pub record ByClocks (room : Bool) (h : History) (Holds : History → Type 0) : Type 0 where
  pub ticks : List ℕ
  pub fit : (i : ℕ) → get_or ticks i 0 < tick_limit
  pub later : History
  pub told : history_from room (some h) (map clock ticks) ≡ some later
  pub holds : Holds later

-- the time: what a tick means, by the ticks that were accepted since the opening (RULES 2.3, 2.4)
pub record Time (p : Implementation) : Type 0 where
  -- the book's total is the sum of their differences, and its time is the latest of them
  pub total : AfterCalls p λ s h. s.book.clock.total ≡ total_in h
  pub time : AfterCalls p λ s h. time_of s.book.clock ≡ latest_in h % tick_limit
  -- the total never falls
  pub rises : AfterCalls p λ s h. (tick one other : ℕ) →
      (s.book.clock.total ≤ (gives p s (clock tick)).book.clock.total) × (s.book.clock.total ≤ (gives p s (link tick one other)).book.clock.total)
  -- 4, exactly when
  pub clock_four : AfterCalls p λ s h. (tick : ℕ) → ((gives p s (clock tick)).number ≡ 4) ↔ TooEarly h tick
  pub link_four : AfterCalls p λ s h. (tick one other : ℕ) →
      ((gives p s (link tick one other)).number ≡ 4) ↔ ((are_cells_of one other ≡ true) × (touch one other ≡ true) × TooEarly h tick)
  -- the open slide is that of the total; a link that is taken is stored there (History, `with_link`)
  pub slide : AfterCalls p λ s h. open_slide_in h ≡ total_in h / h.clock.b
  -- so it does not follow from the tick alone; it does where ticks never pass the end of the counter
  pub not_alone : (s : State) → room_in s ≡ true → NotAlone p s
  pub plain : AfterCalls p λ s h. Rising h.clock.t0 h.ticks → latest_in h < tick_limit →
      open_slide_in h ≡ (latest_in h - h.clock.t0) / h.clock.b
  -- a slide and the one after it always have a number of 64 bits
  pub numbered : AfterCalls p λ s h. open_slide_in h + 1 < 2 ^ 64
  -- every slide to come that some total reaches is reached by clock calls
  pub reached : AfterCalls p λ s h. (c : ℕ) → (open_slide_in h + c) * h.clock.b ≤ total_most →
      ByClocks (room_in s) h λ later. open_slide_in later ≡ open_slide_in h + c

-- only cells that touch are linked (RULES 1.8, 2.11). Either may be named first, none touches itself, and the unit's numbers and the
-- lorry's are judged alike; any two cells that a link of a history links touch, in the lorry's numbers
pub record Touching : Type 0 where
  pub symmetric : (one other : ℕ) → touch one other ≡ touch other one
  pub itself : (c : ℕ) → touch c c ≡ false
  pub mountings : (fitting : Fitting) (one other : ℕ) → are_cells_of one other ≡ true →
      touch (lorry_cell_of fitting one) (lorry_cell_of fitting other) ≡ touch one other
  pub linked : (room : Bool) (cs : List Call) (h : History) → history_of room cs ≡ some h →
      (one other : ℕ) → Linked one other (links_of h.links) → touch one other ≡ true

-- the zones, in the lorry's numbers: rings 0 to 5, on the left sectors 33 to 63, on the right sectors 1 to 31 (RULES 11.1)
pub record Zones : Type 0 where
  pub left : (c : ℕ) →
      (in_zone_of sectors (left_zone sectors) c ≡ true) ↔ ((ring_of sectors c ≤ 5) × (33 ≤ sector_of sectors c) × (sector_of sectors c ≤ 63))
  pub right : (c : ℕ) →
      (in_zone_of sectors (right_zone sectors) c ≡ true) ↔ ((ring_of sectors c ≤ 5) × (1 ≤ sector_of sectors c) × (sector_of sectors c ≤ 31))

-- a cell that lights a lamp: it is in the lamp's zone, an end of a link of the window, and joined says no with every body cell (RULES 11.3)
pub record Lights (p : Implementation) (s : State) (h : History) (mask : Bytes) (zone : Zone) (c : ℕ) : Type 0 where
  pub inside : in_zone_of sectors zone c ≡ true
  pub linked : (d : ℕ) × Linked c d (window_of h)
  pub free : (b : ℕ) → b < cells → is_body mask b ≡ true → (p.joined_gives s.book c b).yes ≡ false

-- a lamp is lit exactly when some cell lights it, and then it tells the smallest such cell; the cell of a dark lamp is 0 (RULES 11.4)
pub record LampIs (p : Implementation) (s : State) (h : History) (mask : Bytes) (zone : Zone) (is_lit : Bool) (cell : ℕ) : Type 0 where
  pub lit : (is_lit ≡ true) ↔ ((c : ℕ) × Lights p s h mask zone c)
  pub smallest : is_lit ≡ true → Lights p s h mask zone cell × ((c : ℕ) → Lights p s h mask zone c → cell ≤ c)
  pub dark : is_lit ≡ false → cell ≡ 0
  -- where nothing is bodywork, some cell of the zone is an end of a link (RULES 11.5)
  pub bare : ((b : ℕ) → b < cells → get_or mask b 0 ≡ 0) →
      (is_lit ≡ true) ↔ ((c : ℕ) × (in_zone_of sectors zone c ≡ true) × ((d : ℕ) × Linked c d (window_of h)))

-- the lamps: the number is 0 or 15, and 15 exactly when the mask is under 1,024 bytes or has another value than 0 and 1 among the first
-- 1,024 (RULES 11.2, 7.2); with 0 both lamps are as the history says
pub record Lamps (p : Implementation) : Type 0 where
  pub zones : Zones
  pub number : AfterCalls p λ s h. (mask : Bytes) → (gives_lamps p s mask).number ≡ unless (is_mask_of cells mask) 15
  pub fifteen : AfterCalls p λ s h. (mask : Bytes) →
      ((gives_lamps p s mask).number ≡ 15) ↔ ((length mask < cells) ⊎ ((i : ℕ) × (i < cells) × (1 < get_or mask i 0)))
  pub left : AfterCalls p λ s h. (mask : Bytes) → is_mask_of cells mask ≡ true →
      LampIs p s h mask (left_zone sectors) (gives_lamps p s mask).left (gives_lamps p s mask).left_cell
  pub right : AfterCalls p λ s h. (mask : Bytes) → is_mask_of cells mask ≡ true →
      LampIs p s h mask (right_zone sectors) (gives_lamps p s mask).right (gives_lamps p s mask).right_cell

-- a book that was never opened: all but playing give 1, whatever the log; playing gives it at record 0, where there is one, and its
-- open slide and its time are 0 (RULES 7.8). A file that the reader refuses is not played (FilesRefused)
pub record NeverOpened : Type 0 where
  pub link : (log : Log) (tick one other : ℕ) → (link_of never_opened_of log tick one other).number ≡ 1
  pub clock : (log : Log) (tick : ℕ) → (clock_of never_opened_of log tick).number ≡ 1
  pub joined : (one other : ℕ) → (joined_of never_opened_of one other).number ≡ 1
  pub chain : (log chain : List ℕ) (one other : ℕ) → (chain_of never_opened_of log chain one other).answer.number ≡ 1
  pub groups : (log first size hold : List ℕ) → (groups_given never_opened_of log first size hold).answer.number ≡ 1
  pub lamps : (log : Log) (mask : Bytes) → (lamps_of never_opened_of log mask).number ≡ 1
  pub play : (file : Bytes) (log : Log) → read_number_of file ≡ 0 →
      play_of file never_opened_of log ≡ record { book = never_opened_of; log = log; number = unless (eqb (read_of file).m 0) 1; taken = 0 }
  pub open_slide_lem : open_slide_of never_opened_of.clock ≡ 0
  pub time : time_of never_opened_of.clock ≡ 0
