-- The demands of the code itself: what each exported routine gives when it is called with anything at all, said of the arguments, the
-- result and the lent memory afterwards (a name with a stroke). The code meets its contract, and the contract says what the definition
-- says (the crate pledges); so the code meets what is proved of the definitions.
use Rattle.std.specs.Prelude.{ℕ, ◌+◌, ◌*◌, ◌/◌, ◌%◌, ◌≤◌, ◌<◌, ◌≡◌, true, false, List, ◌↔◌, ◌⊎◌, leb, length, get_or, take}
use Rattle.numbers.specs.Checks.{unless, has}
use Rattle.numbers.specs.Front.{at_front}
use Rattle.numbers.specs.Kinds.{Bytes, Log}
use Rattle.graph.specs.Link.{Chained}
use Rattle.settings.specs.declared.Settings.{Settings}
use Rattle.cells.specs.Cell.{sectors}
use Rattle.cells.specs.Touching.{touch}
use Rattle.slides.specs.Counter.{tick_limit}
use Rattle.book_state.specs.declared.Book.{Book}
use Rattle.book_state.specs.Arrays.{cells}
use Rattle.book_state.specs.Numbers.{are_cells_of}
use Rattle.book_state.specs.Order.{in_order_of}
use Rattle.book_joined.specs.Joined.{joined_number_of}
use Rattle.book.specs.Calls.{opening_number_of, link_number_of, clock_number_of}
use Rattle.chain.specs.Chain.{chain_places, chain_number}
use Rattle.groups.specs.Call.{GroupsOutcome, groups_number_in}
use Rattle.lamps.specs.declared.LampsAnswer.{LampsAnswer}
use Rattle.lamps.specs.Lamps.{lamps_number_in}
use Rattle.lamps.specs.Mask.{is_mask_of}
use Rattle.lamps.specs.Zones.{left_zone, right_zone}
use Rattle.file.specs.Layout.{AreBytes, FitsFields, ending_size, record_count}
use Rattle.file.specs.Format.{read_number_of, read_of}
use Rattle.file_write.specs.Writer.{write_number, output_of}
use Rattle.file_record.specs.Record.{pack_number}
use Rattle.listing.specs.Listing.{listing_text, output_places}
use Rattle.text_list.specs.declared.TextInAnswer.{TextInAnswer}
use Rattle.text_list.specs.Text.{Record, bytes_of}
use Rattle.text_list.specs.Reading.{lines_of}
use Rattle.text_list.specs.Call.{TextIn, text_in_number, text_in_of, TextOut, text_out_number, text_out_of}
use Rattle.text_list.specs.Promises.{IsTextOf, Taken, BreaksAt}
use Rattle.pledges.specs.Exported.{Exported, Definition, Met, Pledged, CodeMeets, Gives}
use Rattle.pledges.specs.Calls.{opening_call, link_call, clock_call, play_call, joined_call, chain_call, groups_call, lamps_call, time_call, open_slide_call, read_call, write_call, list_call, text_in_call, text_out_call, pack_call, unpack_call}
use Rattle.pledges.specs.Pledges.{with1, with2, with3, with4, with5, EachCall}
use Rattle.demands.specs.History.{Call, opening, link, clock, History, number_in, latest_in, total_in, window_of}
use Rattle.demands.specs.Implementation.{ours, State, after}
use Rattle.demands_listing.specs.Listed.{Plays, groups_outcome_in, Prints}
use Rattle.demands.specs.Demands.{room_in, HasHistory, Stopped, steps_in, Fits, Answers, unassigned, TooEarly, LampIs}

-- 1. an exported call ends: called with anything, its code ends, touches no memory but its own and what is lent to it, and gives what
-- the definition says
pub record Ends (f : Exported) (definition : Definition f) : Type 2 where
  -- the code meets the contract, the contract says what the definition says
  pub met : Met f
  pub pledged : Pledged f definition
  -- so what is returned and what is left are the definition's
  pub code : CodeMeets f (Gives f definition)

abbrev pub CodeEnds : Type 2
CodeEnds = EachCall Ends

-- with a number that is not 0
abbrev pub Refusing : (number : ℕ) (unchanged : Type 0) → Type 0
Refusing number unchanged = (number ≡ 0 → ⊥) → unchanged

-- 1. the number is the table's (RULES 7.2), for every input, and a call that is refused changes nothing that it was lent and answers
-- with 0 in the other fields (RULES 7.4). Playing alone keeps the records before the one that is refused (RULES 6.7)
pub record CodeRefuses : Type 2 where
  pub kerb_opening_lem : CodeMeets opening_call λ κs a r e. with3 a λ book log s. with3 e λ book' log' s'.
      (r ≡ opening_number_of s log.now) × Refusing r ((book'.now ≡ book.now) × (log'.now ≡ log.now))
  pub kerb_link_lem : CodeMeets link_call λ κs a r e. with5 a λ book log tick one other. with5 e λ book' log' tick' one' other'.
      (r ≡ link_number_of book.now log.now tick one other) × Refusing r ((book'.now ≡ book.now) × (log'.now ≡ log.now))
  pub kerb_clock_lem : CodeMeets clock_call λ κs a r e. with3 a λ book log tick. with3 e λ book' log' tick'.
      (r ≡ clock_number_of book.now log.now tick) × Refusing r (book'.now ≡ book.now)
  pub kerb_joined_lem : CodeMeets joined_call λ κs a r e. with3 a λ book one other.
      (r.number ≡ joined_number_of book.now one other) × Refusing r.number (r ≡ record { number = r.number; yes = false; steps = 0 })
  pub kerb_chain_lem : CodeMeets chain_call λ κs a r e. with5 a λ book log one other chain. with5 e λ book' log' one' other' chain'.
      (r.number ≡ chain_number book.now log.now chain.now one other)
      × Refusing r.number ((r ≡ record { newest = 0; cells = 0; hold = 0; number = r.number }) × (chain'.now ≡ chain.now))
  pub kerb_groups_lem : CodeMeets groups_call λ κs a r e. with5 a λ book log first size hold. with5 e λ book' log' first' size' hold'.
      (r.number ≡ groups_number_in (in_order_of book.now) log.now first.now size.now hold.now)
      × Refusing r.number
      ((r ≡ record { links = 0; number = r.number }) × (first'.now ≡ first.now) × (size'.now ≡ size.now) × (hold'.now ≡ hold.now))
  pub kerb_lamps_lem : CodeMeets lamps_call λ κs a r e. with3 a λ book log mask.
      (r.number ≡ lamps_number_in (in_order_of book.now) log.now mask.now)
      × Refusing r.number (r ≡ record { left_cell = 0; right_cell = 0; left = false; right = false; number = r.number })
  pub kerb_read_lem : CodeMeets read_call λ κs a r e. with1 a λ file.
      (r.number ≡ read_number_of file.now)
      × Refusing r.number (r ≡ record { settings = record { t0 = 0; b = 0; n = 0; mounting = 0 }; m = 0; number = read_number_of file.now })
  pub kerb_write_lem : CodeMeets write_call λ κs a r e. with3 a λ s records out. with3 e λ s' records' out'.
      (r ≡ write_number s (length records.now) (length out.now)) × Refusing r (out'.now ≡ out.now)
  pub kerb_list_lem : CodeMeets list_call λ κs a r e. with2 a λ file out. with2 e λ file' out'.
      (r.number ≡ unless (leb output_places (length out.now)) 6)
      × Refusing r.number ((r ≡ record { length = 0; number = r.number }) × (out'.now ≡ out.now))
  -- the line is told with 13 alone
  pub kerb_text_in_lem : CodeMeets text_in_call λ κs a r e. with3 a λ s text out. with3 e λ s' text' out'.
      (r.number ≡ text_in_number s (lines_of text.now) (length out.now))
      × Refusing r.number ((r.length ≡ 0) × ((r.number ≡ 13 → ⊥) → r.line ≡ 0) × (out'.now ≡ out.now))
  pub kerb_text_out_lem : CodeMeets text_out_call λ κs a r e. with2 a λ file out. with2 e λ file' out'.
      (r.number ≡ text_out_number file.now (length out.now))
      × Refusing r.number ((r ≡ record { length = 0; number = r.number }) × (out'.now ≡ out.now))
  pub kerb_pack_lem : CodeMeets pack_call λ κs a r e. with4 a λ tick one other out. with4 e λ tick' one' other' out'.
      (r ≡ pack_number (length out.now)) × Refusing r (out'.now ≡ out.now)
  pub kerb_unpack_lem : CodeMeets unpack_call λ κs a r e. with2 a λ records i.
      (r.number ≡ unless (leb (8 * i + 8) (length records.now)) 9)
      × Refusing r.number (r ≡ record { tick = 0; one = 0; other = 0; number = r.number })
  pub kerb_play_lem : CodeMeets play_call λ κs a r e. with3 a λ book log file. with3 e λ book' log' file'.
      Refusing (read_number_of file.now)
      ((r ≡ record { taken = 0; number = read_number_of file.now }) × (book'.now ≡ book.now) × (log'.now ≡ log.now))
      × (read_number_of file.now ≡ 0 → Refusing r.number
      (Stopped file.now 0 book.now log.now (record { book = book'.now; log = log'.now; number = r.number; taken = r.taken })))

-- the number is never the one that is unassigned, called with anything at all (RULES 7.1)
pub record CodeUnassigned : Type 2 where
  pub kerb_opening_lem : CodeMeets opening_call λ κs a r e. r ≡ unassigned → ⊥
  pub kerb_link_lem : CodeMeets link_call λ κs a r e. r ≡ unassigned → ⊥
  pub kerb_clock_lem : CodeMeets clock_call λ κs a r e. r ≡ unassigned → ⊥
  pub kerb_joined_lem : CodeMeets joined_call λ κs a r e. r.number ≡ unassigned → ⊥
  pub kerb_chain_lem : CodeMeets chain_call λ κs a r e. r.number ≡ unassigned → ⊥
  pub kerb_groups_lem : CodeMeets groups_call λ κs a r e. r.number ≡ unassigned → ⊥
  pub kerb_lamps_lem : CodeMeets lamps_call λ κs a r e. r.number ≡ unassigned → ⊥
  pub kerb_read_lem : CodeMeets read_call λ κs a r e. r.number ≡ unassigned → ⊥
  pub kerb_write_lem : CodeMeets write_call λ κs a r e. r ≡ unassigned → ⊥
  pub kerb_list_lem : CodeMeets list_call λ κs a r e. r.number ≡ unassigned → ⊥
  pub kerb_text_in_lem : CodeMeets text_in_call λ κs a r e. r.number ≡ unassigned → ⊥
  pub kerb_text_out_lem : CodeMeets text_out_call λ κs a r e. r.number ≡ unassigned → ⊥
  pub kerb_pack_lem : CodeMeets pack_call λ κs a r e. r ≡ unassigned → ⊥
  pub kerb_unpack_lem : CodeMeets unpack_call λ κs a r e. r.number ≡ unassigned → ⊥
  pub kerb_play_lem : CodeMeets play_call λ κs a r e. r.number ≡ unassigned → ⊥

-- calls have left this book and this log, and tell this history
pub record LeftByCalls (b : Book) (log : Log) (h : History) : Type 0 where
  pub start : State
  pub calls : List Call
  pub told : HasHistory start calls h
  pub left : after ours start calls ≡ record { book = b; log = log }

-- after any calls from an opening, the numbers are the history's (RULES 7.1, 7.8)
pub record CodeTable : Type 2 where
  pub kerb_opening_lem : CodeMeets opening_call λ κs a r e. with3 a λ book log s.
      (h : History) → LeftByCalls book.now log.now h → r ≡ number_in (room_in (record { book = book.now; log = log.now })) h (opening s)
  pub kerb_link_lem : CodeMeets link_call λ κs a r e. with5 a λ book log tick one other.
      (h : History) → LeftByCalls book.now log.now h →
      (r ≡ number_in (room_in (record { book = book.now; log = log.now })) h (link tick one other))
      × ((r ≡ 14) ↔ ((are_cells_of one other ≡ true) × (touch one other ≡ false)))
  pub kerb_clock_lem : CodeMeets clock_call λ κs a r e. with3 a λ book log tick.
      (h : History) → LeftByCalls book.now log.now h → r ≡ number_in (room_in (record { book = book.now; log = log.now })) h (clock tick)
  pub kerb_joined_lem : CodeMeets joined_call λ κs a r e. with3 a λ book one other.
      (log : Log) (h : History) → LeftByCalls book.now log h → r.number ≡ unless (are_cells_of one other) 3

-- after any calls from an opening, number 4, the time and the open slide are those of the accepted ticks (RULES 2.3, 2.4)
pub record CodeTime : Type 2 where
  pub kerb_link_lem : CodeMeets link_call λ κs a r e. with5 a λ book log tick one other.
      (h : History) → LeftByCalls book.now log.now h → (r ≡ 4) ↔ ((are_cells_of one other ≡ true) × (touch one other ≡ true) × TooEarly h tick)
  pub kerb_clock_lem : CodeMeets clock_call λ κs a r e. with3 a λ book log tick.
      (h : History) → LeftByCalls book.now log.now h → (r ≡ 4) ↔ TooEarly h tick
  pub kerb_time_lem : CodeMeets time_call λ κs a r e. with1 a λ book.
      (log : Log) (h : History) → LeftByCalls book.now log h → r ≡ latest_in h % tick_limit
  pub kerb_open_slide_lem : CodeMeets open_slide_call λ κs a r e. with1 a λ book.
      (log : Log) (h : History) → LeftByCalls book.now log h → r ≡ total_in h / h.clock.b

-- 2. joined, and the steps (RULES 4.4, 3.13)
abbrev pub CodeJoined : Type 2
CodeJoined =
    CodeMeets joined_call λ κs a r e. with3 a λ book one other.
    (log : Log) (h : History) → LeftByCalls book.now log h → are_cells_of one other ≡ true →
    ((r.yes ≡ true) ↔ Chained (window_of h) one other)
    × (r.steps ≡ steps_in h one other)
    × (r.steps ≤ 40)

-- 2. text in: taken exactly when the text is that of some records, 8,000 at most, and then what is written is what the writer writes for
-- them; 13 with line i exactly when that line is the first that breaks the form (RULES 6.12, 6.13). What text out put out, brought in
-- with the settings that the reader gives, is the file again (RULES 6.15)
pub record TextTaken (s : Settings) (text out : Bytes) (answer : TextInAnswer) (out' : Bytes) : Type 0 where
  pub taken : (answer.number ≡ 0) ↔ Taken s text (length out)
  pub written : (rs : List Record) → IsTextOf rs text →
      (answer.number ≡ write_number s (length (bytes_of rs)) (length out)) × (out' ≡ output_of s (bytes_of rs) out)
      × (answer.number ≡ 0 → answer.length ≡ 8 * length rs + ending_size)
  pub breaks : (i : ℕ) → ((answer.number ≡ 13) × (answer.line ≡ i)) ↔ BreaksAt i text
  pub again : (file before : Bytes) → AreBytes file →
      let given : TextOut = text_out_of file before in
      given.answer.number ≡ 0 → length file ≤ length out → s ≡ (read_of file).settings → text ≡ take given.answer.length given.output →
      (answer ≡ record { length = length file; line = 0; number = 0 }) × (out' ≡ at_front file out)

-- 2. link files: the reader, on what the writer wrote, and the writer, on what the reader took (RULES 6.5); and text lists, text out on what
-- text in wrote (RULES 6.15)
pub record CodeFiles : Type 2 where
  pub kerb_read_lem : CodeMeets read_call λ κs a r e. with1 a λ file.
      (s : Settings) (records out : Bytes) → FitsFields s → write_number s (length records) (length out) ≡ 0 →
      file.now ≡ take (8 * record_count (length records) + ending_size) (output_of s records out) →
      r ≡ record { settings = s; m = record_count (length records); number = 0 }
  pub kerb_write_lem : CodeMeets write_call λ κs a r e. with3 a λ s records out. with3 e λ s' records' out'.
      (file : Bytes) → AreBytes file → (read_of file).number ≡ 0 → length file ≤ length out.now →
      s ≡ (read_of file).settings → records.now ≡ take (8 * (read_of file).m) file → (r ≡ 0) × (out'.now ≡ at_front file out.now)
  pub kerb_text_in_lem : CodeMeets text_in_call λ κs a r e. with3 a λ s text out. with3 e λ s' text' out'.
      TextTaken s text.now out.now r out'.now
  pub kerb_text_out_lem : CodeMeets text_out_call λ κs a r e. with2 a λ file out. with2 e λ file' out'.
      (s : Settings) (text before : Bytes) → FitsFields s →
      let given : TextIn = text_in_of s text before in
      given.answer.number ≡ 0 → length text ≤ length out.now → file.now ≡ take given.answer.length given.output →
      (r ≡ record { length = length text; number = 0 }) × (out'.now ≡ at_front text out.now)

-- 3. chain (RULES 5), by the history; and that a chain fits, from an altered book and log too
pub record CodeChain : Type 2 where
  pub answers : CodeMeets chain_call λ κs a r e. with5 a λ book log one other chain. with5 e λ book' log' one' other' chain'.
      (h : History) → LeftByCalls book.now log.now h → has chain_places chain.now ≡ true → are_cells_of one other ≡ true →
      Answers ours (record { book = book.now; log = log.now }) h chain.now one other (record { answer = r; chain = chain'.now })
  pub fits : CodeMeets chain_call λ κs a r e. with5 e λ book' log' one' other' chain'. r.number ≡ 0 → Fits (record { answer = r; chain = chain'.now })

-- both lamps (RULES 11): each is lit exactly when its zone has a cell that is an end of a link of the history's window and for which joined
-- says no with every body cell, and tells the smallest; 15 exactly when the mask is none
pub record LampsAnswered (book : Book) (log : Log) (h : History) (mask : Bytes) (answer : LampsAnswer) : Type 0 where
  pub fifteen : (answer.number ≡ 15) ↔ ((length mask < cells) ⊎ ((i : ℕ) × (i < cells) × (1 < get_or mask i 0)))
  pub number : answer.number ≡ unless (is_mask_of cells mask) 15
  pub left : is_mask_of cells mask ≡ true → LampIs ours (record { book = book; log = log }) h mask (left_zone sectors) answer.left answer.left_cell
  pub right : is_mask_of cells mask ≡ true → LampIs ours (record { book = book; log = log }) h mask (right_zone sectors) answer.right answer.right_cell

abbrev pub CodeLamps : Type 2
CodeLamps =
    CodeMeets lamps_call λ κs a r e. with3 a λ book log mask.
    (h : History) → LeftByCalls book.now log.now h → LampsAnswered book.now log.now h mask.now r

-- playing, the groups and the listing (RULES 6.6, 8), by the history: the listing's text is said of it by `Prints` (Listed)
pub record CodeListed : Type 2 where
  pub kerb_play_lem : CodeMeets play_call λ κs a r e. with3 a λ book log file. with3 e λ book' log' file'.
      (h : History) → LeftByCalls book.now log.now h →
      Plays file.now (record { book = book.now; log = log.now }) h
      (record { book = book'.now; log = log'.now; number = r.number; taken = r.taken })
  pub kerb_groups_lem : CodeMeets groups_call λ κs a r e. with5 a λ book log first size hold. with5 e λ book' log' first' size' hold'.
      (h : History) → LeftByCalls book.now log.now h →
      ◌≡◌ {A = GroupsOutcome} (record { answer = r; first = first'.now; size = size'.now; hold = hold'.now })
      (groups_outcome_in h first.now size.now hold.now)
  pub kerb_list_lem : CodeMeets list_call λ κs a r e. with2 a λ file out. with2 e λ file' out'. r.number ≡ 0 →
      (r.length ≡ length (listing_text file.now)) × (out'.now ≡ at_front (listing_text file.now) out.now) × Prints file.now
