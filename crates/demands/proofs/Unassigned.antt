-- Number 8 is unassigned: a call gives 0 or the number of one of its checks, and no check of any call has that number. Playing gives the
-- reader's number, or that of a record's link call.
use Prim.Native.Nat.{ℕ, ◌+◌, ◌*◌}
use mathlib.Core.Path.{◌≡◌, refl, sym, ◌∙◌, ap}
use mathlib.Core.Bool.{Bool, false, ◌&&◌}
use mathlib.Core.List.{List, [], ◌∷◌}
use native.Mathlib.Omega.{arith}
use native.Mathlib.Decide.{ℕ_discrete}
use lib.Dec.{eqb, leb, ltb}
use lib.ListN.{length}
use Rattle.numbers.specs.Checks.{first_of, unless, has}
use Rattle.numbers.proofs.Checks.{never_checked, never_first, never_asked, never_last}
use Rattle.settings.specs.Settings.{in_range}
use Rattle.settings.specs.declared.Settings.{Settings}
use Rattle.cells.specs.Touching.{touch}
use Rattle.slides.specs.Clock.{not_before_of, slide_of}
use Rattle.book_state.specs.declared.Book.{Book}
use Rattle.book_state.specs.Arrays.{cells}
use Rattle.book_state.specs.Log.{stored}
use Rattle.book_state.specs.Numbers.{log_places, are_cells_of}
use Rattle.book_state.specs.Order.{in_order_of}
use Rattle.book_joined.specs.Joined.{joined_number_of}
use Rattle.book.specs.Calls.{opening_number_of, link_number_of, clock_number_of}
use Rattle.chain.specs.Chain.{chain_places, label_of, chain_number}
use Rattle.groups.specs.Call.{groups_number_in}
use Rattle.lamps.specs.Lamps.{lamps_number_in}
use Rattle.lamps.specs.Mask.{is_mask_of}
use Rattle.file.specs.Layout.{settings_of_lem}
use Rattle.file.specs.Format.{ending, length_fits_of, letters_stand_of, offset_agrees_of, pads_zero_of, read_number_of}
use Rattle.file_write.specs.Writer.{write_number}
use Rattle.file_write.proofs.Laws.{write_never}
use Rattle.file_play.specs.Play.{play_from, play_of}
use Rattle.listing.specs.Listing.{output_places, listing_of}
use Rattle.text_list.specs.Reading.{keeping}
use Rattle.text_list.specs.Call.{file_text, text_in_number, text_out_number}
use Rattle.text_list.proofs.Calls.{in_number, out_number}
use Rattle.demands.specs.History.{Call, opening, link, clock}
use Rattle.demands.specs.Implementation.{ours, State, gives}
use Rattle.demands.specs.Demands.{unassigned, Unassigned}
use Rattle.demands.proofs.NumbersAgree.{opening_gives_lem, link_gives_lem, clock_gives_lem, joined_gives_lem, chain_gives_lem}
use Rattle.demands.proofs.LampsAre.{lamps_gives_lem}
use Rattle.demands.proofs.FilesRefused.{read_gives, groups_gives, list_gives, unpack_gives, play_read, files_refused}

abbrev Assigned : ℕ → Type 0
Assigned k = k ≡ unassigned → ⊥

same : {j k : ℕ} → j ≡ k → Assigned k → Assigned j
same e assigned is = assigned (sym e ∙ is)

-- a check, and those after it
asks : (t : Bool) (k : ℕ) (ks : List ℕ) → eqb k unassigned ≡ false → Assigned (first_of ks) → Assigned (first_of (unless t k ∷ ks))
asks = never_asked unassigned refl

done : Assigned (first_of [])
done = never_last unassigned refl

-- ---- calls to a book

opening_number_lem : (s : Settings) (log : List ℕ) → Assigned (opening_number_of s log)
unfolding opening_number_of
opening_number_lem s log = asks (in_range s.n s.b s.mounting) 2 _ refl (asks (has log_places log) 6 _ refl done)

link_number_lem : (b : Book) (log : List ℕ) (tick one other : ℕ) → Assigned (link_number_of b log tick one other)
unfolding link_number_of
link_number_lem b log tick one other =
    asks (in_order_of b) 1 _ refl
    (asks (has log_places log) 6 _ refl
    (asks (are_cells_of one other) 3 _ refl
    (asks (touch one other) 14 _ refl
    (asks (not_before_of b.clock tick) 4 _ refl (asks (ltb (stored b (slide_of b.clock tick)) 256) 5 _ refl done)))))

clock_number_lem : (b : Book) (log : List ℕ) (tick : ℕ) → Assigned (clock_number_of b log tick)
unfolding clock_number_of
clock_number_lem b log tick =
    asks (in_order_of b) 1 _ refl (asks (has log_places log) 6 _ refl (asks (not_before_of b.clock tick) 4 _ refl done))

call_number : (s : State) (c : Call) → Assigned (gives ours s c).number
unfolding gives
call_number s (opening settings) = same (opening_gives_lem s.book s.log settings) (opening_number_lem settings s.log)
call_number s (link tick one other) = same (link_gives_lem s.book s.log tick one other) (link_number_lem s.book s.log tick one other)
call_number s (clock tick) = same (clock_gives_lem s.book s.log tick) (clock_number_lem s.book s.log tick)

joined_number : (b : Book) (one other : ℕ) → Assigned (joined_number_of b one other)
unfolding joined_number_of
joined_number b one other = asks (in_order_of b) 1 _ refl (asks (are_cells_of one other) 3 _ refl done)

chain_number_lem : (b : Book) (log chain : List ℕ) (one other : ℕ) → Assigned (chain_number b log chain one other)
unfolding chain_number
chain_number_lem b log chain one other =
    asks (in_order_of b) 1 _ refl
    (asks (has log_places log && has chain_places chain) 6 _ refl
    (asks (are_cells_of one other) 3 _ refl (asks (ltb 0 (label_of b.clock b.counts log one other)) 7 _ refl done)))

lamps_number : (ordered : Bool) (log mask : List ℕ) → Assigned (lamps_number_in ordered log mask)
lamps_number ordered log mask = asks ordered 1 _ refl (asks (has log_places log) 6 _ refl (asks (is_mask_of cells mask) 15 _ refl done))

groups_number : (ordered : Bool) (log first size hold : List ℕ) → Assigned (groups_number_in ordered log first size hold)
groups_number ordered log first size hold =
    asks ordered 1 _ refl
    (asks (has log_places log) 6 _ refl
    (asks (has cells first) 6 _ refl (asks (has cells size) 6 _ refl (asks (has cells hold) 6 _ refl done))))

-- ---- files and texts

read_number : (file : List ℕ) → Assigned (read_number_of file)
unfolding read_number_of
read_number file =
    let end = ending file in
    let s = settings_of_lem end in
    asks (length_fits_of (length file)) 9 _ refl
    (asks (letters_stand_of end) 10 _ refl
    (asks (offset_agrees_of end (length file)) 11 _ refl
    (asks (pads_zero_of end) 12 _ refl (asks (in_range s.n s.b s.mounting) 2 _ refl done))))

write_number_lem : (s : Settings) (bytes room : ℕ) → Assigned (write_number s bytes room)
write_number_lem = write_never unassigned refl refl refl refl

text_in_number_lem : (s : Settings) (lines : List (List ℕ)) (room : ℕ) → Assigned (text_in_number s lines room)
unfolding text_in_number write_number
text_in_number_lem s lines room = asks (eqb (keeping lines) (length lines)) 13 _ refl (write_number_lem s (8 * length lines) room)

text_out_number_lem : (file : List ℕ) (room : ℕ) → Assigned (text_out_number file room)
unfolding text_out_number
text_out_number_lem file room = never_first unassigned refl (read_number_of file) _ (read_number file) (asks (leb (length (file_text file)) room) 6 _ refl done)

-- playing stops at a record that its link call refuses
records_number : (file : List ℕ) (m : ℕ) (b : Book) (log : List ℕ) → Assigned (play_from file 0 m b log).number
records_number file m b log e =
    let stopped = files_refused.play file m b log (λ z. omega arith) in
    same (link_gives_lem _ _ _ _ _) (link_number_lem _ _ _ _ _) (stopped.number ∙ e)

play_number : (file : List ℕ) (b : Book) (log : List ℕ) → Assigned (play_of file b log).number
play_number file b log = go (ℕ_discrete (read_number_of file) 0)
  where
    go : Dec (read_number_of file ≡ 0) → Assigned (play_of file b log).number
    go (yes taken) = same (ap (λ p. p.number) (play_read file b log taken)) (records_number file _ b log)
    go (no refused) = same (ap (λ p. p.number) (files_refused.unread file b log refused)) (read_number file)

pub eight_unassigned : Unassigned ours
unfolding listing_of
eight_unassigned =
    record {
      calls = call_number;
      joined = λ b one other. same (joined_gives_lem b one other) (joined_number b one other);
      chain = λ s chain one other. same (chain_gives_lem s.book s.log chain one other) (chain_number_lem s.book s.log chain one other);
      lamps = λ s mask. same (lamps_gives_lem s.book s.log mask) (lamps_number (in_order_of s.book) s.log mask);
      groups = λ b log first size hold. same (groups_gives b log first size hold) (groups_number (in_order_of b) log first size hold);
      read = λ file. same (read_gives file) (read_number file);
      write = write_number_lem;
      play = play_number;
      pack = λ room. never_checked unassigned refl (leb 8 room) 6 refl;
      unpack = λ records i. let whole = leb (8 * i + 8) (length records) in same (unpack_gives whole records i) (never_checked unassigned refl whole 9 refl);
      list = λ file out. let room = leb output_places (length out) in same (list_gives room _ out) (never_checked unassigned refl room 6 refl);
      text_in = λ s text out. same (in_number s text out) (text_in_number_lem s _ (length out));
      text_out = λ file out. same (out_number file out) (text_out_number_lem file (length out));
    }
