-- The code meets the demands. It gives what the definitions say (Ends), so each demand is one on a definition's result, and is proved of
-- the definitions in the crates demands and demands_listing. A book and a log that calls have left agree with the history (Keeps, of
-- demands), and what is demanded of them is what is proved of such a state.
use Prim.Native.Nat.{ℕ, ◌/◌, ◌%◌}
use mathlib.Core.Path.{◌≡◌, refl, ap, ◌∙◌, subst, subst⁻¹}
use mathlib.Core.Bool.{Bool, true, false}
use mathlib.Core.List.{List}
use mathlib.Core.Logic.{◌↔◌}
use native.Mathlib.Omega.{arith}
use lib.ListN.{length}
use Rattle.numbers.specs.Front.{at_front}
use Rattle.cells.specs.Touching.{touch}
use Rattle.slides.specs.Counter.{tick_limit}
use Rattle.slides.specs.Clock.{time_of, open_slide_of}
use Rattle.book_state.specs.declared.Book.{Book}
use Rattle.book_state.specs.Numbers.{are_cells_of}
use Rattle.file.specs.Format.{read_of}
use Rattle.file_play.specs.Play.{Play}
use Rattle.file_play.specs.declared.PlayAnswer.{PlayAnswer}
use Rattle.file_write.proofs.Files.{written_then_read, read_then_written}
use Rattle.listing.specs.Listing.{listed_if, listing_of}
use Rattle.text_list.proofs.Calls.{in_number, out_number}
use Rattle.text_list.proofs.Texts.{texts}
use Rattle.demands.specs.History.{opening, link, clock, History, open_slide_in, latest_in, total_in}
use Rattle.demands.specs.Implementation.{ours, State, gives}
use Rattle.demands.specs.Agrees.{Agrees}
use Rattle.demands.specs.Demands.{AfterCalls, Stopped, TooEarly}
use Rattle.demands.proofs.Refused.{refused}
use Rattle.demands.proofs.FilesRefused.{read_gives, groups_gives, list_gives, unpack_gives, play_read, files_refused}
use Rattle.demands.proofs.NumbersAgree.{opening_gives_lem, link_gives_lem, clock_gives_lem, joined_gives_lem, chain_gives_lem, number_agrees, asked_agrees}
use Rattle.demands.proofs.TimeIs.{time}
use Rattle.demands.proofs.Touching.{apart_agrees}
use Rattle.demands.proofs.Unassigned.{eight_unassigned}
use Rattle.demands.proofs.Keeps.{keeps}
use Rattle.demands.proofs.JoinedIs.{joined_window, joined_steps, joined_few}
use Rattle.demands.proofs.ChainFits.{fits}
use Rattle.demands.proofs.ChainIs.{answers}
use Rattle.demands.proofs.LampsAre.{lamps_gives_lem, lamps_number, lamps_fifteen, left_told, right_told}
use Rattle.demands_listing.proofs.ListedCalls.{plays_told}
use Rattle.demands_listing.proofs.ListedGroups.{groups_told}
use Rattle.demands_listing.proofs.ListedPrints.{prints_told}
use Rattle.promises.specs.Routines.{CodeRefuses, CodeUnassigned, LeftByCalls, CodeTable, CodeTime, CodeJoined, CodeFiles, CodeChain, CodeLamps, CodeListed}
use Rattle.promises.proofs.Ends.{code_ends, demanded}

abbrev answer_of : Play → PlayAnswer
answer_of p = record { taken = p.taken; number = p.number }

-- ---- a book and a log that calls have left

-- what holds after calls holds of them
left : (holds : State → History → Type 0) → AfterCalls ours holds → {b : Book} {log : List ℕ} {h : History} → LeftByCalls b log h → holds (record { book = b; log = log }) h
left holds all {h = h} l = subst (λ s. holds s h) l.left (all l.start l.calls h l.told)

left_agrees : {b : Book} {log : List ℕ} {h : History} → LeftByCalls b log h → Agrees h (record { book = b; log = log })
left_agrees = left (λ s h. Agrees h s) keeps

pub code_refuses : CodeRefuses
unfolding gives listing_of
code_refuses =
    record {
      kerb_opening_lem = demanded code_ends.kerb_opening_lem λ κs a.
          (opening_gives_lem _ _ _, refused.kept (record { book = a.0.now; log = a.1.0.now }) (opening a.1.1.0));
      kerb_link_lem = demanded code_ends.kerb_link_lem λ κs a.
          (link_gives_lem _ _ _ _ _, refused.kept (record { book = a.0.now; log = a.1.0.now }) (link a.1.1.0 a.1.1.1.0 a.1.1.1.1.0));
      kerb_clock_lem = demanded code_ends.kerb_clock_lem λ κs a.
          (clock_gives_lem _ _ _, λ n. (refused.kept (record { book = a.0.now; log = a.1.0.now }) (clock a.1.1.0) n).0);
      kerb_joined_lem = demanded code_ends.kerb_joined_lem λ κs a. (joined_gives_lem _ _ _, refused.unanswered _ _ _);
      kerb_chain_lem = demanded code_ends.kerb_chain_lem λ κs a. (
        chain_gives_lem _ _ _ _ _,
        λ n. let e = refused.unchained (record { book = a.0.now; log = a.1.0.now }) _ _ _ n in (ap (λ o. o.answer) e, ap (λ o. o.chain) e),
      );
      kerb_groups_lem = demanded code_ends.kerb_groups_lem λ κs a. (
        groups_gives _ _ _ _ _,
        λ n. let e = files_refused.groups _ _ _ _ _ n in (ap (λ o. o.answer) e, ap (λ o. o.first) e, ap (λ o. o.size) e, ap (λ o. o.hold) e),
      );
      kerb_lamps_lem = demanded code_ends.kerb_lamps_lem λ κs a. (lamps_gives_lem _ _ _, refused.unlit (record { book = a.0.now; log = a.1.0.now }) _);
      kerb_read_lem = demanded code_ends.kerb_read_lem λ κs a. (read_gives _, λ n. files_refused.read _ (λ e. n (read_gives _ ∙ e)));
      kerb_write_lem = demanded code_ends.kerb_write_lem λ κs a. (refl, files_refused.write _ _ _);
      kerb_list_lem = demanded code_ends.kerb_list_lem λ κs a.
          (list_gives _ _ _, λ n. let e = files_refused.list _ _ n in (ap (λ o. o.answer) e, ap (λ o. o.output) e));
      kerb_text_in_lem = demanded code_ends.kerb_text_in_lem λ κs a. (in_number _ _ _, texts.in_refused _ _ _);
      kerb_text_out_lem = demanded code_ends.kerb_text_out_lem λ κs a. (
        out_number _ _,
        λ n. let e = texts.out_refused _ _ n in (ap (λ t. t.answer) e, ap (λ t. t.output) e),
      );
      kerb_pack_lem = demanded code_ends.kerb_pack_lem λ κs a. (refl, files_refused.pack _ _ _ _);
      kerb_unpack_lem = demanded code_ends.kerb_unpack_lem λ κs a. (unpack_gives _ _ _, files_refused.unpack a.0.now a.1.0);
      kerb_play_lem = demanded code_ends.kerb_play_lem λ κs a. (
        λ n. let e = files_refused.unread _ _ _ n in (ap answer_of e, ap (λ p. p.book) e, ap (λ p. p.log) e),
        λ z n. subst⁻¹ (λ p. (p.number ≡ 0 → ⊥) → Stopped a.1.1.0.now 0 a.0.now a.1.0.now p) (play_read _ _ _ z)
            (files_refused.play _ _ _ _) n,
      );
    }

pub code_unassigned : CodeUnassigned
unfolding gives
code_unassigned =
    record {
      kerb_opening_lem = demanded code_ends.kerb_opening_lem λ κs a.
          eight_unassigned.calls (record { book = a.0.now; log = a.1.0.now }) (opening a.1.1.0);
      kerb_link_lem = demanded code_ends.kerb_link_lem λ κs a.
          eight_unassigned.calls (record { book = a.0.now; log = a.1.0.now }) (link a.1.1.0 a.1.1.1.0 a.1.1.1.1.0);
      kerb_clock_lem = demanded code_ends.kerb_clock_lem λ κs a.
          eight_unassigned.calls (record { book = a.0.now; log = a.1.0.now }) (clock a.1.1.0);
      kerb_joined_lem = demanded code_ends.kerb_joined_lem λ κs a. eight_unassigned.joined _ _ _;
      kerb_chain_lem = demanded code_ends.kerb_chain_lem λ κs a. eight_unassigned.chain (record { book = a.0.now; log = a.1.0.now }) _ _ _;
      kerb_groups_lem = demanded code_ends.kerb_groups_lem λ κs a. eight_unassigned.groups _ _ _ _ _;
      kerb_lamps_lem = demanded code_ends.kerb_lamps_lem λ κs a. eight_unassigned.lamps (record { book = a.0.now; log = a.1.0.now }) _;
      kerb_read_lem = demanded code_ends.kerb_read_lem λ κs a. eight_unassigned.read _;
      kerb_write_lem = demanded code_ends.kerb_write_lem λ κs a. eight_unassigned.write _ _ _;
      kerb_list_lem = demanded code_ends.kerb_list_lem λ κs a. eight_unassigned.list _ _;
      kerb_text_in_lem = demanded code_ends.kerb_text_in_lem λ κs a. eight_unassigned.text_in _ _ _;
      kerb_text_out_lem = demanded code_ends.kerb_text_out_lem λ κs a. eight_unassigned.text_out _ _;
      kerb_pack_lem = demanded code_ends.kerb_pack_lem λ κs a. eight_unassigned.pack (length a.1.1.1.0.now);
      kerb_unpack_lem = demanded code_ends.kerb_unpack_lem λ κs a. eight_unassigned.unpack a.0.now a.1.0;
      kerb_play_lem = demanded code_ends.kerb_play_lem λ κs a. eight_unassigned.play _ _ _;
    }

pub code_table : CodeTable
unfolding gives
code_table =
    record {
      kerb_opening_lem = demanded code_ends.kerb_opening_lem λ κs a h l. number_agrees (left_agrees l) (opening _);
      kerb_link_lem = demanded code_ends.kerb_link_lem λ κs a h l. (number_agrees (left_agrees l) (link _ _ _), apart_agrees (left_agrees l) _ _ _);
      kerb_clock_lem = demanded code_ends.kerb_clock_lem λ κs a h l. number_agrees (left_agrees l) (clock _);
      kerb_joined_lem = demanded code_ends.kerb_joined_lem λ κs a log h l. asked_agrees (left_agrees l) _ _;
    }

pub code_time : CodeTime
unfolding gives
code_time =
    record {
      kerb_link_lem = demanded code_ends.kerb_link_lem λ κs a h l.
          left (λ s h. (tick one other : ℕ) → ((gives ours s (link tick one other)).number ≡ 4) ↔ ((are_cells_of one other ≡ true) × (touch one other ≡ true) × TooEarly h tick))
          time.link_four l _ _ _;
      kerb_clock_lem = demanded code_ends.kerb_clock_lem λ κs a h l.
          left (λ s h. (tick : ℕ) → ((gives ours s (clock tick)).number ≡ 4) ↔ TooEarly h tick) time.clock_four l _;
      kerb_time_lem = demanded code_ends.kerb_time_lem λ κs a log h l. left (λ s h. time_of s.book.clock ≡ latest_in h % tick_limit) time.time l;
      kerb_open_slide_lem = demanded code_ends.kerb_open_slide_lem λ κs a log h l.
          ap open_slide_of (left_agrees l).clock ∙ left (λ s h. open_slide_in h ≡ total_in h / h.clock.b) time.slide l;
    }

pub code_joined : CodeJoined
code_joined = demanded code_ends.kerb_joined_lem λ κs a log h l are.
    (joined_window (left_agrees l) _ _ are, joined_steps (left_agrees l) _ _ are, joined_few (left_agrees l) _ _)

pub code_files : CodeFiles
code_files =
    record {
      kerb_read_lem = demanded code_ends.kerb_read_lem λ κs a s records out fits e same. ap read_of same ∙ (written_then_read s records out fits e).0;
      kerb_write_lem = demanded code_ends.kerb_write_lem λ κs a file bytes e room s-is records-are.
          rw (s-is, records-are) (read_then_written file a.1.1.0.now bytes e room);
      kerb_text_in_lem = demanded code_ends.kerb_text_in_lem λ κs a. let out = a.1.1.0.now in
          record {
            taken = texts.taken _ _ out;
            written = λ rs is. texts.written _ rs _ out is;
            breaks = texts.breaks _ _ out;
            again = λ file before bytes e room s-is text_is.
                let given = texts.back file before out bytes e room in
                rw (s-is, text_is) (ap (λ t. t.answer) given, ap (λ t. t.output) given);
          };
      kerb_text_out_lem = demanded code_ends.kerb_text_out_lem λ κs a s text before fits e room file-is.
          let given = texts.there s text before a.1.0.now fits e room in
          rw file-is (ap (λ t. t.answer) given, ap (λ t. t.output) given);
    }

pub code_chain : CodeChain
code_chain =
    record {
      answers = demanded code_ends.kerb_chain_lem λ κs a h l places are. answers (left_agrees l) _ _ _ places are;
      fits = demanded code_ends.kerb_chain_lem λ κs a. fits (record { book = a.0.now; log = a.1.0.now }) _ _ _;
    }

pub code_lamps : CodeLamps
code_lamps = demanded code_ends.kerb_lamps_lem λ κs a h l.
    record {
      fifteen = lamps_fifteen (left_agrees l) _;
      number = lamps_number (left_agrees l) _;
      left = left_told (left_agrees l) _;
      right = right_told (left_agrees l) _;
    }

list_done : (t : Bool) (text out : List ℕ) → (listed_if t text out).answer.number ≡ 0 →
    ((listed_if t text out).answer.length ≡ length text) × ((listed_if t text out).output ≡ at_front text out)
unfolding listed_if
list_done true text out e = (refl, refl)
list_done false text out e = absurd (omega arith)

pub code_listing : CodeListed
unfolding listing_of
code_listing =
    record {
      kerb_play_lem = demanded code_ends.kerb_play_lem λ κs a h l. plays_told a.1.1.0.now (left_agrees l);
      kerb_groups_lem = demanded code_ends.kerb_groups_lem λ κs a h l. groups_told (left_agrees l) _ _ _;
      kerb_list_lem = demanded code_ends.kerb_list_lem λ κs a e. let done = list_done _ _ _ e in (done.0, done.1, prints_told a.0.now);
    }
