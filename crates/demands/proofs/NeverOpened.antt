-- A book that was never opened is not in order, so every call over it whose first check is number 1 gives 1 (the crates below), and
-- playing stops at record 0 with the link call's number.
use Prim.Native.Nat.{ℕ, zero, suc}
use mathlib.Core.Path.{◌≡◌, refl, ap, ◌∙◌}
use mathlib.Core.List.{List}
use native.Mathlib.Omega.{arith}
use lib.Dec.{eqb}
use borrow.Author.Tests.{ne_eqb}
use Rattle.numbers.specs.Checks.{unless}
use Rattle.numbers.proofs.Checks.{fails}
use Rattle.slides.specs.Counter.{counter_at_of}
use Rattle.slides.specs.Clock.{open_slide_of}
use Rattle.book_state.specs.Order.{never_opened_of, in_order_of}
use Rattle.book_state.proofs.Checks.{never_in_order}
use Rattle.book_joined.proofs.Never.{never_joined}
use Rattle.book.specs.Calls.{link_by_number, link_of}
use Rattle.book.proofs.Taken.{never_link, never_clock}
use Rattle.chain.proofs.Never.{never_chain}
use Rattle.file.specs.Layout.{tick_at, one_at, other_at}
use Rattle.file.specs.Format.{read_of}
use Rattle.file_play.specs.Play.{play_from, play_by_number, record_gives}
use Rattle.groups.specs.Call.{groups_number_in}
use Rattle.lamps.specs.Lamps.{lamps_number_in}
use Rattle.demands.specs.Demands.{NeverOpened}
use Rattle.demands.proofs.NumbersAgree.{link_gives_lem, clock_gives_lem, joined_gives_lem, chain_gives_lem}
use Rattle.demands.proofs.FilesRefused.{groups_gives, play_read}
use Rattle.demands.proofs.LampsAre.{lamps_gives_lem}

never_groups : (log first size hold : List ℕ) → groups_number_in (in_order_of never_opened_of) log first size hold ≡ 1
never_groups log first size hold = fails 0 _ never_in_order

never_lamps : (log mask : List ℕ) → lamps_number_in (in_order_of never_opened_of) log mask ≡ 1
never_lamps log mask = fails 0 _ never_in_order

-- the link call of any record
never_record : (file : List ℕ) (i : ℕ) (log : List ℕ) → record_gives file i never_opened_of log ≡ record { book = never_opened_of; log = log; number = 1 }
unfolding link_of link_by_number
never_record file i log =
    ap (λ k. link_by_number k never_opened_of log (tick_at file i) (one_at file i) (other_at file i)) (never_link log (tick_at file i) (one_at file i) (other_at file i))

never_play : (file : List ℕ) (m : ℕ) (log : List ℕ) →
    play_from file 0 m never_opened_of log ≡ record { book = never_opened_of; log = log; number = unless (eqb m 0) 1; taken = 0 }
unfolding play_from play_by_number
never_play file zero log = refl
never_play file (suc m) log = rw (never_record file 0 log, ne_eqb (suc m) 0 (λ e. omega arith))

pub never_opened_lem : NeverOpened
unfolding open_slide_of counter_at_of never_opened_of
never_opened_lem =
    record {
      link = λ log tick one other. link_gives_lem _ _ _ _ _ ∙ never_link log tick one other;
      clock = λ log tick. clock_gives_lem _ _ _ ∙ never_clock log tick;
      joined = λ one other. joined_gives_lem _ _ _ ∙ never_joined one other;
      chain = λ log chain one other. chain_gives_lem never_opened_of log chain one other ∙ never_chain log chain one other;
      groups = λ log first size hold. groups_gives _ _ _ _ _ ∙ never_groups log first size hold;
      lamps = λ log mask. lamps_gives_lem _ _ _ ∙ never_lamps log mask;
      play = λ file log e. play_read file never_opened_of log e ∙ never_play file (read_of file).m log;
      open_slide_lem = refl;
      time = refl;
    }
