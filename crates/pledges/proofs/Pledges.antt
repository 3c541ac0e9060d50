-- The pledges: each contract is one claim, or two, and nothing is asked (by computation: `refl`). The claim holds of the definition's result, since it
-- is an equation with it, part by part; and the same equations say that any result it holds of is that one.
use Prim.Native.Nat.{ℕ, zero, suc}
use mathlib.Core.Path.{◌≡◌, refl, sym}
use mathlib.Core.List.{List}
use Rattle.book_state.specs.declared.Book.{Book}
use Rattle.book.specs.Calls.{clock_number_of, clock_by_number, clock_of}
use Rattle.pledges.specs.Calls.{
  never_opened_call,
  opening_call,
  link_call,
  clock_call,
  play_call,
  joined_call,
  chain_call,
  groups_call,
  lamps_call,
  time_call,
  open_slide_call,
  slide_ticks_call,
  read_call,
  write_call,
  list_call,
  text_in_call,
  text_out_call,
  pack_call,
  unpack_call,
  lorry_cell_call,
  unit_cell_call,
  ring_call,
  sector_call,
  version_call,
  book_size_call,
}
use Rattle.pledges.specs.Pledges.{◌▸◌, Pledges}
use Rattle.pledges.proofs.Exported.{one_claim, two_claims}

-- the clock call logs nothing
clock_log : (b : Book) (log : List ℕ) (tick : ℕ) → (clock_of b log tick).log ≡ log
unfolding clock_of clock_by_number
clock_log b log tick = go (clock_number_of b log tick)
  where
    go : (k : ℕ) → (clock_by_number k b log tick).log ≡ log
    go zero = refl
    go (suc k) = refl

pub pledges : Pledges
pledges =
    record {
      kerb_never_opened_lem = one_claim never_opened_call _ (λ w κs a. refl) (λ κs a. refl) (λ κs a r p i. p i ▸ tt);
      kerb_opening_lem = one_claim opening_call _ (λ w κs a. refl) (λ κs a. record { answered = refl; logged = refl })
          (λ κs a r p i. (p.answered i).number ▸ (p.answered i).book ▸ p.logged i ▸ tt ▸ tt);
      kerb_link_lem = one_claim link_call _ (λ w κs a. refl) (λ κs a. record { answered = refl; logged = refl })
          (λ κs a r p i. (p.answered i).number ▸ (p.answered i).book ▸ p.logged i ▸ tt ▸ tt ▸ tt ▸ tt);
      kerb_clock_lem = one_claim clock_call _ (λ w κs a. refl) (λ κs a. record { answered = refl; logged = sym (clock_log _ _ _) })
          (λ κs a r p i. (p.answered i).number ▸ (p.answered i).book ▸ tt ▸ tt ▸ tt);
      kerb_play_lem = one_claim play_call _ (λ w κs a. refl) (λ κs a. record { kept = refl; answered = refl; logged = refl })
          (λ κs a r p i. p.answered i ▸ p.kept i ▸ p.logged i ▸ tt ▸ tt);
      kerb_joined_lem = one_claim joined_call _ (λ w κs a. refl) (λ κs a. refl) (λ κs a r p i. p i ▸ tt ▸ tt ▸ tt ▸ tt);
      kerb_chain_lem = one_claim chain_call _ (λ w κs a. refl) (λ κs a. record { answered = refl; written = refl })
          (λ κs a r p i. p.answered i ▸ tt ▸ tt ▸ tt ▸ tt ▸ p.written i ▸ tt);
      kerb_groups_lem = one_claim groups_call _ (λ w κs a. refl) (λ κs a. record { answered = refl; firsts = refl; sizes = refl; holds = refl })
          (λ κs a r p i. p.answered i ▸ tt ▸ tt ▸ p.firsts i ▸ p.sizes i ▸ p.holds i ▸ tt);
      kerb_lamps_lem = one_claim lamps_call _ (λ w κs a. refl) (λ κs a. refl) (λ κs a r p i. p i ▸ tt ▸ tt ▸ tt ▸ tt);
      kerb_time_lem = one_claim time_call _ (λ w κs a. refl) (λ κs a. refl) (λ κs a r p i. p i ▸ tt ▸ tt);
      kerb_open_slide_lem = one_claim open_slide_call _ (λ w κs a. refl) (λ κs a. refl) (λ κs a r p i. p i ▸ tt ▸ tt);
      kerb_slide_ticks_lem = one_claim slide_ticks_call _ (λ w κs a. refl) (λ κs a. refl) (λ κs a r p i. p i ▸ tt ▸ tt ▸ tt);
      kerb_read_lem = one_claim read_call _ (λ w κs a. refl) (λ κs a. refl) (λ κs a r p i. p i ▸ tt ▸ tt);
      kerb_write_lem = two_claims write_call _ (λ w κs a. refl) (λ κs a. (refl, refl)) (λ κs a r p q i. p i ▸ tt ▸ tt ▸ q i ▸ tt);
      kerb_list_lem = one_claim list_call _ (λ w κs a. refl) (λ κs a. record { answered = refl; written = refl })
          (λ κs a r p i. p.answered i ▸ tt ▸ p.written i ▸ tt);
      kerb_text_in_lem = one_claim text_in_call _ (λ w κs a. refl) (λ κs a. record { answered = refl; written = refl })
          (λ κs a r p i. p.answered i ▸ tt ▸ tt ▸ p.written i ▸ tt);
      kerb_text_out_lem = one_claim text_out_call _ (λ w κs a. refl) (λ κs a. record { answered = refl; written = refl })
          (λ κs a r p i. p.answered i ▸ tt ▸ p.written i ▸ tt);
      kerb_pack_lem = two_claims pack_call _ (λ w κs a. refl) (λ κs a. (refl, refl)) (λ κs a r p q i. p i ▸ tt ▸ tt ▸ tt ▸ q i ▸ tt);
      kerb_unpack_lem = one_claim unpack_call _ (λ w κs a. refl) (λ κs a. refl) (λ κs a r p i. p i ▸ tt ▸ tt ▸ tt);
      kerb_lorry_cell_lem = one_claim lorry_cell_call _ (λ w κs a. refl) (λ κs a. refl) (λ κs a r p i. p i ▸ tt ▸ tt ▸ tt);
      kerb_unit_cell_lem = one_claim unit_cell_call _ (λ w κs a. refl) (λ κs a. refl) (λ κs a r p i. p i ▸ tt ▸ tt ▸ tt);
      kerb_ring_lem = one_claim ring_call _ (λ w κs a. refl) (λ κs a. refl) (λ κs a r p i. p i ▸ tt ▸ tt);
      kerb_sector_lem = one_claim sector_call _ (λ w κs a. refl) (λ κs a. refl) (λ κs a r p i. p i ▸ tt ▸ tt);
      kerb_version_3_lem = one_claim version_call _ (λ w κs a. refl) (λ κs a. refl) (λ κs a r p i. p i ▸ tt);
      kerb_book_size_lem = one_claim book_size_call _ (λ w κs a. refl) (λ κs a. refl) (λ κs a r p i. p i ▸ tt);
    }
