-- Each of these contracts is one claim, or two. Most are equations, one for each part of the result; a Result is told by an equation for what the
-- interface tells of it, its number among that, and no two Results are told alike (`refusals`, proofs/Told). The crossing's says what yes means and
-- what no means, and the two exclude each other; that of the buckets says which entry stands at each place, and there is only one.
use Rattle.std.proofs.Common.{◌≡◌, ℕ, refl, sym, ap, ◌∙◌, Option, Some, None, is_some, unwrap_or, Result, Ok, Err, MatchOption, arith, ◌≤◌}
use mathlib.Core.Bool.{true≢false, false≢true}
use Rattle.refusals.specs.declared.Refusal.{Refusal}
use Rattle.refusals.proofs.Told.{never_0, one_refusal, one_answer, one_number}
use Rattle.cells.specs.Mounting.{Mounts}
use Rattle.cells.specs.declared.Mounting.{Mounting}
use Rattle.cells.specs.declared.Mounting.TheVariants.{Plain, Mirrored}
use Rattle.cells.specs.declared.NoMounting.{NoMounting}
use Rattle.book.specs.Calls.{Answer}
use Rattle.book_joined.specs.declared.Joined.{Joined}
use Rattle.chain.specs.Chain as chain
use Rattle.chain.specs.declared.Chain.{Chain}
use Rattle.file.specs.declared.Contents.{Contents}
use Rattle.file_record.specs.declared.Record.{Record}
use Rattle.file_play.specs.declared.PlayAnswer.{PlayAnswer}
use Rattle.groups.specs.Call as groups
use Rattle.lamps.specs.Lamps as lamps
use Rattle.lamps.specs.declared.Lamps.{Lamps}
use Rattle.lamps.specs.declared.LampsAnswer.{LampsAnswer}
use Rattle.listing.specs.Listing as listing
use Rattle.text_list.proofs.Told.{one_text_in, one_text_out}
use Rattle.book_joined.specs.Told as joined
use Rattle.file.specs.Format.{reading_of}
use Rattle.file_record.specs.Record.{answer_of}
use Rattle.file_play.specs.declared.Stopped.{Stopped}
use Rattle.file_play.specs.Play.{played}
use Rattle.buckets.proofs.Listing.{one_listing}
use Rattle.forest_cross.proofs.Joined as crossing
use Rattle.window.proofs.Gathered.{put_single, none_single}
use Rattle.pledges.specs.Pledges.{◌▸◌}
use Rattle.pledges.specs.Single.{
  freshen_fn,
  move_to_fn,
  opening_fn,
  clock_fn,
  link_fn,
  link_in_order_fn,
  judge_fn,
  read_fn,
  pack_fn,
  unpack_fn,
  judge_write_fn,
  write_fn,
  none_fn,
  put_pairs_fn,
  gather_fn,
  gather_newest_fn,
  newest_label_fn,
  best_trail_fn,
  between_fn,
  ask_fn,
  lamps_fn,
  play_fn,
  play_file_fn,
  put_fn,
  put_decimal_fn,
  put_word_fn,
  put_fields_fn,
  put_line_fn,
  list_fn,
  text_in_fn,
  text_out_fn,
  unite_fn,
  list_entries_fn,
  joined_across_fn,
  Single,
}
use Rattle.pledges.proofs.Exported.{single_claim, single_claims}

-- two that equal a third
equal : {A : Type 0} {x y z : A} → x ≡ z → y ≡ z → x ≡ y
equal p q = p ∙ sym q

-- ---- no two Results are told alike

one_reading : (a b : Result Contents Refusal) → reading_of a ≡ reading_of b → a ≡ b
one_reading = one_answer reading_of (λ o. o.number) (λ x. refl) (λ r. refl) λ x y e i. record { settings = (e i).settings; m = (e i).m }

one_record : (a b : Result Record Refusal) → answer_of a ≡ answer_of b → a ≡ b
one_record = one_answer answer_of (λ o. o.number) (λ x. refl) (λ r. refl) λ x y e i. record { tick = (e i).tick; one = (e i).one; other = (e i).other }

one_joined : (a b : Result Joined Refusal) → joined.told a ≡ joined.told b → a ≡ b
one_joined = one_answer joined.told (λ o. o.number) (λ x. refl) (λ r. refl) λ x y e i. record { yes = (e i).yes; steps = (e i).steps }

one_chain : (a b : Result Chain Refusal) → chain.told a ≡ chain.told b → a ≡ b
one_chain = one_answer chain.told (λ o. o.number) (λ x. refl) (λ r. refl) λ x y e i. record { newest = (e i).newest; cells = (e i).cells; hold = (e i).hold }

one_groups : (a b : Result ℕ Refusal) → groups.told a ≡ groups.told b → a ≡ b
one_groups = one_answer groups.told (λ o. o.number) (λ x. refl) (λ r. refl) λ x y e i. (e i).links

one_list : (a b : Result ℕ Refusal) → listing.told a ≡ listing.told b → a ≡ b
one_list = one_answer listing.told (λ o. o.number) (λ x. refl) (λ r. refl) λ x y e i. (e i).length

-- a lamp is told by whether it is lit, and by its cell
one_lamp : (a b : Option ℕ) → is_some a ≡ is_some b → unwrap_or a 0 ≡ unwrap_or b 0 → a ≡ b
one_lamp None None lit cell = refl
one_lamp None (Some y) lit cell = absurd (false≢true lit)
one_lamp (Some x) None lit cell = absurd (true≢false lit)
one_lamp (Some x) (Some y) lit cell = ap Some cell

one_lamps : (a b : Result Lamps Refusal) → lamps.told a ≡ lamps.told b → a ≡ b
one_lamps = one_answer lamps.told (λ o. o.number) (λ x. refl) (λ r. refl) λ x y e i.
    record {
      left = one_lamp x.left y.left (ap (λ (o : LampsAnswer). o.left) e) (ap (λ (o : LampsAnswer). o.left_cell) e) i;
      right = one_lamp x.right y.right (ap (λ (o : LampsAnswer). o.right) e) (ap (λ (o : LampsAnswer). o.right_cell) e) i;
    }

-- what stops playing is told by its number and its place
one_play : (a b : Result ℕ Stopped) → played a ≡ played b → a ≡ b
one_play (Ok x) (Ok y) e = ap (λ (o : PlayAnswer). Ok o.taken) e
one_play (Ok x) (Err s) e = absurd (never_0 s.refusal (sym (ap (λ (o : PlayAnswer). o.number) e)))
one_play (Err r) (Ok y) e = absurd (never_0 r.refusal (ap (λ (o : PlayAnswer). o.number) e))
one_play (Err r) (Err s) e = λ i. Err (record { taken = (e i).taken; refusal = one_refusal r.refusal s.refusal (ap (λ (o : PlayAnswer). o.number) e) i })

-- of the newest label it is said that there is none exactly where the definition's is 0, and else that it is the definition's
one_label : (label : ℕ) (a b : Option ℕ) → MatchOption a (label ≡ 0) (λ newest. (newest ≡ label) × (1 ≤ newest))
    → MatchOption b (label ≡ 0) (λ newest. (newest ≡ label) × (1 ≤ newest)) → a ≡ b
one_label label None None p q = refl
one_label label None (Some y) p q = absurd (omega (arith, p, q.0, q.1))
one_label label (Some x) None p q = absurd (omega (arith, p.0, p.1, q))
one_label label (Some x) (Some y) p q = ap Some (p.0 ∙ sym q.0)

-- ---- a number is one mounting's, or none's

one_mounting : (number : ℕ) (a b : Result Mounting NoMounting) → Mounts number a → Mounts number b → a ≡ b
one_mounting number (Ok Plain) (Ok Plain) p q = refl
one_mounting number (Ok Plain) (Ok Mirrored) p q = absurd (omega (arith, p, q))
one_mounting number (Ok Plain) (Err y) p q = absurd (q.1 (sym p))
one_mounting number (Ok Mirrored) (Ok Plain) p q = absurd (omega (arith, p, q))
one_mounting number (Ok Mirrored) (Ok Mirrored) p q = refl
one_mounting number (Ok Mirrored) (Err y) p q = absurd (q.2 (sym p))
one_mounting number (Err x) (Ok Plain) p q = absurd (p.1 (sym q))
one_mounting number (Err x) (Ok Mirrored) p q = absurd (p.2 (sym q))
one_mounting number (Err x) (Err y) p q = λ i. Err (record { 0 = (p.0 ∙ sym q.0) i })

-- ---- the contracts

pub single : Single
single =
    record {
      book_time_freshen = single_claim freshen_fn (λ w κs a g r e. refl) λ κs a r s p q i. tt ▸ equal p q i ▸ tt;
      book_time_move_to = single_claim move_to_fn (λ w κs a g r e. refl) λ κs a r s p q i. tt ▸ equal p q i ▸ tt ▸ tt ▸ tt;
      book_opening = single_claim opening_fn (λ w κs a g r e. refl) λ κs a r s p q i.
          let o : ◌≡◌ {A = Answer} _ _ = equal p.answered q.answered in
          one_number r.0 s.0 (ap (λ (o : Answer). o.number) o) i ▸ (o i).book ▸ equal p.logged q.logged i ▸ tt ▸ tt;
      book_clock = single_claim clock_fn (λ w κs a g r e. refl) λ κs a r s p q i.
          let o : ◌≡◌ {A = Answer} _ _ = equal p.answered q.answered in
          one_number r.0 s.0 (ap (λ (o : Answer). o.number) o) i ▸ (o i).book ▸ tt ▸ tt ▸ tt;
      book_link_link = single_claim link_fn (λ w κs a g r e. refl) λ κs a r s p q i.
          let o : ◌≡◌ {A = Answer} _ _ = equal p.answered q.answered in
          one_number r.0 s.0 (ap (λ (o : Answer). o.number) o) i ▸ (o i).book ▸ equal p.logged q.logged i ▸ tt ▸ tt ▸ tt ▸ tt;
      book_link_link_in_order = single_claim link_in_order_fn (λ w κs a g r e. refl) λ κs a r s p q i.
          let o : ◌≡◌ {A = Answer} _ _ = equal p.answered q.answered in
          one_number r.0 s.0 (ap (λ (o : Answer). o.number) o) i ▸ (o i).book ▸ equal p.logged q.logged i ▸ tt ▸ tt ▸ tt ▸ tt;
      cells_mounting = one_mounting;
      settings_judge = single_claim judge_fn (λ w κs a g r e. refl) λ κs a r s p q i. one_number r.0 s.0 (equal p q) i ▸ tt ▸ tt;
      file_read = single_claim read_fn (λ w κs a g r e. refl) λ κs a r s p q i. one_reading r.0 s.0 (equal p q) i ▸ tt ▸ tt;
      file_record_pack = single_claims pack_fn (λ w κs a g r e. refl) λ κs a r s p q i.
          one_number r.0 s.0 (equal p.0 q.0) i ▸ tt ▸ equal p.1 q.1 i ▸ tt;
      file_record_unpack = single_claim unpack_fn (λ w κs a g r e. refl) λ κs a r s p q i. one_record r.0 s.0 (equal p q) i ▸ tt ▸ tt ▸ tt;
      file_write_judge_write = single_claim judge_write_fn (λ w κs a g r e. refl) λ κs a r s p q i. one_number r.0 s.0 (equal p q) i ▸ tt ▸ tt ▸ tt ▸ tt;
      file_write_write = single_claims write_fn (λ w κs a g r e. refl) λ κs a r s p q i.
          one_number r.0 s.0 (equal p.0 q.0) i ▸ tt ▸ tt ▸ equal p.1 q.1 i ▸ tt;
      window_none = single_claim none_fn (λ w κs a g r e. refl) λ κs a r s p q i. none_single r.0 s.0 p q i ▸ tt;
      window_put_pairs = single_claim put_pairs_fn (λ w κs a g r e. refl) λ κs a r s p q i.
          tt ▸ put_single a.0.now r.1.0 s.1.0 p q i ▸ tt ▸ tt ▸ tt;
      window_gather = single_claim gather_fn (λ w κs a g r e. refl) λ κs a r s p q i.
          tt ▸ tt ▸ put_single a.1.0.now r.1.1.0 s.1.1.0 p q i ▸ tt;
      window_gather_newest = single_claim gather_newest_fn (λ w κs a g r e. refl) λ κs a r s p q i.
          tt ▸ tt ▸ tt ▸ put_single a.1.1.0.now r.1.1.1.0 s.1.1.1.0 p q i ▸ tt;
      chain_newest_newest_label = single_claim newest_label_fn (λ w κs a g r e. refl) λ κs a r s p q i. one_label _ r.0 s.0 p q i ▸ tt ▸ tt ▸ tt ▸ tt;
      chain_fewest_best_trail = single_claim best_trail_fn (λ w κs a g r e. refl) λ κs a r s p q i.
          equal p.count q.count i ▸ tt ▸ tt ▸ tt ▸ tt ▸ equal p.buffer q.buffer i ▸ tt;
      chain_between = single_claim between_fn (λ w κs a g r e. refl) λ κs a r s p q i.
          one_chain r.0 s.0 (equal p.answered q.answered) i ▸ tt ▸ tt ▸ tt ▸ tt ▸ equal p.written q.written i ▸ tt;
      book_joined_ask = single_claim ask_fn (λ w κs a g r e. refl) λ κs a r s p q i. one_joined r.0 s.0 (equal p q) i ▸ tt ▸ tt ▸ tt ▸ tt;
      lamps_ask = single_claim lamps_fn (λ w κs a g r e. refl) λ κs a r s p q i. one_lamps r.0 s.0 (equal p q) i ▸ tt ▸ tt ▸ tt ▸ tt;
      file_play_play = single_claim play_fn (λ w κs a g r e. refl) λ κs a r s p q i.
          one_play r.0 s.0 (equal p.answered q.answered) i ▸ equal p.kept q.kept i ▸ equal p.logged q.logged i ▸ tt ▸ tt ▸ tt;
      file_play_play_file = single_claim play_file_fn (λ w κs a g r e. refl) λ κs a r s p q i.
          one_play r.0 s.0 (equal p.answered q.answered) i ▸ equal p.kept q.kept i ▸ equal p.logged q.logged i ▸ tt ▸ tt;
      groups_put = single_claim put_fn (λ w κs a g r e. refl) λ κs a r s p q i.
          one_groups r.0 s.0 (equal p.answered q.answered) i ▸ tt ▸ tt ▸ equal p.firsts q.firsts i ▸ equal p.sizes q.sizes i ▸ equal p.holds q.holds i ▸ tt;
      text_put_decimal = single_claim put_decimal_fn (λ w κs a g r e. refl) λ κs a r s p q i. tt ▸ equal p q i ▸ tt ▸ tt;
      text_put_word = single_claim put_word_fn (λ w κs a g r e. refl) λ κs a r s p q i. tt ▸ equal p q i ▸ tt ▸ tt;
      text_put_fields = single_claim put_fields_fn (λ w κs a g r e. refl) λ κs a r s p q i. tt ▸ equal p q i ▸ tt ▸ tt ▸ tt;
      text_put_line = single_claim put_line_fn (λ w κs a g r e. refl) λ κs a r s p q i. tt ▸ equal p q i ▸ tt ▸ tt ▸ tt;
      listing_list_lem = single_claim list_fn (λ w κs a g r e. refl) λ κs a r s p q i.
          one_list r.0 s.0 (equal p.answered q.answered) i ▸ tt ▸ equal p.written q.written i ▸ tt;
      text_in_text_in = single_claim text_in_fn (λ w κs a g r e. refl) λ κs a r s p q i.
          one_text_in r.0 s.0 (equal p.answered q.answered) i ▸ tt ▸ tt ▸ equal p.written q.written i ▸ tt;
      text_out_text_out = single_claim text_out_fn (λ w κs a g r e. refl) λ κs a r s p q i.
          one_text_out r.0 s.0 (equal p.answered q.answered) i ▸ tt ▸ equal p.written q.written i ▸ tt;
      forest_unite_unite = single_claim unite_fn (λ w κs a g r e. refl) λ κs a r s p q i.
          tt ▸ equal p.parents q.parents i ▸ equal p.sizes q.sizes i ▸ equal p.labels q.labels i ▸ tt ▸ tt ▸ tt ▸ tt ▸ tt;
      buckets_list_entries = single_claim list_entries_fn (λ w κs a g r e. refl) λ κs a r s p q i.
          let e = one_listing p q in tt ▸ tt ▸ e.0 i ▸ e.1 i ▸ tt;
      forest_cross_joined_across = single_claim joined_across_fn (λ w κs a g r e. refl) λ κs a r s p q i.
          crossing.one_answer r.0 s.0 p q i ▸ tt ▸ tt ▸ tt ▸ tt ▸ tt ▸ tt ▸ tt ▸ tt;
    }
