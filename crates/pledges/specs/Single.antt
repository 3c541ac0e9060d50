-- The public functions below the exported calls: two results that a contract allows are equal, lent memory included (RULES 10.2). They are
-- taken as the kit hands them out (Calls), but for `Mounting::try_from`, of which the relation is taken that its law names. Left out are
-- contracts that are an equation for the result and one for each lent buffer: these allow one result by their form.
use Rattle.book_time.specs.contracts.freshen as freshen
use Rattle.book_time.proofs.freshen.Symbol as freshen_symbol
use Rattle.book_time.specs.contracts.move_to as move_to
use Rattle.book_time.proofs.move_to.Symbol as move_to_symbol
use Rattle.book.specs.contracts.opening as opening
use Rattle.book.proofs.opening.Symbol as opening_symbol
use Rattle.book.specs.contracts.clock as clock
use Rattle.book.proofs.clock.Symbol as clock_symbol
use Rattle.book_link.specs.contracts.link as link
use Rattle.book_link.proofs.link.Symbol as link_symbol
use Rattle.book_link.specs.contracts.link_in_order as link_in_order
use Rattle.book_link.proofs.link_in_order.Symbol as link_in_order_symbol
use Rattle.settings.specs.contracts.judge as judge
use Rattle.settings.proofs.judge.Symbol as judge_symbol
use Rattle.file.specs.contracts.read as read
use Rattle.file.proofs.read.Symbol as read_symbol
use Rattle.file_record.specs.contracts.pack as pack
use Rattle.file_record.proofs.pack.Symbol as pack_symbol
use Rattle.file_record.specs.contracts.unpack as unpack
use Rattle.file_record.proofs.unpack.Symbol as unpack_symbol
use Rattle.file_write.specs.contracts.judge_write as judge_write
use Rattle.file_write.proofs.judge_write.Symbol as judge_write_symbol
use Rattle.file_write.specs.contracts.write as write
use Rattle.file_write.proofs.write.Symbol as write_symbol
use Rattle.window.specs.contracts.arrays.Links.none as none
use Rattle.window.proofs.arrays.Links.none.Symbol as none_symbol
use Rattle.window.specs.contracts.arrays.Links.put_pairs as put_pairs
use Rattle.window.proofs.arrays.Links.put_pairs.Symbol as put_pairs_symbol
use Rattle.window.specs.contracts.gather as gather
use Rattle.window.proofs.gather.Symbol as gather_symbol
use Rattle.window.specs.contracts.gather_newest as gather_newest
use Rattle.window.proofs.gather_newest.Symbol as gather_newest_symbol
use Rattle.chain_newest.specs.contracts.newest_label as newest_label
use Rattle.chain_newest.proofs.newest_label.Symbol as newest_label_symbol
use Rattle.chain_fewest.specs.contracts.best_trail as best_trail
use Rattle.chain_fewest.proofs.best_trail.Symbol as best_trail_symbol
use Rattle.chain.specs.contracts.between as between
use Rattle.chain.proofs.between.Symbol as between_symbol
use Rattle.book_joined.specs.contracts.ask as ask
use Rattle.book_joined.proofs.ask.Symbol as ask_symbol
use Rattle.lamps.specs.contracts.ask as lamps
use Rattle.lamps.proofs.ask.Symbol as lamps_symbol
use Rattle.file_play.specs.contracts.play as play
use Rattle.file_play.proofs.play.Symbol as play_symbol
use Rattle.file_play.specs.contracts.play_file as play_file
use Rattle.file_play.proofs.play_file.Symbol as play_file_symbol
use Rattle.groups.specs.contracts.put as put
use Rattle.groups.proofs.put.Symbol as put_symbol
use Rattle.text.specs.contracts.Output.put_decimal as put_decimal
use Rattle.text.proofs.Output.put_decimal.Symbol as put_decimal_symbol
use Rattle.text.specs.contracts.Output.put_word as put_word
use Rattle.text.proofs.Output.put_word.Symbol as put_word_symbol
use Rattle.text.specs.contracts.Output.put_fields as put_fields
use Rattle.text.proofs.Output.put_fields.Symbol as put_fields_symbol
use Rattle.text.specs.contracts.Output.put_line as put_line
use Rattle.text.proofs.Output.put_line.Symbol as put_line_symbol
use Rattle.listing.specs.contracts.list as list
use Rattle.listing.proofs.list.Symbol as list_symbol
use Rattle.text_in.specs.contracts.text_in as text_in
use Rattle.text_in.proofs.text_in.Symbol as text_in_symbol
use Rattle.text_out.specs.contracts.text_out as text_out
use Rattle.text_out.proofs.text_out.Symbol as text_out_symbol
use Rattle.forest_unite.specs.contracts.unite as unite
use Rattle.forest_unite.proofs.unite.Symbol as unite_symbol
use Rattle.buckets.specs.contracts.list_entries as list_entries
use Rattle.buckets.proofs.list_entries.Symbol as list_entries_symbol
use Rattle.forest_cross.specs.contracts.joined_across as joined_across
use Rattle.forest_cross.proofs.joined_across.Symbol as joined_across_symbol
use Rattle.std.specs.Prelude.{◌≡◌, ℕ, Result}
use Rattle.cells.specs.Mounting.{Mounts}
use Rattle.cells.specs.declared.Mounting.{Mounting}
use Rattle.cells.specs.declared.NoMounting.{NoMounting}
use Rattle.pledges.specs.Exported.{Exported, SingleResult}

abbrev pub freshen_fn : Exported
freshen_fn = record { ended = freshen.ended; clauses = λ M 𝓤. freshen.clauses; name = freshen_symbol.name; code = freshen_symbol.code }

abbrev pub move_to_fn : Exported
move_to_fn = record { ended = move_to.ended; clauses = λ M 𝓤. move_to.clauses; name = move_to_symbol.name; code = move_to_symbol.code }

abbrev pub opening_fn : Exported
opening_fn = record { ended = opening.ended; clauses = λ M 𝓤. opening.clauses; name = opening_symbol.name; code = opening_symbol.code }

abbrev pub clock_fn : Exported
clock_fn = record { ended = clock.ended; clauses = λ M 𝓤. clock.clauses; name = clock_symbol.name; code = clock_symbol.code }

abbrev pub link_fn : Exported
link_fn = record { ended = link.ended; clauses = λ M 𝓤. link.clauses; name = link_symbol.name; code = link_symbol.code }

abbrev pub link_in_order_fn : Exported
link_in_order_fn = record { ended = link_in_order.ended; clauses = λ M 𝓤. link_in_order.clauses; name = link_in_order_symbol.name; code = link_in_order_symbol.code }

abbrev pub judge_fn : Exported
judge_fn = record { ended = judge.ended; clauses = λ M 𝓤. judge.clauses; name = judge_symbol.name; code = judge_symbol.code }

abbrev pub read_fn : Exported
read_fn = record { ended = read.ended; clauses = λ M 𝓤. read.clauses; name = read_symbol.name; code = read_symbol.code }

abbrev pub pack_fn : Exported
pack_fn = record { ended = pack.ended; clauses = λ M 𝓤. pack.clauses; name = pack_symbol.name; code = pack_symbol.code }

abbrev pub unpack_fn : Exported
unpack_fn = record { ended = unpack.ended; clauses = λ M 𝓤. unpack.clauses; name = unpack_symbol.name; code = unpack_symbol.code }

abbrev pub judge_write_fn : Exported
judge_write_fn = record { ended = judge_write.ended; clauses = λ M 𝓤. judge_write.clauses; name = judge_write_symbol.name; code = judge_write_symbol.code }

abbrev pub write_fn : Exported
write_fn = record { ended = write.ended; clauses = λ M 𝓤. write.clauses; name = write_symbol.name; code = write_symbol.code }

abbrev pub none_fn : Exported
none_fn = record { ended = none.ended; clauses = λ M 𝓤. none.clauses; name = none_symbol.name; code = none_symbol.code }

abbrev pub put_pairs_fn : Exported
put_pairs_fn = record { ended = put_pairs.ended; clauses = λ M 𝓤. put_pairs.clauses; name = put_pairs_symbol.name; code = put_pairs_symbol.code }

abbrev pub gather_fn : Exported
gather_fn = record { ended = gather.ended; clauses = λ M 𝓤. gather.clauses; name = gather_symbol.name; code = gather_symbol.code }

abbrev pub gather_newest_fn : Exported
gather_newest_fn = record { ended = gather_newest.ended; clauses = λ M 𝓤. gather_newest.clauses; name = gather_newest_symbol.name; code = gather_newest_symbol.code }

abbrev pub newest_label_fn : Exported
newest_label_fn = record { ended = newest_label.ended; clauses = λ M 𝓤. newest_label.clauses; name = newest_label_symbol.name; code = newest_label_symbol.code }

abbrev pub best_trail_fn : Exported
best_trail_fn = record { ended = best_trail.ended; clauses = λ M 𝓤. best_trail.clauses; name = best_trail_symbol.name; code = best_trail_symbol.code }

abbrev pub between_fn : Exported
between_fn = record { ended = between.ended; clauses = λ M 𝓤. between.clauses; name = between_symbol.name; code = between_symbol.code }

abbrev pub ask_fn : Exported
ask_fn = record { ended = ask.ended; clauses = λ M 𝓤. ask.clauses; name = ask_symbol.name; code = ask_symbol.code }

abbrev pub lamps_fn : Exported
lamps_fn = record { ended = lamps.ended; clauses = λ M 𝓤. lamps.clauses; name = lamps_symbol.name; code = lamps_symbol.code }

abbrev pub play_fn : Exported
play_fn = record { ended = play.ended; clauses = λ M 𝓤. play.clauses; name = play_symbol.name; code = play_symbol.code }

abbrev pub play_file_fn : Exported
play_file_fn = record { ended = play_file.ended; clauses = λ M 𝓤. play_file.clauses; name = play_file_symbol.name; code = play_file_symbol.code }

abbrev pub put_fn : Exported
put_fn = record { ended = put.ended; clauses = λ M 𝓤. put.clauses; name = put_symbol.name; code = put_symbol.code }

abbrev pub put_decimal_fn : Exported
put_decimal_fn = record { ended = put_decimal.ended; clauses = λ M 𝓤. put_decimal.clauses; name = put_decimal_symbol.name; code = put_decimal_symbol.code }

abbrev pub put_word_fn : Exported
put_word_fn = record { ended = put_word.ended; clauses = λ M 𝓤. put_word.clauses; name = put_word_symbol.name; code = put_word_symbol.code }

abbrev pub put_fields_fn : Exported
put_fields_fn = record { ended = put_fields.ended; clauses = λ M 𝓤. put_fields.clauses; name = put_fields_symbol.name; code = put_fields_symbol.code }

abbrev pub put_line_fn : Exported
put_line_fn = record { ended = put_line.ended; clauses = λ M 𝓤. put_line.clauses; name = put_line_symbol.name; code = put_line_symbol.code }

abbrev pub list_fn : Exported
list_fn = record { ended = list.ended; clauses = λ M 𝓤. list.clauses; name = list_symbol.name; code = list_symbol.code }

abbrev pub text_in_fn : Exported
text_in_fn = record { ended = text_in.ended; clauses = λ M 𝓤. text_in.clauses; name = text_in_symbol.name; code = text_in_symbol.code }

abbrev pub text_out_fn : Exported
text_out_fn = record { ended = text_out.ended; clauses = λ M 𝓤. text_out.clauses; name = text_out_symbol.name; code = text_out_symbol.code }

abbrev pub unite_fn : Exported
unite_fn = record { ended = unite.ended; clauses = λ M 𝓤. unite.clauses; name = unite_symbol.name; code = unite_symbol.code }

abbrev pub list_entries_fn : Exported
list_entries_fn = record { ended = list_entries.ended; clauses = λ M 𝓤. list_entries.clauses; name = list_entries_symbol.name; code = list_entries_symbol.code }

abbrev pub joined_across_fn : Exported
joined_across_fn = record { ended = joined_across.ended; clauses = λ M 𝓤. joined_across.clauses; name = joined_across_symbol.name; code = joined_across_symbol.code }

pub record Single : Type 2 where
  pub book_time_freshen : SingleResult freshen_fn
  pub book_time_move_to : SingleResult move_to_fn
  pub book_opening : SingleResult opening_fn
  pub book_clock : SingleResult clock_fn
  pub book_link_link : SingleResult link_fn
  pub book_link_link_in_order : SingleResult link_in_order_fn
  -- the trait's law says of `Mounting::try_from` that it gives what `Mounts` allows
  pub cells_mounting : (number : ℕ) (one other : Result Mounting NoMounting) → Mounts number one → Mounts number other → one ≡ other
  pub settings_judge : SingleResult judge_fn
  pub file_read : SingleResult read_fn
  pub file_record_pack : SingleResult pack_fn
  pub file_record_unpack : SingleResult unpack_fn
  pub file_write_judge_write : SingleResult judge_write_fn
  pub file_write_write : SingleResult write_fn
  pub window_none : SingleResult none_fn
  pub window_put_pairs : SingleResult put_pairs_fn
  pub window_gather : SingleResult gather_fn
  pub window_gather_newest : SingleResult gather_newest_fn
  pub chain_newest_newest_label : SingleResult newest_label_fn
  pub chain_fewest_best_trail : SingleResult best_trail_fn
  pub chain_between : SingleResult between_fn
  pub book_joined_ask : SingleResult ask_fn
  pub lamps_ask : SingleResult lamps_fn
  pub file_play_play : SingleResult play_fn
  pub file_play_play_file : SingleResult play_file_fn
  pub groups_put : SingleResult put_fn
  pub text_put_decimal : SingleResult put_decimal_fn
  pub text_put_word : SingleResult put_word_fn
  pub text_put_fields : SingleResult put_fields_fn
  pub text_put_line : SingleResult put_line_fn
  pub listing_list_lem : SingleResult list_fn
  pub text_in_text_in : SingleResult text_in_fn
  pub text_out_text_out : SingleResult text_out_fn
  pub forest_unite_unite : SingleResult unite_fn
  pub buckets_list_entries : SingleResult list_entries_fn
  pub forest_cross_joined_across : SingleResult joined_across_fn
