-- The archive's exports meet the very contracts that the crate pledges speaks of: each is one call of the library's function (src), states its
-- clauses again, and so its code meets the clauses that are pledged of that function.
use Rattle.kerb_c.proofs.kerb_book_size.Met.{met as kerb_book_size_met}
use Rattle.kerb_c.proofs.kerb_chain.Met.{met as kerb_chain_met}
use Rattle.kerb_c.proofs.kerb_clock.Met.{met as kerb_clock_met}
use Rattle.kerb_c.proofs.kerb_groups.Met.{met as kerb_groups_met}
use Rattle.kerb_c.proofs.kerb_joined.Met.{met as kerb_joined_met}
use Rattle.kerb_c.proofs.kerb_lamps.Met.{met as kerb_lamps_met}
use Rattle.kerb_c.proofs.kerb_link.Met.{met as kerb_link_met}
use Rattle.kerb_c.proofs.kerb_list.Met.{met as kerb_list_met}
use Rattle.kerb_c.proofs.kerb_lorry_cell.Met.{met as kerb_lorry_cell_met}
use Rattle.kerb_c.proofs.kerb_never_opened.Met.{met as kerb_never_opened_met}
use Rattle.kerb_c.proofs.kerb_open_slide.Met.{met as kerb_open_slide_met}
use Rattle.kerb_c.proofs.kerb_opening.Met.{met as kerb_opening_met}
use Rattle.kerb_c.proofs.kerb_pack.Met.{met as kerb_pack_met}
use Rattle.kerb_c.proofs.kerb_play.Met.{met as kerb_play_met}
use Rattle.kerb_c.proofs.kerb_read.Met.{met as kerb_read_met}
use Rattle.kerb_c.proofs.kerb_ring.Met.{met as kerb_ring_met}
use Rattle.kerb_c.proofs.kerb_sector.Met.{met as kerb_sector_met}
use Rattle.kerb_c.proofs.kerb_slide_ticks.Met.{met as kerb_slide_ticks_met}
use Rattle.kerb_c.proofs.kerb_text_in.Met.{met as kerb_text_in_met}
use Rattle.kerb_c.proofs.kerb_text_out.Met.{met as kerb_text_out_met}
use Rattle.kerb_c.proofs.kerb_time.Met.{met as kerb_time_met}
use Rattle.kerb_c.proofs.kerb_unit_cell.Met.{met as kerb_unit_cell_met}
use Rattle.kerb_c.proofs.kerb_unpack.Met.{met as kerb_unpack_met}
use Rattle.kerb_c.proofs.kerb_version_3.Met.{met as kerb_version_3_met}
use Rattle.kerb_c.proofs.kerb_write.Met.{met as kerb_write_met}
use Rattle.kerb_c.proofs.kerb_book_size.Symbol as kerb_book_size_symbol
use Rattle.kerb_c.proofs.kerb_chain.Symbol as kerb_chain_symbol
use Rattle.kerb_c.proofs.kerb_clock.Symbol as kerb_clock_symbol
use Rattle.kerb_c.proofs.kerb_groups.Symbol as kerb_groups_symbol
use Rattle.kerb_c.proofs.kerb_joined.Symbol as kerb_joined_symbol
use Rattle.kerb_c.proofs.kerb_lamps.Symbol as kerb_lamps_symbol
use Rattle.kerb_c.proofs.kerb_link.Symbol as kerb_link_symbol
use Rattle.kerb_c.proofs.kerb_list.Symbol as kerb_list_symbol
use Rattle.kerb_c.proofs.kerb_lorry_cell.Symbol as kerb_lorry_cell_symbol
use Rattle.kerb_c.proofs.kerb_never_opened.Symbol as kerb_never_opened_symbol
use Rattle.kerb_c.proofs.kerb_open_slide.Symbol as kerb_open_slide_symbol
use Rattle.kerb_c.proofs.kerb_opening.Symbol as kerb_opening_symbol
use Rattle.kerb_c.proofs.kerb_pack.Symbol as kerb_pack_symbol
use Rattle.kerb_c.proofs.kerb_play.Symbol as kerb_play_symbol
use Rattle.kerb_c.proofs.kerb_read.Symbol as kerb_read_symbol
use Rattle.kerb_c.proofs.kerb_ring.Symbol as kerb_ring_symbol
use Rattle.kerb_c.proofs.kerb_sector.Symbol as kerb_sector_symbol
use Rattle.kerb_c.proofs.kerb_slide_ticks.Symbol as kerb_slide_ticks_symbol
use Rattle.kerb_c.proofs.kerb_text_in.Symbol as kerb_text_in_symbol
use Rattle.kerb_c.proofs.kerb_text_out.Symbol as kerb_text_out_symbol
use Rattle.kerb_c.proofs.kerb_time.Symbol as kerb_time_symbol
use Rattle.kerb_c.proofs.kerb_unit_cell.Symbol as kerb_unit_cell_symbol
use Rattle.kerb_c.proofs.kerb_unpack.Symbol as kerb_unpack_symbol
use Rattle.kerb_c.proofs.kerb_version_3.Symbol as kerb_version_3_symbol
use Rattle.kerb_c.proofs.kerb_write.Symbol as kerb_write_symbol
use Rattle.pledges.specs.Exported.{RoutineMeets}
use Rattle.pledges.specs.Calls.{
  never_opened_call,
  pack_call,
  unpack_call,
  lorry_cell_call,
  unit_cell_call,
  ring_call,
  sector_call,
  version_call,
  book_size_call,
  opening_call,
  link_call,
  clock_call,
  time_call,
  play_call,
  joined_call,
  chain_call,
  groups_call,
  lamps_call,
  open_slide_call,
  slide_ticks_call,
  read_call,
  write_call,
  list_call,
  text_in_call,
  text_out_call,
}

pub kerb_never_opened_export : RoutineMeets never_opened_call.ended kerb_never_opened_symbol.name kerb_never_opened_symbol.code never_opened_call.clauses
kerb_never_opened_export = λ M. kerb_never_opened_met

pub kerb_pack_export : RoutineMeets pack_call.ended kerb_pack_symbol.name kerb_pack_symbol.code pack_call.clauses
kerb_pack_export = λ M. kerb_pack_met

pub kerb_unpack_export : RoutineMeets unpack_call.ended kerb_unpack_symbol.name kerb_unpack_symbol.code unpack_call.clauses
kerb_unpack_export = λ M. kerb_unpack_met

pub kerb_lorry_cell_export : RoutineMeets lorry_cell_call.ended kerb_lorry_cell_symbol.name kerb_lorry_cell_symbol.code lorry_cell_call.clauses
kerb_lorry_cell_export = λ M. kerb_lorry_cell_met

pub kerb_unit_cell_export : RoutineMeets unit_cell_call.ended kerb_unit_cell_symbol.name kerb_unit_cell_symbol.code unit_cell_call.clauses
kerb_unit_cell_export = λ M. kerb_unit_cell_met

pub kerb_ring_export : RoutineMeets ring_call.ended kerb_ring_symbol.name kerb_ring_symbol.code ring_call.clauses
kerb_ring_export = λ M. kerb_ring_met

pub kerb_sector_export : RoutineMeets sector_call.ended kerb_sector_symbol.name kerb_sector_symbol.code sector_call.clauses
kerb_sector_export = λ M. kerb_sector_met

pub kerb_version_3_export : RoutineMeets version_call.ended kerb_version_3_symbol.name kerb_version_3_symbol.code version_call.clauses
kerb_version_3_export = λ M. kerb_version_3_met

pub kerb_book_size_export : RoutineMeets book_size_call.ended kerb_book_size_symbol.name kerb_book_size_symbol.code book_size_call.clauses
kerb_book_size_export = λ M. kerb_book_size_met

pub kerb_opening_export : RoutineMeets opening_call.ended kerb_opening_symbol.name kerb_opening_symbol.code opening_call.clauses
kerb_opening_export = λ M. kerb_opening_met

pub kerb_link_export : RoutineMeets link_call.ended kerb_link_symbol.name kerb_link_symbol.code link_call.clauses
kerb_link_export = λ M. kerb_link_met

pub kerb_clock_export : RoutineMeets clock_call.ended kerb_clock_symbol.name kerb_clock_symbol.code clock_call.clauses
kerb_clock_export = λ M. kerb_clock_met

pub kerb_time_export : RoutineMeets time_call.ended kerb_time_symbol.name kerb_time_symbol.code time_call.clauses
kerb_time_export = λ M. kerb_time_met

pub kerb_play_export : RoutineMeets play_call.ended kerb_play_symbol.name kerb_play_symbol.code play_call.clauses
kerb_play_export = λ M. kerb_play_met

pub kerb_joined_export : RoutineMeets joined_call.ended kerb_joined_symbol.name kerb_joined_symbol.code joined_call.clauses
kerb_joined_export = λ M. kerb_joined_met

pub kerb_chain_export : RoutineMeets chain_call.ended kerb_chain_symbol.name kerb_chain_symbol.code chain_call.clauses
kerb_chain_export = λ M. kerb_chain_met

pub kerb_groups_export : RoutineMeets groups_call.ended kerb_groups_symbol.name kerb_groups_symbol.code groups_call.clauses
kerb_groups_export = λ M. kerb_groups_met

pub kerb_lamps_export : RoutineMeets lamps_call.ended kerb_lamps_symbol.name kerb_lamps_symbol.code lamps_call.clauses
kerb_lamps_export = λ M. kerb_lamps_met

pub kerb_open_slide_export : RoutineMeets open_slide_call.ended kerb_open_slide_symbol.name kerb_open_slide_symbol.code open_slide_call.clauses
kerb_open_slide_export = λ M. kerb_open_slide_met

pub kerb_slide_ticks_export : RoutineMeets slide_ticks_call.ended kerb_slide_ticks_symbol.name kerb_slide_ticks_symbol.code slide_ticks_call.clauses
kerb_slide_ticks_export = λ M. kerb_slide_ticks_met

pub kerb_read_export : RoutineMeets read_call.ended kerb_read_symbol.name kerb_read_symbol.code read_call.clauses
kerb_read_export = λ M. kerb_read_met

pub kerb_write_export : RoutineMeets write_call.ended kerb_write_symbol.name kerb_write_symbol.code write_call.clauses
kerb_write_export = λ M. kerb_write_met

pub kerb_list_export : RoutineMeets list_call.ended kerb_list_symbol.name kerb_list_symbol.code list_call.clauses
kerb_list_export = λ M. kerb_list_met

pub kerb_text_in_export : RoutineMeets text_in_call.ended kerb_text_in_symbol.name kerb_text_in_symbol.code text_in_call.clauses
kerb_text_in_export = λ M. kerb_text_in_met

pub kerb_text_out_export : RoutineMeets text_out_call.ended kerb_text_out_symbol.name kerb_text_out_symbol.code text_out_call.clauses
kerb_text_out_export = λ M. kerb_text_out_met
