-- The one theorem: all that the customer is promised is kept.
use Rattle.file_write.proofs.Files.{written_then_read, read_then_written}
use Rattle.demands.proofs.ChainIs.{chain}
use Rattle.demands.proofs.FilesRefused.{files_refused}
use Rattle.demands.proofs.JoinedIs.{joined}
use Rattle.demands.proofs.Keeps.{keeps}
use Rattle.demands.proofs.LampsAre.{lamps}
use Rattle.demands.proofs.NeverOpened.{never_opened_lem}
use Rattle.demands.proofs.Refused.{refused}
use Rattle.demands.proofs.Table.{table}
use Rattle.demands.proofs.TimeIs.{time}
use Rattle.demands.proofs.Touching.{touching}
use Rattle.demands.proofs.Unassigned.{eight_unassigned}
use Rattle.demands_cases.proofs.Cases.{cases}
use Rattle.demands_listing.proofs.Listed.{listed}
use Rattle.pledges.proofs.Single.{single}
use Rattle.text_list.proofs.Texts.{texts}
use Rattle.promises.specs.Promise.{Kept}
use Rattle.promises.proofs.Ends.{code_ends}
use Rattle.promises.proofs.Routines.{code_refuses, code_unassigned, code_table, code_time, code_joined, code_files, code_chain, code_lamps, code_listing}

pub kept : Kept
kept =
    record {
      demand_1 =
          record {
            ends = code_ends;
            refuses = code_refuses;
            refused = refused;
            files_refused = files_refused;
            never_opened_lem = never_opened_lem;
          };
      demand_2 =
          record {
            joined = joined;
            code_joined = code_joined;
            files = record { there = written_then_read; back = read_then_written; texts = texts };
            code_files = code_files;
          };
      demand_3 = record { chain = chain; code_chain = code_chain };
      table = table;
      code_table = code_table;
      unassigned = eight_unassigned;
      code_unassigned = code_unassigned;
      time = time;
      code_time = code_time;
      touching = touching;
      lamps = lamps;
      code_lamps = code_lamps;
      listing = listed;
      code_listing = code_listing;
      cases = cases;
      single = single;
      agrees = keeps;
    }
