-- The listing as a demand: its parts, each proved in a file of its own.
use Rattle.demands_listing.specs.Listed.{Listed}
use Rattle.demands.proofs.Keeps.{keeps}
use Rattle.demands_listing.proofs.ListedCalls.{plays_told}
use Rattle.demands_listing.proofs.ListedExample.{example_told}
use Rattle.demands_listing.proofs.ListedGroups.{groups_told}
use Rattle.demands_listing.proofs.ListedMeans.{group_means}
use Rattle.demands_listing.proofs.ListedPrints.{prints_told}
use Rattle.demands_listing.proofs.ListedRecords.{records_told}

pub listed : Listed
listed =
    record {
      plays = λ file s cs h told. plays_told file (keeps s cs h told);
      groups = λ s cs h told. groups_told (keeps s cs h told);
      means = λ s cs h told c. group_means (keeps s cs h told) c;
      prints = prints_told;
      records = records_told;
      example = example_told;
    }
