-- `buckets::list_entries` meets its contract: the entries at `entry` and after are listed, and a turn lists one entry more.
use Rattle.std.proofs.Common.{◌≡◌, length, drop}
use Rattle.buckets.specs.Listed.{Listed}
use Rattle.buckets.proofs.list_entries.Given as goal

abbrev pub invariant-loop-entry : goal.invariant-loop-entry
invariant-loop-entry l =
    record {
      listed : Listed l.keys (length l.initial.first) l.entry l.first l.next;
      rest : drop (length l.keys) l.next ≡ drop (length l.keys) l.initial.next;
    }
