-- `kerblist::read_full`: no more bytes are read than the file has room for.
use Rattle.std.proofs.Common.{◌≤◌, length}
use Rattle.kerblist.proofs.read_full.Given as goal

abbrev pub invariant-loop : goal.invariant-loop
invariant-loop g l = l.bytes ≤ length l.file
