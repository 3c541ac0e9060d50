-- `window::arrays::Links::put_pairs` meets its contract: the pairs before the index are put.
use Rattle.std.proofs.Common.{◌≤◌, ◌+◌, map, take}
use Rattle.book_state.specs.Log.{labelled}
use Rattle.window.specs.Pairs.{links_of_pairs}
use Rattle.window.specs.Gathered.{LinksPut}
use Rattle.window.proofs.arrays.Links.put_pairs.Given as goal

abbrev pub invariant-loop-one : goal.invariant-loop-one
invariant-loop-one l =
    let before = l.initial.self in
    let now = l.self in
    record {
      few : l.end ≤ before.count + l.one-index;
      put : LinksPut (map (labelled l.label) (links_of_pairs (take l.one-index l.pairs))) before.count before.ones before.others before.labels l.end now.ones now.others now.labels;
    }
