-- `window_groups::of_window` meets its contract: the window's links are gathered and their forest grown; at each cell's root the
-- tallies tell what its tree gives, and its tree is its group.
use Rattle.std.proofs.Common.{◌≡◌, ap, ◌∙◌, arith}
use Rattle.window.specs.Window.{window_links}
use Rattle.window.proofs.Gathered.{put_first, put_read}
use Rattle.window_forest.specs.LinkForest.{grown_from}
use Rattle.window_groups.proofs.AtRoots.{AtRoots, roots_below, least_positive}
use Rattle.window_groups.proofs.WindowTrees.{forest_grown, forest_groups}
use Rattle.window_groups.proofs.of_window.Goals as goal
use Rattle.window_groups.proofs.of_window.Goals.{After-grow-forest, After-tally-tallies}

grown : (c : After-grow-forest) → let window = c.args.window in c.grow-forest.result ≡ grown_from (window_links window.clock window.counts.now window.log.now)
grown c =
    let put = put_first c.none-links.ensures c.gather.ensures in
    c.grow-forest.ensures ∙ ap grown_from (put_read put (omega (arith, put.until, c.gather.new.links.few)))

told : (c : After-tally-tallies) → (let window = c.args.window in c.grow-forest.result ≡ grown_from (window_links window.clock window.counts.now window.log.now))
    → AtRoots c.args.window.clock.n c.grow-forest.result.parent c.grow-forest.result.label c.roots-root.result c.tally-tallies.result
told c is = record { grown = forest_grown _ _ _ is; roots_are = c.roots-root.ensures; tallies_are = c.tally-tallies.ensures }

pub tally-tallies-requires : goal.tally-tallies-requires
tally-tallies-requires c = roots_below (forest_grown _ _ _ (grown (goal.at.tally-tallies-requires c).After-grow-forest)) c.roots-root.ensures

pub at_roots-requires : goal.at_roots-requires
at_roots-requires c =
    let t = told (goal.at.at_roots-requires c).After-tally-tallies (grown (goal.at.at_roots-requires c).After-grow-forest) in
    (roots_below t.grown t.roots_are, λ cell h. least_positive t h)

pub returns : goal.returns
returns c =
    let is = grown (goal.at.returns c).After-grow-forest in
    c.at_roots.ensures ∙ forest_groups _ _ _ is (told (goal.at.returns c).After-tally-tallies is) (omega (arith, c.gather.ensures.until))
