-- The example of RULES 11.6, computed: the tail lift, cells 94 to 96, and a walker, cells 161, 162 and 227, whom one link ties to it.
use Rattle.std.specs.Prelude.{◌≡◌, refl, true, false, List, [], ◌∷◌, set, replicate}
use Rattle.numbers.specs.Kinds.{Bytes, Cell}
use Rattle.graph.specs.Link.{Link, group, chains}
use Rattle.book_state.specs.Arrays.{cells}
use Rattle.window_ends.specs.Ends.{is_end}
use Rattle.lamps.specs.Zones.{in_zone_of}
use Rattle.lamps.specs.Lamps.{some_below, lamp_from, lamps_by_number}

abbrev link_of : (one other : Cell) → Link
link_of one other = record { one = one; other = other }

-- seen within the lift and within the walker
abbrev apart : List Link
apart = link_of 94 95 ∷ link_of 95 96 ∷ link_of 161 162 ∷ link_of 162 227 ∷ []

-- and the link that ties the two
abbrev tied : List Link
tied = link_of 96 161 ∷ apart

abbrev bare : Bytes
bare = replicate cells 0

-- the lift is bodywork
abbrev lift : Bytes
lift = set (set (set bare 94 1) 95 1) 96 1

-- while the link is in the window all of them are one thing, and no lamp is lit
pub dark_while_tied : lamps_by_number 0 tied lift ≡ record { left_cell = 0; right_cell = 0; left = false; right = false; number = 0 }
unfolding lamps_by_number lamp_from some_below is_end in_zone_of chains group
dark_while_tied = refl

-- after it the walker lights the left lamp, by his smallest cell
pub lit_once_apart : lamps_by_number 0 apart lift ≡ record { left_cell = 161; right_cell = 0; left = true; right = false; number = 0 }
unfolding lamps_by_number lamp_from some_below is_end in_zone_of chains group
lit_once_apart = refl

-- where nothing is bodywork the lift lights the right one
pub lit_without_bodywork : lamps_by_number 0 tied bare ≡ record { left_cell = 161; right_cell = 94; left = true; right = true; number = 0 }
unfolding lamps_by_number lamp_from some_below is_end in_zone_of chains group
lit_without_bodywork = refl
