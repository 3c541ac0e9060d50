-- The builds that must be shut out (RULES 10.5), as implementations. Each differs from ours by its one fault and by nothing else:
-- where a call of ours is refused, the fake refuses it with the same number, but for the one whose fault is that it takes it.
use Rattle.std.specs.Prelude.{ℕ, zero, suc, ◌%◌, Bool, false, cond, not, ◌&&◌, List, ◌++◌, eqb, ltb, length, drop, Option, Some, None, Ok}
use Rattle.numbers.specs.Kinds.{Bytes, Cell, Log, Number}
use Rattle.graph.specs.Link.{Link}
use Rattle.cells.specs.Cell.{sectors}
use Rattle.slides.specs.Counter.{tick_limit}
use Rattle.slides.specs.Clock.{time_of, slide_of}
use Rattle.slides.specs.declared.Clock.{Clock}
use Rattle.book_state.specs.declared.Book.{Book}
use Rattle.book_state.specs.Arrays.{cells}
use Rattle.book_time.specs.Time.{stayed}
use Rattle.book_joined.specs.declared.JoinedAnswer.{JoinedAnswer}
use Rattle.book_joined.specs.Joined.{joined_of}
use Rattle.book.specs.Calls.{Outcome, opening_of, link_by_number, link_of, clock_of}
use Rattle.chain.specs.declared.ChainAnswer.{ChainAnswer}
use Rattle.chain.specs.Chain.{ChainOutcome, chain_of}
use Rattle.window_ends.specs.Ends.{is_end, links_in}
use Rattle.lamps.specs.declared.LampsAnswer.{LampsAnswer}
use Rattle.lamps.specs.Mask.{is_body}
use Rattle.lamps.specs.Zones.{Zone, left_zone, right_zone, in_zone_of}
use Rattle.lamps.specs.Lamps.{on_body, lights, lamp_from, told, lamps_of}
use Rattle.demands.specs.Implementation.{Implementation}

-- the fault where ours gives 0, and what ours gives otherwise
unfoldable pub where_done : {A : Type 0} → (number : Number) (fault ours : A) → A
where_done zero fault ours = fault
where_done (suc k) fault ours = ours

-- it refuses everything, with one number
abbrev pub refusing : (number : Number) → Implementation
refusing number =
    record {
      opening_gives = λ b log s. refusal b log (opening_of b log s);
      link_gives = λ b log tick one other. refusal b log (link_of b log tick one other);
      clock_gives = λ b log tick. refusal b log (clock_of b log tick);
      joined_gives = λ b one other.
          let o : JoinedAnswer = joined_of b one other in where_done o.number (record { number = number; yes = false; steps = 0 }) o;
      chain_gives = λ b log chain one other.
          let o : ChainOutcome = chain_of b log chain one other in
          where_done o.answer.number (record { answer = record { newest = 0; cells = 0; hold = 0; number = number }; chain = chain }) o;
      lamps_gives = λ b log mask.
          let o : LampsAnswer = lamps_of b log mask in
          where_done o.number (record { left_cell = 0; right_cell = 0; left = false; right = false; number = number }) o;
    }
  where
    refusal : Book → Log → Outcome → Outcome
    refusal b log o = where_done o.number (record { book = b; log = log; number = number }) o

-- ours with another joined
abbrev pub with_joined : (Book → ℕ → ℕ → JoinedAnswer) → Implementation
with_joined fault =
    record {
      opening_gives = opening_of;
      link_gives = link_of;
      clock_gives = clock_of;
      joined_gives = λ b one other. let o : JoinedAnswer = joined_of b one other in where_done o.number (fault b one other) o;
      chain_gives = chain_of;
      lamps_gives = lamps_of;
    }

-- one fixed yes, and one fixed no
abbrev pub fixed_joined : Bool → Implementation
fixed_joined answer = with_joined λ b one other. record { number = 0; yes = answer; steps = (joined_of b one other).steps }

-- invented steps
abbrev pub inventive : (steps : Book → Cell → Cell → ℕ) → Implementation
inventive steps = with_joined λ b one other. record { number = 0; yes = (joined_of b one other).yes; steps = steps b one other }

-- ours with another chain
abbrev pub with_chain : (Book → List ℕ → List ℕ → ℕ → ℕ → ChainOutcome) → Implementation
with_chain fault =
    record {
      opening_gives = opening_of;
      link_gives = link_of;
      clock_gives = clock_of;
      joined_gives = joined_of;
      chain_gives = λ b log chain one other.
          let o : ChainOutcome = chain_of b log chain one other in where_done o.answer.number (fault b log chain one other) o;
      lamps_gives = lamps_of;
    }

-- one fixed chain
abbrev pub fixed_chain : List Cell → Implementation
fixed_chain cells =
    with_chain λ b log chain one other.
    let a : ChainAnswer = (chain_of b log chain one other).answer in
    record {
      answer = record { newest = a.newest; cells = length cells; hold = a.hold; number = 0 };
      chain = cells ++ drop (length cells) chain;
    }

-- number 7 where ours gives 0, and so for any two cells
abbrev pub chainless : Implementation
chainless =
    with_chain λ b log chain one other. record { answer = record { newest = 0; cells = 0; hold = 0; number = 7 }; chain = chain }

-- ours with another link
abbrev pub with_link : (Book → List ℕ → ℕ → ℕ → ℕ → Outcome) → Implementation
with_link fault =
    record {
      opening_gives = opening_of;
      link_gives = λ b log tick one other.
          let o : Outcome = link_of b log tick one other in where_done o.number (fault b log tick one other) o;
      clock_gives = clock_of;
      joined_gives = joined_of;
      chain_gives = chain_of;
      lamps_gives = lamps_of;
    }

-- its link moves the time, as a clock call does, and stores nothing
abbrev pub forgetful : Implementation
forgetful = with_link λ b log tick one other. clock_of b log tick

-- right in its first chunk, slides 0 to n - 1, and storing nothing after it
abbrev pub idle : Implementation
idle =
    with_link λ b log tick one other.
    cond (ltb (slide_of b.clock tick) b.clock.n) (link_of b log tick one other)
    (clock_of b log tick)

-- where ours gives 14 it takes the link
abbrev pub reaching : Implementation
reaching =
    record {
      opening_gives = opening_of;
      link_gives = λ b log tick one other.
          let o : Outcome = link_of b log tick one other in
          cond (eqb o.number 14) (link_by_number 0 b log tick one other) o;
      clock_gives = clock_of;
      joined_gives = joined_of;
      chain_gives = chain_of;
      lamps_gives = lamps_of;
    }

-- ours with another clock call
abbrev pub with_clock : (Book → Log → ℕ → Outcome) → Implementation
with_clock fault =
    record {
      opening_gives = opening_of;
      link_gives = link_of;
      clock_gives = λ b log tick. let o : Outcome = clock_of b log tick in where_done o.number (fault b log tick) o;
      joined_gives = joined_of;
      chain_gives = chain_of;
      lamps_gives = lamps_of;
    }

-- it compares ticks plainly: one that is below the time is refused, and so is every tick past the end of the counter
abbrev pub turnless : Implementation
turnless = with_clock λ b log tick. cond (ltb tick (time_of b.clock)) (record { book = b; log = log; number = 4 }) (clock_of b log tick)

-- it keeps the total in 32 bits, so that a slide follows from the tick alone
abbrev pub short_total : Implementation
short_total =
    with_clock λ b log tick.
    let o : Outcome = clock_of b log tick in
    let c : Clock = o.book.clock in
    record {
      book = stayed o.book (record { total = c.total % tick_limit; t0 = c.t0; b = c.b; n = c.n; pad = c.pad });
      log = o.log;
      number = 0;
    }

-- a fault of the lamps: by the links of the window, the mask and what ours gives
abbrev pub LampsFault : Type 0
LampsFault = List Link → Bytes → LampsAnswer → LampsAnswer

-- ours with another lamps call
abbrev pub with_lamps : LampsFault → Implementation
with_lamps fault =
    record {
      opening_gives = opening_of;
      link_gives = link_of;
      clock_gives = clock_of;
      joined_gives = joined_of;
      chain_gives = chain_of;
      lamps_gives = λ b log mask.
          let o : LampsAnswer = lamps_of b log mask in where_done o.number (fault (links_in b.clock b.counts log) mask o) o;
    }

-- both lamps, each by its zone
abbrev pub both_lamps : (lamp : Zone → Option Cell) → LampsAnswer
both_lamps lamp = told (Ok (record { left = lamp (left_zone sectors); right = lamp (right_zone sectors) }))

abbrev pub always_dark : LampsFault
always_dark links mask o = both_lamps λ zone. None

-- by the smallest cell of the zone
abbrev pub always_lit : LampsFault
always_lit links mask o = both_lamps λ zone. Some zone.from

-- left for right, and right for left
abbrev pub swapped : LampsFault
swapped links mask o = record { left_cell = o.right_cell; right_cell = o.left_cell; left = o.right; right = o.left; number = 0 }

-- of the mask the cell's own byte alone is looked at
abbrev pub own_byte : LampsFault
own_byte links mask o = both_lamps λ zone. lamp_from (λ c. in_zone_of sectors zone c && is_end links c && not (is_body mask c)) 0 cells

-- cells without a link light
abbrev pub unlinked : LampsFault
unlinked links mask o = both_lamps λ zone. lamp_from (λ c. in_zone_of sectors zone c && not (on_body links mask c)) 0 cells

-- of `count` cells the largest that passes
unfoldable pub lamp_below : (test : Cell → Bool) (count : ℕ) → Option Cell
lamp_below test zero = None
lamp_below test (suc c) = cond (test c) (Some c) (lamp_below test c)

-- a lit lamp tells the largest cell
abbrev pub largest : LampsFault
largest links mask o = both_lamps λ zone. lamp_below (lights links mask zone) cells
