-- An implementation is what each call gives, for every input (RULES 7). `ours` is the one that the contracts cite. The demands are
-- stated of any implementation, so that they can be proved of ours and refuted for fakes (RULES 10.5).
use Rattle.std.specs.Prelude.{ℕ, List, [], ◌∷◌}
use Rattle.numbers.specs.Kinds.{Bytes, Cell, Log, Tick}
use Rattle.settings.specs.declared.Settings.{Settings}
use Rattle.book_state.specs.declared.Book.{Book}
use Rattle.book_joined.specs.declared.JoinedAnswer.{JoinedAnswer}
use Rattle.book_joined.specs.Joined.{joined_of}
use Rattle.book.specs.Calls.{Outcome, opening_of, link_of, clock_of}
use Rattle.chain.specs.Chain.{ChainOutcome, chain_of}
use Rattle.lamps.specs.declared.LampsAnswer.{LampsAnswer}
use Rattle.lamps.specs.Lamps.{lamps_of}
use Rattle.demands.specs.History.{Call, opening, link, clock}

pub record Implementation : Type 0 where
  pub opening_gives : (book : Book) (log : Log) (settings : Settings) → Outcome
  pub link_gives : (book : Book) (log : Log) (tick : Tick) (one other : Cell) → Outcome
  pub clock_gives : (book : Book) (log : Log) (tick : Tick) → Outcome
  pub joined_gives : (book : Book) (one other : Cell) → JoinedAnswer
  pub chain_gives : (book : Book) (log : Log) (chain : List Cell) (one other : Cell) → ChainOutcome
  pub lamps_gives : (book : Book) (log : Log) (mask : Bytes) → LampsAnswer

abbrev pub ours : Implementation
ours =
    record {
      opening_gives = opening_of;
      link_gives = link_of;
      clock_gives = clock_of;
      joined_gives = joined_of;
      chain_gives = chain_of;
      lamps_gives = lamps_of;
    }

-- the book and its log together are the state (RULES 7.7)
pub record State : Type 0 where
  pub book : Book
  pub log : List ℕ

abbrev pub state_of : Outcome → State
state_of o = record { book = o.book; log = o.log }

-- what a call gives
unfoldable pub gives : Implementation → State → Call → Outcome
gives p s (opening settings) = p.opening_gives s.book s.log settings
gives p s (link tick one other) = p.link_gives s.book s.log tick one other
gives p s (clock tick) = p.clock_gives s.book s.log tick

-- the state that calls leave, one after the other, from any book and log
unfoldable pub after : Implementation → State → List Call → State
after p s [] = s
after p s (c ∷ cs) = after p (state_of (gives p s c)) cs

-- what the chain call gives, for a chain buffer and two cells
abbrev pub gives_chain : (implementation : Implementation) (state : State) (chain : List Cell) (one other : Cell) → ChainOutcome
gives_chain p s chain one other = p.chain_gives s.book s.log chain one other

-- what the lamps call gives, for a body mask
abbrev pub gives_lamps : (implementation : Implementation) (state : State) (mask : Bytes) → LampsAnswer
gives_lamps p s mask = p.lamps_gives s.book s.log mask
