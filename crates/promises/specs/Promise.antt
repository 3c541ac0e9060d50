-- What the customer is promised, on one page: `Kept`, and its theorem is `kept` (proofs/Promise).
--
-- There are three layers, each with its own words, and two relations between them.
--     history        what the calls say happened: links with their slides, the clock, and the table of numbers (History, of the crate demands)
--     definitions    what each call makes of a book, its log and whatever is lent, for every input: `ours` (Implementation, of demands)
--     code           the exported routines, as the machine runs them (the crates kerb, kerb_opening, kerb_time, .., kerb_text)
-- The state that calls leave agrees with the history (Agrees, of demands), and the code gives what the definitions say: its contracts say
-- it (Pledges, of the crate pledges), and it meets them (Routines). A demand is stated of the definitions, over any implementation, so that
-- fakes can be held against it (Demands, of demands; Fakes, of demands_fakes), the listing's over ours (Listed, of demands_listing); and of
-- the code itself (Routines).
use Rattle.demands.specs.Implementation.{ours}
use Rattle.demands.specs.Agrees.{Agrees}
use Rattle.demands.specs.Demands.{AfterCalls, Table, Refused, FilesRefused, NeverOpened, Joined, Files, Chain, Unassigned, Time, Touching, Lamps}
use Rattle.demands_cases.specs.Cases.{Cases}
use Rattle.demands_listing.specs.Listed.{Listed}
use Rattle.pledges.specs.Single.{Single}
use Rattle.promises.specs.Routines.{CodeEnds, CodeRefuses, CodeUnassigned, CodeTable, CodeTime, CodeJoined, CodeFiles, CodeChain, CodeLamps, CodeListed}

-- Every call ends and stays inside its memory for all inputs: bad settings, cells, ticks, files, short buffers, altered books. A refused
-- call gives the number in the table and alters nothing lent to it.
pub record Demand1 : Type 2 where
  -- of every exported call: it asks nothing of its caller; called with anything, its code ends, touches no memory but its own and what
  -- is lent to it, and gives what its definition says, which is the one result that its contract allows
  pub ends : CodeEnds
  pub refuses : CodeRefuses
  -- the same of the definitions, with the log places that no call changes, and with records
  pub refused : Refused ours
  pub files_refused : FilesRefused
  pub never_opened_lem : NeverOpened

-- After any calls from an opening, two cells are joined exactly when they are the same or links of the current window chain them; the
-- count of forest steps is the rule's, never above 40. Link files read and written again have the same bytes, and the reverse; and so
-- have text lists that are brought into link files and put out again, and the reverse.
pub record Demand2 : Type 2 where
  pub joined : Joined ours
  pub code_joined : CodeJoined
  pub files : Files
  pub code_files : CodeFiles

-- The chain call says "no trail" exactly when there is none; otherwise it gives the newest slide L, a chain from L on with the fewest
-- links, the first of those by cell numbers, and for how many closings the two stay joined.
pub record Demand3 : Type 2 where
  pub chain : Chain ours
  pub code_chain : CodeChain

pub record Kept : Type 2 where
  pub demand_1 : Demand1
  pub demand_2 : Demand2
  pub demand_3 : Demand3
  -- the numbers of the table, by the history
  pub table : Table ours
  pub code_table : CodeTable
  -- no call gives 8, whatever it is lent (RULES 7.1)
  pub unassigned : Unassigned ours
  pub code_unassigned : CodeUnassigned
  -- the time: number 4, the total and the slides by the ticks that were accepted; the counter goes round (RULES 2.3, 2.4)
  pub time : Time ours
  pub code_time : CodeTime
  -- only cells that touch are linked (RULES 2.11)
  pub touching : Touching
  -- the two lamps, by the history and by joined (RULES 11)
  pub lamps : Lamps ours
  pub code_lamps : CodeLamps
  -- the listing, the groups call and playing, by the history (RULES 8, 6.6)
  pub listing : Listed
  pub code_listing : CodeListed
  -- the worked cases P1 to P12 and O1 to O6 (RULES 9)
  pub cases : Cases
  -- two results that a public contract allows are equal: of exported calls in `ends`, of the functions below them here (RULES 10.2)
  pub single : Single
  -- what all of it rests on: the state that calls leave agrees with the history
  pub agrees : AfterCalls ours λ s h. Agrees h s
