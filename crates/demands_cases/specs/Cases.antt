-- The worked cases (RULES 9): P1 to P12 and our own O1 to O6, as one script under one statement. Each step of the script is a call
-- with its number or a question with its whole answer; and that is what `ours` gives, the implementation that the contracts cite,
-- from every book and every log that is long enough.
--
-- An opening makes the front of the log zeros, whatever it was (`opened`, proofs/Cases). From there on everything is computed.
use Rattle.std.specs.Prelude.{ℕ, ◌≡◌, Bool, true, false, List, [], ◌∷◌, ◌++◌, take, replicate}
use Rattle.numbers.specs.Kinds.{Cell, Log, Number, Slide}
use Rattle.book_state.specs.declared.Book.{Book}
use Rattle.book_joined.specs.declared.JoinedAnswer.{JoinedAnswer}
use Rattle.numbers.specs.Checks.{has}
use Rattle.book_state.specs.Numbers.{log_places}
use Rattle.book.specs.Calls.{Outcome}
use Rattle.chain.specs.Chain.{ChainOutcome, chain_places}
use Rattle.demands.specs.History.{Call, opening, link, clock}
use Rattle.demands.specs.Implementation.{ours, State, state_of, gives, gives_chain}

-- a call with its number, or a question with its answer
pub data Step : Type 0 where
  call : Call → Number → Step
  -- yes, and the steps
  joined : (one other : Cell) → Bool → ℕ → Step
  -- the chain, L, and the hold
  chain : (one other : Cell) → List ℕ → Slide → ℕ → Step
  -- number 7
  no_trail : (one other : Cell) → Step

-- an answer, every field of it; of a chain buffer the places that the answer counts
pub data Row : Type 0 where
  called : (number : Number) → Row
  joined_row : (number : Number) (yes : Bool) (steps : ℕ) → Row
  chain_row : (number : Number) (cells : List ℕ) (newest hold : ℕ) → Row

abbrev buffer : List ℕ
buffer = replicate chain_places 0

abbrev row_of : ChainOutcome → Row
row_of o = chain_row o.answer.number (take o.answer.cells o.chain) o.answer.newest o.answer.hold

-- what the calls and questions of a script give, one after the other
unfoldable pub given : State → List Step → List Row
given s [] = []
given s (call c number ∷ ds) =
    let o : Outcome = gives ours s c in
    called o.number ∷ given (state_of o) ds
given s (joined one other answer steps ∷ ds) =
    let o : JoinedAnswer = ours.joined_gives s.book one other in
    joined_row o.number o.yes o.steps ∷ given s ds
given s (chain one other cells newest hold ∷ ds) = row_of (gives_chain ours s buffer one other) ∷ given s ds
given s (no_trail one other ∷ ds) = row_of (gives_chain ours s buffer one other) ∷ given s ds

-- what RULES 9 says that they give
unfoldable pub stated : List Step → List Row
stated [] = []
stated (call c number ∷ ds) = called number ∷ stated ds
stated (joined one other answer steps ∷ ds) = joined_row 0 answer steps ∷ stated ds
stated (chain one other cells newest hold ∷ ds) = chain_row 0 cells newest hold ∷ stated ds
stated (no_trail one other ∷ ds) = chain_row 7 [] 0 0 ∷ stated ds

-- calls that give 0
abbrev opens : (n b t0 mounting : ℕ) → Step
opens n b t0 mounting = call (opening (record { t0 = t0; b = b; n = n; mounting = mounting })) 0

abbrev links : (tick one other : ℕ) → Step
links tick one other = call (link tick one other) 0

abbrev ticks : (tick : ℕ) → Step
ticks tick = call (clock tick) 0

-- the calls of a script, without its questions
unfoldable pub calls_of : List Step → List Call
calls_of [] = []
calls_of (call c number ∷ ds) = c ∷ calls_of ds
calls_of (joined one other answer steps ∷ ds) = calls_of ds
calls_of (chain one other cells newest hold ∷ ds) = calls_of ds
calls_of (no_trail one other ∷ ds) = calls_of ds

-- up to the questions of P11
abbrev until_p11 : List Step
until_p11 =
    -- P1, P2 (RULES 9.1)
    opens 3 10 0 1
    ∷ joined 7 7 true 0
    ∷ joined 7 8 false 0
    -- P3, P4, P5 (RULES 9.2)
    ∷ links 0 1 2
    ∷ links 10 2 3
    ∷ links 20 3 4
    ∷ links 30 5 6
    ∷ links 45 4 5
    ∷ joined 3 6 true 1
    ∷ joined 2 3 false 0
    ∷ joined 4 6 true 3
    -- P6, P7, P8, P9
    ∷ chain 3 6 (3 ∷ 4 ∷ 5 ∷ 6 ∷ []) 2 0
    ∷ chain 4 6 (4 ∷ 5 ∷ 6 ∷ []) 3 1
    ∷ chain 4 4 (4 ∷ []) 5 3
    ∷ no_trail 2 3
    -- P10 (RULES 9.4)
    ∷ ticks 50
    ∷ joined 4 6 true 2
    -- the clock call of P11 (RULES 9.5)
    ∷ ticks 60
    ∷ []

-- the calls before those questions
abbrev pub p11_calls : List Call
p11_calls = calls_of until_p11

abbrev pub script : List Step
script =
    until_p11
    -- P11
    ++ (joined 4 5 true 1
    ∷ joined 5 6 false 1
    -- P12 (RULES 9.6)
    ∷ opens 2 1 0 1
    ∷ links 1 10 11
    ∷ links 1 12 13
    ∷ links 2 11 12
    ∷ links 2 13 14
    ∷ joined 10 14 true 1
    -- O1: an old direct link is not preferred to a newer detour (RULES 9.8)
    ∷ opens 2 1 0 1
    ∷ links 0 20 84
    ∷ links 1 20 21
    ∷ links 1 21 84
    ∷ chain 20 84 (20 ∷ 21 ∷ 84 ∷ []) 1 1
    -- O2: a cut that stops a walk halfway (RULES 9.9)
    ∷ opens 3 1 0 1
    ∷ links 1 42 43
    ∷ links 2 40 41
    ∷ links 2 41 42
    ∷ links 2 43 44
    ∷ ticks 3
    ∷ joined 40 44 true 3
    ∷ chain 40 44 (40 ∷ 41 ∷ 42 ∷ 43 ∷ 44 ∷ []) 1 0
    ∷ ticks 4
    ∷ joined 40 44 false 2
    ∷ no_trail 40 44
    ∷ ticks 5
    ∷ joined 40 44 false 0
    ∷ no_trail 40 44
    -- O3: chains that are equally short (RULES 9.10)
    ∷ opens 2 1 0 1
    ∷ links 0 20 84
    ∷ links 0 84 85
    ∷ links 0 20 21
    ∷ links 0 21 85
    ∷ chain 20 85 (20 ∷ 21 ∷ 85 ∷ []) 0 1
    ∷ chain 85 20 (85 ∷ 21 ∷ 20 ∷ []) 0 1
    -- O4: a refused link moves no time (RULES 9.11)
    ∷ opens 3 10 0 1
    ∷ links 0 1 2
    ∷ links 10 2 3
    ∷ links 20 3 4
    ∷ links 30 5 6
    ∷ links 45 4 5
    ∷ call (link 60 5 1024) 3
    ∷ joined 4 6 true 3
    ∷ links 45 4 5
    -- O5: only cells that touch are linked; 14 moves no time, and comes after 3 and before 4 (RULES 9.12)
    ∷ opens 3 10 0 1
    ∷ call (link 60 0 960) 14
    ∷ call (link 60 0 128) 14
    ∷ call (link 60 5 5) 14
    ∷ links 45 63 0
    ∷ links 45 63 64
    ∷ links 45 0 127
    ∷ call (link 30 0 1024) 3
    ∷ call (link 30 0 2) 14
    ∷ call (link 30 0 1) 4
    ∷ chain 64 127 (64 ∷ 63 ∷ 0 ∷ 127 ∷ []) 4 2
    -- O6: the counter goes round; half a turn is refused, one tick less is taken, and tick 4 comes twice, in two slides (RULES 9.13)
    ∷ opens 3 10 4294967290 1
    ∷ links 4294967295 1 2
    ∷ links 4 2 3
    ∷ chain 1 3 (1 ∷ 2 ∷ 3 ∷ []) 0 1
    ∷ call (link 4294967295 1 2) 4
    ∷ call (clock 2147483652) 4
    ∷ ticks 2147483651
    ∷ joined 1 3 false 0
    ∷ ticks 2
    ∷ links 4 1 2
    ∷ chain 1 2 (1 ∷ 2 ∷ []) 429496730 2
    ∷ [])

-- whatever book and log they start from
abbrev pub Cases : Type 0
Cases = (b : Book) (log : Log) → has log_places log ≡ true → given (record { book = b; log = log }) script ≡ stated script
