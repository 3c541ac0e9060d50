-- A function as the kit hands it out, and what it is for its contract to give what a definition says. The form is the same for
-- all functions, whatever they take and give, so it is said once, and so are its consequences (proofs/Exported).
--
-- A function's result, to a caller, is what it returns and what the memory that was lent to it holds afterwards. The kit calls the
-- latter the last values: one for each `&mut`, and the unit for a parameter that cannot change.
use Rattle.std.specs.Prelude.{◌≡◌}
use seplogic.Ra.Ura.{Ura}
use base.Logic.{SProp, ent, sep, emp}
use prog.Memory.{Memory}
use prog.Model.{Model}
use mir.Syntax.{Callee}
use prog.Routine.{Routine}
use prog.Wired.{Code, Wired}
use types.Logic.{Logic}
use contract.Lifetimes.{Lfts}
use contract.Monad.{Fun, fact}
use contract.Running.{Running}
use denote.Triple.Entry.{Args, Res}
use denote.Triple.Spec.{Meets}
use denote.Triple.Clauses.{Ended, Clauses, ClausesAt, Lasts, AtExit, at_exit, closing}
use borrow.Fn.World.{World, Pr}

-- the clauses of a contract, at every model of the logic
abbrev pub ClausesOf : Ended → Type 2
ClausesOf T =
    (M : Type 1) (𝓤 : Ura M) → (𝓛 : Logic 𝓤) → (Memory → SProp 𝓤) → (Routine → Fun 𝓤) → Clauses 𝓤 T

-- a function of this name meets the clauses wherever this code, with the code of all that it calls, stands under its names (`Wired`): it ends,
-- stays inside its memory, and they hold when it returns
abbrev pub RoutineMeets : (T : Ended) → Callee → Code → ClausesOf T → Type 2
RoutineMeets T name code c =
    (M : Type 1) (𝓤 : Ura M) → (𝓛 : Logic 𝓤) (𝓜 : Model 𝓤 𝓛.H) (𝓡 : Running 𝓤 𝓛.H 𝓜) → Wired 𝓡.env code →
    Meets 𝓛 T.signature (𝓡.run (𝓡.env name)) (closing 𝓛 T (c M 𝓤 𝓛 𝓜.mem 𝓡.returns))

-- a function, exported from the library or from a crate: its signature, its contract and its code
pub record Exported : Type 3 where
  pub ended : Ended
  pub clauses : ClausesOf ended
  pub name : Callee
  pub code : Code

module _ (f : Exported) where
  -- its code meets its contract
  abbrev pub Met : Type 2
  Met = RoutineMeets f.ended f.name f.code f.clauses

  abbrev pub Lifetimes : Type 0
  Lifetimes = Lfts f.ended.signature.lifetimes

  -- what a call is given
  abbrev pub Given : Lifetimes → Type 0
  Given κs = Args f.ended.signature κs

  -- what it returns
  abbrev pub Returned : Lifetimes → Type 0
  Returned κs = Res f.ended.signature κs

  -- what its parameters are afterwards
  abbrev pub Left : Lifetimes → Type 0
  Left κs = AtExit f.ended κs

  -- its whole result: what it returns, and the last value of each `&mut`
  abbrev pub Result : (κs : Lifetimes) → Given κs → Type 0
  Result κs a = Returned κs × Lasts f.ended κs a

  -- something that is said of what a call is given, what it returns and what is left
  abbrev pub Claim : Type 1
  Claim = (κs : Lifetimes) → Given κs → Returned κs → Left κs → Type 0

  -- for every input one result
  abbrev pub Definition : Type 0
  Definition = (κs : Lifetimes) (a : Given κs) → Result κs a

  -- its contract for these arguments, at a model
  abbrev pub contract_at : (w : World) (κs : Lifetimes) (a : Given κs) → ClausesAt w.𝓤 f.ended κs
  contract_at w = f.clauses w.M w.𝓤 w.𝓛 w.𝓜.mem w.𝓡.returns

  module _ (w : World) (κs : Lifetimes) (a : Given κs) where
    -- what a contract's `ensures` says of a result
    abbrev pub allows : (c : ClausesAt w.𝓤 f.ended κs) → c.ghost → Result κs a → Pr w
    allows c g r = c.ensures g r.0 (at_exit f.ended κs a r.1)

    -- these clauses ask nothing of a caller, and allow the one result and no other
    pub record Exactly (c : ClausesAt w.𝓤 f.ended κs) (result : Result κs a) : Type 2 where
      pub ghost : c.ghost
      pub unasked : ent w.𝓤 (emp w.𝓤) (c.requires ghost)
      pub allowed : (g : c.ghost) → ent w.𝓤 (emp w.𝓤) (allows c g result)
      pub only : (g : c.ghost) (r : Result κs a) → ent w.𝓤 (allows c g r) (fact w.𝓤 (r ≡ result))

  -- two results that the contract allows are equal, lent memory included (RULES 10.1, 10.2)
  abbrev pub SingleResult : Type 2
  SingleResult =
      (w : World) (κs : Lifetimes) (a : Given κs) (g : (contract_at w κs a).ghost) (r s : Result κs a) →
      ent w.𝓤 (sep w.𝓤 (allows w κs a (contract_at w κs a) g r) (allows w κs a (contract_at w κs a) g s)) (fact w.𝓤 (r ≡ s))

  -- the code itself, called with anything at all, meets a demand
  pub record CodeMeets (demand : Claim) : Type 2 where
    pub meets : RoutineMeets f.ended f.name f.code λ M 𝓤 𝓛 mem run κs a.
        record { ghost = Unit {0}; requires = λ g. emp 𝓤; ensures = λ g r e. fact 𝓤 (demand κs a r e) }

  -- what is returned and what is left are the definition's
  abbrev pub Gives : Definition → Claim
  Gives definition κs a r e = (r ≡ (definition κs a).0) × (e ≡ at_exit f.ended κs a (definition κs a).1)

  -- the contract says what the definition says: it allows the definition's result, for every input, and no other
  pub record Pledged (definition : Definition) : Type 2 where
    pub exactly : (w : World) (κs : Lifetimes) (a : Given κs) → Exactly w κs a (contract_at w κs a) (definition κs a)
    pub single : SingleResult
