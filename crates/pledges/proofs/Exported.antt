-- What follows from the form of a pledge, for all functions at once.
--
-- A contract that is one claim (or two), the same at every model, allows a result exactly where the claim holds of it; so it is enough
-- to show that the claim holds of the definition's result and of no other. Where a contract allows one result alone, two that it
-- allows are equal; and code that meets it meets every demand that the definition meets, by the rule of consequence.
use mathlib.Core.Path.{◌≡◌, sym, subst, subst⁻¹, ◌∙◌}
use base.Logic.{ent, sep, emp, id⊢, via, mono∗, mono_r, fst∗, snd∗, emp∗}
use types.Logic.{sem}
use contract.Monad.{fact, fact_i, fact_mono, fact_use}
use denote.Ask.Run.{routine_mono}
use denote.Triple.Clauses.{Lasts, at_exit, lasts}
use denote.Triple.Weaken.{weaken_under}
use borrow.Fn.World.{World}
use Rattle.pledges.specs.Exported.{
  Exported,
  Lifetimes,
  Given,
  Returned,
  Left,
  Claim,
  Result,
  Definition,
  contract_at,
  allows,
  Exactly,
  Met,
  Pledged,
  SingleResult,
  CodeMeets,
}

module _ (f : Exported) (definition : Definition f) where
  abbrev AllExactly : Type 2
  AllExactly = (w : World) (κs : Lifetimes f) (a : Given f κs) → Exactly f w κs a (contract_at f w κs a) (definition κs a)

  -- what a claim says of a whole result
  abbrev Of : (claim : Claim f) (κs : Lifetimes f) (a : Given f κs) → Result f κs a → Type 0
  Of claim κs a r = claim κs a r.0 (at_exit f.ended κs a r.1)

  -- ---- what follows where the contract allows the definition's result alone

  module _ (exactly : AllExactly) where
    -- two results that the contract allows are equal
    single_result : SingleResult f
    single_result w κs a g r s =
        let P = allows f w κs a (contract_at f w κs a) g r in
        let Q = allows f w κs a (contract_at f w κs a) g s in
        fact_use w.𝓤 (r ≡ definition κs a) (via w.𝓤 P (fst∗ w.𝓤 P Q) ((exactly w κs a).only g r))
        (λ p. via w.𝓤 Q (snd∗ w.𝓤 P Q)
        (via w.𝓤 (fact w.𝓤 (s ≡ definition κs a)) ((exactly w κs a).only g s)
        (fact_mono w.𝓤 (s ≡ definition κs a) (r ≡ s) (λ q. p ∙ sym q))))

    pledge : Pledged f definition
    pledge = record { exactly = exactly; single = single_result }

  -- ---- the two forms of our contracts

  -- a contract that asks nothing and makes one claim
  pub one_claim :
      {P : Claim f} →
      ((w : World) (κs : Lifetimes f) (a : Given f κs) →
      contract_at f w κs a ≡ record { ghost = Unit {0}; requires = λ g. emp w.𝓤; ensures = λ g r e. fact w.𝓤 (P κs a r e) }) →
      ((κs : Lifetimes f) (a : Given f κs) → Of P κs a (definition κs a)) →
      ((κs : Lifetimes f) (a : Given f κs) (r : Result f κs a) → Of P κs a r → r ≡ definition κs a) →
      Pledged f definition
  one_claim {P} reads holds only = pledge λ w κs a.
      subst⁻¹ (λ c. Exactly f w κs a c (definition κs a)) (reads w κs a)
      (record {
        ghost = tt;
        unasked = id⊢ w.𝓤 (emp w.𝓤);
        allowed = λ g. fact_i w.𝓤 (Of P κs a (definition κs a)) (emp w.𝓤) (holds κs a);
        only = λ g r. fact_mono w.𝓤 (Of P κs a r) (r ≡ definition κs a) (only κs a r);
      })

  -- a contract that asks nothing and makes two claims
  pub two_claims :
      {P Q : Claim f} →
      ((w : World) (κs : Lifetimes f) (a : Given f κs) →
      contract_at f w κs a ≡ record {
        ghost = Unit {0};
        requires = λ g. emp w.𝓤;
        ensures = λ g r e. sep w.𝓤 (fact w.𝓤 (P κs a r e)) (fact w.𝓤 (Q κs a r e));
      }) →
      ((κs : Lifetimes f) (a : Given f κs) → Of P κs a (definition κs a) × Of Q κs a (definition κs a)) →
      ((κs : Lifetimes f) (a : Given f κs) (r : Result f κs a) → Of P κs a r → Of Q κs a r → r ≡ definition κs a) →
      Pledged f definition
  two_claims {P} {Q} reads hold only = pledge λ w κs a.
      subst⁻¹ (λ c. Exactly f w κs a c (definition κs a)) (reads w κs a)
      (record {
        ghost = tt;
        unasked = id⊢ w.𝓤 (emp w.𝓤);
        allowed = λ g.
            via w.𝓤 (sep w.𝓤 (emp w.𝓤) (emp w.𝓤)) (emp∗ w.𝓤 (emp w.𝓤))
            (mono∗ w.𝓤 (fact_i w.𝓤 (Of P κs a (definition κs a)) (emp w.𝓤) (hold κs a).0)
            (fact_i w.𝓤 (Of Q κs a (definition κs a)) (emp w.𝓤) (hold κs a).1));
        only = λ g r.
            fact_use w.𝓤 (Of P κs a r) (fst∗ w.𝓤 (fact w.𝓤 (Of P κs a r)) (fact w.𝓤 (Of Q κs a r)))
            (λ p. via w.𝓤 (fact w.𝓤 (Of Q κs a r)) (snd∗ w.𝓤 (fact w.𝓤 (Of P κs a r)) (fact w.𝓤 (Of Q κs a r)))
            (fact_mono w.𝓤 (Of Q κs a r) (r ≡ definition κs a) (only κs a r p)));
      })

-- ---- a contract that makes one claim, whatever it asks

pub single_claim : (f : Exported) {P : Claim f} →
    ((w : World) (κs : Lifetimes f) (a : Given f κs) (g : (contract_at f w κs a).ghost) (r : Returned f κs) (e : Left f κs) →
    (contract_at f w κs a).ensures g r e ≡ fact w.𝓤 (P κs a r e)) →
    ((κs : Lifetimes f) (a : Given f κs) (r s : Result f κs a) → P κs a r.0 (at_exit f.ended κs a r.1) →
    P κs a s.0 (at_exit f.ended κs a s.1) → r ≡ s) → SingleResult f
single_claim f {P} reads one w κs a g r s =
    let A = allows f w κs a (contract_at f w κs a) g r in
    let B = allows f w κs a (contract_at f w κs a) g s in
    let left : Lasts f.ended κs a → Left f κs = at_exit f.ended κs a in
    fact_use w.𝓤 (P κs a r.0 (left r.1))
    (subst (λ C. ent w.𝓤 (sep w.𝓤 A B) C) (reads w κs a g r.0 (left r.1)) (fst∗ w.𝓤 A B))
    (λ p. via w.𝓤 (fact w.𝓤 (P κs a s.0 (left s.1)))
    (subst (λ C. ent w.𝓤 (sep w.𝓤 A B) C) (reads w κs a g s.0 (left s.1)) (snd∗ w.𝓤 A B))
    (fact_mono w.𝓤 (P κs a s.0 (left s.1)) (r ≡ s) (one κs a r s p)))

-- and one that makes two
pub single_claims : (f : Exported) {P Q : Claim f} →
    ((w : World) (κs : Lifetimes f) (a : Given f κs) (g : (contract_at f w κs a).ghost) (r : Returned f κs) (e : Left f κs) →
    (contract_at f w κs a).ensures g r e ≡ sep w.𝓤 (fact w.𝓤 (P κs a r e)) (fact w.𝓤 (Q κs a r e))) →
    ((κs : Lifetimes f) (a : Given f κs) (r s : Result f κs a) →
    P κs a r.0 (at_exit f.ended κs a r.1) × Q κs a r.0 (at_exit f.ended κs a r.1) →
    P κs a s.0 (at_exit f.ended κs a s.1) × Q κs a s.0 (at_exit f.ended κs a s.1) → r ≡ s) → SingleResult f
single_claims f {P} {Q} reads one w κs a g r s =
    let A = allows f w κs a (contract_at f w κs a) g r in
    let B = allows f w κs a (contract_at f w κs a) g s in
    let left : Lasts f.ended κs a → Left f κs = at_exit f.ended κs a in
    let Pr = fact w.𝓤 (P κs a r.0 (left r.1)) in
    let Qr = fact w.𝓤 (Q κs a r.0 (left r.1)) in
    let Ps = fact w.𝓤 (P κs a s.0 (left s.1)) in
    let Qs = fact w.𝓤 (Q κs a s.0 (left s.1)) in
    let of_r = subst (λ C. ent w.𝓤 (sep w.𝓤 A B) C) (reads w κs a g r.0 (left r.1)) (fst∗ w.𝓤 A B) in
    let of_s = subst (λ C. ent w.𝓤 (sep w.𝓤 A B) C) (reads w κs a g s.0 (left s.1)) (snd∗ w.𝓤 A B) in
    fact_use w.𝓤 (P κs a r.0 (left r.1)) (via w.𝓤 (sep w.𝓤 Pr Qr) of_r (fst∗ w.𝓤 Pr Qr))
    (λ p. fact_use w.𝓤 (Q κs a r.0 (left r.1)) (via w.𝓤 (sep w.𝓤 Pr Qr) of_r (snd∗ w.𝓤 Pr Qr))
    (λ p'. fact_use w.𝓤 (P κs a s.0 (left s.1)) (via w.𝓤 (sep w.𝓤 Ps Qs) of_s (fst∗ w.𝓤 Ps Qs))
    (λ q. via w.𝓤 Qs (via w.𝓤 (sep w.𝓤 Ps Qs) of_s (snd∗ w.𝓤 Ps Qs))
    (fact_mono w.𝓤 (Q κs a s.0 (left s.1)) (r ≡ s) (λ q'. one κs a r s (p, p') (q, q'))))))

-- ---- for whoever has a pledge

-- code that meets its contract meets every demand that the definition meets
pub code_meets : {f : Exported} {definition : Definition f} {demand : Claim f} → Met f → Pledged f definition →
    ((κs : Lifetimes f) (a : Given f κs) → Of f definition demand κs a (definition κs a)) → CodeMeets f demand
code_meets {f} {definition} {demand} met p holds =
    record {
      meets = λ M 𝓤 𝓛 𝓜 𝓡 wired.
          let w : World = record { M = M; 𝓤 = 𝓤; 𝓛 = 𝓛; 𝓜 = 𝓜; 𝓡 = 𝓡 } in
          weaken_under 𝓛 f.ended (contract_at f w)
          (λ κs a. record { ghost = Unit {0}; requires = λ g. emp 𝓤; ensures = λ g r e. fact 𝓤 (demand κs a r e) })
          (λ κs a g. (p.exactly w κs a).ghost) (λ κs a g. Unit {0}) (λ κs a g. fact_i 𝓤 (Unit {0}) (emp 𝓤) tt)
          (λ κs a g _. (p.exactly w κs a).unasked)
          (λ κs a g _ r ws. mono_r 𝓤 (sem 𝓛 (lasts f.ended κs a ws))
          (via 𝓤 (fact 𝓤 (◌≡◌ {A = Result f κs a} (r, ws) (definition κs a))) ((p.exactly w κs a).only (p.exactly w κs a).ghost (r, ws))
          (fact_mono 𝓤 _ (demand κs a r (at_exit f.ended κs a ws)) (λ e. subst⁻¹ (λ t. Of f definition demand κs a t) e (holds κs a)))))
          (𝓡.run (𝓡.env f.name)) (routine_mono 𝓤 𝓛.H 𝓜 𝓡 (𝓡.env f.name)) (met M 𝓤 𝓛 𝓜 𝓡 wired);
    }
