-- Code that meets the open law of what it does meets that of what this behaves as.
use Rattle.std.proofs.Common.{◌≡◌, ℕ, ◌+◌, ◌-◌, ◌≤◌, true, false, List, ◌∷◌, ◌++◌, sym, ap, subst, ◌∙◌, arith, append_assoc}
use mathlib.Core.Logic.{inl, inr}
use Rattle.nm_base.specs.Lists.{IsPrefixOf}
use Rattle.nm_base.specs.declared.action.Action.{Action}
use Rattle.nm_base.specs.Behaviour.{Trace, is_returned}
use Rattle.msp430_cpu.specs.Cpu.{Cpu}
use Rattle.lower_stmt.specs.Correct.{Behaves, Doing, GoesOn}
use Rattle.open_law.specs.Body.{HasGiven, HasReturned, IsBodyLaw, IsFunctionLaw, StartsOpen, StartsShut, acts, code_below}
use Rattle.open_law.specs.Open.{AreAll, AreNext, Code, Done, IsGated, IsOpenCode, IsShut, Open, answers_of}
use Rattle.program_image.specs.Bodies.{BehaviourKeepsFunctions, BehaviourKeepsLaws}
use Rattle.program_image.proofs.Answered.{AreAnswered, all_answered, front_answered, words_of}

grown : (t u : Trace) (l : List Action) → GoesOn t u → IsPrefixOf l t.actions → IsPrefixOf l u.actions
grown t u l (inl e) p = subst (λ (x : Trace). IsPrefixOf l x.actions) e p
grown t u l (inr r) p = (p.0 ++ r.1.0, sym (append_assoc l p.0 r.1.0) ∙ ap (λ x. x ++ r.1.0) p.1 ∙ sym r.1.1)

module _ (above below : Doing) (h : Behaves above below) where
  next_on : (ds : List Done) → AreAnswered ds → AreNext (acts below) ds → AreNext (acts above) ds
  next_on ds answered next front d back e =
      let q = next front d back e in
      let words = words_of front (front_answered front (d ∷ back) (subst AreAnswered e answered)) in
      let g = h.only (answers_of front) words q.0 in
      (g.0, grown (below (answers_of front) q.0) (above (answers_of front) g.0) _ g.1 q.1)

  all_on : (ds : List Done) → AreAnswered ds → AreAll (acts below) ds → AreAll (acts above) ds
  all_on ds answered a =
      let g = h.only (answers_of ds) (words_of ds answered) a.turns in by_case g.0 g.1
    where
      by_case : (n : ℕ) → GoesOn (below (answers_of ds) a.turns) (above (answers_of ds) n) → AreAll (acts above) ds
      by_case n (inl e) = record { turns = n; all = ap (λ (t : Trace). t.actions) (sym e) ∙ a.all; ended = ap (λ (t : Trace). is_returned t.why) (sym e) ∙ a.ended }
      by_case n (inr r) = let z : false ≡ true = ap is_returned (sym r.0) ∙ a.ended in absurd (let y : ⊥ = cc in y)

  back_on : (c : Cpu) (ram : ℕ → ℕ) (o : Open) → AreAnswered o.done → HasReturned (acts below) c ram o → HasReturned (acts above) c ram o
  back_on c ram o answered r = record { sp = r.sp; pc = r.pc; awake = r.awake; gate = r.gate; gie = r.gie; outside = r.outside; no_fault = r.no_fault; all = all_on o.done answered r.all }

  given_on : (gives : ℕ) (c : Cpu) (ram : ℕ → ℕ) (o : Open) → AreAnswered o.done → HasGiven gives below c ram o → HasGiven gives above c ram o
  given_on gives c ram o answered r =
      let g = h.only (answers_of o.done) (words_of o.done answered) r.turns in by_case g.0 g.1
    where
      by_case : (n : ℕ) → GoesOn (below (answers_of o.done) r.turns) (above (answers_of o.done) n) → HasGiven gives above c ram o
      by_case n (inl e) = record { returned = back_on c ram o answered r.returned; value = r.value; turns = n; ended = sym e ∙ r.ended; result = r.result }
      by_case n (inr q) = let z : false ≡ true = ap is_returned (sym q.0 ∙ ap (λ (t : Trace). t.why) r.ended) in absurd (let y : ⊥ = cc in y)

  code_on : (code : Code) → code.data_end ≤ 0x3900 → (lowest bound : ℕ) (Gate Back Again : Open → Type 0) (c : Cpu) (ram : ℕ → ℕ) → ((o : Open) → AreAnswered o.done → Back o → Again o) →
      IsOpenCode (acts below) code lowest bound Gate Back c ram → IsOpenCode (acts above) code lowest bound Gate Again c ram
  code_on code low_end lowest bound Gate Back Again c ram on law = record {
    between = λ moments ok.
        let k = law.between moments ok in
        let answered = all_answered (acts below) code low_end lowest bound Gate Back c ram law moments ok in
        record { next = next_on _ answered k.next; low = k.low; high = k.high; words = k.words; bytes = k.bytes; marks = k.marks; gate = k.gate; awake = k.awake; back = λ e. on _ answered (k.back e) };
    fair = law.fair;
    soon = law.soon;
  }

  module _ (image : ℕ → ℕ) (data_end : ℕ) (marks : ℕ → List Action) (Gate : Code → Open → Type 0) (entry depth bound : ℕ) (Starts : Cpu → Type 0) where
    body_on : IsBodyLaw image data_end marks Gate (acts below) entry depth bound Starts → IsBodyLaw image data_end marks Gate (acts above) entry depth bound Starts
    body_on law c ram pc starts awake words room high bytes =
        code_on (code_below image data_end marks (c.sp + 2)) (omega (arith, room, high)) (c.sp - depth) bound (Gate (code_below image data_end marks (c.sp + 2))) (HasReturned (acts below) c ram) (HasReturned (acts above) c ram) c ram
        (λ o answered r. back_on c ram o answered r) (law c ram pc starts awake words room high bytes)

    function_on : (gives : ℕ) → IsFunctionLaw image data_end marks Gate gives below entry depth bound Starts → IsFunctionLaw image data_end marks Gate gives above entry depth bound Starts
    function_on gives law c ram pc starts awake words room high bytes =
        code_on (code_below image data_end marks (c.sp + 2)) (omega (arith, room, high)) (c.sp - depth) bound (Gate (code_below image data_end marks (c.sp + 2))) (HasGiven gives below c ram) (HasGiven gives above c ram) c ram
        (λ o answered r. given_on gives c ram o answered r) (law c ram pc starts awake words room high bytes)

pub behaviour_keeps_laws : BehaviourKeepsLaws
behaviour_keeps_laws image data_end marks above below entry depth bound h law = (
  body_on above below h image data_end marks IsGated entry depth bound StartsOpen law.0,
  body_on above below h image data_end marks (λ code o. IsShut o) entry depth bound StartsShut law.1,
)

pub behaviour_keeps_functions : BehaviourKeepsFunctions
behaviour_keeps_functions image data_end marks gives above below entry depth bound h law = (
  function_on above below h image data_end marks IsGated entry depth bound StartsOpen gives law.0,
  function_on above below h image data_end marks (λ code o. IsShut o) entry depth bound StartsShut gives law.1,
)
