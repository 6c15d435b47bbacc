-- What a body does that begins a context of the base.
use Rattle.std.proofs.Common.{◌≡◌, ℕ, ℤ, zero, suc, Bool, false, inl, inr, List, [], ◌∷◌, ◌++◌, length, Option, Some, None, refl, sym, subst, arith}
use Rattle.std.specs.Prelude.{slice_get}
use Rattle.std.proofs.lemmas.Bool.{false≢true}
use Rattle.nesc_core.specs.Plain.{Place, Body, Program}
use Rattle.nm_base.specs.Behaviour.{Behaviour}
use Rattle.core_meaning.specs.Flow.{result}
use Rattle.core_meaning.specs.Act.{Calls, holding, enter, calls_of, root}
use Rattle.call_graph.specs.Uses.{Use, Access, stmt_uses, uses_of, uses}
use Rattle.call_graph.specs.Uses as use_
use Rattle.call_graph.specs.Paths.{IsIn, bare_callee, bare_callees, base_roots, Leads, IsBarePath}
use Rattle.call_graph.proofs.Lists.{in_flat}
use Rattle.race_checker.specs.Bare.{bytes, IsLaidOut, HasBareSite}
use Rattle.call_graph.proofs.Chains.{leads_on}
use Rattle.race_checker.proofs.Keeps.{Keeps, CallGoes}
use Rattle.race_checker.proofs.Places.{LiesIn, Layouts}
use Rattle.race_checker.proofs.Bodies.{Each, Deep, outside, Allows, run_goes}

each_of : (P : Use → Type 0) (us : List Use) → ((u : Use) → IsIn u us → P u) → Each P us
each_of P [] h = tt
each_of P (u ∷ us) h = (h u (inl refl), each_of P us (λ v there. h v (inr there)))

-- some bare path leads to this body
abbrev IsReached : Program → ℕ → Type 0
IsReached p f = (path : List ℕ) × IsBarePath p path f

one_more : (p : Program) (f g : ℕ) → IsReached p f → IsIn g (bare_callees p f) → IsReached p g
one_more p f g ([], reached) step = absurd reached
one_more p f g (x ∷ rest, reached) step = (x ∷ (rest ++ g ∷ []), (reached.0, leads_on (bare_callees p) x f g rest reached.1 step))

module _ (p : Program) (layouts : Layouts p) (laid : IsLaidOut p) (n : ℕ) where
  site : (f node : ℕ) (place : Place) (pos : _) → IsReached p f → IsIn (Access node false place pos) (uses p f)
      → (a : ℕ) (is_word : Bool) → LiesIn p place a (bytes is_word) → HasBareSite p a is_word
  site f node place pos reached there a is_word lies = record {
    object = lies.which;
    body = f;
    node = node;
    pos = pos;
    path = reached.0;
    is_path = reached.1;
    touching = record { place = place; site = there; touched = lies.touched };
    inside = λ at from below. record { object = lies.object; is = lies.is; from = omega (arith, from, lies.from); below = omega (arith, below, lies.to) };
  }

  module _ (f d : ℕ) (reached : d ≡ 0 → IsReached p f) (calls : Calls) (deeper : (g e : ℕ) → (e ≡ 0 → IsReached p g) → CallGoes (HasBareSite p) calls g e) where
    allowed : (b : Body) → slice_get p.bodies f ≡ Some b → (u : Use) → IsIn u (uses p f) → Allows p layouts b.locals calls (HasBareSite p) d u
    allowed b is (Access node i place pos) there =
        (laid.scalar f b is node i place pos there, λ none out. site f node place pos (reached none) (subst (λ j. IsIn (Access node j place pos) (uses p f)) out there))
    allowed b is (use_.Calls node i g pos) there =
        λ e deep. deeper g e (λ none. let out = outside d i e deep none in
        one_more p f g (reached out.0) (in_flat bare_callee (use_.Calls node false g pos) g (uses p f) (subst (λ j. IsIn (use_.Calls node j g pos) (uses p f)) out.1 there) (inl refl)))

    enter_goes : (o : Option Body) → slice_get p.bodies f ≡ o → (arguments : List ℤ) (after : ℤ → Behaviour) → ((v : ℤ) → Keeps (HasBareSite p) d (after v))
        → Keeps (HasBareSite p) d (enter p o calls n arguments after)
    enter_goes None is arguments after h = tt
    enter_goes (Some b) is arguments after h =
        let here : (u : Use) → IsIn u (stmt_uses 0 false b.code) → Allows p layouts b.locals calls (HasBareSite p) d u =
        λ u there. allowed b is u (subst (λ o. IsIn u (uses_of o)) (sym is) there) in
        let start : Deep d false d = record { at_least = omega arith; more = λ no. absurd (false≢true no) } in
        (run_goes p layouts b.locals calls (HasBareSite p) d n b.code false d start 0 (each_of _ _ here)).by
        (λ flow locals. after (result flow)) (λ flow _ locals. h (result flow)) (holding p.structs b.locals arguments)

  calls_go : (depth f d : ℕ) → (d ≡ 0 → IsReached p f) → CallGoes (HasBareSite p) (calls_of p depth n) f d
  calls_go zero f d reached = record { by = λ arguments after h. tt }
  calls_go (suc depth) f d reached = record {
    by = λ arguments after h. enter_goes f d reached (calls_of p depth n) (calls_go depth) (slice_get p.bodies f) refl arguments after h;
  }

  pub root_keeps : (f : ℕ) → IsIn f (base_roots p) → Keeps (HasBareSite p) 0 (root p f n)
  root_keeps f is = (calls_go (length p.bodies) f 0 (λ _. (f ∷ [], (is, refl)))).by [] _ (λ v. tt)
