-- The boot body and the handlers of a program are bodies without parameters and results, and bodies are functions of its lowered code.
use Rattle.std.proofs.Common.{◌≡◌, ℕ, zero, suc, ◌+◌, ◌<◌, ◌==◌, Bool, true, false, cond, List, [], ◌∷◌, ◌++◌, length, map, take, Option, Some, None, All, refl, sym, ap, subst, ◌∙◌, arith}
use Rattle.std.specs.Prelude.{slice_get}
use Rattle.std.proofs.lemmas.List.Elements.{All-head, All-tail}
use Rattle.nesc_core.specs.Plain.{Body, Program, void}
use Rattle.nesc_core.specs.WellFormed.{BeginsContext, IsRoot, IsWellFormed, boots, handles, is_task}
use Rattle.core_meaning.specs.SourceOf.{handler_in}
use Rattle.mid_code.specs.declared.code.MidFn.{MidFn}
use Rattle.mid_code.specs.declared.instr.Mid.{Mid}
use Rattle.mid_code.specs.declared.instr.Mid.TheVariants.{Ret}
use Rattle.mid_code.specs.Form.{FitsProgram, IsMidCode}
use Rattle.mid_code.specs.Machine.{fn_of, no_fn}
use Rattle.lower_expr.specs.Code.{taken_at}
use Rattle.lower_stmt.specs.Bodies.{base_of, body_code, checks_of, lowered, mid_fn_of, params_from, spots_of, ways_of}
use Rattle.lower_stmt.specs.Code.{nothing_code, stmt_code}
use Rattle.lower_form.proofs.Fits.{taken_length}
use Rattle.lower_pace.proofs.Bodies.{fn_some}

pub element : {A : Type 0} (P : A → Type 0) (xs : List A) (k : ℕ) (x : A) → All P xs → slice_get xs k ≡ Some x → P x
element P [] k x h e = absurd (cc)
element P (y ∷ xs) zero x h e = let same : y ≡ x = cc in subst P same (All-head P y xs h)
element P (y ∷ xs) (suc k) x h e = element P xs k x (All-tail P y xs h) e

there : (g : Body → MidFn) (bs : List Body) (f : ℕ) (b : Body) → slice_get bs f ≡ Some b → f < length (map g bs)
there g [] f b e = absurd (cc)
there g (x ∷ bs) zero b e = omega arith
there g (x ∷ bs) (suc f) b e = let h = there g bs f b e in omega (arith, h)

-- ---- bodies

pub record IsPlainBody (p : Program) (f : ℕ) : Type 0 where
  pub body : Body
  pub is : slice_get p.bodies f ≡ Some body
  pub params : body.params ≡ 0
  pub result : body.result ≡ void

plain_body : (p : Program) (f : ℕ) (o : Option Body) → slice_get p.bodies f ≡ o → IsRoot o → IsPlainBody p f
plain_body p f None e h = absurd h
plain_body p f (Some b) e h = record { body = b; is = e; params = h.0; result = h.1 }

is_root : (p : Program) → IsWellFormed p → (f : ℕ) → BeginsContext p f → IsRoot (slice_get p.bodies f)
is_root p well f (boots e) = subst (λ g. IsRoot (slice_get p.bodies g)) (sym e) well.boot
is_root p well f (is_task k e) = element (λ g. IsRoot (slice_get p.bodies g)) p.tasks k f well.tasks e
is_root p well f (handles k line e) = element (λ (h : ℕ × ℕ). IsRoot (slice_get p.bodies h.1)) p.handlers k (line, f) well.handlers e

pub root_body : (p : Program) → IsWellFormed p → (f : ℕ) → BeginsContext p f → IsPlainBody p f
root_body p well f context = plain_body p f (slice_get p.bodies f) refl (is_root p well f context)

-- ---- functions

pub fn_there : (p : Program) (f : ℕ) (b : Body) → slice_get p.bodies f ≡ Some b → f < length (lowered p).fns
fn_there p f b is = there (mid_fn_of p (checks_of p)) p.bodies f b is

pub fn_params : (p : Program) (f : ℕ) (b : Body) → slice_get p.bodies f ≡ Some b → b.params ≡ 0 → (fn_of (lowered p) f).params ≡ []
fn_params p f b is none =
    ap (λ (fn : MidFn). fn.params) (fn_some (mid_fn_of p (checks_of p)) p.bodies f b no_fn is)
    ∙ ap (λ k. params_from (take k b.locals) 0) none

pub root_there : (p : Program) (f : ℕ) → IsPlainBody p f → f < length (lowered p).fns
root_there p f r = fn_there p f r.body r.is

pub root_params : (p : Program) (f : ℕ) → IsPlainBody p f → (fn_of (lowered p) f).params ≡ []
root_params p f r = fn_params p f r.body r.is r.params

-- what a function gives back is what its last instruction does
behind : (P : Mid → Type 0) (a b : List Mid) → All P (a ++ b) → All P b
behind P [] b h = h
behind P (i ∷ a) b h = behind P a b (All-tail P i (a ++ b) h)

module _ (p : Program) (form : IsMidCode (lowered p)) (f : ℕ) where
  abbrev Fits : Mid → Type 0
  Fits = FitsProgram (lowered p) form.gives f

  pub fn_gives : (b : Body) → slice_get p.bodies f ≡ Some b → length (taken_at b.result 0) ≡ form.gives f
  fn_gives b is =
      let last : List Mid = Ret (taken_at b.result (base_of b + 2)) ∷ [] in
      let nothing : List Mid = nothing_code b.result (base_of b + 2) in
      let all : All Fits (body_code p (checks_of p) b) = subst (λ (fn : MidFn). All Fits fn.code) (fn_some (mid_fn_of p (checks_of p)) p.bodies f b no_fn is) (form.fits f) in
      let at_end : All Fits last = behind Fits nothing last (behind Fits (stmt_code p b.locals (checks_of p) (spots_of p b) (base_of b) b.code (ways_of p b) 0) (nothing ++ last) all) in
      taken_length b.result 0 (base_of b + 2) ∙ All-head Fits (Ret (taken_at b.result (base_of b + 2))) [] at_end

-- ---- handlers

abbrev IsFound : List (ℕ × ℕ) → ℕ → Type 0
IsFound handlers f = (k : ℕ) × (line : ℕ) × (slice_get handlers k ≡ Some (line, f))

found_on : (t : Bool) (h : ℕ × ℕ) (handlers : List (ℕ × ℕ)) (v f : ℕ) → (handler_in handlers v ≡ Some f → IsFound handlers f) → cond t (Some h.1) (handler_in handlers v) ≡ Some f → IsFound (h ∷ handlers) f
found_on true h handlers v f later e = let same : h.1 ≡ f = cc in (0, h.0, ap (λ g. Some (h.0, g)) same)
found_on false h handlers v f later e = let r = later e in (suc r.0, r.1, r.2)

found : (handlers : List (ℕ × ℕ)) (v f : ℕ) → handler_in handlers v ≡ Some f → IsFound handlers f
found [] v f e = absurd (cc)
found (h ∷ handlers) v f e = found_on (h.0 == v) h handlers v f (found handlers v f) e

pub handler_begins : (p : Program) (v f : ℕ) → handler_in p.handlers v ≡ Some f → BeginsContext p f
handler_begins p v f e = let r = found p.handlers v f e in handles r.0 r.1 r.2
