-- Functions of bodies and routines of operations begin with an instruction, so their entries are even words.
use Rattle.std.proofs.Common.{◌≡◌, ℕ, zero, suc, ◌+◌, ◌*◌, ◌/◌, ◌%◌, ◌<◌, ◌≤◌, Bool, true, false, cond, nat_lt, List, [], ◌∷◌, ◌++◌, length, map, take, Option, Some, None, All, refl, sym, ap, subst, ◌∙◌, arith}
use Rattle.std.specs.Prelude.{slice_get}
use Rattle.std.proofs.lemmas.Bool.{ne_eqb}
use Rattle.std.proofs.lemmas.List.Elements.{All-head, All-tail}
use Rattle.nm_base.specs.declared.int_type.IntType.{IntType}
use Rattle.nm_base.specs.declared.int_type.IntType.TheVariants.{I8, U8, I16, U16, I32, U32}
use Rattle.nesc_core.specs.Plain.{Body, Program, Ty, array, int, pointer, struct, void}
use Rattle.nesc_core.specs.Typing.{IsScalar}
use Rattle.nesc_core.specs.Weights.{stmt_levels}
use Rattle.nesc_core.specs.WellFormed.{IsBody, IsWellFormed}
use Rattle.core_meaning.specs.Work.{number_of}
use Rattle.msp_isa.specs.declared.code.CodeFn.{CodeFn}
use Rattle.msp_isa.specs.declared.code.Item.{Item}
use Rattle.msp_isa.specs.declared.code.Item.TheVariants as item
use Rattle.msp_isa.specs.Stands.{AreAt, IsLaid, LeadsTo, instructions, item_at, items_of}
use Rattle.msp430_cpu.specs.Cpu.{even}
use Rattle.mid_code.specs.declared.code.MidFn.{MidFn}
use Rattle.mid_code.specs.declared.help.HelpOp.{HelpOp}
use Rattle.mid_code.specs.declared.help.HelpOp.TheVariants.{Mul, Div, Rem, Shl, Shr}
use Rattle.mid_code.specs.Help.{is_wide, operation_at, type_at}
use Rattle.mid_code.specs.Machine.{no_fn}
use Rattle.lower_expr.specs.Pieces.{values_at}
use Rattle.lower_stmt.specs.Bodies.{all_values, base_of, checks_of, lowered, mid_fn_of, params_from, values_of}
use Rattle.lower_pace.specs.Pace.{own_of}
use Rattle.lower_pace.proofs.Bodies.{fn_some}
use Rattle.msp_select.specs.Frames.{is_among, others_below, own_bytes}
use Rattle.msp_select.specs.Laid.{parts}
use Rattle.msp_select.specs.Select.{Part, items_of as items_of_parts, zero_loop, zeros}
use Rattle.msp_runtime.specs.Code.{routine_items}
use Rattle.msp_runtime.specs.Routines.{code_at, code_for, code_of}
use Rattle.program_image.specs.Image.{functions_of, homes_of}
use Rattle.program_image.proofs.Roots.{element}

abbrev pub Begins : List Item → Type 0
Begins (item.Is i ∷ items) = Unit {0}
Begins _ = ⊥

-- ---- such a function's entry

pub entry_is : (image : ℕ → ℕ) (code : List CodeFn) (entries : ℕ → ℕ) (laid : IsLaid image code entries) (f : ℕ) (items : List Item) → f < length code → items_of code f ≡ items → Begins items →
    (even (entries f) ≡ entries f) × (entries f < 0x10000)
entry_is image code entries laid f [] lt same begins = absurd begins
entry_is image code entries laid f (item.Label l ∷ items) lt same begins = absurd begins
entry_is image code entries laid f (item.Jump c l ∷ items) lt same begins = absurd begins
entry_is image code entries laid f (item.CallFn g ∷ items) lt same begins = absurd begins
entry_is image code entries laid f (item.AddrOf g r ∷ items) lt same begins = absurd begins
entry_is image code entries laid f (item.Is i ∷ items) lt same begins =
    let stands = subst (λ l. 0 < length l → LeadsTo l (item_at l 0) 0 → AreAt image (laid.places f 0) (instructions entries (laid.long f 0) (laid.places f 0) (laid.places f 0) (item_at l 0)) (laid.places f (0 + 1))) same (laid.stands f 0 0 lt) in
    let e = laid.entry f lt in
    by_form (laid.long f 0) e (stands (omega arith) tt)
  where
    by_form : (long : Bool) → laid.places f 0 ≡ entries f → AreAt image (laid.places f 0) (instructions entries long (laid.places f 0) (laid.places f 0) (item.Is i)) (laid.places f (0 + 1)) → (even (entries f) ≡ entries f) × (entries f < 0x10000)
    by_form true e h = let a = h.0.even in let b = h.0.high in (omega (arith, a, e), omega (arith, b, e))
    by_form false e h = let a = h.0.even in let b = h.0.high in (omega (arith, a, e), omega (arith, b, e))

-- ---- routines

code_begins : (t : IntType) (o : HelpOp) → Begins (routine_items (code_for t o))
code_begins I8 Mul = tt
code_begins I8 Div = tt
code_begins I8 Rem = tt
code_begins I8 Shl = tt
code_begins I8 Shr = tt
code_begins U8 Mul = tt
code_begins U8 Div = tt
code_begins U8 Rem = tt
code_begins U8 Shl = tt
code_begins U8 Shr = tt
code_begins I16 Mul = tt
code_begins I16 Div = tt
code_begins I16 Rem = tt
code_begins I16 Shl = tt
code_begins I16 Shr = tt
code_begins U16 Mul = tt
code_begins U16 Div = tt
code_begins U16 Rem = tt
code_begins U16 Shl = tt
code_begins U16 Shr = tt
code_begins I32 Mul = tt
code_begins I32 Div = tt
code_begins I32 Rem = tt
code_begins I32 Shl = tt
code_begins I32 Shr = tt
code_begins U32 Mul = tt
code_begins U32 Div = tt
code_begins U32 Rem = tt
code_begins U32 Shl = tt
code_begins U32 Shr = tt

any_begins : (t : Option IntType) (o : Option HelpOp) → Begins (routine_items (code_of t o))
any_begins (Some t) (Some o) = code_begins t o
any_begins None o = tt
any_begins (Some t) None = tt

pub routine_begins : (h : ℕ) → Begins (routine_items (code_at h))
routine_begins h = any_begins (type_at (h / 8)) (operation_at (h % 8))

-- ---- functions of bodies: some value is no parameter

beside : (v x : ℕ) (rest : List ℕ) → v < x → is_among rest x ≡ false → is_among (v ∷ rest) x ≡ false
beside v x rest lt h = ap (λ t. cond t true (is_among rest x)) (ne_eqb v x (λ e. omega (arith, e, lt))) ∙ h

param_beside : (t : Ty) (v x : ℕ) (rest : List ℕ) → IsScalar t → v + values_of t ≤ x → is_among rest x ≡ false → is_among (values_at (is_wide (number_of t)) v ++ rest) x ≡ false
param_beside void v x rest ok le h = absurd ok
param_beside (int I8) v x rest ok le h = beside v x rest (omega (arith, le)) h
param_beside (int U8) v x rest ok le h = beside v x rest (omega (arith, le)) h
param_beside (int I16) v x rest ok le h = beside v x rest (omega (arith, le)) h
param_beside (int U16) v x rest ok le h = beside v x rest (omega (arith, le)) h
param_beside (int I32) v x rest ok le h = beside v x ((v + 1) ∷ rest) (omega (arith, le)) (beside (v + 1) x rest (omega (arith, le)) h)
param_beside (int U32) v x rest ok le h = beside v x ((v + 1) ∷ rest) (omega (arith, le)) (beside (v + 1) x rest (omega (arith, le)) h)
param_beside (pointer t) v x rest ok le h = beside v x rest (omega (arith, le)) h
param_beside (array t m) v x rest ok le h = absurd ok
param_beside (struct k) v x rest ok le h = absurd ok

params_beside : (ts : List Ty) (k v x : ℕ) → All IsScalar (take k ts) → v + all_values ts ≤ x → is_among (params_from (take k ts) v) x ≡ false
params_beside [] zero v x h le = refl
params_beside [] (suc k) v x h le = refl
params_beside (t ∷ ts) zero v x h le = refl
params_beside (t ∷ ts) (suc k) v x h le =
    param_beside t v x (params_from (take k ts) (v + values_of t)) (All-head IsScalar t (take k ts) h) (omega (arith, le))
    (params_beside ts k (v + values_of t) x (All-tail IsScalar t (take k ts) h) (omega (arith, le)))

others_some : (ps : List ℕ) (n v : ℕ) → n ≡ suc v → is_among ps v ≡ false → 1 ≤ others_below ps n
others_some ps n v e none = subst (λ m. 1 ≤ others_below ps m) (sym e) (by_test (is_among ps v) none)
  where
    by_test : (t : Bool) → t ≡ false → 1 ≤ others_below ps v + cond t 0 1
    by_test true h = absurd (let z : ⊥ = cc in z)
    by_test false h = omega arith

own_some : (p : Program) (b : Body) → IsBody p b → 1 ≤ own_bytes (mid_fn_of p (checks_of p) b) / 2
own_some p b own =
    let v : ℕ = base_of b + 2 * stmt_levels b.code + 7 in
    let some = others_some (params_from (take b.params b.locals) 0) (base_of b + 2 * stmt_levels b.code + 8) v (omega arith) (params_beside b.locals b.params 0 v own.passed (omega arith)) in
    omega (arith, some)

not_none : (g : Body → MidFn) (bs : List Body) (f : ℕ) → f < length (map g bs) → slice_get bs f ≡ None → ⊥
not_none g [] f lt e = absurd (omega (arith, lt))
not_none g (b ∷ bs) zero lt e = cc
not_none g (b ∷ bs) (suc f) lt e = not_none g bs f (omega (arith, lt)) e

own_of_some : (p : Program) → IsWellFormed p → (f : ℕ) → f < functions_of p → 1 ≤ own_of p f / 2
own_of_some p well f lt = by_body (slice_get p.bodies f) refl
  where
    by_body : (o : Option Body) → slice_get p.bodies f ≡ o → 1 ≤ own_of p f / 2
    by_body None e = absurd (not_none (mid_fn_of p (checks_of p)) p.bodies f lt e)
    by_body (Some b) e =
        subst (λ (fn : MidFn). 1 ≤ own_bytes fn / 2) (sym (fn_some (mid_fn_of p (checks_of p)) p.bodies f b no_fn e)) (own_some p b (element (IsBody p) p.bodies f b well.bodies e))

parts_begin : (n : ℕ) (few : Bool) (rest : List Part) → 1 ≤ n → Begins (items_of_parts (cond few (zeros n) (zero_loop n) ++ rest))
parts_begin zero few rest le = absurd (omega (arith, le))
parts_begin (suc n) true rest le = tt
parts_begin (suc n) false rest le = tt

pub function_begins : (p : Program) → IsWellFormed p → (f : ℕ) → f < functions_of p → Begins (items_of_parts (parts (lowered p) (homes_of p) (own_of p) f))
function_begins p well f lt = parts_begin (own_of p f / 2) (nat_lt (own_of p f / 2) 6) _ (own_of_some p well f lt)
