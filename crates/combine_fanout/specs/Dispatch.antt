-- What a dispatch function is: it calls the targets of the parameter's value in order, and combines what they give from the left (Gay et al. 2003, 2.3; nesC 1.3 Reference, 5.3 and 10.3).
use Rattle.std.specs.Prelude.{ℕ, ℤ, pos, zero, suc, ◌+◌, ◌++◌, Bool, true, false, ◌&&◌, not, nat_lt, List, [], ◌∷◌, length, map, flat_map, Option, Some, None, is_some, is_none, if◌then◌else◌}
use Rattle.std.specs.List.{list_any}
use Rattle.nm_base.specs.declared.pos.Pos.{Pos}
use Rattle.nesc_core.specs.Plain.{Ty, void, Expr, read, assign, call, local, Stmt, eval, block, switch, break, return, Body}
use Rattle.nesc_core.specs.Plain as plain
use Rattle.nesc_core.specs.View.{exprs, stmts}
use Rattle.combine_fanout.specs.declared.case.Case.{Case}
use Rattle.combine_fanout.specs.declared.item.Item.{Item}

-- Item: how many parameters the called item has, whether it has no result, the function that combines two results, and the place of its first call

-- the locals below n
abbrev pub locals_below : Pos → ℕ → List Expr
locals_below at zero = []
locals_below at (suc n) = locals_below at n ++ (read (local n) at ∷ [])

-- ---- the calls

-- a body is called with all parameters
abbrev pub target : Item → ℕ → Expr
target i b = call b (exprs (locals_below i.at (i.params))) i.at

-- the result so far stands in the local behind the parameters; where no function combines, the later result stands
abbrev pub kept : Item → Expr → Stmt
kept i e = elim i.combine as (λ _. Stmt) [ None ↦ eval e | Some f ↦ eval (assign (local (i.params)) e i.at) ]

abbrev pub combined : Item → Expr → Expr
combined i e = elim i.combine as (λ _. Expr) [ None ↦ e | Some f ↦ call f (exprs (read (local (i.params)) i.at ∷ e ∷ [])) i.at ]

-- what stands so far, and then the other calls
abbrev pub gives_behind : Item → Expr → List Expr → List Stmt
gives_behind i e [] = return (Some e) ∷ []
gives_behind i e (d ∷ rest) = kept i e ∷ gives_behind i (combined i d) rest

abbrev pub gives_each : Item → List Expr → List Stmt
gives_each i [] = []
gives_each i (e ∷ rest) = gives_behind i e rest

-- the calls of the bodies in order, with the result that they give
abbrev pub called : Item → List ℕ → List Stmt
called i bodies = if i.is_void then map eval (map (target i) bodies) else gives_each i (map (target i) bodies)

-- ---- the cases

-- a case ends by its result or by a break
abbrev pub closed : Item → Case → List Stmt
closed i c = called i c.bodies ++ (break ∷ [])

abbrev pub number : Option ℕ → Option ℤ
number None = None
number (Some n) = Some (pos n)

-- where each case begins, from a statement on
abbrev pub starts : Item → ℕ → List Case → List plain.Case
starts i n [] = []
starts i n (c ∷ rest) = record { value = number c.value; start = n } ∷ starts i (n + length (closed i c)) rest

abbrev pub by_parameter : Item → List Case → List Stmt
by_parameter i cases = switch (read (local 0) i.at) (starts i 0 cases) (stmts (flat_map (closed i) cases)) ∷ []

abbrev pub has_value : Case → Bool
has_value c = is_some c.value

-- without a parameter it is just the calls
abbrev pub code : Item → List Case → List Stmt
code i cases = if list_any has_value cases then by_parameter i cases else flat_map (λ c. called i c.bodies) cases

-- ---- the function

abbrev pub is_void : Ty → Bool
is_void void = true
is_void _ = false

abbrev pub item : List Ty → Ty → Option ℕ → Pos → Item
item params gives combine at = record { params = length params; is_void = is_void gives; combine = combine; at = at }

-- a result so far is kept where a function combines it with the next
abbrev pub result_local : Item → Ty → List Ty
result_local i gives = if is_some i.combine && not i.is_void then gives ∷ [] else []

abbrev pub dispatch : (name : List ℕ) (params : List Ty) (gives : Ty) → Item → List Case → Body
dispatch name params gives i cases = record {
  name = name;
  params = i.params;
  locals = params ++ result_local i gives;
  result = gives;
  code = block (stmts (code i cases));
  is_async = false;
  is_item = false;
}

abbrev pub has_two : Case → Bool
has_two c = nat_lt 1 (length c.bodies)

-- whether a result is lost, since no function combines it with another
abbrev pub loses : Item → List Case → Bool
loses i cases = is_none i.combine && not i.is_void && list_any has_two cases
