-- Worked rows of numbers: expressions that are wired and then performed, with what a port is given; what C leaves open is own.
use Rattle.std.specs.Prelude.{◌≡◌, ℕ, pos, List, [], ◌∷◌, codes, map, Ok, Err}
use Rattle.nm_base.specs.Behaviour.{Returns, play}
use Rattle.nm_base.specs.declared.action.Action.{Action}
use Rattle.nm_base.specs.declared.action.Action.TheVariants.{Out}
use Rattle.nesc_core.specs.Plain.{Program}
use Rattle.core_meaning.specs.Work.{Locals}
use Rattle.core_meaning.specs.Act as act
use Rattle.nesc_types.specs.Rule.{Rule}
use Rattle.nesc_tree.specs.declared.tree.PreOp.TheVariants as pre_op
use Rattle.nesc_tree.specs.declared.tree.PostOp.TheVariants as post_op
use Rattle.nesc_tree.specs.declared.tree.InOp.TheVariants as op
use Rattle.nesc_tree.specs.Plain as s
use Rattle.elab_meaning.specs.Elab.{State}
use Rattle.elab_meaning.specs.Convert.{Typed}
use Rattle.elab_meaning.specs.Wired.{value}
use Rattle.elab_meaning.specs.RowForms.{at, n, v, bin, pre, post, set, update, choice, comma, at_index, spec, world, values, start}

-- a program whose objects are not looked at, and calls that do nothing
abbrev pub program : Program
program = record { structs = []; objects = []; bodies = []; tasks = []; handlers = []; boot = 0; warnings = [] }

abbrev pub calls : act.Calls
calls f arguments after = after (pos 0)

-- a is 200, b is 100, c is -1, i is 7, w is { 10, 20, 30 }; behind them stand fresh locals
abbrev pub bytes : Locals
bytes =
    (255 ∷ []) ∷ (200 ∷ []) ∷ (100 ∷ []) ∷ (7 ∷ 0 ∷ []) ∷ (0 ∷ 0 ∷ []) ∷ (0 ∷ 0 ∷ 0 ∷ 0 ∷ []) ∷ (0 ∷ 0 ∷ 0 ∷ 0 ∷ []) ∷ (0 ∷ 0 ∷ [])
    ∷ (0 ∷ 0 ∷ []) ∷ (0 ∷ 0 ∷ []) ∷ (10 ∷ 0 ∷ 20 ∷ 0 ∷ 30 ∷ 0 ∷ []) ∷ (0 ∷ 0 ∷ []) ∷ (0 ∷ 0 ∷ []) ∷ []

abbrev pub performed : Rule (Typed × State) → List Action
performed (Ok x) = (play (act.value program x.1.locals calls x.0.expr (λ z left. Returns 0) bytes) []).actions
performed (Err e) = []

-- port_write(0x0130, e)
abbrev pub written : s.Expr → List Action
written e = performed (value world values (s.port_write (n (codes "0x0130") 12) e (at 1)) start)

pub record Number : Type 0 where
  pub expr : s.Expr
  pub out : ℕ

abbrev pub puts : s.Expr → ℕ → Number
puts e x = record { expr = e; out = x }

abbrev pub AreWritten : List Number → Type 0
AreWritten rows = map (λ (r : Number). written r.expr) rows ≡ map (λ (r : Number). Out 304 r.out ∷ []) rows

abbrev pub minus_1 : (col : ℕ) → s.Expr
minus_1 col = pre pre_op.Neg (n (codes "1") 21) col

abbrev pub minus_7 : s.Expr
minus_7 = pre pre_op.Neg (n (codes "7") 21) 20

pub record NumberRows : Type 0 where
  -- a + b; (uint8_t)(a + b); 1 << 15; 1 << 16; -1 >> 20; -1 < 1u; 40000 + 30000; -7 / 2; -7 % 2
  pub numbers : AreWritten (
      puts (bin op.Add (v (codes "a") 20) (v (codes "b") 24)) 300
      ∷ puts (s.cast (spec (s.named (codes "uint8_t")) 0) (bin op.Add (v (codes "a") 30) (v (codes "b") 34)) (at 20)) 44
      ∷ puts (bin op.Shl (n (codes "1") 20) (n (codes "15") 25)) 32768
      ∷ puts (bin op.Shl (n (codes "1") 20) (n (codes "16") 25)) 0
      ∷ puts (bin op.Shr (minus_1 20) (n (codes "20") 26)) 65535
      ∷ puts (bin op.Lt (minus_1 20) (n (codes "1u") 25)) 0
      ∷ puts (bin op.Add (n (codes "40000") 20) (n (codes "30000") 28)) 4464
      ∷ puts (bin op.Div minus_7 (n (codes "2") 25)) 65533
      ∷ puts (bin op.Rem minus_7 (n (codes "2") 25)) 65535
      ∷ [])
  -- a > b; a >= 200; c > a, where c is converted; i++ + i; (i += 3) * i; w[2] - w[0]; (w[1] = 300, w[1]); (c ? a : b); -c; !i; i > 6 > 0
  pub orders : AreWritten (
      puts (bin op.Gt (v (codes "a") 20) (v (codes "b") 24)) 1
      ∷ puts (bin op.Ge (v (codes "a") 20) (n (codes "200") 25)) 1
      ∷ puts (bin op.Gt (v (codes "c") 20) (v (codes "a") 24)) 0
      ∷ puts (bin op.Add (post post_op.Inc (v (codes "i") 20)) (v (codes "i") 26)) 15
      ∷ puts (bin op.Mul (update op.Add (v (codes "i") 21) (n (codes "3") 26)) (v (codes "i") 31)) 100
      ∷ puts (bin op.Sub (at_index (v (codes "w") 20) (n (codes "2") 22)) (at_index (v (codes "w") 27) (n (codes "0") 29))) 20
      ∷ puts (comma (set (at_index (v (codes "w") 21) (n (codes "1") 23)) (n (codes "300") 28)) (at_index (v (codes "w") 33) (n (codes "1") 35))) 300
      ∷ puts (choice (v (codes "c") 21) (v (codes "a") 25) (v (codes "b") 29)) 200
      ∷ puts (pre pre_op.Neg (v (codes "c") 21) 20) 1
      ∷ puts (pre pre_op.IsZero (v (codes "i") 21) 20) 0
      ∷ puts (bin op.Gt (bin op.Gt (v (codes "i") 20) (n (codes "6") 24)) (n (codes "0") 28)) 1
      ∷ [])
