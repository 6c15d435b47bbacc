-- Code whose jumps reach their labels in two bytes, and the bytes that it takes.
use Rattle.std.proofs.Common.{ℕ, suc, ◌+◌, ◌≤◌, [], ◌∷◌, arith}
use Rattle.msp_isa.specs.declared.code.Item.TheVariants as item
use Rattle.msp_runtime.specs.Code.{Code, Nothing, Do, Then, Skip, Times, Keeping, items_from, labels}
use Rattle.check_bytes.proofs.Bytes.{bytes, bytes-append}
use Rattle.check_bytes.proofs.Near.{AreBetween, IsNear, between-append, both_near, few_near}

-- wherever its labels begin
abbrev pub IsNearCode : Code → Type 0
IsNearCode c = (l : ℕ) → IsNear (items_from c l)

abbrev pub Takes : ℕ → Code → Type 0
Takes n c = (l : ℕ) → bytes (items_from c l) ≤ n

pub code_between : (low high : ℕ) (c : Code) (l : ℕ) → low ≤ l → l + labels c ≤ high → AreBetween low high (items_from c l)
code_between low high Nothing l lo hi = tt
code_between low high (Do op s r) l lo hi = (tt, tt)
code_between low high (Then a b) l lo hi =
    between-append low high (items_from a l) (items_from b (l + labels a))
    (code_between low high a l lo (omega (arith, hi))) (code_between low high b (l + labels a) (omega (arith, lo)) (omega (arith, hi)))
code_between low high (Skip c a) l lo hi =
    ((lo, omega (arith, hi)), between-append low high (items_from a (suc l)) (item.Label l ∷ []) (code_between low high a (suc l) (omega (arith, lo)) (omega (arith, hi))) ((lo, omega (arith, hi)), tt))
code_between low high (Times most r a) l lo hi = (
  tt,
  (
    (lo, omega (arith, hi)),
    (
      (omega (arith, lo), omega (arith, hi)),
      between-append low high (items_from a (suc (suc l))) _ (code_between low high a (suc (suc l)) (omega (arith, lo)) (omega (arith, hi)))
          (tt, ((omega (arith, lo), omega (arith, hi)), ((lo, omega (arith, hi)), tt))),
    ),
  ),
)
code_between low high (Keeping r a) l lo hi = (tt, between-append low high (items_from a l) _ (code_between low high a l lo hi) (tt, (tt, tt)))

pub then_near : (a b : Code) → IsNearCode a → IsNearCode b → IsNearCode (Then a b)
then_near a b x y l =
    both_near (items_from a l) (items_from b (l + labels a)) l (l + labels a) (l + labels a + labels b)
    (code_between l (l + labels a) a l (omega arith) (omega arith)) (code_between (l + labels a) (l + labels a + labels b) b (l + labels a) (omega arith) (omega arith)) (x l) (y (l + labels a))

pub then_takes : (a b : Code) (n m : ℕ) → Takes n a → Takes m b → Takes (n + m) (Then a b)
then_takes a b n m x y l =
    let e = bytes-append (items_from a l) (items_from b (l + labels a)) in
    let p = x l in let q = y (l + labels a) in omega (arith, e, p, q)

pub few_code_near : (c : Code) (n : ℕ) → n ≤ 1000 → Takes n c → IsNearCode c
few_code_near c n few takes l = few_near (items_from c l) (let t = takes l in omega (arith, few, t))
