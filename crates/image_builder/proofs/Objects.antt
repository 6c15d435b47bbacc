-- Where the objects of a program end.
use Rattle.std.proofs.Common.{◌≡◌, ℕ, zero, suc, ◌+◌, ◌-◌, ◌<◌, ◌≤◌, List, [], ◌∷◌, All, length, map, get_or, refl, sym, ap, subst, ◌∙◌, arith}
use Rattle.std.specs.Prelude.{fold}
use Rattle.std.proofs.lemmas.List.{get_or-map, length-map}
use Rattle.std.proofs.lemmas.List.Elements.{All-get_or}
use Rattle.nesc_core.specs.declared.tree.Object as tree
use Rattle.nesc_core.specs.Plain.{Field, Object}
use Rattle.nesc_core.specs.Size.{layout_of}
use Rattle.nesc_core.specs.View.{object_of, type_of}
use Rattle.nesc_core.specs.WellFormed.{LieFrom}

-- behind the last one
abbrev pub end_from : List (List Field) → ℕ → List Object → ℕ
end_from structs start os = fold (λ end (o : Object). o.addr + (layout_of structs o.ty).size) start os

pub end_small : (structs : List (List Field)) (start : ℕ) (os : List Object) → LieFrom structs start os → end_from structs start os ≤ 65535
end_small structs start [] h = h
end_small structs start (o ∷ os) h = end_small structs (o.addr + (layout_of structs o.ty).size) os h.2

pub end_behind : (structs : List (List Field)) (start : ℕ) (os : List Object) → LieFrom structs start os → start ≤ end_from structs start os
end_behind structs start [] h = omega arith
end_behind structs start (o ∷ os) h = let rest = end_behind structs (o.addr + (layout_of structs o.ty).size) os h.2 in let low = h.0 in omega (arith, rest, low)

pub end_of_last : (structs : List (List Field)) (start : ℕ) (os : List Object) (i : ℕ) (d : Object) → suc i ≡ length os → end_from structs start os ≡ (get_or os i d).addr + (layout_of structs (get_or os i d).ty).size
end_of_last structs start [] i d e = absurd (omega (arith, e))
end_of_last structs start (o ∷ []) zero d e = refl
end_of_last structs start (o ∷ []) (suc i) d e = absurd (omega (arith, e))
end_of_last structs start (o ∷ q ∷ os) zero d e = absurd (omega (arith, e))
end_of_last structs start (o ∷ q ∷ os) (suc i) d e = end_of_last structs (o.addr + (layout_of structs o.ty).size) (q ∷ os) i d (omega (arith, e))

-- ---- the last one

module _ (os : List tree.Object) (o : tree.Object) (some : 1 ≤ length os) (last : o ≡ get_or os (length os - 1) o) where
  inside : length os - 1 < length os
  inside = omega (arith, some)

  seen : get_or (map object_of os) (length os - 1) (object_of o) ≡ object_of o
  seen = get_or-map object_of os (length os - 1) o (object_of o) inside ∙ ap object_of (sym last)

  pub holds_of_last : (P : Object → Type 0) → All P (map object_of os) → P (object_of o)
  holds_of_last P all = subst P seen (All-get_or P (map object_of os) (length os - 1) (object_of o) (let e = length-map os object_of in omega (arith, e, some)) all)

  pub last_end : (structs : List (List Field)) (start : ℕ) → end_from structs start (map object_of os) ≡ o.addr + (layout_of structs (type_of o.ty)).size
  last_end structs start =
      end_of_last structs start (map object_of os) (length os - 1) (object_of o) (let e = length-map os object_of in omega (arith, e, some))
      ∙ ap (λ (x : Object). x.addr + (layout_of structs x.ty).size) seen
