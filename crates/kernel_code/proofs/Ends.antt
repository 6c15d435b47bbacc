-- Where the objects of a program end, by the last one.
use Rattle.std.proofs.Common.{◌≡◌, ℕ, zero, suc, ◌+◌, ◌-◌, ◌<◌, ◌≤◌, List, [], ◌∷◌, length, map, fold, get_or, refl, sym, ap, ◌∙◌, arith}
use Rattle.std.specs.Prelude.{min}
use Rattle.std.proofs.lemmas.List.{get_or-map, length-map}
use Rattle.nesc_core.specs.declared.layout.Layout.{Layout}
use Rattle.nesc_core.specs.declared.tree.Object as tree
use Rattle.nesc_core.specs.declared.tree.Program as tree_program
use Rattle.nesc_core.specs.Plain.{Field, Object}
use Rattle.nesc_core.specs.Size.{layout_of}
use Rattle.nesc_core.specs.View.{object_of, program_of, structs_of, type_of}
use Rattle.nesc_core.specs.Weights.{objects_end, objects_start}
use Rattle.kernel_code.specs.Sizes.{cut}

module _ (structs : List (List Field)) where
  abbrev pub end_from : ℕ → List Object → ℕ
  end_from start os = fold (λ end (o : Object). o.addr + (layout_of structs o.ty).size) start os

  end_of_last : (start : ℕ) (os : List Object) (i : ℕ) (d : Object) → suc i ≡ length os → end_from start os ≡ (get_or os i d).addr + (layout_of structs (get_or os i d).ty).size
  end_of_last start [] i d e = absurd (omega (arith, e))
  end_of_last start (o ∷ []) zero d e = refl
  end_of_last start (o ∷ []) (suc i) d e = absurd (omega (arith, e))
  end_of_last start (o ∷ q ∷ os) zero d e = absurd (omega (arith, e))
  end_of_last start (o ∷ q ∷ os) (suc i) d e = end_of_last (o.addr + (layout_of structs o.ty).size) (q ∷ os) i d (omega (arith, e))

  module _ (os : List tree.Object) (o : tree.Object) (some : 1 ≤ length os) (last : o ≡ get_or os (length os - 1) o) where
    at_end : suc (length os - 1) ≡ length (map object_of os)
    at_end = let e = length-map os object_of in omega (arith, e, some)

    seen : get_or (map object_of os) (length os - 1) (object_of o) ≡ object_of o
    seen = get_or-map object_of os (length os - 1) o (object_of o) (omega (arith, some)) ∙ ap object_of (sym last)

    pub last_end : (start : ℕ) → end_from start (map object_of os) ≡ o.addr + (layout_of structs (type_of o.ty)).size
    last_end start =
        end_of_last start (map object_of os) (length os - 1) (object_of o) at_end
        ∙ ap (λ (x : Object). x.addr + (layout_of structs x.ty).size) seen

    -- the end is cut alike where the size was cut
    pub cut_end : (start n : ℕ) (l : Layout) → l ≡ cut (layout_of structs (type_of o.ty)) → n ≡ min (o.addr + l.size) 65536
        → n ≡ min (end_from start (map object_of os)) 65536
    cut_end start n l is end =
        let size : l.size ≡ min (layout_of structs (type_of o.ty)).size 65536 = ap (λ (x : Layout). x.size) is in
        omega (arith, size, end, last_end start)

pub none_end : (structs : List (List Field)) (start : ℕ) (os : List tree.Object) → length os ≡ 0 → end_from structs start (map object_of os) ≡ start
none_end structs start [] none = refl
none_end structs start (o ∷ os) none = absurd (omega (arith, none))

-- ---- of a program, whose objects were lent

module _
    (p : tree_program.Program) (os : List tree.Object) (o : tree.Object)
    (same : os ≡ p.objects) (some : 1 ≤ length os) (last : o ≡ get_or os (length os - 1) o) where
  pub end_is : (n : ℕ) (l : Layout) → n ≡ min (o.addr + l.size) 65536 → l ≡ cut (layout_of (structs_of p.structs) (type_of o.ty)) → n ≡ min (objects_end (program_of p)) 65536
  end_is n l end is =
      cut_end (structs_of p.structs) os o some last objects_start n l is end
      ∙ ap (λ (xs : List tree.Object). min (end_from (structs_of p.structs) objects_start (map object_of xs)) 65536) same

pub no_end : (p : tree_program.Program) (os : List tree.Object) → os ≡ p.objects → length os < 1 → objects_start ≡ min (objects_end (program_of p)) 65536
no_end p os same none =
    let is : end_from (structs_of p.structs) objects_start (map object_of os) ≡ objects_start = none_end (structs_of p.structs) objects_start os (omega (arith, none)) in
    ap (λ (n : ℕ). min n 65536) (sym is) ∙ ap (λ (xs : List tree.Object). min (end_from (structs_of p.structs) objects_start (map object_of xs)) 65536) same
