-- Where the objects of a well-formed program lie, and their parts.
use Rattle.std.proofs.Common.{◌≡◌, ℕ, zero, suc, ◌+◌, ◌%◌, ◌≤◌, true, List, [], ◌∷◌, fold, length, Some, sym, subst, ap, ◌∙◌, arith, eqb-true}
use Rattle.std.specs.Prelude.{slice_get, ◌==◌}
use Rattle.std.proofs.lemmas.Option.{none-some, same_Some}
use Rattle.nesc_core.specs.Plain.{Ty, Field, Object, Program}
use Rattle.nesc_core.specs.Size.{layout_of}
use Rattle.nesc_core.specs.Parts.{Part, is_part, parts_of_object, same_type}
use Rattle.nesc_core.specs.Laws.{EachStructIsItsFields}
use Rattle.nesc_core.specs.Typing.{IsType}
use Rattle.nesc_core.specs.WellFormed.{IsWellFormed, LieFrom}
use Rattle.nesc_core.specs.Weights.{objects_start}
use Rattle.nesc_core.proofs.PlaceLemmas.{same_type-is}
use Rattle.core_meaning.specs.Layout.{size_of}
use Rattle.source_accesses.specs.Accesses.{LiesInData}
use Rattle.source_accesses.proofs.Aligned.{Suits}
use Rattle.source_accesses.proofs.Lists.{all_at, any_found, filter_found, flat_found, map_found, place_of}
use Rattle.source_accesses.proofs.Parts.{Inside, inside}
use Rattle.source_accesses.proofs.Places.{LiesIn, Objects}

-- ---- one behind the other

module _ (structs : List (List Field)) where
  abbrev end_of : ℕ → List Object → ℕ
  end_of end os = fold (λ end o. o.addr + (layout_of structs o.ty).size) end os

  ends_behind : (end : ℕ) (os : List Object) → LieFrom structs end os → (end ≤ end_of end os) × (end_of end os ≤ 65535)
  ends_behind end [] h = (omega arith, h)
  ends_behind end (o ∷ os) h =
      let rest = ends_behind (o.addr + (layout_of structs o.ty).size) os h.2 in
      (omega (arith, h.0, rest.0), rest.1)

  record Between (end last : ℕ) (o : Object) : Type 0 where
    from : end ≤ o.addr
    even : o.addr % 2 ≡ 0
    to : o.addr + (layout_of structs o.ty).size ≤ last

  between : (end : ℕ) (os : List Object) → LieFrom structs end os → (k : ℕ) (o : Object) → slice_get os k ≡ Some o → Between end (end_of end os) o
  between end [] h k o is = absurd (none-some o is)
  between end (x ∷ os) h zero o is =
      let rest = ends_behind (x.addr + (layout_of structs x.ty).size) os h.2 in
      subst (λ y. Between end (end_of end (x ∷ os)) y) (same_Some x o is) (record { from = h.0; even = h.1; to = rest.0 })
  between end (x ∷ os) h (suc k) o is =
      let rest = between (x.addr + (layout_of structs x.ty).size) os h.2 k o is in
      record { from = omega (arith, h.0, rest.from); even = rest.even; to = rest.to }

pub in_data : (p : Program) → IsWellFormed p → (k : ℕ) (o : Object) → slice_get p.objects k ≡ Some o → LiesInData p o
in_data p formed k o is =
    let b = between p.structs objects_start p.objects formed.addresses k o is in
    record { from = b.from; even = b.even; to = b.to; end = (ends_behind p.structs objects_start p.objects formed.addresses).1 }

-- ---- their parts

module _ (p : Program) (law : EachStructIsItsFields) (formed : IsWellFormed p) where
  fits : (k : ℕ) (o : Object) → slice_get p.objects k ≡ Some o → o.addr + size_of p o.ty ≤ 65535
  fits k o is = let d = in_data p formed k o is in let to = d.to in let end = d.end in omega (arith, to, end)

  part : (t : Ty) (a : ℕ) → is_part p t a ≡ true → LiesIn p a (layout_of p.structs t)
  part t a is =
      let address = any_found (λ x. x == a) _ is in
      let at = map_found (λ (x : Part). x.address) address.it _ address.there in
      let typed = filter_found (λ (x : Part). same_type x.ty t) at.it _ at.there in
      let whole = flat_found (parts_of_object p.structs) at.it _ typed.0 in
      let taken = filter_found (λ (o : Object). o.taken) whole.it _ whole.there in
      let which = place_of whole.it p.objects taken.0 in
      let placed = in_data p formed which.0 whole.it which.1 in
      let own : IsType p.structs whole.it.ty = all_at (λ o. IsType p.structs o.ty) p.objects which.0 whole.it which.1 formed.objects in
      let suits : Suits (layout_of p.structs whole.it.ty).align whole.it.addr = λ e. placed.even in
      let lies : Inside p.structs at.it whole.it.addr (size_of p whole.it.ty) =
      inside p.structs formed.structs (law p.structs formed.structs) (length p.structs) (omega arith) whole.it.ty own.sized.names at.it whole.it.addr suits whole.fact in
      let place : at.it.address ≡ a = sym at.fact ∙ eqb-true address.it a address.fact in
      let ty : at.it.ty ≡ t = same_type-is at.it.ty t typed.1 in
      let size : (layout_of p.structs at.it.ty).size ≡ size_of p t = ap (λ u. (layout_of p.structs u).size) ty in
      record {
        which = which.0;
        object = whole.it;
        is = which.1;
        from = omega (arith, lies.from, place);
        to = omega (arith, lies.to, place, size);
        fits = fits which.0 whole.it which.1;
        suits = subst (λ x. Suits (layout_of p.structs t).align x) place (subst (λ u. Suits (layout_of p.structs u).align at.it.address) ty lies.suits);
      }

  pub objects_of : Objects p
  objects_of = record { sized = formed.structs; fits = fits; even = λ k o is. (in_data p formed k o is).even; part = part }
