-- The state of the worked rows, name by name.
use Rattle.std.proofs.Common.{◌≡◌, ℕ, zero, suc, [], ◌∷◌, Some, refl, subst, arith}
use Rattle.std.specs.Prelude.{slice_get}
use Rattle.nm_base.specs.declared.int_type.IntType.{IntType}
use Rattle.nm_base.specs.declared.int_type.IntType.TheVariants.{I8, U8, I16, U16, I32, U32}
use Rattle.nesc_core.specs.Plain.{Ty, Field, void, int, pointer, array}
use Rattle.nesc_core.specs.Size.{int_layout, layout}
use Rattle.nesc_core.specs.Typing.{IsType}
use Rattle.elab_meaning.specs.Scope.{Item, Struct}
use Rattle.elab_meaning.specs.RowForms.{locals, start, structs, values, world}
use Rattle.elab_laws.specs.Known.{Each, HasBytes, IsClosed, IsKnownType, IsStruct, MayPoint, PointsIn}
use Rattle.elab_laws.specs.Formed.{Belongs, TargetBelongs, fields_in}
use Rattle.elab_laws.specs.WorkedState.{WorkedState, worked_program}
use Rattle.elab_laws.proofs.Lists.{whole_prefix}
use Rattle.elab_laws.proofs.Sizes.{known_type}

number : (t : IntType) → IsKnownType structs (int t)
number t = (record { layout = int_layout t; is = refl }, tt)

word : HasBytes structs (int I16)
word = record { layout = layout 2 2; is = refl; some = omega arith }

to_word : IsKnownType structs (pointer (int I16))
to_word = (record { layout = layout 2 2; is = refl }, (word, tt))

laid : (k : ℕ) (x : Struct) → slice_get structs k ≡ Some x → IsStruct structs k x
laid zero x e = subst (IsStruct structs 0) (here e) (record {
  layouts = layout 1 1 ∷ layout 4 2 ∷ layout 2 2 ∷ [];
  laid = (refl, tt, (refl, tt, (refl, tt, tt)));
  whole = refl;
  small = omega arith;
})
  where
    here : {a b : Struct} → Some a ≡ Some b → a ≡ b
    here h = cc
laid (suc zero) x e = subst (IsStruct structs 1) (here e) (record { layouts = []; laid = tt; whole = refl; small = omega arith })
  where
    here : {a b : Struct} → Some a ≡ Some b → a ≡ b
    here h = cc
laid (suc (suc k)) x e = absurd cc

pointing : (P : Ty → Type 0) → P (int U8) → P (array (int I16) 2) → P (int I16) → (k : ℕ) (x : Struct) → slice_get structs k ≡ Some x → Each (λ (f : Field). P f.ty) x.fields
pointing P h i j zero x e = subst (λ (y : Struct). Each (λ (f : Field). P f.ty) y.fields) (here e) (h, (i, (j, tt)))
  where
    here : {a b : Struct} → Some a ≡ Some b → a ≡ b
    here q = cc
pointing P h i j (suc zero) x e = subst (λ (y : Struct). Each (λ (f : Field). P f.ty) y.fields) (here e) tt
  where
    here : {a b : Struct} → Some a ≡ Some b → a ≡ b
    here q = cc
pointing P h i j (suc (suc k)) x e = absurd cc

closed : IsClosed start
closed = record {
  known = record {
    names = (
      number U8,
      (
        number I16,
        (
          refl,
          (
            tt,
            (
              tt,
              (
                tt,
                (
                  number U16,
                  (
                    (record { layout = layout 8 2; is = refl }, tt),
                    (
                      (record { layout = layout 8 2; is = refl }, tt),
                      (
                        (record { layout = layout 8 2; is = refl }, tt),
                        (
                          (record { layout = layout 2 2; is = refl }, (record { layout = layout 8 2; is = refl; some = omega arith }, tt)),
                          (
                            (record { layout = layout 16 2; is = refl }, tt),
                            (
                              (record { layout = layout 6 1; is = refl }, tt),
                              (
                                (record { layout = layout 4 2; is = refl }, tt),
                                (
                                  (record { layout = layout 0 1; is = refl }, tt),
                                  (
                                    number I8,
                                    (
                                      number U8,
                                      (
                                        number U8,
                                        (
                                          number I16,
                                          (
                                            number U16,
                                            (
                                              number I32,
                                              (
                                                number U32,
                                                (to_word, (to_word, (number I16, ((record { layout = layout 6 2; is = refl }, tt), tt)))),
                                              ),
                                            ),
                                          ),
                                        ),
                                      ),
                                    ),
                                  ),
                                ),
                              ),
                            ),
                          ),
                        ),
                      ),
                    ),
                  ),
                ),
              ),
            ),
          ),
        ),
      ),
    );
    tags = (omega arith, (tt, (omega arith, tt)));
    structs = laid;
    fields = pointing (MayPoint 2 structs) tt tt tt;
  };
  fields = pointing (PointsIn structs) tt tt tt;
}

type_of : (t : Ty) → IsKnownType structs t → IsType worked_program.structs t
type_of t h = known_type structs laid (fields_in structs) (whole_prefix (fields_in structs)) t h

void_type : IsType worked_program.structs void
void_type = type_of void (tt, tt)

target : (k : ℕ) (i : Item) → slice_get world.items k ≡ Some i → TargetBelongs worked_program locals world values [] k i i.body
target zero i e = subst (λ (x : Item). TargetBelongs worked_program locals world values [] 0 x x.body) (here e)
    (tt, record { body = _; is = refl; passed = refl; given = refl; types = (type_of (int I16) (number I16), tt); result_type = type_of (int U8) (number U8); result_kind = tt })
  where
    here : {a b : Item} → Some a ≡ Some b → a ≡ b
    here h = cc
target (suc zero) i e = subst (λ (x : Item). TargetBelongs worked_program locals world values [] 1 x x.body) (here e) (λ j a q. absurd cc)
  where
    here : {a b : Item} → Some a ≡ Some b → a ≡ b
    here h = cc
target (suc (suc zero)) i e = subst (λ (x : Item). TargetBelongs worked_program locals world values [] 2 x x.body) (here e) (λ j a q. absurd cc)
  where
    here : {a b : Item} → Some a ≡ Some b → a ≡ b
    here h = cc
target (suc (suc (suc zero))) i e = subst (λ (x : Item). TargetBelongs worked_program locals world values [] 3 x x.body) (here e)
    (refl, record { body = _; is = refl; passed = refl; given = refl; types = (type_of (int U8) (number U8), (type_of (int I16) (number I16), tt)); result_type = void_type; result_kind = tt })
  where
    here : {a b : Item} → Some a ≡ Some b → a ≡ b
    here h = cc
target (suc (suc (suc (suc k)))) i e = absurd cc

belongs : Belongs worked_program locals world values start
belongs = record {
  structs = whole_prefix (fields_in structs);
  locals = whole_prefix locals;
  names = (
    tt,
    (
      tt,
      (
        tt,
        (
          record { body = _; is = refl; passed = refl; given = refl; types = (type_of (int I16) (number I16), (type_of (pointer (int I16)) to_word, tt)); result_type = type_of (int U8) (number U8); result_kind = tt },
          (
            record { body = _; is = refl; passed = refl; given = refl; types = tt; result_type = void_type; result_kind = tt },
            (
              omega arith,
              (
                (omega arith, refl),
                (
                  (omega arith, refl),
                  (
                    (omega arith, refl),
                    (
                      (omega arith, refl),
                      (
                        (omega arith, refl),
                        (
                          (omega arith, refl),
                          (
                            (omega arith, refl),
                            (
                              (omega arith, refl),
                              (
                                (omega arith, refl),
                                (
                                  (omega arith, refl),
                                  (
                                    (omega arith, refl),
                                    (
                                      (omega arith, refl),
                                      (
                                        (omega arith, refl),
                                        (
                                          (omega arith, refl),
                                          (
                                            (omega arith, refl),
                                            ((omega arith, refl), ((omega arith, refl), ((omega arith, refl), ((omega arith, refl), ((omega arith, refl), tt))))),
                                          ),
                                        ),
                                      ),
                                    ),
                                  ),
                                ),
                              ),
                            ),
                          ),
                        ),
                      ),
                    ),
                  ),
                ),
              ),
            ),
          ),
        ),
      ),
    ),
  );
  items = target;
}

pub worked : WorkedState
worked = record { closed = closed; belongs = belongs }
