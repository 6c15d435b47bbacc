-- The law, from what the walk does.
use Rattle.std.proofs.Common.{◌≡◌, ℕ, zero, suc, ◌+◌, ◌<◌, ◌≤◌, List, [], ◌∷◌, length, get_or, Option, Some, ap, sym, subst, refl, arith, All}
use Rattle.std.specs.Prelude.{slice_get, slice_index_or}
use Rattle.nesc_core.specs.declared.layout.Layout.{Layout}
use Rattle.nesc_core.specs.Plain.{Ty, Field, Program}
use Rattle.nesc_core.specs.Size.{AreSized, IsSmall, NamesBelow, struct_at}
use Rattle.nesc_core.specs.Typing.{PointsWell}
use Rattle.nesc_types.specs.Values.{Constant}
use Rattle.elab_meaning.specs.Scope.{Env, Struct}
use Rattle.elab_meaning.specs.Elab.{State}
use Rattle.elab_meaning.specs.Ends.{ends_in, ends_in_type}
use Rattle.elab_meaning.specs.Wired.{found}
use Rattle.elab_laws.specs.Known.{AreLaid, Each, IsClosed, IsPrefix, PointsIn}
use Rattle.elab_laws.specs.Formed.{fields_in}
use Rattle.elab_laws.specs.WellFormed.{ElaborationIsWellFormed, Keeps}
use Rattle.elab_laws.proofs.Lists.{get_there, whole_prefix}
use Rattle.elab_laws.proofs.Sizes as sizes
use Rattle.elab_laws.proofs.Later.{known_more}
use Rattle.elab_laws.proofs.Does.{DoesWith}
use Rattle.elab_laws.proofs.Parts as parts
use Rattle.elab_laws.proofs.Walk as walk

-- ---- the structs of a state

module _ (ss : List Struct) (ok : sizes.AreStructs ss) (points : (k : ℕ) (x : Struct) → slice_get ss k ≡ Some x → Each (λ (f : Field). PointsIn ss f.ty) x.fields) where
  abbrev Ps : List (List Field)
  Ps = fields_in ss

  whole : IsPrefix (fields_in ss) Ps
  whole = whole_prefix Ps

  mapped : (xs : List Struct) → length (fields_in xs) ≡ length xs
  mapped [] = refl
  mapped (x ∷ xs) = ap suc (mapped xs)

  inside : (k : ℕ) → k < length Ps → (x : Struct) × (slice_get ss k ≡ Some x)
  inside k lt = let e = mapped ss in get_there ss k (omega (arith, lt, e))

  -- what is so of each field, by index
  all_of : (P : Field → Type 0) (fs : List Field) → Each P fs → All P fs
  all_of P fs h i d lt = at fs h i lt
    where
      at : (fs : List Field) → Each P fs → (i : ℕ) → i < length fs → P (get_or fs i d)
      at [] h i lt = absurd (omega (arith, lt))
      at (f ∷ fs) h zero lt = h.0
      at (f ∷ fs) h (suc i) lt = at fs h.1 i (omega (arith, lt))

  names_each : (k : ℕ) (fs : List Field) (ls : List Layout) → AreLaid ss k fs ls → Each (λ (f : Field). NamesBelow k f.ty) fs
  names_each k [] ls h = tt
  names_each k (f ∷ fs) [] h = absurd h
  names_each k (f ∷ fs) (l ∷ ls) h = (h.1, names_each k fs ls h.2)

  small_each : (k : ℕ) (fs : List Field) (ls : List Layout) → AreLaid ss k fs ls → Each (λ (f : Field). IsSmall (struct_at Ps (length Ps)) f.ty) fs
  small_each k [] ls h = tt
  small_each k (f ∷ fs) [] h = absurd h
  small_each k (f ∷ fs) (l ∷ ls) h = ((sizes.sized ss ok Ps whole f.ty l h.0).small, small_each k fs ls h.2)

  points_each : (fs : List Field) → Each (λ (f : Field). PointsIn ss f.ty) fs → Each (λ (f : Field). PointsWell Ps f.ty) fs
  points_each [] h = tt
  points_each (f ∷ fs) h = (sizes.points_well ss ok Ps whole f.ty h.0, points_each fs h.1)

  at_k : (P : List Field → Type 0) (k : ℕ) (lt : k < length Ps) → ((x : Struct) → slice_get ss k ≡ Some x → P x.fields) → P (slice_index_or Ps k [])
  at_k P k lt f = let x = inside k lt in subst P (sym (sizes.fields_at ss ok Ps whole k x.0 x.1)) (f x.0 x.1)

  pub are_sized : AreSized Ps
  are_sized = record {
    lower = λ k lt. at_k (All (λ (f : Field). NamesBelow k f.ty)) k lt (λ x e. all_of (λ (f : Field). NamesBelow k f.ty) x.fields (names_each k x.fields (ok k x e).layouts (ok k x e).laid));
    small = λ k lt. at_k (All (λ (f : Field). IsSmall (struct_at Ps (length Ps)) f.ty)) k lt (λ x e. all_of (λ (f : Field). IsSmall (struct_at Ps (length Ps)) f.ty) x.fields (small_each k x.fields (ok k x e).layouts (ok k x e).laid));
    small_whole = λ k lt. let x = inside k lt in subst (λ (l : Layout). l.size ≤ 32767) (sym (sizes.struct_is ss ok Ps whole (length Ps) k x.0 lt x.1)) (ok k x.0 x.1).small;
  }

  pub all_point : All (λ (fs : List Field). All (λ (f : Field). PointsWell Ps f.ty) fs) Ps
  all_point = each_list ss points
    where
      each_list : (xs : List Struct) → ((k : ℕ) (x : Struct) → slice_get xs k ≡ Some x → Each (λ (f : Field). PointsIn ss f.ty) x.fields) → All (λ (fs : List Field). All (λ (f : Field). PointsWell Ps f.ty) fs) (fields_in xs)
      each_list [] h i d lt = absurd (omega (arith, lt))
      each_list (x ∷ xs) h zero d lt = all_of (λ (f : Field). PointsWell Ps f.ty) x.fields (points_each x.fields (h 0 x refl))
      each_list (x ∷ xs) h (suc i) d lt = each_list xs (λ k y e. h (suc k) y e) i d (omega (arith, lt))

-- ---- what the walk does

keeps : (p : Program) (types : List Ty) (env : Env) (consts : List (Option Constant)) {G : State → Type 0} {A : Type 0} {R : ℕ → State → A → Type 0} {C : State → A → Type 0} {T : A → Type 0}
    (a : ℕ) (st new : State) (x : A) → IsClosed st → DoesWith p types env consts G a R C T st x new → Keeps st new
keeps p types env consts a st new x c h = record { closed = h.closed c; grows = h.grows }

pub law : ElaborationIsWellFormed
law = record {
  sized = λ st c. are_sized st.structs c.known.structs c.fields;
  points = λ st c. all_point st.structs c.known.structs c.fields;
  founds = λ p types env consts e st new f c g is.
      let h = (walk.found_does p types env consts e g st).by f new is in (keeps p types env consts (ends_in e) st new f c h, λ b. (h.typed c b, h.locals (c, b)));
  values = λ p types env consts e st new v c g is.
      let h = (parts.value_does p types env consts (ends_in e) e (found env consts e) st (walk.found_does p types env consts e g st)).by v new is in (keeps p types env consts (ends_in e) st new v c h, λ b. (h.typed c b, h.locals (c, b)));
  constants = λ p types env consts whole e evaluated st new x c g is.
      let h = (walk.constant_does p types env consts whole e evaluated g st).by x new is in
      (keeps p types env consts (ends_in e) st new x c h, (refl, h.result (length st.structs + ends_in e) (omega arith) (known_more (length st.structs) (length st.structs + ends_in e) st (omega arith) c.known)), h.locals tt);
  types = λ env consts at t st new ty c g is.
      let h = (walk.type_does none [] env consts at t g st).by ty new is in (
        keeps none [] env consts (ends_in_type t) st new ty c h,
        λ p first.
            let k = (walk.type_does p [] env consts at t g st).by ty new is in
            (sizes.known_type new.structs (h.closed c).known.structs p.structs first ty (h.settled c), k.locals tt),
      );
}
  where
    none : Program
    none = record { structs = []; objects = []; bodies = []; tasks = []; handlers = []; boot = 0; warnings = [] }
