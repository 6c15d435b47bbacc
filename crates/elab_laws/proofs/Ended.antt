-- Types with stars and dimensions, and structs at their ends.
use Rattle.std.proofs.Common.{◌⊎◌, inl, inr, ◌≡◌, ℕ, suc, ◌+◌, ◌<◌, ◌≤◌, Bool, true, false, List, [], ◌∷◌, ◌++◌, drop, length, Option, Some, None, ap, sym, subst, ◌∙◌, refl, arith}
use Rattle.std.specs.Prelude.{nat_lt, slice_get}
use Rattle.std.proofs.lemmas.Bool.Decides.{nat_tests}
use Rattle.nm_base.specs.declared.pos.Pos.{Pos}
use Rattle.nesc_core.specs.Plain.{Ty, Program, Field, struct}
use Rattle.nesc_core.specs.Typing.{IsType}
use Rattle.nesc_types.specs.Rule.{Rule}
use Rattle.nesc_types.specs.Values.{Constant}
use Rattle.elab_meaning.specs.Scope.{Env, Kind, Struct, Tag, a_struct, an_enum, constant}
use Rattle.elab_meaning.specs.Elab.{State, add_name, after}
use Rattle.elab_meaning.specs.Operators.{Based, arrays, ended, new_tag, plain_base, pointers}
use Rattle.elab_meaning.specs.Wired.{dimensioned, starred, struct_ended, tagged}
use Rattle.elab_laws.specs.Known.{Each, Grows, HasLayout, IsClosed, IsKnown, IsKnownType, IsPrefix, MayPoint, NamesStruct, PointsIn}
use Rattle.elab_laws.proofs.Lists.{behind_prefix, each_at, each_kept, get_later, get_there, length_joined, longer_prefix, no_names, same_names, same_prefix, whole_prefix}
use Rattle.elab_laws.proofs.Numbers.{IsConst}
use Rattle.elab_laws.proofs.Sizes.{layout_at}
use Rattle.elab_laws.proofs.Steps.{Gets, gets, gets_then, says_any, says_under}
use Rattle.elab_laws.proofs.Leaves.{grows_on}
use Rattle.elab_laws.proofs.Later.{known_more, named_more, points_later, struct_more, tagged_more}
use Rattle.elab_laws.proofs.Types.{AreFields, Ends, IsChecked, MayBase, MayType, arrays_says, arrays_settled, checked_points, ended_says, get_dropped, pointers_says, pointers_settled, struct_is}
use Rattle.elab_laws.proofs.Parts as parts
use Rattle.elab_laws.proofs.Parts.{rule_then}
use Rattle.elab_laws.proofs.Does.{Any, Does, Free, Untyped}

-- a state with one more tag
pub record Tags (kind : Kind) (s t : State) : Type 0 where
  pub names : t.names ≡ s.names
  pub structs : t.structs ≡ s.structs
  pub tags : IsPrefix s.tags t.tags
  pub locals : t.locals ≡ s.locals
  pub taken : t.taken ≡ s.taken
  pub asked : t.asked ≡ s.asked
  pub known : (n : ℕ) → NamesStruct n kind → IsKnown n s → IsKnown n t

pub tagged_gets : (at : Pos) (tag : Option (List ℕ)) (kind : Kind) (s : State) → Gets (tagged at tag kind s) (λ u t. Tags kind s t)
tagged_gets at None kind s = gets tt s (record { names = refl; structs = refl; tags = whole_prefix s.tags; locals = refl; taken = refl; asked = refl; known = λ n h k. k })
tagged_gets at (Some tag) kind s = rule_then (new_tag at s.first_tag s.tags tag) s _ (says_any _)
    (λ u h. gets tt (record s { tags = s.tags ++ (record { name = tag; kind = kind } ∷ []) })
    (record { names = refl; structs = refl; tags = behind_prefix s.tags (record { name = tag; kind = kind } ∷ []); locals = refl; taken = refl; asked = refl; known = λ n g k. tagged_more n s (record { name = tag; kind = kind }) g k }))

tags_grow : (kind : Kind) (s t : State) → Tags kind s t → Grows s t
tags_grow kind s t h = record {
  names = same_names s.names t.names h.names;
  tags = h.tags;
  structs = same_prefix s.structs t.structs h.structs;
  locals = same_prefix s.locals t.locals h.locals;
  taken = same_prefix s.taken t.taken h.taken;
  asked = same_prefix s.asked t.asked h.asked;
}

module _ (p : Program) (types : List Ty) (env : Env) (consts : List (Option Constant)) where
  -- ---- stars and dimensions

  pub starred_does : (at : Pos) (stars : ℕ) (b : Based) (st : State)
      → Gets (starred at stars b st) (Does p types env consts 0 (λ n t u. MayBase n st.structs b.ty → MayType n t.structs u) (λ t u. IsKnownType st.structs b.ty → IsKnownType t.structs u) Untyped st)
  starred_does at stars b st = parts.type_by p types env consts (pointers st.structs at stars b.ty) st
      (λ n k. says_under _ (λ h. pointers_says st.structs at n stars b.ty h)) (λ c. says_under _ (λ h. pointers_settled st.structs at stars b.ty h))

  pub dimensioned_does : (at : Pos) (u : Ty) (lengths : List ℕ) (st : State)
      → Gets (dimensioned at u lengths st) (Does p types env consts 0 (λ n t v. MayType n st.structs u → MayType n t.structs v) (λ t v. IsKnownType st.structs u → IsKnownType t.structs v) Untyped st)
  dimensioned_does at u lengths st = parts.type_by p types env consts (arrays st.structs at u lengths) st
      (λ n k. says_under _ (λ h. arrays_says st.structs at n u lengths h)) (λ c. says_under _ (λ h. arrays_settled st.structs at u lengths h))

  -- with what the state's structs are longer by
  pub longer : {A : Type 0} {R : ℕ → State → A → Type 0} {C : State → A → Type 0} (a : ℕ) (st : State) (r : Rule (A × State)) → Gets r (Does p types env consts a R C Untyped st)
      → Gets r (Does p types env consts a (λ n t x. R n t x × IsPrefix st.structs t.structs) (λ t x. C t x × IsPrefix st.structs t.structs) Untyped st)
  longer a st r h = parts.plain_kept p types env consts a st r h (λ n t x k l z. (z, l)) (λ t x c l z. (z, l))

  -- where it is not looked at whether all have ended
  pub plainly : {A : Type 0} {R : ℕ → State → A → Type 0} {C : State → A → Type 0} (a : ℕ) (st : State) (r : Rule (A × State)) → Gets r (Does p types env consts a R C Untyped st)
      → Gets r (Does p types env consts a (λ n t x. R n t x × IsPrefix st.structs t.structs) Free Untyped st)
  plainly a st r h = parts.plain_kept p types env consts a st r h (λ n t x k l z. (z, l)) (λ t x c l z. tt)

  -- ---- a struct

  -- the state with the struct behind the others
  abbrev with_struct : State → Struct → State
  with_struct s x = record s { structs = s.structs ++ (x ∷ []) }

  -- the numbers of the structs below `first` and from it on
  split : (first k : ℕ) → (k < first) ⊎ (first ≤ k)
  split first k = by_lt (nat_lt k first) refl
    where
      by_lt : (b : Bool) → nat_lt k first ≡ b → (k < first) ⊎ (first ≤ k)
      by_lt true q = inl (grind (arith, nat_tests))
      by_lt false q = inr (grind (arith, nat_tests))

  -- structs that ended between these states, and the one that ends now
  ends_closed : (st u : State) (x done : Struct) → Grows st u → IsClosed st → Ends u.structs (length st.structs) x done → IsKnown (length (with_struct u done).structs) (with_struct u done) → IsClosed (with_struct u done)
  ends_closed st u x done grows c ends known = record { known = known; fields = λ k y e. of k y e (split (length st.structs) k) }
    where
      more : List Struct
      more = u.structs ++ (done ∷ [])

      between : IsPrefix st.structs more
      between = longer_prefix st.structs u.structs more grows.structs (behind_prefix u.structs (done ∷ []))

      checked : (y : Struct) → Each (λ (f : Field). MayPoint (length more) more f.ty) y.fields → Each (λ (f : Field). IsChecked more f.ty) y.fields → Each (λ (f : Field). PointsIn more f.ty) y.fields
      checked y h k = both y.fields h k
        where
          both : (fs : List Field) → Each (λ (f : Field). MayPoint (length more) more f.ty) fs → Each (λ (f : Field). IsChecked more f.ty) fs → Each (λ (f : Field). PointsIn more f.ty) fs
          both [] h k = tt
          both (f ∷ fs) h k = (checked_points more (length more) (omega arith) f.ty h.0 k.0, both fs h.1 k.1)

      older : (k : ℕ) (y z : Struct) → slice_get st.structs k ≡ Some z → slice_get more k ≡ Some y → Each (λ (f : Field). PointsIn more f.ty) y.fields
      older k y z q e =
          let same : z ≡ y = some_same (sym (get_later st.structs more k z between q) ∙ e) in
          subst (λ (w : Struct). Each (λ (f : Field). PointsIn more f.ty) w.fields) same
          (each_kept (λ (f : Field). PointsIn st.structs f.ty) (λ (f : Field). PointsIn more f.ty) (λ f g. points_later st.structs more between f.ty g) z.fields (c.fields k z q))
        where
          some_same : {a b : Struct} → Some a ≡ Some b → a ≡ b
          some_same h = cc

      of : (k : ℕ) (y : Struct) → slice_get more k ≡ Some y → (k < length st.structs) ⊎ (length st.structs ≤ k) → Each (λ (f : Field). PointsIn more f.ty) y.fields
      of k y e (inl lt) = let z = get_there st.structs k lt in older k y z.0 z.1 e
      of k y e (inr le) =
          let d = get_dropped more (length st.structs) k y le e in
          checked y (known.fields k y e) (each_at (λ (w : Struct). Each (λ (f : Field). IsChecked more f.ty) w.fields) (drop (length st.structs) more) d.0 y ends.checked d.1)

  -- the fields of a struct whose definition begins in the first state
  pub struct_does : (at : Pos) (g : ℕ) (tag : Option (List ℕ)) (st : State) (fields_work : State → Rule (Struct × State))
      → ((t : State) → Gets (fields_work t) (Does p types env consts g (λ n u x. AreFields n u.structs x) Free Untyped t))
      → Gets (after (tagged at tag (a_struct (length st.structs + g)) st) (λ u. λ t. after (fields_work t) (λ fs. struct_ended at (length st.structs) fs))) (parts.DB p types env consts (suc g) st)
  struct_does at g tag st fields_work h = gets_then _ _ (tagged_gets at tag (a_struct (length st.structs + g)) st) (λ v t1 tags. gets_then _ _ (h t1) (λ fs t2 q.
      rule_then (ended t2.structs at (length st.structs) fs) t2 _ (ended_says t2.structs at (length st.structs) fs) (λ done ends. gets _ (with_struct t2 done) (made t1 fs t2 done tags q ends))))
    where
      made : (t1 : State) (fs : Struct) (t2 : State) (done : Struct) → Tags (a_struct (length st.structs + g)) st t1 → Does p types env consts g (λ n u x. AreFields n u.structs x) Free Untyped t1 fs t2
          → Ends t2.structs (length st.structs) fs done
          → Does p types env consts (suc g) (λ n t b. MayBase n t.structs b.ty) (λ t b. IsKnownType t.structs b.ty) Untyped st (plain_base (struct (length t2.structs))) (with_struct t2 done)
      made t1 fs t2 done tags q ends = record {
        grows = grown;
        count = count;
        known = known;
        result = λ n le k. (inr (below n le), tt);
        closed = λ c. closed c;
        settled = λ c. (last, tt);
        typed = λ c b. tt;
        locals = λ g qs. q.locals tt (subst (Each (λ (t : Ty). IsType p.structs t)) (sym tags.locals) qs);
      }
        where
          same_length : length t1.structs ≡ length st.structs
          same_length = ap length tags.structs

          two : length t2.structs ≡ length st.structs + g
          two = let c = q.count in omega (arith, c, same_length)

          grown : Grows st (with_struct t2 done)
          grown = grows_on st t2 (with_struct t2 done) (grows_on st t1 t2 (tags_grow (a_struct (length st.structs + g)) st t1 tags) q.grows)
              (record { names = no_names t2.names; tags = whole_prefix t2.tags; structs = behind_prefix t2.structs (done ∷ []); locals = whole_prefix t2.locals; taken = whole_prefix t2.taken; asked = whole_prefix t2.asked })

          count : length (t2.structs ++ (done ∷ [])) ≡ length st.structs + suc g
          count = let l = length_joined t2.structs (done ∷ []) in omega (arith, l, two)

          below : (n : ℕ) → length st.structs + suc g ≤ n → length t2.structs < n
          below n le = omega (arith, le, two)

          known : (n : ℕ) → length st.structs + suc g ≤ n → IsKnown n st → IsKnown n (with_struct t2 done)
          known n le k =
              let k1 = tags.known n (omega (arith, le)) k in
              let enough : length t1.structs + g ≤ n = omega (arith, le, same_length) in
              let k2 = q.known n enough k1 in
              let fields = q.result n enough k1 in
              struct_more n t2 done (struct_is n t2.structs (length st.structs) fs done fields ends)
              (subst (Each (λ (f : Field). MayPoint n t2.structs f.ty)) (sym ends.fields) fields.points) k2

          closed : IsClosed st → IsClosed (with_struct t2 done)
          closed c = ends_closed st t2 fs done (grows_on st t1 t2 (tags_grow (a_struct (length st.structs + g)) st t1 tags) q.grows) c ends
              (known (length (t2.structs ++ (done ∷ []))) (omega (arith, count)) (known_more (length st.structs) (length (t2.structs ++ (done ∷ []))) st (omega (arith, count)) c.known))

          at_end : (xs : List Struct) → slice_get (xs ++ (done ∷ [])) (length xs) ≡ Some done
          at_end [] = refl
          at_end (x ∷ xs) = at_end xs

          last : HasLayout (t2.structs ++ (done ∷ [])) (struct (length t2.structs))
          last = record { layout = done.layout; is = layout_at (t2.structs ++ (done ∷ [])) (length t2.structs) done (at_end t2.structs) }

  -- ---- an enum's tag, and a constant's name

  pub enum_tag_does : (at : Pos) (tag : Option (List ℕ)) (st : State) → Gets (tagged at tag an_enum st) (Does p types env consts 0 Any Free Untyped st)
  enum_tag_does at None st = parts.plain_give p types env consts tt st (λ n k. tt)
  enum_tag_does at (Some tag) st = rule_then (new_tag at st.first_tag st.tags tag) st _ (says_any _) (λ u h. gets tt new (record {
    grows = record { names = no_names st.names; tags = behind_prefix st.tags (record { name = tag; kind = an_enum } ∷ []); structs = whole_prefix st.structs; locals = whole_prefix st.locals; taken = whole_prefix st.taken; asked = whole_prefix st.asked };
    count = omega arith;
    known = λ n le k. tagged_more n st one tt k;
    result = λ n le k. tt;
    closed = λ c. record { known = tagged_more (length st.structs) st one tt c.known; fields = c.fields };
    settled = λ c. tt;
    typed = λ c b. tt;
    locals = λ g qs. qs;
  }))
    where
      one : Tag
      one = record { name = tag; kind = an_enum }

      new : State
      new = record st { tags = st.tags ++ (record { name = tag; kind = an_enum } ∷ []) }

  pub name_does : (name : List ℕ) (x : Constant) → IsConst x → (st : State) → Gets (add_name name (constant x.0 x.1) st) (Does p types env consts 0 Any Free Untyped st)
  name_does name x h st = gets tt (record st { names = st.names ++ (record { name = name; meaning = constant x.0 x.1 } ∷ []) }) (record {
    grows = record { names = record { more = record { name = name; meaning = constant x.0 x.1 } ∷ []; is = refl; constants = (tt, tt) }; tags = whole_prefix st.tags; structs = whole_prefix st.structs; locals = whole_prefix st.locals; taken = whole_prefix st.taken; asked = whole_prefix st.asked };
    count = omega arith;
    known = λ n le k. named_more n st (record { name = name; meaning = constant x.0 x.1 }) h k;
    result = λ n le k. tt;
    closed = λ c. record { known = named_more (length st.structs) st (record { name = name; meaning = constant x.0 x.1 }) h c.known; fields = c.fields };
    settled = λ c. tt;
    typed = λ c b. tt;
    locals = λ g qs. qs;
  })
