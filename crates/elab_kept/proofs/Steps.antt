-- Steps of elaboration, each of which only adds.
use Rattle.std.proofs.Common.{◌≡◌, ℕ, Bool, true, false, List, [], ◌∷◌, ◌++◌, Option, Some, None, Ok, Err, subst, refl, sym, ap, ◌∙◌}
use Rattle.std.specs.Prelude.{if◌then◌else◌}
use Rattle.std.proofs.lemmas.List.{append-nil}
use Rattle.nm_base.specs.declared.fault.Fault.{Fault}
use Rattle.nesc_core.specs.Plain.{Ty}
use Rattle.nesc_types.specs.Rule.{Rule}
use Rattle.elab_meaning.specs.Scope.{Entry, Tag, Struct}
use Rattle.elab_meaning.specs.Elab.{Asked, State, after, by}
use Rattle.elab_kept.specs.Grows.{Grows, IsPrefix}

-- ---- prefixes

pub whole_prefix : {A : Type 0} (xs : List A) → IsPrefix xs xs
whole_prefix xs = ([], sym (append-nil xs))

pub behind_prefix : {A : Type 0} (xs : List A) (x : A) → IsPrefix xs (xs ++ (x ∷ []))
behind_prefix xs x = (x ∷ [], refl)

behind : {A : Type 0} (xs ys zs : List A) → (xs ++ ys) ++ zs ≡ xs ++ (ys ++ zs)
behind [] ys zs = refl
behind (x ∷ xs) ys zs = ap (λ l. x ∷ l) (behind xs ys zs)

pub longer_prefix : {A : Type 0} (xs ys zs : List A) → IsPrefix xs ys → IsPrefix ys zs → IsPrefix xs zs
longer_prefix xs ys zs p q = (p.0 ++ q.0, q.1 ∙ (ap (λ l. l ++ q.0) p.1 ∙ behind xs p.0 q.0))

-- ---- states

pub still : (s : State) → Grows s s
still s = record {
  names = whole_prefix s.names;
  tags = whole_prefix s.tags;
  structs = whole_prefix s.structs;
  locals = whole_prefix s.locals;
  taken = whole_prefix s.taken;
  asked = whole_prefix s.asked;
  first_name = refl;
  first_tag = refl;
}

pub grows_on : (s t u : State) → Grows s t → Grows t u → Grows s u
grows_on s t u g h = record {
  names = longer_prefix s.names t.names u.names g.names h.names;
  tags = longer_prefix s.tags t.tags u.tags g.tags h.tags;
  structs = longer_prefix s.structs t.structs u.structs g.structs h.structs;
  locals = longer_prefix s.locals t.locals u.locals g.locals h.locals;
  taken = longer_prefix s.taken t.taken u.taken g.taken h.taken;
  asked = longer_prefix s.asked t.asked u.asked g.asked h.asked;
  first_name = h.first_name ∙ g.first_name;
  first_tag = h.first_tag ∙ g.first_tag;
}

-- ---- what is kept of a state by what is given from it

pub record Kept {A : Type 0} (s : State) (r : Rule (A × State)) : Type 0 where
  pub by : (x : A) (t : State) → r ≡ Ok (x, t) → Grows s t

pub kept_give : {A : Type 0} (x : A) (s t : State) → Grows s t → Kept s (Ok (x, t))
kept_give {A = A} x s t g = record { by = λ y u e. subst (λ (z : A × State). Grows s z.1) (paired e) g }
  where
    made : A × State → Rule (A × State)
    made a = Ok a

    paired : {a b : A × State} → made a ≡ made b → a ≡ b
    paired e = cc

pub kept_same : {A : Type 0} (x : A) (s : State) → Kept s (Ok (x, s))
kept_same x s = kept_give x s s (still s)

pub kept_stopped : {A : Type 0} (s : State) (e : Fault) → Kept {A = A} s (Err e)
kept_stopped s e = record { by = λ x t h. absurd cc }

pub kept_on : {A : Type 0} (s t : State) (r : Rule (A × State)) → Grows s t → Kept t r → Kept s r
kept_on s t r g h = record { by = λ x u e. grows_on s t u g (h.by x u e) }

pub kept_then : {A B : Type 0} (s : State) (r : Rule (A × State)) (next : A → State → Rule (B × State))
    → Kept s r → ((x : A) (t : State) → Kept t (next x t)) → Kept s (after r next)
kept_then s (Ok x) next h f = kept_on s x.1 (next x.0 x.1) (h.by x.0 x.1 refl) (f x.0 x.1)
kept_then s (Err e) next h f = kept_stopped s e

pub kept_by : {A : Type 0} (s : State) (r : Rule A) → Kept s (by r s)
kept_by s (Ok x) = kept_same x s
kept_by s (Err e) = kept_stopped s e

-- behind a rule that looks at no state
pub kept_rule : {A B : Type 0} (s : State) (r : Rule A) (next : A → State → Rule (B × State)) → ((x : A) → Kept s (next x s)) → Kept s (after (by r s) next)
kept_rule s (Ok x) next f = f x
kept_rule s (Err e) next f = kept_stopped s e

pub kept_if : {A : Type 0} (s : State) (b : Bool) (x y : State → Rule (A × State)) → Kept s (x s) → Kept s (y s) → Kept s ((if b then x else y) s)
kept_if s true x y g h = g
kept_if s false x y g h = h

-- ---- what is added

pub with_name : (s : State) (e : Entry) → Grows s (record s { names = s.names ++ (e ∷ []) })
with_name s e = record {
  names = behind_prefix s.names e;
  tags = whole_prefix s.tags;
  structs = whole_prefix s.structs;
  locals = whole_prefix s.locals;
  taken = whole_prefix s.taken;
  asked = whole_prefix s.asked;
  first_name = refl;
  first_tag = refl;
}

pub with_tag : (s : State) (x : Tag) → Grows s (record s { tags = s.tags ++ (x ∷ []) })
with_tag s x = record {
  names = whole_prefix s.names;
  tags = behind_prefix s.tags x;
  structs = whole_prefix s.structs;
  locals = whole_prefix s.locals;
  taken = whole_prefix s.taken;
  asked = whole_prefix s.asked;
  first_name = refl;
  first_tag = refl;
}

pub with_struct : (s : State) (x : Struct) → Grows s (record s { structs = s.structs ++ (x ∷ []) })
with_struct s x = record {
  names = whole_prefix s.names;
  tags = whole_prefix s.tags;
  structs = behind_prefix s.structs x;
  locals = whole_prefix s.locals;
  taken = whole_prefix s.taken;
  asked = whole_prefix s.asked;
  first_name = refl;
  first_tag = refl;
}

pub with_local : (s : State) (t : Ty) → Grows s (record s { locals = s.locals ++ (t ∷ []) })
with_local s t = record {
  names = whole_prefix s.names;
  tags = whole_prefix s.tags;
  structs = whole_prefix s.structs;
  locals = behind_prefix s.locals t;
  taken = whole_prefix s.taken;
  asked = whole_prefix s.asked;
  first_name = refl;
  first_tag = refl;
}

pub with_taken : (s : State) (k : ℕ) → Grows s (record s { taken = s.taken ++ (k ∷ []) })
with_taken s k = record {
  names = whole_prefix s.names;
  tags = whole_prefix s.tags;
  structs = whole_prefix s.structs;
  locals = whole_prefix s.locals;
  taken = behind_prefix s.taken k;
  asked = whole_prefix s.asked;
  first_name = refl;
  first_tag = refl;
}

pub with_asked : (s : State) (a : Asked) → Grows s (record s { asked = s.asked ++ (a ∷ []) })
with_asked s a = record {
  names = whole_prefix s.names;
  tags = whole_prefix s.tags;
  structs = whole_prefix s.structs;
  locals = whole_prefix s.locals;
  taken = whole_prefix s.taken;
  asked = behind_prefix s.asked a;
  first_name = refl;
  first_tag = refl;
}
