-- What a part of elaboration does: how many structs it ends, what it keeps, and what it gives.
use Rattle.std.proofs.Common.{◌≡◌, ℕ, ◌+◌, ◌≤◌, List, length, Option, Ok, Err, ap, refl, arith}
use Rattle.std.specs.Prelude.{⊤}
use Rattle.nesc_core.specs.Plain.{Ty, Program}
use Rattle.nesc_types.specs.Rule.{Rule}
use Rattle.nesc_types.specs.Values.{Constant}
use Rattle.elab_meaning.specs.Scope.{Env}
use Rattle.elab_meaning.specs.Elab.{State, after, by}
use Rattle.elab_laws.specs.Known.{Grows, IsClosed, IsKnown, IsPrefix}
use Rattle.elab_laws.proofs.Steps.{Gets, Says, gets, gets_stopped, gets_kept, gets_then}
use Rattle.elab_laws.proofs.Later.{known_more}
use Rattle.elab_laws.proofs.Leaves as leaves
use Rattle.elab_laws.proofs.Leaves.{closed_same, grows_on, known_same, light_grows, still}

abbrev pub Any : {A : Type 0} → ℕ → State → A → Type 0
Any n t x = Unit {0}

abbrev pub Free : {A : Type 0} → State → A → Type 0
Free t x = Unit {0}

abbrev pub Untyped : {A : Type 0} → A → Type 0
Untyped x = Unit {0}

module _ (p : Program) (types : List Ty) (env : Env) (consts : List (Option Constant)) where
  -- from state s, where `ends` definitions of structs end: R is so of the result while structs below n may be open, C where none is, and
  -- T in a program to which the state belongs; G is what new locals need to be of types of the program
  pub record DoesWith (G : State → Type 0) {A : Type 0} (ends : ℕ) (R : ℕ → State → A → Type 0) (C : State → A → Type 0) (T : A → Type 0) (s : State) (x : A) (t : State) : Type 0 where
    pub grows : Grows s t
    pub count : length t.structs ≡ length s.structs + ends
    pub known : (n : ℕ) → length s.structs + ends ≤ n → IsKnown n s → IsKnown n t
    pub result : (n : ℕ) → length s.structs + ends ≤ n → IsKnown n s → R n t x
    pub closed : IsClosed s → IsClosed t
    pub settled : IsClosed s → C t x
    pub typed : IsClosed s → leaves.B p types env consts t → T x
    pub locals : G t → leaves.Q p types env consts s → leaves.Q p types env consts t

  -- new locals need nothing
  abbrev pub Does : {A : Type 0} → ℕ → (ℕ → State → A → Type 0) → (State → A → Type 0) → (A → Type 0) → State → A → State → Type 0
  Does a R C T s = DoesWith (λ t. ⊤) a R C T s

  -- what a part that finds expressions has at hand for them
  abbrev pub Placed : State → State → Type 0
  Placed s t = IsClosed s × leaves.B p types env consts t

  pub does_then : {A D : Type 0} {R : ℕ → State → A → Type 0} {C : State → A → Type 0} {T : A → Type 0} {R' : ℕ → State → D → Type 0} {C' : State → D → Type 0} {T' : D → Type 0}
      (G G1 : State → Type 0) (G2 : A → State → State → Type 0) (a b total : ℕ) (s : State) (r : Rule (A × State)) (next : A → State → Rule (D × State)) → total ≡ a + b → Gets r (DoesWith G1 a R C T s)
      → ((x : A) (t : State) → Gets (next x t) (DoesWith (G2 x t) b (λ n u y. R n t x → R' n u y) (λ u y. C t x → C' u y) (λ y. T x → T' y) t))
      → ((x : A) (t u : State) → DoesWith G1 a R C T s x t → Grows t u → G u → G1 t × G2 x t u)
      → Gets (after r next) (DoesWith G total R' C' T' s)
  does_then G G1 G2 a b total s r next sum h f split = gets_then r next h (λ x t q. gets_kept (next x t) (f x t) (λ y u g.
      let mid = q.count in
      record {
        grows = grows_on s t u q.grows g.grows;
        count = let c = g.count in omega (arith, mid, c, sum);
        known = λ n le k. g.known n (omega (arith, mid, le, sum)) (q.known n (omega (arith, le, sum)) k);
        result = λ n le k. g.result n (omega (arith, mid, le, sum)) (q.known n (omega (arith, le, sum)) k) (q.result n (omega (arith, le, sum)) k);
        closed = λ c. g.closed (q.closed c);
        settled = λ c. g.settled (q.closed c) (q.settled c);
        typed = λ c b. g.typed (q.closed c) b (q.typed c (leaves.belonged p types env consts t u g.grows b));
        locals = λ k qs. let both = split x t u q g.grows k in g.locals both.1 (q.locals both.0 qs);
      }))

  pub does_kept : {A : Type 0} {R R' : ℕ → State → A → Type 0} {C C' : State → A → Type 0} {T T' : A → Type 0} (G G' : State → Type 0) (a : ℕ) (s : State) (r : Rule (A × State)) → Gets r (DoesWith G a R C T s)
      → ((n : ℕ) (t : State) (x : A) → IsKnown n t → IsPrefix s.structs t.structs → R n t x → R' n t x)
      → ((t : State) (x : A) → IsClosed t → IsPrefix s.structs t.structs → C t x → C' t x)
      → ((x : A) → T x → T' x) → ((t : State) → G' t → G t) → Gets r (DoesWith G' a R' C' T' s)
  does_kept G G' a s r h f g k l = gets_kept r h (λ x t q. record {
    grows = q.grows;
    count = q.count;
    known = q.known;
    result = λ n le z. f n t x (q.known n le z) q.grows.structs (q.result n le z);
    closed = q.closed;
    settled = λ c. g t x (q.closed c) q.grows.structs (q.settled c);
    typed = λ c b. k x (q.typed c b);
    locals = λ z. q.locals (l t z);
  })

  -- what is given where the state stays
  pub does_give : {A : Type 0} {R : ℕ → State → A → Type 0} {C : State → A → Type 0} {T : A → Type 0} (G : State → Type 0) (x : A) (s : State)
      → ((n : ℕ) → IsKnown n s → R n s x) → (IsClosed s → C s x) → (IsClosed s → leaves.B p types env consts s → T x) → Gets (Ok (x, s)) (DoesWith G 0 R C T s)
  does_give G x s f g k = gets x s (record {
    grows = still s;
    count = omega arith;
    known = λ n le z. z;
    result = λ n le z. f n z;
    closed = λ c. c;
    settled = g;
    typed = k;
    locals = λ z q. q;
  })

  pub does_by : {A : Type 0} {R : ℕ → State → A → Type 0} {C : State → A → Type 0} {T : A → Type 0} (G : State → Type 0) (r : Rule A) (s : State)
      → ((n : ℕ) → IsKnown n s → Says r (R n s)) → (IsClosed s → Says r (C s)) → (IsClosed s → leaves.B p types env consts s → Says r T) → Gets (by r s) (DoesWith G 0 R C T s)
  does_by G (Ok x) s f g k = does_give G x s (λ n z. (f n z).by x refl) (λ c. (g c).by x refl) (λ c b. (k c b).by x refl)
  does_by G (Err e) s f g k = gets_stopped e

  -- a step that adds no name, tag or struct
  pub does_leaf : {A : Type 0} {T : A → Type 0} (P : Type 0) (s : State) (r : Rule (A × State)) → Gets r (leaves.LeafWith p types env consts P s T) → Gets r (DoesWith (λ t. Placed s t × P) 0 Any Free T s)
  does_leaf P s r h = gets_kept r h (λ x t q. record {
    grows = light_grows s t q.light;
    count = let e = ap length q.light.structs in omega (arith, e);
    known = λ n le z. known_same n s t q.light.names q.light.tags q.light.structs z;
    result = λ n le z. tt;
    closed = λ c. closed_same s t q.light.names q.light.tags q.light.structs c;
    settled = λ c. tt;
    typed = q.typed;
    locals = λ g. q.locals g.0.0 g.0.1 g.1;
  })

  -- what hangs on nothing is so everywhere
  pub does_everywhere : {A : Type 0} {P : A → Type 0} (a : ℕ) (s : State) (r : Rule (A × State)) → Gets r (Does a (λ n t x. P x) Free Untyped s) → Gets r (Does a (λ n t x. P x) (λ t x. P x) P s)
  does_everywhere a s r h = gets_kept r h (λ x t q. record {
    grows = q.grows;
    count = q.count;
    known = q.known;
    result = q.result;
    closed = q.closed;
    settled = λ c. q.result (length s.structs + a) (omega arith) (known_more (length s.structs) (length s.structs + a) s (omega arith) c.known);
    typed = λ c b. q.result (length s.structs + a) (omega arith) (known_more (length s.structs) (length s.structs + a) s (omega arith) c.known);
    locals = q.locals;
  })
