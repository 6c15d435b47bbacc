-- Where a later state of the reading ends in a value, the earlier one ends in it.
use Rattle.std.proofs.Common.{◌≡◌, ℕ, zero, suc, ◌+◌, ◌≤◌, ℤ, List, [], ◌∷◌, length, codes, refl, sym, ap, subst, ◌∙◌, arith, Some, None, Option}
use denote.Ref.{Bor}
use Rattle.nm_base.specs.declared.token.Token.{Token}
use Rattle.nesc_macros.specs.Invocation.{Name}
use Rattle.nesc_macros.specs.Expansion.{Settles}
use Rattle.nesc_conditions.specs.declared.frames.Frame.{Frame}
use Rattle.nesc_conditions.specs.declared.frames.Frame.TheVariants as frame
use Rattle.nesc_conditions.specs.declared.operator.Operator.{Operator}
use Rattle.nesc_conditions.specs.declared.operator.Prefix.{Prefix}
use Rattle.nesc_conditions.specs.declared.operator.Opening.TheVariants as opening
use Rattle.nesc_conditions.specs.declared.operator.Following.TheVariants.{Infix, Conditional}
use Rattle.nesc_conditions.specs.Signs.{conditional_level}
use Rattle.nesc_conditions.specs.Arithmetic.{Value, chosen}
use Rattle.nesc_conditions.specs.Conditions.{Reading, Parsed, Part, From, Behind, opening_of, following_at, operand, following, past, if_stands, parsed, and_then, unless_malformed, gives, malformed, if_nothing_left, whole_of, ConditionIs}
use Rattle.nesc_conditions.specs.Frames.{frame_level, level, onward, LeadsTo, EndsIn, EndsHere, IsPast}

-- ---- settling

settled_later : {A : Type 0} (f : ℕ → Option A) (x : A) → Settles (λ n. f (suc n)) x → Settles f x
settled_later f x (n, h) = (suc n, from_one)
  where
    from_one : (m : ℕ) → suc n ≤ m → f m ≡ Some x
    from_one zero le = absurd (omega arith)
    from_one (suc k) le = h k (omega arith)

settled_then : (f : ℕ → Parsed) (g : ℕ → Reading → Parsed) (a b : Option Reading) → Settles f a → Settles (λ n. unless_malformed a (g n)) b → Settles (λ n. and_then (f n) (g n)) b
settled_then f g a b (n, first) (m, second) = (n + m, λ k le. ap (λ p. and_then p (g k)) (first k (omega arith)) ∙ second k (omega arith))

settled_along : {A : Type 0} (f g : ℕ → Option A) (x : A) → ((n : ℕ) → f n ≡ g n) → Settles g x → Settles f x
settled_along f g x same (n, h) = (n, λ m le. same m ∙ h m le)

-- ---- steps

abbrev StopsAt : ℕ → Value → List Token → Type 0
StopsAt level x ts = (n : ℕ) → parsed (suc n) (Behind level x) ts ≡ gives x ts

-- a malformed text passes through all frames
pub faulted : (fs : List Frame) → LeadsTo fs None None
faulted [] = refl
faulted (f ∷ fs) = (None, (0, λ m le. refl), faulted fs)

pub malformed_here : (fs : List Frame) (part : Part) (ts : List Token) (v : Option ℤ) → ((n : ℕ) → parsed (suc n) part ts ≡ malformed) → v ≡ None → EndsIn fs part ts v
malformed_here fs part ts v fails none = record {
  answer = None;
  settles = settled_later (λ n. parsed n part ts) None (0, λ m le. fails m);
  leads = subst (λ w. LeadsTo fs None w) (sym none) (faulted fs);
}

pub moved : (fs : List Frame) (part part' : Part) (ts ts' : List Token) (v : Option ℤ) → ((n : ℕ) → parsed (suc n) part ts ≡ parsed n part' ts') → EndsIn fs part' ts' v → EndsIn fs part ts v
moved fs part part' ts ts' v same e = record {
  answer = e.answer;
  settles = settled_later (λ n. parsed n part ts) e.answer (settled_along (λ n. parsed (suc n) part ts) (λ n. parsed n part' ts') e.answer same e.settles);
  leads = e.leads;
}

pub pushed : (f : Frame) (fs : List Frame) (part : Part) (ts ts' : List Token) (v : Option ℤ) → ((n : ℕ) → parsed (suc n) part ts ≡ and_then (parsed n (From (frame_level f)) ts') (onward (parsed n) f (level fs))) → EndsIn (f ∷ fs) (From (frame_level f)) ts' v → EndsIn fs part ts v
pushed f fs part ts ts' v same e = record {
  answer = e.leads.0;
  settles =
      settled_later (λ n. parsed n part ts) e.leads.0 (settled_along (λ n. parsed (suc n) part ts) (λ n. and_then (parsed n (From (frame_level f)) ts') (onward (parsed n) f (level fs))) e.leads.0 same
      (settled_then (λ n. parsed n (From (frame_level f)) ts') (λ n. onward (parsed n) f (level fs)) e.answer e.leads.0 e.settles e.leads.1));
  leads = e.leads.2;
}

-- the innermost frame has its operand
operand_read : (f : Frame) (fs : List Frame) (x : Value) (ts : List Token) (v : Option ℤ) (next : Option Reading) → StopsAt (frame_level f) x ts → Settles (λ n. onward (parsed n) f (level fs) (record { value = x; rest = ts })) next → LeadsTo fs next v → EndsIn (f ∷ fs) (Behind (frame_level f) x) ts v
operand_read f fs x ts v next stops goes leads = record {
  answer = Some (record { value = x; rest = ts });
  settles = settled_later (λ n. parsed n (Behind (frame_level f) x) ts) (Some (record { value = x; rest = ts })) (0, λ m le. stops m);
  leads = (next, goes, leads);
}

pub popped : (f : Frame) (fs : List Frame) (x : Value) (ts : List Token) (part : Part) (ts' : List Token) (v : Option ℤ) → StopsAt (frame_level f) x ts → ((n : ℕ) → onward (parsed n) f (level fs) (record { value = x; rest = ts }) ≡ parsed n part ts') → EndsIn fs part ts' v → EndsIn (f ∷ fs) (Behind (frame_level f) x) ts v
popped f fs x ts part ts' v stops same e =
    operand_read f fs x ts v e.answer stops (settled_along (λ n. onward (parsed n) f (level fs) (record { value = x; rest = ts })) (λ n. parsed n part ts') e.answer same e.settles) e.leads

pub popped_malformed : (f : Frame) (fs : List Frame) (x : Value) (ts : List Token) (v : Option ℤ) → StopsAt (frame_level f) x ts → ((n : ℕ) → onward (parsed n) f (level fs) (record { value = x; rest = ts }) ≡ malformed) → v ≡ None → EndsIn (f ∷ fs) (Behind (frame_level f) x) ts v
popped_malformed f fs x ts v stops fails none =
    operand_read f fs x ts v None stops (0, λ m le. fails m) (subst (λ w. LeadsTo fs None w) (sym none) (faulted fs))

pub replaced : (f g : Frame) (fs : List Frame) (x : Value) (ts ts' : List Token) (v : Option ℤ) → StopsAt (frame_level f) x ts → ((n : ℕ) → onward (parsed n) f (level fs) (record { value = x; rest = ts }) ≡ and_then (parsed n (From (frame_level g)) ts') (onward (parsed n) g (level fs))) → EndsIn (g ∷ fs) (From (frame_level g)) ts' v → EndsIn (f ∷ fs) (Behind (frame_level f) x) ts v
replaced f g fs x ts ts' v stops same e =
    operand_read f fs x ts v e.leads.0 stops
    (settled_along (λ n. onward (parsed n) f (level fs) (record { value = x; rest = ts })) (λ n. and_then (parsed n (From (frame_level g)) ts') (onward (parsed n) g (level fs))) e.leads.0 same
    (settled_then (λ n. parsed n (From (frame_level g)) ts') (λ n. onward (parsed n) g (level fs)) e.answer e.leads.0 e.settles e.leads.1))
    e.leads.2

pub finished : (x : Value) (ts : List Token) (v : Option ℤ) → StopsAt 0 x ts → v ≡ if_nothing_left x ts → EndsIn [] (Behind 0 x) ts v
finished x ts v stops is = record {
  answer = Some (record { value = x; rest = ts });
  settles = settled_later (λ n. parsed n (Behind 0 x) ts) (Some (record { value = x; rest = ts })) (0, λ m le. stops m);
  leads = is;
}

-- ---- an operand begins

pub no_operand : (fs : List Frame) (level : ℕ) (ts : List Token) (v : Option ℤ) → length ts ≡ 0 → v ≡ None → EndsIn fs (From level) ts v
no_operand fs level [] v empty none = malformed_here fs (From level) [] v (λ n. refl) none
no_operand fs level (t ∷ ts) v empty none = absurd (omega (arith, empty))

pub no_opening : (fs : List Frame) (level : ℕ) (t : Token) (ts rest : List Token) (v : Option ℤ) → rest ≡ t ∷ ts → opening_of t ≡ None → v ≡ None → EndsIn fs (From level) rest v
no_opening fs level t ts rest v split opens none =
    subst (λ r. EndsIn fs (From level) r v) (sym split)
    (malformed_here fs (From level) (t ∷ ts) v (λ n. ap (λ o. operand (parsed n) level o ts) opens) none)

pub literal_read : (fs : List Frame) (level : ℕ) (x : ℤ) (t : Token) (ts rest : List Token) (v : Option ℤ) → rest ≡ t ∷ ts → opening_of t ≡ Some (opening.Literal x) → EndsIn fs (Behind level (Some x)) ts v → EndsIn fs (From level) rest v
literal_read fs level x t ts rest v split opens e =
    subst (λ r. EndsIn fs (From level) r v) (sym split)
    (moved fs (From level) (Behind level (Some x)) (t ∷ ts) ts v (λ n. ap (λ o. operand (parsed n) level o ts) opens) e)

pub group_opened : (fs gs : List Frame) (t : Token) (ts rest : List Token) (v : Option ℤ) → rest ≡ t ∷ ts → opening_of t ≡ Some opening.Group → gs ≡ frame.Group ∷ fs → EndsIn gs (From (level gs)) ts v → EndsIn fs (From (level fs)) rest v
group_opened fs gs t ts rest v split opens onto e =
    subst (λ r. EndsIn fs (From (level fs)) r v) (sym split)
    (pushed frame.Group fs (From (level fs)) (t ∷ ts) ts v (λ n. ap (λ o. operand (parsed n) (level fs) o ts) opens) (subst (λ g. EndsIn g (From (level g)) ts v) onto e))

pub prefix_opened : (operator : Prefix) (fs gs : List Frame) (t : Token) (ts rest : List Token) (v : Option ℤ) → rest ≡ t ∷ ts → opening_of t ≡ Some (opening.Prefix operator) → gs ≡ frame.Prefix operator ∷ fs → EndsIn gs (From (level gs)) ts v → EndsIn fs (From (level fs)) rest v
prefix_opened operator fs gs t ts rest v split opens onto e =
    subst (λ r. EndsIn fs (From (level fs)) r v) (sym split)
    (pushed (frame.Prefix operator) fs (From (level fs)) (t ∷ ts) ts v (λ n. ap (λ o. operand (parsed n) (level fs) o ts) opens) (subst (λ g. EndsIn g (From (level g)) ts v) onto e))

-- ---- an operand goes on

pub infix_read : (operator : Operator) (x : Value) (fs gs : List Frame) (t : Token) (ts rest : List Token) (v : Option ℤ) → rest ≡ t ∷ ts → following_at (level fs) t ≡ Some (Infix operator) → gs ≡ frame.Infix operator x ∷ fs → EndsIn gs (From (level gs)) ts v → EndsIn fs (Behind (level fs) x) rest v
infix_read operator x fs gs t ts rest v split follows onto e =
    subst (λ r. EndsIn fs (Behind (level fs) x) r v) (sym split)
    (pushed (frame.Infix operator x) fs (Behind (level fs) x) (t ∷ ts) ts v (λ n. ap (λ f. following (parsed n) (level fs) x t ts f) follows) (subst (λ g. EndsIn g (From (level g)) ts v) onto e))

pub condition_read : (x : Value) (fs gs : List Frame) (t : Token) (ts rest : List Token) (v : Option ℤ) → rest ≡ t ∷ ts → following_at (level fs) t ≡ Some Conditional → gs ≡ frame.Middle x ∷ fs → EndsIn gs (From (level gs)) ts v → EndsIn fs (Behind (level fs) x) rest v
condition_read x fs gs t ts rest v split follows onto e =
    subst (λ r. EndsIn fs (Behind (level fs) x) r v) (sym split)
    (pushed (frame.Middle x) fs (Behind (level fs) x) (t ∷ ts) ts v (λ n. ap (λ f. following (parsed n) (level fs) x t ts f) follows) (subst (λ g. EndsIn g (From (level g)) ts v) onto e))

-- ---- an operand ends

stops_here : (level : ℕ) (x : Value) (ts : List Token) → EndsHere level ts → StopsAt level x ts
stops_here level x [] here = λ n. refl
stops_here level x (t ∷ ts) here = λ n. ap (λ f. following (parsed n) level x t ts f) here

pub line_ended : (fs : List Frame) (x : Value) (ts : List Token) (v : Option ℤ) → fs ≡ [] → EndsHere (level fs) ts → v ≡ if_nothing_left x ts → EndsIn fs (Behind (level fs) x) ts v
line_ended fs x ts v empty here is =
    subst (λ g. EndsIn g (Behind (level g) x) ts v) (sym empty)
    (finished x ts v (stops_here 0 x ts (subst (λ g. EndsHere (level g) ts) empty here)) is)

pub operand_ended : (f : Frame) (fs gs : List Frame) (x : Value) (ts : List Token) (part : Part) (ts' : List Token) (v : Option ℤ) → fs ≡ f ∷ gs → EndsHere (level fs) ts → ((n : ℕ) → onward (parsed n) f (level gs) (record { value = x; rest = ts }) ≡ parsed n part ts') → EndsIn gs part ts' v → EndsIn fs (Behind (level fs) x) ts v
operand_ended f fs gs x ts part ts' v from here same e =
    subst (λ g. EndsIn g (Behind (level g) x) ts v) (sym from)
    (popped f gs x ts part ts' v (stops_here (frame_level f) x ts (subst (λ g. EndsHere (level g) ts) from here)) same e)

pub operand_malformed : (f : Frame) (fs gs : List Frame) (x : Value) (ts : List Token) (v : Option ℤ) → fs ≡ f ∷ gs → EndsHere (level fs) ts → ((n : ℕ) → onward (parsed n) f (level gs) (record { value = x; rest = ts }) ≡ malformed) → v ≡ None → EndsIn fs (Behind (level fs) x) ts v
operand_malformed f fs gs x ts v from here fails none =
    subst (λ g. EndsIn g (Behind (level g) x) ts v) (sym from)
    (popped_malformed f gs x ts v (stops_here (frame_level f) x ts (subst (λ g. EndsHere (level g) ts) from here)) fails none)

past_read : (sign : Name) (x : Value) (ts : List Token) (rest : Bor (List Token)) (go : Reading → Parsed) → IsPast sign ts (Some rest) → past sign x ts go ≡ go (record { value = x; rest = rest.now })
past_read sign x [] rest go absent = absurd (cc)
past_read sign x (t ∷ ts) rest go (stands, is) = ap (λ b. if_stands b x ts go) stands ∙ ap (λ (r : List Token). go (record { value = x; rest = r })) (sym is)

past_fails : (sign : Name) (x : Value) (ts : List Token) (go : Reading → Parsed) → IsPast sign ts None → past sign x ts go ≡ malformed
past_fails sign x [] go absent = refl
past_fails sign x (t ∷ ts) go absent = ap (λ b. if_stands b x ts go) absent

pub group_closed : (fs gs : List Frame) (x : Value) (ts : List Token) (rest : Bor (List Token)) (v : Option ℤ) → fs ≡ frame.Group ∷ gs → EndsHere (level fs) ts → IsPast (codes ")") ts (Some rest) → EndsIn gs (Behind (level gs) x) rest.now v → EndsIn fs (Behind (level fs) x) ts v
group_closed fs gs x ts rest v from here closes e =
    operand_ended frame.Group fs gs x ts (Behind (level gs) x) rest.now v from here
    (λ n. past_read (codes ")") x ts rest (λ r. parsed n (Behind (level gs) r.value) r.rest) closes)
    e

pub group_open : (fs gs : List Frame) (x : Value) (ts : List Token) (v : Option ℤ) → fs ≡ frame.Group ∷ gs → EndsHere (level fs) ts → IsPast (codes ")") ts None → v ≡ None → EndsIn fs (Behind (level fs) x) ts v
group_open fs gs x ts v from here absent none =
    operand_malformed frame.Group fs gs x ts v from here
    (λ n. past_fails (codes ")") x ts (λ r. parsed n (Behind (level gs) r.value) r.rest) absent)
    none

pub no_colon : (condition : Value) (fs gs : List Frame) (x : Value) (ts : List Token) (v : Option ℤ) → fs ≡ frame.Middle condition ∷ gs → EndsHere (level fs) ts → IsPast (codes ":") ts None → v ≡ None → EndsIn fs (Behind (level fs) x) ts v
no_colon condition fs gs x ts v from here absent none =
    operand_malformed (frame.Middle condition) fs gs x ts v from here
    (λ n. past_fails (codes ":") x ts (λ r. and_then (parsed n (From conditional_level) r.rest) (λ z. parsed n (Behind (level gs) (chosen condition r.value z.value)) z.rest)) absent)
    none

pub colon_read : (condition : Value) (fs gs hs : List Frame) (x : Value) (ts : List Token) (rest : Bor (List Token)) (v : Option ℤ) → fs ≡ frame.Middle condition ∷ gs → EndsHere (level fs) ts → IsPast (codes ":") ts (Some rest) → hs ≡ frame.Otherwise condition x ∷ gs → EndsIn hs (From (level hs)) rest.now v → EndsIn fs (Behind (level fs) x) ts v
colon_read condition fs gs hs x ts rest v from here stands onto e =
    subst (λ g. EndsIn g (Behind (level g) x) ts v) (sym from)
    (replaced (frame.Middle condition) (frame.Otherwise condition x) gs x ts rest.now v (stops_here 0 x ts (subst (λ g. EndsHere (level g) ts) from here))
    (λ n. past_read (codes ":") x ts rest (λ r. and_then (parsed n (From conditional_level) r.rest) (λ z. parsed n (Behind (level gs) (chosen condition r.value z.value)) z.rest)) stands)
    (subst (λ g. EndsIn g (From (level g)) rest.now v) onto e))

-- ---- lines

-- what the first state of the reading ends in is the value of the line
pub line_has : (ts : List Token) (v : Option ℤ) → EndsIn [] (From 0) ts v → ConditionIs ts v
line_has ts v e = (e.settles.0, λ m le. ap whole_of (e.settles.1 m le) ∙ ap Some (sym e.leads))
