-- The files of an application are read once, where expansion and parsing have one answer; want of memory and reads that fail aside.
use Rattle.std.proofs.Common.{◌≡◌, ℕ, Bool, List, [], ◌∷◌, Option, Some, Result, Ok, Err, sym, ap, subst, ◌∙◌}
use Rattle.nm_base.specs.declared.token.Token.{Token}
use Rattle.nm_base.specs.declared.fault.Fault.{Fault}
use Rattle.nm_base.specs.declared.fault.Fault.TheVariants as fault
use Rattle.nesc_tree.specs.declared.components.Unit as unit
use Rattle.nesc_tree.specs.declared.declarations.Decl.{Decl}
use Rattle.nesc_tree.specs.Sorts.{Names}
use Rattle.nesc_preproc.specs.Sources.{Known, nothing_known}
use Rattle.nesc_left_out.specs.Marks.{marked}
use Rattle.nesc_preproc.specs.OneExpansion as expansion
use Rattle.nesc_preproc.specs.OneExpansion.{OneExpansion}
use Rattle.wire_reading.specs.declared.opener.Need.{Need}
use Rattle.wire_reading.specs.Order.{Name}
use Rattle.wire_reading.specs.Order as order
use Rattle.wire_reading.specs.Told.{IsOfFiles, Told}
use Rattle.wire_loading.specs.declared.stopped.Stopped.{Stopped}
use Rattle.wire_loading.specs.Needs.{file_of}
use Rattle.wire_loading.specs.Opened.{Begins, Declared, Declaring, Goes, Held, Opens, Parsed, Parsing, Preluded, ReadsAs, Scanned, Spells, main, prelude, stopped}
use Rattle.wire_loading.specs.Places.{file_told}
use Rattle.application_laws.proofs.Order.{Answers, Tells, all_one, ok_err, same_ok}

-- ---- expansion

expands : (e : Fault) → IsOfFiles e → expansion.IsAnswer (Err e)
expands fault.NoMemory a = absurd a
expands fault.ReadFault a = absurd a
expands (fault.Refused x) a = tt
expands (fault.Missing n) a = tt
expands (fault.Limit l) a = tt
expands (fault.TooLarge m n) a = tt

module _ (one : OneExpansion) (told : Told) (old : Option Known) (name : Name) where
  not_expanded : (ts : List Token) (e : Fault) (x y : Option Known) → Spells told old name (Ok ts) x → Spells told old name (Err e) y → IsOfFiles e → ⊥
  not_expanded ts e x y h k a = ok_err h.0 e (one told old name (Ok h.0) (Err e) x y h.1 k tt (expands e a)).0

  same_tokens : (ts us : List Token) (x y : Option Known) → Spells told old name (Ok ts) x → Spells told old name (Ok us) y → ts ≡ us
  same_tokens ts us x y h k = h.2 ∙ (ap marked (same_ok h.0 k.0 (one told old name (Ok h.0) (Ok k.0) x y h.1 k.1 tt tt).0) ∙ sym k.2)

  same_known : (ts us : List Token) (x y : Option Known) → Spells told old name (Ok ts) x → Spells told old name (Ok us) y → x ≡ y
  same_known ts us x y h k = (one told old name (Ok h.0) (Ok k.0) x y h.1 k.1 tt tt).1

-- ---- what parsing has to keep

-- tokens that spell a file give it each time, and are not refused
pub record OneParsing (Parses : Parsing) : Type 0 where
  pub one_unit : (is_interface : Bool) (file : ℕ) (ts : List Token) (name : Name) (names after behind : Names) (u v : unit.Unit) → Parses is_interface file ts name names after (Ok u) → Parses is_interface file ts name names behind (Ok v) → u ≡ v
  pub one_set : (is_interface : Bool) (file : ℕ) (ts : List Token) (name : Name) (names after behind : Names) (u v : unit.Unit) → Parses is_interface file ts name names after (Ok u) → Parses is_interface file ts name names behind (Ok v) → after ≡ behind
  pub not_refused : (is_interface : Bool) (file : ℕ) (ts : List Token) (name : Name) (names after behind : Names) (u : unit.Unit) (e : Fault) → Parses is_interface file ts name names after (Ok u) → Parses is_interface file ts name names behind (Err e) → IsOfFiles e → ⊥

pub record OneDeclaring (Declares : Declaring) : Type 0 where
  pub one_list : (file : ℕ) (ts : List Token) (names after behind : Names) (l m : List Decl) → Declares file ts names after (Ok l) → Declares file ts names behind (Ok m) → l ≡ m
  pub one_set : (file : ℕ) (ts : List Token) (names after behind : Names) (l m : List Decl) → Declares file ts names after (Ok l) → Declares file ts names behind (Ok m) → after ≡ behind
  pub not_refused : (file : ℕ) (ts : List Token) (names after behind : Names) (l : List Decl) (e : Fault) → Declares file ts names after (Ok l) → Declares file ts names behind (Err e) → IsOfFiles e → ⊥

-- ---- one file

module _ (one : OneExpansion) (Parses : Parsing) (parsing : OneParsing Parses) (told : Told) where
  module _ (s : Held) (need : Need) (needs : List Need) (b : Result (List Need) Fault) (t u : Held) where
    abbrev Gives : Option Known → List Token → Names → Result unit.Unit Fault → Type 0
    Gives known ts names answer = Parses need.is_interface (file_told ts known (file_of need.name)) ts need.name s.names names answer

    kept_once : (known : Option Known) (ts : List Token) (names after : Names) (x y : unit.Unit) → x ≡ y → names ≡ after
        → Parsed s.units known ts names (Ok x) (Ok needs) t → Parsed s.units known ts after (Ok y) b u → (b ≡ Ok needs) × (u ≡ t)
    kept_once known ts names after x y e n p q =
        let same = subst (λ (z : unit.Unit). Parsed s.units known ts after (Ok z) b u) (sym e) (q) in
        let kept = subst (λ (ns : Names). Parsed s.units known ts ns (Ok x) b u) (sym n) same in
        (kept.0 ∙ sym p.0, kept.1 ∙ sym p.1)

    parsed_once : (known : Option Known) (ts : List Token) (names after : Names) (x y : Result unit.Unit Fault) → Gives known ts names x → Gives known ts after y
        → Parsed s.units known ts names x (Ok needs) t → Parsed s.units known ts after y b u → Tells b → (b ≡ Ok needs) × (u ≡ t)
    parsed_once known ts names after (Err e) y v w p q c = absurd (ok_err needs e p.0)
    parsed_once known ts names after (Ok x) (Err e) v w p q c = absurd (parsing.not_refused need.is_interface (file_told ts known (file_of need.name)) ts need.name s.names names after x e v w (subst Tells q.0 c))
    parsed_once known ts names after (Ok x) (Ok y) v w p q c =
        kept_once known ts names after x y
        (parsing.one_unit need.is_interface (file_told ts known (file_of need.name)) ts need.name s.names names after x y v w)
        (parsing.one_set need.is_interface (file_told ts known (file_of need.name)) ts need.name s.names names after x y v w) p q

    scanned_once : (x y : Option Known) (o r : Result (List Token) Fault) → Spells told s.known (file_of need.name) o x → Spells told s.known (file_of need.name) r y
        → Scanned Parses s need x o (Ok needs) t → Scanned Parses s need y r b u → Tells b → (b ≡ Ok needs) × (u ≡ t)
    scanned_once x y (Err e) r h k p q c = absurd (ok_err needs e p.0)
    scanned_once x y (Ok ts) (Err e) h k p q c = absurd (not_expanded one told s.known (file_of need.name) ts e x y h k (subst Tells q.0 c))
    scanned_once x y (Ok ts) (Ok us) h k p q c =
        let tokens : us ≡ ts = sym (same_tokens one told s.known (file_of need.name) ts us x y h k) in
        let known : y ≡ x = sym (same_known one told s.known (file_of need.name) ts us x y h k) in
        let at : Scanned Parses s need y (Ok ts) b u = subst (λ (vs : List Token). Scanned Parses s need y (Ok vs) b u) tokens q in
        let same : Scanned Parses s need x (Ok ts) b u = subst (λ (z : Option Known). Scanned Parses s need z (Ok ts) b u) known at in
        parsed_once x ts p.0 same.0 p.1 same.1 p.2 same.2 p.3 same.3 c

    opened_once : Opens Parses told s need (Ok needs) t → Opens Parses told s need b u → Tells b → (b ≡ Ok needs) × (u ≡ t)
    opened_once p q c = scanned_once p.0 q.0 p.1 q.1 p.2 q.2 p.3 q.3 c

-- ---- the prelude

-- an application is read, or what refuses it is neither want of memory nor a read that failed
abbrev pub Ends : {A : Type 0} → Result A Stopped → Type 0
Ends (Ok x) = Unit {0}
Ends (Err s) = IsOfFiles s.fault

module _ (one : OneExpansion) (Declares : Declaring) (declaring : OneDeclaring Declares) (told : Told) (h : Held) (y : Result Held Stopped) where
  abbrev Declare : Option Known → List Token → Names → Result (List Decl) Fault → Type 0
  Declare known ts names answer = Declares (file_told ts known prelude) ts [] names answer

  declared_once : (known : Option Known) (ts : List Token) (names after : Names) (a b : Result (List Decl) Fault) → Declare known ts names a → Declare known ts after b
      → Declared known names a (Ok h) → Declared known after b y → Ends y → y ≡ Ok h
  declared_once known ts names after (Err e) b v w p q c = absurd (ok_err h (stopped e known) p)
  declared_once known ts names after (Ok l) (Err e) v w p q c = absurd (declaring.not_refused (file_told ts known prelude) ts [] names after l e v w (subst Ends q c))
  declared_once known ts names after (Ok l) (Ok m) v w p q c =
      let list : m ≡ l = sym (declaring.one_list (file_told ts known prelude) ts [] names after l m v w) in
      let set : after ≡ names = sym (declaring.one_set (file_told ts known prelude) ts [] names after l m v w) in
      let at : Declared known names (Ok m) y = subst (λ (ns : Names). Declared known ns (Ok m) y) set q in
      let same : Declared known names (Ok l) y = subst (λ (ds : List Decl). Declared known names (Ok ds) y) list at in
      same ∙ sym p

  preluded_once : (x z : Option Known) (o r : Result (List Token) Fault) → Spells told (Some nothing_known) prelude o x → Spells told (Some nothing_known) prelude r z
      → Preluded Declares x o (Ok h) → Preluded Declares z r y → Ends y → y ≡ Ok h
  preluded_once x z (Err e) r v w p q c = absurd (ok_err h (stopped e x) p)
  preluded_once x z (Ok ts) (Err e) v w p q c = absurd (not_expanded one told (Some nothing_known) prelude ts e x z v w (subst Ends q c))
  preluded_once x z (Ok ts) (Ok us) v w p q c =
      let tokens : us ≡ ts = sym (same_tokens one told (Some nothing_known) prelude ts us x z v w) in
      let known : z ≡ x = sym (same_known one told (Some nothing_known) prelude ts us x z v w) in
      let at : Preluded Declares z (Ok ts) y = subst (λ (vs : List Token). Preluded Declares z (Ok vs) y) tokens q in
      let same : Preluded Declares x (Ok ts) y = subst (λ (k : Option Known). Preluded Declares k (Ok ts) y) known at in
      declared_once x ts p.0 same.0 p.1 same.1 p.2 same.2 p.3 same.3 c

  begun_once : Begins Declares told (Ok h) → Begins Declares told y → Ends y → y ≡ Ok h
  begun_once p q c = preluded_once p.0 q.0 p.1 q.1 p.2 q.2 p.3 q.3 c

-- ---- the application

same_second : {A B : Type 0} (x y : A) (v w : B) → ◌≡◌ {A = A × B} (x, v) (y, w) → v ≡ w
same_second {A = A} {B = B} x y v w e = ap (λ (p : A × B). p.1) e

module _ (one : OneExpansion) (Declares : Declaring) (declaring : OneDeclaring Declares) (Parses : Parsing) (parsing : OneParsing Parses) (told : Told) (app : Name) where
  all_read : (s : Held) (p : List Name × Held) (y : order.Answer Held) → order.Answers (Opens Parses told) app main s (Ok p) → order.Answers (Opens Parses told) app main s y → Answers y → y ≡ Ok p
  all_read s p y a b c =
      all_one (Opens Parses told) (λ (s : Held) (need : Need) (needs : List Need) (r : Result (List Need) Fault) (t u : Held) v w k. opened_once one Parses parsing told s need needs r t u v w k)
      (order.component app ∷ order.component main ∷ []) [] s p y a b c

  behind_prelude : (s h : Held) (y : Result Held Stopped) → Goes Parses told app (Ok s) (Ok h) → Goes Parses told app (Ok s) y → Ends y → y ≡ Ok h
  behind_prelude s h (Ok g) a b c =
      let e = all_read s (a.0, h) (Ok (b.0, g)) a.1 b.1 tt in
      let same : g ≡ h = same_second b.0 a.0 g h (same_ok (b.0, g) (a.0, h) e) in
      ap (λ (x : Held). Ok x) same
  behind_prelude s h (Err x) a b c = absurd (ok_err (a.0, h) (x.fault, b.0) (sym (all_read s (a.0, h) (Err (x.fault, b.0)) a.1 b.1 c)))

  goes_once : (h : Held) (y o r : Result Held Stopped) → Begins Declares told o → Begins Declares told r → Goes Parses told app o (Ok h) → Goes Parses told app r y → Ends y → y ≡ Ok h
  goes_once h y (Err e) r v w p q c = absurd (ok_err h e p)
  goes_once h y (Ok s) (Err e) v w p q c = absurd (ok_err s e (sym (begun_once one Declares declaring told s (Err e) v w (subst Ends q c))))
  goes_once h y (Ok s) (Ok t) v w p q c =
      let same : t ≡ s = same_ok t s (begun_once one Declares declaring told s (Ok t) v w tt) in
      behind_prelude s h y p (subst (λ (x : Held). Goes Parses told app (Ok x) y) same q) c

  -- beside what is read of these files there is no other answer
  pub read_once : (h : Held) (y : Result Held Stopped) → ReadsAs Declares Parses told app (Ok h) → ReadsAs Declares Parses told app y → Ends y → y ≡ Ok h
  read_once h y a b c = goes_once h y a.0 b.0 a.1 b.1 a.2 b.2 c
