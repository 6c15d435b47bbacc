-- Files that are told give one answer.
use Rattle.std.proofs.Common.{◌≡◌, ℕ, ◌+◌, ◌≤◌, List, Option, Some, None, Result, Ok, Err, sym, ap, ◌∙◌, arith}
use Rattle.std.proofs.Math.Path.{fun_ext}
use Rattle.std.proofs.lemmas.Option.{same_Some}
use Rattle.nm_base.specs.declared.token.Token.{Token}
use Rattle.nm_base.specs.declared.refusal.Refusal.{Refusal}
use Rattle.nm_base.specs.declared.fault.Fault.{Fault}
use Rattle.nm_base.specs.declared.fault.Fault.TheVariants as fault
use Rattle.nesc_tokens.specs.Lexes.{Lexes, IsRefused}
use Rattle.nesc_macros.specs.Invocation.{Name}
use Rattle.nesc_macros.specs.Expansion.{Settles}
use Rattle.nesc_preproc.specs.Sources.{Known, World, IsLexing, LexedAs}
use Rattle.nesc_preproc.specs.Scanned.{Scanned, file_expanded}
use Rattle.nesc_preproc.specs.Expands.{Told, Expands, ExpandsAs, FailsOnly}
use Rattle.nesc_preproc.specs.OneExpansion.{IsAnswer, OneExpansion}

-- a text has one list of tokens at most, or is refused in one way at most
pub record LexesOnce : Type 0 where
  pub one : (file : ℕ) (text : List ℕ) (a b : List Token) → Lexes file text a → Lexes file text b → a ≡ b
  pub not_refused : (file : ℕ) (text : List ℕ) (a : List Token) (r : Refusal) → Lexes file text a → IsRefused file text r → ⊥
  pub one_refusal : (file : ℕ) (text : List ℕ) (r s : Refusal) → IsRefused file text r → IsRefused file text s → r ≡ s

same_lexed : (once : LexesOnce) (file : ℕ) (text : List ℕ) (a b : Result (List Token) Refusal) → LexedAs file text a → LexedAs file text b → a ≡ b
same_lexed once file text (Ok a) (Ok b) p q = ap Ok (once.one file text a b p q)
same_lexed once file text (Ok a) (Err s) p q = let no : ⊥ = once.not_refused file text a s p q in elim no [ ]
same_lexed once file text (Err r) (Ok b) p q = let no : ⊥ = once.not_refused file text b r q p in elim no [ ]
same_lexed once file text (Err r) (Err s) p q = ap Err (once.one_refusal file text r s p q)

same_lexing : (once : LexesOnce) (f g : ℕ → List ℕ → Result (List Token) Refusal) → IsLexing f → IsLexing g → f ≡ g
same_lexing once f g p q = fun_ext (λ file. fun_ext (λ text. same_lexed once file text (f file text) (g file text) (p file text) (q file text)))

same_settled : {A : Type 0} (f g : ℕ → Option A) (x y : A) → f ≡ g → Settles f x → Settles g y → x ≡ y
same_settled f g x y e p q =
    let below : p.0 ≤ p.0 + q.0 = omega arith in
    let above : q.0 ≤ p.0 + q.0 = omega arith in
    same_Some x y (sym (p.1 (p.0 + q.0) below) ∙ ap (λ (h : ℕ → Option _). h (p.0 + q.0)) e ∙ q.1 (p.0 + q.0) above)

abbrev world_with : Told → Option ℕ → (ℕ → List ℕ → Result (List Token) Refusal) → World
world_with told broken lexed = record { text_of = told; broken = broken; lexed = lexed }

none_broken : (a : Result (List Token) Fault) (broken : Option ℕ) → IsAnswer a → FailsOnly a broken → broken ≡ None
none_broken (Ok ts) broken is h = h
none_broken (Err (fault.Refused r)) broken is h = h
none_broken (Err (fault.Missing n)) broken is h = h
none_broken (Err fault.ReadFault) broken is h = elim is [ ]
none_broken (Err (fault.Limit l)) broken is h = h
none_broken (Err (fault.TooLarge r n)) broken is h = h
none_broken (Err fault.NoMemory) broken is h = elim is [ ]

answer_expands : (told : Told) (old : Known) (name : Name) (a : Result (List Token) Fault) (x : Option Known) → IsAnswer a → Expands told (Some old) name a x → ExpandsAs told old name a x
answer_expands told old name (Ok ts) x is h = h
answer_expands told old name (Err (fault.Refused r)) x is h = h
answer_expands told old name (Err (fault.Missing n)) x is h = h
answer_expands told old name (Err fault.ReadFault) x is h = elim is [ ]
answer_expands told old name (Err (fault.Limit l)) x is h = h
answer_expands told old name (Err (fault.TooLarge r n)) x is h = h
answer_expands told old name (Err fault.NoMemory) x is h = elim is [ ]

never_memory : (a : Result (List Token) Fault) → IsAnswer a → a ≡ Err fault.NoMemory → ⊥
never_memory (Ok ts) is e = cc
never_memory (Err (fault.Refused r)) is e = cc
never_memory (Err (fault.Missing n)) is e = cc
never_memory (Err fault.ReadFault) is e = is
never_memory (Err (fault.Limit l)) is e = cc
never_memory (Err (fault.TooLarge r n)) is e = cc
never_memory (Err fault.NoMemory) is e = is

expands_once : (once : LexesOnce) (told : Told) (old : Known) (name : Name) (a b : Result (List Token) Fault) (x y : Option Known) → IsAnswer a → IsAnswer b
    → ExpandsAs told old name a x → ExpandsAs told old name b y → (a ≡ b) × (x ≡ y)
expands_once once told old name a b x y is-a is-b p q =
    let lexing : p.lexed ≡ q.lexed = same_lexing once p.lexed q.lexed p.is_lexing q.is_lexing in
    let broken : p.broken ≡ q.broken = none_broken a p.broken is-a p.fails_only ∙ sym (none_broken b q.broken is-b q.fails_only) in
    let world : world_with told p.broken p.lexed ≡ world_with told q.broken q.lexed = ap (λ (o : Option ℕ). world_with told o p.lexed) broken ∙ ap (world_with told q.broken) lexing in
    let same : record { value = a; known = p.known } ≡ record { value = b; known = q.known } = same_settled (λ steps. file_expanded steps (world_with told p.broken p.lexed) old name) (λ steps. file_expanded steps (world_with told q.broken q.lexed) old name) _ _ (fun_ext (λ steps. ap (λ (w : World). file_expanded steps w old name) world)) p.settles q.settles in
    (ap (λ (s : Scanned). s.value) same, p.is_kept ∙ ap (λ (s : Scanned). Some s.known) same ∙ sym q.is_kept)

pub one_expansion : LexesOnce → OneExpansion
one_expansion once told None name a b x y p q is-a is-b = let no : ⊥ = never_memory a is-a p.0 in elim no [ ]
one_expansion once told (Some old) name a b x y p q is-a is-b = expands_once once told old name a b x y is-a is-b (answer_expands told old name a x is-a p) (answer_expands told old name b y is-b q)
