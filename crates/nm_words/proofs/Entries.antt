-- The entry of an argument that takes one word has a text that passed its parser.
use Rattle.std.proofs.Common.{◌≡◌, ◌∙◌, ◌<◌, ◌≤◌, ℕ, Bool, true, false, List, [], ◌∷◌, length, Option, Some, None, is_some, zero, suc, inl, inr, refl, sym, subst, ap, arith}
use Rattle.std.specs.Prelude.{find, option_map, slice_get}
use Rattle.std.specs.Borrow.{Bor}
use Rattle.std.specs.List.{All, slice_index_or}
use Rattle.std.specs.Str.{bytes_eq}
use Rattle.std.proofs.lemmas.List.Elements.{All-get_or}
use Rattle.std.proofs.lemmas.Slice.Eq.{bytes_eq-Decides}
use Rattle.clap.specs.Facts.{Entry, EntryPasses, HasId, HasIn, HasReading, PassesArg, args_of, groups_of, least_values, parser_of, parser_of_value}
use Rattle.clap.specs.Built.{SameRules}
use Rattle.clap.specs.Matches.{matched_of, one_text}
use Rattle.clap.specs.Values.{Accepts, read_as, reading_of}
use Rattle.clap.specs.declared.builder.action.ArgAction.TheVariants.{Count, Set}
use Rattle.clap.specs.declared.builder.arg.Arg.{Arg}
use Rattle.clap.specs.declared.builder.command.Command.{Command}
use Rattle.clap.specs.declared.builder.value_parser.Reading.{Reading}
use Rattle.clap.specs.declared.builder.value_parser.ValueParser.{ValueParser}
use Rattle.clap.specs.declared.parser.matches.Found.{Found}
use Rattle.clap.specs.declared.parser.matches.MatchedArg.{MatchedArg}
use Rattle.clap.proofs.CallerLemmas.{entry_by_id}

-- an entry with the id is found
has_entry : (xs : List Entry) (id : List ℕ) → HasIn xs id → is_some (option_map (λ e. e.1) (find (λ e. bytes_eq e.0.now id) xs)) ≡ true
has_entry [] id (i, lt, at) = absurd (omega arith)
has_entry (x ∷ xs) id (i, lt, at) = go (bytes_eq x.0.now id) refl i lt at (λ h. has_entry xs id h)
  where
    go : (t : Bool) → bytes_eq x.0.now id ≡ t → (i : ℕ) → i < length (x ∷ xs) → ((d : Entry) → bytes_eq (slice_index_or (x ∷ xs) i d).0.now id ≡ true)
        → (HasIn xs id → is_some (option_map (λ e. e.1) (find (λ e. bytes_eq e.0.now id) xs)) ≡ true)
        → is_some (option_map (λ e. e.1) (find (λ e. bytes_eq e.0.now id) (x ∷ xs))) ≡ true
    go true t i lt at rec = rw t refl
    go false t zero lt at rec = absurd (let bad : false ≡ true = sym t ∙ at x in cc)
    go false t (suc i) lt at rec = rw t (rec (i, omega arith, at))

-- one argument of a command, whose rules those with its id have
module _ (c : Command) (a : Arg) (q : ValueParser)
    (same : (j : ℕ) (x : Arg) → j < length (args_of c) → slice_index_or (args_of c) j x ≡ x → bytes_eq x.id.now a.id.now ≡ true → SameRules a x)
    (no_groups : groups_of c ≡ []) (named : a.id.now ≡ [] → ⊥)
    (set : a.action ≡ Some Set) (delim : a.val_delim ≡ None) (least : 1 ≤ least_values a) (parser : a.value_parser ≡ Some q)
    (e : Entry) (key : e.0.now ≡ a.id.now) (pass : EntryPasses c e) where
  no_group : e.1.is_group ≡ true → ⊥
  no_group g = elim (pass.3 g) [
    | inl empty ↦ named (sym key ∙ empty)
    | inr lots ↦
        let bad : 0 < 0 = rw no_groups at lots in
        absurd (omega arith)
  ]

  has_values : 0 < length e.1.vals.items
  has_values = elim pass.1 [
    | inl h ↦ absurd (no_group h.0)
    | inr (inl v) ↦ v
    | inr (inr (inl h)) ↦
        let any = h.1 in
        let s = same any.0 any.1 any.2 any.3 (rw key at any.4.0) in
        let is_set : any.1.action ≡ Some Set = s.action Set set in
        let bad : Set ≡ Count = rw is_set at any.4.1 in
        cc
    | inr (inr (inr h)) ↦
        let s = same h.0 h.1 h.2 h.3 (rw key at h.4.0) in
        elim h.4.1 [
          | inl none ↦
              let one = s.least set least in
              absurd (omega arith)
          | inr has ↦
              let bad : false ≡ true = rw (s.val_delim, delim) at has in
              cc
        ]
  ]

  accepted : (t : List ℕ) → PassesArg c e.0.now t → Accepts a.ignore_case q t
  accepted t any =
      let s = same any.0 any.1 any.2 any.3 (rw key at any.4.0) in
      let is_q : parser_of any.1 ≡ q = ap parser_of_value (s.parser q parser) in
      let as_q : Accepts any.1.ignore_case q t = subst (λ (w : ValueParser). Accepts any.1.ignore_case w t) is_q any.4.1 in
      subst (λ (b : Bool). Accepts b q t) s.ignore_case as_q

  read_by : (r : Reading) → HasReading c e.0.now r → r ≡ reading_of q
  read_by r any =
      let s = same any.0 any.1 any.2 any.3 (rw key at any.4.0) in
      sym any.4.1 ∙ ap reading_of (ap parser_of_value (s.parser q parser))

  reading : e.1.reading ≡ reading_of q
  reading = elim pass.4 [
    | inl g ↦ absurd (no_group g)
    | inr h ↦ read_by e.1.reading h
  ]

  all : All (λ v. PassesArg c e.0.now v.now) e.1.vals.items
  all = elim pass.0 [
    | inl g ↦ absurd (no_group g)
    | inr vals ↦ vals
  ]

  first : (vs : List (Bor (List ℕ))) (how : Reading) → 0 < length vs → how ≡ reading_of q → All (λ v. PassesArg c e.0.now v.now) vs
      → (t : List ℕ) × (option_map (λ s. read_as how s.now) (slice_get vs 0) ≡ Some (read_as (reading_of q) t)) × Accepts a.ignore_case q t
  first [] how lt is h = absurd (omega arith)
  first (v ∷ vs) how lt is h =
      (v.now, ap (λ r. Some (read_as r v.now)) is, accepted v.now (All-get_or (λ v. PassesArg c e.0.now v.now) (v ∷ vs) 0 v (omega arith) h))

  pub entry_read : (t : List ℕ) × (option_map (λ s. read_as e.1.reading s.now) (slice_get e.1.vals.items 0) ≡ Some (read_as (reading_of q) t)) × Accepts a.ignore_case q t
  entry_read = first e.1.vals.items e.1.reading has_values reading all

-- the text of an id that has an entry
pub text_read : (c : Command) (f : Found) (id : List ℕ) (q : ValueParser) (ignore : Bool) → All (EntryPasses c) f.entries.items → HasId f id
    → ((e : Entry) → e.0.now ≡ id → EntryPasses c e → (t : List ℕ) × (option_map (λ s. read_as e.1.reading s.now) (slice_get e.1.vals.items 0) ≡ Some (read_as (reading_of q) t)) × Accepts ignore q t)
    → (t : List ℕ) × (one_text f id ≡ Some (read_as (reading_of q) t)) × Accepts ignore q t
text_read c f id q ignore passes has read = go (matched_of f id) refl (has_entry f.entries.items id has)
  where
    at : (x : MatchedArg) → matched_of f id ≡ Some x → ((e : Entry) × (e.1 ≡ x) × (bytes_eq e.0.now id ≡ true) × EntryPasses c e)
        → (t : List ℕ) × (one_text f id ≡ Some (read_as (reading_of q) t)) × Accepts ignore q t
    at x found got =
        let r = read got.0 ((bytes_eq-Decides got.0.0.now id).0 got.2) got.3 in
        (r.0, rw (found, sym got.1) r.1, r.2)

    go : (o : Option MatchedArg) → matched_of f id ≡ o → is_some (matched_of f id) ≡ true
        → (t : List ℕ) × (one_text f id ≡ Some (read_as (reading_of q) t)) × Accepts ignore q t
    go None e h = absurd (let bad : false ≡ true = rw e at h in cc)
    go (Some x) e h = at x e (entry_by_id (EntryPasses c) f.entries.items id x passes e)
