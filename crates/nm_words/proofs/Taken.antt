-- Where the parser takes the words, the application has a name and the budget is a number.
use Rattle.std.proofs.Common.{◌≡◌, ◌∙◌, ◌<◌, ◌≤◌, ℕ, zero, suc, true, false, not, List, [], ◌∷◌, length, map, Option, Some, None, is_some, inl, inr, refl, sym, subst, ap, arith}
use Rattle.std.specs.Prelude.{codes, pos}
use Rattle.std.specs.List.{All, slice_index_or}
use Rattle.std.specs.Str.{bytes_eq}
use Rattle.clap.specs.Facts.{args_of}
use Rattle.clap.specs.Built.{IsParsedFrom, IsPlain, IsPlainArg}
use Rattle.clap.specs.Matches.{found_of}
use Rattle.clap.specs.Simple.{App, app_of}
use Rattle.clap.specs.Walk.{Rule, rule_of}
use Rattle.clap.specs.declared.builder.arg.Arg.{Arg}
use Rattle.clap.specs.declared.builder.command.Command.{Command}
use Rattle.clap.specs.declared.builder.value_parser.ValueParser.TheVariants.{Signed}
use Rattle.clap.specs.declared.parser.matches.ArgMatches.{ArgMatches}
use Rattle.clap.proofs.CallerLemmas.{default_present, required_has_value, same_rules_by_id}
use Rattle.clap.proofs.SimpleLemmas.{HasPlainFields, plain_fields}
use Rattle.clap.proofs.SimpleLemmas.{is_false, is_nil}
use Rattle.clap.proofs.WalkLemmas.{both}
use Rattle.clap.specs.Facts.{WantsDefault, least_values}
use Rattle.clap.specs.Matches.{first_value, one_text}
use Rattle.clap.specs.Texts.{items_of}
use Rattle.clap.specs.Walk.{is_free_arg, is_simple_arg, texts}
use Rattle.clap.specs.Values.{IsSignedIn}
use Rattle.clap.specs.Lexer.{without_minus}
use Rattle.std.specs.Borrow.{Bor}
use Rattle.nm_words.specs.Command.{app_rule, budget_rule, mode_rule, nescmote, schedule_rule}
use Rattle.nm_words.proofs.Entries.{entry_read, text_read}

-- ---- one argument

none_of : {X : Type 0} (o : Option X) → not (is_some o) ≡ true → o ≡ None
none_of None e = refl
none_of (Some x) e = cc

record Plain (a : Arg) : Type 0 where
  plain : IsPlainArg a
  no_ifs : a.default_vals_ifs.items ≡ []
  no_delimiter : a.val_delim ≡ None

plain_of : (a : Arg) → is_simple_arg a ≡ true → is_free_arg a ≡ true → Plain a
plain_of a simple free =
    let p = both _ _ simple in
    let q = both _ _ p.1 in
    let r = both _ _ q.1 in
    let s = both _ _ r.1 in
    let f = both _ _ free in
    let g = both _ _ f.1 in
    record {
      plain = (is_false _ f.0, is_nil _ g.0, is_nil _ p.0, is_nil _ r.0);
      no_ifs = is_nil _ q.0;
      no_delimiter = none_of _ s.0;
    }

plain_by : (a : Arg) (r : Rule) → rule_of a ≡ r → r.is_simple ≡ true → r.is_free ≡ true → Plain a
plain_by a r e simple free = plain_of a (ap (λ (x : Rule). x.is_simple) e ∙ simple) (ap (λ (x : Rule). x.is_free) e ∙ free)

one_value : (a : Arg) → a.num_vals ≡ None → 1 ≤ least_values a
one_value a e = rw e (omega arith)

some_texts : (xs : List (Bor (List ℕ))) (t : List ℕ) → texts xs ≡ t ∷ [] → 0 < length xs
some_texts [] t e = cc
some_texts (x ∷ xs) t e = omega arith

-- ---- four arguments

abbrev Four : List Arg → Rule → Rule → Rule → Rule → Type 0
Four xs r s t u = (a : Arg) × (b : Arg) × (c : Arg) × (d : Arg) × (xs ≡ a ∷ b ∷ c ∷ d ∷ [])
    × (rule_of a ≡ r) × (rule_of b ≡ s) × (rule_of c ≡ t) × (rule_of d ≡ u)

four : (xs : List Arg) (r s t u : Rule) → map rule_of xs ≡ r ∷ s ∷ t ∷ u ∷ [] → Four xs r s t u
four [] r s t u e = absurd (let n = ap length e in omega arith)
four (a ∷ []) r s t u e = absurd (let n = ap length e in omega arith)
four (a ∷ b ∷ []) r s t u e = absurd (let n = ap length e in omega arith)
four (a ∷ b ∷ c ∷ []) r s t u e = absurd (let n = ap length e in omega arith)
four (a ∷ b ∷ c ∷ d ∷ []) r s t u e = (a, b, c, d, refl, cc, cc, cc, cc)
four (a ∷ b ∷ c ∷ d ∷ f ∷ xs) r s t u e = absurd (let n = ap length e in omega arith)

differ : (x y s t : List ℕ) → x ≡ s → y ≡ t → bytes_eq s t ≡ false → bytes_eq x y ≡ true → ⊥
differ x y s t e f apart same = let bad : false ≡ true = sym apart ∙ (rw (e, f) at same) in cc

module _ (a b c d : Arg) (a_is : a.id.now ≡ codes "MODE") (b_is : b.id.now ≡ codes "APP") (c_is : c.id.now ≡ codes "SCHEDULE") (d_is : d.id.now ≡ codes "budget") where
  only_app : (j : ℕ) (e f : Arg) → j < 4 → bytes_eq (slice_index_or (a ∷ b ∷ c ∷ d ∷ []) j e).id.now (slice_index_or (a ∷ b ∷ c ∷ d ∷ []) 1 f).id.now ≡ true → j ≡ 1
  only_app zero e f lt same = absurd (differ _ _ _ _ a_is b_is refl same)
  only_app (suc zero) e f lt same = refl
  only_app (suc (suc zero)) e f lt same = absurd (differ _ _ _ _ c_is b_is refl same)
  only_app (suc (suc (suc zero))) e f lt same = absurd (differ _ _ _ _ d_is b_is refl same)
  only_app (suc (suc (suc (suc j)))) e f lt same = absurd (omega arith)

  only_budget : (j : ℕ) (e f : Arg) → j < 4 → bytes_eq (slice_index_or (a ∷ b ∷ c ∷ d ∷ []) j e).id.now (slice_index_or (a ∷ b ∷ c ∷ d ∷ []) 3 f).id.now ≡ true → j ≡ 3
  only_budget zero e f lt same = absurd (differ _ _ _ _ a_is d_is refl same)
  only_budget (suc zero) e f lt same = absurd (differ _ _ _ _ b_is d_is refl same)
  only_budget (suc (suc zero)) e f lt same = absurd (differ _ _ _ _ c_is d_is refl same)
  only_budget (suc (suc (suc zero))) e f lt same = refl
  only_budget (suc (suc (suc (suc j)))) e f lt same = absurd (omega arith)

  all_plain : IsPlainArg a → IsPlainArg b → IsPlainArg c → IsPlainArg d → All IsPlainArg (a ∷ b ∷ c ∷ d ∷ [])
  all_plain h k l m zero e lt = h
  all_plain h k l m (suc zero) e lt = k
  all_plain h k l m (suc (suc zero)) e lt = l
  all_plain h k l m (suc (suc (suc zero))) e lt = m
  all_plain h k l m (suc (suc (suc (suc j)))) e lt = absurd (omega arith)

rules_are : (cmd : Command) → app_of cmd ≡ nescmote → map rule_of (args_of cmd) ≡ mode_rule ∷ app_rule ∷ schedule_rule ∷ budget_rule ∷ []
unfolding nescmote
rules_are cmd is = ap (λ (x : App). x.top.rules) is

is_plain_app : (cmd : Command) → app_of cmd ≡ nescmote → (app_of cmd).top.is_plain ≡ true
unfolding nescmote
is_plain_app cmd is = ap (λ (x : App). x.top.is_plain) is

keeps_requirements : (cmd : Command) → app_of cmd ≡ nescmote → (app_of cmd).top.subcommand_negates_reqs ≡ false
unfolding nescmote
keeps_requirements cmd is = ap (λ (x : App). x.top.subcommand_negates_reqs) is

module _ (cmd : Command) (is : app_of cmd ≡ nescmote) (m : ArgMatches) (p : IsParsedFrom cmd m) where
  args : Four (args_of cmd) mode_rule app_rule schedule_rule budget_rule
  args = four (args_of cmd) _ _ _ _ (rules_are cmd is)

  abbrev xs : List Arg
  xs = args_of cmd

  list : xs ≡ args.0 ∷ args.1 ∷ args.2 ∷ args.3 ∷ []
  list = args.4

  fields : HasPlainFields cmd
  fields = plain_fields cmd (is_plain_app cmd is)

  mode_id : args.0.id.now ≡ codes "MODE"
  mode_id = ap (λ (x : Rule). x.id) args.5

  app_id : args.1.id.now ≡ codes "APP"
  app_id = ap (λ (x : Rule). x.id) args.6

  schedule_id : args.2.id.now ≡ codes "SCHEDULE"
  schedule_id = ap (λ (x : Rule). x.id) args.7

  budget_id : args.3.id.now ≡ codes "budget"
  budget_id = ap (λ (x : Rule). x.id) args.8

  plain : IsPlain cmd
  plain = (
    subst (All IsPlainArg) (sym list) (all_plain args.0 args.1 args.2 args.3 mode_id app_id schedule_id budget_id
        (plain_by args.0 mode_rule args.5 refl refl).plain (plain_by args.1 app_rule args.6 refl refl).plain (plain_by args.2 schedule_rule args.7 refl refl).plain (plain_by args.3 budget_rule args.8 refl refl).plain),
    fields.groups,
  )

  pub app_given : is_some (first_value (found_of m) (codes "APP")) ≡ true
  app_given =
      let a = slice_index_or xs 1 args.1 in
      let at : a ≡ args.1 = ap (λ (l : List Arg). slice_index_or l 1 args.1) list in
      let rule : rule_of a ≡ app_rule = ap rule_of at ∙ args.6 in
      let id : a.id.now ≡ codes "APP" = ap (λ (x : Rule). x.id) rule in
      let lt : 1 < length xs = subst (λ (l : List Arg). 1 < length l) (sym list) (omega arith) in
      let has = required_has_value cmd m p plain fields.globals (keeps_requirements cmd is) 1 args.1 lt (ap (λ (x : Rule). x.required) rule) (ap (λ (x : Rule). x.action) rule)
      (plain_by a app_rule rule refl refl).no_delimiter (one_value a (ap (λ (x : Rule). x.range) rule))
      (λ j e low same. only_app args.0 args.1 args.2 args.3 mode_id app_id schedule_id budget_id j e args.1 (rw list at low) (rw list at same))
      (λ e. let bad : codes "APP" ≡ [] = sym id ∙ e in cc)
      (λ auto. elim auto [
        | inl h ↦ let bad : false ≡ true = ap (λ (t : List ℕ). bytes_eq t (codes "help")) (sym id ∙ h) in cc
        | inr h ↦ let bad : false ≡ true = ap (λ (t : List ℕ). bytes_eq t (codes "version")) (sym id ∙ h) in cc
      ]) in
      subst (λ (t : List ℕ). is_some (first_value (found_of m) t) ≡ true) id has

  pub budget_given : (t : List ℕ) × (one_text (found_of m) (codes "budget") ≡ Some (without_minus t)) × IsSignedIn (pos 0) (pos 1000000) t
  budget_given =
      let a = slice_index_or xs 3 args.3 in
      let at : a ≡ args.3 = ap (λ (l : List Arg). slice_index_or l 3 args.3) list in
      let rule : rule_of a ≡ budget_rule = ap rule_of at ∙ args.8 in
      let id : a.id.now ≡ codes "budget" = ap (λ (x : Rule). x.id) rule in
      let lt : 3 < length xs = subst (λ (l : List Arg). 3 < length l) (sym list) (omega arith) in
      let own = plain_by a budget_rule rule refl refl in
      let q = Signed (pos 0) (pos 1000000) in
      let parsed = p.parsed (p.from.globals ∙ fields.globals) in
      let wants : WantsDefault a = (own.no_ifs, some_texts (items_of a.default_vals) (codes "10000") (ap (λ (x : Rule). x.defaults) rule)) in
      let has = default_present cmd m p fields.globals 3 args.3 lt wants in
      let same = same_rules_by_id cmd m p 3 args.3 lt
      (λ j e low same. only_budget args.0 args.1 args.2 args.3 mode_id app_id schedule_id budget_id j e args.3 (rw list at low) (rw list at same))
      (λ auto. elim auto [
        | inl h ↦ let bad : false ≡ true = ap (λ (t : List ℕ). bytes_eq t (codes "help")) (sym id ∙ h) in cc
        | inr h ↦ let bad : false ≡ true = ap (λ (t : List ℕ). bytes_eq t (codes "version")) (sym id ∙ h) in cc
      ]) in
      let read = text_read p.built (found_of m) a.id.now q a.ignore_case parsed.values has
      (λ e key pass. entry_read p.built a q same (p.from.plain plain).1 (λ e. let bad : codes "budget" ≡ [] = sym id ∙ e in cc)
      (ap (λ (x : Rule). x.action) rule) own.no_delimiter (one_value a (ap (λ (x : Rule). x.range) rule)) (ap (λ (x : Rule). x.parser) rule) e key pass) in
      (read.0, subst (λ (t : List ℕ). one_text (found_of m) t ≡ Some (without_minus read.0)) id read.1, read.2)
