-- What is known of a context: what comes next, whether it has ended, and one action more.
use Rattle.std.proofs.Common.{◌≡◌, ℕ, ◌+◌, ◌<◌, ◌==◌, ◌&&◌, Bool, true, false, List, [], ◌∷◌, ◌++◌, length, cond, Option, Some, refl, sym, ap, subst, arith, ◌∙◌}
use Rattle.std.specs.Prelude.{IsSomeAnd, count_by, slice_get}
use Rattle.std.specs.Option.{option_map}
use Rattle.std.proofs.lemmas.Bool.{false≢true}
use Rattle.std.proofs.lemmas.List.Sums.{sum_by_push}
use Rattle.std.proofs.lemmas.Bool.Decides.{nat_tests}
use Rattle.nm_base.specs.declared.action.Action.{Action}
use Rattle.nm_base.specs.Lists.{IsPrefixOf, number_of}
use Rattle.nm_base.specs.Behaviour.{Performed, is_begin, is_end}
use Rattle.nesc_core.specs.Plain.{Program}
use Rattle.core_meaning.specs.Source.{act_of}
use Rattle.core_meaning.specs.SourceOf.{source_of}
use Rattle.run_meaning.specs.Runs.{CanDo, HasEnded}
use Rattle.run_checker.specs.declared.context.Progress.{Progress}
use Rattle.run_checker.specs.Contexts.{IsAnswered, IsKnown, IsMaybeKnown, IsPushed, context_of}
use Rattle.run_checker.specs.Tells.{Tells}
use Rattle.run_checker.proofs.Kept.{all_made, can_at, ended_at, goes_on, is_next, more_answers, prefix_trans}

module _ (p : Program) (turns : ℕ) (c : Progress) (known : IsKnown p turns c) where
  abbrev all_done : Performed
  all_done = act_of (source_of p) c.body c.answers.items turns

  ahead_is : c.ahead.items ≡ all_done.actions
  ahead_is = ap (λ (r : Performed). r.actions) known.done

  ended_is : c.ended ≡ all_done.ended
  ended_is = ap (λ (r : Performed). r.ended) known.done

  told_next : (a : Action) (t : Bool) → length c.made.items < turns → Tells t (slice_get c.ahead.items (length c.made.items) ≡ Some a) → Tells t (CanDo (source_of p) a (context_of c))
  told_next a true few told = (turns, subst (IsPrefixOf (c.made.items ++ a ∷ [])) ahead_is (goes_on c.made.items c.ahead.items a known.begun told))
  told_next a false few told = λ can.
      told (is_next c.made.items c.ahead.items a (subst (IsPrefixOf (c.made.items ++ a ∷ [])) (sym ahead_is) (can_at p c.body c.made.items a c.answers.items turns can.0 few can.1)))

  told_ended : (ended : Bool) (long : Bool) → c.ended ≡ ended → (length c.made.items == length c.ahead.items) ≡ long → length c.made.items < turns
      → Tells (ended && long) (HasEnded (source_of p) (context_of c))
  told_ended false long is same few = λ h.
      let all : all_done ≡ record { actions = c.made.items; ended = true } = ended_at p c.body c.made.items c.answers.items turns h.turns few h.all h.ended in
      false≢true (sym is ∙ ended_is ∙ ap (λ (r : Performed). r.ended) all)
  told_ended true false is same few = λ h.
      let all : all_done ≡ record { actions = c.made.items; ended = true } = ended_at p c.body c.made.items c.answers.items turns h.turns few h.all h.ended in
      let long : length c.made.items ≡ length c.ahead.items = ap length (sym (ahead_is ∙ ap (λ (r : Performed). r.actions) all)) in
      let test : (length c.made.items == length c.ahead.items) ≡ true = grind (arith, nat_tests, long) in
      false≢true (sym same ∙ test)
  told_ended true true is same few =
      let long : length c.made.items ≡ length c.ahead.items = grind (arith, nat_tests, same) in
      record {
        turns = turns;
        all = sym ahead_is ∙ all_made c.made.items c.ahead.items known.begun long;
        ended = sym ended_is ∙ is;
      }

pub can_next : (p : Program) (turns k : ℕ) (o : Option Progress) (c : Progress) (a : Action) → o ≡ Some c → IsMaybeKnown p turns k o → k < turns
    → IsSomeAnd (option_map context_of o) (CanDo (source_of p) a) → slice_get c.ahead.items (length c.made.items) ≡ Some a
can_next p turns k o c a is known few can =
    subst (λ o. IsMaybeKnown p turns k o → IsSomeAnd (option_map context_of o) (CanDo (source_of p) a) → slice_get c.ahead.items (length c.made.items) ≡ Some a) (sym is)
    (λ known can.
    is_next c.made.items c.ahead.items a
    (subst (IsPrefixOf (c.made.items ++ a ∷ [])) (sym (ahead_is p turns c known.0)) (can_at p c.body c.made.items a c.answers.items turns can.0 (omega (arith, known.1, few)) can.1))) known can

pub next_told : (p : Program) (turns k : ℕ) (o : Option Progress) (c : Progress) (a : Action) (t : Bool) → o ≡ Some c → IsMaybeKnown p turns k o → k < turns
    → Tells t (slice_get c.ahead.items (length c.made.items) ≡ Some a) → Tells t (IsSomeAnd (option_map context_of o) (CanDo (source_of p) a))
next_told p turns k o c a t is known few told =
    subst (λ o. IsMaybeKnown p turns k o → Tells t (IsSomeAnd (option_map context_of o) (CanDo (source_of p) a))) (sym is)
    (λ known. told_next p turns c known.0 a t (omega (arith, known.1, few)) told) known

pub ended_told : (p : Program) (turns k : ℕ) (o : Option Progress) (c : Progress) (t : Bool) → o ≡ Some c → IsMaybeKnown p turns k o → k < turns
    → t ≡ (c.ended && length c.made.items == length c.ahead.items) → Tells t (IsSomeAnd (option_map context_of o) (HasEnded (source_of p)))
ended_told p turns k o c t is known few told =
    subst (λ o. IsMaybeKnown p turns k o → Tells t (IsSomeAnd (option_map context_of o) (HasEnded (source_of p)))) (sym is)
    (λ known. subst (λ b. Tells b (HasEnded (source_of p) (context_of c))) (sym told)
    (told_ended p turns c known.0 c.ended (length c.made.items == length c.ahead.items) refl refl (omega (arith, known.1, few)))) known

-- ---- one action more

counted : (test : Action → Bool) (xs ys : List Action) (a : Action) (m n : ℕ) → ys ≡ xs ++ a ∷ [] → m ≡ count_by test xs → n ≡ m + number_of (test a) → n ≡ count_by test ys
counted test xs ys a m n is old new = new ∙ ap (λ k. k + number_of (test a)) old ∙ sym (ap (count_by test) is ∙ sum_by_push (λ x. cond (test x) 1 0) xs a)

pub pushed : (p : Program) (turns : ℕ) (a : Action) (c d : Progress) → IsPushed a c d → IsKnown p turns c → slice_get c.ahead.items (length c.made.items) ≡ Some a → IsKnown p turns d
pushed p turns a c d more known is = record {
  done =
      ap (λ xs. record { actions = xs; ended = d.ended }) more.ahead ∙ ap (λ t. record { actions = c.ahead.items; ended = t }) more.ended ∙ known.done
      ∙ sym (ap (λ b. act_of (source_of p) b d.answers.items turns) more.body ∙ ap (λ xs. act_of (source_of p) c.body xs turns) more.answers);
  begun =
      subst (λ xs. IsPrefixOf xs d.ahead.items) (sym more.made)
      (subst (IsPrefixOf (c.made.items ++ a ∷ [])) (sym more.ahead) (goes_on c.made.items c.ahead.items a known.begun is));
  begin_count = counted is_begin c.made.items d.made.items a c.begins d.begins more.made known.begin_count more.begins;
  end_count = counted is_end c.made.items d.made.items a c.ends d.ends more.made known.end_count more.ends;
}

pub answered : (p : Program) (turns x : ℕ) (d e : Progress) → IsAnswered p turns x d e → IsKnown p turns d → IsKnown p turns e
answered p turns x d e more known =
    let done : record { actions = e.ahead.items; ended = e.ended } ≡ act_of (source_of p) e.body e.answers.items turns =
    more.done ∙ sym (ap (λ b. act_of (source_of p) b e.answers.items turns) more.body ∙ ap (λ xs. act_of (source_of p) d.body xs turns) more.answers) in
    record {
      done = done;
      begun =
          subst (λ xs. IsPrefixOf xs e.ahead.items) (sym more.made)
          (prefix_trans d.made.items d.ahead.items e.ahead.items known.begun
          (subst (IsPrefixOf d.ahead.items) (sym (ap (λ (r : Performed). r.actions) more.done))
          (subst (λ xs. IsPrefixOf xs (act_of (source_of p) d.body (d.answers.items ++ x ∷ []) turns).actions) (sym (ap (λ (r : Performed). r.actions) known.done))
          (more_answers p d.body d.answers.items (x ∷ []) turns))));
      begin_count = more.begins ∙ known.begin_count ∙ sym (ap (count_by is_begin) more.made);
      end_count = more.ends ∙ known.end_count ∙ sym (ap (count_by is_end) more.made);
    }
