use Rattle.std.proofs.Common.{◌<◌, true, false, [], refl, sym, subst, ◌∙◌, arith}
use Rattle.nesc_tree.specs.Sorts.{ahead}
use Rattle.nesc_tree.specs.Phrase.{begins_decl}
use Rattle.nesc_grammar.specs.Grammar as grammar
use Rattle.nesc_grammar.specs.Declarations as spec
use Rattle.nesc_parse_types.specs.Gives.{form_in, place}
use Rattle.nesc_parse_types.proofs.Guards.{open_guard}
use Rattle.nesc_parse_types.proofs.Many.{turn_stands, turn_stops, turn_free, through, tested}
use Rattle.nesc_declarators.proofs.Turns.{IsFrom, begins_many, ends, next_turn, falls, fails}
use Rattle.nesc_declarations.specs.Forms as forms
use Rattle.nesc_declarations.proofs.Forms.{decls_fine}
use Rattle.nesc_declarations.proofs.decl_reader.decls.Goals as goal

pub loop-alloc-init : goal.loop-alloc-init
loop-alloc-init c = (
  subst (λ a. IsFrom c.args.spare (λ _ x. begins_decl c.args.site x) (λ x. grammar.when (begins_decl c.args.site x) (forms.another_decl c.args.site)) (form_in c.args.spare (spec.decls_before c.args.site) c.args.names.now c.args.ts.now) a (place c.args.names.now c.args.ts.now)) (sym c.no_list-list.ensures)
      (begins_many c.args.spare (λ _ x. begins_decl c.args.site x) (λ x. grammar.when (begins_decl c.args.site x) (forms.another_decl c.args.site)) (begins_decl c.args.site) [] (place c.args.names.now c.args.ts.now)),
  refl,
)

pub loop-alloc-preserved : goal.loop-alloc-preserved
loop-alloc-preserved c =
    let k = tested (begins_decl c.args.site) c.ahead.result (ahead c.loop-alloc.names c.loop-alloc.rest.now) true c.begins_decl.result c.ahead.ensures c.begins_decl.ensures c.loop-alloc-test.true in
    let fine = decls_fine c.args.site in
    let l : 0 < c.args.spare = omega (arith, c.requires.room) in (
      next_turn c.args.spare (λ _ x. begins_decl c.args.site x) (λ x. grammar.when (begins_decl c.args.site x) (forms.another_decl c.args.site)) (form_in c.args.spare (spec.decls_before c.args.site) c.args.names.now c.args.ts.now) c.loop-alloc.list (place c.loop-alloc.names c.loop-alloc.rest.now) c.loop-alloc.invariant.0 c.in_ok-so_far.so_far (place c.another_decl.new.names c.in_ok-so_far.behind.now) k (turn_free c.args.spare c.loop-alloc.names (forms.another_decl c.args.site) ((begins_decl c.args.site) (ahead c.loop-alloc.names c.loop-alloc.rest.now)) k (place c.loop-alloc.names c.loop-alloc.rest.now) (λ x. open_guard c.args.spare (forms.another_decl c.args.site) (place c.loop-alloc.names c.loop-alloc.rest.now) x l)) (fine.0 (ahead c.loop-alloc.names c.loop-alloc.rest.now)) (fine.2 (ahead c.loop-alloc.names c.loop-alloc.rest.now) k) (turn_stands c.args.spare c.loop-alloc.names (forms.another_decl c.args.site) ((begins_decl c.args.site) (ahead c.loop-alloc.names c.loop-alloc.rest.now)) k c.loop-alloc.list c.loop-alloc.rest.now _ c.in_ok-so_far.ensures.gives),
      c.in_ok-so_far.ensures.noted ∙ c.loop-alloc.invariant.1,
    )

pub loop-alloc-smaller : goal.loop-alloc-smaller
loop-alloc-smaller c =
    let k = tested (begins_decl c.args.site) c.ahead.result (ahead c.loop-alloc.names c.loop-alloc.rest.now) true c.begins_decl.result c.ahead.ensures c.begins_decl.ensures c.loop-alloc-test.true in
    let fine = decls_fine c.args.site in
    let l : 0 < c.args.spare = omega (arith, c.requires.room) in
    falls c.args.spare (λ _ x. begins_decl c.args.site x) (λ x. grammar.when (begins_decl c.args.site x) (forms.another_decl c.args.site)) (form_in c.args.spare (spec.decls_before c.args.site) c.args.names.now c.args.ts.now) c.loop-alloc.list (place c.loop-alloc.names c.loop-alloc.rest.now) c.in_ok-so_far.so_far (place c.another_decl.new.names c.in_ok-so_far.behind.now) (fine.0 (ahead c.loop-alloc.names c.loop-alloc.rest.now)) (fine.2 (ahead c.loop-alloc.names c.loop-alloc.rest.now) k) (turn_stands c.args.spare c.loop-alloc.names (forms.another_decl c.args.site) ((begins_decl c.args.site) (ahead c.loop-alloc.names c.loop-alloc.rest.now)) k c.loop-alloc.list c.loop-alloc.rest.now _ c.in_ok-so_far.ensures.gives)

pub returns-in_err-so_far-clause-gives : goal.returns-in_err-so_far-clause-gives
returns-in_err-so_far-clause-gives c =
    let k = tested (begins_decl c.args.site) c.ahead.result (ahead c.loop-alloc.names c.loop-alloc.rest.now) true c.begins_decl.result c.ahead.ensures c.begins_decl.ensures c.loop-alloc-test.true in
    let fine = decls_fine c.args.site in
    let l : 0 < c.args.spare = omega (arith, c.requires.room) in
    through c.another_decl.new.names c.from_residual.result c.in_err-so_far.field-0.0 (form_in c.args.spare (spec.decls_before c.args.site) c.args.names.now c.args.ts.now) c.from_residual.ensures
    (fails c.args.spare (λ _ x. begins_decl c.args.site x) (λ x. grammar.when (begins_decl c.args.site x) (forms.another_decl c.args.site)) (form_in c.args.spare (spec.decls_before c.args.site) c.args.names.now c.args.ts.now) c.loop-alloc.list (place c.loop-alloc.names c.loop-alloc.rest.now) c.loop-alloc.invariant.0 c.in_err-so_far.field-0.0 k (turn_free c.args.spare c.loop-alloc.names (forms.another_decl c.args.site) ((begins_decl c.args.site) (ahead c.loop-alloc.names c.loop-alloc.rest.now)) k (place c.loop-alloc.names c.loop-alloc.rest.now) (λ x. open_guard c.args.spare (forms.another_decl c.args.site) (place c.loop-alloc.names c.loop-alloc.rest.now) x l)) (turn_stops c.args.spare c.loop-alloc.names (forms.another_decl c.args.site) ((begins_decl c.args.site) (ahead c.loop-alloc.names c.loop-alloc.rest.now)) k c.loop-alloc.list c.loop-alloc.rest.now c.in_err-so_far.field-0.0 c.in_err-so_far.ensures.gives))

pub returns-in_err-so_far-clause-noted : goal.returns-in_err-so_far-clause-noted
returns-in_err-so_far-clause-noted c = c.in_err-so_far.ensures.noted ∙ c.loop-alloc.invariant.1

pub returns-clause-gives : goal.returns-clause-gives
returns-clause-gives c =
    let k = tested (begins_decl c.args.site) c.ahead.result (ahead c.loop-alloc.names c.loop-alloc.rest.now) false c.begins_decl.result c.ahead.ensures c.begins_decl.ensures c.loop-alloc-test.false in
    ends c.args.spare (λ _ x. begins_decl c.args.site x) (λ x. grammar.when (begins_decl c.args.site x) (forms.another_decl c.args.site)) (form_in c.args.spare (spec.decls_before c.args.site) c.args.names.now c.args.ts.now) c.loop-alloc.list (place c.loop-alloc.names c.loop-alloc.rest.now) c.loop-alloc.invariant.0 k

pub returns-clause-noted : goal.returns-clause-noted
returns-clause-noted c = c.loop-alloc.invariant.1
