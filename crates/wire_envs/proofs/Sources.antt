-- What is told, by the uses and numbers of a whole application.
use Rattle.std.proofs.Common.{◌≡◌, ℕ, List, ap, ◌∙◌, unwrap_or}
use Rattle.std.proofs.Math.Path.{fun_ext}
use Rattle.wire_instances.specs.declared.plan.Made.{Made}
use Rattle.wire_names.specs.Places.{Placed, place_of}
use Rattle.wire_uniques.specs.Expressions.{Uses}
use Rattle.wire_envs.specs.Envs.{Count, told, of_instances}

abbrev pub counts_in_table : Placed → Count
counts_in_table counts text = unwrap_or (place_of counts text) 0

pub same_counts : (counts : Placed) (f : Count) → ((text : List ℕ) → unwrap_or (place_of counts text) 0 ≡ f text) → counts_in_table counts ≡ f
same_counts counts f h = fun_ext h

pub told_as : (f g : Count) (k : ℕ) (us vs : Uses) (ms ns : List ℕ) → f ≡ g → us ≡ vs → ms ≡ ns → told f k us ms ≡ told g k vs ns
told_as f g k us vs ms ns p q r = ap (λ h. told h k us ms) p ∙ (ap (λ xs. told g k xs ms) q ∙ ap (told g k vs) r)

pub of_instances_as : (f g : Count) (ps qs : List Uses) (ms ns ss ts : List ℕ) (made : List Made) → f ≡ g → ps ≡ qs → ms ≡ ns → ss ≡ ts
    → of_instances f ps ms 0 made ss ≡ of_instances g qs ns 0 made ts
of_instances_as f g ps qs ms ns ss ts made p q r t =
    ap (λ h. of_instances h ps ms 0 made ss) p ∙ (ap (λ xs. of_instances g xs ms 0 made ss) q
    ∙ (ap (λ xs. of_instances g qs xs 0 made ss) r ∙ ap (λ xs. of_instances g qs ns 0 made xs) t))
