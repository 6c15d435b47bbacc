-- What is told to bodies, part by part.
use Rattle.std.proofs.Common.{◌≡◌, ℕ, List, ap, ◌∙◌}
use Rattle.elab_meaning.specs.Scope.{Env, Item, Unique, UniqueCount}

abbrev env : ℕ → List Unique → List UniqueCount → List Item → ℕ → Env
env k us cs is n = record { instance = k; uniques = us; counts = cs; items = is; first_dispatch = n }

pub env_same : (k : ℕ) (us vs : List Unique) (cs ds : List UniqueCount) (is js : List Item) (m n : ℕ) → us ≡ vs → cs ≡ ds → is ≡ js → m ≡ n
    → env k us cs is m ≡ env k vs ds js n
env_same k us vs cs ds is js m n a b c d =
    ap (λ (x : List Unique). env k x cs is m) a ∙ ap (λ (x : List UniqueCount). env k vs x is m) b ∙ ap (λ (x : List Item). env k vs ds x m) c ∙ ap (env k vs ds js) d
