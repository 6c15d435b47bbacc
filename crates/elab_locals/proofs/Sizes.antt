-- How large initialisers are.
use Rattle.std.proofs.Common.{◌≡◌, ℕ, ◌+◌, ◌<◌, List, drop, length, map, get_or, ap}
use Rattle.nesc_tree.specs.declared.declarations.Init as rust_init
use Rattle.body_meaning.specs.Tree.{Init, Inits, one, many, no_inits, more_inits}
use Rattle.body_meaning.specs.View.{init_of, inits}
use Rattle.elab_forms.proofs.Lists.{next_of}

abbrev mutual
  pub size : Init → ℕ
  size (one e) = 1
  size (many is) = 1 + sizes is

  pub sizes : Inits → ℕ
  sizes no_inits = 0
  sizes (more_inits i is) = size i + sizes is

pub sizes_next : (xs : List rust_init.Init) (k : ℕ) (x : rust_init.Init) → k < length xs → x ≡ get_or xs k x
    → sizes (inits (map init_of (drop k xs))) ≡ size (init_of x) + sizes (inits (map init_of (drop (k + 1) xs)))
sizes_next xs k x below is = ap (λ (ys : List rust_init.Init). sizes (inits (map init_of ys))) (next_of xs k x below is)
