-- The law as it is stated.
use Rattle.elab_kept.specs.Grows.{ElaborationGrows}
use Rattle.elab_kept.proofs.Steps.{Kept}
use Rattle.elab_kept.proofs.Parts as parts
use Rattle.elab_kept.proofs.Walk as walk
use Rattle.elab_meaning.specs.Wired.{found}

pub law : ElaborationGrows
law = record {
  founds = λ env values e s t x is. (walk.found_kept env values e s).by x t is;
  values = λ env values e s t x is. (parts.valued_kept e (found env values e) s (walk.found_kept env values e s)).by x t is;
  constants = λ env values whole e evaluated s t x is. (walk.constant_kept env values whole e evaluated s).by x t is;
  types = λ env values at ty s t x is. (walk.type_kept env values at ty s).by x t is;
  bases = λ env values at b s t x is. (walk.base_kept env values at b s).by x t is;
  lengths = λ env values es s t x is. (walk.lengths_kept env values es s).by x t is;
  stars = λ at stars b s t x is. (parts.starred_kept at stars b s).by x t is;
  arrays = λ at ty ns s t x is. (parts.dimensioned_kept at ty ns s).by x t is;
}
