use Rattle.std.proofs.Common.{rules, ◌≡◌, [], ◌∷◌, ◌++◌}
use Rattle.nesc_core.specs.View.{type_of}
use Rattle.elab_pieces.specs.Ways.{start_at}
use Rattle.elab_pieces.proofs.Ways.{aim-end}
use Rattle.elab_pieces.proofs.parts.behind.Goals as goal

pub returns : goal.returns
returns c =
    let e : c.push.new.self.items ≡ c.args.p.now.steps.items ++ (c.args.step ∷ []) = search (rules, c.in_ok-steps.ensures, c.in_ok-push.ensures.items) in
    aim-end (start_at c.args.p.now.root) (type_of c.args.ty) c.args.p.now.steps.items c.push.new.self.items c.args.step e
