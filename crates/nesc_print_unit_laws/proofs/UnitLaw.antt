-- Interfaces, components and their parts are read again.
use Rattle.std.proofs.Common.{◌≡◌, false, ◌++◌, map, sym, subst}
use Rattle.nesc_tree.specs.Phrase.{Phrase}
use Rattle.nesc_tree.specs.Sorts.{ahead}
use Rattle.nesc_grammar.specs.Components.{is_specify}
use Rattle.nesc_print_laws.proofs.Changed.{matched_map}
use Rattle.nesc_print_laws.proofs.Law.{read}
use Rattle.nesc_print_decl_laws.specs.DeclarationsAgain.{ReadBetween, FormBetween}
use Rattle.nesc_print_decl_laws.proofs.DeclLaw.{between, form_between}
use Rattle.nesc_print_unit_laws.specs.UnitShapes.{generic_param_shape, sig_shape, elem_shape, line_shape}
use Rattle.nesc_print_unit_laws.specs.UnitsAgain.{InterfacesAreReadAgain, ComponentsAreReadAgain, PartsAreReadAgain, specifications}
use Rattle.nesc_print_unit_laws.proofs.Interfaces.{has_sig}
use Rattle.nesc_print_unit_laws.proofs.Generics.{has_generics}
use Rattle.nesc_print_unit_laws.proofs.Heads.{has_specifications}
use Rattle.nesc_print_unit_laws.proofs.Units.{has_unit, has_conf_lines}
use Rattle.nesc_print_unit_laws.proofs.UnitsKnown.{interface_law, component_law, generics_law, item_law, spec_law, line_law}

pub interfaces : InterfacesAreReadAgain
interfaces levels p q u h ts rest e = (let k = interface_law levels p q u h in between {k = Phrase.interface} (λ y same. same) ((has_unit u k.decls k.part).run (ts ++ rest) rest (read ts rest e) tt))

pub components : ComponentsAreReadAgain
components levels p q u h ts rest e = (let k = component_law levels p q u h in between {k = Phrase.component} (λ y same. same) ((has_unit u k.decls k.part).run (ts ++ rest) rest (read ts rest e) tt))

pub parts : PartsAreReadAgain
parts = record {
  items = λ levels p q x h ts rest e. (let k = item_law levels p q x h in subst (λ n. ReadBetween Phrase.item p.names n ts rest (λ y. sig_shape y ≡ sig_shape x)) (sym k.0) (between {k = Phrase.item} (λ y same. same) ((has_sig x k.1).run (ts ++ rest) rest (read ts rest e) tt)));
  generics = λ levels p q xs h ts rest e. between {k = Phrase.generics} (λ ys g. matched_map generic_param_shape xs ys g) ((has_generics xs (generics_law levels p q xs h)).run (ts ++ rest) rest (read ts rest e) tt);
  elements = λ levels p q xs h ts rest e c. (let k = spec_law levels p q xs h in subst (λ n. is_specify (ahead n rest) ≡ false → FormBetween specifications p.names n ts rest (λ ys. map elem_shape ys ≡ map elem_shape xs)) (sym k.0)
      (λ d. form_between (λ ys g. matched_map elem_shape xs ys g) ((has_specifications xs k.1).run (ts ++ rest) rest (read ts rest e) (tt, d))) c);
  lines = λ levels p q xs h ts rest e c. form_between (λ ys g. matched_map line_shape xs ys g) ((has_conf_lines xs (line_law levels p q xs h)).run (ts ++ rest) rest (read ts rest e) (tt, c));
}
