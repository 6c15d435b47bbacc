use Rattle.std.proofs.Common.{sym, subst}
use Rattle.nesc_parse_types.specs.Gives.{Gives}
use Rattle.nesc_parse_comp.proofs.Forms.{module_case, configuration_case, no_component}
use Rattle.nesc_parse_comp.proofs.components.component_by.Goals as goal

pub returns-in-Module-clause-gives : goal.returns-in-Module-clause-gives
returns-in-Module-clause-gives c = subst (Gives c.read_module.new.names c.read_module.result) (sym (module_case c.args.spare c.args.is_generic c.args.names.now c.args.ts.now c.args.first c.in-Module.is)) c.read_module.ensures.gives

pub returns-in-Configuration-clause-gives : goal.returns-in-Configuration-clause-gives
returns-in-Configuration-clause-gives c = subst (Gives c.read_configuration.new.names c.read_configuration.result) (sym (configuration_case c.args.spare c.args.is_generic c.args.names.now c.args.ts.now c.args.first c.in-Configuration.is)) c.read_configuration.ensures.gives

pub returns-in_default-clause-gives : goal.returns-in_default-clause-gives
returns-in_default-clause-gives c = no_component c.args.spare c.args.is_generic c.args.names.now c.args.ts.now c.args.first c.in_default.not-Module c.in_default.not-Configuration
