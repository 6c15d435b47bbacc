-- Files are printed, and read again as the same up to places.
use Rattle.std.proofs.Common.{◌≡◌, ℕ, Bool, true, false, List, ◌∷◌, ◌++◌, map, refl, sym, subst, append_assoc}
use Rattle.std.specs.Prelude.{codes, is_some}
use Rattle.nesc_tree.specs.declared.sorts.Sort.{Sort}
use Rattle.nesc_tree.specs.declared.sorts.Sort.TheVariants as s
use Rattle.nesc_tree.specs.declared.contexts.Site.TheVariants as site
use Rattle.nesc_tree.specs.declared.declarations.Decl.{Decl}
use Rattle.nesc_tree.specs.declared.components.Config.{Config}
use Rattle.nesc_tree.specs.declared.components.ConfLine.{ConfLine}
use Rattle.nesc_tree.specs.declared.components.Head.{Head}
use Rattle.nesc_tree.specs.declared.components.Interface.{Interface}
use Rattle.nesc_tree.specs.declared.components.Module.{Module}
use Rattle.nesc_tree.specs.declared.components.Part.{Part}
use Rattle.nesc_tree.specs.declared.components.Part.TheVariants as part
use Rattle.nesc_tree.specs.declared.components.Unit as unit
use Rattle.nesc_tree.specs.Sorts.{Names}
use Rattle.nesc_tree.specs.Phrase.{begins_decl, begins_line}
use Rattle.nesc_tree.specs.Form.{Form}
use Rattle.nesc_grammar.specs.Grammar as gr
use Rattle.nesc_grammar.specs.Declarations as inner
use Rattle.nesc_grammar.specs.Components as gc
use Rattle.nesc_print_words.specs.Lexemes.{Words, word, in_braces, flagged, joined}
use Rattle.nesc_print_words.specs.Statements.{decls_words}
use Rattle.nesc_print_words.specs.Components.{head_end_words, line_words, part_words, unit_words}
use Rattle.nesc_print_laws.specs.Shapes.{decl_shape}
use Rattle.nesc_print_laws.proofs.Texts.{Prints, Leads, Any, Sorted, lead, lead_any, has_token, has_seq, has_map, has_behind, has_before, has_by, has_words}
use Rattle.nesc_print_laws.proofs.Signs
use Rattle.nesc_print_laws.proofs.Lists.{Behind}
use Rattle.nesc_print_laws.proofs.Exprs.{two}
use Rattle.nesc_print_laws.proofs.Fields.{Matched}
use Rattle.nesc_print_laws.proofs.Changed.{has_scope, has_repeated, matched_map}
use Rattle.nesc_print_laws.proofs.Variables.{SameDecl}
use Rattle.nesc_print_decl_laws.proofs.Params.{any_carries}
use Rattle.nesc_print_decl_laws.proofs.Decls.{Decls, has_decls}
use Rattle.nesc_print_unit_laws.specs.UnitShapes as units
use Rattle.nesc_print_unit_laws.specs.UnitShapes.{component_shape, line_shape, part_shape, unit_shape}
use Rattle.nesc_print_unit_laws.specs.UnitsAgain.{conf_lines}
use Rattle.nesc_print_unit_laws.proofs.Keywords.{interface_sorted, generic_sorted, module_sorted, configuration_sorted, implementation_sorted}
use Rattle.nesc_print_unit_laws.proofs.Interfaces.{Interfaced, SamePart, has_interface}
use Rattle.nesc_print_unit_laws.proofs.Heads.{Headed, has_head}
use Rattle.nesc_print_unit_laws.proofs.Lines.{SameLine, Lines, line_body}

-- ---- what is behind a head

has_module_body : {ns ms : Names} (ds : List Decl) → Decls site.Module ds ns ms → Prints ns ms (gr.behind (gr.one s.Implementation) (inner.between s.LBrace s.RBrace (inner.decls_before site.Module))) (word (codes "implementation") ∷ in_braces (decls_words ds)) Any (Matched SameDecl ds)
has_module_body ds r = has_behind (has_token implementation_sorted (λ t w. w)) lead_any (has_behind (has_token Signs.left_brace_sorted (λ t w. w)) lead_any (has_before (has_decls site.Module ds r) (lead s.RBrace Signs.right_brace_sorted (tt, refl)) (has_token Signs.right_brace_sorted (λ t w. w))))

pub has_conf_lines : {ns ms : Names} (ls : List ConfLine) → Lines ls ns ms → Prints ns ms conf_lines (joined (map line_words ls)) (Behind Any begins_line) (Matched SameLine ls)
has_conf_lines ls r = has_repeated begins_line line_body line_words Any SameLine (λ y h. tt) ls r

has_lines : {ns ms : Names} (ls : List ConfLine) → Lines ls ns ms → Prints ns ms gc.lines (in_braces (joined (map line_words ls))) Any (Matched SameLine ls)
has_lines ls r = has_behind (has_token Signs.left_brace_sorted (λ t w. w)) lead_any (has_before (has_conf_lines ls r) (lead s.RBrace Signs.right_brace_sorted (tt, refl)) (has_token Signs.right_brace_sorted (λ t w. w)))

has_configuration_body : {ns ms : Names} (ls : List ConfLine) → Lines ls ns ms → Prints ns ms (gr.behind (gr.one s.Implementation) gc.lines) (word (codes "implementation") ∷ in_braces (joined (map line_words ls))) Any (Matched SameLine ls)
has_configuration_body ls r = has_behind (has_token implementation_sorted (λ t w. w)) lead_any (has_lines ls r)

-- ---- components

head_tail : (b : Bool) (keyword : List ℕ) (h : Head) (ws : Words) → flagged b (codes "generic") ++ (word keyword ∷ word h.name ∷ (head_end_words h ++ ws)) ≡ (flagged b (codes "generic") ++ (word keyword ∷ word h.name ∷ head_end_words h)) ++ ws
head_tail b keyword h ws = sym (append_assoc (flagged b (codes "generic")) (word keyword ∷ word h.name ∷ head_end_words h) ws)

pub record Moduled (ns : Names) (x : Module) : Type 0 where
  pub inside : Names
  pub behind : Names
  pub head : Headed ns inside x.head
  pub decls : Decls site.Module x.decls inside behind

pub record Configured (ns : Names) (x : Config) : Type 0 where
  pub inside : Names
  pub behind : Names
  pub head : Headed ns inside x.head
  pub lines : Lines x.lines inside behind

module _ {ns : Names} (x : Module) (k : Moduled ns x) where
  module_tail : Words
  module_tail = word (codes "implementation") ∷ in_braces (decls_words x.decls)

  has_module : Prints ns k.behind gc.module_of (word (codes "module") ∷ word x.head.name ∷ (head_end_words x.head ++ module_tail)) Any (λ f. SamePart (part.Module x) (f (is_some x.head.generic)))
  unfolding module_tail
  has_module = has_behind (has_token module_sorted (λ t w. w)) lead_any (has_seq (has_head x.head k.head) lead_any (has_module_body x.decls k.decls) (λ f ds h g. two units.Part.module_of h (matched_map decl_shape x.decls ds g)))

  pub has_module_part : Prints ns k.behind (Form.by gc.component_part) (part_words (part.Module x)) Any (SamePart (part.Module x))
  unfolding module_tail
  has_module_part = has_words (head_tail (is_some x.head.generic) (codes "module") x.head module_tail) (by (is_some x.head.generic) refl)
    where
      by : (b : Bool) → is_some x.head.generic ≡ b → Prints ns k.behind (Form.by gc.component_part) (flagged b (codes "generic") ++ (word (codes "module") ∷ word x.head.name ∷ (head_end_words x.head ++ module_tail))) Any (SamePart (part.Module x))
      by true e = has_by s.Generic (lead s.Generic generic_sorted refl) (has_map (has_behind (has_token generic_sorted (λ t w. w)) lead_any (has_by s.Module (lead s.Module module_sorted refl) has_module)) (λ f h. subst (λ (b : Bool). SamePart (part.Module x) (f b)) e h))
      by false e = has_by s.Module (lead s.Module module_sorted refl) (has_map has_module (λ f h. subst (λ (b : Bool). SamePart (part.Module x) (f b)) e h))

module _ {ns : Names} (x : Config) (k : Configured ns x) where
  config_tail : Words
  config_tail = word (codes "implementation") ∷ in_braces (joined (map line_words x.lines))

  has_config : Prints ns k.behind gc.configuration_of (word (codes "configuration") ∷ word x.head.name ∷ (head_end_words x.head ++ config_tail)) Any (λ f. SamePart (part.Config x) (f (is_some x.head.generic)))
  unfolding config_tail
  has_config = has_behind (has_token configuration_sorted (λ t w. w)) lead_any (has_seq (has_head x.head k.head) lead_any (has_configuration_body x.lines k.lines) (λ f ls h g. two units.Part.config h (matched_map line_shape x.lines ls g)))

  pub has_config_part : Prints ns k.behind (Form.by gc.component_part) (part_words (part.Config x)) Any (SamePart (part.Config x))
  unfolding config_tail
  has_config_part = has_words (head_tail (is_some x.head.generic) (codes "configuration") x.head config_tail) (by (is_some x.head.generic) refl)
    where
      by : (b : Bool) → is_some x.head.generic ≡ b → Prints ns k.behind (Form.by gc.component_part) (flagged b (codes "generic") ++ (word (codes "configuration") ∷ word x.head.name ∷ (head_end_words x.head ++ config_tail))) Any (SamePart (part.Config x))
      by true e = has_by s.Generic (lead s.Generic generic_sorted refl) (has_map (has_behind (has_token generic_sorted (λ t w. w)) lead_any (has_by s.Configuration (lead s.Configuration configuration_sorted refl) has_config)) (λ f h. subst (λ (b : Bool). SamePart (part.Config x) (f b)) e h))
      by false e = has_by s.Configuration (lead s.Configuration configuration_sorted refl) (has_map has_config (λ f h. subst (λ (b : Bool). SamePart (part.Config x) (f b)) e h))

-- ---- parts, before which no declaration goes on

pub record Parted (ns : Names) (f : Sort → Form Part) (x : Part) : Type 0 where
  pub behind : Names
  pub prints : Prints ns behind (Form.by f) (part_words x) Any (SamePart x)
  pub leads : Leads ns ns (part_words x) Any (λ y. begins_decl site.Header y ≡ false)

pub parted_interface : {ns : Names} (x : Interface) → Interfaced ns x → Parted ns gc.interface_part (part.Interface x)
parted_interface x k = record { behind = k.inside; prints = has_by s.Interface (lead s.Interface interface_sorted refl) (has_interface x k); leads = lead s.Interface interface_sorted refl }

head_lead : {ns : Names} {G : Sort → Type 0} {z : Sort} {keyword : List ℕ} (b : Bool) (h : Head) (ws : Words) → Sorted ns (word keyword) z → G s.Generic → G z → Leads ns ns ((flagged b (codes "generic") ++ (word keyword ∷ word h.name ∷ head_end_words h)) ++ ws) Any G
head_lead true h ws so g i = lead s.Generic generic_sorted g
head_lead {z = z} false h ws so g i = lead z so i

pub parted_module : {ns : Names} (x : Module) → Moduled ns x → Parted ns gc.component_part (part.Module x)
parted_module x k = record { behind = k.behind; prints = has_module_part x k; leads = head_lead (is_some x.head.generic) x.head (word (codes "implementation") ∷ in_braces (decls_words x.decls)) module_sorted refl refl }

pub parted_config : {ns : Names} (x : Config) → Configured ns x → Parted ns gc.component_part (part.Config x)
parted_config x k = record { behind = k.behind; prints = has_config_part x k; leads = head_lead (is_some x.head.generic) x.head (word (codes "implementation") ∷ in_braces (joined (map line_words x.lines))) configuration_sorted refl refl }

-- ---- files

abbrev pub SameUnit : unit.Unit → unit.Unit → Type 0
SameUnit x y = unit_shape y ≡ unit_shape x

pub has_unit : {ns ms : Names} {f : Sort → Form Part} (x : unit.Unit) → Decls site.Header x.decls ns ms → Parted ms f x.part → Prints ns ms (Form.seq gc.unit_of (inner.decls_before site.Header) (Form.scope (Form.by f))) (unit_words x) Any (SameUnit x)
has_unit {ms = ms} x r k = has_seq (has_decls site.Header x.decls r) (record { leads = λ ts us w c. (tt, k.leads.leads ts us w tt) }) (has_scope k.prints any_carries) (λ ds y h g. two (λ d z. record { decls = d; part = z }) (matched_map decl_shape x.decls ds h) g)
