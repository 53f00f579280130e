use Rattle.std.proofs.Common.{◌≡◌, length, map, ap, sym, ◌∙◌}
use Rattle.std.proofs.lemmas.List.{length-map}
use Rattle.sml_tree.specs.BindingViews.{dat_bind_of}
use Rattle.sml_tree.specs.TypeViews as tree
use Rattle.sml_tree.specs.Views.{ident_of}
use Rattle.sml_objects.specs.Maps.{join, put}
use Rattle.sml_objects.specs.Objects.{app, free, name}
use Rattle.sml_objects.specs.Views.{entries_of, name_of, scheme_of, schemes_of}
use Rattle.sml_objects.proofs.EnvViews.{entries-put}
use Rattle.sml_core_rules.specs.Datatypes as read
use Rattle.sml_core_rules.specs.Objects as O
use Rattle.sml_core_rules.specs.Objects.{extend}
use Rattle.sml_bases.specs.Views.{env_of, structures_of, ty_str_of, value_of}
use Rattle.sml_bases.specs.declared.objects.Env.TheViews.{out-Env, roll-Env, out-roll-Env}
use Rattle.sml_bases.specs.declared.objects.Env.{Env}
use Rattle.sml_bases.specs.declared.objects.Env.TheOpen.{Env-F}
use Rattle.sml_bases.specs.declared.objects.TypeStr.{TypeStr}
use Rattle.sml_bases.proofs.EnvViews.{env_of-out, env_of-roll}
use Rattle.sml_types.specs.Losses.{losing, losing_arguments}
use Rattle.sml_types.proofs.datatypes.put_datatype.Goals as goal

pub returns : goal.returns
returns c =
    let old = c.args.env.now in
    let r = c.args.by.now.run in
    let lost = c.args.by.now.lost.now in
    let n = losing r lost (name_of c.args.name) in
    let bind = c.args.bind.now in
    let d = dat_bind_of bind in
    let vs = bind.variables.items in
    let given = losing_arguments r lost bind.constructors.items c.args.arguments.now in
    let flags = map (λ x. read.is_equality x.id) d.variables in
    let made = read.constructors_of (app (name n) (read.types_from free 0 (length d.variables))) flags given in
    let sized : length vs ≡ length d.variables = sym (length-map vs tree.name_of) in
    let settles : name_of c.unwrap_or-name.result ≡ n = ap name_of c.unwrap_or-name.ensures ∙ c.settled.ensures in
    let has : schemes_of c.in_ok-constructors.constructors.entries ≡ made =
    c.in_ok-constructors.ensures ∙ (λ i. read.constructors_of (app (name (settles i)) (read.types_from free 0 (sized i))) flags given) in
    let values : entries_of value_of c.put_constructors.new.values.entries ≡ join (entries_of value_of (out-Env old).values.entries) (read.constructor_values made) =
    c.in_ok-put_constructors.ensures ∙ ap (λ m. join (entries_of value_of (out-Env old).values.entries) (read.constructor_values m)) has in
    let function : scheme_of c.in_ok-name_function.field-0.value ≡ read.name_function n (length d.variables) =
    c.in_ok-name_function.ensures ∙ (λ i. read.name_function (settles i) ((ap length c.deref.ensures.value ∙ sized) i)) in
    let constructors : schemes_of c.in_ok-new.field-0.value.entries ≡ made = ap (λ m. schemes_of m.entries) c.in_ok-new.ensures.ok ∙ has in
    let key : ident_of c.in_ok-clone.field-0 ≡ ident_of bind.name.ident = ap (λ v. v.items) c.in_ok-clone.ensures.cases in
    let first : Env-F Env = record { structures = (out-Env old).structures; types = (out-Env old).types; values = c.put_constructors.new.values; summary = (out-Env old).summary } in
    let same : out-Env (roll-Env first) ≡ first = out-roll-Env first in
    let last : Env-F Env = record { structures = (out-Env (roll-Env first)).structures; types = c.insert.new.self; values = (out-Env (roll-Env first)).values; summary = (out-Env (roll-Env first)).summary } in
    let ty : TypeStr = record { function = c.in_ok-name_function.field-0; constructors = c.in_ok-new.field-0 } in
    let types : entries_of ty_str_of c.insert.new.self.entries ≡ put (ident_of bind.name.ident) (record { function = read.name_function n (length d.variables); constructors = made }) (entries_of ty_str_of (out-Env old).types.entries) =
    ap (entries_of ty_str_of) c.in_ok-insert.ensures.entries
    ∙ entries-put ty_str_of (out-Env (roll-Env first)).types.entries c.in_ok-clone.field-0 ty
    ∙ (λ i. put (key i) (record { function = function i; constructors = constructors i }) (entries_of ty_str_of (same i).types.entries)) in
    env_of-roll last
    ∙ (λ i. O.maps (structures_of (entries_of (λ s. env_of s.value) (same i).structures.entries)) (types i) ((ap (λ e. entries_of value_of e.values.entries) same ∙ values) i))
    ∙ sym (ap (λ E. extend E (read.datatype_env d n given)) (env_of-out old))
