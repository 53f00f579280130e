use Rattle.std.proofs.Common.{◌≡◌, ap, sym, ◌∙◌, length}
use Rattle.std.proofs.lemmas.List.{length_push}
use Rattle.std.proofs.lemmas.Slice.Zip.{zip_turn, zip_end}
use Rattle.std.specs.Iterator.Adapters.{zip_first, zip_second}
use Rattle.std.specs.Slice.Iter.{iter_rest}
use Rattle.sml_tree.specs.BindingViews.{typ_bind_of}
use Rattle.sml_objects.specs.Maps.{put}
use Rattle.sml_objects.specs.Views.{entries_of, scheme_of, schemes_of}
use Rattle.sml_core_rules.specs.Datatypes as read
use Rattle.sml_core_rules.specs.Objects as O
use Rattle.sml_core_rules.specs.Objects.{of_types}
use Rattle.sml_bases.specs.Views.{env_of, structures_of, ty_str_of, value_of}
use Rattle.sml_bases.specs.declared.objects.Env.{Env}
use Rattle.sml_bases.specs.declared.objects.Env.TheViews.{out-Env}
use Rattle.sml_bases.specs.declared.objects.Env.TheOpen.{Env-F}
use Rattle.sml_bases.proofs.EnvViews.{env_of-out, env_of-roll}
use Rattle.sml_types.specs.Bindings.{type_str_of}
use Rattle.sml_types.specs.Meant.{meant}
use Rattle.sml_types.proofs.Readings.{one-meant}
use Rattle.sml_types.proofs.TypeMaps.{puts-all, puts-next, with_type}
use Rattle.sml_types.proofs.bindings.types_of.Goals as goal

pub loop-bind-init : goal.loop-bind-init
loop-bind-init c = c.new-env.ensures

pub loop-bind-preserved : goal.loop-bind-preserved
loop-bind-preserved c =
    let old = c.loop-bind.env in
    let k = length c.loop-bind.yielded in
    let bs = c.args.binds.now in
    let ws = c.args.sides.now in
    let b = typ_bind_of c.in-Some.bind.now in
    let t = meant c.in-Some.side.now.value in
    let first : iter_rest (zip_first c.into_iter-bind-iterator.result) ≡ bs = cc in
    let second : iter_rest (zip_second c.into_iter-bind-iterator.result) ≡ ws =
    ap (λ s. iter_rest (zip_second s)) c.into_iter-bind-iterator.ensures.into_iter_gives ∙ c.zip-bind-items.ensures.second.0 in
    let turn = zip_turn bs ws c.loop-bind.yielded c.into_iter-bind-iterator.result c.loop-bind.bind-iterator c.next.new.self c.next.result first second c.loop-bind.yielded_by (c.in-Some.bind, c.in-Some.side) c.in-Some.is c.next.ensures.steps in
    let function : scheme_of c.in_ok-function.function.value ≡ read.type_function b.variables t = c.in_ok-function.ensures ∙ ap (λ w. read.type_function b.variables (meant w)) c.deref.ensures in
    let last : Env-F Env = record { structures = (out-Env old).structures; types = c.put_type.new.types; values = (out-Env old).values; summary = (out-Env old).summary } in
    let types : entries_of ty_str_of c.put_type.new.types.entries ≡ put b.name.id (type_str_of b t) (entries_of ty_str_of (out-Env old).types.entries) =
    c.in_ok-put_type.ensures
    ∙ (λ i. put b.name.id (record { function = function i; constructors = ap schemes_of c.in_ok-none.ensures i }) (entries_of ty_str_of (out-Env old).types.entries)) in
    env_of-roll last
    ∙ (λ i. O.maps (structures_of (entries_of (λ s. env_of s.value) (out-Env old).structures.entries)) (types i) (entries_of value_of (out-Env old).values.entries))
    ∙ ap (λ E. with_type E b.name.id (type_str_of b t)) (sym (env_of-out old) ∙ c.loop-bind.invariant)
    ∙ sym (ap of_types (puts-next typ_bind_of one-meant bs ws k c.in-Some.bind.now c.in-Some.side.now turn.0 turn.1 (turn.2 c.in-Some.bind.now) (turn.3 c.in-Some.side.now) _ (length_push c.loop-bind.yielded _)))

pub returns : goal.returns
returns c =
    let bs = c.args.binds.now in
    let ws = c.args.sides.now in
    let first : iter_rest (zip_first c.into_iter-bind-iterator.result) ≡ bs = cc in
    let second : iter_rest (zip_second c.into_iter-bind-iterator.result) ≡ ws =
    ap (λ s. iter_rest (zip_second s)) c.into_iter-bind-iterator.ensures.into_iter_gives ∙ c.zip-bind-items.ensures.second.0 in
    let end = zip_end bs ws c.loop-bind.yielded c.into_iter-bind-iterator.result c.loop-bind.bind-iterator c.next.new.self c.next.result first second c.loop-bind.yielded_by c.in-None.is c.next.ensures.steps in
    c.loop-bind.invariant ∙ ap of_types (puts-all typ_bind_of one-meant bs ws (length c.loop-bind.yielded) end)
