use Rattle.std.proofs.Common.{◌≡◌, ap, sym, ◌∙◌, length}
use Rattle.std.proofs.lemmas.List.{length_push}
use Rattle.std.proofs.lemmas.Slice.Zip.{zip_turn, zip_end}
use Rattle.std.specs.Iterator.Adapters.{zip_first, zip_second}
use Rattle.std.specs.Slice.Iter.{iter_rest}
use Rattle.sml_tree.specs.BindingViews.{dat_bind_of}
use Rattle.sml_objects.specs.Maps.{put}
use Rattle.sml_objects.specs.Views.{entries_of, name_of, scheme_of, schemes_of}
use Rattle.sml_core_rules.specs.Datatypes as read
use Rattle.sml_bases.specs.Views.{ty_str_of}
use Rattle.sml_types.proofs.NewNames.{named, types-all, types-next}
use Rattle.sml_types.proofs.datatypes.named_types.Goals as goal

pub loop-bind-preserved : goal.loop-bind-preserved
loop-bind-preserved c =
    let old = c.loop-bind.types.entries in
    let k = length c.loop-bind.yielded in
    let bs = c.args.binds.now in
    let ns = c.args.names.now in
    let b = c.in-Some.bind.now in
    let n = name_of c.in-Some.name.now in
    let first : iter_rest (zip_first c.into_iter-bind-iterator.result) ≡ bs = cc in
    let second : iter_rest (zip_second c.into_iter-bind-iterator.result) ≡ ns =
    ap (λ s. iter_rest (zip_second s)) c.into_iter-bind-iterator.ensures.into_iter_gives ∙ c.zip-bind-items.ensures.second.0 in
    let turn = zip_turn bs ns c.loop-bind.yielded c.into_iter-bind-iterator.result c.loop-bind.bind-iterator c.next.new.self c.next.result first second c.loop-bind.yielded_by (c.in-Some.bind, c.in-Some.name) c.in-Some.is c.next.ensures.steps in
    let function : scheme_of c.in_ok-function.function.value ≡ read.name_function n (length b.variables.items) = c.in_ok-function.ensures ∙ ap (λ l. read.name_function n (length l)) c.deref.ensures.value in
    c.in_ok-put_type.ensures
    ∙ (λ i. put (dat_bind_of b).name.id (record { function = function i; constructors = ap schemes_of c.in_ok-none.ensures i }) (entries_of ty_str_of old))
    ∙ ap (put (dat_bind_of b).name.id (named b n)) c.loop-bind.invariant
    ∙ sym (types-next bs ns k b c.in-Some.name.now turn.0 turn.1 (turn.2 b) (turn.3 c.in-Some.name.now) _ (length_push c.loop-bind.yielded _))

pub returns : goal.returns
returns c =
    let bs = c.args.binds.now in
    let ns = c.args.names.now in
    let first : iter_rest (zip_first c.into_iter-bind-iterator.result) ≡ bs = cc in
    let second : iter_rest (zip_second c.into_iter-bind-iterator.result) ≡ ns =
    ap (λ s. iter_rest (zip_second s)) c.into_iter-bind-iterator.ensures.into_iter_gives ∙ c.zip-bind-items.ensures.second.0 in
    let end = zip_end bs ns c.loop-bind.yielded c.into_iter-bind-iterator.result c.loop-bind.bind-iterator c.next.new.self c.next.result first second c.loop-bind.yielded_by c.in-None.is c.next.ensures.steps in
    c.loop-bind.invariant ∙ types-all bs ns (length c.loop-bind.yielded) end
