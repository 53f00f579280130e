use Rattle.std.proofs.Common.{rules, ◌≡◌, ◌∙◌, ap, map}
use Rattle.sml_objects.specs.Views.{type_of}
use Rattle.sml_match.proofs.Generality.{fresh, fresh-pushed, fresh-all, searched, general-yes, general-no}
use Rattle.sml_match.proofs.general.is_closed_general.Goals as goal

pub loop-equality-init : goal.loop-equality-init
loop-equality-init c = c.new-images.ensures.items

pub loop-equality-preserved : goal.loop-equality-preserved
loop-equality-preserved c =
    fresh-pushed c.deref-equality-items.result.now c.loop-equality.equality-index _ c.loop-equality.images.items c.push.new.self.items (search rules) c.loop-equality.invariant c.in_ok-push.ensures.items

pub returns-clause-yes : goal.returns-clause-yes
returns-clause-yes c = λ o n.
    let es = c.args.specified.now.variables.items in
    let ds = c.args.scheme.now.variables.items in
    let start : c.deref_mut.result.now ≡ map fresh ds =
    c.deref_mut.ensures.value ∙ fresh-all c.deref-equality-items.result.now ds c.loop-equality.equality-index c.loop-equality.images.items c.loop-equality.invariant (search rules) c.deref-equality-items.ensures.value in
    general-yes es ds c.deref_mut.result.now c.becomes.new.images start (type_of c.args.scheme.now.body.value) (type_of c.args.specified.now.body.value) c.becomes.result
    (searched es ds c.deref.result.now c.deref_mut.result.now c.becomes.new.images (type_of c.args.scheme.now.body.value) (type_of c.args.specified.now.body.value) (type_of c.deref-2.result.now) (type_of c.deref-3.result.now)
    c.becomes.result c.deref.ensures.value start (ap type_of c.deref-2.ensures) (ap type_of c.deref-3.ensures) o n c.becomes.ensures)

pub returns-clause-no : goal.returns-clause-no
returns-clause-no c = λ o n.
    let es = c.args.specified.now.variables.items in
    let ds = c.args.scheme.now.variables.items in
    let start : c.deref_mut.result.now ≡ map fresh ds =
    c.deref_mut.ensures.value ∙ fresh-all c.deref-equality-items.result.now ds c.loop-equality.equality-index c.loop-equality.images.items c.loop-equality.invariant (search rules) c.deref-equality-items.ensures.value in
    general-no es ds c.deref_mut.result.now c.becomes.new.images start (type_of c.args.scheme.now.body.value) (type_of c.args.specified.now.body.value) c.becomes.result
    (searched es ds c.deref.result.now c.deref_mut.result.now c.becomes.new.images (type_of c.args.scheme.now.body.value) (type_of c.args.specified.now.body.value) (type_of c.deref-2.result.now) (type_of c.deref-3.result.now)
    c.becomes.result c.deref.ensures.value start (ap type_of c.deref-2.ensures) (ap type_of c.deref-3.ensures) o n c.becomes.ensures)
