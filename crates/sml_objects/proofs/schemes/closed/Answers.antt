use Rattle.std.proofs.Common.{ap, sym, ◌∙◌, length, rules}
use Rattle.std.proofs.lemmas.List.{nil_from_length}
use Rattle.sml_objects.specs.Objects as O
use Rattle.sml_objects.specs.Types.{assign, index_among}
use Rattle.sml_objects.specs.Views.{type_of}
use Rattle.sml_objects.proofs.Renaming.{rename_type-id}
use Rattle.sml_objects.proofs.Closings.{close-by, assign-closed, filled}
use Rattle.sml_objects.proofs.schemes.closed.Goals as goal

pub returns-then-is_empty : goal.returns-then-is_empty
returns-then-is_empty c =
    let keys = c.args.places.now.keys in
    let t = type_of c.args.ty.now.value in
    close-by keys c.resize.new.self.items t (type_of c.in_ok-body.body.value) c.requires
    (filled c.len.result (length keys) c.new-variables.result.items c.resize.new.self.items _ c.new-variables.ensures.items c.new-variables.ensures.len c.in_ok-resize.ensures.items c.len.ensures.len)
    (ap type_of c.in_ok-body.ensures.cases ∙ sym (assign-closed (λ v. O.bound (index_among v keys)) t (sym c.requires ∙ nil_from_length keys (search rules))))

pub returns : goal.returns
returns c =
    let keys = c.args.places.now.keys in
    let t = type_of c.args.ty.now.value in
    close-by keys c.resize.new.self.items t (type_of c.in_ok-body-2.body.value) c.requires
    (filled c.len.result (length keys) c.new-variables.result.items c.resize.new.self.items _ c.new-variables.ensures.items c.new-variables.ensures.len c.in_ok-resize.ensures.items c.len.ensures.len)
    (c.in_ok-body-2.ensures ∙ ap (assign (λ v. O.bound (index_among v keys))) (rename_type-id (type_of c.deref.result.now) ∙ ap type_of c.deref.ensures))
