use Rattle.std.proofs.Common.{◌∷◌, [], ap, ◌∙◌}
use Rattle.std.specs.Str.{bytes_eq}
use Rattle.sml_tree.specs.Views.{ident_of}
use Rattle.sml_core.proofs.Binding.{same-bytes}
use Rattle.sml_core.proofs.patterns.is_nil.Goals as goal

pub returns : goal.returns
returns c =
    c.eq.ensures ∙ (λ i. bytes_eq ((c.as_slice.ensures.value ∙ ap (λ v. v.items) c.deref.ensures) i) (c.as_slice-2.ensures i)) ∙ same-bytes (ident_of c.args.name.now) (110 ∷ 105 ∷ 108 ∷ [])
