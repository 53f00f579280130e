use Rattle.std.proofs.Common.{ap, sym, ◌∙◌, length, nat_eq}
use Rattle.std.proofs.lemmas.List.{length-map}
use Rattle.sml_tree.specs.TypeViews.{name_of, names_of}
use Rattle.sml_derived.proofs.Searches.{count_is_length}
use Rattle.sml_derived.proofs.withtype.has_all.Goals as goal

pub returns : goal.returns
returns c =
    ap (λ n. nat_eq n (length c.args.arguments.now)) (c.len.ensures ∙ c.args.bind.now.variables.ok.0 ∙ sym (length-map c.args.bind.now.variables.items name_of))
    ∙ ap (nat_eq (length (names_of c.args.bind.now.variables.items))) (sym (count_is_length c.args.arguments.now))
