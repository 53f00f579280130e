use Rattle.std.proofs.Common.{◌≡◌, ap, sym, subst, ◌∙◌, IfOk, length, arith}
use Rattle.std.proofs.lemmas.List.{length-map}
use Rattle.sml_objects.specs.Objects.{rename_sig}
use Rattle.sml_objects.specs.Canonical.{canonical, new_names, renumber}
use Rattle.sml_objects.specs.Views.{sig_of, maker_of, name_of}
use Rattle.sml_objects.proofs.canonical.canonical.Goals as goal

pub invariant_of-by : goal.invariant_of-by
invariant_of-by c =
    let e : length c.in_ok-names.names.keys ≡ length (new_names (maker_of c.args.unit) c.args.count (sig_of c.args.basis.now)) =
    sym (length-map c.in_ok-names.names.keys name_of) ∙ ap length c.in_ok-names.ensures in
    record { fits = omega (arith, e, c.requires) }

pub returns-clause-sig : goal.returns-clause-sig
unfolding canonical
returns-clause-sig c =
    subst (λ ns. IfOk c.renamed_basis.result (λ b. sig_of b ≡ rename_sig (renumber (maker_of c.args.unit) c.args.count ns) (sig_of c.args.basis.now)))
    c.in_ok-names.ensures c.renamed_basis.ensures.sig
