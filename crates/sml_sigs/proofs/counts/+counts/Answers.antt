use Rattle.std.proofs.Common.{ap, refl, sym, ◌∙◌}
use Rattle.std.specs.Option.{option_map}
use Rattle.std.specs.Vec.{vec_len}
use Rattle.sml_lex.specs.declared.fault.Place.{Place}
use Rattle.sml_tree.specs.Signatures as S
use Rattle.sml_tree.specs.Views.{ident_of}
use Rattle.sml_objects.specs.Maps.{lookup}
use Rattle.sml_bases.specs.Layers.{first_found, signatures_in}
use Rattle.sml_bases.specs.Views.{sig_of as bound_sig}
use Rattle.sml_tree.specs.SignatureViews.{sig_of, spec_of, specs_of, str_desc_of, str_descs_of}
use Rattle.sml_bases.specs.Entries.{capped}
use Rattle.sml_sigs.specs.Counts.{bound_by, sig_binds, spec_binds, specs_bind, str_desc_binds, str_descs_bind}
use Rattle.sml_sigs.proofs.Counting.{binds-none, binds-on, desc-binds, in-signature, named-sig}
use Rattle.sml_sigs.proofs.counts.+counts.Goals as goal

pub names_of_specs-loop-spec-preserved : goal.names_of_specs-loop-spec-preserved
names_of_specs-loop-spec-preserved t c =
    let of_name = bound_by c.args.basis.now in
    binds-on spec_of (spec_binds of_name) (λ ss. specs_bind of_name (specs_of ss)) refl (λ y ys. refl) c.args.specs.now c.loop-spec.spec-index c.spec-item.result c.in_ok-names_of_spec.field-0 c.loop-spec.count c.saturating_add-count.result
    c.loop-spec-test.true c.spec-item.is c.in_ok-names_of_spec.ensures c.loop-spec.invariant c.saturating_add-count.ensures

pub names_of_specs-returns-in_err-names_of_spec : goal.names_of_specs-returns-in_err-names_of_spec
names_of_specs-returns-in_err-names_of_spec t c =
    let of_name = bound_by c.args.basis.now in
    c.from_residual.ensures
    ∙ binds-none spec_of (spec_binds of_name) (λ ss. specs_bind of_name (specs_of ss)) refl (λ y ys. refl) c.args.specs.now c.loop-spec.spec-index c.spec-item.result c.loop-spec-test.true c.spec-item.is c.in_err-names_of_spec.ensures

pub names_of_structures-loop-desc-preserved : goal.names_of_structures-loop-desc-preserved
names_of_structures-loop-desc-preserved t c =
    let of_name = bound_by c.args.basis.now in
    binds-on str_desc_of (str_desc_binds of_name) (λ ds. str_descs_bind of_name (str_descs_of ds)) refl (λ y ys. refl) c.args.descs.now c.loop-desc.desc-index c.desc-item.result c.in_ok-names_of_sig.field-0 c.loop-desc.count c.saturating_add-count.result
    c.loop-desc-test.true c.desc-item.is (c.in_ok-names_of_sig.ensures ∙ ap (option_map capped) (sym (desc-binds of_name c.desc-item.result))) c.loop-desc.invariant c.saturating_add-count.ensures

pub names_of_structures-returns-in_err-names_of_sig : goal.names_of_structures-returns-in_err-names_of_sig
names_of_structures-returns-in_err-names_of_sig t c =
    let of_name = bound_by c.args.basis.now in
    c.from_residual.ensures
    ∙ binds-none str_desc_of (str_desc_binds of_name) (λ ds. str_descs_bind of_name (str_descs_of ds)) refl (λ y ys. refl) c.args.descs.now c.loop-desc.desc-index c.desc-item.result c.loop-desc-test.true c.desc-item.is
    (c.in_err-names_of_sig.ensures ∙ ap (option_map capped) (sym (desc-binds of_name c.desc-item.result)))

pub names_of_sig-returns-in-Some : goal.names_of_sig-returns-in-Some
names_of_sig-returns-in-Some t c =
    let of_name = bound_by c.args.basis.now in
    in-signature c.in-Some.sig.now.value (first_found (lookup (ident_of c.in-Identifier.name)) (signatures_in c.args.basis.now)) c.len.result
    (sym (ap (option_map (λ s. bound_sig s.now.value)) c.in-Some.is) ∙ c.signature.ensures) (c.len.ensures ∙ ap (λ s. vec_len s.names) c.deref-in-Some.ensures) c.len.type_inv
    ∙ ap (λ (s : S.SigExp Place). option_map capped (sig_binds of_name s)) (sym (ap sig_of c.in-Identifier.is ∙ named-sig c.in-Identifier.field-0 c.in-Identifier.name))
