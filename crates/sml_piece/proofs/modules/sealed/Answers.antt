use Rattle.std.proofs.Common.{[], length, map, ap, sym, subst, Err}
use Rattle.sml_tree.specs.Views.{ident_of, spec_of, core_dec_of}
use Rattle.sml_objects.specs.Objects.{empty_env, one_structure, types, values}
use Rattle.sml_objects.specs.Initial.{Name, naming}
use Rattle.sml_objects.specs.Views.{env_of, maker_of, sig_of}
use Rattle.sml_rules.specs.Answers.{accepted, refused}
use Rattle.sml_rules.specs.Open.{PlainFunctions, PlainValues}
use Rattle.sml_rules.specs.Readings.{read_dec, read_specs, read_match}
use Rattle.sml_rules.specs.Rules.{apart}
use Rattle.sml_rules.proofs.Open.{nothing, read_cores_open, specified}
use Rattle.sml_piece.specs.Elaborated.{Answers, signature_of, no_signature}
use Rattle.sml_piece.proofs.Answering.{second, made_so, made_same, gives, refusal, refuses, refused_on, first_refused}
use Rattle.sml_piece.proofs.Sealing.{summands, refused_summand, apart_below, exported_own, body_read}
use Rattle.sml_piece.proofs.modules.sealed.Goals as goal

abbrev same : Unit {0} → Unit {0}
same u = u

pub returns-in-Err-clause-answer : goal.returns-in-Err-clause-answer
unfolding read_dec
returns-in-Err-clause-answer c = λ B basis.
    refuses sig_of c.in-Err.fault _ (first_refused _ _ c.in-Err.fault
    (refused_on c.in-Err.fault _ _ (λ f h. body_read c.args.basis.now B basis _ _ c.deref.ensures.value (refused f) h) (refusal env_of c.in-Err.fault _ c.in-Err.ensures)))

pub returns-in-Err-signature-clause-answer : goal.returns-in-Err-signature-clause-answer
unfolding read_dec
returns-in-Err-signature-clause-answer c = λ B basis.
    let unit = maker_of c.args.basis.now.unit in
    let count = length c.args.basis.now.names.items in
    let E = env_of c.in-Ok.body in
    let A = apart B E in
    let read = body_read c.args.basis.now B basis _ _ c.deref.ensures.value (accepted E) c.in-Ok.ensures in
    let answer = c.in-Err-signature.ensures.answer A basis.body_is (apart_below unit count B _ E basis.below read) in
    second sig_of _ _ E (Err c.in-Err-signature.fault) read
    (refuses sig_of c.in-Err-signature.fault _ (first_refused _ _ c.in-Err-signature.fault
    (refused_on c.in-Err-signature.fault _ _
    (λ f h. subst (λ qs. read_specs naming unit A [] (map spec_of qs) (refused f)) c.deref-2.ensures.value (refused_summand no_signature _ f h))
    (refusal signature_of c.in-Err-signature.fault _ answer))))

pub returns-clause-answer : goal.returns-clause-answer
unfolding read_dec
returns-clause-answer c = λ B basis.
    let unit = maker_of c.args.basis.now.unit in
    let count = length c.args.basis.now.names.items in
    let E = env_of c.in-Ok.body in
    let A = apart B E in
    let p = c.args.structure.now.signature.place in
    let decs = map core_dec_of c.args.structure.now.body.items in
    let read = body_read c.args.basis.now B basis _ _ c.deref.ensures.value (accepted E) c.in-Ok.ensures in
    let sum = summands no_signature _ _ (c.in-Ok-signature.ensures.answer A basis.body_is (apart_below unit count B _ E basis.below read)) in
    let specs = subst (λ qs. read_specs naming unit A [] (map spec_of qs) (accepted sum.0)) c.deref-2.ensures.value sum.1 in
    let is = specified naming unit A [] _ sum.0 basis.opened specs in
    let opened = read_cores_open naming B.body empty_env decs E basis.opened (nothing Name) read in
    let matched = c.in-Err-matches.ensures opened (subst (λ S. PlainFunctions (types S.body)) (sym sum.2) is.functions) (subst (λ S. PlainValues (values S.body)) (sym sum.2) is.values_open) in
    second sig_of _ _ E (Err c.in-Err-matches.fault) read
    (second sig_of _ _ sum.0 (Err c.in-Err-matches.fault) specs
    (refuses sig_of c.in-Err-matches.fault _ (first_refused _ _ c.in-Err-matches.fault
    (refusal same c.in-Err-matches.fault _ (subst (λ S. Answers same (Err c.in-Err-matches.fault) (read_match naming p S E)) sum.2 matched)))))

pub returns-in-Ok-matches-clause-answer : goal.returns-in-Ok-matches-clause-answer
unfolding read_dec
returns-in-Ok-matches-clause-answer c = λ B basis.
    let unit = maker_of c.args.basis.now.unit in
    let count = length c.args.basis.now.names.items in
    let E = env_of c.in-Ok.body in
    let A = apart B E in
    let p = c.args.structure.now.signature.place in
    let s = ident_of c.args.structure.now.name in
    let decs = map core_dec_of c.args.structure.now.body.items in
    let read = body_read c.args.basis.now B basis _ _ c.deref.ensures.value (accepted E) c.in-Ok.ensures in
    let sum = summands no_signature _ _ (c.in-Ok-signature.ensures.answer A basis.body_is (apart_below unit count B _ E basis.below read)) in
    let specs = subst (λ qs. read_specs naming unit A [] (map spec_of qs) (accepted sum.0)) c.deref-2.ensures.value sum.1 in
    let is = specified naming unit A [] _ sum.0 basis.opened specs in
    let opened = read_cores_open naming B.body empty_env decs E basis.opened (nothing Name) read in
    let matched = c.in-Ok-matches.ensures opened (subst (λ S. PlainFunctions (types S.body)) (sym sum.2) is.functions) (subst (λ S. PlainValues (values S.body)) (sym sum.2) is.values_open) in
    let made = made_same _ _ sig_of c.exported.result (ap (λ S. record { names = S.names; body = one_structure s S.body }) sum.2) c.exported.ensures.made in
    second sig_of _ _ E c.exported.result read
    (second sig_of _ _ sum.0 c.exported.result specs
    (second sig_of _ _ tt c.exported.result (subst (λ S. read_match naming p S E (accepted tt)) sum.2 matched)
    (made_so _ sig_of c.exported.result _ made (gives _))))

pub returns-in-Ok-matches-clause-names : goal.returns-in-Ok-matches-clause-names
returns-in-Ok-matches-clause-names c = λ B basis.
    let unit = maker_of c.args.basis.now.unit in
    let count = length c.args.basis.now.names.items in
    let E = env_of c.in-Ok.body in
    let A = apart B E in
    let read = body_read c.args.basis.now B basis _ _ c.deref.ensures.value (accepted E) c.in-Ok.ensures in
    exported_own c.args.basis.now (ident_of c.args.structure.now.name) c.in-Ok-signature.sig c.exported.result
    (c.in-Ok-signature.ensures.names A basis.body_is (apart_below unit count B _ E basis.below read)) c.exported.ensures.made c.exported.ensures.unit
