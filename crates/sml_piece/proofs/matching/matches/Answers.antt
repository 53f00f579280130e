use Rattle.std.proofs.Common.{◌≡◌, Err, subst}
use Rattle.sml_objects.specs.Objects.{types, values}
use Rattle.sml_objects.specs.Initial.{naming}
use Rattle.sml_objects.specs.Views.{env_of}
use Rattle.sml_rules.specs.Answers.{accepted}
use Rattle.sml_rules.specs.Matching.{realised_by}
use Rattle.sml_rules.specs.Readings.{read_match, read_types, read_values}
use Rattle.sml_rules.proofs.Open.{of_types}
use Rattle.sml_piece.specs.Elaborated.{Answers}
use Rattle.sml_piece.specs.CodeMatched.{sends, PlainUnder}
use Rattle.sml_piece.specs.declared.realisations.Realisation as P
use Rattle.sml_piece.proofs.Answering.{first_ends, second}
use Rattle.sml_piece.proofs.Matches.{open_sent, plain_under}
use Rattle.sml_piece.proofs.matching.matches.Goals as goal

abbrev realisation : P.Realisation → Unit {0}
realisation r = tt

abbrev same : Unit {0} → Unit {0}
same u = u

pub returns-in-Err : goal.returns-in-Err
unfolding read_match
returns-in-Err c = λ opened plain values_open. first_ends realisation same _ _ c.in-Err.fault c.in-Err.ensures.answer

pub returns-in-Ok-types_agree : goal.returns-in-Ok-types_agree
unfolding read_match
returns-in-Ok-types_agree c = λ opened plain values_open.
    let E = env_of c.args.structure.now in
    let S = env_of c.args.sig.now.body in
    let ψ = sends c.in-Ok.realisation.functions.entries in
    let φ : ψ ≡ realised_by naming E (types S) = λ i n. c.in-Ok.ensures.sent n i in
    let under = plain_under (realised_by naming E (types S)) (open_sent c.args.place E (types S) (of_types E opened) plain c.in-Ok.ensures.answer) (values S) values_open in
    second same _ _ tt c.values_agree.result c.in-Ok.ensures.answer
    (second same _ _ tt c.values_agree.result (subst (λ φ. read_types naming c.args.place E φ (types S) (accepted tt)) φ c.in-Ok-types_agree.ensures)
    (subst (λ φ. PlainUnder φ (values S) → Answers same c.values_agree.result (read_values naming c.args.place E φ (values S))) φ c.values_agree.ensures under))

pub returns : goal.returns
unfolding read_match
returns c = λ opened plain values_open.
    let E = env_of c.args.structure.now in
    let S = env_of c.args.sig.now.body in
    let φ : sends c.in-Ok.realisation.functions.entries ≡ realised_by naming E (types S) = λ i n. c.in-Ok.ensures.sent n i in
    second same _ _ tt (Err c.in-Err-types_agree.fault) c.in-Ok.ensures.answer
    (first_ends same same _ _ c.in-Err-types_agree.fault (subst (λ φ. Answers same (Err c.in-Err-types_agree.fault) (read_types naming c.args.place E φ (types S))) φ c.in-Err-types_agree.ensures))
