use Rattle.sml_tree.specs.TypeViews.{name_of}
use Rattle.sml_phrases.specs.PhraseViews.{phrase_of, seen}
use Rattle.sml_phrases.specs.Phrases.{at, name_in}
use Rattle.sml_pat_sequences.specs.LowViews.{GivesPat, low_pat_of}
use Rattle.std.proofs.Common.{Err, subst}
use Rattle.sml_phrases.proofs.Answers.{puts_same}
use Rattle.sml_phrases.proofs.Drops.{three_off}
use Rattle.sml_bare_pats.proofs.PatternFields.{field_fails, pattern_made, field_made}
use Rattle.sml_bare_pats.proofs.pattern_rules.vid_field.Goals as goal

pub returns : goal.returns
returns c =
    let v = seen c.args.stack.now in
    puts_same _ _ 3 v (seen c.pop-fields.new.self) _ c.with_field.result
    (field_made v (seen c.name.new.self) (seen c.pop-rest.new.self) (name_of c.in_ok-name.name) (name_of c.in_ok-label.label) (low_pat_of c.in_ok-pat.pat) (phrase_of c.pop-rest.result) (phrase_of c.pop-fields.result)
    c.in_ok-name.ensures.rest c.pop-rest.ensures.rest c.in_ok-name.ensures.value c.pop-rest.ensures.value c.pop-fields.ensures.value c.in_ok-label.ensures c.in_ok-pat.ensures)
    (three_off v (seen c.name.new.self) (seen c.pop-rest.new.self) _ c.in_ok-name.ensures.rest c.pop-rest.ensures.rest c.pop-fields.ensures.rest)
    c.with_field.ensures

pub returns-in_err-pat : goal.returns-in_err-pat
returns-in_err-pat c =
    let v = seen c.args.stack.now in
    let same = pattern_made v (seen c.name.new.self) (name_of c.in_ok-name.name) (phrase_of c.pop-rest.result) c.in_ok-name.ensures.rest c.in_ok-name.ensures.value c.pop-rest.ensures.value in
    field_fails (name_in (at v 0)) _ (at v 2) 3 v _ c.in_err-pat.field-0.0 c.from_residual-in_err-pat.result (subst (λ q. GivesPat q (Err c.in_err-pat.field-0.0)) same c.in_err-pat.ensures) c.from_residual-in_err-pat.ensures.1
