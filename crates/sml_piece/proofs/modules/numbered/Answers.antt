use Rattle.std.proofs.Common.{◌≡◌, ◌≤◌, ◌+◌, length, ap, sym, subst, ◌∙◌, arith, rules, Err}
use Rattle.sml_lex.specs.declared.fault.Code.TheVariants.{Q3}
use Rattle.sml_lex.specs.Faults.{first_place}
use Rattle.sml_objects.specs.Canonical as C
use Rattle.sml_objects.specs.Views.{maker_of, sig_of}
use Rattle.sml_rules.specs.Answers.{accepted, test, fault}
use Rattle.sml_rules.proofs.Sound.{tested}
use Rattle.sml_piece.specs.Elaborated.{Answers}
use Rattle.sml_piece.proofs.Answering.{first_ends, then_any, passes, gives_so}
use Rattle.sml_piece.proofs.Canonical.{canonical_unchanged}
use Rattle.sml_piece.proofs.modules.numbered.Goals as goal

pub returns-in-Err-clause-answer : goal.returns-in-Err-clause-answer
returns-in-Err-clause-answer c =
    let before = length c.args.basis.now.names.items in
    let at : c.in-Ok.count ≡ before = search rules in
    let made = c.in-Ok-new_count.ensures ∙ ap (λ n. length (C.new_names (maker_of c.args.basis.now.unit) n (sig_of c.args.own))) at in
    first_ends (λ u. u) sig_of _ _ c.in-Err.fault (subst (λ n. Answers (λ u. u) (Err c.in-Err.fault) (test (before + n ≤ 1048576) (fault Q3 first_place))) made c.in-Err.ensures)

pub returns-then-made-eq0-clause-answer : goal.returns-then-made-eq0-clause-answer
returns-then-made-eq0-clause-answer c =
    let unit = maker_of c.args.basis.now.unit in
    let S = sig_of c.args.own in
    let before = length c.args.basis.now.names.items in
    let at : c.in-Ok.count ≡ before = search rules in
    let made = c.in-Ok-new_count.ensures ∙ ap (λ n. length (C.new_names unit n S)) at in
    let few = subst (λ n. before + n ≤ 1048576) made (tested _ (fault Q3 first_place) tt c.in-Ok-few_names.ensures) in
    then_any _ _ tt (accepted S) (passes _ (fault Q3 first_place) few) (gives_so (C.canonical unit before S) S (sym (canonical_unchanged unit before S (sym made ∙ c.if-made-eq0.true))))

pub canonical-requires : goal.canonical-requires
canonical-requires c =
    let at : c.in-Ok.count ≡ length c.args.basis.now.names.items = search rules in
    let made = c.in-Ok-new_count.ensures in
    let few = tested _ (fault Q3 first_place) tt c.in-Ok-few_names.ensures in
    omega (arith, at, made, few)

pub returns-in-Ok-canonical-clause-answer : goal.returns-in-Ok-canonical-clause-answer
returns-in-Ok-canonical-clause-answer c =
    let unit = maker_of c.args.basis.now.unit in
    let S = sig_of c.args.own in
    let before = length c.args.basis.now.names.items in
    let at : c.in-Ok.count ≡ before = search rules in
    let made = c.in-Ok-new_count.ensures ∙ ap (λ n. length (C.new_names unit n S)) at in
    let few = subst (λ n. before + n ≤ 1048576) made (tested _ (fault Q3 first_place) tt c.in-Ok-few_names.ensures) in
    then_any _ _ tt (accepted (sig_of c.in-Ok-canonical.own)) (passes _ (fault Q3 first_place) few)
    (gives_so (C.canonical unit before S) (sig_of c.in-Ok-canonical.own) (c.in-Ok-canonical.ensures.sig ∙ ap (λ n. C.canonical unit n S) at))
