use Rattle.std.proofs.Common.{◌≡◌, Err, Some, None, cond, ap, sym, subst, ◌∙◌, ◌∷◌, ◌++◌, map, Bor, Global}
use Rattle.std.proofs.lemmas.Map.Iter.{rest_so_far, rest_more}
use Rattle.std.specs.Map.Iter.{deref_pair}
use Rattle.std.specs.declared.rc.Rc.{Rc}
use Rattle.sml_tree.specs.Views.{ident_of}
use Rattle.sml_tree.specs.Trees.{Id}
use Rattle.sml_objects.specs.Objects as O
use Rattle.sml_objects.specs.Objects.{types}
use Rattle.sml_objects.specs.Initial.{Name, naming}
use Rattle.sml_objects.specs.Views.{env_of, scheme_of, schemes_of}
use Rattle.sml_objects.specs.declared.objects.Scheme.{Scheme}
use Rattle.sml_objects.proofs.EnvViews.{env_of-out}
use Rattle.sml_rules.specs.Answers.{accepted, refused}
use Rattle.sml_rules.specs.Matching.{realised_by, is_name}
use Rattle.sml_rules.specs.Readings.{read_names}
use Rattle.sml_piece.specs.declared.realisations.Realisation.{Realisation}
use Rattle.sml_piece.specs.Elaborated.{Answers, or_else}
use Rattle.sml_piece.specs.CodeMatched.{read_name}
use Rattle.sml_piece.proofs.Answering.{refusal, refuses, refused_on}
use Rattle.sml_piece.proofs.Matches.{names_each, more, stops_at, entries_more, entries_split, realised_more, realised_none}
use Rattle.sml_piece.proofs.matching.sent_names.Goals as goal

abbrev unit : Bor (Rc Scheme Global) → Unit {0}
unit f = tt

pub loop-name-init : goal.loop-name-init
loop-name-init c = ((names_each c.args.place (env_of c.args.structure.now)).none, λ n. c.new-realisation.ensures n ∙ sym (realised_none (env_of c.args.structure.now) n))

pub loop-name-preserved : goal.loop-name-preserved
loop-name-preserved c =
    let E = env_of c.args.structure.now in
    let x : Id × O.Scheme Name = (ident_of c.in-Some.name.now, scheme_of c.in-Some.scheme.now.value) in
    let before = schemes_of (map deref_pair c.loop-name.yielded) in
    let θ = scheme_of c.in-Ok.function.now.value in
    let one_more = entries_more c.loop-name.yielded c.in-Some.name c.in-Some.scheme in (
      subst (λ xs. read_names naming c.args.place E xs (accepted tt)) (sym one_more)
          (more _ _ (names_each c.args.place E) before x c.loop-name.invariant.0
          (subst (λ s. read_name c.args.place E (ident_of c.in-Some.name.now, scheme_of s) (accepted tt)) c.deref.ensures c.in-Ok.ensures.answer)),
      λ n. c.in-Ok-send_specified.ensures n
          ∙ (λ i. or_else (c.loop-name.invariant.1 n i) (cond (is_name naming n (scheme_of (c.deref-in-loop-name.ensures i)).body) (Some θ) None))
          ∙ sym (realised_more c.args.place E before x θ n c.loop-name.invariant.0 c.in-Ok.ensures.found)
          ∙ ap (λ xs. realised_by naming E xs n) (sym one_more),
    )

pub returns-in-Err-clause-answer : goal.returns-in-Err-clause-answer
returns-in-Err-clause-answer c =
    let E = env_of c.args.structure.now in
    let E' = env_of c.args.specified.now in
    let x : Id × O.Scheme Name = (ident_of c.in-Some.name.now, scheme_of c.in-Some.scheme.now.value) in
    let yielded = c.loop-name.yielded in
    let rest = c.next.new.self in
    let all : types E' ≡ schemes_of (map deref_pair yielded) ++ x ∷ schemes_of rest =
    ap types (env_of-out c.args.specified.now)
    ∙ entries_split _ c.into_iter-name-iterator.result c.loop-name.name-iterator rest yielded c.in-Some.name c.in-Some.scheme
    (c.into_iter-name-iterator.ensures.into_iter_gives ∙ c.iter-name-items.ensures.rest)
    (rest_so_far deref_pair yielded c.into_iter-name-iterator.result c.loop-name.name-iterator c.loop-name.yielded_by)
    (rest_more deref_pair c.loop-name.name-iterator rest c.next.result (c.in-Some.name, c.in-Some.scheme) c.in-Some.is c.next.ensures.steps) in
    refuses {X = Realisation} (λ r. tt) c.in-Err.fault _ (refused_on c.in-Err.fault _ _
    (λ f h. subst (λ xs. read_names naming c.args.place E xs (refused f)) (sym all) (stops_at _ _ (names_each c.args.place E) _ x (schemes_of rest) f c.loop-name.invariant.0 h))
    (refusal unit c.in-Err.fault _ (subst (λ s. Answers unit (Err c.in-Err.fault) (read_name c.args.place E (ident_of c.in-Some.name.now, scheme_of s))) c.deref.ensures c.in-Err.ensures.answer)))
