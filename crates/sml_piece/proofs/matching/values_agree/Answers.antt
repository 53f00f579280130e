use Rattle.std.proofs.Common.{◌≡◌, Err, ap, sym, subst, ◌∙◌, ◌∷◌, ◌++◌, map}
use Rattle.std.proofs.lemmas.Map.Iter.{rest_so_far, rest_more}
use Rattle.std.specs.Map.Iter.{deref_pair}
use Rattle.sml_tree.specs.Views.{ident_of}
use Rattle.sml_tree.specs.Trees.{Id}
use Rattle.sml_objects.specs.Objects as O
use Rattle.sml_objects.specs.Initial.{Name, naming}
use Rattle.sml_objects.specs.Views.{env_of, scheme_of, schemes_of}
use Rattle.sml_objects.specs.Objects.{values}
use Rattle.sml_objects.proofs.EnvViews.{env_of-out}
use Rattle.sml_rules.specs.Answers.{accepted, refused}
use Rattle.sml_rules.specs.Matching.{realise_type}
use Rattle.sml_rules.specs.Rules.{IsOpen}
use Rattle.sml_rules.specs.Readings.{read_values}
use Rattle.sml_piece.specs.Elaborated.{Answers}
use Rattle.sml_piece.specs.CodeMatched.{sends, read_value, PlainUnder}
use Rattle.sml_piece.proofs.Answering.{refusal, refuses, refused_on}
use Rattle.sml_piece.proofs.Matches.{values_each, more, stops_at, entries_more, entries_split, plain_at}
use Rattle.sml_piece.proofs.matching.values_agree.Goals as goal

pub loop-name-init : goal.loop-name-init
loop-name-init c = λ plain. (values_each c.args.place (env_of c.args.structure.now) (sends c.args.realisation.now.functions.entries)).none

pub loop-name-preserved : goal.loop-name-preserved
loop-name-preserved c = λ plain.
    let E = env_of c.args.structure.now in
    let E' = env_of c.args.specified.now in
    let φ = sends c.args.realisation.now.functions.entries in
    let x : Id × O.Scheme Name = (ident_of c.in-Some.name.now, scheme_of c.in-Some.scheme.now.value) in
    let yielded = c.loop-name.yielded in
    let rest = c.next.new.self in
    let all : values E' ≡ schemes_of (map deref_pair yielded) ++ x ∷ schemes_of rest =
    ap values (env_of-out c.args.specified.now)
    ∙ entries_split _ c.into_iter-name-iterator.result c.loop-name.name-iterator rest yielded c.in-Some.name c.in-Some.scheme
    (c.into_iter-name-iterator.ensures.into_iter_gives ∙ c.iter-name-items.ensures.rest)
    (rest_so_far deref_pair yielded c.into_iter-name-iterator.result c.loop-name.name-iterator c.loop-name.yielded_by)
    (rest_more deref_pair c.loop-name.name-iterator rest c.next.result (c.in-Some.name, c.in-Some.scheme) c.in-Some.is c.next.ensures.steps) in
    let opened = plain_at φ (schemes_of (map deref_pair yielded)) (schemes_of rest) x (subst (PlainUnder φ) all plain) in
    subst (λ xs. read_values naming c.args.place E φ xs (accepted tt)) (sym (entries_more yielded c.in-Some.name c.in-Some.scheme))
    (more _ _ (values_each c.args.place E φ) (schemes_of (map deref_pair yielded)) x (c.loop-name.invariant plain)
    (subst (λ s. IsOpen (realise_type φ (scheme_of s).body) → read_value c.args.place E φ (ident_of c.in-Some.name.now, scheme_of s) (accepted tt)) c.deref.ensures c.in-Ok.ensures opened))

pub returns-in-Err : goal.returns-in-Err
returns-in-Err c = λ plain.
    let E = env_of c.args.structure.now in
    let E' = env_of c.args.specified.now in
    let φ = sends c.args.realisation.now.functions.entries in
    let x : Id × O.Scheme Name = (ident_of c.in-Some.name.now, scheme_of c.in-Some.scheme.now.value) in
    let yielded = c.loop-name.yielded in
    let rest = c.next.new.self in
    let all : values E' ≡ schemes_of (map deref_pair yielded) ++ x ∷ schemes_of rest =
    ap values (env_of-out c.args.specified.now)
    ∙ entries_split _ c.into_iter-name-iterator.result c.loop-name.name-iterator rest yielded c.in-Some.name c.in-Some.scheme
    (c.into_iter-name-iterator.ensures.into_iter_gives ∙ c.iter-name-items.ensures.rest)
    (rest_so_far deref_pair yielded c.into_iter-name-iterator.result c.loop-name.name-iterator c.loop-name.yielded_by)
    (rest_more deref_pair c.loop-name.name-iterator rest c.next.result (c.in-Some.name, c.in-Some.scheme) c.in-Some.is c.next.ensures.steps) in
    let opened = plain_at φ (schemes_of (map deref_pair yielded)) (schemes_of rest) x (subst (PlainUnder φ) all plain) in
    refuses (λ u. u) c.in-Err.fault _ (refused_on c.in-Err.fault _ _
    (λ f h. subst (λ xs. read_values naming c.args.place E φ xs (refused f)) (sym all) (stops_at _ _ (values_each c.args.place E φ) _ x (schemes_of rest) f (c.loop-name.invariant plain) h))
    (refusal (λ u. u) c.in-Err.fault _
    (subst (λ s. IsOpen (realise_type φ (scheme_of s).body) → Answers (λ u. u) (Err c.in-Err.fault) (read_value c.args.place E φ (ident_of c.in-Some.name.now, scheme_of s))) c.deref.ensures c.in-Err.ensures opened)))
