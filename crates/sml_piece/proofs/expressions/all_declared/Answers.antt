use Rattle.std.proofs.Common.{◌≡◌, ◌+◌, ◌<◌, ◌∷◌, ℕ, List, [], map, drop, length, get_or, ap, sym, ◌∙◌, subst, arith}
use Rattle.std.proofs.lemmas.List.{drop_more}
use Rattle.std.proofs.Math.ListN.{drop_of_length-le}
use Rattle.sml_tree.specs.Views.{core_dec_of}
use Rattle.sml_tree.specs.declared.bare.CoreDec.{CoreDec}
use Rattle.sml_objects.specs.Objects.{extend_env}
use Rattle.sml_objects.specs.Initial.{naming}
use Rattle.sml_objects.specs.Views.{env_of}
use Rattle.sml_rules.specs.Answers.{accepted, refused}
use Rattle.sml_rules.specs.Readings.{read_core, read_cores}
use Rattle.sml_piece.specs.Elaborated.{Shows, no_local, component_of}
use Rattle.sml_piece.proofs.Contexts.{shows_outer, shows_component}
use Rattle.sml_piece.proofs.Answering.{then_any, then_refused, gives, refusal, refuses, refused_on}
use Rattle.sml_piece.proofs.expressions.all_declared.Goals as goal

pub loop-dec-init : goal.loop-dec-init
loop-dec-init c =
    let outer = env_of c.args.outer.now in
    let ds = map core_dec_of c.args.decs.now in (
      outer,
      subst (λ e. Shows no_local outer e outer) (sym c.new-bound.ensures) (shows_outer outer),
      λ o h. subst (λ e. read_cores naming outer e ds o) c.new-bound.ensures h,
    )

-- the declarations from one on: that one, and those after it
rest_at : (xs : List CoreDec) (i : ℕ) (x : CoreDec) → i < length xs → x ≡ get_or xs i x → map core_dec_of (drop i xs) ≡ core_dec_of x ∷ map core_dec_of (drop (i + 1) xs)
rest_at xs i x h e = ap (map core_dec_of) (drop_more xs i x h ∙ ap (λ y. y ∷ drop (i + 1) xs) (sym e))

pub returns-in-Err : goal.returns-in-Err
unfolding read_cores
returns-in-Err c =
    let xs = c.args.decs.now in
    let i = c.loop-dec.dec-index in
    let C = c.loop-dec.invariant.0 in
    let F = env_of c.loop-dec.bound in
    let shows = c.loop-dec.invariant.1 in
    refuses env_of c.in-Err.fault _ (refused_on c.in-Err.fault (read_core naming C (core_dec_of c.dec-item.result)) _
    (λ f h. c.loop-dec.invariant.2 (refused f) (subst (λ ds. read_cores naming C F ds (refused f)) (sym (rest_at xs i c.dec-item.result c.loop-dec-test.true c.dec-item.is)) (then_refused _ _ f h)))
    (refusal component_of c.in-Err.fault _ (c.in-Err.ensures C shows)))

pub loop-dec-preserved : goal.loop-dec-preserved
unfolding read_cores
loop-dec-preserved c =
    let xs = c.args.decs.now in
    let i = c.loop-dec.dec-index in
    let C = c.loop-dec.invariant.0 in
    let F = env_of c.loop-dec.bound in
    let shows = c.loop-dec.invariant.1 in
    let G = component_of c.in-Ok.component in
    let ds = map core_dec_of (drop (i + 1) xs) in (
      extend_env C G,
      subst (λ e. Shows no_local (env_of c.args.outer.now) e (extend_env C G)) (sym c.in-Ok-put_into.ensures) (shows_component _ F C c.in-Ok.component shows),
      λ o h. c.loop-dec.invariant.2 o (subst (λ ds. read_cores naming C F ds o) (sym (rest_at xs i c.dec-item.result c.loop-dec-test.true c.dec-item.is))
          (then_any _ _ G o (c.in-Ok.ensures C shows) (subst (λ e. read_cores naming (extend_env C G) e ds o) c.in-Ok-put_into.ensures h))),
    )

pub returns : goal.returns
unfolding read_cores
returns c =
    let xs = c.args.decs.now in
    let C = c.loop-dec.invariant.0 in
    let F = env_of c.loop-dec.bound in
    let all : drop c.loop-dec.dec-index xs ≡ [] = drop_of_length-le xs (omega arith) in
    c.loop-dec.invariant.2 (accepted F) (subst (λ ds. read_cores naming C F (map core_dec_of ds) (accepted F)) (sym all) (gives F))
