use Rattle.std.proofs.Common.{refl, ap, sym, ◌∙◌, map, ◌++◌, ◌∷◌, []}
use Rattle.std.proofs.lemmas.List.{map-append}
use Rattle.std.specs.Map.Iter.{deref_pair}
use Rattle.sml_tree.specs.Views.{ident_of}
use Rattle.sml_objects.specs.Appearance.{firsts_after, appear_map, appear_structures, appear_env}
use Rattle.sml_objects.specs.Initial.{naming}
use Rattle.sml_objects.specs.Views.{env_of, entries_of, structures_of, schemes_of, name_of}
use Rattle.sml_objects.specs.declared.objects.Env.TheViews.{out-Env}
use Rattle.sml_objects.proofs.EnvViews.{env_of-out}
use Rattle.sml_objects.proofs.Appearances.{structures-push, structures-none, appear-parts, collected, unchanged}
use Rattle.sml_objects.proofs.names.+collect_env.Goals as goal

pub collect_structures-loop-structure-init : goal.collect_structures-loop-structure-init
collect_structures-loop-structure-init t c =
    let s = map name_of c.args.seen.now.keys in
    unchanged s ∙ ap (firsts_after naming s) (sym structures-none)

pub collect_structures-loop-structure-preserved : goal.collect_structures-loop-structure-preserved
collect_structures-loop-structure-preserved t c =
    let before = map deref_pair c.loop-structure.yielded in
    let x = c.in-Some.field-0-0.now in
    let structure = c.in-Some.structure.now in
    collected (map name_of c.args.seen.now.keys) _ _ _ _ _ c.loop-structure.invariant c.in_ok-collect_env.ensures
    (ap (λ l. appear_structures (structures_of (entries_of (λ s. env_of s.value) l))) (map-append deref_pair c.loop-structure.yielded ((c.in-Some.field-0-0, c.in-Some.structure) ∷ []))
    ∙ ap (λ l. appear_structures (structures_of l)) (map-append (λ e. (ident_of e.0, env_of e.1.value)) before ((x, structure) ∷ []))
    ∙ structures-push (entries_of (λ s. env_of s.value) before) (ident_of x) (env_of structure.value)
    ∙ ap (λ u. appear_structures (structures_of (entries_of (λ s. env_of s.value) before)) ++ appear_env (env_of u)) (sym c.deref.ensures))

pub collect_env-returns : goal.collect_env-returns
collect_env-returns t c =
    let e = out-Env c.args.env.now in
    let ss = appear_structures (structures_of (entries_of (λ s. env_of s.value) e.structures.entries)) in
    let s = map name_of c.args.seen.now.keys in
    collected s _ _ (ss ++ appear_map (schemes_of e.types.entries)) _ (appear_env (env_of c.args.env.now))
    (collected s _ _ ss _ _ c.in_ok-collect_structures.ensures c.in_ok-collect_schemes.ensures refl)
    c.in_ok-collect_schemes-2.ensures
    (ap appear_env (env_of-out c.args.env.now) ∙ appear-parts e)
