use Rattle.std.proofs.Common.{ap, sym, ◌∙◌, map, ◌++◌, ◌∷◌, []}
use Rattle.std.proofs.lemmas.List.{map-append}
use Rattle.std.specs.Map.Iter.{deref_pair}
use Rattle.sml_tree.specs.Views.{ident_of}
use Rattle.sml_objects.specs.Appearance.{firsts_after, appear_map, appear_type}
use Rattle.sml_objects.specs.Initial.{naming}
use Rattle.sml_objects.specs.Views.{type_of, scheme_of, schemes_of, name_of}
use Rattle.sml_objects.proofs.Appearances.{map-push, map-none, collected, unchanged}
use Rattle.sml_objects.proofs.names.collect_schemes.Goals as goal

pub loop-scheme-init : goal.loop-scheme-init
loop-scheme-init c =
    let s = map name_of c.args.seen.now.keys in
    unchanged s ∙ ap (firsts_after naming s) (sym map-none)

pub loop-scheme-preserved : goal.loop-scheme-preserved
loop-scheme-preserved c =
    let before = map deref_pair c.loop-scheme.yielded in
    let x = c.in-Some.field-0-0.now in
    let scheme = c.in-Some.scheme.now in
    collected (map name_of c.args.seen.now.keys) _ _ _ _ _ c.loop-scheme.invariant c.in_ok-collect_type.ensures
    (ap (λ l. appear_map (schemes_of l)) (map-append deref_pair c.loop-scheme.yielded ((c.in-Some.field-0-0, c.in-Some.scheme) ∷ []))
    ∙ ap appear_map (map-append (λ e. (ident_of e.0, scheme_of e.1.value)) before ((x, scheme) ∷ []))
    ∙ map-push (schemes_of before) (ident_of x) (scheme_of scheme.value)
    ∙ ap (λ u. appear_map (schemes_of before) ++ appear_type (type_of u)) (sym (c.deref-in-loop-scheme.ensures ∙ ap (λ s. s.body.value) c.deref.ensures)))
