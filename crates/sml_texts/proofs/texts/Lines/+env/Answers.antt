use Rattle.std.proofs.Common.{ap, sym, ◌∙◌, map, ◌++◌, ◌∷◌, [], codes}
use Rattle.std.proofs.lemmas.List.{map-append}
use Rattle.std.specs.Map.Iter.{deref_pair}
use Rattle.sml_tree.specs.Views.{ident_of}
use Rattle.sml_objects.specs.Views.{env_of, entries_of, structures_of, schemes_of}
use Rattle.sml_objects.specs.declared.objects.Env.TheViews.{out-Env}
use Rattle.sml_objects.proofs.EnvViews.{env_of-out}
use Rattle.sml_texts.specs.Text.{say, show_env, show_structures}
use Rattle.sml_texts.specs.Spelling.{lines_of, and_pieces}
use Rattle.sml_texts.proofs.Spelling.{nothing_more, then_more}
use Rattle.sml_texts.proofs.Pieces.{also, ends, structures-push, no-structures, env-pieces}
use Rattle.sml_texts.proofs.texts.Lines.+env.Goals as goal

pub push_structures-loop-name-init : goal.push_structures-loop-name-init
push_structures-loop-name-init t c =
    let s = lines_of c.args.self.now in
    nothing_more s ∙ ap (and_pieces s) (sym (no-structures c.args.prefix.now))

pub push_structures-loop-name-preserved : goal.push_structures-loop-name-preserved
push_structures-loop-name-preserved t c =
    let p = c.args.prefix.now in
    let before = map deref_pair c.loop-name.yielded in
    let x = c.in-Some.name.now in
    let structure = c.in-Some.structure.now in
    let seen = entries_of (λ s. env_of s.value) before in
    then_more _ _ _ _ _ _ c.loop-name.invariant
    (also _ _ _ _ _ c.in_ok-push_path.ensures c.in_ok-push_env.ensures)
    (ap (λ l. show_structures p (structures_of (entries_of (λ s. env_of s.value) l))) (map-append deref_pair c.loop-name.yielded ((c.in-Some.name, c.in-Some.structure) ∷ []))
    ∙ ap (λ l. show_structures p (structures_of l)) (map-append (λ e. (ident_of e.0, env_of e.1.value)) before ((x, structure) ∷ []))
    ∙ structures-push p seen (ident_of x) (env_of structure.value)
    ∙ (λ i. show_structures p (structures_of seen) ++ (say (codes "  structure " ++ (p ++ (ident_of x ++ codes "\n")))
    ++ show_env ((sym (c.deref.ensures.value ∙ c.in_ok-longer.ensures)) i) (env_of (sym c.deref-in-loop-name.ensures i)))))

pub push_env-returns : goal.push_env-returns
push_env-returns t c =
    let e = out-Env c.args.env.now in
    ends c.push_lines-2.result _ _ _ _ _ _
    (also _ _ _ _ _ c.in_ok-push_structures.ensures c.in_ok-push_lines.ensures)
    (env-pieces c.args.prefix.now (structures_of (entries_of (λ s. env_of s.value) e.structures.entries)) (schemes_of e.types.entries) (schemes_of e.values.entries)
    ∙ ap (show_env c.args.prefix.now) (sym (env_of-out c.args.env.now)))
    c.push_lines-2.ensures
