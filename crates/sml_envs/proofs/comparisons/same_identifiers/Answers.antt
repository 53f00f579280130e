use Rattle.std.proofs.Common.{◌≡◌, Some, sym, ◌∙◌, map, subst, rules, arith}
use Rattle.std.proofs.lemmas.Map.Iter.{iter_end, btree_map_turn}
use Rattle.std.specs.Map.Iter.{deref_pair}
use Rattle.sml_tree.specs.Views.{ident_of}
use Rattle.sml_objects.specs.Views.{scheme_of, entries_of}
use Rattle.sml_envs.proofs.SameMaps.{AreIn, one-more, keys_total, held, same-entries, lacks, nothing, present, missing, same-ids, ids-same}
use Rattle.sml_envs.proofs.comparisons.same_identifiers.Goals as goal

pub loop-name-preserved : goal.loop-name-preserved
loop-name-preserved c =
    one-more nothing c.loop-name.yielded c.in-Some.name c.in-Some.field-0-1 (entries_of nothing c.args.others.now.entries)
    (present c.args.others.now.entries c.in-Some.name.now (sym c.contains_key.ensures ∙ c.if-not-contains_key.false))
    c.loop-name.invariant

pub returns-then-not-contains_key-clause-no : goal.returns-then-not-contains_key-clause-no
returns-then-not-contains_key-clause-no c = λ h e.
    lacks (entries_of nothing c.args.ones.now.entries) (entries_of nothing c.args.others.now.entries) (ident_of c.in-Some.name.now) tt
    (held nothing c.args.ones.now.entries c.in-Some.name.now (Some c.in-Some.field-0-1.now)
    (btree_map_turn deref_pair c.loop-name.yielded c.into_iter-name-iterator.result c.loop-name.name-iterator c.next.new.self c.next.result (c.in-Some.name, c.in-Some.field-0-1)
    c.loop-name.yielded_by c.in-Some.is c.next.ensures.steps keys_total c.args.ones.now c.into_iter-name-iterator.ensures.into_iter_gives.0 c.into_iter-name-iterator.ensures.into_iter_gives.5).1)
    (missing c.args.others.now.entries c.in-Some.name.now (sym c.contains_key.ensures ∙ c.if-not-contains_key.true))
    (ids-same (λ s. scheme_of s.value) c.args.ones.now.entries c.args.others.now.entries e)

pub returns-clause-yes : goal.returns-clause-yes
returns-clause-yes c = λ h.
    let whole : map deref_pair c.loop-name.yielded ≡ c.args.ones.now.entries = search (rules, iter_end) in
    let a = c.len.ensures.len in
    let b = c.len-2.ensures.len in
    let t = c.if-len.false in
    same-ids (λ s. scheme_of s.value) c.args.ones.now.entries c.args.others.now.entries
    (same-entries nothing c.args.ones.now.entries c.args.others.now.entries c.into_iter-name-iterator.ensures.into_iter_gives.5 c.len-2.ensures.ordered (omega (arith, a, b, t))
    (subst (λ es. AreIn (entries_of nothing es) (entries_of nothing c.args.others.now.entries)) whole c.loop-name.invariant))
