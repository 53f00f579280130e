use Rattle.std.proofs.Common.{◌≡◌, Some, None, ap, sym, ◌∙◌, map, subst, rules, arith}
use Rattle.std.proofs.lemmas.Map.Iter.{iter_end, btree_map_turn}
use Rattle.std.specs.Map.Iter.{deref_pair}
use Rattle.sml_tree.specs.Views.{ident_of}
use Rattle.sml_objects.specs.Views.{scheme_of, schemes_of}
use Rattle.sml_envs.proofs.SameMaps.{AreIn, one-more, keys_total, held, same-entries, lacks, differs}
use Rattle.sml_envs.proofs.comparisons.same_constructors.Goals as goal

pub loop-name-preserved : goal.loop-name-preserved
loop-name-preserved c =
    one-more (λ s. scheme_of s.value) c.loop-name.yielded c.in-Some.name c.in-Some.one (schemes_of c.args.others.now.entries)
    (held (λ s. scheme_of s.value) c.args.others.now.entries c.in-Some.name.now (Some c.in-Some-get.other.now) (sym c.in-Some-get.ensures.value)
    ∙ ap Some (ap scheme_of (sym c.deref-in-Some-get.ensures) ∙ sym (c.same_scheme.ensures.yes c.if-not-same_scheme.false) ∙ ap scheme_of c.deref.ensures))
    c.loop-name.invariant

pub returns-in-None-get-clause-no : goal.returns-in-None-get-clause-no
returns-in-None-get-clause-no c = λ h.
    lacks (schemes_of c.args.ones.now.entries) (schemes_of c.args.others.now.entries) (ident_of c.in-Some.name.now) (scheme_of c.in-Some.one.now.value)
    (held (λ s. scheme_of s.value) c.args.ones.now.entries c.in-Some.name.now (Some c.in-Some.one.now)
    (btree_map_turn deref_pair c.loop-name.yielded c.into_iter-name-iterator.result c.loop-name.name-iterator c.next.new.self c.next.result (c.in-Some.name, c.in-Some.one)
    c.loop-name.yielded_by c.in-Some.is c.next.ensures.steps keys_total c.args.ones.now c.into_iter-name-iterator.ensures.into_iter_gives.0 c.into_iter-name-iterator.ensures.into_iter_gives.5).1)
    (held (λ s. scheme_of s.value) c.args.others.now.entries c.in-Some.name.now None (sym c.in-None-get.ensures.value))

pub returns-then-not-same_scheme-clause-no : goal.returns-then-not-same_scheme-clause-no
returns-then-not-same_scheme-clause-no c = λ h.
    differs (schemes_of c.args.ones.now.entries) (schemes_of c.args.others.now.entries) (ident_of c.in-Some.name.now) (scheme_of c.in-Some.one.now.value)
    (scheme_of c.in-Some-get.other.now.value)
    (held (λ s. scheme_of s.value) c.args.ones.now.entries c.in-Some.name.now (Some c.in-Some.one.now)
    (btree_map_turn deref_pair c.loop-name.yielded c.into_iter-name-iterator.result c.loop-name.name-iterator c.next.new.self c.next.result (c.in-Some.name, c.in-Some.one)
    c.loop-name.yielded_by c.in-Some.is c.next.ensures.steps keys_total c.args.ones.now c.into_iter-name-iterator.ensures.into_iter_gives.0 c.into_iter-name-iterator.ensures.into_iter_gives.5).1)
    (held (λ s. scheme_of s.value) c.args.others.now.entries c.in-Some.name.now (Some c.in-Some-get.other.now) (sym c.in-Some-get.ensures.value))
    (λ q. c.same_scheme.ensures.no c.if-not-same_scheme.true (ap scheme_of c.deref.ensures ∙ q ∙ ap scheme_of (sym c.deref-in-Some-get.ensures)))

pub returns-clause-yes : goal.returns-clause-yes
returns-clause-yes c = λ h.
    let whole : map deref_pair c.loop-name.yielded ≡ c.args.ones.now.entries = search (rules, iter_end) in
    let a = c.len.ensures.len in
    let b = c.len-2.ensures.len in
    let t = c.if-len.false in
    same-entries (λ s. scheme_of s.value) c.args.ones.now.entries c.args.others.now.entries c.into_iter-name-iterator.ensures.into_iter_gives.5 c.len-2.ensures.ordered (omega (arith, a, b, t))
    (subst (λ es. AreIn (schemes_of es) (schemes_of c.args.others.now.entries)) whole c.loop-name.invariant)
