use Rattle.std.proofs.Common.{◌++◌, ◌∷◌, [], length, ap, sym, subst, ◌∙◌, arith}
use Rattle.std.proofs.lemmas.List.{length-append}
use Rattle.std.proofs.lemmas.Map.Iter.{rest_all, rest_more}
use Rattle.std.specs.Map.Iter.{deref_pair}
use Rattle.sml_tree.specs.Views.{ident_of}
use Rattle.sml_objects.specs.Appearance.{stands}
use Rattle.sml_objects.specs.Initial.{naming}
use Rattle.sml_objects.specs.Views.{entries_of}
use Rattle.sml_module_rules.specs.Lines.{lines}
use Rattle.sml_bases.specs.Views.{env_of, value_of}
use Rattle.sml_bases.specs.declared.objects.Env.TheViews.{out-Env}
use Rattle.sml_match.specs.Paths.{path_in}
use Rattle.sml_match.specs.Searches.{HasRead, IsHeldAt, given_so_far}
use Rattle.sml_match.proofs.Held.{left}
use Rattle.sml_match.proofs.Reading.{past-values}
use Rattle.sml_match.proofs.Refusals.{not-read, read-on, structure-on, structure-refused}
use Rattle.sml_match.proofs.Walks.{refused-too, structures-end, structures-left, types-left, values-of, whole}
use Rattle.sml_match.proofs.realise.+realise.Goals as goal

pub realise_env-returns-in_err-realise_structures-clause-read : goal.realise_env-returns-in_err-realise_structures-clause-read
realise_env-returns-in_err-realise_structures-clause-read t c = λ p ns E so known held.
    let path = path_in c.args.search.now.way in
    let env = c.args.specified.now in
    let m = c.in_err-realise_structures.field-0.0 in
    not-read p ns E c.args.search.now c.realise_structures.new.search (lines path (env_of env)) c.from_residual.result m c.from_residual.ensures.1
    (λ rest. refused-too p m _ _ (whole p ns E (given_so_far c.args.search.now) path env rest)
    (c.in_err-realise_structures.ensures.read p ns E so known held (types-left path (out-Env env).types.entries ++ (values-of path env ++ rest))))

pub realise_env-returns-clause-read : goal.realise_env-returns-clause-read
realise_env-returns-clause-read t c = λ p ns E so known held.
    let path = path_in c.args.search.now.way in
    let env = c.args.specified.now in
    let mid = c.realise_structures.new.search in
    let arm = c.in_ok-realise_structures.ensures in
    let types = (out-Env env).types.entries in
    read-on p ns E c.args.search.now mid c.realise_types.new.search (lines path (env_of env)) (types-left path types) (values-of path env) c.realise_types.result
    (λ rest. whole p ns E (given_so_far c.args.search.now) path env rest ∙ arm.read p ns E so known held (types-left path types ++ (values-of path env ++ rest)))
    (λ φ rest. past-values p ns E φ path (entries_of value_of (out-Env env).values.entries) rest)
    (subst (λ q. HasRead p ns E mid c.realise_types.new.search (types-left q types) c.realise_types.result) arm.path
    (c.realise_types.ensures.read p ns E (λ n. ap (stands naming n) arm.names ∙ so n) known (subst (λ q. IsHeldAt E q c.args.held) (sym arm.path) held)))

pub realise_structures-returns-in_err-realise_env-clause-read : goal.realise_structures-returns-in_err-realise_env-clause-read
realise_structures-returns-in_err-realise_env-clause-read t c = λ p ns E so known held.
    let i = c.loop-name.invariant in
    let path = path_in c.args.search.now.way in
    let x = ident_of c.in-Some.name.now in
    let s = c.loop-name.search in
    let a = c.in-Some.structure.now in
    let way = path_in c.enter.new.self in
    let first = rest_more deref_pair c.loop-name.name-iterator c.next.new.self c.next.result (c.in-Some.name, c.in-Some.structure) c.in-Some.is c.next.ensures.steps in
    let e = c.in_ok-enter.ensures ∙ ap (λ q. q ++ x ∷ []) i.path in
    let m = c.in_err-realise_env.field-0.0 in
    let n = length-append path (x ∷ []) in
    let k = ap (λ q. length q) e in
    let l = c.length.ensures in
    let deeper = subst (λ q. IsHeldAt E q c.structure_in-inner.result) (sym e) (c.structure_in-inner.ensures E path (omega (arith, n, k, l)) held) in
    not-read p ns E c.args.search.now c.realise_env.new.search (structures-left path c.args.specified.now.entries) c.from_residual-in_err-realise_env.result m c.from_residual-in_err-realise_env.ensures.1
    (λ rest. refused-too p m _ _ (i.left p ns E so known held rest)
    (structure-refused p ns E (env_of c.deref.result.now) (given_so_far s) path way c.loop-name.name-iterator c.next.new.self c.in-Some.name.now a rest first e (ap env_of c.deref.ensures) m
    (c.in_err-realise_env.ensures.read p ns E (λ n. ap (stands naming n) i.names ∙ so n) known deeper)))

pub realise_structures-loop-name-preserved : goal.realise_structures-loop-name-preserved
realise_structures-loop-name-preserved t c =
    let i = c.loop-name.invariant in
    let path = path_in c.args.search.now.way in
    let x = ident_of c.in-Some.name.now in
    let s = c.loop-name.search in
    let a = c.in-Some.structure.now in
    let way = path_in c.enter.new.self in
    let first = rest_more deref_pair c.loop-name.name-iterator c.next.new.self c.next.result (c.in-Some.name, c.in-Some.structure) c.in-Some.is c.next.ensures.steps in
    let e = c.in_ok-enter.ensures ∙ ap (λ q. q ++ x ∷ []) i.path in
    let n = length-append path (x ∷ []) in
    let k = ap (λ q. length q) e in
    let l = c.length.ensures in
    let arm = c.in_ok-realise_env.ensures in
    record {
      path = c.leave.ensures ∙ left path (path_in c.realise_env.new.search.way) x (arm.path ∙ e);
      names = arm.names ∙ i.names;
      left = λ p ns E so known held rest.
          i.left p ns E so known held rest
          ∙ structure-on p ns E (env_of c.deref.result.now) (given_so_far s) path way c.loop-name.name-iterator c.next.new.self c.in-Some.name.now a rest first e (ap env_of c.deref.ensures)
          (given_so_far c.realise_env.new.search)
          (arm.read p ns E (λ n. ap (stands naming n) i.names ∙ so n) known
          (subst (λ q. IsHeldAt E q c.structure_in-inner.result) (sym e) (c.structure_in-inner.ensures E path (omega (arith, n, k, l)) held)));
    }

pub realise_structures-returns-clause-read : goal.realise_structures-returns-clause-read
realise_structures-returns-clause-read t c = λ p ns E so known held rest.
    let i = c.loop-name.invariant in
    i.left p ns E so known held rest
    ∙ structures-end p ns E (given_so_far c.loop-name.search) (path_in c.args.search.now.way) c.loop-name.name-iterator rest
    (rest_all deref_pair c.loop-name.name-iterator c.next.new.self c.next.result c.in-None.is c.next.ensures.steps)
