use Rattle.std.proofs.Common.{◌++◌, ◌∷◌, [], refl, ap, sym, ◌∙◌, Some, None}
use Rattle.std.proofs.lemmas.Map.Iter.{rest_all, rest_more}
use Rattle.std.specs.Map.Iter.{deref_pair}
use Rattle.sml_tree.specs.Views.{ident_of}
use Rattle.sml_objects.specs.Views.{name_of, scheme_of}
use Rattle.sml_bases.specs.Views.{ty_str_of}
use Rattle.sml_match.specs.Paths.{path_in}
use Rattle.sml_match.specs.Searches.{given_by, given_so_far, reading}
use Rattle.sml_match.proofs.Held.{left}
use Rattle.sml_match.proofs.Refusals.{next-is, not-read, type-on, type-refused}
use Rattle.sml_match.proofs.Walks.{refused-too, types-end, type-passed, types-left}
use Rattle.sml_match.proofs.realise.realise_types.Goals as goal

pub loop-name-init : goal.loop-name-init
loop-name-init c = record {
  path = refl;
  names = refl;
  left = λ p ns E so known held rest.
      ap (λ es. reading p ns E (given_so_far c.args.search.now) (types-left (path_in c.args.search.now.way) es ++ rest)) (sym c.into_iter-name-iterator.ensures.into_iter_gives.0);
}

pub returns-in_err-function-clause-read : goal.returns-in_err-function-clause-read
returns-in_err-function-clause-read c = λ p ns E so known held.
    let i = c.loop-name.invariant in
    let path = path_in c.args.search.now.way in
    let x = ident_of c.in-Some.name.now in
    let s = c.loop-name.search in
    let a = c.in-Some.ty.now in
    let first = rest_more deref_pair c.loop-name.name-iterator c.next.new.self c.next.result (c.in-Some.name, c.in-Some.ty) c.in-Some.is c.next.ensures.steps in
    let e = c.in_ok-enter.ensures ∙ ap (λ q. q ++ x ∷ []) i.path in
    let next = next-is c.args.search.now s ns (ty_str_of a).function (scheme_of c.deref.result.now) (Some (name_of c.in-Some-next_name.bound)) so i.names c.in-Some-next_name.ensures (ap scheme_of c.deref.ensures) in
    not-read p ns E c.args.search.now s (types-left path c.args.specified.now.entries) c.from_residual-in_err-function.result c.in_err-function.field-0.0 c.from_residual-in_err-function.ensures.1
    (λ rest. refused-too p c.in_err-function.field-0.0 _ _ (i.left p ns E so known held rest)
    (type-refused p ns E c.in_err-function.field-0.0 (given_so_far s) path c.loop-name.name-iterator c.next.new.self c.in-Some.name.now a (name_of c.in-Some-next_name.bound) rest first next
    (c.in_err-function.ensures p ns E path (ty_str_of a) known held e (ap scheme_of (sym c.deref-in-Some-next_name.ensures)))))

pub loop-name-preserved-in-Some-next_name : goal.loop-name-preserved-in-Some-next_name
loop-name-preserved-in-Some-next_name c =
    let i = c.loop-name.invariant in
    let path = path_in c.args.search.now.way in
    let x = ident_of c.in-Some.name.now in
    let s = c.loop-name.search in
    let a = c.in-Some.ty.now in
    let first = rest_more deref_pair c.loop-name.name-iterator c.next.new.self c.next.result (c.in-Some.name, c.in-Some.ty) c.in-Some.is c.next.ensures.steps in
    let e = c.in_ok-enter.ensures ∙ ap (λ q. q ++ x ∷ []) i.path in
    record {
      path = c.leave.ensures ∙ left path (path_in c.enter.new.self) x e;
      names = i.names;
      left = λ p ns E so known held rest.
          i.left p ns E so known held rest
          ∙ type-on p ns E (given_so_far s) (given_by c.insert.new.self) path c.loop-name.name-iterator c.next.new.self c.in-Some.name.now a (name_of c.in-Some-next_name.bound)
          (scheme_of c.in_ok-function.function.value) rest first
          (next-is c.args.search.now s ns (ty_str_of a).function (scheme_of c.deref.result.now) (Some (name_of c.in-Some-next_name.bound)) so i.names c.in-Some-next_name.ensures (ap scheme_of c.deref.ensures))
          (c.in_ok-function.ensures p ns E path (ty_str_of a) known held e (ap scheme_of (sym c.deref-in-Some-next_name.ensures)))
          c.in_ok-insert.ensures;
    }

pub loop-name-preserved : goal.loop-name-preserved
loop-name-preserved c =
    let i = c.loop-name.invariant in
    let path = path_in c.args.search.now.way in
    let s = c.loop-name.search in
    let a = c.in-Some.ty.now in
    let first = rest_more deref_pair c.loop-name.name-iterator c.next.new.self c.next.result (c.in-Some.name, c.in-Some.ty) c.in-Some.is c.next.ensures.steps in
    record {
      path = i.path;
      names = i.names;
      left = λ p ns E so known held rest.
          i.left p ns E so known held rest
          ∙ type-passed p ns E (given_so_far s) path c.loop-name.name-iterator c.next.new.self c.in-Some.name.now a rest first
          (next-is c.args.search.now s ns (ty_str_of a).function (scheme_of c.deref.result.now) None so i.names c.in_default.ensures (ap scheme_of c.deref.ensures));
    }

pub returns-clause-read : goal.returns-clause-read
returns-clause-read c = λ p ns E so known held rest.
    let i = c.loop-name.invariant in
    i.left p ns E so known held rest
    ∙ types-end p ns E (given_so_far c.loop-name.search) (path_in c.args.search.now.way) c.loop-name.name-iterator rest
    (rest_all deref_pair c.loop-name.name-iterator c.next.new.self c.next.result c.in-None.is c.next.ensures.steps)
