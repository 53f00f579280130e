use Rattle.std.proofs.Common.{◌≡◌, ◌++◌, ◌∷◌, ◌+◌, true, [], length, map, take, ap, sym, ◌∙◌, arith}
use Rattle.std.proofs.lemmas.Grind.{take_at_read}
use Rattle.std.proofs.lemmas.List.{length-take-le, map-append}
use Rattle.sml_tree.specs.BindingViews.{dat_bind_of}
use Rattle.sml_objects.specs.Initial.{made}
use Rattle.sml_objects.specs.Views.{maker_of, name_of}
use Rattle.sml_types.specs.Datatypes.{names_from}
use Rattle.sml_types.proofs.NewNames.{names-push}
use Rattle.sml_types.proofs.datatypes.new_names.Goals as goal

pub loop-bind-preserved : goal.loop-bind-preserved
loop-bind-preserved c =
    let xs = c.args.binds.now in
    let x = c.bind-item.result in
    let i = c.loop-bind.bind-index in
    let u = maker_of c.args.new.now.unit in
    let k = c.args.new.now.next in
    let old = c.loop-bind.invariant in
    let new = c.in_ok-make.ensures in
    let a = c.in_ok-number_of.field-0 in
    let taken = (take_at_read xs i x c.loop-bind-test.true).1 ∙ ap (λ y. take i xs ++ (y ∷ [])) (sym c.bind-item.is) in
    let arity : a ≡ length x.variables.items = c.in_ok-number_of.ensures ∙ c.len.ensures ∙ x.variables.ok.0 in
    let many : length (take i xs) ≡ i = length-take-le i xs (omega (arith, c.loop-bind-test.true)) in
    let place : k + i ≡ k + length (take i xs) = omega (arith, many) in
    let one : name_of c.in_ok-make.field-0 ≡ made u (k + i) a true = new.made ∙ (λ j. made (maker_of (old.unit j)) (old.next j) a true) in
    record {
      names =
          ap (map name_of) c.in_ok-push.ensures.items
          ∙ map-append name_of c.loop-bind.names.items (c.in_ok-make.field-0 ∷ [])
          ∙ (λ j. old.names j ++ (one j ∷ []))
          ∙ sym (names-push u k (take i xs) x (k + i) a place arity)
          ∙ ap (λ l. names_from u k (map dat_bind_of l)) (sym taken);
      next = omega (arith, new.next, old.next);
      basis = new.basis ∙ old.basis;
      unit = new.unit ∙ old.unit;
      carries = λ n. new.carries n ∙ old.carries n;
    }
