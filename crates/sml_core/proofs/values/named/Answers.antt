use Rattle.std.proofs.Common.{ap, [], sym, ◌∙◌}
use Rattle.std.proofs.lemmas.List.{drop_all}
use Rattle.sml_tree.specs.Views.{ident_of}
use Rattle.sml_closing.specs.Gathered.{ids_of, with_all}
use Rattle.sml_core.proofs.Gathered.{idents, inserted, one-named}
use Rattle.sml_core.proofs.values.named.Goals as goal

pub loop-name-init : goal.loop-name-init
loop-name-init c = ap (λ ks. with_all (ids_of ks) (idents c.args.names.now)) c.new-found.ensures.empty

pub loop-name-preserved : goal.loop-name-preserved
loop-name-preserved c =
    one-named c.args.names.now c.loop-name.name-index c.name-item.result (ids_of c.loop-name.found.keys) (ids_of c.insert.new.self.keys)
    (with_all [] (idents c.args.names.now)) c.loop-name-test.true (sym c.name-item.is)
    c.loop-name.invariant
    (inserted c.loop-name.found.keys c.insert.new.self.keys c.in_ok-clone.field-0 (ident_of c.name-item.result.ident) (ap (λ v. v.items) c.in_ok-clone.ensures.cases) c.in_ok-insert.ensures.keys)

pub returns : goal.returns
returns c = sym (ap (λ xs. with_all (ids_of c.loop-name.found.keys) (idents xs)) (drop_all c.loop-name.name-index c.args.names.now c.loop-name-test.false)) ∙ c.loop-name.invariant
