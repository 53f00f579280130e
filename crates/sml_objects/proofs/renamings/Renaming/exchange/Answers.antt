use Rattle.std.proofs.Common.{◌≡◌, ap, sym, subst, ◌∙◌, rules, []}
use Rattle.std.proofs.Math.Logic.{∥∥₁_map}
use Rattle.indexmap.specs.IndexMap.{insert_entry}
use Rattle.sml_objects.specs.Initial.{Name, naming}
use Rattle.sml_objects.specs.Exchanges.{renamed_by, exchanged, IsRenaming}
use Rattle.sml_objects.specs.Views.{name_of, maker_of}
use Rattle.sml_objects.specs.declared.objects.TyName.TheVariants as T
use Rattle.sml_objects.proofs.NameTests.{eq}
use Rattle.sml_objects.proofs.RenamingPairs.{exchanged-pairs, renaming-after}
use Rattle.sml_objects.proofs.renamings.Renaming.exchange.Goals as goal

pub invariant_of-self : goal.invariant_of-self
invariant_of-self c = record {
  one_to_one = ∥∥₁_map c.args.self.now.one_to_one (λ r. subst (λ es. IsRenaming (renamed_by es)) (sym c.reserve.ensures.entries) r);
}

pub invariant_of-self-2 : goal.invariant_of-self-2
unfolding naming
invariant_of-self-2 c =
    let a = T.Made c.args.first in
    let b = T.Made c.args.second in
    let f : c.insert.new.self.entries ≡ insert_entry eq c.reserve.new.self.entries a c.name-of_second.result = search rules in
    let g : c.insert-2.new.self.entries ≡ insert_entry eq c.insert.new.self.entries b c.name-of_first.result = search rules in
    let h : (n : Name) → renamed_by c.insert-2.new.self.entries n ≡ renamed_by c.args.self.now.pairs.entries (exchanged naming (name_of a) (name_of b) n) =
    exchanged-pairs c.args.self.now.pairs.entries c.insert.new.self.entries c.insert-2.new.self.entries a b c.name-of_first.result c.name-of_second.result
    (f ∙ ap (λ es. insert_entry eq es a c.name-of_second.result) c.reserve.ensures.entries) g c.name-of_first.ensures c.name-of_second.ensures in
    record {
      one_to_one = ∥∥₁_map c.args.self.now.one_to_one
          (renaming-after (renamed_by c.args.self.now.pairs.entries) (renamed_by c.insert-2.new.self.entries) (name_of a) (name_of b)
          (λ i. record { maker = maker_of (c.requires.unit i); arity = c.requires.arity i; equality = c.requires.equality i; constructors = [] })
          (λ k e. cc) (λ k e. cc) h);
    }

pub returns-clause-ok : goal.returns-clause-ok
returns-clause-ok c =
    let a = T.Made c.args.first in
    let b = T.Made c.args.second in
    let f : c.insert.new.self.entries ≡ insert_entry eq c.reserve.new.self.entries a c.name-of_second.result = search rules in
    let g : c.insert-2.new.self.entries ≡ insert_entry eq c.insert.new.self.entries b c.name-of_first.result = search rules in
    exchanged-pairs c.args.self.now.pairs.entries c.insert.new.self.entries c.insert-2.new.self.entries a b c.name-of_first.result c.name-of_second.result
    (f ∙ ap (λ es. insert_entry eq es a c.name-of_second.result) c.reserve.ensures.entries) g c.name-of_first.ensures c.name-of_second.ensures
