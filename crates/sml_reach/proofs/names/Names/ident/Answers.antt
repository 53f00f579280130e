use Rattle.std.proofs.Common.{ap, sym, ◌∙◌}
use Rattle.std.proofs.lemmas.Slice.Eq.{bytes_eq-Decides}
use Rattle.sml_reach.proofs.Sharing.{found, after_insert}
use Rattle.sml_reach.proofs.names.Names.ident.Goals as goal

pub returns-in-Some : goal.returns-in-Some
returns-in-Some c =
    ap (λ v. v.items) c.in_ok-clone.ensures.cases
    ∙ found c.args.self.now.idents.entries c.args.text.now c.in-Some.ident.now c.args.self.now.shared c.in-Some.ensures.value

pub invariant_of-self-2 : goal.invariant_of-self-2
invariant_of-self-2 c = record {
  shared = after_insert c.insert.result _ (λ x y. (bytes_eq-Decides x.items y.items).0) c.args.self.now.idents.entries c.insert.new.self.entries c.in_ok-from_slice-2.field-0 c.in_ok-clone-2.field-0 c.insert.ensures.entries c.insert.ensures.err
      (ap (λ v. v.items) (c.in_ok-clone-2.ensures.cases ∙ c.in_ok-ident.ensures.ok) ∙ c.in_ok-from_slice.ensures.items ∙ sym c.in_ok-from_slice-2.ensures.items)
      c.args.self.now.shared;
}
