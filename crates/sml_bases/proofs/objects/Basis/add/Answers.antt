use Rattle.std.proofs.Common.{ap, ◌∙◌}
use Rattle.sml_objects.proofs.Joins.{joined-by}
use Rattle.sml_objects.specs.Views.{entries_of}
use Rattle.sml_bases.specs.Views.{fun_sig_of, sig_of}
use Rattle.sml_bases.specs.declared.objects.Basis.TheViews.{out-Basis, out-roll-Basis}
use Rattle.sml_bases.proofs.objects.Basis.add.Goals as goal

pub returns-clause-signatures : goal.returns-clause-signatures
returns-clause-signatures c =
    ap (λ b. entries_of (λ s. sig_of s.value) b.signatures.entries) (out-roll-Basis _)
    ∙ joined-by sig_of (out-Basis c.args.self.now).signatures.entries (out-Basis c.args.other.now).signatures.entries c.put_shared.new.map.entries c.in_ok-put_shared.ensures

pub returns-clause-functors : goal.returns-clause-functors
returns-clause-functors c =
    ap (λ b. entries_of (λ f. fun_sig_of f.value) b.functors.entries) (out-roll-Basis _)
    ∙ joined-by fun_sig_of (out-Basis c.args.self.now).functors.entries (out-Basis c.args.other.now).functors.entries c.put_shared-2.new.map.entries c.in_ok-put_shared-2.ensures
