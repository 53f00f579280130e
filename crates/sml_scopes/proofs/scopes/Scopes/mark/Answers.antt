use Rattle.std.proofs.Common.{subst, sym, arith}
use Rattle.std.proofs.lemmas.List.{take_all}
use Rattle.sml_scopes.specs.CodeScopes.{opened_in}
use Rattle.sml_scopes.specs.CodeTables.{bound}
use Rattle.sml_scopes.specs.Means.{AreMeant}
use Rattle.sml_scopes.proofs.Meanings.{all-bound, count-opened, meant-same}
use Rattle.sml_scopes.proofs.scopes.Scopes.mark.Goals as goal

pub returns-clause-meant : goal.returns-clause-meant
returns-clause-meant c = λ C m.
    let s = c.args.self.now in
    let vs = c.count.ensures in
    let ts = c.count-2.ensures in
    let ss = c.count-3.ensures in
    let os = c.len.ensures in
    let all = count-opened s c.len.result os in
    record {
      values_inside = omega (arith, vs);
      types_inside = omega (arith, ts);
      structures_inside = omega (arith, ss);
      opened_inside = omega (arith, os);
      meant = meant-same (subst (λ o. AreMeant s.basis.now o (bound s.values) (bound s.types) (bound s.structures) C) (sym (take_all c.len.result (opened_in s) (omega (arith, all)))) m)
          (all-bound s.values c.count.result vs) (all-bound s.types c.count-2.result ts) (all-bound s.structures c.count-3.result ss);
    }
