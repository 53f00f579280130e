use Rattle.std.proofs.Common.{map, take, subst, ap, sym, ◌∙◌, arith}
use Rattle.std.proofs.lemmas.List.{take-map, take-take}
use Rattle.sml_scopes.specs.CodeScopes.{opened_in}
use Rattle.sml_scopes.specs.CodeTables.{bound, bound_at}
use Rattle.sml_scopes.specs.Means.{AreMeant}
use Rattle.sml_scopes.proofs.Meanings.{left-bound, meant-same}
use Rattle.sml_scopes.proofs.scopes.Scopes.leave.Goals as goal

pub returns-clause-left : goal.returns-clause-left
returns-clause-left c = λ C m.
    let s = c.args.self.now in
    let n = c.args.mark in
    let shorter = sym (ap (λ l. map (λ e. e.value) l) c.truncate.ensures.items ∙ sym (take-map (λ e. e.value) n.opened s.opened.items)) in
    subst (λ o. AreMeant s.basis.now o (bound c.leave.new.self) (bound c.leave-2.new.self) (bound c.leave-3.new.self) C) shorter
    (meant-same m.meant
    (left-bound s.values c.leave.new.self n.values m.values_inside c.in_ok-leave.ensures.count c.in_ok-leave.ensures.before)
    (left-bound s.types c.leave-2.new.self n.types m.types_inside c.in_ok-leave-2.ensures.count c.in_ok-leave-2.ensures.before)
    (left-bound s.structures c.leave-3.new.self n.structures m.structures_inside c.in_ok-leave-3.ensures.count c.in_ok-leave-3.ensures.before))

pub returns-clause-around : goal.returns-clause-around
returns-clause-around c = λ C D m d a h.
    let s = c.args.self.now in
    let n = c.args.mark in
    let vs = c.in_ok-leave.ensures.count d.values_inside in
    let ts = c.in_ok-leave-2.ensures.count d.types_inside in
    let ss = c.in_ok-leave-3.ensures.count d.structures_inside in
    let os = c.truncate.ensures.len in
    let inside = d.opened_inside in
    let va = a.values_are in
    let ta = a.types_are in
    let sa = a.structures_are in
    let oa = a.opened_are in
    let shorter = sym (ap (λ l. take m.opened (map (λ e. e.value) l)) c.truncate.ensures.items ∙ ap (take m.opened) (sym (take-map (λ e. e.value) n.opened s.opened.items)) ∙ take-take m.opened n.opened (opened_in s) oa) in
    record {
      values_inside = omega (arith, vs, va);
      types_inside = omega (arith, ts, ta);
      structures_inside = omega (arith, ss, sa);
      opened_inside = omega (arith, os, inside, oa);
      meant = subst (λ o. AreMeant s.basis.now o (bound_at m.values c.leave.new.self) (bound_at m.types c.leave-2.new.self) (bound_at m.structures c.leave-3.new.self) C) shorter
          (meant-same h.meant (c.in_ok-leave.ensures.before m.values va h.values_inside) (c.in_ok-leave-2.ensures.before m.types ta h.types_inside) (c.in_ok-leave-3.ensures.before m.structures sa h.structures_inside));
    }
