use Rattle.std.proofs.Common.{subst, refl}
use Rattle.sml_graph.specs.Graphs.{IsSame, Leads}
use Rattle.sml_graph.specs.Changes.{Changes}
use Rattle.sml_graph.proofs.Changing.{changes-then}
use Rattle.sml_graph.proofs.Merging.{Merges-led, Merges-swap, Merges-found, leads-then, same-led, clash-led, clash-swap, on_ok}
use Rattle.sml_graph.proofs.merge.step.Goals as goal

pub returns-then-first-second-clause-merges : goal.returns-then-first-second-clause-merges
returns-then-first-second-clause-merges c =
    let ns = c.args.nodes.now.items in
    let n1 = c.find.new.nodes.items in
    let n2 = c.find-2.new.nodes.items in
    let a = c.in_ok-first.ensures.leads in
    let l : Leads ns n2 = leads-then ns n1 n2 a c.in_ok-second.ensures.leads in
    let s1 : IsSame ns c.args.left c.in_ok-first.first = c.in_ok-first.ensures.same in
    let s2 : IsSame ns c.args.right c.in_ok-second.second = same-led ns n1 c.args.right c.args.right c.in_ok-second.second a (λ w σ m. refl) c.in_ok-second.ensures.same in
    Merges-found ns n2 c.args.pending.now.items c.args.left c.args.right c.in_ok-second.second l c.requires.inside (subst (IsSame ns c.args.left) c.if-first-second.true s1) s2

pub returns-then-first-second-clause-changes : goal.returns-then-first-second-clause-changes
returns-then-first-second-clause-changes c =
    let ns = c.args.nodes.now.items in
    let n1 = c.find.new.nodes.items in
    let n2 = c.find-2.new.nodes.items in
    let a = c.in_ok-first.ensures.leads in
    let l : Leads ns n2 = leads-then ns n1 n2 a c.in_ok-second.ensures.leads in
    let s1 : IsSame ns c.args.left c.in_ok-first.first = c.in_ok-first.ensures.same in
    let s2 : IsSame ns c.args.right c.in_ok-second.second = same-led ns n1 c.args.right c.args.right c.in_ok-second.second a (λ w σ m. refl) c.in_ok-second.ensures.same in
    let both : Changes ns c.args.changed.now.items n2 c.find-2.new.changed.items = changes-then ns n1 n2 c.args.changed.now.items c.find.new.changed.items c.find-2.new.changed.items a.len c.in_ok-first.ensures.changes c.in_ok-second.ensures.changes in
    both

pub returns-then-first-second-2-clause-merges : goal.returns-then-first-second-2-clause-merges
returns-then-first-second-2-clause-merges c =
    let ns = c.args.nodes.now.items in
    let n1 = c.find.new.nodes.items in
    let n2 = c.find-2.new.nodes.items in
    let a = c.in_ok-first.ensures.leads in
    let l : Leads ns n2 = leads-then ns n1 n2 a c.in_ok-second.ensures.leads in
    let s1 : IsSame ns c.args.left c.in_ok-first.first = c.in_ok-first.ensures.same in
    let s2 : IsSame ns c.args.right c.in_ok-second.second = same-led ns n1 c.args.right c.args.right c.in_ok-second.second a (λ w σ m. refl) c.in_ok-second.ensures.same in
    on_ok c.merge.result _ _ c.merge.ensures.merges
    (λ m. Merges-swap _ _ _ _ _ _ (Merges-led ns n2 c.merge.new.nodes.items c.args.pending.now.items c.args.right c.args.left c.in_ok-second.second c.in_ok-first.first _ l m s2 s1))

pub returns-then-first-second-2-clause-changes : goal.returns-then-first-second-2-clause-changes
returns-then-first-second-2-clause-changes c =
    let ns = c.args.nodes.now.items in
    let n1 = c.find.new.nodes.items in
    let n2 = c.find-2.new.nodes.items in
    let a = c.in_ok-first.ensures.leads in
    let l : Leads ns n2 = leads-then ns n1 n2 a c.in_ok-second.ensures.leads in
    let s1 : IsSame ns c.args.left c.in_ok-first.first = c.in_ok-first.ensures.same in
    let s2 : IsSame ns c.args.right c.in_ok-second.second = same-led ns n1 c.args.right c.args.right c.in_ok-second.second a (λ w σ m. refl) c.in_ok-second.ensures.same in
    let both : Changes ns c.args.changed.now.items n2 c.find-2.new.changed.items = changes-then ns n1 n2 c.args.changed.now.items c.find.new.changed.items c.find-2.new.changed.items a.len c.in_ok-first.ensures.changes c.in_ok-second.ensures.changes in
    on_ok c.merge.result _ _ c.merge.ensures.changes
    (λ x. changes-then ns n2 c.merge.new.nodes.items c.args.changed.now.items c.find-2.new.changed.items _ l.len both x)

pub returns-then-first-second-2-clause-clash : goal.returns-then-first-second-2-clause-clash
returns-then-first-second-2-clause-clash c =
    let ns = c.args.nodes.now.items in
    let n1 = c.find.new.nodes.items in
    let n2 = c.find-2.new.nodes.items in
    let a = c.in_ok-first.ensures.leads in
    let l : Leads ns n2 = leads-then ns n1 n2 a c.in_ok-second.ensures.leads in
    let s1 : IsSame ns c.args.left c.in_ok-first.first = c.in_ok-first.ensures.same in
    let s2 : IsSame ns c.args.right c.in_ok-second.second = same-led ns n1 c.args.right c.args.right c.in_ok-second.second a (λ w σ m. refl) c.in_ok-second.ensures.same in
    λ e. clash-swap ns c.args.right c.args.left (clash-led ns n2 c.args.right c.args.left c.in_ok-second.second c.in_ok-first.first l (c.merge.ensures.clash e) s2 s1)

pub returns-else-first-second-2-clause-merges : goal.returns-else-first-second-2-clause-merges
returns-else-first-second-2-clause-merges c =
    let ns = c.args.nodes.now.items in
    let n1 = c.find.new.nodes.items in
    let n2 = c.find-2.new.nodes.items in
    let a = c.in_ok-first.ensures.leads in
    let l : Leads ns n2 = leads-then ns n1 n2 a c.in_ok-second.ensures.leads in
    let s1 : IsSame ns c.args.left c.in_ok-first.first = c.in_ok-first.ensures.same in
    let s2 : IsSame ns c.args.right c.in_ok-second.second = same-led ns n1 c.args.right c.args.right c.in_ok-second.second a (λ w σ m. refl) c.in_ok-second.ensures.same in
    on_ok c.merge-else-first-second-2.result _ _ c.merge-else-first-second-2.ensures.merges
    (λ m. Merges-led ns n2 c.merge-else-first-second-2.new.nodes.items c.args.pending.now.items c.args.left c.args.right c.in_ok-first.first c.in_ok-second.second _ l m s1 s2)

pub returns-else-first-second-2-clause-changes : goal.returns-else-first-second-2-clause-changes
returns-else-first-second-2-clause-changes c =
    let ns = c.args.nodes.now.items in
    let n1 = c.find.new.nodes.items in
    let n2 = c.find-2.new.nodes.items in
    let a = c.in_ok-first.ensures.leads in
    let l : Leads ns n2 = leads-then ns n1 n2 a c.in_ok-second.ensures.leads in
    let s1 : IsSame ns c.args.left c.in_ok-first.first = c.in_ok-first.ensures.same in
    let s2 : IsSame ns c.args.right c.in_ok-second.second = same-led ns n1 c.args.right c.args.right c.in_ok-second.second a (λ w σ m. refl) c.in_ok-second.ensures.same in
    let both : Changes ns c.args.changed.now.items n2 c.find-2.new.changed.items = changes-then ns n1 n2 c.args.changed.now.items c.find.new.changed.items c.find-2.new.changed.items a.len c.in_ok-first.ensures.changes c.in_ok-second.ensures.changes in
    on_ok c.merge-else-first-second-2.result _ _ c.merge-else-first-second-2.ensures.changes
    (λ x. changes-then ns n2 c.merge-else-first-second-2.new.nodes.items c.args.changed.now.items c.find-2.new.changed.items _ l.len both x)

pub returns-else-first-second-2-clause-clash : goal.returns-else-first-second-2-clause-clash
returns-else-first-second-2-clause-clash c =
    let ns = c.args.nodes.now.items in
    let n1 = c.find.new.nodes.items in
    let n2 = c.find-2.new.nodes.items in
    let a = c.in_ok-first.ensures.leads in
    let l : Leads ns n2 = leads-then ns n1 n2 a c.in_ok-second.ensures.leads in
    let s1 : IsSame ns c.args.left c.in_ok-first.first = c.in_ok-first.ensures.same in
    let s2 : IsSame ns c.args.right c.in_ok-second.second = same-led ns n1 c.args.right c.args.right c.in_ok-second.second a (λ w σ m. refl) c.in_ok-second.ensures.same in
    λ e. clash-led ns n2 c.args.left c.args.right c.in_ok-first.first c.in_ok-second.second l (c.merge-else-first-second-2.ensures.clash e) s1 s2
